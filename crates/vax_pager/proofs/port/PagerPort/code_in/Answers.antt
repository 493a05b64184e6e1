use Rattle.vax_pager.proofs.Keeping.{code_loaded, lies_since}
use Rattle.vax_pager.proofs.Views.{are_bytes}
use Rattle.vax_pager.proofs.port.PagerPort.code_in.Goals as goal

pub returns-clause-answer : goal.returns-clause-answer
returns-clause-answer c =
    let lies = c.requires.lies in
    code_loaded c.args.self.now.store c.args.page c.args.place c.args.mode c.args.frame _ c.requires.within (lies_since lies.0 c.args.self.now c.args.frame c.args.page c.args.mode lies.1.0 lies.1.1) c.code_in.ensures

pub returns-clause-bytes : goal.returns-clause-bytes
returns-clause-bytes c = are_bytes c.args.self.now.store c.args.self.now.sound
