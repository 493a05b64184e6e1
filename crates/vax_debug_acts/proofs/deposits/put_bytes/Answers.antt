use Rattle.std.proofs.Common.{◌≡◌, ◌∙◌, ℕ, List, subst}
use Rattle.vax_machine.specs.Meaning.{engine}
use Rattle.vax_console.specs.Ends.{scene}
use Rattle.std.specs.Prelude.{take}
use Rattle.vax_debug_acts.specs.Acting.{ActsFrom}
use Rattle.vax_debug_acts.specs.Acts.{number_bytes, put_act}
use Rattle.vax_debug_acts.proofs.deposits.put_bytes.Goals as goal

pub returns-clause-acts : goal.returns-clause-acts
returns-clause-acts g c = λ limits.
    let is : c.first.result.now ≡ number_bytes c.args.size c.args.number = c.first.ensures.exact ∙ (λ i. take (c.width.ensures.exact i) (c.to_le_bytes-bytes.ensures i)) in
    subst (λ (z : List ℕ). ActsFrom (scene (engine c.args.machine.now) (g.F.PageFile.contents c.args.file.now) (g.K.Sink.contents c.args.sink.now)) (scene (engine c.put.new.machine) (g.F.PageFile.contents c.put.new.file) (g.K.Sink.contents c.put.new.sink)) c.put.result limits (put_act c.args.address z)) is (c.put.ensures.acts limits)
