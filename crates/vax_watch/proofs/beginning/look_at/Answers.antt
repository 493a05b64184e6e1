use Rattle.vax_flat.specs.Parts.{machine_at}
use Rattle.vax_pager.specs.Meaning.{pages}
use Rattle.vax_machine.specs.Meaning.{engine}
use Rattle.vax_watch.proofs.Making.{looked_by}
use Rattle.vax_watch.proofs.Stepping.{byte_is}
use Rattle.vax_watch.proofs.Watching.{looked_then}
use Rattle.vax_watch.proofs.beginning.look_at.Goals as goal

pub returns-clause-shows : goal.returns-clause-shows
returns-clause-shows g c = λ place means.
    let m = engine c.args.machine.now in
    let file = g.F.PageFile.contents c.args.file.now in
    let a = byte_is (pages m.pager) file (machine_at place).memory c.args.address c.in_ok-byte.byte means.memory c.in_ok-byte.ensures.none c.in_ok-byte.ensures.byte in
    let b = c.in_ok-instruction.ensures.shows place (c.peek.ensures.means place means) in
    λ i. record { byte = a i; instruction = b i }

pub returns-clause-looked : goal.returns-clause-looked
returns-clause-looked g c =
    looked_then _ _ _ _ _ _ (looked_by _ _ _ _ c.peek.ensures.cpu c.peek.ensures.keeps c.peek.ensures.same c.peek.ensures.means c.peek.ensures.reads) c.instruction_if.ensures.looked

pub returns-in_err-instruction-clause-looked : goal.returns-in_err-instruction-clause-looked
returns-in_err-instruction-clause-looked g c =
    looked_then _ _ _ _ _ _ (looked_by _ _ _ _ c.peek.ensures.cpu c.peek.ensures.keeps c.peek.ensures.same c.peek.ensures.means c.peek.ensures.reads) c.instruction_if.ensures.looked
