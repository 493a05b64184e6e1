use Rattle.std.proofs.Common.{◌≡◌, Bool, None, Ok, Option, ap, false, refl, rules, subst, sym, true}
use Rattle.vax_outside.specs.Blocks.{BlockFile}
use Rattle.vax_pager.specs.Poking.{Pokes, WritesBlocks}
use Rattle.vax_pager.proofs.Marking.{no_writes}
use Rattle.vax_pager.specs.Meaning.{pages}
use Rattle.vax_machine.specs.Machine.{keeping}
use Rattle.vax_pager.proofs.Told.{space_is}
use Rattle.vax_machine.proofs.Bringing.{brought_ok, deposit_cut}
use Rattle.vax_machine.proofs.Depositing.{bytes_deposited, brought_in_part}
use Rattle.vax_machine.proofs.engine.Engine.poke.Goals as goal

pub returns-in-Ok-false-clause-writes : goal.returns-in-Ok-false-clause-writes
returns-in-Ok-false-clause-writes g c =
    let refused : c.in-Ok-false.field-0 ≡ false = search rules in
    let same = (c.in-Ok-false.ensures.refused refused).1 in
    subst (λ (z : Option BlockFile). WritesBlocks (keeping c.args.self.now).areas (g.F.PageFile.contents c.args.file.now) z) (sym (ap g.F.PageFile.contents same)) (no_writes _ _)

pub returns-in-Ok-true-clause-brings : goal.returns-in-Ok-true-clause-brings
returns-in-Ok-true-clause-brings g c =
    brought_ok c.in-Ok-true.field-0 c.args.addr c.args.bytes.now (pages c.args.self.now.pager) (pages c.poke.new.self) _ _ (search rules) c.in-Ok-true.ensures.pokes

pub returns-in-Err-clause-brings : goal.returns-in-Err-clause-brings
returns-in-Err-clause-brings g c = let h = c.in-Err.ensures.pokes in deposit_cut _ (pages c.args.self.now.pager) h.mid (pages c.poke.new.self) _ _ h.brings h.then

pub returns-in-Ok-true-clause-paged : goal.returns-in-Ok-true-clause-paged
returns-in-Ok-true-clause-paged g c =
    let said : c.in-Ok-true.field-0 ≡ true = search rules in
    let k = subst (λ (b : Bool). Pokes (Ok b) c.args.addr c.args.bytes.now (pages c.args.self.now.pager) (g.F.PageFile.contents c.args.file.now) (pages c.poke.new.self) (g.F.PageFile.contents c.poke.new.file)) said c.in-Ok-true.ensures.pokes in
    bytes_deposited c.args.self.now (record c.args.self.now { pager = c.poke.new.self; wanted = None }) _ _ c.args.addr c.args.bytes.now (space_is c.args.self.now.pager) k refl refl refl refl

pub returns-in-Err-clause-paged : goal.returns-in-Err-clause-paged
returns-in-Err-clause-paged g c =
    brought_in_part c.args.self.now (record c.args.self.now { pager = c.poke.new.self; wanted = None }) _ _ c.args.addr c.args.bytes.now (space_is c.args.self.now.pager) c.in-Err.ensures.pokes
