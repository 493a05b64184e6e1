use Rattle.std.proofs.Common.{refl, false}
use Rattle.vax_asm_names.specs.Content.{names_in}
use Rattle.vax_asm_names.specs.View.{names_of}
use Rattle.vax_asm_names.proofs.Undoing.{block_in_range, dropped, numbers_in_range, undone_is}
use Rattle.vax_asm_names.proofs.types.NameTable.go_back.Goals as goal

pub invariant_of-self : goal.invariant_of-self
invariant_of-self c =
    let old = c.args.self.now in
    let new = c.undo_all.new.self in
    let sound = old.sound_at_mark (names_in new) (undone_is old.journal (names_of old) (names_in new) c.if-not-self.false c.undo_all.ensures) in
    record {
      in_range = numbers_in_range new sound;
      in_block = block_in_range new sound;
      sound_at_mark = λ m e. dropped (record { marked = false; steps = c.undo_all.new.steps }) (names_in new) m refl e;
    }

pub returns-clause-back : goal.returns-clause-back
returns-clause-back c = λ yes.
    let old = c.args.self.now in
    undone_is old.journal (names_of old) (names_in c.undo_all.new.self) c.if-not-self.false c.undo_all.ensures
