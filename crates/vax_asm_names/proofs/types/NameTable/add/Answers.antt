use Rattle.vax_asm_names.specs.Content.{names_in}
use Rattle.vax_asm_names.specs.View.{names_of}
use Rattle.vax_asm_names.proofs.Undoing.{added_keeps, block_in_range, dropped, is_sound, numbers_in_range}
use Rattle.vax_asm_names.proofs.types.NameTable.add.Goals as goal

pub invariant_of-self : goal.invariant_of-self
invariant_of-self c =
    let old = c.args.self.now in
    let new = c.add.new.self in
    let sound = c.in-Err.ensures.sound (is_sound old.content old.in_range old.in_block) in
    record {
      in_range = numbers_in_range new sound;
      in_block = block_in_range new sound;
      sound_at_mark = λ m e. dropped c.unmark.new.self (names_in new) m c.unmark.ensures e;
    }

pub invariant_of-self-in_default : goal.invariant_of-self-in_default
invariant_of-self-in_default c =
    let old = c.args.self.now in
    let new = c.add.new.self in
    let sound = c.in_default.ensures.sound (is_sound old.content old.in_range old.in_block) in
    record {
      in_range = numbers_in_range new sound;
      in_block = block_in_range new sound;
      sound_at_mark = λ m e.
          old.sound_at_mark m (added_keeps old.journal c.note_added.new.journal c.args.text.now c.args.definition (names_of old) (names_in new) m c.note_added.ensures.noted c.note_added.ensures.fresh c.in_default.ensures.names e);
    }

pub returns-clause-mark : goal.returns-clause-mark
returns-clause-mark c = λ m e.
    let old = c.args.self.now in
    added_keeps old.journal c.note_added.new.journal c.args.text.now c.args.definition (names_of old) (names_in c.add.new.self) m c.note_added.ensures.noted c.note_added.ensures.fresh c.in_default.ensures.names e
