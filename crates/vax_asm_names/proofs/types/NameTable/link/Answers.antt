use Rattle.std.proofs.Common.{arith}
use Rattle.std.proofs.lemmas.List.{length-set}
use Rattle.vax_asm_names.specs.View.{names_of}
use Rattle.vax_asm_names.proofs.Changing.{one_is_linked}
use Rattle.vax_asm_names.proofs.Undoing.{change_keeps}
use Rattle.vax_asm_names.proofs.types.NameTable.link.Goals as goal

pub returns-clause-names : goal.returns-clause-names
returns-clause-names c = one_is_linked c.args.linkage (names_of c.args.self.now) c.args.self.now.content.names.items c.args.number c.index_mut.result.now c.link.new.self c.requires c.index_mut.ensures.value c.link.ensures.name

pub returns-clause-mark : goal.returns-clause-mark
returns-clause-mark c = λ m e.
    let old = c.args.self.now in
    change_keeps old.journal c.note_change.new.journal (names_of old) m c.deref.result.now old.content.names.items c.args.number c.index_mut.result.now c.link.new.self c.requires c.index_mut.ensures.value c.link.ensures.text c.deref.ensures.value c.note_change.ensures e

pub invariant_of-self : goal.invariant_of-self
invariant_of-self c =
    let old = c.args.self.now in
    record {
      in_range = λ text i e. omega (arith, old.in_range text i e, length-set old.content.names.items c.args.number c.link.new.self);
      in_block = old.in_block;
      sound_at_mark = λ m e.
          old.sound_at_mark m
          (change_keeps old.journal c.note_change.new.journal (names_of old) m c.deref.result.now old.content.names.items c.args.number c.index_mut.result.now c.link.new.self c.requires c.index_mut.ensures.value c.link.ensures.text c.deref.ensures.value c.note_change.ensures e);
    }
