use Rattle.std.proofs.Common.{◌∷◌, List, rules, ap, map, length, arith}
use Rattle.vax_asm_names.specs.ByName.{by_name}
use Rattle.vax_asm_names.specs.Names.{Names}
use Rattle.vax_asm_names.specs.View.{names_of}
use Rattle.vax_asm_names.proofs.Changing.{Block}
use Rattle.vax_asm_names.proofs.Undoing.{block_keeps, same_marked}
use Rattle.vax_asm_names.proofs.types.NameTable.begin_block.Goals as goal

pub invariant_of-self : goal.invariant_of-self
invariant_of-self c =
    let old = c.args.self.now in
    let n : Names = names_of old in
    let kept = c.in_err-add_block.ensures.kept in
    record {
      in_range = old.in_range;
      in_block = omega (arith, old.in_block, ap length kept);
      sound_at_mark = λ m e.
          old.sound_at_mark m (same_marked old.journal n _ m (ap (λ (l : List Block). record n { blocks = by_name old.content.masks ∷ by_name old.content.first_block ∷ map by_name l }) kept) e);
    }

pub invariant_of-self-2 : goal.invariant_of-self-2
invariant_of-self-2 c =
    let old = c.args.self.now in
    record {
      in_range = old.in_range;
      in_block = search rules;
      sound_at_mark = λ m e.
          old.sound_at_mark m
          (block_keeps old.journal c.note.new.self (names_of old) m (by_name old.content.masks) (by_name old.content.first_block) (map by_name old.content.further_blocks.items) (map by_name c.add_block.new.blocks.items) _
          c.note.ensures c.in_ok-add_block.ensures.blocks e);
    }

pub returns-clause-mark : goal.returns-clause-mark
returns-clause-mark c = λ m e.
    let old = c.args.self.now in
    block_keeps old.journal c.note.new.self (names_of old) m (by_name old.content.masks) (by_name old.content.first_block) (map by_name old.content.further_blocks.items) (map by_name c.add_block.new.blocks.items) _ c.note.ensures
    c.in_ok-add_block.ensures.blocks e
