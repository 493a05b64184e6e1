use Rattle.vax_asm_names.specs.View.{names_of}
use Rattle.vax_asm_names.proofs.Undoing.{is_sound, marked_here, sound_here}
use Rattle.vax_asm_names.proofs.types.NameTable.mark.Goals as goal

pub invariant_of-self-clause-sound_at_mark : goal.invariant_of-self-clause-sound_at_mark
invariant_of-self-clause-sound_at_mark c =
    let t = c.args.self.now in
    sound_here c.mark.new.self (names_of t) c.mark.ensures.marked c.mark.ensures.empty (is_sound t.content t.in_range t.in_block)

pub returns-clause-marked : goal.returns-clause-marked
returns-clause-marked c = marked_here c.mark.new.self (names_of c.args.self.now) c.mark.ensures.marked c.mark.ensures.empty
