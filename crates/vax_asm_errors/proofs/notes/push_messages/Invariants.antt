use Rattle.std.proofs.Common.{◌≡◌, ◌++◌, drop}
use Rattle.std.specs.List.{flat_map}
use Rattle.vax_asm_errors.specs.Notes.{note}
use Rattle.vax_prelude.specs.View.{title_seen}
use Rattle.vax_asm_errors.proofs.notes.push_messages.Given as goal

abbrev pub invariant-loop-one : goal.invariant-loop-one
invariant-loop-one l =
    l.out.items ++ flat_map (note (title_seen l.source.title) l.source.text.now) (drop l.one-index l.all) ≡ l.fn.out.items ++ flat_map (note (title_seen l.source.title) l.source.text.now) l.all
