use Rattle.std.proofs.Common.{◌≡◌, ◌++◌, map, drop}
use Rattle.vax_macro.specs.Templates.{rewritten_from}
use Rattle.vax_macro.proofs.templates.rewritten.Given as goal

abbrev pub invariant-loop-slot : goal.invariant-loop-slot
invariant-loop-slot l = l.made.items ++ rewritten_from (map (λ t. t.items) l.texts) l.line.text.items l.at (drop l.slot-index l.line.slots.items)
    ≡ rewritten_from (map (λ t. t.items) l.texts) l.line.text.items 0 l.line.slots.items
