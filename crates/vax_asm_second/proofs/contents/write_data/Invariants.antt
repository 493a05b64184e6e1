use Rattle.std.proofs.Common.{◌≡◌, ◌++◌, ◌-◌}
use Rattle.std.specs.List.{repeat}
use Rattle.vax_asm_second.specs.Contents.{item_in}
use Rattle.vax_asm_second.proofs.contents.write_data.Given as goal

abbrev pub invariant-loop : goal.invariant-loop
invariant-loop l =
    l.out.items ++ repeat (l.count - l.counter) (item_in l.fn.kind l.fn.number) ≡ l.fn.out.items ++ repeat l.fn.count (item_in l.fn.kind l.fn.number)
