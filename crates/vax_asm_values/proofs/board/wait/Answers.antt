use Rattle.std.proofs.Common.{sym, subst, length}
use Rattle.vax_asm_values.specs.View.{source_of, lists_in}
use Rattle.vax_asm_values.specs.Values.{Means}
use Rattle.vax_asm_values.specs.Waiting.{Watches}
use Rattle.vax_asm_values.specs.declared.types.Source.{Source}
use Rattle.vax_asm_values.proofs.Seen.{means_each, waits_each}
use Rattle.vax_asm_values.proofs.board.wait.Goals as goal

pub wait_for_all-requires : goal.wait_for_all-requires
wait_for_all-requires c =
    let P : Source → Type 0 = λ s. Means (length c.args.waiting.now.items) (source_of s) in
    rw c.deref.ensures.value (means_each (length c.args.waiting.now.items) c.in-Worked.expression.names.items (subst P c.in-Worked.is c.requires))

pub returns-in_ok-wait_for_all-in-Worked-clause-watches : goal.returns-in_ok-wait_for_all-in-Worked-clause-watches
returns-in_ok-wait_for_all-in-Worked-clause-watches c =
    let P : Source → Type 0 = λ s. Watches (lists_in c.wait_for_all.new.waiting) c.args.number (source_of s) in
    subst P (sym c.in-Worked.is) (waits_each c.args.number (lists_in c.wait_for_all.new.waiting) c.in-Worked.expression.names.items (rw c.deref.ensures.value at c.in_ok-wait_for_all-in-Worked.ensures.listed))
