use Rattle.std.proofs.Common.{◌≡◌, ℕ, List, sym, subst, true}
use Rattle.std.proofs.lemmas.List.{length-map}
use Rattle.vax_asm_values.specs.View.{lists_in}
use Rattle.vax_asm_values.specs.Waiting.{listed, waiters}
use Rattle.vax_asm_values.proofs.Stepping.{one_waits, wait_added}
use Rattle.vax_asm_values.proofs.board.add_waiting.Goals as goal

pub returns-clause-grown : goal.returns-clause-grown
returns-clause-grown c = λ k j l.
    let P : List (List ℕ) → Type 0 = λ ls. listed j (waiters ls k) ≡ true in
    let new = wait_added c.args.waiting.now.items c.args.other c.index_mut.result.now c.add_last.new.list c.args.number c.requires c.index_mut.ensures.value c.in_ok-add_last.ensures in
    subst P (sym new) ((one_waits (lists_in c.args.waiting.now) c.args.other c.args.number (rw (length-map c.args.waiting.now.items (λ w. w.items)) c.requires)).0 k j l)

pub returns-clause-listed : goal.returns-clause-listed
returns-clause-listed c =
    let P : List (List ℕ) → Type 0 = λ ls. listed c.args.number (waiters ls c.args.other) ≡ true in
    let new = wait_added c.args.waiting.now.items c.args.other c.index_mut.result.now c.add_last.new.list c.args.number c.requires c.index_mut.ensures.value c.in_ok-add_last.ensures in
    subst P (sym new) (one_waits (lists_in c.args.waiting.now) c.args.other c.args.number (rw (length-map c.args.waiting.now.items (λ w. w.items)) c.requires)).1
