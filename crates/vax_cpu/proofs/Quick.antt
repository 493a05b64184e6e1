-- Steps that were made at once, as attempts.
use Rattle.std.proofs.Common.{◌≡◌, ℕ, zero, suc, ◌+◌, None, refl, sym, ap, subst, ◌∙◌, arith}
use Rattle.vax_flat.specs.State.{State, with_sent}
use Rattle.vax_flat.specs.OverPort.{Present}
use Rattle.vax_flat.specs.Parts.{part_step}
use Rattle.vax_undo.specs.declared.term.Term.{Term}
use Rattle.vax_undo.specs.Transaction.{state_of}
use Rattle.vax_cpu.specs.declared.attempt.Tried.TheVariants as tried
use Rattle.vax_cpu.specs.Tried.{IsTried}
use Rattle.vax_cpu.specs.Batch.{Ran}
use Rattle.vax_cpu.proofs.Attempts.{ran_more}
use Rattle.vax_quick.specs.Made.{Computer, MakesSteps}

unsent_is : (s : State) → s.sent ≡ None → s ≡ with_sent s None
unsent_is s e = λ k. record { core = s.core; input = s.input; taken = s.taken; sent = e k }

-- a computer with its console
abbrev with_console : Computer → Term → Present
with_console old term = record { state = state_of old.core term; view = old.view }

pub ran_quick : (count : ℕ) (old new : Computer) (term : Term) → term.out ≡ None → MakesSteps count old new → Ran count (with_console old term) (with_console new term)
ran_quick zero old new term unsent made = ap (λ (c : Computer). with_console c term) made
ran_quick (suc count) old new term unsent made =
    let state = state_of new.core term in
    let one = made.2.made term.input.items term.place term.out in
    (with_console made.0 term, ran_quick count old made.0 term unsent made.1, (state, one, unsent_is state unsent, sym unsent), refl)

-- steps after steps
pub ran_append : (n m : ℕ) (a b c : Present) → Ran n a b → Ran m b c → Ran (n + m) a c
ran_append n zero a b c first second =
    let z : n + 0 ≡ n = omega arith in
    rw z (subst (λ (p : Present). Ran n a p) (sym second) first)
ran_append n (suc m) a b c first second =
    let z : n + suc m ≡ suc (n + m) = omega arith in
    rw z (second.0, ran_append n m a b second.0 first second.1, second.2, second.3)

-- they leave the console's input
pub ran_input : (n : ℕ) (a b : Present) → Ran n a b → b.state.input ≡ a.state.input
ran_input zero a b ran = ap (λ (p : Present). p.state.input) ran
ran_input (suc n) a b ran = ran.3 ∙ ran_input n a ran.0 ran.1

-- and one more behind them
pub ran_on : (n m : ℕ) (a b mid c : Present) → Ran n a b → Ran m b mid → IsTried part_step mid (tried.Step None) c → c.state.input ≡ b.state.input → Ran (n + m + 1) a c
ran_on n m a b mid c first second one input =
    ran_more (n + m) a mid c (ran_append n m a b mid first second) one (input ∙ sym (ran_input m b mid second))
