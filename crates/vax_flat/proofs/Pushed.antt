-- Longwords that are pushed stand in memory, one above the other.
use Rattle.std.proofs.Common.{◌≡◌, ℕ, ◌+◌, ◌-◌, ◌*◌, ◌/◌, ◌%◌, ◌^◌, ◌<◌, ◌≤◌, Bool, true, false, List, [], ◌∷◌, ◌++◌, length, map, ap, sym, subst, ◌∙◌, arith, append_assoc}
use Rattle.std.specs.Prelude.{reverse}
use Rattle.std.proofs.lemmas.List.{reverse-append, append-nil, length-set}
use Rattle.vax_space.specs.declared.Access.TheVariants.{Write}
use Rattle.vax_space.specs.declared.Area.{Area}
use Rattle.vax_space.specs.Reference.{violation}
use Rattle.vax_word.specs.declared.Psl.{Psl}
use Rattle.vax_flat.specs.declared.Flow.TheVariants as flow
use Rattle.vax_flat.specs.Memory.{written, IsWhole}
use Rattle.vax_flat.specs.State.{State, register, with_register, mode}
use Rattle.vax_flat.specs.Accesses.{Accesses, Leaf, Went}
use Rattle.vax_flat.specs.Outcome.{Outcome, Ends, outcome_of}
use Rattle.vax_flat.specs.Operand.{plus, write_at}
use Rattle.vax_flat.specs.Call.{pushed_one, pushed_below, linked, frame, frame_word, at_procedure, entered}
use Rattle.vax_flat.specs.Step.{leaf}
use Rattle.vax_flat.specs.Returned.{AreThere}
use Rattle.vax_flat.proofs.Longwords.{allowed, there_more}
use Rattle.vax_flat.proofs.Frames.{few_framed}
use Rattle.vax_flat.proofs.Returned.{set_register}
use Rattle.vax_flat.proofs.Memory.{whole_written}

abbrev pub AreLongwords : List ℕ → Type 0
AreLongwords [] = Unit {0}
AreLongwords (x ∷ xs) = (x < 2 ^ 32) × AreLongwords xs

-- values that were pushed stand in memory where what comes next begins
record IsPushed (s : State) (values : List ℕ) (next : ℕ → State → Accesses Leaf) (outcome : Outcome Leaf) : Type 0 where
  after_all : List Area
  bottom : ℕ
  goes_on : outcome_of (next bottom s) after_all ≡ outcome
  there : AreThere after_all (mode s) bottom values

pushed_there : (xs ys : List ℕ) (top : ℕ) (s : State) (next : ℕ → State → Accesses Leaf) (memory : List Area) (x : Leaf) (end : List Area) → IsWhole memory → AreLongwords xs → top < 2 ^ 32 → 4 * (length xs + length ys) ≤ 2 ^ 32 → AreThere memory (mode s) top ys →
    outcome_of (pushed_below xs top s next) memory ≡ Ends x end → IsPushed s (reverse xs ++ ys) next (Ends x end)
unfolding pushed_below pushed_one write_at outcome_of
pushed_there [] ys top s next memory x end whole fit small few t e = record { after_all = memory; bottom = top; goes_on = e; there = t }
pushed_there (v ∷ vs) ys top s next memory x end whole fit small few t e =
    let a = plus top (2 ^ 32 - 4) in
    let h = allowed (violation memory a 4 (mode s) Write) (outcome_of (pushed_below vs a s next) (written memory a 4 v)) x end e in
    let above : top ≡ plus a 4 = omega arith in
    let t4 : AreThere memory (mode s) (plus a 4) ys = subst (λ b. AreThere memory (mode s) b ys) above t in
    let first = there_more memory (mode s) a v whole (omega arith) h.0 ys fit.0 (omega arith) t4 in
    let rest = pushed_there vs (v ∷ ys) a s next (written memory a 4 v) x end (whole_written memory a 4 v whole) fit.1 (omega arith) (omega arith) first h.1 in
    let turned : reverse vs ++ v ∷ ys ≡ reverse (v ∷ vs) ++ ys =
    sym (append_assoc (reverse vs) (v ∷ []) ys) ∙ ap (λ l. l ++ ys) (sym (reverse-append (v ∷ []) vs)) in
    record { after_all = rest.after_all; bottom = rest.bottom; goes_on = rest.goes_on; there = subst (AreThere rest.after_all (mode s) rest.bottom) turned rest.there }

-- the longwords of a frame are longwords

longwords_of : (s : State) (ns ws : List ℕ) → ((n : ℕ) → register s n < 2 ^ 32) → AreLongwords ws → AreLongwords (map (register s) ns ++ ws)
longwords_of s [] ws below w = w
longwords_of s (n ∷ ns) ws below w = (below n, longwords_of s ns ws below w)

word_fits : (offset mask : ℕ) (on_stack : Bool) (psl : Psl) → offset < 4 → frame_word offset on_stack mask psl < 2 ^ 32
unfolding frame_word
word_fits offset mask true psl h = omega arith
word_fits offset mask false psl h = omega arith

frame_fits : (s : State) (mask word : ℕ) → ((n : ℕ) → register s n < 2 ^ 32) → word < 2 ^ 32 → AreLongwords (frame mask word s)
unfolding frame
frame_fits s mask word below h = longwords_of s (reverse (linked mask)) (word ∷ 0 ∷ []) below (h, (omega arith, tt))

-- FP has the address of the frame's last longword
fp_is : (procedure mask arguments bottom : ℕ) (s : State) → length s.core.regs ≡ 16 → register (at_procedure procedure mask arguments bottom s) 13 ≡ bottom
unfolding at_procedure
fp_is procedure mask arguments bottom s full =
    let a = with_register s 12 arguments in
    let b = with_register a 13 bottom in
    let d = with_register b 14 bottom in
    let full_a : length a.core.regs ≡ 16 = length-set s.core.regs 12 arguments ∙ full in
    let full_b : length b.core.regs ≡ 16 = length-set a.core.regs 13 bottom ∙ full_a in
    let full_d : length d.core.regs ≡ 16 = length-set b.core.regs 14 bottom ∙ full_b in
    set_register d 13 15 (plus procedure 2) full_d (omega arith) ∙ set_register b 13 14 bottom full_b (omega arith) ∙ set_register a 13 13 bottom full_a (omega arith)

pub frame_there : (memory end : List Area) (procedure mask arguments top : ℕ) (on_stack : Bool) (s t : State) → IsWhole memory → length s.core.regs ≡ 16 → ((n : ℕ) → register s n < 2 ^ 32) → top < 2 ^ 32 →
    outcome_of (entered procedure mask arguments top on_stack s leaf) memory ≡ Ends (Went flow.Done t) end →
    AreThere end (mode s) (register t 13) (reverse (frame mask (frame_word (top % 4) on_stack mask s.core.psl) s))
unfolding entered outcome_of
frame_there memory end procedure mask arguments top on_stack s t whole full below small e =
    let word = frame_word (top % 4) on_stack mask s.core.psl in
    let xs = frame mask word s in
    let few = few_framed mask word s in
    let p = pushed_there xs [] (top / 4 * 4) s _ memory (Went flow.Done t) end whole (frame_fits s mask word below (word_fits (top % 4) mask on_stack s.core.psl (omega arith))) (omega arith) (omega arith) tt e in
    let same_memory : p.after_all ≡ end = let g = p.goes_on in cc in
    let same_state : at_procedure procedure mask arguments p.bottom s ≡ t = let g = p.goes_on in cc in
    let fp : p.bottom ≡ register t 13 = sym (fp_is procedure mask arguments p.bottom s full) ∙ ap (λ u. register u 13) same_state in
    let there : AreThere p.after_all (mode s) p.bottom (reverse xs) = subst (AreThere p.after_all (mode s) p.bottom) (append-nil (reverse xs)) p.there in
    subst (λ b. AreThere end (mode s) b (reverse xs)) fp (subst (λ after. AreThere after (mode s) p.bottom (reverse xs)) same_memory there)
