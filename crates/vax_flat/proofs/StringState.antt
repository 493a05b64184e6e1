-- The registers between the parts of a string instruction.
use Rattle.std.proofs.Common.{ℕ, ◌≡◌, ◌+◌, ◌-◌, ◌*◌, ◌/◌, ◌%◌, ◌^◌, ◌<◌, List, [], ◌∷◌, length, slice_index, refl, sym, ap, ◌∙◌, arith}
use Rattle.vax_word.specs.declared.Psl.{Psl}
use Rattle.vax_word.specs.declared.Codes.{Codes}
use Rattle.vax_strpart.specs.declared.packing.Progress.{Progress}
use Rattle.vax_strpart.specs.declared.packing.Layout.{Layout}
use Rattle.vax_strpart.specs.declared.packing.Layout.TheVariants.{Moves, Compares, Searches, Scans, Translates}
use Rattle.vax_strpart.specs.Packing.{layout_of, packed, packed_as, unpacked, unpacked_as, IsProper}
use Rattle.vax_strpart.proofs.PackingLaws.{unpacked-packed}
use Rattle.vax_flat.specs.State.{State, with_conditions, mode}
use Rattle.vax_flat.specs.StringOperands.{sixteen as sixteen_of}
use Rattle.vax_flat.specs.String.{low_registers, with_low, left, continued, suspended, IsReady}

-- a list of sixteen
pub data Sixteen : List ℕ → Type 0 where
  sixteen : (a b c d e f g h i j k l m n o p : ℕ) → Sixteen (a ∷ b ∷ c ∷ d ∷ e ∷ f ∷ g ∷ h ∷ i ∷ j ∷ k ∷ l ∷ m ∷ n ∷ o ∷ p ∷ [])

pub is_sixteen : (xs : List ℕ) → length xs ≡ 16 → Sixteen xs
is_sixteen (a ∷ b ∷ c ∷ d ∷ e ∷ f ∷ g ∷ h ∷ i ∷ j ∷ k ∷ l ∷ m ∷ n ∷ o ∷ p ∷ []) q = sixteen a b c d e f g h i j k l m n o p
is_sixteen (a ∷ b ∷ c ∷ d ∷ e ∷ f ∷ g ∷ h ∷ i ∷ j ∷ k ∷ l ∷ m ∷ n ∷ o ∷ p ∷ x ∷ xs) q = absurd (omega arith)
is_sixteen xs q = absurd (omega arith)

by_sixteen : (regs : List ℕ) → Sixteen regs → sixteen_of regs ≡ regs
unfolding sixteen_of
by_sixteen regs (sixteen a b c d e f g h i j k l m n o p) = refl

-- a core's registers are its sixteen
pub sixteen_is : (regs : List ℕ) → length regs ≡ 16 → sixteen_of regs ≡ regs
sixteen_is regs full = by_sixteen regs (is_sixteen regs full)

-- a state with these registers and this status
abbrev with : State → List ℕ → Psl → State
with s regs psl = record s { core = record s.core { regs = regs; psl = psl } }

abbrev pub six : List ℕ → List ℕ
six xs = slice_index xs 0 ∷ slice_index xs 1 ∷ slice_index xs 2 ∷ slice_index xs 3 ∷ slice_index xs 4 ∷ slice_index xs 5 ∷ []

twice : (s : State) (regs xs ys : List ℕ) (psl : Psl) → Sixteen regs → with_low ys (with_low xs (with s regs psl)) ≡ with_low ys (with s regs psl)
unfolding with_low
twice s regs xs ys psl (sixteen a b c d e f g h i j k l m n o p) = refl

-- the registers that are set last count
pub low_twice : (s : State) (xs ys : List ℕ) → length s.core.regs ≡ 16 → with_low ys (with_low xs s) ≡ with_low ys s
low_twice s xs ys full = twice s s.core.regs xs ys s.core.psl (is_sixteen s.core.regs full)

low : (s : State) (regs xs : List ℕ) (psl : Psl) → Sixteen regs → low_registers (with_low xs (with s regs psl)) ≡ six xs
unfolding with_low low_registers
low s regs xs psl (sixteen a b c d e f g h i j k l m n o p) = refl

pub low_set : (s : State) (xs : List ℕ) → length s.core.regs ≡ 16 → low_registers (with_low xs s) ≡ six xs
low_set s xs full = low s s.core.regs xs s.core.psl (is_sixteen s.core.regs full)

pub mode_low : (s : State) (xs : List ℕ) → mode (with_low xs s) ≡ mode s
unfolding with_low
mode_low s xs = refl

pub conditions_low : (s : State) (xs ys : List ℕ) (codes : Codes) → length s.core.regs ≡ 16 → with_low ys (with_conditions (with_low xs s) codes) ≡ with_low ys (with_conditions s codes)
unfolding with_low
conditions_low s xs ys codes full = twice s s.core.regs xs ys (with_conditions s codes).core.psl (is_sixteen s.core.regs full)

goes_on : (s : State) (regs xs : List ℕ) (psl : Psl) (delta : ℕ) → Sixteen regs → slice_index regs 15 < 2 ^ 32 → psl.0 / 2 ^ 27 % 2 ≡ 0 → delta < 256 → continued delta (left delta (with_low xs (with s regs psl))) ≡ with_low xs (with s regs psl)
unfolding with_low left continued
goes_on s regs xs psl delta (sixteen a b c d e f g h i j k l m n o p) pc clear short =
    let back : ((p + (2 ^ 32 - delta)) % 2 ^ 32 + delta) % 2 ^ 32 ≡ p = omega arith in
    let set = psl.0 / 2 ^ 28 * 2 ^ 28 + 2 ^ 27 + psl.0 % 2 ^ 27 in
    let bit : set / 2 ^ 28 * 2 ^ 28 + set % 2 ^ 27 ≡ psl.0 = omega arith in
    rw (back, bit)

-- a state that is gone on with is the one that was left, but for R0 to R5
pub continued_suspended : (p : Progress) (s : State) → IsReady s → p.delta < 256 → continued p.delta (suspended p s) ≡ with_low (packed p (low_registers s)) s
unfolding suspended
continued_suspended p s ready short = goes_on s s.core.regs (packed p (low_registers s)) s.core.psl p.delta (is_sixteen s.core.regs ready.full) ready.pc ready.clear short

low_left : (s : State) (regs xs : List ℕ) (psl : Psl) (delta : ℕ) → Sixteen regs → low_registers (left delta (with_low xs (with s regs psl))) ≡ six xs
unfolding with_low low_registers left
low_left s regs xs psl delta (sixteen a b c d e f g h i j k l m n o p) = refl

by_six_as : (layout : Layout) (op : ℕ) (xs : List ℕ) → unpacked_as layout op (six xs) ≡ unpacked_as layout op xs
by_six_as Moves op xs = refl
by_six_as Compares op xs = refl
by_six_as Searches op xs = refl
by_six_as Scans op xs = refl
by_six_as Translates op xs = refl

by_six : (op : ℕ) (xs : List ℕ) → unpacked op (six xs) ≡ unpacked op xs
unfolding unpacked
by_six op xs = by_six_as (layout_of op) op xs

-- what is packed is unpacked
pub unpacked_suspended : (p : Progress) (s : State) → length s.core.regs ≡ 16 → IsProper p → unpacked p.op (low_registers (suspended p s)) ≡ p
unfolding suspended
unpacked_suspended p s full proper =
    ap (unpacked p.op) (low_left s s.core.regs (packed p (low_registers s)) s.core.psl p.delta (is_sixteen s.core.regs full))
    ∙ (by_six p.op (packed p (low_registers s)) ∙ unpacked-packed p (low_registers s) proper)

packed_six_as : (layout : Layout) (p : Progress) (xs : List ℕ) → packed_as layout p (six xs) ≡ packed_as layout p xs
packed_six_as Moves p xs = refl
packed_six_as Compares p xs = refl
packed_six_as Searches p xs = refl
packed_six_as Scans p xs = refl
packed_six_as Translates p xs = refl

pub packed_six : (p : Progress) (xs : List ℕ) → packed p (six xs) ≡ packed p xs
unfolding packed
packed_six p xs = packed_six_as (layout_of p.op) p xs

same_layout : (layout : Layout) (p q : Progress) (old : List ℕ) → packed_as layout q (packed_as layout p old) ≡ packed_as layout q old
same_layout Moves p q old = refl
same_layout Compares p q old = refl
same_layout Searches p q old = refl
same_layout Scans p q old = refl
same_layout Translates p q old = refl

-- a later progress of the same instruction over an earlier one
pub packed_twice : (p q : Progress) (old : List ℕ) → q.op ≡ p.op → packed q (packed p old) ≡ packed q old
unfolding packed
packed_twice p q old same =
    ap (λ layout. packed_as layout q (packed_as (layout_of p.op) p old)) (ap layout_of same)
    ∙ (same_layout (layout_of p.op) p q old ∙ ap (λ layout. packed_as layout q old) (ap layout_of (sym same)))

pub suspended_over : (p q : Progress) (s : State) → length s.core.regs ≡ 16 → q.op ≡ p.op → suspended q (with_low (packed p (low_registers s)) s) ≡ suspended q s
unfolding suspended
suspended_over p q s full same =
    ap (left q.delta)
    (ap (λ xs. with_low xs (with_low (packed p (low_registers s)) s))
    (ap (packed q) (low_set s (packed p (low_registers s)) full) ∙ (packed_six q (packed p (low_registers s)) ∙ packed_twice p q (low_registers s) same))
    ∙ low_twice s (packed p (low_registers s)) (packed q (low_registers s)) full)
