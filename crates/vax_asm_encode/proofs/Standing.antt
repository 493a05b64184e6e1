-- An operand that may stand there is read back.
use Rattle.std.proofs.Common.{◌≡◌, ℕ, ◌<◌, ◌^◌, ◌==◌, Bool, true, false, not, ◌&&◌, inl, inr, refl, arith, nat_lt}
use Rattle.std.proofs.lemmas.Bool.Decides.{nat_tests}
use Rattle.vax_word.specs.Arithmetic.{bytes_of as width_of_size}
use Rattle.vax_isa.specs.declared.actions.Narrow.{Narrow}
use Rattle.vax_isa.specs.declared.actions.Narrow.TheVariants as narrow
use Rattle.vax_isa.specs.declared.OperandKind.{OperandKind}
use Rattle.vax_isa.specs.declared.Letter.{Letter}
use Rattle.vax_isa.specs.declared.Letter.TheVariants as letter
use Rattle.vax_isa.specs.Rows.{IsKind, IsWidth, IsBranchWidth}
use Rattle.vax_flat.specs.Operand.{is_result, reaches_pc, is_no_base}
use Rattle.vax_flat.specs.Grammar.{is_read, takes_register}
use Rattle.vax_asm_encode.specs.declared.operand.Base.{Base}
use Rattle.vax_asm_encode.specs.declared.operand.Base.TheVariants as base
use Rattle.vax_asm_encode.specs.declared.operand.Operand.{Operand}
use Rattle.vax_asm_encode.specs.declared.operand.Operand.TheVariants as operand
use Rattle.vax_asm_encode.specs.Operands.{width_of, data_size, branch_size, base_field, field_of, base_stands, takes_index, may_stand, takes_branch, place_of, specifier_of}
use Rattle.vax_asm_encode.specs.Bytes.{HoldsIn, IsReadBack, Extends}
use Rattle.vax_asm_encode.proofs.Fitting.{IsDisplacement, PlaceFits, Fits, base_form, is_branch}
use Rattle.vax_asm_encode.proofs.Back.{operand_back}

is_displacement : (size : Narrow) → IsDisplacement (width_of size)
is_displacement narrow.B = inl refl
is_displacement narrow.W = inr (inl refl)
is_displacement narrow.L = inr (inr refl)

both : (a b : Bool) → (a && b) ≡ true → (a ≡ true) × (b ≡ true)
both true true h = (refl, refl)
both true false h = cc
both false b h = cc

untrue : (b : Bool) → not b ≡ true → b ≡ false
untrue true h = cc
untrue false h = refl

below : (n m : ℕ) → nat_lt n m ≡ true → n < m
below n m h = grind (arith, nat_tests)

place_fits : (b : Base) (n : ℕ) → base_stands b ≡ true → HoldsIn (base_field b) n → PlaceFits (place_of b n)
place_fits (base.Deferred r) n s h = below _ _ s
place_fits (base.Decrement r) n s h = below _ _ s
place_fits (base.Increment r) n s h = below _ _ s
place_fits (base.IncrementDeferred r) n s h = below _ _ s
place_fits base.Absolute n s h = h
place_fits (base.Displaced size r) n s h = (is_displacement size, below _ _ s, h)
place_fits (base.DisplacedDeferred size r) n s h = (is_displacement size, below _ _ s, h)
place_fits (base.Relative size) n s h = (is_displacement size, omega arith, h)
place_fits (base.RelativeDeferred size) n s h = (is_displacement size, omega arith, h)

apart : (x r : ℕ) → not (r == x) ≡ true → (r == x) ≡ false
apart x r h = untrue _ h

index_fits : (b : Base) (x n : ℕ) → x < 15 → base_stands b ≡ true → takes_index b x ≡ true → is_no_base x (base_form (place_of b n)) ≡ false
unfolding is_no_base
index_fits (base.Deferred r) x n h s t = let less : r < 15 = below _ _ s in grind (arith, nat_tests)
index_fits (base.Decrement r) x n h s t = let less : r < 15 = below _ _ s in let other = apart x r t in rw other (grind (arith, nat_tests))
index_fits (base.Increment r) x n h s t = let less : r < 15 = below _ _ s in let other = apart x r t in rw other (grind (arith, nat_tests))
index_fits (base.IncrementDeferred r) x n h s t = apart x r t
index_fits base.Absolute x n h s t = grind (arith, nat_tests)
index_fits (base.Displaced size r) x n h s t = refl
index_fits (base.DisplacedDeferred size r) x n h s t = refl
index_fits (base.Relative size) x n h s t = refl
index_fits (base.RelativeDeferred size) x n h s t = refl

read_no_branch : (l : Letter) → is_read l ≡ true → takes_branch l ≡ false
read_no_branch letter.Read h = refl
read_no_branch letter.Modify h = refl
read_no_branch letter.Write h = refl
read_no_branch letter.Address h = refl
read_no_branch letter.Field h = refl
read_no_branch letter.Branch h = cc

register_no_branch : (l : Letter) → takes_register l ≡ true → takes_branch l ≡ false
register_no_branch letter.Read h = refl
register_no_branch letter.Modify h = refl
register_no_branch letter.Write h = refl
register_no_branch letter.Address h = refl
register_no_branch letter.Field h = refl
register_no_branch letter.Branch h = cc

source_no_branch : (l : Letter) → is_result l ≡ false → takes_branch l ≡ false
source_no_branch letter.Read h = refl
source_no_branch letter.Modify h = refl
source_no_branch letter.Write h = refl
source_no_branch letter.Address h = refl
source_no_branch letter.Field h = refl
source_no_branch letter.Branch h = cc

is_branch_letter : (l : Letter) → takes_branch l ≡ true → l ≡ letter.Branch
is_branch_letter letter.Read h = cc
is_branch_letter letter.Modify h = cc
is_branch_letter letter.Write h = cc
is_branch_letter letter.Address h = cc
is_branch_letter letter.Field h = cc
is_branch_letter letter.Branch h = refl

data_width : (w : ℕ) → IsWidth w → width_of_size (data_size w) ≡ w
data_width w h = elim h [
  | inl one ↦ rw one refl
  | inr more ↦ elim more [
    | inl two ↦ rw two refl
    | inr most ↦ elim most [
      | inl four ↦ rw four refl
      | inr eight ↦ rw eight refl
    ]
  ]
]

branch_width : (w : ℕ) → IsBranchWidth w → width_of (branch_size w) ≡ w
branch_width w h = elim h [
  | inl one ↦ rw one refl
  | inr two ↦ rw two refl
]

register_apart : (w r : ℕ) → r < 15 → not (w == 8 && r == 14) ≡ true → reaches_pc w r ≡ false
register_apart w r less h = let pair = untrue _ h in let other : (r == 15) ≡ false = grind (arith, nat_tests) in rw (other, pair) refl

fits : (kind : OperandKind) (o : Operand) (n : ℕ) → IsKind kind → may_stand kind o ≡ true → HoldsIn (field_of kind o) n →
    Fits kind (specifier_of o n) × (takes_branch kind.letter ≡ is_branch (specifier_of o n))
fits kind operand.Literal n k s h = ((h, s), read_no_branch _ s)
fits kind (operand.Register r) n k s h =
    let parts = both _ _ s in
    let front = both _ _ parts.0 in
    let less : r < 15 = below _ _ front.0 in
    ((omega arith, register_apart kind.width r less front.1, parts.1), register_no_branch _ parts.1)
fits kind operand.Immediate n k s h =
    let source = untrue _ s in
    let width = data_width kind.width k.width in
    let small : n < 256 ^ kind.width = rw width at h in
    ((small, source), source_no_branch _ source)
fits kind (operand.Memory b) n k s h = let parts = both _ _ s in (place_fits b n parts.0 h, untrue _ parts.1)
fits kind (operand.Indexed b x) n k s h =
    let parts = both _ _ s in
    let more = both _ _ parts.0 in
    let front = both _ _ more.0 in
    let less : x < 15 = below _ _ front.0 in
    ((less, place_fits b n front.1 h, index_fits b x n less front.1 more.1), untrue _ parts.1)
fits kind operand.Branch n k s h =
    let width = branch_width kind.width (k.branch (is_branch_letter _ s)) in
    let far : Extends kind.width n = rw width at h in
    (far, s)

pub reads_back : (kind : OperandKind) (o : Operand) (n : ℕ) → IsKind kind → may_stand kind o ≡ true → HoldsIn (field_of kind o) n → IsReadBack kind o n
reads_back kind o n k s h = let both_fit = fits kind o n k s h in λ rest. operand_back kind (specifier_of o n) rest both_fit.0 both_fit.1
