-- The bytes that the grammar reads an operand from are the operand's.
use Rattle.std.proofs.Common.{◌≡◌, ℕ, suc, ◌+◌, ◌-◌, ◌*◌, ◌/◌, ◌%◌, ◌^◌, ◌<◌, ◌≤◌, Bool, true, false, List, [], ◌∷◌, length, take, get_or, Option, Some, None, refl, ap, ◌∙◌, sym, subst, arith, inl, inr}
use Rattle.std.specs.Prelude.{◌==◌, ◌||◌, nat_lt, nat_le, if◌then◌else◌}
use Rattle.std.proofs.lemmas.Bool.Decides.{nat_tests}
use Rattle.std.proofs.lemmas.List.{length-take-le, get_or-take, get_or_past}
use Rattle.std.proofs.lemmas.Bool.{cases_lt}
use Rattle.vax_isa.specs.declared.OperandKind.{OperandKind}
use Rattle.vax_isa.specs.declared.Letter.{Letter}
use Rattle.vax_isa.specs.declared.Letter.TheVariants as letter
use Rattle.vax_isa.specs.Rows.{IsKind, IsBranchWidth}
use Rattle.vax_flat.specs.declared.Form.{Form}
use Rattle.vax_flat.specs.declared.Form.TheVariants as form
use Rattle.vax_flat.specs.Operand.{form_of, extended, reaches_pc, is_reserved, is_no_base, is_result}
use Rattle.vax_flat.specs.Grammar.{Place, Deferred, Decrement, Increment, IncrementDeferred, Absolute, Displaced, DisplacedDeferred, Specifier, Literal, Register, Immediate, InMemory, Indexed, BranchBy, Reading, Reads, Reserved, value_of_bytes, piece, placed, based, unindexed, incremented, is_read, takes_register, in_a_register, read_form, read_specifier, read_displacement, read_operand}
use Rattle.vax_asm_encode.specs.Operands.{takes_branch}
use Rattle.vax_asm_encode.specs.Bytes.{low_bytes, displacement_mode, place_bytes, bytes_of}
use Rattle.vax_flat.specs.Form.{IsDisplacement}
use Rattle.vax_disasm.proofs.Numbers.{value_below}

-- bytes are numbers below 256
abbrev pub AreBytes : List ℕ → Type 0
AreBytes bytes = (i : ℕ) → get_or bytes i 0 < 256

-- the displacement is a number of so many bytes, extended
pub record IsExtended (width displacement : ℕ) : Type 0 where
  pub raw : ℕ
  pub fits : raw < 256 ^ width
  pub is : extended width raw ≡ displacement

abbrev pub base_form : Place → Form
base_form (Deferred n) = form.Deferred n
base_form (Decrement n) = form.Decrement n
base_form (Increment n) = form.Increment n
base_form (IncrementDeferred n) = form.IncrementDeferred n
base_form (Absolute addr) = form.IncrementDeferred 15
base_form (Displaced width displacement n) = form.Displacement width n
base_form (DisplacedDeferred width displacement n) = form.DisplacementDeferred width n

abbrev pub PlaceMay : Place → Type 0
PlaceMay (Deferred n) = n < 15
PlaceMay (Decrement n) = n < 15
PlaceMay (Increment n) = n < 15
PlaceMay (IncrementDeferred n) = n < 15
PlaceMay (Absolute addr) = addr < 2 ^ 32
PlaceMay (Displaced width displacement n) = IsDisplacement width × (n < 16) × IsExtended width displacement
PlaceMay (DisplacedDeferred width displacement n) = IsDisplacement width × (n < 16) × IsExtended width displacement

-- an operand that may stand where an instruction has one of this kind
abbrev pub May : OperandKind → Specifier → Type 0
May kind (Literal value) = (value < 64) × (is_read kind.letter ≡ true)
May kind (Register n) = (n < 16) × (reaches_pc kind.width n ≡ false) × (takes_register kind.letter ≡ true)
May kind (Immediate value) = (value < 256 ^ kind.width) × (is_result kind.letter ≡ false)
May kind (InMemory p) = PlaceMay p × (takes_branch kind.letter ≡ false)
May kind (Indexed p x) = (x < 15) × PlaceMay p × (is_no_base x (base_form p) ≡ false) × (takes_branch kind.letter ≡ false)
May kind (BranchBy displacement) = IsBranchWidth kind.width × IsExtended kind.width displacement × (takes_branch kind.letter ≡ true)

pub record IsRead (kind : OperandKind) (bytes : List ℕ) (s : Specifier) (count : ℕ) : Type 0 where
  pub may : May kind s
  pub bytes_are : bytes_of kind s ≡ take count bytes
  pub within : count ≤ length bytes

abbrev pub Good : OperandKind → List ℕ → Option Reading → Type 0
Good kind bytes None = Unit {0}
Good kind bytes (Some (Reserved count)) = Unit {0}
Good kind bytes (Some (Reads s count)) = IsRead kind bytes s count

-- numbers

low_of : (bytes : List ℕ) → AreBytes bytes → low_bytes (length bytes) (value_of_bytes bytes) ≡ bytes
unfolding low_bytes value_of_bytes
low_of [] are = refl
low_of (byte ∷ bytes) are =
    let first : byte < 256 = are 0 in
    let low : (byte + 256 * value_of_bytes bytes) % 256 ≡ byte = omega arith in
    let high : (byte + 256 * value_of_bytes bytes) / 256 ≡ value_of_bytes bytes = omega arith in
    rw (low, high, low_of bytes (λ i. are (suc i))) refl

taken_bytes : (width : ℕ) (bytes : List ℕ) → AreBytes bytes → width ≤ length bytes → AreBytes (take width bytes)
taken_bytes width bytes are h i = elim (cases_lt i width) [
  | inl less ↦ rw (get_or-take width bytes i 0 less) (are i)
  | inr more ↦ rw (get_or_past (take width bytes) i 0 (omega (arith, length-take-le width bytes h))) (omega arith)
]

low_taken : (width : ℕ) (bytes : List ℕ) → AreBytes bytes → width ≤ length bytes → low_bytes width (value_of_bytes (take width bytes)) ≡ take width bytes
low_taken width bytes are h =
    let count : length (take width bytes) ≡ width = length-take-le width bytes h in
    let whole : low_bytes (length (take width bytes)) (value_of_bytes (take width bytes)) ≡ take width bytes = low_of (take width bytes) (taken_bytes width bytes are h) in
    subst (λ (w : ℕ). low_bytes w (value_of_bytes (take width bytes)) ≡ take width bytes) count whole

value_taken : (width : ℕ) (bytes : List ℕ) → AreBytes bytes → width ≤ length bytes → value_of_bytes (take width bytes) < 256 ^ width
value_taken width bytes are h = value_below width (take width bytes) (omega (arith, length-take-le width bytes h)) (taken_bytes width bytes are h)

low_one : (raw : ℕ) → low_bytes 1 (2 ^ 32 - 256 ^ 1 + raw) ≡ low_bytes 1 raw
unfolding low_bytes
low_one raw = let same : (2 ^ 32 - 256 ^ 1 + raw) % 256 ≡ raw % 256 = omega arith in rw same refl

low_two : (raw : ℕ) → low_bytes 2 (2 ^ 32 - 256 ^ 2 + raw) ≡ low_bytes 2 raw
unfolding low_bytes
low_two raw =
    let first : (2 ^ 32 - 256 ^ 2 + raw) % 256 ≡ raw % 256 = omega arith in
    let second : (2 ^ 32 - 256 ^ 2 + raw) / 256 % 256 ≡ raw / 256 % 256 = omega arith in
    rw (first, second) refl

low_four : (raw : ℕ) → low_bytes 4 (2 ^ 32 - 256 ^ 4 + raw) ≡ low_bytes 4 raw
low_four raw = let same : 2 ^ 32 - 256 ^ 4 + raw ≡ raw = omega arith in ap (low_bytes 4) same

low_extended : (width raw : ℕ) (low : Bool) → IsDisplacement width → raw < 256 ^ width → nat_lt (2 * raw) (256 ^ width) ≡ low → low_bytes width (extended width raw) ≡ low_bytes width raw
unfolding extended
low_extended width raw true w h e = rw e refl
low_extended width raw false (inl one) h e = rw (e, one) (low_one raw)
low_extended width raw false (inr (inl two)) h e = rw (e, two) (low_two raw)
low_extended width raw false (inr (inr four)) h e = rw (e, four) (low_four raw)

extended_taken : (width : ℕ) (bytes : List ℕ) → IsDisplacement width → AreBytes bytes → width ≤ length bytes → low_bytes width (extended width (value_of_bytes (take width bytes))) ≡ take width bytes
extended_taken width bytes w are h = low_extended width _ (nat_lt (2 * value_of_bytes (take width bytes)) (256 ^ width)) w (value_taken width bytes are h) refl ∙ low_taken width bytes are h

-- the specifier byte of a form
abbrev ByteOf : Form → ℕ → Type 0
ByteOf (form.Literal value) byte = (value ≡ byte) × (value < 64)
ByteOf (form.Index x) byte = (0x40 + x ≡ byte) × (x < 16)
ByteOf (form.Register n) byte = (0x50 + n ≡ byte) × (n < 16)
ByteOf (form.Deferred n) byte = (0x60 + n ≡ byte) × (n < 16)
ByteOf (form.Decrement n) byte = (0x70 + n ≡ byte) × (n < 16)
ByteOf (form.Increment n) byte = (0x80 + n ≡ byte) × (n < 16)
ByteOf (form.IncrementDeferred n) byte = (0x90 + n ≡ byte) × (n < 16)
ByteOf (form.Displacement width n) byte = (displacement_mode width + n ≡ byte) × (n < 16) × IsDisplacement width
ByteOf (form.DisplacementDeferred width n) byte = (displacement_mode width + 0x10 + n ≡ byte) × (n < 16) × IsDisplacement width

by_test : (a b byte : ℕ) (x y : Form) → (a < b → ByteOf x byte) → (b ≤ a → ByteOf y byte) → ByteOf (if nat_lt a b then x else y) byte
by_test a b byte x y f g = elim (nat_lt a b) as (λ t. nat_lt a b ≡ t → ByteOf (if t then x else y) byte) [
  | true ↦ λ e. f (grind (arith, nat_tests))
  | false ↦ λ e. g (grind (arith, nat_tests))
] refl

byte_is : (byte : ℕ) → byte < 256 → ByteOf (form_of byte) byte
unfolding form_of
byte_is byte h =
    by_test byte 0x40 byte _ _ (λ l. (refl, l)) (λ a.
    by_test byte 0x50 byte _ _ (λ l. (omega arith, omega arith)) (λ b.
    by_test byte 0x60 byte _ _ (λ l. (omega arith, omega arith)) (λ c.
    by_test byte 0x70 byte _ _ (λ l. (omega arith, omega arith)) (λ d.
    by_test byte 0x80 byte _ _ (λ l. (omega arith, omega arith)) (λ e.
    by_test byte 0x90 byte _ _ (λ l. (omega arith, omega arith)) (λ f.
    by_test byte 0xA0 byte _ _ (λ l. (omega arith, omega arith)) (λ g.
    by_test byte 0xB0 byte _ _ (λ l. (omega arith, omega arith, inl refl)) (λ i.
    by_test byte 0xC0 byte _ _ (λ l. (omega arith, omega arith, inl refl)) (λ j.
    by_test byte 0xD0 byte _ _ (λ l. (omega arith, omega arith, inr (inl refl))) (λ k.
    by_test byte 0xE0 byte _ _ (λ l. (omega arith, omega arith, inr (inl refl))) (λ m.
    by_test byte 0xF0 byte _ _ (λ l. (omega arith, omega arith, inr (inr refl))) (λ n.
    (omega arith, omega arith, inr (inr refl))))))))))))))

-- each form

good_if : (kind : OperandKind) (bytes : List ℕ) (t : Bool) (x y : Option Reading) → (t ≡ true → Good kind bytes x) → (t ≡ false → Good kind bytes y) → Good kind bytes (if t then x else y)
good_if kind bytes true x y f g = f refl
good_if kind bytes false x y f g = g refl

good_piece : (kind : OperandKind) (all : List ℕ) (width : ℕ) (bytes : List ℕ) (next : ℕ → Option Reading) → (width ≤ length bytes → Good kind all (next (value_of_bytes (take width bytes)))) → Good kind all (piece width bytes next)
unfolding piece
good_piece kind all width bytes next f = good_if kind all (nat_le width (length bytes)) _ _ (λ e. f (grind (arith, nat_tests))) (λ e. tt)

-- PC is clear register of these
abbrev NoPc : Form → Type 0
NoPc (form.Deferred n) = (n == 15) ≡ false
NoPc (form.Decrement n) = (n == 15) ≡ false
NoPc (form.Increment n) = (n == 15) ≡ false
NoPc _ = Unit {0}

below_pc : (n : ℕ) → n < 16 → (n == 15) ≡ false → n < 15
below_pc n h e = grind (arith, nat_tests)

pc_is : (n : ℕ) → (n == 15) ≡ true → n ≡ 15
pc_is n e = grind (arith, nat_tests)

module _ (kind : OperandKind) (all : List ℕ) (make : Place → Specifier) (count byte : ℕ) (bytes : List ℕ) (are : AreBytes bytes) where
  abbrev Placed : Form → Type 0
  Placed shape = (p : Place) (more : ℕ) → PlaceMay p → base_form p ≡ shape → place_bytes p ≡ byte ∷ take more bytes → more ≤ length bytes → IsRead kind all (make p) (count + more)

  alone : (shape : Form) (p : Place) → Placed shape → PlaceMay p → base_form p ≡ shape → place_bytes p ≡ byte ∷ [] → IsRead kind all (make p) count
  alone shape p f may b e =
      let none : count + 0 ≡ count = omega arith in
      subst (λ (n : ℕ). IsRead kind all (make p) n) none (f p 0 may b e (omega arith))

  good_placed : (shape : Form) → ByteOf shape byte → NoPc shape → Placed shape → Good kind all (placed shape make count bytes)
  unfolding placed
  good_placed (form.Literal value) is clear f = tt
  good_placed (form.Index x) is clear f = tt
  good_placed (form.Register n) is clear f = tt
  good_placed (form.Deferred n) is clear f = alone (form.Deferred n) (Deferred n) f (below_pc n is.1 clear) refl (ap (λ (b : ℕ). b ∷ []) is.0)
  good_placed (form.Decrement n) is clear f = alone (form.Decrement n) (Decrement n) f (below_pc n is.1 clear) refl (ap (λ (b : ℕ). b ∷ []) is.0)
  good_placed (form.Increment n) is clear f = alone (form.Increment n) (Increment n) f (below_pc n is.1 clear) refl (ap (λ (b : ℕ). b ∷ []) is.0)
  good_placed (form.IncrementDeferred n) is clear f =
      good_if kind all (n == 15) _ _
      (λ e. good_piece kind all 4 bytes _ (λ h.
      let first : 0x9F ≡ byte = let pc = pc_is n e in let b = is.0 in omega arith in
      f (Absolute (value_of_bytes (take 4 bytes))) 4 (let less : value_of_bytes (take 4 bytes) < 256 ^ 4 = value_taken 4 bytes are h in omega arith)
      (ap form.IncrementDeferred (sym (pc_is n e))) (rw (first, low_taken 4 bytes are h) refl) h))
      (λ e. alone (form.IncrementDeferred n) (IncrementDeferred n) f (below_pc n is.1 e) refl (ap (λ (b : ℕ). b ∷ []) is.0))
  good_placed (form.Displacement width n) is clear f =
      good_piece kind all width bytes _ (λ h.
      f (Displaced width (extended width (value_of_bytes (take width bytes))) n) width (is.2, is.1, record { raw = value_of_bytes (take width bytes); fits = value_taken width bytes are h; is = refl }) refl
      (rw (is.0, extended_taken width bytes is.2 are h) refl) h)
  good_placed (form.DisplacementDeferred width n) is clear f =
      good_piece kind all width bytes _ (λ h.
      f (DisplacedDeferred width (extended width (value_of_bytes (take width bytes))) n) width (is.2, is.1, record { raw = value_of_bytes (take width bytes); fits = value_taken width bytes are h; is = refl }) refl
      (rw (is.0, extended_taken width bytes is.2 are h) refl) h)

both_false : (a b : Bool) → (a || b) ≡ false → (a ≡ false) × (b ≡ false)
both_false true b e = cc
both_false false b e = (refl, e)

no_pc_base : (x : ℕ) (shape : Form) → is_no_base x shape ≡ false → NoPc shape
unfolding is_no_base
no_pc_base x (form.Literal value) e = tt
no_pc_base x (form.Index y) e = tt
no_pc_base x (form.Register n) e = tt
no_pc_base x (form.Deferred n) e = e
no_pc_base x (form.Decrement n) e = (both_false (n == 15) (n == x) e).0
no_pc_base x (form.Increment n) e = (both_false (n == 15) (n == x) e).0
no_pc_base x (form.IncrementDeferred n) e = tt
no_pc_base x (form.Displacement width n) e = tt
no_pc_base x (form.DisplacementDeferred width n) e = tt

one_and : (n : ℕ) → 1 + n ≡ suc n
one_and n = omega arith

two_and : (n : ℕ) → 2 + n ≡ suc (suc n)
two_and n = omega arith

-- a memory form without an index, and with one
good_unindexed : (kind : OperandKind) (byte : ℕ) (bytes : List ℕ) → AreBytes bytes → (shape : Form) → ByteOf shape byte → takes_branch kind.letter ≡ false → (is_reserved kind.letter shape ≡ false → NoPc shape)
    → Good kind (byte ∷ bytes) (unindexed kind.letter shape bytes)
unfolding unindexed bytes_of
good_unindexed kind byte bytes are shape is branch clear =
    good_if kind (byte ∷ bytes) (is_reserved kind.letter shape) _ _ (λ e. tt) (λ e.
    good_placed kind (byte ∷ bytes) InMemory 1 byte bytes are shape is (clear e) (λ p more may b there h.
    record { may = (may, branch); bytes_are = rw (one_and more) there; within = omega arith }))

good_based : (kind : OperandKind) (first x : ℕ) (bytes : List ℕ) → AreBytes bytes → 0x40 + x ≡ first → x < 15 → takes_branch kind.letter ≡ false → Good kind (first ∷ bytes) (based x bytes)
unfolding based bytes_of
good_based kind first x [] are e h branch = tt
good_based kind first x (byte ∷ bytes) are e h branch =
    good_if kind (first ∷ byte ∷ bytes) (is_no_base x (form_of byte)) _ _ (λ f. tt) (λ f.
    good_placed kind (first ∷ byte ∷ bytes) (λ p. Indexed p x) 2 byte bytes (λ i. are (suc i)) (form_of byte) (byte_is byte (are 0)) (no_pc_base x (form_of byte) f) (λ p more may b there g.
    record { may = (h, may, rw b f, branch); bytes_are = rw (two_and more, e, there) refl; within = omega arith }))

good_incremented : (kind : OperandKind) (byte n : ℕ) (bytes : List ℕ) → AreBytes bytes → 0x80 + n ≡ byte → n < 16 → takes_branch kind.letter ≡ false → Good kind (byte ∷ bytes) (incremented kind n bytes)
unfolding incremented is_reserved bytes_of
good_incremented kind byte n bytes are e h branch =
    good_if kind (byte ∷ bytes) (is_reserved kind.letter (form.Increment n)) _ _ (λ f. tt) (λ f.
    good_if kind (byte ∷ bytes) (n == 15) _ _
    (λ g. good_piece kind (byte ∷ bytes) kind.width bytes _ (λ w.
    let first : 0x8F ≡ byte = let pc = pc_is n g in omega arith in
    let no_result : is_result kind.letter ≡ false = rw g at f in
    record { may = (value_taken kind.width bytes are w, no_result); bytes_are = rw (one_and kind.width, first, low_taken kind.width bytes are w) refl; within = omega arith }))
    (λ g. record { may = (below_pc n h g, branch); bytes_are = ap (λ (b : ℕ). b ∷ []) e; within = omega arith }))

good_register : (kind : OperandKind) (byte n : ℕ) (bytes : List ℕ) → 0x50 + n ≡ byte → n < 16 → Good kind (byte ∷ bytes) (in_a_register kind n)
unfolding in_a_register bytes_of
good_register kind byte n bytes e h =
    good_if kind (byte ∷ bytes) (reaches_pc kind.width n) _ _ (λ f. tt) (λ f.
    good_if kind (byte ∷ bytes) (takes_register kind.letter) _ _ (λ g. record { may = (h, f, g); bytes_are = ap (λ (b : ℕ). b ∷ []) e; within = omega arith }) (λ g. tt))

good_form : (kind : OperandKind) (byte : ℕ) (bytes : List ℕ) → AreBytes bytes → takes_branch kind.letter ≡ false → (shape : Form) → ByteOf shape byte → Good kind (byte ∷ bytes) (read_form kind shape bytes)
unfolding read_form is_reserved bytes_of
good_form kind byte bytes are branch (form.Literal value) is =
    good_if kind (byte ∷ bytes) (is_read kind.letter) _ _ (λ e. record { may = (is.1, e); bytes_are = ap (λ (b : ℕ). b ∷ []) is.0; within = omega arith }) (λ e. tt)
good_form kind byte bytes are branch (form.Index x) is = good_if kind (byte ∷ bytes) (x == 15) _ _ (λ e. tt) (λ e. good_based kind byte x bytes are is.0 (below_pc x is.1 e) branch)
good_form kind byte bytes are branch (form.Register n) is = good_register kind byte n bytes is.0 is.1
good_form kind byte bytes are branch (form.Deferred n) is = good_unindexed kind byte bytes are (form.Deferred n) is branch (λ e. e)
good_form kind byte bytes are branch (form.Decrement n) is = good_unindexed kind byte bytes are (form.Decrement n) is branch (λ e. e)
good_form kind byte bytes are branch (form.Increment n) is = good_incremented kind byte n bytes are is.0 is.1 branch
good_form kind byte bytes are branch (form.IncrementDeferred n) is = good_unindexed kind byte bytes are (form.IncrementDeferred n) is branch (λ e. tt)
good_form kind byte bytes are branch (form.Displacement width n) is = good_unindexed kind byte bytes are (form.Displacement width n) is branch (λ e. tt)
good_form kind byte bytes are branch (form.DisplacementDeferred width n) is = good_unindexed kind byte bytes are (form.DisplacementDeferred width n) is branch (λ e. tt)

good_specifier : (kind : OperandKind) (bytes : List ℕ) → AreBytes bytes → takes_branch kind.letter ≡ false → Good kind bytes (read_specifier kind bytes)
unfolding read_specifier
good_specifier kind [] are branch = tt
good_specifier kind (byte ∷ bytes) are branch = good_form kind byte bytes (λ i. are (suc i)) branch (form_of byte) (byte_is byte (are 0))

branch_width : (width : ℕ) → IsBranchWidth width → IsDisplacement width
branch_width width (inl one) = inl one
branch_width width (inr two) = inr (inl two)

good_branch : (kind : OperandKind) (bytes : List ℕ) → AreBytes bytes → IsBranchWidth kind.width → takes_branch kind.letter ≡ true → Good kind bytes (read_displacement kind.width bytes)
unfolding read_displacement bytes_of
good_branch kind bytes are w branch =
    good_piece kind bytes kind.width bytes _ (λ h. record {
      may = (w, record { raw = value_of_bytes (take kind.width bytes); fits = value_taken kind.width bytes are h; is = refl }, branch);
      bytes_are = extended_taken kind.width bytes (branch_width kind.width w) are h;
      within = h;
    })

good_letter : (l : Letter) (width : ℕ) (bytes : List ℕ) → AreBytes bytes → IsKind (record { letter = l; width = width }) → Good (record { letter = l; width = width }) bytes (read_operand (record { letter = l; width = width }) bytes)
unfolding read_operand
good_letter letter.Read width bytes are is = good_specifier (record { letter = letter.Read; width = width }) bytes are refl
good_letter letter.Modify width bytes are is = good_specifier (record { letter = letter.Modify; width = width }) bytes are refl
good_letter letter.Write width bytes are is = good_specifier (record { letter = letter.Write; width = width }) bytes are refl
good_letter letter.Address width bytes are is = good_specifier (record { letter = letter.Address; width = width }) bytes are refl
good_letter letter.Field width bytes are is = good_specifier (record { letter = letter.Field; width = width }) bytes are refl
good_letter letter.Branch width bytes are is = good_branch (record { letter = letter.Branch; width = width }) bytes are (is.branch refl) refl

pub is_read_from : (kind : OperandKind) (bytes : List ℕ) (s : Specifier) (count : ℕ) → AreBytes bytes → IsKind kind → read_operand kind bytes ≡ Some (Reads s count) → IsRead kind bytes s count
is_read_from kind bytes s count are is e = subst (λ (r : Option Reading). Good kind bytes r) e (good_letter kind.letter kind.width bytes are is)
