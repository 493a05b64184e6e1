-- A reading rests on the bytes at the front alone, and so many are always enough.
use Rattle.std.proofs.Common.{◌≡◌, ℕ, ◌%◌, ◌≤◌, Bool, true, false, cond, Option, Some, None, List, [], ◌∷◌, ◌++◌, length, take, drop, eqb, leb, refl, ap, arith, inl, inr, length-append}
use Rattle.std.proofs.lemmas.Bool.{cases_Bool, leb-true, le-leb}
use Rattle.std.proofs.lemmas.List.{take-append-le, drop-append-le}
use Rattle.std.specs.Prelude.{IsSome, nat_lt, if◌then◌else◌}
use Rattle.vax_isa.specs.declared.OperandKind.{OperandKind}
use Rattle.vax_isa.specs.declared.Letter.{Letter}
use Rattle.vax_isa.specs.declared.Letter.TheVariants as letter
use Rattle.vax_flat.specs.declared.Form.{Form}
use Rattle.vax_flat.specs.declared.Form.TheVariants as form
use Rattle.vax_flat.specs.Operand.{form_of, reaches_pc, is_reserved, is_no_base}
use Rattle.vax_flat.specs.Grammar.{Place, Specifier, InMemory, Indexed, Reading, Reads, Reserved, value_of_bytes, piece, placed, based, unindexed, incremented, is_read, takes_register, in_a_register, read_form, read_specifier, read_displacement, read_operand, Sequence, Next, followed, read_operands}
use Rattle.vax_flat.proofs.Sequences.{good_operand, mapped}

-- what is read stays read with more bytes behind
abbrev pub Stays : Option Reading → Option Reading → Type 0
Stays before after = (r : Reading) → before ≡ Some r → after ≡ Some r

stays_same : (reading : Option Reading) → Stays reading reading
stays_same reading r e = e

stays_either : (b : Bool) (x y z w : Option Reading) → Stays x z → Stays y w → Stays (cond b x y) (cond b z w)
stays_either true x y z w p q = p
stays_either false x y z w p q = q

stays_piece : (width : ℕ) (bytes more : List ℕ) (reading : ℕ → Option Reading) → Stays (piece width bytes reading) (piece width (bytes ++ more) reading)
unfolding piece
stays_piece width bytes more reading r e =
    elim (cases_Bool (leb width (length bytes))) [
      | inl enough ↦
          let fits : width ≤ length bytes = leb-true width (length bytes) enough in
          let still : leb width (length (bytes ++ more)) ≡ true = le-leb width (length (bytes ++ more)) (omega (arith, length-append bytes more)) in
          let there : reading (value_of_bytes (take width bytes)) ≡ Some r = rw enough at e in
          rw (still, take-append-le width bytes more fits) there
      | inr few ↦ let none : None ≡ Some r = rw few at e in cc
    ]

stays_placed : (shape : Form) (make : Place → Specifier) (count : ℕ) (bytes more : List ℕ) → Stays (placed shape make count bytes) (placed shape make count (bytes ++ more))
unfolding placed
stays_placed (form.Literal value) make count bytes more = stays_same _
stays_placed (form.Index x) make count bytes more = stays_same _
stays_placed (form.Register n) make count bytes more = stays_same _
stays_placed (form.Deferred n) make count bytes more = stays_same _
stays_placed (form.Decrement n) make count bytes more = stays_same _
stays_placed (form.Increment n) make count bytes more = stays_same _
stays_placed (form.IncrementDeferred n) make count bytes more = stays_either (eqb n 15) _ _ _ _ (stays_piece 4 bytes more _) (stays_same _)
stays_placed (form.Displacement width n) make count bytes more = stays_piece width bytes more _
stays_placed (form.DisplacementDeferred width n) make count bytes more = stays_piece width bytes more _

stays_based : (x : ℕ) (bytes more : List ℕ) → Stays (based x bytes) (based x (bytes ++ more))
unfolding based
stays_based x [] more = λ r e. cc
stays_based x (byte ∷ bytes) more = stays_either (is_no_base x (form_of byte)) _ _ _ _ (stays_same _) (stays_placed (form_of byte) (λ place. Indexed place x) 2 bytes more)

stays_unindexed : (letter : Letter) (shape : Form) (bytes more : List ℕ) → Stays (unindexed letter shape bytes) (unindexed letter shape (bytes ++ more))
unfolding unindexed
stays_unindexed letter shape bytes more = stays_either (is_reserved letter shape) _ _ _ _ (stays_same _) (stays_placed shape InMemory 1 bytes more)

stays_incremented : (kind : OperandKind) (n : ℕ) (bytes more : List ℕ) → Stays (incremented kind n bytes) (incremented kind n (bytes ++ more))
unfolding incremented
stays_incremented kind n bytes more =
    stays_either (is_reserved kind.letter (form.Increment n)) _ _ _ _ (stays_same _) (stays_either (eqb n 15) _ _ _ _ (stays_piece kind.width bytes more _) (stays_same _))

stays_form : (kind : OperandKind) (shape : Form) (bytes more : List ℕ) → Stays (read_form kind shape bytes) (read_form kind shape (bytes ++ more))
unfolding read_form
stays_form kind (form.Literal value) bytes more = stays_same _
stays_form kind (form.Index x) bytes more = stays_either (eqb x 15) _ _ _ _ (stays_same _) (stays_based x bytes more)
stays_form kind (form.Register n) bytes more = stays_same _
stays_form kind (form.Deferred n) bytes more = stays_unindexed kind.letter (form.Deferred n) bytes more
stays_form kind (form.Decrement n) bytes more = stays_unindexed kind.letter (form.Decrement n) bytes more
stays_form kind (form.Increment n) bytes more = stays_incremented kind n bytes more
stays_form kind (form.IncrementDeferred n) bytes more = stays_unindexed kind.letter (form.IncrementDeferred n) bytes more
stays_form kind (form.Displacement width n) bytes more = stays_unindexed kind.letter (form.Displacement width n) bytes more
stays_form kind (form.DisplacementDeferred width n) bytes more = stays_unindexed kind.letter (form.DisplacementDeferred width n) bytes more

stays_specifier : (kind : OperandKind) (bytes more : List ℕ) → Stays (read_specifier kind bytes) (read_specifier kind (bytes ++ more))
unfolding read_specifier
stays_specifier kind [] more = λ r e. cc
stays_specifier kind (byte ∷ bytes) more = stays_form kind (form_of byte) bytes more

stays_letter : (l : Letter) (width : ℕ) (bytes more : List ℕ) → Stays (read_operand (record { letter = l; width = width }) bytes) (read_operand (record { letter = l; width = width }) (bytes ++ more))
unfolding read_operand read_displacement
stays_letter letter.Read width bytes more = stays_specifier (record { letter = letter.Read; width = width }) bytes more
stays_letter letter.Modify width bytes more = stays_specifier (record { letter = letter.Modify; width = width }) bytes more
stays_letter letter.Write width bytes more = stays_specifier (record { letter = letter.Write; width = width }) bytes more
stays_letter letter.Address width bytes more = stays_specifier (record { letter = letter.Address; width = width }) bytes more
stays_letter letter.Field width bytes more = stays_specifier (record { letter = letter.Field; width = width }) bytes more
stays_letter letter.Branch width bytes more = stays_piece width bytes more _

pub stays_operand : (kind : OperandKind) (bytes more : List ℕ) → Stays (read_operand kind bytes) (read_operand kind (bytes ++ more))
stays_operand kind bytes more = stays_letter kind.letter kind.width bytes more

-- operands behind one another
module _ (kind : OperandKind) (kinds : List OperandKind) (bytes more : List ℕ) where
  abbrev Behind : Type 0
  Behind =
      (count : ℕ) (rest : Sequence) → read_operands kinds (drop count bytes) ≡ Some rest → read_operands kinds (drop count bytes ++ more) ≡ Some rest

  stays_step : (found : Option Reading) → read_operand kind bytes ≡ found → Behind → (q : Sequence) → followed kind found (λ count. read_operands kinds (drop count bytes)) ≡ Some q → followed kind (read_operand kind (bytes ++ more)) (λ count. read_operands kinds (drop count (bytes ++ more))) ≡ Some q
  unfolding followed
  stays_step None read behind q e = let none : None ≡ Some q = e in cc
  stays_step (Some (Reserved count)) read behind q e =
      let now : read_operand kind (bytes ++ more) ≡ Some (Reserved count) = stays_operand kind bytes more (Reserved count) read in
      rw now e
  stays_step (Some (Reads specifier count)) read behind q e =
      let now : read_operand kind (bytes ++ more) ≡ Some (Reads specifier count) = stays_operand kind bytes more (Reads specifier count) read in
      let found = mapped (Next kind specifier count) (read_operands kinds (drop count bytes)) q e in
      let good = good_operand kind bytes specifier count read in
      let rest : read_operands kinds (drop count bytes ++ more) ≡ Some found.0 = behind count found.0 found.1 in
      rw (now, drop-append-le count bytes more good.within, rest) (ap Some found.2)

pub stays_operands : (kinds : List OperandKind) (bytes more : List ℕ) (q : Sequence) → read_operands kinds bytes ≡ Some q → read_operands kinds (bytes ++ more) ≡ Some q
unfolding read_operands
stays_operands [] bytes more q e = e
stays_operands (kind ∷ kinds) bytes more q e =
    stays_step kind kinds bytes more (read_operand kind bytes) refl (λ count rest f. stays_operands kinds (drop count bytes) more rest f) q e

-- enough bytes
some_either : (b : Bool) (x y : Option Reading) → IsSome x → IsSome y → IsSome (cond b x y)
some_either true x y p q = p
some_either false x y p q = q

some_piece : (width : ℕ) (bytes : List ℕ) (reading : ℕ → Option Reading) → width ≤ length bytes → ((v : ℕ) → IsSome (reading v)) → IsSome (piece width bytes reading)
unfolding piece
some_piece width bytes reading enough some = rw (le-leb width (length bytes) enough) (some _)

abbrev bytes_behind : Form → ℕ
bytes_behind (form.Literal value) = 0
bytes_behind (form.Index x) = 0
bytes_behind (form.Register n) = 0
bytes_behind (form.Deferred n) = 0
bytes_behind (form.Decrement n) = 0
bytes_behind (form.Increment n) = 0
bytes_behind (form.IncrementDeferred n) = 0
bytes_behind (form.Displacement width n) = width
bytes_behind (form.DisplacementDeferred width n) = width

record IsShort (shape : Form) : Type 0 where
  pub width : bytes_behind shape ≤ 4

-- the form of a byte below a bound, and else another
short_below : (byte bound : ℕ) (shape other : Form) → bytes_behind shape ≤ 4 → IsShort other → IsShort (if nat_lt byte bound then shape else other)
short_below byte bound shape other short rest =
    elim (cases_Bool (nat_lt byte bound)) [
      | inl below ↦ rw below (record { width = short })
      | inr above ↦ rw above rest
    ]

short_form : (byte : ℕ) → IsShort (form_of byte)
unfolding form_of
short_form byte =
    let none : 0 ≤ 4 = omega arith in
    let one : 1 ≤ 4 = omega arith in
    let two : 2 ≤ 4 = omega arith in
    let four : 4 ≤ 4 = omega arith in
    let last : IsShort (form.DisplacementDeferred 4 (byte % 16)) = record { width = four } in
    short_below byte 0x40 (form.Literal byte) _ none (
    short_below byte 0x50 (form.Index (byte % 16)) _ none (
    short_below byte 0x60 (form.Register (byte % 16)) _ none (
    short_below byte 0x70 (form.Deferred (byte % 16)) _ none (
    short_below byte 0x80 (form.Decrement (byte % 16)) _ none (
    short_below byte 0x90 (form.Increment (byte % 16)) _ none (
    short_below byte 0xA0 (form.IncrementDeferred (byte % 16)) _ none (
    short_below byte 0xB0 (form.Displacement 1 (byte % 16)) _ one (
    short_below byte 0xC0 (form.DisplacementDeferred 1 (byte % 16)) _ one (
    short_below byte 0xD0 (form.Displacement 2 (byte % 16)) _ two (
    short_below byte 0xE0 (form.DisplacementDeferred 2 (byte % 16)) _ two (
    short_below byte 0xF0 (form.Displacement 4 (byte % 16)) _ four last)))))))))))

some_placed : (shape : Form) (make : Place → Specifier) (count : ℕ) (bytes : List ℕ) → IsShort shape → 4 ≤ length bytes → IsSome (placed shape make count bytes)
unfolding placed
some_placed (form.Literal value) make count bytes short enough = refl
some_placed (form.Index x) make count bytes short enough = refl
some_placed (form.Register n) make count bytes short enough = refl
some_placed (form.Deferred n) make count bytes short enough = refl
some_placed (form.Decrement n) make count bytes short enough = refl
some_placed (form.Increment n) make count bytes short enough = refl
some_placed (form.IncrementDeferred n) make count bytes short enough = some_either (eqb n 15) _ _ (some_piece 4 bytes _ enough (λ v. refl)) refl
some_placed (form.Displacement width n) make count bytes short enough = let fits : width ≤ 4 = short.width in some_piece width bytes _ (omega arith) (λ v. refl)
some_placed (form.DisplacementDeferred width n) make count bytes short enough = let fits : width ≤ 4 = short.width in some_piece width bytes _ (omega arith) (λ v. refl)

some_based : (x : ℕ) (bytes : List ℕ) → 5 ≤ length bytes → IsSome (based x bytes)
unfolding based
some_based x [] enough = absurd (omega arith)
some_based x (byte ∷ bytes) enough = some_either (is_no_base x (form_of byte)) _ _ refl (some_placed (form_of byte) (λ place. Indexed place x) 2 bytes (short_form byte) (omega arith))

some_unindexed : (letter : Letter) (shape : Form) (bytes : List ℕ) → IsShort shape → 4 ≤ length bytes → IsSome (unindexed letter shape bytes)
unfolding unindexed
some_unindexed letter shape bytes short enough = some_either (is_reserved letter shape) _ _ refl (some_placed shape InMemory 1 bytes short enough)

some_form : (kind : OperandKind) (shape : Form) (bytes : List ℕ) → IsShort shape → kind.width ≤ 8 → 8 ≤ length bytes → IsSome (read_form kind shape bytes)
unfolding read_form incremented in_a_register
some_form kind (form.Literal value) bytes short width enough = some_either (is_read kind.letter) _ _ refl refl
some_form kind (form.Index x) bytes short width enough = some_either (eqb x 15) _ _ refl (some_based x bytes (omega arith))
some_form kind (form.Register n) bytes short width enough = some_either (reaches_pc kind.width n) _ _ refl (some_either (takes_register kind.letter) _ _ refl refl)
some_form kind (form.Deferred n) bytes short width enough = some_unindexed kind.letter (form.Deferred n) bytes short (omega arith)
some_form kind (form.Decrement n) bytes short width enough = some_unindexed kind.letter (form.Decrement n) bytes short (omega arith)
some_form kind (form.Increment n) bytes short width enough =
    some_either (is_reserved kind.letter (form.Increment n)) _ _ refl (some_either (eqb n 15) _ _ (some_piece kind.width bytes _ (omega arith) (λ v. refl)) refl)
some_form kind (form.IncrementDeferred n) bytes short width enough = some_unindexed kind.letter (form.IncrementDeferred n) bytes short (omega arith)
some_form kind (form.Displacement size n) bytes short width enough = some_unindexed kind.letter (form.Displacement size n) bytes short (omega arith)
some_form kind (form.DisplacementDeferred size n) bytes short width enough = some_unindexed kind.letter (form.DisplacementDeferred size n) bytes short (omega arith)

some_specifier : (kind : OperandKind) (bytes : List ℕ) → kind.width ≤ 8 → 9 ≤ length bytes → IsSome (read_specifier kind bytes)
unfolding read_specifier
some_specifier kind [] width enough = absurd (omega arith)
some_specifier kind (byte ∷ bytes) width enough = some_form kind (form_of byte) bytes (short_form byte) width (omega arith)

some_letter : (l : Letter) (width : ℕ) (bytes : List ℕ) → width ≤ 8 → 9 ≤ length bytes → IsSome (read_operand (record { letter = l; width = width }) bytes)
unfolding read_operand read_displacement
some_letter letter.Read width bytes w enough = some_specifier (record { letter = letter.Read; width = width }) bytes w enough
some_letter letter.Modify width bytes w enough = some_specifier (record { letter = letter.Modify; width = width }) bytes w enough
some_letter letter.Write width bytes w enough = some_specifier (record { letter = letter.Write; width = width }) bytes w enough
some_letter letter.Address width bytes w enough = some_specifier (record { letter = letter.Address; width = width }) bytes w enough
some_letter letter.Field width bytes w enough = some_specifier (record { letter = letter.Field; width = width }) bytes w enough
some_letter letter.Branch width bytes w enough = some_piece width bytes _ (omega arith) (λ v. refl)

pub some_operand : (kind : OperandKind) (bytes : List ℕ) → kind.width ≤ 8 → 9 ≤ length bytes → IsSome (read_operand kind bytes)
some_operand kind bytes width enough = some_letter kind.letter kind.width bytes width enough
