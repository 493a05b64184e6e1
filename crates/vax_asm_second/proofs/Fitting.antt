-- What the linker fills in lies in the bytes of what has the field.
use Rattle.std.proofs.Common.{◌≡◌, ◌≤◌, ◌<◌, ◌+◌, ◌*◌, ℕ, zero, suc, Bool, true, false, length, inl, inr, ◌/◌, ◌^◌, lit<, refl, ap, ◌∙◌, arith}
use Rattle.std.proofs.Math.Nat.{suc-mul}
use Rattle.std.proofs.lemmas.List.{length-append}
use Rattle.std.specs.List.{repeat}
use Rattle.std.specs.Prelude.{Option, Some, None, Result, Ok, Err, ◌==◌, if◌then◌else◌}
use Rattle.vax_word.specs.declared.Size.{Size}
use Rattle.vax_word.specs.declared.Size.TheVariants as size
use Rattle.vax_word.specs.Arithmetic.{bytes_of}
use Rattle.vax_isa.specs.Rows.{IsWidth, IsBranchWidth, IsKind}
use Rattle.vax_isa.specs.declared.Letter.{Letter}
use Rattle.vax_isa.specs.declared.Letter.TheVariants as letter
use Rattle.vax_isa.specs.declared.OperandKind.{OperandKind}
use Rattle.vax_isa.specs.declared.actions.Narrow.{Narrow}
use Rattle.vax_isa.specs.declared.actions.Narrow.TheVariants as narrow
use Rattle.vax_lex.specs.declared.value.Value.{Value}
use Rattle.vax_lex.specs.declared.value.Value.TheVariants as value
use Rattle.vax_macro.specs.declared.error.FaultKind.{FaultKind}
use Rattle.vax_module.specs.Formed.{width_of as reloc_width}
use Rattle.vax_module.specs.declared.RelocKind.{RelocKind}
use Rattle.vax_asm_encode.specs.Bytes.{low_bytes, place_bytes, operand_bytes, Extends, HoldsIn, bytes_of as specifier_bytes}
use Rattle.vax_asm_encode.proofs.Extending.{extends_low}
use Rattle.vax_asm_encode.specs.Fields.{filled, literal, number, signed, displacement, outright, relocated, displacement_reloc, relative_reloc, reached, distance, address}
use Rattle.vax_asm_encode.specs.Operands.{width_of, field_of, item_bytes, item_field, base_field, data_size, branch_size, place_of, may_stand, takes_branch}
use Rattle.vax_asm_encode.specs.declared.filling.Filled.{Filled}
use Rattle.vax_asm_encode.specs.declared.filling.FieldFault.{FieldFault}
use Rattle.vax_asm_encode.specs.declared.operand.Base.{Base}
use Rattle.vax_asm_encode.specs.declared.operand.Base.TheVariants as base
use Rattle.vax_asm_encode.specs.declared.operand.Operand.{Operand}
use Rattle.vax_asm_encode.specs.declared.operand.Operand.TheVariants as operand
use Rattle.vax_asm_encode.specs.declared.operand.Field.{Field}
use Rattle.vax_asm_encode.specs.declared.operand.Field.TheVariants as field
use Rattle.vax_asm_encode.specs.declared.operand.DataKind.{DataKind}
use Rattle.vax_asm_encode.specs.declared.operand.DataKind.TheVariants as data_kind
use Rattle.vax_asm_second.specs.Contents.{item_in, sign_of, specifiers}
use Rattle.vax_asm_second.specs.Laid.{link_to, holding, held}
use Rattle.vax_asm_second.specs.declared.types.Held.{Held}
use Rattle.vax_asm_second.specs.declared.types.Link.{Link}

-- the bytes of a field
abbrev pub field_width : Field → ℕ
field_width field.Literal = 0
field_width (field.Number s) = bytes_of s
field_width (field.Signed s) = bytes_of s
field_width (field.Displacement s) = width_of s
field_width (field.Relative s) = width_of s

-- ---- what the linker fills in has the field's width

not_outright : (o : Option ℕ) (r : Filled) (kind : RelocKind) → outright o ≡ Ok r → r.reloc ≡ Some kind → ⊥
not_outright (Some n) r kind e k = cc
not_outright None r kind e k = cc

kind_told : (other kind : RelocKind) (r : Filled) → relocated other ≡ Ok r → r.reloc ≡ Some kind → kind ≡ other
kind_told other kind r e k = cc

displaced_width : (s : Narrow) → reloc_width (displacement_reloc s) ≡ width_of s
displaced_width narrow.B = refl
displaced_width narrow.W = refl
displaced_width narrow.L = refl

relative_width : (s : Narrow) → reloc_width (relative_reloc s) ≡ width_of s
relative_width narrow.B = refl
relative_width narrow.W = refl
relative_width narrow.L = refl

told_width : (other kind : RelocKind) (r : Filled) (n : ℕ) → relocated other ≡ Ok r → r.reloc ≡ Some kind → reloc_width other ≡ n → reloc_width kind ≡ n
told_width other kind r n e k w = ap reloc_width (kind_told other kind r e k) ∙ w

number_width : (s : Size) (r : Filled) (kind : RelocKind) → address s ≡ Ok r → r.reloc ≡ Some kind → reloc_width kind ≡ bytes_of s
number_width size.B r kind e k = cc
number_width size.W r kind e k = cc
number_width size.L r kind e k = ap reloc_width (kind_told _ kind r e k)
number_width size.Q r kind e k = cc

either_width : (b : Bool) (s : Narrow) (o : Option ℕ) (r : Filled) (kind : RelocKind) → (if b then outright o else relocated (relative_reloc s)) ≡ Ok r → r.reloc ≡ Some kind → reloc_width kind ≡ width_of s
either_width true s o r kind e k = absurd (not_outright o r kind e k)
either_width false s o r kind e k = told_width (relative_reloc s) kind r (width_of s) e k (relative_width s)

reloc_fits : (f : Field) (section at : ℕ) (v : Value) (r : Filled) (kind : RelocKind) → filled f section at v ≡ Ok r → r.reloc ≡ Some kind → reloc_width kind ≡ field_width f
unfolding filled
reloc_fits field.Literal section at (value.Absolute n) r kind e k = absurd (not_outright (literal n) r kind e k)
reloc_fits field.Literal section at (value.Section s offset) r kind e k = cc
reloc_fits field.Literal section at (value.External i offset) r kind e k = cc
reloc_fits (field.Number s) section at (value.Absolute n) r kind e k = absurd (not_outright (number s n) r kind e k)
reloc_fits (field.Number s) section at (value.Section i offset) r kind e k = number_width s r kind e k
reloc_fits (field.Number s) section at (value.External i offset) r kind e k = number_width s r kind e k
reloc_fits (field.Signed s) section at (value.Absolute n) r kind e k = absurd (not_outright (signed s n) r kind e k)
reloc_fits (field.Signed s) section at (value.Section i offset) r kind e k = cc
reloc_fits (field.Signed s) section at (value.External i offset) r kind e k = cc
reloc_fits (field.Displacement s) section at (value.Absolute n) r kind e k = absurd (not_outright (displacement s n) r kind e k)
reloc_fits (field.Displacement s) section at (value.Section i offset) r kind e k = told_width (displacement_reloc s) kind r (width_of s) e k (displaced_width s)
reloc_fits (field.Displacement s) section at (value.External i offset) r kind e k = told_width (displacement_reloc s) kind r (width_of s) e k (displaced_width s)
reloc_fits (field.Relative s) section at (value.Absolute n) r kind e k = told_width (relative_reloc s) kind r (width_of s) e k (relative_width s)
reloc_fits (field.Relative s) section at (value.Section i offset) r kind e k = either_width (i == section) s (reached s (distance (at + width_of s) offset)) r kind e k
reloc_fits (field.Relative s) section at (value.External i offset) r kind e k = told_width (relative_reloc s) kind r (width_of s) e k (relative_width s)

link_kind : (v : Value) (o : Option RelocKind) (l : Link) → link_to v o ≡ Some l → o ≡ Some l.kind
link_kind v (Some kind) l e = cc
link_kind v None l e = cc

holding_fits : (f : Field) (section at : ℕ) (v : Value) (q : Result Filled FieldFault) (h : Held) (l : Link) → filled f section at v ≡ q → holding v q ≡ Ok h → h.link ≡ Some l → reloc_width l.kind ≡ field_width f
holding_fits f section at v (Ok r) h l e g k =
    let linked : link_to v r.reloc ≡ Some l = cc in
    reloc_fits f section at v r l.kind e (link_kind v r.reloc l linked)
holding_fits f section at v (Err x) h l e g k = cc

-- something has the link, and it has the width of its field
pub link_fits : (o : Option Field) (section at : ℕ) (v : Result Value (Option FaultKind)) (h : Held) (l : Link) → held o section at v ≡ Ok h → h.link ≡ Some l → (f : Field) × (o ≡ Some f) × (reloc_width l.kind ≡ field_width f)
link_fits None section at v h l e k = cc
link_fits (Some f) section at (Ok v) h l e k = (f, refl, holding_fits f section at v (filled f section at v) h l refl e k)
link_fits (Some f) section at (Err x) h l e k = cc

-- ---- the field lies in the bytes

length_low : (width n : ℕ) → length (low_bytes width n) ≡ width
unfolding low_bytes
length_low zero n = refl
length_low (suc width) n = omega (arith, length_low width (n / 256))

data_width : (w : ℕ) → IsWidth w → bytes_of (data_size w) ≡ w
data_width w (inl e) = rw e refl
data_width w (inr (inl e)) = rw e refl
data_width w (inr (inr (inl e))) = rw e refl
data_width w (inr (inr (inr e))) = rw e refl

branch_width : (w : ℕ) → IsBranchWidth w → width_of (branch_size w) ≡ w
branch_width w (inl e) = rw e refl
branch_width w (inr e) = rw e refl

is_branch : (l : Letter) → takes_branch l ≡ true → l ≡ letter.Branch
is_branch letter.Read t = cc
is_branch letter.Modify t = cc
is_branch letter.Write t = cc
is_branch letter.Address t = cc
is_branch letter.Field t = cc
is_branch letter.Branch t = refl

some_width : (f g : Field) → Some g ≡ Some f → field_width f ≡ field_width g
some_width f g e = let same : f ≡ g = cc in ap field_width same

base_fits : (b : Base) (f : Field) (n : ℕ) → base_field b ≡ Some f → 1 + field_width f ≤ length (place_bytes (place_of b n))
base_fits (base.Deferred r) f n e = cc
base_fits (base.Decrement r) f n e = cc
base_fits (base.Increment r) f n e = cc
base_fits (base.IncrementDeferred r) f n e = cc
base_fits base.Absolute f n e = omega (arith, some_width f (field.Number size.L) e, length_low 4 n)
base_fits (base.Displaced s r) f n e = omega (arith, some_width f (field.Displacement s) e, length_low (width_of s) n)
base_fits (base.DisplacedDeferred s r) f n e = omega (arith, some_width f (field.Displacement s) e, length_low (width_of s) n)
base_fits (base.Relative s) f n e = omega (arith, some_width f (field.Relative s) e, length_low (width_of s) n)
base_fits (base.RelativeDeferred s) f n e = omega (arith, some_width f (field.Relative s) e, length_low (width_of s) n)

pub operand_fits : (kind : OperandKind) (o : Operand) (f : Field) (n : ℕ) → IsKind kind → may_stand kind o ≡ true → field_of kind o ≡ Some f → specifiers o + field_width f ≤ length (operand_bytes kind o n)
unfolding specifier_bytes
operand_fits kind operand.Literal f n k h e = omega (arith, some_width f field.Literal e)
operand_fits kind (operand.Register r) f n k h e = cc
operand_fits kind operand.Immediate f n k h e =
    omega (arith, some_width f (field.Number (data_size kind.width)) e, data_width kind.width k.width, length_low kind.width n)
operand_fits kind (operand.Memory b) f n k h e = base_fits b f n e
operand_fits kind (operand.Indexed b x) f n k h e = omega (arith, base_fits b f n e)
operand_fits kind operand.Branch f n k h e =
    omega (arith, some_width f (field.Relative (branch_size kind.width)) e, branch_width kind.width (k.branch (is_branch kind.letter h)), length_low kind.width n)

pub data_fits : (d : DataKind) (f : Field) → Some (item_field d) ≡ Some f → field_width f ≤ item_bytes d
data_fits (data_kind.Number s) f e = omega (arith, some_width f (field.Number s) e)
data_fits (data_kind.Signed s) f e = omega (arith, some_width f (field.Signed s) e)
data_fits data_kind.Octaword f e = omega (arith, some_width f (field.Number size.Q) e)

item_length : (d : DataKind) (n : ℕ) → length (item_in d n) ≡ item_bytes d
item_length (data_kind.Number s) n = length_low (bytes_of s) n
item_length (data_kind.Signed s) n = length_low (bytes_of s) n
item_length data_kind.Octaword n = length-append (low_bytes 8 n) (low_bytes 8 (sign_of n)) ∙ omega (arith, length_low 8 n, length_low 8 (sign_of n))

pub data_length : (d : DataKind) (count n : ℕ) → length (repeat count (item_in d n)) ≡ count * item_bytes d
data_length d zero n = omega arith
data_length d (suc count) n =
    length-append (item_in d n) (repeat count (item_in d n)) ∙ omega (arith, item_length d n, data_length d count n, suc-mul count (item_bytes d))

-- ---- every field can hold 0

zero_extends : (s : Narrow) → Extends (width_of s) 0
zero_extends narrow.B = extends_low narrow.B 0 (lit< tt)
zero_extends narrow.W = extends_low narrow.W 0 (lit< tt)
zero_extends narrow.L = extends_low narrow.L 0 (lit< tt)

zero_fits : (s : Size) → 0 < 256 ^ bytes_of s
zero_fits size.B = lit< tt
zero_fits size.W = lit< tt
zero_fits size.L = lit< tt
zero_fits size.Q = lit< tt

pub zero_holds : (o : Option Field) → HoldsIn o 0
zero_holds None = tt
zero_holds (Some field.Literal) = lit< tt
zero_holds (Some (field.Number s)) = zero_fits s
zero_holds (Some (field.Signed s)) = zero_fits s
zero_holds (Some (field.Displacement s)) = zero_extends s
zero_holds (Some (field.Relative s)) = zero_extends s
