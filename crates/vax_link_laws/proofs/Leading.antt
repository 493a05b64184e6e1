-- Fields lead to their targets.
use Rattle.std.proofs.Common.{◌≡◌, ℕ, zero, suc, ◌+◌, ◌*◌, ◌/◌, ◌%◌, ◌<◌, ◌≤◌, ◌⊎◌, inl, inr, Bool, true, false, cond, List, [], ◌∷◌, length, get_or, Option, Some, None, Ok, refl, sym, ap, subst, ◌∙◌, arith}
use Rattle.std.specs.Prelude.{All, ◌||◌, nat_le, nat_lt}
use Rattle.std.specs.List.{fold}
use Rattle.std.proofs.lemmas.Bool.{leb-false, leb-true, ltb-false, ltb-true}
use Rattle.byteorder.specs.Endian.{little_bytes}
use Rattle.vax_flat.specs.Memory.{byte_at, number}
use Rattle.vax_flat.specs.Operand.{extended}
use Rattle.vax_image.specs.declared.Base.{Base}
use Rattle.vax_image.specs.declared.Image.{Image}
use Rattle.vax_lex.specs.declared.value.Value.{Value}
use Rattle.vax_lex.specs.declared.value.Value.TheVariants.{Absolute, External, Section as InSection}
use Rattle.vax_link.specs.Linked.{linked}
use Rattle.vax_link.specs.Names.{plus}
use Rattle.vax_link.specs.Values.{content, distance, field_address, field_content, fits_signed, is_in_reach, lower, section_address, unreached_from, value_of, with_reach}
use Rattle.vax_link_laws.proofs.Laying.{is_linked}
use Rattle.vax_link_laws.proofs.Standing.{field_stands}
use Rattle.vax_link_laws.specs.Holding.{HasField, Holds}
use Rattle.vax_link_laws.specs.Leading.{leads_to}
use Rattle.vax_module.specs.Formed.{Formed, width_of}
use Rattle.vax_module.specs.declared.Module.{Module}
use Rattle.vax_module.specs.declared.Reloc.{Reloc}
use Rattle.vax_module.specs.declared.RelocKind.{RelocKind}
use Rattle.vax_module.specs.declared.RelocKind.TheVariants.{Byte, Word, Long, RelByte, RelWord, RelLong}

-- ---- numbers read

-- the bytes of a number stand at an address
IsNumber : (byte : ℕ → ℕ) (address width c : ℕ) → Type 0
IsNumber byte address width c = (k : ℕ) → k < width → (address + k < 4294967296) × (byte (address + k) ≡ get_or (little_bytes width c) k 0)

one_byte : (byte : ℕ → ℕ) (a c : ℕ) → IsNumber byte a 1 c → number byte a 1 ≡ c % 256
unfolding IsNumber number
one_byte byte a c h =
    let b0 : byte (a + 0) ≡ c % 256 = (h 0 (omega arith)).1 in
    let at : a + 0 ≡ a = omega arith in
    let c0 : byte a ≡ c % 256 = ap byte (sym at) ∙ b0 in
    omega arith

two_bytes : (byte : ℕ → ℕ) (a c : ℕ) → IsNumber byte a 2 c → number byte a 2 ≡ c % 65536
unfolding IsNumber number
two_bytes byte a c h =
    let b0 : byte (a + 0) ≡ c % 256 = (h 0 (omega arith)).1 in
    let b1 : byte (a + 1) ≡ c / 256 % 256 = (h 1 (omega arith)).1 in
    let less = (h 1 (omega arith)).0 in
    let at0 : a + 0 ≡ a = omega arith in
    let at1 : a + 1 ≡ (a + 1) % 4294967296 = omega arith in
    let c0 : byte a ≡ c % 256 = ap byte (sym at0) ∙ b0 in
    let c1 : byte ((a + 1) % 4294967296) ≡ c / 256 % 256 = ap byte (sym at1) ∙ b1 in
    omega arith

four_bytes : (byte : ℕ → ℕ) (a c : ℕ) → c < 4294967296 → IsNumber byte a 4 c → number byte a 4 ≡ c
unfolding IsNumber number
four_bytes byte a c small h =
    let b0 : byte (a + 0) ≡ c % 256 = (h 0 (omega arith)).1 in
    let b1 : byte (a + 1) ≡ c / 256 % 256 = (h 1 (omega arith)).1 in
    let b2 : byte (a + 2) ≡ c / 65536 % 256 = (h 2 (omega arith)).1 in
    let b3 : byte (a + 3) ≡ c / 16777216 % 256 = (h 3 (omega arith)).1 in
    let less = (h 3 (omega arith)).0 in
    let at0 : a + 0 ≡ a = omega arith in
    let at1 : a + 1 ≡ (a + 1) % 4294967296 = omega arith in
    let at2 : a + 2 ≡ ((a + 1) % 4294967296 + 1) % 4294967296 = omega arith in
    let at3 : a + 3 ≡ (((a + 1) % 4294967296 + 1) % 4294967296 + 1) % 4294967296 = omega arith in
    let c0 : byte a ≡ c % 256 = ap byte (sym at0) ∙ b0 in
    let c1 : byte ((a + 1) % 4294967296) ≡ c / 256 % 256 = ap byte (sym at1) ∙ b1 in
    let c2 : byte (((a + 1) % 4294967296 + 1) % 4294967296) ≡ c / 65536 % 256 = ap byte (sym at2) ∙ b2 in
    let c3 : byte ((((a + 1) % 4294967296 + 1) % 4294967296 + 1) % 4294967296) ≡ c / 16777216 % 256 = ap byte (sym at3) ∙ b3 in
    omega arith

-- ---- signs

fits_either : (a b : Bool) (n low high : ℕ) → nat_lt n low ≡ a → nat_le high n ≡ b → (a || b) ≡ true → (n < low) ⊎ (high ≤ n)
fits_either true b n low high p q e = inl (ltb-true n low p)
fits_either false true n low high p q e = inr (leb-true high n q)
fits_either false false n low high p q e = absurd cc

sign_by : (t : Bool) (v c low gap : ℕ) → nat_lt (2 * v) low ≡ t → (2 * v < low → v ≡ c) → (low ≤ 2 * v → gap + v ≡ c) → cond t v (gap + v) ≡ c
sign_by true v c low gap e h k = h (ltb-true (2 * v) low e)
sign_by false v c low gap e h k = k (ltb-false (2 * v) low e)

signed_byte : (c : ℕ) → c < 4294967296 → fits_signed 1 c ≡ true → extended 1 (c % 256) ≡ c
unfolding extended
signed_byte c small fits =
    let f : (c < 128) ⊎ (4294967168 ≤ c) = fits_either (nat_lt c 128) (nat_le 4294967168 c) c 128 4294967168 refl refl fits in
    sign_by (nat_lt (2 * (c % 256)) 256) (c % 256) c 256 4294967040 refl (λ low. elim f [ inl h ↦ omega arith | inr h ↦ omega arith ]) (λ high. elim f [ inl h ↦ omega arith | inr h ↦ omega arith ])

signed_word : (c : ℕ) → c < 4294967296 → fits_signed 2 c ≡ true → extended 2 (c % 65536) ≡ c
unfolding extended
signed_word c small fits =
    let f : (c < 32768) ⊎ (4294934528 ≤ c) = fits_either (nat_lt c 32768) (nat_le 4294934528 c) c 32768 4294934528 refl refl fits in
    sign_by (nat_lt (2 * (c % 65536)) 65536) (c % 65536) c 65536 4294901760 refl (λ low. elim f [ inl h ↦ omega arith | inr h ↦ omega arith ]) (λ high. elim f [ inl h ↦ omega arith | inr h ↦ omega arith ])

signed_long : (c : ℕ) → extended 4 c ≡ c
unfolding extended
signed_long c = sign_by (nat_lt (2 * c) 4294967296) c c 4294967296 0 refl (λ low. refl) (λ high. omega arith)

-- ---- what a field reads as

byte_read : (byte : ℕ → ℕ) (a c : ℕ) → c < 4294967296 → fits_signed 1 c ≡ true → IsNumber byte a 1 c → extended 1 (number byte a 1) ≡ c
byte_read byte a c small fits h = ap (extended 1) (one_byte byte a c h) ∙ signed_byte c small fits

word_read : (byte : ℕ → ℕ) (a c : ℕ) → c < 4294967296 → fits_signed 2 c ≡ true → IsNumber byte a 2 c → extended 2 (number byte a 2) ≡ c
word_read byte a c small fits h = ap (extended 2) (two_bytes byte a c h) ∙ signed_word c small fits

long_read : (byte : ℕ → ℕ) (a c : ℕ) → c < 4294967296 → IsNumber byte a 4 c → extended 4 (number byte a 4) ≡ c
long_read byte a c small h = ap (extended 4) (four_bytes byte a c small h) ∙ signed_long c

distance_small : (from to : ℕ) → distance from to < 4294967296
distance_small from to = omega arith

back : (from to : ℕ) → to < 4294967296 → plus from (distance from to) ≡ to
back from to small = omega arith

long_fits : (from to : ℕ) → fits_signed 4 (distance from to) ≡ true
long_fits from to = fits_all (nat_lt (distance from to) 2147483648) (nat_le 2147483648 (distance from to)) (distance from to) refl refl
  where
    fits_all : (a b : Bool) (n : ℕ) → nat_lt n 2147483648 ≡ a → nat_le 2147483648 n ≡ b → (a || b) ≡ true
    fits_all true b n p q = refl
    fits_all false true n p q = refl
    fits_all false false n p q = absurd (let x = ltb-false n 2147483648 p in let y = leb-false 2147483648 n q in omega arith)

leads : (kind : RelocKind) (image : Image) (a value : ℕ) → value < 4294967296 → is_in_reach kind a value ≡ true → IsNumber (byte_at image.areas) a (width_of kind) (content kind a value) → leads_to image kind a ≡ value
unfolding is_in_reach
leads Byte image a value small fits h = byte_read (byte_at image.areas) a value small fits h
leads Word image a value small fits h = word_read (byte_at image.areas) a value small fits h
leads Long image a value small fits h = long_read (byte_at image.areas) a value small h
leads RelByte image a value small fits h =
    ap (plus (a + 1)) (byte_read (byte_at image.areas) a (distance (a + 1) value) (distance_small (a + 1) value) fits h) ∙ back (a + 1) value small
leads RelWord image a value small fits h =
    ap (plus (a + 2)) (word_read (byte_at image.areas) a (distance (a + 2) value) (distance_small (a + 2) value) fits h) ∙ back (a + 2) value small
leads RelLong image a value small fits h =
    ap (plus (a + 4)) (long_read (byte_at image.areas) a (distance (a + 4) value) (distance_small (a + 4) value) h) ∙ back (a + 4) value small

-- ---- fields in reach

record IsNear (o : Option ℕ) (P : Type 0) : Type 0 where
  none : o ≡ None
  here : P

near_step : (b : Bool) (found : Option ℕ) (address : ℕ) → (cond b found (lower found address)) ≡ None → IsNear found (b ≡ true)
near_step true found address e = record { none = e; here = refl }
near_step false None address e = absurd cc
near_step false (Some least) address e = absurd cc

near_all : (region : Base) (modules : List Module) (owner : ℕ) (found : Option ℕ) (relocs : List Reloc) → fold (with_reach region modules owner) found relocs ≡ None
    → IsNear found ((k : ℕ) (r : Reloc) → k < length relocs → get_or relocs k r ≡ r → is_in_reach r.kind (field_address region modules owner r) (value_of region modules owner r.target) ≡ true)
near_all region modules owner found [] e = record { none = e; here = λ k r less at. absurd (omega arith) }
near_all region modules owner found (x ∷ relocs) e =
    let rest = near_all region modules owner (with_reach region modules owner found x) relocs e in
    let first = near_step (is_in_reach x.kind (field_address region modules owner x) (value_of region modules owner x.target)) found (field_address region modules owner x) rest.none in
    record { none = first.none; here = near_at x relocs first.here rest.here }
  where
    near_at : (x : Reloc) (relocs : List Reloc) → is_in_reach x.kind (field_address region modules owner x) (value_of region modules owner x.target) ≡ true
        → ((k : ℕ) (r : Reloc) → k < length relocs → get_or relocs k r ≡ r → is_in_reach r.kind (field_address region modules owner r) (value_of region modules owner r.target) ≡ true)
        → (k : ℕ) (r : Reloc) → k < suc (length relocs) → get_or (x ∷ relocs) k r ≡ r → is_in_reach r.kind (field_address region modules owner r) (value_of region modules owner r.target) ≡ true
    near_at x relocs h k zero r less at = subst (λ (y : Reloc). is_in_reach y.kind (field_address region modules owner y) (value_of region modules owner y.target) ≡ true) at h
    near_at x relocs h k (suc i) r less at = k i r (omega arith) at

none_first : (region : Base) (all : List Module) (from : ℕ) (found : Option ℕ) (modules : List Module) → unreached_from region all from found modules ≡ None → found ≡ None
unfolding unreached_from
none_first region all from found [] e = e
none_first region all from found (m ∷ ms) e = (near_all region all from found m.relocs (none_first region all (suc from) (fold (with_reach region all from) found m.relocs) ms e)).none

near_in : (region : Base) (all : List Module) (from : ℕ) (found : Option ℕ) (modules : List Module) (owner home : ℕ) (r : Reloc) → unreached_from region all from found modules ≡ None → HasField modules owner r → from + owner ≡ home
    → is_in_reach r.kind (field_address region all home r) (value_of region all home r.target) ≡ true
unfolding unreached_from
near_in region all from found [] owner home r e has at = absurd (let less = has.1 in omega arith)
near_in region all from found (m ∷ ms) zero home r e has at =
    let same : from ≡ home = omega arith in
    let next = none_first region all (suc from) (fold (with_reach region all from) found m.relocs) ms e in
    let near = near_all region all from found m.relocs next in
    subst (λ (h : ℕ). is_in_reach r.kind (field_address region all h r) (value_of region all h r.target) ≡ true) same (near.here has.0 r has.1 has.2)
near_in region all from found (m ∷ ms) (suc owner) home r e has at =
    near_in region all (suc from) (fold (with_reach region all from) found m.relocs) ms owner home r e has (omega arith)

value_small : (region : Base) (modules : List Module) (owner : ℕ) (v : Value) → value_of region modules owner v < 4294967296
unfolding value_of
value_small region modules owner (Absolute n) = omega arith
value_small region modules owner (InSection section place) = omega arith
value_small region modules owner (External index place) = omega arith

some_width : (kind : RelocKind) → 0 < width_of kind
some_width Byte = omega arith
some_width Word = omega arith
some_width Long = omega arith
some_width RelByte = omega arith
some_width RelWord = omega arith
some_width RelLong = omega arith

pub field_leads : (region : Base) (modules : List Module) (image : Image) (owner : ℕ) (r : Reloc) → All Formed modules → linked region modules ≡ Ok image → HasField modules owner r
    → leads_to image r.kind (section_address region modules owner r.section + r.offset) ≡ value_of region modules owner r.target
unfolding IsNumber
field_leads region modules image owner r formed is has =
    let l = is_linked region modules image is in
    let a : ℕ = section_address region modules owner r.section + r.offset in
    let value : ℕ = value_of region modules owner r.target in
    let first : Holds image (a + 0) (get_or (little_bytes (width_of r.kind) (field_content region modules owner r)) 0 0) = field_stands region modules image owner 0 r formed is has (some_width r.kind) in
    let below = first.below in
    let at : field_address region modules owner r ≡ a = omega arith in
    let reach : is_in_reach r.kind a value ≡ true = subst (λ (b : ℕ). is_in_reach r.kind b value ≡ true) at (near_in region modules 0 None modules owner owner r l.near has (omega arith)) in
    let number_is : (k : ℕ) → k < width_of r.kind → (a + k < 4294967296) × (byte_at image.areas (a + k) ≡ get_or (little_bytes (width_of r.kind) (content r.kind a value)) k 0) =
    λ k less. (let there = field_stands region modules image owner k r formed is has less in let low = there.below in (omega arith, there.held ∙ ap (λ (b : ℕ). get_or (little_bytes (width_of r.kind) (content r.kind b value)) k 0) at)) in
    leads r.kind image a value (value_small region modules owner r.target) reach number_is
