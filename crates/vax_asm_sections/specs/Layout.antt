-- The sections of a module while it is assembled (VAX MACRO and Instruction Set Reference Manual, `.PSECT` and `.ALIGN`).
use Rattle.std.specs.Prelude.{ℕ, ◌+◌, ◌-◌, ◌%◌, ◌^◌, max, Bool, true, false, ◌&&◌, ◌||◌, ◌==◌, nat_lt, if◌then◌else◌, List, [], ◌∷◌, ◌++◌, length, slice_index_or, slice_set, Option, Some, None, Result, Ok, Err, is_some, unwrap_or, not}
use Rattle.std.specs.Str.{bytes_eq}
use Rattle.vax_asm_sections.specs.declared.types.Refusal.{Refusal}
use Rattle.vax_asm_sections.specs.declared.types.Refusal.TheVariants.{Absolute, Conflict, TooLong}
use Rattle.vax_asm_sections.specs.declared.types.Attributes.{Attributes}

-- what a section holds, one behind another: zero bytes, bytes, and fields that are filled in later
pub data Part (F : Type 0) : Type 0 where
  Zeros : ℕ → Part F
  Bytes : List ℕ → Part F
  Field : F → Part F

-- A section: its name, the power of two and the protection that its first `.PSECT` said or left, the power of two that it is
-- aligned to, its size in bytes, what it holds, where the next statement goes in it where it only counts, and whether it is
-- overlaid. An absolute or overlaid section has no bytes: it only counts, from 0 on.
pub record Section (F : Type 0) : Type 0 where
  pub name : List ℕ
  pub declared : ℕ
  pub write : Bool
  pub align : ℕ
  pub size : ℕ
  pub parts : List (Part F)
  pub counter : Option ℕ
  pub overlaid : Bool

-- the sections, which of them the next statement goes into, and the size of all
pub record Sections (F : Type 0) : Type 0 where
  pub all : List (Section F)
  pub current : ℕ
  pub total : ℕ

abbrev pub section_limit : ℕ
section_limit = 1048576

abbrev pub module_limit : ℕ
module_limit = 16777216

-- an absolute section is at address 0, wherever others come to stand
abbrev pub alignment : Bool → ℕ → ℕ
alignment true k = 0
alignment false k = k

abbrev pub only_counts : {F : Type 0} → Section F → Bool
only_counts s = is_some s.counter

abbrev pub is_absolute : {F : Type 0} → Section F → Bool
is_absolute s = is_some s.counter && not s.overlaid

abbrev pub start_of : (counts : Bool) → Option ℕ
start_of true = Some 0
start_of false = None

-- What is overlaid is laid from the begin of the section of its name on. An absolute section is never overlaid.
abbrev pub made : {F : Type 0} → List ℕ → Attributes → Section F
made name attributes = record {
  name = name;
  declared = unwrap_or attributes.align 0;
  write = unwrap_or attributes.write true;
  align = alignment (unwrap_or attributes.absolute false) (unwrap_or attributes.align 0);
  size = 0;
  parts = [];
  counter = start_of (unwrap_or attributes.absolute false || unwrap_or attributes.overlaid false);
  overlaid = not (unwrap_or attributes.absolute false) && unwrap_or attributes.overlaid false;
}

-- the section that has no name, before the first `.PSECT`
abbrev pub unnamed : {F : Type 0} → Section F
unnamed = record { name = []; declared = 0; write = true; align = 0; size = 0; parts = []; counter = None; overlaid = false }

abbrev pub at_first : {F : Type 0} → Sections F
at_first = record { all = unnamed ∷ []; current = 0; total = 0 }

abbrev pub current_of : {F : Type 0} → Sections F → Section F
current_of s = slice_index_or s.all s.current unnamed

-- where the next statement goes in a section
abbrev pub place_in : {F : Type 0} → Section F → ℕ
place_in s = unwrap_or s.counter s.size

-- a section with so many bytes more, which may only count them
abbrev pub longer_by : {F : Type 0} → Option ℕ → ℕ → Part F → Section F → Section F
longer_by (Some at) n part s = record s { counter = Some (at + n) }
longer_by None n part s = record s { size = s.size + n; parts = s.parts ++ part ∷ [] }

abbrev pub longer : {F : Type 0} → ℕ → Part F → Section F → Section F
longer n part s = longer_by s.counter n part s

-- a section that only counts holds no data
abbrev pub refuses : {F : Type 0} → Section F → Part F → Bool
refuses s (Zeros n) = false
refuses s (Bytes bytes) = only_counts s
refuses s (Field f) = only_counts s

abbrev pub exceeds : (size total more : ℕ) → Bool
exceeds size total more = nat_lt section_limit (size + more) || nat_lt module_limit (total + more)

abbrev pub with_part : {F : Type 0} → ℕ → Part F → Sections F → Sections F
with_part n part s = record s { all = slice_set s.all s.current (longer n part (current_of s)); total = s.total + n }

abbrev pub put_within : {F : Type 0} → ℕ → Part F → Sections F → Result (Sections F) Refusal
put_within n part s = if exceeds (place_in (current_of s)) s.total n then Err TooLong else Ok (with_part n part s)

-- so many bytes more in the current section
unfoldable pub put : {F : Type 0} → ℕ → Part F → Sections F → Result (Sections F) Refusal
put n part s = if refuses (current_of s) part then Err Absolute else put_within n part s

-- The current section, which is absolute, goes on at a place before. It has no bytes, so nothing comes to stand over others. The
-- size of all is less by what it goes back.
abbrev pub set_back : {F : Type 0} → ℕ → Section F → Section F
set_back to s = record s { counter = Some to }

abbrev pub with_set_back : {F : Type 0} → ℕ → Sections F → Sections F
with_set_back to s = record s { all = slice_set s.all s.current (set_back to (current_of s)); total = s.total - (place_in (current_of s) - to) }

-- the bytes up to the next multiple
abbrev pub gap : ℕ → ℕ → ℕ
gap size boundary = (boundary - size % boundary) % boundary

abbrev pub raised : {F : Type 0} → ℕ → Section F → Section F
raised k s = record s { align = alignment (is_absolute s) (max s.align k) }

abbrev pub with_raised : {F : Type 0} → ℕ → Sections F → Sections F
with_raised k s = record s { all = slice_set s.all s.current (raised k (current_of s)) }

abbrev pub raise : {F : Type 0} → ℕ → Result (Sections F) Refusal → Result (Sections F) Refusal
raise k (Ok s) = Ok (with_raised k s)
raise k (Err refusal) = Err refusal

-- the current section up to a multiple of a power of two, which it is then aligned to at least
unfoldable pub aligned : {F : Type 0} → ℕ → Sections F → Result (Sections F) Refusal
aligned k s = let n = gap (place_in (current_of s)) (2 ^ k) in raise k (put n (Zeros n) s)

abbrev pub differs : Option ℕ → ℕ → Bool
differs (Some k) n = not (k == n)
differs None n = false

abbrev pub says_otherwise : Option Bool → Bool → Bool
says_otherwise (Some true) before = not before
says_otherwise (Some false) before = before
says_otherwise None before = false

-- of an absolute section nothing is said by it
abbrev pub overlays_otherwise : (absolute : Bool) → Option Bool → Bool → Bool
overlays_otherwise absolute said before = not absolute && says_otherwise said before

-- a later `.PSECT` may not say otherwise
abbrev pub conflicts : {F : Type 0} → Attributes → Section F → Bool
conflicts attributes s =
    differs attributes.align s.declared
    || (says_otherwise attributes.write s.write
    || (says_otherwise attributes.absolute (is_absolute s) || overlays_otherwise (is_absolute s) attributes.overlaid s.overlaid))

abbrev pub gone_back : {F : Type 0} → Attributes → Sections F → ℕ → Result (Sections F) Refusal
gone_back attributes s i = if conflicts attributes (slice_index_or s.all i unnamed) then Err Conflict else Ok (record s { current = i })

abbrev pub begun : {F : Type 0} → List ℕ → Attributes → Sections F → Option ℕ → Result (Sections F) Refusal
begun name attributes s (Some i) = gone_back attributes s i
begun name attributes s None = Ok (record s { all = s.all ++ made name attributes ∷ []; current = length s.all })

-- the number of the section with a name, where the first of these has number i
abbrev pub numbered : {F : Type 0} → ℕ → List ℕ → List (Section F) → Option ℕ
numbered i name [] = None
numbered i name (s ∷ sections) = if bytes_eq s.name name then Some i else numbered (i + 1) name sections

-- `.PSECT`: the section with this name, which begins if there is none
unfoldable pub selected : {F : Type 0} → List ℕ → Attributes → Sections F → Result (Sections F) Refusal
selected name attributes s = begun name attributes s (numbered 0 name s.all)
