-- Reading a file from its first field to its last, with the first fault that is met and where its field begins.
use Rattle.std.specs.Prelude.{◌≡◌, ℕ, zero, suc, ◌+◌, ◌*◌, Bool, true, not, ◌||◌, ◌==◌, nat_lt, nat_le, if◌then◌else◌, List, [], ◌∷◌, length, take, drop, slice_index_or, Result, Ok, Err}
use Rattle.std.specs.Str.{bytes_eq}
use Rattle.byteorder.specs.Endian.{little_number}
use Rattle.vax_space.specs.declared.Area.{Area}
use Rattle.vax_space.specs.Areas.{end_of}
use Rattle.vax_space.specs.Faults.{is_protection}
use Rattle.vax_image.specs.declared.Base.{Base}
use Rattle.vax_image.specs.declared.Base.TheVariants.{Bare, User}
use Rattle.vax_image.specs.declared.Image.{Image}
use Rattle.vax_image.specs.declared.ImageError.{ImageError}
use Rattle.vax_image.specs.declared.ImageError.TheVariants.{Fault, NoMemory}
use Rattle.vax_image.specs.Kinds.{no_magic, other_version, other_base, wrong_count, wrong_pages, no_protection, wrong_length, ends_early, goes_on, begins_nowhere, wrong_text}
use Rattle.vax_image.specs.Texts.{no_text}
use Rattle.vax_image.specs.Image.{first_page, end_page, is_in}
use Rattle.vax_image.specs.Texts.{Text, number_among, texts_with}
use Rattle.vax_image.specs.File.{magic}

-- what is left of a file, and the offset at which that begins
pub record Cursor : Type 0 where
  pub place : ℕ
  pub rest : List ℕ

infixl 10 ◌>>=◌
abbrev pub ◌>>=◌ : {A B : Type 0} → Result A ImageError → (A → Result B ImageError) → Result B ImageError
(Ok x) >>= f = f x
(Err e) >>= f = Err e

-- what a function returned, seen by view, is what reading gives, unless memory was refused
abbrev pub Fails : {Y : Type 0} → ImageError → Result Y ImageError → Type 0
Fails NoMemory read = Unit {0}
Fails (Fault place kind) read = read ≡ Err (Fault place kind)

abbrev pub Gives : {X Y : Type 0} → (X → Y) → Result X ImageError → Result Y ImageError → Type 0
Gives view (Ok x) read = read ≡ Ok (view x)
Gives view (Err e) read = Fails e read

-- a field that is sound gives its value and what stands behind it
abbrev pub unless : {X : Type 0} → Bool → ℕ → ℕ → X → Result X ImageError
unless faulty place kind x = if faulty then Err (Fault place kind) else Ok x

unfoldable pub bytes_at : ℕ → Cursor → Result (List ℕ × Cursor) ImageError
bytes_at len from = unless (nat_lt (length from.rest) len) from.place ends_early (take len from.rest, record { place = from.place + len; rest = drop len from.rest })

unfoldable pub number_at : ℕ → Cursor → Result (ℕ × Cursor) ImageError
number_at len from = do
  field ← bytes_at len from
  Ok (little_number len field.0, field.1)

unfoldable pub magic_at : Cursor → Result Cursor ImageError
magic_at from = do
  field ← bytes_at 4 from
  unless (not (bytes_eq field.0 magic)) from.place no_magic field.1

unfoldable pub version_at : Cursor → Result (ℕ × Cursor) ImageError
version_at from = do
  field ← number_at 2 from
  unless (not (field.0 == 1 || field.0 == 2)) from.place other_version field

abbrev pub base_of : ℕ → Base
base_of n = if n == 0 then Bare else User

unfoldable pub base_at : Cursor → Result (Base × Cursor) ImageError
base_at from = do
  field ← number_at 2 from
  unless (nat_lt 1 field.0) from.place other_base (base_of field.0, field.1)

-- how many areas there are
unfoldable pub count_at : Cursor → Result (ℕ × Cursor) ImageError
count_at from = do
  field ← number_at 4 from
  unless (field.0 == 0 || nat_lt 64 field.0) from.place wrong_count field

-- the first page and the number of the pages of an area that stands at page `low` or behind it
unfoldable pub pages_at : Base → ℕ → Cursor → Result ((ℕ × ℕ) × Cursor) ImageError
pages_at base low from = do
  first ← number_at 4 from
  pages ← number_at 4 first.1
  unless (pages.0 == 0 || (nat_lt first.0 low || nat_lt (end_page base) (first.0 + pages.0))) from.place wrong_pages ((first.0, pages.0), pages.1)

unfoldable pub protection_at : Cursor → Result (ℕ × Cursor) ImageError
protection_at from = do
  field ← number_at 4 from
  unless (not (is_protection field.0)) from.place no_protection field

-- the number of an area's bytes
unfoldable pub length_at : ℕ → Cursor → Result (ℕ × Cursor) ImageError
length_at pages from = do
  field ← number_at 4 from
  unless (nat_lt (512 * pages) field.0) from.place wrong_length field

unfoldable pub area_at : Base → ℕ → Cursor → Result (Area × Cursor) ImageError
area_at base low from = do
  pages ← pages_at base low from
  prot ← protection_at pages.1
  len ← length_at pages.0.1 prot.1
  bytes ← bytes_at len.0 len.1
  Ok (record { first = pages.0.0; pages = pages.0.1; prot = prot.0; bytes = bytes.0 }, bytes.1)

-- so many areas, each behind the one before it
unfoldable pub areas_at : Base → ℕ → ℕ → Cursor → Result (List Area × Cursor) ImageError
areas_at region low zero from = Ok ([], from)
areas_at region low (suc count) from = do
  first ← area_at region low from
  others ← areas_at region (end_of first.0) count first.1
  Ok (first.0 ∷ others.0, others.1)

-- the fields of a file: its image, whether each of its texts is used, and what stands behind
pub record Contents : Type 0 where
  pub image : Image
  pub complete : Bool
  pub end : Cursor

-- the fields of version 1 behind the version
unfoldable pub contents_1 : Cursor → Result Contents ImageError
contents_1 from = do
  base ← base_at from
  transfer ← number_at 4 base.1
  count ← count_at transfer.1
  areas ← areas_at base.0 (first_page base.0) count.0 count.1
  Ok (record { image = record { base = base.0; transfer = transfer.0; areas = areas.0 }; complete = true; end = areas.1 })

-- how many texts there are
unfoldable pub text_count_at : Cursor → Result (ℕ × Cursor) ImageError
text_count_at from = do
  field ← number_at 4 from
  unless (nat_lt 64 field.0) from.place wrong_count field

unfoldable pub text_at : Cursor → Result (List ℕ × Cursor) ImageError
text_at from = do
  len ← number_at 4 from
  sound ← unless (len.0 == 0 || nat_lt 16777216 len.0) from.place wrong_length len
  bytes_at sound.0 sound.1

unfoldable pub texts_at : ℕ → Cursor → Result (List (List ℕ) × Cursor) ImageError
texts_at zero from = Ok ([], from)
texts_at (suc count) from = do
  first ← text_at from
  others ← texts_at count first.1
  Ok (first.0 ∷ others.0, others.1)

-- the text that a number names, where areas before have taken these
unfoldable pub named : List (List ℕ) → List Text → ℕ → ℕ → ℕ → ℕ → Result (List ℕ) ImageError
named texts taken pages prot place number =
    if number == no_text then Ok []
    else (if nat_le (length texts) number then Err (Fault place wrong_text)
    else (let text = slice_index_or texts number [] in
    if not (number_among taken text prot == number) then Err (Fault place wrong_text)
    else unless (nat_lt (512 * pages) (length text)) place wrong_length text))

-- an area with the number of its text, and the texts that areas have taken then
unfoldable pub numbered_area_at : Base → ℕ → List (List ℕ) → List Text → Cursor → Result ((Area × List Text) × Cursor) ImageError
numbered_area_at base low texts taken from = do
  pages ← pages_at base low from
  prot ← protection_at pages.1
  number ← number_at 4 prot.1
  text ← named texts taken pages.0.1 prot.0 prot.1.place number.0
  Ok ((record { first = pages.0.0; pages = pages.0.1; prot = prot.0; bytes = text }, texts_with taken text prot.0), number.1)

unfoldable pub numbered_areas_at : Base → ℕ → List (List ℕ) → List Text → ℕ → Cursor → Result ((List Area × List Text) × Cursor) ImageError
numbered_areas_at region low texts taken zero from = Ok (([], taken), from)
numbered_areas_at region low texts taken (suc count) from = do
  first ← numbered_area_at region low texts taken from
  others ← numbered_areas_at region (end_of first.0.0) texts first.0.1 count first.1
  Ok ((first.0.0 ∷ others.0.0, others.0.1), others.1)

-- the fields of version 2 behind the version
unfoldable pub contents_2 : Cursor → Result Contents ImageError
contents_2 from = do
  base ← base_at from
  transfer ← number_at 4 base.1
  text_count ← text_count_at transfer.1
  count ← count_at text_count.1
  texts ← texts_at text_count.0 count.1
  areas ← numbered_areas_at base.0 (first_page base.0) texts.0 [] count.0 texts.1
  Ok (record {
    image = record { base = base.0; transfer = transfer.0; areas = areas.0.0 };
    complete = length areas.0.1 == length texts.0;
    end = areas.1;
  })

-- no bytes behind the last field, no text that isn't used, and a beginning within an area
unfoldable pub ended : Contents → Result Image ImageError
ended contents =
    if not (length contents.end.rest == 0) then Err (Fault contents.end.place goes_on)
    else (if not contents.complete then Err (Fault 12 wrong_text)
    else unless (not (is_in contents.image.areas contents.image.transfer)) 8 begins_nowhere contents.image)

abbrev pub contents_of : ℕ → Cursor → Result Contents ImageError
contents_of version from = if version == 1 then contents_1 from else contents_2 from

-- the fields of a file
unfoldable pub contents_at : Cursor → Result Contents ImageError
contents_at from = do
  body ← magic_at from
  version ← version_at body
  contents_of version.0 version.1

-- all of the bytes
unfoldable pub image_of : List ℕ → Result Image ImageError
image_of bytes = do
  contents ← contents_at (record { place = 0; rest = bytes })
  ended contents
