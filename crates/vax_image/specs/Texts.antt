-- The texts of a file of the second version: areas that no mode may write share their bytes.
use Rattle.std.specs.Prelude.{ℕ, Bool, not, ◌&&◌, ◌==◌, if◌then◌else◌, List, [], ◌∷◌, ◌++◌, length}
use Rattle.std.specs.List.{position_or_len}
use Rattle.std.specs.Str.{bytes_eq}
use Rattle.vax_space.specs.declared.Access.TheVariants.{Write}
use Rattle.vax_space.specs.declared.Area.{Area}
use Rattle.vax_space.specs.Protection.{allows}

-- what an area without bytes has for the number of a text
abbrev pub no_text : ℕ
no_text = 0xFFFFFFFF

-- the bytes of the area that a text was written for, and whether no mode may write that area
pub record Text : Type 0 where
  pub bytes : List ℕ
  pub constant : Bool

abbrev pub is_constant : ℕ → Bool
is_constant prot = not (allows prot 0 Write)

abbrev pub is_shared : List ℕ → ℕ → Text → Bool
is_shared bytes prot text = text.constant && (is_constant prot && bytes_eq text.bytes bytes)

-- the place of the first text that an area shares, or the number of the texts
abbrev pub place_among : List Text → List ℕ → ℕ → ℕ
place_among texts bytes prot = position_or_len (is_shared bytes prot) texts

-- the number of an area's text, where these are the texts before: the first that it shares, or else the next new number
unfoldable pub number_among : List Text → List ℕ → ℕ → ℕ
number_among texts bytes prot = if length bytes == 0 then no_text else place_among texts bytes prot

abbrev pub number_of : List Text → Area → ℕ
number_of texts area = number_among texts area.bytes area.prot

-- the texts with an area's, if it is new
unfoldable pub texts_with : List Text → List ℕ → ℕ → List Text
texts_with texts bytes prot =
    if length bytes == 0 then texts
    else (if place_among texts bytes prot == length texts then texts ++ record { bytes = bytes; constant = is_constant prot } ∷ [] else texts)

abbrev pub texts_behind : List Text → Area → List Text
texts_behind texts area = texts_with texts area.bytes area.prot

-- the texts of these areas behind others
unfoldable pub texts_of : List Text → List Area → List Text
texts_of texts [] = texts
texts_of texts (area ∷ areas) = texts_of (texts_behind texts area) areas
