-- An image as a file, in two versions. Numbers are little-endian, and nothing stands between or behind the fields.
use Rattle.std.specs.Prelude.{◌≡◌, ◌⊎◌, ℕ, List, [], ◌∷◌, ◌++◌, length, codes}
use Rattle.std.specs.List.{flat_map}
use Rattle.byteorder.specs.Endian.{little_bytes}
use Rattle.vax_space.specs.declared.Area.{Area}
use Rattle.vax_image.specs.declared.Base.{Base}
use Rattle.vax_image.specs.declared.Base.TheVariants.{Bare, User}
use Rattle.vax_image.specs.declared.Image.{Image}
use Rattle.vax_image.specs.Image.{IsImage}
use Rattle.vax_image.specs.Texts.{Text, number_of, texts_behind, texts_of}

abbrev pub word : ℕ → List ℕ
word n = little_bytes 2 n

abbrev pub longword : ℕ → List ℕ
longword n = little_bytes 4 n

abbrev pub magic : List ℕ
magic = codes "VAXI"

abbrev pub base_number : Base → ℕ
base_number Bare = 0
base_number User = 1

-- the base and the transfer address
abbrev pub entry : Image → List ℕ
entry image = word (base_number image.base) ++ longword image.transfer

-- where an area lies, and its protection code
abbrev pub placing : Area → List ℕ
placing area = longword area.first ++ (longword area.pages ++ longword area.prot)

-- a length, and that many bytes
abbrev pub counted : List ℕ → List ℕ
counted bytes = longword (length bytes) ++ bytes

abbrev pub area_field : Area → List ℕ
area_field area = placing area ++ counted area.bytes

-- the fields of version 1 behind the version
unfoldable pub fields_1 : Image → List ℕ
fields_1 image = entry image ++ (longword (length image.areas) ++ flat_map area_field image.areas)

abbrev pub text_field : Text → List ℕ
text_field text = counted text.bytes

-- each area has the number of its text
unfoldable pub numbered : List Text → List Area → List ℕ
numbered texts [] = []
numbered texts (area ∷ areas) = (placing area ++ longword (number_of texts area)) ++ numbered (texts_behind texts area) areas

-- the fields of version 2 behind the version
unfoldable pub fields_2 : Image → List ℕ
fields_2 image =
    entry image
    ++ (longword (length (texts_of [] image.areas))
    ++ (longword (length image.areas)
    ++ (flat_map text_field (texts_of [] image.areas)
    ++ numbered [] image.areas)))

abbrev pub spelling_1 : Image → List ℕ
spelling_1 image = magic ++ (word 1 ++ fields_1 image)

abbrev pub spelling_2 : Image → List ℕ
spelling_2 image = magic ++ (word 2 ++ fields_2 image)

-- the bytes are the image's file of version 1
pub record File (image : Image) (bytes : List ℕ) : Type 0 where
  pub image_is : IsImage image
  pub spelled : bytes ≡ spelling_1 image

-- the same of version 2
pub record File2 (image : Image) (bytes : List ℕ) : Type 0 where
  pub image_is : IsImage image
  pub spelled : bytes ≡ spelling_2 image

-- the bytes are a file of the image
abbrev pub IsSpelled : Image → List ℕ → Type 0
IsSpelled image bytes = File image bytes ⊎ File2 image bytes
