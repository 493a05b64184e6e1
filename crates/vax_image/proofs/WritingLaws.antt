-- A file that is written area by area.
use Rattle.std.proofs.Common.{◌≡◌, ℕ, ◌+◌, ◌^◌, ◌<◌, ◌≤◌, true, List, [], ◌∷◌, ◌++◌, length, take, drop, get_or, All, sym, ap, ◌∙◌, append_assoc, arith}
use Rattle.std.specs.List.{flat_map, AllByRecursion}
use Rattle.std.proofs.lemmas.List.{append-nil, take_more, drop_more, drop_all, flat_map_more}
use Rattle.std.proofs.lemmas.List.Elements.{All-from_recursion}
use Rattle.vax_space.specs.declared.Area.{Area}
use Rattle.vax_space.specs.Areas.{end_of}
use Rattle.vax_space.specs.Faults.{is_protection}
use Rattle.vax_image.specs.declared.Base.{Base}
use Rattle.vax_image.specs.declared.Image.{Image}
use Rattle.vax_image.specs.Image.{first_page, AscendFrom, IsImage}
use Rattle.vax_image.specs.Texts.{Text, number_of, texts_behind, texts_of}
use Rattle.vax_image.specs.File.{magic, word, longword, placing, counted, entry, area_field, text_field, numbered, fields_2, spelling_2}
use Rattle.vax_image.proofs.FirstVersion.{bytes_small}
use Rattle.vax_image.proofs.SecondVersion.{IsTextSized, texts_sized}

prot_small : (n : ℕ) → is_protection n ≡ true → n ≤ 15
unfolding is_protection
prot_small n sound = grind arith

abbrev IsSmall : Area → Type 0
IsSmall area = (length area.bytes < 2 ^ 32) × (area.prot ≤ 15)

all_small : (base : Base) (low : ℕ) (areas : List Area) → AscendFrom base low areas → AllByRecursion IsSmall areas
all_small base low [] ascend = tt
all_small base low (area ∷ areas) ascend =
    let small = bytes_small base low area ascend.0 in
    ((omega arith, prot_small area.prot ascend.0.code), all_small base (end_of area) areas ascend.1)

-- each area's bytes and code have room in their fields
pub areas_small : (image : Image) → IsImage image → All (λ area. (length area.bytes < 2 ^ 32) × (area.prot ≤ 15)) image.areas
areas_small image is = All-from_recursion IsSmall image.areas (all_small image.base (first_page image.base) image.areas is.areas)

pub area_more : (header out : List ℕ) (areas : List Area) (i : ℕ) (area : Area) → i < length areas → area ≡ get_or areas i area → out ≡ header ++ flat_map area_field (take i areas)
    → (out ++ placing area) ++ counted area.bytes ≡ header ++ flat_map area_field (take (i + 1) areas)
area_more header out areas i area lt at before =
    let more : take (i + 1) areas ≡ take i areas ++ area ∷ [] = take_more areas i area lt ∙ ap (λ (a : Area). take i areas ++ a ∷ []) (sym at) in
    append_assoc out (placing area) (counted area.bytes) ∙ ap (λ (t : List ℕ). t ++ area_field area) before ∙ flat_map_more area_field header (take i areas) area ∙ ap (λ (xs : List Area). header ++ flat_map area_field xs) (sym more)

pub numbered_more : (out : List ℕ) (texts next : List Text) (areas : List Area) (i : ℕ) (area : Area) (total : List ℕ) → i < length areas → area ≡ get_or areas i area → next ≡ texts_behind texts area
    → out ++ numbered texts (drop i areas) ≡ total → ((out ++ placing area) ++ longword (number_of texts area)) ++ numbered next (drop (i + 1) areas) ≡ total
unfolding numbered
numbered_more out texts next areas i area total lt at behind before =
    let rest : drop i areas ≡ area ∷ drop (i + 1) areas = drop_more areas i area lt ∙ ap (λ (a : Area). a ∷ drop (i + 1) areas) (sym at) in
    let field : List ℕ = placing area ++ longword (number_of texts area) in
    ap (λ (t : List ℕ). t ++ numbered next (drop (i + 1) areas)) (append_assoc out (placing area) (longword (number_of texts area)))
    ∙ append_assoc out field (numbered next (drop (i + 1) areas))
    ∙ ap (λ (ts : List Text). out ++ (field ++ numbered ts (drop (i + 1) areas))) behind
    ∙ ap (λ (xs : List Area). out ++ numbered texts xs) (sym rest) ∙ before

pub texts_more : (texts next : List Text) (areas : List Area) (i : ℕ) (area : Area) (total : List Text) → i < length areas → area ≡ get_or areas i area → next ≡ texts_behind texts area
    → texts_of texts (drop i areas) ≡ total → texts_of next (drop (i + 1) areas) ≡ total
unfolding texts_of
texts_more texts next areas i area total lt at behind before =
    let rest : drop i areas ≡ area ∷ drop (i + 1) areas = drop_more areas i area lt ∙ ap (λ (a : Area). a ∷ drop (i + 1) areas) (sym at) in
    ap (λ (ts : List Text). texts_of ts (drop (i + 1) areas)) behind ∙ ap (λ (xs : List Area). texts_of texts xs) (sym rest) ∙ before

pub numbered_all : (out : List ℕ) (texts : List Text) (areas : List Area) (i : ℕ) (total : List ℕ) → length areas ≤ i → out ++ numbered texts (drop i areas) ≡ total → out ≡ total
unfolding numbered
numbered_all out texts areas i total le before = sym (append-nil out) ∙ ap (λ (xs : List Area). out ++ numbered texts xs) (sym (drop_all i areas le)) ∙ before

pub texts_all : (texts : List Text) (areas : List Area) (i : ℕ) (total : List Text) → length areas ≤ i → texts_of texts (drop i areas) ≡ total → texts ≡ total
unfolding texts_of
texts_all texts areas i total le before = ap (λ (xs : List Area). texts_of texts xs) (sym (drop_all i areas le)) ∙ before

fit_32 : (texts : List Text) → AllByRecursion IsTextSized texts → AllByRecursion (λ text. length text.bytes < 2 ^ 32) texts
fit_32 [] sized = tt
fit_32 (text ∷ texts) sized = (let h = sized.0.1 in omega arith, fit_32 texts sized.1)

pub texts_fit : (image : Image) → IsImage image → All (λ text. length text.bytes < 2 ^ 32) (texts_of [] image.areas)
texts_fit image is = All-from_recursion (λ text. length text.bytes < 2 ^ 32) (texts_of [] image.areas) (fit_32 (texts_of [] image.areas) (texts_sized image.base (first_page image.base) image.areas [] is.areas (omega arith) tt))

-- the fields of version 2, one written behind the other
pub written_2 : (image : Image) (areas : List Area) (texts : List Text) (fields o0 o1 o2 o3 o4 o5 o6 : List ℕ) (n : ℕ) → areas ≡ image.areas → texts ≡ texts_of [] areas → fields ≡ numbered [] areas → n ≡ length texts
    → o0 ≡ magic → o1 ≡ o0 ++ word 2 → o2 ≡ o1 ++ entry image → o3 ≡ o2 ++ longword n → o4 ≡ o3 ++ longword (length areas) → o5 ≡ o4 ++ flat_map text_field texts → o6 ≡ o5 ++ fields → o6 ≡ spelling_2 image
unfolding fields_2
written_2 image areas texts fields o0 o1 o2 o3 o4 o5 o6 n areas_are texts_are fields_are n_is e0 e1 e2 e3 e4 e5 e6 =
    let spelled : (k : ℕ) (ts : List Text) (fs : List ℕ) (xs : List Area) → List ℕ = λ k ts fs xs. magic ++ (word 2 ++ (entry image ++ (longword k ++ (longword (length xs) ++ (flat_map text_field ts ++ fs))))) in
    e6 ∙ ap (λ (t : List ℕ). t ++ fields) (e5 ∙ ap (λ (t : List ℕ). t ++ flat_map text_field texts) (e4 ∙ ap (λ (t : List ℕ). t ++ longword (length areas)) (e3 ∙ ap (λ (t : List ℕ). t ++ longword n) (e2 ∙ ap (λ (t : List ℕ). t ++ entry image) (e1 ∙ ap (λ (t : List ℕ). t ++ word 2) e0)))))
    ∙ ap (λ (k : ℕ). spelled k texts fields areas) n_is ∙ ap (λ (ts : List Text). spelled (length ts) ts fields areas) texts_are ∙ ap (λ (fs : List ℕ). spelled (length (texts_of [] areas)) (texts_of [] areas) fs areas) fields_are
    ∙ ap (λ (xs : List Area). spelled (length (texts_of [] xs)) (texts_of [] xs) (numbered [] xs) xs) areas_are
