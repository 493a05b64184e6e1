-- A byte of a module's section stands in the image.
use Rattle.std.proofs.Common.{◌≡◌, ℕ, zero, suc, ◌+◌, ◌-◌, ◌*◌, ◌^◌, ◌<◌, ◌≤◌, Bool, true, false, cond, List, [], ◌∷◌, ◌++◌, length, get_or, Option, Some, None, Ok, Err, Result, refl, sym, ap, subst, ◌∙◌, arith, inl, inr}
use Rattle.std.specs.Prelude.{not, ◌&&◌, All, IfSome, ◌==◌, slice_get, slice_index}
use Rattle.std.specs.List.{filter, fold}
use Rattle.std.proofs.lemmas.Bool.{eqb-true}
use Rattle.std.proofs.lemmas.List.{append-nil, append_assoc}
use Rattle.vax_flat.specs.Memory.{byte_at}
use Rattle.vax_image.specs.declared.Base.{Base}
use Rattle.vax_image.specs.declared.Base.TheVariants.{Bare, User}
use Rattle.vax_image.specs.declared.Image.{Image}
use Rattle.vax_image.specs.Image.{AscendFrom, end_page, first_page, is_in}
use Rattle.vax_link.proofs.FillLaws.{AreWithin, filled_long, section_long as fields_long}
use Rattle.vax_link.proofs.ImageLaws.{areas_ascend, section_long, size_fits}
use Rattle.vax_link.proofs.LayoutLaws.{address_at, listed_piece}
use Rattle.vax_link.specs.declared.LinkError.{LinkError}
use Rattle.vax_link.specs.declared.LinkError.TheVariants.{Duplicate, Undefined, Pages, NoTransfer}
use Rattle.vax_link.specs.Layout.{addresses, addresses_from, first_page_of, first_piece, is_control_block, is_listed, is_overlaid, is_too_large, names_of, offset_behind, origin, page_behind, pages_from, pages_of, pages_of_names, pieces_of, placed_names}
use Rattle.vax_link.specs.Linked.{area_of, area_unless_empty, areas_of, begun, bytes_of, is_chosen, linked, placed, reached, refuses, transfer_from}
use Rattle.vax_link.specs.Names.{Name, duplicate, module_at, nothing, undefined}
use Rattle.vax_link.specs.Placed.{IsFilling}
use Rattle.vax_link.specs.Values.{filled_from, section_address, unreached_from, with_reloc}
use Rattle.vax_link_laws.specs.Holding.{HasField, HasSection, Holds}
use Rattle.vax_link_laws.proofs.Finding.{Has, IsFound, found, has_filter, has_left, has_map, has_place, has_right}
use Rattle.vax_link_laws.proofs.Joining.{IsPut, piece_there}
use Rattle.vax_link_laws.proofs.Parting.{Parted, in_modules}
use Rattle.vax_module.specs.Formed.{Formed, IsFieldOf, end_of as end_of_field}
use Rattle.vax_module.specs.declared.Module.{Module}
use Rattle.vax_module.specs.declared.Reloc.{Reloc}
use Rattle.vax_module.specs.declared.Section.{Section}
use Rattle.vax_space.specs.Areas.{end_of}
use Rattle.vax_space.specs.Reference.{page_of}
use Rattle.vax_space.specs.declared.Area.{Area}

-- ---- modules that are linked

pub record IsLinked (region : Base) (modules : List Module) (image : Image) : Type 0 where
  pub single : duplicate modules ≡ None
  pub room : is_too_large region (pieces_of modules) ≡ false
  pub near : unreached_from region modules 0 None modules ≡ None
  pub areas : image.areas ≡ areas_of region (pieces_of modules) (filled_from region modules 0 modules)

record Passes {X : Type 0} (o : Option X) (later : Result Image LinkError) (image : Image) : Type 0 where
  none : o ≡ None
  next : later ≡ Ok image

passed : {X : Type 0} (o : Option X) (error : X → LinkError) (next : Result Image LinkError) (image : Image) → refuses o error next ≡ Ok image → Passes o next image
passed None error next image is = record { none = refl; next = is }
passed (Some x) error next image is = absurd cc

room_passed : (b : Bool) (next : Result Image LinkError) (image : Image) → (let r : Result Image LinkError = cond b (Err Pages) next in r) ≡ Ok image → (b ≡ false) × (next ≡ Ok image)
room_passed true next image is = absurd cc
room_passed false next image is = (refl, is)

reach_passed : (o : Option ℕ) (r : Result Image LinkError) (image : Image) → reached o r ≡ Ok image → (o ≡ None) × (r ≡ Ok image)
reach_passed o (Err e) image is = absurd cc
reach_passed None (Ok i) image is = (refl, is)
reach_passed (Some x) (Ok i) image is = absurd cc

inside : (b : Bool) (i image : Image) → (let r : Result Image LinkError = cond b (Ok i) (Err NoTransfer) in r) ≡ Ok image → i ≡ image
inside true i image is = cc
inside false i image is = absurd cc

begun_areas : (region : Base) (areas : List Area) (t : Option ℕ) (image : Image) → begun region areas t ≡ Ok image → image.areas ≡ areas
begun_areas region areas None image is = absurd cc
begun_areas region areas (Some t) image is = sym (ap (λ (i : Image). i.areas) (inside (is_in areas t) (record { base = region; transfer = t; areas = areas }) image is))

placed_passed : (region : Base) (modules : List Module) (image : Image) → placed region modules ≡ Ok image
    → (unreached_from region modules 0 None modules ≡ None) × (image.areas ≡ areas_of region (pieces_of modules) (filled_from region modules 0 modules))
unfolding placed
placed_passed region modules image is =
    let areas : List Area = areas_of region (pieces_of modules) (filled_from region modules 0 modules) in
    let p = reach_passed (unreached_from region modules 0 None modules) (begun region areas (transfer_from region modules 0 modules)) image is in
    (p.0, begun_areas region areas (transfer_from region modules 0 modules) image p.1)

pub is_linked : (region : Base) (modules : List Module) (image : Image) → linked region modules ≡ Ok image → IsLinked region modules image
unfolding linked
is_linked region modules image is =
    let large : Bool = is_too_large region (pieces_of modules) in
    let third : Result Image LinkError = cond large (Err Pages) (placed region modules) in
    let a = passed (duplicate modules) Duplicate (refuses (undefined modules) Undefined third) image is in
    let b = passed (undefined modules) Undefined third image a.next in
    let c = room_passed large (placed region modules) image b.next in
    let d = placed_passed region modules image c.1 in
    record { single = a.none; room = c.0; near = d.0; areas = d.1 }

-- ---- where a section begins

pub address_there : (region : Base) (pieces before front back : List Section) (s : Section) → slice_index (addresses_from region pieces before (front ++ (s ∷ back))) (length front) ≡ address_at region pieces (before ++ front) s
unfolding addresses_from
address_there region pieces before [] back s = ap (λ (b : List Section). address_at region pieces b s) (sym (append-nil before))
address_there region pieces before (x ∷ front) back s = address_there region pieces (before ++ x ∷ []) front back s ∙ ap (λ (b : List Section). address_at region pieces b s) (append_assoc before (x ∷ []) front)

some_pages : (b : Bool) (n : ℕ) → (n == 0) ≡ b → 0 < n → b ≡ false
some_pages true n is some = absurd (let e = eqb-true n 0 is in omega arith)
some_pages false n is some = refl

-- one that has bytes isn't overlaid
not_overlaid : (s : Section) → 0 < length s.bytes → is_overlaid s ≡ false
not_overlaid s full = front_false (length s.bytes == 0) (not (s.storage == 0)) (some_pages (length s.bytes == 0) (length s.bytes) refl full)
  where
    front_false : (a b : Bool) → a ≡ false → (a && b) ≡ false
    front_false true b e = absurd cc
    front_false false b e = refl

-- where a section begins that lies behind others
abbrev pub behind_at : Base → List Section → List Section → Section → ℕ
behind_at region pieces front s = 512 * first_page_of region pieces s.name + offset_behind pieces front s.name

pub lies_behind : (region : Base) (pieces front : List Section) (s : Section) → 0 < length s.bytes → address_at region pieces front s ≡ behind_at region pieces front s
lies_behind region pieces front s full = ap (λ b. 512 * first_page_of region pieces s.name + cond b 0 (offset_behind pieces front s.name)) (not_overlaid s full)

-- ---- its area

pub pages_long : (region : Base) (pieces : List Section) (page : ℕ) (names : List Name) → length (pages_from region pieces page names) ≡ length names
unfolding pages_from
pages_long region pieces page [] = refl
pages_long region pieces page (name ∷ names) = ap suc (pages_long region pieces (page_behind region pieces page name) names)

chosen_either : (c : Bool) (region : Base) (name : Name) (first : ℕ) (places : List (Name × ℕ)) → is_control_block region name ≡ c → Has places (name, first) → Has (filter (is_chosen region true) places ++ filter (is_chosen region false) places) (name, first)
chosen_either true region name first places is h = has_left (filter (is_chosen region true) places) (filter (is_chosen region false) places) (name, first) (has_filter (is_chosen region true) places (name, first) is h)
chosen_either false region name first places is h = has_right (filter (is_chosen region true) places) (filter (is_chosen region false) places) (name, first) (has_filter (is_chosen region false) places (name, first) (ap not is) h)

pub has_area : (region : Base) (pieces : List Section) (filled : List (List ℕ)) (s : Section) (front back : List Section) → pieces ≡ front ++ (s ∷ back) → 0 < pages_of pieces s.name
    → Has (areas_of region pieces filled) (area_of region pieces filled (s.name, first_page_of region pieces s.name))
has_area region pieces filled s front back parted some =
    let name : Name = s.name in
    let first : ℕ = first_page_of region pieces name in
    let listed = ap (λ (ps : List Section). is_listed (names_of ps) name) parted ∙ listed_piece front back s in
    let place : Has (placed_names region pieces) (name, first) = has_place (names_of pieces) (pages_of_names region pieces) name listed (pages_long region pieces (origin region) (names_of pieces)) in
    let full : area_unless_empty region pieces filled (name, first) ≡ Some (area_of region pieces filled (name, first)) =
    ap (λ b. cond b None (Some (area_of region pieces filled (name, first)))) (some_pages (pages_of pieces name == 0) (pages_of pieces name) refl some) in
    has_map (area_unless_empty region pieces filled) (filter (is_chosen region true) (placed_names region pieces) ++ filter (is_chosen region false) (placed_names region pieces)) (name, first) (area_of region pieces filled (name, first)) full
    (chosen_either (is_control_block region name) region name first (placed_names region pieces) refl place)

-- ---- its bytes

record IsByte (areas : List Area) (address byte : ℕ) : Type 0 where
  below : address < 2 ^ 32
  there : is_in areas address ≡ true
  held : byte_at areas address ≡ byte

last_page : (region : Base) → end_page region ≤ 0x400800
last_page Bare = omega arith
last_page User = omega arith

area_below : (region : Base) (low : ℕ) (areas : List Area) (area : Area) → AscendFrom region low areas → Has areas area → end_of area ≤ 0x400800
area_below region low [] area ascend has = absurd has
area_below region low (x ∷ xs) area ascend (inl e) = let within = ascend.0.within in omega (arith, last_page region, within, ap (λ (a : Area). a.first) e, ap (λ (a : Area). a.pages) e)
area_below region low (x ∷ xs) area ascend (inr has) = area_below region (end_of x) xs area ascend.1 has

stands_parted : (region : Base) (front back : List Section) (s : Section) (before behind : List (List ℕ)) (bytes : List ℕ) (place : ℕ) → length before ≡ length front → IsFilling (front ++ (s ∷ back)) (before ++ (bytes ∷ behind))
    → is_too_large region (front ++ (s ∷ back)) ≡ false → place < length bytes
    → IsByte (areas_of region (front ++ (s ∷ back)) (before ++ (bytes ∷ behind))) (behind_at region (front ++ (s ∷ back)) front s + place) (get_or bytes place 0)
stands_parted region front back s before behind bytes place same filling room less =
    let pieces : List Section = front ++ (s ∷ back) in
    let filled : List (List ℕ) = before ++ (bytes ∷ behind) in
    let first : ℕ = first_page_of region pieces s.name in
    let offset : ℕ = offset_behind pieces front s.name in
    let address : ℕ = (512 * first + offset) + place in
    let put : IsPut bytes (bytes_of pieces filled s.name) offset place = piece_there front back s before behind bytes place same filling less in
    let size = section_long pieces filled s.name filling in
    let fits = size_fits pieces s.name in
    let small : offset + place < 512 * pages_of pieces s.name = omega (arith, put.less, size, fits) in
    let area : Area = area_of region pieces filled (s.name, first) in
    let has : Has (areas_of region pieces filled) area = has_area region pieces filled s front back refl (omega arith) in
    let low : first ≤ page_of address = omega arith in
    let high : page_of address < first + pages_of pieces s.name = omega arith in
    let at : IsFound (areas_of region pieces filled) area address = found region (first_page region) (areas_of region pieces filled) area address (areas_ascend region pieces filled filling room) has low high in
    let there : address - 512 * first ≡ offset + place = omega arith in
    let last = area_below region (first_page region) (areas_of region pieces filled) area (areas_ascend region pieces filled filling room) has in
    record { below = omega arith; there = at.there; held = at.held ∙ ap (λ (i : ℕ). get_or (bytes_of pieces filled s.name) i 0) there ∙ put.same }

stands_among : (region : Base) (pieces : List Section) (filled : List (List ℕ)) (s : Section) (bytes : List ℕ) (count place : ℕ) → 0 < length s.bytes → Parted pieces filled s bytes count → IsFilling pieces filled → is_too_large region pieces ≡ false → place < length bytes
    → IsByte (areas_of region pieces filled) (slice_index (addresses region pieces) count + place) (get_or bytes place 0)
stands_among region pieces filled s bytes count place full p filling room less =
    let P : List Section = p.front ++ (s ∷ p.back) in
    let F : List (List ℕ) = p.before ++ (bytes ∷ p.behind) in
    let in_parts : IsFilling P F = subst (λ (ps : List Section). IsFilling ps F) p.sections_are (subst (λ (fs : List (List ℕ)). IsFilling pieces fs) p.filled_are filling) in
    let here = stands_parted region p.front p.back s p.before p.behind bytes place (p.same ∙ sym p.many) in_parts (subst (λ (ps : List Section). is_too_large region ps ≡ false) p.sections_are room) less in
    let address : behind_at region P p.front s ≡ slice_index (addresses region pieces) count =
    sym (lies_behind region P p.front s full)
    ∙ sym (ap (λ (n : ℕ). slice_index (addresses region pieces) n) (sym p.many) ∙ ap (λ (ps : List Section). slice_index (addresses region ps) (length p.front)) p.sections_are ∙ address_there region P [] p.front p.back s) in
    subst (λ (ps : List Section). IsByte (areas_of region ps filled) (slice_index (addresses region pieces) count + place) (get_or bytes place 0)) (sym p.sections_are)
    (subst (λ (fs : List (List ℕ)). IsByte (areas_of region P fs) (slice_index (addresses region pieces) count + place) (get_or bytes place 0)) (sym p.filled_are)
    (subst (λ (a : ℕ). IsByte (areas_of region P F) (a + place) (get_or bytes place 0)) address here))

-- ---- a module's own section

owner_in : (modules : List Module) (owner number : ℕ) (s : Section) → HasSection modules owner number s → owner < length modules
owner_in [] owner number s has = absurd cc
owner_in (m ∷ modules) zero number s has = omega arith
owner_in (m ∷ modules) (suc owner) number s has = let h = owner_in modules owner number s has in omega arith

pub field_owner : (modules : List Module) (owner : ℕ) (r : Reloc) → HasField modules owner r → owner < length modules
field_owner [] owner r has = absurd (let less = has.1 in omega arith)
field_owner (m ∷ modules) zero r has = omega arith
field_owner (m ∷ modules) (suc owner) r has = let h = field_owner modules owner r has in omega arith

pub formed_at : (modules : List Module) (owner number : ℕ) (s : Section) → All Formed modules → HasSection modules owner number s → Formed (module_at modules owner)
formed_at modules owner number s formed has = formed owner nothing (owner_in modules owner number s has)

pub within_of : (sections : List Section) (relocs : List Reloc) (number : ℕ) (s : Section) → All (IsFieldOf sections) relocs → slice_get sections number ≡ Some s → AreWithin number (length s.bytes) relocs
within_of sections relocs number s fields is = λ j d lt same.
    subst (λ (o : Option Section). IfSome o (λ t. end_of_field (get_or relocs j d) ≤ length t.bytes)) (ap (slice_get sections) same ∙ is) (fields j d lt).1

-- a module's section with its fields filled in
abbrev pub filled_of : Base → List Module → ℕ → ℕ → Section → List ℕ
filled_of region modules owner number s = fold (with_reloc region modules owner number) s.bytes (module_at modules owner).relocs

pub stands : (region : Base) (modules : List Module) (image : Image) (owner number place : ℕ) (s : Section) → All Formed modules → linked region modules ≡ Ok image → HasSection modules owner number s → place < length s.bytes
    → Holds image (section_address region modules owner number + place) (get_or (filled_of region modules owner number s) place 0)
stands region modules image owner number place s formed is has less =
    let l = is_linked region modules image is in
    let m : Module = module_at modules owner in
    let bytes : List ℕ = fold (with_reloc region modules owner number) s.bytes m.relocs in
    let long : length bytes ≡ length s.bytes = fields_long region modules owner number (length s.bytes) s.bytes m.relocs refl (within_of m.sections m.relocs number s (formed_at modules owner number s formed has).fields has) in
    let p = in_modules region modules 0 modules owner owner number s has (omega arith) in
    let here = stands_among region (pieces_of modules) (filled_from region modules 0 modules) s bytes (first_piece modules owner + number) place (omega arith) p (filled_long region modules 0 modules formed) l.room (omega arith) in
    record {
      below = here.below;
      there = ap (λ (areas : List Area). is_in areas (section_address region modules owner number + place)) l.areas ∙ here.there;
      held = ap (λ (areas : List Area). byte_at areas (section_address region modules owner number + place)) l.areas ∙ here.held;
    }
