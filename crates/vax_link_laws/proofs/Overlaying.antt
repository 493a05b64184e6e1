-- Overlaid sections lie at the begin of their name's section, which has room for each.
use Rattle.std.proofs.Common.{◌≡◌, ℕ, ◌+◌, ◌*◌, ◌<◌, ◌≤◌, Bool, true, false, cond, List, [], ◌∷◌, ◌++◌, max, Ok, refl, sym, ap, subst, ◌∙◌, arith}
use Rattle.std.specs.Prelude.{◌&&◌}
use Rattle.std.proofs.lemmas.Slice.Eq.{bytes_eq-Decides}
use Rattle.vax_image.specs.declared.Base.{Base}
use Rattle.vax_image.specs.declared.Image.{Image}
use Rattle.vax_image.specs.Image.{is_in}
use Rattle.vax_link.proofs.ImageLaws.{covered_in_size, size_fits}
use Rattle.vax_link.specs.Layout.{covered_behind, covered_by, first_page_of, is_named, is_overlaid, offset_behind, pages_of, pieces_of}
use Rattle.vax_link.specs.Linked.{area_of, areas_of, linked}
use Rattle.vax_link.specs.Names.{Name}
use Rattle.vax_link.specs.Values.{filled_from, section_address}
use Rattle.vax_link_laws.proofs.Apart.{is_at}
use Rattle.vax_link_laws.proofs.Finding.{Has, among, page_here}
use Rattle.vax_link_laws.proofs.Laying.{has_area, is_linked}
use Rattle.vax_link_laws.specs.Holding.{HasSection}
use Rattle.vax_module.specs.declared.Module.{Module}
use Rattle.vax_module.specs.declared.Section.{Section}
use Rattle.vax_space.specs.Reference.{page_of}
use Rattle.vax_space.specs.declared.Area.{Area}

-- ---- where they begin

overlaid_begins : (region : Base) (modules : List Module) (owner number : ℕ) (s : Section) → HasSection modules owner number s → is_overlaid s ≡ true → section_address region modules owner number ≡ 512 * first_page_of region (pieces_of modules) s.name
overlaid_begins region modules owner number s has over =
    let at = is_at region modules owner number s has in
    let first : ℕ = 512 * first_page_of region (pieces_of modules) s.name in
    let here : first + 0 ≡ first = omega arith in
    at.address ∙ ap (λ b. first + cond b 0 (offset_behind (pieces_of modules) at.front s.name)) over ∙ here

pub shared : (region : Base) (modules : List Module) (owner number other index : ℕ) (s t : Section) → HasSection modules owner number s → HasSection modules other index t → is_overlaid s ≡ true → is_overlaid t ≡ true → s.name ≡ t.name
    → section_address region modules owner number ≡ section_address region modules other index
shared region modules owner number other index s t one two over laid same =
    overlaid_begins region modules owner number s one over ∙ ap (λ (n : Name). 512 * first_page_of region (pieces_of modules) n) same
    ∙ sym (overlaid_begins region modules other index t two laid)

-- ---- what they cover

kept : (b : Bool) (most more : ℕ) → most ≤ cond b (max most more) most
kept true most more = omega arith
kept false most more = omega arith

covered_grows : (name : Name) (most : ℕ) (pieces : List Section) → most ≤ covered_by name most pieces
covered_grows name most [] = omega arith
covered_grows name most (piece ∷ pieces) =
    let here = kept (is_named name piece && is_overlaid piece) most piece.storage in
    let next = covered_grows name (covered_behind name most piece) pieces in
    omega arith

taken : (a b : Bool) (most more : ℕ) → a ≡ true → b ≡ true → more ≤ cond (a && b) (max most more) most
taken true true most more p q = omega arith
taken true false most more p q = absurd cc
taken false b most more p q = absurd cc

covers : (most : ℕ) (front back : List Section) (s : Section) → is_overlaid s ≡ true → s.storage ≤ covered_by s.name most (front ++ (s ∷ back))
covers most [] back s over =
    let here = taken (is_named s.name s) (is_overlaid s) most s.storage ((bytes_eq-Decides s.name s.name).1 refl) over in
    let next = covered_grows s.name (covered_behind s.name most s) back in
    omega arith
covers most (x ∷ front) back s over = covers (covered_behind s.name most x) front back s over

pub covered : (region : Base) (modules : List Module) (image : Image) (owner number place : ℕ) (s : Section) → linked region modules ≡ Ok image → HasSection modules owner number s → is_overlaid s ≡ true → place < s.storage
    → is_in image.areas (section_address region modules owner number + place) ≡ true
covered region modules image owner number place s is has over less =
    let pieces : List Section = pieces_of modules in
    let filled : List (List ℕ) = filled_from region modules 0 modules in
    let at = is_at region modules owner number s has in
    let first : ℕ = first_page_of region pieces s.name in
    let begins : section_address region modules owner number ≡ 512 * first = overlaid_begins region modules owner number s has over in
    let all : s.storage ≤ covered_by s.name 0 pieces = subst (λ (ps : List Section). s.storage ≤ covered_by s.name 0 ps) (sym at.parted) (covers 0 at.front at.back s over) in
    let size = covered_in_size pieces s.name in
    let fits = size_fits pieces s.name in
    let small : place < 512 * pages_of pieces s.name = omega arith in
    let area : Area = area_of region pieces filled (s.name, first) in
    let has_one : Has (areas_of region pieces filled) area = has_area region pieces filled s at.front at.back at.parted (omega arith) in
    let address : ℕ = 512 * first + place in
    let low : first ≤ page_of address = omega arith in
    let high : page_of address < first + pages_of pieces s.name = omega arith in
    let there : is_in (areas_of region pieces filled) address ≡ true = among (areas_of region pieces filled) area address has_one (page_here area (page_of address) low high) in
    ap (λ (areas : List Area). is_in areas (section_address region modules owner number + place)) (is_linked region modules image is).areas
    ∙ ap (λ (n : ℕ). is_in (areas_of region pieces filled) (n + place)) begins ∙ there
