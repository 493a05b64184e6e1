-- The bytes of a state, by what a machine keeps.
use Rattle.std.proofs.Common.{◌≡◌, ℕ, zero, suc, ◌+◌, ◌-◌, ◌≤◌, ◌<◌, true, false, List, [], ◌∷◌, ◌++◌, length, drop, get_or, Option, Some, None, refl, sym, ap, ◌∙◌, subst, append_assoc, arith, inl, inr}
use Rattle.std.specs.Prelude.{is_some}
use Rattle.std.specs.List.{flat_map, range_with_len}
use Rattle.std.proofs.lemmas.Bool.{cases_Bool, le-leb, lt-ltb}
use Rattle.std.proofs.lemmas.Grind.{flat_map-append}
use Rattle.std.proofs.lemmas.List.{drop_all, get_or_default}
use Rattle.vax_space.specs.declared.Area.{Area}
use Rattle.vax_space.specs.Areas.{area_of, end_of, has_page, pages_of}
use Rattle.vax_space.specs.Faults.{IsSpace, end_before}
use Rattle.vax_space.proofs.AreaFaults.{placed_some}
use Rattle.vax_space.proofs.Extents.{area_end, end_at, fits_at, rest_at}
use Rattle.vax_outside.specs.Blocks.{BlockFile}
use Rattle.vax_flat.specs.Parts.{Place, machine_at}
use Rattle.vax_flat.specs.Port.{layout}
use Rattle.vax_flat.specs.Step.{Flat}
use Rattle.vax_pager.specs.Meaning.{pages}
use Rattle.vax_pager.specs.Paging.{Paging, StandsWith}
use Rattle.vax_machine.specs.Machine.{Means, keeping}
use Rattle.vax_machine.specs.declared.engine.Engine.{Engine}
use Rattle.vax_save.specs.Saved.{area_field, areas_field, content_field, end_mark, heading, input_field, is_blank, longword, memory_field, page_field, pages_field, registers_field, saved}
use Rattle.vax_outside.specs.Channels.{Channels, Grew, GrewByPrefix, only}
use Rattle.vax_outside.specs.declared.traits.Chan.TheVariants.{State}
use Rattle.vax_save.specs.Stream.{Cuts, Leaves, Puts, Stream, stream}
use Rattle.vax_save.proofs.Streaming.{cuts_next, leaves_next, leaves_same, whole_cut, whole_lost, whole_put}
use Rattle.vax_save.specs.Saving.{IsKept, front_fields}

-- what is kept

pub kept_same : (m : Engine) (file : Option BlockFile) → IsKept m file m file
kept_same m file = record { cpu = refl; keeps = refl; pages = refl; means = λ place h. h; reads = refl }

pub kept_then : (a b c : Engine) (x y z : Option BlockFile) → IsKept a x b y → IsKept b y c z → IsKept a x c z
kept_then a b c x y z p q = record {
  cpu = q.cpu ∙ p.cpu;
  keeps = q.keeps ∙ p.keeps;
  pages = q.pages ∙ p.pages;
  means = λ place h. q.means place (p.means place h);
  reads = q.reads ∙ p.reads;
}

-- there are few areas

some_area : Area
some_area = record { first = 0; pages = 0; prot = 0; bytes = [] }

count_low : (areas : List Area) (i : ℕ) → IsSpace areas → i ≤ length areas → i ≤ end_before areas i
count_low areas zero space le = omega arith
count_low areas (suc i) space le =
    let area : Area = get_or areas i some_area in
    let lt : i < length areas = omega (arith, le) in
    let is : area ≡ get_or areas i area = get_or_default areas i some_area area lt in
    let fits = fits_at areas i area space lt is in
    let order = fits.order in
    let some = placed_some area fits.placed in
    let before = count_low areas i space (omega (arith, le)) in
    let one : i + 1 ≡ suc i = omega arith in
    let end : end_before areas (suc i) ≡ end_of area = ap (end_before areas) (sym one) ∙ end_at areas i area lt is in
    omega (arith, order, some, before, end)

pub few_areas : (areas : List Area) → IsSpace areas → length areas ≤ 0x401000
few_areas [] space = omega arith
few_areas (first ∷ others) space =
    let areas : List Area = first ∷ others in
    let i : ℕ = length others in
    let area : Area = get_or areas i some_area in
    let lt : i < length areas = omega arith in
    let is : area ≡ get_or areas i area = get_or_default areas i some_area area lt in
    let end = area_end areas i area space lt is in
    let fits = fits_at areas i area space lt is in
    let some = placed_some area fits.placed in
    let order = fits.order in
    let low = count_low areas i space (omega arith) in
    omega (arith, end, some, order, low)

-- the pages of an area

pub pages_split : (areas : List Area) (i : ℕ) (area : Area) → i < length areas → area ≡ get_or areas i area → flat_map pages_of (drop i areas) ≡ range_with_len area.first area.pages ++ flat_map pages_of (drop (i + 1) areas)
pages_split areas i area lt is = ap (flat_map pages_of) (rest_at areas i area lt is)

has_it : (area : Area) (k : ℕ) → k < area.pages → has_page area (area.first + k) ≡ true
unfolding has_page
has_it area k lt = rw (le-leb area.first (area.first + k) (omega arith), lt-ltb (area.first + k) (end_of area) (omega (arith, lt))) refl

found : (areas : List Area) (i : ℕ) (area : Area) (page : ℕ) → i < length areas → area ≡ get_or areas i area → has_page area page ≡ true → is_some (area_of areas page) ≡ true
unfolding area_of
found [] i area page lt is h = absurd (omega (arith, lt))
found (first ∷ others) zero area page lt is h = rw (ap (λ (a : Area). has_page a page) (sym is) ∙ h) refl
found (first ∷ others) (suc i) area page lt is h = elim (cases_Bool (has_page first page)) [
  | inl t ↦ rw t refl
  | inr f ↦ rw f (found others i area page (omega (arith, lt)) is h)
]

pub page_inside : (areas : List Area) (i : ℕ) (area : Area) (k : ℕ) → i < length areas → area ≡ get_or areas i area → k < area.pages → is_some (area_of areas (area.first + k)) ≡ true
page_inside areas i area k lt is within = found areas i area (area.first + k) lt is (has_it area k within)

-- areas alike have the same fields

length_layout : (areas : List Area) → length (layout areas) ≡ length areas
unfolding layout
length_layout [] = refl
length_layout (area ∷ areas) = ap suc (length_layout areas)

fields_layout : (areas : List Area) → flat_map area_field (layout areas) ≡ flat_map area_field areas
unfolding layout
fields_layout [] = refl
fields_layout (area ∷ areas) = ap (λ (z : List ℕ). area_field area ++ z) (fields_layout areas)

pages_layout : (areas : List Area) → flat_map pages_of (layout areas) ≡ flat_map pages_of areas
unfolding layout
pages_layout [] = refl
pages_layout (area ∷ areas) = ap (λ (z : List ℕ). pages_of area ++ z) (pages_layout areas)

areas_layout : (areas : List Area) → areas_field (layout areas) ≡ areas_field areas
areas_layout areas i = longword (length_layout areas i) ++ fields_layout areas i

areas_alike : (a b : List Area) → layout a ≡ layout b → areas_field a ≡ areas_field b
areas_alike a b e = sym (areas_layout a) ∙ (ap areas_field e ∙ areas_layout b)

pages_alike : (a b : List Area) → layout a ≡ layout b → flat_map pages_of a ≡ flat_map pages_of b
pages_alike a b e = sym (pages_layout a) ∙ (ap (flat_map pages_of) e ∙ pages_layout b)

same_layout : (s : Paging) (file : Option BlockFile) (memory : List Area) → StandsWith s file memory → layout memory ≡ layout s.areas
same_layout s None memory st = absurd st
same_layout s (Some file) memory st = st.areas

-- the state's bytes, field by field
pub saved_is : (m : Engine) (file : Option BlockFile) (place : Place) → Means m file place → saved place m.steps ≡ front_fields m ++ (pages_field (machine_at place).memory (keeping m).areas ++ longword end_mark)
unfolding saved memory_field
saved_is m file place means =
    let flat = machine_at place in
    let memory = flat.memory in
    let p = means.processor.machine in
    let alike = same_layout (pages m.pager) file memory means.memory in
    let core = sym (ap (λ (z : Flat). z.core) p) in
    let taken = sym (ap (λ (z : Flat). z.taken) p) in
    let input = sym (ap (λ (z : Flat). z.input) p) in
    let latch = sym means.processor.open_one in
    let areas = areas_alike memory (keeping m).areas alike in
    let numbers = pages_alike memory (keeping m).areas alike in
    let fields : saved place m.steps ≡ heading m.steps ++ (registers_field m.cpu.core m.cpu.latch ++ (input_field m.cpu.term.place m.cpu.term.input.items ++ (areas_field (keeping m).areas ++ (pages_field memory (keeping m).areas ++ longword end_mark)))) = λ i.
    heading m.steps ++ (registers_field (core i) (latch i) ++ (input_field (taken i) (input i) ++ (areas i ++ (flat_map (page_field memory) (numbers i) ++ longword end_mark)))) in
    fields ∙ simp append_assoc refl

-- what is put of a page

pub content_none : (page : ℕ) (bytes : List ℕ) → is_blank bytes ≡ true → content_field page bytes ≡ []
content_none page bytes blank = rw blank refl

pub content_some : (page : ℕ) (bytes : List ℕ) → is_blank bytes ≡ false → content_field page bytes ≡ longword page ++ bytes
content_some page bytes some = rw some refl

-- pages one behind the other

range_next : (first pages i : ℕ) → i < pages → range_with_len (first + i) (pages - i) ≡ (first + i) ∷ range_with_len (first + (i + 1)) (pages - (i + 1))
range_next first pages i lt =
    let k : pages - i ≡ suc (pages - (i + 1)) = omega (arith, lt) in
    let next : first + i + 1 ≡ first + (i + 1) = omega arith in
    ap (range_with_len (first + i)) k ∙ ap (λ (n : ℕ). (first + i) ∷ range_with_len n (pages - (i + 1))) next

pub pages_begin : (f : ℕ → List ℕ) (first pages : ℕ) (s : Stream) → Leaves (flat_map f (range_with_len first pages)) (flat_map f (range_with_len (first + 0) (pages - 0))) s s
pages_begin f first pages s =
    let e : first + 0 ≡ first = omega arith in
    let n : pages - 0 ≡ pages = omega arith in
    rw (e, n) (leaves_same (flat_map f (range_with_len first pages)) s)

pub pages_next : (f : ℕ → List ℕ) (first pages i : ℕ) (s t u : Stream) → i < pages → Leaves (flat_map f (range_with_len first pages)) (flat_map f (range_with_len (first + i) (pages - i))) s t → Puts (f (first + i)) t u
    → Leaves (flat_map f (range_with_len first pages)) (flat_map f (range_with_len (first + (i + 1)) (pages - (i + 1)))) s u
pages_next f first pages i s t u lt h p =
    leaves_next (flat_map f (range_with_len first pages)) (f (first + i)) (flat_map f (range_with_len (first + (i + 1)) (pages - (i + 1)))) s t u
    (subst (λ (z : List ℕ). Leaves (flat_map f (range_with_len first pages)) (flat_map f z) s t) (range_next first pages i lt) h) p

pub pages_cut : (f : ℕ → List ℕ) (first pages i : ℕ) (s t : Stream) (now : Option Channels) → i < pages → Leaves (flat_map f (range_with_len first pages)) (flat_map f (range_with_len (first + i) (pages - i))) s t → Cuts (f (first + i)) t now
    → Cuts (flat_map f (range_with_len first pages)) s now
pages_cut f first pages i s t now lt h p =
    cuts_next (flat_map f (range_with_len first pages)) (f (first + i)) (flat_map f (range_with_len (first + (i + 1)) (pages - (i + 1)))) s t now
    (subst (λ (z : List ℕ). Leaves (flat_map f (range_with_len first pages)) (flat_map f z) s t) (range_next first pages i lt) h) p

pub pages_done : (f : ℕ → List ℕ) (first pages i : ℕ) (s t : Stream) → pages ≤ i → Leaves (flat_map f (range_with_len first pages)) (flat_map f (range_with_len (first + i) (pages - i))) s t → Puts (flat_map f (range_with_len first pages)) s t
pages_done f first pages i s t le h =
    let n : pages - i ≡ 0 = omega (arith, le) in
    subst (λ (k : ℕ). Leaves (flat_map f (range_with_len first pages)) (flat_map f (range_with_len (first + i) k)) s t) n h

-- areas one behind the other

fields_split : (f : ℕ → List ℕ) (areas : List Area) (i first pages : ℕ) → flat_map pages_of (drop i areas) ≡ range_with_len first pages ++ flat_map pages_of (drop (i + 1) areas)
    → flat_map f (flat_map pages_of (drop i areas)) ≡ flat_map f (range_with_len first pages) ++ flat_map f (flat_map pages_of (drop (i + 1) areas))
fields_split f areas i first pages e = ap (flat_map f) e ∙ flat_map-append f (range_with_len first pages) (flat_map pages_of (drop (i + 1) areas))

pub extents_next : (f : ℕ → List ℕ) (areas : List Area) (i first pages : ℕ) (s t u : Stream) → flat_map pages_of (drop i areas) ≡ range_with_len first pages ++ flat_map pages_of (drop (i + 1) areas)
    → Leaves (flat_map f (flat_map pages_of areas)) (flat_map f (flat_map pages_of (drop i areas))) s t → Puts (flat_map f (range_with_len first pages)) t u
    → Leaves (flat_map f (flat_map pages_of areas)) (flat_map f (flat_map pages_of (drop (i + 1) areas))) s u
extents_next f areas i first pages s t u e h p =
    leaves_next (flat_map f (flat_map pages_of areas)) (flat_map f (range_with_len first pages)) (flat_map f (flat_map pages_of (drop (i + 1) areas))) s t u
    (subst (λ (z : List ℕ). Leaves (flat_map f (flat_map pages_of areas)) z s t) (fields_split f areas i first pages e) h) p

pub extents_cut : (f : ℕ → List ℕ) (areas : List Area) (i first pages : ℕ) (s t : Stream) (now : Option Channels) → flat_map pages_of (drop i areas) ≡ range_with_len first pages ++ flat_map pages_of (drop (i + 1) areas)
    → Leaves (flat_map f (flat_map pages_of areas)) (flat_map f (flat_map pages_of (drop i areas))) s t → Cuts (flat_map f (range_with_len first pages)) t now
    → Cuts (flat_map f (flat_map pages_of areas)) s now
extents_cut f areas i first pages s t now e h p =
    cuts_next (flat_map f (flat_map pages_of areas)) (flat_map f (range_with_len first pages)) (flat_map f (flat_map pages_of (drop (i + 1) areas))) s t now
    (subst (λ (z : List ℕ). Leaves (flat_map f (flat_map pages_of areas)) z s t) (fields_split f areas i first pages e) h) p

pub extents_done : (f : ℕ → List ℕ) (areas : List Area) (i : ℕ) (s t : Stream) → length areas ≤ i → Leaves (flat_map f (flat_map pages_of areas)) (flat_map f (flat_map pages_of (drop i areas))) s t → Puts (flat_map f (flat_map pages_of areas)) s t
extents_done f areas i s t le h = subst (λ (z : List Area). Leaves (flat_map f (flat_map pages_of areas)) (flat_map f (flat_map pages_of z)) s t) (drop_all i areas le) h

-- the same of areas that are the same
pub extent_as : (a b : List Area) (i first pages : ℕ) → a ≡ b → flat_map pages_of (drop i a) ≡ range_with_len first pages ++ flat_map pages_of (drop (i + 1) a) → flat_map pages_of (drop i b) ≡ range_with_len first pages ++ flat_map pages_of (drop (i + 1) b)
extent_as a b i first pages e h = subst (λ (z : List Area). flat_map pages_of (drop i z) ≡ range_with_len first pages ++ flat_map pages_of (drop (i + 1) z)) e h

-- the whole state, from the beginning

pub state_cut : (m : Engine) (file : Option BlockFile) (place : Place) → Means m file place → (held : List ℕ) (old now : Option Channels) → held ≡ [] → Cuts (front_fields m ++ (pages_field (machine_at place).memory (keeping m).areas ++ longword end_mark)) (stream old held) now
    → GrewByPrefix old now (only State (saved place m.steps))
state_cut m file place means held old now none p =
    whole_cut (saved place m.steps) held old now none (subst (λ (z : List ℕ). Cuts z (stream old held) now) (sym (saved_is m file place means)) p)

pub state_put : (m : Engine) (file : Option BlockFile) (place : Place) → Means m file place → (held : List ℕ) (old now : Option Channels) (s : Stream) → held ≡ [] → Puts (front_fields m ++ (pages_field (machine_at place).memory (keeping m).areas ++ longword end_mark)) (stream old held) s
    → Grew s.channels now (only State s.held) → Grew old now (only State (saved place m.steps))
state_put m file place means held old now s none p grew =
    whole_put (saved place m.steps) held old now s none (subst (λ (z : List ℕ). Puts z (stream old held) s) (sym (saved_is m file place means)) p) grew

pub state_lost : (m : Engine) (file : Option BlockFile) (place : Place) → Means m file place → (held : List ℕ) (old now : Option Channels) (s : Stream) → held ≡ [] → Puts (front_fields m ++ (pages_field (machine_at place).memory (keeping m).areas ++ longword end_mark)) (stream old held) s
    → GrewByPrefix s.channels now (only State s.held) → GrewByPrefix old now (only State (saved place m.steps))
state_lost m file place means held old now s none p grew =
    whole_lost (saved place m.steps) held old now s none (subst (λ (z : List ℕ). Puts z (stream old held) s) (sym (saved_is m file place means)) p) grew
