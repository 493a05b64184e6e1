-- Sections have no address in common.
use Rattle.std.proofs.Common.{◌≡◌, ℕ, zero, suc, ◌+◌, ◌*◌, ◌<◌, ◌≤◌, ◌≢◌, Bool, true, false, cond, List, [], ◌∷◌, ◌++◌, length, take, Ok, refl, sym, ap, subst, ◌∙◌, arith, ◌⊎◌, inl, inr}
use Rattle.std.specs.Prelude.{codes, not, ◌&&◌, ◌||◌, ◌==◌, nat_lt, slice_index}
use Rattle.std.specs.List.{list_any, zip}
use Rattle.std.specs.Str.{bytes_eq}
use Rattle.std.proofs.lemmas.Bool.{eqb-true, ltb-false}
use Rattle.std.proofs.lemmas.Bool.Decides.{eqb_tells, leb_tells}
use Rattle.std.proofs.lemmas.List.{length-append}
use Rattle.std.proofs.lemmas.List.Sums.{fold-append}
use Rattle.std.proofs.lemmas.Option.{slice_get_within}
use Rattle.std.proofs.lemmas.Slice.Eq.{bytes_eq-Decides}
use Rattle.vax_image.specs.declared.Base.{Base}
use Rattle.vax_image.specs.declared.Base.TheVariants.{Bare, User}
use Rattle.vax_image.specs.declared.Image.{Image}
use Rattle.vax_link.proofs.ImageLaws.{HasRoom, aligns, end_in_size, is_long, one_page, room_of, size_fits}
use Rattle.vax_link.proofs.LayoutLaws.{address_at, aligned_above, end_grows, listed_piece}
use Rattle.vax_link.specs.Layout.{addresses, align_of, aligned, behind_piece, end_behind, first_page_of, first_piece, is_control_block, is_listed, is_named, names_of, offset_behind, origin, page_behind, pages_from, pages_of, pages_of_names, pieces_of, placed_names, size_of}
use Rattle.vax_link.specs.Linked.{linked}
use Rattle.vax_link.specs.Names.{Name}
use Rattle.vax_link.specs.Values.{section_address}
use Rattle.vax_link_laws.proofs.Finding.{Has, has_place}
use Rattle.vax_link_laws.proofs.Laying.{address_there, behind_at, is_linked, lies_behind, pages_long}
use Rattle.vax_link_laws.proofs.Parting.{in_modules}
use Rattle.vax_link_laws.specs.Holding.{AreOthers, HasSection, LieApart}
use Rattle.vax_module.specs.declared.Module.{Module}
use Rattle.vax_module.specs.declared.Section.{Section}

-- ---- within a name's section

full_end : (t : Bool) (align end : ℕ) (s : Section) → t ≡ true → aligned align end + length s.bytes ≤ cond t (aligned align end + length s.bytes) end
full_end true align end s is = omega arith
full_end false align end s is = absurd cc

not_empty : (s : Section) (b : Bool) → (length s.bytes == 0) ≡ b → 0 < length s.bytes → not (length s.bytes == 0) ≡ true
not_empty s true is some = absurd (let e = eqb-true (length s.bytes) 0 is in omega arith)
not_empty s false is some = ap not is

-- what comes behind a section doesn't end before it
ends_behind : (align : ℕ) (front rest : List Section) (s : Section) → 0 < align → 0 < length s.bytes
    → aligned align (end_behind s.name align 0 front) + length s.bytes ≤ end_behind s.name align 0 (front ++ (s ∷ rest))
ends_behind align front rest s some full =
    let end : ℕ = end_behind s.name align 0 front in
    let next : ℕ = behind_piece s.name align end s in
    let named : is_named s.name s ≡ true = (bytes_eq-Decides s.name s.name).1 refl in
    let test : (is_named s.name s && not (length s.bytes == 0)) ≡ true = ap (λ t. t && not (length s.bytes == 0)) named ∙ not_empty s (length s.bytes == 0) refl full in
    let here : aligned align end + length s.bytes ≤ next = full_end (is_named s.name s && not (length s.bytes == 0)) align end s test in
    let grows = end_grows s.name align next rest some in
    let whole : end_behind s.name align 0 (front ++ (s ∷ rest)) ≡ end_behind s.name align next rest = fold-append (behind_piece s.name align) 0 front (s ∷ rest) in
    omega arith

same_name : (region : Base) (pieces front middle : List Section) (s t : Section) → 0 < length s.bytes → s.name ≡ t.name
    → behind_at region pieces front s + length s.bytes ≤ behind_at region pieces (front ++ (s ∷ middle)) t
same_name region pieces front middle s t full same =
    let align : ℕ = align_of s.name pieces in
    let some : 0 < align = aligns s.name 1 pieces (omega arith) in
    let ends = ends_behind align front middle s some full in
    let above = aligned_above align (end_behind s.name align 0 (front ++ (s ∷ middle))) some in
    let here : behind_at region pieces front s + length s.bytes ≤ 512 * first_page_of region pieces s.name + offset_behind pieces (front ++ (s ∷ middle)) s.name = omega arith in
    subst (λ (n : Name). behind_at region pieces front s + length s.bytes ≤ 512 * first_page_of region pieces n + offset_behind pieces (front ++ (s ∷ middle)) n) same here

-- ---- in sections of two names

control_at : (region : Base) (pieces : List Section) (page : ℕ) (names : List Name) (m : Name) (p : ℕ) → Has (zip names (pages_from region pieces page names)) (m, p) → is_control_block region m ≡ true → p ≡ 0x400000
unfolding pages_from
control_at region pieces page [] m p has is = absurd has
control_at region pieces page (x ∷ names) m p (inl e) is =
    sym (ap (λ (r : Name × ℕ). r.1) e) ∙ ap (λ c. cond c 0x400000 page) (ap (λ (r : Name × ℕ). is_control_block region r.0) e ∙ is)
control_at region pieces page (x ∷ names) m p (inr has) is = control_at region pieces (page_behind region pieces page x) names m p has is

behind_above : (c : Bool) (page more : ℕ) → page ≤ cond c page (page + more)
behind_above true page more = omega arith
behind_above false page more = omega arith

other_at : (region : Base) (page p : ℕ) (x m : Name) → ◌≡◌ {A = Name × ℕ} (x, cond (is_control_block region x) 0x400000 page) (m, p) → is_control_block region m ≡ false → p ≡ page
other_at region page p x m e is = sym (ap (λ (r : Name × ℕ). r.1) e) ∙ ap (λ c. cond c 0x400000 page) (ap (λ (r : Name × ℕ). is_control_block region r.0) e ∙ is)

other_above : (region : Base) (pieces : List Section) (page : ℕ) (names : List Name) (m : Name) (p : ℕ) → Has (zip names (pages_from region pieces page names)) (m, p) → is_control_block region m ≡ false → page ≤ p
unfolding pages_from
other_above region pieces page [] m p has is = absurd has
other_above region pieces page (x ∷ names) m p (inl e) is = let same = other_at region page p x m e is in omega arith
other_above region pieces page (x ∷ names) m p (inr has) is =
    let above = behind_above (is_control_block region x) page (pages_of pieces x) in
    let next = other_above region pieces (page_behind region pieces page x) names m p has is in
    omega arith

-- a section that isn't the control block ends where the next begins
behind_other : (region : Base) (pieces : List Section) (page : ℕ) (names : List Name) (x m n : Name) (p q : ℕ) → ◌≡◌ {A = Name × ℕ} (x, cond (is_control_block region x) 0x400000 page) (m, p) → Has (zip names (pages_from region pieces (page_behind region pieces page x) names)) (n, q)
    → is_control_block region m ≡ false → is_control_block region n ≡ false → p + pages_of pieces m ≤ q
behind_other region pieces page names x m n p q e has one two =
    let named : x ≡ m = ap (λ (r : Name × ℕ). r.0) e in
    let same = other_at region page p x m e one in
    let above = other_above region pieces (page_behind region pieces page x) names n q has two in
    let next : page_behind region pieces page x ≡ page + pages_of pieces m =
    ap (λ c. cond c page (page + pages_of pieces x)) (ap (is_control_block region) named ∙ one) ∙ ap (λ (y : Name). page + pages_of pieces y) named in
    omega arith

abbrev ArePagesApart : List Section → Name → Name → ℕ → ℕ → Type 0
ArePagesApart pieces m n p q = (p + pages_of pieces m ≤ q) ⊎ (q + pages_of pieces n ≤ p)

others_apart : (region : Base) (pieces : List Section) (page : ℕ) (names : List Name) (m n : Name) (p q : ℕ) → Has (zip names (pages_from region pieces page names)) (m, p) → Has (zip names (pages_from region pieces page names)) (n, q)
    → is_control_block region m ≡ false → is_control_block region n ≡ false → bytes_eq m n ≡ false → ArePagesApart pieces m n p q
unfolding pages_from
others_apart region pieces page [] m n p q a b one two other = absurd a
others_apart region pieces page (x ∷ names) m n p q (inl e) (inl f) one two other =
    let same : m ≡ n = sym (ap (λ (r : Name × ℕ). r.0) e) ∙ ap (λ (r : Name × ℕ). r.0) f in
    let equal : bytes_eq m n ≡ true = (bytes_eq-Decides m n).1 same in
    absurd (let no : true ≡ false = sym equal ∙ other in cc)
others_apart region pieces page (x ∷ names) m n p q (inl e) (inr b) one two other = inl (behind_other region pieces page names x m n p q e b one two)
others_apart region pieces page (x ∷ names) m n p q (inr a) (inl f) one two other = inr (behind_other region pieces page names x n m q p f a two one)
others_apart region pieces page (x ∷ names) m n p q (inr a) (inr b) one two other = others_apart region pieces (page_behind region pieces page x) names m n p q a b one two other

control_same : (region : Base) (m n : Name) → is_control_block region m ≡ true → is_control_block region n ≡ true → bytes_eq m n ≡ true
control_same Bare m n one two = (bytes_eq-Decides m n).1 ((bytes_eq-Decides m (codes "$SCB")).0 one ∙ sym ((bytes_eq-Decides n (codes "$SCB")).0 two))
control_same User m n one two = absurd cc

control_origin : (region : Base) (m : Name) → is_control_block region m ≡ true → origin region ≡ 0x400001
control_origin Bare m is = refl
control_origin User m is = absurd cc

listed_short : (region : Base) (pieces : List Section) (names : List Name) (ps : List ℕ) (m : Name) (p : ℕ) → list_any (is_long region pieces) names ≡ false → Has (zip names ps) (m, p) → is_long region pieces m ≡ false
listed_short region pieces [] ps m p none has = absurd has
listed_short region pieces (x ∷ names) [] m p none has = absurd has
listed_short region pieces (x ∷ names) (q ∷ ps) m p none (inl e) = sym (ap (λ (r : Name × ℕ). is_long region pieces r.0) e) ∙ left_false (is_long region pieces x) (list_any (is_long region pieces) names) none
  where
    left_false : (a b : Bool) → (a || b) ≡ false → a ≡ false
    left_false true b e = absurd cc
    left_false false b e = refl
listed_short region pieces (x ∷ names) (q ∷ ps) m p none (inr has) = listed_short region pieces names ps m p (right_false (is_long region pieces x) (list_any (is_long region pieces) names) none) has
  where
    right_false : (a b : Bool) → (a || b) ≡ false → b ≡ false
    right_false true b e = absurd cc
    right_false false b e = e

short_pages : (c : Bool) (pieces : List Section) (m : Name) → c ≡ true → (c && nat_lt 512 (size_of pieces m)) ≡ false → pages_of pieces m ≤ 1
short_pages true pieces m is short = one_page (size_of pieces m) (ltb-false 512 (size_of pieces m) short)
short_pages false pieces m is short = absurd cc

-- the control block lies before the others
control_before : (region : Base) (pieces : List Section) (m n : Name) (p q : ℕ) → HasRoom region pieces → Has (placed_names region pieces) (m, p) → Has (placed_names region pieces) (n, q)
    → is_control_block region m ≡ true → is_control_block region n ≡ false → p + pages_of pieces m ≤ q
control_before region pieces m n p q room a b one two =
    let at = control_at region pieces (origin region) (names_of pieces) m p a one in
    let begins = control_origin region m one in
    let few = short_pages (is_control_block region m) pieces m one (listed_short region pieces (names_of pieces) (pages_of_names region pieces) m p room.short a) in
    let above = other_above region pieces (origin region) (names_of pieces) n q b two in
    omega arith

pages_apart : (c d : Bool) (region : Base) (pieces : List Section) (m n : Name) (p q : ℕ) → HasRoom region pieces → Has (placed_names region pieces) (m, p) → Has (placed_names region pieces) (n, q)
    → is_control_block region m ≡ c → is_control_block region n ≡ d → bytes_eq m n ≡ false → ArePagesApart pieces m n p q
pages_apart true true region pieces m n p q room a b one two other = absurd (let no : true ≡ false = sym (control_same region m n one two) ∙ other in cc)
pages_apart true false region pieces m n p q room a b one two other = inl (control_before region pieces m n p q room a b one two)
pages_apart false true region pieces m n p q room a b one two other = inr (control_before region pieces n m q p room b a two one)
pages_apart false false region pieces m n p q room a b one two other = others_apart region pieces (origin region) (names_of pieces) m n p q a b one two other

record IsWithin (region : Base) (pieces front : List Section) (s : Section) : Type 0 where
  place : Has (placed_names region pieces) (s.name, first_page_of region pieces s.name)
  ends : offset_behind pieces front s.name + length s.bytes ≤ 512 * pages_of pieces s.name

within : (region : Base) (pieces front back : List Section) (s : Section) → pieces ≡ front ++ (s ∷ back) → 0 < length s.bytes → IsWithin region pieces front s
within region pieces front back s parted full =
    let align : ℕ = align_of s.name pieces in
    let some : 0 < align = aligns s.name 1 pieces (omega arith) in
    let ends = ends_behind align front back s some full in
    let whole : end_behind s.name align 0 (front ++ (s ∷ back)) ≤ size_of pieces s.name = subst (λ (ps : List Section). end_behind s.name align 0 ps ≤ size_of pieces s.name) parted (end_in_size pieces s.name) in
    let fits = size_fits pieces s.name in
    let listed : is_listed (names_of pieces) s.name ≡ true = ap (λ (ps : List Section). is_listed (names_of ps) s.name) parted ∙ listed_piece front back s in
    record {
      place = has_place (names_of pieces) (pages_of_names region pieces) s.name listed (pages_long region pieces (origin region) (names_of pieces));
      ends = omega arith;
    }

-- ---- two sections

record Split (s : Section) (front later : List Section) : Type 0 where
  middle : List Section
  is : later ≡ front ++ (s ∷ middle)

split_later : (front back later rest : List Section) (s t : Section) → front ++ (s ∷ back) ≡ later ++ (t ∷ rest) → length front < length later → Split s front later
split_later [] back [] rest s t same less = absurd (omega arith)
split_later [] back (x ∷ later) rest s t same less = let e : x ≡ s = cc in record { middle = later; is = ap (λ (y : Section). y ∷ later) e }
split_later (y ∷ front) back [] rest s t same less = absurd (omega arith)
split_later (y ∷ front) back (x ∷ later) rest s t same less =
    let e : x ≡ y = cc in
    let tails : front ++ (s ∷ back) ≡ later ++ (t ∷ rest) = cc in
    let next = split_later front back later rest s t tails (omega arith) in
    record { middle = next.middle; is = ap (λ (z : Section). z ∷ later) e ∙ ap (λ (l : List Section). y ∷ l) next.is }

by_name : (b : Bool) (region : Base) (pieces front back later rest : List Section) (s t : Section) → bytes_eq s.name t.name ≡ b → HasRoom region pieces → pieces ≡ front ++ (s ∷ back) → pieces ≡ later ++ (t ∷ rest) → length front < length later
    → 0 < length s.bytes → 0 < length t.bytes → LieApart (behind_at region pieces front s) (length s.bytes) (behind_at region pieces later t) (length t.bytes)
by_name true region pieces front back later rest s t same room one two less full filled =
    let split = split_later front back later rest s t (sym one ∙ two) less in
    inl (subst (λ (l : List Section). behind_at region pieces front s + length s.bytes ≤ behind_at region pieces l t) (sym split.is) (same_name region pieces front split.middle s t full ((bytes_eq-Decides s.name t.name).0 same)))
by_name false region pieces front back later rest s t other room one two less full filled =
    let a = within region pieces front back s one full in
    let b = within region pieces later rest t two filled in
    let a_ends = a.ends in
    let b_ends = b.ends in
    elim (pages_apart (is_control_block region s.name) (is_control_block region t.name) region pieces s.name t.name (first_page_of region pieces s.name) (first_page_of region pieces t.name) room a.place b.place refl refl other) [
      | inl before ↦ inl (omega arith)
      | inr behind ↦ inr (omega arith)
    ]

swapped : (first size other more : ℕ) → LieApart first size other more → LieApart other more first size
swapped first size other more (inl h) = inr h
swapped first size other more (inr h) = inl h

-- ---- sections of modules

ahead : (modules : List Module) (owner other number : ℕ) (s : Section) → HasSection modules owner number s → owner < other → first_piece modules owner + number < first_piece modules other
ahead [] owner other number s has less = absurd cc
ahead (m ∷ modules) zero zero number s has less = absurd (omega arith)
ahead (m ∷ modules) zero (suc other) number s has less =
    let within = slice_get_within m.sections number s has in
    let long = length-append m.sections (pieces_of (take other modules)) in
    omega arith
ahead (m ∷ modules) (suc owner) zero number s has less = absurd (omega arith)
ahead (m ∷ modules) (suc owner) (suc other) number s has less =
    let next = ahead modules owner other number s has (omega arith) in
    let one = length-append m.sections (pieces_of (take owner modules)) in
    let two = length-append m.sections (pieces_of (take other modules)) in
    omega arith

positions_differ : (modules : List Module) (owner number other index : ℕ) (s t : Section) → HasSection modules owner number s → HasSection modules other index t → AreOthers owner number other index
    → first_piece modules owner + number ≡ first_piece modules other + index → ⊥
positions_differ modules owner number other index s t one two differ same = elim (leb_tells owner other) [
  | inl below ↦ elim (eqb_tells owner other) [
    | inl equal ↦ elim differ [
      | inl h ↦ h equal.1
      | inr h ↦ h (omega (arith, same, equal.1, ap (first_piece modules) equal.1))
    ]
    | inr apart ↦ (let before = ahead modules owner other number s one (omega (arith, below.1, apart.1)) in omega arith)
  ]
  | inr above ↦ (let before = ahead modules other owner index t two above.1 in omega arith)
]

pub record IsAt (region : Base) (modules : List Module) (owner number : ℕ) (s : Section) : Type 0 where
  pub front : List Section
  pub back : List Section
  pub parted : pieces_of modules ≡ front ++ (s ∷ back)
  pub many : length front ≡ first_piece modules owner + number
  pub address : section_address region modules owner number ≡ address_at region (pieces_of modules) front s

pub is_at : (region : Base) (modules : List Module) (owner number : ℕ) (s : Section) → HasSection modules owner number s → IsAt region modules owner number s
is_at region modules owner number s has =
    let p = in_modules region modules 0 modules owner owner number s has (omega arith) in
    let pieces : List Section = pieces_of modules in
    let P : List Section = p.front ++ (s ∷ p.back) in
    record {
      front = p.front;
      back = p.back;
      parted = p.sections_are;
      many = p.many;
      address = ap (λ (n : ℕ). slice_index (addresses region pieces) n) (sym p.many) ∙ ap (λ (ps : List Section). slice_index (addresses region ps) (length p.front)) p.sections_are
          ∙ address_there region P [] p.front p.back s ∙ ap (λ (ps : List Section). address_at region ps p.front s) (sym p.sections_are);
    }

pub apart : (region : Base) (modules : List Module) (image : Image) (owner number other index : ℕ) (s t : Section) → linked region modules ≡ Ok image → HasSection modules owner number s → HasSection modules other index t
    → 0 < length s.bytes → 0 < length t.bytes → AreOthers owner number other index → LieApart (section_address region modules owner number) (length s.bytes) (section_address region modules other index) (length t.bytes)
apart region modules image owner number other index s t is one two full filled differ =
    let room : HasRoom region (pieces_of modules) = room_of region (pieces_of modules) (is_linked region modules image is).room in
    let a = is_at region modules owner number s one in
    let b = is_at region modules other index t two in
    let ne : first_piece modules owner + number ≢ first_piece modules other + index = positions_differ modules owner number other index s t one two differ in
    let A : ℕ = behind_at region (pieces_of modules) a.front s in
    let B : ℕ = behind_at region (pieces_of modules) b.front t in
    let here : LieApart A (length s.bytes) B (length t.bytes) = elim (leb_tells (length a.front) (length b.front)) [
      | inl below ↦ by_name (bytes_eq s.name t.name) region (pieces_of modules) a.front a.back b.front b.back s t refl room a.parted b.parted (omega (arith, below.1, a.many, b.many)) full filled
      | inr above ↦ swapped B (length t.bytes) A (length s.bytes) (by_name (bytes_eq t.name s.name) region (pieces_of modules) b.front b.back a.front a.back t s refl room b.parted a.parted above.1 filled full)
    ] in
    subst (λ (x : ℕ). LieApart x (length s.bytes) (section_address region modules other index) (length t.bytes)) (sym (a.address ∙ lies_behind region (pieces_of modules) a.front s full))
    (subst (λ (y : ℕ). LieApart A (length s.bytes) y (length t.bytes)) (sym (b.address ∙ lies_behind region (pieces_of modules) b.front t filled)) here)
