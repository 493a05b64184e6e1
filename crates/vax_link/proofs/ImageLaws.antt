-- The areas of linked modules ascend, so that they are those of an image.
use Rattle.std.proofs.Common.{◌≡◌, ℕ, suc, ◌+◌, ◌-◌, ◌*◌, ◌<◌, ◌≤◌, Bool, true, false, cond, List, [], ◌∷◌, ◌++◌, length, max, Option, Some, None, refl, sym, ap, subst, ◌∙◌, arith, ◌⊎◌, inl, inr}
use Rattle.std.specs.Prelude.{not, ◌&&◌, ◌||◌, ◌==◌, nat_lt, replicate, codes}
use Rattle.std.specs.List.{cons_option, fold, filter, filter_map, list_any, zip}
use Rattle.std.specs.Int.{div_ceil}
use Rattle.std.specs.Str.{bytes_eq}
use Rattle.std.proofs.lemmas.Bool.{ltb-false, eqb-false}
use Rattle.std.proofs.lemmas.List.{append-nil, length-append, length-replicate}
use Rattle.std.proofs.lemmas.List.Elements.{filter-append, filter_map-append}
use Rattle.std.proofs.lemmas.List.Filters.{length-filter_both}
use Rattle.std.proofs.lemmas.Grind.{div_ceil_times}
use Rattle.std.proofs.lemmas.Slice.Zip.{length-zip}
use Rattle.std.proofs.lemmas.Slice.Eq.{bytes_eq-Decides}
use Rattle.vax_space.specs.declared.Area.{Area}
use Rattle.vax_space.specs.Faults.{is_protection}
use Rattle.vax_module.specs.declared.Section.{Section}
use Rattle.vax_image.specs.declared.Base.{Base}
use Rattle.vax_image.specs.declared.Base.TheVariants.{Bare, User}
use Rattle.vax_image.specs.Image.{first_page, end_page, IsAreaFrom, AscendFrom, IsImage, is_in}
use Rattle.vax_link.specs.Names.{Name}
use Rattle.vax_link.specs.Layout.{align_of, aligned, aligned_for, behind_piece, covered_by, end_behind, end_page_from, has_no_room, is_control_block, is_listed, is_named, is_too_large, is_writable, names_of, origin, page_behind, pages_from, pages_of, placed_names, size_of, with_name}
use Rattle.vax_link.specs.Placed.{IsFilling}
use Rattle.vax_link.specs.Linked.{area_of, area_unless_empty, areas_of, bytes_of, is_chosen, ordered, protection, with_piece}
use Rattle.vax_link.proofs.LayoutLaws.{aligned_above, page_grows}

-- ---- a section has no more bytes than its size says

joined_long : (b : Bool) (align : ℕ) (front bytes : List ℕ) (len : ℕ) → 0 < align → length bytes ≡ len
    → length (cond b (front ++ (replicate (aligned align (length front) - length front) 0 ++ bytes)) front) ≡ cond b (aligned align (length front) + len) (length front)
joined_long true align front bytes len some same =
    let above = aligned_above align (length front) some in
    let gap : List ℕ = replicate (aligned align (length front) - length front) 0 in
    let gap_long : length gap ≡ aligned align (length front) - length front = length-replicate (aligned align (length front) - length front) 0 in
    let whole : length (front ++ (gap ++ bytes)) ≡ length front + length (gap ++ bytes) = length-append front (gap ++ bytes) in
    let back : length (gap ++ bytes) ≡ length gap + length bytes = length-append gap bytes in
    omega arith
joined_long false align front bytes len some same = refl

pub bytes_long : (name : Name) (align : ℕ) (front : List ℕ) (pieces : List Section) (filled : List (List ℕ)) → 0 < align → IsFilling pieces filled
    → length (fold (with_piece name align) front (zip pieces filled)) ≡ end_behind name align (length front) pieces
bytes_long name align front [] filled some same = refl
bytes_long name align front (piece ∷ pieces) [] some same = absurd cc
bytes_long name align front (piece ∷ pieces) (bytes ∷ filled) some same =
    let here : length bytes ≡ length piece.bytes = cc in
    let rest : IsFilling pieces filled = cc in
    let step : length (with_piece name align front (piece, bytes)) ≡ behind_piece name align (length front) piece =
    joined_long (is_named name piece && not (length bytes == 0)) align front bytes (length piece.bytes) some here
    ∙ ap (λ n. cond (is_named name piece && not (n == 0)) (aligned align (length front) + length piece.bytes) (length front)) here in
    bytes_long name align (with_piece name align front (piece, bytes)) pieces filled some rest ∙ ap (λ n. end_behind name align n pieces) step

some_align : (b : Bool) (align more : ℕ) → 1 ≤ align → 1 ≤ cond b (max align more) align
some_align true align more some = omega arith
some_align false align more some = some

pub aligns : (name : Name) (align : ℕ) (pieces : List Section) → 1 ≤ align → 1 ≤ fold (aligned_for name) align pieces
aligns name align [] some = some
aligns name align (piece ∷ pieces) some = aligns name (aligned_for name align piece) pieces (some_align (is_named name piece) align piece.align some)

-- a section ends behind its pieces
pub end_in_size : (pieces : List Section) (name : Name) → end_behind name (align_of name pieces) 0 pieces ≤ size_of pieces name
unfolding size_of
end_in_size pieces name = first_in (end_behind name (align_of name pieces) 0 pieces) (covered_by name 0 pieces)
  where
    first_in : (a b : ℕ) → a ≤ max a b
    first_in a b = omega arith

-- no overlaid piece covers more
pub covered_in_size : (pieces : List Section) (name : Name) → covered_by name 0 pieces ≤ size_of pieces name
unfolding size_of
covered_in_size pieces name = second_in (end_behind name (align_of name pieces) 0 pieces) (covered_by name 0 pieces)
  where
    second_in : (a b : ℕ) → b ≤ max a b
    second_in a b = omega arith

pub section_long : (pieces : List Section) (filled : List (List ℕ)) (name : Name) → IsFilling pieces filled → length (bytes_of pieces filled name) ≤ size_of pieces name
section_long pieces filled name same =
    let long : length (bytes_of pieces filled name) ≡ end_behind name (align_of name pieces) 0 pieces = bytes_long name (align_of name pieces) [] pieces filled (aligns name 1 pieces (omega arith)) same in
    let within = end_in_size pieces name in
    omega arith

-- ---- there is one control block

control_same : (region : Base) (a b : Name) → is_control_block region a ≡ true → is_control_block region b ≡ true → bytes_eq a b ≡ true
control_same Bare a b one two = (bytes_eq-Decides a b).1 ((bytes_eq-Decides a (codes "$SCB")).0 one ∙ sym ((bytes_eq-Decides b (codes "$SCB")).0 two))
control_same User a b one two = absurd cc

unlisted_step : (b c l : Bool) (x : Name) (rest : List Name) → (b ≡ true → c ≡ true) → (c || l) ≡ false → (l ≡ false → rest ≡ []) → cond b (x ∷ rest) rest ≡ []
unlisted_step true true l x rest same none next = absurd cc
unlisted_step true false l x rest same none next = absurd (let e : false ≡ true = same refl in cc)
unlisted_step false true l x rest same none next = absurd cc
unlisted_step false false l x rest same none next = next none

unlisted_control : (region : Base) (names : List Name) (name : Name) → is_control_block region name ≡ true → is_listed names name ≡ false → filter (is_control_block region) names ≡ []
unlisted_control region [] name control none = refl
unlisted_control region (x ∷ names) name control none =
    unlisted_step (is_control_block region x) (bytes_eq x name) (is_listed names name) x (filter (is_control_block region) names) (λ e. control_same region x name e control) none (unlisted_control region names name control)

few_new : (c : Bool) (region : Base) (names : List Name) (name : Name) → is_control_block region name ≡ c → is_listed names name ≡ false → length (filter (is_control_block region) names) ≤ 1
    → length (filter (is_control_block region) (names ++ name ∷ [])) ≤ 1
few_new true region names name is new few =
    let whole : filter (is_control_block region) (names ++ name ∷ []) ≡ name ∷ [] =
    filter-append (is_control_block region) names (name ∷ []) ∙ ap (λ ns. ns ++ cond (is_control_block region name) (name ∷ []) []) (unlisted_control region names name is new) ∙ ap (λ b. cond b (name ∷ []) []) is in
    omega (arith, ap length whole)
few_new false region names name is new few =
    let whole : filter (is_control_block region) (names ++ name ∷ []) ≡ filter (is_control_block region) names =
    filter-append (is_control_block region) names (name ∷ []) ∙ ap (λ b. filter (is_control_block region) names ++ cond b (name ∷ []) []) is ∙ append-nil (filter (is_control_block region) names) in
    omega (arith, ap length whole)

few_more : (b : Bool) (region : Base) (names : List Name) (name : Name) → is_listed names name ≡ b → length (filter (is_control_block region) names) ≤ 1
    → length (filter (is_control_block region) (cond b names (names ++ name ∷ []))) ≤ 1
few_more true region names name is few = few
few_more false region names name is few = few_new (is_control_block region name) region names name refl is few

pub few_controls : (region : Base) (names : List Name) (pieces : List Section) → length (filter (is_control_block region) names) ≤ 1 → length (filter (is_control_block region) (fold with_name names pieces)) ≤ 1
few_controls region names [] few = few
few_controls region names (piece ∷ pieces) few = few_controls region (with_name names piece) pieces (few_more (is_listed names piece.name) region names piece.name refl few)

-- ---- a section's pages

pub size_fits : (pieces : List Section) (name : Name) → size_of pieces name ≤ 512 * pages_of pieces name
size_fits pieces name = let h = (div_ceil_times (size_of pieces name) 512 (omega arith)).0 in omega arith

pub one_page : (size : ℕ) → size ≤ 512 → div_ceil size 512 ≤ 1
one_page size small = let h = (div_ceil_times size 512 (omega arith)).1 in omega arith

abbrev pub is_long : Base → List Section → Name → Bool
is_long region pieces name = is_control_block region name && nat_lt 512 (size_of pieces name)

left_false : (a b : Bool) → (a || b) ≡ false → a ≡ false
left_false true b none = none
left_false false b none = refl

right_false : (a b : Bool) → (a || b) ≡ false → b ≡ false
right_false true b none = absurd cc
right_false false b none = none

not_long : (c l : Bool) (pieces : List Section) (name : Name) → c ≡ true → ((c && nat_lt 512 (size_of pieces name)) || l) ≡ false → pages_of pieces name ≤ 1
not_long true l pieces name control none = one_page (size_of pieces name) (ltb-false 512 (size_of pieces name) (left_false (nat_lt 512 (size_of pieces name)) l none))
not_long false l pieces name control none = absurd cc

small_head : (c : Bool) (region : Base) (pieces : List Section) (page last : ℕ) (name : Name) (names : List Name) → is_control_block region name ≡ c → list_any (is_long region pieces) (name ∷ names) ≡ false
    → end_page_from region pieces (cond c page (page + pages_of pieces name)) names ≤ page + last → 1 ≤ last → pages_of pieces name ≤ last
small_head true region pieces page last name names is none fits some =
    let h = not_long (is_control_block region name) (list_any (is_long region pieces) names) pieces name is none in
    omega arith
small_head false region pieces page last name names is none fits some =
    let h = page_grows region pieces (page + pages_of pieces name) names in
    omega arith

small_same : (pieces : List Section) (last : ℕ) (a b : Name) → bytes_eq a b ≡ true → pages_of pieces a ≤ last → pages_of pieces b ≤ last
small_same pieces last a b same small = let P : Name → Type 0 = λ n. pages_of pieces n ≤ last in subst P ((bytes_eq-Decides a b).0 same) small

later : (c : Bool) (page more : ℕ) → page ≤ cond c page (page + more)
later true page more = omega arith
later false page more = omega arith

small_among : (b : Bool) (pieces : List Section) (last : ℕ) (a name : Name) (l : Bool) → bytes_eq a name ≡ b → (b || l) ≡ true → pages_of pieces a ≤ last → (l ≡ true → pages_of pieces name ≤ last) → pages_of pieces name ≤ last
small_among true pieces last a name l is h here next = small_same pieces last a name is here
small_among false pieces last a name l is h here next = next h

pages_small : (region : Base) (pieces : List Section) (page last : ℕ) (names : List Name) (name : Name) → list_any (is_long region pieces) names ≡ false → end_page_from region pieces page names ≤ page + last → 1 ≤ last
    → is_listed names name ≡ true → pages_of pieces name ≤ last
pages_small region pieces page last [] name none fits some listed = absurd cc
pages_small region pieces page last (x ∷ names) name none fits some listed =
    let grows = later (is_control_block region x) page (pages_of pieces x) in
    small_among (bytes_eq x name) pieces last x name (is_listed names name) refl listed (small_head (is_control_block region x) region pieces page last x names refl none fits some)
    (λ h. pages_small region pieces (page_behind region pieces page x) last names name (right_false (is_long region pieces x) (list_any (is_long region pieces) names) none) (omega arith) some h)

-- ---- the other sections ascend

-- each section has no more bytes than its size says
abbrev pub AreLong : List Section → List (List ℕ) → Type 0
AreLong pieces filled = (name : Name) → length (bytes_of pieces filled name) ≤ size_of pieces name

-- the control blocks, or the other sections, of these names, of which the first begins at a page
abbrev pub areas_from : Base → List Section → List (List ℕ) → Bool → ℕ → List Name → List Area
areas_from region pieces filled control page names = filter_map (area_unless_empty region pieces filled) (filter (is_chosen region control) (zip names (pages_from region pieces page names)))

code_sound : (region : Base) (control write : Bool) → is_protection (protection region control write) ≡ true
unfolding is_protection
code_sound region true write = refl
code_sound region false false = refl
code_sound Bare false true = refl
code_sound User false true = refl

area_sound : (region : Base) (pieces : List Section) (filled : List (List ℕ)) (low first : ℕ) (name : Name) → AreLong pieces filled → low ≤ first → (pages_of pieces name == 0) ≡ false → first + pages_of pieces name ≤ end_page region
    → IsAreaFrom region low (area_of region pieces filled (name, first))
area_sound region pieces filled low first name long behind full within =
    let some = eqb-false (pages_of pieces name) 0 full in
    let size = size_fits pieces name in
    let bytes = long name in
    record {
      behind = behind;
      some = omega arith;
      within = within;
      code = code_sound region (is_control_block region name) (is_writable name pieces);
      bytes = omega arith;
    }

ascend_later : (region : Base) (low high : ℕ) (areas : List Area) → low ≤ high → AscendFrom region high areas → AscendFrom region low areas
ascend_later region low high [] le ascend = tt
ascend_later region low high (area ∷ areas) le ascend =
    let behind = ascend.0.behind in
    (record { behind = omega arith; some = ascend.0.some; within = ascend.0.within; code = ascend.0.code; bytes = ascend.0.bytes }, ascend.1)

-- the areas of a name and of others behind it, by whether it is the control block's
abbrev chooses : Bool → Bool → Bool
chooses true c = c
chooses false c = not c

abbrev areas_with : Base → List Section → List (List ℕ) → Bool → ℕ → Name → List Name → Bool → List Area
areas_with region pieces filled control page name names c =
    let rest = filter (is_chosen region control) (zip names (pages_from region pieces (cond c page (page + pages_of pieces name)) names)) in
    filter_map (area_unless_empty region pieces filled) (cond (chooses control c) ((name, cond c 0x400000 page) ∷ rest) rest)

with_first : (region : Base) (pieces : List Section) (filled : List (List ℕ)) (control : Bool) (page : ℕ) (name : Name) (names : List Name)
    → areas_from region pieces filled control page (name ∷ names) ≡ areas_with region pieces filled control page name names (is_control_block region name)
unfolding pages_from
with_first region pieces filled true page name names = refl
with_first region pieces filled false page name names = refl

none_past : (region : Base) (pieces : List Section) (filled : List (List ℕ)) (control : Bool) (page : ℕ) → areas_from region pieces filled control page [] ≡ []
unfolding pages_from
none_past region pieces filled control page = refl

other_area : (empty : Bool) (region : Base) (pieces : List Section) (filled : List (List ℕ)) (low page : ℕ) (name : Name) (rest : List Area) → (pages_of pieces name == 0) ≡ empty → AreLong pieces filled → low ≤ page → page + pages_of pieces name ≤ end_page region
    → ((least : ℕ) → least ≤ page + pages_of pieces name → AscendFrom region least rest) → AscendFrom region low (cons_option (cond empty None (Some (area_of region pieces filled (name, page)))) rest)
other_area true region pieces filled low page name rest is long behind within next = next low (omega arith)
other_area false region pieces filled low page name rest is long behind within next = (area_sound region pieces filled low page name long behind is within, next (page + pages_of pieces name) (omega arith))

other_step : (c : Bool) (region : Base) (pieces : List Section) (filled : List (List ℕ)) (low page : ℕ) (name : Name) (names : List Name) → AreLong pieces filled → low ≤ page
    → end_page_from region pieces (cond c page (page + pages_of pieces name)) names ≤ end_page region
    → ((least next : ℕ) → least ≤ next → end_page_from region pieces next names ≤ end_page region → AscendFrom region least (areas_from region pieces filled false next names))
    → AscendFrom region low (areas_with region pieces filled false page name names c)
other_step true region pieces filled low page name names long behind fits next = next low page behind fits
other_step false region pieces filled low page name names long behind fits next =
    let grows = page_grows region pieces (page + pages_of pieces name) names in
    other_area (pages_of pieces name == 0) region pieces filled low page name (areas_from region pieces filled false (page + pages_of pieces name) names) refl long behind (omega arith)
    (λ least le. next least (page + pages_of pieces name) le fits)

others_ascend : (region : Base) (pieces : List Section) (filled : List (List ℕ)) (low page : ℕ) (names : List Name) → AreLong pieces filled → low ≤ page → end_page_from region pieces page names ≤ end_page region
    → AscendFrom region low (areas_from region pieces filled false page names)
others_ascend region pieces filled low page [] long behind fits = let P : List Area → Type 0 = λ areas. AscendFrom region low areas in subst P (sym (none_past region pieces filled false page)) tt
others_ascend region pieces filled low page (name ∷ names) long behind fits =
    let P : List Area → Type 0 = λ areas. AscendFrom region low areas in
    subst P (sym (with_first region pieces filled false page name names))
    (other_step (is_control_block region name) region pieces filled low page name names long behind fits (λ least next le end. others_ascend region pieces filled least next names long le end))

-- ---- the control block stands before them

none_step : (c : Bool) (region : Base) (pieces : List Section) (filled : List (List ℕ)) (page : ℕ) (name : Name) (names : List Name) → cond c (name ∷ filter (is_control_block region) names) (filter (is_control_block region) names) ≡ []
    → ((next : ℕ) → filter (is_control_block region) names ≡ [] → areas_from region pieces filled true next names ≡ []) → areas_with region pieces filled true page name names c ≡ []
none_step true region pieces filled page name names none next = absurd cc
none_step false region pieces filled page name names none next = next (page + pages_of pieces name) none

none_left : (region : Base) (pieces : List Section) (filled : List (List ℕ)) (page : ℕ) (names : List Name) → filter (is_control_block region) names ≡ [] → areas_from region pieces filled true page names ≡ []
none_left region pieces filled page [] none = none_past region pieces filled true page
none_left region pieces filled page (name ∷ names) none =
    with_first region pieces filled true page name names ∙ none_step (is_control_block region name) region pieces filled page name names none (λ next rest. none_left region pieces filled next names rest)

record IsBare (region : Base) : Type 0 where
  low : first_page region ≤ 0x400000
  high : 0x400001 ≤ end_page region
  next : origin region ≡ 0x400001

is_bare : (region : Base) (name : Name) → is_control_block region name ≡ true → IsBare region
is_bare Bare name is = record { low = omega arith; high = omega arith; next = refl }
is_bare User name is = absurd cc

control_area : (empty : Bool) (region : Base) (pieces : List Section) (filled : List (List ℕ)) (name : Name) (others : List Area) → (pages_of pieces name == 0) ≡ empty → AreLong pieces filled → IsBare region → pages_of pieces name ≤ 1
    → AscendFrom region (origin region) others → AscendFrom region (first_page region) (cons_option (cond empty None (Some (area_of region pieces filled (name, 0x400000)))) [] ++ others)
control_area true region pieces filled name others is long bare few ascend =
    let low = bare.low in
    let next = bare.next in
    ascend_later region (first_page region) (origin region) others (omega arith) ascend
control_area false region pieces filled name others is long bare few ascend =
    let high = bare.high in
    let next = bare.next in
    let some = eqb-false (pages_of pieces name) 0 is in
    let here : origin region ≡ 0x400000 + pages_of pieces name = omega arith in
    let P : ℕ → Type 0 = λ low. AscendFrom region low others in
    (area_sound region pieces filled (first_page region) 0x400000 name long bare.low is (omega arith), subst P here ascend)

nothing_in : (names : List Name) → length names ≤ 0 → names ≡ []
nothing_in [] few = refl
nothing_in (name ∷ names) few = absurd (omega arith)

control_step : (c l : Bool) (region : Base) (pieces : List Section) (filled : List (List ℕ)) (page : ℕ) (name : Name) (names : List Name) (others : List Area) → AreLong pieces filled → (c ≡ true → IsBare region)
    → length (cond c (name ∷ filter (is_control_block region) names) (filter (is_control_block region) names)) ≤ 1 → ((c && nat_lt 512 (size_of pieces name)) || l) ≡ false → AscendFrom region (origin region) others
    → ((next : ℕ) → length (filter (is_control_block region) names) ≤ 1 → AscendFrom region (first_page region) (areas_from region pieces filled true next names ++ others))
    → AscendFrom region (first_page region) (areas_with region pieces filled true page name names c ++ others)
control_step true l region pieces filled page name names others long bare few short ascend next =
    let none : areas_from region pieces filled true page names ≡ [] = none_left region pieces filled page names (nothing_in (filter (is_control_block region) names) (omega arith)) in
    let P : List Area → Type 0 = λ rest. AscendFrom region (first_page region) (cons_option (area_unless_empty region pieces filled (name, 0x400000)) rest ++ others) in
    subst P (sym none) (control_area (pages_of pieces name == 0) region pieces filled name others refl long (bare refl) (not_long true l pieces name refl short) ascend)
control_step false l region pieces filled page name names others long bare few short ascend next = next (page + pages_of pieces name) few

first_below : (region : Base) → first_page region ≤ origin region
first_below Bare = omega arith
first_below User = omega arith

controls_ascend : (region : Base) (pieces : List Section) (filled : List (List ℕ)) (page : ℕ) (names : List Name) (others : List Area) → AreLong pieces filled → length (filter (is_control_block region) names) ≤ 1
    → list_any (is_long region pieces) names ≡ false → AscendFrom region (origin region) others → AscendFrom region (first_page region) (areas_from region pieces filled true page names ++ others)
controls_ascend region pieces filled page [] others long few short ascend =
    let P : List Area → Type 0 = λ areas. AscendFrom region (first_page region) (areas ++ others) in
    subst P (sym (none_past region pieces filled true page)) (ascend_later region (first_page region) (origin region) others (first_below region) ascend)
controls_ascend region pieces filled page (name ∷ names) others long few short ascend =
    let P : List Area → Type 0 = λ areas. AscendFrom region (first_page region) (areas ++ others) in
    subst P (sym (with_first region pieces filled true page name names))
    (control_step (is_control_block region name) (list_any (is_long region pieces) names) region pieces filled page name names others long (is_bare region name) few short ascend
    (λ next less. controls_ascend region pieces filled next names others long less (right_false (is_long region pieces name) (list_any (is_long region pieces) names) short) ascend))

-- ---- so they are an image's

pub record HasRoom (region : Base) (pieces : List Section) : Type 0 where
  pub few : length (names_of pieces) ≤ 64
  pub short : list_any (is_long region pieces) (names_of pieces) ≡ false
  pub fits : end_page_from region pieces (origin region) (names_of pieces) ≤ end_page region

pub room_of : (region : Base) (pieces : List Section) → is_too_large region pieces ≡ false → HasRoom region pieces
unfolding is_too_large has_no_room
room_of region pieces room =
    let names = names_of pieces in
    let more = nat_lt 64 (length names) in
    let long = list_any (is_long region pieces) names in
    let past = nat_lt (end_page region) (end_page_from region pieces (origin region) names) in
    let rest : (long || past) ≡ false = right_false more (long || past) room in
    let last = ltb-false (end_page region) (end_page_from region pieces (origin region) names) (right_false long past rest) in
    record { few = ltb-false 64 (length names) (left_false more (long || past) room); short = left_false long past rest; fits = omega arith }

last_page : (region : Base) → (end_page region ≡ origin region + 0x7FFF) ⊎ (end_page region ≡ origin region + 0x7FF)
last_page Bare = inr refl
last_page User = inl refl

-- a section has at most the pages of the program region
pub few_pages : (region : Base) (pieces : List Section) (name : Name) → is_too_large region pieces ≡ false → is_listed (names_of pieces) name ≡ true → pages_of pieces name ≤ 0x7FFF
few_pages region pieces name room listed =
    let is = room_of region pieces room in
    let fits = is.fits in
    let last : end_page region ≤ origin region + 0x7FFF = elim (last_page region) [
      | inl e ↦ omega arith
      | inr e ↦ omega arith
    ] in
    pages_small region pieces (origin region) 0x7FFF (names_of pieces) name is.short (omega arith) (omega arith) listed

pub few_bytes : (region : Base) (pieces : List Section) (name : Name) → is_too_large region pieces ≡ false → is_listed (names_of pieces) name ≡ true → size_of pieces name ≤ 0x1000000
few_bytes region pieces name room listed =
    let few = few_pages region pieces name room listed in
    let size = size_fits pieces name in
    omega arith

pub areas_ascend : (region : Base) (pieces : List Section) (filled : List (List ℕ)) → IsFilling pieces filled → is_too_large region pieces ≡ false → AscendFrom region (first_page region) (areas_of region pieces filled)
areas_ascend region pieces filled filling room =
    let is = room_of region pieces room in
    let long : AreLong pieces filled = λ name. section_long pieces filled name filling in
    let names = names_of pieces in
    let others = areas_from region pieces filled false (origin region) names in
    let places = placed_names region pieces in
    let whole : areas_of region pieces filled ≡ areas_from region pieces filled true (origin region) names ++ others =
    filter_map-append (area_unless_empty region pieces filled) (filter (is_chosen region true) places) (filter (is_chosen region false) places) in
    let P : List Area → Type 0 = λ areas. AscendFrom region (first_page region) areas in
    subst P (sym whole) (controls_ascend region pieces filled (origin region) names others long (few_controls region [] pieces (omega arith)) is.short (others_ascend region pieces filled (origin region) (origin region) names long (omega arith) is.fits))

few_part : {Y : Type 0} (o : Option Y) (ys : List Y) (n : ℕ) → length ys ≤ n → length (cons_option o ys) ≤ suc n
few_part None ys n few = omega arith
few_part (Some y) ys n few = omega arith

few_parts : {X Y : Type 0} (h : X → Option Y) (xs : List X) → length (filter_map h xs) ≤ length xs
few_parts h [] = omega arith
few_parts h (x ∷ xs) = few_part (h x) (filter_map h xs) (length xs) (few_parts h xs)

not_chosen : (region : Base) (p : Name × ℕ) → is_chosen region false p ≡ not (is_chosen region true p)
not_chosen region (name, first) = refl

pub areas_few : (region : Base) (pieces : List Section) (filled : List (List ℕ)) → is_too_large region pieces ≡ false → length (areas_of region pieces filled) ≤ 64
areas_few region pieces filled room =
    let few = (room_of region pieces room).few in
    let places = placed_names region pieces in
    let parts = few_parts (area_unless_empty region pieces filled) (ordered region places) in
    let front = length-append (filter (is_chosen region true) places) (filter (is_chosen region false) places) in
    let both = length-filter_both (is_chosen region true) (is_chosen region false) (not_chosen region) places in
    let zipped = length-zip (names_of pieces) (pages_from region pieces (origin region) (names_of pieces)) in
    omega arith

some_area : (areas : List Area) (address : ℕ) → is_in areas address ≡ true → 0 < length areas
some_area [] address in_one = absurd cc
some_area (area ∷ areas) address in_one = omega arith

pub is_image : (region : Base) (pieces : List Section) (filled : List (List ℕ)) (transfer : ℕ) → IsFilling pieces filled → is_too_large region pieces ≡ false → is_in (areas_of region pieces filled) transfer ≡ true
    → IsImage (record { base = region; transfer = transfer; areas = areas_of region pieces filled })
is_image region pieces filled transfer filling room begins = record {
  some = some_area (areas_of region pieces filled) transfer begins;
  few = areas_few region pieces filled room;
  areas = areas_ascend region pieces filled filling room;
  begins = begins;
}
