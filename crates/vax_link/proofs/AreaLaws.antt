-- The areas that the code makes of sections.
use Rattle.std.proofs.Common.{◌≡◌, ℕ, suc, ◌+◌, ◌-◌, ◌<◌, ◌≤◌, Bool, true, false, cond, List, [], ◌∷◌, ◌++◌, length, take, get_or, Option, Some, None, refl, sym, ap, ◌∙◌, append_assoc, arith}
use Rattle.std.specs.Bool.{beq}
use Rattle.std.specs.Prelude.{not, ◌&&◌, ◌==◌, replicate, slice_index}
use Rattle.std.specs.Borrow.{Bor}
use Rattle.std.specs.Global.{Vec}
use Rattle.std.specs.List.{filter, filter_map, fold, zip}
use Rattle.std.specs.Int.{div_ceil}
use Rattle.std.proofs.lemmas.Bool.{eqb-true, eqb-false}
use Rattle.std.proofs.lemmas.List.{append-nil, take_all, take_more, length-map}
use Rattle.std.proofs.lemmas.List.{get_or-map as read-map}
use Rattle.std.proofs.lemmas.List.Elements.{filter-append, filter_map-append}
use Rattle.std.proofs.lemmas.Slice.Zip.{get_or-zip, length-zip}
use Rattle.vax_space.specs.declared.Area.{Area}
use Rattle.vax_module.specs.declared.Section.{Section}
use Rattle.vax_module.specs.declared.Module.{Module}
use Rattle.vax_image.specs.declared.Base.{Base}
use Rattle.vax_link.specs.declared.placed.Layout.{Layout}
use Rattle.vax_link.specs.Names.{Name}
use Rattle.vax_link.specs.Layout.{aligned, is_control_block, is_listed, is_named, is_too_large, is_writable, names_in, names_of, origin, page_behind, pages_from, pages_of, pages_of_names, pieces_of, placed_names, sections_in, size_of}
use Rattle.vax_link.specs.Placed.{IsLayout, bytes_in}
use Rattle.vax_link.specs.Values.{filled_from}
use Rattle.vax_link.specs.Linked.{area_of, area_unless_empty, areas_of, bytes_of, is_chosen, protection, with_piece}
use Rattle.vax_link.proofs.LayoutLaws.{aligned_above, listed_at}
use Rattle.vax_link.proofs.ImageLaws.{few_bytes, size_fits}
use Rattle.vax_link.proofs.RoomLaws.{name_at}
use Rattle.vax_link.proofs.LinkLaws.{areas_in}

-- ---- one area

pub empty_area : (region : Base) (pieces : List Section) (filled : List (List ℕ)) (name : Name) (first size : ℕ) → size ≡ size_of pieces name → (size == 0) ≡ true → None ≡ area_unless_empty region pieces filled (name, first)
empty_area region pieces filled name first size same none =
    let pages : pages_of pieces name ≡ 0 = ap (λ (n : ℕ). div_ceil n 512) (sym same ∙ eqb-true size 0 none) in
    sym (ap (λ (n : ℕ). cond (n == 0) None (Some (area_of region pieces filled (name, first)))) pages)

not_zero : (b : Bool) (n : ℕ) → (n == 0) ≡ b → 0 < n → (n == 0) ≡ false
not_zero true n is some = absurd (let e = eqb-true n 0 is in omega arith)
not_zero false n is some = is

pub full_area : (region : Base) (pieces : List Section) (filled : List (List ℕ)) (name : Name) (first size pages prot : ℕ) (bytes : List ℕ) → size ≡ size_of pieces name → (size == 0) ≡ false
    → pages ≡ div_ceil size 512 → prot ≡ protection region (is_control_block region name) (is_writable name pieces) → bytes ≡ bytes_of pieces filled name
    → Some (record { first = first; pages = pages; prot = prot; bytes = bytes }) ≡ area_unless_empty region pieces filled (name, first)
full_area region pieces filled name first size pages prot bytes same full pages_are prot_is bytes_are =
    let some = eqb-false size 0 full in
    let fits = size_fits pieces name in
    let full_pages : (pages_of pieces name == 0) ≡ false = not_zero (pages_of pieces name == 0) (pages_of pieces name) refl (omega arith) in
    let make : ℕ → ℕ → List ℕ → Option Area = λ p q b. Some (record { first = first; pages = p; prot = q; bytes = b }) in
    ap (λ (p : ℕ). make p prot bytes) (pages_are ∙ ap (λ (n : ℕ). div_ceil n 512) same) ∙ ap (λ (q : ℕ). make (pages_of pieces name) q bytes) prot_is
    ∙ ap (λ (b : List ℕ). make (pages_of pieces name) (protection region (is_control_block region name) (is_writable name pieces)) b) bytes_are
    ∙ sym (ap (λ b. cond b None (Some (area_of region pieces filled (name, first)))) full_pages)

-- ---- all areas

pages_long : (region : Base) (pieces : List Section) (page : ℕ) (names : List Name) → length (pages_from region pieces page names) ≡ length names
unfolding pages_from
pages_long region pieces page [] = refl
pages_long region pieces page (name ∷ names) = ap suc (pages_long region pieces (page_behind region pieces page name) names)

pub name_small : (region : Base) (pieces : List Section) (names : List (Bor (List ℕ))) (i : ℕ) → is_too_large region pieces ≡ false → names_in names ≡ names_of pieces → i < length names → size_of pieces (name_at names i).now ≤ 0x1000000
name_small region pieces names i room same lt =
    let name : Bor (List ℕ) → List ℕ = λ n. n.now in
    let long = length-map names name in
    let at : get_or (names_in names) i [] ≡ (name_at names i).now = read-map name names i (record { ref_ptr = (0, 0); now = [] }) [] lt in
    let listed : is_listed (names_of pieces) (name_at names i).now ≡ true =
    ap (λ (ns : List Name). is_listed ns (name_at names i).now) (sym same) ∙ ap (is_listed (names_in names)) (sym at) ∙ listed_at (names_in names) i [] (omega arith) in
    few_bytes region pieces (name_at names i).now room listed

pub placed_more : (region : Base) (pieces : List Section) (names : List (Bor (List ℕ))) (pages : List ℕ) (i : ℕ) → names_in names ≡ names_of pieces → pages ≡ pages_of_names region pieces → i < length names
    → take (i + 1) (placed_names region pieces) ≡ take i (placed_names region pieces) ++ ((name_at names i).now, slice_index pages i) ∷ []
placed_more region pieces names pages i same begun lt =
    let name : Bor (List ℕ) → List ℕ = λ n. n.now in
    let d : Name × ℕ = ([], 0) in
    let long = length-map names name in
    let long_names = ap length same in
    let long_pages : length (pages_of_names region pieces) ≡ length (names_of pieces) = pages_long region pieces (origin region) (names_of pieces) in
    let long_zip = length-zip (names_of pieces) (pages_of_names region pieces) in
    let at : get_or (names_in names) i [] ≡ (name_at names i).now = read-map name names i (record { ref_ptr = (0, 0); now = [] }) [] lt in
    let item : get_or (placed_names region pieces) i d ≡ ((name_at names i).now, slice_index pages i) =
    get_or-zip (names_of pieces) (pages_of_names region pieces) i d (omega arith) (omega arith)
    ∙ ap (λ (ns : List Name). (get_or ns i [], slice_index (pages_of_names region pieces) i)) (sym same) ∙ ap (λ (n : Name). (n, slice_index (pages_of_names region pieces) i)) at
    ∙ ap (λ (ps : List ℕ). ((name_at names i).now, slice_index ps i)) (sym begun) in
    take_more (placed_names region pieces) i d (omega arith) ∙ ap (λ (p : Name × ℕ). take i (placed_names region pieces) ++ p ∷ []) item

pub placed_all : (region : Base) (pieces : List Section) (names : List (Bor (List ℕ))) (i : ℕ) → names_in names ≡ names_of pieces → length names ≤ i → take i (placed_names region pieces) ≡ placed_names region pieces
placed_all region pieces names i same past =
    let name : Bor (List ℕ) → List ℕ = λ n. n.now in
    let long = length-map names name in
    let long_names = ap length same in
    let long_zip = length-zip (names_of pieces) (pages_of_names region pieces) in
    take_all i (placed_names region pieces) (omega arith)

pub chosen : (control : Bool) (region : Base) (name : Name) (first : ℕ) (is : Bool) → is ≡ is_control_block region name → beq is control ≡ true → is_chosen region control (name, first) ≡ true
chosen true region name first true same here = sym same
chosen true region name first false same here = absurd cc
chosen false region name first true same here = absurd cc
chosen false region name first false same here = ap not (sym same)

pub passed_over : (control : Bool) (region : Base) (name : Name) (first : ℕ) (is : Bool) → is ≡ is_control_block region name → beq is control ≡ false → is_chosen region control (name, first) ≡ false
passed_over true region name first true same other = absurd cc
passed_over true region name first false same other = sym same
passed_over false region name first true same other = ap not (sym same)
passed_over false region name first false same other = absurd cc

pub areas_more : (h : Name × ℕ → Option Area) (test : Name × ℕ → Bool) (old out next : List Area) (front : List (Name × ℕ)) (p : Name × ℕ) (area : Area) → test p ≡ true → Some area ≡ h p → out ≡ old ++ filter_map h (filter test front) → next ≡ out ++ area ∷ []
    → next ≡ old ++ filter_map h (filter test (front ++ p ∷ []))
areas_more h test old out next front p area passes gives so_far more =
    let here : filter_map h (filter test (p ∷ [])) ≡ area ∷ [] = rw (passes, sym gives) refl in
    more ∙ ap (λ (xs : List Area). xs ++ area ∷ []) so_far ∙ append_assoc old (filter_map h (filter test front)) (area ∷ [])
    ∙ ap (λ (xs : List Area). old ++ (filter_map h (filter test front) ++ xs)) (sym here) ∙ ap (λ (xs : List Area). old ++ xs) (sym (filter_map-append h (filter test front) (filter test (p ∷ []))))
    ∙ ap (λ (ps : List (Name × ℕ)). old ++ filter_map h ps) (sym (filter-append test front (p ∷ [])))

same_areas : (h : Name × ℕ → Option Area) (test : Name × ℕ → Bool) (old out : List Area) (front : List (Name × ℕ)) (p : Name × ℕ) → filter_map h (filter test (p ∷ [])) ≡ [] → out ≡ old ++ filter_map h (filter test front)
    → out ≡ old ++ filter_map h (filter test (front ++ p ∷ []))
same_areas h test old out front p none so_far =
    so_far ∙ ap (λ (xs : List Area). old ++ xs) (sym (append-nil (filter_map h (filter test front)))) ∙ ap (λ (xs : List Area). old ++ (filter_map h (filter test front) ++ xs)) (sym none)
    ∙ ap (λ (xs : List Area). old ++ xs) (sym (filter_map-append h (filter test front) (filter test (p ∷ [])))) ∙ ap (λ (ps : List (Name × ℕ)). old ++ filter_map h ps) (sym (filter-append test front (p ∷ [])))

pub areas_empty : (h : Name × ℕ → Option Area) (test : Name × ℕ → Bool) (old out : List Area) (front : List (Name × ℕ)) (p : Name × ℕ) → test p ≡ true → None ≡ h p → out ≡ old ++ filter_map h (filter test front)
    → out ≡ old ++ filter_map h (filter test (front ++ p ∷ []))
areas_empty h test old out front p passes gives so_far = same_areas h test old out front p (rw (passes, sym gives) refl) so_far

pub areas_passed : (h : Name × ℕ → Option Area) (test : Name × ℕ → Bool) (old out : List Area) (front : List (Name × ℕ)) (p : Name × ℕ) → test p ≡ false → out ≡ old ++ filter_map h (filter test front)
    → out ≡ old ++ filter_map h (filter test (front ++ p ∷ []))
areas_passed h test old out front p fails so_far = same_areas h test old out front p (rw fails refl) so_far

pub areas_joined : (region : Base) (pieces : List Section) (filled : List (List ℕ)) (first all : List Area) → first ≡ filter_map (area_unless_empty region pieces filled) (filter (is_chosen region true) (placed_names region pieces))
    → all ≡ first ++ filter_map (area_unless_empty region pieces filled) (filter (is_chosen region false) (placed_names region pieces)) → all ≡ areas_of region pieces filled
areas_joined region pieces filled first all begun more =
    let places = placed_names region pieces in
    let h = area_unless_empty region pieces filled in
    more ∙ ap (λ (xs : List Area). xs ++ filter_map h (filter (is_chosen region false) places)) begun ∙ sym (filter_map-append h (filter (is_chosen region true) places) (filter (is_chosen region false) places))

-- ---- the bytes of a section

pub piece_joined : (name : Name) (align : ℕ) (joined next : List ℕ) (xs rest : List (Bor Section)) (x : Bor Section) (ys others : List (Vec ℕ)) (y : Vec ℕ) (total : List ℕ) → xs ≡ x ∷ rest → ys ≡ y ∷ others
    → next ≡ with_piece name align joined (x.now, y.items) → fold (with_piece name align) joined (zip (sections_in xs) (bytes_in ys)) ≡ total → fold (with_piece name align) next (zip (sections_in rest) (bytes_in others)) ≡ total
piece_joined name align joined next xs rest x ys others y total first second here so_far =
    ap (λ (b : List ℕ). fold (with_piece name align) b (zip (sections_in rest) (bytes_in others))) here
    ∙ ap (λ (vs : List (Vec ℕ)). fold (with_piece name align) joined (zip (sections_in (x ∷ rest)) (bytes_in vs))) (sym second)
    ∙ ap (λ (ss : List (Bor Section)). fold (with_piece name align) joined (zip (sections_in ss) (bytes_in ys))) (sym first) ∙ so_far

-- ---- the areas of modules

pub areas_are : (region : Base) (modules : List Module) (layout kept : Layout) (filled : List (Vec ℕ)) → layout ≡ kept → IsLayout kept region modules → bytes_in filled ≡ filled_from region modules 0 modules
    → areas_of layout.base (sections_in layout.pieces.items) (bytes_in filled) ≡ areas_in region modules
areas_are region modules layout kept filled same is bytes =
    ap (λ (l : Layout). areas_of l.base (sections_in l.pieces.items) (bytes_in filled)) same ∙ ap (λ (b : Base). areas_of b (sections_in kept.pieces.items) (bytes_in filled)) is.place
    ∙ ap (λ (ss : List Section). areas_of region ss (bytes_in filled)) is.pieces ∙ ap (areas_of region (pieces_of modules)) bytes

pub piece_put : (name : Name) (align : ℕ) (joined bytes resized next : List ℕ) (begin len : ℕ) (s : Section) → 1 ≤ align → is_named name s ≡ true → (length bytes == 0) ≡ false → len ≡ length joined → begin ≡ aligned align len
    → resized ≡ take begin joined ++ replicate (begin - len) 0 → next ≡ resized ++ bytes → next ≡ with_piece name align joined (s, bytes)
piece_put name align joined bytes resized next begin len s some named full long begins resize more =
    let above = aligned_above align len some in
    let b : begin ≡ aligned align (length joined) = begins ∙ ap (aligned align) long in
    let whole : take begin joined ≡ joined = take_all begin joined (omega arith) in
    let gap : ℕ → List ℕ = λ n. replicate n 0 in
    let test : (is_named name s && not (length bytes == 0)) ≡ true = ap (λ t. t && not (length bytes == 0)) named ∙ ap not full in
    more ∙ ap (λ (t : List ℕ). t ++ bytes) (resize ∙ ap (λ (t : List ℕ). t ++ gap (begin - len)) whole) ∙ append_assoc joined (gap (begin - len)) bytes
    ∙ ap (λ (n : ℕ). joined ++ (gap (n - len) ++ bytes)) b ∙ ap (λ (n : ℕ). joined ++ (gap (aligned align (length joined) - n) ++ bytes)) long
    ∙ sym (ap (λ t. cond t (joined ++ (gap (aligned align (length joined) - length joined) ++ bytes)) joined) test)

pub piece_passed : (name : Name) (align : ℕ) (joined bytes : List ℕ) (s : Section) → (is_named name s && not (length bytes == 0)) ≡ false → joined ≡ with_piece name align joined (s, bytes)
piece_passed name align joined bytes s test = sym (ap (λ t. cond t (joined ++ (replicate (aligned align (length joined) - length joined) 0 ++ bytes)) joined) test)

zip_nothing : {A B : Type 0} (xs : List A) (ys : List B) → ys ≡ [] → zip xs ys ≡ []
zip_nothing [] ys none = refl
zip_nothing (x ∷ xs) [] none = refl
zip_nothing (x ∷ xs) (y ∷ ys) none = absurd cc

pub first_ended : (name : Name) (align : ℕ) (joined : List ℕ) (xs : List (Bor Section)) (ys : List (Vec ℕ)) (total : List ℕ) → xs ≡ [] → fold (with_piece name align) joined (zip (sections_in xs) (bytes_in ys)) ≡ total → joined ≡ total
first_ended name align joined xs ys total none so_far = ap (λ (ss : List (Bor Section)). fold (with_piece name align) joined (zip (sections_in ss) (bytes_in ys))) (sym none) ∙ so_far

pub second_ended : (name : Name) (align : ℕ) (joined : List ℕ) (xs : List (Bor Section)) (ys : List (Vec ℕ)) (total : List ℕ) → ys ≡ [] → fold (with_piece name align) joined (zip (sections_in xs) (bytes_in ys)) ≡ total → joined ≡ total
second_ended name align joined xs ys total none so_far = ap (fold (with_piece name align) joined) (sym (zip_nothing (sections_in xs) (bytes_in ys) (ap bytes_in none))) ∙ so_far
