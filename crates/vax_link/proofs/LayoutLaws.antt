-- Sections that grow piece by piece.
use Rattle.std.proofs.Common.{◌≡◌, ℕ, zero, suc, ◌+◌, ◌*◌, ◌<◌, ◌≤◌, Bool, true, false, cond, List, [], ◌∷◌, ◌++◌, length, get_or, refl, sym, ap, ◌∙◌, append_assoc, arith}
use Rattle.std.specs.Prelude.{not, ◌&&◌, ◌||◌, ◌==◌}
use Rattle.std.specs.Str.{bytes_eq}
use Rattle.std.specs.List.{fold}
use Rattle.std.proofs.lemmas.List.{append-nil, length_push}
use Rattle.std.proofs.lemmas.Slice.Eq.{bytes_eq-Decides}
use Rattle.std.proofs.lemmas.List.Sums.{fold-append}
use Rattle.std.proofs.lemmas.Grind.{div_ceil_times}
use Rattle.vax_module.specs.declared.Section.{Section}
use Rattle.vax_link.specs.Names.{Name}
use Rattle.vax_image.specs.declared.Base.{Base}
use Rattle.vax_link.specs.Layout.{is_named, is_listed, with_name, names_of, aligned, behind_piece, end_behind, pages_of, is_control_block, page_behind, pages_from, end_page_from, first_page_of, offset_of, addresses_from}

-- the next multiple isn't below
pub aligned_above : (align place : ℕ) → 0 < align → place ≤ aligned align place
aligned_above align place some = (div_ceil_times place align some).0

piece_above : (b : Bool) (align end len : ℕ) → 0 < align → end ≤ cond b (aligned align end + len) end
piece_above true align end len some = let h = aligned_above align end some in omega arith
piece_above false align end len some = omega arith

-- a section doesn't shrink
pub end_grows : (name : Name) (align end : ℕ) (pieces : List Section) → 0 < align → end ≤ end_behind name align end pieces
end_grows name align end [] some = omega arith
end_grows name align end (piece ∷ pieces) some =
    let here = piece_above (is_named name piece && not (length piece.bytes == 0)) align end (length piece.bytes) some in
    let next = end_grows name align (behind_piece name align end piece) pieces some in
    omega arith

-- what has passed a bound goes on past it
pub end_past : (name : Name) (align bound : ℕ) (front back : List Section) (piece : Section) → 0 < align → bound < behind_piece name align (end_behind name align 0 front) piece → bound < end_behind name align 0 (front ++ (piece ∷ back))
end_past name align bound front back piece some past =
    let grows = end_grows name align (behind_piece name align (end_behind name align 0 front) piece) back some in
    let whole : end_behind name align 0 (front ++ (piece ∷ back)) ≡ end_behind name align (behind_piece name align (end_behind name align 0 front) piece) back = fold-append (behind_piece name align) 0 front (piece ∷ back) in
    omega arith

-- ---- names, each where it first appears

grows : (b : Bool) (names : List Name) (name : Name) → length names ≤ length (cond b names (names ++ name ∷ []))
grows true names name = omega arith
grows false names name = omega (arith, length_push names name)

pub names_grow : (names : List Name) (pieces : List Section) → length names ≤ length (fold with_name names pieces)
names_grow names [] = omega arith
names_grow names (piece ∷ pieces) =
    let here = grows (is_listed names piece.name) names piece.name in
    let next = names_grow (with_name names piece) pieces in
    omega arith

-- a new name beside 64 is one too many
pub too_many : (front back : List Section) (piece : Section) → length (names_of front) ≡ 64 → is_listed (names_of front) piece.name ≡ false → 64 < length (names_of (front ++ (piece ∷ back)))
too_many front back piece full new =
    let whole : names_of (front ++ (piece ∷ back)) ≡ fold with_name (with_name (names_of front) piece) back = fold-append with_name [] front (piece ∷ back) in
    let more : with_name (names_of front) piece ≡ names_of front ++ piece.name ∷ [] = rw new refl in
    let long : length (with_name (names_of front) piece) ≡ length (names_of front) + 1 = ap length more ∙ length_push (names_of front) piece.name in
    let next = names_grow (with_name (names_of front) piece) back in
    let same = ap length whole in
    omega arith

-- ---- pages

pub page_more : (region : Base) (pieces : List Section) (page : ℕ) (names : List Name) (name : Name)
    → end_page_from region pieces page (names ++ name ∷ []) ≡ page_behind region pieces (end_page_from region pieces page names) name
page_more region pieces page names name = fold-append (page_behind region pieces) page names (name ∷ [])

-- the page at which a section begins, where another would begin at a page
abbrev pub page_at : Base → ℕ → Name → ℕ
page_at region page name = cond (is_control_block region name) 0x400000 page

pub pages_more : (region : Base) (pieces : List Section) (page : ℕ) (names : List Name) (name : Name)
    → pages_from region pieces page (names ++ name ∷ []) ≡ pages_from region pieces page names ++ page_at region (end_page_from region pieces page names) name ∷ []
unfolding pages_from
pages_more region pieces page [] name = refl
pages_more region pieces page (first ∷ names) name = ap (λ ps. page_at region page first ∷ ps) (pages_more region pieces (page_behind region pieces page first) names name)

behind_above : (b : Bool) (page more : ℕ) → page ≤ cond b page (page + more)
behind_above true page more = omega arith
behind_above false page more = omega arith

-- the next page doesn't go back
pub page_grows : (region : Base) (pieces : List Section) (page : ℕ) (names : List Name) → page ≤ end_page_from region pieces page names
page_grows region pieces page [] = omega arith
page_grows region pieces page (name ∷ names) =
    let here = behind_above (is_control_block region name) page (pages_of pieces name) in
    let next = page_grows region pieces (page_behind region pieces page name) names in
    omega arith

-- a section past the last page stays there, whatever comes behind it
pub page_past : (region : Base) (pieces : List Section) (page bound : ℕ) (front back : List Name) (name : Name) → bound < page_behind region pieces (end_page_from region pieces page front) name
    → bound < end_page_from region pieces page (front ++ (name ∷ back))
page_past region pieces page bound front back name past =
    let whole : end_page_from region pieces page (front ++ (name ∷ back)) ≡ end_page_from region pieces (page_behind region pieces (end_page_from region pieces page front) name) back =
    fold-append (page_behind region pieces) page front (name ∷ back) in
    let next = page_grows region pieces (page_behind region pieces (end_page_from region pieces page front) name) back in
    omega arith

-- ---- addresses

abbrev pub address_at : Base → List Section → List Section → Section → ℕ
address_at region pieces before piece = 512 * first_page_of region pieces piece.name + offset_of pieces before piece

pub addresses_more : (region : Base) (pieces before rest : List Section) (piece : Section)
    → addresses_from region pieces before (rest ++ piece ∷ []) ≡ addresses_from region pieces before rest ++ address_at region pieces (before ++ rest) piece ∷ []
unfolding addresses_from
addresses_more region pieces before [] piece = ap (λ (b : List Section). address_at region pieces b piece ∷ []) (sym (append-nil before))
addresses_more region pieces before (first ∷ rest) piece =
    ap (λ (places : List ℕ). address_at region pieces before first ∷ places) (addresses_more region pieces (before ++ first ∷ []) rest piece)
    ∙ ap (λ (b : List Section). address_at region pieces before first ∷ (addresses_from region pieces (before ++ first ∷ []) rest ++ address_at region pieces b piece ∷ [])) (append_assoc before (first ∷ []) rest)

pub addresses_long : (region : Base) (pieces before rest : List Section) → length (addresses_from region pieces before rest) ≡ length rest
unfolding addresses_from
addresses_long region pieces before [] = refl
addresses_long region pieces before (piece ∷ rest) = ap suc (addresses_long region pieces (before ++ piece ∷ []) rest)

-- ---- each piece's name is among the names

same_name : (name : Name) → bytes_eq name name ≡ true
same_name name = (bytes_eq-Decides name name).1 refl

either : (a b : Bool) → b ≡ true → (a || b) ≡ true
either true b h = refl
either false b h = h

listed_behind : (names : List Name) (name : Name) → is_listed (names ++ name ∷ []) name ≡ true
listed_behind [] name = ap (λ b. b || false) (same_name name)
listed_behind (x ∷ names) name = either (bytes_eq x name) (is_listed (names ++ name ∷ []) name) (listed_behind names name)

front_step : (a b c : Bool) → (a || b) ≡ true → (b ≡ true → c ≡ true) → (a || c) ≡ true
front_step true b c h next = refl
front_step false b c h next = next h

listed_front : (names more : List Name) (name : Name) → is_listed names name ≡ true → is_listed (names ++ more) name ≡ true
listed_front [] more name h = absurd cc
listed_front (x ∷ names) more name h = front_step (bytes_eq x name) (is_listed names name) (is_listed (names ++ more) name) h (listed_front names more name)

listed_with : (b : Bool) (names : List Name) (name other : Name) → is_listed names name ≡ true → is_listed (cond b names (names ++ other ∷ [])) name ≡ true
listed_with true names name other h = h
listed_with false names name other h = listed_front names (other ∷ []) name h

listed_kept : (names : List Name) (pieces : List Section) (name : Name) → is_listed names name ≡ true → is_listed (fold with_name names pieces) name ≡ true
listed_kept names [] name h = h
listed_kept names (piece ∷ pieces) name h = listed_kept (with_name names piece) pieces name (listed_with (is_listed names piece.name) names name piece.name h)

listed_new : (b : Bool) (names : List Name) (name : Name) → is_listed names name ≡ b → is_listed (cond b names (names ++ name ∷ [])) name ≡ true
listed_new true names name is = is
listed_new false names name is = listed_behind names name

pub listed_piece : (front back : List Section) (piece : Section) → is_listed (names_of (front ++ (piece ∷ back))) piece.name ≡ true
listed_piece front back piece =
    let whole : names_of (front ++ (piece ∷ back)) ≡ fold with_name (with_name (names_of front) piece) back = fold-append with_name [] front (piece ∷ back) in
    ap (λ (ns : List Name). is_listed ns piece.name) whole
    ∙ listed_kept (with_name (names_of front) piece) back piece.name (listed_new (is_listed (names_of front) piece.name) (names_of front) piece.name refl)

pub listed_at : (names : List Name) (i : ℕ) (d : Name) → i < length names → is_listed names (get_or names i d) ≡ true
listed_at [] i d lt = absurd (omega arith)
listed_at (x ∷ names) zero d lt = ap (λ b. b || is_listed names x) (same_name x)
listed_at (x ∷ names) (suc i) d lt = either (bytes_eq x (get_or names i d)) (is_listed names (get_or names i d)) (listed_at names i d (omega arith))

-- a section doesn't end behind its first pieces later than behind all
pub prefix_ends : (name : Name) (align : ℕ) (front back : List Section) → 0 < align → end_behind name align 0 front ≤ end_behind name align 0 (front ++ back)
prefix_ends name align front back some =
    let whole : end_behind name align 0 (front ++ back) ≡ end_behind name align (end_behind name align 0 front) back = fold-append (behind_piece name align) 0 front back in
    let grows = end_grows name align (end_behind name align 0 front) back some in
    omega arith
