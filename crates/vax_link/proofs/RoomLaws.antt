-- Whether the sections have room, name by name.
use Rattle.std.proofs.Common.{◌≡◌, ℕ, zero, suc, ◌+◌, ◌*◌, ◌<◌, ◌≤◌, Bool, true, false, cond, List, [], ◌∷◌, ◌++◌, length, take, drop, get_or, refl, sym, ap, subst, ◌∙◌, append_assoc, arith}
use Rattle.std.specs.Prelude.{All, not, ◌&&◌, ◌||◌, ◌==◌, nat_lt}
use Rattle.std.specs.Str.{bytes_eq}
use Rattle.std.specs.Borrow.{Bor}
use Rattle.std.specs.List.{list_any}
use Rattle.std.proofs.lemmas.Bool.{lt-ltb, le-ltb}
use Rattle.std.proofs.lemmas.List.{take_more, take-append-drop, length-map, length_push, map-append, map_push}
use Rattle.std.proofs.lemmas.List.Folds.{list_any-append}
use Rattle.std.proofs.lemmas.List.Sums.{fold-append}
use Rattle.std.proofs.lemmas.Grind.{elements}
use Rattle.vax_module.specs.declared.Section.{Section}
use Rattle.vax_image.specs.declared.Base.{Base}
use Rattle.vax_image.specs.declared.Base.TheVariants.{Bare, User}
use Rattle.vax_image.specs.Image.{end_page}
use Rattle.vax_link.specs.Names.{Name}
use Rattle.vax_link.specs.Layout.{IsPlaced, addresses, addresses_from, first_page_of, offset_of, pages_of_names, align_of, aligned, end_behind, is_listed, is_named, is_writable, with_name, end_page_from, has_no_room, is_control_block, is_too_large, names_in, names_of, origin, page_behind, pages_from, pages_of, sections_in, size_of}
use Rattle.vax_link.proofs.LayoutLaws.{address_at, addresses_more, listed_piece, prefix_ends, end_past, page_grows, page_more, page_past, pages_more, too_many}
use Rattle.vax_link.proofs.ImageLaws.{aligns, end_in_size, few_bytes, is_long, size_fits}

-- ---- what a loop over borrowed sections and names has passed

pub sections_pushed : (pieces : List (Bor Section)) (i : ℕ) (x : Bor Section) → i < length pieces → x ≡ get_or pieces i x → sections_in (take (i + 1) pieces) ≡ sections_in (take i pieces) ++ x.now ∷ []
sections_pushed pieces i x lt is =
    ap sections_in (take_more pieces i x lt ∙ ap (λ (y : Bor Section). take i pieces ++ y ∷ []) (sym is)) ∙ map_push (λ p. p.now) (take i pieces) x

pub sections_parted : (pieces : List (Bor Section)) (i : ℕ) (x : Bor Section) → i < length pieces → x ≡ get_or pieces i x → sections_in pieces ≡ sections_in (take i pieces) ++ (x.now ∷ sections_in (drop (i + 1) pieces))
sections_parted pieces i x lt is =
    ap sections_in (sym (take-append-drop (i + 1) pieces)) ∙ map-append (λ p. p.now) (take (i + 1) pieces) (drop (i + 1) pieces)
    ∙ ap (λ (ss : List Section). ss ++ sections_in (drop (i + 1) pieces)) (sections_pushed pieces i x lt is) ∙ append_assoc (sections_in (take i pieces)) (x.now ∷ []) (sections_in (drop (i + 1) pieces))

pub names_pushed : (names : List (Bor (List ℕ))) (i : ℕ) (x : Bor (List ℕ)) → i < length names → x ≡ get_or names i x → names_in (take (i + 1) names) ≡ names_in (take i names) ++ x.now ∷ []
names_pushed names i x lt is =
    ap names_in (take_more names i x lt ∙ ap (λ (y : Bor (List ℕ)). take i names ++ y ∷ []) (sym is)) ∙ map_push (λ n. n.now) (take i names) x

pub names_parted : (names : List (Bor (List ℕ))) (i : ℕ) (x : Bor (List ℕ)) → i < length names → x ≡ get_or names i x → names_in names ≡ names_in (take i names) ++ (x.now ∷ names_in (drop (i + 1) names))
names_parted names i x lt is =
    ap names_in (sym (take-append-drop (i + 1) names)) ∙ map-append (λ n. n.now) (take (i + 1) names) (drop (i + 1) names)
    ∙ ap (λ (ns : List Name). ns ++ names_in (drop (i + 1) names)) (names_pushed names i x lt is) ∙ append_assoc (names_in (take i names)) (x.now ∷ []) (names_in (drop (i + 1) names))

-- ---- a section without room

or_true : (a b : Bool) → b ≡ true → (a || b) ≡ true
or_true true b h = refl
or_true false b h = h

true_or : (a b : Bool) → a ≡ true → (a || b) ≡ true
true_or true b h = refl
true_or false b h = absurd cc

long_among : (region : Base) (pieces : List Section) (front back : List Name) (name : Name) → is_long region pieces name ≡ true → list_any (is_long region pieces) (front ++ (name ∷ back)) ≡ true
long_among region pieces front back name is =
    list_any-append (is_long region pieces) front (name ∷ back)
    ∙ or_true (list_any (is_long region pieces) front) (is_long region pieces name || list_any (is_long region pieces) back) (true_or (is_long region pieces name) (list_any (is_long region pieces) back) is)

pub too_long : (region : Base) (pieces : List Section) (front back : List Name) (name : Name) → is_control_block region name ≡ true → 512 < size_of pieces name → has_no_room region pieces (front ++ (name ∷ back)) ≡ true
unfolding has_no_room
too_long region pieces front back name control long =
    let is : is_long region pieces name ≡ true = ap (λ b. b && nat_lt 512 (size_of pieces name)) control ∙ lt-ltb 512 (size_of pieces name) long in
    true_or (list_any (is_long region pieces) (front ++ (name ∷ back))) (nat_lt (end_page region) (end_page_from region pieces (origin region) (front ++ (name ∷ back)))) (long_among region pieces front back name is)

pub too_far : (region : Base) (pieces : List Section) (front back : List Name) (name : Name) → end_page region < page_behind region pieces (end_page_from region pieces (origin region) front) name → has_no_room region pieces (front ++ (name ∷ back)) ≡ true
unfolding has_no_room
too_far region pieces front back name far =
    let past = page_past region pieces (origin region) (end_page region) front back name far in
    or_true (list_any (is_long region pieces) (front ++ (name ∷ back))) (nat_lt (end_page region) (end_page_from region pieces (origin region) (front ++ (name ∷ back))))
    (lt-ltb (end_page region) (end_page_from region pieces (origin region) (front ++ (name ∷ back))) past)

limit_near : (region : Base) → end_page region ≤ origin region + 0x7FFF
limit_near Bare = omega arith
limit_near User = omega arith

pub far_behind : (c : Bool) (page more last : ℕ) → c ≡ false → last < page + more → last < cond c page (page + more)
far_behind true page more last is far = absurd cc
far_behind false page more last is far = far

by_kind : (c : Bool) (region : Base) (pieces : List Section) (front back : List Name) (name : Name) → is_control_block region name ≡ c → 0x1000000 < size_of pieces name → has_no_room region pieces (front ++ (name ∷ back)) ≡ true
by_kind true region pieces front back name is many = too_long region pieces front back name is (omega arith)
by_kind false region pieces front back name is many =
    let fits = size_fits pieces name in
    let near = limit_near region in
    let grows = page_grows region pieces (origin region) front in
    too_far region pieces front back name (far_behind (is_control_block region name) (end_page_from region pieces (origin region) front) (pages_of pieces name) (end_page region) is (omega arith))

pub too_many_bytes : (region : Base) (pieces : List Section) (front back : List Name) (name : Name) → 0x1000000 < size_of pieces name → has_no_room region pieces (front ++ (name ∷ back)) ≡ true
too_many_bytes region pieces front back name many = by_kind (is_control_block region name) region pieces front back name refl many

-- ---- one more section with room

false_or : (a b : Bool) → a ≡ false → b ≡ false → (a || b) ≡ false
false_or true b p q = absurd cc
false_or false b p q = q

front_false : (a b : Bool) → (a || b) ≡ false → a ≡ false
front_false true b h = h
front_false false b h = refl

pub room_more : (region : Base) (pieces : List Section) (front : List Name) (name : Name) → has_no_room region pieces front ≡ false → is_long region pieces name ≡ false
    → page_behind region pieces (end_page_from region pieces (origin region) front) name ≤ end_page region → has_no_room region pieces (front ++ name ∷ []) ≡ false
unfolding has_no_room
room_more region pieces front name room short fits =
    let before = front_false (list_any (is_long region pieces) front) (nat_lt (end_page region) (end_page_from region pieces (origin region) front)) room in
    let all : list_any (is_long region pieces) (front ++ name ∷ []) ≡ false =
    list_any-append (is_long region pieces) front (name ∷ []) ∙ false_or (list_any (is_long region pieces) front) (is_long region pieces name || false) before (false_or (is_long region pieces name) false short refl) in
    let last = page_more region pieces (origin region) front name in
    false_or (list_any (is_long region pieces) (front ++ name ∷ [])) (nat_lt (end_page region) (end_page_from region pieces (origin region) (front ++ name ∷ []))) all
    (le-ltb (end_page region) (end_page_from region pieces (origin region) (front ++ name ∷ [])) (omega (arith, last)))

short_by : (c : Bool) (pieces : List Section) (name : Name) (size : ℕ) → size ≡ size_of pieces name → (c ≡ true → size ≤ 512) → (c && nat_lt 512 (size_of pieces name)) ≡ false
short_by true pieces name size is small = le-ltb 512 (size_of pieces name) (let h = small refl in omega arith)
short_by false pieces name size is small = refl

pub is_short : (region : Base) (pieces : List Section) (name : Name) (size : ℕ) → size ≡ size_of pieces name → (is_control_block region name ≡ true → size ≤ 512) → is_long region pieces name ≡ false
is_short region pieces name size is small = short_by (is_control_block region name) pieces name size is small

pub room_at_first : (region : Base) (pieces : List Section) → has_no_room region pieces [] ≡ false
unfolding has_no_room
room_at_first Bare pieces = refl
room_at_first User pieces = refl

-- ---- all sections

pub many_names : (region : Base) (pieces : List Section) → 64 < length (names_of pieces) → is_too_large region pieces ≡ true
unfolding is_too_large
many_names region pieces many = true_or (nat_lt 64 (length (names_of pieces))) (has_no_room region pieces (names_of pieces)) (lt-ltb 64 (length (names_of pieces)) many)

pub no_room : (region : Base) (pieces : List Section) (names : List Name) → names ≡ names_of pieces → has_no_room region pieces names ≡ true → is_too_large region pieces ≡ true
unfolding is_too_large
no_room region pieces names same none =
    or_true (nat_lt 64 (length (names_of pieces))) (has_no_room region pieces (names_of pieces)) (ap (has_no_room region pieces) (sym same) ∙ none)

pub has_all_room : (region : Base) (pieces : List Section) (names : List Name) → names ≡ names_of pieces → length names ≤ 64 → has_no_room region pieces names ≡ false → is_too_large region pieces ≡ false
unfolding is_too_large
has_all_room region pieces names same few room =
    let short = ap length same in
    false_or (nat_lt 64 (length (names_of pieces))) (has_no_room region pieces (names_of pieces)) (le-ltb 64 (length (names_of pieces)) (omega arith)) (ap (has_no_room region pieces) (sym same) ∙ room)

-- ---- a section that is too long, or that may be written

past_step : (b : Bool) (far near bound : ℕ) → b ≡ true → bound < far → bound < cond b far near
past_step true far near bound is past = past
past_step false far near bound is past = absurd cc

both : (a b : Bool) → a ≡ true → b ≡ false → (a && not b) ≡ true
both true true p q = absurd cc
both true false p q = refl
both false b p q = absurd cc

pub end_too_far : (pieces : List (Bor Section)) (i : ℕ) (x : Bor Section) (name : Name) (align end begin len bound : ℕ) → i < length pieces → x ≡ get_or pieces i x → 1 ≤ align → bytes_eq x.now.name name ≡ true → (length x.now.bytes == 0) ≡ false
    → end ≡ end_behind name align 0 (sections_in (take i pieces)) → begin ≡ aligned align end → len ≡ length x.now.bytes → bound < begin + len → bound < end_behind name align 0 (sections_in pieces)
end_too_far pieces i x name align end begin len bound lt is some named full ends begins long far =
    let front = sections_in (take i pieces) in
    let begun : begin ≡ aligned align (end_behind name align 0 front) = begins ∙ ap (aligned align) ends in
    let past = past_step (is_named name x.now && not (length x.now.bytes == 0)) (aligned align (end_behind name align 0 front) + length x.now.bytes) (end_behind name align 0 front) bound
    (both (is_named name x.now) (length x.now.bytes == 0) named full) (omega arith) in
    let P : List Section → Type 0 = λ ss. bound < end_behind name align 0 ss in
    subst P (sym (sections_parted pieces i x lt is)) (end_past name align bound front (sections_in (drop (i + 1) pieces)) x.now some past)

two_true : (a b : Bool) → a ≡ true → b ≡ true → (a && b) ≡ true
two_true true b p q = q
two_true false b p q = absurd cc

pub writable_here : (pieces : List (Bor Section)) (i : ℕ) (x : Bor Section) (name : Name) → i < length pieces → x ≡ get_or pieces i x → bytes_eq x.now.name name ≡ true → x.now.write ≡ true → true ≡ is_writable name (sections_in pieces)
unfolding is_writable
writable_here pieces i x name lt is named write =
    let test : Section → Bool = λ piece. is_named name piece && piece.write in
    let front = sections_in (take i pieces) in
    let back = sections_in (drop (i + 1) pieces) in
    sym (ap (list_any test) (sections_parted pieces i x lt is) ∙ list_any-append test front (x.now ∷ back)
    ∙ or_true (list_any test front) (test x.now || list_any test back) (true_or (test x.now) (list_any test back) (two_true (is_named name x.now) x.now.write named write)))

pub writable_more : (pieces : List (Bor Section)) (i : ℕ) (x : Bor Section) (name : Name) → i < length pieces → x ≡ get_or pieces i x → (is_named name x.now && x.now.write) ≡ false → is_writable name (sections_in (take i pieces)) ≡ false
    → is_writable name (sections_in (take (i + 1) pieces)) ≡ false
unfolding is_writable
writable_more pieces i x name lt is fixed so_far =
    let test : Section → Bool = λ piece. is_named name piece && piece.write in
    let front = sections_in (take i pieces) in
    ap (list_any test) (sections_pushed pieces i x lt is) ∙ list_any-append test front (x.now ∷ []) ∙ false_or (list_any test front) (test x.now || false) so_far (false_or (test x.now) false fixed refl)

pub none_writable : (name : Name) → is_writable name [] ≡ false
unfolding is_writable
none_writable name = refl

pub right_false_and : (a b : Bool) → b ≡ false → (a && b) ≡ false
right_false_and true b h = h
right_false_and false b h = refl

pub left_false_and : (a b : Bool) → a ≡ false → (a && b) ≡ false
left_false_and true b h = absurd cc
left_false_and false b h = refl

-- ---- names, each where it first appears

pub name_known : (pieces : List (Bor Section)) (i : ℕ) (x : Bor Section) (names : List Name) → i < length pieces → x ≡ get_or pieces i x → names ≡ names_of (sections_in (take i pieces)) → is_listed names x.now.name ≡ true
    → names ≡ names_of (sections_in (take (i + 1) pieces))
name_known pieces i x names lt is so_far listed =
    let front = sections_in (take i pieces) in
    let here : with_name (names_of front) x.now ≡ names_of front = rw (ap (λ (ns : List Name). is_listed ns x.now.name) (sym so_far) ∙ listed) refl in
    so_far ∙ sym here ∙ sym (fold-append with_name [] front (x.now ∷ [])) ∙ ap names_of (sym (sections_pushed pieces i x lt is))

pub name_new : (pieces : List (Bor Section)) (i : ℕ) (x : Bor Section) (names : List Name) → i < length pieces → x ≡ get_or pieces i x → names ≡ names_of (sections_in (take i pieces)) → is_listed names x.now.name ≡ false
    → names ++ x.now.name ∷ [] ≡ names_of (sections_in (take (i + 1) pieces))
name_new pieces i x names lt is so_far new =
    let front = sections_in (take i pieces) in
    let here : with_name (names_of front) x.now ≡ names_of front ++ x.now.name ∷ [] = rw (ap (λ (ns : List Name). is_listed ns x.now.name) (sym so_far) ∙ new) refl in
    ap (λ (ns : List Name). ns ++ x.now.name ∷ []) so_far ∙ sym here ∙ sym (fold-append with_name [] front (x.now ∷ [])) ∙ ap names_of (sym (sections_pushed pieces i x lt is))

pub names_too_many : (pieces : List (Bor Section)) (i : ℕ) (x : Bor Section) (names : List Name) → i < length pieces → x ≡ get_or pieces i x → names ≡ names_of (sections_in (take i pieces)) → is_listed names x.now.name ≡ false → length names ≡ 64
    → 64 < length (names_of (sections_in pieces))
names_too_many pieces i x names lt is so_far new full =
    let front = sections_in (take i pieces) in
    let P : List Section → Type 0 = λ ss. 64 < length (names_of ss) in
    subst P (sym (sections_parted pieces i x lt is)) (too_many front (sections_in (drop (i + 1) pieces)) x.now (ap length (sym so_far) ∙ full) (ap (λ (ns : List Name). is_listed ns x.now.name) (sym so_far) ∙ new))

-- ---- the pages at which sections begin

own_item : {X : Type 0} (xs : List X) (i : ℕ) (d : X) → i < length xs → get_or xs i d ≡ get_or xs i (get_or xs i d)
own_item [] i d lt = absurd (omega arith)
own_item (x ∷ xs) zero d lt = refl
own_item (x ∷ xs) (suc i) d lt = own_item xs i d (omega arith)

abbrev pub name_at : List (Bor (List ℕ)) → ℕ → Bor (List ℕ)
name_at names i = get_or names i (record { ref_ptr = (0, 0); now = [] })

-- the sections with the first i of the names begin at these pages, and the next one at this
pub record IsLaid (region : Base) (pieces : List Section) (names : List (Bor (List ℕ))) (i next : ℕ) (begun : List ℕ) : Type 0 where
  pub page : next ≡ end_page_from region pieces (origin region) (names_in (take i names))
  pub pages : begun ≡ pages_from region pieces (origin region) (names_in (take i names))
  pub room : has_no_room region pieces (names_in (take i names)) ≡ false
  pub low : next ≤ end_page region
  pub each : All (λ page. page ≤ 0x400800) begun

first_low : (region : Base) → origin region ≤ end_page region
first_low Bare = omega arith
first_low User = omega arith

end_low : (region : Base) → end_page region ≤ 0x400800
end_low Bare = omega arith
end_low User = omega arith

pub laid_first : (region : Base) (pieces : List Section) (names : List (Bor (List ℕ))) → IsLaid region pieces names 0 (origin region) []
unfolding pages_from
laid_first region pieces names = record {
  page = refl;
  pages = refl;
  room = room_at_first region pieces;
  low = first_low region;
  each = λ k d lt. absurd (omega arith);
}

each_more : (pages : List ℕ) (page : ℕ) → All (λ p. p ≤ 0x400800) pages → page ≤ 0x400800 → All (λ p. p ≤ 0x400800) (pages ++ page ∷ [])
each_more pages page each low = λ k d lt. grind (arith, elements)

pub laid_control : (region : Base) (pieces : List Section) (names : List (Bor (List ℕ))) (i next size : ℕ) (pages : List ℕ) → IsLaid region pieces names i next pages → i < length names → is_control_block region (name_at names i).now ≡ true
    → size ≡ size_of pieces (name_at names i).now → size ≤ 512 → IsLaid region pieces names (i + 1) next (pages ++ 0x400000 ∷ [])
laid_control region pieces names i next size pages laid lt control is short =
    let x = name_at names i in
    let front = names_in (take i names) in
    let more = names_pushed names i x lt (own_item names i (record { ref_ptr = (0, 0); now = [] }) lt) in
    let at = end_page_from region pieces (origin region) front in
    let kept : page_behind region pieces at x.now ≡ at = ap (λ b. cond b at (at + pages_of pieces x.now)) control in
    let low = laid.low in
    let near = laid.page in
    record {
      page = laid.page ∙ sym kept ∙ sym (page_more region pieces (origin region) front x.now) ∙ ap (end_page_from region pieces (origin region)) (sym more);
      pages = ap (λ (ps : List ℕ). ps ++ 0x400000 ∷ []) laid.pages ∙ ap (λ (p : ℕ). pages_from region pieces (origin region) front ++ p ∷ []) (sym (ap (λ b. cond b 0x400000 at) control))
          ∙ sym (pages_more region pieces (origin region) front x.now) ∙ ap (pages_from region pieces (origin region)) (sym more);
      room = ap (has_no_room region pieces) more ∙ room_more region pieces front x.now laid.room (is_short region pieces x.now size is (λ e. short)) (omega (arith, kept));
      low = laid.low;
      each = each_more pages 0x400000 laid.each (omega arith);
    }

pub laid_other : (region : Base) (pieces : List Section) (names : List (Bor (List ℕ))) (i next more : ℕ) (pages : List ℕ) → IsLaid region pieces names i next pages → i < length names → is_control_block region (name_at names i).now ≡ false
    → more ≡ pages_of pieces (name_at names i).now → next + more ≤ end_page region → IsLaid region pieces names (i + 1) (next + more) (pages ++ next ∷ [])
laid_other region pieces names i next more pages laid lt plain is fits =
    let x = name_at names i in
    let front = names_in (take i names) in
    let pushed = names_pushed names i x lt (own_item names i (record { ref_ptr = (0, 0); now = [] }) lt) in
    let at = end_page_from region pieces (origin region) front in
    let behind : page_behind region pieces at x.now ≡ at + pages_of pieces x.now = ap (λ b. cond b at (at + pages_of pieces x.now)) plain in
    let next_is : next + more ≡ at + pages_of pieces x.now = ap (λ n. n + more) laid.page ∙ ap (λ n. at + n) is in
    let low = end_low region in
    let short : is_long region pieces x.now ≡ false = ap (λ b. b && nat_lt 512 (size_of pieces x.now)) plain in
    record {
      page = next_is ∙ sym behind ∙ sym (page_more region pieces (origin region) front x.now) ∙ ap (end_page_from region pieces (origin region)) (sym pushed);
      pages = ap (λ (ps : List ℕ). ps ++ next ∷ []) laid.pages ∙ ap (λ (p : ℕ). pages_from region pieces (origin region) front ++ p ∷ []) (laid.page ∙ sym (ap (λ b. cond b 0x400000 at) plain))
          ∙ sym (pages_more region pieces (origin region) front x.now) ∙ ap (pages_from region pieces (origin region)) (sym pushed);
      room = ap (has_no_room region pieces) pushed ∙ room_more region pieces front x.now laid.room short (omega (arith, behind, next_is));
      low = fits;
      each = each_more pages next laid.each (let near = laid.low in omega arith);
    }

pub parted_at : (names : List (Bor (List ℕ))) (i : ℕ) → i < length names → names_in names ≡ names_in (take i names) ++ ((name_at names i).now ∷ names_in (drop (i + 1) names))
parted_at names i lt = names_parted names i (name_at names i) lt (own_item names i (record { ref_ptr = (0, 0); now = [] }) lt)

-- ---- names that are listed

pub listed_here : (names : List (Bor (List ℕ))) (i : ℕ) (name : Name) → i < length names → bytes_eq (name_at names i).now name ≡ true → true ≡ is_listed (names_in names) name
listed_here names i name lt same =
    let test : Name → Bool = λ n. bytes_eq n name in
    let front = names_in (take i names) in
    let back = names_in (drop (i + 1) names) in
    sym (ap (list_any test) (parted_at names i lt) ∙ list_any-append test front ((name_at names i).now ∷ back)
    ∙ or_true (list_any test front) (test (name_at names i).now || list_any test back) (true_or (test (name_at names i).now) (list_any test back) same))

pub not_listed_more : (names : List (Bor (List ℕ))) (i : ℕ) (name : Name) → i < length names → bytes_eq (name_at names i).now name ≡ false → is_listed (names_in (take i names)) name ≡ false → is_listed (names_in (take (i + 1) names)) name ≡ false
not_listed_more names i name lt other so_far =
    let test : Name → Bool = λ n. bytes_eq n name in
    let front = names_in (take i names) in
    ap (list_any test) (names_pushed names i (name_at names i) lt (own_item names i (record { ref_ptr = (0, 0); now = [] }) lt)) ∙ list_any-append test front ((name_at names i).now ∷ [])
    ∙ false_or (list_any test front) (test (name_at names i).now || false) so_far (false_or (test (name_at names i).now) false other refl)

pub few_push : {X : Type 0} (xs ys : List X) (x : X) → ys ≡ xs ++ x ∷ [] → length xs ≤ 64 → (length xs ≡ 64 → ⊥) → length ys ≤ 64
few_push xs ys x same few less =
    let long = ap length same ∙ length_push xs x in
    omega arith

-- ---- addresses

pub no_addresses : (region : Base) (pieces : List Section) → [] ≡ addresses_from region pieces [] []
unfolding addresses_from
no_addresses region pieces = refl

pub prefix_small : (region : Base) (pieces : List (Bor Section)) (i : ℕ) (x : Bor Section) → i < length pieces → x ≡ get_or pieces i x → is_too_large region (sections_in pieces) ≡ false
    → end_behind x.now.name (align_of x.now.name (sections_in pieces)) 0 (sections_in (take i pieces)) ≤ 0x1000000
prefix_small region pieces i x lt is room =
    let name = x.now.name in
    let all = sections_in pieces in
    let front = sections_in (take i pieces) in
    let back = sections_in (drop (i + 1) pieces) in
    let parts = sections_parted pieces i x lt is in
    let some = aligns name 1 all (omega arith) in
    let listed : is_listed (names_of all) name ≡ true = ap (λ (ss : List Section). is_listed (names_of ss) name) parts ∙ listed_piece front back x.now in
    let few = few_bytes region all name room listed in
    let within = end_in_size all name in
    let whole : end_behind name (align_of name all) 0 all ≤ 0x1000000 = omega arith in
    let P : List Section → Type 0 = λ ss. end_behind name (align_of name all) 0 ss ≤ 0x1000000 in
    let parted : end_behind name (align_of name all) 0 (front ++ (x.now ∷ back)) ≤ 0x1000000 = subst P parts whole in
    let prefix = prefix_ends name (align_of name all) front (x.now ∷ back) some in
    omega arith

pub address_more : (region : Base) (pieces : List (Bor Section)) (i : ℕ) (x : Bor Section) (out next : List ℕ) (page offset : ℕ) → i < length pieces → x ≡ get_or pieces i x
    → out ≡ addresses_from region (sections_in pieces) [] (sections_in (take i pieces)) → next ≡ out ++ (page * 512 + offset) ∷ [] → page ≡ first_page_of region (sections_in pieces) x.now.name
    → offset ≡ offset_of (sections_in pieces) (sections_in (take i pieces)) x.now → next ≡ addresses_from region (sections_in pieces) [] (sections_in (take (i + 1) pieces))
address_more region pieces i x out next page offset lt is so_far more page_is offset_is =
    let all = sections_in pieces in
    let front = sections_in (take i pieces) in
    let here : page * 512 + offset ≡ address_at region all front x.now = omega arith in
    more ∙ ap (λ (ps : List ℕ). ps ++ (page * 512 + offset) ∷ []) so_far ∙ ap (λ (n : ℕ). addresses_from region all [] front ++ n ∷ []) here
    ∙ sym (addresses_more region all [] front x.now) ∙ ap (addresses_from region all []) (sym (sections_pushed pieces i x lt is))

-- ---- what a layout keeps

pub placed_here : (region : Base) (pieces d d2 d4 : List (Bor Section)) (names d3 d5 : List (Bor (List ℕ))) (pages d6 places : List ℕ) → d ≡ pieces → d2 ≡ pieces → d4 ≡ pieces → d3 ≡ names → d5 ≡ names → d6 ≡ pages
    → names_in names ≡ names_of (sections_in d) → length names ≤ 64 → has_no_room region (sections_in d2) (names_in d3) ≡ false → pages ≡ pages_from region (sections_in d2) (origin region) (names_in d3)
    → ((r : Base) → names_in d5 ≡ names_of (sections_in d4) → d6 ≡ pages_of_names r (sections_in d4) → is_too_large r (sections_in d4) ≡ false → places ≡ addresses r (sections_in d4))
    → IsPlaced region (sections_in pieces) (names_in names) pages places
placed_here region pieces d d2 d4 names d3 d5 pages d6 places e e2 e4 e3 e5 e6 named few room begun lying =
    let all = sections_in pieces in
    let name : Bor (List ℕ) → List ℕ = λ n. n.now in
    let named_all : names_in names ≡ names_of all = named ∙ ap (λ (p : List (Bor Section)). names_of (sections_in p)) e in
    let room_all : has_no_room region all (names_in names) ≡ false =
    ap (λ (ns : List (Bor (List ℕ))). has_no_room region all (names_in ns)) (sym e3) ∙ ap (λ (p : List (Bor Section)). has_no_room region (sections_in p) (names_in d3)) (sym e2) ∙ room in
    let long = length-map names name in
    let large : is_too_large region all ≡ false = has_all_room region all (names_in names) named_all (omega arith) room_all in
    let begun_all : pages ≡ pages_of_names region all =
    begun ∙ ap (λ (p : List (Bor Section)). pages_from region (sections_in p) (origin region) (names_in d3)) e2
    ∙ ap (λ (ns : List (Bor (List ℕ))). pages_from region all (origin region) (names_in ns)) e3 ∙ ap (pages_from region all (origin region)) named_all in
    record {
      room = large;
      named = named_all;
      begun = begun_all;
      lying =
          lying region (ap names_in e5 ∙ named_all ∙ ap (λ (p : List (Bor Section)). names_of (sections_in p)) (sym e4))
          (e6 ∙ begun_all ∙ ap (λ (p : List (Bor Section)). pages_of_names region (sections_in p)) (sym e4)) (ap (λ (p : List (Bor Section)). is_too_large region (sections_in p)) e4 ∙ large)
          ∙ ap (λ (p : List (Bor Section)). addresses region (sections_in p)) e4;
    }
