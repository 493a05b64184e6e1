-- What calls make of the three lists.
use Rattle.std.proofs.Common.{ℕ, ◌≡◌, ◌≢◌, ◌+◌, ◌-◌, ◌<◌, true, Some, None, List, [], ◌∷◌, ◌++◌, drop, length, slice_index, slice_index_or, slice_set, length-set, refl, ap, sym, ◌∙◌, subst, arith, replicate}
use Rattle.std.proofs.lemmas.List.{length-replicate}
use Rattle.std.specs.Prelude.{is_some, slice_get}
use Rattle.std.specs.Option.{option_map}
use Rattle.vax_lists.specs.declared.lists.Placed.{Placed}
use Rattle.vax_lists.specs.Lines.{ArePages, EachOnce, PageLists, appended, frame_in, page_lists, pages_at, placed, with_kept, with_modified, with_order, without}
use Rattle.vax_lists.specs.Links.{Away, FrameLists, is_in, omit, with_first, with_second}
use Rattle.vax_lists.proofs.Links.{omit_away}
use Rattle.vax_lists.proofs.Frames.{read}
use Rattle.vax_lists.proofs.Pages.{among_last, away_new, free_away, gone, is_in_there, more_pages, once_append, pages-length, pages_set, pushed_pages}

-- a page comes into a frame that no list has

pub record Serves (held modified : FrameLists) (pages : List ℕ) (page frame : ℕ) (v : PageLists) : Type 0 where
  pub low : frame < length pages
  pub held_low : frame < held.limit
  pub first : Away frame held.first
  pub second : Away frame held.second
  pub holds : ArePages (with_first held (held.first ++ frame ∷ [])) modified (slice_set pages frame page)
  pub value : page_lists (with_first held (held.first ++ frame ∷ [])) modified (slice_set pages frame page) ≡ with_order v (appended v.order page frame)

pub serves : (held modified : FrameLists) (pages : List ℕ) (page frame : ℕ) (v : PageLists) → page_lists held modified pages ≡ v → ArePages held modified pages → frame < v.limit → frame_in v.order page ≡ None → ((other : ℕ) → frame_in v.order other ≢ Some frame) → ((other : ℕ) → frame_in v.kept other ≢ Some frame) → ((other : ℕ) → frame_in v.modified other ≢ Some frame) → Serves held modified pages page frame v
serves held modified pages page frame v is h below new unserved unkept unmodified =
    let low : frame < length pages = omega (arith, below, ap (λ (z : PageLists). z.limit) is) in
    let new' : frame_in (pages_at pages held.first) page ≡ None = rw (ap (λ (z : PageLists). z.order) is) new in
    let first : Away frame held.first = free_away pages held.first frame h.order_once (rw (ap (λ (z : PageLists). z.order) is) unserved) in
    let second : Away frame held.second = free_away pages held.second frame h.kept_once (rw (ap (λ (z : PageLists). z.kept) is) unkept) in
    let third : Away frame modified.first = free_away pages modified.first frame h.modified_once (rw (ap (λ (z : PageLists). z.modified) is) unmodified) in
    let order : pages_at (slice_set pages frame page) (held.first ++ frame ∷ []) ≡ appended (pages_at pages held.first) page frame = pushed_pages pages held.first page frame low first in
    let keeps : pages_at (slice_set pages frame page) held.second ≡ pages_at pages held.second = pages_set pages held.second frame page second in
    let marks : pages_at (slice_set pages frame page) modified.first ≡ pages_at pages modified.first = pages_set pages modified.first frame page third in
    let size : length (slice_set pages frame page) ≡ length pages = length-set pages frame page in
    record {
      low = low;
      held_low = omega (arith, low, h.held_limit);
      first = first;
      second = second;
      holds = record {
        held_limit = h.held_limit ∙ sym size;
        modified_limit = h.modified_limit ∙ sym size;
        none = h.none;
        order_once = rw order (once_append (pages_at pages held.first) page frame new' h.order_once);
        kept_once = rw keeps h.kept_once;
        modified_once = rw marks h.modified_once;
      };
      value = rw (order, keeps, marks, size) (ap (λ (z : PageLists). with_order z (appended z.order page frame)) is);
    }

-- a page leaves the first or the second list

pub record GivesUp (held modified : FrameLists) (pages : List ℕ) (page frame : ℕ) (v : PageLists) : Type 0 where
  pub there : is_in frame held.first ≡ true
  pub holds : ArePages (with_first held (omit frame held.first)) modified pages
  pub value : page_lists (with_first held (omit frame held.first)) modified pages ≡ with_order v (without page v.order)
  pub fewer : length (without page v.order) + 1 ≡ length v.order

pub gives_up : (held modified : FrameLists) (pages : List ℕ) (page frame : ℕ) (v : PageLists) → page_lists held modified pages ≡ v → ArePages held modified pages → frame_in v.order page ≡ Some frame → GivesUp held modified pages page frame v
gives_up held modified pages page frame v is h there =
    let there' : frame_in (pages_at pages held.first) page ≡ Some frame = rw (ap (λ (z : PageLists). z.order) is) there in
    let g = gone pages held.first page frame h.order_once there' in
    record {
      there = is_in_there pages held.first page frame there';
      holds = record {
        held_limit = h.held_limit;
        modified_limit = h.modified_limit;
        none = h.none;
        order_once = g.once;
        kept_once = h.kept_once;
        modified_once = h.modified_once;
      };
      value = rw g.items (ap (λ (z : PageLists). with_order z (without page z.order)) is);
      fewer = subst (λ (z : List Placed). length (without page z) + 1 ≡ length z) (ap (λ (z : PageLists). z.order) is) g.fewer;
    }

pub record Forgets (held modified : FrameLists) (pages : List ℕ) (page frame : ℕ) (v : PageLists) : Type 0 where
  pub there : is_in frame held.second ≡ true
  pub holds : ArePages (with_second held (omit frame held.second)) modified pages
  pub value : page_lists (with_second held (omit frame held.second)) modified pages ≡ with_kept v (without page v.kept)
  pub fewer : length (without page v.kept) + 1 ≡ length v.kept

pub forgets : (held modified : FrameLists) (pages : List ℕ) (page frame : ℕ) (v : PageLists) → page_lists held modified pages ≡ v → ArePages held modified pages → frame_in v.kept page ≡ Some frame → Forgets held modified pages page frame v
forgets held modified pages page frame v is h there =
    let there' : frame_in (pages_at pages held.second) page ≡ Some frame = rw (ap (λ (z : PageLists). z.kept) is) there in
    let g = gone pages held.second page frame h.kept_once there' in
    record {
      there = is_in_there pages held.second page frame there';
      holds = record {
        held_limit = h.held_limit;
        modified_limit = h.modified_limit;
        none = h.none;
        order_once = h.order_once;
        kept_once = g.once;
        modified_once = h.modified_once;
      };
      value = rw g.items (ap (λ (z : PageLists). with_kept z (without page z.kept)) is);
      fewer = subst (λ (z : List Placed). length (without page z) + 1 ≡ length z) (ap (λ (z : PageLists). z.kept) is) g.fewer;
    }

-- a page goes from one to the other

pub record Keeps (held modified : FrameLists) (pages : List ℕ) (page frame : ℕ) (v : PageLists) : Type 0 where
  pub there : is_in frame held.first ≡ true
  pub low : frame < held.limit
  pub first : Away frame (omit frame held.first)
  pub second : Away frame held.second
  pub holds : ArePages (with_second (with_first held (omit frame held.first)) (held.second ++ frame ∷ [])) modified pages
  pub value : page_lists (with_second (with_first held (omit frame held.first)) (held.second ++ frame ∷ [])) modified pages ≡ with_kept (with_order v (without page v.order)) (appended v.kept page frame)
  pub fewer : length (without page v.order) + 1 ≡ length v.order

pub keeps : (held modified : FrameLists) (pages : List ℕ) (page frame : ℕ) (v : PageLists) → page_lists held modified pages ≡ v → ArePages held modified pages → frame < v.limit → frame_in v.order page ≡ Some frame → frame_in v.kept page ≡ None → Keeps held modified pages page frame v
keeps held modified pages page frame v is h below there new =
    let there' : frame_in (pages_at pages held.first) page ≡ Some frame = rw (ap (λ (z : PageLists). z.order) is) there in
    let new' : frame_in (pages_at pages held.second) page ≡ None = rw (ap (λ (z : PageLists). z.kept) is) new in
    let g = gone pages held.first page frame h.order_once there' in
    let more : pages_at pages (held.second ++ frame ∷ []) ≡ appended (pages_at pages held.second) page frame = more_pages pages held.second page frame g.here in
    record {
      there = is_in_there pages held.first page frame there';
      low = omega (arith, below, ap (λ (z : PageLists). z.limit) is, h.held_limit);
      first = omit_away frame held.first;
      second = away_new pages held.second frame page g.here new';
      holds = record {
        held_limit = h.held_limit;
        modified_limit = h.modified_limit;
        none = h.none;
        order_once = g.once;
        kept_once = rw more (once_append (pages_at pages held.second) page frame new' h.kept_once);
        modified_once = h.modified_once;
      };
      value = rw (g.items, more) (ap (λ (z : PageLists). with_kept (with_order z (without page z.order)) (appended z.kept page frame)) is);
      fewer = subst (λ (z : List Placed). length (without page z) + 1 ≡ length z) (ap (λ (z : PageLists). z.order) is) g.fewer;
    }

pub record TakesBack (held modified : FrameLists) (pages : List ℕ) (page frame : ℕ) (v : PageLists) : Type 0 where
  pub there : is_in frame held.second ≡ true
  pub low : frame < held.limit
  pub first : Away frame held.first
  pub second : Away frame (omit frame held.second)
  pub holds : ArePages (with_first (with_second held (omit frame held.second)) (held.first ++ frame ∷ [])) modified pages
  pub value : page_lists (with_first (with_second held (omit frame held.second)) (held.first ++ frame ∷ [])) modified pages ≡ with_order (with_kept v (without page v.kept)) (appended v.order page frame)
  pub fewer : length (without page v.kept) + 1 ≡ length v.kept

pub takes_back : (held modified : FrameLists) (pages : List ℕ) (page frame : ℕ) (v : PageLists) → page_lists held modified pages ≡ v → ArePages held modified pages → frame < v.limit → frame_in v.kept page ≡ Some frame → frame_in v.order page ≡ None → TakesBack held modified pages page frame v
takes_back held modified pages page frame v is h below there new =
    let there' : frame_in (pages_at pages held.second) page ≡ Some frame = rw (ap (λ (z : PageLists). z.kept) is) there in
    let new' : frame_in (pages_at pages held.first) page ≡ None = rw (ap (λ (z : PageLists). z.order) is) new in
    let g = gone pages held.second page frame h.kept_once there' in
    let more : pages_at pages (held.first ++ frame ∷ []) ≡ appended (pages_at pages held.first) page frame = more_pages pages held.first page frame g.here in
    record {
      there = is_in_there pages held.second page frame there';
      low = omega (arith, below, ap (λ (z : PageLists). z.limit) is, h.held_limit);
      first = away_new pages held.first frame page g.here new';
      second = omit_away frame held.second;
      holds = record {
        held_limit = h.held_limit;
        modified_limit = h.modified_limit;
        none = h.none;
        order_once = rw more (once_append (pages_at pages held.first) page frame new' h.order_once);
        kept_once = g.once;
        modified_once = h.modified_once;
      };
      value = rw (g.items, more) (ap (λ (z : PageLists). with_order (with_kept z (without page z.kept)) (appended z.order page frame)) is);
      fewer = subst (λ (z : List Placed). length (without page z) + 1 ≡ length z) (ap (λ (z : PageLists). z.kept) is) g.fewer;
    }

-- a resident page is modified, and is modified no more

nowhere : (frame : ℕ) (xs : List ℕ) → xs ≡ [] → Away frame xs
unfolding Away
nowhere frame xs e = rw e tt

pub record Touches (held modified : FrameLists) (pages : List ℕ) (page frame : ℕ) (v : PageLists) : Type 0 where
  pub low : frame < modified.limit
  pub first : Away frame modified.first
  pub second : Away frame modified.second
  pub holds : ArePages held (with_first modified (modified.first ++ frame ∷ [])) pages
  pub value : page_lists held (with_first modified (modified.first ++ frame ∷ [])) pages ≡ with_modified v (appended v.modified page frame)

pub touches : (held modified : FrameLists) (pages : List ℕ) (page frame : ℕ) (v : PageLists) → page_lists held modified pages ≡ v → ArePages held modified pages → frame < v.limit → frame_in v.order page ≡ Some frame → frame_in v.modified page ≡ None → Touches held modified pages page frame v
touches held modified pages page frame v is h below there new =
    let there' : frame_in (pages_at pages held.first) page ≡ Some frame = rw (ap (λ (z : PageLists). z.order) is) there in
    let new' : frame_in (pages_at pages modified.first) page ≡ None = rw (ap (λ (z : PageLists). z.modified) is) new in
    let g = gone pages held.first page frame h.order_once there' in
    let more : pages_at pages (modified.first ++ frame ∷ []) ≡ appended (pages_at pages modified.first) page frame = more_pages pages modified.first page frame g.here in
    record {
      low = omega (arith, below, ap (λ (z : PageLists). z.limit) is, h.modified_limit);
      first = away_new pages modified.first frame page g.here new';
      second = nowhere frame modified.second h.none;
      holds = record {
        held_limit = h.held_limit;
        modified_limit = h.modified_limit;
        none = h.none;
        order_once = h.order_once;
        kept_once = h.kept_once;
        modified_once = rw more (once_append (pages_at pages modified.first) page frame new' h.modified_once);
      };
      value = rw more (ap (λ (z : PageLists). with_modified z (appended z.modified page frame)) is);
    }

pub record Cleans (held modified : FrameLists) (pages : List ℕ) (page frame : ℕ) (v : PageLists) : Type 0 where
  pub there : is_in frame modified.first ≡ true
  pub holds : ArePages held (with_first modified (omit frame modified.first)) pages
  pub value : page_lists held (with_first modified (omit frame modified.first)) pages ≡ with_modified v (without page v.modified)

pub cleans : (held modified : FrameLists) (pages : List ℕ) (page frame : ℕ) (v : PageLists) → page_lists held modified pages ≡ v → ArePages held modified pages → frame_in v.modified page ≡ Some frame → Cleans held modified pages page frame v
cleans held modified pages page frame v is h there =
    let there' : frame_in (pages_at pages modified.first) page ≡ Some frame = rw (ap (λ (z : PageLists). z.modified) is) there in
    let g = gone pages modified.first page frame h.modified_once there' in
    record {
      there = is_in_there pages modified.first page frame there';
      holds = record {
        held_limit = h.held_limit;
        modified_limit = h.modified_limit;
        none = h.none;
        order_once = h.order_once;
        kept_once = h.kept_once;
        modified_once = g.once;
      };
      value = rw g.items (ap (λ (z : PageLists). with_modified z (without page z.modified)) is);
    }

-- no page

pub new_pages : (held modified : FrameLists) (pages : List ℕ) (frames n : ℕ) → held ≡ record { first = []; second = []; limit = frames } → modified ≡ record { first = []; second = []; limit = frames } → pages ≡ replicate n 0 → n ≡ frames → ArePages held modified pages
unfolding EachOnce pages_at
new_pages held modified pages frames n eh em ep en =
    let size : length pages ≡ frames = ap (length {A = ℕ}) ep ∙ length-replicate {A = ℕ} n 0 ∙ en in
    rw (eh, em) (record { held_limit = sym size; modified_limit = sym size; none = refl; order_once = tt; kept_once = tt; modified_once = tt })

pub new_value : (held modified : FrameLists) (pages : List ℕ) (frames n : ℕ) → held ≡ record { first = []; second = []; limit = frames } → modified ≡ record { first = []; second = []; limit = frames } → pages ≡ replicate n 0 → n ≡ frames → page_lists held modified pages ≡ record { order = []; kept = []; modified = []; limit = frames }
unfolding pages_at
new_value held modified pages frames n eh em ep en =
    let size : length pages ≡ frames = ap (length {A = ℕ}) ep ∙ length-replicate {A = ℕ} n 0 ∙ en in
    rw (eh, em, size) refl

-- the first

first_none : (pages xs : List ℕ) → None ≡ slice_get xs 0 → None ≡ slice_get (pages_at pages xs) 0
unfolding pages_at
first_none pages [] e = refl
first_none pages (x ∷ xs) e = cc

first_some : (pages xs : List ℕ) (x : ℕ) → Some x ≡ slice_get xs 0 → Some (placed (slice_index pages x) x) ≡ slice_get (pages_at pages xs) 0
unfolding pages_at
first_some pages [] x e = cc
first_some pages (y ∷ ys) x e = let k : x ≡ y = cc in ap (λ (z : ℕ). Some (placed (slice_index pages z) z)) k

pub no_order : (held modified : FrameLists) (pages : List ℕ) (v : PageLists) → page_lists held modified pages ≡ v → None ≡ slice_get held.first 0 → None ≡ slice_get v.order 0
no_order held modified pages v is e = first_none pages held.first e ∙ ap (λ (z : PageLists). slice_get z.order 0) is

pub no_kept : (held modified : FrameLists) (pages : List ℕ) (v : PageLists) → page_lists held modified pages ≡ v → None ≡ slice_get held.second 0 → None ≡ slice_get v.kept 0
no_kept held modified pages v is e = first_none pages held.second e ∙ ap (λ (z : PageLists). slice_get z.kept 0) is

pub no_modified : (held modified : FrameLists) (pages : List ℕ) (v : PageLists) → page_lists held modified pages ≡ v → None ≡ slice_get modified.first 0 → None ≡ option_map (λ placed. placed.page) (slice_get v.modified 0)
no_modified held modified pages v is e =
    ap (option_map (λ (placed : Placed). placed.page)) (first_none pages modified.first e ∙ ap (λ (z : PageLists). slice_get z.modified 0) is)

pub some_order : (held modified : FrameLists) (pages : List ℕ) (page frame : ℕ) (v : PageLists) → page_lists held modified pages ≡ v → Some frame ≡ slice_get held.first 0 → page ≡ slice_index_or pages frame page → frame < length pages → Some (placed page frame) ≡ slice_get v.order 0
some_order held modified pages page frame v is e was low =
    ap (λ (z : ℕ). Some (placed z frame)) (read pages frame page low was) ∙ first_some pages held.first frame e ∙ ap (λ (z : PageLists). slice_get z.order 0) is

pub some_kept : (held modified : FrameLists) (pages : List ℕ) (page frame : ℕ) (v : PageLists) → page_lists held modified pages ≡ v → Some frame ≡ slice_get held.second 0 → page ≡ slice_index_or pages frame page → frame < length pages → Some (placed page frame) ≡ slice_get v.kept 0
some_kept held modified pages page frame v is e was low =
    ap (λ (z : ℕ). Some (placed z frame)) (read pages frame page low was) ∙ first_some pages held.second frame e ∙ ap (λ (z : PageLists). slice_get z.kept 0) is

pub some_modified : (held modified : FrameLists) (pages : List ℕ) (page frame : ℕ) (v : PageLists) → page_lists held modified pages ≡ v → Some frame ≡ slice_get modified.first 0 → page ≡ slice_index_or pages frame page → frame < length pages → Some page ≡ option_map (λ placed. placed.page) (slice_get v.modified 0)
some_modified held modified pages page frame v is e was low =
    ap (option_map (λ (placed : Placed). placed.page)) (ap (λ (z : ℕ). Some (placed z frame)) (read pages frame page low was) ∙ first_some pages modified.first frame e ∙ ap (λ (z : PageLists). slice_get z.modified 0) is)

pub order_once : (held modified : FrameLists) (pages : List ℕ) (v : PageLists) → page_lists held modified pages ≡ v → ArePages held modified pages → EachOnce v.order
order_once held modified pages v is h = subst EachOnce (ap (λ (z : PageLists). z.order) is) h.order_once

pub kept-length : (held modified : FrameLists) (pages : List ℕ) (v : PageLists) → page_lists held modified pages ≡ v → length held.second ≡ length v.kept
kept-length held modified pages v is = sym (pages-length pages held.second) ∙ ap (λ (z : PageLists). length z.kept) is

pub order-length : (held modified : FrameLists) (pages : List ℕ) (v : PageLists) → page_lists held modified pages ≡ v → length held.first ≡ length v.order
order-length held modified pages v is = sym (pages-length pages held.first) ∙ ap (λ (z : PageLists). length z.order) is

pub is_last : (held modified : FrameLists) (pages : List ℕ) (page frame count : ℕ) (v : PageLists) → page_lists held modified pages ≡ v → ArePages held modified pages → frame_in v.order page ≡ Some frame → is_in frame (drop (length held.first - count) held.first) ≡ is_some (frame_in (drop (length v.order - count) v.order) page)
is_last held modified pages page frame count v is h there =
    among_last pages held.first page frame (length held.first - count) h.order_once (rw (ap (λ (z : PageLists). z.order) is) there)
    ∙ ap (λ (n : ℕ). is_some (frame_in (drop (n - count) (pages_at pages held.first)) page)) (sym (pages-length pages held.first))
    ∙ ap (λ (z : PageLists). is_some (frame_in (drop (length z.order - count) z.order) page)) is
