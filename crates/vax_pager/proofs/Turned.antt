-- What a pager stands for when the bytes of its resident pages turn.
use Rattle.std.proofs.Common.{ℕ, ◌≡◌, ◌%◌, true, false, List, refl, ap, sym, ◌∙◌, inl, inr, Option, Some, None, slice_index}
use Rattle.std.specs.Option.{option_map}
use Rattle.std.specs.Prelude.{is_some}
use Rattle.std.proofs.lemmas.Bool.{cases_Bool}
use Rattle.vax_space.specs.declared.Area.{Area}
use Rattle.vax_space.specs.Areas.{area_of}
use Rattle.vax_space.specs.Reference.{page_of}
use Rattle.vax_outside.specs.Blocks.{BlockFile}
use Rattle.vax_flat.specs.Memory.{byte_at}
use Rattle.vax_flat.specs.Port.{StandsFor}
use Rattle.vax_pager.specs.Calls.{IsPaging}
use Rattle.vax_pager.specs.Listing.{is_listed}
use Rattle.vax_pager.specs.Paging.{Paging, StandsWith, content, home, is_clean, view_of}
use Rattle.vax_pager.specs.Steps.{OnlyWritten, settled}

-- the memory of a pager and a file

resident_byte : (s : Paging) (file : BlockFile) (addr byte : ℕ) → is_listed (page_of addr) s.order ≡ true → option_map (λ page. slice_index page (addr % 512)) (content s file (page_of addr)) ≡ Some byte → slice_index (s.frame (page_of addr)) (addr % 512) ≡ byte
unfolding content
resident_byte s file addr byte r e =
    let k : Some (slice_index (s.frame (page_of addr)) (addr % 512)) ≡ Some byte = rw r at e in
    cc

-- a pager that stands for a memory with a file is a port that stands for it
pub port_stands : (s : Paging) (file : Option BlockFile) (memory : List Area) → IsPaging s → StandsWith s file memory → StandsFor (view_of s) memory
port_stands s None memory f st = absurd st
port_stands s (Some file) memory f st = record {
  areas = st.areas;
  bytes = λ addr r. resident_byte s file addr (byte_at memory addr) r (st.bytes addr (f.inside (page_of addr) r));
  whole = st.whole;
}

pub stands_settled : (s : Paging) (file : Option BlockFile) (memory : List Area) → StandsWith s file memory → StandsWith (settled s) file memory
unfolding settled
stands_settled s None memory st = st
stands_settled s (Some file) memory st = record {
  areas = st.areas;
  whole = st.whole;
  bytes = unfold content home in λ addr h. unfold content home in st.bytes addr h;
  clean = unfold is_clean home in λ page h. unfold is_clean home in st.clean page h;
}

module _ (s t : Paging) (file : BlockFile) (w : OnlyWritten s t) (f : IsPaging s) where
  home_same : (page : ℕ) → home t file page ≡ home s file page
  unfolding home
  home_same page = rw (w.blocked, w.areas) refl

  byte_kept : (addr old new : ℕ) → is_listed (page_of addr) s.order ≡ false → new ≡ old → option_map (λ page. slice_index page (addr % 512)) (content s file (page_of addr)) ≡ Some old → option_map (λ page. slice_index page (addr % 512)) (content t file (page_of addr)) ≡ Some new
  unfolding content home
  byte_kept addr old new a e h =
      let k : option_map (λ page. slice_index page (addr % 512)) (home s file (page_of addr)) ≡ Some old = rw a at h in
      rw (w.order, a, home_same (page_of addr), e) k

  byte_there : (addr byte : ℕ) → is_listed (page_of addr) t.order ≡ true → slice_index (t.frame (page_of addr)) (addr % 512) ≡ byte → option_map (λ page. slice_index page (addr % 512)) (content t file (page_of addr)) ≡ Some byte
  unfolding content
  byte_there addr byte r e = rw r (ap (λ (z : ℕ). Some z) e)

  order_same : (page : ℕ) → is_listed page s.order ≡ is_listed page t.order
  order_same page = ap (is_listed page) (sym w.order)

  kept_same : (page : ℕ) → is_listed page s.kept ≡ is_listed page t.kept
  kept_same page = ap (is_listed page) (sym w.kept)

  from_home : (page : ℕ) → ((p : ℕ) → is_clean s p ≡ true → home s file p ≡ Some (s.frame p)) → is_clean s page ≡ true → t.frame page ≡ s.frame page → home t file page ≡ Some (t.frame page)
  from_home page clean c e = home_same page ∙ (clean page c ∙ ap (λ (z : List ℕ). Some z) (sym e))

  clean_kept : (page : ℕ) → ((p : ℕ) → is_clean s p ≡ true → home s file p ≡ Some (s.frame p)) → is_clean t page ≡ true → home t file page ≡ Some (t.frame page)
  unfolding is_clean
  clean_kept page clean h = elim (cases_Bool (is_listed page t.order)) [
    | inl r ↦ elim (cases_Bool (is_listed page t.modified)) [
      | inl m ↦
          let kept : is_listed page t.kept ≡ true = rw (r, m) at h in
          let none : is_listed page s.kept ≡ false = f.apart page (order_same page ∙ r) in
          let no : false ≡ true = sym none ∙ (kept_same page ∙ kept) in
          cc
      | inr m ↦
          let k = w.clean page m in
          from_home page clean (rw (order_same page ∙ r, k.0) refl) k.1
    ]
    | inr a ↦
        let kept : is_listed page t.kept ≡ true = rw a at h in
        let away : is_listed page s.order ≡ false = order_same page ∙ a in
        from_home page clean (rw (away, kept_same page ∙ kept) refl) (w.held page away)
  ]

-- after writes to resident pages
pub stands_turned : (s t : Paging) (file : Option BlockFile) (old new : List Area) → OnlyWritten s t → IsPaging s → StandsFor (view_of t) new → ((addr : ℕ) → is_listed (page_of addr) s.order ≡ false → byte_at new addr ≡ byte_at old addr) → StandsWith s file old → StandsWith t file new
stands_turned s t None old new w f stands absent st = st
stands_turned s t (Some file) old new w f stands absent st = record {
  areas = stands.areas;
  whole = stands.whole;
  bytes = λ addr h. elim (cases_Bool (is_listed (page_of addr) t.order)) [
    | inl r ↦ byte_there s t file w f addr (byte_at new addr) r (stands.bytes addr r)
    | inr a ↦
        let away : is_listed (page_of addr) s.order ≡ false = order_same s t file w f (page_of addr) ∙ a in
        byte_kept s t file w f addr (byte_at old addr) (byte_at new addr) away (absent addr away)
        (st.bytes addr (ap (λ (z : List Area). is_some (area_of z (page_of addr))) (sym w.areas) ∙ h))
  ];
  clean = λ page h. clean_kept s t file w f page st.clean h;
}
