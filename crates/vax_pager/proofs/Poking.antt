-- Bytes that are written from outside.
use Rattle.std.proofs.Common.{ℕ, suc, ◌≡◌, ◌+◌, ◌-◌, ◌*◌, ◌%◌, ◌^◌, ◌<◌, ◌≤◌, ◌==◌, Bool, true, false, List, [], ◌∷◌, ◌++◌, length, length-append, length-drop, take, drop, take-append-drop, slice_index, refl, ap, sym, ◌∙◌, subst, arith, inl, inr, Option, Some, None, Result, Ok, Err}
use Rattle.std.specs.Prelude.{◌||◌, IsErr, is_err, is_some}
use Rattle.std.specs.Option.{option_map}
use Rattle.std.proofs.lemmas.Bool.{cases_Bool, eq-eqb}
use Rattle.std.proofs.lemmas.List.{take_all}
use Rattle.vax_space.specs.declared.Access.TheVariants.{Write}
use Rattle.vax_space.specs.declared.Area.{Area}
use Rattle.vax_space.specs.declared.Violation.{Violation}
use Rattle.vax_space.specs.Areas.{area_of, prot_of}
use Rattle.vax_space.specs.Reference.{byte_after, may_access, page_of, permitted, violation}
use Rattle.vax_space.proofs.References.{accessible_from, none_is_accessible}
use Rattle.vax_outside.specs.Blocks.{BlockFile}
use Rattle.vax_flat.specs.declared.Stop.{Stop}
use Rattle.vax_flat.specs.Outcome.{is_allowed}
use Rattle.vax_flat.specs.Memory.{after, byte_at, with_byte, written_run}
use Rattle.vax_flat.specs.Port.{StandsFor, View, first_absent, is_in, stop, stop_of, stored_run, unless_cut, with_run}
use Rattle.vax_flat.proofs.Alike.{violation-alike}
use Rattle.vax_flat.proofs.Bytes.{put_run-absent}
use Rattle.vax_flat.proofs.Memory.{byte_at-written_run}
use Rattle.vax_flat.proofs.Standing.{stands_written_run}
use Rattle.vax_undo.specs.Answers.{err_of}
use Rattle.vax_undo.proofs.Accesses.{fine}
use Rattle.vax_pager.specs.Calls.{Back, Empty, IsLeft, IsPaging, Nowhere, OfKept, OfVictim, Source, after_flush, begun, came}
use Rattle.vax_pager.specs.Listing.{is_listed}
use Rattle.vax_pager.specs.Paging.{ComesFrom, Keeps, Paging, view_of}
use Rattle.vax_pager.specs.Poking.{AllComeIn, Backed, BringsIn, ComesIn, ComesInBy, HasFailed, IsPage, IsServed, Pokes, SomeComeIn, StaysAlike, StaysOut, WritesThere}
use Rattle.vax_pager.specs.Steps.{OnlyWritten, brought, flushed, forgotten, removed, taken_back}
use Rattle.vax_pager.specs.declared.calls.PageFault.{PageFault}
use Rattle.vax_pager.proofs.Apart.{in_parts}
use Rattle.vax_pager.proofs.Effects.{peek_absent, peek_kept, peek_resident}
use Rattle.vax_pager.proofs.Listing.{in_push}
use Rattle.vax_pager.proofs.Views.{only_then}

-- the bytes of a page

page_at : (page k : ℕ) → k < 512 → page_of (512 * page + k) ≡ page
page_at page k low = omega (arith, low)

place_at : (page k : ℕ) → k < 512 → (512 * page + k) % 512 ≡ k
place_at page k low = omega (arith, low)

module _ (s : Paging) (file : Option BlockFile) (page : ℕ) (there : is_some (area_of s.areas page) ≡ true) where
  inside : (k : ℕ) → k < 512 → is_some (area_of s.areas (page_of (512 * page + k))) ≡ true
  inside k low = ap (λ (z : ℕ). is_some (area_of s.areas z)) (page_at page k low) ∙ there

  same_place : (xs : List ℕ) (k : ℕ) → k < 512 → slice_index xs k ≡ slice_index xs ((512 * page + k) % 512)
  same_place xs k low = ap (slice_index xs) (sym (place_at page k low))

  in_frame : (bytes : List ℕ) (k : ℕ) → bytes ≡ s.frame page → k < 512 → slice_index bytes k ≡ slice_index (s.frame (page_of (512 * page + k))) ((512 * page + k) % 512)
  in_frame bytes k e low = ap (λ (xs : List ℕ). slice_index xs k) (e ∙ ap s.frame (sym (page_at page k low))) ∙ same_place (s.frame (page_of (512 * page + k))) k low

  pub page_resident : (bytes : List ℕ) → is_listed page s.order ≡ true → bytes ≡ s.frame page → IsPage s file page bytes
  page_resident bytes r e = λ memory st k low.
      peek_resident s file memory (512 * page + k) (slice_index bytes k) (inside k low) (ap (λ (z : ℕ). is_listed z s.order) (page_at page k low) ∙ r) (in_frame bytes k e low) st

  pub page_kept : (bytes : List ℕ) → is_listed page s.order ≡ false → is_listed page s.kept ≡ true → bytes ≡ s.frame page → IsPage s file page bytes
  page_kept bytes r kept e = λ memory st k low.
      peek_kept s file memory (512 * page + k) (slice_index bytes k) (inside k low) (ap (λ (z : ℕ). is_listed z s.order) (page_at page k low) ∙ r) (ap (λ (z : ℕ). is_listed z s.kept) (page_at page k low) ∙ kept) (in_frame bytes k e low) st

  pub page_absent : (bytes : List ℕ) → is_listed page s.order ≡ false → ComesFrom s file page bytes → IsPage s file page bytes
  page_absent bytes r comes = λ memory st k low.
      peek_absent s file memory (512 * page + k) (slice_index bytes k) bytes (inside k low) (ap (λ (z : ℕ). is_listed z s.order) (page_at page k low) ∙ r)
      (subst (λ (z : ℕ). ComesFrom s file z bytes) (sym (page_at page k low)) comes) (same_place bytes k low) st

-- a page comes in

pub alike_itself : (s : Paging) → StaysAlike s s
alike_itself s = record { areas = refl; frames = refl; spoiled = refl }

pub then_alike : (s t u : Paging) → StaysAlike s t → StaysAlike t u → StaysAlike s u
then_alike s t u a b = record { areas = b.areas ∙ a.areas; frames = b.frames ∙ a.frames; spoiled = b.spoiled ∙ a.spoiled }

alike_flush : (page : ℕ) (s : Paging) → StaysAlike s (after_flush page s)
unfolding after_flush flushed
alike_flush page s = elim (cases_Bool (is_listed page s.modified)) [
  | inl t ↦ rw t (record { areas = refl; frames = refl; spoiled = refl })
  | inr f ↦ rw f (alike_itself s)
]

alike_came : (from : Source) (page : ℕ) (bytes : List ℕ) (s : Paging) → StaysAlike s (came from page bytes s)
unfolding taken_back brought forgotten removed
alike_came Back page bytes s = record { areas = refl; frames = refl; spoiled = refl }
alike_came Empty page bytes s = record { areas = refl; frames = refl; spoiled = refl }
alike_came (OfKept old) page bytes s = record { areas = refl; frames = refl; spoiled = refl }
alike_came (OfVictim victim) page bytes s = let f = alike_flush victim s in record { areas = f.areas; frames = f.frames; spoiled = f.spoiled }
alike_came Nowhere page bytes s = alike_itself s

pub came_alike : (from : Source) (page : ℕ) (bytes : List ℕ) (s t : Paging) → t ≡ came from page bytes s → StaysAlike s t
came_alike from page bytes s t e = subst (λ (z : Paging). StaysAlike s z) (sym e) (alike_came from page bytes s)

alike_begun : (from : Source) (s : Paging) → StaysAlike s (begun from s)
alike_begun Back s = alike_itself s
alike_begun Empty s = alike_itself s
alike_begun (OfKept old) s = alike_itself s
alike_begun (OfVictim victim) s = alike_flush victim s
alike_begun Nowhere s = alike_itself s

pub left_alike : (from : Source) (page : ℕ) (s t : Paging) (file now : Option BlockFile) → IsLeft from page s file t now → StaysAlike s t
left_alike from page s t file now (inl h) = subst (λ (z : Paging). StaysAlike s z) (sym h.1) (alike_itself s)
left_alike from page s t file now (inr h) = subst (λ (z : Paging). StaysAlike s z) (sym h.1) (alike_begun from s)

last_listed : (page : ℕ) (xs : List ℕ) → is_listed page (xs ++ page ∷ []) ≡ true
last_listed page xs = in_push page page xs ∙ rw (eq-eqb page page refl) refl

pub served_in : (page : ℕ) (s t : Paging) → is_listed page s.order ≡ false → t.pinned ≡ s.pinned ++ page ∷ [] → IsPaging t → BringsIn page s t
served_in page s t away pins f = record {
  here = f.pinned page (ap (is_listed page) pins ∙ last_listed page s.pinned);
  same = λ h. let no : false ≡ true = sym away ∙ h in cc;
  pinned = λ h. pins;
}

pub was_in : (page : ℕ) (s : Paging) → is_listed page s.order ≡ true → BringsIn page s s
was_in page s r = record { here = r; same = λ h. refl; pinned = λ h. let no : false ≡ true = sym h ∙ r in cc }

-- how many are pinned
pub pins_in : (page : ℕ) (s t : Paging) → BringsIn page s t → length t.pinned ≤ length s.pinned + 1
pins_in page s t b = elim (cases_Bool (is_listed page s.order)) [
  | inl r ↦ let e = ap (λ (z : Paging). length z.pinned) (b.same r) in omega (arith, e)
  | inr a ↦ let e = ap (length {A = ℕ}) (b.pinned a) ∙ length-append s.pinned (page ∷ []) in omega (arith, e)
]

push_listed : (page other : ℕ) (xs : List ℕ) → is_listed page xs ≡ true → is_listed page (xs ++ other ∷ []) ≡ true
push_listed page other xs h = in_push page other xs ∙ elim (cases_Bool (page == other)) [ inl t ↦ rw t refl | inr f ↦ rw f h ]

module _ (low high : ℕ) (a b c d : Paging) (first : BringsIn low a b) (second : BringsIn high b c) (third : BringsIn low c d) (f : IsPaging d) where
  -- the service of the one made the other absent, or didn't: the last service can't, since that page is pinned
  pub both_here : is_listed high d.order ≡ true
  both_here = elim (cases_Bool (is_listed high b.order)) [
    | inl r ↦
        let same : c ≡ b = second.same r in
        let there : is_listed low c.order ≡ true = ap (λ (z : Paging). is_listed low z.order) same ∙ first.here in
        ap (λ (z : Paging). is_listed high z.order) (third.same there) ∙ second.here
    | inr away ↦
        let pins = second.pinned away in
        elim (cases_Bool (is_listed low c.order)) [
          | inl there ↦ ap (λ (z : Paging). is_listed high z.order) (third.same there) ∙ second.here
          | inr gone ↦
              let kept : is_listed high c.pinned ≡ true = ap (is_listed high) pins ∙ last_listed high b.pinned in
              f.pinned high (ap (is_listed high) (third.pinned gone) ∙ push_listed high low c.pinned kept)
        ]
  ]

-- bytes are written to resident pages

none_absent : (v : Option Violation) (page : Option ℕ) → stop_of v page ≡ None → page ≡ None
none_absent (Some v) page e = cc
none_absent None (Some page) e = cc
none_absent None None e = refl

module _ (s t : Paging) (addr : ℕ) (bytes : List ℕ) (small : addr < 2 ^ 32) (one_page : addr % 512 + length bytes ≤ 512) (allowed : violation s.areas addr (length bytes) 0 Write ≡ None) (resident : is_listed (page_of addr) s.order ≡ true) where
  -- nothing stops the write
  pub unstopped : stop (view_of s) addr (length bytes) 0 Write ≡ None
  unstopped = fine (view_of s) addr (length bytes) 0 Write (sym allowed) small one_page resident

  all_here : first_absent (view_of s).resident addr (length bytes) ≡ None
  all_here = none_absent (violation s.areas addr (length bytes) 0 Write) (first_absent (view_of s).resident addr (length bytes)) unstopped

  pub one_written : view_of t ≡ stored_run (view_of s) addr bytes 0 → OnlyWritten s t → WritesThere s addr bytes t
  one_written stored only =
      let e : view_of t ≡ with_run (view_of s) addr bytes = stored ∙ ap (λ x. unless_cut x (view_of s) (with_run (view_of s) addr bytes)) unstopped in
      let fits : (memory : List Area) → StandsFor (view_of s) memory → violation memory addr (length bytes) 0 Write ≡ None =
      λ memory st. violation-alike memory s.areas addr (length bytes) 0 Write st.areas ∙ allowed in
      record {
        stands = λ memory st. subst (λ (v : View). StandsFor v (written_run memory addr bytes)) (sym e) (stands_written_run (view_of s) memory addr bytes 0 st (fits memory st));
        absent = λ memory st place gone.
            byte_at-written_run memory addr bytes place 0 Write st.whole (fits memory st)
            ∙ put_run-absent (view_of s).resident (byte_at memory) addr bytes place all_here gone;
        only = only;
        marked = λ page. ap (λ (v : View). v.marked page) e;
      }

-- two runs one behind the other
runs_join : (memory : List Area) (addr : ℕ) (low high : List ℕ) → addr < 2 ^ 32 → written_run memory addr (low ++ high) ≡ written_run (written_run memory (byte_after addr (length low)) high) addr low
unfolding written_run
runs_join memory addr [] high small = let e : byte_after addr 0 ≡ addr = omega (arith, small) in rw e refl
runs_join memory addr (x ∷ low) high small =
    let e : byte_after (after addr) (length low) ≡ byte_after addr (suc (length low)) = omega arith in
    ap (λ (m : List Area). with_byte m addr x) (runs_join memory (after addr) low high (omega arith) ∙ ap (λ (z : ℕ). written_run (written_run memory z high) (after addr) low) e)

marks_join : (a b c : Bool) → ((a || b) || c) ≡ (a || (c || b))
marks_join true b c = refl
marks_join false true true = refl
marks_join false true false = refl
marks_join false false true = refl
marks_join false false false = refl

pub both_written : (s t u : Paging) (addr next : ℕ) (low high all : List ℕ) → addr < 2 ^ 32 → next ≡ byte_after addr (length low) → all ≡ low ++ high → WritesThere s next high t → WritesThere t addr low u → WritesThere s addr all u
both_written s t u addr next low high all small n e a b =
    let join : (memory : List Area) → written_run memory addr all ≡ written_run (written_run memory next high) addr low =
    λ memory. ap (written_run memory addr) e ∙ (runs_join memory addr low high small ∙ ap (λ (z : ℕ). written_run (written_run memory z high) addr low) (sym n)) in
    record {
      stands = λ memory st. subst (λ (m : List Area). StandsFor (view_of u) m) (sym (join memory)) (b.stands (written_run memory next high) (a.stands memory st));
      absent = λ memory st place gone.
          ap (λ (m : List Area). byte_at m place) (join memory)
          ∙ (b.absent (written_run memory next high) (a.stands memory st) place (ap (is_listed (page_of place)) a.only.order ∙ gone)
          ∙ a.absent memory st place gone);
      only = only_then s t u a.only b.only;
      marked = λ page.
          let count : length all ≡ length low + length high = ap (length {A = ℕ}) e ∙ length-append low high in
          b.marked page
          ∙ (ap (λ (z : Bool). z || is_in addr (length low) page) (a.marked page)
          ∙ (marks_join (is_listed page s.modified) (is_in next (length high) page) (is_in addr (length low) page)
          ∙ ap (λ (z : Bool). is_listed page s.modified || z)
          (ap (λ (z : ℕ). is_in addr (length low) page || is_in z (length high) page) n
          ∙ sym (ap (λ (z : ℕ). is_in addr z page) count ∙ in_parts addr (length low) (length high) page small))));
    }

-- the parts of a run

pub parts_of : (bytes : List ℕ) (a : ℕ) → a ≤ length bytes → bytes ≡ take a bytes ++ take (length bytes - a) (drop a bytes)
parts_of bytes a few =
    sym (ap (λ (xs : List ℕ). take a bytes ++ xs) (take_all (length bytes - a) (drop a bytes) (let e = length-drop a bytes in omega (arith, e))) ∙ take-append-drop a bytes)

-- parts of a range that may be written

module _ (areas : List Area) (addr a b : ℕ) (small : addr < 2 ^ 32) (allowed : violation areas addr (a + b) 0 Write ≡ None) where
  pub low_allowed : violation areas addr a 0 Write ≡ None
  low_allowed = (none_is_accessible areas addr a 0 Write small).1 (record { bytes = λ k low. accessible_from areas addr (a + b) 0 Write small allowed k (omega (arith, low)) })

  pub high_allowed : violation areas (byte_after addr a) b 0 Write ≡ None
  high_allowed =
      (none_is_accessible areas (byte_after addr a) b 0 Write (omega arith)).1 (record {
        bytes = λ k low.
            let e : byte_after (byte_after addr a) k ≡ byte_after addr (a + k) = omega arith in
            ap (λ (z : ℕ). may_access areas (page_of z) 0 Write) e ∙ accessible_from areas addr (a + b) 0 Write small allowed (a + k) (omega (arith, low));
      })

-- a page that may be accessed is one of an area

some_area : (area : Option Area) (mode : ℕ) → permitted (option_map (λ a. a.prot) area) mode Write ≡ true → is_some area ≡ true
some_area (Some area) mode h = refl
some_area None mode h = let no : false ≡ true = h in cc

accessible_inside : (areas : List Area) (page mode : ℕ) → may_access areas page mode Write ≡ true → is_some (area_of areas page) ≡ true
unfolding may_access prot_of
accessible_inside areas page mode h = some_area (area_of areas page) mode h

pub range_inside : (areas : List Area) (addr len k : ℕ) → addr < 2 ^ 32 → violation areas addr len 0 Write ≡ None → k < len → is_some (area_of areas (page_of (byte_after addr k))) ≡ true
range_inside areas addr len k small allowed low = accessible_inside areas (page_of (byte_after addr k)) 0 (accessible_from areas addr len 0 Write small allowed k low)

pub first_inside : (areas : List Area) (addr len : ℕ) → addr < 2 ^ 32 → violation areas addr len 0 Write ≡ None → 0 < len → is_some (area_of areas (page_of addr)) ≡ true
first_inside areas addr len small allowed low =
    let e : byte_after addr 0 ≡ addr = omega (arith, small) in
    subst (λ (z : ℕ). is_some (area_of areas (page_of z)) ≡ true) e (range_inside areas addr len 0 small allowed low)

-- the answers

pub failed_pokes : (r : Result Bool PageFault) (addr : ℕ) (bytes : List ℕ) (s t : Paging) (file now : Option BlockFile) → IsErr r → HasFailed addr (length bytes) s file t now → Pokes r addr bytes s file t now
failed_pokes (Ok x) addr bytes s t file now e h = let no : false ≡ true = e in cc
failed_pokes (Err x) addr bytes s t file now e h = h

pub refused : (r : Result (Unit {0}) Violation) (v : Option Violation) → err_of r ≡ v → is_err r ≡ true → is_allowed v ≡ false
refused (Ok x) v h e = let no : false ≡ true = e in cc
refused (Err x) v h e = ap is_allowed (sym h)

pub allowed_by : (r : Result (Unit {0}) Violation) (v : Option Violation) → err_of r ≡ v → is_err r ≡ false → v ≡ None
allowed_by (Ok x) v h e = sym h
allowed_by (Err x) v h e = let no : true ≡ false = e in cc

pub never_stopped : (r : Result (Unit {0}) Stop) (e : Stop) (x : Option Stop) → r ≡ Err e → err_of r ≡ x → x ≡ None → ⊥
never_stopped r e x is h n = let k : Some e ≡ None = sym (ap err_of is) ∙ (h ∙ n) in cc

-- pages that come in

pub comes_served : (page : ℕ) (s t : Backed) → is_listed page s.paging.order ≡ false → IsServed page s t → IsPaging s.paging → length s.paging.pinned < s.paging.frames → Keeps s.paging s.file t.paging t.file → ComesIn page s t
comes_served page s t away e f few keeps = record { by = subst (λ (b : Bool). ComesInBy b page s t) (sym away) e; fine = f; room = few; keeps = keeps }

pub comes_there : (page : ℕ) (s : Backed) → is_listed page s.paging.order ≡ true → IsPaging s.paging → length s.paging.pinned < s.paging.frames → ComesIn page s s
comes_there page s here f few = record { by = subst (λ (b : Bool). ComesInBy b page s s) (sym here) refl; fine = f; room = few; keeps = λ memory st. st }

pub three_come : (x y z : ℕ) (a b c d : Backed) → ComesIn x a b → ComesIn y b c → ComesIn z c d → AllComeIn (x ∷ y ∷ z ∷ []) a d
unfolding AllComeIn
three_come x y z a b c d p q r = (b, p, (c, q, (d, r, refl)))

pub first_out : (x y z : ℕ) (a b : Backed) → StaysOut x a b → SomeComeIn (x ∷ y ∷ z ∷ []) a b
unfolding AllComeIn
first_out x y z a b o = record { front = []; page = x; rest = y ∷ z ∷ []; splits = refl; mid = a; came = refl; out = o }

pub second_out : (x y z : ℕ) (a b c : Backed) → ComesIn x a b → StaysOut y b c → SomeComeIn (x ∷ y ∷ z ∷ []) a c
unfolding AllComeIn
second_out x y z a b c p o = record { front = x ∷ []; page = y; rest = z ∷ []; splits = refl; mid = b; came = (b, p, refl); out = o }

pub third_out : (x y z : ℕ) (a b c d : Backed) → ComesIn x a b → ComesIn y b c → StaysOut z c d → SomeComeIn (x ∷ y ∷ z ∷ []) a d
unfolding AllComeIn
third_out x y z a b c d p q o = record { front = x ∷ y ∷ []; page = z; rest = []; splits = refl; mid = c; came = (b, p, (c, q, refl)); out = o }
