-- A console's deposit, by the paged run: the services that it makes, and what they make of the page file.
use Rattle.std.proofs.Common.{ℕ, ◌≡◌, ◌+◌, ◌<◌, Bool, true, false, List, [], ◌∷◌, ◌++◌, length, if◌then◌else◌, refl, ap, sym, ◌∙◌, subst, arith, inl, inr, Option, Some}
use Rattle.std.specs.Prelude.{◌||◌}
use Rattle.std.proofs.Math.Path.{fun_ext}
use Rattle.std.proofs.lemmas.Bool.{cases_Bool}
use Rattle.vax_space.specs.declared.Area.{Area}
use Rattle.vax_space.specs.Faults.{IsSpace}
use Rattle.vax_outside.specs.Blocks.{BlockFile}
use Rattle.vax_flat.specs.Memory.{written_run}
use Rattle.vax_flat.specs.Parts.{Place, At, machine_at}
use Rattle.vax_flat.specs.Port.{is_in}
use Rattle.vax_flat.specs.Step.{Flat}
use Rattle.vax_pager.specs.Calls.{IsLeft, IsPaging, reads_page, source, victim_of}
use Rattle.vax_pager.specs.Listing.{is_listed}
use Rattle.vax_pager.specs.Meaning.{pages}
use Rattle.vax_pager.specs.Paging.{Keeps, Paging, StandsWith}
use Rattle.vax_pager.specs.Poking.{AllComeIn, Backed, ComesIn, ComesInBy, HasFailed, HasPoked, IsServed, backed, pages_of_bytes}
use Rattle.vax_pager.specs.Steps.{settled}
use Rattle.vax_pager.proofs.Turned.{stands_settled}
use Rattle.vax_machine.proofs.Attempts.{residence_same, residence_settled}
use Rattle.vax_machine.proofs.Moving.{FileGoes, came_blocks, came_cleans, frame_is, left_goes, moved_again, moved_by, moved_same, serve_goes, victim_write, victim_writes}
use Rattle.vax_machine.proofs.Services.{failed_same, is_service, source_reads, taken_modified, victim_listed}
use Rattle.vax_machine.specs.Blocks.{Moved}
use Rattle.vax_machine.specs.Calling.{WritesVictim}
use Rattle.vax_machine.specs.Depositing.{FailsToCome, IsBroughtInPart, IsDeposited, deposited, filed, given, with_page, with_pages, without_pins}
use Rattle.vax_machine.specs.Machine.{Means}
use Rattle.vax_machine.specs.Paged.{Eviction, Paged, blocked_of, cleaned_of, evictions_of, is_read, one_if, page_bytes}
use Rattle.vax_machine.specs.Residence.{Residence, is_resident, residence_of, served, unpinned, victim}
use Rattle.vax_machine.specs.Run.{begun}
use Rattle.vax_machine.specs.declared.engine.Engine.{Engine}

-- the pager, with what its file tells, is where the paged run is
record Ties (areas : List Area) (s : Backed) (p : Paged) : Type 0 where
  pub residence : residence_of s.paging ≡ p.residence
  pub modified : (λ page. is_listed page s.paging.modified) ≡ p.modified
  pub blocked : s.paging.blocked ≡ p.blocked
  pub within : s.paging.areas ≡ areas
  pub stands : StandsWith s.paging s.file (machine_at p.place).memory

-- a page is served

module _ (areas : List Area) (space : IsSpace areas) (page : ℕ) (s : Backed) (p : Paged) (tie : Ties areas s p) (fine : IsPaging s.paging) (few : length s.paging.pinned < s.paging.frames) where
  abbrev memory : List Area
  memory = (machine_at p.place).memory

  abbrev listed : ℕ → Bool
  listed = λ other. is_listed other s.paging.modified

  victim_here : victim_of (source page s.paging) ≡ victim p.residence
  victim_here = (is_service page [] s.paging fine few).answer ∙ ap victim tie.residence

  frames_here : (v : ℕ) → victim_of (source page s.paging) ≡ Some v → s.paging.frame v ≡ page_bytes memory v
  frames_here v is =
      frame_is s.paging s.file memory v fine (subst IsSpace (sym tie.within) space)
      (victim_listed (residence_of s.paging) v (sym (is_service page [] s.paging fine few).answer ∙ is)) tie.stands

  abbrev written : List (ℕ × List ℕ)
  written = victim_write areas (victim p.residence) p.modified memory

  written_here : victim_write s.paging.areas (victim_of (source page s.paging)) listed memory ≡ written
  written_here =
      ap (λ (z : List Area). victim_write z (victim_of (source page s.paging)) listed memory) tie.within
      ∙ (ap (λ (z : Option ℕ). victim_write areas z listed memory) victim_here
      ∙ ap (λ (z : ℕ → Bool). victim_write areas (victim p.residence) z memory) tie.modified)

  read_here : reads_page (source page s.paging) page s.paging ≡ is_read page p
  read_here =
      source_reads page s.paging fine few
      ∙ (ap (λ (r : Residence). if is_listed page r.kept then false else s.paging.blocked page) tie.residence
      ∙ ap (λ (z : ℕ → Bool). if is_listed page p.residence.kept then false else z page) tie.blocked)

  abbrev made : List Eviction
  made = evictions_of (p.turns + 1) (victim p.residence) p

  module _ (t : Backed) where
    served_moves : IsServed page s t → Moved areas p (given page p) s.file t.file
    served_moves c =
        moved_by areas p (given page p) s.file t.file made written (one_if (reads_page (source page s.paging) page s.paging)) refl
        (victim_writes areas (p.turns + 1) (victim p.residence) p) (ap (λ (b : Bool). p.reads + one_if b) (sym read_here))
        (subst (λ (z : List (ℕ × List ℕ)). FileGoes s.file t.file z (one_if (reads_page (source page s.paging) page s.paging))) written_here
        (subst (λ (z : Option BlockFile). FileGoes s.file z (victim_write s.paging.areas (victim_of (source page s.paging)) listed memory) (one_if (reads_page (source page s.paging) page s.paging))) (sym c.file)
        (serve_goes (source page s.paging) page s.paging s.file memory frames_here)))

    served_ties : IsServed page s t → Keeps s.paging s.file t.paging t.file → Ties areas t (given page p)
    served_ties c keeps =
        let service = is_service page (t.paging.frame page) s.paging fine few in
        let modified_in : Paging → ℕ → Bool = λ z other. is_listed other z.modified in
        record {
          residence = ap residence_of c.paging ∙ (service.residence ∙ ap (served page) tie.residence);
          modified =
              ap modified_in c.paging
              ∙ (came_cleans (source page s.paging) page (t.paging.frame page) s.paging
              ∙ (ap (λ (z : Option ℕ). cleaned_of z listed) victim_here ∙ ap (cleaned_of (victim p.residence)) tie.modified));
          blocked =
              ap (λ (z : Paging). z.blocked) c.paging
              ∙ (came_blocks (source page s.paging) page (t.paging.frame page) s.paging
              ∙ (ap (λ (z : Option ℕ). blocked_of z listed s.paging.blocked) victim_here
              ∙ (ap (λ (z : ℕ → Bool). blocked_of (victim p.residence) z s.paging.blocked) tie.modified
              ∙ ap (blocked_of (victim p.residence) p.modified) tie.blocked)));
          within = ap (λ (z : Paging). z.areas) c.paging ∙ (service.areas ∙ tie.within);
          stands = keeps memory tie.stands;
        }

    -- or its service failed
    out_fails : (b : Paged) (before : Option BlockFile) → Moved areas b p before s.file → IsLeft (source page s.paging) page s.paging s.file t.paging t.file → FailsToCome areas page b p before t.file
    out_fails b before moved left = elim (left_goes (source page s.paging) page s.paging t.paging s.file t.file memory frames_here left) [
      | inl w ↦
          let k = taken_modified (source page s.paging) s.paging w.0 in
          let writes : WritesVictim p = record { page = k.0; is = sym victim_here ∙ k.1; modified = ap (λ (z : ℕ → Bool). z k.0) (sym tie.modified) ∙ k.2 } in
          inl (writes, subst (λ (z : Option BlockFile). Moved areas b p before z) (sym w.1) moved)
      | inr r ↦
          inr (
            sym read_here ∙ r.0,
            moved_again areas b p (record p { evictions = p.evictions ++ made }) before s.file t.file moved
                (moved_by areas p (record p { evictions = p.evictions ++ made }) s.file t.file made written 0 refl (victim_writes areas (p.turns + 1) (victim p.residence) p) (omega arith)
                (subst (λ (z : List (ℕ × List ℕ)). FileGoes s.file t.file z 0) written_here r.1)),
          )
    ]

-- pages come in

come_step : (areas : List Area) (space : IsSpace areas) (page : ℕ) (s t : Backed) (p : Paged) (tie : Ties areas s p) (c : ComesIn page s t) (b : Bool) → ComesInBy b page s t → Ties areas t (if b then p else given page p) × Moved areas p (if b then p else given page p) s.file t.file
come_step areas space page s t p tie c true e = (
  subst (λ (z : Backed). Ties areas z p) (sym e) tie,
  subst (λ (z : Backed). Moved areas p p s.file z.file) (sym e) (moved_same areas p p s.file refl refl),
)
come_step areas space page s t p tie c false e = (served_ties areas space page s p tie c.fine c.room t e c.keeps, served_moves areas space page s p tie c.fine c.room t e)

come_in : (areas : List Area) (space : IsSpace areas) (page : ℕ) (s t : Backed) (p : Paged) → Ties areas s p → ComesIn page s t → Ties areas t (with_page page p) × Moved areas p (with_page page p) s.file t.file
unfolding with_page
come_in areas space page s t p tie c =
    subst (λ (b : Bool). Ties areas t (if b then p else given page p) × Moved areas p (if b then p else given page p) s.file t.file) (ap (λ (r : Residence). is_listed page r.order) tie.residence)
    (come_step areas space page s t p tie c (is_listed page s.paging.order) c.by)

all_in : (areas : List Area) (space : IsSpace areas) (pages : List ℕ) (s t : Backed) (p : Paged) → Ties areas s p → AllComeIn pages s t → Ties areas t (with_pages pages p) × Moved areas p (with_pages pages p) s.file t.file
unfolding AllComeIn with_pages
all_in areas space [] s t p tie e = (
  subst (λ (z : Backed). Ties areas z p) (sym e) tie,
  subst (λ (z : Backed). Moved areas p p s.file z.file) (sym e) (moved_same areas p p s.file refl refl),
)
all_in areas space (page ∷ pages) s t p tie c =
    let a = come_in areas space page s c.0 p tie c.1 in
    let b = all_in areas space pages c.0 t (with_page page p) a.0 c.2 in
    (b.0, moved_again areas p (with_page page p) (with_pages pages (with_page page p)) s.file c.0.file t.file a.1 b.1)

-- the whole of a deposit

ties_settled : (areas : List Area) (s : Paging) (file : Option BlockFile) (p : Paged) → Ties areas (backed s file) p → Ties areas (backed (settled s) file) (without_pins p)
unfolding settled
ties_settled areas s file p tie = record {
  residence = ap unpinned tie.residence;
  modified = tie.modified;
  blocked = tie.blocked;
  within = tie.within;
  stands = stands_settled s file (machine_at p.place).memory tie.stands;
}

unpinned_moves : (areas : List Area) (p q : Paged) (file after : Option BlockFile) → Moved areas (without_pins p) q file after → Moved areas p q file after
unpinned_moves areas p q file after m = moved_again areas p (without_pins p) q file file after (moved_same areas p (without_pins p) file refl refl) m

begins : (old : Engine) (file : Option BlockFile) (place : Place) → Means old file place → Ties (pages old.pager).areas (backed (pages old.pager) file) (begun old place)
begins old file place means = record { residence = refl; modified = refl; blocked = refl; within = refl; stands = means.memory }

blocked_settled : (s : Paging) → (settled s).blocked ≡ s.blocked
unfolding settled
blocked_settled s = refl

-- no attempt is made while pages come in

record AreCounted (p q : Paged) : Type 0 where
  pub steps : q.steps ≡ p.steps
  pub turns : q.turns ≡ p.turns

page_counted : (page : ℕ) (p : Paged) → AreCounted p (with_page page p)
unfolding with_page
page_counted page p = elim (cases_Bool (is_resident p.residence page)) [
  | inl t ↦ rw t (record { steps = refl; turns = refl })
  | inr f ↦ rw f (record { steps = refl; turns = refl })
]

pages_counted : (pages : List ℕ) (p : Paged) → AreCounted p (with_pages pages p)
unfolding with_pages
pages_counted [] p = record { steps = refl; turns = refl }
pages_counted (page ∷ pages) p =
    let a = page_counted page p in
    let b = pages_counted pages (with_page page p) in
    record { steps = b.steps ∙ a.steps; turns = b.turns ∙ a.turns }

module _ (old new : Engine) (file after : Option BlockFile) (addr : ℕ) (bytes : List ℕ) (space : IsSpace (pages old.pager).areas) where
  pub bytes_deposited : HasPoked addr bytes (pages old.pager) file (pages new.pager) after → new.cpu ≡ old.cpu → new.ended ≡ old.ended → new.steps ≡ old.steps → new.turns ≡ old.turns →
      (m : Flat) → Means old file (At m) → IsDeposited (pages old.pager).areas addr bytes (begun old (At m)) file (filed new after)
  bytes_deposited k cpu ended steps turns m means =
      let areas = (pages old.pager).areas in
      let p = begun old (At m) in
      let tie = ties_settled areas (pages old.pager) file p (begins old file (At m) means) in
      let came = all_in areas space (pages_of_bytes addr (length bytes)) (backed (settled (pages old.pager)) file) (backed k.mid after) (without_pins p) tie k.brings in
      let q = with_pages (pages_of_bytes addr (length bytes)) (without_pins p) in
      record {
        tracks = record {
          steps = steps ∙ sym (pages_counted (pages_of_bytes addr (length bytes)) (without_pins p)).steps;
          turns = turns ∙ sym (pages_counted (pages_of_bytes addr (length bytes)) (without_pins p)).turns;
          residence = residence_same (settled k.mid) (pages new.pager) k.then ∙ (residence_settled k.mid (settled k.mid) refl ∙ ap unpinned came.0.residence);
          modified = fun_ext λ page. k.touches page ∙ ap (λ (z : ℕ → Bool). z page || is_in addr (length bytes) page) came.0.modified;
          blocked = k.then.blocked ∙ (blocked_settled k.mid ∙ came.0.blocked);
          means = record {
            processor = rw (cpu, ended) (record {
              open_one = means.processor.open_one;
              machine = ap (λ (z : Flat). record z { memory = written_run m.memory addr bytes }) means.processor.machine;
            });
            memory = k.stands m.memory means.memory;
          };
        };
        moved = moved_again areas p q (deposited addr bytes p) file after after (unpinned_moves areas p q file after came.1) (moved_same areas q (deposited addr bytes p) after refl refl);
      }

  pub brought_in_part : HasFailed addr (length bytes) (pages old.pager) file (pages new.pager) after → (m : Flat) → Means old file (At m) → IsBroughtInPart (pages old.pager).areas (pages_of_bytes addr (length bytes)) (begun old (At m)) file (filed new after)
  brought_in_part k m means =
      let areas = (pages old.pager).areas in
      let p = begun old (At m) in
      let c = k.brings in
      let tie = ties_settled areas (pages old.pager) file p (begins old file (At m) means) in
      let came = all_in areas space c.front (backed (settled (pages old.pager)) file) c.mid (without_pins p) tie c.came in
      let out = c.out in
      record {
        front = c.front;
        page = c.page;
        rest = c.rest;
        splits = c.splits;
        away = ap (λ (r : Residence). is_resident r c.page) (sym came.0.residence) ∙ out.away;
        residence =
            residence_settled k.mid (pages new.pager) k.then
            ∙ ap unpinned ((failed_same c.mid.paging k.mid (source c.page c.mid.paging) c.page c.mid.file after out.stays).0 ∙ came.0.residence);
        fails = out_fails areas space c.page c.mid (with_pages c.front (without_pins p)) came.0 out.fine out.room (backed k.mid after) p file (unpinned_moves areas p (with_pages c.front (without_pins p)) file c.mid.file came.1) out.stays;
      }
