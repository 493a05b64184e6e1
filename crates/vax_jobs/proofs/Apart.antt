-- What an event of one process does to the part of another: nothing.
use Rattle.std.proofs.Common.{◌≡◌, ◌<◌, ◌≤◌, ℕ, List, Option, Some, None, refl, sym, ap, ◌∙◌, subst, arith, inl, inr}
use Rattle.std.specs.Prelude.{cond}
use Rattle.std.specs.Option.{option_map}
use Rattle.std.specs.FinMap.{get, get-insert}
use Rattle.std.specs.Cmp.{nat_cmp_total, unsigned_tied}
use Rattle.std.proofs.lemmas.Bool.{cases_Bool, ne_eqb}
use Rattle.vax_space.specs.declared.Area.{Area}
use Rattle.vax_space.specs.Areas.{block_of}
use Rattle.vax_space.specs.Faults.{IsSpace}
use Rattle.vax_outside.specs.Blocks.{BlockFile, after_read, after_write}
use Rattle.vax_pager.specs.Calls.{IsLeft, Source, Back, Empty, OfKept, OfVictim, Nowhere, file_after, file_begun, put_block, read_for, source, wrote_back}
use Rattle.vax_pager.specs.Listing.{is_listed}
use Rattle.vax_pager.specs.Meaning.{pages}
use Rattle.vax_pager.specs.Paging.{Backs, Paging, StandsWith, block_in, content, home}
use Rattle.vax_machine.specs.Machine.{EvictsFrom, FlushesFrom, Moves, ServesAs, ServesFrom}
use Rattle.vax_machine.specs.declared.engine.Engine.{Engine}
use Rattle.vax_machine.specs.declared.event.Applied.{Applied}
use Rattle.vax_machine.specs.declared.event.Applied.TheVariants.{Stepped, Parted, Absent, Ended, Served, Evicted, Flushed, Nothing, Failed}
use Rattle.vax_machine.specs.declared.event.Event.{Event}
use Rattle.vax_machine.specs.declared.event.Event.TheVariants as event
use Rattle.vax_window.specs.Windows.{its}
use Rattle.vax_window.proofs.Apart.{others_stay}
use Rattle.vax_jobs.proofs.Few.{few_blocks}

-- a pager and its file depend on the blocks of its pages alone

block_same : (file other : BlockFile) (o : Option ℕ) → ((n : ℕ) → o ≡ Some n → get other.blocks n ≡ get file.blocks n) → block_in other o ≡ block_in file o
block_same file other None same = refl
block_same file other (Some n) same = same n refl

home_same : (s : Paging) (file other : BlockFile) (page : ℕ) → ((n : ℕ) → block_of s.areas page ≡ Some n → get other.blocks n ≡ get file.blocks n) → home s other page ≡ home s file page
unfolding home
home_same s file other page same = elim (cases_Bool (s.blocked page)) [
  | inl so ↦ rw so (block_same file other (block_of s.areas page) same)
  | inr not_so ↦ rw not_so refl
]

content_same : (s : Paging) (file other : BlockFile) (page : ℕ) → home s other page ≡ home s file page → content s other page ≡ content s file page
unfolding content
content_same s file other page same = elim (cases_Bool (is_listed page s.order)) [ inl so ↦ rw so refl | inr not_so ↦ rw not_so same ]

backs_same : (s : Paging) (file other : BlockFile) (memory : List Area) → ((page n : ℕ) → block_of s.areas page ≡ Some n → get other.blocks n ≡ get file.blocks n) → Backs s file memory → Backs s other memory
backs_same s file other memory same b = record {
  areas = b.areas;
  whole = b.whole;
  bytes = λ addr there. rw (content_same s file other _ (home_same s file other _ (same _))) (b.bytes addr there);
  clean = λ page is. home_same s file other page (same page) ∙ b.clean page is;
}

-- no block changed but some of a process's own
abbrev pub OnlyOwn : Option BlockFile → Option BlockFile → Type 0
OnlyOwn None after = after ≡ None
OnlyOwn (Some before) None = ⊥
OnlyOwn (Some before) (Some after) = (n : ℕ) → 69632 ≤ n → get after.blocks n ≡ get before.blocks n

own_none : (before : Option BlockFile) → OnlyOwn before before
own_none None = refl
own_none (Some file) = λ n l. refl

own_same : (before after : Option BlockFile) → after ≡ before → OnlyOwn before after
own_same before after e = subst (λ (x : Option BlockFile). OnlyOwn before x) (sym e) (own_none before)

own_read : (before : Option BlockFile) → OnlyOwn before (option_map after_read before)
own_read None = refl
own_read (Some file) = λ n l. refl

nothing_then : (mid after : Option BlockFile) → mid ≡ None → OnlyOwn mid after → after ≡ None
nothing_then None after a b = b
nothing_then (Some file) after a b = absurd (cc)

own_then : (before mid after : Option BlockFile) → OnlyOwn before mid → OnlyOwn mid after → OnlyOwn before after
own_then None mid after a b = nothing_then mid after a b
own_then (Some file) None after a b = absurd a
own_then (Some file) (Some next) None a b = absurd b
own_then (Some file) (Some next) (Some last) a b = λ n l. b n l ∙ a n l

far_block : (n k : ℕ) (bytes : List ℕ) (file : BlockFile) → k < 69632 → 69632 ≤ n → get (after_write k bytes file).blocks n ≡ get file.blocks n
far_block n k bytes file few l =
    get-insert nat_cmp_total file.blocks k bytes n
    ∙ ap (λ b. cond b (Some bytes) (get file.blocks n)) (unsigned_tied n k ∙ ne_eqb n k (λ same. omega arith))

own_put : (o : Option ℕ) (bytes : List ℕ) (before : Option BlockFile) → ((k : ℕ) → o ≡ Some k → k < 69632) → OnlyOwn before (put_block o bytes before)
own_put None bytes before few = own_none before
own_put (Some k) bytes None few = refl
own_put (Some k) bytes (Some file) few = λ n l. far_block n k bytes file (few k refl) l

own_wrote : (page : ℕ) (s : Paging) (before : Option BlockFile) → IsSpace s.areas → OnlyOwn before (wrote_back page s before)
unfolding wrote_back
own_wrote page s before space = elim (cases_Bool (is_listed page s.modified)) [
  | inl so ↦ rw so (own_put (block_of s.areas page) (s.frame page) before (λ k is. few_blocks s.areas page k space is))
  | inr not_so ↦ rw not_so (own_none before)
]

own_read_for : (page : ℕ) (s : Paging) (before : Option BlockFile) → OnlyOwn before (read_for page s before)
unfolding read_for
own_read_for page s before = elim (cases_Bool (s.blocked page)) [ inl so ↦ rw so (own_read before) | inr not_so ↦ rw not_so (own_none before) ]

own_after : (from : Source) (page : ℕ) (s : Paging) (before : Option BlockFile) → IsSpace s.areas → OnlyOwn before (file_after from page s before)
own_after Back page s before space = own_none before
own_after Empty page s before space = own_read_for page s before
own_after (OfKept old) page s before space = own_read_for page s before
own_after (OfVictim victim) page s before space = own_then before _ _ (own_wrote victim s before space) (own_read_for page s (wrote_back victim s before))
own_after Nowhere page s before space = own_none before

own_begun : (from : Source) (s : Paging) (before : Option BlockFile) → IsSpace s.areas → OnlyOwn before (file_begun from s before)
own_begun Back s before space = own_none before
own_begun Empty s before space = own_none before
own_begun (OfKept old) s before space = own_none before
own_begun (OfVictim victim) s before space = own_wrote victim s before space
own_begun Nowhere s before space = own_none before

own_by : (before after is : Option BlockFile) → after ≡ is → OnlyOwn before is → OnlyOwn before after
own_by before after is e h = subst (λ (x : Option BlockFile). OnlyOwn before x) (sym e) h

own_left : (from : Source) (page : ℕ) (s t : Paging) (before after : Option BlockFile) → IsSpace s.areas → IsLeft from page s before t after → OnlyOwn before after
own_left from page s t before after space (inl l) = own_same before after l.2
own_left from page s t before after space (inr r) = own_by before after _ r.2 (own_begun from s before space)

own_serves : (page : ℕ) (result : Applied) (s t : Paging) (before after : Option BlockFile) → IsSpace s.areas → ServesFrom page result s before t after → OnlyOwn before after
own_serves page Failed s t before after space h = own_left (source page s) page s t before after space h
own_serves page (Served v) s t before after space h = own_by before after _ h.1 (own_after (source page s) page s before space)
own_serves page (Stepped sent) s t before after space h = absurd h
own_serves page Parted s t before after space h = absurd h
own_serves page (Absent other) s t before after space h = absurd h
own_serves page (Ended e) s t before after space h = absurd h
own_serves page Evicted s t before after space h = absurd h
own_serves page Flushed s t before after space h = absurd h
own_serves page Nothing s t before after space h = absurd h

own_serves_as : (want : Option ℕ) (result : Applied) (s t : Paging) (before after : Option BlockFile) → IsSpace s.areas → ServesAs want result s before t after → OnlyOwn before after
own_serves_as None result s t before after space h = own_same before after h.1
own_serves_as (Some page) result s t before after space h = own_serves page result s t before after space h

own_evicts : (page : ℕ) (result : Applied) (s t : Paging) (before after : Option BlockFile) → IsSpace s.areas → EvictsFrom page result s before t after → OnlyOwn before after
own_evicts page Evicted s t before after space h = own_by before after _ h.1 (own_wrote page s before space)
own_evicts page Nothing s t before after space h = own_same before after h.1
own_evicts page Failed s t before after space h = own_same before after h.1
own_evicts page (Stepped sent) s t before after space h = absurd h
own_evicts page Parted s t before after space h = absurd h
own_evicts page (Absent other) s t before after space h = absurd h
own_evicts page (Ended e) s t before after space h = absurd h
own_evicts page (Served v) s t before after space h = absurd h
own_evicts page Flushed s t before after space h = absurd h

own_flushes : (page : ℕ) (result : Applied) (s t : Paging) (before after : Option BlockFile) → IsSpace s.areas → FlushesFrom page result s before t after → OnlyOwn before after
own_flushes page Flushed s t before after space h = own_by before after _ h.1 (own_wrote page s before space)
own_flushes page Nothing s t before after space h = own_same before after h.1
own_flushes page Failed s t before after space h = own_same before after h.1
own_flushes page (Stepped sent) s t before after space h = absurd h
own_flushes page Parted s t before after space h = absurd h
own_flushes page (Absent other) s t before after space h = absurd h
own_flushes page (Ended e) s t before after space h = absurd h
own_flushes page (Served v) s t before after space h = absurd h
own_flushes page Evicted s t before after space h = absurd h

pub moves_own : (what : Event) (old new : Engine) (result : Applied) (before after : Option BlockFile) → IsSpace (pages old.pager).areas → Moves what old before result new after → OnlyOwn before after
moves_own event.Attempt old new result before after space h = own_same before after h
moves_own event.Serve old new result before after space h = own_serves_as old.wanted result (pages old.pager) (pages new.pager) before after space h
moves_own (event.Evict page) old new result before after space h = own_evicts page result (pages old.pager) (pages new.pager) before after space h
moves_own (event.Flush page) old new result before after space h = own_flushes page result (pages old.pager) (pages new.pager) before after space h

-- what another process's pager stands for
pub stands_still : (i job : ℕ) (s : Paging) (before after : Option BlockFile) (memory : List Area) → i < 8 → job < 8 → (i ≡ job → ⊥) → IsSpace s.areas → OnlyOwn (its job before) (its job after) → StandsWith s (its i before) memory → StandsWith s (its i after) memory
stands_still i job s None after memory li lj other space own b = absurd b
stands_still i job s (Some before) None memory li lj other space own b = absurd own
stands_still i job s (Some before) (Some after) memory li lj other space own b =
    backs_same s _ _ memory (λ page n is. others_stay job i lj li (λ e. other (sym e)) before after own n (few_blocks s.areas page n space is)) b
