-- A machine at its start, and one that goes on at a place.
use Rattle.std.proofs.Common.{ℕ, ◌≡◌, ◌≤◌, Bool, List, [], Option, Some, None, Result, Ok, Err, ap, arith, false, subst, sym}
use Rattle.std.specs.Prelude.{IfOk}
use Rattle.vax_word.specs.declared.Core.{Core}
use Rattle.vax_space.specs.declared.Area.{Area}
use Rattle.vax_undo.specs.declared.term.Term.{Term}
use Rattle.vax_outside.specs.Blocks.{BlockFile}
use Rattle.vax_flat.specs.declared.Ending.{Ending}
use Rattle.vax_flat.specs.Parts.{Place}
use Rattle.vax_cpu.specs.declared.cpu.Open.{Open}
use Rattle.vax_pager.specs.Calls as pager
use Rattle.vax_pager.specs.Listing.{is_listed}
use Rattle.vax_pager.specs.Meaning.{pages}
use Rattle.vax_pager.specs.Paging.{Paging, StandsWith}
use Rattle.vax_machine.specs.Machine.{AreSound, IsThere, Means}
use Rattle.vax_machine.specs.Meaning.{left_at, resumed_at, starts_at}
use Rattle.vax_machine.specs.Paged.{begun_at}
use Rattle.vax_machine.specs.Residence.{residence_of}
use Rattle.vax_machine.specs.declared.engine.Engine.{Engine}

module _ (s : Paging) (areas : List Area) (frames : ℕ) (is : s ≡ pager.fresh areas frames) where
  pub fresh_sound : 64 ≤ frames → AreSound s.areas (residence_of s) None
  unfolding pager.fresh
  fresh_sound some = rw is (record { pins = omega arith; frames = some; wanted = λ page e. cc })

  fresh_residence : residence_of s ≡ record { frames = frames; order = []; pinned = []; kept = []; spoiled = 0 }
  unfolding pager.fresh
  fresh_residence = ap residence_of is

  pub fresh_areas : s.areas ≡ areas
  unfolding pager.fresh
  fresh_areas = ap (λ (z : Paging). z.areas) is

  pub fresh_pins : s.pinned ≡ []
  unfolding pager.fresh
  fresh_pins = ap (λ (z : Paging). z.pinned) is

  fresh_modified : ◌≡◌ {A = ℕ → Bool} (λ page. is_listed page s.modified) (λ page. false)
  unfolding pager.fresh is_listed
  fresh_modified = let listed : Paging → ℕ → Bool = λ z page. is_listed page z.modified in ap listed is

  fresh_blocked : ◌≡◌ {A = ℕ → Bool} s.blocked (λ page. false)
  unfolding pager.fresh
  fresh_blocked = ap (λ (z : Paging). z.blocked) is

  pub fresh_begun : (steps : ℕ) (place : Place) → record { place = place; steps = steps; parts = 0; turns = 0; residence = residence_of s; modified = λ page. is_listed page s.modified; evictions = []; blocked = s.blocked; reads = 0 } ≡ begun_at frames steps place
  fresh_begun steps place = λ i. record { place = place; steps = steps; parts = 0; turns = 0; residence = fresh_residence i; modified = fresh_modified i; evictions = []; blocked = fresh_blocked i; reads = 0 }

-- a machine of this processor and this memory is at its place
pub there : (m : Engine) (file : Option BlockFile) (core : Core) (term : Term) (latch : Option Open) (memory : List Area) (output : List ℕ) → m.cpu.core ≡ core → m.cpu.term ≡ term → m.cpu.latch ≡ latch → m.ended ≡ None → StandsWith (pages m.pager) file memory → Means m file (resumed_at (left_at core memory term output) latch)
there m file core term None memory output k t l going st = record {
  processor = subst (λ (how : Option Ending). IsThere m.cpu how (resumed_at (left_at core memory term output) None)) (sym going) (record { open_one = l; machine = λ i. left_at (k i) memory (t i) output });
  memory = st;
}
there m file core term (Some latched) memory output k t l going st = record {
  processor = subst (λ (how : Option Ending). IsThere m.cpu how (resumed_at (left_at core memory term output) (Some latched))) (sym going) (record { open_one = l; machine = λ i. left_at (k i) memory (t i) output });
  memory = st;
}

-- a console of which nothing was taken is that of the start
pub started : (core : Core) (memory : List Area) (term : Term) (input : List ℕ) → term.input.items ≡ input → term.place ≡ 0 → left_at core memory term [] ≡ starts_at core memory input
started core memory term input a b i = record { core = core; memory = memory; input = a i; taken = b i; output = []; ending = None }

pub ok_so : {X E : Type 0} (P Q : X → Type 0) (r : Result X E) → IfOk r P → ((x : X) → P x → Q x) → IfOk r Q
ok_so P Q (Ok x) h f = f x h
ok_so P Q (Err e) h f = tt
