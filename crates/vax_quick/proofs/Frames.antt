-- Longwords that are pushed within a page that may be written.
use Rattle.std.proofs.Common.{◌≡◌, ℕ, ◌+◌, ◌-◌, ◌*◌, ◌/◌, ◌%◌, ◌^◌, ◌<◌, ◌≤◌, true, Some, None, Ok, Err, Option, sym, ap, subst, ◌∙◌, refl, arith}
use Rattle.vax_space.specs.declared.Access.TheVariants.{Write}
use Rattle.vax_space.specs.Reference.{page_of, byte_after, may_access}
use Rattle.vax_space.proofs.References.{none_is_accessible}
use Rattle.vax_word.specs.declared.Core.{Core}
use Rattle.vax_word.specs.Status.{mode_of}
use Rattle.vax_flat.specs.declared.Stop.{Stop}
use Rattle.vax_flat.specs.Operand.{plus}
use Rattle.vax_flat.specs.Port.{View, loaded_by, stop, stored, with_number}
use Rattle.vax_flat.proofs.Standing.{present_first}
use Rattle.vax_flat.specs.Memory.{number}
use Rattle.vax_undo.specs.Answers.{replaced}
use Rattle.vax_undo.proofs.Ranges.{resident_here}
use Rattle.vax_undo.proofs.Undo.{is_free, not_stopped}
use Rattle.vax_flat.specs.State.{State}
use Rattle.vax_flat.specs.Accesses.{Accesses, Leaf}
use Rattle.vax_flat.specs.OverPort.{over_port}
use Rattle.vax_quick.specs.Made.{Computer, Reads, at_console}
use Rattle.vax_quick.specs.Frames.{Finds, HasRoom, IsWritten, MayWrite}
use Rattle.vax_quick.proofs.Windows.{done_by}

-- a write that was answered
pub written : (before after : View) (core : Core) (addr n m x y : ℕ) → m ≡ mode_of core.psl → Ok y ≡ replaced before addr n m → after ≡ stored before addr n x m → IsWritten before core addr n x after
written before after core addr n m x y is answer kept =
    let done = done_by (stop before addr n m Write) before (with_number before addr n x) after (number before.byte addr n) y answer kept in
    record {
      free = subst (λ k. None ≡ stop before addr n k Write) is done.0;
      now = done.1;
    }

answered_by : (st : Option Stop) (value : ℕ) (e : Stop) → Err e ≡ loaded_by st value → None ≡ st → ⊥
answered_by None value e h k = let z : ⊥ = cc in z
answered_by (Some s) value e h k = let z : ⊥ = cc in z

-- a write that was refused is one that something stops
pub refused : (before : View) (core : Core) (addr n m : ℕ) (e : Stop) → m ≡ mode_of core.psl → Err e ≡ replaced before addr n m → MayWrite before core addr n → ⊥
refused before core addr n m e is answer free =
    answered_by (stop before addr n m Write) (number before.byte addr n) e answer (subst (λ k. None ≡ stop before addr n k Write) (sym is) free)

-- the longword just below an address may be written where there is room for one
pub may_push : (view : View) (core : Core) (top : ℕ) → HasRoom view core top 1 → MayWrite view core (plus top (2 ^ 32 - 4)) 4
may_push view core top room =
    let at = plus top (2 ^ 32 - 4) in
    let mode = mode_of core.psl in
    let low = room.small in
    let enough = room.enough in
    let small : at < 2 ^ 32 = omega arith in
    let within : at % 512 + 4 ≤ 512 = omega arith in
    let same : page_of at ≡ page_of top = omega arith in
    not_stopped view at 4 mode
    ((none_is_accessible view.areas at 4 mode Write small).1 (record {
      bytes = λ k below.
          let e : page_of (byte_after at k) ≡ page_of top = omega arith in
          ap (λ page. may_access view.areas page mode Write) e ∙ room.allowed;
    }))
    (resident_here view.resident at 4 small within (ap view.resident same ∙ room.resident))

-- the room that is left below a longword that was pushed
pub room_left : (old new : View) (core : Core) (top x count : ℕ) → new ≡ with_number old (plus top (2 ^ 32 - 4)) 4 x → HasRoom old core top (count + 1) → HasRoom new core (plus top (2 ^ 32 - 4)) count
room_left old new core top x count is room =
    let at = plus top (2 ^ 32 - 4) in
    let low = room.small in
    let enough = room.enough in
    let same : page_of at ≡ page_of top = omega arith in
    subst (λ (v : View). HasRoom v core at count) (sym is) (record {
      small = omega arith;
      enough = omega arith;
      resident = ap old.resident same ∙ room.resident;
      allowed = ap (λ page. may_access old.areas page (mode_of core.psl) Write) same ∙ room.allowed;
    })

-- the room below the first longword of a frame that could be pushed
pub room_found : (old new : View) (core : Core) (top x : ℕ) → top < 2 ^ 32 → 72 ≤ plus top (2 ^ 32 - 4) % 512 → IsWritten old core (plus top (2 ^ 32 - 4)) 4 x new → HasRoom new core (plus top (2 ^ 32 - 4)) 18
room_found old new core top x low enough done =
    let at = plus top (2 ^ 32 - 4) in
    let mode = mode_of core.psl in
    let small : at < 2 ^ 32 = omega arith in
    let first : byte_after at 0 ≡ at = omega arith in
    let none : 0 < 4 = omega arith in
    let free = is_free old at 4 mode done.free in
    subst (λ (v : View). HasRoom v core at 18) (sym done.now) (record {
      small = small;
      enough = omega arith;
      resident = (present_first old.resident at 3 free.1).0;
      allowed = subst (λ a. may_access old.areas (page_of a) mode Write ≡ true) first (((none_is_accessible old.areas at 4 mode Write small).0 free.0).bytes 0 none);
    })

-- the room below the multiple of 4 at or below an address
pub room_aligned : (view : View) (core : Core) (top : ℕ) → HasRoom view core top 18 → HasRoom view core (top / 4 * 4) 17
room_aligned view core top room =
    let low = room.small in
    let enough = room.enough in
    let same : page_of (top / 4 * 4) ≡ page_of top = omega arith in
    record {
      small = omega arith;
      enough = omega arith;
      resident = ap view.resident same ∙ room.resident;
      allowed = ap (λ page. may_access view.areas page (mode_of core.psl) Write) same ∙ room.allowed;
    }

-- room for fewer
pub room_fewer : (view : View) (core : Core) (top few many : ℕ) → few ≤ many → HasRoom view core top many → HasRoom view core top few
room_fewer view core top few many less room =
    let enough = room.enough in
    record {
      small = room.small;
      enough = omega arith;
      resident = room.resident;
      allowed = room.allowed;
    }

-- calls that read at most, one after the other
pub reads_none : {P : Type 0} (view : P → View) (along : P → P → Type 0) (core : Core) (port : P) → Reads view along core port core port
reads_none view along core port = record { same = refl; psl = refl; timer = refl; requests = refl; clock = refl; since = λ start h. h }

pub reads_more : {P : Type 0} (view : P → View) (along : P → P → Type 0) (a : Core) (x : P) (b : Core) (y : P) (c : Core) (z : P) → Reads view along a x b y → Reads view along b y c z → Reads view along a x c z
reads_more view along a x b y c z k l = record {
  same = l.same ∙ k.same;
  psl = l.psl ∙ k.psl;
  timer = l.timer ∙ k.timer;
  requests = l.requests ∙ k.requests;
  clock = l.clock ∙ k.clock;
  since = λ start h. l.since start (k.since start h);
}

-- a call that follows one of two trees that come to the same follows the other
pub finds_by : {X : Type 0} (a b : State → (X → State → Accesses Leaf) → Accesses Leaf) (r : Option X) (old new : Computer) → ((s : State) (next : X → State → Accesses Leaf) → a s next ≡ b s next) → Finds b r old new → Finds a r old new
finds_by a b None old new same finds = tt
finds_by a b (Some found) old new same finds = λ input taken sent next.
    ap (λ tree. over_port tree old.view) (same (at_console old.core input taken sent) next) ∙ finds input taken sent next
