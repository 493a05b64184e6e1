-- A session that the limit of turns cut off has made fewer parts than all of its lines have.
use Rattle.std.proofs.Common.{◌≡◌, ◌<◌, ◌≤◌, ◌+◌, ◌-◌, ◌*◌, ◌^◌, ℕ, zero, suc, Bool, true, false, nat_le, List, [], ◌∷◌, ◌++◌, Option, Some, None, refl, sym, ap, subst, ◌∙◌, arith}
use Rattle.vax_outside.specs.Blocks.{BlockFile}
use Rattle.vax_flat.specs.declared.Ending.{Ending}
use Rattle.vax_flat.specs.Parts.{Partway, Place, At, Within, after_part, partway}
use Rattle.vax_flat.specs.Step.{Flat}
use Rattle.vax_sched.specs.declared.rule.Rule.{Rule}
use Rattle.vax_machine.specs.Machine.{residence}
use Rattle.vax_machine.specs.declared.engine.Engine.{Engine}
use Rattle.vax_script.specs.declared.request.Line.{Line}
use Rattle.vax_script.specs.declared.request.Line.TheVariants.{Blank, Request as Asks, Malformed}
use Rattle.vax_console.specs.Ends.{steps_in}
use Rattle.vax_console.specs.Parts.{HasParts, LeadsTo, LeftBefore, LinesHaveParts, SpendsInto, StepHasParts, StepsHaveParts}
use Rattle.vax_console.specs.Transcript.{Session, advanced, after_line, session_after}
use Rattle.vax_console.proofs.Advancing.{is_below}
use Rattle.vax_console.proofs.Running.{is_le}

-- the parts of a step

none_later : (m : Flat) (a k : ℕ) → partway a m ≡ None → partway (k + a) m ≡ None
unfolding partway
none_later m a zero e =
    let is : a ≡ zero + a = omega arith in
    subst (λ (n : ℕ). partway n m ≡ None) is e
none_later m a (suc k) e =
    let is : suc (k + a) ≡ suc k + a = omega arith in
    let next : partway (suc (k + a)) m ≡ None = ap after_part (none_later m a k e) in
    subst (λ (n : ℕ). partway n m ≡ None) is next

none_from : (m : Flat) (a b : ℕ) → a ≤ b → partway a m ≡ None → partway b m ≡ None
none_from m a b l e =
    let is : (b - a) + a ≡ b = omega (arith, l) in
    subst (λ (n : ℕ). partway n m ≡ None) is (none_later m a (b - a) e)

-- where more remains, the last part is still to come
some_before : (m : Flat) (p : Partway) (c last : ℕ) (b : Bool) → nat_le last c ≡ b → partway c m ≡ Some p → partway last m ≡ None → c < last
some_before m p c last true e some none =
    let bad : Some p ≡ None = sym some ∙ none_from m last c (is_le last c e) none in
    absurd (cc bad)
some_before m p c last false e some none = is_below last c e

begun_short : (m : Flat) (place : Place) (begun here : ℕ) → LeadsTo m place begun → HasParts m here → begun < here
begun_short m (At n) begun here l h = let c = h.counted in let z = l.1 in omega (arith, c, z)
begun_short m (Within p) begun here l h =
    let k = some_before m p l.0 h.last (nat_le h.last l.0) refl l.1 h.whole in
    let c = h.counted in
    let z = l.2 in
    omega (arith, k, c, z)

last_least : (m : Flat) (a b : ℕ) → partway a m ≡ None → LeftBefore b m → b ≤ a
last_least m a zero none l = omega arith
last_least m a (suc c) none l = let k = some_before m l.0 c a (nat_le a c) refl l.1 none in omega (arith, k)

step_once : (how : Option Ending) (m : Flat) (x y : ℕ) → StepHasParts how m x → StepHasParts how m y → x ≡ y
step_once (Some e) m x y h k = omega (arith, h, k)
step_once None m x y h k =
    let a = last_least m h.last k.last h.whole k.before in
    let b = last_least m k.last h.last k.whole h.before in
    let c = h.counted in
    let d = k.counted in
    omega (arith, a, b, c, d)

-- those of steps

steps_once : (count : ℕ) (s : Session) (x y : ℕ) → StepsHaveParts count s x → StepsHaveParts count s y → x ≡ y
unfolding StepsHaveParts
steps_once zero s x y h k = omega (arith, h, k)
steps_once (suc count) s x y h k =
    let a = steps_once count s h.0 k.0 h.2 k.2 in
    let b = step_once (advanced count s).machine.ending (advanced count s).machine h.1 k.1 h.3 k.3 in
    let c = h.4 in
    let d = k.4 in
    omega (arith, a, b, c, d)

-- what leads into a step, and all parts of the steps
record Leads (count : ℕ) (s : Session) (place : Place) (whole begun : ℕ) : Type 0 where
  pub have : StepsHaveParts count s whole
  pub going : (advanced count s).machine.ending ≡ None
  pub leads : LeadsTo (advanced count s).machine place begun

short_here : (n count : ℕ) (s : Session) (place : Place) (whole begun before here : ℕ) → n ≡ count → Leads count s place whole begun → StepsHaveParts n s before → StepHasParts (advanced n s).machine.ending (advanced n s).machine here → whole + begun < before + here
short_here n count s place whole begun before here e l have step =
    let h : StepsHaveParts count s before = subst (λ (k : ℕ). StepsHaveParts k s before) e have in
    let t : StepHasParts (advanced count s).machine.ending (advanced count s).machine here = subst (λ (k : ℕ). StepHasParts (advanced k s).machine.ending (advanced k s).machine here) e step in
    let u : StepHasParts None (advanced count s).machine here = subst (λ (z : Option Ending). StepHasParts z (advanced count s).machine here) l.going t in
    let a = steps_once count s whole before l.have h in
    let b = begun_short (advanced count s).machine place begun here l.leads u in
    omega (arith, a, b)

short_if : (n count : ℕ) (s : Session) (place : Place) (whole begun before here : ℕ) (b : Bool) → nat_le n count ≡ b → count < suc n → Leads count s place whole begun → StepsHaveParts n s before → StepHasParts (advanced n s).machine.ending (advanced n s).machine here → (count < n → whole + begun < before) → whole + begun < before + here
short_if n count s place whole begun before here true e low l have step f =
    let k = is_le n count e in
    let same : n ≡ count = omega (arith, k, low) in
    short_here n count s place whole begun before here same l have step
short_if n count s place whole begun before here false e low l have step f = let k = f (is_below n count e) in omega (arith, k)

steps_short : (n count : ℕ) (s : Session) (place : Place) (whole begun all : ℕ) → count < n → Leads count s place whole begun → StepsHaveParts n s all → whole + begun < all
unfolding StepsHaveParts
steps_short zero count s place whole begun all low l h = absurd (omega (arith, low))
steps_short (suc n) count s place whole begun all low l h =
    let k = short_if n count s place whole begun h.0 h.1 (nat_le n count) refl low l h.2 h.3 (λ below. steps_short n count s place whole begun h.0 below l h.2) in
    let e = h.4 in
    omega (arith, k, e)

-- those of lines

lines_once : (limit : ℕ) (s : Session) (lines : List Line) (x y : ℕ) → LinesHaveParts limit s lines x → LinesHaveParts limit s lines y → x ≡ y
unfolding LinesHaveParts
lines_once limit s [] x y h k = omega (arith, h, k)
lines_once limit s (l ∷ lines) x y h k =
    let a = steps_once (steps_in limit s (l ∷ [])) s h.0 k.0 h.2 k.2 in
    let b = lines_once limit (after_line limit s l) lines h.1 k.1 h.3 k.3 in
    let c = h.4 in
    let d = k.4 in
    omega (arith, a, b, c, d)

-- the parts of lines in front, and of the next one
record Apart (limit : ℕ) (s : Session) (front : List Line) (l : Line) (all : ℕ) : Type 0 where
  pub before : ℕ
  pub here : ℕ
  pub had : LinesHaveParts limit s front before
  pub have : StepsHaveParts (steps_in limit (session_after limit s front) (l ∷ [])) (session_after limit s front) here
  pub few : before + here ≤ all

apart : (limit : ℕ) (s : Session) (front : List Line) (l : Line) (back : List Line) (all : ℕ) → LinesHaveParts limit s (front ++ l ∷ back) all → Apart limit s front l all
unfolding LinesHaveParts session_after
apart limit s [] l back all h = record { before = 0; here = h.0; had = refl; have = h.2; few = let e = h.4 in omega (arith, e) }
apart limit s (k ∷ front) l back all h =
    let r = apart limit (after_line limit s k) front l back h.1 h.3 in
    record {
      before = h.0 + r.before;
      here = r.here;
      had = (h.0, r.before, h.2, r.had, refl);
      have = r.have;
      few = let e = h.4 in let f = r.few in omega (arith, e, f);
    }

first_steps : (limit : ℕ) (s : Session) (l : Line) (back : List Line) → steps_in limit s (l ∷ back) ≡ steps_in limit s (l ∷ [])
first_steps limit s Blank back = refl
first_steps limit s (Asks r) back = refl
first_steps limit s Malformed back = refl

lines_short : (limit : ℕ) (s : Session) (lines front back : List Line) (steps : ℕ) (place : Place) (before count whole begun all : ℕ) → lines ≡ front ++ back → LinesHaveParts limit s front before → count < steps_in limit (session_after limit s front) back → Leads count (session_after limit s front) place whole begun →
    LinesHaveParts limit s lines all → before + whole + begun < all
lines_short limit s lines front [] steps place before count whole begun all splits had low l h = absurd (omega (arith, low))
lines_short limit s lines front (line ∷ back) steps place before count whole begun all splits had low l h =
    let r = apart limit s front line back all (subst (λ (z : List Line). LinesHaveParts limit s z all) splits h) in
    let same = first_steps limit (session_after limit s front) line back in
    let k = steps_short (steps_in limit (session_after limit s front) (line ∷ [])) count (session_after limit s front) place whole begun r.here (omega (arith, low, same)) l r.have in
    let once = lines_once limit s front before r.before had r.had in
    let f = r.few in
    omega (arith, k, once, f)

-- fewer parts than all
pub not_all : (limit : ℕ) (rules : List Rule) (s : Session) (lines : List Line) (old new : Engine) (file : Option BlockFile) (all : ℕ) → (h : SpendsInto limit rules s lines old new file) → LinesHaveParts limit s lines all → h.some.parts < all
not_all limit rules s lines old new file all h have =
    let t = h.some.through in
    let k = lines_short limit s lines t.front t.back new.steps h.some.place t.before t.count t.whole t.begun all t.splits t.had h.below (record { have = t.have; going = h.going; leads = t.leads }) have in
    let e = t.all in
    omega (arith, k, e)

-- turns for all parts, one for each eviction of a pinned page, and those before the session, suffice
pub turns_short : (limit turns : ℕ) (rules : List Rule) (s : Session) (lines : List Line) (old new : Engine) (file : Option BlockFile) (all : ℕ) → SpendsInto limit rules s lines old new file → LinesHaveParts limit s lines all → turns ≤ new.turns → (residence new).spoiled < 2 ^ 64 - 1 →
    turns + (residence old).spoiled < 41 * all + (residence new).spoiled + old.turns
turns_short limit turns rules s lines old new file all h have reached low =
    let k = not_all limit rules s lines old new file all h have in
    let f = h.some.few.turns low in
    omega (arith, k, f, reached)
