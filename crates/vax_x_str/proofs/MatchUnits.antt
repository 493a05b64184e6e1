-- A match unit by unit.
use Rattle.std.proofs.Common.{ℕ, zero, suc, ◌≡◌, ◌+◌, ◌-◌, ◌<◌, ◌≤◌, Bool, true, false, not, ◌&&◌, ◌==◌, nat_lt, if◌then◌else◌, Result, Ok, Err, refl, ap, ◌∙◌, arith}
use Rattle.std.specs.Prelude.{nat_le}
use Rattle.std.proofs.lemmas.Bool.Decides.{nat_tests}
use Rattle.vax_strpart.specs.declared.packing.Progress.{Progress}
use Rattle.vax_flat.specs.declared.Flow.{Flow}
use Rattle.vax_flat.specs.State.{State}
use Rattle.vax_flat.specs.Accesses.{Accesses, Leaf}
use Rattle.vax_flat.specs.Port.{View}
use Rattle.vax_flat.specs.StringMatch.{is_near, match_end, match_on, match_unit}
use Rattle.std.specs.Result.{IsErr}
use Rattle.vax_undo.specs.declared.txn.CutShort.{CutShort}
use Rattle.vax_undo.specs.declared.txn.Txn.{Txn as Transaction}
use Rattle.vax_undo.specs.Trail.{Trail, Landing, Breaks, lands_on}
use Rattle.vax_undo.specs.Transaction.{Keeps, told}

-- a unit remains, and lies in these pages
abbrev pub has_unit : ℕ → ℕ → Progress → Bool
has_unit first second p = nat_le p.len1 p.len2 && (not (p.done == p.len1) && is_near first second p)

by_tests : (short over near : Bool) (none all on rest : Accesses Leaf) → (not short && (not over && near)) ≡ true → (if short then none else if over then all else if near then on else rest) ≡ on
by_tests true over near none all on rest e = absurd (cc)
by_tests false true near none all on rest e = absurd (cc)
by_tests false false true none all on rest e = refl
by_tests false false false none all on rest e = absurd (cc)

by_end : (short over near : Bool) (none all on rest : Accesses Leaf) → (not short && (not over && near)) ≡ false → (if short then none else if over then all else if near then on else rest) ≡ (if short then none else if over then all else rest)
by_end true over near none all on rest e = refl
by_end false true near none all on rest e = refl
by_end false false true none all on rest e = absurd (cc)
by_end false false false none all on rest e = refl

tests_are : (first second : ℕ) (p : Progress) → (not (nat_lt p.len2 p.len1) && (not (p.done == p.len1) && is_near first second p)) ≡ has_unit first second p
tests_are first second p =
    let short : not (nat_lt p.len2 p.len1) ≡ nat_le p.len1 p.len2 = grind (arith, nat_tests) in
    ap (λ b. b && (not (p.done == p.len1) && is_near first second p)) short

one_more : (more units first second : ℕ) (p : Progress) (s : State) (next : Flow → State → Accesses Leaf) → has_unit first second p ≡ true → match_on (suc more) units first second p s next ≡ match_unit p s (λ p s. match_on more (units + 1) first second p s next)
unfolding match_on
one_more more units first second p s next e =
    by_tests (nat_lt p.len2 p.len1) (p.done == p.len1) (is_near first second p) _ _ _ _ (tests_are first second p ∙ e)

pub match_step : (units first second : ℕ) (p : Progress) (s : State) (next : Flow → State → Accesses Leaf) → units < 512 → has_unit first second p ≡ true → match_on (512 - units) units first second p s next ≡ match_unit p s (λ p s. match_on (512 - (units + 1)) (units + 1) first second p s next)
match_step units first second p s next few e =
    let n : 512 - units ≡ suc (512 - (units + 1)) = omega arith in
    ap (λ k. match_on k units first second p s next) n ∙ one_more (512 - (units + 1)) units first second p s next e

pub none_left : (units first second : ℕ) (p : Progress) (s : State) (next : Flow → State → Accesses Leaf) → 512 ≤ units → match_on (512 - units) units first second p s next ≡ match_end p units s next
unfolding match_on
none_left units first second p s next all =
    let z : 512 - units ≡ 0 = omega arith in
    ap (λ k. match_on k units first second p s next) z

ends : (more units first second : ℕ) (p : Progress) (s : State) (next : Flow → State → Accesses Leaf) → has_unit first second p ≡ false → match_on more units first second p s next ≡ match_end p units s next
unfolding match_on
ends zero units first second p s next e = refl
ends (suc more) units first second p s next e =
    by_end (nat_lt p.len2 p.len1) (p.done == p.len1) (is_near first second p) _ _ _ _ (tests_are first second p ∙ e)

pub none_near : (units first second : ℕ) (p : Progress) (s : State) (next : Flow → State → Accesses Leaf) → has_unit first second p ≡ false → match_on (512 - units) units first second p s next ≡ match_end p units s next
none_near units first second p s next e = ends (512 - units) units first second p s next e

pub stopped : {X P : Type 0} (t : Transaction P) (r : Result X CutShort) (marked : ℕ → Bool) (trail : Trail) (next : X → Landing Leaf) → IsErr r → lands_on (told t r) marked trail next ≡ Breaks t.why marked trail
stopped t (Ok x) marked trail next e = let no : false ≡ true = e in cc
stopped t (Err short) marked trail next e = refl

pub keeps_all : {P : Type 0} (view : P → View) (along : P → P → Type 0) (x : Transaction P) → Keeps view along 0 x x
keeps_all view along x = record {
  undone = refl;
  ready = λ r. r;
  room = omega arith;
  closed = omega arith;
  same = record { core = refl; term = refl; port = refl; input = refl; clock = λ h. h; since = λ start h. h };
}
