-- Names that expansions may make.
use Rattle.std.proofs.Common.{◌≡◌, ◌<◌, ◌+◌, ℕ, suc, Bool, true, false, [], length, take, drop, Option, sym, ap, ◌∙◌, arith}
use Rattle.std.proofs.Math.Seq.{drop-cons, take-suc}
use Rattle.std.specs.Prelude.{◌&&◌, ◌||◌, is_some}
use Rattle.vax_asm_causes.proofs.Counting as counting
use Rattle.vax_asm_causes.specs.Counts.{never, with_names}
use Rattle.vax_asm_causes.specs.Remarks.{has_end, has_front, has_maker, may_be_made, names_in, stands}
use Rattle.vax_asm_causes.specs.declared.counts.Often.{Often}
use Rattle.vax_asm_causes.specs.declared.made.Maker.TheVariants.{Joint, Split}
use Rattle.vax_dialect.specs.declared.Dialect.{Dialect}
use Rattle.vax_lines.specs.Lines.{Text}

-- ---- fronts

-- one front, and the longer ones
front_on : (test : Text → Bool) (name : Text) (i : ℕ) → i < length name
    → has_front test (take i name) (drop i name) ≡ (test (take i name) || has_front test (take (i + 1) name) (drop (i + 1) name))
unfolding has_front
front_on test name i lt =
    let on : suc i ≡ i + 1 = omega arith in
    ap (has_front test (take i name)) (drop-cons name i 0 lt)
    ∙ ap (λ (front : Text). test (take i name) || has_front test front (drop (suc i) name)) (sym (take-suc name i 0 lt))
    ∙ ap (λ (k : ℕ). test (take i name) || has_front test (take k name) (drop k name)) on

-- one that doesn't pass
pub front_passed : (test : Text → Bool) (name : Text) (i : ℕ) (found : Bool) → i < length name → test (take i name) ≡ false
    → has_front test (take i name) (drop i name) ≡ found → has_front test (take (i + 1) name) (drop (i + 1) name) ≡ found
front_passed test name i found lt fails e =
    ap (λ (b : Bool). b || has_front test (take (i + 1) name) (drop (i + 1) name)) (sym fails) ∙ sym (front_on test name i lt) ∙ e

-- one that does
pub front_found : (test : Text → Bool) (name : Text) (i : ℕ) (found : Bool) → i < length name → test (take i name) ≡ true
    → has_front test (take i name) (drop i name) ≡ found → true ≡ found
front_found test name i found lt passes e =
    ap (λ (b : Bool). b || has_front test (take (i + 1) name) (drop (i + 1) name)) (sym passes) ∙ sym (front_on test name i lt) ∙ e

-- ---- joined names

pub joined : (dialect : Dialect) (source name : Text) (often : Text → Option Often) (front end : Bool) → often ≡ with_names (names_in dialect source) never
    → has_maker dialect Split source ≡ false → has_maker dialect Joint source ≡ true
    → front ≡ has_front (λ (t : Text). is_some (often t)) [] name → end ≡ has_end (λ (t : Text). is_some (often t)) name
    → (front && end) ≡ may_be_made dialect source name
joined dialect source name often front end counts split joint f e =
    let same = counting.stands dialect source often counts in
    ap (λ (b : Bool). b && end) (f ∙ ap (λ (test : Text → Bool). has_front test [] name) same)
    ∙ ap (λ (b : Bool). has_front (stands dialect source) [] name && b) (e ∙ ap (λ (test : Text → Bool). has_end test name) same)
    ∙ ap (λ (b : Bool). b && has_front (stands dialect source) [] name && has_end (stands dialect source) name) (sym joint)
    ∙ ap (λ (b : Bool). b || (has_maker dialect Joint source && has_front (stands dialect source) [] name && has_end (stands dialect source) name)) (sym split)
