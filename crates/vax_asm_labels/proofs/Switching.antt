-- Functions are switched, one operand after another.
use Rattle.std.proofs.Common.{◌≡◌, ◌<◌, ◌+◌, ℕ, add-one, Bool, false, List, [], ◌∷◌, length, map, drop, Result, Ok, Err, refl, sym, ap, ◌∙◌, drop-cons}
use Rattle.std.specs.Borrow.{Bor}
use Rattle.std.specs.Prelude.{◌==◌, slice_index_or}
use Rattle.vax_asm_data.specs.Data.{unless_none}
use Rattle.vax_lex.specs.declared.token.Token.{Token}
use Rattle.vax_macro.specs.declared.error.FaultKind.{FaultKind}
use Rattle.vax_asm_first.specs.Standing.{Standing}
use Rattle.vax_asm_labels.specs.Functions.{all_switched, function_at, switched}

abbrev now : Bor (List Token) → List Token
now s = s.now

split_at : (xs : List (Bor (List Token))) (i : ℕ) (d : Bor (List Token)) → i < length xs → map now (drop i xs) ≡ (slice_index_or xs i d).now ∷ map now (drop (i + 1) xs)
split_at xs i d h =
    let split : drop i xs ≡ slice_index_or xs i d ∷ drop (i + 1) xs = rw add-one (drop-cons xs i d h) in
    ap (map now) split

fault_stays : (on : Bool) (line : List ℕ) (parts : List (List Token)) (kind : FaultKind) → all_switched on line parts (Err kind) ≡ Err kind
fault_stays on line [] kind = refl
fault_stays on line (part ∷ parts) kind = fault_stays on line parts kind

one_more : (on : Bool) (line : List ℕ) (before : Standing) (r all : Result Standing FaultKind) (xs : List (Bor (List Token))) (i : ℕ) (d : Bor (List Token)) → i < length xs
    → switched on (function_at line (slice_index_or xs i d).now) before ≡ r
    → all_switched on line (map now (drop i xs)) (Ok before) ≡ all
    → all_switched on line (map now (drop (i + 1) xs)) r ≡ all
one_more on line before r all xs i d h is same =
    ap (all_switched on line (map now (drop (i + 1) xs))) (sym is)
    ∙ ap (λ (l : List (List Token)). all_switched on line l (Ok before)) (sym (split_at xs i d h))
    ∙ same

pub one_switched : (on : Bool) (line : List ℕ) (before after : Standing) (all : Result Standing FaultKind) (xs : List (Bor (List Token))) (i : ℕ) (d : Bor (List Token)) → i < length xs
    → switched on (function_at line (slice_index_or xs i d).now) before ≡ Ok after
    → all_switched on line (map now (drop i xs)) (Ok before) ≡ all
    → all_switched on line (map now (drop (i + 1) xs)) (Ok after) ≡ all
one_switched on line before after all xs i d h is same = one_more on line before (Ok after) all xs i d h is same

pub fault_switched : (on : Bool) (line : List ℕ) (before : Standing) (kind : FaultKind) (all : Result Standing FaultKind) (xs : List (Bor (List Token))) (i : ℕ) (d : Bor (List Token)) → i < length xs
    → switched on (function_at line (slice_index_or xs i d).now) before ≡ Err kind
    → all_switched on line (map now (drop i xs)) (Ok before) ≡ all
    → all ≡ Err kind
fault_switched on line before kind all xs i d h is same =
    sym (one_more on line before (Err kind) all xs i d h is same) ∙ fault_stays on line (map now (drop (i + 1) xs)) kind

pub some_operands : (tokens : List Token) (r s : Result Standing FaultKind) → (length tokens == 0) ≡ false → r ≡ s → unless_none tokens r ≡ s
some_operands [] r s h e = absurd cc
some_operands (t ∷ tokens) r s h e = e
