-- Names appear, one operand after another.
use Rattle.std.proofs.Common.{◌≡◌, ◌<◌, ◌+◌, ℕ, suc, add-one, List, [], ◌∷◌, length, map, drop, Option, Some, None, refl, sym, ap, ◌∙◌, drop-cons}
use Rattle.std.specs.Borrow.{Bor}
use Rattle.std.specs.Prelude.{slice_index_or}
use Rattle.vax_lex.specs.declared.token.Token.{Token}
use Rattle.vax_asm_names.specs.declared.types.Linkage.{Linkage}
use Rattle.vax_asm_labels.specs.Naming.{name_of, names_from, with_name}
use Rattle.vax_asm_scope.specs.Scope.{Scope, linked}

split_at : {X : Type 0} (now : X → List Token) (xs : List X) (i : ℕ) (x : X) → i < length xs → x ≡ slice_index_or xs i x → map now (drop i xs) ≡ now x ∷ map now (drop (i + 1) xs)
split_at {X} now xs i x h at =
    let split : drop i xs ≡ x ∷ drop (i + 1) xs = rw add-one (drop-cons xs i x h ∙ ap (λ (y : X). y ∷ drop (suc i) xs) (sym at)) in
    ap (map now) split

none_with : (linkage : Linkage) (o : Option (List ℕ)) → with_name linkage o None ≡ None
none_with linkage (Some name) = refl
none_with linkage None = refl

none_from : (linkage : Linkage) (line : List ℕ) (parts : List (List Token)) → names_from linkage line parts None ≡ None
none_from linkage line [] = refl
none_from linkage line (part ∷ parts) = ap (names_from linkage line parts) (none_with linkage (name_of line part)) ∙ none_from linkage line parts

pub name_step : {X : Type 0} (now : X → List Token) (linkage : Linkage) (line name : List ℕ) (before after : Scope) (all : Option Scope) (xs : List X) (i : ℕ) (x : X) → i < length xs → x ≡ slice_index_or xs i x
    → Some name ≡ name_of line (now x) → after ≡ linked linkage name before
    → names_from linkage line (map now (drop i xs)) (Some before) ≡ all
    → names_from linkage line (map now (drop (i + 1) xs)) (Some after) ≡ all
name_step now linkage line name before after all xs i x h at found is same =
    let rest = map now (drop (i + 1) xs) in
    ap (λ (s : Scope). names_from linkage line rest (Some s)) is
    ∙ ap (λ (o : Option (List ℕ)). names_from linkage line rest (with_name linkage o (Some before))) found
    ∙ ap (λ (l : List (List Token)). names_from linkage line l (Some before)) (sym (split_at now xs i x h at))
    ∙ same

pub no_name : (linkage : Linkage) (line : List ℕ) (before : Scope) (all : Option Scope) (xs : List (Bor (List Token))) (i : ℕ) (d : Bor (List Token)) → i < length xs
    → None ≡ name_of line (slice_index_or xs i d).now
    → names_from linkage line (map (λ s. s.now) (drop i xs)) (Some before) ≡ all
    → None ≡ all
no_name linkage line before all xs i d h none same =
    let now : Bor (List Token) → List Token = λ s. s.now in
    let rest = map now (drop (i + 1) xs) in
    let split : drop i xs ≡ slice_index_or xs i d ∷ drop (i + 1) xs = rw add-one (drop-cons xs i d h) in
    sym (none_from linkage line rest)
    ∙ ap (λ (o : Option (List ℕ)). names_from linkage line rest (with_name linkage o (Some before))) none
    ∙ ap (λ (l : List (List Token)). names_from linkage line l (Some before)) (sym (ap (map now) split))
    ∙ same
