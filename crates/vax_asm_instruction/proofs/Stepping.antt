-- Operands are stated one behind another.
use Rattle.std.proofs.Common.{◌≡◌, ◌<◌, ◌+◌, ℕ, suc, List, ◌∷◌, length, map, drop, sym, ap, ◌∙◌, add-one, drop-cons, subst, Option}
use Rattle.std.proofs.lemmas.List.{get_or-map, length-map}
use Rattle.std.specs.Prelude.{All, slice_index_or}
use Rattle.vax_isa.specs.declared.OperandKind.{OperandKind}
use Rattle.vax_lex.specs.Tokens.{IsTokenOf}
use Rattle.vax_lex.specs.declared.token.Token.{Token}
use Rattle.vax_macro.specs.declared.error.FaultKind.{FaultKind}
use Rattle.vax_asm_first.specs.Faults.{lowest}
use Rattle.vax_asm_first.specs.Progress.{Progress, Site}
use Rattle.vax_asm_first.specs.Standing.{Standing}
use Rattle.vax_asm_instruction.specs.Stating.{Reached, behind, operand_stated, operands_stated}

cut : {X : Type 0} (xs : List X) (i : ℕ) (x : X) → i < length xs → x ≡ slice_index_or xs i x → drop i xs ≡ x ∷ drop (i + 1) xs
cut xs i x h at = rw (add-one, drop-cons xs i x h) (ap (λ y. y ∷ drop (suc i) xs) (sym at))

split_at : {X Y : Type 0} (seen : X → Y) (xs : List X) (i : ℕ) (x : X) → i < length xs → x ≡ slice_index_or xs i x → map seen (drop i xs) ≡ seen x ∷ map seen (drop (i + 1) xs)
split_at seen xs i x h at = ap (map seen) (cut xs i x h at)

pub operand_step : {X : Type 0} (now : X → List Token) (site : Site) (before one all : Reached) (xs : List X) (kinds : List OperandKind) (i : ℕ) (x : X) (kind : OperandKind) → i < length xs → x ≡ slice_index_or xs i x → i < length kinds → kind ≡ slice_index_or kinds i kind
    → one ≡ operand_stated site kind (now x) before.at before.progress.standing
    → operands_stated site (map now (drop i xs)) (drop i kinds) before ≡ all
    → operands_stated site (map now (drop (i + 1) xs)) (drop (i + 1) kinds) (behind before.progress.fault one) ≡ all
operand_step now site before one all xs kinds i x kind h at hk atk is same =
    let more = map now (drop (i + 1) xs) in
    let more_kinds = drop (i + 1) kinds in
    ap (λ (r : Reached). operands_stated site more more_kinds (behind before.progress.fault r)) is
    ∙ ap (λ (l : List (List Token)). operands_stated site l (kind ∷ more_kinds) before) (sym (split_at now xs i x h at))
    ∙ ap (λ (l : List OperandKind). operands_stated site (map now (drop i xs)) l before) (sym (cut kinds i kind hk atk))
    ∙ same

-- An operand is stated behind what stands before it.
abbrev left_with : Option FaultKind → Standing → Progress
left_with f s = record { fault = f; standing = s }

pub behind_front : (site : Site) (tokens : List Token) (is kind : OperandKind) (seen front one : Reached) (both : Option FaultKind) → seen ≡ front → kind ≡ is → one ≡ operand_stated site kind tokens seen.at seen.progress.standing
    → both ≡ lowest seen.progress.fault one.progress.fault
    → left_with both one.progress.standing ≡ (behind front.progress.fault (operand_stated site is tokens front.at front.progress.standing)).progress
behind_front site tokens is kind seen front one both same found made least =
    ap (λ (f : Option FaultKind). left_with f one.progress.standing) least
    ∙ ap (λ (r : Reached). (behind seen.progress.fault r).progress) made
    ∙ ap (λ (k : OperandKind). (behind seen.progress.fault (operand_stated site k tokens seen.at seen.progress.standing)).progress) found
    ∙ ap (λ (r : Reached). (behind r.progress.fault (operand_stated site is tokens r.at r.progress.standing)).progress) same

-- The operands are made of the tokens of the line.
pub all_within : {X : Type 0} (now : X → List Token) (line own : List ℕ) (found : List (List Token)) (xs : List X) → line ≡ own → map now xs ≡ found → All (All (IsTokenOf line)) found → All (λ x. All (IsTokenOf own) (now x)) xs
all_within now line own found xs same is all = λ k d h.
    let here : All (All (IsTokenOf own)) (map now xs) = subst (λ (l : List ℕ). All (All (IsTokenOf l)) (map now xs)) same (subst (λ (f : List (List Token)). All (All (IsTokenOf line)) f) (sym is) all) in
    subst (λ (t : List Token). All (IsTokenOf own) t) (get_or-map now xs k d (now d) h) (here k (now d) (rw (length-map xs now) h))
