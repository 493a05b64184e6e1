-- What may stand in a section to be filled in later.
use Rattle.std.proofs.Common.{◌≡◌, ℕ, ap, true, inl, inr}
use Rattle.std.proofs.Props.{props}
use Rattle.std.specs.Prelude.{◌⊎◌}
use Rattle.vax_asm_encode.specs.Operands.{may_stand}
use Rattle.vax_isa.specs.Rows.{IsWidth, IsBranchWidth, IsKind}
use Rattle.vax_isa.specs.declared.OperandKind.{OperandKind}
use Rattle.vax_asm_first.specs.declared.types.Content.{Content}
use Rattle.vax_asm_first.specs.declared.types.Content.TheVariants.{Data, Operand}

-- an operand where the grammar of operands reads it back
abbrev pub IsSound : Content → Type 0
IsSound (Data kind count) = Unit {0}
IsSound (Operand kind operand) = IsKind kind × (may_stand kind operand ≡ true)

-- that is a fact
sum_prop : {A B : Type 0} → IsProp A → IsProp B → (A → B → ⊥) → IsProp (A ⊎ B)
sum_prop p q apart (inl a) (inl b) = ap (λ x. inl x) (p a b)
sum_prop p q apart (inl a) (inr b) = absurd (apart a b)
sum_prop p q apart (inr a) (inl b) = absurd (apart b a)
sum_prop p q apart (inr a) (inr b) = ap (λ x. inr x) (q a b)

branch_width_prop : (w : ℕ) → IsProp (IsBranchWidth w)
branch_width_prop w = sum_prop (Prim.hlevel props) (Prim.hlevel props) (λ a b. cc)

eight_prop : (w : ℕ) → IsProp ((w ≡ 4) ⊎ (w ≡ 8))
eight_prop w = sum_prop (Prim.hlevel props) (Prim.hlevel props) (λ a b. cc)

not_two : (w : ℕ) → w ≡ 2 → (w ≡ 4) ⊎ (w ≡ 8) → ⊥
not_two w two (inl four) = cc
not_two w two (inr eight) = cc

not_one : (w : ℕ) → w ≡ 1 → (w ≡ 2) ⊎ ((w ≡ 4) ⊎ (w ≡ 8)) → ⊥
not_one w one (inl two) = cc
not_one w one (inr (inl four)) = cc
not_one w one (inr (inr eight)) = cc

width_prop : (w : ℕ) → IsProp (IsWidth w)
width_prop w = sum_prop (Prim.hlevel props) (sum_prop (Prim.hlevel props) (eight_prop w) (not_two w)) (not_one w)

kind_prop : (kind : OperandKind) → IsProp (IsKind kind)
kind_prop kind = Prim.hlevel (props, width_prop, branch_width_prop)

pub sound_prop : (c : Content) → IsProp (IsSound c)
sound_prop (Data kind count) = Prim.hlevel props
sound_prop (Operand kind operand) = Prim.hlevel (props, kind_prop)
