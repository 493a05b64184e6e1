-- A symbol, as it is found and shown.
use Rattle.std.proofs.Common.{◌≡◌, ℕ, List, [], ◌∷◌, ◌++◌, append_assoc, take, Option, Some, option_map, sym, ap, ◌∙◌}
use Rattle.std.specs.Borrow.{Bor}
use Rattle.std.specs.Slice.{IsGetResult}
use Rattle.std.specs.List.{slice_get}
use Rattle.vax_outside.proofs.BlockLaws.{item_at}
use Rattle.vax_debug_names.specs.declared.Near.{Near}
use Rattle.vax_debug_names.specs.declared.Symbol.{Symbol}
use Rattle.vax_debug_replies.specs.Places.{distance, name_of, near}

pub found_symbol : (symbols : List Symbol) (n : ℕ) (r : Option (Bor Symbol)) (x : Bor Symbol) → IsGetResult symbols n n r → r ≡ Some x → slice_get symbols n ≡ Some x.now
found_symbol symbols n r x h is = sym (item_at symbols n r h) ∙ ap (option_map (λ (z : Bor Symbol). z.now)) is

pub near_is : (symbols : List Symbol) (found : Option Near) (f : Near) (symbol : Symbol) → found ≡ Some f → slice_get symbols f.index ≡ Some symbol → near symbols found ≡ 32 ∷ (take 31 symbol.name ++ distance f.distance)
near_is symbols found f symbol e got = ap (near symbols) e ∙ ap (λ (z : Option Symbol). name_of z f.distance) got

-- a blank, a name and what stands behind it
pub three_pushed : (t a b name c behind : List ℕ) → a ≡ t ++ 32 ∷ [] → b ≡ a ++ name → c ≡ b ++ behind → c ≡ t ++ 32 ∷ (name ++ behind)
three_pushed t a b name c behind p q r =
    r ∙ (ap (λ (z : List ℕ). z ++ behind) (q ∙ ap (λ (z : List ℕ). z ++ name) p) ∙ (append_assoc (t ++ 32 ∷ []) name behind ∙ append_assoc t (32 ∷ []) (name ++ behind)))
