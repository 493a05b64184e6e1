-- One symbol after the other.
use Rattle.std.proofs.Common.{◌≡◌, ◌<◌, ◌≤◌, ◌+◌, ℕ, suc, add-one, List, ◌∷◌, length, drop, get_or, Bool, true, false, if◌then◌else◌, Option, None, Some, sym, ap, ◌∙◌, drop-cons}
use Rattle.std.proofs.lemmas.List.{drop_all}
use Rattle.std.specs.Str.{bytes_eq}
use Rattle.vax_debug_names.specs.Names.{nearer, nearest_from, value_of}
use Rattle.vax_debug_names.specs.declared.Symbol.{Symbol}
use Rattle.vax_debug_names.specs.declared.Near.{Near}

here : (symbols : List Symbol) (i : ℕ) (s : Symbol) → i < length symbols → s ≡ get_or symbols i s → drop i symbols ≡ s ∷ drop (i + 1) symbols
here symbols i s h at = rw add-one (drop-cons symbols i s h ∙ ap (λ (x : Symbol). x ∷ drop (suc i) symbols) (sym at))

pub value_next : (symbols : List Symbol) (name : List ℕ) (i : ℕ) (s : Symbol) → i < length symbols → s ≡ get_or symbols i s →
    value_of (drop i symbols) name ≡ (if bytes_eq s.name name then Some s.value else value_of (drop (i + 1) symbols) name)
unfolding value_of
value_next symbols name i s h at = ap (λ (xs : List Symbol). value_of xs name) (here symbols i s h at)

pub value_last : (symbols : List Symbol) (name : List ℕ) (i : ℕ) → length symbols ≤ i → value_of (drop i symbols) name ≡ None
unfolding value_of
value_last symbols name i h = ap (λ (xs : List Symbol). value_of xs name) (drop_all i symbols h)

pub value_here : (symbols : List Symbol) (name : List ℕ) (i : ℕ) (s : Symbol) → i < length symbols → s ≡ get_or symbols i s → bytes_eq s.name name ≡ true →
    value_of (drop i symbols) name ≡ Some s.value
value_here symbols name i s h at is = value_next symbols name i s h at ∙ ap (λ (b : Bool). if b then Some s.value else value_of (drop (i + 1) symbols) name) is

pub value_not_here : (symbols : List Symbol) (name : List ℕ) (i : ℕ) (s : Symbol) → i < length symbols → s ≡ get_or symbols i s → bytes_eq s.name name ≡ false →
    value_of (drop i symbols) name ≡ value_of (drop (i + 1) symbols) name
value_not_here symbols name i s h at is = value_next symbols name i s h at ∙ ap (λ (b : Bool). if b then Some s.value else value_of (drop (i + 1) symbols) name) is

pub nearest_next : (symbols : List Symbol) (address i : ℕ) (found : Option Near) (s : Symbol) → i < length symbols → s ≡ get_or symbols i s →
    nearest_from i address found (drop i symbols) ≡ nearest_from (i + 1) address (nearer i address s found) (drop (i + 1) symbols)
unfolding nearest_from
nearest_next symbols address i found s h at = ap (nearest_from i address found) (here symbols i s h at)

pub nearest_last : (symbols : List Symbol) (address i : ℕ) (found : Option Near) → length symbols ≤ i → nearest_from i address found (drop i symbols) ≡ found
unfolding nearest_from
nearest_last symbols address i found h = ap (nearest_from i address found) (drop_all i symbols h)
