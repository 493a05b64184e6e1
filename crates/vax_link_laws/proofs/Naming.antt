-- What a global name stands for.
use Rattle.std.proofs.Common.{◌≡◌, ℕ, zero, suc, ◌+◌, ◌<◌, Bool, true, false, cond, List, [], ◌∷◌, ◌++◌, length, get_or, map, Option, Some, None, Ok, refl, sym, ap, subst, ◌∙◌, arith, inl, inr}
use Rattle.std.specs.Prelude.{All, ℤ, is_some}
use Rattle.std.specs.Str.{bytes_eq}
use Rattle.std.proofs.lemmas.Slice.Eq.{bytes_eq-Decides}
use Rattle.vax_image.specs.declared.Base.{Base}
use Rattle.vax_image.specs.declared.Image.{Image}
use Rattle.vax_lex.specs.declared.value.Value.TheVariants.{Section as InSection}
use Rattle.vax_link.proofs.NameLaws.{definition-append, entry}
use Rattle.vax_link.specs.Linked.{linked}
use Rattle.vax_link.specs.Names.{Entries, Name, chased, definition_of, duplicate, entries_from, entries_of, is_defined, low_longword, or_else, plus, repeated, second_transfer}
use Rattle.vax_link.specs.Values.{known_value, name_value, section_address}
use Rattle.vax_link_laws.proofs.Finding.{Has, has_left, has_right}
use Rattle.vax_link_laws.proofs.Laying.{is_linked}
use Rattle.vax_link_laws.proofs.Standing.{own_stands}
use Rattle.vax_link_laws.specs.Holding.{HasName, HasSection, Holds, IsOwn}
use Rattle.vax_module.specs.Formed.{Formed}
use Rattle.vax_module.specs.declared.Module.{Module}
use Rattle.vax_module.specs.declared.Section.{Section}
use Rattle.vax_module.specs.declared.Symbol.{Symbol}

-- ---- the names of modules

has_mapped : {X Y : Type 0} (f : X → Y) (xs : List X) (k : ℕ) (x : X) → k < length xs → get_or xs k x ≡ x → Has (map f xs) (f x)
has_mapped f [] k x less at = absurd (omega arith)
has_mapped f (y ∷ ys) zero x less at = inl (ap f at)
has_mapped f (y ∷ ys) (suc k) x less at = inr (has_mapped f ys k x (omega arith) at)

has_entry : (modules : List Module) (from owner home : ℕ) (g : Symbol) → HasName modules owner g → from + owner ≡ home → Has (entries_from from modules) (entry home g)
unfolding entries_from
has_entry [] from owner home g has at = absurd (let less = has.1 in omega arith)
has_entry (m ∷ modules) from zero home g has at =
    let here : from ≡ home = omega arith in
    subst (λ (h : ℕ). Has (entries_of from m.globals ++ entries_from (suc from) modules) (entry h g)) here
    (has_left (entries_of from m.globals) (entries_from (suc from) modules) (entry from g) (has_mapped (entry from) m.globals has.0 g has.1 has.2))
has_entry (m ∷ modules) from (suc owner) home g has at =
    has_right (entries_of from m.globals) (entries_from (suc from) modules) (entry home g) (has_entry modules (suc from) owner home g has (omega arith))

-- ---- names that are defined once

record IsOnce (before entries : Entries) (owner : ℕ) (g : Symbol) : Type 0 where
  new : is_defined g.name before ≡ false
  found : definition_of g.name entries ≡ Some (entry owner g).1

once_first : (b : Bool) (name : Name) (next : Option Name) → cond b (Some name) next ≡ None → (b ≡ false) × (next ≡ None)
once_first true name next none = absurd cc
once_first false name next none = (refl, none)

either_new : {X : Type 0} (o : Option X) (b : Bool) (d : X) → is_some (or_else o (cond b (Some d) None)) ≡ false → (is_some o ≡ false) × (b ≡ false)
either_new None true d e = absurd cc
either_new None false d e = (refl, refl)
either_new (Some x) b d e = absurd cc

first_same : {A B : Type 0} {p q : A × B} → p ≡ q → p.0 ≡ q.0
first_same e = ap (λ r. r.0) e

second_same : {A B : Type 0} {p q : A × B} → p ≡ q → p.1 ≡ q.1
second_same e = ap (λ r. r.1) e

once : (before entries : Entries) (owner : ℕ) (g : Symbol) → repeated before entries ≡ None → Has entries (entry owner g) → IsOnce before entries owner g
unfolding repeated
once before [] owner g none has = absurd has
once before (e ∷ es) owner g none (inl same) =
    let first = once_first (is_defined e.0 before) e.0 (repeated (before ++ e ∷ []) es) none in
    let named : e.0 ≡ g.name = first_same same in
    let equal : bytes_eq g.name e.0 ≡ true = (bytes_eq-Decides g.name e.0).1 (sym named) in
    record {
      new = ap (λ (n : Name). is_defined n before) (sym named) ∙ first.0;
      found = ap (λ b. cond b (Some e.1) (definition_of g.name es)) equal ∙ ap Some (second_same same);
    }
once before (e ∷ es) owner g none (inr has) =
    let first = once_first (is_defined e.0 before) e.0 (repeated (before ++ e ∷ []) es) none in
    let next = once (before ++ e ∷ []) es owner g first.1 has in
    let both = either_new (definition_of g.name before) (bytes_eq g.name e.0) e.1 (sym (ap is_some (definition-append g.name before (e ∷ []))) ∙ next.new) in
    record {
      new = both.0;
      found = ap (λ b. cond b (Some e.1) (definition_of g.name es)) both.1 ∙ next.found;
    }

single_names : (a b : Option Name) → or_else a b ≡ None → a ≡ None
single_names None b none = refl
single_names (Some n) b none = absurd cc

none_repeated : (modules : List Module) → duplicate modules ≡ None → repeated [] (entries_from 0 modules) ≡ None
unfolding duplicate
none_repeated modules single = single_names (repeated [] (entries_from 0 modules)) (second_transfer modules) single

-- ---- what they stand for

leads_to : (region : Base) (modules : List Module) (owner number : ℕ) (place : ℤ) (g : Symbol) → definition_of g.name (entries_from 0 modules) ≡ Some (entry owner g).1 → g.value ≡ InSection number place
    → name_value region modules g.name ≡ plus (known_value region modules owner (InSection number place)) 0
unfolding name_value chased
leads_to region modules owner number place g found value = rw (found, value) refl

pub name_stands : (region : Base) (modules : List Module) (image : Image) (owner number : ℕ) (place : ℤ) (g : Symbol) → linked region modules ≡ Ok image → HasName modules owner g → g.value ≡ InSection number place
    → name_value region modules g.name ≡ plus (section_address region modules owner number) (low_longword place)
name_stands region modules image owner number place g is has value =
    let l = is_linked region modules image is in
    let o = once [] (entries_from 0 modules) owner g (none_repeated modules l.single) (has_entry modules 0 owner owner g has (omega arith)) in
    let sum : plus (plus (section_address region modules owner number) (low_longword place)) 0 ≡ plus (section_address region modules owner number) (low_longword place) = omega arith in
    leads_to region modules owner number place g o.found value ∙ sum

pub name_leads : (region : Base) (modules : List Module) (image : Image) (owner number place : ℕ) (at : ℤ) (g : Symbol) (s : Section) → All Formed modules → linked region modules ≡ Ok image → HasName modules owner g → g.value ≡ InSection number at
    → low_longword at ≡ place → HasSection modules owner number s → place < length s.bytes → IsOwn modules owner number place → Holds image (name_value region modules g.name) (get_or s.bytes place 0)
name_leads region modules image owner number place at g s formed is has value low there less own =
    let stands = own_stands region modules image owner number place s formed is there less own in
    let below = stands.below in
    let sum : section_address region modules owner number + place ≡ name_value region modules g.name =
    sym (name_stands region modules image owner number at g is has value ∙ ap (plus (section_address region modules owner number)) low ∙ small (section_address region modules owner number) place below) in
    subst (λ (a : ℕ). Holds image a (get_or s.bytes place 0)) sum stands
  where
    small : (a b : ℕ) → a + b < 4294967296 → plus a b ≡ a + b
    small a b less = omega arith
