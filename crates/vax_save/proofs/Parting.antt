-- A part of a state's bytes.
use Rattle.std.proofs.Common.{◌≡◌, ℕ, List, [], ◌∷◌, ◌++◌, map, Option, refl, ap, subst}
use Rattle.vax_outside.specs.Channels.{Byte, Channels, Grew, GrewByPrefix, SaveStep, only}
use Rattle.vax_outside.specs.declared.traits.Chan.TheVariants.{State}

abbrev first_of : List SaveStep → SaveStep → SaveStep
first_of [] other = other
first_of (step ∷ steps) other = step

abbrev others_of : List SaveStep → List SaveStep
others_of [] = []
others_of (step ∷ steps) = steps

-- steps that come first of those that write bytes
record AreBytes (steps : List SaveStep) (bytes : List ℕ) : Type 0 where
  part : List ℕ
  rest : List ℕ
  front : steps ≡ map Byte part
  splits : part ++ rest ≡ bytes

bytes_first : (xs ys : List SaveStep) (bytes : List ℕ) → xs ++ ys ≡ map Byte bytes → AreBytes xs bytes
bytes_first [] ys bytes e = record { part = []; rest = bytes; front = refl; splits = refl }
bytes_first (x ∷ xs) ys [] e = absurd (cc e)
bytes_first (x ∷ xs) ys (byte ∷ bytes) e =
    let one : x ≡ Byte byte = ap (λ (steps : List SaveStep). first_of steps x) e in
    let more : AreBytes xs bytes = bytes_first xs ys bytes (ap others_of e) in
    let front = more.front in
    let splits = more.splits in
    record { part = byte ∷ more.part; rest = more.rest; front = λ i. one i ∷ front i; splits = ap (λ (z : List ℕ). byte ∷ z) splits }

none_first : (xs ys : List ℕ) → xs ++ ys ≡ [] → xs ≡ []
none_first [] ys e = refl
none_first (x ∷ xs) ys e = absurd (cc e)

-- a prefix of the bytes was written, and nothing else
pub record HasPart (bytes : List ℕ) (old now : Option Channels) : Type 0 where
  pub part : List ℕ
  pub rest : List ℕ
  pub splits : part ++ rest ≡ bytes
  pub grew : Grew old now (only State part)

pub part_of : (old now : Option Channels) (bytes : List ℕ) → GrewByPrefix old now (only State bytes) → HasPart bytes old now
part_of old now bytes p =
    let out : p.prefix.out ≡ [] = none_first p.prefix.out p.rest.out (ap (λ (c : Channels). c.out) p.splits) in
    let report : p.prefix.report ≡ [] = none_first p.prefix.report p.rest.report (ap (λ (c : Channels). c.report) p.splits) in
    let recorded : p.prefix.recorded ≡ [] = none_first p.prefix.recorded p.rest.recorded (ap (λ (c : Channels). c.recorded) p.splits) in
    let saved : AreBytes p.prefix.saved bytes = bytes_first p.prefix.saved p.rest.saved bytes (ap (λ (c : Channels). c.saved) p.splits) in
    let steps = saved.front in
    let is : p.prefix ≡ only State saved.part = λ i. record { out = out i; report = report i; recorded = recorded i; saved = steps i } in
    record { part = saved.part; rest = saved.rest; splits = saved.splits; grew = subst (λ (c : Channels). Grew old now c) is p.grew }
