-- A walk by single steps is one by the statements that they open.
use Rattle.std.proofs.Common.{◌≡◌, ℕ, zero, suc, List, [], Option, None, refl}
use Rattle.vax_dialect.specs.declared.Dialect.{Dialect}
use Rattle.vax_macro.specs.Expansion.{Stepped, Steps, Says, Faults, Ends, behind as opens_behind, opened, step}
use Rattle.vax_macro.specs.Rest.{Rest, started, work}
use Rattle.vax_asm_second.specs.declared.types.Fault.{Fault}
use Rattle.vax_asm_first.specs.Fixups.{Assignment}
use Rattle.vax_asm_first.specs.Standing.{Standing, at_start}
use Rattle.vax_asm.specs.Walk.{Assembly, assembled, names_in, onward, resumed, walked}

by_step : (left : ℕ) (a : Assembly) (met : Option Fault) (p : Stepped)
    → ((rest : Rest) → walked left rest a met ≡ resumed (opened left (names_in a.standing) rest) a met)
    → onward p a met (walked left) ≡ resumed (opens_behind left p (λ after. opened left (names_in a.standing) after)) a met
by_step left a met (Steps rest) h = h rest
by_step left a met (Says st rest) h = refl
by_step left a met (Faults line place kind) h = refl
by_step left a met (Ends begin) h = refl

pub walked_opened : (left : ℕ) (rest : Rest) (a : Assembly) (met : Option Fault) → walked left rest a met ≡ resumed (opened left (names_in a.standing) rest) a met
unfolding walked opened
walked_opened zero rest a met = refl
walked_opened (suc left) rest a met = by_step left a met (step (names_in a.standing) rest) (λ r. walked_opened left r a met)

-- how a walk begins
pub started_walk : (dialect : Dialect) (source : List ℕ) (rest : Rest) (s : Standing) (assignments : List Assignment) → rest ≡ started dialect source → s ≡ at_start dialect → assignments ≡ []
    → walked (suc (work rest)) rest (record { standing = s; assignments = assignments }) None ≡ assembled dialect source
unfolding assembled
started_walk dialect source rest s assignments e f g = rw (e, f, g) refl
