use Rattle.std.proofs.Common.{[], Some, ap, refl, subst}
use Rattle.vax_flat.specs.Parts.{At}
use Rattle.vax_flat.specs.Start.{start_memory}
use Rattle.vax_flat.specs.Step.{Flat}
use Rattle.vax_machine.specs.Machine.{Means}
use Rattle.vax_machine.specs.Meaning.{engine, starts_at}
use Rattle.vax_machine.proofs.Beginning.{ok_so, started}
use Rattle.vax_machine.proofs.machine.Machine.new.Goals as goal

pub returns-clause-start : goal.returns-clause-start
returns-clause-start c =
    ok_so _ _ c.again.result c.again.ensures.stands λ m h file.
    subst (λ (z : Flat). Means (engine m) (Some file) (At z)) (started c.args.core (start_memory c.args.space) c.new.result c.args.input.items (ap (λ v. v.items) c.new.ensures.input) c.new.ensures.place) (h file [])

pub returns-clause-begun : goal.returns-clause-begun
returns-clause-begun c = ok_so _ _ c.again.result c.again.ensures.begun λ m h. h (At (starts_at c.args.core (start_memory c.args.space) c.args.input.items))

pub returns-clause-follows : goal.returns-clause-follows
returns-clause-follows c =
    ok_so _ _ c.again.result c.again.ensures.follows λ m h file.
    h file [] (starts_at c.args.core (start_memory c.args.space) c.args.input.items) (started c.args.core (start_memory c.args.space) c.new.result c.args.input.items (ap (λ v. v.items) c.new.ensures.input) c.new.ensures.place)

pub returns-clause-between : goal.returns-clause-between
returns-clause-between c = ok_so _ _ c.again.result c.again.ensures.between λ m h. h refl
