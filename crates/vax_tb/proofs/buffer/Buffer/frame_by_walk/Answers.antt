use Rattle.std.proofs.Common.{Some, refl, ap, sym, ◌∙◌}
use Rattle.vax_tb.proofs.Places.{agrees_now, away_none, once_walked, rights_resident, set_here, sound_here}
use Rattle.vax_tb.proofs.buffer.Buffer.frame_by_walk.Goals as goal

pub invariant_of-self : goal.invariant_of-self
invariant_of-self c = record { sound = sound_here _ _ _ _ c.place_of-place.ensures (rights_resident _ _ _ _ _ c.rights_at_once-rights.ensures) c.args.self.now.sound }

pub returns-clause-frame : goal.returns-clause-frame
returns-clause-frame c =
    once_walked c.args.page _ _ _ _ _ _ _ _ (sym c.walk.ensures.value ∙ c.in-Resident.is) c.requires.of_mode c.rights_at_once-rights.ensures c.permits.ensures c.if-not-permits.false

pub returns-clause-missed : goal.returns-clause-missed
returns-clause-missed c = λ there. sym (away_none _ _ _ c.place_of-place.ensures c.if-self-place.false)

pub returns-clause-entries : goal.returns-clause-entries
returns-clause-entries c =
    set_here _ _ _ _ _ c.args.self.now.sound c.place_of-place.ensures refl (ap (λ w. Some w) (sym c.in-Resident.is ∙ c.walk.ensures.value))

pub returns-clause-agrees : goal.returns-clause-agrees
returns-clause-agrees c = agrees_now _ _ _ _ _ (returns-clause-entries c) refl c.requires.agrees
