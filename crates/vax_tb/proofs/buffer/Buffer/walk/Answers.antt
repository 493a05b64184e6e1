use Rattle.std.proofs.Common.{sym, ◌∙◌}
use Rattle.vax_tb.specs.Meaning.{buffered}
use Rattle.vax_tb.proofs.Places.{there_filled, set_here, sound_here, agrees_now, counts_hit, counts_miss}
use Rattle.vax_tb.proofs.buffer.Buffer.walk.Goals as goal

pub returns-in-Some-clause-value : goal.returns-in-Some-clause-value
returns-in-Some-clause-value c = sym (c.requires.agrees.holds _ _ (sym c.find.ensures ∙ c.in-Some.is))

pub returns-in-Some-clause-entries : goal.returns-in-Some-clause-entries
returns-in-Some-clause-entries c = there_filled _ _ _ _ c.find.ensures c.in-Some.is

pub returns-in-Some-clause-hits : goal.returns-in-Some-clause-hits
returns-in-Some-clause-hits c = counts_hit (buffered c.args.self.now) _ _ _ _ _ c.find.ensures c.in-Some.is c.saturating_add-self.ensures

pub returns-clause-agrees : goal.returns-clause-agrees
returns-clause-agrees c = agrees_now _ _ _ _ _ (set_here _ _ _ _ _ c.args.self.now.sound c.place_of.ensures c.entry_of.ensures.page c.entry_of.ensures.told) c.walk-walk.ensures.value c.requires.agrees

pub returns-clause-entries : goal.returns-clause-entries
returns-clause-entries c = set_here _ _ _ _ _ c.args.self.now.sound c.place_of.ensures c.entry_of.ensures.page c.entry_of.ensures.told

pub invariant_of-self-2 : goal.invariant_of-self-2
invariant_of-self-2 c = record { sound = sound_here _ _ _ _ c.place_of.ensures c.entry_of.ensures.rights c.args.self.now.sound }

pub returns-clause-hits : goal.returns-clause-hits
returns-clause-hits c = counts_miss (buffered c.args.self.now) _ _ _ c.find.ensures c.in_default.is
