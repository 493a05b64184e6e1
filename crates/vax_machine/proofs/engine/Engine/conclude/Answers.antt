use Rattle.std.proofs.Common.{refl}
use Rattle.vax_machine.proofs.Attempts.{sound_eased, sound_settled}
use Rattle.vax_machine.proofs.engine.Engine.conclude.Goals as goal

pub returns-in-Step-clause-sound : goal.returns-in-Step-clause-sound
returns-in-Step-clause-sound c = record { pages = sound_settled _ _ _ c.settle.ensures c.requires.sound.pages; unsent = c.requires.sound.unsent }

pub returns-in-Step-clause-concludes : goal.returns-in-Step-clause-concludes
returns-in-Step-clause-concludes c = rw c.in-Step.is (record { answer = refl; cpu = refl; pages = c.settle.ensures; steps = c.raised-self-in-Step.ensures; turns = c.raised-self.ensures; wanted = refl; ended = refl })

pub returns-in-Part-clause-sound : goal.returns-in-Part-clause-sound
returns-in-Part-clause-sound c = record { pages = sound_settled _ _ _ c.settle-in-Part.ensures c.requires.sound.pages; unsent = c.requires.sound.unsent }

pub returns-in-Part-clause-concludes : goal.returns-in-Part-clause-concludes
returns-in-Part-clause-concludes c = rw c.in-Part.is (record { answer = refl; cpu = refl; pages = c.settle-in-Part.ensures; steps = refl; turns = c.raised-self.ensures; wanted = refl; ended = refl })

pub returns-in-Absent-clause-sound : goal.returns-in-Absent-clause-sound
returns-in-Absent-clause-sound c = record { pages = sound_eased _ _ _ _ c.ease.ensures (rw c.in-Absent.is at c.requires.missing) c.requires.sound.pages; unsent = c.requires.sound.unsent }

pub returns-in-Absent-clause-concludes : goal.returns-in-Absent-clause-concludes
returns-in-Absent-clause-concludes c = rw c.in-Absent.is (record { answer = refl; cpu = refl; pages = c.ease.ensures; steps = refl; turns = c.raised-self.ensures; wanted = refl; ended = refl })

pub returns-in-Ended-clause-sound : goal.returns-in-Ended-clause-sound
returns-in-Ended-clause-sound c = record { pages = sound_settled _ _ _ c.settle-in-Ended.ensures c.requires.sound.pages; unsent = c.requires.sound.unsent }

pub returns-in-Ended-clause-concludes : goal.returns-in-Ended-clause-concludes
returns-in-Ended-clause-concludes c = rw c.in-Ended.is (record { answer = refl; cpu = refl; pages = c.settle-in-Ended.ensures; steps = c.raised-self-in-Ended.ensures; turns = c.raised-self.ensures; wanted = refl; ended = refl })
