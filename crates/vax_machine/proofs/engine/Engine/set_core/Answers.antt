use Rattle.std.proofs.Common.{None, ap, subst, sym}
use Rattle.vax_pager.specs.Meaning.{pages}
use Rattle.vax_pager.specs.Paging.{Paging, StandsWith}
use Rattle.vax_pager.proofs.Turned.{stands_settled}
use Rattle.vax_machine.proofs.Attempts.{areas_settled, residence_settled, settled_marks, sound_settled}
use Rattle.vax_machine.specs.Console.{with_core}
use Rattle.vax_machine.proofs.engine.Engine.set_core.Goals as goal

pub returns-clause-sound : goal.returns-clause-sound
returns-clause-sound c = record { pages = sound_settled _ _ _ c.settle.ensures c.requires.sound.pages; unsent = c.requires.sound.unsent }

pub returns-clause-keeps : goal.returns-clause-keeps
returns-clause-keeps c = λ i. record {
  areas = areas_settled (pages c.args.self.now.pager) (pages c.settle.new.self) c.settle.ensures i;
  steps = c.args.self.now.steps;
  turns = c.args.self.now.turns;
  residence = residence_settled (pages c.args.self.now.pager) (pages c.settle.new.self) c.settle.ensures i;
  wanted = None;
  ended = c.args.self.now.ended;
}

pub returns-clause-deposits : goal.returns-clause-deposits
returns-clause-deposits c = λ file m means. record {
  processor = record { open_one = c.requires.closed; machine = ap (with_core c.args.core) means.processor.machine };
  memory = subst (λ (z : Paging). StandsWith z file m.memory) (sym c.settle.ensures) (stands_settled (pages c.args.self.now.pager) file m.memory means.memory);
}

pub returns-clause-marks : goal.returns-clause-marks
returns-clause-marks c = settled_marks (pages c.args.self.now.pager) (pages c.settle.new.self) c.settle.ensures
