use Rattle.std.proofs.Common.{drop}
use Rattle.vax_asm_causes.specs.View.{asked_by}
use Rattle.vax_check.specs.Told.{AreRemarked}
use Rattle.vax_check.specs.View.{titles_of}
use Rattle.vax_lines.specs.Lines.{Text}
use Rattle.vax_prelude.specs.View.{preludes_seen}
use Rattle.vax_program.specs.View.{texts}
use Rattle.vax_check.proofs.remarks.push_each.Given as goal

abbrev pub invariant-loop-i : goal.invariant-loop-i
invariant-loop-i l = (after : Text) → AreRemarked l.files.dialect (asked_by l.wanted) (titles_of (preludes_seen l.files.preludes.now) (drop l.i l.files.names.now)) (texts (drop l.i l.files.texts.now)) l.out.items after → AreRemarked l.files.dialect (asked_by l.wanted) (titles_of (preludes_seen l.files.preludes.now) l.files.names.now) (texts l.files.texts.now) l.fn.out.items after
