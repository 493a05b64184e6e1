use Rattle.std.proofs.Common.{All, take}
use Rattle.vax_module.specs.Formed.{IsFieldOf}
use Rattle.vax_link_tests.proofs.link.are_within.Given as goal

abbrev pub invariant-loop-field : goal.invariant-loop-field
invariant-loop-field l = All (IsFieldOf l.sections) (take l.field-index l.fields)
