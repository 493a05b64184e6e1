use Rattle.std.proofs.Common.{◌≡◌, ◌+◌, drop, length, map}
use Rattle.std.specs.List.{All}
use Rattle.vax_command.specs.ReadingView.{texts}
use Rattle.vax_program.specs.View.{parts_seen}
use Rattle.vax_top.specs.Together.{all_parts}
use Rattle.vax_top.specs.TogetherView.{IsForUser}
use Rattle.vax_top.proofs.TogetherLaws.{ahead}
use Rattle.vax_top.proofs.together.read_all.Given as goal

-- the parts so far
abbrev pub invariant-loop-place : goal.invariant-loop-place
invariant-loop-place l = record {
  parts : ahead (map parts_seen l.all.items) (all_parts l.dialect (l.place + 1) (texts (drop l.place l.texts))) ≡ all_parts l.dialect 1 (texts l.texts);
  sound : All IsForUser l.all.items;
  count : length l.all.items ≡ l.place;
}
