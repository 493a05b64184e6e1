use Rattle.std.proofs.Common.{◌≡◌, ◌+◌, length, map}
use Rattle.std.specs.List.{All}
use Rattle.vax_program.specs.View.{parts_seen}
use Rattle.vax_top.specs.Together.{all_linked}
use Rattle.vax_together.specs.Starting.{IsUser}
use Rattle.vax_top.specs.TogetherView.{IsForUser}
use Rattle.vax_top.proofs.TogetherLaws.{ahead}
use Rattle.vax_top.proofs.together.link_all.Given as goal

-- the images so far
abbrev pub invariant-loop-parts : goal.invariant-loop-parts
invariant-loop-parts l = record {
  images : ahead l.all.items (all_linked (map parts_seen l.left.items)) ≡ all_linked (map parts_seen l.fn.programs.items);
  left : All IsForUser l.left.items;
  sound : All IsUser l.all.items;
  count : length l.all.items + length l.left.items ≡ length l.fn.programs.items;
}

abbrev pub decreases-loop-parts : goal.decreases-loop-parts
decreases-loop-parts l = length l.left.items
