use Rattle.std.proofs.Common.{◌≡◌, ◌++◌, drop}
use Rattle.std.specs.List.{flat_map}
use Rattle.vax_asm_errors.specs.Remarks.{remark}
use Rattle.vax_prelude.specs.View.{title_seen}
use Rattle.vax_asm_errors.proofs.remarks.push_all.Given as goal

abbrev pub invariant-loop-one : goal.invariant-loop-one
invariant-loop-one l =
    l.out.items ++ flat_map (remark (title_seen l.source.title) l.source.text.now l.asked) (drop l.one-index l.all) ≡ l.fn.out.items ++ flat_map (remark (title_seen l.source.title) l.source.text.now l.asked) l.all
