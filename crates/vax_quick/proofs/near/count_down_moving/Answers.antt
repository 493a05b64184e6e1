use Rattle.std.proofs.Common.{sym, subst}
use Rattle.vax_word.specs.declared.Core.{Core}
use Rattle.vax_quick.specs.Made.{IsMoved}
use Rattle.vax_quick.proofs.Stays.{moved_on}
use Rattle.vax_quick.proofs.near.count_down_moving.Goals as goal

pub returns-in_err-target-clause-moved : goal.returns-in_err-target-clause-moved
returns-in_err-target-clause-moved g c = λ none.
    moved_on c.args.core.now c.next_index.new.core c.near_target.new.core c.next_index.ensures.moved c.near_target.ensures.moved

pub returns-clause-moved : goal.returns-clause-moved
returns-clause-moved g c = λ none.
    let both = moved_on c.args.core.now c.next_index.new.core c.near_target.new.core c.next_index.ensures.moved c.near_target.ensures.moved in
    subst (λ (core : Core). IsMoved c.args.core.now core) (sym (c.go_on_near.ensures.none none)) both
