-- What is left as it was.
use Rattle.std.proofs.Common.{◌≡◌, Option, Some, None, sym, ap, ◌∙◌}
use Rattle.std.proofs.lemmas.List.{set-set, set-get_or}
use Rattle.std.specs.Prelude.{slice_set, slice_index}
use Rattle.vax_word.specs.declared.Core.{Core}
use Rattle.vax_flat.specs.Port.{View}
use Rattle.vax_quick.specs.Made.{Computer, IsMoved, Makes, MakesOrStays, Tree, computer, with_pc}

-- where the registers and what a port shows are as before, all is
pub all_same : {P : Type 0} (view : P → View) (old new : Core) (before after : P) → new ≡ old → view after ≡ view before → computer view new after ≡ computer view old before
all_same view old new before after core shown = λ k. record { core = core k; view = shown k }

-- an instruction that wasn't made, behind which the registers are put back
pub put_back : (tree : Tree) (made : Option (Unit {0})) (old mid : Computer) → made ≡ None → Makes tree made old mid → record { core = old.core; view = mid.view } ≡ old
put_back tree None old mid none same = λ k. record { core = old.core; view = same k }
put_back tree (Some done) old mid none same = absurd (let no : ⊥ = cc in no)

-- one that was made
pub made_stays : (tree : Tree) (made : Option (Unit {0})) (done : Unit {0}) (old new : Computer) → made ≡ Some done → Makes tree made old new → MakesOrStays tree (Some done) old new
made_stays tree None done old new some makes = absurd (let no : ⊥ = cc in no)
made_stays tree (Some one) done old new some makes = makes

-- PC moved twice has moved
pub moved_on : (old mid new : Core) → IsMoved old mid → IsMoved mid new → IsMoved old new
moved_on old mid new first second = (second.0, second.1 ∙ (ap (λ (c : Core). with_pc c second.0) first.1 ∙ ap (λ regs. record old { regs = regs }) (set-set old.regs 15 first.0 second.0)))

-- PC that is put back
pub pc_back : (old new : Core) → IsMoved old new → record new { regs = slice_set new.regs 15 (slice_index old.regs 15) } ≡ old
pc_back old new moved =
    ap (λ (c : Core). with_pc c (slice_index old.regs 15)) moved.1
    ∙ ap (λ regs. record old { regs = regs }) (set-set old.regs 15 moved.0 (slice_index old.regs 15) ∙ set-get_or old.regs 15 0)

-- PC that stays
pub not_moved : (core : Core) → IsMoved core core
not_moved core = (slice_index core.regs 15, ap (λ regs. record core { regs = regs }) (sym (set-get_or core.regs 15 0)))

-- what left all but PC as it was, behind which PC is put back
pub opcode_back : {P : Type 0} (view : P → View) (old mid new : Core) (before between after : P) → IsMoved old mid → view between ≡ view before → computer view new after ≡ computer view mid between →
    computer view (record new { regs = slice_set new.regs 15 (slice_index old.regs 15) }) after ≡ computer view old before
opcode_back view old mid new before between after moved shown stays =
    let core : new ≡ mid = ap (λ (p : Computer). p.core) stays in
    let back : record new { regs = slice_set new.regs 15 (slice_index old.regs 15) } ≡ old = ap (λ (c : Core). record c { regs = slice_set c.regs 15 (slice_index old.regs 15) }) core ∙ pc_back old mid moved in
    all_same view old (record new { regs = slice_set new.regs 15 (slice_index old.regs 15) }) before after back (ap (λ (p : Computer). p.view) stays ∙ shown)
