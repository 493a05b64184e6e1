use Rattle.std.proofs.Common.{◌≡◌, ◌∙◌, ℕ, List, ap, sym, subst, length}
use Rattle.std.specs.Global.{Vec}
use Rattle.vax_asm_values.specs.Marks.{without_last}
use Rattle.vax_asm_values.specs.View.{source_of, lists_in}
use Rattle.vax_asm_values.specs.Waiting.{Grown}
use Rattle.vax_asm_values.specs.declared.journal.Change.TheVariants.{Opened}
use Rattle.vax_asm_values.proofs.Marks.{noted, last_gone, last_seen}
use Rattle.vax_asm_values.proofs.Seen.{opened}
use Rattle.vax_asm_values.proofs.types.Board.open.Goals as goal

pub returns-clause-settled : goal.returns-clause-settled
returns-clause-settled c =
    rw c.in_ok-add_last.ensures (rw c.in_ok-add_last-2.ensures (rw c.in_ok-add_last-3.ensures
    (opened c.args.self.now.sources.items c.args.self.now.values.items c.args.self.now.waiting.items c.new.result c.new.ensures.items c.requires.settled)))

pub returns-clause-mark : goal.returns-clause-mark
returns-clause-mark c =
    let board = c.args.self.now in
    let G : List (List ℕ) → Type 0 = λ ws. Grown (lists_in board.waiting) ws in
    let waiting : without_last (lists_in c.add_last-3.new.list) ≡ lists_in board.waiting = last_seen (λ (w : Vec ℕ). w.items) board.waiting.items c.add_last-3.new.list.items _ c.in_ok-add_last-3.ensures in
    noted board _ Opened c.note.ensures (last_seen source_of board.sources.items c.add_last.new.list.items _ c.in_ok-add_last.ensures)
    (ap without_last c.in_ok-add_last-2.ensures ∙ last_gone board.values.items _)
    (subst G (sym waiting) (λ k j l. l)) (sym (ap length waiting))
