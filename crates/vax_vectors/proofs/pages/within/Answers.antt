use Rattle.std.proofs.Common.{rules, sym, ◌∙◌, refl, drop, length, ◌<◌, ◌≡◌, false, slice_index_or}
use Rattle.std.proofs.lemmas.Bool.{not-true}
use Rattle.vax_vectors.specs.Truth.{lies_in}
use Rattle.vax_vectors.specs.declared.vector.Cell.{Cell}
use Rattle.vax_vectors.proofs.Inside.{one_dropped}
use Rattle.vax_vectors.proofs.pages.within.Goals as goal

pub loop-cell-preserved-then-not-lies_in : goal.loop-cell-preserved-then-not-lies_in
loop-cell-preserved-then-not-lies_in c =
    let none : Cell = record { addr = 0; byte = 0 } in
    let cell = slice_index_or c.args.ram.now c.loop-cell.cell-index none in
    let below : c.loop-cell.cell-index < length c.args.ram.now = search rules in
    let out : lies_in c.args.pages.now cell.addr ≡ false = search (not-true, rules) in
    (c.loop-cell.invariant.0, one_dropped c.args.pages.now c.loop-cell.cells.items c.args.ram.now c.args.ram.now c.loop-cell.cell-index cell none below refl out c.loop-cell.invariant.1)
