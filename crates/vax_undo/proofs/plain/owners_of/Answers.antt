use Rattle.std.proofs.Common.{sym, ◌∙◌, arith, ◌≡◌}
use Rattle.vax_undo.proofs.PlainMemory.{pushed_on, owners_none, owners_more, owners_full, page_at, page_low, page_high}
use Rattle.vax_undo.proofs.plain.owners_of.Goals.{then-place-lt32768, else-place-lt32768}
use Rattle.vax_undo.proofs.plain.owners_of.Goals as goal

pub loop-place-init : goal.loop-place-init
loop-place-init c = rw c.in_ok-owners.ensures.items (owners_none c.args.areas.now)

pub loop-place-preserved : goal.loop-place-preserved
loop-place-preserved c =
    let on = sym c.is_err.ensures.value ∙ c.if-is_err.false in
    let items = pushed_on c.push.result c.loop-place.owners.items c.push.new.self.items c.number_of_area.result on c.push.ensures.items in
    let page : c.if-place-lt32768.page ≡ page_at c.loop-place.place = elim c.if-place-lt32768.branch [
      | then-place-lt32768 w ↦ page_low _ _ w.if-place-lt32768.true w.page-is
      | else-place-lt32768 w ↦ page_high _ _ w.if-place-lt32768.false w.page-is
    ] in
    rw items (owners_more c.args.areas.now c.loop-place.owners.items c.loop-place.place c.if-place-lt32768.page c.number_of_area.result c.loop-place.invariant page c.number_of_area.ensures)

pub returns : goal.returns
returns c = owners_full c.args.areas.now c.loop-place.owners.items c.loop-place.place c.requires (omega arith) c.loop-place.invariant
