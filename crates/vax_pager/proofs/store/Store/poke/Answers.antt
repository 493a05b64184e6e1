use Rattle.std.proofs.Common.{◌≡◌, ◌-◌, arith, ap, sym, ◌∙◌, subst, List, length, true, None}
use Rattle.std.specs.Prelude.{is_some}
use Rattle.vax_space.specs.declared.Access.TheVariants.{Write}
use Rattle.vax_space.specs.declared.Area.{Area}
use Rattle.vax_space.specs.Areas.{area_of}
use Rattle.vax_space.specs.Reference.{byte_after, page_of, violation}
use Rattle.vax_pager.specs.Listing.{is_listed}
use Rattle.vax_pager.specs.Store.{paging}
use Rattle.vax_pager.proofs.Poked.{all_alike, areas_settled, frames_settled, has_failed, has_poked, order_settled, pins_settled}
use Rattle.vax_pager.proofs.Told.{is_paging}
use Rattle.vax_pager.proofs.Poking.{allowed_by, failed_pokes, first_inside, range_inside}
use Rattle.vax_pager.proofs.store.Store.poke.Goals as goal

pub bring_both-brought-requires-clause-low : goal.bring_both-brought-requires-clause-low
bring_both-brought-requires-clause-low g c =
    let v = allowed_by c.check.result _ c.check.ensures (sym c.is_err.ensures.value ∙ c.if-is_err.false) in
    subst (λ (z : List Area). is_some (area_of z (page_of c.args.addr)) ≡ true) (sym (areas_settled _ _ c.settle.ensures.paging))
    (first_inside (paging c.args.self.now).areas c.args.addr (length c.args.bytes.now) c.ranges.addr.fits v (let s = c.requires.some in omega (arith, s)))

pub bring_both-brought-requires-clause-high : goal.bring_both-brought-requires-clause-high
bring_both-brought-requires-clause-high g c =
    let v = allowed_by c.check.result _ c.check.ensures (sym c.is_err.ensures.value ∙ c.if-is_err.false) in
    subst (λ (z : List Area). is_some (area_of z (page_of (byte_after c.args.addr (length c.args.bytes.now - 1)))) ≡ true) (sym (areas_settled _ _ c.settle.ensures.paging))
    (range_inside (paging c.args.self.now).areas c.args.addr (length c.args.bytes.now) (length c.args.bytes.now - 1) c.ranges.addr.fits v (let s = c.requires.some in omega (arith, s)))

pub bring_both-brought-requires-clause-unpinned : goal.bring_both-brought-requires-clause-unpinned
bring_both-brought-requires-clause-unpinned g c = pins_settled _ _ c.settle.ensures.paging

pub bring_both-brought-requires-clause-frames : goal.bring_both-brought-requires-clause-frames
bring_both-brought-requires-clause-frames g c = let e = frames_settled _ _ c.settle.ensures.paging in let f = c.requires.frames in omega (arith, e, f)

pub returns-in_err-brought-clause-pokes : goal.returns-in_err-brought-clause-pokes
returns-in_err-brought-clause-pokes g c =
    failed_pokes c.from_residual.result c.args.addr c.args.bytes.now _ _ _ _ c.from_residual.ensures.0
    (has_failed _ _ _ _ _ _ c.settle.ensures.paging c.bring_both-brought.ensures.alike c.bring_both-brought.ensures.keeps c.settle-2.ensures.paging c.bring_both-brought.ensures.marks c.args.addr (length c.args.bytes.now) c.in_err-brought.ensures.out)

pub put_bytes-requires-clause-allowed : goal.put_bytes-requires-clause-allowed
put_bytes-requires-clause-allowed g c =
    let v = allowed_by c.check.result _ c.check.ensures (sym c.is_err.ensures.value ∙ c.if-is_err.false) in
    let e = (all_alike _ _ _ _ _ _ c.settle.ensures.paging c.bring_both-brought.ensures.alike c.bring_both-brought.ensures.keeps c.settle-2.ensures.paging c.bring_both-brought.ensures.marks).areas in
    subst (λ (z : List Area). violation z c.args.addr (length c.args.bytes.now) 0 Write ≡ None) (sym e) v

pub put_bytes-requires-clause-low : goal.put_bytes-requires-clause-low
put_bytes-requires-clause-low g c = ap (is_listed (page_of c.args.addr)) (order_settled _ _ c.settle-2.ensures.paging) ∙ c.in_ok-brought.ensures.low

pub put_bytes-requires-clause-high : goal.put_bytes-requires-clause-high
put_bytes-requires-clause-high g c = ap (is_listed (page_of (byte_after c.args.addr (length c.args.bytes.now - 1)))) (order_settled _ _ c.settle-2.ensures.paging) ∙ c.in_ok-brought.ensures.high

pub returns-clause-pokes : goal.returns-clause-pokes
returns-clause-pokes g c =
    has_poked _ _ _ _ _ _ c.settle.ensures.paging c.bring_both-brought.ensures.alike c.bring_both-brought.ensures.keeps c.settle-2.ensures.paging c.bring_both-brought.ensures.marks _ c.args.addr c.args.bytes.now (is_paging _ c.settle-2.ensures.sound) c.in_ok-brought.ensures.comes c.put_bytes.ensures.writes
