use Rattle.std.proofs.Common.{ℕ, ◌-◌, ◌%◌, None, Ok, Option, sym, ap, ◌∙◌, refl}
use Rattle.vax_space.specs.Reference.{byte_after, page_of}
use Rattle.vax_flat.specs.Memory.{number}
use Rattle.vax_flat.specs.Port.{stop_of, loaded_by}
use Rattle.vax_pager.specs.Paging.{Paging, view_of}
use Rattle.vax_pager.specs.Store.{paging}
use Rattle.vax_pager.proofs.Views.{resident_same}
use Rattle.vax_undo.proofs.Accesses.{IsApart, apart_low, apart_high, apart_none}
use Rattle.vax_pager.proofs.store.Store.read_apart.Goals as goal

pub returns-in_default-clause-answer : goal.returns-in_default-clause-answer
returns-in_default-clause-answer c =
    let view = view_of (paging c.args.self.now) in
    let first : ℕ = 512 - c.args.addr % 512 in
    let next : ℕ = byte_after c.args.addr first in
    let h : IsApart c.args.addr c.args.n first next = (refl, refl, c.requires.apart, c.requires.few, c.ranges.addr.fits) in
    sym (ap (λ (p : Option ℕ). loaded_by (stop_of None p) (number view.byte c.args.addr c.args.n)) (apart_low c.args.addr c.args.n first next view.resident h (sym c.in_default.ensures.resident)))

pub returns-in_default-frame_of-clause-answer : goal.returns-in_default-frame_of-clause-answer
returns-in_default-frame_of-clause-answer c =
    let view = view_of (paging c.args.self.now) in
    let first : ℕ = 512 - c.args.addr % 512 in
    let next : ℕ = byte_after c.args.addr first in
    let h : IsApart c.args.addr c.args.n first next = (refl, refl, c.requires.apart, c.requires.few, c.ranges.addr.fits) in
    sym (ap (λ (p : Option ℕ). loaded_by (stop_of None p) (number view.byte c.args.addr c.args.n)) (apart_high c.args.addr c.args.n first next view.resident h (sym c.in-Some.ensures.resident) (sym (c.in_default-frame_of.ensures.resident ∙ resident_same _ _ _ c.in-Some.ensures.paging))))

pub number_in_two-requires-clause-low : goal.number_in_two-requires-clause-low
number_in_two-requires-clause-low c = ap (λ (g : ℕ → Option ℕ). g (page_of c.args.addr)) c.in-Some-frame_of.ensures.frames ∙ c.in-Some.ensures.held

pub returns-clause-answer : goal.returns-clause-answer
returns-clause-answer c =
    let view = view_of (paging c.args.self.now) in
    let first : ℕ = 512 - c.args.addr % 512 in
    let next : ℕ = byte_after c.args.addr first in
    let h : IsApart c.args.addr c.args.n first next = (refl, refl, c.requires.apart, c.requires.few, c.ranges.addr.fits) in
    let e = c.in-Some-frame_of.ensures.paging ∙ c.in-Some.ensures.paging in
    ap (λ x. Ok x) (c.number_in_two.ensures ∙ ap (λ (z : Paging). number (view_of z).byte c.args.addr c.args.n) e)
    ∙ sym (ap (λ (p : Option ℕ). loaded_by (stop_of None p) (number view.byte c.args.addr c.args.n)) (apart_none c.args.addr c.args.n first next view.resident h (sym c.in-Some.ensures.resident) (sym (c.in-Some-frame_of.ensures.resident ∙ resident_same _ _ _ c.in-Some.ensures.paging))))
