use Rattle.std.proofs.Common.{◌≡◌, ℕ, ◌-◌, ◌%◌, length, arith, ap, ◌∙◌, refl}
use Rattle.vax_space.specs.Reference.{byte_after}
use Rattle.vax_pager.specs.Paging.{view_of}
use Rattle.vax_pager.specs.Store.{paging}
use Rattle.vax_undo.proofs.Accesses.{IsApart, apart_number}
use Rattle.vax_undo.proofs.Ranges.{bytes_length}
use Rattle.vax_pager.proofs.store.Store.number_in_two.Goals as goal

pub number_of_parts-requires : goal.number_of_parts-requires
number_of_parts-requires c =
    let low : length c.part.result.now ≡ 512 - c.args.addr % 512 = ap length c.part.ensures ∙ bytes_length _ _ _ in
    let high : length c.part-2.result.now ≡ c.args.n - (512 - c.args.addr % 512) = ap length c.part-2.ensures ∙ bytes_length _ _ _ in
    omega (arith, c.requires.few, c.requires.apart)

pub returns : goal.returns
returns c =
    let first : ℕ = 512 - c.args.addr % 512 in
    let next : ℕ = byte_after c.args.addr first in
    let h : IsApart c.args.addr c.args.n first next = (refl, refl, c.requires.apart, c.requires.few, c.ranges.addr.fits) in
    apart_number c.args.addr c.args.n first next (view_of (paging c.args.self.now)).byte _ c.part.result.now c.part-2.result.now h c.number_of_parts.ensures c.part.ensures c.part-2.ensures
