use Rattle.std.proofs.Common.{◌≡◌, ℕ, ◌-◌, ◌%◌, None, Ok, Option, length, arith, sym, ap, ◌∙◌, refl}
use Rattle.vax_space.specs.Reference.{byte_after}
use Rattle.vax_flat.specs.Memory.{number}
use Rattle.vax_flat.specs.Port.{stop_of, loaded_by}
use Rattle.vax_undo.specs.Plain.{view_of}
use Rattle.vax_undo.proofs.Accesses.{IsApart, apart_low, apart_high, apart_none, apart_number}
use Rattle.vax_undo.proofs.Ranges.{bytes_length}
use Rattle.vax_undo.proofs.plain.Plain.read_apart.Goals as goal

pub returns-in_default : goal.returns-in_default
returns-in_default c =
    let view = view_of c.args.self.now in
    let first : ℕ = 512 - c.args.addr % 512 in
    let next : ℕ = byte_after c.args.addr first in
    let h : IsApart c.args.addr c.args.n first next = (refl, refl, c.requires.apart, c.requires.few, c.ranges.addr.fits) in
    sym (ap (λ (p : Option ℕ). loaded_by (stop_of None p) (number view.byte c.args.addr c.args.n)) (apart_low c.args.addr c.args.n first next view.resident h (sym c.in_default.ensures.resident)))

pub returns-in_default-part : goal.returns-in_default-part
returns-in_default-part c =
    let view = view_of c.args.self.now in
    let first : ℕ = 512 - c.args.addr % 512 in
    let next : ℕ = byte_after c.args.addr first in
    let h : IsApart c.args.addr c.args.n first next = (refl, refl, c.requires.apart, c.requires.few, c.ranges.addr.fits) in
    sym (ap (λ (p : Option ℕ). loaded_by (stop_of None p) (number view.byte c.args.addr c.args.n)) (apart_high c.args.addr c.args.n first next view.resident h (sym c.in-Some.ensures.resident) (sym c.in_default-part.ensures.resident)))

pub number_of_parts-requires : goal.number_of_parts-requires
number_of_parts-requires c =
    let low : length c.in-Some.low.now ≡ 512 - c.args.addr % 512 = ap length c.in-Some.ensures.bytes ∙ bytes_length _ _ _ in
    let high : length c.in-Some-part.high.now ≡ c.args.n - (512 - c.args.addr % 512) = ap length c.in-Some-part.ensures.bytes ∙ bytes_length _ _ _ in
    omega (arith, c.requires.few, c.requires.apart)

pub returns : goal.returns
returns c =
    let view = view_of c.args.self.now in
    let first : ℕ = 512 - c.args.addr % 512 in
    let next : ℕ = byte_after c.args.addr first in
    let h : IsApart c.args.addr c.args.n first next = (refl, refl, c.requires.apart, c.requires.few, c.ranges.addr.fits) in
    ap (λ x. Ok x) (apart_number c.args.addr c.args.n first next view.byte _ c.in-Some.low.now c.in-Some-part.high.now h c.number_of_parts.ensures c.in-Some.ensures.bytes c.in-Some-part.ensures.bytes)
    ∙ sym (ap (λ (p : Option ℕ). loaded_by (stop_of None p) (number view.byte c.args.addr c.args.n)) (apart_none c.args.addr c.args.n first next view.resident h (sym c.in-Some.ensures.resident) (sym c.in-Some-part.ensures.resident)))
