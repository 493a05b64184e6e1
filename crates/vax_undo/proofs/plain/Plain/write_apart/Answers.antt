use Rattle.std.proofs.Common.{ℕ, ◌-◌, ◌%◌, None, Option, take, drop, sym, ap, ◌∙◌, refl}
use Rattle.std.specs.Prelude.{is_some}
use Rattle.vax_space.specs.Reference.{byte_after}
use Rattle.vax_flat.specs.Memory.{number}
use Rattle.vax_flat.specs.Port.{View, stop_of, loaded_by, unless_cut, with_number, with_run, put_run}
use Rattle.vax_undo.specs.Plain.{view_of}
use Rattle.vax_undo.proofs.Accesses.{IsApart, apart_low, apart_high, apart_none, apart_put}
use Rattle.vax_undo.proofs.plain.Plain.write_apart.Goals as goal

pub returns-in_default-clause-answer : goal.returns-in_default-clause-answer
returns-in_default-clause-answer c =
    let view = view_of c.args.self.now in
    let first : ℕ = 512 - c.args.addr % 512 in
    let next : ℕ = byte_after c.args.addr first in
    let h : IsApart c.args.addr c.args.n first next = (refl, refl, c.requires.apart, c.requires.few, c.ranges.addr.fits) in
    sym (ap (λ (p : Option ℕ). loaded_by (stop_of None p) (number view.byte c.args.addr c.args.n)) (apart_low c.args.addr c.args.n first next view.resident h (sym (ap is_some c.in_default.ensures))))

pub returns-in_default-clause-stored : goal.returns-in_default-clause-stored
returns-in_default-clause-stored c =
    let view = view_of c.args.self.now in
    let first : ℕ = 512 - c.args.addr % 512 in
    let next : ℕ = byte_after c.args.addr first in
    let h : IsApart c.args.addr c.args.n first next = (refl, refl, c.requires.apart, c.requires.few, c.ranges.addr.fits) in
    sym (ap (λ (p : Option ℕ). unless_cut (stop_of None p) view (with_number view c.args.addr c.args.n c.args.value)) (apart_low c.args.addr c.args.n first next view.resident h (sym (ap is_some c.in_default.ensures))))

pub returns-in_default-owner-clause-answer : goal.returns-in_default-owner-clause-answer
returns-in_default-owner-clause-answer c =
    let view = view_of c.args.self.now in
    let first : ℕ = 512 - c.args.addr % 512 in
    let next : ℕ = byte_after c.args.addr first in
    let h : IsApart c.args.addr c.args.n first next = (refl, refl, c.requires.apart, c.requires.few, c.ranges.addr.fits) in
    sym (ap (λ (p : Option ℕ). loaded_by (stop_of None p) (number view.byte c.args.addr c.args.n)) (apart_high c.args.addr c.args.n first next view.resident h (sym (ap is_some c.in-Some.ensures)) (sym (ap is_some c.in_default-owner.ensures))))

pub returns-in_default-owner-clause-stored : goal.returns-in_default-owner-clause-stored
returns-in_default-owner-clause-stored c =
    let view = view_of c.args.self.now in
    let first : ℕ = 512 - c.args.addr % 512 in
    let next : ℕ = byte_after c.args.addr first in
    let h : IsApart c.args.addr c.args.n first next = (refl, refl, c.requires.apart, c.requires.few, c.ranges.addr.fits) in
    sym (ap (λ (p : Option ℕ). unless_cut (stop_of None p) view (with_number view c.args.addr c.args.n c.args.value)) (apart_high c.args.addr c.args.n first next view.resident h (sym (ap is_some c.in-Some.ensures)) (sym (ap is_some c.in_default-owner.ensures))))

pub returns-clause-stored : goal.returns-clause-stored
returns-clause-stored c =
    let view = view_of c.args.self.now in
    let first : ℕ = 512 - c.args.addr % 512 in
    let next : ℕ = byte_after c.args.addr first in
    let h : IsApart c.args.addr c.args.n first next = (refl, refl, c.requires.apart, c.requires.few, c.ranges.addr.fits) in
    let low = take first c.to_le_bytes-bytes.result in
    let high = take (c.args.n - first) (drop first c.to_le_bytes-bytes.result) in
    let with_bytes : (ℕ → ℕ) → View = λ f. record view { byte = f } in
    c.put-2.ensures.stored
    ∙ (ap (λ (v : View). with_run v c.args.addr low) c.put.ensures.stored
    ∙ (ap with_bytes (apart_put c.args.addr c.args.n first next view.byte (put_run view.byte next high) _ c.args.value c.to_le_bytes-bytes.result low high h c.to_le_bytes-bytes.ensures refl refl refl refl)
    ∙ sym (ap (λ (p : Option ℕ). unless_cut (stop_of None p) view (with_number view c.args.addr c.args.n c.args.value)) (apart_none c.args.addr c.args.n first next view.resident h (sym (ap is_some c.in-Some.ensures)) (sym (ap is_some c.in-Some-owner.ensures))))))
