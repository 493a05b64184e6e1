use Rattle.std.proofs.Common.{length, arith, ℕ, ◌-◌, ◌%◌, None, Ok, Option, take, drop, sym, ap, ◌∙◌, refl}
use Rattle.vax_space.specs.Reference.{byte_after}
use Rattle.vax_flat.specs.Memory.{number}
use Rattle.vax_flat.specs.Port.{loaded_by, stop_of, unless_cut, with_number, put_run}
use Rattle.vax_pager.specs.Paging.{view_of}
use Rattle.vax_pager.specs.Store.{paging}
use Rattle.vax_space.specs.Reference.{page_of}
use Rattle.vax_pager.specs.Paging.{Paging}
use Rattle.vax_pager.specs.Steps.{touched_page}
use Rattle.vax_pager.proofs.Views.{resident_same}
use Rattle.vax_pager.proofs.Writes.{areas_after, frame_size, order_after, order_same}
use Rattle.vax_pager.proofs.Apart.{WrittenApart, modified_apart, only_apart, part_sizes, view_of_apart}
use Rattle.vax_undo.proofs.Accesses.{IsApart, apart_low, apart_high, apart_none, apart_put}
use Rattle.vax_pager.proofs.store.Store.write_apart.Goals as goal

pub returns-in_default-clause-answer : goal.returns-in_default-clause-answer
returns-in_default-clause-answer c =
    let view = view_of (paging c.args.self.now) in
    let first : ℕ = 512 - c.args.addr % 512 in
    let next : ℕ = byte_after c.args.addr first in
    let h : IsApart c.args.addr c.args.n first next = (refl, refl, c.requires.apart, c.requires.few, c.ranges.addr.fits) in
    sym (ap (λ (p : Option ℕ). loaded_by (stop_of None p) (number view.byte c.args.addr c.args.n)) (apart_low c.args.addr c.args.n first next view.resident h (sym c.in_default.ensures.resident)))

pub returns-in_default-clause-stored : goal.returns-in_default-clause-stored
returns-in_default-clause-stored c =
    let view = view_of (paging c.args.self.now) in
    let first : ℕ = 512 - c.args.addr % 512 in
    let next : ℕ = byte_after c.args.addr first in
    let h : IsApart c.args.addr c.args.n first next = (refl, refl, c.requires.apart, c.requires.few, c.ranges.addr.fits) in
    ap (λ (z : Paging). view_of z) c.in_default.ensures.paging ∙ sym (ap (λ (p : Option ℕ). unless_cut (stop_of None p) view (with_number view c.args.addr c.args.n c.args.value)) (apart_low c.args.addr c.args.n first next view.resident h (sym c.in_default.ensures.resident)))

pub returns-in_default-frame_of-clause-answer : goal.returns-in_default-frame_of-clause-answer
returns-in_default-frame_of-clause-answer c =
    let view = view_of (paging c.args.self.now) in
    let first : ℕ = 512 - c.args.addr % 512 in
    let next : ℕ = byte_after c.args.addr first in
    let h : IsApart c.args.addr c.args.n first next = (refl, refl, c.requires.apart, c.requires.few, c.ranges.addr.fits) in
    sym (ap (λ (p : Option ℕ). loaded_by (stop_of None p) (number view.byte c.args.addr c.args.n)) (apart_high c.args.addr c.args.n first next view.resident h (sym c.in-Some.ensures.resident) (sym (c.in_default-frame_of.ensures.resident ∙ resident_same _ _ _ c.in-Some.ensures.paging))))

pub returns-in_default-frame_of-clause-stored : goal.returns-in_default-frame_of-clause-stored
returns-in_default-frame_of-clause-stored c =
    let view = view_of (paging c.args.self.now) in
    let first : ℕ = 512 - c.args.addr % 512 in
    let next : ℕ = byte_after c.args.addr first in
    let h : IsApart c.args.addr c.args.n first next = (refl, refl, c.requires.apart, c.requires.few, c.ranges.addr.fits) in
    ap (λ (z : Paging). view_of z) (c.in_default-frame_of.ensures.paging ∙ c.in-Some.ensures.paging) ∙ sym (ap (λ (p : Option ℕ). unless_cut (stop_of None p) view (with_number view c.args.addr c.args.n c.args.value)) (apart_high c.args.addr c.args.n first next view.resident h (sym c.in-Some.ensures.resident) (sym (c.in_default-frame_of.ensures.resident ∙ resident_same _ _ _ c.in-Some.ensures.paging))))

pub returns : goal.returns
returns c =
    let s = paging c.args.self.now in
    let view = view_of s in
    let first : ℕ = 512 - c.args.addr % 512 in
    let next : ℕ = byte_after c.args.addr first in
    let h : IsApart c.args.addr c.args.n first next = (refl, refl, c.requires.apart, c.requires.few, c.ranges.addr.fits) in
    let low = take first c.to_le_bytes-bytes.result in
    let high = take (c.args.n - first) (drop first c.to_le_bytes-bytes.result) in
    let e = c.in-Some-frame_of.ensures.paging ∙ c.in-Some.ensures.paging in
    let low_here = sym c.in-Some.ensures.resident in
    let high_here = sym (c.in-Some-frame_of.ensures.resident ∙ resident_same _ _ _ c.in-Some.ensures.paging) in
    let k : WrittenApart s _ _ _ _ c.args.addr next low high = (record {
      first = c.touch.ensures.paging ∙ ap (touched_page (page_of c.args.addr)) e;
      second = c.touch-2.ensures.paging;
      high_put = c.put_run.ensures.paging;
      low_put = c.put_run-2.ensures.paging;
      low_here = low_here;
      high_here = high_here;
      low_size = ap (λ (z : Paging). length (z.frame (page_of c.args.addr))) (sym c.in-Some.ensures.paging) ∙ frame_size _ _ _ c.in-Some.ensures.held c.in-Some.ensures.sound;
      high_size = ap (λ (z : Paging). length (z.frame (page_of next))) (sym e) ∙ frame_size _ _ _ c.in-Some-frame_of.ensures.held c.in-Some-frame_of.ensures.sound;
    }) in
    let bytes = apart_put c.args.addr c.args.n first next view.byte (put_run view.byte next high) _ c.args.value c.to_le_bytes-bytes.result low high h c.to_le_bytes-bytes.ensures refl refl refl refl in
    let sizes = part_sizes c.to_le_bytes-bytes.result first (c.args.n - first) (omega (arith, c.requires.apart, c.requires.few, ap length c.to_le_bytes-bytes.ensures)) in
    let none = apart_none c.args.addr c.args.n first next view.resident h low_here high_here in
    record {
      sound = c.put_run-2.ensures.sound;
      answer = ap (λ x. Ok x) (c.number_in_two-old.ensures ∙ ap (λ (z : Paging). number (view_of z).byte c.args.addr c.args.n) e)
          ∙ sym (ap (λ (p : Option ℕ). loaded_by (stop_of None p) (number view.byte c.args.addr c.args.n)) none);
      stored = view_of_apart s _ _ _ _ c.args.addr c.args.n first next low high c.args.value h k sizes.0 sizes.1 bytes
          ∙ sym (ap (λ (p : Option ℕ). unless_cut (stop_of None p) view (with_number view c.args.addr c.args.n c.args.value)) none);
      listed = modified_apart s _ _ _ _ c.args.addr c.args.n first next low high h k;
      unpaged = tt;
      only = only_apart s _ _ _ _ c.args.addr c.args.n first next low high k;
      held = c.put_run-2.ensures.held ∙ c.put_run.ensures.held ∙ c.touch-2.ensures.held ∙ c.touch.ensures.held ∙ c.in-Some-frame_of.ensures.frames ∙ c.in-Some.ensures.frames;
    }

pub touch-requires-clause-resident : goal.touch-requires-clause-resident
touch-requires-clause-resident c = order_same _ _ _ (c.in-Some-frame_of.ensures.paging ∙ c.in-Some.ensures.paging) (sym c.in-Some.ensures.resident)

pub touch-requires-clause-held : goal.touch-requires-clause-held
touch-requires-clause-held c = ap (λ (g : ℕ → Option ℕ). g (page_of c.args.addr)) c.in-Some-frame_of.ensures.frames ∙ c.in-Some.ensures.held

pub touch-requires-clause-writable : goal.touch-requires-clause-writable
touch-requires-clause-writable c = rw (c.in-Some-frame_of.ensures.paging, c.in-Some.ensures.paging) c.requires.low

pub touch-requires-2-clause-resident : goal.touch-requires-2-clause-resident
touch-requires-2-clause-resident c =
    let e = c.in-Some-frame_of.ensures.paging ∙ c.in-Some.ensures.paging in
    order_after _ _ _ _ _ e c.touch.ensures.paging (sym (c.in-Some-frame_of.ensures.resident ∙ resident_same _ _ _ c.in-Some.ensures.paging))

pub touch-requires-2-clause-held : goal.touch-requires-2-clause-held
touch-requires-2-clause-held c = ap (λ (g : ℕ → Option ℕ). g (page_of (byte_after c.args.addr (512 - c.args.addr % 512)))) c.touch.ensures.held ∙ c.in-Some-frame_of.ensures.held

pub touch-requires-2-clause-writable : goal.touch-requires-2-clause-writable
touch-requires-2-clause-writable c =
    let e = c.in-Some-frame_of.ensures.paging ∙ c.in-Some.ensures.paging in
    rw (areas_after _ _ _ _ e c.touch.ensures.paging) c.requires.high

pub put_run-requires-clause-held : goal.put_run-requires-clause-held
put_run-requires-clause-held c = ap (λ (g : ℕ → Option ℕ). g (page_of (byte_after c.args.addr (512 - c.args.addr % 512)))) (c.touch-2.ensures.held ∙ c.touch.ensures.held) ∙ c.in-Some-frame_of.ensures.held

pub put_run-requires-2-clause-held : goal.put_run-requires-2-clause-held
put_run-requires-2-clause-held c = ap (λ (g : ℕ → Option ℕ). g (page_of c.args.addr)) (c.put_run.ensures.held ∙ c.touch-2.ensures.held ∙ c.touch.ensures.held ∙ c.in-Some-frame_of.ensures.frames) ∙ c.in-Some.ensures.held

pub number_in_two-old-requires-clause-low : goal.number_in_two-old-requires-clause-low
number_in_two-old-requires-clause-low c = ap (λ (g : ℕ → Option ℕ). g (page_of c.args.addr)) c.in-Some-frame_of.ensures.frames ∙ c.in-Some.ensures.held
