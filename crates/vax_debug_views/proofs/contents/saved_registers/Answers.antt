use Rattle.std.proofs.Common.{◌≡◌, ◌+◌, ◌∙◌, ℕ, true, false, length, refl, ap, arith}
use Rattle.vax_word.specs.Status.{is_one}
use Rattle.vax_debug_replies.specs.declared.frames.SavedRegister.{SavedRegister}
use Rattle.vax_debug_views.specs.Views.{saved_below}
use Rattle.vax_debug_views.proofs.Keeping.{bit_off, bit_on, few_registers, next_offset, no_registers, register_more, register_not_named, value_told}
use Rattle.vax_debug_views.proofs.contents.saved_registers.Goals as goal

pub loop-number-init : goal.loop-number-init
loop-number-init g c =
    let none = ap length c.new-registers.ensures in
    record {
      few = omega (arith, none);
      at = omega (arith, none);
      told = λ sink o s replies here. c.new-registers.ensures ∙ no_registers c.args.frame s.machine c.args.mask;
      stays = λ sink o s replies here. here;
      quiet = refl;
    }

pub loop-number-preserved-then-mask-number-eq0 : goal.loop-number-preserved-then-mask-number-eq0
loop-number-preserved-then-mask-number-eq0 g c =
    let few = c.loop-number.invariant.few in
    let bit : is_one c.args.mask c.loop-number.number ≡ false = bit_off c.args.mask c.loop-number.number c.if-mask-number-eq0.true in
    record {
      few = omega (arith, few);
      at = c.loop-number.invariant.at;
      told = λ sink o s replies here. register_not_named c.args.frame s.machine c.args.mask c.loop-number.number c.loop-number.registers bit (c.loop-number.invariant.told sink o s replies here);
      stays = c.loop-number.invariant.stays;
      quiet = c.loop-number.invariant.quiet;
    }

pub returns-in-Err-clause-stays : goal.returns-in-Err-clause-stays
returns-in-Err-clause-stays g c = λ sink o s replies here. c.saved.ensures.stays sink o s replies (c.loop-number.invariant.stays sink o s replies here)

pub loop-number-preserved : goal.loop-number-preserved
loop-number-preserved g c =
    let n = c.loop-number.number in
    let mask = c.args.mask in
    let before = c.loop-number.registers in
    let after = c.add.new.self in
    let one : SavedRegister = record { number = n; value = c.in-Ok.value } in
    let bit : is_one mask n ≡ true = bit_on mask n c.if-mask-number-eq0.false in
    record {
      few = few_registers n before after one c.loop-number.invariant.few c.add.ensures;
      at = next_offset c.loop-number.offset (c.loop-number.offset + 4) before after one c.loop-number.invariant.at c.add.ensures refl;
      told = λ sink o s replies here.
          let so = c.loop-number.invariant.told sink o s replies here in
          let is = c.in-Ok.ensures.tells sink o s replies (c.loop-number.invariant.stays sink o s replies here) in
          register_more c.args.frame s.machine mask n before after one bit so
          (value_told c.args.frame s.machine mask n c.loop-number.offset before c.in-Ok.value one so c.loop-number.invariant.at is refl) c.add.ensures;
      stays = λ sink o s replies here. c.saved.ensures.stays sink o s replies (c.loop-number.invariant.stays sink o s replies here);
      quiet = c.in-Ok.ensures.counts.quiet ∙ c.loop-number.invariant.quiet;
    }

pub returns-clause-tells : goal.returns-clause-tells
returns-clause-tells g c = λ sink o s replies here.
    let all : c.loop-number.number ≡ 12 = omega arith in
    c.loop-number.invariant.told sink o s replies here ∙ ap (λ (n : ℕ). saved_below n c.args.mask c.args.frame s.machine) all
