use Rattle.std.proofs.Common.{◌≡◌, [], ◌∷◌, Some, None, ap, ◌∙◌, sym, refl, arith, length, length-append, length-drop, append_assoc}
use Rattle.vax_disasm.specs.Seen.{Found, read_seen, found}
use Rattle.vax_disasm.proofs.Listing.{operand_read, no_operand_read, all_read, count_within, rest_is}
use Rattle.vax_disasm.proofs.push_operands.Goals as goal

pub returns-in_err-read : goal.returns-in_err-read
returns-in_err-read c =
    let none : None ≡ found _ = rw (c.in_err-read.was, rest_is) at c.read_operand.ensures.exact in
    rw c.from_residual.ensures (no_operand_read c.loop-kind.length c.loop-kind.separator c.args.addr c.loop-kind.text.bytes c.args.bytes.now c.args.kinds.now c.loop-kind.kind-index _ c.loop-kind-test.true none
    ∙ c.loop-kind.invariant.exact)

pub loop-kind-preserved : goal.loop-kind-preserved
loop-kind-preserved c =
    let f : Found = read_seen c.in_ok-read.read in
    let read : Some f ≡ found _ = rw (c.in_ok-read.was, rest_is) at c.read_operand.ensures.exact in
    let first = c.push.ensures.ascii (omega arith) in
    let whole = c.push_specifier.ensures.exact in
    let sound = c.in_ok-read.ensures.sound in
    record {
      few = omega (arith, sound.few);
      within = omega (arith, count_within _ _ f (sym read), length-drop c.loop-kind.length c.args.bytes.now);
      short = omega (arith, c.push_specifier.ensures.short, ap length first, length-append c.loop-kind.text.bytes (c.loop-kind.separator ∷ []));
      ascii = omega arith;
      exact = rw (whole, first, append_assoc) (operand_read c.loop-kind.length c.loop-kind.separator c.args.addr c.loop-kind.text.bytes _ c.args.bytes.now c.args.kinds.now c.loop-kind.kind-index _ f c.loop-kind-test.true read (rw c.from.ensures refl)
          ∙ c.loop-kind.invariant.exact);
    }

pub returns : goal.returns
returns c = all_read c.loop-kind.length c.loop-kind.separator c.args.addr c.loop-kind.text.bytes c.args.bytes.now c.args.kinds.now c.loop-kind.kind-index (omega arith) ∙ c.loop-kind.invariant.exact
