use Rattle.std.proofs.Common.{◌≡◌, length, arith, sym, ap, ◌∙◌}
use Rattle.vax_space.specs.declared.Access.TheVariants.{Read}
use Rattle.vax_undo.specs.Plain.{view_of}
use Rattle.vax_undo.proofs.Accesses.{fine, read_number}
use Rattle.vax_undo.proofs.Ranges.{bytes_length}
use Rattle.vax_undo.proofs.plain.PlainPort.read.Goals as goal

pub number_of-requires-clause-some : goal.number_of-requires-clause-some
number_of-requires-clause-some c =
    let e : length c.in-Some.bytes.now ≡ c.args.n = ap length c.in-Some.ensures.bytes ∙ bytes_length _ _ _ in
    omega (arith, c.requires.some)

pub number_of-requires-clause-few : goal.number_of-requires-clause-few
number_of-requires-clause-few c =
    let e : length c.in-Some.bytes.now ≡ c.args.n = ap length c.in-Some.ensures.bytes ∙ bytes_length _ _ _ in
    omega (arith, c.requires.few)

pub returns-in-Some-clause-answer : goal.returns-in-Some-clause-answer
returns-in-Some-clause-answer c =
    let free = (fine (view_of c.args.self.now) c.args.addr c.args.n c.args.mode Read (sym (c.is_free_page.ensures.free c.if-is_free_page.true)) c.ranges.addr.fits (c.is_free_page.ensures.one_page c.if-is_free_page.true) (sym c.in-Some.ensures.resident)) in
    read_number (view_of c.args.self.now) c.args.addr c.args.n c.args.mode _ c.in-Some.bytes.now free c.number_of.ensures.value c.in-Some.ensures.bytes
