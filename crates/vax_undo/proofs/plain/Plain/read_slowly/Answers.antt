use Rattle.std.proofs.Common.{◌≡◌, Option, length, arith, sym, ap, ◌∙◌}
use Rattle.vax_space.specs.declared.Access.TheVariants.{Read}
use Rattle.vax_flat.specs.declared.Stop.{Stop}
use Rattle.vax_flat.specs.Memory.{number}
use Rattle.vax_flat.specs.Port.{loaded_by}
use Rattle.vax_undo.specs.Plain.{view_of}
use Rattle.vax_undo.proofs.Accesses.{fine, gone, read_number}
use Rattle.vax_undo.proofs.Ranges.{bytes_length}
use Rattle.vax_undo.proofs.plain.Plain.read_slowly.Goals as goal

pub number_of-requires-clause-some : goal.number_of-requires-clause-some
number_of-requires-clause-some c =
    let e : length c.in-Some.bytes.now ≡ c.args.n = ap length c.in-Some.ensures.bytes ∙ bytes_length _ _ _ in
    omega (arith, c.requires.some)

pub number_of-requires-clause-few : goal.number_of-requires-clause-few
number_of-requires-clause-few c =
    let e : length c.in-Some.bytes.now ≡ c.args.n = ap length c.in-Some.ensures.bytes ∙ bytes_length _ _ _ in
    omega (arith, c.requires.few)

pub returns-in-Some : goal.returns-in-Some
returns-in-Some c =
    let free = (fine (view_of c.args.self.now) c.args.addr c.args.n c.args.mode Read c.in_default.ensures.answer c.ranges.addr.fits c.if-addr-n-gt-PAGE_BYTES.false (sym c.in-Some.ensures.resident)) in
    read_number (view_of c.args.self.now) c.args.addr c.args.n c.args.mode _ c.in-Some.bytes.now free c.number_of.ensures.value c.in-Some.ensures.bytes

pub returns-in-None : goal.returns-in-None
returns-in-None c =
    sym (ap (λ (s : Option Stop). loaded_by s (number (view_of c.args.self.now).byte c.args.addr c.args.n)) (gone (view_of c.args.self.now) c.args.addr c.args.n c.args.mode Read c.in_default.ensures.answer c.requires.some (sym c.in-None.ensures.resident)))
