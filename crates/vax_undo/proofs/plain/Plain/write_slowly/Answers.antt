use Rattle.std.proofs.Common.{Ok, Option, sym, ap, ◌∙◌}
use Rattle.std.specs.Prelude.{is_some}
use Rattle.vax_space.specs.declared.Access.TheVariants.{Write}
use Rattle.vax_flat.specs.declared.Stop.{Stop}
use Rattle.vax_flat.specs.Memory.{number}
use Rattle.vax_flat.specs.Port.{loaded_by, unless_cut, with_number}
use Rattle.vax_undo.specs.Plain.{view_of}
use Rattle.vax_undo.proofs.Accesses.{fine, gone}
use Rattle.vax_undo.proofs.plain.Plain.write_slowly.Goals as goal

pub returns-in-Some-clause-answer : goal.returns-in-Some-clause-answer
returns-in-Some-clause-answer c =
    let view = view_of c.args.self.now in
    ap (λ v. Ok v) c.put_value.ensures.old
    ∙ sym (ap (λ (s : Option Stop). loaded_by s (number view.byte c.args.addr c.args.n)) (fine view c.args.addr c.args.n c.args.mode Write c.in_default.ensures.answer c.ranges.addr.fits c.if-addr-n-gt-PAGE_BYTES.false (sym (ap is_some c.in-Some.ensures))))

pub returns-in-Some-clause-stored : goal.returns-in-Some-clause-stored
returns-in-Some-clause-stored c =
    let view = view_of c.args.self.now in
    c.put_value.ensures.stored
    ∙ sym (ap (λ (s : Option Stop). unless_cut s view (with_number view c.args.addr c.args.n c.args.value)) (fine view c.args.addr c.args.n c.args.mode Write c.in_default.ensures.answer c.ranges.addr.fits c.if-addr-n-gt-PAGE_BYTES.false (sym (ap is_some c.in-Some.ensures))))

pub returns-in-None-clause-answer : goal.returns-in-None-clause-answer
returns-in-None-clause-answer c =
    let view = view_of c.args.self.now in
    sym (ap (λ (s : Option Stop). loaded_by s (number view.byte c.args.addr c.args.n)) (gone view c.args.addr c.args.n c.args.mode Write c.in_default.ensures.answer c.requires.some (sym (ap is_some c.in-None.ensures))))

pub returns-in-None-clause-stored : goal.returns-in-None-clause-stored
returns-in-None-clause-stored c =
    let view = view_of c.args.self.now in
    sym (ap (λ (s : Option Stop). unless_cut s view (with_number view c.args.addr c.args.n c.args.value)) (gone view c.args.addr c.args.n c.args.mode Write c.in_default.ensures.answer c.requires.some (sym (ap is_some c.in-None.ensures))))
