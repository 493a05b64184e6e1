use Rattle.std.proofs.Common.{◌≡◌, ◌∙◌, ◌<◌, ◌^◌, nat_le, false, ap, sym, arith}
use Rattle.std.proofs.lemmas.Bool.{lt-leb}
use Rattle.vax_word.specs.declared.Core.{Core}
use Rattle.vax_machine.specs.Meaning.{engine}
use Rattle.vax_console.specs.Ends.{scene}
use Rattle.vax_console.proofs.Requested.{same_core}
use Rattle.vax_debug.specs.Status.{width, with_field}
use Rattle.vax_debug.proofs.Statuses.{field_set}
use Rattle.vax_debug.proofs.status.deposit_field.Goals as goal

pub returns : goal.returns
returns g c = λ sink o s replies here.
    let core = same_core (engine c.args.machine.now) (g.F.PageFile.contents c.args.file.now) s.machine here.at.means in
    let count = c.value_count.ensures.exact in
    let few : c.args.value < 2 ^ width c.args.field = omega arith in
    let has : nat_le (2 ^ width c.args.field) c.args.value ≡ false = lt-leb (2 ^ width c.args.field) c.args.value few in
    let is : c.with_field-status.result ≡ with_field c.args.field c.args.value s.machine.core.psl = c.with_field-status.ensures ∙ ap (λ (k : Core). with_field c.args.field c.args.value k.psl) (c.core.ensures ∙ sym core) in
    field_set c.args.field c.args.value c.with_field-status.result c.deposit_status.result o s replies
    (scene (engine c.deposit_status.new.machine) (g.F.PageFile.contents c.args.file.now) sink) has is
    (c.deposit_status.ensures sink o s replies here)
