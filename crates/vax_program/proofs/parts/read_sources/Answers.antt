use Rattle.std.proofs.Common.{◌≡◌, ◌+◌, ◌++◌, ◌∷◌, [], rules, ap, arith}
use Rattle.std.proofs.lemmas.List.{drop_all, length_push}
use Rattle.std.proofs.lemmas.List.Elements.{All-push}
use Rattle.vax_module.specs.Formed.{Formed}
use Rattle.vax_program.specs.Program.{modules_of}
use Rattle.vax_program.specs.View.{texts}
use Rattle.vax_program.proofs.Joining.{ahead_all, ahead_nil, err_step, one_more, refused}
use Rattle.vax_program.proofs.parts.read_sources.Goals as goal

pub loop-file-init : goal.loop-file-init
loop-file-init c = record {
  reads = ahead_nil c.new-modules.result.items (modules_of c.args.dialect c.args.first (texts c.args.files.now)) c.new-modules.ensures.items;
  formed = search rules;
  count = search rules;
  number = omega arith;
}

pub returns-in_err-module-clause-modules : goal.returns-in_err-module-clause-modules
returns-in_err-module-clause-modules c =
    let inv = c.loop-file.invariant in
    let one = modules_of c.args.dialect c.loop-file.number (c.file-item.result.items ∷ []) in
    err_step c.in_err-module.field-0.0 c.from_residual.result one _ c.from_residual.ensures.1
    (rw c.deref.ensures.value at c.in_err-module.ensures.modules)
    (λ why is. refused c.args.dialect c.loop-file.number c.loop-file.modules.items why _ c.args.files.now c.loop-file.file-index c.file-item.result c.loop-file-test.true c.file-item.is is inv.reads)

pub loop-file-preserved : goal.loop-file-preserved
loop-file-preserved c =
    let inv = c.loop-file.invariant in
    let grown : c.push.new.self.items ≡ c.loop-file.modules.items ++ c.in_ok-module.module ∷ [] = c.in_ok-push.ensures.items in
    let one : modules_of c.args.dialect c.loop-file.number (c.file-item.result.items ∷ []) ≡ _ = (rw c.deref.ensures.value at c.in_ok-module.ensures.modules) in
    record {
      reads = rw grown (one_more c.args.dialect c.loop-file.number c.loop-file.modules.items c.in_ok-module.module _ c.args.files.now c.loop-file.file-index c.file-item.result c.loop-file-test.true c.file-item.is one inv.reads);
      formed = rw grown (All-push Formed c.loop-file.modules.items c.in_ok-module.module inv.formed c.in_ok-module.ensures.formed);
      count = rw (grown, length_push) (omega arith);
      number = omega arith;
    }

pub returns-clause-modules : goal.returns-clause-modules
returns-clause-modules c =
    let inv = c.loop-file.invariant in
    ahead_all c.args.dialect c.loop-file.modules.items c.loop-file.number _ _ (ap texts (drop_all c.loop-file.file-index c.args.files.now (omega arith))) inv.reads
