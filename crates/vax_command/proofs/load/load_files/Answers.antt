use Rattle.std.proofs.Common.{◌≡◌, ◌++◌, ◌∷◌, [], arith, ◌∙◌}
use Rattle.std.proofs.lemmas.List.{length_push}
use Rattle.vax_outside.specs.Faults.{Rose}
use Rattle.vax_command.specs.ReadingView.{texts}
use Rattle.vax_command.proofs.LoadLaws.{ends_at, err_has, one_more, pushed, rose_from, texts_more}
use Rattle.vax_command.proofs.load.load_files.Goals as goal

pub returns-in_err-bytes-clause-ends : goal.returns-in_err-bytes-clause-ends
returns-in_err-bytes-clause-ends g c =
    let inv = c.loop-name.invariant in
    err_has c.from_residual.result _ _ c.from_residual.ensures.1
    (ends_at c.args.role (Rose (g.S.Files.faults c.loop-name.files) (g.S.Files.faults c.load.new.files)) _ (g.S.Files.contents c.args.files.now) (g.S.Files.contents c.loop-name.files) c.args.names.now c.loop-name.name-index (record { ref_ptr = (0, 0); now = [] }) (texts c.loop-name.all.items) c.in_err-bytes.field-0.0
    c.loop-name-test.true inv.same (λ r. rose_from _ _ _ inv.quiet r) inv.reads c.in_err-bytes.ensures.ends)

pub loop-name-preserved : goal.loop-name-preserved
loop-name-preserved g c =
    let inv = c.loop-name.invariant in
    let grown : c.push.new.self.items ≡ c.loop-name.all.items ++ c.in_ok-bytes.bytes ∷ [] = pushed _ c.loop-name.all.items c.push.new.self.items c.in_ok-bytes.bytes c.push.ensures.items c.if-is_err.ensures.negation in
    record {
      same = c.in_ok-bytes.ensures.only.same ∙ inv.same;
      quiet = c.in_ok-bytes.ensures.only.quiet ∙ inv.quiet;
      count = rw (grown, length_push) (omega arith);
      reads = rw (texts_more _ _ c.in_ok-bytes.bytes grown) (one_more c.args.role (g.S.Files.contents c.args.files.now) (g.S.Files.contents c.loop-name.files) c.args.names.now c.loop-name.name-index (record { ref_ptr = (0, 0); now = [] }) (texts c.loop-name.all.items) c.in_ok-bytes.bytes.items c.loop-name-test.true inv.same inv.reads c.in_ok-bytes.ensures.ok);
    }
