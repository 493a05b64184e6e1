use Rattle.std.proofs.Common.{rules, ◌≡◌, ◌+◌, ◌++◌, [], ◌∷◌, arith, take}
use Rattle.std.proofs.lemmas.List.{length_push}
use Rattle.std.proofs.lemmas.List.Elements.{All-push}
use Rattle.vax_module.specs.Formed.{Formed}
use Rattle.vax_asm_listing.specs.Listed.{IsTraced, texts}
use Rattle.vax_asm_listing.proofs.Programs.{files_refuse, texts_more, traced_more}
use Rattle.vax_asm_listing.proofs.program.trace_files.Goals as goal

pub loop-file-preserved : goal.loop-file-preserved
loop-file-preserved c =
    let inv = c.loop-file.invariant in
    let m = c.in-Ok.trace.module in
    let n = c.in-Ok.trace.notes in
    let here : texts (take (c.loop-file.file-index + 1) c.args.files.now) ≡ texts (take c.loop-file.file-index c.args.files.now) ++ c.file-item.result.items ∷ []
    = texts_more c.args.files.now c.loop-file.file-index c.file-item.result c.loop-file-test.true c.file-item.is in
    let modules : c.push.new.self.items ≡ c.loop-file.modules.items ++ m ∷ [] = search rules in
    let notes : c.push-in-loop-file.new.self.items ≡ c.loop-file.notes.items ++ n ∷ [] = search rules in
    let one : IsTraced c.args.dialect c.file-item.result.items m n = rw c.deref.ensures.value at c.in-Ok.ensures.trace in
    record {
      traced = rw (here, modules, notes) (traced_more c.args.dialect (texts (take c.loop-file.file-index c.args.files.now)) c.loop-file.modules.items c.loop-file.notes.items c.file-item.result.items m n inv.traced one);
      formed = rw modules (All-push Formed c.loop-file.modules.items m inv.formed c.in-Ok.ensures.formed);
      count = rw (modules, length_push) (omega (arith, inv.count));
      number = omega (arith, inv.number);
    }

pub returns-in-Err-clause-refused : goal.returns-in-Err-clause-refused
returns-in-Err-clause-refused c =
    let inv = c.loop-file.invariant in
    files_refuse c.args.dialect c.args.files.now c.loop-file.file-index c.file-item.result c.loop-file.modules.items c.loop-file.notes.items c.in-Err.error c.loop-file-test.true c.file-item.is inv.traced
    (rw (c.deref.ensures.value, inv.number) at c.in-Err.ensures.refused)
