use Rattle.std.proofs.Common.{arith, take, sym, ap, ◌∙◌}
use Rattle.std.proofs.lemmas.List.{length-take}
use Rattle.vax_dialect.specs.declared.Dialect.TheVariants.{Vax}
use Rattle.vax_lex.specs.Tokens.{HeadFits, begins, too_wide}
use Rattle.vax_lex.specs.Views.{context_view, head_view}
use Rattle.vax_lex.proofs.Heads.{word_fits_is}
use Rattle.vax_lex.proofs.Depth.{depth_after}
use Rattle.vax_lex.proofs.words.next_word.Goals as goal

pub slice_bounds-after-end : goal.slice_bounds-after-end
slice_bounds-after-end c = let f : HeadFits c.args.bytes.now (begins c.in-Begins.kind c.in-Begins.length) = word_fits_is (context_view c.args.context) c.args.bytes.now (begins c.in-Begins.kind c.in-Begins.length) (sym (ap head_view c.in-Begins.is) ∙ c.word_of.ensures) in simp length-take (omega (arith, f.1))

pub slice_bounds-after-end-in-Wide : goal.slice_bounds-after-end-in-Wide
slice_bounds-after-end-in-Wide c = let f : HeadFits c.args.bytes.now (too_wide c.in-Wide.length) = word_fits_is (context_view c.args.context) c.args.bytes.now (too_wide c.in-Wide.length) (sym (ap head_view c.in-Wide.is) ∙ c.word_of.ensures) in simp length-take (omega (arith, f.1))

pub returns-after-matches-clause-room : goal.returns-after-matches-clause-room
returns-after-matches-clause-room c = let f : HeadFits c.args.bytes.now (begins c.in-Begins.kind c.in-Begins.length) = word_fits_is (context_view c.args.context) c.args.bytes.now (begins c.in-Begins.kind c.in-Begins.length) (sym (ap head_view c.in-Begins.is) ∙ c.word_of.ensures) in f.1

pub returns-after-matches-clause-goes : goal.returns-after-matches-clause-goes
returns-after-matches-clause-goes c = let f : HeadFits c.args.bytes.now (begins c.in-Begins.kind c.in-Begins.length) = word_fits_is (context_view c.args.context) c.args.bytes.now (begins c.in-Begins.kind c.in-Begins.length) (sym (ap head_view c.in-Begins.is) ∙ c.word_of.ensures) in f.0

pub returns-after-matches-clause-depth : goal.returns-after-matches-clause-depth
returns-after-matches-clause-depth c = depth_after Vax (context_view c.args.context) (context_view c.after.result) c.in-Begins.kind (take c.in-Begins.length c.args.bytes.now) c.after.ensures

pub returns-in-Wide-clause-room : goal.returns-in-Wide-clause-room
returns-in-Wide-clause-room c = let f : HeadFits c.args.bytes.now (too_wide c.in-Wide.length) = word_fits_is (context_view c.args.context) c.args.bytes.now (too_wide c.in-Wide.length) (sym (ap head_view c.in-Wide.is) ∙ c.word_of.ensures) in f.1

pub returns-in-Wide-clause-goes : goal.returns-in-Wide-clause-goes
returns-in-Wide-clause-goes c = let f : HeadFits c.args.bytes.now (too_wide c.in-Wide.length) = word_fits_is (context_view c.args.context) c.args.bytes.now (too_wide c.in-Wide.length) (sym (ap head_view c.in-Wide.is) ∙ c.word_of.ensures) in f.0
