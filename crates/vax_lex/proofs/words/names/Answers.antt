use Rattle.std.proofs.Common.{arith, ◌≤◌, ◌-◌, length, drop, ap}
use Rattle.std.proofs.lemmas.List.{length-take, length-drop}
use Rattle.vax_lex.specs.Statements.{Context, open_brackets}
use Rattle.vax_lex.specs.Views.{context_view}
use Rattle.vax_lex.specs.WordViews.{word_view}
use Rattle.vax_lex.proofs.Naming.{word_at_place, names_start, names_end}
use Rattle.vax_lex.proofs.Anywhere.{names_by, names_only}
use Rattle.vax_lex.proofs.words.names.Goals as goal

pub loop-at-init : goal.loop-at-init
loop-at-init c = record {
  in_range = omega arith;
  brackets = omega (arith, ap (λ (x : Context). open_brackets x.place) c.text_start-context.ensures);
  same = names_start c.new-names.result.items (context_view c.text_start-context.result) c.args.text.now c.new-names.ensures.items c.text_start-context.ensures;
}

pub loop-at-preserved : goal.loop-at-preserved
loop-at-preserved c = record {
  in_range = let room : c.next_word-word.result.length ≤ length c.args.text.now - c.loop-at.at = omega (arith, c.next_word-word.ensures.room, length-take (length c.args.text.now - c.loop-at.at) (drop c.loop-at.at c.args.text.now), length-drop c.loop-at.at c.args.text.now) in omega (arith, c.loop-at-test.true);
  brackets = omega (arith, c.next_word-word.ensures.depth, c.next_word-word.ensures.goes, c.loop-at.invariant.brackets);
  same = word_at_place c.loop-at.names.items c.add.new.names.items (context_view c.loop-at.context) c.args.text.now c.loop-at.at (word_view c.next_word-word.result) _ c.loop-at-test.true c.next_word-word.ensures.exact c.next_word-word.ensures.goes (λ spans. c.in_ok-add.ensures spans) c.loop-at.invariant.same;
}

pub returns-clause-exact : goal.returns-clause-exact
returns-clause-exact c = names_end c.loop-at.names.items (context_view c.loop-at.context) c.args.text.now c.loop-at.at _ c.loop-at-test.false c.loop-at.invariant.same

pub returns-clause-found : goal.returns-clause-found
returns-clause-found c = names_by c.args.text.now c.loop-at.names.items (returns-clause-exact c)

pub returns-clause-only : goal.returns-clause-only
returns-clause-only c = names_only c.args.text.now c.loop-at.names.items (returns-clause-exact c)
