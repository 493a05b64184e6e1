use Rattle.std.proofs.Common.{◌≡◌, Some, false, map, sym, ◌∙◌, arith}
use Rattle.std.proofs.lemmas.Grind.{common_steps}
use Rattle.vax_macro.specs.ArgumentViews.{arguments_view}
use Rattle.vax_macro.specs.Directives.{is_deep}
use Rattle.vax_macro.specs.LineViews.{frame_lines}
use Rattle.vax_macro.specs.Rest.{Rest}
use Rattle.vax_macro.specs.TemplateViews.{formal_view, formals_view, given_view, giving_view, template_view, texts_view}
use Rattle.vax_macro.specs.Templates.{Filled, assigned, filled}
use Rattle.vax_macro.specs.View.{line_in, rest_in}
use Rattle.vax_macro.proofs.Calls.{call_opens}
use Rattle.vax_macro.proofs.state_types.State.call_with.Goals as goal

pub returns : goal.returns
returns c =
    let rest : Rest = rest_in c.args.parsed.read c.args.self.now in
    let f : Filled = record { texts = texts_view c.in_ok-texts.texts; made = c.filled.new.made } in
    let given : assigned (formals_view c.args.template.value.formals) (arguments_view c.args.found) ≡ Some (giving_view c.in-Some.given) = grind (arith, common_steps) in
    let shallow : is_deep (line_in c.args.parsed) rest ≡ false = sym c.is_deep.ensures.value ∙ c.if-is_deep.false in
    let texts : filled c.args.self.now.made (map formal_view c.args.template.value.formals.list.items) (given_view c.in-Some.given.texts) ≡ f = grind (arith, common_steps) in
    call_opens (template_view c.args.template.value) _ (giving_view c.in-Some.given) f (frame_lines c.call_frame-frame.result) (line_in c.args.parsed) rest (rest_in c.args.parsed.read c.open_call.new.self)
    given shallow texts c.call_frame-frame.ensures.lines (c.in_ok-open_call.ensures c.args.parsed.read)
