use Rattle.std.proofs.Common.{◌≡◌, ◌-◌, List, [], ◌++◌, ap, ◌∙◌}
use Rattle.vax_macro.specs.Directives.{calls_within, copies, expansion}
use Rattle.vax_macro.specs.LineViews.{lines_of, opened_lines}
use Rattle.vax_macro.specs.Lines.{SourceLine}
use Rattle.vax_macro.specs.Rest.{Rest}
use Rattle.vax_macro.specs.TemplateViews.{template_view, texts_view}
use Rattle.vax_macro.specs.Templates.{Formals, Template, no_formals, template}
use Rattle.vax_macro.specs.View.{rest_in}
use Rattle.vax_macro.proofs.state_types.State.finish_copies.Goals as goal

pub returns : goal.returns
returns c = λ read.
    let made : template_view c.in_ok-kept.kept ≡ template no_formals (texts_view c.args.lines) = c.in_ok-kept.ensures ∙ ap (λ (fs : Formals). template fs (texts_view c.args.lines)) c.new.ensures in
    let lines : opened_lines c.in_ok-frame.frame ≡ copies c.args.count (expansion (template no_formals (texts_view c.args.lines)).lines c.args.number c.args.depth []) =
    c.in_ok-frame.ensures ∙ ap (λ (t : Template). copies c.args.count (expansion t.lines c.args.number c.args.depth [])) made in
    c.in_ok-open_frame.ensures read
    ∙ ap (λ (ls : List SourceLine). let r : Rest = record (rest_in read c.args.self.now) { lines = ls ++ lines_of c.args.self.now.lines; calls = calls_within (c.args.depth - 1) (rest_in read c.args.self.now).calls } in r) lines
