use Rattle.std.proofs.Common.{◌≡◌, ◌++◌, drop}
use Rattle.vax_macro.specs.Templates.{slots_in}
use Rattle.vax_macro.specs.TemplateViews.{formals_view}
use Rattle.vax_macro.proofs.templates.slots_in.Given as goal

abbrev pub invariant-loop-span : goal.invariant-loop-span
invariant-loop-span l = l.slots.items ++ slots_in (formals_view l.formals).index l.text (drop l.span-index l.spans) ≡ slots_in (formals_view l.formals).index l.text l.spans
