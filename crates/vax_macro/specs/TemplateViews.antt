-- What the types of templates mean.
use Rattle.std.specs.Prelude.{ℕ, List, map, Option, option_map, Vec}
use Rattle.std.specs.Global.{Global}
use Rattle.std.specs.Ordering.{nat_cmp}
use Rattle.std.specs.BTreeMap.{BTreeMap, get_by}
use Rattle.std.specs.Cmp.Lexicographic.{slice_cmp}
use Rattle.vax_macro.specs.Templates as specs
use Rattle.vax_macro.specs.declared.template_types.Formal as code_formal
use Rattle.vax_macro.specs.declared.template_types.Formals as code_formals
use Rattle.vax_macro.specs.declared.template_types.BodyLine as code_line
use Rattle.vax_macro.specs.declared.template_types.Template as code_template
use Rattle.vax_macro.specs.declared.template_types.Giving as code_giving

-- a map from names, as a function
abbrev pub by_name : {X : Type 0} → BTreeMap (Vec ℕ Global) X → List ℕ → Option X
by_name m name = get_by (λ k. slice_cmp nat_cmp name k.items) m

abbrev pub formal_view : code_formal.Formal → specs.Formal
formal_view f = record { name = f.name.items; default = f.default.items; makes_label = f.makes_label }

abbrev pub formals_view : code_formals.Formals → specs.Formals
formals_view fs = record { list = map formal_view fs.list.items; index = by_name fs.index }

abbrev pub line_view : code_line.BodyLine → specs.BodyLine
line_view l = record { text = l.text.items; slots = l.slots.items }

abbrev pub template_view : code_template.Template → specs.Template
template_view t = record { formals = formals_view t.formals; lines = map line_view t.lines.items }

abbrev pub texts_view : Vec (Vec ℕ Global) Global → List (List ℕ)
texts_view v = map (λ t. t.items) v.items

abbrev pub given_view : Vec (Option (Vec ℕ Global)) Global → List (Option (List ℕ))
given_view v = map (λ o. option_map (λ t. t.items) o) v.items

abbrev pub giving_view : code_giving.Giving → specs.Giving
giving_view g = record { next = g.next; texts = given_view g.texts }
