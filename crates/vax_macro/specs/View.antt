-- What the expander's types mean.
use Rattle.std.specs.Prelude.{◌≡◌, ℕ, List, map, Option, Some, None, option_map, Result, IfOk, Vec}
use Rattle.std.specs.BTreeMap.{BTreeMap}
use Rattle.std.specs.Global.{Global}
use Rattle.std.specs.declared.rc.Rc.{Rc}
use Rattle.vax_macro.specs.Templates.{Template}
use Rattle.vax_macro.specs.TemplateViews.{by_name, template_view, formals_view, texts_view}
use Rattle.vax_macro.specs.LineViews.{lines_of}
use Rattle.vax_macro.specs.Rest as specs
use Rattle.vax_macro.specs.Rest.{Rest}
use Rattle.vax_macro.specs.Directives.{Goes, Gives, Writes, Turns, Again, Label, Fails}
use Rattle.vax_macro.specs.Directives as directives
use Rattle.vax_macro.specs.declared.template_types.Template as code_template
use Rattle.vax_macro.specs.declared.state_types.Begin as code_begin
use Rattle.vax_macro.specs.declared.state_types.Use as code_use
use Rattle.vax_macro.specs.declared.state_types.Use.TheVariants as uses
use Rattle.vax_macro.specs.declared.state_types.Pending as code_pending
use Rattle.vax_macro.specs.declared.state_types.OpenCondition as code_condition
use Rattle.vax_macro.specs.declared.state_types.Call as code_call
use Rattle.vax_macro.specs.declared.state_types.State as code_state
use Rattle.vax_macro.specs.declared.state_types.Done as code_done
use Rattle.vax_macro.specs.declared.state_types.Done.TheVariants as dones
use Rattle.vax_macro.specs.declared.state.Parsed as code_parsed
use Rattle.vax_macro.specs.declared.error.FaultKind.{FaultKind}
use Rattle.vax_lex.specs.declared.token.Piece.{Piece}
use Rattle.vax_macro.specs.Heads.{Head}
use Rattle.vax_macro.specs.HeadViews.{head_view}
use Rattle.vax_macro.specs.Lines.{Reading}
use Rattle.vax_macro.specs.LineViews.{reading_of}

abbrev pub opening_of : code_begin.Begin → specs.Opening
opening_of b = record { number = b.number; place = b.place }

abbrev pub use_view : code_use.Use → specs.Use
use_view (uses.Macro name formals) = specs.macro_body name.items (formals_view formals)
use_view (uses.Copies n) = specs.copies_of n
use_view (uses.Each formal texts) = specs.copy_each formal.items (texts_view texts)

abbrev pub pending_view : code_pending.Pending → specs.Pending
pending_view p = record { use_of = use_view p.use_of; begin = opening_of p.begin; depth = p.depth; nested = p.nested; lines = texts_view p.lines }

abbrev pub condition_view : code_condition.OpenCondition → specs.OpenCondition
condition_view c = record { begin = opening_of c.begin; depth = c.depth; outer = c.outer; holds = c.holds; here = c.here }

abbrev pub call_view : code_call.Call → specs.Call
call_view c = record { depth = c.depth; arguments = c.arguments }

abbrev pub macros_of : BTreeMap (Vec ℕ Global) (Rc code_template.Template Global) → List ℕ → Option Template
macros_of m name = option_map (λ rc. template_view rc.value) (by_name m name)

-- what is left to open, where so many lines were read
abbrev pub rest_in : ℕ → code_state.State → Rest
rest_in read s = record {
  dialect = s.dialect;
  lines = lines_of s.lines;
  again = None;
  macros = macros_of s.macros;
  collecting = option_map pending_view s.collecting;
  conditions = map condition_view s.conditions.items;
  calls = map call_view s.calls.items;
  made = s.made;
  read = read;
}

-- what a line did
abbrev pub Acts : code_done.Done → ℕ → code_state.State → directives.Done → Type 0
Acts dones.Goes read after d = d ≡ Goes (rest_in read after)
Acts dones.Gives read after d = d ≡ Gives (rest_in read after)
Acts (dones.Writes text) read after d = d ≡ Writes text.items (rest_in read after)
Acts (dones.Turns text) read after d = d ≡ Turns text.items (rest_in read after)
Acts (dones.Again at) read after d = d ≡ Again at (rest_in read after)
Acts (dones.Label at) read after d = d ≡ Label at (rest_in read after)
Acts (dones.Fails kind) read after d = d ≡ Fails kind

-- a call changes what is left to open so, wherever so many lines were read
abbrev pub Becomes : (Rest → Rest) → (old new : code_state.State) → Type 0
Becomes change old new = (read : ℕ) → rest_in read new ≡ change (rest_in read old)

-- a call does to what is left to open what a line that is read means there; memory may be refused at any time
abbrev pub Obeys : {E : Type 0} → (p : code_parsed.Parsed) → (code_parsed.Parsed → Rest → directives.Done) → Result code_done.Done E → (old new : code_state.State) → Type 0
Obeys p meant result old new = IfOk result (λ d. Acts d p.read new (meant p (rest_in p.read old)))

-- a line that is read, and its head
abbrev pub line_in : code_parsed.Parsed → Reading
line_in p = reading_of p.line.now

abbrev pub head_in : code_parsed.Parsed → Head
head_in p = head_view p.pieces.now p.head

-- where the operands begin in the text
abbrev pub end_in : Option Piece → ℕ
end_in (Some p) = p.end
end_in None = 0

abbrev pub operands_at : code_parsed.Parsed → ℕ
operands_at p = end_in p.head.operator

-- what a directive does unless it has a fault
abbrev pub unless : Option FaultKind → code_done.Done → code_done.Done
unless (Some kind) done = dones.Fails kind
unless None done = done
