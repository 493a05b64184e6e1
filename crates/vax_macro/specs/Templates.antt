-- What macros and repeats keep of their lines, and what stands in their place (VAX MACRO and Instruction Set Reference
-- Manual, "Macro arguments", "Created local labels" and "String concatenation").
use Rattle.std.specs.Prelude.{ℕ, ◌+◌, ◌-◌, Bool, false, true, ◌&&◌, ◌==◌, nat_lt, List, [], ◌∷◌, ◌++◌, length, take, drop, map, set, replicate, Option, Some, None, unwrap_or, is_some, slice_index, slice_get, decimal, codes, if◌then◌else◌}
use Rattle.vax_lex.specs.Characters.{canonical_name}
use Rattle.vax_lex.specs.Words.{names_of}
use Rattle.vax_lex.specs.declared.token.Span.{Span}
use Rattle.vax_macro.specs.declared.template_types.Slot.{Slot}
use Rattle.vax_macro.specs.Names.{is_name, with_entry}
use Rattle.vax_macro.specs.Arguments.{Argument, begins_with}

-- a formal argument: its name, what stands for a missing one, and whether that is a new label
pub record Formal : Type 0 where
  pub name : List ℕ
  pub default : List ℕ
  pub makes_label : Bool

-- formal arguments, and the place of each name among them
pub record Formals : Type 0 where
  pub list : List Formal
  pub index : List ℕ → Option ℕ

abbrev pub no_formals : Formals
no_formals = record { list = []; index = λ name. None }

abbrev pub with_formal : Formals → Formal → Formals
with_formal fs f = record { list = fs.list ++ f ∷ []; index = with_entry f.name (Some (length fs.list)) fs.index }

-- The formal argument that a text of `.MACRO` gives: `name`, `name=default`, or `?name`.
abbrev pub plain_formal : List ℕ → Option Formal
plain_formal text =
    if is_name text then Some (record { name = canonical_name text; default = []; makes_label = false })
    else (if begins_with 63 text && is_name (drop 1 text) then Some (record { name = canonical_name (drop 1 text); default = []; makes_label = true })
    else None)

abbrev pub formal_text : Option (List ℕ) → Option Formal
formal_text (Some text) = plain_formal text
formal_text None = None

abbrev pub keyword_formal : List ℕ → Option (List ℕ) → Formal
keyword_formal keyword text = record { name = canonical_name keyword; default = unwrap_or text []; makes_label = false }

unfoldable pub formal_of : Argument → Option Formal
formal_of a = elim a.keyword [
  | Some keyword ↦ Some (keyword_formal keyword a.text)
  | None ↦ formal_text a.text
]

-- one more formal argument, whose name is new
abbrev pub added : Formals → Option Formal → Option Formals
added fs (Some f) = if is_some (fs.index f.name) then None else Some (with_formal fs f)
added fs None = None

abbrev pub then_formals : Option Formals → (Formals → Option Formals) → Option Formals
then_formals (Some fs) next = next fs
then_formals None next = None

unfoldable pub formals_from : Formals → List Argument → Option Formals
formals_from fs [] = Some fs
formals_from fs (a ∷ arguments) = then_formals (added fs (formal_of a)) (λ more. formals_from more arguments)

-- which formal argument a name in a line is
abbrev pub slot_at : Span → Option ℕ → Option Slot
slot_at s (Some i) = Some (record { start = s.start; end = s.end; formal = i })
slot_at s None = None

abbrev pub with_slot : Option Slot → List Slot → List Slot
with_slot (Some s) slots = s ∷ slots
with_slot None slots = slots

abbrev pub name_at : List ℕ → Span → List ℕ
name_at text s = canonical_name (take (s.end - s.start) (drop s.start text))

-- the names among these that are formal arguments
abbrev pub slots_in : (List ℕ → Option ℕ) → List ℕ → List Span → List Slot
slots_in index text [] = []
slots_in index text (s ∷ spans) = with_slot (slot_at s (index (name_at text s))) (slots_in index text spans)

-- a line of a body, with the places of formal arguments
pub record BodyLine : Type 0 where
  pub text : List ℕ
  pub slots : List Slot

-- Names are found wherever they stand, also in quoted texts and in the comment.
unfoldable pub body_line : (List ℕ → Option ℕ) → List ℕ → BodyLine
body_line index text = record { text = text; slots = slots_in index text (names_of text) }

-- An apostrophe that touches the name is dropped, before it and behind it.
abbrev pub cut_before : ℕ → ℕ → List ℕ → ℕ
cut_before at start text = if nat_lt at start && (slice_index text (start - 1) == 39) then start - 1 else start

abbrev pub cut_behind : ℕ → List ℕ → ℕ
cut_behind end text = if begins_with 39 (drop end text) then end + 1 else end

-- what stands before a name, and the text in its place
abbrev pub replaced : List (List ℕ) → List ℕ → ℕ → Slot → List ℕ
replaced texts text at s = take (cut_before at s.start text - at) (drop at text) ++ unwrap_or (slice_get texts s.formal) []

-- the texts in place of the names, from a place of the line on
abbrev pub rewritten_from : List (List ℕ) → List ℕ → ℕ → List Slot → List ℕ
rewritten_from texts text at [] = drop at text
rewritten_from texts text at (s ∷ slots) = replaced texts text at s ++ rewritten_from texts text (cut_behind s.end text) slots

abbrev pub rewritten : List (List ℕ) → BodyLine → List ℕ
rewritten texts line = rewritten_from texts line.text 0 line.slots

-- A macro: its formal arguments, and its lines.
pub record Template : Type 0 where
  pub formals : Formals
  pub lines : List BodyLine

abbrev pub template : Formals → List (List ℕ) → Template
template fs texts = record { formals = fs; lines = map (body_line fs.index) texts }

-- which formal argument an argument is for, if it has a keyword
abbrev pub keyword_index : Formals → Option (List ℕ) → Option ℕ
keyword_index fs (Some keyword) = fs.index (canonical_name keyword)
keyword_index fs None = None

-- the texts that arguments have given so far, and the next place for one without a keyword, which is the number of those
pub record Giving : Type 0 where
  pub next : ℕ
  pub texts : List (Option (List ℕ))

-- An argument is for its keyword's place or for the next one, if there is one. Of two for one place the later counts.
abbrev pub given_to : Option ℕ → Option (List ℕ) → Giving → Option Giving
given_to (Some i) text g = Some (record { next = g.next; texts = set g.texts i text })
given_to None text g = if nat_lt g.next (length g.texts) then Some (record { next = g.next + 1; texts = set g.texts g.next text }) else None

abbrev pub then_given : Option Giving → (Giving → Option Giving) → Option Giving
then_given (Some g) next = next g
then_given None next = None

unfoldable pub given_from : Formals → List Argument → Giving → Option Giving
given_from fs [] g = Some g
given_from fs (a ∷ arguments) g = then_given (given_to (keyword_index fs a.keyword) a.text g) (λ more. given_from fs arguments more)

-- What arguments give to formal ones: nothing if there are more places than formal arguments.
abbrev pub assigned : Formals → List Argument → Option Giving
assigned fs arguments = given_from fs arguments (record { next = 0; texts = replicate (length fs.list) None })

-- a made label: 30000$, 30001$ and so on
abbrev pub made_label : ℕ → List ℕ
made_label made = decimal (30000 + made) ++ codes "$"

-- the texts of formal arguments, and how many labels have been made
pub record Filled : Type 0 where
  pub texts : List (List ℕ)
  pub made : ℕ

abbrev pub with_text : List ℕ → Filled → Filled
with_text text f = record f { texts = text ∷ f.texts }

abbrev pub filled_with : ℕ → Formal → Option (List ℕ) → (ℕ → Filled) → Filled
filled_with made f (Some text) next = with_text text (next made)
filled_with made f None next = if f.makes_label then with_text (made_label made) (next (made + 1)) else with_text f.default (next made)

unfoldable pub filled : ℕ → List Formal → List (Option (List ℕ)) → Filled
filled made [] texts = record { texts = []; made = made }
filled made (f ∷ formals) [] = record { texts = []; made = made }
filled made (f ∷ formals) (t ∷ texts) = filled_with made f t (λ m. filled m formals texts)
