-- What each statement of a source put where (VAX MACRO and Instruction Set Reference Manual, "Location counter").
use Rattle.std.specs.Prelude.{◌≡◌, ℕ, ◌==◌, if◌then◌else◌, List, [], ◌∷◌, map, None, Ok}
use Rattle.vax_asm.specs.View.{Stood}
use Rattle.vax_asm.specs.Walk.{Assembly, names_in, nothing}
use Rattle.vax_asm_first.specs.Standing.{Standing}
use Rattle.vax_asm_first.specs.declared.types.Origin.{Origin}
use Rattle.vax_asm_names.specs.Names.{Name}
use Rattle.vax_asm_scope.specs.Scope.{Scope}
use Rattle.vax_asm_sections.specs.Layout.{current_of, is_absolute, only_counts, place_in}
use Rattle.vax_asm_second.specs.Modules.{filled_in}
use Rattle.vax_asm_values.specs.Values.{value_of}
use Rattle.vax_dialect.specs.declared.Dialect.{Dialect}
use Rattle.vax_macro.specs.Expansion.{AtEnd, Given, opened}
use Rattle.vax_macro.specs.Rest.{Rest, started}
use Rattle.vax_asm_listing.specs.declared.types.Label.{Label}
use Rattle.vax_asm_listing.specs.declared.types.Point.{Point}
use Rattle.vax_asm_listing.specs.declared.types.Row.{Row}
use Rattle.vax_asm_listing.specs.declared.types.Trace.{Trace}

-- where the next statement begins
abbrev pub point_of : Standing → Point
point_of s = record {
  section = s.sections.current;
  offset = place_in (current_of s.sections);
  absolute = is_absolute (current_of s.sections);
  counts = only_counts (current_of s.sections);
}

-- A statement's bytes lie where the section grew that it went into. One that chooses a section has none, and one in a section that only counts none either.
abbrev pub begin_of : (before after : Point) → ℕ
begin_of before after = if before.section == after.section then before.offset else after.offset

abbrev pub row_of : Origin → (text : List ℕ) → (before after : Point) → Row
row_of origin text before after = record {
  origin = origin;
  text = text;
  section = after.section;
  begin = begin_of before after;
  end = after.offset;
  absolute = after.absolute;
  counts = after.counts;
}

-- A statement that stands leads from what was left before to this, and has this row.
pub record Leads (before : Assembly) (row : Row) (after : Assembly) : Type 0 where
  pub stands : Stood row.origin row.text before after
  pub placed : row ≡ row_of row.origin row.text (point_of before.standing) (point_of after.standing)

-- Statements, one after another, lead from what was left before to this, and have these rows.
abbrev pub LeadAll : Assembly → List Row → Assembly → Type 0
LeadAll a [] b = a ≡ b
LeadAll a (row ∷ rows) b = (c : Assembly) × Leads a row c × LeadAll c rows b

-- Where this stands, the next statement of what is left to open has this text. Its line is its origin's, and so is its place, the number of lines that were
-- read with it.
pub record Opens (before : Rest) (a : Assembly) (origin : Origin) (text : List ℕ) (after : Rest) : Type 0 where
  pub steps : ℕ
  pub left : ℕ
  pub given : opened steps (names_in a.standing) before ≡ Given (record { number = origin.line; text = text }) left after
  pub place : origin.place ≡ after.read

-- What is left to open gives statements, one after another, which lead from what was left before to this, and have these rows. This is left to open then.
abbrev pub OpenAll : Rest → Assembly → List Row → Rest → Assembly → Type 0
OpenAll rest a [] end b = (rest ≡ end) × (a ≡ b)
OpenAll rest a (row ∷ rows) end b =
    (after : Rest) × (c : Assembly) × Opens rest a row.origin row.text after × Leads a row c × OpenAll after c rows end b

-- From its beginning on, a source of a dialect gives statements with these rows. This is left to open of it then, and this stands.
abbrev pub AreRowsOf : Dialect → (source : List ℕ) → List Row → Rest → Assembly → Type 0
AreRowsOf dialect source rows left a = OpenAll (started dialect source) (nothing dialect) rows left a

-- nothing comes of what is left to open, and no begin is without its end
abbrev pub IsAtEnd : Rest → Assembly → Type 0
IsAtEnd rest a = (steps : ℕ) × (opened steps (names_in a.standing) rest ≡ AtEnd None)

abbrev pub label_of : Scope → Name → Label
label_of s n = record { name = n.text; global = n.global; value = value_of s.sources n.definition }

-- The rows are those of all statements of a source of a dialect, as its macros, repeats and conditions open, from the first to the last. They lead to its
-- module. These are the names that they leave.
pub record IsTrace (dialect : Dialect) (source : List ℕ) (t : Trace) : Type 0 where
  pub left : Rest
  pub behind : Assembly
  pub rows : AreRowsOf dialect source t.notes.rows.items left behind
  pub ends : IsAtEnd left behind
  pub filled : filled_in behind.standing behind.assignments None ≡ Ok t.module
  pub labels : t.notes.labels.items ≡ map (label_of behind.standing.scope) behind.standing.scope.names.all
