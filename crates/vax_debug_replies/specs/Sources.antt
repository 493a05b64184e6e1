-- The lines of sources that stand beside instructions.
use Rattle.std.specs.Prelude.{ℕ, ◌-◌, List, [], ◌++◌, codes, decimal, drop, length, slice_get, take, Option, None, Some}
use Rattle.std.specs.Borrow.{Bor}
use Rattle.vax_prelude.specs.Preludes.{Title, name_at, number_at}
use Rattle.vax_prelude.specs.View.{preludes_seen}
use Rattle.vax_report.specs.Lines.{line}
use Rattle.vax_debug_names.specs.Names.{line_at}
use Rattle.vax_debug_names.specs.declared.Legend.{Legend}
use Rattle.vax_debug_names.specs.declared.SourceLine.{SourceLine}

-- the last of a text, at most so much
abbrev pub last : ℕ → List ℕ → List ℕ
last most text = drop (length text - most) text

-- the name of a file of a program, by its place, and nothing where there is none
abbrev pub name_or_none : Option (Bor (List ℕ)) → List ℕ
name_or_none None = []
name_or_none (Some name) = name.now

abbrev pub file_name : Legend → (file : ℕ) → List ℕ
file_name legend file = name_or_none (slice_get legend.names.now file)

-- the title of a line's source
abbrev pub title_of : Legend → SourceLine → Title
title_of legend l = record { preludes = preludes_seen legend.preludes.now; name = file_name legend l.file }

-- where it is: the last 64 characters of the name of its file, and its number there
unfoldable pub at_line : Legend → SourceLine → List ℕ
at_line legend l = last 64 (name_at (title_of legend l) l.number) ++ codes ":" ++ decimal (number_at (title_of legend l) l.number) ++ codes ": "

-- and the first 132 characters of its text
unfoldable pub statement : Legend → SourceLine → List ℕ
statement legend l = line (at_line legend l ++ take 132 l.text)

abbrev pub statement_if : Legend → Option SourceLine → List ℕ
statement_if legend None = []
statement_if legend (Some l) = statement legend l

-- the line of the statement whose first byte is at an address, if there is one
unfoldable pub source_line : Legend → (address : ℕ) → List ℕ
source_line legend address = statement_if legend (line_at legend.lines.now address)
