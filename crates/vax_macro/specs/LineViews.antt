-- What the types of lines and expansions mean.
use Rattle.std.specs.Prelude.{◌≡◌, ℕ, List, [], ◌∷◌, ◌++◌, map, drop, Option, Some, None}
use Rattle.std.specs.List.{flat_map}
use Rattle.std.specs.Str.Lines.{lines}
use Rattle.vax_macro.specs.Lines.{SourceLine, Remainder, Reading, numbered}
use Rattle.vax_macro.specs.Directives.{expansion, copies}
use Rattle.vax_macro.specs.TemplateViews.{line_view, texts_view}
use Rattle.vax_macro.specs.declared.line_types.SourceLine as code_line
use Rattle.vax_macro.specs.declared.line_types.Remainder as code_remainder
use Rattle.vax_macro.specs.declared.line_types.Reading as code_reading
use Rattle.vax_macro.specs.declared.line_types.Frame as code_frame
use Rattle.vax_macro.specs.declared.line_types.Lines as code_lines

abbrev pub line_of : code_line.SourceLine → SourceLine
line_of l = record { number = l.number; depth = l.depth; text = l.text.items }

abbrev pub remainder_of : code_remainder.Remainder → Remainder
remainder_of l = record { number = l.number; depth = l.depth; text = l.text.items; labelled = l.labelled }

abbrev pub reading_of : code_reading.Reading → Reading
reading_of r = record { number = r.number; depth = r.depth; text = r.text.items; parts = texts_view r.parts; labelled = r.labelled }

-- the lines of a whole copy in these texts
abbrev pub copy_in : code_frame.Frame → List (List ℕ) → List SourceLine
copy_in f texts = expansion (map line_view f.template.value.lines.items) f.number f.depth texts

abbrev pub whole_copy : code_frame.Frame → List SourceLine
whole_copy f = copy_in f (texts_view f.texts)

-- the lines of an expansion that are still to come
unfoldable pub frame_lines : code_frame.Frame → List SourceLine
frame_lines f = drop f.at (whole_copy f) ++ (copies f.copies (whole_copy f) ++ flat_map (λ texts. copy_in f (texts_view texts)) f.others.items)

-- the lines of the source that are still to come
unfoldable pub source_of : code_lines.Lines → List SourceLine
source_of l = numbered l.number (lines (drop l.at l.source.items))

-- all that is still to come, the innermost expansion first
unfoldable pub lines_of : code_lines.Lines → List SourceLine
lines_of l = flat_map frame_lines l.frames.items ++ source_of l

-- the next line was taken, if there is one
abbrev pub Takes : List SourceLine → Option code_line.SourceLine → List SourceLine → Type 0
Takes before None after = before ≡ []
Takes before (Some line) after = before ≡ line_of line ∷ after

-- the lines of an expansion that was opened, if one was
abbrev pub opened_lines : Option code_frame.Frame → List SourceLine
opened_lines (Some f) = frame_lines f
opened_lines None = []
