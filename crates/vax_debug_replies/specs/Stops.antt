-- The lines that tell where steps stopped, and where they are to stop.
use Rattle.std.specs.Prelude.{ℕ, List, [], ◌∷◌, ◌++◌, codes, decimal, Option, None, Some}
use Rattle.vax_report.specs.Lines.{ending_line, line}
use Rattle.vax_report.specs.declared.Last.{Last}
use Rattle.vax_debug_names.specs.declared.Legend.{Legend}
use Rattle.vax_debug_replies.specs.Instructions.{instruction_line}
use Rattle.vax_debug_replies.specs.Places.{place}
use Rattle.vax_debug_replies.specs.Sources.{source_line}
use Rattle.vax_debug_replies.specs.Values.{head, value}

-- why the machine stands still, if there is a reason
abbrev pub reason : Option Last → List ℕ
reason None = []
reason (Some last) = ending_line last

-- the instruction at PC, and below it the statement that it came from
unfoldable pub here : Legend → (address : ℕ) → List (Option ℕ) → List ℕ
here legend address cells = codes "AT " ++ instruction_line legend address cells ++ source_line legend address

-- an address at which steps stop
unfoldable pub break_line : Legend → ℕ → List ℕ
break_line legend address = line (codes "BREAK " ++ place legend address)

-- bytes that are watched: where they begin, and how many they are
abbrev pub watch_line : Legend → (address count : ℕ) → List ℕ
watch_line legend address count = codes "WATCH " ++ place legend address ++ codes ": " ++ decimal count ++ 10 ∷ []

-- watched bytes before and behind a step that changed them, the highest byte first
unfoldable pub change_line : Legend → (address : ℕ) → (before after : List (Option ℕ)) → List ℕ
change_line legend address before after =
    (codes "WATCH " ++ head legend address) ++ value before ++ codes " -> " ++ value after ++ 10 ∷ []
