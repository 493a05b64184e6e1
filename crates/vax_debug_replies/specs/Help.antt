-- How commands are used, why a line isn't understood, and where steps are to stop.
use Rattle.std.specs.Prelude.{ℕ, List, [], ◌∷◌, ◌++◌, codes, Option, None, Some, if◌then◌else◌}
use Rattle.std.specs.List.{flat_map}
use Rattle.vax_debug_words.specs.Commands.{commands, usage_of}
use Rattle.vax_debug_words.specs.Requests.{is_meant}
use Rattle.vax_debug_words.specs.declared.command.Command.{Command}
use Rattle.vax_debug_words.specs.declared.request.Refusal.{Refusal}
use Rattle.vax_debug_words.specs.declared.request.Refusal.TheVariants as refusal
use Rattle.vax_debug_names.specs.declared.Legend.{Legend}
use Rattle.vax_debug_replies.specs.Stops.{break_line}

abbrev pub usage_line : Command → List ℕ
usage_line command = usage_of command ++ 10 ∷ []

-- of a command that a line may have meant
abbrev pub usage_if : Refusal → List ℕ → Command → List ℕ
usage_if why line command = if is_meant why line command then usage_line command else []

abbrev pub usages : Refusal → List ℕ → List Command → List ℕ
usages why line among = flat_map (usage_if why line) among

-- why a line isn't understood
abbrev pub refusal_line : Refusal → List ℕ
refusal_line refusal.Length = codes "?LENGTH\n"
refusal_line refusal.Unknown = codes "?COMMAND\n"
refusal_line refusal.Several = codes "?AMBIGUOUS\n"
refusal_line (refusal.Usage command) = codes "?USAGE\n"

-- and what may have been meant
unfoldable pub refused : Refusal → List ℕ → List ℕ
refused why line = refusal_line why ++ usages why line commands

-- how one command is used, or all
unfoldable pub help : Option Command → List ℕ
help (Some command) = usage_line command
help None = flat_map usage_line commands

-- where steps are to stop, or that they aren't
unfoldable pub breaks_shown : Legend → List ℕ → List ℕ
breaks_shown legend [] = codes "NO BREAKS\n"
breaks_shown legend (address ∷ breaks) = flat_map (break_line legend) (address ∷ breaks)
