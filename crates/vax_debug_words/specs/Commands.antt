-- The words of the commands and of the forms, and what a word means.
use Rattle.std.specs.Prelude.{◌&&◌, Bool, nat_lt, nat_le, List, [], ◌∷◌, codes, length, take, Option, None, Some, if◌then◌else◌}
use Rattle.std.specs.List.{filter}
use Rattle.std.specs.Str.{str_eq_ignore_ascii_case}
use Rattle.vax_lines.specs.Lines.{Text}
use Rattle.vax_debug_words.specs.declared.command.Command.{Command}
use Rattle.vax_debug_words.specs.declared.command.Command.TheVariants as command
use Rattle.vax_debug_words.specs.declared.command.Form.{Form}
use Rattle.vax_debug_words.specs.declared.command.Form.TheVariants as form
use Rattle.vax_debug_words.specs.declared.command.Meaning.{Meaning}
use Rattle.vax_debug_words.specs.declared.command.Meaning.TheVariants.{Unknown, Only, Several}

-- a whole word, in any letter case
abbrev pub is_called : Text → Text → Bool
is_called name word = str_eq_ignore_ascii_case word name

-- the beginning of a name, in any letter case
unfoldable pub begins : Text → Text → Bool
begins name word = nat_lt 0 (length word) && nat_le (length word) (length name) && is_called (take (length word) name) word

unfoldable pub name_of : Command → Text
name_of command.Examine = codes "EXAMINE"
name_of command.Deposit = codes "DEPOSIT"
name_of command.Disassemble = codes "DISASSEMBLE"
name_of command.Step = codes "STEP"
name_of command.Over = codes "OVER"
name_of command.Out = codes "OUT"
name_of command.Go = codes "GO"
name_of command.Until = codes "UNTIL"
name_of command.Break = codes "BREAK"
name_of command.Watch = codes "WATCH"
name_of command.Clear = codes "CLEAR"
name_of command.Show = codes "SHOW"
name_of command.Where = codes "WHERE"
name_of command.Stack = codes "STACK"
name_of command.Queue = codes "QUEUE"
name_of command.Pages = codes "PAGES"
name_of command.Turn = codes "TURN"
name_of command.Evict = codes "EVICT"
name_of command.Restart = codes "RESTART"
name_of command.Save = codes "SAVE"
name_of command.Help = codes "HELP"
name_of command.Quit = codes "QUIT"

unfoldable pub commands : List Command
commands =
    command.Examine ∷ command.Deposit ∷ command.Disassemble ∷ command.Step ∷ command.Over ∷ command.Out
    ∷ command.Go ∷ command.Until ∷ command.Break ∷ command.Watch ∷ command.Clear ∷ command.Show
    ∷ command.Where ∷ command.Stack ∷ command.Queue ∷ command.Pages ∷ command.Turn ∷ command.Evict ∷ command.Restart ∷ command.Save ∷ command.Help ∷ command.Quit ∷ []

-- the commands whose names a word begins
abbrev pub candidates : Text → List Command
candidates word = filter (λ c. begins (name_of c) word) commands

-- none, the only one, or several
abbrev pub only_one : List Command → Meaning
only_one [] = Unknown
only_one (c ∷ []) = Only c
only_one (c ∷ d ∷ more) = Several

abbrev pub meaning : Text → Meaning
meaning word = only_one (candidates word)

unfoldable pub form_of : Text → Option Form
form_of word =
    if begins (codes "BYTE") word then Some form.Byte
    else if begins (codes "WORD") word then Some form.Word
    else if begins (codes "LONG") word then Some form.Long
    else if begins (codes "QUAD") word then Some form.Quad
    else if begins (codes "ASCII") word then Some form.Ascii
    else if begins (codes "INSTRUCTION") word then Some form.Instruction
    else None

-- how each is used
unfoldable pub usage_of : Command → Text
usage_of command.Examine = codes "EXAMINE[/FORM] x [n]     shows a register, PSL, PSL.FIELD or n values in memory"
usage_of command.Deposit = codes "DEPOSIT[/FORM] x v       puts a value into a register, PSL, PSL.FIELD or memory"
usage_of command.Disassemble = codes "DISASSEMBLE [x [n]]      shows n instructions from x or PC on"
usage_of command.Step = codes "STEP [n]                 makes n steps"
usage_of command.Over = codes "OVER                     makes a step, or all of those of a call"
usage_of command.Out = codes "OUT                      goes on to behind the procedure's return"
usage_of command.Go = codes "GO                       goes on up to a stop"
usage_of command.Until = codes "UNTIL x                  goes on up to an address"
usage_of command.Break = codes "BREAK x                  stops before each step at an address"
usage_of command.Watch = codes "WATCH x [n]              stops behind each step that changes n bytes"
usage_of command.Clear = codes "CLEAR [x]                takes the stops at an address away, or all"
usage_of command.Show = codes "SHOW BREAKS or WATCHES   tells where to stop, or what is watched"
usage_of command.Where = codes "WHERE                    shows the frames of calls, arguments and saved registers"
usage_of command.Stack = codes "STACK [n]                shows n longwords of the stack"
usage_of command.Queue = codes "QUEUE x                  follows a queue"
usage_of command.Pages = codes "PAGES                    shows which pages are resident, kept and modified"
usage_of command.Turn = codes "TURN                     makes one attempt at a step"
usage_of command.Evict = codes "EVICT x, EVICT ALL       makes a page absent, or all pages"
usage_of command.Restart = codes "RESTART                  begins the program anew"
usage_of command.Save = codes "SAVE                     puts the state into the record, and ends"
usage_of command.Help = codes "HELP [word]              tells how commands are used"
usage_of command.Quit = codes "QUIT                     ends"
