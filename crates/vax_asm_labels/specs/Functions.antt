-- `.ENABLE` and `.DISABLE`: functions of the assembler, by their names (VAX MACRO and Instruction Set Reference Manual, these
-- directives).
use Rattle.std.specs.Prelude.{ℕ, Bool, not, ◌||◌, if◌then◌else◌, List, [], ◌∷◌, Option, Some, None, Result, Ok, Err, codes}
use Rattle.vax_asm_data.specs.Data.{unless_none}
use Rattle.vax_asm_first.specs.Standing.{Standing, with_scope}
use Rattle.vax_asm_labels.specs.Naming.{next_block}
use Rattle.vax_asm_scope.specs.Scope.{assuming}
use Rattle.vax_asm_labels.specs.declared.switches.Function.{Function}
use Rattle.vax_asm_labels.specs.declared.switches.Function.TheVariants.{Idle, Externals, Absolute, LongBlocks}
use Rattle.vax_asm_statement.specs.Items.{name_alone}
use Rattle.vax_asm_statement.specs.Parts.{parts}
use Rattle.vax_lex.specs.Characters.{spells}
use Rattle.vax_lex.specs.Tokens.{token_text}
use Rattle.vax_lex.specs.declared.token.Token.{Token}
use Rattle.vax_macro.specs.declared.error.FaultKind.{FaultKind}
use Rattle.vax_macro.specs.declared.error.FaultKind.TheVariants as fault

-- each has a long name and a short one
abbrev pub is_called : (long short name : List ℕ) → Bool
is_called long short name = spells long name || spells short name

-- those that only a debugger, a linker or floating point is concerned with
abbrev pub is_idle : List ℕ → Bool
is_idle name =
    is_called (codes "DEBUG") (codes "DBG") name || is_called (codes "SUPPRESSION") (codes "SUP") name
    || is_called (codes "TRACEBACK") (codes "TBK") name || is_called (codes "TRUNCATION") (codes "FPT") name

abbrev pub function_of : List ℕ → Option Function
function_of name =
    if is_called (codes "LOCAL_BLOCK") (codes "LSB") name then Some LongBlocks
    else (if is_called (codes "GLOBAL") (codes "GBL") name then Some Externals
    else (if is_called (codes "ABSOLUTE") (codes "AMA") name then Some Absolute
    else (if is_idle name then Some Idle
    else None)))

abbrev pub function_by : List ℕ → Option Token → Option Function
function_by line (Some t) = function_of (token_text line t)
function_by line None = None

-- the function whose name an operand is
abbrev pub function_at : List ℕ → List Token → Option Function
function_at line tokens = function_by line (name_alone line tokens)

-- A function is enabled, or disabled. Names that appear while `GLOBAL` is disabled are no other module's, unless the source says so. That block of local labels which is enabled begins there, and goes on up to the label or section
-- behind its end.
abbrev pub switched : Bool → Option Function → Standing → Result Standing FaultKind
switched on None s = Err fault.Form
switched on (Some Idle) s = Ok s
switched on (Some Externals) s = Ok (with_scope (assuming on s.scope) s)
switched on (Some Absolute) s = Ok (record s { absolute = on })
switched on (Some LongBlocks) s = Ok (record s { scope = next_block (not on) s.scope; keeps_block = on })

abbrev pub then_switched : Bool → Option Function → Result Standing FaultKind → Result Standing FaultKind
then_switched on f (Ok s) = switched on f s
then_switched on f (Err kind) = Err kind

abbrev pub all_switched : Bool → List ℕ → List (List Token) → Result Standing FaultKind → Result Standing FaultKind
all_switched on line [] r = r
all_switched on line (part ∷ parts) r = all_switched on line parts (then_switched on (function_at line part) r)

unfoldable pub functions_stated : Bool → List ℕ → List Token → Standing → Result Standing FaultKind
functions_stated on line tokens s = unless_none tokens (all_switched on line (parts tokens) (Ok s))
