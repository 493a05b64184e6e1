-- What the lines of a source do: definitions of macros, calls, repeats and conditions (VAX MACRO and Instruction Set
-- Reference Manual, directives `.MACRO` to `.ENDR`).
use Rattle.std.specs.Prelude.{ℕ, ℤ, pos, negsuc, zero, suc, ◌+◌, ◌-◌, Bool, true, false, not, ◌&&◌, ◌||◌, ◌==◌, nat_le, nat_lt, List, [], ◌∷◌, ◌++◌, length, take, drop, map, Option, Some, None, unwrap_or, is_some, Result, Ok, Err, codes, decimal, if◌then◌else◌}
use Rattle.std.specs.List.{flat_map, prefix_len}
use Rattle.vax_lex.specs.Characters.{is_blank, canonical_name, spells}
use Rattle.vax_lex.specs.declared.token.Piece.{Piece}
use Rattle.vax_lex.specs.Values.{Sense}
use Rattle.vax_dialect.specs.Differences.{has_argument_forms, has_arguments_by_value, has_macro_directives, has_negative_repeats, has_string_operators}
use Rattle.vax_dialect.specs.declared.Dialect.{Dialect}
use Rattle.vax_macro.specs.declared.error.FaultKind.{FaultKind}
use Rattle.vax_macro.specs.declared.error.FaultKind.TheVariants as faults
use Rattle.vax_macro.specs.Names.{is_name, with_entry}
use Rattle.vax_macro.specs.Arguments.{Argument, arguments, behind_blanks, begins_with, closing, is_no_separator, name_length}
use Rattle.vax_macro.specs.Heads.{Head, Word, macro_word, end_macro, repeat, repeat_arguments, repeat_characters, end_repeat, if_word, if_false, if_true, if_true_false, end_if, immediate_if, leave_word, argument_count, character_count, delete_word, opcode_word, end_word, other_word, word_in, known_word, piece_text, has_bad, has_unprintable, code_end, code_from}
use Rattle.vax_macro.specs.Templates.{Formals, no_formals, with_formal, formals_from, BodyLine, Template, template, rewritten, assigned, Giving, Filled, filled}
use Rattle.vax_macro.specs.Conditions.{has_comma, number_in, condition_in, guarded_in, no_keyword}
use Rattle.vax_macro.specs.Opcodes.{Opcode, opcode_in, opcode_lines, operand_formals}
use Rattle.vax_macro.specs.Lines.{SourceLine, Reading}
use Rattle.vax_macro.specs.Values.{all_by_value}
use Rattle.vax_macro.specs.Strings.{Evaluated, Found, evaluated, last_operator}
use Rattle.vax_macro.specs.Rest.{Opening, Use, macro_body, copies_of, copy_each, Pending, OpenCondition, Call, Rest}

-- a statement: the number of its line, and its text
pub record Statement : Type 0 where
  pub number : ℕ
  pub text : List ℕ

-- What a line does: it changes what is left to open, it is a statement, a text is one in its place, it is read again as this
-- text, what is behind a place is read as a line of its own, a label up to a place is a statement and the line is read again without it, or it has a fault.
pub data Done : Type 0 where
  Goes : Rest → Done
  Gives : Rest → Done
  Writes : List ℕ → Rest → Done
  Turns : List ℕ → Rest → Done
  Again : (at : ℕ) → Rest → Done
  Label : (at : ℕ) → Rest → Done
  Fails : FaultKind → Done

-- ---- Expansions

-- the lines that a template stands for with these texts
abbrev pub expansion : List BodyLine → ℕ → ℕ → List (List ℕ) → List SourceLine
expansion lines number depth texts = map (λ line. record { number = number; depth = depth; text = rewritten texts line }) lines

abbrev pub copies : ℕ → List SourceLine → List SourceLine
copies zero lines = []
copies (suc n) lines = lines ++ copies n lines

-- an expansion for each of these texts
abbrev pub expansions : List BodyLine → ℕ → ℕ → List (List ℕ) → List SourceLine
expansions lines number depth texts = flat_map (λ text. expansion lines number depth (text ∷ [])) texts

-- a macro is at a name
abbrev pub with_macro : List ℕ → Template → Rest → Rest
with_macro name t rest = record rest { macros = with_entry name (Some t) rest.macros }

-- expansions and conditions that a line stands in
abbrev pub is_deep : Reading → Rest → Bool
is_deep line rest = nat_le 64 (line.depth + length rest.conditions)

abbrev pub opening : Reading → Rest → Opening
opening line rest = record { number = line.number; place = rest.read }

abbrev pub one_formal : List ℕ → Formals
one_formal name = with_formal no_formals (record { name = name; default = []; makes_label = false })

-- ---- Bodies

abbrev pub begins : Use → Word → Bool
begins (macro_body name fs) macro_word = true
begins (copies_of n) repeat = true
begins (copies_of n) repeat_arguments = true
begins (copies_of n) repeat_characters = true
begins (copy_each name texts) repeat = true
begins (copy_each name texts) repeat_arguments = true
begins (copy_each name texts) repeat_characters = true
begins _ _ = false

abbrev pub ends : Use → Word → Bool
ends (macro_body name fs) end_macro = true
ends (copies_of n) end_repeat = true
ends (copy_each name texts) end_repeat = true
ends _ _ = false

abbrev pub nested_after : Use → Word → ℕ → ℕ
nested_after u word n = if begins u word then n + 1 else (if ends u word then n - 1 else n)

-- so many copies of these lines
abbrev pub line_copies : ℕ → List (List ℕ) → ℕ → ℕ → List SourceLine
line_copies count lines number depth = copies count (expansion (template no_formals lines).lines number depth [])

-- a copy of these lines for each text of a formal argument
abbrev pub lines_for_each : List ℕ → List (List ℕ) → ℕ → ℕ → List (List ℕ) → List SourceLine
lines_for_each name lines number depth texts = expansions (template (one_formal name) lines).lines number depth texts

-- the calls whose lines stand in no more than so many expansions
abbrev pub calls_within : ℕ → List Call → List Call
calls_within depth [] = []
calls_within depth (c ∷ calls) = if nat_le c.depth depth then c ∷ calls else calls_within depth calls

-- lines that stand in so many expansions come next: calls whose lines stand in as many are over
abbrev pub with_expansion : ℕ → List SourceLine → Rest → Rest
with_expansion depth lines rest = record rest { lines = lines ++ rest.lines; calls = calls_within (depth - 1) rest.calls }

-- a macro is defined; the copies of a repeat come next
unfoldable pub finished : Pending → Rest → Rest
finished p rest = elim p.use_of [
  | macro_body name fs ↦ with_macro name (template fs p.lines) rest
  | copies_of n ↦ with_expansion p.depth (line_copies n p.lines p.begin.number p.depth) rest
  | copy_each name texts ↦ with_expansion p.depth (lines_for_each name p.lines p.begin.number p.depth texts) rest
]

-- The fault of a directive that has no operands, if it has some.
abbrev pub operands_fault : List Piece → List Piece → Option FaultKind
operands_fault pieces operands =
    if has_bad pieces then Some faults.Token else (if length operands == 0 then None else Some faults.Count)

abbrev pub unless_fault : Option FaultKind → Done → Done
unless_fault (Some kind) done = Fails kind
unless_fault None done = done

abbrev pub unless_operands : List Piece → Head → Done → Done
unless_operands pieces head done = unless_fault (operands_fault pieces head.operands) done

-- The one operand of an `.ENDM` is the name of the macro that ends here, if one does, in letters of either case.
abbrev pub is_named : List ℕ → Option (List ℕ) → List Piece → Bool
is_named text None operands = false
is_named text (Some name) [] = false
is_named text (Some name) (p ∷ []) = spells name (piece_text text p)
is_named text (Some name) (p ∷ q ∷ operands) = false

abbrev pub end_fault : List ℕ → Option (List ℕ) → List Piece → List Piece → Option FaultKind
end_fault text name pieces operands =
    if has_bad pieces then Some faults.Token
    else (if length operands == 0 then None
    else (if has_comma operands then Some faults.Count
    else (if is_named text name operands then None else Some faults.Form)))

-- the fault of a line that ends a body
abbrev pub body_fault : Use → List ℕ → List Piece → List Piece → Option FaultKind
body_fault (macro_body name fs) text pieces operands = end_fault text (Some name) pieces operands
body_fault (copies_of n) text pieces operands = operands_fault pieces operands
body_fault (copy_each name texts) text pieces operands = operands_fault pieces operands

-- A label stands before, and was not handed out yet.
abbrev pub has_label : Reading → Head → Bool
has_label line head = not line.labelled && not (head.label_end == 0)

unfoldable pub collect : Pending → Reading → List Piece → Head → Rest → Done
collect p line pieces head rest =
    let word = word_in line.text head.operator in
    if (p.nested == 0) && ends p.use_of word then
    (if has_label line head then Label head.label_end (record rest { collecting = Some p })
    else unless_fault (body_fault p.use_of line.text pieces head.operands) (Goes (finished p rest)))
    else Goes (record rest { collecting = Some (record p { nested = nested_after p.use_of word p.nested; lines = p.lines ++ line.parts }) })

-- ---- Conditions

abbrev pub is_skipping : List OpenCondition → Bool
is_skipping [] = false
is_skipping (c ∷ conditions) = not (c.outer && c.here)

abbrev pub open_condition : Reading → Bool → Bool → Rest → Done
open_condition line outer holds rest =
    if is_deep line rest then Fails faults.Depth
    else Goes (record rest { conditions = record { begin = opening line rest; depth = line.depth; outer = outer; holds = holds; here = holds } ∷ rest.conditions })

unfoldable pub begin_condition : Sense → Reading → Head → Rest → Done
begin_condition names line head rest = elim (condition_in names line.text head.operands) [
  | Ok holds ↦ open_condition line true holds rest
  | Err kind ↦ Fails kind
]

-- the part of a condition that is read: where it does not hold, where it does, or in either case
abbrev pub switched : Word → OpenCondition → Bool
switched if_false c = not c.holds
switched if_true c = c.holds
switched _ c = true

-- `.IFF`, `.IFT`, `.IFTF` and `.ENDC`. In text that is skipped anyway their operands are not looked at.
abbrev pub or_nesting : Option FaultKind → Option FaultKind
or_nesting (Some kind) = Some kind
or_nesting None = Some faults.Nesting

abbrev pub condition_fault : List Piece → Head → List OpenCondition → Option FaultKind
condition_fault pieces head [] = or_nesting (operands_fault pieces head.operands)
condition_fault pieces head (c ∷ conditions) = if c.outer then operands_fault pieces head.operands else None

abbrev pub at_condition : List Piece → Head → List OpenCondition → Done → Done
at_condition pieces head conditions done = unless_fault (condition_fault pieces head conditions) done

abbrev pub switch : Word → List OpenCondition → List OpenCondition
switch word [] = []
switch word (c ∷ conditions) = record c { here = switched word c } ∷ conditions

unfoldable pub switch_condition : Word → List Piece → Head → Rest → Done
switch_condition word pieces head rest = at_condition pieces head rest.conditions (Goes (record rest { conditions = switch word rest.conditions }))

unfoldable pub end_condition : List Piece → Head → Rest → Done
end_condition pieces head rest = at_condition pieces head rest.conditions (Goes (record rest { conditions = drop 1 rest.conditions }))

-- a line of skipped text
unfoldable pub skip : Reading → List Piece → Head → Rest → Done
skip line pieces head rest = elim (word_in line.text head.operator) [
  | if_word ↦ open_condition line false false rest
  | end_if ↦ end_condition pieces head rest
  | if_false ↦ switch_condition if_false pieces head rest
  | if_true ↦ switch_condition if_true pieces head rest
  | if_true_false ↦ switch_condition if_true_false pieces head rest
  | _ ↦ Goes rest
]

-- `.IIF`
unfoldable pub guard : Sense → Reading → Head → Rest → Done
guard names line head rest = elim (guarded_in names line.text head.operands) [
  | Ok g ↦ if g.holds then Again g.statement rest else Goes rest
  | Err kind ↦ Fails kind
]

-- ---- Begins of macros and repeats

abbrev pub with_pending : Use → Reading → ℕ → Rest → Rest
with_pending u line depth rest = record rest { collecting = Some (record { use_of = u; begin = opening line rest; depth = depth; nested = 0; lines = [] }) }

abbrev pub begin_copies : Use → Reading → Rest → Done
begin_copies u line rest = if is_deep line rest then Fails faults.Depth else Goes (with_pending u line (line.depth + 1) rest)

-- a negative count is none, or a fault
abbrev pub negative_count : Bool → Result ℕ FaultKind
negative_count true = Ok 0
negative_count false = Err faults.Range

abbrev pub count_of : Dialect → ℤ → Result ℕ FaultKind
count_of dialect (pos n) = Ok n
count_of dialect (negsuc n) = negative_count (has_negative_repeats dialect)

abbrev pub then_count : Dialect → Result ℤ FaultKind → Result ℕ FaultKind
then_count dialect (Ok n) = count_of dialect n
then_count dialect (Err kind) = Err kind

unfoldable pub begin_repeat : Sense → Reading → Head → Rest → Done
begin_repeat names line head rest = elim (then_count rest.dialect (number_in names line.text head.operands)) [
  | Ok n ↦ begin_copies (copies_of n) line rest
  | Err kind ↦ Fails kind
]

-- The operands of `.MACRO`: a name, perhaps a comma, and formal arguments.
abbrev pub behind_comma : List ℕ → List ℕ
behind_comma text = if begins_with 44 (behind_blanks text) then behind_blanks (drop 1 (behind_blanks text)) else behind_blanks text

abbrev pub then_formals_from : Option (List Argument) → Option Formals
then_formals_from None = None
then_formals_from (Some arguments) = formals_from no_formals arguments

-- what is behind the name begins with a blank or a comma
abbrev pub is_parted : List ℕ → Bool
is_parted [] = true
is_parted (b ∷ text) = is_blank b || (b == 44)

-- a comma behind the name has formal arguments behind it
abbrev pub is_cut_off : List ℕ → Bool
is_cut_off text = begins_with 44 (behind_blanks text) && (length (behind_comma text) == 0)

abbrev pub macro_formals : List ℕ → Option Formals
macro_formals text =
    if not (is_parted text) || is_cut_off text then None else then_formals_from (arguments false is_name (behind_comma text))

abbrev pub begin_body : List ℕ → Option Formals → Reading → Rest → Done
begin_body name None line rest = Fails faults.Form
begin_body name (Some fs) line rest = Goes (with_pending (macro_body name fs) line 0 rest)

unfoldable pub begin_macro : Reading → Head → ℕ → Rest → Done
begin_macro line head at rest =
    let text = behind_blanks (code_from at head.operands line.text) in
    if has_unprintable line.text head.operands then Fails faults.Token
    else (if length text == 0 then Fails faults.Count
    else (if is_name (take (name_length text) text) then begin_body (canonical_name (take (name_length text) text)) (macro_formals (drop (name_length text) text)) line rest
    else Fails faults.Form))

-- The operands of `.IRP` and `.IRPC`: a formal argument, a comma or blanks, and a text, which stands in brackets.
abbrev pub listed_end : List ℕ → ℕ → Result (List ℕ) FaultKind
listed_end text n =
    if length (behind_blanks (drop (n + 1) text)) == 0 then Ok (take n text)
    else (if begins_with 44 (behind_blanks (drop (n + 1) text)) then Err faults.Count else Err faults.Form)

abbrev pub listed_in : List ℕ → Option ℕ → Result (List ℕ) FaultKind
listed_in text None = Err faults.Form
listed_in text (Some n) = listed_end text n

unfoldable pub listed : List ℕ → Result (List ℕ) FaultKind
listed text = if begins_with 60 text then listed_in (drop 1 text) (closing 0 (drop 1 text)) else Err faults.Form

abbrev pub formal_name : List ℕ → Option (List ℕ)
formal_name text = if is_name text then Some (canonical_name text) else None

-- a name and a text
pub record Iterated : Type 0 where
  pub name : List ℕ
  pub text : List ℕ

abbrev pub iterated : Option (List ℕ) → Result (List ℕ) FaultKind → Result Iterated FaultKind
iterated name (Err kind) = Err kind
iterated None (Ok text) = Err faults.Form
iterated (Some name) (Ok text) = Ok (record { name = name; text = text })

-- operands of which so many bytes are the formal argument
abbrev pub iterated_at : List ℕ → ℕ → Result Iterated FaultKind
iterated_at text n =
    if length (drop n text) == 0 then Err faults.Count
    else iterated (formal_name (take n text)) (listed (behind_comma (drop n text)))

abbrev pub iterated_from : List ℕ → Result Iterated FaultKind
iterated_from text = iterated_at text (prefix_len is_no_separator text)

-- The operands are a name and a text.
abbrev pub two_texts : Option (List Argument) → Result Iterated FaultKind
two_texts None = Err faults.Form
two_texts (Some (a ∷ b ∷ [])) = Ok (record { name = unwrap_or a.text []; text = unwrap_or b.text [] })
two_texts (Some _) = Err faults.Count

abbrev pub iterated_two : Result Iterated FaultKind → Result Iterated FaultKind
iterated_two (Ok i) = iterated (formal_name i.name) (Ok i.text)
iterated_two (Err kind) = Err kind

-- In the larger language both are arguments as a macro has them, so that the text needs brackets only where it has blanks or commas.
abbrev pub iterated_by : Bool → List ℕ → List Piece → ℕ → Result Iterated FaultKind
iterated_by true text operands at = iterated_two (two_texts (arguments true no_keyword (drop at text)))
iterated_by false text operands at = iterated_from (behind_blanks (code_from at operands text))

unfoldable pub iterated_in : (larger : Bool) → List ℕ → List Piece → ℕ → Result Iterated FaultKind
iterated_in larger text operands at =
    if has_unprintable text operands then Err faults.Token else iterated_by larger text operands at

abbrev pub argument_texts : List Argument → List (List ℕ)
argument_texts arguments = map (λ a. unwrap_or a.text []) arguments

abbrev pub character_texts : List ℕ → List (List ℕ)
character_texts text = map (λ b. b ∷ []) text

abbrev pub begin_each : List ℕ → Option (List Argument) → Reading → Rest → Done
begin_each name None line rest = Fails faults.Form
begin_each name (Some arguments) line rest = begin_copies (copy_each name (argument_texts arguments)) line rest

unfoldable pub begin_arguments : Reading → Head → ℕ → Rest → Done
begin_arguments line head at rest = elim (iterated_in (has_argument_forms rest.dialect) line.text head.operands at) [
  | Ok i ↦ begin_each i.name (arguments (has_argument_forms rest.dialect) no_keyword i.text) line rest
  | Err kind ↦ Fails kind
]

unfoldable pub begin_characters : Reading → Head → ℕ → Rest → Done
begin_characters line head at rest = elim (iterated_in (has_argument_forms rest.dialect) line.text head.operands at) [
  | Ok i ↦ begin_copies (copy_each i.name (character_texts i.text)) line rest
  | Err kind ↦ Fails kind
]

-- ---- Calls

-- The text of operands. In the larger language it is the arguments that tell where a comment begins.
abbrev pub operands_from : Bool → List ℕ → List Piece → ℕ → List ℕ
operands_from larger text operands at = if larger then drop at text else code_from at operands text

abbrev pub with_call : ℕ → ℕ → Rest → Rest
with_call depth arguments rest = record rest { calls = record { depth = depth; arguments = arguments } ∷ rest.calls }

abbrev pub open_call : Template → ℕ → Filled → Reading → Rest → Done
open_call t arguments f line rest =
    if is_deep line rest then Fails faults.Depth
    else Goes (with_call (line.depth + 1) arguments
    (with_expansion (line.depth + 1) (expansion t.lines line.number (line.depth + 1) f.texts) (record rest { made = f.made })))

abbrev pub call_with : Template → Option Giving → Reading → Rest → Done
call_with t None line rest = Fails faults.Count
call_with t (Some g) line rest = open_call t g.next (filled rest.made t.formals.list g.texts) line rest

-- arguments as they are passed
abbrev pub passed : Bool → Sense → List Argument → Result (List Argument) FaultKind
passed true names arguments = all_by_value names arguments
passed false names arguments = Ok arguments

abbrev pub call_of : Template → Result (List Argument) FaultKind → Reading → Rest → Done
call_of t (Ok arguments) line rest = call_with t (assigned t.formals arguments) line rest
call_of t (Err kind) line rest = Fails kind

abbrev pub call_by : Sense → Template → Option (List Argument) → Reading → Rest → Done
call_by names t None line rest = Fails faults.Form
call_by names t (Some arguments) line rest = call_of t (passed (has_arguments_by_value rest.dialect) names arguments) line rest

-- A keyword is the name of a formal argument.
abbrev pub is_formal : Formals → List ℕ → Bool
is_formal fs name = is_name name && is_some (fs.index (canonical_name name))

unfoldable pub call : Sense → Template → Reading → Head → ℕ → Rest → Done
call names t line head at rest =
    if has_unprintable line.text head.operands then Fails faults.Token
    else call_by names t (arguments (has_argument_forms rest.dialect) (is_formal t.formals) (operands_from (has_argument_forms rest.dialect) line.text head.operands at)) line rest

-- ---- `.MEXIT`

-- the lines behind those that stand in so many expansions or more
abbrev pub lines_outside : ℕ → List SourceLine → List SourceLine
lines_outside depth [] = []
lines_outside depth (l ∷ lines) = if nat_lt l.depth depth then l ∷ lines else lines_outside depth lines

-- the conditions that were opened outside of as many expansions
abbrev pub conditions_outside : ℕ → List OpenCondition → List OpenCondition
conditions_outside depth [] = []
conditions_outside depth (c ∷ conditions) = if nat_lt c.depth depth then c ∷ conditions else conditions_outside depth conditions

-- What is left of the innermost expansion isn't read, and the conditions that it opened are closed. Outside of every expansion nothing is left.
abbrev pub left_at : ℕ → Rest → Done
left_at depth rest =
    if depth == 0 then Fails faults.Nesting
    else Goes (record rest { lines = lines_outside depth rest.lines; conditions = conditions_outside depth rest.conditions })

unfoldable pub leave : Reading → List Piece → Head → Rest → Done
leave line pieces head rest = unless_operands pieces head (left_at line.depth rest)

-- ---- `.NARG`, `.NCHR` and `.MDELETE`

-- A statement that gives a number to a name. So the name may have been given one before.
abbrev pub assignment : List ℕ → ℕ → List ℕ
assignment name n = name ++ codes "=" ++ decimal n

abbrev pub assigns : List ℕ → ℕ → Rest → Done
assigns name n rest = if is_name name then Writes (assignment name n) rest else Fails faults.Form

-- how many arguments the innermost call has
abbrev pub innermost : List Call → Option ℕ
innermost [] = None
innermost (c ∷ calls) = Some c.arguments

abbrev pub counted : List ℕ → Option ℕ → Rest → Done
counted name None rest = Fails faults.Nesting
counted name (Some n) rest = assigns name n rest

abbrev pub one_piece : List Piece → Option Piece
one_piece (p ∷ []) = Some p
one_piece _ = None

abbrev pub counted_in : List ℕ → Option Piece → Rest → Done
counted_in text None rest = Fails faults.Count
counted_in text (Some p) rest = counted (piece_text text p) (innermost rest.calls) rest

-- The one operand is a name. Outside of every macro there are no arguments.
unfoldable pub count_arguments : Reading → List Piece → Head → Rest → Done
count_arguments line pieces head rest =
    if has_bad pieces then Fails faults.Token
    else counted_in line.text (one_piece head.operands) (record rest { calls = calls_within line.depth rest.calls })

abbrev pub measured : Result Iterated FaultKind → Rest → Done
measured (Ok i) rest = assigns i.name (length i.text) rest
measured (Err kind) rest = Fails kind

unfoldable pub count_characters : Reading → Head → ℕ → Rest → Done
count_characters line head at rest =
    if has_unprintable line.text head.operands then Fails faults.Token
    else measured (two_texts (arguments (has_argument_forms rest.dialect) no_keyword (operands_from (has_argument_forms rest.dialect) line.text head.operands at))) rest

-- The macros of these names are no longer there, if they were.
abbrev pub without_macro : List ℕ → Rest → Rest
without_macro name rest = record rest { macros = with_entry (canonical_name name) None rest.macros }

abbrev pub delete_all : List Argument → Rest → Done
delete_all [] rest = Goes rest
delete_all (a ∷ arguments) rest =
    if is_name (unwrap_or a.text []) then delete_all arguments (without_macro (unwrap_or a.text []) rest) else Fails faults.Form

abbrev pub delete_listed : Option (List Argument) → Rest → Done
delete_listed None rest = Fails faults.Form
delete_listed (Some []) rest = Fails faults.Count
delete_listed (Some (a ∷ arguments)) rest = delete_all (a ∷ arguments) rest

unfoldable pub delete_macros : Reading → Head → ℕ → Rest → Done
delete_macros line head at rest =
    if has_unprintable line.text head.operands then Fails faults.Token
    else delete_listed (arguments (has_argument_forms rest.dialect) no_keyword (operands_from (has_argument_forms rest.dialect) line.text head.operands at)) rest

-- ---- `.OPDEF`

-- an opcode is a macro of its name, with a formal argument for each operand
abbrev pub with_opcode : Opcode → Rest → Rest
with_opcode o rest =
    with_macro o.name (template (operand_formals (length o.operands)) (opcode_lines o.number o.operands)) rest

abbrev pub opcode_defined : Result Opcode FaultKind → Rest → Done
opcode_defined (Ok o) rest = Goes (with_opcode o rest)
opcode_defined (Err kind) rest = Fails kind

unfoldable pub define_opcode : Sense → Reading → Head → Rest → Done
define_opcode names line head rest = opcode_defined (opcode_in names line.text head.operands) rest

-- ---- A line that is read

-- A label before a directive or a call is a statement of its own. The rest of the line is read with its label once more.
abbrev pub behind_label : Reading → Head → Rest → Done → Done
behind_label line head rest done = if has_label line head then Label head.label_end rest else done

unfoldable pub direct : Sense → Word → Reading → List Piece → Head → ℕ → Rest → Done
direct names word line pieces head at rest = elim word [
  | macro_word ↦ begin_macro line head at rest
  | end_macro ↦ unless_fault (end_fault line.text None pieces head.operands) (Fails faults.Nesting)
  | repeat ↦ begin_repeat names line head rest
  | repeat_arguments ↦ begin_arguments line head at rest
  | repeat_characters ↦ begin_characters line head at rest
  | end_repeat ↦ unless_operands pieces head (Fails faults.Nesting)
  | if_word ↦ begin_condition names line head rest
  | if_false ↦ switch_condition if_false pieces head rest
  | if_true ↦ switch_condition if_true pieces head rest
  | if_true_false ↦ switch_condition if_true_false pieces head rest
  | end_if ↦ end_condition pieces head rest
  | immediate_if ↦ guard names line head rest
  | leave_word ↦ leave line pieces head rest
  | argument_count ↦ count_arguments line pieces head rest
  | character_count ↦ count_characters line head at rest
  | delete_word ↦ delete_macros line head at rest
  | opcode_word ↦ define_opcode names line head rest
  | end_word ↦ Gives rest
  | other_word ↦ Gives rest
]

abbrev pub read_word : Sense → Word → Reading → List Piece → Head → ℕ → Rest → Done
read_word names end_word line pieces head at rest = Gives (record rest { lines = [] })
read_word names other_word line pieces head at rest = Gives rest
read_word names word line pieces head at rest = behind_label line head rest (direct names word line pieces head at rest)

-- A macro comes before a directive of its name.
abbrev pub read_operator : Sense → Reading → List Piece → Head → Piece → Option Template → Rest → Done
read_operator names line pieces head operator (Some t) rest = behind_label line head rest (call names t line head operator.end rest)
read_operator names line pieces head operator None rest =
    read_word names (known_word (has_macro_directives rest.dialect) (word_in line.text (Some operator))) line pieces head operator.end rest

unfoldable pub read : Sense → Reading → List Piece → Head → Rest → Done
read names line pieces head rest = elim head.operator [
  | None ↦ Gives rest
  | Some operator ↦ read_operator names line pieces head operator (rest.macros (canonical_name (piece_text line.text operator))) rest
]

-- the operator on texts that is carried out first in a line, of which so many bytes stand before the comment
abbrev pub operator_within : Bool → ℕ → List ℕ → Option Found
operator_within true end text = last_operator end text
operator_within false end text = None

-- the line with the value in the operator's place
abbrev pub with_value : List ℕ → Found → Evaluated → Rest → Done
with_value text f (Ok e) rest = Turns (take f.at text ++ e.text ++ e.rest) rest
with_value text f (Err kind) rest = Fails kind

abbrev pub turn : Sense → List ℕ → Option Found → Done → Rest → Done
turn names text None done rest = done
turn names text (Some f) done rest = with_value text f (evaluated names f.operator (drop f.operands text)) rest

-- a line that is read; in expansions operators on texts are carried out before
unfoldable pub read_line : Sense → Reading → List Piece → Head → Rest → Done
read_line names line pieces head rest =
    turn names line.text (operator_within (not (line.depth == 0) && has_string_operators rest.dialect) (code_end pieces) line.text)
    (read names line pieces head rest) rest

-- what a line does
unfoldable pub done : Sense → Reading → List Piece → Head → Rest → Done
done names line pieces head rest = elim rest.collecting [
  | Some p ↦ collect p line pieces head (record rest { collecting = None })
  | None ↦ if is_skipping rest.conditions then skip line pieces head rest else read_line names line pieces head rest
]
