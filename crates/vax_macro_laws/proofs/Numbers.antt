-- Each step leaves what is of the source's lines, where that was so before.
use Rattle.std.proofs.Common.{◌+◌, ◌≤◌, ℕ, zero, suc, Bool, true, false, cond, List, [], ◌∷◌, ◌++◌, length, take, drop, Option, Some, None, Result, Ok, Err, arith}
use Rattle.std.proofs.lemmas.List.Elements.{All-nil, All-cons, All-append, All-head, All-tail}
use Rattle.std.specs.Prelude.{All, not, unwrap_or, IfSome, ◌==◌, ◌&&◌, nat_le, nat_lt, if◌then◌else◌}
use Rattle.std.specs.Str.Lines.{lines as lines_in}
use Rattle.vax_dialect.specs.declared.Dialect.{Dialect}
use Rattle.vax_lex.specs.Characters.{canonical_name}
use Rattle.vax_lex.specs.Tokens.{pieces_of}
use Rattle.vax_lex.specs.declared.token.Piece.{Piece}
use Rattle.vax_lex.specs.Values.{Sense}
use Rattle.vax_macro.specs.Arguments.{Argument, arguments, behind_blanks, name_length}
use Rattle.vax_macro.specs.Conditions.{condition_in, guarded_in, no_keyword, number_in}
use Rattle.vax_dialect.specs.Differences.{has_argument_forms, has_arguments_by_value, has_macro_directives, has_string_operators}
use Rattle.vax_macro.specs.Directives.{copies, one_formal, expansions, operands_from, operator_within, read_line, turn, with_value, assignment, assigns, calls_within, conditions_outside, count_arguments, count_characters, counted, counted_in, delete_all, delete_listed, delete_macros, define_opcode, opcode_defined, innermost, measured, one_piece, two_texts, Iterated, without_macro, leave, left_at, lines_outside, Again, Done, Fails, Gives, Goes, Label, Turns, Writes, argument_texts, begin_arguments, begin_body, begin_characters, begin_condition, begin_copies, begin_each, begin_macro, begin_repeat, behind_label, body_fault, call, call_by, call_of, call_with, passed, character_texts, collect, condition_fault, direct, done, end_condition, end_fault, ends, expansion, finished, guard, has_label, is_deep, is_formal, is_skipping, iterated_in, line_copies, lines_for_each, macro_formals, nested_after, open_call, open_condition, opening, operands_fault, read, read_operator, read_word, skip, switch, switch_condition, then_count, unless_fault, with_expansion, with_call, with_macro, with_pending}
use Rattle.vax_macro.specs.Expansion.{Ends, Faults, Opened, Says, Stepped, Steps, begun, behind, opened, joined_on, joined_with, line_step, next_line_step, outcome, read_on, step, whole}
use Rattle.vax_macro.specs.Opcodes.{Opcode, opcode_in}
use Rattle.vax_macro.specs.Heads.{Head, Word, code_end, code_from, has_bad, end_if, end_macro, end_repeat, end_word, has_unprintable, head_in, if_false, if_true, if_true_false, if_word, immediate_if, argument_count, character_count, delete_word, opcode_word, known_word, leave_word, macro_word, other_word, piece_text, repeat, repeat_arguments, repeat_characters, word_in}
use Rattle.vax_macro.specs.Lines.{Reading, Remainder, SourceLine, numbered, before_dash, dash_in, is_long, with_part}
use Rattle.vax_macro.specs.Names.{is_name}
use Rattle.vax_macro.specs.Rest.{Pending, Rest, Use, started, copies_of, copy_each, macro_body}
use Rattle.vax_macro.specs.Strings.{Evaluated, Found, evaluated}
use Rattle.vax_macro.specs.Templates.{BodyLine, no_formals, rewritten, Filled, Formals, Giving, Template, assigned, filled, template}
use Rattle.vax_macro.specs.declared.error.FaultKind.{FaultKind}
use Rattle.vax_macro.specs.declared.error.FaultKind.TheVariants as faults
use Rattle.vax_macro_laws.specs.Numbering.{GivesOfLines, IsLine, IsOfLines, OpensOfLines}

abbrev AreLines : (m : ℕ) → List SourceLine → Type 0
AreLines m lines = All (λ (l : SourceLine). IsLine m l.number) lines

-- ---- lines

expansion_of : (m : ℕ) (lines : List BodyLine) (number depth : ℕ) (texts : List (List ℕ)) → IsLine m number → AreLines m (expansion lines number depth texts)
expansion_of m [] number depth texts h = All-nil (λ (l : SourceLine). IsLine m l.number)
expansion_of m (b ∷ lines) number depth texts h =
    All-cons (λ (l : SourceLine). IsLine m l.number) (record { number = number; depth = depth; text = rewritten texts b }) (expansion lines number depth texts) h (expansion_of m lines number depth texts h)

copies_of_lines : (m n : ℕ) (lines : List SourceLine) → AreLines m lines → AreLines m (copies n lines)
copies_of_lines m zero lines h = All-nil (λ (l : SourceLine). IsLine m l.number)
copies_of_lines m (suc n) lines h = All-append (λ (l : SourceLine). IsLine m l.number) lines (copies n lines) h (copies_of_lines m n lines h)

expansions_of : (m : ℕ) (lines : List BodyLine) (number depth : ℕ) (texts : List (List ℕ)) → IsLine m number → AreLines m (expansions lines number depth texts)
expansions_of m lines number depth [] h = All-nil (λ (l : SourceLine). IsLine m l.number)
expansions_of m lines number depth (t ∷ texts) h =
    All-append (λ (l : SourceLine). IsLine m l.number) (expansion lines number depth (t ∷ [])) (expansions lines number depth texts) (expansion_of m lines number depth (t ∷ []) h) (expansions_of m lines number depth texts h)

either_lines : (m : ℕ) (b : Bool) (these those : List SourceLine) → AreLines m these → AreLines m those → AreLines m (cond b these those)
either_lines m true these those h k = h
either_lines m false these those h k = k

outside_of : (m depth : ℕ) (lines : List SourceLine) → AreLines m lines → AreLines m (lines_outside depth lines)
outside_of m depth [] h = h
outside_of m depth (l ∷ lines) h =
    either_lines m (nat_lt l.depth depth) (l ∷ lines) (lines_outside depth lines) h (outside_of m depth lines (All-tail (λ (l : SourceLine). IsLine m l.number) l lines h))

numbered_of : (m at : ℕ) (texts : List (List ℕ)) → at + length texts ≤ m → AreLines m (numbered at texts)
numbered_of m at [] h = All-nil (λ (l : SourceLine). IsLine m l.number)
numbered_of m at (t ∷ texts) h =
    All-cons (λ (l : SourceLine). IsLine m l.number) (record { number = at + 1; depth = 0; text = t }) (numbered (at + 1) texts) (omega arith, omega arith) (numbered_of m (at + 1) texts (omega arith))

-- how a source begins
pub begun_of : (dialect : Dialect) (source : List ℕ) → IsOfLines (length (lines_in source)) (started dialect source)
begun_of dialect source = record { lines = numbered_of (length (lines_in source)) 0 (lines_in source) (omega arith); again = tt; collecting = tt }

-- ---- what a line does

abbrev DoneOf : (m : ℕ) → Done → Type 0
DoneOf m (Goes after) = IsOfLines m after
DoneOf m (Gives after) = IsOfLines m after
DoneOf m (Writes text after) = IsOfLines m after
DoneOf m (Turns text after) = IsOfLines m after
DoneOf m (Again at after) = IsOfLines m after
DoneOf m (Label at after) = IsOfLines m after
DoneOf m (Fails kind) = Unit {0}

unless_of : (m : ℕ) (o : Option FaultKind) (d : Done) → DoneOf m d → DoneOf m (unless_fault o d)
unless_of m None d h = h
unless_of m (Some kind) d h = tt

either_of : (m : ℕ) (b : Bool) (d e : Done) → DoneOf m d → DoneOf m e → DoneOf m (cond b d e)
either_of m true d e h k = h
either_of m false d e h k = k

result_of : {A : Type 0} (m : ℕ) (r : Result A FaultKind) (f : A → Done) → ((a : A) → DoneOf m (f a)) → DoneOf m (elim r [ Ok a ↦ f a | Err kind ↦ Fails kind ])
result_of m (Ok a) f h = h a
result_of m (Err kind) f h = tt

-- ---- bodies

with_expansion_of : (m depth : ℕ) (lines : List SourceLine) (rest : Rest) → AreLines m lines → IsOfLines m rest → IsOfLines m (with_expansion depth lines rest)
with_expansion_of m depth lines rest h k = record { lines = All-append (λ (l : SourceLine). IsLine m l.number) lines rest.lines h k.lines; again = k.again; collecting = k.collecting }

finished_by : (m : ℕ) (u : Use) (p : Pending) (rest : Rest) → IsLine m p.begin.number → IsOfLines m rest → IsOfLines m (elim u [
  | macro_body name fs ↦ with_macro name (template fs p.lines) rest
  | copies_of n ↦ with_expansion p.depth (line_copies n p.lines p.begin.number p.depth) rest
  | copy_each name texts ↦ with_expansion p.depth (lines_for_each name p.lines p.begin.number p.depth texts) rest
])
finished_by m (macro_body name fs) p rest h k = record { lines = k.lines; again = k.again; collecting = k.collecting }
finished_by m (copies_of n) p rest h k =
    let one : List SourceLine = expansion (template no_formals p.lines).lines p.begin.number p.depth [] in
    with_expansion_of m p.depth (line_copies n p.lines p.begin.number p.depth) rest (copies_of_lines m n one (expansion_of m (template no_formals p.lines).lines p.begin.number p.depth [] h)) k
finished_by m (copy_each name texts) p rest h k =
    with_expansion_of m p.depth (lines_for_each name p.lines p.begin.number p.depth texts) rest (expansions_of m (template (one_formal name) p.lines).lines p.begin.number p.depth texts h) k

finished_of : (m : ℕ) (p : Pending) (rest : Rest) → IsLine m p.begin.number → IsOfLines m rest → IsOfLines m (finished p rest)
unfolding finished
finished_of m p rest h k = finished_by m p.use_of p rest h k

collect_of : (m : ℕ) (p : Pending) (line : Reading) (pieces : List Piece) (head : Head) (rest : Rest) → IsLine m p.begin.number → IsOfLines m rest → DoneOf m (collect p line pieces head rest)
unfolding collect
collect_of m p line pieces head rest h k =
    let word : Word = word_in line.text head.operator in
    let ended : Done = unless_fault (body_fault p.use_of line.text pieces head.operands) (Goes (finished p rest)) in
    either_of m ((p.nested == 0) && ends p.use_of word)
    (if has_label line head then Label head.label_end (record rest { collecting = Some p }) else ended)
    (Goes (record rest { collecting = Some (record p { nested = nested_after p.use_of word p.nested; lines = p.lines ++ line.parts }) }))
    (either_of m (has_label line head) (Label head.label_end (record rest { collecting = Some p })) ended (record { lines = k.lines; again = k.again; collecting = h })
    (unless_of m (body_fault p.use_of line.text pieces head.operands) (Goes (finished p rest)) (finished_of m p rest h k)))
    (record { lines = k.lines; again = k.again; collecting = h })

-- ---- conditions

open_of : (m : ℕ) (line : Reading) (outer holds : Bool) (rest : Rest) → IsOfLines m rest → DoneOf m (open_condition line outer holds rest)
open_of m line outer holds rest k = either_of m (is_deep line rest) (Fails faults.Depth) (Goes (record rest { conditions = record { begin = opening line rest; depth = line.depth; outer = outer; holds = holds; here = holds } ∷ rest.conditions })) tt (record { lines = k.lines; again = k.again; collecting = k.collecting })

begin_condition_of : (m : ℕ) (names : Sense) (line : Reading) (head : Head) (rest : Rest) → IsOfLines m rest → DoneOf m (begin_condition names line head rest)
unfolding begin_condition
begin_condition_of m names line head rest k = result_of m (condition_in names line.text head.operands) (λ holds. open_condition line true holds rest) (λ holds. open_of m line true holds rest k)

switch_of : (m : ℕ) (word : Word) (pieces : List Piece) (head : Head) (rest : Rest) → IsOfLines m rest → DoneOf m (switch_condition word pieces head rest)
unfolding switch_condition
switch_of m word pieces head rest k = unless_of m (condition_fault pieces head rest.conditions) (Goes (record rest { conditions = switch word rest.conditions })) (record { lines = k.lines; again = k.again; collecting = k.collecting })

end_of : (m : ℕ) (pieces : List Piece) (head : Head) (rest : Rest) → IsOfLines m rest → DoneOf m (end_condition pieces head rest)
unfolding end_condition
end_of m pieces head rest k = unless_of m (condition_fault pieces head rest.conditions) (Goes (record rest { conditions = drop 1 rest.conditions })) (record { lines = k.lines; again = k.again; collecting = k.collecting })

skip_by : (m : ℕ) (w : Word) (line : Reading) (pieces : List Piece) (head : Head) (rest : Rest) → IsOfLines m rest → DoneOf m (elim w [
  | if_word ↦ open_condition line false false rest
  | end_if ↦ end_condition pieces head rest
  | if_false ↦ switch_condition if_false pieces head rest
  | if_true ↦ switch_condition if_true pieces head rest
  | if_true_false ↦ switch_condition if_true_false pieces head rest
  | _ ↦ Goes rest
])
skip_by m if_word line pieces head rest k = open_of m line false false rest k
skip_by m end_if line pieces head rest k = end_of m pieces head rest k
skip_by m if_false line pieces head rest k = switch_of m if_false pieces head rest k
skip_by m if_true line pieces head rest k = switch_of m if_true pieces head rest k
skip_by m if_true_false line pieces head rest k = switch_of m if_true_false pieces head rest k
skip_by m macro_word line pieces head rest k = k
skip_by m end_macro line pieces head rest k = k
skip_by m repeat line pieces head rest k = k
skip_by m repeat_arguments line pieces head rest k = k
skip_by m repeat_characters line pieces head rest k = k
skip_by m end_repeat line pieces head rest k = k
skip_by m immediate_if line pieces head rest k = k
skip_by m leave_word line pieces head rest k = k
skip_by m argument_count line pieces head rest k = k
skip_by m character_count line pieces head rest k = k
skip_by m delete_word line pieces head rest k = k
skip_by m opcode_word line pieces head rest k = k
skip_by m end_word line pieces head rest k = k
skip_by m other_word line pieces head rest k = k

skip_of : (m : ℕ) (line : Reading) (pieces : List Piece) (head : Head) (rest : Rest) → IsOfLines m rest → DoneOf m (skip line pieces head rest)
unfolding skip
skip_of m line pieces head rest k = skip_by m (word_in line.text head.operator) line pieces head rest k

guard_of : (m : ℕ) (names : Sense) (line : Reading) (head : Head) (rest : Rest) → IsOfLines m rest → DoneOf m (guard names line head rest)
unfolding guard
guard_of m names line head rest k =
    result_of m (guarded_in names line.text head.operands) (λ g. if g.holds then Again g.statement rest else Goes rest) (λ g. either_of m g.holds (Again g.statement rest) (Goes rest) k k)

-- ---- begins

begin_copies_of : (m : ℕ) (u : Use) (line : Reading) (rest : Rest) → IsLine m line.number → IsOfLines m rest → DoneOf m (begin_copies u line rest)
begin_copies_of m u line rest h k = either_of m (is_deep line rest) (Fails faults.Depth) (Goes (with_pending u line (line.depth + 1) rest)) tt (record { lines = k.lines; again = k.again; collecting = h })

begin_repeat_of : (m : ℕ) (names : Sense) (line : Reading) (head : Head) (rest : Rest) → IsLine m line.number → IsOfLines m rest → DoneOf m (begin_repeat names line head rest)
unfolding begin_repeat
begin_repeat_of m names line head rest h k = result_of m (then_count rest.dialect (number_in names line.text head.operands)) (λ n. begin_copies (copies_of n) line rest) (λ n. begin_copies_of m (copies_of n) line rest h k)

begin_body_of : (m : ℕ) (name : List ℕ) (fs : Option Formals) (line : Reading) (rest : Rest) → IsLine m line.number → IsOfLines m rest → DoneOf m (begin_body name fs line rest)
begin_body_of m name None line rest h k = tt
begin_body_of m name (Some fs) line rest h k = record { lines = k.lines; again = k.again; collecting = h }

begin_macro_of : (m : ℕ) (line : Reading) (head : Head) (at : ℕ) (rest : Rest) → IsLine m line.number → IsOfLines m rest → DoneOf m (begin_macro line head at rest)
unfolding begin_macro
begin_macro_of m line head at rest h k =
    let text : List ℕ = behind_blanks (code_from at head.operands line.text) in
    let body : Done = begin_body (canonical_name (take (name_length text) text)) (macro_formals (drop (name_length text) text)) line rest in
    let named : Done = if is_name (take (name_length text) text) then body else Fails faults.Form in
    let some : Done = if length text == 0 then Fails faults.Count else named in
    either_of m (has_unprintable line.text head.operands) (Fails faults.Token) some tt
    (either_of m (length text == 0) (Fails faults.Count) named tt
    (either_of m (is_name (take (name_length text) text)) body (Fails faults.Form) (begin_body_of m (canonical_name (take (name_length text) text)) (macro_formals (drop (name_length text) text)) line rest h k) tt))

begin_each_of : (m : ℕ) (name : List ℕ) (a : Option (List Argument)) (line : Reading) (rest : Rest) → IsLine m line.number → IsOfLines m rest → DoneOf m (begin_each name a line rest)
begin_each_of m name None line rest h k = tt
begin_each_of m name (Some arguments) line rest h k = begin_copies_of m (copy_each name (argument_texts arguments)) line rest h k

begin_arguments_of : (m : ℕ) (line : Reading) (head : Head) (at : ℕ) (rest : Rest) → IsLine m line.number → IsOfLines m rest → DoneOf m (begin_arguments line head at rest)
unfolding begin_arguments
begin_arguments_of m line head at rest h k =
    result_of m (iterated_in (has_argument_forms rest.dialect) line.text head.operands at) (λ i. begin_each i.name (arguments (has_argument_forms rest.dialect) no_keyword i.text) line rest) (λ i. begin_each_of m i.name (arguments (has_argument_forms rest.dialect) no_keyword i.text) line rest h k)

begin_characters_of : (m : ℕ) (line : Reading) (head : Head) (at : ℕ) (rest : Rest) → IsLine m line.number → IsOfLines m rest → DoneOf m (begin_characters line head at rest)
unfolding begin_characters
begin_characters_of m line head at rest h k =
    result_of m (iterated_in (has_argument_forms rest.dialect) line.text head.operands at) (λ i. begin_copies (copy_each i.name (character_texts i.text)) line rest) (λ i. begin_copies_of m (copy_each i.name (character_texts i.text)) line rest h k)

-- ---- calls

open_call_of : (m : ℕ) (t : Template) (arguments : ℕ) (f : Filled) (line : Reading) (rest : Rest) → IsLine m line.number → IsOfLines m rest → DoneOf m (open_call t arguments f line rest)
open_call_of m t arguments f line rest h k =
    let lines : List SourceLine = expansion t.lines line.number (line.depth + 1) f.texts in
    let made : Rest = record rest { made = f.made } in
    let so : IsOfLines m (with_expansion (line.depth + 1) lines made) = with_expansion_of m (line.depth + 1) lines made (expansion_of m t.lines line.number (line.depth + 1) f.texts h) (record { lines = k.lines; again = k.again; collecting = k.collecting }) in
    either_of m (is_deep line rest) (Fails faults.Depth) (Goes (with_call (line.depth + 1) arguments (with_expansion (line.depth + 1) lines made))) tt
    (record { lines = so.lines; again = so.again; collecting = so.collecting })

call_with_of : (m : ℕ) (t : Template) (o : Option Giving) (line : Reading) (rest : Rest) → IsLine m line.number → IsOfLines m rest → DoneOf m (call_with t o line rest)
call_with_of m t None line rest h k = tt
call_with_of m t (Some g) line rest h k = open_call_of m t g.next (filled rest.made t.formals.list g.texts) line rest h k

call_of_of : (m : ℕ) (t : Template) (r : Result (List Argument) FaultKind) (line : Reading) (rest : Rest) → IsLine m line.number → IsOfLines m rest → DoneOf m (call_of t r line rest)
call_of_of m t (Ok arguments) line rest h k = call_with_of m t (assigned t.formals arguments) line rest h k
call_of_of m t (Err kind) line rest h k = tt

call_by_of : (m : ℕ) (names : Sense) (t : Template) (o : Option (List Argument)) (line : Reading) (rest : Rest) → IsLine m line.number → IsOfLines m rest → DoneOf m (call_by names t o line rest)
call_by_of m names t None line rest h k = tt
call_by_of m names t (Some arguments) line rest h k = call_of_of m t (passed (has_arguments_by_value rest.dialect) names arguments) line rest h k

is_called : (m : ℕ) (names : Sense) (t : Template) (line : Reading) (head : Head) (at : ℕ) (rest : Rest) → IsLine m line.number → IsOfLines m rest → DoneOf m (call names t line head at rest)
unfolding call
is_called m names t line head at rest h k =
    let passed_on : Option (List Argument) = arguments (has_argument_forms rest.dialect) (is_formal t.formals) (operands_from (has_argument_forms rest.dialect) line.text head.operands at) in
    either_of m (has_unprintable line.text head.operands) (Fails faults.Token) (call_by names t passed_on line rest) tt (call_by_of m names t passed_on line rest h k)

label_of : (m : ℕ) (line : Reading) (head : Head) (rest : Rest) (d : Done) → IsOfLines m rest → DoneOf m d → DoneOf m (behind_label line head rest d)
label_of m line head rest d k h = either_of m (has_label line head) (Label head.label_end rest) d k h

leave_of : (m : ℕ) (line : Reading) (pieces : List Piece) (head : Head) (rest : Rest) → IsOfLines m rest → DoneOf m (leave line pieces head rest)
unfolding leave
leave_of m line pieces head rest k =
    unless_of m (operands_fault pieces head.operands) (left_at line.depth rest)
    (either_of m (line.depth == 0) (Fails faults.Nesting)
    (Goes (record rest { lines = lines_outside line.depth rest.lines; conditions = conditions_outside line.depth rest.conditions })) tt
    (record { lines = outside_of m line.depth rest.lines k.lines; again = k.again; collecting = k.collecting }))

-- ---- `.NARG`, `.NCHR` and `.MDELETE`

assigns_of : (m : ℕ) (name : List ℕ) (n : ℕ) (rest : Rest) → IsOfLines m rest → DoneOf m (assigns name n rest)
assigns_of m name n rest k = either_of m (is_name name) (Writes (assignment name n) rest) (Fails faults.Form) k tt

counted_of : (m : ℕ) (name : List ℕ) (n : Option ℕ) (rest : Rest) → IsOfLines m rest → DoneOf m (counted name n rest)
counted_of m name None rest k = tt
counted_of m name (Some n) rest k = assigns_of m name n rest k

counted_in_of : (m : ℕ) (text : List ℕ) (o : Option Piece) (rest : Rest) → IsOfLines m rest → DoneOf m (counted_in text o rest)
counted_in_of m text None rest k = tt
counted_in_of m text (Some p) rest k = counted_of m (piece_text text p) (innermost rest.calls) rest k

count_arguments_of : (m : ℕ) (line : Reading) (pieces : List Piece) (head : Head) (rest : Rest) → IsOfLines m rest → DoneOf m (count_arguments line pieces head rest)
unfolding count_arguments
count_arguments_of m line pieces head rest k =
    let within : Rest = record rest { calls = calls_within line.depth rest.calls } in
    either_of m (has_bad pieces) (Fails faults.Token) (counted_in line.text (one_piece head.operands) within) tt
    (counted_in_of m line.text (one_piece head.operands) within (record { lines = k.lines; again = k.again; collecting = k.collecting }))

measured_of : (m : ℕ) (r : Result Iterated FaultKind) (rest : Rest) → IsOfLines m rest → DoneOf m (measured r rest)
measured_of m (Ok i) rest k = assigns_of m i.name (length i.text) rest k
measured_of m (Err kind) rest k = tt

count_characters_of : (m : ℕ) (line : Reading) (head : Head) (at : ℕ) (rest : Rest) → IsOfLines m rest → DoneOf m (count_characters line head at rest)
unfolding count_characters
count_characters_of m line head at rest k =
    let found : Result Iterated FaultKind = two_texts (arguments (has_argument_forms rest.dialect) no_keyword (operands_from (has_argument_forms rest.dialect) line.text head.operands at)) in
    either_of m (has_unprintable line.text head.operands) (Fails faults.Token) (measured found rest) tt (measured_of m found rest k)

delete_all_of : (m : ℕ) (arguments : List Argument) (rest : Rest) → IsOfLines m rest → DoneOf m (delete_all arguments rest)
delete_all_of m [] rest k = k
delete_all_of m (a ∷ arguments) rest k =
    either_of m (is_name (unwrap_or a.text [])) (delete_all arguments (without_macro (unwrap_or a.text []) rest)) (Fails faults.Form)
    (delete_all_of m arguments (without_macro (unwrap_or a.text []) rest) (record { lines = k.lines; again = k.again; collecting = k.collecting })) tt

delete_listed_of : (m : ℕ) (o : Option (List Argument)) (rest : Rest) → IsOfLines m rest → DoneOf m (delete_listed o rest)
delete_listed_of m None rest k = tt
delete_listed_of m (Some []) rest k = tt
delete_listed_of m (Some (a ∷ arguments)) rest k = delete_all_of m (a ∷ arguments) rest k

delete_macros_of : (m : ℕ) (line : Reading) (head : Head) (at : ℕ) (rest : Rest) → IsOfLines m rest → DoneOf m (delete_macros line head at rest)
unfolding delete_macros
delete_macros_of m line head at rest k =
    let found : Option (List Argument) = arguments (has_argument_forms rest.dialect) no_keyword (operands_from (has_argument_forms rest.dialect) line.text head.operands at) in
    either_of m (has_unprintable line.text head.operands) (Fails faults.Token) (delete_listed found rest) tt (delete_listed_of m found rest k)

-- ---- `.OPDEF`

defined_of : (m : ℕ) (r : Result Opcode FaultKind) (rest : Rest) → IsOfLines m rest → DoneOf m (opcode_defined r rest)
defined_of m (Ok o) rest k = record { lines = k.lines; again = k.again; collecting = k.collecting }
defined_of m (Err kind) rest k = tt

define_opcode_of : (m : ℕ) (names : Sense) (line : Reading) (head : Head) (rest : Rest) → IsOfLines m rest → DoneOf m (define_opcode names line head rest)
unfolding define_opcode
define_opcode_of m names line head rest k = defined_of m (opcode_in names line.text head.operands) rest k

-- ---- a line that is read

direct_of : (m : ℕ) (names : Sense) (w : Word) (line : Reading) (pieces : List Piece) (head : Head) (at : ℕ) (rest : Rest) → IsLine m line.number → IsOfLines m rest → DoneOf m (direct names w line pieces head at rest)
unfolding direct
direct_of m names macro_word line pieces head at rest h k = begin_macro_of m line head at rest h k
direct_of m names end_macro line pieces head at rest h k = unless_of m (end_fault line.text None pieces head.operands) (Fails faults.Nesting) tt
direct_of m names repeat line pieces head at rest h k = begin_repeat_of m names line head rest h k
direct_of m names repeat_arguments line pieces head at rest h k = begin_arguments_of m line head at rest h k
direct_of m names repeat_characters line pieces head at rest h k = begin_characters_of m line head at rest h k
direct_of m names end_repeat line pieces head at rest h k = unless_of m (operands_fault pieces head.operands) (Fails faults.Nesting) tt
direct_of m names if_word line pieces head at rest h k = begin_condition_of m names line head rest k
direct_of m names if_false line pieces head at rest h k = switch_of m if_false pieces head rest k
direct_of m names if_true line pieces head at rest h k = switch_of m if_true pieces head rest k
direct_of m names if_true_false line pieces head at rest h k = switch_of m if_true_false pieces head rest k
direct_of m names end_if line pieces head at rest h k = end_of m pieces head rest k
direct_of m names immediate_if line pieces head at rest h k = guard_of m names line head rest k
direct_of m names leave_word line pieces head at rest h k = leave_of m line pieces head rest k
direct_of m names argument_count line pieces head at rest h k = count_arguments_of m line pieces head rest k
direct_of m names character_count line pieces head at rest h k = count_characters_of m line head at rest k
direct_of m names delete_word line pieces head at rest h k = delete_macros_of m line head at rest k
direct_of m names opcode_word line pieces head at rest h k = define_opcode_of m names line head rest k
direct_of m names end_word line pieces head at rest h k = k
direct_of m names other_word line pieces head at rest h k = k

word_of : (m : ℕ) (names : Sense) (w : Word) (line : Reading) (pieces : List Piece) (head : Head) (at : ℕ) (rest : Rest) → IsLine m line.number → IsOfLines m rest → DoneOf m (read_word names w line pieces head at rest)
word_of m names macro_word line pieces head at rest h k = label_of m line head rest (direct names macro_word line pieces head at rest) k (direct_of m names macro_word line pieces head at rest h k)
word_of m names end_macro line pieces head at rest h k = label_of m line head rest (direct names end_macro line pieces head at rest) k (direct_of m names end_macro line pieces head at rest h k)
word_of m names repeat line pieces head at rest h k = label_of m line head rest (direct names repeat line pieces head at rest) k (direct_of m names repeat line pieces head at rest h k)
word_of m names repeat_arguments line pieces head at rest h k = label_of m line head rest (direct names repeat_arguments line pieces head at rest) k (direct_of m names repeat_arguments line pieces head at rest h k)
word_of m names repeat_characters line pieces head at rest h k = label_of m line head rest (direct names repeat_characters line pieces head at rest) k (direct_of m names repeat_characters line pieces head at rest h k)
word_of m names end_repeat line pieces head at rest h k = label_of m line head rest (direct names end_repeat line pieces head at rest) k (direct_of m names end_repeat line pieces head at rest h k)
word_of m names if_word line pieces head at rest h k = label_of m line head rest (direct names if_word line pieces head at rest) k (direct_of m names if_word line pieces head at rest h k)
word_of m names if_false line pieces head at rest h k = label_of m line head rest (direct names if_false line pieces head at rest) k (direct_of m names if_false line pieces head at rest h k)
word_of m names if_true line pieces head at rest h k = label_of m line head rest (direct names if_true line pieces head at rest) k (direct_of m names if_true line pieces head at rest h k)
word_of m names if_true_false line pieces head at rest h k = label_of m line head rest (direct names if_true_false line pieces head at rest) k (direct_of m names if_true_false line pieces head at rest h k)
word_of m names end_if line pieces head at rest h k = label_of m line head rest (direct names end_if line pieces head at rest) k (direct_of m names end_if line pieces head at rest h k)
word_of m names immediate_if line pieces head at rest h k = label_of m line head rest (direct names immediate_if line pieces head at rest) k (direct_of m names immediate_if line pieces head at rest h k)
word_of m names leave_word line pieces head at rest h k = label_of m line head rest (direct names leave_word line pieces head at rest) k (direct_of m names leave_word line pieces head at rest h k)
word_of m names argument_count line pieces head at rest h k = label_of m line head rest (direct names argument_count line pieces head at rest) k (direct_of m names argument_count line pieces head at rest h k)
word_of m names character_count line pieces head at rest h k = label_of m line head rest (direct names character_count line pieces head at rest) k (direct_of m names character_count line pieces head at rest h k)
word_of m names delete_word line pieces head at rest h k = label_of m line head rest (direct names delete_word line pieces head at rest) k (direct_of m names delete_word line pieces head at rest h k)
word_of m names opcode_word line pieces head at rest h k = label_of m line head rest (direct names opcode_word line pieces head at rest) k (direct_of m names opcode_word line pieces head at rest h k)
word_of m names end_word line pieces head at rest h k = record { lines = All-nil (λ (l : SourceLine). IsLine m l.number); again = k.again; collecting = k.collecting }
word_of m names other_word line pieces head at rest h k = k

operator_of : (m : ℕ) (names : Sense) (line : Reading) (pieces : List Piece) (head : Head) (operator : Piece) (t : Option Template) (rest : Rest) → IsLine m line.number → IsOfLines m rest
    → DoneOf m (read_operator names line pieces head operator t rest)
operator_of m names line pieces head operator (Some t) rest h k = label_of m line head rest (call names t line head operator.end rest) k (is_called m names t line head operator.end rest h k)
operator_of m names line pieces head operator None rest h k = word_of m names (known_word (has_macro_directives rest.dialect) (word_in line.text (Some operator))) line pieces head operator.end rest h k

read_by : (m : ℕ) (o : Option Piece) (names : Sense) (line : Reading) (pieces : List Piece) (head : Head) (rest : Rest) → IsLine m line.number → IsOfLines m rest → DoneOf m (elim o [
  | None ↦ Gives rest
  | Some operator ↦ read_operator names line pieces head operator (rest.macros (canonical_name (piece_text line.text operator))) rest
])
read_by m None names line pieces head rest h k = k
read_by m (Some operator) names line pieces head rest h k = operator_of m names line pieces head operator (rest.macros (canonical_name (piece_text line.text operator))) rest h k

read_of : (m : ℕ) (names : Sense) (line : Reading) (pieces : List Piece) (head : Head) (rest : Rest) → IsLine m line.number → IsOfLines m rest → DoneOf m (read names line pieces head rest)
unfolding read
read_of m names line pieces head rest h k = read_by m head.operator names line pieces head rest h k

value_of : (m : ℕ) (text : List ℕ) (f : Found) (e : Evaluated) (rest : Rest) → IsOfLines m rest → DoneOf m (with_value text f e rest)
value_of m text f (Ok e) rest k = k
value_of m text f (Err kind) rest k = tt

turn_of : (m : ℕ) (names : Sense) (text : List ℕ) (o : Option Found) (d : Done) (rest : Rest) → IsOfLines m rest → DoneOf m d → DoneOf m (turn names text o d rest)
turn_of m names text None d rest k h = h
turn_of m names text (Some f) d rest k h = value_of m text f (evaluated names f.operator (drop f.operands text)) rest k

read_line_of : (m : ℕ) (names : Sense) (line : Reading) (pieces : List Piece) (head : Head) (rest : Rest) → IsLine m line.number → IsOfLines m rest → DoneOf m (read_line names line pieces head rest)
unfolding read_line
read_line_of m names line pieces head rest h k =
    turn_of m names line.text (operator_within (not (line.depth == 0) && has_string_operators rest.dialect) (code_end pieces) line.text) (read names line pieces head rest) rest k
    (read_of m names line pieces head rest h k)

done_by : (m : ℕ) (o : Option Pending) (names : Sense) (line : Reading) (pieces : List Piece) (head : Head) (rest : Rest) → IfSome o (λ p. IsLine m p.begin.number) → IsLine m line.number → IsOfLines m rest → DoneOf m (elim o [
  | Some p ↦ collect p line pieces head (record rest { collecting = None })
  | None ↦ if is_skipping rest.conditions then skip line pieces head rest else read_line names line pieces head rest
])
done_by m None names line pieces head rest o h k =
    either_of m (is_skipping rest.conditions) (skip line pieces head rest) (read_line names line pieces head rest) (skip_of m line pieces head rest k) (read_line_of m names line pieces head rest h k)
done_by m (Some p) names line pieces head rest o h k = collect_of m p line pieces head (record rest { collecting = None }) o (record { lines = k.lines; again = k.again; collecting = tt })

done_of : (m : ℕ) (names : Sense) (line : Reading) (pieces : List Piece) (head : Head) (rest : Rest) → IsLine m line.number → IsOfLines m rest → DoneOf m (done names line pieces head rest)
unfolding done
done_of m names line pieces head rest h k = done_by m rest.collecting names line pieces head rest k.collecting h k

-- ---- steps

outcome_of : (m : ℕ) (line : Reading) (place : ℕ) (d : Done) → IsLine m line.number → DoneOf m d → GivesOfLines m (outcome line place d)
outcome_of m line place (Goes after) h k = k
outcome_of m line place (Gives after) h k = (h, k)
outcome_of m line place (Writes text after) h k = (h, k)
outcome_of m line place (Turns text after) h k = record { lines = k.lines; again = h; collecting = k.collecting }
outcome_of m line place (Again at after) h k = record { lines = k.lines; again = h; collecting = k.collecting }
outcome_of m line place (Label at after) h k = (h, record { lines = k.lines; again = h; collecting = k.collecting })
outcome_of m line place (Fails kind) h k = h

line_of : (m : ℕ) (names : Sense) (line : Reading) (rest : Rest) → IsLine m line.number → IsOfLines m rest → GivesOfLines m (line_step names line rest)
unfolding line_step
line_of m names line rest h k =
    outcome_of m line rest.read (done names line (pieces_of rest.dialect line.text) (head_in (pieces_of rest.dialect line.text)) rest) h (done_of m names line (pieces_of rest.dialect line.text) (head_in (pieces_of rest.dialect line.text)) rest h k)

faults_of : (m : ℕ) (b : Bool) (number place : ℕ) (kind : FaultKind) (next : Stepped) → IsLine m number → GivesOfLines m next → GivesOfLines m (cond b (Faults number place kind) next)
faults_of m true number place kind next h k = h
faults_of m false number place kind next h k = k

joined_of : (m : ℕ) (o : Option ℕ) (r : Reading) (whole more : Reading → Stepped) → GivesOfLines m (whole r) → GivesOfLines m (more r) → GivesOfLines m (joined_on r o whole more)
joined_of m None r whole more h k = h
joined_of m (Some dash) r whole more h k = k

read_on_of : (m : ℕ) (names : Sense) (r : Reading) (lines : List SourceLine) (rest : Rest) → IsLine m r.number → AreLines m lines → IsOfLines m rest → GivesOfLines m (read_on names r lines rest)
unfolding read_on
read_on_of m names r [] rest h all k = line_of m names r (record rest { lines = [] }) h (record { lines = all; again = k.again; collecting = k.collecting })
read_on_of m names r (line ∷ lines) rest h all k =
    let text : List ℕ = r.text ++ line.text in
    let dash : Option ℕ = dash_in (pieces_of rest.dialect text) in
    let part : Reading = with_part r (before_dash text dash) line.text in
    let after : Rest = record rest { lines = lines; read = rest.read + 1 } in
    let on : Rest = record rest { read = rest.read + 1 } in
    let here : IsLine m line.number = All-head (λ (l : SourceLine). IsLine m l.number) line lines all in
    let others : AreLines m lines = All-tail (λ (l : SourceLine). IsLine m l.number) line lines all in
    let next : Stepped = joined_with (rest.read + 1) r text line.text dash (λ whole. line_step names whole after) (λ more. read_on names more lines on) in
    faults_of m (is_long line.text) line.number (rest.read + 1) faults.Token (if nat_le 100000 rest.read then Faults line.number (rest.read + 1) faults.Lines else next) here
    (faults_of m (nat_le 100000 rest.read) line.number (rest.read + 1) faults.Lines next here
    (faults_of m (is_long (before_dash text dash)) r.number (rest.read + 1) faults.Token (joined_on part dash (λ whole. line_step names whole after) (λ more. read_on names more lines on)) h
    (joined_of m dash part (λ whole. line_step names whole after) (λ more. read_on names more lines on)
    (line_of m names part after h (record { lines = others; again = k.again; collecting = k.collecting }))
    (read_on_of m names part lines on h others (record { lines = k.lines; again = k.again; collecting = k.collecting })))))

next_of : (m : ℕ) (names : Sense) (lines : List SourceLine) (rest : Rest) → AreLines m lines → IsOfLines m rest → GivesOfLines m (next_line_step names lines rest)
next_of m names [] rest all k = tt
next_of m names (line ∷ lines) rest all k = read_on_of m names (begun line) (line ∷ lines) rest (All-head (λ (l : SourceLine). IsLine m l.number) line lines all) all k

stepped_by : (m : ℕ) (names : Sense) (rest : Rest) (o : Option Remainder) → IfSome o (λ l. IsLine m l.number) → IsOfLines m rest → GivesOfLines m (elim o [
  | Some line ↦ line_step names (whole line) (record rest { again = None })
  | None ↦ next_line_step names rest.lines rest
])
stepped_by m names rest (Some line) h k = line_of m names (whole line) (record rest { again = None }) h (record { lines = k.lines; again = tt; collecting = k.collecting })
stepped_by m names rest None h k = next_of m names rest.lines rest k.lines k

pub step_of : (m : ℕ) (names : Sense) (rest : Rest) → IsOfLines m rest → GivesOfLines m (step names rest)
unfolding step
step_of m names rest k = stepped_by m names rest rest.again k.again k

opens_by : (m left : ℕ) (st : Stepped) (next : Rest → Opened) → ((after : Rest) → IsOfLines m after → OpensOfLines m (next after)) → GivesOfLines m st → OpensOfLines m (behind left st next)
opens_by m left (Steps after) next more h = more after h
opens_by m left (Says st after) next more h = h
opens_by m left (Faults number place kind) next more h = h
opens_by m left (Ends begin) next more h = tt

pub opened_of : (m steps : ℕ) (names : Sense) (rest : Rest) → IsOfLines m rest → OpensOfLines m (opened steps names rest)
unfolding opened
opened_of m zero names rest h = tt
opened_of m (suc left) names rest h = opens_by m left (step names rest) (λ after. opened left names after) (λ after k. opened_of m left names after k) (step_of m names rest h)
