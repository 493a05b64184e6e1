-- Each step reads on: lines are counted up, and what is left of a line has its number.
use Rattle.std.proofs.Common.{subst, ap, ◌≡◌, ◌+◌, ◌<◌, ◌⊎◌, inl, inr, ℕ, Bool, true, false, cond, List, [], ◌∷◌, ◌++◌, length, take, drop, Option, Some, None, Result, Ok, Err, refl, sym, ◌∙◌, arith}
use Rattle.std.specs.Prelude.{not, unwrap_or, IfSome, ◌==◌, ◌&&◌, nat_le, if◌then◌else◌}
use Rattle.vax_lex.specs.Characters.{canonical_name}
use Rattle.vax_lex.specs.Tokens.{pieces_of}
use Rattle.vax_lex.specs.declared.token.Piece.{Piece}
use Rattle.vax_lex.specs.Values.{Sense}
use Rattle.vax_macro.specs.Arguments.{Argument, arguments, behind_blanks, name_length}
use Rattle.vax_macro.specs.Conditions.{condition_in, guarded_in, no_keyword, number_in}
use Rattle.vax_dialect.specs.Differences.{has_argument_forms, has_arguments_by_value, has_macro_directives, has_string_operators}
use Rattle.vax_macro.specs.Directives.{operands_from, operator_within, read_line, turn, with_value, assignment, assigns, calls_within, conditions_outside, count_arguments, count_characters, counted, counted_in, delete_all, delete_listed, delete_macros, define_opcode, opcode_defined, innermost, measured, one_piece, two_texts, Iterated, without_macro, leave, left_at, lines_outside, Again, Done, Fails, Gives, Goes, Label, Turns, Writes, Statement, argument_texts, begin_arguments, begin_body, begin_characters, begin_condition, begin_copies, begin_each, begin_macro, begin_repeat, behind_label, body_fault, call, call_by, call_of, call_with, passed, character_texts, collect, condition_fault, direct, done, end_condition, end_fault, ends, expansion, finished, guard, has_label, is_deep, is_formal, is_skipping, iterated_in, line_copies, lines_for_each, macro_formals, nested_after, open_call, open_condition, opening, operands_fault, read, read_operator, read_word, skip, switch, switch_condition, then_count, unless_fault, with_expansion, with_call, with_macro, with_pending}
use Rattle.vax_macro.specs.Expansion.{Ends, Faults, Says, Stepped, Steps, begun, joined_on, joined_with, line_step, next_line_step, outcome, read_on, step, unclosed, whole}
use Rattle.vax_macro.specs.Opcodes.{Opcode, opcode_in}
use Rattle.vax_macro.specs.Heads.{Head, Word, code_end, code_from, has_bad, end_if, end_macro, end_repeat, end_word, has_unprintable, head_in, if_false, if_true, if_true_false, if_word, immediate_if, argument_count, character_count, delete_word, opcode_word, known_word, leave_word, macro_word, other_word, piece_text, repeat, repeat_arguments, repeat_characters, word_in}
use Rattle.vax_macro.specs.Lines.{Reading, Remainder, SourceLine, before_dash, dash_in, is_long, with_part}
use Rattle.vax_macro.specs.Names.{is_name}
use Rattle.vax_macro.specs.Rest.{Call, Opening, Pending, Rest, Use, copies_of, copy_each, macro_body}
use Rattle.vax_macro.specs.Strings.{Evaluated, Found, evaluated}
use Rattle.vax_macro.specs.Templates.{Filled, Formals, Giving, Template, assigned, filled, template}
use Rattle.vax_macro.specs.declared.error.FaultKind.{FaultKind}
use Rattle.vax_macro.specs.declared.error.FaultKind.TheVariants as faults
use Rattle.vax_macro_laws.specs.Following.{IsFollowing}

-- what a line does leaves the count of lines, and nothing of the line but what it says
abbrev pub Same : (before after : Rest) → Type 0
Same before after = (after.read ≡ before.read) × (after.again ≡ before.again)

abbrev pub Leaves : (labelled : Bool) → Rest → Done → Type 0
Leaves labelled rest (Goes after) = Same rest after
Leaves labelled rest (Gives after) = Same rest after
Leaves labelled rest (Writes text after) = Same rest after
Leaves labelled rest (Turns text after) = Same rest after
Leaves labelled rest (Again at after) = Same rest after
Leaves labelled rest (Label at after) = Same rest after × (labelled ≡ false)
Leaves labelled rest (Fails kind) = Unit {0}

kept : (rest : Rest) → Same rest rest
kept rest = (refl, refl)

unless_leaves : (l : Bool) (o : Option FaultKind) (rest : Rest) (d : Done) → Leaves l rest d → Leaves l rest (unless_fault o d)
unless_leaves l None rest d h = h
unless_leaves l (Some kind) rest d h = tt

either_leaves : (l : Bool) (b : Bool) (rest : Rest) (d e : Done) → Leaves l rest d → Leaves l rest e → Leaves l rest (cond b d e)
either_leaves l true rest d e h k = h
either_leaves l false rest d e h k = k

result_leaves : {A : Type 0} (l : Bool) (rest : Rest) (r : Result A FaultKind) (f : A → Done) → ((a : A) → Leaves l rest (f a)) → Leaves l rest (elim r [ Ok a ↦ f a | Err kind ↦ Fails kind ])
result_leaves l rest (Ok a) f h = h a
result_leaves l rest (Err kind) f h = tt

new_label : (b : Bool) (c : Bool) → (not b && c) ≡ true → b ≡ false
new_label true c h = absurd cc
new_label false c h = refl

-- a label that is handed out wasn't handed out before
by_label : (b : Bool) (line : Reading) (head : Head) (rest : Rest) (d e : Done) → has_label line head ≡ b → (line.labelled ≡ false → Leaves line.labelled rest d) → Leaves line.labelled rest e → Leaves line.labelled rest (cond b d e)
by_label true line head rest d e is h k = h (new_label line.labelled (not (head.label_end == 0)) is)
by_label false line head rest d e is h k = k

finished_by : (u : Use) (p : Pending) (rest : Rest) → Same rest (elim u [
  | macro_body name fs ↦ with_macro name (template fs p.lines) rest
  | copies_of n ↦ with_expansion p.depth (line_copies n p.lines p.begin.number p.depth) rest
  | copy_each name texts ↦ with_expansion p.depth (lines_for_each name p.lines p.begin.number p.depth texts) rest
])
finished_by (macro_body name fs) p rest = (refl, refl)
finished_by (copies_of n) p rest = (refl, refl)
finished_by (copy_each name texts) p rest = (refl, refl)

finished_same : (p : Pending) (rest : Rest) → Same rest (finished p rest)
unfolding finished
finished_same p rest = finished_by p.use_of p rest

collect_leaves : (p : Pending) (line : Reading) (pieces : List Piece) (head : Head) (rest : Rest) → Leaves line.labelled rest (collect p line pieces head rest)
unfolding collect
collect_leaves p line pieces head rest =
    let word : Word = word_in line.text head.operator in
    either_leaves line.labelled ((p.nested == 0) && ends p.use_of word) rest
    (if has_label line head then Label head.label_end (record rest { collecting = Some p }) else unless_fault (body_fault p.use_of line.text pieces head.operands) (Goes (finished p rest)))
    (Goes (record rest { collecting = Some (record p { nested = nested_after p.use_of word p.nested; lines = p.lines ++ line.parts }) }))
    (by_label (has_label line head) line head rest (Label head.label_end (record rest { collecting = Some p })) (unless_fault (body_fault p.use_of line.text pieces head.operands) (Goes (finished p rest))) refl (λ new. ((refl, refl), new))
    (unless_leaves line.labelled (body_fault p.use_of line.text pieces head.operands) rest (Goes (finished p rest)) (finished_same p rest)))
    (refl, refl)

open_leaves : (line : Reading) (outer holds : Bool) (rest : Rest) → Leaves line.labelled rest (open_condition line outer holds rest)
open_leaves line outer holds rest = either_leaves line.labelled (is_deep line rest) rest (Fails faults.Depth) (Goes (record rest { conditions = record { begin = opening line rest; depth = line.depth; outer = outer; holds = holds; here = holds } ∷ rest.conditions })) tt (refl, refl)

begin_condition_leaves : (names : Sense) (line : Reading) (head : Head) (rest : Rest) → Leaves line.labelled rest (begin_condition names line head rest)
unfolding begin_condition
begin_condition_leaves names line head rest = result_leaves line.labelled rest (condition_in names line.text head.operands) (λ holds. open_condition line true holds rest) (λ holds. open_leaves line true holds rest)

switch_leaves : (l : Bool) (word : Word) (pieces : List Piece) (head : Head) (rest : Rest) → Leaves l rest (switch_condition word pieces head rest)
unfolding switch_condition
switch_leaves l word pieces head rest = unless_leaves l (condition_fault pieces head rest.conditions) rest (Goes (record rest { conditions = switch word rest.conditions })) (refl, refl)

end_leaves : (l : Bool) (pieces : List Piece) (head : Head) (rest : Rest) → Leaves l rest (end_condition pieces head rest)
unfolding end_condition
end_leaves l pieces head rest = unless_leaves l (condition_fault pieces head rest.conditions) rest (Goes (record rest { conditions = drop 1 rest.conditions })) (refl, refl)

skip_by : (w : Word) (line : Reading) (pieces : List Piece) (head : Head) (rest : Rest) → Leaves line.labelled rest (elim w [
  | if_word ↦ open_condition line false false rest
  | end_if ↦ end_condition pieces head rest
  | if_false ↦ switch_condition if_false pieces head rest
  | if_true ↦ switch_condition if_true pieces head rest
  | if_true_false ↦ switch_condition if_true_false pieces head rest
  | _ ↦ Goes rest
])
skip_by if_word line pieces head rest = open_leaves line false false rest
skip_by end_if line pieces head rest = end_leaves line.labelled pieces head rest
skip_by if_false line pieces head rest = switch_leaves line.labelled if_false pieces head rest
skip_by if_true line pieces head rest = switch_leaves line.labelled if_true pieces head rest
skip_by if_true_false line pieces head rest = switch_leaves line.labelled if_true_false pieces head rest
skip_by macro_word line pieces head rest = (refl, refl)
skip_by end_macro line pieces head rest = (refl, refl)
skip_by repeat line pieces head rest = (refl, refl)
skip_by repeat_arguments line pieces head rest = (refl, refl)
skip_by repeat_characters line pieces head rest = (refl, refl)
skip_by end_repeat line pieces head rest = (refl, refl)
skip_by immediate_if line pieces head rest = (refl, refl)
skip_by leave_word line pieces head rest = (refl, refl)
skip_by argument_count line pieces head rest = (refl, refl)
skip_by character_count line pieces head rest = (refl, refl)
skip_by delete_word line pieces head rest = (refl, refl)
skip_by opcode_word line pieces head rest = (refl, refl)
skip_by end_word line pieces head rest = (refl, refl)
skip_by other_word line pieces head rest = (refl, refl)

skip_leaves : (line : Reading) (pieces : List Piece) (head : Head) (rest : Rest) → Leaves line.labelled rest (skip line pieces head rest)
unfolding skip
skip_leaves line pieces head rest = skip_by (word_in line.text head.operator) line pieces head rest

guard_leaves : (names : Sense) (line : Reading) (head : Head) (rest : Rest) → Leaves line.labelled rest (guard names line head rest)
unfolding guard
guard_leaves names line head rest =
    result_leaves line.labelled rest (guarded_in names line.text head.operands) (λ g. if g.holds then Again g.statement rest else Goes rest) (λ g. either_leaves line.labelled g.holds rest (Again g.statement rest) (Goes rest) (refl, refl) (refl, refl))

copies_leave : (u : Use) (line : Reading) (rest : Rest) → Leaves line.labelled rest (begin_copies u line rest)
copies_leave u line rest = either_leaves line.labelled (is_deep line rest) rest (Fails faults.Depth) (Goes (with_pending u line (line.depth + 1) rest)) tt (refl, refl)

begin_repeat_leaves : (names : Sense) (line : Reading) (head : Head) (rest : Rest) → Leaves line.labelled rest (begin_repeat names line head rest)
unfolding begin_repeat
begin_repeat_leaves names line head rest = result_leaves line.labelled rest (then_count rest.dialect (number_in names line.text head.operands)) (λ n. begin_copies (copies_of n) line rest) (λ n. copies_leave (copies_of n) line rest)

body_leaves : (name : List ℕ) (fs : Option Formals) (line : Reading) (rest : Rest) → Leaves line.labelled rest (begin_body name fs line rest)
body_leaves name None line rest = tt
body_leaves name (Some fs) line rest = (refl, refl)

begin_macro_leaves : (line : Reading) (head : Head) (at : ℕ) (rest : Rest) → Leaves line.labelled rest (begin_macro line head at rest)
unfolding begin_macro
begin_macro_leaves line head at rest =
    let text : List ℕ = behind_blanks (code_from at head.operands line.text) in
    let body : Done = begin_body (canonical_name (take (name_length text) text)) (macro_formals (drop (name_length text) text)) line rest in
    let named : Done = if is_name (take (name_length text) text) then body else Fails faults.Form in
    let some : Done = if length text == 0 then Fails faults.Count else named in
    either_leaves line.labelled (has_unprintable line.text head.operands) rest (Fails faults.Token) some tt
    (either_leaves line.labelled (length text == 0) rest (Fails faults.Count) named tt
    (either_leaves line.labelled (is_name (take (name_length text) text)) rest body (Fails faults.Form) (body_leaves (canonical_name (take (name_length text) text)) (macro_formals (drop (name_length text) text)) line rest) tt))

each_leaves : (name : List ℕ) (a : Option (List Argument)) (line : Reading) (rest : Rest) → Leaves line.labelled rest (begin_each name a line rest)
each_leaves name None line rest = tt
each_leaves name (Some arguments) line rest = copies_leave (copy_each name (argument_texts arguments)) line rest

begin_arguments_leaves : (line : Reading) (head : Head) (at : ℕ) (rest : Rest) → Leaves line.labelled rest (begin_arguments line head at rest)
unfolding begin_arguments
begin_arguments_leaves line head at rest =
    result_leaves line.labelled rest (iterated_in (has_argument_forms rest.dialect) line.text head.operands at) (λ i. begin_each i.name (arguments (has_argument_forms rest.dialect) no_keyword i.text) line rest) (λ i. each_leaves i.name (arguments (has_argument_forms rest.dialect) no_keyword i.text) line rest)

begin_characters_leaves : (line : Reading) (head : Head) (at : ℕ) (rest : Rest) → Leaves line.labelled rest (begin_characters line head at rest)
unfolding begin_characters
begin_characters_leaves line head at rest =
    result_leaves line.labelled rest (iterated_in (has_argument_forms rest.dialect) line.text head.operands at) (λ i. begin_copies (copy_each i.name (character_texts i.text)) line rest) (λ i. copies_leave (copy_each i.name (character_texts i.text)) line rest)

open_call_leaves : (t : Template) (arguments : ℕ) (f : Filled) (line : Reading) (rest : Rest) → Leaves line.labelled rest (open_call t arguments f line rest)
open_call_leaves t arguments f line rest =
    either_leaves line.labelled (is_deep line rest) rest (Fails faults.Depth)
    (Goes (with_call (line.depth + 1) arguments (with_expansion (line.depth + 1) (expansion t.lines line.number (line.depth + 1) f.texts) (record rest { made = f.made }))))
    tt (refl, refl)

call_with_leaves : (t : Template) (o : Option Giving) (line : Reading) (rest : Rest) → Leaves line.labelled rest (call_with t o line rest)
call_with_leaves t None line rest = tt
call_with_leaves t (Some g) line rest = open_call_leaves t g.next (filled rest.made t.formals.list g.texts) line rest

call_of_leaves : (t : Template) (r : Result (List Argument) FaultKind) (line : Reading) (rest : Rest) → Leaves line.labelled rest (call_of t r line rest)
call_of_leaves t (Ok arguments) line rest = call_with_leaves t (assigned t.formals arguments) line rest
call_of_leaves t (Err kind) line rest = tt

call_by_leaves : (names : Sense) (t : Template) (o : Option (List Argument)) (line : Reading) (rest : Rest) → Leaves line.labelled rest (call_by names t o line rest)
call_by_leaves names t None line rest = tt
call_by_leaves names t (Some arguments) line rest = call_of_leaves t (passed (has_arguments_by_value rest.dialect) names arguments) line rest

call_leaves : (names : Sense) (t : Template) (line : Reading) (head : Head) (at : ℕ) (rest : Rest) → Leaves line.labelled rest (call names t line head at rest)
unfolding call
call_leaves names t line head at rest =
    let made : Done = call_by names t (arguments (has_argument_forms rest.dialect) (is_formal t.formals) (operands_from (has_argument_forms rest.dialect) line.text head.operands at)) line rest in
    either_leaves line.labelled (has_unprintable line.text head.operands) rest (Fails faults.Token) made tt (call_by_leaves names t (arguments (has_argument_forms rest.dialect) (is_formal t.formals) (operands_from (has_argument_forms rest.dialect) line.text head.operands at)) line rest)

label_leaves : (line : Reading) (head : Head) (rest : Rest) (d : Done) → Leaves line.labelled rest d → Leaves line.labelled rest (behind_label line head rest d)
label_leaves line head rest d h = by_label (has_label line head) line head rest (Label head.label_end rest) d refl (λ new. ((refl, refl), new)) h

leave_leaves : (line : Reading) (pieces : List Piece) (head : Head) (rest : Rest) → Leaves line.labelled rest (leave line pieces head rest)
unfolding leave
leave_leaves line pieces head rest =
    unless_leaves line.labelled (operands_fault pieces head.operands) rest (left_at line.depth rest)
    (either_leaves line.labelled (line.depth == 0) rest (Fails faults.Nesting)
    (Goes (record rest { lines = lines_outside line.depth rest.lines; conditions = conditions_outside line.depth rest.conditions })) tt (refl, refl))

assigns_leaves : (l : Bool) (name : List ℕ) (n : ℕ) (rest : Rest) → Leaves l rest (assigns name n rest)
assigns_leaves l name n rest = either_leaves l (is_name name) rest (Writes (assignment name n) rest) (Fails faults.Form) (refl, refl) tt

counted_leaves : (l : Bool) (name : List ℕ) (n : Option ℕ) (rest : Rest) → Leaves l rest (counted name n rest)
counted_leaves l name None rest = tt
counted_leaves l name (Some n) rest = assigns_leaves l name n rest

counted_in_leaves : (l : Bool) (text : List ℕ) (o : Option Piece) (rest : Rest) → Leaves l rest (counted_in text o rest)
counted_in_leaves l text None rest = tt
counted_in_leaves l text (Some p) rest = counted_leaves l (piece_text text p) (innermost rest.calls) rest

over : (l : Bool) (d : Done) (rest : Rest) (calls : List Call) → Leaves l (record rest { calls = calls }) d → Leaves l rest d
over l (Goes after) rest calls h = h
over l (Gives after) rest calls h = h
over l (Writes text after) rest calls h = h
over l (Turns text after) rest calls h = h
over l (Again at after) rest calls h = h
over l (Label at after) rest calls h = h
over l (Fails kind) rest calls h = tt

count_arguments_leaves : (line : Reading) (pieces : List Piece) (head : Head) (rest : Rest) → Leaves line.labelled rest (count_arguments line pieces head rest)
unfolding count_arguments
count_arguments_leaves line pieces head rest =
    let calls : List Call = calls_within line.depth rest.calls in
    let found : Done = counted_in line.text (one_piece head.operands) (record rest { calls = calls }) in
    either_leaves line.labelled (has_bad pieces) rest (Fails faults.Token) found tt
    (over line.labelled found rest calls (counted_in_leaves line.labelled line.text (one_piece head.operands) (record rest { calls = calls })))

measured_leaves : (l : Bool) (r : Result Iterated FaultKind) (rest : Rest) → Leaves l rest (measured r rest)
measured_leaves l (Ok i) rest = assigns_leaves l i.name (length i.text) rest
measured_leaves l (Err kind) rest = tt

count_characters_leaves : (line : Reading) (head : Head) (at : ℕ) (rest : Rest) → Leaves line.labelled rest (count_characters line head at rest)
unfolding count_characters
count_characters_leaves line head at rest =
    let found : Result Iterated FaultKind = two_texts (arguments (has_argument_forms rest.dialect) no_keyword (operands_from (has_argument_forms rest.dialect) line.text head.operands at)) in
    either_leaves line.labelled (has_unprintable line.text head.operands) rest (Fails faults.Token) (measured found rest) tt (measured_leaves line.labelled found rest)

delete_all_leaves : (l : Bool) (arguments : List Argument) (rest after : Rest) → Same rest after → Leaves l rest (delete_all arguments after)
delete_all_leaves l [] rest after h = h
delete_all_leaves l (a ∷ arguments) rest after h =
    either_leaves l (is_name (unwrap_or a.text [])) rest (delete_all arguments (without_macro (unwrap_or a.text []) after)) (Fails faults.Form)
    (delete_all_leaves l arguments rest (without_macro (unwrap_or a.text []) after) h) tt

delete_listed_leaves : (l : Bool) (o : Option (List Argument)) (rest : Rest) → Leaves l rest (delete_listed o rest)
delete_listed_leaves l None rest = tt
delete_listed_leaves l (Some []) rest = tt
delete_listed_leaves l (Some (a ∷ arguments)) rest = delete_all_leaves l (a ∷ arguments) rest rest (refl, refl)

delete_macros_leaves : (line : Reading) (head : Head) (at : ℕ) (rest : Rest) → Leaves line.labelled rest (delete_macros line head at rest)
unfolding delete_macros
delete_macros_leaves line head at rest =
    let found : Option (List Argument) = arguments (has_argument_forms rest.dialect) no_keyword (operands_from (has_argument_forms rest.dialect) line.text head.operands at) in
    either_leaves line.labelled (has_unprintable line.text head.operands) rest (Fails faults.Token) (delete_listed found rest) tt (delete_listed_leaves line.labelled found rest)

defined_leaves : (l : Bool) (r : Result Opcode FaultKind) (rest : Rest) → Leaves l rest (opcode_defined r rest)
defined_leaves l (Ok o) rest = (refl, refl)
defined_leaves l (Err kind) rest = tt

define_opcode_leaves : (names : Sense) (line : Reading) (head : Head) (rest : Rest) → Leaves line.labelled rest (define_opcode names line head rest)
unfolding define_opcode
define_opcode_leaves names line head rest = defined_leaves line.labelled (opcode_in names line.text head.operands) rest

direct_by : (names : Sense) (w : Word) (line : Reading) (pieces : List Piece) (head : Head) (at : ℕ) (rest : Rest) → Leaves line.labelled rest (direct names w line pieces head at rest)
unfolding direct
direct_by names macro_word line pieces head at rest = begin_macro_leaves line head at rest
direct_by names end_macro line pieces head at rest = unless_leaves line.labelled (end_fault line.text None pieces head.operands) rest (Fails faults.Nesting) tt
direct_by names repeat line pieces head at rest = begin_repeat_leaves names line head rest
direct_by names repeat_arguments line pieces head at rest = begin_arguments_leaves line head at rest
direct_by names repeat_characters line pieces head at rest = begin_characters_leaves line head at rest
direct_by names end_repeat line pieces head at rest = unless_leaves line.labelled (operands_fault pieces head.operands) rest (Fails faults.Nesting) tt
direct_by names if_word line pieces head at rest = begin_condition_leaves names line head rest
direct_by names if_false line pieces head at rest = switch_leaves line.labelled if_false pieces head rest
direct_by names if_true line pieces head at rest = switch_leaves line.labelled if_true pieces head rest
direct_by names if_true_false line pieces head at rest = switch_leaves line.labelled if_true_false pieces head rest
direct_by names end_if line pieces head at rest = end_leaves line.labelled pieces head rest
direct_by names immediate_if line pieces head at rest = guard_leaves names line head rest
direct_by names leave_word line pieces head at rest = leave_leaves line pieces head rest
direct_by names argument_count line pieces head at rest = count_arguments_leaves line pieces head rest
direct_by names character_count line pieces head at rest = count_characters_leaves line head at rest
direct_by names delete_word line pieces head at rest = delete_macros_leaves line head at rest
direct_by names opcode_word line pieces head at rest = define_opcode_leaves names line head rest
direct_by names end_word line pieces head at rest = (refl, refl)
direct_by names other_word line pieces head at rest = (refl, refl)

word_leaves : (names : Sense) (w : Word) (line : Reading) (pieces : List Piece) (head : Head) (at : ℕ) (rest : Rest) → Leaves line.labelled rest (read_word names w line pieces head at rest)
word_leaves names macro_word line pieces head at rest = label_leaves line head rest (direct names macro_word line pieces head at rest) (direct_by names macro_word line pieces head at rest)
word_leaves names end_macro line pieces head at rest = label_leaves line head rest (direct names end_macro line pieces head at rest) (direct_by names end_macro line pieces head at rest)
word_leaves names repeat line pieces head at rest = label_leaves line head rest (direct names repeat line pieces head at rest) (direct_by names repeat line pieces head at rest)
word_leaves names repeat_arguments line pieces head at rest = label_leaves line head rest (direct names repeat_arguments line pieces head at rest) (direct_by names repeat_arguments line pieces head at rest)
word_leaves names repeat_characters line pieces head at rest = label_leaves line head rest (direct names repeat_characters line pieces head at rest) (direct_by names repeat_characters line pieces head at rest)
word_leaves names end_repeat line pieces head at rest = label_leaves line head rest (direct names end_repeat line pieces head at rest) (direct_by names end_repeat line pieces head at rest)
word_leaves names if_word line pieces head at rest = label_leaves line head rest (direct names if_word line pieces head at rest) (direct_by names if_word line pieces head at rest)
word_leaves names if_false line pieces head at rest = label_leaves line head rest (direct names if_false line pieces head at rest) (direct_by names if_false line pieces head at rest)
word_leaves names if_true line pieces head at rest = label_leaves line head rest (direct names if_true line pieces head at rest) (direct_by names if_true line pieces head at rest)
word_leaves names if_true_false line pieces head at rest = label_leaves line head rest (direct names if_true_false line pieces head at rest) (direct_by names if_true_false line pieces head at rest)
word_leaves names end_if line pieces head at rest = label_leaves line head rest (direct names end_if line pieces head at rest) (direct_by names end_if line pieces head at rest)
word_leaves names immediate_if line pieces head at rest = label_leaves line head rest (direct names immediate_if line pieces head at rest) (direct_by names immediate_if line pieces head at rest)
word_leaves names leave_word line pieces head at rest = label_leaves line head rest (direct names leave_word line pieces head at rest) (direct_by names leave_word line pieces head at rest)
word_leaves names argument_count line pieces head at rest = label_leaves line head rest (direct names argument_count line pieces head at rest) (direct_by names argument_count line pieces head at rest)
word_leaves names character_count line pieces head at rest = label_leaves line head rest (direct names character_count line pieces head at rest) (direct_by names character_count line pieces head at rest)
word_leaves names delete_word line pieces head at rest = label_leaves line head rest (direct names delete_word line pieces head at rest) (direct_by names delete_word line pieces head at rest)
word_leaves names opcode_word line pieces head at rest = label_leaves line head rest (direct names opcode_word line pieces head at rest) (direct_by names opcode_word line pieces head at rest)
word_leaves names end_word line pieces head at rest = (refl, refl)
word_leaves names other_word line pieces head at rest = (refl, refl)

operator_leaves : (names : Sense) (line : Reading) (pieces : List Piece) (head : Head) (operator : Piece) (t : Option Template) (rest : Rest) → Leaves line.labelled rest (read_operator names line pieces head operator t rest)
operator_leaves names line pieces head operator (Some t) rest = label_leaves line head rest (call names t line head operator.end rest) (call_leaves names t line head operator.end rest)
operator_leaves names line pieces head operator None rest = word_leaves names (known_word (has_macro_directives rest.dialect) (word_in line.text (Some operator))) line pieces head operator.end rest

read_by : (o : Option Piece) (names : Sense) (line : Reading) (pieces : List Piece) (head : Head) (rest : Rest) → Leaves line.labelled rest (elim o [
  | None ↦ Gives rest
  | Some operator ↦ read_operator names line pieces head operator (rest.macros (canonical_name (piece_text line.text operator))) rest
])
read_by None names line pieces head rest = (refl, refl)
read_by (Some operator) names line pieces head rest = operator_leaves names line pieces head operator (rest.macros (canonical_name (piece_text line.text operator))) rest

read_leaves : (names : Sense) (line : Reading) (pieces : List Piece) (head : Head) (rest : Rest) → Leaves line.labelled rest (read names line pieces head rest)
unfolding read
read_leaves names line pieces head rest = read_by head.operator names line pieces head rest

value_leaves : (l : Bool) (text : List ℕ) (f : Found) (e : Evaluated) (rest : Rest) → Leaves l rest (with_value text f e rest)
value_leaves l text f (Ok e) rest = (refl, refl)
value_leaves l text f (Err kind) rest = tt

turn_leaves : (l : Bool) (names : Sense) (text : List ℕ) (o : Option Found) (d : Done) (rest : Rest) → Leaves l rest d → Leaves l rest (turn names text o d rest)
turn_leaves l names text None d rest h = h
turn_leaves l names text (Some f) d rest h = value_leaves l text f (evaluated names f.operator (drop f.operands text)) rest

read_line_leaves : (names : Sense) (line : Reading) (pieces : List Piece) (head : Head) (rest : Rest) → Leaves line.labelled rest (read_line names line pieces head rest)
unfolding read_line
read_line_leaves names line pieces head rest =
    turn_leaves line.labelled names line.text (operator_within (not (line.depth == 0) && has_string_operators rest.dialect) (code_end pieces) line.text) (read names line pieces head rest) rest
    (read_leaves names line pieces head rest)

done_by : (o : Option Pending) (names : Sense) (line : Reading) (pieces : List Piece) (head : Head) (rest : Rest) → Leaves line.labelled rest (elim o [
  | Some p ↦ collect p line pieces head (record rest { collecting = None })
  | None ↦ if is_skipping rest.conditions then skip line pieces head rest else read_line names line pieces head rest
])
done_by None names line pieces head rest = either_leaves line.labelled (is_skipping rest.conditions) rest (skip line pieces head rest) (read_line names line pieces head rest) (skip_leaves line pieces head rest) (read_line_leaves names line pieces head rest)
done_by (Some p) names line pieces head rest = uncollected line.labelled (collect p line pieces head (record rest { collecting = None })) rest (collect_leaves p line pieces head (record rest { collecting = None }))
  where
    uncollected : (l : Bool) (d : Done) (rest : Rest) → Leaves l (record rest { collecting = None }) d → Leaves l rest d
    uncollected l (Goes after) rest h = h
    uncollected l (Gives after) rest h = h
    uncollected l (Writes text after) rest h = h
    uncollected l (Turns text after) rest h = h
    uncollected l (Again at after) rest h = h
    uncollected l (Label at after) rest h = h
    uncollected l (Fails kind) rest h = tt

pub done_leaves : (names : Sense) (line : Reading) (pieces : List Piece) (head : Head) (rest : Rest) → Leaves line.labelled rest (done names line pieces head rest)
unfolding done
done_leaves names line pieces head rest = done_by rest.collecting names line pieces head rest

-- ---- steps

-- What a step leaves is read with so many lines, and what is left of its line has this number.
pub record Stays (number place : ℕ) (rest : Rest) : Type 0 where
  pub read : rest.read ≡ place
  pub again : IfSome rest.again (λ line. line.number ≡ number)

abbrev pub IsOf : (number place : ℕ) → Stepped → Type 0
IsOf number place (Steps rest) = Stays number place rest
IsOf number place (Says st rest) = (st.number ≡ number) × Stays number place rest
IsOf number place (Faults n p kind) = (n ≡ number) × (p ≡ place)
IsOf number place (Ends begin) = Unit {0}

none_again : (o : Option Remainder) (number : ℕ) → o ≡ None → IfSome o (λ line. line.number ≡ number)
none_again None number e = tt
none_again (Some line) number e = absurd cc

outcome_of : (line : Reading) (rest : Rest) (d : Done) → rest.again ≡ None → Leaves line.labelled rest d → IsOf line.number rest.read (outcome line rest.read d)
outcome_of line rest (Goes after) none h = record { read = h.0; again = none_again after.again line.number (h.1 ∙ none) }
outcome_of line rest (Gives after) none h = (refl, record { read = h.0; again = none_again after.again line.number (h.1 ∙ none) })
outcome_of line rest (Writes text after) none h = (refl, record { read = h.0; again = none_again after.again line.number (h.1 ∙ none) })
outcome_of line rest (Turns text after) none h = record { read = h.0; again = refl }
outcome_of line rest (Again at after) none h = record { read = h.0; again = refl }
outcome_of line rest (Label at after) none h = (refl, record { read = h.0.0; again = refl })
outcome_of line rest (Fails kind) none h = (refl, refl)

line_of : (names : Sense) (line : Reading) (rest : Rest) → rest.again ≡ None → IsOf line.number rest.read (line_step names line rest)
unfolding line_step
line_of names line rest none = outcome_of line rest (done names line (pieces_of rest.dialect line.text) (head_in (pieces_of rest.dialect line.text)) rest) none (done_leaves names line (pieces_of rest.dialect line.text) (head_in (pieces_of rest.dialect line.text)) rest)

-- a step of the line that was just read, or of one behind it
pub record Moves (from : ℕ) (st : Stepped) : Type 0 where
  pub number : ℕ
  pub place : ℕ
  pub more : from < place
  pub is : IsOf number place st

moves_faults : (b : Bool) (from number place : ℕ) (kind : FaultKind) (next : Stepped) → from < place → Moves from next → Moves from (cond b (Faults number place kind) next)
moves_faults true from number place kind next more h = record { number = number; place = place; more = more; is = (refl, refl) }
moves_faults false from number place kind next more h = h

moves_joined : (o : Option ℕ) (from : ℕ) (r : Reading) (whole more : Reading → Stepped) → Moves from (whole r) → Moves from (more r) → Moves from (joined_on r o whole more)
moves_joined None from r whole more h k = h
moves_joined (Some dash) from r whole more h k = k

moves_more : (names : Sense) (r : Reading) (lines : List SourceLine) (rest : Rest) (from : ℕ) → from < rest.read → rest.again ≡ None → Moves from (read_on names r lines rest)
unfolding read_on
moves_more names r [] rest from less none = record { number = r.number; place = rest.read; more = less; is = line_of names r (record rest { lines = [] }) none }
moves_more names r (line ∷ lines) rest from less none =
    let text : List ℕ = r.text ++ line.text in
    let dash : Option ℕ = dash_in (pieces_of rest.dialect text) in
    let part : Reading = with_part r (before_dash text dash) line.text in
    let after : Rest = record rest { lines = lines; read = rest.read + 1 } in
    let on : Rest = record rest { read = rest.read + 1 } in
    let next : Stepped = joined_with (rest.read + 1) r text line.text dash (λ whole. line_step names whole after) (λ more. read_on names more lines on) in
    let here : Moves from (line_step names part after) = record { number = part.number; place = rest.read + 1; more = omega arith; is = line_of names part after none } in
    let later : Moves from (read_on names part lines on) = moves_more names part lines on from (omega arith) none in
    moves_faults (is_long line.text) from line.number (rest.read + 1) faults.Token (if nat_le 100000 rest.read then Faults line.number (rest.read + 1) faults.Lines else next) (omega arith)
    (moves_faults (nat_le 100000 rest.read) from line.number (rest.read + 1) faults.Lines next (omega arith)
    (moves_faults (is_long (before_dash text dash)) from r.number (rest.read + 1) faults.Token (joined_on part dash (λ whole. line_step names whole after) (λ more. read_on names more lines on)) (omega arith)
    (moves_joined dash from part (λ whole. line_step names whole after) (λ more. read_on names more lines on) here later)))

moves_first : (names : Sense) (r : Reading) (line : SourceLine) (lines : List SourceLine) (rest : Rest) → rest.again ≡ None → Moves rest.read (read_on names r (line ∷ lines) rest)
unfolding read_on
moves_first names r line lines rest none =
    let from : ℕ = rest.read in
    let text : List ℕ = r.text ++ line.text in
    let dash : Option ℕ = dash_in (pieces_of rest.dialect text) in
    let part : Reading = with_part r (before_dash text dash) line.text in
    let after : Rest = record rest { lines = lines; read = rest.read + 1 } in
    let on : Rest = record rest { read = rest.read + 1 } in
    let next : Stepped = joined_with (rest.read + 1) r text line.text dash (λ whole. line_step names whole after) (λ more. read_on names more lines on) in
    let here : Moves from (line_step names part after) = record { number = part.number; place = rest.read + 1; more = omega arith; is = line_of names part after none } in
    let later : Moves from (read_on names part lines on) = moves_more names part lines on from (omega arith) none in
    moves_faults (is_long line.text) from line.number (rest.read + 1) faults.Token (if nat_le 100000 rest.read then Faults line.number (rest.read + 1) faults.Lines else next) (omega arith)
    (moves_faults (nat_le 100000 rest.read) from line.number (rest.read + 1) faults.Lines next (omega arith)
    (moves_faults (is_long (before_dash text dash)) from r.number (rest.read + 1) faults.Token (joined_on part dash (λ whole. line_step names whole after) (λ more. read_on names more lines on)) (omega arith)
    (moves_joined dash from part (λ whole. line_step names whole after) (λ more. read_on names more lines on) here later)))

moves_next : (names : Sense) (lines : List SourceLine) (rest : Rest) → rest.again ≡ None → (Moves rest.read (next_line_step names lines rest)) ⊎ ((begin : Option Opening) × (next_line_step names lines rest ≡ Ends begin))
moves_next names [] rest none = inr (unclosed rest.conditions rest.collecting, refl)
moves_next names (line ∷ lines) rest none = inl (moves_first names (begun line) line lines rest none)

abbrev stepped_by : Sense → Rest → Option Remainder → Stepped
stepped_by names rest o = elim o [
  | Some line ↦ line_step names (whole line) (record rest { again = None })
  | None ↦ next_line_step names rest.lines rest
]

-- what a step brings: something of the line just read, or of one to come, or the end
pub data Brings (rest : Rest) (st : Stepped) : Type 0 where
  on_line : (line : Remainder) → rest.again ≡ Some line → IsOf line.number rest.read st → Brings rest st
  on_next : rest.again ≡ None → Moves rest.read st → Brings rest st
  at_end : (begin : Option Opening) → st ≡ Ends begin → Brings rest st

brings_next : (names : Sense) (rest : Rest) → rest.again ≡ None → (Moves rest.read (next_line_step names rest.lines rest)) ⊎ ((begin : Option Opening) × (next_line_step names rest.lines rest ≡ Ends begin)) → Brings rest (next_line_step names rest.lines rest)
brings_next names rest none (inl moves) = on_next none moves
brings_next names rest none (inr ends) = at_end ends.0 ends.1

brings_by : (names : Sense) (rest : Rest) (o : Option Remainder) → rest.again ≡ o → Brings rest (stepped_by names rest o)
brings_by names rest (Some line) is = on_line line is (line_of names (whole line) (record rest { again = None }) refl)
brings_by names rest None is = brings_next names rest is (moves_next names rest.lines rest is)

pub brings : (names : Sense) (rest : Rest) → Brings rest (step names rest)
unfolding step
brings names rest = brings_by names rest rest.again refl

-- ---- labels

-- What is left of a line whose label was handed out is labelled, and the line wasn't before.
abbrev pub Hands : (labelled : Bool) → Stepped → Type 0
Hands labelled (Steps rest) = Unit {0}
Hands labelled (Says st rest) = IfSome rest.again (λ line. (line.labelled ≡ true) × (labelled ≡ false))
Hands labelled (Faults number place kind) = Unit {0}
Hands labelled (Ends begin) = Unit {0}

none_left : (o : Option Remainder) (labelled : Bool) → o ≡ None → IfSome o (λ line. (line.labelled ≡ true) × (labelled ≡ false))
none_left None labelled e = tt
none_left (Some line) labelled e = absurd cc

outcome_hands : (line : Reading) (rest : Rest) (d : Done) → rest.again ≡ None → Leaves line.labelled rest d → Hands line.labelled (outcome line rest.read d)
outcome_hands line rest (Goes after) none h = tt
outcome_hands line rest (Gives after) none h = none_left after.again line.labelled (h.1 ∙ none)
outcome_hands line rest (Writes text after) none h = none_left after.again line.labelled (h.1 ∙ none)
outcome_hands line rest (Turns text after) none h = tt
outcome_hands line rest (Again at after) none h = tt
outcome_hands line rest (Label at after) none h = (refl, h.1)
outcome_hands line rest (Fails kind) none h = tt

pub line_hands : (names : Sense) (line : Reading) (rest : Rest) → rest.again ≡ None → Hands line.labelled (line_step names line rest)
unfolding line_step
line_hands names line rest none = outcome_hands line rest (done names line (pieces_of rest.dialect line.text) (head_in (pieces_of rest.dialect line.text)) rest) none (done_leaves names line (pieces_of rest.dialect line.text) (head_in (pieces_of rest.dialect line.text)) rest)

hands_faults : (b labelled : Bool) (number place : ℕ) (kind : FaultKind) (next : Stepped) → Hands labelled next → Hands labelled (cond b (Faults number place kind) next)
hands_faults true labelled number place kind next h = tt
hands_faults false labelled number place kind next h = h

hands_joined : (o : Option ℕ) (labelled : Bool) (r : Reading) (whole more : Reading → Stepped) → Hands labelled (whole r) → Hands labelled (more r) → Hands labelled (joined_on r o whole more)
hands_joined None labelled r whole more h k = h
hands_joined (Some dash) labelled r whole more h k = k

hands_on : (names : Sense) (r : Reading) (lines : List SourceLine) (rest : Rest) → rest.again ≡ None → Hands r.labelled (read_on names r lines rest)
unfolding read_on
hands_on names r [] rest none = line_hands names r (record rest { lines = [] }) none
hands_on names r (line ∷ lines) rest none =
    let text : List ℕ = r.text ++ line.text in
    let dash : Option ℕ = dash_in (pieces_of rest.dialect text) in
    let part : Reading = with_part r (before_dash text dash) line.text in
    let after : Rest = record rest { lines = lines; read = rest.read + 1 } in
    let on : Rest = record rest { read = rest.read + 1 } in
    let next : Stepped = joined_with (rest.read + 1) r text line.text dash (λ whole. line_step names whole after) (λ more. read_on names more lines on) in
    hands_faults (is_long line.text) r.labelled line.number (rest.read + 1) faults.Token (if nat_le 100000 rest.read then Faults line.number (rest.read + 1) faults.Lines else next)
    (hands_faults (nat_le 100000 rest.read) r.labelled line.number (rest.read + 1) faults.Lines next
    (hands_faults (is_long (before_dash text dash)) r.labelled r.number (rest.read + 1) faults.Token (joined_on part dash (λ whole. line_step names whole after) (λ more. read_on names more lines on))
    (hands_joined dash r.labelled part (λ whole. line_step names whole after) (λ more. read_on names more lines on) (line_hands names part after none) (hands_on names part lines on none))))

hands_next : (names : Sense) (lines : List SourceLine) (rest : Rest) → rest.again ≡ None → Hands false (next_line_step names lines rest)
hands_next names [] rest none = tt
hands_next names (line ∷ lines) rest none = hands_on names (begun line) (line ∷ lines) rest none

-- whether the label of what is left of a line was handed out
abbrev pub is_labelled : Option Remainder → Bool
is_labelled None = false
is_labelled (Some line) = line.labelled

hands_by : (names : Sense) (rest : Rest) (o : Option Remainder) → rest.again ≡ o → Hands (is_labelled o) (stepped_by names rest o)
hands_by names rest (Some line) is = line_hands names (whole line) (record rest { again = None }) refl
hands_by names rest None is = hands_next names rest.lines rest is

pub hands : (names : Sense) (rest : Rest) → Hands (is_labelled rest.again) (step names rest)
unfolding step
hands names rest = hands_by names rest rest.again refl

-- ---- the laws

abbrev IsLaw : Rest → Stepped → Type 0
IsLaw rest (Steps r) = Unit {0}
IsLaw rest (Says st r) = IsFollowing rest st r
IsLaw rest (Faults n p kind) = Unit {0}
IsLaw rest (Ends begin) = Unit {0}

follows_same : (rest : Rest) (st : Statement) (r : Rest) (line : Remainder) → rest.again ≡ Some line → IsOf line.number rest.read (Says st r) → IsFollowing rest st r
follows_same rest st r line again is = record {
  later = λ none. absurd (let e : Some line ≡ None = sym again ∙ none in cc);
  same = λ other e. (is.1.read, is.0 ∙ ap (λ (l : Remainder). l.number) (let f : Some line ≡ Some other = sym again ∙ e in let g : line ≡ other = cc in g));
  number = numbered r.again line.number st.number is.0 is.1.again;
}
  where
    numbered : (o : Option Remainder) (m n : ℕ) → n ≡ m → IfSome o (λ line. line.number ≡ m) → IfSome o (λ line. line.number ≡ n)
    numbered None m n e h = tt
    numbered (Some l) m n e h = h ∙ sym e

follows_next : (rest : Rest) (st : Statement) (r : Rest) → rest.again ≡ None → Moves rest.read (Says st r) → IsFollowing rest st r
follows_next rest st r none m = record {
  later = λ e. (let more = m.more in let read = m.is.1.read in omega arith);
  same = λ other e. absurd (let f : None ≡ Some other = sym none ∙ e in cc);
  number = numbered r.again m.number st.number m.is.0 m.is.1.again;
}
  where
    numbered : (o : Option Remainder) (m n : ℕ) → n ≡ m → IfSome o (λ line. line.number ≡ m) → IfSome o (λ line. line.number ≡ n)
    numbered None m n e h = tt
    numbered (Some l) m n e h = h ∙ sym e

follows_by : (rest : Rest) (st : Statement) (r : Rest) (s : Stepped) → s ≡ Says st r → Brings rest s → IsFollowing rest st r
follows_by rest st r s e (on_line line again is) = follows_same rest st r line again (subst (IsOf line.number rest.read) e is)
follows_by rest st r s e (on_next none moves) = follows_next rest st r none (subst (Moves rest.read) e moves)
follows_by rest st r s e (at_end begin ends) = absurd (let f : Says st r ≡ Ends begin = sym e ∙ ends in cc)

pub follows : (names : Sense) (rest : Rest) (st : Statement) (r : Rest) → step names rest ≡ Says st r → IsFollowing rest st r
follows names rest st r e = follows_by rest st r (step names rest) e (brings names rest)

none_handed : (o : Option Remainder) → IfSome o (λ line. (line.labelled ≡ true) × (true ≡ false)) → o ≡ None
none_handed None h = refl
none_handed (Some line) h = absurd (let e : true ≡ false = h.1 in cc)

pub once : (names other : Sense) (before between after : Rest) (label st : Statement) (line : Remainder) → step names before ≡ Says label between → between.again ≡ Some line → step other between ≡ Says st after → after.again ≡ None
once names other before between after label st line first left second =
    let one : Hands (is_labelled before.again) (Says label between) = subst (Hands (is_labelled before.again)) first (hands names before) in
    let two : IfSome (Some line) (λ l. (l.labelled ≡ true) × (is_labelled before.again ≡ false)) = subst (λ (o : Option Remainder). IfSome o (λ l. (l.labelled ≡ true) × (is_labelled before.again ≡ false))) left one in
    let is : is_labelled between.again ≡ true = ap is_labelled left ∙ two.0 in
    let three : Hands (is_labelled between.again) (Says st after) = subst (Hands (is_labelled between.again)) second (hands other between) in
    none_handed after.again (subst (λ (b : Bool). IfSome after.again (λ l. (l.labelled ≡ true) × (b ≡ false))) is three)
