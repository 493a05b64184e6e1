-- A whole line as a statement: what an instruction's text leaves in a section.
use Rattle.std.proofs.Common.{◌≡◌, ℕ, suc, ◌+◌, ◌-◌, ◌<◌, ◌≤◌, Bool, true, false, List, [], ◌∷◌, ◌++◌, length, map, drop, get_or, Option, Some, None, Result, Ok, Err, refl, ap, ◌∙◌, sym, subst, arith}
use Rattle.std.specs.Prelude.{codes, option_map, nat_lt, not, ◌&&◌, ◌||◌, ◌==◌, find, All, IfSome, if◌then◌else◌, replicate}
use Rattle.std.specs.List.{list_all, list_any, AllPass}
use Rattle.std.specs.Char.{is_ascii_uppercase, to_ascii_lowercase, to_ascii_uppercase}
use Rattle.std.specs.Str.{bytes_eq, str_eq_ignore_ascii_case, str_to_ascii_lowercase}
use Rattle.std.proofs.Math.Seq.{drop-append_seam}
use Rattle.std.proofs.lemmas.List.Sums.{AllPass-from_list_all}
use Rattle.std.proofs.lemmas.List.{drop-drop, get_or-drop, get_or_append_left}
use Rattle.std.proofs.lemmas.Bool.Decides.{nat_tests}
use Rattle.std.proofs.lemmas.Slice.Eq.{bytes_eq-Decides}
use Rattle.vax_isa.specs.declared.OperandKind.{OperandKind}
use Rattle.vax_isa.specs.Instructions.{Instruction, instructions}
use Rattle.vax_isa.specs.Rows.{IsKind, IsName, IsFormed, row_of, with_opcode, with_name, names_of, is_one_of, no_operand}
use Rattle.vax_isa.specs.Rows as rows
use Rattle.vax_isa.proofs.Laws.{only_name, formed_with_opcode, opcode_found}
use Rattle.vax_lex.specs.Characters.{is_delimiter, is_name_character}
use Rattle.vax_lex.specs.Statements.{Context, Before, first_name, other_operator, operator_of, nothing_special, size_letter, line_start, context_after, context_after_blank, is_size_letter}
use Rattle.vax_lex.specs.Tokens.{Head, HeadFits, blank, begins, head_of, plain, pieces_of, tokens_in, tokens_of, token_text, with_first, with_piece}
use Rattle.vax_lex.specs.declared.token.LexError.{LexError}
use Rattle.vax_lex.specs.declared.token.Piece.{Piece}
use Rattle.vax_lex.specs.declared.token.PieceKind.{PieceKind}
use Rattle.vax_lex.specs.declared.token.PieceKind.TheVariants as kinds
use Rattle.vax_lex.specs.declared.token.Token.{Token}
use Rattle.vax_lex.specs.declared.token.TokenKind.TheVariants.{Name}
use Rattle.vax_lex.specs.declared.value.Value.{Value}
use Rattle.vax_lex.proofs.Lines.{steps}
use Rattle.vax_lex.proofs.Heads.{head_fits}
use Rattle.vax_macro.specs.declared.error.FaultKind.{FaultKind}
use Rattle.vax_flat.specs.Grammar.{Specifier, Reading, Reads, Reserved, Sequence, End, ReservedHere, Next, read_operand, read_operands, followed, IsUnreserved}
use Rattle.vax_asm.specs.Placing.{alone, body_stated, directive_named, in_ascii, instruction_named, is_bad, is_listing, is_listing_by, is_wide, operation_stated, placed, placed_by, stated, token_of}
use Rattle.vax_asm_first.specs.Fixups.{Fixup}
use Rattle.vax_asm_first.specs.Progress.{Progress, Site, done, site_of}
use Rattle.vax_asm_first.specs.Standing.{Standing, here_in}
use Rattle.vax_asm_first.specs.declared.types.Origin.{Origin}
use Rattle.vax_asm_instruction.specs.Stating.{Reached, behind as onward, if_counted, instruction_stated, opcode_stated, operand_stated, operands_stated}
use Rattle.vax_asm_sections.specs.Layout.{Bytes, Part, current_of}
use Rattle.vax_dialect.specs.Differences.{has_further_directives}
use Rattle.vax_dialect.specs.declared.Dialect.{Dialect}
use Rattle.vax_asm_statement.specs.Directives.{directive_of, directives, further_directives, further_named, named_in}
use Rattle.vax_asm_statement.specs.Parts.{parts}
use Rattle.vax_asm_statement.specs.Reading.{Operation, What, parsed}
use Rattle.vax_disasm.specs.Text.{operands_text, specifier_text, instruction_text}
use Rattle.vax_disasm_laws.proofs.Words.{word, written, token_at, tokens_at, behind, are_there, behind_words, text_there, Scans, next_word}
use Rattle.vax_disasm_laws.proofs.Heads.{operand_context, ends, BeginsName, plain_name, and_false}
use Rattle.vax_disasm_laws.proofs.Spoken.{specifier_words, specifier_spelled}
use Rattle.vax_disasm_laws.proofs.Readings.{AreBytes, IsRead, is_read_from}
use Rattle.vax_disasm_laws.proofs.Stated.{field_for, left_by, length_for, may_fit, specifier_stated}
use Rattle.vax_disasm_laws.proofs.Adding.{adds, begun_at, reached_with}
use Rattle.vax_disasm_laws.proofs.Whole.{Plain, plain_kind, after_words, AllFit, Starts, specifier_starts, no_more, operand_scanned, after_scanned, parts_at, parts_next}

-- operands one behind another, as the grammar reads them

pub record NextRead (kind : OperandKind) (kinds : List OperandKind) (bytes : List ℕ) (q : Sequence) : Type 0 where
  pub s : Specifier
  pub count : ℕ
  pub rest : Sequence
  pub is : Next kind s count rest ≡ q
  pub first : read_operand kind bytes ≡ Some (Reads s count)
  pub later : read_operands kinds (drop count bytes) ≡ Some rest

next_later : (kind : OperandKind) (kinds : List OperandKind) (bytes : List ℕ) (q : Sequence) (s : Specifier) (count : ℕ) (r : Option Sequence) → read_operand kind bytes ≡ Some (Reads s count) → read_operands kinds (drop count bytes) ≡ r → option_map (Next kind s count) r ≡ Some q → NextRead kind kinds bytes q
next_later kind kinds bytes q s count None first later e = absurd cc
next_later kind kinds bytes q s count (Some rest) first later e = record { s = s; count = count; rest = rest; is = cc; first = first; later = later }

next_first : (kind : OperandKind) (kinds : List OperandKind) (bytes : List ℕ) (q : Sequence) (r : Option Reading) → read_operand kind bytes ≡ r → followed kind r (λ count. read_operands kinds (drop count bytes)) ≡ Some q → IsUnreserved q → NextRead kind kinds bytes q
unfolding followed
next_first kind kinds bytes q None first e u = absurd cc
next_first kind kinds bytes q (Some (Reserved count)) first e u = let same : q ≡ ReservedHere count = cc in absurd (subst (λ (t : Sequence). IsUnreserved t) same u)
next_first kind kinds bytes q (Some (Reads s count)) first e u = next_later kind kinds bytes q s count (read_operands kinds (drop count bytes)) first refl e

pub next_read : (kind : OperandKind) (kinds : List OperandKind) (bytes : List ℕ) (q : Sequence) → read_operands (kind ∷ kinds) bytes ≡ Some q → IsUnreserved q → NextRead kind kinds bytes q
unfolding read_operands
next_read kind kinds bytes q e u = next_first kind kinds bytes q (read_operand kind bytes) refl e u

pub none_read : (bytes : List ℕ) (q : Sequence) → read_operands [] bytes ≡ Some q → End ≡ q
unfolding read_operands
none_read bytes q e = cc

pub tail_kinds : (kind : OperandKind) (kinds : List OperandKind) → All IsKind (kind ∷ kinds) → All IsKind kinds
tail_kinds kind kinds all = λ k d h. all (suc k) d (omega arith)

pub head_kind : (kind : OperandKind) (kinds : List OperandKind) → All IsKind (kind ∷ kinds) → IsKind kind
head_kind kind kinds all = all 0 kind (omega arith)

pub later_bytes : (count : ℕ) (bytes : List ℕ) → AreBytes bytes → AreBytes (drop count bytes)
later_bytes count bytes are = λ i. rw (get_or-drop count bytes i 0) (are (count + i))

-- what stands at the operands' place
abbrev There : List ℕ → (pos at : ℕ) → Sequence → Type 0
There line pos at End = Unit {0}
There line pos at (ReservedHere count) = Unit {0}
There line pos at (Next kind s count rest) = drop pos line ≡ specifier_text kind (at + count) s ++ operands_text 44 (at + count) rest

there_after : (line : List ℕ) (pos at : ℕ) (q : Sequence) → drop pos line ≡ operands_text 44 at q → There line (pos + 1) at q
unfolding operands_text
there_after line pos at End e = tt
there_after line pos at (ReservedHere count) e = tt
there_after line pos at (Next kind s count rest) e = sym (drop-drop 1 pos line) ∙ ap (drop 1) e

pub all_fit : (kinds : List OperandKind) (bytes : List ℕ) (q : Sequence) → AreBytes bytes → All IsKind kinds → read_operands kinds bytes ≡ Some q → IsUnreserved q → AllFit q
all_fit [] bytes q are ks e u = subst (λ (t : Sequence). AllFit t) (none_read bytes q e) tt
all_fit (kind ∷ kinds) bytes q are ks e u =
    let n : NextRead kind kinds bytes q = next_read kind kinds bytes q e u in
    let read : IsRead kind bytes n.s n.count = is_read_from kind bytes n.s n.count are (head_kind kind kinds ks) n.first in
    let rest : IsUnreserved n.rest = subst (λ (t : Sequence). IsUnreserved t) (sym n.is) u in
    subst (λ (t : Sequence). AllFit t) n.is (may_fit kind n.s (head_kind kind kinds ks) read.may, all_fit kinds (drop n.count bytes) n.rest (later_bytes n.count bytes are) (tail_kinds kind kinds ks) n.later rest)

-- ---- the operands

-- operands to be filled in, one behind another: the first begins at a place, which is an address
abbrev pub fields : Origin → (there at : ℕ) → Sequence → List (Part Fixup)
fields origin there at End = []
fields origin there at (ReservedHere count) = []
fields origin there at (Next kind s count rest) = field_for origin kind (there + count) at s ∷ fields origin (there + count) (at + length_for kind s) rest

module _ (own : Dialect) (origin : Origin) (line : List ℕ) (here : Value) where
  abbrev site : Site
  site = record { dialect = own; origin = origin; line = line; here = here }

  abbrev AreStated : List OperandKind → (there pos : ℕ) → Sequence → Type 0
  AreStated kinds there pos q = (r : Reached) (extra : List OperandKind) → operands_stated site (parts_at there pos q) (kinds ++ extra) r ≡ adds (fields origin there r.at q) r

  next_stated : (kind : OperandKind) (kinds : List OperandKind) (there pos count : ℕ) (s : Specifier) (rest : Sequence) → IsKind kind → (bytes : List ℕ) → IsRead kind bytes s count
      → ((p : ℕ) → There line p (there + count) rest → AreStated kinds (there + count) p rest) → There line pos there (Next kind s count rest) → AreStated (kind ∷ kinds) there pos (Next kind s count rest)
  next_stated kind kinds there pos count s rest k bytes read more is = λ r extra.
      let next : ℕ = there + count in
      let spelled : drop pos line ≡ written (specifier_words kind next s) (operands_text 44 next rest) = is ∙ specifier_spelled kind next s (operands_text 44 next rest) in
      let one : operand_stated site kind (tokens_at pos (specifier_words kind next s)) r.at r.progress.standing ≡ left_by origin kind next r.at s r.progress.standing =
      specifier_stated own origin line here kind pos r.at next s r.progress.standing k read.may (are_there line pos (specifier_words kind next s) (operands_text 44 next rest) spelled) in
      let behind_it : drop (behind pos (specifier_words kind next s)) line ≡ operands_text 44 next rest = behind_words line pos (specifier_words kind next s) (operands_text 44 next rest) spelled in
      let later_there : There line (behind pos (specifier_words kind next s) + 1) next rest = there_after line (behind pos (specifier_words kind next s)) next rest behind_it in
      ap (λ (x : Reached). operands_stated site (parts_at next (behind pos (specifier_words kind next s) + 1) rest) (kinds ++ extra) (onward r.progress.fault x)) one
      ∙ more (behind pos (specifier_words kind next s) + 1) later_there (reached_with (field_for origin kind next r.at s) r) extra

  all_stated : (kinds : List OperandKind) (bytes : List ℕ) (there pos : ℕ) (q : Sequence) → AreBytes bytes → All IsKind kinds → read_operands kinds bytes ≡ Some q → IsUnreserved q → There line pos there q → AreStated kinds there pos q
  all_stated [] bytes there pos q are ks e u is = subst (λ (t : Sequence). AreStated [] there pos t) (none_read bytes q e) (λ r extra. refl)
  all_stated (kind ∷ kinds) bytes there pos q are ks e u is =
      let n : NextRead kind kinds bytes q = next_read kind kinds bytes q e u in
      let read : IsRead kind bytes n.s n.count = is_read_from kind bytes n.s n.count are (head_kind kind kinds ks) n.first in
      let rest : IsUnreserved n.rest = subst (λ (t : Sequence). IsUnreserved t) (sym n.is) u in
      subst (λ (t : Sequence). AreStated (kind ∷ kinds) there pos t) n.is
      (next_stated kind kinds there pos n.count n.s n.rest (head_kind kind kinds ks) bytes read
      (λ p. all_stated kinds (drop n.count bytes) (there + n.count) p n.rest (later_bytes n.count bytes are) (tail_kinds kind kinds ks) n.later rest)
      (subst (λ (t : Sequence). There line pos there t) (sym n.is) is))

counted_parts : (kinds : List OperandKind) (bytes : List ℕ) (there pos : ℕ) (q : Sequence) → read_operands kinds bytes ≡ Some q → IsUnreserved q → length (parts_at there pos q) ≡ length kinds
counted_parts [] bytes there pos q e u = subst (λ (t : Sequence). length (parts_at there pos t) ≡ 0) (none_read bytes q e) refl
counted_parts (kind ∷ kinds) bytes there pos q e u =
    let n : NextRead kind kinds bytes q = next_read kind kinds bytes q e u in
    let rest : IsUnreserved n.rest = subst (λ (t : Sequence). IsUnreserved t) (sym n.is) u in
    subst (λ (t : Sequence). length (parts_at there pos t) ≡ suc (length kinds)) n.is
    (ap suc (counted_parts kinds (drop n.count bytes) (there + n.count) (behind pos (specifier_words kind (there + n.count) n.s) + 1) n.rest n.later rest))

-- the operator

pub record IsOperator (name : List ℕ) : Type 0 where
  pub first : ℕ
  pub more : List ℕ
  pub spelled : name ≡ first ∷ more
  pub begins : BeginsName first
  pub characters : list_all is_name_character (first ∷ more) ≡ true
  pub short : length (first ∷ more) ≤ 31
  pub operator : (d : Dialect) → operator_of d name ≡ other_operator

character_passes : (c : ℕ) → rows.is_name_character c ≡ true → is_name_character c ≡ true
character_passes c h = grind (arith, nat_tests)

characters_pass : (text : List ℕ) → AllPass rows.is_name_character text → list_all is_name_character text ≡ true
characters_pass [] all = refl
characters_pass (c ∷ text) all = rw (character_passes c (all 0 c (omega arith))) (characters_pass text (λ k d h. all (suc k) d (omega arith)))

pub no_dot : (c : ℕ) → is_ascii_uppercase c ≡ true → (to_ascii_uppercase c == 46) ≡ false
no_dot c h = grind (arith, nat_tests)

no_directive : (c : ℕ) (text : List ℕ) → is_ascii_uppercase c ≡ true → (d : Dialect) → operator_of d (c ∷ text) ≡ other_operator
no_directive c text h d = rw (no_dot c h) refl

begins_capital : (c : ℕ) → is_ascii_uppercase c ≡ true → BeginsName c
begins_capital c h = record { no_blank = grind (arith, nat_tests); no_comment = grind (arith, nat_tests); no_digit = grind (arith, nat_tests) }

pub is_operator : (name : List ℕ) → IsName name → IsOperator name
is_operator [] is = absurd (let some = is.some in omega arith)
is_operator (c ∷ text) is =
    record { first = c; more = text; spelled = refl; begins = begins_capital c is.letter; characters = characters_pass (c ∷ text) is.characters; short = let short = is.short in omega arith; operator = no_directive c text is.letter }

-- the instruction of an opcode, and of its name

find_first : (P : Instruction → Type 0) (t : Bool) (x i : Instruction) (rest : Option Instruction) → P x → (rest ≡ Some i → P i) → (if t then Some x else rest) ≡ Some i → P i
find_first P true x i rest here later e = let same : x ≡ i = cc in subst P same here
find_first P false x i rest here later e = later e

pub find_all : (P : Instruction → Type 0) (test : Instruction → Bool) (xs : List Instruction) → ((k : ℕ) (d : Instruction) → k < length xs → P (get_or xs k d)) → (i : Instruction) → find test xs ≡ Some i → P i
find_all P test [] all i e = absurd cc
find_all P test (x ∷ xs) all i e = find_first P (test x) x i (find test xs) (all 0 x (omega arith)) (λ f. find_all P test xs (λ k d h. all (suc k) d (omega arith)) i f) e

abbrev Named : Instruction → Type 0
Named i = (text : List ℕ) → is_one_of (names_of i) text ≡ true → with_name text ≡ Some i

same_text : (text : List ℕ) → str_eq_ignore_ascii_case text text ≡ true
same_text text = (bytes_eq-Decides (str_to_ascii_lowercase text) (str_to_ascii_lowercase text)).1 refl

named_back : (opcode : ℕ) (i : Instruction) → with_opcode opcode ≡ Some i → with_name i.name ≡ Some i
unfolding with_opcode
named_back opcode i e =
    let named : Named i = find_all Named (λ j. j.opcode == opcode) instructions (λ k d h text is. only_name text k d h is) i e in
    named i.name (rw (same_text i.name) refl)

not_true : (b : Bool) → not b ≡ true → b ≡ false
not_true true h = cc
not_true false h = refl

-- the name of a pop, in letters of either case
abbrev is_pop : List ℕ → Bool
is_pop name = str_eq_ignore_ascii_case (codes "POPL") name

no_pops : AllPass (λ i. not (is_pop i.name)) instructions
unfolding instructions
no_pops = AllPass-from_list_all (λ i. not (is_pop i.name)) instructions refl

-- no instruction has it
found_no_pop : (opcode : ℕ) (i : Instruction) → with_opcode opcode ≡ Some i → is_pop i.name ≡ false
unfolding with_opcode
found_no_pop opcode i e = not_true (is_pop i.name) (find_all (λ (j : Instruction). not (is_pop j.name) ≡ true) (λ j. j.opcode == opcode) instructions no_pops i e)

pub found_formed : (opcode : ℕ) (i : Instruction) → with_opcode opcode ≡ Some i → IsFormed (row_of i)
found_formed opcode i e = subst (λ (w : Option Instruction). IfSome w (λ j. IsFormed (row_of j))) e (formed_with_opcode opcode)

pub found_opcode : (opcode : ℕ) (i : Instruction) → with_opcode opcode ≡ Some i → i.opcode ≡ opcode
found_opcode opcode i e = subst (λ (w : Option Instruction). IfSome w (λ j. j.opcode ≡ opcode)) e (opcode_found opcode)

pub found_kinds : (i : Instruction) → IsFormed (row_of i) → All IsKind i.operands
found_kinds i f = λ k d h. subst (λ (kind : OperandKind). IsKind kind) (get_or_append_left i.operands (replicate (6 - length i.operands) no_operand) d k h) (f.kinds k d h)

-- behind the operator

abbrev pub front_text : ℕ → Sequence → List ℕ
front_text at q = operands_text 32 at q

abbrev pub behind_operator : Before → Context
behind_operator before = record { place = first_name other_operator; before = before }

abbrev pub size_or_nothing : Bool → Before
size_or_nothing size = if size then size_letter else nothing_special

blank_head : (size : Bool) (rest : List ℕ) → head_of (behind_operator (size_or_nothing size)) (32 ∷ rest) ≡ blank
unfolding head_of plain
blank_head true rest = refl
blank_head false rest = refl

behind_blank : (size : Bool) → context_after_blank (behind_operator (size_or_nothing size)) ≡ operand_context true nothing_special
behind_blank true = refl
behind_blank false = refl

pub blank_passed : (size : Bool) (pos : ℕ) (rest : List ℕ) (tokens : List Token) → Scans (operand_context true nothing_special) (pos + 1) rest tokens → Scans (behind_operator (size_or_nothing size)) pos (32 ∷ rest) tokens
blank_passed size pos rest tokens s d =
    let here = steps d (behind_operator (size_or_nothing size)) pos (32 ∷ rest) blank (sym (blank_head size rest)) (subst (λ (x : Head). HeadFits (32 ∷ rest) x) (blank_head size rest) (head_fits (behind_operator (size_or_nothing size)) (32 ∷ rest))) in
    rw (here, behind_blank size) (s d)

pub operator_head : (b : ℕ) (text rest : List ℕ) → BeginsName b → list_all is_name_character (b ∷ text) ≡ true → length (b ∷ text) ≤ 31 → ends is_name_character rest ≡ true → head_of line_start (b ∷ (text ++ rest)) ≡ begins Name (suc (length text))
unfolding head_of
operator_head b text rest is all short end = rw (and_false (is_delimiter b)) (plain_name b text rest is all short end)

-- the tokens of the operands

abbrev pub front_tokens : (at pos : ℕ) → Sequence → List Token
front_tokens at pos End = []
front_tokens at pos (ReservedHere count) = []
front_tokens at pos (Next kind s count rest) = tokens_at pos (specifier_words kind (at + count) s ++ after_words (at + count) rest)

front_scanned : (size : Bool) (at pos : ℕ) (q : Sequence) → AllFit q → Scans (behind_operator (size_or_nothing size)) pos (front_text at q) (front_tokens at (pos + 1) q)
unfolding operands_text
front_scanned size at pos End fit = no_more (behind_operator (size_or_nothing size)) pos
front_scanned size at pos (ReservedHere count) fit = no_more (behind_operator (size_or_nothing size)) pos
front_scanned size at pos (Next kind s count rest) fit =
    blank_passed size pos (specifier_text kind (at + count) s ++ operands_text 44 (at + count) rest) (tokens_at (pos + 1) (specifier_words kind (at + count) s ++ after_words (at + count) rest))
    (operand_scanned true kind s (at + count) (pos + 1) rest fit.0 (after_scanned (at + count) (behind (pos + 1) (specifier_words kind (at + count) s)) rest fit.1))

front_ends : (at : ℕ) (q : Sequence) → ends is_name_character (front_text at q) ≡ true
unfolding operands_text
front_ends at End = refl
front_ends at (ReservedHere count) = refl
front_ends at (Next kind s count rest) = refl

pub line_scanned : (name : List ℕ) (at : ℕ) (q : Sequence) → IsOperator name → AllFit q → (d : Dialect) → tokens_of d (name ++ front_text at q) ≡ Ok (token_at 0 (word Name name) ∷ front_tokens at (length name + 1) q)
unfolding pieces_of
line_scanned name at q is fit d =
    let some : 0 < length name = rw is.spelled (omega arith) in
    let zero_more : 0 + length name ≡ length name = omega arith in
    let head : head_of line_start (name ++ front_text at q) ≡ begins Name (length name) = rw is.spelled (operator_head is.first is.more (front_text at q) is.begins is.characters is.short (front_ends at q)) in
    let after : (d : Dialect) → context_after d line_start Name name ≡ behind_operator (size_or_nothing (is_size_letter name)) = λ d. rw (is.operator d) refl in
    next_word line_start (behind_operator (size_or_nothing (is_size_letter name))) 0 Name name (front_text at q) (front_tokens at (length name + 1) q) some head after
    (subst (λ (pos : ℕ). Scans (behind_operator (size_or_nothing (is_size_letter name))) pos (front_text at q) (front_tokens at (length name + 1) q)) (sym zero_more) (front_scanned (is_size_letter name) at (length name) q fit)) d

-- the statement

parts_front : (at pos : ℕ) (q : Sequence) → parts (front_tokens at pos q) ≡ parts_at at pos q
parts_front at pos End = refl
parts_front at pos (ReservedHere count) = refl
parts_front at pos (Next kind s count rest) = parts_next at pos kind s count rest

front_there : (name : List ℕ) (at : ℕ) (q : Sequence) → There (name ++ operands_text 32 at q) (length name + 1) at q
unfolding operands_text
front_there name at End = tt
front_there name at (ReservedHere count) = tt
front_there name at (Next kind s count rest) =
    sym (drop-drop 1 (length name) (name ++ 32 ∷ (specifier_text kind (at + count) s ++ operands_text 44 (at + count) rest))) ∙ ap (drop 1) (drop-append_seam name (32 ∷ (specifier_text kind (at + count) s ++ operands_text 44 (at + count) rest)))

-- ---- the line

parsed_operation : (name : List ℕ) (at pos : ℕ) (q : Sequence) → parsed (token_at 0 (word Name name) ∷ front_tokens at pos q) ≡ record { label = None; what = Operation (token_at 0 (word Name name)) (front_tokens at pos q) }
unfolding parsed
parsed_operation name at pos End = refl
parsed_operation name at pos (ReservedHere count) = refl
parsed_operation name at pos (Next kind s count rest) =
    let is : Starts (specifier_words kind (at + count) s) = specifier_starts kind (at + count) s in
    let plain : Plain is.first.kind = plain_kind is.first.kind is.plain in
    rw (is.spelled, plain.no_colon, plain.no_equals) refl

-- a line without a fault among its pieces
pub record ArePlain (pieces : List Piece) (tokens : List Token) : Type 0 where
  pub tokens_are : map token_of pieces ≡ tokens
  pub no_bad : list_any is_bad pieces ≡ false
  pub no_wide : list_any is_wide pieces ≡ false

plain_rest : (p : Piece) (t : Token) (pieces : List Piece) (tokens : List Token) (rest : Result (List Token) LexError) → token_of p ≡ t → is_bad p ≡ false → is_wide p ≡ false
    → ((more : List Token) → rest ≡ Ok more → ArePlain pieces more) → with_first t rest ≡ Ok tokens → ArePlain (p ∷ pieces) tokens
plain_rest p t pieces tokens (Ok more) is bad wide h e =
    let a : ArePlain pieces more = h more refl in
    record {
      tokens_are = rw (is, a.tokens_are) (let same : t ∷ more ≡ tokens = cc in same);
      no_bad = rw (bad, a.no_bad) refl;
      no_wide = rw (wide, a.no_wide) refl;
    }
plain_rest p t pieces tokens (Err x) is bad wide h e = absurd cc

plain_first : (kind : PieceKind) (start end : ℕ) (pieces : List Piece) (tokens : List Token) → ((more : List Token) → tokens_in pieces ≡ Ok more → ArePlain pieces more) → with_piece kind start end (tokens_in pieces) ≡ Ok tokens
    → ArePlain (record { kind = kind; start = start; end = end } ∷ pieces) tokens
plain_first (kinds.Token kind) start end pieces tokens h e =
    plain_rest (record { kind = kinds.Token kind; start = start; end = end }) (record { kind = kind; start = start; end = end }) pieces tokens (tokens_in pieces) refl refl refl h e
plain_first kinds.Wide start end pieces tokens h e = absurd cc
plain_first kinds.Bad start end pieces tokens h e = absurd cc

pub are_plain : (pieces : List Piece) (tokens : List Token) → tokens_in pieces ≡ Ok tokens → ArePlain pieces tokens
are_plain [] tokens e = record { tokens_are = cc; no_bad = refl; no_wide = refl }
are_plain (p ∷ pieces) tokens e = plain_first p.kind p.start p.end pieces tokens (λ more f. are_plain pieces more f) e

-- the statement of a line without a label
pub placed_line : (origin : Origin) (line : List ℕ) (tokens : List Token) (what : What) (s : Standing) → tokens_of s.dialect line ≡ Ok tokens → parsed tokens ≡ record { label = None; what = what } → is_listing s.dialect line what ≡ false
    → placed origin line s ≡ alone (body_stated origin line what s)
unfolding placed stated
placed_line origin line tokens what s e p listing =
    let a : ArePlain (pieces_of s.dialect line) tokens = are_plain (pieces_of s.dialect line) tokens e in
    rw (a.tokens_are, p, listing, a.no_bad, a.no_wide) refl

-- ---- names of instructions

all_ascii : (text : List ℕ) → AllPass rows.is_name_character text → in_ascii text ≡ true
all_ascii [] all = refl
all_ascii (c ∷ text) all =
    let first : rows.is_name_character c ≡ true = all 0 c (omega arith) in
    let low : nat_lt c 128 ≡ true = grind (arith, nat_tests) in
    rw low (all_ascii text (λ k d h. all (suc k) d (omega arith)))

abbrev dotted : List ℕ → Bool
dotted [] = false
dotted (c ∷ text) = c == 46

both : (a b : Bool) → (a && b) ≡ true → (a ≡ true) × (b ≡ true)
both true true h = (refl, refl)
both true false h = cc
both false b h = cc

other_name : (entry text : List ℕ) (c : ℕ) → dotted entry ≡ true → is_ascii_uppercase c ≡ true → str_eq_ignore_ascii_case entry (c ∷ text) ≡ false
other_name [] text c h capital = cc
other_name (d ∷ entry) text c h capital =
    let dot : d ≡ 46 = grind (arith, nat_tests) in
    let apart : (46 == to_ascii_lowercase c) ≡ false = grind (arith, nat_tests) in
    rw (dot, apart) refl

-- it begins with a dot, or is a pop's
abbrev is_apart : List ℕ → Bool
is_apart entry = dotted entry || bytes_eq entry (codes "POPL")

apart_name : (entry text : List ℕ) (c : ℕ) (dot pop : Bool) → dotted entry ≡ dot → bytes_eq entry (codes "POPL") ≡ pop → (dot || pop) ≡ true → is_ascii_uppercase c ≡ true → is_pop (c ∷ text) ≡ false
    → str_eq_ignore_ascii_case entry (c ∷ text) ≡ false
apart_name entry text c true pop d p h capital other = other_name entry text c d capital
apart_name entry text c false true d p h capital other =
    subst (λ (e : List ℕ). str_eq_ignore_ascii_case e (c ∷ text) ≡ false) (sym ((bytes_eq-Decides entry (codes "POPL")).0 p)) other
apart_name entry text c false false d p h capital other = cc

undirected_in : {X : Type 0} (entries : List (List ℕ × X)) (text : List ℕ) (c : ℕ) → list_all (λ e. is_apart e.0) entries ≡ true → is_ascii_uppercase c ≡ true → is_pop (c ∷ text) ≡ false → named_in entries (c ∷ text) ≡ None
undirected_in {X} [] text c h capital other = refl
undirected_in {X} (entry ∷ entries) text c h capital other =
    let each = both (is_apart entry.0) (list_all (λ (e : List ℕ × X). is_apart e.0) entries) h in
    rw (apart_name entry.0 text c (dotted entry.0) (bytes_eq entry.0 (codes "POPL")) refl refl each.0 capital other) (undirected_in entries text c each.1 capital other)

-- no directive has the name of an instruction
no_further : (further : Bool) (name : List ℕ) → named_in further_directives name ≡ None → further_named further name ≡ None
no_further true name e = e
no_further false name e = refl

undirected : (dialect : Dialect) (name : List ℕ) → IsName name → is_pop name ≡ false → directive_named dialect name ≡ None
unfolding directive_of
undirected dialect [] is other = absurd (let some = is.some in omega arith)
undirected dialect (c ∷ text) is other =
    rw (all_ascii (c ∷ text) is.characters, undirected_in directives text c refl is.letter other)
    (no_further (has_further_directives dialect) (c ∷ text) (undirected_in further_directives text c refl is.letter other))

instruction_found : (opcode : ℕ) (i : Instruction) → IsName i.name → with_opcode opcode ≡ Some i → instruction_named i.name ≡ Some i
instruction_found opcode i is w = rw (all_ascii i.name is.characters) (named_back opcode i w)

same_number : (n m : ℕ) → n ≡ m → (n == m) ≡ true
same_number n m e = grind (arith, nat_tests)

-- ---- an instruction

-- what an instruction leaves where it begins
abbrev pub parts_of : Origin → (opcode there at : ℕ) → Sequence → List (Part Fixup)
parts_of origin opcode there at q = Bytes (opcode ∷ []) ∷ fields origin (there + 1) (at + 1) q

counted_true : (b : Bool) (p : Progress) → b ≡ true → if_counted b p ≡ done p
counted_true b p e = rw e refl

instruction_made : (origin : Origin) (line : List ℕ) (tokens : List Token) (addr opcode pos : ℕ) (bytes : List ℕ) (i : Instruction) (q : Sequence) (s : Standing) → AreBytes bytes → All IsKind i.operands → with_opcode opcode ≡ Some i
    → read_operands i.operands bytes ≡ Some q → IsUnreserved q → parts tokens ≡ parts_at (addr + 1) pos q → There line pos (addr + 1) q
    → instruction_stated (row_of i) origin line tokens s ≡ done (adds (parts_of origin opcode addr (current_of s.sections).size q) (begun_at s)).progress
unfolding instruction_stated
instruction_made origin line tokens addr opcode pos bytes i q s are ks w e u split there =
    let code : i.opcode ≡ opcode = found_opcode opcode i w in
    let count : (length (parts tokens) == length i.operands) ≡ true = same_number _ _ (ap length split ∙ counted_parts i.operands bytes (addr + 1) pos q e u) in
    let all = all_stated s.dialect origin line (here_in s.sections) i.operands bytes (addr + 1) pos q are ks e u there (opcode_stated (row_of i) s) (replicate (6 - length i.operands) no_operand) in
    counted_true (length (parts tokens) == length i.operands) _ count
    ∙ ap (λ (ps : List (List Token)). done (operands_stated (site_of origin line s) ps (row_of i).operands (opcode_stated (row_of i) s)).progress) split
    ∙ ap (λ (r : Reached). done r.progress) all
    ∙ ap (λ (c : ℕ). done (adds (parts_of origin c addr (current_of s.sections).size q) (begun_at s)).progress) code

operated : (origin : Origin) (line name : List ℕ) (tokens : List Token) (i : Instruction) (s : Standing) → directive_named s.dialect name ≡ None → instruction_named name ≡ Some i → operation_stated origin line name tokens s ≡ instruction_stated (row_of i) origin line tokens s
operated origin line name tokens i s none named = rw (none, named) refl

pub body_made : (origin : Origin) (line : List ℕ) (name : Token) (tokens : List Token) (s : Standing) (r : Result Standing FaultKind) → operation_stated origin line (token_text line name) tokens s ≡ r → alone (body_stated origin line (Operation name tokens) s) ≡ placed_by r None
unfolding body_stated
body_made origin line name tokens s r e = ap (λ (x : Result Standing FaultKind). placed_by x None) e

pub line_placed : (origin : Origin) (addr opcode : ℕ) (bytes : List ℕ) (i : Instruction) (q : Sequence) (s : Standing) → AreBytes bytes → with_opcode opcode ≡ Some i → read_operands i.operands bytes ≡ Some q → IsUnreserved q
    → placed origin (instruction_text addr i q) s ≡ placed_by (done (adds (parts_of origin opcode addr (current_of s.sections).size q) (begun_at s)).progress) None
unfolding instruction_text
line_placed origin addr opcode bytes i q s are w e u =
    let f : IsFormed (row_of i) = found_formed opcode i w in
    let ks : All IsKind i.operands = found_kinds i f in
    let operator : IsOperator i.name = is_operator i.name f.name in
    let line : List ℕ = i.name ++ operands_text 32 (addr + 1) q in
    let pos : ℕ = length i.name + 1 in
    let fit : AllFit q = all_fit i.operands bytes q are ks e u in
    let name : Token = token_at 0 (word Name i.name) in
    let tokens : List Token = front_tokens (addr + 1) pos q in
    let text : token_text line name ≡ i.name = text_there line 0 (word Name i.name) (operands_text 32 (addr + 1) q) refl in
    let none : directive_named s.dialect (token_text line name) ≡ None = ap (directive_named s.dialect) text ∙ undirected s.dialect i.name f.name (found_no_pop opcode i w) in
    let found : instruction_named (token_text line name) ≡ Some i = ap instruction_named text ∙ instruction_found opcode i f.name w in
    placed_line origin line (name ∷ tokens) (Operation name tokens) s (line_scanned i.name (addr + 1) q operator fit s.dialect) (parsed_operation i.name (addr + 1) pos q) (ap is_listing_by none)
    ∙ body_made origin line name tokens s _ (operated origin line (token_text line name) tokens i s none found
    ∙ instruction_made origin line tokens addr opcode pos bytes i q s are ks w e u (parts_front (addr + 1) pos q) (front_there i.name (addr + 1) q))
