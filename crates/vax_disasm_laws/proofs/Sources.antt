-- The texts of a listing as the lines of a source.
use Rattle.std.proofs.Common.{◌≡◌, ℕ, zero, suc, ◌+◌, ◌-◌, ◌%◌, ◌<◌, ◌≤◌, ◌^◌, Bool, true, false, List, [], ◌∷◌, ◌++◌, length, map, drop, Option, Some, None, Result, Ok, Err, refl, ap, ◌∙◌, sym, subst, arith}
use Rattle.std.specs.Prelude.{codes, nat_le, nat_lt}
use Rattle.std.proofs.lemmas.Bool.Decides.{nat_tests}
use Rattle.std.proofs.lemmas.List.{append-nil}
use Rattle.vax_outside.specs.Hex.{hex}
use Rattle.vax_isa.specs.Instructions.{Instruction}
use Rattle.vax_isa.specs.Rows.{IsName}
use Rattle.vax_isa.specs.declared.OperandKind.{OperandKind}
use Rattle.vax_flat.specs.Grammar.{Place, Deferred, Decrement, Increment, IncrementDeferred, Absolute, Displaced, DisplacedDeferred, Specifier, Literal, Register, Immediate, InMemory, Indexed, BranchBy, Sequence, End, ReservedHere, Next}
use Rattle.vax_lex.specs.Tokens.{pieces_of, token_text, tokens_in, tokens_of, with_first, with_piece}
use Rattle.vax_lex.specs.declared.token.LexError.{LexError}
use Rattle.vax_lex.specs.declared.token.Piece.{Piece}
use Rattle.vax_lex.specs.declared.token.PieceKind.{PieceKind}
use Rattle.vax_lex.specs.declared.token.PieceKind.TheVariants as kinds
use Rattle.vax_lex.specs.declared.token.Token.{Token}
use Rattle.vax_lex.specs.declared.token.TokenKind.{TokenKind}
use Rattle.vax_lex.specs.declared.token.TokenKind.TheVariants.{Name, Number, Mark, Text}
use Rattle.vax_lex.specs.Values.{Sense}
use Rattle.vax_dialect.specs.declared.Dialect.{Dialect}
use Rattle.vax_macro.specs.Directives.{Gives, done, read, read_line}
use Rattle.vax_macro.specs.Expansion.{Says, Stepped, line_step, outcome, read_on, step}
use Rattle.vax_macro.specs.Heads.{Head, condition_word, head_in, is_mark_piece, label_pieces, operator_in, other_word, piece_text, word_of}
use Rattle.vax_macro.specs.Lines.{Reading, dash_at, dash_in, numbered}
use Rattle.vax_macro.specs.Rest.{Rest}
use Rattle.vax_asm.specs.Placing.{Placed, placed, placed_by}
use Rattle.vax_asm.specs.Walk.{Assembly, Next as Onward, at, behind, ended, names_in, onward, said, unless_circle, walked}
use Rattle.vax_asm_first.specs.Circles.{first_circle}
use Rattle.vax_asm_first.specs.Standing.{Standing}
use Rattle.vax_asm_first.specs.declared.types.Origin.{Origin}
use Rattle.vax_asm_second.specs.Modules.{filled_in}
use Rattle.vax_asm_statement.specs.Tokens.{is_mark_kind}
use Rattle.vax_macro.specs.declared.error.FaultKind.{FaultKind}
use Rattle.vax_module.specs.declared.Module.{Module}
use Rattle.vax_asm_laws.specs.Leading.{Leads, Line, with_statement}
use Rattle.vax_disasm.specs.Listed.{Listing, listed}
use Rattle.vax_disasm.specs.Text.{instruction_text, operands_text}
use Rattle.vax_listing.specs.Listing.{length_of, text_of}
use Rattle.vax_disasm_laws.specs.Assembling.{texts}
use Rattle.vax_disasm_laws.specs.Rows.{row_texts, rows_from}
use Rattle.vax_disasm_laws.proofs.Bytes.{byte_placed, byte_scanned, byte_text}
use Rattle.vax_disasm_laws.proofs.Lines.{all_fit, found_formed, found_kinds, front_tokens, is_operator, line_placed, line_scanned, no_dot}
use Rattle.vax_disasm_laws.proofs.Listings.{IsOne, bytes_behind, is_one}
use Rattle.vax_disasm_laws.proofs.Operands.{index_words, place_apart}
use Rattle.vax_disasm_laws.proofs.Readings.{AreBytes}
use Rattle.vax_disasm_laws.proofs.Spoken.{enclosed_words, place_words, register, sign, signed_words, specifier_words}
use Rattle.vax_disasm_laws.proofs.Whole.{AllFit, Plain, Starts, after_words, comma, plain_kind, specifier_starts}
use Rattle.vax_disasm_laws.proofs.Words.{Word, text_there, token_at, tokens_at, word}

-- ---- pieces that are tokens

as_piece : Token → Piece
as_piece t = record { kind = kinds.Token t.kind; start = t.start; end = t.end }

whole_rest : (p : Piece) (t : Token) (pieces : List Piece) (tokens : List Token) (rest : Result (List Token) LexError) → p ≡ as_piece t → ((more : List Token) → rest ≡ Ok more → pieces ≡ map as_piece more) → with_first t rest ≡ Ok tokens → p ∷ pieces ≡ map as_piece tokens
whole_rest p t pieces tokens (Ok more) is h e =
    let same : t ∷ more ≡ tokens = cc in
    ap (λ (q : Piece). q ∷ pieces) is ∙ ap (λ (ps : List Piece). as_piece t ∷ ps) (h more refl) ∙ ap (map as_piece) same
whole_rest p t pieces tokens (Err x) is h e = absurd cc

whole_first : (kind : PieceKind) (start end : ℕ) (pieces : List Piece) (tokens : List Token) → ((more : List Token) → tokens_in pieces ≡ Ok more → pieces ≡ map as_piece more) → with_piece kind start end (tokens_in pieces) ≡ Ok tokens
    → record { kind = kind; start = start; end = end } ∷ pieces ≡ map as_piece tokens
unfolding as_piece
whole_first (kinds.Token kind) start end pieces tokens h e =
    whole_rest (record { kind = kinds.Token kind; start = start; end = end }) (record { kind = kind; start = start; end = end }) pieces tokens (tokens_in pieces) refl h e
whole_first kinds.Wide start end pieces tokens h e = absurd cc
whole_first kinds.Bad start end pieces tokens h e = absurd cc

pieces_whole : (pieces : List Piece) (tokens : List Token) → tokens_in pieces ≡ Ok tokens → pieces ≡ map as_piece tokens
pieces_whole [] tokens e = let same : [] ≡ tokens = cc in ap (map as_piece) same
pieces_whole (p ∷ pieces) tokens e = whole_first p.kind p.start p.end pieces tokens (λ more f. pieces_whole pieces more f) e

mark_piece : (m : ℕ) (k : TokenKind) → is_mark_piece m (kinds.Token k) ≡ is_mark_kind m k
mark_piece m Name = refl
mark_piece m (Number n) = refl
mark_piece m (Mark b) = refl
mark_piece m Text = refl

-- ---- no line is continued

pub ends_in_dash : List Token → Bool
ends_in_dash [] = false
ends_in_dash (t ∷ []) = is_mark_kind 45 t.kind
ends_in_dash (t ∷ u ∷ tokens) = ends_in_dash (u ∷ tokens)

no_dash : (tokens : List Token) → ends_in_dash tokens ≡ false → dash_in (map as_piece tokens) ≡ None
unfolding ends_in_dash as_piece
no_dash [] e = refl
no_dash (t ∷ []) e = rw (mark_piece 45 t.kind, e) refl
no_dash (t ∷ u ∷ tokens) e =
    let count : length (map as_piece (t ∷ u ∷ tokens)) - 1 ≡ suc (length (map as_piece (u ∷ tokens)) - 1) = omega arith in
    ap (λ (n : ℕ). dash_at (drop n (map as_piece (t ∷ u ∷ tokens)))) count ∙ no_dash (u ∷ tokens) e

word_dash : List Word → Bool
word_dash [] = false
word_dash (w ∷ []) = is_mark_kind 45 w.kind
word_dash (w ∷ v ∷ words) = word_dash (v ∷ words)

words_dash : (at : ℕ) (words : List Word) → ends_in_dash (tokens_at at words) ≡ word_dash words
unfolding ends_in_dash word_dash
words_dash at [] = refl
words_dash at (w ∷ []) = refl
words_dash at (w ∷ v ∷ words) = words_dash (at + length w.text) (v ∷ words)

dash_behind : (front : List Word) (w : Word) (words : List Word) → word_dash (front ++ w ∷ words) ≡ word_dash (w ∷ words)
unfolding word_dash
dash_behind [] w words = refl
dash_behind (f ∷ []) w words = refl
dash_behind (f ∷ g ∷ front) w words = dash_behind (g ∷ front) w words

signed_dash : (d n : ℕ) (low : Bool) → nat_lt d (2 ^ 31) ≡ low → word_dash (signed_words d (enclosed_words n [])) ≡ false
unfolding word_dash
signed_dash d n true e = rw e refl
signed_dash d n false e = rw e refl

under : (w v : Word) (words : List Word) → word_dash (v ∷ words) ≡ false → word_dash (w ∷ v ∷ words) ≡ false
unfolding word_dash
under w v words e = e

signed_some : (d n : ℕ) (w : Word) (low : Bool) → nat_lt d (2 ^ 31) ≡ low → word_dash (w ∷ signed_words d (enclosed_words n [])) ≡ false
unfolding word_dash
signed_some d n w true e = rw e refl
signed_some d n w false e = rw e refl

place_dash : (p : Place) → word_dash (place_words p []) ≡ false
unfolding word_dash
place_dash (Deferred n) = refl
place_dash (Decrement n) = refl
place_dash (Increment n) = refl
place_dash (IncrementDeferred n) = refl
place_dash (Absolute a) = refl
place_dash (Displaced width d n) = signed_some d n (sign 94) (nat_lt d (2 ^ 31)) refl
place_dash (DisplacedDeferred width d n) = signed_some d n (sign 94) (nat_lt d (2 ^ 31)) refl

specifier_dash : (kind : OperandKind) (next : ℕ) (s : Specifier) → word_dash (specifier_words kind next s) ≡ false
unfolding word_dash
specifier_dash kind next (Literal n) = refl
specifier_dash kind next (Register n) = refl
specifier_dash kind next (Immediate n) = refl
specifier_dash kind next (InMemory p) = place_dash p
specifier_dash kind next (Indexed p x) = ap word_dash (place_apart p (index_words x)) ∙ dash_behind (place_words p []) (sign 91) (register x ∷ sign 93 ∷ [])
specifier_dash kind next (BranchBy d) = refl

after_dash : (kind : OperandKind) (s : Specifier) (next : ℕ) (q : Sequence) → word_dash (specifier_words kind next s ++ after_words next q) ≡ false
after_dash kind s next End = ap word_dash (append-nil (specifier_words kind next s)) ∙ specifier_dash kind next s
after_dash kind s next (ReservedHere count) = ap word_dash (append-nil (specifier_words kind next s)) ∙ specifier_dash kind next s
after_dash kind s next (Next k t count rest) =
    let starts : Starts (specifier_words k (next + count) t) = specifier_starts k (next + count) t in
    let later : word_dash (specifier_words k (next + count) t ++ after_words (next + count) rest) ≡ false = after_dash k t (next + count) rest in
    let spelled : specifier_words k (next + count) t ++ after_words (next + count) rest ≡ starts.first ∷ (starts.more ++ after_words (next + count) rest) = ap (λ (ws : List Word). ws ++ after_words (next + count) rest) starts.spelled in
    dash_behind (specifier_words kind next s) comma (specifier_words k (next + count) t ++ after_words (next + count) rest)
    ∙ ap (λ (ws : List Word). word_dash (comma ∷ ws)) spelled
    ∙ under comma starts.first (starts.more ++ after_words (next + count) rest) (sym (ap word_dash spelled) ∙ later)

-- behind a name
named_dash : (name : Token) (at : ℕ) (words : List Word) → is_mark_kind 45 name.kind ≡ false → word_dash words ≡ false → ends_in_dash (name ∷ tokens_at at words) ≡ false
unfolding ends_in_dash
named_dash name at [] plain e = plain
named_dash name at (w ∷ words) plain e = words_dash at (w ∷ words) ∙ e

front_dash : (name : Token) (there at : ℕ) (q : Sequence) → is_mark_kind 45 name.kind ≡ false → ends_in_dash (name ∷ front_tokens there at q) ≡ false
unfolding ends_in_dash
front_dash name there at End plain = plain
front_dash name there at (ReservedHere count) plain = plain
front_dash name there at (Next kind s count rest) plain = named_dash name at (specifier_words kind (there + count) s ++ after_words (there + count) rest) plain (after_dash kind s (there + count) rest)

-- ---- lines that say what they are

-- no colon and no `=` is the first of these
abbrev pub NoMark : List Token → Type 0
NoMark [] = Unit {0}
NoMark (t ∷ tokens) = (is_mark_kind 58 t.kind ≡ false) × (is_mark_kind 61 t.kind ≡ false)

-- a line with an operator that is no directive of macros, repeats and conditions, and that ends there
pub record IsOrdinary (text : List ℕ) : Type 0 where
  pub operator : Token
  pub operands : List Token
  pub tokens : (d : Dialect) → tokens_of d text ≡ Ok (operator ∷ operands)
  pub named : operator.kind ≡ Name
  pub no_mark : NoMark operands
  pub no_dash : ends_in_dash (operator ∷ operands) ≡ false
  pub word : word_of (token_text text operator) ≡ other_word
  pub placed : (origin : Origin) (s : Standing) → (r : Result Standing FaultKind) × (placed origin text s ≡ placed_by r None)

no_label : (name : Token) (tokens : List Token) → name.kind ≡ Name → NoMark tokens → label_pieces (map as_piece (name ∷ tokens)) ≡ 0
unfolding label_pieces as_piece
no_label name [] named h = refl
no_label name (t ∷ tokens) named h = rw (named, mark_piece 58 t.kind, h.0) refl

operator_is : (name : Token) (tokens : List Token) → name.kind ≡ Name → NoMark tokens → operator_in 0 (map as_piece (name ∷ tokens)) ≡ Some (as_piece name)
unfolding operator_in as_piece
operator_is name [] named h = rw named refl
operator_is name (t ∷ tokens) named h = rw (named, mark_piece 61 t.kind, h.1) refl

head_is : (name : Token) (tokens : List Token) → name.kind ≡ Name → NoMark tokens → (head_in (map as_piece (name ∷ tokens))).operator ≡ Some (as_piece name)
unfolding head_in
head_is name tokens named h = rw (no_label name tokens named h) (operator_is name tokens named h)

-- what is left of a source of these texts
abbrev pub left_of : Dialect → (at : ℕ) → List (List ℕ) → (read : ℕ) → Rest
left_of dialect at texts read = record { dialect = dialect; lines = numbered at texts; again = None; macros = λ name. None; collecting = None; conditions = []; calls = []; made = 0; read = read }

read_gives : (dialect : Dialect) (names : Sense) (line : Reading) (pieces : List Piece) (head : Head) (operator : Piece) (at : ℕ) (texts : List (List ℕ)) (count : ℕ) → line.depth ≡ 0 → head.operator ≡ Some operator → word_of (piece_text line.text operator) ≡ other_word
    → done names line pieces head (left_of dialect at texts count) ≡ Gives (left_of dialect at texts count)
unfolding done read read_line
read_gives dialect names line pieces head operator at texts count outside e word = rw (outside, e, word) refl

line_says : (dialect : Dialect) (names : Sense) (text : List ℕ) (number : ℕ) (parts : List (List ℕ)) (at : ℕ) (texts : List (List ℕ)) (count : ℕ) → IsOrdinary text
    → line_step names (record { number = number; depth = 0; text = text; parts = parts; labelled = false }) (left_of dialect at texts count) ≡ Says (record { number = number; text = text }) (left_of dialect at texts count)
unfolding line_step as_piece
line_says dialect names text number parts at texts count o =
    let line : Reading = record { number = number; depth = 0; text = text; parts = parts; labelled = false } in
    let pieces : pieces_of dialect text ≡ map as_piece (o.operator ∷ o.operands) = pieces_whole (pieces_of dialect text) (o.operator ∷ o.operands) (o.tokens dialect) in
    let operator : (head_in (pieces_of dialect text)).operator ≡ Some (as_piece o.operator) = ap (λ (ps : List Piece). (head_in ps).operator) pieces ∙ head_is o.operator o.operands o.named o.no_mark in
    ap (outcome line count) (read_gives dialect names line (pieces_of dialect text) (head_in (pieces_of dialect text)) (as_piece o.operator) at texts count refl operator o.word)

pub step_says : (dialect : Dialect) (names : Sense) (text : List ℕ) (at : ℕ) (texts : List (List ℕ)) (count : ℕ) → IsOrdinary text → length text ≤ 1024 → count < 100000
    → step names (left_of dialect at (text ∷ texts) count) ≡ Says (record { number = at + 1; text = text }) (left_of dialect (at + 1) texts (count + 1))
unfolding step read_on
step_says dialect names text at texts count o short few =
    let dash : dash_in (pieces_of dialect text) ≡ None = ap dash_in (pieces_whole (pieces_of dialect text) (o.operator ∷ o.operands) (o.tokens dialect)) ∙ no_dash (o.operator ∷ o.operands) o.no_dash in
    let not_long : nat_lt 1024 (length text) ≡ false = grind (arith, nat_tests) in
    let room : nat_le 100000 count ≡ false = grind (arith, nat_tests) in
    rw (not_long, room, dash, not_long) (line_says dialect names text (at + 1) (text ∷ []) (at + 1) texts (count + 1) o)

-- ---- a source of such lines

abbrev pub AreOrdinary : List (List ℕ) → Type 0
AreOrdinary [] = Unit {0}
AreOrdinary (t ∷ ts) = IsOrdinary t × AreOrdinary ts

abbrev pub AreShort : List (List ℕ) → Type 0
AreShort [] = Unit {0}
AreShort (t ∷ ts) = (length t ≤ 1024) × AreShort ts

-- statements of these texts lead to the module
pub record IsReadAs (these : List (List ℕ)) (a : Assembly) (m : Module) : Type 0 where
  pub lines : List Line
  pub end : Assembly
  pub leads : Leads a lines end
  pub are : texts lines ≡ these
  pub filled : filled_in end.standing end.assignments None ≡ Ok m

circle_is : (o : Option Origin) (r : Result Module _) (m : Module) → unless_circle o r ≡ Ok m → r ≡ Ok m
circle_is None r m e = e
circle_is (Some o) r m e = cc

end_read : (a : Assembly) (m : Module) → ended a None None ≡ Ok m → IsReadAs [] a m
end_read a m e = record { lines = []; end = a; leads = refl; are = refl; filled = circle_is (first_circle a.assignments) (filled_in a.standing a.assignments None) m e }

said_read : (r : Result Standing FaultKind) (origin : Origin) (text : List ℕ) (these : List (List ℕ)) (a : Assembly) (m : Module) (next : Onward) → placed origin text a.standing ≡ placed_by r None
    → ((b : Assembly) → next b None ≡ Ok m → IsReadAs these b m) → behind (placed_by r None) origin a None next ≡ Ok m → IsReadAs (text ∷ these) a m
said_read (Ok t) origin text these a m next is h e =
    let rest : IsReadAs these (with_statement t None a) m = h (with_statement t None a) e in
    record { lines = record { origin = origin; text = text } ∷ rest.lines; end = rest.end; leads = (t, None, is, rest.leads); are = ap (λ (ts : List (List ℕ)). text ∷ ts) rest.are; filled = rest.filled }
said_read (Err kind) origin text these a m next is h e = absurd cc

line_read : (origin : Origin) (text : List ℕ) (these : List (List ℕ)) (a : Assembly) (m : Module) (next : Onward) → IsOrdinary text → ((b : Assembly) → next b None ≡ Ok m → IsReadAs these b m) → said origin text a None next ≡ Ok m → IsReadAs (text ∷ these) a m
unfolding said
line_read origin text these a m next o h e =
    let p = o.placed origin a.standing in
    said_read p.0 origin text these a m next p.1 h (ap (λ (q : Placed). behind q origin a None next) (sym p.1) ∙ e)

pub texts_read : (dialect : Dialect) (these : List (List ℕ)) (left at count : ℕ) (a : Assembly) (m : Module) → AreOrdinary these → AreShort these → length these < left → count + length these ≤ 100000 → walked left (left_of dialect at these count) a None ≡ Ok m → IsReadAs these a m
unfolding walked step
texts_read dialect [] zero at count a m o s less few e = absurd (omega arith)
texts_read dialect [] (suc left) at count a m o s less few e = end_read a m e
texts_read dialect (t ∷ these) zero at count a m o s less few e = absurd (omega arith)
texts_read dialect (t ∷ these) (suc left) at count a m o s less few e =
    let says = step_says dialect (names_in a.standing) t at these count o.0 s.0 (omega arith) in
    line_read (record { line = at + 1; place = count + 1 }) t these a m (walked left (left_of dialect (at + 1) these (count + 1))) o.0
    (λ b f. texts_read dialect these left (at + 1) (count + 1) b m o.1 s.1 (omega arith) (omega arith) f)
    (sym (ap (λ (st : Stepped). onward st a None (walked left)) says) ∙ e)

-- ---- the texts of a listing

instruction_word : (name : List ℕ) → IsName name → word_of name ≡ other_word
unfolding word_of condition_word
instruction_word [] is = absurd (let some = is.some in omega arith)
instruction_word (c ∷ text) is = rw (no_dot c is.letter) refl

front_mark : (there at : ℕ) (q : Sequence) → NoMark (front_tokens there at q)
front_mark there at End = tt
front_mark there at (ReservedHere count) = tt
front_mark there at (Next kind s count rest) =
    let is : Starts (specifier_words kind (there + count) s) = specifier_starts kind (there + count) s in
    let plain : Plain is.first.kind = plain_kind is.first.kind is.plain in
    subst (λ (ws : List Word). NoMark (tokens_at at (ws ++ after_words (there + count) rest))) (sym is.spelled) (plain.no_colon, plain.no_equals)

name_text : (address : ℕ) (i : Instruction) (q : Sequence) → token_text (instruction_text address i q) (token_at 0 (word Name i.name)) ≡ i.name
unfolding instruction_text
name_text address i q = text_there (i.name ++ operands_text 32 (address + 1) q) 0 (word Name i.name) (operands_text 32 (address + 1) q) refl

line_tokens_are : (address : ℕ) (i : Instruction) (q : Sequence) → IsName i.name → AllFit q → (d : Dialect) → tokens_of d (instruction_text address i q) ≡ Ok (token_at 0 (word Name i.name) ∷ front_tokens (address + 1) (length i.name + 1) q)
unfolding instruction_text
line_tokens_are address i q is fit = line_scanned i.name (address + 1) q (is_operator i.name is) fit

one_ordinary : (bytes : List ℕ) (address : ℕ) (l : Listing) → AreBytes bytes → IsOne bytes address l → IsOrdinary l.text
one_ordinary bytes address l are one =
    let is = one.is in
    let i : Instruction = one.row in
    let q : Sequence = one.operands in
    let f = found_formed is.opcode i is.listed in
    let behind_code : AreBytes is.rest = bytes_behind bytes is.rest is.opcode is.split are in
    let fit = all_fit i.operands is.rest q behind_code (found_kinds i f) is.read is.unreserved in
    let name : Token = token_at 0 (word Name i.name) in
    let spoken : token_text (instruction_text address i q) name ≡ i.name = name_text address i q in
    subst IsOrdinary (sym one.text) (record {
      operator = name;
      operands = front_tokens (address + 1) (length i.name + 1) q;
      tokens = line_tokens_are address i q f.name fit;
      named = refl;
      no_mark = front_mark (address + 1) (length i.name + 1) q;
      no_dash = front_dash name (address + 1) (length i.name + 1) q refl;
      word = ap word_of spoken ∙ instruction_word i.name f.name;
      placed = λ origin s. (_, line_placed origin address is.opcode is.rest i q s behind_code is.listed is.read is.unreserved);
    })

byte_ordinary : (byte : ℕ) → byte < 256 → IsOrdinary (byte_text byte)
unfolding ends_in_dash word_of condition_word
byte_ordinary byte h = record {
  operator = token_at 0 (word Name (codes ".BYTE"));
  operands = token_at 6 (word (Number byte) (94 ∷ 88 ∷ hex 2 byte)) ∷ [];
  tokens = byte_scanned byte h;
  named = refl;
  no_mark = (refl, refl);
  no_dash = refl;
  word = refl;
  placed = λ origin s. (_, byte_placed origin byte s h);
}

row_ordinary : (byte : ℕ) (bytes : List ℕ) (address : ℕ) (here : Option Listing) → AreBytes (byte ∷ bytes) → listed (byte ∷ bytes) address ≡ here → IsOrdinary (text_of byte here)
row_ordinary byte bytes address None are e = byte_ordinary byte (are 0)
row_ordinary byte bytes address (Some l) are e = one_ordinary (byte ∷ bytes) address l are (is_one (byte ∷ bytes) address l e)

pub rows_ordinary : (bytes : List ℕ) (before address : ℕ) → AreBytes bytes → AreOrdinary (row_texts (rows_from before address bytes))
rows_ordinary [] before address are = tt
rows_ordinary (byte ∷ bytes) zero address are =
    (row_ordinary byte bytes address (listed (byte ∷ bytes) address) are refl, rows_ordinary bytes (length_of (listed (byte ∷ bytes) address) - 1) ((address + 1) % 2 ^ 32) (λ k. are (suc k)))
rows_ordinary (byte ∷ bytes) (suc before) address are = rows_ordinary bytes before ((address + 1) % 2 ^ 32) (λ k. are (suc k))
