-- The text of an instruction denotes its bytes.
use Rattle.std.proofs.Common.{◌≡◌, ℕ, ◌+◌, ◌*◌, ◌^◌, Bool, true, false, List, [], ◌∷◌, ◌++◌, length, refl, ap, ◌∙◌, sym, arith, append_assoc, append-nil}
use Rattle.std.specs.Prelude.{◌==◌, ◌&&◌, not, nat_lt}
use Rattle.std.specs.List.{list_all}
use Rattle.vax_isa.specs.declared.OperandKind.{OperandKind}
use Rattle.vax_lex.specs.Statements.{Context, nothing_special}
use Rattle.vax_lex.specs.Tokens.{pieces_from}
use Rattle.vax_lex.specs.declared.token.Token.{Token}
use Rattle.vax_lex.specs.declared.token.TokenKind.{TokenKind}
use Rattle.vax_lex.specs.declared.token.TokenKind.TheVariants.{Name, Number, Mark, Text}
use Rattle.vax_flat.specs.Operand.{plus}
use Rattle.vax_flat.specs.Grammar.{Place, Deferred, Decrement, Increment, IncrementDeferred, Absolute, Displaced, DisplacedDeferred, Specifier, Literal, Register, Immediate, InMemory, Indexed, BranchBy, Sequence, End, ReservedHere, Next}
use Rattle.vax_asm_statement.specs.Tokens.{is_mark_kind}
use Rattle.vax_asm_statement.specs.Parts.{parts, split_from}
use Rattle.vax_disasm.specs.Text.{operands_text, specifier_text}
use Rattle.vax_disasm_laws.proofs.Words.{Word, written, token_at, tokens_at, behind, Scans, next_word, tokens-append, written-append}
use Rattle.vax_disasm_laws.proofs.Heads.{operand_context, sign_head, behind_sign}
use Rattle.vax_disasm_laws.proofs.Spoken.{sign, register, letter, hexadecimal, enclosed_words, signed_words, letter_of, displaced_words, place_words, specifier_words, specifier_spelled}
use Rattle.vax_disasm_laws.proofs.Scanned.{Stops, Fits, by_specifier, comma_sign}

-- words that stand in no part of a statement but an operand: none is `,`, `<`, `>`, `:` or `=`

abbrev pub is_plain_kind : TokenKind → Bool
is_plain_kind Name = true
is_plain_kind (Number n) = true
is_plain_kind (Mark m) = not (m == 44) && not (m == 60) && not (m == 62) && not (m == 58) && not (m == 61)
is_plain_kind Text = true

abbrev pub are_plain : List Word → Bool
are_plain words = list_all (λ w. is_plain_kind w.kind) words

enclosed_plain : (n : ℕ) (words : List Word) → are_plain words ≡ true → are_plain (enclosed_words n words) ≡ true
enclosed_plain n words h = h

signed_plain : (d : ℕ) (words : List Word) (low : Bool) → nat_lt d (2 ^ 31) ≡ low → are_plain words ≡ true → are_plain (signed_words d words) ≡ true
signed_plain d words true e h = rw e h
signed_plain d words false e h = rw e h

place_plain : (p : Place) (words : List Word) → are_plain words ≡ true → are_plain (place_words p words) ≡ true
place_plain (Deferred n) words h = h
place_plain (Decrement n) words h = h
place_plain (Increment n) words h = h
place_plain (IncrementDeferred n) words h = h
place_plain (Absolute addr) words h = h
place_plain (Displaced width d n) words h = signed_plain d (enclosed_words n words) (nat_lt d (2 ^ 31)) refl h
place_plain (DisplacedDeferred width d n) words h = signed_plain d (enclosed_words n words) (nat_lt d (2 ^ 31)) refl h

pub specifier_plain : (kind : OperandKind) (next : ℕ) (s : Specifier) → are_plain (specifier_words kind next s) ≡ true
specifier_plain kind next (Literal n) = refl
specifier_plain kind next (Register n) = refl
specifier_plain kind next (Immediate n) = refl
specifier_plain kind next (InMemory p) = place_plain p [] refl
specifier_plain kind next (Indexed p x) = place_plain p (sign 91 ∷ register x ∷ sign 93 ∷ []) refl
specifier_plain kind next (BranchBy d) = refl

-- the words behind an operand, each operand behind a comma

abbrev pub comma : Word
comma = sign 44

abbrev pub after_words : (at : ℕ) → Sequence → List Word
after_words at End = []
after_words at (ReservedHere count) = []
after_words at (Next kind s count rest) = comma ∷ (specifier_words kind (at + count) s ++ after_words (at + count) rest)

pub after_spelled : (at : ℕ) (q : Sequence) → operands_text 44 at q ≡ written (after_words at q) []
unfolding operands_text
after_spelled at End = refl
after_spelled at (ReservedHere count) = refl
after_spelled at (Next kind s count rest) =
    ap (λ (t : List ℕ). 44 ∷ t) (specifier_spelled kind (at + count) s (operands_text 44 (at + count) rest) ∙ ap (written (specifier_words kind (at + count) s)) (after_spelled (at + count) rest)
    ∙ sym (written-append (specifier_words kind (at + count) s) (after_words (at + count) rest) []))

stops_after : (at : ℕ) (q : Sequence) → Stops (operands_text 44 at q)
unfolding operands_text
stops_after at End = record { no_name = refl; no_digit = refl }
stops_after at (ReservedHere count) = record { no_name = refl; no_digit = refl }
stops_after at (Next kind s count rest) = record { no_name = refl; no_digit = refl }

-- each operand fits
abbrev pub AllFit : Sequence → Type 0
AllFit End = Unit {0}
AllFit (ReservedHere count) = Unit {0}
AllFit (Next kind s count rest) = Fits kind s × AllFit rest

pub no_more : (c : Context) (pos : ℕ) → Scans c pos [] []
unfolding pieces_from
no_more c pos d = refl

pub operand_scanned : (first : Bool) (kind : OperandKind) (s : Specifier) (at pos : ℕ) (rest : Sequence) → Fits kind s → Scans (operand_context false nothing_special) (behind pos (specifier_words kind at s)) (operands_text 44 at rest) (tokens_at (behind pos (specifier_words kind at s)) (after_words at rest))
    → Scans (operand_context first nothing_special) pos (specifier_text kind at s ++ operands_text 44 at rest) (tokens_at pos (specifier_words kind at s ++ after_words at rest))
operand_scanned first kind s at pos rest fits more =
    rw (specifier_spelled kind at s (operands_text 44 at rest), tokens-append pos (specifier_words kind at s) (after_words at rest))
    (by_specifier first kind at s (operands_text 44 at rest) fits (stops_after at rest) pos (tokens_at (behind pos (specifier_words kind at s)) (after_words at rest)) more)

pub after_scanned : (at pos : ℕ) (q : Sequence) → AllFit q → Scans (operand_context false nothing_special) pos (operands_text 44 at q) (tokens_at pos (after_words at q))
unfolding operands_text
after_scanned at pos End fit = no_more (operand_context false nothing_special) pos
after_scanned at pos (ReservedHere count) fit = no_more (operand_context false nothing_special) pos
after_scanned at pos (Next kind s count rest) fit =
    let next = at + count in
    let text = specifier_text kind (at + count) s ++ operands_text 44 (at + count) rest in
    next_word (operand_context false nothing_special) (operand_context false nothing_special) pos (Mark 44) (44 ∷ []) (specifier_text kind (at + count) s ++ operands_text 44 (at + count) rest) (tokens_at (pos + 1) (specifier_words kind (at + count) s ++ after_words (at + count) rest)) (omega arith)
    (sign_head false 44 (specifier_text kind (at + count) s ++ operands_text 44 (at + count) rest) comma_sign) (behind_sign false 44 (44 ∷ []) comma_sign)
    (operand_scanned false kind s (at + count) (pos + 1) rest fit.0 (after_scanned (at + count) (behind (pos + 1) (specifier_words kind (at + count) s)) rest fit.1))

-- the operands' tokens, one list for each
abbrev pub parts_at : (at pos : ℕ) → Sequence → List (List Token)
parts_at at pos End = []
parts_at at pos (ReservedHere count) = []
parts_at at pos (Next kind s count rest) = tokens_at pos (specifier_words kind (at + count) s) ∷ parts_at (at + count) (behind pos (specifier_words kind (at + count) s) + 1) rest

pub record Plain (m : TokenKind) : Type 0 where
  pub no_comma : is_mark_kind 44 m ≡ false
  pub no_open : is_mark_kind 60 m ≡ false
  pub no_close : is_mark_kind 62 m ≡ false
  pub no_colon : is_mark_kind 58 m ≡ false
  pub no_equals : is_mark_kind 61 m ≡ false

both : (a b : Bool) → (a && b) ≡ true → (a ≡ true) × (b ≡ true)
both true true h = (refl, refl)
both true false h = cc
both false b h = cc

untrue : (b : Bool) → not b ≡ true → b ≡ false
untrue true h = cc
untrue false h = refl

plain_mark : (m : ℕ) → is_plain_kind (Mark m) ≡ true → Plain (Mark m)
plain_mark m h =
    let e = both (not (m == 44) && not (m == 60) && not (m == 62) && not (m == 58)) (not (m == 61)) h in
    let d = both (not (m == 44) && not (m == 60) && not (m == 62)) (not (m == 58)) e.0 in
    let c = both (not (m == 44) && not (m == 60)) (not (m == 62)) d.0 in
    let b = both (not (m == 44)) (not (m == 60)) c.0 in
    record { no_comma = untrue _ b.0; no_open = untrue _ b.1; no_close = untrue _ c.1; no_colon = untrue _ d.1; no_equals = untrue _ e.1 }

pub plain_kind : (m : TokenKind) → is_plain_kind m ≡ true → Plain m
plain_kind Name h = record { no_comma = refl; no_open = refl; no_close = refl; no_colon = refl; no_equals = refl }
plain_kind (Number n) h = record { no_comma = refl; no_open = refl; no_close = refl; no_colon = refl; no_equals = refl }
plain_kind Text h = record { no_comma = refl; no_open = refl; no_close = refl; no_colon = refl; no_equals = refl }
plain_kind (Mark m) h = plain_mark m h

split_plain : (words : List Word) (pos : ℕ) (part more : List Token) → are_plain words ≡ true → split_from 0 part (tokens_at pos words ++ more) ≡ split_from 0 (part ++ tokens_at pos words) more
split_plain [] pos part more h = ap (λ (p : List Token). split_from 0 p more) (sym (append-nil part))
split_plain (w ∷ words) pos part more h =
    let each = both (is_plain_kind w.kind) (are_plain words) h in
    let plain : Plain w.kind = plain_kind w.kind each.0 in
    rw (plain.no_comma, plain.no_open, plain.no_close) (split_plain words (pos + length w.text) (part ++ token_at pos w ∷ []) more each.1
    ∙ ap (λ (p : List Token). split_from 0 p more) (append_assoc part (token_at pos w ∷ []) (tokens_at (pos + length w.text) words)))

split_after : (at pos : ℕ) (part : List Token) (q : Sequence) → split_from 0 part (tokens_at pos (after_words at q)) ≡ part ∷ parts_at at (pos + 1) q
split_after at pos part End = refl
split_after at pos part (ReservedHere count) = refl
split_after at pos part (Next kind s count rest) =
    ap (λ (ps : List (List Token)). part ∷ ps) (ap (split_from 0 []) (tokens-append (pos + 1) (specifier_words kind (at + count) s) (after_words (at + count) rest))
    ∙ split_plain (specifier_words kind (at + count) s) (pos + 1) [] (tokens_at (behind (pos + 1) (specifier_words kind (at + count) s)) (after_words (at + count) rest)) (specifier_plain kind (at + count) s)
    ∙ split_after (at + count) (behind (pos + 1) (specifier_words kind (at + count) s)) (tokens_at (pos + 1) (specifier_words kind (at + count) s)) rest)

-- an operand has words
pub record Starts (words : List Word) : Type 0 where
  pub first : Word
  pub more : List Word
  pub spelled : words ≡ first ∷ more
  pub plain : is_plain_kind first.kind ≡ true

place_starts : (p : Place) (words : List Word) → Starts (place_words p words)
place_starts (Deferred n) words = record { first = sign 40; more = register n ∷ sign 41 ∷ words; spelled = refl; plain = refl }
place_starts (Decrement n) words = record { first = sign 45; more = enclosed_words n words; spelled = refl; plain = refl }
place_starts (Increment n) words = record { first = sign 40; more = register n ∷ sign 41 ∷ sign 43 ∷ words; spelled = refl; plain = refl }
place_starts (IncrementDeferred n) words = record { first = sign 64; more = enclosed_words n (sign 43 ∷ words); spelled = refl; plain = refl }
place_starts (Absolute addr) words = record { first = sign 64; more = sign 35 ∷ hexadecimal 8 addr ∷ words; spelled = refl; plain = refl }
place_starts (Displaced width d n) words = record { first = letter (letter_of width); more = sign 94 ∷ signed_words d (enclosed_words n words); spelled = refl; plain = refl }
place_starts (DisplacedDeferred width d n) words = record { first = sign 64; more = displaced_words width d n words; spelled = refl; plain = refl }

pub specifier_starts : (kind : OperandKind) (next : ℕ) (s : Specifier) → Starts (specifier_words kind next s)
specifier_starts kind next (Literal n) = record { first = letter 83; more = sign 94 ∷ sign 35 ∷ hexadecimal 2 n ∷ []; spelled = refl; plain = refl }
specifier_starts kind next (Register n) = record { first = register n; more = []; spelled = refl; plain = refl }
specifier_starts kind next (Immediate n) = record { first = letter 73; more = sign 94 ∷ sign 35 ∷ hexadecimal (2 * kind.width) n ∷ []; spelled = refl; plain = refl }
specifier_starts kind next (InMemory p) = place_starts p []
specifier_starts kind next (Indexed p x) = place_starts p (sign 91 ∷ register x ∷ sign 93 ∷ [])
specifier_starts kind next (BranchBy d) = record { first = hexadecimal 8 (plus next d); more = []; spelled = refl; plain = refl }

parts_some : (words : List Word) (pos : ℕ) → Starts words → parts (tokens_at pos words) ≡ split_from 0 [] (tokens_at pos words)
parts_some words pos is = rw is.spelled refl

pub parts_next : (at pos : ℕ) (kind : OperandKind) (s : Specifier) (count : ℕ) (rest : Sequence) → parts (tokens_at pos (specifier_words kind (at + count) s ++ after_words (at + count) rest)) ≡ parts_at at pos (Next kind s count rest)
parts_next at pos kind s count rest =
    let is : Starts (specifier_words kind (at + count) s) = specifier_starts kind (at + count) s in
    let whole : Starts (specifier_words kind (at + count) s ++ after_words (at + count) rest) = record { first = is.first; more = is.more ++ after_words (at + count) rest; spelled = ap (λ (ws : List Word). ws ++ after_words (at + count) rest) is.spelled; plain = is.plain } in
    parts_some (specifier_words kind (at + count) s ++ after_words (at + count) rest) pos whole
    ∙ ap (split_from 0 []) (tokens-append pos (specifier_words kind (at + count) s) (after_words (at + count) rest))
    ∙ split_plain (specifier_words kind (at + count) s) pos [] (tokens_at (behind pos (specifier_words kind (at + count) s)) (after_words (at + count) rest)) (specifier_plain kind (at + count) s)
    ∙ split_after (at + count) (behind pos (specifier_words kind (at + count) s)) (tokens_at pos (specifier_words kind (at + count) s)) rest
