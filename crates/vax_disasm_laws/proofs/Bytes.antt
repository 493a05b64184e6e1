-- A byte that begins no instruction, as a line of its own.
use Rattle.std.proofs.Common.{◌≡◌, ℕ, ◌+◌, ◌<◌, true, false, pos, List, [], ◌∷◌, ◌++◌, length, Some, None, Ok, refl, ap, ◌∙◌, subst, arith}
use Rattle.std.specs.Prelude.{codes, nat_lt}
use Rattle.std.proofs.lemmas.Bool.Decides.{nat_tests}
use Rattle.std.proofs.lemmas.List.{append-nil}
use Rattle.vax_outside.specs.Hex.{hex}
use Rattle.vax_lex.specs.Statements.{Context, line_start, nothing_special}
use Rattle.vax_lex.specs.Tokens.{begins, head_of, pieces_from, pieces_of, tokens_of, token_text}
use Rattle.vax_lex.specs.declared.token.Token.{Token}
use Rattle.vax_lex.specs.declared.token.TokenKind.TheVariants.{Name, Number}
use Rattle.vax_lex.specs.declared.value.Value.TheVariants as value
use Rattle.vax_word.specs.declared.Size.TheVariants as size
use Rattle.vax_asm.specs.Placing.{directive_named, is_listing_by, operation_stated, placed, placed_by}
use Rattle.vax_asm_data.specs.Data.{data_stated}
use Rattle.vax_asm_encode.specs.Bytes.{low_bytes}
use Rattle.vax_asm_encode.specs.Fields.{filled}
use Rattle.vax_asm_encode.specs.declared.operand.DataKind.TheVariants as data_kind
use Rattle.vax_asm_first.specs.Fixups.{Fixup, Known}
use Rattle.vax_asm_first.specs.Progress.{done}
use Rattle.vax_asm_first.specs.Standing.{Standing}
use Rattle.vax_asm_first.specs.declared.types.Content.TheVariants as content
use Rattle.vax_asm_first.specs.declared.types.Origin.{Origin}
use Rattle.vax_asm_sections.specs.Layout.{Part, Field as Kept, current_of}
use Rattle.vax_dialect.specs.declared.Dialect.{Dialect}
use Rattle.vax_asm_statement.specs.Directives.{directive_of}
use Rattle.vax_asm_statement.specs.Items.{item_of}
use Rattle.vax_asm_statement.specs.declared.directives.Directive.TheVariants as directive
use Rattle.vax_asm_statement.specs.Reading.{Operation, parsed}
use Rattle.vax_asm_values.specs.Values.{named, value_of, value_in}
use Rattle.vax_disasm_laws.proofs.Adding.{adds, begun_at}
use Rattle.vax_disasm_laws.proofs.Digits.{hex_length, hex_passes, hex_value}
use Rattle.vax_disasm_laws.proofs.Moded.{HasValue, positive}
use Rattle.vax_disasm_laws.proofs.Heads.{BeginsName, behind_number, hexadecimal_head, operand_context}
use Rattle.vax_disasm_laws.proofs.Lines.{behind_operator, blank_passed, body_made, operator_head, placed_line}
use Rattle.vax_disasm_laws.proofs.Words.{Scans, next_word, token_at, word}

-- the line, and its part
abbrev pub byte_text : ℕ → List ℕ
byte_text byte = codes ".BYTE ^X" ++ hex 2 byte

abbrev pub byte_part : Origin → (byte at : ℕ) → Part Fixup
byte_part origin byte at = Kept (record { origin = origin; at = at; content = content.Data (data_kind.Number size.B) 1; filling = Known (value.Absolute (pos byte)) })

abbrev pub line_tokens : ℕ → List Token
line_tokens byte = token_at 0 (word Name (codes ".BYTE")) ∷ token_at 6 (word (Number byte) (94 ∷ 88 ∷ hex 2 byte)) ∷ []

no_more : (c : Context) (at : ℕ) → Scans c at [] []
unfolding pieces_from
no_more c at d = refl

number_scanned : (byte : ℕ) → byte < 256 → Scans (operand_context true nothing_special) 6 (94 ∷ 88 ∷ hex 2 byte) (token_at 6 (word (Number byte) (94 ∷ 88 ∷ hex 2 byte)) ∷ [])
number_scanned byte h =
    let digits : List ℕ = hex 2 byte in
    let long : length digits ≡ 2 = hex_length 2 byte in
    let head : head_of (operand_context true nothing_special) (94 ∷ 88 ∷ (digits ++ [])) ≡ begins (Number byte) (length digits + 2) =
    hexadecimal_head true digits [] byte (omega (arith, long)) (hex_passes 2 byte) refl (hex_value 2 byte (omega arith)) (omega arith) in
    let count : length digits + 2 ≡ length (94 ∷ 88 ∷ digits) = omega arith in
    let whole : Scans (operand_context true nothing_special) 6 ((94 ∷ 88 ∷ digits) ++ []) (token_at 6 (word (Number byte) (94 ∷ 88 ∷ digits)) ∷ []) =
    next_word (operand_context true nothing_special) (operand_context false nothing_special) 6 (Number byte) (94 ∷ 88 ∷ digits) [] [] (omega arith)
    (subst (λ (n : ℕ). head_of (operand_context true nothing_special) (94 ∷ 88 ∷ (digits ++ [])) ≡ begins (Number byte) n) count head) (behind_number true byte (94 ∷ 88 ∷ digits)) (no_more (operand_context false nothing_special) _) in
    subst (λ (text : List ℕ). Scans (operand_context true nothing_special) 6 (94 ∷ 88 ∷ text) (token_at 6 (word (Number byte) (94 ∷ 88 ∷ digits)) ∷ [])) (append-nil digits) whole

begins_dot : BeginsName 46
begins_dot = record { no_blank = refl; no_comment = refl; no_digit = refl }

pub byte_scanned : (byte : ℕ) → byte < 256 → (d : Dialect) → tokens_of d (byte_text byte) ≡ Ok (line_tokens byte)
unfolding pieces_of
byte_scanned byte h d =
    let rest : List ℕ = 32 ∷ 94 ∷ 88 ∷ hex 2 byte in
    let head : head_of line_start (codes ".BYTE" ++ rest) ≡ begins Name 5 = operator_head 46 (codes "BYTE") rest begins_dot refl (omega arith) refl in
    next_word line_start (behind_operator nothing_special) 0 Name (codes ".BYTE") rest (token_at 6 (word (Number byte) (94 ∷ 88 ∷ hex 2 byte)) ∷ []) (omega arith) head (λ d. refl)
    (blank_passed false 5 (94 ∷ 88 ∷ hex 2 byte) (token_at 6 (word (Number byte) (94 ∷ 88 ∷ hex 2 byte)) ∷ []) (number_scanned byte h)) d

byte_parsed : (byte : ℕ) → parsed (line_tokens byte) ≡ record { label = None; what = Operation (token_at 0 (word Name (codes ".BYTE"))) (token_at 6 (word (Number byte) (94 ∷ 88 ∷ hex 2 byte)) ∷ []) }
unfolding parsed
byte_parsed byte = refl

byte_stated : (origin : Origin) (byte : ℕ) (s : Standing) → byte < 256
    → data_stated (data_kind.Number size.B) origin (byte_text byte) (token_at 6 (word (Number byte) (94 ∷ 88 ∷ hex 2 byte)) ∷ []) s ≡ done (adds (byte_part origin byte (current_of s.sections).size ∷ []) (begun_at s)).progress
unfolding data_stated item_of filled low_bytes value_in
byte_stated origin byte s h =
    let v : HasValue (byte_text byte) (token_at 6 (word (Number byte) (94 ∷ 88 ∷ hex 2 byte)) ∷ []) (pos byte) = positive (byte_text byte) 6 byte (94 ∷ 88 ∷ hex 2 byte) (omega arith) in
    let low : nat_lt byte 256 ≡ true = grind (arith, nat_tests) in
    rw (v.means (record { dialect = s.dialect; value = named (value_of s.scope.sources) [] }), low) refl

directed_so : (origin : Origin) (line name : List ℕ) (tokens : List Token) (s : Standing) → directive_named s.dialect name ≡ Some (directive.Data (data_kind.Number size.B)) → operation_stated origin line name tokens s ≡ data_stated (data_kind.Number size.B) origin line tokens s
directed_so origin line name tokens s e = rw e refl

byte_named : (dialect : Dialect) → directive_named dialect (codes ".BYTE") ≡ Some (directive.Data (data_kind.Number size.B))
unfolding directive_of
byte_named dialect = refl

pub byte_placed : (origin : Origin) (byte : ℕ) (s : Standing) → byte < 256
    → placed origin (byte_text byte) s ≡ placed_by (done (adds (byte_part origin byte (current_of s.sections).size ∷ []) (begun_at s)).progress) None
byte_placed origin byte s h =
    let name : Token = token_at 0 (word Name (codes ".BYTE")) in
    let tokens : List Token = token_at 6 (word (Number byte) (94 ∷ 88 ∷ hex 2 byte)) ∷ [] in
    let named_so : directive_named s.dialect (token_text (byte_text byte) name) ≡ Some (directive.Data (data_kind.Number size.B)) = byte_named s.dialect in
    placed_line origin (byte_text byte) (name ∷ tokens) (Operation name tokens) s (byte_scanned byte h s.dialect) (byte_parsed byte) (ap is_listing_by named_so)
    ∙ body_made origin (byte_text byte) name tokens s (done (adds (byte_part origin byte (current_of s.sections).size ∷ []) (begun_at s)).progress) (directed_so origin (byte_text byte) (token_text (byte_text byte) name) tokens s named_so ∙ byte_stated origin byte s h)
