-- The words of operands, and that a scan of their text gives them.
use Rattle.std.proofs.Common.{◌≡◌, ℕ, ◌-◌, ◌*◌, ◌^◌, Bool, true, false, List, [], ◌∷◌, ◌++◌, refl, ap, ◌∙◌, append_assoc}
use Rattle.std.specs.Prelude.{codes, decimal, ◌==◌, nat_lt, if◌then◌else◌}
use Rattle.vax_lex.specs.declared.token.TokenKind.TheVariants.{Name, Number, Mark}
use Rattle.vax_outside.specs.Hex.{hex}
use Rattle.vax_isa.specs.declared.OperandKind.{OperandKind}
use Rattle.vax_flat.specs.Operand.{plus}
use Rattle.vax_flat.specs.Grammar.{Place, Deferred, Decrement, Increment, IncrementDeferred, Absolute, Displaced, DisplacedDeferred, Specifier, Literal, Register, Immediate, InMemory, Indexed, BranchBy}
use Rattle.vax_disasm.specs.Text.{register_name, enclosed, signed, displaced, size_letter as letter_text, place_text, specifier_text}
use Rattle.vax_disasm_laws.proofs.Words.{Word, word, written}

abbrev pub sign : ℕ → Word
sign m = word (Mark m) (m ∷ [])

abbrev pub register : ℕ → Word
register n = word Name (register_name n)

abbrev pub letter : ℕ → Word
letter c = word Name (c ∷ [])

abbrev pub hexadecimal : ℕ → ℕ → Word
hexadecimal places n = word (Number n) (94 ∷ 88 ∷ hex places n)

abbrev pub number : ℕ → Word
number n = word (Number n) (decimal n)

abbrev pub enclosed_words : ℕ → List Word → List Word
enclosed_words n words = sign 40 ∷ register n ∷ sign 41 ∷ words

abbrev pub signed_words : ℕ → List Word → List Word
signed_words n words = if nat_lt n (2 ^ 31) then number n ∷ words else sign 45 ∷ number (2 ^ 32 - n) ∷ words

abbrev pub letter_of : ℕ → ℕ
letter_of width = if width == 1 then 66 else (if width == 2 then 87 else 76)

abbrev pub displaced_words : ℕ → ℕ → ℕ → List Word → List Word
displaced_words width displacement n words = letter (letter_of width) ∷ sign 94 ∷ signed_words displacement (enclosed_words n words)

abbrev pub place_words : Place → List Word → List Word
place_words (Deferred n) words = enclosed_words n words
place_words (Decrement n) words = sign 45 ∷ enclosed_words n words
place_words (Increment n) words = enclosed_words n (sign 43 ∷ words)
place_words (IncrementDeferred n) words = sign 64 ∷ enclosed_words n (sign 43 ∷ words)
place_words (Absolute addr) words = sign 64 ∷ sign 35 ∷ hexadecimal 8 addr ∷ words
place_words (Displaced width displacement n) words = displaced_words width displacement n words
place_words (DisplacedDeferred width displacement n) words = sign 64 ∷ displaced_words width displacement n words

abbrev pub specifier_words : OperandKind → ℕ → Specifier → List Word
specifier_words kind next (Literal value) = letter 83 ∷ sign 94 ∷ sign 35 ∷ hexadecimal 2 value ∷ []
specifier_words kind next (Register n) = register n ∷ []
specifier_words kind next (Immediate value) = letter 73 ∷ sign 94 ∷ sign 35 ∷ hexadecimal (2 * kind.width) value ∷ []
specifier_words kind next (InMemory place) = place_words place []
specifier_words kind next (Indexed place x) = place_words place (sign 91 ∷ register x ∷ sign 93 ∷ [])
specifier_words kind next (BranchBy displacement) = hexadecimal 8 (plus next displacement) ∷ []

-- the text is that of the words

enclosed_text : (n : ℕ) (words : List Word) (rest : List ℕ) → enclosed n ++ written words rest ≡ written (enclosed_words n words) rest
unfolding enclosed
enclosed_text n words rest = simp append_assoc

signed_text : (n : ℕ) (words : List Word) (rest : List ℕ) (low : Bool) → nat_lt n (2 ^ 31) ≡ low → signed n ++ written words rest ≡ written (signed_words n words) rest
unfolding signed
signed_text n words rest true e = rw e refl
signed_text n words rest false e = rw e refl

letter_spelled : (width : ℕ) → letter_text width ≡ letter_of width ∷ []
letter_spelled width = elim (width == 1) as (λ b. (if b then codes "B" else (if width == 2 then codes "W" else codes "L")) ≡ (if b then 66 else (if width == 2 then 87 else 76)) ∷ []) [
  | true ↦ refl
  | false ↦ elim (width == 2) as (λ b. (if b then codes "W" else codes "L") ≡ (if b then 87 else 76) ∷ []) [ true ↦ refl | false ↦ refl ]
]

displaced_text : (width displacement n : ℕ) (words : List Word) (rest : List ℕ) → displaced width displacement n ++ written words rest ≡ written (displaced_words width displacement n words) rest
unfolding displaced
displaced_text width displacement n words rest =
    simp append_assoc (rw (letter_spelled width, enclosed_text n words rest, signed_text displacement (enclosed_words n words) rest (nat_lt displacement (2 ^ 31)) refl) refl)

place_spelled : (place : Place) (words : List Word) (rest : List ℕ) → place_text place ++ written words rest ≡ written (place_words place words) rest
unfolding place_text
place_spelled (Deferred n) words rest = enclosed_text n words rest
place_spelled (Decrement n) words rest = ap (λ (s : List ℕ). 45 ∷ s) (enclosed_text n words rest)
place_spelled (Increment n) words rest = append_assoc (enclosed n) (codes "+") (written words rest) ∙ enclosed_text n (sign 43 ∷ words) rest
place_spelled (IncrementDeferred n) words rest = ap (λ (s : List ℕ). 64 ∷ s) (append_assoc (enclosed n) (codes "+") (written words rest) ∙ enclosed_text n (sign 43 ∷ words) rest)
place_spelled (Absolute addr) words rest = refl
place_spelled (Displaced width displacement n) words rest = displaced_text width displacement n words rest
place_spelled (DisplacedDeferred width displacement n) words rest = ap (λ (s : List ℕ). 64 ∷ s) (displaced_text width displacement n words rest)

pub specifier_spelled : (kind : OperandKind) (next : ℕ) (s : Specifier) (rest : List ℕ) → specifier_text kind next s ++ rest ≡ written (specifier_words kind next s) rest
unfolding specifier_text
specifier_spelled kind next (Literal value) rest = refl
specifier_spelled kind next (Register n) rest = refl
specifier_spelled kind next (Immediate value) rest = refl
specifier_spelled kind next (InMemory place) rest = place_spelled place [] rest
specifier_spelled kind next (Indexed place x) rest = simp append_assoc (place_spelled place (sign 91 ∷ register x ∷ sign 93 ∷ []) rest)
specifier_spelled kind next (BranchBy displacement) rest = refl
