-- The parts of a statement are sound.
use Rattle.std.proofs.Common.{◌≡◌, ◌≤◌, ℕ, Bool, true, false, cond, List, [], ◌∷◌, length, Option, Some, None, refl, arith}
use Rattle.std.specs.Prelude.{◌&&◌}
use Rattle.std.proofs.lemmas.List.{length-drop}
use Rattle.vax_lex.specs.declared.token.Token.{Token}
use Rattle.vax_asm_statement.specs.Reading.{Headed, Parsed, What, Nothing, Assignment, Operation, Malformed, assignment_or, behind_label, behind_marks, doubled, headed, operation, parsed}
use Rattle.vax_asm_statement.specs.Tokens.{is_mark, is_name_token}
use Rattle.vax_asm.specs.Sound.{IsSound, IsSoundWhat}

-- a name, and so many tokens behind it at most
abbrev IsSoundHead : ℕ → Option Headed → Type 0
IsSoundHead most None = Unit {0}
IsSoundHead most (Some h) = (is_name_token h.name ≡ true) × (length h.rest ≤ most)

either_sound : (b : Bool) (most : ℕ) (h k : Headed) → IsSoundHead most (Some h) → IsSoundHead most (Some k) → IsSoundHead most (Some (cond b h k))
either_sound true most h k p q = p
either_sound false most h k p q = q

found_sound : (b : Bool) (most : ℕ) (h : Headed) → (b ≡ true → IsSoundHead most (Some h)) → IsSoundHead most (cond b (Some h) None)
found_sound true most h p = p refl
found_sound false most h p = tt

first_holds : (a b : Bool) → a && b ≡ true → a ≡ true
first_holds true b e = refl
first_holds false b e = absurd cc

headed_sound : (m : ℕ) (tokens : List Token) → IsSoundHead (length tokens) (headed m tokens)
headed_sound m [] = tt
headed_sound m (t ∷ []) = tt
headed_sound m (name ∷ first ∷ tokens) =
    found_sound (is_name_token name && is_mark m first) (length (name ∷ first ∷ tokens)) (behind_marks m name first tokens)
    (λ e. either_sound (doubled m first tokens) (length (name ∷ first ∷ tokens)) _ _
    (first_holds (is_name_token name) (is_mark m first) e, omega (arith, length-drop 1 tokens))
    (first_holds (is_name_token name) (is_mark m first) e, omega arith))

operator_sound : (b : Bool) (t : Token) (tokens : List Token) → IsSoundWhat (length (t ∷ tokens)) (cond b (Operation t tokens) Malformed)
operator_sound true t tokens = omega arith
operator_sound false t tokens = tt

operation_sound : (tokens : List Token) → IsSoundWhat (length tokens) (operation tokens)
operation_sound [] = tt
operation_sound (t ∷ tokens) = operator_sound (is_name_token t) t tokens

wider : (w : What) (some most : ℕ) → some ≤ most → IsSoundWhat some w → IsSoundWhat most w
wider Nothing some most le s = tt
wider (Assignment name global tokens) some most le s = (s.0, omega (arith, le, s.1))
wider (Operation name tokens) some most le s = omega (arith, le, s)
wider Malformed some most le s = tt

assignment_sound : (o : Option Headed) (tokens : List Token) → IsSoundHead (length tokens) o → IsSoundWhat (length tokens) (assignment_or o (operation tokens))
assignment_sound (Some h) tokens s = s
assignment_sound None tokens s = operation_sound tokens

behind_sound : (o : Option Headed) (tokens : List Token) → IsSoundHead (length tokens) o → IsSound (length tokens) (behind_label o tokens)
behind_sound (Some h) tokens s = record { label = s.0; what = wider (operation h.rest) (length h.rest) (length tokens) s.1 (operation_sound h.rest) }
behind_sound None tokens s = record { label = tt; what = assignment_sound (headed 61 tokens) tokens (headed_sound 61 tokens) }

pub parsed_sound : (tokens : List Token) → IsSound (length tokens) (parsed tokens)
unfolding parsed
parsed_sound tokens = behind_sound (headed 58 tokens) tokens (headed_sound 58 tokens)

pub statement_sound : (tokens : List Token) (p : Parsed) → length tokens ≤ 1024 → p ≡ parsed tokens → IsSound 4294967295 p
statement_sound tokens p few is =
    let s = parsed_sound tokens in
    rw is (record { label = s.label; what = wider (parsed tokens).what (length tokens) 4294967295 (omega (arith, few)) s.what })
