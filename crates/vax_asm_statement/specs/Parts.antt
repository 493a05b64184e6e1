-- The operands of a statement, between the commas that stand in no brackets (VAX MACRO and Instruction Set Reference
-- Manual, "Operand field").
use Rattle.std.specs.Prelude.{ℕ, Bool, ◌+◌, ◌-◌, ◌==◌, ◌&&◌, if◌then◌else◌, List, [], ◌∷◌, ◌++◌}
use Rattle.vax_lex.specs.declared.token.Token.{Token}
use Rattle.vax_asm_statement.specs.Tokens.{is_mark}

-- how many brackets are open behind a token
abbrev pub depth_after : ℕ → Token → ℕ
depth_after depth t = if is_mark 60 t then depth + 1 else (if is_mark 62 t then depth - 1 else depth)

-- a comma in no brackets
abbrev pub separates : ℕ → Token → Bool
separates depth t = depth == 0 && is_mark 44 t

abbrev pub split_from : ℕ → List Token → List Token → List (List Token)
split_from depth part [] = part ∷ []
split_from depth part (t ∷ tokens) =
    if separates depth t then part ∷ split_from 0 [] tokens
    else split_from (depth_after depth t) (part ++ t ∷ []) tokens

-- no tokens are no operand
abbrev pub parts : List Token → List (List Token)
parts [] = []
parts (t ∷ tokens) = split_from 0 [] (t ∷ tokens)
