-- The masks of entries (VAX MACRO and Instruction Set Reference Manual, `.ENTRY` and `.MASK`): each is a local label with the name of its
-- entry, in the block that no statement is in.
use Rattle.std.specs.Prelude.{ℕ, List, [], ◌∷◌, ◌++◌, Result, Ok, Err}
use Rattle.vax_dialect.specs.declared.Dialect.{Dialect}
use Rattle.vax_lex.specs.Characters.{canonical_name}
use Rattle.vax_lex.specs.Grammar.{symbols_of}
use Rattle.vax_lex.specs.Tokens.{token_text}
use Rattle.vax_lex.specs.declared.token.Token.{Token}
use Rattle.vax_lex.specs.declared.token.TokenKind.TheVariants.{Mark}
use Rattle.vax_lex.specs.declared.value.Value.{Value}
use Rattle.vax_asm_names.specs.Names.{locals_of}
use Rattle.vax_asm_names.specs.declared.types.Duplicate.{Duplicate}
use Rattle.vax_asm_scope.specs.Scope.{Scope, Meant, in_block, labelled_locally, mean_local}
use Rattle.vax_asm_values.specs.Values.{Meaning, Written}

abbrev pub in_masks : Scope → Scope
in_masks s = in_block 0 s

-- what the masks leave, where a block goes on behind them
abbrev pub returned : ℕ → Result Scope Duplicate → Result Scope Duplicate
returned block (Ok s) = Ok (in_block block s)
returned block (Err e) = Err e

-- The entry with a name has this mask.
abbrev pub mask_labelled : List ℕ → Value → Scope → Result Scope Duplicate
mask_labelled entry v s = returned s.names.block (labelled_locally entry v (in_masks s))

-- the definition that is the mask of the entry with a name, which may come later
abbrev pub local_meant : List ℕ → Scope → Meant
local_meant text s = mean_local text s (locals_of s.names text)

abbrev pub mask_meant : List ℕ → Scope → Meant
mask_meant entry s =
    let m = local_meant entry (in_masks s) in
    record { definition = m.definition; scope = in_block s.names.block m.scope }

-- a mask, for which a token stands that is a name: alone, or OR-ed with an expression
abbrev pub or_at : Token → Token
or_at t = record { kind = Mark 33; start = t.start; end = t.end }

abbrev pub with_mask : List Token → (key : Token) → List Token
with_mask [] key = key ∷ []
with_mask (t ∷ tokens) key = (t ∷ tokens) ++ or_at key ∷ key ∷ []

-- The same, where the names of the expression mean these definitions, and the mask is that one.
abbrev pub masked : Dialect → (line : List ℕ) → List Token → (key : Token) → (definition : ℕ) → List Meaning → Written
masked dialect line tokens key definition names = record {
  dialect = dialect;
  symbols = symbols_of line (with_mask tokens key);
  names = names ++ record { name = canonical_name (token_text line key); definition = definition } ∷ [];
}
