-- Values that solve definitions (VAX MACRO and Instruction Set Reference Manual, "Direct assignment statement").
use Rattle.std.specs.Prelude.{◌≡◌, ◌⊎◌, ℕ, List, Option, Some}
use Rattle.vax_lex.specs.declared.value.Value.{Value}
use Rattle.vax_asm_values.specs.Values.{Source, ToCome, source_at, value_under}

-- Each definition has the value that it is given, or that its expression has under these values.
abbrev pub Solve : (values : ℕ → Option Value) → List Source → Type 0
Solve values sources = (i : ℕ) → values i ≡ value_under values (source_at sources i)

-- Every definition that has a value here has it there too.
abbrev pub AreIn : (values others : ℕ → Option Value) → Type 0
AreIn values others = (i : ℕ) (v : Value) → values i ≡ Some v → others i ≡ Some v

-- A definition that isn't to come any more is there still, as it was.
abbrev pub Stay : (before after : List Source) → Type 0
Stay before after = (i : ℕ) → (source_at before i ≡ ToCome) ⊎ (source_at after i ≡ source_at before i)
