-- What the code keeps of the modules' names.
use Rattle.std.specs.Prelude.{◌≡◌, ℕ, ◌+◌, false, Result, Ok, Err, List, [], ◌∷◌, ◌++◌, length, Option, Some, None}
use Rattle.std.specs.HashMap.{get_by}
use Rattle.std.specs.Borrow.{Bor}
use Rattle.std.specs.Str.{bytes_eq}
use Rattle.vax_module.specs.declared.Module.{Module}
use Rattle.vax_link.specs.declared.names.Definition.{Definition}
use Rattle.vax_link.specs.declared.names.Names.{Names}
use Rattle.vax_link.specs.Names.{Name, Entries, definition_of, is_defined, repeated, entries_from, duplicate}

-- a table of these names
pub record IsTable (names : Names) (entries : Entries) : Type 0 where
  pub defined : (name : Name) → get_by (λ k. bytes_eq name k.now) names.defined ≡ definition_of name entries
  pub steps : names.steps ≡ length entries + 1

-- one more name, if it is new
pub record Adds (old new : Names) (name : Name) (definition : Definition) : Type 0 where
  pub table : (entries : Entries) → IsTable old entries → is_defined name entries ≡ false → IsTable new (entries ++ (name, definition) ∷ [])
  pub modules : new.modules.now ≡ old.modules.now

-- all of these names behind others, up to the first that is defined already
abbrev pub DefinesAll : Names → Entries → Entries → Option Name → Type 0
DefinesAll new before entries None = (repeated before entries ≡ None) × IsTable new (before ++ entries)
DefinesAll new before entries (Some name) = repeated before entries ≡ Some name

-- the names of modules, or the first that is defined twice
abbrev pub IsNamed : List Module → Result Names (Bor (List ℕ)) → Type 0
IsNamed modules (Ok names) = (duplicate modules ≡ None) × (names.modules.now ≡ modules) × IsTable names (entries_from 0 modules)
IsNamed modules (Err name) = duplicate modules ≡ Some name.now
