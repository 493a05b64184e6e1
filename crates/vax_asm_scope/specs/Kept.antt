-- What the scope means.
use Rattle.std.specs.Prelude.{◌≡◌, Option, Some}
use Rattle.vax_asm_scope.specs.Scope as specs
use Rattle.vax_asm_scope.specs.View.{scope_in, marked_in}
use Rattle.vax_asm_scope.specs.declared.scope.Scope.{Scope}

abbrev pub scope_of : Scope → specs.Scope
scope_of s = scope_in s.tables

-- what it was at the mark, if there is one
unfoldable pub marked_scope : Scope → Option specs.Scope
marked_scope s = marked_in s.tables

-- The mark, if there still is one, is the same as before.
abbrev pub KeepsMark : (old new : Scope) → Type 0
KeepsMark old new = (m : specs.Scope) → marked_scope new ≡ Some m → marked_scope old ≡ Some m
