-- What a name means once it is assigned to.
use Rattle.std.proofs.Common.{◌≡◌, ℕ, List, Option, Some, None, Result, Ok, Err, length, refl, sym, ap, ◌∙◌}
use Rattle.std.proofs.lemmas.Bool.{cond-true}
use Rattle.std.specs.Cmp.Lexicographic.{bytes_decides}
use Rattle.std.specs.Str.{bytes_eq}
use Rattle.vax_asm_names.specs.Names as table
use Rattle.vax_asm_names.specs.declared.types.Duplicate.{Duplicate}
use Rattle.vax_asm_scope.specs.Scope.{Scope, entry, entry_by, definition_by, definition_of}
use Rattle.vax_asm_values.specs.Values.{Source}

numbered_by : (text : List ℕ) (s : Scope) (o : Option ℕ) → s.names.numbers text ≡ o → (entry_by text s o).scope.names.numbers text ≡ Some (entry_by text s o).number
numbered_by text s (Some i) is = is
numbered_by text s None is = cond-true (bytes_eq text text) (Some (length s.names.all)) (s.names.numbers text) ((bytes_decides text text).1 refl)

-- a name has its number from where it appears on
numbered : (text : List ℕ) (s : Scope) → (entry text s).scope.names.numbers text ≡ Some (entry text s).number
numbered text s = numbered_by text s (s.names.numbers text) refl

same_numbers : (n : table.Names) (i : ℕ) (r : Result table.Name Duplicate) (m : table.Names) → table.changed i n r ≡ Ok m → m.numbers ≡ n.numbers
same_numbers n i (Ok q) m e = let is : table.with_change i n q ≡ m = cc in ap (λ (x : table.Names). x.numbers) (sym is)
same_numbers n i (Err d) m e = absurd cc

means_so : (text : List ℕ) (s : Scope) (r : Result table.Name Duplicate) (n : table.Names) (sources : List Source) → table.changed (entry text s).number (entry text s).scope.names r ≡ Ok n
    → (table.name_at n.all (entry text s).number).definition ≡ definition_of text (record { names = n; sources = sources })
means_so text s r n sources e =
    let found : n.numbers text ≡ Some (entry text s).number =
    ap (λ (f : List ℕ → Option ℕ). f text) (same_numbers (entry text s).scope.names (entry text s).number r n e) ∙ numbered text s in
    ap (definition_by (record { names = n; sources = sources })) (sym found)

-- a name that is changed means the definition that it then has
pub definition_told : (text : List ℕ) (s u t : Scope) (i d : ℕ) (r : Result table.Name Duplicate) (n : table.Names) → i ≡ (entry text s).number → u ≡ (entry text s).scope
    → table.changed i u.names r ≡ Ok n → d ≡ (table.name_at n.all i).definition → t.names ≡ n → d ≡ definition_of text t
definition_told text s u t i d r n number scope changes is names =
    let entries = entry text s in
    let change : table.changed entries.number entries.scope.names r ≡ Ok n =
    ap (λ (k : ℕ). table.changed k entries.scope.names r) (sym number) ∙ ap (λ (x : Scope). table.changed i x.names r) (sym scope) ∙ changes in
    is
    ∙ ap (λ (k : ℕ). (table.name_at n.all k).definition) number
    ∙ means_so text s r n t.sources change
    ∙ ap (λ (m : table.Names). definition_of text (record { names = m; sources = t.sources })) (sym names)
