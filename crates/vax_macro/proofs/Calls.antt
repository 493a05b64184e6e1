-- How a call opens.
use Rattle.std.proofs.Common.{◌≡◌, ◌+◌, false, List, Option, Some, refl}
use Rattle.vax_macro.specs.Directives.{Goes, call_with, expansion, is_deep, with_call, with_expansion}
use Rattle.vax_macro.specs.Lines.{Reading, SourceLine}
use Rattle.vax_macro.specs.Rest.{Rest}
use Rattle.vax_macro.specs.Templates.{Filled, Giving, Template, filled}

-- the lines of the macro come next, and the call is the innermost
pub call_opens : (t : Template) (o : Option Giving) (g : Giving) (f : Filled) (lines : List SourceLine) (line : Reading) (rest after : Rest) → o ≡ Some g → is_deep line rest ≡ false
    → filled rest.made t.formals.list g.texts ≡ f → lines ≡ expansion t.lines line.number (line.depth + 1) f.texts
    → after ≡ with_call (line.depth + 1) g.next (with_expansion (line.depth + 1) lines (record rest { made = f.made })) → call_with t o line rest ≡ Goes after
call_opens t o g f lines line rest after given shallow texts is opened = rw (given, shallow, texts, opened, is) refl
