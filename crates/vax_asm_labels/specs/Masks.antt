-- `.MASK` (VAX MACRO and Instruction Set Reference Manual, this directive): a word that holds the mask of an entry, perhaps OR-ed with an
-- expression.
use Rattle.std.specs.Prelude.{ℕ, ◌+◌, Bool, true, false, nat_lt, if◌then◌else◌, List, [], ◌∷◌, length, Option, Some, None, Result, Err}
use Rattle.vax_asm_data.specs.Masks.{masked_stated}
use Rattle.vax_asm_first.specs.Progress.{Site, done, site_of}
use Rattle.vax_asm_first.specs.Standing.{Standing}
use Rattle.vax_asm_first.specs.declared.types.Origin.{Origin}
use Rattle.vax_asm_labels.specs.Naming.{is_place, name_in}
use Rattle.vax_asm_statement.specs.Items.{name_alone}
use Rattle.vax_asm_statement.specs.Parts.{parts}
use Rattle.vax_lex.specs.declared.token.Token.{Token}
use Rattle.vax_lex.specs.declared.token.TokenKind.TheVariants.{Name}
use Rattle.vax_macro.specs.declared.error.FaultKind.{FaultKind}
use Rattle.vax_macro.specs.declared.error.FaultKind.TheVariants as fault

-- What stands for the mask: the name of its entry, and in front of an expression, which may use that name, the byte behind it.
abbrev pub byte_behind : Token → Token
byte_behind t = record { kind = Name; start = t.end; end = t.end + 1 }

abbrev pub key_below : Bool → (entry : Token) → Option Token
key_below true entry = Some (byte_behind entry)
key_below false entry = None

abbrev pub key_of : (line : List ℕ) → (entry : Token) → List Token → Option Token
key_of line entry [] = Some entry
key_of line entry (t ∷ tokens) = if nat_lt entry.end (length line) then key_below (nat_lt entry.end 4294967295) entry else None

abbrev pub mask_as : Site → (entry : List ℕ) → List Token → (key : Option Token) → Standing → Result Standing FaultKind
mask_as site entry tokens (Some key) s = done (masked_stated site entry key tokens s)
mask_as site entry tokens None s = Err fault.Form

abbrev pub mask_at : Site → Token → List Token → Standing → Result Standing FaultKind
mask_at site entry tokens s =
    if is_place (name_in site.line entry) then Err fault.Form
    else mask_as site (name_in site.line entry) tokens (key_of site.line entry tokens) s

abbrev pub mask_named : Site → Option Token → List Token → Standing → Result Standing FaultKind
mask_named site (Some entry) tokens s = mask_at site entry tokens s
mask_named site None tokens s = Err fault.Form

abbrev pub mask_by : Site → List (List Token) → Standing → Result Standing FaultKind
mask_by site [] s = Err fault.Count
mask_by site (entry ∷ []) s = mask_named site (name_alone site.line entry) [] s
mask_by site (entry ∷ tokens ∷ []) s = mask_named site (name_alone site.line entry) tokens s
mask_by site (entry ∷ tokens ∷ more ∷ others) s = Err fault.Count

unfoldable pub mask_stated : Origin → List ℕ → List Token → Standing → Result Standing FaultKind
mask_stated origin line tokens s = mask_by (site_of origin line s) (parts tokens) s
