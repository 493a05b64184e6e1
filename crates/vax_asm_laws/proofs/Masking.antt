-- Masks of entries.
use Rattle.std.proofs.Common.{◌≡◌, ℕ, Bool, true, false, List, [], ◌∷◌, Option, Some, None, Ok, Err}
use Rattle.std.specs.Prelude.{if◌then◌else◌}
use Rattle.vax_asm_data.specs.Masks.{masked_stated, masked_told}
use Rattle.vax_asm_encode.specs.Operands.{item_field}
use Rattle.vax_asm_encode.specs.declared.operand.DataKind.TheVariants.{Number}
use Rattle.vax_asm_first.specs.Faults.{fault_of_value, unless_place}
use Rattle.vax_asm_first.specs.Fixups.{filling_by}
use Rattle.vax_asm_first.specs.Progress.{Site, site_of}
use Rattle.vax_asm_first.specs.Standing.{Standing, Told, here_at, here_in, misplaces, with_scope}
use Rattle.vax_asm_first.specs.declared.types.Origin.{Origin}
use Rattle.vax_asm_labels.specs.Masks.{key_of, mask_as, mask_by, mask_named, mask_stated}
use Rattle.vax_asm_labels.specs.Naming.{is_place, name_in}
use Rattle.vax_asm_laws.proofs.Data.{Goes, IsCounted, done_goes, placed_goes}
use Rattle.vax_asm_statement.specs.Items.{name_alone}
use Rattle.vax_asm_statement.specs.Parts.{parts}
use Rattle.vax_lex.specs.Grammar.{symbols_of}
use Rattle.vax_lex.specs.declared.token.Token.{Token}
use Rattle.vax_macro.specs.declared.error.FaultKind.TheVariants as fault
use Rattle.vax_word.specs.declared.Size.TheVariants as size

masked_goes : (site : Site) (entry : List ℕ) (key : Token) (tokens : List Token) (s : Standing) → IsCounted s → Goes s (masked_stated site entry key tokens s).standing
masked_goes site entry key tokens s c =
    let t : Told = masked_told site entry key tokens (here_at s.dialect site.here (here_in s.sections)) s in
    placed_goes (Number size.W) site (unless_place (misplaces s.dialect (symbols_of site.line tokens)) (fault_of_value (item_field (Number size.W)) 0 0 t.settled)) (Ok 1) (filling_by t.value t.written) (with_scope t.scope s) c

as_goes : (site : Site) (entry : List ℕ) (tokens : List Token) (key : Option Token) (s t : Standing) → IsCounted s → mask_as site entry tokens key s ≡ Ok t → Goes s t
as_goes site entry tokens (Some key) s t c e = done_goes s t (masked_stated site entry key tokens s) (masked_goes site entry key tokens s c) e
as_goes site entry tokens None s t c e = cc

at_goes : (place : Bool) (site : Site) (entry : List ℕ) (tokens : List Token) (key : Option Token) (s t : Standing) → IsCounted s
    → (if place then Err fault.Form else mask_as site entry tokens key s) ≡ Ok t → Goes s t
at_goes true site entry tokens key s t c e = cc
at_goes false site entry tokens key s t c e = as_goes site entry tokens key s t c e

named_goes : (site : Site) (o : Option Token) (tokens : List Token) (s t : Standing) → IsCounted s → mask_named site o tokens s ≡ Ok t → Goes s t
named_goes site (Some entry) tokens s t c e = at_goes (is_place (name_in site.line entry)) site (name_in site.line entry) tokens (key_of site.line entry tokens) s t c e
named_goes site None tokens s t c e = cc

masks_go : (site : Site) (found : List (List Token)) (s t : Standing) → IsCounted s → mask_by site found s ≡ Ok t → Goes s t
masks_go site [] s t c e = cc
masks_go site (entry ∷ []) s t c e = named_goes site (name_alone site.line entry) [] s t c e
masks_go site (entry ∷ tokens ∷ []) s t c e = named_goes site (name_alone site.line entry) tokens s t c e
masks_go site (entry ∷ tokens ∷ more ∷ others) s t c e = cc

pub mask_goes : (origin : Origin) (line : List ℕ) (tokens : List Token) (s t : Standing) → IsCounted s → mask_stated origin line tokens s ≡ Ok t → Goes s t
unfolding mask_stated
mask_goes origin line tokens s t c e = masks_go (site_of origin line s) (parts tokens) s t c e
