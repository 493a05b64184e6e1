-- Where a source says that its program begins.
use Rattle.std.proofs.Common.{◌≡◌, ◌≤◌, List, [], ◌∷◌, length, refl, sym, ap, ◌∙◌, arith}
use Rattle.vax_asm_causes.specs.Places.{line_pieces}
use Rattle.vax_asm_causes.specs.Remarks.{end_name, first_end, name_or, operation_of}
use Rattle.vax_dialect.specs.declared.Dialect.{Dialect}
use Rattle.vax_lines.specs.Lines.{Text}

named : (name other : Text) → 1 ≤ length name → name_or name other ≡ name
named [] other h = absurd (omega (arith, h))
named (b ∷ name) other h = refl

-- the first line that says it
pub start_found : (dialect : Dialect) (left more : List Text) (line name first : Text) → left ≡ line ∷ more → name ≡ end_name line (operation_of (line_pieces dialect line)) → 1 ≤ length name → first_end dialect left ≡ first → name ≡ first
unfolding first_end
start_found dialect left more line name first cut is some e =
    sym (named name (first_end dialect more) some) ∙ ap (λ (n : Text). name_or n (first_end dialect more)) is ∙ sym (ap (first_end dialect) cut) ∙ e
