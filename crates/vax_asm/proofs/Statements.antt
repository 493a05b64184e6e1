-- How a walk goes on behind a statement.
use Rattle.std.proofs.Common.{◌≡◌, ℕ, ◌&&◌, Bool, true, false, not, if◌then◌else◌, List, Option, Some, None, refl, ap}
use Rattle.vax_asm.specs.Placing.{Placed, Stands, FaultyLabel, Faulty, if_wide, is_bad, is_listing, is_wide, placed_as, stated, waiting_in, with_range}
use Rattle.std.specs.List.{list_any}
use Rattle.vax_lex.specs.declared.token.Piece.{Piece}
use Rattle.vax_asm_statement.specs.Reading.{Parsed}
use Rattle.vax_asm.specs.PlacingView.{IsPlaced}
use Rattle.vax_asm.specs.Walk.{Assembly, Next, behind, least, stopped}
use Rattle.vax_asm.specs.declared.placing.Placed.TheVariants as code
use Rattle.vax_asm_second.specs.declared.types.Fault.{Fault}
use Rattle.vax_macro.specs.declared.error.FaultKind.{FaultKind}
use Rattle.vax_macro.specs.declared.error.FaultKind.TheVariants as fault
use Rattle.vax_asm_labels.specs.Naming.{with_waiting}
use Rattle.vax_asm_first.specs.Faults.{first_of}
use Rattle.vax_asm_first.specs.Fixups.{Assignment}
use Rattle.vax_asm_first.specs.Standing.{Standing}
use Rattle.vax_asm_first.specs.declared.types.Origin.{Origin}

abbrev kind_in : FaultKind → Placed → FaultKind
kind_in other (Stands s waiting) = other
kind_in other (FaultyLabel kind) = kind
kind_in other (Faulty kind waiting) = kind

abbrev standing_in : Standing → Placed → Standing
standing_in other (Stands s waiting) = s
standing_in other (FaultyLabel kind) = other
standing_in other (Faulty kind waiting) = other

pub behind_stands : (p : Placed) (origin : Origin) (a : Assembly) (met : Option Fault) (next : Next) (after : Standing) (more : List Assignment) → p ≡ Stands after (waiting_in p) → more ≡ with_waiting (waiting_in p) a.assignments
    → behind p origin a met next ≡ next (record { standing = after; assignments = more }) met
behind_stands (Stands s waiting) origin a met next after more e f = rw (f, ap (standing_in after) e) refl
behind_stands (FaultyLabel kind) origin a met next after more e f = cc
behind_stands (Faulty kind waiting) origin a met next after more e f = cc

pub behind_faulty : (p : Placed) (origin : Origin) (a : Assembly) (met : Option Fault) (next : Next) (kind : FaultKind) (more : List Assignment) → p ≡ Faulty kind (waiting_in p) → more ≡ with_waiting (waiting_in p) a.assignments
    → behind p origin a met next ≡ stopped more (least met origin kind)
behind_faulty (Stands s waiting) origin a met next kind more e f = cc
behind_faulty (FaultyLabel other) origin a met next kind more e f = cc
behind_faulty (Faulty other waiting) origin a met next kind more e f = rw (f, ap (kind_in kind) e) refl

pub behind_label : (p : Placed) (origin : Origin) (a : Assembly) (met : Option Fault) (next : Next) (kind : FaultKind) → p ≡ FaultyLabel kind → behind p origin a met next ≡ next a (Some (least met origin kind))
behind_label p origin a met next kind e = rw e refl

pub range_stands : (before after : Standing) (assignments more : List Assignment) (p : Placed) → IsPlaced code.Stands before after assignments more p → IsPlaced (code.Faulty fault.Range) before after assignments more (with_range p)
range_stands before after assignments more (Stands s waiting) h = (refl, h.1)
range_stands before after assignments more (FaultyLabel kind) h = cc
range_stands before after assignments more (Faulty kind waiting) h = cc

pub range_label : (before after : Standing) (assignments more : List Assignment) (kind : FaultKind) (p : Placed) → IsPlaced (code.FaultyLabel kind) before after assignments more p → IsPlaced (code.Faulty (first_of kind fault.Range)) before after assignments more (with_range p)
range_label before after assignments more kind (Stands s waiting) h = cc
range_label before after assignments more kind (FaultyLabel other) h = (ap (λ (k : FaultKind). Faulty (first_of k fault.Range) None) (ap (kind_in kind) h.0), h.2)
range_label before after assignments more kind (Faulty other waiting) h = cc

pub range_faulty : (before after : Standing) (assignments more : List Assignment) (kind : FaultKind) (p : Placed) → IsPlaced (code.Faulty kind) before after assignments more p → IsPlaced (code.Faulty (first_of kind fault.Range)) before after assignments more (with_range p)
range_faulty before after assignments more kind (Stands s waiting) h = cc
range_faulty before after assignments more kind (FaultyLabel other) h = cc
range_faulty before after assignments more kind (Faulty other waiting) h = (ap (λ (k : FaultKind). Faulty (first_of k fault.Range) waiting) (ap (kind_in kind) h.0), h.1)

-- a line of which each piece is a token is carried out as its statement
of_tokens : (listing bad wide : Bool) (p : Placed) → (not bad && not wide) ≡ true
    → (if listing then p else (if bad then Faulty fault.Token None else if_wide wide p)) ≡ p
of_tokens true bad wide p e = refl
of_tokens false true wide p e = cc
of_tokens false false true p e = cc
of_tokens false false false p e = refl

pub tokens_stated : (origin : Origin) (line : List ℕ) (pieces : List Piece) (p : Parsed) (s : Standing) → (not (list_any is_bad pieces) && not (list_any is_wide pieces)) ≡ true
    → placed_as origin line pieces p s ≡ stated origin line p s
tokens_stated origin line pieces p s e = of_tokens (is_listing s.dialect line p.what) (list_any is_bad pieces) (list_any is_wide pieces) (stated origin line p s) e
