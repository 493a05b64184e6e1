-- Instructions.
use Rattle.std.proofs.Common.{◌≡◌, ◌<◌, ◌≤◌, ◌+◌, ℕ, suc, arith, Bool, true, false, List, [], ◌∷◌, length, Option, Some, None, Ok, refl, sym, ap, subst, ◌∙◌}
use Rattle.std.proofs.lemmas.List.{get_or-set_same}
use Rattle.std.proofs.lemmas.Bool.Decides.{nat_tests}
use Rattle.std.specs.Prelude.{◌==◌, if◌then◌else◌, slice_index_or}
use Rattle.vax_asm_encode.specs.Operands.{may_stand, takes_branch}
use Rattle.vax_asm_encode.specs.declared.operand.Operand.{Operand}
use Rattle.vax_asm_encode.specs.declared.operand.Operand.TheVariants as operand
use Rattle.vax_asm_instruction.proofs.Back.{operand_is_long}
use Rattle.vax_asm_instruction.proofs.Referring.{referring_kind}
use Rattle.vax_asm_instruction.specs.Placing.{by_default, if_stands, operand_as, operand_at, operand_length, specifier_length}
use Rattle.vax_asm_instruction.specs.Stating.{Prepared, Reached, behind, fault_at, fixed, fixup_at, front_stated, if_counted, instruction_stated, opcode_stated, operand_stated, operands_stated, placed, prepared, reference_by, reference_stated, referred_kind, site_for}
use Rattle.vax_isa.specs.Rows.{IsFormed, IsKind, Plain}
use Rattle.vax_isa.specs.declared.OperandKind.{OperandKind}
use Rattle.vax_asm_sections.specs.Layout.{Bytes, Field as Kept, Part, Section, Sections, current_of, longer, unnamed, with_part}
use Rattle.vax_lex.specs.declared.token.Token.{Token}
use Rattle.vax_macro.specs.declared.error.FaultKind.{FaultKind}
use Rattle.vax_asm_first.specs.Faults.{lowest}
use Rattle.vax_asm_first.specs.Fixups.{Filling, Fixup}
use Rattle.vax_asm_first.specs.Progress.{Progress, Site, added, done, done_by, site_of}
use Rattle.vax_asm_first.proofs.Putting.{IsData, longer_held, put_made, put_held}
use Rattle.vax_asm_first.specs.Standing.{Standing, with_scope}
use Rattle.vax_asm_first.specs.declared.types.Origin.{Origin}
use Rattle.vax_asm_statement.specs.Parts.{parts}
use Rattle.vax_asm_statement.specs.Sizes.{sized}
use Rattle.vax_asm_statement.specs.declared.directives.Referring.{Referring}
use Rattle.vax_asm_statement.specs.declared.directives.Referring.TheVariants as referring
use Rattle.vax_asm_laws.specs.Counted.{BeginsAt, part_length}
use Rattle.vax_asm_laws.specs.Lying.{MayStand}
use Rattle.vax_asm_laws.proofs.Counting.{Step, part_step, step_same, step_then}
use Rattle.vax_asm_laws.proofs.Data.{Goes, IsCounted}

-- An operand that is placed may stand there.
abbrev StandsIn : OperandKind → Option Operand → Type 0
StandsIn kind (Some o) = may_stand kind o ≡ true
StandsIn kind None = Unit {0}

or_none : (kind : OperandKind) (o : Operand) (b : Bool) → may_stand kind o ≡ b → StandsIn kind (if b then Some o else None)
or_none kind o true e = e
or_none kind o false e = tt

some_stands : (kind : OperandKind) (o : Option Operand) → StandsIn kind (if_stands kind o)
some_stands kind None = tt
some_stands kind (Some o) = or_none kind o (may_stand kind o) refl

branch_or : (kind : OperandKind) (o : Option Operand) (b : Bool) → takes_branch kind.letter ≡ b → StandsIn kind (if b then Some operand.Branch else if_stands kind o)
branch_or kind o true e = e
branch_or kind o false e = some_stands kind o

at_stands : (kind : OperandKind) (a : _) (section at : ℕ) → StandsIn kind (operand_at kind a section at)
at_stands kind a section at = branch_or kind (sized a.mode a.index section (at + specifier_length a.index) a.value) (takes_branch kind.letter) refl

-- The kinds of operands are ones.
abbrev AreKinds : List (List Token) → List OperandKind → Type 0
AreKinds [] kinds = Unit {0}
AreKinds (o ∷ os) [] = ⊥
AreKinds (o ∷ os) (kind ∷ kinds) = IsKind kind × AreKinds os kinds

kinds_of : (os : List (List Token)) (kinds : List OperandKind) → length os ≤ length kinds → ((k : ℕ) (d : OperandKind) → k < length os → IsKind (slice_index_or kinds k d)) → AreKinds os kinds
kinds_of [] kinds h are = tt
kinds_of (o ∷ os) [] h are = absurd (omega arith)
kinds_of (o ∷ os) (kind ∷ kinds) h are = (are 0 kind (omega arith), kinds_of os kinds (omega arith) (λ k d less. are (suc k) d (omega arith)))

-- Where nothing so far has a fault, all parts are there, and the next one begins behind them.
record Fine (s : Standing) (r : Reached) : Type 0 where
  goes : Goes s r.progress.standing
  at : r.at ≡ (current_of r.progress.standing.sections).size

added_fine : (n : ℕ) (p : Part Fixup) (s : Standing) → IsData p → IsCounted s → part_length p ≡ n → BeginsAt (current_of s.sections).size p → MayStand p → (added n p s).fault ≡ None
    → Fine s (record { at = (current_of s.sections).size + n; progress = added n p s })
added_fine n p s sort c e b may h =
    let made : (added n p s).standing.sections ≡ with_part n p s.sections = ap (λ (t : Standing). t.sections) (put_made n p s h) in
    let x : Section Fixup = current_of s.sections in
    let size : (longer n p x).size ≡ x.size + n = ap (λ (y : Section Fixup). y.size) (longer_held n p x (put_held n p s sort h)) in
    record {
      goes = subst (λ (x : Sections Fixup). Step s.sections x) (sym made) (part_step n p s.sections c e b may);
      at = sym (ap (λ (x : Sections Fixup). (current_of x).size) made ∙ ap (λ x. x.size) (get_or-set_same s.sections.all s.sections.current (longer n p (current_of s.sections)) unnamed c.current) ∙ size);
    }

fixed_fine : (site : Site) (kind : OperandKind) (o : Operand) (filling : Filling) (at : ℕ) (s : Standing) (f : Option FaultKind) → IsKind kind → may_stand kind o ≡ true → IsCounted s → at ≡ (current_of s.sections).size → (fixed site kind o filling at s f).fault ≡ None
    → Fine s (record { at = at + operand_length kind o; progress = fixed site kind o filling at s f })
fixed_fine site kind o filling at s None k may c e h =
    let fine = added_fine (operand_length kind o) (Kept (fixup_at site kind o filling at)) s tt c (operand_is_long kind o 0) e (k, may) h in
    record { goes = fine.goes; at = ap (λ (n : ℕ). n + operand_length kind o) e ∙ fine.at }
fixed_fine site kind o filling at s (Some f) k may c e h = cc

placed_fine : (site : Site) (kind : OperandKind) (p : Prepared) (at : ℕ) (s : Standing) (o : Option Operand) → IsKind kind → StandsIn kind o → IsCounted s → at ≡ (current_of s.sections).size → (placed site kind p at s o).progress.fault ≡ None → Fine s (placed site kind p at s o)
placed_fine site kind p at s (Some o) k may c e h = fixed_fine site kind o p.filling at s (fault_at kind o s.sections.current at p.addressed) k may c e h
placed_fine site kind p at s None k may c e h = cc

one_fine : (site : Site) (kind : OperandKind) (tokens : List Token) (at : ℕ) (s : Standing) → IsKind kind → IsCounted s → at ≡ (current_of s.sections).size → (operand_stated site kind tokens at s).progress.fault ≡ None → Fine s (operand_stated site kind tokens at s)
one_fine site kind tokens at s k c e h =
    let p : Prepared = prepared s.dialect (site_for s at site) (operand_as s.absolute kind site.line tokens) s.scope in
    let fine = placed_fine site kind p at (with_scope p.scope s) (operand_at kind (by_default s.displacement s.sections.current p.addressed) s.sections.current at) k (at_stands kind (by_default s.displacement s.sections.current p.addressed) s.sections.current at) c e h in
    record { goes = fine.goes; at = fine.at }

lowest_none : (a b : Option FaultKind) → lowest a b ≡ None → (a ≡ None) × (b ≡ None)
lowest_none None b h = (refl, h)
lowest_none (Some a) None h = absurd cc
lowest_none (Some a) (Some b) h = absurd cc

none_before : (site : Site) (os : List (List Token)) (kinds : List OperandKind) (r : Reached) → (operands_stated site os kinds r).progress.fault ≡ None → r.progress.fault ≡ None
none_before site [] kinds r h = h
none_before site (o ∷ os) [] r h = h
none_before site (o ∷ os) (kind ∷ kinds) r h =
    (lowest_none _ _ (none_before site os kinds (behind r.progress.fault (operand_stated site kind o r.at r.progress.standing)) h)).0

operands_fine : (site : Site) (os : List (List Token)) (kinds : List OperandKind) (s : Standing) (r : Reached) → AreKinds os kinds → Fine s r → (operands_stated site os kinds r).progress.fault ≡ None → Fine s (operands_stated site os kinds r)
operands_fine site [] kinds s r are fine h = fine
operands_fine site (o ∷ os) [] s r are fine h = fine
operands_fine site (o ∷ os) (kind ∷ kinds) s r are fine h =
    let one : Reached = operand_stated site kind o r.at r.progress.standing in
    let next : Reached = behind r.progress.fault one in
    let alone : one.progress.fault ≡ None = (lowest_none r.progress.fault one.progress.fault (none_before site os kinds next h)).1 in
    let more = one_fine site kind o r.at r.progress.standing are.0 fine.goes.counted fine.at alone in
    operands_fine site os kinds s next are.1
    (record { goes = step_then s.sections r.progress.standing.sections one.progress.standing.sections fine.goes more.goes; at = more.at }) h

done_ok : (f : Option FaultKind) (s t : Standing) → done_by f s ≡ Ok t → (f ≡ None) × (s ≡ t)
done_ok None s t h = (refl, cc)
done_ok (Some k) s t h = absurd cc

counted_ok : (b : Bool) (p : Progress) (t : Standing) → if_counted b p ≡ Ok t → (b ≡ true) × (done p ≡ Ok t)
counted_ok true p t h = (refl, h)
counted_ok false p t h = absurd cc

pub instruction_goes : (row : Plain) (origin : Origin) (line : List ℕ) (tokens : List Token) (s t : Standing) → IsFormed row → IsCounted s → instruction_stated row origin line tokens s ≡ Ok t → Goes s t
unfolding instruction_stated
instruction_goes row origin line tokens s t formed c e =
    let site : Site = site_of origin line s in
    let first : Reached = opcode_stated row s in
    let last : Reached = operands_stated site (parts tokens) row.operands first in
    let counted = counted_ok (length (parts tokens) == row.count) last.progress t e in
    let count : length (parts tokens) ≡ row.count = grind (arith, nat_tests, counted.0) in
    let are : AreKinds (parts tokens) row.operands = kinds_of (parts tokens) row.operands (omega (arith, formed.count, formed.places, count)) (λ k d less. formed.kinds k d (omega arith)) in
    let stated = done_ok last.progress.fault last.progress.standing t counted.1 in
    let begun : Fine s first = added_fine 1 (Bytes (row.code ∷ [])) s tt c refl tt tt (none_before site (parts tokens) row.operands first stated.0) in
    let fine : Fine s last = operands_fine site (parts tokens) row.operands s first are begun stated.0 in
    subst (λ (x : Standing). Goes s x) stated.1 fine.goes

front_fine : (r : Referring) (s : Standing) → IsCounted s → (front_stated r s).progress.fault ≡ None → Fine s (front_stated r s)
front_fine (referring.Read k) s c h = record { goes = step_same s.sections c; at = refl }
front_fine referring.Pop s c h = added_fine 2 (Bytes (0xD0 ∷ 0x8E ∷ [])) s tt c refl tt tt h

reference_goes_by : (r : Referring) (site : Site) (found : List (List Token)) (s t : Standing) → IsCounted s → reference_by r site found s ≡ Ok t → Goes s t
reference_goes_by r site [] s t c e = cc
reference_goes_by r site (o ∷ []) s t c e =
    let front : Reached = front_stated r s in
    let one : Reached = operand_stated site (referred_kind r) o front.at front.progress.standing in
    let stated = done_ok (lowest front.progress.fault one.progress.fault) one.progress.standing t e in
    let none = lowest_none front.progress.fault one.progress.fault stated.0 in
    let first : Fine s front = front_fine r s c none.0 in
    let fine : Fine front.progress.standing one = one_fine site (referred_kind r) o front.at front.progress.standing (referring_kind r) first.goes.counted first.at none.1 in
    subst (λ (x : Standing). Goes s x) stated.1 (step_then s.sections front.progress.standing.sections one.progress.standing.sections first.goes fine.goes)
reference_goes_by r site (o ∷ p ∷ more) s t c e = cc

pub reference_goes : (r : Referring) (origin : Origin) (line : List ℕ) (tokens : List Token) (s t : Standing) → IsCounted s → reference_stated r origin line tokens s ≡ Ok t → Goes s t
unfolding reference_stated
reference_goes r origin line tokens s t c e = reference_goes_by r (site_of origin line s) (parts tokens) s t c e
