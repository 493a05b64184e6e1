-- What the statement of an instruction leaves is read back as the instruction.
use Rattle.std.proofs.Common.{◌≡◌, ◌<◌, ◌≤◌, ◌+◌, ℕ, suc, Bool, true, false, List, [], ◌∷◌, ◌++◌, length, map, take, Option, Some, None, Ok, refl, sym, ap, ◌∙◌, arith, subst, append_assoc, length-append}
use Rattle.std.proofs.Math.Seq.{take-append_seam}
use Rattle.std.proofs.lemmas.Bool.Decides.{nat_tests}
use Rattle.std.proofs.lemmas.List.Elements.{All-nil, All-cons}
use Rattle.std.proofs.lemmas.List.{append-nil, get_or-set_same, length-set, length-map}
use Rattle.std.specs.Prelude.{All, ◌==◌, if◌then◌else◌, replicate, slice_index_or, ◌-◌}
use Rattle.vax_isa.specs.Instructions.{Instruction}
use Rattle.vax_isa.specs.Rows.{IsFormed, IsKind, Plain, no_operand, row_of}
use Rattle.vax_isa.specs.declared.OperandKind.{OperandKind}
use Rattle.vax_lex.specs.declared.token.Token.{Token}
use Rattle.vax_asm_encode.specs.Operands.{may_stand, takes_branch}
use Rattle.vax_asm_encode.specs.declared.operand.Operand.{Operand}
use Rattle.vax_asm_encode.specs.declared.operand.Operand.TheVariants as operand
use Rattle.vax_asm_sections.specs.Layout.{Part, Bytes, Field as Kept, Section, Sections, current_of, longer, unnamed, with_part}
use Rattle.vax_asm_sections.specs.View.{section_of}
use Rattle.vax_macro.specs.declared.error.FaultKind.{FaultKind}
use Rattle.vax_asm_first.specs.Faults.{lowest}
use Rattle.vax_asm_first.specs.Fixups.{Filling, Fixup}
use Rattle.vax_asm_first.specs.Progress.{Site, Progress, done, done_by, site_of}
use Rattle.vax_asm_first.proofs.Putting.{longer_held, put_made, put_held}
use Rattle.vax_asm_first.specs.Standing.{Standing, with_scope}
use Rattle.vax_asm_first.specs.View.{section_seen, standing_of}
use Rattle.vax_asm_first.specs.declared.types.Origin.{Origin}
use Rattle.vax_asm_first.specs.declared.types.Standing as code
use Rattle.vax_asm_statement.specs.Parts.{parts}
use Rattle.vax_asm_statement.specs.Sizes.{sized}
use Rattle.vax_asm_instruction.proofs.Back.{IsSound, operand_is_long, read_back}
use Rattle.vax_asm_instruction.specs.Bytes.{AreHeld, HasInstruction, Held, StandFrom, held_bytes, operands_bytes}
use Rattle.vax_asm_instruction.specs.Placing.{by_default, if_stands, operand_as, operand_at, operand_length, specifier_length}
use Rattle.vax_asm_instruction.specs.Stating.{Prepared, Reached, behind, fault_at, fixed, fixup_at, if_counted, instruction_stated, opcode_stated, operand_stated, operands_stated, placed, prepared, site_for}
use Rattle.vax_asm_instruction.specs.declared.placing.Addressed.{Addressed}

-- An operand that is placed may stand there.
abbrev StandsIn : OperandKind → Option Operand → Type 0
StandsIn kind (Some o) = may_stand kind o ≡ true
StandsIn kind None = Unit {0}

or_none : (kind : OperandKind) (o : Operand) (b : Bool) → may_stand kind o ≡ b → StandsIn kind (if b then Some o else None)
or_none kind o true e = e
or_none kind o false e = tt

some_stands : (kind : OperandKind) (o : Option Operand) → StandsIn kind (if_stands kind o)
some_stands kind None = tt
some_stands kind (Some o) = or_none kind o (may_stand kind o) refl

branch_or : (kind : OperandKind) (o : Option Operand) (b : Bool) → takes_branch kind.letter ≡ b → StandsIn kind (if b then Some operand.Branch else if_stands kind o)
branch_or kind o true e = e
branch_or kind o false e = some_stands kind o

at_stands : (kind : OperandKind) (a : Addressed) (section at : ℕ) → StandsIn kind (operand_at kind a section at)
at_stands kind a section at = branch_or kind (sized a.mode a.index section (at + specifier_length a.index) a.value) (takes_branch kind.letter) refl

-- What has no fault is added.
fixed_made : (site : Site) (kind : OperandKind) (o : Operand) (filling : Filling) (at : ℕ) (s : Standing) (f : Option FaultKind) → (fixed site kind o filling at s f).fault ≡ None
    → (fixed site kind o filling at s f).standing.sections ≡ with_part (operand_length kind o) (Kept (fixup_at site kind o filling at)) s.sections
fixed_made site kind o filling at s None h = ap (λ (t : Standing). t.sections) (put_made (operand_length kind o) (Kept (fixup_at site kind o filling at)) s h)
fixed_made site kind o filling at s (Some k) h = cc

fixed_held : (site : Site) (kind : OperandKind) (o : Operand) (filling : Filling) (at : ℕ) (s : Standing) (f : Option FaultKind) → (fixed site kind o filling at s f).fault ≡ None → (current_of s.sections).counter ≡ None
fixed_held site kind o filling at s None h = put_held (operand_length kind o) (Kept (fixup_at site kind o filling at)) s tt h
fixed_held site kind o filling at s (Some k) h = absurd cc

-- One operand.
record Step (site : Site) (kind : OperandKind) (at : ℕ) (s : Standing) (r : Reached) : Type 0 where
  operand : Operand
  filling : Filling
  stands : may_stand kind operand ≡ true
  next : r.at ≡ at + operand_length kind operand
  sections : r.progress.standing.sections ≡ with_part (operand_length kind operand) (Kept (fixup_at site kind operand filling at)) s.sections
  has_bytes : (current_of s.sections).counter ≡ None

placed_step : (site : Site) (kind : OperandKind) (p : Prepared) (at : ℕ) (s : Standing) (o : Option Operand) → StandsIn kind o → (placed site kind p at s o).progress.fault ≡ None → Step site kind at s (placed site kind p at s o)
placed_step site kind p at s None stands h = absurd cc
placed_step site kind p at s (Some o) stands h = record {
  operand = o;
  filling = p.filling;
  stands = stands;
  next = refl;
  sections = fixed_made site kind o p.filling at s (fault_at kind o s.sections.current at p.addressed) h;
  has_bytes = fixed_held site kind o p.filling at s (fault_at kind o s.sections.current at p.addressed) h;
}

step : (site : Site) (kind : OperandKind) (tokens : List Token) (at : ℕ) (s : Standing) → (operand_stated site kind tokens at s).progress.fault ≡ None → Step site kind at s (operand_stated site kind tokens at s)
step site kind tokens at s h =
    let p : Prepared = prepared s.dialect (site_for s at site) (operand_as s.absolute kind site.line tokens) s.scope in
    let made = placed_step site kind p at (with_scope p.scope s) (operand_at kind (by_default s.displacement s.sections.current p.addressed) s.sections.current at) (at_stands kind (by_default s.displacement s.sections.current p.addressed) s.sections.current at) h in record {
      operand = made.operand;
      filling = made.filling;
      stands = made.stands;
      next = made.next;
      sections = made.sections;
      has_bytes = made.has_bytes;
    }

-- Where all have no fault, each has none.
lowest_none : (a b : Option FaultKind) → lowest a b ≡ None → (a ≡ None) × (b ≡ None)
lowest_none None b h = (refl, h)
lowest_none (Some a) None h = absurd cc
lowest_none (Some a) (Some b) h = absurd cc

none_before : (site : Site) (os : List (List Token)) (kinds : List OperandKind) (r : Reached) → (operands_stated site os kinds r).progress.fault ≡ None → r.progress.fault ≡ None
none_before site [] kinds r h = h
none_before site (o ∷ os) [] r h = h
none_before site (o ∷ os) (kind ∷ kinds) r h =
    (lowest_none _ _ (none_before site os kinds (behind r.progress.fault (operand_stated site kind o r.at r.progress.standing)) h)).0

-- The kinds of so many operands.
abbrev front : List (List Token) → List OperandKind → List OperandKind
front [] kinds = []
front (o ∷ os) [] = []
front (o ∷ os) (kind ∷ kinds) = kind ∷ front os kinds

abbrev AreKinds : List (List Token) → List OperandKind → Type 0
AreKinds [] kinds = Unit {0}
AreKinds (o ∷ os) [] = ⊥
AreKinds (o ∷ os) (kind ∷ kinds) = IsKind kind × AreKinds os kinds

front_taken : (os : List (List Token)) (kinds : List OperandKind) → front os kinds ≡ take (length os) kinds
front_taken [] kinds = refl
front_taken (o ∷ os) [] = refl
front_taken (o ∷ os) (kind ∷ kinds) = ap (λ (l : List OperandKind). kind ∷ l) (front_taken os kinds)

kinds_of : (os : List (List Token)) (kinds : List OperandKind) → length os ≤ length kinds → ((k : ℕ) (d : OperandKind) → k < length os → IsKind (slice_index_or kinds k d)) → AreKinds os kinds
kinds_of [] kinds h are = tt
kinds_of (o ∷ os) [] h are = absurd (omega arith)
kinds_of (o ∷ os) (kind ∷ kinds) h are = (are 0 kind (omega arith), kinds_of os kinds (omega arith) (λ k d less. are (suc k) d (omega arith)))

-- The current section with one part more.
current_longer : (n : ℕ) (part : Part Fixup) (s : Sections Fixup) → s.current < length s.all → current_of (with_part n part s) ≡ longer n part (current_of s)
current_longer n part s h = get_or-set_same s.all s.current (longer n part (current_of s)) unnamed h

within_part : (n : ℕ) (part : Part Fixup) (s : Sections Fixup) → s.current < length s.all → (with_part n part s).current < length (with_part n part s).all
within_part n part s h = rw (length-set s.all s.current (longer n part (current_of s))) h

-- Operands one behind another: the section has grown by their fields.
record HeldAs (kinds : List OperandKind) (from : ℕ) (before after : Sections Fixup) (operands : List (Part Fixup)) (hs : List Held) : Type 0 where
  kinds_are : map (λ h. h.kind) hs ≡ kinds
  sound : All IsSound hs
  stand : StandFrom from operands hs
  size : (current_of after).size ≡ (current_of before).size + length (operands_bytes hs)

record Grown (kinds : List OperandKind) (from : ℕ) (before after : Sections Fixup) : Type 0 where
  operands : List (Part Fixup)
  current : after.current ≡ before.current
  parts_are : (current_of after).parts ≡ (current_of before).parts ++ operands
  held : (hs : List Held) → AreHeld operands hs → HeldAs kinds from before after operands hs

held_none : (from : ℕ) (s : Sections Fixup) (hs : List Held) → AreHeld [] hs → HeldAs [] from s s [] hs
held_none from s [] h = record { kinds_are = refl; sound = All-nil IsSound; stand = tt; size = omega arith }
held_none from s (x ∷ xs) h = absurd h

held_more : (site : Site) (kind : OperandKind) (kinds : List OperandKind) (o : Operand) (filling : Filling) (at next : ℕ) (before middle after : Sections Fixup) (operands : List (Part Fixup)) (hs : List Held)
    → IsKind kind → may_stand kind o ≡ true → next ≡ at + operand_length kind o → (current_of middle).size ≡ (current_of before).size + operand_length kind o
    → ((xs : List Held) → AreHeld operands xs → HeldAs kinds next middle after operands xs)
    → AreHeld (Kept (fixup_at site kind o filling at) ∷ operands) hs → HeldAs (kind ∷ kinds) at before after (Kept (fixup_at site kind o filling at) ∷ operands) hs
held_more site kind kinds o filling at next before middle after operands [] is stands e grown rest h = absurd h
held_more site kind kinds o filling at next before middle after operands (x ∷ xs) is stands e grown rest h =
    let more = rest xs h.1 in
    let same_kind : kind ≡ x.kind = cc (h.0.0) in
    let same_operand : o ≡ x.operand = cc (h.0.0) in
    let long : length (held_bytes x) ≡ operand_length kind o = operand_is_long x.kind x.operand x.number ∙ sym (ap (λ (k : OperandKind). operand_length k o) same_kind ∙ ap (operand_length x.kind) same_operand) in
    let behind_it : next ≡ at + length (held_bytes x) = e ∙ ap (λ (n : ℕ). at + n) (sym long) in
    let stands_as : may_stand x.kind x.operand ≡ true = sym (ap (λ (k : OperandKind). may_stand k o) same_kind ∙ ap (may_stand x.kind) same_operand) ∙ stands in
    record {
      kinds_are = ap (λ (k : OperandKind). k ∷ map (λ h. h.kind) xs) (sym same_kind) ∙ ap (λ (l : List OperandKind). kind ∷ l) more.kinds_are;
      sound = All-cons IsSound x xs (record { kind = subst IsKind same_kind is; stands = stands_as; holds = h.0.1 }) more.sound;
      stand = (refl, subst (λ (n : ℕ). StandFrom n operands xs) behind_it more.stand);
      size = omega (arith, more.size, grown, long, length-append (held_bytes x) (operands_bytes xs));
    }

grown : (site : Site) (os : List (List Token)) (kinds : List OperandKind) (r : Reached) → AreKinds os kinds → r.progress.standing.sections.current < length r.progress.standing.sections.all
    → (operands_stated site os kinds r).progress.fault ≡ None → Grown (front os kinds) r.at r.progress.standing.sections (operands_stated site os kinds r).progress.standing.sections
grown site [] kinds r are within h = record {
  operands = [];
  current = refl;
  parts_are = sym (append-nil (current_of r.progress.standing.sections).parts);
  held = held_none r.at r.progress.standing.sections;
}
grown site (o ∷ os) [] r are within h = absurd are
grown site (o ∷ os) (kind ∷ kinds) r are within h =
    let s : Standing = r.progress.standing in
    let one : Reached = operand_stated site kind o r.at s in
    let next : Reached = behind r.progress.fault one in
    let p : Step site kind r.at s one = step site kind o r.at s (lowest_none r.progress.fault one.progress.fault (none_before site os kinds next h)).1 in
    let n : ℕ = operand_length kind p.operand in
    let part : Part Fixup = Kept (fixup_at site kind p.operand p.filling r.at) in
    let inside : next.progress.standing.sections.current < length next.progress.standing.sections.all = subst (λ (x : Sections Fixup). x.current < length x.all) (sym p.sections) (within_part n part s.sections within) in
    let more = grown site os kinds next are.1 inside h in
    let x : Section Fixup = current_of s.sections in
    let section : current_of next.progress.standing.sections ≡ record x { size = x.size + n; parts = x.parts ++ part ∷ [] } =
    ap current_of p.sections ∙ current_longer n part s.sections within ∙ longer_held n part x p.has_bytes in
    record {
      operands = part ∷ more.operands;
      current = more.current ∙ ap (λ (x : Sections Fixup). x.current) p.sections;
      parts_are = more.parts_are ∙ ap (λ (x : Section Fixup). x.parts ++ more.operands) section ∙ append_assoc (current_of s.sections).parts (part ∷ []) more.operands;
      held = λ hs held. held_more site kind (front os kinds) p.operand p.filling r.at next.at s.sections next.progress.standing.sections (operands_stated site os kinds next).progress.standing.sections more.operands hs
          are.0 p.stands p.next (ap (λ (x : Section Fixup). x.size) section) more.held held;
    }

-- The whole.
done_ok : (f : Option FaultKind) (s t : Standing) → done_by f s ≡ Ok t → (f ≡ None) × (s ≡ t)
done_ok None s t h = (refl, cc)
done_ok (Some k) s t h = absurd cc

counted_ok : (b : Bool) (p : Progress) (t : Standing) → if_counted b p ≡ Ok t → (b ≡ true) × (done p ≡ Ok t)
counted_ok true p t h = (refl, h)
counted_ok false p t h = absurd cc

operands_of_row : (row : Plain) (i : Instruction) → row ≡ row_of i → take row.count row.operands ≡ i.operands
operands_of_row row i e =
    ap (λ (r : Plain). take r.count r.operands) e ∙ take-append_seam i.operands (replicate (6 - length i.operands) no_operand)

abbrev has_instruction : Plain → Origin → List ℕ → List Token → Standing → Standing → Type 0
has_instruction row origin line tokens s t = HasInstruction row (current_of s.sections) (current_of t.sections)

left_by : (row : Plain) (site : Site) (os : List (List Token)) (s : Standing) → IsFormed row → length os ≡ row.count → s.sections.current < length s.sections.all
    → (operands_stated site os row.operands (opcode_stated row s)).progress.fault ≡ None
    → HasInstruction row (current_of s.sections) (current_of (operands_stated site os row.operands (opcode_stated row s)).progress.standing.sections)
left_by row site os s formed count within h =
    let r : Reached = opcode_stated row s in
    let opcode : Part Fixup = Bytes (row.code ∷ []) in
    let stood : r.progress.fault ≡ None = none_before site os row.operands r h in
    let made : r.progress.standing.sections ≡ with_part 1 opcode s.sections = ap (λ (t : Standing). t.sections) (put_made 1 opcode s stood) in
    let x : Section Fixup = current_of s.sections in
    let inside : r.progress.standing.sections.current < length r.progress.standing.sections.all = subst (λ (x : Sections Fixup). x.current < length x.all) (sym made) (within_part 1 opcode s.sections within) in
    let are : AreKinds os row.operands = kinds_of os row.operands (omega (arith, formed.count, formed.places, count)) (λ k d less. formed.kinds k d (omega arith)) in
    let more = grown site os row.operands r are inside h in
    let section : current_of r.progress.standing.sections ≡ record x { size = x.size + 1; parts = x.parts ++ opcode ∷ [] } =
    ap current_of made ∙ current_longer 1 opcode s.sections within ∙ longer_held 1 opcode x (put_held 1 opcode s tt stood) in
    let size : (current_of r.progress.standing.sections).size ≡ (current_of s.sections).size + 1 = ap (λ (x : Section Fixup). x.size) section in
    let kinds : front os row.operands ≡ take row.count row.operands = front_taken os row.operands ∙ ap (λ (n : ℕ). take n row.operands) count in
    record {
      operands = more.operands;
      parts = more.parts_are ∙ ap (λ (x : Section Fixup). x.parts ++ more.operands) section ∙ append_assoc (current_of s.sections).parts (opcode ∷ []) more.operands;
      filled = λ hs held. let m = more.held hs held in record {
        read_back = λ i rest listed same. read_back row.code hs i rest m.sound listed (sym (m.kinds_are ∙ kinds ∙ operands_of_row row i same));
        stand = m.stand;
        size = omega (arith, m.size, size);
      };
    }

within : (s : code.Standing) → (standing_of s).sections.current < length (standing_of s).sections.all
within s = rw (length-map (map section_of s.layout.sections.items) section_seen, length-map s.layout.sections.items section_of) s.layout.in_range

pub left : (row : Plain) (origin : Origin) (line : List ℕ) (tokens : List Token) (s t : code.Standing) → IsFormed row
    → instruction_stated row origin line tokens (standing_of s) ≡ Ok (standing_of t) → HasInstruction row (current_of (standing_of s).sections) (current_of (standing_of t).sections)
unfolding instruction_stated
left row origin line tokens s t formed h =
    let before : Standing = standing_of s in
    let p : Progress = (operands_stated (site_of origin line before) (parts tokens) row.operands (opcode_stated row before)).progress in
    let counted = counted_ok (length (parts tokens) == row.count) p (standing_of t) h in
    let count : length (parts tokens) ≡ row.count = grind (arith, nat_tests, counted.0) in
    let stated = done_ok p.fault p.standing (standing_of t) counted.1 in
    subst (λ (x : Standing). HasInstruction row (current_of before.sections) (current_of x.sections)) stated.1
    (left_by row (site_of origin line before) (parts tokens) before formed count (within s) stated.0)
