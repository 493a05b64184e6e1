-- A statement that its text alone refuses has that fault wherever it stands.
use Rattle.std.proofs.Common.{◌≡◌, ◌⊎◌, inl, inr, ℕ, Bool, true, false, ◌==◌, ◌&&◌, not, if◌then◌else◌, List, length, map, Option, Some, None, Result, Ok, Err, refl, sym, ap, subst, ◌∙◌}
use Rattle.std.specs.List.{list_any}
use Rattle.std.specs.Prelude.{IfOk, IfSome}
use Rattle.vax_asm.specs.Placing.{Faulty, Placed, alone, behind_label, beside, body_stated, directed, directive_named, if_wide, instructed, instruction_named, is_bad, is_listing, is_listing_by, is_wide, no_assignment, operated_by, placed, placed_as, stated, token_of}
use Rattle.vax_asm.specs.Refusal.{IsRefused, body_refusal, directive_refusal, instruction_refusal, operator_refusal, refusal, refusal_as}
use Rattle.vax_asm_first.specs.Faults.{first_of}
use Rattle.vax_asm_first.specs.Progress.{Progress, site_of}
use Rattle.vax_asm_first.specs.Standing.{Standing}
use Rattle.vax_asm_first.specs.declared.types.Origin.{Origin}
use Rattle.vax_asm_instruction.specs.Stating.{if_counted, instruction_stated, opcode_stated, operands_stated}
use Rattle.vax_asm_labels.specs.Naming.{defined, is_place, label_stated, local_stated, name_in, symbol_stated}
use Rattle.vax_asm_names.specs.declared.types.Duplicate.{Duplicate}
use Rattle.vax_asm_scope.specs.Scope.{Scope, is_local}
use Rattle.vax_asm_statement.specs.Parts.{parts}
use Rattle.vax_asm_statement.specs.Reading.{Assignment, Malformed, Nothing, Operation, Parsed, What, parsed}
use Rattle.vax_asm_statement.specs.declared.directives.Directive.{Directive}
use Rattle.vax_asm_statement.specs.declared.directives.Directive.TheVariants as directive
use Rattle.vax_asm_statement.specs.declared.reading.Label.{Label}
use Rattle.vax_dialect.specs.declared.Dialect.{Dialect}
use Rattle.vax_isa.specs.Instructions.{Instruction}
use Rattle.vax_isa.specs.Rows.{row_of}
use Rattle.vax_lex.specs.Tokens.{pieces_of, token_text}
use Rattle.vax_lex.specs.declared.token.Piece.{Piece}
use Rattle.vax_lex.specs.declared.token.Token.{Token}
use Rattle.vax_macro.specs.declared.error.FaultKind.{FaultKind}
use Rattle.vax_macro.specs.declared.error.FaultKind.TheVariants as fault

-- ---- Labels

-- A label stands in the same dialect, or its fault is one of two.
abbrev LabelLeads : Standing → Result Standing FaultKind → Type 0
LabelLeads s (Ok t) = t.dialect ≡ s.dialect
LabelLeads s (Err kind) = (kind ≡ fault.Form) ⊎ (kind ≡ fault.Duplicate)

either_leads : (b : Bool) (s : Standing) (x y : Result Standing FaultKind) → LabelLeads s x → LabelLeads s y → LabelLeads s (if b then x else y)
either_leads true s x y h k = h
either_leads false s x y h k = k

defined_leads : (s : Standing) (r : Result Scope Duplicate) → LabelLeads s (defined s r)
defined_leads s (Ok scope) = refl
defined_leads s (Err e) = inr refl

local_leads : (global : Bool) (name : List ℕ) (s : Standing) → LabelLeads s (local_stated global name s)
local_leads true name s = inl refl
local_leads false name s = defined_leads s _

label_leads : (line : List ℕ) (label : Label) (s : Standing) → LabelLeads s (label_stated line label s)
unfolding label_stated
label_leads line label s =
    let name = name_in line label.name in
    either_leads (is_place name) s (Err fault.Form) (if is_local name then local_stated label.global name s else symbol_stated label.global name s) (inl refl)
    (either_leads (is_local name) s (local_stated label.global name s) (symbol_stated label.global name s) (local_leads label.global name s) (defined_leads s _))

-- ---- Bodies

-- a kind that goes before those of labels, or is one with them
abbrev IsEarly : FaultKind → Type 0
IsEarly kind = (kind ≡ fault.UnknownOperator) ⊎ ((kind ≡ fault.Count) ⊎ (kind ≡ fault.Form))

early_first : (a b : FaultKind) → (a ≡ fault.Form) ⊎ (a ≡ fault.Duplicate) → IsEarly b → first_of a b ≡ b
early_first a b (inl e) (inl f) = rw (e, f) refl
early_first a b (inl e) (inr (inl f)) = rw (e, f) refl
early_first a b (inl e) (inr (inr f)) = rw (e, f) refl
early_first a b (inr e) (inl f) = rw (e, f) refl
early_first a b (inr e) (inr (inl f)) = rw (e, f) refl
early_first a b (inr e) (inr (inr f)) = rw (e, f) refl

early_ranged : (b : FaultKind) → IsEarly b → first_of b fault.Range ≡ b
early_ranged b (inl f) = rw f refl
early_ranged b (inr (inl f)) = rw f refl
early_ranged b (inr (inr f)) = rw f refl

some_same : (a b : FaultKind) → Some a ≡ Some b → a ≡ b
some_same a b e = cc

miscounted : (b : Bool) (p : Progress) (kind : FaultKind) → (if b then None else Some fault.Count) ≡ Some kind → (kind ≡ fault.Count) × (if_counted b p ≡ Err kind)
miscounted true p kind e = absurd cc
miscounted false p kind e = (sym (some_same fault.Count kind e), ap (λ (k : FaultKind). Err k) (some_same fault.Count kind e))

instruction_refused : (i : Option Instruction) (origin : Origin) (line : List ℕ) (tokens : List Token) (s : Standing) (kind : FaultKind) → instruction_refusal i tokens ≡ Some kind → IsEarly kind × (instructed i origin line tokens s ≡ Err kind)
unfolding instruction_stated
instruction_refused (Some i) origin line tokens s kind e =
    let row = row_of i in
    let m = miscounted (length (parts tokens) == row.count) (operands_stated (site_of origin line s) (parts tokens) row.operands (opcode_stated row s)).progress kind e in
    (inr (inl m.0), m.1)
instruction_refused None origin line tokens s kind e = (inl (sym (some_same fault.UnknownOperator kind e)), ap (λ (k : FaultKind). Err k) (some_same fault.UnknownOperator kind e))

-- It goes before the fault of a label, or there is none, and the line may hold anything.
abbrev IsSure : Option Label → (listing : Bool) → FaultKind → Type 0
IsSure label listing kind = IsEarly kind ⊎ ((label ≡ None) × (listing ≡ true))

directive_refused : (label : Option Label) (d : Directive) (origin : Origin) (line : List ℕ) (tokens : List Token) (s : Standing) (kind : FaultKind) → directive_refusal label d ≡ Some kind → IsSure label (is_listing_by (Some d)) kind × (directed d origin line tokens s ≡ Err kind)
directive_refused None directive.Error origin line tokens s kind e = (inr (refl, refl), ap (λ (k : FaultKind). Err k) (some_same fault.Message kind e))
directive_refused None directive.Section origin line tokens s kind e = absurd cc
directive_refused None directive.Entry origin line tokens s kind e = absurd cc
directive_refused None (directive.Data k) origin line tokens s kind e = absurd cc
directive_refused None directive.Address origin line tokens s kind e = absurd cc
directive_refused None directive.Text origin line tokens s kind e = absurd cc
directive_refused None directive.CountedText origin line tokens s kind e = absurd cc
directive_refused None directive.ZeroText origin line tokens s kind e = absurd cc
directive_refused None directive.DescribedText origin line tokens s kind e = absurd cc
directive_refused None (directive.Space k) origin line tokens s kind e = absurd cc
directive_refused None (directive.Reference r) origin line tokens s kind e = absurd cc
directive_refused None directive.Align origin line tokens s kind e = absurd cc
directive_refused None directive.Even origin line tokens s kind e = absurd cc
directive_refused None directive.Odd origin line tokens s kind e = absurd cc
directive_refused None directive.Global origin line tokens s kind e = absurd cc
directive_refused None directive.Weak origin line tokens s kind e = absurd cc
directive_refused None directive.External origin line tokens s kind e = absurd cc
directive_refused None directive.Enable origin line tokens s kind e = absurd cc
directive_refused None directive.Disable origin line tokens s kind e = absurd cc
directive_refused None directive.Default origin line tokens s kind e = absurd cc
directive_refused None directive.Save origin line tokens s kind e = absurd cc
directive_refused None directive.Restore origin line tokens s kind e = absurd cc
directive_refused None directive.OperandType origin line tokens s kind e = absurd cc
directive_refused None directive.Mask origin line tokens s kind e = absurd cc
directive_refused None directive.Listing origin line tokens s kind e = absurd cc
directive_refused None directive.End origin line tokens s kind e = absurd cc
directive_refused (Some label) d origin line tokens s kind e = absurd cc

operator_refused : (label : Option Label) (d : Option Directive) (origin : Origin) (line name : List ℕ) (tokens : List Token) (s : Standing) (kind : FaultKind) → operator_refusal label d name tokens ≡ Some kind
    → IsSure label (is_listing_by d) kind × (operated_by d origin line name tokens s ≡ Err kind)
operator_refused label (Some d) origin line name tokens s kind e = directive_refused label d origin line tokens s kind e
operator_refused label None origin line name tokens s kind e = let r = instruction_refused (instruction_named name) origin line tokens s kind e in (inl r.0, r.1)

body_refused : (label : Option Label) (what : What) (origin : Origin) (line : List ℕ) (dialect : Dialect) (s : Standing) (kind : FaultKind) → s.dialect ≡ dialect → body_refusal dialect line label what ≡ Some kind
    → IsSure label (is_listing dialect line what) kind × (body_stated origin line what s ≡ no_assignment (Err kind))
unfolding body_stated
body_refused label Nothing origin line dialect s kind same e = absurd cc
body_refused label (Assignment name global tokens) origin line dialect s kind same e = absurd cc
body_refused label (Operation name tokens) origin line dialect s kind same e =
    let text = token_text line name in
    let r = operator_refused label (directive_named s.dialect text) origin line text tokens s kind (ap (λ (d : Dialect). operator_refusal label (directive_named d text) text tokens) same ∙ e) in
    (subst (λ (d : Dialect). IsSure label (is_listing_by (directive_named d text)) kind) same r.0, ap no_assignment r.1)
body_refused label Malformed origin line dialect s kind same e = (inl (inr (inr (sym (some_same fault.Form kind e)))), ap (λ (k : FaultKind). no_assignment (Err k)) (some_same fault.Form kind e))

-- behind a label it goes before that one's
sure_early : (label : Label) (listing : Bool) (kind : FaultKind) → IsSure (Some label) listing kind → IsEarly kind
sure_early label listing kind (inl early) = early
sure_early label listing kind (inr h) = let none = h.0 in absurd cc

-- ---- Statements

beside_refused : (found : Label) (what : What) (line : List ℕ) (dialect : Dialect) (label kind : FaultKind) → (label ≡ fault.Form) ⊎ (label ≡ fault.Duplicate) → IsEarly kind → body_refusal dialect line (Some found) what ≡ Some kind
    → beside label what (no_assignment (Err kind)) ≡ Faulty kind None
beside_refused found Nothing line dialect label kind l early e = absurd cc
beside_refused found (Assignment name global tokens) line dialect label kind l early e = absurd cc
beside_refused found (Operation name tokens) line dialect label kind l early e = ap (λ (k : FaultKind). Faulty k None) (early_first label kind l early)
beside_refused found Malformed line dialect label kind l early e = ap (λ (k : FaultKind). Faulty k None) (early_first label kind l early)

behind_label_refused : (r : Result Standing FaultKind) (found : Label) (what : What) (origin : Origin) (line : List ℕ) (s : Standing) (kind : FaultKind) → LabelLeads s r → body_refusal s.dialect line (Some found) what ≡ Some kind → behind_label origin line what s r ≡ Faulty kind None
behind_label_refused (Ok t) found what origin line s kind leads e = ap alone (body_refused (Some found) what origin line s.dialect t kind leads e).1
behind_label_refused (Err label) found what origin line s kind leads e =
    let b = body_refused (Some found) what origin line s.dialect s kind refl e in
    ap (beside label what) b.1 ∙ beside_refused found what line s.dialect label kind leads (sure_early found (is_listing s.dialect line what) kind b.0) e

statement_refused : (label : Option Label) (what : What) (origin : Origin) (line : List ℕ) (s : Standing) (kind : FaultKind) → body_refusal s.dialect line label what ≡ Some kind → stated origin line (record { label = label; what = what }) s ≡ Faulty kind None
unfolding stated
statement_refused None what origin line s kind e = ap alone (body_refused None what origin line s.dialect s kind refl e).1
statement_refused (Some label) what origin line s kind e = behind_label_refused (label_stated line label s) label what origin line s kind (label_leads line label s) e

ranged : (label : Option Label) (listing wide : Bool) (p : Placed) (kind : FaultKind) → IsSure label listing kind → p ≡ Faulty kind None → (if listing then p else if_wide wide p) ≡ Faulty kind None
ranged label true wide p kind sure e = e
ranged label false true p kind (inl early) e = rw e (ap (λ (k : FaultKind). Faulty k None) (early_ranged kind early))
ranged label false true p kind (inr h) e = let listed = h.1 in absurd cc
ranged label false false p kind sure e = e

-- by whether a byte belongs to no token
by_pieces : (label : Option Label) (bad listing wide : Bool) (body : Option FaultKind) (p : Placed) (kind : FaultKind) → (body ≡ Some kind → IsSure label listing kind × (p ≡ Faulty kind None))
    → (if bad && not listing then Some fault.Token else body) ≡ Some kind
    → (if listing then p else (if bad then Faulty fault.Token None else if_wide wide p)) ≡ Faulty kind None
by_pieces label true true wide body p kind h e = (h e).1
by_pieces label true false wide body p kind h e = ap (λ (k : FaultKind). Faulty k None) (some_same fault.Token kind e)
by_pieces label false listing wide body p kind h e = ranged label listing wide p kind (h e).0 (h e).1

refused_here : (dialect : Dialect) (origin : Origin) (line : List ℕ) (pieces : List Piece) (p : Parsed) (s : Standing) (kind : FaultKind) → s.dialect ≡ dialect → refusal_as s.dialect line pieces p ≡ Some kind → placed_as origin line pieces p s ≡ Faulty kind None
refused_here dialect origin line pieces p s kind same e =
    by_pieces p.label (list_any is_bad pieces) (is_listing s.dialect line p.what) (list_any is_wide pieces) (body_refusal s.dialect line p.label p.what) (stated origin line p s) kind
    (λ (b : body_refusal s.dialect line p.label p.what ≡ Some kind). ((body_refused p.label p.what origin line s.dialect s kind refl b).0, statement_refused p.label p.what origin line s kind b)) e

refused : (dialect : Dialect) (line : List ℕ) (kind : FaultKind) → refusal dialect line ≡ Some kind → IsRefused dialect line kind
unfolding refusal placed
refused dialect line kind e = λ origin s same.
    let pieces = pieces_of s.dialect line in
    let p = parsed (map token_of pieces) in
    refused_here dialect origin line pieces p s kind same (ap (λ (d : Dialect). refusal d line) same ∙ e)

if_refused : (dialect : Dialect) (line : List ℕ) (o : Option FaultKind) → o ≡ refusal dialect line → IfSome o (IsRefused dialect line)
if_refused dialect line (Some kind) e = refused dialect line kind (sym e)
if_refused dialect line None e = tt

pub all_refused : {E : Type 0} (r : Result (Option FaultKind) E) (dialect : Dialect) (line : List ℕ) → IfOk r (λ o. o ≡ refusal dialect line) → IfOk r (λ o. IfSome o (IsRefused dialect line))
all_refused (Ok o) dialect line h = if_refused dialect line o h
all_refused (Err e) dialect line h = tt

-- the same line, of which these are the pieces and the statement
pub of_line : {E : Type 0} (r : Result (Option FaultKind) E) (dialect : Dialect) (line text : List ℕ) (cut : List Piece) (said : Parsed) → text ≡ line → cut ≡ pieces_of dialect line → said ≡ parsed (map token_of (pieces_of dialect line))
    → IfOk r (λ o. o ≡ refusal_as dialect text cut said) → IfOk r (λ o. o ≡ refusal dialect line)
unfolding refusal
of_line r dialect line text cut said e f g h =
    subst (λ (w : Parsed). IfOk r (λ o. o ≡ refusal_as dialect line (pieces_of dialect line) w)) g
    (subst (λ (p : List Piece). IfOk r (λ o. o ≡ refusal_as dialect line p said)) f
    (subst (λ (t : List ℕ). IfOk r (λ o. o ≡ refusal_as dialect t cut said)) e h))
