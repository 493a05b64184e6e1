-- A statement.
use Rattle.std.proofs.Common.{◌≡◌, ℕ, Bool, true, false, List, Option, Some, None, Result, Ok, Err, refl}
use Rattle.std.specs.List.{list_any}
use Rattle.std.specs.Prelude.{IfSome, map, if◌then◌else◌}
use Rattle.vax_asm.specs.Placing.{Placed, Stands, FaultyLabel, Faulty, also, behind_label, beside, body_stated, directed, directive_named, if_wide, in_ascii, instructed, instruction_named, is_bad, is_listing, is_wide, operated_by, placed, placed_by, stated, stated_by, token_of, with_range}
use Rattle.vax_asm_data.specs.Data.{Plain, Counted_first, Zero_last, Described}
use Rattle.vax_isa.specs.Instructions.{Instruction}
use Rattle.vax_isa.proofs.Laws.{formed_with_name}
use Rattle.vax_isa.specs.Rows.{IsFormed, row_of, with_name}
use Rattle.vax_lex.specs.Tokens.{pieces_of, token_text}
use Rattle.vax_lex.specs.declared.token.Piece.{Piece}
use Rattle.vax_lex.specs.declared.token.Token.{Token}
use Rattle.vax_macro.specs.declared.error.FaultKind.{FaultKind}
use Rattle.vax_macro.specs.declared.error.FaultKind.TheVariants as fault
use Rattle.vax_asm_labels.specs.Naming.{Assigned, label_stated}
use Rattle.vax_asm_names.specs.declared.types.Linkage.TheVariants as links
use Rattle.vax_asm_first.specs.Fixups.{Assignment as Waiting}
use Rattle.vax_asm_first.specs.Standing.{Standing}
use Rattle.vax_asm_first.specs.declared.types.Origin.{Origin}
use Rattle.vax_asm_statement.specs.Parts.{parts}
use Rattle.vax_asm_statement.specs.Reading.{Parsed, What, Nothing, Assignment, Operation, Malformed, parsed}
use Rattle.vax_asm_statement.specs.declared.directives.Directive.{Directive}
use Rattle.vax_asm_statement.specs.declared.directives.Directive.TheVariants as directive
use Rattle.vax_asm_statement.specs.declared.reading.Label.{Label}
use Rattle.vax_asm_laws.proofs.Counting.{step_then}
use Rattle.vax_asm_laws.proofs.Data.{Goes, IsCounted, addresses_go, align_goes, data_goes, even_goes, odd_goes, space_goes, text_goes}
use Rattle.vax_asm_laws.proofs.Masking.{mask_goes}
use Rattle.vax_asm_laws.proofs.Naming.{assignment_goes, default_goes, end_goes, entry_goes, functions_go, label_goes, names_go, restored_goes, same_goes, saved_goes, section_goes}
use Rattle.vax_asm_laws.proofs.Operands.{instruction_goes, reference_goes}
use Rattle.vax_asm_laws.proofs.Typing.{types_go}

directed_goes : (d : Directive) (origin : Origin) (line : List ℕ) (tokens : List Token) (s t : Standing) → IsCounted s → directed d origin line tokens s ≡ Ok t → Goes s t
directed_goes directive.Section origin line tokens s t c e = section_goes line tokens s t c e
directed_goes directive.Entry origin line tokens s t c e = entry_goes origin line tokens s t c e
directed_goes (directive.Data kind) origin line tokens s t c e = data_goes kind origin line tokens s t c e
directed_goes directive.Address origin line tokens s t c e = addresses_go origin line tokens s t c e
directed_goes directive.Text origin line tokens s t c e = text_goes Plain origin line tokens s t c e
directed_goes directive.CountedText origin line tokens s t c e = text_goes Counted_first origin line tokens s t c e
directed_goes directive.ZeroText origin line tokens s t c e = text_goes Zero_last origin line tokens s t c e
directed_goes directive.DescribedText origin line tokens s t c e = text_goes Described origin line tokens s t c e
directed_goes (directive.Space kind) origin line tokens s t c e = space_goes kind origin line tokens s t c e
directed_goes (directive.Reference r) origin line tokens s t c e = reference_goes r origin line tokens s t c e
directed_goes directive.Align origin line tokens s t c e = align_goes origin line tokens s t c e
directed_goes directive.Even origin line tokens s t c e = even_goes tokens s t c e
directed_goes directive.Odd origin line tokens s t c e = odd_goes tokens s t c e
directed_goes directive.Global origin line tokens s t c e = names_go links.Global line tokens s t c e
directed_goes directive.Weak origin line tokens s t c e = names_go links.Weak line tokens s t c e
directed_goes directive.External origin line tokens s t c e = names_go links.External line tokens s t c e
directed_goes directive.Enable origin line tokens s t c e = functions_go true line tokens s t c e
directed_goes directive.Disable origin line tokens s t c e = functions_go false line tokens s t c e
directed_goes directive.Default origin line tokens s t c e = default_goes line tokens s t c e
directed_goes directive.Save origin line tokens s t c e = saved_goes line tokens s t c e
directed_goes directive.Restore origin line tokens s t c e = restored_goes tokens s t c e
directed_goes directive.Listing origin line tokens s t c e = same_goes s t s c refl e
directed_goes directive.OperandType origin line tokens s t c e = types_go origin line (parts tokens) s t c e
directed_goes directive.Mask origin line tokens s t c e = mask_goes origin line tokens s t c e
directed_goes directive.Error origin line tokens s t c e = absurd cc
directed_goes directive.End origin line tokens s t c e = end_goes line tokens s t c e

instructed_goes : (o : Option Instruction) (origin : Origin) (line : List ℕ) (tokens : List Token) (s t : Standing) → IfSome o (λ i. IsFormed (row_of i)) → IsCounted s → instructed o origin line tokens s ≡ Ok t → Goes s t
instructed_goes (Some i) origin line tokens s t formed c e = instruction_goes (row_of i) origin line tokens s t formed c e
instructed_goes None origin line tokens s t formed c e = cc

formed_if : (b : Bool) (name : List ℕ) → IfSome (if b then with_name name else None) (λ i. IsFormed (row_of i))
formed_if true name = formed_with_name name
formed_if false name = tt

operated_goes : (o : Option Directive) (origin : Origin) (line name : List ℕ) (tokens : List Token) (s t : Standing) → IsCounted s → operated_by o origin line name tokens s ≡ Ok t → Goes s t
operated_goes (Some d) origin line name tokens s t c e = directed_goes d origin line tokens s t c e
operated_goes None origin line name tokens s t c e = instructed_goes (instruction_named name) origin line tokens s t (formed_if (in_ascii name) name) c e

body_goes : (origin : Origin) (line : List ℕ) (what : What) (s t : Standing) → IsCounted s → (body_stated origin line what s).result ≡ Ok t → Goes s t
unfolding body_stated
body_goes origin line Nothing s t c e = same_goes s t s c refl e
body_goes origin line (Assignment name global tokens) s t c e = assignment_goes origin line name global tokens s t c e
body_goes origin line (Operation name tokens) s t c e = operated_goes (directive_named s.dialect (token_text line name)) origin line (token_text line name) tokens s t c e
body_goes origin line Malformed s t c e = cc

-- a statement that stands
placed_is : (r : Result Standing FaultKind) (w waiting : Option Waiting) (t : Standing) → placed_by r w ≡ Stands t waiting → r ≡ Ok t
placed_is (Ok u) w waiting t e = cc
placed_is (Err kind) w waiting t e = cc

also_none : (kind : FaultKind) (r : Result Standing FaultKind) (w waiting : Option Waiting) (t : Standing) → also kind r w ≡ Stands t waiting → ⊥
also_none kind (Ok u) w waiting t e = cc
also_none kind (Err other) w waiting t e = cc

beside_none : (kind : FaultKind) (what : What) (rest : Assigned) (t : Standing) (waiting : Option Waiting) → beside kind what rest ≡ Stands t waiting → ⊥
beside_none kind Nothing rest t waiting e = cc
beside_none kind (Assignment name global tokens) rest t waiting e = also_none kind rest.result rest.waiting waiting t e
beside_none kind (Operation name tokens) rest t waiting e = also_none kind rest.result rest.waiting waiting t e
beside_none kind Malformed rest t waiting e = also_none kind rest.result rest.waiting waiting t e

behind_goes : (origin : Origin) (line : List ℕ) (what : What) (s t : Standing) (waiting : Option Waiting) (r : Result Standing FaultKind) → ((u : Standing) → r ≡ Ok u → Goes s u) → behind_label origin line what s r ≡ Stands t waiting → Goes s t
behind_goes origin line what s t waiting (Ok u) h e =
    let first : Goes s u = h u refl in
    let body : Assigned = body_stated origin line what u in
    step_then s.sections u.sections t.sections first (body_goes origin line what u t first.counted (placed_is body.result body.waiting waiting t e))
behind_goes origin line what s t waiting (Err kind) h e = absurd (beside_none kind what (body_stated origin line what s) t waiting e)

stated_goes_by : (origin : Origin) (line : List ℕ) (label : Option Label) (what : What) (s t : Standing) (waiting : Option Waiting) → IsCounted s → stated_by origin line label what s ≡ Stands t waiting → Goes s t
stated_goes_by origin line None what s t waiting c e =
    let body : Assigned = body_stated origin line what s in
    body_goes origin line what s t c (placed_is body.result body.waiting waiting t e)
stated_goes_by origin line (Some label) what s t waiting c e = behind_goes origin line what s t waiting (label_stated line label s) (λ u made. label_goes line label s u c made) e

stated_goes : (origin : Origin) (line : List ℕ) (p : Parsed) (s t : Standing) (waiting : Option Waiting) → IsCounted s → stated origin line p s ≡ Stands t waiting → Goes s t
unfolding stated
stated_goes origin line p s t waiting c e = stated_goes_by origin line p.label p.what s t waiting c e

range_none : (p : Placed) (t : Standing) (waiting : Option Waiting) → with_range p ≡ Stands t waiting → ⊥
range_none (Stands s w) t waiting e = cc
range_none (FaultyLabel kind) t waiting e = cc
range_none (Faulty kind w) t waiting e = cc

wide_is : (b : Bool) (p : Placed) (t : Standing) (waiting : Option Waiting) → if_wide b p ≡ Stands t waiting → p ≡ Stands t waiting
wide_is true p t waiting e = absurd (range_none p t waiting e)
wide_is false p t waiting e = e

bad_is : (b : Bool) (p : Placed) (t : Standing) (waiting : Option Waiting) → (if b then Faulty fault.Token None else p) ≡ Stands t waiting → p ≡ Stands t waiting
bad_is true p t waiting e = cc
bad_is false p t waiting e = e

listing_is : (b bad wide : Bool) (p : Placed) (t : Standing) (waiting : Option Waiting) → (if b then p else (if bad then Faulty fault.Token None else if_wide wide p)) ≡ Stands t waiting → p ≡ Stands t waiting
listing_is true bad wide p t waiting e = e
listing_is false bad wide p t waiting e = wide_is wide p t waiting (bad_is bad (if_wide wide p) t waiting e)

pub statement_goes : (origin : Origin) (line : List ℕ) (s t : Standing) (waiting : Option Waiting) → IsCounted s → placed origin line s ≡ Stands t waiting → Goes s t
unfolding placed
statement_goes origin line s t waiting c e =
    let pieces : List Piece = pieces_of s.dialect line in
    let p : Parsed = parsed (map token_of pieces) in
    stated_goes origin line p s t waiting c (listing_is (is_listing s.dialect line p.what) (list_any is_bad pieces) (list_any is_wide pieces) (stated origin line p s) t waiting e)
