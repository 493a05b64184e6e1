-- The assignment that a statement is comes from this statement.
use Rattle.std.proofs.Common.{◌≡◌, ℕ, Bool, true, false, cond, List, Option, Some, None, Result, Ok, Err, refl, map}
use Rattle.std.specs.Prelude.{◌&&◌, not, IfSome, if◌then◌else◌}
use Rattle.std.specs.List.{list_any}
use Rattle.vax_asm.specs.Placing.{FaultyLabel, Faulty, Placed, Stands, also, behind_label, beside, body_stated, if_wide, is_bad, is_listing, is_wide, placed, placed_as, placed_by, stated, stated_by, token_of, waiting_in, with_range}
use Rattle.vax_dialect.specs.Differences.{assigns_places}
use Rattle.vax_asm_first.specs.Fixups.{Assignment as Waiting}
use Rattle.vax_asm_first.specs.Progress.{Site, site_of}
use Rattle.vax_asm_first.specs.Standing.{Standing, Told, told}
use Rattle.vax_asm_first.specs.declared.types.Origin.{Origin}
use Rattle.vax_asm_labels.specs.Naming.{Assigned, assignment_stated, is_place, label_stated, name_in, name_assigned, named_assignment, not_assigned, place_assigned, waiting, waiting_as, waiting_by, without_waiting}
use Rattle.vax_asm_names.specs.declared.types.Duplicate.{Duplicate}
use Rattle.vax_asm_scope.specs.Scope.{Scope, assigned, definition_of, entry, is_local}
use Rattle.vax_asm_statement.specs.Reading.{Assignment, Malformed, Nothing, Operation, Parsed, What, parsed}
use Rattle.vax_asm_statement.specs.declared.reading.Label.{Label}
use Rattle.vax_asm_values.specs.Values.{Written}
use Rattle.vax_lex.specs.Grammar.{symbols_of}
use Rattle.vax_lex.specs.Tokens.{pieces_of}
use Rattle.vax_lex.specs.declared.token.Piece.{Piece}
use Rattle.vax_lex.specs.declared.token.Token.{Token}
use Rattle.vax_macro.specs.declared.error.FaultKind.{FaultKind}
use Rattle.vax_macro.specs.declared.error.FaultKind.TheVariants as fault

abbrev pub ComesFrom : Origin → Option Waiting → Type 0
ComesFrom origin o = IfSome o (λ w. w.origin ≡ origin)

as_from : (origin : Origin) (definition : ℕ) (o : Option Written) → ComesFrom origin (waiting_as origin definition o)
as_from origin definition None = tt
as_from origin definition (Some w) = refl

by_from : (origin : Origin) (name : List ℕ) (t : Told) (r : Result Scope Duplicate) → ComesFrom origin (waiting_by origin name t r)
by_from origin name t (Ok scope) = as_from origin (definition_of name scope) (waiting t.value t.written)
by_from origin name t (Err e) = tt

name_from : (site : Site) (global : Bool) (name : List ℕ) (tokens : List Token) (s : Standing) → ComesFrom site.origin (name_assigned site global name tokens s).waiting
name_from site global name tokens s =
    let t : Told = told site.dialect site.here (symbols_of site.line tokens) (entry name s.scope).scope in
    by_from site.origin name t (assigned name t.written t.scope)

either_from : (b : Bool) (origin : Origin) (x y : Assigned) → ComesFrom origin x.waiting → ComesFrom origin y.waiting → ComesFrom origin (let z : Assigned = cond b x y in z).waiting
either_from true origin x y h k = h
either_from false origin x y h k = k

named_from : (site : Site) (global : Bool) (name : List ℕ) (tokens : List Token) (s : Standing) → ComesFrom site.origin (named_assignment site global name tokens s).waiting
named_from site global name tokens s =
    let rest : Assigned = if is_local name then not_assigned fault.Form else name_assigned site global name tokens s in
    either_from (is_place name) site.origin (without_waiting (place_assigned (assigns_places s.dialect && not global) site tokens s)) rest tt
    (either_from (is_local name) site.origin (not_assigned fault.Form) (name_assigned site global name tokens s) tt (name_from site global name tokens s))

assignment_from : (origin : Origin) (line : List ℕ) (name : Token) (global : Bool) (tokens : List Token) (s : Standing) → ComesFrom origin (assignment_stated origin line name global tokens s).waiting
unfolding assignment_stated
assignment_from origin line name global tokens s = named_from (site_of origin line s) global (name_in line name) tokens s

body_from : (origin : Origin) (line : List ℕ) (what : What) (s : Standing) → ComesFrom origin (body_stated origin line what s).waiting
unfolding body_stated
body_from origin line Nothing s = tt
body_from origin line (Assignment name global tokens) s = assignment_from origin line name global tokens s
body_from origin line (Operation name tokens) s = tt
body_from origin line Malformed s = tt

alone_from : (origin : Origin) (r : Result Standing FaultKind) (w : Option Waiting) → ComesFrom origin w → ComesFrom origin (waiting_in (placed_by r w))
alone_from origin (Ok s) w h = h
alone_from origin (Err kind) w h = h

also_from : (origin : Origin) (kind : FaultKind) (r : Result Standing FaultKind) (w : Option Waiting) → ComesFrom origin w → ComesFrom origin (waiting_in (also kind r w))
also_from origin kind (Ok s) w h = h
also_from origin kind (Err other) w h = h

beside_from : (origin : Origin) (kind : FaultKind) (what : What) (rest : Assigned) → ComesFrom origin rest.waiting → ComesFrom origin (waiting_in (beside kind what rest))
beside_from origin kind Nothing rest h = tt
beside_from origin kind (Assignment name global tokens) rest h = also_from origin kind rest.result rest.waiting h
beside_from origin kind (Operation name tokens) rest h = also_from origin kind rest.result rest.waiting h
beside_from origin kind Malformed rest h = also_from origin kind rest.result rest.waiting h

behind_from : (origin : Origin) (line : List ℕ) (what : What) (s : Standing) (r : Result Standing FaultKind) → ComesFrom origin (waiting_in (behind_label origin line what s r))
behind_from origin line what s (Ok t) = alone_from origin (body_stated origin line what t).result (body_stated origin line what t).waiting (body_from origin line what t)
behind_from origin line what s (Err kind) = beside_from origin kind what (body_stated origin line what s) (body_from origin line what s)

by_label_from : (origin : Origin) (line : List ℕ) (label : Option Label) (what : What) (s : Standing) → ComesFrom origin (waiting_in (stated_by origin line label what s))
by_label_from origin line None what s = alone_from origin (body_stated origin line what s).result (body_stated origin line what s).waiting (body_from origin line what s)
by_label_from origin line (Some label) what s = behind_from origin line what s (label_stated line label s)

stated_from : (origin : Origin) (line : List ℕ) (p : Parsed) (s : Standing) → ComesFrom origin (waiting_in (stated origin line p s))
unfolding stated
stated_from origin line p s = by_label_from origin line p.label p.what s

range_from : (origin : Origin) (p : Placed) → ComesFrom origin (waiting_in p) → ComesFrom origin (waiting_in (with_range p))
range_from origin (Stands s w) h = h
range_from origin (FaultyLabel kind) h = tt
range_from origin (Faulty kind w) h = h

wide_from : (b : Bool) (origin : Origin) (p : Placed) → ComesFrom origin (waiting_in p) → ComesFrom origin (waiting_in (if_wide b p))
wide_from true origin p h = range_from origin p h
wide_from false origin p h = h

choice_from : (b : Bool) (origin : Origin) (p q : Placed) → ComesFrom origin (waiting_in p) → ComesFrom origin (waiting_in q) → ComesFrom origin (waiting_in (cond b p q))
choice_from true origin p q h k = h
choice_from false origin p q h k = k

as_placed_from : (origin : Origin) (line : List ℕ) (pieces : List Piece) (p : Parsed) (s : Standing) → ComesFrom origin (waiting_in (placed_as origin line pieces p s))
as_placed_from origin line pieces p s =
    let whole : Placed = stated origin line p s in
    let here = stated_from origin line p s in
    choice_from (is_listing s.dialect line p.what) origin whole (if list_any is_bad pieces then Faulty fault.Token None else if_wide (list_any is_wide pieces) whole) here
    (choice_from (list_any is_bad pieces) origin (Faulty fault.Token None) (if_wide (list_any is_wide pieces) whole) tt (wide_from (list_any is_wide pieces) origin whole here))

pub placed_from : (origin : Origin) (line : List ℕ) (s : Standing) → ComesFrom origin (waiting_in (placed origin line s))
unfolding placed
placed_from origin line s = as_placed_from origin line (pieces_of s.dialect line) (parsed (map token_of (pieces_of s.dialect line))) s
