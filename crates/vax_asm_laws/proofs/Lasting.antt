-- Definitions that are there stay.
use Rattle.std.proofs.Common.{◌≡◌, ◌⊎◌, ◌+◌, ℕ, Bool, true, false, cond, List, [], ◌∷◌, ◌++◌, length, Option, Some, None, Result, Ok, Err, inl, inr, refl, sym, ap, subst, ◌∙◌}
use Rattle.std.proofs.lemmas.Bool.{cases_eq, cases_lt}
use Rattle.std.proofs.lemmas.List.{get_or_append_left, get_or_past, get_or-set_other}
use Rattle.std.specs.List.{list_any}
use Rattle.std.specs.Prelude.{◌==◌, ◌-◌, ◌&&◌, ◌^◌, not, codes, if◌then◌else◌, map, nat_lt, slice_set}
use Rattle.std.specs.Str.{bytes_eq}
use Rattle.vax_asm.specs.Placing.{FaultyLabel, Faulty, Placed, Stands, also, behind_label, beside, body_stated, directed, directive_named, if_wide, instructed, instruction_named, is_bad, is_listing, is_wide, operated_by, placed, placed_by, stated, stated_by, token_of, type_assigned, type_by, type_of_operand, with_range}
use Rattle.vax_asm.specs.Walk.{Assembly}
use Rattle.vax_asm_data.specs.Data.{Ending, Plain, Counted_first, Zero_last, Described, address_stated, addresses_stated, align_by, align_stated, align_to, at_most_one, before_pieces, behind_pieces, boundary, boundary_named, count_stated, count_within, data_stated, descriptor_head, descriptor_stated, even_stated, expression_stated, forward, is_nothing, item_stated, items_stated, odd_stated, one_or_two, behind_fill, byte_of, fill_by, fill_where, filled_by, filling_with, piece_stated, pieces_length, pieces_stated, placed_item, room, room_by, space_stated, text_by, text_stated, moved, unless_none, zero_stated}
use Rattle.vax_asm_data.specs.Masks.{masked_stated, masked_told}
use Rattle.vax_dialect.specs.Differences.{assigns_places, has_empty_items, has_further_directives, has_unnamed_psect}
use Rattle.vax_asm_encode.specs.declared.operand.DataKind.{DataKind}
use Rattle.vax_asm_encode.specs.declared.operand.DataKind.TheVariants.{Number}
use Rattle.vax_asm_encode.specs.declared.operand.Operand.{Operand}
use Rattle.vax_dialect.specs.declared.Dialect.{Dialect}
use Rattle.vax_asm_first.specs.Fixups.{Assignment as Waiting, Filling, Fixup}
use Rattle.vax_asm_first.specs.Progress.{Counted, Progress, Site, added, after_change, begun, counted, done, done_by, joined, site_of}
use Rattle.vax_asm_first.specs.Standing.{Saved, Standing, block_of, here_at, here_in, last_of, misplaces, set_back, told, with_scope, with_sections, without_last}
use Rattle.vax_asm_first.specs.declared.types.Origin.{Origin}
use Rattle.vax_asm_instruction.specs.Placing.{by_default, has_expression, operand_as, operand_at}
use Rattle.vax_asm_instruction.specs.Stating as instruction
use Rattle.vax_asm_instruction.specs.Stating.{Reached, fault_at, front_stated, if_counted, instruction_stated, opcode_stated, operand_stated, operands_stated, prepared, read_of, reference_by, reference_stated, referred, referred_kind, site_for}
use Rattle.vax_asm_instruction.specs.Typing.{typed_operand}
use Rattle.vax_asm_labels.specs.Contexts.{block_restored, block_wanted, restored_by, restored_stated, saved_by, saved_stated}
use Rattle.vax_asm_labels.specs.Defaults.{default_at, default_stated, displaced_by}
use Rattle.vax_isa.specs.declared.actions.Narrow.{Narrow}
use Rattle.vax_asm_labels.specs.Functions.{all_switched, function_at, functions_stated, switched, then_switched}
use Rattle.vax_asm_labels.specs.declared.switches.Function.{Function}
use Rattle.vax_asm_labels.specs.declared.switches.Function.TheVariants.{Idle, Externals, Absolute, LongBlocks}
use Rattle.vax_asm_labels.specs.Naming.{next_block, assigned_by, assignment_stated, attributes_from, begins, begins_at, begins_with, chosen, defined, end_by, end_stated, entry_named, entry_stated, is_place, label_stated, local_stated, mask_kept, name_assigned, name_in, name_of, named, names_from, names_stated, nothing_said, not_assigned, noted_unless, noted_where, section_by, section_chosen, section_stated, moved_to, place_assigned, place_moved, shared, target, unnamed_chosen, without_waiting, symbol_stated, two_alone, with_name}
use Rattle.vax_asm_labels.specs.Masks.{key_of, mask_as, mask_by, mask_named, mask_stated}
use Rattle.vax_asm_labels.specs.Naming as naming
use Rattle.vax_asm_labels.specs.Numbers.{number_at, number_by, number_stated}
use Rattle.vax_asm_names.specs.Names as table
use Rattle.vax_asm_names.specs.declared.types.Duplicate.{Duplicate}
use Rattle.vax_asm_names.specs.declared.types.Linkage.{Linkage}
use Rattle.vax_asm_names.specs.declared.types.Linkage.TheVariants as links
use Rattle.vax_asm_names.specs.declared.types.Local.{Local}
use Rattle.vax_asm_scope.specs.Masks.{in_masks, mask_labelled, mask_meant, returned}
use Rattle.vax_asm_scope.specs.Scope.{Bound, Entry, Meant, Scope, assign_to, assigned, bind_all, closed, entry, entry_by, is_external, is_local, labelled, linked, misses, labelled_locally, local_by, mean, mean_here, mean_local, mean_name, opened_if_fresh, renamed, with_externals, external_at}
use Rattle.vax_asm_scope.specs.Used.{at_term, used}
use Rattle.vax_asm_sections.specs.Layout.{Bytes, Part, Sections, Zeros, aligned, current_of, gap, is_absolute, place_in as next_place, put, selected}
use Rattle.vax_asm_sections.specs.declared.types.Attributes.{Attributes}
use Rattle.vax_asm_sections.specs.declared.types.Refusal.{Refusal}
use Rattle.vax_asm_statement.specs.Items.{Item, Piece, Characters, Value as ByteValue, item_of, name_alone, pieces_of as text_pieces, whole}
use Rattle.vax_asm_statement.specs.Modes as modes
use Rattle.vax_asm_statement.specs.Parts.{parts}
use Rattle.vax_asm_statement.specs.Reading.{Assignment, Malformed, Nothing, Operation, Parsed, What, parsed}
use Rattle.vax_asm_statement.specs.declared.directives.Directive.{Directive}
use Rattle.vax_asm_statement.specs.declared.directives.Directive.TheVariants as directive
use Rattle.vax_asm_statement.specs.declared.directives.Referring.{Referring}
use Rattle.vax_asm_statement.specs.declared.directives.Referring.TheVariants as referring
use Rattle.vax_asm_statement.specs.declared.reading.Label.{Label}
use Rattle.vax_asm_values.specs.Values.{Given, Source, ToCome, Worked, is_to_come, source_at, with_source}
use Rattle.vax_isa.specs.Instructions.{Instruction}
use Rattle.vax_isa.specs.Rows.{Plain as Row, row_of}
use Rattle.vax_isa.specs.declared.OperandKind.{OperandKind}
use Rattle.vax_lex.specs.Grammar.{Symbol, symbols_of}
use Rattle.vax_lex.specs.Tokens.{pieces_of, token_text}
use Rattle.vax_lex.specs.declared.token.Token.{Token}
use Rattle.vax_lex.specs.declared.value.ExprError.{ExprError}
use Rattle.vax_lex.specs.declared.value.Value.{Value}
use Rattle.vax_lex.specs.declared.value.Value.TheVariants as value
use Rattle.vax_macro.specs.declared.error.FaultKind.{FaultKind}
use Rattle.vax_macro.specs.declared.error.FaultKind.TheVariants as fault
use Rattle.vax_word.specs.declared.Size.TheVariants as size
use Rattle.vax_asm_laws.specs.Leading.{Leads, Line, with_statement}
use Rattle.vax_asm_laws.specs.Solving.{Stay}

abbrev Lasts : Scope → Scope → Type 0
Lasts s t = Stay s.sources t.sources

stay_same : (xs : List Source) → Stay xs xs
stay_same xs i = inr refl

stay_by : (xs ys zs : List Source) (i : ℕ) → (source_at xs i ≡ ToCome) ⊎ (source_at ys i ≡ source_at xs i) → (source_at ys i ≡ ToCome) ⊎ (source_at zs i ≡ source_at ys i) → (source_at xs i ≡ ToCome) ⊎ (source_at zs i ≡ source_at xs i)
stay_by xs ys zs i (inl none) b = inl none
stay_by xs ys zs i (inr same) (inl none) = inl (sym same ∙ none)
stay_by xs ys zs i (inr same) (inr more) = inr (more ∙ same)

stay_then : (xs ys zs : List Source) → Stay xs ys → Stay ys zs → Stay xs zs
stay_then xs ys zs a b i = stay_by xs ys zs i (a i) (b i)

opens : (xs : List Source) → Stay xs (xs ++ ToCome ∷ [])
opens xs i = elim (cases_lt i (length xs)) [
  | inl low ↦ inr (get_or_append_left xs (ToCome ∷ []) ToCome i low)
  | inr high ↦ inl (get_or_past xs i ToCome high)
]

to_come : (s : Source) → is_to_come s ≡ true → s ≡ ToCome
to_come ToCome e = refl
to_come (Given v) e = cc
to_come (Worked w) e = cc

second : (a b : Bool) → (a && b) ≡ true → b ≡ true
second true b e = e
second false b e = cc

fills_by : (d : ℕ) (s : Source) (xs : List Source) (b : Bool) → (nat_lt d (length xs) && is_to_come (source_at xs d)) ≡ b → Stay xs (if b then slice_set xs d s else xs)
fills_by d s xs true e i = elim (cases_eq i d) [
  | inl same ↦ inl (ap (source_at xs) same ∙ to_come (source_at xs d) (second (nat_lt d (length xs)) (is_to_come (source_at xs d)) e))
  | inr other ↦ inr (get_or-set_other xs d i s ToCome other)
]
fills_by d s xs false e i = inr refl

fills : (d : ℕ) (s : Source) (xs : List Source) → Stay xs (with_source d s xs)
fills d s xs = fills_by d s xs (nat_lt d (length xs) && is_to_come (source_at xs d)) refl

fresh_by : (b : Bool) (xs : List Source) → Stay xs (if b then xs ++ ToCome ∷ [] else xs)
fresh_by true xs = opens xs
fresh_by false xs = stay_same xs

fresh : (d : ℕ) (xs : List Source) → Stay xs (opened_if_fresh d xs)
fresh d xs = fresh_by (d == length xs) xs

-- ---- names

entry_by_lasts : (text : List ℕ) (s : Scope) (o : Option ℕ) → Lasts s (entry_by text s o).scope
entry_by_lasts text s (Some i) = stay_same s.sources
entry_by_lasts text s None = opens s.sources

entry_lasts : (text : List ℕ) (s : Scope) → Lasts s (entry text s).scope
entry_lasts text s = entry_by_lasts text s (s.names.numbers text)

local_lasts : (text : List ℕ) (s : Scope) (o : Option Local) → Lasts s (mean_local text s o).scope
local_lasts text s (Some l) = stay_same s.sources
local_lasts text s None = opens s.sources

here_lasts : (here : Value) (s : Scope) → Lasts s (mean_here here s).scope
here_lasts here s = stay_then s.sources (s.sources ++ ToCome ∷ []) (mean_here here s).scope.sources (opens s.sources) (fills (length s.sources) (Given here) (s.sources ++ ToCome ∷ []))

mean_by : (dot local : Bool) (here : Value) (text : List ℕ) (s : Scope) → Lasts s (if dot then mean_here here s else (if local then mean_local text s (table.locals_of s.names text) else mean_name (entry text s))).scope
mean_by true local here text s = here_lasts here s
mean_by false true here text s = local_lasts text s (table.locals_of s.names text)
mean_by false false here text s = entry_lasts text s

mean_lasts : (here : Value) (text : List ℕ) (s : Scope) → Lasts s (mean here text s).scope
mean_lasts here text s = mean_by (bytes_eq text (codes ".")) (is_local text) here text s

bound_lasts : (here : Value) (b : Bound) (texts : List (List ℕ)) → Lasts b.scope (bind_all here b texts).scope
bound_lasts here b [] = stay_same b.scope.sources
bound_lasts here b (text ∷ texts) =
    let next : Bound = record { names = b.names ++ record { name = text; definition = (mean here text b.scope).definition } ∷ []; scope = (mean here text b.scope).scope } in
    stay_then b.scope.sources next.scope.sources (bind_all here next texts).scope.sources (mean_lasts here text b.scope) (bound_lasts here next texts)

told_lasts : (dialect : Dialect) (here : Value) (symbols : List Symbol) (s : Scope) → Lasts s (told dialect here symbols s).scope
told_lasts dialect here symbols s = bound_lasts here (record { names = []; scope = s }) (used at_term symbols)

abbrev ScopeIn : Scope → Result Scope Duplicate → Type 0
ScopeIn s (Ok t) = Lasts s t
ScopeIn s (Err e) = Unit {0}

renamed_in : (s : Scope) (source : Source) (i : ℕ) (xs : List Source) (r : Result table.Names Duplicate) → Stay s.sources xs → ScopeIn s (renamed source i xs r)
renamed_in s source i xs (Ok n) h = stay_then s.sources xs (with_source (table.name_at n.all i).definition source xs) h (fills (table.name_at n.all i).definition source xs)
renamed_in s source i xs (Err e) h = tt

assigned_in : (s : Scope) (source : Source) (i : ℕ) (xs : List Source) (r : Result table.Names Duplicate) → Stay s.sources xs → ScopeIn s (assign_to source i xs r)
assigned_in s source i xs (Ok n) h =
    let d : ℕ = (table.name_at n.all i).definition in
    stay_then s.sources xs (with_source d source (opened_if_fresh d xs)) h (stay_then xs (opened_if_fresh d xs) (with_source d source (opened_if_fresh d xs)) (fresh d xs) (fills d source (opened_if_fresh d xs)))
assigned_in s source i xs (Err e) h = tt

labelled_lasts : (text : List ℕ) (v : Value) (s : Scope) → ScopeIn s (labelled text v s)
labelled_lasts text v s = let e : Entry = entry text s in
    renamed_in s (Given v) e.number e.scope.sources (table.changed e.number e.scope.names (table.labelled (table.name_at e.scope.names.all e.number))) (entry_lasts text s)

assigned_lasts : (text : List ℕ) (w : _) (s : Scope) → ScopeIn s (assigned text w s)
assigned_lasts text w s = let e : Entry = entry text s in assigned_in s _ e.number e.scope.sources _ (entry_lasts text s)

locally_by : (text : List ℕ) (v : Value) (s : Scope) (r : Result Local Duplicate) → ScopeIn s (local_by text v s r)
locally_by text v s (Ok l) =
    stay_then s.sources (opened_if_fresh l.definition s.sources) (with_source l.definition (Given v) (opened_if_fresh l.definition s.sources)) (fresh l.definition s.sources) (fills l.definition (Given v) (opened_if_fresh l.definition s.sources))
locally_by text v s (Err e) = tt

locally_lasts : (text : List ℕ) (v : Value) (s : Scope) → ScopeIn s (labelled_locally text v s)
locally_lasts text v s = locally_by text v s (table.labelled_locally (length s.sources) (table.locals_of s.names text))

shared_lasts : (global : Bool) (name : List ℕ) (s : Scope) → Lasts s (shared global name s)
shared_lasts true name s = entry_lasts name s
shared_lasts false name s = stay_same s.sources

block_lasts : (keeps : Bool) (s t : Scope) → Lasts s t → Lasts s (next_block keeps t)
block_lasts true s t h = h
block_lasts false s t h = h

begins_in : (keeps global : Bool) (name : List ℕ) (s : Scope) (r : Result Scope Duplicate) → ScopeIn s r → ScopeIn s (begins keeps global name r)
begins_in keeps global name s (Ok t) h = block_lasts keeps s (shared global name t) (stay_then s.sources t.sources (shared global name t).sources h (shared_lasts global name t))
begins_in keeps global name s (Err e) h = tt

-- ---- what statements leave

abbrev StandIn : Standing → Result Standing FaultKind → Type 0
StandIn s (Ok t) = Lasts s.scope t.scope
StandIn s (Err kind) = Unit {0}

stand_then : (s t : Standing) (r : Result Standing FaultKind) → Lasts s.scope t.scope → StandIn t r → StandIn s r
stand_then s t (Ok u) a b = stay_then s.scope.sources t.scope.sources u.scope.sources a b
stand_then s t (Err kind) a b = tt

sections_in : (s : Standing) (r : Result (Sections Fixup) Refusal) → StandIn s (with_sections s r)
sections_in s (Ok x) = stay_same s.scope.sources
sections_in s (Err e) = tt

defined_in : (s : Standing) (r : Result Scope Duplicate) → ScopeIn s.scope r → StandIn s (defined s r)
defined_in s (Ok t) h = h
defined_in s (Err e) h = tt

changed_lasts : (s : Standing) (r : Result Standing FaultKind) → StandIn s r → Lasts s.scope (after_change s r).standing.scope
changed_lasts s (Ok t) h = h
changed_lasts s (Err kind) h = stay_same s.scope.sources

added_lasts : (n : ℕ) (p : Part Fixup) (s : Standing) → Lasts s.scope (added n p s).standing.scope
added_lasts n p s = changed_lasts s (with_sections s (put n p s.sections)) (sections_in s (put n p s.sections))

done_in_by : (s : Standing) (f : Option FaultKind) (t : Standing) → Lasts s.scope t.scope → StandIn s (done_by f t)
done_in_by s None t h = h
done_in_by s (Some kind) t h = tt

done_in : (s : Standing) (p : Progress) → Lasts s.scope p.standing.scope → StandIn s (done p)
done_in s p h = done_in_by s p.fault p.standing h

none_in : (tokens : List Token) (s : Standing) (r : Result Standing FaultKind) → StandIn s r → StandIn s (unless_none tokens r)
none_in [] s r h = tt
none_in (t ∷ tokens) s r h = h

-- ---- data

counted_lasts : (site : Site) (o : Option (List Token)) (s : Scope) → Lasts s (counted site o s).scope
counted_lasts site None s = stay_same s.sources
counted_lasts site (Some tokens) s = told_lasts site.dialect site.here (symbols_of site.line tokens) s

placed_lasts : (kind : DataKind) (site : Site) (before : Option FaultKind) (n : Result ℕ FaultKind) (filling : Filling) (s : Standing) → Lasts s.scope (placed_item kind site before n filling s).standing.scope
placed_lasts kind site None (Ok n) filling s = added_lasts _ _ s
placed_lasts kind site (Some f) (Ok n) filling s = stay_same s.scope.sources
placed_lasts kind site None (Err f) filling s = stay_same s.scope.sources
placed_lasts kind site (Some e) (Err f) filling s = stay_same s.scope.sources

zero_lasts : (kind : DataKind) (site : Site) (item : Item) (s : Standing) → Lasts s.scope (zero_stated kind site item s).standing.scope
zero_lasts kind site item s =
    let c = counted site item.count s.scope in
    stay_then s.scope.sources c.scope.sources (zero_stated kind site item s).standing.scope.sources (counted_lasts site item.count s.scope) (placed_lasts kind site None c.number _ (with_scope c.scope s))

expression_lasts : (kind : DataKind) (site : Site) (item : Item) (s : Standing) → Lasts s.scope (expression_stated kind site item s).standing.scope
expression_lasts kind site item s =
    let here : Value = here_at s.dialect site.here (here_in s.sections) in
    let symbols = symbols_of site.line item.expression in
    let t = told site.dialect here symbols s.scope in
    let c = counted site item.count t.scope in
    stay_then s.scope.sources t.scope.sources (expression_stated kind site item s).standing.scope.sources (told_lasts site.dialect here symbols s.scope)
    (stay_then t.scope.sources c.scope.sources (expression_stated kind site item s).standing.scope.sources (counted_lasts site item.count t.scope) (placed_lasts kind site _ c.number _ (with_scope c.scope s)))

either_lasts : (b : Bool) (s : Scope) (p q : Progress) → Lasts s p.standing.scope → Lasts s q.standing.scope → Lasts s (cond b p q).standing.scope
either_lasts true s p q h i = h
either_lasts false s p q h i = i

item_lasts : (kind : DataKind) (site : Site) (item : Item) (s : Standing) → Lasts s.scope (item_stated kind site item s).standing.scope
item_lasts kind site item s =
    either_lasts (is_nothing item.expression && has_empty_items s.dialect) s.scope (zero_stated kind site item s) (expression_stated kind site item s)
    (zero_lasts kind site item s) (expression_lasts kind site item s)

items_last : (kind : DataKind) (site : Site) (items : List Item) (p : Progress) → Lasts p.standing.scope (items_stated kind site items p).standing.scope
items_last kind site [] p = stay_same p.standing.scope.sources
items_last kind site (item ∷ items) p =
    let one : Progress = item_stated kind site item p.standing in
    stay_then p.standing.scope.sources one.standing.scope.sources (items_stated kind site items (joined p.fault one)).standing.scope.sources (item_lasts kind site item p.standing) (items_last kind site items (joined p.fault one))

piece_lasts : (site : Site) (piece : Piece) (s : Standing) → Lasts s.scope (piece_stated site piece s).standing.scope
piece_lasts site (Characters t) s = added_lasts _ _ s
piece_lasts site (ByteValue tokens) s = item_lasts (Number size.B) site (whole tokens) s

pieces_last : (site : Site) (pieces : List Piece) (p : Progress) → Lasts p.standing.scope (pieces_stated site pieces p).standing.scope
pieces_last site [] p = stay_same p.standing.scope.sources
pieces_last site (piece ∷ pieces) p =
    let one : Progress = piece_stated site piece p.standing in
    stay_then p.standing.scope.sources one.standing.scope.sources (pieces_stated site pieces (joined p.fault one)).standing.scope.sources (piece_lasts site piece p.standing) (pieces_last site pieces (joined p.fault one))

count_lasts : (o : Option ℕ) (s : Standing) → Lasts s.scope (count_stated o s).standing.scope
count_lasts (Some n) s = added_lasts _ _ s
count_lasts None s = stay_same s.scope.sources

descriptor_lasts : (o : Option ℕ) (site : Site) (s : Standing) → Lasts s.scope (descriptor_stated o site s).standing.scope
descriptor_lasts (Some n) site s =
    let first : Progress = added 4 (Bytes (descriptor_head n)) s in
    stay_then s.scope.sources first.standing.scope.sources (address_stated site first).standing.scope.sources (added_lasts _ _ s) (added_lasts _ _ first.standing)
descriptor_lasts None site s = stay_same s.scope.sources

before_lasts : (ending : Ending) (site : Site) (n : ℕ) (s : Standing) → Lasts s.scope (before_pieces ending site n s).standing.scope
before_lasts Plain site n s = stay_same s.scope.sources
before_lasts Counted_first site n s = count_lasts (count_within 255 n) s
before_lasts Zero_last site n s = stay_same s.scope.sources
before_lasts Described site n s = descriptor_lasts (count_within 65535 n) site s

behind_lasts : (ending : Ending) (p : Progress) → Lasts p.standing.scope (behind_pieces ending p).standing.scope
behind_lasts Plain p = stay_same p.standing.scope.sources
behind_lasts Counted_first p = stay_same p.standing.scope.sources
behind_lasts Described p = stay_same p.standing.scope.sources
behind_lasts Zero_last p = added_lasts 1 (Zeros 1) p.standing

text_in_by : (ending : Ending) (site : Site) (s : Standing) (o : Option (List Piece)) → StandIn s (text_by ending site s o)
text_in_by ending site s None = tt
text_in_by ending site s (Some pieces) =
    let first : Progress = before_pieces ending site (pieces_length site.line pieces) s in
    let middle : Progress = pieces_stated site pieces first in
    let last : Progress = behind_pieces ending middle in
    done_in s last
    (stay_then s.scope.sources first.standing.scope.sources last.standing.scope.sources (before_lasts ending site (pieces_length site.line pieces) s)
    (stay_then first.standing.scope.sources middle.standing.scope.sources last.standing.scope.sources (pieces_last site pieces first) (behind_lasts ending middle)))

room_in : (k : DataKind) (s : Standing) (n : Result ℕ FaultKind) → StandIn s (room k s n)
room_in k s (Ok n) = sections_in s _
room_in k s (Err kind) = tt

most_in : (found : List (List Token)) (s : Standing) (stated : Option (List Token) → Result Standing FaultKind) → ((o : Option (List Token)) → StandIn s (stated o)) → StandIn s (at_most_one found stated)
most_in [] s stated h = h None
most_in (one ∷ []) s stated h = h (Some one)
most_in (one ∷ two ∷ more) s stated h = tt

one_or_two_in : (found : List (List Token)) (s : Standing) (stated : List Token → Result Standing FaultKind) (both : List Token → List Token → Result Standing FaultKind)
    → ((o : List Token) → StandIn s (stated o)) → ((o p : List Token) → StandIn s (both o p)) → StandIn s (one_or_two found stated both)
one_or_two_in [] s stated both h g = tt
one_or_two_in (one ∷ []) s stated both h g = h one
one_or_two_in (one ∷ two ∷ []) s stated both h g = g one two
one_or_two_in (one ∷ two ∷ three ∷ more) s stated both h g = tt

boundary_lasts : (site : Site) (tokens : List Token) (o : Option ℕ) (s : Scope) → Lasts s (boundary site tokens o s).scope
boundary_lasts site tokens (Some k) s = stay_same s.sources
boundary_lasts site tokens None s = told_lasts site.dialect site.here (symbols_of site.line tokens) s

align_in : (s : Standing) (n : Result ℕ FaultKind) → StandIn s (align_to s n)
align_in s (Ok k) = sections_in s (aligned k s.sections)
align_in s (Err kind) = tt

behind_fill_in : (k : ℕ) (s : Standing) (r : Result Standing FaultKind) → StandIn s r → StandIn s (behind_fill k r)
behind_fill_in k s (Ok t) h = stand_then s t (with_sections t (aligned k t.sections)) h (sections_in t (aligned k t.sections))
behind_fill_in k s (Err kind) h = tt

filled_in : (s : Standing) (boundary byte : Result ℕ FaultKind) → StandIn s (filled_by s boundary byte)
filled_in s (Ok k) (Ok byte) =
    let n : ℕ = gap (next_place (current_of s.sections)) (2 ^ k) in
    let found : Result (Sections Fixup) Refusal = put n (filling_with byte n) s.sections in
    behind_fill_in k s (with_sections s found) (sections_in s found)
filled_in s (Ok k) (Err kind) = tt
filled_in s (Err kind) (Ok byte) = tt
filled_in s (Err kind) (Err other) = tt

fill_in : (site : Site) (tokens byte : List Token) (s : Standing) → StandIn s (fill_by site tokens byte s)
fill_in site tokens byte s =
    let b = boundary site tokens (boundary_named site.line tokens) s.scope in
    let c = counted site (Some byte) b.scope in
    stand_then s (with_scope c.scope s) (filled_by (with_scope c.scope s) b.number (byte_of c.number))
    (stay_then s.scope.sources b.scope.sources c.scope.sources (boundary_lasts site tokens (boundary_named site.line tokens) s.scope) (counted_lasts site (Some byte) b.scope))
    (filled_in (with_scope c.scope s) b.number (byte_of c.number))

where_in : (may : Bool) (site : Site) (tokens byte : List Token) (s : Standing) → StandIn s (fill_where may site tokens byte s)
where_in true site tokens byte s = fill_in site tokens byte s
where_in false site tokens byte s = tt

even_in : (tokens : List Token) (s : Standing) → StandIn s (even_stated tokens s)
unfolding even_stated
even_in [] s = sections_in s (aligned 1 s.sections)
even_in (t ∷ tokens) s = tt

odd_in : (tokens : List Token) (s : Standing) → StandIn s (odd_stated tokens s)
unfolding odd_stated
odd_in [] s = sections_in s _
odd_in (t ∷ tokens) s = tt

-- ---- sections, entries, names, the end

chosen_in : (s : Standing) (r : Result (Sections Fixup) Refusal) → StandIn s (chosen s r)
chosen_in s (Ok x) = block_lasts s.keeps_block s.scope s.scope (stay_same s.scope.sources)
chosen_in s (Err e) = tt

section_in_by : (name : Option (List ℕ)) (a : Option Attributes) (s : Standing) → StandIn s (section_chosen name a s)
section_in_by (Some name) (Some a) s = chosen_in s (selected name a s.sections)
section_in_by (Some name) None s = tt
section_in_by None (Some a) s = tt
section_in_by None None s = tt

unnamed_in : (b : Bool) (s : Standing) → StandIn s (unnamed_chosen b s)
unnamed_in true s = section_in_by (Some []) (Some nothing_said) s
unnamed_in false s = tt

section_in : (line : List ℕ) (found : List (List Token)) (s : Standing) → StandIn s (section_by line found s)
section_in line [] s = unnamed_in (has_unnamed_psect s.dialect) s
section_in line (name ∷ attributes) s = section_in_by (name_of line name) (attributes_from s.dialect line attributes (Some nothing_said)) s

displaced_in : (size : Option Narrow) (s : Standing) → StandIn s (displaced_by size s)
displaced_in (Some size) s = stay_same s.scope.sources
displaced_in None s = tt

aside_in : (b : Bool) (s u : Standing) → u.scope ≡ s.scope → StandIn s (if b then Ok u else Err fault.Depth)
aside_in true s u same = subst (λ (x : Scope). Lasts s.scope x) (sym same) (stay_same s.scope.sources)
aside_in false s u same = tt

saved_in : (wanted : Result Bool FaultKind) (s : Standing) → StandIn s (saved_by wanted s)
saved_in (Ok with_block) s =
    let context : Saved = record { section = (current_of s.sections).name; block = block_of with_block s } in
    aside_in (nat_lt (length s.saved) 31) s (record s { saved = s.saved ++ context ∷ [] }) refl
saved_in (Err kind) s = tt

block_in : (block : Option ℕ) (s : Standing) (r : Result Standing FaultKind) → StandIn s r → StandIn s (block_restored block r)
block_in (Some i) s (Ok u) h = h
block_in None s (Ok u) h = h
block_in (Some i) s (Err kind) h = tt
block_in None s (Err kind) h = tt

restored_in_by : (saved : Option Saved) (s : Standing) → StandIn s (restored_by saved s)
restored_in_by (Some saved) s = block_in saved.block s (section_chosen (Some saved.section) (Some nothing_said) s) (section_in_by (Some saved.section) (Some nothing_said) s)
restored_in_by None s = tt

restored_in : (tokens : List Token) (s : Standing) → StandIn s (restored_stated tokens s)
unfolding restored_stated
restored_in [] s = restored_in_by (last_of s.saved) (without_last s)
restored_in (x ∷ tokens) s = tt

symbol_in : (global : Bool) (name : List ℕ) (s : Standing) → StandIn s (symbol_stated global name s)
symbol_in global name s = defined_in s (begins s.keeps_block global name (labelled name (here_in s.sections) s.scope)) (begins_in s.keeps_block global name s.scope (labelled name (here_in s.sections) s.scope) (labelled_lasts name (here_in s.sections) s.scope))

returned_in : (block : ℕ) (s : Scope) (r : Result Scope Duplicate) → ScopeIn s r → ScopeIn s (returned block r)
returned_in block s (Ok t) h = h
returned_in block s (Err e) h = tt

mask_labelled_lasts : (entry : List ℕ) (v : Value) (s : Scope) → ScopeIn s (mask_labelled entry v s)
mask_labelled_lasts entry v s = returned_in s.names.block s (labelled_locally entry v (in_masks s)) (locally_lasts entry v (in_masks s))

kept_in : (name : List ℕ) (mask : Result Value ExprError) (s : Standing) → StandIn s (mask_kept name mask s)
kept_in name (Ok (value.Absolute n)) s = defined_in s (mask_labelled name (value.Absolute n) s.scope) (mask_labelled_lasts name (value.Absolute n) s.scope)
kept_in name (Ok (value.Section i n)) s = stay_same s.scope.sources
kept_in name (Ok (value.External i n)) s = stay_same s.scope.sources
kept_in name (Err e) s = stay_same s.scope.sources

unless_noted_in : (f : Option FaultKind) (site : Site) (name : List ℕ) (mask : List Token) (s : Standing) → StandIn s (noted_unless f site name mask s)
unless_noted_in (Some kind) site name mask s = tt
unless_noted_in None site name mask s =
    let w = told site.dialect site.here (symbols_of site.line mask) s.scope in
    stand_then s (with_scope w.scope s) (mask_kept name w.value (with_scope w.scope s)) (told_lasts site.dialect site.here (symbols_of site.line mask) s.scope) (kept_in name w.value (with_scope w.scope s))

where_noted_in : (b : Bool) (site : Site) (name : List ℕ) (mask : List Token) (s : Standing) (p : Progress) → Lasts s.scope p.standing.scope → StandIn s (noted_where b site name mask p)
where_noted_in true site name mask s p h = stand_then s p.standing (noted_unless p.fault site name mask p.standing) h (unless_noted_in p.fault site name mask p.standing)
where_noted_in false site name mask s p h = done_in s p h

entry_in : (site : Site) (name : Option (List ℕ)) (mask : List Token) (s : Standing) → StandIn s (entry_named site name mask s)
entry_in site (Some name) mask s =
    let first : Progress = after_change s (symbol_stated true name s) in
    let last : Progress = item_stated (Number size.W) site (whole mask) first.standing in
    where_noted_in (has_further_directives site.dialect) site name mask s (joined first.fault last) (stay_then s.scope.sources first.standing.scope.sources last.standing.scope.sources (changed_lasts s (symbol_stated true name s) (symbol_in true name s)) (item_lasts (Number size.W) site (whole mask) first.standing))
entry_in site None mask s = tt

two_in : (found : List (List Token)) (s : Standing) (stated : List Token → List Token → Result Standing FaultKind) → ((x y : List Token) → StandIn s (stated x y)) → StandIn s (two_alone found stated)
two_in [] s stated h = tt
two_in (one ∷ []) s stated h = tt
two_in (one ∷ two ∷ []) s stated h = h one two
two_in (one ∷ two ∷ three ∷ more) s stated h = tt

abbrev SomeIn : Scope → Option Scope → Type 0
SomeIn s (Some t) = Lasts s t
SomeIn s None = Unit {0}

with_name_in : (linkage : Linkage) (s : Scope) (name : Option (List ℕ)) (o : Option Scope) → SomeIn s o → SomeIn s (with_name linkage name o)
with_name_in linkage s (Some name) (Some t) h = stay_then s.sources t.sources (linked linkage name t).sources h (entry_lasts name t)
with_name_in linkage s (Some name) None h = tt
with_name_in linkage s None o h = tt

names_in : (linkage : Linkage) (line : List ℕ) (found : List (List Token)) (s : Scope) (o : Option Scope) → SomeIn s o → SomeIn s (names_from linkage line found o)
names_in linkage line [] s o h = h
names_in linkage line (part ∷ found) s o h = names_in linkage line found s (with_name linkage (name_of line part) o) (with_name_in linkage s (name_of line part) o h)

named_in : (s : Standing) (o : Option Scope) → SomeIn s.scope o → StandIn s (named s o)
named_in s (Some t) h = h
named_in s None h = tt

begins_with_in : (missing : Bool) (name : List ℕ) (e : Entry) (s : Standing) → Lasts s.scope e.scope → StandIn s (begins_with missing name e s)
begins_with_in true name e s h = tt
begins_with_in false name e s h = h

begins_at_in : (name : Option (List ℕ)) (s : Standing) → StandIn s (begins_at name s)
begins_at_in (Some name) s = let e : Entry = entry name s.scope in begins_with_in (misses name e.scope) name e s (entry_lasts name s.scope)
begins_at_in None s = tt

end_in : (line : List ℕ) (found : List (List Token)) (s : Standing) → StandIn s (end_by line found s)
end_in line [] s = stay_same s.scope.sources
end_in line (name ∷ []) s = begins_at_in (name_of line name) s
end_in line (name ∷ more ∷ others) s = tt

-- ---- instructions

prepared_by : (b misplaced : Bool) (site : Site) (o : modes.Operand) (s : Scope) → Lasts s (if b then instruction.with_told o misplaced (told site.dialect site.here (symbols_of site.line o.expression) s) else instruction.without_expression o s).scope
prepared_by true misplaced site o s = told_lasts site.dialect site.here (symbols_of site.line o.expression) s
prepared_by false misplaced site o s = stay_same s.sources

fixed_lasts : (site : Site) (kind : OperandKind) (o : Operand) (filling : Filling) (at : ℕ) (s : Standing) (f : Option FaultKind) → Lasts s.scope (instruction.fixed site kind o filling at s f).standing.scope
fixed_lasts site kind o filling at s None = added_lasts _ _ s
fixed_lasts site kind o filling at s (Some k) = stay_same s.scope.sources

stands_last : (site : Site) (kind : OperandKind) (p : instruction.Prepared) (at : ℕ) (s : Standing) (o : Option Operand) → Lasts s.scope (instruction.placed site kind p at s o).progress.standing.scope
stands_last site kind p at s (Some o) = fixed_lasts site kind o p.filling at s (fault_at kind o s.sections.current at p.addressed)
stands_last site kind p at s None = stay_same s.scope.sources

operand_lasts : (site : Site) (kind : OperandKind) (tokens : List Token) (at : ℕ) (s : Standing) → Lasts s.scope (operand_stated site kind tokens at s).progress.standing.scope
operand_lasts site kind tokens at s =
    let o : modes.Operand = operand_as s.absolute kind site.line tokens in
    let here : Site = site_for s at site in
    let p = prepared s.dialect here o s.scope in
    stay_then s.scope.sources p.scope.sources (operand_stated site kind tokens at s).progress.standing.scope.sources (prepared_by (has_expression o.mode) (misplaces s.dialect (symbols_of site.line o.expression)) here o s.scope)
    (stands_last site kind p at (with_scope p.scope s) (operand_at kind (by_default s.displacement s.sections.current p.addressed) s.sections.current at))

operands_last : (site : Site) (os : List (List Token)) (kinds : List OperandKind) (r : Reached) → Lasts r.progress.standing.scope (operands_stated site os kinds r).progress.standing.scope
operands_last site [] kinds r = stay_same r.progress.standing.scope.sources
operands_last site (o ∷ os) [] r = stay_same r.progress.standing.scope.sources
operands_last site (o ∷ os) (kind ∷ kinds) r =
    let one : Reached = operand_stated site kind o r.at r.progress.standing in
    let next : Reached = instruction.behind r.progress.fault one in
    stay_then r.progress.standing.scope.sources one.progress.standing.scope.sources (operands_stated site os kinds next).progress.standing.scope.sources (operand_lasts site kind o r.at r.progress.standing) (operands_last site os kinds next)

counted_in : (b : Bool) (s : Standing) (p : Progress) → Lasts s.scope p.standing.scope → StandIn s (if_counted b p)
counted_in true s p h = done_in s p h
counted_in false s p h = tt

instruction_in : (row : Row) (origin : Origin) (line : List ℕ) (tokens : List Token) (s : Standing) → StandIn s (instruction_stated row origin line tokens s)
unfolding instruction_stated
instruction_in row origin line tokens s =
    let first : Reached = opcode_stated row s in
    let last : Reached = operands_stated (site_of origin line s) (parts tokens) row.operands first in
    counted_in (length (parts tokens) == row.count) s last.progress
    (stay_then s.scope.sources first.progress.standing.scope.sources last.progress.standing.scope.sources (added_lasts _ _ s) (operands_last (site_of origin line s) (parts tokens) row.operands first))

front_lasts : (r : Referring) (s : Standing) → Lasts s.scope (front_stated r s).progress.standing.scope
front_lasts (referring.Read k) s = stay_same s.scope.sources
front_lasts referring.Pop s = added_lasts _ _ s

reference_in : (r : Referring) (site : Site) (found : List (List Token)) (s : Standing) → StandIn s (reference_by r site found s)
reference_in r site [] s = tt
reference_in r site (o ∷ []) s =
    let front : Reached = front_stated r s in
    let last : Reached = referred r site o s in
    done_in s last.progress
    (stay_then s.scope.sources front.progress.standing.scope.sources last.progress.standing.scope.sources (front_lasts r s) (operand_lasts site (referred_kind r) o front.at front.progress.standing))
reference_in r site (o ∷ p ∷ more) s = tt

-- ---- statements

switched_in : (on : Bool) (f : Option Function) (s : Standing) → StandIn s (switched on f s)
switched_in on None s = tt
switched_in on (Some Idle) s = stay_same s.scope.sources
switched_in on (Some Externals) s = stay_same s.scope.sources
switched_in on (Some Absolute) s = stay_same s.scope.sources
switched_in on (Some LongBlocks) s = block_lasts (not on) s.scope s.scope (stay_same s.scope.sources)

then_in : (on : Bool) (f : Option Function) (s : Standing) (r : Result Standing FaultKind) → StandIn s r → StandIn s (then_switched on f r)
then_in on f s (Ok t) h = stand_then s t (switched on f t) h (switched_in on f t)
then_in on f s (Err kind) h = tt

all_in : (on : Bool) (line : List ℕ) (found : List (List Token)) (s : Standing) (r : Result Standing FaultKind) → StandIn s r → StandIn s (all_switched on line found r)
all_in on line [] s r h = h
all_in on line (part ∷ found) s r h = all_in on line found s (then_switched on (function_at line part) r) (then_in on (function_at line part) s r h)

assigned_by_in : (global : Bool) (name : List ℕ) (s : Standing) (u r : _) → Lasts s.scope u → ScopeIn u r → StandIn s (assigned_by global name s r)
assigned_by_in global name s u (Ok t) a h = stay_then s.scope.sources u.sources (shared global name t).sources a (stay_then u.sources t.sources (shared global name t).sources h (shared_lasts global name t))
assigned_by_in global name s u (Err e) a h = tt

name_in_result : (site : Site) (global : Bool) (name : List ℕ) (tokens : List Token) (s : Standing) → StandIn s (name_assigned site global name tokens s).result
name_in_result site global name tokens s =
    let e : Scope = (entry name s.scope).scope in
    let t = told site.dialect site.here (symbols_of site.line tokens) e in
    let r = assigned name t.written t.scope in
    let into : Lasts s.scope t.scope = stay_then s.scope.sources e.sources t.scope.sources (entry_lasts name s.scope) (told_lasts site.dialect site.here (symbols_of site.line tokens) e) in
    done_in s (joined (naming.fault_of t.settled) (after_change s (assigned_by global name s r)))
    (changed_lasts s (assigned_by global name s r) (assigned_by_in global name s t.scope r into (assigned_lasts name t.written t.scope)))

forward_in : (b : Bool) (s : Standing) (r : Result (Sections Fixup) Refusal) → StandIn s (if b then Err fault.Range else with_sections s r)
forward_in true s r = tt
forward_in false s r = sections_in s r

back_in : (b : Bool) (to : ℕ) (s : Standing) (r : Result Standing FaultKind) → StandIn s r → StandIn s (if b then Ok (set_back to s) else r)
back_in true to s r h = stay_same s.scope.sources
back_in false to s r h = h

moved_in : (n : Result ℕ FaultKind) (s : Standing) → StandIn s (moved_to n s)
unfolding moved
moved_in (Ok n) s =
    let section = current_of s.sections in
    let more = n - next_place section in
    back_in (is_absolute section && nat_lt n (next_place section)) n s (forward n s) (forward_in (nat_lt n (next_place section)) s (put more (Zeros more) s.sections))
moved_in (Err kind) s = tt

place_in : (b : Bool) (site : Site) (tokens : List Token) (s : Standing) → StandIn s (place_assigned b site tokens s)
place_in true site tokens s =
    let w = told site.dialect site.here (symbols_of site.line tokens) s.scope in
    stand_then s (with_scope w.scope s) (place_moved site tokens s) (told_lasts site.dialect site.here (symbols_of site.line tokens) s.scope) (moved_in (target (is_absolute (current_of s.sections)) s.sections.current w.value) (with_scope w.scope s))
place_in false site tokens s = tt

assignment_by : (place local : Bool) (site : Site) (global : Bool) (name : List ℕ) (tokens : List Token) (s : Standing)
    → StandIn s (if place then without_waiting (place_assigned (assigns_places s.dialect && not global) site tokens s) else (if local then not_assigned fault.Form else name_assigned site global name tokens s)).result
assignment_by true local site global name tokens s = place_in (assigns_places s.dialect && not global) site tokens s
assignment_by false true site global name tokens s = tt
assignment_by false false site global name tokens s = name_in_result site global name tokens s

-- ---- types of operands

number_in_by : (origin : Origin) (line : List ℕ) (n : ℕ) (o : Option Token) (s : Standing) → StandIn s (number_by origin line n o s)
unfolding assignment_stated
number_in_by origin line n (Some name) s = assignment_by (is_place (name_in line name)) (is_local (name_in line name)) (site_of origin line s) false (name_in line name) (number_at n name ∷ []) s
number_in_by origin line n None s = tt

number_in : (origin : Origin) (line : List ℕ) (name : List Token) (n : ℕ) (s : Standing) → StandIn s (number_stated origin line name n s)
unfolding number_stated
number_in origin line name n s = number_in_by origin line n (name_alone line name) s

typed_lasts : (origin : Origin) (line : List ℕ) (tokens : List Token) (s : Standing) → Lasts s.scope (typed_operand origin line tokens s).scope
unfolding typed_operand
typed_lasts origin line tokens s =
    let o : modes.Operand = operand_as s.absolute (read_of size.L) line tokens in
    let here : Site = site_for s (current_of s.sections).size (site_of origin line s) in
    prepared_by (has_expression o.mode) (misplaces s.dialect (symbols_of line o.expression)) here o s.scope

type_assigned_in : (origin : Origin) (line : List ℕ) (name : List Token) (n : Result ℕ FaultKind) (s : Standing) → StandIn s (type_assigned origin line name n s)
type_assigned_in origin line name (Ok n) s = number_in origin line name n s
type_assigned_in origin line name (Err kind) s = tt

type_in : (origin : Origin) (line : List ℕ) (name operand : List Token) (s : Standing) → StandIn s (type_of_operand origin line name operand s)
type_in origin line name [] s = number_in origin line name 0 s
type_in origin line name (t ∷ operand) s =
    let c : Counted = typed_operand origin line (t ∷ operand) s in
    stand_then s (with_scope c.scope s) (type_assigned origin line name c.number (with_scope c.scope s)) (typed_lasts origin line (t ∷ operand) s) (type_assigned_in origin line name c.number (with_scope c.scope s))

types_in : (origin : Origin) (line : List ℕ) (found : List (List Token)) (s : Standing) → StandIn s (type_by origin line found s)
types_in origin line [] s = tt
types_in origin line (name ∷ []) s = type_in origin line name [] s
types_in origin line (name ∷ operand ∷ []) s = type_in origin line name operand s
types_in origin line (name ∷ operand ∷ more ∷ others) s = tt

-- ---- masks of entries

mask_meant_lasts : (entry : List ℕ) (s : Scope) → Lasts s (mask_meant entry s).scope
mask_meant_lasts entry s = local_lasts entry (in_masks s) (table.locals_of (in_masks s).names entry)

masked_lasts : (site : Site) (entry : List ℕ) (key : Token) (tokens : List Token) (s : Standing) → Lasts s.scope (masked_stated site entry key tokens s).standing.scope
masked_lasts site entry key tokens s =
    let here : Value = here_at s.dialect site.here (here_in s.sections) in
    let m : Meant = mask_meant entry s.scope in
    let t = masked_told site entry key tokens here s in
    let last : Standing = (masked_stated site entry key tokens s).standing in
    stay_then s.scope.sources m.scope.sources last.scope.sources (mask_meant_lasts entry s.scope)
    (stay_then m.scope.sources t.scope.sources last.scope.sources (bound_lasts here (record { names = []; scope = m.scope }) (used at_term (symbols_of site.line tokens)))
    (placed_lasts (Number size.W) site _ (Ok 1) _ (with_scope t.scope s)))

mask_as_in : (site : Site) (entry : List ℕ) (tokens : List Token) (key : Option Token) (s : Standing) → StandIn s (mask_as site entry tokens key s)
mask_as_in site entry tokens (Some key) s = done_in s (masked_stated site entry key tokens s) (masked_lasts site entry key tokens s)
mask_as_in site entry tokens None s = tt

mask_at_in : (place : Bool) (site : Site) (entry : List ℕ) (tokens : List Token) (key : Option Token) (s : Standing) → StandIn s (if place then Err fault.Form else mask_as site entry tokens key s)
mask_at_in true site entry tokens key s = tt
mask_at_in false site entry tokens key s = mask_as_in site entry tokens key s

mask_named_in : (site : Site) (o : Option Token) (tokens : List Token) (s : Standing) → StandIn s (mask_named site o tokens s)
mask_named_in site (Some entry) tokens s = mask_at_in (is_place (name_in site.line entry)) site (name_in site.line entry) tokens (key_of site.line entry tokens) s
mask_named_in site None tokens s = tt

masks_in : (site : Site) (found : List (List Token)) (s : Standing) → StandIn s (mask_by site found s)
masks_in site [] s = tt
masks_in site (entry ∷ []) s = mask_named_in site (name_alone site.line entry) [] s
masks_in site (entry ∷ tokens ∷ []) s = mask_named_in site (name_alone site.line entry) tokens s
masks_in site (entry ∷ tokens ∷ more ∷ others) s = tt

-- ---- directives

directed_in : (d : Directive) (origin : Origin) (line : List ℕ) (tokens : List Token) (s : Standing) → StandIn s (directed d origin line tokens s)
unfolding section_stated entry_stated saved_stated default_stated data_stated addresses_stated text_stated space_stated reference_stated align_stated names_stated functions_stated mask_stated end_stated
directed_in directive.Section origin line tokens s = section_in line (parts tokens) s
directed_in directive.Entry origin line tokens s = two_in (parts tokens) s _ (λ name mask. entry_in (site_of origin line s) (name_of line name) mask s)
directed_in (directive.Data kind) origin line tokens s =
    none_in tokens s _ (done_in s (items_stated kind (site_of origin line s) (map item_of (parts tokens)) (begun s)) (items_last kind (site_of origin line s) (map item_of (parts tokens)) (begun s)))
directed_in directive.Address origin line tokens s =
    none_in tokens s _ (done_in s (items_stated (Number size.L) (site_of origin line s) (map whole (parts tokens)) (begun s)) (items_last (Number size.L) (site_of origin line s) (map whole (parts tokens)) (begun s)))
directed_in directive.Text origin line tokens s = none_in tokens s _ (text_in_by Plain (site_of origin line s) s (text_pieces tokens))
directed_in directive.CountedText origin line tokens s = none_in tokens s _ (text_in_by Counted_first (site_of origin line s) s (text_pieces tokens))
directed_in directive.ZeroText origin line tokens s = none_in tokens s _ (text_in_by Zero_last (site_of origin line s) s (text_pieces tokens))
directed_in directive.DescribedText origin line tokens s = none_in tokens s _ (text_in_by Described (site_of origin line s) s (text_pieces tokens))
directed_in (directive.Space k) origin line tokens s =
    most_in (parts tokens) s (λ count. room_by k (site_of origin line s) count s)
    (λ o. let c = counted (site_of origin line s) o s.scope in stand_then s (with_scope c.scope s) (room k (with_scope c.scope s) c.number) (counted_lasts (site_of origin line s) o s.scope) (room_in k (with_scope c.scope s) c.number))
directed_in (directive.Reference r) origin line tokens s = reference_in r (site_of origin line s) (parts tokens) s
directed_in directive.Align origin line tokens s =
    one_or_two_in (parts tokens) s (λ one. align_by (site_of origin line s) one s) (λ one byte. fill_where (has_further_directives s.dialect) (site_of origin line s) one byte s)
    (λ one. let c = boundary (site_of origin line s) one (boundary_named line one) s.scope in
    stand_then s (with_scope c.scope s) (align_to (with_scope c.scope s) c.number) (boundary_lasts (site_of origin line s) one (boundary_named line one) s.scope) (align_in (with_scope c.scope s) c.number))
    (λ one byte. where_in (has_further_directives s.dialect) (site_of origin line s) one byte s)
directed_in directive.Even origin line tokens s = even_in tokens s
directed_in directive.Odd origin line tokens s = odd_in tokens s
directed_in directive.Global origin line tokens s = none_in tokens s _ (named_in s (names_from links.Global line (parts tokens) (Some s.scope)) (names_in links.Global line (parts tokens) s.scope (Some s.scope) (stay_same s.scope.sources)))
directed_in directive.Weak origin line tokens s = none_in tokens s _ (named_in s (names_from links.Weak line (parts tokens) (Some s.scope)) (names_in links.Weak line (parts tokens) s.scope (Some s.scope) (stay_same s.scope.sources)))
directed_in directive.External origin line tokens s = none_in tokens s _ (named_in s (names_from links.External line (parts tokens) (Some s.scope)) (names_in links.External line (parts tokens) s.scope (Some s.scope) (stay_same s.scope.sources)))
directed_in directive.Enable origin line tokens s = none_in tokens s _ (all_in true line (parts tokens) s (Ok s) (stay_same s.scope.sources))
directed_in directive.Disable origin line tokens s = none_in tokens s _ (all_in false line (parts tokens) s (Ok s) (stay_same s.scope.sources))
directed_in directive.Default origin line tokens s = two_in (parts tokens) s _ (λ name size. displaced_in (default_at line name size) s)
directed_in directive.Save origin line tokens s = saved_in (block_wanted line (parts tokens)) s
directed_in directive.Restore origin line tokens s = restored_in tokens s
directed_in directive.Listing origin line tokens s = stay_same s.scope.sources
directed_in directive.OperandType origin line tokens s = types_in origin line (parts tokens) s
directed_in directive.Mask origin line tokens s = masks_in (site_of origin line s) (parts tokens) s
directed_in directive.Error origin line tokens s = tt
directed_in directive.End origin line tokens s = end_in line (parts tokens) s

instructed_in : (o : Option Instruction) (origin : Origin) (line : List ℕ) (tokens : List Token) (s : Standing) → StandIn s (instructed o origin line tokens s)
instructed_in (Some i) origin line tokens s = instruction_in (row_of i) origin line tokens s
instructed_in None origin line tokens s = tt

operated_in : (o : Option Directive) (origin : Origin) (line name : List ℕ) (tokens : List Token) (s : Standing) → StandIn s (operated_by o origin line name tokens s)
operated_in (Some d) origin line name tokens s = directed_in d origin line tokens s
operated_in None origin line name tokens s = instructed_in (instruction_named name) origin line tokens s

body_in : (origin : Origin) (line : List ℕ) (what : What) (s : Standing) → StandIn s (body_stated origin line what s).result
unfolding body_stated assignment_stated
body_in origin line Nothing s = stay_same s.scope.sources
body_in origin line (Assignment name global tokens) s = assignment_by (is_place (name_in line name)) (is_local (name_in line name)) (site_of origin line s) global (name_in line name) tokens s
body_in origin line (Operation name tokens) s = operated_in (directive_named s.dialect (token_text line name)) origin line (token_text line name) tokens s
body_in origin line Malformed s = tt

local_in : (global : Bool) (name : List ℕ) (s : Standing) → StandIn s (local_stated global name s)
local_in true name s = tt
local_in false name s = defined_in s (labelled_locally name (here_in s.sections) s.scope) (locally_lasts name (here_in s.sections) s.scope)

label_by : (place local global : Bool) (name : List ℕ) (s : Standing) → StandIn s (if place then Err fault.Form else (if local then local_stated global name s else symbol_stated global name s))
label_by true local global name s = tt
label_by false true global name s = local_in global name s
label_by false false global name s = symbol_in global name s

label_in : (line : List ℕ) (label : Label) (s : Standing) → StandIn s (label_stated line label s)
unfolding label_stated
label_in line label s = label_by (is_place (name_in line label.name)) (is_local (name_in line label.name)) label.global (name_in line label.name) s

abbrev PlacedIn : Standing → Placed → Type 0
PlacedIn s (Stands t waiting) = Lasts s.scope t.scope
PlacedIn s (FaultyLabel kind) = Unit {0}
PlacedIn s (Faulty kind waiting) = Unit {0}

placed_by_in : (s : Standing) (r : Result Standing FaultKind) (w : Option Waiting) → StandIn s r → PlacedIn s (placed_by r w)
placed_by_in s (Ok t) w h = h
placed_by_in s (Err kind) w h = tt

also_in : (s : Standing) (kind : FaultKind) (r : Result Standing FaultKind) (w : Option Waiting) → PlacedIn s (also kind r w)
also_in s kind (Ok t) w = tt
also_in s kind (Err other) w = tt

beside_in : (s : Standing) (kind : FaultKind) (what : What) (rest : naming.Assigned) → PlacedIn s (beside kind what rest)
beside_in s kind Nothing rest = tt
beside_in s kind (Assignment name global tokens) rest = also_in s kind rest.result rest.waiting
beside_in s kind (Operation name tokens) rest = also_in s kind rest.result rest.waiting
beside_in s kind Malformed rest = also_in s kind rest.result rest.waiting

behind_in : (origin : Origin) (line : List ℕ) (what : What) (s : Standing) (r : Result Standing FaultKind) → StandIn s r → PlacedIn s (behind_label origin line what s r)
behind_in origin line what s (Ok t) h =
    let b : naming.Assigned = body_stated origin line what t in
    placed_by_in s b.result b.waiting (stand_then s t b.result h (body_in origin line what t))
behind_in origin line what s (Err kind) h = beside_in s kind what (body_stated origin line what s)

stated_in : (origin : Origin) (line : List ℕ) (label : Option Label) (what : What) (s : Standing) → PlacedIn s (stated_by origin line label what s)
stated_in origin line None what s = let b : naming.Assigned = body_stated origin line what s in placed_by_in s b.result b.waiting (body_in origin line what s)
stated_in origin line (Some label) what s = behind_in origin line what s (label_stated line label s) (label_in line label s)

range_in : (s : Standing) (p : Placed) → PlacedIn s (with_range p)
range_in s (Stands t w) = tt
range_in s (FaultyLabel kind) = tt
range_in s (Faulty kind w) = tt

wide_in : (b : Bool) (s : Standing) (p : Placed) → PlacedIn s p → PlacedIn s (if_wide b p)
wide_in true s p h = range_in s p
wide_in false s p h = h

listed_in : (b bad wide : Bool) (s : Standing) (p : Placed) → PlacedIn s p → PlacedIn s (if b then p else (if bad then Faulty fault.Token None else if_wide wide p))
listed_in true bad wide s p h = h
listed_in false true wide s p h = tt
listed_in false false wide s p h = wide_in wide s p h

placed_in : (origin : Origin) (line : List ℕ) (s : Standing) → PlacedIn s (placed origin line s)
unfolding placed stated
placed_in origin line s =
    let ps = pieces_of s.dialect line in
    let p : Parsed = parsed (map token_of ps) in
    listed_in (is_listing s.dialect line p.what) (list_any is_bad ps) (list_any is_wide ps) s (stated origin line p s) (stated_in origin line p.label p.what s)

-- ---- all statements

lead_lasts : (a b : Assembly) (lines : List Line) → Leads a lines b → Lasts a.standing.scope b.standing.scope
lead_lasts a b [] h = subst (λ (x : Assembly). Lasts a.standing.scope x.standing.scope) h (stay_same a.standing.scope.sources)
lead_lasts a b (l ∷ lines) h =
    let t : Standing = h.0 in
    let one : Lasts a.standing.scope t.scope = subst (PlacedIn a.standing) h.2 (placed_in l.origin l.text a.standing) in
    stay_then a.standing.scope.sources t.scope.sources b.standing.scope.sources one (lead_lasts (with_statement t h.1 a) b lines h.3)

externals_by : (i : ℕ) (n : table.Name) (names : List table.Name) (xs : List Source) (b : Bool) → ((j : ℕ) (ys : List Source) → Stay ys (with_externals j names ys)) → Stay xs (if b then with_externals (i + 1) names (with_source n.definition (external_at i) xs) else with_externals i names xs)
externals_by i n names xs true h =
    let next : List Source = with_source n.definition (external_at i) xs in
    stay_then xs next (with_externals (i + 1) names next) (fills n.definition (external_at i) xs) (h (i + 1) next)
externals_by i n names xs false h = h i xs

externals_last : (i : ℕ) (names : List table.Name) (xs : List Source) → Stay xs (with_externals i names xs)
externals_last i [] xs = stay_same xs
externals_last i (n ∷ names) xs = externals_by i n names xs (is_external n) (λ j ys. externals_last j names ys)

pub all_stay : (a b : Assembly) (lines : List Line) → Leads a lines b → Stay a.standing.scope.sources (closed b.standing.scope).sources
all_stay a b lines h =
    stay_then a.standing.scope.sources b.standing.scope.sources (closed b.standing.scope).sources (lead_lasts a b lines h) (externals_last 0 b.standing.scope.names.all b.standing.scope.sources)
