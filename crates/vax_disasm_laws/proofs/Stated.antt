-- Operands as statements: what an operand's text leaves in a section.
use Rattle.std.proofs.Common.{◌≡◌, ℕ, ◌+◌, ◌*◌, ◌<◌, Bool, true, false, ℤ, pos, List, [], ◌∷◌, ◌++◌, length, Option, Some, None, Result, Ok, Err, refl, sym, ap, subst, ◌∙◌, arith}
use Rattle.std.specs.Prelude.{if◌then◌else◌}
use Rattle.vax_outside.specs.Hex.{hex}
use Rattle.vax_dialect.specs.declared.Dialect.{Dialect}
use Rattle.vax_isa.specs.declared.OperandKind.{OperandKind}
use Rattle.vax_isa.specs.declared.actions.Narrow.{Narrow}
use Rattle.vax_isa.specs.Rows.{IsKind}
use Rattle.vax_lex.specs.declared.token.Token.{Token}
use Rattle.vax_lex.specs.declared.value.Value.{Value}
use Rattle.vax_lex.specs.declared.value.Value.TheVariants as value
use Rattle.vax_lex.specs.declared.value.ExprError.{ExprError}
use Rattle.vax_flat.specs.Operand.{plus}
use Rattle.vax_flat.specs.Grammar.{Place, Deferred, Decrement, Increment, IncrementDeferred, Absolute, Displaced, DisplacedDeferred, Specifier, Literal, Register, Immediate, InMemory, Indexed, BranchBy}
use Rattle.vax_asm_encode.specs.declared.operand.Field.{Field}
use Rattle.vax_asm_encode.specs.declared.operand.Operand.{Operand}
use Rattle.vax_asm_encode.specs.declared.operand.Operand.TheVariants as operand
use Rattle.vax_asm_encode.specs.declared.filling.Filled.{Filled}
use Rattle.vax_asm_encode.specs.declared.filling.FieldFault.{FieldFault}
use Rattle.vax_asm_encode.specs.Fields.{filled}
use Rattle.vax_asm_encode.specs.Operands.{branch_size, field_of, may_stand, takes_branch}
use Rattle.vax_asm_encode.specs.Bytes.{operand_bytes}
use Rattle.vax_asm_first.specs.Faults.{fault_of_filled}
use Rattle.vax_asm_first.specs.Fixups.{Fixup, Known}
use Rattle.vax_asm_first.specs.Progress.{Site, added}
use Rattle.vax_asm_first.specs.Standing.{Standing, here_at}
use Rattle.vax_asm_first.specs.declared.types.Content.TheVariants as content
use Rattle.vax_asm_first.specs.declared.types.Origin.{Origin}
use Rattle.vax_asm_instruction.proofs.Back.{operand_is_long}
use Rattle.vax_asm_instruction.specs.Placing.{by_default, destination, field_at, has_expression, if_stands, mode_by_default, operand_as, operand_at, operand_length, written_under}
use Rattle.vax_asm_instruction.specs.Stating.{Prepared, Reached, fault_in, operand_stated, prepared, zero_value}
use Rattle.vax_asm_scope.specs.Scope.{Scope}
use Rattle.vax_asm_second.specs.Laid.{held, holding}
use Rattle.vax_asm_sections.specs.Layout.{Part, Field as Kept}
use Rattle.vax_asm_statement.specs.declared.modes.Mode.{Mode}
use Rattle.vax_asm_statement.specs.declared.modes.Mode.TheVariants as mode
use Rattle.vax_asm_statement.specs.Modes as modes
use Rattle.vax_asm_statement.specs.Modes.{operand_of, unindexed, direct_form, register_form}
use Rattle.vax_asm_statement.specs.Sizes.{sized}
use Rattle.vax_asm_values.specs.Values.{named, value_of, value_in}
use Rattle.vax_disasm_laws.proofs.Words.{Word, tokens_at, behind, AreThere, tokens-append}
use Rattle.vax_disasm_laws.proofs.Spoken.{sign, register, letter, hexadecimal, place_words, specifier_words}
use Rattle.vax_disasm_laws.proofs.Scanned.{PlaceFits, Fits}
use Rattle.vax_disasm_laws.proofs.Moded.{narrow_of, place_mode, HasValue, PlaceValue, PlaceReads, positive, unsigned, named as register_named}
use Rattle.vax_disasm_laws.proofs.Operands.{place_reads, in_memory, place_apart, index_words, indexed}
use Rattle.vax_disasm_laws.proofs.Readings.{PlaceMay, May}
use Rattle.vax_disasm_laws.proofs.Meant.{branch_narrowly, held_for, indexed_sized, narrow_wide, narrowly, operand_for, place_sized, place_value, read_no_branch, register_no_branch, result_no_branch, stands_for, value_for}

place_fits : (p : Place) → PlaceMay p → PlaceFits p
place_fits (Deferred n) h = omega arith
place_fits (Decrement n) h = omega arith
place_fits (Increment n) h = omega arith
place_fits (IncrementDeferred n) h = omega arith
place_fits (Absolute addr) h = h
place_fits (Displaced width d n) h = (narrow_wide (narrow_of width) d (narrowly width d h.0 h.2), h.1)
place_fits (DisplacedDeferred width d n) h = (narrow_wide (narrow_of width) d (narrowly width d h.0 h.2), h.1)

pub may_fit : (kind : OperandKind) (s : Specifier) → IsKind kind → May kind s → Fits kind s
may_fit kind (Literal value) k h = h.0
may_fit kind (Register n) k h = h.0
may_fit kind (Immediate value) k h = (k.width, h.0)
may_fit kind (InMemory p) k h = place_fits p h.0
may_fit kind (Indexed p x) k h = (place_fits p h.1, let less = h.0 in omega arith)
may_fit kind (BranchBy d) k h = narrow_wide (branch_size kind.width) d (branch_narrowly kind.width d h.0 h.1)

literal_words : (line : List ℕ) (at n : ℕ) → AreThere line at (letter 83 ∷ sign 94 ∷ sign 35 ∷ hexadecimal 2 n ∷ [])
    → operand_of line (tokens_at at (letter 83 ∷ sign 94 ∷ sign 35 ∷ hexadecimal 2 n ∷ [])) ≡ record { mode = mode.Literal; expression = tokens_at (at + 1 + 1 + 1) (hexadecimal 2 n ∷ []); index = None }
unfolding operand_of unindexed direct_form
literal_words line at n there = let t = there.0 in rw t refl

immediate_words : (line : List ℕ) (at places n : ℕ) → AreThere line at (letter 73 ∷ sign 94 ∷ sign 35 ∷ hexadecimal places n ∷ [])
    → operand_of line (tokens_at at (letter 73 ∷ sign 94 ∷ sign 35 ∷ hexadecimal places n ∷ [])) ≡ record { mode = mode.Immediate; expression = tokens_at (at + 1 + 1 + 1) (hexadecimal places n ∷ []); index = None }
unfolding operand_of unindexed direct_form
immediate_words line at places n there = let t = there.0 in rw t refl

register_words : (line : List ℕ) (at n : ℕ) → n < 16 → AreThere line at (register n ∷ []) → operand_of line (tokens_at at (register n ∷ [])) ≡ record { mode = mode.Register n; expression = []; index = None }
unfolding operand_of unindexed direct_form register_form
register_words line at n h there = let t = there.0 in rw (t, register_named n h) refl

branch_words : (line : List ℕ) (at n : ℕ) → operand_of line (tokens_at at (hexadecimal 8 n ∷ [])) ≡ record { mode = mode.Relative None false; expression = tokens_at at (hexadecimal 8 n ∷ []); index = None }
unfolding operand_of unindexed direct_form register_form
branch_words line at n = refl

there-append : (line : List ℕ) (at : ℕ) (front words : List Word) → AreThere line at (front ++ words) → AreThere line at front × AreThere line (behind at front) words
there-append line at [] words there = (tt, there)
there-append line at (w ∷ front) words there = let rest = there-append line (at + length w.text) front words there.1 in ((there.0, rest.0), rest.1)

-- ---- what is prepared

abbrev site_at : Dialect → Origin → List ℕ → Value → Site
site_at own origin line here = record { dialect = own; origin = origin; line = line; here = here }

abbrev moded : Mode → List Token → Option ℕ → modes.Operand
moded m expression index = record { mode = m; expression = expression; index = index }

abbrev with_value : Mode → Option ℕ → Value → Scope → Prepared
with_value m index v scope = record { addressed = record { mode = m; index = index; value = Ok v }; filling = Known v; scope = scope }

abbrev mode_for : Specifier → Mode
mode_for (Literal n) = mode.Literal
mode_for (Register n) = mode.Register n
mode_for (Immediate n) = mode.Immediate
mode_for (InMemory p) = place_mode p
mode_for (Indexed p x) = place_mode p
mode_for (BranchBy d) = mode.Relative None false

abbrev index_for : Specifier → Option ℕ
index_for (Literal n) = None
index_for (Register n) = None
index_for (Immediate n) = None
index_for (InMemory p) = None
index_for (Indexed p x) = Some x
index_for (BranchBy d) = None

-- The modes that are written out stay as they are.
place_stays : (absolute : Bool) (p : Place) (expression : List Token) (index : Option ℕ) → written_under absolute (moded (place_mode p) expression index) ≡ moded (place_mode p) expression index
place_stays absolute (Deferred n) expression index = refl
place_stays absolute (Decrement n) expression index = refl
place_stays absolute (Increment n) expression index = refl
place_stays absolute (IncrementDeferred n) expression index = refl
place_stays absolute (Absolute a) expression index = refl
place_stays absolute (Displaced width d n) expression index = refl
place_stays absolute (DisplacedDeferred width d n) expression index = refl

module _ (absolute : Bool) (dialect own : Dialect) (origin : Origin) (line : List ℕ) (here : Value) (scope : Scope) where
  with_number : (m : Mode) (index : Option ℕ) (expression : List Token) (z : ℤ) → has_expression m ≡ true → HasValue line expression z
      → prepared dialect (site_at own origin line here) (moded m expression index) scope ≡ with_value m index (value.Absolute z) scope
  unfolding value_in
  with_number m index expression z e h = rw (e, h.no_names, h.means (record { dialect = own; value = named (value_of scope.sources) [] })) refl

  place_prepared : (p : Place) (index : Option ℕ) (expression : List Token) → PlaceValue line expression p → prepared dialect (site_at own origin line here) (moded (place_mode p) expression index) scope ≡ with_value (place_mode p) index (place_value p) scope
  place_prepared (Deferred n) index expression h = refl
  place_prepared (Decrement n) index expression h = refl
  place_prepared (Increment n) index expression h = refl
  place_prepared (IncrementDeferred n) index expression h = refl
  place_prepared (Absolute a) index expression h = with_number mode.Absolute index expression (pos a) refl h
  place_prepared (Displaced width d n) index expression h = with_number (place_mode (Displaced width d n)) index expression _ refl h
  place_prepared (DisplacedDeferred width d n) index expression h = with_number (place_mode (DisplacedDeferred width d n)) index expression _ refl h

  module _ (kind : OperandKind) (at : ℕ) (k : IsKind kind) where
    abbrev IsPrepared : (next : ℕ) → Specifier → List Token → Type 0
    IsPrepared next s tokens = prepared dialect (site_at own origin line here) (operand_as absolute kind line tokens) scope ≡ with_value (mode_for s) (index_for s) (value_for next s) scope

    as_written : (tokens : List Token) (o : modes.Operand) (p : Prepared) → takes_branch kind.letter ≡ false → operand_of line tokens ≡ o → written_under absolute o ≡ o → prepared dialect (site_at own origin line here) o scope ≡ p → prepared dialect (site_at own origin line here) (operand_as absolute kind line tokens) scope ≡ p
    as_written tokens o p clear is same e = rw clear (ap (λ (x : modes.Operand). prepared dialect (site_at own origin line here) x scope) (ap (written_under absolute) is ∙ same) ∙ e)

    as_branch : (tokens : List Token) (p : Prepared) → takes_branch kind.letter ≡ true → prepared dialect (site_at own origin line here) (destination tokens) scope ≡ p → prepared dialect (site_at own origin line here) (operand_as absolute kind line tokens) scope ≡ p
    as_branch tokens p takes e = rw takes e

    memory_prepared : (next : ℕ) (p : Place) → May kind (InMemory p) → AreThere line at (place_words p []) → IsPrepared next (InMemory p) (tokens_at at (place_words p []))
    memory_prepared next p h there =
        let tokens : List Token = tokens_at at (place_words p []) in
        let r : PlaceReads line tokens p = place_reads line at p (place_fits p h.0) there in
        as_written tokens (moded (place_mode p) r.expression None) (with_value (place_mode p) None (place_value p) scope) h.1 (in_memory line tokens p r) (place_stays absolute p r.expression None) (place_prepared p None r.expression r.means)

    index_prepared : (next : ℕ) (p : Place) (x : ℕ) → May kind (Indexed p x) → AreThere line at (place_words p [] ++ index_words x) → IsPrepared next (Indexed p x) (tokens_at at (place_words p [] ++ index_words x))
    index_prepared next p x h there =
        let apart = there-append line at (place_words p []) (index_words x) there in
        let r : PlaceReads line (tokens_at at (place_words p [])) p = place_reads line at p (place_fits p h.1) apart.0 in
        let less : x < 16 = let l = h.0 in omega arith in
        let is = indexed line (behind at (place_words p [])) x (tokens_at at (place_words p [])) p r less apart.1 in
        rw (tokens-append at (place_words p []) (index_words x))
        (as_written (tokens_at at (place_words p []) ++ tokens_at (behind at (place_words p [])) (index_words x)) (moded (place_mode p) r.expression (Some x)) (with_value (place_mode p) (Some x) (place_value p) scope) h.3 is (place_stays absolute p r.expression (Some x)) (place_prepared p (Some x) r.expression r.means))

    specifier_prepared : (s : Specifier) (next : ℕ) → May kind s → AreThere line at (specifier_words kind next s) → IsPrepared next s (tokens_at at (specifier_words kind next s))
    specifier_prepared (Literal n) next h there =
        let expression : List Token = tokens_at (at + 1 + 1 + 1) (hexadecimal 2 n ∷ []) in
        as_written (tokens_at at (specifier_words kind next (Literal n))) (moded mode.Literal expression None) (with_value mode.Literal None (value.Absolute (pos n)) scope) (read_no_branch kind.letter h.1) (literal_words line at n there) refl
        (with_number mode.Literal None expression (pos n) refl (positive line (at + 1 + 1 + 1) n (94 ∷ 88 ∷ hex 2 n) (let l = h.0 in omega arith)))
    specifier_prepared (Register n) next h there =
        as_written (tokens_at at (register n ∷ [])) (moded (mode.Register n) [] None) (with_value (mode.Register n) None zero_value scope) (register_no_branch kind.letter h.2) (register_words line at n h.0 there) refl refl
    specifier_prepared (Immediate n) next h there =
        let expression : List Token = tokens_at (at + 1 + 1 + 1) (hexadecimal (2 * kind.width) n ∷ []) in
        as_written (tokens_at at (specifier_words kind next (Immediate n))) (moded mode.Immediate expression None) (with_value mode.Immediate None (value_for next (Immediate n)) scope) (result_no_branch kind.letter h.1) (immediate_words line at (2 * kind.width) n there) refl
        (with_number mode.Immediate None expression _ refl (unsigned line (at + 1 + 1 + 1) n (94 ∷ 88 ∷ hex (2 * kind.width) n)))
    specifier_prepared (InMemory p) next h there = memory_prepared next p h there
    specifier_prepared (Indexed p x) next h there =
        let words = place_apart p (index_words x) in
        rw words (index_prepared next p x h (subst (λ (ws : List Word). AreThere line at ws) words there))
    specifier_prepared (BranchBy d) next h there =
        let tokens : List Token = tokens_at at (hexadecimal 8 (plus next d) ∷ []) in
        as_branch tokens (with_value (mode.Relative None false) None (value.Absolute (pos (plus next d))) scope) h.2
        (with_number (mode.Relative None false) None tokens (pos (plus next d)) refl (positive line at (plus next d) (94 ∷ 88 ∷ hex 8 (plus next d)) (omega arith)))

-- ---- what is chosen

chosen_by : (kind : OperandKind) (o : Operand) (x : Option Operand) → takes_branch kind.letter ≡ false → x ≡ Some o → may_stand kind o ≡ true → (if takes_branch kind.letter then Some operand.Branch else if_stands kind x) ≡ Some o
chosen_by kind o x clear is may = rw (clear, is, may) refl

default_stays : (size : Narrow) (section : ℕ) (v : Result Value ExprError) (p : Place) → mode_by_default size section v (place_mode p) ≡ place_mode p
default_stays size section v (Deferred n) = refl
default_stays size section v (Decrement n) = refl
default_stays size section v (Increment n) = refl
default_stays size section v (IncrementDeferred n) = refl
default_stays size section v (Absolute a) = refl
default_stays size section v (Displaced width d n) = refl
default_stays size section v (DisplacedDeferred width d n) = refl

chosen : (kind : OperandKind) (next : ℕ) (s : Specifier) (size : Narrow) (section at : ℕ) → May kind s → operand_at kind (by_default size section (record { mode = mode_for s; index = index_for s; value = Ok (value_for next s) })) section at ≡ Some (operand_for s)
chosen kind next (Literal n) size section at h = chosen_by kind operand.Literal (Some operand.Literal) (read_no_branch kind.letter h.1) refl (stands_for kind (Literal n) h)
chosen kind next (Register n) size section at h = chosen_by kind (operand.Register n) (Some (operand.Register n)) (register_no_branch kind.letter h.2) refl (stands_for kind (Register n) h)
chosen kind next (Immediate n) size section at h = chosen_by kind operand.Immediate (Some operand.Immediate) (result_no_branch kind.letter h.1) refl (stands_for kind (Immediate n) h)
chosen kind next (InMemory p) size section at h =
    rw (default_stays size section (Ok (place_value p)) p)
    (chosen_by kind (operand_for (InMemory p)) (sized (place_mode p) None section (at + 1) (Ok (place_value p))) h.1 (place_sized p section (at + 1) (Ok (place_value p))) (stands_for kind (InMemory p) h))
chosen kind next (Indexed p x) size section at h =
    rw (default_stays size section (Ok (place_value p)) p)
    (chosen_by kind (operand_for (Indexed p x)) (sized (place_mode p) (Some x) section (at + 2) (Ok (place_value p))) h.3 (indexed_sized p x section (at + 2) (Ok (place_value p))) (stands_for kind (Indexed p x) h))
chosen kind next (BranchBy d) size section at h = rw h.2 refl

-- ---- no field has a fault

filled_none : (v : Value) (q : Result Filled FieldFault) (h : _) → holding v q ≡ Ok h → fault_of_filled q ≡ None
filled_none v (Ok f) h e = refl
filled_none v (Err x) h e = cc

none_in : (f : Option Field) (section at : ℕ) (v : Value) (h : _) → held f section at (Ok v) ≡ Ok h → fault_in f section at (Ok v) ≡ None
none_in None section at v h e = refl
none_in (Some f) section at v h e = filled_none v (filled f section at v) h e

no_fault : (kind : OperandKind) (next : ℕ) (s : Specifier) (section at : ℕ) → IsKind kind → May kind s → fault_in (field_of kind (operand_for s)) section at (Ok (value_for next s)) ≡ None
no_fault kind next (Literal n) section at k h = none_in (field_of kind (operand_for (Literal n))) section at (value_for next (Literal n)) _ (held_for kind next section at (Literal n) k.width h)
no_fault kind next (Register n) section at k h = refl
no_fault kind next (Immediate n) section at k h = none_in (field_of kind (operand_for (Immediate n))) section at (value_for next (Immediate n)) _ (held_for kind next section at (Immediate n) k.width h)
no_fault kind next (InMemory p) section at k h = none_in (field_of kind (operand_for (InMemory p))) section at (value_for next (InMemory p)) _ (held_for kind next section at (InMemory p) k.width h)
no_fault kind next (Indexed p x) section at k h = none_in (field_of kind (operand_for (Indexed p x))) section at (value_for next (Indexed p x)) _ (held_for kind next section at (Indexed p x) k.width h)
no_fault kind next (BranchBy d) section at k h = none_in (field_of kind (operand_for (BranchBy d))) section at (value_for next (BranchBy d)) _ (held_for kind next section at (BranchBy d) k.width h)

-- ---- what is left

-- an operand to be filled in, which begins at a place and ends in front of an address
abbrev pub field_for : Origin → OperandKind → (next at : ℕ) → Specifier → Part Fixup
field_for origin kind next at s = Kept (record { origin = origin; at = at; content = content.Operand kind (operand_for s); filling = Known (value_for next s) })

abbrev pub length_for : OperandKind → Specifier → ℕ
length_for kind s = length (operand_bytes kind (operand_for s) 0)

abbrev pub left_by : Origin → OperandKind → (next at : ℕ) → Specifier → Standing → Reached
left_by origin kind next at s t = record { at = at + length_for kind s; progress = added (length_for kind s) (field_for origin kind next at s) t }

pub specifier_stated : (own : Dialect) (origin : Origin) (line : List ℕ) (here : Value) (kind : OperandKind) (place at next : ℕ) (s : Specifier) (t : Standing) → IsKind kind → May kind s → AreThere line place (specifier_words kind next s)
    → operand_stated (site_at own origin line here) kind (tokens_at place (specifier_words kind next s)) at t ≡ left_by origin kind next at s t
specifier_stated own origin line here kind place at next s t k may there =
    let long : operand_length kind (operand_for s) ≡ length_for kind s = sym (operand_is_long kind (operand_for s) 0) in
    rw (specifier_prepared t.absolute t.dialect own origin line (here_at t.dialect here (value.Section t.sections.current (pos at))) t.scope kind place k s next may there, chosen kind next s t.displacement t.sections.current at may, no_fault kind next s t.sections.current (field_at (operand_for s) at) k may, long) refl
