-- The statements that define names, choose sections and say where a program begins (VAX MACRO and Instruction Set Reference
-- Manual, "Label field", "Direct assignment statement", `.PSECT`, `.ENTRY`, `.GLOBAL`, `.EXTERNAL` and `.END`).
use Rattle.std.specs.Prelude.{ℕ, ℤ, pos, negsuc, Bool, true, false, ◌&&◌, ◌||◌, ◌==◌, nat_le, not, if◌then◌else◌, List, [], ◌∷◌, ◌++◌, Option, Some, None, Result, Ok, Err, codes}
use Rattle.std.specs.Str.{bytes_eq}
use Rattle.vax_asm_encode.specs.declared.operand.DataKind.TheVariants.{Number}
use Rattle.vax_asm_data.specs.Data.{item_stated, moved, unless_none}
use Rattle.vax_asm_sections.specs.Layout.{Sections, current_of, is_absolute, selected}
use Rattle.vax_asm_sections.specs.declared.types.Attributes.{Attributes}
use Rattle.vax_asm_sections.specs.declared.types.Refusal.{Refusal}
use Rattle.vax_dialect.specs.Differences.{assigns_places, has_further_directives, has_unnamed_psect}
use Rattle.vax_dialect.specs.declared.Dialect.{Dialect}
use Rattle.vax_lex.specs.Characters.{canonical_name, spells}
use Rattle.vax_lex.specs.Grammar.{symbols_of}
use Rattle.vax_lex.specs.Tokens.{token_text}
use Rattle.vax_lex.specs.declared.token.Token.{Token}
use Rattle.vax_lex.specs.declared.token.TokenKind.{TokenKind}
use Rattle.vax_lex.specs.declared.token.TokenKind.TheVariants as kinds
use Rattle.vax_lex.specs.declared.value.Value.{Value}
use Rattle.vax_lex.specs.declared.value.Value.TheVariants as value
use Rattle.vax_lex.specs.declared.value.ExprError.{ExprError}
use Rattle.vax_lex.specs.declared.value.ExprError.TheVariants as errors
use Rattle.vax_macro.specs.declared.error.FaultKind.{FaultKind}
use Rattle.vax_macro.specs.declared.error.FaultKind.TheVariants as fault
use Rattle.vax_asm_names.specs.declared.types.Duplicate.{Duplicate}
use Rattle.vax_asm_names.specs.declared.types.Linkage.{Linkage}
use Rattle.vax_asm_names.specs.declared.types.Linkage.TheVariants as links
use Rattle.vax_asm_first.specs.Fixups.{Assignment, Fixup}
use Rattle.vax_asm_first.specs.Progress.{Site, site_of, Progress, after_change, joined, done}
use Rattle.vax_asm_first.specs.Standing.{Standing, Told, told, here_in, with_scope}
use Rattle.vax_asm_first.specs.declared.types.Origin.{Origin}
use Rattle.vax_asm_scope.specs.Masks.{mask_labelled}
use Rattle.vax_asm_scope.specs.Scope.{Scope, Entry, entry, definition_at, definition_of, is_local, labelled, labelled_locally, assigned, begun_block, linked, misses}
use Rattle.vax_asm_statement.specs.Directives.{attribute_of}
use Rattle.vax_asm_statement.specs.Items.{name_alone, whole}
use Rattle.vax_asm_statement.specs.Parts.{parts}
use Rattle.vax_asm_statement.specs.declared.directives.Attribute.{Attribute}
use Rattle.vax_asm_statement.specs.declared.directives.Attribute.TheVariants.{Absolute, Align, Write, Overlaid, Ignored}
use Rattle.vax_asm_statement.specs.declared.reading.Label.{Label}
use Rattle.vax_asm_values.specs.Values.{Written}
use Rattle.vax_word.specs.declared.Size.TheVariants as size

-- the name that a token is, as it is kept
abbrev pub name_in : List ℕ → Token → List ℕ
name_in line t = canonical_name (token_text line t)

-- `.` is the place of the statement
abbrev pub is_place : List ℕ → Bool
is_place name = bytes_eq name (codes ".")

-- the name that an operand is; a local label and `.` are none
abbrev pub unless_dot : List ℕ → Option (List ℕ)
unless_dot name = if is_place name then None else Some name

abbrev pub name_by : List ℕ → Option Token → Option (List ℕ)
name_by line (Some t) = unless_dot (name_in line t)
name_by line None = None

abbrev pub name_of : List ℕ → List Token → Option (List ℕ)
name_of line tokens = name_by line (name_alone line tokens)

-- a definition is there, or is a second one
abbrev pub defined : Standing → Result Scope Duplicate → Result Standing FaultKind
defined s (Ok scope) = Ok (with_scope scope s)
defined s (Err e) = Err fault.Duplicate

-- a name that other modules may use, if it is said to be one
abbrev pub shared : Bool → List ℕ → Scope → Scope
shared true name s = linked links.Global name s
shared false name s = s

-- a block of local labels begins, unless the one before goes on
abbrev pub next_block : Bool → Scope → Scope
next_block true s = s
next_block false s = begun_block s

-- A label that isn't local has the value of the place where it stands, and begins a block of local labels.
abbrev pub begins : (keeps global : Bool) → List ℕ → Result Scope Duplicate → Result Scope Duplicate
begins keeps global name (Ok s) = Ok (next_block keeps (shared global name s))
begins keeps global name (Err e) = Err e

abbrev pub symbol_stated : Bool → List ℕ → Standing → Result Standing FaultKind
symbol_stated global name s = defined s (begins s.keeps_block global name (labelled name (here_in s.sections) s.scope))

-- A local label has that value in its block, and is none for other modules.
abbrev pub local_stated : Bool → List ℕ → Standing → Result Standing FaultKind
local_stated true name s = Err fault.Form
local_stated false name s = defined s (labelled_locally name (here_in s.sections) s.scope)

abbrev pub named_label : Bool → List ℕ → Standing → Result Standing FaultKind
named_label global name s =
    if is_place name then Err fault.Form
    else (if is_local name then local_stated global name s else symbol_stated global name s)

-- `name:` and, for other modules, `name::`
unfoldable pub label_stated : List ℕ → Label → Standing → Result Standing FaultKind
label_stated line label s = named_label label.global (name_in line label.name) s

-- What is assigned may have its value later.
abbrev pub fault_of : Result Value ExprError → Option FaultKind
fault_of (Ok v) = None
fault_of (Err errors.Form) = Some fault.Form
fault_of (Err errors.Unknown) = None
fault_of (Err errors.Range) = Some fault.Range

abbrev pub waiting : Result Value ExprError → Written → Option Written
waiting (Ok v) w = None
waiting (Err e) w = Some w

abbrev pub waiting_as : Origin → ℕ → Option Written → Option Assignment
waiting_as origin definition (Some w) = Some (record { origin = origin; definition = definition; written = w })
waiting_as origin definition None = None

abbrev pub assigned_by : Bool → List ℕ → Standing → Result Scope Duplicate → Result Standing FaultKind
assigned_by global name s (Ok scope) = Ok (with_scope (shared global name scope) s)
assigned_by global name s (Err e) = Err fault.Duplicate

abbrev pub waiting_by : Origin → List ℕ → Told → Result Scope Duplicate → Option Assignment
waiting_by origin name t (Ok scope) = waiting_as origin (definition_of name scope) (waiting t.value t.written)
waiting_by origin name t (Err e) = None

-- What an assignment leaves, or its fault; and the assignment itself, where it has no value yet.
pub record Assigned : Type 0 where
  pub result : Result Standing FaultKind
  pub waiting : Option Assignment

abbrev pub not_assigned : FaultKind → Assigned
not_assigned kind = record { result = Err kind; waiting = None }

-- The name appears before what is assigned, which may use `.` and the name's definition before.
abbrev pub name_assigned : Site → Bool → List ℕ → List Token → Standing → Assigned
name_assigned site global name tokens s =
    let t = told site.dialect site.here (symbols_of site.line tokens) (entry name s.scope).scope in
    let r = assigned name t.written t.scope in
    record {
      result = done (joined (fault_of t.settled) (after_change s (assigned_by global name s r)));
      waiting = waiting_by site.origin name t r;
    }

-- The place that `.` is assigned: one of the current section, which is a number where that is absolute.
abbrev pub offset_of : ℤ → Result ℕ FaultKind
offset_of (pos n) = Ok n
offset_of (negsuc n) = Err fault.Range

abbrev pub target : (absolute : Bool) → (current : ℕ) → Result Value ExprError → Result ℕ FaultKind
target absolute current (Ok (value.Section i offset)) = if i == current then offset_of offset else Err fault.Form
target absolute current (Ok (value.Absolute n)) = if absolute then offset_of n else Err fault.Form
target absolute current (Ok (value.External i n)) = Err fault.Form
target absolute current (Err errors.Form) = Err fault.Form
target absolute current (Err errors.Unknown) = Err fault.Undefined
target absolute current (Err errors.Range) = Err fault.Range

abbrev pub moved_to : Result ℕ FaultKind → Standing → Result Standing FaultKind
moved_to (Ok n) s = moved n s
moved_to (Err kind) s = Err kind

abbrev pub place_moved : Site → List Token → Standing → Result Standing FaultKind
place_moved site tokens s =
    let t = told site.dialect site.here (symbols_of site.line tokens) s.scope in
    moved_to (target (is_absolute (current_of s.sections)) s.sections.current t.value) (with_scope t.scope s)

-- `. = e`, where the dialect has that
abbrev pub place_assigned : Bool → Site → List Token → Standing → Result Standing FaultKind
place_assigned true site tokens s = place_moved site tokens s
place_assigned false site tokens s = Err fault.UnknownOperator

abbrev pub without_waiting : Result Standing FaultKind → Assigned
without_waiting r = record { result = r; waiting = None }

abbrev pub named_assignment : Site → Bool → List ℕ → List Token → Standing → Assigned
named_assignment site global name tokens s =
    if is_place name then without_waiting (place_assigned (assigns_places s.dialect && not global) site tokens s)
    else (if is_local name then not_assigned fault.Form else name_assigned site global name tokens s)

-- `name = e` and, for other modules, `name == e`. Whether a name comes back to itself is told of all assignments together.
unfoldable pub assignment_stated : Origin → List ℕ → Token → Bool → List Token → Standing → Assigned
assignment_stated origin line name global tokens s = named_assignment (site_of origin line s) global (name_in line name) tokens s

-- the assignments that have no value yet, with one more
abbrev pub with_waiting : Option Assignment → List Assignment → List Assignment
with_waiting (Some a) assignments = assignments ++ a ∷ []
with_waiting None assignments = assignments

-- The attributes of a section: none is said twice differently.
abbrev pub with_align : ℕ → Attributes → Option ℕ → Option Attributes
with_align k a (Some before) = if k == before then Some a else None
with_align k a None = Some (record a { align = Some k })

abbrev pub same : Bool → Bool → Bool
same true b = b
same false b = not b

abbrev pub with_write : Bool → Attributes → Option Bool → Option Attributes
with_write w a (Some before) = if same w before then Some a else None
with_write w a None = Some (record a { write = Some w })

abbrev pub with_absolute : Bool → Attributes → Option Bool → Option Attributes
with_absolute b a (Some before) = if same b before then Some a else None
with_absolute b a None = Some (record a { absolute = Some b })

abbrev pub with_overlaid : Bool → Attributes → Option Bool → Option Attributes
with_overlaid b a (Some before) = if same b before then Some a else None
with_overlaid b a None = Some (record a { overlaid = Some b })

abbrev pub with_attribute : Option Attribute → Option Attributes → Option Attributes
with_attribute (Some (Align k)) (Some a) = with_align k a a.align
with_attribute (Some (Write w)) (Some a) = with_write w a a.write
with_attribute (Some (Absolute b)) (Some a) = with_absolute b a a.absolute
with_attribute (Some (Overlaid b)) (Some a) = with_overlaid b a a.overlaid
with_attribute (Some Ignored) (Some a) = Some a
with_attribute (Some x) None = None
with_attribute None found = None

abbrev pub attribute_by : List ℕ → Option Token → Option Attribute
attribute_by line (Some t) = attribute_of (token_text line t)
attribute_by line None = None

-- Attributes where the dialect has further directives: a power of two from 0 to 9, what says that a section is absolute or overlaid, and what says that it isn't
-- read, is one of vectors, or may be mixed with others, which means nothing here.
abbrev pub power_of_two : TokenKind → Option Attribute
power_of_two (kinds.Number n) = if nat_le n 9 then Some (Align n) else None
power_of_two kinds.Name = None
power_of_two (kinds.Mark m) = None
power_of_two kinds.Text = None

abbrev pub power_alone : List Token → Option Attribute
power_alone (t ∷ []) = power_of_two t.kind
power_alone tokens = None

abbrev pub says_nothing : List ℕ → Bool
says_nothing name = spells (codes "NORD") name || (spells (codes "VEC") name || (spells (codes "MIX") name || spells (codes "NOMIX") name))

abbrev pub word_named : List ℕ → Option Attribute
word_named name =
    if spells (codes "ABS") name then Some (Absolute true)
    else (if spells (codes "OVR") name then Some (Overlaid true)
    else (if says_nothing name then Some Ignored else None))

abbrev pub further_word : List ℕ → Option Token → Option Attribute
further_word line (Some t) = word_named (token_text line t)
further_word line None = None

abbrev pub either_attribute : Option Attribute → Option Attribute → Option Attribute
either_attribute (Some a) other = Some a
either_attribute None other = other

abbrev pub further_attribute : Bool → List ℕ → List Token → Option Attribute
further_attribute true line tokens = either_attribute (power_alone tokens) (further_word line (name_alone line tokens))
further_attribute false line tokens = None

-- the attribute that an operand is
abbrev pub attribute_at : Dialect → List ℕ → List Token → Option Attribute
attribute_at dialect line tokens = either_attribute (attribute_by line (name_alone line tokens)) (further_attribute (has_further_directives dialect) line tokens)

abbrev pub attributes_from : Dialect → List ℕ → List (List Token) → Option Attributes → Option Attributes
attributes_from dialect line [] found = found
attributes_from dialect line (part ∷ parts) found = attributes_from dialect line parts (with_attribute (attribute_at dialect line part) found)

abbrev pub nothing_said : Attributes
nothing_said = record { align = None; write = None; absolute = None; overlaid = None }

-- a section is chosen; a block of local labels begins
abbrev pub chosen : Standing → Result (Sections Fixup) Refusal → Result Standing FaultKind
chosen s (Ok sections) = Ok (record s { scope = next_block s.keeps_block s.scope; sections = sections })
chosen s (Err refusal) = Err fault.Form

abbrev pub section_chosen : Option (List ℕ) → Option Attributes → Standing → Result Standing FaultKind
section_chosen (Some name) (Some attributes) s = chosen s (selected name attributes s.sections)
section_chosen (Some name) None s = Err fault.Form
section_chosen None attributes s = Err fault.Form

-- without a name the section that has none, where the dialect goes on in it
abbrev pub unnamed_chosen : Bool → Standing → Result Standing FaultKind
unnamed_chosen true s = section_chosen (Some []) (Some nothing_said) s
unnamed_chosen false s = Err fault.Count

abbrev pub section_by : List ℕ → List (List Token) → Standing → Result Standing FaultKind
section_by line [] s = unnamed_chosen (has_unnamed_psect s.dialect) s
section_by line (name ∷ attributes) s = section_chosen (name_of line name) (attributes_from s.dialect line attributes (Some nothing_said)) s

-- `.PSECT`
unfoldable pub section_stated : List ℕ → List Token → Standing → Result Standing FaultKind
section_stated line tokens s = section_by line (parts tokens) s

-- The mask of an entry is kept for `.MASK`, if it is a number that is known where it stands.
abbrev pub mask_kept : List ℕ → Result Value ExprError → Standing → Result Standing FaultKind
mask_kept name (Ok (value.Absolute n)) s = defined s (mask_labelled name (value.Absolute n) s.scope)
mask_kept name (Ok (value.Section i n)) s = Ok s
mask_kept name (Ok (value.External i n)) s = Ok s
mask_kept name (Err e) s = Ok s

abbrev pub mask_noted : Site → List ℕ → List Token → Standing → Result Standing FaultKind
mask_noted site name mask s =
    let t = told site.dialect site.here (symbols_of site.line mask) s.scope in
    mask_kept name t.value (with_scope t.scope s)

abbrev pub noted_unless : Option FaultKind → Site → List ℕ → List Token → Standing → Result Standing FaultKind
noted_unless (Some kind) site name mask s = Err kind
noted_unless None site name mask s = mask_noted site name mask s

-- where the dialect has that
abbrev pub noted_where : Bool → Site → List ℕ → List Token → Progress → Result Standing FaultKind
noted_where true site name mask p = noted_unless p.fault site name mask p.standing
noted_where false site name mask p = done p

-- `.ENTRY`: a label for other modules, and a word that holds the mask
abbrev pub entry_by : Site → List ℕ → List Token → Progress → Result Standing FaultKind
entry_by site name mask p =
    noted_where (has_further_directives site.dialect) site name mask (joined p.fault (item_stated (Number size.W) site (whole mask) p.standing))

abbrev pub entry_named : Site → Option (List ℕ) → List Token → Standing → Result Standing FaultKind
entry_named site (Some name) mask s = entry_by site name mask (after_change s (symbol_stated true name s))
entry_named site None mask s = Err fault.Form

abbrev pub two_alone : List (List Token) → (List Token → List Token → Result Standing FaultKind) → Result Standing FaultKind
two_alone [] stated = Err fault.Count
two_alone (one ∷ []) stated = Err fault.Count
two_alone (one ∷ two ∷ []) stated = stated one two
two_alone (one ∷ two ∷ three ∷ more) stated = Err fault.Count

unfoldable pub entry_stated : Origin → List ℕ → List Token → Standing → Result Standing FaultKind
entry_stated origin line tokens s =
    two_alone (parts tokens) (λ name mask. entry_named (site_of origin line s) (name_of line name) mask s)

-- names for other modules, or from them
abbrev pub with_name : Linkage → Option (List ℕ) → Option Scope → Option Scope
with_name linkage (Some name) (Some s) = Some (linked linkage name s)
with_name linkage (Some name) None = None
with_name linkage None found = None

abbrev pub names_from : Linkage → List ℕ → List (List Token) → Option Scope → Option Scope
names_from linkage line [] found = found
names_from linkage line (part ∷ parts) found = names_from linkage line parts (with_name linkage (name_of line part) found)

abbrev pub named : Standing → Option Scope → Result Standing FaultKind
named s (Some scope) = Ok (with_scope scope s)
named s None = Err fault.Form

-- `.GLOBAL` and `.EXTERNAL`
unfoldable pub names_stated : Linkage → List ℕ → List Token → Standing → Result Standing FaultKind
names_stated linkage line tokens s = unless_none tokens (named s (names_from linkage line (parts tokens) (Some s.scope)))

-- `.END`, with the name at which the program begins. Behind it nothing is read, so the name has its definition by then, if this module
-- defines it.
abbrev pub begins_with : Bool → List ℕ → Entry → Standing → Result Standing FaultKind
begins_with true name e s = Err fault.Undefined
begins_with false name e s = Ok (record s { scope = e.scope; transfer = Some (record { name = name; definition = definition_at e }) })

abbrev pub begins_at : Option (List ℕ) → Standing → Result Standing FaultKind
begins_at (Some name) s = let e = entry name s.scope in begins_with (misses name e.scope) name e s
begins_at None s = Err fault.Form

abbrev pub end_by : List ℕ → List (List Token) → Standing → Result Standing FaultKind
end_by line [] s = Ok s
end_by line (name ∷ []) s = begins_at (name_of line name) s
end_by line (name ∷ more ∷ others) s = Err fault.Count

unfoldable pub end_stated : List ℕ → List Token → Standing → Result Standing FaultKind
end_stated line tokens s = end_by line (parts tokens) s
