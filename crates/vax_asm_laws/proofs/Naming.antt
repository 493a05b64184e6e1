-- Names, sections, entries and the end.
use Rattle.std.proofs.Common.{◌≡◌, ℕ, Bool, true, false, List, [], ◌∷◌, Option, Some, None, Result, Ok, Err, refl, sym, ap, subst, ◌∙◌}
use Rattle.std.specs.Prelude.{◌&&◌, ◌++◌, length, nat_lt, not, if◌then◌else◌}
use Rattle.vax_dialect.specs.Differences.{assigns_places, has_further_directives, has_unnamed_psect}
use Rattle.vax_asm_sections.specs.Layout.{Sections, current_of, is_absolute, selected}
use Rattle.vax_asm_sections.specs.declared.types.Attributes.{Attributes}
use Rattle.vax_asm_sections.specs.declared.types.Refusal.{Refusal}
use Rattle.vax_lex.specs.Grammar.{symbols_of}
use Rattle.vax_lex.specs.declared.token.Token.{Token}
use Rattle.vax_lex.specs.declared.value.ExprError.{ExprError}
use Rattle.vax_lex.specs.declared.value.Value.{Value}
use Rattle.vax_lex.specs.declared.value.Value.TheVariants as value
use Rattle.vax_macro.specs.declared.error.FaultKind.{FaultKind}
use Rattle.vax_macro.specs.declared.error.FaultKind.TheVariants as fault
use Rattle.vax_asm_names.specs.declared.types.Duplicate.{Duplicate}
use Rattle.vax_asm_names.specs.declared.types.Linkage.{Linkage}
use Rattle.vax_asm_labels.specs.Contexts.{block_restored, block_wanted, restored_by, restored_stated, saved_by, saved_stated}
use Rattle.vax_asm_labels.specs.Defaults.{default_at, default_stated, displaced_by}
use Rattle.vax_isa.specs.declared.actions.Narrow.{Narrow}
use Rattle.vax_asm_labels.specs.Functions.{all_switched, function_at, functions_stated, switched, then_switched}
use Rattle.vax_asm_labels.specs.declared.switches.Function.{Function}
use Rattle.vax_asm_labels.specs.declared.switches.Function.TheVariants.{Idle, Externals, Absolute, LongBlocks}
use Rattle.vax_asm_labels.specs.Naming.{next_block, moved_to, place_assigned, target, unnamed_chosen, without_waiting, assigned_by, assignment_stated, attributes_from, begins, begins_at, begins_with, chosen, defined, end_by, end_stated, entry_named, entry_stated, fault_of, is_place, label_stated, local_stated, mask_kept, name_assigned, name_in, name_of, named, names_from, names_stated, not_assigned, noted_unless, noted_where, nothing_said, section_by, section_chosen, section_stated, shared, symbol_stated, two_alone}
use Rattle.vax_asm_first.specs.Fixups.{Fixup}
use Rattle.vax_asm_first.specs.Progress.{Progress, Site, after_change, joined, site_of}
use Rattle.vax_asm_first.specs.Standing.{Saved, Standing, Told, block_of, here_in, last_of, told, with_scope, without_last}
use Rattle.vax_asm_first.specs.declared.types.Origin.{Origin}
use Rattle.vax_asm_scope.specs.Masks.{mask_labelled}
use Rattle.vax_asm_scope.specs.Scope.{Entry, Scope, assigned, assuming, entry, in_block, is_local, labelled, labelled_locally, misses}
use Rattle.vax_asm_statement.specs.Items.{whole}
use Rattle.vax_asm_statement.specs.Parts.{parts}
use Rattle.vax_asm_statement.specs.declared.reading.Label.{Label}
use Rattle.vax_word.specs.declared.Size.TheVariants as size
use Rattle.vax_asm_encode.specs.declared.operand.DataKind.TheVariants.{Number}
use Rattle.vax_asm_data.specs.Data.{item_stated}
use Rattle.vax_asm_laws.proofs.Counting.{Step, select_step, step_same, step_then}
use Rattle.vax_asm_laws.proofs.Data.{Goes, IsCounted, after_change_goes, done_goes, item_goes, moved_goes as moved_on_goes, unless_none_goes}

-- the sections of what a statement leaves
abbrev sections_in : Result Standing FaultKind → Standing → Sections Fixup
sections_in (Ok t) s = t.sections
sections_in (Err kind) s = s.sections

-- what has the same sections
pub same_goes : (s t u : Standing) → IsCounted s → u.sections ≡ s.sections → (let r : Result Standing FaultKind = Ok u in r) ≡ Ok t → Goes s t
same_goes s t u c same e =
    subst (λ (x : Sections Fixup). Step s.sections x) (sym same ∙ ap (λ (r : Result Standing FaultKind). sections_in r s) e) (step_same s.sections c)

defined_goes : (s t : Standing) (r : Result Scope Duplicate) → IsCounted s → defined s r ≡ Ok t → Goes s t
defined_goes s t (Ok scope) c e = same_goes s t (with_scope scope s) c refl e
defined_goes s t (Err x) c e = cc

pub symbol_goes : (global : Bool) (name : List ℕ) (s t : Standing) → IsCounted s → symbol_stated global name s ≡ Ok t → Goes s t
symbol_goes global name s t c e = defined_goes s t (begins s.keeps_block global name (labelled name (here_in s.sections) s.scope)) c e

local_goes : (global : Bool) (name : List ℕ) (s t : Standing) → IsCounted s → local_stated global name s ≡ Ok t → Goes s t
local_goes true name s t c e = cc
local_goes false name s t c e = defined_goes s t (labelled_locally name (here_in s.sections) s.scope) c e

label_by : (place local global : Bool) (name : List ℕ) (s t : Standing) → IsCounted s
    → (if place then Err fault.Form else (if local then local_stated global name s else symbol_stated global name s)) ≡ Ok t → Goes s t
label_by true local global name s t c e = cc
label_by false true global name s t c e = local_goes global name s t c e
label_by false false global name s t c e = symbol_goes global name s t c e

pub label_goes : (line : List ℕ) (label : Label) (s t : Standing) → IsCounted s → label_stated line label s ≡ Ok t → Goes s t
unfolding label_stated
label_goes line label s t c e =
    let name : List ℕ = name_in line label.name in
    label_by (is_place name) (is_local name) label.global name s t c e

-- ---- assignments

assigned_goes : (global : Bool) (name : List ℕ) (s t : Standing) (r : Result Scope Duplicate) → IsCounted s → assigned_by global name s r ≡ Ok t → Goes s t
assigned_goes global name s t (Ok scope) c e = same_goes s t (with_scope (shared global name scope) s) c refl e
assigned_goes global name s t (Err x) c e = cc

name_goes : (site : Site) (global : Bool) (name : List ℕ) (tokens : List Token) (s t : Standing) → IsCounted s → (name_assigned site global name tokens s).result ≡ Ok t → Goes s t
name_goes site global name tokens s t c e =
    let w : Told = told site.dialect site.here (symbols_of site.line tokens) (entry name s.scope).scope in
    let r : Result Standing FaultKind = assigned_by global name s (assigned name w.written w.scope) in
    done_goes s t (joined (fault_of w.settled) (after_change s r))
    (after_change_goes s r c (λ u made. assigned_goes global name s u (assigned name w.written w.scope) c made)) e

moved_goes : (s t : Standing) (n : Result ℕ FaultKind) → IsCounted s → moved_to n s ≡ Ok t → Goes s t
moved_goes s t (Ok n) c e = moved_on_goes n s t c e
moved_goes s t (Err kind) c e = cc

place_goes : (b : Bool) (site : Site) (tokens : List Token) (s t : Standing) → IsCounted s → place_assigned b site tokens s ≡ Ok t → Goes s t
place_goes true site tokens s t c e =
    let w : Told = told site.dialect site.here (symbols_of site.line tokens) s.scope in
    moved_goes (with_scope w.scope s) t (target (is_absolute (current_of s.sections)) s.sections.current w.value) c e
place_goes false site tokens s t c e = cc

assignment_by : (place local : Bool) (site : Site) (global : Bool) (name : List ℕ) (tokens : List Token) (s t : Standing) → IsCounted s
    → (if place then without_waiting (place_assigned (assigns_places s.dialect && not global) site tokens s)
    else (if local then not_assigned fault.Form else name_assigned site global name tokens s)).result ≡ Ok t → Goes s t
assignment_by true local site global name tokens s t c e = place_goes (assigns_places s.dialect && not global) site tokens s t c e
assignment_by false true site global name tokens s t c e = cc
assignment_by false false site global name tokens s t c e = name_goes site global name tokens s t c e

pub assignment_goes : (origin : Origin) (line : List ℕ) (name : Token) (global : Bool) (tokens : List Token) (s t : Standing) → IsCounted s → (assignment_stated origin line name global tokens s).result ≡ Ok t → Goes s t
unfolding assignment_stated
assignment_goes origin line name global tokens s t c e =
    let n : List ℕ = name_in line name in
    assignment_by (is_place n) (is_local n) (site_of origin line s) global n tokens s t c e

-- ---- sections

chosen_goes : (s t : Standing) (r : Result (Sections Fixup) Refusal) → ((u : Sections Fixup) → r ≡ Ok u → Step s.sections u) → chosen s r ≡ Ok t → Goes s t
chosen_goes s t (Ok u) h e =
    let made : record { dialect = s.dialect; scope = next_block s.keeps_block s.scope; keeps_block = s.keeps_block; absolute = s.absolute; displacement = s.displacement; sections = u; saved = s.saved; transfer = s.transfer } ≡ t = cc in
    subst (λ (x : Standing). Goes s x) made (h u refl)
chosen_goes s t (Err refusal) h e = cc

section_goes_by : (name : Option (List ℕ)) (attributes : Option Attributes) (s t : Standing) → IsCounted s → section_chosen name attributes s ≡ Ok t → Goes s t
section_goes_by (Some name) (Some a) s t c e = chosen_goes s t (selected name a s.sections) (λ u made. select_step name a s.sections u c made) e
section_goes_by (Some name) None s t c e = cc
section_goes_by None (Some a) s t c e = cc
section_goes_by None None s t c e = cc

unnamed_goes : (b : Bool) (s t : Standing) → IsCounted s → unnamed_chosen b s ≡ Ok t → Goes s t
unnamed_goes true s t c e = section_goes_by (Some []) (Some nothing_said) s t c e
unnamed_goes false s t c e = cc

sections_by : (line : List ℕ) (found : List (List Token)) (s t : Standing) → IsCounted s → section_by line found s ≡ Ok t → Goes s t
sections_by line [] s t c e = unnamed_goes (has_unnamed_psect s.dialect) s t c e
sections_by line (name ∷ attributes) s t c e = section_goes_by (name_of line name) (attributes_from s.dialect line attributes (Some nothing_said)) s t c e

pub section_goes : (line : List ℕ) (tokens : List Token) (s t : Standing) → IsCounted s → section_stated line tokens s ≡ Ok t → Goes s t
unfolding section_stated
section_goes line tokens s t c e = sections_by line (parts tokens) s t c e

-- ---- defaults

displaced_goes : (size : Option Narrow) (s t : Standing) → IsCounted s → displaced_by size s ≡ Ok t → Goes s t
displaced_goes (Some size) s t c e = same_goes s t (record s { displacement = size }) c refl e
displaced_goes None s t c e = cc

-- ---- sections that are put aside

aside_goes : (b : Bool) (s t u : Standing) → IsCounted s → u.sections ≡ s.sections → (let r : Result Standing FaultKind = if b then Ok u else Err fault.Depth in r) ≡ Ok t → Goes s t
aside_goes true s t u c same e = same_goes s t u c same e
aside_goes false s t u c same e = cc

saved_goes_by : (wanted : Result Bool FaultKind) (s t : Standing) → IsCounted s → saved_by wanted s ≡ Ok t → Goes s t
saved_goes_by (Ok with_block) s t c e =
    let context : Saved = record { section = (current_of s.sections).name; block = block_of with_block s } in
    aside_goes (nat_lt (length s.saved) 31) s t (record s { saved = s.saved ++ context ∷ [] }) c refl e
saved_goes_by (Err kind) s t c e = cc

pub saved_goes : (line : List ℕ) (tokens : List Token) (s t : Standing) → IsCounted s → saved_stated line tokens s ≡ Ok t → Goes s t
unfolding saved_stated
saved_goes line tokens s t c e = saved_goes_by (block_wanted line (parts tokens)) s t c e

block_goes : (block : Option ℕ) (s t : Standing) (r : Result Standing FaultKind) → ((u : Standing) → r ≡ Ok u → Goes s u) → block_restored block r ≡ Ok t → Goes s t
block_goes (Some i) s t (Ok u) h e =
    let first : Goes s u = h u refl in
    step_then s.sections u.sections t.sections first (same_goes u t (with_scope (in_block i u.scope) u) first.counted refl e)
block_goes None s t (Ok u) h e = h t e
block_goes (Some i) s t (Err kind) h e = cc
block_goes None s t (Err kind) h e = cc

restored_goes_by : (saved : Option Saved) (s t : Standing) → IsCounted s → restored_by saved s ≡ Ok t → Goes s t
restored_goes_by (Some saved) s t c e =
    block_goes saved.block s t (section_chosen (Some saved.section) (Some nothing_said) s) (λ u made. section_goes_by (Some saved.section) (Some nothing_said) s u c made) e
restored_goes_by None s t c e = cc

pub restored_goes : (tokens : List Token) (s t : Standing) → IsCounted s → restored_stated tokens s ≡ Ok t → Goes s t
unfolding restored_stated
restored_goes [] s t c e = restored_goes_by (last_of s.saved) (without_last s) t c e
restored_goes (x ∷ tokens) s t c e = cc

-- ---- entries, names, the end

kept_goes : (name : List ℕ) (mask : Result Value ExprError) (s t : Standing) → IsCounted s → mask_kept name mask s ≡ Ok t → Goes s t
kept_goes name (Ok (value.Absolute n)) s t c e = defined_goes s t (mask_labelled name (value.Absolute n) s.scope) c e
kept_goes name (Ok (value.Section i n)) s t c e = same_goes s t s c refl e
kept_goes name (Ok (value.External i n)) s t c e = same_goes s t s c refl e
kept_goes name (Err x) s t c e = same_goes s t s c refl e

unless_noted_goes : (f : Option FaultKind) (site : Site) (name : List ℕ) (mask : List Token) (s t : Standing) → IsCounted s → noted_unless f site name mask s ≡ Ok t → Goes s t
unless_noted_goes (Some kind) site name mask s t c e = cc
unless_noted_goes None site name mask s t c e =
    let w : Told = told site.dialect site.here (symbols_of site.line mask) s.scope in
    kept_goes name w.value (with_scope w.scope s) t c e

where_noted_goes : (b : Bool) (site : Site) (name : List ℕ) (mask : List Token) (s t : Standing) (p : Progress) → Goes s p.standing → noted_where b site name mask p ≡ Ok t → Goes s t
where_noted_goes true site name mask s t p h e =
    step_then s.sections p.standing.sections t.sections h (unless_noted_goes p.fault site name mask p.standing t h.counted e)
where_noted_goes false site name mask s t p h e = done_goes s t p h e

entry_goes_by : (site : Site) (name : Option (List ℕ)) (mask : List Token) (s t : Standing) → IsCounted s → entry_named site name mask s ≡ Ok t → Goes s t
entry_goes_by site (Some name) mask s t c e =
    let first : Progress = after_change s (symbol_stated true name s) in
    let second : Progress = item_stated (Number size.W) site (whole mask) first.standing in
    let a : Goes s first.standing = after_change_goes s (symbol_stated true name s) c (λ u made. symbol_goes true name s u c made) in
    where_noted_goes (has_further_directives site.dialect) site name mask s t (joined first.fault second)
    (step_then s.sections first.standing.sections second.standing.sections a (item_goes (Number size.W) site (whole mask) first.standing a.counted)) e
entry_goes_by site None mask s t c e = cc

two_goes : (found : List (List Token)) (stated : List Token → List Token → Result Standing FaultKind) (s t : Standing) → ((x y : List Token) → stated x y ≡ Ok t → Goes s t) → two_alone found stated ≡ Ok t → Goes s t
two_goes [] stated s t h e = cc
two_goes (one ∷ []) stated s t h e = cc
two_goes (one ∷ two ∷ []) stated s t h e = h one two e
two_goes (one ∷ two ∷ three ∷ more) stated s t h e = cc

pub entry_goes : (origin : Origin) (line : List ℕ) (tokens : List Token) (s t : Standing) → IsCounted s → entry_stated origin line tokens s ≡ Ok t → Goes s t
unfolding entry_stated
entry_goes origin line tokens s t c e =
    two_goes (parts tokens) (λ name mask. entry_named (site_of origin line s) (name_of line name) mask s) s t
    (λ name mask made. entry_goes_by (site_of origin line s) (name_of line name) mask s t c made) e

named_goes : (s t : Standing) (o : Option Scope) → IsCounted s → named s o ≡ Ok t → Goes s t
named_goes s t (Some scope) c e = same_goes s t (with_scope scope s) c refl e
named_goes s t None c e = cc

pub names_go : (linkage : Linkage) (line : List ℕ) (tokens : List Token) (s t : Standing) → IsCounted s → names_stated linkage line tokens s ≡ Ok t → Goes s t
unfolding names_stated
names_go linkage line tokens s t c e =
    unless_none_goes tokens (named s (names_from linkage line (parts tokens) (Some s.scope))) s t (named_goes s t (names_from linkage line (parts tokens) (Some s.scope)) c) e

switched_goes : (on : Bool) (f : Option Function) (s t : Standing) → IsCounted s → switched on f s ≡ Ok t → Goes s t
switched_goes on None s t c e = cc
switched_goes on (Some Idle) s t c e = same_goes s t s c refl e
switched_goes on (Some Externals) s t c e = same_goes s t (with_scope (assuming on s.scope) s) c refl e
switched_goes on (Some Absolute) s t c e = same_goes s t (record s { absolute = on }) c refl e
switched_goes on (Some LongBlocks) s t c e = same_goes s t (record s { scope = next_block (not on) s.scope; keeps_block = on }) c refl e

then_goes : (on : Bool) (f : Option Function) (s t : Standing) (r : Result Standing FaultKind) → ((u : Standing) → r ≡ Ok u → Goes s u) → then_switched on f r ≡ Ok t → Goes s t
then_goes on f s t (Ok u) h e = let first : Goes s u = h u refl in step_then s.sections u.sections t.sections first (switched_goes on f u t first.counted e)
then_goes on f s t (Err kind) h e = cc

all_switched_go : (on : Bool) (line : List ℕ) (found : List (List Token)) (s t : Standing) (r : Result Standing FaultKind) → ((u : Standing) → r ≡ Ok u → Goes s u) → all_switched on line found r ≡ Ok t → Goes s t
all_switched_go on line [] s t r h e = h t e
all_switched_go on line (part ∷ found) s t r h e =
    all_switched_go on line found s t (then_switched on (function_at line part) r) (λ u made. then_goes on (function_at line part) s u r h made) e

pub functions_go : (on : Bool) (line : List ℕ) (tokens : List Token) (s t : Standing) → IsCounted s → functions_stated on line tokens s ≡ Ok t → Goes s t
unfolding functions_stated
functions_go on line tokens s t c e =
    unless_none_goes tokens (all_switched on line (parts tokens) (Ok s)) s t
    (all_switched_go on line (parts tokens) s t (Ok s) (λ u made. same_goes s u s c refl made)) e

pub default_goes : (line : List ℕ) (tokens : List Token) (s t : Standing) → IsCounted s → default_stated line tokens s ≡ Ok t → Goes s t
unfolding default_stated
default_goes line tokens s t c e =
    two_goes (parts tokens) (λ name size. displaced_by (default_at line name size) s) s t (λ name size made. displaced_goes (default_at line name size) s t c made) e

begins_with_goes : (missing : Bool) (name : List ℕ) (found : Entry) (s t : Standing) → IsCounted s → begins_with missing name found s ≡ Ok t → Goes s t
begins_with_goes true name found s t c e = cc
begins_with_goes false name found s t c e = subst (λ (x : Sections Fixup). Step s.sections x) (ap (λ (r : Result Standing FaultKind). sections_in r s) e) (step_same s.sections c)

begins_goes : (name : Option (List ℕ)) (s t : Standing) → IsCounted s → begins_at name s ≡ Ok t → Goes s t
begins_goes (Some name) s t c e = let found : Entry = entry name s.scope in begins_with_goes (misses name found.scope) name found s t c e
begins_goes None s t c e = cc

end_goes_by : (line : List ℕ) (found : List (List Token)) (s t : Standing) → IsCounted s → end_by line found s ≡ Ok t → Goes s t
end_goes_by line [] s t c e = same_goes s t s c refl e
end_goes_by line (name ∷ []) s t c e = begins_goes (name_of line name) s t c e
end_goes_by line (name ∷ more ∷ others) s t c e = cc

pub end_goes : (line : List ℕ) (tokens : List Token) (s t : Standing) → IsCounted s → end_stated line tokens s ≡ Ok t → Goes s t
unfolding end_stated
end_goes line tokens s t c e = end_goes_by line (parts tokens) s t c e
