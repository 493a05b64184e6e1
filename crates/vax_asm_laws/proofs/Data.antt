-- Directives of data.
use Rattle.std.proofs.Common.{◌≡◌, ◌*◌, ℕ, pos, Bool, true, false, cond, List, [], ◌∷◌, length, map, Option, Some, None, Result, Ok, Err, refl, ap, subst, ◌∙◌}
use Rattle.std.proofs.Math.Nat.{mul_comm}
use Rattle.std.proofs.lemmas.List.{length-replicate}
use Rattle.vax_asm_data.specs.Data.{Ending, Plain, Counted_first, Zero_last, Described, address_stated, addresses_stated, align_by, align_stated, align_to, at_most_one, before_pieces, behind_pieces, boundary, boundary_named, characters_of, count_stated, count_within, data_stated, descriptor_head, descriptor_stated, even_stated, expression_stated, fixed, is_nothing, item_stated, item_told, items_stated, one_or_two, behind_fill, byte_of, fill_by, fill_where, filled_by, filled_to, filling_with, piece_stated, place_behind, pieces_length, pieces_stated, placed_item, room, room_by, space_stated, text_by, text_parts, text_stated, to_odd, odd_stated, forward, moved, unless_none, zero_stated}
use Rattle.std.specs.Prelude.{◌&&◌, ◌==◌, ◌-◌, ◌^◌, nat_lt, replicate, if◌then◌else◌}
use Rattle.vax_dialect.specs.Differences.{has_empty_items, has_further_directives}
use Rattle.vax_asm_second.proofs.Fitting.{data_length}
use Rattle.vax_asm_sections.specs.Layout.{Bytes, Field, Part, Sections, Zeros, aligned, current_of, gap, is_absolute, place_in, put}
use Rattle.vax_asm_sections.specs.declared.types.Refusal.{Refusal}
use Rattle.vax_lex.specs.declared.token.Token.{Token}
use Rattle.vax_lex.specs.Grammar.{symbols_of}
use Rattle.vax_lex.specs.declared.value.Value.TheVariants as value
use Rattle.vax_macro.specs.declared.error.FaultKind.{FaultKind}
use Rattle.vax_macro.specs.declared.error.FaultKind.TheVariants as fault
use Rattle.vax_asm_encode.specs.Operands.{item_bytes, item_field}
use Rattle.vax_asm_encode.specs.declared.operand.DataKind.{DataKind}
use Rattle.vax_asm_encode.specs.declared.operand.DataKind.TheVariants.{Number}
use Rattle.vax_asm_first.specs.Faults.{fault_of_value, unless_place}
use Rattle.vax_asm_first.specs.Fixups.{Filling, Fixup, Known, filling_by}
use Rattle.vax_asm_first.specs.Progress.{Progress, Site, added, after_change, begun, counted, done, done_by, joined, site_of}
use Rattle.vax_asm_first.specs.Standing.{Standing, misplaces, set_back, with_scope, with_sections}
use Rattle.vax_asm_first.specs.declared.types.Content.TheVariants.{Data}
use Rattle.vax_asm_first.specs.declared.types.Origin.{Origin}
use Rattle.vax_asm_statement.specs.Items.{Item, Piece, Characters, Value as ByteValue, item_of, pieces_of, whole}
use Rattle.vax_asm_statement.specs.Parts.{parts}
use Rattle.vax_word.specs.declared.Size.TheVariants as size
use Rattle.vax_asm_laws.specs.Counted.{AreCounted, BeginsAt, part_length}
use Rattle.vax_asm_laws.specs.Lying.{MayStand}
use Rattle.vax_asm_laws.proofs.Counting.{Step, align_step, back_step, put_step, step_same, step_then}

-- from what stands, whose sections are counted, to this
abbrev pub Goes : Standing → Standing → Type 0
Goes s t = Step s.sections t.sections

abbrev pub IsCounted : Standing → Type 0
IsCounted s = AreCounted s.sections

pub with_sections_goes : (s t : Standing) (r : Result (Sections Fixup) Refusal) → ((u : Sections Fixup) → r ≡ Ok u → Step s.sections u) → with_sections s r ≡ Ok t → Goes s t
with_sections_goes s t (Ok u) h e =
    let same : u ≡ t.sections = ap (λ (x : Standing). x.sections) (let all : record { dialect = s.dialect; scope = s.scope; keeps_block = s.keeps_block; absolute = s.absolute; displacement = s.displacement; sections = u; saved = s.saved; transfer = s.transfer } ≡ t = cc in all) in
    subst (λ (x : Sections Fixup). Step s.sections x) same (h u refl)
with_sections_goes s t (Err refusal) h e = cc

pub after_change_goes : (s : Standing) (r : Result Standing FaultKind) → IsCounted s → ((t : Standing) → r ≡ Ok t → Goes s t) → Goes s (after_change s r).standing
after_change_goes s (Ok t) c h = h t refl
after_change_goes s (Err kind) c h = step_same s.sections c

pub added_goes : (n : ℕ) (p : Part Fixup) (s : Standing) → IsCounted s → part_length p ≡ n → BeginsAt (current_of s.sections).size p → MayStand p → Goes s (added n p s).standing
added_goes n p s c e b may =
    after_change_goes s (with_sections s (put n p s.sections)) c
    (λ t made. with_sections_goes s t (put n p s.sections) (λ u made. put_step n p s.sections u c e b may made) made)

done_is : (f : Option FaultKind) (s t : Standing) → done_by f s ≡ Ok t → s ≡ t
done_is None s t e = cc
done_is (Some kind) s t e = cc

-- a progress without a fault
pub done_goes : (s t : Standing) (p : Progress) → Goes s p.standing → done p ≡ Ok t → Goes s t
done_goes s t p h e = subst (λ (x : Standing). Goes s x) (done_is p.fault p.standing t e) h

-- ---- items

fixed_goes : (k : DataKind) (site : Site) (n : ℕ) (filling : Filling) (s : Standing) → IsCounted s → Goes s (fixed k site n filling s).standing
fixed_goes k site n filling s c =
    added_goes (item_bytes k * n) (Field (record { origin = site.origin; at = (current_of s.sections).size; content = Data k n; filling = filling })) s c (data_length k n 0 ∙ mul_comm n (item_bytes k)) refl tt

pub placed_goes : (k : DataKind) (site : Site) (f : Option FaultKind) (n : Result ℕ FaultKind) (filling : Filling) (s : Standing) → IsCounted s → Goes s (placed_item k site f n filling s).standing
placed_goes k site None (Ok n) filling s c = fixed_goes k site n filling s c
placed_goes k site (Some kind) (Ok n) filling s c = step_same s.sections c
placed_goes k site None (Err kind) filling s c = step_same s.sections c
placed_goes k site (Some other) (Err kind) filling s c = step_same s.sections c

zero_goes : (k : DataKind) (site : Site) (item : Item) (s : Standing) → IsCounted s → Goes s (zero_stated k site item s).standing
zero_goes k site item s c =
    let n = counted site item.count s.scope in
    placed_goes k site None n.number (Known (value.Absolute (pos 0))) (with_scope n.scope s) c

expression_goes : (k : DataKind) (site : Site) (item : Item) (s : Standing) → IsCounted s → Goes s (expression_stated k site item s).standing
expression_goes k site item s c =
    let t = item_told site item s in
    let n = counted site item.count t.scope in
    placed_goes k site (unless_place (misplaces s.dialect (symbols_of site.line item.expression)) (fault_of_value (item_field k) 0 0 t.settled)) n.number (filling_by t.value t.written) (with_scope n.scope s) c

either_goes : (b : Bool) (s : Standing) (p q : Progress) → Goes s p.standing → Goes s q.standing → Goes s (cond b p q).standing
either_goes true s p q h i = h
either_goes false s p q h i = i

pub item_goes : (k : DataKind) (site : Site) (item : Item) (s : Standing) → IsCounted s → Goes s (item_stated k site item s).standing
item_goes k site item s c =
    either_goes (is_nothing item.expression && has_empty_items s.dialect) s (zero_stated k site item s) (expression_stated k site item s)
    (zero_goes k site item s c) (expression_goes k site item s c)

items_go : (k : DataKind) (site : Site) (items : List Item) (p : Progress) → IsCounted p.standing → Goes p.standing (items_stated k site items p).standing
items_go k site [] p c = step_same p.standing.sections c
items_go k site (item ∷ items) p c =
    let one : Progress = item_stated k site item p.standing in
    let first : Goes p.standing one.standing = item_goes k site item p.standing c in
    step_then p.standing.sections one.standing.sections (items_stated k site items (joined p.fault one)).standing.sections first
    (items_go k site items (joined p.fault one) first.counted)

unless_none_is : (tokens : List Token) (r : Result Standing FaultKind) (t : Standing) → unless_none tokens r ≡ Ok t → r ≡ Ok t
unless_none_is [] r t e = cc
unless_none_is (x ∷ tokens) r t e = e

pub unless_none_goes : (tokens : List Token) (r : Result Standing FaultKind) (s t : Standing) → (r ≡ Ok t → Goes s t) → unless_none tokens r ≡ Ok t → Goes s t
unless_none_goes tokens r s t h e = h (unless_none_is tokens r t e)

pub data_goes : (k : DataKind) (origin : Origin) (line : List ℕ) (tokens : List Token) (s t : Standing) → IsCounted s → data_stated k origin line tokens s ≡ Ok t → Goes s t
unfolding data_stated
data_goes k origin line tokens s t c e =
    let p : Progress = items_stated k (site_of origin line s) (map item_of (parts tokens)) (begun s) in
    unless_none_goes tokens (done p) s t (done_goes s t p (items_go k (site_of origin line s) (map item_of (parts tokens)) (begun s) c)) e

pub addresses_go : (origin : Origin) (line : List ℕ) (tokens : List Token) (s t : Standing) → IsCounted s → addresses_stated origin line tokens s ≡ Ok t → Goes s t
unfolding addresses_stated
addresses_go origin line tokens s t c e =
    let p : Progress = items_stated (Number size.L) (site_of origin line s) (map whole (parts tokens)) (begun s) in
    unless_none_goes tokens (done p) s t (done_goes s t p (items_go (Number size.L) (site_of origin line s) (map whole (parts tokens)) (begun s) c)) e

-- ---- texts

piece_goes : (site : Site) (piece : Piece) (s : Standing) → IsCounted s → Goes s (piece_stated site piece s).standing
piece_goes site (Characters x) s c = added_goes (length (characters_of site.line x)) (Bytes (characters_of site.line x)) s c refl tt tt
piece_goes site (ByteValue tokens) s c = item_goes (Number size.B) site (whole tokens) s c

pieces_go : (site : Site) (pieces : List Piece) (p : Progress) → IsCounted p.standing → Goes p.standing (pieces_stated site pieces p).standing
pieces_go site [] p c = step_same p.standing.sections c
pieces_go site (piece ∷ pieces) p c =
    let one : Progress = piece_stated site piece p.standing in
    let first : Goes p.standing one.standing = piece_goes site piece p.standing c in
    step_then p.standing.sections one.standing.sections (pieces_stated site pieces (joined p.fault one)).standing.sections first
    (pieces_go site pieces (joined p.fault one) first.counted)

count_goes : (o : Option ℕ) (s : Standing) → IsCounted s → Goes s (count_stated o s).standing
count_goes (Some n) s c = added_goes 1 (Bytes (n ∷ [])) s c refl tt tt
count_goes None s c = step_same s.sections c

address_goes : (site : Site) (p : Progress) → IsCounted p.standing → Goes p.standing (address_stated site p).standing
address_goes site p c = fixed_goes (Number size.L) site 1 (Known (place_behind 8 site.here)) p.standing c

descriptor_goes : (o : Option ℕ) (site : Site) (s : Standing) → IsCounted s → Goes s (descriptor_stated o site s).standing
descriptor_goes (Some n) site s c =
    let first : Progress = added 4 (Bytes (descriptor_head n)) s in
    let front : Goes s first.standing = added_goes 4 (Bytes (descriptor_head n)) s c refl tt tt in
    step_then s.sections first.standing.sections (address_stated site first).standing.sections front (address_goes site first front.counted)
descriptor_goes None site s c = step_same s.sections c

before_goes : (ending : Ending) (site : Site) (n : ℕ) (s : Standing) → IsCounted s → Goes s (before_pieces ending site n s).standing
before_goes Plain site n s c = step_same s.sections c
before_goes Counted_first site n s c = count_goes (count_within 255 n) s c
before_goes Zero_last site n s c = step_same s.sections c
before_goes Described site n s c = descriptor_goes (count_within 65535 n) site s c

behind_goes : (ending : Ending) (p : Progress) → IsCounted p.standing → Goes p.standing (behind_pieces ending p).standing
behind_goes Plain p c = step_same p.standing.sections c
behind_goes Counted_first p c = step_same p.standing.sections c
behind_goes Described p c = step_same p.standing.sections c
behind_goes Zero_last p c = added_goes 1 (Zeros 1) p.standing c refl tt tt

text_parts_go : (ending : Ending) (site : Site) (pieces : List Piece) (s : Standing) → IsCounted s → Goes s (text_parts ending site pieces s).standing
text_parts_go ending site pieces s c =
    let first : Progress = before_pieces ending site (pieces_length site.line pieces) s in
    let second : Progress = pieces_stated site pieces first in
    let a : Goes s first.standing = before_goes ending site (pieces_length site.line pieces) s c in
    let b : Goes first.standing second.standing = pieces_go site pieces first a.counted in
    step_then s.sections second.standing.sections (behind_pieces ending second).standing.sections
    (step_then s.sections first.standing.sections second.standing.sections a b)
    (behind_goes ending second b.counted)

text_by_goes : (ending : Ending) (site : Site) (s t : Standing) (o : Option (List Piece)) → IsCounted s → text_by ending site s o ≡ Ok t → Goes s t
text_by_goes ending site s t None c e = cc
text_by_goes ending site s t (Some pieces) c e = done_goes s t (text_parts ending site pieces s) (text_parts_go ending site pieces s c) e

pub text_goes : (ending : Ending) (origin : Origin) (line : List ℕ) (tokens : List Token) (s t : Standing) → IsCounted s → text_stated ending origin line tokens s ≡ Ok t → Goes s t
unfolding text_stated
text_goes ending origin line tokens s t c e =
    unless_none_goes tokens (text_by ending (site_of origin line s) s (pieces_of tokens)) s t (text_by_goes ending (site_of origin line s) s t (pieces_of tokens) c) e

-- ---- room and boundaries

room_goes : (k : DataKind) (s t : Standing) (n : Result ℕ FaultKind) → IsCounted s → room k s n ≡ Ok t → Goes s t
room_goes k s t (Ok n) c e =
    with_sections_goes s t (put (item_bytes k * n) (Zeros (item_bytes k * n)) s.sections) (λ u made. put_step (item_bytes k * n) (Zeros (item_bytes k * n)) s.sections u c refl tt tt made) e
room_goes k s t (Err kind) c e = cc

room_by_goes : (k : DataKind) (site : Site) (count : Option (List Token)) (s t : Standing) → IsCounted s → room_by k site count s ≡ Ok t → Goes s t
room_by_goes k site count s t c e =
    let n = counted site count s.scope in
    room_goes k (with_scope n.scope s) t n.number c e

at_most_goes : (found : List (List Token)) (stated : Option (List Token) → Result Standing FaultKind) (s t : Standing) → ((o : Option (List Token)) → stated o ≡ Ok t → Goes s t) → at_most_one found stated ≡ Ok t → Goes s t
at_most_goes [] stated s t h e = h None e
at_most_goes (one ∷ []) stated s t h e = h (Some one) e
at_most_goes (one ∷ two ∷ more) stated s t h e = cc

pub space_goes : (k : DataKind) (origin : Origin) (line : List ℕ) (tokens : List Token) (s t : Standing) → IsCounted s → space_stated k origin line tokens s ≡ Ok t → Goes s t
unfolding space_stated
space_goes k origin line tokens s t c e =
    at_most_goes (parts tokens) (λ count. room_by k (site_of origin line s) count s) s t (λ o made. room_by_goes k (site_of origin line s) o s t c made) e

align_to_goes : (s t : Standing) (n : Result ℕ FaultKind) → IsCounted s → align_to s n ≡ Ok t → Goes s t
align_to_goes s t (Ok k) c e = with_sections_goes s t (aligned k s.sections) (λ u made. align_step k s.sections u c made) e
align_to_goes s t (Err kind) c e = cc

align_by_goes : (site : Site) (tokens : List Token) (s t : Standing) → IsCounted s → align_by site tokens s ≡ Ok t → Goes s t
align_by_goes site tokens s t c e =
    let n = boundary site tokens (boundary_named site.line tokens) s.scope in
    align_to_goes (with_scope n.scope s) t n.number c e

behind_fill_goes : (k : ℕ) (s t : Standing) (r : Result Standing FaultKind) → ((u : Standing) → r ≡ Ok u → Goes s u) → behind_fill k r ≡ Ok t → Goes s t
behind_fill_goes k s t (Ok u) h e =
    let first : Goes s u = h u refl in
    step_then s.sections u.sections t.sections first
    (with_sections_goes u t (aligned k u.sections) (λ v made. align_step k u.sections v first.counted made) e)
behind_fill_goes k s t (Err kind) h e = cc

-- a filling is as long as it is said to be, and may stand anywhere
record Fits (n : ℕ) (p : Part Fixup) : Type 0 where
  length : part_length p ≡ n
  begins : (at : ℕ) → BeginsAt at p
  stands : MayStand p

filling_fits : (byte n : ℕ) (b : Bool) → Fits n (if b then Zeros n else Bytes (replicate n byte))
filling_fits byte n true = record { length = refl; begins = λ at. tt; stands = tt }
filling_fits byte n false = record { length = length-replicate n byte; begins = λ at. tt; stands = tt }

filled_to_goes : (byte k : ℕ) (s t : Standing) → IsCounted s → filled_to byte k s ≡ Ok t → Goes s t
filled_to_goes byte k s t c e =
    let n : ℕ = gap (place_in (current_of s.sections)) (2 ^ k) in
    let part : Part Fixup = filling_with byte n in
    let fits = filling_fits byte n (byte == 0) in
    behind_fill_goes k s t (with_sections s (put n part s.sections))
    (λ u made. with_sections_goes s u (put n part s.sections) (λ v put_made. put_step n part s.sections v c fits.length (fits.begins (current_of s.sections).size) fits.stands put_made) made) e

filled_by_goes : (s t : Standing) (boundary byte : Result ℕ FaultKind) → IsCounted s → filled_by s boundary byte ≡ Ok t → Goes s t
filled_by_goes s t (Ok k) (Ok byte) c e = filled_to_goes byte k s t c e
filled_by_goes s t (Ok k) (Err kind) c e = cc
filled_by_goes s t (Err kind) (Ok byte) c e = cc
filled_by_goes s t (Err kind) (Err other) c e = cc

fill_by_goes : (site : Site) (tokens byte : List Token) (s t : Standing) → IsCounted s → fill_by site tokens byte s ≡ Ok t → Goes s t
fill_by_goes site tokens byte s t c e =
    let b = boundary site tokens (boundary_named site.line tokens) s.scope in
    let n = counted site (Some byte) b.scope in
    filled_by_goes (with_scope n.scope s) t b.number (byte_of n.number) c e

where_goes : (may : Bool) (site : Site) (tokens byte : List Token) (s t : Standing) → IsCounted s → fill_where may site tokens byte s ≡ Ok t → Goes s t
where_goes true site tokens byte s t c e = fill_by_goes site tokens byte s t c e
where_goes false site tokens byte s t c e = cc

one_or_two_goes : (found : List (List Token)) (stated : List Token → Result Standing FaultKind) (both : List Token → List Token → Result Standing FaultKind) (s t : Standing)
    → ((o : List Token) → stated o ≡ Ok t → Goes s t) → ((o p : List Token) → both o p ≡ Ok t → Goes s t) → one_or_two found stated both ≡ Ok t → Goes s t
one_or_two_goes [] stated both s t h g e = cc
one_or_two_goes (one ∷ []) stated both s t h g e = h one e
one_or_two_goes (one ∷ two ∷ []) stated both s t h g e = g one two e
one_or_two_goes (one ∷ two ∷ three ∷ more) stated both s t h g e = cc

pub align_goes : (origin : Origin) (line : List ℕ) (tokens : List Token) (s t : Standing) → IsCounted s → align_stated origin line tokens s ≡ Ok t → Goes s t
unfolding align_stated
align_goes origin line tokens s t c e =
    let may : Bool = has_further_directives s.dialect in
    one_or_two_goes (parts tokens) (λ one. align_by (site_of origin line s) one s) (λ one byte. fill_where may (site_of origin line s) one byte s) s t
    (λ o made. align_by_goes (site_of origin line s) o s t c made) (λ o p made. where_goes may (site_of origin line s) o p s t c made) e

pub even_goes : (tokens : List Token) (s t : Standing) → IsCounted s → even_stated tokens s ≡ Ok t → Goes s t
unfolding even_stated
even_goes [] s t c e = with_sections_goes s t (aligned 1 s.sections) (λ u made. align_step 1 s.sections u c made) e
even_goes (x ∷ tokens) s t c e = cc

pub odd_goes : (tokens : List Token) (s t : Standing) → IsCounted s → odd_stated tokens s ≡ Ok t → Goes s t
unfolding odd_stated
odd_goes [] s t c e =
    let n = to_odd (place_in (current_of s.sections)) in
    with_sections_goes s t (put n (Zeros n) s.sections) (λ u made. put_step n (Zeros n) s.sections u c refl tt tt made) e
odd_goes (x ∷ tokens) s t c e = cc

further_goes : (b : Bool) (n : ℕ) (s t : Standing) → IsCounted s → (if b then Err fault.Range else with_sections s (put n (Zeros n) s.sections)) ≡ Ok t → Goes s t
further_goes true n s t c e = cc
further_goes false n s t c e = with_sections_goes s t (put n (Zeros n) s.sections) (λ u made. put_step n (Zeros n) s.sections u c refl tt tt made) e

forward_goes : (to : ℕ) (s t : Standing) → IsCounted s → forward to s ≡ Ok t → Goes s t
forward_goes to s t c e =
    let place = place_in (current_of s.sections) in
    further_goes (nat_lt to place) (to - place) s t c e

moved_by_goes : (b : Bool) (to : ℕ) (s t : Standing) → IsCounted s → (if b then Ok (set_back to s) else forward to s) ≡ Ok t → Goes s t
moved_by_goes true to s t c e =
    let same : set_back to s ≡ t = cc in
    subst (λ (x : Standing). Goes s x) same (back_step to s.sections c)
moved_by_goes false to s t c e = forward_goes to s t c e

pub moved_goes : (to : ℕ) (s t : Standing) → IsCounted s → moved to s ≡ Ok t → Goes s t
unfolding moved
moved_goes to s t c e =
    let section = current_of s.sections in
    moved_by_goes (is_absolute section && nat_lt to (place_in section)) to s t c e
