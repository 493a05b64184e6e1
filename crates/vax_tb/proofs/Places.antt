-- Entries of a translation buffer, and its places.
use Rattle.std.proofs.Common.{ℕ, zero, suc, ◌≡◌, ◌≢◌, ◌%◌, ◌<◌, ◌≤◌, Bool, true, false, List, [], ◌∷◌, length, slice_index_or, slice_set, get_or-set_same, get_or-set_other, length-set, refl, ap, sym, ◌∙◌, subst, arith, inl, inr, map, Option, Some, None, replicate}
use Rattle.std.specs.Prelude.{◌==◌, ◌&&◌, if◌then◌else◌, is_some}
use Rattle.std.proofs.Math.Path.{fun_ext}
use Rattle.std.proofs.lemmas.Bool.{cases_Bool, cases_eq, eq-eqb, ne_eqb}
use Rattle.std.proofs.lemmas.List.{length-replicate}
use Rattle.vax_space.specs.declared.Access.{Access}
use Rattle.vax_space.specs.declared.Access.TheVariants.{Read, Write}
use Rattle.vax_space.specs.declared.Right.{Right}
use Rattle.vax_space.specs.declared.Right.TheVariants.{Nothing, ReadOnly, ReadWrite}
use Rattle.vax_space.specs.Protection.{allows, permits, protection_table, right_of}
use Rattle.vax_table.specs.declared.Walk.{Walk}
use Rattle.vax_table.specs.declared.Walk.TheVariants.{Resident}
use Rattle.vax_tb.specs.declared.buffer.Entry.{Entry}
use Rattle.vax_tb.specs.declared.buffer.Said.TheVariants as said
use Rattle.vax_tb.specs.Buffer.{Agrees, filled, dropped, empty, leaves_entry, at_once, raised_if}
use Rattle.vax_tb.specs.Entries.{no_entry, told, entry_for, unless_new, AreRights, AreSound, HaveRights}

-- rights
permits_once : (right : Right) (modified : Bool) (access : Access) → permits (unless_new right modified) access ≡ (permits right access && leaves_entry access modified)
permits_once Nothing modified access = refl
permits_once ReadOnly modified Read = refl
permits_once ReadOnly modified Write = refl
permits_once ReadWrite true Read = refl
permits_once ReadWrite true Write = refl
permits_once ReadWrite false Read = refl
permits_once ReadWrite false Write = refl

at_mode : (a b c d : Right) (mode : ℕ) (P : Right → ℕ → Type 0) → mode ≤ 3 → P a 0 → P b 1 → P c 2 → P d 3 → P (slice_index_or (a ∷ b ∷ c ∷ d ∷ []) mode Nothing) mode
at_mode a b c d zero P low x y z w = x
at_mode a b c d (suc zero) P low x y z w = y
at_mode a b c d (suc (suc zero)) P low x y z w = z
at_mode a b c d (suc (suc (suc zero))) P low x y z w = w
at_mode a b c d (suc (suc (suc (suc mode)))) P low x y z w = absurd (omega arith)

right_allows : (prot mode frame : ℕ) (modified : Bool) (access : Access) (right : Right) → right ≡ unless_new (right_of prot mode) modified → (if permits right access then Some frame else None) ≡ (if allows prot mode access && leaves_entry access modified then Some frame else None)
unfolding allows
right_allows prot mode frame modified access right e = rw (e, permits_once (right_of prot mode) modified access) refl

pub rights_resident : (page frame prot : ℕ) (modified : Bool) (rights : List Right) → HaveRights prot modified rights → AreRights (record { page = page; frame = frame; rights = rights; said = said.Resident prot modified })
rights_resident page frame prot modified rights have = record {
  modes = have.modes;
  rights = λ mode access low. right_allows prot mode frame modified access (slice_index_or rights mode Nothing) (have.each mode);
}

-- the rows of the two tables, of a modified page first
unless_modified : (right : Right) → right ≡ unless_new right true
unless_modified Nothing = refl
unless_modified ReadOnly = refl
unless_modified ReadWrite = refl

-- of a page that isn't modified
abbrev pub without_writes : List (List Right)
without_writes = map (map (λ (right : Right). unless_new right false)) protection_table

in_row : (rights : List Right) (mode : ℕ) → slice_index_or (map (λ (right : Right). unless_new right false) rights) mode Nothing ≡ unless_new (slice_index_or rights mode Nothing) false
in_row [] mode = refl
in_row (right ∷ rights) zero = refl
in_row (right ∷ rights) (suc mode) = in_row rights mode

in_rows : (rows : List (List Right)) (prot : ℕ) → slice_index_or (map (map (λ (right : Right). unless_new right false)) rows) prot [] ≡ map (λ (right : Right). unless_new right false) (slice_index_or rows prot [])
in_rows [] prot = refl
in_rows (row ∷ rows) zero = refl
in_rows (row ∷ rows) (suc prot) = in_rows rows prot

row_modified : (prot mode : ℕ) → slice_index_or (slice_index_or protection_table prot []) mode Nothing ≡ unless_new (right_of prot mode) true
unfolding right_of
row_modified prot mode = unless_modified (slice_index_or (slice_index_or protection_table prot []) mode Nothing)

row_unmodified : (prot mode : ℕ) → slice_index_or (slice_index_or without_writes prot []) mode Nothing ≡ unless_new (right_of prot mode) false
unfolding right_of
row_unmodified prot mode =
    ap (λ (row : List Right). slice_index_or row mode Nothing) (in_rows protection_table prot) ∙ in_row (slice_index_or protection_table prot []) mode

-- a row has four rights
size_at : (rows : List (List Right)) (place : ℕ) → length (slice_index_or rows place []) ≡ slice_index_or (map (λ (row : List Right). length row) rows) place 0
size_at [] place = refl
size_at (row ∷ rows) zero = refl
size_at (row ∷ rows) (suc place) = size_at rows place

same_at : (n place size : ℕ) → place < n → slice_index_or (replicate n size) place 0 ≡ size
same_at zero place size low = absurd (omega arith)
same_at (suc n) zero size low = refl
same_at (suc n) (suc place) size low = same_at n place size (omega arith)

four : (rows : List (List Right)) (prot : ℕ) → map (λ (row : List Right). length row) rows ≡ replicate 16 4 → prot ≤ 15 → length (slice_index_or rows prot []) ≡ 4
four rows prot sizes low = size_at rows prot ∙ ap (λ (xs : List ℕ). slice_index_or xs prot 0) sizes ∙ same_at 16 prot 4 (omega arith)

pub have_modified : (prot : ℕ) → prot ≤ 15 → HaveRights prot true (slice_index_or protection_table prot [])
have_modified prot low = record { modes = four protection_table prot refl low; each = row_modified prot }

pub have_unmodified : (prot : ℕ) → prot ≤ 15 → HaveRights prot false (slice_index_or without_writes prot [])
have_unmodified prot low = record { modes = four without_writes prot refl low; each = row_unmodified prot }

none_at : (mode : ℕ) (access : Access) (frame : ℕ) → mode ≤ 3 → ◌≡◌ {A = Option ℕ} (if permits (slice_index_or (Nothing ∷ Nothing ∷ Nothing ∷ Nothing ∷ []) mode Nothing) access then Some frame else None) None
none_at mode access frame low = at_mode Nothing Nothing Nothing Nothing mode (λ right m. ◌≡◌ {A = Option ℕ} (if permits right access then Some frame else None) None) low refl refl refl refl

pub rights_nothing : (page frame : ℕ) → AreRights (record { page = page; frame = frame; rights = Nothing ∷ Nothing ∷ Nothing ∷ Nothing ∷ []; said = said.Nothing })
rights_nothing page frame = record { modes = refl; rights = λ mode access low. none_at mode access frame low }

pub rights_absent : (page frame prot : ℕ) → AreRights (record { page = page; frame = frame; rights = Nothing ∷ Nothing ∷ Nothing ∷ Nothing ∷ []; said = said.Absent prot })
rights_absent page frame prot = record { modes = refl; rights = λ mode access low. none_at mode access frame low }

pub rights_outside : (page frame : ℕ) (past : Bool) → AreRights (record { page = page; frame = frame; rights = Nothing ∷ Nothing ∷ Nothing ∷ Nothing ∷ []; said = said.Outside past })
rights_outside page frame past = record { modes = refl; rights = λ mode access low. none_at mode access frame low }

-- places
abbrev pub entry_at : List Entry → ℕ → Entry
entry_at entries place = slice_index_or entries place no_entry

pub sound_set : (entries : List Entry) (place : ℕ) (entry : Entry) → place < 128 → AreRights entry → AreSound entries → AreSound (slice_set entries place entry)
sound_set entries place entry low rights sound = record {
  size = length-set entries place entry ∙ sound.size;
  each = λ i below. elim (cases_eq i place) [
    | inl e ↦ rw (e, get_or-set_same entries place entry no_entry (omega (arith, sound.size))) rights
    | inr o ↦ rw (get_or-set_other entries place i entry no_entry o) (sound.each i below)
  ];
}

other_place : (entries : List Entry) (place : ℕ) (entry : Entry) (page : ℕ) → page % 128 ≢ place → entry_for (slice_set entries place entry) page ≡ entry_for entries page
unfolding entry_for
other_place entries place entry page o = rw (get_or-set_other entries place (page % 128) entry no_entry o) refl

same_place : (entries : List Entry) (page other : ℕ) (entry : Entry) → length entries ≡ 128 → other % 128 ≡ page % 128 → entry_for (slice_set entries (page % 128) entry) other ≡ (if entry.page == other then told entry else None)
unfolding entry_for
same_place entries page other entry size e = rw (e, get_or-set_same entries (page % 128) entry no_entry (omega arith)) refl

pub set_filled : (entries : List Entry) (page : ℕ) (entry : Entry) (walk : Walk) → length entries ≡ 128 → entry.page ≡ page → told entry ≡ Some walk → entry_for (slice_set entries (page % 128) entry) ≡ filled (entry_for entries) page walk
unfolding filled
set_filled entries page entry walk size is says = fun_ext (λ other. elim (cases_eq (other % 128) (page % 128)) [
  | inl e ↦ same_place entries page other entry size e ∙ (elim (cases_eq other page) [
    | inl same ↦ rw (is, same, eq-eqb page page refl) says
    | inr o ↦ rw (is, ne_eqb page other (λ k. o (sym k)), ne_eqb other page o, eq-eqb (other % 128) (page % 128) e) refl
  ])
  | inr o ↦
      let ne : other ≢ page = λ k. o (ap (λ z. z % 128) k) in
      other_place entries (page % 128) entry other o ∙ rw (ne_eqb other page ne, ne_eqb (other % 128) (page % 128) o) refl
])

none_either : (b : Bool) (o : Option Walk) → o ≡ None → ◌≡◌ {A = Option Walk} (if b then o else None) None
none_either true o e = e
none_either false o e = refl

pub set_dropped : (entries : List Entry) (page : ℕ) (entry : Entry) → length entries ≡ 128 → told entry ≡ None → (entry_at entries (page % 128)).page ≡ page → entry_for (slice_set entries (page % 128) entry) ≡ dropped (entry_for entries) page
unfolding dropped
set_dropped entries page entry size says here = fun_ext (λ other. elim (cases_eq (other % 128) (page % 128)) [
  | inl e ↦ same_place entries page other entry size e ∙ none_either (entry.page == other) (told entry) says ∙ (elim (cases_eq other page) [
    | inl same ↦ rw (same, eq-eqb page page refl) refl
    | inr o ↦ rw (ne_eqb other page o) (unfold entry_for in rw (e, here, ne_eqb page other (λ k. o (sym k))) refl)
  ])
  | inr o ↦
      let ne : other ≢ page = λ k. o (ap (λ z. z % 128) k) in
      other_place entries (page % 128) entry other o ∙ rw (ne_eqb other page ne) refl
])

pub none_dropped : (entries : List Entry) (page : ℕ) → (entry_at entries (page % 128)).page ≢ page → entry_for entries ≡ dropped (entry_for entries) page
unfolding dropped
none_dropped entries page o = fun_ext (λ other. elim (cases_eq other page) [
  | inl same ↦ rw (same, eq-eqb page page refl) (unfold entry_for in rw (ne_eqb (entry_at entries (page % 128)).page page o) refl)
  | inr ne ↦ rw (ne_eqb other page ne) refl
])

-- an entry that is there
pub hit_filled : (entries : List Entry) (page : ℕ) (walk : Walk) → (entry_at entries (page % 128)).page ≡ page → told (entry_at entries (page % 128)) ≡ Some walk → entry_for entries ≡ filled (entry_for entries) page walk
unfolding filled
hit_filled entries page walk here says = fun_ext (λ other. elim (cases_eq other page) [
  | inl same ↦ rw (same, eq-eqb page page refl) (unfold entry_for in rw (here, eq-eqb page page refl) says)
  | inr ne ↦ rw (ne_eqb other page ne) (elim (cases_eq (other % 128) (page % 128)) [
    | inl e ↦ rw (eq-eqb (other % 128) (page % 128) e) (unfold entry_for in rw (e, here, ne_eqb page other (λ k. ne (sym k))) refl)
    | inr o ↦ rw (ne_eqb (other % 128) (page % 128) o) refl
  ])
])

pub hit : (entries : List Entry) (page : ℕ) (o : Option Walk) → (entry_at entries (page % 128)).page ≡ page → told (entry_at entries (page % 128)) ≡ o → entry_for entries page ≡ o
unfolding entry_for
hit entries page o here says = rw (here, eq-eqb page page refl) says

pub missed : (entries : List Entry) (page : ℕ) → (entry_at entries (page % 128)).page ≢ page → entry_for entries page ≡ None
unfolding entry_for
missed entries page o = rw (ne_eqb (entry_at entries (page % 128)).page page o) refl

-- agreement
pub agrees_filled : (buffered : ℕ → Option Walk) (walked : ℕ → Walk) (page : ℕ) → Agrees buffered walked → Agrees (filled buffered page (walked page)) walked
unfolding filled
agrees_filled buffered walked page agrees = record {
  holds = λ other walk. elim (cases_eq other page) [
    | inl e ↦ rw (eq-eqb other page e) (λ h. let k : walked page ≡ walk = cc in ap walked e ∙ k)
    | inr o ↦ rw (ne_eqb other page o) (elim (cases_eq (other % 128) (page % 128)) [
      | inl same ↦ rw (eq-eqb (other % 128) (page % 128) same) (λ h. cc)
      | inr ne ↦ rw (ne_eqb (other % 128) (page % 128) ne) (λ h. agrees.holds other walk h)
    ])
  ];
}

pub agrees_now : (now old : ℕ → Option Walk) (walked : ℕ → Walk) (page : ℕ) (walk : Walk) → now ≡ filled old page walk → walk ≡ walked page → Agrees old walked → Agrees now walked
agrees_now now old walked page walk e is agrees =
    subst (λ (b : ℕ → Option Walk). Agrees b walked) (sym (e ∙ ap (filled old page) is)) (agrees_filled old walked page agrees)

told_any : (n place : ℕ) (entry : Entry) → told entry ≡ None → told (slice_index_or (replicate n entry) place no_entry) ≡ None
told_any zero place entry says = refl
told_any (suc n) zero entry says = says
told_any (suc n) (suc place) entry says = told_any n place entry says

pub none_buffered : (n page : ℕ) (entry : Entry) → told entry ≡ None → entry_for (replicate n entry) page ≡ None
unfolding entry_for
none_buffered n page entry says = elim (cases_Bool ((slice_index_or (replicate n entry) (page % 128) no_entry).page == page)) [
  | inl t ↦ rw t (told_any n (page % 128) entry says)
  | inr f ↦ rw f refl
]

pub new_empty : (n : ℕ) (entry : Entry) → told entry ≡ None → entry_for (replicate n entry) ≡ empty
new_empty n entry says = fun_ext (λ page. none_buffered n page entry says)

rights_any : (n place : ℕ) (entry : Entry) → place < n → AreRights entry → AreRights (slice_index_or (replicate n entry) place no_entry)
rights_any zero place entry low rights = absurd (omega arith)
rights_any (suc n) zero entry low rights = rights
rights_any (suc n) (suc place) entry low rights = rights_any n place entry (omega arith) rights

pub new_sound : (n : ℕ) (entry : Entry) → n ≡ 128 → AreRights entry → AreSound (replicate n entry)
new_sound n entry size rights = record { size = length-replicate {A = Entry} n entry ∙ size; each = λ place low. rights_any n place entry (omega arith) rights }

-- the same of an entry at its place
abbrev page_at : List Entry → ℕ → ℕ
page_at entries place = (entry_at entries place).page

pub there : (entries : List Entry) (page place : ℕ) → place ≡ page % 128 → (entry_at entries place).page ≡ page → told (entry_at entries place) ≡ entry_for entries page
there entries page place e here =
    sym (hit entries page (told (entry_at entries place)) (ap (page_at entries) (sym e) ∙ here) (ap (λ z. told (entry_at entries z)) (sym e)))

pub away_none : (entries : List Entry) (page place : ℕ) → place ≡ page % 128 → (entry_at entries place).page ≢ page → None ≡ entry_for entries page
away_none entries page place e away = sym (missed entries page (λ k. away (ap (page_at entries) e ∙ k)))

pub there_filled : (entries : List Entry) (page : ℕ) (o : Option Walk) (walk : Walk) → o ≡ entry_for entries page → o ≡ Some walk → entry_for entries ≡ filled (entry_for entries) page walk
there_filled entries page o walk is some =
    let found : entry_for entries page ≡ Some walk = sym is ∙ some in
    elim (cases_eq (page_at entries (page % 128)) page) [
      | inl here ↦ hit_filled entries page walk here (sym (hit entries page (told (entry_at entries (page % 128))) here refl) ∙ found)
      | inr away ↦ let none = missed entries page away in let bad : None ≡ Some walk = sym none ∙ found in cc
    ]

pub there_dropped : (entries : List Entry) (page place : ℕ) (none : Entry) → AreSound entries → place ≡ page % 128 → (entry_at entries place).page ≡ page → told none ≡ None → entry_for (slice_set entries place none) ≡ dropped (entry_for entries) page
there_dropped entries page place none sound e here says =
    ap (λ z. entry_for (slice_set entries z none)) e ∙ set_dropped entries page none sound.size says (ap (page_at entries) (sym e) ∙ here)

pub away_dropped : (entries : List Entry) (page place : ℕ) → place ≡ page % 128 → (entry_at entries place).page ≢ page → entry_for entries ≡ dropped (entry_for entries) page
away_dropped entries page place e away = none_dropped entries page (λ k. away (ap (page_at entries) e ∙ k))

pub set_here : (entries : List Entry) (page place : ℕ) (entry : Entry) (walk : Walk) → AreSound entries → place ≡ page % 128 → entry.page ≡ page → told entry ≡ Some walk → entry_for (slice_set entries place entry) ≡ filled (entry_for entries) page walk
set_here entries page place entry walk sound e is says = ap (λ z. entry_for (slice_set entries z entry)) e ∙ set_filled entries page entry walk sound.size is says

pub sound_here : (entries : List Entry) (page place : ℕ) (entry : Entry) → place ≡ page % 128 → AreRights entry → AreSound entries → AreSound (slice_set entries place entry)
sound_here entries page place entry e rights sound = sound_set entries place entry (omega arith) rights sound

-- what may be done at once
pub once_away : (entries : List Entry) (page place mode : ℕ) (access : Access) → place ≡ page % 128 → (entry_at entries place).page ≢ page → None ≡ at_once (entry_for entries page) mode access
once_away entries page place mode access e away = ap (λ (w : Option Walk). at_once w mode access) (away_none entries page place e away)

once_here : (entries : List Entry) (page place mode : ℕ) (access : Access) → mode ≤ 3 → AreSound entries → place ≡ page % 128 → (entry_at entries place).page ≡ page → (if permits (slice_index_or (entry_at entries place).rights mode Nothing) access then Some (entry_at entries place).frame else None) ≡ at_once (entry_for entries page) mode access
once_here entries page place mode access of_mode sound e here =
    (sound.each place (omega arith)).rights mode access of_mode ∙ ap (λ (o : Option Walk). at_once o mode access) (there entries page place e here)

pub once_yes : (entries : List Entry) (page place mode : ℕ) (access : Access) (may : Bool) → mode ≤ 3 → AreSound entries → place ≡ page % 128 → (entry_at entries place).page ≡ page → may ≡ permits (slice_index_or (entry_at entries place).rights mode Nothing) access → may ≡ true → Some (entry_at entries place).frame ≡ at_once (entry_for entries page) mode access
once_yes entries page place mode access may of_mode sound e here is so =
    ap (λ (z : Bool). if z then Some (entry_at entries place).frame else None) (sym so ∙ is) ∙ once_here entries page place mode access of_mode sound e here

pub once_no : (entries : List Entry) (page place mode : ℕ) (access : Access) (may : Bool) → mode ≤ 3 → AreSound entries → place ≡ page % 128 → (entry_at entries place).page ≡ page → may ≡ permits (slice_index_or (entry_at entries place).rights mode Nothing) access → may ≡ false → None ≡ at_once (entry_for entries page) mode access
once_no entries page place mode access may of_mode sound e here is so =
    ap (λ (z : Bool). if z then Some (entry_at entries place).frame else None) (sym so ∙ is) ∙ once_here entries page place mode access of_mode sound e here

pub counts_hit : (b : ℕ → Option Walk) (page hits count : ℕ) (o : Option Walk) (walk : Walk) → o ≡ b page → o ≡ Some walk → count ≡ raised_if true hits → count ≡ raised_if (is_some (b page)) hits
counts_hit b page hits count o walk is some e = e ∙ ap (λ (z : Option Walk). raised_if (is_some z) hits) (sym some ∙ is)

pub counts_miss : (b : ℕ → Option Walk) (page hits : ℕ) (o : Option Walk) → o ≡ b page → o ≡ None → hits ≡ raised_if (is_some (b page)) hits
counts_miss b page hits o is none = ap (λ (z : Option Walk). raised_if (is_some z) hits) (sym none ∙ is)

-- an entry that comes in allows what the tables allow
pub once_walked : (page frame prot mode : ℕ) (modified may : Bool) (access : Access) (rights : List Right) (walk : Walk) → walk ≡ Resident frame prot modified → mode ≤ 3 → HaveRights prot modified rights → may ≡ permits (slice_index_or rights mode Nothing) access → may ≡ true → at_once (Some walk) mode access ≡ Some frame
once_walked page frame prot mode modified may access rights walk is low have e so =
    ap (λ (w : Walk). at_once (Some w) mode access) is
    ∙ sym ((rights_resident page frame prot modified rights have).rights mode access low)
    ∙ ap (λ (z : Bool). if z then Some frame else None) (sym e ∙ so)
