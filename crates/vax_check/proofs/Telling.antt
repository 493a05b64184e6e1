-- What is told of files, one more at a time.
use Rattle.std.proofs.Common.{◌≡◌, ◌<◌, ◌≤◌, ◌+◌, ◌⊎◌, inl, inr, ℕ, suc, add-one, List, [], ◌∷◌, length, min, drop, drop-cons, ap, arith, refl, sym, ◌∙◌}
use Rattle.std.proofs.lemmas.Bool.{cases_lt}
use Rattle.std.proofs.lemmas.List.{drop_all}
use Rattle.std.specs.Borrow.{Bor}
use Rattle.std.specs.Global.{Vec}
use Rattle.std.specs.Prelude.{slice_index_or}
use Rattle.vax_asm_causes.specs.Remarks.{Asked}
use Rattle.vax_check.specs.Told.{AreRemarked, AreTold, IsFileRemarked, IsFileTold}
use Rattle.vax_check.specs.View.{titles_of}
use Rattle.vax_dialect.specs.declared.Dialect.{Dialect}
use Rattle.vax_lines.specs.Lines.{Text}
use Rattle.vax_prelude.specs.Preludes.{Prelude, Title}
use Rattle.vax_program.specs.View.{texts}

pub here : {X : Type 0} (list : List X) (i : ℕ) (x : X) → i < length list → x ≡ slice_index_or list i x → drop i list ≡ x ∷ drop (i + 1) list
here {X} list i x h at = rw add-one (drop-cons list i x h ∙ ap (λ (y : X). y ∷ drop (suc i) list) (sym at))

-- behind the end of the shorter of two lists
past_by : (names files i stop : ℕ) → stop ≡ min names files → stop ≤ i → (i < names) ⊎ (names ≤ i) → (i < files) ⊎ (files ≤ i) → (names ≤ i) ⊎ (files ≤ i)
past_by names files i stop e h (inr few) other = inl few
past_by names files i stop e h (inl more) (inr few) = inr few
past_by names files i stop e h (inl more) (inl others) = absurd (omega (arith, e, h, more, others))

pub past : (names files i stop : ℕ) → stop ≡ min names files → stop ≤ i → (names ≤ i) ⊎ (files ≤ i)
past names files i stop e h = past_by names files i stop e h (cases_lt i names) (cases_lt i files)

-- the errors of one more file, and of no more
pub file_more : {All : Text → Type 0} (dialect : Dialect) (preludes : List Prelude) (names : List (Bor Text)) (files : List (Vec ℕ)) (i : ℕ) (n : Bor Text) (f : Vec ℕ) (before between : Text) → i < length names → i < length files → n ≡ slice_index_or names i n → f ≡ slice_index_or files i f → IsFileTold dialect (record { preludes = preludes; name = n.now }) f.items before between
    → ((after : Text) → AreTold dialect (titles_of preludes (drop i names)) (texts (drop i files)) before after → All after) → (after : Text) → AreTold dialect (titles_of preludes (drop (i + 1) names)) (texts (drop (i + 1) files)) between after → All after
file_more dialect preludes names files i n f before between hn hf en ef h all after more = all after (rw (here names i n hn en, here files i f hf ef) (between, h, more))

none_told : (dialect : Dialect) (names : List Title) (before : Text) → AreTold dialect names [] before before
none_told dialect [] before = refl
none_told dialect (name ∷ names) before = refl

files_done_by : {All : Text → Type 0} (dialect : Dialect) (preludes : List Prelude) (names : List (Bor Text)) (files : List (Vec ℕ)) (i : ℕ) (before : Text) → (length names ≤ i) ⊎ (length files ≤ i) → ((after : Text) → AreTold dialect (titles_of preludes (drop i names)) (texts (drop i files)) before after → All after) → All before
files_done_by dialect preludes names files i before (inl few) all = all before (rw (drop_all i names few) refl)
files_done_by dialect preludes names files i before (inr few) all = all before (rw (drop_all i files few) (none_told dialect (titles_of preludes (drop i names)) before))

pub files_done : {All : Text → Type 0} (dialect : Dialect) (preludes : List Prelude) (names : List (Bor Text)) (files : List (Vec ℕ)) (i stop : ℕ) (before : Text) → stop ≡ min (length names) (length files) → stop ≤ i → ((after : Text) → AreTold dialect (titles_of preludes (drop i names)) (texts (drop i files)) before after → All after) → All before
files_done dialect preludes names files i stop before e h all = files_done_by dialect preludes names files i before (past (length names) (length files) i stop e h) all

-- the remarks on one more file, and on no more
pub remark_more : {All : Text → Type 0} (dialect : Dialect) (asked : Asked) (preludes : List Prelude) (names : List (Bor Text)) (files : List (Vec ℕ)) (i : ℕ) (n : Bor Text) (f : Vec ℕ) (before between : Text) → i < length names → i < length files → n ≡ slice_index_or names i n → f ≡ slice_index_or files i f → IsFileRemarked dialect asked (record { preludes = preludes; name = n.now }) f.items before between
    → ((after : Text) → AreRemarked dialect asked (titles_of preludes (drop i names)) (texts (drop i files)) before after → All after) → (after : Text) → AreRemarked dialect asked (titles_of preludes (drop (i + 1) names)) (texts (drop (i + 1) files)) between after → All after
remark_more dialect asked preludes names files i n f before between hn hf en ef h all after more = all after (rw (here names i n hn en, here files i f hf ef) (between, h, more))

none_remarked : (dialect : Dialect) (asked : Asked) (names : List Title) (before : Text) → AreRemarked dialect asked names [] before before
none_remarked dialect asked [] before = refl
none_remarked dialect asked (name ∷ names) before = refl

remarks_done_by : {All : Text → Type 0} (dialect : Dialect) (asked : Asked) (preludes : List Prelude) (names : List (Bor Text)) (files : List (Vec ℕ)) (i : ℕ) (before : Text) → (length names ≤ i) ⊎ (length files ≤ i) → ((after : Text) → AreRemarked dialect asked (titles_of preludes (drop i names)) (texts (drop i files)) before after → All after) → All before
remarks_done_by dialect asked preludes names files i before (inl few) all = all before (rw (drop_all i names few) refl)
remarks_done_by dialect asked preludes names files i before (inr few) all = all before (rw (drop_all i files few) (none_remarked dialect asked (titles_of preludes (drop i names)) before))

pub remarks_done : {All : Text → Type 0} (dialect : Dialect) (asked : Asked) (preludes : List Prelude) (names : List (Bor Text)) (files : List (Vec ℕ)) (i stop : ℕ) (before : Text) → stop ≡ min (length names) (length files) → stop ≤ i → ((after : Text) → AreRemarked dialect asked (titles_of preludes (drop i names)) (texts (drop i files)) before after → All after) → All before
remarks_done dialect asked preludes names files i stop before e h all = remarks_done_by dialect asked preludes names files i before (past (length names) (length files) i stop e h) all
