-- Files behind their preludes, one more at a time.
use Rattle.std.proofs.Common.{◌≡◌, ◌<◌, ◌≤◌, ◌+◌, ℕ, suc, add-one, List, [], ◌∷◌, ◌++◌, append-nil, append_assoc, length, drop, drop-cons, ap, sym, ◌∙◌}
use Rattle.std.proofs.lemmas.List.{drop_all, length-map, map-append}
use Rattle.std.specs.Global.{Vec}
use Rattle.std.specs.Prelude.{slice_index_or}
use Rattle.vax_cli.specs.Words.{Text}
use Rattle.vax_command.specs.ReadingView.{texts}
use Rattle.vax_prelude.specs.Preludes.{Prelude}
use Rattle.vax_top.specs.Loaded.{joined_file, joined_files}

here : (files : List (Vec ℕ)) (i : ℕ) (f : Vec ℕ) → i < length files → f ≡ slice_index_or files i f → drop i files ≡ f ∷ drop (i + 1) files
here files i f h at = rw add-one (drop-cons files i f h ∙ ap (λ (v : Vec ℕ). v ∷ drop (suc i) files) (sym at))

abbrev joined_from : List Prelude → List (Vec ℕ) → List Text
joined_from preludes files = joined_files preludes (texts files)

pub file_joined : (preludes : List Prelude) (files : List (Vec ℕ)) (i : ℕ) (f t : Vec ℕ) (before after : List (Vec ℕ)) (all : List Text) → i < length files → f ≡ slice_index_or files i f → t.items ≡ joined_file preludes f.items → after ≡ before ++ t ∷ []
    → texts before ++ joined_from preludes (drop i files) ≡ all → texts after ++ joined_from preludes (drop (i + 1) files) ≡ all
file_joined preludes files i f t before after all h at is more same =
    ap (λ (l : List (Vec ℕ)). texts l ++ joined_from preludes (drop (i + 1) files)) more
    ∙ ap (λ (l : List Text). l ++ joined_from preludes (drop (i + 1) files)) (map-append (λ (v : Vec ℕ). v.items) before (t ∷ []))
    ∙ append_assoc (texts before) (t.items ∷ []) (joined_from preludes (drop (i + 1) files))
    ∙ ap (λ (x : Text). texts before ++ x ∷ joined_from preludes (drop (i + 1) files)) is
    ∙ ap (λ (l : List (Vec ℕ)). texts before ++ joined_from preludes l) (sym (here files i f h at))
    ∙ same

pub files_joined : (preludes : List Prelude) (files : List (Vec ℕ)) (i : ℕ) (before : List (Vec ℕ)) (all : List Text) → length files ≤ i → texts before ++ joined_from preludes (drop i files) ≡ all → texts before ≡ all
files_joined preludes files i before all h same = sym (append-nil (texts before)) ∙ ap (λ (l : List (Vec ℕ)). texts before ++ joined_from preludes l) (sym (drop_all i files h)) ∙ same

-- as many as there are files
pub joined_counted : (preludes : List Prelude) (files all : List (Vec ℕ)) → texts all ≡ joined_files preludes (texts files) → length all ≡ length files
joined_counted preludes files all e =
    sym (length-map all (λ (v : Vec ℕ). v.items)) ∙ ap (λ (l : List Text). length l) e
    ∙ length-map (texts files) (joined_file preludes) ∙ length-map files (λ (v : Vec ℕ). v.items)
