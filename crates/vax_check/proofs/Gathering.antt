-- Files, one more at a time.
use Rattle.std.proofs.Common.{◌≡◌, ◌<◌, ◌≤◌, ◌+◌, ℕ, Bool, true, false, cond, List, [], ◌∷◌, ◌++◌, length, drop, append-nil, append_assoc, arith, refl, sym, ap, ◌∙◌}
use Rattle.std.proofs.lemmas.List.{drop_all, map-append}
use Rattle.std.specs.Global.{Vec}
use Rattle.std.specs.Prelude.{slice_index_or}
use Rattle.vax_asm_errors.specs.declared.errors.Source.{Source}
use Rattle.vax_check.proofs.Telling.{here}
use Rattle.vax_check.specs.Linking.{File, files_of, plays, those}
use Rattle.vax_check.specs.View.{file_seen, files_seen, with_if}
use Rattle.vax_check.specs.declared.sources.Role.{Role}
use Rattle.vax_dialect.specs.declared.Dialect.{Dialect}
use Rattle.vax_lines.specs.Lines.{Text}
use Rattle.vax_prelude.specs.Preludes.{Title}
use Rattle.vax_program.specs.View.{texts}

-- one more stands in front of the rest
moved : (before after : List Source) (s : Source) (rest all : List File) → after ≡ before ++ s ∷ [] → files_seen before ++ file_seen s ∷ rest ≡ all → files_seen after ++ rest ≡ all
moved before after s rest all e h =
    ap (λ (l : List Source). files_seen l ++ rest) e ∙ ap (λ (l : List File). l ++ rest) (map-append file_seen before (s ∷ []))
    ∙ append_assoc (files_seen before) (file_seen s ∷ []) rest ∙ h

-- behind the last text there is no file
none_left : (names : List Title) → files_of names [] ≡ []
unfolding files_of
none_left [] = refl
none_left (name ∷ names) = refl

none_short : (files : List (Vec ℕ)) → length files < 1 → files ≡ []
none_short [] h = refl
none_short (f ∷ files) h = absurd (omega (arith, h))

pub none_behind : (names : List Title) (files : List (Vec ℕ)) (before all : List File) → length files < 1 → before ++ files_of names (texts files) ≡ all → before ≡ all
none_behind names files before all e h =
    sym (append-nil before) ∙ ap (λ (l : List File). before ++ l) (sym (none_left names)) ∙ ap (λ (fs : List (Vec ℕ)). before ++ files_of names (texts fs)) (sym (none_short files e)) ∙ h

-- those of the files that have a part, when one more was tried
tried : (dialect : Dialect) (role : Role) (name : Text) (files : List Source) (i : ℕ) (f : Source) (b : Bool) → i < length files → f ≡ slice_index_or files i f → plays dialect role name (file_seen f) ≡ b
    → those dialect role name (files_seen (drop i files)) ≡ cond b (file_seen f ∷ those dialect role name (files_seen (drop (i + 1) files))) (those dialect role name (files_seen (drop (i + 1) files)))
tried dialect role name files i f b h at is = rw (here files i f h at, is) refl

pub one_tried : (dialect : Dialect) (role : Role) (name : Text) (files : List Source) (i : ℕ) (f : Source) (b : Bool) (before after : List Source) (all : List File) → i < length files → f ≡ slice_index_or files i f → b ≡ plays dialect role name (file_seen f) → after ≡ with_if b f before
    → files_seen before ++ those dialect role name (files_seen (drop i files)) ≡ all → files_seen after ++ those dialect role name (files_seen (drop (i + 1) files)) ≡ all
one_tried dialect role name files i f true before after all h at is e same =
    moved before after f (those dialect role name (files_seen (drop (i + 1) files))) all e
    (ap (λ (l : List File). files_seen before ++ l) (sym (tried dialect role name files i f true h at (sym is))) ∙ same)
one_tried dialect role name files i f false before after all h at is e same =
    ap (λ (l : List Source). files_seen l ++ those dialect role name (files_seen (drop (i + 1) files))) e
    ∙ ap (λ (l : List File). files_seen before ++ l) (sym (tried dialect role name files i f false h at (sym is))) ∙ same

pub all_tried : (dialect : Dialect) (role : Role) (name : Text) (files : List Source) (i : ℕ) (before : List Source) (all : List File) → length files ≤ i → files_seen before ++ those dialect role name (files_seen (drop i files)) ≡ all → files_seen before ≡ all
all_tried dialect role name files i before all h same =
    sym (append-nil (files_seen before)) ∙ ap (λ (l : List Source). files_seen before ++ those dialect role name (files_seen l)) (sym (drop_all i files h)) ∙ same
