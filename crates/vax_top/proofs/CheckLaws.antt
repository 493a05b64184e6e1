-- What is told of a program, and what `check` comes to.
use Rattle.std.proofs.Common.{◌≡◌, ◌≤◌, ◌+◌, ◌==◌, Bool, true, false, ℕ, inl, inr, List, [], ◌∷◌, ◌++◌, append-nil, drop, length, take, Option, None, Some, Result, Ok, Err, ap, arith, refl, subst, sym, ◌∙◌}
use Rattle.std.specs.Prelude.{suc}
use Rattle.std.proofs.lemmas.Bool.Decides.{nat_tests}
use Rattle.std.proofs.lemmas.List.{drop-map, length-append, length-map, map-append, take-map}
use Rattle.std.specs.Borrow.{Bor}
use Rattle.std.specs.Global.{Vec}
use Rattle.vax_check.specs.Told.{Tells}
use Rattle.vax_cli.specs.Said.{names_of}
use Rattle.vax_cli.specs.Words.{Text, check}
use Rattle.vax_cli.specs.declared.command.Target.{Target}
use Rattle.vax_dialect.specs.declared.Dialect.{Dialect}
use Rattle.vax_command.specs.Around.{Around, Change, around, untouched, with_preludes}
use Rattle.vax_command.specs.Ends.{Ends, EndsSo}
use Rattle.vax_command.specs.Reading.{Reads, given, of_programs}
use Rattle.vax_command.specs.ReadingView.{texts}
use Rattle.vax_command.specs.Status.{refusal_growth}
use Rattle.vax_command.specs.declared.status.Status.{Status}
use Rattle.vax_command.specs.declared.status.Status.TheVariants.{NoMemory}
use Rattle.vax_image.specs.declared.Base.{Base}
use Rattle.vax_outside.specs.Blocks.{BlockFile}
use Rattle.vax_outside.specs.Channels.{Channels, only}
use Rattle.vax_outside.specs.Directory.{Directory}
use Rattle.vax_outside.specs.declared.traits.Chan.TheVariants.{Out}
use Rattle.vax_prelude.specs.Preludes.{Prelude, Title, titles_of}
use Rattle.vax_program.specs.Program.{Refusal}
use Rattle.vax_top.specs.Checked.{IsChecking, answer_of, checked_names, found_in, found_of, is_bare, refusal_of}
use Rattle.vax_top.specs.Loaded.{image_from, joined_files, user_loaded}
use Rattle.vax_top.specs.Top.{Carries, CommandComes, base_for}

-- the names of a program's files, and behind them that of a system's
pub name_behind : (names all : List (Bor Text)) (name : Bor Text) → all ≡ names ++ name ∷ [] → names_of all ≡ checked_names (names_of names) (Some name.now)
name_behind names all name e = rw e (map-append (λ (n : Bor Text). n.now) names (name ∷ []))

pub none_behind : (names all : List (Bor Text)) → all ≡ names → names_of all ≡ checked_names (names_of names) None
none_behind names all e = ap (λ (list : List (Bor Text)). names_of list) e ∙ sym (append-nil (names_of names))

few_given : (system : Option Text) → length (given system) ≤ 1
few_given None = omega arith
few_given (Some name) = omega arith

all_counted : (names all : List (Bor Text)) (system : Option Text) → names_of all ≡ checked_names (names_of names) system → length all ≡ length names + length (given system)
all_counted names all system h =
    sym (length-map all (λ (n : Bor Text). n.now)) ∙ ap length h ∙ length-append (names_of names) (given system) ∙ ap (λ (n : ℕ). n + length (given system)) (length-map names (λ (n : Bor Text). n.now))

pub all_there : (names all : List (Bor Text)) (system : Option Text) → names_of all ≡ checked_names (names_of names) system → length names ≤ length all
all_there names all system h = let e : length all ≡ length names + length (given system) = all_counted names all system h in omega (arith, e)

pub few_behind : (names all : List (Bor Text)) (system : Option Text) → names_of all ≡ checked_names (names_of names) system → length all ≤ length names + 1
few_behind names all system h = let e : length all ≡ length names + length (given system) = all_counted names all system h in let few : length (given system) ≤ 1 = few_given system in omega (arith, e, few)

-- why there is no program, and that there is one
pub refused_so : {X : Type 0} (meant : Result X Refusal) (refusal : Refusal) → meant ≡ Err refusal → Some refusal ≡ refusal_of meant
refused_so meant refusal e = sym (ap refusal_of e)

pub not_refused : {X : Type 0} (meant : Result X Refusal) (x : X) → meant ≡ Ok x → None ≡ refusal_of meant
not_refused meant x e = sym (ap refusal_of e)

not_zero : (n : ℕ) → (suc n == 0) ≡ false
not_zero n = grind (arith, nat_tests)

-- what is found without a system's file, and with one
module _ (dialect : Dialect) (base : Base) (files : List Text) where
  pub found_alone : (system : List (Vec ℕ)) → (length system == 0) ≡ true → refusal_of (image_from dialect base files) ≡ found_in dialect base files (texts system)
  found_alone [] e = refl
  found_alone (file ∷ more) e = let no : false ≡ true = sym (not_zero (length more)) ∙ e in absurd (cc no)

  pub one_text : (system : List (Vec ℕ)) → (length system == 0) ≡ false → length system ≤ 1 → (text : Text) × (texts system ≡ text ∷ [])
  one_text [] e few = let no : true ≡ false = e in absurd (cc no)
  one_text (file ∷ []) e few = (file.items, refl)
  one_text (file ∷ other ∷ more) e few = let h : length (file ∷ other ∷ more) ≤ 1 = few in absurd (omega (arith, h))

  pub found_under : (system : List (Vec ℕ)) (text : Text) → texts system ≡ text ∷ [] → refusal_of (user_loaded dialect files (Some text)) ≡ found_in dialect base files (texts system)
  found_under system text e = sym (ap (λ (all : List Text). found_in dialect base files all) e)

-- how the call ends that tells it
module _ (sink : Change Channels) (dialect : Dialect) (bare : Bool) (found : Option Refusal) (titles : List Title) (files : List Text) (result : Status) where
  pub was_told : (text shown : Text) (answer : Status) → Tells dialect bare titles files found text → answer ≡ answer_of found → shown ≡ text → Ends sink answer (only Out shown) result → EndsSo sink (IsChecking untouched dialect bare found titles files) result
  was_told text shown answer t ea es e = record {
    meant = answer;
    grown = only Out shown;
    so = inr (record { text = text; tells = t; answer = ea; wrote = ap (only Out) es }, tt);
    ends = e;
  }

  pub not_told : Ends sink NoMemory (refusal_growth NoMemory) result → EndsSo sink (IsChecking untouched dialect bare found titles files) result
  not_told e = record { meant = NoMemory; grown = refusal_growth NoMemory; so = inl (refl, refl, tt); ends = e }

-- the same of files of which so many are the program's
module _ (sink : Change Channels) (dialect : Dialect) (bare : Bool) (base : Base) (count : ℕ) (titles : List Title) (files own system : List (Vec ℕ)) (result : Status) where
  found_apart : own ≡ take count files → system ≡ drop count files → found_in dialect base (texts own) (texts system) ≡ found_in dialect base (take count (texts files)) (drop count (texts files))
  found_apart eo es =
      ap (λ (list : List (Vec ℕ)). found_in dialect base (texts list) (texts system)) eo
      ∙ ap (λ (list : List (Vec ℕ)). found_in dialect base (texts (take count files)) (texts list)) es
      ∙ ap (λ (list : List Text). found_in dialect base list (texts (drop count files))) (sym (take-map (λ (v : Vec ℕ). v.items) count files))
      ∙ ap (λ (list : List Text). found_in dialect base (take count (texts files)) list) (sym (drop-map (λ (v : Vec ℕ). v.items) count files))

  pub apart_told : (found : Option Refusal) → own ≡ take count files → system ≡ drop count files → found ≡ found_in dialect base (texts own) (texts system) → EndsSo sink (IsChecking untouched dialect bare found titles (texts files)) result
      → EndsSo sink (IsChecking untouched dialect bare (found_in dialect base (take count (texts files)) (drop count (texts files))) titles (texts files)) result
  apart_told found eo es ef e = subst (λ (o : Option Refusal). EndsSo sink (IsChecking untouched dialect bare o titles (texts files)) result) (ef ∙ found_apart eo es) e

-- the same of what was read behind preludes, by the names of a program's files and all names
module _ (sink : Change Channels) (preludes : List Prelude) (names : List (Bor Text)) (target : Target) (all files : List Text) (result : Status) where
  abbrev pub Telling : ℕ → (shown read : List Text) → Type 0
  Telling count shown read =
      let sources = joined_files preludes read in
      EndsSo sink (IsChecking untouched target.dialect (is_bare (base_for target.base)) (found_in target.dialect (base_for target.base) (take count sources) (drop count sources)) (titles_of preludes shown) sources) result

  pub all_told : (count : ℕ) (shown read : List Text) → count ≡ length names → shown ≡ all → read ≡ files → Telling count shown read
      → EndsSo sink (IsChecking untouched target.dialect (is_bare (base_for target.base)) (found_of target.dialect (base_for target.base) (names_of names) (joined_files preludes files)) (titles_of preludes all) (joined_files preludes files)) result
  all_told count shown read ec es er e =
      subst (λ (n : ℕ). Telling n all files) (ec ∙ sym (length-map names (λ (n : Bor Text). n.now)))
      (subst (λ (list : List Text). Telling count all list) er (subst (λ (list : List Text). Telling count list read) es e))

-- the same of a program's files behind their preludes
module _ (sink : Change Channels) (target : Target) (count : ℕ) (titles : List Title) (sources : List Text) (result : Status) where
  pub told_behind : (bare : Bool) (base : Base) (read : List Text) → bare ≡ is_bare base → base ≡ base_for target.base → read ≡ sources → EndsSo sink (IsChecking untouched target.dialect bare (found_in target.dialect base (take count read) (drop count read)) titles read) result
      → EndsSo sink (IsChecking untouched target.dialect (is_bare (base_for target.base)) (found_in target.dialect (base_for target.base) (take count sources) (drop count sources)) titles sources) result
  told_behind bare base read eh eb er e =
      subst (λ (list : List Text). EndsSo sink (IsChecking untouched target.dialect (is_bare (base_for target.base)) (found_in target.dialect (base_for target.base) (take count list) (drop count list)) titles list) result) er
      (subst (λ (b : Base). EndsSo sink (IsChecking untouched target.dialect (is_bare b) (found_in target.dialect b (take count read) (drop count read)) titles read) result) eb
      (subst (λ (h : Bool). EndsSo sink (IsChecking untouched target.dialect h (found_in target.dialect base (take count read) (drop count read)) titles read) result) eh e))

-- a program was checked
module _ (seen : Around) (names : List Text) (target : Target) (system : Option Text) (result : Status) where
  check_comes : (files : List Text) (status : Status) (grown : Channels) → Reads seen.files.before.told (of_programs (checked_names names system)) (Ok files) → IsChecking seen.pages target.dialect (is_bare (base_for target.base)) (found_of target.dialect (base_for target.base) names (joined_files seen.preludes files)) (titles_of seen.preludes (checked_names names system)) (joined_files seen.preludes files) status grown
      → CommandComes seen (check names target system) status grown
  check_comes files status grown h (inl e) = let is : status ≡ NoMemory = e.0 in rw is (inl (tt, e.1, e.2))
  check_comes files status grown h (inr d) = inr (files, h, d)

  pub check_carries : (files : List Text) → Reads seen.files.before.told (of_programs (checked_names names system)) (Ok files) → EndsSo seen.sink (IsChecking seen.pages target.dialect (is_bare (base_for target.base)) (found_of target.dialect (base_for target.base) names (joined_files seen.preludes files)) (titles_of seen.preludes (checked_names names system)) (joined_files seen.preludes files)) result
      → Carries seen (check names target system) result
  check_carries files h b = record { meant = b.meant; grown = b.grown; comes = check_comes files b.meant b.grown h b.so; ends = b.ends }

  pub check_lacking : seen.pages.same → Ends seen.sink NoMemory (refusal_growth NoMemory) result → Carries seen (check names target system) result
  check_lacking k e = record { meant = NoMemory; grown = refusal_growth NoMemory; comes = inl (tt, refl, k); ends = e }

-- beside a page file that it leaves alone
module _ (preludes : List Prelude) (files : Change Directory) (sink : Change Channels) (pages : Change BlockFile) (names : List Text) (target : Target) (system : Option Text) (result : Status) where
  check_beside : (status : Status) (grown : Channels) → pages.same → CommandComes (with_preludes preludes (around files sink untouched)) (check names target system) status grown → CommandComes (with_preludes preludes (around files sink pages)) (check names target system) status grown
  check_beside status grown k (inl e) = inl (e.0, e.1, k)
  check_beside status grown k (inr d) = inr (d.0, d.1, (d.2.0, k))

  pub check_kept : pages.same → Carries (with_preludes preludes (around files sink untouched)) (check names target system) result → Carries (with_preludes preludes (around files sink pages)) (check names target system) result
  check_kept k c = record { meant = c.meant; grown = c.grown; comes = check_beside c.meant c.grown k c.comes; ends = c.ends }
