-- How the errors of a program's files begin.
use Rattle.std.proofs.Common.{◌≡◌, ◌≤◌, inl, inr, ℕ, suc, Bool, true, false, cond, List, [], ◌∷◌, ◌++◌, length, Result, Ok, Err, refl, sym, ap, subst, ◌∙◌, arith, append-nil, append_assoc}
use Rattle.vax_asm.specs.Walk.{assembled}
use Rattle.vax_asm_errors.proofs.Beginning.{none_told, refused_told as source_told}
use Rattle.vax_asm_errors.specs.Beginning.{BeginsAt}
use Rattle.vax_asm_errors.specs.Errors.{IsErrors, errors, place}
use Rattle.vax_asm_second.specs.declared.types.Fault.{Fault}
use Rattle.vax_check.specs.Beginning.{BeginsAtLine}
use Rattle.vax_check.specs.Told.{AreTold, IsFileTold}
use Rattle.vax_dialect.specs.declared.Dialect.{Dialect}
use Rattle.vax_lines.specs.Lines.{Text}
use Rattle.vax_module.specs.declared.Module.{Module}
use Rattle.vax_prelude.specs.Preludes.{Title}
use Rattle.vax_program.specs.Program.{InImage, Refusal, Source, and_others, is_linked, modules_of}

-- errors are added, and nothing is taken away
abbrev Grows : (before after : Text) → Type 0
Grows before after = (more : Text) × (after ≡ before ++ more)

grows_not : (before after : Text) → after ≡ before → Grows before after
grows_not before after e = ([], e ∙ sym (append-nil before))

grows_on : (before between after : Text) → Grows before between → Grows between after → Grows before after
grows_on before between after a b = (a.0 ++ b.0, b.1 ∙ ap (λ (l : Text). l ++ b.0) a.1 ∙ append_assoc before a.0 b.0)

file_grows : (dialect : Dialect) (title : Title) (file before after : Text) → IsFileTold dialect title file before after → Grows before after
file_grows dialect title file before after (inl none) = grows_not before after none.1
file_grows dialect title file before after (inr some) = (errors title file some.1.said (length some.1.found), some.1.text)

grows : (dialect : Dialect) (titles : List Title) (files : List Text) (before after : Text) → AreTold dialect titles files before after → Grows before after
grows dialect [] files before after h = grows_not before after h
grows dialect (title ∷ titles) [] before after h = grows_not before after h
grows dialect (title ∷ titles) (file ∷ files) before after h = grows_on before h.0 after (file_grows dialect title file before h.0 h.1) (grows dialect titles files h.0 after h.2)

-- the errors of a source, and those of the files behind it
file_begins : (dialect : Dialect) (titles : List Title) (first : ℕ) (title : Title) (file before between after : Text) (f : Fault) → IsErrors dialect title file before between → assembled dialect file ≡ Err f → Grows between after → BeginsAtLine (title ∷ titles) first first f.origin.line before after
file_begins dialect titles first title file before between after f e is g =
    let b : BeginsAt title f before between = source_told dialect title file before between f e is in
    let at : Text = place title f.origin.line b.column in
    record {
      title = title;
      named = inl (refl, refl);
      column = b.column;
      rest = b.rest ++ g.0;
      text = g.1 ∙ ap (λ (l : Text). l ++ g.0) b.text ∙ append_assoc (before ++ at) b.rest g.0;
    }

later : (titles : List Title) (title : Title) (first file line : ℕ) (before after : Text) → BeginsAtLine titles (suc first) file line before after → BeginsAtLine (title ∷ titles) first file line before after
later titles title first file line before after b = record { title = b.title; named = inr b.named; column = b.column; rest = b.rest; text = b.text }

behind_err : (r : Result (List Module) Refusal) (first : ℕ) (m : Module) (refusal : Refusal) → and_others first (Ok m) r ≡ Err refusal → r ≡ Err refusal
behind_err (Ok others) first m refusal e = absurd cc
behind_err (Err other) first m refusal e = cc

abbrev Goes : Dialect → List Title → List Text → Type 0
Goes dialect titles files = (first : ℕ) (before after : Text) (file line kind : ℕ) → length files ≤ length titles → AreTold dialect titles files before after → modules_of dialect first files ≡ Err (Source file line kind) → BeginsAtLine titles first file line before after

by_source : (dialect : Dialect) (titles : List Title) (files : List Text) (title : Title) (text : Text) (first : ℕ) (before between after : Text) (file line kind : ℕ) (r : Result Module Fault) → Goes dialect titles files → length files ≤ length titles → IsErrors dialect title text before between → AreTold dialect titles files between after
    → assembled dialect text ≡ r → and_others first r (modules_of dialect (suc first) files) ≡ Err (Source file line kind) → BeginsAtLine (title ∷ titles) first file line before after
by_source dialect titles files title text first before between after file line kind (Err f) next many e told is refused =
    let b = file_begins dialect titles first title text before between after f e is (grows dialect titles files between after told) in
    let same_file : first ≡ file = cc in
    let same_line : f.origin.line ≡ line = cc in
    subst (λ (n : ℕ). BeginsAtLine (title ∷ titles) first n line before after) same_file (subst (λ (n : ℕ). BeginsAtLine (title ∷ titles) first first n before after) same_line b)
by_source dialect titles files title text first before between after file line kind (Ok m) next many e told is refused =
    let none : between ≡ before = none_told dialect title text before between m e is in
    later titles title first file line before after
    (next (suc first) before after file line kind many (subst (λ (t : Text). AreTold dialect titles files t after) none told) (behind_err (modules_of dialect (suc first) files) first m (Source file line kind) refused))

by_file : (dialect : Dialect) (titles : List Title) (files : List Text) (title : Title) (text : Text) (first : ℕ) (before between after : Text) (file line kind : ℕ) (b : Bool) → is_linked text ≡ b → Goes dialect titles files → length files ≤ length titles → IsFileTold dialect title text before between → AreTold dialect titles files between after
    → cond b (Err (InImage 0 11)) (and_others first (assembled dialect text) (modules_of dialect (suc first) files)) ≡ Err (Source file line kind) → BeginsAtLine (title ∷ titles) first file line before after
by_file dialect titles files title text first before between after file line kind true is next many h told refused = absurd cc
by_file dialect titles files title text first before between after file line kind false is next many (inl none) told refused = absurd (let linked : is_linked text ≡ true = none.0 in cc)
by_file dialect titles files title text first before between after file line kind false is next many (inr some) told refused = by_source dialect titles files title text first before between after file line kind (assembled dialect text) next many some.1 told refl refused

goes : (dialect : Dialect) (titles : List Title) (files : List Text) → Goes dialect titles files
goes dialect titles [] = λ first before after file line kind many told refused. absurd cc
goes dialect [] (text ∷ files) = λ first before after file line kind many told refused. absurd (omega arith)
goes dialect (title ∷ titles) (text ∷ files) = λ first before after file line kind many told refused.
    by_file dialect titles files title text first before told.0 after file line kind (is_linked text) refl (goes dialect titles files) (omega arith) told.1 told.2 refused

pub refused_told : (dialect : Dialect) (first : ℕ) (titles : List Title) (files : List Text) (before after : Text) (file line kind : ℕ) → length files ≤ length titles → AreTold dialect titles files before after → modules_of dialect first files ≡ Err (Source file line kind) → BeginsAtLine titles first file line before after
refused_told dialect first titles files before after file line kind many told refused = goes dialect titles files first before after file line kind many told refused
