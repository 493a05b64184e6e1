-- Errors, one more at a time.
use Rattle.std.proofs.Common.{◌≡◌, ◌<◌, ◌≤◌, ◌+◌, ℕ, suc, add-one, List, ◌∷◌, ◌++◌, length, drop, take, map, All, append-nil, append_assoc, sym, ap, ◌∙◌, drop-cons}
use Rattle.std.proofs.lemmas.List.{drop_all}
use Rattle.std.specs.List.{flat_map}
use Rattle.std.specs.Prelude.{OnOk, Result, Ok, Err, slice_index_or}
use Rattle.vax_asm_check.specs.Listed.{AreAll}
use Rattle.vax_asm_errors.specs.Errors.{IsErrors, IsPlain, ending, error}
use Rattle.vax_asm_errors.specs.declared.said.Said.{Said}
use Rattle.vax_asm_faults.specs.Refusal.{faults_of}
use Rattle.vax_asm_second.specs.declared.types.Fault.{Fault}
use Rattle.vax_prelude.specs.Preludes.{Title}
use Rattle.vax_dialect.specs.declared.Dialect.{Dialect}

pub error_added : {X : Type 0} (told : X → List ℕ) (faults : List X) (i : ℕ) (f : X) (before after all : List ℕ) → i < length faults → f ≡ slice_index_or faults i f → after ≡ before ++ told f
    → before ++ flat_map told (drop i faults) ≡ all → after ++ flat_map told (drop (i + 1) faults) ≡ all
error_added {X} told faults i f before after all h at more same =
    let split : drop i faults ≡ f ∷ drop (i + 1) faults = rw add-one (drop-cons faults i f h ∙ ap (λ (x : X). x ∷ drop (suc i) faults) (sym at)) in
    ap (λ (l : List ℕ). l ++ flat_map told (drop (i + 1) faults)) more
    ∙ append_assoc before (told f) (flat_map told (drop (i + 1) faults))
    ∙ ap (λ (l : List X). before ++ flat_map told l) (sym split)
    ∙ same

pub errors_added : {X : Type 0} (told : X → List ℕ) (faults : List X) (i : ℕ) (before all : List ℕ) → length faults ≤ i → before ++ flat_map told (drop i faults) ≡ all → before ≡ all
errors_added {X} told faults i before all h same = sym (append-nil before) ∙ ap (λ (l : List X). before ++ flat_map told l) (sym (drop_all i faults h)) ∙ same

pub all_added : {A E : Type 0} (r : Result A E) (dialect : Dialect) (title : Title) (source : List ℕ) (found : List Fault) (said : List Said) (before between after : List ℕ) → AreAll found (faults_of dialect source) → map (λ s. s.fault) said ≡ take 100 found → All IsPlain said
    → between ≡ before ++ flat_map (error title source) said → OnOk r (after ≡ between ++ ending title.name (length found)) → OnOk r (IsErrors dialect title source before after)
all_added (Ok x) dialect title source found said before between after all told plain b h = record {
  found = found;
  all = all;
  said = said;
  told = told;
  plain = plain;
  text =
      h ∙ ap (λ (l : List ℕ). l ++ ending title.name (length found)) b
      ∙ append_assoc before (flat_map (error title source) said) (ending title.name (length found));
}
all_added (Err x) dialect title source found said before between after all told plain b h = tt
