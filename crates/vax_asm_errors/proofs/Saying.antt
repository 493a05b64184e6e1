-- Faults as they are told, one more at a time.
use Rattle.std.proofs.Common.{◌≡◌, ◌<◌, ◌≤◌, ◌+◌, ℕ, suc, add-one, List, [], ◌∷◌, ◌++◌, length, drop, map, append-nil, append_assoc, sym, ap, ◌∙◌, drop-cons}
use Rattle.std.proofs.lemmas.List.{drop_all, map-append}
use Rattle.std.specs.Prelude.{slice_index_or}
use Rattle.vax_asm_errors.specs.declared.said.Said.{Said}
use Rattle.vax_asm_second.specs.declared.types.Fault.{Fault}

abbrev faults_in : List Said → List Fault
faults_in said = map (λ s. s.fault) said

pub said_added : (faults : List Fault) (i : ℕ) (f : Fault) (before after : List Said) (s : Said) → i < length faults → f ≡ slice_index_or faults i f → s.fault ≡ f → after ≡ before ++ s ∷ [] → faults_in before ++ drop i faults ≡ faults → faults_in after ++ drop (i + 1) faults ≡ faults
said_added faults i f before after s h at is more same =
    let split : drop i faults ≡ f ∷ drop (i + 1) faults = rw add-one (drop-cons faults i f h ∙ ap (λ (x : Fault). x ∷ drop (suc i) faults) (sym at)) in
    ap (λ (l : List Said). faults_in l ++ drop (i + 1) faults) more
    ∙ ap (λ (l : List Fault). l ++ drop (i + 1) faults) (map-append (λ (x : Said). x.fault) before (s ∷ []))
    ∙ append_assoc (faults_in before) (s.fault ∷ []) (drop (i + 1) faults)
    ∙ ap (λ (x : Fault). faults_in before ++ x ∷ drop (i + 1) faults) is
    ∙ ap (λ (l : List Fault). faults_in before ++ l) (sym split)
    ∙ same

pub all_said : (faults : List Fault) (i : ℕ) (said : List Said) → length faults ≤ i → faults_in said ++ drop i faults ≡ faults → faults_in said ≡ faults
all_said faults i said h same = sym (append-nil (faults_in said)) ∙ ap (λ (l : List Fault). faults_in said ++ l) (sym (drop_all i faults h)) ∙ same
