-- What stands several times, one more at a time.
use Rattle.std.proofs.Common.{◌≡◌, ◌<◌, ◌≤◌, ◌+◌, ◌-◌, ℕ, suc, List, [], ◌∷◌, ◌++◌, sym, ap, ◌∙◌, append_assoc, arith}
use Rattle.std.proofs.lemmas.List.{append-nil}
use Rattle.std.specs.Prelude.{replicate}
use Rattle.std.specs.List.{repeat}
use Rattle.vax_module.specs.declared.Reloc.{Reloc}
use Rattle.vax_asm_second.specs.Contents.{every, moved}

left_over : (n i : ℕ) → i < n → n - i ≡ suc (n - (i + 1))
left_over n i h = omega arith

none_over : (n i : ℕ) → n ≤ i → n - i ≡ 0
none_over n i h = omega arith

pub repeat_more : {A : Type 0} (front unit all : List A) (n i : ℕ) → i < n → front ++ repeat (n - i) unit ≡ all → (front ++ unit) ++ repeat (n - (i + 1)) unit ≡ all
repeat_more {A} front unit all n i h e =
    append_assoc front unit (repeat (n - (i + 1)) unit)
    ∙ ap (λ (k : ℕ). front ++ repeat k unit) (sym (left_over n i h))
    ∙ e

pub repeat_done : {A : Type 0} (front unit all : List A) (n i : ℕ) → n ≤ i → front ++ repeat (n - i) unit ≡ all → front ≡ all
repeat_done {A} front unit all n i h e = sym (append-nil front) ∙ ap (λ (k : ℕ). front ++ repeat k unit) (sym (none_over n i h)) ∙ e

pub zero_more : (front all : List ℕ) (n i : ℕ) → i < n → front ++ replicate (n - i) 0 ≡ all → (front ++ 0 ∷ []) ++ replicate (n - (i + 1)) 0 ≡ all
zero_more front all n i h e =
    append_assoc front (0 ∷ []) (replicate (n - (i + 1)) 0)
    ∙ ap (λ (k : ℕ). front ++ replicate k 0) (sym (left_over n i h))
    ∙ e

pub zero_done : (front all : List ℕ) (n i : ℕ) → n ≤ i → front ++ replicate (n - i) 0 ≡ all → front ≡ all
zero_done front all n i h e = sym (append-nil front) ∙ ap (λ (k : ℕ). front ++ replicate k 0) (sym (none_over n i h)) ∙ e

pub every_more : (front all : List Reloc) (r : Reloc) (step n i : ℕ) → i < n → front ++ every (n - i) step r ≡ all → (front ++ r ∷ []) ++ every (n - (i + 1)) step (moved step r) ≡ all
every_more front all r step n i h e =
    append_assoc front (r ∷ []) (every (n - (i + 1)) step (moved step r))
    ∙ ap (λ (k : ℕ). front ++ every k step r) (sym (left_over n i h))
    ∙ e

pub every_done : (front all : List Reloc) (r : Reloc) (step n i : ℕ) → n ≤ i → front ++ every (n - i) step r ≡ all → front ≡ all
every_done front all r step n i h e = sym (append-nil front) ∙ ap (λ (k : ℕ). front ++ every k step r) (sym (none_over n i h)) ∙ e
