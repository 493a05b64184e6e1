-- How the errors of a source begin.
use Rattle.std.proofs.Common.{◌≡◌, ◌+◌, ℕ, List, [], ◌∷◌, ◌++◌, length, map, take, Ok, Err, refl, ap, ◌∙◌, arith, append-nil, append_assoc}
use Rattle.std.specs.List.{flat_map}
use Rattle.std.specs.Prelude.{codes, decimal}
use Rattle.std.proofs.lemmas.List.Sorted.{length_permutation}
use Rattle.vax_asm.specs.Walk.{assembled}
use Rattle.vax_asm_check.proofs.Beginning.{begin_refused}
use Rattle.vax_asm_check.specs.Listed.{AreAll, BeginAt}
use Rattle.vax_asm_errors.specs.Beginning.{BeginsAt}
use Rattle.vax_asm_errors.specs.Errors.{IsErrors, ending, error, errors, headline, mark, line_at, noted, place, said_words}
use Rattle.vax_asm_errors.specs.declared.said.Said.{Said}
use Rattle.vax_asm_faults.proofs.Leasting.{has_none}
use Rattle.vax_asm_faults.specs.Least.{IsFaultless}
use Rattle.vax_asm_faults.specs.Refusal.{Faults, faults_of}
use Rattle.vax_asm_first.specs.declared.types.Origin.{Origin}
use Rattle.vax_asm_second.specs.declared.types.Fault.{Fault}
use Rattle.vax_dialect.specs.declared.Dialect.{Dialect}
use Rattle.vax_lines.specs.Lines.{lines}
use Rattle.vax_prelude.specs.Preludes.{Title}
use Rattle.vax_macro.specs.Fault.{code_of}
use Rattle.vax_module.specs.declared.Module.{Module}

-- ---- no fault

empty : {X : Type 0} (xs : List X) → length xs ≡ 0 → xs ≡ []
empty [] e = refl
empty (x ∷ xs) e = absurd (omega (arith, e))

none_found : (told : List Fault) (all : Faults) → all.lines ≡ [] → all.whole ≡ [] → AreAll told all → told ≡ []
none_found told all lines whole a =
    let few : length a.whole ≡ length all.whole = length_permutation all.whole a.whole a.order.same in
    let none : a.whole ≡ [] = empty a.whole (few ∙ ap (λ (l : List Fault). length l) whole) in
    a.joined ∙ ap (λ (l : List Fault). l ++ a.whole) lines ∙ none

none_said : (said : List Said) → map (λ s. s.fault) said ≡ [] → said ≡ []
none_said [] e = refl
none_said (s ∷ said) e = absurd cc

pub none_told : (dialect : Dialect) (title : Title) (source before after : List ℕ) (m : Module) → IsErrors dialect title source before after → assembled dialect source ≡ Ok m → after ≡ before
none_told dialect title source before after m e is =
    let clean : IsFaultless dialect source m = has_none dialect source m is in
    let found : e.found ≡ [] = none_found e.found (faults_of dialect source) clean.lines clean.whole e.all in
    let said : e.said ≡ [] = none_said e.said (e.told ∙ ap (λ (l : List Fault). take 100 l) found) in
    e.text ∙ ap (λ (l : List Said). before ++ errors title source l (length e.found)) said
    ∙ ap (λ (l : List Fault). before ++ ending title.name (length l)) found ∙ append-nil before

-- ---- the first

regroup : (p d c w n k t : List ℕ) → p ++ d ++ c ++ w ++ n ++ k ++ t ≡ p ++ (d ++ (c ++ (w ++ (n ++ (k ++ t)))))
regroup p d c w n k t = simp append_assoc

-- an error begins with its place
begins_place : (title : Title) (source : List ℕ) (s : Said) → (rest : List ℕ) × (error title source s ≡ place title s.fault.origin.line (s.column + 1) ++ rest)
unfolding error headline
begins_place title source s =
    let d : List ℕ = decimal (code_of s.fault.kind) in
    let w : List ℕ = said_words s.fault.kind s.cause.items in
    let k : List ℕ = mark (line_at s.fault.origin.line (lines source)) s.column in
    let t : List ℕ = noted title s.fault.origin.line s.expansion.items in
    (d ++ (codes ": " ++ (w ++ (codes "\n" ++ (k ++ t)))), regroup (place title s.fault.origin.line (s.column + 1)) d (codes ": ") w (codes "\n") k t)

first_said : (said : List Said) (f : Fault) (more : List Fault) → map (λ s. s.fault) said ≡ f ∷ more → (s : Said) × (rest : List Said) × (said ≡ s ∷ rest) × (s.fault ≡ f)
first_said [] f more e = absurd cc
first_said (s ∷ said) f more e = (s, said, refl, cc)

regroup_behind : (before at b f e : List ℕ) → before ++ (at ++ b ++ f ++ e) ≡ before ++ at ++ (b ++ (f ++ e))
regroup_behind before at b f e = simp append_assoc

begins_by : (title : Title) (source before after : List ℕ) (f first : Fault) (said rest : List Said) (s : Said) (count : ℕ) → after ≡ before ++ errors title source said count → said ≡ s ∷ rest → s.fault ≡ first → first.origin ≡ f.origin → BeginsAt title f before after
begins_by title source before after f first said rest s count text is same origin =
    let b = begins_place title source s in
    let others : List ℕ = flat_map (error title source) rest in
    let last : List ℕ = ending title.name count in
    let behind : List ℕ = b.0 ++ (others ++ last) in
    let line : s.fault.origin.line ≡ f.origin.line = ap (λ (g : Fault). g.origin.line) same ∙ ap (λ (o : Origin). o.line) origin in
    record {
      column = s.column + 1;
      rest = behind;
      text =
          text ∙ ap (λ (l : List Said). before ++ errors title source l count) is
          ∙ ap (λ (l : List ℕ). before ++ (l ++ others ++ last)) b.1
          ∙ regroup_behind before (place title s.fault.origin.line (s.column + 1)) b.0 others last
          ∙ ap (λ (n : ℕ). before ++ place title n (s.column + 1) ++ behind) line;
    }

pub refused_told : (dialect : Dialect) (title : Title) (source before after : List ℕ) (f : Fault) → IsErrors dialect title source before after → assembled dialect source ≡ Err f → BeginsAt title f before after
refused_told dialect title source before after f e is =
    let b : BeginAt f e.found = begin_refused dialect source e.found f e.all is in
    let said = first_said e.said b.first (take 99 b.more) (e.told ∙ ap (λ (l : List Fault). take 100 l) b.is) in
    begins_by title source before after f b.first e.said said.1 said.0 (length e.found) e.text said.2 said.3 b.origin
