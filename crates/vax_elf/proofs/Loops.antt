-- Areas that are read one after the other, as the loop does.
use Rattle.std.proofs.Common.{◌≡◌, ℕ, suc, ◌-◌, ◌+◌, ◌≤◌, ◌<◌, List, ◌++◌, Option, Result, Ok, Err, refl, sym, ap, ◌∙◌, append_assoc, arith}
use Rattle.std.specs.Prelude.{option_to_list}
use Rattle.std.proofs.lemmas.List.{append-nil}
use Rattle.vax_space.specs.declared.Area.{Area}
use Rattle.vax_image.specs.declared.Base.{Base}
use Rattle.vax_elf.specs.declared.faults.ElfError.{ElfError}
use Rattle.vax_elf.specs.declared.faults.ElfError.TheVariants.{Fault, NoMemory}
use Rattle.vax_elf.specs.Faults.{◌>>=◌, Fails}
use Rattle.vax_elf.specs.Reading.{loaded_at, behind, areas_at}

-- what was read before, and what is still read
abbrev pub with_front : List Area → Result (List Area) ElfError → Result (List Area) ElfError
with_front front read = read >>= λ areas. Ok (front ++ areas)

regroup : (front xs : List Area) (read : Result (List Area) ElfError) → with_front front (read >>= λ others. Ok (xs ++ others)) ≡ with_front (front ++ xs) read
regroup front xs (Ok others) = ap (λ (areas : List Area). Ok areas) (sym (append_assoc front xs others))
regroup front xs (Err e) = refl

-- where the reading stands: the page that the next area may begin at, the file, and the offset of the next program header
pub record At : Type 0 where
  pub base : Base
  pub low : ℕ
  pub file : List ℕ
  pub place : ℕ

abbrev pub rest_at : At → ℕ → Result (List Area) ElfError
rest_at at count = areas_at at.base at.low at.file at.place count

abbrev pub next_at : At → Option Area → At
next_at at n = record at { low = behind at.low n; place = at.place + 32 }

pub go_on : (at : At) (front : List Area) (count i : ℕ) (n : Option Area) (total : Result (List Area) ElfError) → i < count → loaded_at at.base at.low at.file at.place ≡ Ok n
    → with_front front (rest_at at (count - i)) ≡ total → with_front (front ++ option_to_list n) (rest_at (next_at at n) (count - (i + 1))) ≡ total
unfolding areas_at
go_on at front count i n total lt h so_far =
    let k : count - i ≡ suc (count - (i + 1)) = omega arith in
    let one : with_front front (rest_at at (count - i)) ≡ with_front (front ++ option_to_list n) (rest_at (next_at at n) (count - (i + 1)))
    = rw (k, h) (regroup front (option_to_list n) (rest_at (next_at at n) (count - (i + 1)))) in
    sym one ∙ so_far

pub end_here : (e : ElfError) (at : At) (front : List Area) (count i : ℕ) (total : Result (List Area) ElfError) → i < count → Fails e (loaded_at at.base at.low at.file at.place)
    → with_front front (rest_at at (count - i)) ≡ total → Fails e total
unfolding areas_at
end_here NoMemory at front count i total lt h so_far = tt
end_here (Fault place kind) at front count i total lt h so_far =
    let k : count - i ≡ suc (count - (i + 1)) = omega arith in
    let one : with_front front (rest_at at (count - i)) ≡ Err (Fault place kind) = rw (k, h) refl in
    sym so_far ∙ one

pub done : (at : At) (front : List Area) (count i : ℕ) (total : Result (List Area) ElfError) → count ≤ i → with_front front (rest_at at (count - i)) ≡ total → total ≡ Ok front
unfolding areas_at
done at front count i total le so_far =
    let k : count - i ≡ 0 = omega arith in
    let one : with_front front (rest_at at (count - i)) ≡ Ok front = rw k (ap (λ (areas : List Area). Ok areas) (append-nil front)) in
    sym so_far ∙ one
