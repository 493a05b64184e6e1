-- A module's section among the sections of all modules, and its bytes among theirs.
use Rattle.std.proofs.Common.{◌≡◌, ℕ, zero, suc, ◌+◌, List, [], ◌∷◌, ◌++◌, length, take, map, Some, refl, sym, ap, subst, ◌∙◌, append_assoc, arith}
use Rattle.std.specs.Prelude.{slice_get}
use Rattle.std.specs.List.{fold}
use Rattle.std.proofs.lemmas.List.{length-append}
use Rattle.vax_image.specs.declared.Base.{Base}
use Rattle.vax_link.specs.Layout.{first_piece, pieces_of}
use Rattle.vax_link.specs.Names.{module_at}
use Rattle.vax_link.specs.Values.{filled_from, filled_sections_from, with_reloc}
use Rattle.vax_link_laws.specs.Holding.{HasSection}
use Rattle.vax_module.specs.declared.Module.{Module}
use Rattle.vax_module.specs.declared.Reloc.{Reloc}
use Rattle.vax_module.specs.declared.Section.{Section}

-- behind so many others there stands a section, and behind as many its bytes
pub record Parted (sections : List Section) (filled : List (List ℕ)) (s : Section) (bytes : List ℕ) (count : ℕ) : Type 0 where
  pub front : List Section
  pub back : List Section
  pub before : List (List ℕ)
  pub behind : List (List ℕ)
  pub sections_are : sections ≡ front ++ (s ∷ back)
  pub filled_are : filled ≡ before ++ (bytes ∷ behind)
  pub many : length front ≡ count
  pub same : length before ≡ count

in_module : (region : Base) (all : List Module) (owner : ℕ) (relocs : List Reloc) (number : ℕ) (sections : List Section) (k place : ℕ) (s : Section) → slice_get sections k ≡ Some s → number + k ≡ place
    → Parted sections (filled_sections_from region all owner relocs number (map (λ s. s.bytes) sections)) s (fold (with_reloc region all owner place) s.bytes relocs) k
unfolding filled_sections_from
in_module region all owner relocs number [] k place s is at = absurd cc
in_module region all owner relocs number (t ∷ sections) zero place s is at =
    let e : t ≡ s = cc in
    let here : number ≡ place = omega arith in
    let rest : List (List ℕ) = filled_sections_from region all owner relocs (suc number) (map (λ s. s.bytes) sections) in
    record {
      front = [];
      back = sections;
      before = [];
      behind = rest;
      sections_are = ap (λ (x : Section). x ∷ sections) e;
      filled_are = ap (λ (x : Section). fold (with_reloc region all owner number) x.bytes relocs ∷ rest) e ∙ ap (λ (n : ℕ). fold (with_reloc region all owner n) s.bytes relocs ∷ rest) here;
      many = refl;
      same = refl;
    }
in_module region all owner relocs number (t ∷ sections) (suc k) place s is at =
    let p = in_module region all owner relocs (suc number) sections k place s is (omega arith) in
    let first : List ℕ = fold (with_reloc region all owner number) t.bytes relocs in
    record {
      front = t ∷ p.front;
      back = p.back;
      before = first ∷ p.before;
      behind = p.behind;
      sections_are = ap (λ (x : List Section). t ∷ x) p.sections_are;
      filled_are = ap (λ (x : List (List ℕ)). first ∷ x) p.filled_are;
      many = ap suc p.many;
      same = ap suc p.same;
    }

filled_count : (region : Base) (all : List Module) (owner : ℕ) (relocs : List Reloc) (number : ℕ) (sections : List Section) → length (filled_sections_from region all owner relocs number (map (λ s. s.bytes) sections)) ≡ length sections
unfolding filled_sections_from
filled_count region all owner relocs number [] = refl
filled_count region all owner relocs number (s ∷ sections) = ap suc (filled_count region all owner relocs (suc number) sections)

pub in_modules : (region : Base) (all : List Module) (from : ℕ) (modules : List Module) (owner home number : ℕ) (s : Section) → HasSection modules owner number s → from + owner ≡ home
    → Parted (pieces_of modules) (filled_from region all from modules) s (fold (with_reloc region all home number) s.bytes (module_at modules owner).relocs) (first_piece modules owner + number)
unfolding filled_from
in_modules region all from [] owner home number s is at = absurd cc
in_modules region all from (m ∷ ms) zero home number s is at =
    let here : from ≡ home = omega arith in
    let p = in_module region all from m.relocs 0 m.sections number number s is (omega arith) in
    let rest : List (List ℕ) = filled_from region all (suc from) ms in
    let whole : Parted (m.sections ++ pieces_of ms) (filled_sections_from region all from m.relocs 0 (map (λ s. s.bytes) m.sections) ++ rest) s (fold (with_reloc region all from number) s.bytes m.relocs) (0 + number) = record {
      front = p.front;
      back = p.back ++ pieces_of ms;
      before = p.before;
      behind = p.behind ++ rest;
      sections_are = ap (λ (x : List Section). x ++ pieces_of ms) p.sections_are ∙ append_assoc p.front (s ∷ p.back) (pieces_of ms);
      filled_are = ap (λ (x : List (List ℕ)). x ++ rest) p.filled_are ∙ append_assoc p.before (fold (with_reloc region all from number) s.bytes m.relocs ∷ p.behind) rest;
      many = omega (arith, p.many);
      same = omega (arith, p.same);
    } in
    subst (λ (h : ℕ). Parted (m.sections ++ pieces_of ms) (filled_sections_from region all from m.relocs 0 (map (λ s. s.bytes) m.sections) ++ rest) s (fold (with_reloc region all h number) s.bytes m.relocs) (0 + number)) here whole
in_modules region all from (m ∷ ms) (suc owner) home number s is at =
    let p = in_modules region all (suc from) ms owner home number s is (omega arith) in
    let first : List (List ℕ) = filled_sections_from region all from m.relocs 0 (map (λ s. s.bytes) m.sections) in
    let bytes : List ℕ = fold (with_reloc region all home number) s.bytes (module_at ms owner).relocs in
    let a = length-append m.sections p.front in
    let b = length-append first p.before in
    let c = filled_count region all from m.relocs 0 m.sections in
    let d = length-append m.sections (pieces_of (take owner ms)) in
    record {
      front = m.sections ++ p.front;
      back = p.back;
      before = first ++ p.before;
      behind = p.behind;
      sections_are = ap (λ (x : List Section). m.sections ++ x) p.sections_are ∙ sym (append_assoc m.sections p.front (s ∷ p.back));
      filled_are = ap (λ (x : List (List ℕ)). first ++ x) p.filled_are ∙ sym (append_assoc first p.before (bytes ∷ p.behind));
      many = omega (arith, p.many);
      same = omega (arith, p.same);
    }
