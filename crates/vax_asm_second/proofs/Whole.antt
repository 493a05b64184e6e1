-- The whole of a module, from its parts.
use Rattle.std.proofs.Common.{◌≡◌, ℕ, suc, List, [], ◌∷◌, length, map, refl, sym, ap, ◌∙◌}
use Rattle.std.proofs.lemmas.List.Elements.{All-cons, All-nil}
use Rattle.std.specs.Global.{Vec}
use Rattle.std.specs.Prelude.{All, Option, Some, None, Result, Ok, Err}
use Rattle.vax_asm_sections.specs.Layout.{Section}
use Rattle.vax_asm_sections.specs.View.{part_of, section_of}
use Rattle.vax_asm_sections.specs.declared.types.Building.{Building}
use Rattle.vax_asm_sections.specs.declared.types.Piece.{Piece}
use Rattle.vax_asm_sections.specs.declared.types.Piece.TheVariants as piece
use Rattle.vax_macro.specs.Rest.{Opening}
use Rattle.vax_module.specs.declared.Module.{Module}
use Rattle.vax_asm_names.specs.Names.{Name}
use Rattle.vax_asm_first.specs.Fixups.{Fixup as Fixed, Assignment}
use Rattle.vax_asm_first.specs.Standing.{Standing}
use Rattle.vax_asm_first.specs.View.{part_seen, section_seen}
use Rattle.vax_asm_first.specs.declared.types.Fixup.{Fixup}
use Rattle.vax_asm_scope.specs.Scope.{closed, external_names}
use Rattle.vax_asm_values.specs.Values.{Source}
use Rattle.vax_asm_second.specs.Faults.{first_of}
use Rattle.vax_asm_second.specs.Laid.{Known, laid}
use Rattle.vax_asm_second.specs.Modules.{known_in, faults, module_of, unless_faulty, filled_in}
use Rattle.vax_asm_second.specs.View.{Lays, Fills}
use Rattle.vax_asm_second.specs.declared.types.Fault.{Fault}
use Rattle.vax_asm_second.specs.declared.types.FillError.{FillError}
use Rattle.vax_asm_second.specs.declared.types.FillError.TheVariants as errors
use Rattle.vax_asm_second.proofs.Forming.{IsSoundPart, IsSoundSection}

-- ---- what code keeps of its sections

part_sound : (p : Piece Fixup) → IsSoundPart (part_seen (part_of p))
part_sound (piece.Zeros n) = tt
part_sound (piece.Bytes v) = tt
part_sound (piece.Field f) = f.sound

parts_sound : (pieces : List (Piece Fixup)) → All IsSoundPart (map part_seen (map part_of pieces))
parts_sound [] = All-nil IsSoundPart
parts_sound (p ∷ pieces) = All-cons IsSoundPart (part_seen (part_of p)) (map part_seen (map part_of pieces)) (part_sound p) (parts_sound pieces)

section_sound : (b : Building Fixup) → IsSoundSection (section_seen (section_of b))
section_sound b = record { align = b.aligned; parts = parts_sound b.pieces.items }

pub sections_sound : (sections : List (Building Fixup)) → All IsSoundSection (map section_seen (map section_of sections))
sections_sound [] = All-nil IsSoundSection
sections_sound (b ∷ sections) = All-cons IsSoundSection (section_seen (section_of b)) (map section_seen (map section_of sections)) (section_sound b) (sections_sound sections)

-- ---- what is known

pub known_is : (s : Standing) (sources : List Source) (sections externals : ℕ) → sources ≡ (closed s.scope).sources → sections ≡ length s.sections.all → externals ≡ length (external_names s.scope.names.all)
    → record { sources = sources; sections = sections; externals = externals } ≡ known_in s
known_is s sources sections externals e f g = cc

-- ---- the module or the fault

pub fault_told : (s : Standing) (assigned : List Assignment) (begin : Option Opening) (k : Known) (f : Fault) → k ≡ known_in s → first_of (faults k s.sections.all assigned begin) ≡ Some f → filled_in s assigned begin ≡ Err f
unfolding filled_in
fault_told s assigned begin k f e h =
    let names = s.scope.names.all in
    let m = λ (j : Known). module_of j (laid j 0 s.sections.all) names s.transfer in
    ap (λ (j : Known). unless_faulty (first_of (faults j s.sections.all assigned begin)) (m j)) (sym e) ∙ ap (λ (o : Option Fault). unless_faulty o (m k)) h

pub module_told : (s : Standing) (assigned : List Assignment) (begin : Option Opening) (k : Known) (m : Module) → k ≡ known_in s → first_of (faults k s.sections.all assigned begin) ≡ None
    → m ≡ module_of k (laid k 0 s.sections.all) s.scope.names.all s.transfer
    → filled_in s assigned begin ≡ Ok m
unfolding filled_in
module_told s assigned begin k m e h g =
    let names = s.scope.names.all in
    let made = λ (j : Known). module_of j (laid j 0 s.sections.all) names s.transfer in
    ap (λ (j : Known). unless_faulty (first_of (faults j s.sections.all assigned begin)) (made j)) (sym e)
    ∙ ap (λ (o : Option Fault). unless_faulty o (made k)) h
    ∙ ap (λ (n : Module). let told : Result Module Fault = Ok n in told) (sym g)

-- What the code has found once the source is read: the definitions, the sections, the names and the externals.
pub record IsFound (s : Standing) (definitions : List Source) (m n : ℕ) (sections : List (Section Fixed)) (externals : List (List ℕ)) : Type 0 where
  pub sources : definitions ≡ (closed s.scope).sources
  pub seen : sections ≡ s.sections.all
  pub count : m ≡ length sections
  pub texts : externals ≡ external_names s.scope.names.all
  pub named : n ≡ length externals

abbrev pub known_from : List Source → ℕ → ℕ → Known
known_from sources count named = record { sources = sources; sections = count; externals = named }

pub known_found : (s : Standing) (sources : List Source) (count named : ℕ) (seen : List (Section Fixed)) (texts : List (List ℕ))
    → IsFound s sources count named seen texts → known_from sources count named ≡ known_in s
known_found s sources count named seen texts f = known_is s sources count named f.sources (f.count ∙ ap length f.seen) (f.named ∙ ap length f.texts)

faults_found : (s : Standing) (assigned : List Assignment) (begin : Option Opening) (sources : List Source) (count named : ℕ) (seen : List (Section Fixed)) (texts : List (List ℕ))
    → IsFound s sources count named seen texts
    → first_of (faults (known_from sources count named) s.sections.all assigned begin) ≡ first_of (faults (known_from sources count named) seen assigned begin)
faults_found s assigned begin sources count named seen texts f =
    let k = known_from sources count named in
    ap (λ (l : List (Section Fixed)). first_of (faults k l assigned begin)) (sym f.seen)

pub error_found : (s : Standing) (assigned : List Assignment) (begin : Option Opening) (sources : List Source) (count named : ℕ) (seen : List (Section Fixed)) (texts : List (List ℕ)) (e : FillError)
    → IsFound s sources count named seen texts
    → Lays (Err e) (laid (known_from sources count named) 0 seen) (first_of (faults (known_from sources count named) seen assigned begin))
    → Fills (Err e) (filled_in s assigned begin)
error_found s assigned begin sources count named seen texts (errors.Fault x) f h =
    fault_told s assigned begin (known_from sources count named) x (known_found s sources count named seen texts f)
    (faults_found s assigned begin sources count named seen texts f ∙ h)
error_found s assigned begin sources count named seen texts errors.NoMemory f h = tt

pub module_found : (s : Standing) (assigned : List Assignment) (begin : Option Opening) (sources : List Source) (count named : ℕ) (seen : List (Section Fixed)) (names : List Name) (texts : List (List ℕ)) (m : Module)
    → IsFound s sources count named seen texts → names ≡ s.scope.names.all
    → first_of (faults (known_from sources count named) seen assigned begin) ≡ None
    → m ≡ module_of (known_from sources count named) (laid (known_from sources count named) 0 seen) names s.transfer
    → filled_in s assigned begin ≡ Ok m
module_found s assigned begin sources count named seen names texts m f n h made =
    let k = known_from sources count named in
    module_told s assigned begin k m (known_found s sources count named seen texts f)
    (faults_found s assigned begin sources count named seen texts f ∙ h)
    (made
    ∙ ap (λ (l : List (Section Fixed)). module_of k (laid k 0 l) names s.transfer) f.seen
    ∙ ap (λ (l : List Name). module_of k (laid k 0 s.sections.all) l s.transfer) n)

pub seen_count : (sections : List (Building Fixup)) → length sections ≡ length (map section_seen (map section_of sections))
seen_count [] = refl
seen_count (b ∷ sections) = ap suc (seen_count sections)

pub texts_count : (texts : List (Vec ℕ)) → length texts ≡ length (map (λ w. w.items) texts)
texts_count [] = refl
texts_count (t ∷ texts) = ap suc (texts_count texts)
