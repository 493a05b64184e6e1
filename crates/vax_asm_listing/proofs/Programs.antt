-- Sources, one after another.
use Rattle.std.proofs.Common.{◌≡◌, ℕ, suc, ◌+◌, ◌<◌, ◌≤◌, ◌++◌, List, [], ◌∷◌, length, take, drop, drop-cons, sym, ap, ◌∙◌, add-one, arith}
use Rattle.std.proofs.Math.Seq.{take-suc}
use Rattle.std.proofs.lemmas.List.{length-map, length-take, map-append, take-append-drop}
use Rattle.std.specs.Global.{Vec}
use Rattle.std.specs.Prelude.{slice_index_or}
use Rattle.vax_dialect.specs.declared.Dialect.{Dialect}
use Rattle.vax_module.specs.declared.Module.{Module}
use Rattle.vax_asm_listing.specs.Listed.{AreTraced, FileRefuses, FilesRefuse, IsTraced, texts}
use Rattle.vax_asm_listing.specs.declared.program.ListingError.{ListingError}
use Rattle.vax_asm_listing.specs.declared.program.ListingError.TheVariants.{Source, Link, NoMemory}
use Rattle.vax_asm_listing.specs.declared.types.Notes.{Notes}

pub traced_more : (dialect : Dialect) (sources : List (List ℕ)) (modules : List Module) (notes : List Notes) (s : List ℕ) (m : Module) (n : Notes)
    → AreTraced dialect sources modules notes → IsTraced dialect s m n → AreTraced dialect (sources ++ s ∷ []) (modules ++ m ∷ []) (notes ++ n ∷ [])
traced_more dialect [] [] [] s m n h one = (one, tt)
traced_more dialect [] [] (o ∷ notes) s m n h one = absurd h
traced_more dialect [] (p ∷ modules) notes s m n h one = absurd h
traced_more dialect (r ∷ sources) [] notes s m n h one = absurd h
traced_more dialect (r ∷ sources) (p ∷ modules) [] s m n h one = absurd h
traced_more dialect (r ∷ sources) (p ∷ modules) (o ∷ notes) s m n (first, rest) one = (first, traced_more dialect sources modules notes s m n rest one)

pub texts_more : (files : List (Vec ℕ)) (i : ℕ) (f : Vec ℕ) → i < length files → f ≡ slice_index_or files i f → texts (take (i + 1) files) ≡ texts (take i files) ++ f.items ∷ []
texts_more files i f h at =
    rw add-one (ap texts (take-suc files i f h ∙ ap (λ (x : Vec ℕ). take i files ++ x ∷ []) (sym at)) ∙ map-append (λ (v : Vec ℕ). v.items) (take i files) (f ∷ []))

parted : (files : List (Vec ℕ)) (i : ℕ) (f : Vec ℕ) → i < length files → f ≡ slice_index_or files i f → texts files ≡ texts (take i files) ++ f.items ∷ texts (drop (i + 1) files)
parted files i f h at =
    let rest : drop i files ≡ f ∷ drop (i + 1) files = rw add-one (drop-cons files i f h ∙ ap (λ (x : Vec ℕ). x ∷ drop (suc i) files) (sym at)) in
    ap texts (sym (take-append-drop i files)) ∙ (map-append (λ (v : Vec ℕ). v.items) (take i files) (drop i files) ∙ ap (λ (l : List (Vec ℕ)). texts (take i files) ++ texts l) rest)

counted : (files : List (Vec ℕ)) (i : ℕ) → i ≤ length files → length (texts (take i files)) ≡ i
counted files i h = omega (arith, length-map (take i files) (λ (v : Vec ℕ). v.items), length-take i files, h)

pub files_refuse : (dialect : Dialect) (files : List (Vec ℕ)) (i : ℕ) (f : Vec ℕ) (modules : List Module) (notes : List Notes) (e : ListingError) → i < length files → f ≡ slice_index_or files i f
    → AreTraced dialect (texts (take i files)) modules notes → FileRefuses dialect f.items (i + 1) e → FilesRefuse dialect (texts files) e
files_refuse dialect files i f modules notes NoMemory h at traced is = tt
files_refuse dialect files i f modules notes (Link e) h at traced is = absurd is
files_refuse dialect files i f modules notes (Source file line kind) h at traced is = record {
  before = texts (take i files);
  source = f.items;
  rest = texts (drop (i + 1) files);
  modules = modules;
  notes = notes;
  are = parted files i f h at;
  traced = traced;
  faulty = rw (counted files i (omega (arith, h))) is;
}
