-- Sources, their modules and the image that these are linked to.
use Rattle.std.proofs.Common.{◌≡◌, ◌⊎◌, inl, inr, ℕ, suc, ◌+◌, ◌++◌, ◌||◌, Bool, true, false, cond, List, [], ◌∷◌, length, Result, Ok, Err, refl, ap, sym, subst, ◌∙◌, arith}
use Rattle.vax_asm.specs.Walk.{assembled}
use Rattle.vax_asm_second.specs.declared.types.Fault.{Fault}
use Rattle.vax_asm_listing.specs.Listed.{AreTraced, IsFaulty, IsListing}
use Rattle.vax_asm_listing.specs.declared.program.ListingError.TheVariants as listing_error
use Rattle.vax_asm_listing.specs.declared.types.Notes.{Notes}
use Rattle.vax_dialect.specs.declared.Dialect.{Dialect}
use Rattle.vax_elf.specs.Executable.{is_executable}
use Rattle.vax_elf.specs.Reading as elf
use Rattle.vax_image.specs.Reading.{image_of}
use Rattle.vax_image.specs.declared.Base.{Base}
use Rattle.vax_image.specs.declared.Image.{Image}
use Rattle.vax_link.specs.Linked.{linked}
use Rattle.vax_link.specs.declared.LinkError.{LinkError}
use Rattle.vax_link.specs.declared.LinkError.TheVariants.{NoMemory}
use Rattle.vax_macro.specs.Fault.{code_of}
use Rattle.vax_macro.specs.declared.error.FaultKind.{FaultKind}
use Rattle.vax_module.specs.declared.Module.{Module}
use Rattle.vax_program.specs.Program.{Parts, Refusal, Source, InImage, and_others, as_parts, from_executable, from_image, from_link, is_image, is_linked, linked_of, modules_of, parts_of}
use Rattle.vax_program.specs.View as program
use Rattle.vax_program.specs.View.{refusal_seen}
use Rattle.vax_program.specs.declared.types.ProgramError.{ProgramError}
use Rattle.vax_program.specs.declared.types.ProgramError.TheVariants as program_error
use Rattle.vax_program.specs.declared.types.Refusal.TheVariants as refusals
use Rattle.vax_program.proofs.LinkerLaws.{AnswersLink, link_answers}
use Rattle.vax_command.specs.declared.status.Status.{Status}
use Rattle.vax_command.specs.declared.status.Status.TheVariants as status
use Rattle.vax_top.specs.Loaded.{AreSources, IsRefused, and_then, image_from, sources_from, sources_image}
use Rattle.vax_top.specs.LoadedView.{Answers, AnswersListing}

-- sources that have modules
traced_from : (dialect : Dialect) (file : ℕ) (sources : List (List ℕ)) (modules : List Module) (notes : List Notes) → AreTraced dialect sources modules notes → sources_from dialect file sources ≡ Ok modules
traced_from dialect file [] [] [] h = refl
traced_from dialect file [] [] (n ∷ notes) h = absurd h
traced_from dialect file [] (m ∷ modules) notes h = absurd h
traced_from dialect file (s ∷ sources) [] notes h = absurd h
traced_from dialect file (s ∷ sources) (m ∷ modules) [] h = absurd h
traced_from dialect file (s ∷ sources) (m ∷ modules) (n ∷ notes) (first, others) =
    ap (λ (r : Result Module Fault). and_others file r (sources_from dialect (suc file) sources)) first.assembles
    ∙ ap (and_others file (Ok m)) (traced_from dialect (suc file) sources modules notes others)

-- sources of which one has a fault, and those before it have modules
faulty_from : (dialect : Dialect) (number file : ℕ) (before : List (List ℕ)) (source : List ℕ) (rest : List (List ℕ)) (modules : List Module) (notes : List Notes) (fault : Fault)
    → number ≡ file + length before → AreTraced dialect before modules notes → assembled dialect source ≡ Err fault → sources_from dialect file (before ++ source ∷ rest) ≡ Err (Source number fault.origin.line (code_of fault.kind))
faulty_from dialect number file [] source rest [] [] fault e h is =
    let here : file ≡ number = omega (arith, e) in
    ap (λ (r : Result Module Fault). and_others file r (sources_from dialect (suc file) rest)) is
    ∙ ap (λ (n : ℕ). and_others n (Err fault) (sources_from dialect (suc file) rest)) here
faulty_from dialect number file [] source rest [] (n ∷ notes) fault e h is = absurd h
faulty_from dialect number file [] source rest (m ∷ modules) notes fault e h is = absurd h
faulty_from dialect number file (s ∷ before) source rest [] notes fault e h is = absurd h
faulty_from dialect number file (s ∷ before) source rest (m ∷ modules) [] fault e h is = absurd h
faulty_from dialect number file (s ∷ before) source rest (m ∷ modules) (n ∷ notes) fault e (first, others) is =
    ap (λ (r : Result Module Fault). and_others file r (sources_from dialect (suc file) (before ++ source ∷ rest))) first.assembles
    ∙ ap (and_others file (Ok m)) (faulty_from dialect number (suc file) before source rest modules notes fault (omega (arith, e)) others is)

module _ (dialect : Dialect) (region : Base) (sources : List (List ℕ)) where
  sources_linked : (modules : List Module) (notes : List Notes) → AreTraced dialect sources modules notes → sources_image dialect region sources ≡ from_link (linked region modules)
  unfolding linked_of
  sources_linked modules notes h = ap (λ (r : Result (List Module) Refusal). and_then (as_parts region r) linked_of) (traced_from dialect 1 sources modules notes h)

  pub sources_built : (text : List ℕ) (h : IsListing dialect region sources text) → sources_image dialect region sources ≡ Ok h.image
  sources_built text h = sources_linked h.modules h.notes h.traced ∙ ap from_link h.links

  sources_faulty : (file line : ℕ) (kind : FaultKind) → IsFaulty dialect sources file line kind → sources_image dialect region sources ≡ Err (Source file line (code_of kind))
  sources_faulty file line kind h =
      let fault : Fault = record { origin = record { line = line; place = h.faulty.1.0 }; kind = kind } in
      ap (sources_image dialect region) h.are
      ∙ ap (λ (r : Result (List Module) Refusal). and_then (as_parts region r) linked_of)
      (faulty_from dialect file 1 h.before h.source h.rest h.modules h.notes fault (omega (arith, h.faulty.0)) h.traced h.faulty.1.1)

-- why sources have no listing, and what is answered
pub source_answers : (file line number : ℕ) (kind : FaultKind) → number ≡ code_of kind → AnswersListing (listing_error.Source file line kind) (program_error.Refused (refusals.Source file line number))
source_answers file line number kind e dialect region sources h =
    subst (λ (n : ℕ). sources_image dialect region sources ≡ Err (Source file line n)) (sym e) (sources_faulty dialect region sources file line kind h)

pub linker_answers : (e : LinkError) (answer : ProgramError) → AnswersLink answer (Err e) → (e ≡ NoMemory → answer ≡ program_error.NoMemory) → AnswersListing (listing_error.Link e) answer
linker_answers e answer h lacks dialect region sources u =
    subst (λ (meant : Result Image Refusal). program.Answers (λ (image : Image). image) (Err answer) meant) (sym (sources_linked dialect region sources u.modules u.notes u.traced))
    (link_answers answer (linked region u.modules) e u.found h lacks)

pub answered : (meant : Result Image Refusal) (error : ProgramError) (answer : Status) → program.Answers (λ (image : Image). image) (Err error) meant → Answers error answer → IsRefused meant answer ⊎ (answer ≡ status.NoMemory)
answered meant (program_error.Refused refusal) answer h is = inl (record { refusal = refusal_seen refusal; found = h; answer = is })
answered meant program_error.NoMemory answer h is = inr is

-- files of which none begins as a linked program

chosen : {X : Type 0} (b : Bool) (x y : X) → b ≡ false → cond b x y ≡ y
chosen true x y e = absurd (cc e)
chosen false x y e = refl

first_is_no : (a b : Bool) → (a || b) ≡ false → a ≡ false
first_is_no true b e = absurd (cc e)
first_is_no false b e = refl

second_is_no : (a b : Bool) → (a || b) ≡ false → b ≡ false
second_is_no true b e = absurd (cc e)
second_is_no false b e = e

same_modules : (dialect : Dialect) (file : ℕ) (sources : List (List ℕ)) → AreSources sources → sources_from dialect file sources ≡ modules_of dialect file sources
same_modules dialect file [] h = refl
same_modules dialect file (s ∷ sources) (one, others) =
    ap (and_others file (assembled dialect s)) (same_modules dialect (suc file) sources others)
    ∙ sym (chosen (is_linked s) (Err (InImage 0 11)) (and_others file (assembled dialect s) (modules_of dialect (suc file) sources)) one)

same_parts : (dialect : Dialect) (region : Base) (sources : List (List ℕ)) → AreSources sources → as_parts region (modules_of dialect 1 sources) ≡ parts_of dialect region 1 sources
unfolding parts_of
same_parts dialect region [] h = refl
same_parts dialect region (s ∷ []) (one, others) =
    let parts = as_parts region (modules_of dialect 1 (s ∷ [])) in
    sym (chosen (is_image s) (from_image region (image_of s)) (cond (is_executable s) (from_executable region (elf.image_of s)) parts) (first_is_no (is_image s) (is_executable s) one)
    ∙ chosen (is_executable s) (from_executable region (elf.image_of s)) parts (second_is_no (is_image s) (is_executable s) one))
same_parts dialect region (s ∷ t ∷ sources) h = refl

pub same_image : (dialect : Dialect) (region : Base) (sources : List (List ℕ)) → AreSources sources → sources_image dialect region sources ≡ image_from dialect region sources
same_image dialect region sources h =
    ap (λ (r : Result (List Module) Refusal). and_then (as_parts region r) linked_of) (same_modules dialect 1 sources h)
    ∙ ap (λ (r : Result Parts Refusal). and_then r linked_of) (same_parts dialect region sources h)
