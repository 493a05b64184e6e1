-- What the linker found, in place of what was meant.
use Rattle.std.proofs.Common.{◌≡◌, refl, subst, sym}
use Rattle.std.specs.Prelude.{Result, Err}
use Rattle.vax_image.specs.declared.Image.{Image}
use Rattle.vax_link.specs.Linked.{Gives}
use Rattle.vax_link.specs.declared.LinkError.{LinkError}
use Rattle.vax_link.specs.declared.LinkError.TheVariants.{Duplicate, Undefined, Pages, NoTransfer, Reach, NoMemory}
use Rattle.vax_program.specs.Program.{from_link}
use Rattle.vax_program.specs.View.{Answers}
use Rattle.vax_program.specs.declared.types.ProgramError.{ProgramError}
use Rattle.vax_program.specs.declared.types.ProgramError.TheVariants as error

-- this is answered where that was meant
abbrev pub AnswersLink : ProgramError → Result Image LinkError → Type 0
AnswersLink answer meant = Answers (λ (image : Image). image) (Err answer) (from_link meant)

module _ (answer : ProgramError) (meant : Result Image LinkError) where
  same_answer : (found : LinkError) → meant ≡ Err found → AnswersLink answer (Err found) → AnswersLink answer meant
  same_answer found is h = subst (AnswersLink answer) (sym is) h

  pub link_answers : (found : LinkError) → Gives (Err found) meant → AnswersLink answer (Err found) → (found ≡ NoMemory → answer ≡ error.NoMemory) → AnswersLink answer meant
  link_answers (Undefined name) is h lacks = same_answer (Undefined name) is h
  link_answers (Duplicate name) is h lacks = same_answer (Duplicate name) is h
  link_answers Pages is h lacks = same_answer Pages is h
  link_answers NoTransfer is h lacks = same_answer NoTransfer is h
  link_answers (Reach address) is h lacks = same_answer (Reach address) is h
  link_answers NoMemory is h lacks = subst (λ (e : ProgramError). AnswersLink e meant) (sym (lacks refl)) tt
