-- Messages and remarks, one behind the other.
use Rattle.std.proofs.Common.{◌≡◌, false, List, [], ◌∷◌, ◌++◌, Ok, Err, All, length, map, refl, sym, ap, ◌∙◌, append-nil, append_assoc, arith}
use Rattle.std.proofs.lemmas.List.{map-append}
use Rattle.std.specs.List.{flat_map}
use Rattle.std.specs.Prelude.{OnOk, Result}
use Rattle.vax_asm_causes.specs.Remarks.{Asked, remarks}
use Rattle.vax_asm_causes.specs.declared.remarks.Remark.{Remark}
use Rattle.vax_asm_check.proofs.Telling.{none_given}
use Rattle.vax_asm_check.specs.Messages.{Message, messages}
use Rattle.vax_asm_check.specs.View.{message_seen}
use Rattle.vax_asm_check.specs.declared.notes.Message as code_message
use Rattle.vax_asm_errors.specs.Errors.{IsPlain}
use Rattle.vax_asm_errors.specs.Notes.{note}
use Rattle.vax_asm_errors.specs.Remarks.{IsRemarked, remark}
use Rattle.vax_asm_errors.specs.declared.notes.Noted.{Noted}
use Rattle.vax_dialect.specs.Differences.{has_further_directives}
use Rattle.vax_dialect.specs.declared.Dialect.{Dialect}
use Rattle.vax_lines.specs.Lines.{Text}
use Rattle.vax_prelude.specs.Preludes.{Title}

abbrev given : List Noted → List Message
given notes = map (λ n. message_seen n.message) notes

-- one message more
pub one_noted : (all : List Message) (before after : List Noted) (n : Noted) (m : code_message.Message) (left rest : List code_message.Message) → left ≡ m ∷ rest → message_seen n.message ≡ message_seen m → after ≡ before ++ n ∷ []
    → given before ++ map message_seen left ≡ all → given after ++ map message_seen rest ≡ all
one_noted all before after n m left rest e is more same =
    ap (λ (l : List Noted). given l ++ map message_seen rest) more
    ∙ ap (λ (l : List Message). l ++ map message_seen rest) (map-append (λ (x : Noted). message_seen x.message) before (n ∷ []))
    ∙ append_assoc (given before) (message_seen n.message ∷ []) (map message_seen rest)
    ∙ ap (λ (x : Message). given before ++ x ∷ map message_seen rest) is
    ∙ ap (λ (l : List code_message.Message). given before ++ map message_seen l) (sym e)
    ∙ same

pub none_left : {X : Type 0} (xs : List X) → length xs ≡ 0 → xs ≡ []
none_left [] e = refl
none_left (x ∷ xs) e = absurd (omega (arith, e))

pub all_noted : (all : List Message) (notes : List Noted) (left : List code_message.Message) → left ≡ [] → given notes ++ map message_seen left ≡ all → given notes ≡ all
all_noted all notes left none same = sym (append-nil (given notes)) ∙ ap (λ (l : List code_message.Message). given notes ++ map message_seen l) (sym none) ∙ same

pub all_remarked : {A E : Type 0} (r : Result A E) (dialect : Dialect) (title : Title) (source : Text) (asked : Asked) (notes : List Noted) (before between after : Text) → given notes ≡ messages dialect source → All (λ (n : Noted). IsPlain n.said) notes
    → between ≡ before ++ flat_map (note title source) notes → (found : List Remark) → found ≡ remarks dialect asked source → (told : List Remark) → told ≡ found
    → OnOk r (after ≡ between ++ flat_map (remark title source asked.name) told) → OnOk r (IsRemarked dialect title source asked before after)
all_remarked (Ok x) dialect title source asked notes before between after given plain b found f told t h = record {
  notes = notes;
  told = given;
  plain = plain;
  text =
      h ∙ ap (λ (l : Text). l ++ flat_map (remark title source asked.name) told) b
      ∙ ap (λ (l : List Remark). before ++ flat_map (note title source) notes ++ flat_map (remark title source asked.name) l) (t ∙ f);
}
all_remarked (Err x) dialect title source asked notes before between after given plain b found f told t h = tt

-- where no messages are given
none_noted : (notes : List Noted) → given notes ≡ [] → notes ≡ []
none_noted [] e = refl
none_noted (n ∷ notes) e = absurd cc

pub remarks_alone : (dialect : Dialect) (title : Title) (source : Text) (asked : Asked) (before after : Text) → has_further_directives dialect ≡ false → IsRemarked dialect title source asked before after
    → after ≡ before ++ flat_map (remark title source asked.name) (remarks dialect asked source)
remarks_alone dialect title source asked before after smaller is =
    let none = none_noted is.notes (is.told ∙ none_given dialect source smaller) in
    is.text ∙ ap (λ (l : List Noted). before ++ flat_map (note title source) l ++ flat_map (remark title source asked.name) (remarks dialect asked source)) none
    ∙ ap (λ (l : Text). l ++ flat_map (remark title source asked.name) (remarks dialect asked source)) (append-nil before)
