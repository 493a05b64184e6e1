use Rattle.std.proofs.Common.{◌≡◌, ◌++◌, ◌∷◌, [], Bool, List, length, sym, ap, ◌∙◌, arith, rules}
use Rattle.std.specs.Prelude.{not}
use Rattle.std.proofs.lemmas.List.{map_push, length-map}
use Rattle.vax_image.specs.declared.texts.Text.{Text as Kept}
use Rattle.vax_image.specs.Texts.{number_among}
use Rattle.vax_image.specs.Views.{text, texts}
use Rattle.vax_image.proofs.Taking.{taken_new, taken_old}
use Rattle.vax_image.proofs.texts.take_text.Goals as goal

pub returns-in_ok-push-clause-taken : goal.returns-in_ok-push-clause-taken
returns-in_ok-push-clause-taken c =
    let len = length-map c.args.taken.now.items text in
    let few = c.requires.few in
    let count : c.len.result ≡ length c.args.taken.now.items = search rules in
    let number = c.number_among-number.ensures ∙ ap (λ (ts : List Kept). number_among (texts ts) c.args.bytes.now c.args.prot) c.deref.ensures.value in
    let new = taken_new (texts c.args.taken.now.items) c.args.bytes.now c.args.prot c.number_among-number.result number (c.if-number-len.true ∙ count ∙ sym len) (omega arith) in
    ap texts c.in_ok-push.ensures.items ∙ map_push text c.args.taken.now.items _
    ∙ ap (λ (b : Bool). texts c.args.taken.now.items ++ record { bytes = c.args.bytes.now; constant = not b } ∷ []) c.allows-constant.ensures.answer ∙ sym new

pub returns-else-number-len-clause-taken : goal.returns-else-number-len-clause-taken
returns-else-number-len-clause-taken c =
    let len = length-map c.args.taken.now.items text in
    let count : c.len.result ≡ length c.args.taken.now.items = search rules in
    let number = c.number_among-number.ensures ∙ ap (λ (ts : List Kept). number_among (texts ts) c.args.bytes.now c.args.prot) c.deref.ensures.value in
    sym (taken_old (texts c.args.taken.now.items) c.args.bytes.now c.args.prot c.number_among-number.result number (λ e. c.if-number-len.false (e ∙ len ∙ sym count)))
