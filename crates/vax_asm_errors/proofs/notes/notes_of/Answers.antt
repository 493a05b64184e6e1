use Rattle.std.proofs.Common.{◌≡◌, ◌++◌, ◌∷◌, List, [], All, rules, subst, sym, ap, length, ◌∙◌, arith}
use Rattle.std.proofs.lemmas.List.Elements.{All-append, All-cons, All-nil}
use Rattle.std.specs.Vec.Iter.{into_iter_items}
use Rattle.vax_asm_check.specs.Messages.{messages}
use Rattle.vax_asm_errors.proofs.Noting.{all_noted, none_left, one_noted}
use Rattle.vax_asm_errors.specs.Errors.{IsPlain}
use Rattle.vax_asm_errors.specs.declared.notes.Noted.{Noted}
use Rattle.vax_asm_errors.proofs.notes.notes_of.Goals as goal

pub loop-message-init : goal.loop-message-init
loop-message-init c =
    let plain = λ (n : Noted). IsPlain n.said in
    let none = c.before.new-all.ensures.items in
    record {
      told = search rules;
      counted = search rules;
      plain = subst (λ (l : List Noted). All plain l) (sym none) (All-nil plain);
    }

pub loop-message-preserved : goal.loop-message-preserved
loop-message-preserved c =
    let at = c.loop-message in
    let plain = λ (n : Noted). IsPlain n.said in
    let before = at.all.items in
    let one = c.in_ok-one.one in
    let steps : into_iter_items at.message-iterator ≡ c.in-Some.message ∷ into_iter_items c.next.new.self = c.in-Some.ensures.steps.0 in
    let after : c.push.new.self.items ≡ before ++ one ∷ [] = search rules in
    record {
      told = one_noted (messages c.args.source.dialect c.args.source.text.now) before c.push.new.self.items one c.in-Some.message (into_iter_items at.message-iterator) (into_iter_items c.next.new.self) steps c.in_ok-one.ensures.message after at.invariant.told;
      counted = let short = ap length steps in let gone = c.in-Some.ensures.steps.1 in let was = at.invariant.counted in omega arith;
      plain = subst (λ (l : List Noted). All plain l) (sym after) (All-append plain before (one ∷ []) at.invariant.plain (All-cons plain one [] c.in_ok-one.ensures.plain (All-nil plain)));
    }

pub returns-clause-told : goal.returns-clause-told
returns-clause-told c =
    let at = c.loop-message in
    let none : into_iter_items at.message-iterator ≡ [] = none_left (into_iter_items at.message-iterator) (sym at.invariant.counted ∙ c.in-None.ensures.steps.0) in
    all_noted (messages c.args.source.dialect c.args.source.text.now) at.all.items (into_iter_items at.message-iterator) none at.invariant.told
