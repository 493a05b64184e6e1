use Rattle.std.proofs.Common.{◌≡◌, ◌++◌, ◌∷◌, List, [], All, rules, subst, sym}
use Rattle.std.proofs.lemmas.List.Elements.{All-append, All-cons, All-nil}
use Rattle.vax_asm_errors.proofs.Saying.{said_added}
use Rattle.vax_asm_errors.specs.Errors.{IsPlain}
use Rattle.vax_asm_errors.specs.declared.said.Said.{Said}
use Rattle.vax_asm_errors.proofs.said.said_of.Goals as goal

pub loop-fault-preserved : goal.loop-fault-preserved
loop-fault-preserved c =
    let before = c.loop-fault.all.items in
    let one = c.in_ok-one.one in
    let after : c.push.new.self.items ≡ before ++ one ∷ [] = search rules in
    record {
      same = search (rules, said_added);
      plain = subst (λ (l : List Said). All IsPlain l) (sym after) (All-append IsPlain before (one ∷ []) c.loop-fault.invariant.plain (All-cons IsPlain one [] c.in_ok-one.ensures.plain (All-nil IsPlain)));
    }
