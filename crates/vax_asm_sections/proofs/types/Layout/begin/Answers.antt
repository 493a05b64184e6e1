use Rattle.std.proofs.Common.{◌≡◌, ◌++◌, ◌∷◌, ◌-◌, [], ℕ, List, take, ap, ◌∙◌, sym, rules}
use Rattle.vax_asm_names.specs.ByName.{by_name}
use Rattle.vax_asm_sections.specs.declared.types.Building.{Building}
use Rattle.vax_asm_sections.proofs.Numbering.{is_added, is_refused, known_again, known_more, made_name}
use Rattle.vax_asm_sections.proofs.types.Layout.begin.Goals as goal

pub invariant_of-self-then-is_err-clause-known : goal.invariant_of-self-then-is_err-clause-known
invariant_of-self-then-is_err-clause-known g c =
    let pushed : c.push.new.self.items ≡ c.args.self.now.sections.items ++ c.made-section.result ∷ [] = search rules in
    known_again (by_name c.args.self.now.numbers) (by_name c.add_number.new.numbers) c.args.self.now.sections.items c.push.new.self.items c.pop.new.self.items c.made-section.result
    pushed (◌∙◌ {A = List (Building g.row.F.Denot)} c.pop.ensures.rest (ap (λ (n : ℕ). take (n - 1) c.push.new.self.items) c.push.new.self.ok.0)) (is_refused c.add_number.result c.add_number.ensures.kept (sym c.is_err.ensures.value ∙ c.if-is_err.true)) c.args.self.now.known

pub invariant_of-self-2-clause-known : goal.invariant_of-self-2-clause-known
invariant_of-self-2-clause-known g c =
    let pushed : c.push.new.self.items ≡ c.args.self.now.sections.items ++ c.made-section.result ∷ [] = search rules in
    let copied : c.in_ok-copy.copy.items ≡ c.args.name.now = search rules in
    known_more (by_name c.args.self.now.numbers) (by_name c.add_number.new.numbers) c.args.self.now.sections.items c.push.new.self.items c.made-section.result c.args.name.now c.len-number.result
    (c.len-number.ensures ∙ c.args.self.now.sections.ok.0) (made_name c.in_ok-copy.copy.items c.args.name.now c.args.attributes c.made-section.result c.made-section.ensures copied) pushed (is_added c.add_number.result c.add_number.ensures.added (sym c.is_err.ensures.value ∙ c.if-is_err.false)) c.requires.new c.args.self.now.known
