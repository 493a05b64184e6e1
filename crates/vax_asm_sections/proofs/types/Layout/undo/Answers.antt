use Rattle.std.proofs.Common.{List, ap, rules}
use Rattle.vax_asm_names.specs.ByName.{by_name}
use Rattle.vax_asm_sections.specs.Layout.{Section}
use Rattle.vax_asm_sections.proofs.Numbering.{known_still, same_name}
use Rattle.vax_asm_sections.proofs.Undoing.{part_taken}
use Rattle.vax_asm_sections.proofs.types.Layout.undo.Goals as goal

pub invariant_of-self : goal.invariant_of-self
invariant_of-self g c =
    let old = c.args.self.now in
    record {
      in_range = search rules;
      known = known_still (by_name old.numbers) old.sections.items old.current c.shorten.new.self c.index_mut.result.now old.in_range (same_name c.index_mut.result.now c.shorten.new.self _ c.shorten.ensures.named c.index_mut.ensures.value) old.known;
    }

pub returns-clause-sections : goal.returns-clause-sections
returns-clause-sections g c =
    let old = c.args.self.now in
    ap (λ (l : List (Section g.row.F.Denot)). record { all = l; current = old.current; total = c.args.put.total })
    (part_taken old.sections.items old.current c.args.put c.index_mut.result.now c.shorten.new.self old.in_range c.index_mut.ensures.value c.shorten.ensures.back)
