use Rattle.std.proofs.Common.{◌≡◌, ◌+◌, Some, refl, rules}
use Rattle.std.proofs.lemmas.Map.Text.{hash_map_updates_str}
use Rattle.vax_link.specs.declared.names.Names.{Names}
use Rattle.vax_link.proofs.NameLaws.{table_more}
use Rattle.vax_link.proofs.names.Names.define.Goals as goal

pub returns-in-Ok : goal.returns-in-Ok
returns-in-Ok c =
    let new : Names = record { modules = c.args.self.now.modules; defined = c.insert.new.self; steps = c.in_ok-steps.steps } in
    let more : c.in_ok-steps.steps ≡ c.args.self.now.steps + 1 = search rules in
    record {
      table = λ entries table unknown.
          table_more c.args.self.now new entries c.args.name.now c.args.definition table unknown
          (λ q. hash_map_updates_str c.args.name.now c.args.self.now.defined c.insert.new.self (Some c.args.definition) c.in-Ok.ensures.updates q) more;
      modules = refl;
    }
