use Rattle.std.proofs.Common.{rules, ◌≡◌, [], ◌∷◌, ◌++◌}
use Rattle.vax_asm.specs.View.{assembly_of}
use Rattle.vax_asm.specs.Walk.{nothing}
use Rattle.vax_macro.specs.Rest.{started}
use Rattle.vax_asm_listing.proofs.Rows.{opens_on}
use Rattle.vax_asm_listing.proofs.tracing.say.Goals as goal

pub returns-clause-rows : goal.returns-clause-rows
returns-clause-rows c = λ dialect source before after opens rows met.
    let so = c.in_ok-say.ensures.stands met in
    let text : c.in-Ok.copy ≡ c.args.said.text.items = search rules in
    let items : c.push.new.self.items ≡ c.args.rows.now.items ++ c.row_of-row.result ∷ [] = search rules in
    let old = assembly_of c.args.walk.now.standing c.args.walk.now.assignments in
    let new = assembly_of c.say.new.self.standing c.say.new.self.assignments in
    rw items (opens_on (started dialect source) (nothing dialect) c.args.rows.now.items before old after new c.row_of-row.result c.args.origin c.args.said.text.items c.point_of-before.result c.point_of-after.result
    (rows so.0) opens so.1 (rw text at c.row_of-row.ensures) c.point_of-before.ensures c.point_of-after.ensures)
