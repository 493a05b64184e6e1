use Rattle.std.proofs.Common.{ℕ, Bool, None, ap}
use Rattle.vax_flat.specs.Port.{View}
use Rattle.vax_undo.specs.Plain.{view_of}
use Rattle.vax_undo.proofs.PlainMemory.{resident_set}
use Rattle.vax_undo.proofs.plain.Plain.hide.Goals as goal

pub returns-in-Some : goal.returns-in-Some
returns-in-Some c =
    let view : (ℕ → Bool) → View = λ r. record (view_of c.args.self.now) { resident = r } in
    ap view (resident_set c.args.self.now.owners.items c.args.page c.in-Some.place None c.args.self.now.sound.size c.in-Some.ensures.bound c.in-Some.ensures.place)
