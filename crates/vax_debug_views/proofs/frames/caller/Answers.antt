use Rattle.std.proofs.Common.{◌≡◌, ◌==◌, false}
use Rattle.std.proofs.lemmas.Bool.{ne_eqb}
use Rattle.vax_flat.specs.Step.{Flat}
use Rattle.vax_machine.specs.Meaning.{engine}
use Rattle.vax_console.specs.Ends.{scene}
use Rattle.vax_debug_views.specs.Views.{caller, frame_of, saved}
use Rattle.vax_debug_views.proofs.Wholes.{has_caller, tells_as}
use Rattle.vax_debug_views.proofs.frames.caller.Goals as goal

pub returns-else-frame-eq0-clause-tells : goal.returns-else-frame-eq0-clause-tells
returns-else-frame-eq0-clause-tells g c = λ sink.
    let f = c.args.frame in
    let some : (f.fp == 0) ≡ false = ne_eqb f.fp 0 c.if-frame-eq0.false in
    tells_as c.saved_frame.result (scene (engine c.args.machine.now) (g.F.PageFile.contents c.args.file.now) sink) (λ (m : Flat). frame_of (saved 16 f m) (saved 8 f m) (saved 12 f m)) (caller f) (λ m. has_caller f m some) (c.saved_frame.ensures.tells sink)
