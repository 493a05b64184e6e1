use Rattle.vax_debug_views.specs.Views.{saved}
use Rattle.vax_debug_views.proofs.Wholes.{frame_told}
use Rattle.vax_debug_views.proofs.frames.saved_frame.Goals as goal

pub returns-in_default-saved-clause-stays : goal.returns-in_default-saved-clause-stays
returns-in_default-saved-clause-stays g c = λ sink o s replies here. c.saved-2.ensures.stays sink o s replies (c.saved.ensures.stays sink o s replies here)

pub returns-in-Ok-saved-2-clause-tells : goal.returns-in-Ok-saved-2-clause-tells
returns-in-Ok-saved-2-clause-tells g c = λ sink o s replies here.
    let one = c.saved.ensures.stays sink o s replies here in
    let two = c.saved-2.ensures.stays sink o s replies one in
    frame_told c.in-Ok.pc c.in-Ok-saved.ap c.in-Ok-saved-2.fp (saved 16 c.args.frame s.machine) (saved 8 c.args.frame s.machine) (saved 12 c.args.frame s.machine) c.frame_of.result
    (c.in-Ok.ensures.tells sink o s replies here) (c.in-Ok-saved.ensures.tells sink o s replies one) (c.in-Ok-saved-2.ensures.tells sink o s replies two) c.frame_of.ensures

pub returns-in-Ok-saved-2-clause-stays : goal.returns-in-Ok-saved-2-clause-stays
returns-in-Ok-saved-2-clause-stays g c = λ sink o s replies here.
    c.saved-3.ensures.stays sink o s replies (c.saved-2.ensures.stays sink o s replies (c.saved.ensures.stays sink o s replies here))

pub returns-in-Err-clause-stays : goal.returns-in-Err-clause-stays
returns-in-Err-clause-stays g c = λ sink o s replies here.
    c.saved-3.ensures.stays sink o s replies (c.saved-2.ensures.stays sink o s replies (c.saved.ensures.stays sink o s replies here))
