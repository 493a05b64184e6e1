use Rattle.std.proofs.Common.{length, arith, sym, ap, ◌∙◌}
use Rattle.vax_space.specs.declared.Access.TheVariants.{Read}
use Rattle.vax_undo.proofs.Accesses.{fine, gone}
use Rattle.vax_undo.proofs.Ranges.{bytes_length}
use Rattle.vax_pager.specs.Paging.{view_of}
use Rattle.vax_pager.specs.Store.{paging}
use Rattle.vax_pager.proofs.store.Store.read_run.Goals as goal

pub copy_from_slice-requires : goal.copy_from_slice-requires
copy_from_slice-requires c =
    let e = ap length c.part.ensures ∙ bytes_length _ _ _ in
    omega (arith, e)

pub returns-in-Some-clause-answer : goal.returns-in-Some-clause-answer
returns-in-Some-clause-answer c = sym (fine (view_of (paging c.args.self.now)) c.args.addr (length c.args.into.now) c.args.mode Read c.in_default.ensures c.ranges.addr.fits c.requires.one_page (sym c.in-Some.ensures.resident))

pub returns-in-None-clause-answer : goal.returns-in-None-clause-answer
returns-in-None-clause-answer c = sym (gone (view_of (paging c.args.self.now)) c.args.addr (length c.args.into.now) c.args.mode Read c.in_default.ensures c.requires.some (sym c.in-None.ensures.resident))
