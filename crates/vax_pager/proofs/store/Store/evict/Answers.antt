use Rattle.std.proofs.Common.{rules, ◌≡◌, sym, ◌∙◌, ap, true, false}
use Rattle.vax_pager.specs.Listing.{is_listed}
use Rattle.vax_pager.specs.Store.{paging}
use Rattle.vax_pager.specs.Steps.{released}
use Rattle.vax_pager.proofs.Told.{absent_clean}
use Rattle.vax_pager.proofs.Effects.{evict_none, wrote_none, evict_one, flush_order, flush_clean, keeps_then, keeps_released}
use Rattle.vax_pager.proofs.store.Store.evict.Goals as goal

pub returns-then-not-is_resident-clause-ok : goal.returns-then-not-is_resident-clause-ok
returns-then-not-is_resident-clause-ok g c = sym (evict_none _ _ (search rules))

pub returns-then-not-is_resident-clause-wrote : goal.returns-then-not-is_resident-clause-wrote
returns-then-not-is_resident-clause-wrote g c = sym (wrote_none _ _ _ (absent_clean _ _ c.requires.sound (search rules)))

pub release-requires-clause-resident : goal.release-requires-clause-resident
release-requires-clause-resident g c = rw (c.in_ok-flush.ensures.ok, flush_order) (search rules)

pub release-requires-clause-unmodified : goal.release-requires-clause-unmodified
release-requires-clause-unmodified g c = rw (c.in_ok-flush.ensures.ok) (flush_clean c.args.page (paging c.args.self.now))

pub returns-clause-ok : goal.returns-clause-ok
returns-clause-ok g c = c.release.ensures.paging ∙ ap (released c.args.page) c.in_ok-flush.ensures.ok ∙ sym (evict_one _ _ (search rules))

pub returns-clause-keeps : goal.returns-clause-keeps
returns-clause-keeps g c =
    let r : is_listed c.args.page (paging c.flush.new.self).order ≡ true = rw (c.in_ok-flush.ensures.ok, flush_order) (search rules) in
    let m : is_listed c.args.page (paging c.flush.new.self).modified ≡ false = rw (c.in_ok-flush.ensures.ok) (flush_clean c.args.page (paging c.args.self.now)) in
    keeps_then _ _ _ _ _ _ c.flush.ensures.keeps (keeps_released c.args.page _ _ _ c.release.ensures.paging r m)
