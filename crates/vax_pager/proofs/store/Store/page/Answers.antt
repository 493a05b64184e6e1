use Rattle.std.proofs.Common.{refl, rules, ◌∙◌}
use Rattle.vax_pager.proofs.Effects.{keeps_peeked, keeps_unchanged, once_peeked, once_unchanged, reads_peeked, reads_unchanged}
use Rattle.vax_pager.proofs.Poking.{page_absent, page_kept, page_resident}
use Rattle.vax_pager.proofs.Views.{get_same}
use Rattle.vax_pager.proofs.store.Store.page.Goals as goal

pub returns-then-is_resident-clause-bytes : goal.returns-then-is_resident-clause-bytes
returns-then-is_resident-clause-bytes g c = page_resident _ _ c.args.page (search rules) _ (search rules) (get_same _ _ _ c.resident_frame-frame.ensures.room c.index.ensures ∙ c.resident_frame-frame.ensures.bytes)

pub returns-in-Some-clause-bytes : goal.returns-in-Some-clause-bytes
returns-in-Some-clause-bytes g c = page_kept _ _ c.args.page (search rules) _ (search rules) (search rules) (get_same _ _ _ c.in-Some.ensures.room c.index-in-Some.ensures ∙ c.in-Some.ensures.bytes)

pub returns-clause-bytes : goal.returns-clause-bytes
returns-clause-bytes g c = page_absent _ _ c.args.page (search rules) _ (search rules) c.in_ok-bytes.ensures.bytes

pub returns-clause-keeps : goal.returns-clause-keeps
returns-clause-keeps g c = keeps_peeked _ _ _ _ c.in_ok-bytes.ensures.read

pub returns-in_err-bytes-clause-keeps : goal.returns-in_err-bytes-clause-keeps
returns-in_err-bytes-clause-keeps g c = keeps_unchanged _ _ _ c.in_err-bytes.ensures.err

pub returns-clause-reads : goal.returns-clause-reads
returns-clause-reads g c = reads_peeked _ _ _ _ c.in_ok-bytes.ensures.read

pub returns-in_err-bytes-clause-reads : goal.returns-in_err-bytes-clause-reads
returns-in_err-bytes-clause-reads g c = reads_unchanged _ _ c.in_err-bytes.ensures.err

pub returns-clause-once : goal.returns-clause-once
returns-clause-once g c = once_peeked _ _ _ _ c.in_ok-bytes.ensures.read

pub returns-in_err-bytes-clause-once : goal.returns-in_err-bytes-clause-once
returns-in_err-bytes-clause-once g c = once_unchanged _ _ c.in_err-bytes.ensures.err

pub returns-then-not-has-clause-once : goal.returns-then-not-has-clause-once
returns-then-not-has-clause-once g c = once_unchanged _ _ refl

pub returns-then-is_resident-clause-once : goal.returns-then-is_resident-clause-once
returns-then-is_resident-clause-once g c = once_unchanged _ _ refl

pub returns-in-Some-clause-once : goal.returns-in-Some-clause-once
returns-in-Some-clause-once g c = once_unchanged _ _ refl
