use Rattle.std.proofs.Common.{refl, rules}
use Rattle.vax_space.specs.Reference.{page_of}
use Rattle.vax_pager.specs.Listing.{is_listed}
use Rattle.vax_pager.specs.Store.{paging}
use Rattle.vax_pager.proofs.Effects.{either_true, first_true, neither, peek_absent, peek_kept, peek_resident, keeps_peeked, keeps_unchanged, once_peeked, once_unchanged, reads_peeked, reads_unchanged, peeked_frame, peeked_home}
use Rattle.vax_pager.proofs.store.Store.peek.Goals as goal

pub returns-then-is_resident-clause-byte : goal.returns-then-is_resident-clause-byte
returns-then-is_resident-clause-byte g c = λ memory st. peek_resident _ _ memory c.args.addr _ (search rules) (search rules) (search rules) st

pub returns-then-is_resident-clause-from : goal.returns-then-is_resident-clause-from
returns-then-is_resident-clause-from g c = peeked_frame (paging c.args.self.now) _ c.args.addr _ (first_true (is_listed (page_of c.args.addr) (paging c.args.self.now).order) (is_listed (page_of c.args.addr) (paging c.args.self.now).kept) (search rules)) (search rules)

pub returns-in-Some-clause-byte : goal.returns-in-Some-clause-byte
returns-in-Some-clause-byte g c = λ memory st. peek_kept _ _ memory c.args.addr _ (search rules) (search rules) (search rules) (search rules) st

pub returns-in-Some-clause-from : goal.returns-in-Some-clause-from
returns-in-Some-clause-from g c = peeked_frame (paging c.args.self.now) _ c.args.addr _ (either_true (is_listed (page_of c.args.addr) (paging c.args.self.now).order) (is_listed (page_of c.args.addr) (paging c.args.self.now).kept) (search rules)) (search rules)

pub returns-clause-byte : goal.returns-clause-byte
returns-clause-byte g c = λ memory st. peek_absent _ _ memory c.args.addr _ _ (search rules) (search rules) c.in_ok-bytes.ensures.bytes (search rules) st

pub returns-clause-from : goal.returns-clause-from
returns-clause-from g c = peeked_home (paging c.args.self.now) _ c.args.addr _ c.in_ok-bytes.bytes (neither (is_listed (page_of c.args.addr) (paging c.args.self.now).order) (is_listed (page_of c.args.addr) (paging c.args.self.now).kept) (search rules) (search rules)) c.in_ok-bytes.ensures.bytes (search rules)

pub returns-clause-keeps : goal.returns-clause-keeps
returns-clause-keeps g c = keeps_peeked _ _ _ _ c.in_ok-bytes.ensures.read

pub returns-in_err-bytes-clause-keeps : goal.returns-in_err-bytes-clause-keeps
returns-in_err-bytes-clause-keeps g c = keeps_unchanged _ _ _ c.in_err-bytes.ensures.err

pub returns-clause-reads : goal.returns-clause-reads
returns-clause-reads g c = reads_peeked _ _ _ _ c.in_ok-bytes.ensures.read

pub returns-in_err-bytes-clause-reads : goal.returns-in_err-bytes-clause-reads
returns-in_err-bytes-clause-reads g c = reads_unchanged _ _ c.in_err-bytes.ensures.err

pub returns-clause-once : goal.returns-clause-once
returns-clause-once g c = once_peeked _ _ _ _ c.in_ok-bytes.ensures.read

pub returns-in_err-bytes-clause-once : goal.returns-in_err-bytes-clause-once
returns-in_err-bytes-clause-once g c = once_unchanged _ _ c.in_err-bytes.ensures.err

pub returns-then-not-has-clause-once : goal.returns-then-not-has-clause-once
returns-then-not-has-clause-once g c = once_unchanged _ _ refl

pub returns-then-is_resident-clause-once : goal.returns-then-is_resident-clause-once
returns-then-is_resident-clause-once g c = once_unchanged _ _ refl

pub returns-in-Some-clause-once : goal.returns-in-Some-clause-once
returns-in-Some-clause-once g c = once_unchanged _ _ refl
