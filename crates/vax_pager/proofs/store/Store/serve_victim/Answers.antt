use Rattle.std.proofs.Common.{◌∙◌, ap, inl, inr, sym}
use Rattle.vax_pager.specs.Store.{paging}
use Rattle.vax_pager.specs.Steps.{brought, removed}
use Rattle.vax_pager.proofs.Told.{within_prot, resident_within, resident_unkept, writable_is}
use Rattle.vax_pager.proofs.Effects.{flush_blocked, flush_none, on_err, own_brought, own_comes, keeps_in_victim, keeps_then, flush_areas, flush_order, flush_clean, flush_pinned, flush_kept, removed_areas, removed_absent, removed_kept, apart, comes_flushed, read_flushed}
use Rattle.vax_pager.proofs.store.Store.serve_victim.Goals as goal

pub flush-requires-clause-within : goal.flush-requires-clause-within
flush-requires-clause-within g c = resident_within _ _ c.requires.sound c.requires.resident

pub fetch-requires-clause-within : goal.fetch-requires-clause-within
fetch-requires-clause-within g c = rw (c.in_ok-flush.ensures.ok, flush_areas) c.requires.within

pub give_up-frame-requires-clause-resident : goal.give_up-frame-requires-clause-resident
give_up-frame-requires-clause-resident g c = rw (c.in_ok-flush.ensures.ok, flush_order) c.requires.resident

pub give_up-frame-requires-clause-unmodified : goal.give_up-frame-requires-clause-unmodified
give_up-frame-requires-clause-unmodified g c = rw c.in_ok-flush.ensures.ok (flush_clean c.args.victim (paging c.args.self.now))

pub give_up-frame-requires-clause-unpinned : goal.give_up-frame-requires-clause-unpinned
give_up-frame-requires-clause-unpinned g c = rw (c.in_ok-flush.ensures.ok, flush_pinned) c.requires.unpinned

pub bring-requires-clause-within : goal.bring-requires-clause-within
bring-requires-clause-within g c = within_prot c.give_up-frame.new.self c.args.page (rw (c.give_up-frame.ensures.paging, removed_areas, c.in_ok-flush.ensures.ok, flush_areas) c.requires.within)

pub bring-requires-clause-absent : goal.bring-requires-clause-absent
bring-requires-clause-absent g c = rw c.give_up-frame.ensures.paging (removed_absent c.args.page c.args.victim (paging c.flush.new.self) (rw (c.in_ok-flush.ensures.ok, flush_order) c.requires.absent))

pub bring-requires-clause-unkept : goal.bring-requires-clause-unkept
bring-requires-clause-unkept g c = rw (c.give_up-frame.ensures.paging, removed_kept, c.in_ok-flush.ensures.ok, flush_kept) c.requires.unkept

pub returns-clause-ok : goal.returns-clause-ok
returns-clause-ok g c =
    let e = c.bring.ensures.paging ∙ ap (brought c.args.page _) (c.give_up-frame.ensures.paging ∙ ap (removed c.args.victim) c.in_ok-flush.ensures.ok) in
    own_brought _ _ _ _ e

pub returns-clause-bytes : goal.returns-clause-bytes
returns-clause-bytes g c =
    let e = c.bring.ensures.paging in
    let o = apart c.args.page c.args.victim _ c.requires.absent c.requires.resident in
    own_comes c.args.page _ _ _ _ _ e (comes_flushed c.args.page c.args.victim _ _ _ o (writable_is _ _ c.requires.sound) (rw (c.in_ok-flush.ensures.ok, c.in_ok-flush.ensures.wrote) at c.in_ok-bytes.ensures.bytes))

pub returns-clause-read : goal.returns-clause-read
returns-clause-read g c =
    let o = apart c.args.page c.args.victim _ c.requires.absent c.requires.resident in
    (rw (c.in_ok-flush.ensures.ok, c.in_ok-flush.ensures.wrote) at c.in_ok-bytes.ensures.read) ∙ read_flushed c.args.page c.args.victim _ _ o

pub returns-clause-keeps : goal.returns-clause-keeps
returns-clause-keeps g c =
    let e = c.bring.ensures.paging ∙ ap (brought c.args.page _) c.give_up-frame.ensures.paging in
    keeps_then _ _ _ _ _ _ c.flush.ensures.keeps
    (keeps_in_victim c.args.page c.args.victim _ _ _ _ _ e c.in_ok-bytes.ensures.read
    (rw (c.in_ok-flush.ensures.ok, flush_areas) c.requires.within)
    (rw (c.in_ok-flush.ensures.ok, flush_order) c.requires.absent)
    (rw (c.in_ok-flush.ensures.ok, flush_order) c.requires.resident)
    (rw c.in_ok-flush.ensures.ok (flush_clean c.args.victim (paging c.args.self.now)))
    (rw (c.in_ok-flush.ensures.ok, flush_kept) (resident_unkept _ _ c.requires.sound c.requires.resident))
    c.in_ok-bytes.ensures.bytes)

pub returns-in_err-flush-clause-err : goal.returns-in_err-flush-clause-err
returns-in_err-flush-clause-err g c = on_err c.from_residual.result (inl (c.in_err-flush.ensures.needed, c.in_err-flush.ensures.err, c.in_err-flush.ensures.unwritten))

pub returns-in_err-bytes-clause-err : goal.returns-in_err-bytes-clause-err
returns-in_err-bytes-clause-err g c = on_err c.from_residual-in_err-bytes.result (inr (sym (flush_blocked c.args.page c.args.victim (paging c.args.self.now) (apart c.args.page c.args.victim _ c.requires.absent c.requires.resident)) ∙ (rw c.in_ok-flush.ensures.ok at c.in_err-bytes.ensures.needed), c.in_ok-flush.ensures.ok, c.in_err-bytes.ensures.err ∙ c.in_ok-flush.ensures.wrote))

pub returns-clause-untouched : goal.returns-clause-untouched
returns-clause-untouched g c = λ none clean. c.fetch.ensures.untouched (rw (c.in_ok-flush.ensures.ok, flush_none c.args.victim (paging c.args.self.now) clean) none) ∙ c.flush.ensures.untouched clean

pub returns-in_err-bytes-clause-untouched : goal.returns-in_err-bytes-clause-untouched
returns-in_err-bytes-clause-untouched g c = λ none clean. c.fetch.ensures.untouched (rw (c.in_ok-flush.ensures.ok, flush_none c.args.victim (paging c.args.self.now) clean) none) ∙ c.flush.ensures.untouched clean
