use Rattle.std.proofs.Common.{◌≡◌, rules, refl, subst, sym, false}
use Rattle.vax_pager.specs.Calls.{Source, takes_modified}
use Rattle.vax_pager.specs.Store.{paging}
use Rattle.vax_pager.proofs.Effects.{source_back, source_empty, source_kept, source_victim, keeps_taken, has_room, pins_left}
use Rattle.vax_pager.proofs.Pins.{pins_back, pins_brought, pins_kept, pins_victim}
use Rattle.vax_pager.proofs.store.Store.serve.Goals as goal

pub returns-then-has_empty-clause-answer : goal.returns-then-has_empty-clause-answer
returns-then-has_empty-clause-answer g c = rw (source_empty c.args.page (paging c.args.self.now) (search rules) (search rules)) refl

pub returns-then-has_empty-clause-ok : goal.returns-then-has_empty-clause-ok
returns-then-has_empty-clause-ok g c = rw (source_empty c.args.page (paging c.args.self.now) (search rules) (search rules)) (search rules)

pub returns-then-has_empty-clause-file : goal.returns-then-has_empty-clause-file
returns-then-has_empty-clause-file g c = rw (source_empty c.args.page (paging c.args.self.now) (search rules) (search rules)) (search rules)

pub returns-in_ok-serve_kept-in-Some-oldest_kept-clause-answer : goal.returns-in_ok-serve_kept-in-Some-oldest_kept-clause-answer
returns-in_ok-serve_kept-in-Some-oldest_kept-clause-answer g c = rw (source_kept c.args.page c.in-Some-oldest_kept.old.page (paging c.args.self.now) (search rules) (search rules) c.in-Some-oldest_kept.ensures.page) refl

pub returns-in_ok-serve_kept-in-Some-oldest_kept-clause-ok : goal.returns-in_ok-serve_kept-in-Some-oldest_kept-clause-ok
returns-in_ok-serve_kept-in-Some-oldest_kept-clause-ok g c = rw (source_kept c.args.page c.in-Some-oldest_kept.old.page (paging c.args.self.now) (search rules) (search rules) c.in-Some-oldest_kept.ensures.page) (search rules)

pub returns-in_ok-serve_kept-in-Some-oldest_kept-clause-file : goal.returns-in_ok-serve_kept-in-Some-oldest_kept-clause-file
returns-in_ok-serve_kept-in-Some-oldest_kept-clause-file g c = rw (source_kept c.args.page c.in-Some-oldest_kept.old.page (paging c.args.self.now) (search rules) (search rules) c.in-Some-oldest_kept.ensures.page) (search rules)

pub returns-in_ok-serve_victim-in-None-clause-answer : goal.returns-in_ok-serve_victim-in-None-clause-answer
returns-in_ok-serve_victim-in-None-clause-answer g c = rw (source_victim c.args.page c.victim-victim.result (paging c.args.self.now) (search rules) (search rules) c.in-None.ensures.page c.victim-victim.ensures.value) refl

pub returns-in_ok-serve_victim-in-None-clause-ok : goal.returns-in_ok-serve_victim-in-None-clause-ok
returns-in_ok-serve_victim-in-None-clause-ok g c = rw (source_victim c.args.page c.victim-victim.result (paging c.args.self.now) (search rules) (search rules) c.in-None.ensures.page c.victim-victim.ensures.value) (search rules)

pub returns-in_ok-serve_victim-in-None-clause-file : goal.returns-in_ok-serve_victim-in-None-clause-file
returns-in_ok-serve_victim-in-None-clause-file g c = rw (source_victim c.args.page c.victim-victim.result (paging c.args.self.now) (search rules) (search rules) c.in-None.ensures.page c.victim-victim.ensures.value) (search rules)

pub serve_empty-requires-clause-room : goal.serve_empty-requires-clause-room
serve_empty-requires-clause-room g c = has_room (paging c.args.self.now) (search rules)

pub serve_kept-requires-clause-kept : goal.serve_kept-requires-clause-kept
serve_kept-requires-clause-kept g c = c.in-Some-oldest_kept.ensures.there

pub victim-victim-requires-clause-pins : goal.victim-victim-requires-clause-pins
victim-victim-requires-clause-pins g c = pins_left (paging c.args.self.now) (search rules) c.in-None.ensures.page c.requires.pins

pub returns-in_err-serve_victim-in-None-clause-err : goal.returns-in_err-serve_victim-in-None-clause-err
returns-in_err-serve_victim-in-None-clause-err g c = rw (source_victim c.args.page c.victim-victim.result (paging c.args.self.now) (search rules) (search rules) c.in-None.ensures.page c.victim-victim.ensures.value) (search rules)

pub returns-in-Some-clause-answer : goal.returns-in-Some-clause-answer
returns-in-Some-clause-answer g c = rw (source_back c.args.page (paging c.args.self.now) (sym c.in-Some.ensures.none)) refl

pub returns-in-Some-clause-ok : goal.returns-in-Some-clause-ok
returns-in-Some-clause-ok g c = rw (source_back c.args.page (paging c.args.self.now) (sym c.in-Some.ensures.none)) c.take_back.ensures.paging

pub returns-in-Some-clause-file : goal.returns-in-Some-clause-file
returns-in-Some-clause-file g c = rw (source_back c.args.page (paging c.args.self.now) (sym c.in-Some.ensures.none)) refl

pub returns-in-Some-clause-keeps : goal.returns-in-Some-clause-keeps
returns-in-Some-clause-keeps g c = keeps_taken c.args.page (paging c.args.self.now) _ _ c.take_back.ensures.paging (sym c.in-Some.ensures.none)

pub returns-in_ok-serve_victim-in-None-clause-blockless : goal.returns-in_ok-serve_victim-in-None-clause-blockless
returns-in_ok-serve_victim-in-None-clause-blockless g c = λ none clean. c.serve_victim.ensures.untouched none (subst (λ (z : Source). takes_modified z (paging c.args.self.now) ≡ false) (source_victim c.args.page c.victim-victim.result (paging c.args.self.now) (search rules) (search rules) c.in-None.ensures.page c.victim-victim.ensures.value) clean)

pub returns-in_err-serve_victim-in-None-clause-blockless : goal.returns-in_err-serve_victim-in-None-clause-blockless
returns-in_err-serve_victim-in-None-clause-blockless g c = λ none clean. c.serve_victim.ensures.untouched none (subst (λ (z : Source). takes_modified z (paging c.args.self.now) ≡ false) (source_victim c.args.page c.victim-victim.result (paging c.args.self.now) (search rules) (search rules) c.in-None.ensures.page c.victim-victim.ensures.value) clean)

pub returns-in-Some-clause-pinned : goal.returns-in-Some-clause-pinned
returns-in-Some-clause-pinned g c = pins_back c.args.page (paging c.args.self.now) _ c.take_back.ensures.paging

pub returns-then-has_empty-clause-pinned : goal.returns-then-has_empty-clause-pinned
returns-then-has_empty-clause-pinned g c = pins_brought c.args.page _ (paging c.args.self.now) _ c.in_ok-serve_empty.ensures.ok

pub returns-in_ok-serve_kept-in-Some-oldest_kept-clause-pinned : goal.returns-in_ok-serve_kept-in-Some-oldest_kept-clause-pinned
returns-in_ok-serve_kept-in-Some-oldest_kept-clause-pinned g c = pins_kept c.args.page _ _ (paging c.args.self.now) _ c.in_ok-serve_kept-in-Some-oldest_kept.ensures.ok

pub returns-in_ok-serve_victim-in-None-clause-pinned : goal.returns-in_ok-serve_victim-in-None-clause-pinned
returns-in_ok-serve_victim-in-None-clause-pinned g c = pins_victim c.args.page _ _ (paging c.args.self.now) _ c.in_ok-serve_victim-in-None.ensures.ok

pub returns-in_err-serve_empty-clause-err : goal.returns-in_err-serve_empty-clause-err
returns-in_err-serve_empty-clause-err g c = rw (source_empty c.args.page (paging c.args.self.now) (search rules) (search rules)) (search rules)

pub returns-in_err-serve_kept-in-Some-oldest_kept-clause-err : goal.returns-in_err-serve_kept-in-Some-oldest_kept-clause-err
returns-in_err-serve_kept-in-Some-oldest_kept-clause-err g c = rw (source_kept c.args.page c.in-Some-oldest_kept.old.page (paging c.args.self.now) (search rules) (search rules) c.in-Some-oldest_kept.ensures.page) (search rules)
