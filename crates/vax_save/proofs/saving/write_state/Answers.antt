use Rattle.std.proofs.Common.{◌++◌, List, ℕ}
use Rattle.vax_outside.proofs.Growth.{on_err}
use Rattle.vax_flat.specs.Parts.{machine_at}
use Rattle.vax_machine.specs.Machine.{keeping}
use Rattle.vax_machine.specs.Meaning.{engine}
use Rattle.vax_save.specs.Saved.{end_mark, longword, pages_field}
use Rattle.vax_save.specs.Saving.{front_fields}
use Rattle.vax_save.specs.Stream.{HasPut, Puts, stream}
use Rattle.vax_save.proofs.SavingLaws.{state_cut, state_lost, state_put}
use Rattle.vax_save.proofs.Streaming.{cut_more, cuts_first, cuts_then, put_more, puts_then, begun_cut, begun_lost, written_put}
use Rattle.vax_save.proofs.saving.write_state.Goals as goal

pub returns-in_err-put_front-clause-cut : goal.returns-in_err-put_front-clause-cut
returns-in_err-put_front-clause-cut g c = on_err c.from_residual.result (λ place means.
    let m = engine c.args.machine.now in
    let s = stream (g.K.Sink.contents c.args.sink.now) c.new-held.result.items in
    let marked : List ℕ = longword end_mark in
    let numbers : List ℕ = pages_field (machine_at place).memory (keeping m).areas in
    let now = g.K.Sink.contents c.put_front.new.sink in
    state_cut m (g.F.PageFile.contents c.args.file.now) place means c.new-held.result.items (g.K.Sink.contents c.args.sink.now) now c.new-held.ensures
    (cuts_first (front_fields m) (numbers ++ marked) s now c.in_err-put_front.ensures.cut))

pub returns-in_err-put_pages-clause-cut : goal.returns-in_err-put_pages-clause-cut
returns-in_err-put_pages-clause-cut g c = on_err c.from_residual-in_err-put_pages.result (λ place means.
    let m = engine c.args.machine.now in
    let s = stream (g.K.Sink.contents c.args.sink.now) c.new-held.result.items in
    let marked : List ℕ = longword end_mark in
    let numbers : List ℕ = pages_field (machine_at place).memory (keeping m).areas in
    let t = stream (g.K.Sink.contents c.put_front.new.sink) c.put_front.new.held.items in
    let now = g.K.Sink.contents c.put_pages.new.sink in
    state_cut m (g.F.PageFile.contents c.args.file.now) place means c.new-held.result.items (g.K.Sink.contents c.args.sink.now) now c.new-held.ensures
    (cuts_then (front_fields m) (numbers ++ marked) s t now c.in_ok-put_front.ensures.ok (cuts_first numbers marked t now (c.in_err-put_pages.ensures.cut place means))))

pub returns-in_err-put_longword-clause-cut : goal.returns-in_err-put_longword-clause-cut
returns-in_err-put_longword-clause-cut g c = on_err c.from_residual-in_err-put_longword.result (λ place means.
    let m = engine c.args.machine.now in
    let s = stream (g.K.Sink.contents c.args.sink.now) c.new-held.result.items in
    let marked : List ℕ = longword end_mark in
    let numbers : List ℕ = pages_field (machine_at place).memory (keeping m).areas in
    let t = stream (g.K.Sink.contents c.put_front.new.sink) c.put_front.new.held.items in
    let u = stream (g.K.Sink.contents c.put_pages.new.sink) c.put_pages.new.held.items in
    let now = g.K.Sink.contents c.put_longword.new.sink in
    state_cut m (g.F.PageFile.contents c.args.file.now) place means c.new-held.result.items (g.K.Sink.contents c.args.sink.now) now c.new-held.ensures
    (cuts_then (front_fields m) (numbers ++ marked) s t now c.in_ok-put_front.ensures.ok (cuts_then numbers marked t u now (c.in_ok-put_pages.ensures.ok place means) c.in_err-put_longword.ensures.cut)))

pub returns-in_err-finish-clause-cut : goal.returns-in_err-finish-clause-cut
returns-in_err-finish-clause-cut g c = on_err c.from_residual-in_err-finish.result (λ place means.
    let m = engine c.args.machine.now in
    let s = stream (g.K.Sink.contents c.args.sink.now) c.new-held.result.items in
    let marked : List ℕ = longword end_mark in
    let numbers : List ℕ = pages_field (machine_at place).memory (keeping m).areas in
    let t = stream (g.K.Sink.contents c.put_front.new.sink) c.put_front.new.held.items in
    let u = stream (g.K.Sink.contents c.put_pages.new.sink) c.put_pages.new.held.items in
    let v = stream (g.K.Sink.contents c.put_longword.new.sink) c.put_longword.new.held.items in
    let whole : Puts (front_fields m ++ (numbers ++ marked)) s v = puts_then (front_fields m) (numbers ++ marked) s t v c.in_ok-put_front.ensures.ok (puts_then numbers marked t u v (c.in_ok-put_pages.ensures.ok place means) c.in_ok-put_longword.ensures.ok) in
    state_lost m (g.F.PageFile.contents c.args.file.now) place means c.new-held.result.items (g.K.Sink.contents c.args.sink.now) (g.K.Sink.contents c.finish.new.sink) v c.new-held.ensures whole c.in_err-finish.ensures.cut)

pub returns-clause-ok : goal.returns-clause-ok
returns-clause-ok g c = λ place means.
    let m = engine c.args.machine.now in
    let s = stream (g.K.Sink.contents c.args.sink.now) c.new-held.result.items in
    let marked : List ℕ = longword end_mark in
    let numbers : List ℕ = pages_field (machine_at place).memory (keeping m).areas in
    let t = stream (g.K.Sink.contents c.put_front.new.sink) c.put_front.new.held.items in
    let u = stream (g.K.Sink.contents c.put_pages.new.sink) c.put_pages.new.held.items in
    let v = stream (g.K.Sink.contents c.put_longword.new.sink) c.put_longword.new.held.items in
    let whole : Puts (front_fields m ++ (numbers ++ marked)) s v = puts_then (front_fields m) (numbers ++ marked) s t v c.in_ok-put_front.ensures.ok (puts_then numbers marked t u v (c.in_ok-put_pages.ensures.ok place means) c.in_ok-put_longword.ensures.ok) in
    state_put m (g.F.PageFile.contents c.args.file.now) place means c.new-held.result.items (g.K.Sink.contents c.args.sink.now) (g.K.Sink.contents c.finish.new.sink) v c.new-held.ensures whole c.in_ok-finish.ensures.ok

pub returns-in_err-put_front-clause-some_cut : goal.returns-in_err-put_front-clause-some_cut
returns-in_err-put_front-clause-some_cut g c =
    on_err c.from_residual.result (begun_cut c.new-held.result.items (g.K.Sink.contents c.args.sink.now) (g.K.Sink.contents c.put_front.new.sink) c.new-held.ensures (front_fields (engine c.args.machine.now), c.in_err-put_front.ensures.cut))

pub returns-in_err-put_pages-clause-some_cut : goal.returns-in_err-put_pages-clause-some_cut
returns-in_err-put_pages-clause-some_cut g c =
    let front : List ℕ = front_fields (engine c.args.machine.now) in
    let s = stream (g.K.Sink.contents c.args.sink.now) c.new-held.result.items in
    let t = stream (g.K.Sink.contents c.put_front.new.sink) c.put_front.new.held.items in
    let now = g.K.Sink.contents c.put_pages.new.sink in
    on_err c.from_residual-in_err-put_pages.result (begun_cut c.new-held.result.items (g.K.Sink.contents c.args.sink.now) now c.new-held.ensures (cut_more s t now (front, c.in_ok-put_front.ensures.ok) c.in_err-put_pages.ensures.some_cut))

pub returns-in_err-put_longword-clause-some_cut : goal.returns-in_err-put_longword-clause-some_cut
returns-in_err-put_longword-clause-some_cut g c =
    let front : List ℕ = front_fields (engine c.args.machine.now) in
    let marked : List ℕ = longword end_mark in
    let s = stream (g.K.Sink.contents c.args.sink.now) c.new-held.result.items in
    let t = stream (g.K.Sink.contents c.put_front.new.sink) c.put_front.new.held.items in
    let u = stream (g.K.Sink.contents c.put_pages.new.sink) c.put_pages.new.held.items in
    let pages : HasPut s u = put_more s t u (front, c.in_ok-put_front.ensures.ok) c.in_ok-put_pages.ensures.some in
    let now = g.K.Sink.contents c.put_longword.new.sink in
    on_err c.from_residual-in_err-put_longword.result (begun_cut c.new-held.result.items (g.K.Sink.contents c.args.sink.now) now c.new-held.ensures (cut_more s u now pages (marked, c.in_err-put_longword.ensures.cut)))

pub returns-in_err-finish-clause-some_cut : goal.returns-in_err-finish-clause-some_cut
returns-in_err-finish-clause-some_cut g c =
    let front : List ℕ = front_fields (engine c.args.machine.now) in
    let marked : List ℕ = longword end_mark in
    let s = stream (g.K.Sink.contents c.args.sink.now) c.new-held.result.items in
    let t = stream (g.K.Sink.contents c.put_front.new.sink) c.put_front.new.held.items in
    let u = stream (g.K.Sink.contents c.put_pages.new.sink) c.put_pages.new.held.items in
    let pages : HasPut s u = put_more s t u (front, c.in_ok-put_front.ensures.ok) c.in_ok-put_pages.ensures.some in
    let v = stream (g.K.Sink.contents c.put_longword.new.sink) c.put_longword.new.held.items in
    let whole : HasPut s v = put_more s u v pages (marked, c.in_ok-put_longword.ensures.ok) in
    on_err c.from_residual-in_err-finish.result (begun_lost c.new-held.result.items (g.K.Sink.contents c.args.sink.now) (g.K.Sink.contents c.finish.new.sink) v c.new-held.ensures whole c.in_err-finish.ensures.cut)

pub returns-clause-some : goal.returns-clause-some
returns-clause-some g c =
    let front : List ℕ = front_fields (engine c.args.machine.now) in
    let marked : List ℕ = longword end_mark in
    let s = stream (g.K.Sink.contents c.args.sink.now) c.new-held.result.items in
    let t = stream (g.K.Sink.contents c.put_front.new.sink) c.put_front.new.held.items in
    let u = stream (g.K.Sink.contents c.put_pages.new.sink) c.put_pages.new.held.items in
    let pages : HasPut s u = put_more s t u (front, c.in_ok-put_front.ensures.ok) c.in_ok-put_pages.ensures.some in
    let v = stream (g.K.Sink.contents c.put_longword.new.sink) c.put_longword.new.held.items in
    let whole : HasPut s v = put_more s u v pages (marked, c.in_ok-put_longword.ensures.ok) in
    written_put c.new-held.result.items (g.K.Sink.contents c.args.sink.now) (g.K.Sink.contents c.finish.new.sink) v c.new-held.ensures whole c.in_ok-finish.ensures.ok
