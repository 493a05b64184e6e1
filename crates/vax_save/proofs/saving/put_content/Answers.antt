use Rattle.std.proofs.Common.{◌≡◌, ◌∙◌, List, ℕ, false, subst, sym}
use Rattle.vax_outside.proofs.Growth.{on_err}
use Rattle.vax_save.specs.Saved.{is_blank, longword}
use Rattle.vax_save.specs.Stream.{Cuts, stream}
use Rattle.vax_save.proofs.SavingLaws.{content_some}
use Rattle.vax_save.proofs.Streaming.{cuts_first, cuts_then}
use Rattle.vax_save.proofs.saving.put_content.Goals as goal

pub returns-in_err-put_longword-clause-cut : goal.returns-in_err-put_longword-clause-cut
returns-in_err-put_longword-clause-cut g c =
    let some : is_blank c.args.bytes.now ≡ false = sym c.is_blank.ensures ∙ c.if-is_blank.false in
    on_err c.from_residual.result
    (subst (λ (z : List ℕ). Cuts z (stream (g.K.Sink.contents c.args.sink.now) c.args.held.now.items) (g.K.Sink.contents c.put_longword.new.sink)) (sym (content_some c.args.page c.args.bytes.now some))
    (cuts_first (longword c.args.page) c.args.bytes.now (stream (g.K.Sink.contents c.args.sink.now) c.args.held.now.items) (g.K.Sink.contents c.put_longword.new.sink) c.in_err-put_longword.ensures.cut))

pub returns-in_err-put-clause-cut : goal.returns-in_err-put-clause-cut
returns-in_err-put-clause-cut g c =
    let some : is_blank c.args.bytes.now ≡ false = sym c.is_blank.ensures ∙ c.if-is_blank.false in
    on_err c.from_residual-in_err-put.result
    (subst (λ (z : List ℕ). Cuts z (stream (g.K.Sink.contents c.args.sink.now) c.args.held.now.items) (g.K.Sink.contents c.put.new.sink)) (sym (content_some c.args.page c.args.bytes.now some))
    (cuts_then (longword c.args.page) c.args.bytes.now (stream (g.K.Sink.contents c.args.sink.now) c.args.held.now.items) (stream (g.K.Sink.contents c.put_longword.new.sink) c.put_longword.new.held.items) (g.K.Sink.contents c.put.new.sink) c.in_ok-put_longword.ensures.ok c.in_err-put.ensures.cut))
