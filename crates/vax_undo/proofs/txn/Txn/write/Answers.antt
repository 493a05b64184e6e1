use Rattle.std.proofs.Common.{◌≡◌, refl, ap, ◌∙◌}
use Rattle.vax_flat.specs.Port.{unmarked, with_number, with_number_back}
use Rattle.vax_undo.specs.Transaction.{present, bare, with_view}
use Rattle.vax_undo.specs.declared.entry.Kept.TheVariants as kept
use Rattle.vax_undo.proofs.Undo.{logged_marked, marks_stay, marks_range, replaced_stop, replaced_old, full_store, bytes_back, old_fits, is_free}
use Rattle.vax_undo.proofs.txn.Txn.write.Goals as goal

pub returns-in-Err-clause-answer : goal.returns-in-Err-clause-answer
returns-in-Err-clause-answer g c =
    replaced_stop (g.P.Port.view c.args.self.now.port.now) c.args.addr c.args.n c.args.mode c.in-Err.stop c.in-Err.ensures.answer

pub returns-in-Ok-clause-answer : goal.returns-in-Ok-clause-answer
returns-in-Ok-clause-answer g c =
    (replaced_old (g.P.Port.view c.args.self.now.port.now) c.args.addr c.args.n c.in-Ok.old c.args.mode c.in-Ok.ensures.answer).0

pub returns-in-Ok-clause-keeps : goal.returns-in-Ok-clause-keeps
returns-in-Ok-clause-keeps g c =
    let view = g.P.Port.view c.args.self.now.port.now in
    let before = replaced_old view c.args.addr c.args.n c.in-Ok.old c.args.mode c.in-Ok.ensures.answer in
    let now : g.P.Port.view c.write.new.self ≡ with_number view c.args.addr c.args.n c.args.value =
    c.in-Ok.ensures.stored ∙ full_store view c.args.addr c.args.n c.args.value c.args.mode before.0 in
    let parts = is_free view c.args.addr c.args.n c.args.mode before.0 in
    logged_marked g.P.Port.view g.P.Port.since c.args.self.now _ (record { old = c.in-Ok.old; addr = c.args.addr; number = c.args.n; mode = c.args.mode; kept = kept.Bytes; spare = 0 })
    c.push.ensures.items refl refl
    (record { core = refl; term = refl; port = refl; input = refl; clock = λ h. h; since = c.in-Ok.ensures.since })
    (ap (with_view (bare (present g.P.Port.view c.args.self.now)))
    (ap (λ v. with_number_back (unmarked v) c.args.addr c.args.n c.in-Ok.old) now ∙ bytes_back view c.args.addr c.args.n c.args.value c.in-Ok.old c.in-Ok.ensures.bytes before.1))
    (ap (λ v. v.areas) now) (ap (λ v. v.resident) now)
    (λ page h. ap (λ v. v.marked page) now ∙ marks_stay view.marked c.args.addr c.args.n page h) (
      c.requires.some,
      c.requires.few,
      c.requires.of_mode,
      old_fits view c.args.addr c.args.n c.in-Ok.old c.in-Ok.ensures.bytes before.1,
      parts.0,
      parts.1,
      λ page h. ap (λ v. v.marked page) now ∙ marks_range view.marked c.args.addr c.args.n page h,
    )
