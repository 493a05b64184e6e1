use Rattle.std.proofs.Common.{◌≡◌, ◌<◌, ◌++◌, ◌∙◌, ℕ, List, None, refl, sym, ap, length, arith}
use Rattle.std.proofs.lemmas.List.{length-map, length-append}
use Rattle.vax_asm_values.specs.View.{source_of, sources_in, lists_in}
use Rattle.vax_asm_values.specs.Waiting.{known, waiters}
use Rattle.vax_asm_values.specs.declared.journal.Change.TheVariants.{Known}
use Rattle.vax_asm_values.proofs.Marks.{noted, value_unset}
use Rattle.vax_asm_values.proofs.Stepping.{looked_at, nothing_new, not_there, resolved, weight_less, unknown_at, waits_at}
use Rattle.vax_asm_values.proofs.types.Board.look.Goals as goal

pub returns-then-number-len-clause-standing : goal.returns-then-number-len-clause-standing
returns-then-number-len-clause-standing c =
    looked_at (sources_in c.args.self.now.sources) c.args.self.now.values.items (lists_in c.args.self.now.waiting) c.args.work.now.items c.args.number c.requires.standing
    (nothing_new (sources_in c.args.self.now.sources) c.args.self.now.values.items c.args.number (not_there (sources_in c.args.self.now.sources) c.args.self.now.values.items c.args.number
    (rw (length-map c.args.self.now.sources.items source_of) (omega (arith, c.if-number-len.true, c.len.ensures, c.args.self.now.sources.ok)))))

pub returns-clause-standing : goal.returns-clause-standing
returns-clause-standing c =
    let values = c.args.self.now.values.items in
    let waiting = c.args.self.now.waiting.items in
    let within : c.args.number < length c.args.self.now.sources.items = omega (arith, c.if-number-len.false, c.len.ensures, c.args.self.now.sources.ok) in
    let more : c.add_all.new.work.items ≡ c.args.work.now.items ++ waiters (lists_in c.args.self.now.waiting) c.args.number =
    c.in_ok-add_all.ensures ∙ ap (λ (l : List ℕ). c.args.work.now.items ++ l) (c.deref.ensures.value ∙ sym (waits_at waiting c.args.number c.index-2.result.now (omega (arith, within, c.requires.waiting)) c.index-2.ensures)) in
    let unknown : known values c.args.number ≡ None = unknown_at values c.args.number c.index.result.now c.index.ensures (sym c.is_some.ensures ∙ c.if-is_some.false) in
    rw more (resolved (sources_in c.args.self.now.sources) values (lists_in c.args.self.now.waiting) c.args.work.now.items c.args.number c.in-Some.value c.requires.standing
    (omega (arith, within, c.requires.values)) unknown (sym c.worth.ensures ∙ c.in-Some.is))

pub returns-clause-fewer : goal.returns-clause-fewer
returns-clause-fewer c =
    let values = c.args.self.now.values.items in
    let waiting = c.args.self.now.waiting.items in
    let lists = lists_in c.args.self.now.waiting in
    let within : c.args.number < length c.args.self.now.sources.items = omega (arith, c.if-number-len.false, c.len.ensures, c.args.self.now.sources.ok) in
    let more : c.add_all.new.work.items ≡ c.args.work.now.items ++ waiters lists c.args.number =
    c.in_ok-add_all.ensures ∙ ap (λ (l : List ℕ). c.args.work.now.items ++ l) (c.deref.ensures.value ∙ sym (waits_at waiting c.args.number c.index-2.result.now (omega (arith, within, c.requires.waiting)) c.index-2.ensures)) in
    let unknown : known values c.args.number ≡ None = unknown_at values c.args.number c.index.result.now c.index.ensures (sym c.is_some.ensures ∙ c.if-is_some.false) in
    let less = weight_less values lists c.args.number c.in-Some.value (omega (arith, within, c.requires.values)) unknown in
    let long = ap length more ∙ length-append c.args.work.now.items (waiters lists c.args.number) in
    omega (arith, less, long)

pub returns-in_err-add_all-clause-mark : goal.returns-in_err-add_all-clause-mark
returns-in_err-add_all-clause-mark c =
    let values = c.args.self.now.values.items in
    let unknown : known values c.args.number ≡ None = unknown_at values c.args.number c.index.result.now c.index.ensures (sym c.is_some.ensures ∙ c.if-is_some.false) in
    noted c.args.self.now _ (Known c.args.number) c.note.ensures refl (value_unset values c.args.number c.in-Some.value unknown) (λ k j l. l) refl

pub returns-clause-mark : goal.returns-clause-mark
returns-clause-mark c =
    let values = c.args.self.now.values.items in
    let unknown : known values c.args.number ≡ None = unknown_at values c.args.number c.index.result.now c.index.ensures (sym c.is_some.ensures ∙ c.if-is_some.false) in
    noted c.args.self.now _ (Known c.args.number) c.note.ensures refl (value_unset values c.args.number c.in-Some.value unknown) (λ k j l. l) refl
