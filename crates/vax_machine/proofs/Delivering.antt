-- When bytes that are held back are written.
use Rattle.std.proofs.Common.{ℕ, ◌≡◌, ◌+◌, ◌<◌, ◌≤◌, ◌==◌, ◌||◌, Bool, true, false, List, [], ◌++◌, append-nil, append_assoc, length, length-append, refl, ap, sym, ◌∙◌, subst, arith, inl, inr, Option, Some, None, Result, Ok, Err, OnOk}
use Rattle.std.specs.Prelude.{◌⊎◌}
use Rattle.std.specs.List.{list_any}
use Rattle.std.proofs.lemmas.List.Folds.{list_any-append}
use Rattle.vax_outside.specs.Channels.{Channels, append, nothing}
use Rattle.vax_outside.proofs.Growth.{grew_more, grew_nothing}
use Rattle.vax_machine.proofs.Holding.{passes_on}
use Rattle.vax_machine.proofs.Outputs.{pass_nothing}
use Rattle.vax_machine.specs.Delivery.{Delivers, IsOpenLine, Waits, WritesDue, ends_line}
use Rattle.vax_machine.specs.Writing.{Passed, Passes, held_in, sent_by}
use Rattle.vax_machine.specs.declared.event.Fault.{Fault}
use Rattle.vax_machine.specs.declared.held.Held.{Held}

-- nothing is held, written or sent anew
pub delivers_nothing : (steps : ℕ) (h : Held) (a : Option Channels) → Delivers steps steps h h a a
delivers_nothing steps h a = record {
  written = nothing;
  more = [];
  is = sym (append-nil h.bytes.items);
  grew = grew_nothing a;
  due = inl refl;
  waits = λ w. w;
}

-- nor is a step made
pub delivers_again : {s t : ℕ} → t ≡ s → (h : Held) (a : Option Channels) → Delivers s t h h a a
delivers_again {s} {t} e h a = subst (λ (n : ℕ). Delivers s n h h a a) (sym e) (delivers_nothing s h a)

-- one behind the other

module _ (before mid after : Held) (first second : List ℕ) (more next : List ℕ) (p : first ++ mid.bytes.items ≡ before.bytes.items ++ more) (q : second ++ after.bytes.items ≡ mid.bytes.items ++ next) where
  lengths : length first + length mid.bytes.items ≡ length before.bytes.items + length more
  lengths = sym (length-append first mid.bytes.items) ∙ ap length p ∙ length-append before.bytes.items more

  joined : (first ++ second) ++ after.bytes.items ≡ before.bytes.items ++ (more ++ next)
  joined =
      append_assoc first second after.bytes.items ∙ ap (λ (xs : List ℕ). first ++ xs) q ∙ sym (append_assoc first mid.bytes.items next)
      ∙ ap (λ (xs : List ℕ). xs ++ next) p ∙ append_assoc before.bytes.items more next

  joined_due : (mid.due ≡ before.due) ⊎ (length before.bytes.items ≤ length first) → (after.due ≡ mid.due) ⊎ (length mid.bytes.items ≤ length second) → (after.due ≡ before.due) ⊎ (length before.bytes.items ≤ length (first ++ second))
  joined_due (inl a) (inl b) = inl (b ∙ a)
  joined_due (inl a) (inr b) = let e = lengths in let k = length-append first second in inr (omega (arith, e, k, b))
  joined_due (inr a) b = let k = length-append first second in inr (omega (arith, k, a))

pub then_delivers : (s t u : ℕ) (a b c : Held) (x y z : Option Channels) → Delivers s t a b x y → Delivers t u b c y z → Delivers s u a c x z
then_delivers s t u a b c x y z p q = record {
  written = append p.written q.written;
  more = p.more ++ q.more;
  is = joined a b c p.written.out q.written.out p.more q.more p.is q.is;
  grew = grew_more x y z p.written q.written p.grew q.grew;
  due = joined_due a b c p.written.out q.written.out p.more q.more p.is q.is p.due q.due;
  waits = λ w. q.waits (p.waits w);
}

pub then_on_ok : {A E : Type 0} (r : Result A E) (s t u : ℕ) (a b c : Held) (x y z : Option Channels) → Delivers s t a b x y → OnOk r (Delivers t u b c y z) → OnOk r (Delivers s u a c x z)
then_on_ok (Ok v) s t u a b c x y z p q = then_delivers s t u a b c x y z p q
then_on_ok (Err e) s t u a b c x y z p q = tt

-- lines

neither : (a b : Bool) → (a || b) ≡ false → b ≡ false
neither true b e = cc
neither false b e = e

both_open : (xs ys : List ℕ) → IsOpenLine xs → IsOpenLine ys → IsOpenLine (xs ++ ys)
both_open xs ys p q = list_any-append (λ byte. byte == 10) xs ys ∙ rw (p, q) refl

open_behind : (xs ys : List ℕ) → IsOpenLine (xs ++ ys) → IsOpenLine ys
open_behind xs ys p = neither (list_any (λ byte. byte == 10) xs) (list_any (λ byte. byte == 10) ys) (sym (list_any-append (λ byte. byte == 10) xs ys) ∙ p)

pub open_sent : (sent : Option ℕ) → ends_line sent ≡ false → IsOpenLine (sent_by sent).out
open_sent None e = refl
open_sent (Some byte) e = rw e refl

-- what is due was written behind more that passed, all at once where a line of it ends

module _ (more : Channels) (at_once : Bool) (opens : at_once ≡ false → IsOpenLine more.out) (since steps : ℕ) (low : since ≤ steps) (a m b : Held) (x y z : Option Channels) (p : Passes (held_in a) more (held_in m) x y) (same : m.due ≡ a.due) where
  abbrev all : Type 0
  all = Passes (held_in a) more (held_in b) x z

  out_is : (k : all) → k.sent.out ++ b.bytes.items ≡ a.bytes.items ++ more.out
  out_is k = ap (λ (c : Channels). c.out) k.is

  when_due : (k : all) → WritesDue at_once steps m b → (b.due ≡ a.due) ⊎ (length a.bytes.items ≤ length k.sent.out)
  when_due k (inl w) =
      let e : length k.sent.out + length b.bytes.items ≡ length a.bytes.items + length more.out =
      sym (length-append k.sent.out b.bytes.items) ∙ ap length (out_is k) ∙ length-append a.bytes.items more.out in
      let n : length b.bytes.items ≡ 0 = ap length w.none in
      inr (omega (arith, e, n))
  when_due k (inr w) = inl (ap (λ (h : Held). h.due) w.same ∙ same)

  waits_on : WritesDue at_once steps m b → Waits since a → Waits steps b
  waits_on (inl d) w = record { line = rw d.none refl; early = inl d.none; soon = d.soon }
  waits_on (inr d) w =
      let whole : IsOpenLine (p.sent.out ++ m.bytes.items) =
      subst IsOpenLine (sym (ap (λ (c : Channels). c.out) p.is)) (both_open a.bytes.items more.out w.line (opens d.later)) in
      let soon = w.soon in
      let early = d.early in
      subst (λ (h : Held). Waits steps h) (sym d.same) (record {
        line = open_behind p.sent.out m.bytes.items whole;
        early = inr early;
        soon = omega (arith, soon, same, low);
      })

  delivers_by : all → WritesDue at_once steps m b → Delivers since steps a b x z
  delivers_by k w = record {
    written = k.sent;
    more = more.out;
    is = out_is k;
    grew = k.wrote;
    due = when_due k w;
    waits = waits_on w;
  }

  pub passed_delivers : (r : Result (Unit {0}) Fault) → Passed r (held_in m) nothing (held_in b) y z → OnOk r (WritesDue at_once steps m b) → OnOk r (Delivers since steps a b x z)
  passed_delivers (Ok v) q w = delivers_by (passes_on (held_in a) more (held_in m) (held_in b) x y z (Ok v) p q) w
  passed_delivers (Err e) q w = tt

-- nothing was sent
module _ (since steps : ℕ) (low : since ≤ steps) (a b : Held) (x y : Option Channels) where
  pub due_delivers : (r : Result (Unit {0}) Fault) → Passed r (held_in a) nothing (held_in b) x y → OnOk r (WritesDue false steps a b) → OnOk r (Delivers since steps a b x y)
  due_delivers r q w = passed_delivers nothing false (λ e. refl) since steps low a a b x x y (pass_nothing (held_in a) x) refl r q w

-- as long as not all that was held was written, few steps were made

still_held : (since steps : ℕ) (before after : Held) (old new : Option Channels) → Waits since before → (d : Delivers since steps before after old new) → length d.written.out < length before.bytes.items
    → (after.due ≡ before.due) ⊎ (length before.bytes.items ≤ length d.written.out) → (after.bytes.items ≡ []) ⊎ (steps < after.due) → steps < since + 1000000
still_held since steps before after old new w d left (inr all) early = absurd (omega (arith, left, all))
still_held since steps before after old new w d left (inl same) (inr early) = let soon = w.soon in omega (arith, soon, same, early)
still_held since steps before after old new w d left (inl same) (inl none) =
    let e = sym (length-append d.written.out after.bytes.items) ∙ ap length d.is ∙ length-append before.bytes.items d.more in
    let n : length after.bytes.items ≡ 0 = ap length none in
    absurd (omega (arith, e, n, left))

pub comes_soon : (since steps : ℕ) (before after : Held) (old new : Option Channels) → Waits since before → (d : Delivers since steps before after old new) → length d.written.out < length before.bytes.items → steps < since + 1000000
comes_soon since steps before after old new w d left = still_held since steps before after old new w d left d.due (d.waits w).early
