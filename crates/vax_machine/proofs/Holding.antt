-- Bytes and lines that are held back, and written.
use Rattle.std.proofs.Common.{ℕ, ◌≡◌, Bool, true, false, List, [], ◌∷◌, ◌++◌, append-nil, if◌then◌else◌, refl, ap, sym, ◌∙◌, subst, Option, Result, Ok, Err, Some}
use Rattle.vax_outside.specs.Channels.{Channels, Grew, append, nothing, only, unsaved}
use Rattle.vax_outside.specs.declared.traits.Chan.TheVariants.{Out, Record}
use Rattle.vax_outside.proofs.Growth.{append-nothing, channels_assoc, grew_more, grew_nothing, prefix_in, front_unsaved}
use Rattle.vax_sched.specs.Printed.{at_line}
use Rattle.vax_machine.proofs.Outputs.{IsErrLike, then_wrote}
use Rattle.vax_machine.specs.Writing.{OnlyWrote, Passed, Passes, Puts, StillWrites, both, held_in, listed_by, sent_by}
use Rattle.vax_machine.specs.declared.event.Fault.{Fault}
use Rattle.vax_machine.specs.declared.event.Fault.TheVariants.{Page, Write}
use Rattle.vax_machine.specs.declared.held.Held.{Held}

-- what was held back before was written first, or not all of it

module _ (part left x before more after : Channels) (old new : Option Channels) (behind : after ≡ append left x) (whole : append part x ≡ append before more) where
  pub through : Passes part nothing left old new → Passes before more after old new
  through p = record {
    sent = p.sent;
    is = ap (append p.sent) behind ∙ (sym (channels_assoc p.sent left x) ∙ (ap (λ (c : Channels). append c x) (p.is ∙ append-nothing part) ∙ whole));
    wrote = p.wrote;
  }

module _ (part left x before more after : Channels) (old new : Option Channels) (whole : append part x ≡ append before more) where
  pub stuck : (r q : Result (Unit {0}) Fault) → IsErrLike r q → Passed q part nothing left old new → Passed r before more after old new
  stuck (Ok a) (Ok b) l h = absurd l
  stuck (Ok a) (Err b) l h = absurd l
  stuck (Err a) (Ok b) l h = absurd l
  stuck (Err Page) (Err Page) l h = h
  stuck (Err Page) (Err Write) l h = cc
  stuck (Err Write) (Err Page) l h = absurd h
  stuck (Err Write) (Err Write) l h =
      prefix_in old old new nothing (append part nothing) x (append before more) (ap (λ (c : Channels). append c x) (append-nothing part) ∙ whole) (grew_nothing old) h

-- nothing else grows

front_none : (xs ys : List ℕ) → xs ++ ys ≡ [] → xs ≡ []
front_none [] ys e = refl
front_none (x ∷ xs) ys e = cc

module _ (listed : Bool) (old new : Option Channels) where
  pub only_puts : (r : Result (Unit {0}) Fault) (all : Channels) → all.report ≡ [] → (listed ≡ false → all.recorded ≡ []) → all.saved ≡ unsaved → Puts r all old new → OnlyWrote listed old new
  only_puts (Ok a) all silent unlisted none g = record { more = all; silent = silent; unlisted = unlisted; unsaved = none; grew = g }
  only_puts (Err Page) all silent unlisted none g = absurd g
  only_puts (Err Write) all silent unlisted none g = record {
    more = g.prefix;
    silent = front_none g.prefix.report g.rest.report (ap (λ (c : Channels). c.report) g.splits ∙ silent);
    unlisted = λ e. front_none g.prefix.recorded g.rest.recorded (ap (λ (c : Channels). c.recorded) g.splits ∙ unlisted e);
    unsaved = front_unsaved g.prefix.saved g.rest.saved (ap (λ (c : Channels). c.saved) g.splits ∙ none);
    grew = g.grew;
  }

  pub only_passes : (r : Result (Unit {0}) Fault) (part left : Channels) → part.report ≡ [] → (listed ≡ false → part.recorded ≡ []) → part.saved ≡ unsaved → Passed r part nothing left old new → OnlyWrote listed old new
  only_passes (Ok a) part left silent unlisted none p = record {
    more = p.sent;
    silent = front_none p.sent.report left.report (ap (λ (c : Channels). c.report) (p.is ∙ append-nothing part) ∙ silent);
    unlisted = λ e. front_none p.sent.recorded left.recorded (ap (λ (c : Channels). c.recorded) (p.is ∙ append-nothing part) ∙ unlisted e);
    unsaved = front_unsaved p.sent.saved left.saved (ap (λ (c : Channels). c.saved) (p.is ∙ append-nothing part) ∙ none);
    grew = p.wrote;
  }
  only_passes (Err Page) part left silent unlisted none p = absurd p
  only_passes (Err Write) part left silent unlisted none p = only_puts (Err Write) (append part nothing) (append-nil part.report ∙ silent) (λ e. append-nil part.recorded ∙ unlisted e) (append-nil part.saved ∙ none) p

-- a byte more

pub byte_behind : (bytes lines : List ℕ) (byte : ℕ) → append (only Out bytes) (both (byte ∷ []) lines) ≡ append (both bytes lines) (sent_by (Some byte))
byte_behind bytes lines byte = let e = sym (append-nil lines) in λ i. record { out = bytes ++ byte ∷ []; report = []; recorded = e i; saved = unsaved }

-- a line more, where evictions are listed

line_behind : (bytes lines line : List ℕ) → append (only Record lines) (both bytes line) ≡ append (both bytes lines) (only Record line)
line_behind bytes lines line = let e = sym (append-nil bytes) in λ i. record { out = e i; report = []; recorded = lines ++ line; saved = unsaved }

lines_held : (h : Held) → h.listed ≡ true → held_in h ≡ both h.bytes.items h.lines
lines_held h e = rw e refl

pub listed_behind : (h : Held) (turn page : ℕ) → h.listed ≡ true → append (only Record h.lines) (both h.bytes.items (at_line turn page)) ≡ append (held_in h) (listed_by h.listed turn (Some page))
listed_behind h turn page e = rw e (line_behind h.bytes.items h.lines (at_line turn page))

pub line_held : (h k : Held) (lines line : List ℕ) → k.bytes.items ≡ h.bytes.items → k.listed ≡ true → k.lines ≡ lines ++ line → held_in k ≡ append (only Record lines) (both h.bytes.items line)
line_held h k lines line a b c = lines_held k b ∙ (λ i. record { out = a i; report = []; recorded = c i; saved = unsaved })

-- where they aren't, none
pub unlisted_passes : (h : Held) (turn page : ℕ) (now : Option Channels) → h.listed ≡ false → Passes (held_in h) (listed_by h.listed turn (Some page)) (held_in h) now now
unlisted_passes h turn page now e = rw e (record { sent = nothing; is = sym (append-nothing (both h.bytes.items [])); wrote = grew_nothing now })

pub never_unlisted : {P : Type 0} (listed : Bool) → listed ≡ true → listed ≡ false → P
never_unlisted listed a b = let bad : true ≡ false = sym a ∙ b in cc

-- all of it is written

pub writes_both : (bytes lines : List ℕ) (r : Result (Unit {0}) Fault) (old mid new : Option Channels) → Grew old mid (only Out bytes) → Puts r (only Record lines) mid new → Puts r (both bytes lines) old new
writes_both bytes lines (Ok a) old mid new g h =
    let e : append (only Out bytes) (only Record lines) ≡ both bytes lines = let f = append-nil bytes in λ i. record { out = f i; report = []; recorded = lines; saved = unsaved } in
    subst (λ (c : Channels). Grew old new c) e (grew_more old mid new (only Out bytes) (only Record lines) g h)
writes_both bytes lines (Err Page) old mid new g h = h
writes_both bytes lines (Err Write) old mid new g h =
    let e : append (only Out bytes) (append (only Record lines) nothing) ≡ both bytes lines =
    let f = append-nil bytes in let k = append-nil lines in λ i. record { out = f i; report = []; recorded = k i; saved = unsaved } in
    prefix_in old mid new (only Out bytes) (only Record lines) nothing (both bytes lines) e g h

pub writes_first : (bytes lines : List ℕ) (r q : Result (Unit {0}) Fault) (old new : Option Channels) → IsErrLike r q → Puts q (only Out bytes) old new → Puts r (both bytes lines) old new
writes_first bytes lines (Ok a) (Ok b) old new l h = absurd l
writes_first bytes lines (Ok a) (Err b) old new l h = absurd l
writes_first bytes lines (Err a) (Ok b) old new l h = absurd l
writes_first bytes lines (Err Page) (Err Page) old new l h = h
writes_first bytes lines (Err Page) (Err Write) old new l h = cc
writes_first bytes lines (Err Write) (Err Page) old new l h = absurd h
writes_first bytes lines (Err Write) (Err Write) old new l h =
    let e : append nothing (append (only Out bytes) (only Record lines)) ≡ both bytes lines = let f = append-nil bytes in λ i. record { out = f i; report = []; recorded = lines; saved = unsaved } in
    prefix_in old old new nothing (only Out bytes) (only Record lines) (both bytes lines) e (grew_nothing old) h

lines_only : (listed : Bool) (lines : List ℕ) → listed ≡ false → (if listed then lines else []) ≡ []
lines_only true lines e = cc
lines_only false lines e = refl

pub write_still : (h : Held) (r : Result (Unit {0}) Fault) (old mid new : Option Channels) → Grew old mid (only Out h.bytes.items) → Puts r (only Record (if h.listed then h.lines else [])) mid new → StillWrites h h old new
write_still h r old mid new g p = record {
  listed = refl;
  only = then_wrote h.listed old mid new (record { more = only Out h.bytes.items; silent = refl; unlisted = λ e. refl; unsaved = refl; grew = g }) (only_puts h.listed mid new r (only Record (if h.listed then h.lines else [])) refl (lines_only h.listed h.lines) refl p);
}

-- the bytes are written first

pub bytes_first : (bytes lines : List ℕ) → both bytes lines ≡ append (only Out bytes) (both [] lines)
bytes_first bytes lines = let e = sym (append-nil bytes) in λ i. record { out = e i; report = []; recorded = lines; saved = unsaved }

pub bytes_whole : (bytes lines : List ℕ) → append (only Out bytes) (both [] lines) ≡ append (both bytes lines) nothing
bytes_whole bytes lines = let e = sym (append-nil lines) in λ i. record { out = bytes ++ []; report = []; recorded = e i; saved = unsaved }

-- more passed on, and then what is held was written, or not all of it
module _ (before more mid after : Channels) (old between new : Option Channels) where
  pub passes_on : (r : Result (Unit {0}) Fault) → Passes before more mid old between → Passed r mid nothing after between new → Passed r before more after old new
  passes_on (Ok x) p q = record {
    sent = append p.sent q.sent;
    is = channels_assoc p.sent q.sent after ∙ (ap (append p.sent) (q.is ∙ append-nothing mid) ∙ p.is);
    wrote = grew_more old between new p.sent q.sent p.wrote q.wrote;
  }
  passes_on (Err Page) p q = absurd q
  passes_on (Err Write) p q =
      prefix_in old between new p.sent (append mid nothing) nothing (append before more)
      (ap (append p.sent) (append-nothing (append mid nothing) ∙ append-nothing mid) ∙ p.is) p.wrote q

-- where a call failed alike
pub passed_like : (before more mid after : Channels) (old new : Option Channels) (r q : Result (Unit {0}) Fault) → IsErrLike r q → Passed q before more mid old new → Passed r before more after old new
passed_like before more mid after old new (Ok a) (Ok b) l h = absurd l
passed_like before more mid after old new (Ok a) (Err b) l h = absurd l
passed_like before more mid after old new (Err a) (Ok b) l h = absurd l
passed_like before more mid after old new (Err Page) (Err Page) l h = h
passed_like before more mid after old new (Err Page) (Err Write) l h = cc
passed_like before more mid after old new (Err Write) (Err Page) l h = absurd h
passed_like before more mid after old new (Err Write) (Err Write) l h = h
