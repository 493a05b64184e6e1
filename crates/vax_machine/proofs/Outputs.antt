-- What a paged run writes, and how it passes through what is held back.
use Rattle.std.proofs.Common.{ℕ, ◌≡◌, ◌≤◌, arith, if◌then◌else◌, Bool, true, false, List, [], ◌++◌, append_assoc, append-nil, refl, ap, sym, ◌∙◌, subst, Option, Some, None, Result, Ok, Err}
use Rattle.std.specs.Prelude.{IsErrAnd}
use Rattle.std.proofs.lemmas.Grind.{flat_map-append}
use Rattle.vax_outside.specs.Blocks.{BlockFile}
use Rattle.vax_outside.specs.declared.faults.Failures.{Failures}
use Rattle.vax_outside.specs.Channels.{Channels, Grew, GrewByPrefix, append, nothing, unsaved}
use Rattle.vax_outside.proofs.Counting.{counts_still, counts_then}
use Rattle.vax_outside.proofs.Growth.{append-nothing, channels_assoc, grew_more, grew_nothing, prefix_in, both_unsaved}
use Rattle.vax_flat.specs.Parts.{machine_at}
use Rattle.vax_flat.specs.Step.{with_byte_sent}
use Rattle.vax_flat.proofs.Runs.{Extends}
use Rattle.vax_sched.specs.Printed.{at_line}
use Rattle.vax_machine.proofs.Moving.{first_on}
use Rattle.vax_machine.specs.Paged.{Eviction, Paged, evictions_of}
use Rattle.vax_machine.specs.Turn.{LostPart}
use Rattle.vax_machine.specs.Writing.{Counts, OnlyWrote, Origin, Passed, Passes, Puts, Sends, StillWrites, Wrote, WrotePart, both, eviction_line, line_of, lines_of, output_of, sent_by}
use Rattle.vax_machine.specs.declared.event.Fault.{Fault}
use Rattle.vax_machine.specs.declared.event.Fault.TheVariants.{Page, Write}
use Rattle.vax_machine.specs.declared.held.Held.{Held}

-- the lines of evictions one behind another

pub lines_none : (listed : Bool) → lines_of listed [] ≡ []
unfolding lines_of
lines_none true = refl
lines_none false = refl

-- of a page that made room, if one did
pub lines_one : (listed : Bool) (turn : ℕ) (v : Option ℕ) (p : Paged) → lines_of listed (evictions_of turn v p) ≡ (if listed then line_of turn v else [])
unfolding lines_of
lines_one true turn None p = refl
lines_one false turn None p = refl
lines_one true turn (Some page) p = append-nil (at_line turn page)
lines_one false turn (Some page) p = refl

pub lines_more : (listed : Bool) (xs ys : List Eviction) → lines_of listed (xs ++ ys) ≡ lines_of listed xs ++ lines_of listed ys
unfolding lines_of
lines_more true xs ys = flat_map-append eviction_line xs ys
lines_more false xs ys = refl

nothing-append : (a : Channels) → append nothing a ≡ a
nothing-append a = refl

-- one paged run goes on from another: it writes more behind what that wrote, makes more pages absent, and reads no fewer
pub record Grows (listed : Bool) (p q : Paged) : Type 0 where
  pub more : Channels
  pub is : output_of listed q ≡ append (output_of listed p) more
  pub made : List Eviction
  pub evictions : q.evictions ≡ p.evictions ++ made
  pub later : p.reads ≤ q.reads

pub grows_same : (listed : Bool) (p : Paged) → Grows listed p p
grows_same listed p = record {
  more = nothing;
  is = sym (append-nothing (output_of listed p));
  made = [];
  evictions = sym (append-nil p.evictions);
  later = omega arith;
}

pub grows_again : (listed : Bool) (p q r : Paged) → Grows listed p q → Grows listed q r → Grows listed p r
grows_again listed p q r a b = record {
  more = append a.more b.more;
  is = b.is ∙ (ap (λ (c : Channels). append c b.more) a.is ∙ channels_assoc (output_of listed p) a.more b.more);
  made = a.made ++ b.made;
  evictions = b.evictions ∙ (ap (λ (xs : List Eviction). xs ++ b.made) a.evictions ∙ append_assoc p.evictions a.made b.made);
  later = let x = a.later in let y = b.later in omega (arith, x, y);
}

-- by its bytes and its evictions
pub output_by : (listed : Bool) (p q : Paged) (sent : List ℕ) (made : List Eviction) → (machine_at q.place).output ≡ (machine_at p.place).output ++ sent → q.evictions ≡ p.evictions ++ made → output_of listed q ≡ append (output_of listed p) (both sent (lines_of listed made))
output_by listed p q sent made a b =
    let e : lines_of listed q.evictions ≡ lines_of listed p.evictions ++ lines_of listed made = ap (lines_of listed) b ∙ lines_more listed p.evictions made in
    λ i. record { out = a i; report = []; recorded = e i; saved = unsaved }

pub grows_by : (listed : Bool) (p q : Paged) (made : List Eviction) → Extends (machine_at p.place).output (machine_at q.place).output → q.evictions ≡ p.evictions ++ made → p.reads ≤ q.reads → Grows listed p q
grows_by listed p q made x e later = record { more = both x.more (lines_of listed made); is = output_by listed p q x.more made x.is e; made = made; evictions = e; later = later }

-- where a run begins all is written, and nothing is held back
pub sends_none : (o : Origin) (left : Channels) → left ≡ nothing → Sends o o.at o.channels left
sends_none o left e = record {
  sent = nothing;
  is = sym (ap (append (output_of o.listed o.at)) e ∙ append-nothing (output_of o.listed o.at));
  wrote = grew_nothing o.channels;
}

module _ (o : Origin) (p q : Paged) (now : Option Channels) (left : Channels) (s : Sends o p now left) where
  pub sends_same : output_of o.listed q ≡ output_of o.listed p → Sends o q now left
  sends_same e = record { sent = s.sent; is = e ∙ s.is; wrote = s.wrote }

  behind : (more : Channels) → output_of o.listed q ≡ append (output_of o.listed p) more → output_of o.listed q ≡ append (output_of o.listed o.at) (append s.sent (append left more))
  behind more e =
      e ∙ (ap (λ (c : Channels). append c more) s.is
      ∙ (channels_assoc (output_of o.listed o.at) (append s.sent left) more ∙ ap (append (output_of o.listed o.at)) (channels_assoc s.sent left more)))

  pub sends_more : (more after : Channels) (next : Option Channels) → output_of o.listed q ≡ append (output_of o.listed p) more → Passes left more after now next → Sends o q next after
  sends_more more after next e pass = record {
    sent = append s.sent pass.sent;
    is =
        behind more e
        ∙ ap (append (output_of o.listed o.at)) (ap (append s.sent) (sym pass.is) ∙ sym (channels_assoc s.sent pass.sent after));
    wrote = grew_more o.channels now next s.sent pass.sent s.wrote pass.wrote;
  }

  pub part_more : (more : Channels) (next : Option Channels) → output_of o.listed q ≡ append (output_of o.listed p) more → GrewByPrefix now next (append left more) → WrotePart o q next
  part_more more next e part = record {
    more = append s.sent (append left more);
    is = behind more e;
    grew =
        prefix_in o.channels now next s.sent (append left more) nothing (append s.sent (append left more))
        (ap (append s.sent) (append-nothing (append left more))) s.wrote part;
  }

module _ (o : Origin) (p : Paged) (now : Option Channels) (left : Channels) (s : Sends o p now left) where
  pub wrote_all : (next : Option Channels) → Grew now next left → Wrote o p next
  wrote_all next g = record { more = append s.sent left; is = s.is; grew = grew_more o.channels now next s.sent left s.wrote g }

  pub wrote_part : (next : Option Channels) → GrewByPrefix now next left → WrotePart o p next
  wrote_part next g = record {
    more = append s.sent left;
    is = s.is;
    grew = prefix_in o.channels now next s.sent left nothing (append s.sent left) (ap (append s.sent) (append-nothing left)) s.wrote g;
  }

-- a prefix of what a paged run writes is one of what it writes when it goes on
pub part_on : (o : Origin) (p q : Paged) (now : Option Channels) → Grows o.listed p q → WrotePart o p now → WrotePart o q now
part_on o p q now g w = record {
  more = append w.more g.more;
  is = g.is ∙ (ap (λ (c : Channels). append c g.more) w.is ∙ channels_assoc (output_of o.listed o.at) w.more g.more);
  grew = prefix_in o.channels o.channels now nothing w.more g.more (append w.more g.more) refl (grew_nothing o.channels) w.grew;
}

-- and so is what was written to blocks
pub lost_on : (o : Origin) (p q : Paged) (file : Option BlockFile) (now : Option Channels) → Grows o.listed p q → LostPart o p file now → LostPart o q file now
lost_on o p q file now g l = record {
  wrote = part_on o p q now g l.wrote;
  moved = first_on o.areas o.at p q o.file file g.made g.evictions g.later l.moved;
}

-- nothing but Out and Record grew, one call after the other

pub wrote_nothing : (listed : Bool) (a : Option Channels) → OnlyWrote listed a a
wrote_nothing listed a = record { more = nothing; silent = refl; unlisted = λ e. refl; unsaved = refl; grew = grew_nothing a }

both_none : (xs ys : List ℕ) → xs ≡ [] → ys ≡ [] → xs ++ ys ≡ []
both_none xs ys a b = ap (λ (zs : List ℕ). zs ++ ys) a ∙ b

pub then_wrote : (listed : Bool) (a b c : Option Channels) → OnlyWrote listed a b → OnlyWrote listed b c → OnlyWrote listed a c
then_wrote listed a b c x y = record {
  more = append x.more y.more;
  silent = both_none x.more.report y.more.report x.silent y.silent;
  unlisted = λ e. both_none x.more.recorded y.more.recorded (x.unlisted e) (y.unlisted e);
  unsaved = both_unsaved x.more.saved y.more.saved x.unsaved y.unsaved;
  grew = grew_more a b c x.more y.more x.grew y.grew;
}

pub then_writes : (a b c : Held) (x y z : Option Channels) → StillWrites a b x y → StillWrites b c y z → StillWrites a c x z
then_writes a b c x y z p q = record {
  listed = q.listed ∙ p.listed;
  only = then_wrote a.listed x y z p.only (subst (λ (l : Bool). OnlyWrote l y z) p.listed q.only);
}

pub writes_nothing : (h : Held) (a : Option Channels) → StillWrites h h a a
writes_nothing h a = record { listed = refl; only = wrote_nothing h.listed a }

-- what passes where there is nothing more

pub pass_nothing : (left : Channels) (now : Option Channels) → Passes left nothing left now now
pass_nothing left now = record { sent = nothing; is = sym (append-nothing left); wrote = grew_nothing now }

-- what was written of a paged run that goes on with the same bytes and evictions, or with a byte more

pub output_same : (listed : Bool) (p q : Paged) → (machine_at q.place).output ≡ (machine_at p.place).output → q.evictions ≡ p.evictions → output_of listed q ≡ output_of listed p
output_same listed p q a b = let e = ap (lines_of listed) b in λ i. record { out = a i; report = []; recorded = e i; saved = unsaved }

pub output_sent : (listed : Bool) (p q : Paged) (sent : Option ℕ) → (machine_at q.place).output ≡ with_byte_sent (machine_at p.place).output sent → q.evictions ≡ p.evictions → output_of listed q ≡ append (output_of listed p) (sent_by sent)
output_sent listed p q None a b = output_same listed p q a b ∙ sym (append-nothing (output_of listed p))
output_sent listed p q (Some byte) a b =
    let e = ap (lines_of listed) b ∙ sym (append-nil (lines_of listed p.evictions)) in
    λ i. record { out = a i; report = []; recorded = e i; saved = unsaved }

-- both failed alike
abbrev pub IsErrLike : {A B : Type 0} → Result A Fault → Result B Fault → Type 0
IsErrLike (Ok x) (Ok y) = ⊥
IsErrLike (Ok x) (Err b) = ⊥
IsErrLike (Err a) (Ok y) = ⊥
IsErrLike (Err a) (Err b) = a ≡ b

pub err_like : {A B : Type 0} (r : Result A Fault) (q : Result B Fault) (e : Fault) → IsErrAnd r (λ x. x ≡ e) → q ≡ Err e → IsErrLike r q
err_like (Ok x) q e h is = absurd h
err_like (Err a) q e h is = rw is h

-- what was to be written, where a write failed before
pub unwritten : (r q : Result (Unit {0}) Fault) (part rest before more after : Channels) (old new : Option Channels) → IsErrLike r q → append part rest ≡ append before more → Puts q part old new → Passed r before more after old new
unwritten (Ok x) (Ok y) part rest before more after old new l e h = absurd l
unwritten (Ok x) (Err b) part rest before more after old new l e h = absurd l
unwritten (Err a) (Ok y) part rest before more after old new l e h = absurd l
unwritten (Err Page) (Err Page) part rest before more after old new l e h = h
unwritten (Err Page) (Err Write) part rest before more after old new l e h = cc
unwritten (Err Write) (Err Page) part rest before more after old new l e h = absurd h
unwritten (Err Write) (Err Write) part rest before more after old new l e h = prefix_in old old new nothing part rest (append before more) e (grew_nothing old) h

-- the counts of failures, one call after the other

pub counts_none : {file_before file_now sink_before sink_now : Failures} → file_now.count ≡ file_before.count → sink_now.count ≡ sink_before.count → Counts (Ok tt) file_before file_now sink_before sink_now
counts_none file sink = record { file = counts_still refl file; sink = counts_still refl sink }

pub counts_like : (r q : Result (Unit {0}) Fault) (a b x y : Failures) → IsErrLike r q → Counts q a b x y → Counts r a b x y
counts_like (Ok u) (Ok v) a b x y l h = absurd l
counts_like (Ok u) (Err e) a b x y l h = absurd l
counts_like (Err e) (Ok v) a b x y l h = absurd l
counts_like (Err Page) (Err Page) a b x y l h = h
counts_like (Err Page) (Err Write) a b x y l h = cc
counts_like (Err Write) (Err Page) a b x y l h = cc
counts_like (Err Write) (Err Write) a b x y l h = h

pub then_counts : (r : Result (Unit {0}) Fault) (a b c x y z : Failures) → b.count ≡ a.count → y.count ≡ x.count → Counts r b c y z → Counts r a c x z
then_counts r a b c x y z e f h = record { file = counts_then refl e h.file; sink = counts_then refl f h.sink }
