-- What is shown of a machine, one call behind the other.
use Rattle.std.proofs.Common.{◌≡◌, ℕ, true, List, [], ◌++◌, append-nil, append_assoc, Option, Result, Ok, Err, refl, sym, ap, subst, ◌∙◌, arith}
use Rattle.vax_outside.specs.Channels.{Channels, Grew, GrewByPrefix, nothing, only}
use Rattle.vax_outside.specs.Faults.{CountsFailure}
use Rattle.vax_outside.specs.declared.traits.Chan.TheVariants.{Report}
use Rattle.vax_outside.specs.declared.faults.Failures.{Failures}
use Rattle.vax_outside.proofs.Counting.{rose_then}
use Rattle.vax_outside.proofs.Growth.{grew_nothing, prefix_stays, prefix_within, report_grew}
use Rattle.vax_flat.specs.Step.{Flat}
use Rattle.vax_machine.specs.Console.{memory_from}
use Rattle.vax_console.specs.Ends.{OnlyReplied, Scene}
use Rattle.vax_console.specs.Transcript.{Session}
use Rattle.vax_debug.specs.Calls.{TellsFrom}
use Rattle.vax_debug.specs.Sessions.{Counts, IsHere, Origin, ShowsFrom, StaysHere}
use Rattle.vax_debug.specs.declared.failure.Failure.{Failure}
use Rattle.vax_debug.specs.declared.failure.Failure.TheVariants as failure
use Rattle.vax_debug.proofs.Reported.{prefix_report, report_only}
use Rattle.vax_debug_views.specs.Showing.{OnlyTold, Replied, Shows, with_sink}

-- failures that are counted

pub write_counts : (file before now : Failures) → CountsFailure true before now → Counts (Err failure.WriteFault) file file before now
write_counts file before now c = (omega arith, c.later, c.cause, λ n. absurd (n refl))

pub fault_counts : (f g h x y : Failures) → g.count ≡ f.count → y.count ≡ x.count → CountsFailure true g h → Counts (Err failure.PageFault) f h x y
fault_counts f g h x y a b c = (let l = c.later in omega (arith, a, l), rose_then a c.cause, b)

-- nothing but Report grew

pub none_told : (a : Option Channels) → OnlyTold a a
none_told a = record { told = []; grew = grew_nothing a }

pub told_then : (a b c : Option Channels) → OnlyTold a b → OnlyTold b c → OnlyTold a c
told_then a b c p q = record { told = p.told ++ q.told; grew = report_grew a b c p.told q.told p.grew q.grew }

part_told : (a b : Option Channels) (text : List ℕ) → GrewByPrefix a b (only Report text) → OnlyTold a b
part_told a b text p = record { told = p.prefix.report; grew = prefix_report a b text p }

pub reply_told : (r : Result (Unit {0}) Failure) (a b : Option Channels) (text : List ℕ) → Replied r a b text → OnlyTold a b
reply_told (Ok x) a b text p = record { told = text; grew = p }
reply_told (Err failure.Turns) a b text p = absurd p
reply_told (Err failure.PageFault) a b text p = part_told a b text p
reply_told (Err failure.WriteFault) a b text p = part_told a b text p

pub told_only : (a b : Option Channels) → OnlyTold a b → OnlyReplied a b
told_only a b p = report_only a b p.told p.grew

pub replied_only : (r : Result (Unit {0}) Failure) (a b : Option Channels) (text : List ℕ) → Replied r a b text → OnlyReplied a b
replied_only r a b text p = told_only a b (reply_told r a b text p)

-- one call

-- a machine stays where it is, whatever was written
abbrev pub Stays : Scene → Scene → Type 0
Stays v w = (sink : Option Channels) → StaysHere (with_sink sink v) (with_sink sink w)

-- what is told of one flat machine is told in other words of each that a machine stands for
abbrev pub SaysAs : Scene → (Flat → List ℕ) → (Flat → List ℕ) → Type 0
SaysAs v one other =
    (sink : Option Channels) (o : Origin) (s : Session) (replies : List ℕ) → IsHere o s replies (with_sink sink v) → one s.machine ≡ other s.machine

none_yet : (a : Option Channels) (text : List ℕ) → GrewByPrefix a a (only Report text)
none_yet a text = record { prefix = nothing; rest = only Report text; splits = refl; grew = grew_nothing a }

-- a reply, while nothing is looked up
pub replied_shows : (v : Scene) (b : Option Channels) (r : Result (Unit {0}) Failure) (text : List ℕ) (told : Flat → List ℕ) → SaysAs v (λ m. text) told → Replied r v.sink b text → Shows v (with_sink b v) r told
replied_shows v b r text told is p = record {
  stays = λ sink o s replies here. here;
  replied = λ sink o s replies here. subst (λ (z : List ℕ). Replied r v.sink b z) (is sink o s replies here) p;
  only = reply_told r v.sink b text p;
}

-- a reply of what memory has
pub looked_shows : (v w : Scene) (b : Option Channels) (r : Result (Unit {0}) Failure) (text : List (Option ℕ) → List ℕ) (addr count : ℕ) (cells : List (Option ℕ)) → Stays v w → ((sink : Option Channels) → ShowsFrom (with_sink sink v) addr count cells) →
    Replied r v.sink b (text cells) → Shows v (with_sink b w) r (λ (m : Flat). text (memory_from m.memory addr count))
looked_shows v w b r text addr count cells stays shows p = record {
  stays = stays;
  replied = λ sink o s replies here. subst (λ (z : List (Option ℕ)). Replied r v.sink b (text z)) (shows sink o s replies here) p;
  only = reply_told r v.sink b (text cells) p;
}

-- a reply of something else that is told of the flat machine
pub told_shows : {T : Type 0} (v w : Scene) (b : Option Channels) (r : Result (Unit {0}) Failure) (text : T → List ℕ) (f : Flat → T) (found : T) → Stays v w → ((sink : Option Channels) → TellsFrom (with_sink sink v) f found) → Replied r v.sink b (text found) →
    Shows v (with_sink b w) r (λ (m : Flat). text (f m))
told_shows v w b r text f found stays tells p = record {
  stays = stays;
  replied = λ sink o s replies here. subst (λ z. Replied r v.sink b (text z)) (tells sink o s replies here) p;
  only = reply_told r v.sink b (text found) p;
}

-- a call that shows, behind one that looks something up
pub shows_behind : (v w x : Scene) (r : Result (Unit {0}) Failure) (inner outer : Flat → List ℕ) → Stays v w → SaysAs v inner outer → Shows (with_sink v.sink w) x r inner → Shows v x r outer
shows_behind v w x r inner outer stays is p = record {
  stays = λ sink o s replies here. p.stays sink o s replies (stays sink o s replies here);
  replied = λ sink o s replies here.
      subst (λ (z : List ℕ). Replied r v.sink x.sink z) (is sink o s replies here) (p.replied sink o s replies (stays sink o s replies here));
  only = p.only;
}

-- a call of the page file failed before anything was written
pub shows_cut : (v w : Scene) (told : Flat → List ℕ) → Stays v w → Shows v (with_sink v.sink w) (Err failure.PageFault) told
shows_cut v w told stays = record {
  stays = stays;
  replied = λ sink o s replies here. none_yet v.sink (told s.machine);
  only = none_told v.sink;
}

-- line by line

-- all but the rest was written
pub record HasReplied (before now : Option Channels) (whole rest : List ℕ) : Type 0 where
  pub written : List ℕ
  pub grew : Grew before now (only Report written)
  pub splits : written ++ rest ≡ whole

-- so it was in each session that the machine makes
pub record IsShowing (v w : Scene) (whole rest : Flat → List ℕ) : Type 0 where
  pub stays : Stays v w
  pub replied : (sink : Option Channels) (o : Origin) (s : Session) (replies : List ℕ) → IsHere o s replies (with_sink sink v) →
      HasReplied v.sink w.sink (whole s.machine) (rest s.machine)
  pub only : OnlyTold v.sink w.sink

pub showing_first : (v : Scene) (whole rest : Flat → List ℕ) → ((m : Flat) → rest m ≡ whole m) → IsShowing v v whole rest
showing_first v whole rest is = record {
  stays = λ sink o s replies here. here;
  replied = λ sink o s replies here. record { written = []; grew = grew_nothing v.sink; splits = is s.machine };
  only = none_told v.sink;
}

-- a line more
pub showing_line : (v w x : Scene) (u : Unit {0}) (whole rest line after : Flat → List ℕ) → IsShowing v w whole rest → Shows w x (Ok u) line → ((m : Flat) → rest m ≡ line m ++ after m) → IsShowing v x whole after
showing_line v w x u whole rest line after q p is = record {
  stays = λ sink o s replies here. p.stays sink o s replies (q.stays sink o s replies here);
  replied = λ sink o s replies here.
      let k = q.replied sink o s replies here in
      record {
        written = k.written ++ line s.machine;
        grew = report_grew v.sink w.sink x.sink k.written (line s.machine) k.grew (p.replied sink o s replies (q.stays sink o s replies here));
        splits = append_assoc k.written (line s.machine) (after s.machine) ∙ (ap (λ (z : List ℕ). k.written ++ z) (sym (is s.machine)) ∙ k.splits);
      };
  only = told_then v.sink w.sink x.sink q.only p.only;
}

-- something was looked up, by which the rest is told in other words
pub showing_next : (v w x : Scene) (whole rest after : Flat → List ℕ) → IsShowing v w whole rest → Stays w x → SaysAs w rest after → IsShowing v (with_sink w.sink x) whole after
showing_next v w x whole rest after q stays is = record {
  stays = λ sink o s replies here. stays sink o s replies (q.stays sink o s replies here);
  replied = λ sink o s replies here.
      let k = q.replied sink o s replies here in
      record {
        written = k.written;
        grew = k.grew;
        splits = ap (λ (z : List ℕ). k.written ++ z) (sym (is sink o s replies (q.stays sink o s replies here))) ∙ k.splits;
      };
  only = q.only;
}

all_written : (a b : Option Channels) (whole rest : List ℕ) → HasReplied a b whole rest → rest ≡ [] → Grew a b (only Report whole)
all_written a b whole rest k none =
    let is : k.written ≡ whole = sym (append-nil k.written) ∙ (ap (λ (z : List ℕ). k.written ++ z) (sym none) ∙ k.splits) in
    subst (λ (z : List ℕ). Grew a b (only Report z)) is k.grew

-- there is no more
pub showing_done : (v w : Scene) (whole rest : Flat → List ℕ) → IsShowing v w whole rest → ((m : Flat) → rest m ≡ []) → Shows v w (Ok tt) whole
showing_done v w whole rest q none = record {
  stays = q.stays;
  replied = λ sink o s replies here. all_written v.sink w.sink (whole s.machine) (rest s.machine) (q.replied sink o s replies here) (none s.machine);
  only = q.only;
}

line_lost : (e : Failure) (a b c : Option Channels) (written line after whole : List ℕ) → written ++ (line ++ after) ≡ whole → Grew a b (only Report written) → Replied (Err e) b c line → Replied (Err e) a c whole
line_lost failure.Turns a b c written line after whole e p q = absurd q
line_lost failure.PageFault a b c written line after whole e p q = prefix_within a b c Report written line after whole e p q
line_lost failure.WriteFault a b c written line after whole e p q = prefix_within a b c Report written line after whole e p q

-- a line wasn't shown whole
pub showing_lost : (v w x : Scene) (e : Failure) (whole rest line after : Flat → List ℕ) → IsShowing v w whole rest → Shows w x (Err e) line → ((m : Flat) → rest m ≡ line m ++ after m) → Shows v x (Err e) whole
showing_lost v w x e whole rest line after q p is = record {
  stays = λ sink o s replies here. p.stays sink o s replies (q.stays sink o s replies here);
  replied = λ sink o s replies here.
      let k = q.replied sink o s replies here in
      line_lost e v.sink w.sink x.sink k.written (line s.machine) (after s.machine) (whole s.machine)
      (ap (λ (z : List ℕ). k.written ++ z) (sym (is s.machine)) ∙ k.splits) k.grew (p.replied sink o s replies (q.stays sink o s replies here));
  only = told_then v.sink w.sink x.sink q.only p.only;
}

-- a call of the page file failed between lines
pub showing_cut : (v w x : Scene) (whole rest : Flat → List ℕ) → IsShowing v w whole rest → Stays w x → Shows v (with_sink w.sink x) (Err failure.PageFault) whole
showing_cut v w x whole rest q stays = record {
  stays = λ sink o s replies here. stays sink o s replies (q.stays sink o s replies here);
  replied = λ sink o s replies here.
      let k = q.replied sink o s replies here in
      prefix_stays v.sink w.sink w.sink Report k.written (rest s.machine) (whole s.machine) k.splits k.grew refl;
  only = q.only;
}

-- two calls that show, one behind the other

replied_then : (r : Result (Unit {0}) Failure) (a b c : Option Channels) (one other whole : List ℕ) → one ++ other ≡ whole → Grew a b (only Report one) → Replied r b c other → Replied r a c whole
replied_then (Ok x) a b c one other whole e p q = subst (λ (z : List ℕ). Grew a c (only Report z)) e (report_grew a b c one other p q)
replied_then (Err f) a b c one other whole e p q = line_lost f a b c one other [] whole (ap (λ (z : List ℕ). one ++ z) (append-nil other) ∙ e) p q

pub shows_then : (v w x : Scene) (u : Unit {0}) (r : Result (Unit {0}) Failure) (one other whole : Flat → List ℕ) → ((m : Flat) → one m ++ other m ≡ whole m) → Shows v w (Ok u) one → Shows w x r other → Shows v x r whole
shows_then v w x u r one other whole is p q = record {
  stays = λ sink o s replies here. q.stays sink o s replies (p.stays sink o s replies here);
  replied = λ sink o s replies here.
      replied_then r v.sink w.sink x.sink (one s.machine) (other s.machine) (whole s.machine) (is s.machine) (p.replied sink o s replies here) (q.replied sink o s replies (p.stays sink o s replies here));
  only = told_then v.sink w.sink x.sink p.only q.only;
}

-- the first failed
pub shows_first : (v w : Scene) (e : Failure) (one other whole : Flat → List ℕ) → ((m : Flat) → one m ++ other m ≡ whole m) → Shows v w (Err e) one → Shows v w (Err e) whole
shows_first v w e one other whole is p = record {
  stays = p.stays;
  replied = λ sink o s replies here. line_lost e v.sink v.sink w.sink [] (one s.machine) (other s.machine) (whole s.machine) (is s.machine) (grew_nothing v.sink) (p.replied sink o s replies here);
  only = p.only;
}

-- nothing is to be shown
pub nothing_shows : (v : Scene) (told : Flat → List ℕ) → ((m : Flat) → told m ≡ []) → Shows v v (Ok tt) told
nothing_shows v told none = showing_done v v told (λ m. []) (showing_first v told (λ m. []) (λ m. sym (none m))) (λ m. refl)
