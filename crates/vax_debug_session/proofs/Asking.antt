-- What requests come to, request by request.
use Rattle.std.proofs.Common.{◌≡◌, ℕ, List, [], append-nil, Option, None, Result, Ok, refl, sym, subst}
use Rattle.vax_outside.proofs.Growth.{grew_nothing}
use Rattle.vax_outside.specs.Channels.{Channels}
use Rattle.vax_flat.specs.Step.{Flat}
use Rattle.vax_machine.specs.declared.event.Limits.{Limits}
use Rattle.vax_console.specs.Transcript.{Session}
use Rattle.vax_console.specs.Ends.{Scene}
use Rattle.vax_debug_acts.specs.Pages.{Pages}
use Rattle.vax_debug_acts.specs.Sessions.{IsHere}
use Rattle.vax_debug_acts.specs.Failure.{Failure}
use Rattle.vax_debug_acts.specs.Plan.{Plan}
use Rattle.vax_debug_names.specs.declared.Legend.{Legend}
use Rattle.vax_debug_words.specs.declared.command.Command.{Command}
use Rattle.vax_debug_words.specs.declared.command.Form.{Form}
use Rattle.vax_debug_words.specs.declared.request.Expression.{Expression}
use Rattle.vax_debug_words.specs.declared.request.Field.{Field}
use Rattle.vax_debug_words.specs.declared.request.Span.{Span}
use Rattle.vax_debug_words.specs.declared.request.Value.{Value}
use Rattle.vax_debug_words.specs.declared.request.Line.{Line}
use Rattle.vax_debug_words.specs.declared.request.Line.TheVariants.{Blank, Request as Asks, Refused}
use Rattle.vax_debug_words.specs.declared.request.Refusal.{Refusal}
use Rattle.vax_debug_words.specs.declared.request.Request.{Request}
use Rattle.vax_debug_words.specs.declared.request.Request.TheVariants as request
use Rattle.vax_debug_replies.specs.Help.{refused}
use Rattle.vax_debug_views.specs.Showing.{Replied, Shows, with_sink}
use Rattle.vax_debug_views.proofs.Telling.{replied_shows}
use Rattle.vax_debug_acts.specs.Acting.{Act, Acts, ActsFrom, BreaksFrom}
use Rattle.vax_debug_acts.specs.Acts.{only_told}
use Rattle.vax_debug_acts.proofs.Telling.{ok_if}
use Rattle.vax_debug_session.specs.Exchanges.{Exchange}
use Rattle.vax_debug_session.specs.Requests.{answered, breaks_after, cleared, cleared_act, disassembled_at, shown}
use Rattle.vax_debug_session.specs.Holding.{breaks_behind, carried_out, end_asked}
use Rattle.vax_debug_session.proofs.Telling.{shows_acts}

pub shown_as : (v w : Scene) (r : Result (Unit {0}) Failure) (legend : Legend) (breaks : Plan) (pages : Pages) (q p : Request) → q ≡ p → Shows v w r (shown legend breaks pages p) → Shows v w r (shown legend breaks pages q)
shown_as v w r legend breaks pages q p is h = subst (λ (z : Request). Shows v w r (shown legend breaks pages z)) (sym is) h

pub span_shown : (v w : Scene) (r : Result (Unit {0}) Failure) (legend : Legend) (q p : Option Span) → q ≡ p → Shows v w r (disassembled_at legend p) → Shows v w r (disassembled_at legend q)
span_shown v w r legend q p is h = subst (λ (z : Option Span). Shows v w r (disassembled_at legend z)) (sym is) h

pub cleared_as : (v w : Scene) (r : Result (Unit {0}) Failure) (limits : Limits) (legend : Legend) (q p : Option Expression) → q ≡ p →
    ActsFrom v w r limits (cleared_act legend p) → ActsFrom v w r limits (cleared_act legend q)
cleared_as v w r limits legend q p is h = subst (λ (z : Option Expression). ActsFrom v w r limits (cleared_act legend z)) (sym is) h

pub cleared_left : (v : Scene) (r : Result (Unit {0}) Failure) (new : Plan) (legend : Legend) (breaks : Plan) (q p : Option Expression) → q ≡ p →
    BreaksFrom v r new (cleared legend breaks p) → BreaksFrom v r new (cleared legend breaks q)
cleared_left v r new legend breaks q p is h = subst (λ (z : Option Expression). BreaksFrom v r new (cleared legend breaks z)) (sym is) h

pub acts_as : (v w : Scene) (r : Result (Unit {0}) Failure) (limits : Limits) (legend : Legend) (breaks : Plan) (pages : Pages) (q p : Request) → q ≡ p →
    ActsFrom v w r limits (answered limits.steps legend breaks pages p) → ActsFrom v w r limits (answered limits.steps legend breaks pages q)
acts_as v w r limits legend breaks pages q p is h = subst (λ (z : Request). ActsFrom v w r limits (answered limits.steps legend breaks pages z)) (sym is) h

pub breaks_as : (v : Scene) (r : Result (Unit {0}) Failure) (new : Plan) (legend : Legend) (breaks : Plan) (q p : Request) → q ≡ p →
    BreaksFrom v r new (breaks_after legend breaks p) → BreaksFrom v r new (breaks_after legend breaks q)
breaks_as v r new legend breaks q p is h = subst (λ (z : Request). BreaksFrom v r new (breaks_after legend breaks z)) (sym is) h

pub breaks_same : (v : Scene) (r : Result (Unit {0}) Failure) (legend : Legend) (breaks : Plan) (q p : Request) → q ≡ p →
    ((s : Session) → breaks ≡ breaks_after legend breaks p s) → BreaksFrom v r breaks (breaks_after legend breaks q)
breaks_same v r legend breaks q p is same =
    breaks_as v r breaks legend breaks q p is (λ o s replies here. ok_if r (same s))

-- a request that asks for something else shows nothing
none_shown : (legend : Legend) (breaks : Plan) (pages : Pages) (r : Request) (m : Flat) →
    ((n : ℕ) → r ≡ request.ExamineRegister n → ⊥) → (r ≡ request.ExamineStatus → ⊥) → ((f : Form) (at : Span) → r ≡ request.ExamineMemory f at → ⊥) →
    ((at : Option Span) → r ≡ request.Disassemble at → ⊥) → (r ≡ request.Show → ⊥) → (r ≡ request.Where → ⊥) → ((n : ℕ) → r ≡ request.Stack n → ⊥) →
    ((e : Expression) → r ≡ request.Queue e → ⊥) → ((c : Option Command) → r ≡ request.Help c → ⊥) → (r ≡ request.Pages → ⊥) → (r ≡ request.ShowWatches → ⊥) → ((f : Field) → r ≡ request.ExamineField f → ⊥) → [] ≡ shown legend breaks pages r m
none_shown legend breaks pages (request.ExamineRegister n) m a1 a2 a3 a4 a5 a6 a7 a8 a9 a10 a11 a12 = absurd (a1 n refl)
none_shown legend breaks pages request.ExamineStatus m a1 a2 a3 a4 a5 a6 a7 a8 a9 a10 a11 a12 = absurd (a2 refl)
none_shown legend breaks pages (request.ExamineMemory f at) m a1 a2 a3 a4 a5 a6 a7 a8 a9 a10 a11 a12 = absurd (a3 f at refl)
none_shown legend breaks pages (request.Disassemble at) m a1 a2 a3 a4 a5 a6 a7 a8 a9 a10 a11 a12 = absurd (a4 at refl)
none_shown legend breaks pages request.Show m a1 a2 a3 a4 a5 a6 a7 a8 a9 a10 a11 a12 = absurd (a5 refl)
none_shown legend breaks pages request.Where m a1 a2 a3 a4 a5 a6 a7 a8 a9 a10 a11 a12 = absurd (a6 refl)
none_shown legend breaks pages (request.Stack n) m a1 a2 a3 a4 a5 a6 a7 a8 a9 a10 a11 a12 = absurd (a7 n refl)
none_shown legend breaks pages (request.Queue e) m a1 a2 a3 a4 a5 a6 a7 a8 a9 a10 a11 a12 = absurd (a8 e refl)
none_shown legend breaks pages (request.Help c) m a1 a2 a3 a4 a5 a6 a7 a8 a9 a10 a11 a12 = absurd (a9 c refl)
none_shown legend breaks pages request.Pages m a1 a2 a3 a4 a5 a6 a7 a8 a9 a10 a11 a12 = absurd (a10 refl)
none_shown legend breaks pages request.ShowWatches m a1 a2 a3 a4 a5 a6 a7 a8 a9 a10 a11 a12 = absurd (a11 refl)
none_shown legend breaks pages (request.ExamineField f) m a1 a2 a3 a4 a5 a6 a7 a8 a9 a10 a11 a12 = absurd (a12 f refl)
none_shown legend breaks pages r m a1 a2 a3 a4 a5 a6 a7 a8 a9 a10 a11 a12 = refl

pub nothing_shown : (v : Scene) (legend : Legend) (breaks : Plan) (pages : Pages) (r : Request) →
    ((n : ℕ) → r ≡ request.ExamineRegister n → ⊥) → (r ≡ request.ExamineStatus → ⊥) → ((f : Form) (at : Span) → r ≡ request.ExamineMemory f at → ⊥) →
    ((at : Option Span) → r ≡ request.Disassemble at → ⊥) → (r ≡ request.Show → ⊥) → (r ≡ request.Where → ⊥) → ((n : ℕ) → r ≡ request.Stack n → ⊥) →
    ((e : Expression) → r ≡ request.Queue e → ⊥) → ((c : Option Command) → r ≡ request.Help c → ⊥) → (r ≡ request.Pages → ⊥) → (r ≡ request.ShowWatches → ⊥) → ((f : Field) → r ≡ request.ExamineField f → ⊥) → Shows v v (Ok tt) (shown legend breaks pages r)
nothing_shown v legend breaks pages r a1 a2 a3 a4 a5 a6 a7 a8 a9 a10 a11 a12 =
    replied_shows v v.sink (Ok tt) [] (shown legend breaks pages r) (λ sink o s replies here. none_shown legend breaks pages r s.machine a1 a2 a3 a4 a5 a6 a7 a8 a9 a10 a11 a12) (grew_nothing v.sink)

-- a request that does nothing else only shows
rest_answered : (limit : ℕ) (legend : Legend) (breaks : Plan) (pages : Pages) (r : Request) (s : Session) →
    ((n : ℕ) (e : Expression) → r ≡ request.DepositRegister n e → ⊥) → ((e : Expression) (given : Value) → r ≡ request.DepositMemory e given → ⊥) →
    ((n : ℕ) → r ≡ request.Step n → ⊥) → (r ≡ request.Over → ⊥) → (r ≡ request.Out → ⊥) → (r ≡ request.Go → ⊥) → ((e : Expression) → r ≡ request.Until e → ⊥) →
    ((e : Expression) → r ≡ request.Break e → ⊥) → ((e : Option Expression) → r ≡ request.Clear e → ⊥) → ((e : Expression) → r ≡ request.Evict e → ⊥) →
    (r ≡ request.EvictAll → ⊥) → ((e : Expression) → r ≡ request.DepositStatus e → ⊥) → (r ≡ request.Turn → ⊥) → ((at : Span) → r ≡ request.Watch at → ⊥) → ((f : Field) (e : Expression) → r ≡ request.DepositField f e → ⊥) → only_told s (shown legend breaks pages r s.machine) ≡ answered limit legend breaks pages r s
unfolding answered
rest_answered limit legend breaks pages (request.DepositRegister n e) s a1 a2 a3 a4 a5 a6 a7 a8 a9 b1 b2 b3 b4 b5 b6 = absurd (a1 n e refl)
rest_answered limit legend breaks pages (request.DepositMemory e given) s a1 a2 a3 a4 a5 a6 a7 a8 a9 b1 b2 b3 b4 b5 b6 = absurd (a2 e given refl)
rest_answered limit legend breaks pages (request.Step n) s a1 a2 a3 a4 a5 a6 a7 a8 a9 b1 b2 b3 b4 b5 b6 = absurd (a3 n refl)
rest_answered limit legend breaks pages request.Over s a1 a2 a3 a4 a5 a6 a7 a8 a9 b1 b2 b3 b4 b5 b6 = absurd (a4 refl)
rest_answered limit legend breaks pages request.Out s a1 a2 a3 a4 a5 a6 a7 a8 a9 b1 b2 b3 b4 b5 b6 = absurd (a5 refl)
rest_answered limit legend breaks pages request.Go s a1 a2 a3 a4 a5 a6 a7 a8 a9 b1 b2 b3 b4 b5 b6 = absurd (a6 refl)
rest_answered limit legend breaks pages (request.Until e) s a1 a2 a3 a4 a5 a6 a7 a8 a9 b1 b2 b3 b4 b5 b6 = absurd (a7 e refl)
rest_answered limit legend breaks pages (request.Break e) s a1 a2 a3 a4 a5 a6 a7 a8 a9 b1 b2 b3 b4 b5 b6 = absurd (a8 e refl)
rest_answered limit legend breaks pages (request.Clear e) s a1 a2 a3 a4 a5 a6 a7 a8 a9 b1 b2 b3 b4 b5 b6 = absurd (a9 e refl)
rest_answered limit legend breaks pages (request.Evict e) s a1 a2 a3 a4 a5 a6 a7 a8 a9 b1 b2 b3 b4 b5 b6 = absurd (b1 e refl)
rest_answered limit legend breaks pages request.EvictAll s a1 a2 a3 a4 a5 a6 a7 a8 a9 b1 b2 b3 b4 b5 b6 = absurd (b2 refl)
rest_answered limit legend breaks pages (request.DepositStatus e) s a1 a2 a3 a4 a5 a6 a7 a8 a9 b1 b2 b3 b4 b5 b6 = absurd (b3 e refl)
rest_answered limit legend breaks pages request.Turn s a1 a2 a3 a4 a5 a6 a7 a8 a9 b1 b2 b3 b4 b5 b6 = absurd (b4 refl)
rest_answered limit legend breaks pages (request.Watch at) s a1 a2 a3 a4 a5 a6 a7 a8 a9 b1 b2 b3 b4 b5 b6 = absurd (b5 at refl)
rest_answered limit legend breaks pages (request.DepositField f e) s a1 a2 a3 a4 a5 a6 a7 a8 a9 b1 b2 b3 b4 b5 b6 = absurd (b6 f e refl)
rest_answered limit legend breaks pages r s a1 a2 a3 a4 a5 a6 a7 a8 a9 b1 b2 b3 b4 b5 b6 = refl

pub rest_acts : (v w : Scene) (result : Result (Unit {0}) Failure) (limits : Limits) (legend : Legend) (breaks : Plan) (pages : Pages) (r : Request) →
    ((n : ℕ) (e : Expression) → r ≡ request.DepositRegister n e → ⊥) → ((e : Expression) (given : Value) → r ≡ request.DepositMemory e given → ⊥) →
    ((n : ℕ) → r ≡ request.Step n → ⊥) → (r ≡ request.Over → ⊥) → (r ≡ request.Out → ⊥) → (r ≡ request.Go → ⊥) → ((e : Expression) → r ≡ request.Until e → ⊥) →
    ((e : Expression) → r ≡ request.Break e → ⊥) → ((e : Option Expression) → r ≡ request.Clear e → ⊥) → ((e : Expression) → r ≡ request.Evict e → ⊥) →
    (r ≡ request.EvictAll → ⊥) → ((e : Expression) → r ≡ request.DepositStatus e → ⊥) → (r ≡ request.Turn → ⊥) → ((at : Span) → r ≡ request.Watch at → ⊥) → ((f : Field) (e : Expression) → r ≡ request.DepositField f e → ⊥) → Shows v w result (shown legend breaks pages r) → ActsFrom v w result limits (answered limits.steps legend breaks pages r)
rest_acts v w result limits legend breaks pages r a1 a2 a3 a4 a5 a6 a7 a8 a9 b1 b2 b3 b4 b5 b6 p = λ o s replies here.
    subst (λ (z : Act). Acts result limits.turns z o s replies w) (rest_answered limits.steps legend breaks pages r s a1 a2 a3 a4 a5 a6 a7 a8 a9 b1 b2 b3 b4 b5 b6)
    (shows_acts result limits.turns v w (shown legend breaks pages r) o s replies p here)

rest_kept : (legend : Legend) (breaks : Plan) (r : Request) (s : Session) → ((e : Expression) → r ≡ request.Break e → ⊥) → ((e : Option Expression) → r ≡ request.Clear e → ⊥) → ((at : Span) → r ≡ request.Watch at → ⊥) → breaks ≡ breaks_after legend breaks r s
unfolding breaks_after
rest_kept legend breaks (request.Break e) s a1 a2 a3 = absurd (a1 e refl)
rest_kept legend breaks (request.Clear e) s a1 a2 a3 = absurd (a2 e refl)
rest_kept legend breaks (request.Watch at) s a1 a2 a3 = absurd (a3 at refl)
rest_kept legend breaks r s a1 a2 a3 = refl

pub rest_breaks : (v : Scene) (result : Result (Unit {0}) Failure) (legend : Legend) (breaks : Plan) (r : Request) → ((e : Expression) → r ≡ request.Break e → ⊥) → ((e : Option Expression) → r ≡ request.Clear e → ⊥) → ((at : Span) → r ≡ request.Watch at → ⊥) →
    BreaksFrom v result breaks (breaks_after legend breaks r)
rest_breaks v result legend breaks r a1 a2 a3 = λ o s replies here. ok_if result (rest_kept legend breaks r s a1 a2 a3)

-- lines

pub no_end : (r : Request) → (r ≡ request.Quit → ⊥) → (r ≡ request.Save → ⊥) → (r ≡ request.Restart → ⊥) → None ≡ end_asked (Asks r)
no_end request.Quit n k j = absurd (n refl)
no_end request.Save n k j = absurd (k refl)
no_end request.Restart n k j = absurd (j refl)
no_end r n k j = refl

pub line_acts_as : (v w : Scene) (r : Result (Unit {0}) Failure) (limits : Limits) (legend : Legend) (breaks : Plan) (x : Exchange) (l k : Line) → l ≡ k →
    ActsFrom v w r limits (carried_out limits.steps legend breaks x k) → ActsFrom v w r limits (carried_out limits.steps legend breaks x l)
line_acts_as v w r limits legend breaks x l k is h = subst (λ (z : Line). ActsFrom v w r limits (carried_out limits.steps legend breaks x z)) (sym is) h

pub line_breaks_as : (v : Scene) (r : Result (Unit {0}) Failure) (new : Plan) (legend : Legend) (breaks : Plan) (l k : Line) → l ≡ k →
    BreaksFrom v r new (breaks_behind legend breaks k) → BreaksFrom v r new (breaks_behind legend breaks l)
line_breaks_as v r new legend breaks l k is h = subst (λ (z : Line). BreaksFrom v r new (breaks_behind legend breaks z)) (sym is) h

pub blank_acts : (v : Scene) (limits : Limits) (legend : Legend) (breaks : Plan) (x : Exchange) (l : Line) → l ≡ Blank → ActsFrom v v (Ok tt) limits (carried_out limits.steps legend breaks x l)
blank_acts v limits legend breaks x l is =
    line_acts_as v v (Ok tt) limits legend breaks x l Blank is (λ o s replies here. subst (λ (z : List ℕ). IsHere o s z v) (sym (append-nil replies)) here)

pub blank_breaks : (v : Scene) (legend : Legend) (breaks : Plan) (l : Line) → l ≡ Blank → BreaksFrom v (Ok tt) breaks (breaks_behind legend breaks l)
blank_breaks v legend breaks l is = line_breaks_as v (Ok tt) breaks legend breaks l Blank is (λ o s replies here. refl)

pub refused_acts : (v : Scene) (b : Option Channels) (r : Result (Unit {0}) Failure) (limits : Limits) (legend : Legend) (breaks : Plan) (x : Exchange) (l : Line) (why : Refusal) → l ≡ Refused why →
    Replied r v.sink b (refused why x.line) → ActsFrom v (with_sink b v) r limits (carried_out limits.steps legend breaks x l)
refused_acts v b r limits legend breaks x l why is p =
    line_acts_as v (with_sink b v) r limits legend breaks x l (Refused why) is
    (λ o s replies here.
    shows_acts r limits.turns v (with_sink b v) (λ (m : Flat). refused why x.line) o s replies
    (replied_shows v b r (refused why x.line) (λ (m : Flat). refused why x.line) (λ sink o s replies here. refl) p) here)

pub refused_breaks : (v : Scene) (r : Result (Unit {0}) Failure) (legend : Legend) (breaks : Plan) (l : Line) (why : Refusal) → l ≡ Refused why → BreaksFrom v r breaks (breaks_behind legend breaks l)
refused_breaks v r legend breaks l why is = line_breaks_as v r breaks legend breaks l (Refused why) is (λ o s replies here. ok_if r refl)
