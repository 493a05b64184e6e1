-- What one line comes to.
use Rattle.std.proofs.Common.{◌≡◌, ℕ, ◌||◌, false, List, [], ◌∷◌, ◌++◌, append-nil, Option, None, Some, is_some, option_map, Result, Ok, Err, refl, sym, ap, subst, ◌∙◌, inl, inr}
use Rattle.vax_outside.specs.Channels.{Grew, GrewByPrefix, only}
use Rattle.vax_outside.specs.Blocks.{BlockFile}
use Rattle.vax_outside.specs.Channels.{Channels}
use Rattle.vax_outside.specs.declared.traits.Chan.TheVariants.{Report}
use Rattle.vax_flat.specs.Step.{Flat}
use Rattle.vax_input.specs.Lines.{IsAtEnd, Takes}
use Rattle.vax_machine.specs.declared.engine.Engine.{Engine}
use Rattle.vax_console.specs.Transcript.{Session}
use Rattle.vax_console.specs.Ends.{Scene, scene}
use Rattle.vax_debug_acts.specs.Sessions.{IsHere, Origin}
use Rattle.vax_debug_acts.specs.Failure.{Failure}
use Rattle.vax_debug_acts.specs.Plan.{Plan}
use Rattle.vax_debug_acts.specs.Failure.TheVariants as failure
use Rattle.vax_debug_names.specs.declared.Legend.{Legend}
use Rattle.vax_debug_words.specs.Requests.{line_of}
use Rattle.vax_debug_words.specs.declared.request.Line.{Line}
use Rattle.vax_debug_words.specs.declared.request.Line.TheVariants.{Blank, Request as Asks, Refused}
use Rattle.vax_debug_words.specs.declared.request.Request.TheVariants as request
use Rattle.vax_debug_views.specs.Showing.{Shows}
use Rattle.vax_debug_acts.specs.Acting.{Act, Acts, ActsFrom, BreaksFrom, IsToldInPart, Tells}
use Rattle.vax_debug_acts.specs.Acts.{only_told}
use Rattle.vax_debug_acts.proofs.Telling.{at_told, done, in_part}
use Rattle.vax_debug_session.specs.Exchanges.{Exchange}
use Rattle.vax_debug_session.specs.Faults.{Failed, Faults}
use Rattle.vax_debug_session.specs.Requests.{Held, answered, breaks_after, held}
use Rattle.vax_debug_session.specs.Holding.{Holds, IsAskedAtLast, Restarts, Terms, act_of, after_line, breaks_behind, carried_out, end_asked, end_by, held_after, prompt, stage, transcript}
use Rattle.vax_debug_session.specs.Turns.{Answers, CarriesOut, Closes, CutsShort, HoldsOn, IsHolding, end_of}
use Rattle.vax_debug_session.specs.declared.SessionEnd.{SessionEnd}
use Rattle.vax_debug_session.specs.declared.SessionEnd.TheVariants as end
use Rattle.vax_debug_session.proofs.Failing.{none_failed}
use Rattle.vax_debug_session.proofs.Folding.{none_after, none_told, one_after, one_told, takes_none}

-- what is only shown, is an act of no steps

shows_tells : (r : Result (Unit {0}) Failure) (v w : Scene) (told : Flat → List ℕ) (o : Origin) (s : Session) (replies : List ℕ) → Shows v w r told → IsHere o s replies v → Tells r o s replies (told s.machine) w
shows_tells (Ok x) v w told o s replies p here =
    let h = p.stays v.sink o s replies here in
    record { at = at_told o s replies (told s.machine) w.machine w.file v.sink w.sink h.at (p.replied v.sink o s replies here); between = h.between }
shows_tells (Err failure.Turns) v w told o s replies p here = absurd (p.replied v.sink o s replies here)
shows_tells (Err failure.PageFault) v w told o s replies p here =
    in_part o s replies (told s.machine) w.machine w.file v.sink w.sink (p.stays v.sink o s replies here).at (p.replied v.sink o s replies here)
shows_tells (Err failure.WriteFault) v w told o s replies p here =
    in_part o s replies (told s.machine) w.machine w.file v.sink w.sink (p.stays v.sink o s replies here).at (p.replied v.sink o s replies here)

pub shows_acts : (r : Result (Unit {0}) Failure) (turns : ℕ) (v w : Scene) (told : Flat → List ℕ) (o : Origin) (s : Session) (replies : List ℕ) → Shows v w r told → IsHere o s replies v → Acts r turns (only_told s (told s.machine)) o s replies w
shows_acts r turns v w told o s replies p here = done r turns 0 o s s replies (told s.machine) w (shows_tells r v w told o s replies p here)

-- behind a prompt

pub prompted : (o : Origin) (s : Session) (replies text : List ℕ) (m : Engine) (f : Option BlockFile) (a b : Option Channels) → Grew a b (only Report text) → IsHere o s replies (scene m f a) → IsHere o s (replies ++ text) (scene m f b)
prompted o s replies text m f a b grew h = record { at = at_told o s replies text m f a b h.at grew; between = h.between }

-- a line was carried out, or cut short

pub carries : (g : Terms) (b new : Plan) (line : Exchange) (said : Line) (v w : Scene) (x : Unit {0}) → said ≡ line_of line.line → end_asked said ≡ None →
    ActsFrom v w (Ok x) g.limits (carried_out g.limits.steps g.legend b line said) → BreaksFrom v (Ok x) new (breaks_behind g.legend b said) → Answers None g b new line v w
carries g b new line said v w x is going acts breaks = record {
  going = subst (λ (z : Line). end_asked z ≡ None) is going;
  here = λ o s replies h.
      subst (λ (z : Line). IsHere o (carried_out g.limits.steps g.legend b line z s).session (replies ++ (carried_out g.limits.steps g.legend b line z s).reply) w) is
      (acts o s replies h);
  stops = λ o s replies h. subst (λ (z : Line). new ≡ breaks_behind g.legend b z s) is (breaks o s replies h);
}

cuts_short : (e : Failure) (g : Terms) (b : Plan) (line : Exchange) (said : Line) (v w : Scene) → said ≡ line_of line.line → end_asked said ≡ None →
    ActsFrom v w (Err e) g.limits (carried_out g.limits.steps g.legend b line said) → CutsShort e g b line v w
cuts_short e g b line said v w is going acts = record {
  going = subst (λ (z : Line). end_asked z ≡ None) is going;
  acts = λ o s replies h.
      subst (λ (z : Line). Acts (Err e) g.limits.turns (carried_out g.limits.steps g.legend b line z s) o s replies w) is
      (acts o s replies h);
}

pub cuts : (e : Failure) (g : Terms) (b new : Plan) (line : Exchange) (said : Line) (v w : Scene) → said ≡ line_of line.line → end_asked said ≡ None →
    ActsFrom v w (Err e) g.limits (carried_out g.limits.steps g.legend b line said) → Answers (Some (end_of e)) g b new line v w
cuts failure.Turns g b new line said v w is going acts = cuts_short failure.Turns g b line said v w is going acts
cuts failure.PageFault g b new line said v w is going acts = cuts_short failure.PageFault g b line said v w is going acts
cuts failure.WriteFault g b new line said v w is going acts = cuts_short failure.WriteFault g b line said v w is going acts

-- a line that asks for an end

closed : (e : SessionEnd) (line : Exchange) (said : Line) (v : Scene) → said ≡ line_of line.line → end_asked said ≡ Some e → Closes e line v v
closed e line said v is asks = record { asks = subst (λ (z : Line). end_asked z ≡ Some e) is asks; same = refl }

-- by other than these three no line asks for an end
three_ends : (said : Line) (e : SessionEnd) → (e ≡ end.Quit → ⊥) → (e ≡ end.Save → ⊥) → (e ≡ end.Restart → ⊥) → end_asked said ≡ Some e → ⊥
three_ends Blank e n k j is = cc is
three_ends (Asks request.Quit) e n k j is = n (cc is)
three_ends (Asks request.Save) e n k j is = k (cc is)
three_ends (Asks request.Restart) e n k j is = j (cc is)
three_ends (Asks r) e n k j is = cc is
three_ends (Refused why) e n k j is = cc is

pub asks_end_by : (e : SessionEnd) (g : Terms) (b : Plan) (line : Exchange) (said : Line) (v : Scene) → said ≡ line_of line.line → end_asked said ≡ Some e → Answers (Some e) g b b line v v
asks_end_by end.Quit g b line said v is asks = closed end.Quit line said v is asks
asks_end_by end.Save g b line said v is asks = closed end.Save line said v is asks
asks_end_by end.Restart g b line said v is asks = (closed end.Restart line said v is asks, refl)
asks_end_by end.Read g b line said v is asks = absurd (three_ends said end.Read (λ n. cc n) (λ n. cc n) (λ n. cc n) asks)
asks_end_by end.Lines g b line said v is asks = absurd (three_ends said end.Lines (λ n. cc n) (λ n. cc n) (λ n. cc n) asks)
asks_end_by end.Turns g b line said v is asks = absurd (three_ends said end.Turns (λ n. cc n) (λ n. cc n) (λ n. cc n) asks)
asks_end_by end.PageFault g b line said v is asks = absurd (three_ends said end.PageFault (λ n. cc n) (λ n. cc n) (λ n. cc n) asks)
asks_end_by end.WriteFault g b line said v is asks = absurd (three_ends said end.WriteFault (λ n. cc n) (λ n. cc n) (λ n. cc n) asks)
asks_end_by end.LineFault g b line said v is asks = absurd (three_ends said end.LineFault (λ n. cc n) (λ n. cc n) (λ n. cc n) asks)

-- no call fails
pub end_unfailed : (e : SessionEnd) (said : Line) (a : Faults) → end_asked said ≡ Some e → Failed e a a
end_unfailed end.Quit said a asks = none_failed a
end_unfailed end.Save said a asks = none_failed a
end_unfailed end.Restart said a asks = none_failed a
end_unfailed end.Read said a asks = none_failed a
end_unfailed end.Lines said a asks = none_failed a
end_unfailed end.Turns said a asks = none_failed a
end_unfailed end.PageFault said a asks = absurd (three_ends said end.PageFault (λ n. cc n) (λ n. cc n) (λ n. cc n) asks)
end_unfailed end.WriteFault said a asks = absurd (three_ends said end.WriteFault (λ n. cc n) (λ n. cc n) (λ n. cc n) asks)
end_unfailed end.LineFault said a asks = absurd (three_ends said end.LineFault (λ n. cc n) (λ n. cc n) (λ n. cc n) asks)

-- and nothing is done
end_act : (limit : ℕ) (legend : Legend) (breaks : Plan) (x : Exchange) (l : Line) (s : Session) (e : SessionEnd) → end_asked l ≡ Some e → carried_out limit legend breaks x l s ≡ only_told s []
unfolding answered
end_act limit legend breaks x Blank s e is = absurd (cc is)
end_act limit legend breaks x (Asks request.Quit) s e is = refl
end_act limit legend breaks x (Asks request.Save) s e is = refl
end_act limit legend breaks x (Asks request.Restart) s e is = refl
end_act limit legend breaks x (Asks r) s e is = absurd (cc is)
end_act limit legend breaks x (Refused why) s e is = absurd (cc is)

end_breaks : (legend : Legend) (breaks : Plan) (l : Line) (s : Session) (e : SessionEnd) → end_asked l ≡ Some e → breaks_behind legend breaks l s ≡ breaks
unfolding breaks_after
end_breaks legend breaks Blank s e is = refl
end_breaks legend breaks (Asks request.Quit) s e is = refl
end_breaks legend breaks (Asks request.Save) s e is = refl
end_breaks legend breaks (Asks request.Restart) s e is = refl
end_breaks legend breaks (Asks r) s e is = absurd (cc is)
end_breaks legend breaks (Refused why) s e is = refl

-- one line of a session

-- behind a prompt the session is where it was
abbrev pub Prompts : Terms → Scene → Scene → Type 0
Prompts g u v = (o : Origin) (s : Session) (replies : List ℕ) → IsHere o s replies u → IsHere o s (replies ++ prompt g.prompts) v

line_carried : (g : Terms) (b new : Plan) (line : Exchange) (u v w : Scene) (c d : Option (List (List ℕ))) → Prompts g u v → Takes c d (line.line ∷ []) → CarriesOut g b new line v w → IsHolding g b new 1 (stage u w c d)
line_carried g b new line u v w c d behind took q = record {
  lines = line ∷ [];
  many = refl;
  took = took;
  going = ap (λ (z : Option SessionEnd). is_some z || false) q.going;
  here = λ o s replies h.
      let k = q.here o s (replies ++ prompt g.prompts) (behind o s replies h) in
      subst (λ (z : Held). IsHere o z.session (replies ++ transcript g (held s b) (line ∷ [])) w) (one_after g (held s b) line)
      (subst (λ (z : List ℕ). IsHere o (after_line g (held s b) line).session z w) (one_told g (held s b) line replies) k);
  stops = λ o s replies h.
      q.stops o s (replies ++ prompt g.prompts) (behind o s replies h) ∙ ap (λ (z : Held). z.breaks) (one_after g (held s b) line);
}

end_here : (e : SessionEnd) (g : Terms) (b : Plan) (line : Exchange) (o : Origin) (s : Session) (replies : List ℕ) (v : Scene) → end_by line ≡ Some e → IsHere o s (replies ++ prompt g.prompts) v →
    IsHere o (held_after g (held s b) (line ∷ [])).session ((replies ++ transcript g (held s b) (line ∷ [])) ++ []) v
end_here e g b line o s replies v asks h =
    let act : act_of g (held s b) line ≡ only_told s [] = end_act g.limits.steps g.legend b line (line_of line.line) s e asks in
    let there : (after_line g (held s b) line).session ≡ s = ap (λ (z : Act). z.session) act in
    let told : replies ++ prompt g.prompts ≡ (replies ++ transcript g (held s b) (line ∷ [])) ++ [] =
    sym (append-nil (replies ++ prompt g.prompts))
    ∙ (ap (λ (z : List ℕ). (replies ++ prompt g.prompts) ++ z) (sym (ap (λ (z : Act). z.reply) act))
    ∙ (one_told g (held s b) line replies ∙ sym (append-nil (replies ++ transcript g (held s b) (line ∷ []))))) in
    subst (λ (z : Held). IsHere o z.session ((replies ++ transcript g (held s b) (line ∷ [])) ++ []) v) (one_after g (held s b) line)
    (subst (λ (z : Session). IsHere o z ((replies ++ transcript g (held s b) (line ∷ [])) ++ []) v) (sym there)
    (subst (λ (z : List ℕ). IsHere o s z v) told h))

module _ (e : SessionEnd) (g : Terms) (b : Plan) (line : Exchange) (u v w : Scene) (c d : Option (List (List ℕ))) (behind : Prompts g u v) (took : Takes c d (line.line ∷ [])) (q : Closes e line v w) where
  asked_last : IsAskedAtLast e (line ∷ [])
  asked_last = record { front = []; last = line; splits = refl; going = refl; asks = q.asks }

  closed_here : (o : Origin) (s : Session) (replies : List ℕ) → IsHere o s replies u → IsHere o (held_after g (held s b) (line ∷ [])).session ((replies ++ transcript g (held s b) (line ∷ [])) ++ []) w
  closed_here o s replies h =
      subst (λ (z : Scene). IsHere o (held_after g (held s b) (line ∷ [])).session ((replies ++ transcript g (held s b) (line ∷ [])) ++ []) z) (sym q.same)
      (end_here e g b line o s replies v q.asks (behind o s replies h))

line_quits : (g : Terms) (b : Plan) (line : Exchange) (u v w : Scene) (c d : Option (List (List ℕ))) → Prompts g u v → Takes c d (line.line ∷ []) → Closes end.Quit line v w → Holds g b end.Quit (stage u w c d)
line_quits g b line u v w c d behind took q = record {
  lines = line ∷ [];
  took = took;
  asked = asked_last end.Quit g b line u v w c d behind took q;
  goes = closed_here end.Quit g b line u v w c d behind took q;
}

line_saves : (g : Terms) (b : Plan) (line : Exchange) (u v w : Scene) (c d : Option (List (List ℕ))) → Prompts g u v → Takes c d (line.line ∷ []) → Closes end.Save line v w → Holds g b end.Save (stage u w c d)
line_saves g b line u v w c d behind took q = record {
  lines = line ∷ [];
  took = took;
  asked = asked_last end.Save g b line u v w c d behind took q;
  goes = closed_here end.Save g b line u v w c d behind took q;
}

-- steps stop behind a line that asks for an end where they did before it
end_stops : (e : SessionEnd) (g : Terms) (b : Plan) (line : Exchange) (s : Session) → end_by line ≡ Some e → b ≡ (held_after g (held s b) (line ∷ [])).breaks
end_stops e g b line s asks =
    sym (end_breaks g.legend b (line_of line.line) s e asks) ∙ ap (λ (z : Held). z.breaks) (one_after g (held s b) line)

line_restarts : (g : Terms) (b new : Plan) (line : Exchange) (u v w : Scene) (c d : Option (List (List ℕ))) → Prompts g u v → Takes c d (line.line ∷ []) → Closes end.Restart line v w → new ≡ b → Restarts g b new (stage u w c d)
line_restarts g b new line u v w c d behind took q same = record {
  lines = line ∷ [];
  took = took;
  asked = asked_last end.Restart g b line u v w c d behind took q;
  goes = closed_here end.Restart g b line u v w c d behind took q;
  stops = λ o s replies h. same ∙ end_stops end.Restart g b line s q.asks;
}

-- where nothing was carried out, what is told behind no line is told
told_first : (P : Held → List ℕ → Type 0) (g : Terms) (h : Held) (replies : List ℕ) → P h replies → P (held_after g h []) (replies ++ transcript g h [])
told_first P g h replies p =
    subst (λ (z : Held). P z (replies ++ transcript g h [])) (none_after g h) (subst (λ (z : List ℕ). P h z) (none_told g h replies) p)

-- an end that a failure makes
cut_goes : (e : Failure) (g : Terms) (b : Plan) (line : Exchange) (u v w : Scene) → Prompts g u v → CutsShort e g b line v w → (o : Origin) (s : Session) (replies : List ℕ) → IsHere o s replies u →
    Acts (Err e) g.limits.turns (act_of g (held_after g (held s b) []) line) o (held_after g (held s b) []).session ((replies ++ transcript g (held s b) []) ++ prompt g.prompts) w
cut_goes e g b line u v w behind q o s replies h =
    told_first (λ z told. Acts (Err e) g.limits.turns (act_of g z line) o z.session (told ++ prompt g.prompts) w) g (held s b) replies
    (q.acts o s (replies ++ prompt g.prompts) (behind o s replies h))

pub line_holds : (r : Option SessionEnd) (g : Terms) (b new : Plan) (line : Exchange) (u v w : Scene) (c d : Option (List (List ℕ))) → Prompts g u v → Takes c d (line.line ∷ []) → Answers r g b new line v w → HoldsOn r g b new (stage u w c d)
line_holds None g b new line u v w c d behind took q = line_carried g b new line u v w c d behind took q
line_holds (Some end.Quit) g b new line u v w c d behind took q = line_quits g b line u v w c d behind took q
line_holds (Some end.Save) g b new line u v w c d behind took q = line_saves g b line u v w c d behind took q
line_holds (Some end.Restart) g b new line u v w c d behind took q = line_restarts g b new line u v w c d behind took q.0 q.1
line_holds (Some end.Read) g b new line u v w c d behind took q = absurd q
line_holds (Some end.Lines) g b new line u v w c d behind took q = absurd q
line_holds (Some end.Turns) g b new line u v w c d behind took q = record {
  lines = line ∷ [];
  took = took;
  asked = ap (λ (z : Option SessionEnd). is_some z || false) q.going;
  goes = λ o s replies h. record { front = []; last = line; splits = refl; acts = cut_goes failure.Turns g b line u v w behind q o s replies h };
}
line_holds (Some end.PageFault) g b new line u v w c d behind took q = record {
  lines = line ∷ [];
  took = took;
  asked = ap (λ (z : Option SessionEnd). is_some z || false) q.going;
  goes = λ o s replies h. record { front = []; last = line; splits = refl; acts = cut_goes failure.PageFault g b line u v w behind q o s replies h };
}
line_holds (Some end.WriteFault) g b new line u v w c d behind took q = record {
  lines = line ∷ [];
  took = took;
  asked = ap (λ (z : Option SessionEnd). is_some z || false) q.going;
  goes = λ o s replies h. inl (record { front = []; last = line; splits = refl; acts = cut_goes failure.WriteFault g b line u v w behind q o s replies h });
}
line_holds (Some end.LineFault) g b new line u v w c d behind took q = absurd q

-- the prompt wasn't written whole
pub unprompted : (g : Terms) (b new : Plan) (m : Engine) (f : Option BlockFile) (x y : Option Channels) (c : Option (List (List ℕ))) → GrewByPrefix x y (only Report (prompt g.prompts)) → HoldsOn (Some end.WriteFault) g b new (stage (scene m f x) (scene m f y) c c)
unprompted g b new m f x y c grew = record {
  lines = [];
  took = takes_none c;
  asked = refl;
  goes = λ o s replies h.
      inr (told_first (λ z told. IsToldInPart o z.session told (prompt g.prompts) (scene m f y)) g (held s b) replies
      (in_part o s replies (prompt g.prompts) m f x y h.at grew));
}

-- no line is left
pub all_read : (g : Terms) (b new : Plan) (u v : Scene) (c d : Option (List (List ℕ))) → Prompts g u v → IsAtEnd c d → HoldsOn (Some end.Read) g b new (stage u v c d)
all_read g b new u v c d behind ended = record {
  lines = [];
  took = (subst (λ (z : Option (List (List ℕ))). Takes z d []) ended.same (takes_none d), record { none = subst (λ (z : Option (List (List ℕ))). z ≡ option_map (λ (more : List (List ℕ)). []) z) (sym ended.same) ended.none; same = refl });
  asked = refl;
  goes = λ o s replies h. told_first (λ z told. IsHere o z.session (told ++ prompt g.prompts) v) g (held s b) replies (behind o s replies h);
}

-- a line couldn't be read
pub unread : (g : Terms) (b new : Plan) (u v : Scene) (c d : Option (List (List ℕ))) → Prompts g u v → HoldsOn (Some end.LineFault) g b new (stage u v c d)
unread g b new u v c d behind = record {
  lines = [];
  took = (c, takes_none c);
  asked = refl;
  goes = λ o s replies h. told_first (λ z told. IsHere o z.session (told ++ prompt g.prompts) v) g (held s b) replies (behind o s replies h);
}
