-- A session that goes on from line to line, and ends.
use Rattle.std.proofs.Common.{◌≡◌, ℕ, ◌+◌, ◌-◌, ◌^◌, List, [], ◌++◌, append-nil, length, length-append, Option, Some, refl, sym, ap, subst, ◌∙◌}
use Rattle.vax_input.specs.Lines.{Takes}
use Rattle.vax_console.specs.Ends.{Scene}
use Rattle.vax_debug_acts.specs.Sessions.{IsHere}
use Rattle.vax_debug_acts.specs.Plan.{Plan}
use Rattle.vax_debug_session.specs.Exchanges.{lines_of}
use Rattle.vax_debug_session.specs.Requests.{Held, held}
use Rattle.vax_debug_session.specs.Holding.{Ends, Holds, Restarts, Terms, Took, held_after, stage, transcript}
use Rattle.vax_debug_session.specs.Turns.{HoldsOn, IsHolding}
use Rattle.vax_debug_session.specs.declared.SessionEnd.{SessionEnd}
use Rattle.vax_debug_session.specs.declared.SessionEnd.TheVariants as end
use Rattle.vax_debug_session.proofs.Folding.{asked_on, at_both, ends_on, going_on, held_after_on, last_on, lines_both, none_after, none_told, takes_none, takes_on, took_on}

-- a session with its breaks, by name
held_is : (h : Held) (breaks : Plan) → breaks ≡ h.breaks → held h.session breaks ≡ h
held_is h breaks e = ap (λ (z : Plan). held h.session z) e

pub holding_first : (g : Terms) (breaks : Plan) (v : Scene) (c : Option (List (List ℕ))) → IsHolding g breaks breaks 0 (stage v v c c)
holding_first g breaks v c = record {
  lines = [];
  many = refl;
  took = takes_none c;
  going = refl;
  here = λ o s replies here.
      subst (λ (z : Held). IsHere o z.session (replies ++ transcript g (held s breaks) []) v) (none_after g (held s breaks))
      (subst (λ (z : List ℕ). IsHere o s z v) (none_told g (held s breaks) replies) here);
  stops = λ o s replies here. ap (λ (z : Held). z.breaks) (none_after g (held s breaks));
}

-- a line more
pub holding_then : (g : Terms) (a b e : Plan) (m n : ℕ) (u v w : Scene) (c d f : Option (List (List ℕ))) → IsHolding g a b m (stage u v c d) → IsHolding g b e n (stage v w d f) → IsHolding g a e (m + n) (stage u w c f)
holding_then g a b e m n u v w c d f p q = record {
  lines = p.lines ++ q.lines;
  many = length-append p.lines q.lines ∙ (ap (λ (k : ℕ). k + length q.lines) p.many ∙ ap (λ (k : ℕ). m + k) q.many);
  took = subst (λ (z : List (List ℕ)). Takes c f z) (sym (lines_both p.lines q.lines)) (takes_on c d f (lines_of p.lines) (lines_of q.lines) p.took q.took);
  going = going_on p.lines q.lines p.going q.going;
  here = λ o s replies here.
      let t = held_after g (held s a) p.lines in
      let told = replies ++ transcript g (held s a) p.lines in
      at_both (λ z said. IsHere o z.session said w) g (held s a) p.lines q.lines replies
      (subst (λ (z : Held). IsHere o (held_after g z q.lines).session (told ++ transcript g z q.lines) w) (held_is t b (p.stops o s replies here))
      (q.here o t.session told (p.here o s replies here)));
  stops = λ o s replies here.
      let t = held_after g (held s a) p.lines in
      let told = replies ++ transcript g (held s a) p.lines in
      q.stops o t.session told (p.here o s replies here)
      ∙ (ap (λ (z : Held). (held_after g z q.lines).breaks) (held_is t b (p.stops o s replies here)) ∙ ap (λ (z : Held). z.breaks) (sym (held_after_on g (held s a) p.lines q.lines)));
}

-- the end behind lines
ends_then : (g : Terms) (a b : Plan) (m : ℕ) (e : SessionEnd) (u v w : Scene) (c d f : Option (List (List ℕ))) → (e ≡ end.Lines → ⊥) → IsHolding g a b m (stage u v c d) → Holds g b e (stage v w d f) → Holds g a e (stage u w c f)
ends_then g a b m e u v w c d f few p q = record {
  lines = p.lines ++ q.lines;
  took = subst (λ (z : List (List ℕ)). Took e c f z) (sym (lines_both p.lines q.lines)) (took_on e c d f (lines_of p.lines) (lines_of q.lines) p.took q.took);
  asked = asked_on e p.lines q.lines few p.going q.asked;
  goes = λ o s replies here.
      let t = held_after g (held s a) p.lines in
      let told = replies ++ transcript g (held s a) p.lines in
      ends_on e g (held s a) p.lines q.lines o replies w
      (subst (λ (z : Held). Ends e g z q.lines o told w) (held_is t b (p.stops o s replies here))
      (q.goes o t.session told (p.here o s replies here)));
}

-- a restart behind lines
restarts_then : (g : Terms) (a b new : Plan) (m : ℕ) (u v w : Scene) (c d f : Option (List (List ℕ))) → IsHolding g a b m (stage u v c d) → Restarts g b new (stage v w d f) → Restarts g a new (stage u w c f)
restarts_then g a b new m u v w c d f p q = record {
  lines = p.lines ++ q.lines;
  took = subst (λ (z : List (List ℕ)). Takes c f z) (sym (lines_both p.lines q.lines)) (takes_on c d f (lines_of p.lines) (lines_of q.lines) p.took q.took);
  asked = last_on end.Restart p.lines q.lines p.going q.asked;
  goes = λ o s replies here.
      let t = held_after g (held s a) p.lines in
      let told = replies ++ transcript g (held s a) p.lines in
      ends_on end.Restart g (held s a) p.lines q.lines o replies w
      (subst (λ (z : Held). Ends end.Restart g z q.lines o told w) (held_is t b (p.stops o s replies here))
      (q.goes o t.session told (p.here o s replies here)));
  stops = λ o s replies here.
      let t = held_after g (held s a) p.lines in
      let told = replies ++ transcript g (held s a) p.lines in
      q.stops o t.session told (p.here o s replies here)
      ∙ (ap (λ (z : Held). (held_after g z q.lines).breaks) (held_is t b (p.stops o s replies here)) ∙ ap (λ (z : Held). z.breaks) (sym (held_after_on g (held s a) p.lines q.lines)));
}

pub restarts_holds : (g : Terms) (a new : Plan) (u v : Scene) (c d : Option (List (List ℕ))) → Restarts g a new (stage u v c d) → Holds g a end.Restart (stage u v c d)
restarts_holds g a new u v c d p = record { lines = p.lines; took = p.took; asked = p.asked; goes = p.goes }

-- a line that asks for it ends the session so
pub holding_restarts : (e : SessionEnd) (g : Terms) (a b new : Plan) (m : ℕ) (u v w : Scene) (c d f : Option (List (List ℕ))) → IsHolding g a b m (stage u v c d) → HoldsOn (Some e) g b new (stage v w d f) → e ≡ end.Restart → Restarts g a new (stage u w c f)
holding_restarts e g a b new m u v w c d f p q is = restarts_then g a b new m u v w c d f p (subst (λ (z : SessionEnd). HoldsOn (Some z) g b new (stage v w d f)) is q)

pub holding_ends : (e : SessionEnd) (g : Terms) (a b new : Plan) (m : ℕ) (u v w : Scene) (c d f : Option (List (List ℕ))) → IsHolding g a b m (stage u v c d) → HoldsOn (Some e) g b new (stage v w d f) → Holds g a e (stage u w c f)
holding_ends end.Quit g a b new m u v w c d f p q = ends_then g a b m end.Quit u v w c d f (λ is. cc is) p q
holding_ends end.Save g a b new m u v w c d f p q = ends_then g a b m end.Save u v w c d f (λ is. cc is) p q
holding_ends end.Restart g a b new m u v w c d f p q = restarts_holds g a new u w c f (restarts_then g a b new m u v w c d f p q)
holding_ends end.Read g a b new m u v w c d f p q = ends_then g a b m end.Read u v w c d f (λ is. cc is) p q
holding_ends end.Lines g a b new m u v w c d f p q = absurd q
holding_ends end.Turns g a b new m u v w c d f p q = ends_then g a b m end.Turns u v w c d f (λ is. cc is) p q
holding_ends end.PageFault g a b new m u v w c d f p q = ends_then g a b m end.PageFault u v w c d f (λ is. cc is) p q
holding_ends end.WriteFault g a b new m u v w c d f p q = ends_then g a b m end.WriteFault u v w c d f (λ is. cc is) p q
holding_ends end.LineFault g a b new m u v w c d f p q = ends_then g a b m end.LineFault u v w c d f (λ is. cc is) p q

-- the most lines were carried out
pub holding_done : (g : Terms) (a b : Plan) (m : ℕ) (u v : Scene) (c d : Option (List (List ℕ))) → m ≡ 2 ^ 64 - 1 → IsHolding g a b m (stage u v c d) → Holds g a end.Lines (stage u v c d)
holding_done g a b m u v c d all p = record {
  lines = p.lines;
  took = p.took;
  asked = (p.going, p.many ∙ all);
  goes = λ o s replies here.
      let h = held_after g (held s a) p.lines in
      subst (λ (z : List ℕ). IsHere o h.session z v) (sym (append-nil (replies ++ transcript g (held s a) p.lines))) (p.here o s replies here);
}
