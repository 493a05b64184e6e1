-- The fold over lines, one part of them behind the other.
use Rattle.std.proofs.Common.{◌≡◌, ℕ, ◌||◌, Bool, List, [], ◌∷◌, ◌++◌, append_assoc, append-nil, Option, None, Some, Err, option_map, map, refl, sym, ap, subst, ◌∙◌, inl, inr}
use Rattle.std.specs.List.{list_any}
use Rattle.std.proofs.lemmas.List.{map-append}
use Rattle.std.proofs.lemmas.List.Folds.{list_any-append}
use Rattle.vax_input.specs.Lines.{Takes, cut}
use Rattle.vax_console.specs.Ends.{Scene}
use Rattle.vax_debug_acts.specs.Sessions.{IsHere, Origin}
use Rattle.vax_debug_acts.specs.Failure.{Failure}
use Rattle.vax_debug_acts.specs.Failure.TheVariants as failure
use Rattle.vax_debug_acts.specs.Acting.{Acts, IsToldInPart}
use Rattle.vax_debug_session.specs.Exchanges.{Exchange, lines_of}
use Rattle.vax_debug_session.specs.Requests.{Held}
use Rattle.vax_debug_session.specs.Holding.{Asked, Ends, GoesOn, IsCutShort, IsAskedAtLast, IsHeld, IsUnprompted, Terms, Took, act_of, after_line, asks_end, held_after, prompt, replied, transcript}
use Rattle.vax_debug_session.specs.declared.SessionEnd.{SessionEnd}
use Rattle.vax_debug_session.specs.declared.SessionEnd.TheVariants as end

pub held_after_on : (g : Terms) (h : Held) (xs ys : List Exchange) → held_after g h (xs ++ ys) ≡ held_after g (held_after g h xs) ys
unfolding held_after
held_after_on g h [] ys = refl
held_after_on g h (x ∷ xs) ys = held_after_on g (after_line g h x) xs ys

pub transcript_on : (g : Terms) (h : Held) (xs ys : List Exchange) → transcript g h (xs ++ ys) ≡ transcript g h xs ++ transcript g (held_after g h xs) ys
unfolding transcript held_after
transcript_on g h [] ys = refl
transcript_on g h (x ∷ xs) ys =
    let front = prompt g.prompts ++ replied g h x in
    ap (λ (z : List ℕ). front ++ z) (transcript_on g (after_line g h x) xs ys)
    ∙ sym (append_assoc front (transcript g (after_line g h x) xs) (transcript g (held_after g (after_line g h x) xs) ys))

-- no lines
pub none_after : (g : Terms) (h : Held) → h ≡ held_after g h []
unfolding held_after
none_after g h = refl

pub none_told : (g : Terms) (h : Held) (replies : List ℕ) → replies ≡ replies ++ transcript g h []
unfolding transcript
none_told g h replies = sym (append-nil replies)

-- one line
pub one_after : (g : Terms) (h : Held) (line : Exchange) → after_line g h line ≡ held_after g h (line ∷ [])
unfolding held_after
one_after g h line = refl

pub one_told : (g : Terms) (h : Held) (line : Exchange) (replies : List ℕ) → (replies ++ prompt g.prompts) ++ replied g h line ≡ replies ++ transcript g h (line ∷ [])
unfolding transcript
one_told g h line replies =
    append_assoc replies (prompt g.prompts) (replied g h line) ∙ ap (λ (z : List ℕ). replies ++ z) (sym (append-nil (prompt g.prompts ++ replied g h line)))

-- what holds where the first lines and then the others have led, holds where all have
pub at_both : (P : Held → List ℕ → Type 0) (g : Terms) (h : Held) (xs ys : List Exchange) (replies : List ℕ) → P (held_after g (held_after g h xs) ys) ((replies ++ transcript g h xs) ++ transcript g (held_after g h xs) ys) → P (held_after g h (xs ++ ys)) (replies ++ transcript g h (xs ++ ys))
at_both P g h xs ys replies p =
    let told : (replies ++ transcript g h xs) ++ transcript g (held_after g h xs) ys ≡ replies ++ transcript g h (xs ++ ys) =
    append_assoc replies (transcript g h xs) (transcript g (held_after g h xs) ys) ∙ ap (λ (z : List ℕ). replies ++ z) (sym (transcript_on g h xs ys)) in
    subst (λ (z : Held). P z (replies ++ transcript g h (xs ++ ys))) (sym (held_after_on g h xs ys))
    (subst (λ (z : List ℕ). P (held_after g (held_after g h xs) ys) z) told p)

-- lines that are taken, and asked

pub lines_both : (xs ys : List Exchange) → lines_of (xs ++ ys) ≡ lines_of xs ++ lines_of ys
lines_both xs ys = map-append (λ (x : Exchange). x.line) xs ys

joined : (a b : Option (List (List ℕ))) (xs ys : List (List ℕ)) → a ≡ option_map (λ more. ys ++ more) b → option_map (λ more. xs ++ more) a ≡ option_map (λ more. (xs ++ ys) ++ more) b
joined a None xs ys e = ap (option_map (λ (more : List (List ℕ)). xs ++ more)) e
joined a (Some b) xs ys e = ap (option_map (λ (more : List (List ℕ)). xs ++ more)) e ∙ ap (λ (z : List (List ℕ)). Some z) (sym (append_assoc xs ys b))

pub takes_on : (a b c : Option (List (List ℕ))) (xs ys : List (List ℕ)) → Takes a b xs → Takes b c ys → Takes a c (xs ++ ys)
takes_on a b c xs ys p q = record {
  whole = p.whole ++ q.whole;
  next = p.next ∙ joined b c p.whole q.whole q.next;
  cuts = ap (λ (z : List (List ℕ)). z ++ ys) p.cuts ∙ (ap (λ (z : List (List ℕ)). map cut p.whole ++ z) q.cuts ∙ sym (map-append cut p.whole q.whole));
}

same_mapped : (a : Option (List (List ℕ))) → a ≡ option_map (λ more. [] ++ more) a
same_mapped None = refl
same_mapped (Some a) = refl

pub takes_none : (a : Option (List (List ℕ))) → Takes a a []
takes_none a = record { whole = []; next = same_mapped a; cuts = refl }

pub took_on : (e : SessionEnd) (a b c : Option (List (List ℕ))) (xs ys : List (List ℕ)) → Takes a b xs → Took e b c ys → Took e a c (xs ++ ys)
took_on end.Quit a b c xs ys p q = takes_on a b c xs ys p q
took_on end.Save a b c xs ys p q = takes_on a b c xs ys p q
took_on end.Restart a b c xs ys p q = takes_on a b c xs ys p q
took_on end.Read a b c xs ys p q = (takes_on a b c xs ys p q.0, q.1)
took_on end.Lines a b c xs ys p q = takes_on a b c xs ys p q
took_on end.Turns a b c xs ys p q = takes_on a b c xs ys p q
took_on end.PageFault a b c xs ys p q = takes_on a b c xs ys p q
took_on end.WriteFault a b c xs ys p q = takes_on a b c xs ys p q
took_on end.LineFault a b c xs ys p q = (q.0, takes_on a b q.0 xs ys p q.1)

pub going_on : (xs ys : List Exchange) → GoesOn xs → GoesOn ys → GoesOn (xs ++ ys)
going_on xs ys p q = list_any-append asks_end xs ys ∙ (ap (λ (z : Bool). z || list_any asks_end ys) p ∙ q)

pub last_on : (e : SessionEnd) (xs ys : List Exchange) → GoesOn xs → IsAskedAtLast e ys → IsAskedAtLast e (xs ++ ys)
last_on e xs ys p q = record {
  front = xs ++ q.front;
  last = q.last;
  splits = ap (λ (z : List Exchange). xs ++ z) q.splits ∙ sym (append_assoc xs q.front (q.last ∷ []));
  going = going_on xs q.front p q.going;
  asks = q.asks;
}

-- how a session ends behind lines

cut_on : (e : Failure) (g : Terms) (h : Held) (xs ys : List Exchange) (o : Origin) (replies : List ℕ) (v : Scene) → IsCutShort e g (held_after g h xs) ys o (replies ++ transcript g h xs) v → IsCutShort e g h (xs ++ ys) o replies v
cut_on e g h xs ys o replies v c = record {
  front = xs ++ c.front;
  last = c.last;
  splits = ap (λ (z : List Exchange). xs ++ z) c.splits ∙ sym (append_assoc xs c.front (c.last ∷ []));
  acts = at_both (λ z told. Acts (Err e) g.limits.turns (act_of g z c.last) o z.session (told ++ prompt g.prompts) v) g h xs c.front replies c.acts;
}

held_on : (g : Terms) (h : Held) (xs ys : List Exchange) (more : List ℕ) (o : Origin) (replies : List ℕ) (v : Scene) → IsHeld g (held_after g h xs) ys more o (replies ++ transcript g h xs) v → IsHeld g h (xs ++ ys) more o replies v
held_on g h xs ys more o replies v p = at_both (λ z told. IsHere o z.session (told ++ more) v) g h xs ys replies p

unprompted_on : (g : Terms) (h : Held) (xs ys : List Exchange) (o : Origin) (replies : List ℕ) (v : Scene) → IsUnprompted g (held_after g h xs) ys o (replies ++ transcript g h xs) v → IsUnprompted g h (xs ++ ys) o replies v
unprompted_on g h xs ys o replies v p = at_both (λ z told. IsToldInPart o z.session told (prompt g.prompts) v) g h xs ys replies p

pub ends_on : (e : SessionEnd) (g : Terms) (h : Held) (xs ys : List Exchange) (o : Origin) (replies : List ℕ) (v : Scene) → Ends e g (held_after g h xs) ys o (replies ++ transcript g h xs) v → Ends e g h (xs ++ ys) o replies v
ends_on end.Quit g h xs ys o replies v p = held_on g h xs ys [] o replies v p
ends_on end.Save g h xs ys o replies v p = held_on g h xs ys [] o replies v p
ends_on end.Restart g h xs ys o replies v p = held_on g h xs ys [] o replies v p
ends_on end.Read g h xs ys o replies v p = held_on g h xs ys (prompt g.prompts) o replies v p
ends_on end.Lines g h xs ys o replies v p = held_on g h xs ys [] o replies v p
ends_on end.Turns g h xs ys o replies v p = cut_on failure.Turns g h xs ys o replies v p
ends_on end.PageFault g h xs ys o replies v p = cut_on failure.PageFault g h xs ys o replies v p
ends_on end.WriteFault g h xs ys o replies v p =
    elim p [ inl c ↦ inl (cut_on failure.WriteFault g h xs ys o replies v c) | inr u ↦ inr (unprompted_on g h xs ys o replies v u) ]
ends_on end.LineFault g h xs ys o replies v p = held_on g h xs ys (prompt g.prompts) o replies v p

-- which lines it may have, but for the end at the most lines

pub asked_on : (e : SessionEnd) (xs ys : List Exchange) → (e ≡ end.Lines → ⊥) → GoesOn xs → Asked e ys → Asked e (xs ++ ys)
asked_on end.Quit xs ys few p q = last_on end.Quit xs ys p q
asked_on end.Save xs ys few p q = last_on end.Save xs ys p q
asked_on end.Restart xs ys few p q = last_on end.Restart xs ys p q
asked_on end.Read xs ys few p q = going_on xs ys p q
asked_on end.Lines xs ys few p q = absurd (few refl)
asked_on end.Turns xs ys few p q = going_on xs ys p q
asked_on end.PageFault xs ys few p q = going_on xs ys p q
asked_on end.WriteFault xs ys few p q = going_on xs ys p q
asked_on end.LineFault xs ys few p q = going_on xs ys p q
