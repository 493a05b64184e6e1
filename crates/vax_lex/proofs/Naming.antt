-- One step through the names of a text.
use Rattle.std.proofs.Common.{◌≡◌, ◌<◌, ◌≤◌, ℕ, zero, suc, ◌+◌, ◌-◌, List, [], ◌∷◌, ◌++◌, length, take, drop, refl, ap, arith, ◌∙◌, sym}
use Rattle.std.proofs.lemmas.List.{take_rest, drop-drop, length-drop, drop_all, append-nil}
use Rattle.vax_lex.specs.Statements.{Context}
use Rattle.vax_lex.specs.Words.{Word, word, with_name, names_from, names_of, text_start}
use Rattle.vax_lex.specs.declared.token.Span.{Span}

-- the bytes of a word are passed over
names_pass : (c : Context) (at n : ℕ) (bytes : List ℕ) → names_from c at n bytes ≡ names_from c (at + n) zero (drop n bytes)
unfolding names_from
names_pass c at zero [] = refl
names_pass c at zero (b ∷ bytes) = ap (λ k. names_from c k zero (b ∷ bytes)) (omega arith)
names_pass c at (suc n) [] = refl
names_pass c at (suc n) (b ∷ bytes) = names_pass c (at + 1) n bytes ∙ ap (λ k. names_from c k zero (drop n bytes)) (omega arith)

behind_word : (c : Context) (at b n : ℕ) (bytes : List ℕ) → 0 < n → names_from c (at + 1) (n - 1) bytes ≡ names_from c (at + n) zero (drop n (b ∷ bytes))
behind_word c at b zero bytes some = absurd (omega (arith, some))
behind_word c at b (suc n) bytes some =
    let same : suc n - 1 ≡ n = omega arith in
    let there : at + 1 + n ≡ at + suc n = omega arith in
    ap (λ k. names_from c (at + 1) k bytes) same ∙ names_pass c (at + 1) n bytes ∙ ap (λ k. names_from c k zero (drop n bytes)) there

-- one word
pub word_step : (c : Context) (at : ℕ) (bytes : List ℕ) (w : Word) → 0 < length bytes → w ≡ word c bytes → 0 < w.length
    → names_from c at zero bytes ≡ with_name w at (names_from w.context (at + w.length) zero (drop w.length bytes))
unfolding names_from
word_step c at [] w h e some = absurd (omega (arith, h))
word_step c at (b ∷ bytes) w h e some =
    ap (λ (v : Word). with_name v at (names_from v.context (at + 1) (v.length - 1) bytes)) (sym e)
    ∙ ap (λ (spans : List Span). with_name w at spans) (behind_word w.context at b w.length bytes some)

-- a word at a place of a text, behind the names so far
pub word_at_place : (front items : List Span) (c : Context) (text : List ℕ) (at : ℕ) (w : Word) (all : List Span) → at < length text → w ≡ word c (take (length text - at) (drop at text)) → 0 < w.length
    → ((spans : List Span) → items ++ spans ≡ front ++ with_name w at spans)
    → front ++ names_from c at zero (drop at text) ≡ all
    → items ++ names_from w.context (at + w.length) zero (drop (at + w.length) text) ≡ all
word_at_place front items c text at w all h e some added so_far =
    let here : w ≡ word c (drop at text) = e ∙ ap (word c) (take_rest text at) in
    let step = word_step c at (drop at text) w (omega (arith, length-drop at text)) here some in
    let further : drop w.length (drop at text) ≡ drop (at + w.length) text = drop-drop w.length at text in
    ap (λ (bytes : List ℕ). items ++ names_from w.context (at + w.length) zero bytes) (sym further)
    ∙ added (names_from w.context (at + w.length) zero (drop w.length (drop at text)))
    ∙ ap (λ (spans : List Span). front ++ spans) (sym step) ∙ so_far

pub names_start : (items : List Span) (c : Context) (text : List ℕ) → items ≡ [] → c ≡ text_start → items ++ names_from c 0 zero text ≡ names_of text
unfolding names_of
names_start items c text e i = rw e (rw i refl)

pub names_end : (items : List Span) (c : Context) (text : List ℕ) (at : ℕ) (all : List Span) → length text ≤ at → items ++ names_from c at zero (drop at text) ≡ all → items ≡ all
unfolding names_from
names_end items c text at all h so_far =
    let none : items ++ names_from c at zero (drop at text) ≡ items = ap (λ (bytes : List ℕ). items ++ names_from c at zero bytes) (drop_all at text h) ∙ append-nil items in
    sym none ∙ so_far
