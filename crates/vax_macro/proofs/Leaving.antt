-- Expansions that are left before their ends, and the conditions and calls in them.
use Rattle.std.proofs.Common.{◌≡◌, ℕ, zero, suc, ◌<◌, true, false, List, [], ◌∷◌, ◌++◌, length, map, drop, Vec, refl, sym, ap, ◌∙◌, append_assoc, arith}
use Rattle.std.proofs.lemmas.List.{length-map}
use Rattle.std.proofs.lemmas.Bool.Decides.{nat_tests}
use Rattle.std.specs.List.{flat_map}
use Rattle.std.specs.Prelude.{nat_lt}
use Rattle.vax_macro.specs.Directives.{copies, expansion, lines_outside}
use Rattle.vax_macro.specs.LineViews.{copy_in, frame_lines, whole_copy}
use Rattle.vax_macro.specs.Lines.{SourceLine, numbered}
use Rattle.vax_macro.specs.TemplateViews.{line_view, texts_view}
use Rattle.vax_macro.specs.Templates.{BodyLine}
use Rattle.vax_macro.specs.declared.line_types.Frame.{Frame}
use Rattle.std.specs.Global.{Global}

-- lines that stand in so many expansions or more
abbrev pub AreWithin : ℕ → List SourceLine → Type 0
AreWithin depth [] = Unit {0}
AreWithin depth (l ∷ lines) = (nat_lt l.depth depth ≡ false) × AreWithin depth lines

pub within_left : (depth : ℕ) (xs ys : List SourceLine) → AreWithin depth xs → lines_outside depth (xs ++ ys) ≡ lines_outside depth ys
within_left depth [] ys h = refl
within_left depth (x ∷ xs) ys (first, rest) = rw first (within_left depth xs ys rest)

within-append : (depth : ℕ) (xs ys : List SourceLine) → AreWithin depth xs → AreWithin depth ys → AreWithin depth (xs ++ ys)
within-append depth [] ys h k = k
within-append depth (x ∷ xs) ys (first, rest) k = (first, within-append depth xs ys rest k)

within-drop : (depth n : ℕ) (xs : List SourceLine) → AreWithin depth xs → AreWithin depth (drop n xs)
within-drop depth zero xs h = h
within-drop depth (suc n) [] h = tt
within-drop depth (suc n) (x ∷ xs) (first, rest) = within-drop depth n xs rest

within-expansion : (d : ℕ) (lines : List BodyLine) (number depth : ℕ) (texts : List (List ℕ)) → nat_lt depth d ≡ false → AreWithin d (expansion lines number depth texts)
within-expansion d [] number depth texts h = tt
within-expansion d (l ∷ lines) number depth texts h = (h, within-expansion d lines number depth texts h)

within-copies : (d n : ℕ) (xs : List SourceLine) → AreWithin d xs → AreWithin d (copies n xs)
within-copies d zero xs h = tt
within-copies d (suc n) xs h = within-append d xs (copies n xs) h (within-copies d n xs h)

within-others : (d : ℕ) (f : Frame) (others : List (Vec (Vec ℕ Global) Global)) → nat_lt f.depth d ≡ false → AreWithin d (flat_map (λ texts. copy_in f (texts_view texts)) others)
within-others d f [] h = tt
within-others d f (texts ∷ others) h =
    within-append d (copy_in f (texts_view texts)) (flat_map (λ texts. copy_in f (texts_view texts)) others)
    (within-expansion d (map line_view f.template.value.lines.items) f.number f.depth (texts_view texts) h) (within-others d f others h)

-- all lines of an expansion
pub within_frame : (d : ℕ) (f : Frame) → nat_lt f.depth d ≡ false → AreWithin d (frame_lines f)
unfolding frame_lines
within_frame d f h =
    let whole : AreWithin d (whole_copy f) = within-expansion d (map line_view f.template.value.lines.items) f.number f.depth (texts_view f.texts) h in
    within-append d (drop f.at (whole_copy f)) _ (within-drop d f.at (whole_copy f) whole)
    (within-append d (copies f.copies (whole_copy f)) _ (within-copies d f.copies (whole_copy f) whole) (within-others d f f.others.items h))

-- lines of the source stand in none
pub source_outside : (d at : ℕ) (texts : List (List ℕ)) → 0 < d → lines_outside d (numbered at texts) ≡ numbered at texts
source_outside d at [] h = refl
source_outside d at (t ∷ texts) h = let less : nat_lt 0 d ≡ true = grind (arith, nat_tests) in rw less refl

-- the innermost expansion is left
pub left_out : (d : ℕ) (before : List Frame) (source : List SourceLine) (f : Frame) (rest : List Frame) → before ≡ f ∷ rest → nat_lt f.depth d ≡ false
    → lines_outside d (flat_map frame_lines before ++ source) ≡ lines_outside d (flat_map frame_lines rest ++ source)
left_out d before source f rest e h =
    rw e (ap (lines_outside d) (append_assoc (frame_lines f) (flat_map frame_lines rest) source) ∙ within_left d (frame_lines f) (flat_map frame_lines rest ++ source) (within_frame d f h))

-- lines of an expansion that isn't left stay
first_stays : (d at : ℕ) (lines : List BodyLine) (number depth : ℕ) (texts : List (List ℕ)) (ys : List SourceLine) → at < length lines → nat_lt depth d ≡ true
    → lines_outside d (drop at (expansion lines number depth texts) ++ ys) ≡ drop at (expansion lines number depth texts) ++ ys
first_stays d at [] number depth texts ys h e = absurd (omega (arith, h))
first_stays d zero (l ∷ lines) number depth texts ys h e = rw e refl
first_stays d (suc at) (l ∷ lines) number depth texts ys h e = first_stays d at lines number depth texts ys (omega (arith, h)) e

pub stays : (d : ℕ) (f : Frame) (ys : List SourceLine) → f.at < length f.template.value.lines.items → nat_lt f.depth d ≡ true → lines_outside d (frame_lines f ++ ys) ≡ frame_lines f ++ ys
unfolding frame_lines
stays d f ys h e =
    let others : List SourceLine = copies f.copies (whole_copy f) ++ flat_map (λ texts. copy_in f (texts_view texts)) f.others.items in
    let count : f.at < length (map line_view f.template.value.lines.items) = rw (length-map f.template.value.lines.items line_view) h in
    ap (lines_outside d) (append_assoc (drop f.at (whole_copy f)) others ys)
    ∙ first_stays d f.at (map line_view f.template.value.lines.items) f.number f.depth (texts_view f.texts) (others ++ ys) count e
    ∙ sym (append_assoc (drop f.at (whole_copy f)) others ys)

-- outside of all expansions there is nothing to leave
pub nothing_open : (d at : ℕ) (texts : List (List ℕ)) (frames : List Frame) → 0 < d → frames ≡ [] → lines_outside d (flat_map frame_lines frames ++ numbered at texts) ≡ flat_map frame_lines frames ++ numbered at texts
nothing_open d at texts frames h e = rw e (source_outside d at texts h)
