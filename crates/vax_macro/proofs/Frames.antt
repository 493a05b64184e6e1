-- How the lines to come go on by one.
use Rattle.std.proofs.Common.{◌≡◌, ℕ, zero, suc, ◌+◌, ◌-◌, ◌<◌, ◌≤◌, List, [], ◌∷◌, ◌++◌, length, map, drop, get_or, append_assoc, append-nil, Vec, refl, ap, ◌∙◌, sym, arith}
use Rattle.std.proofs.lemmas.List.{drop_more, drop_all, length-map}
use Rattle.std.specs.List.{flat_map}
use Rattle.vax_macro.specs.Lines.{SourceLine}
use Rattle.vax_macro.specs.Templates.{rewritten}
use Rattle.vax_macro.specs.Directives.{copies}
use Rattle.vax_macro.specs.TemplateViews.{line_view, texts_view}
use Rattle.vax_macro.specs.LineViews.{copy_in, whole_copy, frame_lines}
use Rattle.vax_macro.specs.declared.line_types.Frame.{Frame}
use Rattle.vax_macro.specs.declared.template_types.BodyLine as code
use Rattle.std.specs.Global.{Global}

drop_map : {X Y : Type 0} (f : X → Y) (i : ℕ) (xs : List X) → drop i (map f xs) ≡ map f (drop i xs)
drop_map f zero xs = refl
drop_map f (suc i) [] = refl
drop_map f (suc i) (x ∷ xs) = drop_map f i xs

pub copies_again : (n : ℕ) (lines : List SourceLine) → 0 < n → copies n lines ≡ lines ++ copies (n - 1) lines
copies_again zero lines h = absurd (omega arith)
copies_again (suc n) lines h = let e : suc n - 1 ≡ n = omega arith in rw e refl

no_copies : (n : ℕ) → copies n [] ≡ []
no_copies zero = refl
no_copies (suc n) = no_copies n

whole_length : (f : Frame) → length (whole_copy f) ≡ length f.template.value.lines.items
whole_length f = simp length-map

empty_list : {X : Type 0} (xs : List X) → length xs ≡ 0 → xs ≡ []
empty_list [] h = refl
empty_list (x ∷ xs) h = absurd (omega (arith, h))

-- at the end of a copy the next one begins
pub rewound : (f : Frame) → length f.template.value.lines.items ≤ f.at → 0 < f.copies → frame_lines (record f { at = 0; copies = f.copies - 1 }) ≡ frame_lines f
unfolding frame_lines
rewound f h more =
    let behind : drop f.at (whole_copy f) ≡ [] = drop_all f.at (whole_copy f) (rw (whole_length f) h) in
    sym (rw (behind, copies_again f.copies (whole_copy f) more) (append_assoc (whole_copy f) _ _))

-- behind the last copy there are those in other texts
pub other_texts : (f g : Frame) (texts : Vec (Vec ℕ Global) Global) → length f.template.value.lines.items ≤ f.at → f.copies ≡ 0
    → f.others.items ≡ texts ∷ g.others.items → g.template ≡ f.template → g.number ≡ f.number → g.depth ≡ f.depth → g.at ≡ 0 → g.texts ≡ texts → g.copies ≡ f.copies
    → frame_lines g ≡ frame_lines f
unfolding frame_lines
other_texts f g texts h none e t n d at same copies =
    let behind : drop f.at (whole_copy f) ≡ [] = drop_all f.at (whole_copy f) (rw (whole_length f) h) in
    rw (behind, t, n, d, at, same, copies, none, e) refl

-- behind the last of these nothing is left
pub spent : (f : Frame) → length f.template.value.lines.items ≤ f.at → f.copies ≡ 0 → f.others.items ≡ [] → frame_lines f ≡ []
unfolding frame_lines
spent f h none e =
    let behind : drop f.at (whole_copy f) ≡ [] = drop_all f.at (whole_copy f) (rw (whole_length f) h) in
    rw (behind, none, e) refl

copies_of_none : (f : Frame) (texts : Vec (Vec ℕ Global) Global) → length f.template.value.lines.items ≡ 0 → copy_in f (texts_view texts) ≡ []
copies_of_none f texts none = rw (empty_list f.template.value.lines.items none) refl

others_of_none : (f : Frame) (others : List (Vec (Vec ℕ Global) Global)) → length f.template.value.lines.items ≡ 0 → flat_map (λ texts. copy_in f (texts_view texts)) others ≡ []
others_of_none f [] none = refl
others_of_none f (texts ∷ others) none =
    ap (λ (lines : List SourceLine). lines ++ flat_map (λ texts. copy_in f (texts_view texts)) others) (copies_of_none f texts none)
    ∙ others_of_none f others none

-- nor of no lines
pub bare : (f : Frame) → length f.template.value.lines.items ≡ 0 → frame_lines f ≡ []
unfolding frame_lines
bare f none =
    let whole : whole_copy f ≡ [] = copies_of_none f f.texts none in
    let behind : drop f.at (whole_copy f) ≡ [] = drop_all f.at (whole_copy f) (rw whole (omega arith)) in
    rw (behind, whole, no_copies f.copies, others_of_none f f.others.items none) refl

-- the line at the place, and the others
pub stepped : (f : Frame) (line : code.BodyLine) → f.at < length f.template.value.lines.items → line ≡ get_or f.template.value.lines.items f.at line →
    frame_lines f ≡ record { number = f.number; depth = f.depth; text = rewritten (texts_view f.texts) (line_view line) } ∷ frame_lines (record f { at = f.at + 1 })
unfolding frame_lines
stepped f line h e =
    let whole : drop f.at (whole_copy f) ≡ record { number = f.number; depth = f.depth; text = rewritten (texts_view f.texts) (line_view line) } ∷ drop (f.at + 1) (whole_copy f)
    = simp (drop_map, drop_more f.template.value.lines.items f.at line h, sym e) refl in
    rw whole refl

-- the innermost expansion gives its next line
pub gives : (before : List Frame) (source : List SourceLine) (f g : Frame) (rest : List Frame) (line : SourceLine) → before ≡ f ∷ rest → frame_lines f ≡ line ∷ frame_lines g →
    flat_map frame_lines before ++ source ≡ line ∷ (frame_lines g ++ (flat_map frame_lines rest ++ source))
gives before source f g rest line e n = rw (e, n, append_assoc) refl

-- the innermost expansion is at its end
pub closes : (before : List Frame) (source : List SourceLine) (f : Frame) (rest : List Frame) → before ≡ f ∷ rest → frame_lines f ≡ [] →
    flat_map frame_lines before ++ source ≡ flat_map frame_lines rest ++ source
closes before source f rest e n = rw (e, n) refl

-- the lines of a repeat
pub repeated : (f : Frame) (n : ℕ) → f.at ≡ 0 → 0 < n → f.copies ≡ n - 1 → f.others.items ≡ [] → frame_lines f ≡ copies n (whole_copy f)
unfolding frame_lines
repeated f n start h e none = rw (start, e, none, copies_again n (whole_copy f) h, append-nil) refl

-- the lines of a call
pub opens : (f : Frame) → f.at ≡ 0 → f.copies ≡ 0 → f.others.items ≡ [] → frame_lines f ≡ whole_copy f
unfolding frame_lines
opens f start once none = rw (start, once, none, append-nil) refl

-- the lines of a repeat with other texts for each copy
pub opens_each : (f : Frame) → f.at ≡ 0 → f.copies ≡ 0 → frame_lines f ≡ flat_map (λ texts. copy_in f (texts_view texts)) (f.texts ∷ f.others.items)
unfolding frame_lines
opens_each f start once = rw (start, once) refl

-- a frame before the others
pub opened : (before after : List Frame) (source : List SourceLine) (f : Frame) → after ≡ f ∷ before → flat_map frame_lines after ++ source ≡ frame_lines f ++ (flat_map frame_lines before ++ source)
opened before after source f e = rw e (append_assoc (frame_lines f) (flat_map frame_lines before) source)
