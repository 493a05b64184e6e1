-- Steps through the lines, the formal arguments and the texts of templates.
use Rattle.std.proofs.Common.{◌≡◌, ◌<◌, ◌≤◌, ℕ, suc, ◌+◌, ◌-◌, List, [], ◌∷◌, ◌++◌, length, map, set, Option, Some, None, Vec, append_assoc, refl, ap, sym, ◌∙◌, arith}
use Rattle.std.specs.Global.{Global}
use Rattle.std.proofs.lemmas.List.{map-set, set_past, length-map, map_push, append-nil}
use Rattle.vax_macro.specs.declared.template_types.Slot.{Slot}
use Rattle.std.specs.Prelude.{replicate}
use Rattle.vax_macro.specs.Arguments.{Argument}
use Rattle.vax_macro.specs.ArgumentViews.{owned_view}
use Rattle.vax_macro.specs.Names.{with_entry}
use Rattle.vax_macro.specs.TemplateViews.{by_name, formal_view, formals_view, line_view}
use Rattle.vax_macro.specs.declared.template_types.Formal as code_formal
use Rattle.vax_macro.specs.declared.template_types.Formals as code_formals
use Rattle.vax_macro.specs.declared.template_types.BodyLine as code_line
use Rattle.vax_macro.specs.Templates.{Formal, Formals, with_formal, Filled, filled, filled_with, formal_of, added, then_formals, formals_from, with_slot, with_text, Giving, given_to, then_given, given_from, keyword_index}

pub with_slot_more : (o : Option Slot) (more : List Slot) → with_slot o [] ++ more ≡ with_slot o more
with_slot_more None more = refl
with_slot_more (Some s) more = refl

pub one_fewer : {X : Type 0} (xs : List X) (n i : ℕ) (x : X) → i < n → (xs ++ x ∷ []) ++ replicate (n - (i + 1)) x ≡ xs ++ replicate (n - i) x
one_fewer xs n i x h =
    let e : n - i ≡ suc (n - (i + 1)) = omega arith in
    append_assoc xs (x ∷ []) (replicate (n - (i + 1)) x) ∙ ap (λ (k : ℕ). xs ++ replicate k x) (sym e)

-- one text at a place, where there is such a place
pub setting : {X Y : Type 0} (f : X → Y) (xs : List X) (i : ℕ) (x : X) → map f (set xs i x) ≡ set (map f xs) i (f x)
setting f xs i x = map-set f xs i x

pub setting_past : {X Y : Type 0} (f : X → Y) (xs : List X) (i : ℕ) (y : Y) → length xs ≤ i → set (map f xs) i y ≡ map f xs
setting_past f xs i y h = set_past (map f xs) i y (rw (length-map xs f) h)

abbrev pub after_texts : List (List ℕ) → Filled → Filled
after_texts texts f = record f { texts = texts ++ f.texts }

pub one_text : (texts : List (List ℕ)) (text : List ℕ) (f : Filled) → after_texts texts (with_text text f) ≡ after_texts (texts ++ text ∷ []) f
one_text texts text f = ap (λ (ts : List (List ℕ)). record f { texts = ts }) (sym (append_assoc texts (text ∷ []) f.texts))

pub nothing_left : {X : Type 0} (xs : List X) → length xs ≡ 0 → xs ≡ []
nothing_left [] h = refl
nothing_left (x ∷ xs) h = absurd (omega (arith, h))

-- one more formal argument of a macro, or one that there can't be
pub one_formal : (fs more : Formals) (a : Argument) (arguments rest : List Argument) (all : Option Formals) → arguments ≡ a ∷ rest → added fs (formal_of a) ≡ Some more
    → formals_from fs arguments ≡ all → formals_from more rest ≡ all
unfolding formals_from
one_formal fs more a arguments rest all is e same =
    sym (ap (λ (o : Option Formals). then_formals o (λ fs. formals_from fs rest)) e) ∙ ap (formals_from fs) (sym is) ∙ same

pub no_formal : (fs : Formals) (a : Argument) (arguments rest : List Argument) (all : Option Formals) → arguments ≡ a ∷ rest → added fs (formal_of a) ≡ None
    → formals_from fs arguments ≡ all → None ≡ all
unfolding formals_from
no_formal fs a arguments rest all is e same =
    sym (ap (λ (o : Option Formals). then_formals o (λ fs. formals_from fs rest)) e) ∙ ap (formals_from fs) (sym is) ∙ same

pub last_formal : (fs : Formals) (arguments : List Argument) (all : Option Formals) → arguments ≡ [] → formals_from fs arguments ≡ all → Some fs ≡ all
unfolding formals_from
last_formal fs arguments all is same = ap (formals_from fs) (sym is) ∙ same

-- one more argument of a call, or one for which there is no place
pub one_given : (fs : Formals) (a : Argument) (arguments rest : List Argument) (g h : Giving) (all : Option Giving) → arguments ≡ a ∷ rest → given_to (keyword_index fs a.keyword) a.text g ≡ Some h
    → given_from fs arguments g ≡ all → given_from fs rest h ≡ all
unfolding given_from
one_given fs a arguments rest g h all is e same =
    sym (ap (λ (o : Option Giving). then_given o (λ more. given_from fs rest more)) e) ∙ ap (λ (l : List Argument). given_from fs l g) (sym is) ∙ same

pub not_given : (fs : Formals) (a : Argument) (arguments rest : List Argument) (g : Giving) (all : Option Giving) → arguments ≡ a ∷ rest → given_to (keyword_index fs a.keyword) a.text g ≡ None
    → given_from fs arguments g ≡ all → None ≡ all
unfolding given_from
not_given fs a arguments rest g all is e same =
    sym (ap (λ (o : Option Giving). then_given o (λ more. given_from fs rest more)) e) ∙ ap (λ (l : List Argument). given_from fs l g) (sym is) ∙ same

pub last_given : (fs : Formals) (arguments : List Argument) (g : Giving) (all : Option Giving) → arguments ≡ [] → given_from fs arguments g ≡ all → Some g ≡ all
unfolding given_from
last_given fs arguments g all is same = ap (λ (l : List Argument). given_from fs l g) (sym is) ∙ same

-- one more text for a formal argument
pub one_filled : (front : List (List ℕ)) (text : List ℕ) (made after : ℕ) (f : Formal) (formals more : List Formal) (t : Option (List ℕ)) (given rest : List (Option (List ℕ))) (all : Filled)
    → formals ≡ f ∷ more → given ≡ t ∷ rest → ((next : ℕ → Filled) → filled_with made f t next ≡ with_text text (next after))
    → after_texts front (filled made formals given) ≡ all → after_texts (front ++ text ∷ []) (filled after more rest) ≡ all
unfolding filled
one_filled front text made after f formals more t given rest all is this e same =
    sym (one_text front text (filled after more rest))
    ∙ ap (λ (x : Filled). after_texts front x) (sym (e (λ m. filled m more rest)))
    ∙ ap (λ (l : List (Option (List ℕ))). after_texts front (filled made (f ∷ more) l)) (sym this)
    ∙ ap (λ (l : List Formal). after_texts front (filled made l given)) (sym is)
    ∙ same

-- one more item of a list that is mapped
pub one_mapped : {X Y : Type 0} (f : X → Y) (front next : List Y) (items rest : List X) (x : X) (all : List Y) → items ≡ x ∷ rest → next ≡ front ++ f x ∷ []
    → front ++ map f items ≡ all → next ++ map f rest ≡ all
one_mapped f front next items rest x all is e same =
    ap (λ l. l ++ map f rest) e ∙ append_assoc front (f x ∷ []) (map f rest) ∙ ap (λ l. front ++ map f l) (sym is) ∙ same

-- one more formal argument
pub one_more : (fs next : code_formals.Formals) (f : code_formal.Formal) (name : List ℕ) → next.list.items ≡ fs.list.items ++ f ∷ [] → name ≡ f.name.items
    → by_name next.index ≡ with_entry name (Some (length fs.list.items)) (by_name fs.index) → formals_view next ≡ with_formal (formals_view fs) (formal_view f)
one_more fs next f name e is i =
    let list : map formal_view next.list.items ≡ map formal_view fs.list.items ++ formal_view f ∷ [] = ap (map formal_view) e ∙ map_push formal_view fs.list.items f in
    let count : length fs.list.items ≡ length (map formal_view fs.list.items) = sym (length-map fs.list.items formal_view) in
    let index : by_name next.index ≡ with_entry f.name.items (Some (length (map formal_view fs.list.items))) (by_name fs.index) =
    i ∙ ap (λ (n : List ℕ). with_entry n (Some (length fs.list.items)) (by_name fs.index)) is ∙ ap (λ (k : ℕ). with_entry f.name.items (Some k) (by_name fs.index)) count in
    ap (λ (l : List Formal). let r : Formals = record { list = l; index = by_name next.index } in r) list
    ∙ ap (λ (x : List ℕ → Option ℕ). let r : Formals = record { list = map formal_view fs.list.items ++ formal_view f ∷ []; index = x } in r) index

-- one more place without a text
pub one_nothing : (items next : List (Option (Vec ℕ Global))) (n i : ℕ) (all : List (Option (List ℕ))) → next ≡ items ++ None ∷ [] → i < n
    → map owned_view items ++ replicate (n - i) None ≡ all → map owned_view next ++ replicate (n - (i + 1)) None ≡ all
one_nothing items next n i all e h same =
    ap (λ (l : List (Option (Vec ℕ Global))). map owned_view l ++ replicate (n - (i + 1)) None) e
    ∙ ap (λ (l : List (Option (List ℕ))). l ++ replicate (n - (i + 1)) None) (map_push owned_view items None)
    ∙ one_fewer (map owned_view items) n i None h ∙ same

-- at the end of a list
pub line_added : (lines next : List code_line.BodyLine) (line : code_line.BodyLine) → next ≡ lines ++ line ∷ [] → map line_view next ≡ map line_view lines ++ line_view line ∷ []
line_added lines next line e = ap (map line_view) e ∙ map_push line_view lines line

pub text_added : (texts next : List (Vec ℕ Global)) (text : Vec ℕ Global) → next ≡ texts ++ text ∷ [] → map (λ (t : Vec ℕ Global). t.items) next ≡ map (λ (t : Vec ℕ Global). t.items) texts ++ text.items ∷ []
text_added texts next text e = ap (map (λ (t : Vec ℕ Global). t.items)) e ∙ map_push (λ (t : Vec ℕ Global). t.items) texts text

-- texts for all formal arguments, or for as many as there are
pub no_formals_left : (front : List (List ℕ)) (made : ℕ) (formals : List Formal) (given : List (Option (List ℕ))) (all : Filled) → formals ≡ [] → after_texts front (filled made formals given) ≡ all
    → all ≡ record { texts = front; made = made }
unfolding filled
no_formals_left front made formals given all e same =
    sym same ∙ ap (λ (l : List Formal). after_texts front (filled made l given)) e ∙ ap (λ (ts : List (List ℕ)). let r : Filled = record { texts = ts; made = made } in r) (append-nil front)

nothing_filled : (made : ℕ) (formals : List Formal) → filled made formals [] ≡ record { texts = []; made = made }
unfolding filled
nothing_filled made [] = refl
nothing_filled made (f ∷ formals) = refl

pub no_texts_left : (front : List (List ℕ)) (made : ℕ) (formals : List Formal) (given : List (Option (List ℕ))) (all : Filled) → given ≡ [] → after_texts front (filled made formals given) ≡ all
    → all ≡ record { texts = front; made = made }
no_texts_left front made formals given all e same =
    sym same ∙ ap (λ (l : List (Option (List ℕ))). after_texts front (filled made formals l)) e ∙ ap (after_texts front) (nothing_filled made formals) ∙ ap (λ (ts : List (List ℕ)). let r : Filled = record { texts = ts; made = made } in r) (append-nil front)
