-- Lines of vectors, one behind another.
use Rattle.std.proofs.Common.{◌≡◌, ◌<◌, ◌≤◌, ℕ, zero, suc, ◌+◌, ◌-◌, ◌*◌, Bool, true, false, Option, Some, None, if◌then◌else◌, List, [], ◌∷◌, ◌++◌, length, get_or, take, drop, refl, sym, ap, subst, ◌∙◌, append_assoc, append-nil, add-one, arith}
use Rattle.std.specs.Prelude.{All, is_some}
use Rattle.std.specs.List.{flat_map}
use Rattle.std.specs.Option.{option_map}
use Rattle.std.proofs.Math.Seq.{drop-cons}
use Rattle.std.proofs.lemmas.List.{drop_all, length-drop, map-append, take_all, take_more}
use Rattle.std.proofs.lemmas.List.Concat.{flat_map-append}
use Rattle.std.proofs.lemmas.List.Elements.{All-append, All-cons, All-nil}
use Rattle.vax_outside.specs.Channels.{Channels, Grew, GrewByPrefix, only}
use Rattle.vax_outside.specs.declared.traits.Chan.TheVariants.{Out}
use Rattle.vax_outside.proofs.Growth.{grew_nothing, only-nil, out_grew, out_last}
use Rattle.vax_isa.specs.Instructions.{Instruction}
use Rattle.vax_isa.specs.Rows.{plain, row_of, with_opcode}
use Rattle.vax_isa.specs.declared.Row.{Row}
use Rattle.vax_vectors.specs.Text.{json_text}
use Rattle.vax_vector_runs.specs.Exact.{IsExact}
use Rattle.vax_vectors.specs.declared.vector.Vector.{Vector}
use Rattle.vax_vector_lines.specs.Lines.{AreGroups, AreLinesWithout, AreOfAll, AreVectors, IsGroup, IsMore, IsOf, IsWithout, Wrote, WrotePrefix, choices, instruction_at, pairs}

-- lines alone
pub no_vectors : AreVectors []
no_vectors = record { vectors = []; told = All-nil IsExact; lines = refl }

one_vector : (v : Vector) → IsExact v → AreVectors (json_text v)
one_vector v is = record { vectors = v ∷ []; told = All-cons IsExact v [] is (All-nil IsExact); lines = sym (append-nil (json_text v)) }

both : (a b : List ℕ) → AreVectors a → AreVectors b → AreVectors (a ++ b)
both a b x y = record {
  vectors = x.vectors ++ y.vectors;
  told = All-append IsExact x.vectors y.vectors x.told y.told;
  lines = ap (λ t. t ++ b) x.lines ∙ (ap (λ t. flat_map json_text x.vectors ++ t) y.lines ∙ sym (flat_map-append json_text x.vectors y.vectors));
}

joined : (text a b : List ℕ) → text ≡ a ++ b → AreVectors a → AreVectors b → AreVectors text
joined text a b is x y = subst AreVectors (sym is) (both a b x y)

lines_true : (whole : Vector) (absent : List (List ℕ)) (text : List ℕ) → AreLinesWithout whole absent text → AreVectors text
unfolding AreLinesWithout
lines_true whole [] text none = subst AreVectors (sym none) no_vectors
lines_true whole (c ∷ cs) text x =
    joined text x.first x.rest x.text_is (subst AreVectors (sym x.is_first.line) (one_vector x.is_first.vector x.is_first.told)) (lines_true whole cs x.rest x.is_rest)

pub group_true : (opcode mode : ℕ) (absent : Bool) (text : List ℕ) → IsGroup opcode mode absent text → AreVectors text
group_true opcode mode absent text x = joined text (json_text x.vector) x.others x.lines (one_vector x.vector x.told) (lines_true x.vector _ x.others x.without)

pub groups_true : (opcode mode : ℕ) (absent : Bool) (count : ℕ) (text : List ℕ) → AreGroups opcode mode absent count text → AreVectors text
unfolding AreGroups
groups_true opcode mode absent zero text none = subst AreVectors (sym none) no_vectors
groups_true opcode mode absent (suc count) text x =
    joined text x.first x.rest x.text_is (groups_true opcode mode absent count x.first x.is_first) (group_true opcode mode absent x.rest x.is_rest)

pub all_true : (mode : ℕ) (absent : Bool) (count code : ℕ) (text : List ℕ) → AreOfAll mode absent count code text → AreVectors text
unfolding AreOfAll
all_true mode absent count zero text none = subst AreVectors (sym none) no_vectors
all_true mode absent count (suc code) text x =
    joined text x.first x.rest x.text_is (all_true mode absent count code x.first x.is_first) (groups_true code mode absent (instruction_at code * count) x.rest x.is_rest)

-- lines with pages absent
pub one_line : (old new : List ℕ) (whole v : Vector) (absent : List ℕ) → IsExact v → IsWithout whole absent v → new ≡ old ++ json_text v → IsMore (AreLinesWithout whole (absent ∷ [])) old new
unfolding AreLinesWithout
one_line old new whole v absent is without e = record {
  more = json_text v;
  is = e;
  such = record { first = json_text v; rest = []; is_first = record { vector = v; told = is; without = without; line = refl }; is_rest = refl; text_is = sym (append-nil (json_text v)) };
}

lines_append : (whole : Vector) (cs ds : List (List ℕ)) (a b : List ℕ) → AreLinesWithout whole cs a → AreLinesWithout whole ds b → AreLinesWithout whole (cs ++ ds) (a ++ b)
unfolding AreLinesWithout
lines_append whole [] ds a b none y = subst (λ (t : List ℕ). AreLinesWithout whole ds (t ++ b)) (sym none) y
lines_append whole (c ∷ cs) ds a b x y = record {
  first = x.first;
  rest = x.rest ++ b;
  is_first = x.is_first;
  is_rest = lines_append whole cs ds x.rest b x.is_rest y;
  text_is = ap (λ (t : List ℕ). t ++ b) x.text_is ∙ append_assoc x.first x.rest b;
}

pub no_lines : (whole : Vector) (old : List ℕ) → IsMore (AreLinesWithout whole []) old old
unfolding AreLinesWithout
no_lines whole old = record { more = []; is = sym (append-nil old); such = refl }

pub more_then : (First Rest Whole : List ℕ → Type 0) (a b c : List ℕ) → ((x y : List ℕ) → First x → Rest y → Whole (x ++ y)) → IsMore First a b → IsMore Rest b c → IsMore Whole a c
more_then First Rest Whole a b c so x y = record {
  more = x.more ++ y.more;
  is = y.is ∙ (ap (λ t. t ++ y.more) x.is ∙ append_assoc a x.more y.more);
  such = so x.more y.more x.such y.such;
}

pairs_next : (first : ℕ) (others : List ℕ) (k d : ℕ) → k < length others → pairs first (take (k + 1) others) ≡ pairs first (take k others) ++ (first ∷ get_or others k d ∷ []) ∷ []
pairs_next first others k d below =
    let f : ℕ → List ℕ = λ other. first ∷ other ∷ [] in
    ap (λ (xs : List ℕ). pairs first xs) (take_more others k d below) ∙ ap (λ (xs : List (List ℕ)). (first ∷ []) ∷ xs) (map-append f (take k others) (get_or others k d ∷ []))

-- one pair more
pub more_pairs : (whole : Vector) (first : ℕ) (others : List ℕ) (k d : ℕ) (a b c : List ℕ) → k < length others
    → IsMore (AreLinesWithout whole (pairs first (take k others))) a b → IsMore (AreLinesWithout whole ((first ∷ get_or others k d ∷ []) ∷ [])) b c
    → IsMore (AreLinesWithout whole (pairs first (take (k + 1) others))) a c
more_pairs whole first others k d a b c below x y =
    subst (λ (cs : List (List ℕ)). IsMore (AreLinesWithout whole cs) a c) (sym (pairs_next first others k d below))
    (more_then _ _ _ a b c (lines_append whole (pairs first (take k others)) ((first ∷ get_or others k d ∷ []) ∷ [])) x y)

-- the lines so far of all choices, of which those of some pages remain
abbrev pub Before : Vector → List ℕ → List ℕ → List ℕ → Type 0
Before whole all rest text = (more : List ℕ) → AreLinesWithout whole (choices rest) more → AreLinesWithout whole (choices all) (text ++ more)

pub before_all : (whole : Vector) (all old : List ℕ) → IsMore (Before whole all all) old old
before_all whole all old = record { more = []; is = sym (append-nil old); such = λ more x. x }

before_less : (whole : Vector) (all : List ℕ) (first : ℕ) (behind a b c : List ℕ) → IsMore (Before whole all (first ∷ behind)) a b → IsMore (AreLinesWithout whole (pairs first behind)) b c
    → IsMore (Before whole all behind) a c
unfolding choices
before_less whole all first behind a b c x y =
    more_then _ _ _ a b c
    (λ s t was pair more rest. subst (AreLinesWithout whole (choices all)) (sym (append_assoc s t more)) (was (t ++ more) (lines_append whole (pairs first behind) (choices behind) t more pair rest))) x y

-- one page less remains
rest_whole : (pages : List ℕ) (k : ℕ) → take (length pages - (k + 1)) (drop (k + 1) pages) ≡ drop (k + 1) pages
rest_whole pages k =
    let n : length (drop (k + 1) pages) ≡ length pages - (k + 1) = length-drop (k + 1) pages in
    take_all (length pages - (k + 1)) (drop (k + 1) pages) (omega (arith, n))

pub before_next : (whole : Vector) (mine pages : List ℕ) (k d : ℕ) (a b c : List ℕ) → pages ≡ mine → k < length pages → IsMore (Before whole mine (drop k mine)) a b
    → IsMore (AreLinesWithout whole (pairs (get_or pages k d) (take (length pages - (k + 1)) (drop (k + 1) pages)))) b c → IsMore (Before whole mine (drop (k + 1) mine)) a c
before_next whole mine pages k d a b c same below x y =
    let e : drop k pages ≡ get_or pages k d ∷ drop (k + 1) pages = rw add-one (drop-cons pages k d below) in
    let was : IsMore (Before whole mine (drop k pages)) a b = subst (λ (list : List ℕ). IsMore (Before whole mine (drop k list)) a b) (sym same) x in
    let pair : IsMore (AreLinesWithout whole (pairs (get_or pages k d) (drop (k + 1) pages))) b c =
    subst (λ (rest : List ℕ). IsMore (AreLinesWithout whole (pairs (get_or pages k d) rest)) b c) (rest_whole pages k) y in
    subst (λ (list : List ℕ). IsMore (Before whole mine (drop (k + 1) list)) a c) same
    (before_less whole mine (get_or pages k d) (drop (k + 1) pages) a b c (subst (λ (rest : List ℕ). IsMore (Before whole mine rest) a b) e was) pair)

pub before_none : (whole : Vector) (all pages : List ℕ) (k : ℕ) (a b : List ℕ) → length pages ≤ k → IsMore (Before whole all (drop k pages)) a b → IsMore (AreLinesWithout whole (choices all)) a b
unfolding choices AreLinesWithout
before_none whole all pages k a b past x = record {
  more = x.more;
  is = x.is;
  such = subst (AreLinesWithout whole (choices all)) (append-nil x.more) (x.such [] (subst (λ (r : List ℕ). AreLinesWithout whole (choices r) []) (sym (drop_all k pages past)) refl));
}

-- the lines of one step
pub one_group : (opcode mode : ℕ) (absent : Bool) (v : Vector) (none one text : List ℕ) → IsExact v → IsOf opcode mode v → none ≡ [] → one ≡ none ++ json_text v
    → IsMore (AreLinesWithout v (if absent then choices v.touched.items else [])) one text → IsGroup opcode mode absent text
one_group opcode mode absent v none one text told of empty line more = record {
  vector = v;
  told = told;
  of = of;
  others = more.more;
  without = more.such;
  lines = more.is ∙ ap (λ t. t ++ more.more) (line ∙ ap (λ t. t ++ json_text v) empty);
}

-- lines that were written
pub wrote_none : (All : List ℕ → Type 0) (a : Option Channels) → All [] → Wrote All a a
wrote_none All a such = record { text = []; grew = subst (Grew a a) (sym (only-nil Out)) (grew_nothing a); such = such }

pub wrote_lines : (All : List ℕ → Type 0) (text : List ℕ) (a b : Option Channels) → All text → Grew a b (only Out text) → Wrote All a b
wrote_lines All text a b such grew = record { text = text; grew = grew; such = such }

pub wrote_then : (First Rest Whole : List ℕ → Type 0) (a b c : Option Channels) → ((x y : List ℕ) → First x → Rest y → Whole (x ++ y)) → Wrote First a b → Wrote Rest b c → Wrote Whole a c
wrote_then First Rest Whole a b c so x y = record {
  text = x.text ++ y.text;
  grew = out_grew a b c x.text y.text x.grew y.grew;
  such = so x.text y.text x.such y.such;
}

pub prefix_of : (text : List ℕ) (a b : Option Channels) → AreVectors text → GrewByPrefix a b (only Out text) → WrotePrefix a b
prefix_of text a b are grew = record { text = text; grew = grew; are = are }

pub prefix_then : (First : List ℕ → Type 0) (a b c : Option Channels) → ((text : List ℕ) → First text → AreVectors text) → Wrote First a b → WrotePrefix b c → WrotePrefix a c
prefix_then First a b c so x y = record {
  text = x.text ++ y.text;
  grew = out_last a b c x.text y.text x.grew y.grew;
  are = both x.text y.text (so x.text x.such) y.are;
}

-- the first lines of all, and then those of some vectors
pub wrote_part : (First : List ℕ → Type 0) (a b c : Option Channels) → ((text : List ℕ) → First text → AreVectors text) → Wrote First a b → Wrote AreVectors b c → Wrote AreVectors a c
wrote_part First a b c so x y = wrote_then First AreVectors AreVectors a b c (λ s t p q. both s t (so s p) q) x y

-- one step more
pub no_groups : (opcode mode : ℕ) (absent : Bool) → AreGroups opcode mode absent 0 []
unfolding AreGroups
no_groups opcode mode absent = refl

pub groups_next : (opcode mode : ℕ) (absent : Bool) (count : ℕ) (a b : List ℕ) → AreGroups opcode mode absent count a → IsGroup opcode mode absent b → AreGroups opcode mode absent (count + 1) (a ++ b)
unfolding AreGroups
groups_next opcode mode absent count a b x y =
    let n : suc count ≡ count + 1 = omega arith in
    subst (λ (k : ℕ). AreGroups opcode mode absent k (a ++ b)) n (record { first = a; rest = b; is_first = x; is_rest = y; text_is = refl })

-- one opcode more
pub none_of_all : (mode : ℕ) (absent : Bool) (count : ℕ) → AreOfAll mode absent count 0 []
unfolding AreOfAll
none_of_all mode absent count = refl

pub all_next : (mode : ℕ) (absent : Bool) (count code some : ℕ) → some ≡ instruction_at code * count → (a b : List ℕ) → AreOfAll mode absent count code a → AreGroups code mode absent some b
    → AreOfAll mode absent count (code + 1) (a ++ b)
unfolding AreOfAll
all_next mode absent count code some is a b x y =
    let n : suc code ≡ code + 1 = omega arith in
    subst (λ (k : ℕ). AreOfAll mode absent count k (a ++ b)) n
    (record { first = a; rest = b; is_first = x; is_rest = subst (λ (k : ℕ). AreGroups code mode absent k b) is y; text_is = refl })

-- an opcode with an instruction, and one with none
some_at : (o : Option Instruction) (r : Row) → Some (plain r) ≡ option_map row_of o → is_some o ≡ true
some_at None r e = absurd (cc e)
some_at (Some i) r e = refl

none_at : (o : Option Instruction) → None ≡ option_map row_of o → is_some o ≡ false
none_at None e = refl
none_at (Some i) e = absurd (cc e)

pub one_there : (code count : ℕ) (r : Row) → Some (plain r) ≡ option_map row_of (with_opcode code) → count ≡ instruction_at code * count
one_there code count r e = let h = some_at (with_opcode code) r e in rw h (omega arith)

pub none_there : (code count : ℕ) → None ≡ option_map row_of (with_opcode code) → 0 ≡ instruction_at code * count
none_there code count e = let h = none_at (with_opcode code) e in rw h (omega arith)
