-- Version 2: what is read is spelled so, and what is spelled so is read.
use Rattle.std.proofs.Common.{◌≡◌, ◌⊎◌, ℕ, zero, suc, ◌+◌, ◌*◌, ◌^◌, ◌<◌, ◌≤◌, Bool, true, false, cond, eqb, ltb, leb, ◌||◌, ◌&&◌, List, [], ◌∷◌, ◌++◌, length, take, get_or, map, Result, Ok, Err, refl, sym, ap, subst, ◌∙◌, append_assoc, arith, inl, inr, lit<}
use Rattle.std.specs.Prelude.{not}
use Rattle.std.specs.List.{flat_map, AllByRecursion}
use Rattle.std.proofs.lemmas.Bool.{cases_eq, ltb-false, le-ltb, leb-false, lt-leb, eqb-true, eqb-false, eq-eqb, ne_eqb}
use Rattle.std.proofs.lemmas.List.{append-nil, length-append, length-map, length_push, map_push, get_or_push, get_or_append_left, take_all, take_more, get_or-map}
use Rattle.std.proofs.lemmas.List.Sums.{prefix_len-le-length, prefix_len_stops}
use Rattle.std.proofs.lemmas.Slice.Eq.{bytes_eq-Decides}
use Rattle.vax_space.specs.declared.Area.{Area}
use Rattle.vax_space.specs.Areas.{end_of}
use Rattle.vax_image.specs.declared.Base.{Base}
use Rattle.vax_image.specs.declared.Base.TheVariants.{Bare, User}
use Rattle.vax_image.specs.declared.Image.{Image}
use Rattle.vax_image.specs.declared.ImageError.{ImageError}
use Rattle.vax_image.specs.declared.ImageError.TheVariants.{Fault}
use Rattle.vax_image.specs.Kinds.{wrong_text, wrong_length}
use Rattle.vax_image.specs.Texts.{no_text}
use Rattle.vax_image.specs.Image.{first_page, IsAreaFrom, AscendFrom}
use Rattle.vax_image.specs.Texts.{Text, is_constant, is_shared, place_among, number_among, number_of, texts_with, texts_behind, texts_of}
use Rattle.vax_image.specs.File.{word, longword, base_number, placing, counted, entry, text_field, numbered, fields_2}
use Rattle.vax_image.specs.Reading.{Cursor, Contents, ◌>>=◌, unless, bytes_at, number_at, base_at, count_at, text_count_at, text_at, texts_at, pages_at, protection_at, named, numbered_area_at, numbered_areas_at, contents_2}
use Rattle.vax_image.proofs.Steps.{IsBytes, ok_is, bind_ok, unless_ok, Takes, Takes-then, Reads, bytes_take, bytes_again, wide4, number_takes, number_again}
use Rattle.vax_image.proofs.FieldLaws.{not_false, base_takes, base_again, count_takes, count_again, text_count_takes, text_count_again, at_pages, pages_take, pages_again, protection_takes, protection_again}
use Rattle.vax_image.proofs.FirstVersion.{HasAreas, are_pages}

-- ---- texts

pub text_takes : (c : Cursor) (x : List ℕ × Cursor) → IsBytes c.rest → text_at c ≡ Ok x → Takes c (counted x.0) x.1
unfolding text_at
text_takes c x fits e =
    let a = bind_ok (number_at 4 c) (λ len. unless (eqb len.0 0 || ltb 16777216 len.0) c.place wrong_length len >>= λ sound. bytes_at sound.0 sound.1) x e in
    let b = bind_ok (unless (eqb a.0.0 0 || ltb 16777216 a.0.0) c.place wrong_length a.0) (λ sound. bytes_at sound.0 sound.1) x a.2 in
    let g = unless_ok (eqb a.0.0 0 || ltb 16777216 a.0.0) c.place wrong_length a.0 b.0 b.1 in
    let t0 = number_takes 4 wide4 c a.0 fits a.1 in
    let read : bytes_at a.0.0 a.0.1 ≡ Ok x = ap (λ (y : ℕ × Cursor). bytes_at y.0 y.1) g.1 ∙ b.2 in
    let t1 = bytes_take a.0.0 a.0.1 x t0.0.rest_fits read in
    let both = Takes-then c (longword a.0.0) a.0.1 x.0 x.1 t0.0 t1.0 in
    subst (λ (k : ℕ). Takes c (longword k ++ x.0) x.1) (sym t1.1) both

text_again : (text rest : List ℕ) (place : ℕ) → 0 < length text → length text ≤ 16777216 → Reads (text_at (record { place = place; rest = counted text ++ rest })) text rest
unfolding text_at
text_again text rest place some few =
    let sound : (eqb (length text) 0 || ltb 16777216 (length text)) ≡ false = rw (ne_eqb (length text) 0 (λ e. omega arith), le-ltb 16777216 (length text) few) refl in
    (place + 4 + length text, rw (number_again 4 (length text) (text ++ rest) place (omega arith), sound, bytes_again (length text) text rest (place + 4) refl) refl)

texts_take : (n : ℕ) (c : Cursor) (x : List (List ℕ) × Cursor) → IsBytes c.rest → texts_at n c ≡ Ok x → Takes c (flat_map counted x.0) x.1 × (length x.0 ≡ n)
unfolding texts_at
texts_take zero c x fits e =
    subst (λ (y : List (List ℕ) × Cursor). Takes c (flat_map counted y.0) y.1 × (length y.0 ≡ 0)) (ok_is ([], c) x e) (record { parts = refl; rest_fits = fits }, refl)
texts_take (suc n) c x fits e =
    let a = bind_ok (text_at c) (λ first. texts_at n first.1 >>= λ others. Ok (first.0 ∷ others.0, others.1)) x e in
    let b = bind_ok (texts_at n a.0.1) (λ others. Ok (a.0.0 ∷ others.0, others.1)) x a.2 in
    let first = text_takes c a.0 fits a.1 in
    let second = texts_take n a.0.1 b.0 first.rest_fits b.1 in
    let both = Takes-then c (counted a.0.0) a.0.1 (flat_map counted b.0.0) b.0.1 first second.0 in
    subst (λ (y : List (List ℕ) × Cursor). Takes c (flat_map counted y.0) y.1 × (length y.0 ≡ suc n)) (ok_is (a.0.0 ∷ b.0.0, b.0.1) x b.2) (both, ap suc second.1)

abbrev pub bytes_of : List Text → List (List ℕ)
bytes_of texts = map (λ t. t.bytes) texts

-- a text's length is one that a file may say
abbrev pub IsTextSized : Text → Type 0
IsTextSized t = (0 < length t.bytes) × (length t.bytes ≤ 16777216)

texts_again : (texts : List Text) (rest : List ℕ) (place : ℕ) → AllByRecursion IsTextSized texts → Reads (texts_at (length texts) (record { place = place; rest = flat_map text_field texts ++ rest })) (bytes_of texts) rest
unfolding texts_at
texts_again [] rest place sized = (place, refl)
texts_again (text ∷ texts) rest place sized =
    let regrouped : flat_map text_field (text ∷ texts) ++ rest ≡ counted text.bytes ++ (flat_map text_field texts ++ rest) = append_assoc (counted text.bytes) (flat_map text_field texts) rest in
    let first = text_again text.bytes (flat_map text_field texts ++ rest) place sized.0.0 sized.0.1 in
    let others = texts_again texts rest first.0 sized.1 in
    (others.0, ap (λ (t : List ℕ). texts_at (suc (length texts)) (record { place = place; rest = t })) regrouped ∙ rw (first.1, others.1) refl)

-- ---- which text an area takes

abbrev pub nothing : Text
nothing = record { bytes = []; constant = false }

and_true : (a b : Bool) → (a && b) ≡ true → (a ≡ true) × (b ≡ true)
and_true true b e = (refl, e)
and_true false b e = absurd cc

pub place_low : (texts : List Text) (bytes : List ℕ) (prot : ℕ) → place_among texts bytes prot ≤ length texts
place_low texts bytes prot = prefix_len-le-length (λ t. not (is_shared bytes prot t)) texts

-- an earlier text that is shared has the same bytes
place_same : (texts : List Text) (bytes : List ℕ) (prot : ℕ) (d : Text) → place_among texts bytes prot < length texts → (get_or texts (place_among texts bytes prot) d).bytes ≡ bytes
place_same texts bytes prot d lt =
    let shared = not_false (is_shared bytes prot (get_or texts (place_among texts bytes prot) d)) (prefix_len_stops (λ t. not (is_shared bytes prot t)) texts d lt) in
    let one = and_true _ _ shared in
    let two = and_true _ _ one.1 in
    (bytes_eq-Decides (get_or texts (place_among texts bytes prot) d).bytes bytes).0 two.1

cond_true : {X : Type 0} (b : Bool) (x y : X) → b ≡ true → cond b x y ≡ x
cond_true b x y e = rw e refl

cond_false : {X : Type 0} (b : Bool) (x y : X) → b ≡ false → cond b x y ≡ y
cond_false b x y e = rw e refl

-- what an area without bytes takes
pub with_none : (texts : List Text) (bytes : List ℕ) (prot : ℕ) → length bytes ≡ 0 → (number_among texts bytes prot ≡ no_text) × (texts_with texts bytes prot ≡ texts)
unfolding number_among texts_with
with_none texts bytes prot none = (cond_true _ _ _ (eq-eqb _ _ none), cond_true _ _ _ (eq-eqb _ _ none))

pub with_some : (texts : List Text) (bytes : List ℕ) (prot : ℕ) → 0 < length bytes → number_among texts bytes prot ≡ place_among texts bytes prot
unfolding number_among
with_some texts bytes prot some = cond_false _ _ _ (ne_eqb (length bytes) 0 (λ e. omega arith))

pub with_new : (texts : List Text) (bytes : List ℕ) (prot : ℕ) → 0 < length bytes → place_among texts bytes prot ≡ length texts → texts_with texts bytes prot ≡ texts ++ record { bytes = bytes; constant = is_constant prot } ∷ []
unfolding texts_with
with_new texts bytes prot some new = cond_false _ _ _ (ne_eqb (length bytes) 0 (λ e. omega arith)) ∙ cond_true _ _ _ (eq-eqb _ _ new)

pub with_old : (texts : List Text) (bytes : List ℕ) (prot : ℕ) → 0 < length bytes → (place_among texts bytes prot ≡ length texts → ⊥) → texts_with texts bytes prot ≡ texts
unfolding texts_with
with_old texts bytes prot some old = cond_false _ _ _ (ne_eqb (length bytes) 0 (λ e. omega arith)) ∙ cond_false _ _ _ (ne_eqb _ _ old)

-- ---- reading a text's number

-- what was taken so far is the front of the file's texts
pub record IsFront (texts : List (List ℕ)) (taken : List Text) : Type 0 where
  pub within : length taken ≤ length texts
  pub same : bytes_of taken ≡ take (length taken) texts

pub record IsNamed (texts : List (List ℕ)) (taken : List Text) (pages prot number : ℕ) (bytes : List ℕ) : Type 0 where
  pub numbered : number ≡ number_among taken bytes prot
  pub few : length bytes ≤ 512 * pages
  pub front : IsFront texts taken → IsFront texts (texts_with taken bytes prot)

chosen : {X : Type 0} (b : Bool) (x y z : X) → cond b x y ≡ z → ((b ≡ true) × (x ≡ z)) ⊎ ((b ≡ false) × (y ≡ z))
chosen true x y z e = inl (refl, e)
chosen false x y z e = inr (refl, e)

guard_ok : {X : Type 0} (b : Bool) (place kind : ℕ) (r : Result X ImageError) (y : X) → cond b (Err (Fault place kind)) r ≡ Ok y → (b ≡ false) × (r ≡ Ok y)
guard_ok true place kind r y e = absurd cc
guard_ok false place kind r y e = (refl, e)

front_with : (texts : List (List ℕ)) (taken : List Text) (prot number : ℕ) (bytes : List ℕ) → 0 < length bytes → number < length texts → get_or texts number [] ≡ bytes → place_among taken bytes prot ≡ number → IsFront texts taken → IsFront texts (texts_with taken bytes prot)
front_with texts taken prot number bytes some lt at placed front =
    elim (cases_eq (place_among taken bytes prot) (length taken)) [
      | inl new ↦ let within : length taken < length texts = omega arith in
          let last : get_or texts (length taken) [] ≡ bytes = ap (λ (k : ℕ). get_or texts k []) (sym new ∙ placed) ∙ at in
          let added : bytes_of (taken ++ record { bytes = bytes; constant = is_constant prot } ∷ []) ≡ take (length taken + 1) texts = map_push (λ t. t.bytes) taken (record { bytes = bytes; constant = is_constant prot }) ∙ ap (λ (xs : List (List ℕ)). xs ++ bytes ∷ []) front.same ∙ ap (λ (b : List ℕ). take (length taken) texts ++ b ∷ []) (sym last) ∙ sym (take_more texts (length taken) [] within) in
          let size : length (taken ++ record { bytes = bytes; constant = is_constant prot } ∷ []) ≡ length taken + 1 = length_push taken (record { bytes = bytes; constant = is_constant prot }) in
          subst (λ (ts : List Text). IsFront texts ts) (sym (with_new taken bytes prot some new)) (record { within = omega arith; same = added ∙ ap (λ (k : ℕ). take k texts) (sym size) })
      | inr old ↦ subst (λ (ts : List Text). IsFront texts ts) (sym (with_old taken bytes prot some old)) front
    ]

pub some_or_none : (bytes : List ℕ) → (length bytes ≡ 0) ⊎ (0 < length bytes)
some_or_none [] = inl refl
some_or_none (b ∷ bytes) = inr (omega arith)

pub named_takes : (texts : List (List ℕ)) (taken : List Text) (pages prot place number : ℕ) (bytes : List ℕ) → named texts taken pages prot place number ≡ Ok bytes → IsNamed texts taken pages prot number bytes
unfolding named
named_takes texts taken pages prot place number bytes e =
    elim (chosen (eqb number no_text) (Ok []) (cond (leb (length texts) number) (Err (Fault place wrong_text)) (cond (not (eqb (number_among taken (get_or texts number []) prot) number)) (Err (Fault place wrong_text)) (unless (ltb (512 * pages) (length (get_or texts number []))) place wrong_length (get_or texts number [])))) (Ok bytes) e) [
      | inl none ↦ let is : [] ≡ bytes = ok_is [] bytes none.1 in
          let with = with_none taken [] prot refl in
          subst (λ (b : List ℕ). IsNamed texts taken pages prot number b) is (record { numbered = eqb-true _ _ none.0 ∙ sym with.0; few = omega arith; front = λ front. subst (λ (ts : List Text). IsFront texts ts) (sym with.1) front })
      | inr some ↦ let text : List ℕ = get_or texts number [] in
          let g0 = guard_ok (leb (length texts) number) place wrong_text (cond (not (eqb (number_among taken text prot) number)) (Err (Fault place wrong_text)) (unless (ltb (512 * pages) (length text)) place wrong_length text)) bytes some.1 in
          let g1 = guard_ok (not (eqb (number_among taken text prot) number)) place wrong_text (unless (ltb (512 * pages) (length text)) place wrong_length text) bytes g0.1 in
          let g2 = unless_ok (ltb (512 * pages) (length text)) place wrong_length text bytes g1.1 in
          let lt : number < length texts = leb-false _ _ g0.0 in
          let is : number_among taken text prot ≡ number = eqb-true _ _ (not_false _ g1.0) in
          let no : number ≡ no_text → ⊥ = eqb-false _ _ some.0 in
          let made : IsNamed texts taken pages prot number text =
          elim (some_or_none text) [
            | inl none ↦ absurd (no (sym is ∙ (with_none taken text prot none).0))
            | inr full ↦ record { numbered = sym is; few = ltb-false _ _ g2.0; front = front_with texts taken prot number text full lt refl (sym (with_some taken text prot full) ∙ is) }
          ] in
          subst (λ (b : List ℕ). IsNamed texts taken pages prot number b) g2.1 made
    ]

pub numbered_area_takes : (base : Base) (low : ℕ) (texts : List (List ℕ)) (taken : List Text) (c : Cursor) (x : (Area × List Text) × Cursor) → IsBytes c.rest → numbered_area_at base low texts taken c ≡ Ok x
    → Takes c (placing x.0.0 ++ longword (number_of taken x.0.0)) x.1 × IsAreaFrom base low x.0.0 × (x.0.1 ≡ texts_behind taken x.0.0) × (IsFront texts taken → IsFront texts x.0.1)
unfolding numbered_area_at
numbered_area_takes base low texts taken c x fits e =
    let a = bind_ok (pages_at base low c) (λ pages. protection_at pages.1 >>= λ prot. number_at 4 prot.1 >>= λ number. named texts taken pages.0.1 prot.0 prot.1.place number.0 >>= λ text. Ok ((record { first = pages.0.0; pages = pages.0.1; prot = prot.0; bytes = text }, texts_with taken text prot.0), number.1)) x e in
    let b = bind_ok (protection_at a.0.1) (λ prot. number_at 4 prot.1 >>= λ number. named texts taken a.0.0.1 prot.0 prot.1.place number.0 >>= λ text. Ok ((record { first = a.0.0.0; pages = a.0.0.1; prot = prot.0; bytes = text }, texts_with taken text prot.0), number.1)) x a.2 in
    let d = bind_ok (number_at 4 b.0.1) (λ number. named texts taken a.0.0.1 b.0.0 b.0.1.place number.0 >>= λ text. Ok ((record { first = a.0.0.0; pages = a.0.0.1; prot = b.0.0; bytes = text }, texts_with taken text b.0.0), number.1)) x b.2 in
    let f = bind_ok (named texts taken a.0.0.1 b.0.0 b.0.1.place d.0.0) (λ text. Ok ((record { first = a.0.0.0; pages = a.0.0.1; prot = b.0.0; bytes = text }, texts_with taken text b.0.0), d.0.1)) x d.2 in
    let t0 = pages_take base low c a.0 fits a.1 in
    let t1 = protection_takes a.0.1 b.0 t0.0.rest_fits b.1 in
    let t2 = number_takes 4 wide4 b.0.1 d.0 t1.0.rest_fits d.1 in
    let t3 = named_takes texts taken a.0.0.1 b.0.0 b.0.1.place d.0.0 f.0 f.1 in
    let e12 = Takes-then a.0.1 (longword b.0.0) b.0.1 (longword d.0.0) d.0.1 t1.0 t2.0 in
    let e02 = Takes-then c (longword a.0.0.0 ++ longword a.0.0.1) a.0.1 (longword b.0.0 ++ longword d.0.0) d.0.1 t0.0 e12 in
    let made : Area = record { first = a.0.0.0; pages = a.0.0.1; prot = b.0.0; bytes = f.0 } in
    let whole : Takes c (placing made ++ longword (number_of taken made)) d.0.1 = subst (λ (k : ℕ). Takes c (placing made ++ longword k) d.0.1) t3.numbered e02 in
    subst (λ (y : (Area × List Text) × Cursor). Takes c (placing y.0.0 ++ longword (number_of taken y.0.0)) y.1 × IsAreaFrom base low y.0.0 × (y.0.1 ≡ texts_behind taken y.0.0) × (IsFront texts taken → IsFront texts y.0.1)) (ok_is ((made, texts_behind taken made), d.0.1) x f.2)
    (whole, record { behind = t0.1.behind; some = t0.1.some; within = t0.1.within; code = t1.1; bytes = t3.few }, refl, t3.front)

pub numbered_areas_take : (base : Base) (n low : ℕ) (texts : List (List ℕ)) (taken : List Text) (c : Cursor) (x : (List Area × List Text) × Cursor) → IsBytes c.rest → numbered_areas_at base low texts taken n c ≡ Ok x
    → Takes c (numbered taken x.0.0) x.1 × (length x.0.0 ≡ n) × AscendFrom base low x.0.0 × (x.0.1 ≡ texts_of taken x.0.0) × (IsFront texts taken → IsFront texts x.0.1)
unfolding numbered_areas_at numbered texts_of
numbered_areas_take base zero low texts taken c x fits e =
    subst (λ (y : (List Area × List Text) × Cursor). Takes c (numbered taken y.0.0) y.1 × (length y.0.0 ≡ 0) × AscendFrom base low y.0.0 × (y.0.1 ≡ texts_of taken y.0.0) × (IsFront texts taken → IsFront texts y.0.1)) (ok_is (([], taken), c) x e)
    (record { parts = refl; rest_fits = fits }, refl, tt, refl, λ front. front)
numbered_areas_take base (suc n) low texts taken c x fits e =
    let a = bind_ok (numbered_area_at base low texts taken c) (λ first. numbered_areas_at base (end_of first.0.0) texts first.0.1 n first.1 >>= λ others. Ok ((first.0.0 ∷ others.0.0, others.0.1), others.1)) x e in
    let b = bind_ok (numbered_areas_at base (end_of a.0.0.0) texts a.0.0.1 n a.0.1) (λ others. Ok ((a.0.0.0 ∷ others.0.0, others.0.1), others.1)) x a.2 in
    let first = numbered_area_takes base low texts taken c a.0 fits a.1 in
    let second = numbered_areas_take base n (end_of a.0.0.0) texts a.0.0.1 a.0.1 b.0 first.0.rest_fits b.1 in
    let there : Takes a.0.1 (numbered (texts_behind taken a.0.0.0) b.0.0.0) b.0.1 = subst (λ (ts : List Text). Takes a.0.1 (numbered ts b.0.0.0) b.0.1) first.2 second.0 in
    let both = Takes-then c (placing a.0.0.0 ++ longword (number_of taken a.0.0.0)) a.0.1 (numbered (texts_behind taken a.0.0.0) b.0.0.0) b.0.1 first.0 there in
    let last : b.0.0.1 ≡ texts_of (texts_behind taken a.0.0.0) b.0.0.0 = second.3 ∙ ap (λ (ts : List Text). texts_of ts b.0.0.0) first.2 in
    subst (λ (y : (List Area × List Text) × Cursor). Takes c (numbered taken y.0.0) y.1 × (length y.0.0 ≡ suc n) × AscendFrom base low y.0.0 × (y.0.1 ≡ texts_of taken y.0.0) × (IsFront texts taken → IsFront texts y.0.1)) (ok_is ((a.0.0.0 ∷ b.0.0.0, b.0.0.1), b.0.1) x b.2)
    (both, ap suc second.1, (first.1, second.2), last, λ front. second.4 (first.3 front))

texts_from_bytes : (texts : List Text) → flat_map text_field texts ≡ flat_map counted (bytes_of texts)
texts_from_bytes [] = refl
texts_from_bytes (text ∷ texts) = ap (λ (rest : List ℕ). counted text.bytes ++ rest) (texts_from_bytes texts)

contents_2_made : (c c1 c2 c3 c4 c5 c6 : Cursor) (base : Base) (transfer text_count count : ℕ) (texts : List (List ℕ)) (areas : List Area) (taken : List Text)
    → Takes c (word (base_number base)) c1 → Takes c1 (longword transfer) c2 × (transfer < 256 ^ 4) → Takes c2 (longword text_count) c3 × (text_count ≤ 64) → Takes c3 (longword count) c4 × (0 < count) × (count ≤ 64)
    → Takes c4 (flat_map counted texts) c5 × (length texts ≡ text_count)
    → Takes c5 (numbered [] areas) c6 × (length areas ≡ count) × AscendFrom base (first_page base) areas × (taken ≡ texts_of [] areas) × (IsFront texts [] → IsFront texts taken)
    → length taken ≡ length texts
    → Takes c (fields_2 (record { base = base; transfer = transfer; areas = areas })) c6 × HasAreas (record { base = base; transfer = transfer; areas = areas })
unfolding fields_2
contents_2_made c c1 c2 c3 c4 c5 c6 base transfer text_count count texts areas taken t0 t1 t2 t3 t4 t5 all =
    let start : IsFront texts [] = record { within = omega arith; same = refl } in
    let front : IsFront texts taken = t5.4 start in
    let texts_are : bytes_of (texts_of [] areas) ≡ texts = ap bytes_of (sym t5.3) ∙ front.same ∙ take_all (length taken) texts (omega arith) in
    let texts_spelled : flat_map text_field (texts_of [] areas) ≡ flat_map counted texts = texts_from_bytes (texts_of [] areas) ∙ ap (flat_map counted) texts_are in
    let text_count_is : text_count ≡ length (texts_of [] areas) = sym t4.1 ∙ sym all ∙ ap length t5.3 in
    let image : Image = record { base = base; transfer = transfer; areas = areas } in
    let e45 = Takes-then c4 (flat_map counted texts) c5 (numbered [] areas) c6 t4.0 t5.0 in
    let e35 = Takes-then c3 (longword count) c4 (flat_map counted texts ++ numbered [] areas) c6 t3.0 e45 in
    let e25 = Takes-then c2 (longword text_count) c3 (longword count ++ (flat_map counted texts ++ numbered [] areas)) c6 t2.0 e35 in
    let e01 = Takes-then c (word (base_number base)) c1 (longword transfer) c2 t0 t1.0 in
    let e05 = Takes-then c (entry image) c2 (longword text_count ++ (longword count ++ (flat_map counted texts ++ numbered [] areas))) c6 e01 e25 in
    let e1 = subst (λ (k : ℕ). Takes c (entry image ++ (longword k ++ (longword count ++ (flat_map counted texts ++ numbered [] areas)))) c6) text_count_is e05 in
    let e2 = subst (λ (k : ℕ). Takes c (entry image ++ (longword (length (texts_of [] areas)) ++ (longword k ++ (flat_map counted texts ++ numbered [] areas)))) c6) (sym t5.1) e1 in
    let e3 = subst (λ (t : List ℕ). Takes c (entry image ++ (longword (length (texts_of [] areas)) ++ (longword (length areas) ++ (t ++ numbered [] areas)))) c6) (sym texts_spelled) e2 in
    (e3, record { some = omega (arith, t5.1, t3.1); few = omega (arith, t5.1, t3.2); areas = t5.2; small = t1.1 })

pub contents_2_take : (c : Cursor) (x : Contents) → IsBytes c.rest → contents_2 c ≡ Ok x → x.complete ≡ true → Takes c (fields_2 x.image) x.end × HasAreas x.image
unfolding contents_2 fields_2
contents_2_take c x fits e complete =
    let a = bind_ok (base_at c) (λ base. number_at 4 base.1 >>= λ transfer. text_count_at transfer.1 >>= λ text_count. count_at text_count.1 >>= λ count. texts_at text_count.0 count.1 >>= λ texts. numbered_areas_at base.0 (first_page base.0) texts.0 [] count.0 texts.1 >>= λ areas. Ok (record { image = record { base = base.0; transfer = transfer.0; areas = areas.0.0 }; complete = eqb (length areas.0.1) (length texts.0); end = areas.1 })) x e in
    let b = bind_ok (number_at 4 a.0.1) (λ transfer. text_count_at transfer.1 >>= λ text_count. count_at text_count.1 >>= λ count. texts_at text_count.0 count.1 >>= λ texts. numbered_areas_at a.0.0 (first_page a.0.0) texts.0 [] count.0 texts.1 >>= λ areas. Ok (record { image = record { base = a.0.0; transfer = transfer.0; areas = areas.0.0 }; complete = eqb (length areas.0.1) (length texts.0); end = areas.1 })) x a.2 in
    let d = bind_ok (text_count_at b.0.1) (λ text_count. count_at text_count.1 >>= λ count. texts_at text_count.0 count.1 >>= λ texts. numbered_areas_at a.0.0 (first_page a.0.0) texts.0 [] count.0 texts.1 >>= λ areas. Ok (record { image = record { base = a.0.0; transfer = b.0.0; areas = areas.0.0 }; complete = eqb (length areas.0.1) (length texts.0); end = areas.1 })) x b.2 in
    let f = bind_ok (count_at d.0.1) (λ count. texts_at d.0.0 count.1 >>= λ texts. numbered_areas_at a.0.0 (first_page a.0.0) texts.0 [] count.0 texts.1 >>= λ areas. Ok (record { image = record { base = a.0.0; transfer = b.0.0; areas = areas.0.0 }; complete = eqb (length areas.0.1) (length texts.0); end = areas.1 })) x d.2 in
    let g = bind_ok (texts_at d.0.0 f.0.1) (λ texts. numbered_areas_at a.0.0 (first_page a.0.0) texts.0 [] f.0.0 texts.1 >>= λ areas. Ok (record { image = record { base = a.0.0; transfer = b.0.0; areas = areas.0.0 }; complete = eqb (length areas.0.1) (length texts.0); end = areas.1 })) x f.2 in
    let h = bind_ok (numbered_areas_at a.0.0 (first_page a.0.0) g.0.0 [] f.0.0 g.0.1) (λ areas. Ok (record { image = record { base = a.0.0; transfer = b.0.0; areas = areas.0.0 }; complete = eqb (length areas.0.1) (length g.0.0); end = areas.1 })) x g.2 in
    let made : Image = record { base = a.0.0; transfer = b.0.0; areas = h.0.0.0 } in
    let found : Contents = record { image = made; complete = eqb (length h.0.0.1) (length g.0.0); end = h.0.1 } in
    let is : found ≡ x = ok_is found x h.2 in
    let all : length h.0.0.1 ≡ length g.0.0 = eqb-true _ _ (ap (λ (y : Contents). y.complete) is ∙ complete) in
    let t0 = base_takes c a.0 fits a.1 in
    let t1 = number_takes 4 wide4 a.0.1 b.0 t0.rest_fits b.1 in
    let t2 = text_count_takes b.0.1 d.0 t1.0.rest_fits d.1 in
    let t3 = count_takes d.0.1 f.0 t2.0.rest_fits f.1 in
    let t4 = texts_take d.0.0 f.0.1 g.0 t3.0.rest_fits g.1 in
    let t5 = numbered_areas_take a.0.0 f.0.0 (first_page a.0.0) g.0.0 [] g.0.1 h.0 t4.0.rest_fits h.1 in
    subst (λ (y : Contents). Takes c (fields_2 y.image) y.end × HasAreas y.image) is
    (contents_2_made c a.0.1 b.0.1 d.0.1 f.0.1 g.0.1 h.0.1 a.0.0 b.0.0 d.0.0 f.0.0 g.0.0 h.0.0.0 h.0.0.1 t0 t1 t2 t3 t4 t5 all)

-- ---- what is spelled so is read

more_with : (taken : List Text) (bytes : List ℕ) (prot : ℕ) → (more : List Text) × (texts_with taken bytes prot ≡ taken ++ more)
more_with taken bytes prot =
    elim (some_or_none bytes) [
      | inl none ↦ ([], (with_none taken bytes prot none).1 ∙ sym (append-nil taken))
      | inr some ↦ elim (cases_eq (place_among taken bytes prot) (length taken)) [
        | inl new ↦ (record { bytes = bytes; constant = is_constant prot } ∷ [], with_new taken bytes prot some new)
        | inr old ↦ ([], with_old taken bytes prot some old ∙ sym (append-nil taken))
      ]
    ]

-- the texts that areas take follow those before
more_texts : (taken : List Text) (areas : List Area) → (more : List Text) × (texts_of taken areas ≡ taken ++ more)
unfolding texts_of
more_texts taken [] = ([], sym (append-nil taken))
more_texts taken (area ∷ areas) =
    let next = more_texts (texts_behind taken area) areas in
    let here = more_with taken area.bytes area.prot in
    (here.0 ++ next.0, next.1 ∙ ap (λ (ts : List Text). ts ++ next.0) here.1 ∙ append_assoc taken here.0 next.0)

-- an area's text stands at its number
pub text_there : (taken : List Text) (bytes : List ℕ) (prot : ℕ) → 0 < length bytes → (place_among taken bytes prot < length (texts_with taken bytes prot)) × ((get_or (texts_with taken bytes prot) (place_among taken bytes prot) nothing).bytes ≡ bytes)
text_there taken bytes prot some =
    elim (cases_eq (place_among taken bytes prot) (length taken)) [
      | inl new ↦ let with = with_new taken bytes prot some new in
          let size = length_push taken (record { bytes = bytes; constant = is_constant prot }) in
          (rw with (omega arith), rw with (rw new (ap (λ (t : Text). t.bytes) (get_or_push taken (record { bytes = bytes; constant = is_constant prot }) nothing (length taken) refl))))
      | inr old ↦ let low = place_low taken bytes prot in
          let lt : place_among taken bytes prot < length taken = omega arith in
          let with = with_old taken bytes prot some old in
          (rw with lt, rw with (place_same taken bytes prot nothing lt))
    ]

nil_of : (bytes : List ℕ) → length bytes ≡ 0 → bytes ≡ []
nil_of [] e = refl
nil_of (b ∷ bytes) e = absurd (omega arith)

named_again : (base : Base) (low : ℕ) (area : Area) (areas : List Area) (taken all : List Text) (place : ℕ) → IsAreaFrom base low area → all ≡ texts_of taken (area ∷ areas) → length all ≤ 64 → named (bytes_of all) taken area.pages area.prot place (number_of taken area) ≡ Ok area.bytes
unfolding named texts_of
named_again base low area areas taken all place is texts_are few =
    elim (some_or_none area.bytes) [
      | inl none ↦ let bytes_are : [] ≡ area.bytes = sym (nil_of area.bytes none) in
          cond_true _ _ _ (eq-eqb _ _ (with_none taken area.bytes area.prot none).0) ∙ ap (λ (b : List ℕ). Ok b) bytes_are
      | inr some ↦ let number = with_some taken area.bytes area.prot some in
          let more = more_texts (texts_behind taken area) areas in
          let whole : all ≡ texts_behind taken area ++ more.0 = texts_are ∙ more.1 in
          let there = text_there taken area.bytes area.prot some in
          let size : length all ≡ length (texts_behind taken area) + length more.0 = ap length whole ∙ length-append (texts_behind taken area) more.0 in
          let lt : place_among taken area.bytes area.prot < length all = omega arith in
          let text_is : get_or all (place_among taken area.bytes area.prot) nothing ≡ get_or (texts_behind taken area) (place_among taken area.bytes area.prot) nothing = ap (λ (ts : List Text). get_or ts (place_among taken area.bytes area.prot) nothing) whole ∙ get_or_append_left (texts_behind taken area) more.0 nothing (place_among taken area.bytes area.prot) there.0 in
          let at : get_or (bytes_of all) (number_of taken area) [] ≡ area.bytes = ap (λ (k : ℕ). get_or (bytes_of all) k []) number ∙ get_or-map (λ t. t.bytes) all (place_among taken area.bytes area.prot) nothing [] lt ∙ ap (λ (t : Text). t.bytes) text_is ∙ there.1 in
          let len : length (bytes_of all) ≡ length all = length-map all (λ t. t.bytes) in
          let low_number : number_of taken area < length (bytes_of all) = omega arith in
          cond_false _ _ _ (ne_eqb (number_of taken area) no_text (λ e. omega arith)) ∙ cond_false _ _ _ (lt-leb _ _ low_number)
          ∙ subst (λ (t : List ℕ). cond (not (eqb (number_among taken t area.prot) (number_of taken area))) (Err (Fault place wrong_text)) (unless (ltb (512 * area.pages) (length t)) place wrong_length t) ≡ Ok area.bytes) (sym at)
          (cond_false _ _ _ (ap not (eq-eqb (number_of taken area) (number_of taken area) refl)) ∙ cond_false _ _ _ (le-ltb _ _ is.bytes))
    ]

number_small : (base : Base) (low : ℕ) (area : Area) (areas : List Area) (taken all : List Text) → all ≡ texts_of taken (area ∷ areas) → length all ≤ 64 → number_of taken area < 256 ^ 4
unfolding texts_of
number_small base low area areas taken all texts_are few =
    elim (some_or_none area.bytes) [
      | inl none ↦ rw (with_none taken area.bytes area.prot none).0 (lit< tt)
      | inr some ↦ let number = with_some taken area.bytes area.prot some in
          let more = more_texts (texts_behind taken area) areas in
          let there = text_there taken area.bytes area.prot some in
          let size : length all ≡ length (texts_behind taken area) + length more.0 = ap length (texts_are ∙ more.1) ∙ length-append (texts_behind taken area) more.0 in
          omega arith
    ]

numbered_area_again : (base : Base) (low : ℕ) (area : Area) (areas : List Area) (taken all : List Text) (rest : List ℕ) (place : ℕ) → IsAreaFrom base low area → all ≡ texts_of taken (area ∷ areas) → length all ≤ 64
    → Reads (numbered_area_at base low (bytes_of all) taken (record { place = place; rest = (placing area ++ longword (number_of taken area)) ++ rest })) (area, texts_behind taken area) rest
unfolding numbered_area_at
numbered_area_again base low area areas taken all rest place is texts_are few =
    let e0 = pages_again base low area.first area.pages (longword area.prot ++ (longword (number_of taken area) ++ rest)) place (are_pages base low area is) in
    let e1 = protection_again area.prot (longword (number_of taken area) ++ rest) (at_pages place) is.code in
    let e2 = number_again 4 (number_of taken area) rest (at_pages place + 4) (number_small base low area areas taken all texts_are few) in
    let e3 = named_again base low area areas taken all (at_pages place + 4) is texts_are few in
    (at_pages place + 4 + 4, rw (e0, e1, e2, e3) refl)

numbered_areas_again : (base : Base) (low : ℕ) (areas : List Area) (taken all : List Text) (rest : List ℕ) (place : ℕ) → AscendFrom base low areas → all ≡ texts_of taken areas → length all ≤ 64
    → Reads (numbered_areas_at base low (bytes_of all) taken (length areas) (record { place = place; rest = numbered taken areas ++ rest })) (areas, all) rest
unfolding numbered_areas_at numbered texts_of
numbered_areas_again base low [] taken all rest place ascend texts_are few = (place, ap (λ (ts : List Text). Ok (([], ts), record { place = place; rest = rest })) (sym texts_are))
numbered_areas_again base low (area ∷ areas) taken all rest place ascend texts_are few =
    let regrouped : numbered taken (area ∷ areas) ++ rest ≡ (placing area ++ longword (number_of taken area)) ++ (numbered (texts_behind taken area) areas ++ rest) = append_assoc (placing area ++ longword (number_of taken area)) (numbered (texts_behind taken area) areas) rest in
    let first = numbered_area_again base low area areas taken all (numbered (texts_behind taken area) areas ++ rest) place ascend.0 texts_are few in
    let others = numbered_areas_again base (end_of area) areas (texts_behind taken area) all rest first.0 ascend.1 texts_are few in
    (others.0, ap (λ (text : List ℕ). numbered_areas_at base low (bytes_of all) taken (suc (length areas)) (record { place = place; rest = text })) regrouped ∙ rw (first.1, others.1) refl)

pub with_few : (taken : List Text) (bytes : List ℕ) (prot : ℕ) → length (texts_with taken bytes prot) ≤ length taken + 1
with_few taken bytes prot =
    elim (some_or_none bytes) [
      | inl none ↦ rw (with_none taken bytes prot none).1 (omega arith)
      | inr some ↦ elim (cases_eq (place_among taken bytes prot) (length taken)) [
        | inl new ↦ let size = length_push taken (record { bytes = bytes; constant = is_constant prot }) in rw (with_new taken bytes prot some new) (omega arith)
        | inr old ↦ rw (with_old taken bytes prot some old) (omega arith)
      ]
    ]

-- there are no more texts than areas, and each is an area's
pub texts_few : (taken : List Text) (areas : List Area) → length (texts_of taken areas) ≤ length taken + length areas
unfolding texts_of
texts_few taken [] = omega arith
texts_few taken (area ∷ areas) =
    let next = texts_few (texts_behind taken area) areas in
    let here = with_few taken area.bytes area.prot in
    omega arith

all_push : {X : Type 0} (P : X → Type 0) (xs : List X) (x : X) → AllByRecursion P xs → P x → AllByRecursion P (xs ++ x ∷ [])
all_push P [] x all here = (here, tt)
all_push P (y ∷ ys) x all here = (all.0, all_push P ys x all.1 here)

bytes_few : (base : Base) (low : ℕ) (area : Area) → IsAreaFrom base low area → first_page base ≤ low → length area.bytes ≤ 16777216
bytes_few Bare low area is least = let a = is.behind in let b = is.within in let d = is.bytes in omega arith
bytes_few User low area is least = let a = is.behind in let b = is.within in let d = is.bytes in omega arith

with_sized : (base : Base) (low : ℕ) (area : Area) (taken : List Text) → IsAreaFrom base low area → first_page base ≤ low → AllByRecursion IsTextSized taken → AllByRecursion IsTextSized (texts_behind taken area)
with_sized base low area taken is least sized =
    elim (some_or_none area.bytes) [
      | inl none ↦ subst (AllByRecursion IsTextSized) (sym (with_none taken area.bytes area.prot none).1) sized
      | inr some ↦ elim (cases_eq (place_among taken area.bytes area.prot) (length taken)) [
        | inl new ↦ subst (AllByRecursion IsTextSized) (sym (with_new taken area.bytes area.prot some new)) (all_push IsTextSized taken (record { bytes = area.bytes; constant = is_constant area.prot }) sized (some, bytes_few base low area is least))
        | inr old ↦ subst (AllByRecursion IsTextSized) (sym (with_old taken area.bytes area.prot some old)) sized
      ]
    ]

pub texts_sized : (base : Base) (low : ℕ) (areas : List Area) (taken : List Text) → AscendFrom base low areas → first_page base ≤ low → AllByRecursion IsTextSized taken → AllByRecursion IsTextSized (texts_of taken areas)
unfolding texts_of
texts_sized base low [] taken ascend least sized = sized
texts_sized base low (area ∷ areas) taken ascend least sized =
    let behind = ascend.0.behind in
    texts_sized base (end_of area) areas (texts_behind taken area) ascend.1 (omega arith) (with_sized base low area taken ascend.0 least sized)

pub contents_2_again : (image : Image) (rest : List ℕ) (place : ℕ) → HasAreas image → (end : ℕ) × (contents_2 (record { place = place; rest = fields_2 image ++ rest }) ≡ Ok (record { image = image; complete = true; end = record { place = end; rest = rest } }))
unfolding contents_2 fields_2
contents_2_again image rest place has =
    let all : List Text = texts_of [] image.areas in
    let few : length all ≤ 64 = (let h = texts_few [] image.areas in let k = has.few in omega arith) in
    let sized = texts_sized image.base (first_page image.base) image.areas [] has.areas (omega arith) tt in
    let tail : List ℕ = numbered [] image.areas ++ rest in
    let regrouped : (flat_map text_field all ++ numbered [] image.areas) ++ rest ≡ flat_map text_field all ++ tail = append_assoc (flat_map text_field all) (numbered [] image.areas) rest in
    let body : List ℕ = flat_map text_field all ++ tail in
    let e0 = base_again image.base (longword image.transfer ++ (longword (length all) ++ (longword (length image.areas) ++ body))) place in
    let e1 = number_again 4 image.transfer (longword (length all) ++ (longword (length image.areas) ++ body)) (place + 2) has.small in
    let e2 = text_count_again (length all) (longword (length image.areas) ++ body) (place + 2 + 4) few in
    let e3 = count_again (length image.areas) body (place + 2 + 4 + 4) has.some has.few in
    let e4 = texts_again all tail (place + 2 + 4 + 4 + 4) sized in
    let e5 = numbered_areas_again image.base (first_page image.base) image.areas [] all rest e4.0 has.areas refl few in
    let complete : eqb (length all) (length (bytes_of all)) ≡ true = eq-eqb _ _ (sym (length-map all (λ t. t.bytes))) in
    (e5.0, ap (λ (t : List ℕ). contents_2 (record { place = place; rest = entry image ++ (longword (length all) ++ (longword (length image.areas) ++ t)) })) regrouped ∙ rw (e0, e1, e2, e3, e4.1, e5.1, complete) refl)
