-- Whole files, of either version.
use Rattle.std.proofs.Common.{◌≡◌, ◌⊎◌, ℕ, ◌+◌, ◌<◌, Bool, true, false, cond, eqb, ltb, leb, ◌||◌, ◌&&◌, List, [], ◌∷◌, ◌++◌, length, Result, Ok, Err, refl, sym, ap, subst, ◌∙◌, append_assoc, arith, inl, inr}
use Rattle.std.specs.Prelude.{not, IfOk}
use Rattle.std.specs.List.{list_any}
use Rattle.std.proofs.lemmas.Bool.{ltb-true, eqb-true}
use Rattle.std.proofs.lemmas.List.{append-nil, nil_from_length}
use Rattle.vax_space.specs.declared.Area.{Area}
use Rattle.vax_space.specs.Areas.{end_of, has_page}
use Rattle.vax_space.specs.Reference.{page_of}
use Rattle.vax_image.specs.declared.Base.{Base}
use Rattle.vax_image.specs.declared.Image.{Image}
use Rattle.vax_image.specs.declared.ImageError.{ImageError}
use Rattle.vax_image.specs.declared.ImageError.TheVariants.{Fault}
use Rattle.vax_image.specs.Kinds.{goes_on, wrong_text, begins_nowhere}
use Rattle.vax_image.specs.Image.{first_page, end_page, AscendFrom, is_in, IsImage}
use Rattle.vax_image.specs.File.{word, magic, fields_1, fields_2, spelling_1, spelling_2, File, File2, IsSpelled}
use Rattle.vax_image.specs.Reading.{Cursor, Contents, ◌>>=◌, Gives, unless, magic_at, version_at, contents_1, contents_2, contents_of, contents_at, ended, image_of}
use Rattle.vax_image.proofs.Steps.{IsBytes, bind_ok, unless_ok, Takes, Takes-then}
use Rattle.vax_image.proofs.FieldLaws.{not_false, magic_takes, magic_again, version_takes, version_again}
use Rattle.vax_image.proofs.FirstVersion.{HasAreas, end_low, contents_1_take, contents_1_again}
use Rattle.vax_image.proofs.SecondVersion.{contents_2_take, contents_2_again}

abbrev start_of : List ℕ → Cursor
start_of bytes = record { place = 0; rest = bytes }

-- what the fields take is the spelling of their image
abbrev IsTaken : Cursor → Contents → Type 0
IsTaken c x = (Takes c (spelling_1 x.image) x.end ⊎ Takes c (spelling_2 x.image) x.end) × HasAreas x.image

by_test : (n : ℕ) (b : Bool) → eqb n 1 ≡ b → (b || eqb n 2) ≡ true → ((eqb n 1 ≡ true) × (n ≡ 1)) ⊎ ((eqb n 1 ≡ false) × (n ≡ 2))
by_test n true e h = inl (e, eqb-true _ _ e)
by_test n false e h = inr (e, eqb-true _ _ h)

one_or_two : (n : ℕ) → (eqb n 1 || eqb n 2) ≡ true → ((eqb n 1 ≡ true) × (n ≡ 1)) ⊎ ((eqb n 1 ≡ false) × (n ≡ 2))
one_or_two n h = by_test n (eqb n 1) refl h

contents_at_take : (c : Cursor) (x : Contents) → IsBytes c.rest → contents_at c ≡ Ok x → x.complete ≡ true → IsTaken c x
unfolding contents_at
contents_at_take c x fits e complete =
    let a = bind_ok (magic_at c) (λ body. version_at body >>= λ version. contents_of version.0 version.1) x e in
    let b = bind_ok (version_at a.0) (λ version. contents_of version.0 version.1) x a.2 in
    let t0 = magic_takes c a.0 fits a.1 in
    let t1 = version_takes a.0 b.0 t0.rest_fits b.1 in
    elim (one_or_two b.0.0 t1.1) [
      | inl one ↦ let read : contents_1 b.0.1 ≡ Ok x = sym (ap (λ (t : Bool). cond t (contents_1 b.0.1) (contents_2 b.0.1)) one.0) ∙ b.2 in
          let t2 = contents_1_take b.0.1 x t1.0.rest_fits read in
          let version : Takes a.0 (word 1) b.0.1 = subst (λ (k : ℕ). Takes a.0 (word k) b.0.1) one.1 t1.0 in
          (inl (Takes-then c magic a.0 (word 1 ++ fields_1 x.image) x.end t0 (Takes-then a.0 (word 1) b.0.1 (fields_1 x.image) x.end version t2.0)), t2.1)
      | inr two ↦ let read : contents_2 b.0.1 ≡ Ok x = sym (ap (λ (t : Bool). cond t (contents_1 b.0.1) (contents_2 b.0.1)) two.0) ∙ b.2 in
          let t2 = contents_2_take b.0.1 x t1.0.rest_fits read complete in
          let version : Takes a.0 (word 2) b.0.1 = subst (λ (k : ℕ). Takes a.0 (word k) b.0.1) two.1 t1.0 in
          (inr (Takes-then c magic a.0 (word 2 ++ fields_2 x.image) x.end t0 (Takes-then a.0 (word 2) b.0.1 (fields_2 x.image) x.end version t2.0)), t2.1)
    ]

guard_ok : {X : Type 0} (b : Bool) (place kind : ℕ) (r : Result X ImageError) (y : X) → cond b (Err (Fault place kind)) r ≡ Ok y → (b ≡ false) × (r ≡ Ok y)
guard_ok true place kind r y e = absurd cc
guard_ok false place kind r y e = (refl, e)

-- nothing stands behind an image's fields
record IsEnded (x : Contents) (image : Image) : Type 0 where
  none : x.end.rest ≡ []
  complete : x.complete ≡ true
  begins : is_in x.image.areas x.image.transfer ≡ true
  is : x.image ≡ image

ended_ok : (x : Contents) (image : Image) → ended x ≡ Ok image → IsEnded x image
unfolding ended
ended_ok x image e =
    let g0 = guard_ok (not (eqb (length x.end.rest) 0)) x.end.place goes_on (cond (not x.complete) (Err (Fault 12 wrong_text)) (unless (not (is_in x.image.areas x.image.transfer)) 8 begins_nowhere x.image)) image e in
    let g1 = guard_ok (not x.complete) 12 wrong_text (unless (not (is_in x.image.areas x.image.transfer)) 8 begins_nowhere x.image) image g0.1 in
    let g2 = unless_ok (not (is_in x.image.areas x.image.transfer)) 8 begins_nowhere x.image image g1.1 in
    record { none = nil_from_length x.end.rest (eqb-true _ _ (not_false _ g0.0)); complete = not_false _ g1.0; begins = not_false _ g2.0; is = g2.1 }

image_found : (bytes : List ℕ) (image : Image) → IsBytes bytes → image_of bytes ≡ Ok image → File image bytes ⊎ File2 image bytes
unfolding image_of
image_found bytes image fits e =
    let a = bind_ok (contents_at (start_of bytes)) (λ contents. ended contents) image e in
    let end = ended_ok a.0 image a.2 in
    let t = contents_at_take (start_of bytes) a.0 fits a.1 end.complete in
    let has = t.1 in
    let is_image : IsImage a.0.image = record { some = has.some; few = has.few; areas = has.areas; begins = end.begins } in
    let whole : (text : List ℕ) → Takes (start_of bytes) text a.0.end → bytes ≡ text = λ text takes. takes.parts ∙ ap (λ (rest : List ℕ). text ++ rest) end.none ∙ append-nil text in
    subst (λ (i : Image). File i bytes ⊎ File2 i bytes) end.is (elim t.0 [
      | inl first ↦ inl (record { image_is = is_image; spelled = whole (spelling_1 a.0.image) first })
      | inr second ↦ inr (record { image_is = is_image; spelled = whole (spelling_2 a.0.image) second })
    ])

pub is_found : (bytes : List ℕ) (r : Result Image ImageError) → IsBytes bytes → Gives (λ image. image) r (image_of bytes) → IfOk r (λ image. File image bytes ⊎ File2 image bytes)
is_found bytes (Ok image) fits given = image_found bytes image fits given
is_found bytes (Err e) fits given = tt

pub spelled_image : (image : Image) (bytes : List ℕ) → IsSpelled image bytes → IsImage image
spelled_image image bytes (inl first) = first.image_is
spelled_image image bytes (inr second) = second.image_is

pub is_image : (bytes : List ℕ) (r : Result Image ImageError) → IsBytes bytes → Gives (λ image. image) r (image_of bytes) → IfOk r IsImage
is_image bytes (Ok image) fits given = spelled_image image bytes (image_found bytes image fits given)
is_image bytes (Err e) fits given = tt

-- ---- what is spelled so is read

either : (a b : Bool) → (a || b) ≡ true → (a ≡ true) ⊎ (b ≡ true)
either true b e = inl refl
either false b e = inr e

second_true : (a b : Bool) → (a && b) ≡ true → b ≡ true
second_true true b e = e
second_true false b e = absurd cc

page_low : (base : Base) (low page : ℕ) (areas : List Area) → AscendFrom base low areas → list_any (λ area. has_page area page) areas ≡ true → page < end_page base
unfolding has_page
page_low base low page [] ascend h = absurd cc
page_low base low page (area ∷ areas) ascend h =
    elim (either (leb area.first page && ltb page (end_of area)) (list_any (λ a. has_page a page) areas) h) [
      | inl here ↦ let lt : page < end_of area = ltb-true page (end_of area) (second_true (leb area.first page) (ltb page (end_of area)) here) in let within = ascend.0.within in omega arith
      | inr there ↦ page_low base (end_of area) page areas ascend.1 there
    ]

pub has_areas : (image : Image) → IsImage image → HasAreas image
has_areas image is =
    let page : page_of image.transfer < end_page image.base = page_low image.base (first_page image.base) (page_of image.transfer) image.areas is.areas is.begins in
    let end = end_low image.base in
    record { some = is.some; few = is.few; areas = is.areas; small = omega arith }

contents_again_1 : (image : Image) (rest : List ℕ) → IsImage image → (end : ℕ) × (contents_at (start_of (spelling_1 image ++ rest)) ≡ Ok (record { image = image; complete = true; end = record { place = end; rest = rest } }))
unfolding contents_at
contents_again_1 image rest is =
    let regrouped : spelling_1 image ++ rest ≡ magic ++ (word 1 ++ (fields_1 image ++ rest)) = append_assoc magic (word 1 ++ fields_1 image) rest ∙ ap (λ (t : List ℕ). magic ++ t) (append_assoc (word 1) (fields_1 image) rest) in
    let e0 = magic_again (word 1 ++ (fields_1 image ++ rest)) 0 in
    let e1 = version_again 1 (fields_1 image ++ rest) (0 + 4) (omega arith) refl in
    let e2 = contents_1_again image rest (0 + 4 + 2) (has_areas image is) in
    (e2.0, ap (λ (t : List ℕ). contents_at (start_of t)) regrouped ∙ rw (e0, e1) e2.1)

contents_again_2 : (image : Image) (rest : List ℕ) → IsImage image → (end : ℕ) × (contents_at (start_of (spelling_2 image ++ rest)) ≡ Ok (record { image = image; complete = true; end = record { place = end; rest = rest } }))
unfolding contents_at
contents_again_2 image rest is =
    let regrouped : spelling_2 image ++ rest ≡ magic ++ (word 2 ++ (fields_2 image ++ rest)) = append_assoc magic (word 2 ++ fields_2 image) rest ∙ ap (λ (t : List ℕ). magic ++ t) (append_assoc (word 2) (fields_2 image) rest) in
    let e0 = magic_again (word 2 ++ (fields_2 image ++ rest)) 0 in
    let e1 = version_again 2 (fields_2 image ++ rest) (0 + 4) (omega arith) refl in
    let e2 = contents_2_again image rest (0 + 4 + 2) (has_areas image is) in
    (e2.0, ap (λ (t : List ℕ). contents_at (start_of t)) regrouped ∙ rw (e0, e1) e2.1)

contents_again : (image : Image) (bytes rest : List ℕ) → IsSpelled image bytes → (end : ℕ) × (contents_at (start_of (bytes ++ rest)) ≡ Ok (record { image = image; complete = true; end = record { place = end; rest = rest } }))
contents_again image bytes rest (inl first) =
    let e = contents_again_1 image rest first.image_is in
    (e.0, ap (λ (t : List ℕ). contents_at (start_of (t ++ rest))) first.spelled ∙ e.1)
contents_again image bytes rest (inr second) =
    let e = contents_again_2 image rest second.image_is in
    (e.0, ap (λ (t : List ℕ). contents_at (start_of (t ++ rest))) second.spelled ∙ e.1)

pub image_again : (image : Image) (bytes : List ℕ) → IsSpelled image bytes → image_of bytes ≡ Ok image
unfolding image_of ended
image_again image bytes spelled =
    let e = contents_again image bytes [] spelled in
    let read : contents_at (start_of bytes) ≡ Ok (record { image = image; complete = true; end = record { place = e.0; rest = [] } }) = ap (λ (t : List ℕ). contents_at (start_of t)) (sym (append-nil bytes)) ∙ e.1 in
    let begins = (spelled_image image bytes spelled).begins in
    rw (read, begins) refl

abbrev done : Contents → Result Contents ImageError
done x = Ok x

done_is : (x y : Contents) → done x ≡ done y → x ≡ y
done_is x y e = cc

-- no spelling begins another
pub one_spelling_law : (a b : Image) (x y rest : List ℕ) → IsSpelled a x → IsSpelled b y → x ++ rest ≡ y → (a ≡ b) × (rest ≡ [])
one_spelling_law a b x y rest of_a of_b e =
    let read_a = contents_again a x rest of_a in
    let read_b = contents_again b y [] of_b in
    let same : contents_at (start_of (x ++ rest)) ≡ contents_at (start_of (y ++ [])) = ap (λ (t : List ℕ). contents_at (start_of t)) (e ∙ sym (append-nil y)) in
    let is = done_is (record { image = a; complete = true; end = record { place = read_a.0; rest = rest } }) (record { image = b; complete = true; end = record { place = read_b.0; rest = [] } }) (sym read_a.1 ∙ same ∙ read_b.1) in
    (ap (λ (c : Contents). c.image) is, ap (λ (c : Contents). c.end.rest) is)
