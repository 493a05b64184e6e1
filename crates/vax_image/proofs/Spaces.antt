-- The areas with which a program starts are a space.
use Rattle.std.proofs.Common.{◌≡◌, ℕ, zero, suc, ◌+◌, ◌*◌, ◌<◌, ◌≤◌, Bool, true, false, cond, ltb, leb, ◌||◌, ◌&&◌, List, [], ◌∷◌, ◌++◌, length, drop, get_or, Option, Some, None, refl, sym, ap, subst, ◌∙◌, arith}
use Rattle.std.specs.Prelude.{slice_get, option_and_then, IfSome}
use Rattle.std.proofs.lemmas.Bool.{ltb-false, leb-true, leb-false, lt-ltb, le-ltb, le-leb}
use Rattle.std.proofs.lemmas.List.{length-append, length-drop}
use Rattle.vax_space.specs.declared.Area.{Area}
use Rattle.vax_space.specs.Areas.{end_of, has_page}
use Rattle.vax_space.specs.Faults.{is_between, is_placed, is_protection, end_before, fault_of, fault_at, IsSpace}
use Rattle.vax_image.specs.declared.Base.{Base}
use Rattle.vax_image.specs.declared.Base.TheVariants.{Bare, User}
use Rattle.vax_image.specs.declared.Image.{Image}
use Rattle.vax_image.specs.Image.{first_page, end_page, IsAreaFrom, AscendFrom, IsImage}
use Rattle.vax_image.specs.Start.{area, vectors, stacks, system_stacks, with_vectors, with_control_block, user_areas, start_areas}

-- an area of a space that stands at page `low` or behind it
record IsSound (low : ℕ) (a : Area) : Type 0 where
  behind : low ≤ a.first
  placed : is_placed a ≡ true
  code : is_protection a.prot ≡ true
  bytes : length a.bytes ≤ 512 * a.pages

abbrev AreSoundFrom : ℕ → List Area → Type 0
AreSoundFrom low [] = Unit {0}
AreSoundFrom low (a ∷ xs) = IsSound low a × AreSoundFrom (end_of a) xs

abbrev end_from : ℕ → List Area → ℕ
end_from low [] = low
end_from low (a ∷ xs) = end_from (end_of a) xs

sound_append : (low : ℕ) (xs ys : List Area) → AreSoundFrom low xs → AreSoundFrom (end_from low xs) ys → AreSoundFrom low (xs ++ ys)
sound_append low [] ys front back = back
sound_append low (x ∷ xs) ys front back = (front.0, sound_append (end_of x) xs ys front.1 back)

end_append : (low : ℕ) (xs ys : List Area) → end_from low (xs ++ ys) ≡ end_from (end_from low xs) ys
end_append low [] ys = refl
end_append low (x ∷ xs) ys = end_append (end_of x) xs ys

sound_later : (low high : ℕ) (xs : List Area) → low ≤ high → AreSoundFrom high xs → AreSoundFrom low xs
sound_later low high [] le sound = tt
sound_later low high (x ∷ xs) le sound =
    let behind = sound.0.behind in
    (record { behind = omega arith; placed = sound.0.placed; code = sound.0.code; bytes = sound.0.bytes }, sound.1)

-- ---- no area is at fault

no_fault : (low place : ℕ) (a : Area) → IsSound low a → fault_of low place a ≡ None
unfolding fault_of
no_fault low place a sound = rw (le-ltb a.first low sound.behind, sound.placed, sound.code, le-ltb (512 * a.pages) (length a.bytes) sound.bytes) refl

abbrev end_at : ℕ → List Area → ℕ → ℕ
end_at low xs zero = low
end_at low [] (suc k) = 0
end_at low (a ∷ xs) (suc k) = end_at (end_of a) xs k

end_at_suc : (low high : ℕ) (xs : List Area) (k : ℕ) → end_at low xs (suc k) ≡ end_at high xs (suc k)
end_at_suc low high [] k = refl
end_at_suc low high (a ∷ xs) k = refl

end_before_is : (xs : List Area) (k : ℕ) → end_before xs k ≡ end_at 0 xs k
end_before_is xs zero = refl
end_before_is [] (suc k) = refl
end_before_is (a ∷ xs) (suc zero) = refl
end_before_is (a ∷ xs) (suc (suc k)) = end_before_is xs (suc k) ∙ end_at_suc 0 (end_of a) xs k

sound_at : (low k place : ℕ) (xs : List Area) → AreSoundFrom low xs → option_and_then (fault_of (end_at low xs k) place) (slice_get xs k) ≡ None
sound_at low k place [] sound = refl
sound_at low zero place (a ∷ xs) sound = no_fault low place a sound.0
sound_at low (suc k) place (a ∷ xs) sound = sound_at (end_of a) k place xs sound.1

space_of : (xs : List Area) → AreSoundFrom 0 xs → IsSpace xs
unfolding fault_at
space_of xs sound = record { sound = λ place. rw (end_before_is xs place) (sound_at 0 place place xs sound) }

-- ---- the areas of images

third_true : (a b c : Bool) → c ≡ true → ((a || b) || c) ≡ true
third_true true b c e = refl
third_true false true c e = refl
third_true false false c e = e

placed_in : (base : Base) (a : Area) → first_page base ≤ a.first → 0 < a.pages → end_of a ≤ end_page base → is_placed a ≡ true
unfolding is_placed
placed_in User a low some high =
    let one : ltb 0 a.pages ≡ true = lt-ltb 0 a.pages some in
    let two : is_between 0 0x8000 a ≡ true = rw (le-leb 0 a.first (omega arith), le-leb (end_of a) 0x8000 high) refl in
    rw (one, two) refl
placed_in Bare a low some high =
    let one : ltb 0 a.pages ≡ true = lt-ltb 0 a.pages some in
    let three : is_between 0x400000 0x401000 a ≡ true = rw (le-leb 0x400000 a.first low, le-leb (end_of a) 0x401000 (omega arith)) refl in
    rw one (third_true (is_between 0 0x8000 a) (is_between 0x3F8000 0x400000 a) (is_between 0x400000 0x401000 a) three)

area_sound : (base : Base) (low : ℕ) (a : Area) → first_page base ≤ low → IsAreaFrom base low a → IsSound low a
area_sound base low a least is =
    let behind = is.behind in
    record { behind = behind; placed = placed_in base a (omega arith) is.some is.within; code = is.code; bytes = is.bytes }

areas_sound : (base : Base) (low : ℕ) (xs : List Area) → first_page base ≤ low → AscendFrom base low xs → AreSoundFrom low xs
areas_sound base low [] least ascend = tt
areas_sound base low (a ∷ xs) least ascend =
    let behind = ascend.0.behind in
    (area_sound base low a least ascend.0, areas_sound base (end_of a) xs (omega arith) ascend.1)

areas_end_low : (base : Base) (low : ℕ) (xs : List Area) → low ≤ end_page base → AscendFrom base low xs → end_from low xs ≤ end_page base
areas_end_low base low [] le ascend = le
areas_end_low base low (a ∷ xs) le ascend = areas_end_low base (end_of a) xs ascend.0.within ascend.1

-- ---- the other areas

stacks_sound : (low : ℕ) → low ≤ 0x3FFF00 → AreSoundFrom low stacks
unfolding is_placed is_protection
stacks_sound low le = (
  record { behind = le; placed = refl; code = refl; bytes = omega arith },
  (
    record { behind = omega arith; placed = refl; code = refl; bytes = omega arith },
    (record { behind = omega arith; placed = refl; code = refl; bytes = omega arith }, tt),
  ),
)

system_stacks_sound : (low : ℕ) → low ≤ 0x400800 → AreSoundFrom low system_stacks
unfolding is_placed is_protection
system_stacks_sound low le = (
  record { behind = le; placed = refl; code = refl; bytes = omega arith },
  (record { behind = omega arith; placed = refl; code = refl; bytes = omega arith }, tt),
)

vectors_len : length vectors ≡ 512
vectors_len = refl

block_sound : IsSound 0x400000 (area 0x400000 1 2 vectors)
unfolding is_placed is_protection
block_sound = record { behind = omega arith; placed = refl; code = refl; bytes = omega (arith, vectors_len) }

vectors_fit : (a : Area) → 0 < a.pages → length a.bytes ≤ 512 * a.pages → length (with_vectors a).bytes ≤ 512 * a.pages
vectors_fit a some few = omega (arith, length-append a.bytes (drop (length a.bytes) vectors), length-drop (length a.bytes) vectors, vectors_len)

with_vectors_sound : (low : ℕ) (a : Area) → 0 < a.pages → IsSound low a → IsSound low (with_vectors a)
unfolding is_placed
with_vectors_sound low a some sound = record { behind = sound.behind; placed = sound.placed; code = sound.code; bytes = vectors_fit a some sound.bytes }

by_test : (a : Area) → 0x400000 ≤ a.first → 0 < a.pages → (b : Bool) → leb a.first 0x400000 ≡ b → (b && ltb 0x400000 (end_of a)) ≡ false → 0x400001 ≤ a.first
by_test a low some true e h = let le = leb-true _ _ e in let past = ltb-false _ _ h in omega arith
by_test a low some false e h = let lt = leb-false _ _ e in omega arith

-- an area of a system that doesn't have the control block's page stands behind it
behind_block : (a : Area) → 0x400000 ≤ a.first → 0 < a.pages → has_page a 0x400000 ≡ false → 0x400001 ≤ a.first
unfolding has_page
behind_block a low some h = by_test a low some (leb a.first 0x400000) refl h

record IsSystemPart (xs : List Area) : Type 0 where
  sound : AreSoundFrom 0x400000 xs
  ends : end_from 0x400000 xs ≤ 0x400800

block_by_test : (a : Area) (xs : List Area) → AscendFrom Bare 0x400000 (a ∷ xs) → (b : Bool) → has_page a 0x400000 ≡ b → IsSystemPart (cond b (with_vectors a ∷ xs) (area 0x400000 1 2 vectors ∷ a ∷ xs))
block_by_test a xs ascend true e =
    let sound = areas_sound Bare 0x400000 (a ∷ xs) (omega arith) ascend in
    record { sound = (with_vectors_sound 0x400000 a ascend.0.some sound.0, sound.1); ends = areas_end_low Bare 0x400000 (a ∷ xs) (omega arith) ascend }
block_by_test a xs ascend false e =
    let sound = areas_sound Bare 0x400000 (a ∷ xs) (omega arith) ascend in
    let behind : 0x400001 ≤ a.first = behind_block a ascend.0.behind ascend.0.some e in
    record {
      sound = (block_sound, (record { behind = behind; placed = sound.0.placed; code = sound.0.code; bytes = sound.0.bytes }, sound.1));
      ends = areas_end_low Bare 0x400000 (a ∷ xs) (omega arith) ascend;
    }

control_block_sound : (xs : List Area) → AscendFrom Bare 0x400000 xs → IsSystemPart (with_control_block xs)
unfolding with_control_block
control_block_sound [] ascend = record { sound = (block_sound, tt); ends = omega arith }
control_block_sound (a ∷ xs) ascend = block_by_test a xs ascend (has_page a 0x400000) refl

end_zero : (xs : List Area) → AscendFrom User 1 xs → end_from 0 xs ≤ 0x8000
end_zero [] ascend = omega arith
end_zero (a ∷ xs) ascend = areas_end_low User (end_of a) xs ascend.0.within ascend.1

user_sound : (user : Option Image) → IfSome user IsImage → IfSome user (λ image. image.base ≡ User) → AreSoundFrom 0 (user_areas user) × (end_from 0 (user_areas user) ≤ 0x8000)
user_sound None is base = (tt, omega arith)
user_sound (Some image) is base =
    let ascend : AscendFrom User 1 image.areas = subst (λ (b : Base). AscendFrom b (first_page b) image.areas) base is.areas in
    (sound_later 0 1 image.areas (omega arith) (areas_sound User 1 image.areas (omega arith) ascend), end_zero image.areas ascend)

pub start_sound : (system : Image) (user : Option Image) → IsImage system → system.base ≡ Bare → IfSome user IsImage → IfSome user (λ image. image.base ≡ User) → IsSpace (start_areas system user)
unfolding start_areas
start_sound system user is bare user_is user_base =
    let ascend : AscendFrom Bare 0x400000 system.areas = subst (λ (b : Base). AscendFrom b (first_page b) system.areas) bare is.areas in
    let block = control_block_sound system.areas ascend in
    let user_part = user_sound user user_is user_base in
    let system_part : AreSoundFrom 0x400000 (with_control_block system.areas ++ system_stacks) = sound_append 0x400000 (with_control_block system.areas) system_stacks block.sound (system_stacks_sound _ block.ends) in
    let low : end_from 0 (user_areas user) ≤ 0x3FFF00 = (let h = user_part.1 in omega arith) in
    let upper : AreSoundFrom (end_from 0 (user_areas user)) (stacks ++ (with_control_block system.areas ++ system_stacks)) = sound_append _ stacks (with_control_block system.areas ++ system_stacks) (stacks_sound _ low) system_part in
    space_of _ (sound_append 0 (user_areas user) (stacks ++ (with_control_block system.areas ++ system_stacks)) user_part.0 upper)

-- a system without the control block's page has its areas behind the control block
pub control_plain : (xs : List Area) (a : Area) → a ≡ get_or xs 0 a → 0 < length xs → has_page a 0x400000 ≡ false → with_control_block xs ≡ area 0x400000 1 2 vectors ∷ xs
unfolding with_control_block
control_plain [] a at some h = absurd (omega arith)
control_plain (x ∷ xs) a at some h =
    let e : has_page x 0x400000 ≡ false = ap (λ (y : Area). has_page y 0x400000) (sym at) ∙ h in
    rw e refl
