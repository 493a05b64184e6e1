-- The fields that both versions have: what is read was written so, and what was written is read again.
use Rattle.std.proofs.Common.{◌≡◌, ℕ, zero, suc, ◌+◌, ◌*◌, ◌^◌, ◌<◌, ◌≤◌, Bool, true, false, eqb, ltb, ◌||◌, List, ◌++◌, Ok, refl, sym, ap, subst, ◌∙◌, arith}
use Rattle.std.specs.Prelude.{not}
use Rattle.std.specs.Str.{bytes_eq}
use Rattle.std.proofs.lemmas.Bool.{ltb-false, le-ltb, eqb-false, ne_eqb}
use Rattle.std.proofs.lemmas.Slice.Eq.{bytes_eq-Decides}
use Rattle.vax_space.specs.Faults.{is_protection}
use Rattle.vax_image.specs.declared.Base.{Base}
use Rattle.vax_image.specs.declared.Base.TheVariants.{Bare, User}
use Rattle.vax_image.specs.Kinds.{no_magic, other_version, other_base, wrong_count, wrong_pages, no_protection, wrong_length}
use Rattle.vax_image.specs.Image.{end_page}
use Rattle.vax_image.specs.File.{word, longword, magic, base_number}
use Rattle.vax_image.specs.Reading.{Cursor, ◌>>=◌, unless, bytes_at, number_at, magic_at, version_at, base_of, base_at, count_at, text_count_at, pages_at, protection_at, length_at}
use Rattle.vax_image.proofs.Steps.{IsBytes, bind_ok, unless_ok, Takes, Takes-then, bytes_take, bytes_again, wide2, wide4, number_takes, number_again, checked_takes, checked_again}

pub not_false : (b : Bool) → not b ≡ false → b ≡ true
not_false true e = refl
not_false false e = absurd cc

pub or_false : (a b : Bool) → (a || b) ≡ false → (a ≡ false) × (b ≡ false)
or_false true b e = absurd cc
or_false false b e = (refl, e)

-- ---- the letters

pub magic_takes : (c x : Cursor) → IsBytes c.rest → magic_at c ≡ Ok x → Takes c magic x
unfolding magic_at
magic_takes c x fits e =
    let a = bind_ok (bytes_at 4 c) (λ field. unless (not (bytes_eq field.0 magic)) c.place no_magic field.1) x e in
    let t = bytes_take 4 c a.0 fits a.1 in
    let g = unless_ok (not (bytes_eq a.0.0 magic)) c.place no_magic a.0.1 x a.2 in
    let is : a.0.0 ≡ magic = (bytes_eq-Decides a.0.0 magic).0 (not_false _ g.0) in
    subst (λ (y : Cursor). Takes c magic y) g.1 (subst (λ (text : List ℕ). Takes c text a.0.1) is t.0)

pub magic_again : (rest : List ℕ) (place : ℕ) → magic_at (record { place = place; rest = magic ++ rest }) ≡ Ok (record { place = place + 4; rest = rest })
unfolding magic_at
magic_again rest place = rw (bytes_again 4 magic rest place refl) refl

-- ---- the version

pub version_takes : (c : Cursor) (x : ℕ × Cursor) → IsBytes c.rest → version_at c ≡ Ok x → Takes c (word x.0) x.1 × ((eqb x.0 1 || eqb x.0 2) ≡ true)
unfolding version_at
version_takes c x fits e =
    let f = checked_takes 2 wide2 (λ n. not (eqb n 1 || eqb n 2)) other_version (λ n. n) c x fits e in
    subst (λ (k : ℕ). Takes c (word k) x.1 × ((eqb k 1 || eqb k 2) ≡ true)) f.is (f.takes, not_false _ f.sound)

pub version_again : (n : ℕ) (rest : List ℕ) (place : ℕ) → n < 256 ^ 2 → (eqb n 1 || eqb n 2) ≡ true → version_at (record { place = place; rest = word n ++ rest }) ≡ Ok (n, record { place = place + 2; rest = rest })
unfolding version_at
version_again n rest place small is = checked_again 2 (λ k. not (eqb k 1 || eqb k 2)) other_version (λ k. k) n rest place small (ap not is)

-- ---- the base

base_back : (n : ℕ) → ltb 1 n ≡ false → base_number (base_of n) ≡ n
base_back zero h = refl
base_back (suc zero) h = refl
base_back (suc (suc n)) h = absurd (omega (arith, ltb-false _ _ h))

pub base_takes : (c : Cursor) (x : Base × Cursor) → IsBytes c.rest → base_at c ≡ Ok x → Takes c (word (base_number x.0)) x.1
unfolding base_at
base_takes c x fits e =
    let f = checked_takes 2 wide2 (λ n. ltb 1 n) other_base base_of c x fits e in
    let number : f.value ≡ base_number x.0 = sym (base_back f.value f.sound) ∙ ap base_number f.is in
    subst (λ (k : ℕ). Takes c (word k) x.1) number f.takes

pub base_again : (base : Base) (rest : List ℕ) (place : ℕ) → base_at (record { place = place; rest = word (base_number base) ++ rest }) ≡ Ok (base, record { place = place + 2; rest = rest })
unfolding base_at
base_again Bare rest place = checked_again 2 (λ n. ltb 1 n) other_base base_of 0 rest place (omega arith) refl
base_again User rest place = checked_again 2 (λ n. ltb 1 n) other_base base_of 1 rest place (omega arith) refl

-- ---- counts

pub count_takes : (c : Cursor) (x : ℕ × Cursor) → IsBytes c.rest → count_at c ≡ Ok x → Takes c (longword x.0) x.1 × (0 < x.0) × (x.0 ≤ 64)
unfolding count_at
count_takes c x fits e =
    let f = checked_takes 4 wide4 (λ n. eqb n 0 || ltb 64 n) wrong_count (λ n. n) c x fits e in
    let s = or_false (eqb f.value 0) (ltb 64 f.value) f.sound in
    let some : 0 < f.value = omega (arith, eqb-false f.value 0 s.0) in
    subst (λ (k : ℕ). Takes c (longword k) x.1 × (0 < k) × (k ≤ 64)) f.is (f.takes, some, ltb-false _ _ s.1)

pub count_again : (n : ℕ) (rest : List ℕ) (place : ℕ) → 0 < n → n ≤ 64 → count_at (record { place = place; rest = longword n ++ rest }) ≡ Ok (n, record { place = place + 4; rest = rest })
unfolding count_at
count_again n rest place some few =
    let sound : (eqb n 0 || ltb 64 n) ≡ false = rw (ne_eqb n 0 (λ e. omega arith), le-ltb 64 n few) refl in
    checked_again 4 (λ k. eqb k 0 || ltb 64 k) wrong_count (λ k. k) n rest place (omega arith) sound

pub text_count_takes : (c : Cursor) (x : ℕ × Cursor) → IsBytes c.rest → text_count_at c ≡ Ok x → Takes c (longword x.0) x.1 × (x.0 ≤ 64)
unfolding text_count_at
text_count_takes c x fits e =
    let f = checked_takes 4 wide4 (λ n. ltb 64 n) wrong_count (λ n. n) c x fits e in
    subst (λ (k : ℕ). Takes c (longword k) x.1 × (k ≤ 64)) f.is (f.takes, ltb-false _ _ f.sound)

pub text_count_again : (n : ℕ) (rest : List ℕ) (place : ℕ) → n ≤ 64 → text_count_at (record { place = place; rest = longword n ++ rest }) ≡ Ok (n, record { place = place + 4; rest = rest })
unfolding text_count_at
text_count_again n rest place few = checked_again 4 (λ k. ltb 64 k) wrong_count (λ k. k) n rest place (omega arith) (le-ltb 64 n few)

-- ---- an area's pages

pub record ArePages (base : Base) (low first pages : ℕ) : Type 0 where
  pub some : 0 < pages
  pub behind : low ≤ first
  pub within : first + pages ≤ end_page base

pub pages_take : (base : Base) (low : ℕ) (c : Cursor) (x : (ℕ × ℕ) × Cursor) → IsBytes c.rest → pages_at base low c ≡ Ok x → Takes c (longword x.0.0 ++ longword x.0.1) x.1 × ArePages base low x.0.0 x.0.1
unfolding pages_at
pages_take base low c x fits e =
    let a = bind_ok (number_at 4 c) (λ first. number_at 4 first.1 >>= λ pages. unless (eqb pages.0 0 || (ltb first.0 low || ltb (end_page base) (first.0 + pages.0))) c.place wrong_pages ((first.0, pages.0), pages.1)) x e in
    let b = bind_ok (number_at 4 a.0.1) (λ pages. unless (eqb pages.0 0 || (ltb a.0.0 low || ltb (end_page base) (a.0.0 + pages.0))) c.place wrong_pages ((a.0.0, pages.0), pages.1)) x a.2 in
    let t0 = number_takes 4 wide4 c a.0 fits a.1 in
    let t1 = number_takes 4 wide4 a.0.1 b.0 t0.0.rest_fits b.1 in
    let g = unless_ok (eqb b.0.0 0 || (ltb a.0.0 low || ltb (end_page base) (a.0.0 + b.0.0))) c.place wrong_pages ((a.0.0, b.0.0), b.0.1) x b.2 in
    let s0 = or_false (eqb b.0.0 0) (ltb a.0.0 low || ltb (end_page base) (a.0.0 + b.0.0)) g.0 in
    let s1 = or_false (ltb a.0.0 low) (ltb (end_page base) (a.0.0 + b.0.0)) s0.1 in
    let some : 0 < b.0.0 = omega (arith, eqb-false b.0.0 0 s0.0) in
    let both = Takes-then c (longword a.0.0) a.0.1 (longword b.0.0) b.0.1 t0.0 t1.0 in
    subst (λ (y : (ℕ × ℕ) × Cursor). Takes c (longword y.0.0 ++ longword y.0.1) y.1 × ArePages base low y.0.0 y.0.1) g.1 (both, record { some = some; behind = ltb-false _ _ s1.0; within = ltb-false _ _ s1.1 })

abbrev pub at_pages : ℕ → ℕ
at_pages place = place + 4 + 4

end_small : (base : Base) → end_page base ≤ 0x400800
end_small Bare = omega arith
end_small User = omega arith

pub pages_again : (base : Base) (low first pages : ℕ) (rest : List ℕ) (place : ℕ) → ArePages base low first pages → pages_at base low (record { place = place; rest = longword first ++ (longword pages ++ rest) }) ≡ Ok ((first, pages), record { place = at_pages place; rest = rest })
unfolding pages_at
pages_again base low first pages rest place are =
    let small = end_small base in
    let within = are.within in
    let some = are.some in
    let sound : (eqb pages 0 || (ltb first low || ltb (end_page base) (first + pages))) ≡ false = rw (ne_eqb pages 0 (λ e. omega arith), le-ltb first low are.behind, le-ltb (end_page base) (first + pages) within) refl in
    rw (number_again 4 first (longword pages ++ rest) place (omega arith), number_again 4 pages rest (place + 4) (omega arith), sound) refl

-- ---- an area's protection code and length

pub protection_takes : (c : Cursor) (x : ℕ × Cursor) → IsBytes c.rest → protection_at c ≡ Ok x → Takes c (longword x.0) x.1 × (is_protection x.0 ≡ true)
unfolding protection_at
protection_takes c x fits e =
    let f = checked_takes 4 wide4 (λ n. not (is_protection n)) no_protection (λ n. n) c x fits e in
    subst (λ (k : ℕ). Takes c (longword k) x.1 × (is_protection k ≡ true)) f.is (f.takes, not_false _ f.sound)

protection_small : (n : ℕ) → is_protection n ≡ true → n < 256 ^ 4
unfolding is_protection
protection_small n sound = grind arith

pub protection_again : (n : ℕ) (rest : List ℕ) (place : ℕ) → is_protection n ≡ true → protection_at (record { place = place; rest = longword n ++ rest }) ≡ Ok (n, record { place = place + 4; rest = rest })
unfolding protection_at
protection_again n rest place sound = checked_again 4 (λ k. not (is_protection k)) no_protection (λ k. k) n rest place (protection_small n sound) (ap not sound)

pub length_takes : (pages : ℕ) (c : Cursor) (x : ℕ × Cursor) → IsBytes c.rest → length_at pages c ≡ Ok x → Takes c (longword x.0) x.1 × (x.0 ≤ 512 * pages)
unfolding length_at
length_takes pages c x fits e =
    let f = checked_takes 4 wide4 (λ n. ltb (512 * pages) n) wrong_length (λ n. n) c x fits e in
    subst (λ (k : ℕ). Takes c (longword k) x.1 × (k ≤ 512 * pages)) f.is (f.takes, ltb-false _ _ f.sound)

pub length_again : (pages n : ℕ) (rest : List ℕ) (place : ℕ) → n < 256 ^ 4 → n ≤ 512 * pages → length_at pages (record { place = place; rest = longword n ++ rest }) ≡ Ok (n, record { place = place + 4; rest = rest })
unfolding length_at
length_again pages n rest place small few = checked_again 4 (λ k. ltb (512 * pages) k) wrong_length (λ k. k) n rest place small (le-ltb _ _ few)
