-- An entry that is written in the bytes of the tables is read again, and every other entry is as before.
use Rattle.std.proofs.Common.{◌≡◌, ℕ, ◌+◌, ◌*◌, ◌<◌, ◌≤◌, ◌^◌, true, false, List, ◌++◌, length, refl, ◌∙◌, ap, sym, arith, get_or, drop, take, inl, inr, nat_eq, length-take-le, length-drop}
use Rattle.std.proofs.lemmas.Bool.{cases_eq, cases_lt}
use Rattle.std.proofs.lemmas.Bool.Decides.{nat_tests}
use Rattle.std.proofs.lemmas.List.{get_or-drop, get_or_append_left, get_or-take}
use Rattle.std.proofs.lemmas.Slice.{drop-put_mid}
use Rattle.std.proofs.Math.Seq.{drop-append_seam}
use borrow.Rule.Slice.PartMut.{put_mid, post_of}
use Rattle.byteorder.specs.Endian.{little_number, little_bytes}
use Rattle.byteorder.specs.Numbers.{little_number-reads_back}
use Rattle.vax_table.specs.Entry.{entry_at}
use Rattle.vax_table.specs.Mapping.{changed}

byte_at : (xs : List ℕ) (place k : ℕ) → get_or (drop (4 * place) xs) k 0 ≡ get_or xs (4 * place + k) 0
byte_at xs place k = get_or-drop (4 * place) xs k 0

-- four bytes decide an entry
entry_same : (old new : List ℕ) (place : ℕ) → ((k : ℕ) → k < 4 → get_or new (4 * place + k) 0 ≡ get_or old (4 * place + k) 0) → entry_at new place ≡ entry_at old place
unfolding entry_at
entry_same old new place same =
    let at : (k : ℕ) → k < 4 → get_or (drop (4 * place) new) k 0 ≡ get_or (drop (4 * place) old) k 0 =
    λ k h. byte_at new place k ∙ same k h ∙ sym (byte_at old place k) in
    let a = at 0 (omega arith) in
    let b = at 1 (omega arith) in
    let c = at 2 (omega arith) in
    let d = at 3 (omega arith) in
    omega arith

entry_before : (xs zs : List ℕ) (a place : ℕ) → 4 * place + 4 ≤ a → a ≤ length xs → entry_at (take a xs ++ zs) place ≡ entry_at xs place
entry_before xs zs a place below within = entry_same xs (take a xs ++ zs) place (λ k h.
    get_or_append_left (take a xs) zs 0 (4 * place + k) (rw (length-take-le a xs within) (omega arith))
    ∙ get_or-take a xs (4 * place + k) 0 (omega arith))

entry_here : (xs zs : List ℕ) (a place v : ℕ) → a ≡ 4 * place → a ≤ length xs → v < 2 ^ 32 → entry_at (take a xs ++ (little_bytes 4 v ++ zs)) place ≡ v
unfolding entry_at
entry_here xs zs a place v e within fits =
    let size : length (take a xs) ≡ 4 * place = length-take-le a xs within ∙ e in
    let at : drop (4 * place) (take a xs ++ (little_bytes 4 v ++ zs)) ≡ little_bytes 4 v ++ zs =
    ap (λ n. drop n (take a xs ++ (little_bytes 4 v ++ zs))) (sym size) ∙ drop-append_seam (take a xs) (little_bytes 4 v ++ zs) in
    ap (little_number 4) at ∙ little_number-reads_back 4 v zs fits

entry_after : (xs ys : List ℕ) (place n : ℕ) → place < n → 4 * place + 4 ≤ length xs → length ys ≡ 4 → entry_at (put_mid (4 * place) 4 xs ys) n ≡ entry_at xs n
unfolding entry_at
entry_after xs ys place n later within size =
    ap (little_number 4) (drop-put_mid (4 * place) 4 xs ys (4 * n) (omega arith) (omega arith) size)

entry_other : (xs ys : List ℕ) (place n : ℕ) → (n ≡ place → ⊥) → 4 * place + 4 ≤ length xs → length ys ≡ 4 → entry_at (put_mid (4 * place) 4 xs ys) n ≡ entry_at xs n
entry_other xs ys place n ne within size = elim (cases_lt n place) [
  | inl below ↦ entry_before xs (ys ++ post_of (4 * place) 4 xs) (4 * place) n (omega arith) (omega arith)
  | inr past ↦ entry_after xs ys place n (omega arith) within size
]

entry_both : (xs ys rest : List ℕ) (place v n : ℕ) → 4 * place + 4 ≤ length xs → v < 2 ^ 32 → length ys ≡ 4 → ys ≡ little_bytes 4 v ++ rest → entry_at (put_mid (4 * place) 4 xs ys) n ≡ changed (entry_at xs) place v n
unfolding changed
entry_both xs ys rest place v n within fits size is = elim (cases_eq n place) [
  | inl e ↦
      let t : nat_eq n place ≡ true = grind (arith, nat_tests) in
      rw t (rw (e, is) (entry_here xs (rest ++ post_of (4 * place) 4 xs) (4 * place) place v refl (omega arith) fits))
  | inr ne ↦
      let t : nat_eq n place ≡ false = grind (arith, nat_tests) in
      rw t (entry_other xs ys place n ne within size)
]

four : (xs : List ℕ) (a : ℕ) → a + 4 ≤ length xs → length (take 4 (drop a xs)) ≡ 4
four xs a within = length-take-le 4 (drop a xs) (omega (arith, length-drop a xs))

pub entry_put : (xs ys rest : List ℕ) (k place v n : ℕ) → k ≡ 4 → 4 * place + 4 ≤ length xs → v < 2 ^ 32 → length ys ≡ length (take k (drop (4 * place) xs)) → ys ≡ little_bytes 4 v ++ rest → entry_at (put_mid (4 * place) k xs ys) n ≡ changed (entry_at xs) place v n
entry_put xs ys rest k place v n e within fits size is =
    rw e (entry_both xs ys rest place v n within fits (size ∙ rw e (four xs (4 * place) within)) is)
