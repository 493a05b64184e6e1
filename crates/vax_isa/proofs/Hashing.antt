-- The buckets: a word in letters of either case has one bucket, and what a bucket gives is the instruction with that name.
use Rattle.std.proofs.Common.{◌≡◌, ℕ, zero, suc, ◌+◌, ◌*◌, ◌%◌, ◌==◌, ◌||◌, Bool, true, false, cond, List, [], ◌∷◌, All, IfSome, Option, Some, None, find, filter_map, map, nat_lt, option_map, refl, sym, ◌∙◌, ap, subst, arith, slice_index_or}
use Rattle.std.proofs.lemmas.Bool.{and_parts, eqb-true, ltb-true}
use Rattle.std.proofs.lemmas.Bool.Decides.{nat_tests}
use Rattle.std.proofs.lemmas.List.Sums.{AllPass-from_list_all}
use Rattle.std.proofs.lemmas.Slice.Eq.{bytes_eq-Decides}
use Rattle.std.specs.Char.{to_ascii_lowercase}
use Rattle.std.specs.List.{fold, list_all, cons_option}
use Rattle.std.specs.Str.{str_eq_ignore_ascii_case, str_to_ascii_lowercase}
use Rattle.vax_isa.specs.declared.table.Entry.{Entry}
use Rattle.vax_isa.specs.Buckets.{are_bytes, has_opcode, hash_more, hash_of, is_in_bucket}
use Rattle.vax_isa.specs.Entries.{Listing, counted, entries, entry_listing, entry_row, first_named, listing_at, listing_of, slots_of}
use Rattle.vax_isa.specs.Instructions.{Instruction, instructions}
use Rattle.vax_isa.specs.Rows.{Plain, row_of, with_opcode, with_name, is_one_of, names_of}
use Rattle.vax_isa.proofs.Laws.{only_name, only_opcode, slot_listing}
use Rattle.vax_isa.proofs.Lists.{IfSome-find, find_map}

-- a word's bucket doesn't depend on the case of its letters

last_bits : (c : ℕ) → to_ascii_lowercase c % 32 ≡ c % 32
last_bits c = grind (arith, nat_tests)

hash_lower : (hash : ℕ) (word : List ℕ) → fold hash_more hash (str_to_ascii_lowercase word) ≡ fold hash_more hash word
hash_lower hash [] = refl
hash_lower hash (c ∷ word) =
    ap (λ (bits : ℕ). fold hash_more ((hash * 7 % 256 + bits) % 256) (str_to_ascii_lowercase word)) (last_bits c)
    ∙ hash_lower (hash_more hash c) word

hash_alike : (a b : List ℕ) → str_eq_ignore_ascii_case a b ≡ true → hash_of a ≡ hash_of b
hash_alike a b e =
    let same : str_to_ascii_lowercase a ≡ str_to_ascii_lowercase b = (bytes_eq-Decides (str_to_ascii_lowercase a) (str_to_ascii_lowercase b)).0 e in
    sym (hash_lower 0 a) ∙ ap (fold hash_more 0) same ∙ hash_lower 0 b

-- each instruction stands in the bucket of each word that is a name of it

in_bucket : (buckets : List (List ℕ)) (i : Instruction) (names : List (List ℕ)) (text : List ℕ) → list_all (is_in_bucket buckets i) names ≡ true → is_one_of names text ≡ true → is_in_bucket buckets i text ≡ true
in_bucket buckets i [] text all is = absurd (cc)
in_bucket buckets i (name ∷ names) text all is =
    let parts : (is_in_bucket buckets i name ≡ true) × (list_all (is_in_bucket buckets i) names ≡ true) = and_parts _ _ all in
    either (str_eq_ignore_ascii_case name text) refl is parts.0 (in_bucket buckets i names text parts.1)
  where
    either : (b : Bool) → str_eq_ignore_ascii_case name text ≡ b → (b || is_one_of names text) ≡ true → is_in_bucket buckets i name ≡ true → (is_one_of names text ≡ true → is_in_bucket buckets i text ≡ true) → is_in_bucket buckets i text ≡ true
    either true same is here rest = subst (λ (hash : ℕ). has_opcode (slice_index_or buckets hash []) i ≡ true) (hash_alike name text same) here
    either false other is here rest = rest is

pub all_candidates : (buckets : List (List ℕ)) → list_all (λ i. list_all (is_in_bucket buckets i) (names_of i)) instructions ≡ true → (text : List ℕ) (hash : ℕ) → hash ≡ hash_of text →
    All (λ i. is_one_of (names_of i) text ≡ true → has_opcode (slice_index_or buckets hash []) i ≡ true) instructions
all_candidates buckets all text hash e k d inside is =
    let i = slice_index_or instructions k d in
    let held : list_all (is_in_bucket buckets i) (names_of i) ≡ true = AllPass-from_list_all (λ i. list_all (is_in_bucket buckets i) (names_of i)) instructions all k d inside in
    subst (λ (h : ℕ). has_opcode (slice_index_or buckets h []) i ≡ true) (sym e) (in_bucket buckets i (names_of i) text held is)

pub bytes_at : (buckets : List (List ℕ)) (hash : ℕ) → list_all are_bytes buckets ≡ true → are_bytes (slice_index_or buckets hash []) ≡ true
bytes_at [] hash e = refl
bytes_at (bucket ∷ buckets) zero e = (and_parts _ _ e).0
bytes_at (bucket ∷ buckets) (suc hash) e = bytes_at buckets hash (and_parts _ _ e).1

-- what some opcodes give, of which one is the opcode of the instruction that is looked for

abbrev IsMet : (ℕ → Option Instruction) → (Instruction → Bool) → List ℕ → Instruction → Type 0
IsMet at test codes i = (test i ≡ true) × (at i.opcode ≡ Some i) × (has_opcode codes i ≡ true)

skipped : (at : ℕ → Option Instruction) (test : Instruction → Bool) (code : ℕ) (codes : List ℕ) (w : Option Instruction) → IfSome (at code) (λ i. test i ≡ false) → IfSome w (IsMet at test (code ∷ codes)) → IfSome w (IsMet at test codes)
skipped at test code codes None missed met = tt
skipped at test code codes (Some i) missed met = (met.0, met.1, either (code == i.opcode) refl met.2)
  where
    either : (b : Bool) → (code == i.opcode) ≡ b → (b || has_opcode codes i) ≡ true → has_opcode codes i ≡ true
    either true same is =
        let here : at code ≡ Some i = ap at (eqb-true code i.opcode same) ∙ met.1 in
        let not : test i ≡ false = subst (λ (o : Option Instruction). IfSome o (λ i. test i ≡ false)) here missed in
        absurd (cc)
    either false other is = is

find_met : (at : ℕ → Option Instruction) (test : Instruction → Bool) (w : Option Instruction) → ((code : ℕ) → IfSome (at code) (λ i. test i ≡ true → w ≡ Some i)) → (codes : List ℕ) → IfSome w (IsMet at test codes) → find test (filter_map at codes) ≡ w
find_met at test None only [] met = refl
find_met at test (Some i) only [] met = absurd (cc)
find_met at test w only (code ∷ codes) met =
    found (at code) (only code) (λ missed. find_met at test w only codes (skipped at test code codes w missed met))
  where
    tested : (i : Instruction) (b : Bool) → test i ≡ b → (test i ≡ true → w ≡ Some i) → (test i ≡ false → find test (filter_map at codes) ≡ w) → cond b (Some i) (find test (filter_map at codes)) ≡ w
    tested i true e is rest = sym (is e)
    tested i false e is rest = rest e

    found : (o : Option Instruction) → IfSome o (λ i. test i ≡ true → w ≡ Some i) → (IfSome o (λ i. test i ≡ false) → find test (filter_map at codes) ≡ w) → find test (cons_option o (filter_map at codes)) ≡ w
    found None is rest = rest tt
    found (Some i) is rest = tested i (test i) refl is rest

-- the slots of some opcodes

cons_alike : (x : Option Entry) (y : Option Instruction) (xs : List Entry) (ys : List Instruction) → option_map entry_listing x ≡ option_map listing_of y → map entry_listing xs ≡ map listing_of ys → map entry_listing (cons_option x xs) ≡ map listing_of (cons_option y ys)
cons_alike None None xs ys e rest = rest
cons_alike None (Some i) xs ys e rest = absurd (cc)
cons_alike (Some entry) None xs ys e rest = absurd (cc)
cons_alike (Some entry) (Some i) xs ys e rest = let first : entry_listing entry ≡ listing_of i = cc in cc

listed_at : (slots : List (Option Entry)) → map (option_map entry_listing) slots ≡ map listing_at (counted 0 256) → (codes : List ℕ) → are_bytes codes ≡ true → map entry_listing (entries (slots_of slots codes)) ≡ map listing_of (filter_map with_opcode codes)
listed_at slots listed [] bytes = refl
listed_at slots listed (code ∷ codes) bytes =
    let parts : (nat_lt code 256 ≡ true) × (are_bytes codes ≡ true) = and_parts _ _ bytes in
    cons_alike (slice_index_or slots code None) (with_opcode code) (entries (slots_of slots codes)) (filter_map with_opcode codes)
    (slot_listing slots listed code (ltb-true code 256 parts.0)) (listed_at slots listed codes parts.1)

pub found_among : (text : List ℕ) (codes : List ℕ) → All (λ i. is_one_of (names_of i) text ≡ true → has_opcode codes i ≡ true) instructions → find (λ i. is_one_of (names_of i) text) (filter_map with_opcode codes) ≡ with_name text
unfolding with_opcode with_name
found_among text codes complete =
    let test : Instruction → Bool = λ i. is_one_of (names_of i) text in
    find_met with_opcode test (with_name text)
    (λ code. IfSome-find (λ i. test i ≡ true → with_name text ≡ Some i) (λ i. i.opcode == code) instructions (λ k d inside _. only_name text k d inside))
    codes
    (IfSome-find (IsMet with_opcode test codes) test instructions
    (λ k d inside is. (is, only_opcode (slice_index_or instructions k d).opcode k d inside refl, complete k d inside is)))

pub row_named : (slots : List (Option Entry)) → map (option_map entry_listing) slots ≡ map listing_at (counted 0 256) → (codes : List ℕ) → are_bytes codes ≡ true → (text : List ℕ) → All (λ i. is_one_of (names_of i) text ≡ true → has_opcode codes i ≡ true) instructions →
    option_map entry_row (first_named (slots_of slots codes) text) ≡ option_map row_of (with_name text)
row_named slots listed codes bytes text complete =
    let value : Listing → Plain = λ l. l.row in
    let test : Listing → Bool = λ l. is_one_of l.names text in
    find_map entry_listing value test (entries (slots_of slots codes))
    ∙ ap (λ (ls : List Listing). option_map value (find test ls)) (listed_at slots listed codes bytes)
    ∙ sym (find_map listing_of value test (filter_map with_opcode codes))
    ∙ ap (option_map row_of) (found_among text codes complete)
