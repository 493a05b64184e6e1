-- A later part counts right, by the registers alone.
use Rattle.std.proofs.Common.{◌≡◌, ℕ, zero, suc, ◌-◌, ◌^◌, ◌<◌, ◌≤◌, ◌⊎◌, min, Bool, true, false, ◌==◌, ◌||◌, if◌then◌else◌, List, [], ◌∷◌, length, slice_index, length-set, refl, sym, ap, subst, ◌∙◌, inl, inr, arith}
use Rattle.std.proofs.lemmas.Bool.{cases_Bool, cases_lt, eqb-true}
use Rattle.vax_space.specs.declared.Area.{Area}
use Rattle.vax_strpart.specs.declared.packing.Progress.{Progress}
use Rattle.vax_strpart.specs.declared.packing.Layout.{Layout}
use Rattle.vax_strpart.specs.declared.packing.Layout.TheVariants.{Moves, Compares, Searches, Scans, Translates}
use Rattle.vax_strpart.specs.Packing.{layout_of, second_address, table_address, unpacked, unpacked_as, IsProper, AreUnusedZero}
use Rattle.vax_strpart.specs.Kernels.{is_escape}
use Rattle.vax_flat.specs.declared.Flow.{Flow}
use Rattle.vax_flat.specs.Memory.{byte_at, bytes_from}
use Rattle.vax_flat.specs.State.{State, register}
use Rattle.vax_flat.specs.Accesses.{Accesses, Leaf}
use Rattle.vax_flat.specs.Operand.{plus}
use Rattle.vax_flat.specs.Outcome.{outcome_of}
use Rattle.vax_flat.specs.String.{low_registers, continued}
use Rattle.vax_flat.specs.StringAgree.{IsBehind}
use Rattle.vax_flat.specs.StringSearch.{search_part, scan_part}
use Rattle.vax_flat.specs.StringCompare.{pairs_of, first_of, second_of, behind, compare_part}
use Rattle.vax_flat.specs.StringMove.{moved_count, move_part}
use Rattle.vax_flat.specs.StringEscape.{is_escape_reserved, escape_part}
use Rattle.vax_flat.specs.StringMatch.{places_of, match_part}
use Rattle.vax_flat.specs.StringParts.{done_within, resumed}
use Rattle.vax_flat_units.specs.Units.{Counts, to_first, search_units, scan_units, pair_units, compare_units, move_units, escape_units, place_units, stands_at, places_units, match_units, units_left}
use Rattle.vax_flat_units.proofs.Searching.{search_right, scan_right}
use Rattle.vax_flat_units.proofs.Moving.{move_right}
use Rattle.vax_flat_units.proofs.Comparing.{compare_right}
use Rattle.vax_flat_units.proofs.Escaping.{escape_right}
use Rattle.vax_flat_units.proofs.Matching.{match_right}

-- what registers hold
op_is : (opcode : ℕ) (regs : List ℕ) → (unpacked opcode regs).op ≡ opcode
unfolding unpacked
op_is opcode regs = refl

unused_of : (layout : Layout) (opcode : ℕ) (regs : List ℕ) → AreUnusedZero layout (unpacked_as layout opcode regs)
unused_of Moves opcode regs = refl
unused_of Compares opcode regs = refl
unused_of Searches opcode regs = record { len2_is = refl; addr2_is = refl; table_is = refl; done_is = refl }
unused_of Scans opcode regs = record { len2_is = refl; addr2_is = refl; table_is = refl; done_is = refl }
unused_of Translates opcode regs = tt

proper_of : (opcode : ℕ) (regs : List ℕ) → IsProper (unpacked opcode regs)
unfolding unpacked
proper_of opcode regs = record { len1 = omega arith; byte = omega arith; len2 = omega arith; unused = unused_of (layout_of opcode) opcode regs }

second_small : (layout : Layout) (regs : List ℕ) → slice_index regs 3 < 2 ^ 32 → slice_index regs 5 < 2 ^ 32 → second_address layout regs < 2 ^ 32
second_small Moves regs h k = h
second_small Compares regs h k = h
second_small Searches regs h k = omega arith
second_small Scans regs h k = omega arith
second_small Translates regs h k = k

table_small : (layout : Layout) (regs : List ℕ) → slice_index regs 3 < 2 ^ 32 → table_address layout regs < 2 ^ 32
table_small Moves regs h = omega arith
table_small Compares regs h = omega arith
table_small Searches regs h = omega arith
table_small Scans regs h = h
table_small Translates regs h = h

addresses_small : (opcode : ℕ) (s : State) → ((n : ℕ) → register s n < 2 ^ 32) → ((unpacked opcode (low_registers s)).addr1 < 2 ^ 32) × ((unpacked opcode (low_registers s)).addr2 < 2 ^ 32) × ((unpacked opcode (low_registers s)).table < 2 ^ 32)
unfolding unpacked low_registers
addresses_small opcode s words =
    let regs = register s 0 ∷ register s 1 ∷ register s 2 ∷ register s 3 ∷ register s 4 ∷ register s 5 ∷ [] in
    (words 1, second_small (layout_of opcode) regs (words 3) (words 5), table_small (layout_of opcode) regs (words 3))

-- no more is done than there is, which changes nothing
within_is : (most : ℕ) (p : Progress) → p.done ≤ most → done_within most p ≡ p
within_is most p few = let e : min p.done most ≡ p.done = omega arith in rw e refl

within_proper : (most : ℕ) (p : Progress) (layout : Layout) → ((layout ≡ Moves) ⊎ ((layout ≡ Translates) ⊎ (layout ≡ Compares))) → AreUnusedZero layout p → AreUnusedZero layout (done_within most p)
within_proper most p Moves is u = u
within_proper most p Compares is u = u
within_proper most p Translates is u = u
within_proper most p Searches (inl e) u = absurd (cc)
within_proper most p Searches (inr (inl e)) u = absurd (cc)
within_proper most p Searches (inr (inr e)) u = absurd (cc)
within_proper most p Scans (inl e) u = absurd (cc)
within_proper most p Scans (inr (inl e)) u = absurd (cc)
within_proper most p Scans (inr (inr e)) u = absurd (cc)

same_moves : (p : Progress) (m : List Area) → move_units (done_within p.len2 p) m ≡ move_units p m
unfolding move_units
same_moves p m = omega arith

no_pairs : (byte : ℕ → ℕ) (fill n m : ℕ) (p : Progress) → n ≡ 0 → m ≡ 0 → pair_units byte fill n (behind (min p.done (pairs_of p)) (first_of p)) (behind (min p.done (pairs_of p)) (second_of p)) ≡ pair_units byte fill m (behind p.done (first_of p)) (behind p.done (second_of p))
unfolding pair_units
no_pairs byte fill n m p e f = rw (e, f) refl

same_compares : (p : Progress) (m : List Area) → compare_units (done_within (pairs_of p) p) m ≡ compare_units p m
unfolding compare_units
same_compares p m = elim (cases_lt (pairs_of p) p.done) [
  | inl beyond ↦ no_pairs (byte_at m) p.byte (pairs_of p - min p.done (pairs_of p)) (pairs_of p - p.done) p (omega arith) (omega arith)
  | inr few ↦ ap (λ q. compare_units q m) (within_is (pairs_of p) p few)
]

no_bytes : (found : ℕ → Bool) (byte : ℕ → ℕ) (addr n : ℕ) → n ≡ 0 → to_first found (bytes_from byte addr n) ≡ 0
unfolding to_first bytes_from
no_bytes found byte addr n e = rw e refl

same_escapes : (p : Progress) (m : List Area) → escape_units (done_within (moved_count p) p) m ≡ escape_units p m
unfolding escape_units
same_escapes p m = elim (cases_lt (moved_count p) p.done) [
  | inl beyond ↦
      let found = is_escape (bytes_from (byte_at m) p.table 256) p.byte in
      no_bytes found (byte_at m) (plus p.addr1 (min p.done (moved_count p))) (moved_count p - min p.done (moved_count p)) (omega arith)
      ∙ sym (no_bytes found (byte_at m) (plus p.addr1 p.done) (moved_count p - p.done) (omega arith))
  | inr few ↦ ap (λ q. escape_units q m) (within_is (moved_count p) p few)
]

all_stand : (byte : ℕ → ℕ) (places : ℕ) (p : Progress) → p.len1 ≤ p.done → places_units byte places p ≡ 0
unfolding places_units place_units stands_at
all_stand byte zero p h = refl
all_stand byte (suc places) p h = let e : p.len1 - p.done ≡ 0 = omega arith in rw e refl

same_matches : (p : Progress) (m : List Area) → match_units (done_within p.len1 p) m ≡ match_units p m
unfolding match_units places_of
same_matches p m = elim (cases_lt p.len1 p.done) [
  | inl beyond ↦ all_stand (byte_at m) (places_of p) (done_within p.len1 p) (omega arith) ∙ sym (all_stand (byte_at m) (places_of p) p (omega arith))
  | inr few ↦ ap (λ q. match_units q m) (within_is p.len1 p few)
]

module _ (opcode : ℕ) (s : State) (m : List Area) (next : Flow → State → Accesses Leaf) (behind_it : IsBehind next) (full : length s.core.regs ≡ 16) (words : (n : ℕ) → register s n < 2 ^ 32) where
  abbrev p : Progress
  p = unpacked opcode (low_registers s)

  abbrev t : State
  t = continued p.delta s

  full_on : length t.core.regs ≡ 16
  unfolding continued
  full_on = length-set s.core.regs 15 (plus (register s 15) p.delta) ∙ full

  abbrev proper : IsProper p
  proper = proper_of opcode (low_registers s)

  layout_is : (layout : Layout) → layout_of opcode ≡ layout → layout_of p.op ≡ layout
  layout_is layout e = ap layout_of (op_is opcode (low_registers s)) ∙ e

  bounded : (most : ℕ) (layout : Layout) → layout_of opcode ≡ layout → ((layout ≡ Moves) ⊎ ((layout ≡ Translates) ⊎ (layout ≡ Compares))) → IsProper (done_within most p)
  bounded most layout e is = record { len1 = proper.len1; byte = proper.byte; len2 = proper.len2; unused = subst (λ l. AreUnusedZero l (done_within most p)) (sym (layout_is layout e)) (within_proper most p layout is (subst (λ l. AreUnusedZero l p) (layout_is layout e) proper.unused)) }

  abbrev Fine : (Progress → List Area → ℕ) → Accesses Leaf → Type 0
  Fine units tree = Counts units opcode (units p m) (outcome_of tree m)

  named : (units : Progress → List Area → ℕ) (tree : Accesses Leaf) → Counts units p.op (units p m) (outcome_of tree m) → Fine units tree
  named units tree r = subst (λ o. Counts units o (units p m) (outcome_of tree m)) (op_is opcode (low_registers s)) r

  moves : (translate : Bool) → layout_of opcode ≡ (if translate then Translates else Moves) → ((if translate then Translates else Moves) ≡ Moves) ⊎ (((if translate then Translates else Moves) ≡ Translates) ⊎ ((if translate then Translates else Moves) ≡ Compares)) → Fine move_units (move_part translate (done_within p.len2 p) t next)
  moves translate e is =
      named move_units _ (subst (λ n. Counts move_units p.op n (outcome_of (move_part translate (done_within p.len2 p) t next) m)) (same_moves p m)
      (move_right translate (done_within p.len2 p) t m next behind_it full_on (bounded p.len2 _ e is) (layout_is _ e) (omega arith)))

  escapes : layout_of opcode ≡ Translates → is_escape_reserved p ≡ false → Fine escape_units (escape_part (done_within (moved_count p) p) t next)
  escapes e fine =
      let a = addresses_small opcode s words in
      named escape_units _ (subst (λ n. Counts escape_units p.op n (outcome_of (escape_part (done_within (moved_count p) p) t next) m)) (same_escapes p m)
      (escape_right (done_within (moved_count p) p) t m next behind_it full_on (bounded (moved_count p) Translates e (inr (inl refl))) (layout_is Translates e) a.0 a.1 a.2 fine (omega arith)))

  searches : (equal : Bool) → Fine (search_units equal) (search_part equal p t next)
  searches equal = named (search_units equal) _ (search_right equal p t m next behind_it full_on proper (addresses_small opcode s words).0)

  scans : (some : Bool) → Fine (scan_units some) (scan_part some p t next)
  scans some = let a = addresses_small opcode s words in named (scan_units some) _ (scan_right some p t m next behind_it full_on proper a.0 a.2)

  matches : layout_of opcode ≡ Compares → Fine match_units (match_part (done_within p.len1 p) t next)
  matches e =
      named match_units _ (subst (λ n. Counts match_units p.op n (outcome_of (match_part (done_within p.len1 p) t next) m)) (same_matches p m)
      (match_right (done_within p.len1 p) t m next behind_it full_on (bounded p.len1 Compares e (inr (inr refl))) (layout_is Compares e) (omega arith)))

  compares : layout_of opcode ≡ Compares → Fine compare_units (compare_part (done_within (pairs_of p) p) t next)
  compares e =
      named compare_units _ (subst (λ n. Counts compare_units p.op n (outcome_of (compare_part (done_within (pairs_of p) p) t next) m)) (same_compares p m)
      (compare_right (done_within (pairs_of p) p) t m next behind_it full_on (bounded (pairs_of p) Compares e (inr (inr refl))) (layout_is Compares e)))

  -- by the opcode
  pick : (units : Progress → List Area → ℕ) (tree : Accesses Leaf) → ((q : Progress) (n : List Area) → units_left opcode q n ≡ units q n) → resumed opcode s next ≡ tree → Fine units tree → Fine (units_left opcode) (resumed opcode s next)
  pick units tree e g r =
      let same : units_left opcode ≡ units = λ k q n. e q n k in
      subst (λ u. Counts u opcode (u p m) (outcome_of (resumed opcode s next) m)) (sym same) (subst (λ x. Counts units opcode (units p m) (outcome_of x m)) (sym g) r)

  layout_at : (op : ℕ) (layout : Layout) → (opcode == op) ≡ true → layout_of op ≡ layout → layout_of opcode ≡ layout
  layout_at op layout a e = ap layout_of (eqb-true _ _ a) ∙ e

  pub resumed_right : (opcode ≡ 0x2F → is_escape_reserved p ≡ false) → Fine (units_left opcode) (resumed opcode s next)
  unfolding units_left resumed layout_of
  resumed_right fine = elim (cases_Bool (opcode == 0x28 || opcode == 0x2C)) [
    | inl a ↦ pick move_units _ (λ q n. rw a refl) (rw a refl) (moves false (rw a refl) (inl refl))
    | inr a ↦ elim (cases_Bool (opcode == 0x2E)) [
      | inl b ↦ pick move_units _ (λ q n. rw (a, b) refl) (rw (a, b) refl) (moves true (layout_at 0x2E Translates b refl) (inr (inl refl)))
      | inr b ↦ elim (cases_Bool (opcode == 0x2F)) [
        | inl c ↦ pick escape_units _ (λ q n. rw (a, b, c) refl) (rw (a, b, c) refl) (escapes (layout_at 0x2F Translates c refl) (fine (eqb-true _ _ c)))
        | inr c ↦ elim (cases_Bool (opcode == 0x3A)) [
          | inl d ↦ pick (search_units true) _ (λ q n. rw (a, b, c, d) refl) (rw (a, b, c, d) refl) (searches true)
          | inr d ↦ elim (cases_Bool (opcode == 0x3B)) [
            | inl e ↦ pick (search_units false) _ (λ q n. rw (a, b, c, d, e) refl) (rw (a, b, c, d, e) refl) (searches false)
            | inr e ↦ elim (cases_Bool (opcode == 0x2A)) [
              | inl f ↦ pick (scan_units true) _ (λ q n. rw (a, b, c, d, e, f) refl) (rw (a, b, c, d, e, f) refl) (scans true)
              | inr f ↦ elim (cases_Bool (opcode == 0x2B)) [
                | inl g ↦ pick (scan_units false) _ (λ q n. rw (a, b, c, d, e, f, g) refl) (rw (a, b, c, d, e, f, g) refl) (scans false)
                | inr g ↦ elim (cases_Bool (opcode == 0x39)) [
                  | inl h ↦ pick match_units _ (λ q n. rw (a, b, c, d, e, f, g, h) refl) (rw (a, b, c, d, e, f, g, h) refl) (matches (layout_at 0x39 Compares h refl))
                  | inr h ↦ pick compare_units _ (λ q n. rw (a, b, c, d, e, f, g, h) refl) (rw (a, b, c, d, e, f, g, h) refl) (compares (rw (a, b, c, d, e, f, g) refl))
                ]
              ]
            ]
          ]
        ]
      ]
    ]
  ]
