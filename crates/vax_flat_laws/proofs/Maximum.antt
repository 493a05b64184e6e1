-- Parts are as long as the rule of parts lets them be.
use Rattle.std.proofs.Common.{◌≡◌, ◌≢◌, ℕ, suc, zero, ◌+◌, ◌-◌, ◌/◌, ◌%◌, ◌^◌, ◌<◌, ◌≤◌, ◌⊎◌, ◌==◌, Bool, true, false, min, Option, Some, None, List, [], ◌∷◌, ◌++◌, length, refl, ap, sym, subst, ◌∙◌, arith, inl, inr, length-append}
use Rattle.std.specs.Prelude.{nat_lt, if◌then◌else◌, nat_le, take, drop, ◌&&◌}
use Rattle.std.proofs.lemmas.Bool.{ltb-false, cases_Bool, cases_eq, cases_lt, eq-eqb, ne_eqb, eqb-false, lt-ltb, le-ltb, leb-true, leb-false, and_cases}
use Rattle.std.proofs.lemmas.Bool.Decides.{nat_tests}
use Rattle.vax_space.specs.declared.Access.{Access}
use Rattle.vax_space.specs.declared.Access.TheVariants.{Read, Write}
use Rattle.vax_space.specs.declared.Area.{Area}
use Rattle.vax_space.specs.declared.Violation.{Violation}
use Rattle.vax_space.specs.Reference.{violation, page_of}
use Rattle.vax_strpart.specs.declared.packing.Progress.{Progress}
use Rattle.vax_flat.specs.declared.Flow.TheVariants as flow
use Rattle.vax_flat.specs.declared.Rest.{Rest}
use Rattle.vax_flat.specs.Memory.{byte_at, number, bytes_from, written_run}
use Rattle.vax_flat.specs.State.{State, mode}
use Rattle.vax_flat.specs.Accesses.{Accesses, Leaf}
use Rattle.vax_flat.specs.Outcome.{Outcome, outcome_of, unless_violated}
use Rattle.vax_flat.specs.Operand.{plus, read_at, check_at}
use Rattle.vax_flat.specs.Step.{leaf}
use Rattle.vax_flat.specs.String.{suspended, leaves, completed, to_page_end, room_up, room_down, read_run_at, write_run_at, read_span}
use Rattle.vax_flat.specs.StringSearch.{located, searched, search_room, if_found, search_end, search_run, search_part}
use Rattle.vax_flat.specs.StringCompare.{behind, differs, equals, first_of, second_of, pairs_of, first_page, string_room, compare_room, filled_run, first_read, first_checked, compare_end, compare_run, compare_part}
use Rattle.vax_flat.specs.StringMove.{moved_count, is_backward, moved, lowest, run_room, move_room, move_end, table_applied, write_pieces, write_high_last, write_low_last, write_span, move_run, fill_room, fill_run, move_part}
use Rattle.vax_flat.proofs.StringSearch.{length_run}
use Rattle.vax_flat_laws.specs.Maximal.{AreAmong, IsAmong, IsMaximal, IfLeft, LeavesPart, never, page_in, search_needs, compare_needs, move_needs, turns_to_fills, fill_needs, IsPlain, IsMovePlain, escape_needs}
use Rattle.vax_flat.specs.StringEscape.{escaped, escape_room, source_room, written_some, escape_close, escape_end, escape_run, escape_part}
use Rattle.std.proofs.lemmas.List.Sums.{prefix_len-le-length}

-- ---- what is left where a tree grows by an access

module _ (P : ℕ → State → Type 0) where
  abbrev So : Accesses Leaf → Type 0
  So tree = (memory : List Area) → IfLeft P (outcome_of tree memory)

  so_violated : (v : Option Violation) (outcome : Outcome Leaf) → IfLeft P outcome → IfLeft P (unless_violated v outcome)
  so_violated (Some v) outcome q = tt
  so_violated None outcome q = q

  so_if : (b : Bool) (x y : Accesses Leaf) → So x → So y → So (if b then x else y)
  so_if true x y qx qy = qx
  so_if false x y qx qy = qy

  -- by the test
  so_by : (b : Bool) (x y : Accesses Leaf) → (b ≡ true → So x) → (b ≡ false → So y) → So (if b then x else y)
  so_by true x y qx qy = qx refl
  so_by false x y qx qy = qy refl

  so_read : (addr len : ℕ) (s : State) (next : ℕ → State → Accesses Leaf) → ((x : ℕ) → So (next x s)) → So (read_at addr len s next)
  unfolding read_at outcome_of
  so_read addr len s next q memory = so_violated (violation memory addr len (mode s) Read) _ (q (number (byte_at memory) addr len) memory)

  so_check : (addr len : ℕ) (kind : Access) (s : State) (next : State → Accesses Leaf) → So (next s) → So (check_at addr len kind s next)
  unfolding check_at outcome_of
  so_check addr len kind s next q memory = so_violated (violation memory addr len (mode s) kind) _ (q memory)

  so_read_run : (addr len : ℕ) (s : State) (next : List ℕ → State → Accesses Leaf) → ((bytes : List ℕ) → length bytes ≡ len → So (next bytes s)) → So (read_run_at addr len s next)
  unfolding read_run_at outcome_of
  so_read_run addr len s next q memory =
      so_violated (violation memory addr len (mode s) Read) _ (q (bytes_from (byte_at memory) addr len) (length_run (byte_at memory) addr len) memory)

  so_write_run : (addr : ℕ) (bytes : List ℕ) (s : State) (next : State → Accesses Leaf) → So (next s) → So (write_run_at addr bytes s next)
  unfolding write_run_at outcome_of
  so_write_run addr bytes s next q memory = so_violated (violation memory addr (length bytes) (mode s) Write) _ (q (written_run memory addr bytes))

  so_read_span : (addr len : ℕ) (s : State) (next : List ℕ → State → Accesses Leaf) → ((bytes : List ℕ) → So (next bytes s)) → So (read_span addr len s next)
  unfolding read_span
  so_read_span addr len s next q =
      so_if (nat_le len (to_page_end addr)) _ _ (so_read_run addr len s next (λ bytes l. q bytes))
      (so_read_run addr (to_page_end addr) s _ (λ low l. so_read_run _ _ s _ (λ high m. q _)))

  so_pieces : (count addr : ℕ) (bytes : List ℕ) (s : State) (next : State → Accesses Leaf) → So (next s) → So (write_pieces count addr bytes s next)
  unfolding write_pieces
  so_pieces zero addr bytes s next q = q
  so_pieces (suc count) addr bytes s next q = so_write_run addr (take 8 bytes) s _ (so_pieces count (plus addr 8) (drop 8 bytes) s next q)

  so_write_span : (addr : ℕ) (bytes : List ℕ) (s : State) (next : State → Accesses Leaf) → So (next s) → So (write_span addr bytes s next)
  unfolding write_span write_high_last write_low_last
  so_write_span addr bytes s next q =
      so_if (nat_le (length bytes) (to_page_end addr)) _ _ (so_write_run addr bytes s next q)
      (so_if (nat_le (to_page_end addr) 256) _ _
      (so_pieces _ addr _ s _ (so_write_run _ _ s next q))
      (so_write_run addr (take 1 bytes) s _ (so_pieces _ _ _ s _ (so_write_run addr _ s next q))))

  so_done : (s : State) → So (leaf flow.Done s)
  unfolding outcome_of
  so_done s memory = tt

  so_left : (opcode made : ℕ) (t : State) → P made t → So (leaf (flow.More opcode made) t)
  unfolding outcome_of
  so_left opcode made t h memory = h

  so_found : (o : Option ℕ) (found : ℕ → Accesses Leaf) (none : Accesses Leaf) → ((i : ℕ) → So (found i)) → So none → So (if_found o found none)
  so_found (Some i) found none q r = q i
  so_found None found none q r = r

-- ---- LOCC, SKPC

search_maximal : (p : Progress) → p.addr1 < 2 ^ 32 → p.len1 ≢ 0 → search_room p ≢ p.len1 → (1 ≤ search_room p) × IsMaximal (search_needs p) never (search_room p)
unfolding search_room
search_maximal p small some more = (
  omega arith,
  record {
    few = omega arith;
    near = λ j h. (inl (omega arith), tt);
    full = elim (cases_eq (min (min 512 p.len1) (to_page_end p.addr1)) 512) [
      | inl e ↦ inl e
      | inr other ↦ inr (inr (λ a. elim a.0 [ inl e ↦ omega arith | inr bad ↦ bad ]))
    ];
  },
)

pub search_left : (equal : Bool) (p : Progress) (s : State) → p.addr1 < 2 ^ 32 → So (LeavesPart (search_needs p) never (λ made. suspended (searched p made) s)) (search_part equal p s leaf)
unfolding search_part search_run search_end located completed leaves
search_left equal p s small =
    let P = LeavesPart (search_needs p) never (λ made. suspended (searched p made) s) in
    so_by P (p.len1 == 0) _ _ (λ none. so_done P _)
    (λ some. so_read_run P p.addr1 (search_room p) s _ (λ bytes long. so_found P _ _ _ (λ i. so_done P _)
    (so_by P (length bytes == p.len1) _ _ (λ all. so_done P _)
    (λ more.
    let many : search_room p ≢ p.len1 = λ e. eqb-false (length bytes) p.len1 more (long ∙ e) in
    let max_is = search_maximal p small (eqb-false p.len1 0 some) many in
    so_left P p.op (length bytes) (suspended (searched p (length bytes)) s) (record {
      some = subst (λ n. 1 ≤ n) (sym long) max_is.0;
      maximal = subst (IsMaximal (search_needs p) never) (sym long) max_is.1;
      state = refl;
    })))))

-- ---- pages among others

among_left : (page : ℕ) (ps qs : List ℕ) → IsAmong page ps → IsAmong page (ps ++ qs)
among_left page [] qs a = absurd a
among_left page (p ∷ ps) qs (inl e) = inl e
among_left page (p ∷ ps) qs (inr rest) = inr (among_left page ps qs rest)

among_right : (page : ℕ) (ps qs : List ℕ) → IsAmong page qs → IsAmong page (ps ++ qs)
among_right page [] qs a = a
among_right page (p ∷ ps) qs a = inr (among_right page ps qs a)

among_either : (page : ℕ) (ps qs : List ℕ) → IsAmong page (ps ++ qs) → IsAmong page ps ⊎ IsAmong page qs
among_either page [] qs a = inr a
among_either page (p ∷ ps) qs (inl e) = inl (inl e)
among_either page (p ∷ ps) qs (inr rest) = elim (among_either page ps qs rest) [ inl here ↦ inl (inr here) | inr there ↦ inr there ]

all_joined : (xs ys ps : List ℕ) → AreAmong xs ps → AreAmong ys ps → AreAmong (xs ++ ys) ps
all_joined [] ys ps a b = b
all_joined (x ∷ xs) ys ps a b = (a.0, all_joined xs ys ps a.1 b)

all_first : (xs ys ps : List ℕ) → AreAmong (xs ++ ys) ps → AreAmong xs ps
all_first [] ys ps a = tt
all_first (x ∷ xs) ys ps a = (a.0, all_first xs ys ps a.1)

all_second : (xs ys ps : List ℕ) → AreAmong (xs ++ ys) ps → AreAmong ys ps
all_second [] ys ps a = a
all_second (x ∷ xs) ys ps a = all_second xs ys ps a.1

-- ---- how far a part reaches upward from an address, in its page or another beside it

reach : (x page j : ℕ) → j < room_up x page → ((x + j) / 512 ≡ x / 512) ⊎ (((x + j) / 512 ≡ page) × (page ≡ x / 512 + 1))
unfolding room_up
reach x page j h =
    elim (cases_eq page (x / 512 + 1)) [
      | inl e ↦
          let wide : j < 512 = rw (eq-eqb page (x / 512 + 1) e) at h in
          elim (cases_lt j (to_page_end x)) [
            | inl near ↦ inl (omega arith)
            | inr far ↦ inr (omega arith, e)
          ]
      | inr other ↦ let close : j < to_page_end x = rw (ne_eqb page (x / 512 + 1) other) at h in inl (omega arith)
    ]

past : (x page : ℕ) → room_up x page < 512 → ((x + room_up x page) / 512 ≡ x / 512 → ⊥) × ((x + room_up x page) / 512 ≡ page → ⊥)
unfolding room_up
past x page h =
    elim (cases_eq page (x / 512 + 1)) [
      | inl e ↦ let wide : 512 < 512 = rw (eq-eqb page (x / 512 + 1) e) at h in absurd (omega arith)
      | inr other ↦ rw (ne_eqb page (x / 512 + 1) other) ((λ e. omega arith), (λ e. other (omega arith)))
    ]

in_room : (r : Rest) (page j : ℕ) → j < r.len → j < string_room r page → j < room_up r.addr page
unfolding string_room
in_room r page j low h =
    elim (cases_Bool (nat_le r.len (room_up r.addr page))) [
      | inl all ↦ let fits = leb-true r.len (room_up r.addr page) all in omega arith
      | inr part_of ↦ rw part_of at h
    ]

at_room : (r : Rest) (page : ℕ) → string_room r page < 512 → (string_room r page ≡ room_up r.addr page) × (room_up r.addr page < r.len)
unfolding string_room
at_room r page h =
    elim (cases_Bool (nat_le r.len (room_up r.addr page))) [
      | inl all ↦ let wide : 512 < 512 = rw all at h in absurd (omega arith)
      | inr part_of ↦ let less = leb-false r.len (room_up r.addr page) part_of in rw part_of (refl, less)
    ]

-- one of two strings, of which so much is done, beside a page of the other
module _ (addr len d page : ℕ) (ps : List ℕ) (ends : addr + len ≤ 2 ^ 32) where
  abbrev rest : Rest
  rest = behind d (record { len = len; addr = addr })

  here : (j : ℕ) → d + j < len → plus addr (d + j) ≡ plus addr (min d len) + j
  here j h = omega arith

  near_one : (j : ℕ) → (d < len → IsAmong (page_of (plus addr d)) ps) → (d < len → page ≡ page_of (plus addr d) + 1 → IsAmong page ps) → j < string_room rest page → AreAmong (page_in addr len (d + j)) ps
  near_one j own other h =
      elim (cases_lt (d + j) len) [
        | inr over ↦ rw (le-ltb (d + j) len over) tt
        | inl within ↦
            let at = here j within in
            let first : plus addr d ≡ plus addr (min d len) = omega arith in
            rw (lt-ltb (d + j) len within)
            (elim (reach (plus addr (min d len)) page j (in_room rest page j (omega arith) h)) [
              | inl same ↦ (subst (λ q. IsAmong q ps) (sym (ap page_of at ∙ (same ∙ ap page_of (sym first)))) (own (omega arith)), tt)
              | inr next ↦ (subst (λ q. IsAmong q ps) (sym (ap page_of at ∙ next.0)) (other (omega arith) (next.1 ∙ ap (λ x. x / 512 + 1) (sym first))), tt)
            ])
      ]

  far_one : ((q : ℕ) → IsAmong q ps → ((d < len) × (q ≡ page_of (plus addr d))) ⊎ (q ≡ page)) → string_room rest page < 512 → AreAmong (page_in addr len (d + string_room rest page)) ps → ⊥
  far_one only h among =
      let r = at_room rest page h in
      let within : d + string_room rest page < len = (let e = r.0 in let l = r.1 in omega arith) in
      let at = here (string_room rest page) within in
      let out = past (plus addr (min d len)) page (subst (λ x. x < 512) r.0 h) in
      let first : plus addr d ≡ plus addr (min d len) = omega arith in
      let a : AreAmong (page_of (plus addr (d + string_room rest page)) ∷ []) ps = rw (lt-ltb (d + string_room rest page) len within) at among in
      let q : page_of (plus addr (d + string_room rest page)) ≡ (plus addr (min d len) + room_up (plus addr (min d len)) page) / 512 =
      ap page_of at ∙ ap (λ k. (plus addr (min d len) + k) / 512) r.0 in
      elim (only _ a.0) [
        | inl own ↦ out.0 (sym q ∙ (own.1 ∙ ap page_of first))
        | inr other ↦ out.1 (sym q ∙ other)
      ]

-- ---- CMPC3, CMPC5

-- one of the strings: the page of its next byte, if it has one
module _ (addr len d : ℕ) where
  abbrev one : Rest
  one = behind d (record { len = len; addr = addr })

  first_there : d < len → page_in addr len (d + 0) ≡ page_of (plus addr d) ∷ []
  first_there h = let same : d + 0 ≡ d = omega arith in rw (same, lt-ltb d len h) refl

  page_is : d < len → first_page one ≡ page_of (plus addr d)
  page_is h = let e : plus addr (min d len) ≡ plus addr d = omega arith in rw (ne_eqb (len - d) 0 (λ z. omega arith)) (ap page_of e)

  -- the page beside another's is among those needed
  beside : (ps : List ℕ) (page : ℕ) → page < 2 ^ 23 → (d < len → IsAmong (page_of (plus addr d)) ps) → first_page one ≡ page + 1 → IsAmong (first_page one) ps
  beside ps page low own e =
      elim (cases_lt d len) [
        | inl here ↦ subst (λ q. IsAmong q ps) (sym (page_is here)) (own here)
        | inr over ↦ let none : first_page one ≡ 2 ^ 23 + 1 = rw (eq-eqb (len - d) 0 (omega arith)) refl in absurd (omega arith)
      ]

  -- no other is
  of_one : (q : ℕ) → IsAmong q (page_in addr len (d + 0)) → (d < len) × (q ≡ page_of (plus addr d))
  of_one q among =
      elim (cases_lt d len) [
        | inl here ↦ let m : IsAmong q (page_of (plus addr d) ∷ []) = rw (first_there here) at among in (here, elim m [ inl e ↦ e | inr bad ↦ absurd bad ])
        | inr over ↦ let same : d + 0 ≡ d = omega arith in let m : IsAmong q [] = rw (same, le-ltb d len over) at among in absurd m
      ]

module _ (p : Progress) (plain : IsPlain p) (more : compare_room p ≢ pairs_of p - p.done) (left_some : pairs_of p - p.done ≢ 0) where
  abbrev a : Rest
  a = behind p.done (first_of p)

  abbrev b : Rest
  b = behind p.done (second_of p)

  abbrev ps : List ℕ
  ps = compare_needs p 0

  -- the pages of the first pair
  first_among : p.done < p.len1 → IsAmong (page_of (plus p.addr1 p.done)) ps
  first_among h = among_left _ (page_in p.addr1 p.len1 (p.done + 0)) (page_in p.addr2 p.len2 (p.done + 0)) (rw (first_there p.addr1 p.len1 p.done h) (inl refl))

  second_among : p.done < p.len2 → IsAmong (page_of (plus p.addr2 p.done)) ps
  second_among h = among_right _ (page_in p.addr1 p.len1 (p.done + 0)) (page_in p.addr2 p.len2 (p.done + 0)) (rw (first_there p.addr2 p.len2 p.done h) (inl refl))

  -- no others are
  only_a : (q : ℕ) → IsAmong q ps → ((p.done < p.len1) × (q ≡ page_of (plus p.addr1 p.done))) ⊎ (q ≡ first_page b)
  only_a q among =
      elim (among_either q (page_in p.addr1 p.len1 (p.done + 0)) (page_in p.addr2 p.len2 (p.done + 0)) among) [
        | inl own ↦ inl (of_one p.addr1 p.len1 p.done q own)
        | inr far ↦ let o = of_one p.addr2 p.len2 p.done q far in inr (o.1 ∙ sym (page_is p.addr2 p.len2 p.done o.0))
      ]

  only_b : (q : ℕ) → IsAmong q ps → ((p.done < p.len2) × (q ≡ page_of (plus p.addr2 p.done))) ⊎ (q ≡ first_page a)
  only_b q among =
      elim (among_either q (page_in p.addr1 p.len1 (p.done + 0)) (page_in p.addr2 p.len2 (p.done + 0)) among) [
        | inl far ↦ let o = of_one p.addr1 p.len1 p.done q far in inr (o.1 ∙ sym (page_is p.addr1 p.len1 p.done o.0))
        | inr own ↦ inl (of_one p.addr2 p.len2 p.done q own)
      ]

  bounds : (n ra rb : ℕ) → min (min 512 n) (min ra rb) ≢ n → n ≢ 0 → (min (min 512 n) (min ra rb) ≤ 512) × ((min (min 512 n) (min ra rb) ≡ 512) ⊎ (((min (min 512 n) (min ra rb) ≡ ra) × (ra < 512)) ⊎ ((min (min 512 n) (min ra rb) ≡ rb) × (rb < 512))))
  bounds n ra rb h some = (
    omega arith,
    elim (cases_lt (min (min 512 n) (min ra rb)) 512) [
      | inr top ↦ inl (omega arith)
      | inl below ↦ inr (elim (cases_lt ra rb) [ inl first ↦ inl (omega arith, omega arith) | inr second ↦ inr (omega arith, omega arith) ])
    ],
  )

  pub compare_maximal : IsMaximal (compare_needs p) never (compare_room p)
  unfolding compare_room
  compare_maximal =
      let ra = string_room a (first_page b) in
      let rb = string_room b (first_page a) in
      let n = pairs_of p - p.done in
      let is = bounds n ra rb more left_some in
      record {
        few = is.0;
        near = λ j h.
            all_joined (page_in p.addr1 p.len1 (p.done + j)) (page_in p.addr2 p.len2 (p.done + j)) ps
            (near_one p.addr1 p.len1 p.done (first_page b) ps plain.first j first_among (λ h e. beside p.addr2 p.len2 p.done ps (page_of (plus p.addr1 p.done)) (omega arith) second_among e) (omega arith))
            (near_one p.addr2 p.len2 p.done (first_page a) ps plain.second j second_among (λ h e. beside p.addr1 p.len1 p.done ps (page_of (plus p.addr2 p.done)) (omega arith) first_among e) (omega arith));
        full =
            elim is.1 [
              | inl top ↦ inl top
              | inr (inl first) ↦
                  inr (inr (λ among. far_one p.addr1 p.len1 p.done (first_page b) ps plain.first only_a first.1
                  (subst (λ k. AreAmong (page_in p.addr1 p.len1 (p.done + k)) ps) first.0 (all_first _ (page_in p.addr2 p.len2 (p.done + compare_room p)) ps among))))
              | inr (inr second) ↦
                  inr (inr (λ among. far_one p.addr2 p.len2 p.done (first_page a) ps plain.second only_b second.1
                  (subst (λ k. AreAmong (page_in p.addr2 p.len2 (p.done + k)) ps) second.0 (all_second (page_in p.addr1 p.len1 (p.done + compare_room p)) _ ps among))))
            ];
      }

so_first_read : (P : ℕ → State → Type 0) (r : Rest) (s : State) (next : State → Accesses Leaf) → So P (next s) → So P (first_read r s next)
unfolding first_read
so_first_read P r s next q = so_if P (r.len == 0) _ _ q (so_read P r.addr 1 s _ (λ x. q))

so_first_checked : (P : ℕ → State → Type 0) (r : Rest) (s : State) (next : State → Accesses Leaf) → So P (next s) → So P (first_checked r s next)
unfolding first_checked
so_first_checked P r s next q = so_if P (r.len == 0) _ _ q (so_check P r.addr 1 Read s next q)

so_filled : (P : ℕ → State → Type 0) (fill count : ℕ) (r : Rest) (s : State) (next : List ℕ → State → Accesses Leaf) → ((bytes : List ℕ) → So P (next bytes s)) → So P (filled_run fill count r s next)
unfolding filled_run
so_filled P fill count r s next q = so_if P (r.len == 0) _ _ (q _) (so_read_span P r.addr (min count r.len) s _ (λ bytes. q _))

some_pairs : (p : Progress) → pairs_of p - p.done ≢ 0 → 1 ≤ compare_room p
unfolding compare_room string_room room_up
some_pairs p h = grind (arith, nat_tests)

pub compare_left : (p : Progress) (s : State) → IsPlain p → So (LeavesPart (compare_needs p) never (λ made. suspended (record p { done = p.done + made }) s)) (compare_part p s leaf)
unfolding compare_part compare_run compare_end differs equals completed leaves
compare_left p s plain =
    let P = LeavesPart (compare_needs p) never (λ made. suspended (record p { done = p.done + made }) s) in
    so_by P (pairs_of p - p.done == 0) _ _ (λ none. so_done P _)
    (λ some. so_first_read P _ s _ (so_first_checked P _ s _ (so_filled P _ _ _ s _ (λ xs. so_filled P _ _ _ s _ (λ ys. so_found P _ _ _ (λ i. so_done P _)
    (so_by P (compare_room p == pairs_of p - p.done) _ _ (λ all. so_done P _)
    (λ more. so_left P p.op (compare_room p) (suspended (record p { done = p.done + compare_room p }) s) (record {
      some = some_pairs p (eqb-false (pairs_of p - p.done) 0 some);
      maximal = compare_maximal p plain (eqb-false (compare_room p) (pairs_of p - p.done) more) (eqb-false (pairs_of p - p.done) 0 some);
      state = refl;
    }))))))))

-- ---- MOVC3, MOVC5, MOVTC

-- how far a part reaches downward
reach_down : (x page j : ℕ) → j ≤ x → j < room_down x page → ((x - j) / 512 ≡ x / 512) ⊎ ((x - j) / 512 ≡ page)
unfolding room_down
reach_down x page j low h =
    elim (cases_eq (x / 512) (page + 1)) [
      | inl e ↦
          let wide : j < 512 = rw (eq-eqb (x / 512) (page + 1) e) at h in
          elim (cases_lt j (x % 512 + 1)) [ inl near ↦ inl (omega arith) | inr far ↦ inr (omega arith) ]
      | inr other ↦ let close : j < x % 512 + 1 = rw (ne_eqb (x / 512) (page + 1) other) at h in inl (omega arith)
    ]

past_down : (x page : ℕ) → room_down x page < 512 → room_down x page ≤ x → ((x - room_down x page) / 512 ≡ x / 512 → ⊥) × ((x - room_down x page) / 512 ≡ page → ⊥)
unfolding room_down
past_down x page h =
    elim (cases_eq (x / 512) (page + 1)) [
      | inl e ↦ let wide : 512 < 512 = rw (eq-eqb (x / 512) (page + 1) e) at h in absurd (omega arith)
      | inr other ↦ rw (ne_eqb (x / 512) (page + 1) other) (λ low. ((λ e. omega arith), (λ e. other (omega arith))))
    ]

either_page : (q x y : ℕ) → (q ≡ x) ⊎ (q ≡ y) → IsAmong q (x ∷ y ∷ [])
either_page q x y (inl e) = inl e
either_page q x y (inr e) = inr (inl e)

neither_page : (q x y : ℕ) → (q ≡ x → ⊥) → (q ≡ y → ⊥) → IsAmong q (x ∷ y ∷ []) → ⊥
neither_page q x y a b (inl e) = a e
neither_page q x y a b (inr (inl e)) = b e
neither_page q x y a b (inr (inr bad)) = bad

-- the least of four
least : (n ra rb : ℕ) → n ≢ 0 → 1 ≤ ra → 1 ≤ rb →
    (1 ≤ min (min 512 n) (min ra rb)) × (min (min 512 n) (min ra rb) ≤ 512) × (min (min 512 n) (min ra rb) ≤ n) × (min (min 512 n) (min ra rb) ≤ ra) × (min (min 512 n) (min ra rb) ≤ rb)
    × ((min (min 512 n) (min ra rb) ≡ 512) ⊎ ((min (min 512 n) (min ra rb) ≡ n) ⊎ (((min (min 512 n) (min ra rb) ≡ ra) × (ra < 512)) ⊎ ((min (min 512 n) (min ra rb) ≡ rb) × (rb < 512)))))
least n ra rb some a b = (
  omega arith,
  omega arith,
  omega arith,
  omega arith,
  omega arith,
  elim (cases_lt (min (min 512 n) (min ra rb)) 512) [
    | inr top ↦ inl (omega arith)
    | inl below ↦
        elim (cases_lt (min (min 512 n) (min ra rb)) n) [
          | inr all ↦ inr (inl (omega arith))
          | inl some_left ↦ inr (inr (elim (cases_lt ra rb) [ inl first ↦ inl (omega arith, omega arith) | inr second ↦ inr (omega arith, omega arith) ]))
        ]
  ],
)

some_up : (x page : ℕ) → 1 ≤ room_up x page
unfolding room_up
some_up x page = elim (cases_Bool (page == x / 512 + 1)) [ inl so ↦ rw so (omega arith) | inr isnt ↦ rw isnt (omega arith) ]

some_down : (x page : ℕ) → 1 ≤ room_down x page
unfolding room_down
some_down x page = elim (cases_Bool (x / 512 == page + 1)) [ inl so ↦ rw so (omega arith) | inr isnt ↦ rw isnt (omega arith) ]

-- so many units from an address are in its page or in another, and the unit behind them is in neither
record Reaches (n room own other : ℕ) (page : ℕ → ℕ) : Type 0 where
  some : 1 ≤ room
  begins : page 0 ≡ own
  near : (j : ℕ) → j < n → j < room → (page j ≡ own) ⊎ (page j ≡ other)
  past : room < 512 → room < n → (page room ≡ own → ⊥) × (page room ≡ other → ⊥)

up_reaches : (n x page : ℕ) → Reaches n (room_up x page) (x / 512) page (λ j. (x + j) / 512)
up_reaches n x page = record {
  some = some_up x page;
  begins = omega arith;
  near = λ j inside low. elim (reach x page j low) [ inl same ↦ inl same | inr next ↦ inr next.0 ];
  past = λ less inside. past x page less;
}

down_reaches : (n x page : ℕ) → n ≤ x + 1 → Reaches n (room_down x page) (x / 512) page (λ j. (x - j) / 512)
down_reaches n x page low = record {
  some = some_down x page;
  begins = omega arith;
  near = λ j inside less. reach_down x page j (omega arith) less;
  past = λ less inside. past_down x page less (omega arith);
}

-- from two addresses, so many units at most
module _ (n ra rb own other : ℕ) (px py : ℕ → ℕ) (a : Reaches n ra own other px) (b : Reaches n rb other own py) (needs : ℕ → List ℕ) (turns : ℕ → Bool) (some : n ≢ 0) (needs_at : (j : ℕ) → j < n → needs j ≡ px j ∷ py j ∷ []) (turned : (k : ℕ) → k ≡ n → turns k ≡ true) where
  abbrev rooms : ℕ
  rooms = min (min 512 n) (min ra rb)

  first_needs : needs 0 ≡ own ∷ other ∷ []
  first_needs = needs_at 0 (omega arith) ∙ (λ i. a.begins i ∷ b.begins i ∷ [])

  beyond : ((rooms ≡ ra) × (ra < 512)) ⊎ ((rooms ≡ rb) × (rb < 512)) → rooms < n → AreAmong (needs rooms) (needs 0) → ⊥
  beyond which inside among =
      let m : AreAmong (px rooms ∷ py rooms ∷ []) (own ∷ other ∷ []) =
      subst (λ ps. AreAmong (px rooms ∷ py rooms ∷ []) ps) first_needs (subst (λ qs. AreAmong qs (needs 0)) (needs_at rooms inside) among) in
      elim which [
        | inl one ↦ let out = a.past one.1 (omega arith) in neither_page _ _ _ (λ h. out.0 (sym (ap px one.0) ∙ h)) (λ h. out.1 (sym (ap px one.0) ∙ h)) m.0
        | inr two ↦ let out = b.past two.1 (omega arith) in neither_page _ _ _ (λ h. out.1 (sym (ap py two.0) ∙ h)) (λ h. out.0 (sym (ap py two.0) ∙ h)) m.1.0
      ]

  maximal : IsMaximal needs turns rooms
  maximal =
      let l = least n ra rb some a.some b.some in
      record {
        few = l.1;
        near = λ j h.
            let inside : j < n = (let k = l.2 in omega arith) in
            subst (λ qs. AreAmong qs (needs 0)) (sym (needs_at j inside))
            (subst (λ ps. AreAmong (px j ∷ py j ∷ []) ps) (sym first_needs) (
              either_page _ _ _ (a.near j inside (let k = l.3 in omega arith)),
              (either_page _ _ _ (elim (b.near j inside (let k = l.4 in omega arith)) [ inl same ↦ inr same | inr next ↦ inl next ]), tt),
            ));
        full =
            elim l.5 [
              | inl top ↦ inl top
              | inr (inl all) ↦ inr (inl (turned rooms all))
              | inr (inr which) ↦
                  elim (cases_lt rooms n) [
                    | inr over ↦ inr (inl (turned rooms (let k = l.2 in omega arith)))
                    | inl inside ↦ inr (inr (λ among. beyond which inside among))
                  ]
            ];
      }

maximal_up : (x y n : ℕ) (needs : ℕ → List ℕ) (turns : ℕ → Bool) → n ≢ 0 → ((j : ℕ) → j < n → needs j ≡ (x + j) / 512 ∷ (y + j) / 512 ∷ []) → ((k : ℕ) → k ≡ n → turns k ≡ true)
    → IsMaximal needs turns (min (min 512 n) (min (room_up x (y / 512)) (room_up y (x / 512))))
maximal_up x y n needs turns some at turned =
    maximal n _ _ (x / 512) (y / 512) (λ j. (x + j) / 512) (λ j. (y + j) / 512) (up_reaches n x (y / 512)) (up_reaches n y (x / 512)) needs turns some at turned

module _ (p : Progress) (plain : IsMovePlain p) (left_some : p.done < moved_count p) where
  abbrev n : ℕ
  n = moved_count p - p.done

  module _ (forward : is_backward p ≡ false) where
    abbrev x : ℕ
    x = p.addr1 + p.done

    abbrev y : ℕ
    y = p.addr2 + p.done

    abbrev up : ℕ
    up = min (min 512 n) (min (room_up x (y / 512)) (room_up y (x / 512)))

    room_forward : move_room p ≡ up
    unfolding move_room run_room lowest
    room_forward =
        let e1 : plus p.addr1 p.done ≡ x = (let f = plain.first in omega arith) in
        let e2 : plus p.addr2 p.done ≡ y = (let f = plain.second in omega arith) in
        rw (forward, e1, e2) refl

    needs_forward : (j : ℕ) → j < n → move_needs p j ≡ (x + j) / 512 ∷ (y + j) / 512 ∷ []
    needs_forward j h =
        let e1 : plus p.addr1 (p.done + j) ≡ x + j = (let f = plain.first in omega arith) in
        let e2 : plus p.addr2 (p.done + j) ≡ y + j = (let f = plain.second in omega arith) in
        rw (forward, e1, e2) refl

    maximal_forward : IsMaximal (move_needs p) (turns_to_fills p) up
    maximal_forward = maximal_up x y n (move_needs p) (turns_to_fills p) (λ e. omega arith) needs_forward (λ k e. eq-eqb (p.done + k) (moved_count p) (omega arith))

  module _ (back : is_backward p ≡ true) where
    abbrev u : ℕ
    u = p.addr1 + (moved_count p - (p.done + 1))

    abbrev v : ℕ
    v = p.addr2 + (moved_count p - (p.done + 1))

    abbrev down : ℕ
    down = min (min 512 n) (min (room_down u (v / 512)) (room_down v (u / 512)))

    room_backward : move_room p ≡ down
    unfolding move_room run_room lowest
    room_backward =
        let e1 : plus p.addr1 (moved_count p - (p.done + 1)) ≡ u = (let f = plain.first in omega arith) in
        let e2 : plus p.addr2 (moved_count p - (p.done + 1)) ≡ v = (let f = plain.second in omega arith) in
        rw (back, e1, e2) refl

    needs_backward : (j : ℕ) → j < n → move_needs p j ≡ (u - j) / 512 ∷ (v - j) / 512 ∷ []
    needs_backward j h =
        let e1 : plus p.addr1 (moved_count p - (p.done + j + 1)) ≡ u - j = (let f = plain.first in omega arith) in
        let e2 : plus p.addr2 (moved_count p - (p.done + j + 1)) ≡ v - j = (let f = plain.second in omega arith) in
        rw (back, e1, e2) refl

    maximal_backward : IsMaximal (move_needs p) (turns_to_fills p) down
    maximal_backward =
        maximal n _ _ (u / 512) (v / 512) (λ j. (u - j) / 512) (λ j. (v - j) / 512) (down_reaches n u (v / 512) (omega arith)) (down_reaches n v (u / 512) (omega arith))
        (move_needs p) (turns_to_fills p) (λ e. omega arith) needs_backward (λ k e. eq-eqb (p.done + k) (moved_count p) (omega arith))

  pub move_maximal : IsMaximal (move_needs p) (turns_to_fills p) (move_room p)
  move_maximal =
      elim (cases_Bool (is_backward p)) [
        | inl back ↦ subst (IsMaximal (move_needs p) (turns_to_fills p)) (sym (room_backward back)) (maximal_backward back)
        | inr forward ↦ subst (IsMaximal (move_needs p) (turns_to_fills p)) (sym (room_forward forward)) (maximal_forward forward)
      ]

  pub some_moved : 1 ≤ move_room p
  some_moved =
      elim (cases_Bool (is_backward p)) [
        | inl back ↦ subst (λ k. 1 ≤ k) (sym (room_backward back)) (least n _ _ (λ e. omega arith) (some_down (u back) (v back / 512)) (some_down (v back) (u back / 512))).0
        | inr forward ↦ subst (λ k. 1 ≤ k) (sym (room_forward forward)) (least n _ _ (λ e. omega arith) (some_up (x forward) (y forward / 512)) (some_up (y forward) (x forward / 512))).0
      ]

fill_maximal : (p : Progress) → p.done < p.len2 → p.done + fill_room p ≢ p.len2 → (1 ≤ fill_room p) × IsMaximal (fill_needs p) never (fill_room p)
unfolding fill_room
fill_maximal p some more = (
  omega arith,
  record {
    few = omega arith;
    near = λ j h. (inl (omega arith), tt);
    full = elim (cases_eq (min (min 512 (p.len2 - p.done)) (to_page_end (plus p.addr2 p.done))) 512) [
      | inl e ↦ inl e
      | inr other ↦ inr (inr (λ a. elim a.0 [ inl e ↦ omega arith | inr bad ↦ bad ]))
    ];
  },
)

so_table : (P : ℕ → State → Type 0) (translate : Bool) (p : Progress) (bytes : List ℕ) (s : State) (next : List ℕ → State → Accesses Leaf) → ((xs : List ℕ) → So P (next xs s)) → So P (table_applied translate p bytes s next)
unfolding table_applied
so_table P translate p bytes s next q = so_if P translate _ _ (so_read_span P p.table 256 s _ (λ table. q _)) (q bytes)

so_end : (P : ℕ → State → Type 0) (translate : Bool) (p : Progress) (count : ℕ) (s : State) → (p.done + count ≢ p.len2 → P count (suspended (record p { done = p.done + count }) s)) → So P (move_end translate p count s leaf)
unfolding move_end moved completed leaves
so_end P translate p count s q =
    so_by P (p.done + count == p.len2) _ _ (λ all. so_done P _)
    (λ more. so_left P p.op count (suspended (record p { done = p.done + count }) s) (q (eqb-false (p.done + count) p.len2 more)))

pub move_left : (translate : Bool) (p : Progress) (s : State) → IsMovePlain p → p.done < moved_count p → So (LeavesPart (move_needs p) (turns_to_fills p) (λ made. suspended (record p { done = p.done + made }) s)) (move_part translate p s leaf)
unfolding move_part move_run
move_left translate p s plain some =
    let P = LeavesPart (move_needs p) (turns_to_fills p) (λ made. suspended (record p { done = p.done + made }) s) in
    rw (ne_eqb p.done p.len2 (λ e. omega arith), lt-ltb p.done (moved_count p) some)
    (so_read_span P _ _ s _ (λ bytes. so_table P translate p bytes s _ (λ xs. so_write_span P _ xs s _ (so_end P translate p (move_room p) s (λ more. record {
      some = some_moved p plain some;
      maximal = move_maximal p plain some;
      state = refl;
    })))))

pub fill_left : (translate : Bool) (p : Progress) (s : State) → moved_count p ≤ p.done → p.done < p.len2 → So (LeavesPart (fill_needs p) never (λ made. suspended (record p { done = p.done + made }) s)) (move_part translate p s leaf)
unfolding move_part fill_run
fill_left translate p s none some =
    let P = LeavesPart (fill_needs p) never (λ made. suspended (record p { done = p.done + made }) s) in
    rw (ne_eqb p.done p.len2 (λ e. omega arith), le-ltb p.done (moved_count p) none)
    (so_write_run P _ _ s _ (so_end P translate p (fill_room p) s (λ more.
    let max_is = fill_maximal p some more in
    record { some = max_is.0; maximal = max_is.1; state = refl })))

-- ---- MOVTUC

so_read_long : (P : ℕ → State → Type 0) (addr len : ℕ) (s : State) (next : List ℕ → State → Accesses Leaf) → ((bytes : List ℕ) → length bytes ≡ len → So P (next bytes s)) → So P (read_span addr len s next)
unfolding read_span
so_read_long P addr len s next q =
    so_by P (nat_le len (to_page_end addr)) _ _ (λ all. so_read_run P addr len s next q)
    (λ part_of. let less = leb-false len (to_page_end addr) part_of in
    so_read_run P addr (to_page_end addr) s _ (λ low l. so_read_run P _ _ s _ (λ high h. q (low ++ high) (length-append low high ∙ omega (arith, l, h)))))

so_escaped : (P : ℕ → State → Type 0) (p : Progress) (count : ℕ) (escape : Bool) (s : State) → So P (escaped p count escape s leaf)
unfolding escaped completed
so_escaped P p count escape s = so_done P _

module _ (p : Progress) (s : State) (plain : IsMovePlain p) (some_left : p.done < moved_count p) where
  abbrev E : ℕ → State → Type 0
  E = LeavesPart (escape_needs p) (turns_to_fills p) (λ made. suspended (record p { done = p.done + made }) s)

  abbrev x1 : ℕ
  x1 = p.addr1 + p.done

  abbrev y1 : ℕ
  y1 = p.addr2 + p.done

  abbrev units : ℕ
  units = moved_count p - p.done

  e_first : plus p.addr1 p.done ≡ x1
  e_first = let f = plain.first in omega arith

  e_second : plus p.addr2 p.done ≡ y1
  e_second = let f = plain.second in omega arith

  room_is : escape_room p ≡ min (min 512 units) (min (room_up x1 (y1 / 512)) (room_up y1 (x1 / 512)))
  unfolding escape_room
  room_is = rw (e_first, e_second) refl

  source_is : source_room p ≡ min (min 512 units) (min (room_up x1 (y1 / 512)) (room_up y1 (x1 / 512) + 1))
  unfolding source_room
  source_is = rw (e_first, e_second) refl

  more_source : escape_room p ≤ source_room p
  more_source = let a = room_is in let b = source_is in omega arith

  needs_escape : (j : ℕ) → j < units → escape_needs p j ≡ (x1 + j) / 512 ∷ (y1 + j) / 512 ∷ []
  needs_escape j h =
      let e1 : plus p.addr1 (p.done + j) ≡ x1 + j = (let f = plain.first in omega arith) in
      let e2 : plus p.addr2 (p.done + j) ≡ y1 + j = (let f = plain.second in omega arith) in
      rw (e1, e2) refl

  escape_maximal : IsMaximal (escape_needs p) (turns_to_fills p) (escape_room p)
  escape_maximal =
      subst (IsMaximal (escape_needs p) (turns_to_fills p)) (sym room_is)
      (maximal_up x1 y1 units (escape_needs p) (turns_to_fills p) (λ e. omega arith) needs_escape (λ k e. eq-eqb (p.done + k) (moved_count p) (omega arith)))

  some_room : 1 ≤ escape_room p
  some_room = subst (λ k. 1 ≤ k) (sym room_is) (least units (room_up x1 (y1 / 512)) (room_up y1 (x1 / 512)) (λ e. omega arith) (some_up x1 (y1 / 512)) (some_up y1 (x1 / 512))).0

  -- what is left has no byte that escapes in its room
  moved_room : (count len : ℕ) → count ≤ len → len ≡ source_room p → (nat_le count (escape_room p) && nat_lt count len) ≡ false → min count (escape_room p) ≡ escape_room p
  moved_room count len few is none =
      let m = more_source in
      elim (and_cases (nat_le count (escape_room p)) (nat_lt count len) none) [
        | inl over ↦ let h = leb-false count (escape_room p) over in omega arith
        | inr all ↦ let h = ltb-false count len all in omega arith
      ]

  so_close : (count len : ℕ) → count ≤ len → len ≡ source_room p → So E (escape_close p count (escape_room p) len s leaf)
  unfolding leaves
  so_close count len few is =
      so_by E (nat_le count (escape_room p) && nat_lt count len) _ _ (λ here. so_escaped E p _ true s)
      (λ none. so_by E (p.done + min count (escape_room p) == moved_count p) _ _ (λ all. so_escaped E p _ false s)
      (λ more.
      let e = moved_room count len few is none in
      so_left E p.op (min count (escape_room p)) (suspended (record p { done = p.done + min count (escape_room p) }) s) (record {
        some = subst (λ k. 1 ≤ k) (sym e) some_room;
        maximal = subst (IsMaximal (escape_needs p) (turns_to_fills p)) (sym e) escape_maximal;
        state = refl;
      })))

  so_some : (addr : ℕ) (bytes : List ℕ) (next : State → Accesses Leaf) → So E (next s) → So E (written_some addr bytes s next)
  unfolding written_some
  so_some addr bytes next q = so_if E (length bytes == 0) _ _ q (so_write_span E addr bytes s next q)

  pub escape_left : So E (escape_part p s leaf)
  unfolding escape_part escape_run escape_end
  escape_left =
      rw (ne_eqb p.done (moved_count p) (λ e. omega arith))
      (so_read_span E _ 1 s _ (λ first. so_read_span E p.table 256 s _ (λ table. so_if E _ _ _ (so_escaped E p p.done true s)
      (so_read_long E _ (source_room p) s _ (λ bytes long. so_some _ _ _ (so_close _ (length bytes) (prefix_len-le-length _ bytes) long))))))
