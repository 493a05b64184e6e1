-- Parts of a scan are as long as the rule of parts lets them be.
use Rattle.std.proofs.Common.{◌≡◌, ◌≢◌, ℕ, ◌^◌, ◌<◌, ◌≤◌, ◌==◌, Bool, true, false, min, Option, Some, None, List, length, take, refl, ap, sym, subst, ◌∙◌, arith, inl, inr, length-take}
use Rattle.std.specs.Prelude.{if◌then◌else◌, not, slice_index}
use Rattle.std.specs.List.{position_or_len}
use Rattle.std.proofs.lemmas.Bool.{cases_eq, cases_lt, eqb-true, eqb-false}
use Rattle.std.proofs.lemmas.List.Sums.{passes_at_first, prefix_len-le-length}
use Rattle.vax_space.specs.declared.Access.TheVariants.{Read}
use Rattle.vax_space.specs.declared.Area.{Area}
use Rattle.vax_space.specs.declared.Violation.{Violation}
use Rattle.vax_space.specs.Reference.{violation, may_access, page_of}
use Rattle.vax_strpart.specs.declared.packing.Progress.{Progress}
use Rattle.vax_flat.specs.Memory.{byte_at, bytes_from}
use Rattle.vax_flat.specs.Port.{AreBytes}
use Rattle.vax_flat.specs.State.{State, mode}
use Rattle.vax_flat.specs.Accesses.{Accesses, Leaf}
use Rattle.vax_flat.specs.Outcome.{Outcome, outcome_of, unless_violated}
use Rattle.vax_flat.specs.Operand.{plus, check_at}
use Rattle.vax_flat.specs.Step.{leaf}
use Rattle.vax_flat.specs.String.{suspended, leaves, completed, to_page_end, read_run_at}
use Rattle.vax_flat.specs.StringSearch.{scanned, searched, search_room, if_found, search_end, is_unknown, table_read, scan_end, scan_run, scan_part}
use Rattle.vax_flat.proofs.StringScan.{Reads, reads, byte_in_run}
use Rattle.vax_flat.proofs.StringSearch.{length_run, first_barred}
use Rattle.vax_flat_laws.specs.Maximal.{IsMaximal, IfLeft, LeavesPart, search_needs, entry_barred}

-- how many units a part of so many bytes makes, of which so many have entries that may be read
maximal_scan : (p : Progress) (turns : ℕ → Bool) (known : ℕ) → p.addr1 < 2 ^ 32 → p.len1 ≢ 0 → 1 ≤ known → known ≤ search_room p → known ≢ p.len1 → (known < search_room p → turns known ≡ true) → IsMaximal (search_needs p) turns known
unfolding search_room
maximal_scan p turns known small some one few more turned = record {
  few = omega arith;
  near = λ j h. (inl (omega arith), tt);
  full = elim (cases_lt known (min (min 512 p.len1) (to_page_end p.addr1))) [
    | inl less ↦ inr (inl (turned less))
    | inr all ↦ elim (cases_eq known 512) [
      | inl e ↦ inl e
      | inr other ↦ inr (inr (λ a. elim a.0 [ inl e ↦ omega arith | inr bad ↦ bad ]))
    ]
  ];
}

module _ (some : Bool) (p : Progress) (s : State) (m : List Area) (bytes_fit : AreBytes (byte_at m)) (small : p.addr1 < 2 ^ 32) (near : p.table < 2 ^ 32) where
  abbrev P : ℕ → State → Type 0
  P = LeavesPart (search_needs p) (entry_barred p (mode s) m) (λ made. suspended (searched p made) s)

  abbrev S : Accesses Leaf → Type 0
  S tree = IfLeft P (outcome_of tree m)

  s_violated : (v : Option Violation) (outcome : Outcome Leaf) → (v ≡ None → IfLeft P outcome) → IfLeft P (unless_violated v outcome)
  s_violated (Some v) outcome q = tt
  s_violated None outcome q = q refl

  s_by : (b : Bool) (x y : Accesses Leaf) → (b ≡ true → S x) → (b ≡ false → S y) → S (if b then x else y)
  s_by true x y qx qy = qx refl
  s_by false x y qx qy = qy refl

  s_found : (o : Option ℕ) (found : ℕ → Accesses Leaf) (none : Accesses Leaf) → ((i : ℕ) → S (found i)) → S none → S (if_found o found none)
  s_found (Some i) found none q r = q i
  s_found None found none q r = r

  s_scanned : (left addr : ℕ) → S (scanned p.table left addr s leaf)
  unfolding scanned completed outcome_of
  s_scanned left addr = tt

  s_left : (made : ℕ) → P made (suspended (searched p made) s) → S (leaves (searched p made) made s leaf)
  unfolding leaves outcome_of
  s_left made h = h

  s_run : (addr len : ℕ) (next : List ℕ → State → Accesses Leaf) → S (next (bytes_from (byte_at m) addr len) s) → S (read_run_at addr len s next)
  unfolding read_run_at outcome_of
  s_run addr len next q = s_violated (violation m addr len (mode s) Read) _ (λ e. q)

  s_check : (addr : ℕ) (next : State → Accesses Leaf) → (violation m addr 1 (mode s) Read ≡ None → S (next s)) → S (check_at addr 1 Read s next)
  unfolding check_at outcome_of
  s_check addr next q = s_violated (violation m addr 1 (mode s) Read) _ q

  s_table : (next : ℕ → ℕ → List ℕ → State → Accesses Leaf) → (let r = reads m s p.table near in S (next r.from r.to r.entries s)) → S (table_read p.table s next)
  s_table next q = subst (IfLeft P) (sym ((reads m s p.table near).read next)) q

  abbrev count : ℕ
  count = search_room p

  abbrev run : List ℕ
  run = bytes_from (byte_at m) p.addr1 count

  abbrev r : Reads m s p.table
  r = reads m s p.table near

  abbrev known : ℕ
  known = position_or_len (is_unknown r.from r.to) run

  long : length run ≡ count
  long = length_run (byte_at m) p.addr1 count

  byte_here : (i : ℕ) → i < count → slice_index run i ≡ byte_at m (plus p.addr1 i)
  byte_here i h = byte_in_run (byte_at m) count p.addr1 i small h

  barred_at : known < count → may_access m (page_of (plus p.table (byte_at m (plus p.addr1 known)))) (mode s) Read ≡ false
  barred_at h =
      let unknown : is_unknown r.from r.to (slice_index run known) ≡ true = passes_at_first (is_unknown r.from r.to) run 0 (subst (λ n. known < n) (sym long) h) in
      let e = byte_here known h in
      subst (λ x. may_access m (page_of (plus p.table x)) (mode s) Read ≡ false) e
      (r.known.barred (slice_index run known) (subst (λ x. x < 256) (sym e) (bytes_fit.below (plus p.addr1 known))) unknown)

  -- the first byte's entry was checked
  some_known : p.len1 ≢ 0 → violation m (plus p.table (slice_index run 0)) 1 (mode s) Read ≡ None → known ≢ 0
  unfolding search_room
  some_known some_left fine zero_known =
      let h : 0 < count = some_room in
      let at : may_access m (page_of (plus p.table (byte_at m (plus p.addr1 known)))) (mode s) Read ≡ false = barred_at (subst (λ k. k < count) (sym zero_known) h) in
      let here : may_access m (page_of (plus p.table (slice_index run 0))) (mode s) Read ≡ false =
      subst (λ x. may_access m (page_of (plus p.table x)) (mode s) Read ≡ false) (ap (λ k. byte_at m (plus p.addr1 k)) zero_known ∙ sym (byte_here 0 h)) at in
      no_both _ (sym (first_barred m (plus p.table (slice_index run 0)) 1 (mode s) Read (omega arith) here) ∙ fine)
    where
      some_room : 0 < search_room p
      some_room = omega arith

      no_both : (v : Violation) → Some v ≡ None → ⊥
      no_both v e = cc

  made_is : length (take known run) ≡ known
  made_is = length-take known run ∙ (let f = prefix_len-le-length (λ x. not (is_unknown r.from r.to x)) run in omega arith)

  scan_ends : p.len1 ≢ 0 → violation m (plus p.table (slice_index run 0)) 1 (mode s) Read ≡ None → S (scan_end some p known r.entries run s leaf)
  unfolding scan_end search_end
  scan_ends some_left fine =
      let one = some_known some_left fine in
      let most : known ≤ count = subst (λ n. known ≤ n) long (prefix_len-le-length (λ x. not (is_unknown r.from r.to x)) run) in
      s_by (known == 0) _ _ (λ none. absurd (one (eqb-true known 0 none)))
      (λ goes. s_found _ _ _ (λ i. s_scanned _ _)
      (s_by (length (take known run) == p.len1) _ _ (λ all. s_scanned _ _)
      (λ more.
      let many : known ≢ p.len1 = λ e. eqb-false (length (take known run)) p.len1 more (made_is ∙ e) in
      let max_is = maximal_scan p (entry_barred p (mode s) m) known small some_left (omega arith) most many (λ less. ap not (barred_at less)) in
      s_left (length (take known run)) (record {
        some = subst (λ n. 1 ≤ n) (sym made_is) (omega arith);
        maximal = subst (IsMaximal (search_needs p) (entry_barred p (mode s) m)) (sym made_is) max_is;
        state = refl;
      }))))

  pub scan_left : S (scan_part some p s leaf)
  unfolding scan_part scan_run
  scan_left =
      s_by (p.len1 == 0) _ _ (λ none. s_scanned _ _)
      (λ goes. s_run p.addr1 count _ (s_table _ (s_check _ _ (λ fine. scan_ends (eqb-false p.len1 0 goes) fine))))
