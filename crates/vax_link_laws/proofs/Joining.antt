-- Where a section's bytes stand among those of its name.
use Rattle.std.proofs.Common.{◌≡◌, ℕ, ◌+◌, ◌-◌, ◌<◌, ◌≤◌, Bool, true, false, cond, List, [], ◌∷◌, ◌++◌, length, get_or, map, refl, sym, ap, subst, ◌∙◌, arith}
use Rattle.std.specs.Prelude.{not, ◌&&◌, ◌==◌, replicate}
use Rattle.std.specs.List.{fold, zip}
use Rattle.std.proofs.lemmas.Bool.{eqb-true}
use Rattle.std.proofs.lemmas.List.{get_or-append_right, get_or_append_left, length-append, length-replicate}
use Rattle.std.proofs.lemmas.List.Sums.{fold-append}
use Rattle.std.proofs.lemmas.Slice.Eq.{bytes_eq-Decides}
use Rattle.vax_link.proofs.ImageLaws.{aligns, bytes_long}
use Rattle.vax_link.proofs.LayoutLaws.{aligned_above}
use Rattle.vax_link.specs.Layout.{align_of, aligned, end_behind, is_named, offset_behind}
use Rattle.vax_link.specs.Linked.{bytes_of, with_piece}
use Rattle.vax_link.specs.Names.{Name}
use Rattle.vax_link.specs.Placed.{IsFilling}
use Rattle.vax_module.specs.declared.Section.{Section}

zip_parted : (front back : List Section) (s : Section) (before behind : List (List ℕ)) (b : List ℕ) → length before ≡ length front → zip (front ++ (s ∷ back)) (before ++ (b ∷ behind)) ≡ zip front before ++ ((s, b) ∷ zip back behind)
zip_parted [] back s [] behind b same = refl
zip_parted [] back s (x ∷ before) behind b same = absurd (omega arith)
zip_parted (t ∷ front) back s [] behind b same = absurd (omega arith)
zip_parted (t ∷ front) back s (x ∷ before) behind b same = ap (λ (l : List (Section × List ℕ)). (t, x) ∷ l) (zip_parted front back s before behind b (omega arith))

record IsKept (joined next : List ℕ) (i : ℕ) : Type 0 where
  same : get_or next i 0 ≡ get_or joined i 0
  less : i < length next

kept_step : (b : Bool) (joined more : List ℕ) (i : ℕ) → i < length joined → IsKept joined (cond b (joined ++ more) joined) i
kept_step true joined more i less = record { same = get_or_append_left joined more 0 i less; less = omega (arith, length-append joined more) }
kept_step false joined more i less = record { same = refl; less = less }

-- sections behind leave what is there
front_kept : (name : Name) (align : ℕ) (pieces : List (Section × List ℕ)) (joined : List ℕ) (i : ℕ) → i < length joined → IsKept joined (fold (with_piece name align) joined pieces) i
front_kept name align [] joined i less = record { same = refl; less = less }
front_kept name align ((p, bytes) ∷ pieces) joined i less =
    let next : List ℕ = with_piece name align joined (p, bytes) in
    let kept : IsKept joined next i = kept_step (is_named name p && not (length bytes == 0)) joined (replicate (aligned align (length joined) - length joined) 0 ++ bytes) i less in
    let rest = front_kept name align pieces next i kept.less in
    record { same = rest.same ∙ kept.same; less = rest.less }

filling_front : (front back : List Section) (before behind : List (List ℕ)) → length before ≡ length front → IsFilling (front ++ back) (before ++ behind) → IsFilling front before
filling_front [] back [] behind same filling = refl
filling_front [] back (x ∷ before) behind same filling = absurd (omega arith)
filling_front (t ∷ front) back [] behind same filling = absurd (omega arith)
filling_front (t ∷ front) back (x ∷ before) behind same filling =
    let here : length x ≡ length t.bytes = cc in
    let rest : IsFilling (front ++ back) (before ++ behind) = cc in
    let next : IsFilling front before = filling_front front back before behind (omega arith) rest in
    ap (λ (n : ℕ). n ∷ map length before) here ∙ ap (λ (ns : List ℕ). length t.bytes ∷ ns) next

full : (k : ℕ) (b : List ℕ) (t : Bool) → (length b == 0) ≡ t → k < length b → not (length b == 0) ≡ true
full k b true is less = absurd (let e = eqb-true (length b) 0 is in omega arith)
full k b false is less = ap not is

-- a section with bytes is put behind a gap
pub record IsPut (b next : List ℕ) (at k : ℕ) : Type 0 where
  pub same : get_or next (at + k) 0 ≡ get_or b k 0
  pub less : at + k < length next

put_behind : (t : Bool) (align k : ℕ) (joined b : List ℕ) → 0 < align → t ≡ true → k < length b
    → IsPut b (cond t (joined ++ (replicate (aligned align (length joined) - length joined) 0 ++ b)) joined) (aligned align (length joined)) k
put_behind true align k joined b some is less =
    let at : ℕ = aligned align (length joined) in
    let above : length joined ≤ at = aligned_above align (length joined) some in
    let gap : List ℕ = replicate (at - length joined) 0 in
    let long : length gap ≡ at - length joined = length-replicate (at - length joined) 0 in
    let behind : ((at + k) - length joined) - (at - length joined) ≡ k = omega arith in
    record {
      same = get_or-append_right joined (gap ++ b) (length joined) (at + k) 0 refl (omega arith)
          ∙ get_or-append_right gap b (at - length joined) ((at + k) - length joined) 0 long (omega arith)
          ∙ ap (λ (i : ℕ). get_or b i 0) behind;
      less = omega (arith, length-append joined (gap ++ b), length-append gap b);
    }
put_behind false align k joined b some is less = absurd cc

-- the bytes of a section's name have its bytes at its offset
pub piece_there : (front back : List Section) (s : Section) (before behind : List (List ℕ)) (b : List ℕ) (k : ℕ) → length before ≡ length front → IsFilling (front ++ (s ∷ back)) (before ++ (b ∷ behind)) → k < length b
    → IsPut b (bytes_of (front ++ (s ∷ back)) (before ++ (b ∷ behind)) s.name) (offset_behind (front ++ (s ∷ back)) front s.name) k
piece_there front back s before behind b k same filling less =
    let pieces : List Section = front ++ (s ∷ back) in
    let align : ℕ = align_of s.name pieces in
    let some : 0 < align = aligns s.name 1 pieces (omega arith) in
    let joined : List ℕ = fold (with_piece s.name align) [] (zip front before) in
    let long : length joined ≡ end_behind s.name align 0 front = bytes_long s.name align [] front before some (filling_front front (s ∷ back) before (b ∷ behind) same filling) in
    let next : List ℕ = with_piece s.name align joined (s, b) in
    let named : is_named s.name s ≡ true = (bytes_eq-Decides s.name s.name).1 refl in
    let test : (is_named s.name s && not (length b == 0)) ≡ true = ap (λ t. t && not (length b == 0)) named ∙ full k b (length b == 0) refl less in
    let put : IsPut b next (aligned align (length joined)) k = put_behind (is_named s.name s && not (length b == 0)) align k joined b some test less in
    let at : aligned align (length joined) ≡ offset_behind pieces front s.name = ap (aligned align) long in
    let kept = front_kept s.name align (zip back behind) next (aligned align (length joined) + k) put.less in
    let here : IsPut b (fold (with_piece s.name align) next (zip back behind)) (aligned align (length joined)) k = record { same = kept.same ∙ put.same; less = kept.less } in
    let whole : fold (with_piece s.name align) next (zip back behind) ≡ bytes_of pieces (before ++ (b ∷ behind)) s.name =
    sym (ap (λ (l : List (Section × List ℕ)). fold (with_piece s.name align) [] l) (zip_parted front back s before behind b same)
    ∙ fold-append (with_piece s.name align) [] (zip front before) ((s, b) ∷ zip back behind)) in
    subst (λ (o : ℕ). IsPut b (bytes_of pieces (before ++ (b ∷ behind)) s.name) o k) at (subst (λ (l : List ℕ). IsPut b l (aligned align (length joined)) k) whole here)
