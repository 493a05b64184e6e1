-- The bytes of a section once its fields are filled in.
use Rattle.std.proofs.Common.{◌≡◌, ℕ, zero, suc, ◌+◌, ◌-◌, ◌<◌, ◌≤◌, Bool, true, false, cond, List, [], ◌∷◌, ◌++◌, length, take, drop, get_or, refl, sym, ap, subst, ◌∙◌, arith, ◌⊎◌, inl, inr}
use Rattle.std.specs.Prelude.{◌==◌, ◌≢◌, All, AllPairs}
use Rattle.std.specs.List.{fold}
use Rattle.byteorder.specs.Endian.{little_bytes}
use Rattle.byteorder.specs.Numbers.{length-bytes_low_first}
use Rattle.std.proofs.lemmas.Bool.{eqb-false, eqb-true}
use Rattle.std.proofs.lemmas.List.{get_or-append_right, get_or-drop, get_or-take, get_or_append_left, length-take-le}
use Rattle.std.proofs.lemmas.List.Elements.{All-cons, All-head, All-nil, All-tail}
use Rattle.vax_image.specs.declared.Base.{Base}
use Rattle.vax_link.proofs.FillLaws.{AreWithin, section_long}
use Rattle.vax_link.specs.Values.{field_content, with_field, with_reloc}
use Rattle.vax_link_laws.specs.Holding.{Misses}
use Rattle.vax_module.specs.Formed.{AreApart, end_of, width_of}
use Rattle.vax_module.specs.declared.Module.{Module}
use Rattle.vax_module.specs.declared.Reloc.{Reloc}

little_long : (width n : ℕ) → length (little_bytes width n) ≡ width
little_long width n = length-bytes_low_first 0 width n

-- bytes before a field and behind it stay
field_elsewhere : (bytes : List ℕ) (offset width n k : ℕ) → offset + width ≤ length bytes → (k < offset) ⊎ (offset + width ≤ k) → get_or (with_field bytes offset width n) k 0 ≡ get_or bytes k 0
unfolding with_field
field_elsewhere bytes offset width n k within (inl before) =
    let long : length (take offset bytes) ≡ offset = length-take-le offset bytes (omega arith) in
    get_or_append_left (take offset bytes) (little_bytes width n ++ drop (offset + width) bytes) 0 k (omega arith) ∙ get_or-take offset bytes k 0 before
field_elsewhere bytes offset width n k within (inr behind) =
    let long : length (take offset bytes) ≡ offset = length-take-le offset bytes (omega arith) in
    let place : (offset + width) + ((k - offset) - width) ≡ k = omega arith in
    get_or-append_right (take offset bytes) (little_bytes width n ++ drop (offset + width) bytes) offset k 0 long (omega arith)
    ∙ get_or-append_right (little_bytes width n) (drop (offset + width) bytes) width (k - offset) 0 (little_long width n) (omega arith)
    ∙ get_or-drop (offset + width) bytes ((k - offset) - width) 0
    ∙ ap (λ (i : ℕ). get_or bytes i 0) place

field_there : (bytes : List ℕ) (offset width n k : ℕ) → offset + width ≤ length bytes → k < width → get_or (with_field bytes offset width n) (offset + k) 0 ≡ get_or (little_bytes width n) k 0
unfolding with_field
field_there bytes offset width n k within less =
    let long : length (take offset bytes) ≡ offset = length-take-le offset bytes (omega arith) in
    let place : (offset + k) - offset ≡ k = omega arith in
    get_or-append_right (take offset bytes) (little_bytes width n ++ drop (offset + width) bytes) offset (offset + k) 0 long (omega arith)
    ∙ ap (λ (i : ℕ). get_or (little_bytes width n ++ drop (offset + width) bytes) i 0) place
    ∙ get_or_append_left (little_bytes width n) (drop (offset + width) bytes) 0 k (omega (arith, little_long width n))

abbrev IsIn : ℕ → ℕ → Reloc → Type 0
IsIn number len r = r.section ≡ number → r.offset + width_of r.kind ≤ len

-- one more field leaves a section as long as it is
next_long : (region : Base) (modules : List Module) (owner number : ℕ) (bytes : List ℕ) (r : Reloc) → IsIn number (length bytes) r → length (with_reloc region modules owner number bytes r) ≡ length bytes
next_long region modules owner number bytes r within = section_long region modules owner number (length bytes) bytes (r ∷ []) refl (All-cons (IsIn number (length bytes)) r [] within (All-nil (IsIn number (length bytes))))

own_step : (b : Bool) (bytes : List ℕ) (r : Reloc) (n place : ℕ) → (b ≡ true → r.offset + width_of r.kind ≤ length bytes) → (b ≡ true → (place < r.offset) ⊎ (end_of r ≤ place))
    → get_or (cond b (with_field bytes r.offset (width_of r.kind) n) bytes) place 0 ≡ get_or bytes place 0
own_step true bytes r n place within misses = field_elsewhere bytes r.offset (width_of r.kind) n place (within refl) (misses refl)
own_step false bytes r n place within misses = refl

-- a byte that no field has stays
pub own_kept : (region : Base) (modules : List Module) (owner number place : ℕ) (bytes : List ℕ) (relocs : List Reloc) → AreWithin number (length bytes) relocs → All (Misses number place) relocs
    → get_or (fold (with_reloc region modules owner number) bytes relocs) place 0 ≡ get_or bytes place 0
own_kept region modules owner number place bytes [] within misses = refl
own_kept region modules owner number place bytes (r ∷ relocs) within misses =
    let P : Reloc → Type 0 = IsIn number (length bytes) in
    let next : List ℕ = with_reloc region modules owner number bytes r in
    let here : IsIn number (length bytes) r = All-head P r relocs within in
    let missed : Misses number place r = All-head (Misses number place) r relocs misses in
    let long : length next ≡ length bytes = next_long region modules owner number bytes r here in
    own_kept region modules owner number place next relocs (subst (λ (n : ℕ). AreWithin number n relocs) (sym long) (All-tail P r relocs within)) (All-tail (Misses number place) r relocs misses)
    ∙ own_step (r.section == number) bytes r (field_content region modules owner r) place (λ e. here (eqb-true r.section number e)) (λ e. missed (eqb-true r.section number e))

-- fields that are apart don't have each other's bytes
apart_misses : (r s : Reloc) (number k : ℕ) → AreApart r s → r.section ≡ number → k < width_of r.kind → Misses number (r.offset + k) s
apart_misses r s number k (inl other) is less = λ same. absurd (other (is ∙ sym same))
apart_misses r s number k (inr (inl before)) is less = λ same. inl (omega arith)
apart_misses r s number k (inr (inr behind)) is less = λ same. inr (omega arith)

there_step : (b : Bool) (bytes : List ℕ) (r : Reloc) (n k : ℕ) → b ≡ true → r.offset + width_of r.kind ≤ length bytes → k < width_of r.kind
    → get_or (cond b (with_field bytes r.offset (width_of r.kind) n) bytes) (r.offset + k) 0 ≡ get_or (little_bytes (width_of r.kind) n) k 0
there_step true bytes r n k is within less = field_there bytes r.offset (width_of r.kind) n k within less
there_step false bytes r n k is within less = absurd cc

same_number : (b : Bool) (m n : ℕ) → (m == n) ≡ b → m ≡ n → b ≡ true
same_number true m n is e = refl
same_number false m n is e = absurd (let ne : m ≢ n = eqb-false m n is in ne e)

-- a field's bytes are those of what it holds
pub field_filled : (region : Base) (modules : List Module) (owner number : ℕ) (bytes : List ℕ) (relocs : List Reloc) (j : ℕ) (r : Reloc) (k : ℕ) → AreWithin number (length bytes) relocs → AllPairs AreApart relocs
    → j < length relocs → get_or relocs j r ≡ r → r.section ≡ number → k < width_of r.kind
    → get_or (fold (with_reloc region modules owner number) bytes relocs) (r.offset + k) 0 ≡ get_or (little_bytes (width_of r.kind) (field_content region modules owner r)) k 0
field_filled region modules owner number bytes [] j r k within apart less at is small = absurd (omega arith)
field_filled region modules owner number bytes (x ∷ relocs) zero r k within apart less at is small =
    let P : Reloc → Type 0 = IsIn number (length bytes) in
    let in_bytes : IsIn number (length bytes) x = All-head P x relocs within in
    let next : List ℕ = with_reloc region modules owner number bytes x in
    let long : length next ≡ length bytes = next_long region modules owner number bytes x in_bytes in
    let others : All (Misses number (r.offset + k)) relocs = λ i d lt. apart_misses r (get_or relocs i d) number k (subst (λ (y : Reloc). AreApart y (get_or relocs i d)) at (apart 0 (suc i) d (omega arith) (omega arith))) is small in
    own_kept region modules owner number (r.offset + k) next relocs (subst (λ (n : ℕ). AreWithin number n relocs) (sym long) (All-tail P x relocs within)) others
    ∙ ap (λ (y : Reloc). get_or (with_reloc region modules owner number bytes y) (r.offset + k) 0) at
    ∙ there_step (r.section == number) bytes r (field_content region modules owner r) k (same_number (r.section == number) r.section number refl is) (subst (IsIn number (length bytes)) at in_bytes is) small
field_filled region modules owner number bytes (x ∷ relocs) (suc j) r k within apart less at is small =
    let P : Reloc → Type 0 = IsIn number (length bytes) in
    let next : List ℕ = with_reloc region modules owner number bytes x in
    let long : length next ≡ length bytes = next_long region modules owner number bytes x (All-head P x relocs within) in
    field_filled region modules owner number next relocs j r k (subst (λ (n : ℕ). AreWithin number n relocs) (sym long) (All-tail P x relocs within)) (λ a b d lt le. apart (suc a) (suc b) d (omega arith) (omega arith)) (omega arith) at is small
