-- What the code keeps of values is what the modules' values are.
use Rattle.std.proofs.Common.{◌≡◌, ℕ, suc, ◌+◌, ◌<◌, ◌≤◌, ◌%◌, List, [], ◌∷◌, ◌++◌, length, take, drop, get_or, map, Some, None, refl, sym, ap, subst, ◌∙◌, append_assoc, arith}
use Rattle.std.specs.Prelude.{Option, slice_index}
use Rattle.std.specs.Borrow.{Bor}
use Rattle.std.specs.Global.{Vec}
use Rattle.std.specs.Slice.{IsGetResult}
use Rattle.std.specs.List.{fold}
use Rattle.std.proofs.lemmas.List.{append-nil, drop_more, drop_all, get_or_past, take_all}
use Rattle.std.proofs.lemmas.List.{get_or-map as read-map}
use Rattle.std.proofs.lemmas.Grind.{get_or_default_zero}
use Rattle.std.proofs.Math.ListN.{get_or-map}
use Rattle.vax_module.specs.declared.Module.{Module}
use Rattle.vax_module.specs.declared.Reloc.{Reloc}
use Rattle.vax_module.specs.declared.Section.{Section}
use Rattle.vax_module.specs.declared.Symbol.{Symbol}
use Rattle.vax_image.specs.declared.Base.{Base}
use Rattle.vax_link.specs.Names.{module_at, nothing, plus}
use Rattle.vax_link.specs.Layout.{addresses, first_piece, pieces_of}
use Rattle.vax_link.specs.Placed.{AreFirsts, bytes_in, external_values}
use Rattle.vax_link.specs.Values.{filled_from, external_value, filled_sections_from, section_address, unreached_from, value_of, value_of_external, with_reach, with_reloc}
use Rattle.vax_link.specs.Linked.{transfer_from}
use Rattle.vax_link.proofs.LayoutLaws.{addresses_long}

pub past_at : {X : Type 0} (xs : List X) (n : ℕ) (r : Option (Bor X)) → IsGetResult xs n n r → r ≡ None → length xs ≤ n
past_at xs n None h is = h.3
past_at xs n (Some x) h is = absurd cc

pub found_at : {X : Type 0} (xs : List X) (n : ℕ) (r : Option (Bor X)) (x : Bor X) → IsGetResult xs n n r → r ≡ Some x → (n < length xs) × (x.now ≡ get_or xs n x.now)
found_at xs n None x h is = absurd cc
found_at {X} xs n (Some y) x h is =
    let same : y ≡ x = cc in
    let P : Bor X → Type 0 = λ z. (n < length xs) × (z.now ≡ get_or xs n z.now) in
    subst P same (h.3.0, h.1)

pub sum_is : (a b x y : ℕ) → a ≡ x → b ≡ y → (a + b) % 4294967296 ≡ plus x y
sum_is a b x y p q = ap (λ n. (n + b) % 4294967296) p ∙ ap (λ n. (x + n) % 4294967296) q

-- ---- values of external names

pub values_at : (region : Base) (modules : List Module) (kept : List (Vec ℕ)) (owner : ℕ) (v : Vec ℕ) → bytes_in kept ≡ external_values region modules → (owner < length kept) × (v ≡ get_or kept owner v)
    → v.items ≡ map (external_value region modules) (module_at modules owner).externals
values_at region modules kept owner v same at =
    let items : Vec ℕ → List ℕ = λ u. u.items in
    let values : Module → List ℕ = λ m. map (external_value region modules) m.externals in
    ap items at.1 ∙ sym (read-map items kept owner v [] at.0) ∙ ap (λ (vs : List (List ℕ)). get_or vs owner []) same ∙ get_or-map values modules owner nothing

pub external_past : (region : Base) (modules : List Module) (owner index : ℕ) (items : List ℕ) → items ≡ map (external_value region modules) (module_at modules owner).externals → length items ≤ index
    → 0 ≡ value_of_external region modules owner index
external_past region modules owner index items same past = sym (get_or_past items index 0 past) ∙ ap (λ (vs : List ℕ). slice_index vs index) same

pub external_found : (region : Base) (modules : List Module) (owner index : ℕ) (items : List ℕ) (x : ℕ) → items ≡ map (external_value region modules) (module_at modules owner).externals → (index < length items) × (x ≡ get_or items index x)
    → x ≡ value_of_external region modules owner index
external_found region modules owner index items x same at = at.1 ∙ get_or_default_zero items index x at.0 ∙ ap (λ (vs : List ℕ). slice_index vs index) same

-- ---- addresses

pub address_past : (region : Base) (modules : List Module) (firsts : List ℕ) (owner section : ℕ) → AreFirsts modules firsts → length firsts ≤ owner → 0 ≡ section_address region modules owner section
address_past region modules firsts owner section are past =
    let count = are.count in
    let all : take owner modules ≡ modules = take_all owner modules (omega arith) in
    let first : first_piece modules owner ≡ length (pieces_of modules) = ap (λ (ms : List Module). length (pieces_of ms)) all in
    let long = addresses_long region (pieces_of modules) [] (pieces_of modules) in
    sym (get_or_past (addresses region (pieces_of modules)) (first_piece modules owner + section) 0 (omega (arith, long, first)))

-- ---- loops over what is left of the modules

rest_of : {X : Type 0} (xs : List X) (i : ℕ) (x : X) → i < length xs → x ≡ get_or xs i x → drop i xs ≡ x ∷ drop (i + 1) xs
rest_of {X} xs i x lt is = drop_more xs i x lt ∙ ap (λ (y : X). y ∷ drop (i + 1) xs) (sym is)

pub transfer_here : (region : Base) (modules : List Module) (i : ℕ) (m : Module) (symbol : Symbol) (total : Option ℕ) → i < length modules → m ≡ get_or modules i m → m.transfer ≡ Some symbol
    → transfer_from region modules i (drop i modules) ≡ total → Some (value_of region modules i symbol.value) ≡ total
unfolding transfer_from
transfer_here region modules i m symbol total lt is begins so_far =
    let here : transfer_from region modules i (m ∷ drop (i + 1) modules) ≡ Some (value_of region modules i symbol.value) = rw begins refl in
    sym here ∙ ap (transfer_from region modules i) (sym (rest_of modules i m lt is)) ∙ so_far

pub transfer_later : (region : Base) (modules : List Module) (i : ℕ) (m : Module) (total : Option ℕ) → i < length modules → m ≡ get_or modules i m → m.transfer ≡ None
    → transfer_from region modules i (drop i modules) ≡ total → transfer_from region modules (i + 1) (drop (i + 1) modules) ≡ total
unfolding transfer_from
transfer_later region modules i m total lt is none so_far =
    let here : transfer_from region modules i (m ∷ drop (i + 1) modules) ≡ transfer_from region modules (suc i) (drop (i + 1) modules) = rw none refl in
    let next : i + 1 ≡ suc i = omega arith in
    ap (λ (n : ℕ). transfer_from region modules n (drop (i + 1) modules)) next ∙ sym here ∙ ap (transfer_from region modules i) (sym (rest_of modules i m lt is)) ∙ so_far

pub transfer_past : (region : Base) (modules : List Module) (i : ℕ) (total : Option ℕ) → length modules ≤ i → transfer_from region modules i (drop i modules) ≡ total → None ≡ total
unfolding transfer_from
transfer_past region modules i total past so_far = ap (transfer_from region modules i) (sym (drop_all i modules past)) ∙ so_far

pub unreached_more : (region : Base) (modules : List Module) (i : ℕ) (m : Module) (found next total : Option ℕ) → i < length modules → m ≡ get_or modules i m → next ≡ fold (with_reach region modules i) found m.relocs
    → unreached_from region modules i found (drop i modules) ≡ total → unreached_from region modules (i + 1) next (drop (i + 1) modules) ≡ total
unfolding unreached_from
unreached_more region modules i m found next total lt is here so_far =
    let step : i + 1 ≡ suc i = omega arith in
    ap (λ (n : ℕ). unreached_from region modules n next (drop (i + 1) modules)) step ∙ ap (λ (o : Option ℕ). unreached_from region modules (suc i) o (drop (i + 1) modules)) here
    ∙ ap (unreached_from region modules i found) (sym (rest_of modules i m lt is)) ∙ so_far

pub unreached_past : (region : Base) (modules : List Module) (i : ℕ) (found total : Option ℕ) → length modules ≤ i → unreached_from region modules i found (drop i modules) ≡ total → found ≡ total
unfolding unreached_from
unreached_past region modules i found total past so_far = ap (unreached_from region modules i found) (sym (drop_all i modules past)) ∙ so_far

pub filled_more : (region : Base) (modules : List Module) (i : ℕ) (m : Module) (out next total : List (List ℕ)) → i < length modules → m ≡ get_or modules i m
    → next ≡ out ++ filled_sections_from region modules i m.relocs 0 (map (λ s. s.bytes) m.sections)
    → out ++ filled_from region modules i (drop i modules) ≡ total → next ++ filled_from region modules (i + 1) (drop (i + 1) modules) ≡ total
unfolding filled_from
filled_more region modules i m out next total lt is here so_far =
    let part = filled_sections_from region modules i m.relocs 0 (map (λ s. s.bytes) m.sections) in
    let step : i + 1 ≡ suc i = omega arith in
    ap (λ (n : ℕ). next ++ filled_from region modules n (drop (i + 1) modules)) step ∙ ap (λ (t : List (List ℕ)). t ++ filled_from region modules (suc i) (drop (i + 1) modules)) here
    ∙ append_assoc out part (filled_from region modules (suc i) (drop (i + 1) modules)) ∙ ap (λ (ms : List Module). out ++ filled_from region modules i ms) (sym (rest_of modules i m lt is)) ∙ so_far

pub filled_past : (region : Base) (modules : List Module) (i : ℕ) (out total : List (List ℕ)) → length modules ≤ i → out ++ filled_from region modules i (drop i modules) ≡ total → out ≡ total
unfolding filled_from
filled_past region modules i out total past so_far = sym (append-nil out) ∙ ap (λ (ms : List Module). out ++ filled_from region modules i ms) (sym (drop_all i modules past)) ∙ so_far

pub sections_more : (region : Base) (modules : List Module) (owner : ℕ) (relocs : List Reloc) (i : ℕ) (sections : List Section) (s : Section) (out next total : List (List ℕ)) (bytes : List ℕ) → i < length sections → s ≡ get_or sections i s
    → bytes ≡ fold (with_reloc region modules owner i) s.bytes relocs → next ≡ out ++ bytes ∷ []
    → out ++ filled_sections_from region modules owner relocs i (map (λ s. s.bytes) (drop i sections)) ≡ total → next ++ filled_sections_from region modules owner relocs (i + 1) (map (λ s. s.bytes) (drop (i + 1) sections)) ≡ total
unfolding filled_sections_from
sections_more region modules owner relocs i sections s out next total bytes lt is here more so_far =
    let step : i + 1 ≡ suc i = omega arith in
    let rest = filled_sections_from region modules owner relocs (suc i) (map (λ s. s.bytes) (drop (i + 1) sections)) in
    ap (λ (n : ℕ). next ++ filled_sections_from region modules owner relocs n (map (λ s. s.bytes) (drop (i + 1) sections))) step ∙ ap (λ (t : List (List ℕ)). t ++ rest) more
    ∙ append_assoc out (bytes ∷ []) rest ∙ ap (λ (b : List ℕ). out ++ (b ∷ rest)) here
    ∙ ap (λ (ss : List Section). out ++ filled_sections_from region modules owner relocs i (map (λ s. s.bytes) ss)) (sym (rest_of sections i s lt is)) ∙ so_far

pub sections_past : (region : Base) (modules : List Module) (owner : ℕ) (relocs : List Reloc) (i : ℕ) (sections : List Section) (out total : List (List ℕ)) → length sections ≤ i
    → out ++ filled_sections_from region modules owner relocs i (map (λ s. s.bytes) (drop i sections)) ≡ total → out ≡ total
unfolding filled_sections_from
sections_past region modules owner relocs i sections out total past so_far =
    sym (append-nil out) ∙ ap (λ (ss : List Section). out ++ filled_sections_from region modules owner relocs i (map (λ s. s.bytes) ss)) (sym (drop_all i sections past)) ∙ so_far
