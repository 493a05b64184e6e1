-- How far an absolute section has counted, row by row.
use Rattle.std.proofs.Common.{◌≡◌, ◌<◌, ℕ, ◌+◌, max, List, [], ◌∷◌, ◌++◌, length, take, sym, ap, ◌∙◌, add-one, append-nil, arith}
use Rattle.std.proofs.Math.Seq.{take-suc}
use Rattle.std.proofs.lemmas.List.Elements.{filter_map-append}
use Rattle.std.proofs.lemmas.List.Sums.{fold-append}
use Rattle.std.specs.List.{cons_option, filter_map, reduce}
use Rattle.std.specs.Prelude.{Option, Some, None, slice_index_or, unwrap_or}
use Rattle.vax_asm_listing.specs.Listing.{counted_in, end_in}
use Rattle.vax_asm_listing.specs.declared.types.Row.{Row}

last_end : (ends : List ℕ) (e : ℕ) → reduce max (ends ++ e ∷ []) ≡ Some (max (unwrap_or (reduce max ends) 0) e)
last_end [] e = ap Some (omega arith)
last_end (n ∷ ends) e = ap Some (fold-append max n ends (e ∷ []))

ends : (number : ℕ) (rows : List Row) (i : ℕ) (row : Row) → i < length rows → row ≡ slice_index_or rows i row
    → filter_map (end_in number) (take (i + 1) rows) ≡ filter_map (end_in number) (take i rows) ++ cons_option (end_in number row) []
ends number rows i row h at =
    rw add-one (ap (filter_map (end_in number)) (take-suc rows i row h ∙ ap (λ (r : Row). take i rows ++ r ∷ []) (sym at)) ∙ filter_map-append (end_in number) (take i rows) (row ∷ []))

pub counted_more : (number : ℕ) (rows : List Row) (i : ℕ) (row : Row) (e : ℕ) → i < length rows → row ≡ slice_index_or rows i row → end_in number row ≡ Some e
    → counted_in number (take (i + 1) rows) ≡ Some (max (unwrap_or (counted_in number (take i rows)) 0) e)
unfolding counted_in
counted_more number rows i row e h at is =
    ap (reduce max) (ends number rows i row h at ∙ ap (λ (o : Option ℕ). filter_map (end_in number) (take i rows) ++ cons_option o []) is) ∙ last_end (filter_map (end_in number) (take i rows)) e

pub counted_same : (number : ℕ) (rows : List Row) (i : ℕ) (row : Row) → i < length rows → row ≡ slice_index_or rows i row → end_in number row ≡ None
    → counted_in number (take (i + 1) rows) ≡ counted_in number (take i rows)
unfolding counted_in
counted_same number rows i row h at is =
    ap (reduce max) (ends number rows i row h at ∙ (ap (λ (o : Option ℕ). filter_map (end_in number) (take i rows) ++ cons_option o []) is ∙ append-nil (filter_map (end_in number) (take i rows))))
