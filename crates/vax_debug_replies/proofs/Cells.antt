-- Bytes of cells, one after the other.
use Rattle.std.proofs.Common.{◌≡◌, ◌<◌, ◌≤◌, ◌+◌, ℕ, suc, add-one, List, [], ◌∷◌, ◌++◌, append-nil, append_assoc, length, drop, get_or, Option, None, Some, sym, ap, ◌∙◌, drop-cons}
use Rattle.std.proofs.lemmas.List.{drop_all}
use Rattle.vax_debug_replies.specs.Instructions.{and_then, bytes_of}

cell_here : (cells : List (Option ℕ)) (i : ℕ) (cell : Option ℕ) → i < length cells → get_or cells i None ≡ cell → bytes_of (drop i cells) ≡ and_then cell (bytes_of (drop (i + 1) cells))
unfolding bytes_of
cell_here cells i cell h at =
    let split : drop i cells ≡ cell ∷ drop (i + 1) cells = rw add-one (drop-cons cells i None h ∙ ap (λ (x : Option ℕ). x ∷ drop (suc i) cells) at) in
    ap bytes_of split

-- an empty cell ends them
pub cell_empty : (cells : List (Option ℕ)) (items : List ℕ) (i : ℕ) → i < length cells → get_or cells i None ≡ None → bytes_of cells ≡ items ++ bytes_of (drop i cells) → items ≡ bytes_of cells
cell_empty cells items i h at all = sym (all ∙ (ap (λ (z : List ℕ). items ++ z) (cell_here cells i None h at) ∙ append-nil items))

-- a full one adds its byte
pub cell_full : (cells : List (Option ℕ)) (items new : List ℕ) (i byte : ℕ) → i < length cells → get_or cells i None ≡ Some byte → new ≡ items ++ byte ∷ [] → bytes_of cells ≡ items ++ bytes_of (drop i cells) → bytes_of cells ≡ new ++ bytes_of (drop (i + 1) cells)
cell_full cells items new i byte h at is all =
    let rest = bytes_of (drop (i + 1) cells) in
    all ∙ (ap (λ (z : List ℕ). items ++ z) (cell_here cells i (Some byte) h at) ∙ (sym (append_assoc items (byte ∷ []) rest) ∙ ap (λ (z : List ℕ). z ++ rest) (sym is)))

pub cells_done : (cells : List (Option ℕ)) (items : List ℕ) (i : ℕ) → length cells ≤ i → bytes_of cells ≡ items ++ bytes_of (drop i cells) → items ≡ bytes_of cells
unfolding bytes_of
cells_done cells items i h all = sym (all ∙ (ap (λ (z : List (Option ℕ)). items ++ bytes_of z) (drop_all i cells h) ∙ append-nil items))
