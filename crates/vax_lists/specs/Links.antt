-- Frames in two lists, each a circle of links through an end of its own.
use Rattle.std.specs.Prelude.{◌≡◌, ◌≢◌, ℕ, zero, suc, ◌+◌, ◌<◌, ◌≤◌, Bool, false, ◌==◌, ◌||◌, if◌then◌else◌, List, [], ◌∷◌, length, slice_index, slice_set}

-- two lists of frames below a limit
pub record FrameLists : Type 0 where
  pub first : List ℕ
  pub second : List ℕ
  pub limit : ℕ

abbrev pub with_first : FrameLists → List ℕ → FrameLists
with_first t xs = record t { first = xs }

abbrev pub with_second : FrameLists → List ℕ → FrameLists
with_second t xs = record t { second = xs }

-- a frame is in the list
unfoldable pub is_in : ℕ → List ℕ → Bool
is_in i [] = false
is_in i (x ∷ xs) = (x == i) || is_in i xs

-- the list without a frame
unfoldable pub omit : ℕ → List ℕ → List ℕ
omit i [] = []
omit i (x ∷ xs) = if x == i then omit i xs else x ∷ omit i xs

-- from a over these nodes to b
unfoldable pub Chain : (ℕ → ℕ) → (ℕ → ℕ) → ℕ → List ℕ → ℕ → Type 0
Chain next before a [] b = (next a ≡ b) × (before b ≡ a)
Chain next before a (x ∷ xs) b = (next a ≡ x) × (before x ≡ a) × Chain next before x xs b

-- it isn't in the list
unfoldable pub Away : ℕ → List ℕ → Type 0
Away i [] = Unit {0}
Away i (x ∷ xs) = (i ≢ x) × Away i xs

-- each node once
unfoldable pub Once : List ℕ → Type 0
Once [] = Unit {0}
Once (x ∷ xs) = Away x xs × Once xs

-- no node of the one list is in the other
unfoldable pub Apart : List ℕ → List ℕ → Type 0
Apart [] ys = Unit {0}
Apart (x ∷ xs) ys = Away x ys × Apart xs ys

unfoldable pub AllBelow : ℕ → List ℕ → Type 0
AllBelow limit [] = Unit {0}
AllBelow limit (x ∷ xs) = (x < limit) × AllBelow limit xs

-- so many nodes from one on
unfoldable pub walk : (ℕ → ℕ) → ℕ → ℕ → List ℕ
walk next zero x = []
walk next (suc n) x = x ∷ walk next n (next x)

-- the links after a frame was put before an end, where this was the last
abbrev pub next_appended : List ℕ → ℕ → ℕ → ℕ → List ℕ
next_appended next last end frame = slice_set (slice_set next last frame) frame end

abbrev pub before_appended : List ℕ → ℕ → ℕ → ℕ → List ℕ
before_appended before last end frame = slice_set (slice_set before frame last) end frame

-- the links after a frame between these two was taken out
abbrev pub next_removed : List ℕ → ℕ → ℕ → List ℕ
next_removed next after prior = slice_set next prior after

abbrev pub before_removed : List ℕ → ℕ → ℕ → List ℕ
before_removed before after prior = slice_set before after prior

-- the links after a frame was taken out from between its two neighbours
abbrev pub next_without : List ℕ → List ℕ → ℕ → List ℕ
next_without next before frame = next_removed next (slice_index next frame) (slice_index before frame)

abbrev pub before_without : List ℕ → List ℕ → ℕ → List ℕ
before_without next before frame = before_removed before (slice_index next frame) (slice_index before frame)

-- the circles from the end a over these nodes, and from the end b over those
pub record AreCircles (next before : List ℕ) (limit a b : ℕ) (xs ys : List ℕ) : Type 0 where
  pub next_size : length next ≡ limit + 2
  pub before_size : length before ≡ limit + 2
  pub next_within : (i : ℕ) → slice_index next i < limit + 2
  pub before_within : (i : ℕ) → slice_index before i < limit + 2
  pub small : limit ≤ 32768
  pub chain : Chain (slice_index next) (slice_index before) a xs a
  pub other : Chain (slice_index next) (slice_index before) b ys b
  pub once : Once xs
  pub other_once : Once ys
  pub below : AllBelow limit xs
  pub other_below : AllBelow limit ys
  pub apart : Apart ys xs

-- the nodes of a circle of this length
abbrev pub nodes_of : List ℕ → ℕ → ℕ → List ℕ
nodes_of next end count = walk (slice_index next) count (slice_index next end)

-- the lists of so many nodes whose ends are the first two numbers that are no frames
abbrev pub lists_of : List ℕ → ℕ → ℕ → ℕ → FrameLists
lists_of next limit n m = record { first = nodes_of next limit n; second = nodes_of next (limit + 1) m; limit = limit }

abbrev pub AreLinked : List ℕ → List ℕ → ℕ → ℕ → ℕ → Type 0
AreLinked next before limit n m =
    AreCircles next before limit limit (limit + 1) (nodes_of next limit n) (nodes_of next (limit + 1) m)
