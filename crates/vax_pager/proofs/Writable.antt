-- A page that some mode may write has a block.
use Rattle.std.proofs.Common.{ℕ, zero, suc, ◌≡◌, ◌<◌, ◌≤◌, ◌+◌, ◌^◌, Bool, true, false, List, [], ◌∷◌, refl, ap, sym, ◌∙◌, arith, inl, inr, Option, Some, None, not, slice_index_or}
use Rattle.std.specs.Prelude.{is_some, ◌&&◌, ◌||◌}
use Rattle.std.specs.Option.{option_map}
use Rattle.std.proofs.lemmas.Bool.{cases_Bool, false≢true}
use Rattle.vax_space.specs.declared.Access.TheVariants.{Write}
use Rattle.vax_space.specs.declared.Area.{Area}
use Rattle.vax_space.specs.declared.Right.{Right}
use Rattle.vax_space.specs.declared.Right.TheVariants.{Nothing}
use Rattle.vax_space.specs.Areas.{area_of, block_of, has_page, is_writable, prot_of}
use Rattle.vax_space.specs.Protection.{allows, permits, protection_table, right_of}
use Rattle.vax_space.specs.Reference.{byte_after, may_access, page_of, violation}
use Rattle.vax_space.proofs.Blocks.{block_here, block_later, block_skipped}
use Rattle.vax_space.proofs.References.{accessible_from}
use Rattle.vax_pager.specs.declared.store.Store.{Store}
use Rattle.vax_pager.specs.Store.{paging}

-- what a mode may write the kernel may write

unfoldable any_writes : List Right → Bool
any_writes [] = false
any_writes (right ∷ rights) = permits right Write || any_writes rights

unfoldable is_led : List Right → Bool
is_led row = not (any_writes row) || permits (slice_index_or row 0 Nothing) Write

unfoldable are_led : List (List Right) → Bool
are_led [] = true
are_led (row ∷ rows) = is_led row && are_led rows

both : (a b : Bool) → (a && b) ≡ true → (a ≡ true) × (b ≡ true)
both true b h = (refl, h)
both false b h = absurd (false≢true h)

either : (a b : Bool) → b ≡ true → (a || b) ≡ true
either true b h = refl
either false b h = h

first_either : (a b : Bool) → a ≡ true → (a || b) ≡ true
first_either true b h = refl
first_either false b h = absurd (false≢true h)

implied : (a b : Bool) → (not a || b) ≡ true → a ≡ true → b ≡ true
implied true b h k = h
implied false b h k = absurd (false≢true k)

led_at : (rows : List (List Right)) (code : ℕ) → are_led rows ≡ true → is_led (slice_index_or rows code []) ≡ true
unfolding are_led is_led any_writes
led_at [] code h = refl
led_at (row ∷ rows) zero h = (both (is_led row) (are_led rows) h).0
led_at (row ∷ rows) (suc code) h = led_at rows code (both (is_led row) (are_led rows) h).1

mode_writes : (row : List Right) (mode : ℕ) → permits (slice_index_or row mode Nothing) Write ≡ true → any_writes row ≡ true
unfolding any_writes
mode_writes [] mode h = absurd (false≢true h)
mode_writes (right ∷ rights) zero h = first_either (permits right Write) (any_writes rights) h
mode_writes (right ∷ rights) (suc mode) h = either (permits right Write) (any_writes rights) (mode_writes rights mode h)

led_table : are_led protection_table ≡ true
unfolding are_led is_led any_writes
led_table = refl

led_row : (row : List Right) (mode : ℕ) → is_led row ≡ true → permits (slice_index_or row mode Nothing) Write ≡ true → permits (slice_index_or row 0 Nothing) Write ≡ true
unfolding is_led
led_row row mode led h = implied (any_writes row) (permits (slice_index_or row 0 Nothing) Write) led (mode_writes row mode h)

allows_kernel : (code mode : ℕ) → allows code mode Write ≡ true → allows code 0 Write ≡ true
unfolding allows right_of
allows_kernel code mode h = led_row (slice_index_or protection_table code []) mode (led_at protection_table code led_table) h

some_later : (n : ℕ) (o : Option ℕ) → is_some (option_map (λ k. n + k) o) ≡ is_some o
some_later n None = refl
some_later n (Some k) = refl

has_block : (areas : List Area) (page mode : ℕ) → may_access areas page mode Write ≡ true → is_some (block_of areas page) ≡ true
unfolding may_access prot_of area_of
has_block [] page mode h = absurd (false≢true h)
has_block (area ∷ areas) page mode h = elim (cases_Bool (has_page area page)) [
  | inl here ↦ rw (block_here area areas page (allows_kernel area.prot mode (rw here at h)) here) refl
  | inr away ↦
      let rest = has_block areas page mode (rw away at h) in
      elim (cases_Bool (is_writable area)) [
        | inl w ↦ rw (block_later area areas page w away) (some_later area.pages (block_of areas page) ∙ rest)
        | inr w ↦ rw (block_skipped area areas page w) rest
      ]
]

areas_are : (s : Store) → (paging s).areas ≡ s.space
unfolding paging
areas_are s = refl

pub block_in_space : (s : Store) (p : ℕ) → is_some (block_of (paging s).areas p) ≡ true → is_some (block_of s.space p) ≡ true
block_in_space s p h = ap (λ (z : List Area). is_some (block_of z p)) (sym (areas_are s)) ∙ h

pub writable_next : (areas : List Area) (addr n mode k : ℕ) → addr < 2 ^ 32 → k < n → None ≡ violation areas addr n mode Write → is_some (block_of areas (page_of (byte_after addr k))) ≡ true
writable_next areas addr n mode k small low free = has_block areas (page_of (byte_after addr k)) mode (accessible_from areas addr n mode Write small (sym free) k low)

pub writable_at : (areas : List Area) (addr n mode : ℕ) → addr < 2 ^ 32 → 1 ≤ n → None ≡ violation areas addr n mode Write → is_some (block_of areas (page_of addr)) ≡ true
writable_at areas addr n mode small some free =
    let at : byte_after addr 0 ≡ addr = omega arith in
    let may = accessible_from areas addr n mode Write small (sym free) 0 some in
    has_block areas (page_of addr) mode (ap (λ (z : ℕ). may_access areas (page_of z) mode Write) (sym at) ∙ may)
