-- Where a traced run is to stop.
use Rattle.std.specs.Prelude.{ℕ, zero, suc, ◌≡◌, ◌+◌, ◌<◌, ◌≤◌, ◌==◌, ◌&&◌, Bool, true, false, nat_lt, if◌then◌else◌, is_none, List}
use Rattle.std.specs.List.{list_any}
use Rattle.vax_flat.specs.Step.{Flat, run}
use Rattle.vax_watch.specs.Listing.{pc_of}

-- it hasn't ended, and PC is one of these addresses
abbrev pub is_break : List ℕ → Flat → Bool
is_break breaks m = is_none m.ending && list_any (λ address. address == pc_of m) breaks

-- the first step of so many, from this one on and other than the first of all, before which it stops; else the one behind them
unfoldable pub stop_from : ℕ → ℕ → List ℕ → Flat → ℕ
stop_from zero step breaks start = step
stop_from (suc more) step breaks start =
    if nat_lt 0 step && is_break breaks (run step start) then step else stop_from more (step + 1) breaks start

-- so many steps are made at most
abbrev pub stop_at : ℕ → List ℕ → Flat → ℕ
stop_at limit breaks start = stop_from limit 0 breaks start

-- behind so many steps, and at least one, PC is one of the addresses, and it was none behind fewer
pub record IsFirstBreak (breaks : List ℕ) (start : Flat) (steps : ℕ) : Type 0 where
  pub some : 1 ≤ steps
  pub here : is_break breaks (run steps start) ≡ true
  pub before : (k : ℕ) → 1 ≤ k → k < steps → is_break breaks (run k start) ≡ false
