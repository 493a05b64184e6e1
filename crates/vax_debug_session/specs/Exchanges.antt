-- The lines of a session, each with the pages with which it is answered.
use Rattle.std.specs.Prelude.{ℕ, List, map}
use Rattle.vax_debug_acts.specs.Pages.{Pages}

-- A line, and pages of the memory that are resident, kept and modified. PAGES and TURN alone have to do with these.
pub record Exchange : Type 0 where
  pub line : List ℕ
  pub pages : Pages

abbrev pub exchange : List ℕ → Pages → Exchange
exchange line pages = record { line = line; pages = pages }

-- the lines alone
abbrev pub lines_of : List Exchange → List (List ℕ)
lines_of xs = map (λ x. x.line) xs
