-- How statements follow one another in a source (VAX MACRO and Instruction Set Reference Manual, "VAX MACRO source statement format").
use Rattle.std.specs.Prelude.{◌≡◌, ◌<◌, IfSome, None, Some}
use Rattle.vax_macro.specs.Directives.{Statement}
use Rattle.vax_macro.specs.Lines.{Remainder}
use Rattle.vax_macro.specs.Rest.{Rest}

-- A statement is of what is left of the line just read, or of a line behind it. What it leaves of its line has its number.
pub record IsFollowing (before : Rest) (st : Statement) (after : Rest) : Type 0 where
  pub later : before.again ≡ None → before.read < after.read
  pub same : (line : Remainder) → before.again ≡ Some line → (after.read ≡ before.read) × (st.number ≡ line.number)
  pub number : IfSome after.again (λ line. line.number ≡ st.number)
