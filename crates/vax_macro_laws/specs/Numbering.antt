-- Of which lines of a source its statements are (VAX MACRO and Instruction Set Reference Manual, "VAX MACRO source statement format").
use Rattle.std.specs.Prelude.{◌≤◌, ℕ, All, IfSome}
use Rattle.vax_macro.specs.Expansion.{Stepped, Steps, Says, Faults, Ends, Opened, Given, Faulty, AtEnd, Later}
use Rattle.vax_macro.specs.Lines.{SourceLine}
use Rattle.vax_macro.specs.Rest.{Rest}

-- the number of one of so many lines
abbrev pub IsLine : (most : ℕ) → ℕ → Type 0
IsLine most number = (1 ≤ number) × (number ≤ most)

-- What is left to open is of so many lines: the lines to come, what is left of a line, and the begin of the body that is being read.
pub record IsOfLines (most : ℕ) (rest : Rest) : Type 0 where
  pub lines : All (λ (l : SourceLine). IsLine most l.number) rest.lines
  pub again : IfSome rest.again (λ l. IsLine most l.number)
  pub collecting : IfSome rest.collecting (λ p. IsLine most p.begin.number)

-- So is what a step leaves, and the statement or the fault that it gives is of one of these lines.
abbrev pub GivesOfLines : (most : ℕ) → Stepped → Type 0
GivesOfLines most (Steps rest) = IsOfLines most rest
GivesOfLines most (Says st rest) = IsLine most st.number × IsOfLines most rest
GivesOfLines most (Faults number place kind) = IsLine most number
GivesOfLines most (Ends begin) = Unit {0}

abbrev pub OpensOfLines : (most : ℕ) → Opened → Type 0
OpensOfLines most (Given st left rest) = IsLine most st.number × IsOfLines most rest
OpensOfLines most (Faulty number place kind) = IsLine most number
OpensOfLines most (AtEnd begin) = Unit {0}
OpensOfLines most Later = Unit {0}
