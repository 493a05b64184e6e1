-- What is left to open of a source.
use Rattle.std.specs.Prelude.{ℕ, ◌+◌, ◌-◌, ◌*◌, Bool, List, [], length, Option, Some, None, if◌then◌else◌}
use Rattle.vax_dialect.specs.declared.Dialect.{Dialect}
use Rattle.vax_macro.specs.Lines.{SourceLine, Remainder, source_lines}
use Rattle.vax_macro.specs.Templates.{Formals, Template}

-- where a condition, a macro or a repeat begins: the number of its line, and how many lines were read with it
pub record Opening : Type 0 where
  pub number : ℕ
  pub place : ℕ

-- what a body is for: a macro of this name, copies, or one copy for each text of a formal argument
pub data Use : Type 0 where
  macro_body : List ℕ → Formals → Use
  copies_of : ℕ → Use
  copy_each : List ℕ → List (List ℕ) → Use

-- the body of a macro or a repeat that is being read, and how many begins in it have no end so far
pub record Pending : Type 0 where
  pub use_of : Use
  pub begin : Opening
  pub depth : ℕ
  pub nested : ℕ
  pub lines : List (List ℕ)

-- an open condition: how many expansions it stands in, whether the text around it is read, whether it holds, and whether the text here would be read
pub record OpenCondition : Type 0 where
  pub begin : Opening
  pub depth : ℕ
  pub outer : Bool
  pub holds : Bool
  pub here : Bool

-- a macro that was called: how many expansions its lines stand in, and how many arguments without a keyword its call has
pub record Call : Type 0 where
  pub depth : ℕ
  pub arguments : ℕ

-- What is left to open, in a dialect: the lines to come, those of the innermost expansion first; what is left of the line just read;
-- the macros; the body that is being read; the open conditions and the calls, the innermost first; how many labels were
-- made, and how many lines were read.
pub record Rest : Type 0 where
  pub dialect : Dialect
  pub lines : List SourceLine
  pub again : Option Remainder
  pub macros : List ℕ → Option Template
  pub collecting : Option Pending
  pub conditions : List OpenCondition
  pub calls : List Call
  pub made : ℕ
  pub read : ℕ

-- a source in a dialect of which nothing was opened
abbrev pub started : Dialect → List ℕ → Rest
started dialect source = record { dialect = dialect; lines = source_lines source; again = None; macros = λ name. None; collecting = None; conditions = []; calls = []; made = 0; read = 0 }

-- What it may take at most to come to an end, as a line that is read has at most 1,024 bytes.
abbrev pub weight : Option Remainder → ℕ
weight None = 0
weight (Some line) = length line.text * 2 + (if line.labelled then 1 else 2)

abbrev pub work : Rest → ℕ
work rest = (100000 - rest.read) * 2051 + weight rest.again
