-- What the options of `jobs` say.
use Rattle.std.specs.Prelude.{ℕ, ◌*◌, Option}
use Rattle.vax_cli.specs.Table.{Text}
use Rattle.vax_cli.specs.Values.{number_of}
use Rattle.vax_dialect.specs.declared.Dialect.{Dialect}

-- what several programs are given: the dialect of their sources, the file of their order, how many pages of all of them may be resident, the most steps of each, the most attempts of
-- all, and the file of the console's input, of which each gets all
pub record JobsOptions : Type 0 where
  pub dialect : Dialect
  pub order : Option Text
  pub pool : ℕ
  pub steps : ℕ
  pub turns : ℕ
  pub input : Option Text

-- how many pages of so many programs may be resident: 64 for each to 32,768
abbrev pub pool_of : ℕ → Option Text → Option ℕ
pool_of count word = number_of 1024 (64 * count) 32768 word
