-- Page tables, as callers see them.
use Rattle.std.specs.Prelude.{ℕ, Option}
use Rattle.vax_table.specs.declared.Tables.{Tables}
use Rattle.vax_table.specs.declared.Walk.{Walk}
use Rattle.vax_table.specs.Layout.{walked_in, kept_in}

-- what a walk says of each page
abbrev pub walked : Tables → ℕ → Walk
walked tables = walked_in tables.memory

-- the frame that each absent page was in when it was kept
abbrev pub kept : Tables → ℕ → Option ℕ
kept tables = kept_in tables.memory
