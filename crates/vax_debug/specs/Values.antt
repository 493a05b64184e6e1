-- The values of expressions, on the flat machine.
use Rattle.std.specs.Prelude.{ℕ, zero, suc, ◌+◌, ◌-◌, ◌%◌, ◌^◌, Option, None, Some, option_map, slice_index}
use Rattle.vax_flat.specs.Step.{Flat}
use Rattle.vax_debug.specs.Calls.{longword_at}
use Rattle.vax_debug_words.specs.declared.request.Base.{Base}
use Rattle.vax_debug_words.specs.declared.request.Base.TheVariants.{Register, Named}
use Rattle.vax_debug_words.specs.declared.request.Expression.{Expression}
use Rattle.vax_debug_names.specs.Names.{number_of}
use Rattle.vax_debug_names.specs.declared.Legend.{Legend}

-- the longword at an address, if there is one
abbrev pub next_of : Flat → Option ℕ → Option ℕ
next_of m None = None
next_of m (Some address) = longword_at m address

-- behind so many `@`s
unfoldable pub through : ℕ → Flat → Option ℕ → Option ℕ
through zero m address = address
through (suc count) m address = through count m (next_of m address)

-- what a register holds is behind its first `@`
abbrev pub based : Legend → Flat → ℕ → Base → Option ℕ
based legend m count (Register n) = through (count - 1) m (Some (slice_index m.core.regs n))
based legend m count (Named word) = through count m (number_of legend.symbols.now word)

abbrev pub plus : ℕ → ℕ → ℕ
plus offset n = (n + offset) % 2 ^ 32

-- an expression: none where a name is no symbol and no number, and where memory has no longword at an `@`
unfoldable pub evaluated : Legend → Expression → Flat → Option ℕ
evaluated legend e m = option_map (plus e.offset) (based legend m e.through e.base)
