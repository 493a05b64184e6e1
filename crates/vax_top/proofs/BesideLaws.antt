-- What commands that take no lines come to beside lines.
use Rattle.std.proofs.Common.{◌≡◌, Bool, true, false, List}
use Rattle.vax_outside.specs.Channels.{Channels}
use Rattle.vax_cli.specs.Words.{Text, Said, bare, run, build, list, listing, check, console, debug, trace, save, resume, jobs, work, vectors, about}
use Rattle.vax_command.specs.Around.{Around, Change, beside, with_preludes}
use Rattle.vax_command.specs.declared.status.Status.{Status}
use Rattle.vax_prelude.specs.Preludes.{Prelude}
use Rattle.vax_top.specs.Top.{Carries, CommandComes, is_debug}

-- other commands than `debug` go as they do beside no lines
module _ (lines : Change (List Text)) (seen : Around) where
  beside_comes : (said : Said) (status : Status) (grown : Channels) → is_debug said ≡ false → CommandComes seen said status grown → CommandComes (beside lines seen) said status grown
  beside_comes (bare names options) status grown other c = c
  beside_comes (run names options) status grown other c = c
  beside_comes (build names target format) status grown other c = c
  beside_comes (list names target) status grown other c = c
  beside_comes (listing names target) status grown other c = c
  beside_comes (check names target system) status grown other c = c
  beside_comes (console names linked script options) status grown other c = c
  beside_comes (debug names linked prompts options) status grown other c = absurd (cc other)
  beside_comes (trace names linked tracing options) status grown other c = c
  beside_comes (save names linked options) status grown other c = c
  beside_comes (resume name options) status grown other c = c
  beside_comes (jobs names options) status grown other c = c
  beside_comes (work seed size options) status grown other c = c
  beside_comes (vectors request) status grown other c = c
  beside_comes about status grown other c = c

  pub beside_carries : (said : Said) (result : Status) → is_debug said ≡ false → Carries seen said result → Carries (beside lines seen) said result
  beside_carries said result other c = record { meant = c.meant; grown = c.grown; comes = beside_comes said c.meant c.grown other c.comes; ends = c.ends }

-- commands that read no sources, and the listing of sources, whose preludes mean nothing to them
abbrev pub takes_none : Said → Bool
takes_none (listing names target) = true
takes_none (resume name options) = true
takes_none (work seed size options) = true
takes_none _ = false

module _ (preludes : List Prelude) (seen : Around) where
  none_come : (said : Said) (status : Status) (grown : Channels) → takes_none said ≡ true → CommandComes seen said status grown → CommandComes (with_preludes preludes seen) said status grown
  none_come (bare names options) status grown never c = absurd (cc never)
  none_come (run names options) status grown never c = absurd (cc never)
  none_come (build names target format) status grown never c = absurd (cc never)
  none_come (list names target) status grown never c = absurd (cc never)
  none_come (listing names target) status grown never c = c
  none_come (check names target system) status grown never c = absurd (cc never)
  none_come (console names linked script options) status grown never c = absurd (cc never)
  none_come (debug names linked prompts options) status grown never c = absurd (cc never)
  none_come (trace names linked tracing options) status grown never c = absurd (cc never)
  none_come (save names linked options) status grown never c = absurd (cc never)
  none_come (resume name options) status grown never c = c
  none_come (jobs names options) status grown never c = absurd (cc never)
  none_come (work seed size options) status grown never c = c
  none_come (vectors request) status grown never c = absurd (cc never)
  none_come about status grown never c = absurd (cc never)

  pub none_carry : (said : Said) (result : Status) → takes_none said ≡ true → Carries seen said result → Carries (with_preludes preludes seen) said result
  none_carry said result never c = record { meant = c.meant; grown = c.grown; comes = none_come said c.meant c.grown never c.comes; ends = c.ends }
