-- Where steps are to stop, and what is watched, at the start of a session.
use Rattle.std.specs.Prelude.{[]}
use Rattle.vax_debug.specs.declared.breaks.Plan.{Plan}

-- no address, and nothing is watched
abbrev pub no_plan : Plan
no_plan = record { breaks = []; watches = [] }
