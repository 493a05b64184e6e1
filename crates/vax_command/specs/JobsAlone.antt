-- What several programs come to that run to their ends: what `run` of each of them alone comes to.
use Rattle.std.specs.Prelude.{ℕ, ◌≡◌, List, [], ◌++◌, length, map, slice_get}
use Rattle.std.specs.List.{AllZip, flat_map, range_with_len}
use Rattle.std.specs.Option.{option_map_or}
use Rattle.vax_outside.specs.Channels.{Channels, append, only}
use Rattle.vax_outside.specs.declared.traits.Chan.TheVariants as channel
use Rattle.vax_flat.specs.Parts.{machine_at}
use Rattle.vax_flat.specs.Step.{Flat}
use Rattle.vax_jobs.specs.Shared.{Sent}
use Rattle.vax_jobs_laws.specs.Ended.{End, IsEnd}
use Rattle.vax_jobs_laws.specs.Outputs.{AreOutputs}
use Rattle.vax_jobs_report.specs.Reports.{job_label}
use Rattle.vax_cli.specs.Words.{Text}
use Rattle.vax_command.specs.Went.{last_of, run_report}

-- what a program has sent at its end
abbrev pub output_at : End → Text
output_at e = (machine_at e.at.place).output

-- the line of the program with this number, and the report that `run` of it alone writes
abbrev pub report_at : End → Text
report_at e = run_report e.at (last_of e.why) []

abbrev pub text_at : List End → ℕ → Text
text_at ends job = job_label job ++ option_map_or report_at (slice_get ends job) []

-- those of all
abbrev pub texts_at : List End → Text
texts_at ends = flat_map (text_at ends) (range_with_len 0 (length ends))

-- each program came to the end of its own run within the limit of steps; Out has their outputs, taken in turns, and Report their reports
pub record AreAlone (limit : ℕ) (starts : List Flat) (grown : Channels) : Type 0 where
  pub ends : List End
  pub are : AllZip (IsEnd limit) starts ends
  pub sent : List Sent
  pub outputs : AreOutputs (map output_at ends) sent
  pub wrote : grown ≡ append (only channel.Out (map (λ (x : Sent). x.byte) sent)) (only channel.Report (texts_at ends))
