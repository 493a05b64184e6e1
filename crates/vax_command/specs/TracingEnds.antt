-- What the end of a traced run is told as.
use Rattle.vax_report.specs.declared.Last.{Last}
use Rattle.vax_report.specs.declared.Last.TheVariants as last
use Rattle.vax_watch.specs.declared.steps.TraceEnd.{TraceEnd}
use Rattle.vax_watch.specs.declared.steps.TraceEnd.TheVariants.{Ended, Steps, Break, Turns, PageFault, WriteFault}
use Rattle.vax_command.specs.declared.status.Status.{Status}
use Rattle.vax_command.specs.declared.status.Status.TheVariants as answer

-- in the report
abbrev pub last_to : TraceEnd → Last
last_to (Ended ending) = last.Ending ending
last_to Steps = last.Steps
last_to Break = last.Break
last_to Turns = last.Turns
last_to PageFault = last.PageFault
last_to WriteFault = last.PageFault

-- by the answer
abbrev pub status_to : TraceEnd → Status
status_to (Ended ending) = answer.Done
status_to Steps = answer.Done
status_to Break = answer.Done
status_to Turns = answer.Turns
status_to PageFault = answer.PageFault
status_to WriteFault = answer.WriteFault
