-- What the requests of a debugger come to, on the flat machine.
use Rattle.std.specs.Prelude.{ℕ, List, [], Option, None, Some}
use Rattle.vax_flat.specs.Step.{Flat}
use Rattle.vax_console.specs.Transcript.{Session}
use Rattle.vax_debug_words.specs.declared.request.Expression.{Expression}
use Rattle.vax_debug_words.specs.declared.request.Span.{Span}
use Rattle.vax_debug_words.specs.declared.request.Request.{Request}
use Rattle.vax_debug_words.specs.declared.request.Request.TheVariants as request
use Rattle.vax_debug_acts.specs.Pages.{Pages}
use Rattle.vax_debug_names.specs.declared.Legend.{Legend}
use Rattle.vax_debug_replies.specs.Help.{breaks_shown, help}
use Rattle.vax_debug_views.specs.Views.{disassembled, disassembled_here, field_shown, frames_shown, memory_shown, queue_shown, register_shown, stack_shown, status_shown}
use Rattle.vax_debug_views.specs.Pages.{pages_shown}
use Rattle.vax_debug_views.specs.Watches.{watches_shown}
use Rattle.vax_debug_acts.specs.Acting.{Act}
use Rattle.vax_debug_acts.specs.Plan.{Plan}
use Rattle.vax_debug_acts.specs.Plans.{no_plan}
use Rattle.vax_debug_acts.specs.Acts.{break_act, breaks_with, breaks_without, clear_act, done_line, evict_act, go_act, memory_act, only_told, out_act, over_act, register_act, step_act, until_act, watch_act, watches_with}
use Rattle.vax_debug_acts.specs.Attempts.{field_act, status_act, turn_act}

-- where a session stands: the flat machine with the steps that were made, where steps stop and what is watched
pub record Held : Type 0 where
  pub session : Session
  pub breaks : Plan

abbrev pub held : Session → Plan → Held
held session breaks = record { session = session; breaks = breaks }

-- instructions of a span, or from PC on
abbrev pub disassembled_at : Legend → Option Span → Flat → List ℕ
disassembled_at legend None m = disassembled_here legend m
disassembled_at legend (Some at) m = disassembled legend at m

-- what is shown where a request asks only for that: of the flat machine, or of these pages
abbrev pub shown : Legend → Plan → Pages → Request → Flat → List ℕ
shown legend breaks pages (request.ExamineRegister n) m = register_shown n m
shown legend breaks pages request.ExamineStatus m = status_shown m
shown legend breaks pages (request.ExamineField f) m = field_shown f m
shown legend breaks pages (request.ExamineMemory f at) m = memory_shown legend f at m
shown legend breaks pages (request.Disassemble at) m = disassembled_at legend at m
shown legend breaks pages request.Show m = breaks_shown legend breaks.breaks
shown legend breaks pages request.ShowWatches m = watches_shown legend breaks.watches
shown legend breaks pages request.Where m = frames_shown legend m
shown legend breaks pages (request.Stack n) m = stack_shown legend n m
shown legend breaks pages (request.Queue e) m = queue_shown legend e m
shown legend breaks pages (request.Help c) m = help c
shown legend breaks pages request.Pages m = pages_shown legend pages
shown legend breaks pages r m = []

-- an address less, or all, with what is watched
abbrev pub cleared_act : Legend → Option Expression → Session → Act
cleared_act legend None s = only_told s done_line
cleared_act legend (Some e) s = clear_act legend e s

abbrev pub cleared : Legend → Plan → Option Expression → Session → Plan
cleared legend breaks None s = no_plan
cleared legend breaks (Some e) s = breaks_without legend breaks e s

-- what a request comes to
unfoldable pub answered : (limit : ℕ) → Legend → Plan → Pages → Request → Session → Act
answered limit legend breaks pages (request.DepositRegister n e) s = register_act legend n e s
answered limit legend breaks pages (request.DepositMemory e v) s = memory_act legend e v s
answered limit legend breaks pages (request.DepositStatus e) s = status_act legend e s
answered limit legend breaks pages (request.DepositField f e) s = field_act legend f e s
answered limit legend breaks pages (request.Step n) s = step_act limit legend breaks n s
answered limit legend breaks pages request.Over s = over_act limit legend breaks s
answered limit legend breaks pages request.Out s = out_act limit legend breaks s
answered limit legend breaks pages request.Go s = go_act limit legend breaks s
answered limit legend breaks pages (request.Until e) s = until_act limit legend breaks e s
answered limit legend breaks pages (request.Break e) s = break_act legend breaks e s
answered limit legend breaks pages (request.Watch at) s = watch_act legend breaks at s
answered limit legend breaks pages (request.Clear e) s = cleared_act legend e s
answered limit legend breaks pages request.Turn s = turn_act limit legend breaks pages s
answered limit legend breaks pages (request.Evict e) s = evict_act legend e s
answered limit legend breaks pages request.EvictAll s = only_told s done_line
answered limit legend breaks pages r s = only_told s (shown legend breaks pages r s.machine)

-- and where steps stop and what is watched then
unfoldable pub breaks_after : Legend → Plan → Request → Session → Plan
breaks_after legend breaks (request.Break e) s = breaks_with legend breaks e s
breaks_after legend breaks (request.Watch at) s = watches_with legend breaks at s
breaks_after legend breaks (request.Clear e) s = cleared legend breaks e s
breaks_after legend breaks r s = breaks
