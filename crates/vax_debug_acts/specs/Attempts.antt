-- What a debugger does when it is asked for one attempt, and for another status.
use Rattle.std.specs.Prelude.{ℕ, nat_le, Bool, Option, None, Some, List, [], ◌++◌, codes, if◌then◌else◌}
use Rattle.vax_report.specs.Lines.{line}
use Rattle.vax_console.specs.Transcript.{Session, stepped}
use Rattle.vax_debug.specs.Pages.{Pages, is_parted, missed_by, start_of_page}
use Rattle.vax_debug.specs.declared.breaks.Plan.{Plan}
use Rattle.vax_debug.specs.Status.{is_status, may_have, psl, session_with_field, session_with_status}
use Rattle.vax_debug_words.specs.declared.request.Expression.{Expression}
use Rattle.vax_debug_words.specs.declared.request.Field.{Field}
use Rattle.vax_debug_names.specs.declared.Legend.{Legend}
use Rattle.vax_debug.specs.Values.{evaluated}
use Rattle.vax_debug_replies.specs.Pages.{missed_line}
use Rattle.vax_debug_acts.specs.Acting.{Act, act}
use Rattle.vax_debug_acts.specs.Acts.{by_number, done_line, no_number_line, only_told, stop_reply}

-- a string instruction was made in parts
abbrev pub parts_line : List ℕ
parts_line = line (codes "IN PARTS")

abbrev pub parts_if : Bool → List ℕ
parts_if parted = if parted then parts_line else []

-- the page that was missed, with the session where it was; or where it stopped behind the step, and before that whether the step was made in parts. Of watched bytes it tells
-- nothing.
abbrev pub attempt_act : (limit : ℕ) → Legend → Plan → Option ℕ → Session → Act
attempt_act limit legend plan None s =
    act 1 (stepped s) (parts_if (is_parted s) ++ stop_reply limit legend plan [] (stepped s))
attempt_act limit legend plan (Some page) s = act 1 s (missed_line legend (start_of_page page))

-- one attempt with these pages, as far as the limit of steps leaves one
abbrev pub turn_act : (limit : ℕ) → Legend → Plan → Pages → Session → Act
turn_act limit legend plan pages s =
    if nat_le limit s.steps then only_told s (stop_reply limit legend plan [] s)
    else attempt_act limit legend plan (missed_by pages s) s

-- a status was put, if it is one
abbrev pub status_line : Bool → List ℕ
status_line put = if put then done_line else line (codes "?NO SUCH STATUS")

abbrev pub status_put : (value : ℕ) → Session → Act
status_put value s = act 0 (session_with_status value s) (status_line (is_status (psl value)))

abbrev pub status_act : Legend → Expression → Session → Act
status_act legend e s = by_number (no_number_line legend e) (evaluated legend e s.machine) s (λ value. status_put value s)

-- a value was put into a field of the status, if the field may have it
abbrev pub field_put : Field → (value : ℕ) → Session → Act
field_put f value s = act 0 (session_with_field f value s) (status_line (may_have f value s.machine.core.psl))

abbrev pub field_act : Legend → Field → Expression → Session → Act
field_act legend f e s = by_number (no_number_line legend e) (evaluated legend e s.machine) s (λ value. field_put f value s)
