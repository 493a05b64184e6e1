-- What a debugger does when it is asked to step, to change something, or to make pages absent.
use Rattle.std.specs.Prelude.{ℕ, ◌-◌, ◌*◌, ◌^◌, ◌==◌, ◌||◌, ◌∷◌, min, nat_le, nat_lt, Bool, Option, None, Some, List, [], ◌++◌, codes, if◌then◌else◌, length, take}
use Rattle.std.specs.List.{list_any}
use Rattle.std.specs.Int.{to_le_bytes, w32, w64}
use Rattle.vax_flat.specs.declared.Ending.{Ending}
use Rattle.vax_report.specs.Lines.{line}
use Rattle.vax_report.specs.declared.Last.{Last}
use Rattle.vax_report.specs.declared.Last.TheVariants as last
use Rattle.vax_machine.specs.Console.{memory_from, with_register}
use Rattle.vax_console.specs.Transcript.{Session, left, may_deposit, with_machine}
use Rattle.vax_debug.specs.Calls.{frame_goal, goal_at, gone_on, gone_to, over_count, stepped_on, stepped_over}
use Rattle.vax_debug.specs.Sessions.{session_with_bytes}
use Rattle.vax_debug.specs.Travel.{pc_of, without}
use Rattle.vax_debug.specs.Watches.{are_other, seen_in, unwatched}
use Rattle.vax_debug.specs.declared.breaks.Goal.{Goal}
use Rattle.vax_debug.specs.declared.breaks.Plan.{Plan}
use Rattle.vax_debug.specs.declared.watches.Seen.{Seen}
use Rattle.vax_debug.specs.declared.watches.Watch.{Watch}
use Rattle.vax_debug_words.specs.declared.request.Expression.{Expression}
use Rattle.vax_debug_words.specs.declared.request.Size.{Size}
use Rattle.vax_debug_words.specs.declared.request.Span.{Span}
use Rattle.vax_debug_words.specs.declared.request.Size.TheVariants as size
use Rattle.vax_debug_words.specs.declared.request.Value.{Value}
use Rattle.vax_debug_words.specs.declared.request.Value.TheVariants as value
use Rattle.vax_debug_names.specs.declared.Legend.{Legend}
use Rattle.vax_debug.specs.Places.{begins_too_large, located}
use Rattle.vax_debug.specs.Values.{evaluated}
use Rattle.vax_debug.specs.declared.places.Place.{Place}
use Rattle.vax_debug.specs.declared.places.Place.TheVariants as place
use Rattle.vax_debug_replies.specs.Stops.{break_line, change_line, here, reason, watch_line}
use Rattle.vax_debug_acts.specs.Acting.{Act, act}

-- replies of one line

abbrev pub done_line : List ℕ
done_line = line (codes "OK")

-- an expression has no value
abbrev pub no_value_line : List ℕ
no_value_line = line (codes "?NO SUCH NAME OR ADDRESS")

-- an address lies in no area
abbrev pub outside_line : List ℕ
outside_line = line (codes "?IN NO AREA")

-- a number has no room
abbrev pub too_large_line : List ℕ
too_large_line = line (codes "?VALUE TOO LARGE")

-- an expression has no value, or its number is too large for one
abbrev pub no_number_line : Legend → Expression → List ℕ
no_number_line legend e = if begins_too_large legend e.base then too_large_line else no_value_line

-- bytes can't be put there
abbrev pub put_line : Bool → List ℕ
put_line put = if put then done_line else line (codes "?NO SUCH BYTES")

-- there are as many addresses as there may be
abbrev pub full_line : List ℕ
full_line = line (codes "?NO MORE THAN 16 BREAKS")

-- there are as many watches as there may be
abbrev pub full_watches_line : List ℕ
full_watches_line = line (codes "?NO MORE THAN 16 WATCHES")

-- memory has no saved PC of a frame
abbrev pub no_frame_line : List ℕ
no_frame_line = line (codes "?NO FRAME")

-- nothing but a reply
abbrev pub only_told : Session → List ℕ → Act
only_told s reply = act 0 s reply

-- what an expression's value is needed for, or this reply where it has none
abbrev pub by_number : (none : List ℕ) → Option ℕ → Session → (ℕ → Act) → Act
by_number none None s asked = only_told s none
by_number none (Some n) s asked = asked n

abbrev pub by_value : Option ℕ → Session → (ℕ → Act) → Act
by_value found s asked = by_number no_value_line found s asked

-- what an address is needed for that an area has
abbrev pub by_place : Place → Session → (ℕ → Act) → Act
by_place place.Unknown s asked = only_told s no_value_line
by_place place.Outside s asked = only_told s outside_line
by_place (place.Inside address) s asked = asked address

-- steps

-- why the machine stands still, but that the steps were made: it has ended, the limit of steps is reached, or PC is one of the addresses
abbrev pub why_stopped : Option Ending → (at_break at_limit : Bool) → Option Last
why_stopped (Some e) at_break at_limit = Some (last.Ending e)
why_stopped None at_break at_limit =
    if at_limit then Some last.Steps else if at_break then Some last.Break else None

abbrev pub why : (limit : ℕ) → List ℕ → Session → Option Last
why limit breaks s = why_stopped s.machine.ending (list_any (λ a. a == pc_of s.machine.core) breaks) (nat_le limit s.steps)

-- the line of watched bytes, where they are others now
abbrev pub change_if : Legend → (before after : Seen) → List ℕ
change_if legend before after =
    if are_other before.cells after.cells then change_line legend before.address before.cells after.cells else []

-- those of all that is watched, in its order
unfoldable pub changes : Legend → (before after : List Seen) → List ℕ
changes legend [] after = []
changes legend (b ∷ before) [] = []
changes legend (b ∷ before) (a ∷ after) = change_if legend b a ++ changes legend before after

-- why it stopped, what was changed, and where it is
unfoldable pub stop_text : (limit : ℕ) → Legend → List ℕ → (changed : List ℕ) → Session → List ℕ
stop_text limit legend breaks changed s =
    reason (why limit breaks s) ++ changed
    ++ here legend (pc_of s.machine.core) (memory_from s.machine.memory (pc_of s.machine.core) 64)

-- with the watched bytes that were changed since they were seen
abbrev pub stop_reply : (limit : ℕ) → Legend → Plan → List Seen → Session → List ℕ
stop_reply limit legend plan seen s =
    stop_text limit legend plan.breaks (changes legend seen (seen_in plan.watches s.machine)) s

-- steps that lead there
abbrev pub stops : (limit : ℕ) → Legend → Plan → List Seen → (most : ℕ) → Session → Act
stops limit legend plan seen most t = act most t (stop_reply limit legend plan seen t)

-- Each of these stops where a watched byte isn't as it was before its first step.

abbrev pub step_seen : (limit : ℕ) → Legend → Plan → (count : ℕ) → List Seen → Session → Act
step_seen limit legend plan count seen s =
    stops limit legend plan seen (min count (left limit s)) (stepped_on limit count plan.breaks seen s)

abbrev pub step_act : (limit : ℕ) → Legend → Plan → (count : ℕ) → Session → Act
step_act limit legend plan count s = step_seen limit legend plan count (seen_in plan.watches s.machine) s

abbrev pub go_seen : (limit : ℕ) → Legend → Plan → List Seen → Session → Act
go_seen limit legend plan seen s = stops limit legend plan seen (left limit s) (gone_on limit plan.breaks seen s)

abbrev pub go_act : (limit : ℕ) → Legend → Plan → Session → Act
go_act limit legend plan s = go_seen limit legend plan (seen_in plan.watches s.machine) s

abbrev pub over_seen : (limit : ℕ) → Legend → Plan → List Seen → Session → Act
over_seen limit legend plan seen s =
    stops limit legend plan seen (over_count limit s) (stepped_over limit plan.breaks seen s)

abbrev pub over_act : (limit : ℕ) → Legend → Plan → Session → Act
over_act limit legend plan s = over_seen limit legend plan (seen_in plan.watches s.machine) s

abbrev pub goal_seen : (limit : ℕ) → Legend → Plan → Goal → List Seen → Session → Act
goal_seen limit legend plan goal seen s =
    stops limit legend plan seen (left limit s) (gone_to limit goal plan.breaks seen s)

abbrev pub to_goal : (limit : ℕ) → Legend → Plan → Goal → Session → Act
to_goal limit legend plan goal s = goal_seen limit legend plan goal (seen_in plan.watches s.machine) s

abbrev pub until_act : (limit : ℕ) → Legend → Plan → Expression → Session → Act
until_act limit legend plan e s =
    by_place (located legend e s.machine) s (λ address. to_goal limit legend plan (goal_at address 0) s)

abbrev pub out_to : (limit : ℕ) → Legend → Plan → Session → Option Goal → Act
out_to limit legend plan s None = only_told s no_frame_line
out_to limit legend plan s (Some goal) = to_goal limit legend plan goal s

-- up to behind the return of the procedure
abbrev pub out_act : (limit : ℕ) → Legend → Plan → Session → Act
out_act limit legend plan s = out_to limit legend plan s (frame_goal s.machine)

-- changes

abbrev pub register_put : (register value : ℕ) → Session → Act
register_put register value s = act 0 (with_machine (with_register register value s.machine) s) done_line

abbrev pub register_act : Legend → (register : ℕ) → Expression → Session → Act
register_act legend register e s =
    by_number (no_number_line legend e) (evaluated legend e s.machine) s (λ value. register_put register value s)

-- bytes are put into memory, where they may be
abbrev pub put_act : (address : ℕ) → List ℕ → Session → Act
put_act address bytes s =
    act 0 (session_with_bytes address bytes s) (put_line (may_deposit s.machine.memory address (length bytes)))

abbrev pub width : Size → ℕ
width size.Byte = 1
width size.Word = 2
width size.Long = 4

-- the lowest byte first
abbrev pub number_bytes : Size → ℕ → List ℕ
number_bytes size n = take (width size) (to_le_bytes w32 n)

-- A size has room for a number without a sign, and for a negative one: 32 bits that its own bits are with their sign before them.
abbrev pub fits : Size → ℕ → Bool
fits size n = nat_lt n (2 ^ (8 * width size)) || nat_le (2 ^ 32 - 2 ^ (8 * width size - 1)) n

-- and where it has none nothing is put
abbrev pub number_act : (address : ℕ) → Size → ℕ → Session → Act
number_act address size n s =
    if fits size n then put_act address (number_bytes size n) s else only_told s too_large_line

abbrev pub put_value_act : Legend → (address : ℕ) → Value → Session → Act
put_value_act legend address (value.Number size e) s =
    by_number (no_number_line legend e) (evaluated legend e s.machine) s (λ n. number_act address size n s)
put_value_act legend address (value.Quadword n) s = put_act address (to_le_bytes w64 n) s
put_value_act legend address value.TooLarge s = only_told s too_large_line
put_value_act legend address (value.Text bytes) s = put_act address bytes s

abbrev pub memory_act : Legend → Expression → Value → Session → Act
memory_act legend to given s =
    by_value (evaluated legend to s.machine) s (λ address. put_value_act legend address given s)

-- pages: whatever is made absent, the session stays

abbrev pub evict_act : Legend → Expression → Session → Act
evict_act legend e s = by_place (located legend e s.machine) s (λ address. only_told s done_line)

-- addresses at which steps stop, and what is watched

-- one more, unless it is there or there are 16
abbrev pub with_break : List ℕ → ℕ → List ℕ
with_break breaks address =
    if list_any (λ a. a == address) breaks then breaks
    else if nat_le 16 (length breaks) then breaks else breaks ++ address ∷ []

abbrev pub added_line : Legend → List ℕ → ℕ → List ℕ
added_line legend breaks address =
    if list_any (λ a. a == address) breaks then break_line legend address
    else if nat_le 16 (length breaks) then full_line else break_line legend address

abbrev pub break_act : Legend → Plan → Expression → Session → Act
break_act legend plan e s =
    by_place (located legend e s.machine) s (λ address. only_told s (added_line legend plan.breaks address))

abbrev pub at_place : Place → Plan → (ℕ → Plan) → Plan
at_place place.Unknown plan change = plan
at_place place.Outside plan change = plan
at_place (place.Inside address) plan change = change address

abbrev pub by_address : Option ℕ → Plan → (ℕ → Plan) → Plan
by_address None plan change = plan
by_address (Some address) plan change = change address

abbrev pub broken_at : Plan → ℕ → Plan
broken_at plan address = record plan { breaks = with_break plan.breaks address }

abbrev pub breaks_with : Legend → Plan → Expression → Session → Plan
breaks_with legend plan e s = at_place (located legend e s.machine) plan (broken_at plan)

-- one more watch, in place of those that begin there, unless there are 16 others
abbrev pub with_watch : List Watch → Watch → List Watch
with_watch watches w =
    if nat_le 16 (length (unwatched w.address watches)) then watches else unwatched w.address watches ++ w ∷ []

abbrev pub watch : (count address : ℕ) → Watch
watch count address = record { address = address; count = count }

abbrev pub watch_reply : Legend → List Watch → Watch → List ℕ
watch_reply legend watches w =
    if nat_le 16 (length (unwatched w.address watches)) then full_watches_line else watch_line legend w.address w.count

abbrev pub watch_act : Legend → Plan → Span → Session → Act
watch_act legend plan at s =
    by_place (located legend at.from s.machine) s (λ address. only_told s (watch_reply legend plan.watches (watch at.count address)))

abbrev pub watched_at : Plan → (count address : ℕ) → Plan
watched_at plan count address = record plan { watches = with_watch plan.watches (watch count address) }

abbrev pub watches_with : Legend → Plan → Span → Session → Plan
watches_with legend plan at s = at_place (located legend at.from s.machine) plan (watched_at plan at.count)

abbrev pub clear_act : Legend → Expression → Session → Act
clear_act legend e s = by_value (evaluated legend e s.machine) s (λ address. only_told s done_line)

-- neither a stop nor a watch there
abbrev pub cleared_at : Plan → ℕ → Plan
cleared_at plan address =
    record { breaks = without address plan.breaks; watches = unwatched address plan.watches }

abbrev pub breaks_without : Legend → Plan → Expression → Session → Plan
breaks_without legend plan e s = by_address (evaluated legend e s.machine) plan (cleared_at plan)
