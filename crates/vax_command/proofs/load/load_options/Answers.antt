use Rattle.std.proofs.Common.{◌≡◌, ◌++◌, Ok, subst, is_some, rules}
use Rattle.std.specs.Option.{option_copied}
use Rattle.vax_cli.specs.Said.{options as said_options}
use Rattle.vax_command.specs.Reading.{Reads, given, sought}
use Rattle.vax_command.specs.declared.load.Role.TheVariants as roles
use Rattle.vax_command.specs.ReadingView.{bytes_of}
use Rattle.vax_command.proofs.LoadLaws.{ends_then, err_has, has_given, reads_both, rose_from}
use Rattle.vax_command.proofs.load.load_options.Goals as goal

pub returns-in_err-schedule-clause-ends : goal.returns-in_err-schedule-clause-ends
returns-in_err-schedule-clause-ends g c =
    let o = said_options c.args.options.now in
    err_has c.from_residual-in_err-schedule.result _ _ c.from_residual-in_err-schedule.ensures.1
    (ends_then _ _ _ _ (sought roles.Program o.system ++ sought roles.Other o.input) (sought roles.Schedule o.schedule ++ sought roles.Other (option_copied c.args.script)) (given (bytes_of c.in_ok-system.system) ++ given (bytes_of c.in_ok-system.input)) _
    c.in_ok-system.ensures.only.same (λ r. rose_from _ _ _ c.in_ok-system.ensures.only.quiet r) c.in_ok-system.ensures.ok c.in_err-schedule.ensures.ends)

pub returns-clause-ok : goal.returns-clause-ok
returns-clause-ok g c =
    let o = said_options c.args.options.now in
    let name = option_copied c.args.script in
    let system = bytes_of c.in_ok-system.system in
    let input = bytes_of c.in_ok-system.input in
    let schedule = bytes_of c.in_ok-schedule.schedule in
    let script = bytes_of c.in_ok-schedule.script in
    let s : is_some system ≡ is_some o.system = search rules in
    let i : is_some input ≡ is_some o.input = search rules in
    let k : is_some schedule ≡ is_some o.schedule = search rules in
    let t : is_some script ≡ is_some name = search rules in
    let others = subst (λ d. Reads d (sought roles.Schedule o.schedule ++ sought roles.Other name) (Ok (given schedule ++ given script))) c.in_ok-system.ensures.only.same c.in_ok-schedule.ensures.ok in
    let all = has_given _ o name system input schedule script s i k t (reads_both _ (sought roles.Program o.system ++ sought roles.Other o.input) (sought roles.Schedule o.schedule ++ sought roles.Other name) (given system ++ given input) (given schedule ++ given script) c.in_ok-system.ensures.ok others) in
    rw (c.or_empty.ensures.bytes, c.or_empty-2.ensures.bytes, c.or_empty-3.ensures.bytes) all
