-- What the words of `vectors` say.
use Rattle.std.specs.Prelude.{ℕ, codes, Option, None, Some, if◌then◌else◌}
use Rattle.std.specs.Option.{option_map, option_and_then}
use Rattle.std.specs.Str.{bytes_eq}
use Rattle.vax_isa.specs.Rows.{with_name}
use Rattle.vax_cli.specs.Table.{Text}
use Rattle.vax_cli.specs.Values.{decimal, from_least, seed_of, switch_of}
use Rattle.vax_cli.specs.declared.vectors.Opcodes.{Opcodes}
use Rattle.vax_cli.specs.declared.vectors.Opcodes.TheVariants.{All, One}
use Rattle.vax_cli.specs.declared.vectors.VectorRequest.{VectorRequest}

-- the instruction with a name
abbrev pub one_of : Text → Option Opcodes
one_of word = option_map (λ i. One i.opcode) (with_name word)

-- all instructions, or the one with a name
abbrev pub opcodes_of : Text → Option Opcodes
opcodes_of word = if bytes_eq word (codes "all") then Some All else one_of word

-- how many vectors for each: 1 to 1,000,000
abbrev pub count_of : Text → Option ℕ
count_of word = from_least 1 (decimal 1000000 word)

-- the access mode at the start: 0 kernel, 1 executive, 2 supervisor, 3 user
abbrev pub mode_of : Option Text → Option ℕ
mode_of None = Some 0
mode_of (Some word) =
    if bytes_eq word (codes "kernel") then Some 0
    else if bytes_eq word (codes "executive") then Some 1
    else if bytes_eq word (codes "supervisor") then Some 2
    else if bytes_eq word (codes "user") then Some 3
    else None

-- the opcodes and the count have to be said
abbrev pub request_of : (opcodes count seed absent mode : Option Text) → Option VectorRequest
request_of opcodes count seed absent mode =
    option_and_then (λ opcodes.
    option_and_then (λ count.
    option_and_then (λ seed.
    option_and_then (λ absent.
    option_map (λ mode. record { opcodes = opcodes; count = count; seed = seed; absent = absent; mode = mode })
    (mode_of mode)) (switch_of absent)) (seed_of seed)) (option_and_then count_of count)) (option_and_then opcodes_of opcodes)
