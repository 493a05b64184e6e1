-- Several programs that run together: what their files come to.
use Rattle.std.specs.Prelude.{ℕ, suc, List, [], ◌∷◌, None, Result, Ok, Err}
use Rattle.vax_dialect.specs.declared.Dialect.{Dialect}
use Rattle.vax_image.specs.declared.Base.TheVariants as base
use Rattle.vax_image.specs.declared.Image.{Image}
use Rattle.vax_prelude.specs.Preludes.{Prelude}
use Rattle.vax_program.specs.Program.{Parts, Refusal, parts_of, linked_of}
use Rattle.vax_cli.specs.Words.{Text}
use Rattle.vax_command.specs.Jobs.{Users}
use Rattle.vax_top.specs.Loaded.{and_then, joined_files, system_parts, told_in}

-- what the first of several comes to, and then those behind it
abbrev pub and_rest : {X : Type 0} → Result X Refusal → Result (List X) Refusal → Result (List X) Refusal
and_rest (Err refusal) rest = Err refusal
and_rest (Ok x) (Ok xs) = Ok (x ∷ xs)
and_rest (Ok x) (Err refusal) = Err refusal

-- the parts of programs in user mode, of one file each, which are numbered from the first number on
abbrev pub all_parts : Dialect → ℕ → List Text → Result (List Parts) Refusal
all_parts dialect file [] = Ok []
all_parts dialect file (text ∷ texts) = and_rest (parts_of dialect base.User file (text ∷ [])) (all_parts dialect (suc file) texts)

-- their images
abbrev pub all_linked : List Parts → Result (List Image) Refusal
all_linked [] = Ok []
all_linked (parts ∷ others) = and_rest (linked_of parts) (all_linked others)

abbrev pub linked_under : List Parts → Parts → Result Users Refusal
linked_under users below =
    and_then (all_linked users) (λ images. and_then (linked_of below) (λ system. Ok (record { system = system; users = images })))

-- Programs in user mode and the executive: all are assembled before any is linked, and the executive behind the programs.
abbrev pub together_loaded : Dialect → List Text → Result Users Refusal
together_loaded dialect texts =
    and_then (all_parts dialect 1 texts) (λ users. and_then (system_parts dialect None) (λ below. linked_under users below))

-- the same of files whose sources have these preludes
abbrev pub together_for : List Prelude → Dialect → List Text → Result Users Refusal
together_for preludes dialect texts = told_in preludes (together_loaded dialect (joined_files preludes texts))
