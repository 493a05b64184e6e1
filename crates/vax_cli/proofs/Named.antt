-- The opcode of the instruction with a name.
use Rattle.std.proofs.Common.{◌≡◌, refl, ap, List, ℕ, Option, Some, None}
use Rattle.std.specs.Option.{option_map}
use Rattle.vax_isa.specs.Rows.{Plain, plain, row_of, with_name}
use Rattle.vax_isa.specs.declared.Row.{Row}
use Rattle.vax_isa.specs.Instructions.{Instruction}
use Rattle.vax_cli.specs.declared.vectors.Opcodes.TheVariants.{One}
use Rattle.vax_cli.specs.Vectors.{one_of}

found : (o : Option Instruction) (r : Row) → Some (plain r) ≡ option_map row_of o → Some (One r.code) ≡ option_map (λ i. One i.opcode) o
found None r e = absurd (cc e)
found (Some i) r e = ap (λ o. option_map (λ (p : Plain). One p.code) o) e

missing : (o : Option Instruction) → None ≡ option_map row_of o → None ≡ option_map (λ i. One i.opcode) o
missing None e = refl
missing (Some i) e = absurd (cc e)

pub one_named : (word : List ℕ) (r : Row) → Some (plain r) ≡ option_map row_of (with_name word) → Some (One r.code) ≡ one_of word
one_named word r e = found (with_name word) r e

pub none_named : (word : List ℕ) → None ≡ option_map row_of (with_name word) → None ≡ one_of word
none_named word e = missing (with_name word) e
