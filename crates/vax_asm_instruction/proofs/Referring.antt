-- The kinds of operands that stand without the name of an instruction.
use Rattle.std.proofs.Common.{◌≡◌, arith}
use Rattle.std.proofs.lemmas.Bool.Decides.{nat_tests}
use Rattle.vax_isa.specs.Rows.{IsKind, IsWidth}
use Rattle.vax_isa.specs.declared.OperandKind.{OperandKind}
use Rattle.vax_word.specs.Arithmetic.{bytes_of}
use Rattle.vax_word.specs.declared.Size.{Size}
use Rattle.vax_word.specs.declared.Size.TheVariants as size
use Rattle.vax_asm_statement.specs.declared.directives.Referring.{Referring}
use Rattle.vax_asm_statement.specs.declared.directives.Referring.TheVariants as referring
use Rattle.vax_asm_instruction.specs.Stating.{read_of, referred_kind, written_longword}

read_width : (k : Size) → IsWidth (bytes_of k)
read_width size.B = grind (arith, nat_tests)
read_width size.W = grind (arith, nat_tests)
read_width size.L = grind (arith, nat_tests)
read_width size.Q = grind (arith, nat_tests)

kind_of : (k : Size) → IsKind (read_of k)
kind_of k = record { width = read_width k; branch = λ h. absurd cc }

pub read_kind : (k : Size) (kind : OperandKind) → kind ≡ read_of k → IsKind kind
read_kind k kind e = rw e (kind_of k)

longword_kind : IsKind written_longword
longword_kind = record { width = grind (arith, nat_tests); branch = λ h. absurd cc }

pub written_kind : (kind : OperandKind) → kind ≡ written_longword → IsKind kind
written_kind kind e = rw e longword_kind

pub referring_kind : (r : Referring) → IsKind (referred_kind r)
referring_kind (referring.Read k) = kind_of k
referring_kind referring.Pop = longword_kind
