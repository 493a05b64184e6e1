-- The source of a program that is made from two numbers.
use Rattle.std.specs.Prelude.{ℕ, zero, suc, ◌+◌, ◌*◌, ◌/◌, ◌%◌, ◌^◌, List, [], ◌∷◌, ◌++◌, codes, decimal, slice_index_or}
use Rattle.std.specs.List.{flat_map}
use Rattle.vax_guest.specs.Executive.{line}

-- the number after another (a linear congruential generator)
abbrev pub following : ℕ → ℕ
following x = (1664525 * x + 1013904223) % 2 ^ 32

-- so many numbers behind a seed
unfoldable pub numbers : ℕ → ℕ → List ℕ
numbers seed zero = []
numbers seed (suc count) = following seed ∷ numbers (following seed) count

-- two offsets into the buffer, and two of the registers R6 to R9
abbrev pub first_offset : ℕ → ℕ
first_offset x = x % 65536

abbrev pub second_offset : ℕ → ℕ
second_offset x = 37 * first_offset x % 65536

abbrev pub first_register : ℕ → ℕ
first_register x = 6 + x / 2 ^ 16 % 4

abbrev pub second_register : ℕ → ℕ
second_register x = 6 + x / 2 ^ 18 % 4

-- the eight instructions of which a number's highest three bits but five choose one
abbrev pub instructions : List ℕ → List ℕ → List ℕ → List ℕ → List (List ℕ)
instructions v w a b =
    (codes "ADDL2 #" ++ v ++ codes ",R" ++ a)
    ∷ (codes "SUBL3 R" ++ a ++ codes ",#" ++ v ++ codes ",R" ++ b)
    ∷ (codes "MULL2 #" ++ v ++ codes ",R" ++ a)
    ∷ (codes "XORL2 R" ++ b ++ codes ",R" ++ a)
    ∷ (codes "ROTL #7,R" ++ a ++ codes ",R" ++ b)
    ∷ (codes "MOVB R" ++ a ++ codes ",BUF+" ++ v)
    ∷ (codes "MOVC3 #256,BUF+" ++ v ++ codes ",BUF+" ++ w)
    ∷ (codes "EXTZV #4,#12,R" ++ a ++ codes ",R" ++ b)
    ∷ []

-- the instruction of a number
unfoldable pub instruction : ℕ → List ℕ
instruction x =
    slice_index_or (instructions (decimal (first_offset x)) (decimal (second_offset x)) (decimal (first_register x)) (decimal (second_register x))) (x / 2 ^ 24 % 8) []

-- what stands before and behind the instructions
abbrev pub opening : List (List ℕ)
opening = codes ".PSECT DATA" ∷ codes "BUF: .BLKB 66048" ∷ codes ".PSECT CODE,NOWRT" ∷ codes ".ENTRY START,^M<>" ∷ []

abbrev pub closing : List (List ℕ)
closing = codes "CHMK #0" ∷ codes ".END START" ∷ []

-- the program of a seed and a number of instructions
unfoldable pub workload : ℕ → ℕ → List ℕ
workload seed size = flat_map line opening ++ flat_map (λ x. line (instruction x)) (numbers seed size) ++ flat_map line closing
