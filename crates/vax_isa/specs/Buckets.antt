-- The code's buckets: the opcodes of the instructions by a hash of their names.
use Rattle.std.specs.Prelude.{ℕ, ◌+◌, ◌*◌, ◌%◌, ◌==◌, Bool, List, [], nat_lt, slice_index_or}
use Rattle.std.specs.List.{fold, list_all, list_any}
use Rattle.vax_isa.specs.Instructions.{Instruction}

-- the hash of a word's beginning that one more character follows
abbrev pub hash_more : ℕ → ℕ → ℕ
hash_more hash c = (hash * 7 % 256 + c % 32) % 256

-- the bucket of a word
abbrev pub hash_of : List ℕ → ℕ
hash_of word = fold hash_more 0 word

-- the instruction's opcode is one of these
abbrev pub has_opcode : List ℕ → Instruction → Bool
has_opcode codes i = list_any (λ code. code == i.opcode) codes

-- the instruction stands in the bucket of this word
abbrev pub is_in_bucket : List (List ℕ) → Instruction → List ℕ → Bool
is_in_bucket buckets i word = has_opcode (slice_index_or buckets (hash_of word) []) i

-- each of these is below 256
abbrev pub are_bytes : List ℕ → Bool
are_bytes codes = list_all (λ code. nat_lt code 256) codes
