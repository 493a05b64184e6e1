-- What is read off the steps that were made about a saved state.
use Rattle.std.proofs.Common.{◌≡◌, ℕ, List, [], ◌∷◌, ◌++◌, map, refl, ap}
use Rattle.vax_outside.specs.Channels.{Byte, change_of, file_of, state_bytes}
use Rattle.vax_outside.specs.declared.traits.StateFile.{StateFile}
use Rattle.vax_outside.specs.declared.traits.StateFile.TheVariants.{Untouched, Removed, Kept}

-- the bytes that were written
pub read_bytes : (bytes : List ℕ) (file : StateFile) → state_bytes (map Byte bytes ++ change_of file) ≡ bytes
read_bytes [] Untouched = refl
read_bytes [] Removed = refl
read_bytes [] Kept = refl
read_bytes (byte ∷ bytes) file = ap (λ (rest : List ℕ). byte ∷ rest) (read_bytes bytes file)

-- and what became of the file
pub read_file : (bytes : List ℕ) (file : StateFile) → file_of (map Byte bytes ++ change_of file) ≡ file
read_file [] Untouched = refl
read_file [] Removed = refl
read_file [] Kept = refl
read_file (byte ∷ bytes) file = read_file bytes file
