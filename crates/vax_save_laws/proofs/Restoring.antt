-- A saved state is restored.
use Rattle.std.proofs.Common.{◌≡◌, ℕ, ◌+◌, ◌^◌, ◌<◌, ◌≤◌, false, List, [], ◌++◌, length, Option, Some, None, Ok, refl, sym, ap, ◌∙◌, append_assoc, append-nil, arith}
use Rattle.std.specs.Prelude.{codes, is_some, not, ◌||◌, ◌==◌}
use Rattle.std.proofs.lemmas.Bool.{ne_eqb}
use Rattle.vax_word.specs.declared.Core.{Core}
use Rattle.vax_word.specs.Status.{is_one}
use Rattle.vax_space.specs.declared.Area.{Area}
use Rattle.vax_flat.specs.Memory.{IsWhole}
use Rattle.vax_flat.specs.Parts.{Place, At, Within, machine_at}
use Rattle.vax_flat.specs.Step.{Flat}
use Rattle.vax_machine.specs.Attempt.{open_at as open_instruction}
use Rattle.vax_machine.specs.Open.{Open}
use Rattle.vax_save.specs.Restored.{restored_place}
use Rattle.vax_save.specs.Restoring.{Contents, contents_at, ended, is_string, open_at, opens_wrongly, restored, state_of}
use Rattle.vax_save.specs.Saved.{core_field, heading, input_field, longword, memory_field, no_opcode, quadword, registers_field, saved, word}
use Rattle.vax_save_laws.specs.Saveable.{AreRegisters, IsLong, IsSaveable, IsStringIfOpen, kept}
use Rattle.vax_save_laws.proofs.Ascending.{Ascend, space_ascends}
use Rattle.vax_save_laws.proofs.Fields.{at, input_again, magic_again, number_again, step, steps_again}
use Rattle.vax_save_laws.proofs.Pages.{memory_again}
use Rattle.vax_save_laws.proofs.Registers.{core_again, past_core, opcode_low, string_opcode}

-- the opcode that stands with the registers
abbrev pub opcode_of : Option Open → ℕ
opcode_of None = no_opcode
opcode_of (Some latched) = latched.opcode

-- what stands behind them
abbrev pub start_field : Option Open → List ℕ
start_field None = []
start_field (Some latched) = longword latched.units ++ core_field latched.start 0

abbrev past_open : Option Open → ℕ → ℕ
past_open None place = place
past_open (Some latched) place = past_core (place + 4)

registers_are : (core : Core) (latch : Option Open) (rest : List ℕ) → registers_field core latch ++ rest ≡ core_field core (opcode_of latch) ++ (start_field latch ++ rest)
registers_are core None rest = refl
registers_are core (Some latched) rest = append_assoc (core_field core latched.opcode) (start_field (Some latched)) rest

opcode_small : (latch : Option Open) → IsStringIfOpen latch → opcode_of latch < 256 ^ 2
opcode_small None is = omega arith
opcode_small (Some latched) is = opcode_low latched.opcode is.opcode

opcode_right : (latch : Option Open) → IsStringIfOpen latch → not ((opcode_of latch == no_opcode) || is_string (opcode_of latch)) ≡ false
opcode_right None is = refl
opcode_right (Some latched) is = rw (string_opcode latched.opcode is.opcode, is.opcode) refl

part_right : (latch : Option Open) (psl : ℕ) → IsStringIfOpen latch → is_one psl 27 ≡ is_some latch → opens_wrongly (Some (opcode_of latch)) psl ≡ false
part_right None psl is part = part
part_right (Some latched) psl is part = rw (is.opcode, part) refl

open_again : (latch : Option Open) (rest : List ℕ) (place : ℕ) → IsStringIfOpen latch → open_at (opcode_of latch) (at place (start_field latch ++ rest)) ≡ Ok (latch, at (past_open latch place) rest)
unfolding open_at
open_again None rest place is = refl
open_again (Some latched) rest place is =
    let long : latched.units < 256 ^ 4 = let l : latched.units < 2 ^ 32 = is.units_long in omega (arith, l) in
    let some : (latched.units == 0) ≡ false = ne_eqb latched.units 0 (λ e. omega (arith, e, is.some)) in
    let parts : start_field (Some latched) ++ rest ≡ longword latched.units ++ (core_field latched.start 0 ++ rest) = append_assoc (longword latched.units) (core_field latched.start 0) rest in
    rw (string_opcode latched.opcode is.opcode, parts, number_again 4 latched.units (core_field latched.start 0 ++ rest) place long, some)
    (step (λ start. Ok (Some (record { opcode = latched.opcode; start = start.0.0; units = latched.units }), start.1)) (core_again _ latched.start false 0 rest (place + 4) is.start (omega arith) refl (λ c e. is.start.part)) refl)

-- the fields of a state, one behind the other
abbrev fields_of : ℕ → Core → Option Open → ℕ → List ℕ → List Area → List ℕ
fields_of steps core latch taken input memory = heading steps ++ (registers_field core latch ++ (input_field taken input ++ memory_field memory))

abbrev parted : ℕ → Core → Option Open → ℕ → List ℕ → List Area → List ℕ
parted steps core latch taken input memory =
    codes "VAXS"
    ++ (word 1
    ++ (word 0
    ++ (quadword steps
    ++ (core_field core (opcode_of latch)
    ++ (start_field latch
    ++ (longword taken
    ++ (longword (length input)
    ++ (input
    ++ (memory_field memory ++ [])))))))))

parted_is : (steps : ℕ) (core : Core) (latch : Option Open) (taken : ℕ) (input : List ℕ) (memory : List Area) → fields_of steps core latch taken input memory ≡ parted steps core latch taken input memory
parted_is steps core latch taken input memory =
    let behind : List ℕ = longword taken ++ (longword (length input) ++ (input ++ (memory_field memory ++ []))) in
    let last : input_field taken input ++ memory_field memory ≡ behind = simp (append_assoc, append-nil) refl in
    let middle : registers_field core latch ++ (input_field taken input ++ memory_field memory) ≡ core_field core (opcode_of latch) ++ (start_field latch ++ behind) =
    ap (λ (t : List ℕ). registers_field core latch ++ t) last ∙ registers_are core latch behind in
    ap (λ (t : List ℕ). heading steps ++ t) middle ∙ simp append_assoc refl

-- what is to be read
abbrev read : ℕ → Core → Option Open → ℕ → List ℕ → List Area → ℕ → Contents
read steps core latch taken input memory end =
    record { steps = steps; core = core; latch = latch; taken = taken; input = input; memory = memory; end = at end [] }

-- the numbers of a state fit their fields
record AreFields (steps : ℕ) (core : Core) (latch : Option Open) (taken : ℕ) (input : List ℕ) (memory : List Area) : Type 0 where
  few_steps : steps ≤ 10 ^ 18
  registers : AreRegisters core (is_some latch)
  string : IsStringIfOpen latch
  taken_few : taken ≤ length input
  input_long : IsLong (length input)
  some_areas : 0 < length memory
  few_areas : length memory ≤ 256
  areas : Ascend 0 memory
  whole : IsWhole memory

record IsRead (steps : ℕ) (core : Core) (latch : Option Open) (taken : ℕ) (input : List ℕ) (memory : List Area) : Type 0 where
  end : ℕ
  is : contents_at (at 0 (parted steps core latch taken input memory)) ≡ Ok (read steps core latch taken input memory end)

contents_again : (steps : ℕ) (core : Core) (latch : Option Open) (taken : ℕ) (input : List ℕ) (memory : List Area) → AreFields steps core latch taken input memory → IsRead steps core latch taken input memory
unfolding contents_at
contents_again steps core latch taken input memory are =
    let last : List ℕ = memory_field memory ++ [] in
    let four : List ℕ = longword taken ++ (longword (length input) ++ (input ++ last)) in
    let three : List ℕ = start_field latch ++ four in
    let two : List ℕ = core_field core (opcode_of latch) ++ three in
    let one : List ℕ = word 1 ++ (word 0 ++ (quadword steps ++ two)) in
    let opened : ℕ = past_open latch (past_core 16) in
    let taking = input_again taken input last opened are.taken_few are.input_long in
    let remembering = memory_again memory [] taking.behind are.some_areas are.few_areas are.areas are.whole in
    let fine : opens_wrongly (Some (opcode_of latch)) core.psl.0 ≡ false = part_right latch core.psl.0 are.string are.registers.part in
    record {
      end = remembering.behind;
      is =
          step _ (magic_again one 0)
          (step _ (steps_again steps two 4 are.few_steps)
          (step _ (core_again _ core (is_some latch) (opcode_of latch) three 16 are.registers (opcode_small latch are.string) (opcode_right latch are.string) (λ c e. ap (λ (o : Option ℕ). opens_wrongly o core.psl.0) e ∙ fine))
          (step _ (open_again latch four (past_core 16) are.string)
          (step _ taking.is (step _ remembering.is refl)))));
    }

fields_are : (place : Place) (steps : ℕ) → IsSaveable place steps → AreFields steps (machine_at place).core (open_instruction place) (machine_at place).taken (machine_at place).input (machine_at place).memory
fields_are place steps is = record {
  few_steps = is.few_steps;
  registers = is.registers;
  string = is.string;
  taken_few = is.taken;
  input_long = is.input_long;
  some_areas = is.some_areas;
  few_areas = is.few_areas;
  areas = space_ascends (machine_at place).memory is.areas;
  whole = is.whole;
}

without_output : (m : Flat) → m.ending ≡ None → ◌≡◌ {A = Flat} (record { core = m.core; memory = m.memory; input = m.input; taken = m.taken; output = []; ending = None }) (record m { output = [] })
without_output m going = λ i. record { core = m.core; memory = m.memory; input = m.input; taken = m.taken; output = []; ending = sym going i }

pub saved_again : (place : Place) (steps : ℕ) → IsSaveable place steps → restored (saved place steps) ≡ Ok (kept place steps)
unfolding restored saved ended
saved_again place steps is =
    let m : Flat = machine_at place in
    let latch : Option Open = open_instruction place in
    let r = contents_again steps m.core latch m.taken m.input m.memory (fields_are place steps is) in
    let bytes = parted_is steps m.core latch m.taken m.input m.memory in
    let whole : restored (parted steps m.core latch m.taken m.input m.memory) ≡ Ok (state_of (read steps m.core latch m.taken m.input m.memory r.end)) = rw (r.is, is.goes_on) refl in
    ap restored bytes ∙ (whole ∙ λ i. Ok (record { machine = without_output m is.going i; latch = latch; steps = steps }))

pub placed_again : (place : Place) (steps : ℕ) → IsSaveable place steps → restored_place (kept place steps) (machine_at place).output ≡ place
placed_again (At m) steps is = refl
placed_again (Within p) steps is = refl
