-- Statements carried out once more, and a source from a statement on.
use Rattle.std.specs.Prelude.{ℕ, if◌then◌else◌, List, [], ◌∷◌, Option, Some, None}
use Rattle.vax_asm.specs.Placing.{placed}
use Rattle.vax_asm.specs.Walk.{Assembly, at}
use Rattle.vax_asm_faults.specs.Survey.{Survey, is_ended, left_by, stated, survey}
use Rattle.vax_asm_first.specs.declared.types.Origin.{Origin}
use Rattle.vax_macro.specs.Expansion.{AtEnd, Faulty as Stops, Given, Later, Opened}

-- a statement: where it comes from, and its text
pub record Said : Type 0 where
  pub origin : Origin
  pub text : List ℕ

abbrev pub left_behind : Said → Assembly → Assembly
left_behind s a = left_by (placed s.origin s.text a.standing) a

-- what statements leave, one behind another
unfoldable pub restated : List Said → Assembly → Assembly
restated [] a = a
restated (s ∷ said) a = restated said (left_behind s a)

-- a survey that goes on with what was opened
abbrev pub resumed : Opened → Assembly → Option ℕ → Survey
resumed (Given st left rest) a ended = stated (at st.number rest.read) st.text a ended (survey left rest)
resumed (Stops line place kind) a ended = record {
  faults = if is_ended ended place then [] else record { origin = at line place; kind = kind } ∷ [];
  behind = a;
  ends = None;
}
resumed (AtEnd begin) a ended = record { faults = []; behind = a; ends = Some begin }
resumed Later a ended = record { faults = []; behind = a; ends = Some None }
