-- That definitions are settled is a fact.
use Rattle.std.proofs.Common.{ℕ, List, Option}
use Rattle.std.proofs.Props.{props}
use Rattle.vax_lex.specs.declared.value.Value.{Value}
use Rattle.vax_asm_values.specs.Values.{Source, ToCome, Given, Worked}
use Rattle.vax_asm_values.specs.Waiting.{Watches, Settled}
use Rattle.vax_asm_values.specs.Marks.{Restorable}
use Rattle.vax_asm_values.specs.declared.types.Board.{Board}

watches_prop : (waiting : List (List ℕ)) (i : ℕ) (s : Source) → IsProp (Watches waiting i s)
watches_prop waiting i ToCome = Prim.hlevel props
watches_prop waiting i (Given v) = Prim.hlevel props
watches_prop waiting i (Worked w) = Prim.hlevel props

pub settled_prop : (sources : List Source) (values : List (Option Value)) (waiting : List (List ℕ)) → IsProp (Settled sources values waiting)
settled_prop sources values waiting = Prim.hlevel (props, watches_prop)

pub restorable_prop : (b : Board) → IsProp (Restorable b)
restorable_prop b = Prim.hlevel (props, settled_prop)
