use Rattle.std.proofs.Common.{◌≡◌, drop}
use Rattle.vax_lex.specs.Grammar.{symbols_of}
use Rattle.vax_asm_scope.specs.PlaceView.{place_of}
use Rattle.vax_asm_scope.specs.Used.{used, has_place, uses_place}
use Rattle.vax_asm_scope.proofs.place.uses_place.Given as goal

abbrev pub invariant-loop-token : goal.invariant-loop-token
invariant-loop-token l =
    has_place (used (place_of l.place) (symbols_of l.line (drop l.token-index l.tokens))) ≡ uses_place (symbols_of l.line l.tokens)
