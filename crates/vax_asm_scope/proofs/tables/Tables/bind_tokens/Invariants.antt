use Rattle.std.proofs.Common.{◌≡◌, drop}
use Rattle.vax_lex.specs.Grammar.{symbols_of}
use Rattle.vax_asm_scope.specs.PlaceView.{place_of}
use Rattle.vax_asm_scope.specs.Scope.{bind_all, bound}
use Rattle.vax_asm_scope.specs.Used.{used}
use Rattle.vax_asm_scope.specs.View.{scope_in, bound_in, KeepsMark}
use Rattle.vax_asm_scope.proofs.tables.Tables.bind_tokens.Given as goal

abbrev pub invariant-loop-token : goal.invariant-loop-token
invariant-loop-token l = record {
  bound : bind_all l.here (bound_in l.found l.self) (used (place_of l.place) (symbols_of l.line (drop l.token-index l.tokens))) ≡ bound l.here (symbols_of l.line l.tokens) (scope_in l.fn.self);
  mark : KeepsMark l.fn.self l.self;
}
