use Rattle.std.proofs.Common.{◌≡◌, ◌<◌, ℕ, None}
use Rattle.vax_asm.specs.View.{assembly_of}
use Rattle.vax_asm.specs.Walk.{assembled, walked}
use Rattle.vax_macro.specs.Expanders.{error_of, rest_of}
use Rattle.vax_macro.specs.Rest.{work}
use Rattle.vax_asm_listing.specs.Rows.{AreRowsOf}
use Rattle.vax_asm_listing.proofs.tracing.traced.Given as goal

abbrev pub invariant-statements : goal.invariant-statements
invariant-statements l = record {
  walks : (left : ℕ) × (work (rest_of l.expander) < left) × (walked left (rest_of l.expander) (assembly_of l.walk.standing l.walk.assignments) l.walk.met ≡ assembled l.fn.dialect l.source);
  quiet : error_of l.expander ≡ None;
  rows : l.walk.met ≡ None → AreRowsOf l.fn.dialect l.source l.rows.items (rest_of l.expander) (assembly_of l.walk.standing l.walk.assignments);
}

abbrev pub decreases-statements : goal.decreases-statements
decreases-statements l = work (rest_of l.expander)
