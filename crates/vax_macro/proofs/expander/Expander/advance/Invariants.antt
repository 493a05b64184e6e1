use Rattle.std.proofs.Common.{◌≡◌, ◌<◌, ◌≤◌, ℕ}
use Rattle.std.specs.Prelude.{None}
use Rattle.vax_macro.specs.Expansion.{opened}
use Rattle.vax_macro.specs.Expanders.{rest_of}
use Rattle.vax_macro.specs.Rest.{work}
use Rattle.vax_macro.proofs.expander.Expander.advance.Given as goal

abbrev pub invariant-steps : goal.invariant-steps
invariant-steps g l = record {
  same : (steps : ℕ) → work (rest_of l.fn.self) < steps
      → (left : ℕ) × (work (rest_of l.self) < left) × (opened steps (g.N.Names.meaning l.names) (rest_of l.fn.self) ≡ opened left (g.N.Names.meaning l.names) (rest_of l.self));
  fewer : work (rest_of l.self) ≤ work (rest_of l.fn.self);
  error : l.self.error ≡ l.fn.self.error;
  unclosed : l.self.unclosed ≡ None;
}

abbrev pub decreases-steps : goal.decreases-steps
decreases-steps g l = work (rest_of l.self)
