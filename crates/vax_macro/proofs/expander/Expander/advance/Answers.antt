use Rattle.std.proofs.Common.{◌≡◌, ◌<◌, ◌-◌, refl, ap, subst, sym, ◌∙◌, arith}
use Rattle.std.specs.Prelude.{Option, None, option_map}
use Rattle.vax_macro.specs.Expansion.{Stepped, Steps, Says, Faults, Ends, Opened, step, behind, opened}
use Rattle.vax_macro.specs.Expanders.{rest_of, statement_of, FaultIs, Opens}
use Rattle.vax_macro.specs.Rest.{work}
use Rattle.vax_macro.specs.View.{opening_of}
use Rattle.vax_macro.specs.declared.state_types.Begin as code_begin
use Rattle.vax_macro.proofs.Steps.{opens}
use Rattle.vax_macro.proofs.expander.Expander.advance.Goals as goal

pub steps-init : goal.steps-init
steps-init g c = record { same = λ steps h. (steps, h, refl); fewer = omega arith; error = refl; unclosed = refl }

pub steps-preserved : goal.steps-preserved
steps-preserved g c =
    let names = g.N.Names.meaning c.args.names.now in
    let did : step names (rest_of c.steps.self) ≡ Steps (rest_of c.step.new.self) = rw c.in-Goes.is at c.in-Ok.ensures.exact in
    let less : work (rest_of c.step.new.self) < work (rest_of c.steps.self) = rw c.in-Goes.is at c.in-Ok.ensures.fewer in
    record {
      same = λ steps h.
          let (left, enough, e) = c.steps.invariant.same steps h in (
            left - 1,
            omega (arith, enough, less),
            e ∙ opens left names (rest_of c.steps.self) (omega (arith, enough))
                ∙ ap (λ (s : Stepped). behind (left - 1) s (λ after. opened (left - 1) names after)) did,
          );
      fewer = omega (arith, less, c.steps.invariant.fewer);
      error = c.step.ensures.error ∙ c.steps.invariant.error;
      unclosed = c.step.ensures.unclosed ∙ c.steps.invariant.unclosed;
    }

pub returns-in-Says-clause-opens : goal.returns-in-Says-clause-opens
returns-in-Says-clause-opens g c =
    let names = g.N.Names.meaning c.args.names.now in
    let did : step names (rest_of c.steps.self) ≡ Says (statement_of c.in-Says.line) (rest_of c.step.new.self) = rw c.in-Says.is at c.in-Ok.ensures.exact in
    let less : work (rest_of c.step.new.self) < work (rest_of c.steps.self) = rw c.in-Says.is at c.in-Ok.ensures.fewer in
    λ steps h.
    let (left, enough, e) = c.steps.invariant.same steps h in (
      left - 1,
      omega (arith, enough, less),
      e ∙ opens left names (rest_of c.steps.self) (omega (arith, enough))
          ∙ ap (λ (s : Stepped). behind (left - 1) s (λ after. opened (left - 1) names after)) did,
    )

pub returns-in-Faults-clause-opens : goal.returns-in-Faults-clause-opens
returns-in-Faults-clause-opens g c =
    let names = g.N.Names.meaning c.args.names.now in
    let did : step names (rest_of c.steps.self) ≡ Faults c.in-Faults.line c.step.new.self.read c.in-Faults.kind = rw c.in-Faults.is at c.in-Ok.ensures.exact in
    let none : c.step.new.self.unclosed ≡ None = c.step.ensures.unclosed ∙ c.steps.invariant.unclosed in
    λ steps h.
    let (left, enough, e) = c.steps.invariant.same steps h in
    let P : Option code_begin.Begin → Type 0 = λ u. FaultIs (option_map opening_of u) c.step.new.self.read c.in-Faults.line c.in-Faults.kind (opened steps names (rest_of c.args.self.now)) in
    subst P (sym none) (e ∙ opens left names (rest_of c.steps.self) (omega (arith, enough)) ∙ ap (λ (s : Stepped). behind (left - 1) s (λ after. opened (left - 1) names after)) did)

pub returns-in-Ends-clause-opens : goal.returns-in-Ends-clause-opens
returns-in-Ends-clause-opens g c =
    let names = g.N.Names.meaning c.args.names.now in
    let did : step names (rest_of c.steps.self) ≡ Ends (option_map opening_of c.in-Ends.begin) = rw c.in-Ends.is at c.in-Ok.ensures.exact in
    λ steps h.
    let (left, enough, e) = c.steps.invariant.same steps h in
    let P : Opened → Type 0 = λ o. Opens c.end.result c.end.new.self o in
    subst P (sym (e ∙ opens left names (rest_of c.steps.self) (omega (arith, enough)) ∙ ap (λ (s : Stepped). behind (left - 1) s (λ after. opened (left - 1) names after)) did)) c.end.ensures.opens

pub returns-in-Says-clause-fewer : goal.returns-in-Says-clause-fewer
returns-in-Says-clause-fewer g c =
    let less : work (rest_of c.step.new.self) < work (rest_of c.steps.self) = rw c.in-Says.is at c.in-Ok.ensures.fewer in
    omega (arith, less, c.steps.invariant.fewer)
