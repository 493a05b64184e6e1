use Rattle.std.proofs.Common.{◌≡◌, subst, sym}
use Rattle.std.specs.Prelude.{Option, None, option_map}
use Rattle.vax_macro.specs.Expansion.{step, next_line_step}
use Rattle.vax_macro.specs.LineViews.{lines_of, remainder_of}
use Rattle.vax_macro.specs.Readings.{Reads}
use Rattle.vax_macro.specs.Rest.{Rest}
use Rattle.vax_macro.specs.View.{rest_in}
use Rattle.vax_macro.specs.declared.line_types.Remainder as code_remainder
use Rattle.vax_macro.proofs.expander.Expander.take_line.Goals as goal

pub returns-in_ok-next-in-None-clause-exact : goal.returns-in_ok-next-in-None-clause-exact
unfolding step
returns-in_ok-next-in-None-clause-exact c = λ names.
    let before : Rest = rest_in c.args.self.now.read c.args.self.now.state in
    let was : c.args.self.now.again ≡ None = cc (c.take.ensures.value, c.in-None.is) in
    let now : c.take.new.self ≡ None = cc (c.take.ensures.after, c.in-None.is) in
    let after : Option code_remainder.Remainder → Rest = λ b. record (rest_in c.args.self.now.read c.args.self.now.state) { lines = lines_of c.next_reading.new.lines; again = option_map remainder_of b; read = c.next_reading.new.read } in
    let P : Option code_remainder.Remainder → Type 0 = λ b. Reads names c.in_ok-next-in-None.next (after b) (next_line_step names (lines_of c.args.self.now.state.lines) (rest_in c.args.self.now.read c.args.self.now.state)) in
    let Q : Option code_remainder.Remainder → Type 0 = λ a. Reads names c.in_ok-next-in-None.next (after c.take.new.self) (step names (record (rest_in c.args.self.now.read c.args.self.now.state) { again = option_map remainder_of a })) in
    subst Q (sym was) (subst P (sym now) (c.in_ok-next-in-None.ensures.exact names before))
