use Rattle.std.proofs.Common.{◌≡◌, ℕ, subst, sym}
use Rattle.vax_macro.specs.Directives.{finished}
use Rattle.vax_macro.specs.View.{pending_view, rest_in, use_view}
use Rattle.vax_macro.specs.declared.state_types.Use as code_use
use Rattle.vax_macro.proofs.state_types.State.finish.Goals as goal

pub returns-in_ok-finish_macro-in-Macro : goal.returns-in_ok-finish_macro-in-Macro
unfolding finished
returns-in_ok-finish_macro-in-Macro c =
    let P : code_use.Use → Type 0 = λ u. (read : ℕ) → rest_in read c.finish_macro.new.self ≡ finished (record (pending_view c.args.pending) { use_of = use_view u }) (rest_in read c.args.self.now) in
    subst P (sym c.in-Macro.is) c.in_ok-finish_macro-in-Macro.ensures

pub returns-in_ok-finish_copies-in-Copies : goal.returns-in_ok-finish_copies-in-Copies
unfolding finished
returns-in_ok-finish_copies-in-Copies c =
    let P : code_use.Use → Type 0 = λ u. (read : ℕ) → rest_in read c.finish_copies.new.self ≡ finished (record (pending_view c.args.pending) { use_of = use_view u }) (rest_in read c.args.self.now) in
    subst P (sym c.in-Copies.is) c.in_ok-finish_copies-in-Copies.ensures

pub returns-in_ok-finish_each-in-Each : goal.returns-in_ok-finish_each-in-Each
unfolding finished
returns-in_ok-finish_each-in-Each c =
    let P : code_use.Use → Type 0 = λ u. (read : ℕ) → rest_in read c.finish_each.new.self ≡ finished (record (pending_view c.args.pending) { use_of = use_view u }) (rest_in read c.args.self.now) in
    subst P (sym c.in-Each.is) c.in_ok-finish_each-in-Each.ensures
