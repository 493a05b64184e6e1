-- What the types of arguments mean.
use Rattle.std.specs.Prelude.{ℕ, ◌<◌, List, length, map, Option, option_map, Vec}
use Rattle.std.proofs.Common.{Bor}
use Rattle.std.specs.Global.{Global}
use Rattle.vax_macro.specs.Arguments as specs
use Rattle.vax_macro.specs.declared.arguments.Argument as code_argument
use Rattle.vax_macro.specs.declared.arguments.Taken as code_taken
use Rattle.vax_macro.specs.declared.arguments.Taking as code_taking
use Rattle.vax_macro.specs.declared.arguments.Following as code_following
use Rattle.vax_macro.specs.declared.arguments.Following.TheVariants as followings

abbrev pub owned_view : Option (Vec ℕ Global) → Option (List ℕ)
owned_view o = option_map (λ v. v.items) o

abbrev pub lent_view : Option (Bor (List ℕ)) → Option (List ℕ)
lent_view o = option_map (λ s. s.now) o

abbrev pub argument_view : code_argument.Argument → specs.Argument
argument_view a = record { keyword = owned_view a.keyword; text = owned_view a.text }

abbrev pub arguments_view : Vec code_argument.Argument Global → List specs.Argument
arguments_view v = map argument_view v.items

abbrev pub taken_view : code_taken.Taken → specs.Taken
taken_view t = record { text = lent_view t.text; rest = t.rest.now }

abbrev pub taking_view : code_taking.Taking → specs.ArgumentTaken
taking_view t = record { argument = record { keyword = lent_view t.keyword; text = lent_view t.text }; rest = t.rest.now }

abbrev pub following_view : code_following.Following → specs.Following
following_view followings.Nothing = specs.nothing_more
following_view (followings.Another text) = specs.another text.now
following_view followings.Unparted = specs.unparted

-- what follows is shorter
abbrev pub IsShorter : code_following.Following → ℕ → Type 0
IsShorter followings.Nothing n = Unit {0}
IsShorter (followings.Another text) n = length text.now < n
IsShorter followings.Unparted n = Unit {0}

abbrev pub lent_arguments : Option (Bor (List code_argument.Argument)) → Option (List specs.Argument)
lent_arguments o = option_map (λ s. map argument_view s.now) o
