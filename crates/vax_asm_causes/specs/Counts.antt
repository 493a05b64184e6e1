-- How often names stand in a list.
use Rattle.std.specs.Prelude.{ℕ, List, [], ◌∷◌, Bool, true, false, if◌then◌else◌, Option, None, Some}
use Rattle.std.specs.BTreeMap.{BTreeMap}
use Rattle.std.specs.Global.{Vec}
use Rattle.std.specs.Str.{str_to_ascii_lowercase}
use Rattle.vax_asm_causes.specs.Places.{are_same}
use Rattle.vax_asm_causes.specs.declared.counts.Often.{Often}
use Rattle.vax_asm_causes.specs.declared.counts.Often.TheVariants.{Once, Again}
use Rattle.vax_asm_names.specs.ByName.{by_name}
use Rattle.vax_lines.specs.Lines.{Text}

-- once more
abbrev pub once_more : Option Often → Option Often
once_more None = Some Once
once_more (Some often) = Some Again

-- how often each name stands, by letters of either case
abbrev pub often_in : BTreeMap (Vec ℕ) Often → Text → Option Often
often_in counts name = by_name counts (str_to_ascii_lowercase name)

-- a name more
abbrev pub with_one : Text → (Text → Option Often) → Text → Option Often
with_one name before other = if are_same name other then once_more (before other) else before other

-- names more
unfoldable pub with_names : List Text → (Text → Option Often) → Text → Option Often
with_names [] before = before
with_names (name ∷ names) before = with_names names (with_one name before)

-- none
abbrev pub never : Text → Option Often
never name = None

-- it stands once
abbrev pub is_once : Option Often → Bool
is_once None = false
is_once (Some Once) = true
is_once (Some Again) = false
