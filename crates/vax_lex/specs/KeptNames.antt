-- Names as they are kept.
use Rattle.std.specs.Prelude.{ℕ, List, take}
use Rattle.vax_lex.specs.declared.name.CanonicalName.{CanonicalName}

-- the characters of a name that is kept
abbrev pub kept_name : CanonicalName → List ℕ
kept_name n = take n.length n.bytes
