use Rattle.std.proofs.Common.{◌≡◌, map, drop}
use Rattle.vax_isa.specs.Rows.{is_one_of}
use Rattle.vax_isa.proofs.table.is_among.Given as goal

-- the aliases so far aren't the name
abbrev pub invariant-loop-alias : goal.invariant-loop-alias
invariant-loop-alias l = is_one_of (map (λ alias. alias.now) l.aliases) l.name ≡ is_one_of (map (λ alias. alias.now) (drop l.alias-index l.aliases)) l.name
