use Rattle.std.proofs.Common.{◌≡◌, [], take}
use Rattle.std.specs.Prelude.{None}
use Rattle.vax_link.specs.Names.{entries_from, repeated}
use Rattle.vax_link.specs.Tables.{IsTable}
use Rattle.vax_link.proofs.names.names_of.Given as goal

abbrev pub invariant-loop-owner : goal.invariant-loop-owner
invariant-loop-owner l = record {
  none : repeated [] (entries_from 0 (take l.owner l.modules)) ≡ None;
  table : IsTable l.names (entries_from 0 (take l.owner l.modules));
  modules : l.names.modules.now ≡ l.modules;
}
