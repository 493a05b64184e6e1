use Rattle.std.proofs.Common.{◌≡◌, ◌++◌, take}
use Rattle.std.specs.Prelude.{None}
use Rattle.vax_link.specs.Names.{Entries, entries_of, repeated}
use Rattle.vax_link.specs.Tables.{IsTable}
use Rattle.vax_link.proofs.names.Names.define_all.Given as goal

abbrev pub invariant-loop-symbol : goal.invariant-loop-symbol
invariant-loop-symbol l = record {
  none : (entries : Entries) → IsTable l.fn.self entries → repeated entries (entries_of l.owner (take l.symbol-index l.globals)) ≡ None;
  table : (entries : Entries) → IsTable l.fn.self entries → IsTable l.self (entries ++ entries_of l.owner (take l.symbol-index l.globals));
  modules : l.self.modules.now ≡ l.fn.self.modules.now;
}
