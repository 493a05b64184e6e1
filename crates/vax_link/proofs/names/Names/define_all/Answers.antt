use Rattle.std.proofs.Common.{◌++◌, take, refl, sym, subst, ◌∙◌}
use Rattle.std.proofs.lemmas.List.{append-nil}
use Rattle.vax_link.specs.Names.{Entries, entries_of, repeated}
use Rattle.vax_link.specs.Tables.{IsTable}
use Rattle.vax_link.proofs.NameLaws.{entries_push, repeated_at, repeated_none_more}
use Rattle.vax_link.proofs.names.Names.define_all.Goals as goal

pub loop-symbol-init : goal.loop-symbol-init
unfolding repeated
loop-symbol-init c = record {
  none = λ entries table. refl;
  table = λ entries table. let P : Entries → Type 0 = λ es. IsTable c.args.self.now es in subst P (sym (append-nil entries)) table;
  modules = refl;
}

pub returns-then-has-clause-found : goal.returns-then-has-clause-found
returns-then-has-clause-found c = λ entries table.
    let i = c.loop-symbol.symbol-index in
    let front = entries_of c.args.owner (take i c.args.globals.now) in
    let known = sym (c.if-has.ensures (entries ++ front) (c.loop-symbol.invariant.table entries table)) in
    repeated_at entries c.args.owner c.args.globals.now i c.symbol-item.result c.as_slice-name.result.now c.loop-symbol-test.true c.symbol-item.is c.as_slice-name.ensures
    (c.loop-symbol.invariant.none entries table) known

pub loop-symbol-preserved : goal.loop-symbol-preserved
loop-symbol-preserved c =
    let i = c.loop-symbol.symbol-index in
    let front = entries_of c.args.owner (take i c.args.globals.now) in
    record {
      none = λ entries table.
          let unknown = sym (c.if-has.ensures (entries ++ front) (c.loop-symbol.invariant.table entries table)) in
          repeated_none_more entries c.args.owner c.args.globals.now i c.symbol-item.result c.as_slice-name.result.now c.loop-symbol-test.true c.symbol-item.is c.as_slice-name.ensures
          (c.loop-symbol.invariant.none entries table) unknown;
      table = λ entries table.
          let so_far = c.loop-symbol.invariant.table entries table in
          let unknown = sym (c.if-has.ensures (entries ++ front) so_far) in
          let next = c.in_ok-define.ensures.table (entries ++ front) so_far unknown in
          let P : Entries → Type 0 = λ es. IsTable c.define.new.self es in
          subst P (entries_push entries c.args.owner c.args.globals.now i c.symbol-item.result c.as_slice-name.result.now c.loop-symbol-test.true c.symbol-item.is c.as_slice-name.ensures) next;
      modules = c.in_ok-define.ensures.modules ∙ c.loop-symbol.invariant.modules;
    }
