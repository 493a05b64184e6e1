use Rattle.std.proofs.Common.{◌≡◌, ◌+◌, ◌++◌, List, ℕ, Bor, take, refl, sym, ap, subst, ◌∙◌}
use Rattle.std.specs.Prelude.{Option, Some, None, option_copied}
use Rattle.vax_module.specs.declared.Symbol.{Symbol}
use Rattle.vax_link.specs.Names.{Entries, entries_from, entries_of, repeated}
use Rattle.vax_link.specs.Tables.{IsTable, DefinesAll}
use Rattle.vax_link.proofs.NameLaws.{duplicate_at, duplicate_behind, entries_more, none_more, table_behind}
use Rattle.vax_link.proofs.names.names_of.Goals as goal

pub loop-owner-init : goal.loop-owner-init
unfolding repeated entries_from
loop-owner-init c = record {
  none = refl;
  table = c.new-names.ensures.table;
  modules = c.new-names.ensures.modules;
}

pub returns-in-Some : goal.returns-in-Some
returns-in-Some c =
    let modules = c.args.modules.now in
    let i = c.loop-owner.owner in
    let front = entries_from 0 (take i modules) in
    let P : Option (Bor (List ℕ)) → Type 0 = λ o. DefinesAll c.define_all.new.self front (entries_of i c.as_slice.result.now) (option_copied o) in
    let found : repeated front (entries_of i c.as_slice.result.now) ≡ Some c.in-Some.name.now = subst P c.in-Some.is (c.in_ok-name.ensures.found front c.loop-owner.invariant.table) in
    duplicate_at modules i c.index-modules-owner.result c.in-Some.name.now c.loop-owner-test.true c.index-modules-owner.is c.loop-owner.invariant.none
    (ap (λ (globals : List Symbol). repeated front (entries_of i globals)) (sym c.as_slice.ensures) ∙ found)

pub loop-owner-preserved : goal.loop-owner-preserved
loop-owner-preserved c =
    let modules = c.args.modules.now in
    let i = c.loop-owner.owner in
    let front = entries_from 0 (take i modules) in
    let P : Option (Bor (List ℕ)) → Type 0 = λ o. DefinesAll c.define_all.new.self front (entries_of i c.as_slice.result.now) (option_copied o) in
    let made : (repeated front (entries_of i c.as_slice.result.now) ≡ None) × IsTable c.define_all.new.self (front ++ entries_of i c.as_slice.result.now) =
    subst P c.in_default.is (c.in_ok-name.ensures.found front c.loop-owner.invariant.table) in
    let same : front ++ entries_of i c.as_slice.result.now ≡ entries_from 0 (take (i + 1) modules) =
    ap (λ (globals : List Symbol). front ++ entries_of i globals) c.as_slice.ensures ∙ sym (entries_more modules i c.index-modules-owner.result c.loop-owner-test.true c.index-modules-owner.is) in
    let Q : Entries → Type 0 = λ es. IsTable c.define_all.new.self es in
    record {
      none =
          none_more modules i c.index-modules-owner.result c.loop-owner-test.true c.index-modules-owner.is c.loop-owner.invariant.none
          (ap (λ (globals : List Symbol). repeated front (entries_of i globals)) (sym c.as_slice.ensures) ∙ made.0);
      table = subst Q same made.1;
      modules = c.in_ok-name.ensures.modules ∙ c.loop-owner.invariant.modules;
    }

pub returns-in-None : goal.returns-in-None
returns-in-None c = (
  duplicate_behind c.args.modules.now c.loop-owner.owner c.loop-owner-test.false c.loop-owner.invariant.none ∙ sym c.in-None.ensures,
  c.loop-owner.invariant.modules,
  table_behind c.loop-owner.names c.args.modules.now c.loop-owner.owner c.loop-owner-test.false c.loop-owner.invariant.table,
)

pub returns : goal.returns
returns c = duplicate_behind c.args.modules.now c.loop-owner.owner c.loop-owner-test.false c.loop-owner.invariant.none ∙ sym c.in-Some-second_transfer.ensures
