use Rattle.std.proofs.Common.{ℕ, ◌≡◌, ◌+◌, ◌*◌, ◌-◌, ap, arith, sym, ◌∙◌, Some}
use Rattle.vax_table.specs.Layout.{p0_tables, p1_first}
use Rattle.vax_table.proofs.Places.{place_p0, place_p0_past, place_p1, place_p1_past, place_system, place_past, bytes_within}
use Rattle.vax_table.proofs.memory.Memory.place_of.Goals as goal

pub returns-then-page-self-clause-place : goal.returns-then-page-self-clause-place
returns-then-page-self-clause-place c = sym (place_p0 _ _ _ c.if-page-lt2097152.true c.if-page-self.true)

pub returns-then-page-self-clause-within : goal.returns-then-page-self-clause-within
returns-then-page-self-clause-within c =
    bytes_within _ _ _ _ _ c.requires.p0_high c.requires.p1_low c.requires.size (sym (returns-then-page-self-clause-place c))

pub returns-else-page-self-clause-place : goal.returns-else-page-self-clause-place
returns-else-page-self-clause-place c = sym (place_p0_past _ _ _ c.if-page-lt2097152.true c.if-page-self.false)

pub returns-then-self-page-clause-place : goal.returns-then-self-page-clause-place
returns-then-self-page-clause-place c =
    let pages : c.div_ceil.result ≡ p0_tables c.args.self.now.p0_end = omega (arith, c.div_ceil.ensures) in
    ap (λ (n : ℕ). Some (4608 + 128 * n + (c.args.page - p1_first c.args.self.now.p1_start))) pages
    ∙ sym (place_p1 _ _ _ c.if-page-lt2097152.false c.if-page-lt4194304.true c.if-self-page.true)

pub returns-then-self-page-clause-within : goal.returns-then-self-page-clause-within
returns-then-self-page-clause-within c =
    bytes_within _ _ _ _ _ c.requires.p0_high c.requires.p1_low c.requires.size (sym (returns-then-self-page-clause-place c))

pub returns-else-self-page-clause-place : goal.returns-else-self-page-clause-place
returns-else-self-page-clause-place c =
    sym (place_p1_past _ _ _ c.if-page-lt2097152.false c.if-page-lt4194304.true c.if-self-page.false)

pub returns-then-page-lt4198912-clause-place : goal.returns-then-page-lt4198912-clause-place
returns-then-page-lt4198912-clause-place c = sym (place_system _ _ _ c.if-page-lt4194304.false c.if-page-lt4198912.true)

pub returns-else-page-lt4198912-clause-place : goal.returns-else-page-lt4198912-clause-place
returns-else-page-lt4198912-clause-place c = sym (place_past _ _ _ c.if-page-lt4198912.false)
