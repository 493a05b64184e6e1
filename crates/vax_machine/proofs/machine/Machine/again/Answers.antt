use Rattle.std.proofs.Common.{Some, ap, refl, ◌∙◌}
use Rattle.vax_flat.specs.Start.{start_memory}
use Rattle.vax_pager.specs.Meaning.{pages}
use Rattle.vax_undo.specs.declared.term.Term.{Term}
use Rattle.vax_machine.proofs.Beginning.{fresh_areas, fresh_begun, fresh_pins, fresh_sound, there}
use Rattle.vax_machine.proofs.Following.{starts_follow}
use Rattle.vax_machine.proofs.machine.Machine.again.Goals as goal

pub invariant_of-result-clause-sound : goal.invariant_of-result-clause-sound
invariant_of-result-clause-sound c = record { pages = fresh_sound (pages c.in_ok-pager.pager) c.args.space c.args.frames c.in_ok-pager.ensures.pages c.requires.some; unsent = ap (λ (t : Term). t.out) c.new-cpu.ensures.term ∙ c.requires.unsent }

pub returns-clause-stands : goal.returns-clause-stands
returns-clause-stands c = λ file output.
    there _ (Some file) c.args.core c.args.term c.args.latch (start_memory c.args.space) output c.new-cpu.ensures.core c.new-cpu.ensures.term refl refl (c.in_ok-pager.ensures.stands file)

pub returns-clause-begun : goal.returns-clause-begun
returns-clause-begun c = λ place. fresh_begun (pages c.in_ok-pager.pager) c.args.space c.args.frames c.in_ok-pager.ensures.pages c.args.steps place

pub returns-clause-follows : goal.returns-clause-follows
returns-clause-follows c = λ file output start goes.
    starts_follow _ (Some file) _ start refl (fresh_pins (pages c.in_ok-pager.pager) c.args.space c.args.frames c.in_ok-pager.ensures.pages)
    (there _ (Some file) c.args.core c.args.term c.args.latch (start_memory c.args.space) output c.new-cpu.ensures.core c.new-cpu.ensures.term refl refl (c.in_ok-pager.ensures.stands file)) goes

pub returns-clause-kept : goal.returns-clause-kept
returns-clause-kept c = fresh_areas (pages c.in_ok-pager.pager) c.args.space c.args.frames c.in_ok-pager.ensures.pages

pub returns-clause-between : goal.returns-clause-between
returns-clause-between c = λ none. record { closed = none; unpinned = fresh_pins (pages c.in_ok-pager.pager) c.args.space c.args.frames c.in_ok-pager.ensures.pages }
