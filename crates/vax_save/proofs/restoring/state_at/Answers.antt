use Rattle.std.proofs.Common.{◌≡◌, ◌==◌, ◌∙◌, List, [], None, Ok, true, false, ap, length, sym}
use Rattle.vax_space.specs.declared.Area.{Area}
use Rattle.vax_flat.specs.Start.{start_memory}
use Rattle.vax_save.specs.Restoring.{is_overdone}
use Rattle.vax_save.specs.Views.{contents}
use Rattle.vax_save.proofs.RestoringLaws.{ended_overdone, ended_well, overdone_start, restored_by}
use Rattle.vax_save.proofs.restoring.state_at.Goals as goal

pub returns-then-is_overdone-clause-gives : goal.returns-then-is_overdone-clause-gives
returns-then-is_overdone-clause-gives c =
    let ct = c.in_ok-contents.contents in
    let none : (length ct.end.rest.now == 0) ≡ true = sym c.if-not-is_empty.ensures in
    let wrong : is_overdone ct.latch (start_memory ct.areas.items) ct.core ≡ true =
    overdone_start ct.latch ct.areas.items ct.core ∙ (ap (λ (z : List Area). is_overdone ct.latch z ct.core) (sym c.in_ok-space.ensures.areas) ∙ (sym c.is_overdone.ensures ∙ c.if-is_overdone.true)) in
    restored_by c.args.bytes.now (contents ct) c.in_ok-contents.ensures.gives ∙ ended_overdone (contents ct) none wrong

pub returns-clause-gives : goal.returns-clause-gives
returns-clause-gives c =
    let ct = c.in_ok-contents.contents in
    let none : (length ct.end.rest.now == 0) ≡ true = sym c.if-not-is_empty.ensures in
    let sound : is_overdone ct.latch (start_memory ct.areas.items) ct.core ≡ false =
    overdone_start ct.latch ct.areas.items ct.core ∙ (ap (λ (z : List Area). is_overdone ct.latch z ct.core) (sym c.in_ok-space.ensures.areas) ∙ (sym c.is_overdone.ensures ∙ c.if-is_overdone.false)) in
    let areas = sym c.in_ok-space.ensures.areas in
    let input = sym c.in_ok-input.ensures.items in
    restored_by c.args.bytes.now (contents ct) c.in_ok-contents.ensures.gives
    ∙ (ended_well (contents ct) none sound
    ∙ (λ i. Ok (record { machine = record { core = ct.core; memory = start_memory (areas i); input = input i; taken = ct.taken; output = []; ending = None }; latch = ct.latch; steps = ct.steps })))
