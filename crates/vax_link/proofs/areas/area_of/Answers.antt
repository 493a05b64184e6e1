use Rattle.std.proofs.Common.{◌≡◌, false, true, Bool, List, ap, ◌∙◌, arith, rules}
use Rattle.std.specs.Prelude.{◌==◌}
use Rattle.std.specs.Borrow.{Bor}
use Rattle.vax_module.specs.declared.Section.{Section}
use Rattle.vax_link.specs.Layout.{is_control_block, is_writable, sections_in, size_of}
use Rattle.vax_link.specs.Linked.{protection}
use Rattle.vax_link.specs.Placed.{bytes_in}
use Rattle.vax_link.proofs.AreaLaws.{empty_area, full_area}
use Rattle.vax_link.proofs.areas.area_of.Goals as goal

pub returns-in_default : goal.returns-in_default
returns-in_default c =
    let same = ap (λ (ss : List (Bor Section)). size_of (sections_in ss) c.args.name.now) c.deref.ensures.value in
    absurd (omega (arith, same, c.in_default.ensures.none, c.requires))

pub returns-then-size-eq0 : goal.returns-then-size-eq0
returns-then-size-eq0 c =
    let layout = c.args.layout.now in
    let pieces = sections_in layout.pieces.items in
    let same = c.in-Some.ensures.some ∙ ap (λ (ss : List (Bor Section)). size_of (sections_in ss) c.args.name.now) c.deref.ensures.value in
    let none : (c.in-Some.size == 0) ≡ true = search rules in
    empty_area layout.base pieces (bytes_in c.args.filled.now) c.args.name.now c.args.first c.in-Some.size same none

pub returns : goal.returns
returns c =
    let layout = c.args.layout.now in
    let pieces = sections_in layout.pieces.items in
    let same = c.in-Some.ensures.some ∙ ap (λ (ss : List (Bor Section)). size_of (sections_in ss) c.args.name.now) c.deref.ensures.value in
    let full : (c.in-Some.size == 0) ≡ false = search rules in
    let prot = c.protection.ensures ∙ ap (λ (b : Bool). protection layout.base b c.is_writable-write.result) c.is_control_block-control.ensures
    ∙ ap (protection layout.base (is_control_block layout.base c.args.name.now)) (c.is_writable-write.ensures ∙ ap (λ (ss : List (Bor Section)). is_writable c.args.name.now (sections_in ss)) c.deref-2.ensures.value) in
    full_area layout.base pieces (bytes_in c.args.filled.now) c.args.name.now c.args.first c.in-Some.size c.div_ceil.result c.protection.result c.into.result same full
    c.div_ceil.ensures prot (c.into.ensures ∙ c.in_ok-bytes.ensures)
