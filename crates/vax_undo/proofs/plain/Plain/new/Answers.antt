use Rattle.std.proofs.Common.{ap, ◌∙◌, refl}
use Rattle.std.specs.Prelude.{is_some}
use Rattle.vax_flat.specs.Memory.{byte_at}
use Rattle.vax_undo.specs.Blocks.{AreStarts, IsFull}
use Rattle.vax_undo.proofs.PlainMemory.{plain_start, start_is, start_whole, layout_start, area_some}
use Rattle.vax_undo.proofs.plain.Plain.new.Goals as goal

pub invariant_of-result : goal.invariant_of-result
invariant_of-result c =
    let starts : AreStarts c.args.space c.in_ok-blocks.blocks.items = rw c.areas.ensures.areas at c.in_ok-blocks.ensures in
    let full : IsFull c.args.space c.in_ok-owners.owners.items = rw c.areas-2.ensures.areas at c.in_ok-owners.ensures in
    record { sound = plain_start c.args.space c.in_ok-blocks.blocks.items c.in_ok-owners.owners.items starts full }

pub returns : goal.returns
returns c =
    let starts : AreStarts c.args.space c.in_ok-blocks.blocks.items = rw c.areas.ensures.areas at c.in_ok-blocks.ensures in
    let full : IsFull c.args.space c.in_ok-owners.owners.items = rw c.areas-2.ensures.areas at c.in_ok-owners.ensures in
    let is = start_is c.args.space c.in_ok-blocks.blocks.items starts in
    record {
      areas = refl;
      resident = λ page. ap is_some (full.owned page) ∙ area_some 0 c.args.space page;
      bytes = ap byte_at is;
      stands = record {
        areas = layout_start c.args.space;
        bytes = λ addr here. ap (λ memory. byte_at memory addr) is;
        whole = start_whole c.args.space c.in_ok-blocks.blocks.items starts;
      };
    }
