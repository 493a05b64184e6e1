use Rattle.std.proofs.Common.{◌+◌, ◌-◌, ◌/◌, ◌%◌, ◌≤◌, arith, sym, ap, ◌∙◌}
use Rattle.std.proofs.lemmas.List.{get_or_default}
use Rattle.vax_undo.specs.Blocks.{number_of_area}
use Rattle.vax_undo.proofs.Blocks.{at_number, byte_there}
use Rattle.vax_undo.proofs.PlainMemory.{some_byte, no_byte, shape_of, below_at, room_at}
use Rattle.vax_undo.proofs.plain.Plain.byte.Goals as goal

pub index-block-requires : goal.index-block-requires
index-block-requires c =
    let h = ap (λ areas. number_of_area 0 areas (c.args.addr / 512)) (sym c.areas.ensures.areas) ∙ (sym c.number_of_area.ensures ∙ c.in-Some.is) in
    omega (arith, below_at _ _ _ _ (shape_of _ _ _ c.args.self.now.sound) (at_number _ _ _ h))

pub overflow_sub-addr : goal.overflow_sub-addr
overflow_sub-addr c =
    let h = ap (λ areas. number_of_area 0 areas (c.args.addr / 512)) (sym c.areas.ensures.areas) ∙ (sym c.number_of_area.ensures ∙ c.in-Some.is) in
    let one : c.args.addr % 512 + 1 ≤ 512 = omega arith in
    (room_at _ _ c.args.addr 1 _ _ (shape_of _ _ _ c.args.self.now.sound) (at_number _ _ _ h) one c.index-block.ensures).0

pub index-requires : goal.index-requires
index-requires c =
    let h = ap (λ areas. number_of_area 0 areas (c.args.addr / 512)) (sym c.areas.ensures.areas) ∙ (sym c.number_of_area.ensures ∙ c.in-Some.is) in
    let one : c.args.addr % 512 + 1 ≤ 512 = omega arith in
    let r = room_at _ _ c.args.addr 1 _ _ (shape_of _ _ _ c.args.self.now.sound) (at_number _ _ _ h) one c.index-block.ensures in
    omega (arith, r.1)

pub returns-in-Some : goal.returns-in-Some
returns-in-Some c =
    let h = ap (λ areas. number_of_area 0 areas (c.args.addr / 512)) (sym c.areas.ensures.areas) ∙ (sym c.number_of_area.ensures ∙ c.in-Some.is) in
    let one : c.args.addr % 512 + 1 ≤ 512 = omega arith in
    let r = room_at _ _ c.args.addr 1 _ _ (shape_of _ _ _ c.args.self.now.sound) (at_number _ _ _ h) one c.index-block.ensures in
    let there = byte_there _ _ c.args.addr _ c.index-block.result.now (shape_of _ _ _ c.args.self.now.sound) (at_number _ _ _ h) in
    some_byte c.args.self.now.space _ _ _ _ (sym h) (c.index.ensures ∙ (get_or_default c.index-block.result.now.bytes.items (c.args.addr - c.index-block.result.now.start) _ 0 (omega (arith, r.1)) ∙ (rw (← c.index-block.ensures) at (sym there))))

pub returns-in-None : goal.returns-in-None
returns-in-None c = no_byte c.args.self.now.space _ _ (sym c.in-None.is ∙ (c.number_of_area.ensures ∙ ap (λ areas. number_of_area 0 areas (c.args.addr / 512)) c.areas.ensures.areas))
