use Rattle.std.proofs.Common.{◌∙◌}
use Rattle.vax_asm_names.specs.ByName.{by_name}
use Rattle.vax_asm_names.proofs.Changing.{numbered_more, numbered_as_before}
use Rattle.vax_asm_names.proofs.Undoing.{block_in_range, is_sound, numbers_in_range}
use Rattle.vax_asm_names.proofs.types.Content.add.Goals as goal

pub returns-in_err-add_last-clause-sound : goal.returns-in_err-add_last-clause-sound
returns-in_err-add_last-clause-sound c = λ sound.
    let old = c.args.self.now in
    is_sound (record old { names = c.add_last.new.names })
    (numbered_as_before (by_name old.numbers) old.names.items c.add_last.new.names.items c.in_err-add_last.ensures.kept (numbers_in_range old sound)) (block_in_range old sound)

pub returns-in_err-put-clause-sound : goal.returns-in_err-put-clause-sound
returns-in_err-put-clause-sound c = λ sound.
    let old = c.args.self.now in
    is_sound (record old { numbers = c.put.new.map; names = c.add_last.new.names })
    (numbered_more c.put.result (by_name old.numbers) (by_name c.put.new.map) c.args.text.now old.names.items c.add_last.new.names.items _ c.len-number.result
    (c.len-number.ensures ∙ old.names.ok.0) c.in_ok-add_last.ensures.added c.put.ensures.put c.put.ensures.kept (numbers_in_range old sound)) (block_in_range old sound)

pub returns-clause-sound : goal.returns-clause-sound
returns-clause-sound c = λ sound.
    let old = c.args.self.now in
    is_sound (record old { numbers = c.put.new.map; names = c.add_last.new.names })
    (numbered_more c.put.result (by_name old.numbers) (by_name c.put.new.map) c.args.text.now old.names.items c.add_last.new.names.items _ c.len-number.result
    (c.len-number.ensures ∙ old.names.ok.0) c.in_ok-add_last.ensures.added c.put.ensures.put c.put.ensures.kept (numbers_in_range old sound)) (block_in_range old sound)
