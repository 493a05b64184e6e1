use Rattle.std.proofs.Common.{arith, take, ◌≡◌, length, sym, ap, ◌∙◌}
use Rattle.vax_undo.specs.Blocks.{low_bytes}
use Rattle.vax_undo.proofs.Numbers.{sets_1, sets_2, sets_4, sets_8, low_is, low_take}
use Rattle.vax_undo.proofs.block.put_number.Goals as goal

pub returns-in-1 : goal.returns-in-1
returns-in-1 c =
    let n : length c.args.bytes.now ≡ 1 = omega arith in
    rw (n, c.to_le_bytes-all.ensures) (sets_1 _ _ n ∙ sym (low_is 1 c.args.value))

pub returns-in-2 : goal.returns-in-2
returns-in-2 c =
    let n : length c.args.bytes.now ≡ 2 = omega arith in
    rw (n, c.to_le_bytes-all.ensures) (sets_2 _ _ _ n ∙ sym (low_is 2 c.args.value))

pub returns-in-4 : goal.returns-in-4
returns-in-4 c =
    let n : length c.args.bytes.now ≡ 4 = omega arith in
    rw (n, c.to_le_bytes-all.ensures) (sets_4 _ _ _ _ _ n ∙ sym (low_is 4 c.args.value))

pub returns-in-8 : goal.returns-in-8
returns-in-8 c =
    let n : length c.args.bytes.now ≡ 8 = omega arith in
    rw (n, c.to_le_bytes-all.ensures) (sets_8 _ _ _ _ _ _ _ _ _ n ∙ sym (low_is 8 c.args.value))

pub returns-in_default : goal.returns-in_default
returns-in_default c =
    let e : c.to_le_bytes-all.result ≡ low_bytes 8 c.args.value = c.to_le_bytes-all.ensures ∙ sym (low_is 8 c.args.value) in
    c.copy_from_slice.ensures.after ∙ (ap (take (length c.args.bytes.now)) e ∙ low_take _ 8 c.args.value c.requires.few)
