use Rattle.std.proofs.Common.{arith, ◌≡◌, length}
use Rattle.vax_lines.proofs.WordLaws.{no_word, word_first}
use Rattle.vax_lines.proofs.words.next_word.Goals as goal

pub returns-then-is_empty : goal.returns-then-is_empty
returns-then-is_empty c =
    let none : length c.split_at.result.1.now ≡ 0 = grind arith in
    no_word c.args.text.now c.split_at.result.1.now c.space_len.result c.space_len.ensures.count c.split_at.ensures.back none

pub returns : goal.returns
returns c =
    let full : length c.split_at.result.1.now ≡ 0 → ⊥ = grind arith in
    word_first c.args.text.now c.split_at.result.1.now c.space_len.result c.word_len.result c.split_at-2.result.0.now c.split_at-2.result.1.now c.space_len.ensures.count c.split_at.ensures.back full c.word_len.ensures.count c.split_at-2.ensures.front c.split_at-2.ensures.back
