use Rattle.std.proofs.Common.{◌≡◌, ◌++◌, All, map, length}
use Rattle.std.specs.Vec.Iter.{into_iter_items, into_iter_len}
use Rattle.vax_asm_check.specs.Messages.{messages}
use Rattle.vax_asm_check.specs.View.{message_seen}
use Rattle.vax_asm_errors.specs.Errors.{IsPlain}
use Rattle.vax_asm_errors.proofs.notes.notes_of.Given as goal

abbrev pub invariant-loop-message : goal.invariant-loop-message
invariant-loop-message l = record {
  told : map (λ n. message_seen n.message) l.all.items ++ map message_seen (into_iter_items l.message-iterator) ≡ messages l.source.dialect l.source.text.now;
  counted : into_iter_len l.message-iterator ≡ length (into_iter_items l.message-iterator);
  plain : All (λ n. IsPlain n.said) l.all.items;
}
