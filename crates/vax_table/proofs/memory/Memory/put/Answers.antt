use Rattle.std.proofs.Common.{refl, ap, ◌∙◌, length}
use Rattle.std.specs.Vec.{with_items}
use Rattle.vax_space.proofs.Tables.{written_back}
use Rattle.vax_table.specs.Entry.{entry_at}
use Rattle.vax_table.proofs.Walks.{sound_put, walked_put, kept_put}
use Rattle.vax_table.proofs.memory.Memory.put.Goals as goal

pub returns-clause-sound : goal.returns-clause-sound
returns-clause-sound c =
    let memory = c.args.self.now in
    let size = c.put_entry.ensures.size ∙ c.deref_mut.ensures.len in
    let back = written_back memory.bytes.len c.put_entry.new.bytes _ size in
    let entries = rw c.deref_mut.ensures.value at c.put_entry.ensures.entries in
    sound_put memory (record memory { bytes = with_items memory.bytes c.put_entry.new.bytes }) c.args.page c.args.place c.args.entry c.requires.sound refl refl
    (ap length back ∙ c.put_entry.ensures.size ∙ ap length c.deref_mut.ensures.value)
    (λ n. ap (λ bytes. entry_at bytes n) back ∙ entries n) c.requires.found c.requires.inside

pub returns-clause-walked : goal.returns-clause-walked
returns-clause-walked c =
    let memory = c.args.self.now in
    let size = c.put_entry.ensures.size ∙ c.deref_mut.ensures.len in
    let back = written_back memory.bytes.len c.put_entry.new.bytes _ size in
    let entries = rw c.deref_mut.ensures.value at c.put_entry.ensures.entries in
    walked_put memory (record memory { bytes = with_items memory.bytes c.put_entry.new.bytes }) c.args.page c.args.place c.args.entry c.requires.sound refl refl
    (ap length back ∙ c.put_entry.ensures.size ∙ ap length c.deref_mut.ensures.value)
    (λ n. ap (λ bytes. entry_at bytes n) back ∙ entries n) c.requires.found c.requires.inside

pub returns-clause-kept : goal.returns-clause-kept
returns-clause-kept c =
    let memory = c.args.self.now in
    let size = c.put_entry.ensures.size ∙ c.deref_mut.ensures.len in
    let back = written_back memory.bytes.len c.put_entry.new.bytes _ size in
    let entries = rw c.deref_mut.ensures.value at c.put_entry.ensures.entries in
    kept_put memory (record memory { bytes = with_items memory.bytes c.put_entry.new.bytes }) c.args.page c.args.place c.args.entry c.requires.sound refl refl
    (ap length back ∙ c.put_entry.ensures.size ∙ ap length c.deref_mut.ensures.value)
    (λ n. ap (λ bytes. entry_at bytes n) back ∙ entries n) c.requires.found c.requires.inside
