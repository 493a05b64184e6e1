use Rattle.std.proofs.Common.{◌≡◌, ℕ, ◌+◌, ◌-◌, ◌≤◌, ◌%◌, length, List, take, drop, arith, sym, ap, ◌∙◌}
use Rattle.vax_flat.specs.Port.{View}
use Rattle.vax_undo.specs.Plain.{view_of}
use Rattle.vax_undo.proofs.PlainMemory.{at_owner, below_owner, room, plain_put, shape_of, view_put, part_length}
use Rattle.std.proofs.Math.Path.{fun_ext}
use Rattle.vax_flat.specs.Memory.{byte_at}
use Rattle.vax_undo.specs.Blocks.{low_bytes, memory_of, number_in}
use Rattle.vax_undo.proofs.Blocks.{run_there}
use Rattle.vax_undo.proofs.Numbers.{low-length, number_is, put_is}
use Rattle.vax_undo.proofs.Ranges.{low_small}
use Rattle.vax_undo.proofs.plain.Plain.put_value.Goals as goal

pub index_mut-block-requires : goal.index_mut-block-requires
index_mut-block-requires c = omega (arith, below_owner _ _ _ _ _ c.args.self.now.sound c.requires.owner)

pub overflow_sub-place : goal.overflow_sub-place
overflow_sub-place c = (room _ _ _ _ _ _ _ c.args.self.now.sound c.requires.owner c.requires.one_page c.index_mut-block.ensures.value).0

pub slice_bounds-bytes-end : goal.slice_bounds-bytes-end
slice_bounds-bytes-end c =
    let r = room _ _ _ _ _ _ _ c.args.self.now.sound c.requires.owner c.requires.one_page c.index_mut-block.ensures.value in
    omega (arith, r.1, ap length c.deref_mut.ensures.value)

pub invariant_of-self : goal.invariant_of-self
invariant_of-self c =
    let k : ℕ = c.args.addr - c.index_mut-block.result.now.start in
    let m : ℕ = (k + c.args.n) - k in
    let xs = low_bytes c.args.n c.args.value in
    let size : length xs ≡ c.args.n = low-length c.args.n c.args.value in
    let even : m ≡ c.args.n = omega arith in
    let within : c.args.addr % 512 + length xs ≤ 512 = omega (arith, c.requires.one_page) in
    let r = room _ _ _ _ _ _ _ c.args.self.now.sound c.requires.owner c.requires.one_page c.index_mut-block.ensures.value in
    let after = c.put_number.ensures ∙ ap (λ j. low_bytes j c.args.value) (part_length k m c.args.n c.deref_mut.result.now _ even c.deref_mut.ensures.value r.1) in
    record {
      sound = plain_put c.args.self.now.space c.args.self.now.blocks.items c.args.self.now.owners.items c.args.addr c.args.owner xs c.index_mut-block.result.now
          m c.deref_mut.result.now c.put_number.new.bytes
          c.args.self.now.sound c.requires.owner c.ranges.addr.fits within c.index_mut-block.ensures.value (even ∙ sym size) c.deref_mut.ensures.value after
          (low_small c.args.n c.args.value);
    }

pub returns-clause-stored : goal.returns-clause-stored
returns-clause-stored c =
    let k : ℕ = c.args.addr - c.index_mut-block.result.now.start in
    let m : ℕ = (k + c.args.n) - k in
    let xs = low_bytes c.args.n c.args.value in
    let size : length xs ≡ c.args.n = low-length c.args.n c.args.value in
    let even : m ≡ c.args.n = omega arith in
    let within : c.args.addr % 512 + length xs ≤ 512 = omega (arith, c.requires.one_page) in
    let r = room _ _ _ _ _ _ _ c.args.self.now.sound c.requires.owner c.requires.one_page c.index_mut-block.ensures.value in
    let after = c.put_number.ensures ∙ ap (λ j. low_bytes j c.args.value) (part_length k m c.args.n c.deref_mut.result.now _ even c.deref_mut.ensures.value r.1) in
    let view : (ℕ → ℕ) → View = λ f. record (view_of c.args.self.now) { byte = f } in
    let before = byte_at (memory_of c.args.self.now.space c.args.self.now.blocks.items) in
    ap view (view_put c.args.self.now.space c.args.self.now.blocks.items c.args.self.now.owners.items c.args.addr c.args.owner xs c.index_mut-block.result.now
    m c.deref_mut.result.now c.put_number.new.bytes
    c.args.self.now.sound c.requires.owner c.ranges.addr.fits within c.index_mut-block.ensures.value (even ∙ sym size) c.deref_mut.ensures.value after
    ∙ fun_ext (λ place. sym (put_is before c.args.addr c.args.n c.args.value place)))

pub returns-clause-old : goal.returns-clause-old
returns-clause-old c =
    let k : ℕ = c.args.addr - c.index_mut-block.result.now.start in
    let count : (k + c.args.n) - k ≡ c.args.n = omega arith in
    let byte = (view_of c.args.self.now).byte in
    let there =
    run_there c.args.self.now.space c.args.self.now.blocks.items c.args.addr c.args.n c.args.owner c.index_mut-block.result.now (take ((k + c.args.n) - k) (drop k c.deref_mut.result.now))
    (shape_of _ _ _ c.args.self.now.sound) (at_owner _ _ _ _ _ c.args.self.now.sound c.requires.owner) c.ranges.addr.fits c.requires.one_page c.index_mut-block.ensures.value
    (ap (λ j. take j (drop k c.deref_mut.result.now)) count ∙ ap (λ (xs : List ℕ). take c.args.n (drop k xs)) c.deref_mut.ensures.value) in
    c.number_of-old.ensures.value ∙ (ap number_in there ∙ sym (number_is byte c.args.addr c.args.n))
