use Rattle.std.proofs.Common.{◌≡◌, ap, ◌∙◌, length, refl, rules, arith}
use Rattle.vax_outside.proofs.Counting.{counts_then}
use Rattle.vax_flat.specs.Parts.{machine_at}
use Rattle.vax_machine.specs.Console.{memory_from}
use Rattle.vax_command.proofs.RoomLaws.{few_cells, none_asked, not_none, one_filled, one_shown, others_small, room_left, written_all}
use Rattle.vax_machine.proofs.Bringing.{none_read, then_read}
use Rattle.vax_command.proofs.dump.fill.Goals as goal

pub dump-requires : goal.dump-requires
dump-requires g c =
    let few = few_cells c.blanks.blanks.items c.pop_front.new.self.items c.in-Some.blank c.in-Some.ensures.items c.blanks.invariant.small in
    record { few = rw c.as_mut_slice.ensures.value (omega (arith, few)) }

pub blanks-preserved : goal.blanks-preserved
blanks-preserved g c =
    let inv = c.blanks.invariant in
    let before = c.blanks.blanks.items in
    let rest = c.pop_front.new.self.items in
    let blank = c.in-Some.blank in
    let split = c.in-Some.ensures.items in
    record {
      room = room_left before rest blank _ _ _ _ split inv.room c.push_reserved.ensures.len c.push_reserved.ensures.capacity;
      small = others_small before rest blank split inv.small;
      shows = λ place means.
          let memory = (machine_at place).memory in
          let count : c.in-Some.blank.cells.len ≡ length c.dump.new.cells = search rules in
          let cells = c.from.ensures ∙ written_all c.dump.new.cells c.in-Some.blank.cells.items c.in-Some.blank.cells.len count ∙ (c.in_ok-dump.ensures.bytes place (inv.stands place means) ∙ ap (λ items. memory_from memory blank.address (length items)) c.as_mut_slice.ensures.value) in
          rw c.push_reserved.ensures.items (one_filled memory c.blanks.dumps.items _ blank rest before c.from.result split (inv.shows place means) cells);
      cpu = c.in_ok-dump.ensures.cpu ∙ inv.cpu;
      keeps = c.in_ok-dump.ensures.keeps ∙ inv.keeps;
      stands = λ place means. c.in_ok-dump.ensures.means place (inv.stands place means);
      reads = c.in_ok-dump.ensures.reads ∙ inv.reads;
      once =
          then_read _ _ _ _ _ _ (let n = one_shown before rest blank _ split c.as_mut_slice.ensures.value in let f = inv.fewer in omega (arith, n, f)) inv.once c.in_ok-dump.ensures.once;
      fewer = let n = one_shown before rest blank _ split c.as_mut_slice.ensures.value in let f = inv.fewer in omega (arith, n, f);
      unread = λ none. absurd (not_none before rest blank split (inv.unread none).0);
      quiet = c.in_ok-dump.ensures.counts.quiet ∙ inv.quiet;
    }

pub returns-in_err-dump-clause-counts : goal.returns-in_err-dump-clause-counts
returns-in_err-dump-clause-counts g c = counts_then (search rules) c.blanks.invariant.quiet c.in_err-dump.ensures.counts

pub returns-in_err-dump-clause-reads : goal.returns-in_err-dump-clause-reads
returns-in_err-dump-clause-reads g c =
    let inv = c.blanks.invariant in
    let before = c.blanks.blanks.items in
    let rest = c.pop_front.new.self.items in
    let n = one_shown before rest c.in-Some.blank _ c.in-Some.ensures.items c.as_mut_slice.ensures.value in
    let f = inv.fewer in
    record {
      only = c.in_err-dump.ensures.reads ∙ inv.reads;
      once = then_read _ _ _ _ _ _ (omega (arith, n, f)) inv.once c.in_err-dump.ensures.once;
    }

pub returns-clause-reads : goal.returns-clause-reads
returns-clause-reads g c =
    let inv = c.blanks.invariant in
    record { only = inv.reads; once = then_read _ 0 _ _ _ _ (let f = inv.fewer in omega (arith, f)) inv.once (none_read 0 _ _ refl) }

pub blanks-init : goal.blanks-init
blanks-init g c = record {
  room = search rules;
  small = search rules;
  shows = λ place means. search rules;
  cpu = refl;
  keeps = refl;
  stands = λ place means. means;
  reads = refl;
  once = none_read _ _ _ refl;
  fewer = omega arith;
  unread = λ none. (none_asked c.args.room.blanks.items none, refl);
  quiet = refl;
}
