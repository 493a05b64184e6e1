use Rattle.std.proofs.Common.{arith, rules, ◌≡◌, ◌<◌, ◌+◌, ◌*◌, ◌%◌, ◌^◌, ◌∙◌, ◌++◌, List, ℕ, length, drop, min, slice_index, ap, refl, subst, sym}
use Rattle.std.proofs.lemmas.Result.{on_err_weaker, on_ok_weaker}
use Rattle.vax_outside.specs.Channels.{Grew, GrewByPrefix, only}
use Rattle.vax_outside.specs.declared.traits.Chan.TheVariants.{Out}
use Rattle.vax_outside.proofs.Counting.{counts_then}
use Rattle.vax_outside.proofs.Growth.{on_err}
use Rattle.vax_disasm.specs.Listed.{listed}
use Rattle.vax_listing.specs.Listing.{area_lines, line, lines_from, text_of}
use Rattle.vax_listing.proofs.Walking.{first_line, no_lines}
use Rattle.vax_listing.proofs.Writing.{begun, cut_short, finished, held_more}
use Rattle.vax_listing.proofs.write_area.Goals as goal

pub loop-rest-init : goal.loop-rest-init
unfolding area_lines
loop-rest-init g c =
    let at : c.args.area.now.first * 512 % 4294967296 ≡ 512 * c.args.area.now.first % 2 ^ 32 = omega arith in
    record {
      quiet = refl;
      between = begun (area_lines c.args.area.now) c.new-lines.result.items _ (g.K.Sink.contents c.args.sink.now) c.new-lines.ensures
          (ap (λ (n : ℕ). lines_from 0 n c.as_slice-rest.result.now) at ∙ ap (λ (z : List ℕ). lines_from 0 (512 * c.args.area.now.first % 2 ^ 32) z) c.as_slice-rest.ensures);
    }

pub returns-in_err-make_room-clause-prefix : goal.returns-in_err-make_room-clause-prefix
returns-in_err-make_room-clause-prefix g c =
    on_err c.from_residual.result (cut_short _ _ _ _ _ _ c.loop-rest.invariant.between c.in_err-make_room.ensures.prefix)

pub loop-rest-preserved : goal.loop-rest-preserved
loop-rest-preserved g c =
    let bytes : List ℕ = c.loop-rest.rest.now in
    let some : 0 < length bytes = grind arith in
    let count : c.min.result ≡ min c.push_first-count.result (length bytes) = c.min.ensures ∙ ap (λ (n : ℕ). min n (length bytes)) c.from.ensures in
    let back : c.split_at.result.1.now ≡ drop (min c.push_first-count.result (length bytes)) bytes = c.split_at.ensures.back ∙ ap (λ (n : ℕ). drop n bytes) count in
    let next : c.push_first-count.result ≡ c.from-addr.result = sym c.from-addr.ensures in
    let fits : c.loop-rest.addr < 2 ^ 32 = omega arith in
    let first : lines_from 0 c.loop-rest.addr bytes ≡ line c.loop-rest.addr (text_of (slice_index bytes 0) (listed bytes c.loop-rest.addr)) ++ lines_from 0 ((c.loop-rest.addr + c.from-addr.result) % 2 ^ 32) c.split_at.result.1.now =
    first_line bytes c.loop-rest.addr c.push_first-count.result some fits c.push_first-count.ensures.count
    ∙ (ap (λ (n : ℕ). line c.loop-rest.addr (text_of (slice_index bytes 0) (listed bytes c.loop-rest.addr)) ++ lines_from 0 ((c.loop-rest.addr + n) % 2 ^ 32) (drop (min c.push_first-count.result (length bytes)) bytes)) next
    ∙ ap (λ (z : List ℕ). line c.loop-rest.addr (text_of (slice_index bytes 0) (listed bytes c.loop-rest.addr)) ++ lines_from 0 ((c.loop-rest.addr + c.from-addr.result) % 2 ^ 32) z) (sym back)) in
    record {
      quiet = c.in_ok-make_room.ensures.counts.quiet ∙ c.loop-rest.invariant.quiet;
      between = held_more _ _ _ _ _ _ _ _ c.push_first-count.ensures.line first (c.in_ok-make_room.ensures.ok _ _ _ c.loop-rest.invariant.between);
    }

pub returns-clause-ok : goal.returns-clause-ok
returns-clause-ok g c =
    let none : length c.loop-rest.rest.now ≡ 0 = grind arith in
    on_ok_weaker c.put_all.result (λ grew. finished _ _ _ _ _ _ (no_lines c.loop-rest.addr c.loop-rest.rest.now none) c.loop-rest.invariant.between
    (subst (λ (z : List ℕ). Grew (g.K.Sink.contents c.loop-rest.sink) (g.K.Sink.contents c.put_all.new.sink) (only Out z)) c.deref.ensures.0 grew)) c.put_all.ensures.ok

pub returns-clause-prefix : goal.returns-clause-prefix
returns-clause-prefix g c =
    on_err_weaker c.put_all.result (λ grew. cut_short _ _ _ _ _ _ c.loop-rest.invariant.between
    (subst (λ (z : List ℕ). GrewByPrefix (g.K.Sink.contents c.loop-rest.sink) (g.K.Sink.contents c.put_all.new.sink) (only Out z)) c.deref.ensures.0 grew)) c.put_all.ensures.prefix

pub returns-in_err-make_room-clause-counts : goal.returns-in_err-make_room-clause-counts
returns-in_err-make_room-clause-counts g c = counts_then (search rules) c.loop-rest.invariant.quiet c.in_err-make_room.ensures.counts

pub returns-clause-counts : goal.returns-clause-counts
returns-clause-counts g c = counts_then refl c.loop-rest.invariant.quiet c.put_all.ensures.counts
