use Rattle.std.proofs.Common.{◌≡◌, ◌+◌, ◌-◌, ◌++◌, ◌∷◌, [], rules, refl, ap, sym, ◌∙◌, arith, drop, take, map}
use Rattle.std.proofs.lemmas.List.{length_push, map_push}
use Rattle.std.proofs.lemmas.List.Elements.{All-push}
use Rattle.vax_image.specs.declared.Base.TheVariants as base
use Rattle.vax_command.specs.ReadingView.{texts}
use Rattle.vax_command.proofs.LoadLaws.{pushed}
use Rattle.vax_program.specs.Program.{parts_of}
use Rattle.vax_program.specs.View.{parts_seen}
use Rattle.vax_top.specs.Together.{all_parts}
use Rattle.vax_top.specs.TogetherView.{IsForUser}
use Rattle.vax_top.proofs.TogetherLaws.{ahead, ahead_nil, err_loads, one_more, one_refused, parts_at}
use Rattle.vax_top.proofs.together.read_all.Goals as goal

pub loop-place-init : goal.loop-place-init
loop-place-init c = record {
  parts = ahead_nil (map parts_seen c.new-all.result.items) (all_parts c.args.dialect 1 (texts c.args.texts.now)) (ap (map parts_seen) c.new-all.ensures.items);
  sound = search rules;
  count = search rules;
}

pub loop-place-preserved : goal.loop-place-preserved
loop-place-preserved c =
    let inv = c.loop-place.invariant in
    let here = c.loop-place.place in
    let xs = c.args.texts.now in
    let front = map parts_seen c.loop-place.all.items in
    let one : here + 1 - here ≡ 1 = omega arith in
    let grown : c.push.new.self.items ≡ c.loop-place.all.items ++ c.in_ok-parts.parts ∷ [] = pushed _ c.loop-place.all.items c.push.new.self.items c.in_ok-parts.parts c.push.ensures.items c.if-is_err.ensures.negation in
    record {
      parts = one_more front (map parts_seen c.push.new.self.items) (parts_seen c.in_ok-parts.parts) (parts_of c.args.dialect base.User (here + 1) (texts (take 1 (drop here xs)))) (all_parts c.args.dialect (here + 1 + 1) (texts (drop (here + 1) xs))) _
          (ap (map parts_seen) grown ∙ map_push parts_seen c.loop-place.all.items c.in_ok-parts.parts) (rw one at c.in_ok-parts.ensures.parts)
          (ap (ahead front) (sym (parts_at c.args.dialect (here + 1) here xs (take 1 (drop here xs)) c.loop-place-test.true refl)) ∙ inv.parts);
      sound = rw grown (All-push IsForUser c.loop-place.all.items c.in_ok-parts.parts inv.sound c.in_ok-parts.ensures.sound);
      count = rw (grown, length_push) (omega arith);
    }

pub returns-in_err-parts-clause-parts : goal.returns-in_err-parts-clause-parts
returns-in_err-parts-clause-parts c =
    let inv = c.loop-place.invariant in
    let here = c.loop-place.place in
    let xs = c.args.texts.now in
    let front = map parts_seen c.loop-place.all.items in
    let one : here + 1 - here ≡ 1 = omega arith in
    err_loads (λ v. map parts_seen v.items) c.in_err-parts.field-0.0 c.from_residual.result _ c.from_residual.ensures.1
    (one_refused front (parts_of c.args.dialect base.User (here + 1) (texts (take 1 (drop here xs)))) (all_parts c.args.dialect (here + 1 + 1) (texts (drop (here + 1) xs))) _ c.in_err-parts.field-0.0
    (ap (ahead front) (sym (parts_at c.args.dialect (here + 1) here xs (take 1 (drop here xs)) c.loop-place-test.true refl)) ∙ inv.parts)
    (rw one at c.in_err-parts.ensures.parts))
