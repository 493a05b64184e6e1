use Rattle.std.proofs.Common.{◌≡◌, ◌++◌, ◌∷◌, [], List, length, rules, ap, subst, sym, ◌∙◌, arith, map}
use Rattle.std.proofs.lemmas.List.{length_push}
use Rattle.std.proofs.lemmas.List.Elements.{All-push, All-tail}
use Rattle.std.specs.List.{All}
use Rattle.vax_command.proofs.LoadLaws.{pushed}
use Rattle.vax_program.specs.Program.{linked_of}
use Rattle.vax_program.specs.View.{parts_seen}
use Rattle.vax_program.specs.declared.types.Parts.{Parts}
use Rattle.vax_top.specs.Together.{all_linked}
use Rattle.vax_together.specs.Starting.{IsUser}
use Rattle.vax_top.specs.TogetherView.{IsForUser}
use Rattle.vax_top.proofs.TogetherLaws.{ahead, ahead_nil, err_loads, one_more, one_refused}
use Rattle.vax_top.proofs.together.link_all.Goals as goal

pub loop-parts-init : goal.loop-parts-init
loop-parts-init c = record {
  images = ahead_nil c.new-all.result.items (all_linked (map parts_seen c.from_vec-left.result.items)) c.new-all.ensures.items ∙ ap (λ (l : List Parts). all_linked (map parts_seen l)) c.from_vec-left.ensures.items;
  left = rw c.from_vec-left.ensures.items c.requires;
  sound = rw c.new-all.ensures.items (search rules);
  count = rw (c.new-all.ensures.items, c.from_vec-left.ensures.items) (omega arith);
}

pub returns-in_err-image-clause-images : goal.returns-in_err-image-clause-images
returns-in_err-image-clause-images c =
    let inv = c.loop-parts.invariant in
    let front = c.loop-parts.all.items in
    err_loads (λ v. v.items) c.in_err-image.field-0.0 c.from_residual.result _ c.from_residual.ensures.1
    (one_refused front (linked_of (parts_seen c.in-Some.parts)) (all_linked (map parts_seen c.pop_front.new.self.items)) _ c.in_err-image.field-0.0
    (ap (λ (l : List Parts). ahead front (all_linked (map parts_seen l))) (sym c.in-Some.ensures.items) ∙ inv.images) c.in_err-image.ensures.image)

pub loop-parts-preserved : goal.loop-parts-preserved
loop-parts-preserved c =
    let inv = c.loop-parts.invariant in
    let front = c.loop-parts.all.items in
    let rest = c.pop_front.new.self.items in
    let grown : c.push.new.self.items ≡ front ++ c.in_ok-image.image ∷ [] = pushed _ front c.push.new.self.items c.in_ok-image.image c.push.ensures.items c.if-is_err.ensures.negation in
    record {
      images = one_more front c.push.new.self.items c.in_ok-image.image (linked_of (parts_seen c.in-Some.parts)) (all_linked (map parts_seen rest)) _ grown c.in_ok-image.ensures.image
          (ap (λ (l : List Parts). ahead front (all_linked (map parts_seen l))) (sym c.in-Some.ensures.items) ∙ inv.images);
      left = All-tail IsForUser c.in-Some.parts rest (subst (λ (l : List Parts). All IsForUser l) c.in-Some.ensures.items inv.left);
      sound = rw grown (All-push IsUser front c.in_ok-image.image inv.sound c.in_ok-image.ensures.sound);
      count = omega (arith, inv.count, ap length c.in-Some.ensures.items, ap length grown, length_push front c.in_ok-image.image);
    }
