use Rattle.std.proofs.Common.{ℕ, Bool, ap, sym, ◌∙◌}
use Rattle.std.specs.Prelude.{is_some}
use Rattle.vax_flat.specs.Port.{View}
use Rattle.vax_undo.specs.Blocks.{number_of_area}
use Rattle.vax_undo.specs.Plain.{view_of, with_page}
use Rattle.vax_undo.proofs.PlainMemory.{resident_set, plain_set, area_some, no_area, resident_kept}
use Rattle.vax_undo.proofs.plain.Plain.show.Goals as goal

pub invariant_of-self : goal.invariant_of-self
invariant_of-self c =
    let e = c.number_of_area-number.ensures ∙ ap (λ areas. number_of_area 0 areas c.args.page) c.areas.ensures.areas in
    record { sound = plain_set c.args.self.now.space _ _ c.args.page c.in-Some.place _ c.args.self.now.sound c.in-Some.ensures.bound c.in-Some.ensures.place (λ n h. sym e ∙ h) }

pub returns-in-Some : goal.returns-in-Some
returns-in-Some c =
    let e = c.number_of_area-number.ensures ∙ ap (λ areas. number_of_area 0 areas c.args.page) c.areas.ensures.areas in
    let view : (ℕ → Bool) → View = λ r. record (view_of c.args.self.now) { resident = r } in
    ap view (resident_set c.args.self.now.owners.items c.args.page c.in-Some.place c.number_of_area-number.result c.args.self.now.sound.size c.in-Some.ensures.bound c.in-Some.ensures.place)
    ∙ ap (with_page (view_of c.args.self.now) c.args.page) (ap is_some e ∙ area_some 0 c.args.self.now.space c.args.page)

pub returns-in_default : goal.returns-in_default
returns-in_default c =
    let view : (ℕ → Bool) → View = λ r. record (view_of c.args.self.now) { resident = r } in
    ap view (resident_kept c.args.self.now.owners.items c.args.page _ c.in_default.ensures.place (no_area c.args.self.now.space c.args.page c.areas.ensures.sound c.in_default.ensures.place))
