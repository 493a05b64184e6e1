use Rattle.std.proofs.Common.{◌≡◌, ◌∙◌, false, sym, ap, refl}
use Rattle.vax_link.specs.Names.{comes_back}
use Rattle.vax_link.specs.declared.names.Chased.{Chased}
use Rattle.vax_link.specs.declared.names.Chased.TheVariants.{Ends, Unknown, Circles}
use Rattle.vax_link.proofs.LeadLaws.{chase_led, moved_comes_back}
use Rattle.vax_link.proofs.NameLaws.{chase_is}
use Rattle.vax_link.proofs.leads.Leads.comes_back.Goals as goal

no_circle : (end : Chased) → (end ≡ Circles → ⊥) → comes_back end ≡ false
no_circle (Ends owner value offset) other = refl
no_circle (Unknown offset) other = refl
no_circle Circles other = absurd (other refl)

pub returns-in_default-clause-value : goal.returns-in_default-clause-value
returns-in_default-clause-value c = λ entries kept.
    sym (ap comes_back (chase_is c.args.self.now.names.modules.now entries c.args.name.now ∙ c.in_default.ensures entries kept))

pub returns-in-Circles-clause-value : goal.returns-in-Circles-clause-value
returns-in-Circles-clause-value c = λ entries kept.
    let led = c.in-Some.ensures entries kept in
    let end = chase_led c.args.self.now.names.modules.now entries c.args.name.now c.in-Some.led led.0 led.1 in
    sym (ap comes_back end ∙ moved_comes_back 0 c.in-Some.led.end ∙ ap comes_back c.in-Circles.is)

pub returns-in_default-matches : goal.returns-in_default-matches
returns-in_default-matches c = record {
  names = c.in_ok-remember.ensures.names;
  leads = λ entries kept. c.in_ok-remember.ensures.leads entries kept (c.in-Some.ensures entries kept).0;
  value = λ entries kept.
      let led = c.in-Some.ensures entries kept in
      let end = chase_led c.args.self.now.names.modules.now entries c.args.name.now c.in-Some.led led.0 led.1 in
      sym (ap comes_back end ∙ moved_comes_back 0 c.in-Some.led.end ∙ no_circle c.in-Some.led.end c.in_default-matches.not-Circles);
}
