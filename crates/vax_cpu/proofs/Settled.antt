-- From an attempt at a step or at a part to what follows it.
use Rattle.std.proofs.Common.{◌≡◌, ℕ, refl, sym, ap, subst, ◌∙◌}
use Rattle.vax_word.specs.declared.Core.{Core}
use Rattle.vax_flat.specs.declared.Ending.{Ending}
use Rattle.vax_flat.specs.declared.Exception.{Exception}
use Rattle.vax_flat.specs.State.{State}
use Rattle.vax_flat.specs.Accesses.{Accesses, Leaf}
use Rattle.vax_flat.specs.OverPort.{Present}
use Rattle.vax_flat.specs.Step.{whole_delivery}
use Rattle.vax_cpu.specs.declared.attempt.Tried.{Tried}
use Rattle.vax_cpu.specs.declared.attempt.Tried.TheVariants as tried
use Rattle.vax_cpu.specs.Tried.{AtOnce, Delivered, IsFinal, IsTried, Made, led_back, marked_as, put_again, with_registers}

same_registers : (core : Core) (p : Present) → p.state.core ≡ core → p ≡ with_registers core p
same_registers core p e = ap (λ (c : Core). with_registers c p) e

unmoved_registers : (old now : Present) → now ≡ marked_as old now.view → now.state.core ≡ old.state.core
unmoved_registers old now e = ap (λ (p : Present). p.state.core) e

module _ (tree : State → Accesses Leaf) (old now : Present) where
  -- where no instruction was open, the registers at the start are those before
  led_same : (t : Tried) → IsTried tree old t now → now ≡ led_back old.state.core t now
  led_same (tried.Step sent) is = refl
  led_same (tried.Part part) is = refl
  led_same (tried.Absent page) is = refl
  led_same (tried.Ended e) is = same_registers old.state.core now (unmoved_registers old now is.4)
  led_same (tried.Event e) is = refl

  put_same : (core : Core) (t : Tried) → old.state.core ≡ core → IsTried tree old t now → now ≡ put_again core t now
  put_same core (tried.Step sent) same is = refl
  put_same core (tried.Part part) same is = refl
  put_same core (tried.Absent page) same is = same_registers core now (unmoved_registers old now is.1 ∙ same)
  put_same core (tried.Ended e) same is = refl
  put_same core (tried.Event e) same is = refl

  pub first_made : (t : Tried) → IsFinal t → IsTried tree old t now → Made tree old.state.core old t now
  first_made t final is = AtOnce now final is (led_same t is)

  -- a later part
  pub later_ended : (start : Core) (t : Tried) (e : Ending) → t ≡ tried.Ended e → IsTried tree old t now → Made tree start old t (with_registers start now)
  later_ended start t e same is =
      subst (λ (x : Tried). Made tree start old x (with_registers start now)) (sym same) (AtOnce now tt (subst (λ (x : Tried). IsTried tree old x now) same is) refl)

  pub later_made : (start : Core) (t : Tried) → IsFinal t → ((e : Ending) → t ≡ tried.Ended e → ⊥) → IsTried tree old t now → Made tree start old t now
  later_made start (tried.Step sent) final other is = AtOnce now final is refl
  later_made start (tried.Part part) final other is = AtOnce now final is refl
  later_made start (tried.Absent page) final other is = AtOnce now final is refl
  later_made start (tried.Ended e) final other is = absurd (other e refl)
  later_made start (tried.Event e) final other is = absurd final

pub first_delivered : (tree : State → Accesses Leaf) (old now new : Present) (e : Exception) (t : Tried) → IsTried tree old (tried.Event e) now → IsTried (whole_delivery e) now t new → Made tree old.state.core old t new
first_delivered tree old now new e t is of_it =
    let same : now.state.core ≡ old.state.core = unmoved_registers old now is.1 in
    Delivered e now new is (subst (λ (p : Present). IsTried (whole_delivery e) p t new) (same_registers old.state.core now same) of_it) (put_same (whole_delivery e) now new old.state.core t same of_it)

pub later_delivered : (tree : State → Accesses Leaf) (start : Core) (old now mid new : Present) (e : Exception) (t : Tried) → IsTried tree old (tried.Event e) now → IsTried (whole_delivery e) (with_registers start now) t mid → new ≡ put_again now.state.core t mid → Made tree start old t new
later_delivered tree start old now mid new e t is of_it put =
    Delivered e now mid is of_it (subst (λ (c : Core). new ≡ put_again c t mid) (unmoved_registers old now is.1) put)

pub put_absent : (core : Core) (t : Tried) (page : ℕ) (mid : Present) → t ≡ tried.Absent page → with_registers core mid ≡ put_again core t mid
put_absent core t page mid is = ap (λ (x : Tried). put_again core x mid) (sym is)

pub put_other : (core : Core) (t : Tried) (mid : Present) → ((page : ℕ) → t ≡ tried.Absent page → ⊥) → mid ≡ put_again core t mid
put_other core (tried.Step sent) mid other = refl
put_other core (tried.Part part) mid other = refl
put_other core (tried.Absent page) mid other = absurd (other page refl)
put_other core (tried.Ended e) mid other = refl
put_other core (tried.Event e) mid other = refl
