-- Where names lead, from where the names lead that they stand for.
use Rattle.std.proofs.Common.{◌≡◌, ℕ, suc, ◌+◌, ◌-◌, ◌%◌, ◌^◌, ◌<◌, ◌≤◌, Bool, true, false, cond, List, length, Option, Some, None, refl, sym, ap, subst, ◌∙◌, arith, ⊎_elim}
use Rattle.std.proofs.lemmas.Bool.{cases_lt}
use Rattle.std.specs.Prelude.{ℤ, IfSome}
use Rattle.std.specs.HashMap.{get_by}
use Rattle.std.specs.Str.{bytes_eq}
use Rattle.std.proofs.lemmas.Slice.Eq.{bytes_eq-Decides}
use Rattle.vax_lex.specs.declared.value.Value.TheVariants.{External}
use Rattle.vax_module.specs.declared.Module.{Module}
use Rattle.vax_link.specs.declared.leads.Leads.{Leads}
use Rattle.vax_link.specs.declared.leads.Led.{Led}
use Rattle.vax_link.specs.declared.names.Chased.{Chased}
use Rattle.vax_link.specs.declared.names.Chased.TheVariants.{Ends, Unknown, Circles}
use Rattle.vax_link.specs.declared.names.Definition.{Definition}
use Rattle.vax_link.specs.declared.names.Names.{Names}
use Rattle.vax_link.specs.Leads.{stepped, moved, IsLed, IsLeads}
use Rattle.vax_link.specs.Names.{Name, Entries, definition_of, plus, chase, comes_back}
use Rattle.vax_link.specs.Tables.{IsTable}
use Rattle.vax_link.proofs.NameLaws.{chase_is, stepped_back, stepped_end, stepped_unknown}

plus_plus : (a b c : ℕ) → plus a (plus b c) ≡ plus (plus a b) c
plus_plus a b c = omega arith

plus_none : (a : ℕ) → a < 2 ^ 32 → plus a 0 ≡ a
plus_none a h = omega (arith, h)

plus_back : (a b c : ℕ) → a < 2 ^ 32 → (c + b) % 2 ^ 32 ≡ 0 → plus (plus a c) b ≡ a
plus_back a b c h e = omega (arith, h, e)

plus_small : (a b : ℕ) → plus a b < 2 ^ 32
plus_small a b = omega arith

moved_moved : (a b : ℕ) (end : Chased) → moved a (moved b end) ≡ moved (plus a b) end
moved_moved a b (Ends owner value offset) = ap (Ends owner value) (plus_plus a b offset)
moved_moved a b (Unknown offset) = ap Unknown (plus_plus a b offset)
moved_moved a b Circles = refl

pub moved_comes_back : (a : ℕ) (end : Chased) → comes_back (moved a end) ≡ comes_back end
moved_comes_back a (Ends owner value offset) = refl
moved_comes_back a (Unknown offset) = refl
moved_comes_back a Circles = refl

module _ (modules : List Module) (entries : Entries) where
  -- so many steps lead from a name to another, and what is added on the way
  pub record Reaches (name : Name) (count : ℕ) (at : Name) (by : ℕ) : Type 0 where
    pub fewer : (left offset : ℕ) → offset < 2 ^ 32 → left ≤ count → stepped modules entries left name offset ≡ Circles
    pub goes : (left offset : ℕ) → offset < 2 ^ 32 → stepped modules entries (left + count) name offset ≡ stepped modules entries left at (plus offset by)

  -- the next step
  abbrev pub GoesOn : Name → Name → ℕ → Type 0
  GoesOn name next more = (left offset : ℕ) → stepped modules entries (suc left) name offset ≡ stepped modules entries left next (plus offset more)

  no_steps : (left : ℕ) (name : Name) (offset : ℕ) → left ≤ 0 → stepped modules entries left name offset ≡ Circles
  no_steps left name offset h = let none : left ≡ 0 = omega (arith, h) in ap (λ k. stepped modules entries k name offset) none ∙ stepped_back modules entries name offset

  pub reaches_begin : (name : Name) → Reaches name 0 name 0
  reaches_begin name = record {
    fewer = λ left offset small h. no_steps left name offset h;
    goes = λ left offset small.
        let same : left + 0 ≡ left = omega arith in
        ap (λ k. stepped modules entries k name offset) same ∙ ap (stepped modules entries left name) (sym (plus_none offset small));
  }

  pub reaches_more : (name at next : Name) (count by more new : ℕ) → Reaches name count at by → GoesOn at next more → new ≡ plus by more → Reaches name (count + 1) next new
  reaches_more name at next count by more new r on is = record { fewer = fewer; goes = goes }
    where
      goes : (left offset : ℕ) → offset < 2 ^ 32 → stepped modules entries (left + (count + 1)) name offset ≡ stepped modules entries left next (plus offset new)
      goes left offset small =
          let same : left + (count + 1) ≡ suc left + count = omega arith in
          ap (λ k. stepped modules entries k name offset) same ∙ r.goes (suc left) offset small ∙ on left (plus offset by)
          ∙ ap (stepped modules entries left next) (sym (plus_plus offset by more) ∙ ap (plus offset) (sym is))

      fewer : (left offset : ℕ) → offset < 2 ^ 32 → left ≤ count + 1 → stepped modules entries left name offset ≡ Circles
      fewer left offset small h = ⊎_elim
          (λ (less : left < count + 1). r.fewer left offset small (omega (arith, less)))
          (λ (more : count + 1 ≤ left).
          let last : left ≡ 0 + (count + 1) = omega (arith, h, more) in
          ap (λ k. stepped modules entries k name offset) last ∙ goes 0 offset small ∙ stepped_back modules entries next (plus offset new))
          (cases_lt left (count + 1))

  short_of : (name at : Name) (count by : ℕ) (led : Led) → Reaches name count at by → IsLed modules entries at led
      → (left offset : ℕ) → offset < 2 ^ 32 → left < count + led.steps → stepped modules entries left name offset ≡ Circles
  short_of name at count by led r l left offset small h = ⊎_elim
      (λ (less : left < count). r.fewer left offset small (omega (arith, less)))
      (λ (more : count ≤ left).
      let same : left ≡ (left - count) + count = omega (arith, more) in
      let few : left - count < led.steps = omega (arith, h, more) in
      ap (λ k. stepped modules entries k name offset) same ∙ r.goes (left - count) offset small ∙ l.fewer (left - count) (plus offset by) (plus_small offset by) few)
      (cases_lt left count)

  -- a name leads where the name leads that it reaches
  pub led_through : (name at : Name) (count by : ℕ) (led new : Led) → Reaches name count at by → IsLed modules entries at led
      → new.steps ≡ count + led.steps → new.end ≡ moved by led.end → IsLed modules entries name new
  led_through name at count by led new r l steps end = record {
    fewer = λ left offset small h. short_of name at count by led r l left offset small (omega (arith, h, steps));
    enough = λ left offset small h.
        let same : left ≡ (left - count) + count = omega (arith, h, steps) in
        let all : led.steps ≤ left - count = omega (arith, h, steps) in
        ap (λ k. stepped modules entries k name offset) same ∙ r.goes (left - count) offset small
        ∙ l.enough (left - count) (plus offset by) (plus_small offset by) all ∙ sym (moved_moved offset by led.end) ∙ ap (moved offset) (sym end);
  }

  -- too many steps, or all of them with no end
  pub led_too_far : (name at : Name) (count by total : ℕ) (led : Led) → Reaches name count at by → IsLed modules entries at led
      → total < count + led.steps → stepped modules entries total name 0 ≡ Circles
  led_too_far name at count by total led r l h = short_of name at count by led r l total 0 (omega arith) h

  pub no_end : (name at : Name) (count by total : ℕ) → Reaches name count at by → total ≤ count → stepped modules entries total name 0 ≡ Circles
  no_end name at count by total r h = r.fewer total 0 (omega arith) h

  -- a name that no module defines, and one that stands for no other
  pub led_unknown : (name : Name) → definition_of name entries ≡ None → IsLed modules entries name (record { end = Unknown 0; steps = 1 })
  led_unknown name none = record {
    fewer = λ left offset small h. no_steps left name offset (omega (arith, h));
    enough = λ left offset small h.
        let same : left ≡ suc (left - 1) = omega (arith, h) in
        ap (λ k. stepped modules entries k name offset) same ∙ stepped_unknown modules entries (left - 1) name offset none ∙ ap Unknown (sym (plus_none offset small));
  }

  pub led_end : (name : Name) (d : Definition) → definition_of name entries ≡ Some d → ((index : ℕ) (more : ℤ) → d.value ≡ External index more → ⊥)
      → IsLed modules entries name (record { end = Ends d.owner d.value 0; steps = 1 })
  led_end name d found other = record {
    fewer = λ left offset small h. no_steps left name offset (omega (arith, h));
    enough = λ left offset small h.
        let same : left ≡ suc (left - 1) = omega (arith, h) in
        ap (λ k. stepped modules entries k name offset) same ∙ stepped_end modules entries (left - 1) name offset d found other
        ∙ ap (Ends d.owner d.value) (sym (plus_none offset small));
  }

  -- where the next name leads
  pub led_next : (name next : Name) (more back : ℕ) (led new : Led) → IsLed modules entries name led → GoesOn name next more → (back + more) % 2 ^ 32 ≡ 0 → 1 < led.steps
      → new.steps ≡ led.steps - 1 → new.end ≡ moved back led.end → IsLed modules entries next new
  led_next name next more back led new l on none some steps end = record {
    fewer = λ left offset small h. before left offset small ∙ l.fewer (suc left) (plus offset back) (plus_small offset back) (omega (arith, h, steps, some));
    enough = λ left offset small h.
        before left offset small ∙ l.enough (suc left) (plus offset back) (plus_small offset back) (omega (arith, h, steps, some))
        ∙ sym (moved_moved offset back led.end) ∙ ap (moved offset) (sym end);
  }
    where
      before : (left offset : ℕ) → offset < 2 ^ 32 → stepped modules entries left next offset ≡ stepped modules entries (suc left) name (plus offset back)
      before left offset small = ap (stepped modules entries left next) (sym (plus_back offset more back small none)) ∙ sym (on left (plus offset back))

  pub chase_led : (name : Name) (led : Led) → IsLed modules entries name led → led.steps ≤ suc (length entries) → chase modules entries name ≡ moved 0 led.end
  chase_led name led l h = chase_is modules entries name ∙ l.enough (suc (length entries)) 0 (omega arith) h

-- ---- what is kept

kept_at : (b : Bool) (modules : List Module) (entries : Entries) (name q : Name) (led : Led) (old : Option Led) → bytes_eq name q ≡ b → IsLed modules entries name led
    → IfSome old (λ l. IsLed modules entries q l) → IfSome (cond b (Some led) old) (λ l. IsLed modules entries q l)
kept_at true modules entries name q led old same l h = let P : Name → Type 0 = λ n. IsLed modules entries n led in subst P ((bytes_eq-Decides name q).0 same) l
kept_at false modules entries name q led old same l h = h

-- one more name
pub kept_more : (old new : Leads) (entries : Entries) (name : Name) (led : Led) → IsLeads old entries → IsLed old.names.modules.now entries name led → new.names ≡ old.names
    → ((q : Name) → get_by (λ k. bytes_eq q k.now) new.led ≡ cond (bytes_eq name q) (Some led) (get_by (λ k. bytes_eq q k.now) old.led)) → IsLeads new entries
kept_more old new entries name led kept l names updates =
    let T : Names → Type 0 = λ n. IsTable n entries in
    let M : Names → Type 0 = λ n. (q : Name) → IfSome (get_by (λ k. bytes_eq q k.now) new.led) (λ x. IsLed n.modules.now entries q x) in
    record {
      table = subst T (sym names) kept.table;
      led = subst M (sym names) (λ q.
          let P : Option Led → Type 0 = λ o. IfSome o (λ x. IsLed old.names.modules.now entries q x) in
          subst P (sym (updates q)) (kept_at (bytes_eq name q) old.names.modules.now entries name q led _ refl l (kept.led q)));
    }
