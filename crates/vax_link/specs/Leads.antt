-- Where names lead, by steps, and what the code keeps of it.
use Rattle.std.specs.Prelude.{◌≡◌, ℕ, zero, suc, ◌<◌, ◌≤◌, ◌^◌, List, length, Option, Some, None, IfSome}
use Rattle.std.specs.HashMap.{get_by}
use Rattle.std.specs.Str.{bytes_eq}
use Rattle.vax_module.specs.declared.Module.{Module}
use Rattle.vax_link.specs.declared.leads.Leads.{Leads}
use Rattle.vax_link.specs.declared.leads.Led.{Led}
use Rattle.vax_link.specs.declared.leads.Step.{Step}
use Rattle.vax_link.specs.declared.leads.Step.TheVariants.{Known, On}
use Rattle.vax_link.specs.declared.names.Chased.{Chased}
use Rattle.vax_link.specs.declared.names.Chased.TheVariants.{Ends, Unknown, Circles}
use Rattle.vax_link.specs.Names.{Name, Entries, definition_of, leads, external_name, plus}
use Rattle.vax_link.specs.Tables.{IsTable}

-- where a name leads in so many steps, whatever names it meets
unfoldable pub stepped : List Module → Entries → ℕ → Name → ℕ → Chased
stepped modules entries zero name offset = Circles
stepped modules entries (suc left) name offset =
    leads (definition_of name entries) offset (λ owner index more. stepped modules entries left (external_name modules owner index) (plus offset more))

-- the end with more added to it
abbrev pub moved : ℕ → Chased → Chased
moved by (Ends owner value offset) = Ends owner value (plus by offset)
moved by (Unknown offset) = Unknown (plus by offset)
moved by Circles = Circles

-- A name leads to an end in so many steps, and in fewer it doesn't reach it.
pub record IsLed (modules : List Module) (entries : Entries) (name : Name) (led : Led) : Type 0 where
  pub fewer : (left offset : ℕ) → offset < 2 ^ 32 → left < led.steps → stepped modules entries left name offset ≡ Circles
  pub enough : (left offset : ℕ) → offset < 2 ^ 32 → led.steps ≤ left → stepped modules entries left name offset ≡ moved offset led.end

-- What is known of a name's end, or the name that it stands for and what is added to that.
abbrev pub IsStep : List Module → Entries → Name → Step → Type 0
IsStep modules entries name (Known led) = IsLed modules entries name led
IsStep modules entries name (On next more) =
    (left offset : ℕ) → stepped modules entries (suc left) name offset ≡ stepped modules entries left next.now (plus offset more)

-- Where a name leads, or it leads to no end in as many steps as there are definitions and one more.
abbrev pub IsLead : List Module → Entries → Name → Option Led → Type 0
IsLead modules entries name None = stepped modules entries (suc (length entries)) name 0 ≡ Circles
IsLead modules entries name (Some led) = IsLed modules entries name led × (led.steps ≤ suc (length entries))

-- what is kept of these names
pub record IsLeads (kept : Leads) (entries : Entries) : Type 0 where
  pub table : IsTable kept.names entries
  pub led : (name : Name) → IfSome (get_by (λ k. bytes_eq name k.now) kept.led) (λ l. IsLed kept.names.modules.now entries name l)
