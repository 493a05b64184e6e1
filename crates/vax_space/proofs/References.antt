-- Laws of references: a range is accessible exactly where it meets no violation, and a violation is the first.
use Rattle.std.proofs.Common.{◌≡◌, ℕ, zero, suc, ◌+◌, ◌-◌, ◌%◌, ◌^◌, ◌<◌, ◌≤◌, true, false, Option, Some, None, refl, ◌∙◌, ap, sym, arith, zero-add, min, inl, inr, ◌↔◌}
use Rattle.std.proofs.lemmas.Bool.{cases_Bool, false≢true}
use Rattle.std.proofs.lemmas.Option.{none-some, same_Some}
use Rattle.vax_space.specs.declared.Access.{Access}
use Rattle.vax_space.specs.declared.Access.TheVariants.{Read, Write}
use Rattle.vax_space.specs.declared.Area.{Area}
use Rattle.vax_space.specs.declared.Violation.{Violation}
use Rattle.std.specs.Prelude.{List}
use Rattle.vax_space.specs.Areas.{prot_of}
use Rattle.vax_space.specs.Reference.{page_of, byte_after, may_access, permitted, violation, violation_at, IsAccessible, IsFirstViolation, WritableIsReadable}
use Rattle.vax_space.proofs.Protections.{allows_read}

-- the bytes of a range, one after another
after_none : (addr : ℕ) → addr < 2 ^ 32 → byte_after addr 0 ≡ addr
after_none addr h = omega arith

pub after_more : (addr k : ℕ) → byte_after (byte_after addr 1) k ≡ byte_after addr (suc k)
after_more addr k = omega arith

after_fits : (addr k : ℕ) → byte_after addr k < 2 ^ 32
after_fits addr k = omega arith

violation_bad : (areas : List Area) (addr len mode : ℕ) (access : Access) → may_access areas (page_of addr) mode access ≡ false → violation areas addr (suc len) mode access ≡ Some (violation_at areas addr access)
unfolding violation
violation_bad areas addr len mode access h = rw h refl

violation_good : (areas : List Area) (addr len mode : ℕ) (access : Access) → may_access areas (page_of addr) mode access ≡ true → violation areas addr (suc len) mode access ≡ violation areas (byte_after addr 1) len mode access
unfolding violation
violation_good areas addr len mode access h = rw h refl

violation_none : (areas : List Area) (addr mode : ℕ) (access : Access) → violation areas addr 0 mode access ≡ None
unfolding violation
violation_none areas addr mode access = refl

-- within a page one test serves for all its bytes
pub violation_within : (areas : List Area) (addr step rest mode : ℕ) (access : Access) → addr < 2 ^ 32 → step ≤ 512 - addr % 512 → may_access areas (page_of addr) mode access ≡ true → violation areas addr (step + rest) mode access ≡ violation areas (byte_after addr step) rest mode access
violation_within areas addr zero rest mode access fits few good =
    rw (after_none addr fits, zero-add rest) refl
violation_within areas addr (suc zero) rest mode access fits few good =
    let e : 1 + rest ≡ suc rest = omega arith in rw e (violation_good areas addr rest mode access good)
violation_within areas addr (suc (suc step)) rest mode access fits few good =
    let e : suc (suc step) + rest ≡ suc (suc step + rest) = omega arith in
    let next : byte_after addr 1 ≡ addr + 1 = omega arith in
    let same : page_of (byte_after addr 1) ≡ page_of addr = omega arith in
    let left : suc step ≤ 512 - byte_after addr 1 % 512 = omega arith in
    rw e (violation_good areas addr (suc step + rest) mode access good
    ∙ violation_within areas (byte_after addr 1) (suc step) rest mode access (after_fits addr 1) left (rw same good)
    ∙ ap (λ a. violation areas a rest mode access) (after_more addr (suc step)))

later_before : (areas : List Area) (addr count mode : ℕ) (access : Access) → addr < 2 ^ 32 → may_access areas (page_of addr) mode access ≡ true → ((k : ℕ) → k < count → may_access areas (page_of (byte_after (byte_after addr 1) k)) mode access ≡ true) → (k : ℕ) → k < suc count → may_access areas (page_of (byte_after addr k)) mode access ≡ true
later_before areas addr count mode access fits good before zero h = rw (after_none addr fits) good
later_before areas addr count mode access fits good before (suc k) h =
    rw (← after_more addr k) (before k (omega arith))

first_later : (areas : List Area) (addr len mode : ℕ) (access : Access) (found : Violation) → addr < 2 ^ 32 → may_access areas (page_of addr) mode access ≡ true → IsFirstViolation areas (byte_after addr 1) len mode access found → IsFirstViolation areas addr (suc len) mode access found
first_later areas addr len mode access found fits good first =
    let e = after_more addr first.count in
    record {
      count = suc first.count;
      within = omega (arith, first.within);
      is = rw (← e) first.is;
      here = rw (← e) first.here;
      before = later_before areas addr first.count mode access fits good first.before;
    }

first_here : (areas : List Area) (addr len mode : ℕ) (access : Access) (found : Violation) → addr < 2 ^ 32 → may_access areas (page_of addr) mode access ≡ false → found ≡ violation_at areas addr access → IsFirstViolation areas addr (suc len) mode access found
first_here areas addr len mode access found fits bad is =
    let e = after_none addr fits in
    record {
      count = 0;
      within = omega arith;
      is = rw e is;
      here = rw e bad;
      before = λ k h. absurd (omega (arith, h));
    }

pub violation_first : (areas : List Area) (addr len mode : ℕ) (access : Access) (found : Violation) → addr < 2 ^ 32 → violation areas addr len mode access ≡ Some found → IsFirstViolation areas addr len mode access found
violation_first areas addr zero mode access found fits h = absurd (none-some found (sym (violation_none areas addr mode access) ∙ h))
violation_first areas addr (suc len) mode access found fits h =
    elim (cases_Bool (may_access areas (page_of addr) mode access)) [
      | inl good ↦ first_later areas addr len mode access found fits good
          (violation_first areas (byte_after addr 1) len mode access found (after_fits addr 1) (sym (violation_good areas addr len mode access good) ∙ h))
      | inr bad ↦ first_here areas addr len mode access found fits bad
          (sym (same_Some _ _ (sym (violation_bad areas addr len mode access bad) ∙ h)))
    ]

-- where no violation is met, every byte may be accessed
pub accessible_from : (areas : List Area) (addr len mode : ℕ) (access : Access) → addr < 2 ^ 32 → violation areas addr len mode access ≡ None → (k : ℕ) → k < len → may_access areas (page_of (byte_after addr k)) mode access ≡ true
accessible_from areas addr zero mode access fits h = λ k below. absurd (omega arith)
accessible_from areas addr (suc len) mode access fits h =
    elim (cases_Bool (may_access areas (page_of addr) mode access)) [
      | inl good ↦ later_before areas addr len mode access fits good
          (accessible_from areas (byte_after addr 1) len mode access (after_fits addr 1) (sym (violation_good areas addr len mode access good) ∙ h))
      | inr bad ↦ absurd (none-some _ (sym h ∙ violation_bad areas addr len mode access bad))
    ]

pub accessible_is : (areas : List Area) (addr len mode : ℕ) (access : Access) → addr < 2 ^ 32 → violation areas addr len mode access ≡ None → IsAccessible areas addr len mode access
accessible_is areas addr len mode access fits h = record { bytes = accessible_from areas addr len mode access fits h }

pub inaccessible : (areas : List Area) (addr len mode : ℕ) (access : Access) (found : Violation) → addr < 2 ^ 32 → violation areas addr len mode access ≡ Some found → IsAccessible areas addr len mode access → ⊥
inaccessible areas addr len mode access found fits h accessible =
    let first = violation_first areas addr len mode access found fits h in
    false≢true (sym first.here ∙ accessible.bytes first.count first.within)

none_from : (areas : List Area) (addr len mode : ℕ) (access : Access) → addr < 2 ^ 32 → (v : Option Violation) → violation areas addr len mode access ≡ v → IsAccessible areas addr len mode access → violation areas addr len mode access ≡ None
none_from areas addr len mode access fits None h accessible = h
none_from areas addr len mode access fits (Some found) h accessible = absurd (inaccessible areas addr len mode access found fits h accessible)

pub none_is_accessible : (areas : List Area) (addr len mode : ℕ) (access : Access) → addr < 2 ^ 32 → (violation areas addr len mode access ≡ None) ↔ IsAccessible areas addr len mode access
none_is_accessible areas addr len mode access fits =
    (accessible_is areas addr len mode access fits, none_from areas addr len mode access fits _ refl)

permitted_read : (prot : Option ℕ) (mode : ℕ) → permitted prot mode Write ≡ true → permitted prot mode Read ≡ true
permitted_read None mode h = h
permitted_read (Some code) mode h = allows_read code mode h

may_read : (areas : List Area) (page mode : ℕ) → may_access areas page mode Write ≡ true → may_access areas page mode Read ≡ true
unfolding may_access
may_read areas page mode h = permitted_read (prot_of areas page) mode h

-- what may be written may be read
pub writable_is_readable : (areas : List Area) → WritableIsReadable areas
writable_is_readable areas addr zero mode h = violation_none areas addr mode Read
writable_is_readable areas addr (suc len) mode h =
    elim (cases_Bool (may_access areas (page_of addr) mode Write)) [
      | inl good ↦ violation_good areas addr len mode Read (may_read areas (page_of addr) mode good)
          ∙ writable_is_readable areas (byte_after addr 1) len mode (sym (violation_good areas addr len mode Write good) ∙ h)
      | inr bad ↦ absurd (none-some _ (sym h ∙ violation_bad areas addr len mode Write bad))
    ]

pub violation_there : (areas : List Area) (addr len mode : ℕ) (access : Access) → 0 < len → may_access areas (page_of addr) mode access ≡ false → violation areas addr len mode access ≡ Some (violation_at areas addr access)
violation_there areas addr zero mode access some bad = absurd (omega arith)
violation_there areas addr (suc len) mode access some bad = violation_bad areas addr len mode access bad

pub violation_empty : (areas : List Area) (addr len mode : ℕ) (access : Access) → len ≤ 0 → violation areas addr len mode access ≡ None
violation_empty areas addr zero mode access none = violation_none areas addr mode access
violation_empty areas addr (suc len) mode access none = absurd (omega arith)

-- one step over a page, or over what is left of the range
pub violation_step : (areas : List Area) (addr len step mode : ℕ) (access : Access) (all : Option Violation) → addr < 2 ^ 32 → step ≡ min len (512 - addr % 512) → may_access areas (page_of addr) mode access ≡ true → violation areas addr len mode access ≡ all → violation areas (byte_after addr step) (len - step) mode access ≡ all
violation_step areas addr len step mode access all fits e good h =
    let parts : len ≡ step + (len - step) = omega arith in
    let few : step ≤ 512 - addr % 512 = omega arith in
    sym (violation_within areas addr step (len - step) mode access fits few good) ∙ ap (λ n. violation areas addr n mode access) (sym parts) ∙ h

-- a range within a page that may be accessed
pub violation_in_page : (areas : List Area) (addr len mode : ℕ) (access : Access) → addr < 2 ^ 32 → len ≤ 512 - addr % 512 → may_access areas (page_of addr) mode access ≡ true → violation areas addr len mode access ≡ None
violation_in_page areas addr len mode access fits few good =
    let e : len ≡ len + 0 = omega arith in
    ap (λ n. violation areas addr n mode access) e ∙ (violation_within areas addr len 0 mode access fits few good ∙ violation_none areas (byte_after addr len) mode access)
