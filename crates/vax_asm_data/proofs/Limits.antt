-- More than a module can have.
use Rattle.std.proofs.Common.{◌≡◌, ◌<◌, ◌≤◌, ◌+◌, ◌*◌, ℕ, Bool, true, false, Some, Result, Ok, Err, refl, ap, ◌∙◌, arith}
use Rattle.std.proofs.lemmas.Bool.{lt-ltb}
use Rattle.std.specs.Prelude.{◌^◌, ◌||◌, if◌then◌else◌}
use Rattle.vax_asm_data.specs.Data.{fixed, room, too_many}
use Rattle.vax_asm_encode.specs.Operands.{item_bytes}
use Rattle.vax_asm_encode.specs.declared.operand.DataKind.{DataKind}
use Rattle.vax_asm_encode.specs.declared.operand.DataKind.TheVariants.{Number, Signed, Octaword}
use Rattle.vax_asm_sections.specs.Layout.{Part, Zeros, Field, Sections, current_of, only_counts, with_part, put, put_within, module_limit}
use Rattle.vax_asm_sections.specs.declared.types.Refusal.{Refusal}
use Rattle.vax_asm_sections.specs.declared.types.Refusal.TheVariants.{Absolute, TooLong}
use Rattle.vax_macro.specs.declared.error.FaultKind.TheVariants as fault
use Rattle.vax_asm_first.specs.Fixups.{Fixup, Filling}
use Rattle.vax_asm_first.specs.Progress.{Site, after_change}
use Rattle.vax_asm_first.specs.Standing.{Standing, with_sections}
use Rattle.vax_asm_first.specs.declared.types.Content.TheVariants.{Data}
use Rattle.vax_word.specs.declared.Size.TheVariants.{B, W, L, Q}

at_least : (kind : DataKind) (n : ℕ) → n ≤ item_bytes kind * n
at_least (Number B) n = omega arith
at_least (Number W) n = omega arith
at_least (Number L) n = omega arith
at_least (Number Q) n = omega arith
at_least (Signed B) n = omega arith
at_least (Signed W) n = omega arith
at_least (Signed L) n = omega arith
at_least (Signed Q) n = omega arith
at_least Octaword n = omega arith

or_second : (a b : Bool) → b ≡ true → (a || b) ≡ true
or_second true b e = refl
or_second false b e = e

too_long : {F : Type 0} (n : ℕ) (part : Part F) (s : Sections F) → 16777216 < n → put_within n part s ≡ Err TooLong
too_long n part s h =
    ap (λ (b : Bool). if◌then◌else◌ {A = Result (Sections _) Refusal} b (Err TooLong) (Ok (with_part n part s)))
    (or_second _ _ (lt-ltb module_limit (s.total + n) (omega (arith, h))))

either_fault : (b : Bool) (s : Standing) → after_change s (with_sections s (if b then Err Absolute else Err TooLong)) ≡ record { fault = Some (if b then fault.Form else fault.Large); standing = s }
either_fault true s = refl
either_fault false s = refl

pub items_too_many : (kind : DataKind) (site : Site) (n : ℕ) (filling : Filling) (s : Standing) → 16777216 < n → fixed kind site n filling s ≡ record { fault = Some (too_many s); standing = s }
unfolding put
items_too_many kind site n filling s h =
    ap (λ (r : Result (Sections Fixup) Refusal). after_change s (with_sections s (if only_counts (current_of s.sections) then Err Absolute else r)))
    (too_long (item_bytes kind * n) (Field (record { origin = site.origin; at = (current_of s.sections).size; content = Data kind n; filling = filling })) s.sections (omega (arith, h, at_least kind n)))
    ∙ either_fault (only_counts (current_of s.sections)) s

zeros_too_long : (n : ℕ) (s : Sections Fixup) → 16777216 < n → put n (Zeros n) s ≡ Err TooLong
unfolding put
zeros_too_long n s h = too_long n (Zeros n) s h

pub room_too_large : (kind : DataKind) (s : Standing) (n : ℕ) → 16777216 < n → room kind s (Ok n) ≡ Err fault.Large
room_too_large kind s n h =
    ap (λ (r : Result (Sections Fixup) Refusal). with_sections s r)
    (zeros_too_long (item_bytes kind * n) s.sections (omega (arith, h, at_least kind n)))

pub too_far : (n : ℕ) (s : Standing) → 16777216 < n → with_sections s (put n (Zeros n) s.sections) ≡ Err fault.Large
too_far n s h = ap (λ (r : Result (Sections Fixup) Refusal). with_sections s r) (zeros_too_long n s.sections h)

product_fits : (kind : DataKind) (n : ℕ) → n ≤ 16777216 → item_bytes kind * n < 2 ^ 32
product_fits (Number B) n h = omega (arith, h)
product_fits (Number W) n h = omega (arith, h)
product_fits (Number L) n h = omega (arith, h)
product_fits (Number Q) n h = omega (arith, h)
product_fits (Signed B) n h = omega (arith, h)
product_fits (Signed W) n h = omega (arith, h)
product_fits (Signed L) n h = omega (arith, h)
product_fits (Signed Q) n h = omega (arith, h)
product_fits Octaword n h = omega (arith, h)

pub bytes_fit : (kind : DataKind) (b n : ℕ) → b ≡ item_bytes kind → n ≤ 16777216 → b * n < 2 ^ 32
bytes_fit kind b n is h = rw is (product_fits kind n h)
