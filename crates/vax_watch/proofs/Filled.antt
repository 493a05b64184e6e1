-- A page that was read has the bytes of memory.
use Rattle.std.proofs.Common.{ℕ, ◌≡◌, ◌≢◌, ◌+◌, ◌-◌, ◌*◌, ◌%◌, ◌<◌, ◌^◌, ◌∙◌, ap, arith, subst, sym, List, Option, Some, None}
use Rattle.std.specs.Prelude.{IfSome, is_some, slice_index}
use Rattle.vax_space.specs.declared.Area.{Area}
use Rattle.vax_space.specs.Areas.{area_of}
use Rattle.vax_space.specs.Reference.{byte_after, page_of}
use Rattle.vax_outside.specs.Blocks.{BlockFile}
use Rattle.vax_flat.specs.Memory.{byte_at}
use Rattle.vax_flat.specs.Operand.{plus}
use Rattle.vax_flat.specs.Parts.{Place, machine_at}
use Rattle.vax_flat.proofs.StringScan.{byte_in_run}
use Rattle.vax_pager.specs.Meaning.{pages}
use Rattle.vax_machine.specs.Console.{IsPageOf, IsThereIn, ShowsPage}
use Rattle.vax_machine.specs.Machine.{Means, keeping}
use Rattle.vax_machine.specs.Paged.{page_bytes}
use Rattle.vax_machine.specs.declared.engine.Engine.{Engine}
use Rattle.vax_machine.proofs.Showing.{has_as, same_page}
use Rattle.vax_watch.specs.Filling.{IsPageAt}

page_is : (memory : List Area) (page : ℕ) (bytes : List ℕ) → page < 2 ^ 23 → bytes ≡ page_bytes memory page → IsPageOf memory page bytes
page_is memory page bytes small is = λ k low.
    let e : plus (512 * page) k ≡ 512 * page + k = omega (arith, low, small) in
    ap (λ (z : List ℕ). slice_index z k) is ∙ (byte_in_run (byte_at memory) 512 (512 * page) k (omega (arith, small)) low ∙ ap (byte_at memory) e)

page_read : (m : Engine) (file : Option BlockFile) (address : ℕ) (page : Option (List ℕ)) → address < 2 ^ 32 → IfSome page (ShowsPage m file (page_of address)) → (place : Place) → Means m file place → IfSome page (IsPageOf (machine_at place).memory (page_of address))
page_read m file address None small shows place means = tt
page_read m file address (Some bytes) small shows place means = page_is (machine_at place).memory (page_of address) bytes (omega (arith, small)) (shows place means)

pub page_turned : (m : Engine) (file : Option BlockFile) (address : ℕ) (page : Option (List ℕ)) → address < 2 ^ 32 → IsThereIn (keeping m).areas (page_of address) page → IfSome page (ShowsPage m file (page_of address)) → (place : Place) → Means m file place → IsPageAt (machine_at place).memory address page
page_turned m file address page small there shows place means = record {
  there = there ∙ sym (has_as (pages m.pager) file (machine_at place).memory (page_of address) means.memory);
  bytes = page_read m file address page small shows place means;
}

-- an address that begins no page is in the page of the one before it
pub page_same : (memory : List Area) (address n : ℕ) (page : Option (List ℕ)) → 0 < n → byte_after address n % 512 ≢ 0 → IsPageAt memory (byte_after address (n - 1)) page → IsPageAt memory (byte_after address n) page
page_same memory address n page some within h =
    let e = sym (same_page address n some within) in
    record { there = h.there ∙ ap (λ (z : ℕ). is_some (area_of memory z)) e; bytes = subst (λ (z : ℕ). IfSome page (IsPageOf memory z)) e h.bytes }
