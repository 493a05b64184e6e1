-- Which pages a deposit brings in, and how many blocks are read where bytes are shown.
use Rattle.std.proofs.Common.{ℕ, zero, suc, ◌≡◌, ◌+◌, ◌/◌, ◌%◌, ◌<◌, ◌≤◌, Bool, true, false, List, [], ◌∷◌, length, if◌then◌else◌, refl, ap, sym, ◌∙◌, subst, arith, inl, inr, Option, Some, Ok}
use Rattle.std.specs.Prelude.{◌⊎◌}
use Rattle.vax_space.specs.Reference.{byte_after}
use Rattle.vax_outside.specs.Blocks.{BlockFile, after_read}
use Rattle.vax_pager.specs.Calls.{IsPaging, source}
use Rattle.vax_pager.specs.Listing.{is_listed}
use Rattle.vax_pager.specs.Meaning.{pages}
use Rattle.vax_pager.specs.Paging.{Paging}
use Rattle.vax_pager.specs.Poking.{AllComeIn, Backed, ComesIn, ComesInBy, Pokes, ReadsAtMost, SomeComeIn, after_reads, backed, pages_of_bytes}
use Rattle.vax_pager.specs.Steps.{OnlyWritten, settled}
use Rattle.vax_machine.proofs.Attempts.{residence_same, residence_settled}
use Rattle.vax_machine.proofs.Services.{failed_same, residence_after}
use Rattle.vax_machine.specs.Console.{pages_in}
use Rattle.vax_machine.specs.Paged.{one_if}
use Rattle.vax_machine.specs.Residence.{HasBroughtSome, Residence, after_deposit, all_brought, brought_in, is_resident, residence_of, served, unpinned}

-- pages that come in

come_step : (page : ℕ) (s t : Backed) (b : Bool) → ComesInBy b page s t → IsPaging s.paging → length s.paging.pinned < s.paging.frames → residence_of t.paging ≡ (if b then residence_of s.paging else served page (residence_of s.paging))
come_step page s t true e f few = ap (λ (z : Backed). residence_of z.paging) e
come_step page s t false e f few = residence_after s.paging t.paging page (t.paging.frame page) e.paging f few

come_in : (page : ℕ) (s t : Backed) → ComesIn page s t → residence_of t.paging ≡ brought_in page (residence_of s.paging)
come_in page s t c = come_step page s t (is_listed page s.paging.order) c.by c.fine c.room

all_in : (pages : List ℕ) (s t : Backed) → AllComeIn pages s t → residence_of t.paging ≡ all_brought pages (residence_of s.paging)
unfolding AllComeIn all_brought
all_in [] s t e = ap (λ (z : Backed). residence_of z.paging) e
all_in (page ∷ pages) s t c = all_in pages c.0 t c.2 ∙ ap (all_brought pages) (come_in page s c.0 c.1)

begins_unpinned : (s : Paging) → residence_of (settled s) ≡ unpinned (residence_of s)
begins_unpinned s = residence_settled s (settled s) refl

pub deposit_in : (pages : List ℕ) (s mid t : Paging) (file after : Option BlockFile) → AllComeIn pages (backed (settled s) file) (backed mid after) → OnlyWritten (settled mid) t → residence_of t ≡ after_deposit pages (residence_of s)
deposit_in pages s mid t file after c w =
    residence_same (settled mid) t w
    ∙ (begins_unpinned mid ∙ ap unpinned (all_in pages (backed (settled s) file) (backed mid after) c ∙ ap (all_brought pages) (begins_unpinned s)))

pub brought_ok : (b : Bool) (addr : ℕ) (bytes : List ℕ) (s t : Paging) (file after : Option BlockFile) → b ≡ true → Pokes (Ok b) addr bytes s file t after → residence_of t ≡ after_deposit (pages_of_bytes addr (length bytes)) (residence_of s)
brought_ok b addr bytes s t file after e h =
    let k = subst (λ (z : Bool). Pokes (Ok z) addr bytes s file t after) e h in
    deposit_in (pages_of_bytes addr (length bytes)) s k.mid t file after k.brings k.then

pub deposit_cut : (pages : List ℕ) (s mid t : Paging) (file after : Option BlockFile) → SomeComeIn pages (backed (settled s) file) (backed mid after) → t ≡ settled mid → HasBroughtSome pages (residence_of s) (residence_of t)
deposit_cut pages s mid t file after c e =
    let there : residence_of c.mid.paging ≡ all_brought c.front (unpinned (residence_of s)) = all_in c.front (backed (settled s) file) c.mid c.came ∙ ap (all_brought c.front) (begins_unpinned s) in
    record {
      front = c.front;
      page = c.page;
      rest = c.rest;
      splits = c.splits;
      away = ap (λ (r : Residence). is_resident r c.page) (sym there) ∙ c.out.away;
      is = residence_settled mid t e ∙ ap unpinned ((failed_same c.mid.paging mid (source c.page c.mid.paging) c.page c.mid.file after c.out.stays).0 ∙ there);
    }

-- reads

reads_more : (m n : ℕ) (f : BlockFile) → after_reads n (after_reads m f) ≡ after_reads (m + n) f
unfolding after_reads
reads_more m zero f = let e : m ≡ m + 0 = omega arith in ap (λ (k : ℕ). after_reads k f) e
reads_more m (suc n) f =
    let e : suc (m + n) ≡ m + suc n = omega arith in
    ap (λ (g : BlockFile). after_read g) (reads_more m n f) ∙ ap (λ (k : ℕ). after_reads k f) e

pub none_read : (most : ℕ) (file after : Option BlockFile) → after ≡ file → ReadsAtMost most file after
unfolding after_reads
none_read most file after e f told = (0, omega arith, e ∙ told)

pub then_read : (m n most : ℕ) (a b c : Option BlockFile) → m + n ≤ most → ReadsAtMost m a b → ReadsAtMost n b c → ReadsAtMost most a c
then_read m n most a b c low x y f told =
    let p = x f told in
    let q = y (after_reads p.0 f) p.2 in
    let i = p.1 in
    let j = q.1 in
    (p.0 + q.0, omega (arith, low, i, j), q.2 ∙ ap (λ (z : BlockFile). Some z) (reads_more p.0 q.0 f))

-- the pages of one byte more

next_in : (addr more : ℕ) (b : Bool) → (b ≡ true → (suc more ≡ 0) ⊎ (byte_after addr (suc more) % 512 ≡ 0)) → (addr % 512 + more) / 512 + 1 + one_if b ≤ (addr % 512 + suc more) / 512 + 1
next_in addr more false h = omega arith
next_in addr more true h = elim (h refl) [
  | inl bad ↦ absurd (omega (arith, bad))
  | inr e ↦ omega (arith, e)
]

pub pages_next : (addr place : ℕ) (b : Bool) → (b ≡ true → (place ≡ 0) ⊎ (byte_after addr place % 512 ≡ 0)) → pages_in addr place + one_if b ≤ pages_in addr (place + 1)
unfolding pages_in
pages_next addr zero true h = omega arith
pages_next addr zero false h = omega arith
pages_next addr (suc more) b h =
    let e : suc more + 1 ≡ suc (suc more) = omega arith in
    subst (λ (n : ℕ). pages_in addr (suc more) + one_if b ≤ pages_in addr n) (sym e) (next_in addr more b h)

pub pages_fewer : (addr m n : ℕ) → m ≤ n → pages_in addr m ≤ pages_in addr n
unfolding pages_in
pages_fewer addr zero n low = omega arith
pages_fewer addr (suc m) zero low = absurd (omega (arith, low))
pages_fewer addr (suc m) (suc n) low = omega (arith, low)
