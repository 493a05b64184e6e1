use Rattle.std.proofs.Common.{◌≡◌, ◌+◌, ◌-◌, ◌%◌, ◌<◌, ap, arith, drop, length, subst, sym, take, ℕ, List, None}
use Rattle.vax_space.specs.declared.Access.TheVariants.{Write}
use Rattle.vax_space.specs.declared.Area.{Area}
use Rattle.vax_space.specs.Reference.{byte_after, violation}
use Rattle.vax_pager.specs.Store.{paging}
use Rattle.vax_pager.proofs.Apart.{part_sizes}
use Rattle.vax_pager.proofs.Poking.{both_written, high_allowed, low_allowed, parts_of}
use Rattle.vax_pager.proofs.store.Store.put_bytes.Goals as goal

-- the bytes are those of two parts
whole : (addr count first : ℕ) (areas : List Area) → first < count → violation areas addr count 0 Write ≡ None → violation areas addr (first + (count - first)) 0 Write ≡ None
whole addr count first areas few h = let e : count ≡ first + (count - first) = omega (arith, few) in subst (λ (n : ℕ). violation areas addr n 0 Write ≡ None) e h

pub put_there-requires-clause-allowed : goal.put_there-requires-clause-allowed
put_there-requires-clause-allowed c =
    let first : ℕ = 512 - c.args.addr % 512 in
    let rest : ℕ = length c.args.bytes.now - first in
    let few = c.if-bytes-first.true in
    let n = (part_sizes c.args.bytes.now first rest (omega (arith, few))).1 in
    subst (λ (k : ℕ). violation (paging c.args.self.now).areas (byte_after c.args.addr first) k 0 Write ≡ None) (sym n)
    (high_allowed (paging c.args.self.now).areas c.args.addr first rest c.ranges.addr.fits (whole c.args.addr (length c.args.bytes.now) first (paging c.args.self.now).areas few c.requires.allowed))

pub put_there-requires-then-bytes-first-clause-allowed : goal.put_there-requires-then-bytes-first-clause-allowed
put_there-requires-then-bytes-first-clause-allowed c =
    let first : ℕ = 512 - c.args.addr % 512 in
    let rest : ℕ = length c.args.bytes.now - first in
    let few = c.if-bytes-first.true in
    let n = (part_sizes c.args.bytes.now first rest (omega (arith, few))).0 in
    let h = low_allowed (paging c.args.self.now).areas c.args.addr first rest c.ranges.addr.fits (whole c.args.addr (length c.args.bytes.now) first (paging c.args.self.now).areas few c.requires.allowed) in
    subst (λ (z : List Area). violation z c.args.addr (length (take first c.args.bytes.now)) 0 Write ≡ None) (sym c.put_there.ensures.writes.only.areas)
    (subst (λ (k : ℕ). violation (paging c.args.self.now).areas c.args.addr k 0 Write ≡ None) (sym n) h)

pub returns-then-bytes-first-clause-writes : goal.returns-then-bytes-first-clause-writes
returns-then-bytes-first-clause-writes c =
    let first : ℕ = 512 - c.args.addr % 512 in
    let rest : ℕ = length c.args.bytes.now - first in
    let few = c.if-bytes-first.true in
    let n = (part_sizes c.args.bytes.now first rest (omega (arith, few))).0 in
    both_written _ _ _ c.args.addr (byte_after c.args.addr first) (take first c.args.bytes.now) (take rest (drop first c.args.bytes.now)) c.args.bytes.now c.ranges.addr.fits
    (ap (byte_after c.args.addr) (sym n)) (parts_of c.args.bytes.now first (omega (arith, few))) c.put_there.ensures.writes c.put_there-then-bytes-first.ensures.writes
