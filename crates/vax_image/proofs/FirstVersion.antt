-- Version 1: what is read is spelled so, and what is spelled so is read.
use Rattle.std.proofs.Common.{◌≡◌, ℕ, zero, suc, ◌+◌, ◌*◌, ◌^◌, ◌<◌, ◌≤◌, true, List, [], ◌∷◌, ◌++◌, length, Ok, refl, sym, ap, subst, ◌∙◌, append_assoc, arith}
use Rattle.std.specs.List.{flat_map}
use Rattle.vax_space.specs.declared.Area.{Area}
use Rattle.vax_space.specs.Areas.{end_of}
use Rattle.vax_image.specs.declared.Base.{Base}
use Rattle.vax_image.specs.declared.Base.TheVariants.{Bare, User}
use Rattle.vax_image.specs.declared.Image.{Image}
use Rattle.vax_image.specs.Image.{first_page, end_page, IsAreaFrom, AscendFrom}
use Rattle.vax_image.specs.File.{word, longword, base_number, placing, area_field, entry, fields_1}
use Rattle.vax_image.specs.Reading.{Cursor, Contents, ◌>>=◌, bytes_at, number_at, base_at, count_at, pages_at, protection_at, length_at, area_at, areas_at, contents_1}
use Rattle.vax_image.proofs.Steps.{IsBytes, ok_is, bind_ok, Takes, Takes-then, Reads, bytes_take, bytes_again, wide4, number_takes, number_again}
use Rattle.vax_image.proofs.FieldLaws.{base_takes, base_again, count_takes, count_again, ArePages, at_pages, pages_take, pages_again, protection_takes, protection_again, length_takes, length_again}

pub end_low : (base : Base) → end_page base ≤ 0x400800
end_low Bare = omega arith
end_low User = omega arith

pub area_takes : (base : Base) (low : ℕ) (c : Cursor) (x : Area × Cursor) → IsBytes c.rest → area_at base low c ≡ Ok x → Takes c (area_field x.0) x.1 × IsAreaFrom base low x.0
unfolding area_at
area_takes base low c x fits e =
    let a = bind_ok (pages_at base low c) (λ pages. protection_at pages.1 >>= λ prot. length_at pages.0.1 prot.1 >>= λ len. bytes_at len.0 len.1 >>= λ bytes. Ok (record { first = pages.0.0; pages = pages.0.1; prot = prot.0; bytes = bytes.0 }, bytes.1)) x e in
    let b = bind_ok (protection_at a.0.1) (λ prot. length_at a.0.0.1 prot.1 >>= λ len. bytes_at len.0 len.1 >>= λ bytes. Ok (record { first = a.0.0.0; pages = a.0.0.1; prot = prot.0; bytes = bytes.0 }, bytes.1)) x a.2 in
    let d = bind_ok (length_at a.0.0.1 b.0.1) (λ len. bytes_at len.0 len.1 >>= λ bytes. Ok (record { first = a.0.0.0; pages = a.0.0.1; prot = b.0.0; bytes = bytes.0 }, bytes.1)) x b.2 in
    let f = bind_ok (bytes_at d.0.0 d.0.1) (λ bytes. Ok (record { first = a.0.0.0; pages = a.0.0.1; prot = b.0.0; bytes = bytes.0 }, bytes.1)) x d.2 in
    let t0 = pages_take base low c a.0 fits a.1 in
    let t1 = protection_takes a.0.1 b.0 t0.0.rest_fits b.1 in
    let t2 = length_takes a.0.0.1 b.0.1 d.0 t1.0.rest_fits d.1 in
    let t3 = bytes_take d.0.0 d.0.1 f.0 t2.0.rest_fits f.1 in
    let e23 = Takes-then b.0.1 (longword d.0.0) d.0.1 f.0.0 f.0.1 t2.0 t3.0 in
    let e13 = Takes-then a.0.1 (longword b.0.0) b.0.1 (longword d.0.0 ++ f.0.0) f.0.1 t1.0 e23 in
    let e03 = Takes-then c (longword a.0.0.0 ++ longword a.0.0.1) a.0.1 (longword b.0.0 ++ (longword d.0.0 ++ f.0.0)) f.0.1 t0.0 e13 in
    let made : Area = record { first = a.0.0.0; pages = a.0.0.1; prot = b.0.0; bytes = f.0.0 } in
    let whole : Takes c (area_field made) f.0.1 = subst (λ (k : ℕ). Takes c (placing made ++ (longword k ++ f.0.0)) f.0.1) (sym t3.1) e03 in
    let few : length f.0.0 ≤ 512 * a.0.0.1 = omega (arith, t2.1, t3.1) in
    subst (λ (y : Area × Cursor). Takes c (area_field y.0) y.1 × IsAreaFrom base low y.0) (ok_is (made, f.0.1) x f.2) (whole, record { behind = t0.1.behind; some = t0.1.some; within = t0.1.within; code = t1.1; bytes = few })

pub are_pages : (base : Base) (low : ℕ) (area : Area) → IsAreaFrom base low area → ArePages base low area.first area.pages
are_pages base low area is = record { some = is.some; behind = is.behind; within = is.within }

pub bytes_small : (base : Base) (low : ℕ) (area : Area) → IsAreaFrom base low area → length area.bytes < 256 ^ 4
bytes_small base low area is =
    let within = is.within in
    let few = is.bytes in
    omega (arith, end_low base)

area_again : (base : Base) (low : ℕ) (area : Area) (rest : List ℕ) (place : ℕ) → IsAreaFrom base low area → Reads (area_at base low (record { place = place; rest = area_field area ++ rest })) area rest
unfolding area_at
area_again base low area rest place is =
    let tail : List ℕ = area.bytes ++ rest in
    let e0 = pages_again base low area.first area.pages (longword area.prot ++ (longword (length area.bytes) ++ tail)) place (are_pages base low area is) in
    let e1 = protection_again area.prot (longword (length area.bytes) ++ tail) (at_pages place) is.code in
    let e2 = length_again area.pages (length area.bytes) tail (at_pages place + 4) (bytes_small base low area is) is.bytes in
    let e3 = bytes_again (length area.bytes) area.bytes rest (at_pages place + 4 + 4) refl in
    (at_pages place + 4 + 4 + length area.bytes, rw (e0, e1, e2, e3) refl)

areas_take : (base : Base) (n low : ℕ) (c : Cursor) (x : List Area × Cursor) → IsBytes c.rest → areas_at base low n c ≡ Ok x → Takes c (flat_map area_field x.0) x.1 × (length x.0 ≡ n) × AscendFrom base low x.0
unfolding areas_at
areas_take base zero low c x fits e =
    subst (λ (y : List Area × Cursor). Takes c (flat_map area_field y.0) y.1 × (length y.0 ≡ 0) × AscendFrom base low y.0) (ok_is ([], c) x e) (record { parts = refl; rest_fits = fits }, refl, tt)
areas_take base (suc n) low c x fits e =
    let a = bind_ok (area_at base low c) (λ first. areas_at base (end_of first.0) n first.1 >>= λ others. Ok (first.0 ∷ others.0, others.1)) x e in
    let b = bind_ok (areas_at base (end_of a.0.0) n a.0.1) (λ others. Ok (a.0.0 ∷ others.0, others.1)) x a.2 in
    let first = area_takes base low c a.0 fits a.1 in
    let second = areas_take base n (end_of a.0.0) a.0.1 b.0 first.0.rest_fits b.1 in
    let both = Takes-then c (area_field a.0.0) a.0.1 (flat_map area_field b.0.0) b.0.1 first.0 second.0 in
    subst (λ (y : List Area × Cursor). Takes c (flat_map area_field y.0) y.1 × (length y.0 ≡ suc n) × AscendFrom base low y.0) (ok_is (a.0.0 ∷ b.0.0, b.0.1) x b.2) (both, ap suc second.1, (first.1, second.2))

areas_again : (base : Base) (low : ℕ) (areas : List Area) (rest : List ℕ) (place : ℕ) → AscendFrom base low areas → Reads (areas_at base low (length areas) (record { place = place; rest = flat_map area_field areas ++ rest })) areas rest
unfolding areas_at
areas_again base low [] rest place ascend = (place, refl)
areas_again base low (area ∷ areas) rest place ascend =
    let regrouped : flat_map area_field (area ∷ areas) ++ rest ≡ area_field area ++ (flat_map area_field areas ++ rest) = append_assoc (area_field area) (flat_map area_field areas) rest in
    let first = area_again base low area (flat_map area_field areas ++ rest) place ascend.0 in
    let others = areas_again base (end_of area) areas rest first.0 ascend.1 in
    (others.0, ap (λ (text : List ℕ). areas_at base low (suc (length areas)) (record { place = place; rest = text })) regrouped ∙ rw (first.1, others.1) refl)

-- an image's areas lie where they may
pub record HasAreas (image : Image) : Type 0 where
  pub some : 0 < length image.areas
  pub few : length image.areas ≤ 64
  pub areas : AscendFrom image.base (first_page image.base) image.areas
  pub small : image.transfer < 256 ^ 4

pub contents_1_take : (c : Cursor) (x : Contents) → IsBytes c.rest → contents_1 c ≡ Ok x → Takes c (fields_1 x.image) x.end × HasAreas x.image
unfolding contents_1 fields_1
contents_1_take c x fits e =
    let a = bind_ok (base_at c) (λ base. number_at 4 base.1 >>= λ transfer. count_at transfer.1 >>= λ count. areas_at base.0 (first_page base.0) count.0 count.1 >>= λ areas. Ok (record { image = record { base = base.0; transfer = transfer.0; areas = areas.0 }; complete = true; end = areas.1 })) x e in
    let b = bind_ok (number_at 4 a.0.1) (λ transfer. count_at transfer.1 >>= λ count. areas_at a.0.0 (first_page a.0.0) count.0 count.1 >>= λ areas. Ok (record { image = record { base = a.0.0; transfer = transfer.0; areas = areas.0 }; complete = true; end = areas.1 })) x a.2 in
    let d = bind_ok (count_at b.0.1) (λ count. areas_at a.0.0 (first_page a.0.0) count.0 count.1 >>= λ areas. Ok (record { image = record { base = a.0.0; transfer = b.0.0; areas = areas.0 }; complete = true; end = areas.1 })) x b.2 in
    let f = bind_ok (areas_at a.0.0 (first_page a.0.0) d.0.0 d.0.1) (λ areas. Ok (record { image = record { base = a.0.0; transfer = b.0.0; areas = areas.0 }; complete = true; end = areas.1 })) x d.2 in
    let t0 = base_takes c a.0 fits a.1 in
    let t1 = number_takes 4 wide4 a.0.1 b.0 t0.rest_fits b.1 in
    let t2 = count_takes b.0.1 d.0 t1.0.rest_fits d.1 in
    let t3 = areas_take a.0.0 d.0.0 (first_page a.0.0) d.0.1 f.0 t2.0.rest_fits f.1 in
    let e23 = Takes-then b.0.1 (longword d.0.0) d.0.1 (flat_map area_field f.0.0) f.0.1 t2.0 t3.0 in
    let e01 = Takes-then c (word (base_number a.0.0)) a.0.1 (longword b.0.0) b.0.1 t0 t1.0 in
    let e03 = Takes-then c (word (base_number a.0.0) ++ longword b.0.0) b.0.1 (longword d.0.0 ++ flat_map area_field f.0.0) f.0.1 e01 e23 in
    let made : Image = record { base = a.0.0; transfer = b.0.0; areas = f.0.0 } in
    let whole : Takes c (entry made ++ (longword (length f.0.0) ++ flat_map area_field f.0.0)) f.0.1 = subst (λ (k : ℕ). Takes c (entry made ++ (longword k ++ flat_map area_field f.0.0)) f.0.1) (sym t3.1) e03 in
    let has : HasAreas made = record { some = omega (arith, t3.1, t2.1); few = omega (arith, t3.1, t2.2); areas = t3.2; small = t1.1 } in
    let found : Contents = record { image = made; complete = true; end = f.0.1 } in
    subst (λ (y : Contents). Takes c (fields_1 y.image) y.end × HasAreas y.image) (ok_is found x f.2) (whole, has)

pub contents_1_again : (image : Image) (rest : List ℕ) (place : ℕ) → HasAreas image → (end : ℕ) × (contents_1 (record { place = place; rest = fields_1 image ++ rest }) ≡ Ok (record { image = image; complete = true; end = record { place = end; rest = rest } }))
unfolding contents_1 fields_1
contents_1_again image rest place has =
    let tail : List ℕ = flat_map area_field image.areas ++ rest in
    let e0 = base_again image.base (longword image.transfer ++ (longword (length image.areas) ++ tail)) place in
    let e1 = number_again 4 image.transfer (longword (length image.areas) ++ tail) (place + 2) has.small in
    let e2 = count_again (length image.areas) tail (place + 2 + 4) has.some has.few in
    let e3 = areas_again image.base (first_page image.base) image.areas rest (place + 2 + 4 + 4) has.areas in
    (e3.0, rw (e0, e1, e2, e3.1) refl)
