-- What is read is an image.
use Rattle.std.proofs.Common.{◌≡◌, ℕ, zero, suc, ◌+◌, ◌*◌, ◌%◌, ◌^◌, ◌<◌, ◌≤◌, Bool, true, false, cond, eqb, ltb, ◌||◌, ◌⊎◌, inl, inr, List, ◌++◌, length, take, drop, replicate, Option, Some, None, Result, Ok, Err, refl, sym, subst, arith}
use Rattle.std.specs.Prelude.{not, IfOk, IfSome, option_to_list}
use Rattle.std.proofs.lemmas.Bool.{ltb-false, eqb-false}
use Rattle.std.proofs.lemmas.List.{length-append, length-take, length-replicate}
use Rattle.vax_space.specs.declared.Area.{Area}
use Rattle.vax_space.specs.Faults.{is_protection}
use Rattle.vax_space.specs.Reference.{page_of}
use Rattle.vax_image.specs.declared.Base.{Base}
use Rattle.vax_image.specs.declared.Base.TheVariants.{Bare, User}
use Rattle.vax_image.specs.declared.Image.{Image}
use Rattle.vax_image.specs.Image.{first_page, end_page, IsAreaFrom, AscendFrom, is_in, IsImage}
use Rattle.vax_elf.specs.declared.faults.ElfFault.TheVariants.{Count, Sizes, Short, Interpreter, Length, Alignment, Outside, Overlap, Entry}
use Rattle.vax_elf.specs.declared.faults.ElfError.{ElfError}
use Rattle.vax_elf.specs.declared.faults.ElfError.TheVariants.{Fault}
use Rattle.vax_elf.specs.declared.segments.Segment.{Segment}
use Rattle.vax_elf.specs.Executable.{half_at, headers_begin, header_count, entry_of, segment_at, told_len, base_of, is_aligned, is_writable, protection, area_of}
use Rattle.vax_elf.specs.Faults.{◌>>=◌, Gives}
use Rattle.vax_elf.specs.Reading.{fault_of, unless_fault, loaded_at, behind, areas_at, header_of, told_by, named_by, sized_by, ended, image_of}

abbrev ok : {X : Type 0} → X → Result X ElfError
ok x = Ok x

pub bind_ok : {X Y : Type 0} (r : Result X ElfError) (f : X → Result Y ElfError) (y : Y) → (r >>= f) ≡ Ok y → (x : X) × (r ≡ Ok x) × (f x ≡ Ok y)
bind_ok (Ok x) f y e = (x, refl, e)
bind_ok (Err d) f y e = absurd cc

pub if_ok : {X : Type 0} (b : Bool) (e : ElfError) (r : Result X ElfError) (y : X) → cond b (Err e) r ≡ Ok y → (b ≡ false) × (r ≡ Ok y)
if_ok true e r y h = absurd cc
if_ok false e r y h = (refl, h)

pub if_none : (b : Bool) (e : ElfError) (r : Option ElfError) → cond b (Some e) r ≡ None → (b ≡ false) × (r ≡ None)
if_none true e r h = absurd cc
if_none false e r h = (refl, h)

pub same : {X : Type 0} {x y : X} → ok x ≡ ok y → x ≡ y
same e = cc

pub not_false : (b : Bool) → not b ≡ false → b ≡ true
not_false true e = refl
not_false false e = absurd cc

pub or_false : (a b : Bool) → (a || b) ≡ false → (a ≡ false) × (b ≡ false)
or_false true b e = absurd cc
or_false false b e = (refl, e)

is_code : (base : Base) (writable : Bool) → is_protection (protection base writable) ≡ true
unfolding is_protection
is_code base false = refl
is_code Bare true = refl
is_code User true = refl

-- what a segment without a fault has
record IsLoadable (base : Base) (low len : ℕ) (segment : Segment) : Type 0 where
  behind : low ≤ page_of segment.address
  within : segment.address + segment.memory_size ≤ 512 * end_page base

loadable : (base : Base) (low len place : ℕ) (segment : Segment) → fault_of base low len place segment ≡ None → IsLoadable base low len segment
unfolding fault_of
loadable base low len place segment e =
    let a = if_none (not (is_aligned segment)) (Fault (place + 28) Alignment) _ e in
    let b = if_none (ltb (page_of segment.address) (first_page base) || ltb (512 * end_page base) (segment.address + segment.memory_size)) (Fault (place + 8) Outside) _ a.1 in
    let c = if_none (ltb (page_of segment.address) low) (Fault (place + 8) Overlap) _ b.1 in
    record { behind = ltb-false _ _ c.0; within = ltb-false _ _ (or_false _ _ b.0).1 }

-- its pages hold its bytes
is_area : (base : Base) (low len : ℕ) (file : List ℕ) (segment : Segment) → IsLoadable base low len segment → segment.file_size ≤ segment.memory_size → 0 < segment.memory_size → IsAreaFrom base low (area_of base file segment)
is_area base low len file segment h fits some =
    let text : length (replicate (segment.address % 512) 0 ++ take segment.file_size (drop segment.offset file)) ≤ segment.address % 512 + segment.file_size
    = omega (arith, length-append (replicate (segment.address % 512) 0) (take segment.file_size (drop segment.offset file)), length-replicate {A = ℕ} (segment.address % 512) 0, length-take segment.file_size (drop segment.offset file)) in
    record {
      behind = h.behind;
      some = omega arith;
      within = omega (arith, h.within);
      code = is_code base (is_writable segment);
      bytes = omega (arith, text);
    }

pub from_fault : {X : Type 0} (fault : Option ElfError) (x : X) (y : X) → unless_fault fault x ≡ Ok y → (fault ≡ None) × (x ≡ y)
from_fault None x y e = (refl, cc)
from_fault (Some d) x y e = absurd cc

abbrev pub IsNext : Base → ℕ → Option Area → Type 0
IsNext base low None = Unit {0}
IsNext base low (Some area) = IsAreaFrom base low area

-- a segment of no memory is passed over; another is loaded, or at fault
pub pick : (b : Bool) (fault : Option ElfError) (area : Area) (n : Option Area) → cond b (Ok None) (unless_fault fault (Some area)) ≡ Ok n
    → ((b ≡ true) × (n ≡ None)) ⊎ ((b ≡ false) × ((fault ≡ None) × (Some area ≡ n)))
pick true fault area n e = inl (refl, cc)
pick false fault area n e = let f = from_fault fault (Some area) n e in inr (refl, (f.0, f.1))

-- a segment of another type than 1 is passed over
pub skip : (b : Bool) (r : Result (Option Area) ElfError) (n : Option Area) → cond b (Ok None) r ≡ Ok n → ((b ≡ true) × (n ≡ None)) ⊎ ((b ≡ false) × (r ≡ Ok n))
skip true r n e = inl (refl, cc)
skip false r n e = inr (refl, e)

pub loaded_is : (base : Base) (low : ℕ) (file : List ℕ) (place : ℕ) (n : Option Area) → loaded_at base low file place ≡ Ok n → IsNext base low n
unfolding loaded_at
loaded_is base low file place n e =
    let s = segment_at file place in
    let fault = fault_of base low (length file) place s in
    let none : n ≡ None → IsNext base low n = λ is. subst (λ (m : Option Area). IsNext base low m) (sym is) tt in
    let a = if_ok (eqb s.kind 3) (Fault place Interpreter) _ n e in
    elim (skip (not (eqb s.kind 1)) _ n a.1) [
      | inl is ↦ none is.1
      | inr other ↦
          let b = if_ok (ltb s.memory_size s.file_size) (Fault (place + 16) Length) _ n other.1 in
          elim (pick (eqb s.memory_size 0) fault (area_of base file s) n b.1) [
            | inl is ↦ none is.1
            | inr loaded ↦
                let fits : s.file_size ≤ s.memory_size = ltb-false _ _ b.0 in
                let some : 0 < s.memory_size = omega (arith, eqb-false _ _ loaded.0) in
                subst (λ (m : Option Area). IsNext base low m) loaded.1.1 (is_area base low (length file) file s (loadable base low (length file) place s loaded.1.0) fits some)
          ]
    ]

end_small : (base : Base) → end_page base ≤ 0x400800
end_small Bare = omega arith
end_small User = omega arith

pub small : (base : Base) (low : ℕ) (n : Option Area) → IsNext base low n → IfSome n (λ area. area.first + area.pages < 2 ^ 32)
small base low None h = tt
small base low (Some area) h = omega (arith, h.within, end_small base)

record IsRead (base : Base) (low count : ℕ) (areas : List Area) : Type 0 where
  ascend : AscendFrom base low areas
  few : length areas ≤ count

joined : (base : Base) (low count : ℕ) (n : Option Area) (others : List Area) → IsNext base low n → IsRead base (behind low n) count others → IsRead base low (suc count) (option_to_list n ++ others)
joined base low count None others next h = record { ascend = h.ascend; few = omega (arith, h.few) }
joined base low count (Some area) others next h = record { ascend = (next, h.ascend); few = omega (arith, h.few) }

areas_are : (base : Base) (low : ℕ) (file : List ℕ) (place count : ℕ) (areas : List Area) → areas_at base low file place count ≡ Ok areas → IsRead base low count areas
unfolding areas_at
areas_are base low file place zero areas e = subst (λ (xs : List Area). IsRead base low 0 xs) (same e) (record { ascend = tt; few = omega arith })
areas_are base low file place (suc count) areas e =
    let a = bind_ok (loaded_at base low file place) (λ first. areas_at base (behind low first) file (place + 32) count >>= λ others. Ok (option_to_list first ++ others)) areas e in
    let b = bind_ok (areas_at base (behind low a.0) file (place + 32) count) (λ others. Ok (option_to_list a.0 ++ others)) areas a.2 in
    let h = areas_are base (behind low a.0) file (place + 32) count b.0 b.1 in
    subst (λ (xs : List Area). IsRead base low (suc count) xs) (same b.2) (joined base low count a.0 b.0 (loaded_is base low file place a.0 a.1) h)

few_headers : (file : List ℕ) (count : ℕ) → header_of file ≡ Ok count → count ≤ 64
unfolding header_of sized_by
few_headers file count e =
    let long = if_ok (ltb (length file) 52) (Fault 0 Short) _ count e in
    let named = bind_ok (told_by file >>= λ told. named_by file) (λ n. sized_by file) count long.1 in
    let head = if_ok (not (eqb (half_at file 40) 52)) (Fault 40 Sizes) _ count named.2 in
    let size = if_ok (not (eqb (half_at file 42) 32)) (Fault 42 Sizes) _ count head.1 in
    let some = if_ok (eqb (header_count file) 0 || ltb 64 (header_count file)) (Fault 44 Count) _ count size.1 in
    let within = if_ok (ltb (told_len file) (headers_begin file + 32 * header_count file)) (Fault 28 Short) _ count some.1 in
    let is : header_count file ≡ count = same within.1 in
    subst (λ (n : ℕ). n ≤ 64) is (ltb-false _ _ (or_false _ _ some.0).1)

ended_is : (file : List ℕ) (areas : List Area) (image : Image) → IsRead (base_of (entry_of file)) (first_page (base_of (entry_of file))) 64 areas → ended file areas ≡ Ok image → IsImage image
unfolding ended
ended_is file areas image h e =
    let a = if_ok (eqb (length areas) 0) (Fault 44 Count) _ image e in
    let b = if_ok (not (is_in areas (entry_of file))) (Fault 24 Entry) _ image a.1 in
    subst IsImage (same b.1) (record { some = omega (arith, eqb-false _ _ a.0); few = h.few; areas = h.ascend; begins = not_false _ b.0 })

pub image_is : (file : List ℕ) (image : Image) → image_of file ≡ Ok image → IsImage image
unfolding image_of
image_is file image e =
    let base = base_of (entry_of file) in
    let a = bind_ok (header_of file >>= λ count. areas_at base (first_page base) file (headers_begin file) count) (λ areas. ended file areas) image e in
    let b = bind_ok (header_of file) (λ count. areas_at base (first_page base) file (headers_begin file) count) a.0 a.1 in
    let h = areas_are base (first_page base) file (headers_begin file) b.0 a.0 b.2 in
    let few = few_headers file b.0 b.1 in
    ended_is file a.0 image (record { ascend = h.ascend; few = omega (arith, h.few, few) }) a.2

pub is_image : (file : List ℕ) (r : Result Image ElfError) → Gives (λ image. image) r (image_of file) → IfOk r IsImage
is_image file (Ok image) given = image_is file image given
is_image file (Err e) given = tt
