-- What is read is an executable as its fields describe it, and each of these is read.
use Rattle.std.proofs.Common.{◌≡◌, ◌≢◌, ◌⊎◌, inl, inr, ℕ, zero, suc, ◌+◌, ◌*◌, ◌<◌, ◌≤◌, Bool, true, false, cond, eqb, ltb, ◌||◌, ◌&&◌, List, ◌∷◌, ◌++◌, length, map, Option, Some, None, Result, Ok, Err, refl, sym, ap, subst, ◌∙◌, arith}
use Rattle.std.specs.Prelude.{not, IfOk, option_to_list, filter, All, slice_index}
use Rattle.std.proofs.lemmas.Bool.{ltb-false, le-ltb, eqb-false, eqb-true, eq-eqb, ne_eqb}
use Rattle.std.proofs.lemmas.List.Elements.{All-nil, All-cons, All-head, All-tail}
use Rattle.vax_space.specs.declared.Area.{Area}
use Rattle.vax_space.specs.Reference.{page_of}
use Rattle.vax_image.specs.declared.Base.{Base}
use Rattle.vax_image.specs.declared.Image.{Image}
use Rattle.vax_image.specs.Image.{first_page, end_page, AscendFrom, is_in, IsImage}
use Rattle.vax_elf.specs.declared.faults.ElfFault.TheVariants.{Class, Order, Version, Kind, Machine, Sizes, Count, Short, Interpreter, Length, Alignment, Outside, Overlap, Entry}
use Rattle.vax_elf.specs.declared.faults.ElfError.{ElfError}
use Rattle.vax_elf.specs.declared.faults.ElfError.TheVariants.{Fault}
use Rattle.vax_elf.specs.declared.segments.Segment.{Segment}
use Rattle.vax_elf.specs.Executable.{half_at, word_at, headers_begin, header_count, entry_of, segment_at, segments_from, segments_of, told_len, base_of, is_loaded, is_aligned, file_end, area_of, IsSegment, ElfImage}
use Rattle.vax_elf.specs.Faults.{◌>>=◌, Gives}
use Rattle.vax_elf.specs.Reading.{fault_of, unless_fault, loaded_at, behind, areas_at, header_of, told_by, named_by, sized_by, ended, image_of}
use Rattle.vax_elf.proofs.Images.{bind_ok, if_ok, if_none, or_false, same, not_false, skip, pick, image_is}

abbrev failed : {X : Type 0} → ElfError → Result X ElfError
failed e = Err e

true_false : true ≡ false → ⊥
true_false e = absurd cc

true_not : (b : Bool) → not b ≡ true → b ≡ false
true_not true e = absurd cc
true_not false e = refl

and_no : (b : Bool) → (b && false) ≡ false
and_no true = refl
and_no false = refl

if_true : {X : Type 0} (b : Bool) (x y : X) → b ≡ true → cond b x y ≡ x
if_true true x y e = refl
if_true false x y e = absurd cc

by_both : (a b : Bool) → (a ≡ true) ⊎ ((a ≡ false) × ((b ≡ true) ⊎ (b ≡ false)))
by_both true b = inl refl
by_both false true = inr (refl, inl refl)
by_both false false = inr (refl, inr refl)

-- ---- a segment

abbrev area_if : Base → List ℕ → Segment → Option Area
area_if base file s = cond (is_loaded s) (Some (area_of base file s)) None

passed_over : (base : Base) (len : ℕ) (s : Segment) → s.kind ≢ 3 → (s.kind ≡ 1 → s.file_size ≤ s.memory_size) → is_loaded s ≡ false → IsSegment base len s
passed_over base len s own fits un = record {
  own = own;
  fits = fits;
  aligned = λ e. absurd (true_false (sym e ∙ un));
  behind = λ e. absurd (true_false (sym e ∙ un));
  within = λ e. absurd (true_false (sym e ∙ un));
  there = λ e. absurd (true_false (sym e ∙ un));
}

-- what a program header's reading says
record IsTaken (base : Base) (file : List ℕ) (s : Segment) (n : Option Area) : Type 0 where
  segment : IsSegment base (length file) s
  area : n ≡ area_if base file s

other_kind : (s : Segment) → not (eqb s.kind 1) ≡ true → is_loaded s ≡ false
other_kind s e = rw (true_not _ e) refl

no_memory : (s : Segment) → eqb s.memory_size 0 ≡ true → is_loaded s ≡ false
no_memory s e = rw e (and_no (eqb s.kind 1))

has_both : (s : Segment) → not (eqb s.kind 1) ≡ false → eqb s.memory_size 0 ≡ false → is_loaded s ≡ true
has_both s a b = rw (not_false _ a, b) refl

taken_is : (base : Base) (low : ℕ) (file : List ℕ) (place : ℕ) (n : Option Area) → loaded_at base low file place ≡ Ok n → IsTaken base file (segment_at file place) n
unfolding loaded_at fault_of
taken_is base low file place n e =
    let s = segment_at file place in
    let fault = fault_of base low (length file) place s in
    let a = if_ok (eqb s.kind 3) (Fault place Interpreter) _ n e in
    let own : s.kind ≢ 3 = eqb-false _ _ a.0 in
    elim (skip (not (eqb s.kind 1)) _ n a.1) [
      | inl other ↦
          let un = other_kind s other.0 in
          record { segment = passed_over base (length file) s own (λ is. absurd (true_false (sym (eq-eqb _ _ is) ∙ true_not _ other.0))) un; area = other.1 ∙ sym (rw un refl) }
      | inr one ↦
          let b = if_ok (ltb s.memory_size s.file_size) (Fault (place + 16) Length) _ n one.1 in
          let fits : s.file_size ≤ s.memory_size = ltb-false _ _ b.0 in
          elim (pick (eqb s.memory_size 0) fault (area_of base file s) n b.1) [
            | inl none ↦
                let un = no_memory s none.0 in
                record { segment = passed_over base (length file) s own (λ is. fits) un; area = none.1 ∙ sym (rw un refl) }
            | inr loaded ↦
                let both = has_both s one.0 loaded.0 in
                let c = if_none (not (is_aligned s)) (Fault (place + 28) Alignment) _ loaded.1.0 in
                let d = if_none (ltb (page_of s.address) (first_page base) || ltb (512 * end_page base) (s.address + s.memory_size)) (Fault (place + 8) Outside) _ c.1 in
                let f = if_none (ltb (page_of s.address) low) (Fault (place + 8) Overlap) _ d.1 in
                let g = if_none (ltb (length file) (file_end s)) (Fault (place + 4) Short) None f.1 in
                let outside = or_false _ _ d.0 in
                record {
                  segment = record {
                    own = own;
                    fits = λ is. fits;
                    aligned = λ is. not_false _ c.0;
                    behind = λ is. ltb-false _ _ outside.0;
                    within = λ is. ltb-false _ _ outside.1;
                    there = λ is. ltb-false _ _ g.0;
                  };
                  area = sym loaded.1.1 ∙ sym (rw both refl);
                }
          ]
    ]

-- ---- all of them

abbrev areas_of : Base → List ℕ → List Segment → List Area
areas_of base file ss = map (area_of base file) (filter is_loaded ss)

listed : (base : Base) (file : List ℕ) (b : Bool) (s : Segment) (ss : List Segment)
    → option_to_list (cond b (Some (area_of base file s)) None) ++ map (area_of base file) ss ≡ map (area_of base file) (cond b (s ∷ ss) ss)
listed base file true s ss = refl
listed base file false s ss = refl

record AreTaken (base : Base) (file : List ℕ) (ss : List Segment) (read : List Area) : Type 0 where
  segments : All (IsSegment base (length file)) ss
  areas : read ≡ areas_of base file ss

all_taken : (base : Base) (low : ℕ) (file : List ℕ) (place count : ℕ) (areas : List Area) → areas_at base low file place count ≡ Ok areas → AreTaken base file (segments_from file place count) areas
unfolding areas_at
all_taken base low file place zero areas e = record { segments = All-nil (IsSegment base (length file)); areas = sym (same e) }
all_taken base low file place (suc count) areas e =
    let s = segment_at file place in
    let rest = segments_from file (place + 32) count in
    let a = bind_ok (loaded_at base low file place) (λ first. areas_at base (behind low first) file (place + 32) count >>= λ others. Ok (option_to_list first ++ others)) areas e in
    let b = bind_ok (areas_at base (behind low a.0) file (place + 32) count) (λ others. Ok (option_to_list a.0 ++ others)) areas a.2 in
    let one = taken_is base low file place a.0 a.1 in
    let h = all_taken base (behind low a.0) file (place + 32) count b.0 b.1 in
    record {
      segments = All-cons (IsSegment base (length file)) s rest one.segment h.segments;
      areas = sym (same b.2) ∙ ap (λ (n : Option Area). option_to_list n ++ b.0) one.area ∙ ap (λ (xs : List Area). option_to_list (area_if base file s) ++ xs) h.areas
          ∙ listed base file (is_loaded s) s (filter is_loaded rest);
    }

-- ---- the header

test : (x y : ℕ) → not (eqb x y) ≡ false → x ≡ y
test x y e = eqb-true _ _ (not_false _ e)

record IsHeader (file : List ℕ) (n : ℕ) : Type 0 where
  long : 52 ≤ length file
  class : slice_index file 4 ≡ 1
  order : slice_index file 5 ≡ 1
  version : slice_index file 6 ≡ 1
  kind : half_at file 16 ≡ 2
  machine : half_at file 18 ≡ 75
  file_version : word_at file 20 ≡ 1
  header_bytes : half_at file 40 ≡ 52
  program_header_bytes : half_at file 42 ≡ 32
  some : 0 < header_count file
  few : header_count file ≤ 64
  there : headers_begin file + 32 * header_count file ≤ told_len file
  count : header_count file ≡ n

header_is : (file : List ℕ) (count : ℕ) → header_of file ≡ Ok count → IsHeader file count
unfolding header_of told_by named_by sized_by
header_is file count e =
    let long = if_ok (ltb (length file) 52) (Fault 0 Short) _ count e in
    let c = bind_ok (told_by file >>= λ told. named_by file) (λ n. sized_by file) count long.1 in
    let b = bind_ok (told_by file) (λ told. named_by file) c.0 c.1 in
    let class = if_ok (not (eqb (slice_index file 4) 1)) (Fault 4 Class) _ b.0 b.1 in
    let order = if_ok (not (eqb (slice_index file 5) 1)) (Fault 5 Order) _ b.0 class.1 in
    let version = if_ok (not (eqb (slice_index file 6) 1)) (Fault 6 Version) _ b.0 order.1 in
    let kind = if_ok (not (eqb (half_at file 16) 2)) (Fault 16 Kind) _ c.0 b.2 in
    let machine = if_ok (not (eqb (half_at file 18) 75)) (Fault 18 Machine) _ c.0 kind.1 in
    let file_version = if_ok (not (eqb (word_at file 20) 1)) (Fault 20 Version) _ c.0 machine.1 in
    let header = if_ok (not (eqb (half_at file 40) 52)) (Fault 40 Sizes) _ count c.2 in
    let size = if_ok (not (eqb (half_at file 42) 32)) (Fault 42 Sizes) _ count header.1 in
    let some = if_ok (eqb (header_count file) 0 || ltb 64 (header_count file)) (Fault 44 Count) _ count size.1 in
    let there = if_ok (ltb (told_len file) (headers_begin file + 32 * header_count file)) (Fault 28 Short) _ count some.1 in
    let counts = or_false _ _ some.0 in
    let none : header_count file ≢ 0 = eqb-false _ _ counts.0 in
    record {
      long = ltb-false _ _ long.0;
      class = test _ _ class.0;
      order = test _ _ order.0;
      version = test _ _ version.0;
      kind = test _ _ kind.0;
      machine = test _ _ machine.0;
      file_version = test _ _ file_version.0;
      header_bytes = test _ _ header.0;
      program_header_bytes = test _ _ size.0;
      some = omega (arith, none);
      few = ltb-false _ _ counts.1;
      there = ltb-false _ _ there.0;
      count = same there.1;
    }

found : (file : List ℕ) (image : Image) → image_of file ≡ Ok image → ElfImage file image
unfolding image_of ended
found file image e =
    let base = base_of (entry_of file) in
    let a = bind_ok (header_of file >>= λ count. areas_at base (first_page base) file (headers_begin file) count) (λ areas. ended file areas) image e in
    let b = bind_ok (header_of file) (λ count. areas_at base (first_page base) file (headers_begin file) count) a.0 a.1 in
    let h = header_is file b.0 b.1 in
    let all = all_taken base (first_page base) file (headers_begin file) (header_count file) a.0 (ap (λ (n : ℕ). areas_at base (first_page base) file (headers_begin file) n) h.count ∙ b.2) in
    let c = if_ok (eqb (length a.0) 0) (Fault 44 Count) _ image a.2 in
    let d = if_ok (not (is_in a.0 (entry_of file))) (Fault 24 Entry) _ image c.1 in
    let is : record { base = base; transfer = entry_of file; areas = a.0 } ≡ image = same d.1 in
    subst (ElfImage file) is (record {
      long = h.long;
      class = h.class;
      order = h.order;
      version = h.version;
      kind = h.kind;
      machine = h.machine;
      file_version = h.file_version;
      header_bytes = h.header_bytes;
      program_header_bytes = h.program_header_bytes;
      some = h.some;
      few = h.few;
      there = h.there;
      base = refl;
      transfer = refl;
      segments = all.segments;
      areas = all.areas;
      formed = subst IsImage (sym is) (image_is file image e);
    })

pub is_found : (file : List ℕ) (r : Result Image ElfError) → Gives (λ image. image) r (image_of file) → IfOk r (ElfImage file)
is_found file (Ok image) given = found file image given
is_found file (Err e) given = tt

-- ---- each is read

if_false : {X : Type 0} (b : Bool) (x y : X) → b ≡ false → cond b x y ≡ y
if_false true x y e = absurd cc
if_false false x y e = refl

differs : (x y : ℕ) → x ≡ y → not (eqb x y) ≡ false
differs x y e = ap not (eq-eqb _ _ e)

no_or : (a b : Bool) → a ≡ false → b ≡ false → (a || b) ≡ false
no_or true b e f = absurd cc
no_or false b e f = f

no_fault : (base : Base) (low len place : ℕ) (s : Segment) → IsSegment base len s → is_loaded s ≡ true → low ≤ page_of s.address → fault_of base low len place s ≡ None
unfolding fault_of
no_fault base low len place s h both behind =
    if_false _ _ _ (ap not (h.aligned both))
    ∙ if_false _ _ _ (no_or _ _ (le-ltb _ _ (h.behind both)) (le-ltb _ _ (h.within both)))
    ∙ if_false _ _ _ (le-ltb _ _ behind)
    ∙ if_false _ _ _ (le-ltb _ _ (h.there both))

-- either it isn't of type 1, or it has no memory, or it is loaded
which : (s : Segment) → (not (eqb s.kind 1) ≡ true) ⊎ ((not (eqb s.kind 1) ≡ false) × ((eqb s.memory_size 0 ≡ true) ⊎ (eqb s.memory_size 0 ≡ false)))
which s = by_both (not (eqb s.kind 1)) (eqb s.memory_size 0)

again : (base : Base) (low : ℕ) (file : List ℕ) (place : ℕ) → IsSegment base (length file) (segment_at file place) → (is_loaded (segment_at file place) ≡ true → low ≤ page_of (segment_at file place).address)
    → loaded_at base low file place ≡ Ok (area_if base file (segment_at file place))
unfolding loaded_at
again base low file place h behind =
    let s = segment_at file place in
    let own = if_false (eqb s.kind 3) (failed (Fault place Interpreter)) _ (ne_eqb _ _ h.own) in
    elim (which s) [
      | inl other ↦ own ∙ if_true _ _ _ other ∙ sym (rw (other_kind s other) refl)
      | inr one ↦
          let is : s.kind ≡ 1 = test _ _ one.0 in
          let fits = if_false (ltb s.memory_size s.file_size) (failed (Fault (place + 16) Length)) _ (le-ltb _ _ (h.fits is)) in
          elim one.1 [
            | inl none ↦ own ∙ if_false _ _ _ one.0 ∙ fits ∙ if_true _ _ _ none ∙ sym (rw (no_memory s none) refl)
            | inr some ↦
                let both = has_both s one.0 some in
                own ∙ if_false _ _ _ one.0 ∙ fits ∙ if_false _ _ _ some
                ∙ ap (λ (fault : Option ElfError). unless_fault fault (Some (area_of base file s))) (no_fault base low (length file) place s h both (behind both))
                ∙ sym (rw both refl)
          ]
    ]

abbrev IsBehind : Base → ℕ → Bool → Area → List Area → Type 0
IsBehind base low b area areas = (b ≡ true → low ≤ area.first) × AscendFrom base (behind low (cond b (Some area) None)) areas

ascending : (base : Base) (low : ℕ) (file : List ℕ) (b : Bool) (s : Segment) (ss : List Segment) → AscendFrom base low (map (area_of base file) (cond b (s ∷ ss) ss))
    → IsBehind base low b (area_of base file s) (map (area_of base file) ss)
ascending base low file true s ss h = (λ e. h.0.behind, h.1)
ascending base low file false s ss h = (λ e. absurd cc, h)

all_again : (base : Base) (low : ℕ) (file : List ℕ) (place count : ℕ) → All (IsSegment base (length file)) (segments_from file place count) → AscendFrom base low (areas_of base file (segments_from file place count))
    → areas_at base low file place count ≡ Ok (areas_of base file (segments_from file place count))
unfolding areas_at
all_again base low file place zero h up = refl
all_again base low file place (suc count) h up =
    let s = segment_at file place in
    let rest = segments_from file (place + 32) count in
    let here = All-head (IsSegment base (length file)) s rest h in
    let next = ascending base low file (is_loaded s) s (filter is_loaded rest) up in
    let one = again base low file place here next.0 in
    let others = all_again base (behind low (area_if base file s)) file (place + 32) count (All-tail (IsSegment base (length file)) s rest h) next.1 in
    ap (λ (r : Result (Option Area) ElfError). r >>= λ first. areas_at base (behind low first) file (place + 32) count >>= λ more. Ok (option_to_list first ++ more)) one
    ∙ ap (λ (r : Result (List Area) ElfError). r >>= λ more. Ok (option_to_list (area_if base file s) ++ more)) others
    ∙ ap (λ (xs : List Area). Ok xs) (listed base file (is_loaded s) s (filter is_loaded rest))

header_again : (file : List ℕ) (image : Image) → ElfImage file image → header_of file ≡ Ok (header_count file)
unfolding header_of told_by named_by sized_by
header_again file image h =
    let told : told_by file ≡ Ok (header_count file) = if_false _ _ _ (differs _ _ h.class) ∙ if_false _ _ _ (differs _ _ h.order) ∙ if_false _ _ _ (differs _ _ h.version) in
    let named : named_by file ≡ Ok (header_count file) = if_false _ _ _ (differs _ _ h.kind) ∙ if_false _ _ _ (differs _ _ h.machine) ∙ if_false _ _ _ (differs _ _ h.file_version) in
    let some : header_count file ≢ 0 = λ e. omega (arith, h.some) in
    let sized : sized_by file ≡ Ok (header_count file)
    = if_false _ _ _ (differs _ _ h.header_bytes) ∙ if_false _ _ _ (differs _ _ h.program_header_bytes) ∙ if_false _ _ _ (no_or _ _ (ne_eqb _ _ some) (le-ltb _ _ h.few)) ∙ if_false _ _ _ (le-ltb _ _ h.there) in
    if_false _ _ _ (le-ltb _ _ h.long)
    ∙ ap (λ (r : Result ℕ ElfError). (r >>= λ t. named_by file) >>= λ n. sized_by file) told
    ∙ ap (λ (r : Result ℕ ElfError). r >>= λ n. sized_by file) named
    ∙ sized

image_parts : (image : Image) (base : Base) (transfer : ℕ) (areas : List Area) → image.base ≡ base → image.transfer ≡ transfer → image.areas ≡ areas → record { base = base; transfer = transfer; areas = areas } ≡ image
image_parts image base transfer areas e f g = rw (sym e, sym f, sym g) refl

pub read_again : (file : List ℕ) (image : Image) → ElfImage file image → image_of file ≡ Ok image
unfolding image_of ended
read_again file image h =
    let base = base_of (entry_of file) in
    let text = areas_of base file (segments_of file) in
    let areas : image.areas ≡ text = h.areas ∙ ap (λ (b : Base). areas_of b file (segments_of file)) h.base in
    let is = h.formed in
    let up : AscendFrom base (first_page base) text = subst (λ (b : Base). AscendFrom b (first_page b) text) h.base (subst (λ (xs : List Area). AscendFrom image.base (first_page image.base) xs) areas is.areas) in
    let segments : All (IsSegment base (length file)) (segments_of file) = subst (λ (b : Base). All (IsSegment b (length file)) (segments_of file)) h.base h.segments in
    let none : length text ≢ 0 = λ e. omega (arith, is.some, ap length areas, e) in
    let begins : is_in text (entry_of file) ≡ true = subst (λ (xs : List Area). is_in xs (entry_of file) ≡ true) areas (subst (λ (t : ℕ). is_in image.areas t ≡ true) h.transfer is.begins) in
    ap (λ (r : Result ℕ ElfError). (r >>= λ count. areas_at base (first_page base) file (headers_begin file) count) >>= λ xs. ended file xs) (header_again file image h)
    ∙ ap (λ (r : Result (List Area) ElfError). r >>= λ xs. ended file xs) (all_again base (first_page base) file (headers_begin file) (header_count file) segments up)
    ∙ if_false _ _ _ (ne_eqb _ _ none)
    ∙ if_false _ _ _ (ap not begins)
    ∙ ap (λ (i : Image). Ok i) (image_parts image base (entry_of file) text h.base h.transfer areas)
