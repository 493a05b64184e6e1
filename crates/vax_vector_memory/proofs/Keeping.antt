-- What a memory keeps, access by access.
use Rattle.std.proofs.Common.{◌≡◌, ℕ, zero, suc, ◌+◌, ◌*◌, ◌/◌, ◌%◌, ◌<◌, ◌≤◌, Bool, true, false, nat_lt, Option, Some, None, Ok, Err, List, [], ◌∷◌, ◌++◌, length, refl, sym, ap, subst, ◌∙◌, append_assoc, append-nil, arith, IsTrue, map}
use Rattle.std.proofs.lemmas.Bool.Decides.{nat_tests}
use Rattle.std.proofs.lemmas.List.{length-map, map-append}
use Rattle.vax_space.specs.declared.Violation.{Violation}
use Rattle.std.proofs.Math.Path.{fun_ext}
use Rattle.vax_space.specs.declared.Access.{Access}
use Rattle.vax_space.specs.declared.Access.TheVariants.{Read, Write}
use Rattle.vax_flat.specs.declared.Stop.{Stop}
use Rattle.vax_flat.specs.Memory.{after, number, bytes_from}
use Rattle.vax_flat.specs.Port.{AreBytes, View, loaded_by, stop_of, unless_cut, with_number, with_run}
use Rattle.vax_undo.specs.Blocks.{low_bytes}
use Rattle.vax_undo.specs.Trail.{KeptUpTo, Made, NoneKept, Trail, noted, unless_stopped}
use Rattle.vax_undo.proofs.Numbers.{put_is}
use Rattle.vax_undo.proofs.Ranges.{bytes_length}
use Rattle.vax_vectors.specs.declared.vector.Touch.{Touch}
use Rattle.vax_vectors.specs.Truth.{AreInOrder, GivesWhatIsThere, after_access, bytes_after}
use Rattle.vax_vector_memory.specs.declared.recorder.Recorder.{Recorder}
use Rattle.vax_vector_memory.specs.Record.{IsKept, Keeps, Since, made_of, most_kept, trail_by, view_of}

bytes-push : (byte : ℕ → ℕ) (ts : List Touch) (t : Touch) → bytes_after byte (ts ++ t ∷ []) ≡ after_access t.access (bytes_after byte ts) t.addr t.bytes.items
unfolding bytes_after
bytes-push byte [] t = refl
bytes-push byte (s ∷ ts) t = bytes-push (after_access s.access byte s.addr s.bytes.items) ts t

order-push : (byte : ℕ → ℕ) (ts : List Touch) (t : Touch) → AreInOrder byte ts → GivesWhatIsThere t.access (bytes_after byte ts) t.addr t.bytes.items → AreInOrder byte (ts ++ t ∷ [])
unfolding AreInOrder bytes_after
order-push byte [] t all one = (one, tt)
order-push byte (s ∷ ts) t all one = (all.0, order-push (after_access s.access byte s.addr s.bytes.items) ts t all.1 one)

pub since_refl : (r : Recorder) → IsTrue r.complete → IsKept r r
unfolding AreInOrder bytes_after
since_refl r all = record { complete = all; touches = []; more = sym (append-nil r.touches.items); order = tt; bytes = refl }

module _ {start old new : Recorder} {access : Access} {addr : ℕ} {bytes : List ℕ} where
  kept_more : IsKept start old → Keeps old new access addr bytes → GivesWhatIsThere access (view_of old).byte addr bytes
      → (view_of new).byte ≡ after_access access (view_of old).byte addr bytes → IsKept start new
  kept_more k more gives leaves =
      let t = more.touch in
      let gives_so : GivesWhatIsThere t.access (bytes_after (view_of start).byte k.touches) t.addr t.bytes.items =
      subst (λ (a : Access). GivesWhatIsThere a (bytes_after (view_of start).byte k.touches) t.addr t.bytes.items) (sym more.access_is)
      (subst (λ (i : ℕ). GivesWhatIsThere access (bytes_after (view_of start).byte k.touches) i t.bytes.items) (sym more.addr_is)
      (subst (λ (bs : List ℕ). GivesWhatIsThere access (bytes_after (view_of start).byte k.touches) addr bs) (sym more.bytes_are)
      (subst (λ (f : ℕ → ℕ). GivesWhatIsThere access f addr bytes) k.bytes gives))) in
      let leaves_so : after_access access (view_of old).byte addr bytes ≡ after_access t.access (bytes_after (view_of start).byte k.touches) t.addr t.bytes.items =
      ap (λ (f : ℕ → ℕ). after_access access f addr bytes) k.bytes
      ∙ (ap (λ (bs : List ℕ). after_access access (bytes_after (view_of start).byte k.touches) addr bs) (sym more.bytes_are)
      ∙ (ap (λ (i : ℕ). after_access access (bytes_after (view_of start).byte k.touches) i t.bytes.items) (sym more.addr_is)
      ∙ ap (λ (a : Access). after_access a (bytes_after (view_of start).byte k.touches) t.addr t.bytes.items) (sym more.access_is))) in
      record {
        complete = k.complete;
        touches = k.touches ++ t ∷ [];
        more = more.more ∙ (ap (λ (ts : List Touch). ts ++ t ∷ []) k.more ∙ append_assoc start.touches.items k.touches (t ∷ []));
        order = order-push (view_of start).byte k.touches t k.order gives_so;
        bytes = leaves ∙ (leaves_so ∙ sym (bytes-push (view_of start).byte k.touches t));
      }

-- One access more. Between the old state and the new one the memory may have changed, and not what is kept.
pub since_more : {start : Recorder} {access : Access} {addr : ℕ} {bytes : List ℕ} (old mid new : Recorder) → Since start old → (IsTrue new.complete → Keeps mid new access addr bytes)
    → mid.touches.items ≡ old.touches.items → (IsTrue mid.complete → IsTrue old.complete)
    → GivesWhatIsThere access (view_of old).byte addr bytes → (view_of new).byte ≡ after_access access (view_of old).byte addr bytes → Since start new
since_more {start} {access} {addr} {bytes} old mid new since keeps same complete gives leaves all =
    let more = keeps all in
    let was = complete more.complete in
    let keeps_so : Keeps old new access addr bytes = record {
      complete = was;
      touch = more.touch;
      more = more.more ∙ ap (λ (ts : List Touch). ts ++ more.touch ∷ []) same;
      access_is = more.access_is;
      addr_is = more.addr_is;
      bytes_are = more.bytes_are;
    } in
    kept_more (since was) keeps_so gives leaves

-- the lowest bytes of the number that bytes are
low-number : (f : ℕ → ℕ) (addr n : ℕ) → AreBytes f → low_bytes n (number f addr n) ≡ bytes_from f addr n
unfolding low_bytes number bytes_from
low-number f addr zero are = refl
low-number f addr (suc n) are =
    let small = are.below addr in
    let low : (f addr + 256 * number f (after addr) n) % 256 ≡ f addr = omega arith in
    let high : (f addr + 256 * number f (after addr) n) / 256 ≡ number f (after addr) n = omega arith in
    ap (λ (b : ℕ). b ∷ low_bytes n ((f addr + 256 * number f (after addr) n) / 256)) low
    ∙ ap (λ (bs : List ℕ). f addr ∷ bs) (ap (low_bytes n) high ∙ low-number f (after addr) n are)

-- the bytes of a number that was read
pub read_is : (f : ℕ → ℕ) (addr n v : ℕ) (s : Option Stop) → AreBytes f → Ok v ≡ loaded_by s (number f addr n) → low_bytes n v ≡ bytes_from f addr n
read_is f addr n v (Some s) are e = absurd (cc)
read_is f addr n v None are e =
    let is : v ≡ number f addr n = cc in
    ap (low_bytes n) is ∙ low-number f addr n are

low-size : (n v : ℕ) → length (low_bytes n v) ≡ n
unfolding low_bytes
low-size zero v = refl
low-size (suc n) v = ap suc (low-size n (v / 256))

-- a number that was read is the number there
pub read_gives : (f : ℕ → ℕ) (addr n v : ℕ) (s : Option Stop) → AreBytes f → Ok v ≡ loaded_by s (number f addr n) → GivesWhatIsThere Read f addr (low_bytes n v)
read_gives f addr n v (Some s) are e = absurd (cc)
read_gives f addr n v None are e =
    let is : v ≡ number f addr n = cc in
    ap (low_bytes n) is ∙ (low-number f addr n are ∙ ap (bytes_from f addr) (sym (low-size n v)))

-- a number that was written
pub write_leaves : (view after : View) (addr n v old : ℕ) (s : Option Stop) (x : ℕ) → Ok old ≡ loaded_by s x → after ≡ unless_cut s view (with_number view addr n v) → after.byte ≡ after_access Write view.byte addr (low_bytes n v)
write_leaves view after addr n v old (Some s) x e is = absurd (cc)
write_leaves view after addr n v old None x e is = ap (λ (w : View). w.byte) is ∙ fun_ext (λ place. put_is view.byte addr n v place)

pub put_size : (n v : ℕ) (xs bs : List ℕ) → bs ≡ low_bytes (length xs) v → length xs ≡ n → bs ≡ low_bytes n v
put_size n v xs bs is size = is ∙ ap (λ (k : ℕ). low_bytes k v) size

-- a run that was read
pub run_gives : (f : ℕ → ℕ) (addr n : ℕ) (bs : List ℕ) → bs ≡ bytes_from f addr n → GivesWhatIsThere Read f addr bs
run_gives f addr n bs is =
    let size : n ≡ length bs = sym (ap length is ∙ bytes_length f addr n) in
    is ∙ ap (bytes_from f addr) size

-- a run that was written
pub run_leaves : (view after : View) (addr : ℕ) (bs : List ℕ) (s : Option Stop) → None ≡ s → after ≡ unless_cut s view (with_run view addr bs) → after.byte ≡ after_access Write view.byte addr bs
run_leaves view after addr bs (Some s) none is = absurd (cc)
run_leaves view after addr bs None none is = ap (λ (w : View). w.byte) is

-- one access more, where there is room
pub one_kept : (all : Bool) (old new : List Touch) (t : Touch) → length old < 4096 → new ≡ old ++ t ∷ [] → trail_by all new ≡ noted (trail_by all old) (made_of t)
unfolding noted
one_kept true old new t room is =
    let few : nat_lt (length (map made_of old)) most_kept ≡ true = rw length-map (grind (arith, nat_tests)) in
    ap (λ ts. KeptUpTo most_kept (map made_of ts)) is ∙ (ap (λ ms. KeptUpTo most_kept ms) (map-append made_of old (t ∷ [])) ∙ rw few refl)
one_kept false old new t room is = refl

-- where there is none
pub none_kept : (all : Bool) (old : List Touch) (m : Made) → 4096 ≤ length old → NoneKept ≡ noted (trail_by all old) m
unfolding noted
none_kept true old m full =
    let many : nat_lt (length (map made_of old)) most_kept ≡ false = rw length-map (grind (arith, nat_tests)) in
    rw many refl
none_kept false old m full = refl

-- a range that may be used and is there
free : (v w : Option Violation) (p : Option ℕ) (x y : ℕ) → None ≡ v → Ok y ≡ loaded_by (stop_of w p) x → stop_of v p ≡ None
free (Some v) w p x y none ok = absurd (cc)
free None (Some w) p x y none ok = absurd (cc)
free None None (Some p) x y none ok = absurd (cc)
free None None None x y none ok = refl

-- the accesses after one that is made
pub made_so : (v w : Option Violation) (p : Option ℕ) (x y : ℕ) (old new more : Trail) → None ≡ v → Ok y ≡ loaded_by (stop_of w p) x → new ≡ more → new ≡ unless_stopped (stop_of v p) old more
made_so v w p x y old new more none ok is = is ∙ ap (λ (s : Option Stop). unless_stopped s old more) (sym (free v w p x y none ok))

-- after one that is stopped
pub stopped_so : (s : Option Stop) (x : ℕ) (why : Stop) (old more : Trail) → Err why ≡ loaded_by s x → old ≡ unless_stopped s old more
stopped_so (Some s) x why old more is = refl
stopped_so None x why old more is = absurd (cc)

-- the same of runs
run_free : (v w : Option Violation) (p : Option ℕ) → None ≡ v → None ≡ stop_of w p → stop_of v p ≡ None
run_free (Some v) w p none ok = absurd (cc)
run_free None (Some w) p none ok = absurd (cc)
run_free None None (Some p) none ok = absurd (cc)
run_free None None None none ok = refl

pub run_made_so : (v w : Option Violation) (p : Option ℕ) (old new more : Trail) → None ≡ v → None ≡ stop_of w p → new ≡ more → new ≡ unless_stopped (stop_of v p) old more
run_made_so v w p old new more none ok is = is ∙ ap (λ (s : Option Stop). unless_stopped s old more) (sym (run_free v w p none ok))

pub run_stopped_so : (s : Option Stop) (why : Stop) (old more : Trail) → Some why ≡ s → old ≡ unless_stopped s old more
run_stopped_so (Some s) why old more is = refl
run_stopped_so None why old more is = absurd (cc)
