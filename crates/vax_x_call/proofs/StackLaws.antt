-- Lists of registers, pushed and popped one after the other.
use Rattle.std.proofs.Common.{◌≡◌, ℕ, zero, suc, ◌+◌, ◌-◌, ◌/◌, ◌%◌, ◌<◌, ◌≤◌, Bool, true, false, cond, Result, Ok, Err, List, [], ◌∷◌, ◌++◌, length, map, refl, ap, sym, subst, ◌∙◌, append_assoc, append-nil, add-one, arith}
use Rattle.std.specs.Prelude.{reverse, ◌==◌}
use Rattle.std.specs.List.{filter, range_with_len}
use Rattle.std.proofs.Math.Path.{fun_ext}
use Rattle.std.proofs.lemmas.List.{map-id, map-append, reverse-append}
use Rattle.std.proofs.lemmas.List.FromFn.{filter_of_map_range_with_len_more}
use Rattle.vax_word.specs.Status.{is_one}
use Rattle.vax_flat.specs.State.{State, register, with_register, mode}
use Rattle.std.specs.Result.{IsErr}
use Rattle.vax_flat.specs.Port.{View}
use Rattle.vax_flat.specs.Accesses.{Accesses, Reads, Leaf}
use Rattle.vax_flat.specs.Operand.{plus, read_at, write_at}
use Rattle.vax_undo.specs.declared.txn.CutShort.{CutShort}
use Rattle.vax_undo.specs.declared.txn.Txn.{Txn as Transaction}
use Rattle.vax_undo.specs.Trail.{Trail, Landing, Breaks, lands_on}
use Rattle.vax_undo.specs.Transaction.{Keeps, told}
use Rattle.vax_x_call.specs.Stack.{links_pushed, links_restored, restored_if, saved_if}
use Rattle.vax_flat.specs.Call.{pushed_one, pushed_below, popped_from, named, with_registers, saved, restored, linked, frame}

-- the registers below the next number
named_more : (count mask : ℕ) → named (suc count) mask ≡ named count mask ++ cond (is_one mask count) (count ∷ []) []
unfolding named
named_more count mask =
    let p : ℕ → Bool = is_one mask in
    ap (λ n. filter p (range_with_len 0 n)) (sym (add-one count))
    ∙ ap (filter p) (sym (map-id (range_with_len 0 (count + 1))))
    ∙ filter_of_map_range_with_len_more p (λ x. x) 0 count count (omega arith)
    ∙ ap (λ xs. filter p xs ++ cond (p count) (count ∷ []) []) (map-id (range_with_len 0 count))

-- a register that isn't named
unnamed : (count mask : ℕ) → is_one mask count ≡ false → named (suc count) mask ≡ named count mask
unnamed count mask h = named_more count mask ∙ (ap (λ b. named count mask ++ cond b (count ∷ []) []) h ∙ append-nil (named count mask))

zero_bit : (x : ℕ) → x ≡ 0 → (x == 1) ≡ false
zero_bit x h = rw h refl

-- so many registers from a number on aren't named
none_from : (low mask more : ℕ) → ((k : ℕ) → k < more → is_one mask (low + k) ≡ false) → named low mask ≡ named (low + more) mask
none_from low mask zero bits = let e : low ≡ low + 0 = omega arith in ap (λ k. named k mask) e
none_from low mask (suc more) bits =
    let e : suc (low + more) ≡ low + suc more = omega arith in
    none_from low mask more (λ k b. bits k (omega arith))
    ∙ sym (unnamed (low + more) mask (bits more (omega arith)))
    ∙ ap (λ k. named k mask) e

-- no register from R8 on is named
pub none_from_8 : (count mask : ℕ) → 8 < count → count ≤ 15 → mask / 256 % 128 ≡ 0 → named 8 mask ≡ named count mask
none_from_8 count mask low high h =
    let e : 8 + (count - 8) ≡ count = omega arith in
    subst (λ k. named 8 mask ≡ named k mask) e (none_from 8 mask (count - 8) (λ k b. bit k (omega arith)))
  where
    bit : (k : ℕ) → k < 7 → is_one mask (8 + k) ≡ false
    bit zero b = zero_bit _ (omega (arith, h))
    bit (suc zero) b = zero_bit _ (omega (arith, h))
    bit (suc (suc zero)) b = zero_bit _ (omega (arith, h))
    bit (suc (suc (suc zero))) b = zero_bit _ (omega (arith, h))
    bit (suc (suc (suc (suc zero)))) b = zero_bit _ (omega (arith, h))
    bit (suc (suc (suc (suc (suc zero))))) b = zero_bit _ (omega (arith, h))
    bit (suc (suc (suc (suc (suc (suc zero)))))) b = zero_bit _ (omega (arith, h))
    bit (suc (suc (suc (suc (suc (suc (suc k))))))) b = absurd (omega arith)

-- no register from R4 on is named
pub none_from_4 : (count mask : ℕ) → 4 < count → count ≤ 15 → mask / 16 % 2048 ≡ 0 → named 4 mask ≡ named count mask
none_from_4 count mask low high h =
    let e : 4 + (count - 4) ≡ count = omega arith in
    subst (λ k. named 4 mask ≡ named k mask) e (none_from 4 mask (count - 4) (λ k b. bit k (omega arith)))
  where
    bit : (k : ℕ) → k < 11 → is_one mask (4 + k) ≡ false
    bit zero b = zero_bit _ (omega (arith, h))
    bit (suc zero) b = zero_bit _ (omega (arith, h))
    bit (suc (suc zero)) b = zero_bit _ (omega (arith, h))
    bit (suc (suc (suc zero))) b = zero_bit _ (omega (arith, h))
    bit (suc (suc (suc (suc zero)))) b = zero_bit _ (omega (arith, h))
    bit (suc (suc (suc (suc (suc zero))))) b = zero_bit _ (omega (arith, h))
    bit (suc (suc (suc (suc (suc (suc zero)))))) b = zero_bit _ (omega (arith, h))
    bit (suc (suc (suc (suc (suc (suc (suc zero))))))) b = zero_bit _ (omega (arith, h))
    bit (suc (suc (suc (suc (suc (suc (suc (suc zero)))))))) b = zero_bit _ (omega (arith, h))
    bit (suc (suc (suc (suc (suc (suc (suc (suc (suc zero))))))))) b = zero_bit _ (omega (arith, h))
    bit (suc (suc (suc (suc (suc (suc (suc (suc (suc (suc zero)))))))))) b = zero_bit _ (omega (arith, h))
    bit (suc (suc (suc (suc (suc (suc (suc (suc (suc (suc (suc k))))))))))) b = absurd (omega arith)

-- the register just below a number is pushed before the others, if it is named
pub saved_more : (count mask top : ℕ) (s : State) (next : ℕ → State → Accesses Leaf) → saved (named (suc count) mask) top s next ≡ saved_if (is_one mask count) count top s (λ top t. saved (named count mask) top t next)
unfolding saved pushed_below pushed_one write_at
saved_more count mask top s next = ap (λ ns. pushed_below (map (register s) (reverse ns)) top s next) (named_more count mask) ∙ by (is_one mask count)
  where
    by : (b : Bool) → pushed_below (map (register s) (reverse (named count mask ++ cond b (count ∷ []) []))) top s next ≡ saved_if b count top s (λ top t. saved (named count mask) top t next)
    by true = ap (λ ns. pushed_below (map (register s) ns) top s next) (reverse-append (named count mask) (count ∷ []))
    by false = ap (λ ns. pushed_below (map (register s) (reverse ns)) top s next) (append-nil (named count mask))

pub saved_step : (n mask top : ℕ) (s : State) (next : ℕ → State → Accesses Leaf) → 0 < n → saved (named n mask) top s next ≡ saved_if (is_one mask (n - 1)) (n - 1) top s (λ top t. saved (named (n - 1) mask) top t next)
saved_step zero mask top s next some = absurd (omega arith)
saved_step (suc n) mask top s next some =
    let e : suc n - 1 ≡ n = omega arith in
    subst (λ k. saved (named (suc n) mask) top s next ≡ saved_if (is_one mask k) k top s (λ top t. saved (named k mask) top t next)) (sym e) (saved_more n mask top s next)

pub saved_none : (n mask top : ℕ) (s : State) (next : ℕ → State → Accesses Leaf) → n ≡ 0 → saved (named n mask) top s next ≡ next top s
unfolding saved named pushed_below
saved_none n mask top s next e = ap (λ k. saved (named k mask) top s next) e

-- a list that is pushed before another
pushed_append : (xs ys : List ℕ) (top : ℕ) (s : State) (next : ℕ → State → Accesses Leaf) → pushed_below (xs ++ ys) top s next ≡ pushed_below xs top s (λ top s. pushed_below ys top s next)
unfolding pushed_below
pushed_append [] ys top s next = refl
pushed_append (x ∷ xs) ys top s next = ap (λ f. pushed_one x top s f) (fun_ext λ top. fun_ext λ s. pushed_append xs ys top s next)

-- a frame is pushed register by register
pub frame_pushed : (mask word top : ℕ) (s : State) (next : ℕ → State → Accesses Leaf) → pushed_below (frame mask word s) top s next ≡ links_pushed mask word top s next
unfolding frame saved pushed_below
frame_pushed mask word top s next =
    let ns = named 12 mask in
    let turned : reverse (linked mask) ≡ reverse ns ++ (15 ∷ 13 ∷ 12 ∷ []) = reverse-append (12 ∷ 13 ∷ 15 ∷ []) ns in
    let is : frame mask word s ≡ map (register s) (reverse ns) ++ (register s 15 ∷ register s 13 ∷ register s 12 ∷ word ∷ 0 ∷ []) =
    ap (λ rs. map (register s) rs ++ (word ∷ 0 ∷ [])) turned
    ∙ ap (λ xs. xs ++ (word ∷ 0 ∷ [])) (map-append (register s) (reverse ns) (15 ∷ 13 ∷ 12 ∷ []))
    ∙ append_assoc (map (register s) (reverse ns)) (register s 15 ∷ register s 13 ∷ register s 12 ∷ []) (word ∷ 0 ∷ []) in
    ap (λ xs. pushed_below xs top s next) is ∙ pushed_append (map (register s) (reverse ns)) _ top s next

-- what is read doesn't depend on registers
moved : (count addr n value : ℕ) (s : State) (next : List ℕ → ℕ → State → Accesses Leaf) → popped_from count addr s (λ xs behind t. next xs behind (with_register t n value)) ≡ popped_from count addr (with_register s n value) next
unfolding popped_from read_at
moved zero addr n value s next = refl
moved (suc count) addr n value s next = ap (Reads addr 4 (mode s)) (fun_ext λ x. moved count (plus addr 4) n value s (λ xs. next (x ∷ xs)))

-- registers are popped one after the other
pub restored_more : (n : ℕ) (ns : List ℕ) (addr : ℕ) (s : State) (next : ℕ → State → Accesses Leaf) → restored (n ∷ ns) addr s next ≡ restored (n ∷ []) addr s (λ addr s. restored ns addr s next)
unfolding restored popped_from read_at
restored_more n ns addr s next =
    ap (Reads addr 4 (mode s)) (fun_ext λ x. moved (length ns) (plus addr 4) n x s (λ xs behind t. next behind (with_registers ns xs t)))

-- the registers from a number on that a mask names
abbrev pub rest : ℕ → ℕ → ℕ → List ℕ
rest mask n count = filter (is_one mask) (range_with_len n (count - n))

pub named_all : (mask count : ℕ) → named count mask ≡ rest mask 0 count
unfolding named
named_all mask count = let e : count ≡ count - 0 = omega arith in ap (λ k. filter (is_one mask) (range_with_len 0 k)) e

pub rest_step : (mask n count addr : ℕ) (s : State) (next : ℕ → State → Accesses Leaf) → n < count → restored (rest mask n count) addr s next ≡ restored_if (is_one mask n) n addr s (λ addr t. restored (rest mask (n + 1) count) addr t next)
rest_step mask n count addr s next h =
    let e : count - n ≡ suc (count - (n + 1)) = omega arith in
    ap (λ k. restored (filter (is_one mask) (range_with_len n k)) addr s next) e ∙ by (is_one mask n)
  where
    by : (b : Bool) → restored (cond b (n ∷ rest mask (n + 1) count) (rest mask (n + 1) count)) addr s next ≡ restored_if b n addr s (λ addr t. restored (rest mask (n + 1) count) addr t next)
    by true = restored_more n (rest mask (n + 1) count) addr s next
    by false = refl

pub rest_none : (mask n count addr : ℕ) (s : State) (next : ℕ → State → Accesses Leaf) → count ≤ n → restored (rest mask n count) addr s next ≡ next addr s
unfolding restored popped_from
rest_none mask n count addr s next h =
    let e : count - n ≡ 0 = omega arith in
    ap (λ k. restored (filter (is_one mask) (range_with_len n k)) addr s next) e

-- a frame's registers are popped one after the other
pub links_popped : (mask addr : ℕ) (s : State) (next : ℕ → State → Accesses Leaf) → restored (linked mask) addr s next ≡ links_restored mask addr s next
links_popped mask addr s next =
    let ns = named 12 mask in
    restored_more 12 (13 ∷ 15 ∷ ns) addr s next
    ∙ ap (λ f. restored (12 ∷ []) addr s f) (fun_ext λ b. fun_ext λ t.
    restored_more 13 (15 ∷ ns) b t next ∙ ap (λ f. restored (13 ∷ []) b t f) (fun_ext λ d. fun_ext λ u. restored_more 15 ns d u next))

-- what a call answers that is cut short
pub stopped : {X P : Type 0} (t : Transaction P) (r : Result X CutShort) (marked : ℕ → Bool) (trail : Trail) (next : X → Landing Leaf) → IsErr r → lands_on (told t r) marked trail next ≡ Breaks t.why marked trail
stopped t (Ok x) marked trail next e = let no : false ≡ true = e in cc
stopped t (Err short) marked trail next e = refl

-- calls one after the other
pub keeps_more : {P : Type 0} (view : P → View) (along : P → P → Type 0) (a b count : ℕ) (x y z : Transaction P) → a + b ≤ count → Keeps view along a x y → Keeps view along b y z → Keeps view along count x z
keeps_more view along a b count x y z few k l = record {
  undone = l.undone ∙ k.undone;
  ready = λ r. l.ready (k.ready r);
  room = (let r = k.room in let q = l.room in omega arith);
  closed = (let r = k.closed in let q = l.closed in omega arith);
  same = record {
    core = l.same.core ∙ k.same.core;
    term = l.same.term ∙ k.same.term;
    port = l.same.port ∙ k.same.port;
    input = l.same.input ∙ k.same.input;
    clock = λ h. l.same.clock (k.same.clock h);
    since = λ start h. l.same.since start (k.same.since start h);
  };
}

pub keeps_all : {P : Type 0} (view : P → View) (along : P → P → Type 0) (count : ℕ) (x : Transaction P) → Keeps view along count x x
keeps_all view along count x = record {
  undone = refl;
  ready = λ r. r;
  room = omega arith;
  closed = omega arith;
  same = record { core = refl; term = refl; port = refl; input = refl; clock = λ h. h; since = λ start h. h };
}
