-- What the machine does where bytes stand at PC is what the grammar reads of them.
use Rattle.std.proofs.Common.{◌≡◌, ℕ, suc, zero, ◌+◌, ◌*◌, ◌^◌, ◌<◌, ◌≤◌, false, cond, Option, Some, None, List, [], ◌∷◌, ◌++◌, length, take, drop, replicate, eqb, leb, refl, sym, ap, ◌∙◌, arith, inl, inr, length-set, append-nil}
use Rattle.std.proofs.lemmas.Bool.{cases_Bool, eqb-true, leb-true}
use Rattle.std.proofs.lemmas.List.{get_or-set_same}
use Rattle.vax_space.specs.declared.Area.{Area}
use Rattle.vax_isa.specs.declared.OperandKind.{OperandKind}
use Rattle.vax_isa.specs.declared.Letter.{Letter}
use Rattle.vax_isa.specs.declared.Letter.TheVariants as letter
use Rattle.vax_flat.specs.declared.Exception.TheVariants.{Mode}
use Rattle.vax_flat.specs.declared.Form.{Form}
use Rattle.vax_flat.specs.declared.Form.TheVariants as form
use Rattle.vax_flat.specs.declared.Operand.{Operand}
use Rattle.vax_flat.specs.declared.Operand.TheVariants as operand
use Rattle.vax_flat.specs.Memory.{after, byte_at, number, bytes_from}
use Rattle.vax_flat.specs.State.{State, register}
use Rattle.vax_flat.specs.Accesses.{Accesses, Raises, Leaf}
use Rattle.vax_flat.specs.Outcome.{outcome_of, touches_of}
use Rattle.vax_flat.specs.Operand.{form_of, extended, plus, read_at, fetched, at_address, literal, in_register, reaches_pc, addressed, is_reserved, is_no_base, indexed, in_memory, after_prefix, formed, specified, branched, next_operand}
use Rattle.vax_flat.specs.Grammar.{Place, Deferred, Decrement, Increment, IncrementDeferred, Absolute, Displaced, DisplacedDeferred, Specifier, Literal, Register, Immediate, InMemory, Indexed, BranchBy, Reading, Reads, Reserved, value_of_bytes, piece, placed, based, unindexed, incremented, is_read, in_a_register, read_form, read_specifier, read_displacement, read_operand}
use Rattle.vax_flat.specs.Evaluation.{past, place_pieces, pieces, passed, place_address, immediate, evaluated, comes_to, AreAhead, DoSame}

-- PC
pub pc_past : (count : ℕ) (s : State) → length s.core.regs ≡ 16 → register (past count s) 15 ≡ plus (register s 15) count
pc_past count s h = get_or-set_same s.core.regs 15 _ 0 (omega arith)

-- the bytes at an address
number_of_bytes : (f : ℕ → ℕ) (w addr : ℕ) (bytes : List ℕ) → bytes_from f addr (length bytes) ≡ bytes → w ≤ length bytes → number f addr w ≡ value_of_bytes (take w bytes)
unfolding number bytes_from value_of_bytes
number_of_bytes f zero addr bytes e h = refl
number_of_bytes f (suc w) addr [] e h = absurd (omega arith)
number_of_bytes f (suc w) addr (b ∷ bs) e h =
    let first : f addr ≡ b = cc in
    let rest : bytes_from f (after addr) (length bs) ≡ bs = cc in
    rw (first, number_of_bytes f w (after addr) bs rest (omega arith)) refl

bytes_behind : (f : ℕ → ℕ) (w addr : ℕ) (bytes : List ℕ) → addr < 2 ^ 32 → bytes_from f addr (length bytes) ≡ bytes → w ≤ length bytes → bytes_from f (plus addr w) (length (drop w bytes)) ≡ drop w bytes
unfolding bytes_from
bytes_behind f zero addr bytes r e h = let same : plus addr zero ≡ addr = omega arith in rw same e
bytes_behind f (suc w) addr [] r e h = absurd (omega arith)
bytes_behind f (suc w) addr (b ∷ bs) r e h =
    let rest : bytes_from f (after addr) (length bs) ≡ bs = cc in
    let same : plus addr (suc w) ≡ plus (after addr) w = omega arith in
    rw same (bytes_behind f w (after addr) bs (omega arith) rest (omega arith))

pub ahead_past : (memory : List Area) (s : State) (bytes : List ℕ) (w : ℕ) → AreAhead memory s bytes → w ≤ length bytes → AreAhead memory (past w s) (drop w bytes)
ahead_past memory s bytes w a h = record {
  registers = length-set s.core.regs 15 _ ∙ a.registers;
  pc = rw (pc_past w s a.registers) (omega arith);
  are = rw (pc_past w s a.registers) (bytes_behind (byte_at memory) w (register s 15) bytes a.pc a.are h);
}

byte_alone : (byte : ℕ) (bytes : List ℕ) → value_of_bytes (take 1 (byte ∷ bytes)) ≡ byte
unfolding value_of_bytes
byte_alone byte bytes = omega arith

-- trees that do the same
pub same_itself : (memory : List Area) (tree : Accesses Leaf) → DoSame memory tree tree
same_itself memory tree = record { outcome = refl; touches = refl }

pub same_then : (memory : List Area) (a b c : Accesses Leaf) → DoSame memory a b → DoSame memory b c → DoSame memory a c
same_then memory a b c x y = record { outcome = x.outcome ∙ y.outcome; touches = x.touches ∙ y.touches }

-- a piece of the instruction, which is the number that its bytes are
same_fetched : (memory : List Area) (s : State) (bytes : List ℕ) (w : ℕ) (f g : ℕ → State → Accesses Leaf) → AreAhead memory s bytes → w ≤ length bytes → DoSame memory (f (value_of_bytes (take w bytes)) (past w s)) (g (value_of_bytes (take w bytes)) (past w s)) → DoSame memory (fetched w s f) (fetched w s g)
unfolding fetched read_at outcome_of touches_of
same_fetched memory s bytes w f g a h same =
    let value : number (byte_at memory) (register s 15) w ≡ value_of_bytes (take w bytes) = number_of_bytes (byte_at memory) w (register s 15) bytes a.are h in
    record { outcome = rw (value, same.outcome) refl; touches = rw (value, same.touches) refl }

pub same_either : (memory : List Area) (s : State) (w : ℕ) (f g : State → Accesses Leaf) → DoSame memory (f (past w s)) (g (past w s)) → DoSame memory (fetched w s (λ value t. f t)) (fetched w s (λ value t. g t))
unfolding fetched read_at outcome_of touches_of
same_either memory s w f g same = record { outcome = rw same.outcome refl; touches = rw same.touches refl }

pub same_first : (memory : List Area) (s : State) (byte : ℕ) (bytes : List ℕ) (f : ℕ → State → Accesses Leaf) (g : State → Accesses Leaf) → AreAhead memory s (byte ∷ bytes) → DoSame memory (f byte (past 1 s)) (g (past 1 s)) → DoSame memory (fetched 1 s f) (fetched 1 s (λ value t. g t))
same_first memory s byte bytes f g a same =
    same_fetched memory s (byte ∷ bytes) 1 f (λ value t. g t) a (omega arith) (rw (byte_alone byte bytes) same)

-- the state after pieces
unfoldable pub after_pieces : List ℕ → State → State
after_pieces [] s = s
after_pieces (width ∷ widths) s = after_pieces widths (past width s)

-- one more piece
passed_piece : (memory : List Area) (front : List ℕ) (s : State) (bytes : List ℕ) (w : ℕ) (tree : ℕ → State → Accesses Leaf) → AreAhead memory (after_pieces front s) bytes → w ≤ length bytes → DoSame memory (passed front s (λ t. fetched w t tree)) (passed (front ++ w ∷ []) s (λ t. tree (value_of_bytes (take w bytes)) t))
unfolding passed after_pieces
passed_piece memory [] s bytes w tree a h = same_fetched memory s bytes w tree (λ value t. tree (value_of_bytes (take w bytes)) t) a h (same_itself memory _)
passed_piece memory (width ∷ front) s bytes w tree a h = same_either memory s width _ _ (passed_piece memory front (past width s) bytes w tree a h)

-- where there is a reading, a tree behind pieces of the instruction does what was read
abbrev pub IsRead : OperandKind → List Area → State → (Operand → State → Accesses Leaf) → List ℕ → Option Reading → (State → Accesses Leaf) → Type 0
IsRead kind memory s next front reading tree =
    (r : Reading) → reading ≡ Some r → DoSame memory (passed front s tree) (comes_to kind r s next)

module _ (kind : OperandKind) (memory : List Area) (s : State) (next : Operand → State → Accesses Leaf) where
  known : (front : List ℕ) (r : Reading) (tree : State → Accesses Leaf) → passed front s tree ≡ comes_to kind r s next → IsRead kind memory s next front (Some r) tree
  known front r tree h other e =
      let same : r ≡ other = cc in
      rw (← same) (rw h (same_itself memory _))

  raises : (count : ℕ) → IsRead kind memory s next (replicate count 1) (Some (Reserved count)) (λ t. Raises Mode)
  unfolding comes_to
  raises count = known (replicate count 1) (Reserved count) (λ t. Raises Mode) refl

  piece_agrees : (front : List ℕ) (w : ℕ) (bytes : List ℕ) (reading : ℕ → Option Reading) (tree : ℕ → State → Accesses Leaf) → AreAhead memory (after_pieces front s) bytes → ((v : ℕ) → IsRead kind memory s next (front ++ w ∷ []) (reading v) (tree v)) → IsRead kind memory s next front (piece w bytes reading) (λ t. fetched w t tree)
  unfolding piece
  piece_agrees front w bytes reading tree a h r e =
      elim (cases_Bool (leb w (length bytes))) [
        | inl enough ↦
            let there : reading (value_of_bytes (take w bytes)) ≡ Some r = rw enough at e in
            same_then memory _ _ _ (passed_piece memory front s bytes w tree a (leb-true w (length bytes) enough)) (h (value_of_bytes (take w bytes)) r there)
        | inr few ↦ let none : None ≡ Some r = rw few at e in cc
      ]

  -- a memory form
  abbrev IsMadeAs : ℕ → (Place → Specifier) → (ℕ → State → Accesses Leaf) → Type 0
  IsMadeAs count make found =
      (place : Place) (c : ℕ) → passed (replicate count 1 ++ place_pieces place) s (λ t. place_address kind.width place t found) ≡ comes_to kind (Reads (make place) c) s next

  alone : (count : ℕ) (place : Place) (make : Place → Specifier) (found : ℕ → State → Accesses Leaf) → place_pieces place ≡ [] → IsMadeAs count make found → IsRead kind memory s next (replicate count 1) (Some (Reads (make place) count)) (λ t. place_address kind.width place t found)
  alone count place make found none law =
      known (replicate count 1) _ _ (ap (λ front. passed front s (λ t. place_address kind.width place t found)) (sym (append-nil (replicate count 1)) ∙ ap (λ l. replicate count 1 ++ l) (sym none)) ∙ law place count)

  placed_agrees : (shape : Form) (make : Place → Specifier) (count : ℕ) (bytes : List ℕ) (found : ℕ → State → Accesses Leaf) → AreAhead memory (after_pieces (replicate count 1) s) bytes → IsMadeAs count make found → IsRead kind memory s next (replicate count 1) (placed shape make count bytes) (λ t. addressed kind.width shape t found)
  unfolding placed addressed place_address place_pieces fetched
  placed_agrees (form.Literal value) make count bytes found a law = raises count
  placed_agrees (form.Index x) make count bytes found a law = raises count
  placed_agrees (form.Register n) make count bytes found a law = raises count
  placed_agrees (form.Deferred n) make count bytes found a law = alone count (Deferred n) make found refl law
  placed_agrees (form.Decrement n) make count bytes found a law = alone count (Decrement n) make found refl law
  placed_agrees (form.Increment n) make count bytes found a law = alone count (Increment n) make found refl law
  placed_agrees (form.IncrementDeferred n) make count bytes found a law =
      elim (cases_Bool (eqb n 15)) [
        | inl pc ↦
            let is_pc : n ≡ 15 = eqb-true n 15 pc in
            rw is_pc (piece_agrees (replicate count 1) 4 bytes (λ addr. Some (Reads (make (Absolute addr)) (count + 4))) found a (λ v. known _ _ _ (law (Absolute v) (count + 4))))
        | inr other ↦ rw other (alone count (IncrementDeferred n) make found refl law)
      ]
  placed_agrees (form.Displacement width n) make count bytes found a law =
      piece_agrees (replicate count 1) width bytes (λ value. Some (Reads (make (Displaced width (extended width value) n)) (count + width))) (λ v (t : State). found (plus (register t n) (extended width v)) t) a
      (λ v. known _ _ _ (law (Displaced width (extended width v) n) (count + width)))
  placed_agrees (form.DisplacementDeferred width n) make count bytes found a law =
      piece_agrees (replicate count 1) width bytes (λ value. Some (Reads (make (DisplacedDeferred width (extended width value) n)) (count + width))) (λ v (t : State). read_at (plus (register t n) (extended width v)) 4 t found) a
      (λ v. known _ _ _ (law (DisplacedDeferred width (extended width v) n) (count + width)))

  unindexed_agrees : (shape : Form) (bytes : List ℕ) → AreAhead memory (past 1 s) bytes → IsRead kind memory s next (1 ∷ []) (unindexed kind.letter shape bytes) (λ t. in_memory kind shape t next)
  unfolding unindexed in_memory evaluated comes_to pieces after_pieces
  unindexed_agrees shape bytes a =
      elim (cases_Bool (is_reserved kind.letter shape)) [
        | inl here ↦ rw here (raises 1)
        | inr other ↦ rw other (placed_agrees shape InMemory 1 bytes (λ addr t. at_address kind addr t next) a (λ place c. refl))
      ]

  indexed_agrees : (x : ℕ) (shape : Form) (bytes : List ℕ) → AreAhead memory (past 1 (past 1 s)) bytes → IsRead kind memory s next (1 ∷ 1 ∷ []) (cond (is_no_base x shape) (Some (Reserved 2)) (placed shape (λ place. Indexed place x) 2 bytes)) (λ t. indexed kind x shape t next)
  unfolding indexed evaluated comes_to pieces after_pieces
  indexed_agrees x shape bytes a =
      elim (cases_Bool (is_no_base x shape)) [
        | inl here ↦ rw here (raises 2)
        | inr other ↦ rw other (placed_agrees shape (λ place. Indexed place x) 2 bytes (λ addr (t : State). at_address kind (plus addr (kind.width * register t x)) t next) a (λ place c. refl))
      ]

  byte_piece : (front : List ℕ) (byte : ℕ) (bytes : List ℕ) (reading : Option Reading) (tree : ℕ → State → Accesses Leaf) → AreAhead memory (after_pieces front s) (byte ∷ bytes) → IsRead kind memory s next (front ++ 1 ∷ []) reading (tree byte) → IsRead kind memory s next front reading (λ t. fetched 1 t tree)
  byte_piece front byte bytes reading tree a h r e =
      let value : value_of_bytes (take 1 (byte ∷ bytes)) ≡ byte = byte_alone byte bytes in
      let first : DoSame memory (passed front s (λ t. fetched 1 t tree)) (passed (front ++ 1 ∷ []) s (λ t. tree (value_of_bytes (take 1 (byte ∷ bytes))) t)) = passed_piece memory front s (byte ∷ bytes) 1 tree a (omega arith) in
      same_then memory _ _ _ (rw value at first) (h r e)

  based_agrees : (x : ℕ) (bytes : List ℕ) → AreAhead memory (past 1 s) bytes → IsRead kind memory s next (1 ∷ []) (based x bytes) (λ t. fetched 1 t (λ byte t. indexed kind x (form_of byte) t next))
  unfolding based after_pieces
  based_agrees x [] a = λ r e. cc
  based_agrees x (byte ∷ bytes) a =
      byte_piece (1 ∷ []) byte bytes _ (λ byte t. indexed kind x (form_of byte) t next) a
      (indexed_agrees x (form_of byte) bytes (ahead_past memory (past 1 s) (byte ∷ bytes) 1 a (omega arith)))

  index_agrees : (x : ℕ) (bytes : List ℕ) → AreAhead memory (past 1 s) bytes → IsRead kind memory s next (1 ∷ []) (cond (eqb x 15) (Some (Reserved 1)) (based x bytes)) (λ t. after_prefix kind x t next)
  unfolding after_prefix
  index_agrees x bytes a =
      elim (cases_Bool (eqb x 15)) [
        | inl here ↦ rw here (raises 1)
        | inr other ↦ rw other (based_agrees x bytes a)
      ]

  literal_agrees : (l : Letter) (value : ℕ) → IsRead kind memory s next (1 ∷ []) (cond (is_read l) (Some (Reads (Literal value) 1)) (Some (Reserved 1))) (λ t. literal l value t next)
  unfolding literal evaluated comes_to pieces
  literal_agrees letter.Read value = known (1 ∷ []) _ _ refl
  literal_agrees letter.Modify value = raises 1
  literal_agrees letter.Write value = raises 1
  literal_agrees letter.Address value = raises 1
  literal_agrees letter.Field value = raises 1
  literal_agrees letter.Branch value = raises 1

-- an operand in a register
by_letter : (l : Letter) (width n : ℕ) (memory : List Area) (s : State) (next : Operand → State → Accesses Leaf) → reaches_pc width n ≡ false → IsRead (record { letter = l; width = width }) memory s next (1 ∷ []) (in_a_register (record { letter = l; width = width }) n) (λ t. in_register (record { letter = l; width = width }) n t next)
unfolding in_a_register in_register evaluated comes_to pieces
by_letter letter.Read width n memory s next h = rw h (known (record { letter = letter.Read; width = width }) memory s next (1 ∷ []) (Reads (Register n) 1) _ (rw h refl))
by_letter letter.Modify width n memory s next h = rw h (known (record { letter = letter.Modify; width = width }) memory s next (1 ∷ []) (Reads (Register n) 1) _ (rw h refl))
by_letter letter.Write width n memory s next h = rw h (known (record { letter = letter.Write; width = width }) memory s next (1 ∷ []) (Reads (Register n) 1) _ (rw h refl))
by_letter letter.Address width n memory s next h = rw h (raises (record { letter = letter.Address; width = width }) memory s next 1)
by_letter letter.Field width n memory s next h = rw h (known (record { letter = letter.Field; width = width }) memory s next (1 ∷ []) (Reads (Register n) 1) _ (rw h refl))
by_letter letter.Branch width n memory s next h = rw h (raises (record { letter = letter.Branch; width = width }) memory s next 1)

in_register_agrees : (l : Letter) (width n : ℕ) (memory : List Area) (s : State) (next : Operand → State → Accesses Leaf) → IsRead (record { letter = l; width = width }) memory s next (1 ∷ []) (in_a_register (record { letter = l; width = width }) n) (λ t. in_register (record { letter = l; width = width }) n t next)
unfolding in_a_register in_register
in_register_agrees l width n memory s next =
    elim (cases_Bool (reaches_pc width n)) [
      | inl pc ↦ rw pc (raises (record { letter = l; width = width }) memory s next 1)
      | inr other ↦ by_letter l width n memory s next other
    ]

-- an immediate of which the address is taken
immediate_unread : (kind : OperandKind) (memory : List Area) (s : State) (next : Operand → State → Accesses Leaf) (bytes : List ℕ) → is_read kind.letter ≡ false → IsRead kind memory s next (1 ∷ []) (piece kind.width bytes (λ value. Some (Reads (Immediate value) (1 + kind.width)))) (λ t. at_address kind (register t 15) (past kind.width t) next)
unfolding piece comes_to pieces evaluated immediate
immediate_unread kind memory s next bytes unread =
    elim (cases_Bool (leb kind.width (length bytes))) [
      | inl enough ↦ rw enough (known kind memory s next (1 ∷ []) _ _ (rw unread refl))
      | inr few ↦ rw few (λ r e. cc)
    ]

immediate_agrees : (l : Letter) (width : ℕ) (memory : List Area) (s : State) (next : Operand → State → Accesses Leaf) (bytes : List ℕ) → AreAhead memory (past 1 s) bytes → IsRead (record { letter = l; width = width }) memory s next (1 ∷ []) (piece width bytes (λ value. Some (Reads (Immediate value) (1 + width)))) (λ t. at_address (record { letter = l; width = width }) (register t 15) (past width t) next)
unfolding at_address read_at fetched immediate evaluated comes_to pieces after_pieces
immediate_agrees letter.Read width memory s next bytes a =
    piece_agrees (record { letter = letter.Read; width = width }) memory s next (1 ∷ []) width bytes (λ value. Some (Reads (Immediate value) (1 + width))) (λ v t. next (operand.Value v) t) a
    (λ v. known (record { letter = letter.Read; width = width }) memory s next (1 ∷ width ∷ []) (Reads (Immediate v) (1 + width)) _ refl)
immediate_agrees letter.Modify width memory s next bytes a = immediate_unread (record { letter = letter.Modify; width = width }) memory s next bytes refl
immediate_agrees letter.Write width memory s next bytes a = immediate_unread (record { letter = letter.Write; width = width }) memory s next bytes refl
immediate_agrees letter.Address width memory s next bytes a = immediate_unread (record { letter = letter.Address; width = width }) memory s next bytes refl
immediate_agrees letter.Field width memory s next bytes a = immediate_unread (record { letter = letter.Field; width = width }) memory s next bytes refl
immediate_agrees letter.Branch width memory s next bytes a = immediate_unread (record { letter = letter.Branch; width = width }) memory s next bytes refl

incremented_agrees : (kind : OperandKind) (memory : List Area) (s : State) (next : Operand → State → Accesses Leaf) (n : ℕ) (bytes : List ℕ) → AreAhead memory (past 1 s) bytes → IsRead kind memory s next (1 ∷ []) (incremented kind n bytes) (λ t. in_memory kind (form.Increment n) t next)
unfolding incremented in_memory addressed place_address evaluated comes_to pieces place_pieces
incremented_agrees kind memory s next n bytes a =
    elim (cases_Bool (is_reserved kind.letter (form.Increment n))) [
      | inl here ↦ rw here (raises kind memory s next 1)
      | inr other ↦
          elim (cases_Bool (eqb n 15)) [
            | inl pc ↦ let is_pc : n ≡ 15 = eqb-true n 15 pc in rw (other, pc) (rw is_pc (immediate_agrees kind.letter kind.width memory s next bytes a))
            | inr plain ↦ rw (other, plain) (known kind memory s next (1 ∷ []) (Reads (InMemory (Increment n)) 1) _ refl)
          ]
    ]

-- a specifier, by the form of its first byte
form_agrees : (kind : OperandKind) (shape : Form) (memory : List Area) (s : State) (next : Operand → State → Accesses Leaf) (bytes : List ℕ) → AreAhead memory (past 1 s) bytes → IsRead kind memory s next (1 ∷ []) (read_form kind shape bytes) (λ t. formed kind shape t next)
unfolding read_form formed
form_agrees kind (form.Literal value) memory s next bytes a = literal_agrees kind memory s next kind.letter value
form_agrees kind (form.Index x) memory s next bytes a = index_agrees kind memory s next x bytes a
form_agrees kind (form.Register n) memory s next bytes a = in_register_agrees kind.letter kind.width n memory s next
form_agrees kind (form.Deferred n) memory s next bytes a = unindexed_agrees kind memory s next (form.Deferred n) bytes a
form_agrees kind (form.Decrement n) memory s next bytes a = unindexed_agrees kind memory s next (form.Decrement n) bytes a
form_agrees kind (form.Increment n) memory s next bytes a = incremented_agrees kind memory s next n bytes a
form_agrees kind (form.IncrementDeferred n) memory s next bytes a = unindexed_agrees kind memory s next (form.IncrementDeferred n) bytes a
form_agrees kind (form.Displacement width n) memory s next bytes a = unindexed_agrees kind memory s next (form.Displacement width n) bytes a
form_agrees kind (form.DisplacementDeferred width n) memory s next bytes a = unindexed_agrees kind memory s next (form.DisplacementDeferred width n) bytes a

specifier_agrees : (kind : OperandKind) (memory : List Area) (s : State) (next : Operand → State → Accesses Leaf) (bytes : List ℕ) → AreAhead memory s bytes → IsRead kind memory s next [] (read_specifier kind bytes) (λ t. specified kind t next)
unfolding read_specifier specified after_pieces
specifier_agrees kind memory s next [] a = λ r e. cc
specifier_agrees kind memory s next (byte ∷ bytes) a =
    byte_piece kind memory s next [] byte bytes _ (λ byte t. formed kind (form_of byte) t next) a
    (form_agrees kind (form_of byte) memory s next bytes (ahead_past memory s (byte ∷ bytes) 1 a (omega arith)))

displacement_agrees : (kind : OperandKind) (memory : List Area) (s : State) (next : Operand → State → Accesses Leaf) (bytes : List ℕ) → AreAhead memory s bytes → IsRead kind memory s next [] (read_displacement kind.width bytes) (λ t. branched kind.width t next)
unfolding read_displacement branched evaluated comes_to pieces after_pieces
displacement_agrees kind memory s next bytes a =
    piece_agrees kind memory s next [] kind.width bytes (λ value. Some (Reads (BranchBy (extended kind.width value)) kind.width)) (λ value (t : State). next (operand.Target (plus (register t 15) (extended kind.width value))) t) a
    (λ v. known kind memory s next (kind.width ∷ []) (Reads (BranchBy (extended kind.width v)) kind.width) _ refl)

read_by_letter : (l : Letter) (width : ℕ) (memory : List Area) (s : State) (next : Operand → State → Accesses Leaf) (bytes : List ℕ) → AreAhead memory s bytes → IsRead (record { letter = l; width = width }) memory s next [] (read_operand (record { letter = l; width = width }) bytes) (λ t. next_operand (record { letter = l; width = width }) t next)
unfolding read_operand next_operand
read_by_letter letter.Read width memory s next bytes a = specifier_agrees (record { letter = letter.Read; width = width }) memory s next bytes a
read_by_letter letter.Modify width memory s next bytes a = specifier_agrees (record { letter = letter.Modify; width = width }) memory s next bytes a
read_by_letter letter.Write width memory s next bytes a = specifier_agrees (record { letter = letter.Write; width = width }) memory s next bytes a
read_by_letter letter.Address width memory s next bytes a = specifier_agrees (record { letter = letter.Address; width = width }) memory s next bytes a
read_by_letter letter.Field width memory s next bytes a = specifier_agrees (record { letter = letter.Field; width = width }) memory s next bytes a
read_by_letter letter.Branch width memory s next bytes a = displacement_agrees (record { letter = letter.Branch; width = width }) memory s next bytes a

-- one operand
pub operand_agrees : (kind : OperandKind) (memory : List Area) (s : State) (next : Operand → State → Accesses Leaf) (bytes : List ℕ) → AreAhead memory s bytes → (r : Reading) → read_operand kind bytes ≡ Some r → DoSame memory (next_operand kind s next) (comes_to kind r s next)
unfolding passed
operand_agrees kind memory s next bytes a = read_by_letter kind.letter kind.width memory s next bytes a
