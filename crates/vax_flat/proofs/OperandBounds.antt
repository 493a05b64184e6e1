-- What operands add to what is touched: the pieces of the instruction lie in the window at PC; a pointer and a value are ranges of their own.
use Rattle.std.proofs.Common.{◌≡◌, ◌≢◌, ℕ, suc, ◌+◌, ◌*◌, ◌%◌, ◌≤◌, Bool, true, false, ◌||◌, List, [], ◌∷◌, length, refl, sym, subst, arith}
use Rattle.std.specs.Prelude.{◌==◌, nat_lt, if◌then◌else◌}
use Rattle.std.proofs.lemmas.Bool.{eqb-true}
use Rattle.vax_isa.specs.declared.OperandKind.{OperandKind}
use Rattle.vax_isa.specs.declared.Letter.{Letter}
use Rattle.vax_isa.specs.declared.Letter.TheVariants.{Read, Modify, Write, Address, Field, Branch}
use Rattle.vax_flat.specs.declared.Exception.TheVariants.{Mode}
use Rattle.vax_flat.specs.declared.Form.{Form}
use Rattle.vax_flat.specs.declared.Form.TheVariants as form
use Rattle.vax_flat.specs.declared.Operand.{Operand}
use Rattle.vax_flat.specs.declared.Operand.TheVariants as operand
use Rattle.vax_flat.specs.State.{State, register, with_register}
use Rattle.vax_flat.specs.Accesses.{Accesses, Raises, Leaf}
use Rattle.vax_flat.specs.Operand.{form_of, plus, check_at, at_address, literal, in_register, reaches_pc, register_value, addressed, is_reserved, is_no_base, indexed, in_memory, after_prefix, formed, specified, branched, next_operand}
use Rattle.vax_flat.specs.Rows.{value_at}
use Rattle.vax_flat.specs.Evaluation.{taken, next_operands}
use Rattle.vax_flat.specs.Bound.{IsClosed}
use Rattle.vax_flat.proofs.Windows.{IsPcNear, near_later, near_past, near_other, read_adds, fetched_adds, at_most, either}

-- the widths that displacements have
abbrev pub IsDisplaced : Form → Type 0
IsDisplaced (form.Literal value) = Unit {0}
IsDisplaced (form.Index x) = Unit {0}
IsDisplaced (form.Register n) = Unit {0}
IsDisplaced (form.Deferred n) = Unit {0}
IsDisplaced (form.Decrement n) = Unit {0}
IsDisplaced (form.Increment n) = Unit {0}
IsDisplaced (form.IncrementDeferred n) = Unit {0}
IsDisplaced (form.Displacement bytes n) = (1 ≤ bytes) × (bytes ≤ 4)
IsDisplaced (form.DisplacementDeferred bytes n) = (1 ≤ bytes) × (bytes ≤ 4)

chosen : (b : Bool) (x y : Form) → IsDisplaced x → IsDisplaced y → IsDisplaced (if b then x else y)
chosen true x y p q = p
chosen false x y p q = q

byte_wide : (1 ≤ 1) × (1 ≤ 4)
byte_wide = (omega arith, omega arith)

word_wide : (1 ≤ 2) × (2 ≤ 4)
word_wide = (omega arith, omega arith)

long_wide : (1 ≤ 4) × (4 ≤ 4)
long_wide = (omega arith, omega arith)

displaced_form : (byte : ℕ) → IsDisplaced (form_of byte)
unfolding form_of
displaced_form byte =
    chosen (nat_lt byte 0x40) (form.Literal byte) _ tt
    (chosen (nat_lt byte 0x50) (form.Index (byte % 16)) _ tt
    (chosen (nat_lt byte 0x60) (form.Register (byte % 16)) _ tt
    (chosen (nat_lt byte 0x70) (form.Deferred (byte % 16)) _ tt
    (chosen (nat_lt byte 0x80) (form.Decrement (byte % 16)) _ tt
    (chosen (nat_lt byte 0x90) (form.Increment (byte % 16)) _ tt
    (chosen (nat_lt byte 0xA0) (form.IncrementDeferred (byte % 16)) _ tt
    (chosen (nat_lt byte 0xB0) (form.Displacement 1 (byte % 16)) _ byte_wide
    (chosen (nat_lt byte 0xC0) (form.DisplacementDeferred 1 (byte % 16)) _ byte_wide
    (chosen (nat_lt byte 0xD0) (form.Displacement 2 (byte % 16)) _ word_wide
    (chosen (nat_lt byte 0xE0) (form.DisplacementDeferred 2 (byte % 16)) _ word_wide
    (chosen (nat_lt byte 0xF0) (form.Displacement 4 (byte % 16)) (form.DisplacementDeferred 4 (byte % 16)) long_wide long_wide)))))))))))

-- PC isn't counted down
abbrev pub IsDecrementable : Form → Type 0
IsDecrementable (form.Literal value) = Unit {0}
IsDecrementable (form.Index x) = Unit {0}
IsDecrementable (form.Register n) = Unit {0}
IsDecrementable (form.Deferred n) = Unit {0}
IsDecrementable (form.Decrement n) = n ≢ 15
IsDecrementable (form.Increment n) = Unit {0}
IsDecrementable (form.IncrementDeferred n) = Unit {0}
IsDecrementable (form.Displacement bytes n) = Unit {0}
IsDecrementable (form.DisplacementDeferred bytes n) = Unit {0}

not_fifteen : (n : ℕ) (b : Bool) → (n == 15 || b) ≡ false → n ≢ 15
not_fifteen n b h e = by (n == 15) refl h
  where
    by : (t : Bool) → (n == 15) ≡ t → (t || b) ≡ false → ⊥
    by true is h = absurd (cc)
    by false is h = let yes : (n == 15) ≡ true = rw e refl in cc

not_pc : (n : ℕ) → (n == 15) ≡ false → n ≢ 15
not_pc n h e = let yes : (n == 15) ≡ true = rw e refl in cc

not_reserved : (letter : Letter) (shape : Form) → is_reserved letter shape ≡ false → IsDecrementable shape
unfolding is_reserved
not_reserved letter (form.Literal value) h = tt
not_reserved letter (form.Index x) h = tt
not_reserved letter (form.Register n) h = tt
not_reserved letter (form.Deferred n) h = tt
not_reserved letter (form.Decrement n) h = not_pc n h
not_reserved letter (form.Increment n) h = tt
not_reserved letter (form.IncrementDeferred n) h = tt
not_reserved letter (form.Displacement bytes n) h = tt
not_reserved letter (form.DisplacementDeferred bytes n) h = tt

is_base : (x : ℕ) (shape : Form) → is_no_base x shape ≡ false → IsDecrementable shape
unfolding is_no_base
is_base x (form.Literal value) h = tt
is_base x (form.Index y) h = tt
is_base x (form.Register n) h = tt
is_base x (form.Deferred n) h = tt
is_base x (form.Decrement n) h = not_fifteen n (n == x) h
is_base x (form.Increment n) h = tt
is_base x (form.IncrementDeferred n) h = tt
is_base x (form.Displacement bytes n) h = tt
is_base x (form.DisplacementDeferred bytes n) h = tt

-- how many ranges of its own an operand has when it is taken: the pointer to it, and its value where that is read
abbrev cost : Letter → ℕ
cost Read = 2
cost Modify = 1
cost Write = 1
cost Address = 1
cost Field = 1
cost Branch = 0

abbrev cost_behind : Letter → ℕ
cost_behind Read = 0
cost_behind Modify = 1
cost_behind Write = 0
cost_behind Address = 0
cost_behind Field = 0
cost_behind Branch = 0

abbrev pub costs : List OperandKind → ℕ
costs [] = 0
costs (kind ∷ kinds) = cost kind.letter + (cost_behind kind.letter + costs kinds)

-- operands have 1 to 8 bytes
abbrev pub AreWide : List OperandKind → Type 0
AreWide [] = Unit {0}
AreWide (kind ∷ kinds) = (1 ≤ kind.width) × (kind.width ≤ 8) × AreWide kinds

module _ (Q : List ℕ → ℕ → Accesses Leaf → Type 0) (c : IsClosed Q) (w : ℕ) (ws : List ℕ) where
  -- PC or another register is set to a place behind it
  moved : (s : State) (count n width : ℕ) → 1 ≤ width → width ≤ 8 → IsPcNear s w count → IsPcNear (with_register s n (plus (register s n) width)) w (count + 8)
  moved s count n width some few p = by (n == 15) refl
    where
      by : (b : Bool) → (n == 15) ≡ b → IsPcNear (with_register s n (plus (register s n) width)) w (count + 8)
      by true e =
          let is : n ≡ 15 = eqb-true n 15 e in
          subst (λ k. IsPcNear (with_register s k (plus (register s k) width)) w (count + 8)) (sym is) (near_later _ w _ _ (omega arith) (near_past s w count width some p))
      by false e = near_later _ w _ _ (omega arith) (near_other s w count n _ (not_pc n e) p)

  module _ (n width : ℕ) (some : 1 ≤ width) (few : width ≤ 8) (s : State) (count : ℕ) (fits : count + 8 ≤ 512) (p : IsPcNear s w count)
      (next : ℕ → State → Accesses Leaf) (q : (addr : ℕ) (t : State) → IsPcNear t w (count + 8) → Q (w ∷ ws) n (next addr t)) where
    later : IsPcNear s w (count + 8)
    later = near_later s w _ _ (omega arith) p

    -- an address: its pointer is a range of its own
    pub addressed_adds : (shape : Form) → IsDisplaced shape → IsDecrementable shape → Q (w ∷ ws) (suc n) (addressed width shape s next)
    unfolding addressed
    addressed_adds (form.Literal value) d m = c.raises _ _ Mode
    addressed_adds (form.Index x) d m = c.raises _ _ Mode
    addressed_adds (form.Register k) d m = c.raises _ _ Mode
    addressed_adds (form.Deferred k) d m = c.fewer _ n _ (q _ s later)
    addressed_adds (form.Decrement k) d m = c.fewer _ n _ (q _ _ (near_other s w _ k _ m later))
    addressed_adds (form.Increment k) d m = c.fewer _ n _ (q _ _ (moved s count k width some few p))
    addressed_adds (form.IncrementDeferred k) d m = read_adds Q c _ n _ 4 s _ (omega arith) (λ pointer. q pointer _ (moved s count k 4 (omega arith) (omega arith) p))
    addressed_adds (form.Displacement bytes k) d m =
        let less : bytes ≤ 4 = d.1 in
        c.fewer _ n _ (fetched_adds Q c w ws n bytes count s _ d.0 (omega arith) p (λ displacement t near. q _ t (near_later t w _ _ (omega arith) near)))
    addressed_adds (form.DisplacementDeferred bytes k) d m =
        let less : bytes ≤ 4 = d.1 in
        fetched_adds Q c w ws (suc n) bytes count s _ d.0 (omega arith) p (λ displacement t near.
        read_adds Q c _ n _ 4 t _ (omega arith) (λ pointer. q pointer t (near_later t w _ _ (omega arith) near)))

  -- an operand at an address
  module _ (n m width : ℕ) (few : width ≤ 8) (s : State) (next : Operand → State → Accesses Leaf) (q : (o : Operand) → Q (w ∷ ws) n (next o s)) where
    at_adds : (letter : Letter) (addr : ℕ) → cost letter + n ≤ suc m → n ≤ m → Q (w ∷ ws) m (at_address (record { letter = letter; width = width }) addr s next)
    unfolding at_address check_at
    at_adds Read addr h g = at_most Q c _ (suc n) m _ (omega arith) (read_adds Q c _ n addr width s _ (omega arith) (λ x. q _))
    at_adds Modify addr h g = at_most Q c _ n m _ g (c.checks _ n addr width _ _ _ (q _))
    at_adds Write addr h g = at_most Q c _ n m _ g (q _)
    at_adds Address addr h g = at_most Q c _ n m _ g (q _)
    at_adds Field addr h g = at_most Q c _ n m _ g (q _)
    at_adds Branch addr h g = c.raises _ _ Mode

  module _ (n width : ℕ) (some : 1 ≤ width) (few : width ≤ 8) (next : Operand → State → Accesses Leaf) where
    abbrev kind : Letter → OperandKind
    kind letter = record { letter = letter; width = width }

    -- what is left of an operand whose specifier byte was read
    module _ (s : State) (count : ℕ) (fits : count + 9 ≤ 512) (p : IsPcNear s w count) (q : (o : Operand) (t : State) → IsPcNear t w (count + 9) → Q (w ∷ ws) n (next o t)) where
      here : IsPcNear s w (count + 9)
      here = near_later s w _ _ (omega arith) p

      literal_adds : (letter : Letter) (m value : ℕ) → n ≤ m → Q (w ∷ ws) m (literal letter value s next)
      unfolding literal
      literal_adds Read m value h = at_most Q c _ n m _ h (q _ s here)
      literal_adds Modify m value h = c.raises _ _ Mode
      literal_adds Write m value h = c.raises _ _ Mode
      literal_adds Address m value h = c.raises _ _ Mode
      literal_adds Field m value h = c.raises _ _ Mode
      literal_adds Branch m value h = c.raises _ _ Mode

      register_adds : (letter : Letter) (m k : ℕ) → n ≤ m → Q (w ∷ ws) m (in_register (kind letter) k s next)
      unfolding in_register
      register_adds Read m k h = either Q c _ m (reaches_pc width k) _ (next (operand.Value (register_value width k s)) s) (λ e. c.raises _ _ Mode) (λ e. at_most Q c _ n m _ h (q _ s here))
      register_adds Modify m k h = either Q c _ m (reaches_pc width k) _ (next (operand.Register k) s) (λ e. c.raises _ _ Mode) (λ e. at_most Q c _ n m _ h (q _ s here))
      register_adds Write m k h = either Q c _ m (reaches_pc width k) _ (next (operand.Register k) s) (λ e. c.raises _ _ Mode) (λ e. at_most Q c _ n m _ h (q _ s here))
      register_adds Address m k h = either Q c _ m (reaches_pc width k) (Raises Mode) (Raises Mode) (λ e. c.raises _ _ Mode) (λ e. c.raises _ _ Mode)
      register_adds Field m k h = either Q c _ m (reaches_pc width k) _ (next (operand.FieldRegister k) s) (λ e. c.raises _ _ Mode) (λ e. at_most Q c _ n m _ h (q _ s here))
      register_adds Branch m k h = either Q c _ m (reaches_pc width k) (Raises Mode) (Raises Mode) (λ e. c.raises _ _ Mode) (λ e. c.raises _ _ Mode)

      memory_adds : (letter : Letter) (m : ℕ) (shape : Form) → IsDisplaced shape → cost letter + n ≤ suc m → n ≤ m → Q (w ∷ ws) (suc m) (in_memory (kind letter) shape s next)
      unfolding in_memory
      memory_adds letter m shape d h g =
          either Q c _ (suc m) (is_reserved letter shape) _ _ (λ e. c.raises _ _ Mode) (λ e.
          addressed_adds m width some few s count (omega arith) p _ (λ addr t near. at_adds n m width few t next (λ o. q o t (near_later t w _ _ (omega arith) near)) letter addr h g) shape d (not_reserved letter shape e))

      indexed_adds : (letter : Letter) (m x : ℕ) → cost letter + n ≤ suc m → n ≤ m → Q (w ∷ ws) (suc m) (after_prefix (kind letter) x s next)
      unfolding after_prefix indexed
      indexed_adds letter m x h g =
          either Q c _ (suc m) (x == 15) _ _ (λ e. c.raises _ _ Mode) (λ e.
          fetched_adds Q c w ws (suc m) 1 count s _ (omega arith) (omega arith) p (λ byte t near.
          either Q c _ (suc m) (is_no_base x (form_of byte)) _ _ (λ f. c.raises _ _ Mode) (λ f.
          addressed_adds m width some few t (count + 1) (omega arith) near _ (λ addr u last. at_adds n m width few u next (λ o. q o u (near_later u w _ _ (omega arith) last)) letter _ h g)
          (form_of byte) (displaced_form byte) (is_base x (form_of byte) f))))

      formed_adds : (letter : Letter) (m : ℕ) (shape : Form) → IsDisplaced shape → cost letter + n ≤ suc m → n ≤ m → Q (w ∷ ws) (suc m) (formed (kind letter) shape s next)
      unfolding formed
      formed_adds letter m (form.Literal value) d h g = literal_adds letter (suc m) value (omega arith)
      formed_adds letter m (form.Index x) d h g = indexed_adds letter m x h g
      formed_adds letter m (form.Register k) d h g = register_adds letter (suc m) k (omega arith)
      formed_adds letter m (form.Deferred k) d h g = memory_adds letter m (form.Deferred k) d h g
      formed_adds letter m (form.Decrement k) d h g = memory_adds letter m (form.Decrement k) d h g
      formed_adds letter m (form.Increment k) d h g = memory_adds letter m (form.Increment k) d h g
      formed_adds letter m (form.IncrementDeferred k) d h g = memory_adds letter m (form.IncrementDeferred k) d h g
      formed_adds letter m (form.Displacement bytes k) d h g = memory_adds letter m (form.Displacement bytes k) d h g
      formed_adds letter m (form.DisplacementDeferred bytes k) d h g = memory_adds letter m (form.DisplacementDeferred bytes k) d h g

    -- one operand
    module _ (s : State) (count : ℕ) (fits : count + 10 ≤ 512) (p : IsPcNear s w count) (q : (o : Operand) (t : State) → IsPcNear t w (count + 10) → Q (w ∷ ws) n (next o t)) where
      specified_adds : (letter : Letter) (m : ℕ) → cost letter + n ≤ suc m → n ≤ m → Q (w ∷ ws) (suc m) (specified (kind letter) s next)
      unfolding specified
      specified_adds letter m h g =
          fetched_adds Q c w ws (suc m) 1 count s _ (omega arith) (omega arith) p (λ byte t near.
          formed_adds t (count + 1) (omega arith) near (λ o u last. q o u (near_later u w _ _ (omega arith) last)) letter m (form_of byte) (displaced_form byte) h g)

      pub operand_adds : (letter : Letter) → Q (w ∷ ws) (cost letter + n) (next_operand (kind letter) s next)
      unfolding next_operand branched
      operand_adds Read = at_most Q c _ (suc (suc n)) _ _ (omega arith) (specified_adds Read (suc n) (omega arith) (omega arith))
      operand_adds Modify = at_most Q c _ (suc n) _ _ (omega arith) (specified_adds Modify n (omega arith) (omega arith))
      operand_adds Write = at_most Q c _ (suc n) _ _ (omega arith) (specified_adds Write n (omega arith) (omega arith))
      operand_adds Address = at_most Q c _ (suc n) _ _ (omega arith) (specified_adds Address n (omega arith) (omega arith))
      operand_adds Field = at_most Q c _ (suc n) _ _ (omega arith) (specified_adds Field n (omega arith) (omega arith))
      operand_adds Branch =
          at_most Q c _ n _ _ (omega arith) (fetched_adds Q c w ws n width count s _ some (omega arith) p (λ displacement t near. q _ t (near_later t w _ _ (omega arith) near)))

  -- the value at a place
  value_at_adds : (n width : ℕ) → width ≤ 8 → (o : Operand) (s : State) (next : ℕ → State → Accesses Leaf) → ((x : ℕ) → Q (w ∷ ws) n (next x s)) → Q (w ∷ ws) (suc n) (value_at width o s next)
  unfolding value_at
  value_at_adds n width few (operand.Value x) s next q = c.fewer _ n _ (q _)
  value_at_adds n width few (operand.Register k) s next q = c.fewer _ n _ (q _)
  value_at_adds n width few (operand.Memory addr) s next q = read_adds Q c _ n addr width s _ (omega arith) q
  value_at_adds n width few (operand.FieldRegister k) s next q = c.fewer _ n _ (q _)
  value_at_adds n width few (operand.Target addr) s next q = c.fewer _ n _ (q _)

  taken_adds : (n width : ℕ) → width ≤ 8 → (letter : Letter) (o : Operand) (s : State) (next : Operand × ℕ → State → Accesses Leaf) → ((x : Operand × ℕ) → Q (w ∷ ws) n (next x s)) →
      Q (w ∷ ws) (cost_behind letter + n) (taken (record { letter = letter; width = width }) o s next)
  unfolding taken
  taken_adds n width few Read o s next q = at_most Q c _ n _ _ (omega arith) (q _)
  taken_adds n width few Modify o s next q = at_most Q c _ (suc n) _ _ (omega arith) (value_at_adds n width few o s _ (λ x. q _))
  taken_adds n width few Write o s next q = at_most Q c _ n _ _ (omega arith) (q _)
  taken_adds n width few Address o s next q = at_most Q c _ n _ _ (omega arith) (q _)
  taken_adds n width few Field o s next q = at_most Q c _ n _ _ (omega arith) (q _)
  taken_adds n width few Branch o s next q = at_most Q c _ n _ _ (omega arith) (q _)

  -- operands one behind another
  pub operands_add : (n : ℕ) (kinds : List OperandKind) → AreWide kinds → (s : State) (count : ℕ) → count + 10 * length kinds ≤ 512 → IsPcNear s w count → (next : List (Operand × ℕ) → State → Accesses Leaf) →
      ((xs : List (Operand × ℕ)) (t : State) → Q (w ∷ ws) n (next xs t)) → Q (w ∷ ws) (costs kinds + n) (next_operands kinds s next)
  unfolding next_operands
  operands_add n [] wide s count fits p next q = at_most Q c _ n _ _ (omega arith) (q [] s)
  operands_add n (kind ∷ kinds) wide s count fits p next q =
      let few : kind.width ≤ 8 = wide.1 in
      at_most Q c _ (cost kind.letter + (cost_behind kind.letter + (costs kinds + n))) _ _ (omega arith)
      (operand_adds (cost_behind kind.letter + (costs kinds + n)) kind.width wide.0 few _ s count (omega arith) p (λ o t near.
      taken_adds (costs kinds + n) kind.width few kind.letter o t _ (λ x.
      operands_add n kinds wide.2 t (count + 10) (omega arith) near _ (λ xs u. q (x ∷ xs) u))) kind.letter)
