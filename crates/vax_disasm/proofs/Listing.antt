-- A listing, operand by operand.
use Rattle.std.proofs.Common.{◌≡◌, ℕ, ◌+◌, ◌-◌, ◌%◌, ◌^◌, ◌≤◌, ◌<◌, Option, Some, None, List, ◌∷◌, ◌++◌, length, take, drop, get_or, refl, ap, sym, arith, append_assoc, append-nil}
use Rattle.std.proofs.lemmas.List.{drop-drop, drop_more, drop_all, length-drop}
use Rattle.std.proofs.Math.Seq.{take-length}
use Rattle.std.specs.Prelude.{option_map}
use Rattle.vax_isa.specs.declared.OperandKind.{OperandKind}
use Rattle.vax_flat.specs.Operand.{plus}
use Rattle.vax_flat.specs.Grammar.{Specifier, Literal, Register, Immediate, InMemory, Indexed, BranchBy, Reading, Reads, Reserved, Sequence, Next, read_operand, read_operands, followed, total}
use Rattle.vax_flat.proofs.Sequences.{good_operand}
use Rattle.vax_disasm.specs.Text.{specifier_text, operands_text}
use Rattle.vax_disasm.specs.Listed.{unreserved, behind, with_length}
use Rattle.vax_disasm.specs.Seen.{Found, found}

pub found_is : (r : Option Reading) (f : Found) → found r ≡ Some f → r ≡ Some (Reads f.specifier f.count)
found_is None f e = cc
found_is (Some (Reserved count)) f e = cc
found_is (Some (Reads s count)) f e =
    let same : record { specifier = s; count = count } ≡ f = cc in
    ap (λ (g : Found). Some (Reads g.specifier g.count)) same

-- an operand lies within the bytes
pub count_within : (kind : OperandKind) (bytes : List ℕ) (f : Found) → found (read_operand kind bytes) ≡ Some f → f.count ≤ length bytes
count_within kind bytes f e = let good = good_operand kind bytes f.specifier f.count (found_is _ f e) in good.within

pub rest_is : (n : ℕ) (xs : List ℕ) → take (length xs - n) (drop n xs) ≡ drop n xs
rest_is n xs = rw (← length-drop n xs) (take-length (drop n xs))

-- addresses are numbers of 32 bits
pub text_near : (kind : OperandKind) (next : ℕ) (s : Specifier) → specifier_text kind (next % 2 ^ 32) s ≡ specifier_text kind next s
unfolding specifier_text
text_near kind next (Literal value) = refl
text_near kind next (Register n) = refl
text_near kind next (Immediate value) = refl
text_near kind next (InMemory place) = refl
text_near kind next (Indexed place x) = refl
text_near kind next (BranchBy displacement) = let same : plus (next % 2 ^ 32) displacement ≡ plus next displacement = omega arith in rw same refl

module _ (start separator addr : ℕ) (text : List ℕ) where
  next_listing : (kind : OperandKind) (s : Specifier) (count : ℕ) (rest : Option Sequence)
      → option_map (behind start text separator addr) (option_map (Next kind s count) rest) ≡ option_map (behind (start + count) (text ++ separator ∷ specifier_text kind (addr + (start + count)) s) 44 addr) rest
  unfolding total operands_text
  next_listing kind s count None = refl
  next_listing kind s count (Some rest) =
      let longer : addr + start + count ≡ addr + (start + count) = omega arith in
      let more : start + (count + total rest) ≡ start + count + total rest = omega arith in
      rw (longer, more, append_assoc) refl

  unreserved_next : (kind : OperandKind) (s : Specifier) (count : ℕ) (rest : Option Sequence) → unreserved (option_map (Next kind s count) rest) ≡ option_map (Next kind s count) (unreserved rest)
  unreserved_next kind s count None = refl
  unreserved_next kind s count (Some rest) = refl

  -- one operand more
  listing_more : (kind : OperandKind) (kinds : List OperandKind) (bytes : List ℕ) (f : Found) → found (read_operand kind bytes) ≡ Some f
      → option_map (behind (start + f.count) (text ++ separator ∷ specifier_text kind (addr + (start + f.count)) f.specifier) 44 addr) (unreserved (read_operands kinds (drop f.count bytes)))
      ≡ option_map (behind start text separator addr) (unreserved (read_operands (kind ∷ kinds) bytes))
  unfolding read_operands followed
  listing_more kind kinds bytes f e =
      rw (found_is _ f e, unreserved_next kind f.specifier f.count) (sym (next_listing kind f.specifier f.count _))

  nothing_behind : (kind : OperandKind) (r : Option Reading) (rest : ℕ → Option Sequence) → found r ≡ None → option_map (behind start text separator addr) (unreserved (followed kind r rest)) ≡ None
  unfolding followed
  nothing_behind kind None rest e = refl
  nothing_behind kind (Some (Reserved count)) rest e = refl
  nothing_behind kind (Some (Reads s count)) rest e = cc

  -- no operand there
  no_listing : (kind : OperandKind) (kinds : List OperandKind) (bytes : List ℕ) → found (read_operand kind bytes) ≡ None → None ≡ option_map (behind start text separator addr) (unreserved (read_operands (kind ∷ kinds) bytes))
  unfolding read_operands
  no_listing kind kinds bytes e = sym (nothing_behind kind (read_operand kind bytes) _ e)

  -- operand k of a list is read
  pub operand_read : (next : ℕ) (bytes : List ℕ) (kinds : List OperandKind) (k : ℕ) (d : OperandKind) (f : Found) → k < length kinds
      → Some f ≡ found (read_operand (get_or kinds k d) (drop start bytes)) → next ≡ (addr + (start + f.count)) % 2 ^ 32
      → option_map (behind (start + f.count) (text ++ separator ∷ specifier_text (get_or kinds k d) next f.specifier) 44 addr) (unreserved (read_operands (drop (k + 1) kinds) (drop (start + f.count) bytes)))
      ≡ option_map (behind start text separator addr) (unreserved (read_operands (drop k kinds) (drop start bytes)))
  operand_read next bytes kinds k d f h e n =
      rw (n, text_near (get_or kinds k d) (addr + (start + f.count)) f.specifier, ← drop-drop f.count start bytes, drop_more kinds k d h) (listing_more (get_or kinds k d) (drop (k + 1) kinds) (drop start bytes) f (sym e))

  pub no_operand_read : (bytes : List ℕ) (kinds : List OperandKind) (k : ℕ) (d : OperandKind) → k < length kinds
      → None ≡ found (read_operand (get_or kinds k d) (drop start bytes)) → None ≡ option_map (behind start text separator addr) (unreserved (read_operands (drop k kinds) (drop start bytes)))
  no_operand_read bytes kinds k d h e = rw (drop_more kinds k d h) (no_listing (get_or kinds k d) (drop (k + 1) kinds) (drop start bytes) (sym e))

  pub all_read : (bytes : List ℕ) (kinds : List OperandKind) (k : ℕ) → length kinds ≤ k → Some (with_length text start) ≡ option_map (behind start text separator addr) (unreserved (read_operands (drop k kinds) (drop start bytes)))
  unfolding read_operands operands_text total
  all_read bytes kinds k h = let none : start + 0 ≡ start = omega arith in rw (drop_all k kinds h, none, append-nil) refl
