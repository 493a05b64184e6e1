-- What the list of the instructions keeps. Each law is computed once over the whole list.
use Rattle.std.proofs.Common.{◌≡◌, ℕ, ◌<◌, ◌≤◌, Bool, true, false, ◌||◌, List, [], ◌∷◌, ◌++◌, All, IfSome, Option, Some, None, length, map, option_map, refl, sym, ◌∙◌, ap, subst, arith, slice_index_or, replicate, length-append, nat_le, nat_eq, ◌-◌, zero-add}
use Rattle.std.proofs.lemmas.Bool.{leb-true, eqb-true}
use Rattle.std.proofs.lemmas.List.{get_or_append_left, length-replicate}
use Rattle.std.proofs.lemmas.List.Sums.{AllPass-from_list_all}
use Rattle.std.proofs.lemmas.Slice.Eq.{bytes_eq-Decides}
use Rattle.std.specs.List.{AllPass, list_all}
use Rattle.std.specs.Str.{bytes_eq, str_eq_ignore_ascii_case, str_to_ascii_lowercase}
use Rattle.vax_isa.specs.declared.OperandKind.{OperandKind}
use Rattle.vax_isa.specs.declared.table.Entry.{Entry}
use Rattle.vax_isa.specs.Entries.{counted, entry_action, entry_listing, entry_row, listing_at, row_at}
use Rattle.vax_isa.specs.Actions.{operands_of}
use Rattle.vax_isa.specs.Instructions.{Instruction, instructions}
use Rattle.vax_isa.specs.Rows.{action_of, IsFormed, IsKind, IsName, row_of, with_opcode, with_name, is_one_of, names_of, no_operand}
use Rattle.vax_isa.proofs.Lists.{All-agree, at_counted, find_agree, IfSome-find}
use Rattle.vax_isa.proofs.Passed.{kind_ok, kind_ok-IsKind, name_ok, name_ok-IsName}

-- no two instructions have one opcode

opcodes_apart : map (λ i. with_opcode i.opcode) instructions ≡ map Some instructions
unfolding with_opcode instructions
opcodes_apart = refl

pub only_opcode : (code : ℕ) → All (λ i. i.opcode ≡ code → with_opcode code ≡ Some i) instructions
only_opcode code k d inside is =
    let i = slice_index_or instructions k d in
    subst (λ (c : ℕ). with_opcode c ≡ Some i) is (All-agree (λ i. with_opcode i.opcode) Some instructions opcodes_apart k d inside)

-- no two names or aliases are one text

names_apart : map (λ i. map with_name (names_of i)) instructions ≡ map (λ i. map (λ _. Some i) (names_of i)) instructions
unfolding with_name instructions
names_apart = refl

is_one_of_alike : (names : List (List ℕ)) (a b : List ℕ) → str_to_ascii_lowercase a ≡ str_to_ascii_lowercase b → is_one_of names a ≡ is_one_of names b
is_one_of_alike [] a b e = refl
is_one_of_alike (name ∷ names) a b e =
    ap (λ (text : List ℕ). bytes_eq (str_to_ascii_lowercase name) text || is_one_of names a) e
    ∙ ap (λ (rest : Bool). str_eq_ignore_ascii_case name b || rest) (is_one_of_alike names a b e)

with_name_alike : (a b : List ℕ) → str_eq_ignore_ascii_case a b ≡ true → with_name a ≡ with_name b
unfolding with_name
with_name_alike a b e =
    let same : str_to_ascii_lowercase a ≡ str_to_ascii_lowercase b = (bytes_eq-Decides (str_to_ascii_lowercase a) (str_to_ascii_lowercase b)).0 e in
    find_agree (λ i. is_one_of (names_of i) a) (λ i. is_one_of (names_of i) b) (λ i. is_one_of_alike (names_of i) a b same) instructions

found_by : (i : Instruction) (names : List (List ℕ)) (text : List ℕ) → map with_name names ≡ map (λ _. Some i) names → is_one_of names text ≡ true → with_name text ≡ Some i
found_by i [] text e is = absurd (cc)
found_by i (name ∷ names) text e is =
    let here : with_name name ≡ Some i = cc in
    let rest : map with_name names ≡ map (λ _. Some i) names = cc in
    either (str_eq_ignore_ascii_case name text) refl is here (λ among. found_by i names text rest among)
  where
    either : (b : Bool) → str_eq_ignore_ascii_case name text ≡ b → (b || is_one_of names text) ≡ true → with_name name ≡ Some i → (is_one_of names text ≡ true → with_name text ≡ Some i) → with_name text ≡ Some i
    either true same is here rest = sym (with_name_alike name text same) ∙ here
    either false other is here rest = rest is

pub only_name : (text : List ℕ) → All (λ i. is_one_of (names_of i) text ≡ true → with_name text ≡ Some i) instructions
only_name text k d inside is =
    let i = slice_index_or instructions k d in
    found_by i (names_of i) text (All-agree (λ i. map with_name (names_of i)) (λ i. map (λ _. Some i) (names_of i)) instructions names_apart k d inside) is

-- each instruction's row is formed

all_names_ok : AllPass (λ i. list_all name_ok (names_of i)) instructions
unfolding instructions
all_names_ok = AllPass-from_list_all (λ i. list_all name_ok (names_of i)) instructions refl

pub all_names : All (λ i. All IsName (names_of i)) instructions
all_names k d inside n e among =
    let i = slice_index_or instructions k d in
    name_ok-IsName (slice_index_or (names_of i) n e) (AllPass-from_list_all name_ok (names_of i) (all_names_ok k d inside) n e among)

all_counted : AllPass (λ i. nat_le (length i.operands) 6) instructions
unfolding instructions
all_counted = AllPass-from_list_all (λ i. nat_le (length i.operands) 6) instructions refl

all_kinds : AllPass (λ i. list_all kind_ok i.operands) instructions
unfolding instructions
all_kinds = AllPass-from_list_all (λ i. list_all kind_ok i.operands) instructions refl

places_of : (operands : List OperandKind) → length operands ≤ 6 → length (operands ++ replicate (6 - length operands) no_operand) ≡ 6
places_of operands h = simp (length-append, length-replicate) (omega arith)

kinds_of : (operands rest : List OperandKind) → list_all kind_ok operands ≡ true → (k : ℕ) (d : OperandKind) → k < length operands → IsKind (slice_index_or (operands ++ rest) k d)
kinds_of operands rest ok k d inside =
    rw (get_or_append_left operands rest d k inside) (kind_ok-IsKind (slice_index_or operands k d) (AllPass-from_list_all kind_ok operands ok k d inside))

pub all_formed : All (λ i. IsFormed (row_of i)) instructions
all_formed k d inside =
    let i = slice_index_or instructions k d in
    let counted : length i.operands ≤ 6 = leb-true (length i.operands) 6 (all_counted k d inside) in
    record {
      name = all_names k d inside 0 i.name (omega arith);
      count = counted;
      places = places_of i.operands counted;
      kinds = kinds_of i.operands (replicate (6 - length i.operands) no_operand) (all_kinds k d inside);
    }

-- what is found has the opcode and is formed

pub opcode_found : (code : ℕ) → IfSome (with_opcode code) (λ i. i.opcode ≡ code)
unfolding with_opcode
opcode_found code = IfSome-find (λ i. i.opcode ≡ code) (λ i. nat_eq i.opcode code) instructions (λ k d inside. eqb-true (slice_index_or instructions k d).opcode code)

pub formed_with_opcode : (code : ℕ) → IfSome (with_opcode code) (λ i. IsFormed (row_of i))
unfolding with_opcode
formed_with_opcode code = IfSome-find (λ i. IsFormed (row_of i)) (λ i. nat_eq i.opcode code) instructions (λ k d inside _. all_formed k d inside)

pub formed_with_name : (text : List ℕ) → IfSome (with_name text) (λ i. IsFormed (row_of i))
unfolding with_name
formed_with_name text = IfSome-find (λ i. IsFormed (row_of i)) (λ i. is_one_of (names_of i) text) instructions (λ k d inside _. all_formed k d inside)

-- each instruction takes the operands of its row

all_operands : map (λ i. operands_of i.action) instructions ≡ map (λ i. i.operands) instructions
unfolding instructions
all_operands = refl

pub operands_agree : All (λ i. operands_of i.action ≡ i.operands) instructions
operands_agree = All-agree (λ i. operands_of i.action) (λ i. i.operands) instructions all_operands

-- the code's table

pub slot_action : (slots : List (Option Entry)) → map (option_map entry_action) slots ≡ map action_of (counted 0 256) → (code : ℕ) (slot : Option Entry) → code < 256 → slice_index_or slots code None ≡ slot → option_map entry_action slot ≡ action_of code
slot_action slots listed code slot inside is =
    subst (λ (s : Option Entry). option_map entry_action s ≡ action_of code) is
    (at_counted (option_map entry_action) action_of slots 0 256 listed code None inside ∙ ap action_of (zero-add code))

pub slot_row : (slots : List (Option Entry)) → map (option_map entry_row) slots ≡ map row_at (counted 0 256) → (code : ℕ) (slot : Option Entry) → code < 256 → slice_index_or slots code None ≡ slot → option_map entry_row slot ≡ row_at code
slot_row slots listed code slot inside is =
    subst (λ (s : Option Entry). option_map entry_row s ≡ row_at code) is
    (at_counted (option_map entry_row) row_at slots 0 256 listed code None inside ∙ ap row_at (zero-add code))

pub slot_listing : (slots : List (Option Entry)) → map (option_map entry_listing) slots ≡ map listing_at (counted 0 256) → (code : ℕ) → code < 256 → option_map entry_listing (slice_index_or slots code None) ≡ listing_at code
slot_listing slots listed code inside =
    at_counted (option_map entry_listing) listing_at slots 0 256 listed code None inside ∙ ap listing_at (zero-add code)
