-- Tests of an operand's widths and of a name, and what they tell.
use Rattle.std.proofs.Common.{List, length, nat_le, nat_lt, slice_index, ◌≡◌, ℕ, Bool, true, false, ◌&&◌, ◌||◌, ◌==◌, arith, refl, subst}
use Rattle.std.proofs.lemmas.Bool.Decides.{nat_tests}
use Rattle.std.proofs.lemmas.Bool.{leb-true, ltb-true}
use Rattle.std.proofs.lemmas.List.Sums.{AllPass-from_list_all}
use Rattle.std.specs.Char.{is_ascii_uppercase}
use Rattle.std.specs.List.{list_all}
use Rattle.vax_isa.specs.declared.OperandKind.{OperandKind}
use Rattle.vax_isa.specs.declared.Letter.{Letter}
use Rattle.vax_isa.specs.declared.Letter.TheVariants.{Branch}
use Rattle.vax_isa.specs.Rows.{IsKind, IsName, is_name_character, IsWidth, IsBranchWidth}

abbrev pub width_ok : ℕ → Bool
width_ok w = (w == 1) || ((w == 2) || ((w == 4) || (w == 8)))

abbrev pub branch_ok : Letter → ℕ → Bool
branch_ok Branch w = (w == 1) || (w == 2)
branch_ok _ w = true

abbrev pub kind_ok : OperandKind → Bool
kind_ok kind = width_ok kind.width && branch_ok kind.letter kind.width

pub width_ok-IsWidth : (w : ℕ) → width_ok w ≡ true → IsWidth w
width_ok-IsWidth w e = grind (arith, nat_tests)

pub branch_ok-IsBranchWidth : (w : ℕ) → branch_ok Branch w ≡ true → IsBranchWidth w
branch_ok-IsBranchWidth w e = grind (arith, nat_tests)

both : (a b : Bool) → (a && b) ≡ true → (a ≡ true) × (b ≡ true)
both true b e = (refl, e)
both false b e = absurd (cc)

pub kind_ok-IsKind : (kind : OperandKind) → kind_ok kind ≡ true → IsKind kind
kind_ok-IsKind kind e =
    let parts : (width_ok kind.width ≡ true) × (branch_ok kind.letter kind.width ≡ true) = both _ _ e in
    record {
      width = width_ok-IsWidth kind.width parts.0;
      branch = λ is. branch_ok-IsBranchWidth kind.width (subst (λ (letter : Letter). branch_ok letter kind.width ≡ true) is parts.1);
    }

abbrev pub name_ok : List ℕ → Bool
name_ok name = nat_lt 0 (length name) && (nat_le (length name) 6 && (is_ascii_uppercase (slice_index name 0) && list_all is_name_character name))

pub name_ok-IsName : (name : List ℕ) → name_ok name ≡ true → IsName name
name_ok-IsName name e =
    let from_some : (nat_lt 0 (length name) ≡ true) × ((nat_le (length name) 6 && (is_ascii_uppercase (slice_index name 0) && list_all is_name_character name)) ≡ true) = both _ _ e in
    let from_short : (nat_le (length name) 6 ≡ true) × ((is_ascii_uppercase (slice_index name 0) && list_all is_name_character name) ≡ true) = both _ _ from_some.1 in
    let from_letter : (is_ascii_uppercase (slice_index name 0) ≡ true) × (list_all is_name_character name ≡ true) = both _ _ from_short.1 in
    record {
      some = ltb-true 0 (length name) from_some.0;
      short = leb-true (length name) 6 from_short.0;
      letter = from_letter.0;
      characters = AllPass-from_list_all is_name_character name from_letter.1;
    }
