-- String instructions at their start: the operands, and the first part; and as wholes.
use Rattle.std.specs.Prelude.{ℕ, ◌+◌, ◌-◌, ◌*◌, ◌^◌, Bool, true, false, ◌==◌, ◌||◌, if◌then◌else◌, min, None, []}
use Rattle.vax_strpart.specs.declared.packing.Progress.{Progress}
use Rattle.vax_word.specs.declared.Core.{Core}
use Rattle.vax_strpart.specs.Packing.{unpacked}
use Rattle.vax_isa.specs.declared.actions.Text.{Text}
use Rattle.vax_isa.specs.declared.actions.Text.TheVariants as text
use Rattle.vax_flat.specs.declared.Flow.{Flow}
use Rattle.vax_flat.specs.State.{State}
use Rattle.vax_flat.specs.Accesses.{Accesses, Leaf}
use Rattle.vax_flat.specs.StringOperands.{search_operands, scan_operands, equal_operands, filled_operands, translated_operands, match_operands}
use Rattle.vax_flat.specs.String.{from_registers, low_registers}
use Rattle.vax_flat.specs.StringSearch.{search_part, scan_part, whole_search, whole_scan}
use Rattle.vax_flat.specs.StringCompare.{compare_part, pairs_of, whole_compare}
use Rattle.vax_flat.specs.StringMove.{move_start, move_part, moved_count, whole_move}
use Rattle.vax_flat.specs.StringEscape.{escape_start, escape_part, whole_escape}
use Rattle.vax_flat.specs.StringMatch.{match_part, whole_match}

-- LOCC and SKPC
unfoldable pub first_search : ℕ → Bool → State → (Flow → State → Accesses Leaf) → Accesses Leaf
first_search op equal s next = search_operands op s (λ p s. search_part equal p s next)

-- SCANC and SPANC
unfoldable pub first_scan : ℕ → Bool → State → (Flow → State → Accesses Leaf) → Accesses Leaf
first_scan op some s next = scan_operands op s (λ p s. scan_part some p s next)

-- CMPC3
unfoldable pub first_compare : ℕ → State → (Flow → State → Accesses Leaf) → Accesses Leaf
first_compare op s next = equal_operands op s (λ p s. compare_part p s next)

-- CMPC5
unfoldable pub first_compare_filled : ℕ → State → (Flow → State → Accesses Leaf) → Accesses Leaf
first_compare_filled op s next = filled_operands op s (λ p s. compare_part p s next)

-- MOVC3
unfoldable pub first_move : ℕ → State → (Flow → State → Accesses Leaf) → Accesses Leaf
first_move op s next = equal_operands op s (λ p s. move_start false p s next)

-- MOVC5
unfoldable pub first_move_filled : ℕ → State → (Flow → State → Accesses Leaf) → Accesses Leaf
first_move_filled op s next = filled_operands op s (λ p s. move_start false p s next)

-- MOVTC
unfoldable pub first_move_translated : ℕ → State → (Flow → State → Accesses Leaf) → Accesses Leaf
first_move_translated op s next = translated_operands op s (λ p s. move_start true p s next)

-- MOVTUC
unfoldable pub first_escape : ℕ → State → (Flow → State → Accesses Leaf) → Accesses Leaf
first_escape op s next = translated_operands op s (λ p s. escape_start p s next)

-- MATCHC
unfoldable pub first_match : ℕ → State → (Flow → State → Accesses Leaf) → Accesses Leaf
first_match op s next = match_operands op s (λ p s. match_part p s next)

-- a string instruction, whose opcode PC is past, at its start: its first part
unfoldable pub text_part : Text → State → (Flow → State → Accesses Leaf) → Accesses Leaf
text_part text.Move s next = first_move 0x28 s next
text_part text.MoveFilled s next = first_move_filled 0x2C s next
text_part text.MoveTranslated s next = first_move_translated 0x2E s next
text_part text.MoveTranslatedUntil s next = first_escape 0x2F s next
text_part text.Compare s next = first_compare 0x29 s next
text_part text.CompareFilled s next = first_compare_filled 0x2D s next
text_part text.Locate s next = first_search 0x3A true s next
text_part text.Skip s next = first_search 0x3B false s next
text_part text.Scan s next = first_scan 0x2A true s next
text_part text.Span s next = first_scan 0x2B false s next
text_part text.Match s next = first_match 0x39 s next

-- and whole
unfoldable pub text_whole : Text → State → (Flow → State → Accesses Leaf) → Accesses Leaf
text_whole text.Move s next = equal_operands 0x28 s (λ p s. whole_move false p s next)
text_whole text.MoveFilled s next = filled_operands 0x2C s (λ p s. whole_move false p s next)
text_whole text.MoveTranslated s next = translated_operands 0x2E s (λ p s. whole_move true p s next)
text_whole text.MoveTranslatedUntil s next = translated_operands 0x2F s (λ p s. whole_escape p s next)
text_whole text.Compare s next = equal_operands 0x29 s (λ p s. whole_compare p s next)
text_whole text.CompareFilled s next = filled_operands 0x2D s (λ p s. whole_compare p s next)
text_whole text.Locate s next = search_operands 0x3A s (λ p s. whole_search true p s next)
text_whole text.Skip s next = search_operands 0x3B s (λ p s. whole_search false p s next)
text_whole text.Scan s next = scan_operands 0x2A s (λ p s. whole_scan true p s next)
text_whole text.Span s next = scan_operands 0x2B s (λ p s. whole_scan false p s next)
text_whole text.Match s next = match_operands 0x39 s (λ p s. whole_match p s next)

-- no more is done than there is
abbrev pub done_within : ℕ → Progress → Progress
done_within most p = record p { done = min p.done most }

-- a later part of the string instruction with this opcode, by the registers alone, which say what remains
unfoldable pub resumed : ℕ → State → (Flow → State → Accesses Leaf) → Accesses Leaf
resumed opcode s next =
    if opcode == 0x28 || opcode == 0x2C then from_registers opcode (λ p s next. move_part false (done_within p.len2 p) s next) s next
    else if opcode == 0x2E then from_registers opcode (λ p s next. move_part true (done_within p.len2 p) s next) s next
    else if opcode == 0x2F then from_registers opcode (λ p s next. escape_part (done_within (moved_count p) p) s next) s next
    else if opcode == 0x3A then from_registers opcode (search_part true) s next
    else if opcode == 0x3B then from_registers opcode (search_part false) s next
    else if opcode == 0x2A then from_registers opcode (scan_part true) s next
    else if opcode == 0x2B then from_registers opcode (scan_part false) s next
    else if opcode == 0x39 then from_registers opcode (λ p s next. match_part (done_within p.len1 p) s next) s next
    else from_registers opcode (λ p s next. compare_part (done_within (pairs_of p) p) s next) s next

-- How much remains of a string instruction. Each part that leaves something leaves less.
abbrev pub remaining : Progress → ℕ
remaining p = (p.len1 + p.len2) * 2 ^ 17 + (2 ^ 17 - p.done)

-- the same by its opcode and the registers between two parts
abbrev pub remaining_in : ℕ → Core → ℕ
remaining_in opcode core = remaining (unpacked opcode (low_registers (record { core = core; input = []; taken = 0; sent = None })))
