use Rattle.std.proofs.Common.{refl}
use Rattle.vax_flat.specs.Parts.{partway, part, begun_part, later}
use Rattle.vax_flat.specs.Instruction.{first_part, acted_part_if, acted_part}
use Rattle.vax_flat.specs.Step.{finished, level, highest}
use Rattle.vax_flat.specs.StringParts.{resumed, text_part, first_compare, first_scan, first_move, first_move_filled, first_move_translated}
use Rattle.vax_flat.specs.Operand.{fetched, read_at, check_at, asked, next_operand, specified, formed, in_memory, in_register, addressed, at_address, literal, is_reserved, form_of}
use Rattle.vax_isa.specs.Rows.{action_of, with_opcode}
use Rattle.vax_isa.specs.Instructions.{instructions}
use Rattle.vax_flat.specs.StringOperands.{equal_operands, filled_operands, scan_operands, translated_operands, next_word, next_byte, next_longword, sixteen, length_of}
use Rattle.vax_flat.specs.Rows.{read_value, address_value, value_of, address_in}
use Rattle.vax_flat.specs.StringCompare.{compare_part, compare_run, compare_room, string_room, filled_run, first_read, first_checked, compare_end, differs, equals}
use Rattle.vax_flat.specs.StringSearch.{scan_part, scan_run, scan_end, scanned, search_room, search_end, table_read, piece_read}
use Rattle.vax_flat.specs.StringMove.{move_start, move_part, move_checked, table_checked, move_room, run_room, move_run, table_applied, lowest, is_backward, moved, move_end, fill_run, fill_room, write_span, write_pieces, write_high_last, write_low_last}
use Rattle.vax_flat.specs.String.{room_up, read_span, read_run_at, write_run_at, leaves, suspended, left, with_low, low_registers, completed, continued}
use Rattle.vax_strpart.specs.Packing.{packed, layout_of, unpacked}
use Rattle.vax_flat.specs.Outcome.{outcome_of}
use Rattle.vax_flat.specs.Memory.{byte_at, bytes_from, with_byte, written_run, number}
use Rattle.vax_space.specs.Areas.{has_page, prot_of, area_of}
use Rattle.vax_space.specs.Reference.{violation, may_access}
use Rattle.vax_space.specs.Protection.{allows, right_of}
use Rattle.vax_word.specs.Status.{mode_of, ipl_of, with_codes, codes_number}
use Rattle.vax_word.specs.Arithmetic.{compared, is_less, signed}
use Rattle.vax_flat_laws.proofs.parts.parts_end_with_their_pages.Goals as goal

pub returns : goal.returns
unfolding partway part begun_part later first_part acted_part_if acted_part finished level highest resumed text_part first_compare first_scan first_move first_move_filled first_move_translated fetched read_at check_at asked next_operand specified formed in_memory in_register addressed at_address literal is_reserved form_of action_of with_opcode instructions equal_operands filled_operands scan_operands translated_operands next_word next_byte next_longword sixteen length_of read_value address_value value_of address_in compare_part compare_run compare_room string_room filled_run first_read first_checked compare_end differs equals scan_part scan_run scan_end scanned search_room search_end table_read piece_read move_start move_part move_checked table_checked move_room run_room move_run table_applied lowest is_backward moved move_end fill_run fill_room write_span write_pieces write_high_last write_low_last room_up read_span read_run_at write_run_at leaves suspended left with_low low_registers completed continued packed layout_of unpacked outcome_of byte_at bytes_from with_byte written_run number has_page prot_of area_of violation may_access allows right_of mode_of ipl_of with_codes codes_number compared is_less signed
returns c = record {
  first_compared = refl;
  second_compared = refl;
  all_compared = refl;
  first_scanned = refl;
  all_scanned = refl;
  first_spanned = refl;
  all_spanned = refl;
  first_translated = refl;
  second_translated = refl;
  all_translated = refl;
  moved = refl;
  first_filled = refl;
  all_filled = refl;
}
