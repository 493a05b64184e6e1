-- What the types of lines' heads mean.
use Rattle.std.specs.Prelude.{List, drop}
use Rattle.vax_lex.specs.declared.token.Piece.{Piece}
use Rattle.vax_macro.specs.Heads as specs
use Rattle.vax_macro.specs.declared.heads.Head as code_head
use Rattle.vax_macro.specs.declared.heads.Word as code_word
use Rattle.vax_macro.specs.declared.heads.Word.TheVariants as words

abbrev pub word_view : code_word.Word → specs.Word
word_view words.Macro = specs.macro_word
word_view words.EndMacro = specs.end_macro
word_view words.Repeat = specs.repeat
word_view words.RepeatArguments = specs.repeat_arguments
word_view words.RepeatCharacters = specs.repeat_characters
word_view words.EndRepeat = specs.end_repeat
word_view words.If = specs.if_word
word_view words.IfFalse = specs.if_false
word_view words.IfTrue = specs.if_true
word_view words.IfTrueFalse = specs.if_true_false
word_view words.EndIf = specs.end_if
word_view words.ImmediateIf = specs.immediate_if
word_view words.Leave = specs.leave_word
word_view words.CountArguments = specs.argument_count
word_view words.CountCharacters = specs.character_count
word_view words.Delete = specs.delete_word
word_view words.Opcode = specs.opcode_word
word_view words.End = specs.end_word
word_view words.Other = specs.other_word

-- the head of these pieces
abbrev pub head_view : List Piece → code_head.Head → specs.Head
head_view pieces h = record { label_end = h.label_end; operator = h.operator; operands = drop h.operands pieces }
