-- What the type of words means.
use Rattle.vax_lex.specs.Views.{context_view}
use Rattle.vax_lex.specs.Words as specs
use Rattle.vax_lex.specs.declared.words.Word as code_word

abbrev pub word_view : code_word.Word → specs.Word
word_view w = record { length = w.length; is_name = w.is_name; context = context_view w.context }
