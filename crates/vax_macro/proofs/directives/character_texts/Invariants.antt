use Rattle.std.proofs.Common.{◌≡◌, take}
use Rattle.vax_macro.specs.Directives.{character_texts}
use Rattle.vax_macro.specs.TemplateViews.{texts_view}
use Rattle.vax_macro.proofs.directives.character_texts.Given as goal

abbrev pub invariant-loop-byte : goal.invariant-loop-byte
invariant-loop-byte l = texts_view l.texts ≡ character_texts (take l.byte-index l.text)
