-- What the code's places mean.
use Rattle.vax_asm_scope.specs.Used as specs
use Rattle.vax_asm_scope.specs.declared.place.Place.{Place}
use Rattle.vax_asm_scope.specs.declared.place.Place.TheVariants.{Term, Caret, MaskOperator, Mask}

abbrev pub place_of : Place → specs.Place
place_of Term = specs.at_term
place_of Caret = specs.behind_caret
place_of MaskOperator = specs.behind_mask
place_of Mask = specs.in_mask
