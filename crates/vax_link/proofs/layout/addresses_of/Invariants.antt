use Rattle.std.proofs.Common.{◌≡◌, [], false, take}
use Rattle.vax_image.specs.declared.Base.{Base}
use Rattle.vax_link.specs.Layout.{addresses_from, is_too_large, names_in, names_of, pages_of_names, sections_in}
use Rattle.vax_link.proofs.layout.addresses_of.Given as goal

abbrev pub invariant-loop-place : goal.invariant-loop-place
invariant-loop-place l = (region : Base) → names_in l.names ≡ names_of (sections_in l.pieces) → l.pages ≡ pages_of_names region (sections_in l.pieces) → is_too_large region (sections_in l.pieces) ≡ false
    → l.addresses.items ≡ addresses_from region (sections_in l.pieces) [] (sections_in (take l.place l.pieces))
