-- Lines of pages, behind what was written.
use Rattle.std.proofs.Common.{List, ℕ, ◌++◌, Option, Result, Ok, Err, OnOk}
use Rattle.vax_outside.specs.Channels.{Channels, Grew, only}
use Rattle.vax_outside.specs.declared.traits.Chan.TheVariants.{Report}
use Rattle.vax_outside.specs.declared.traits.Failed.{Failed}
use Rattle.vax_outside.proofs.Growth.{report_grew}

pub ok_last : {T : Type 0} (r : Result T Failed) (a b c : Option Channels) (xs ys : List ℕ) → Grew a b (only Report xs) → OnOk r (Grew b c (only Report ys)) → OnOk r (Grew a c (only Report (xs ++ ys)))
ok_last (Ok x) a b c xs ys p q = report_grew a b c xs ys p q
ok_last (Err e) a b c xs ys p q = tt
