-- What is written behind what was written.
use Rattle.std.proofs.Common.{◌≡◌, List, ℕ, ◌++◌, Option, Result, Ok, Err, OnErr, OnOk, append_assoc}
use Rattle.vax_outside.specs.Channels.{Channels, Grew, GrewByPrefix, only}
use Rattle.vax_outside.specs.declared.traits.Chan.TheVariants.{Report}
use Rattle.vax_outside.specs.declared.traits.Failed.{Failed}
use Rattle.vax_outside.proofs.Growth.{report_grew, report_last}

pub err_last : {T : Type 0} (r : Result T Failed) (a b c : Option Channels) (xs ys : List ℕ) → Grew a b (only Report xs) → OnErr r (GrewByPrefix b c (only Report ys)) → OnErr r (GrewByPrefix a c (only Report (xs ++ ys)))
err_last (Ok x) a b c xs ys p q = tt
err_last (Err e) a b c xs ys p q = report_last a b c xs ys p q

pub ok_last : {T : Type 0} (r : Result T Failed) (a b c : Option Channels) (xs ys : List ℕ) → Grew a b (only Report xs) → OnOk r (Grew b c (only Report ys)) → OnOk r (Grew a c (only Report (xs ++ ys)))
ok_last (Ok x) a b c xs ys p q = report_grew a b c xs ys p q
ok_last (Err e) a b c xs ys p q = tt

-- four texts one behind another
pub grouped : (a b c d : List ℕ) → a ++ (b ++ c ++ d) ≡ a ++ b ++ c ++ d
grouped a b c d = simp append_assoc

-- and a fifth before them
pub grouped_behind : (h a b c d : List ℕ) → h ++ (a ++ b ++ c ++ d) ≡ h ++ a ++ b ++ c ++ d
grouped_behind h a b c d = simp append_assoc
