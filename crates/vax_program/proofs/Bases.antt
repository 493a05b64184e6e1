-- What is linked for a base is an image for that base.
use Rattle.std.proofs.Common.{◌≡◌, ℕ, Bool, true, false, cond, List, Option, Some, None}
use Rattle.std.specs.Prelude.{Result, Ok, Err}
use Rattle.vax_space.specs.declared.Area.{Area}
use Rattle.vax_module.specs.declared.Module.{Module}
use Rattle.vax_image.specs.declared.Base.{Base}
use Rattle.vax_image.specs.declared.Image.{Image}
use Rattle.vax_image.specs.Image.{is_in}
use Rattle.vax_link.specs.declared.LinkError.{LinkError}
use Rattle.vax_link.specs.declared.LinkError.TheVariants.{Duplicate, Undefined, Pages, NoTransfer, Reach}
use Rattle.vax_link.specs.Layout.{is_too_large, pieces_of}
use Rattle.vax_link.specs.Names.{duplicate, undefined}
use Rattle.vax_link.specs.Values.{filled_from, unreached_from}
use Rattle.vax_link.specs.Linked.{areas_of, begun, linked, placed, reached, refuses, transfer_from}

-- a result whose image, if it is one, is for a base
abbrev IsFor : Base → Result Image LinkError → Type 0
IsFor region r = (image : Image) → r ≡ Ok image → image.base ≡ region

refuses_for : {X : Type 0} (o : Option X) (error : X → LinkError) (region : Base) (next : Result Image LinkError) → IsFor region next → IsFor region (refuses o error next)
refuses_for None error region next h image is = h image is
refuses_for (Some x) error region next h image is = absurd cc

either_for : (b : Bool) (region : Base) (a next : Result Image LinkError) → IsFor region a → IsFor region next → IsFor region (cond b a next)
either_for true region a next h k image is = h image is
either_for false region a next h k image is = k image is

error_for : (region : Base) (e : LinkError) → IsFor region (Err e)
error_for region e image is = absurd cc

made_for : (region : Base) (areas : List Area) (transfer : ℕ) → IsFor region (Ok (record { base = region; transfer = transfer; areas = areas }))
made_for region areas transfer image is = cc

begun_for : (region : Base) (areas : List Area) (o : Option ℕ) → IsFor region (begun region areas o)
begun_for region areas None = error_for region NoTransfer
begun_for region areas (Some transfer) = either_for (is_in areas transfer) region (Ok (record { base = region; transfer = transfer; areas = areas })) (Err NoTransfer) (made_for region areas transfer) (error_for region NoTransfer)

reached_for : (found : Option ℕ) (region : Base) (r : Result Image LinkError) → IsFor region r → IsFor region (reached found r)
reached_for found region (Ok image) h = refuses_for found Reach region (Ok image) h
reached_for found region (Err e) h = error_for region e

pub linked_base : (region : Base) (modules : List Module) → IsFor region (linked region modules)
unfolding linked placed
linked_base region modules =
    let pieces = pieces_of modules in
    let areas = areas_of region pieces (filled_from region modules 0 modules) in
    let placed_for : IsFor region (placed region modules) =
    reached_for (unreached_from region modules 0 None modules) region (begun region areas (transfer_from region modules 0 modules))
    (begun_for region areas (transfer_from region modules 0 modules)) in
    refuses_for (duplicate modules) Duplicate region _
    (refuses_for (undefined modules) Undefined region _
    (either_for (is_too_large region pieces) region (Err Pages) (placed region modules) (error_for region Pages) placed_for))
