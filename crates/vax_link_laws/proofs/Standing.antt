-- A module's own bytes, and those of its fields, stand in the image.
use Rattle.std.proofs.Common.{◌≡◌, ℕ, ◌+◌, ◌<◌, ◌≤◌, false, List, [], length, get_or, Option, Ok, refl, subst, arith}
use Rattle.std.specs.Prelude.{All, IfSome}
use Rattle.byteorder.specs.Endian.{little_bytes}
use Rattle.std.proofs.lemmas.Option.{slice_get-get_or}
use Rattle.vax_image.specs.declared.Base.{Base}
use Rattle.vax_image.specs.declared.Image.{Image}
use Rattle.vax_link.specs.Linked.{linked}
use Rattle.vax_link.specs.Names.{module_at, nothing}
use Rattle.vax_link.specs.Values.{field_content, section_address}
use Rattle.vax_link_laws.proofs.Filling.{field_filled, own_kept}
use Rattle.vax_link_laws.proofs.Laying.{field_owner, filled_of, formed_at, stands, within_of}
use Rattle.vax_link_laws.specs.Holding.{HasField, HasSection, Holds, IsOwn}
use Rattle.vax_module.specs.Formed.{Formed, IsFieldOf, end_of, width_of}
use Rattle.vax_module.specs.declared.Module.{Module}
use Rattle.vax_module.specs.declared.Reloc.{Reloc}
use Rattle.vax_module.specs.declared.Section.{Section}

pub own_stands : (region : Base) (modules : List Module) (image : Image) (owner number place : ℕ) (s : Section) → All Formed modules → linked region modules ≡ Ok image → HasSection modules owner number s → place < length s.bytes
    → IsOwn modules owner number place → Holds image (section_address region modules owner number + place) (get_or s.bytes place 0)
own_stands region modules image owner number place s formed is has less own =
    let m : Module = module_at modules owner in
    let within = within_of m.sections m.relocs number s (formed_at modules owner number s formed has).fields has in
    subst (λ (b : ℕ). Holds image (section_address region modules owner number + place) b) (own_kept region modules owner number place s.bytes m.relocs within own)
    (stands region modules image owner number place s formed is has less)

blank : Section
blank = record { name = []; align = 1; write = false; bytes = []; storage = 0 }

pub field_stands : (region : Base) (modules : List Module) (image : Image) (owner place : ℕ) (r : Reloc) → All Formed modules → linked region modules ≡ Ok image → HasField modules owner r → place < width_of r.kind
    → Holds image ((section_address region modules owner r.section + r.offset) + place) (get_or (little_bytes (width_of r.kind) (field_content region modules owner r)) place 0)
field_stands region modules image owner place r formed is has less =
    let m : Module = module_at modules owner in
    let whole : Formed m = formed owner nothing (field_owner modules owner r has) in
    let field : IsFieldOf m.sections r = subst (IsFieldOf m.sections) has.2 (whole.fields has.0 r has.1) in
    let s : Section = get_or m.sections r.section blank in
    let is_there : HasSection modules owner r.section s = slice_get-get_or m.sections r.section blank field.0 in
    let long : end_of r ≤ length s.bytes = subst (λ (o : Option Section). IfSome o (λ t. end_of r ≤ length t.bytes)) is_there field.1 in
    let within = within_of m.sections m.relocs r.section s whole.fields is_there in
    let there = stands region modules image owner r.section (r.offset + place) s formed is is_there (omega (arith, long)) in
    let bytes = field_filled region modules owner r.section s.bytes m.relocs has.0 r place within whole.apart has.1 has.2 refl less in
    let sum : section_address region modules owner r.section + (r.offset + place) ≡ (section_address region modules owner r.section + r.offset) + place = omega arith in
    subst (λ (b : ℕ). Holds image ((section_address region modules owner r.section + r.offset) + place) b) bytes
    (subst (λ (a : ℕ). Holds image a (get_or (filled_of region modules owner r.section s) (r.offset + place) 0)) sum there)
