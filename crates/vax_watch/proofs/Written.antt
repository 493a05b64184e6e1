-- What the page file was written, step by step.
use Rattle.std.proofs.Common.{ℕ, ◌≡◌, ◌++◌, append_assoc, List, Option, Some, None, refl, sym, ap, ◌∙◌, inl, inr}
use Rattle.vax_space.specs.declared.Area.{Area}
use Rattle.vax_outside.specs.Blocks.{BlockFile}
use Rattle.vax_flat.specs.Parts.{Place}
use Rattle.vax_pager.specs.Poking.{OnlyRead, unread, without_reads}
use Rattle.vax_machine.specs.Blocks.{Moved, writes_of}
use Rattle.vax_machine.specs.Calling.{Asking, FailsToServe, Misses, NextCallFails}
use Rattle.vax_machine.specs.Paged.{Eviction, Paged}
use Rattle.vax_machine.proofs.Moving.{moved_none, writes_more}
use Rattle.vax_watch.specs.Traced.{Written}

written_by : (areas : List Area) (b p : Paged) (x y : Option BlockFile) → Moved areas b p x y → Written areas b p x y
written_by areas b p x y m f told = let k = m f told in (k.0, k.1, record { made = k.2.made; is = k.2.is; writes = k.2.writes })

pub written_none : (areas : List Area) (p : Paged) (x y : Option BlockFile) → x ≡ y → Written areas p p x y
written_none areas p x y same f told = let k = moved_none areas p x f told in (k.0, sym same ∙ k.1, record { made = k.2.made; is = k.2.is; writes = k.2.writes })

-- blocks were read at most

told_as : (y : Option BlockFile) (u : BlockFile) → without_reads y ≡ Some u → (g : BlockFile) × (y ≡ Some g) × (unread g ≡ u)
told_as None u e = absurd (cc e)
told_as (Some g) u e = (g, refl, cc)

pub written_read : (areas : List Area) (b p : Paged) (first x y : Option BlockFile) → OnlyRead x y → Written areas b p first x → Written areas b p first y
written_read areas b p first x y same w f told =
    let k = w f told in
    let r = told_as y (unread k.0) (same ∙ ap without_reads k.1) in
    (r.0, r.1, record { made = k.2.made; is = k.2.is; writes = ap (λ (z : BlockFile). z.writes) r.2 ∙ k.2.writes })

-- turns more were made
pub written_more : (areas : List Area) (b p q : Paged) (place : Place) (first x y : Option BlockFile) → Written areas b p first x → Moved areas (record p { place = place }) q x y → Written areas b q first y
written_more areas b p q place first x y w m f told =
    let k = w f told in
    let n = m k.0 k.1 in (
      n.0,
      n.1,
      record {
        made = k.2.made ++ n.2.made;
        is = n.2.is ∙ (ap (λ (xs : List Eviction). xs ++ n.2.made) k.2.is ∙ append_assoc b.evictions k.2.made n.2.made);
        writes =
            n.2.writes
            ∙ (ap (λ (xs : List (ℕ × List ℕ)). xs ++ writes_of areas n.2.made) k.2.writes
            ∙ (append_assoc f.writes (writes_of areas k.2.made) (writes_of areas n.2.made) ∙ ap (λ (xs : List (ℕ × List ℕ)). f.writes ++ xs) (sym (writes_more areas k.2.made n.2.made))));
      },
    )

-- the call that fails doesn't depend on what was sent before

moved_as : (areas : List Area) (p q : Paged) (place : Place) (x y : Option BlockFile) → Moved areas (record p { place = place }) q x y → Moved areas p q x y
moved_as areas p q place x y m f told =
    let r = m f told in
    (r.0, r.1, record { made = r.2.made; is = r.2.is; writes = r.2.writes; reads = record { count = r.2.reads.count; counted = r.2.reads.counted; reads = r.2.reads.reads } })

serves_as : (areas : List Area) (p q : Paged) (place : Place) (m : Misses q) (x y : Option BlockFile) → FailsToServe areas (record p { place = place }) q m x y → FailsToServe areas p q m x y
serves_as areas p q place m x y (inl f) = inl (f.0, moved_as areas p _ place x y f.1)
serves_as areas p q place m x y (inr f) = inr (f.0, moved_as areas p _ place x y f.1)

pub fails_as : (areas : List Area) (p q : Paged) (place : Place) (rest : List ℕ) (asks : Asking) (x y : Option BlockFile) → NextCallFails areas (record p { place = place }) q rest asks x y → NextCallFails areas p q rest asks x y
fails_as areas p q place rest asks x y (inl n) = inl (n.0, moved_as areas p q place x y n.1, n.2)
fails_as areas p q place rest asks x y (inr n) = inr (n.0, record { missed = n.1.missed; fails = serves_as areas p q place n.1.missed x y n.1.fails; made = n.1.made; wanted = n.1.wanted })
