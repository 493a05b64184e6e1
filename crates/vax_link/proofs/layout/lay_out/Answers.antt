use Rattle.std.proofs.Common.{◌≡◌, ◌<◌, ◌≤◌, ℕ, true, false, List, length, sym, ap, subst, ◌∙◌}
use Rattle.std.specs.Prelude.{Option, MatchOption, IfSome}
use Rattle.std.specs.Borrow.{Bor}
use Rattle.std.specs.Global.{Vec}
use Rattle.vax_module.specs.declared.Section.{Section}
use Rattle.vax_link.specs.Layout.{has_no_room, is_too_large, names_in, names_of, origin, pages_from, pieces_of, sections_in}
use Rattle.vax_link.proofs.RoomLaws.{many_names, no_room, placed_here}
use Rattle.vax_link.proofs.layout.lay_out.Goals as goal

pub returns-in_default : goal.returns-in_default
returns-in_default c =
    let P : Option (Vec (Bor (List ℕ))) → Type 0 = λ o. MatchOption o (64 < length (names_of (sections_in c.deref.result.now))) (λ names. names_in names.items ≡ names_of (sections_in c.deref.result.now)) in
    let many = subst P c.in_default.is c.in_ok-names.ensures.named in
    let Q : List Section → Type 0 = λ ss. 64 < length (names_of ss) in
    many_names c.args.base (pieces_of c.args.modules.now) (subst Q (ap sections_in c.deref.ensures.value ∙ c.in_ok-pieces.ensures.pieces) many)

pub returns-in_default-2 : goal.returns-in_default-2
returns-in_default-2 c =
    let P : Option (Vec (Bor (List ℕ))) → Type 0 = λ o. MatchOption o (64 < length (names_of (sections_in c.deref.result.now))) (λ names. names_in names.items ≡ names_of (sections_in c.deref.result.now)) in
    let named : names_in c.in-Some.names.items ≡ names_of (sections_in c.deref.result.now) = subst P c.in-Some.is c.in_ok-names.ensures.named in
    let Q : Option (Vec ℕ) → Type 0 = λ o. MatchOption o (has_no_room c.args.base (sections_in c.deref-2.result.now) (names_in c.deref-3.result.now) ≡ true)
    (λ pages. has_no_room c.args.base (sections_in c.deref-2.result.now) (names_in c.deref-3.result.now) ≡ false) in
    let none : has_no_room c.args.base (sections_in c.deref-2.result.now) (names_in c.deref-3.result.now) ≡ true = subst Q c.in_default-2.is c.in_ok-pages.ensures.room in
    let pieces = ap sections_in c.deref.ensures.value ∙ c.in_ok-pieces.ensures.pieces in
    let room =
    ap (λ (ns : List (Bor (List ℕ))). has_no_room c.args.base (sections_in c.in_ok-pieces.pieces.items) (names_in ns)) (sym c.deref-3.ensures.value)
    ∙ ap (λ (ps : List (Bor Section)). has_no_room c.args.base (sections_in ps) (names_in c.deref-3.result.now)) (sym c.deref-2.ensures.value) ∙ none in
    ap (is_too_large c.args.base) (sym c.in_ok-pieces.ensures.pieces)
    ∙ no_room c.args.base (sections_in c.in_ok-pieces.pieces.items) (names_in c.in-Some.names.items) (named ∙ ap (λ (ps : List (Bor Section)). names_of (sections_in ps)) c.deref.ensures.value) room

pub invariant_of-result : goal.invariant_of-result
invariant_of-result c =
    let P : Option (Vec (Bor (List ℕ))) → Type 0 = λ o. MatchOption o (64 < length (names_of (sections_in c.deref.result.now))) (λ names. names_in names.items ≡ names_of (sections_in c.deref.result.now)) in
    let named : names_in c.in-Some.names.items ≡ names_of (sections_in c.deref.result.now) = subst P c.in-Some.is c.in_ok-names.ensures.named in
    let F : Option (Vec (Bor (List ℕ))) → Type 0 = λ o. IfSome o (λ names. length names.items ≤ 64) in
    let few : length c.in-Some.names.items ≤ 64 = subst F c.in-Some.is c.in_ok-names.ensures.few in
    let Q : Option (Vec ℕ) → Type 0 = λ o. MatchOption o (has_no_room c.args.base (sections_in c.deref-2.result.now) (names_in c.deref-3.result.now) ≡ true)
    (λ pages. has_no_room c.args.base (sections_in c.deref-2.result.now) (names_in c.deref-3.result.now) ≡ false) in
    let room : has_no_room c.args.base (sections_in c.deref-2.result.now) (names_in c.deref-3.result.now) ≡ false = subst Q c.in-Some-2.is c.in_ok-pages.ensures.room in
    let R : Option (Vec ℕ) → Type 0 = λ o. IfSome o (λ pages. pages.items ≡ pages_from c.args.base (sections_in c.deref-2.result.now) (origin c.args.base) (names_in c.deref-3.result.now)) in
    let begun : c.in-Some-2.pages.items ≡ pages_from c.args.base (sections_in c.deref-2.result.now) (origin c.args.base) (names_in c.deref-3.result.now) = subst R c.in-Some-2.is c.in_ok-pages.ensures.pages in
    record {
      placed =
          placed_here c.args.base c.in_ok-pieces.pieces.items c.deref.result.now c.deref-2.result.now c.deref-4.result.now c.in-Some.names.items c.deref-3.result.now c.deref-5.result.now c.in-Some-2.pages.items c.deref-6.result.now
          c.in_ok-addresses.addresses.items c.deref.ensures.value c.deref-2.ensures.value c.deref-4.ensures.value c.deref-3.ensures.value c.deref-5.ensures.value c.deref-6.ensures.value named few room begun c.in_ok-addresses.ensures;
    }
