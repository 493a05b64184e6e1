use Rattle.std.proofs.Common.{◌≡◌, ◌++◌, ◌∷◌, [], ℕ, false, List, length, sym, ap, ◌∙◌, arith, rules}
use Rattle.std.specs.Borrow.{Bor}
use Rattle.std.specs.Global.{Vec}
use Rattle.std.proofs.lemmas.List.{length-map, map_push}
use Rattle.vax_link.specs.Names.{Name}
use Rattle.vax_link.specs.Layout.{is_listed, names_in}
use Rattle.vax_link.proofs.RoomLaws.{few_push, name_known, name_new, names_too_many}
use Rattle.vax_link.proofs.layout.names_of.Goals as goal
use Rattle.vax_link.proofs.layout.names_of.Goals.{then-not-is_listed+else-len-eq-MOST_SECTIONS+in_ok-push, else-not-is_listed}

pub returns-then-len-eq-MOST_SECTIONS-clause-named : goal.returns-then-len-eq-MOST_SECTIONS-clause-named
returns-then-len-eq-MOST_SECTIONS-clause-named c =
    let names = c.loop-piece.names.items in
    let x = c.piece-item.result in
    let name : Bor (List ℕ) → List ℕ = λ n. n.now in
    let new : is_listed (names_in names) x.now.name ≡ false =
    ap (λ (ns : List (Bor (List ℕ))). is_listed (names_in ns) x.now.name) (sym c.deref.ensures.value) ∙ ap (is_listed (names_in c.deref.result.now)) (sym c.as_slice-name.ensures) ∙ sym c.if-not-is_listed.ensures in
    let long : c.len.result ≡ length names = search rules in
    let full : length (names_in names) ≡ 64 = length-map names name ∙ sym long ∙ c.if-len-eq-MOST_SECTIONS.true in
    names_too_many c.args.pieces.now c.loop-piece.piece-index x (names_in names) c.loop-piece-test.true c.piece-item.is c.loop-piece.invariant.named new full

pub loop-piece-preserved : goal.loop-piece-preserved
loop-piece-preserved c =
    let names = c.loop-piece.names.items in
    let x = c.piece-item.result in
    let items : Vec (Bor (List ℕ)) → List (Bor (List ℕ)) = λ v. v.items in
    let listed : is_listed (names_in names) x.now.name ≡ c.is_listed.result =
    ap (λ (ns : List (Bor (List ℕ))). is_listed (names_in ns) x.now.name) (sym c.deref.ensures.value) ∙ ap (is_listed (names_in c.deref.result.now)) (sym c.as_slice-name.ensures) ∙ sym c.is_listed.ensures in
    let few = c.loop-piece.invariant.few in
    elim c.if-not-is_listed.branch [
      | then-not-is_listed+else-len-eq-MOST_SECTIONS+in_ok-push w ↦
          let more : c.if-not-is_listed.names.items ≡ names ++ c.as_slice-name.result ∷ [] = ap items w.names-is ∙ w.in_ok-push.ensures.items in
          let long : w.len.result ≡ length names = search rules in
          let less : length names ≡ 64 → ⊥ = λ e. w.if-len-eq-MOST_SECTIONS.false (long ∙ e) in
          record {
            named =
                ap names_in more ∙ map_push (λ n. n.now) names c.as_slice-name.result ∙ ap (λ (n : Name). names_in names ++ n ∷ []) c.as_slice-name.ensures
                ∙ name_new c.args.pieces.now c.loop-piece.piece-index x (names_in names) c.loop-piece-test.true c.piece-item.is c.loop-piece.invariant.named (listed ∙ w.if-not-is_listed.true);
            few = few_push names c.if-not-is_listed.names.items c.as_slice-name.result more few less;
          }
      | else-not-is_listed w ↦ record {
        named =
            ap (λ (v : Vec (Bor (List ℕ))). names_in v.items) w.names-is
            ∙ name_known c.args.pieces.now c.loop-piece.piece-index x (names_in names) c.loop-piece-test.true c.piece-item.is c.loop-piece.invariant.named (listed ∙ w.if-not-is_listed.false);
        few = let same = ap (λ (v : Vec (Bor (List ℕ))). length v.items) w.names-is in omega arith;
      }
    ]
