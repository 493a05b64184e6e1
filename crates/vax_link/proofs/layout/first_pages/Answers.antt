use Rattle.std.proofs.Common.{◌≡◌, ◌+◌, ℕ, true, List, take, drop, sym, ap, subst, ◌∙◌, arith}
use Rattle.std.specs.Int.{div_ceil}
use Rattle.std.specs.Global.{Vec}
use Rattle.vax_link.specs.Names.{Name}
use Rattle.vax_link.specs.Layout.{end_page_from, has_no_room, is_control_block, names_in, origin, pages_of, sections_in}
use Rattle.vax_link.proofs.RoomLaws.{IsLaid, far_behind, laid_control, laid_first, laid_other, name_at, parted_at, too_far, too_long, too_many_bytes}
use Rattle.vax_link.proofs.layout.first_pages.Goals as goal
use Rattle.vax_link.proofs.layout.first_pages.Goals.{then-is_control_block+else-size-gt512+in_ok-push, else-is_control_block+in_ok-push-2+else-page-end}

pub loop-name-init : goal.loop-name-init
loop-name-init c =
    let pieces = sections_in c.args.pieces.now in
    let P : ℕ → Type 0 = λ page. IsLaid c.args.base pieces c.args.names.now 0 page c.new-pages.result.items in
    let Q : List ℕ → Type 0 = λ pages. IsLaid c.args.base pieces c.args.names.now 0 (origin c.args.base) pages in
    subst P (sym c.origin-page.ensures) (subst Q (sym c.new-pages.ensures.items) (laid_first c.args.base pieces c.args.names.now))

pub returns-in_default-clause-room : goal.returns-in_default-clause-room
returns-in_default-clause-room c =
    let pieces = sections_in c.args.pieces.now in
    let names = c.args.names.now in
    let i = c.loop-name.name-index in
    let P : List Name → Type 0 = λ ns. has_no_room c.args.base pieces ns ≡ true in
    subst P (sym (parted_at names i c.loop-name-test.true)) (too_many_bytes c.args.base pieces (names_in (take i names)) (names_in (drop (i + 1) names)) (name_at names i).now c.in_default.ensures.none)

pub returns-then-size-gt512-clause-room : goal.returns-then-size-gt512-clause-room
returns-then-size-gt512-clause-room c =
    let pieces = sections_in c.args.pieces.now in
    let names = c.args.names.now in
    let i = c.loop-name.name-index in
    let size = c.in-Some.ensures.some in
    let P : List Name → Type 0 = λ ns. has_no_room c.args.base pieces ns ≡ true in
    subst P (sym (parted_at names i c.loop-name-test.true)) (too_long c.args.base pieces (names_in (take i names)) (names_in (drop (i + 1) names)) (name_at names i).now (sym c.if-is_control_block.ensures) (omega (arith, size)))

pub returns-then-page-end-clause-room : goal.returns-then-page-end-clause-room
returns-then-page-end-clause-room c =
    let region = c.args.base in
    let pieces = sections_in c.args.pieces.now in
    let names = c.args.names.now in
    let i = c.loop-name.name-index in
    let x = (name_at names i).now in
    let front = names_in (take i names) in
    let more : c.div_ceil-page.result ≡ pages_of pieces x = c.div_ceil-page.ensures ∙ ap (λ (n : ℕ). div_ceil n 512) c.in-Some.ensures.some in
    let page = c.loop-name.invariant.page in
    let last = c.end_page-end.ensures.page in
    let P : List Name → Type 0 = λ ns. has_no_room region pieces ns ≡ true in
    subst P (sym (parted_at names i c.loop-name-test.true))
    (too_far region pieces front (names_in (drop (i + 1) names)) x
    (far_behind (is_control_block region x) (end_page_from region pieces (origin region) front) (pages_of pieces x) _ (sym c.if-is_control_block.ensures) (omega (arith, c.if-page-end.true, page, last, more))))

pub loop-name-preserved : goal.loop-name-preserved
loop-name-preserved c =
    let region = c.args.base in
    let pieces = sections_in c.args.pieces.now in
    let names = c.args.names.now in
    let i = c.loop-name.name-index in
    let x = (name_at names i).now in
    let old = c.loop-name.pages.items in
    let items : Vec ℕ → List ℕ = λ v. v.items in
    let P : ℕ → Type 0 = λ page. IsLaid region pieces names (i + 1) page c.if-is_control_block.pages.items in
    elim c.if-is_control_block.branch [
      | then-is_control_block+else-size-gt512+in_ok-push w ↦
          let laid = laid_control region pieces names i c.loop-name.page c.in-Some.size old c.loop-name.invariant c.loop-name-test.true (sym w.if-is_control_block.ensures) c.in-Some.ensures.some w.if-size-gt512.false in
          let Q : List ℕ → Type 0 = λ pages. IsLaid region pieces names (i + 1) c.loop-name.page pages in
          subst P (sym w.page-is) (subst Q (sym (ap items w.pages-is ∙ w.in_ok-push.ensures.items)) laid)
      | else-is_control_block+in_ok-push-2+else-page-end w ↦
          let more : w.div_ceil-page.result ≡ pages_of pieces x = w.div_ceil-page.ensures ∙ ap (λ (n : ℕ). div_ceil n 512) c.in-Some.ensures.some in
          let last = c.end_page-end.ensures.page in
          let laid = laid_other region pieces names i c.loop-name.page w.div_ceil-page.result old c.loop-name.invariant c.loop-name-test.true (sym w.if-is_control_block.ensures) more (omega (arith, w.if-page-end.false, last)) in
          let Q : List ℕ → Type 0 = λ pages. IsLaid region pieces names (i + 1) (c.loop-name.page + w.div_ceil-page.result) pages in
          subst P (sym w.page-is) (subst Q (sym (ap items w.pages-is ∙ w.in_ok-push-2.ensures.items)) laid)
    ]
