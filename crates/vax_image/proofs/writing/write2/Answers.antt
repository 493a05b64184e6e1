use Rattle.std.proofs.Common.{◌≡◌, ◌++◌, ◌+◌, ◌<◌, ◌≤◌, ◌^◌, ℕ, List, [], All, length, drop, get_or, sym, ap, subst, ◌∙◌, arith, rules}
use Rattle.std.proofs.lemmas.List.{length-map}
use Rattle.vax_space.specs.declared.Area.{Area}
use Rattle.vax_image.specs.Texts.{Text, number_among, number_of, texts_with, texts_behind, texts_of}
use Rattle.vax_image.specs.File.{placing, longword, numbered}
use Rattle.vax_image.specs.Views.{text, texts}
use Rattle.vax_image.proofs.WritingLaws.{areas_small, numbered_more, texts_more, texts_all, texts_fit, numbered_all, written_2}
use Rattle.vax_image.proofs.writing.write2.Goals as goal

pub take_text-requires-clause-code : goal.take_text-requires-clause-code
take_text-requires-clause-code c =
    let area = c.area-item.result in
    let i = c.loop-area.area-index in
    let at : get_or c.args.image.now.areas i area ≡ area = ap (λ (xs : List Area). get_or xs i area) (sym c.as_slice-areas.ensures) ∙ sym c.area-item.is in
    let lt : i < length c.args.image.now.areas = subst (λ (xs : List Area). i < length xs) c.as_slice-areas.ensures c.loop-area-test.true in
    subst (λ (a : Area). a.prot ≤ 15) at (areas_small c.args.image.now c.requires i area lt).1

pub loop-area-preserved : goal.loop-area-preserved
loop-area-preserved c =
    let area = c.area-item.result in
    let areas = c.as_slice-areas.result.now in
    let old = texts c.loop-area.texts.items in
    let next = texts c.take_text.new.taken.items in
    let number : c.in_ok-number.number ≡ number_of old area = c.in_ok-number.ensures.number ∙ ap (λ (b : List ℕ). number_among old b area.prot) c.as_slice.ensures in
    let behind : next ≡ texts_behind old area = c.in_ok-number.ensures.taken ∙ ap (λ (b : List ℕ). texts_with old b area.prot) c.as_slice.ensures in
    let out : c.put_longword.new.out.items ≡ (c.loop-area.numbered.items ++ placing area) ++ longword (number_of old area) =
    c.in_ok-put_longword.ensures ∙ ap (λ (n : ℕ). c.put_placing.new.out.items ++ longword n) number ∙ ap (λ (t : List ℕ). t ++ longword (number_of old area)) c.in_ok-put_placing.ensures in
    record {
      fields = ap (λ (t : List ℕ). t ++ numbered next (drop (c.loop-area.area-index + 1) areas)) out
          ∙ numbered_more c.loop-area.numbered.items old next areas c.loop-area.area-index area (numbered [] areas) c.loop-area-test.true c.area-item.is behind c.loop-area.invariant.fields;
      taken = texts_more old next areas c.loop-area.area-index area (texts_of [] areas) c.loop-area-test.true c.area-item.is behind c.loop-area.invariant.taken;
      few = omega (arith, c.in_ok-number.ensures.few);
    }

pub put_texts-requires : goal.put_texts-requires
put_texts-requires c =
    let areas = c.as_slice-areas.result.now in
    let all = texts_all (texts c.loop-area.texts.items) areas c.loop-area.area-index (texts_of [] areas) c.loop-area-test.false c.loop-area.invariant.taken in
    subst (λ (ts : List Text). All (λ t. length t.bytes < 2 ^ 32) ts) (sym (ap texts c.deref.ensures.value ∙ all ∙ ap (λ (xs : List Area). texts_of [] xs) c.as_slice-areas.ensures)) (texts_fit c.args.image.now c.requires)

pub returns : goal.returns
returns c =
    let areas = c.as_slice-areas.result.now in
    let old = texts c.loop-area.texts.items in
    let all = texts_all old areas c.loop-area.area-index (texts_of [] areas) c.loop-area-test.false c.loop-area.invariant.taken in
    let fields = numbered_all c.loop-area.numbered.items old areas c.loop-area.area-index (numbered [] areas) c.loop-area-test.false c.loop-area.invariant.fields in
    let count : c.len.result ≡ length c.loop-area.texts.items = search rules in
    let taken = ap texts c.deref.ensures.value in
    record {
      image_is = c.requires;
      spelled = written_2 c.args.image.now areas (texts c.deref.result.now) c.deref-2.result.now _ _ _ _ _ _ _ c.len.result c.as_slice-areas.ensures (taken ∙ all) (c.deref-2.ensures.value ∙ fields)
          (count ∙ sym (length-map c.loop-area.texts.items text) ∙ ap length (sym taken)) c.in_ok-out.ensures.items c.in_ok-put_word.ensures c.in_ok-put_entry.ensures c.in_ok-put_longword-2.ensures c.in_ok-put_longword-3.ensures c.in_ok-put_texts.ensures c.in_ok-extend_from_slice.ensures.items;
    }
