use Rattle.std.proofs.Common.{FitsSigned, w64, sym, ap, ◌∙◌, rules}
use Rattle.std.proofs.lemmas.Int.{to_z-of_z}
use Rattle.vax_link.specs.Names.{low_longword}
use Rattle.vax_link.specs.Values.{section_address, value_of, value_of_external}
use Rattle.vax_link.proofs.FieldLaws.{sum_is}
use Rattle.vax_link.proofs.fields.Values.value_of.Goals as goal

pub returns-in-Absolute : goal.returns-in-Absolute
unfolding value_of
returns-in-Absolute c = λ region modules values.
    let fits : FitsSigned w64 c.in-Absolute.n = search rules in
    c.low_longword.ensures ∙ ap low_longword (to_z-of_z w64 c.in-Absolute.n fits) ∙ sym (ap (value_of region modules c.args.owner) c.in-Absolute.is)

pub returns-in-Section : goal.returns-in-Section
unfolding value_of
returns-in-Section c = λ region modules values.
    let fits : FitsSigned w64 c.in-Section.offset = search rules in
    sum_is c.section_address.result c.low_longword-in-Section.result (section_address region modules c.args.owner c.in-Section.section) (low_longword c.in-Section.offset)
    (c.section_address.ensures region modules values.layout) (c.low_longword-in-Section.ensures ∙ ap low_longword (to_z-of_z w64 c.in-Section.offset fits))
    ∙ sym (ap (value_of region modules c.args.owner) c.in-Section.is)

pub returns-in-External : goal.returns-in-External
unfolding value_of
returns-in-External c = λ region modules values.
    let fits : FitsSigned w64 c.in-External.offset = search rules in
    sum_is c.external_value.result c.low_longword-in-External.result (value_of_external region modules c.args.owner c.in-External.index) (low_longword c.in-External.offset)
    (c.external_value.ensures region modules values) (c.low_longword-in-External.ensures ∙ ap low_longword (to_z-of_z w64 c.in-External.offset fits))
    ∙ sym (ap (value_of region modules c.args.owner) c.in-External.is)
