use Rattle.vax_top.proofs.SourceLaws.{linker_answers, source_answers}
use Rattle.vax_top.proofs.sources.program_error.Goals as goal

pub returns-in-Source : goal.returns-in-Source
returns-in-Source c = rw c.in-Source.is (record { answers = source_answers c.in-Source.file c.in-Source.line c.code-kind.result c.in-Source.kind c.code-kind.ensures })

pub returns-in-Link : goal.returns-in-Link
returns-in-Link c = rw c.in-Link.is (record { answers = linker_answers c.in-Link.error c.link_refusal.result c.link_refusal.ensures.refusal c.link_refusal.ensures.memory })
