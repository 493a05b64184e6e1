use Rattle.std.proofs.Common.{◌∙◌}
use Rattle.vax_tb.proofs.Places.{there, away_none}
use Rattle.vax_tb.proofs.buffer.Buffer.find.Goals as goal

pub returns-then-entry-page : goal.returns-then-entry-page
returns-then-entry-page c = away_none _ _ _ c.place_of.ensures c.if-entry-page.true

pub returns : goal.returns
returns c = c.walk.ensures ∙ there _ _ _ c.place_of.ensures c.if-entry-page.false
