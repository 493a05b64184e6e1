use Rattle.vax_tb.proofs.Places.{once_away, once_no, once_yes}
use Rattle.vax_tb.proofs.buffer.Buffer.seen_at_once.Goals as goal

pub returns-then-entry-page : goal.returns-then-entry-page
returns-then-entry-page c = record { frame = once_away _ _ _ _ _ c.place_of.ensures c.if-entry-page.true }

pub returns-then-not-permits : goal.returns-then-not-permits
returns-then-not-permits c = record { frame = once_no _ _ _ _ _ _ c.requires.of_mode c.args.self.now.sound c.place_of.ensures c.if-entry-page.false c.permits.ensures c.if-not-permits.true }

pub returns : goal.returns
returns c = record { frame = once_yes _ _ _ _ _ _ c.requires.of_mode c.args.self.now.sound c.place_of.ensures c.if-entry-page.false c.permits.ensures c.if-not-permits.false }
