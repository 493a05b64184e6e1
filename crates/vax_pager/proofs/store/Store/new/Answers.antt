use Rattle.std.proofs.Common.{refl}
use Rattle.vax_pager.proofs.Start.{paging_new, sound_new}
use Rattle.vax_pager.proofs.store.Store.new.Goals as goal

pub returns-clause-sound : goal.returns-clause-sound
returns-clause-sound c = sound_new _ c.args.frames c.requires.few c.in_ok-tables.ensures.space (record {
  tables = c.in_ok-tables.ensures.walked;
  kept = c.in_ok-tables.ensures.kept;
  buffer = c.new-4.ensures.entries;
  lists = c.in_ok-lists.ensures;
  pinned = refl;
  frames = c.in_ok-bytes.ensures;
  blocked = c.in_ok-blocked.ensures;
  used = refl;
})

pub returns-clause-paging : goal.returns-clause-paging
returns-clause-paging c = paging_new _ c.args.frames (record {
  tables = c.in_ok-tables.ensures.walked;
  kept = c.in_ok-tables.ensures.kept;
  buffer = c.new-4.ensures.entries;
  lists = c.in_ok-lists.ensures;
  pinned = refl;
  frames = c.in_ok-bytes.ensures;
  blocked = c.in_ok-blocked.ensures;
  used = refl;
}) refl refl refl refl
