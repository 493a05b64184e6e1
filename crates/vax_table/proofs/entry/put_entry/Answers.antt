use Rattle.std.proofs.Common.{◌≡◌, ◌+◌, ◌-◌, ◌*◌, arith}
use Rattle.vax_table.proofs.Bytes.{entry_put}
use Rattle.vax_table.proofs.entry.put_entry.Goals as goal

pub returns-clause-entries : goal.returns-clause-entries
returns-clause-entries c n =
    let size : (4 * c.args.place + 4) - 4 * c.args.place ≡ 4 = omega arith in
    entry_put c.args.bytes.now c.write_u32.new.buf _ _ _ _ n size c.requires c.ranges.entry.fits c.write_u32.auto.buf c.write_u32.ensures
