use Rattle.vax_isa.proofs.Hashing.{all_candidates, bytes_at}
use Rattle.vax_isa.proofs.buckets.candidates.Goals as goal

pub returns : goal.returns
returns c =
    record {
      complete = all_candidates c.buckets.result.now c.buckets.ensures.complete c.args.name.now c.hash.result c.hash.ensures;
      bytes = bytes_at c.buckets.result.now c.hash.result c.buckets.ensures.bytes;
    }
