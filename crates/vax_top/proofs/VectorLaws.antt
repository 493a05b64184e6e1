-- What writing vectors comes to.
use Rattle.std.proofs.Common.{inl, inr, ℕ, true, false, List, refl}
use Rattle.vax_outside.specs.Blocks.{BlockFile}
use Rattle.vax_outside.specs.Channels.{Channels, only}
use Rattle.vax_outside.specs.Faults.{CountsFailure}
use Rattle.vax_outside.specs.declared.traits.Chan.TheVariants.{Out}
use Rattle.vax_cli.specs.declared.vectors.VectorRequest.{VectorRequest}
use Rattle.vax_vector_lines.specs.Lines.{AreVectors, Wrote, WrotePrefix}
use Rattle.vax_command.specs.Around.{Change, untouched}
use Rattle.vax_command.specs.Ends.{EndsSo}
use Rattle.vax_command.specs.declared.status.Status.{Status}
use Rattle.vax_command.specs.declared.status.Status.TheVariants.{Done, Unfinished, WriteFault}
use Rattle.vax_top.specs.Vectors.{AreAsked, AreWritten, VectorsDo}

-- beside a page file that is left alone
written_kept : (Such : List ℕ → Type 0) (answer : Status) (pages : Change BlockFile) (status : Status) (grown : Channels) → pages.same → AreWritten Such answer untouched status grown → AreWritten Such answer pages status grown
written_kept Such answer pages status grown k d = record { text = d.text; such = d.such; answers = d.answers; wrote = d.wrote; keeps = k }

pub vectors_kept : (pages : Change BlockFile) (request : VectorRequest) (status : Status) (grown : Channels) → pages.same → VectorsDo untouched request status grown → VectorsDo pages request status grown
vectors_kept pages request status grown k (inl d) = inl (written_kept (AreAsked request.opcodes request) Done pages status grown k d)
vectors_kept pages request status grown k (inr d) = inr (written_kept AreVectors Unfinished pages status grown k d)

module _ (sink : Change Channels) (request : VectorRequest) where
  -- all were written
  pub all_written : Wrote (AreAsked request.opcodes request) sink.before.told sink.after.told → CountsFailure false sink.before.faults sink.after.faults → EndsSo sink (VectorsDo untouched request) Done
  all_written w c = record {
    meant = Done;
    grown = only Out w.text;
    so = inl (record { text = w.text; such = w.such; answers = refl; wrote = refl; keeps = tt });
    ends = inl (record { answer = refl; grew = w.grew; quiet = c.quiet });
  }

  -- memory was refused behind some
  pub some_written : Wrote AreVectors sink.before.told sink.after.told → CountsFailure false sink.before.faults sink.after.faults → EndsSo sink (VectorsDo untouched request) Unfinished
  some_written w c = record {
    meant = Unfinished;
    grown = only Out w.text;
    so = inr (record { text = w.text; such = w.such; answers = refl; wrote = refl; keeps = tt });
    ends = inl (record { answer = refl; grew = w.grew; quiet = c.quiet });
  }

  -- a write failed
  pub write_failed : WrotePrefix sink.before.told sink.after.told → CountsFailure true sink.before.faults sink.after.faults → EndsSo sink (VectorsDo untouched request) WriteFault
  write_failed w c = record {
    meant = Unfinished;
    grown = only Out w.text;
    so = inr (record { text = w.text; such = w.are; answers = refl; wrote = refl; keeps = tt });
    ends = inr (record { answer = refl; prefix = w.grew; cause = c.cause });
  }
