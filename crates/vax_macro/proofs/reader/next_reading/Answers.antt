use Rattle.std.proofs.Common.{◌≡◌, List, ◌∷◌, subst, sym, ◌∙◌}
use Rattle.vax_dialect.specs.declared.Dialect.{Dialect}
use Rattle.vax_macro.specs.Expansion.{next_line_step, read_on}
use Rattle.vax_macro.specs.Lines.{SourceLine, Reading}
use Rattle.vax_macro.specs.LineViews.{line_of, lines_of, reading_of}
use Rattle.vax_macro.specs.Readings.{Joins}
use Rattle.vax_macro.proofs.reader.next_reading.Goals as goal

pub lines-init : goal.lines-init
lines-init c =
    let took : lines_of c.args.lines.now ≡ line_of c.in-Some.first ∷ lines_of c.next.new.self = rw c.in-Some.is at c.in_ok-next.ensures in
    record {
      same = λ names rest.
          let P : List SourceLine → Type 0 = λ ls. Joins names c.in_ok-joined.joined (lines_of c.next.new.self) (reading_of c.join.new.self) (record rest { dialect = c.args.dialect; read = c.join.new.read })
          (next_line_step names ls (record rest { dialect = c.args.dialect; read = c.args.read.now })) in
          let Q : Reading → Type 0 = λ r. Joins names c.in_ok-joined.joined (lines_of c.next.new.self) (reading_of c.join.new.self) (record rest { dialect = c.args.dialect; read = c.join.new.read })
          (read_on names r (line_of c.in-Some.first ∷ lines_of c.next.new.self) (record rest { dialect = c.args.dialect; read = c.args.read.now })) in
          let D : Dialect → Type 0 = λ d. Joins names c.in_ok-joined.joined (lines_of c.next.new.self) (reading_of c.join.new.self) (record rest { dialect = d; read = c.join.new.read })
          (read_on names (reading_of c.new-begun.result) (line_of c.in-Some.first ∷ lines_of c.next.new.self) (record rest { dialect = d; read = c.args.read.now })) in
          subst P (sym took) (subst Q c.new-begun.ensures.exact (subst D c.new-begun.ensures.dialect (c.in_ok-joined.ensures.exact names (lines_of c.next.new.self) rest)));
      dialect = c.join.ensures.dialect ∙ c.new-begun.ensures.dialect;
      more = c.in_ok-joined.ensures.more;
      within = c.in_ok-joined.ensures.within;
    }
