use Rattle.std.proofs.Common.{◌<◌, ◌∷◌, [], ◌∙◌, ℕ, List, refl, ap, sym, subst, length}
use Rattle.std.proofs.lemmas.List.{length-map, map-set}
use Rattle.vax_asm_values.specs.Values as specs
use Rattle.vax_asm_values.specs.View.{source_of, sources_in, lists_in}
use Rattle.vax_asm_values.specs.Waiting.{Standing}
use Rattle.std.specs.Global.{Vec}
use Rattle.vax_asm_values.specs.declared.journal.Change.TheVariants.{Defined}
use Rattle.vax_asm_values.proofs.Marks.{kept_through, noted, source_unset}
use Rattle.vax_asm_values.proofs.Stepping.{come, watched_more}
use Rattle.vax_asm_values.proofs.types.Board.define.Goals as goal

pub settle-requires-clause-standing : goal.settle-requires-clause-standing
settle-requires-clause-standing c =
    let sources = sources_in c.args.self.now.sources in
    let within : c.args.number < length sources = rw (length-map c.args.self.now.sources.items source_of) c.requires.within in
    let P : List specs.Source → Type 0 = λ l. Standing l c.args.self.now.values.items (lists_in c.wait.new.waiting) (c.args.number ∷ []) in
    subst P (sym (map-set source_of c.args.self.now.sources.items c.args.number c.args.source))
    (come sources c.args.self.now.values.items (lists_in c.args.self.now.waiting) (lists_in c.wait.new.waiting) c.args.number (source_of c.args.source) c.requires.settled within c.requires.first
    (watched_more sources (lists_in c.args.self.now.waiting) (lists_in c.wait.new.waiting) c.args.number (source_of c.args.source) within c.requires.settled.watched c.in_ok-wait.ensures.grown c.in_ok-wait.ensures.watches))

pub returns-clause-sources : goal.returns-clause-sources
returns-clause-sources c = ap sources_in c.settle.ensures.sources ∙ map-set source_of c.args.self.now.sources.items c.args.number c.args.source

pub returns-clause-mark : goal.returns-clause-mark
returns-clause-mark c =
    let board = c.args.self.now in
    let long = length-map board.waiting.items (λ (w : Vec ℕ). w.items) ∙ sym c.wait.ensures.length ∙ sym (length-map c.wait.new.waiting.items (λ (w : Vec ℕ). w.items)) in
    kept_through board _ c.settle.new.self
    (noted board _ (Defined c.args.number) c.note.ensures (source_unset board.sources.items c.args.number c.args.source c.requires.first) refl c.in_ok-wait.ensures.grown long)
    c.settle.ensures.mark
