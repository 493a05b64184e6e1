use Rattle.std.proofs.Common.{◌++◌, ℕ, List, ap, ◌∙◌, append_assoc}
use Rattle.vax_save.specs.Saved.{longword}
use Rattle.vax_save.proofs.fields.push_area.Goals as goal

pub returns-clause-exact : goal.returns-clause-exact
returns-clause-exact c =
    let first : List ℕ = longword c.args.area.now.first in
    let pages : List ℕ = longword c.args.area.now.pages in
    let prot : List ℕ = longword c.args.area.now.prot in
    c.push_longword-3.ensures.exact ∙ ap (λ (n : ℕ). c.push_longword-2.new.fields.items ++ longword n) c.from.ensures
    ∙ ap (λ (t : List ℕ). t ++ prot) (c.push_longword-2.ensures.exact ∙ ap (λ (t : List ℕ). t ++ pages) c.push_longword.ensures.exact)
    ∙ append_assoc (c.args.fields.now.items ++ first) pages prot ∙ append_assoc c.args.fields.now.items first (pages ++ prot)
