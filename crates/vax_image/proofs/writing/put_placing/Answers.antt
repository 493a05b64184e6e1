use Rattle.std.proofs.Common.{◌++◌, ℕ, List, ap, ◌∙◌, append_assoc}
use Rattle.vax_image.specs.File.{longword}
use Rattle.vax_image.proofs.writing.put_placing.Goals as goal

pub returns : goal.returns
returns c =
    let first : List ℕ = longword c.args.area.now.first in
    let pages : List ℕ = longword c.args.area.now.pages in
    let prot : List ℕ = longword c.args.area.now.prot in
    c.in_ok-put_longword-3.ensures ∙ ap (λ (n : ℕ). c.put_longword-2.new.out.items ++ longword n) c.from.ensures
    ∙ ap (λ (t : List ℕ). t ++ prot) (c.in_ok-put_longword-2.ensures ∙ ap (λ (t : List ℕ). t ++ pages) c.in_ok-put_longword.ensures)
    ∙ append_assoc (c.args.out.now.items ++ first) pages prot ∙ append_assoc c.args.out.now.items first (pages ++ prot)
