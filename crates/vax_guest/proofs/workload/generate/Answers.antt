use Rattle.std.proofs.Common.{◌++◌, ℕ, Vec, Global, ap, ◌∙◌, string_bytes}
use Rattle.std.specs.List.{flat_map}
use Rattle.vax_guest.proofs.Lines.{lines_more, lines_all}
use Rattle.vax_guest.specs.Executive.{line}
use Rattle.vax_guest.specs.Workload.{workload, closing, instruction}
use Rattle.vax_guest.proofs.workload.generate.Goals as goal

pub loop-preserved : goal.loop-preserved
loop-preserved c =
    let written = c.in_ok-push_instruction.ensures ∙ ap (λ k. string_bytes c.loop.text ++ line (instruction k)) c.following-x.ensures in
    rw c.following-x.ensures (lines_more (string_bytes c.loop.text) (string_bytes c.push_instruction.new.text) _ c.loop.x c.args.size c.loop.counter c.loop-test.true c.loop.invariant written)

pub returns : goal.returns
unfolding workload
returns c =
    let all = lines_all (string_bytes c.loop.text) _ c.loop.x c.args.size c.loop.counter c.loop-test.false c.loop.invariant in
    ap (λ (v : Vec ℕ Global). v.items) c.into_bytes.ensures.value ∙ c.in_ok-push_str.ensures.bytes ∙ ap (λ t. t ++ flat_map line closing) all
