use Rattle.std.proofs.Common.{◌≡◌, All, map, ap, arith}
use Rattle.vax_asm_data.proofs.Folding.{part_within}
use Rattle.vax_lex.specs.Tokens.{IsTokenOf}
use Rattle.vax_asm_first.specs.Progress.{Site}
use Rattle.vax_asm_statement.specs.Parts.{parts}
use Rattle.vax_asm_data.proofs.boundary.align.Goals as goal

pub align_to-requires : goal.align_to-requires
align_to-requires c =
    let line = c.in-Ok-site_of.site.line.now.value.items in
    let on_line : line ≡ c.args.line.now.value.items = ap (λ (s : Site). s.line) c.in-Ok-site_of.ensures in
    let tokens : All (IsTokenOf line) c.args.operands.now = rw on_line c.requires.tokens in
    let split : map (λ s. s.now) c.as_slice.result.now ≡ parts c.args.operands.now = rw c.as_slice.ensures.value c.in-Ok.ensures.parts in
    part_within line (parts c.args.operands.now) c.as_slice.result.now 0 _ (omega (arith, c.in-len1.len_at_least)) split (c.parts.ensures.within line tokens)

pub fill-requires-clause-boundary : goal.fill-requires-clause-boundary
fill-requires-clause-boundary c =
    let line = c.in-Ok-site_of.site.line.now.value.items in
    let on_line : line ≡ c.args.line.now.value.items = ap (λ (s : Site). s.line) c.in-Ok-site_of.ensures in
    let tokens : All (IsTokenOf line) c.args.operands.now = rw on_line c.requires.tokens in
    let split : map (λ s. s.now) c.as_slice.result.now ≡ parts c.args.operands.now = rw c.as_slice.ensures.value c.in-Ok.ensures.parts in
    part_within line (parts c.args.operands.now) c.as_slice.result.now 0 _ (omega (arith, c.in-len2.len_at_least)) split (c.parts.ensures.within line tokens)

pub fill-requires-clause-byte : goal.fill-requires-clause-byte
fill-requires-clause-byte c =
    let line = c.in-Ok-site_of.site.line.now.value.items in
    let on_line : line ≡ c.args.line.now.value.items = ap (λ (s : Site). s.line) c.in-Ok-site_of.ensures in
    let tokens : All (IsTokenOf line) c.args.operands.now = rw on_line c.requires.tokens in
    let split : map (λ s. s.now) c.as_slice.result.now ≡ parts c.args.operands.now = rw c.as_slice.ensures.value c.in-Ok.ensures.parts in
    part_within line (parts c.args.operands.now) c.as_slice.result.now 1 _ (omega (arith, c.in-len2.len_at_least)) split (c.parts.ensures.within line tokens)
