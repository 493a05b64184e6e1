use Rattle.std.proofs.Common.{◌≡◌, ◌≤◌, All, List, length, ap, subst, arith}
use Rattle.std.specs.Prelude.{IfSome}
use Rattle.vax_module.specs.declared.ExternalName.{ExternalName}
use Rattle.vax_module.specs.declared.Module.{Module}
use Rattle.vax_module.specs.declared.Reloc.{Reloc}
use Rattle.vax_module.specs.declared.Section.{Section}
use Rattle.vax_module.specs.declared.Symbol.{Symbol}
use Rattle.vax_module.specs.Formed.{Formed, IsAlignment, IsFieldOf, IsKnown}
use Rattle.vax_link_tests.proofs.link.is_formed.Goals as goal

-- what is known of lists is so of the module that has them
formed : (m : Module) (sections : List Section) (relocs : List Reloc) (externals : List ExternalName) (globals : List Symbol) → sections ≡ m.sections → relocs ≡ m.relocs → externals ≡ m.externals → globals ≡ m.globals → length relocs ≤ 1
    → All (λ s. IsAlignment s.align) sections → All (λ g. IsKnown (length sections) (length externals) g.value) globals → IfSome m.transfer (λ t. IsKnown (length sections) (length externals) t.value) → All (IsFieldOf sections) relocs
    → All (λ r. IsKnown (length sections) (length externals) r.target) relocs → Formed m
formed m sections relocs externals globals s r e g few aligned known begins within targets =
    let one = ap length r in
    let G : List Symbol → Type 0 = λ xs. All (λ x. IsKnown (length sections) (length externals) x.value) xs in
    let G1 : List Section → Type 0 = λ xs. All (λ x. IsKnown (length xs) (length externals) x.value) m.globals in
    let G2 : List ExternalName → Type 0 = λ xs. All (λ x. IsKnown (length m.sections) (length xs) x.value) m.globals in
    let InNames : List Section → Type 0 = λ xs. IfSome m.transfer (λ t. IsKnown (length xs) (length externals) t.value) in
    let InTexts : List ExternalName → Type 0 = λ xs. IfSome m.transfer (λ t. IsKnown (length m.sections) (length xs) t.value) in
    let R : List Reloc → Type 0 = λ xs. All (λ x. IsKnown (length sections) (length externals) x.target) xs in
    let R1 : List Section → Type 0 = λ xs. All (λ x. IsKnown (length xs) (length externals) x.target) m.relocs in
    let R2 : List ExternalName → Type 0 = λ xs. All (λ x. IsKnown (length m.sections) (length xs) x.target) m.relocs in
    let F : List Reloc → Type 0 = λ xs. All (IsFieldOf sections) xs in
    let F1 : List Section → Type 0 = λ xs. All (IsFieldOf xs) m.relocs in
    let A : List Section → Type 0 = λ xs. All (λ x. IsAlignment x.align) xs in
    record {
      aligned = subst A s aligned;
      globals = subst G2 e (subst G1 s (subst G g known));
      transfer = subst InTexts e (subst InNames s begins);
      fields = subst F1 s (subst F r within);
      targets = subst R2 e (subst R1 s (subst R r targets));
      apart = λ i j d below inside. absurd (omega arith);
    }

pub returns : goal.returns
returns c = λ yes.
    formed c.args.module.now c.as_slice-sections.result.now c.as_slice-relocs.result.now c.as_slice-externals.result.now c.as_slice-globals.result.now
    c.as_slice-sections.ensures c.as_slice-relocs.ensures c.as_slice-externals.ensures c.as_slice-globals.ensures (omega arith)
    (c.are_aligned.ensures c.if-not-are_aligned.false) (c.are_known.ensures c.if-not-are_known.false) (c.begins_known.ensures c.if-not-begins_known.false) (c.are_within.ensures c.if-not-are_within.false) (c.have_targets.ensures yes)
