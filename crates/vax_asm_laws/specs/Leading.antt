-- What statements lead to, one behind another (VAX MACRO and Instruction Set Reference Manual, "VAX MACRO source statement
-- format").
use Rattle.std.specs.Prelude.{◌≡◌, ℕ, List, [], ◌∷◌, ◌++◌, length, map, Option, Ok}
use Rattle.vax_asm.specs.Placing.{Stands, placed}
use Rattle.vax_asm.specs.Walk.{Assembly, nothing}
use Rattle.vax_asm_second.specs.Laid.{outputs}
use Rattle.vax_asm_second.specs.Modules.{filled_in, known_in}
use Rattle.vax_dialect.specs.declared.Dialect.{Dialect}
use Rattle.vax_macro.specs.Rest.{Opening}
use Rattle.vax_module.specs.declared.Module.{Module}
use Rattle.vax_module.specs.declared.Section.{Section}
use Rattle.vax_asm_labels.specs.Naming.{with_waiting}
use Rattle.vax_asm_first.specs.Fixups.{Assignment}
use Rattle.vax_asm_first.specs.Standing.{Standing}
use Rattle.vax_asm_first.specs.declared.types.Origin.{Origin}
use Rattle.vax_asm_laws.specs.Counted.{section_at}

pub record Line : Type 0 where
  pub origin : Origin
  pub text : List ℕ

-- what a statement leaves, behind which this stands
abbrev pub with_statement : Standing → Option Assignment → Assembly → Assembly
with_statement t waiting a = record { standing = t; assignments = with_waiting waiting a.assignments }

-- these statements, none of which has a fault, lead from what was left before to this
abbrev pub Leads : Assembly → List Line → Assembly → Type 0
Leads a [] b = a ≡ b
Leads a (l ∷ lines) b = (t : Standing) × (waiting : Option Assignment) × (placed l.origin l.text a.standing ≡ Stands t waiting) × Leads (with_statement t waiting a) lines b

-- Statements of a source in a dialect lead to the module. Each of its sections has as many bytes as they have counted.
pub record IsStated (dialect : Dialect) (m : Module) : Type 0 where
  pub lines : List Line
  pub behind : Assembly
  pub begin : Option Opening
  pub leads : Leads (nothing dialect) lines behind
  pub filled : filled_in behind.standing behind.assignments begin ≡ Ok m
  pub sizes : map (λ (s : Section). length s.bytes) m.sections ≡ map (λ s. s.size) behind.standing.sections.all

-- Where statements have led to a place of a section, the module's bytes begin there that the statements behind have put there: before them
-- are so many as the place says, those of what stood there already.
pub record LiesBehind (i size : ℕ) (s t : Standing) (section : Section) : Type 0 where
  pub more : List ℕ
  pub bytes : section.bytes ≡ (outputs (known_in t) i 0 (section_at i s.sections).parts).bytes ++ more
  pub place : length (outputs (known_in t) i 0 (section_at i s.sections).parts).bytes ≡ size

-- a statement without a fault leads from what stood before to this
pub record LeadsOn (line : Line) (before after : Standing) : Type 0 where
  pub waiting : Option Assignment
  pub placed : placed line.origin line.text before ≡ Stands after waiting

-- a row of statements of one dialect in two halves, with what stands between them and behind them, and the first begin without its end
pub record Halves : Type 0 where
  pub dialect : Dialect
  pub first : List Line
  pub middle : Assembly
  pub rest : List Line
  pub end : Assembly
  pub begin : Option Opening

-- the module is of these statements
pub record IsOf (h : Halves) (m : Module) : Type 0 where
  pub before : Leads (nothing h.dialect) h.first h.middle
  pub behind : Leads h.middle h.rest h.end
  pub filled : filled_in h.end.standing h.end.assignments h.begin ≡ Ok m

-- where the second half begins in a section
abbrev pub place_in : ℕ → Halves → ℕ
place_in i h = (section_at i h.middle.standing.sections).size
