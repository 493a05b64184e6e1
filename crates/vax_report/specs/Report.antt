-- The report of a machine's state.
use Rattle.std.specs.Prelude.{ℕ, ◌+◌, ◌*◌, ◌%◌, ◌^◌, List, [], ◌∷◌, ◌++◌, codes, slice_range, take, drop, length}
use Rattle.std.specs.List.{flat_map, range_with_len}
use Rattle.std.specs.Int.{div_ceil}
use Rattle.vax_word.specs.declared.Core.{Core}
use Rattle.vax_report.specs.declared.Dump.{Dump}
use Rattle.vax_report.specs.declared.Last.{Last}
use Rattle.vax_report.specs.declared.Last.TheVariants.{Ending as Ended, Steps, Break, Turns, PageFault}
use Rattle.vax_report.specs.Lines.{numbers_line, count_line, ending_line, memory_line}

-- the lines before the dumps: the ending, the steps, the units done of an open string instruction, the sixteen
-- registers, the processor status longword, the stack pointers, and the bytes of input taken
unfoldable pub head : Core → Last → ℕ → ℕ → ℕ → List ℕ
head core last steps units taken =
    ending_line last
    ++ count_line (codes "STEPS ") steps
    ++ count_line (codes "UNITS ") units
    ++ numbers_line (codes "R0") (slice_range core.regs 0 4)
    ++ numbers_line (codes "R4") (slice_range core.regs 4 8)
    ++ numbers_line (codes "R8") (slice_range core.regs 8 12)
    ++ numbers_line (codes "R12") (slice_range core.regs 12 16)
    ++ numbers_line (codes "PSL") (core.psl.0 ∷ [])
    ++ numbers_line (codes "STACKS") core.stacks
    ++ count_line (codes "INPUT ") taken

-- the line of the sixteen bytes from a place of a dump on, or of those that are left; addresses wrap at 32 bits
abbrev pub dump_line : Dump → ℕ → List ℕ
dump_line dump start = memory_line ((dump.addr + start) % 2 ^ 32) (take 16 (drop start dump.bytes))

-- a line for each sixteen bytes, the last line's may be fewer
unfoldable pub dump_text : Dump → List ℕ
dump_text dump = flat_map (λ k. dump_line dump (16 * k)) (range_with_len 0 (div_ceil (length dump.bytes) 16))

-- the dumps that a report shows: none after a page fault
abbrev pub shown : Last → List Dump → List Dump
shown (Ended ending) dumps = dumps
shown Steps dumps = dumps
shown Break dumps = dumps
shown Turns dumps = dumps
shown PageFault dumps = []

-- the whole report
unfoldable pub report : Core → Last → ℕ → ℕ → ℕ → List Dump → List ℕ
report core last steps units taken dumps = head core last steps units taken ++ flat_map dump_text (shown last dumps)
