-- What is told of a program that isn't built.
use Rattle.std.specs.Prelude.{◌≡◌, ◌⊎◌, ℕ, ◌==◌, Bool, true, false, if◌then◌else◌, List, [], ◌∷◌, ◌++◌, codes, decimal, Option, None, Some}
use Rattle.vax_asm_causes.specs.Remarks.{Asked}
use Rattle.vax_asm_errors.specs.Errors.{IsErrors}
use Rattle.vax_asm_errors.specs.Remarks.{IsRemarked}
use Rattle.vax_dialect.specs.declared.Dialect.{Dialect}
use Rattle.vax_check.specs.Linking.{files_of, link_text}
use Rattle.vax_lines.specs.Lines.{Text}
use Rattle.vax_prelude.specs.Preludes.{Title}
use Rattle.vax_program.specs.Program.{Refusal, Source, Link, InImage, InPrelude, is_linked}

-- the errors of one file of a dialect were added, if it is a source
abbrev pub IsFileTold : Dialect → Title → (file before after : Text) → Type 0
IsFileTold dialect title file before after = ((is_linked file ≡ true) × (after ≡ before)) ⊎ ((is_linked file ≡ false) × IsErrors dialect title file before after)

-- the errors of all sources of a dialect among these files, in order
abbrev pub AreTold : Dialect → List Title → (files : List Text) → (before after : Text) → Type 0
AreTold dialect [] files before after = after ≡ before
AreTold dialect (title ∷ titles) [] before after = after ≡ before
AreTold dialect (title ∷ titles) (file ∷ files) before after = (between : Text) × IsFileTold dialect title file before between × AreTold dialect titles files between after

-- the remarks on one file of a dialect that are asked for were added, if it is a source
abbrev pub IsFileRemarked : Dialect → Asked → Title → (file before after : Text) → Type 0
IsFileRemarked dialect asked title file before after = ((is_linked file ≡ true) × (after ≡ before)) ⊎ ((is_linked file ≡ false) × IsRemarked dialect title file asked before after)

-- those on all sources among these files, in order
abbrev pub AreRemarked : Dialect → Asked → List Title → (files : List Text) → (before after : Text) → Type 0
AreRemarked dialect asked [] files before after = after ≡ before
AreRemarked dialect asked (title ∷ titles) [] before after = after ≡ before
AreRemarked dialect asked (title ∷ titles) (file ∷ files) before after = (between : Text) × IsFileRemarked dialect asked title file before between × AreRemarked dialect asked titles files between after

unfoldable pub asked_with : (bare unused : Bool) → (name : Text) → Asked
asked_with bare unused name = record { bare = bare; unused = unused; name = name }

-- What is asked of the sources of a program that has this refusal, or none: on masks where it is one for the bare machine, on labels that nothing uses
-- where no file by itself has a fault, and where the name stands first that the linker refuses.
abbrev pub asked_of : (bare : Bool) → Option Refusal → Asked
asked_of bare None = asked_with bare true []
asked_of bare (Some (Link kind name address)) = asked_with bare true name
asked_of bare (Some (Source file line kind)) = asked_with bare false []
asked_of bare (Some (InImage place kind)) = asked_with bare false []
asked_of bare (Some (InPrelude file line kind)) = asked_with bare false []

-- the fault of a field of an executable, in words
unfoldable pub executable_words : ℕ → Text
executable_words kind =
    if kind == 20 then codes "the executable isn't one of 32 bits"
    else (if kind == 21 then codes "its numbers don't have their low bytes first"
    else (if kind == 22 then codes "its version isn't 1"
    else (if kind == 23 then codes "it is no executable with fixed addresses"
    else (if kind == 24 then codes "it is for another machine than the VAX"
    else (if kind == 25 then codes "its header hasn't 52 bytes, or a program header hasn't 32"
    else (if kind == 26 then codes "it has no program headers, more than 64, or nothing that is loaded"
    else (if kind == 27 then codes "the file ends inside a header or a segment's bytes"
    else (if kind == 28 then codes "it wants an interpreter, as programs with shared libraries do"
    else (if kind == 29 then codes "a segment has more bytes in the file than in memory"
    else (if kind == 30 then codes "a segment's alignment is no power of two, or its address and its offset don't agree by it"
    else (if kind == 31 then codes "a segment lies outside the part of memory in which the program begins"
    else (if kind == 32 then codes "a segment begins on a page of the one before it, or before that"
    else (if kind == 33 then codes "the program begins in no segment"
    else (if kind == 34 then codes "it is for another base than the command needs"
    else codes "the file isn't one that can be run here"))))))))))))))

-- the fault of a field of an image, in words
unfoldable pub image_words : ℕ → Text
image_words kind =
    if kind == 1 then codes "an image begins with `VAXI`"
    else (if kind == 2 then codes "its version is neither 1 nor 2"
    else (if kind == 3 then codes "it is for another base, or for none that there is"
    else (if kind == 4 then codes "it has no areas, or more than 64 areas or texts"
    else (if kind == 5 then codes "an area has no page, overlaps the one before it, or lies outside its part of memory"
    else (if kind == 6 then codes "there is no such protection"
    else (if kind == 7 then codes "it has more bytes than the area's pages hold, or a text that is empty or too long"
    else (if kind == 8 then codes "the file ends inside the field"
    else (if kind == 9 then codes "bytes stand behind the last area"
    else (if kind == 10 then codes "the program begins in no area"
    else (if kind == 11 then codes "an image or an executable can't be joined with other files"
    else (if kind == 12 then codes "an area's text has another number than it must have, or no area uses a text"
    else executable_words kind)))))))))))

unfoldable pub image_head : ℕ → Text
image_head kind = codes "error: image " ++ decimal kind ++ codes ": "

unfoldable pub image_place : ℕ → Text
image_place place = codes ", at its byte " ++ decimal place ++ codes "\n"

unfoldable pub image_text : ℕ → ℕ → Text
image_text place kind = image_head kind ++ image_words kind ++ image_place place

-- the faults of all sources, or what the linker found, or the fault of an image's or an executable's file
abbrev pub AreErrorsOf : Dialect → List Title → (files : List Text) → Refusal → Text → Type 0
AreErrorsOf dialect titles files (Source file line kind) text = AreTold dialect titles files [] text
AreErrorsOf dialect titles files (Link kind name address) text = text ≡ link_text dialect kind name address (files_of titles files)
AreErrorsOf dialect titles files (InImage place kind) text = text ≡ image_text place kind
AreErrorsOf dialect titles files (InPrelude file line kind) text = AreTold dialect titles files [] text

-- What is told of files of a program, which may be one for the bare machine: why they give none, if they give none, and then remarks on their sources. The
-- text of a source begins with what stands before it.
abbrev pub Tells : Dialect → (bare : Bool) → List Title → (files : List Text) → Option Refusal → Text → Type 0
Tells dialect bare titles files None text = AreRemarked dialect (asked_of bare None) titles files [] text
Tells dialect bare titles files (Some refusal) text =
    (errors : Text) × AreErrorsOf dialect titles files refusal errors × AreRemarked dialect (asked_of bare (Some refusal)) titles files errors text
