-- Sources are read one behind another.
use Rattle.std.proofs.Common.{◌≡◌, ◌<◌, ◌+◌, ℕ, suc, add-one, Bool, true, false, cond, List, [], ◌∷◌, ◌++◌, length, drop, sym, ap, refl, append_assoc, append-nil, subst, IsErrAnd, ◌∙◌, drop-cons}
use Rattle.std.specs.Prelude.{Vec, Result, Ok, Err, slice_index_or}
use Rattle.std.specs.Global.{Global}
use Rattle.vax_asm.specs.Walk.{assembled}
use Rattle.vax_asm_second.specs.declared.types.Fault.{Fault}
use Rattle.vax_dialect.specs.declared.Dialect.{Dialect}
use Rattle.vax_module.specs.declared.Module.{Module}
use Rattle.vax_program.specs.Program.{Refusal, InImage, and_others, is_linked, modules_of}
use Rattle.vax_program.specs.View.{Answers, refusal_seen, texts}
use Rattle.vax_program.specs.declared.types.ProgramError.{ProgramError}
use Rattle.vax_program.specs.declared.types.ProgramError.TheVariants.{Refused, NoMemory}

-- modules that stand before others
abbrev pub ahead : List Module → Result (List Module) Refusal → Result (List Module) Refusal
ahead modules (Ok others) = Ok (modules ++ others)
ahead modules (Err refusal) = Err refusal

split_at : (xs : List (Vec ℕ Global)) (i : ℕ) (x : Vec ℕ Global) → i < length xs → x ≡ slice_index_or xs i x → texts (drop i xs) ≡ x.items ∷ texts (drop (i + 1) xs)
split_at xs i x h at =
    let split : drop i xs ≡ x ∷ drop (i + 1) xs = rw add-one (drop-cons xs i x h ∙ ap (λ (y : Vec ℕ Global). y ∷ drop (suc i) xs) (sym at)) in
    ap texts split

taken : (b : Bool) (r : Result Module Fault) (file : ℕ) (m : Module) (rest : Result (List Module) Refusal)
    → cond b (Err (InImage 0 11)) (and_others file r (Ok [])) ≡ Ok (m ∷ []) → cond b (Err (InImage 0 11)) (and_others file r rest) ≡ and_others file (Ok m) rest
taken true r file m rest is = absurd cc
taken false (Ok other) file m rest is = let same : other ≡ m = cc in ap (λ (x : Module). and_others file (Ok x) rest) same
taken false (Err fault) file m rest is = absurd cc

not_taken : (b : Bool) (r : Result Module Fault) (file : ℕ) (e : Refusal) (rest : Result (List Module) Refusal)
    → cond b (Err (InImage 0 11)) (and_others file r (Ok [])) ≡ Err e → cond b (Err (InImage 0 11)) (and_others file r rest) ≡ Err e
not_taken true r file e rest is = cc
not_taken false (Ok other) file e rest is = absurd cc
not_taken false (Err fault) file e rest is = cc

moved : (modules : List Module) (file : ℕ) (m : Module) (rest : Result (List Module) Refusal) → ahead (modules ++ m ∷ []) rest ≡ ahead modules (and_others file (Ok m) rest)
moved modules file m (Ok others) = ap Ok (append_assoc modules (m ∷ []) others)
moved modules file m (Err e) = refl

pub one_more : (dialect : Dialect) (file : ℕ) (modules : List Module) (m : Module) (all : Result (List Module) Refusal) (xs : List (Vec ℕ Global)) (i : ℕ) (x : Vec ℕ Global) → i < length xs → x ≡ slice_index_or xs i x
    → modules_of dialect file (x.items ∷ []) ≡ Ok (m ∷ [])
    → ahead modules (modules_of dialect file (texts (drop i xs))) ≡ all
    → ahead (modules ++ m ∷ []) (modules_of dialect (file + 1) (texts (drop (i + 1) xs))) ≡ all
one_more dialect file modules m all xs i x h at is same =
    let rest = modules_of dialect (suc file) (texts (drop (i + 1) xs)) in
    let front : modules_of dialect file (x.items ∷ texts (drop (i + 1) xs)) ≡ and_others file (Ok m) rest = taken (is_linked x.items) (assembled dialect x.items) file m rest is in
    rw add-one (moved modules file m rest)
    ∙ ap (ahead modules) (sym front)
    ∙ ap (λ (l : List (List ℕ)). ahead modules (modules_of dialect file l)) (sym (split_at xs i x h at))
    ∙ same

pub refused : (dialect : Dialect) (file : ℕ) (modules : List Module) (e : Refusal) (all : Result (List Module) Refusal) (xs : List (Vec ℕ Global)) (i : ℕ) (x : Vec ℕ Global) → i < length xs → x ≡ slice_index_or xs i x
    → modules_of dialect file (x.items ∷ []) ≡ Err e
    → ahead modules (modules_of dialect file (texts (drop i xs))) ≡ all
    → all ≡ Err e
refused dialect file modules e all xs i x h at is same =
    sym same
    ∙ ap (λ (l : List (List ℕ)). ahead modules (modules_of dialect file l)) (split_at xs i x h at)
    ∙ ap (ahead modules) (not_taken (is_linked x.items) (assembled dialect x.items) file e (modules_of dialect (suc file) (texts (drop (i + 1) xs))) is)

pub ahead_nil : (front : List Module) (all : Result (List Module) Refusal) → front ≡ [] → ahead front all ≡ all
ahead_nil front (Ok others) e = rw e refl
ahead_nil front (Err refusal) e = refl

pub ahead_all : (dialect : Dialect) (modules : List Module) (file : ℕ) (rest : List (List ℕ)) (all : Result (List Module) Refusal) → rest ≡ [] → ahead modules (modules_of dialect file rest) ≡ all → all ≡ Ok modules
ahead_all dialect modules file rest all none same = sym (rw (none, append-nil) at same)

-- an error of one file is that of all
pub err_step : (e : ProgramError) (r : Result (Vec Module Global) ProgramError) (one all : Result (List Module) Refusal) → IsErrAnd r (λ x. x ≡ e) → Answers (λ (m : Module). m ∷ []) (Err e) one
    → ((why : Refusal) → one ≡ Err why → all ≡ Err why) → Answers (λ (v : Vec Module Global). v.items) r all
err_step e (Ok v) one all is a f = absurd is
err_step (Refused why) (Err x) one all is a f = subst (λ (z : ProgramError). Answers (λ (v : Vec Module Global). v.items) (Err z) all) (sym is) (f (refusal_seen why) a)
err_step NoMemory (Err x) one all is a f = subst (λ (z : ProgramError). Answers (λ (v : Vec Module Global). v.items) (Err z) all) (sym is) tt
