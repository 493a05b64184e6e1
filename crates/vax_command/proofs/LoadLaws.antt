-- Files that are read one behind the other.
use Rattle.std.proofs.Common.{◌≡◌, ℕ, List, [], ◌∷◌, ◌++◌, length, take, drop, Bool, Option, None, Some, is_some, unwrap_or, Result, Ok, Err, refl, sym, ap, subst, ◌∙◌, append-nil, append_assoc, IsErrAnd, IfErr, ◌+◌, ◌<◌, get_or, add-one, drop-cons, true, false, if◌then◌else◌, nat_lt, ◌≤◌, arith}
use Rattle.std.proofs.lemmas.Bool.{le-ltb, lt-ltb, ltb-true}
use Rattle.std.proofs.lemmas.List.{map-append, take-append-drop}
use Rattle.std.specs.Borrow.{Bor}
use Rattle.std.specs.Global.{Vec}
use Rattle.vax_cli.specs.Said.{names_of}
use Rattle.vax_command.specs.ReadingView.{texts}
use Rattle.vax_outside.specs.Faults.{Rose}
use Rattle.std.proofs.Math.Seq.{take-append_seam, take-suc}
use Rattle.vax_outside.specs.Directory.{Directory, bytes_of, read_result, within_limit}
use Rattle.vax_outside.specs.declared.traits.FilesFault.{FilesFault}
use Rattle.vax_outside.specs.declared.traits.FilesFault.TheVariants as faults
use Rattle.vax_outside.proofs.Counting.{rose_then}
use Rattle.vax_outside.specs.declared.faults.Failures.{Failures}
use Rattle.vax_cli.specs.Words.{Options, Text}
use Rattle.vax_command.specs.Reading.{EndsBy, HasTexts, Reads, ReadEndsFrom, Sought, Texts, all_sought, behind, file_limit, first_of, given, is_linked, joined_reads, large_limit, limit_for, of_options, of_programs, one_sought, option_of, read_as, read_files, wanted_as}
use Rattle.vax_command.specs.Wanting.{ReadsOne}
use Rattle.vax_command.specs.declared.load.Role.{Role}
use Rattle.vax_command.specs.declared.load.Role.TheVariants as roles
use Rattle.vax_command.specs.declared.status.Status.{Status}
use Rattle.vax_command.specs.declared.status.Status.TheVariants.{Done, Usage, Missing, Large, Refused, Macros, Link, Schedule, Image, Turns, PageFault, ReadFault, WriteFault, NoMemory, Saved, Order, NotHalted, Unsuccessful, Unfinished, LineFault, Told}

-- what reading some names gives, and then others
abbrev joined : Result (List Text) (Text × FilesFault) → Result (List Text) (Text × FilesFault) → Result (List Text) (Text × FilesFault)
joined (Err why) rest = Err why
joined (Ok a) (Ok b) = Ok (a ++ b)
joined (Ok a) (Err why) = Err why

joined-nil : (rest : Result (List Text) (Text × FilesFault)) → rest ≡ joined (Ok []) rest
joined-nil (Ok b) = refl
joined-nil (Err why) = refl

joined-one : (name : Text) (r : Result Text FilesFault) (a b : Result (List Text) (Text × FilesFault)) → joined_reads name r (joined a b) ≡ joined (joined_reads name r a) b
joined-one name (Err fault) a b = refl
joined-one name (Ok bytes) (Err why) b = refl
joined-one name (Ok bytes) (Ok a) (Ok b) = refl
joined-one name (Ok bytes) (Ok a) (Err why) = refl

read-append : (d : Directory) (xs ys : List Sought) → read_files d (xs ++ ys) ≡ joined (read_files d xs) (read_files d ys)
read-append d [] ys = joined-nil (read_files d ys)
read-append d (x ∷ xs) ys =
    ap (joined_reads x.name (read_as x.role d x.name)) (read-append d xs ys) ∙ joined-one x.name (read_as x.role d x.name) (read_files d xs) (read_files d ys)

-- both are there
pub reads_both : (c : Option Directory) (xs ys : List Sought) (a b : List Text) → Reads c xs (Ok a) → Reads c ys (Ok b) → Reads c (xs ++ ys) (Ok (a ++ b))
reads_both None xs ys a b p q = tt
reads_both (Some d) xs ys a b p q = rw (read-append d xs ys, p, q) refl

-- the first can't be read
reads_first : (c : Option Directory) (xs ys : List Sought) (why : Text × FilesFault) → Reads c xs (Err why) → Reads c (xs ++ ys) (Err why)
reads_first None xs ys why p = tt
reads_first (Some d) xs ys why p = rw (read-append d xs ys, p) refl

-- the first are there, and the second can't be read
reads_then : (c : Option Directory) (xs ys : List Sought) (a : List Text) (why : Text × FilesFault) → Reads c xs (Ok a) → Reads c ys (Err why) → Reads c (xs ++ ys) (Err why)
reads_then None xs ys a why p q = tt
reads_then (Some d) xs ys a why p q = rw (read-append d xs ys, p, q) refl

pub reads_none : (c : Option Directory) → Reads c [] (Ok [])
reads_none None = tt
reads_none (Some d) = refl

pub ends_more : (rose later : Type 0) (P Q : Text × FilesFault → Type 0) (status : Status) → (rose → later) → ((why : Text × FilesFault) → P why → Q why) → EndsBy rose P status → EndsBy later Q status
ends_more rose later P Q Done up f e = e
ends_more rose later P Q Usage up f e = e
ends_more rose later P Q (Missing name) up f e = f _ e
ends_more rose later P Q (Large name) up f e = f _ e
ends_more rose later P Q (Refused file line kind) up f e = e
ends_more rose later P Q (Macros file line kind) up f e = e
ends_more rose later P Q (Link kind name place) up f e = e
ends_more rose later P Q (Schedule line kind) up f e = e
ends_more rose later P Q (Image place kind) up f e = e
ends_more rose later P Q Turns up f e = e
ends_more rose later P Q PageFault up f e = e
ends_more rose later P Q ReadFault up f e = up e
ends_more rose later P Q WriteFault up f e = e
ends_more rose later P Q NoMemory up f e = e
ends_more rose later P Q (Saved place kind) up f e = e
ends_more rose later P Q (Order line kind) up f e = e
ends_more rose later P Q (Told which) up f e = e
ends_more rose later P Q NotHalted up f e = e
ends_more rose later P Q Unsuccessful up f e = e
ends_more rose later P Q Unfinished up f e = e
ends_more rose later P Q LineFault up f e = e

-- the read of the first ends the call, or that of the second
pub ends_first : (rose later : Type 0) (c : Option Directory) (xs ys : List Sought) (status : Status) → (rose → later) → ReadEndsFrom rose c xs status → ReadEndsFrom later c (xs ++ ys) status
ends_first rose later c xs ys status up e = ends_more rose later (λ why. Reads c xs (Err why)) (λ why. Reads c (xs ++ ys) (Err why)) status up (λ why. reads_first c xs ys why) e

pub ends_then : (rose later : Type 0) (c d : Option Directory) (xs ys : List Sought) (a : List Text) (status : Status) → d ≡ c → (rose → later) → Reads c xs (Ok a) → ReadEndsFrom rose d ys status → ReadEndsFrom later c (xs ++ ys) status
ends_then rose later c d xs ys a status same up p e =
    ends_more rose later (λ why. Reads c ys (Err why)) (λ why. Reads c (xs ++ ys) (Err why)) status up (λ why. reads_then c xs ys a why p)
    (subst (λ k. ReadEndsFrom rose k ys status) same e)

pub rose_from : (before mid now : Failures) → mid.count ≡ before.count → Rose mid now → Rose before now
rose_from before mid now same rose = rose_then same rose

-- an error has what is said of it
pub err_has : {T : Type 0} (r : Result T Status) (e : Status) (P : Status → Type 0) → IsErrAnd r (λ x. x ≡ e) → P e → IfErr r P
err_has (Ok x) e P is p = tt
err_has (Err x) e P is p = rw is p

-- the file of an option among those of several

pub option_of-given : (name file : Option Text) (rest : List Text) → is_some file ≡ is_some name → option_of name (given file ++ rest) ≡ file
option_of-given None None rest e = refl
option_of-given (Some n) (Some f) rest e = refl
option_of-given None (Some f) rest e = absurd (cc e)
option_of-given (Some n) None rest e = absurd (cc e)

pub first_of-given : (name file : Option Text) (rest : List Text) → is_some file ≡ is_some name → first_of name (given file ++ rest) ≡ unwrap_or file []
first_of-given None None rest e = refl
first_of-given (Some n) (Some f) rest e = refl
first_of-given None (Some f) rest e = absurd (cc e)
first_of-given (Some n) None rest e = absurd (cc e)

pub behind-given : (name file : Option Text) (rest : List Text) → is_some file ≡ is_some name → behind name (given file ++ rest) ≡ rest
behind-given None None rest e = refl
behind-given (Some n) (Some f) rest e = refl
behind-given None (Some f) rest e = absurd (cc e)
behind-given (Some n) None rest e = absurd (cc e)

-- the files of the options and of the script
pub has_given : (c : Option Directory) (o : Options) (name system input schedule script : Option Text) → is_some system ≡ is_some o.system → is_some input ≡ is_some o.input → is_some schedule ≡ is_some o.schedule → is_some script ≡ is_some name
    → Reads c (of_options o name) (Ok ((given system ++ given input) ++ (given schedule ++ given script)))
    → HasTexts c [] o name (record { programs = []; system = system; input = unwrap_or input []; schedule = unwrap_or schedule []; script = unwrap_or script [] })
has_given c o name system input schedule script s i k t reads = record {
  files = (given system ++ given input) ++ (given schedule ++ given script);
  read = reads;
  are =
      let last : first_of name (given script) ≡ unwrap_or script [] = ap (first_of name) (sym (append-nil (given script))) ∙ first_of-given name script [] t in
      let inputs = given input ++ (given schedule ++ given script) in
      rw (
        append_assoc (given system) (given input) (given schedule ++ given script),
        option_of-given o.system system inputs s,
        behind-given o.system system inputs s,
        first_of-given o.input input (given schedule ++ given script) i,
        behind-given o.input input (given schedule ++ given script) i,
        first_of-given o.schedule schedule (given script) k,
        behind-given o.schedule schedule (given script) k,
        last,
      ) refl;
}

pub drop-seam : (xs ys : List Text) → drop (length xs) (xs ++ ys) ≡ ys
drop-seam [] ys = refl
drop-seam (x ∷ xs) ys = drop-seam xs ys

-- and the programs before them
pub has_all : (c : Option Directory) (names programs : List Text) (o : Options) (name : Option Text) (texts : Texts) → length programs ≡ length names → Reads c (of_programs names) (Ok programs) → HasTexts c [] o name texts → HasTexts c names o name (record texts { programs = programs })
has_all c names programs o name texts e reads h = record {
  files = programs ++ h.files;
  read = reads_both c (of_programs names) (of_options o name) programs h.files reads h.read;
  are = rw (← e, take-append_seam programs h.files, drop-seam programs h.files) (ap (λ (t : Texts). record t { programs = programs }) h.are);
}

-- files that are read one by one

-- those of these names that are wanted for this
abbrev pub of_names : Role → List (Bor Text) → List Sought
of_names role names = all_sought role (names_of names)

of_both : (role : Role) (xs ys : List (Bor Text)) → of_names role (xs ++ ys) ≡ of_names role xs ++ of_names role ys
of_both role xs ys =
    ap (all_sought role) (map-append (λ (name : Bor Text). name.now) xs ys)
    ∙ map-append (λ (name : Text). wanted_as role name) (names_of xs) (names_of ys)

taken : (role : Role) (names : List (Bor Text)) (i : ℕ) (x : Bor Text) → i < length names → of_names role (take (i + 1) names) ≡ of_names role (take i names) ++ one_sought role (get_or names i x).now
taken role names i x l =
    let e : take (i + 1) names ≡ take i names ++ get_or names i x ∷ [] = rw add-one (take-suc names i x l) in
    ap (of_names role) e ∙ of_both role (take i names) (get_or names i x ∷ [])

cut_at : (role : Role) (names : List (Bor Text)) (i : ℕ) (x : Bor Text) → i < length names → of_names role (take i names) ++ wanted_as role (get_or names i x).now ∷ of_names role (drop (i + 1) names) ≡ of_names role names
cut_at role names i x l =
    let e : drop i names ≡ get_or names i x ∷ drop (i + 1) names = rw (add-one, drop-cons names i x) refl in
    sym (of_both role (take i names) (get_or names i x ∷ drop (i + 1) names)) ∙ ap (λ rest. of_names role (take i names ++ rest)) (sym e) ∙ ap (of_names role) (take-append-drop i names)

-- one more file
pub one_more : (role : Role) (c d : Option Directory) (names : List (Bor Text)) (i : ℕ) (x : Bor Text) (a : List Text) (bytes : Text) → i < length names → d ≡ c → Reads c (of_names role (take i names)) (Ok a)
    → Reads d (one_sought role (get_or names i x).now) (Ok (bytes ∷ [])) → Reads c (of_names role (take (i + 1) names)) (Ok (a ++ bytes ∷ []))
one_more role c d names i x a bytes l same reads one =
    rw (taken role names i x l) (reads_both c (of_names role (take i names)) (one_sought role (get_or names i x).now) a (bytes ∷ []) reads (subst (λ k. Reads k (one_sought role (get_or names i x).now) (Ok (bytes ∷ []))) same one))

-- the read of a file ends the call
pub ends_at : (role : Role) (rose later : Type 0) (c d : Option Directory) (names : List (Bor Text)) (i : ℕ) (x : Bor Text) (a : List Text) (status : Status) → i < length names → d ≡ c → (rose → later)
    → Reads c (of_names role (take i names)) (Ok a) → ReadEndsFrom rose d (one_sought role (get_or names i x).now) status → ReadEndsFrom later c (of_names role names) status
ends_at role rose later c d names i x a status l same up reads e =
    subst (λ ns. ReadEndsFrom later c ns status) (cut_at role names i x l)
    (ends_then rose later c d (of_names role (take i names)) (wanted_as role (get_or names i x).now ∷ of_names role (drop (i + 1) names)) a status same up reads
    (ends_first rose rose d (one_sought role (get_or names i x).now) (of_names role (drop (i + 1) names)) status (λ r. r) e))

-- the file of a program

ok_before : (name : Text) (r : Result Text FilesFault) (bytes : Text) → joined_reads name r (Ok []) ≡ Ok (bytes ∷ []) → r ≡ Ok bytes
ok_before name (Err fault) bytes e = cc
ok_before name (Ok found) bytes e = let same : found ≡ bytes = cc in ap (λ (b : Text). Ok b) same

kept : (long : Bool) (found bytes : Text) → (if long then Err faults.Large else Ok found) ≡ Ok bytes → Some found ≡ Some bytes
kept true found bytes e = cc
kept false found bytes e = cc

file_of : (file : Option Text) (limit : ℕ) (bytes : Text) → within_limit file limit ≡ Ok bytes → file ≡ Some bytes
file_of None limit bytes e = cc
file_of (Some found) limit bytes e = kept (nat_lt limit (length found)) found bytes e

-- what was read up to the larger limit is held to its own
read_program : (d : Directory) (name bytes : Text) → ReadsOne (Some d) name large_limit (Ok (bytes ∷ [])) → read_as roles.Program d name ≡ within_limit (Some bytes) (limit_for roles.Program bytes)
read_program d name bytes one =
    let is : bytes_of d name ≡ Some bytes = file_of (bytes_of d name) large_limit bytes (ok_before name (read_result d name large_limit) bytes one) in
    ap (λ (file : Option Text). within_limit file (limit_for roles.Program (unwrap_or file []))) is

abbrev held_to : (name bytes : Text) (long : Bool) → Result (List Text) (Text × FilesFault)
held_to name bytes long = joined_reads name (if long then Err faults.Large else Ok bytes) (Ok [])

program_is : (d : Directory) (name bytes : Text) (long : Bool) → nat_lt (limit_for roles.Program bytes) (length bytes) ≡ long → ReadsOne (Some d) name large_limit (Ok (bytes ∷ [])) → Reads (Some d) (one_sought roles.Program name) (held_to name bytes long)
program_is d name bytes long is one =
    ap (λ (read : Result Text FilesFault). joined_reads name read (Ok [])) (read_program d name bytes one) ∙ ap (held_to name bytes) is

fits_there : (c : Option Directory) (name bytes : Text) → length bytes ≤ limit_for roles.Program bytes → ReadsOne c name large_limit (Ok (bytes ∷ [])) → Reads c (one_sought roles.Program name) (Ok (bytes ∷ []))
fits_there None name bytes fits one = tt
fits_there (Some d) name bytes fits one = program_is d name bytes false (le-ltb (limit_for roles.Program bytes) (length bytes) fits) one

-- it begins as a linked program, or has no more bytes than a source may
pub linked_fits : (bytes : Text) → is_linked bytes ≡ true → length bytes ≤ large_limit → length bytes ≤ limit_for roles.Program bytes
linked_fits bytes is within = rw is within

either_fits : (linked : Bool) (n : ℕ) → n ≤ file_limit → n ≤ (if linked then large_limit else file_limit)
either_fits true n short = omega (arith, short)
either_fits false n short = short

pub short_fits : (bytes : Text) → length bytes ≤ file_limit → length bytes ≤ limit_for roles.Program bytes
short_fits bytes short = either_fits (is_linked bytes) (length bytes) short

pub linked_there : (c : Option Directory) (name bytes : Text) → is_linked bytes ≡ true → length bytes ≤ large_limit → ReadsOne c name large_limit (Ok (bytes ∷ [])) → Reads c (one_sought roles.Program name) (Ok (bytes ∷ []))
linked_there c name bytes is within one = fits_there c name bytes (linked_fits bytes is within) one

pub short_there : (c : Option Directory) (name bytes : Text) → length bytes ≤ file_limit → ReadsOne c name large_limit (Ok (bytes ∷ [])) → Reads c (one_sought roles.Program name) (Ok (bytes ∷ []))
short_there c name bytes short one = fits_there c name bytes (short_fits bytes short) one

too_long : (c : Option Directory) (name bytes : Text) → limit_for roles.Program bytes < length bytes → ReadsOne c name large_limit (Ok (bytes ∷ [])) → Reads c (one_sought roles.Program name) (Err (name, faults.Large))
too_long None name bytes long one = tt
too_long (Some d) name bytes long one = program_is d name bytes true (lt-ltb (limit_for roles.Program bytes) (length bytes) long) one

-- neither is so
pub program_large : (c : Option Directory) (name bytes : Text) → is_linked bytes ≡ false → file_limit < length bytes → ReadsOne c name large_limit (Ok (bytes ∷ [])) → Reads c (one_sought roles.Program name) (Err (name, faults.Large))
program_large c name bytes none long one = too_long c name bytes (rw none long) one

-- what has more bytes than the larger limit has more than its own
most : (linked : Bool) → (if linked then large_limit else file_limit) ≤ large_limit
most true = omega arith
most false = omega arith

longer : (long own : Bool) (bytes : Text) (fault : FilesFault) → (long ≡ true → own ≡ true) → (if long then Err faults.Large else Ok bytes) ≡ Err fault → (if own then Err faults.Large else Ok bytes) ≡ Err fault
longer true own bytes fault up e = rw (up refl) e
longer false own bytes fault up e = absurd (cc e)

unread : (file : Option Text) (fault : FilesFault) → within_limit file large_limit ≡ Err fault → within_limit file (limit_for roles.Program (unwrap_or file [])) ≡ Err fault
unread None fault e = e
unread (Some bytes) fault e =
    let own : ℕ = limit_for roles.Program bytes in
    let least : own ≤ large_limit = most (is_linked bytes) in
    longer (nat_lt large_limit (length bytes)) (nat_lt own (length bytes)) bytes fault
    (λ is. lt-ltb own (length bytes) (let more : large_limit < length bytes = ltb-true large_limit (length bytes) is in omega (arith, more, least))) e

not_there : (name : Text) (a b : Result Text FilesFault) (why : Text × FilesFault) → ((fault : FilesFault) → a ≡ Err fault → b ≡ Err fault) → joined_reads name a (Ok []) ≡ Err why → joined_reads name b (Ok []) ≡ Err why
not_there name (Err fault) b why same e = rw (same fault refl) e
not_there name (Ok found) b why same e = absurd (cc e)

program_unread : (c : Option Directory) (name : Text) (why : Text × FilesFault) → ReadsOne c name large_limit (Err why) → Reads c (one_sought roles.Program name) (Err why)
program_unread None name why one = tt
program_unread (Some d) name why one = not_there name (read_result d name large_limit) (read_as roles.Program d name) why (unread (bytes_of d name)) one

-- the read of it ends the call
pub program_ends : (rose : Type 0) (c : Option Directory) (name : Text) (status : Status) → EndsBy rose (λ why. ReadsOne c name large_limit (Err why)) status → ReadEndsFrom rose c (one_sought roles.Program name) status
program_ends rose c name status e =
    ends_more rose rose (λ why. ReadsOne c name large_limit (Err why)) (λ why. Reads c (one_sought roles.Program name) (Err why)) status (λ r. r) (λ why. program_unread c name why) e

-- the list of files with one more
pub texts_more : (before after : List (Vec ℕ)) (bytes : Vec ℕ) → after ≡ before ++ bytes ∷ [] → texts after ≡ texts before ++ bytes.items ∷ []
texts_more before after bytes e = ap texts e ∙ map-append (λ (v : Vec ℕ). v.items) before (bytes ∷ [])

pub pushed : {A : Type 0} (ok : Bool) (before after : List A) (x : A) → after ≡ (if ok then before ++ x ∷ [] else before) → ok ≡ true → after ≡ before ++ x ∷ []
pushed ok before after x e is = rw is at e
