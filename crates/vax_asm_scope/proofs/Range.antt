-- What statements do leaves each name with a definition that there is.
use Rattle.std.proofs.Common.{◌≡◌, ◌<◌, ◌≤◌, ◌+◌, ℕ, Bool, true, false, cond, List, [], ◌∷◌, ◌++◌, All, length, Option, Some, None, Result, Ok, Err, refl, sym, ap, ◌∙◌, subst, arith, ◌⊎◌, inl, inr}
use Rattle.std.proofs.lemmas.List.{length-append, length-set, length_push, get_or-set_same}
use Rattle.std.proofs.lemmas.Bool.{eq-eqb}
use Rattle.std.proofs.lemmas.Bool.Decides.{nat_tests}
use Rattle.std.proofs.lemmas.List.Elements.{All-append, All-cons, All-nil, All-push, All-set}
use Rattle.std.specs.Prelude.{pos, slice_set, if◌then◌else◌, ◌&&◌, nat_lt, codes, ◌==◌}
use Rattle.std.specs.Str.{bytes_eq}
use Rattle.vax_lex.specs.Grammar.{Symbol}
use Rattle.vax_lex.specs.declared.value.Value.{Value}
use Rattle.vax_lex.specs.declared.value.Value.TheVariants.{External}
use Rattle.vax_asm_names.specs.ByName.{with_entry}
use Rattle.vax_asm_names.specs.Names as table
use Rattle.vax_asm_names.specs.declared.types.DefinedBy.{DefinedBy}
use Rattle.vax_asm_names.specs.declared.types.DefinedBy.TheVariants.{Nothing, Label, Assignment}
use Rattle.vax_asm_names.specs.declared.types.Duplicate.{Duplicate}
use Rattle.vax_asm_names.specs.declared.types.Linkage.{Linkage}
use Rattle.vax_asm_names.specs.declared.types.Linkage.TheVariants as links
use Rattle.vax_asm_names.specs.declared.types.Local.{Local}
use Rattle.vax_asm_values.specs.Values.{Meaning, Written, Source, ToCome, Given, with_source, worth, value_of, is_to_come, source_at}
use Rattle.vax_asm_scope.specs.Used.{at_term, used}
use Rattle.vax_asm_scope.specs.Scope.{Scope, is_local, entry_by, entry, Meant, mean_here, mean_local, mean_name, mean, Bound, bind, bind_all, renamed, InRange, AreIn, IsInRange, opened_if_fresh, assign_to, local_by, labelled, kept, assigned, labelled_locally, begun_block, in_block, linked, assuming, nothing, bound, is_external, with_externals, closed}

some_is : {X : Type 0} {x y : X} → Some x ≡ Some y → x ≡ y
some_is {X} {x} e = ap (λ (o : Option X). elim o [ Some z ↦ z | None ↦ x ]) e

pub range_grows : (n : table.Names) (k m : ℕ) → InRange n k → k ≤ m → InRange n m
range_grows n k m r le = record {
  numbers = r.numbers;
  all = λ i d h. omega (arith, r.all i d h, le);
  block = r.block;
  blocks = λ i d h. λ t l e. omega (arith, r.blocks i d h t l e, le);
}

kept_length : (b : Bool) (i : ℕ) (s : Source) (sources : List Source) → length (if b then slice_set sources i s else sources) ≡ length sources
kept_length true i s sources = length-set sources i s
kept_length false i s sources = refl

pub length_with_source : (i : ℕ) (s : Source) (sources : List Source) → length (with_source i s sources) ≡ length sources
length_with_source i s sources = kept_length (nat_lt i (length sources) && is_to_come (source_at sources i)) i s sources

entry_in : (b : Bool) (n m i : ℕ) (o : Option ℕ) → n < m → ((k : ℕ) → o ≡ Some k → k < m) → cond b (Some n) o ≡ Some i → i < m
entry_in true n m i o less h e = omega (arith, less, some_is e)
entry_in false n m i o less h e = h i e

pub name_in : (text : List ℕ) (n : table.Names) (k : ℕ) → InRange n k → InRange (table.with_name text k n) (k + 1)
name_in text n k r =
    let longer : length (n.all ++ table.first_seen n.assumes_external text k ∷ []) ≡ length n.all + 1 = length_push n.all (table.first_seen n.assumes_external text k) in
    record {
      numbers = λ t i e. entry_in (bytes_eq text t) (length n.all) (length (n.all ++ table.first_seen n.assumes_external text k ∷ [])) i (n.numbers t) (omega (arith, longer)) (λ j f. omega (arith, longer, r.numbers t j f)) e;
      all = All-push (λ (m : table.Name). m.definition < k + 1) n.all (table.first_seen n.assumes_external text k) (λ i d h. omega (arith, r.all i d h)) (omega arith);
      block = r.block;
      blocks = λ i d h. λ t l e. omega (arith, r.blocks i d h t l e);
    }

-- the local labels of the current block
current_in : (n : table.Names) (k : ℕ) → InRange n k → AreIn k (table.locals_of n)
current_in n k r = r.blocks n.block table.no_locals r.block

local_entry_in : (b : Bool) (l m : Local) (k : ℕ) (o : Option Local) → l.definition < k → ((q : Local) → o ≡ Some q → q.definition < k) → cond b (Some l) o ≡ Some m → m.definition < k
local_entry_in true l m k o less h e = subst (λ (q : Local). q.definition < k) (some_is e) less
local_entry_in false l m k o less h e = h m e

pub local_in : (text : List ℕ) (l : Local) (n : table.Names) (k : ℕ) → l.definition < k → InRange n k → InRange (table.with_local text l n) k
local_in text l n k less r = record {
  numbers = r.numbers;
  all = r.all;
  block = omega (arith, r.block, length-set n.blocks n.block (with_entry text (Some l) (table.locals_of n)));
  blocks = All-set (AreIn k) n.blocks n.block (with_entry text (Some l) (table.locals_of n))
      (λ t m e. local_entry_in (bytes_eq text t) l m k (table.locals_of n t) less (current_in n k r t) e) r.blocks;
}

pub entry_range : (text : List ℕ) (s : Scope) (o : Option ℕ) → s.names.numbers text ≡ o → IsInRange s → IsInRange (entry_by text s o).scope × ((entry_by text s o).number < length (entry_by text s o).scope.names.all)
entry_range text s (Some i) is r = (r, r.numbers text i is)
entry_range text s None is r =
    let longer : length (s.sources ++ ToCome ∷ []) ≡ length s.sources + 1 = length_push s.sources ToCome in
    let names : length (s.names.all ++ table.first_seen s.names.assumes_external text (length s.sources) ∷ []) ≡ length s.names.all + 1 = length_push s.names.all (table.first_seen s.names.assumes_external text (length s.sources)) in
    (rw longer (name_in text s.names (length s.sources) r), omega (arith, names))

pub definition_in : (n : table.Names) (i k : ℕ) → InRange n k → i < length n.all → (table.name_at n.all i).definition < k
definition_in n i k r h = r.all i (table.first_seen true [] 0) h

-- what a name means
abbrev pub MeansOne : Meant → Type 0
MeansOne m = IsInRange m.scope × (m.definition < length m.scope.sources)

mean_here_in : (here : Value) (s : Scope) → IsInRange s → MeansOne (mean_here here s)
mean_here_in here s r =
    let longer : length (with_source (length s.sources) (Given here) (s.sources ++ ToCome ∷ [])) ≡ length s.sources + 1 = length_with_source (length s.sources) (Given here) (s.sources ++ ToCome ∷ []) ∙ length_push s.sources ToCome in
    (range_grows s.names (length s.sources) (length (with_source (length s.sources) (Given here) (s.sources ++ ToCome ∷ []))) r (omega (arith, longer)), omega (arith, longer))

pub mean_local_in : (text : List ℕ) (s : Scope) (o : Option Local) → table.locals_of s.names text ≡ o → IsInRange s → MeansOne (mean_local text s o)
mean_local_in text s (Some l) is r = (r, current_in s.names (length s.sources) r text l is)
mean_local_in text s None is r =
    let longer : length (s.sources ++ ToCome ∷ []) ≡ length s.sources + 1 = length_push s.sources ToCome in
    let k = length (s.sources ++ ToCome ∷ []) in
    (local_in text (table.used_locally (length s.sources) None) s.names k (omega (arith, longer)) (range_grows s.names (length s.sources) k r (omega (arith, longer))), omega (arith, longer))

mean_name_in : (text : List ℕ) (s : Scope) → IsInRange s → MeansOne (mean_name (entry text s))
mean_name_in text s r =
    let e = entry text s in
    let both = entry_range text s (s.names.numbers text) refl r in
    (both.0, definition_in e.scope.names e.number (length e.scope.sources) both.0 both.1)

one_of : (b : Bool) (m n : Meant) → MeansOne m → MeansOne n → MeansOne (if b then m else n)
one_of true m n here there = here
one_of false m n here there = there

pub mean_in : (here : Value) (text : List ℕ) (s : Scope) → IsInRange s → MeansOne (mean here text s)
mean_in here text s r =
    one_of (bytes_eq text (codes ".")) (mean_here here s) (if is_local text then mean_local text s (table.locals_of s.names text) else mean_name (entry text s)) (mean_here_in here s r)
    (one_of (is_local text) (mean_local text s (table.locals_of s.names text)) (mean_name (entry text s)) (mean_local_in text s (table.locals_of s.names text) refl r) (mean_name_in text s r))

-- names that are bound
abbrev pub BindsAll : Bound → Type 0
BindsAll b = IsInRange b.scope × All (λ m. m.definition < length b.scope.sources) b.names

mean_grows_by : (text : List ℕ) (s : Scope) (o : Option ℕ) → length s.sources ≤ length (entry_by text s o).scope.sources
mean_grows_by text s (Some i) = omega arith
mean_grows_by text s None = omega (arith, length_push s.sources ToCome)

local_grows_by : (text : List ℕ) (s : Scope) (o : Option Local) → length s.sources ≤ length (mean_local text s o).scope.sources
local_grows_by text s (Some l) = omega arith
local_grows_by text s None = omega (arith, length_push s.sources ToCome)

grows_of : (b : Bool) (k : ℕ) (m n : Meant) → k ≤ length m.scope.sources → k ≤ length n.scope.sources → k ≤ length (if b then m else n).scope.sources
grows_of true k m n here there = here
grows_of false k m n here there = there

mean_grows : (here : Value) (text : List ℕ) (s : Scope) → length s.sources ≤ length (mean here text s).scope.sources
mean_grows here text s =
    grows_of (bytes_eq text (codes ".")) (length s.sources) (mean_here here s) (if is_local text then mean_local text s (table.locals_of s.names text) else mean_name (entry text s))
    (omega (arith, length_with_source (length s.sources) (Given here) (s.sources ++ ToCome ∷ []), length_push s.sources ToCome))
    (grows_of (is_local text) (length s.sources) (mean_local text s (table.locals_of s.names text)) (mean_name (entry text s)) (local_grows_by text s (table.locals_of s.names text)) (mean_grows_by text s (s.names.numbers text)))

bind_in : (here : Value) (text : List ℕ) (b : Bound) → BindsAll b → BindsAll (bind here text b)
bind_in here text b h =
    let m = mean here text b.scope in
    let one = mean_in here text b.scope h.0 in
    (one.0, All-push (λ (q : Meaning). q.definition < length m.scope.sources) b.names (record { name = text; definition = m.definition }) (λ i d l. omega (arith, h.1 i d l, mean_grows here text b.scope)) one.1)

pub bind_all_in : (here : Value) (texts : List (List ℕ)) (b : Bound) → BindsAll b → BindsAll (bind_all here b texts)
bind_all_in here [] b h = h
bind_all_in here (text ∷ texts) b h = bind_all_in here texts (bind here text b) (bind_in here text b h)

pub nothing_bound : (s : Scope) → IsInRange s → BindsAll (record { names = []; scope = s })
nothing_bound s r = (r, λ i d h. absurd (omega (arith, h)))

-- names that are defined

labelled_keeps : (text : List ℕ) (d : ℕ) (by : DefinedBy) (g x w : Bool) (m : table.Name) → table.labelled (record { text = text; definition = d; defined_by = by; global = g; external = x; weak = w }) ≡ Ok m → m.definition ≡ d
labelled_keeps text d Nothing g x w m e = cc
labelled_keeps text d Label g x w m e = absurd cc
labelled_keeps text d Assignment g x w m e = absurd cc

assigned_keeps : (fresh : ℕ) (text : List ℕ) (d : ℕ) (by : DefinedBy) (g x w : Bool) (m : table.Name) → table.assigned fresh (record { text = text; definition = d; defined_by = by; global = g; external = x; weak = w }) ≡ Ok m → (m.definition ≡ d) ⊎ (m.definition ≡ fresh)
assigned_keeps fresh text d Nothing g x w m e = inl cc
assigned_keeps fresh text d Label g x w m e = absurd cc
assigned_keeps fresh text d Assignment g x w m e = inr cc

change_in : (n : table.Names) (i k : ℕ) (m : table.Name) → InRange n k → m.definition < k → InRange (table.with_change i n m) k
change_in n i k m r h = record {
  numbers = λ t j e. omega (arith, r.numbers t j e, length-set n.all i m);
  all = All-set (λ (q : table.Name). q.definition < k) n.all i m h r.all;
  block = r.block;
  blocks = r.blocks;
}

changed_in : (n : table.Names) (i k : ℕ) (r : Result table.Name Duplicate) (m : table.Names) → InRange n k → ((q : table.Name) → r ≡ Ok q → q.definition < k) → table.changed i n r ≡ Ok m → InRange m k
changed_in n i k (Ok q) m h each e =
    let is : table.with_change i n q ≡ m = cc in
    let P : table.Names → Type 0 = λ x. InRange x k in
    subst P is (change_in n i k q h (each q refl))
changed_in n i k (Err d) m h each e = absurd cc

renamed_in : (source : Source) (i : ℕ) (sources : List Source) (r : Result table.Names Duplicate) (s : Scope) → ((m : table.Names) → r ≡ Ok m → InRange m (length sources)) → renamed source i sources r ≡ Ok s → IsInRange s
renamed_in source i sources (Ok n) s h e =
    let is : record { names = n; sources = with_source (table.name_at n.all i).definition source sources } ≡ s = cc in
    subst IsInRange is (rw (length_with_source (table.name_at n.all i).definition source sources) (h n refl))
renamed_in source i sources (Err d) s h e = absurd cc

pub label_in : (text : List ℕ) (v : Value) (s t : Scope) → IsInRange s → labelled text v s ≡ Ok t → IsInRange t
label_in text v s t r e =
    let f = entry text s in
    let both = entry_range text s (s.names.numbers text) refl r in
    let name = table.name_at f.scope.names.all f.number in
    let here : name.definition < length f.scope.sources = definition_in f.scope.names f.number (length f.scope.sources) both.0 both.1 in
    renamed_in (Given v) f.number f.scope.sources (table.changed f.number f.scope.names (table.labelled name)) t
    (λ m is. changed_in f.scope.names f.number (length f.scope.sources) (table.labelled name) m both.0
    (λ q same. omega (arith, here, labelled_keeps name.text name.definition name.defined_by name.global name.external name.weak q same)) is) e

length_opened : (b : Bool) (sources : List Source) → length sources ≤ length (if b then sources ++ ToCome ∷ [] else sources)
length_opened true sources = omega (arith, length_push sources ToCome)
length_opened false sources = omega arith

assign_to_in : (source : Source) (i : ℕ) (sources : List Source) (r : Result table.Names Duplicate) (s : Scope) → ((m : table.Names) → r ≡ Ok m → InRange m (length (opened_if_fresh (table.name_at m.all i).definition sources))) → assign_to source i sources r ≡ Ok s → IsInRange s
assign_to_in source i sources (Ok n) s h e =
    let d = (table.name_at n.all i).definition in
    let is : record { names = n; sources = with_source d source (opened_if_fresh d sources) } ≡ s = cc in
    subst IsInRange is (rw (length_with_source d source (opened_if_fresh d sources)) (h n refl))
assign_to_in source i sources (Err d) s h e = absurd cc

changed_is : (n : table.Names) (i : ℕ) (r : Result table.Name Duplicate) (m : table.Names) → table.changed i n r ≡ Ok m → (q : table.Name) × ((r ≡ Ok q) × (table.with_change i n q ≡ m))
changed_is n i (Ok q) m e = (q, (refl, cc))
changed_is n i (Err d) m e = absurd cc

fresh_opened : (d : ℕ) (sources : List Source) → d ≡ length sources → length (opened_if_fresh d sources) ≡ length sources + 1
fresh_opened d sources e = ap (λ (b : Bool). length (if b then sources ++ ToCome ∷ [] else sources)) (eq-eqb d (length sources) e) ∙ length_push sources ToCome

assigned_within : (d fresh k : ℕ) (sources : List Source) → fresh ≡ length sources → k < length sources → (d ≡ k) ⊎ (d ≡ fresh) → d < length (opened_if_fresh d sources)
assigned_within d fresh k sources is h (inl e) = omega (arith, e, h, length_opened (d == length sources) sources)
assigned_within d fresh k sources is h (inr e) = omega (arith, e, is, fresh_opened d sources (e ∙ is))

pub assign_in : (text : List ℕ) (w : Written) (s t : Scope) → IsInRange s → assigned text w s ≡ Ok t → IsInRange t
assign_in text w s t r e =
    let f = entry text s in
    let names = f.scope.names in
    let sources = f.scope.sources in
    let both = entry_range text s (s.names.numbers text) refl r in
    let name = table.name_at names.all f.number in
    let here : name.definition < length sources = definition_in names f.number (length sources) both.0 both.1 in
    assign_to_in (kept w (worth (value_of sources) w)) f.number sources (table.changed f.number names (table.assigned (length sources) name)) t
    (λ m is.
    let (q, (gives, same)) = changed_is names f.number (table.assigned (length sources) name) m is in
    let P : table.Names → Type 0 = λ x. InRange x (length (opened_if_fresh (table.name_at x.all f.number).definition sources)) in
    let found : (table.name_at (slice_set names.all f.number q) f.number).definition ≡ q.definition = ap (λ (x : table.Name). x.definition) (get_or-set_same names.all f.number q (table.first_seen true [] 0) both.1) in
    let within : q.definition < length (opened_if_fresh q.definition sources) =
    assigned_within q.definition (length sources) name.definition sources refl here (assigned_keeps (length sources) name.text name.definition name.defined_by name.global name.external name.weak q gives) in
    let k = length (opened_if_fresh q.definition sources) in
    subst P same (rw found (change_in names f.number k q (range_grows names (length sources) k both.0 (length_opened (q.definition == length sources) sources)) within)))
    e

-- a local label that is defined
local_same : (m : Local) (b : Bool) (l : Local) → if◌then◌else◌ {A = Result Local Duplicate} b (Err (record {})) (Ok (record m { defined = true })) ≡ Ok l → l.definition ≡ m.definition
local_same m true l e = absurd cc
local_same m false l e = cc

local_keeps : (fresh : ℕ) (o : Option Local) (l : Local) → table.labelled_locally fresh o ≡ Ok l → (l.definition ≡ fresh) ⊎ ((m : Local) × ((o ≡ Some m) × (l.definition ≡ m.definition)))
local_keeps fresh None l e = inl cc
local_keeps fresh (Some m) l e = inr (m, (refl, local_same m m.defined l e))

local_by_in : (text : List ℕ) (v : Value) (s : Scope) (r : Result Local Duplicate) (t : Scope) → IsInRange s → ((l : Local) → r ≡ Ok l → l.definition < length (opened_if_fresh l.definition s.sources)) → local_by text v s r ≡ Ok t → IsInRange t
local_by_in text v s (Ok l) t r h e =
    let d = l.definition in
    let sources = opened_if_fresh d s.sources in
    let is : record { names = table.with_local text l s.names; sources = with_source d (Given v) sources } ≡ t = cc in
    subst IsInRange is (rw (length_with_source d (Given v) sources)
    (local_in text l s.names (length sources) (h l refl) (range_grows s.names (length s.sources) (length sources) r (length_opened (d == length s.sources) s.sources))))
local_by_in text v s (Err d) t r h e = absurd cc

local_within : (fresh : ℕ) (s : Scope) (text : List ℕ) (l : Local) → fresh ≡ length s.sources → IsInRange s → (l.definition ≡ fresh) ⊎ ((m : Local) × ((table.locals_of s.names text ≡ Some m) × (l.definition ≡ m.definition))) → l.definition < length (opened_if_fresh l.definition s.sources)
local_within fresh s text l is r (inl e) = omega (arith, e, is, fresh_opened l.definition s.sources (e ∙ is))
local_within fresh s text l is r (inr m) = omega (arith, m.1.1, current_in s.names (length s.sources) r text m.0 m.1.0, length_opened (l.definition == length s.sources) s.sources)

pub local_label_in : (text : List ℕ) (v : Value) (s t : Scope) → IsInRange s → labelled_locally text v s ≡ Ok t → IsInRange t
local_label_in text v s t r e =
    local_by_in text v s (table.labelled_locally (length s.sources) (table.locals_of s.names text)) t r
    (λ l is. local_within (length s.sources) s text l refl r (local_keeps (length s.sources) (table.locals_of s.names text) l is)) e

pub block_in : (s : Scope) → IsInRange s → IsInRange (begun_block s)
block_in s r = record {
  numbers = r.numbers;
  all = r.all;
  block = omega (arith, length-append s.names.blocks (table.no_locals ∷ []));
  blocks = All-append (AreIn (length s.sources)) s.names.blocks (table.no_locals ∷ []) r.blocks (All-cons (AreIn (length s.sources)) table.no_locals [] (λ t l e. absurd cc) (All-nil (AreIn (length s.sources))));
}

back_in_by : (b : Bool) (i : ℕ) (n : table.Names) (k : ℕ) → InRange n k → (b ≡ true → i < length n.blocks) → InRange (if b then record n { block = i } else n) k
back_in_by true i n k r h = record { numbers = r.numbers; all = r.all; block = h refl; blocks = r.blocks }
back_in_by false i n k r h = r

pub back_in : (i : ℕ) (s : Scope) → IsInRange s → IsInRange (in_block i s)
back_in i s r = back_in_by (nat_lt i (length s.names.blocks)) i s.names (length s.sources) r (λ e. grind (arith, nat_tests))

same_definition : (linkage : Linkage) (n : table.Name) → n.definition ≡ (table.linked linkage n).definition
same_definition links.External n = refl
same_definition links.Global n = refl
same_definition links.Weak n = refl

pub linked_in : (linkage : Linkage) (text : List ℕ) (s : Scope) → IsInRange s → IsInRange (linked linkage text s)
linked_in linkage text s r =
    let f = entry text s in
    let both = entry_range text s (s.names.numbers text) refl r in
    change_in f.scope.names f.number (length f.scope.sources) (table.linked linkage (table.name_at f.scope.names.all f.number)) both.0
    (subst (λ (d : ℕ). d < length f.scope.sources) (same_definition linkage (table.name_at f.scope.names.all f.number)) (definition_in f.scope.names f.number (length f.scope.sources) both.0 both.1))

pub nothing_in : IsInRange nothing
nothing_in = record {
  numbers = λ t i e. absurd cc;
  all = λ i d h. absurd (omega (arith, h));
  block = omega arith;
  blocks = All-cons (AreIn 0) table.no_locals (table.no_locals ∷ []) (λ t l e. absurd cc)
      (All-cons (AreIn 0) table.no_locals [] (λ t l e. absurd cc) (All-nil (AreIn 0)));
}

-- each call leaves names in range
pub entry_is_in : (text : List ℕ) (s t : Scope) → IsInRange s → t ≡ (entry text s).scope → IsInRange t
entry_is_in text s t r is = subst IsInRange (sym is) (entry_range text s (s.names.numbers text) refl r).0

pub block_is_in : (s t : Scope) → IsInRange s → t ≡ begun_block s → IsInRange t
block_is_in s t r is = subst IsInRange (sym is) (block_in s r)

pub back_is_in : (i : ℕ) (s t : Scope) → IsInRange s → t ≡ in_block i s → IsInRange t
back_is_in i s t r is = subst IsInRange (sym is) (back_in i s r)

pub local_is_in : (text : List ℕ) (s t : Scope) → IsInRange s → t ≡ (mean_local text s (table.locals_of s.names text)).scope → IsInRange t
local_is_in text s t r is = subst IsInRange (sym is) (mean_local_in text s (table.locals_of s.names text) refl r).0

pub linked_is_in : (linkage : Linkage) (text : List ℕ) (s t : Scope) → IsInRange s → t ≡ linked linkage text s → IsInRange t
linked_is_in linkage text s t r is = subst IsInRange (sym is) (linked_in linkage text s r)

assuming_in : (assumes : Bool) (s : Scope) → IsInRange s → IsInRange (assuming assumes s)
assuming_in assumes s r = record { numbers = r.numbers; all = r.all; block = r.block; blocks = r.blocks }

pub assuming_is_in : (assumes : Bool) (s t : Scope) → IsInRange s → t ≡ assuming assumes s → IsInRange t
assuming_is_in assumes s t r is = subst IsInRange (sym is) (assuming_in assumes s r)

bound_all_in : (here : Value) (symbols : List Symbol) (s : Scope) → IsInRange s → BindsAll (bound here symbols s)
bound_all_in here symbols s r = bind_all_in here (used at_term symbols) (record { names = []; scope = s }) (r, λ i d h. absurd (omega (arith, h)))

pub bound_is_in : (here : Value) (symbols : List Symbol) (s t : Scope) (names : List Meaning) → IsInRange s → record { names = names; scope = t } ≡ bound here symbols s → IsInRange t
bound_is_in here symbols s t names r is =
    let P : Bound → Type 0 = λ b. IsInRange b.scope in
    subst P (sym is) (bound_all_in here symbols s r).0

pub bound_means : (here : Value) (symbols : List Symbol) (s t : Scope) (names : List Meaning) → IsInRange s → record { names = names; scope = t } ≡ bound here symbols s → All (λ m. m.definition < length t.sources) names
bound_means here symbols s t names r is =
    let P : Bound → Type 0 = λ b. All (λ m. m.definition < length b.scope.sources) b.names in
    subst P (sym is) (bound_all_in here symbols s r).1

either_length : (b : Bool) (xs ys : List Source) (k : ℕ) → length xs ≡ k → length ys ≡ k → length (if b then xs else ys) ≡ k
either_length true xs ys k e f = e
either_length false xs ys k e f = f

length_externals : (i : ℕ) (names : List table.Name) (sources : List Source) → length (with_externals i names sources) ≡ length sources
length_externals i [] sources = refl
length_externals i (n ∷ names) sources =
    either_length (is_external n) (with_externals (i + 1) names (with_source n.definition (Given (External i (pos 0))) sources)) (with_externals i names sources) (length sources)
    (length_externals (i + 1) names (with_source n.definition (Given (External i (pos 0))) sources) ∙ length_with_source n.definition (Given (External i (pos 0))) sources)
    (length_externals i names sources)

pub closed_is_in : (s t : Scope) → IsInRange s → t ≡ closed s → IsInRange t
closed_is_in s t r is = subst IsInRange (sym is) (rw (length_externals 0 s.names.all s.sources) r)
