-- Which pages are modified and which blocks are written while pages come in.
use Rattle.std.proofs.Common.{ℕ, ◌≡◌, ◌==◌, if◌then◌else◌, Bool, true, false, List, [], ◌∷◌, ◌++◌, append_assoc, append-nil, refl, ap, sym, ◌∙◌, subst, inl, inr, Option, None, Some}
use Rattle.std.specs.Prelude.{◌||◌}
use Rattle.std.specs.Option.{option_map}
use Rattle.std.proofs.lemmas.Bool.{cases_Bool}
use Rattle.vax_space.specs.declared.Area.{Area}
use Rattle.vax_space.specs.Areas.{block_of}
use Rattle.vax_outside.specs.Blocks.{BlockFile, after_read, after_write}
use Rattle.vax_pager.specs.Calls.{Back, Empty, IsLeft, Nowhere, OfKept, OfVictim, Source, after_flush, begun, came, file_after, file_begun, put_block, read_for, wrote_back}
use Rattle.vax_pager.specs.Listing.{is_listed, leave_out}
use Rattle.vax_pager.specs.Paging.{Paging}
use Rattle.vax_pager.specs.Poking.{AreBlocks, MarksNone, WritesBlocks}
use Rattle.vax_pager.specs.Steps.{brought, flushed, forgotten, removed, settled, taken_back}
use Rattle.vax_pager.proofs.Listing.{in_without}
use Rattle.vax_pager.proofs.Poking.{came_alike, left_alike}

-- the blocks that are written

pub no_writes : (areas : List Area) (file : Option BlockFile) → WritesBlocks areas file file
no_writes areas file f e = (f, e, record { made = []; is = sym (append-nil f.writes); blocks = tt })

blocks_append : (areas : List Area) (xs ys : List (ℕ × List ℕ)) → AreBlocks areas xs → AreBlocks areas ys → AreBlocks areas (xs ++ ys)
blocks_append areas [] ys a b = b
blocks_append areas (x ∷ xs) ys a b = (a.0, blocks_append areas xs ys a.1 b)

then_writes : (areas : List Area) (a b c : Option BlockFile) → WritesBlocks areas a b → WritesBlocks areas b c → WritesBlocks areas a c
then_writes areas a b c x y f e =
    let p = x f e in
    let q = y p.0 p.1 in (
      q.0,
      q.1,
      record {
        made = p.2.made ++ q.2.made;
        is = q.2.is ∙ (ap (λ (ws : List (ℕ × List ℕ)). ws ++ q.2.made) p.2.is ∙ append_assoc f.writes p.2.made q.2.made);
        blocks = blocks_append areas p.2.made q.2.made p.2.blocks q.2.blocks;
      },
    )

put_writes : (areas : List Area) (page : ℕ) (o : Option ℕ) (bytes : List ℕ) (file : Option BlockFile) → block_of areas page ≡ o → WritesBlocks areas file (put_block o bytes file)
put_writes areas page None bytes file b = no_writes areas file
put_writes areas page (Some n) bytes file b = λ f e. (
  after_write n bytes f,
  ap (option_map (after_write n bytes)) e,
  record { made = (n, bytes) ∷ []; is = refl; blocks = ((page, b), tt) },
)

wrote_writes : (page : ℕ) (s : Paging) (file : Option BlockFile) → WritesBlocks s.areas file (wrote_back page s file)
unfolding wrote_back
wrote_writes page s file = elim (cases_Bool (is_listed page s.modified)) [
  | inl t ↦ rw t (put_writes s.areas page (block_of s.areas page) (s.frame page) file refl)
  | inr f ↦ rw f (no_writes s.areas file)
]

one_read : (areas : List Area) (file : Option BlockFile) → WritesBlocks areas file (option_map after_read file)
one_read areas file f e = (after_read f, ap (option_map after_read) e, record { made = []; is = sym (append-nil f.writes); blocks = tt })

read_writes : (page : ℕ) (s : Paging) (file : Option BlockFile) → WritesBlocks s.areas file (read_for page s file)
unfolding read_for
read_writes page s file = elim (cases_Bool (s.blocked page)) [
  | inl t ↦ rw t (one_read s.areas file)
  | inr f ↦ rw f (no_writes s.areas file)
]

came_writes : (from : Source) (page : ℕ) (s : Paging) (file : Option BlockFile) → WritesBlocks s.areas file (file_after from page s file)
came_writes Back page s file = no_writes s.areas file
came_writes Empty page s file = read_writes page s file
came_writes (OfKept old) page s file = read_writes page s file
came_writes (OfVictim victim) page s file = then_writes s.areas file (wrote_back victim s file) _ (wrote_writes victim s file) (read_writes page s (wrote_back victim s file))
came_writes Nowhere page s file = no_writes s.areas file

begun_writes : (from : Source) (s : Paging) (file : Option BlockFile) → WritesBlocks s.areas file (file_begun from s file)
begun_writes Back s file = no_writes s.areas file
begun_writes Empty s file = no_writes s.areas file
begun_writes (OfKept old) s file = no_writes s.areas file
begun_writes (OfVictim victim) s file = wrote_writes victim s file
begun_writes Nowhere s file = no_writes s.areas file

-- the pages that are modified

left_in : (other page : ℕ) (xs : List ℕ) → is_listed other (leave_out page xs) ≡ true → is_listed other xs ≡ true
left_in other page xs h =
    let k : (if other == page then false else is_listed other xs) ≡ true = sym (in_without other page xs) ∙ h in
    elim (cases_Bool (other == page)) [
      | inl e ↦ let no : false ≡ true = rw e at k in cc
      | inr e ↦ rw e at k
    ]

flush_marks : (victim : ℕ) (s : Paging) (other : ℕ) → is_listed other (after_flush victim s).modified ≡ true → is_listed other s.modified ≡ true
unfolding after_flush flushed
flush_marks victim s other = elim (cases_Bool (is_listed victim s.modified)) [
  | inl t ↦ rw t (λ h. left_in other victim s.modified h)
  | inr f ↦ rw f (λ h. h)
]

came_marks : (from : Source) (page : ℕ) (bytes : List ℕ) (s : Paging) (other : ℕ) → is_listed other (came from page bytes s).modified ≡ true → is_listed other s.modified ≡ true
unfolding taken_back brought forgotten removed
came_marks Back page bytes s other h = h
came_marks Empty page bytes s other h = h
came_marks (OfKept old) page bytes s other h = h
came_marks (OfVictim victim) page bytes s other h = flush_marks victim s other h
came_marks Nowhere page bytes s other h = h

begun_marks : (from : Source) (s : Paging) (other : ℕ) → is_listed other (begun from s).modified ≡ true → is_listed other s.modified ≡ true
begun_marks Back s other h = h
begun_marks Empty s other h = h
begun_marks (OfKept old) s other h = h
begun_marks (OfVictim victim) s other h = flush_marks victim s other h
begun_marks Nowhere s other h = h

-- both

pub none_itself : (s : Paging) (file : Option BlockFile) → MarksNone s file s file
none_itself s file = record { marked = λ page h. h; areas = refl; writes = no_writes s.areas file }

pub then_none : (s t u : Paging) (a b c : Option BlockFile) → MarksNone s a t b → MarksNone t b u c → MarksNone s a u c
then_none s t u a b c x y = record {
  marked = λ page h. x.marked page (y.marked page h);
  areas = y.areas ∙ x.areas;
  writes = then_writes s.areas a b c x.writes (subst (λ (z : List Area). WritesBlocks z b c) x.areas y.writes);
}

pub came_none : (from : Source) (page : ℕ) (bytes : List ℕ) (s t : Paging) (file after : Option BlockFile) → t ≡ came from page bytes s → after ≡ file_after from page s file → MarksNone s file t after
came_none from page bytes s t file after e a = record {
  marked = λ other h. came_marks from page bytes s other (ap (λ (z : Paging). is_listed other z.modified) (sym e) ∙ h);
  areas = (came_alike from page bytes s t e).areas;
  writes = subst (λ (z : Option BlockFile). WritesBlocks s.areas file z) (sym a) (came_writes from page s file);
}

pub left_none : (from : Source) (page : ℕ) (s t : Paging) (file after : Option BlockFile) → IsLeft from page s file t after → MarksNone s file t after
left_none from page s t file after (inl h) = record {
  marked = λ other k. ap (λ (z : Paging). is_listed other z.modified) (sym h.1) ∙ k;
  areas = ap (λ (z : Paging). z.areas) h.1;
  writes = subst (λ (z : Option BlockFile). WritesBlocks s.areas file z) (sym h.2) (no_writes s.areas file);
}
left_none from page s t file after (inr h) = record {
  marked = λ other k. begun_marks from s other (ap (λ (z : Paging). is_listed other z.modified) (sym h.1) ∙ k);
  areas = (left_alike from page s t file after (inr h)).areas;
  writes = subst (λ (z : Option BlockFile). WritesBlocks s.areas file z) (sym h.2) (begun_writes from s file);
}

pub none_settled : (s t : Paging) (file : Option BlockFile) → t ≡ settled s → MarksNone s file t file
unfolding settled
none_settled s t file e = record {
  marked = λ other k. ap (λ (z : Paging). is_listed other z.modified) (sym e) ∙ k;
  areas = ap (λ (z : Paging). z.areas) e;
  writes = no_writes s.areas file;
}

-- what is modified after a write that marks its own pages

pub or_true : (b : Bool) → (b || true) ≡ true
or_true true = refl
or_true false = refl

pub or_more : (x y z : Bool) → (x ≡ true → y ≡ true) → (x || z) ≡ true → (y || z) ≡ true
or_more true y z more h = rw (more refl) refl
or_more false y z more h = ap (λ (b : Bool). y || b) h ∙ or_true y
