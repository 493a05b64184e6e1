-- A string instruction at its start: from the state before it to the end of its first part.
use Rattle.std.proofs.Common.{◌≡◌, ℕ, ◌^◌, ◌<◌, ◌≤◌, Bool, true, false, if◌then◌else◌, List, refl, sym, ap, subst, ◌∙◌, inl, inr, arith}
use Rattle.std.proofs.lemmas.Bool.{cases_Bool}
use Rattle.vax_space.specs.declared.Area.{Area}
use Rattle.vax_isa.specs.declared.actions.Text.{Text}
use Rattle.vax_isa.specs.declared.actions.Text.TheVariants as text
use Rattle.vax_isa.specs.Actions.{of_text}
use Rattle.vax_strpart.specs.declared.packing.Progress.{Progress}
use Rattle.vax_strpart.specs.declared.packing.Layout.TheVariants.{Moves, Translates}
use Rattle.vax_strpart.specs.Packing.{layout_of, IsProper}
use Rattle.vax_flat.specs.declared.Exception.{Exception}
use Rattle.vax_flat.specs.declared.Exception.TheVariants as exception
use Rattle.vax_flat.specs.declared.Operand.{Operand}
use Rattle.vax_flat.specs.declared.Flow.{Flow}
use Rattle.vax_flat.specs.State.{State}
use Rattle.vax_flat.specs.Accesses.{Accesses, Leaf}
use Rattle.vax_flat.specs.Evaluation.{next_operands}
use Rattle.vax_flat.specs.Outcome.{Outcome, Raised, outcome_of}
use Rattle.vax_flat.specs.String.{from_registers, IsReady}
use Rattle.vax_flat.specs.StringOperands.{begun, length_of, sixteen}
use Rattle.vax_flat.specs.StringAgree.{and_rest}
use Rattle.vax_flat.specs.StringMove.{is_reserved, moved_count, move_checked, move_part, move_start, whole_move, IsMove}
use Rattle.vax_flat.specs.StringEscape.{is_escape_reserved, escape_part, escape_start, whole_escape}
use Rattle.vax_flat.specs.StringParts.{resumed, text_part, text_whole}
use Rattle.vax_flat.proofs.Listed.{begins, whole_by, first_by, text_takes, part_takes}
use Rattle.vax_flat.proofs.Readings.{IsAtAddress, AreReadOnly, Reading, Gives, Fails, reading_operands, with_regs}
use Rattle.vax_flat.proofs.StringMove.{table_due}
use Rattle.vax_flat.proofs.StringStarts.{checks, move_starts, escape_starts}
use Rattle.vax_flat.proofs.StringGoing.{Family, Seeking, Scanning, Comparing, Moving, Escaping, Matching, Goes, IsSound, fin, behind_fin, later_of, all_of, part_of, agrees, goes}

abbrev pub family_of : Text → Family
family_of text.Move = Moving false
family_of text.MoveFilled = Moving false
family_of text.MoveTranslated = Moving true
family_of text.MoveTranslatedUntil = Escaping
family_of text.Compare = Comparing
family_of text.CompareFilled = Comparing
family_of text.Locate = Seeking true
family_of text.Skip = Seeking false
family_of text.Scan = Scanning true
family_of text.Span = Scanning false
family_of text.Match = Matching

abbrev pub opcode_of : Text → ℕ
opcode_of text.Move = 0x28
opcode_of text.MoveFilled = 0x2C
opcode_of text.MoveTranslated = 0x2E
opcode_of text.MoveTranslatedUntil = 0x2F
opcode_of text.Compare = 0x29
opcode_of text.CompareFilled = 0x2D
opcode_of text.Locate = 0x3A
opcode_of text.Skip = 0x3B
opcode_of text.Scan = 0x2A
opcode_of text.Span = 0x2B
opcode_of text.Match = 0x39

pub resumed_is : (t : Text) (s : State) (next : Flow → State → Accesses Leaf) → resumed (opcode_of t) s next ≡ from_registers (opcode_of t) (later_of (family_of t)) s next
unfolding resumed
resumed_is text.Move s next = refl
resumed_is text.MoveFilled s next = refl
resumed_is text.MoveTranslated s next = refl
resumed_is text.MoveTranslatedUntil s next = refl
resumed_is text.Compare s next = refl
resumed_is text.CompareFilled s next = refl
resumed_is text.Locate s next = refl
resumed_is text.Skip s next = refl
resumed_is text.Scan s next = refl
resumed_is text.Span s next = refl
resumed_is text.Match s next = refl

-- what begins has its numbers in their ranges, and nothing done
pub record IsFresh (t : Text) (p : Progress) : Type 0 where
  pub op : p.op ≡ opcode_of t
  pub proper : IsProper p
  pub addr1 : p.addr1 < 2 ^ 32
  pub addr2 : p.addr2 < 2 ^ 32
  pub table : p.table < 2 ^ 32
  pub short : p.delta < 2 ^ 8
  pub none : p.done ≡ 0

pub fresh : (t : Text) (s : State) (xs : List (Operand × ℕ)) (u : State) → IsFresh t (begins t s xs u)
unfolding begins length_of layout_of
fresh text.Move s xs u = record { op = refl; proper = record { len1 = omega arith; byte = omega arith; len2 = omega arith; unused = refl }; addr1 = omega arith; addr2 = omega arith; table = omega arith; short = omega arith; none = refl }
fresh text.MoveFilled s xs u = record { op = refl; proper = record { len1 = omega arith; byte = omega arith; len2 = omega arith; unused = refl }; addr1 = omega arith; addr2 = omega arith; table = omega arith; short = omega arith; none = refl }
fresh text.MoveTranslated s xs u = record { op = refl; proper = record { len1 = omega arith; byte = omega arith; len2 = omega arith; unused = tt }; addr1 = omega arith; addr2 = omega arith; table = omega arith; short = omega arith; none = refl }
fresh text.MoveTranslatedUntil s xs u = record { op = refl; proper = record { len1 = omega arith; byte = omega arith; len2 = omega arith; unused = tt }; addr1 = omega arith; addr2 = omega arith; table = omega arith; short = omega arith; none = refl }
fresh text.Compare s xs u = record { op = refl; proper = record { len1 = omega arith; byte = omega arith; len2 = omega arith; unused = refl }; addr1 = omega arith; addr2 = omega arith; table = omega arith; short = omega arith; none = refl }
fresh text.CompareFilled s xs u = record { op = refl; proper = record { len1 = omega arith; byte = omega arith; len2 = omega arith; unused = refl }; addr1 = omega arith; addr2 = omega arith; table = omega arith; short = omega arith; none = refl }
fresh text.Locate s xs u = record { op = refl; proper = record { len1 = omega arith; byte = omega arith; len2 = omega arith; unused = record { len2_is = refl; addr2_is = refl; table_is = refl; done_is = refl } }; addr1 = omega arith; addr2 = omega arith; table = omega arith; short = omega arith; none = refl }
fresh text.Skip s xs u = record { op = refl; proper = record { len1 = omega arith; byte = omega arith; len2 = omega arith; unused = record { len2_is = refl; addr2_is = refl; table_is = refl; done_is = refl } }; addr1 = omega arith; addr2 = omega arith; table = omega arith; short = omega arith; none = refl }
fresh text.Scan s xs u = record { op = refl; proper = record { len1 = omega arith; byte = omega arith; len2 = omega arith; unused = record { len2_is = refl; addr2_is = refl; table_is = refl; done_is = refl } }; addr1 = omega arith; addr2 = omega arith; table = omega arith; short = omega arith; none = refl }
fresh text.Span s xs u = record { op = refl; proper = record { len1 = omega arith; byte = omega arith; len2 = omega arith; unused = record { len2_is = refl; addr2_is = refl; table_is = refl; done_is = refl } }; addr1 = omega arith; addr2 = omega arith; table = omega arith; short = omega arith; none = refl }
fresh text.Match s xs u = record { op = refl; proper = record { len1 = omega arith; byte = omega arith; len2 = omega arith; unused = refl }; addr1 = omega arith; addr2 = omega arith; table = omega arith; short = omega arith; none = refl }

-- the end of a first part: an exception, or as of any part
pub data Begins (f : Family) (p : Progress) (s : State) (m : List Area) : Outcome Leaf → Type 0 where
  Stopping : (e : Exception) → Begins f p s m (Raised e)
  Going : (outcome : Outcome Leaf) → Goes f p s m outcome → Begins f p s m outcome

-- and what the whole comes to by it
pub record Starts (f : Family) (p : Progress) (s : State) (m : List Area) (whole part : Outcome Leaf) : Type 0 where
  pub begins_so : Begins f p s m part
  pub same : whole ≡ and_rest (λ t. from_registers p.op (all_of f) t fin) part

going : (f : Family) (p : Progress) (s : State) (m : List Area) → IsReady s → IsSound f p s m → Starts f p s m (outcome_of (all_of f p s fin) m) (outcome_of (part_of f p s fin) m)
going f p s m ready sound = record { begins_so = Going _ (goes f p s m ready sound); same = agrees f p s m ready sound }

raised_begins : (f : Family) (p : Progress) (s : State) (m : List Area) (e : Exception) (tree : Accesses Leaf) → outcome_of tree m ≡ Raised e → Begins f p s m (outcome_of tree m)
raised_begins f p s m e tree is = subst (Begins f p s m) (sym is) (Stopping e)

goes_begins : (f : Family) (p : Progress) (s : State) (m : List Area) (tree part : Accesses Leaf) → outcome_of tree m ≡ outcome_of part m → Goes f p s m (outcome_of part m) → Begins f p s m (outcome_of tree m)
goes_begins f p s m tree part is g = subst (Begins f p s m) (sym is) (Going _ g)

is_move : (translate : Bool) (t : Text) (p : Progress) → layout_of (opcode_of t) ≡ (if translate then Translates else Moves) → IsFresh t p → IsMove translate p
is_move translate t p layout f = record { layout = ap layout_of f.op ∙ layout; addr1 = f.addr1; addr2 = f.addr2; table = f.table; delta = f.short }

module _ (translate : Bool) (t : Text) (p : Progress) (s : State) (m : List Area) (ready : IsReady s) (f : IsFresh t p) (layout : layout_of (opcode_of t) ≡ (if translate then Translates else Moves)) where
  abbrev few : p.done ≤ p.len2
  few = let z = f.none in omega arith

  move_begins : Begins (Moving translate) p s m (outcome_of (move_start translate p s fin) m)
  unfolding move_start outcome_of
  move_begins = elim (cases_Bool (is_reserved translate p)) [
    | inl reserved ↦ rw reserved (Stopping exception.Operand)
    | inr fine ↦ rw fine (elim (checks translate p p.len2 s m) [
      | inl stopped ↦ raised_begins (Moving translate) p s m stopped.0 (move_checked translate p p.len2 s (λ t. move_part translate p t fin)) (stopped.1 (λ t. move_part translate p t fin))
      | inr passes ↦ goes_begins (Moving translate) p s m (move_checked translate p p.len2 s (λ t. move_part translate p t fin)) (move_part translate p s fin) (passes.goes (λ t. move_part translate p t fin)) (goes (Moving translate) p s m ready (record {
        proper = f.proper;
        short = f.short;
        holds = (is_move translate t p layout f, record { source = passes.source; table = passes.table; apart = fine; destination = passes.destination }, few);
      }))
    ])
  ]

  move_going : Starts (Moving translate) p s m (outcome_of (whole_move translate p s fin) m) (outcome_of (move_start translate p s fin) m)
  move_going = record { begins_so = move_begins; same = move_starts translate p s m fin behind_fin ready f.proper (is_move translate t p layout f) few }

module _ (t : Text) (p : Progress) (s : State) (m : List Area) (ready : IsReady s) (f : IsFresh t p) (layout : layout_of (opcode_of t) ≡ Translates) where
  abbrev none_yet : p.done ≤ moved_count p
  none_yet = let z = f.none in omega arith

  escape_begins : Begins Escaping p s m (outcome_of (escape_start p s fin) m)
  unfolding escape_start outcome_of
  escape_begins = elim (cases_Bool (is_escape_reserved p)) [
    | inl reserved ↦ rw reserved (Stopping exception.Operand)
    | inr fine ↦ rw fine (elim (checks true p (moved_count p) s m) [
      | inl stopped ↦ raised_begins Escaping p s m stopped.0 (move_checked true p (moved_count p) s (λ t. escape_part p t fin)) (stopped.1 (λ t. escape_part p t fin))
      | inr passes ↦ goes_begins Escaping p s m (move_checked true p (moved_count p) s (λ t. escape_part p t fin)) (escape_part p s fin) (passes.goes (λ t. escape_part p t fin)) (goes Escaping p s m ready (record {
        proper = f.proper;
        short = f.short;
        holds = (is_move true t p layout f, record { source = passes.source; table = λ h. passes.table (table_due true (moved_count p) refl h); apart = fine; destination = passes.destination }, none_yet);
      }))
    ])
  ]

  escape_going : Starts Escaping p s m (outcome_of (whole_escape p s fin) m) (outcome_of (escape_start p s fin) m)
  escape_going = record { begins_so = escape_begins; same = escape_starts p s m fin behind_fin ready f.proper (is_move true t p layout f) none_yet }

-- behind the operands
pub starts : (t : Text) (p : Progress) (s : State) (m : List Area) → IsReady s → IsFresh t p → Starts (family_of t) p s m (outcome_of (whole_by t p s fin) m) (outcome_of (first_by t p s fin) m)
unfolding whole_by first_by layout_of
starts text.Move p s m ready f = move_going false text.Move p s m ready f refl
starts text.MoveFilled p s m ready f = move_going false text.MoveFilled p s m ready f refl
starts text.MoveTranslated p s m ready f = move_going true text.MoveTranslated p s m ready f refl
starts text.MoveTranslatedUntil p s m ready f = escape_going text.MoveTranslatedUntil p s m ready f refl
starts text.Compare p s m ready f = going (Comparing) p s m ready (record { proper = f.proper; short = f.short; holds = (ap layout_of f.op, f.addr1, f.addr2, (let z = f.none in omega arith)) })
starts text.CompareFilled p s m ready f = going (Comparing) p s m ready (record { proper = f.proper; short = f.short; holds = (ap layout_of f.op, f.addr1, f.addr2, (let z = f.none in omega arith)) })
starts text.Locate p s m ready f = going (Seeking true) p s m ready (record { proper = f.proper; short = f.short; holds = (ap layout_of f.op, f.addr1) })
starts text.Skip p s m ready f = going (Seeking false) p s m ready (record { proper = f.proper; short = f.short; holds = (ap layout_of f.op, f.addr1) })
starts text.Scan p s m ready f = going (Scanning true) p s m ready (record { proper = f.proper; short = f.short; holds = (ap layout_of f.op, f.addr1, f.table) })
starts text.Span p s m ready f = going (Scanning false) p s m ready (record { proper = f.proper; short = f.short; holds = (ap layout_of f.op, f.addr1, f.table) })
starts text.Match p s m ready f = going (Matching) p s m ready (record { proper = f.proper; short = f.short; holds = (ap layout_of f.op, (let z = f.none in omega arith)) })

texts_read : (s : State) (m : List Area) (t : Text) → AreReadOnly s m (of_text t)
texts_read s m text.Move = (tt, (tt, (tt, tt)))
texts_read s m text.MoveFilled = (tt, (tt, (tt, (tt, (tt, tt)))))
texts_read s m text.MoveTranslated = (tt, (tt, (tt, (tt, (tt, (tt, tt))))))
texts_read s m text.MoveTranslatedUntil = (tt, (tt, (tt, (tt, (tt, (tt, tt))))))
texts_read s m text.Compare = (tt, (tt, (tt, tt)))
texts_read s m text.CompareFilled = (tt, (tt, (tt, (tt, (tt, tt)))))
texts_read s m text.Locate = (tt, (tt, (tt, tt)))
texts_read s m text.Skip = (tt, (tt, (tt, tt)))
texts_read s m text.Scan = (tt, (tt, (tt, (tt, tt))))
texts_read s m text.Span = (tt, (tt, (tt, (tt, tt))))
texts_read s m text.Match = (tt, (tt, (tt, (tt, tt))))

begun_ready : (s : State) (regs : List ℕ) → IsAtAddress regs → IsReady (begun (with_regs s regs))
unfolding sixteen
begun_ready s regs good = record { full = refl; pc = good.pc; clear = omega arith }

-- A string instruction whose opcode PC is past: its operands are read, and then it starts, or their reading raises an exception.
pub data TextBegins (t : Text) (s : State) (m : List Area) (whole part : Outcome Leaf) : Type 0 where
  Unread : (e : Exception) → whole ≡ Raised e → part ≡ Raised e → TextBegins t s m whole part
  Read : (p : Progress) (regs : List ℕ) → IsReady (begun (with_regs s regs)) → IsFresh t p → Starts (family_of t) p (begun (with_regs s regs)) m whole part → TextBegins t s m whole part

pub text_begins : (t : Text) (s : State) (m : List Area) (regs : List ℕ) → IsAtAddress regs → TextBegins t s m (outcome_of (text_whole t (with_regs s regs) fin) m) (outcome_of (text_part t (with_regs s regs) fin) m)
text_begins t s m regs good = by (reading_operands s m (of_text t) (texts_read s m t) regs good)
  where
    u : State
    u = with_regs s regs

    by : Reading (λ next. next_operands (of_text t) u next) s m → TextBegins t s m (outcome_of (text_whole t u fin) m) (outcome_of (text_part t u fin) m)
    by (Fails e is) = Unread e (ap (λ tree. outcome_of tree m) (text_takes t u fin) ∙ is _) (ap (λ tree. outcome_of tree m) (part_takes t u fin) ∙ is _)
    by (Gives xs more fine is) =
        let p = begins t u xs (with_regs s more) in
        let v = begun (with_regs s more) in
        let ready = begun_ready s more fine in
        let f = fresh t u xs (with_regs s more) in
        let whole : outcome_of (text_whole t u fin) m ≡ outcome_of (whole_by t p v fin) m = ap (λ tree. outcome_of tree m) (text_takes t u fin) ∙ is _ in
        let part : outcome_of (text_part t u fin) m ≡ outcome_of (first_by t p v fin) m = ap (λ tree. outcome_of tree m) (part_takes t u fin) ∙ is _ in
        Read p more ready f (subst (λ o. Starts (family_of t) p v m o (outcome_of (text_part t u fin) m)) (sym whole) (subst (λ o. Starts (family_of t) p v m (outcome_of (whole_by t p v fin) m) o) (sym part) (starts t p v m ready f)))
