-- A step is completed, or ends the run, or raises an exception whose delivery does.
use Rattle.std.proofs.Common.{◌≡◌, ℕ, suc, zero, ◌-◌, ◌==◌, Bool, true, false, Option, Some, None, List, [], length, refl, arith}
use Rattle.std.specs.Prelude.{if◌then◌else◌, nat_lt}
use Rattle.vax_space.specs.declared.Access.{Access}
use Rattle.vax_space.specs.declared.Access.TheVariants.{Read, Write}
use Rattle.vax_space.specs.declared.Area.{Area}
use Rattle.vax_space.specs.declared.Violation.{Violation}
use Rattle.vax_space.specs.Reference.{violation}
use Rattle.vax_isa.specs.declared.actions.Action.{Action}
use Rattle.vax_isa.specs.declared.actions.Action.TheVariants as action
use Rattle.vax_isa.specs.declared.actions.Text.{Text}
use Rattle.vax_isa.specs.declared.actions.Text.TheVariants as text
use Rattle.vax_isa.specs.declared.Letter.{Letter}
use Rattle.vax_isa.specs.declared.Letter.TheVariants as letter
use Rattle.vax_isa.specs.Rows.{action_of}
use Rattle.vax_strpart.specs.declared.packing.Progress.{Progress}
use Rattle.vax_flat.specs.declared.Delivery.{Delivery}
use Rattle.vax_flat.specs.declared.Delivery.TheVariants.{Entered, Ended}
use Rattle.vax_flat.specs.declared.Exception.{Exception}
use Rattle.vax_flat.specs.declared.Exception.TheVariants.{Arithmetic}
use Rattle.vax_flat.specs.declared.Flow.{Flow}
use Rattle.vax_flat.specs.declared.Flow.TheVariants as flow
use Rattle.vax_flat.specs.declared.Form.{Form}
use Rattle.vax_flat.specs.declared.Form.TheVariants as form
use Rattle.vax_flat.specs.declared.Operand.{Operand}
use Rattle.vax_flat.specs.declared.Rest.{Rest}
use Rattle.vax_flat.specs.Memory.{byte_at, number, bytes_from, written, written_run, after}
use Rattle.vax_flat.specs.State.{State, register, mode, priority}
use Rattle.vax_flat.specs.Accesses.{Accesses, Raises, Leaf, Went, Found}
use Rattle.vax_flat.specs.Outcome.{Outcome, Ends, Raised, outcome_of, is_allowed, unless_violated}
use Rattle.vax_flat.specs.Bound.{IsClosed, IsWhole, is_string}
use Rattle.vax_flat.specs.Operand.{form_of, read_at, check_at, fetched, at_address, literal, reaches_pc, in_register, addressed, is_reserved, is_no_base, indexed, in_memory, after_prefix, formed, specified, next_operand}
use Rattle.vax_flat.specs.Rows.{read_value, address_value}
use Rattle.vax_flat.specs.String.{read_run_at, write_run_at, completed}
use Rattle.vax_flat.specs.StringOperands.{next_word, next_byte, next_longword, search_operands, scan_operands, equal_operands, filled_operands, translated_operands, match_operands}
use Rattle.vax_flat.specs.StringSearch.{Examines, Finishes, by_byte, by_entry, sought, located, scanned}
use Rattle.vax_flat.specs.StringCompare.{byte_or, compare, equals, differs, behind}
use Rattle.vax_flat.specs.StringMove.{by_table, is_reserved as is_table_reserved, table_checked, move_checked, moved_bytes, moved, move_rest, whole_move, moved_count}
use Rattle.vax_flat.specs.StringEscape.{is_escape_reserved, escaped, escape_rest, whole_escape}
use Rattle.vax_flat.specs.StringMatch.{agreeing, matched, unmatched, match, at_next_place}
use Rattle.vax_flat.specs.StringParts.{text_whole}
use Rattle.vax_flat.specs.Delivery.{delivery, interrupt}
use Rattle.vax_flat.specs.System.{flow_of_delivery}
use Rattle.vax_flat.specs.Instruction.{acted, acted_if, instruction}
use Rattle.vax_flat.specs.Step.{level, begun, handed_over, finished, whole, whole_step, leaf, delivered, whole_delivery}
use Rattle.vax_flat.proofs.Bounds.{acted_adds, delivery_adds, interrupt_adds}
use Rattle.vax_flat.proofs.Quiet.{quiet_whole}
use Rattle.vax_flat.proofs.StringSearch.{length_run}
use Rattle.vax_flat.proofs.Windows.{near_here}
use Rattle.vax_flat.specs.Quiet.{IsEnd}
use Rattle.vax_flat_laws.specs.Steps.{IsConclusive, IsConcluded}

abbrev Good : Accesses Leaf → Type 0
Good tree = (memory : List Area) → IsConclusive (outcome_of tree memory)

violated : (v : Option Violation) (outcome : Outcome Leaf) → IsConclusive outcome → IsConclusive (unless_violated v outcome)
violated (Some v) outcome q = tt
violated None outcome q = q

-- it is kept where a tree grows by an access
good_closed : IsClosed (λ ws n t. Good t)
unfolding outcome_of
good_closed = record {
  fewer = λ ws n t q. q;
  wider = λ w ws n t q. q;
  opens = λ w ws n t q. q;
  raises = λ ws n e memory. tt;
  checks = λ ws n addr len mode access next q memory. violated (violation memory addr len mode access) _ (q memory);
  asks = λ ws n addr len mode access next q memory. q (is_allowed (violation memory addr len mode access)) memory;
  reads = λ ws n addr len mode next c q memory. violated (violation memory addr len mode Read) _ (q (number (byte_at memory) addr len) memory);
  writes = λ ws n addr len value mode next c q memory. violated (violation memory addr len mode Write) _ (q (written memory addr len value));
  reads_run = λ ws n addr len mode next c q memory. violated (violation memory addr len mode Read) _ (q (bytes_from (byte_at memory) addr len) (length_run (byte_at memory) addr len) memory);
  writes_run = λ ws n addr bytes mode next c q memory. violated (violation memory addr (length bytes) mode Write) _ (q (written_run memory addr bytes));
}

-- ---- what follows

good_leaf_done : (s : State) → Good (leaf flow.Done s)
unfolding outcome_of
good_leaf_done s memory = tt

good_handed : (how : Delivery) (s : State) → Good (handed_over how s leaf)
unfolding handed_over outcome_of
good_handed Entered s memory = tt
good_handed (Ended e) s memory = tt

good_delivery : (e : Exception) (s : State) → Good (delivery e s (λ how t. handed_over how t leaf))
good_delivery e s = delivery_adds (λ ws n t. Good t) good_closed [] 0 (λ how t. handed_over how t leaf) good_handed e s

pub good_delivered : (e : Exception) (s : State) → Good (whole_delivery e s)
unfolding delivered
good_delivered e s = good_delivery e s

abbrev finishing : Flow → State → Accesses Leaf
finishing how s = finished how s leaf

good_finished : (how : Flow) (s : State) → IsWhole how → Good (finishing how s)
unfolding finished outcome_of
good_finished flow.Done s h memory = tt
good_finished flow.Clocked s h memory = tt
good_finished (flow.Trap kind) s h memory = good_delivery (Arithmetic kind) s memory
good_finished (flow.More opcode units) s h memory = absurd h
good_finished (flow.Ended e) s h memory = tt

good_handler : (how : Delivery) (s : State) → Good (finishing (flow_of_delivery how) s)
good_handler Entered s = good_finished flow.Done s tt
good_handler (Ended e) s = good_finished (flow.Ended e) s tt

good_interrupt : (level : ℕ) (s : State) → Good (interrupt level s (λ how t. finishing (flow_of_delivery how) t))
good_interrupt level s = interrupt_adds (λ ws n t. Good t) good_closed [] 0 (λ how t. finishing (flow_of_delivery how) t) good_handler level s

-- ---- accesses and operands of string instructions

good_if : (b : Bool) (x y : Accesses Leaf) → Good x → Good y → Good (if b then x else y)
good_if true x y qx qy = qx
good_if false x y qx qy = qy

good_raises : (e : Exception) → Good (Raises e)
unfolding outcome_of
good_raises e memory = tt

good_read : (addr len : ℕ) (s : State) (next : ℕ → State → Accesses Leaf) → ((x : ℕ) (t : State) → Good (next x t)) → Good (read_at addr len s next)
unfolding read_at outcome_of
good_read addr len s next q memory = violated (violation memory addr len (mode s) Read) _ (q (number (byte_at memory) addr len) s memory)

good_check : (addr len : ℕ) (kind : Access) (s : State) (next : State → Accesses Leaf) → ((t : State) → Good (next t)) → Good (check_at addr len kind s next)
unfolding check_at outcome_of
good_check addr len kind s next q memory = violated (violation memory addr len (mode s) kind) _ (q s memory)

good_read_run : (addr len : ℕ) (s : State) (next : List ℕ → State → Accesses Leaf) → ((bytes : List ℕ) (t : State) → Good (next bytes t)) → Good (read_run_at addr len s next)
unfolding read_run_at outcome_of
good_read_run addr len s next q memory = violated (violation memory addr len (mode s) Read) _ (q (bytes_from (byte_at memory) addr len) s memory)

good_write_run : (addr : ℕ) (bytes : List ℕ) (s : State) (next : State → Accesses Leaf) → ((t : State) → Good (next t)) → Good (write_run_at addr bytes s next)
unfolding write_run_at outcome_of
good_write_run addr bytes s next q memory = violated (violation memory addr (length bytes) (mode s) Write) _ (q s (written_run memory addr bytes))

good_fetched : (width : ℕ) (s : State) (next : ℕ → State → Accesses Leaf) → ((x : ℕ) (t : State) → Good (next x t)) → Good (fetched width s next)
unfolding fetched
good_fetched width s next q = good_read (register s 15) width s _ (λ x t. q x _)

good_addressed : (width : ℕ) (f : Form) (s : State) (next : ℕ → State → Accesses Leaf) → ((x : ℕ) (t : State) → Good (next x t)) → Good (addressed width f s next)
unfolding addressed
good_addressed width (form.Literal value) s next q = good_raises _
good_addressed width (form.Index x) s next q = good_raises _
good_addressed width (form.Register n) s next q = good_raises _
good_addressed width (form.Deferred n) s next q = q _ _
good_addressed width (form.Decrement n) s next q = q _ _
good_addressed width (form.Increment n) s next q = q _ _
good_addressed width (form.IncrementDeferred n) s next q = good_read (register s n) 4 s _ (λ x t. q x _)
good_addressed width (form.Displacement bytes n) s next q = good_fetched bytes s _ (λ x t. q _ t)
good_addressed width (form.DisplacementDeferred bytes n) s next q = good_fetched bytes s _ (λ x t. good_read _ 4 t next q)

at_by_letter : (l : Letter) (width addr : ℕ) (s : State) (next : Operand → State → Accesses Leaf) → ((o : Operand) (t : State) → Good (next o t)) → Good (at_address (record { letter = l; width = width }) addr s next)
unfolding at_address
at_by_letter letter.Read width addr s next q = good_read addr width s _ (λ x t. q _ t)
at_by_letter letter.Modify width addr s next q = good_check addr width Write s _ (λ t. q _ t)
at_by_letter letter.Write width addr s next q = q _ s
at_by_letter letter.Address width addr s next q = q _ s
at_by_letter letter.Field width addr s next q = q _ s
at_by_letter letter.Branch width addr s next q = good_raises _

literal_by_letter : (l : Letter) (value : ℕ) (s : State) (next : Operand → State → Accesses Leaf) → ((o : Operand) (t : State) → Good (next o t)) → Good (literal l value s next)
unfolding literal
literal_by_letter letter.Read value s next q = q _ s
literal_by_letter letter.Modify value s next q = good_raises _
literal_by_letter letter.Write value s next q = good_raises _
literal_by_letter letter.Address value s next q = good_raises _
literal_by_letter letter.Field value s next q = good_raises _
literal_by_letter letter.Branch value s next q = good_raises _

register_by_letter : (l : Letter) (width n : ℕ) (s : State) (next : Operand → State → Accesses Leaf) → ((o : Operand) (t : State) → Good (next o t)) → Good (in_register (record { letter = l; width = width }) n s next)
unfolding in_register
register_by_letter letter.Read width n s next q = good_if (reaches_pc width n) _ _ (good_raises _) (q _ s)
register_by_letter letter.Modify width n s next q = good_if (reaches_pc width n) _ _ (good_raises _) (q _ s)
register_by_letter letter.Write width n s next q = good_if (reaches_pc width n) _ _ (good_raises _) (q _ s)
register_by_letter letter.Address width n s next q = good_if (reaches_pc width n) _ _ (good_raises _) (good_raises _)
register_by_letter letter.Field width n s next q = good_if (reaches_pc width n) _ _ (good_raises _) (q _ s)
register_by_letter letter.Branch width n s next q = good_if (reaches_pc width n) _ _ (good_raises _) (good_raises _)

module _ (l : Letter) (width : ℕ) (next : Operand → State → Accesses Leaf) (q : (o : Operand) (t : State) → Good (next o t)) where
  good_at : (addr : ℕ) (s : State) → Good (at_address (record { letter = l; width = width }) addr s next)
  good_at addr s = at_by_letter l width addr s next q

  good_literal : (value : ℕ) (s : State) → Good (literal l value s next)
  good_literal value s = literal_by_letter l value s next q

  good_register : (n : ℕ) (s : State) → Good (in_register (record { letter = l; width = width }) n s next)
  good_register n s = register_by_letter l width n s next q

  good_memory : (f : Form) (s : State) → Good (in_memory (record { letter = l; width = width }) f s next)
  unfolding in_memory
  good_memory f s = good_if (is_reserved l f) _ _ (good_raises _) (good_addressed width f s _ (λ addr t. good_at addr t))

  good_indexed : (x : ℕ) (f : Form) (s : State) → Good (indexed (record { letter = l; width = width }) x f s next)
  unfolding indexed
  good_indexed x f s = good_if (is_no_base x f) _ _ (good_raises _) (good_addressed width f s _ (λ addr t. good_at _ t))

  good_formed : (f : Form) (s : State) → Good (formed (record { letter = l; width = width }) f s next)
  unfolding formed after_prefix
  good_formed (form.Literal value) s = good_literal value s
  good_formed (form.Index x) s = good_if (x == 15) _ _ (good_raises _) (good_fetched 1 s _ (λ byte t. good_indexed x (form_of byte) t))
  good_formed (form.Register n) s = good_register n s
  good_formed (form.Deferred n) s = good_memory (form.Deferred n) s
  good_formed (form.Decrement n) s = good_memory (form.Decrement n) s
  good_formed (form.Increment n) s = good_memory (form.Increment n) s
  good_formed (form.IncrementDeferred n) s = good_memory (form.IncrementDeferred n) s
  good_formed (form.Displacement bytes n) s = good_memory (form.Displacement bytes n) s
  good_formed (form.DisplacementDeferred bytes n) s = good_memory (form.DisplacementDeferred bytes n) s

  good_specified : (s : State) → Good (specified (record { letter = l; width = width }) s next)
  unfolding specified
  good_specified s = good_fetched 1 s _ (λ byte t. good_formed (form_of byte) t)

good_value : (width : ℕ) (s : State) (next : ℕ → State → Accesses Leaf) → ((x : ℕ) (t : State) → Good (next x t)) → Good (read_value width s next)
unfolding read_value next_operand
good_value width s next q = good_specified letter.Read width _ (λ o t. q _ t) s

good_address : (s : State) (next : ℕ → State → Accesses Leaf) → ((x : ℕ) (t : State) → Good (next x t)) → Good (address_value 1 s next)
unfolding address_value next_operand
good_address s next q = good_specified letter.Address 1 _ (λ o t. q _ t) s

good_word : (s : State) (next : ℕ → State → Accesses Leaf) → ((x : ℕ) (t : State) → Good (next x t)) → Good (next_word s next)
unfolding next_word
good_word s next q = good_value 2 s _ (λ x t. q _ t)

good_byte : (s : State) (next : ℕ → State → Accesses Leaf) → ((x : ℕ) (t : State) → Good (next x t)) → Good (next_byte s next)
unfolding next_byte
good_byte s next q = good_value 1 s _ (λ x t. q _ t)

good_longword : (s : State) (next : ℕ → State → Accesses Leaf) → ((x : ℕ) (t : State) → Good (next x t)) → Good (next_longword s next)
unfolding next_longword
good_longword s next q = good_address s _ (λ x t. q _ t)

module _ (op : ℕ) (s : State) (next : Progress → State → Accesses Leaf) (q : (p : Progress) (t : State) → Good (next p t)) where
  good_search_operands : Good (search_operands op s next)
  unfolding search_operands
  good_search_operands = good_byte s _ (λ a t. good_word t _ (λ b u. good_longword u _ (λ c v. q _ _)))

  good_scan_operands : Good (scan_operands op s next)
  unfolding scan_operands
  good_scan_operands = good_word s _ (λ a t. good_longword t _ (λ b u. good_longword u _ (λ c v. good_byte v _ (λ d w. q _ _))))

  good_equal_operands : Good (equal_operands op s next)
  unfolding equal_operands
  good_equal_operands = good_word s _ (λ a t. good_longword t _ (λ b u. good_longword u _ (λ c v. q _ _)))

  good_filled_operands : Good (filled_operands op s next)
  unfolding filled_operands
  good_filled_operands = good_word s _ (λ a t. good_longword t _ (λ b u. good_byte u _ (λ c v. good_word v _ (λ d w. good_longword w _ (λ e x. q _ _)))))

  good_translated_operands : Good (translated_operands op s next)
  unfolding translated_operands
  good_translated_operands = good_word s _ (λ a t. good_longword t _ (λ b u. good_byte u _ (λ c v. good_longword v _ (λ d w. good_word w _ (λ e x. good_longword x _ (λ f y. q _ _))))))

  good_match_operands : Good (match_operands op s next)
  unfolding match_operands
  good_match_operands = good_word s _ (λ a t. good_longword t _ (λ b u. good_word u _ (λ c v. good_longword v _ (λ d w. q _ _))))

-- ---- string instructions as wholes

module _ (next : Flow → State → Accesses Leaf) (done : (t : State) → Good (next flow.Done t)) where
  good_sought : (examine : Examines) (finish : Finishes) → ((byte : ℕ) (s : State) (k : Bool → State → Accesses Leaf) → ((b : Bool) (t : State) → Good (k b t)) → Good (examine byte s k)) →
      ((left addr : ℕ) (s : State) → Good (finish left addr s next)) → (left addr : ℕ) (s : State) → Good (sought examine finish left addr s next)
  unfolding sought
  good_sought examine finish examines finishes zero addr s = finishes 0 addr s
  good_sought examine finish examines finishes (suc left) addr s =
      good_read addr 1 s _ (λ byte t. examines byte t _ (λ b u. good_if b _ _ (finishes (suc left) addr u) (good_sought examine finish examines finishes left (after addr) u)))

  good_search : (equal : Bool) (p : Progress) (s : State) → Good (sought (by_byte equal p.byte) located p.len1 p.addr1 s next)
  unfolding by_byte located completed
  good_search equal p s = good_sought (by_byte equal p.byte) located (λ byte t k q. q _ t) (λ left addr t. done _) p.len1 p.addr1 s

  good_scan : (some : Bool) (p : Progress) (s : State) → Good (sought (by_entry some p.byte p.table) (scanned p.table) p.len1 p.addr1 s next)
  unfolding by_entry scanned completed
  good_scan some p s = good_sought (by_entry some p.byte p.table) (scanned p.table) (λ byte t k q. good_read _ 1 t _ (λ entry u. q _ u)) (λ left addr t. done _) p.len1 p.addr1 s

  good_byte_or : (fill : ℕ) (r : Rest) (s : State) (k : ℕ → State → Accesses Leaf) → ((x : ℕ) (t : State) → Good (k x t)) → Good (byte_or fill r s k)
  unfolding byte_or
  good_byte_or fill r s k q = good_if (r.len == 0) _ _ (q fill s) (good_read r.addr 1 s k q)

  good_compare : (fill pairs : ℕ) (a b : Rest) (s : State) → Good (compare fill pairs a b s next)
  unfolding compare equals differs completed
  good_compare fill zero a b s = done _
  good_compare fill (suc pairs) a b s =
      good_byte_or fill a s _ (λ x t. good_byte_or fill b t _ (λ y u. good_if (x == y) _ _ (good_compare fill pairs (behind 1 a) (behind 1 b) u) (done _)))

  good_checked : (translate : Bool) (p : Progress) (count : ℕ) (s : State) (k : State → Accesses Leaf) → ((t : State) → Good (k t)) → Good (move_checked translate p count s k)
  unfolding move_checked table_checked
  good_checked translate p count s k q =
      good_check _ _ Read s _ (λ t. good_if (by_table translate p) _ _ (good_check _ 256 Read t _ (λ u. good_check _ _ Write u k q)) (good_check _ _ Write t k q))

  good_moved_bytes : (translate : Bool) (p : Progress) (addr count : ℕ) (s : State) (k : List ℕ → State → Accesses Leaf) → ((xs : List ℕ) (t : State) → Good (k xs t)) → Good (moved_bytes translate p addr count s k)
  unfolding moved_bytes
  good_moved_bytes translate p addr count s k q =
      good_if (count == 0) _ _ (q [] s) (good_read_run addr count s _ (λ bytes t. good_if translate _ _ (good_read_run p.table 256 t _ (λ table u. q _ u)) (q bytes t)))

  good_move : (translate : Bool) (p : Progress) (s : State) → Good (whole_move translate p s next)
  unfolding whole_move move_rest moved completed
  good_move translate p s =
      good_if (is_table_reserved translate p) _ _ (good_raises _)
      (good_checked translate p p.len2 s _ (λ t. good_moved_bytes translate p _ _ t _ (λ bytes u. good_write_run _ bytes u _ (λ v. good_write_run _ _ v _ (λ w. done _)))))

  good_escape : (p : Progress) (s : State) → Good (whole_escape p s next)
  unfolding whole_escape escape_rest escaped completed
  good_escape p s =
      good_if (is_escape_reserved p) _ _ (good_raises _)
      (good_checked true p (moved_count p) s _ (λ t. good_if (moved_count p - p.done == 0) _ _ (done _)
      (good_read_run _ _ t _ (λ bytes u. good_read_run p.table 256 u _ (λ table v. good_write_run _ _ v _ (λ w. done _))))))

  good_agreeing : (count a b : ℕ) (s : State) (k : Bool → State → Accesses Leaf) → ((x : Bool) (t : State) → Good (k x t)) → Good (agreeing count a b s k)
  unfolding agreeing
  good_agreeing zero a b s k q = q true s
  good_agreeing (suc count) a b s k q =
      good_read a 1 s _ (λ x t. good_read b 1 t _ (λ y u. good_if (x == y) _ _ (good_agreeing count (after a) (after b) u k q) (q false u)))

  good_match : (places : ℕ) (p : Progress) (s : State) → Good (match places p s next)
  unfolding match matched unmatched completed
  good_match zero p s = done _
  good_match (suc places) p s = good_agreeing _ _ _ s _ (λ agree t. good_if agree _ _ (done _) (good_match places (at_next_place p) t))

  good_text : (t : Text) (s : State) → Good (text_whole t s next)
  unfolding text_whole
  good_text text.Move s = good_equal_operands 0x28 s _ (λ p u. good_move false p u)
  good_text text.MoveFilled s = good_filled_operands 0x2C s _ (λ p u. good_move false p u)
  good_text text.MoveTranslated s = good_translated_operands 0x2E s _ (λ p u. good_move true p u)
  good_text text.MoveTranslatedUntil s = good_translated_operands 0x2F s _ (λ p u. good_escape p u)
  good_text text.Compare s = good_equal_operands 0x29 s _ (λ p u. good_compare _ _ _ _ u)
  good_text text.CompareFilled s = good_filled_operands 0x2D s _ (λ p u. good_compare _ _ _ _ u)
  good_text text.Locate s = good_search_operands 0x3A s _ (λ p u. good_search true p u)
  good_text text.Skip s = good_search_operands 0x3B s _ (λ p u. good_search false p u)
  good_text text.Scan s = good_scan_operands 0x2A s _ (λ p u. good_scan true p u)
  good_text text.Span s = good_scan_operands 0x2B s _ (λ p u. good_scan false p u)
  good_text text.Match s = good_match_operands 0x39 s _ (λ p u. good_match _ p u)

-- ---- a step

good_other : (a : Action) (s : State) → is_string a ≡ false → Good (acted a s finishing)
good_other a s h = acted_adds (λ ws n t. Good t) good_closed (register s 15) [] 0 finishing good_finished a h s 0 (omega arith) (near_here s)

good_acted : (a : Action) (s : State) → Good (acted a s finishing)
unfolding acted
good_acted (action.Integer i) s = good_other (action.Integer i) s refl
good_acted (action.Control i) s = good_other (action.Control i) s refl
good_acted (action.Field i) s = good_other (action.Field i) s refl
good_acted (action.Call i) s = good_other (action.Call i) s refl
good_acted (action.Queue i) s = good_other (action.Queue i) s refl
good_acted (action.System i) s = good_other (action.System i) s refl
good_acted (action.Text t) s = good_text finishing (λ u. good_finished flow.Done u tt) t s

good_acted_if : (a : Option Action) (s : State) → Good (acted_if a s finishing)
unfolding acted_if
good_acted_if (Some a) s = good_acted a s
good_acted_if None s = good_raises _

pub good_step : (s : State) → Good (whole_step s)
unfolding whole begun instruction
good_step s = good_if (nat_lt (priority s) (level s.core)) _ _ (good_interrupt (level s.core) s) (good_fetched 1 s _ (λ opcode t. good_acted_if (action_of opcode) t))

-- ---- a delivery raises nothing

both : (outcome : Outcome Leaf) → IsConclusive outcome → IsEnd outcome → IsConcluded outcome
both (Ends (Went flow.Done s) memory) c e = tt
both (Ends (Went flow.Clocked s) memory) c e = absurd c
both (Ends (Went (flow.Trap kind) s) memory) c e = absurd c
both (Ends (Went (flow.More opcode units) s) memory) c e = absurd c
both (Ends (Went (flow.Ended x) s) memory) c e = tt
both (Ends (Found operand s) memory) c e = absurd c
both (Raised x) c e = absurd e

pub delivery_concludes : (e : Exception) (s : State) (memory : List Area) → IsConcluded (outcome_of (whole_delivery e s) memory)
delivery_concludes e s memory = both (outcome_of (whole_delivery e s) memory) (good_delivered e s memory) ((quiet_whole e s).flat memory)
