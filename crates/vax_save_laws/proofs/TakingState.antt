-- A state that was read is the bytes of which it was read.
use Rattle.std.proofs.Common.{◌≡◌, ℕ, Bool, true, false, cond, List, [], ◌∷◌, ◌++◌, length, Option, Some, None, Ok, Result, refl, sym, ap, subst, ◌∙◌, append-nil, arith}
use Rattle.std.specs.Prelude.{codes, not, ◌==◌, ◌%◌}
use Rattle.std.specs.List.{flat_map}
use Rattle.std.proofs.lemmas.Bool.{eqb-true}
use Rattle.std.proofs.lemmas.List.{nil_from_length}
use Rattle.byteorder.specs.Endian.{little_bytes}
use Rattle.vax_word.specs.declared.Core.{Core}
use Rattle.vax_machine.specs.Open.{Open}
use Rattle.vax_save.specs.declared.SaveError.{SaveError}
use Rattle.vax_save.specs.Restored.{restored_place}
use Rattle.vax_save.specs.Restoring.{Behind, Contents, Cursor, behind_at, contents_at, control_at, core_at, ended, is_opcode_wrong, is_overdone, open_at, restored, Restored, state_of, status_at}
use Rattle.vax_save.specs.Saved.{core_field, heading, input_field, longword, memory_field, no_opcode, quadword, registers_field, saved, word}
use Rattle.vax_save_laws.proofs.Registers.{Kind}
use Rattle.vax_save_laws.specs.Saveable.{IsBytes}
use Rattle.vax_save_laws.proofs.Restoring.{opcode_of, start_field}
use Rattle.vax_save_laws.proofs.Taking.{Takes, bind_ok, input_takes, longwords_take, magic_takes, not_false, ok_is, sound_takes, steps_take, takes_none, takes_then, unless_ok, wide1, wide2, wide4}
use Rattle.vax_save_laws.proofs.TakingPages.{memory_takes}

control_takes : (c : Cursor) (x : ℕ × Cursor) → IsBytes c.rest → control_at c ≡ Ok x → Takes c (x.0 ∷ 0 ∷ []) x.1
unfolding control_at
control_takes c x fits e =
    let a = bind_ok _ _ x e in
    let b = bind_ok _ _ x a.2 in
    let t = sound_takes 1 wide1 _ _ c a.0 fits a.1 in
    let u = sound_takes 1 wide1 _ _ a.0.1 b.0 t.takes.rest_fits b.1 in
    let small = t.small in
    let byte : little_bytes 1 a.0.0 ≡ a.0.0 ∷ [] = (let low : a.0.0 % 256 ≡ a.0.0 = omega (arith, small) in ap (λ (n : ℕ). n ∷ []) low) in
    let none : b.0.0 ≡ 0 = eqb-true b.0.0 0 (not_false (b.0.0 == 0) u.sound) in
    let first : Takes c (a.0.0 ∷ []) a.0.1 = subst (λ (z : List ℕ). Takes c z a.0.1) byte t.takes in
    let second : Takes a.0.1 (0 ∷ []) b.0.1 = subst (λ (n : ℕ). Takes a.0.1 (little_bytes 1 n) b.0.1) none u.takes in
    subst (λ (y : ℕ × Cursor). Takes c (y.0 ∷ 0 ∷ []) y.1) (ok_is (a.0.0, b.0.1) x b.2) (takes_then c (a.0.0 ∷ []) a.0.1 (0 ∷ []) b.0.1 first second)

abbrev behind_field : Behind → List ℕ
behind_field b = word b.sisr ++ ((b.iccs ∷ 0 ∷ []) ++ (word b.clock ++ word b.opcode))

behind_takes : (role : Kind) (c : Cursor) (x : Behind × Cursor) → IsBytes c.rest → behind_at role c ≡ Ok x → Takes c (behind_field x.0) x.1 × (is_opcode_wrong role x.0.opcode ≡ false)
unfolding behind_at
behind_takes role c x fits e =
    let a = bind_ok _ _ x e in
    let b = bind_ok _ _ x a.2 in
    let d = bind_ok _ _ x b.2 in
    let f = bind_ok _ _ x d.2 in
    let t = sound_takes 2 wide2 _ _ c a.0 fits a.1 in
    let u = control_takes a.0.1 b.0 t.takes.rest_fits b.1 in
    let v = sound_takes 2 wide2 _ _ b.0.1 d.0 u.rest_fits d.1 in
    let w = sound_takes 2 wide2 _ _ d.0.1 f.0 v.takes.rest_fits f.1 in
    let last = takes_then b.0.1 (word d.0.0) d.0.1 (word f.0.0) f.0.1 v.takes w.takes in
    let more = takes_then a.0.1 (b.0.0 ∷ 0 ∷ []) b.0.1 (word d.0.0 ++ word f.0.0) f.0.1 u last in
    subst (λ (y : Behind × Cursor). Takes c (behind_field y.0) y.1 × (is_opcode_wrong role y.0.opcode ≡ false)) (ok_is (record { sisr = a.0.0; iccs = b.0.0; clock = d.0.0; opcode = f.0.0 }, f.0.1) x f.2)
    (takes_then c (word a.0.0) a.0.1 ((b.0.0 ∷ 0 ∷ []) ++ (word d.0.0 ++ word f.0.0)) f.0.1 t.takes more, w.sound)

core_takes : (role : Kind) (c : Cursor) (x : (Core × ℕ) × Cursor) → IsBytes c.rest → core_at role c ≡ Ok x → Takes c (core_field x.0.0 x.0.1) x.1 × (is_opcode_wrong role x.0.1 ≡ false)
unfolding core_at core_field status_at
core_takes role c x fits e =
    let a = bind_ok _ _ x e in
    let b = bind_ok _ _ x a.2 in
    let d = bind_ok _ _ x b.2 in
    let f = bind_ok _ _ x d.2 in
    let t = longwords_take 16 c a.0 fits a.1 in
    let u = sound_takes 4 wide4 _ _ a.0.1 b.0 t.rest_fits b.1 in
    let v = longwords_take 5 b.0.1 d.0 u.takes.rest_fits d.1 in
    let w = behind_takes role d.0.1 f.0 v.rest_fits f.1 in
    let last = takes_then b.0.1 (flat_map longword d.0.0) d.0.1 (behind_field f.0.0) f.0.1 v w.0 in
    let more = takes_then a.0.1 (longword b.0.0) b.0.1 (flat_map longword d.0.0 ++ behind_field f.0.0) f.0.1 u.takes last in
    subst (λ (y : (Core × ℕ) × Cursor). Takes c (core_field y.0.0 y.0.1) y.1 × (is_opcode_wrong role y.0.1 ≡ false)) (ok_is _ x f.2)
    (takes_then c (flat_map longword a.0.0) a.0.1 (longword b.0.0 ++ (flat_map longword d.0.0 ++ behind_field f.0.0)) f.0.1 t more, w.1)

by_opcode : (b : Bool) (opcode : ℕ) (c : Cursor) (x : Option Open × Cursor) (r : Result (Option Open × Cursor) SaveError) → (opcode == no_opcode) ≡ b → (r ≡ Ok x → Takes c (start_field x.0) x.1 × (opcode_of x.0 ≡ opcode)) → IsBytes c.rest
    → cond b (Ok (None, c)) r ≡ Ok x → Takes c (start_field x.0) x.1 × (opcode_of x.0 ≡ opcode)
by_opcode true opcode c x r is some fits e = subst (λ (y : Option Open × Cursor). Takes c (start_field y.0) y.1 × (opcode_of y.0 ≡ opcode)) (ok_is (None, c) x e) (takes_none c fits, sym (eqb-true opcode no_opcode is))
by_opcode false opcode c x r is some fits e = some e

open_takes : (opcode : ℕ) (c : Cursor) (x : Option Open × Cursor) → IsBytes c.rest → open_at opcode c ≡ Ok x → Takes c (start_field x.0) x.1 × (opcode_of x.0 ≡ opcode)
unfolding open_at
open_takes opcode c x fits e =
    by_opcode (opcode == no_opcode) opcode c x _ refl (λ some.
    let a = bind_ok _ _ x some in
    let b = bind_ok _ _ x a.2 in
    let t = sound_takes 4 wide4 _ _ c a.0 fits a.1 in
    let u = core_takes _ a.0.1 b.0 t.takes.rest_fits b.1 in
    let none : b.0.0.1 ≡ 0 = eqb-true b.0.0.1 0 (not_false (b.0.0.1 == 0) u.1) in
    let start : Takes a.0.1 (core_field b.0.0.0 0) b.0.1 = subst (λ (n : ℕ). Takes a.0.1 (core_field b.0.0.0 n) b.0.1) none u.0 in
    subst (λ (y : Option Open × Cursor). Takes c (start_field y.0) y.1 × (opcode_of y.0 ≡ opcode)) (ok_is (Some (record { opcode = opcode; start = b.0.0.0; units = a.0.0 }), b.0.1) x b.2)
    (takes_then c (longword a.0.0) a.0.1 (core_field b.0.0.0 0) b.0.1 t.takes start, refl)) fits e

registers_are : (core : Core) (latch : Option Open) → core_field core (opcode_of latch) ++ start_field latch ≡ registers_field core latch
registers_are core None = append-nil (core_field core no_opcode)
registers_are core (Some latched) = refl

abbrev fields_of : Contents → List ℕ
fields_of c = heading c.steps ++ (registers_field c.core c.latch ++ (input_field c.taken c.input ++ memory_field c.memory))

contents_take : (c : Cursor) (x : Contents) → IsBytes c.rest → contents_at c ≡ Ok x → Takes c (fields_of x) x.end
unfolding contents_at
contents_take c x fits e =
    let a = bind_ok _ _ x e in
    let b = bind_ok _ _ x a.2 in
    let d = bind_ok _ _ x b.2 in
    let f = bind_ok _ _ x d.2 in
    let g = bind_ok _ _ x f.2 in
    let h = bind_ok _ _ x g.2 in
    let t = magic_takes c a.0 fits a.1 in
    let u = steps_take a.0 b.0 t.rest_fits b.1 in
    let v = core_takes _ b.0.1 d.0 u.rest_fits d.1 in
    let w = open_takes d.0.0.1 d.0.1 f.0 v.0.rest_fits f.1 in
    let y = input_takes f.0.1 g.0 w.0.rest_fits g.1 in
    let z = memory_takes g.0.1 h.0 y.rest_fits h.1 in
    let head = takes_then c (codes "VAXS") a.0 (word 1 ++ (word 0 ++ quadword b.0.0)) b.0.1 t u in
    let core : Takes b.0.1 (core_field d.0.0.0 (opcode_of f.0.0)) d.0.1 = subst (λ (n : ℕ). Takes b.0.1 (core_field d.0.0.0 n) d.0.1) (sym w.1) v.0 in
    let registers : Takes b.0.1 (registers_field d.0.0.0 f.0.0) f.0.1 = subst (λ (s : List ℕ). Takes b.0.1 s f.0.1) (registers_are d.0.0.0 f.0.0) (takes_then b.0.1 (core_field d.0.0.0 (opcode_of f.0.0)) d.0.1 (start_field f.0.0) f.0.1 core w.0) in
    let last = takes_then f.0.1 (input_field g.0.0.0 g.0.0.1) g.0.1 (memory_field h.0.0) h.0.1 y z in
    let more = takes_then b.0.1 (registers_field d.0.0.0 f.0.0) f.0.1 (input_field g.0.0.0 g.0.0.1 ++ memory_field h.0.0) h.0.1 registers last in
    subst (λ (s : Contents). Takes c (fields_of s) s.end) (ok_is _ x h.2) (takes_then c (heading b.0.0) b.0.1 (registers_field d.0.0.0 f.0.0 ++ (input_field g.0.0.0 g.0.0.1 ++ memory_field h.0.0)) h.0.1 head more)

-- saving what the fields say
saved_fields : (c : Contents) (latch : Option Open) (output : List ℕ) → saved (restored_place (record { machine = (state_of c).machine; latch = latch; steps = c.steps }) output) c.steps ≡ heading c.steps ++ (registers_field c.core latch ++ (input_field c.taken c.input ++ memory_field c.memory))
unfolding saved
saved_fields c None output = refl
saved_fields c (Some latched) output = refl

pub restored_again : (bytes : List ℕ) (r : Restored) (output : List ℕ) → IsBytes bytes → restored bytes ≡ Ok r → saved (restored_place r output) r.steps ≡ bytes
unfolding restored ended
restored_again bytes r output fits e =
    let a = bind_ok _ _ r e in
    let b = bind_ok _ _ r a.2 in
    let c : Contents = a.0 in
    let t = contents_take (record { place = 0; rest = bytes }) c fits a.1 in
    let g = unless_ok (not (length c.end.rest == 0)) _ _ c b.0 b.1 in
    let none : c.end.rest ≡ [] = nil_from_length c.end.rest (eqb-true (length c.end.rest) 0 (not_false _ g.0)) in
    let f = unless_ok (is_overdone b.0.latch b.0.memory b.0.core) _ _ (state_of b.0) r b.2 in
    let is : state_of c ≡ r = ap state_of g.1 ∙ f.1 in
    let all : bytes ≡ fields_of c = t.parts ∙ (ap (λ (s : List ℕ). fields_of c ++ s) none ∙ append-nil (fields_of c)) in
    subst (λ (s : Restored). saved (restored_place s output) s.steps ≡ bytes) is (saved_fields c c.latch output ∙ sym all)
