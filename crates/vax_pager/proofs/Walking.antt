-- A page's frame by a walk of the tables: the page's entry comes into the buffer, and says what may be done at once.
use Rattle.std.proofs.Common.{ℕ, ◌≡◌, ◌-◌, ◌%◌, ◌^◌, ◌<◌, ◌≤◌, Bool, true, arith, refl, ap, sym, ◌∙◌, Option, Some, None}
use Rattle.std.specs.Prelude.{is_some, IfNone, IfSome}
use Rattle.std.proofs.lemmas.Bool.{eq-eqb, false≢true}
use Rattle.vax_space.specs.declared.Access.{Access}
use Rattle.vax_space.specs.declared.Access.TheVariants.{Write}
use Rattle.vax_space.specs.Reference.{page_of}
use Rattle.vax_table.specs.declared.Walk.{Walk}
use Rattle.vax_table.specs.Tables.{walked}
use Rattle.vax_tb.specs.declared.buffer.Buffer.{Buffer}
use Rattle.vax_tb.specs.Buffer.{Agrees, at_once, filled, filled_if}
use Rattle.vax_tb.specs.Meaning.{buffered}
use Rattle.vax_flat.specs.Port.{stop}
use Rattle.vax_pager.specs.declared.store.Store.{Store}
use Rattle.vax_pager.specs.Listing.{is_listed}
use Rattle.vax_pager.specs.Paging.{Paging, view_of}
use Rattle.vax_pager.specs.Store.{IsFrame, IsSound, held, paging}
use Rattle.vax_pager.proofs.Views.{once_entry, once_free, once_held, once_marked, once_resident, paging_buffer, sound_buffer}

entry_here : (old new : ℕ → Option Walk) (p : ℕ) (w : Walk) → new ≡ filled_if true old p w → new p ≡ Some w
unfolding filled
entry_here old new p w e = ap (λ (g : ℕ → Option Walk). g p) e ∙ rw (eq-eqb p p refl) refl

-- what the new entry allows is what the tables allow
once_here : (old new : ℕ → Option Walk) (p mode : ℕ) (w : Walk) (access : Access) (o : Option ℕ) → IfSome o (λ f. at_once (Some w) mode access ≡ Some f) → new ≡ filled_if (is_some o) old p w → is_some o ≡ true → o ≡ at_once (new p) mode access
once_here old new p mode w access None e entries there = absurd (false≢true there)
once_here old new p mode w access (Some f) e entries there =
    sym e ∙ ap (λ (z : Option Walk). at_once z mode access) (sym (entry_here old new p w entries))

walked_entry : (old new : ℕ → Option Walk) (p : ℕ) (w : Walk) (o : Option ℕ) → new ≡ filled_if (is_some o) old p w → is_some o ≡ true → is_some (new p) ≡ true
walked_entry old new p w o entries there =
    ap is_some (entry_here old new p w (entries ∙ ap (λ (b : Bool). filled_if b old p w) there))

pub walked_left : (old new : ℕ → Option Walk) (p : ℕ) (w : Walk) (o : Option ℕ) → new ≡ filled_if (is_some o) old p w → IfNone o (new ≡ old)
walked_left old new p w None entries = entries
walked_left old new p w (Some f) entries = tt

-- what a walk of the tables gave for a page of a pager
pub record IsWalked (s : Store) (b : Buffer) (p mode : ℕ) (access : Access) (o : Option ℕ) : Type 0 where
  pub sound : IsSound 0 s
  pub agrees : Agrees (buffered b) (walked s.tables)
  pub frame : IfSome o (λ f. at_once (Some (walked s.tables p)) mode access ≡ Some f)
  pub entries : buffered b ≡ filled_if (is_some o) (buffered s.buffer) p (walked s.tables p)

after_sound : (s : Store) (b : Buffer) (p mode : ℕ) (access : Access) (o : Option ℕ) → IsWalked s b p mode access o → IsSound 0 (record s { buffer = b })
after_sound s b p mode access o h = sound_buffer s b h.agrees h.sound

after_once : (s : Store) (b : Buffer) (p mode : ℕ) (access : Access) (o : Option ℕ) → IsWalked s b p mode access o → is_some o ≡ true → o ≡ at_once (buffered b p) mode access
after_once s b p mode access o h there =
    once_here (buffered s.buffer) (buffered b) p mode (walked s.tables p) access o h.frame h.entries there

walked_held : (s : Store) (b : Buffer) (p mode : ℕ) (access : Access) (o : Option ℕ) → IsWalked s b p mode access o → IfSome o (λ f. held (record s { buffer = b }) p ≡ Some f)
walked_held s b p mode access None h = tt
walked_held s b p mode access (Some f) h =
    once_held (record s { buffer = b }) b p mode access (Some f) (after_once s b p mode access (Some f) h refl) (after_sound s b p mode access (Some f) h)

walked_resident : (s : Store) (b : Buffer) (p mode : ℕ) (access : Access) (o : Option ℕ) → IsWalked s b p mode access o → is_some o ≡ true → is_listed p (paging s).order ≡ true
walked_resident s b p mode access o h there =
    ap (λ (z : Paging). is_listed p z.order) (sym (paging_buffer s b))
    ∙ once_resident (record s { buffer = b }) p mode access o (after_once s b p mode access o h there) (after_sound s b p mode access o h) there

walked_marked : (s : Store) (b : Buffer) (p mode : ℕ) (access : Access) (o : Option ℕ) → IsWalked s b p mode access o → is_some o ≡ true → access ≡ Write → is_listed p (paging s).modified ≡ true
walked_marked s b p mode access o h there write =
    ap (λ (z : Paging). is_listed p z.modified) (sym (paging_buffer s b))
    ∙ once_marked (record s { buffer = b }) p mode access o (after_once s b p mode access o h there) (after_sound s b p mode access o h) there write

walked_free : (s : Store) (b : Buffer) (addr n mode : ℕ) (access : Access) (o : Option ℕ) → addr < 2 ^ 32 → n ≤ 512 - addr % 512 → IsWalked s b (page_of addr) mode access o → is_some o ≡ true → stop (view_of (paging s)) addr n mode access ≡ None
walked_free s b addr n mode access o small within h there =
    ap (λ (z : Paging). stop (view_of z) addr n mode access) (sym (paging_buffer s b))
    ∙ once_free (record s { buffer = b }) addr n mode access o small within (after_once s b (page_of addr) mode access o h there) (after_sound s b (page_of addr) mode access o h) there

-- the frame of a range, by the buffer and by a walk
pub once_frame : (s : Store) (b : Buffer) (addr n mode : ℕ) (access : Access) (o : Option ℕ) → addr < 2 ^ 32 → n ≤ 512 - addr % 512 → buffered b ≡ buffered s.buffer → o ≡ at_once (buffered s.buffer (page_of addr)) mode access → IsSound 0 s → IfSome o (λ f. IsFrame addr n mode access f s (record s { buffer = b }))
once_frame s b addr n mode access None small within same once sound = tt
once_frame s b addr n mode access (Some f) small within same once sound = record {
  held = once_held s b (page_of addr) mode access (Some f) once sound;
  one_page = omega arith;
  free = once_free s addr n mode access (Some f) small within once sound refl;
  marked = once_marked s (page_of addr) mode access (Some f) once sound refl;
  resident = once_resident s (page_of addr) mode access (Some f) once sound refl;
  entry = ap (λ (g : ℕ → Option Walk). is_some (g (page_of addr))) same ∙ once_entry (buffered s.buffer (page_of addr)) mode access (Some f) once refl;
}

pub walked_frame : (s : Store) (b : Buffer) (addr n mode : ℕ) (access : Access) (o : Option ℕ) → addr < 2 ^ 32 → n ≤ 512 - addr % 512 → IsWalked s b (page_of addr) mode access o → IfSome o (λ f. IsFrame addr n mode access f s (record s { buffer = b }))
walked_frame s b addr n mode access None small within h = tt
walked_frame s b addr n mode access (Some f) small within h = record {
  held = walked_held s b (page_of addr) mode access (Some f) h;
  one_page = omega arith;
  free = walked_free s b addr n mode access (Some f) small within h refl;
  marked = walked_marked s b (page_of addr) mode access (Some f) h refl;
  resident = walked_resident s b (page_of addr) mode access (Some f) h refl;
  entry = walked_entry (buffered s.buffer) (buffered b) (page_of addr) (walked s.tables (page_of addr)) (Some f) h.entries refl;
}
