-- What bytes that are written from outside make of a pager as a whole.
use Rattle.std.proofs.Common.{ℕ, ◌≡◌, Bool, List, [], length, ap, sym, ◌∙◌, subst, Option}
use Rattle.std.specs.Prelude.{◌||◌}
use Rattle.vax_outside.specs.Blocks.{BlockFile}
use Rattle.vax_flat.specs.Memory.{written_run}
use Rattle.vax_flat.specs.Port.{is_in}
use Rattle.vax_pager.specs.Calls.{IsPaging}
use Rattle.vax_pager.specs.Listing.{is_listed}
use Rattle.vax_pager.specs.Paging.{Keeps, Numbers, Paging, StandsWith}
use Rattle.vax_pager.specs.Poking.{AllComeIn, HasFailed, HasPoked, MarksNone, SomeComeIn, StaysAlike, WritesThere, backed, pages_of_bytes}
use Rattle.vax_pager.specs.Steps.{OnlyWritten, settled}
use Rattle.vax_pager.proofs.Marking.{none_settled, or_more, or_true, then_none}
use Rattle.vax_pager.proofs.Poking.{then_alike}
use Rattle.vax_pager.proofs.Turned.{port_stands, stands_settled, stands_turned}

-- the whole of it

alike_settled : (s t : Paging) → t ≡ settled s → StaysAlike s t
unfolding settled
alike_settled s t e = record { areas = ap (λ (z : Paging). z.areas) e; frames = ap (λ (z : Paging). z.frames) e; spoiled = ap (λ (z : Paging). z.numbers.spoiled) e }

pub pins_settled : (s t : Paging) → t ≡ settled s → t.pinned ≡ []
unfolding settled
pins_settled s t e = ap (λ (z : Paging). z.pinned) e

pub order_settled : (s t : Paging) → t ≡ settled s → t.order ≡ s.order
unfolding settled
order_settled s t e = ap (λ (z : Paging). z.order) e

modified_settled : (s t : Paging) → t ≡ settled s → t.modified ≡ s.modified
unfolding settled
modified_settled s t e = ap (λ (z : Paging). z.modified) e

pub areas_settled : (s t : Paging) → t ≡ settled s → t.areas ≡ s.areas
areas_settled s t e = (alike_settled s t e).areas

pub frames_settled : (s t : Paging) → t ≡ settled s → t.frames ≡ s.frames
frames_settled s t e = (alike_settled s t e).frames

stands_by : (s t : Paging) (file : Option BlockFile) → t ≡ settled s → Keeps s file t file
stands_by s t file e = λ memory st. subst (λ (z : Paging). StandsWith z file memory) (sym e) (stands_settled s file memory st)

-- all pins were dropped, pages came in, or not, and all pins were dropped
module _ (s a b c : Paging) (file now : Option BlockFile) (first : a ≡ settled s) (alike : StaysAlike a b) (keeps : Keeps a file b now) (second : c ≡ settled b) (marks : MarksNone a file b now) where
  pub all_alike : StaysAlike s c
  all_alike = then_alike s a c (alike_settled s a first) (then_alike a b c alike (alike_settled b c second))

  all_keeps : Keeps s file c now
  all_keeps = λ memory st. stands_by b c now second memory (keeps memory (stands_by s a file first memory st))

  all_marks : MarksNone s file c now
  all_marks = then_none s a c file file now (none_settled s a file first) (then_none a b c file now now marks (none_settled b c now second))

  pub has_failed : (addr count : ℕ) → SomeComeIn (pages_of_bytes addr count) (backed a file) (backed b now) → HasFailed addr count s file c now
  has_failed addr count brings = record {
    alike = all_alike;
    unpinned = pins_settled b c second;
    keeps = all_keeps;
    marks = all_marks;
    mid = b;
    brings = subst (λ (z : Paging). SomeComeIn (pages_of_bytes addr count) (backed z file) (backed b now)) first brings;
    then = second;
  }

  pub has_poked : (t : Paging) (addr : ℕ) (bytes : List ℕ) → IsPaging c → AllComeIn (pages_of_bytes addr (length bytes)) (backed a file) (backed b now) → WritesThere c addr bytes t → HasPoked addr bytes s file t now
  has_poked t addr bytes f brings w =
      let o = w.only in
      record {
        alike = then_alike s c t all_alike (record { areas = o.areas; frames = o.frames; spoiled = ap (λ (z : Numbers). z.spoiled) o.numbers });
        unpinned = o.pinned ∙ pins_settled b c second;
        stands = λ memory st.
            let here : StandsWith c now memory = all_keeps memory st in
            let port = port_stands c now memory f here in
            stands_turned c t now memory (written_run memory addr bytes) o f (w.stands memory port) (λ place gone. w.absent memory port place gone) here;
        marked = λ page h. w.marked page ∙ (ap (λ (z : Bool). is_listed page c.modified || z) h ∙ or_true (is_listed page c.modified));
        only = λ page h. or_more (is_listed page c.modified) (is_listed page s.modified) (is_in addr (length bytes) page) (all_marks.marked page) (sym (w.marked page) ∙ h);
        writes = all_marks.writes;
        mid = b;
        brings = subst (λ (z : Paging). AllComeIn (pages_of_bytes addr (length bytes)) (backed z file) (backed b now)) first brings;
        then = subst (λ (z : Paging). OnlyWritten z t) second o;
        touches = λ page. w.marked page ∙ ap (λ (z : List ℕ). is_listed page z || is_in addr (length bytes) page) (modified_settled b c second);
      }
