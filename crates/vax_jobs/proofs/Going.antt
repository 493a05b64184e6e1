-- An attempt of one process among several.
use Rattle.std.proofs.Common.{◌≡◌, ◌==◌, ℕ, Bool, List, Option, Some, None, length, map, refl, sym, ap, ◌∙◌, subst, inl, inr, ◌⊎◌}
use Rattle.std.specs.Prelude.{slice_get}
use Rattle.std.specs.Option.{option_and_then, option_map}
use Rattle.std.proofs.lemmas.Bool.{cases_Bool}
use Rattle.std.proofs.lemmas.Option.{slice_get-map}
use Rattle.vax_outside.specs.Blocks.{BlockFile}
use Rattle.vax_flat.specs.declared.Ending.{Ending}
use Rattle.vax_flat.specs.Parts.{Place}
use Rattle.vax_pager.specs.Listing.{is_listed}
use Rattle.vax_machine.specs.Machine.{Goes, Keeping, Means, Tries, keeping, residence, tried}
use Rattle.vax_machine.specs.Meaning.{engine}
use Rattle.vax_machine.specs.Residence.{Residence, eased, is_resident}
use Rattle.vax_machine.specs.Touched.{PinsTouched}
use Rattle.vax_machine.specs.declared.engine.Engine.{Engine}
use Rattle.vax_machine.specs.declared.event.Applied.{Applied}
use Rattle.vax_machine.specs.declared.event.Applied.TheVariants as applied
use Rattle.vax_machine.specs.declared.event.Event.TheVariants as event
use Rattle.vax_machine.specs.declared.machine.Machine.{Machine}
use Rattle.vax_window.specs.Windows.{its}
use Rattle.vax_jobs.proofs.Rooms.{same_pool}
use Rattle.vax_jobs.proofs.Shares.{there_is}
use Rattle.vax_jobs.proofs.Turns.{at_job, at_other, nothing_kept, now_kept, others_after, some_machine, was_kept}
use Rattle.vax_jobs.specs.Pool.{AllKeep, HasApplied, keeps_of}
use Rattle.vax_jobs.specs.Pooling.{IsPooling, IsShare, Pooling, altered, came, is_there, with_room}
use Rattle.vax_jobs.specs.Turning.{HasGone, HasTurned, LeadsUnless, attempted, ending_at}
use Rattle.vax_jobs.specs.declared.pool.Pair.{Pair}
use Rattle.vax_jobs.specs.declared.turn.Turn.TheVariants.{Go}
use Rattle.vax_jobs.specs.declared.turn.Turned.{Turned}
use Rattle.vax_jobs.specs.declared.turn.Turned.TheVariants.{Stepped, Parted, Absent, Ended, Failed}

-- an attempt changes no list of resident pages

eased_order : (r : Residence) → (eased r).order ≡ r.order
unfolding eased
eased_order r = elim (cases_Bool (length r.pinned == 40)) [ inl t ↦ rw t refl | inr f ↦ rw f refl ]

eased_frames : (r : Residence) → (eased r).frames ≡ r.frames
unfolding eased
eased_frames r = elim (cases_Bool (length r.pinned == 40)) [ inl t ↦ rw t refl | inr f ↦ rw f refl ]

tried_order : (answer : Applied) (k : Keeping) → (tried answer k).residence.order ≡ k.residence.order
tried_order (applied.Stepped sent) k = refl
tried_order applied.Parted k = refl
tried_order (applied.Absent page) k = eased_order k.residence
tried_order (applied.Ended e) k = refl
tried_order (applied.Served page) k = refl
tried_order applied.Evicted k = refl
tried_order applied.Flushed k = refl
tried_order applied.Nothing k = refl
tried_order applied.Failed k = refl

tried_frames : (answer : Applied) (k : Keeping) → (tried answer k).residence.frames ≡ k.residence.frames
tried_frames (applied.Stepped sent) k = refl
tried_frames applied.Parted k = refl
tried_frames (applied.Absent page) k = eased_frames k.residence
tried_frames (applied.Ended e) k = refl
tried_frames (applied.Served page) k = refl
tried_frames applied.Evicted k = refl
tried_frames applied.Flushed k = refl
tried_frames applied.Nothing k = refl
tried_frames applied.Failed k = refl

-- what a pool keeps, by its parts
pub pooling_is : (p q : Pooling) → q.most ≡ p.most → q.resident ≡ p.resident → (processes : List Keeping) → q.processes ≡ processes → q ≡ record p { processes = processes }
pooling_is p q most resident processes e = λ i. record { most = most i; resident = resident i; processes = e i }

ending_is : (job : ℕ) (answer : Applied) (old new : List Machine) (before after : Option BlockFile) (p : Pooling) → p.processes ≡ map keeps_of old → (h : HasApplied job event.Attempt answer old before new after) → ending_at p job ≡ (engine h.was).ended
ending_is job answer old new before after p e h =
    ap (λ ks. option_and_then (λ k. k.ended) (slice_get ks job)) e
    ∙ ap (option_and_then (λ (k : Keeping). k.ended)) (was_kept job event.Attempt answer old before new after h)

-- either nothing is kept otherwise, since the process had ended, or what the answer says
either : (o : Option Ending) (was is : Engine) (answer : Applied) → Tries o was answer is → (keeping is ≡ keeping was) ⊎ (keeping is ≡ tried answer (keeping was))
either (Some e) was is answer t = inl (ap keeping t.1)
either None was is answer t = inr t.keeps

pub attempt_kept : (job : ℕ) (answer : Applied) (old new : List Machine) (before after : Option BlockFile) → HasApplied job event.Attempt answer old before new after → (map keeps_of new ≡ map keeps_of old) ⊎ (map keeps_of new ≡ altered job (tried answer) (map keeps_of old))
attempt_kept job answer old new before after h = elim (either (engine h.was).ended (engine h.was) (engine h.is) answer h.applies.0) [
  | inl same ↦ inl (nothing_kept job event.Attempt answer old before new after h same)
  | inr more ↦ inr (now_kept job event.Attempt answer old before new after (tried answer) h more)
]

-- it leaves a pool
pub attempt_pool : (job : ℕ) (answer : Applied) (old new : List Machine) (before after : Option BlockFile) (p q : Pooling) → p.processes ≡ map keeps_of old → q.processes ≡ map keeps_of new → q.most ≡ p.most → q.resident ≡ p.resident → IsPooling p → HasApplied job event.Attempt answer old before new after → IsPooling q
attempt_pool job answer old new before after p q pe qe most resident sound h = elim (attempt_kept job answer old new before after h) [
  | inl same ↦ subst IsPooling (sym (pooling_is p q most resident p.processes (qe ∙ same ∙ sym pe))) sound
  | inr more ↦ subst IsPooling (sym (pooling_is p q most resident (altered job (tried answer) p.processes) (qe ∙ more ∙ ap (altered job (tried answer)) (sym pe))))
      (same_pool p job (keeps_of h.was) (tried answer) sound (ap (λ ks. slice_get ks job) pe ∙ was_kept job event.Attempt answer old before new after h) (tried_order answer (keeps_of h.was)) (tried_frames answer (keeps_of h.was)))
]

-- what is kept, by the answer

gone_stepped : (job : ℕ) (o : Option Ending) (was is : Engine) (sent : Option ℕ) (p q : Pooling) → Tries o was (applied.Stepped sent) is → (keeping is ≡ tried (applied.Stepped sent) (keeping was) → q ≡ attempted job (applied.Stepped sent) p) → HasGone job o (Stepped sent) p q
gone_stepped job (Some e) was is sent p q t f = absurd (let no_way : applied.Stepped sent ≡ applied.Ended e = t.0 in cc)
gone_stepped job None was is sent p q t f = f t.keeps

gone_parted : (job : ℕ) (o : Option Ending) (was is : Engine) (p q : Pooling) → Tries o was applied.Parted is → (keeping is ≡ tried applied.Parted (keeping was) → q ≡ attempted job applied.Parted p) → HasGone job o Parted p q
gone_parted job (Some e) was is p q t f = absurd (let no_way : applied.Parted ≡ applied.Ended e = t.0 in cc)
gone_parted job None was is p q t f = f t.keeps

same_ending : (e x : Ending) → applied.Ended e ≡ applied.Ended x → e ≡ x
same_ending e x h = cc

gone_ended : (job : ℕ) (o : Option Ending) (was is : Engine) (ending : Ending) (p q : Pooling) → Tries o was (applied.Ended ending) is → (keeping is ≡ keeping was → q ≡ p) → (keeping is ≡ tried (applied.Ended ending) (keeping was) → q ≡ attempted job (applied.Ended ending) p) → HasGone job o (Ended ending) p q
gone_ended job (Some e) was is ending p q t same f = (ap Ended (same_ending ending e t.0), same (ap keeping t.1))
gone_ended job None was is ending p q t same f = f t.keeps

gone_absent : (job : ℕ) (o : Option Ending) (was is : Engine) (page : ℕ) → Tries o was (applied.Absent page) is → o ≡ None
gone_absent job (Some e) was is page t = absurd (let no_way : applied.Absent page ≡ applied.Ended e = t.0 in cc)
gone_absent job None was is page t = refl

pub turned_stepped : (job : ℕ) (sent : Option ℕ) (old new : List Machine) (before after : Option BlockFile) (p q : Pooling) → p.processes ≡ map keeps_of old → q.processes ≡ map keeps_of new → q.most ≡ p.most → q.resident ≡ p.resident → HasApplied job event.Attempt (applied.Stepped sent) old before new after → HasGone job (ending_at p job) (Stepped sent) p q
turned_stepped job sent old new before after p q pe qe most resident h =
    subst (λ (o : Option Ending). HasGone job o (Stepped sent) p q) (sym (ending_is job (applied.Stepped sent) old new before after p pe h))
    (gone_stepped job (engine h.was).ended (engine h.was) (engine h.is) sent p q h.applies.0 (λ e.
    pooling_is p q most resident (altered job (tried (applied.Stepped sent)) p.processes)
    (qe ∙ now_kept job event.Attempt (applied.Stepped sent) old before new after (tried (applied.Stepped sent)) h e ∙ ap (altered job (tried (applied.Stepped sent))) (sym pe))))

pub turned_parted : (job : ℕ) (old new : List Machine) (before after : Option BlockFile) (p q : Pooling) → p.processes ≡ map keeps_of old → q.processes ≡ map keeps_of new → q.most ≡ p.most → q.resident ≡ p.resident → HasApplied job event.Attempt applied.Parted old before new after → HasGone job (ending_at p job) Parted p q
turned_parted job old new before after p q pe qe most resident h =
    subst (λ (o : Option Ending). HasGone job o Parted p q) (sym (ending_is job applied.Parted old new before after p pe h))
    (gone_parted job (engine h.was).ended (engine h.was) (engine h.is) p q h.applies.0 (λ e.
    pooling_is p q most resident (altered job (tried applied.Parted) p.processes)
    (qe ∙ now_kept job event.Attempt applied.Parted old before new after (tried applied.Parted) h e ∙ ap (altered job (tried applied.Parted)) (sym pe))))

pub turned_ended : (job : ℕ) (ending : Ending) (old new : List Machine) (before after : Option BlockFile) (p q : Pooling) → p.processes ≡ map keeps_of old → q.processes ≡ map keeps_of new → q.most ≡ p.most → q.resident ≡ p.resident → HasApplied job event.Attempt (applied.Ended ending) old before new after → HasGone job (ending_at p job) (Ended ending) p q
turned_ended job ending old new before after p q pe qe most resident h =
    subst (λ (o : Option Ending). HasGone job o (Ended ending) p q) (sym (ending_is job (applied.Ended ending) old new before after p pe h))
    (gone_ended job (engine h.was).ended (engine h.was) (engine h.is) ending p q h.applies.0
    (λ e. pooling_is p q most resident p.processes (qe ∙ nothing_kept job event.Attempt (applied.Ended ending) old before new after h e ∙ sym pe))
    (λ e.
    pooling_is p q most resident (altered job (tried (applied.Ended ending)) p.processes)
    (qe ∙ now_kept job event.Attempt (applied.Ended ending) old before new after (tried (applied.Ended ending)) h e ∙ ap (altered job (tried (applied.Ended ending))) (sym pe))))

kept_absent : (o : Option Ending) (was is : Engine) (page : ℕ) → Tries o was (applied.Absent page) is → keeping is ≡ tried (applied.Absent page) (keeping was)
kept_absent (Some e) was is page t = absurd (let no_way : applied.Absent page ≡ applied.Ended e = t.0 in cc)
kept_absent None was is page t = t.keeps

-- an attempt that misses a page: the process goes on, and the pool is as the answer says
pub record Missed (job page : ℕ) (p q : Pooling) : Type 0 where
  pub going : ending_at p job ≡ None
  pub is : q ≡ attempted job (applied.Absent page) p
  pub wanted : option_and_then (λ (k : Keeping). k.wanted) (slice_get q.processes job) ≡ Some page

pub misses : (job page : ℕ) (old new : List Machine) (before after : Option BlockFile) (p q : Pooling) → p.processes ≡ map keeps_of old → q.processes ≡ map keeps_of new → q.most ≡ p.most → q.resident ≡ p.resident → HasApplied job event.Attempt (applied.Absent page) old before new after → Missed job page p q
misses job page old new before after p q pe qe most resident h =
    let kept = kept_absent (engine h.was).ended (engine h.was) (engine h.is) page h.applies.0 in
    record {
      going = ending_is job (applied.Absent page) old new before after p pe h ∙ gone_absent job (engine h.was).ended (engine h.was) (engine h.is) page h.applies.0;
      is = pooling_is p q most resident (altered job (tried (applied.Absent page)) p.processes)
          (qe ∙ now_kept job event.Attempt (applied.Absent page) old before new after (tried (applied.Absent page)) h kept ∙ ap (altered job (tried (applied.Absent page))) (sym pe));
      wanted =
          ap (λ ks. option_and_then (λ (k : Keeping). k.wanted) (slice_get ks job)) qe
          ∙ ap (option_and_then (λ (k : Keeping). k.wanted)) (slice_get-map keeps_of new job ∙ ap (option_map keeps_of) (at_job job event.Attempt (applied.Absent page) old before new after h))
          ∙ ap (λ (k : Keeping). k.wanted) kept;
    }

-- the page came in
pub gone_with : (job page : ℕ) (p q r : Pooling) → Missed job page p q → r ≡ came job page (with_room q) → HasGone job (ending_at p job) (Absent page) p r
gone_with job page p q r missed e =
    subst (λ (o : Option Ending). HasGone job o (Absent page) p r) (sym missed.going) (e ∙ ap (λ x. came job page (with_room x)) missed.is)

-- or a call failed
pub gone_without : (job page : ℕ) (p q r : Pooling) → Missed job page p q → (r ≡ q) ⊎ (r ≡ with_room q) → HasGone job (ending_at p job) Failed p r
gone_without job page p q r missed (inl e) =
    subst (λ (o : Option Ending). HasGone job o Failed p r) (sym missed.going) (page, inl (e ∙ missed.is))
gone_without job page p q r missed (inr e) =
    subst (λ (o : Option Ending). HasGone job o Failed p r) (sym missed.going) (page, inr (e ∙ ap (λ x. with_room x) missed.is))

-- where it leads

pub resident_is : (most job : ℕ) (pairs : List Pair) (r : Residence) → IsShare most job pairs r → is_resident r ≡ is_there pairs job
resident_is most job pairs r share =
    let same : (page : ℕ) → is_listed page r.order ≡ is_there pairs job page = λ page. ap (is_listed page) share.order ∙ sym (there_is job page pairs) in
    λ i page. same page i

-- an attempt of a process that had ended, or goes on
abbrev pub LedBy : Option Ending → Applied → (ℕ → Bool) → Engine → Option BlockFile → Place → Type 0
LedBy (Some e) answer resident is after place = Means is after place
LedBy None answer resident is after place = Goes answer resident is after place

led : (o : Option Ending) (was is : Engine) (answer : Applied) (resident : ℕ → Bool) (before after : Option BlockFile) (place : Place) → Tries o was answer is → after ≡ before → is_resident (residence was) ≡ resident → Means was before place → LedBy o answer resident is after place
led (Some e) was is answer resident before after place t file there means =
    subst (λ (f : Option BlockFile). Means is f place) (sym file) (subst (λ (m : Engine). Means m before place) (sym t.1) means)
led None was is answer resident before after place t file there means =
    subst (λ (f : Option BlockFile). Goes answer resident is f place) (sym file) (subst (λ (r : ℕ → Bool). Goes answer r is before place) there (t.goes before place means))

pub as_stepped : (o : Option Ending) (sent : Option ℕ) (resident : ℕ → Bool) (is : Engine) (after : Option BlockFile) (place : Place) → LedBy o (applied.Stepped sent) resident is after place → LeadsUnless o (Stepped sent) resident is after place
as_stepped (Some e) sent resident is after place h = h
as_stepped None sent resident is after place h = h

pub as_parted : (o : Option Ending) (resident : ℕ → Bool) (is : Engine) (after : Option BlockFile) (place : Place) → LedBy o applied.Parted resident is after place → LeadsUnless o Parted resident is after place
as_parted (Some e) resident is after place h = h
as_parted None resident is after place h = h

pub as_ended : (o : Option Ending) (ending : Ending) (resident : ℕ → Bool) (is : Engine) (after : Option BlockFile) (place : Place) → LedBy o (applied.Ended ending) resident is after place → LeadsUnless o (Ended ending) resident is after place
as_ended (Some e) ending resident is after place h = h
as_ended None ending resident is after place h = h

as_absent : (o : Option Ending) (page : ℕ) (resident : ℕ → Bool) (is n : Engine) (mid after : Option BlockFile) (place : Place) → (Means is mid place → Means n after place) → LedBy o (applied.Absent page) resident is mid place → LeadsUnless o (Absent page) resident n after place
as_absent (Some e) page resident is n mid after place k h = k h
as_absent None page resident is n mid after place k h = (h.0, k h.1)

as_failed : (o : Option Ending) (page : ℕ) (resident : ℕ → Bool) (is n : Engine) (mid after : Option BlockFile) (place : Place) → (Means is mid place → Means n after place) → LedBy o (applied.Absent page) resident is mid place → LeadsUnless o Failed resident n after place
as_failed (Some e) page resident is n mid after place k h = k h
as_failed None page resident is n mid after place k h = k h.1

share_of : (job : ℕ) (answer : Applied) (old new : List Machine) (before after : Option BlockFile) (p : Pooling) → p.processes ≡ map keeps_of old → IsPooling p → (h : HasApplied job event.Attempt answer old before new after) → is_resident (residence (engine h.was)) ≡ is_there p.resident job
share_of job answer old new before after p pe sound h =
    resident_is p.most job p.resident (residence (engine h.was)) (sound.shares job (keeps_of h.was) (ap (λ ks. slice_get ks job) pe ∙ was_kept job event.Attempt answer old before new after h))

-- the turn of a process whose attempt was all of it
pub turned_alone : (job : ℕ) (answer : Applied) (result : Turned) (old new : List Machine) (before after : Option BlockFile) (p : Pooling) → p.processes ≡ map keeps_of old → IsPooling p → HasApplied job event.Attempt answer old before new after → ((o : Option Ending) → (is : Engine) → (place : Place) → LedBy o answer (is_there p.resident job) is (its job after) place → LeadsUnless o result (is_there p.resident job) is (its job after) place) → HasTurned (Go job) result p old before new after
turned_alone job answer result old new before after p pe sound h told = record {
  own = λ m n a b place means.
      let first : m ≡ h.was = some_machine m h.was (sym a ∙ h.there) in
      let next : n ≡ h.is = some_machine n h.is (sym b ∙ at_job job event.Attempt answer old before new after h) in
      let leads = led (engine h.was).ended (engine h.was) (engine h.is) answer (is_there p.resident job) (its job before) (its job after) place h.applies.0 h.applies.1 (share_of job answer old new before after p pe sound h) (subst (λ (x : Machine). Means (engine x) (its job before) place) first means) in
      subst (λ (x : Machine). LeadsUnless (engine x).ended result (is_there p.resident job) (engine n) (its job after) place) (sym first)
      (subst (λ (x : Machine). LeadsUnless (engine h.was).ended result (is_there p.resident job) (engine x) (its job after) place) (sym next)
      (told (engine h.was).ended (engine h.is) place leads));
  others = others_after job event.Attempt answer old before new after h;
}

-- and of one whose missed page was to come in
pub turned_missed : (job page : ℕ) (result : Turned) (old mid new : List Machine) (before between after : Option BlockFile) (p : Pooling) → p.processes ≡ map keeps_of old → IsPooling p → HasApplied job event.Attempt (applied.Absent page) old before mid between → AllKeep mid between new after → ((o : Option Ending) → (is n : Engine) → (place : Place) → (Means is (its job between) place → Means n (its job after) place) → LedBy o (applied.Absent page) (is_there p.resident job) is (its job between) place → LeadsUnless o result (is_there p.resident job) n (its job after) place) → HasTurned (Go job) result p old before new after
turned_missed job page result old mid new before between after p pe sound h keeps told = record {
  own = λ m n a b place means.
      let first : m ≡ h.was = some_machine m h.was (sym a ∙ h.there) in
      let leads = led (engine h.was).ended (engine h.was) (engine h.is) (applied.Absent page) (is_there p.resident job) (its job before) (its job between) place h.applies.0 h.applies.1 (share_of job (applied.Absent page) old mid before between p pe sound h) (subst (λ (x : Machine). Means (engine x) (its job before) place) first means) in
      subst (λ (x : Machine). LeadsUnless (engine x).ended result (is_there p.resident job) (engine n) (its job after) place) (sym first)
      (told (engine h.was).ended (engine h.is) (engine n) place (λ here. keeps.each job h.is n (at_job job event.Attempt (applied.Absent page) old before mid between h) b place here) leads);
  others = λ i other m n a b.
      let there : slice_get mid i ≡ Some m = at_other job event.Attempt (applied.Absent page) old before mid between h i other ∙ a in
      λ place means. keeps.each i m n there b place (h.others i other m a place means);
}

pub absent_as : (job page : ℕ) (resident : ℕ → Bool) (mid after : Option BlockFile) (o : Option Ending) (is n : Engine) (place : Place) → (Means is mid place → Means n after place) → LedBy o (applied.Absent page) resident is mid place → LeadsUnless o (Absent page) resident n after place
absent_as job page resident mid after o is n place k h = as_absent o page resident is n mid after place k h

pub failed_as : (job page : ℕ) (resident : ℕ → Bool) (mid after : Option BlockFile) (o : Option Ending) (is n : Engine) (place : Place) → (Means is mid place → Means n after place) → LedBy o (applied.Absent page) resident is mid place → LeadsUnless o Failed resident n after place
failed_as job page resident mid after o is n place k h = as_failed o page resident is n mid after place k h

-- an attempt that touches what is pinned drops no pins where it misses a page
pub missed_pins : (job page : ℕ) (old new : List Machine) (before after : Option BlockFile) → (h : HasApplied job event.Attempt (applied.Absent page) old before new after) → (m : Machine) (place : Place) → slice_get old job ≡ Some m → Means (engine m) (its job before) place → PinsTouched (residence (engine m)) place → eased (residence (engine m)) ≡ residence (engine m)
missed_pins job page old new before after h m place there means pins =
    let same : m ≡ h.was = some_machine m h.was (sym there ∙ h.there) in
    let kept = kept_absent (engine h.was).ended (engine h.was) (engine h.is) page h.applies.0 in
    let stays = h.unsettled place (subst (λ (x : Machine). Means (engine x) (its job before) place) same means) (subst (λ (x : Machine). PinsTouched (residence (engine x)) place) same pins) page refl in
    subst (λ (x : Machine). eased (residence (engine x)) ≡ residence (engine x)) (sym same) (sym (ap (λ (k : Keeping). k.residence) kept) ∙ stays)
