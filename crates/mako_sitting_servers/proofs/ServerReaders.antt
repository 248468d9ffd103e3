-- The collector among all seats: its seat is the last, and the server whose notices it reads is that of its part.
use Rattle.std.proofs.Common.{◌≡◌, ℕ, List, [], slice_get, get_or, Some, sym, ap, ◌∙◌, arith}
use Rattle.std.proofs.lemmas.Option.{slice_get-get_or, same_Some}
use Rattle.mako_shape.specs.declared.numbers.Numbers.{Numbers}
use Rattle.mako_model.specs.Legal.{Facts}
use Rattle.mako_names.specs.Notices.{Gathering}
use Rattle.mako_layout.specs.StepParts.{collector_seat}
use Rattle.mako_phases.specs.Facets.{Part, idle, evacuating, PhaseFacet, mutating, serving, collecting, role_of}
use Rattle.mako_phases.proofs.Frames.{get_map}
use Rattle.mako_joint.specs.Joints.{JointScene}
use Rattle.mako_pause.specs.Collecting.{Holdings, Collecting}
use Rattle.mako_pause.specs.declared.stage.ChoiceStage.{ChoiceStage}
use Rattle.mako_pause.specs.declared.stage.ChoiceStage.TheVariants.{LoadingLive, LoadingTop, LoadingHome}
use Rattle.mako_pause.specs.declared.stage.ChoiceStage.TheVariants.{StoringLeaving, StoringHome, StoringTop}
use Rattle.mako_pause.specs.declared.stage.ChoiceStage.TheVariants.{StoringEvac, Opening as Reopening}
use Rattle.mako_pause.specs.declared.stage.NoticeStage.{NoticeStage}
use Rattle.mako_pause.specs.declared.stage.NoticeStage.TheVariants.{Looking as NoticeLook, Clearing as NoticeClear}
use Rattle.mako_pause.specs.declared.stage.NoticeStage.TheVariants.{StoringIdle}
use Rattle.mako_pause.specs.declared.stage.Pause.TheVariants.{Snapshot, Choice}
use Rattle.mako_pause.specs.declared.stage.PauseStage.{PauseStage}
use Rattle.mako_pause.specs.declared.stage.PauseStage.TheVariants.{Shutting, Draining, LoadingRoot, StoringTrace}
use Rattle.mako_pause.specs.declared.stage.PauseStage.TheVariants.{Opening}
use Rattle.mako_pause.specs.declared.stage.CollectStage.{CollectStage}
use Rattle.mako_pause.specs.declared.stage.CollectStage.TheVariants.{Idle, Pausing, Forwarding, Barriers, Emptying}
use Rattle.mako_pause.specs.declared.stage.CollectStage.TheVariants.{Polling, Choosing, Noticing, Ended}
use Rattle.mako_seat.specs.declared.seat.Seat.{Seat}
use Rattle.mako_seat.specs.declared.seat.Seat.TheVariants.{Mutator, Server, Collector}
use Rattle.mako_collecting.specs.Facets.{pause_part, choice_part, notice_part, stage_part, part_of, names_of}
use Rattle.mako_clearing.specs.Clearing.{ReadersMatch}
use Rattle.mako_sitting.specs.Seats.{GathersAt, CollectorSits, SeatSits, AllSit}

abbrev told_in : Part → ℕ
told_in (evacuating cycle told) = told
told_in part = 0

pauses : (n : Numbers) (k : Holdings) (stage : PauseStage) (cycle told : ℕ)
    → pause_part n k stage ≡ evacuating cycle told → ⊥
pauses n k (Shutting Snapshot m) cycle told e = cc
pauses n k (Shutting Choice m) cycle told e = cc
pauses n k (Draining Snapshot m) cycle told e = cc
pauses n k (Draining Choice m) cycle told e = cc
pauses n k (LoadingRoot m q) cycle told e = cc
pauses n k StoringTrace cycle told e = cc
pauses n k (Opening m) cycle told e = cc

chooses : (k : Holdings) (stage : ChoiceStage) (g : Gathering) → g ≡ record { server = 0; names = [] }
    → (cycle told : ℕ) → choice_part k stage ≡ evacuating cycle told → g.server ≡ told
chooses k (LoadingLive r place) g is cycle told e = absurd (let b : ⊥ = cc in b)
chooses k (LoadingTop r place number) g is cycle told e = absurd (let b : ⊥ = cc in b)
chooses k (LoadingHome i) g is cycle told e = absurd (let b : ⊥ = cc in b)
chooses k (StoringLeaving i gift) g is cycle told e = absurd (let b : ⊥ = cc in b)
chooses k (StoringHome i gift) g is cycle told e = absurd (let b : ⊥ = cc in b)
chooses k (StoringTop i) g is cycle told e = absurd (let b : ⊥ = cc in b)
chooses k StoringEvac g is cycle told e = absurd (let b : ⊥ = cc in b)
chooses k (Reopening m) g is cycle told e = ap (λ (x : Gathering). x.server) is ∙ ap told_in e

notices : (n : Numbers) (k : Holdings) (stage : NoticeStage) (g : Gathering) → GathersAt n k (Noticing stage) g
    → (cycle told : ℕ) → notice_part n k stage ≡ evacuating cycle told → g.server ≡ told
notices n k (NoticeLook s) g is cycle told e = ap (λ (x : Gathering). x.server) is ∙ ap told_in e
notices n k (NoticeClear s t) g is cycle told e = ap (λ (x : Gathering). x.server) is ∙ ap told_in e
notices n k StoringIdle g is cycle told e = ap (λ (x : Gathering). x.server) is ∙ ap told_in e

reads : (n : Numbers) (k : Holdings) (stage : CollectStage) (g : Gathering) → GathersAt n k stage g → (cycle told : ℕ)
    → stage_part n k stage ≡ evacuating cycle told → g.server ≡ told
reads n k (Idle x) g is cycle told e = absurd (let b : ⊥ = cc in b)
reads n k (Pausing x) g is cycle told e = absurd (pauses n k x cycle told e)
reads n k (Forwarding x) g is cycle told e = absurd (let b : ⊥ = cc in b)
reads n k (Barriers x) g is cycle told e = absurd (let b : ⊥ = cc in b)
reads n k (Emptying x) g is cycle told e = absurd (let b : ⊥ = cc in b)
reads n k Polling g is cycle told e = absurd (let b : ⊥ = cc in b)
reads n k (Choosing x) g is cycle told e = chooses k x g is.1 cycle told e
reads n k (Noticing x) g is cycle told e = notices n k x g is cycle told e
reads n k Ended g is cycle told e = absurd (let b : ⊥ = cc in b)

-- the last seat is the collector's
pub record HasCollector (n : Numbers) (w : Facts) (s : JointScene) (taker places : ℕ → ℕ) : Type 0 where
  pub c : Collecting
  pub sits : CollectorSits n w s taker places (collector_seat n) c

pub last_seat : (n : Numbers) (w : Facts) (s : JointScene) (seats : List Seat) → (a : AllSit n w s seats)
    → Seat → HasCollector n w s a.taker a.places
last_seat n w s seats a first =
    by (get_or seats (collector_seat n) first)
    (a.each (collector_seat n) (get_or seats (collector_seat n) first)
    (slice_get-get_or seats (collector_seat n) first (let count = a.count in omega arith)))
  where
    by : (x : Seat) → SeatSits n w s a.taker a.places (collector_seat n) x → HasCollector n w s a.taker a.places
    by (Mutator d) sits = absurd (let low = sits.keeps.in_range in omega arith)
    by (Server v) sits = absurd (let low = sits.in_range in let is = sits.number in omega arith)
    by (Collector c) sits = record { c = c; sits = sits }

pub readers_match : (n : Numbers) (w : Facts) (s : JointScene) (seats : List Seat) → AllSit n w s seats → Seat
    → ReadersMatch s
readers_match n w s seats a first seat cycle told pending is =
    let h = last_seat n w s seats a first in
    let o = a.joint.order in
    let mine : slice_get s.facets.phases (collector_seat n) ≡ Some (collecting (part_of n h.c) (names_of h.c)) =
    h.sits.here.phase in
    let one : seat ≡ collector_seat n =
    o.seated.collectors seat (collector_seat n)
    (get_map role_of s.facets.phases seat (collecting (evacuating cycle told) pending) is)
    (get_map role_of s.facets.phases (collector_seat n) (collecting (part_of n h.c) (names_of h.c)) mine) in
    let same : collecting (part_of n h.c) (names_of h.c) ≡ collecting (evacuating cycle told) pending =
    same_Some (collecting (part_of n h.c) (names_of h.c)) (collecting (evacuating cycle told) pending)
    (sym mine ∙ ap (slice_get s.facets.phases) (sym one) ∙ is) in
    reads n h.c.kept h.c.stage s.facets.names.collector h.sits.gathers cycle told (ap part_in same)
  where
    part_in : PhaseFacet → Part
    part_in (collecting part names) = part
    part_in (mutating admission) = idle 0
    part_in (serving server stage ended laden) = idle 0
