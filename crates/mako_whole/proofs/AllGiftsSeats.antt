-- Gifts at the start, and past each step of each seat.
use Rattle.std.proofs.Common.{◌≡◌, ◌≢◌, ℕ, ◌+◌, ◌%◌, ◌<◌, ◌≤◌, ◌==◌, Bool, true, false, nat_lt, if◌then◌else◌, List, []}
use Rattle.std.proofs.Common.{length, slice_get, Some, sym, ap, subst, refl, ◌∙◌, arith}
use Rattle.mako_shape.specs.declared.numbers.Numbers.{Numbers}
use Rattle.mako_step.specs.Acts.{finds}
use Rattle.mako_model.specs.Legal.{Facts}
use Rattle.mako_gate.specs.Changes.{tablets_of}
use Rattle.mako_gate.specs.Sums.{counted}
use Rattle.mako_gate.proofs.Numbers.{count_at}
use Rattle.mako_layout.specs.Facets.{Gift, Choice, rests_with, given_of}
use Rattle.mako_layout.specs.Layouts.{regions_of}
use Rattle.mako_joint.specs.Joints.{JointScene}
use Rattle.mako_server.specs.declared.stage.ServerStage.{ServerStage}
use Rattle.mako_server.specs.declared.stage.ServerStage.TheVariants.{Turning, Tracing, Evacuating, Ended as ServerEnded}
use Rattle.mako_script.specs.Scripts.{ScriptView}
use Rattle.mako_pause.specs.Collecting.{Collecting, Holdings, at, running, next_of, chosen_tablet}
use Rattle.mako_pause.specs.Opening as collectors
use Rattle.mako_pause.specs.Opening.{opening_role}
use Rattle.mako_pause.specs.Regions.{is_spare}
use Rattle.mako_pause.specs.declared.regions.Role.{Role}
use Rattle.mako_pause.specs.declared.regions.Role.TheVariants.{Home, Spare}
use Rattle.mako_pause.specs.declared.stage.Gift.{Gift as Exchange}
use Rattle.mako_pause.specs.declared.stage.ChoiceStage.{ChoiceStage}
use Rattle.mako_pause.specs.declared.stage.ChoiceStage.TheVariants.{LoadingLive, LoadingTop, LoadingHome}
use Rattle.mako_pause.specs.declared.stage.ChoiceStage.TheVariants.{StoringLeaving, StoringHome, StoringTop}
use Rattle.mako_pause.specs.declared.stage.ChoiceStage.TheVariants.{StoringEvac, Opening as Reopening}
use Rattle.mako_pause.specs.declared.stage.NoticeStage.TheVariants.{StoringIdle}
use Rattle.mako_pause.specs.declared.stage.PauseStage.TheVariants.{StoringTrace}
use Rattle.mako_pause.specs.declared.stage.CollectStage.{CollectStage}
use Rattle.mako_pause.specs.declared.stage.CollectStage.TheVariants.{Idle, Pausing, Forwarding, Barriers, Emptying}
use Rattle.mako_pause.specs.declared.stage.CollectStage.TheVariants.{Polling, Choosing, Noticing, Ended}
use Rattle.mako_cycles.proofs.Roles.{opening_at}
use Rattle.mako_seat.specs.declared.seat.Seat.{Seat}
use Rattle.mako_seat.specs.declared.seat.Seat.TheVariants.{Mutator, Server, Collector}
use Rattle.mako_state.proofs.OpeningSeats.{IsOpeningSeat, of_mutator, of_server, of_collector, seat_is}
use Rattle.mako_clearing.specs.Hearing.{noticing, hears_next}
use Rattle.mako_collecting.specs.Choosing.{choice_at, choice_next}
use Rattle.mako_collecting.specs.Laws.{IsUpToEvac}
use Rattle.mako_collecting.specs.Roles.{ChoiceOf, role_of, roles_after}
use Rattle.mako_collecting.specs.Steps.{collector_next, choice_begun}
use Rattle.mako_collecting.proofs.LeavesKept.{steps_leave_kept}
use Rattle.mako_collecting.proofs.Roles.{none_given}
use Rattle.mako_sitting.specs.Seats.{AllSit, CollectorSits}
use Rattle.mako_tracing.specs.Laws.{server_next}
use Rattle.mako_sitting_mutators.specs.MutatorSteps.{mutator_next}
use Rattle.mako_sitting_servers.specs.ServerSteps.{stage_after}
use Rattle.mako_sitting_collector.specs.CollectorSnaps.{storing}
use Rattle.mako_sitting.specs.Openings.{opening_scene}
use Rattle.mako_whole.specs.AllGifts.{given_at, untold_in, RolesAreNext, GivesNone, NoticesFindGifts, OpeningsGiveNone}
use Rattle.mako_whole.specs.AllGifts.{MutatorsKeepGifts, ServersKeepGifts, StepsKeepGifts, SnapshotsKeepGifts}
use Rattle.mako_whole.specs.AllGifts.{PollsKeepGifts, ChoicesKeepGifts, HearingKeepsGifts, FinishKeepsGifts}
use Rattle.mako_whole.proofs.AllGifts.{none_at, spare_soon, same_roles, others_keep, collector_keeps}
use Rattle.mako_whole.proofs.AllGiftsCalm.{steps_are_calm}
use Rattle.mako_whole.proofs.AllGiftsChoice.{one_more, told, soon_next}
use Rattle.mako_sitting_collector.proofs.CollectorHeard.{hearing_leaves}

pub notices_find_gifts : NoticesFindGifts
notices_find_gifts n w s seats i k stage gifts here r low =
    let a = (gifts i (noticing k stage) here).next r low in omega arith

-- ---- the start

role_soon : (b : Bool) (since : ℕ) → (if b then Home else Spare 0) ≡ Spare since → since ≤ 1
role_soon true since e = absurd cc
role_soon false since e = let same : since ≡ 0 = cc in omega arith

opening_gives_none : (s : ScriptView) → RolesAreNext s.numbers (opening_scene s).facets.choice (collectors.opening s)
opening_gives_none s = record {
  soon = λ r since low is.
      let a = soon_at r since (sym (opening_at s.numbers (regions_of s.numbers) r low) ∙ is) in omega arith;
  next = λ r low.
      let a : counted (is_spare 2 (opening_role s.numbers r)) 1 ≡ counted (is_spare 1 (opening_role s.numbers r)) 1 =
      ap (λ (b : Bool). counted b 1) (spare_soon (opening_role s.numbers r) 1 (λ since is.
      role_soon (nat_lt (r % (s.numbers.tablets + s.numbers.spare)) s.numbers.tablets) since is)) in
      let e = opening_at s.numbers (regions_of s.numbers) r low in
      let b = ap (λ (x : Role). counted (is_spare 2 x) 1) e in
      let c = ap (λ (x : Role). counted (is_spare 1 x) 1) e in
      let d = none_at s.numbers (opening_scene s).facets.choice r refl in omega arith;
}
  where
    soon_at : (r since : ℕ) → opening_role s.numbers r ≡ Spare since → since ≤ 1
    soon_at r since is =
        role_soon (nat_lt (r % (s.numbers.tablets + s.numbers.spare)) s.numbers.tablets) since is

opening_at_seat : (s : ScriptView) (i : ℕ) (v : Seat) (c : Collecting) → IsOpeningSeat s i v → v ≡ Collector c
    → RolesAreNext s.numbers (opening_scene s).facets.choice c
opening_at_seat s _ _ c (of_mutator m p at) e = absurd cc
opening_at_seat s _ _ c (of_server i j f l) e = absurd cc
opening_at_seat s _ _ c (of_collector i f) e =
    let same : collectors.opening s ≡ c = cc in
    subst (RolesAreNext s.numbers (opening_scene s).facets.choice) same (opening_gives_none s)

pub openings_give_none : OpeningsGiveNone
openings_give_none s proper i c here =
    opening_at_seat s i (Collector c) c (seat_is s i (Collector c) here) refl

-- ---- other seats

pub mutators_keep_gifts : MutatorsKeepGifts
mutators_keep_gifts n s seats m d gifts =
    others_keep n s.facets.choice seats m (Mutator (mutator_next s d)) tt gifts

pub servers_keep_gifts : ServersKeepGifts
servers_keep_gifts n s seats i v sent gifts j c there =
    subst (λ q. RolesAreNext n q c) (sym (same v.stage))
    (others_keep n s.facets.choice seats i (Server (server_next v s.words)) tt gifts j c there)
  where
    same : (stage : ServerStage) → (stage_after n s i v sent stage).facets.choice ≡ s.facets.choice
    same Turning = refl
    same Tracing = refl
    same (Evacuating e) = refl
    same ServerEnded = refl

-- ---- steps of the collector that give nothing

quiet_choice : (stage : ChoiceStage) → GivesNone (Choosing stage) → (r : ℕ) → untold_in (Choosing stage) r ≡ 0
quiet_choice (LoadingLive q place) is r = refl
quiet_choice (LoadingTop q place number) is r = refl
quiet_choice (LoadingHome i) is r = refl
quiet_choice (StoringLeaving i gift) is r = absurd is
quiet_choice (StoringHome i gift) is r = absurd is
quiet_choice (StoringTop i) is r = refl
quiet_choice StoringEvac is r = refl
quiet_choice (Reopening m) is r = refl

quiet : (stage : CollectStage) → GivesNone stage → (r : ℕ) → untold_in stage r ≡ 0
quiet (Idle stage) is r = refl
quiet (Pausing stage) is r = refl
quiet (Forwarding stage) is r = refl
quiet (Barriers stage) is r = refl
quiet (Emptying q) is r = refl
quiet Polling is r = refl
quiet (Choosing stage) is r = quiet_choice stage is r
quiet (Noticing stage) is r = refl
quiet Ended is r = refl

same_choice_roles : (k : Holdings) (stage : ChoiceStage) → GivesNone (Choosing stage)
    → roles_after k (Choosing stage) ≡ k.roles
same_choice_roles k (LoadingLive q place) is = refl
same_choice_roles k (LoadingTop q place number) is = refl
same_choice_roles k (LoadingHome i) is = refl
same_choice_roles k (StoringLeaving i gift) is = absurd is
same_choice_roles k (StoringHome i gift) is = absurd is
same_choice_roles k (StoringTop i) is = refl
same_choice_roles k StoringEvac is = refl
same_choice_roles k (Reopening m) is = refl

-- roles and cycle stay
record Stays (k : Holdings) (c : Collecting) : Type 0 where
  roles : c.kept.roles ≡ k.roles
  cycle : c.kept.cycle ≡ k.cycle

stays_at : (k : Holdings) (stage : CollectStage) (words : List ℕ) → IsUpToEvac stage
    → roles_after k stage ≡ k.roles → Stays k (collector_next (at k stage) words)
stays_at k stage words up roles =
    let l = steps_leave_kept k stage words up in record { roles = l.roles_are ∙ roles; cycle = l.cycle }

stays : (k : Holdings) (stage : CollectStage) (words : List ℕ) → GivesNone stage
    → Stays k (collector_next (at k stage) words)
stays k (Idle stage) words is = stays_at k (Idle stage) words tt refl
stays k (Pausing stage) words is = stays_at k (Pausing stage) words tt refl
stays k (Forwarding stage) words is = stays_at k (Forwarding stage) words tt refl
stays k (Barriers stage) words is = stays_at k (Barriers stage) words tt refl
stays k (Emptying q) words is = stays_at k (Emptying q) words tt refl
stays k Polling words is = stays_at k Polling words tt refl
stays k (Choosing stage) words is = stays_at k (Choosing stage) words tt (same_choice_roles k stage is)
stays k (Noticing stage) words is = absurd is
stays k Ended words is = record { roles = refl; cycle = refl }

calm_step : (n : Numbers) (choice later : Choice) (k : Holdings) (stage : CollectStage) (words : List ℕ)
    → GivesNone stage → RolesAreNext n choice (at k stage) → given_of later ≡ given_of choice
    → RolesAreNext n later (collector_next (at k stage) words)
calm_step n choice later k stage words is x given =
    let same = stays k stage words is in
    same_roles n choice later (at k stage) (collector_next (at k stage) words) x same.roles same.cycle
    (λ r. steps_are_calm k stage words is r ∙ sym (quiet stage is r)) given

pub steps_keep_gifts : StepsKeepGifts
steps_keep_gifts n s seats i k stage is gifts here =
    collector_keeps n s.facets.choice seats i (collector_next (at k stage) s.words)
    (calm_step n s.facets.choice s.facets.choice k stage s.words is (gifts i (at k stage) here) refl)
    (λ j c apart there. gifts j c there)

pub snapshots_keep_gifts : SnapshotsKeepGifts
snapshots_keep_gifts n s seats i k gifts here =
    collector_keeps n s.facets.choice seats i (collector_next (storing k) s.words)
    (calm_step n s.facets.choice s.facets.choice k (Pausing StoringTrace) s.words tt (gifts i (storing k) here) refl)
    (λ j c apart there. gifts j c there)

-- ---- the one collector

no_other : (n : Numbers) (w : Facts) (s : JointScene) (seats : List Seat) (i j : ℕ) (c d : Collecting)
    → AllSit n w s seats → slice_get seats i ≡ Some (Collector c) → j ≢ i → slice_get seats j ≡ Some (Collector d) → ⊥
no_other n w s seats i j c d all here apart there =
    apart ((all.each j (Collector d) there).number ∙ sym (all.each i (Collector c) here).number)

-- ---- the poll

begun_none : (stage : CollectStage) (choice : Choice) → given_of choice ≡ []
    → given_of (choice_begun stage choice) ≡ given_of choice
begun_none (Idle stage) choice none = refl
begun_none (Pausing stage) choice none = refl
begun_none (Forwarding stage) choice none = refl
begun_none (Barriers stage) choice none = refl
begun_none (Emptying q) choice none = refl
begun_none Polling choice none = refl
begun_none (Choosing stage) choice none = sym none
begun_none (Noticing stage) choice none = refl
begun_none Ended choice none = refl

pub polls_keep_gifts : PollsKeepGifts
polls_keep_gifts n w s seats i k all gifts here =
    let sits : CollectorSits n w s all.taker all.places i (at k Polling) = all.each i (Collector (at k Polling)) here in
    let next = collector_next (at k Polling) s.words in
    collector_keeps n (choice_begun next.stage s.facets.choice) seats i next
    (calm_step n s.facets.choice (choice_begun next.stage s.facets.choice) k Polling s.words tt
    (gifts i (at k Polling) here) (begun_none next.stage s.facets.choice (ap given_of sits.choice.1)))
    (λ j c apart there. absurd (no_other n w s seats i j (at k Polling) c all here apart there))

-- ---- notices

pub hearing_keeps_gifts : HearingKeepsGifts
hearing_keeps_gifts n s seats i k after stage to words server left is gifts here goes =
    let hears = hearing_leaves k stage is (finds (next_of (noticing k stage)) s.words) in
    collector_keeps n s.facets.choice seats i (noticing after to)
    (same_roles n s.facets.choice s.facets.choice (noticing k stage) (noticing after to)
    (gifts i (noticing k stage) here)
    (ap (λ (c : Collecting). c.kept.roles) (sym goes) ∙ ap (λ (h : Holdings). h.roles) hears.same)
    (ap (λ (c : Collecting). c.kept.cycle) (sym goes) ∙ ap (λ (h : Holdings). h.cycle) hears.same) (λ r. refl) refl)
    (λ j c apart there. gifts j c there)

pub finish_keeps_gifts : FinishKeepsGifts
finish_keeps_gifts n w s seats i k words spare gathers all gifts here =
    collector_keeps n (rests_with spare) seats i (hears_next k StoringIdle s.words) finished
    (λ j c apart there. absurd (no_other n w s seats i j (noticing k StoringIdle) c all here apart there))
  where
    were : RolesAreNext n s.facets.choice (noticing k StoringIdle)
    were = gifts i (noticing k StoringIdle) here

    finished : RolesAreNext n (rests_with spare) (hears_next k StoringIdle s.words)
    finished = record {
      soon = λ r since low is. let a = were.soon r since low is in omega arith;
      next = λ r low.
          let a = ap (λ (b : Bool). counted b 1)
          (spare_soon _ (running k + 1) (λ since is. were.soon r since low is)) in
          let b = none_at n (rests_with spare) r refl in omega arith;
    }

-- ---- the choice

given_at_stage : (k : Holdings) (stage : ChoiceStage) (given : List Gift) (spare : List ℕ)
    → given_of (choice_at k stage given spare) ≡ given
given_at_stage k (LoadingLive q place) given spare = refl
given_at_stage k (LoadingTop q place number) given spare = refl
given_at_stage k (LoadingHome i) given spare = refl
given_at_stage k (StoringLeaving i gift) given spare = refl
given_at_stage k (StoringHome i gift) given spare = refl
given_at_stage k (StoringTop i) given spare = refl
given_at_stage k StoringEvac given spare = refl
given_at_stage k (Reopening m) given spare = refl

module _ (n : Numbers) (w : Facts) (s : JointScene) (seats : List Seat) (i : ℕ) (k : Holdings) (given : List Gift)
    (spare : List ℕ) (all : AllSit n w s seats) where
  abbrev Was : ChoiceStage → Type 0
  Was stage = RolesAreNext n s.facets.choice (at k (Choosing stage))

  abbrev Next : ChoiceStage → Type 0
  Next stage = RolesAreNext n (choice_next k stage given spare) (collector_next (at k (Choosing stage)) s.words)

  abbrev At : ChoiceStage → Type 0
  At stage = slice_get seats i ≡ Some (Collector (at k (Choosing stage)))

  abbrev Of : ChoiceStage → Type 0
  Of stage = ChoiceOf n s.words s.facets.choice k (Choosing stage) given spare

  sits : (stage : ChoiceStage) → At stage → CollectorSits n w s all.taker all.places i (at k (Choosing stage))
  sits stage here = all.each i (Collector (at k (Choosing stage))) here

  calm : (stage : ChoiceStage) → GivesNone (Choosing stage) → given_of (choice_next k stage given spare) ≡ given
      → Of stage → Was stage → Next stage
  calm stage is next o x =
      calm_step n s.facets.choice (choice_next k stage given spare) k (Choosing stage) s.words is x
      (next ∙ sym (given_at_stage k stage given spare) ∙ sym (ap given_of o.begun))

  -- it gives up its region
  leaves : (l : ℕ) (gift : Exchange) → At (StoringLeaving l gift) → Of (StoringLeaving l gift)
      → Was (StoringLeaving l gift) → Next (StoringLeaving l gift)
  leaves l gift here o x =
      let own = sits (StoringLeaving l gift) here in
      let region : gift.region < regions_of n =
      subst (λ m. gift.region < regions_of m) own.here.shape own.keeps.stage.1.2 in
      let inside : chosen_tablet k l < tablets_of n =
      subst (λ m. chosen_tablet k l < tablets_of m) own.here.shape (own.known.chosen l 0 own.keeps.stage.1.0) in
      let none = none_given n s k l gift given spare o own.found own.keeps.stage.1.0 region in record {
        soon = x.soon;
        next = λ r low.
            let a = x.next r low in
            let b = one_more n (chosen_tablet k l) gift.former given r inside none in
            let c = ap (λ (q : Choice). given_at n q r) o.begun in omega arith;
      }

  -- and gets another
  homed : (l : ℕ) (gift : Exchange) → At (StoringHome l gift) → Of (StoringHome l gift)
      → Was (StoringHome l gift) → Next (StoringHome l gift)
  homed l gift here o x =
      let own = sits (StoringHome l gift) here in
      let count : length k.roles ≡ regions_of n = own.known.roles ∙ ap regions_of own.here.shape in
      let region : gift.region < regions_of n =
      subst (λ m. gift.region < regions_of m) own.here.shape own.keeps.stage.1.2 in
      let former : gift.former < regions_of n =
      subst (λ m. gift.former < regions_of m) own.here.shape own.keeps.stage.1.1 in
      let spare_is = o.spares gift.region region in
      let here_is = count_at gift.region gift.region 1 refl in
      let role = all.joint.layout.copy.role gift.former former in
      let same = ap (λ (q : Choice). given_at n q gift.former) o.begun in
      let given_here : ℕ → ℕ = given_at n (choice_at k (StoringHome l gift) given spare) in
      let before : (r : ℕ) → r < length k.roles
      → counted (is_spare (running k + 1) (role_of k r)) 1 + counted (gift.former == r) 1
      ≡ counted (is_spare (running k) (role_of k r)) 1 + given_here r =
      λ r few. (let a = x.next r (omega arith) in
      let b = ap (λ (q : Choice). given_at n q r) o.begun in omega arith) in record {
        soon = λ r since low is.
            soon_next k.roles (running k) gift.region gift.former given_here (omega arith) (omega arith) before
            (omega arith) (omega arith) (λ q later few q_is. x.soon q later (omega arith) q_is) r since (omega arith)
            is;
        next = λ r low.
            told k.roles (running k) gift.region gift.former given_here (omega arith) (omega arith) before
            (omega arith) (omega arith) r (omega arith);
      }

  kept : (stage : ChoiceStage) → At stage → Of stage → Was stage → Next stage
  kept (LoadingLive q place) here o x = calm (LoadingLive q place) tt refl o x
  kept (LoadingTop q place number) here o x = calm (LoadingTop q place number) tt refl o x
  kept (LoadingHome l) here o x = calm (LoadingHome l) tt refl o x
  kept (StoringLeaving l gift) here o x = leaves l gift here o x
  kept (StoringHome l gift) here o x = homed l gift here o x
  kept (StoringTop l) here o x = calm (StoringTop l) tt refl o x
  kept StoringEvac here o x = calm StoringEvac tt refl o x
  kept (Reopening m) here o x = calm (Reopening m) tt refl o x

pub choices_keep_gifts : ChoicesKeepGifts
choices_keep_gifts n w s seats i k stage given spare all gifts here o =
    collector_keeps n (choice_next k stage given spare) seats i
    (collector_next (at k (Choosing stage)) s.words)
    (kept n w s seats i k given spare all stage here o (gifts i (at k (Choosing stage)) here))
    (λ j c apart there. absurd (no_other n w s seats i j (at k (Choosing stage)) c all here apart there))
