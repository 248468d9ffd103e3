-- The collector polls the servers, and is told that tracing is complete.
use Rattle.std.proofs.Common.{◌≡◌, ℕ, ◌<◌, ⊎_elim, Bool, true, false, List, [], ◌∷◌, set, slice_get, Some, sym, ap}
use Rattle.std.proofs.Common.{subst, refl, ◌∙◌, arith}
use Rattle.mako_words.specs.Words.{all_but}
use Rattle.mako_words.specs.declared.name.Name.{Name}
use Rattle.mako_shape.specs.declared.numbers.Numbers.{Numbers}
use Rattle.mako_shape.specs.Places.{Place, flags, barrier, work, ghost, index, Within, word_at}
use Rattle.mako_shape.proofs.PlaceLaws.{word_other}
use Rattle.mako_gate.specs.GateActions as gate
use Rattle.mako_gate.specs.Standings.{rests, shutter_at}
use Rattle.mako_step.specs.Acts.{after_op, words_stepped}
use Rattle.mako_step.specs.declared.act.Op.TheVariants.{And}
use Rattle.mako_step.specs.Machines.{IsAct}
use Rattle.mako_model.specs.Legal.{Facts}
use Rattle.mako_names.specs.Uses.{IsUseSlot}
use Rattle.mako_ring.specs.Facets as ring
use Rattle.mako_ring.specs.Facets.{Scene}
use Rattle.mako_ring.specs.Polling.{PollingStands, IsQuietScene, MayTake, DoingStands}
use Rattle.mako_ring.specs.TraceFacets.{is_filled}
use Rattle.mako_ring.specs.declared.tracing.Source.{Source}
use Rattle.mako_ring.specs.declared.tracing.Source.TheVariants.{Collector, Server}
use Rattle.mako_poll.specs.Polls as poll
use Rattle.mako_poll.specs.Steps.{CollectorStep, Collected, Leaves}
use Rattle.mako_poll.specs.Worlds.{away, polls, collecting_of}
use Rattle.mako_poll.specs.declared.poller.PollStage.{PollStage}
use Rattle.mako_poll.specs.declared.poller.PollStage.TheVariants.{Asking, Reading, Ended as Polled}
use Rattle.mako_poll.specs.declared.poller.Polled.TheVariants.{Told, NotYet}
use Rattle.mako_poll.proofs.AllSteps.{steps_hold, told_is_quiet}
use Rattle.mako_poll.proofs.Asking.{poll_goes}
use Rattle.mako_layout.specs.Facets.{Choice, chooses, settled, spare_of}
use Rattle.mako_layout.specs.Evacuations.{Evacuation}
use Rattle.mako_layout.specs.StepParts.{collector_seat}
use Rattle.mako_layout.specs.Steps.{begins_choice}
use Rattle.mako_layout.proofs.EachStep.{each_step_keeps}
use Rattle.mako_phases.specs.Facets as phases
use Rattle.mako_phases.specs.Facets.{serving, ServerStage}
use Rattle.mako_phases.specs.Steps as phase_steps
use Rattle.mako_phases.specs.Steps.{PhaseOrderIn}
use Rattle.mako_phases.proofs.AllPhases.{phase_kept}
use Rattle.mako_joint.specs.Joints.{JointScene, layout_in, polls_in, phases_in, ChoiceFits, Joint}
use Rattle.mako_joint.proofs.Pauses.{gates_drain}
use Rattle.mako_pause.specs.Collecting.{Holdings, Collecting, running, polled_at}
use Rattle.mako_pause.specs.declared.stage.Pause.TheVariants.{Choice as ForChoice}
use Rattle.mako_pause.specs.declared.stage.PauseStage.TheVariants.{Shutting}
use Rattle.mako_pause.specs.declared.stage.BarrierStage.TheVariants.{Loading}
use Rattle.mako_pause.specs.declared.stage.ChoiceStage.TheVariants.{LoadingLive}
use Rattle.mako_pause.specs.declared.stage.CollectStage.TheVariants.{Pausing, Barriers, Polling, Choosing}
use Rattle.mako_collecting.specs.Facets.{part_of, round_watch, gate_facet, ring_view, ring_facet, IsCollector}
use Rattle.mako_collecting.specs.Steps.{with_collector, choice_begun, polled}
use Rattle.mako_collecting.specs.Ties.{TakesWord, ServersAreTied, BarriersAreEmpty}
use Rattle.mako_collecting.proofs.Joined.{joined, drains_none}
use Rattle.mako_collecting.proofs.Stays.{tracks_as, layout_as, order_as, names_else, tracks_else, layout_else}
use Rattle.mako_collecting.proofs.Stays.{order_else}
use Rattle.mako_collecting.proofs.Moves.{owes_none, fits_now, gate_moves, same_words}
use Rattle.mako_collecting.proofs.Idling.{either_way, choice_rests}
use Rattle.mako_collecting.proofs.Emptying.{GoesOn}

-- ---- what a poll tells

no_names : (names : List Name) → is_filled names ≡ false → names ≡ []
no_names [] e = refl
no_names (x ∷ names) e = absurd cc

no_both : (b : Bool) → b ≡ false → b ≡ true → ⊥
no_both b e f = cc

module _ (n : Numbers) (x : Scene) (stands : PollingStands n x) (quiet : IsQuietScene n x) (server : ℕ)
    (low : server < n.servers) where
  taken_none : (source : Source) (word : ℕ) → MayTake n x.word server (x.server server) source word → ⊥
  taken_none Collector word may =
      may.filled (sym may.found
      ∙ quiet.works server (x.server server).work_at low (stands.works server low).at_below)
  taken_none (Server a) word may =
      may.filled (sym may.found
      ∙ quiet.ghosts a server ((x.server server).ghost_at a) may.is_source.0 low
      (stands.ghosts a server may.is_source.0 low may.is_source.1).at_below)

  takes_none : (doing : ring.Doing) → DoingStands n x.word server (x.server server) doing → TakesWord doing → ⊥
  takes_none (ring.taking source word) may takes = taken_none source word may
  takes_none (ring.clearing source word) may takes = taken_none source word may
  takes_none ring.resting may takes = takes
  takes_none (ring.sending r) may takes = takes
  takes_none (ring.storing r) may takes = takes

-- ---- a step of the poll

module _ (w : Facts) (kept : Holdings) (stage : PollStage) (s : JointScene) (j : Joint kept.shape w s)
    (at : IsCollector kept.shape s
    (record { kept = record kept { poll = record { shape = kept.shape; stage = stage } }; stage = Polling }))
    (i : ℕ) (low : i < kept.shape.servers) (v : ℕ) (next : PollStage) where
  abbrev n : Numbers
  n = kept.shape

  abbrev old : Collecting
  old = record { kept = record kept { poll = record { shape = n; stage = stage } }; stage = Polling }

  abbrev k : Holdings
  k = record kept { poll = record { shape = n; stage = next } }

  abbrev us : List ℕ
  us = set s.words (index n (flags i)) v

  abbrev moved : JointScene
  moved = record s { words = us }

  -- rings and polls, with the poll at a stage
  abbrev Stands : PollStage → Type 0
  Stands q = PollingStands n (record (polls_in n moved) {
    collector = collecting_of n (record (ring_view n old) {
      stage = polls q;
    });
  })

  -- it goes on with tracing
  rounds : (c : Collecting) → GoesOn n kept c → PollingStands n (polls_in n (with_collector n s us s.facets.choice c))
      → Joint n w (with_collector n s us s.facets.choice c)
  rounds c is stands =
      joined n w s us s.facets.choice old c j at
      (record {
        names = names_else n w s j (flags i) v low (λ x. x);
        tracks = tracks_as n w s old c at us s.facets.choice is.names
            (tracks_else n w s j (flags i) v low (λ x. x) (λ e. cc));
        layout = layout_as n w s old c at us s.facets.choice is.watch (layout_else n w s j (flags i) v low tt tt);
        polls = stands;
        order = order_as n w s old c at us s.facets.choice is.part is.names
            (order_else n w s j (flags i) v low (λ x. x));
        choice_fits = subst (λ q. ChoiceFits q s.facets.choice) (sym is.part) (fits_now n w s j old at);
      })

  -- ---- it is told
  left : (c : Collecting) → ring_facet n c ≡ collecting_of n (record (ring_view n old) { stage = away })
      → Stands (Polled Told) → PollingStands n (record (polls_in n moved) { collector = ring_facet n c })
  left c is stands =
      steps_hold n (record (polls_in n moved) {
        collector = collecting_of n (record (ring_view n old) { stage = polls (Polled Told) });
      }) (record (polls_in n moved) { collector = ring_facet n c }) stands
      (Collected (ring_facet n c) (record { here = refl; servers = λ x l. refl })
      (subst (λ q. CollectorStep n (λ p. word_at n us p) (λ p. word_at n us p)
      (collecting_of n (record (ring_view n old) { stage = polls (Polled Told) })) q) (sym is)
      (Leaves (λ p polled_ l. refl) (λ r l. refl) refl)))

  -- with the gates open, the second pause begins
  abbrev again : Collecting
  again = record { kept = k; stage = Pausing (Shutting ForChoice 0) }

  told_open : kept.gates_shut ≡ false → Stands (Polled Told) → Joint n w (with_collector n s us s.facets.choice again)
  told_open open_ stands =
      joined n w s us s.facets.choice old again j at
      (record {
        names = names_else n w s j (flags i) v low (λ x. x);
        tracks = tracks_as n w s old again at us s.facets.choice refl
            (tracks_else n w s j (flags i) v low (λ x. x) (λ e. cc));
        layout = gate_moves n w s j (layout_in n w moved) (layout_else n w s j (flags i) v low tt tt) rests
            (gate_facet n again)
            (at.gate ∙ ap (λ (b : Bool). Some (shutter_at (collector_seat n) (round_watch n b))) open_) at.work
            (λ q. word_at n us q)
            (gate.pause_begins (collector_seat n) (collector_seat n) 0 (record {
              tablets = λ t l. refl;
              owns = λ m l. refl;
              turns = λ t l. refl;
            })) (same_words n (λ q. word_at n us q)) (drains_none n again) (owes_none n w s j old at tt);
        polls = left again refl stands;
        order = order_as n w s old again at us s.facets.choice refl refl
            (order_else n w s j (flags i) v low (λ x. x));
        choice_fits = fits_now n w s j old at;
      })

  -- with the gates shut, the choice
  abbrev chooser : Collecting
  chooser = record { kept = record k { used = []; chosen = [] }; stage = Choosing (LoadingLive 0 0) }

  abbrev begun : Choice
  begun = chooses settled [] (spare_of s.facets.choice)

  module _ (shut : kept.gates_shut ≡ true) (stands : Stands (Polled Told))
      (ties : ServersAreTied s.facets.phases s.facets.servers)
      (barriers : BarriersAreEmpty n s.words) where
    abbrev scene : Scene
    scene = record (polls_in n moved) {
      collector = collecting_of n (record (ring_view n old) { stage = polls (Polled Told) });
    }

    quiet : IsQuietScene n scene
    quiet = told_is_quiet n scene n.servers stands refl (omega arith)

    none : kept.pending ≡ []
    none = no_names kept.pending quiet.pending

    slots : (p : Place) → IsUseSlot p → Within n p → word_at n us p ≡ 0
    slots (barrier m slot) is within =
        word_other n s.words (flags i) (barrier m slot) v low within (λ e. cc) ∙ barriers m slot within
    slots (work r slot) is within = quiet.works r slot within.0 within.1
    slots (ghost a b slot) is within = quiet.ghosts a b slot within.0 within.1 within.2
    slots p is within = absurd is

    laden_none : (seat server : ℕ) (part : ServerStage) (ended : ℕ) (laden : Bool)
        → slice_get s.facets.phases seat ≡ Some (serving server part ended laden) → laden ≡ false
    laden_none seat server part ended false here = refl
    laden_none seat server part ended true here =
        let inside = (j.order.each seat (serving server part ended true) here).known in
        absurd (⊎_elim (λ works. no_both (s.facets.servers server).working (quiet.servers server inside) works)
        (λ takes. takes_none n scene stands quiet server inside (s.facets.servers server).doing
        (stands.doing server inside) takes) (ties seat server part ended here))

    told_order : PhaseOrderIn n (phases_in (with_collector n s us begun chooser))
    told_order =
        subst (λ (xs : List Name). PhaseOrderIn n (phase_steps.with_facet (phases_in moved) (collector_seat n)
        (phases.collecting (phases.choosing (running kept) []) xs))) (sym none)
        (phase_kept n (phases_in moved) (phase_steps.with_facet (phases_in moved) (collector_seat n)
        (phases.collecting (phases.choosing (running kept) []) [])) (order_else n w s j (flags i) v low (λ x. x))
        (gates_drain n w s j)
        (phase_steps.Told (collector_seat n) (running kept)
        (at.phase ∙ ap (λ (xs : List Name). Some (phases.collecting (phases.tracing (running kept)) xs)) none) slots
        laden_none refl))

    told_layout : Evacuation n (layout_in n w (record moved { facets = record s.facets { choice = begun } }))
    told_layout =
        let rest = choice_rests (part_of n old) s.facets.choice tt (fits_now n w s j old at) in
        subst (λ (xs : List ℕ). Evacuation n (layout_in n w (record moved {
          facets = record s.facets { choice = chooses settled [] xs };
        }))) (sym (ap spare_of rest.1))
        (each_step_keeps n j.script.shape (layout_in n w moved) (collector_seat n)
        (layout_in n w (record moved { facets = record s.facets { choice = chooses settled [] rest.0 } }))
        (layout_else n w s j (flags i) v low tt tt) (begins_choice rest.0 rest.1))

    told_shut : Joint n w (with_collector n s us begun chooser)
    told_shut =
        joined n w s us begun old chooser j at
        (record {
          names = names_else n w s j (flags i) v low (λ x. x);
          tracks = tracks_as n w s old chooser at us begun refl
              (tracks_else n w s j (flags i) v low (λ x. x) (λ e. cc));
          layout = layout_as n w s old chooser at us begun (ap (round_watch n) (sym shut)) told_layout;
          polls = left chooser refl stands;
          order = told_order;
          choice_fits = tt;
        })

  -- ---- where it comes to
  pub comes_to : (ServersAreTied s.facets.phases s.facets.servers)
      → (kept.gates_shut ≡ true → BarriersAreEmpty n s.words) → (q : PollStage) → next ≡ q → Stands q
      → Joint n w (with_collector n s us (choice_begun (polled_at k q).stage s.facets.choice) (polled_at k q))
  comes_to ties empty (Asking r) e stands =
      rounds (record { kept = k; stage = Polling }) (record { names = refl; part = refl; watch = refl })
      (subst (λ x. PollingStands n (record (polls_in n moved) {
        collector = collecting_of n (record (ring_view n old) { stage = polls x });
      })) (sym e) stands)
  comes_to ties empty (Reading r) e stands =
      rounds (record { kept = k; stage = Polling }) (record { names = refl; part = refl; watch = refl })
      (subst (λ x. PollingStands n (record (polls_in n moved) {
        collector = collecting_of n (record (ring_view n old) { stage = polls x });
      })) (sym e) stands)
  comes_to ties empty (Polled (NotYet r word)) e stands =
      rounds (record { kept = k; stage = Barriers (Loading 0) }) (record { names = refl; part = refl; watch = refl })
      stands
  comes_to ties empty (Polled Told) e stands =
      either_way (λ c. Joint n w (with_collector n s us (choice_begun c.stage s.facets.choice) c)) kept.gates_shut
      chooser again (λ shut. told_shut shut stands ties (empty shut)) (λ open_. told_open open_ stands)

-- ---- the step

module _ (w : Facts) (kept : Holdings) (s : JointScene) (j : Joint kept.shape w s)
    (some : 0 < kept.shape.servers) (ties : ServersAreTied s.facets.phases s.facets.servers)
    (empty : kept.gates_shut ≡ true → BarriersAreEmpty kept.shape s.words) where
  abbrev m : Numbers
  m = kept.shape

  abbrev polling : PollStage → Collecting
  polling stage = record { kept = record kept { poll = record { shape = m; stage = stage } }; stage = Polling }

  before : (stage : PollStage) → IsCollector m s (polling stage)
      → PollingStands m (record (polls_in m s) { collector = ring_facet m (polling stage) })
  before stage at = subst (λ q. PollingStands m (record (polls_in m s) { collector = q })) at.rings j.polls

  pub polls_on : (stage : PollStage) → poll.IsKnown m stage → IsAct (poll.stage_next m stage)
      → IsCollector m s (polling stage) → Joint m w (polled m s (polling stage))
  polls_on (Asking i) known act at =
      let next : PollStage = poll.stage_fed m (Asking i) (word_at m s.words (flags i)) in
      comes_to w kept (Asking i) s j at i known (after_op (And (all_but 4)) (word_at m s.words (flags i))) next ties
      empty next refl
      (poll_goes m s.words (words_stepped (poll.stage_next m (Asking i)) s.words) s.facets.servers
      (ring_view m (polling (Asking i))) some j.names.hold.size (Asking i) known (before (Asking i) at) tt refl).0
  polls_on (Reading i) known act at =
      let next : PollStage = poll.stage_fed m (Reading i) (word_at m s.words (flags i)) in
      comes_to w kept (Reading i) s j at i known (word_at m s.words (flags i)) next ties empty next refl
      (poll_goes m s.words (words_stepped (poll.stage_next m (Reading i)) s.words) s.facets.servers
      (ring_view m (polling (Reading i))) some j.names.hold.size (Reading i) known (before (Reading i) at) tt refl).0
  polls_on (Polled answer) known act at = absurd act
