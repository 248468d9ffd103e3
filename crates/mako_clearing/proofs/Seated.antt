-- The groups put together for a step of a server that evacuates: each is told at the server's seat.
use Rattle.std.proofs.Common.{◌≡◌, ◌≢◌, ℕ, ◌+◌, ◌<◌, ◌≤◌, ◌⊎◌, inl, inr, ⊎_elim, Bool, List, set, slice_get, Some, sym}
use Rattle.std.proofs.Common.{ap, subst, refl, ◌∙◌, arith}
use Rattle.std.proofs.lemmas.Bool.{cases_lt}
use Rattle.std.proofs.lemmas.List.{set-set}
use Rattle.std.proofs.lemmas.Option.{same_Some}
use Rattle.mako_words.specs.declared.name.Name.{Name}
use Rattle.mako_words.specs.declared.phase_word.PhaseWord.TheVariants.{Evac}
use Rattle.mako_shape.specs.declared.numbers.Numbers.{Numbers}
use Rattle.mako_shape.specs.Places.{word_at}
use Rattle.mako_gate.specs.Standings.{GateFacet, drained_by, shutter_at}
use Rattle.mako_model.specs.Legal.{Facts, state_of}
use Rattle.mako_model.specs.Starved.{words_made}
use Rattle.mako_model.proofs.Lists.{get_set_same, get_set_other, get_set_cases}
use Rattle.mako_names.specs.Going.{NamesHold}
use Rattle.mako_names.specs.Tables.{phase_of}
use Rattle.mako_ring.specs.Polling.{PollingStands}
use Rattle.mako_shades.proofs.Lists.{set_again}
use Rattle.mako_record.specs.declared.copier.CopyStage.{CopyStage}
use Rattle.mako_record.specs.declared.copier.CopyStage.TheVariants as copy
use Rattle.mako_words.specs.declared.entry_word.EntryWord.{EntryWord}
use Rattle.mako_evac.specs.declared.owner.Owner.{Owner}
use Rattle.mako_evac.specs.declared.stage.EvacStage.{EvacStage}
use Rattle.mako_evac.specs.declared.stage.EvacStage.TheVariants.{Evacuating, Freeing, AwaitingEnd, TellingEnd, Ended}
use Rattle.mako_evac.specs.declared.tablet.TabletStage.TheVariants.{LoadingLeaving, Shutting, Draining, LoadingHome}
use Rattle.mako_evac.specs.declared.tablet.TabletStage.TheVariants.{LoadingEntry, Copying, Clearing, Reopening}
use Rattle.mako_evac.specs.Evacuating.{Evacuation}
use Rattle.mako_layout.specs.Facets.{Work, Choice, rests_with, chooses, has_chosen, debt_of, settled}
use Rattle.mako_layout.specs.Evacuations.{State, Evacuation as Layout, Seat}
use Rattle.mako_layout.specs.Beside.{IsReading}
use Rattle.mako_layout.specs.Steps.{Step}
use Rattle.mako_layout.specs.StepParts.{at_gate, at_work}
use Rattle.mako_layout.proofs.EachStep.{each_step_keeps}
use Rattle.mako_phases.specs.Facets.{Part, idle, pausing, rooting, tracing, choosing, evacuating, stopped, ServerStage}
use Rattle.mako_phases.specs.Facets.{clearing, freeing, resting, working, gone, PhaseFacet, mutating, serving}
use Rattle.mako_phases.specs.Facets.{collecting, Admission, phase_during}
use Rattle.mako_phases.specs.Orders.{PhaseOrder, ServerFits}
use Rattle.mako_phases.proofs.Says.{part_phase}
use Rattle.mako_state.specs.Works.{copy_work}
use Rattle.mako_joint.specs.Joints.{JointScene, trace_in, layout_in, polls_in, TracksFit, IsClearing, IsOutsideWith}
use Rattle.mako_joint.specs.Joints.{HasDrainedAll, GatesMatch, ChoiceFits, Joint}
use Rattle.mako_joint.proofs.EachKind.{works_held}
use Rattle.mako_clearing.specs.ClearingFacets.{server_seat, stage_phase, stage_ended, stage_watch, stage_work}
use Rattle.mako_clearing.specs.ClearingFacets.{stage_through}
use Rattle.mako_clearing.specs.Clearing.{with_evacuation}

-- ---- of the facets

-- what it holds of a record is no place that it reads by an address
copy_reads_none : (x : ℕ) (e : EntryWord) (home : ℕ) (c : CopyStage) → IsReading (copy_work x e home c) → ⊥
copy_reads_none x e home copy.LoadingTop r = r
copy_reads_none x e home (copy.LoadingHeader offset) r = r
copy_reads_none x e home (copy.StoringHeader offset fields) r = r
copy_reads_none x e home (copy.LoadingField offset fields field) r = r
copy_reads_none x e home (copy.StoringField offset fields field word) r = r
copy_reads_none x e home (copy.StoringEntry offset fields) r = r
copy_reads_none x e home (copy.RaisingTop offset fields) r = r
copy_reads_none x e home (copy.Ended address) r = r

reads_none : (stage : EvacStage) → IsReading (stage_work stage) → ⊥
reads_none (Evacuating t LoadingLeaving) r = r
reads_none (Evacuating t Shutting) r = r
reads_none (Evacuating t Draining) r = r
reads_none (Evacuating t LoadingHome) r = r
reads_none (Evacuating t (LoadingEntry region x)) r = r
reads_none (Evacuating t (Copying region x c)) r = copy_reads_none c.number c.entry c.home c.stage r
reads_none (Evacuating t Clearing) r = r
reads_none (Evacuating t Reopening) r = r
reads_none (Freeing x stage) r = r
reads_none AwaitingEnd r = r
reads_none TellingEnd r = r
reads_none Ended r = r

-- the facet is that of a server at a tablet
abbrev IsAtSome : ServerStage → Type 0
IsAtSome (clearing cycle t at) = Unit {0}
IsAtSome stage = ⊥

-- it has drained a gate only there
drains_there : (n : Numbers) (cycle : ℕ) (stage : EvacStage) (t : ℕ)
    → (drained_by t (stage_watch n stage) ≡ 0) ⊎ IsAtSome (stage_phase cycle stage)
drains_there n cycle (Evacuating u stage) t = inr tt
drains_there n cycle (Freeing x stage) t = inl refl
drains_there n cycle AwaitingEnd t = inl refl
drains_there n cycle TellingEnd t = inl refl
drains_there n cycle Ended t = inl refl

clearing_is : (facets : List PhaseFacet) (seat server ended : ℕ) (laden : Bool) (f : ServerStage) → IsAtSome f
    → slice_get facets seat ≡ Some (serving server f ended laden) → IsClearing facets seat
clearing_is facets seat server ended laden (clearing cycle t at) some is = record {
  server = server;
  cycle = cycle;
  tablet = t;
  at = at;
  ended = ended;
  laden = laden;
  is = is;
}
clearing_is facets seat server ended laden resting some is = absurd some
clearing_is facets seat server ended laden (working cycle) some is = absurd some
clearing_is facets seat server ended laden (freeing cycle) some is = absurd some
clearing_is facets seat server ended laden gone some is = absurd some

-- ---- where the collector is

-- it evacuates the cycle, and has not heard of the server, which has not ended the cycle
pub record IsInEvac (part : Part) (server cycle ended : ℕ) : Type 0 where
  pub told : ℕ
  pub is : part ≡ evacuating cycle told
  pub next : ended + 1 ≡ cycle
  pub ahead : told ≤ server

-- the server is at a tablet, or frees
abbrev pub Works : ServerStage → Type 0
Works (clearing cycle t at) = Unit {0}
Works (freeing cycle) = Unit {0}
Works stage = ⊥

abbrev pub cycle_in : ServerStage → ℕ
cycle_in (clearing cycle t at) = cycle
cycle_in (freeing cycle) = cycle
cycle_in stage = 0

not_told : (server told cycle ended : ℕ) → (server < told → ended ≡ cycle) → ended + 1 ≡ cycle → told ≤ server
not_told server told cycle ended tells next =
    ⊎_elim (λ low. absurd (let e = tells low in omega arith)) (λ high. high) (cases_lt server told)

in_evac : (part : Part) (server ended : ℕ) (f : ServerStage) → Works f → ServerFits part server f ended
    → IsInEvac part server (cycle_in f) ended
in_evac (idle c) server ended (clearing d t at) w fits = absurd fits.0
in_evac (pausing c) server ended (clearing d t at) w fits = absurd fits.0
in_evac (rooting c k) server ended (clearing d t at) w fits = absurd fits.0
in_evac (tracing c) server ended (clearing d t at) w fits = absurd fits.0
in_evac (choosing c left) server ended (clearing d t at) w fits = absurd fits.0
in_evac (stopped c) server ended (clearing d t at) w fits = absurd fits.0
in_evac (evacuating c told) server ended (clearing d t at) w fits = record {
  told = told;
  is = ap (λ (q : ℕ). evacuating q told) (sym fits.0.0);
  next = fits.0.1 ∙ sym fits.0.0;
  ahead = not_told server told c ended fits.1 fits.0.1;
}
in_evac (idle c) server ended (freeing d) w fits = absurd fits.0
in_evac (pausing c) server ended (freeing d) w fits = absurd fits.0
in_evac (rooting c k) server ended (freeing d) w fits = absurd fits.0
in_evac (tracing c) server ended (freeing d) w fits = absurd fits.0
in_evac (choosing c left) server ended (freeing d) w fits = absurd fits.0
in_evac (stopped c) server ended (freeing d) w fits = absurd fits.0
in_evac (evacuating c told) server ended (freeing d) w fits = record {
  told = told;
  is = ap (λ (q : ℕ). evacuating q told) (sym fits.0.0);
  next = fits.0.1 ∙ sym fits.0.0;
  ahead = not_told server told c ended fits.1 fits.0.1;
}
in_evac part server ended resting w fits = absurd w
in_evac part server ended (working d) w fits = absurd w
in_evac part server ended gone w fits = absurd w

choice_settled : (c told : ℕ) (k : Choice) → ChoiceFits (evacuating c told) k → debt_of k ≡ settled
choice_settled c told (rests_with spare) fits = absurd fits
choice_settled c told (chooses debt given spare) fits = absurd fits
choice_settled c told (has_chosen given spare) fits = refl

module _ (n : Numbers) (w : Facts) (s : JointScene) (j : Joint n w s) (server ended : ℕ) (laden : Bool)
    (f : ServerStage)
    (works : Works f)
    (here : slice_get s.facets.phases (server_seat n server) ≡ Some (serving server f ended laden)) where
  pub is_in_evac : IsInEvac j.order.part server (cycle_in f) ended
  is_in_evac =
      in_evac j.order.part server ended f works
      (j.order.each (server_seat n server) (serving server f ended laden) here).fits

  pub phase_is_evac : phase_of n s.words ≡ Evac (cycle_in f)
  phase_is_evac =
      part_phase n s.words s.facets.phases j.order j.order.seat j.order.part j.order.pending j.order.here
      ∙ ap phase_during is_in_evac.is

  pub server_known : server < n.servers
  server_known = (j.order.each (server_seat n server) (serving server f ended laden) here).known

  pub is_settled : debt_of s.facets.choice ≡ settled
  is_settled =
      choice_settled (cycle_in f) is_in_evac.told s.facets.choice
      (subst (λ p. ChoiceFits p s.facets.choice) is_in_evac.is
      (j.choice j.order.seat j.order.part j.order.pending j.order.here))

-- ---- the groups at the seat

module _ (n : Numbers) (w : Facts) (s : JointScene) (server cycle ended : ℕ) (laden : Bool) where
  abbrev pub owner : Owner
  owner = record { shape = n; server = server; cycle = cycle }

  abbrev pub seat : ℕ
  seat = server_seat n server

  -- the state of layouts with these words, and with this place at the gates and this work at the seat
  abbrev pub laid_state : List ℕ → GateFacet → Work → State
  laid_state us g k = record {
    words = λ p. word_at n us p;
    heap = state_of w s.front.history;
    gates = set s.facets.gates seat g;
    works = set s.facets.works seat k;
    choice = s.facets.choice;
    made = λ t. words_made w t s.front.history;
  }

  abbrev pub Laid : List ℕ → GateFacet → Work → Type 0
  Laid us g k = Layout n (laid_state us g k)

  abbrev pub Ordered : List ℕ → EvacStage → Type 0
  Ordered us stage =
      PhaseOrder n us (set s.facets.phases seat (serving server (stage_phase cycle stage)
      (stage_ended cycle stage ended) laden))

  abbrev pub Named : List ℕ → EvacStage → List Name → Type 0
  Named us stage sent =
      NamesHold n w us s.front
      (record s.facets.names {
        through = set s.facets.names.through server (stage_through owner stage);
        sent = set s.facets.names.sent server sent;
      })

  -- all that a step owes, where the server comes to a stage, with the names that it has sent by then
  pub record Owed (us : List ℕ) (stage : EvacStage) (sent : List Name) : Type 0 where
    pub names : Named us stage sent
    pub layout : Laid us (shutter_at seat (stage_watch n stage)) (stage_work stage)
    pub polls : PollingStands n (polls_in n (record s { words = us }))
    pub order : Ordered us stage
    pub evac : phase_of n us ≡ Evac cycle

  abbrev pub to_stage : EvacStage → ℕ → Evacuation
  to_stage stage at = record { owner = owner; at = at; stage = stage }

  module _ (j : Joint n w s) (known : server < n.servers) (f : ServerStage) (before : ℕ)
      (here : slice_get s.facets.phases seat ≡ Some (serving server f before laden)) where
    module _ (us : List ℕ) (stage : EvacStage) (at : ℕ) (sent : List Name) (o : Owed us stage sent) where
      abbrev after : JointScene
      after = with_evacuation n s us (to_stage stage at) ended laden sent

      abbrev facet : PhaseFacet
      facet = serving server (stage_phase cycle stage) (stage_ended cycle stage ended) laden

      abbrev gate : GateFacet
      gate = shutter_at seat (stage_watch n stage)

      -- another seat is of another kind
      other_seat : (i : ℕ) (g : PhaseFacet) → slice_get s.facets.phases i ≡ Some g
          → (g ≡ serving server f before laden → ⊥) → i ≢ seat
      other_seat i g is none e =
          none (same_Some g (serving server f before laden)
          (sym is ∙ ap (slice_get s.facets.phases) e ∙ here))

      outside_kept : (i : ℕ) (a : Admission) → slice_get s.facets.phases i ≡ Some (mutating a)
          → IsOutsideWith n s.facets.gates i a → IsOutsideWith n after.facets.gates i a
      outside_kept i a is t = record {
        gate = t.gate;
        here = get_set_other s.facets.gates seat i gate (other_seat i (mutating a) is (λ e. cc)) ∙ t.here;
        number = t.number;
        outside = t.outside;
      }

      drained_kept : HasDrainedAll n s.facets.gates → HasDrainedAll n after.facets.gates
      drained_kept t = record {
        gate = t.gate;
        here = get_set_other s.facets.gates seat (n.mutators + n.servers) gate (λ e. omega (arith, known)) ∙ t.here;
        drained = t.drained;
      }

      clears_kept : (i : ℕ) → i ≢ seat → IsClearing s.facets.phases i → IsClearing after.facets.phases i
      clears_kept i other c = record {
        server = c.server;
        cycle = c.cycle;
        tablet = c.tablet;
        at = c.at;
        ended = c.ended;
        laden = c.laden;
        is = get_set_other s.facets.phases seat i facet other ∙ c.is;
      }

      old_facet : (i : ℕ) (g : PhaseFacet) → slice_get after.facets.phases i ≡ Some g → (facet ≡ g → ⊥)
          → slice_get s.facets.phases i ≡ Some g
      old_facet i g is none =
          ⊎_elim (λ t. absurd (none t.1)) (λ t. t.1) (get_set_cases s.facets.phases seat i facet g is)

      gates_match : GatesMatch n after.facets.phases after.facets.gates
      gates_match = record {
        mutators = λ i a is.
            let old = old_facet i (mutating a) is (λ e. cc) in outside_kept i a old (j.gates.mutators i a old);
        collector = λ i part pending is paused.
            drained_kept
            (j.gates.collector i part pending (old_facet i (collecting part pending) is (λ e. cc)) paused);
        servers = λ i t g is.
            ⊎_elim
            (λ h. subst (λ k. (drained_by t k.watch ≡ 0) ⊎ IsClearing after.facets.phases i) h.1
            (subst (λ q. (drained_by t gate.watch ≡ 0) ⊎ IsClearing after.facets.phases q) (sym h.0)
            (⊎_elim (λ none. inl none)
            (λ some. inr (clearing_is after.facets.phases seat server (stage_ended cycle stage ended) laden
            (stage_phase cycle stage) some
            (get_set_same s.facets.phases seat facet (serving server f before laden) here)))
            (drains_there n cycle stage t))))
            (λ h. ⊎_elim (λ none. inl none) (λ c. inr (clears_kept i h.0 c)) (j.gates.servers i t g h.1))
            (get_set_cases s.facets.gates seat i gate g is);
      }

      pub joined : Joint n w after
      joined = record {
        script = j.script;
        names = o.names;
        tracks = subst (λ p. TracksFit p n w (trace_in after)) (sym o.evac) tt;
        layout = o.layout;
        polls = o.polls;
        order = o.order;
        reads = works_held s.facets.names.held s.facets.works seat (stage_work stage)
            (λ r. absurd (reads_none stage r)) j.reads;
        gates = gates_match;
        choice = λ i part pending is. j.choice i part pending (old_facet i (collecting part pending) is (λ e. cc));
      }

  -- ---- one step of a group, at the seat

  module _ (j : Joint n w s) (g0 : GateFacet) (k0 : Work)
      (here : Seat (layout_in n w s) seat g0 k0) where
    -- the state as it is
    pub laid : Laid s.words g0 k0
    laid =
        subst (λ gs. Layout n (record (laid_state s.words g0 k0) { gates = gs }))
        (sym (set_again s.facets.gates seat g0 here.gate))
        (subst (λ ks. Layout n (record (layout_in n w s) { works = ks }))
        (sym (set_again s.facets.works seat k0 here.work)) j.layout)

    pub seated : (us : List ℕ) (g : GateFacet) (k : Work) → Seat (laid_state us g k) seat g k
    seated us g k = record {
      gate = get_set_same s.facets.gates seat g g0 here.gate;
      work = get_set_same s.facets.works seat k k0 here.work;
    }

    module _ (us : List ℕ) (g : GateFacet) (k : Work) (l : Laid us g k) where
      pub gate_moved : (vs : List ℕ) (h : GateFacet)
          → Step n (laid_state us g k) seat (at_gate (laid_state us g k) (λ p. word_at n vs p) seat h)
          → Laid vs h k
      gate_moved vs h step =
          subst (λ gs. Layout n (record (laid_state vs h k) { gates = gs })) (set-set s.facets.gates seat g h)
          (each_step_keeps n j.script.shape (laid_state us g k) seat
          (at_gate (laid_state us g k) (λ p. word_at n vs p) seat h) l step)

      pub work_moved : (vs : List ℕ) (v : Work)
          → Step n (laid_state us g k) seat (at_work (laid_state us g k) (λ p. word_at n vs p) seat v)
          → Laid vs g v
      work_moved vs v step =
          subst (λ ks. Layout n (record (laid_state vs g v) { works = ks })) (set-set s.facets.works seat k v)
          (each_step_keeps n j.script.shape (laid_state us g k) seat
          (at_work (laid_state us g k) (λ p. word_at n vs p) seat v) l step)

      pub words_moved : (vs : List ℕ)
          → Step n (laid_state us g k) seat (record (laid_state us g k) { words = λ p. word_at n vs p })
          → Laid vs g k
      words_moved vs step =
          each_step_keeps n j.script.shape (laid_state us g k) seat
          (record (laid_state us g k) { words = λ p. word_at n vs p }) l step
