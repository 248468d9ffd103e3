-- The stages of a server at a tablet, but for the copies.
use Rattle.std.specs.Prelude.{bit_or, bit_and}
use Rattle.std.proofs.Common.{◌≡◌, ◌≢◌, ℕ, ◌+◌, ◌-◌, ◌*◌, ◌<◌, ◌≤◌, inl, Bool, false, if◌then◌else◌, List, [], set, sym}
use Rattle.std.proofs.Common.{ap, subst, refl, ◌∙◌, arith, eq-eqb, add-mul}
use Rattle.std.proofs.lemmas.Bool.{ne_eqb}
use Rattle.mako_words.specs.declared.name.Name.{Name}
use Rattle.mako_words.specs.declared.phase_word.PhaseWord.TheVariants.{Evac}
use Rattle.mako_words.specs.Gates.{count_of}
use Rattle.mako_words.specs.Words.{all_but}
use Rattle.mako_shape.specs.declared.numbers.Numbers.{Numbers}
use Rattle.mako_shape.specs.Belongings.{tablet_of_entry, server_of_tablet}
use Rattle.mako_shape.specs.Places.{Place, leaving, notice, tablet_gate, index, Within, word_at}
use Rattle.mako_shape.proofs.BelongingLaws.{parts_belong}
use Rattle.mako_step.specs.declared.act.Op.TheVariants.{Or, And}
use Rattle.mako_step.proofs.Cases.{when_lt, when_eq}
use Rattle.mako_gate.specs.Bits.{shut_bit}
use Rattle.mako_gate.specs.Changes.{tablets_of}
use Rattle.mako_gate.specs.GateActions as act
use Rattle.mako_gate.specs.Standings.{Watch, rests, keeps_shut, has_drained, shutter_at}
use Rattle.mako_gate.proofs.Changes.{acts_make}
use Rattle.mako_model.specs.Legal.{Facts}
use Rattle.mako_names.specs.Going.{NamesHold}
use Rattle.mako_names.specs.Tables.{phase_of}
use Rattle.mako_names.specs.Uses.{IsNamePlace}
use Rattle.mako_ring.specs.Facets.{IsPolled}
use Rattle.mako_ring.specs.Polling.{PollingStands}
use Rattle.mako_shape.proofs.PlaceLaws.{word_other}
use Rattle.mako_evac.specs.declared.owner.Owner.{Owner}
use Rattle.mako_evac.specs.declared.stage.EvacStage.{EvacStage}
use Rattle.mako_evac.specs.declared.stage.EvacStage.TheVariants.{Evacuating, Freeing}
use Rattle.mako_evac.specs.declared.tablet.TabletStage.{TabletStage}
use Rattle.mako_evac.specs.declared.tablet.TabletStage.TheVariants.{LoadingLeaving, Shutting, Draining, LoadingHome}
use Rattle.mako_evac.specs.declared.tablet.TabletStage.TheVariants.{Reopening}
use Rattle.mako_evac.specs.declared.freeing.FreeStage.TheVariants.{Loading}
use Rattle.mako_evac.specs.Owners.{first_tablet, tablets_end, first_entry, IsOwnTablet}
use Rattle.mako_evac.specs.Passing.{at_tablet}
use Rattle.mako_evac.proofs.Bounds.{tablet_within}
use Rattle.mako_layout.specs.Evacuations.{Seat}
use Rattle.mako_layout.specs.Facets.{Work, idle}
use Rattle.mako_layout.specs.Frames.{LeavesLayout}
use Rattle.mako_layout.specs.StepParts.{first_of, past_of}
use Rattle.mako_layout.specs.Steps as step
use Rattle.mako_layout.proofs.Found.{gates_are_found}
use Rattle.mako_layout.proofs.Frames.{places_are_apart}
use Rattle.mako_phases.specs.Facets.{ServerStage, clearing, looking, found, shut, serving, freeing}
use Rattle.mako_phases.specs.Orders.{PhaseOrder}
use Rattle.mako_phases.specs.Steps as phases
use Rattle.mako_phases.specs.Steps.{next_tablet}
use Rattle.mako_phases.proofs.AllPhases.{phase_kept}
use Rattle.mako_state.proofs.Words.{sets_words}
use Rattle.mako_joint.specs.Joints.{JointScene, layout_in, polls_in, phases_in, Joint}
use Rattle.mako_joint.proofs.EachKind.{polls_stay}
use Rattle.mako_joint.proofs.Pauses.{gates_drain}
use Rattle.mako_clearing.specs.ClearingFacets.{server_seat, tablet_phase, tablet_watch, tablet_work}
use Rattle.mako_clearing.specs.Notices.{SendingStands, SameNotices}
use Rattle.mako_clearing.specs.Clearing.{TabletKnows, ClearingStands, ClearingGoesOn, with_evacuation}
use Rattle.mako_clearing.proofs.Seated.{Laid, laid, seated, gate_moved, owner, phase_is_evac, is_settled}
use Rattle.mako_clearing.proofs.Rings.{sending_stays}
use Rattle.mako_clearing.proofs.Stages.{at_stage, Goes, loads, sends_none, known, names_stay, order_stays, finish}
use Rattle.mako_clearing.proofs.Stages.{phase_stays, names_else, index_in}

-- ---- tablets and their entries

module _ (n : Numbers) (t x : ℕ) where
  pub behind_is : (t + 1) * n.entries ≡ past_of n t
  behind_is = add-mul t 1 n.entries ∙ (let e : t * n.entries + 1 * n.entries ≡ t * n.entries + n.entries = omega
      arith in e)

  -- an entry between the first of the tablet and the first of the next is one of the tablet
  pub tablet_is : first_entry n t ≤ x → x < first_entry n (t + 1) → tablet_of_entry n x ≡ t
  tablet_is from below =
      let i : ℕ = x - t * n.entries in
      let same : t * n.entries + (x - t * n.entries) ≡ x = omega arith in
      subst (λ y. tablet_of_entry n y ≡ t) same
      (parts_belong.entry n t (x - t * n.entries) (omega (arith, behind_is)))

-- an address is in a region where its region is this one
look_leaves : (n : Numbers) (W : _) → LeavesLayout n W W
look_leaves n W = record {
  table = record {
    phase = refl;
    entries = λ x l. refl;
    homes = λ t l. refl;
    tops = λ t l. refl;
    leavings = λ t l. refl;
  };
  regions = λ r a l m. refl;
}

module _ (n : Numbers) (w : Facts) (s : JointScene) (server cycle ended : ℕ) (laden : Bool) (taker : ℕ)
    (j : Joint n w s) (at : ℕ) (sent : List Name) (t : ℕ) where
  abbrev pub o : Owner
  o = owner n w s server cycle ended laden

  abbrev pub seat : ℕ
  seat = server_seat n server

  abbrev pub Stands : TabletStage → Type 0
  Stands stage =
      ClearingStands n w s (at_stage n w s server cycle ended laden taker (Evacuating t stage) at) ended laden taker
      sent

  abbrev pub Kept : TabletStage → Type 0
  Kept stage =
      ClearingGoesOn n w s (at_stage n w s server cycle ended laden taker (Evacuating t stage) at) ended laden taker
      sent

  abbrev pub To : List ℕ → EvacStage → Type 0
  To us stage = Goes n w s server cycle ended laden taker us stage at sent

  -- what is owed at a tablet, by the facets that the server comes to
  pub record OwedHere (us : List ℕ) (f : ServerStage) (g : Watch) (k : Work) : Type 0 where
    pub names : NamesHold n w us s.front
        (record s.facets.names {
          through = set s.facets.names.through server 0;
          sent = set s.facets.names.sent server sent;
        })
    pub layout : Laid n w s server cycle ended laden us (shutter_at seat g) k
    pub polls : PollingStands n (polls_in n (record s { words = us }))
    pub order : PhaseOrder n us (set s.facets.phases seat (serving server f ended laden))
    pub evac : phase_of n us ≡ Evac cycle
    pub notices : SendingStands n us server taker at sent [] false

  -- so it may come to a stage there
  pub to_stage : (us : List ℕ) (stage : TabletStage)
      → OwedHere us (clearing cycle t (tablet_phase stage)) (tablet_watch n t stage) (tablet_work stage)
      → TabletKnows n w
      (with_evacuation n s us (at_stage n w s server cycle ended laden taker (Evacuating t stage) at) ended laden sent)
      stage
      → To us (Evacuating t stage)
  to_stage us stage owed knows = record {
    owed = record {
      names = owed.names;
      layout = owed.layout;
      polls = owed.polls;
      order = owed.order;
      evac = owed.evac;
    };
    notices = owed.notices;
    knows = knows;
  }

  -- ---- on to the next tablet

  nothing_freed : 0 ≡ first_entry n (first_tablet o) - first_entry n (first_tablet o)
  nothing_freed = omega arith

  pub tablet_next : IsOwnTablet o t → (us : List ℕ) → OwedHere us (next_tablet n server cycle t) rests idle
      → To us (at_tablet o (t + 1))
  tablet_next own us owed =
      when_lt (To us) (Evacuating (t + 1) LoadingLeaving) (Freeing (first_entry n (first_tablet o)) Loading) (t + 1)
      (tablets_end o)
      (λ low. record {
        owed = record {
          names = owed.names;
          layout = owed.layout;
          polls = owed.polls;
          order = order_as (clearing cycle (t + 1) looking)
              (ap (λ (b : Bool). if b then freeing cycle else clearing cycle (t + 1) looking)
              (ne_eqb (t + 1) ((server + 1) * n.tablets) (λ e. omega arith)));
          evac = owed.evac;
        };
        notices = owed.notices;
        knows = tt;
      })
      (λ high. record {
        owed = record {
          names = subst (λ i. NamesHold n w us s.front
              (record s.facets.names {
                through = set s.facets.names.through server i;
                sent = set s.facets.names.sent server sent;
              })) nothing_freed owed.names;
          layout = owed.layout;
          polls = owed.polls;
          order = order_as (freeing cycle)
              (ap (λ (b : Bool). if b then freeing cycle else clearing cycle (t + 1) looking)
              (eq-eqb (t + 1) ((server + 1) * n.tablets) (let b = own.below in omega arith)));
          evac = owed.evac;
        };
        notices = owed.notices;
        knows = tt;
      })
    where
      order_as : (f : ServerStage) → next_tablet n server cycle t ≡ f
          → PhaseOrder n us (set s.facets.phases seat (serving server f ended laden))
      order_as f e =
          subst (λ q. PhaseOrder n us (set s.facets.phases seat (serving server q ended laden))) e owed.order

  -- ---- a stage at the tablet

  module _ (stage : TabletStage) (c : Stands stage) where
    pub own_tablet : IsOwnTablet o t
    own_tablet = c.known.stage.0

    pub tablet_in : t < tablets_of n
    tablet_in = tablet_within o t c.known.owner c.known.stage.0

    pub server_in : server < n.servers
    server_in = known n w s server cycle ended laden taker (Evacuating t stage) at sent j c tt

    pub evac_is : phase_of n s.words ≡ Evac cycle
    evac_is = phase_is_evac n w s j server ended laden (clearing cycle t (tablet_phase stage)) tt c.facets.phase

    pub seat_here : Seat (layout_in n w s) seat (shutter_at seat (tablet_watch n t stage)) (tablet_work stage)
    seat_here = record { gate = c.facets.gate; work = c.facets.work }

    -- nothing changes
    pub still : OwedHere s.words (clearing cycle t (tablet_phase stage)) (tablet_watch n t stage) (tablet_work stage)
    still = record {
      names = names_stay n w s server cycle ended laden taker (Evacuating t stage) at sent j c tt s.words j.names;
      layout = laid n w s server cycle ended laden j (shutter_at seat (tablet_watch n t stage)) (tablet_work stage)
          seat_here;
      polls = j.polls;
      order = order_stays n w s server cycle ended laden taker (Evacuating t stage) at sent j c tt s.words j.order;
      evac = evac_is;
      notices = c.sending.notices;
    }

    -- a word is stored that neither tables nor rings read
    module _ (p : Place) (v : ℕ) (within : Within n p) (no_name : IsNamePlace p → ⊥) (not_polled : IsPolled p → ⊥)
        (no_notice : (slot : ℕ) → notice server slot ≢ p) where
      abbrev us : List ℕ
      us = set s.words (index n p) v

      pub slots_stay : SameNotices n s.words us server
      slots_stay slot low = word_other n s.words p (notice server slot) v within (server_in, low) (no_notice slot)

      pub stored_here : (f : ServerStage) (g : Watch) (k : Work) → Laid n w s server cycle ended laden us
          (shutter_at seat g) k
          → PhaseOrder n us (set s.facets.phases seat (serving server f ended laden)) → OwedHere us f g k
      stored_here f g k layout order = record {
        names = names_stay n w s server cycle ended laden taker (Evacuating t stage) at sent j c tt us
            (names_else n w s j p v within no_name);
        layout = layout;
        polls = polls_stay n s p v within not_polled j.polls;
        order = order;
        evac = phase_stays n w s j p v within no_name ∙ evac_is;
        notices = sending_stays n s.words us server taker at sent [] false slots_stay c.sending.notices;
      }

  -- ---- it loads leaving

  module _ (c : Stands LoadingLeaving) where
    leaving_order : (f : ServerStage)
        → phases.PhaseStep n (phases_in s)
        (record { words = s.words; facets = set s.facets.phases seat (serving server f ended laden) })
        → OwedHere s.words f rests idle
    leaving_order f p =
        let here = still LoadingLeaving c in record {
          names = here.names;
          layout = here.layout;
          polls = here.polls;
          order = phase_kept n (phases_in s)
              (record { words = s.words; facets = set s.facets.phases seat (serving server f ended laden) }) j.order
              (gates_drain n w s j) p;
          evac = here.evac;
          notices = here.notices;
        }

    pub leaving_loaded : Kept LoadingLeaving
    leaving_loaded =
        finish n w s server cycle ended laden taker (Evacuating t LoadingLeaving) at sent j c tt tt
        (index_in n w s j (leaving t) (tablet_in LoadingLeaving c), tt, tt) tt
        (sends_none n w s server cycle ended laden taker _ _ at sent
        (loads n w s server cycle ended laden taker (index n (leaving t)) _ at sent
        (when_eq (To s.words) (at_tablet o (t + 1)) (Evacuating t Shutting) (word_at n s.words (leaving t)) 0
        (λ e. tablet_next (own_tablet LoadingLeaving c) s.words
        (leaving_order (next_tablet n server cycle t)
        (phases.Passes seat server cycle t ended laden c.facets.phase e refl)))
        (λ d. to_stage s.words Shutting
        (leaving_order (clearing cycle t found) (phases.Meets seat server cycle t ended laden c.facets.phase d refl))
        tt))))

  -- ---- it shuts the gate

  module _ (c : Stands Shutting) where
    abbrev shut_word : ℕ
    shut_word = bit_or (word_at n s.words (tablet_gate t)) shut_bit

    abbrev shut_words : List ℕ
    shut_words = set s.words (index n (tablet_gate t)) shut_word

    own_seat : seat ≡ n.mutators + server_of_tablet n t
    own_seat =
        let e = (j.order.each seat (serving server (clearing cycle t found) ended laden) c.facets.phase).own.1 in
        ap (λ (q : ℕ). n.mutators + q) (sym e)

    shut_layout : Laid n w s server cycle ended laden shut_words (shutter_at seat (keeps_shut t)) idle
    shut_layout =
        let here = seat_here Shutting c in
        let low = tablet_in Shutting c in
        let at_seat = server_in Shutting c in
        gate_moved n w s server cycle ended laden j (shutter_at seat rests) idle here s.words (shutter_at seat rests)
        idle
        (laid n w s server cycle ended laden j (shutter_at seat rests) idle here) shut_words
        (shutter_at seat (keeps_shut t))
        (step.acts (λ p. word_at n shut_words p) seat (shutter_at seat rests) (shutter_at seat (keeps_shut t))
        (seated n w s server cycle ended laden j (shutter_at seat rests) idle here s.words (shutter_at seat rests) idle)
        (act.shuts seat seat t low own_seat
        (acts_make n s.words (tablet_gate t) (Or shut_bit) j.names.hold.size low))
        (places_are_apart.layout n (λ p. word_at n s.words p) (λ p. word_at n shut_words p) (tablet_gate t) shut_word
        (sets_words n s.words j.names.hold.size (tablet_gate t) shut_word low) tt)
        (λ u. refl) (inl (λ e. omega (arith, at_seat))))

    pub gate_shut : Kept Shutting
    gate_shut =
        let low = tablet_in Shutting c in
        finish n w s server cycle ended laden taker (Evacuating t Shutting) at sent j c tt tt
        (index_in n w s j (tablet_gate t) low, tt, tt) tt
        (sends_none n w s server cycle ended laden taker _ _ at sent
        (to_stage shut_words Draining
        (stored_here Shutting c (tablet_gate t) shut_word low (λ i. i) (λ i. i) (λ slot e. cc) (clearing cycle t shut)
        (keeps_shut t) idle shut_layout
        (phase_kept n (phases_in s)
        (record {
          words = shut_words;
          facets = set s.facets.phases seat (serving server (clearing cycle t shut) ended laden);
        }) j.order (gates_drain n w s j)
        (phases.Shuts seat server cycle t ended laden (tablet_gate t) shut_word c.facets.phase low (λ i. i) refl))) tt))

  -- ---- it looks at the gate

  module _ (c : Stands Draining) where
    drained : count_of (word_at n s.words (tablet_gate t)) ≡ 0
        → OwedHere s.words (clearing cycle t shut) (has_drained t (first_of n t)) idle
    drained none =
        let here = seat_here Draining c in
        let low = tablet_in Draining c in
        let now = still Draining c in record {
          names = now.names;
          layout = gate_moved n w s server cycle ended laden j (shutter_at seat (keeps_shut t)) idle here s.words
              (shutter_at seat (keeps_shut t)) idle now.layout s.words (shutter_at seat (has_drained t (first_of n t)))
              (step.drains (λ p. word_at n s.words p) seat t
              (seated n w s server cycle ended laden j (shutter_at seat (keeps_shut t)) idle here s.words
              (shutter_at seat (keeps_shut t)) idle)
              (act.drains seat seat t (first_of n t) low none
              (record { here = refl; others = λ q l d. refl }))
              (look_leaves n (λ p. word_at n s.words p))
              (is_settled n w s j server ended laden (clearing cycle t shut) tt c.facets.phase));
          polls = now.polls;
          order = now.order;
          evac = now.evac;
          notices = now.notices;
        }

    pub gate_looked : Kept Draining
    gate_looked =
        let low = tablet_in Draining c in
        let packed = (gates_are_found n (layout_in n w s) j.layout).tablets t low in
        finish n w s server cycle ended laden taker (Evacuating t Draining) at sent j c tt tt
        (index_in n w s j (tablet_gate t) low, tt, packed) packed
        (sends_none n w s server cycle ended laden taker _ _ at sent
        (loads n w s server cycle ended laden taker (index n (tablet_gate t)) _ at sent
        (when_lt (To s.words) (Evacuating t Draining) (Evacuating t LoadingHome) 0
        (count_of (word_at n s.words (tablet_gate t)))
        (λ some. to_stage s.words Draining (still Draining c) tt)
        (λ none. to_stage s.words LoadingHome (drained (omega arith)) tt))))

  -- ---- it reopens the gate

  module _ (c : Stands Reopening) where
    abbrev open_word : ℕ
    open_word = bit_and (word_at n s.words (tablet_gate t)) (all_but shut_bit)

    abbrev open_words : List ℕ
    open_words = set s.words (index n (tablet_gate t)) open_word

    open_layout : Laid n w s server cycle ended laden open_words (shutter_at seat rests) idle
    open_layout =
        let here = seat_here Reopening c in
        let low = tablet_in Reopening c in
        let at_seat = server_in Reopening c in
        gate_moved n w s server cycle ended laden j (shutter_at seat (has_drained t (past_of n t))) idle here s.words
        (shutter_at seat (has_drained t (past_of n t))) idle
        (laid n w s server cycle ended laden j (shutter_at seat (has_drained t (past_of n t))) idle here) open_words
        (shutter_at seat rests)
        (step.acts (λ p. word_at n open_words p) seat (shutter_at seat (has_drained t (past_of n t)))
        (shutter_at seat rests)
        (seated n w s server cycle ended laden j (shutter_at seat (has_drained t (past_of n t))) idle here s.words
        (shutter_at seat (has_drained t (past_of n t))) idle)
        (act.reopens seat seat t (past_of n t) low
        (acts_make n s.words (tablet_gate t) (And (all_but shut_bit)) j.names.hold.size low))
        (places_are_apart.layout n (λ p. word_at n s.words p) (λ p. word_at n open_words p) (tablet_gate t) open_word
        (sets_words n s.words j.names.hold.size (tablet_gate t) open_word low) tt)
        (λ u. refl) (inl (λ e. omega (arith, at_seat))))

    pub gate_reopened : Kept Reopening
    gate_reopened =
        let low = tablet_in Reopening c in
        finish n w s server cycle ended laden taker (Evacuating t Reopening) at sent j c tt tt
        (index_in n w s j (tablet_gate t) low, tt, tt) tt
        (sends_none n w s server cycle ended laden taker _ _ at sent
        (tablet_next (own_tablet Reopening c) open_words
        (stored_here Reopening c (tablet_gate t) open_word low (λ i. i) (λ i. i) (λ slot e. cc)
        (next_tablet n server cycle t) rests idle open_layout
        (phase_kept n (phases_in s)
        (record {
          words = open_words;
          facets = set s.facets.phases seat (serving server (next_tablet n server cycle t) ended laden);
        }) j.order (gates_drain n w s j)
        (phases.Reopens seat server cycle t ended laden (tablet_gate t) open_word c.facets.phase low (λ i. i) refl)))))
