-- What a stage of an evacuation owes, and what it gives together.
use Rattle.std.proofs.Common.{◌≡◌, ℕ, ◌<◌, Bool, List, [], ◌++◌, length, set, sym, subst, refl, arith}
use Rattle.std.proofs.lemmas.List.{append-nil}
use Rattle.mako_words.specs.declared.name.Name.{Name}
use Rattle.mako_shape.specs.declared.numbers.Numbers.{Numbers}
use Rattle.mako_shape.specs.Places.{Place, phase, index, Within, word_at}
use Rattle.mako_shape.proofs.PlaceLaws.{index_below, word_other}
use Rattle.mako_step.specs.Acts.{words_stepped, words_after, finds}
use Rattle.mako_step.specs.Machines.{IsAct, CanStep}
use Rattle.mako_step.specs.declared.act.Op.TheVariants.{Load}
use Rattle.mako_gate.specs.Standings.{shutter_at}
use Rattle.mako_model.specs.Legal.{Facts, state_of}
use Rattle.mako_model.specs.Starved.{words_made}
use Rattle.mako_model.proofs.Lists.{get_set_same}
use Rattle.mako_shades.proofs.Lists.{set_again}
use Rattle.mako_evac.specs.declared.owner.Owner.{Owner}
use Rattle.mako_evac.specs.declared.stage.EvacStage.{EvacStage}
use Rattle.mako_evac.specs.Evacuating.{Evacuation, next_of, Fits, stage_fed, at_fed}
use Rattle.mako_evac.proofs.Going.{step_known}
use Rattle.mako_layout.specs.Evacuations.{Evacuation as Layout}
use Rattle.mako_layout.specs.Frames.{IsElsewhere, IsNoGate}
use Rattle.mako_layout.specs.Steps.Step.{outside}
use Rattle.mako_layout.proofs.EachStep.{each_step_keeps}
use Rattle.mako_layout.proofs.Frames.{places_are_apart}
use Rattle.mako_names.specs.Going.{NamesHold}
use Rattle.mako_names.specs.Steps.NameStep.{Stores}
use Rattle.mako_names.specs.Tables.{phase_of}
use Rattle.mako_names.specs.Uses.{IsNamePlace}
use Rattle.mako_names.proofs.StepsKept.{step_kept, leaves_others}
use Rattle.mako_names.proofs.Words.{phase_same}
use Rattle.mako_phases.specs.Facets.{serving}
use Rattle.mako_phases.specs.Orders.{PhaseOrder}
use Rattle.mako_state.proofs.Words.{load_back, sets_words}
use Rattle.mako_joint.specs.Joints.{JointScene, names_in, layout_in, Joint}
use Rattle.mako_clearing.specs.ClearingFacets.{server_seat, stage_phase, stage_ended, stage_watch, stage_work}
use Rattle.mako_clearing.specs.ClearingFacets.{stage_through, stage_carries, stage_sends}
use Rattle.mako_clearing.specs.Notices.{SendingStands}
use Rattle.mako_clearing.specs.Clearing.{StageKnows, tells_end, ClearingStands, with_evacuation, ClearingGoesOn}
use Rattle.mako_clearing.proofs.Seated.{server_known, Works, Owed, joined, to_stage, owner}

module _ (n : Numbers) (w : Facts) (s : JointScene) (server cycle ended : ℕ) (laden : Bool) (taker : ℕ) where
  abbrev o : Owner
  o = owner n w s server cycle ended laden

  abbrev pub at_stage : EvacStage → ℕ → Evacuation
  at_stage = to_stage n w s server cycle ended laden

  -- what a step gives, where the server comes to this stage with these words
  pub record Goes (us : List ℕ) (stage : EvacStage) (at : ℕ) (sent : List Name) : Type 0 where
    pub owed : Owed n w s server cycle ended laden us stage sent
    pub notices : SendingStands n us server taker at sent (stage_carries stage) (tells_end stage)
    pub knows : StageKnows n w (with_evacuation n s us (at_stage stage at) ended laden sent) o at stage

  -- a load leaves the words
  pub loads : (i : ℕ) (stage : EvacStage) (at : ℕ) (sent : List Name) → Goes s.words stage at sent
      → Goes (words_after (record { word = i; op = Load }) s.words) stage at sent
  loads i stage at sent g = subst (λ us. Goes us stage at sent) (sym (load_back s.words i)) g

  -- no name is sent
  pub sends_none : (us : List ℕ) (stage : EvacStage) (at : ℕ) (sent : List Name) → Goes us stage at sent
      → Goes us stage at (sent ++ [])
  sends_none us stage at sent g = subst (Goes us stage at) (sym (append-nil sent)) g

  module _ (stage : EvacStage) (at : ℕ) (sent : List Name) (j : Joint n w s)
      (c : ClearingStands n w s (at_stage stage at) ended laden taker sent) (works : Works (stage_phase cycle stage))
    where
      pub known : server < n.servers
      known = server_known n w s j server (stage_ended cycle stage ended) laden (stage_phase cycle stage) works
          c.facets.phase

      -- ---- groups that a step leaves as they are

      pub order_stays : (us : List ℕ) → PhaseOrder n us s.facets.phases → PhaseOrder n us
          (set s.facets.phases (server_seat n server)
          (serving server (stage_phase cycle stage) (stage_ended cycle stage ended) laden))
      order_stays us o =
          subst (PhaseOrder n us)
          (sym (set_again s.facets.phases (server_seat n server)
          (serving server (stage_phase cycle stage) (stage_ended cycle stage ended) laden) c.facets.phase)) o

      pub names_stay : (us : List ℕ) → NamesHold n w us s.front s.facets.names → NamesHold n w us s.front
          (record s.facets.names {
            through = set s.facets.names.through server (stage_through o stage);
            sent = set s.facets.names.sent server sent;
          })
      names_stay us hold =
          subst (λ t. NamesHold n w us s.front
          (record s.facets.names { through = t; sent = set s.facets.names.sent server sent }))
          (sym (set_again s.facets.names.through server (stage_through o stage) c.facets.through))
          (subst (λ l. NamesHold n w us s.front (record s.facets.names { sent = l }))
          (sym (set_again s.facets.names.sent server sent c.sending.sent_is)) hold)

      -- names that are sent stay, where the place that the server has come to is another
      pub sent_stays : (us : List ℕ) (t : List ℕ)
          → NamesHold n w us s.front (record s.facets.names { through = t })
          → NamesHold n w us s.front (record s.facets.names { through = t; sent = set s.facets.names.sent server sent })
      sent_stays us t hold =
          subst (λ l. NamesHold n w us s.front (record s.facets.names { through = t; sent = l }))
          (sym (set_again s.facets.names.sent server sent c.sending.sent_is)) hold

      -- ---- the whole

      pub finish : IsAct (next_of (at_stage stage at)) → CanStep (next_of (at_stage stage at)) s.words
          (Fits (at_stage stage at))
          → Fits (at_stage stage at) (finds (next_of (at_stage stage at)) s.words)
          → Goes (words_stepped (next_of (at_stage stage at)) s.words)
          (stage_fed o stage (finds (next_of (at_stage stage at)) s.words)) (at_fed n.ring at stage)
          (sent ++ stage_sends stage)
          → ClearingGoesOn n w s (at_stage stage at) ended laden taker sent
      finish acts can fits g =
          let v : Evacuation = at_stage stage at in
          let found : ℕ = finds (next_of v) s.words in
          let us : List ℕ = words_stepped (next_of v) s.words in
          let next : EvacStage = stage_fed o stage found in
          let more : List Name = sent ++ stage_sends stage in
          record {
            can = can;
            joint = joined n w s server cycle ended laden j known (stage_phase cycle stage)
                (stage_ended cycle stage ended)
                c.facets.phase us next (at_fed n.ring at stage) more g.owed;
            stands = record {
              known = step_known v found c.known fits acts;
              shape = refl;
              facets = record {
                phase = get_set_same s.facets.phases (server_seat n server)
                    (serving server (stage_phase cycle next) (stage_ended cycle next ended) laden)
                    (serving server (stage_phase cycle stage) (stage_ended cycle stage ended) laden) c.facets.phase;
                gate = get_set_same s.facets.gates (server_seat n server)
                    (shutter_at (server_seat n server) (stage_watch n next))
                    (shutter_at (server_seat n server) (stage_watch n stage)) c.facets.gate;
                work = get_set_same s.facets.works (server_seat n server) (stage_work next) (stage_work stage)
                    c.facets.work;
                through = get_set_same s.facets.names.through server (stage_through o next) (stage_through o stage)
                    c.facets.through;
              };
              sending = record {
                sent_is = get_set_same s.facets.names.sent server more sent c.sending.sent_is;
                notices = g.notices;
              };
              knows = g.knows;
            };
          }

-- ---- words that no group but its own reads

module _ (n : Numbers) (w : Facts) (s : JointScene) (j : Joint n w s) (p : Place) (v : ℕ) (within : Within n p) where
  abbrev pub stored_words : List ℕ
  stored_words = set s.words (index n p) v

  pub phase_stays : (IsNamePlace p → ⊥) → phase_of n stored_words ≡ phase_of n s.words
  phase_stays other =
      phase_same n s.words stored_words (word_other n s.words p phase v within tt
      (λ e. other (subst IsNamePlace e tt)))

  pub names_else : (IsNamePlace p → ⊥) → NamesHold n w stored_words s.front s.facets.names
  names_else other =
      step_kept n w (names_in s) (record (names_in s) { words = stored_words }) j.script.facts
      (Stores stored_words (leaves_others n s.words p v j.names.hold.size within other)) j.names

  pub layout_else : IsElsewhere p → IsNoGate p → Layout n (record (layout_in n w s)
      { words = λ q. word_at n stored_words q })
  layout_else off no_gate =
      let sets = sets_words n s.words j.names.hold.size p v within in
      each_step_keeps n j.script.shape (layout_in n w s) 0
      (record (layout_in n w s) { words = λ q. word_at n stored_words q }) j.layout
      (outside 0 (λ q. word_at n stored_words q) (state_of w s.front.history)
      (λ t. words_made w t s.front.history)
      (places_are_apart.layout n (λ q. word_at n s.words q) (λ q. word_at n stored_words q) p v sets off)
      (places_are_apart.gates n (λ q. word_at n s.words q) (λ q. word_at n stored_words q) p v sets no_gate)
      (λ name. refl) (λ t. refl))

-- an index of a place is one of all words
pub index_in : (n : Numbers) (w : Facts) (s : JointScene) → Joint n w s → (p : Place) → Within n p
    → index n p < length s.words
index_in n w s j p within = let a = index_below n p within in let b = j.names.hold.size in omega arith
