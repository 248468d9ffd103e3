-- A mutator outside of its gate asks for a cycle, looks whether it is finished, and counts itself finished.
use Rattle.std.proofs.Common.{◌≡◌, ◌≢◌, ℕ, ◌+◌, ◌<◌, ◌≤◌, List, [], ◌∷◌, length, max, set, sym, subst, refl, ◌∙◌, arith}
use Rattle.mako_words.specs.Phases.{phase_at, cycle_of}
use Rattle.mako_shape.specs.declared.numbers.Numbers.{Numbers}
use Rattle.mako_shape.specs.Places.{Place, phase, demand, finished, area_of, index, Within, word_at}
use Rattle.mako_gate.specs.Standings.{away}
use Rattle.mako_model.specs.declared.call.Call.{Call}
use Rattle.mako_model.specs.declared.call.Call.TheVariants as call
use Rattle.mako_model.specs.declared.reply.Reply.TheVariants as reply
use Rattle.mako_model.specs.declared.point.Point.TheVariants.{Did}
use Rattle.mako_model.specs.Fronts.{with_point}
use Rattle.mako_model.specs.Legal.{Facts, state_of}
use Rattle.mako_model.proofs.CycleCounts.{cycles_stay}
use Rattle.mako_model.proofs.RootRows.{has_roots}
use Rattle.mako_names.specs.Steps.{AttemptStep, Asks, Collects, Spends, IsToldFinished}
use Rattle.mako_names.specs.Tables.{phase_of}
use Rattle.mako_names.specs.Trying as trying
use Rattle.mako_names.specs.Trying.{Trying}
use Rattle.mako_ring.specs.TraceFacets.{apart}
use Rattle.mako_layout.specs.Facets.{idle}
use Rattle.mako_layout.specs.Evacuations.{Evacuation}
use Rattle.mako_layout.proofs.Outside.{outside_kept}
use Rattle.mako_phases.specs.Facets.{Admission, outside, asking, mutating, IsNotAdmitted}
use Rattle.mako_phases.specs.Steps as phases
use Rattle.mako_joint.specs.Joints.{JointScene, layout_in, Joint}
use Rattle.mako_state.proofs.Words.{IsOffLayout, stored_off_layout, stored_off_gates}
use Rattle.mako_mutating.specs.Mutators.{IsSeen, View, with_view}
use Rattle.mako_making.proofs.Seated.{IsQuietPlace, Quiet, quiet_all, quiet_at}
use Rattle.mako_making.proofs.SeatKinds.{tries, not_tried, order_by, order_looks, order_unseen, laid, laid_neither}
use Rattle.mako_making.proofs.SeatKinds.{retold, goes, says}

-- outside of its gate, with no name and nothing of a record
abbrev pub out_with : Admission → Trying → List Call → View
out_with a t left = record {
  standing = away;
  work = idle;
  trace = apart;
  admission = a;
  held = [];
  trying = t;
  left = left;
}

quiet_demand : IsQuietPlace demand
quiet_demand = record { names = λ e. e; trace = λ e. e; polled = λ e. e }

quiet_finished : IsQuietPlace finished
quiet_finished = record { names = λ e. e; trace = λ e. e; polled = λ e. e }

demand_off : IsOffLayout demand
demand_off = record {
  not_phase = λ e. omega arith;
  not_home = λ e. omega arith;
  not_top = λ e. omega arith;
  not_leaving = λ e. omega arith;
  not_entry = λ e. omega arith;
  not_region = λ e. omega arith;
}

finished_off : IsOffLayout finished
finished_off = record {
  not_phase = λ e. omega arith;
  not_home = λ e. omega arith;
  not_top = λ e. omega arith;
  not_leaving = λ e. omega arith;
  not_entry = λ e. omega arith;
  not_region = λ e. omega arith;
}

module _ (n : Numbers) (w : Facts) (s : JointScene) (j : Joint n w s) (m : ℕ) (low : m < n.mutators) where
  size : Quiet n s.words s.words
  size = quiet_all n s.words j.names.hold.size

  -- a word elsewhere is stored, which no layout reads
  laid_elsewhere : (p : Place) (v : ℕ) → Within n p → IsOffLayout p → area_of p ≢ 3 → area_of p ≢ 10 → area_of p ≢ 11
      → Evacuation n (laid n w s (set s.words (index n p) v) s.front s.facets.gates s.facets.works)
  laid_elsewhere p v within off a b c =
      outside_kept n (layout_in n w s) j.layout (λ q. word_at n (set s.words (index n p) v) q)
      (state_of w s.front.history) (stored_off_layout n s.words p v within off)
      (stored_off_gates n s.words p v within a b c) (λ name. refl)

  -- a look that changes neither words nor facets
  pub only_looks : (f : View) → IsSeen s m f → (a : Admission) (t : Trying) (left : List Call)
      → f ≡ out_with a t left → IsNotAdmitted a → Joint n w (with_view s m s.words s.front f)
  only_looks f here a t left is out =
      subst (λ g. IsSeen s m g → Joint n w (with_view s m s.words s.front g)) (sym is)
      (λ seat. goes n w s j m low (out_with a t left) seat s.words (out_with a t left) (record {
        quiet = size;
        held = refl;
        left = refl;
        trace = refl;
        names = not_tried n w s j m low (out_with a t left) seat t refl;
        layout = laid_neither n w s j m low (out_with a t left) seat s.words s.front (out_with a t left) refl refl
            j.layout;
        order = order_looks n w s j m low (out_with a t left) seat (out_with a t left) refl;
        unread = λ e. e;
        out = λ z. out;
      })) here

  module _ (left : List Call) where
    -- it goes on with its attempt by what the phase tells
    pub learns : (t u : Trying) → IsSeen s m (out_with outside t left)
        → AttemptStep n w (record { words = s.words; front = s.front; facets = s.facets.names }) m t u
        → Joint n w (with_view s m s.words s.front (out_with outside u left))
    learns t u here step =
        let f : View = out_with outside t left in
        let g : View = out_with outside u left in
        goes n w s j m low f here s.words g (record {
          quiet = size;
          held = refl;
          left = refl;
          trace = refl;
          names = tries n w s j m low f here u step;
          layout = laid_neither n w s j m low f here s.words s.front g refl refl j.layout;
          order = order_looks n w s j m low f here g refl;
          unread = λ e. e;
          out = λ z. tt;
        })

    -- it loads the phase, and is to ask for the next cycle
    pub asks_next : (t : Trying) (cycle : ℕ) → IsSeen s m (out_with outside t left)
        → cycle ≡ cycle_of (phase_at (word_at n s.words phase)) → cycle ≢ n.cycles
        → Joint n w (with_view s m s.words s.front (out_with (asking (cycle + 1)) (trying.Asked (cycle + 1)) left))
    unfolding phase_of
    asks_next t cycle here is more =
        let f : View = out_with outside t left in
        let now = cycle_of (phase_at (word_at n s.words phase)) in
        let g : View = out_with (asking (now + 1)) (trying.Asked (now + 1)) left in
        subst (λ c. Joint n w (with_view s m s.words s.front (out_with (asking (c + 1)) (trying.Asked (c + 1)) left)))
        (sym is)
        (goes n w s j m low f here s.words g (record {
          quiet = size;
          held = refl;
          left = refl;
          trace = refl;
          names = tries n w s j m low f here (trying.Asked (now + 1)) (Asks t);
          layout = laid_neither n w s j m low f here s.words s.front g refl refl j.layout;
          order = order_by n w s j m low f here
              (record { words = s.words; facets = set s.facets.phases m (mutating (asking (now + 1))) })
              (phases.Asks m here.phase (λ e. more (is ∙ e)) refl);
          unread = λ e. e;
          out = λ z. tt;
        }))

    -- and asks
    pub demands : (cycle : ℕ) (t : Trying) → IsSeen s m (out_with (asking cycle) t left)
        → Joint n w (with_view s m (set s.words (index n demand) (max (word_at n s.words demand) cycle)) s.front
        (out_with outside t left))
    demands cycle t here =
        let f : View = out_with (asking cycle) t left in
        let g : View = out_with outside t left in
        let v = max (word_at n s.words demand) cycle in
        let us = set s.words (index n demand) v in
        goes n w s j m low f here us g (record {
          quiet = quiet_at n s.words demand v j.names.hold.size tt quiet_demand;
          held = refl;
          left = refl;
          trace = refl;
          names = not_tried n w s j m low f here t refl;
          layout = laid_neither n w s j m low f here us s.front g refl refl
              (laid_elsewhere demand v tt demand_off (λ e. omega arith) (λ e. omega arith) (λ e. omega arith));
          order = order_by n w s j m low f here
              (record { words = us; facets = set s.facets.phases m (mutating outside) })
              (phases.Demands m cycle here.phase refl);
          unread = λ e. e;
          out = λ z. tt;
        })

    -- at its end it counts itself finished
    pub finishes : (t : Trying) (v : ℕ) → IsSeen s m (out_with outside t left)
        → Joint n w (with_view s m (set s.words (index n finished) v) s.front (out_with outside t left))
    finishes t v here =
        let f : View = out_with outside t left in
        let us = set s.words (index n finished) v in
        goes n w s j m low f here us f (record {
          quiet = quiet_at n s.words finished v j.names.hold.size tt quiet_finished;
          held = refl;
          left = refl;
          trace = refl;
          names = not_tried n w s j m low f here t refl;
          layout = laid_neither n w s j m low f here us s.front f refl refl
              (laid_elsewhere finished v tt finished_off (λ e. omega arith) (λ e. omega arith) (λ e. omega arith));
          order = order_unseen n w s j m low f here finished v tt (λ e. e) f refl;
          unread = λ e. e;
          out = λ z. tt;
        })

    -- ---- a collect is answered
    mutator_of : m < length w.programs
    mutator_of = subst (λ k. m < k) (sym j.script.facts.mutators) low

    rows : m < length (state_of w s.front.history).roots
    rows = subst (λ k. m < k) (sym (has_roots w s.front.history j.names.hold.answers.lawful.legal).rows) mutator_of

    pub spends : (t : Trying) → IsSeen s m (out_with outside t (call.Collect ∷ left))
        → cycle_of (phase_of n s.words) ≡ n.cycles
        → Joint n w (with_view s m s.words (with_point s.front (Did m call.Collect reply.Spent))
        (out_with outside trying.Nothing left))
    spends t here all =
        let f : View = out_with outside t (call.Collect ∷ left) in
        let g : View = out_with outside trying.Nothing left in
        let front = with_point s.front (Did m call.Collect reply.Spent) in
        let facts = j.script.facts in
        let snaps = j.names.hold.table.cycle in
        let cycles = cycles_stay w s.front.history j.names.hold.answers.lawful.legal in
        let same = facts.cycles in
        says n w s j m low f here s.words call.Collect reply.Spent g (record {
          quiet = size;
          held = refl;
          left = refl;
          trace = refl;
          nothing = refl;
          decision = Spends mutator_of (all ∙ sym same);
          lawful = (
            rows,
            (let e : (state_of w s.front.history).snaps ≡ (state_of w s.front.history).cycles =
                omega arith in e),
          );
          objects = tt;
          layout = laid_neither n w s j m low f here s.words front g refl refl
              (retold n w s j m low f here (Did m call.Collect reply.Spent) s.words s.facets.gates s.facets.works
              (λ name. refl) (λ tablet. refl) j.layout);
          order = order_looks n w s j m low f here g refl;
          unread = λ e. e;
          out = λ z. tt;
        })

    pub collects : (k : ℕ) → IsSeen s m (out_with outside (trying.Asked k) (call.Collect ∷ left)) → 1 ≤ k
        → IsToldFinished (phase_of n s.words) k
        → Joint n w (with_view s m s.words (with_point s.front (Did m call.Collect (reply.Cycle k)))
        (out_with outside trying.Nothing left))
    collects k here some told =
        let f : View = out_with outside (trying.Asked k) (call.Collect ∷ left) in
        let g : View = out_with outside trying.Nothing left in
        let front = with_point s.front (Did m call.Collect (reply.Cycle k)) in
        let snaps = j.names.hold.table.cycle in
        says n w s j m low f here s.words call.Collect (reply.Cycle k) g (record {
          quiet = size;
          held = refl;
          left = refl;
          trace = refl;
          nothing = refl;
          decision = Collects k mutator_of here.trying told;
          lawful = (rows, some, (let e : k ≤ (state_of w s.front.history).snaps = omega arith in e));
          objects = tt;
          layout = laid_neither n w s j m low f here s.words front g refl refl
              (retold n w s j m low f here (Did m call.Collect (reply.Cycle k)) s.words s.facets.gates
              s.facets.works (λ name. refl) (λ tablet. refl) j.layout);
          order = order_looks n w s j m low f here g refl;
          unread = λ e. e;
          out = λ z. tt;
        })
