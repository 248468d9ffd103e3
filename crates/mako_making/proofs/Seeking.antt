-- A mutator inside of its gate, on its way to a new object: acts at gates and turns, loads, and stores of words that
-- names, tracing and the order of the phases do not read.
use Rattle.std.proofs.Common.{◌≡◌, ℕ, ◌<◌, inl, Bool, true, false, List, [], set, None, Some, sym, ap, subst, refl, ◌∙◌}
use Rattle.std.proofs.Common.{arith}
use Rattle.mako_shape.specs.declared.numbers.Numbers.{Numbers}
use Rattle.mako_shape.specs.Places.{Place, tablet_gate, turn, top, region_word, index, Within, word_at}
use Rattle.mako_gate.specs.Changes.{Makes}
use Rattle.mako_gate.specs.GateActions.{GateAction}
use Rattle.mako_gate.specs.Standings.{Standing, mutator_at, admitted_own}
use Rattle.mako_gate.proofs.Changes.{acts_make}
use Rattle.mako_step.specs.Acts.{after_op, words_after}
use Rattle.mako_step.specs.declared.act.Op.{Op}
use Rattle.mako_model.specs.declared.call.Call.{Call}
use Rattle.mako_model.specs.declared.call.Call.TheVariants as call
use Rattle.mako_model.specs.Legal.{Facts}
use Rattle.mako_names.specs.Steps.{NameScene, NamesHoldIn, AttemptStep}
use Rattle.mako_names.specs.Trying as trying
use Rattle.mako_names.specs.Trying.{Trying}
use Rattle.mako_ring.specs.TraceFacets.{apart}
use Rattle.mako_layout.specs.Facets.{Work, idle}
use Rattle.mako_layout.specs.Beside.{IsReading}
use Rattle.mako_layout.specs.Evacuations.{Evacuation}
use Rattle.mako_layout.specs.Steps.Step.{acts}
use Rattle.mako_layout.proofs.EachStep.{each_step_keeps}
use Rattle.mako_phases.specs.Facets.{inside}
use Rattle.mako_phases.specs.Steps.{IsPhaseWord}
use Rattle.mako_joint.specs.Joints.{JointScene, names_in, layout_in, Joint}
use Rattle.mako_state.proofs.Gates.{IsGate}
use Rattle.mako_state.proofs.Words.{stored_off_layout}
use Rattle.mako_mutating.specs.MutatorFacets.{last_at}
use Rattle.mako_mutating.specs.Mutators.{IsSeen, View, with_view}
use Rattle.mako_making.proofs.Seated.{IsQuietPlace, quiet_all, quiet_at}
use Rattle.mako_making.proofs.SeatKinds.{tried, not_tried, tries, tries_twice, order_looks, order_unseen, laid}
use Rattle.mako_making.proofs.SeatKinds.{laid_gate, laid_work, laid_neither, goes}

-- inside of its gate, with no name to use
abbrev pub in_with : Standing → Work → Trying → List Call → View
in_with p u t left = record {
  standing = p;
  work = u;
  trace = apart;
  admission = inside None;
  held = [];
  trying = t;
  left = left;
}

-- a place that neither names nor tracing, polls or the order of the phases read
pub record IsUnseen (p : Place) : Type 0 where
  pub quiet : IsQuietPlace p
  pub phases : IsPhaseWord p → ⊥

pub unseen_gate : (t : ℕ) → IsUnseen (tablet_gate t)
unseen_gate t = record {
  quiet = record { names = λ e. e; trace = λ e. e; polled = λ e. e };
  phases = λ e. e;
}

pub unseen_turn : (t : ℕ) → IsUnseen (turn t)
unseen_turn t = record {
  quiet = record { names = λ e. e; trace = λ e. e; polled = λ e. e };
  phases = λ e. e;
}

pub unseen_top : (t : ℕ) → IsUnseen (top t)
unseen_top t = record {
  quiet = record { names = λ e. e; trace = λ e. e; polled = λ e. e };
  phases = λ e. e;
}

pub unseen_record : (r o : ℕ) → IsUnseen (region_word r o)
unseen_record r o = record {
  quiet = record { names = λ e. e; trace = λ e. e; polled = λ e. e };
  phases = λ e. e;
}

module _ (n : Numbers) (w : Facts) (s : JointScene) (j : Joint n w s) (m : ℕ) (low : m < n.mutators) (p : Standing)
    (u : Work) (t : Trying) (left : List Call) (here : IsSeen s m (in_with p u t left)) where
  abbrev f : View
  f = in_with p u t left

  -- ---- what it knows of its attempt
  abbrev pub knowing : Trying → NameScene
  knowing v = tried n w s j m low f here v

  pub as_before : NamesHoldIn n w (knowing t)
  as_before = not_tried n w s j m low f here t refl

  -- the last attempt of a new goes on; of any other nothing is known
  module _ (q fields a b c d : ℕ) where
    pub learns_of : (last : Bool) → t ≡ last_at last (call.New q fields) a b
        → AttemptStep n w (names_in s) m (trying.Last fields a b) (trying.Last fields c d)
        → NamesHoldIn n w (knowing (last_at last (call.New q fields) c d))
    learns_of true e step =
        tries n w s j m low f here (trying.Last fields c d)
        (subst (λ v. AttemptStep n w (names_in s) m v (trying.Last fields c d)) (sym e) step)
    learns_of false e step = not_tried n w s j m low f here trying.Nothing (sym e)

    pub learns_both : (last : Bool) (g h : ℕ) → t ≡ last_at last (call.New q fields) a b
        → AttemptStep n w (names_in s) m (trying.Last fields a b) (trying.Last fields g h)
        → AttemptStep n w (knowing (trying.Last fields g h)) m (trying.Last fields g h) (trying.Last fields c d)
        → NamesHoldIn n w (knowing (last_at last (call.New q fields) c d))
    learns_both true g h e step more =
        tries_twice n w s j m low f here (trying.Last fields g h) (trying.Last fields c d)
        (subst (λ v. AttemptStep n w (names_in s) m v (trying.Last fields g h)) (sym e) step) more
    learns_both false g h e step more = not_tried n w s j m low f here trying.Nothing (sym e)

  pub learns_now : (v : Trying) → AttemptStep n w (names_in s) m t v → NamesHoldIn n w (knowing v)
  learns_now v step = tries n w s j m low f here v step

  -- ---- a load, after which its work is another
  pub loads : (u' : Work) (t' : Trying) → admitted_own p ≡ 1 → (IsReading u' → ⊥) → NamesHoldIn n w (knowing t')
      → Evacuation n (laid n w s s.words s.front s.facets.gates (set s.facets.works m u'))
      → Joint n w (with_view s m s.words s.front (in_with p u' t' left))
  loads u' t' in_ unread names kept =
      let g : View = in_with p u' t' left in
      goes n w s j m low f here s.words g (record {
        quiet = quiet_all n s.words j.names.hold.size;
        held = refl;
        left = refl;
        trace = refl;
        names = names;
        layout = laid_work n w s j m low f here s.words s.front g refl kept;
        order = order_looks n w s j m low f here g refl;
        unread = unread;
        out = λ z. omega arith;
      })

  -- a load after which it is as it was
  pub looks : (t' : Trying) → admitted_own p ≡ 1 → (IsReading u → ⊥) → NamesHoldIn n w (knowing t')
      → Joint n w (with_view s m s.words s.front (in_with p u t' left))
  looks t' in_ unread names =
      let g : View = in_with p u t' left in
      goes n w s j m low f here s.words g (record {
        quiet = quiet_all n s.words j.names.hold.size;
        held = refl;
        left = refl;
        trace = refl;
        names = names;
        layout = laid_neither n w s j m low f here s.words s.front g refl refl j.layout;
        order = order_looks n w s j m low f here g refl;
        unread = unread;
        out = λ z. omega arith;
      })

  -- ---- a store, after which its work is another
  module _ (place : Place) (v : ℕ) (within : Within n place) (unseen : IsUnseen place) where
    abbrev us : List ℕ
    us = set s.words (index n place) v

    pub stores : (u' : Work) → admitted_own p ≡ 1 → (IsReading u' → ⊥)
        → Evacuation n (laid n w s us s.front s.facets.gates (set s.facets.works m u'))
        → Joint n w (with_view s m us s.front (in_with p u' t left))
    stores u' in_ unread kept =
        let g : View = in_with p u' t left in
        goes n w s j m low f here us g (record {
          quiet = quiet_at n s.words place v j.names.hold.size within unseen.quiet;
          held = refl;
          left = refl;
          trace = refl;
          names = as_before;
          layout = laid_work n w s j m low f here us s.front g refl kept;
          order = order_unseen n w s j m low f here place v within unseen.phases g refl;
          unread = unread;
          out = λ z. omega arith;
        })

  -- ---- an act at a gate or a turn, with nothing in hand
  abbrev pub operated : Place → Op → List ℕ
  operated place op = words_after (record { word = index n place; op = op }) s.words

  pub makes : (place : Place) (op : Op) → Within n place
      → Makes n (λ r. word_at n s.words r) (λ r. word_at n (operated place op) r) place op
  makes place op within = acts_make n s.words place op j.names.hold.size within

  pub acts_at : (place : Place) (op : Op) (p' : Standing) (t' : Trying) → Within n place → IsUnseen place
      → IsGate place → u ≡ idle → admitted_own p' ≡ 1 → NamesHoldIn n w (knowing t')
      → GateAction n (λ r. word_at n s.words r) (λ r. word_at n (operated place op) r) m (mutator_at m p)
      (mutator_at m p')
      → Joint n w (with_view s m (operated place op) s.front (in_with p' u t' left))
  acts_at place op p' t' within unseen gate empty in_ names action =
      let v = after_op op (word_at n s.words place) in
      let us = operated place op in
      let g : View = in_with p' u t' left in
      goes n w s j m low f here us g (record {
        quiet = quiet_at n s.words place v j.names.hold.size within unseen.quiet;
        held = refl;
        left = refl;
        trace = refl;
        names = names;
        layout = laid_gate n w s j m low f here us s.front g refl
            (each_step_keeps n j.script.shape (layout_in n w s) m _ j.layout
            (acts (λ r. word_at n us r) m (mutator_at m p) (mutator_at m p')
            (record { gate = here.gate; work = here.work ∙ ap Some empty }) action
            (stored_off_layout n s.words place v within gate.off) (λ r. refl) (inl (λ e. omega arith))));
        order = order_unseen n w s j m low f here place v within unseen.phases g refl;
        unread = λ reading. subst IsReading empty reading;
        out = λ z. omega arith;
      })
