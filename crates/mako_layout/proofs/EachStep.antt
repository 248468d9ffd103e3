-- Each kind of step keeps the invariant.
use Rattle.std.proofs.Common.{◌≡◌, ℕ, ◌+◌, ◌*◌, ap, ◌∙◌, refl, subst, arith, inl, [], sym, ◌==◌}
use Rattle.mako_shape.specs.declared.numbers.Numbers.{Numbers}
use Rattle.mako_shape.specs.Limits.{IsShape}
use Rattle.mako_gate.specs.Standings.{keeps_shut, has_drained, mutator_at, shutter_at}
use Rattle.mako_layout.specs.Layouts.{Passed, gifts_at}
use Rattle.mako_layout.specs.Facets.{idle, holds_home, owes_home, owes_top, chooses, has_chosen, settled, debt_of}
use Rattle.mako_layout.specs.Facets.{given_of, spare_of, gift_of, times_in}
use Rattle.mako_layout.specs.Evacuations.{State, layout, Evacuation}
use Rattle.mako_layout.specs.Steps as step
use Rattle.mako_layout.specs.Steps.{Step}
use Rattle.mako_layout.proofs.GateSteps.{only_look}
use Rattle.mako_gate.proofs.GateKinds as kinds
use Rattle.mako_gate.proofs.ActionSteps.{action_step}
use Rattle.mako_layout.proofs.GateMoves.{standing_kept, act_kept, settled_step}
use Rattle.mako_layout.proofs.Debts.{collector_settled}
use Rattle.mako_layout.proofs.Passing.{passed_none, passed_next, passed_all}
use Rattle.mako_layout.proofs.Loads as load
use Rattle.mako_layout.proofs.Works as work
use Rattle.mako_layout.proofs.Objects as object
use Rattle.mako_layout.proofs.Outside.{outside_kept, made_kept}
use Rattle.mako_layout.proofs.Alone as alone
use Rattle.mako_layout.proofs.Servers as server
use Rattle.mako_shape.specs.Places.{home}
use Rattle.mako_gate.specs.Sums.{counted}
use Rattle.mako_gate.proofs.Numbers.{count_at}

pub each_step_keeps : (n : Numbers) → IsShape n → (s : State) (who : ℕ) (z : State) → Evacuation n s →
    Step n s who z → Evacuation n z
each_step_keeps n shape s _ _ e (step.acts V i f g seat act only none who) =
    act_kept n s e V only i f g idle seat (action_step n s.words V s.gates e.gates i f g seat.gate act) none who tt
each_step_keeps n shape s _ _ e (step.acts_in_use V m p q w seat reading small act only more) =
    act_kept n s e V only m (mutator_at m p) (mutator_at m q) w seat
    (action_step n s.words V s.gates e.gates m (mutator_at m p) (mutator_at m q) seat.gate act)
    (λ _. refl) (inl (λ c. omega arith))
    (standing_kept n (layout n s) s.words V (mutator_at m p) (mutator_at m q) w reading more (λ t. omega arith)
    (e.knows m (mutator_at m p) w seat.gate seat.work))
each_step_keeps n shape s _ _ e (step.drains V i u seat act only debt) =
    settled_step n s e V only i (shutter_at i (keeps_shut u)) (shutter_at i (has_drained u (u * n.entries))) idle seat
    (action_step n s.words V s.gates e.gates i (shutter_at i (keeps_shut u))
    (shutter_at i (has_drained u (u * n.entries))) seat.gate act)
    debt (λ t b is. let a : u ≡ t = cc in let c : u * n.entries ≡ b = cc in
    subst (λ q. Passed n (layout n s) q b) a
    (subst (λ q. Passed n (layout n s) u q) c (passed_none n (layout n s) u))) tt
each_step_keeps n shape s _ _ e (step.passes i u b x r seat same passed) =
    let known = e.knows i (shutter_at i (has_drained u b)) (holds_home x r) seat.gate seat.work in
    let at_home : r ≡ (layout n s).home u = known.region ∙ ap (layout n s).home same in
    settled_step n s e s.words (only_look n s.words) i (shutter_at i (has_drained u b))
    (shutter_at i (has_drained u (b + 1))) (holds_home x r) seat
    (kinds.passes n s.words s.words i i u b (record { tablets = λ _ _. refl; owns = λ _ _. refl; turns = λ _ _. refl }))
    (collector_settled n s e i (shutter_at i (has_drained u b)) seat.gate u (let a = count_at u u 1 refl in
    omega arith))
    (λ t c is. let a : u ≡ t = cc in let d : b + 1 ≡ c = cc in
    subst (λ q. Passed n (layout n s) q c) a (subst (λ q. Passed n (layout n s) u q) d
    (passed_next n (layout n s) u b (e.passed i u b (shutter_at i (has_drained u b)) seat.gate refl)
    (λ taken now. passed taken now ∙ at_home))))
    (standing_kept n (layout n s) s.words s.words (shutter_at i (has_drained u b))
    (shutter_at i (has_drained u (b + 1))) (holds_home x r) (λ c. c) (λ t. omega arith) (λ t. omega arith) known)
each_step_keeps n shape s _ _ e (step.load_entry i x g seat inside_ enters taken) = load.load_entry n s e i g
    seat.gate x seat.work inside_ enters taken
each_step_keeps n shape s _ _ e (step.load_home i x r o g seat found) = load.load_home n s e i g seat.gate x r o
    seat.work found
each_step_keeps n shape s _ _ e (step.forget i g w seat owes) = load.forget n s e i g seat.gate w seat.work owes
each_step_keeps n shape s _ _ e (step.keep_home i x g w seat owes inside_ there) = load.keep_home n s e i g seat.gate
    w x seat.work owes inside_ there
each_step_keeps n shape s _ _ e (step.turns_to i x y r g seat inside_ same) =
    load.turns_to n s e i g seat.gate x y r seat.work inside_ same
each_step_keeps n shape s _ _ e (step.finds_home i x y r g seat inside_ same enters taken here) = load.finds_home n s
    e i g seat.gate x y r seat.work inside_ same enters taken here
each_step_keeps n shape s _ _ e (step.finds_away i x y r g seat inside_ same writer taken epoch out) = load.finds_away
    n s e i g seat.gate x y r seat.work inside_ same writer taken epoch out
each_step_keeps n shape s _ _ e (step.load_top i x found r g seat) = load.load_top n s e i g seat.gate x found r
    seat.work
each_step_keeps n shape s _ _ e (step.load_word i x found r o j g seat more) = work.load_word n s e i g seat.gate x
    found r o j
    seat.work more
each_step_keeps n shape s _ _ e (step.store_word V i x found r o j v g seat sets) = work.store_word n s e i g
    seat.gate x found r
    o j v V seat.work sets
each_step_keeps n shape s _ _ e (step.store_moved V i x found r o g seat sets) = object.store_moved n shape s e i g
    seat.gate x found r o V seat.work sets
each_step_keeps n shape s _ _ e (step.raise_and_use V i x r o z g seat enters sets) = load.raise_and_use n s e i g
    seat.gate x r o z V seat.work enters sets
each_step_keeps n shape s _ _ e (step.raise_and_go_on V i x r o z g seat sets) = load.raise_and_go_on n s e i g
    seat.gate x r o z V seat.work sets
each_step_keeps n shape s _ _ e (step.load_leaving i x g seat inside_ turn_ stays) = load.load_leaving n s e i g
    seat.gate x seat.work inside_ turn_ stays
each_step_keeps n shape s _ _ e (step.load_room i x z g seat some fits) = load.load_room n s e i g seat.gate x z
    seat.work some fits
each_step_keeps n shape s _ _ e (step.skip_entry i x o z g seat inside_ same) = load.skip_entry n s e i g seat.gate x
    o z seat.work inside_ same
each_step_keeps n shape s _ _ e (step.find_entry i name o z g seat free next) = load.find_entry n s e i g seat.gate
    name o z seat.work free next
each_step_keeps n shape s _ _ e (step.begin_new i name o z g seat) = load.begin_new n s e i g seat.gate name o z
    seat.work
each_step_keeps n shape s _ _ e (step.store_null V i name r o z j g seat more sets) = work.store_null n s e i g
    seat.gate name r o z j V seat.work more sets
each_step_keeps n shape s _ _ e (step.raise_for_new V i name r o z g seat sets) = load.raise_for_new n s e i g
    seat.gate name r o z V seat.work sets
each_step_keeps n shape s _ _ e
    (step.store_new V h d i name r o z g seat small sets are others grown more) = object.store_new n shape s e i g
    seat.gate name r o z V h d seat.work small sets are others grown more
each_step_keeps n shape s _ _ e
    (step.store_field V h i x r o j v g fields seat were less sets are others) = object.store_field n s e i g
    seat.gate x r o j v V h seat.work fields were less sets are others
each_step_keeps n shape s _ _ e (step.outside i V h d only gates objects made) =
    made_kept n (record s { words = V; heap = h }) (outside_kept n s e V h only gates objects) d made
each_step_keeps n shape s _ _ e (step.begins_choice sl is) =
    server.choice_kept n s e (chooses settled [] sl) (sym (ap debt_of is)) (sym (ap given_of is)) (sym (ap spare_of is))
each_step_keeps n shape s _ _ e (step.ends_choice gl sl is) =
    server.choice_kept n s e (has_chosen gl sl) (sym (ap debt_of is)) (sym (ap given_of is)) (sym (ap spare_of is))
each_step_keeps n shape s _ _ e
    (step.store_leaving V t r gl gl' sl sl' paused is inside_ region mine unchosen spare sets gifts spares) =
    alone.store_leaving n s e paused (ap debt_of is) V t r gl' sl' inside_ region mine unchosen spare sets
    (λ u. gifts u ∙ ap (λ k. gift_of (given_of k) u + counted (t == u) (s.words (home t) + 1)) (sym is))
    (λ q. spares q ∙ ap (λ k. times_in (spare_of k) q) (sym is))
each_step_keeps n shape s _ _ e (step.store_home V t r gl sl inside_ is sets) = alone.store_home n s e
    (alone.paused_by n s e (owes_home t r) gl sl is (λ c. cc)) V t r gl sl inside_ is sets
each_step_keeps n shape s _ _ e (step.zero_top V t gl sl inside_ is sets) = alone.zero_top n s e
    (alone.paused_by n s e (owes_top t) gl sl is (λ c. cc)) V t gl sl inside_ is sets
each_step_keeps n shape s _ _ e (step.store_trace V v sl paused is sets) = alone.store_trace n s e paused V v sets
    (λ t _. alone.none_given n s sl is t)
each_step_keeps n shape s _ _ e (step.store_phase V v sets same) = server.store_phase n s e V v sets same
each_step_keeps n shape s _ _ e (step.store_idle V v gl sl sl' is sets same none good more) = server.store_idle n s e
    V v gl sl sl' is sets same none good
    (λ r h. more r h ∙ ap (λ k. times_in (spare_of k) r + gifts_at n (layout n s) r) (sym is))
each_step_keeps n shape s _ _ e (step.clear_leaving V i t x r seat inside_ left sets) =
    server.clear_leaving n s e i (shutter_at i (has_drained t (t * n.entries + n.entries))) seat.gate (holds_home x r)
    seat.work (λ c. c) (λ _. (refl, refl)) V t inside_ (let a = count_at t t 1 refl in omega arith) left
    (passed_all n (layout n s) t
    (e.passed i t (t * n.entries + n.entries) (shutter_at i (has_drained t (t * n.entries + n.entries))) seat.gate
    refl)) sets
each_step_keeps n shape s _ _ e (step.alter_entry i V x after p) = server.alter_entry n s e V after x p
