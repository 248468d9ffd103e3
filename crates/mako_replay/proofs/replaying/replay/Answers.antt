use Rattle.std.proofs.Common.{◌≡◌, ◌⊎◌, inl, inr, ⊎_elim, ◌↔◌, [], length, IsTrue, ℕ, List, suc, ◌+◌, ◌∷◌, eqb-true}
use Rattle.std.proofs.Common.{refl, sym, ap, ◌∙◌, subst, subst₂, arith}
use Rattle.mako_model.specs.Answering.{Answers, AnswersToEnd}
use Rattle.mako_script.specs.ScriptFacts.{facts_of}
use Rattle.mako_script.specs.Scripts.{ScriptView}
use Rattle.mako_state.specs.CoreStates.{CoreState}
use Rattle.mako_whole.specs.AllStanding.{SeatsStand}
use Rattle.mako_core.specs.Endings.{AllAtEnd}
use Rattle.mako_replay.specs.Runs.{after, at_start, times, AreAllAtEnd}
use Rattle.mako_replay.specs.Standing.{HasCome}
use Rattle.mako_replay.proofs.Live.{all_passed}
use Rattle.mako_replay.proofs.Stepping.{whole_run}
use Rattle.mako_replay.proofs.replaying.replay.Goals as goal
use Rattle.mako_replay.proofs.replaying.replay.Goals.{then-loop-running-test+else-not-is_empty, else-loop-running-test}

none_left : (xs : List ℕ) → length xs ≡ 0 → xs ≡ []
none_left [] none = refl
none_left (x ∷ xs) none = absurd (omega arith)

pub loop-running-preserved : goal.loop-running-preserved
loop-running-preserved c =
    let one : c.step.new.self.steps_made ≡ c.loop-running.running.steps_made + 1 = c.step.ensures.made in
    let more : c.step.new.self.steps_made ≡ suc c.loop-running.running.steps_made = omega arith in
    record {
      script = c.step.ensures.script ∙ c.loop-running.invariant.script;
      live = c.step.ensures.live;
      most = omega arith;
      come = subst (λ (k : ℕ). HasCome c.step.new.self (times k (at_start c.args.script.now c.args.order))) (sym more)
          (c.step.ensures.come _ c.loop-running.invariant.come);
      ready = c.step.ensures.ready;
    }

pub step-requires-clause-ready : goal.step-requires-clause-ready
step-requires-clause-ready c = c.loop-running.invariant.ready

pub returns : goal.returns
returns c =
    let r = c.loop-running.running in
    let inv = c.loop-running.invariant in
    let script : r.core.script ≡ c.args.script.now = inv.script in
    let stops : (r.steps_made ≡ c.args.steps) ⊎ (r.live.items ≡ []) = elim c.loop-running-test.branch [
      | then-loop-running-test+else-not-is_empty w ↦ inr (none_left r.live.items (
          let none : r.live.len ≡ 0 = eqb-true r.live.len 0 (sym w.is_empty.ensures ∙ w.if-not-is_empty.false) in
          omega (arith, r.live.ok.0)))
      | else-loop-running-test w ↦ inl (omega arith)
    ] in
    let come = whole_run r c.args.script.now c.args.order c.args.steps inv.come inv.live inv.most stops in
    let state : r.core.state ≡ (after c.args.script.now c.args.order c.args.steps).state = come.state in
    let holds : SeatsStand c.args.script.now.numbers (facts_of c.args.script.now) r.core.state =
    subst (λ (s : ScriptView). SeatsStand s.numbers (facts_of s) r.core.state) script c.finish.ensures.holds in
    record {
      run = c.finish.ensures.front ∙ ap (λ (st : CoreState). st.front) state;
      made = come.made;
      most = inv.most;
      ends = ⊎_elim inl (λ none. inr (subst (λ (st : CoreState). AreAllAtEnd st.seats) state
          (all_passed 0 r.core.state.seats (sym inv.live ∙ none)))) stops;
      finished = subst₂ (λ (s : ScriptView)
          (st : CoreState). IsTrue c.is_finished-finished.result ↔ AllAtEnd s.numbers st.seats)
          script state c.is_finished-finished.ensures;
      whole = c.finish.ensures.whole;
      freed = c.finish.ensures.freed;
      lists = c.finish.ensures.lists ∙ ap (λ (s : ScriptView). length s.programs) script;
      answers = subst (λ (s : ScriptView). Answers (facts_of s) c.finish.result.front) script c.finish.ensures.answers;
      end = λ yes_. subst (λ (s : ScriptView). AnswersToEnd (facts_of s) c.finish.result.front) script
          (c.finish.ensures.end (c.is_finished-finished.ensures.0 yes_));
      holds = subst (SeatsStand c.args.script.now.numbers (facts_of c.args.script.now)) state holds;
    }
