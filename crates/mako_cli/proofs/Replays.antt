-- The front of a replay, from what it answers.
use Rattle.std.proofs.Common.{ℕ, ◌≡◌, ◌⊎◌, ◌↔◌, IsTrue, Bool, true, false, inl, inr, refl, sym, ◌∙◌}
use Rattle.std.proofs.lemmas.Bool.{false≢true}
use Rattle.mako_core.specs.Endings.{AllAtEnd}
use Rattle.mako_model.specs.Answering.{Answers, AnswersToEnd}
use Rattle.mako_model.specs.Fronts.{Seen}
use Rattle.mako_script.specs.ScriptFacts.{facts_of}
use Rattle.mako_script.specs.Scripts.{ScriptView}
use Rattle.mako_replay.specs.Runs.{AreAllAtEnd, after}
use Rattle.mako_replay.specs.declared.order.Order.{Order}
use Rattle.mako_cli.specs.Settling.{IsFrontOf}

-- what a replay answers, by whether every mutator is at its end
pub front_of_replay : (finished : Bool) (order : Order) (steps made : ℕ) (script : ScriptView) (front : Seen) →
    front ≡ (after script order steps).state.front → made ≡ (after script order steps).made →
    (made ≡ steps) ⊎ AreAllAtEnd (after script order steps).state.seats →
    (IsTrue finished ↔ AllAtEnd script.numbers (after script order steps).state.seats) →
    Answers (facts_of script) front → (IsTrue finished → AnswersToEnd (facts_of script) front) →
    IsFrontOf order steps script finished front
front_of_replay true order steps made script front run count ends told answers all =
    record { run = run; ending = told.0 refl; answers = all refl }
front_of_replay false order steps made script front run count ends told answers all = record {
  run = run;
  ending = (
    λ all. false≢true (told.1 all),
    elim ends [ inl e ↦ sym count ∙ e | inr seats ↦ absurd (false≢true (told.1 (λ m v low is. seats m v is))) ],
  );
  answers = answers;
}
