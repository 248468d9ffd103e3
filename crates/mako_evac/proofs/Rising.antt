-- Names are freed in rising order, and a whole run ends with the notice of the end.
use Rattle.std.proofs.Common.{◌≡◌, ℕ, ◌+◌, ◌<◌, ◌≤◌, List, ◌++◌, append_assoc, ap, ◌∙◌, subst, arith}
use Rattle.std.specs.List.{All, AllPairs}
use Rattle.std.proofs.lemmas.List.Elements.{All-push, All-nil}
use Rattle.std.proofs.lemmas.List.Quantifiers.{all_pairs_push}
use Rattle.mako_words.specs.declared.name.Name.{Name}
use Rattle.mako_step.specs.Trails.{Observation}
use Rattle.mako_evac.specs.declared.owner.Owner.{Owner}
use Rattle.mako_evac.specs.declared.stage.EvacStage.{EvacStage}
use Rattle.mako_evac.specs.Owners.{first_tablet, tablets_end, first_entry}
use Rattle.mako_evac.specs.Freeing.{name_of}
use Rattle.mako_evac.specs.Runs.{EntriesPassed}
use Rattle.mako_evac.specs.Runs.EntriesPassed.{none, keeps, frees}
use Rattle.mako_evac.specs.Evidence.{Evidence}
use Rattle.mako_evac.specs.Rising.{Rise, EvacuationsEnd}
use Rattle.mako_evac.proofs.Shown.{evacuations_go}

-- the names so far are of entries from the first own one on and below this one, and rise
record RiseTo (o : Owner) (x : ℕ) (names : List Name) : Type 0 where
  here : first_entry o.shape (first_tablet o) ≤ x
  from : All (λ a. first_entry o.shape (first_tablet o) ≤ a.entry) names
  below : All (λ a. a.entry < x) names
  rising : AllPairs (λ a b. a.entry < b.entry) names

rise_to : (o : Owner) (at x slot : ℕ) (trail : List Observation) (names : List Name)
    → EntriesPassed o at x trail names slot → RiseTo o x names
rise_to o at _ _ _ _ none = record {
  here = omega arith;
  from = All-nil (λ a. first_entry o.shape (first_tablet o) ≤ a.entry);
  below = All-nil (λ a. a.entry < first_entry o.shape (first_tablet o));
  rising = λ i j d low high. absurd (omega (arith, high));
}
rise_to o at _ _ _ _ (keeps x word slot trail names passed not_dead) =
    let before = rise_to o at x slot trail names passed in
    let here = before.here in
    record {
      here = omega (arith, here);
      from = before.from;
      below = λ k d h. (let b = before.below k d h in omega (arith, b));
      rising = before.rising;
    }
rise_to o at _ _ _ _ (frees x generation slot trail own names passed told) =
    let before = rise_to o at x slot trail names passed in
    let here = before.here in
    record {
      here = omega (arith, here);
      from = All-push (λ a. first_entry o.shape (first_tablet o) ≤ a.entry) names
          (name_of x generation) before.from here;
      below = All-push (λ a. a.entry < x + 1) names (name_of x generation) (λ k d h. (let b = before.below k d h in
          omega (arith, b))) (omega arith);
      rising = all_pairs_push (λ (a b : Name). a.entry < b.entry) names (name_of x generation) before.rising
          (λ k d h. before.below k d h);
    }

rise : (o : Owner) (at slot : ℕ) (trail : List Observation) (names : List Name)
    → EntriesPassed o at (first_entry o.shape (tablets_end o)) trail names slot → Rise o names
rise o at slot trail names passed =
    let to = rise_to o at (first_entry o.shape (tablets_end o)) slot trail names passed in
    record { own = λ k d h. record { from = to.from k d h; below = to.below k d h }; rising = to.rising }

-- a trail in four parts
in_order : (trail front middle tablets entries looks end : List Observation) → trail ≡ front ++ end
    → front ≡ middle ++ looks → middle ≡ tablets ++ entries →
    trail ≡ tablets ++ (entries ++ (looks ++ end))
in_order trail front middle tablets entries looks end e f g =
    e ∙ (ap (λ (q : List Observation). q ++ end) (f ∙ ap (λ (q : List Observation). q ++ looks) g)
    ∙ (append_assoc (tablets ++ entries) looks end ∙ append_assoc tablets entries (looks ++ end)))

pub evacuations_end : EvacuationsEnd
evacuations_end o at trail l owner below goes ended =
    let told = subst (λ (s : EvacStage). Evidence o at s l.at trail) ended
    (evacuations_go o at trail l owner below goes).1 in
    let passed = told.waited.passed in (
      told.waited.names,
      record {
        tablets = passed.tablets;
        entries = passed.entries;
        looks = told.waited.own;
        last = told.last;
        before = told.before;
        tablets_passed = passed.tablets_passed;
        entries_passed = passed.entries_passed;
        empty = told.waited.shown;
        made = in_order trail told.front told.waited.front passed.tablets passed.entries told.waited.own _ told.made
            told.waited.made passed.made;
        rise = rise o at told.last passed.entries told.waited.names passed.entries_passed;
        slot_is = told.slot_is;
      },
    )
