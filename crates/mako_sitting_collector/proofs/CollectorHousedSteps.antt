-- The steps of the choice find each home as it was stored, and store homes as they keep them.
use Rattle.std.proofs.Common.{◌≡◌, ◌≢◌, ℕ, ◌+◌, ◌*◌, ◌<◌, ◌==◌, cond, inl, inr, Bool, List, [], ◌∷◌, ◌++◌, sym, ap}
use Rattle.std.proofs.Common.{subst, refl, ◌∙◌, eq-eqb}
use Rattle.std.proofs.lemmas.Bool.{cases_eq, ne_eqb}
use Rattle.mako_shape.specs.declared.numbers.Numbers.{Numbers}
use Rattle.mako_shape.specs.Places.{home, top, leaving, live, index, word_at}
use Rattle.mako_shape.proofs.PlaceLaws.{word_same, word_other}
use Rattle.mako_step.specs.Acts.{finds}
use Rattle.mako_step.specs.declared.act.Act.{Act}
use Rattle.mako_step.specs.declared.step.Step.TheVariants.{Do}
use Rattle.mako_step.specs.Trails.{steps}
use Rattle.mako_model.specs.Legal.{Facts}
use Rattle.mako_joint.specs.Joints.{JointScene}
use Rattle.mako_pause.specs.Collecting.{Holdings, Collecting, at, next_of, Fits, fed, chosen_tablet}
use Rattle.mako_cycles.specs.Housing.{Housed, FindsHome, homes_after, given_after, housed_opening}
use Rattle.mako_pause.specs.declared.stage.ChoiceStage.{ChoiceStage}
use Rattle.mako_pause.specs.declared.stage.ChoiceStage.TheVariants.{LoadingLive, LoadingTop, LoadingHome}
use Rattle.mako_pause.specs.declared.stage.ChoiceStage.TheVariants.{StoringLeaving, StoringHome, StoringTop}
use Rattle.mako_pause.specs.declared.stage.ChoiceStage.TheVariants.{StoringEvac, Opening as Reopening}
use Rattle.mako_pause.specs.declared.stage.CollectStage.TheVariants.{Choosing}
use Rattle.mako_collecting.specs.Laws.{Stands}
use Rattle.mako_collecting.specs.Steps.{words_next, collector_next}
use Rattle.mako_collecting.proofs.Stays.{load_leaves}
use Rattle.mako_sitting_collector.specs.CollectorChoices.{IsOfChoice}
use Rattle.mako_sitting_collector.specs.CollectorHoused.{IsHoused, ChoicesStayHoused}

pub goes_on : (n : Numbers) (words us : List ℕ) (c : Collecting) (act : Act) (x : ℕ) (h : IsHoused n words c)
    → next_of c ≡ Do act → Fits c x → FindsHome c.kept c.stage h.homes x
    → ((t : ℕ) → t < n.servers * n.tablets → homes_after c.kept c.stage h.homes t ≡ word_at n us (home t))
    → IsHoused n us (fed c x)
goes_on n words us c act x h does fits found stored =
    let v : Housed = record { collector = c; homes = h.homes; given = h.given } in record {
      script = h.script;
      shape = h.shape;
      trail = h.trail ++ record { act = act; found = x } ∷ [];
      homes = homes_after c.kept c.stage h.homes;
      given = given_after c.kept c.stage h.given;
      goes = steps (housed_opening h.script) v h.trail act x h.goes does (fits, found);
      stored = stored;
    }

module _ (w : Facts) (s : JointScene) (places : ℕ → ℕ) (k : Holdings) where
  abbrev n : Numbers
  n = k.shape

  abbrev After : ChoiceStage → Type 0
  After stage = IsHoused n (words_next (at k (Choosing stage)) s.words)
      (collector_next (at k (Choosing stage)) s.words)

  same_home : (i : ℕ) (t : ℕ) → word_at n s.words (home t)
      ≡ word_at n (words_next (at k (Choosing (LoadingHome i))) s.words) (home t)
  same_home i t = ap (λ (us : List ℕ). word_at n us (home t))
      (sym (load_leaves s.words (index n (home (chosen_tablet k i)))))

  moved_home : (homes : ℕ → ℕ) (u region t : ℕ) (us : List ℕ)
      → (word_at n us (home u) ≡ region) → (t ≢ u → homes t ≡ word_at n us (home t))
      → cond (t == u) region (homes t) ≡ word_at n us (home t)
  moved_home homes u region t us is other = elim (cases_eq t u) [
    | inl e ↦
        ap (λ (b : Bool). cond b region (homes t)) (eq-eqb t u e) ∙ sym is
        ∙ ap (λ (x : ℕ). word_at n us (home x)) (sym e)
    | inr d ↦ ap (λ (b : Bool). cond b region (homes t)) (ne_eqb t u d) ∙ other d
  ]

  housed_at : (stage : ChoiceStage) → IsOfChoice stage → Stands n w s places (at k (Choosing stage))
      → Fits (at k (Choosing stage)) (finds (next_of (at k (Choosing stage))) s.words)
      → IsHoused n s.words (at k (Choosing stage)) → After stage
  housed_at (LoadingLive r place) is x fits h =
      goes_on n s.words (words_next (at k (Choosing (LoadingLive r place))) s.words)
      (at k (Choosing (LoadingLive r place))) _ (finds (next_of (at k (Choosing (LoadingLive r place)))) s.words) h refl
      fits tt
      (λ t low. h.stored t low
      ∙ ap (λ (us : List ℕ). word_at n us (home t))
      (sym (load_leaves s.words (index n (live (r * n.tablets + place))))))
  housed_at (LoadingTop r place number) is x fits h =
      goes_on n s.words (words_next (at k (Choosing (LoadingTop r place number))) s.words)
      (at k (Choosing (LoadingTop r place number))) _
      (finds (next_of (at k (Choosing (LoadingTop r place number)))) s.words) h refl fits tt
      (λ t low. h.stored t low
      ∙ ap (λ (us : List ℕ). word_at n us (home t)) (sym (load_leaves s.words (index n (top (r * n.tablets + place))))))
  housed_at (LoadingHome i) is x fits h =
      goes_on n s.words (words_next (at k (Choosing (LoadingHome i))) s.words) (at k (Choosing (LoadingHome i))) _
      (finds (next_of (at k (Choosing (LoadingHome i)))) s.words) h refl fits
      (sym (h.stored (chosen_tablet k i) (x.known.chosen i 0 x.keeps.stage.1))) (λ t low. h.stored t low
      ∙ same_home i t)
  housed_at (StoringLeaving i gift) is x fits h =
      let inside = x.known.chosen i 0 x.keeps.stage.1.0 in
      goes_on n s.words (words_next (at k (Choosing (StoringLeaving i gift))) s.words)
      (at k (Choosing (StoringLeaving i gift))) _ (finds (next_of (at k (Choosing (StoringLeaving i gift)))) s.words) h
      refl fits tt
      (λ t low. h.stored t low
      ∙ sym (word_other n s.words (leaving (chosen_tablet k i)) (home t) (gift.former + 1) inside low (λ e. cc)))
  housed_at (StoringHome i gift) is x fits h =
      let inside = x.known.chosen i 0 x.keeps.stage.1.0 in
      let us : List ℕ = words_next (at k (Choosing (StoringHome i gift))) s.words in
      goes_on n s.words us (at k (Choosing (StoringHome i gift))) _
      (finds (next_of (at k (Choosing (StoringHome i gift)))) s.words) h refl fits tt
      (λ t low. moved_home h.homes (chosen_tablet k i) gift.region t us
      (word_same n s.words (home (chosen_tablet k i)) gift.region x.joint.names.hold.size inside)
      (λ d. h.stored t low
      ∙ sym (word_other n s.words (home (chosen_tablet k i)) (home t) gift.region inside low (λ e. d cc))))
  housed_at (StoringTop i) is x fits h =
      let inside = x.known.chosen i 0 x.keeps.stage.1 in
      goes_on n s.words (words_next (at k (Choosing (StoringTop i))) s.words) (at k (Choosing (StoringTop i))) _
      (finds (next_of (at k (Choosing (StoringTop i)))) s.words) h refl fits tt
      (λ t low. h.stored t low
      ∙ sym (word_other n s.words (top (chosen_tablet k i)) (home t) 0 inside low (λ e. cc)))
  housed_at StoringEvac is x fits h = absurd is
  housed_at (Reopening m) is x fits h = absurd is

pub choices_stay_housed : ChoicesStayHoused
choices_stay_housed n w s places k stage is stands fits h =
    subst (λ m. Stands m w s places (at k (Choosing stage)) → IsHoused m s.words (at k (Choosing stage))
    → IsHoused m (words_next (at k (Choosing stage)) s.words) (collector_next (at k (Choosing stage)) s.words))
    stands.seat.shape (λ x y. housed_at w s places k stage is x fits y) stands h
