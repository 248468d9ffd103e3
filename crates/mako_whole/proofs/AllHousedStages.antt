-- The collector finds each home as it stored it at every stage: but for the choice it loads and stores no home.
use Rattle.std.proofs.Common.{◌≡◌, ℕ, ◌*◌, ◌<◌, List, sym, ap, subst, refl, ◌∙◌}
use Rattle.mako_shape.specs.declared.numbers.Numbers.{Numbers}
use Rattle.mako_shape.specs.Places.{home, word_at}
use Rattle.mako_step.specs.Acts.{finds, words_stepped}
use Rattle.mako_step.specs.Machines.{IsAct}
use Rattle.mako_step.specs.declared.step.Step.{Step}
use Rattle.mako_step.specs.declared.step.Step.TheVariants.{Do, Ended as NoStep}
use Rattle.mako_model.specs.Legal.{Facts}
use Rattle.mako_poll.specs.Polls as polls
use Rattle.mako_joint.specs.Joints.{JointScene}
use Rattle.mako_cycles.specs.Housing.{FindsHome, homes_after}
use Rattle.mako_pause.specs.Collecting as collecting
use Rattle.mako_pause.specs.Collecting.{Holdings, Collecting, at, next_of, fed, stage_next, Fits}
use Rattle.mako_pause.specs.declared.stage.IdleStage.{IdleStage}
use Rattle.mako_pause.specs.declared.stage.IdleStage.TheVariants.{LoadingDemand, LookingFinished, StoringStop}
use Rattle.mako_pause.specs.declared.stage.PauseStage.{PauseStage}
use Rattle.mako_pause.specs.declared.stage.PauseStage.TheVariants.{Shutting, Draining, LoadingRoot, StoringTrace}
use Rattle.mako_pause.specs.declared.stage.PauseStage.TheVariants.{Opening}
use Rattle.mako_pause.specs.declared.stage.ForwardStage.{ForwardStage}
use Rattle.mako_pause.specs.declared.stage.ForwardStage.TheVariants.{Looking, Storing}
use Rattle.mako_pause.specs.declared.stage.BarrierStage.{BarrierStage}
use Rattle.mako_pause.specs.declared.stage.BarrierStage.TheVariants.{Loading, Clearing}
use Rattle.mako_pause.specs.declared.stage.ChoiceStage.{ChoiceStage}
use Rattle.mako_pause.specs.declared.stage.ChoiceStage.TheVariants.{LoadingLive, LoadingTop, LoadingHome}
use Rattle.mako_pause.specs.declared.stage.ChoiceStage.TheVariants.{StoringLeaving, StoringHome, StoringTop}
use Rattle.mako_pause.specs.declared.stage.ChoiceStage.TheVariants.{StoringEvac, Opening as Reopening}
use Rattle.mako_pause.specs.declared.stage.NoticeStage.{NoticeStage}
use Rattle.mako_pause.specs.declared.stage.NoticeStage.TheVariants.{Looking as NoticeLook, Clearing as NoticeClear}
use Rattle.mako_pause.specs.declared.stage.NoticeStage.TheVariants.{StoringIdle}
use Rattle.mako_pause.specs.declared.stage.CollectStage.{CollectStage}
use Rattle.mako_pause.specs.declared.stage.CollectStage.TheVariants.{Idle, Pausing, Forwarding, Barriers, Emptying}
use Rattle.mako_pause.specs.declared.stage.CollectStage.TheVariants.{Polling, Choosing, Noticing, Ended}
use Rattle.mako_collecting.specs.Laws.{Stands}
use Rattle.mako_collecting.specs.Steps.{words_next, collector_next}
use Rattle.mako_writes.proofs.Collectors.{StoresHome, collects}
use Rattle.mako_sitting_collector.specs.CollectorHoused.{IsHoused}
use Rattle.mako_sitting_collector.proofs.CollectorHousedSteps.{goes_on, choices_stay_housed}

-- ---- a stage that loads and stores no home

-- an act of the machine goes on with the homes that it keeps
acts_on : (n : Numbers) (words us : List ℕ) (c : Collecting) (next : Step) (x : ℕ) (h : IsHoused n words c)
    → next_of c ≡ next → IsAct next → Fits c x → FindsHome c.kept c.stage h.homes x
    → ((t : ℕ) → t < n.servers * n.tablets → homes_after c.kept c.stage h.homes t ≡ word_at n us (home t))
    → IsHoused n us (fed c x)
acts_on n words us c (Do act) x h is acts fits found stored = goes_on n words us c act x h is fits found stored
acts_on n words us c NoStep x h is acts fits found stored = absurd acts

-- it keeps the homes as they are, and asks nothing of what is found
record KeepsHomes (k : Holdings) (stage : CollectStage) : Type 0 where
  homes : (f : ℕ → ℕ) → homes_after k stage f ≡ f
  finds : (f : ℕ → ℕ) (x : ℕ) → FindsHome k stage f x
  none : StoresHome stage → ⊥
  acts : IsAct (stage_next k stage)

module _ (n : Numbers) (w : Facts) (s : JointScene) (places : ℕ → ℕ) (k : Holdings) where
  abbrev Going : CollectStage → Type 0
  Going stage = Stands n w s places (at k stage) → Fits (at k stage) (finds (next_of (at k stage)) s.words)
      → IsHoused n s.words (at k stage)
      → IsHoused n (words_next (at k stage) s.words) (collector_next (at k stage) s.words)

  homes_left : (stage : CollectStage) → Stands n w s places (at k stage) → (StoresHome stage → ⊥) → (t : ℕ)
      → t < n.servers * n.tablets
      → word_at n (words_stepped (stage_next k stage) s.words) (home t) ≡ word_at n s.words (home t)
  homes_left stage x none =
      subst (λ (m : Numbers). (t : ℕ) → t < m.servers * m.tablets
      → word_at m (words_stepped (stage_next k stage) s.words) (home t) ≡ word_at m s.words (home t)) x.seat.shape
      (λ t low. (collects k x.known stage x.keeps.stage).rest s.words (home t) low (λ may. none may.1))

  elsewhere : (stage : CollectStage) → KeepsHomes k stage → Going stage
  elsewhere stage keeps x fits h =
      acts_on n s.words (words_next (at k stage) s.words) (at k stage) (stage_next k stage)
      (finds (next_of (at k stage)) s.words) h refl keeps.acts fits
      (keeps.finds h.homes (finds (next_of (at k stage)) s.words))
      (λ t low. ap (λ (f : ℕ → ℕ). f t) (keeps.homes h.homes) ∙ h.stored t low
      ∙ sym (homes_left stage x keeps.none t low))

  choice : (stage : ChoiceStage) → Going (Choosing stage)
  choice (LoadingLive r place) = choices_stay_housed n w s places k (LoadingLive r place) tt
  choice (LoadingTop r place words) = choices_stay_housed n w s places k (LoadingTop r place words) tt
  choice (LoadingHome i) = choices_stay_housed n w s places k (LoadingHome i) tt
  choice (StoringLeaving i gift) = choices_stay_housed n w s places k (StoringLeaving i gift) tt
  choice (StoringHome i gift) = choices_stay_housed n w s places k (StoringHome i gift) tt
  choice (StoringTop i) = choices_stay_housed n w s places k (StoringTop i) tt
  choice StoringEvac = elsewhere (Choosing StoringEvac) (record {
    homes = λ f. refl;
    finds = λ f x. tt;
    none = λ stores. stores;
    acts = tt;
  })
  choice (Reopening m) = λ x. elsewhere (Choosing (Reopening m)) (record {
    homes = λ f. refl;
    finds = λ f x. tt;
    none = λ stores. stores;
    acts = tt;
  }) x

  idle_acts : (stage : IdleStage) → IsAct (collecting.idle_next k stage)
  idle_acts LoadingDemand = tt
  idle_acts LookingFinished = tt
  idle_acts StoringStop = tt

  pause_acts : (stage : PauseStage) → IsAct (collecting.pause_next k stage)
  pause_acts (Shutting pause m) = tt
  pause_acts (Draining pause m) = tt
  pause_acts (LoadingRoot m q) = tt
  pause_acts StoringTrace = tt
  pause_acts (Opening m) = tt

  forward_acts : (stage : ForwardStage) → IsAct (collecting.forward_next k stage)
  forward_acts (Looking x) = tt
  forward_acts (Storing x) = tt

  barrier_acts : (stage : BarrierStage) → IsAct (collecting.barrier_next k stage)
  barrier_acts (Loading m) = tt
  barrier_acts (Clearing m x) = tt

  notice_acts : (stage : NoticeStage) → IsAct (collecting.notice_next k stage)
  notice_acts (NoticeLook r) = tt
  notice_acts (NoticeClear r told) = tt
  notice_acts StoringIdle = tt

  pub stays_housed : (stage : CollectStage) → Going stage
  stays_housed (Idle stage) x = elsewhere (Idle stage) (record {
    homes = λ f. refl;
    finds = λ f x. tt;
    none = λ stores. stores;
    acts = idle_acts stage;
  }) x
  stays_housed (Pausing stage) x = elsewhere (Pausing stage) (record {
    homes = λ f. refl;
    finds = λ f x. tt;
    none = λ stores. stores;
    acts = pause_acts stage;
  }) x
  stays_housed (Forwarding stage) x = elsewhere (Forwarding stage) (record {
    homes = λ f. refl;
    finds = λ f x. tt;
    none = λ stores. stores;
    acts = forward_acts stage;
  }) x
  stays_housed (Barriers stage) x = elsewhere (Barriers stage) (record {
    homes = λ f. refl;
    finds = λ f x. tt;
    none = λ stores. stores;
    acts = barrier_acts stage;
  }) x
  stays_housed (Emptying r) x = elsewhere (Emptying r) (record {
    homes = λ f. refl;
    finds = λ f x. tt;
    none = λ stores. stores;
    acts = tt;
  }) x
  stays_housed Polling x = elsewhere Polling (record {
    homes = λ f. refl;
    finds = λ f x. tt;
    none = λ stores. stores;
    acts = subst (λ m. IsAct (polls.stage_next m k.poll.stage)) (sym (x.known.poll_shape ∙ x.seat.shape))
        x.keeps.keeps.1;
  }) x
  stays_housed (Choosing stage) x = choice stage x
  stays_housed (Noticing stage) x = elsewhere (Noticing stage) (record {
    homes = λ f. refl;
    finds = λ f x. tt;
    none = λ stores. stores;
    acts = notice_acts stage;
  }) x
  stays_housed Ended x = λ fits h. h
