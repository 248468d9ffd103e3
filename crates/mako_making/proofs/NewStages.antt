-- The stages of a new, from the load of the phase on.
use Rattle.std.proofs.Common.{◌≡◌, ℕ, Option, sym, subst, refl}
use Rattle.mako_words.specs.Phases.{phase_at, cycle_of}
use Rattle.mako_shape.specs.Places.{phase, index, word_at}
use Rattle.mako_gate.specs.Standings.{inside}
use Rattle.mako_model.specs.declared.attempt.Pause.{Pause as Reason}
use Rattle.mako_model.specs.declared.call.Call.{Call}
use Rattle.mako_model.specs.declared.call.Call.TheVariants as call
use Rattle.mako_alloc.specs.Allocating.{Allocation}
use Rattle.mako_alloc.specs.declared.progress.NewStage.{NewStage}
use Rattle.mako_alloc.specs.declared.progress.NewStage.TheVariants.{Arriving as NewArriving}
use Rattle.mako_alloc.specs.declared.progress.NewStage.TheVariants.{TurnedAway as NewTurnedAway}
use Rattle.mako_alloc.specs.declared.progress.NewStage.TheVariants.{TakingTurn as NewTakingTurn, LoadingLeaving}
use Rattle.mako_alloc.specs.declared.progress.NewStage.TheVariants.{LoadingTop, LoadingEntry as NewEntry}
use Rattle.mako_alloc.specs.declared.progress.NewStage.TheVariants.{LoadingHome as NewHome, Making}
use Rattle.mako_alloc.specs.declared.progress.NewStage.TheVariants.{GivingTurn as PassingTurn, Leaving as NewLeaving}
use Rattle.mako_alloc.specs.declared.progress.NewStage.TheVariants.{Ended as NewEnded}
use Rattle.mako_alloc.specs.declared.progress.Part.TheVariants.{Header, Field, Top, Entry}
use Rattle.mako_call.specs.declared.call_stage.CallStage.{CallStage}
use Rattle.mako_call.specs.declared.call_stage.CallStage.TheVariants.{Arriving, Rooting, Entering, Moving, Getting}
use Rattle.mako_call.specs.declared.call_stage.CallStage.TheVariants.{Putting, Allocating, Asking, Leaving, Ended}
use Rattle.mako_call.specs.declared.allocating.AllocStage.{AllocStage}
use Rattle.mako_call.specs.declared.allocating.AllocStage.TheVariants.{LoadingPhase as NewPhase, Searching, StoringRoot}
use Rattle.mako_call.specs.declared.allocating.AllocStage.TheVariants.{GivingTurn as GivingNewTurn}
use Rattle.mako_mutator.specs.declared.progress.Task.{Task}
use Rattle.mako_mutator.specs.declared.progress.Task.TheVariants.{Attempting, Awaiting, Finishing, Ended as TaskEnded}
use Rattle.mako_call.specs.Agreeing.{AllocStageOf}
use Rattle.mako_call.specs.Allocating.{opening_search}
use Rattle.mako_names.specs.Tables.{phase_of}
use Rattle.mako_layout.specs.Facets.{idle}
use Rattle.mako_joint.specs.Joints.{Joint}
use Rattle.mako_mutating.specs.MutatorFacets.{last_at}
use Rattle.mako_mutating.specs.Mutators.{with_view}
use Rattle.mako_making.specs.Makings.{IsAt}
use Rattle.mako_making.proofs.Placed.{StepsHold, NextKeeps}
use Rattle.mako_making.specs.Stages.{AttemptsObject, IsAllocating}
use Rattle.mako_making.proofs.MadeStages.{entry_stored, root_stored, turn_given}
use Rattle.mako_making.proofs.Recording.{header_stored, field_stored, top_raised}
use Rattle.mako_making.proofs.SearchEntries.{entry_loaded, home_loaded}
use Rattle.mako_making.proofs.SearchTablets.{leaving_loaded, top_loaded}
use Rattle.mako_making.proofs.Searches.{y, seeking, search_at, AtStage, arriving_kept, turned_away_kept, leaving_kept}
use Rattle.mako_making.proofs.Searches.{taking_turn_kept, giving_turn_kept}
use Rattle.mako_making.proofs.Seeking.{in_with, as_before, looks}
use Rattle.mako_making.proofs.Tasks.{trial, of_attempt}
use Rattle.mako_making.proofs.Trials.{Trial, k, driver, load_goal, left, left_same}

-- which call a search is one of
pub allocates : (c : Call) (q : ℕ) (search : Allocation) → AllocStageOf c (Searching q search)
    → c ≡ call.New q search.job.fields
allocates (call.New root fields) q search e = λ i. call.New (sym e.0 i) (sym e.1 i)
allocates (call.Num root number) q search e = absurd e
allocates (call.CopyRoot to from) q search e = absurd e
allocates (call.DropRoot root) q search e = absurd e
allocates (call.Get to from field) q search e = absurd e
allocates (call.Put to field from) q search e = absurd e
allocates (call.Show root) q search e = absurd e
allocates call.Collect q search e = absurd e

-- the search, stage by stage
search_kept : (x : Trial) (q f c passed : ℕ) (o : Option Reason) (r : NewStage) → AtStage x q f c passed o r
    → NextKeeps x.n x.w x.s x.m (driver (y x q f c) (seeking x q f c passed o r))
search_kept x q f c passed o NewArriving at = arriving_kept x q f c passed o at
search_kept x q f c passed o NewTurnedAway at = turned_away_kept x q f c passed o at
search_kept x q f c passed o NewTakingTurn at = taking_turn_kept x q f c passed o at
search_kept x q f c passed o LoadingLeaving at = leaving_loaded x q f c passed o at
search_kept x q f c passed o LoadingTop at = top_loaded x q f c passed o at
search_kept x q f c passed o (NewEntry kept place) at = entry_loaded x q f c passed kept place o at
search_kept x q f c passed o (NewHome kept name) at = home_loaded x q f c passed kept name o at
search_kept x q f c passed o (Making made Header) at = header_stored x q f c passed o made at
search_kept x q f c passed o (Making made (Field i)) at = field_stored x q f c passed o made i at
search_kept x q f c passed o (Making made Top) at = top_raised x q f c passed o made at
search_kept x q f c passed o (Making made Entry) at = entry_stored x q f c passed o made at
search_kept x q f c passed o PassingTurn at = giving_turn_kept x q f c passed o at
search_kept x q f c passed o NewLeaving at = leaving_kept x q f c passed o at
search_kept x q f c passed o (NewEnded found) at = absurd at.known.progress.task.known.stage.2

module _ (x : Trial) where
  -- the attempt, if it is one of this call
  abbrev of_call : Call → Trial
  of_call c = record x { call = c }

  searching_kept : (q : ℕ) (search : Allocation) → IsAt x.n x.s x.m (driver x (Allocating (Searching q search)))
      → NextKeeps x.n x.w x.s x.m (driver x (Allocating (Searching q search)))
  searching_kept q search at =
      let known = at.known.progress.task.known in
      let f = search.job.fields in
      let c = search.job.cycle in
      let p = search.progress in
      let is : x.call ≡ call.New q f = allocates x.call q search known.agrees in
      let same : search ≡ search_at x q f c p.passed p.note p.stage =
      λ i. record {
        job = record { shape = known.stage.3 i; mutator = known.stage.4 i; fields = f; cycle = c };
        progress = p;
      } in
      subst (λ a. IsAt x.n x.s x.m (driver x (Allocating (Searching q a)))
      → NextKeeps x.n x.w x.s x.m (driver x (Allocating (Searching q a)))) (sym same)
      (subst (λ d. IsAt x.n x.s x.m (driver (of_call d) (seeking x q f c p.passed p.note p.stage))
      → NextKeeps x.n x.w x.s x.m (driver (of_call d) (seeking x q f c p.passed p.note p.stage))) (sym is)
      (search_kept x q f c p.passed p.note p.stage)) at

  phase_is : cycle_of (phase_at (word_at x.n x.s.words phase)) ≡ cycle_of (phase_of x.n x.s.words)
  unfolding phase_of
  phase_is = refl

  phase_loaded : (q f : ℕ) → IsAt x.n x.s x.m (driver x (Allocating (NewPhase q f)))
      → NextKeeps x.n x.w x.s x.m (driver x (Allocating (NewPhase q f)))
  phase_loaded q f at =
      let t = last_at x.last x.call 0 0 in
      let search = opening_search (k x) f (cycle_of (phase_at (word_at x.n x.s.words phase))) in
      load_goal x (Allocating (NewPhase q f)) (Allocating (Searching q search)) (index x.n phase)
      (record {
        joint = subst (λ l. Joint x.n x.w (with_view x.s x.m x.s.words x.s.front (in_with inside idle t l)))
            (left_same x)
            (looks x.n x.w x.s x.joint x.m x.low inside idle t (left x) at.here t refl (λ e. e)
            (as_before x.n x.w x.s x.joint x.m x.low inside idle t (left x) at.here));
        keeps = record { cycle = phase_is; noted = tt };
      })

  new_kept : (s : AllocStage) → IsAt x.n x.s x.m (driver x (Allocating s))
      → NextKeeps x.n x.w x.s x.m (driver x (Allocating s))
  new_kept (NewPhase q f) at = phase_loaded q f at
  new_kept (Searching q search) at = searching_kept q search at
  new_kept (StoringRoot q name tablet) at = root_stored x name tablet q at
  new_kept (GivingNewTurn name tablet) at = turn_given x name tablet at

pub object_kept : StepsHold AttemptsObject
object_kept n w s m d j is these = by d.progress.task refl these
  where
    at : (x : Trial) (st : CallStage) → IsAllocating st → IsAt x.n x.s x.m (driver x st)
        → NextKeeps x.n x.w x.s x.m (driver x st)
    at x (Allocating a) here is = new_kept x a is
    at x Arriving here is = absurd here
    at x (Rooting a) here is = absurd here
    at x (Entering e a) here is = absurd here
    at x (Moving e a) here is = absurd here
    at x (Getting l get a) here is = absurd here
    at x (Putting l put a) here is = absurd here
    at x (Asking a) here is = absurd here
    at x (Leaving a) here is = absurd here
    at x (Ended o) here is = absurd here

    by : (t : Task) → d.progress.task ≡ t → AttemptsObject t → NextKeeps n w s m d
    by (Attempting c) e here =
        of_attempt n w s m d j is c e (NextKeeps n w s m) (at (trial n w s m d j is c) c.stage here)
    by (Awaiting c) e here = absurd here
    by Finishing e here = absurd here
    by TaskEnded e here = absurd here
