-- Each result of a `new` has its cause in the trail.
use Rattle.std.proofs.Common.{◌≡◌, ℕ, ◌+◌, ◌*◌, ◌-◌, ◌/◌, ◌%◌, ◌<◌, List, [], Option, ap, subst, ◌∙◌, inl, inr, arith}
use Rattle.std.proofs.lemmas.Bool.{cases_lt}
use Rattle.std.proofs.lemmas.Nat.{mod_below, mod-mul-add, div-add-mod'}
use Rattle.std.proofs.Math.Nat.{add-mul, one-mul}
use Rattle.mako_step.specs.Trails.{Observation, Goes}
use Rattle.mako_model.specs.declared.attempt.Pause.{Pause as Reason}
use Rattle.mako_alloc.specs.declared.found.Found.{Found}
use Rattle.mako_alloc.specs.declared.found.Found.TheVariants.{Made, Full, Pause}
use Rattle.mako_alloc.specs.declared.job.Job.{Job}
use Rattle.mako_alloc.specs.declared.progress.NewStage.{NewStage}
use Rattle.mako_alloc.specs.declared.progress.NewStage.TheVariants.{Ended}
use Rattle.mako_alloc.specs.Allocating.{Allocation, Fits, IsJob, IsKnown, all_tablets, fed, next_of, opening, tablet_at}
use Rattle.mako_alloc.specs.Causes.{IsCaused, ResultsAreCaused, PassedAreFull}
use Rattle.mako_alloc.specs.Seen.{IsFullTablet}
use Rattle.mako_alloc.proofs.Bounds.{some_tablet}
use Rattle.mako_alloc.proofs.Trails.{Along, along}
use Rattle.mako_alloc.proofs.NoteLaws.{NoteStands}
use Rattle.mako_alloc.proofs.Evidence.{Evidence, StageShows, EndShows, AllFull}
use Rattle.mako_alloc.proofs.Shown.{shows}

-- some number below `tablets` leads from `first` to this tablet, around the tablets
reached : (start tablets t : ℕ) → t < tablets → (j : ℕ) × (j < tablets) × ((start + j) % tablets ≡ t)
reached start tablets t h =
    let row : start / tablets * tablets + start % tablets ≡ start = div-add-mod' start tablets in
    let column : start % tablets < tablets = mod_below start tablets (omega arith) in
    elim (cases_lt t (start % tablets)) [
      | inr ahead ↦
          let same : start + (t - start % tablets) ≡ start / tablets * tablets + t = omega arith in (
            t - start % tablets,
            omega arith,
            ap (λ (x : ℕ). x % tablets) same
                ∙ mod-mul-add (start / tablets) tablets t h,
          )
      | inl behind ↦
          let same : start + (tablets + t - start % tablets) ≡ (start / tablets + 1) * tablets + t =
          omega (arith, add-mul (start / tablets) 1 tablets, one-mul tablets) in (
            tablets + t - start % tablets,
            omega arith,
            ap (λ (x : ℕ). x % tablets) same
                ∙ mod-mul-add (start / tablets + 1) tablets t h,
          )
    ]

-- each tablet is one of those that were gone over
full_everywhere : (job : Job) (trail : List Observation) → AllFull job trail (all_tablets job.shape) →
    (t : ℕ) → t < all_tablets job.shape → IsFullTablet job trail t
full_everywhere job trail all t h =
    let there : (j : ℕ) × (j < all_tablets job.shape)
    × (tablet_at job j ≡ t) = reached job.mutator (all_tablets job.shape) t h in
    subst (λ (u : ℕ). IsFullTablet job trail u) there.2 (all there.0 there.1)

end_caused : (job : Job) (kept : Option Reason) (found : Found) (trail : List Observation) →
    NoteStands job kept trail → EndShows job kept found trail →
    IsCaused job trail found
end_caused job kept (Made name t) trail notes h = h
end_caused job kept Full trail notes h = record {
  tablets = full_everywhere job trail h.1;
  no_note = subst (λ (n : Option Reason). NoteStands job n trail) h.0 notes;
}
end_caused job kept (Pause reason) trail notes h = subst (λ (n : Option Reason). NoteStands job n trail) h notes

caused : (job : Job) (trail : List Observation) (l : Allocation) (found : Found) →
    Evidence l.job l.progress trail → l.job ≡ job →
    l.progress.stage ≡ Ended found → IsCaused job trail found
caused job trail l found ev same ended =
    let shown : EndShows l.job l.progress.note found trail =
    subst (λ (s : NewStage). StageShows l.job (tablet_at l.job l.progress.passed) l.progress.note s trail) ended
    ev.stage in
    subst (λ (j : Job). IsCaused j trail found) same (end_caused l.job l.progress.note found trail ev.notes shown)

pub opening_known : (job : Job) → IsJob job → IsKnown job (opening job).progress
opening_known job h = record { numbers = h; passed = some_tablet job.shape h.shape; stage = tt }

opening_shows : (job : Job) → Evidence job (opening job).progress []
opening_shows job = record {
  notes = λ k d below. absurd (omega (arith, below));
  gone = λ e j below. absurd (omega (arith, below));
  stage = tt;
}

at_end : (job : Job) (trail : List Observation) (l : Allocation) → IsJob job →
    Goes next_of Fits fed (opening job) trail l →
    Along (λ m trail. Evidence m.job m.progress trail) (opening job) trail l
at_end job trail l h goes =
    along (λ m trail. Evidence m.job m.progress trail) (opening job) trail l goes (opening_known job h) shows
    (opening_shows job)

pub results_are_caused : ResultsAreCaused
results_are_caused job trail l found h goes ended =
    let end : Along (λ m trail. Evidence m.job m.progress trail) (opening job) trail l = at_end job trail l h goes in
    caused job trail l found end.holds end.same ended

pub passed_are_full : PassedAreFull
passed_are_full job trail l h goes none j below =
    let end : Along (λ m trail. Evidence m.job m.progress trail) (opening job) trail l = at_end job trail l h goes in
    subst (λ (k : Job). IsFullTablet k trail (tablet_at k j)) end.same (end.holds.gone none j below)
