-- A step keeps what is known, and lowers the rank.
use Rattle.std.proofs.Common.{◌≡◌, ℕ, ◌+◌, ◌*◌, ◌-◌, ◌<◌, ◌==◌, Option, Some, None, if◌then◌else◌, refl, arith}
use Rattle.std.proofs.Math.Nat.{add-mul}
use Rattle.mako_words.specs.Gates.{is_shut}
use Rattle.mako_step.specs.Machines.{IsAct}
use Rattle.mako_model.specs.declared.attempt.Pause.{Pause as Reason}
use Rattle.mako_model.specs.declared.attempt.Pause.TheVariants.{Shut, Busy, Moving}
use Rattle.mako_alloc.specs.declared.found.Found.TheVariants.{Made}
use Rattle.mako_alloc.specs.declared.job.Job.{Job}
use Rattle.mako_alloc.specs.declared.progress.NewRecord.{NewRecord}
use Rattle.mako_alloc.specs.declared.progress.NewStage.{NewStage}
use Rattle.mako_alloc.specs.declared.progress.NewStage.TheVariants.{Arriving, TurnedAway, TakingTurn, LoadingLeaving}
use Rattle.mako_alloc.specs.declared.progress.NewStage.TheVariants.{LoadingTop, LoadingEntry, LoadingHome, Making}
use Rattle.mako_alloc.specs.declared.progress.NewStage.TheVariants.{GivingTurn, Leaving, Ended}
use Rattle.mako_alloc.specs.declared.progress.Part.{Part}
use Rattle.mako_alloc.specs.declared.progress.Part.TheVariants.{Header, Field, Top, Entry}
use Rattle.mako_alloc.specs.declared.progress.Progress.{Progress}
use Rattle.mako_alloc.specs.Allocating.{IsKnown, HasRoom, IsRecord, IsFoundKnown, IsStageKnown, FitsBy, all_tablets}
use Rattle.mako_alloc.specs.Allocating.{tablet_at, stage_next, stage_fed, stage_rank, part_fed, rank_by, next_by}
use Rattle.mako_alloc.specs.Allocating.{progress_fed, passed_on, outcome, seeking, entry_fed, field_or_top, at, noted}
use Rattle.mako_alloc.specs.Allocating.{first}
use Rattle.mako_alloc.proofs.Bounds.{entry_below, tablet_below}
use Rattle.mako_step.proofs.Cases.{by_lt, by_le, by_bool}
use Rattle.mako_alloc.proofs.Frees.{by_entry}

-- what is known holds after the step, and its rank is lower
abbrev pub GoesOn : Job → Progress → Progress → Type 0
GoesOn job before after = IsKnown job after × (rank_by job after < rank_by job before)

-- to another stage at the same tablet
pub stays : (job : Job) (before : Progress) (reason : Option Reason) (stage : NewStage) → IsKnown job before →
    IsStageKnown job stage →
    stage_rank job stage < stage_rank job before.stage
    → GoesOn job before (record { passed = before.passed; note = reason; stage = stage })
stays job before reason stage known here lower =
    (record { numbers = known.numbers; passed = known.passed; stage = here }, omega (arith, lower))

-- one tablet fewer is left
pub one_fewer : (tablets passed entries fields : ℕ) → passed + 1 < tablets →
    (tablets - (passed + 1 + 1)) * (entries + 6) + (entries + fields + 8) < (tablets - (passed + 1)) * (entries + 6) +
    (fields + 3)
one_fewer tablets passed entries fields h =
    let fewer : tablets - (passed + 1) ≡ 1 + (tablets - (passed + 1 + 1)) = omega arith in
    rw fewer (omega (arith, add-mul 1 (tablets - (passed + 1 + 1)) (entries + 6)))

-- without an object there is nothing to know
outcome_known : (job : Job) (note : Option Reason) → IsFoundKnown job (outcome note)
outcome_known job None = tt
outcome_known job (Some reason) = tt

-- to the next tablet, or to the end
pub passes : (job : Job) (before : Progress) → IsKnown job before → stage_rank job before.stage ≡ job.fields + 3 →
    GoesOn job before (passed_on job before)
passes job before known out = by_lt
    (λ v. GoesOn job before (if v then record {
      passed = before.passed + 1;
      note = before.note;
      stage = Arriving;
    } else at before (Ended (outcome before.note))))
    (before.passed + 1)
    (all_tablets job.shape)
    (λ h. (
      record {
        numbers = known.numbers;
        passed = h;
        stage = tt;
      },
      omega (arith, one_fewer (all_tablets job.shape) before.passed job.shape.entries job.fields h),
    ))
    (λ h. stays job before before.note (Ended (outcome before.note)) known (outcome_known job before.note)
    (omega arith))

seeks : (job : Job) (before : Progress) (kept place : ℕ) → IsKnown job before → HasRoom job kept →
    job.shape.entries - place + job.fields + 4 < stage_rank job before.stage
    → job.fields + 4 < stage_rank job before.stage →
    GoesOn job before (at before (seeking job kept place))
seeks job before kept place known room lower out = by_lt
    (λ v. GoesOn job before (at before (if v then LoadingEntry kept place else GivingTurn)))
    place
    job.shape.entries
    (λ h. stays job before before.note (LoadingEntry kept place) known (room, h) lower)
    (λ h. stays job before before.note GivingTurn known tt out)

-- a found entry: its name is one that there is, or the search goes on
entry_goes_on : (job : Job) (before : Progress) (t kept place : ℕ) (found : Option ℕ) → IsKnown job before →
    t < all_tablets job.shape →
    before.stage ≡ LoadingEntry kept place → HasRoom job kept → place < job.shape.entries →
    ((g : ℕ) → found ≡ Some g → g < job.shape.generations) →
    GoesOn job before (at before (entry_fed job t kept place found))
entry_goes_on job before t kept place None known within here room below small =
    seeks job before kept (place + 1) known room
    (rw here (omega arith)) (rw here (omega arith))
entry_goes_on job before t kept place (Some g) known within here room below small = stays job before before.note
    (LoadingHome kept (record { entry = t * job.shape.entries + place; generation = g })) known
    (room, (entry_below job.shape t place within below, small g refl))
    (rw here (omega arith))

-- the next field, or the top
field_goes_on : (job : Job) (before : Progress) (made : NewRecord) (i : ℕ) → IsKnown job before →
    IsRecord job made →
    job.fields - i + 2 < stage_rank job before.stage → 2 < stage_rank job before.stage →
    GoesOn job before (at before (Making made (field_or_top job i)))
field_goes_on job before made i known is_record lower out = by_lt
    (λ v. GoesOn job before (at before (Making made (if v then Field i else Top))))
    i
    job.fields
    (λ h. stays job before before.note (Making made (Field i)) known (is_record, h) lower)
    (λ h. stays job before before.note (Making made Top) known (is_record, tt) out)

part_goes_on : (job : Job) (passed : ℕ) (reason : Option Reason) (t : ℕ) (made : NewRecord) (part : Part) →
    let before : Progress = record { passed = passed; note = reason; stage = Making made part } in
    t < all_tablets job.shape → IsKnown job before → GoesOn job before (at before (part_fed job t made part))
part_goes_on job passed reason t made Header within known =
    field_goes_on job _ made 0 known known.stage.0 (omega arith) (omega arith)
part_goes_on job passed reason t made (Field i) within known =
    field_goes_on job _ made (i + 1) known known.stage.0 (omega (arith, known.stage.1)) (omega (arith, known.stage.1))
part_goes_on job passed reason t made Top within known =
    stays job _ reason (Making made Entry) known (known.stage.0, tt) (omega arith)
part_goes_on job passed reason t made Entry within known =
    stays job _ reason (Ended (Made made.name t)) known (known.stage.0.name, within) (omega arith)

-- each step goes on
stage_goes_on : (job : Job) (passed : ℕ) (reason : Option Reason) (t : ℕ) (stage : NewStage) (w : ℕ) →
    t < all_tablets job.shape →
    let before : Progress = record { passed = passed; note = reason; stage = stage } in
    IsKnown job before → FitsBy job.shape stage w → IsAct (stage_next job t stage)
    → GoesOn job before (stage_fed job t before stage w)
stage_goes_on job passed reason t Arriving w within known fits act = by_bool
    (λ v. GoesOn job (record { passed = passed; note = reason; stage = Arriving }) (if v
    then noted (record { passed = passed; note = reason; stage = Arriving }) (Shut t w) TurnedAway
    else at (record { passed = passed; note = reason; stage = Arriving }) TakingTurn))
    (is_shut w)
    (λ h. stays job _ (first reason (Shut t w)) TurnedAway known tt (omega arith))
    (λ h. stays job _ reason TakingTurn known tt (omega arith))
stage_goes_on job passed reason t TurnedAway w within known fits act = passes job _ known refl
stage_goes_on job passed reason t TakingTurn w within known fits act = by_bool
    (λ v. GoesOn job (record { passed = passed; note = reason; stage = TakingTurn }) (if v
    then at (record { passed = passed; note = reason; stage = TakingTurn }) LoadingLeaving
    else noted (record { passed = passed; note = reason; stage = TakingTurn }) (Busy t w) Leaving))
    (w == 0)
    (λ h. stays job _ reason LoadingLeaving known tt (omega arith))
    (λ h. stays job _ (first reason (Busy t w)) Leaving known tt (omega arith))
stage_goes_on job passed reason t LoadingLeaving w within known fits act = by_bool
    (λ v. GoesOn job (record { passed = passed; note = reason; stage = LoadingLeaving }) (if v
    then at (record { passed = passed; note = reason; stage = LoadingLeaving }) LoadingTop
    else noted (record { passed = passed; note = reason; stage = LoadingLeaving }) (Moving t w) GivingTurn))
    (w == 0)
    (λ h. stays job _ reason LoadingTop known tt (omega arith))
    (λ h. stays job _ (first reason (Moving t w)) GivingTurn known tt (omega arith))
stage_goes_on job passed reason t LoadingTop w within known fits act = by_le
    (λ v. GoesOn job (record { passed = passed; note = reason; stage = LoadingTop })
    (at (record { passed = passed; note = reason; stage = LoadingTop }) (if v then seeking job w 0 else GivingTurn)))
    (w + job.fields + 1)
    job.shape.words
    (λ h. seeks job _ w 0 known h (omega arith) (omega arith))
    (λ h. stays job _ reason GivingTurn known tt (omega arith))
stage_goes_on job passed reason t (LoadingEntry kept place) w within known fits act = by_entry
    (λ v. GoesOn job (record { passed = passed; note = reason; stage = LoadingEntry kept place })
    (at (record { passed = passed; note = reason; stage = LoadingEntry kept place }) (entry_fed job t kept place v)))
    job.shape
    w
    (λ h. entry_goes_on job _ t kept place None known within refl known.stage.0 known.stage.1 (λ g e. cc))
    (λ g h. entry_goes_on job _ t kept place (Some g) known within refl known.stage.0 known.stage.1
    (λ x e. let same : g ≡ x = cc in rw (← same) h.left))
stage_goes_on job passed reason t (LoadingHome kept name) w within known fits act = stays job _ reason
    (Making (record { name = name; home = w; top = kept }) Header) known
    (record { name = known.stage.1; home = fits; room = known.stage.0 }, tt) (omega arith)
stage_goes_on job passed reason t (Making made part) w within known fits act =
    part_goes_on job passed reason t made part within known
stage_goes_on job passed reason t GivingTurn w within known fits act =
    stays job _ reason Leaving known tt (omega arith)
stage_goes_on job passed reason t Leaving w within known fits act = passes job _ known refl
stage_goes_on job passed reason t (Ended found) w within known fits act = absurd act

-- each step of a machine goes on
pub step_goes_on : (job : Job) (progress : Progress) (w : ℕ) → IsKnown job progress →
    FitsBy job.shape progress.stage w → IsAct (next_by job progress) →
    GoesOn job progress (progress_fed job progress w)
step_goes_on job progress w known fits act =
    stage_goes_on job progress.passed progress.note (tablet_at job progress.passed) progress.stage w
    (tablet_below job progress.passed known.numbers) known fits act
