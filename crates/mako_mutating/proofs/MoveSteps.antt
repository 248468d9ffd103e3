-- The step of a mutator that moves its object's record, from its stage; and the steps of all stages.
use Rattle.std.proofs.Common.{◌≡◌, ℕ, ◌+◌, ◌*◌, ◌<◌, nat_lt, if◌then◌else◌, Bool, sym, subst}
use Rattle.mako_words.specs.declared.entry_word.EntryWord.{EntryWord}
use Rattle.mako_words.specs.Entries.{entry_at}
use Rattle.mako_shape.specs.Places.{turn, entry, index, word_at}
use Rattle.mako_shape.proofs.BelongingLaws.{belongings_in_range}
use Rattle.mako_record.specs.Regions.{is_in_region}
use Rattle.mako_record.specs.Copying.{Copying, opening_copy, copied_to}
use Rattle.mako_record.specs.declared.copier.CopyStage.{CopyStage}
use Rattle.mako_record.specs.declared.copier.CopyStage.TheVariants.{LoadingTop as CopyTop, LoadingHeader as CopyHeader}
use Rattle.mako_record.specs.declared.copier.CopyStage.TheVariants.{StoringHeader, LoadingField as CopyField}
use Rattle.mako_record.specs.declared.copier.CopyStage.TheVariants.{StoringField as CopyStore, StoringEntry, RaisingTop}
use Rattle.mako_record.specs.declared.copier.CopyStage.TheVariants.{Ended as CopyEnded}
use Rattle.mako_step.specs.Acts.{words_after}
use Rattle.mako_step.specs.declared.act.Op.TheVariants.{Store, Exchange}
use Rattle.mako_step.proofs.Cases.{by_bool, by_eq, by_lt}
use Rattle.mako_model.specs.declared.attempt.Attempt.TheVariants.{Pause as Paused}
use Rattle.mako_model.specs.declared.attempt.Pause.TheVariants.{Busy}
use Rattle.mako_call.specs.declared.object.Access.{Access}
use Rattle.mako_call.specs.declared.object.Access.TheVariants.{Get as Gets, Put as Puts}
use Rattle.mako_call.specs.declared.object.Errand.{Errand}
use Rattle.mako_call.specs.declared.object.Located.{Located}
use Rattle.mako_call.specs.declared.call_stage.CallStage.{CallStage}
use Rattle.mako_call.specs.declared.call_stage.CallStage.TheVariants.{Arriving, Rooting, Entering, Moving, Getting}
use Rattle.mako_call.specs.declared.call_stage.CallStage.TheVariants.{Putting, Allocating, Asking, Leaving, Ended}
use Rattle.mako_call.specs.declared.moving.MoveStage.{MoveStage}
use Rattle.mako_call.specs.declared.moving.MoveStage.TheVariants.{TakingTurn, LoadingEntry as LoadingAgain}
use Rattle.mako_call.specs.declared.moving.MoveStage.TheVariants.{Copying as Copies, GivingTurn}
use Rattle.mako_mutator.specs.Drivers as drivers
use Rattle.mako_mutator.specs.Drivers.{Driving}
use Rattle.mako_call.specs.Leaving.{leaving_tablet}
use Rattle.mako_call.specs.Moving.{giving_turn, copy_fed}
use Rattle.mako_call.specs.Objects.{tablet_of, at_record}
use Rattle.mako_step.specs.Machines.{CanStep}
use Rattle.mako_mutating.specs.Laws.{ArrivalsKeep, RootsKeep, EntersKeep, MovesKeep, GetsKeep, PutsKeep, LeavesKeep}
use Rattle.mako_mutating.specs.Laws.{IsOfACall, AttemptsKeep, AttemptsCanGo}
use Rattle.mako_mutating.specs.Mutators.{StepKeeps}
use Rattle.mako_mutating.proofs.MoveAsks.{stage_asks, stage_fits}
use Rattle.mako_mutating.proofs.Scenes.{scene_of, at_scene, of_scene}
use Rattle.mako_mutating.proofs.Attempts.{Scene, At, Holds, Result, after, fed_to}
use Rattle.mako_mutating.proofs.Copies.{top_loaded, header_loaded, header_stored, field_copied, field_stored_there}
use Rattle.mako_mutating.proofs.Copies.{entry_stored, top_raised}
use Rattle.mako_mutating.proofs.Gates.{operated}
use Rattle.mako_mutating.proofs.Moves.{turn_taken, turn_busy, turn_given, again_home, again_away}
use Rattle.mako_mutating.proofs.Objects.{read}
use Rattle.mako_mutating.proofs.Steps.{Kept, Fitting, known_then, goes_trying, arriving_kept, rooting_kept}
use Rattle.mako_mutating.proofs.Steps.{entering_kept, getting_kept, putting_kept, leaving_kept}

module _ (x : Scene) (within : Bool) (e : Errand) where
  -- ---- the copy, whose geometry and entry are those of the view
  module _ (found : EntryWord) (home : ℕ) where
    abbrev copier : CopyStage → Copying
    copier c = record { shape = x.n; number = e.object.entry; entry = found; home = home; stage = c }

    -- a store of the copy goes on to the next field, or to the entry
    goes_on : (c : CopyStage) (offset fields j : ℕ)
        → let next : Bool → CopyStage =
        λ b. (if b then CopyField offset fields j else StoringEntry offset fields) in
        let t : Bool → CallStage = λ b. copy_fed e (copier (next b)) (next b) in
        (i v : ℕ) → drivers.IsKnown (fed_to x within x.slot (Moving e (Copies (copier c))) (t (nat_lt j fields)))
        → (drivers.IsKnown (after x x.slot (Moving e (Copies (copier (next (nat_lt j fields))))))
        → Holds x (words_after (record { word = i; op = Store v }) x.s.words) x.s.front
        (after x x.slot (Moving e (Copies (copier (next (nat_lt j fields)))))))
        → Result x within x.slot (Moving e (Copies (copier c))) (t (nat_lt j fields))
        (words_after (record { word = i; op = Store v }) x.s.words)
    goes_on c offset fields j i v =
        by_lt (λ b. let next : CopyStage = (if b then CopyField offset fields j else StoringEntry offset fields) in
        let t = copy_fed e (copier next) next in
        drivers.IsKnown (fed_to x within x.slot (Moving e (Copies (copier c))) t)
        → (drivers.IsKnown (after x x.slot (Moving e (Copies (copier next))))
        → Holds x (words_after (record { word = i; op = Store v }) x.s.words) x.s.front
        (after x x.slot (Moving e (Copies (copier next)))))
        → Result x within x.slot (Moving e (Copies (copier c))) t
        (words_after (record { word = i; op = Store v }) x.s.words)) j fields
        (λ less known holds. holds known) (λ past known holds. holds known)

    copying_kept : (c : CopyStage) (at : At x within (Moving e (Copies (copier c))))
        → Fitting x within (Moving e (Copies (copier c))) → Kept x within (Moving e (Copies (copier c)))
    copying_kept CopyTop at fits = top_loaded x within e found home at (known_then x within _ at fits tt)
    copying_kept (CopyHeader offset) at fits =
        header_loaded x within e found home offset at (known_then x within _ at fits tt)
    copying_kept (StoringHeader offset fields) at fits =
        goes_on (StoringHeader offset fields) offset fields 0 (copied_to x.n home offset) fields
        (known_then x within (Moving e (Copies (copier (StoringHeader offset fields)))) at fits tt)
        (λ known. header_stored x within e found home offset fields at known)
    copying_kept (CopyField offset fields field) at fits =
        field_copied x within e found home offset fields field at (known_then x within _ at fits tt)
    copying_kept (CopyStore offset fields field word) at fits =
        goes_on (CopyStore offset fields field word) offset fields (field + 1)
        (copied_to x.n home (offset + 1 + field)) word
        (known_then x within (Moving e (Copies (copier (CopyStore offset fields field word)))) at fits tt)
        (λ known. field_stored_there x within e found home offset fields field word at known)
    copying_kept (StoringEntry offset fields) at fits =
        entry_stored x within e found home offset fields at (known_then x within _ at fits tt)
    copying_kept (RaisingTop offset fields) at fits =
        top_raised x within e found home offset fields at (known_then x within _ at fits tt)
    copying_kept (CopyEnded address) at fits = absurd at.keeps.known.progress.task.known.stage.1.1

  -- ---- the turn, the entry under it, and the copy
  pub moving_kept : (s : MoveStage) (at : At x within (Moving e s)) → Fitting x within (Moving e s)
      → Kept x within (Moving e s)
  moving_kept (TakingTurn home) at fits =
      by_eq (λ b. drivers.IsKnown (fed_to x within x.slot s (next b))
      → Result x within x.slot s (next b) (operated x within (turn t) (Exchange 0 (x.m + 1))))
      word 0 (λ free known. turn_taken x within e home at low free known)
      (λ busy known. turn_busy x within e home at busy known
      (goes_trying x.last x.call e.access at.keeps.known.progress.task.known.agrees))
      (known_then x within s at fits tt)
    where
      s : CallStage
      s = Moving e (TakingTurn home)

      t : ℕ
      t = tablet_of x.n e.object

      word : ℕ
      word = word_at x.n x.s.words (turn t)

      next : Bool → CallStage
      next b = if b then Moving e (LoadingAgain home) else leaving_tablet t (Paused (Busy t word))

      low : t < x.n.servers * x.n.tablets
      low = belongings_in_range.entry x.n e.object.entry at.keeps.known.progress.task.known.stage.0.0.1
  moving_kept (LoadingAgain home) at fits =
      by_bool (λ b. drivers.IsKnown (fed_to x within x.slot s (next b))
      → Result x within x.slot s (next b) (read x within (index x.n (entry e.object.entry))))
      (is_in_region x.n home found.address)
      (λ inside known. again_home x within e home at at.keeps.known.progress.task.known.stage.1 inside known)
      (λ out known. again_away x within e home at fits out known)
      (known_then x within s at fits tt)
    where
      s : CallStage
      s = Moving e (LoadingAgain home)

      found : EntryWord
      found = entry_at (word_at x.n x.s.words (entry e.object.entry))

      next : Bool → CallStage
      next b = if b then giving_turn e found.address
          else Moving e (Copies (opening_copy x.n e.object.entry found home))
  moving_kept (Copies it) at fits =
      subst (λ c. At x within (Moving e (Copies c)) → Fitting x within (Moving e (Copies c))
      → Kept x within (Moving e (Copies c))) (sym it_is)
      (λ here fitting. copying_kept it.entry it.home it.stage here fitting) at fits
    where
      it_is : it ≡ record {
        shape = x.n;
        number = e.object.entry;
        entry = it.entry;
        home = it.home;
        stage = it.stage;
      }
      it_is =
          let shape = at.keeps.known.progress.task.known.stage.1.2 in
          let number = at.keeps.counts.0 in
          λ i. record { shape = shape i; number = number i; entry = it.entry; home = it.home; stage = it.stage }
  moving_kept (GivingTurn address) at fits =
      by e.access (known_then x within s at fits tt) (λ known. turn_given x within e address at low known)
    where
      s : CallStage
      s = Moving e (GivingTurn address)

      t : ℕ
      t = tablet_of x.n e.object

      low : t < x.n.servers * x.n.tablets
      low = belongings_in_range.entry x.n e.object.entry at.keeps.known.progress.task.known.stage.0.0.1

      there_at : Located
      there_at = record { object = e.object; address = address }

      by : (a : Access) → drivers.IsKnown (fed_to x within x.slot s (at_record there_at a))
          → (drivers.IsKnown (after x x.slot (at_record there_at a))
          → Holds x (operated x within (turn t) (Store 0)) x.s.front (after x x.slot (at_record there_at a)))
          → Result x within x.slot s (at_record there_at a) (operated x within (turn t) (Store 0))
      by (Gets get) known holds = holds known
      by (Puts put) known holds = holds known

-- ---- all stages
pub stage_kept : (x : Scene) (within : Bool) (s : CallStage) → IsOfACall s → (at : At x within s)
    → Fitting x within s → Kept x within s
stage_kept x within Arriving of at fits = arriving_kept x within at fits
stage_kept x within (Rooting s) of at fits = rooting_kept x within s at fits
stage_kept x within (Entering e s) of at fits = entering_kept x within e s at fits
stage_kept x within (Moving e s) of at fits = moving_kept x within e s at fits
stage_kept x within (Getting l get s) of at fits = getting_kept x within l get s at fits
stage_kept x within (Putting l put s) of at fits = putting_kept x within l put s at fits
stage_kept x within (Leaving s) of at fits = leaving_kept x within s of at fits
stage_kept x within (Allocating s) of at fits = absurd of
stage_kept x within (Asking s) of at fits = absurd of
stage_kept x within (Ended outcome) of at fits = absurd of

-- ---- the laws
pub attempts_keep : AttemptsKeep
attempts_keep n w s j m d stage of is =
    let x = scene_of n w s j m d stage is in
    let at = at_scene n w s j m d stage is in
    of_scene n w s j m d stage is (StepKeeps n w s m)
    (stage_kept x d.progress.within stage of at (stage_fits x d.progress.within is.small stage of at))

pub attempts_can_go : AttemptsCanGo
attempts_can_go n w s j m d stage of is =
    of_scene n w s j m d stage is (λ e. CanStep (drivers.next_of e) s.words (drivers.Fits e))
    (stage_asks (scene_of n w s j m d stage is) d.progress.within is.small stage of (at_scene n w s j m d stage is))

-- by the parts of an attempt
pub arrivals_keep : ArrivalsKeep
arrivals_keep n w s j m d is = attempts_keep n w s j m d Arriving tt is

pub roots_keep : RootsKeep
roots_keep n w s j m d stage is = attempts_keep n w s j m d (Rooting stage) tt is

pub enters_keep : EntersKeep
enters_keep n w s j m d e stage is = attempts_keep n w s j m d (Entering e stage) tt is

pub moves_keep : MovesKeep
moves_keep n w s j m d e stage is = attempts_keep n w s j m d (Moving e stage) tt is

pub gets_keep : GetsKeep
gets_keep n w s j m d at get stage is = attempts_keep n w s j m d (Getting at get stage) tt is

pub puts_keep : PutsKeep
puts_keep n w s j m d at put stage is = attempts_keep n w s j m d (Putting at put stage) tt is

pub leaves_keep : LeavesKeep
leaves_keep n w s j m d stage plain is = attempts_keep n w s j m d (Leaving stage) plain is
