-- A step of each group of stages keeps what is known of the attempt, and lowers its rank.
use Rattle.std.proofs.Common.{◌≡◌, ℕ, Bool, ◌+◌, ◌*◌, ◌<◌, ◌≤◌, ◌==◌, nat_le, if◌then◌else◌, refl, sym, subst, arith}
use Rattle.mako_words.specs.Entries.{entry_at}
use Rattle.mako_words.specs.Gates.{is_shut}
use Rattle.mako_words.specs.Phases.{phase_at, cycle_of}
use Rattle.mako_words.specs.Values.{FitsValue, value_at}
use Rattle.mako_words.specs.declared.value.Value.{Value}
use Rattle.mako_words.specs.declared.value.Value.TheVariants.{Null, Num as NumValue, Ref}
use Rattle.mako_words.specs.declared.phase_word.PhaseWord.{PhaseWord}
use Rattle.mako_words.specs.declared.phase_word.PhaseWord.TheVariants.{Idle, Trace, Evac, Stop}
use Rattle.mako_shape.specs.Belongings.{IsAddress}
use Rattle.mako_step.specs.Machines.{IsAct}
use Rattle.mako_step.proofs.Cases.{by_lt, by_eq, by_bool}
use Rattle.mako_model.specs.declared.call.Call.{Call}
use Rattle.mako_model.specs.declared.call.Call.TheVariants.{New, Num, CopyRoot, DropRoot, Get, Put, Show}
use Rattle.mako_model.specs.declared.attempt.Attempt.TheVariants.{Answer, Pause as Paused}
use Rattle.mako_model.specs.declared.reply.Reply.TheVariants.{NoField, Cycle, Spent}
use Rattle.mako_model.specs.declared.attempt.Pause.TheVariants.{Stopped, Busy, Barrier, Cycle as NotYet}
use Rattle.mako_record.specs.Regions.{is_in_region}
use Rattle.mako_record.specs.Copying as copying
use Rattle.mako_record.specs.Copying.{Copying, opening_copy}
use Rattle.mako_record.specs.declared.copier.CopyStage.{CopyStage}
use Rattle.mako_record.specs.declared.copier.CopyStage.TheVariants.{LoadingTop, LoadingHeader as CopyHeader}
use Rattle.mako_record.specs.declared.copier.CopyStage.TheVariants.{StoringHeader, LoadingField as CopyField}
use Rattle.mako_record.specs.declared.copier.CopyStage.TheVariants.{StoringField as CopiedField, StoringEntry}
use Rattle.mako_record.specs.declared.copier.CopyStage.TheVariants.{RaisingTop, Ended as Copied}
use Rattle.mako_record.proofs.Going.{copy_goes, copy_known}
use Rattle.mako_alloc.specs.Allocating as allocating
use Rattle.mako_alloc.specs.Allocating.{Allocation}
use Rattle.mako_shape.specs.declared.numbers.Numbers.{Numbers}
use Rattle.mako_alloc.specs.declared.job.Job.{Job}
use Rattle.mako_alloc.specs.declared.progress.Part.TheVariants.{Header, Field, Top, Entry}
use Rattle.mako_alloc.specs.declared.found.Found.{Found}
use Rattle.mako_alloc.specs.declared.found.Found.TheVariants.{Made, Full as NoRoom, Pause as FoundPause}
use Rattle.mako_alloc.specs.declared.progress.NewStage.{NewStage}
use Rattle.mako_alloc.specs.declared.progress.NewStage.TheVariants.{Arriving as NewArriving}
use Rattle.mako_alloc.specs.declared.progress.NewStage.TheVariants.{TurnedAway as NewTurnedAway}
use Rattle.mako_alloc.specs.declared.progress.NewStage.TheVariants.{TakingTurn as NewTakingTurn, LoadingLeaving}
use Rattle.mako_alloc.specs.declared.progress.NewStage.TheVariants.{LoadingTop as NewTop, LoadingEntry as NewEntry}
use Rattle.mako_alloc.specs.declared.progress.NewStage.TheVariants.{LoadingHome as NewHome, Making}
use Rattle.mako_alloc.specs.declared.progress.NewStage.TheVariants.{GivingTurn as NewGivingTurn, Leaving as NewLeaving}
use Rattle.mako_alloc.specs.declared.progress.NewStage.TheVariants.{Ended as NewEnded}
use Rattle.mako_alloc.proofs.Going.{step_goes_on}
use Rattle.mako_call.specs.declared.caller.Caller.{Caller}
use Rattle.mako_call.specs.declared.object.Get.{Get as GetArgs}
use Rattle.mako_call.specs.declared.object.Put.{Put as PutArgs}
use Rattle.mako_call.specs.declared.object.Access.TheVariants.{Get as Gets, Put as Puts}
use Rattle.mako_call.specs.declared.object.Errand.{Errand}
use Rattle.mako_call.specs.declared.object.Located.{Located}
use Rattle.mako_call.specs.declared.call_stage.CallStage.TheVariants.{Entering, Moving, Getting, Putting, Allocating}
use Rattle.mako_call.specs.declared.call_stage.CallStage.TheVariants.{Asking, Leaving, Ended}
use Rattle.mako_call.specs.declared.rooting.RootStage.{RootStage}
use Rattle.mako_call.specs.declared.rooting.RootStage.TheVariants.{StoringNumber, StoringNull, LoadingCopied}
use Rattle.mako_call.specs.declared.rooting.RootStage.TheVariants.{StoringCopied, LoadingShown, LoadingSource}
use Rattle.mako_call.specs.declared.rooting.RootStage.TheVariants.{LoadingTarget, LoadingValue, LoadingPhase}
use Rattle.mako_call.specs.declared.entering.EnterStage.{EnterStage}
use Rattle.mako_call.specs.declared.entering.EnterStage.TheVariants.{Arriving as EnterArriving, LoadingEntry}
use Rattle.mako_call.specs.declared.entering.EnterStage.TheVariants.{LoadingHome}
use Rattle.mako_call.specs.declared.moving.MoveStage.{MoveStage}
use Rattle.mako_call.specs.declared.moving.MoveStage.TheVariants.{TakingTurn, LoadingEntry as LoadingAgain}
use Rattle.mako_call.specs.declared.moving.MoveStage.TheVariants.{Copying as Copies, GivingTurn}
use Rattle.mako_call.specs.declared.getting.GetStage.{GetStage}
use Rattle.mako_call.specs.declared.getting.GetStage.TheVariants.{LoadingHeader as GetHeader, LoadingField as GetField}
use Rattle.mako_call.specs.declared.getting.GetStage.TheVariants.{StoringRoot as StoringGot}
use Rattle.mako_call.specs.declared.putting.PutStage.{PutStage}
use Rattle.mako_call.specs.declared.putting.PutStage.TheVariants.{LoadingHeader as PutHeader, LoadingOld}
use Rattle.mako_call.specs.declared.putting.PutStage.TheVariants.{LookingAtBarrier, StoringBarrier, StoringField}
use Rattle.mako_call.specs.declared.allocating.AllocStage.{AllocStage}
use Rattle.mako_call.specs.declared.allocating.AllocStage.TheVariants.{LoadingPhase as NewPhase, Searching, StoringRoot}
use Rattle.mako_call.specs.declared.allocating.AllocStage.TheVariants.{GivingTurn as MadeGivingTurn}
use Rattle.mako_call.specs.declared.asking.AskStage.{AskStage}
use Rattle.mako_call.specs.declared.asking.AskStage.TheVariants.{LoadingPhase as AskPhase, RaisingDemand, Awaiting}
use Rattle.mako_call.specs.declared.leaving.LeaveStage.{LeaveStage}
use Rattle.mako_call.specs.declared.leaving.LeaveStage.TheVariants.{Refused, TurnedAway, FromTablet, FromOwn}
use Rattle.mako_call.specs.Callers.{IsCaller}
use Rattle.mako_call.specs.Agreeing.{RootStageOf, AccessOf, AllocStageOf, LeaveStageOf, IsCollect}
use Rattle.mako_call.specs.Objects.{ValueIsKnown, ErrandIsKnown, LocatedIsKnown, tablet_of, at_object}
use Rattle.mako_call.specs.Rooting.{source_fed, target_fed, root_fed, RootFits, root_rank, RootIsKnown}
use Rattle.mako_call.specs.Entering.{enter_fed, EnterFits, enter_rank, EnterIsKnown}
use Rattle.mako_call.specs.Moving.{copy_fed, move_fed, giving_turn, MoveFits, move_rank, CopyGoesOn, MoveIsKnown}
use Rattle.mako_call.specs.Getting.{get_fed, GetFits, get_rank, GetIsKnown}
use Rattle.mako_call.specs.Putting.{before_store, old_fed, put_fed, PutFits, put_rank, PutIsKnown}
use Rattle.mako_call.specs.Allocating.{found_fed, search_fed, new_fed, NewFits, new_rank, SearchGoesOn, NewIsKnown}
use Rattle.mako_call.specs.Asking.{finished_cycles, ask_fed, AskFits, ask_rank, AskIsKnown}
use Rattle.mako_call.specs.Leaving.{outcome_of, leave_fed, leave_rank, LeaveIsKnown, leaving_tablet, answered_at}
use Rattle.mako_call.proofs.Going.{GoesOn, leaves_tablet, tablet_known, located_tablet, access_arrives, at_goes}
use Rattle.mako_call.proofs.Going.{entry_fits, one_more, arrives_asked, outcome_arrives, collect_asked, named_fits}
use Rattle.mako_call.proofs.Going.{opening_known, opening_rank}

source_goes : (k : Caller) (to from field : ℕ) (v : Value) → to < k.shape.roots → FitsValue v → ValueIsKnown k.shape v
    → GoesOn k (Get to from field) 47 (source_fed to field v)
source_goes k to from field Null h fits known = record { known = tt; agrees = tt; lower = omega arith }
source_goes k to from field (NumValue x) h fits known = record { known = tt; agrees = tt; lower = omega arith }
source_goes k to from field (Ref name) h fits known = record {
  known = (((fits, known), h), tt);
  agrees = (refl, refl);
  lower = omega arith;
}

target_goes : (k : Caller) (to field from : ℕ) (v : Value) → from < k.shape.roots → FitsValue v → ValueIsKnown k.shape v
    → GoesOn k (Put to field from) 49 (target_fed field from v)
target_goes k to field from Null h fits known = record { known = tt; agrees = tt; lower = omega arith }
target_goes k to field from (NumValue x) h fits known = record { known = tt; agrees = tt; lower = omega arith }
target_goes k to field from (Ref name) h fits known = record {
  known = ((fits, known), h);
  agrees = (refl, refl);
  lower = omega arith;
}

pub root_goes : (k : Caller) (call : Call) (s : RootStage) (w : ℕ) → RootIsKnown k.shape s → RootStageOf call s
    → RootFits k.shape s w → GoesOn k call (root_rank s) (root_fed s w)
root_goes k (Num root number) (StoringNumber r x) w known agrees fits =
    record { known = tt; agrees = tt; lower = omega arith }
root_goes k (DropRoot root) (StoringNull r) w known agrees fits =
    record { known = tt; agrees = tt; lower = omega arith }
root_goes k (CopyRoot to from) (LoadingCopied r q) w known agrees fits =
    record { known = (known.0, fits.fits); agrees = agrees.0; lower = omega arith }
root_goes k (CopyRoot to from) (StoringCopied r value) w known agrees fits =
    record { known = tt; agrees = tt; lower = omega arith }
root_goes k (Show root) (LoadingShown r) w known agrees fits = record { known = tt; agrees = tt; lower = omega arith }
root_goes k (Get to from field) (LoadingSource r q i) w known agrees fits =
    let g = source_goes k r q i (value_at w) known.0 fits.0.fits fits.1 in
    let same : Get r q i ≡ Get to from field = cc in
    subst (λ (c : Call). GoesOn k c 47 (source_fed r i (value_at w))) same g
root_goes k (Put to field from) (LoadingTarget r i q) w known agrees fits =
    let g = target_goes k r i q (value_at w) known.1 fits.0.fits fits.1 in
    let same : Put r i q ≡ Put to field from = cc in
    subst (λ (c : Call). GoesOn k c 49 (target_fed i q (value_at w))) same g
root_goes k (Put to field from) (LoadingValue object i q) w known agrees fits =
    record { known = (known.0, fits.fits); agrees = agrees.0; lower = omega arith }
root_goes k (Put to field from) (LoadingPhase object i value) w known agrees fits =
    record { known = ((known.0, known.1), tt); agrees = agrees; lower = omega arith }
root_goes k _ _ w known agrees fits = absurd agrees

pub enter_goes : (k : Caller) (call : Call) (e : Errand) (s : EnterStage) (w : ℕ) → ErrandIsKnown k.shape e
    → EnterIsKnown k.shape s → AccessOf call e.access → EnterFits k.shape s w →
    GoesOn k call (enter_rank s) (enter_fed k.shape e s w)
enter_goes k call e EnterArriving w errand known agrees fits =
    by_bool (λ b. GoesOn k call 46
    (if b then Leaving (TurnedAway (tablet_of k.shape e.object) w) else Entering e LoadingEntry)) (is_shut w)
    (λ _. record { known = tablet_known k e errand; agrees = access_arrives call e.access agrees; lower = omega arith })
    (λ _. record { known = (errand, tt); agrees = agrees; lower = omega arith })
enter_goes k call e LoadingEntry w errand known agrees fits = record {
  known = (errand, fits);
  agrees = agrees;
  lower = omega arith;
}
enter_goes k call e (LoadingHome found) w errand known agrees fits =
    by_bool (λ b. GoesOn k call 44 (if b then at_object e found.address else Moving e (TakingTurn w)))
    (is_in_region k.shape w found.address)
    (λ _. at_goes k call 44 (record { object = e.object; address = found.address }) e.access
    (errand.0, known) errand.1 agrees (omega arith))
    (λ _. record { known = (errand, fits); agrees = agrees; lower = omega arith })

-- on with the copy, or to the giving of the turn
copy_on : (k : Caller) (call : Call) (e : Errand) (c : Copying) (r : ℕ) (s : CopyStage) → c.stage ≡ s
    → ErrandIsKnown k.shape e → AccessOf call e.access → copying.IsKnown c → c.shape ≡ k.shape →
    copying.StageIsKnown c.shape c.entry s → copying.stage_rank s < r → GoesOn k call (8 + r) (copy_fed e c s)
copy_on k call e c r LoadingTop at errand agrees known same stage lower =
    record {
      known = (errand, (known, subst CopyGoesOn (sym at) tt, same));
      agrees = agrees;
      lower = subst (λ q. 8 + copying.stage_rank q < 8 + r) (sym at) (omega (arith, lower));
    }
copy_on k call e c r (CopyHeader offset) at errand agrees known same stage lower =
    record {
      known = (errand, (known, subst CopyGoesOn (sym at) tt, same));
      agrees = agrees;
      lower = subst (λ q. 8 + copying.stage_rank q < 8 + r) (sym at) (omega (arith, lower));
    }
copy_on k call e c r (StoringHeader offset fields) at errand agrees known same stage lower =
    record {
      known = (errand, (known, subst CopyGoesOn (sym at) tt, same));
      agrees = agrees;
      lower = subst (λ q. 8 + copying.stage_rank q < 8 + r) (sym at) (omega (arith, lower));
    }
copy_on k call e c r (CopyField offset fields field) at errand agrees known same stage lower =
    record {
      known = (errand, (known, subst CopyGoesOn (sym at) tt, same));
      agrees = agrees;
      lower = subst (λ q. 8 + copying.stage_rank q < 8 + r) (sym at) (omega (arith, lower));
    }
copy_on k call e c r (CopiedField offset fields field word) at errand agrees known same stage lower =
    record {
      known = (errand, (known, subst CopyGoesOn (sym at) tt, same));
      agrees = agrees;
      lower = subst (λ q. 8 + copying.stage_rank q < 8 + r) (sym at) (omega (arith, lower));
    }
copy_on k call e c r (StoringEntry offset fields) at errand agrees known same stage lower =
    record {
      known = (errand, (known, subst CopyGoesOn (sym at) tt, same));
      agrees = agrees;
      lower = subst (λ q. 8 + copying.stage_rank q < 8 + r) (sym at) (omega (arith, lower));
    }
copy_on k call e c r (RaisingTop offset fields) at errand agrees known same stage lower =
    record {
      known = (errand, (known, subst CopyGoesOn (sym at) tt, same));
      agrees = agrees;
      lower = subst (λ q. 8 + copying.stage_rank q < 8 + r) (sym at) (omega (arith, lower));
    }
copy_on k call e c r (Copied address) at errand agrees known same stage lower =
    record {
      known = (errand, subst (λ n. IsAddress n address) same stage);
      agrees = agrees;
      lower = omega (arith, lower);
    }

-- a copy that goes on has an act
copy_acts : (c : Copying) (s : CopyStage) → CopyGoesOn s → IsAct (copying.copy_next c.shape c.number c.entry c.home s)
copy_acts c LoadingTop h = tt
copy_acts c (CopyHeader offset) h = tt
copy_acts c (StoringHeader offset fields) h = tt
copy_acts c (CopyField offset fields field) h = tt
copy_acts c (CopiedField offset fields field word) h = tt
copy_acts c (StoringEntry offset fields) h = tt
copy_acts c (RaisingTop offset fields) h = tt
copy_acts c (Copied address) h = absurd h

pub move_goes : (k : Caller) (call : Call) (e : Errand) (s : MoveStage) (w : ℕ) → IsCaller k → ErrandIsKnown k.shape e
    → MoveIsKnown k.shape s → AccessOf call e.access → MoveFits k.shape s w →
    GoesOn k call (move_rank s) (move_fed k.shape e s w)
move_goes k call e (TakingTurn home) w caller errand known agrees fits =
    by_bool (λ b. GoesOn k call 43
    (if b then Moving e (LoadingAgain home) else leaving_tablet (tablet_of k.shape e.object)
    (Paused (Busy (tablet_of k.shape e.object) w)))) (w == 0)
    (λ _. record { known = (errand, known); agrees = agrees; lower = omega arith })
    (λ _. leaves_tablet k call 43 (tablet_of k.shape e.object) (Paused (Busy (tablet_of k.shape e.object) w))
    (access_arrives call e.access agrees) (tablet_known k e errand) (omega arith))
move_goes k call e (LoadingAgain home) w caller errand known agrees fits =
    by_bool (λ b. GoesOn k call 42
    (if b then giving_turn e (entry_at w).address else Moving e
    (Copies (opening_copy k.shape e.object.entry (entry_at w) home))))
    (is_in_region k.shape home (entry_at w).address)
    (λ _. record { known = (errand, fits); agrees = agrees; lower = omega arith })
    (λ _. record {
      known = (
        errand,
        (
          record {
            shape = caller.shape;
            number = errand.0.1;
            fits = entry_fits w;
            address = fits;
            home = known;
            stage = tt;
          },
          tt,
          refl,
        ),
      );
      agrees = agrees;
      lower = omega arith;
    })
move_goes k call e (Copies copier) w caller errand known agrees fits =
    let acts = copy_acts copier copier.stage known.1 in
    let after = copy_goes copier w known.0 fits acts in
    copy_on k call e (copying.fed copier w) (copying.rank copier) (copying.fed copier w).stage refl errand agrees
    (copy_known copier w known.0 fits acts) known.2 after.known after.lower
move_goes k call e (GivingTurn address) w caller errand known agrees fits =
    at_goes k call 8 (record { object = e.object; address = address }) e.access (errand.0, known) errand.1 agrees
    (omega arith)

pub get_goes : (k : Caller) (call : Call) (at : Located) (get : GetArgs) (s : GetStage) (w : ℕ)
    → LocatedIsKnown k.shape at → GetIsKnown k.shape at get s → AccessOf call (Gets get) → GetFits k.shape at s w →
    GoesOn k call (get_rank s) (get_fed k.shape at get s w)
get_goes k call at get GetHeader w located known agrees fits =
    by_lt (λ b. GoesOn k call 5
    (if b then Getting at get GetField else answered_at (tablet_of k.shape at.object) NoField)) get.field w
    (λ l. record { known = (located, (known, omega (arith, l, fits))); agrees = agrees; lower = omega arith })
    (λ _. record {
      known = located_tablet k at located;
      agrees = access_arrives call (Gets get) agrees;
      lower = omega arith;
    })
get_goes k call at get GetField w located known agrees fits = record {
  known = (located, (known.0, fits.fits));
  agrees = agrees;
  lower = omega arith;
}
get_goes k call at get (StoringGot value) w located known agrees fits =
    record { known = located_tablet k at located; agrees = access_arrives call (Gets get) agrees; lower = omega arith }

-- the stages between the header and the store of the field
before_goes : (k : Caller) (call : Call) (at : Located) (put : PutArgs) (p : PhaseWord) → LocatedIsKnown k.shape at
    → PutIsKnown k.shape at put StoringField → AccessOf call (Puts put) →
    GoesOn k call 7 (Putting at put (before_store p))
before_goes k call at put (Idle c) located known agrees = record {
  known = (located, known);
  agrees = agrees;
  lower = omega arith;
}
before_goes k call at put (Trace c) located known agrees = record {
  known = (located, known);
  agrees = agrees;
  lower = omega arith;
}
before_goes k call at put (Evac c) located known agrees = record {
  known = (located, known);
  agrees = agrees;
  lower = omega arith;
}
before_goes k call at put (Stop c) located known agrees = record {
  known = (located, known);
  agrees = agrees;
  lower = omega arith;
}

old_goes : (k : Caller) (call : Call) (at : Located) (put : PutArgs) (v : Value) → FitsValue v
    → LocatedIsKnown k.shape at → PutIsKnown k.shape at put StoringField → AccessOf call (Puts put) →
    GoesOn k call 6 (Putting at put (old_fed v))
old_goes k call at put Null fits located known agrees = record {
  known = (located, known);
  agrees = agrees;
  lower = omega arith;
}
old_goes k call at put (NumValue x) fits located known agrees = record {
  known = (located, known);
  agrees = agrees;
  lower = omega arith;
}
old_goes k call at put (Ref name) fits located known agrees = record {
  known = (located, (known.0, known.1, fits));
  agrees = agrees;
  lower = omega arith;
}

pub put_goes : (k : Caller) (call : Call) (slot : ℕ) (at : Located) (put : PutArgs) (s : PutStage) (w : ℕ)
    → LocatedIsKnown k.shape at → PutIsKnown k.shape at put s → AccessOf call (Puts put) →
    PutFits k.shape at s w → GoesOn k call (put_rank s) (put_fed k.shape slot at put s w)
put_goes k call slot at put PutHeader w located known agrees fits =
    by_lt (λ b. GoesOn k call 7
    (if b then Putting at put (before_store put.phase) else answered_at (tablet_of k.shape at.object) NoField))
    put.field w
    (λ l. before_goes k call at put put.phase located (known, omega (arith, l, fits)) agrees)
    (λ _. record {
      known = located_tablet k at located;
      agrees = access_arrives call (Puts put) agrees;
      lower = omega arith;
    })
put_goes k call slot at put LoadingOld w located known agrees fits =
    old_goes k call at put (value_at w) fits.fits located known agrees
put_goes k call slot at put (LookingAtBarrier old) w located known agrees fits =
    by_bool (λ b. GoesOn k call 5
    (if b then Putting at put (StoringBarrier old) else leaving_tablet (tablet_of k.shape at.object)
    (Paused (Barrier slot w)))) (w == 0)
    (λ _. record { known = (located, known); agrees = agrees; lower = omega arith })
    (λ _. record {
      known = located_tablet k at located;
      agrees = access_arrives call (Puts put) agrees;
      lower = omega arith;
    })
put_goes k call slot at put (StoringBarrier old) w located known agrees fits =
    record { known = (located, (known.0, known.1)); agrees = agrees; lower = omega arith }
put_goes k call slot at put StoringField w located known agrees fits =
    record { known = located_tablet k at located; agrees = access_arrives call (Puts put) agrees; lower = omega arith }

pub leave_goes : (k : Caller) (call : Call) (last : Bool) (s : LeaveStage) → LeaveIsKnown k.shape s
    → LeaveStageOf call s → GoesOn k call (leave_rank s) (leave_fed last s)
leave_goes k call last (Refused word) known of =
    record { known = tt; agrees = arrives_asked k.shape call (Paused (Stopped word)) of; lower = omega arith }
leave_goes k call last (TurnedAway tablet word) known of = record { known = tt; agrees = of; lower = omega arith }
leave_goes k call last (FromTablet tablet outcome) known of = record { known = tt; agrees = of; lower = omega arith }
leave_goes k call last (FromOwn outcome) known of = record {
  known = tt;
  agrees = arrives_asked k.shape call (outcome_of last outcome) (outcome_arrives call outcome of);
  lower = omega arith;
}

-- a number that is not the last is before it
not_last : (a b : ℕ) → a ≤ b → (a ≡ b → ⊥) → a + 1 ≤ b
not_last a b h d = let more = one_more a (b + 1) (omega (arith, h)) (λ e. d (omega (arith, e))) in omega (arith, more)

pub ask_goes : (k : Caller) (call : Call) (s : AskStage) (w : ℕ) → AskIsKnown k.shape s → IsCollect call
    → AskFits k.shape s w → GoesOn k call (ask_rank s) (ask_fed k.shape s w)
ask_goes k call AskPhase w known agrees fits =
    by_eq (λ b. GoesOn k call 3
    (if b then Ended (Answer Spent) else Asking (RaisingDemand (cycle_of (phase_at w) + 1))))
    (cycle_of (phase_at w)) k.shape.cycles
    (λ _. record { known = tt; agrees = collect_asked k.shape call (Answer Spent) agrees tt; lower = omega arith })
    (λ d. record {
      known = (omega arith, not_last (cycle_of (phase_at w)) k.shape.cycles fits.1 d);
      agrees = agrees;
      lower = omega arith;
    })
ask_goes k call (RaisingDemand cycle) w known agrees fits = record {
  known = known;
  agrees = agrees;
  lower = omega arith;
}
ask_goes k call (Awaiting cycle) w known agrees fits =
    by_bool (λ b. GoesOn k call 1 (if b then Ended (Answer (Cycle cycle)) else Ended (Paused (NotYet cycle w))))
    (nat_le cycle (finished_cycles (phase_at w)))
    (λ _. record {
      known = tt;
      agrees = collect_asked k.shape call (Answer (Cycle cycle)) agrees tt;
      lower = omega arith;
    })
    (λ _. record {
      known = tt;
      agrees = collect_asked k.shape call (Paused (NotYet cycle w)) agrees known;
      lower = omega arith;
    })

-- what the search found: the name of an object fits
found_goes : (k : Caller) (root fields q r : ℕ) (job : Job) (found : Found) → q < k.shape.roots → q ≡ root
    → job.shape ≡ k.shape → allocating.IsJob job → allocating.IsFoundKnown job found → 0 < r →
    GoesOn k (New root fields) (r + 4) (found_fed q found)
found_goes k root fields q r job (Made name tablet) small same here numbers known h = record {
  known = (
    small,
    named_fits job name numbers known.0,
    subst
        (λ (n : Numbers). tablet < n.servers * n.tablets) here known.1,
  );
  agrees = same;
  lower = omega (arith, h);
}
found_goes k root fields q r job NoRoom small same here numbers known h =
    record { known = tt; agrees = tt; lower = omega arith }
found_goes k root fields q r job (FoundPause pause) small same here numbers known h =
    record { known = tt; agrees = tt; lower = omega arith }

-- the attempt goes on with the search
record Goes (k : Caller) (root fields q r : ℕ) (search : Allocation) : Type 0 where
  small : q < k.shape.roots
  same : q ≡ root
  known : allocating.IsKnown search.job search.progress
  shape : search.job.shape ≡ k.shape
  mutator : search.job.mutator ≡ k.mutator
  fields_are : search.job.fields ≡ fields
  lower : allocating.rank search < r

search_goes : (k : Caller) (root fields q r : ℕ) (search : Allocation) → Goes k root fields q r search
    → SearchGoesOn search.progress.stage → GoesOn k (New root fields) (r + 4) (Allocating (Searching q search))
search_goes k root fields q r search g on = record {
  known = (g.small, g.known, on, g.shape, g.mutator);
  agrees = (g.same, g.fields_are);
  lower = (let h = g.lower in omega (arith, h));
}

search_on : (k : Caller) (root fields q r : ℕ) (search : Allocation) (s : NewStage) → search.progress.stage ≡ s
    → Goes k root fields q r search → allocating.IsStageKnown search.job s →
    GoesOn k (New root fields) (r + 4) (search_fed q search s)
search_on k root fields q r search NewArriving at g stage =
    search_goes k root fields q r search g (subst SearchGoesOn (sym at) tt)
search_on k root fields q r search NewTurnedAway at g stage =
    search_goes k root fields q r search g (subst SearchGoesOn (sym at) tt)
search_on k root fields q r search NewTakingTurn at g stage =
    search_goes k root fields q r search g (subst SearchGoesOn (sym at) tt)
search_on k root fields q r search LoadingLeaving at g stage =
    search_goes k root fields q r search g (subst SearchGoesOn (sym at) tt)
search_on k root fields q r search NewTop at g stage =
    search_goes k root fields q r search g (subst SearchGoesOn (sym at) tt)
search_on k root fields q r search (NewEntry kept place) at g stage =
    search_goes k root fields q r search g (subst SearchGoesOn (sym at) tt)
search_on k root fields q r search (NewHome kept name) at g stage =
    search_goes k root fields q r search g (subst SearchGoesOn (sym at) tt)
search_on k root fields q r search (Making made part) at g stage =
    search_goes k root fields q r search g (subst SearchGoesOn (sym at) tt)
search_on k root fields q r search NewGivingTurn at g stage =
    search_goes k root fields q r search g (subst SearchGoesOn (sym at) tt)
search_on k root fields q r search NewLeaving at g stage =
    search_goes k root fields q r search g (subst SearchGoesOn (sym at) tt)
search_on k root fields q r search (NewEnded found) at g stage =
    found_goes k root fields q r search.job found g.small g.same g.shape g.known.numbers stage (let h = g.lower in
    omega (arith, h))

-- a search that goes on has an act
search_acts : (job : Job) (t : ℕ) (s : NewStage) → SearchGoesOn s → IsAct (allocating.stage_next job t s)
search_acts job t NewArriving h = tt
search_acts job t NewTurnedAway h = tt
search_acts job t NewTakingTurn h = tt
search_acts job t LoadingLeaving h = tt
search_acts job t NewTop h = tt
search_acts job t (NewEntry kept place) h = tt
search_acts job t (NewHome kept name) h = tt
search_acts job t (Making made Header) h = tt
search_acts job t (Making made (Field i)) h = tt
search_acts job t (Making made Top) h = tt
search_acts job t (Making made Entry) h = tt
search_acts job t NewGivingTurn h = tt
search_acts job t NewLeaving h = tt
search_acts job t (NewEnded found) h = absurd h

pub new_goes : (k : Caller) (root fields : ℕ) (s : AllocStage) (w : ℕ) → IsCaller k → NewIsKnown k s
    → AllocStageOf (New root fields) s → NewFits k.shape s w
    → GoesOn k (New root fields) (new_rank k.shape s) (new_fed k s w)
new_goes k root fields (NewPhase q f) w caller known agrees fits = record {
  known = (known.0, opening_known k f (cycle_of (phase_at w)) caller known.1 fits.1, tt, refl, refl);
  agrees = agrees;
  lower = (let b = opening_rank k f (cycle_of (phase_at w)) caller known.1 in omega (arith, b));
}
new_goes k root fields (Searching q search) w caller known agrees fits =
    let on = step_goes_on search.job search.progress w known.1 fits
    (search_acts search.job (allocating.tablet_at search.job search.progress.passed) search.progress.stage known.2)
    in
    let after = allocating.fed search w in
    search_on k root fields q (allocating.rank search) after after.progress.stage refl
    (record {
      small = known.0;
      same = agrees.0;
      known = on.0;
      shape = known.3;
      mutator = known.4;
      fields_are = agrees.1;
      lower = on.1;
    })
    on.0.stage
new_goes k root fields (StoringRoot q name tablet) w caller known agrees fits =
    record { known = known.2; agrees = tt; lower = omega arith }
new_goes k root fields (MadeGivingTurn name tablet) w caller known agrees fits =
    record { known = known; agrees = tt; lower = omega arith }
