-- The step of a mutator beside the other seats.
use Rattle.std.proofs.Common.{◌≡◌, ◌≢◌, ℕ, ◌<◌, ◌≤◌, ◌+◌, ◌*◌, Bool, inl, List, [], ◌∷◌, ◌++◌, Option, None, Some, sym}
use Rattle.std.proofs.Common.{ap, subst, refl, ◌∙◌, arith}
use Rattle.std.specs.Prelude.{slice_get}
use Rattle.std.proofs.lemmas.List.{append-nil}
use Rattle.std.proofs.Math.Nat.{mul-le-mul_right}
use Rattle.mako_words.specs.declared.name.Name.{Name}
use Rattle.mako_gate.proofs.Lists.{set_at, set_past}
use Rattle.mako_words.specs.Phases.{cycle_of}
use Rattle.mako_shape.specs.declared.numbers.Numbers.{Numbers}
use Rattle.mako_shape.specs.Places.{phase, root, barrier, notice}
use Rattle.mako_step.specs.Machines.{IsAct}
use Rattle.mako_model.specs.declared.call.Call.{Call}
use Rattle.mako_model.specs.declared.call.Call.TheVariants as call
use Rattle.mako_model.specs.declared.reply.Reply.{Reply}
use Rattle.mako_model.specs.declared.point.Point.{Point}
use Rattle.mako_model.specs.declared.point.Point.TheVariants.{Did}
use Rattle.mako_model.specs.Lawful.{IsLawful}
use Rattle.mako_model.specs.Legal.{Facts, state_of, IsLegal}
use Rattle.mako_model.proofs.Histories.{legal_at}
use Rattle.mako_model.specs.Sizes.{IsSmallCall, ObjectsAreSmall}
use Rattle.mako_names.specs.Tables.{phase_of}
use Rattle.mako_names.proofs.Words.{phase_same}
use Rattle.mako_call.specs.Callers.{CallFits}
use Rattle.mako_call.specs.Calls as calling
use Rattle.mako_call.specs.Calls.{event_by, decided}
use Rattle.mako_mutator.specs.declared.progress.Task.{Task}
use Rattle.mako_mutator.specs.declared.progress.Task.TheVariants.{Attempting, Awaiting, Finishing, Ended as TaskEnded}
use Rattle.mako_mutator.specs.Drivers as drivers
use Rattle.mako_mutator.specs.Drivers.{Driving, TaskIsKnown}
use Rattle.mako_joint.specs.Joints.{JointScene}
use Rattle.mako_seat.specs.declared.seat.Seat.{Seat}
use Rattle.mako_seat.specs.declared.seat.Seat.TheVariants.{Mutator}
use Rattle.mako_shades.specs.Stands.{SizesStay}
use Rattle.mako_shades.proofs.Serving.{sizes_stay, sizes_same}
use Rattle.mako_server.specs.Serving.{Serving}
use Rattle.mako_server.specs.declared.stage.ServerStage.{ServerStage}
use Rattle.mako_server.specs.declared.stage.ServerStage.TheVariants.{Turning, Tracing, Evacuating, Ended}
use Rattle.mako_state.specs.CoreStates.{front_after}
use Rattle.mako_mutating.specs.Beside.{GoesOnBeside, Silent, Told}
use Rattle.mako_mutating.specs.Mutators.{IsSeen, view_of, found_by, stepped}
use Rattle.mako_mutating.proofs.Beside.{others_leave}
use Rattle.mako_model.proofs.Histories.{state_push}
use Rattle.mako_model.proofs.Sizes.{points_keep_small}
use Rattle.mako_making.specs.Makings.{MakingKeeps}
use Rattle.mako_making.proofs.Staying.{searches_stay}
use Rattle.mako_tracing.specs.ServerFacets.{IsServerSeat, tracer_laden}
use Rattle.mako_tracing.specs.ServerLives.{IsMeasured}
use Rattle.mako_tracing.proofs.Lists.{if_same, if_other}
use Rattle.mako_tracing.proofs.Resting.{measured_stays}
use Rattle.mako_evac.specs.Evacuating.{Evacuation, IsKnown}
use Rattle.mako_evac.specs.Owners.{IsOwnEntry}
use Rattle.mako_clearing.specs.ClearingFacets.{server_seat, stage_carries}
use Rattle.mako_clearing.specs.Clearing.{tells_end, ClearingStands, IsDue}
use Rattle.mako_clearing.proofs.Rings.{sending_stays}
use Rattle.mako_clearing.proofs.Staying.{clearing_stays}
use Rattle.mako_writes.specs.Writes.{MutatorWrites, LeavesOthers}
use Rattle.mako_writes.proofs.Mutators.{mutators_write}
use Rattle.mako_sitting.specs.Seats.{AllSit, MutatorSits, PutsAt, ServerSits, RestSits, StageSits, GoneOver, HeardIn}
use Rattle.mako_sitting_mutators.specs.MutatorSteps.{mutator_next, task_place, places_after}
use Rattle.mako_sitting_mutators.proofs.MutatorMarks.{TakenEntriesStay}
use Rattle.mako_sitting_mutators.proofs.MutatorTurns.{keeps}

-- a put is at the place of its attempt
puts_at : (last : ℕ) (t : Task) → PutsAt (task_place last t) t
puts_at last (Attempting c) = refl
puts_at last (Awaiting c) = refl
puts_at last Finishing = tt
puts_at last TaskEnded = tt

-- how a history goes on: by one answer of this mutator, or not at all
pub data GoesOn (w : Facts) (m : ℕ) (history : List Point) : List Point → Type 0 where
  Same : GoesOn w m history history
  More : (c : Call) (r : Reply) → IsLawful (state_of w history) (Did m c r) → IsSmallCall c
      → GoesOn w m history (history ++ Did m c r ∷ [])

-- a call of a program makes no large object
small_call : (n : Numbers) (c : Call) → CallFits n c → IsSmallCall c
small_call n (call.New q fields) fits = fits.1
small_call n (call.Num q x) fits = tt
small_call n (call.CopyRoot to from) fits = tt
small_call n (call.DropRoot q) fits = tt
small_call n (call.Get to from field) fits = tt
small_call n (call.Put to field from) fits = tt
small_call n (call.Show q) fits = tt
small_call n call.Collect fits = tt

beside : (w : Facts) (m other : ℕ) (history after : List Point) → other ≢ m → GoesOn w m history after
    → GoesOnBeside w other history after
beside w m other history _ apart Same = Silent
beside w m other history _ apart (More c r lawful small) = Told m c r apart lawful

sizes : (w : Facts) (m : ℕ) (history after : List Point) → GoesOn w m history after
    → SizesStay (state_of w history) (state_of w after)
sizes w m history _ Same = sizes_same (state_of w history)
sizes w m history _ (More c r lawful small) = sizes_stay w history (Did m c r) lawful

pub longer : (w : Facts) (m : ℕ) (history after : List Point) → GoesOn w m history after
    → (more : List Point) × (after ≡ history ++ more)
longer w m history _ Same = ([], sym (append-nil history))
longer w m history _ (More c r lawful small) = (Did m c r ∷ [], refl)

-- ---- what a server that evacuates has of its own
own_within : (n : Numbers) (e : Evacuation) → e.owner.shape ≡ n → IsKnown e → (x : ℕ) → IsOwnEntry e.owner x
    → x < n.servers * n.tablets * n.entries
own_within n e shape known x own =
    let o = e.owner in
    let low : o.server + 1 ≤ o.shape.servers = omega (arith, known.owner.server) in
    let most = mul-le-mul_right o.shape.entries (mul-le-mul_right o.shape.tablets low) in
    subst (λ (k : Numbers). x < k.servers * k.tablets * k.entries) shape (omega (arith, own.below))

owner_low : (n : Numbers) (e : Evacuation) → IsKnown e → e.owner.shape ≡ n → e.owner.server < n.servers
owner_low n e known shape = subst (λ (k : Numbers). e.owner.server < k.servers) shape known.owner.server

at_low : (n : Numbers) (e : Evacuation) → IsKnown e → e.owner.shape ≡ n → e.at < n.ring
at_low n e known shape = subst (λ (k : Numbers). e.at < k.ring) shape known.at

few_stay : (w : Facts) (m : ℕ) (history after : List Point) → GoesOn w m history after
    → ObjectsAreSmall (state_of w history) → ObjectsAreSmall (state_of w after)
few_stay w m history _ Same few = few
few_stay w m history _ (More c r lawful small) few =
    subst ObjectsAreSmall (sym (state_push w history (Did m c r)))
    (points_keep_small.point (state_of w history) (Did m c r) lawful small few)

module _ (n : Numbers) (w : Facts) (s : JointScene) (seats : List Seat) (m : ℕ) (d : Driving)
    (all : AllSit n w s seats) (here : slice_get seats m ≡ Some (Mutator d)) (act : IsAct (drivers.next_of d)) where
  after : JointScene
  after = stepped s m d

  sits : MutatorSits n w s (all.places m) m d
  sits = all.each m (Mutator d) here

  pub kept : MakingKeeps n w s m d
  kept = keeps n w s seats m d all here act

  -- ---- the mutator itself

  pub own_sits : MutatorSits n w (stepped s m d) (places_after all.places s m d m) m (mutator_next s d)
  own_sits = record {
    seen = own_seen;
    keeps = kept.step.1;
    searches = kept.searches;
    puts = subst (λ p. PutsAt p (mutator_next s d).progress.task)
        (sym (if_same m m (task_place (all.places m) (mutator_next s d).progress.task) (all.places m) refl))
        (puts_at (all.places m) (mutator_next s d).progress.task);
  }
    where
      own_seen : IsSeen (stepped s m d) m (view_of (mutator_next s d))
      own_seen = record {
        gate = set_at _ m _ _ sits.seen.gate;
        work = set_at _ m _ _ sits.seen.work;
        trace = set_at _ m _ _ sits.seen.trace;
        phase = set_at _ m _ _ sits.seen.phase;
        held = set_at _ m _ _ sits.seen.held;
        trying = set_at _ m _ _ sits.seen.trying;
        left = set_at _ m _ _ sits.seen.left;
      }

  -- ---- words

  pub leaves : LeavesOthers n (MutatorWrites m) s.words (stepped s m d).words
  leaves =
      subst (λ (k : Numbers). LeavesOthers k (MutatorWrites m) s.words (stepped s m d).words) sits.keeps.shape
      (subst (λ i. LeavesOthers d.caller.shape (MutatorWrites i) s.words (stepped s m d).words) sits.keeps.number
      (mutators_write d s.words sits.keeps.known))

  pub phase_left : phase_of n (stepped s m d).words ≡ phase_of n s.words
  phase_left = phase_same n s.words (stepped s m d).words (leaves phase tt (λ x. x))

  -- ---- the history

  pub legal : IsLegal w (stepped s m d).front.history
  legal = kept.step.0.names.hold.answers.lawful.legal

  by_event : (i : ℕ) → i ≡ m → (c : Call) → IsSmallCall c → (x y : Option Reply)
      → IsLegal w (front_after s.front [] (event_by i c x y)).history
      → GoesOn w m s.front.history (front_after s.front [] (event_by i c x y)).history
  by_event i e c small None None lawful = Same
  by_event i e c small None (Some r) lawful =
      subst (λ k. GoesOn w m s.front.history (s.front.history ++ Did k c r ∷ [])) (sym e)
      (More c r (legal_at w s.front.history (Did m c r) []
      (subst (λ k. IsLegal w (s.front.history ++ Did k c r ∷ [])) e lawful)) small)
  by_event i e c small (Some x) y lawful = Same

  by_task : (t : Task) → d.progress.task ≡ t
      → IsLegal w (front_after s.front [] (drivers.task_event t (found_by s d))).history
      → GoesOn w m s.front.history (front_after s.front [] (drivers.task_event t (found_by s d))).history
  by_task (Attempting c) is lawful =
      let known = subst (TaskIsKnown d.caller d.calls d.progress.done) is sits.keeps.known.progress.task in
      by_event c.caller.mutator (ap (λ k. k.mutator) known.same ∙ sits.keeps.number) c.call
      (small_call d.caller.shape c.call (sits.keeps.known.calls d.progress.done c.call known.call)) (decided c.stage)
      (decided (calling.fed c (found_by s d)).stage) lawful
  by_task (Awaiting c) is lawful = Same
  by_task Finishing is lawful = Same
  by_task TaskEnded is lawful = Same

  pub goes_on : GoesOn w m s.front.history (stepped s m d).front.history
  goes_on = by_task d.progress.task refl legal

  pub few_after : ObjectsAreSmall (state_of w (stepped s m d).front.history)
  few_after = few_stay w m s.front.history (stepped s m d).front.history goes_on all.few

  finished_by : (t : Task) → (front_after s.front [] (drivers.task_event t (found_by s d))).finished ≡ s.front.finished
  finished_by (Attempting c) = of (decided c.stage) (decided (calling.fed c (found_by s d)).stage)
    where
      of : (x y : Option Reply)
          → (front_after s.front [] (event_by c.caller.mutator c.call x y)).finished ≡ s.front.finished
      of None None = refl
      of None (Some r) = refl
      of (Some x) y = refl
  finished_by (Awaiting c) = refl
  finished_by Finishing = refl
  finished_by TaskEnded = refl

  pub finished_same : (stepped s m d).front.finished ≡ s.front.finished
  finished_same = finished_by d.progress.task

  -- ---- other mutators

  module _ (i : ℕ) (apart : i ≢ m) where
    place_same : places_after all.places s m d i ≡ all.places i
    place_same = if_other i m (task_place (all.places m) (mutator_next s d).progress.task) (all.places i) apart

    pub other_sits : (e : Driving) → MutatorSits n w s (all.places i) i e
        → MutatorSits n w (stepped s m d) (places_after all.places s m d i) i e
    other_sits e it = record {
      seen = record {
        gate = set_past _ m i _ _ apart it.seen.gate;
        work = set_past _ m i _ _ apart it.seen.work;
        trace = set_past _ m i _ _ apart it.seen.trace;
        phase = set_past _ m i _ _ apart it.seen.phase;
        held = set_past _ m i _ _ apart it.seen.held;
        trying = set_past _ m i _ _ apart it.seen.trying;
        left = set_past _ m i _ _ apart it.seen.left;
      };
      keeps = others_leave n w s.words (stepped s m d).words s.front (stepped s m d).front i e it.keeps
          (record {
            roots = λ q low. leaves (root i q) (it.keeps.in_range, low) apart;
            barriers = λ slot low. inl (leaves (barrier i slot) (it.keeps.in_range, low) apart);
          })
          (beside w m i s.front.history (stepped s m d).front.history apart goes_on);
      searches = searches_stay n w s i e all.joint it.seen it.searches (stepped s m d).words
          (inl (ap cycle_of phase_left));
      puts = subst (λ p. PutsAt p e.progress.task) (sym place_same) it.puts;
    }

    -- ---- servers

    module _ (taken : TakenEntriesStay n s m d) (taker : ℕ) (v : Serving) (it : ServerSits n w s taker i v) where
      seat_here : IsServerSeat (stepped s m d) i v
      seat_here = record {
        trace = set_past _ m i _ _ apart it.here.trace;
        gate = set_past _ m i _ _ apart it.here.gate;
        work = set_past _ m i _ _ apart it.here.work;
        phase = set_past _ m i _ _ apart it.here.phase;
        serving = it.here.serving;
      }

      rests : RestSits n s taker v → RestSits n (stepped s m d) taker v
      rests r = record {
        through = r.through;
        through_is = r.through_is;
        gone_over = subst (λ p. GoneOver n p v.ended r.through) (sym phase_left) r.gone_over;
        sent = r.sent;
        done = r.done;
        sent_is = r.sent_is;
        sending = sending_stays n s.words (stepped s m d).words v.tracer.server taker v.notice_at r.sent [] r.done
            (λ slot low. leaves (notice v.tracer.server slot) (it.in_range, low) (λ x. x)) r.sending;
        ended = λ e. r.ended e ∙ ap cycle_of (sym phase_left);
        heard = subst (λ p. HeardIn p r.sent r.done) (sym phase_left) r.heard;
      }

      due_stays : (e : Evacuation) → e.owner.shape ≡ n → IsKnown e → (x generation : ℕ) → IsOwnEntry e.owner x
          → IsDue n s.words e.owner.cycle x generation → IsDue n (stepped s m d).words e.owner.cycle x generation
      due_stays e shape known x generation own due =
          let stays = taken x (own_within n e shape known x own) due.taken in record {
            taken = stays.taken;
            generation_is = stays.generation ∙ due.generation_is;
            epoch = λ c. due.epoch (sym stays.epoch ∙ c);
          }

      clears : (e : Evacuation) (laden : Bool) (sent : List Name)
          → ClearingStands n w s e v.ended laden taker sent
          → ClearingStands n w (stepped s m d) e v.ended laden taker sent
      clears e laden sent c =
          let low = sits.keeps.in_range in
          let seat : server_seat n e.owner.server ≢ m = (λ e. omega arith) in
          let server = owner_low n e c.known c.shape in
          clearing_stays n w s (stepped s m d) e v.ended laden taker taker sent sent all.joint kept.step.0 c
          (record {
            phase = set_past _ m _ _ _ seat c.facets.phase;
            gate = set_past _ m _ _ _ seat c.facets.gate;
            work = set_past _ m _ _ _ seat c.facets.work;
            through = c.facets.through;
          })
          (record {
            sent_is = c.sending.sent_is;
            notices = sending_stays n s.words (stepped s m d).words e.owner.server taker e.at sent
                (stage_carries e.stage) (tells_end e.stage)
                (λ slot low. leaves (notice e.owner.server slot) (server, low) (λ x. x)) c.sending.notices;
          })
          (record {
            empty = λ none.
                leaves (notice e.owner.server e.at) (server, at_low n e c.known c.shape) (λ x. x) ∙ none;
            due = due_stays e c.shape c.known;
            sizes = sizes w m s.front.history (stepped s m d).front.history goes_on;
          })

      stage : (t : ServerStage) → StageSits n w s taker v t → StageSits n w (stepped s m d) taker v t
      stage Turning r = rests r
      stage Tracing r = rests r
      stage (Evacuating e) c = (c.0, clears e (tracer_laden v.tracer) c.0 c.1)
      stage Ended r = rests r

      pub server_sits : ServerSits n w (stepped s m d) taker i v
      server_sits =
          let more = longer w m s.front.history (stepped s m d).front.history goes_on in record {
            number = it.number;
            in_range = it.in_range;
            here = seat_here;
            keeps = it.keeps;
            stage = stage v.stage it.stage;
            measured = subst (λ ps. IsMeasured (state_of w ps) v.tracer.stage) (sym more.1)
                (measured_stays w s.front.history more.0 (subst (IsLegal w) more.1 legal) v.tracer.stage it.measured);
          }
