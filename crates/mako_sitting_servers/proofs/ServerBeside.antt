-- Mutators and other servers sit as they did, past a step of a server.
use Rattle.std.proofs.Common.{◌≡◌, ◌≢◌, ℕ, ◌+◌, ◌*◌, ◌<◌, inl, Bool, List, [], slice_get, sym, ap, subst, refl, ◌∙◌}
use Rattle.mako_words.specs.declared.name.Name.{Name}
use Rattle.mako_words.specs.Phases.{cycle_of}
use Rattle.mako_shape.specs.declared.numbers.Numbers.{Numbers}
use Rattle.mako_shape.specs.Places.{phase, root, barrier, notice, entry}
use Rattle.mako_model.specs.Fronts.{Seen}
use Rattle.mako_model.specs.Legal.{Facts, state_of}
use Rattle.mako_joint.specs.Joints.{JointScene, Joint}
use Rattle.mako_mutator.specs.Drivers.{Driving}
use Rattle.mako_mutating.specs.Beside.{LeavesToMutator, Silent, GoesOnBeside}
use Rattle.mako_mutating.specs.Mutators.{IsSeen, view_of}
use Rattle.mako_mutating.proofs.Beside.{others_leave}
use Rattle.mako_making.proofs.Staying.{searches_stay}
use Rattle.mako_evac.specs.Evacuating.{Evacuation, IsKnown as EvacuationIsKnown}
use Rattle.mako_names.specs.Tables.{phase_of}
use Rattle.mako_names.proofs.Words.{entry_same}
use Rattle.mako_server.specs.Serving.{Serving, StageIsKnown}
use Rattle.mako_tracing.specs.ServerLives.{IsMeasured}
use Rattle.mako_shape.specs.Belongings.{server_of_entry}
use Rattle.mako_server.specs.declared.stage.ServerStage.{ServerStage}
use Rattle.mako_server.specs.declared.stage.ServerStage.TheVariants.{Turning, Tracing, Evacuating, Ended}
use Rattle.mako_tracing.specs.ServerFacets.{tracer_laden}
use Rattle.mako_clearing.specs.ClearingFacets.{server_seat, stage_carries}
use Rattle.mako_clearing.specs.Notices.{SameNotices}
use Rattle.mako_clearing.specs.Clearing.{KeepsSizes, LeavesEvacuation, ClearingStands, tells_end}
use Rattle.mako_clearing.proofs.Apart.{due_same}
use Rattle.mako_clearing.proofs.Rings.{sending_stays}
use Rattle.mako_clearing.proofs.Staying.{clearing_stays}
use Rattle.mako_writes.proofs.Servers.{own_entry}
use Rattle.mako_names.proofs.Words.{phase_same}
use Rattle.mako_sitting.specs.Seats.{MutatorSits, GoneOver, HeardIn, RestSits, StageSits, ServerSits}
use Rattle.mako_sitting_servers.specs.ServerSteps.{LeavesSeats}

-- the phase is none of a server's to store
pub phase_left : (n : Numbers) (s after : JointScene) (seat server : ℕ) → LeavesSeats n s after seat server
    → phase_of n after.words ≡ phase_of n s.words
phase_left n s after seat server l = phase_same n s.words after.words (l.words phase tt (λ x. x))

-- ---- mutators

seen_left : (n : Numbers) (s after : JointScene) (seat server m : ℕ) (d : Driving) → LeavesSeats n s after seat server
    → m ≢ seat → IsSeen s m (view_of d) → IsSeen after m (view_of d)
seen_left n s after seat server m d l other seen = record {
  gate = l.gates m other ∙ seen.gate;
  work = l.works m other ∙ seen.work;
  trace = l.trace m other ∙ seen.trace;
  phase = l.phases m other ∙ seen.phase;
  held = ap (λ f. slice_get f m) l.held ∙ seen.held;
  trying = ap (λ f. slice_get f m) l.trying ∙ seen.trying;
  left = ap (λ f. slice_get f m) l.left ∙ seen.left;
}

words_left : (n : Numbers) (s after : JointScene) (seat server m : ℕ) → LeavesSeats n s after seat server
    → m < n.mutators → LeavesToMutator n s.words after.words m
words_left n s after seat server m l low = record {
  roots = λ q small. l.words (root m q) (low, small) (λ x. x);
  barriers = λ slot small. inl (l.words (barrier m slot) (low, small) (λ x. x));
}

pub mutator_sits : (n : Numbers) (w : Facts) (s after : JointScene) (seat server place m : ℕ) (d : Driving)
    → Joint n w s → LeavesSeats n s after seat server → m ≢ seat → MutatorSits n w s place m d
    → MutatorSits n w after place m d
mutator_sits n w s after seat server place m d j l other sits = record {
  seen = seen_left n s after seat server m d l other sits.seen;
  keeps =
      let same : s.front.history ≡ after.front.history = ap (λ (f : Seen). f.history) (sym l.front) in
      others_leave n w s.words after.words s.front after.front m d sits.keeps
      (words_left n s after seat server m l sits.keeps.in_range)
      (subst (GoesOnBeside w m s.front.history) same Silent);
  searches = searches_stay n w s m d j sits.seen sits.searches after.words
      (inl (ap cycle_of (phase_left n s after seat server l)));
  puts = sits.puts;
}

-- ---- other servers

-- it stores no notice of another
notices_left : (n : Numbers) (s after : JointScene) (seat server other : ℕ) → LeavesSeats n s after seat server
    → other ≢ server → other < n.servers → SameNotices n s.words after.words other
notices_left n s after seat server other l apart low slot small =
    l.words (notice other slot) (low, small) (λ e. apart e)

rest_sits : (n : Numbers) (s after : JointScene) (seat server taker : ℕ) (v : Serving)
    → LeavesSeats n s after seat server → v.tracer.server ≢ server → v.tracer.server < n.servers
    → RestSits n s taker v → RestSits n after taker v
rest_sits n s after seat server taker v l apart low r =
    let same = phase_left n s after seat server l in record {
      through = r.through;
      through_is = l.through v.tracer.server apart ∙ r.through_is;
      gone_over = subst (λ p. GoneOver n p v.ended r.through) (sym same) r.gone_over;
      sent = r.sent;
      done = r.done;
      sent_is = l.sent v.tracer.server apart ∙ r.sent_is;
      sending = sending_stays n s.words after.words v.tracer.server taker v.notice_at r.sent [] r.done
          (notices_left n s after seat server v.tracer.server l apart low) r.sending;
      ended = λ told. r.ended told ∙ ap cycle_of (sym same);
      heard = subst (λ p. HeardIn p r.sent r.done) (sym same) r.heard;
    }

sizes_left : (w : Facts) (front after : Seen) → after ≡ front
    → KeepsSizes (state_of w front.history) (state_of w after.history)
sizes_left w front after e =
    subst (λ (f : Seen). KeepsSizes (state_of w front.history) (state_of w f.history)) (sym e)
    (λ name fields are. (fields, are, refl))

evacuation_left : (n : Numbers) (w : Facts) (s after : JointScene) (seat server : ℕ) (e : Evacuation)
    → LeavesSeats n s after seat server → e.owner.server ≢ server → EvacuationIsKnown e → e.owner.shape ≡ n
    → LeavesEvacuation n w s after e
evacuation_left n w s after seat server e l apart known shape = record {
  empty = λ none. l.words (notice e.owner.server e.at)
      (subst (λ k. (e.owner.server < k.servers) × (e.at < k.ring)) shape (known.owner.server, known.at))
      (λ f. apart f) ∙ none;
  due = λ x g own due.
      let is = subst (λ k. (x < k.servers * k.tablets * k.entries) × (server_of_entry k x ≡ e.owner.server)) shape
      (own_entry e.owner known.owner x own) in
      due_same n s.words after.words e.owner.cycle x g
      (entry_same n s.words after.words x (l.words (entry x) is.0 (λ f. apart (sym is.1 ∙ f)))) due;
  sizes = sizes_left w s.front after.front l.front;
}

clearing_sits : (n : Numbers) (w : Facts) (s after : JointScene) (seat server taker : ℕ) (e : Evacuation) (ended : ℕ)
    (laden : Bool) (sent : List Name) → Joint n w s → Joint n w after → LeavesSeats n s after seat server
    → e.owner.server ≢ server → server_seat n e.owner.server ≢ seat → ClearingStands n w s e ended laden taker sent
    → ClearingStands n w after e ended laden taker sent
clearing_sits n w s after seat server taker e ended laden sent j i l apart beside c =
    clearing_stays n w s after e ended laden taker taker sent sent j i c
    (record {
      phase = l.phases (server_seat n e.owner.server) beside ∙ c.facets.phase;
      gate = l.gates (server_seat n e.owner.server) beside ∙ c.facets.gate;
      work = l.works (server_seat n e.owner.server) beside ∙ c.facets.work;
      through = l.through e.owner.server apart ∙ c.facets.through;
    })
    (record {
      sent_is = l.sent e.owner.server apart ∙ c.sending.sent_is;
      notices = sending_stays n s.words after.words e.owner.server taker e.at sent (stage_carries e.stage)
          (tells_end e.stage)
          (notices_left n s after seat server e.owner.server l apart
          (subst (λ k. e.owner.server < k.servers) c.shape c.known.owner.server))
          c.sending.notices;
    })
    (evacuation_left n w s after seat server e l apart c.known c.shape)

pub server_sits : (n : Numbers) (w : Facts) (s after : JointScene) (seat server taker other : ℕ) (v : Serving)
    → Joint n w s → Joint n w after → LeavesSeats n s after seat server → seat ≡ n.mutators + server → other ≢ seat
    → ServerSits n w s taker other v → ServerSits n w after taker other v
server_sits n w s after seat server taker other v j i l at beside sits = record {
  number = sits.number;
  in_range = sits.in_range;
  here = record {
    trace = l.trace other beside ∙ sits.here.trace;
    gate = l.gates other beside ∙ sits.here.gate;
    work = l.works other beside ∙ sits.here.work;
    phase = l.phases other beside ∙ sits.here.phase;
    serving = l.servers v.tracer.server apart ∙ sits.here.serving;
  };
  keeps = sits.keeps;
  stage = by v.stage sits.keeps.known.stage sits.stage;
  measured = subst (λ (f : Seen). IsMeasured (state_of w f.history) v.tracer.stage) (sym l.front) sits.measured;
}
  where
    apart : v.tracer.server ≢ server
    apart e = beside (sits.number ∙ ap (λ k. n.mutators + k) e ∙ sym at)

    by : (stage : ServerStage) → StageIsKnown v.tracer stage → StageSits n w s taker v stage
        → StageSits n w after taker v stage
    by Turning known r = rest_sits n s after seat server taker v l apart sits.in_range r
    by Tracing known r = rest_sits n s after seat server taker v l apart sits.in_range r
    by (Evacuating e) known c =
        let same = known.1.server in (
          c.0,
          clearing_sits n w s after seat server taker e v.ended (tracer_laden v.tracer) c.0 j i l
              (λ f. apart (sym same ∙ f))
              (λ f. beside (sits.number ∙ ap (λ k. n.mutators + k) (sym same) ∙ f)) c.1,
        )
    by Ended known r = rest_sits n s after seat server taker v l apart sits.in_range r
