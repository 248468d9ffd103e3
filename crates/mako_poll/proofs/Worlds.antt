-- Every list of steps of any number of servers and a collector.
use Rattle.std.proofs.Common.{◌≡◌, ℕ, zero, suc, ◌<◌, ◌||◌, true, false, Option, Some, None, is_some, inl, inr, List}
use Rattle.std.proofs.Common.{[], ◌∷◌, length, replicate, slice_index, slice_index_or, ap, sym, subst, refl, ◌∙◌, arith}
use Rattle.std.proofs.lemmas.Bool.{cases_eq, or_parts}
use Rattle.std.proofs.lemmas.List.{length-replicate}
use Rattle.mako_shape.specs.declared.numbers.Numbers.{Numbers}
use Rattle.mako_shape.specs.Places.{Within, total, word_at}
use Rattle.mako_step.specs.Acts.{words_stepped, finds}
use Rattle.mako_step.specs.Machines.{IsAct}
use Rattle.mako_ring.specs.Facets.{IsSource}
use Rattle.mako_ring.specs.Polling.{PollingStands, IsQuietScene}
use Rattle.mako_ring.specs.TraceFacets.{Hand, empty, considering, marking, pushing, Off, nothing, popped, located, Work}
use Rattle.mako_ring.specs.TraceFacets.{TraceFacet, apart, looking, storing, expecting, swapping, serving, collecting}
use Rattle.mako_ring.specs.TraceFacets.{has_hand, has_off, is_filled, is_working, IsIdle}
use Rattle.mako_ring.specs.TracerFacets.{work_of, serving_of}
use Rattle.mako_ring.specs.TracerFacts.{TracerStands}
use Rattle.mako_ring.specs.Tracing.{TracerView, no_window, slot_of, next_of, fed, Fits, begun, new_tracer}
use Rattle.mako_ring.specs.declared.window.Window.{Window}
use Rattle.mako_ring.specs.declared.tracing.Source.{Source}
use Rattle.mako_ring.specs.declared.tracing.Source.TheVariants.{Collector, Server}
use Rattle.mako_ring.specs.declared.tracing.TraceStage.TheVariants.{Ended as AtEnd}
use Rattle.mako_poll.specs.Steps.{ServerStep, CollectorStep, PollStep, Waits, end_by}
use Rattle.mako_poll.specs.Steps as kind
use Rattle.mako_poll.specs.Polls as poll
use Rattle.mako_poll.specs.Worlds.{CollectorStage, away, putting, polls, CollectorView, World, poll_of, collecting_of}
use Rattle.mako_poll.specs.Worlds.{scene_of, Serves, Collects, IsOutside, WorldStep, Traces, Begins, Polls, Collected}
use Rattle.mako_poll.specs.Worlds.{Apart, CollectorStands, WorldStands, OpeningStands, WorldsStand, IsFacetOf}
use Rattle.mako_poll.specs.Worlds.{ToldImpliesQuiet}
use Rattle.mako_poll.specs.declared.poller.PollStage.TheVariants.{Asking, Reading, Ended}
use Rattle.mako_poll.proofs.Acting.{same_length, untouched_same}
use Rattle.mako_poll.proofs.AllSteps as scenes
use Rattle.mako_poll.proofs.Asking.{poll_goes}
use Rattle.mako_poll.proofs.Flagging.{false_true}
use Rattle.mako_poll.proofs.Stages.{Goes, stage_goes, begins}

module _ (n : Numbers) (v after : World) (stands : WorldStands n v) where
  -- a server's machine that made a step
  served : (i : ℕ) (t : TracerView) → Serves n v after i t → length after.words ≡ total n
      → ServerStep n (word_at n v.words) (word_at n after.words) i (serving_of (v.server i)) (serving_of t)
      → TracerStands n i t → WorldStands n after
  served i t goes size step mine = record {
    size = size;
    some = stands.some;
    polling = scenes.steps_hold n (scene_of n v) (scene_of n after) stands.polling
        (kind.Serves i (serving_of (v.server i)) (serving_of t) refl
        (record {
          in_range = goes.in_range;
          here = ap serving_of goes.here;
          others = λ j lt d. ap serving_of (goes.others j lt d);
          collector = ap (collecting_of n) goes.collector;
        })
        step);
    servers = λ j lt. elim (cases_eq j i) [
      | inl e ↦ subst (λ (x : ℕ). TracerStands n x (after.server x)) (sym e)
          (subst (λ (u : TracerView). TracerStands n i u) (sym goes.here) mine)
      | inr d ↦ subst (λ (u : TracerView). TracerStands n j u) (sym (goes.others j lt d)) (stands.servers j lt)
    ];
    collector = subst (λ (c : CollectorView). CollectorStands n c.stage) (sym goes.collector) stands.collector;
  }

  -- a place of a ring at which a server takes
  slot_within : (i : ℕ) → i < n.servers → (source : Source) → IsSource n (v.server i).server source
      → Within n (slot_of (v.server i) source)
  slot_within i lt source is =
      let number : (v.server i).server ≡ i = (stands.servers i lt).keeps.number in on source is number
    where
      on : (source : Source) → IsSource n (v.server i).server source → (v.server i).server ≡ i
          → Within n (slot_of (v.server i) source)
      on Collector is number = (subst (λ (k : ℕ). k < n.servers) (sym number) lt, (stands.polling.works i lt).at_below)
      on (Server a) is number = (
        is.0,
        subst (λ (k : ℕ). k < n.servers) (sym number) lt,
        (stands.polling.ghosts a i is.0 lt (λ e. is.1 (e ∙ sym number))).at_below,
      )

  -- its stage's step, at the shape of the world
  traced : (i : ℕ) → i < n.servers → IsAct (next_of (v.server i))
      → Fits (v.server i) (finds (next_of (v.server i)) v.words)
      → after.words ≡ words_stepped (next_of (v.server i)) v.words
      → ServerStep n (word_at n v.words) (word_at n after.words) i (serving_of (v.server i))
      (serving_of (fed (v.server i) (finds (next_of (v.server i)) v.words)))
      × TracerStands n i (fed (v.server i) (finds (next_of (v.server i)) v.words))
  traced i lt act fits d =
      subst (λ (m : Numbers). ServerStep m (word_at m v.words) (word_at m after.words) i (serving_of t)
      (serving_of (fed t w)) × TracerStands m i (fed t w)) shape (
        subst (λ (k : ℕ). ServerStep t.shape (word_at t.shape v.words) (word_at t.shape after.words) k (serving_of t)
            (serving_of (fed t w))) mine.keeps.number goes.0,
        goes.1,
      )
    where
      t : TracerView
      t = v.server i

      w : ℕ
      w = finds (next_of t) v.words

      mine : TracerStands n i t
      mine = stands.servers i lt

      shape : t.shape ≡ n
      shape = mine.shape_is

      slots : 0 < n.ring
      slots = (let b = (stands.polling.works i lt).at_below in omega arith)

      goes : Goes i t v.words after.words t.stage (fed t w)
      goes = stage_goes i t v.words after.words
          (subst (λ (m : Numbers). length v.words ≡ total m) (sym shape) stands.size)
          (subst (λ (m : Numbers). 0 < m.ring) (sym shape) slots)
          (λ source is. subst (λ (m : Numbers). Within m (slot_of t source)) (sym shape)
          (slot_within i lt source (subst (λ (m : Numbers). IsSource m t.server source) shape is)))
          t.stage (subst (λ (m : Numbers). TracerStands m i t) (sym shape) mine) act fits d

  -- a turn that begins, at the shape of the world
  begun_step : (i cycle : ℕ) → i < n.servers → (v.server i).stage ≡ AtEnd → after.words ≡ v.words
      → ServerStep n (word_at n v.words) (word_at n after.words) i (serving_of (v.server i))
      (serving_of (begun (v.server i) cycle)) × TracerStands n i (begun (v.server i) cycle)
  begun_step i cycle lt end d =
      subst (λ (m : Numbers). ServerStep m (word_at m v.words) (word_at m after.words) i (serving_of t)
      (serving_of (begun t cycle)) × TracerStands m i (begun t cycle)) shape (
        subst (λ (k : ℕ). ServerStep t.shape (word_at t.shape v.words) (word_at t.shape after.words) k (serving_of t)
            (serving_of (begun t cycle))) mine.keeps.number goes.0,
        goes.1,
      )
    where
      t : TracerView
      t = v.server i

      mine : TracerStands n i t
      mine = stands.servers i lt

      shape : t.shape ≡ n
      shape = mine.shape_is

      ended : t ≡ record t { stage = AtEnd }
      ended = λ k. record t { stage = end k }

      goes : ServerStep t.shape (word_at t.shape v.words) (word_at t.shape after.words) t.server (serving_of t)
          (serving_of (begun t cycle)) × TracerStands t.shape i (begun t cycle)
      goes = subst (λ (u : TracerView). ServerStep t.shape (word_at t.shape v.words)
          (word_at t.shape after.words) t.server (serving_of u) (serving_of (begun u cycle))
          × TracerStands t.shape i (begun u cycle)) (sym ended)
          (begins i t v.words after.words cycle
          (subst (λ (u : TracerView). TracerStands t.shape i u) ended
          (subst (λ (m : Numbers). TracerStands m i t) (sym shape) mine))
          (untouched_same t.shape v.words after.words d))

  -- the collector, by its kinds
  collected : (c : CollectorView) → length after.words ≡ total n → Collects n v after c
      → PollingStands n (record {
        word = word_at n after.words;
        server = λ j. serving_of (v.server j);
        collector = collecting_of n c;
      }) → CollectorStands n c.stage → WorldStands n after
  collected c size goes polling known = record {
    size = size;
    some = stands.some;
    polling = scenes.same_scene n (record {
      word = word_at n after.words;
      server = λ j. serving_of (v.server j);
      collector = collecting_of n c;
    }) (scene_of n after) polling (λ p. refl)
        (λ j lt. ap serving_of (goes.servers j lt)) (ap (collecting_of n) goes.here);
    servers = λ j lt. subst (λ (u : TracerView). TracerStands n j u) (sym (goes.servers j lt)) (stands.servers j lt);
    collector = subst (λ (d : CollectorView). CollectorStands n d.stage) (sym goes.here) known;
  }

  outside_stands : (stage : CollectorStage) → IsOutside stage → CollectorStands n stage
  outside_stands away is = tt
  outside_stands (putting r) is = tt
  outside_stands (polls (Asking k)) is = (let s = stands.some in omega arith)
  outside_stands (polls (Reading k)) is = elim is [ ]
  outside_stands (polls (Ended polled)) is = elim is [ ]

  pub world_step : WorldStep n v after → WorldStands n after
  world_step (Traces i act fits d goes) =
      let step = traced i goes.in_range act fits d in
      served i (fed (v.server i) (finds (next_of (v.server i)) v.words)) goes (ap (λ (ws : List ℕ). length ws) d
      ∙ same_length (next_of (v.server i)) v.words ∙ stands.size) step.0 step.1
  world_step (Begins i cycle end d goes) =
      let step = begun_step i cycle goes.in_range end d in
      served i (begun (v.server i) cycle) goes (ap (λ (ws : List ℕ). length ws) d ∙ stands.size) step.0 step.1
  world_step (Polls stage is act d goes) =
      let same : v.collector ≡ record v.collector { stage = polls stage } =
      (λ k. record v.collector { stage = is k }) in
      let before : PollingStands n (record {
        word = word_at n v.words;
        server = λ j. serving_of (v.server j);
        collector = collecting_of n (record v.collector { stage = polls stage });
      }) =
      subst (λ (c : CollectorView). PollingStands n (record {
        word = word_at n v.words;
        server = λ j. serving_of (v.server j);
        collector = collecting_of n c;
      })) same stands.polling in
      let goes_on = poll_goes n v.words after.words
      (λ j. serving_of (v.server j)) v.collector stands.some stands.size stage
      (subst (CollectorStands n) is stands.collector) before act d in
      collected _ (ap (λ (ws : List ℕ). length ws) d ∙ same_length (poll.stage_next n stage) v.words
      ∙ stands.size) goes goes_on.0 goes_on.1
  world_step (Collected c outside size step goes) =
      collected c (size ∙ stands.size) goes
      (scenes.steps_hold n (scene_of n v) _ stands.polling
      (kind.Collected (collecting_of n c) (record { here = refl; servers = λ j lt. refl }) step))
      (outside_stands c.stage outside)
  world_step (Apart size same servers collector) =
      collected v.collector (size ∙ stands.size) (record { here = collector; servers = λ j lt. (λ k. servers k j) })
      (scenes.steps_hold n (scene_of n v) _ stands.polling
      (kind.Collected (collecting_of n v.collector) (record { here = refl; servers = λ j lt. refl })
      (Waits (λ p is within. same p is within) refl)))
      stands.collector

pub worlds_stand : WorldsStand
worlds_stand n v [] stands steps = stands
worlds_stand n v (u ∷ us) stands steps = worlds_stand n u us (world_step n v u stands steps.0) steps.1

-- ---- the opening
pub no_windows : (size r : ℕ) → slice_index_or (replicate size no_window) r no_window ≡ no_window
no_windows zero r = refl
no_windows (suc size) zero = refl
no_windows (suc size) (suc r) = no_windows size r

pub no_positions : (size r : ℕ) → slice_index (replicate size 0) r ≡ 0
no_positions zero r = refl
no_positions (suc size) zero = refl
no_positions (suc size) (suc r) = no_positions size r

new_tracer_stands : (n : Numbers) (j : ℕ) → j < n.servers → TracerStands n j (new_tracer n j)
new_tracer_stands n j lt = record {
  shape_is = refl;
  keeps = record {
    number = refl;
    in_range = lt;
    windows_are = length-replicate n.servers no_window;
    ghost_at_are = length-replicate n.servers 0;
    outgoing_stands = tt;
    own = ap (λ (w : Window). w.tail) (no_windows n.servers j)
        ∙ sym (ap (λ (w : Window). w.head) (no_windows n.servers j));
  };
  stage = tt;
}

pub opening_stands : OpeningStands
opening_stands n v slots some o = record {
  size = o.size;
  some = some;
  polling = scenes.opening_holds n (scene_of n v) slots (record {
    words = o.words;
    servers = λ j lt. let e = o.servers j lt in (
      ap (λ (t : TracerView). (serving_of t).working) e,
      ap (λ (t : TracerView). (serving_of t).doing) e,
      ap
          (λ (t : TracerView). t.work_at) e,
    );
    positions = λ j a lj la. let e = o.servers j lj in (
      ap (λ (t : TracerView). slice_index t.ghost_at a) e ∙ no_positions n.servers a,
      ap (λ (t : TracerView). (slice_index_or t.windows a no_window).head) e
          ∙ ap (λ (w : Window). w.head) (no_windows n.servers a),
      ap (λ (t : TracerView). (slice_index_or t.windows a no_window).tail) e
          ∙ ap (λ (w : Window). w.tail) (no_windows n.servers a),
    );
    collector = o.windows;
    poll = ap (poll_of n) o.collector;
  });
  servers = λ j lt. subst (TracerStands n j) (sym (o.servers j lt)) (new_tracer_stands n j lt);
  collector = subst (CollectorStands n) (sym o.collector) tt;
}

-- ---- told implies quiet
no_hand : (h : Hand) → has_hand h ≡ false → h ≡ empty
no_hand empty e = refl
no_hand (considering x) e = absurd (false_true true e refl)
no_hand (marking x w) e = absurd (false_true true e refl)
no_hand (pushing x) e = absurd (false_true true e refl)

no_off : (o : Off) → has_off o ≡ false → o ≡ nothing
no_off nothing e = refl
no_off (popped x) e = absurd (false_true true e refl)
no_off (located x a) e = absurd (false_true true e refl)

no_option : {A : Type 0} (o : Option A) → is_some o ≡ false → o ≡ None
no_option None e = refl
no_option (Some x) e = absurd (false_true true e refl)

no_items : {A : Type 0} (xs : List A) → is_filled xs ≡ false → xs ≡ []
no_items [] e = refl
no_items (x ∷ xs) e = absurd (false_true true e refl)

-- who does not work is idle
idle_work : (w : Work) → is_working w ≡ false → IsIdle (serving w)
idle_work w e =
    let a = or_parts (has_hand w.hand)
    (has_off w.off || (is_some w.outgoing || (is_some w.scan || is_filled w.stack))) e in
    let b = or_parts (has_off w.off) (is_some w.outgoing || (is_some w.scan || is_filled w.stack)) a.1 in
    let c = or_parts (is_some w.outgoing) (is_some w.scan || is_filled w.stack) b.1 in
    let d = or_parts (is_some w.scan) (is_filled w.stack) c.1 in
    (no_hand w.hand a.0, no_option w.outgoing c.0, no_items w.stack d.1, no_off w.off b.0, no_option w.scan d.0)

idle : (n : Numbers) (v : World) (q : IsQuietScene n (scene_of n v)) (f : TraceFacet) → IsFacetOf n v f → IsIdle f
idle n v q (serving w) of =
    subst (λ (x : Work). IsIdle (serving x)) (sym of.1.1) (idle_work (work_of (v.server of.0)) (q.servers of.0 of.1.0))
idle n v q (collecting names) of = of ∙ no_items v.collector.pending q.pending
idle n v q apart of = tt
idle n v q (looking object field old) of = tt
idle n v q (storing object field) of = tt
idle n v q (expecting x) of = tt
idle n v q (swapping x) of = tt

pub told_implies_quiet : ToldImpliesQuiet
told_implies_quiet n v steps facets stands chain is of =
    let u : World = end_by v steps in
    let q : IsQuietScene n (scene_of n u) =
    scenes.told_is_quiet n (scene_of n u) n.servers (worlds_stand n v steps stands chain).polling
    (ap (poll_of n) is) (omega arith) in
    record {
      works = λ r k within. q.works r k within.0 within.1;
      ghosts = λ a b k within. q.ghosts a b k within.0 within.1 within.2;
      seats = λ seat facet at. idle n u q facet (of seat facet at);
    }
