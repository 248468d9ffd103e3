-- What the collector keeps stays in range.
use Rattle.std.proofs.Common.{◌≡◌, ℕ, suc, ◌+◌, ◌*◌, ◌%◌, ◌<◌, ◌==◌, nat_lt, Bool, true, false, cond, Option, Some}
use Rattle.std.proofs.Common.{None, List, [], ◌∷◌, ◌++◌, All, length, map, position, slice_index, slice_set, sym, subst}
use Rattle.std.proofs.Common.{refl, ◌∙◌, arith}
use Rattle.std.proofs.lemmas.Bool.Decides.{nat_tests}
use Rattle.std.proofs.lemmas.List.{length-set, length-append}
use Rattle.std.proofs.lemmas.List.Elements.{All-append, All-push, All-map, All-set, All-nil}
use Rattle.mako_words.specs.Gates.{count_of}
use Rattle.mako_words.specs.Names.{name_at}
use Rattle.mako_words.specs.Values.{FitsValue, value_at}
use Rattle.mako_words.specs.declared.name.Name.{Name}
use Rattle.mako_words.specs.declared.value.Value.{Value}
use Rattle.mako_words.specs.declared.value.Value.TheVariants.{Null, Num, Ref}
use Rattle.mako_shape.specs.declared.numbers.Numbers.{Numbers}
use Rattle.mako_shape.specs.Places.{demand, finished, mutator_gate, root, barrier, work, home, top, word_at}
use Rattle.mako_step.specs.Acts.{finds}
use Rattle.mako_model.specs.Legal.{Facts}
use Rattle.mako_ring.specs.Contents.{after_place}
use Rattle.mako_ring.specs.Tracing.{owner, no_window, is_open, FieldFits}
use Rattle.mako_ring.specs.Windows.{IsWindow, found_room, head_up, tail_up}
use Rattle.mako_ring.specs.declared.window.Window.{Window}
use Rattle.mako_ring.proofs.Found.{owner_in_range}
use Rattle.mako_ring.proofs.Words.{windows_stay}
use Rattle.mako_poll.specs.Polls as poll
use Rattle.mako_poll.specs.Polls.{PollView, asking_from, reading_from, has_work}
use Rattle.mako_poll.specs.declared.poller.PollStage.{PollStage}
use Rattle.mako_poll.specs.declared.poller.PollStage.TheVariants.{Asking, Reading, Ended as Polled}
use Rattle.mako_poll.specs.declared.poller.Polled.TheVariants.{Told, NotYet}
use Rattle.mako_joint.specs.Joints.{JointScene}
use Rattle.mako_choice.specs.Choices.{choice}
use Rattle.mako_pause.specs.Collecting.{Holdings, Collecting, running, window_of, set_window, next_of, Fits, names_of}
use Rattle.mako_pause.specs.Collecting.{forward, forward_from, empty, empty_from, barriers_from, polled_at, paused}
use Rattle.mako_pause.specs.Collecting.{gifts_from, gift_of, server_chosen, servers_from, after_tablet, chosen_tablet}
use Rattle.mako_pause.specs.Collecting.{spare_for, at}
use Rattle.mako_pause.specs.Keeping.{IsKeptName, IsKeptKnown, all_regions}
use Rattle.mako_choice.specs.declared.chooser.Used.{Used}
use Rattle.mako_pause.specs.declared.regions.Role.{Role}
use Rattle.mako_pause.specs.declared.regions.Role.TheVariants.{Home, Spare}
use Rattle.mako_pause.specs.declared.stage.Pause.{Pause}
use Rattle.mako_pause.specs.declared.stage.Pause.TheVariants.{Snapshot, Choice as ForChoice}
use Rattle.mako_pause.specs.declared.stage.IdleStage.TheVariants.{LoadingDemand, LookingFinished, StoringStop}
use Rattle.mako_pause.specs.declared.stage.PauseStage.TheVariants.{Shutting, Draining, LoadingRoot, StoringTrace}
use Rattle.mako_pause.specs.declared.stage.PauseStage.TheVariants.{Opening}
use Rattle.mako_pause.specs.declared.stage.ForwardStage.TheVariants.{Looking, Storing}
use Rattle.mako_pause.specs.declared.stage.BarrierStage.TheVariants.{Loading, Clearing}
use Rattle.mako_pause.specs.declared.stage.ChoiceStage.TheVariants.{LoadingLive, LoadingTop, LoadingHome}
use Rattle.mako_pause.specs.declared.stage.ChoiceStage.TheVariants.{StoringLeaving, StoringHome, StoringTop}
use Rattle.mako_pause.specs.declared.stage.ChoiceStage.TheVariants.{StoringEvac, Opening as Reopening}
use Rattle.mako_pause.specs.declared.stage.NoticeStage.TheVariants.{Looking as NoticeLook}
use Rattle.mako_pause.specs.declared.stage.CollectStage.{CollectStage}
use Rattle.mako_pause.specs.declared.stage.CollectStage.TheVariants.{Idle, Pausing, Forwarding, Barriers, Emptying}
use Rattle.mako_pause.specs.declared.stage.CollectStage.TheVariants.{Polling, Choosing, Noticing, Ended}
use Rattle.mako_choice.proofs.Places.{choice_below}
use Rattle.mako_pause.proofs.Places.{tablets_below}
use Rattle.mako_collecting.specs.Laws.{Stands, IsUpToEvac, StepsKeepKnown, StandsGoOn}
use Rattle.mako_collecting.proofs.EachKept.{seats_stay, steps_keep_their_own}
use Rattle.mako_collecting.proofs.LeavesKept.{steps_leave_kept}
use Rattle.mako_collecting.specs.Steps.{words_next, collector_next}
use Rattle.mako_collecting.proofs.Idling.{either_way, is_same}

abbrev Known : Collecting → Type 0
Known c = IsKeptKnown c.kept

-- ---- one part changes

module _ (k : Holdings) (y : IsKeptKnown k) where
  -- all parts that change, each with what is known of it
  with_parts : (names : List Name) (windows : List Window) (barrier_at : List ℕ) (view : PollView) (used : List Used)
      (chosen : List ℕ) (roles : List Role) (shut : Bool) → All (IsKeptName k.shape) names
      → length windows ≡ k.shape.servers → All (IsWindow k.shape.ring) windows → length barrier_at ≡ k.shape.mutators
      → All (λ x. x < k.shape.ring) barrier_at → view.shape ≡ k.shape → poll.IsKnown k.shape view.stage
      → All (λ t. t < k.shape.servers * k.shape.tablets) chosen → length roles ≡ all_regions k
      → IsKeptKnown (record k {
        pending = names;
        windows = windows;
        barrier_at = barrier_at;
        poll = view;
        used = used;
        chosen = chosen;
        roles = roles;
        gates_shut = shut;
      })
  with_parts names windows barrier_at view used chosen roles shut a b c d e f g h i = record {
    shape = y.shape;
    cycle = y.cycle;
    pending = a;
    windows_count = b;
    windows = c;
    barriers_count = d;
    barriers = e;
    notices_count = y.notices_count;
    notices = y.notices;
    poll_shape = f;
    poll = g;
    chosen = h;
    roles = i;
    lists = y.lists;
    lists_room = y.lists_room;
    names = y.names;
  }

  names_known : (names : List Name) → All (IsKeptName k.shape) names → IsKeptKnown (record k { pending = names })
  names_known names all =
      with_parts names k.windows k.barrier_at k.poll k.used k.chosen k.roles k.gates_shut all y.windows_count y.windows
      y.barriers_count y.barriers y.poll_shape y.poll y.chosen y.roles

  windows_known : (r : ℕ) (x : Window) → IsWindow k.shape.ring x → IsKeptKnown (set_window k r x)
  windows_known r x is =
      with_parts k.pending (slice_set k.windows r x) k.barrier_at k.poll k.used k.chosen k.roles k.gates_shut y.pending
      (length-set k.windows r x ∙ y.windows_count) (All-set (IsWindow k.shape.ring) k.windows r x is y.windows)
      y.barriers_count y.barriers y.poll_shape y.poll y.chosen y.roles

  barrier_known : (m x : ℕ) → x < k.shape.ring → IsKeptKnown (record k { barrier_at = slice_set k.barrier_at m x })
  barrier_known m x low =
      with_parts k.pending k.windows (slice_set k.barrier_at m x) k.poll k.used k.chosen k.roles k.gates_shut y.pending
      y.windows_count y.windows (length-set k.barrier_at m x ∙ y.barriers_count)
      (All-set (λ z. z < k.shape.ring) k.barrier_at m x low y.barriers) y.poll_shape y.poll y.chosen y.roles

  poll_known : (view : PollView) → view.shape ≡ k.shape → poll.IsKnown k.shape view.stage
      → IsKeptKnown (record k { poll = view })
  poll_known view shape is =
      with_parts k.pending k.windows k.barrier_at view k.used k.chosen k.roles k.gates_shut y.pending y.windows_count
      y.windows y.barriers_count y.barriers shape is y.chosen y.roles

  chosen_known : (used : List Used) (chosen : List ℕ) → All (λ t. t < k.shape.servers * k.shape.tablets) chosen
      → IsKeptKnown (record k { used = used; chosen = chosen })
  chosen_known used chosen all =
      with_parts k.pending k.windows k.barrier_at k.poll used chosen k.roles k.gates_shut y.pending y.windows_count
      y.windows y.barriers_count y.barriers y.poll_shape y.poll all y.roles

  roles_known : (roles : List Role) → length roles ≡ all_regions k → IsKeptKnown (record k { roles = roles })
  roles_known roles count =
      with_parts k.pending k.windows k.barrier_at k.poll k.used k.chosen roles k.gates_shut y.pending y.windows_count
      y.windows y.barriers_count y.barriers y.poll_shape y.poll y.chosen count

  gates_known : (shut : Bool) → IsKeptKnown (record k { gates_shut = shut })
  gates_known shut =
      with_parts k.pending k.windows k.barrier_at k.poll k.used k.chosen k.roles shut y.pending y.windows_count
      y.windows
      y.barriers_count y.barriers y.poll_shape y.poll y.chosen y.roles

  -- ---- where it goes on to
  forward_known : Known (forward k)
  forward_known = from k.pending refl
    where
      from : (xs : List Name) → k.pending ≡ xs → Known (forward_from k xs)
      from [] e = y
      from (x ∷ xs) e =
          let all : All (IsKeptName k.shape) (x ∷ xs) = subst (All (IsKeptName k.shape)) e y.pending in
          names_known xs (λ i d low. all (suc i) d (omega arith))

  empty_known : Known (empty k)
  empty_known = from (position is_open k.windows)
    where
      some : 0 < k.shape.servers
      some = let each = y.shape.in_range.each in omega (arith, each)

      from : (o : Option ℕ) → Known (empty_from k o)
      from None = poll_known (record { shape = k.shape; stage = Asking 0 }) refl some
      from (Some r) = y

  polled_known : (q : PollStage) → Known (polled_at k q)
  polled_known (Asking r) = y
  polled_known (Reading r) = y
  polled_known (Polled (NotYet r v)) = y
  polled_known (Polled Told) =
      either_way Known k.gates_shut (at (record k { used = []; chosen = [] }) (Choosing (LoadingLive 0 0)))
      (at k (Pausing (Shutting ForChoice 0)))
      (λ e. chosen_known [] [] (All-nil (λ t. t < k.shape.servers * k.shape.tablets))) (λ e. y)

  paused_known : (pause : Pause) → Known (paused k pause)
  paused_known Snapshot = y
  paused_known ForChoice = gates_known true

  gifts_known : (i : ℕ) → Known (gifts_from k i)
  gifts_known i =
      either_way Known (nat_lt i (length k.chosen)) (at k (Choosing (LoadingHome i))) (at k (Choosing StoringEvac))
      (λ e. y) (λ e. y)

  gift_known : (i former : ℕ) (o : Option ℕ) → Known (gift_of k i former o)
  gift_known i former None = y
  gift_known i former (Some region) = y

servers_known : (k : Holdings) (r : ℕ) → IsKeptKnown k → Known (servers_from k r)
servers_known k r y =
    either_way Known (r == k.shape.servers) (gifts_from k 0) (at k (Choosing (LoadingLive r 0)))
    (λ e. gifts_known k y 0) (λ e. y)

tablets_known : (k : Holdings) (r place : ℕ) → IsKeptKnown k → r < k.shape.servers → length k.used ≡ place + 1
    → Known (after_tablet k r place)
tablets_known k r place y low count =
    either_way Known (place + 1 == k.shape.tablets) (servers_from (server_chosen k r) (r + 1))
    (at k (Choosing (LoadingLive r (place + 1))))
    (λ e. servers_known (server_chosen k r) (r + 1)
    (chosen_known k y [] (server_chosen k r).chosen
    (All-append (λ t. t < k.shape.servers * k.shape.tablets) k.chosen
    (map (λ x. r * k.shape.tablets + x) (choice k.used k.shape.spare)) y.chosen
    (All-map (λ t. t < k.shape.servers * k.shape.tablets) (λ x. r * k.shape.tablets + x)
    (choice k.used k.shape.spare)
    (tablets_below r k.shape.servers k.shape.tablets (choice k.used k.shape.spare) low
    (subst (λ (x : ℕ). All (λ z. z < x) (choice k.used k.shape.spare)) (count ∙ is_same (place + 1) k.shape.tablets e)
    (choice_below k.used k.shape.spare))))))) (λ e. y)

-- ---- parts

loaded_names : (n : Numbers) (v : Value) → FitsValue v → FieldFits n v → All (IsKeptName n) (names_of v)
loaded_names n (Ref x) fits field =
    All-push (IsKeptName n) [] x (All-nil (IsKeptName n)) (field, fits)
loaded_names n (Num x) fits field = All-nil (IsKeptName n)
loaded_names n Null fits field = All-nil (IsKeptName n)

next_place : (size x : ℕ) → x < size → after_place size x < size
next_place size x low = on (x + 1 == size) refl
  where
    on : (b : Bool) → (x + 1 == size) ≡ b → cond b 0 (x + 1) < size
    on true e = omega arith
    on false e = grind (arith, nat_tests)

next_asked : (n : Numbers) (q : PollStage) (v : ℕ) → poll.IsKnown n q → 0 < n.servers
    → poll.IsKnown n (poll.stage_fed n q v)
next_asked n (Asking r) v known some = on (has_work v) (r + 1 == n.servers) refl
  where
    on : (b d : Bool) → (r + 1 == n.servers) ≡ d
        → poll.IsKnown n (cond b (Polled (NotYet r v)) (cond d (Reading 0) (Asking (r + 1))))
    on true d e = tt
    on false true e = some
    on false false e = grind (arith, nat_tests)
next_asked n (Reading r) v known some = on (v == 0) (r + 1 == n.servers) refl
  where
    on : (b d : Bool) → (r + 1 == n.servers) ≡ d
        → poll.IsKnown n (cond b (cond d (Polled Told) (Reading (r + 1))) (Polled (NotYet r v)))
    on true true e = tt
    on true false e = grind (arith, nat_tests)
    on false d e = tt
next_asked n (Polled answer) v known some = tt

-- ---- the stages

module _ (w : Facts) (s : JointScene) (places : ℕ → ℕ) (k : Holdings) where
  abbrev n : Numbers
  n = k.shape

  window_is : (r : ℕ) → IsKeptKnown k → r < n.servers → IsWindow n.ring (window_of k r)
  window_is r y low = y.windows r no_window (let a = y.windows_count in omega arith)

  known_at : (stage : CollectStage) → IsUpToEvac stage → Stands n w s places (at k stage)
      → Fits (at k stage) (finds (next_of (at k stage)) s.words) → Known (collector_next (at k stage) s.words)
  known_at (Idle LoadingDemand) is x fits =
      either_way Known (nat_lt k.cycle (word_at n s.words demand)) (at k (Pausing (Shutting Snapshot 0)))
      (at k (Idle LookingFinished)) (λ e. x.known) (λ e. x.known)
  known_at (Idle LookingFinished) is x fits =
      either_way Known (word_at n s.words finished == n.mutators) (at k (Idle StoringStop)) (at k (Idle LoadingDemand))
      (λ e. x.known) (λ e. x.known)
  known_at (Idle StoringStop) is x fits = x.known
  known_at (Pausing (Shutting pause m)) is x fits =
      either_way Known (m + 1 == n.mutators) (at k (Pausing (Draining pause 0)))
      (at k (Pausing (Shutting pause (m + 1)))) (λ e. x.known) (λ e. x.known)
  known_at (Pausing (Draining pause m)) is x fits =
      either_way Known (nat_lt 0 (count_of (word_at n s.words (mutator_gate m)))) (at k (Pausing (Draining pause m)))
      (cond (m + 1 == n.mutators) (paused k pause) (at k (Pausing (Draining pause (m + 1))))) (λ e. x.known)
      (λ e. either_way Known (m + 1 == n.mutators) (paused k pause) (at k (Pausing (Draining pause (m + 1))))
      (λ a. paused_known k x.known pause) (λ a. x.known))
  known_at (Pausing (LoadingRoot m q)) is x fits =
      let v : Value = value_at (word_at n s.words (root m q)) in
      names_known k x.known (k.pending ++ names_of v)
      (All-append (IsKeptName n) k.pending (names_of v) x.known.pending (loaded_names n v fits.0.fits fits.1))
  known_at (Pausing StoringTrace) is x fits = x.known
  known_at (Pausing (Opening m)) is x fits =
      either_way Known (m + 1 == n.mutators) (forward k) (at k (Pausing (Opening (m + 1))))
      (λ e. forward_known k x.known) (λ e. x.known)
  known_at (Forwarding (Looking x)) is y fits =
      let r : ℕ = owner n x in
      let head = work r ((window_of k r).head % n.ring) in
      let kept : Holdings = set_window k r (found_room n.ring (window_of k r)) in
      either_way Known (word_at n s.words head == 0) (at kept (Forwarding (Storing x))) (at k (Forwarding (Looking x)))
      (λ e. windows_known k y.known r (found_room n.ring (window_of k r))
      (windows_stay.found_room n.ring (window_of k r)
      (window_is r y.known (owner_in_range n x y.keeps.stage.1.0))).0) (λ e. y.known)
  known_at (Forwarding (Storing x)) is y fits =
      let r : ℕ = owner n x in
      let was = window_is r y.known (owner_in_range n x y.keeps.stage.1.0.0) in
      let kept : Holdings = set_window k r (head_up (window_of k r)) in
      forward_known kept
      (windows_known k y.known r (head_up (window_of k r)) (record {
        tail_below = was.tail_below;
        ordered = (let a = was.ordered in omega arith);
        few = (let a = y.keeps.stage.1.1 in omega arith);
      }))
  known_at (Barriers (Loading m)) is x fits =
      let found : ℕ = word_at n s.words (barrier m (slice_index k.barrier_at m)) in
      either_way Known (found == 0) (barriers_from k (m + 1)) (at k (Barriers (Clearing m (name_at found))))
      (λ e. either_way Known (m + 1 == n.mutators) (empty k) (at k (Barriers (Loading (m + 1))))
      (λ a. empty_known k x.known) (λ a. x.known)) (λ e. x.known)
  known_at (Barriers (Clearing m x)) is y fits =
      let here : ℕ = slice_index k.barrier_at m in
      let low : here < n.ring =
      y.known.barriers m 0 (let a = y.known.barriers_count in let b = y.keeps.stage.1.0 in omega arith) in
      barrier_known k y.known m (after_place n.ring here) (next_place n.ring here low)
  known_at (Emptying r) is x fits =
      let tail = work r ((window_of k r).tail % n.ring) in
      let kept : Holdings = set_window k r (tail_up n.ring (window_of k r)) in
      either_way Known (word_at n s.words tail == 0) (empty kept) (at k (Emptying r))
      (λ e. empty_known kept
      (windows_known k x.known r (tail_up n.ring (window_of k r))
      (windows_stay.tail_up n.ring (window_of k r) (window_is r x.known x.keeps.stage.1.0) x.keeps.stage.1.1).0))
      (λ e. x.known)
  known_at Polling is x fits =
      let found : ℕ = finds (next_of (at k Polling)) s.words in
      let kept : Holdings = record k { poll = poll.fed k.poll found } in
      let each = x.known.shape.in_range.each in
      polled_known kept
      (poll_known k x.known (poll.fed k.poll found) x.known.poll_shape
      (subst (λ (m : Numbers). poll.IsKnown n (poll.stage_fed m k.poll.stage found)) (sym x.known.poll_shape)
      (next_asked n k.poll.stage found x.known.poll (omega (arith, each))))) kept.poll.stage
  known_at (Choosing (LoadingLive r place)) is x fits = x.known
  known_at (Choosing (LoadingTop r place number)) is x fits =
      let v : ℕ = word_at n s.words (top (r * n.tablets + place)) in
      let used : List Used = k.used ++ record { top = v; live = number } ∷ [] in
      let more = length-append k.used (record { top = v; live = number } ∷ []) in
      let was = x.keeps.stage.1.used in
      tablets_known (record k { used = used }) r place (chosen_known k x.known used k.chosen x.known.chosen)
      x.keeps.stage.1.server (omega (arith, more, was))
  known_at (Choosing (LoadingHome i)) is x fits =
      gift_known k x.known i (word_at n s.words (home (chosen_tablet k i))) (spare_for k (chosen_tablet k i))
  known_at (Choosing (StoringLeaving i gift)) is x fits = x.known
  known_at (Choosing (StoringHome i gift)) is x fits =
      roles_known k x.known (slice_set (slice_set k.roles gift.region Home) gift.former (Spare (running k + 1)))
      (length-set (slice_set k.roles gift.region Home) gift.former (Spare (running k + 1))
      ∙ length-set k.roles gift.region Home ∙ x.known.roles)
  known_at (Choosing (StoringTop i)) is x fits = gifts_known k x.known (i + 1)
  known_at (Choosing StoringEvac) is x fits = gates_known k x.known false
  known_at (Choosing (Reopening m)) is x fits =
      either_way Known (m + 1 == n.mutators) (at k (Noticing (NoticeLook 0))) (at k (Choosing (Reopening (m + 1))))
      (λ e. x.known) (λ e. x.known)
  known_at (Noticing stage) is x fits = absurd is
  known_at Ended is x fits = absurd is

pub steps_keep_known : StepsKeepKnown
steps_keep_known n w s places k stage is stands fits =
    subst (λ m. Stands m w s places (at k stage) → Known (collector_next (at k stage) s.words)) stands.seat.shape
    (λ x. known_at w s places k stage is x fits) stands

-- ---- it stands again

pub stands_go_on : StandsGoOn
stands_go_on n w s beside places k stage is stands fits here choice joint =
    let next : Collecting = collector_next (at k stage) s.words in
    let words : List ℕ = words_next (at k stage) s.words in
    record {
      joint = joint;
      seat = seats_stay n beside (at k stage) next words choice here
          ((steps_leave_kept k stage s.words is).shape ∙ stands.seat.shape);
      known = steps_keep_known n w s places k stage is stands fits;
      keeps = steps_keep_their_own n w s places k stage is stands fits;
    }
