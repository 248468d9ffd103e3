-- A step of the collector leaves its stage in range, and lowers the rank of its job.
use Rattle.std.proofs.Common.{◌≡◌, ℕ, ◌+◌, ◌-◌, ◌*◌, ◌<◌, ◌≤◌, ◌==◌, Bool, true, false, cond, nat_lt, inl, inr, Option}
use Rattle.std.proofs.Common.{Some, None, List, [], ◌∷◌, ◌++◌, All, length, map, position, drop, slice_index_or}
use Rattle.std.proofs.Common.{slice_set, slice_range, refl, sym, subst, ◌∙◌, arith}
use Rattle.std.proofs.lemmas.Bool.Decides.{nat_tests}
use Rattle.std.proofs.lemmas.List.{length-set, length-append, length-map, length-take}
use Rattle.std.proofs.lemmas.List.Elements.{All-head}
use Rattle.std.proofs.lemmas.Grind.{get_or-set_at}
use Rattle.std.proofs.lemmas.List.Quantifiers.{position-Some}
use Rattle.mako_words.specs.Gates.{count_of}
use Rattle.mako_words.specs.Values.{value_at}
use Rattle.mako_words.specs.declared.name.Name.{Name}
use Rattle.mako_words.specs.declared.notice_word.NoticeWord.{NoticeWord}
use Rattle.mako_words.specs.declared.notice_word.NoticeWord.TheVariants.{Freed, Done}
use Rattle.mako_shape.specs.Limits.{IsShape}
use Rattle.mako_shape.proofs.BelongingLaws.{belongings_in_range}
use Rattle.mako_ring.specs.Tracing.{owner, no_window, is_open}
use Rattle.mako_ring.specs.Windows.{IsWindow, found_room, tail_up, head_up}
use Rattle.mako_ring.specs.declared.window.Window.{Window}
use Rattle.mako_ring.proofs.Found.{owner_in_range}
use Rattle.mako_poll.specs.declared.poller.PollStage.{PollStage}
use Rattle.mako_poll.specs.declared.poller.PollStage.TheVariants.{Asking, Reading, Ended as Polled}
use Rattle.mako_poll.specs.declared.poller.Polled.TheVariants.{Told, NotYet}
use Rattle.mako_choice.specs.Choices.{choice}
use Rattle.mako_pause.specs.Regions.{is_spare, behind, spare_between}
use Rattle.mako_pause.specs.declared.regions.Role.{Role}
use Rattle.mako_pause.specs.declared.regions.Role.TheVariants.{Home}
use Rattle.mako_pause.specs.declared.stage.Pause.{Pause}
use Rattle.mako_pause.specs.declared.stage.Pause.TheVariants.{Snapshot, Choice}
use Rattle.mako_pause.specs.declared.stage.IdleStage.{IdleStage}
use Rattle.mako_pause.specs.declared.stage.IdleStage.TheVariants.{LoadingDemand, LookingFinished, StoringStop}
use Rattle.mako_pause.specs.declared.stage.PauseStage.{PauseStage}
use Rattle.mako_pause.specs.declared.stage.PauseStage.TheVariants.{Shutting, Draining, LoadingRoot, StoringTrace}
use Rattle.mako_pause.specs.declared.stage.PauseStage.TheVariants.{Opening}
use Rattle.mako_pause.specs.declared.stage.ForwardStage.{ForwardStage}
use Rattle.mako_pause.specs.declared.stage.ForwardStage.TheVariants.{Looking, Storing}
use Rattle.mako_pause.specs.declared.stage.BarrierStage.{BarrierStage}
use Rattle.mako_pause.specs.declared.stage.BarrierStage.TheVariants.{Loading, Clearing}
use Rattle.mako_pause.specs.declared.stage.ChoiceStage.{ChoiceStage}
use Rattle.mako_pause.specs.declared.stage.ChoiceStage.TheVariants.{LoadingLive, LoadingTop, LoadingHome}
use Rattle.mako_pause.specs.declared.stage.ChoiceStage.TheVariants.{StoringLeaving, StoringHome, StoringTop}
use Rattle.mako_pause.specs.declared.stage.ChoiceStage.TheVariants.{StoringEvac, Opening as Reopening}
use Rattle.mako_pause.specs.declared.stage.NoticeStage.{NoticeStage}
use Rattle.mako_pause.specs.declared.stage.NoticeStage.TheVariants.{Looking as NoticeLook, Clearing as NoticeClear}
use Rattle.mako_pause.specs.declared.stage.NoticeStage.TheVariants.{StoringIdle}
use Rattle.mako_pause.specs.declared.stage.CollectStage.{CollectStage}
use Rattle.mako_pause.specs.declared.stage.CollectStage.TheVariants.{Idle, Pausing, Forwarding, Barriers, Emptying}
use Rattle.mako_pause.specs.declared.stage.CollectStage.TheVariants.{Polling, Choosing, Noticing, Ended}
use Rattle.mako_pause.specs.Collecting.{Holdings, Collecting as Machine, window_of, set_window, forward_from}
use Rattle.mako_pause.specs.Collecting.{empty_from, empty, barriers_from, told, polled_at, paused, gifts_from}
use Rattle.mako_pause.specs.Collecting.{spare_for, gift_of, names_of, chosen_tablet, server_chosen, after_tablet}
use Rattle.mako_pause.specs.Collecting.{after_root, noticed, idle_fed, pause_fed, forward_fed, barrier_fed, empty_fed}
use Rattle.mako_pause.specs.Collecting.{choice_fed, notice_fed, stage_fed, StageFits, IdleFits, BarrierFits, ChoiceFits}
use Rattle.mako_pause.specs.Keeping.{IsKeptKnown, Runs, all_regions, IsKeptName, PauseIsKnown, ForwardIsKnown}
use Rattle.mako_pause.specs.Keeping.{BarrierIsKnown, EmptyIsKnown, ChoiceIsKnown, NoticeIsKnown, StageIsKnown}
use Rattle.mako_choice.proofs.Places.{choice_few}
use Rattle.mako_pause.proofs.Places.{row_within}

abbrev Stands : Machine → Type 0
Stands c = StageIsKnown c.kept c.stage

either_way : (b : Bool) (x y : Machine) → (b ≡ true → Stands x) → (b ≡ false → Stands y) → Stands (cond b x y)
either_way true x y f g = f refl
either_way false x y f g = g refl

-- what tests say
pub next_below : (m count : ℕ) → m < count → (m + 1 == count) ≡ false → m + 1 < count
next_below m count h e = grind (arith, nat_tests)

is_below : (a b : ℕ) → nat_lt a b ≡ true → a < b
is_below a b e = grind (arith, nat_tests)

not_zero : (w : ℕ) → (w == 0) ≡ false → w ≡ 0 → ⊥
not_zero w e z = grind (arith, nat_tests)

is_same : (a b : ℕ) → (a == b) ≡ true → a ≡ b
is_same a b e = grind (arith, nat_tests)

is_less : (a b : ℕ) → (a == b) ≡ false → a ≤ b → a < b
is_less a b e few = grind (arith, nat_tests)

set_here : (xs : List Window) (i : ℕ) (v d : Window) → i < length xs → slice_index_or (slice_set xs i v) i d ≡ v
set_here xs i v d h = get_or-set_at xs i i v d refl h

first_mutator : (k : Holdings) → IsShape k.shape → 0 < k.shape.mutators
first_mutator k shape = let each = shape.in_range.each in omega (arith, each)

first_root : (k : Holdings) → IsShape k.shape → 0 < k.shape.roots
first_root k shape = let each = shape.in_range.each in omega (arith, each)

first_server : (k : Holdings) → IsShape k.shape → 0 < k.shape.servers
first_server k shape = let each = shape.in_range.each in omega (arith, each)

first_tablet : (k : Holdings) → IsShape k.shape → 0 < k.shape.tablets
first_tablet k shape = let each = shape.in_range.each in omega (arith, each)

-- ---- where its parts begin
forward_stands : (k : Holdings) (pending : List Name) → IsShape k.shape → Runs k → All (IsKeptName k.shape) pending
    → Stands (forward_from k pending)
forward_stands k [] shape runs all = (runs, first_mutator k shape)
forward_stands k (x ∷ pending) shape runs all = (runs, All-head (IsKeptName k.shape) x pending all)

empty_stands : (k : Holdings) → length k.windows ≡ k.shape.servers → Runs k → Stands (empty k)
empty_stands k count runs = go (position is_open k.windows) refl
  where
    go : (o : Option ℕ) → position is_open k.windows ≡ o → Stands (empty_from k o)
    go None e = runs
    go (Some s) e =
        let found = position-Some is_open k.windows s no_window e in
        let inside = found.0 in
        (runs, (omega (arith, inside, count), is_below _ _ found.1))

barriers_stand : (k : Holdings) (m : ℕ) → length k.windows ≡ k.shape.servers → Runs k → m < k.shape.mutators
    → Stands (barriers_from k (m + 1))
barriers_stand k m count runs h =
    either_way (m + 1 == k.shape.mutators) _ _ (λ _. empty_stands k count runs)
    (λ e. (runs, next_below m k.shape.mutators h e))

told_stands : (k : Holdings) → IsShape k.shape → Runs k → Stands (told k)
told_stands k shape runs =
    either_way k.gates_shut _ _
    (λ _. (
      runs,
      record {
        server = first_server k shape;
        place = first_tablet k shape;
        used = refl;
        chosen = omega arith;
      },
    ))
    (λ _. (runs, first_mutator k shape))

polled_stands : (k : Holdings) (s : PollStage) → IsShape k.shape → Runs k → Stands (polled_at k s)
polled_stands k (Asking s) shape runs = runs
polled_stands k (Reading s) shape runs = runs
polled_stands k (Polled (NotYet s w)) shape runs = (runs, first_mutator k shape)
polled_stands k (Polled Told) shape runs = told_stands k shape runs

gifts_stand : (k : Holdings) (i : ℕ) → Runs k → Stands (gifts_from k i)
gifts_stand k i runs =
    either_way (nat_lt i (length k.chosen)) _ _ (λ e. (runs, is_below i (length k.chosen) e)) (λ _. (runs, tt))

paused_stands : (k : Holdings) (pause : Pause) → IsShape k.shape → Runs k → Stands (paused k pause)
paused_stands k Snapshot shape runs = (runs, (first_mutator k shape, first_root k shape))
paused_stands k Choice shape runs = (runs, first_mutator k shape)

-- ---- its stages
idle_stands : (k : Holdings) (s : IdleStage) (w : ℕ) → IsShape k.shape → IdleFits k s w → Stands (idle_fed k s w)
idle_stands k LoadingDemand w shape fits =
    either_way (nat_lt k.cycle w) _ _ (λ e. let more = is_below k.cycle w e in
    (omega (arith, more, fits), first_mutator k shape)) (λ _. tt)
idle_stands k LookingFinished w shape fits = either_way (w == k.shape.mutators) _ _ (λ _. tt) (λ _. tt)
idle_stands k StoringStop w shape fits = tt

root_stands : (k : Holdings) (m q : ℕ) (pending : List Name) → m < k.shape.mutators → IsShape k.shape
    → PauseIsKnown (record k { pending = pending }) (after_root k m q)
root_stands k m q pending h shape = rows (nat_lt (q + 1) k.shape.roots) refl (nat_lt (m + 1) k.shape.mutators) refl
  where
    rows : (a : Bool) → nat_lt (q + 1) k.shape.roots ≡ a → (b : Bool) → nat_lt (m + 1) k.shape.mutators ≡ b →
        PauseIsKnown (record k { pending = pending })
        (cond a (LoadingRoot m (q + 1)) (cond b (LoadingRoot (m + 1) 0) StoringTrace))
    rows true e b f = (h, is_below (q + 1) k.shape.roots e)
    rows false e true f = (is_below (m + 1) k.shape.mutators f, first_root k shape)
    rows false e false f = tt

pause_stands : (k : Holdings) (s : PauseStage) (w : ℕ) → IsKeptKnown k → Runs k → PauseIsKnown k s
    → Stands (pause_fed k s w)
pause_stands k (Shutting pause m) w known runs h =
    either_way (m + 1 == k.shape.mutators) _ _ (λ _. (runs, first_mutator k known.shape))
    (λ e. (runs, next_below m k.shape.mutators h e))
pause_stands k (Draining pause m) w known runs h =
    either_way (nat_lt 0 (count_of w)) _ _ (λ _. (runs, h))
    (λ _. either_way (m + 1 == k.shape.mutators) _ _ (λ _. paused_stands k pause known.shape runs)
    (λ e. (runs, next_below m k.shape.mutators h e)))
pause_stands k (LoadingRoot m q) w known runs h =
    (runs, root_stands k m q (k.pending ++ names_of (value_at w)) h.0 known.shape)
pause_stands k StoringTrace w known runs h = (runs, first_mutator k known.shape)
pause_stands k (Opening m) w known runs h =
    either_way (m + 1 == k.shape.mutators) _ _ (λ _. forward_stands k k.pending known.shape runs known.pending)
    (λ e. (runs, next_below m k.shape.mutators h e))

-- the window after a look that found room has room
has_room : (size : ℕ) (w : Window) → IsWindow size w → (found_room size w).head < (found_room size w).tail + size
has_room size w ok = full (w.head == w.tail + size) refl (w.tail + 1 == size) refl
  where
    full : (a : Bool) → (w.head == w.tail + size) ≡ a → (b : Bool) → (w.tail + 1 == size) ≡ b →
        (cond a (cond b (record { head = w.head - size; tail = 0 }) (record {
          head = w.head;
          tail = w.tail + 1;
        })) w).head
        < (cond a (cond b (record { head = w.head - size; tail = 0 }) (record {
          head = w.head;
          tail = w.tail + 1;
        })) w).tail + size
    full true e true f = let below = ok.tail_below in
        let same : w.head ≡ w.tail + size = is_same w.head (w.tail + size) e in omega (arith, below, same)
    full true e false f = let same : w.head ≡ w.tail + size = is_same w.head (w.tail + size) e in omega (arith, same)
    full false e b f = let few = ok.few in is_less w.head (w.tail + size) e few

forward_goes : (k : Holdings) (s : ForwardStage) (w : ℕ) → IsKeptKnown k → Runs k → ForwardIsKnown k s
    → Stands (forward_fed k s w)
forward_goes k (Looking x) w known runs h =
    let s = owner k.shape x in
    let below : s < length k.windows = (let b = owner_in_range k.shape x h.0 in let count = known.windows_count in
    omega (arith, b, count)) in
    let v = found_room k.shape.ring (window_of k s) in
    let here : window_of (set_window k s v) s ≡ v = set_here k.windows s v no_window below in
    let room = has_room k.shape.ring (window_of k s) (known.windows s no_window below) in
    either_way (w == 0) _ _ (λ _. (runs, (h, subst (λ (u : Window). u.head < u.tail + k.shape.ring) (sym here) room)))
    (λ _. (runs, h))
forward_goes k (Storing x) w known runs h =
    forward_stands (set_window k (owner k.shape x) (head_up (window_of k (owner k.shape x)))) k.pending known.shape runs
    known.pending

barrier_stands : (k : Holdings) (s : BarrierStage) (w : ℕ) → IsKeptKnown k → Runs k → BarrierIsKnown k s
    → BarrierFits k s w → Stands (barrier_fed k s w)
barrier_stands k (Loading m) w known runs h fits =
    either_way (w == 0) _ _ (λ _. barriers_stand k m known.windows_count runs h)
    (λ e. (runs, (h, elim fits [ inl z ↦ absurd (not_zero w e z) | inr p ↦ (p.1, p.0.fits) ])))
barrier_stands k (Clearing m x) w known runs h fits = (runs, h.1)

emptied_stands : (k : Holdings) (s w : ℕ) → IsKeptKnown k → Runs k → EmptyIsKnown k s → Stands (empty_fed k s w)
emptied_stands k s w known runs h =
    let v = tail_up k.shape.ring (window_of k s) in
    either_way (w == 0) _ _ (λ _. empty_stands (set_window k s v) (length-set k.windows s v ∙ known.windows_count) runs)
    (λ _. (runs, h))

-- the region that a server has to give is one
spare_below : (roles : List Role) (cycle first count region : ℕ) → spare_between roles cycle first count ≡ Some region
    → region < first + count
spare_below roles cycle first count region is =
    go (position (is_spare cycle) (slice_range roles first (first + count))) refl is
  where
    go : (o : Option ℕ) → position (is_spare cycle) (slice_range roles first (first + count)) ≡ o
        → behind first o ≡ Some region → region < first + count
    go None e same = absurd cc
    go (Some place) e same =
        let found = position-Some (is_spare cycle) (slice_range roles first (first + count)) place Home e in
        let inside = found.0 in
        let most = length-take (first + count - first) (drop first roles) in
        let here : first + place ≡ region = cc in
        omega (arith, inside, most, here)

gift_stands : (k : Holdings) (i former : ℕ) → Runs k → i < length k.chosen → former < all_regions k
    → k.shape.servers * (k.shape.tablets + k.shape.spare) ≡ all_regions k →
    (chosen_tablet k i < k.shape.servers * k.shape.tablets)
    → Stands (gift_of k i former (spare_for k (chosen_tablet k i)))
gift_stands k i former runs h fits same tablet = go (spare_for k (chosen_tablet k i)) refl
  where
    go : (o : Option ℕ) → spare_for k (chosen_tablet k i) ≡ o → Stands (gift_of k i former o)
    go None e = (runs, tt)
    go (Some region) e =
        let low = spare_below k.roles (k.cycle + 1) _ (k.shape.tablets + k.shape.spare) region e in
        let row = row_within _ k.shape.servers (k.shape.tablets + k.shape.spare)
        (belongings_in_range.tablet k.shape (chosen_tablet k i) tablet) in
        (runs, (h, fits, omega (arith, low, row)))

loaded_stands : (k : Holdings) (s p : ℕ) → IsShape k.shape → Runs k → s < k.shape.servers → p < k.shape.tablets
    → length k.used ≡ p + 1 → length k.chosen ≤ s * k.shape.spare → Stands (after_tablet k s p)
loaded_stands k s p shape runs server place used chosen =
    either_way (p + 1 == k.shape.tablets) _ _
    (λ _. either_way (s + 1 == k.shape.servers) _ _ (λ _. gifts_stand (server_chosen k s) 0 runs)
    (λ e. (
      runs,
      record {
        server = next_below s k.shape.servers server e;
        place = first_tablet k shape;
        used = refl;
        chosen = more;
      },
    )))
    (λ e. (
      runs,
      record {
        server = server;
        place = next_below p k.shape.tablets place e;
        used = used;
        chosen = chosen;
      },
    ))
  where
    more : length (k.chosen ++ map (λ place. s * k.shape.tablets + place) (choice k.used k.shape.spare)) ≤ (s + 1)
        * k.shape.spare
    more =
        let few = choice_few k.used k.shape.spare in
        let both = length-append k.chosen (map (λ place. s * k.shape.tablets + place) (choice k.used k.shape.spare)) in
        let same = length-map (choice k.used k.shape.spare) (λ place. s * k.shape.tablets + place) in
        let row : (s + 1) * k.shape.spare ≡ s * k.shape.spare + k.shape.spare = omega arith in
        omega (arith, few, both, same, row, chosen)

choice_stands : (k : Holdings) (s : ChoiceStage) (w : ℕ) → IsKeptKnown k → Runs k → ChoiceIsKnown k s → ChoiceFits k s w
    → Stands (choice_fed k s w)
choice_stands k (LoadingLive s place) w known runs h fits = (runs, h)
choice_stands k (LoadingTop s place words) w known runs h fits =
    let used = h.used in let more = length-append k.used (record { top = w; live = words } ∷ []) in
    loaded_stands _ s place known.shape runs h.server h.place (omega (arith, used, more)) h.chosen
choice_stands k (LoadingHome i) w known runs h fits = gift_stands k i w runs h fits refl (known.chosen i 0 h)
choice_stands k (StoringLeaving i gift) w known runs h fits = (runs, h)
choice_stands k (StoringHome i gift) w known runs h fits = (runs, h.0)
choice_stands k (StoringTop i) w known runs h fits = gifts_stand k (i + 1) runs
choice_stands k StoringEvac w known runs h fits = (runs, first_mutator k known.shape)
choice_stands k (Reopening m) w known runs h fits =
    either_way (m + 1 == k.shape.mutators) _ _ (λ _. (runs, first_server k known.shape))
    (λ e. (runs, next_below m k.shape.mutators h e))

noticed_stands : (k : Holdings) (s : ℕ) (told : NoticeWord) → Runs k → s < k.shape.servers → Stands (noticed k s told)
noticed_stands k s (Freed x) runs h = (runs, h)
noticed_stands k s Done runs h =
    either_way (s + 1 == k.shape.servers) _ _ (λ _. (runs, tt)) (λ e. (runs, next_below s k.shape.servers h e))

notice_stands : (k : Holdings) (s : NoticeStage) (w : ℕ) → Runs k → NoticeIsKnown k s → Stands (notice_fed k s w)
notice_stands k (NoticeLook s) w runs h = either_way (w == 0) _ _ (λ _. (runs, h)) (λ _. (runs, h))
notice_stands k (NoticeClear s told) w runs h = noticed_stands _ s told runs h
notice_stands k StoringIdle w runs h = tt

pub stage_stands : (k : Holdings) (s : CollectStage) (w : ℕ) → IsKeptKnown k → StageIsKnown k s → StageFits k s w
    → Stands (stage_fed k s w)
stage_stands k (Idle s) w known h fits = idle_stands k s w known.shape fits
stage_stands k (Pausing s) w known h fits = pause_stands k s w known h.0 h.1
stage_stands k (Forwarding s) w known h fits = forward_goes k s w known h.0 h.1
stage_stands k (Barriers s) w known h fits = barrier_stands k s w known h.0 h.1 fits
stage_stands k (Emptying s) w known h fits = emptied_stands k s w known h.0 h.1
stage_stands k Polling w known h fits = polled_stands _ _ known.shape h
stage_stands k (Choosing s) w known h fits = choice_stands k s w known h.0 h.1 fits
stage_stands k (Noticing s) w known h fits = notice_stands k s w h.0 h.1
stage_stands k Ended w known h fits = tt
