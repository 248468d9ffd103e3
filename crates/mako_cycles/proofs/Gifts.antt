-- Each chosen tablet gets a spare region of its server.
use Rattle.std.proofs.Common.{◌≡◌, ◌≢◌, ℕ, ◌+◌, ◌*◌, ◌/◌, ◌<◌, ◌≤◌, true, Option, Some, None, List, [], ◌∷◌, ◌++◌}
use Rattle.std.proofs.Common.{length, map, position, get_or, set, take, sum_by, ⊎_elim, refl, sym, subst, ap, ◌∙◌}
use Rattle.std.proofs.Common.{arith}
use Rattle.std.specs.List.{All}
use Rattle.std.proofs.lemmas.Bool.{cases_eq, eq-eqb, ne_eqb}
use Rattle.std.proofs.lemmas.List.{length_push, take_more, take_all}
use Rattle.std.proofs.lemmas.List.Elements.{All-nil, All-append, All-map, All-head, All-tail}
use Rattle.std.proofs.lemmas.List.Sums.{sum_by-cons, sum_by-append, sum_by_more, sum_by-take-le}
use Rattle.std.proofs.lemmas.Nat.{div-mul-add}
use Rattle.mako_words.specs.Gates.{count_of}
use Rattle.mako_words.specs.Notices.{notice_at}
use Rattle.mako_words.specs.declared.name.Name.{Name}
use Rattle.mako_words.specs.declared.notice_word.NoticeWord.{NoticeWord}
use Rattle.mako_words.specs.declared.notice_word.NoticeWord.TheVariants.{Freed, Done}
use Rattle.mako_shape.specs.Belongings.{server_of_tablet, server_of_region}
use Rattle.mako_shape.specs.Limits.{IsShape}
use Rattle.mako_shape.specs.declared.numbers.Numbers.{Numbers}
use Rattle.mako_shape.proofs.BelongingLaws.{belongings_in_range}
use Rattle.mako_step.specs.Trails.{Observation}
use Rattle.mako_step.proofs.Along.{along}
use Rattle.mako_step.proofs.Cases.{when_lt, when_eq, when_test}
use Rattle.mako_ring.specs.Contents.{after_place}
use Rattle.mako_ring.specs.Tracing.{owner, is_open}
use Rattle.mako_ring.specs.Windows.{tail_up, head_up}
use Rattle.mako_poll.specs.Polls as polls
use Rattle.mako_poll.specs.declared.poller.PollStage.{PollStage}
use Rattle.mako_poll.specs.declared.poller.PollStage.TheVariants.{Asking, Reading, Ended as Polled}
use Rattle.mako_poll.specs.declared.poller.Polled.TheVariants.{Told, NotYet}
use Rattle.mako_choice.specs.Choices.{choice}
use Rattle.mako_pause.specs.Collecting.{Holdings, Collecting as Machine, window_of, set_window, forward_from}
use Rattle.mako_pause.specs.Collecting.{empty_from, barriers_from, told, polled_at, paused, gifts_from, gift_of}
use Rattle.mako_pause.specs.Collecting.{chosen_tablet, server_chosen, after_tablet, noticed, idle_fed, pause_fed}
use Rattle.mako_pause.specs.Collecting.{forward_fed, barrier_fed, empty_fed, choice_fed, notice_fed, stage_fed}
use Rattle.mako_pause.specs.Regions.{is_spare}
use Rattle.mako_cycles.specs.Housing.{Housed, homes_after, given_after, choice_homes, choice_given, notice_given}
use Rattle.mako_cycles.specs.Housing.{FindsHome, ChoiceFinds, housed_next, HousedFits, housed_fed, housed_opening}
use Rattle.mako_cycles.specs.Housing.{AreHomes, IsFreeFor, ChoiceGives, StageGives, CollectorsGive}
use Rattle.mako_pause.specs.declared.regions.Role.{Role}
use Rattle.mako_pause.specs.declared.regions.Role.TheVariants.{Home}
use Rattle.mako_pause.specs.declared.stage.Gift.{Gift}
use Rattle.mako_pause.specs.declared.stage.Pause.{Pause}
use Rattle.mako_pause.specs.declared.stage.Pause.TheVariants.{Snapshot, Choice}
use Rattle.mako_pause.specs.declared.stage.IdleStage.{IdleStage}
use Rattle.mako_pause.specs.declared.stage.IdleStage.TheVariants.{LoadingDemand, LookingFinished, StoringStop}
use Rattle.mako_pause.specs.declared.stage.PauseStage.{PauseStage}
use Rattle.mako_pause.specs.declared.stage.PauseStage.TheVariants.{Shutting, Draining, LoadingRoot, StoringTrace}
use Rattle.mako_pause.specs.declared.stage.PauseStage.TheVariants.{Opening}
use Rattle.mako_pause.specs.declared.stage.ForwardStage.{ForwardStage}
use Rattle.mako_pause.specs.declared.stage.ForwardStage.TheVariants.{Looking, Storing}
use Rattle.mako_pause.specs.declared.stage.BarrierStage.{BarrierStage}
use Rattle.mako_pause.specs.declared.stage.BarrierStage.TheVariants.{Loading, Clearing}
use Rattle.mako_pause.specs.declared.stage.ChoiceStage.{ChoiceStage}
use Rattle.mako_pause.specs.declared.stage.ChoiceStage.TheVariants.{LoadingLive, LoadingTop, LoadingHome}
use Rattle.mako_pause.specs.declared.stage.ChoiceStage.TheVariants.{StoringLeaving, StoringHome, StoringTop}
use Rattle.mako_pause.specs.declared.stage.ChoiceStage.TheVariants.{StoringEvac, Opening as Reopening}
use Rattle.mako_pause.specs.declared.stage.NoticeStage.{NoticeStage}
use Rattle.mako_pause.specs.declared.stage.NoticeStage.TheVariants.{Looking as NoticeLook, Clearing as NoticeClear}
use Rattle.mako_pause.specs.declared.stage.NoticeStage.TheVariants.{StoringIdle}
use Rattle.mako_pause.specs.declared.stage.CollectStage.{CollectStage}
use Rattle.mako_pause.specs.declared.stage.CollectStage.TheVariants.{Idle, Pausing, Forwarding, Barriers, Emptying}
use Rattle.mako_pause.specs.declared.stage.CollectStage.TheVariants.{Polling, Choosing, Noticing, Ended}
use Rattle.mako_choice.proofs.Places.{choice_below, choice_few}
use Rattle.mako_pause.proofs.Places.{tablets_below}
use Rattle.mako_cycles.proofs.Roles.{one, role_at, of_server, RolesStand, HomesStand, SpareFound, roles_given}
use Rattle.mako_cycles.proofs.Roles.{homes_given, roles_next, roles_open, homes_open, spare_left, found_free}
use Rattle.mako_cycles.proofs.Roles.{spare_is_no_home}

-- ---- what stands at each stage
record BaseStands (n shape : Numbers) (roles : List Role) (cycle : ℕ) (homes : ℕ → ℕ) (given : List ℕ) : Type 0 where
  same : shape ≡ n
  is_shape : IsShape shape
  homes_stand : HomesStand shape roles homes
  roles_stand : RolesStand shape (cycle + 1) roles given

-- the chosen tablets are tablets, and of each server no more than it has spare regions
record AreChosen (n : Numbers) (chosen : List ℕ) : Type 0 where
  below : All (λ t. t < n.servers * n.tablets) chosen
  few : (s : ℕ) → sum_by (of_server n s) chosen ≤ n.spare

-- and those of the servers from this one on are not chosen yet
record AreLoading (k : Holdings) (s p : ℕ) : Type 0 where
  server : s < k.shape.servers
  place : p < k.shape.tablets
  used : length k.used ≡ p
  chosen : AreChosen k.shape k.chosen
  later : (other : ℕ) → s ≤ other → sum_by (of_server k.shape other) k.chosen ≡ 0

record GiftStands (k : Holdings) (t : ℕ) (gift : Gift) (homes : ℕ → ℕ) : Type 0 where
  former : gift.former ≡ homes t
  server : server_of_region k.shape gift.region ≡ server_of_tablet k.shape t
  spare : is_spare (k.cycle + 1) (role_at k.roles gift.region) ≡ true

abbrev ChoiceStands : Holdings → ChoiceStage → (ℕ → ℕ) → List ℕ → Type 0
ChoiceStands k (LoadingLive s place) homes given = (given ≡ []) × AreLoading k s place
ChoiceStands k (LoadingTop s place words) homes given = (given ≡ []) × AreLoading k s place
ChoiceStands k (LoadingHome i) homes given = (given ≡ take i k.chosen) × (i < length k.chosen)
    × AreChosen k.shape k.chosen
ChoiceStands k (StoringLeaving i gift) homes given = (given ≡ take i k.chosen) × (i < length k.chosen)
    × AreChosen k.shape k.chosen × GiftStands k (chosen_tablet k i) gift homes
ChoiceStands k (StoringHome i gift) homes given = (given ≡ take i k.chosen) × (i < length k.chosen)
    × AreChosen k.shape k.chosen × GiftStands k (chosen_tablet k i) gift homes
ChoiceStands k (StoringTop i) homes given = (given ≡ take (i + 1) k.chosen) × (i < length k.chosen)
    × AreChosen k.shape k.chosen
ChoiceStands k StoringEvac homes given = given ≡ k.chosen
ChoiceStands k (Reopening m) homes given = Unit {0}

abbrev StageStands : Holdings → CollectStage → (ℕ → ℕ) → List ℕ → Type 0
StageStands k (Idle stage) homes given = given ≡ []
StageStands k (Pausing stage) homes given = given ≡ []
StageStands k (Forwarding stage) homes given = given ≡ []
StageStands k (Barriers stage) homes given = given ≡ []
StageStands k (Emptying s) homes given = given ≡ []
StageStands k Polling homes given = given ≡ []
StageStands k (Choosing stage) homes given = ChoiceStands k stage homes given
StageStands k (Noticing stage) homes given = Unit {0}
StageStands k Ended homes given = Unit {0}

record Giving (n : Numbers) (c : Machine) (homes : ℕ → ℕ) (given : List ℕ) : Type 0 where
  base : BaseStands n c.kept.shape c.kept.roles c.kept.cycle homes given
  stage : StageStands c.kept c.stage homes given

abbrev Base : Numbers → Holdings → (ℕ → ℕ) → List ℕ → Type 0
Base n k homes given = BaseStands n k.shape k.roles k.cycle homes given

-- ---- before the choice
module _ (n : Numbers) (homes : ℕ → ℕ) (given : List ℕ) where
  forward_gives : (k : Holdings) (pending : List Name) → Base n k homes given → given ≡ []
      → Giving n (forward_from k pending) homes given
  forward_gives k [] h none = record { base = h; stage = none }
  forward_gives k (x ∷ pending) h none = record { base = h; stage = none }

  empty_gives : (k : Holdings) (o : Option ℕ) → Base n k homes given → given ≡ []
      → Giving n (empty_from k o) homes given
  empty_gives k (Some s) h none = record { base = h; stage = none }
  empty_gives k None h none = record { base = h; stage = none }

  barriers_give : (k : Holdings) (m : ℕ) → Base n k homes given → given ≡ [] → Giving n (barriers_from k m) homes given
  barriers_give k m h none =
      when_eq (λ c. Giving n c homes given) _ _ m k.shape.mutators
      (λ e. empty_gives k (position is_open k.windows) h none) (λ e. record { base = h; stage = none })

  told_gives : (k : Holdings) → Base n k homes given → given ≡ [] → Giving n (told k) homes given
  told_gives k h none =
      let each = h.is_shape.in_range.each in
      when_test (λ c. Giving n c homes given) _ _ k.gates_shut
      (λ e. record {
        base = h;
        stage = (
          none,
          record {
            server = omega (arith, each);
            place = omega (arith, each);
            used = refl;
            chosen = record { below = All-nil (λ t. t < k.shape.servers * k.shape.tablets); few = λ s. omega arith };
            later = λ other l. refl;
          },
        );
      })
      (λ e. record { base = h; stage = none })

  polled_gives : (k : Holdings) (s : PollStage) → Base n k homes given → given ≡ []
      → Giving n (polled_at k s) homes given
  polled_gives k (Asking s) h none = record { base = h; stage = none }
  polled_gives k (Reading s) h none = record { base = h; stage = none }
  polled_gives k (Polled (NotYet s w)) h none = record { base = h; stage = none }
  polled_gives k (Polled Told) h none = told_gives k h none

  paused_gives : (k : Holdings) (pause : Pause) → Base n k homes given → given ≡ []
      → Giving n (paused k pause) homes given
  paused_gives k Snapshot h none = record { base = h; stage = none }
  paused_gives k Choice h none = record { base = h; stage = none }

  idle_gives : (k : Holdings) (s : IdleStage) (w : ℕ) → Base n k homes given → given ≡ []
      → Giving n (idle_fed k s w) homes given
  idle_gives k LoadingDemand w h none =
      when_lt (λ c. Giving n c homes given) _ _ k.cycle w (λ e. record { base = h; stage = none })
      (λ e. record { base = h; stage = none })
  idle_gives k LookingFinished w h none =
      when_eq (λ c. Giving n c homes given) _ _ w k.shape.mutators (λ e. record { base = h; stage = none })
      (λ e. record { base = h; stage = none })
  idle_gives k StoringStop w h none = record { base = h; stage = tt }

  pause_gives : (k : Holdings) (s : PauseStage) (w : ℕ) → Base n k homes given → given ≡ []
      → Giving n (pause_fed k s w) homes given
  pause_gives k (Shutting pause m) w h none =
      when_eq (λ c. Giving n c homes given) _ _ (m + 1) k.shape.mutators (λ e. record { base = h; stage = none })
      (λ e. record { base = h; stage = none })
  pause_gives k (Draining pause m) w h none =
      when_lt (λ c. Giving n c homes given) _ _ 0 (count_of w) (λ e. record { base = h; stage = none })
      (λ e. when_eq (λ c. Giving n c homes given) _ _ (m + 1) k.shape.mutators (λ f. paused_gives k pause h none)
      (λ f. record { base = h; stage = none }))
  pause_gives k (LoadingRoot m q) w h none = record { base = h; stage = none }
  pause_gives k StoringTrace w h none = record { base = h; stage = none }
  pause_gives k (Opening m) w h none =
      when_eq (λ c. Giving n c homes given) _ _ (m + 1) k.shape.mutators (λ e. forward_gives k k.pending h none)
      (λ e. record { base = h; stage = none })

  round_gives : (k : Holdings) (s : ForwardStage) (w : ℕ) → Base n k homes given → given ≡ []
      → Giving n (forward_fed k s w) homes given
  round_gives k (Looking x) w h none =
      when_eq (λ c. Giving n c homes given) _ _ w 0 (λ e. record { base = h; stage = none }) (λ e. record {
        base = h;
        stage = none;
      })
  round_gives k (Storing x) w h none =
      forward_gives (set_window k (owner k.shape x) (head_up (window_of k (owner k.shape x)))) k.pending h none

  barrier_gives : (k : Holdings) (s : BarrierStage) (w : ℕ) → Base n k homes given → given ≡ []
      → Giving n (barrier_fed k s w) homes given
  barrier_gives k (Loading m) w h none =
      when_eq (λ c. Giving n c homes given) _ _ w 0 (λ e. barriers_give k (m + 1) h none) (λ e. record {
        base = h;
        stage = none;
      })
  barrier_gives k (Clearing m x) w h none = record { base = h; stage = none }

  emptied_gives : (k : Holdings) (s w : ℕ) → Base n k homes given → given ≡ [] → Giving n (empty_fed k s w) homes given
  emptied_gives k s w h none =
      when_eq (λ c. Giving n c homes given) _ _ w 0
      (λ e. (let up = set_window k s (tail_up k.shape.ring (window_of k s)) in
      empty_gives up (position is_open up.windows) h none)) (λ e. record { base = h; stage = none })

-- ---- the tablets that are chosen
server_here : (n : Numbers) (s other place : ℕ) → place < n.tablets → s ≡ other
    → of_server n other (s * n.tablets + place) ≡ 1
server_here n s other place l e =
    ap one (eq-eqb ((s * n.tablets + place) / n.tablets) other (div-mul-add s n.tablets place l ∙ e))

server_other : (n : Numbers) (s other place : ℕ) → place < n.tablets → s ≢ other
    → of_server n other (s * n.tablets + place) ≡ 0
server_other n s other place l ne =
    ap one (ne_eqb ((s * n.tablets + place) / n.tablets) other (λ e. ne (sym (div-mul-add s n.tablets place l) ∙ e)))

sum_here : (n : Numbers) (s other : ℕ) (places : List ℕ) → All (λ place. place < n.tablets) places → s ≡ other
    → sum_by (of_server n other) (map (λ place. s * n.tablets + place) places) ≡ length places
sum_here n s other [] all e = refl
sum_here n s other (p ∷ places) all e =
    let first = server_here n s other p (All-head (λ place. place < n.tablets) p places all) e in
    let rest = sum_here n s other places (All-tail (λ place. place < n.tablets) p places all) e in
    let both = sum_by-cons (of_server n other) (s * n.tablets + p) (map (λ place. s * n.tablets + place) places) in
    omega (arith, first, rest, both)

sum_other : (n : Numbers) (s other : ℕ) (places : List ℕ) → All (λ place. place < n.tablets) places → s ≢ other
    → sum_by (of_server n other) (map (λ place. s * n.tablets + place) places) ≡ 0
sum_other n s other [] all ne = refl
sum_other n s other (p ∷ places) all ne =
    let first = server_other n s other p (All-head (λ place. place < n.tablets) p places all) ne in
    let rest = sum_other n s other places (All-tail (λ place. place < n.tablets) p places all) ne in
    let both = sum_by-cons (of_server n other) (s * n.tablets + p) (map (λ place. s * n.tablets + place) places) in
    omega (arith, first, rest, both)

-- the choice of one server more
module _ (k : Holdings) (s : ℕ) (below : s < k.shape.servers) (full : length k.used ≡ k.shape.tablets)
    (chosen : AreChosen k.shape k.chosen)
    (later : (other : ℕ) → s ≤ other → sum_by (of_server k.shape other) k.chosen ≡ 0) where
  places : All (λ place. place < k.shape.tablets) (choice k.used k.shape.spare)
  places j d l = let one_place = choice_below k.used k.shape.spare j d l in omega (arith, one_place, full)

  chosen_more : AreChosen k.shape (server_chosen k s).chosen
  chosen_more = record {
    below = All-append (λ t. t < k.shape.servers * k.shape.tablets) k.chosen
        (map (λ place. s * k.shape.tablets + place) (choice k.used k.shape.spare)) chosen.below
        (All-map (λ t. t < k.shape.servers * k.shape.tablets) (λ (place : ℕ). s * k.shape.tablets + place)
        (choice k.used k.shape.spare)
        (tablets_below s k.shape.servers k.shape.tablets (choice k.used k.shape.spare) below places));
    few = λ other. (let both =
        sum_by-append (of_server k.shape other) k.chosen
        (map (λ place. s * k.shape.tablets + place) (choice k.used k.shape.spare)) in
        ⊎_elim
        (λ (e : s ≡ other). let mine = sum_here k.shape s other (choice k.used k.shape.spare) places e in
        let before = later other (omega (arith, e)) in
        let most = choice_few k.used k.shape.spare in
        omega (arith, both, mine, before, most))
        (λ ne. let none = sum_other k.shape s other (choice k.used k.shape.spare) places ne in
        let before = chosen.few other in
        omega (arith, both, none, before))
        (cases_eq s other));
  }

  later_more : (other : ℕ) → s + 1 ≤ other → sum_by (of_server k.shape other) (server_chosen k s).chosen ≡ 0
  later_more other l =
      let both = sum_by-append (of_server k.shape other) k.chosen
      (map (λ place. s * k.shape.tablets + place) (choice k.used k.shape.spare)) in
      let none = sum_other k.shape s other (choice k.used k.shape.spare) places (λ e. omega (arith, e, l)) in
      let before = later other (omega (arith, l)) in
      omega (arith, both, none, before)

-- the chosen tablets from one on
gifts_give : (n : Numbers) (k : Holdings) (i : ℕ) (homes : ℕ → ℕ) (given : List ℕ) → Base n k homes given
    → AreChosen k.shape k.chosen → given ≡ take i k.chosen →
    Giving n (gifts_from k i) homes given
gifts_give n k i homes given h chosen are =
    when_lt (λ c. Giving n c homes given) _ _ i (length k.chosen) (λ l. record { base = h; stage = (are, l, chosen) })
    (λ l. record { base = h; stage = are ∙ take_all i k.chosen l })

loaded_gives : (n : Numbers) (k : Holdings) (s p : ℕ) (homes : ℕ → ℕ) (given : List ℕ) → Base n k homes given
    → given ≡ [] → s < k.shape.servers → p < k.shape.tablets → length k.used ≡ p + 1 →
    AreChosen k.shape k.chosen → ((other : ℕ) → s ≤ other → sum_by (of_server k.shape other) k.chosen ≡ 0)
    → Giving n (after_tablet k s p) homes given
loaded_gives n k s p homes given h none server place used chosen later =
    let each = h.is_shape.in_range.each in
    when_eq (λ c. Giving n c homes given) _ _ (p + 1) k.shape.tablets
    (λ e. (let full : length k.used ≡ k.shape.tablets = used ∙ e in
    let more = chosen_more k s server full chosen later in
    when_eq (λ c. Giving n c homes given) _ _ (s + 1) k.shape.servers
    (λ f. gifts_give n (server_chosen k s) 0 homes given h more none)
    (λ f. record {
      base = h;
      stage = (
        none,
        record {
          server = omega (arith, server, f);
          place = omega (arith, each);
          used = refl;
          chosen = more;
          later = later_more k s server full chosen later;
        },
      );
    })))
    (λ e. record {
      base = h;
      stage = (
        none,
        record {
          server = server;
          place = omega (arith, place, e);
          used = used;
          chosen = chosen;
          later = later;
        },
      );
    })

-- ---- the gifts
-- a chosen tablet's server has a region to give
spare_here : (n : Numbers) (k : Holdings) (i : ℕ) (homes : ℕ → ℕ) (given : List ℕ) → Base n k homes given
    → given ≡ take i k.chosen → i < length k.chosen → AreChosen k.shape k.chosen →
    SpareFound k.roles (k.cycle + 1) (server_of_tablet k.shape (chosen_tablet k i) * (k.shape.tablets + k.shape.spare))
    (k.shape.tablets + k.shape.spare)
spare_here n k i homes given h are l chosen =
    let t = chosen_tablet k i in
    let s = server_of_tablet k.shape t in
    let below : t < k.shape.servers * k.shape.tablets = chosen.below i 0 l in
    let mine : of_server k.shape s t ≡ 1 = ap one (eq-eqb (server_of_tablet k.shape t) s refl) in
    let more = sum_by_more (of_server k.shape s) k.chosen i 0 l in
    let most = sum_by-take-le (of_server k.shape s) k.chosen (i + 1) in
    let few = chosen.few s in
    let so_far : sum_by (of_server k.shape s) given ≡ sum_by (of_server k.shape s) (take i k.chosen) =
    ap (sum_by (of_server k.shape s)) are in
    spare_left k.shape (k.cycle + 1) k.roles given s (belongings_in_range.tablet k.shape t below) h.roles_stand
    (omega (arith, mine, more, most, few, so_far))

choice_gives : (n : Numbers) (k : Holdings) (s : ChoiceStage) (w : ℕ) (homes : ℕ → ℕ) (given : List ℕ)
    → Base n k homes given → ChoiceStands k s homes given → ChoiceFinds k s homes w →
    Giving n (choice_fed k s w) (choice_homes k s homes) (choice_given k s given)
choice_gives n k (LoadingLive s place) w homes given h stands finds = record { base = h; stage = (stands.0, stands.1) }
choice_gives n k (LoadingTop s place words) w homes given h stands finds =
    let loading = stands.1 in
    let used = loading.used in
    let more = length_push k.used (record { top = w; live = words }) in
    loaded_gives n (record k { used = k.used ++ record { top = w; live = words } ∷ [] }) s place homes given h stands.0
    loading.server loading.place (omega (arith, used, more)) loading.chosen loading.later
choice_gives n k (LoadingHome i) w homes given h stands finds =
    let found = spare_here n k i homes given h stands.0 stands.1 stands.2 in
    let t = chosen_tablet k i in
    let free = found_free k.shape (k.cycle + 1) k.roles homes t (server_of_tablet k.shape t) found refl h.homes_stand in
    subst (λ (o : Option ℕ). Giving n (gift_of k i w o) homes given) (sym found.is)
    (record {
      base = h;
      stage =
          (stands.0, stands.1, stands.2, record { former = finds; server = free.server; spare = found.spare });
    })
choice_gives n k (StoringLeaving i gift) w homes given h stands finds = record { base = h; stage = stands }
choice_gives n k (StoringHome i gift) w homes given h stands finds =
    let t = chosen_tablet k i in
    let gives = stands.3 in
    let chosen = stands.2 in
    let below : t < k.shape.servers * k.shape.tablets = chosen.below i 0 stands.1 in
    let former_is : server_of_region k.shape gift.former ≡ server_of_tablet k.shape t =
    ap (server_of_region k.shape) gives.former ∙ h.homes_stand.are.server t below in
    let home : role_at k.roles gift.former ≡ Home = ap (role_at k.roles) gives.former ∙ h.homes_stand.role t below in
    let server = belongings_in_range.tablet k.shape t below in
    record {
      base = record {
        same = h.same;
        is_shape = h.is_shape;
        homes_stand = homes_given k.shape (k.cycle + 1) k.roles gift.region gift.former t
            (server_of_tablet k.shape t) h.is_shape server gives.server former_is refl gives.spare home
            h.roles_stand.size homes gives.former
            below h.homes_stand;
        roles_stand = roles_given k.shape (k.cycle + 1) k.roles gift.region gift.former t
            (server_of_tablet k.shape t) h.is_shape server gives.server former_is refl gives.spare home
            h.roles_stand.size given h.roles_stand;
      };
      stage = (ap (λ (q : List ℕ). q ++ t ∷ []) stands.0 ∙ sym (take_more k.chosen i 0 stands.1), stands.1, chosen);
    }
choice_gives n k (StoringTop i) w homes given h stands finds = gifts_give n k (i + 1) homes given h stands.2 stands.0
choice_gives n k StoringEvac w homes given h stands finds = record { base = h; stage = tt }
choice_gives n k (Reopening m) w homes given h stands finds =
    when_eq (λ c. Giving n c homes given) _ _ (m + 1) k.shape.mutators (λ e. record { base = h; stage = tt })
    (λ e. record { base = h; stage = tt })

noticed_gives : (n : Numbers) (k : Holdings) (s : ℕ) (tells : NoticeWord) (homes : ℕ → ℕ) (given : List ℕ)
    → Base n k homes given → Giving n (noticed k s tells) homes given
noticed_gives n k s (Freed x) homes given h = record { base = h; stage = tt }
noticed_gives n k s Done homes given h =
    when_eq (λ c. Giving n c homes given) _ _ (s + 1) k.shape.servers (λ e. record { base = h; stage = tt })
    (λ e. record { base = h; stage = tt })

notice_gives : (n : Numbers) (k : Holdings) (s : NoticeStage) (w : ℕ) (homes : ℕ → ℕ) (given : List ℕ)
    → Base n k homes given → Giving n (notice_fed k s w) homes (notice_given s given)
notice_gives n k (NoticeLook s) w homes given h =
    when_eq (λ c. Giving n c homes given) _ _ w 0 (λ e. record { base = h; stage = tt }) (λ e. record {
      base = h;
      stage = tt;
    })
notice_gives n k (NoticeClear s tells) w homes given h =
    noticed_gives n (record k {
      notice_at =
          set k.notice_at s (after_place k.shape.ring (get_or k.notice_at s 0));
    }) s tells homes given h
notice_gives n k StoringIdle w homes given h = record {
  base = record {
    same = h.same;
    is_shape = h.is_shape;
    homes_stand = h.homes_stand;
    roles_stand = roles_next k.shape (k.cycle + 1) k.roles given h.roles_stand;
  };
  stage = refl;
}

-- ---- every step
stage_gives : (n : Numbers) (k : Holdings) (s : CollectStage) (w : ℕ) (homes : ℕ → ℕ) (given : List ℕ)
    → Base n k homes given → StageStands k s homes given → FindsHome k s homes w →
    Giving n (stage_fed k s w) (homes_after k s homes) (given_after k s given)
stage_gives n k (Idle s) w homes given h stands finds = idle_gives n homes given k s w h stands
stage_gives n k (Pausing s) w homes given h stands finds = pause_gives n homes given k s w h stands
stage_gives n k (Forwarding s) w homes given h stands finds = round_gives n homes given k s w h stands
stage_gives n k (Barriers s) w homes given h stands finds = barrier_gives n homes given k s w h stands
stage_gives n k (Emptying s) w homes given h stands finds = emptied_gives n homes given k s w h stands
stage_gives n k Polling w homes given h stands finds =
    polled_gives n homes given (record k { poll = polls.fed k.poll w }) (polls.fed k.poll w).stage h stands
stage_gives n k (Choosing s) w homes given h stands finds = choice_gives n k s w homes given h stands finds
stage_gives n k (Noticing s) w homes given h stands finds = notice_gives n k s w homes given h
stage_gives n k Ended w homes given h stands finds = record { base = h; stage = tt }

-- ---- what is told of it
gift_free : (n : Numbers) (k : Holdings) (t : ℕ) (gift : Gift) (homes : ℕ → ℕ) (given : List ℕ) → Base n k homes given
    → GiftStands k t gift homes → IsFreeFor k.shape homes t gift.region
gift_free n k t gift homes given h gives = record {
  server = gives.server;
  free = λ u l e. spare_is_no_home (k.cycle + 1) (role_at k.roles gift.region) gives.spare
      (subst (λ (x : ℕ). role_at k.roles x ≡ Home) e (h.homes_stand.role u l));
}

choice_told : (n : Numbers) (k : Holdings) (s : ChoiceStage) (homes : ℕ → ℕ) (given : List ℕ) → Base n k homes given
    → ChoiceStands k s homes given → ChoiceGives k s homes given
choice_told n k (LoadingLive s place) homes given h stands = tt
choice_told n k (LoadingTop s place words) homes given h stands = tt
choice_told n k (LoadingHome i) homes given h stands =
    let found = spare_here n k i homes given h stands.0 stands.1 stands.2 in
    let t = chosen_tablet k i in (
      stands.0,
      (
        found.region,
        (
          found.is,
          found_free k.shape (k.cycle + 1) k.roles homes t
              (server_of_tablet k.shape t) found refl h.homes_stand,
        ),
      ),
    )
choice_told n k (StoringLeaving i gift) homes given h stands = let gives = stands.3 in
    (stands.0, gives.former, gift_free n k (chosen_tablet k i) gift homes given h gives)
choice_told n k (StoringHome i gift) homes given h stands = let gives = stands.3 in
    (stands.0, gives.former, gift_free n k (chosen_tablet k i) gift homes given h gives)
choice_told n k (StoringTop i) homes given h stands = stands.0
choice_told n k StoringEvac homes given h stands = stands
choice_told n k (Reopening m) homes given h stands = tt

stage_told : (n : Numbers) (k : Holdings) (s : CollectStage) (homes : ℕ → ℕ) (given : List ℕ) → Base n k homes given
    → StageStands k s homes given → StageGives k s homes given
stage_told n k (Choosing s) homes given h stands = choice_told n k s homes given h stands
stage_told n k _ homes given h stands = tt

pub collectors_give : CollectorsGive
collectors_give s trail v shape goes =
    let P : Housed → List Observation → Type 0 = λ q before. Giving s.numbers q.collector q.homes q.given in
    let end : P v trail =
    along housed_next HousedFits housed_fed P
    (λ q before act w next fits h. stage_gives s.numbers q.collector.kept q.collector.stage w q.homes q.given h.base
    h.stage fits.1)
    (housed_opening s) v trail
    (record {
      base = record {
        same = refl;
        is_shape = shape;
        homes_stand = homes_open s.numbers shape;
        roles_stand = roles_open s.numbers;
      };
      stage = refl;
    }) goes in
    let k = v.collector.kept in (
      subst (λ (q : Numbers). AreHomes q v.homes) end.base.same end.base.homes_stand.are,
      stage_told s.numbers k v.collector.stage v.homes v.given end.base end.stage,
    )
