-- Live counts are far from their bound: a tablet has few entries, and no object has many fields.
use Rattle.std.proofs.Common.{◌≡◌, ℕ, ◌+◌, ◌*◌, ◌/◌, ◌%◌, ◌<◌, ◌≤◌, ◌^◌, ⊎_elim, List, [], ◌∷◌, Contains, length, map}
use Rattle.std.proofs.Common.{slice_index, get_or, Option, Some, None, sym, ap, subst, refl, ◌∙◌, arith}
use Rattle.std.proofs.lemmas.Bool.{cases_lt}
use Rattle.std.proofs.lemmas.List.{length-map, get_or_past}
use Rattle.std.proofs.lemmas.List.Elements.{Contains-get_or, Contains-append_cases, Contains-append_left}
use Rattle.std.proofs.lemmas.List.Elements.{Contains-append_right, Contains-push, Contains-push_cases}
use Rattle.std.proofs.lemmas.List.Sums.{sum_by-le}
use Rattle.std.proofs.lemmas.Nat.{mod-mul-add}
use Rattle.mako_words.specs.declared.name.Name.{Name}
use Rattle.mako_words.specs.declared.value.Value.{Value}
use Rattle.mako_words.specs.Entries.{entry_at}
use Rattle.mako_shape.specs.declared.numbers.Numbers.{Numbers}
use Rattle.mako_shape.specs.Places.{entry, live, Within, word_at}
use Rattle.mako_shape.specs.Belongings.{tablet_of_entry}
use Rattle.mako_shape.proofs.BelongingLaws.{parts_belong}
use Rattle.mako_shape.proofs.Rows.{row-and-column, mod-below}
use Rattle.mako_model.specs.declared.point.Point.{Point}
use Rattle.mako_model.specs.declared.point.Point.TheVariants.{Snap}
use Rattle.mako_model.specs.Heaps.{Heap, fields_of}
use Rattle.mako_model.specs.Legal.{Facts, state_of, IsLegal}
use Rattle.mako_model.specs.Sizes.{ObjectsAreSmall}
use Rattle.mako_names.specs.Tables.{entry_of}
use Rattle.mako_shades.specs.Serving.{StandOnce}
use Rattle.mako_shades.proofs.Stacks.{range_room}
use Rattle.mako_joint.specs.Joints.{JointScene}
use Rattle.mako_phases.specs.Facets.{serving}
use Rattle.mako_phases.specs.Lives.{LiveFacet, IsSum, counting, sized, record_size, own_count, owed_to, AreOnce}
use Rattle.mako_phases.specs.Lives.{IsCounted, CounterStands}
use Rattle.mako_phases.specs.Marked.{IsMarked}
use Rattle.mako_phases.proofs.Sizes.{sizes_those}
use Rattle.mako_server.specs.declared.stage.ServerStage.{ServerStage}
use Rattle.mako_server.specs.declared.stage.ServerStage.TheVariants.{Tracing}
use Rattle.mako_server.specs.Serving.{Serving, Fits}
use Rattle.mako_tracing.specs.Laws.{found_by, ServerStands}
use Rattle.mako_tracing.specs.ServerFacets.{tracer_laden, tracer_owed, stage_order}
use Rattle.mako_tracing.specs.ServerLives.{LivesStand, LivesGo, TracingCounts, CountsStayLow}
use Rattle.mako_tracing.proofs.CountedTurns.{in_cycle, tracing_goes}
use Rattle.mako_tracing.proofs.Fitting.{found_fits}
use Rattle.mako_tracing.proofs.Lists.{if_same}

-- ---- entries of names

no_member : {A : Type 0} (x : A) → Contains [] x → ⊥
no_member x c = let l : c.0 < 0 = c.1 in omega arith

abbrev entries_of : List Name → List ℕ
entries_of names = map (λ (x : Name). x.entry) names

-- an entry among them is that of a name
of_name : (names : List Name) (e : ℕ) → Contains (entries_of names) e
    → (x : Name) × (Contains names x × (x.entry ≡ e))
of_name [] e c = absurd (no_member e c)
of_name (y ∷ ys) e c =
    ⊎_elim
    (λ first. ⊎_elim (λ none. absurd (no_member e none))
    (λ same. (y, (Contains-append_left (y ∷ []) ys y (Contains-push [] y), same)))
    (Contains-push_cases [] y.entry e first))
    (λ later. let f = of_name ys e later in (f.0, (Contains-append_right (y ∷ []) ys f.0 f.1.0, f.1.1)))
    (Contains-append_cases (y.entry ∷ []) (entries_of ys) e c)

-- where names are told by their entries, the entries of names that stand once stand once
entries_once : (names : List Name) → AreOnce names
    → ((x y : Name) → Contains names x → Contains names y → x.entry ≡ y.entry → x ≡ y)
    → StandOnce (entries_of names)
entries_once [] once told = tt
entries_once (y ∷ ys) once told = (
  (λ c. let f = of_name ys y.entry c in
      once.0 (subst (Contains ys)
      (told f.0 y (Contains-append_right (y ∷ []) ys f.0 f.1.0)
      (Contains-append_left (y ∷ []) ys y (Contains-push [] y)) f.1.1) f.1.0)),
  entries_once ys once.1
      (λ a b ca cb e. told a b (Contains-append_right (y ∷ []) ys a ca) (Contains-append_right (y ∷ []) ys b cb) e),
)

module _ (n : Numbers) (words : List ℕ) (cycle : ℕ) where
  -- of marked names each is told by its entry
  told_by_entry : (x y : Name) → IsMarked n words cycle x → IsMarked n words cycle y → x.entry ≡ y.entry → x ≡ y
  unfolding entry_of
  told_by_entry x y a b e =
      let g : x.generation ≡ y.generation =
      sym a.generation ∙ ap (λ k. (entry_at (word_at n words (entry k))).generation) e ∙ b.generation in
      λ i. record { entry = e i; generation = g i }

-- an entry lies among those of its tablet
in_tablet : (n : Numbers) (e t : ℕ) → e < n.servers * n.tablets * n.entries → tablet_of_entry n e ≡ t
    → (t * n.entries ≤ e) × (e < t * n.entries + n.entries)
in_tablet n e t low is =
    let whole : e / n.entries * n.entries + e % n.entries ≡ e = row-and-column e n.entries in
    let small : e % n.entries < n.entries = mod-below e n.entries (n.servers * n.tablets) low in
    let same : e / n.entries * n.entries ≡ t * n.entries = ap (λ k. k * n.entries) is in
    (omega arith, omega arith)

size_small : (h : Heap) → ObjectsAreSmall h → (x : Name) → record_size h x ≤ 15
size_small h few x = by (fields_of h x) refl
  where
    by : (o : Option (List Value)) → fields_of h x ≡ o → sized o ≤ 15
    by None e = omega arith
    by (Some fields) e = let l = few x fields e in omega arith

-- ---- the counts

module _ (n : Numbers) (w : Facts) (s : JointScene) (facets : List LiveFacet) (before : List Point) (cycle seat : ℕ)
    (v : Serving) (stands : ServerStands n w s seat v) (tracing : v.stage ≡ Tracing)
    (c : LivesStand n w s facets before cycle seat v) (few : ObjectsAreSmall (state_of w s.front.history)) where
  abbrev server : ℕ
  server = v.tracer.server

  same : v.tracer.cycle ≡ cycle
  same = in_cycle n w s stands.joint seat server v.tracer.cycle v.ended cycle (tracer_laden v.tracer)
      (stands.here.phase
      ∙ ap (λ x. Some (serving server (stage_order v.tracer x) v.ended (tracer_laden v.tracer))) tracing) c.traced

  counter : CounterStands n w s.words before cycle server v.tracer.cycle v.tracer.lives (tracer_owed v.tracer.stage)
  counter = c.counts.each seat
      (counting server v.tracer.cycle v.tracer.lives (tracer_owed v.tracer.stage)) c.here

  module _ (place : ℕ) (low : place < n.tablets) where
    abbrev t : ℕ
    t = server * n.tablets + place

    within : Within n (live t)
    within = parts_belong.tablet_in_range n server place stands.keeps.tracer.keeps.in_range low

    sum : IsSum w before (IsCounted n s.words before cycle t)
        (own_count n v.tracer.cycle v.tracer.lives t cycle + owed_to n (tracer_owed v.tracer.stage) t)
    sum = counter.sums t within (parts_belong.tablet n server place low)

    is_counted : (x : Name) → Contains sum.names x → IsCounted n s.words before cycle t x
    is_counted x among = (sum.each x).0 among

    -- the records are small
    small : (x : Name) → Contains sum.names x → record_size (state_of w before) x ≤ 15
    small x among =
        let legal = stands.joint.names.hold.answers.lawful.legal in
        subst (λ k. k ≤ 15)
        (ap (λ points. record_size (state_of w points) x) c.split
        ∙ sizes_those w before (Snap cycle ∷ c.after) (subst (IsLegal w) c.split legal) x (is_counted x among).1)
        (size_small (state_of w s.front.history) few x)

    -- and there are few of them
    count : length sum.names ≤ n.entries
    count =
        let room = range_room (t * n.entries) n.entries (entries_of sum.names)
        (entries_once sum.names sum.once
        (λ x y cx cy e. told_by_entry n s.words cycle x y (is_counted x cx).0 (is_counted y cy).0 e))
        (λ e on. let f = of_name sum.names e on in
        let m = is_counted f.0 f.1.0 in
        subst (λ k. (t * n.entries ≤ k) × (k < t * n.entries + n.entries)) f.1.1
        (in_tablet n f.0.entry t m.0.in_range m.2)) in
        let same_length : length (entries_of sum.names) ≡ length sum.names =
        length-map sum.names (λ (x : Name). x.entry) in
        omega arith

    count_is : own_count n v.tracer.cycle v.tracer.lives t cycle ≡ slice_index v.tracer.lives place
    count_is =
        if_same v.tracer.cycle cycle (slice_index v.tracer.lives (t % n.tablets)) 0 same
        ∙ ap (slice_index v.tracer.lives) (mod-mul-add server n.tablets place low)

    pub low_count : slice_index v.tracer.lives place < 2 ^ 31
    low_count =
        let most = sum_by-le (record_size (state_of w before)) 15 sum.names
        (λ k d l. small (get_or sum.names k d) (Contains-get_or sum.names k d l)) in
        let is = sum.sum_is in
        let few_entries = stands.joint.script.shape.in_range.each.2.2.2.2.2.1 in
        let room = count in
        let own = count_is in
        omega arith

pub counts_low : CountsStayLow
counts_low n w s facets before cycle seat v stands tracing c few place =
    ⊎_elim (λ low. low_count n w s facets before cycle seat v stands tracing c few place low)
    (λ past.
    let places = (counter n w s facets before cycle seat v stands tracing c few).places in
    let none : slice_index v.tracer.lives place ≡ 0 = get_or_past v.tracer.lives place 0 (omega arith) in
    omega arith)
    (cases_lt place n.tablets)

-- ---- so each step of its tracing keeps them

pub tracing_counts : TracingCounts
tracing_counts n w s facets before cycle seat v stands e few c =
    by v.stage e n stands.keeps.tracer.shape_is stands
    (found_fits n w s seat v stands e few
    (λ k traced. counts_low n w s facets before cycle seat v stands e c few)) cycle c
  where
    at : ServerStage → Serving
    at stage = record { tracer = v.tracer; notice_at = v.notice_at; ended = v.ended; stage = stage }

    by_cycle : (stands : ServerStands v.tracer.shape w s seat (at Tracing))
        → Fits (at Tracing) (found_by (at Tracing) s.words) → (cycle : ℕ)
        → LivesStand v.tracer.shape w s facets before cycle seat (at Tracing)
        → LivesGo v.tracer.shape w s facets before cycle seat (at Tracing)
    by_cycle stands fits cycle c =
        let same : v.tracer.cycle ≡ cycle =
        in_cycle v.tracer.shape w s stands.joint seat v.tracer.server v.tracer.cycle v.ended cycle
        (tracer_laden v.tracer) stands.here.phase c.traced in
        subst (λ k. LivesStand v.tracer.shape w s facets before k seat (at Tracing)
        → LivesGo v.tracer.shape w s facets before k seat (at Tracing)) same
        (tracing_goes w s seat v.tracer v.notice_at v.ended facets before stands fits) c

    by : (stage : ServerStage) → stage ≡ Tracing → (m : Numbers) → v.tracer.shape ≡ m
        → ServerStands m w s seat (at stage) → Fits (at stage) (found_by (at stage) s.words) → (cycle : ℕ)
        → LivesStand m w s facets before cycle seat (at stage) → LivesGo m w s facets before cycle seat (at stage)
    by stage is m shape =
        subst (λ k. ServerStands k w s seat (at stage) → Fits (at stage) (found_by (at stage) s.words) → (cycle : ℕ)
        → LivesStand k w s facets before cycle seat (at stage) → LivesGo k w s facets before cycle seat
        (at stage)) shape
        (subst (λ x. ServerStands v.tracer.shape w s seat (at x) → Fits (at x) (found_by (at x) s.words) → (cycle : ℕ)
        → LivesStand v.tracer.shape w s facets before cycle seat (at x)
        → LivesGo v.tracer.shape w s facets before cycle seat (at x)) (sym is) by_cycle)
