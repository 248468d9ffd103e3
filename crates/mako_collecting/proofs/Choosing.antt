-- The collector chooses tablets, and gives each a region.
use Rattle.std.proofs.Common.{◌≡◌, ◌≢◌, ℕ, suc, ◌+◌, ◌<◌, ◌≤◌, ◌==◌, nat_lt, Bool, true, false, cond, Some, List, []}
use Rattle.std.proofs.Common.{◌∷◌, ◌++◌, ◌*◌, length, set, get_or, slice_index, sym, ap, subst, refl, ◌∙◌, arith}
use Rattle.std.proofs.lemmas.List.Sums.{sum_by-cons}
use Rattle.std.proofs.lemmas.Bool.Decides.{nat_tests}
use Rattle.mako_shape.specs.declared.numbers.Numbers.{Numbers}
use Rattle.mako_shape.specs.Places.{Place, phase, home, top, leaving, live, index, Within, word_at}
use Rattle.mako_gate.specs.Sums.{counted}
use Rattle.mako_model.specs.Legal.{Facts}
use Rattle.mako_names.specs.Uses.{IsNamePlace}
use Rattle.mako_ring.specs.Facets.{IsPolled}
use Rattle.mako_shades.specs.Holding.{IsTracePlace}
use Rattle.mako_gate.specs.Changes.{Sets}
use Rattle.mako_layout.specs.Facets.{Gift, Choice, chooses, settled, owes_home, owes_top, gift_of as gift_in, given_of}
use Rattle.mako_layout.specs.Facets.{spare_of, times_in}
use Rattle.mako_layout.specs.StepParts.{collector_seat}
use Rattle.mako_layout.specs.Steps.{Step, store_leaving, store_home, zero_top}
use Rattle.mako_layout.proofs.EachStep.{each_step_keeps}
use Rattle.mako_phases.specs.Facets as phases
use Rattle.mako_phases.specs.Facets.{Part}
use Rattle.mako_phases.specs.Steps as phase_steps
use Rattle.mako_phases.specs.Steps.{PhaseOrderIn, IsPhaseWord}
use Rattle.mako_phases.proofs.AllPhases.{phase_kept}
use Rattle.mako_joint.specs.Joints.{JointScene, layout_in, phases_in, ChoiceFits, Joint}
use Rattle.mako_joint.proofs.Pauses.{gates_drain, parts_pause, by_part}
use Rattle.mako_pause.specs.Collecting.{Holdings, Collecting, running, chosen_tablet, live_words, after_tablet}
use Rattle.mako_pause.specs.Collecting.{servers_from, server_chosen, gifts_from, gift_of, spare_for}
use Rattle.mako_pause.specs.declared.stage.Gift.{Gift as Exchange}
use Rattle.mako_pause.specs.declared.stage.ChoiceStage.{ChoiceStage}
use Rattle.mako_pause.specs.declared.stage.ChoiceStage.TheVariants.{LoadingLive, LoadingTop, LoadingHome}
use Rattle.mako_pause.specs.declared.stage.ChoiceStage.TheVariants.{StoringLeaving, StoringHome, StoringTop}
use Rattle.mako_pause.specs.declared.stage.ChoiceStage.TheVariants.{StoringEvac}
use Rattle.mako_pause.specs.declared.stage.CollectStage.TheVariants.{Choosing}
use Rattle.mako_collecting.specs.Choosing.{choice_at, choice_next, without, MayGive}
use Rattle.mako_collecting.specs.Facets.{names_of, part_of, chosen_below, watch_of, all_drained, ring_facet}
use Rattle.mako_collecting.specs.Facets.{IsCollector}
use Rattle.mako_collecting.specs.Steps.{with_collector, collector_next, chosen}
use Rattle.mako_collecting.proofs.Joined.{joined}
use Rattle.mako_collecting.proofs.Stays.{tracks_as, layout_as, polls_as, order_as, sets, names_else, tracks_else}
use Rattle.mako_collecting.proofs.Stays.{order_else, polls_else}
use Rattle.mako_collecting.proofs.Moves.{stays, loads}
use Rattle.mako_collecting.proofs.Idling.{either_way, not_below}

-- ---- lists

-- one region fewer
pub without_one : (r : ℕ) (xs : List ℕ) → 1 ≤ times_in xs r → (q : ℕ)
    → times_in (without r xs) q + counted (r == q) 1 ≡ times_in xs q
unfolding without
without_one r [] some q = absurd (omega arith)
without_one r (x ∷ xs) some q = by_head (λ rest. without_one r xs rest q) (x == r) refl
  where
    head_is : (x == r) ≡ true → x ≡ r
    head_is e = grind (arith, nat_tests)

    by_head : (1 ≤ times_in xs r → times_in (without r xs) q + counted (r == q) 1 ≡ times_in xs q) → (b : Bool)
        → (x == r) ≡ b
        → times_in (cond b xs (x ∷ without r xs)) q + counted (r == q) 1 ≡ times_in (x ∷ xs) q
    by_head step true e =
        let same : counted (x == q) 1 ≡ counted (r == q) 1 = ap (λ (y : ℕ). counted (y == q) 1) (head_is e) in
        omega (arith, sum_by-cons (λ (y : ℕ). counted (y == q) 1) x xs)
    by_head step false e =
        let none : counted (x == r) 1 ≡ 0 = ap (λ (b : Bool). counted b 1) e in
        let rest : 1 ≤ times_in xs r = omega (arith, sum_by-cons (λ (y : ℕ). counted (y == r) 1) x xs) in
        let l = step rest in
        omega (
          arith,
          sum_by-cons (λ (y : ℕ). counted (y == q) 1) x xs,
          sum_by-cons (λ (y : ℕ). counted (y == q) 1) x (without r xs),
        )

-- one gift more
pub given_one : (t r u : ℕ) (given : List Gift)
    → gift_in (record { tablet = t; region = r } ∷ given) u ≡ gift_in given u + counted (t == u) (r + 1)
given_one t r u given =
    omega (
      arith,
      sum_by-cons (λ (g : Gift). counted (g.tablet == u) (g.region + 1)) (record {
        tablet = t;
        region = r;
      }) given,
    )

below_next : (chosen : List ℕ) (i : ℕ) → chosen_below chosen (i + 1) ≡ slice_index chosen i ∷ chosen_below chosen i
unfolding chosen_below
below_next chosen i = let e : i + 1 ≡ suc i = omega arith in ap (chosen_below chosen) e

below_none : (chosen : List ℕ) → chosen_below chosen 0 ≡ []
unfolding chosen_below
below_none chosen = refl

-- ---- stages that store nothing

-- the facets of a stage of the choice
pub record Chooses (n : Numbers) (k : Holdings) (left : List ℕ) (c : Collecting) : Type 0 where
  pub names : names_of c ≡ k.pending
  pub part : part_of n c ≡ phases.choosing (running k) left
  pub watch : watch_of n c ≡ all_drained n
  pub rings : ring_facet n c ≡ ring_facet n (record { kept = k; stage = Choosing StoringEvac })

gifts_at : (n : Numbers) (k : Holdings) (i : ℕ) → i ≤ length k.chosen
    → Chooses n k (chosen_below k.chosen i) (gifts_from k i)
gifts_at n k i few =
    either_way (Chooses n k (chosen_below k.chosen i)) (nat_lt i (length k.chosen))
    (record { kept = k; stage = Choosing (LoadingHome i) }) (record { kept = k; stage = Choosing StoringEvac })
    (λ e. record { names = refl; part = refl; watch = refl; rings = refl })
    (λ e. record {
      names = refl;
      part = let all : length k.chosen ≡ i = (let b = not_below i (length k.chosen) e in omega arith) in
          ap (λ (x : ℕ). phases.choosing (running k) (chosen_below k.chosen x)) all;
      watch = refl;
      rings = refl;
    })

servers_at : (n : Numbers) (k : Holdings) (r : ℕ) → Chooses n k [] (servers_from k r)
servers_at n k r =
    either_way (Chooses n k []) (r == k.shape.servers) (gifts_from k 0)
    (record { kept = k; stage = Choosing (LoadingLive r 0) })
    (λ e. subst (λ (left : List ℕ). Chooses n k left (gifts_from k 0)) (below_none k.chosen)
    (gifts_at n k 0 (omega arith)))
    (λ e. record { names = refl; part = refl; watch = refl; rings = refl })

tablets_at : (n : Numbers) (k : Holdings) (r place : ℕ) → Chooses n k [] (after_tablet k r place)
tablets_at n k r place =
    either_way (Chooses n k []) (place + 1 == k.shape.tablets) (servers_from (server_chosen k r) (r + 1))
    (record { kept = k; stage = Choosing (LoadingLive r (place + 1)) })
    (λ e. let is = servers_at n (server_chosen k r) (r + 1) in
    record { names = is.names; part = is.part; watch = is.watch; rings = is.rings })
    (λ e. record { names = refl; part = refl; watch = refl; rings = refl })

module _ (w : Facts) (k : Holdings) (s : JointScene) (j : Joint k.shape w s) where
  abbrev n : Numbers
  n = k.shape

  abbrev here : ChoiceStage → Collecting
  here stage = record { kept = k; stage = Choosing stage }

  -- nothing but the machine changes
  looks : (stage : ChoiceStage) (left : List ℕ) (given : List Gift) (spare : List ℕ) (c : Collecting) (i : ℕ)
      → IsCollector n s (here stage) → Chooses n k left (here stage) → Chooses n k left c
      → s.facets.choice ≡ chooses settled given spare
      → Joint n w (with_collector n s (set s.words i (get_or s.words i 0)) (chooses settled given spare) c)
  looks stage left given spare c i at was is begun =
      subst (λ choice. Joint n w (with_collector n s (set s.words i (get_or s.words i 0)) choice c)) begun
      (loads n w s i s.facets.choice c
      (stays n w s j (here stage) at c (is.names ∙ sym was.names) (is.watch ∙ sym was.watch) (is.part ∙ sym was.part)
      (is.rings ∙ sym was.rings)))

  pub live_loaded : (r place : ℕ) (given : List Gift) (spare : List ℕ)
      → s.facets.choice ≡ choice_at k (LoadingLive r place) given spare → IsCollector n s (here (LoadingLive r place))
      → Joint n w (chosen n s k (LoadingLive r place) given spare)
  live_loaded r place given spare begun at =
      let t : ℕ = r * n.tablets + place in
      looks (LoadingLive r place) [] given spare (here (LoadingTop r place (live_words k (word_at n s.words (live t)))))
      (index n (live t)) at (record { names = refl; part = refl; watch = refl; rings = refl })
      (record { names = refl; part = refl; watch = refl; rings = refl }) begun

  pub top_loaded : (r place words : ℕ) (given : List Gift) (spare : List ℕ)
      → s.facets.choice ≡ choice_at k (LoadingTop r place words) given spare
      → IsCollector n s (here (LoadingTop r place words))
      → Joint n w (chosen n s k (LoadingTop r place words) given spare)
  top_loaded r place words given spare begun at =
      let t : ℕ = r * n.tablets + place in
      let next : Collecting = collector_next (here (LoadingTop r place words)) s.words in
      let is = tablets_at n (record k {
        used = k.used ++ record { top = word_at n s.words (top t); live = words } ∷ [];
      }) r place in
      looks (LoadingTop r place words) [] given spare next (index n (top t)) at
      (record { names = refl; part = refl; watch = refl; rings = refl })
      (record { names = is.names; part = is.part; watch = is.watch; rings = is.rings }) begun

  pub home_loaded : (i region : ℕ) (given : List Gift) (spare : List ℕ)
      → s.facets.choice ≡ choice_at k (LoadingHome i) given spare → spare_for k (chosen_tablet k i) ≡ Some region
      → IsCollector n s (here (LoadingHome i)) → Joint n w (chosen n s k (LoadingHome i) given spare)
  home_loaded i region given spare begun found at =
      let former : ℕ = word_at n s.words (home (chosen_tablet k i)) in
      subst (λ o. Joint n w (with_collector n s
      (set s.words (index n (home (chosen_tablet k i))) (get_or s.words (index n (home (chosen_tablet k i))) 0))
      (chooses settled given spare) (gift_of k i former o))) (sym found)
      (looks (LoadingHome i) (chosen_below k.chosen i) given spare
      (here (StoringLeaving i (record { former = former; region = region })))
      (index n (home (chosen_tablet k i))) at (record { names = refl; part = refl; watch = refl; rings = refl })
      (record { names = refl; part = refl; watch = refl; rings = refl }) begun)

  -- ---- stages that store a word of a tablet
  module _ (stage : ChoiceStage) (c : Collecting) (at : IsCollector n s (here stage)) (p : Place) (v : ℕ)
      (within : Within n p) (choice : Choice) where
    abbrev us : List ℕ
    us = set s.words (index n p) v

    pub choice_stored : (IsNamePlace p → ⊥) → (IsTracePlace p → ⊥) → phase ≢ p → (IsPolled p → ⊥)
        → names_of c ≡ k.pending → watch_of n c ≡ watch_of n (here stage)
        → ring_facet n c ≡ ring_facet n (here stage)
        → PhaseOrderIn n (phases_in (with_collector n s us choice c))
        → Step n (layout_in n w s) (collector_seat n)
        (layout_in n w (record s { words = us; facets = record s.facets { choice = choice } }))
        → ChoiceFits (part_of n c) choice → Joint n w (with_collector n s us choice c)
    choice_stored nameless untraced apart unpolled names watch rings order step fits =
        joined n w s us choice (here stage) c j at
        (record {
          names = names_else n w s j p v within nameless;
          tracks = tracks_as n w s (here stage) c at us choice names (tracks_else n w s j p v within untraced apart);
          layout = layout_as n w s (here stage) c at us choice watch
              (each_step_keeps n j.script.shape (layout_in n w s) (collector_seat n)
              (layout_in n w (record s { words = us; facets = record s.facets { choice = choice } })) j.layout step);
          polls = polls_as n w s (here stage) c at us choice rings (polls_else n w s j p v within unpolled);
          order = order;
          choice_fits = fits;
        })

  module _ (i : ℕ) (gift : Exchange) (given : List Gift) (spare : List ℕ)
      (inside : chosen_tablet k i < n.servers * n.tablets) where
    abbrev t : ℕ
    t = chosen_tablet k i

    -- the region that it leaves
    pub leaving_stored : s.facets.choice ≡ chooses settled given spare → MayGive n s t gift given spare
        → IsCollector n s (here (StoringLeaving i gift)) → Joint n w (chosen n s k (StoringLeaving i gift) given spare)
    leaving_stored begun may at =
        let old : Collecting = here (StoringLeaving i gift) in
        let c : Collecting = here (StoringHome i gift) in
        let choice : Choice = choice_next k (StoringLeaving i gift) given spare in
        let former : gift.former + 1 ≡ word_at n s.words (home t) + 1 = ap (λ (x : ℕ). x + 1) may.former in
        choice_stored (StoringLeaving i gift) c at (leaving t) (gift.former + 1) inside choice (λ x. x) (λ x. x)
        (λ e. cc) (λ x. x) refl refl refl
        (phase_kept n (phases_in s)
        (phases_in (with_collector n s (set s.words (index n (leaving t)) (gift.former + 1)) choice c)) j.order
        (gates_drain n w s j)
        (phase_steps.Chooses (collector_seat n) (running k) (chosen_below k.chosen i) k.pending t (gift.former + 1)
        at.phase inside refl))
        (store_leaving (λ q. word_at n (set s.words (index n (leaving t)) (gift.former + 1)) q) t gift.region given
        (record { tablet = t; region = gift.former } ∷ given) spare (without gift.region spare)
        (parts_pause n w s j
        (by_part n w s j phases.IsInPause (collector_seat n) (part_of n old) (names_of old) at.phase
        tt)) begun inside may.region may.server (ap (λ x. gift_in (given_of x) t) begun ∙ may.first)
        (subst (λ (x : ℕ). 1 ≤ x) (sym (ap (λ x. times_in (spare_of x) gift.region) begun)) may.spares)
        (subst (λ (x : ℕ). Sets n (λ q. word_at n s.words q)
        (λ q. word_at n (set s.words (index n (leaving t)) (gift.former + 1)) q) (leaving t) x) former
        (sets n s.words (leaving t) (gift.former + 1) j.names.hold.size inside))
        (λ u. given_one t gift.former u given
        ∙ ap (λ (x : ℕ). gift_in given u + counted (t == u) x) former)
        (without_one gift.region spare may.spares)) tt

    -- its new home
    pub home_stored : s.facets.choice ≡ chooses (owes_home t gift.region) given spare
        → IsCollector n s (here (StoringHome i gift)) → Joint n w (chosen n s k (StoringHome i gift) given spare)
    home_stored owes at =
        let c : Collecting = collector_next (here (StoringHome i gift)) s.words in
        let choice : Choice = choice_next k (StoringHome i gift) given spare in
        choice_stored (StoringHome i gift) c at (home t) gift.region inside choice (λ x. x) (λ x. x) (λ e. cc) (λ x. x)
        refl refl refl
        (order_as n w s (here (StoringHome i gift)) c at (set s.words (index n (home t)) gift.region) choice refl refl
        (order_else n w s j (home t) gift.region inside (λ x. x)))
        (store_home (λ q. word_at n (set s.words (index n (home t)) gift.region) q) t gift.region given spare inside
        owes
        (sets n s.words (home t) gift.region j.names.hold.size inside)) tt

  -- the top of its new home
  pub top_stored : (i : ℕ) (given : List Gift) (spare : List ℕ) → chosen_tablet k i < n.servers * n.tablets
      → i < length k.chosen → s.facets.choice ≡ chooses (owes_top (chosen_tablet k i)) given spare
      → IsCollector n s (here (StoringTop i)) → Joint n w (chosen n s k (StoringTop i) given spare)
  top_stored i given spare inside more owes at =
      let t : ℕ = chosen_tablet k i in
      let old : Collecting = here (StoringTop i) in
      let c : Collecting = gifts_from k (i + 1) in
      let choice : Choice = chooses settled given spare in
      let is = gifts_at n k (i + 1) (omega arith) in
      let part : part_of n c ≡ part_of n old =
      is.part ∙ ap (λ (left : List ℕ). phases.choosing (running k) left) (below_next k.chosen i) in
      choice_stored (StoringTop i) c at (top t) 0 inside choice (λ x. x) (λ x. x) (λ e. cc) (λ x. x) is.names is.watch
      is.rings
      (order_as n w s old c at (set s.words (index n (top t)) 0) choice part is.names
      (order_else n w s j (top t) 0 inside (λ x. x)))
      (zero_top (λ q. word_at n (set s.words (index n (top t)) 0) q) t given spare inside owes
      (sets n s.words (top t) 0 j.names.hold.size inside))
      (subst (λ q. ChoiceFits q choice) (sym is.part) tt)
