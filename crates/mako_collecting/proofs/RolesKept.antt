-- Each step of the choice keeps what roles and chosen tablets are to the layout's choice.
use Rattle.std.proofs.Common.{◌≡◌, ◌≢◌, ℕ, ◌+◌, ◌-◌, ◌*◌, ◌<◌, ◌==◌, nat_lt, inl, inr, Bool, true, false, Option, Some}
use Rattle.std.proofs.Common.{None, List, [], ◌∷◌, ◌++◌, length, position, set, get_or, drop, slice_index_or}
use Rattle.std.proofs.Common.{slice_range, sym, ap, subst, refl, ◌∙◌, arith, eq-eqb, length-take}
use Rattle.std.proofs.lemmas.Bool.{cases_eq, ne_eqb}
use Rattle.std.proofs.lemmas.Bool.Decides.{nat_tests}
use Rattle.std.proofs.lemmas.Grind.{get_or-set_at}
use Rattle.std.proofs.lemmas.List.{get_or-set_other, length-set, get_or-take, get_or-drop}
use Rattle.std.proofs.lemmas.List.Quantifiers.{position-Some}
use Rattle.mako_shape.specs.declared.numbers.Numbers.{Numbers}
use Rattle.mako_shape.specs.Places.{home, top, index, word_at}
use Rattle.mako_shape.specs.Belongings.{server_of_region, server_of_tablet}
use Rattle.mako_shape.proofs.BelongingLaws.{parts_belong}
use Rattle.mako_gate.specs.Sums.{counted}
use Rattle.mako_model.specs.Legal.{Facts}
use Rattle.mako_layout.specs.Facets.{Gift, gift_of as gift_in, given_of, spare_of, times_in}
use Rattle.mako_layout.specs.Layouts.{regions_of}
use Rattle.mako_layout.specs.Evacuations.{layout}
use Rattle.mako_layout.proofs.Roles.{given_not_spare}
use Rattle.mako_phases.specs.Lives.{AreOnce}
use Rattle.mako_joint.specs.Joints.{JointScene, layout_in}
use Rattle.mako_pause.specs.Collecting.{Holdings, Collecting, running, chosen_tablet, gifts_from, gift_of, spare_for}
use Rattle.mako_pause.specs.Collecting.{server_chosen, servers_from, after_tablet, at}
use Rattle.mako_pause.specs.Regions.{is_spare, spare_between, behind}
use Rattle.mako_pause.specs.declared.regions.Role.{Role}
use Rattle.mako_pause.specs.declared.regions.Role.TheVariants.{Home, Spare}
use Rattle.mako_pause.specs.declared.stage.Gift.{Gift as Exchange}
use Rattle.mako_pause.specs.declared.stage.ChoiceStage.{ChoiceStage}
use Rattle.mako_pause.specs.declared.stage.ChoiceStage.TheVariants.{LoadingLive, LoadingTop, LoadingHome}
use Rattle.mako_pause.specs.declared.stage.ChoiceStage.TheVariants.{StoringLeaving, StoringHome, StoringTop}
use Rattle.mako_pause.specs.declared.stage.ChoiceStage.TheVariants.{StoringEvac, Opening as Reopening}
use Rattle.mako_pause.specs.declared.stage.NoticeStage.TheVariants.{Looking as NoticeLook}
use Rattle.mako_pause.specs.declared.stage.CollectStage.TheVariants.{Choosing, Noticing}
use Rattle.mako_collecting.specs.Choosing.{choice_next, given_next, spare_next}
use Rattle.mako_collecting.specs.Findings.{StageFound}
use Rattle.mako_collecting.specs.Laws.{Stands}
use Rattle.mako_collecting.specs.Roles.{IsDone, ChoiceOf, HasSpare, ChoicesAreKept}
use Rattle.mako_collecting.specs.Steps.{words_next, collector_next}
use Rattle.mako_collecting.proofs.Choosing.{without_one, given_one}
use Rattle.mako_collecting.proofs.Idling.{either_way}
use Rattle.mako_collecting.proofs.Roles.{none_given, may_give}
use Rattle.mako_collecting.proofs.Stays.{load_leaves}

-- ---- the region that is found

-- it is one of those that were looked at, and its role is spare
pub record IsSpareOf (roles : List Role) (cycle first count region : ℕ) : Type 0 where
  pub place : ℕ
  pub low : place < count
  pub is : first + place ≡ region
  pub spare : is_spare cycle (slice_index_or roles region Home) ≡ true

spare_is : (roles : List Role) (cycle first count region : ℕ) → spare_between roles cycle first count ≡ Some region
    → IsSpareOf roles cycle first count region
spare_is roles cycle first count region found = go (position (is_spare cycle) xs) refl found
  where
    xs : List Role
    xs = slice_range roles first (first + count)

    go : (o : Option ℕ) → position (is_spare cycle) (slice_range roles first (first + count)) ≡ o
        → behind first o ≡ Some region → IsSpareOf roles cycle first count region
    go None e same = absurd cc
    go (Some place) e same =
        let spot = position-Some (is_spare cycle) (slice_range roles first (first + count)) place Home e in
        let most = length-take (first + count - first) (drop first roles) in
        let inside = spot.0 in
        let low : place < count = omega (arith, inside, most) in
        let here : first + place ≡ region = cc in
        let there : get_or (slice_range roles first (first + count)) place Home ≡ get_or roles (first + place) Home =
        get_or-take (first + count - first) (drop first roles) place Home (omega (arith, low))
        ∙ get_or-drop first roles place Home in
        record {
          place = place;
          low = low;
          is = here;
          spare = ap (λ (r : ℕ). is_spare cycle (get_or roles r Home)) (sym here) ∙ ap (is_spare cycle) (sym there)
              ∙ spot.1;
        }

-- ---- the roles after a gift

next_not_spare : (cycle : ℕ) → is_spare cycle (Spare (cycle + 1)) ≡ false
next_not_spare cycle = grind (arith, nat_tests)

module _ (roles : List Role) (cycle region former : ℕ) (spare : List ℕ) (low : region < length roles)
    (inside : former < length roles)
    (before : (r : ℕ) → r < length roles
    → times_in spare r + counted (region == r) 1 ≡ counted (is_spare cycle (get_or roles r Home)) 1)
    (given : times_in spare former ≡ 0) where
  abbrev roles_next : List Role
  roles_next = set (set roles region Home) former (Spare (cycle + 1))

  former_role : get_or roles_next former Home ≡ Spare (cycle + 1)
  former_role =
      let size = length-set roles region Home in
      get_or-set_at (set roles region Home) former former (Spare (cycle + 1)) Home refl (omega (arith, size, inside))

  one_is : counted (region == region) 1 ≡ 1
  one_is = ap (λ (b : Bool). counted b 1) (eq-eqb region region refl)

  region_none : times_in spare region ≡ 0
  region_none =
      on (is_spare cycle (get_or roles region Home)) (before region low)
    where
      on : (b : Bool) → times_in spare region + counted (region == region) 1 ≡ counted b 1 → times_in spare region ≡ 0
      on true e = let o = one_is in omega arith
      on false e = let o = one_is in absurd (omega arith)

  pub spares_next : (r : ℕ) → r < length roles
      → times_in spare r + 0 ≡ counted (is_spare cycle (get_or roles_next r Home)) 1
  spares_next r few = elim (cases_eq r former) [
    | inl e ↦
        subst (λ (x : ℕ). times_in spare x + 0 ≡ counted (is_spare cycle (get_or roles_next x Home)) 1) (sym e)
        (let none : counted (is_spare cycle (get_or roles_next former Home)) 1 ≡ 0 =
        ap (λ (x : Role). counted (is_spare cycle x) 1) former_role
        ∙ ap (λ (b : Bool). counted b 1) (next_not_spare cycle) in omega arith)
    | inr d ↦
        (let other : get_or roles_next r Home ≡ get_or (set roles region Home) r Home =
        get_or-set_other (set roles region Home) former r (Spare (cycle + 1)) Home d in
        elim (cases_eq r region) [
          | inl e ↦
              subst (λ (x : ℕ). times_in spare x + 0 ≡ counted (is_spare cycle (get_or roles_next x Home)) 1) (sym e)
              (let here : get_or roles_next region Home ≡ Home =
              ap (λ (x : ℕ). get_or roles_next x Home) (sym e) ∙ other
              ∙ ap (λ (x : ℕ). get_or (set roles region Home) x Home) e
              ∙ get_or-set_at roles region region Home Home refl low in
              let none : counted (is_spare cycle (get_or roles_next region Home)) 1 ≡ 0 =
              ap (λ (x : Role). counted (is_spare cycle x) 1) here in let a = region_none in omega arith)
          | inr apart ↦
              (let same : counted (is_spare cycle (get_or roles_next r Home)) 1
              ≡ counted (is_spare cycle (get_or roles r Home)) 1 =
              ap (λ (x : Role). counted (is_spare cycle x) 1) (other
              ∙ get_or-set_other roles region r Home Home apart) in
              let none : counted (region == r) 1 ≡ 0 =
              ap (λ (b : Bool). counted b 1) (ne_eqb region r (λ z. apart (sym z))) in
              let b = before r few in omega arith)
        ])
  ]

-- ---- the steps

module _ (w : Facts) (s : JointScene) (places : ℕ → ℕ) (k : Holdings) (given : List Gift) (spare : List ℕ) where
  abbrev n : Numbers
  n = k.shape

  abbrev Before : ChoiceStage → Type 0
  Before stage = ChoiceOf n s.words s.facets.choice k (Choosing stage) given spare

  -- after a step of the stage, at a machine
  abbrev After : ChoiceStage → Collecting → Type 0
  After stage c = ChoiceOf n (words_next (at k (Choosing stage)) s.words) (choice_next k stage given spare) c.kept
      c.stage (given_next k stage given) (spare_next stage spare)

  none_done : (r place number : ℕ) → Before (LoadingTop r place number) → (t : ℕ) → gift_in given t ≢ 0 → ⊥
  none_done r place number o t some = let d = o.done t some in let b = d.before in omega arith

  gifts_kept : (stage : ChoiceStage) (h : Holdings) (i : ℕ)
      → ChoiceOf n (words_next (at k (Choosing stage)) s.words) (choice_next k stage given spare) h
      (Choosing (LoadingHome i)) (given_next k stage given) (spare_next stage spare)
      → After stage (gifts_from h i)
  gifts_kept stage h i o =
      either_way (After stage) (nat_lt i (length h.chosen)) (at h (Choosing (LoadingHome i)))
      (at h (Choosing StoringEvac)) (λ e. o)
      (λ e. record {
        begun = o.begun;
        spares = o.spares;
        done = λ t some. let d = o.done t some in
            record { number = d.number; before = d.inside; inside = d.inside; is = d.is };
        gift = tt;
      })

  module _ (r place number : ℕ) (o : Before (LoadingTop r place number)) where
    loading : (h : Holdings) (q : ℕ) → h.roles ≡ k.roles → h.cycle ≡ k.cycle
        → After (LoadingTop r place number) (at h (Choosing (LoadingLive q 0)))
    loading h q roles cycle = record {
      begun = refl;
      spares = λ x l. o.spares x l
          ∙ (λ i. counted (is_spare (sym cycle i + 1) (slice_index_or (sym roles i) x Home)) 1);
      done = λ t some. absurd (none_done r place number o t some);
      gift = tt;
    }

    servers_kept : (h : Holdings) (q : ℕ) → h.roles ≡ k.roles → h.cycle ≡ k.cycle
        → After (LoadingTop r place number) (servers_from h q)
    servers_kept h q roles cycle =
        either_way (After (LoadingTop r place number)) (q == h.shape.servers) (gifts_from h 0)
        (at h (Choosing (LoadingLive q 0)))
        (λ e. let l = loading h q roles cycle in
        gifts_kept (LoadingTop r place number) h 0
        (record {
          begun = refl;
          spares = l.spares;
          done = λ t some. absurd (none_done r place number o t some);
          gift = tt;
        })) (λ e. loading h q roles cycle)

    tablets_kept : (h : Holdings) → h.roles ≡ k.roles → h.cycle ≡ k.cycle
        → After (LoadingTop r place number) (after_tablet h r place)
    tablets_kept h roles cycle =
        either_way (After (LoadingTop r place number)) (place + 1 == h.shape.tablets)
        (servers_from (server_chosen h r) (r + 1)) (at h (Choosing (LoadingLive r (place + 1))))
        (λ e. servers_kept (server_chosen h r) (r + 1) roles cycle)
        (λ e. let l = loading h r roles cycle in
        record {
          begun = refl;
          spares = l.spares;
          done = λ t some. absurd (none_done r place number o t some);
          gift = tt;
        })

  -- a region is found for the tablet
  module _ (i region : ℕ) (found : spare_for k (chosen_tablet k i) ≡ Some region) (o : Before (LoadingHome i))
      (inside : chosen_tablet k i < n.servers * n.tablets) where
    abbrev t : ℕ
    t = chosen_tablet k i

    abbrev size : ℕ
    size = n.tablets + n.spare

    spot : IsSpareOf k.roles (running k) (server_of_tablet n t * size) size region
    spot = spare_is k.roles (running k) (server_of_tablet n t * size) size region found

    gift_found : After (LoadingHome i) (gift_of k i (word_at n s.words (home t)) (Some region))
    gift_found = record {
      begun = refl;
      spares = o.spares;
      done = o.done;
      gift = (
        ap (λ (us : List ℕ). word_at n us (home t)) (sym (load_leaves s.words (index n (home t)))),
        ap (server_of_region n) (sym spot.is) ∙ parts_belong.region n (server_of_tablet n t) spot.place spot.low,
        spot.spare,
      );
    }

    home_kept : After (LoadingHome i) (collector_next (at k (Choosing (LoadingHome i))) s.words)
    home_kept =
        subst (λ q. After (LoadingHome i) (gift_of k i (word_at n s.words (home t)) q)) (sym found) gift_found

  -- the tablet gives up its region
  module _ (i : ℕ) (gift : Exchange) (o : Before (StoringLeaving i gift)) (once : AreOnce k.chosen)
      (inside : i < length k.chosen) (region : gift.region < regions_of n) where
    abbrev tablet : ℕ
    tablet = chosen_tablet k i

    abbrev given_now : List Gift
    given_now = record { tablet = tablet; region = gift.former } ∷ given

    done_now : (t : ℕ) → gift_in given_now t ≢ 0 → IsDone k.chosen (i + 1) t
    done_now t some = elim (cases_eq tablet t) [
      | inl e ↦ record { number = i; before = omega arith; inside = inside; is = e }
      | inr d ↦
          (let none : counted (tablet == t) (gift.former + 1) ≡ 0 =
          ap (λ (b : Bool). counted b (gift.former + 1)) (ne_eqb tablet t d) in
          let one = given_one tablet gift.former t given in
          let was = o.done t (λ z. some (omega arith)) in
          record {
            number = was.number;
            before = (let b = was.before in omega arith);
            inside = was.inside;
            is = was.is;
          })
    ]

    leaving_kept : After (StoringLeaving i gift) (at k (Choosing (StoringHome i gift)))
    leaving_kept = record {
      begun = refl;
      spares = λ r l. let may = may_give n s k i gift given spare o once inside region in
          let a = without_one gift.region spare may.spares r in let b = o.spares r l in omega arith;
      done = done_now;
      gift = let none = none_given n s k i gift given spare o once inside region in
          let one = given_one tablet gift.former tablet given in
          let is : counted (tablet == tablet) (gift.former + 1) ≡ gift.former + 1 =
          ap (λ (b : Bool). counted b (gift.former + 1)) (eq-eqb tablet tablet refl) in omega arith;
    }

  -- it gets its new home
  module _ (i : ℕ) (gift : Exchange) (o : Before (StoringHome i gift))
      (x : Stands n w s places (at k (Choosing (StoringHome i gift)))) where
    abbrev housed : ℕ
    housed = chosen_tablet k i

    former_given : times_in spare gift.former ≡ 0
    former_given =
        ap (λ choice. times_in (spare_of choice) gift.former) (sym o.begun)
        ∙ given_not_spare n (layout n (layout_in n w s)) x.joint.layout.copy housed gift.former
        (x.known.chosen i 0 x.keeps.stage.1.0)
        (sym (ap (λ choice. gift_in (given_of choice) housed) o.begun ∙ o.gift))

    home_given : After (StoringHome i gift) (collector_next (at k (Choosing (StoringHome i gift))) s.words)
    home_given =
        let count : length k.roles ≡ regions_of n = x.known.roles in record {
          begun = refl;
          spares = λ r l. spares_next k.roles (running k) gift.region gift.former spare
              (let a = x.keeps.stage.1.2 in omega arith) (let a = x.keeps.stage.1.1 in omega arith)
              (λ q few. o.spares q (omega arith)) former_given r (omega arith);
          done = o.done;
          gift = tt;
        }

  choice_kept : (stage : ChoiceStage) → Stands n w s places (at k (Choosing stage))
      → StageFound n s.words k (Choosing stage) → HasSpare k stage → Before stage
      → After stage (collector_next (at k (Choosing stage)) s.words)
  choice_kept (LoadingLive r place) x f h o = record { begun = refl; spares = o.spares; done = o.done; gift = tt }
  choice_kept (LoadingTop r place number) x f h o =
      tablets_kept r place number o
      (record k {
        used = k.used ++ record {
          top = word_at n s.words (top (r * n.tablets + place));
          live = number;
        } ∷ [];
      })
      refl refl
  choice_kept (LoadingHome i) x f h o = home_kept i h.0 h.1 o (x.known.chosen i 0 x.keeps.stage.1)
  choice_kept (StoringLeaving i gift) x f h o = leaving_kept i gift o f x.keeps.stage.1.0 x.keeps.stage.1.2
  choice_kept (StoringHome i gift) x f h o = home_given i gift o x
  choice_kept (StoringTop i) x f h o =
      gifts_kept (StoringTop i) k (i + 1) (record { begun = refl; spares = o.spares; done = o.done; gift = tt })
  choice_kept StoringEvac x f h o = record { begun = refl; spares = o.spares; done = o.done; gift = tt }
  choice_kept (Reopening m) x f h o =
      either_way (After (Reopening m)) (m + 1 == n.mutators) (at k (Noticing (NoticeLook 0)))
      (at k (Choosing (Reopening (m + 1))))
      (λ e. record { begun = refl; spares = o.spares; done = o.done; gift = tt })
      (λ e. record { begun = refl; spares = o.spares; done = o.done; gift = tt })

pub choices_are_kept : ChoicesAreKept
choices_are_kept n w s places k stage stands found has given spare is =
    subst (λ m. Stands m w s places (at k (Choosing stage)) → StageFound m s.words k (Choosing stage)
    → ChoiceOf m s.words s.facets.choice k (Choosing stage) given spare
    → ChoiceOf m (words_next (at k (Choosing stage)) s.words) (choice_next k stage given spare)
    (collector_next (at k (Choosing stage)) s.words).kept (collector_next (at k (Choosing stage)) s.words).stage
    (given_next k stage given) (spare_next stage spare)) stands.seat.shape
    (λ x f o. choice_kept w s places k given spare stage x f has o) stands found is
