-- A `new` stands as its trail shows.
use Rattle.std.proofs.Common.{◌≡◌, ◌≢◌, ℕ, ◌+◌, ◌<◌, ◌==◌, ◌&&◌, Bool, true, false, cond, Option, Some, None, List, []}
use Rattle.std.proofs.Common.{◌∷◌, ◌++◌, ap, sym, subst, refl, arith}
use Rattle.std.specs.List.{count_by}
use Rattle.std.proofs.lemmas.List.Sums.{sum_by-append}
use Rattle.mako_shape.specs.declared.numbers.Numbers.{Numbers}
use Rattle.mako_shape.specs.Places.{Place, Within, index, tablet_gate, turn, top, entry, region_word}
use Rattle.mako_shape.proofs.PlaceLaws.{one_place}
use Rattle.mako_step.specs.Machines.{IsAct}
use Rattle.mako_step.specs.Trails.{Observation}
use Rattle.mako_step.specs.declared.act.Op.TheVariants.{Load, Store, Add, Sub, Exchange}
use Rattle.mako_words.specs.Gates.{is_shut}
use Rattle.mako_model.specs.declared.attempt.Pause.{Pause as Reason}
use Rattle.mako_model.specs.declared.attempt.Pause.TheVariants.{Shut, Busy, Moving}
use Rattle.mako_alloc.specs.declared.job.Job.{Job}
use Rattle.mako_alloc.specs.declared.progress.NewRecord.{NewRecord}
use Rattle.mako_alloc.specs.declared.progress.NewStage.{NewStage}
use Rattle.mako_alloc.specs.declared.progress.NewStage.TheVariants.{Arriving, TurnedAway, TakingTurn, LoadingLeaving}
use Rattle.mako_alloc.specs.declared.progress.NewStage.TheVariants.{LoadingTop, LoadingEntry, LoadingHome, Making}
use Rattle.mako_alloc.specs.declared.progress.NewStage.TheVariants.{GivingTurn, Leaving, Ended}
use Rattle.mako_alloc.specs.declared.progress.Part.{Part}
use Rattle.mako_alloc.specs.declared.progress.Part.TheVariants.{Header, Field, Top, Entry}
use Rattle.mako_alloc.specs.declared.progress.Progress.{Progress}
use Rattle.mako_alloc.specs.Allocating.{IsKnown, FitsBy, IsPartKnown, IsRecord, all_tablets, tablet_at, at, noted}
use Rattle.mako_alloc.specs.Allocating.{outcome, passed_on, seeking, entry_fed, top_fed, part_next, part_fed}
use Rattle.mako_alloc.specs.Allocating.{free_generation, stage_next, stage_fed, opening}
use Rattle.mako_gate.specs.Sums.{counted}
use Rattle.mako_gate.specs.Standings.{Standing, inside, turned_away, at_tablet, with_turn, arrived, holds_turn}
use Rattle.mako_alloc.specs.Standings.{end_standing, stage_standing, standing_of, StandsAsShown, EndsAsShown, StandsBy}
use Rattle.mako_alloc.specs.Standings.{arrives_at, leaves_from, takes_turn, gives_turn}
use Rattle.mako_step.proofs.Cases.{by_eq, when_eq, when_lt, when_le, when_test}
use Rattle.mako_alloc.proofs.Bounds.{tablet_below}
use Rattle.mako_step.proofs.Along.{did}
use Rattle.mako_alloc.proofs.Trails.{Keeps, Along, along}
use Rattle.mako_alloc.proofs.Caused.{opening_known}
use Rattle.mako_alloc.proofs.Shown.{observed}

-- the two ways to count a test
as_counted : (b : Bool) → cond b 1 0 ≡ counted b 1
as_counted true = refl
as_counted false = refl

-- one more is counted where it passes
one_more : {X : Type 0} (p : X → Bool) (xs : List X) (x : X)
    → count_by p (xs ++ x ∷ []) ≡ count_by p xs + counted (p x) 1
one_more p xs x = omega (arith, sum_by-append (λ y. cond (p y) 1 0) xs (x ∷ []), as_counted (p x))

-- what an observation adds to the two sides
pub record Balances (n : Numbers) (o : Observation) (before after : Standing) : Type 0 where
  pub gates : (t : ℕ) → t < all_tablets n →
      counted (arrives_at (index n (tablet_gate t)) o.act.op o.act.word) 1 + arrived t before
      ≡ counted (leaves_from (index n (tablet_gate t)) o.act.op o.act.word) 1 + arrived t after
  pub turns : (t : ℕ) → t < all_tablets n →
      counted (takes_turn (index n (turn t)) o.act.op o.act.word o.found) 1 + holds_turn t before
      ≡ counted (gives_turn (index n (turn t)) o.act.op o.act.word) 1 + holds_turn t after

pub stands_on : (n : Numbers) (trail : List Observation) (o : Observation) (before after : Standing) →
    Balances n o before after → StandsBy n trail before →
    StandsBy n (trail ++ o ∷ []) after
stands_on n trail o before after b h = record {
  gates = λ t below. omega (
    arith,
    one_more (λ (x : Observation). arrives_at (index n (tablet_gate t)) x.act.op x.act.word) trail o,
    one_more (λ (x : Observation). leaves_from (index n (tablet_gate t)) x.act.op x.act.word) trail o,
    h.gates t below,
    b.gates t below,
  );
  turns = λ t below. omega (
    arith,
    one_more (λ (x : Observation). takes_turn (index n (turn t)) x.act.op x.act.word x.found) trail o,
    one_more (λ (x : Observation). gives_turn (index n (turn t)) x.act.op x.act.word) trail o,
    h.turns t below,
    b.turns t below,
  );
}

-- two gates are one only where the tablets are
pub one_gate : (n : Numbers) (t u : ℕ) → t < all_tablets n → u < all_tablets n →
    (index n (tablet_gate t) == index n (tablet_gate u)) ≡ (t == u)
one_gate n t u h k = by_eq (λ b. (index n (tablet_gate t) == index n (tablet_gate u)) ≡ b) t u
    (λ same. by_eq (λ b. b ≡ true) (index n (tablet_gate t)) (index n (tablet_gate u)) (λ e. refl)
    (λ other. absurd (other (ap (λ (x : ℕ). index n (tablet_gate x)) same))))
    (λ other. by_eq (λ b. b ≡ false) (index n (tablet_gate t)) (index n (tablet_gate u))
    (λ e. let place : tablet_gate t ≡ tablet_gate u = one_place n (tablet_gate t) (tablet_gate u) h k e in
    absurd (other cc)) (λ e. refl))

pub one_turn : (n : Numbers) (t u : ℕ) → t < all_tablets n → u < all_tablets n →
    (index n (turn t) == index n (turn u)) ≡ (t == u)
one_turn n t u h k = by_eq (λ b. (index n (turn t) == index n (turn u)) ≡ b) t u
    (λ same. by_eq (λ b. b ≡ true) (index n (turn t)) (index n (turn u)) (λ e. refl)
    (λ other. absurd (other (ap (λ (x : ℕ). index n (turn x)) same))))
    (λ other. by_eq (λ b. b ≡ false) (index n (turn t)) (index n (turn u))
    (λ e. let place : turn t ≡ turn u = one_place n (turn t) (turn u) h k e in absurd (other cc)) (λ e. refl))

-- a word that is no turn
pub no_turn : (n : Numbers) (p : Place) (u : ℕ) → Within n p → u < all_tablets n → p ≢ turn u →
    (index n p == index n (turn u)) ≡ false
no_turn n p u h k other =
    by_eq (λ b. b ≡ false) (index n p) (index n (turn u)) (λ e. absurd (other (one_place n p (turn u) h k e)))
    (λ e. refl)

-- a load
pub load_balances : (n : Numbers) (word w : ℕ) (s : Standing) →
    Balances n (record { act = record { word = word; op = Load }; found = w }) s s
load_balances n word w s = record { gates = λ t below. refl; turns = λ t below. refl }

-- a store of a word that is no turn
pub store_balances : (n : Numbers) (p : Place) (x w : ℕ) (s : Standing) → Within n p → ((u : ℕ) → p ≢ turn u) →
    Balances n (record { act = record { word = index n p; op = Store x }; found = w }) s s
store_balances n p x w s within other = record {
  gates = λ t below. refl;
  turns = λ t below. rw (no_turn n p t within below (other t)) refl;
}

-- an arrival
pub arrival_balances : (n : Numbers) (t w : ℕ) (after : Standing) → t < all_tablets n →
    ((u : ℕ) → arrived u after ≡ counted (t == u) 1) → ((u : ℕ) → holds_turn u after ≡ 0) →
    Balances n (record { act = record { word = index n (tablet_gate t); op = Add 1 }; found = w }) inside after
arrival_balances n t w after h there holds = record {
  gates = λ u below. omega (arith, ap {B = ℕ} (λ (b : Bool). counted b 1) (one_gate n t u h below), there u);
  turns = λ u below. omega (arith, holds u);
}

-- a leave
pub leave_balances : (n : Numbers) (t w : ℕ) (before : Standing) → t < all_tablets n →
    ((u : ℕ) → arrived u before ≡ counted (t == u) 1) → ((u : ℕ) → holds_turn u before ≡ 0) →
    Balances n (record { act = record { word = index n (tablet_gate t); op = Sub 1 }; found = w }) before inside
leave_balances n t w before h there holds = record {
  gates = λ u below. omega (arith, ap {B = ℕ} (λ (b : Bool). counted b 1) (one_gate n t u h below), there u);
  turns = λ u below. omega (arith, holds u);
}

-- the turn is taken where it was free
pub taken_balances : (n : Numbers) (t new w : ℕ) → t < all_tablets n → w ≡ 0 →
    Balances n (record { act = record { word = index n (turn t); op = Exchange 0 new }; found = w }) (at_tablet t)
    (with_turn t)
taken_balances n t new w h is_zero = record {
  gates = λ u below. refl;
  turns = λ u below. when_free u (one_turn n t u h below);
}
  where
    when_free : (u : ℕ) → (index n (turn t) == index n (turn u)) ≡ (t == u) →
        counted ((w == 0) && (index n (turn t) == index n (turn u))) 1 + 0 ≡ 0 + counted (t == u) 1
    when_free u same = by_eq
        (λ b. counted (b && (index n (turn t) == index n (turn u))) 1 + 0 ≡ 0 + counted (t == u) 1) w 0
        (λ e. omega (arith, ap {B = ℕ} (λ (b : Bool). counted b 1) same)) (λ other. absurd (other is_zero))

-- a turn that was held is not
pub held_balances : (n : Numbers) (t new w : ℕ) → w ≢ 0 →
    Balances n (record { act = record { word = index n (turn t); op = Exchange 0 new }; found = w }) (at_tablet t)
    (at_tablet t)
held_balances n t new w held = record {
  gates = λ u below. refl;
  turns = λ u below. by_eq (λ b. counted (b && (index n (turn t) == index n (turn u))) 1 + 0 ≡ 0 + 0) w 0
      (λ e. absurd (held e)) (λ other. refl);
}

-- the turn is given back
pub given_balances : (n : Numbers) (t w : ℕ) → t < all_tablets n →
    Balances n (record { act = record { word = index n (turn t); op = Store 0 }; found = w }) (with_turn t)
    (at_tablet t)
given_balances n t w h = record {
  gates = λ u below. refl;
  turns = λ u below. omega (arith, ap {B = ℕ} (λ (b : Bool). counted b 1) (one_turn n t u h below));
}

seeking_standing : (job : Job) (t kept place : ℕ) → stage_standing t (seeking job kept place) ≡ with_turn t
seeking_standing job t kept place =
    when_lt (λ s. stage_standing t s ≡ with_turn t) (LoadingEntry kept place) GivingTurn place job.shape.entries
    (λ h. refl) (λ h. refl)

top_standing : (job : Job) (t kept : ℕ) → stage_standing t (top_fed job kept) ≡ with_turn t
top_standing job t kept =
    when_le (λ s. stage_standing t s ≡ with_turn t) (seeking job kept 0) GivingTurn
    (kept + job.fields + 1) job.shape.words
    (λ h. seeking_standing job t kept 0) (λ h. refl)

entry_standing : (job : Job) (t kept place : ℕ) (found : Option ℕ) →
    stage_standing t (entry_fed job t kept place found) ≡ with_turn t
entry_standing job t kept place None = seeking_standing job t kept (place + 1)
entry_standing job t kept place (Some g) = refl

outcome_standing : (kept : Option Reason) → end_standing (outcome kept) ≡ inside
outcome_standing None = refl
outcome_standing (Some reason) = refl

-- where it stands
abbrev pub standing_by : Job → Progress → Standing
standing_by job p = stage_standing (tablet_at job p.passed) p.stage

passed_standing : (job : Job) (p : Progress) → standing_by job (passed_on job p) ≡ inside
passed_standing job p = when_lt (λ q. standing_by job q ≡ inside)
    (record { passed = p.passed + 1; note = p.note; stage = Arriving }) (at p (Ended (outcome p.note))) (p.passed + 1)
    (all_tablets job.shape)
    (λ h. refl) (λ h. outcome_standing p.note)

part_balances : (job : Job) (t : ℕ) (made : NewRecord) (part : Part) (w : ℕ) → t < all_tablets job.shape →
    IsRecord job made → IsPartKnown job part →
    Balances job.shape (record { act = did (part_next job t made part); found = w }) (with_turn t) (with_turn t)
part_balances job t made Header w h k i =
    store_balances job.shape (region_word made.home (made.top + 0)) _ w _ (k.home, omega (arith, k.room)) (λ u e. cc)
part_balances job t made (Field j) w h k i =
    store_balances job.shape (region_word made.home (made.top + (j + 1))) _ w _ (k.home, omega (arith, k.room, i))
    (λ u e. cc)
part_balances job t made Top w h k i = store_balances job.shape (top t) _ w _ h (λ u e. cc)
part_balances job t made Entry w h k i = store_balances job.shape (entry made.name.entry) _ w _ k.name.0 (λ u e. cc)

part_standing : (job : Job) (t : ℕ) (made : NewRecord) (part : Part) →
    stage_standing t (part_fed job t made part) ≡ with_turn t
part_standing job t made Header = refl
part_standing job t made (Field i) = refl
part_standing job t made Top = refl
part_standing job t made Entry = refl

stage_stands : (job : Job) (passed : ℕ) (kept : Option Reason) (stage : NewStage) (w : ℕ) →
    let t : ℕ = tablet_at job passed in
    let p : Progress = record { passed = passed; note = kept; stage = stage } in
    IsKnown job p → IsAct (stage_next job t stage) → FitsBy job.shape stage w →
    Balances job.shape (observed job t stage w) (stage_standing t stage) (standing_by job (stage_fed job t p stage w))
stage_stands job passed kept Arriving w known act fits =
    let t : ℕ = tablet_at job passed in
    let p : Progress = record { passed = passed; note = kept; stage = Arriving } in
    when_test (λ q. Balances job.shape (observed job t Arriving w) inside (standing_by job q))
    (noted p (Shut t w) TurnedAway) (at p TakingTurn) (is_shut w)
    (λ h. arrival_balances job.shape t w (turned_away t) (tablet_below job passed known.numbers) (λ u. refl)
    (λ u. refl))
    (λ h. arrival_balances job.shape t w (at_tablet t) (tablet_below job passed known.numbers) (λ u. refl) (λ u. refl))
stage_stands job passed kept TurnedAway w known act fits =
    let t : ℕ = tablet_at job passed in
    subst (λ (s : Standing). Balances job.shape (observed job t TurnedAway w) (turned_away t) s)
    (sym (passed_standing job (record { passed = passed; note = kept; stage = TurnedAway })))
    (leave_balances job.shape t w (turned_away t) (tablet_below job passed known.numbers) (λ u. refl) (λ u. refl))
stage_stands job passed kept TakingTurn w known act fits =
    let t : ℕ = tablet_at job passed in
    let p : Progress = record { passed = passed; note = kept; stage = TakingTurn } in
    when_eq (λ q. Balances job.shape (observed job t TakingTurn w) (at_tablet t) (standing_by job q))
    (at p LoadingLeaving) (noted p (Busy t w) Leaving) w 0
    (λ free. taken_balances job.shape t (job.mutator + 1) w (tablet_below job passed known.numbers) free)
    (λ held. held_balances job.shape t (job.mutator + 1) w held)
stage_stands job passed kept LoadingLeaving w known act fits =
    let t : ℕ = tablet_at job passed in
    let p : Progress = record { passed = passed; note = kept; stage = LoadingLeaving } in
    when_eq (λ q. Balances job.shape (observed job t LoadingLeaving w) (with_turn t) (standing_by job q))
    (at p LoadingTop) (noted p (Moving t w) GivingTurn) w 0
    (λ h. load_balances job.shape _ w (with_turn t)) (λ h. load_balances job.shape _ w (with_turn t))
stage_stands job passed kept LoadingTop w known act fits =
    let t : ℕ = tablet_at job passed in
    subst (λ (s : Standing). Balances job.shape (observed job t LoadingTop w) (with_turn t) s)
    (sym (top_standing job t w))
    (load_balances job.shape _ w (with_turn t))
stage_stands job passed kept (LoadingEntry kept_top place) w known act fits =
    let t : ℕ = tablet_at job passed in
    subst (λ (s : Standing). Balances job.shape (observed job t (LoadingEntry kept_top place) w) (with_turn t) s)
    (sym (entry_standing job t kept_top place (free_generation job.shape.generations w)))
    (load_balances job.shape _ w (with_turn t))
stage_stands job passed kept (LoadingHome kept_top name) w known act fits =
    load_balances job.shape _ w (with_turn (tablet_at job passed))
stage_stands job passed kept (Making made part) w known act fits =
    let t : ℕ = tablet_at job passed in
    subst (λ (s : Standing). Balances job.shape (observed job t (Making made part) w) (with_turn t) s)
    (sym (part_standing job t made part))
    (part_balances job t made part w (tablet_below job passed known.numbers) known.stage.0 known.stage.1)
stage_stands job passed kept GivingTurn w known act fits =
    given_balances job.shape (tablet_at job passed) w (tablet_below job passed known.numbers)
stage_stands job passed kept Leaving w known act fits =
    let t : ℕ = tablet_at job passed in
    subst (λ (s : Standing). Balances job.shape (observed job t Leaving w) (at_tablet t) s)
    (sym (passed_standing job (record { passed = passed; note = kept; stage = Leaving })))
    (leave_balances job.shape t w (at_tablet t) (tablet_below job passed known.numbers) (λ u. refl) (λ u. refl))
stage_stands job passed kept (Ended found) w known act fits = absurd act

stands : Keeps (λ l trail. StandsBy l.job.shape trail (standing_of l))
stands l trail w known act fits h =
    stands_on l.job.shape trail _ _ _
    (stage_stands l.job l.progress.passed l.progress.note l.progress.stage w known act fits) h

opening_stands : (n : Numbers) → StandsBy n [] inside
opening_stands n = record { gates = λ t below. refl; turns = λ t below. refl }

pub stands_as_shown : StandsAsShown
stands_as_shown job trail l h goes =
    let end : Along (λ m trail. StandsBy m.job.shape trail (standing_of m)) (opening job) trail l =
    along (λ m trail. StandsBy m.job.shape trail (standing_of m)) (opening job) trail l goes
    (opening_known job h) stands (opening_stands job.shape) in
    subst (λ (j : Job). StandsBy j.shape trail (standing_of l)) end.same end.holds

pub ends_as_shown : EndsAsShown
ends_as_shown l found e = ap (stage_standing (tablet_at l.job l.progress.passed)) e
