-- What polls come to, from the words that they found.
use Rattle.std.proofs.Common.{◌≡◌, ◌≢◌, ℕ, zero, suc, ◌+◌, ◌<◌, ◌==◌, ◌⊎◌, inl, inr, if◌then◌else◌, Bool, true, false}
use Rattle.std.proofs.Common.{List, [], ◌∷◌, ◌++◌, length, ap, sym, subst, refl, ◌∙◌, arith}
use Rattle.std.proofs.lemmas.Bool.Decides.{nat_tests}
use Rattle.std.proofs.lemmas.List.{length_push}
use Rattle.mako_shape.specs.declared.numbers.Numbers.{Numbers}
use Rattle.mako_step.specs.Trails.{Observation, Goes, stays, steps}
use Rattle.mako_step.specs.declared.act.Act.{Act}
use Rattle.mako_step.specs.declared.step.Step.{Step}
use Rattle.mako_step.specs.declared.step.Step.TheVariants.{Do, Ended as NoStep}
use Rattle.mako_poll.specs.Polls.{PollView, stage_next, next_of, has_work, asking_from, reading_from, stage_fed, fed}
use Rattle.mako_poll.specs.Polls.{Fits, asked, read, FoundClean, FoundZero, FoundWork, PollsAnswer}
use Rattle.mako_poll.specs.declared.poller.Polled.TheVariants.{Told, NotYet}
use Rattle.mako_poll.specs.declared.poller.PollStage.{PollStage}
use Rattle.mako_poll.specs.declared.poller.PollStage.TheVariants.{Asking, Reading, Ended}

-- the act of a step
act_of : Step → Act → Act
act_of (Do a) d = a
act_of NoStep d = d

same_act : (a b : Act) → Do a ≡ Do b → a ≡ b
unfolding act_of
same_act a b e = ap (λ (s : Step). act_of s b) e

-- the last word found
last_found : ℕ → List Observation → ℕ
last_found d [] = d
last_found d (o ∷ more) = last_found o.found more

last_pushed : (d : ℕ) (trail : List Observation) (o : Observation) → last_found d (trail ++ o ∷ []) ≡ o.found
unfolding last_found
last_pushed d [] o = refl
last_pushed d (x ∷ more) o = last_pushed x.found more o

-- what a poll has found where it stands
abbrev pub Evidence : Numbers → PollStage → List Observation → Type 0
Evidence n (Asking k) trail = FoundClean n k trail
Evidence n (Reading k) trail = FoundZero n k trail
Evidence n (Ended Told) trail = FoundZero n n.servers trail
Evidence n (Ended (NotYet k w)) trail = FoundWork n k w trail

-- its server is in range
abbrev pub InRange : Numbers → PollStage → Type 0
InRange n (Asking k) = k < n.servers
InRange n (Reading k) = k < n.servers
InRange n (Ended Told) = Unit {0}
InRange n (Ended (NotYet k w)) = k < n.servers

pub record Polled (n : Numbers) (stage : PollStage) (trail : List Observation) : Type 0 where
  pub known : InRange n stage
  pub found : Evidence n stage trail

module _ (n : Numbers) (some : 0 < n.servers) where
  clean_on : (k : ℕ) (trail : List Observation) → k < n.servers → FoundClean n (suc k) trail → (b : Bool)
      → (k + 1 == n.servers) ≡ b → Polled n (if b then Reading 0 else Asking (k + 1)) trail
  clean_on k trail lt found true e =
      record {
        known = some;
        found = subst (λ (j : ℕ). FoundClean n j trail) (let all : k + 1 ≡ n.servers = grind (arith, nat_tests) in
            let up : suc k ≡ n.servers = omega arith in up) found;
      }
  clean_on k trail lt found false e = record {
    known = grind (arith, nat_tests);
    found = subst (λ (j : ℕ). FoundClean n j trail) (let up : suc k ≡ k + 1 = omega arith in up) found;
  }

  zero_on : (k : ℕ) (trail : List Observation) → k < n.servers → FoundZero n (suc k) trail → (b : Bool)
      → (k + 1 == n.servers) ≡ b → Polled n (if b then Ended Told else Reading (k + 1)) trail
  zero_on k trail lt found true e =
      record {
        known = tt;
        found = subst (λ (j : ℕ). FoundZero n j trail) (let all : k + 1 ≡ n.servers = grind (arith, nat_tests) in
            let up : suc k ≡ n.servers = omega arith in up) found;
      }
  zero_on k trail lt found false e = record {
    known = grind (arith, nat_tests);
    found = subst (λ (j : ℕ). FoundZero n j trail) (let up : suc k ≡ k + 1 = omega arith in up) found;
  }

  ask_on : (k w : ℕ) (trail : List Observation) → k < n.servers → FoundClean n k trail → (b : Bool) → has_work w ≡ b
      → Polled n (if b then Ended (NotYet k w) else asking_from n (k + 1)) (trail ++ asked n k w ∷ [])
  ask_on k w trail lt found true e = record { known = lt; found = (trail, inl (found, e, refl)) }
  ask_on k w trail lt found false e =
      clean_on k (trail ++ asked n k w ∷ []) lt (trail, (w, (found, e, refl))) (k + 1 == n.servers) refl

  read_on : (k w : ℕ) (trail : List Observation) → k < n.servers → FoundZero n k trail → (b : Bool) → (w == 0) ≡ b
      → Polled n (if b then reading_from n (k + 1) else Ended (NotYet k w)) (trail ++ read n k w ∷ [])
  read_on k w trail lt found true e =
      let zero_is : w ≡ 0 = grind (arith, nat_tests) in
      zero_on k (trail ++ read n k w ∷ []) lt (trail, (found, ap (λ (x : ℕ). trail ++ read n k x ∷ []) zero_is))
      (k + 1 == n.servers) refl
  read_on k w trail lt found false e =
      record { known = lt; found = (trail, inr (found, (λ z. grind (arith, nat_tests)), refl)) }

  next_polled : (stage : PollStage) (trail : List Observation) (act : Act) (w : ℕ) → Polled n stage trail
      → stage_next n stage ≡ Do act → Polled n (stage_fed n stage w) (trail ++ record { act = act; found = w } ∷ [])
  next_polled (Asking k) trail act w h is =
      subst (λ (a : Act). Polled n (stage_fed n (Asking k) w) (trail ++ record { act = a; found = w } ∷ []))
      (same_act _ act is) (ask_on k w trail h.known h.found (has_work w) refl)
  next_polled (Reading k) trail act w h is =
      subst (λ (a : Act). Polled n (stage_fed n (Reading k) w) (trail ++ record { act = a; found = w } ∷ []))
      (same_act _ act is) (read_on k w trail h.known h.found (w == 0) refl)
  next_polled (Ended polled) trail act w h is = absurd (cc)

  -- ---- a trail that found nothing is that of a poll that is told
  clean_length : (k : ℕ) (trail : List Observation) → FoundClean n k trail → length trail ≡ k
  clean_length zero trail e = ap (λ (l : List Observation). length l) e
  clean_length (suc k) trail e =
      let l : length (e.0 ++ asked n k e.1.0 ∷ []) ≡ length e.0 + 1 = length_push e.0 (asked n k e.1.0) in
      let b : length e.0 ≡ k = clean_length k e.0 e.1.1.0 in
      ap (λ (l : List Observation). length l) e.1.1.2 ∙ l ∙ (let up : length e.0 + 1 ≡ suc k = omega arith in up)

  zero_length : (k : ℕ) (trail : List Observation) → FoundZero n k trail → length trail ≡ n.servers + k
  zero_length zero trail e = clean_length n.servers trail e ∙ (let up : n.servers ≡ n.servers + 0 = omega arith in up)
  zero_length (suc k) trail e =
      let l : length (e.0 ++ read n k 0 ∷ []) ≡ length e.0 + 1 = length_push e.0 (read n k 0) in
      let b : length e.0 ≡ n.servers + k = zero_length k e.0 e.1.0 in
      ap (λ (l : List Observation). length l) e.1.1 ∙ l
      ∙ (let up : length e.0 + 1 ≡ n.servers + suc k = omega arith in up)

  last_zero : (k : ℕ) (trail : List Observation) → 0 < k → FoundZero n k trail → last_found 0 trail ≡ 0
  last_zero zero trail lt e = absurd (omega arith)
  last_zero (suc k) trail lt e = ap (λ (l : List Observation). last_found 0 l) e.1.1 ∙ last_pushed 0 e.0 (read n k 0)

  told_from : (stage : PollStage) (trail : List Observation) → Polled n stage trail → FoundZero n n.servers trail
      → stage ≡ Ended Told
  told_from (Asking k) trail h all =
      let a = clean_length k trail h.found in let b = zero_length n.servers trail all in let lt = h.known in
      absurd (omega arith)
  told_from (Reading k) trail h all =
      let a = zero_length k trail h.found in let b = zero_length n.servers trail all in let lt = h.known in
      absurd (omega arith)
  told_from (Ended Told) trail h all = refl
  told_from (Ended (NotYet k w)) trail h all = on h.found.1
    where
      on : (FoundClean n k h.found.0 × (has_work w ≡ true) × (trail ≡ h.found.0 ++ asked n k w ∷ []))
          ⊎ (FoundZero n k h.found.0 × (w ≢ 0) × (trail ≡ h.found.0 ++ read n k w ∷ []))
          → Ended (NotYet k w) ≡ Ended Told
      on (inl f) =
          let l : length (h.found.0 ++ asked n k w ∷ []) ≡ length h.found.0 + 1 = length_push h.found.0 (asked n k w) in
          let t = ap (λ (l : List Observation). length l) f.2 in
          let a = clean_length k h.found.0 f.0 in let b = zero_length n.servers trail all in let lt = h.known in
          absurd (omega arith)
      on (inr f) = absurd (f.1 (sym (ap (λ (l : List Observation). last_found 0 l) f.2
          ∙ last_pushed 0 h.found.0 (read n k w)) ∙ last_zero n.servers trail some all))

  -- ---- and one that found work is that of a poll that tells it
  last_clean : (k : ℕ) (trail : List Observation) → 0 < k → FoundClean n k trail → has_work (last_found 0 trail) ≡ false
  last_clean zero trail lt e = absurd (omega arith)
  last_clean (suc k) trail lt e = ap has_work (ap (λ (l : List Observation). last_found 0 l) e.1.1.2
      ∙ last_pushed 0 e.0 (asked n k e.1.0)) ∙ e.1.1.1

  module _ (k w : ℕ) (below : k < n.servers) (trail : List Observation) where
    abbrev InFirst : List Observation → Type 0
    InFirst before = FoundClean n k before × (has_work w ≡ true) × (trail ≡ before ++ asked n k w ∷ [])

    abbrev InSecond : List Observation → Type 0
    InSecond before = FoundZero n k before × (w ≢ 0) × (trail ≡ before ++ read n k w ∷ [])

    first_length : (before : List Observation) → InFirst before → length trail ≡ k + 1
    first_length before f =
        let b : length before ≡ k = clean_length k before f.0 in
        ap (λ (l : List Observation). length l) f.2 ∙ length_push before (asked n k w) ∙ ap (λ (x : ℕ). x + 1) b

    second_length : (before : List Observation) → InSecond before → length trail ≡ n.servers + k + 1
    second_length before f =
        let b : length before ≡ n.servers + k = zero_length k before f.0 in
        ap (λ (l : List Observation). length l) f.2 ∙ length_push before (read n k w) ∙ ap (λ (x : ℕ). x + 1) b

    first_last : (before : List Observation) → InFirst before → last_found 0 trail ≡ w
    first_last before f = ap (λ (l : List Observation). last_found 0 l) f.2 ∙ last_pushed 0 before (asked n k w)

    second_last : (before : List Observation) → InSecond before → last_found 0 trail ≡ w
    second_last before f = ap (λ (l : List Observation). last_found 0 l) f.2 ∙ last_pushed 0 before (read n k w)

    -- a trail that ends with a clean server, or with flags 0, found no work
    not_clean : (j : ℕ) (before : List Observation) → 0 < j → FoundClean n j trail → InFirst before → ⊥
    not_clean j before lt found f = clash (has_work w) f.1 (ap has_work (sym (first_last before f))
        ∙ last_clean j trail lt found)
      where
        clash : (b : Bool) → b ≡ true → b ≡ false → ⊥
        clash b t f = cc

    not_zero : (j : ℕ) (before : List Observation) → 0 < j → FoundZero n j trail → InSecond before → ⊥
    not_zero j before lt found f = f.1 (sym (second_last before f) ∙ last_zero j trail lt found)

    work_from : (stage : PollStage) → Polled n stage trail → (before : List Observation) → InFirst before
        ⊎ InSecond before → stage ≡ Ended (NotYet k w)
    work_from (Asking j) h before (inl f) = let a = clean_length j trail h.found in let b = first_length before f in
        absurd (not_clean j before (omega arith) h.found f)
    work_from (Asking j) h before (inr f) = let a = clean_length j trail h.found in let b = second_length before f in
        let lt = h.known in absurd (omega arith)
    work_from (Reading zero) h before (inl f) = absurd (not_clean n.servers before some h.found f)
    work_from (Reading (suc j)) h before (inl f) = let a = zero_length (suc j) trail h.found in
        let b = first_length before f in absurd (omega arith)
    work_from (Reading j) h before (inr f) = let a = zero_length j trail h.found in let b = second_length before f in
        absurd (not_zero j before (omega arith) h.found f)
    work_from (Ended Told) h before (inl f) = let a = zero_length n.servers trail h.found in
        let b = first_length before f in absurd (omega arith)
    work_from (Ended Told) h before (inr f) = absurd (not_zero n.servers before some h.found f)
    work_from (Ended (NotYet j v)) h before f = (λ z. Ended (NotYet (same_server z) (same_word z)))
      where
        mine : (x : List Observation) → (FoundClean n j x × (has_work v ≡ true) × (trail ≡ x ++ asked n j v ∷ []))
            ⊎ (FoundZero n j x × (v ≢ 0) × (trail ≡ x ++ read n j v ∷ []))
            → (last_found 0 trail ≡ v) × ((length trail ≡ j + 1) ⊎ (length trail ≡ n.servers + j + 1))
        mine x (inl g) = (
          ap (λ (l : List Observation). last_found 0 l) g.2 ∙ last_pushed 0 x (asked n j v),
          inl (ap (λ (l : List Observation). length l) g.2 ∙ length_push x (asked n j v)
              ∙ ap (λ (y : ℕ). y + 1) (clean_length j x g.0)),
        )
        mine x (inr g) = (
          ap (λ (l : List Observation). last_found 0 l) g.2 ∙ last_pushed 0 x (read n j v),
          inr (ap (λ (l : List Observation). length l) g.2 ∙ length_push x (read n j v)
              ∙ ap (λ (y : ℕ). y + 1) (zero_length j x g.0)),
        )

        theirs : InFirst before ⊎ InSecond before → (last_found 0 trail ≡ w)
            × ((length trail ≡ k + 1) ⊎ (length trail ≡ n.servers + k + 1))
        theirs (inl g) = (first_last before g, inl (first_length before g))
        theirs (inr g) = (second_last before g, inr (second_length before g))

        same_word : v ≡ w
        same_word = sym (mine h.found.0 h.found.1).0 ∙ (theirs f).0

        same_count : (length trail ≡ j + 1) ⊎ (length trail ≡ n.servers + j + 1) → (length trail ≡ k + 1)
            ⊎ (length trail ≡ n.servers + k + 1) → j < n.servers → j ≡ k
        same_count (inl a) (inl b) lt = omega arith
        same_count (inl a) (inr b) lt = absurd (omega arith)
        same_count (inr a) (inl b) lt = absurd (omega arith)
        same_count (inr a) (inr b) lt = omega arith

        same_server : j ≡ k
        same_server = same_count (mine h.found.0 h.found.1).1 (theirs f).1 h.known

module _ (p : PollView) (some : 0 < p.shape.servers) (start : p.stage ≡ Asking 0) where
  pub record Trailed (l : PollView) (trail : List Observation) : Type 0 where
    pub same : l ≡ record p { stage = l.stage }
    pub polled : Polled p.shape l.stage trail

  trailed : (l : PollView) (trail : List Observation) → Goes next_of Fits fed p trail l → Trailed l trail
  trailed l trail (stays m) =
      record {
        same = refl;
        polled = record {
          known = subst (InRange p.shape) (sym start) some;
          found = subst (λ (x : PollStage). Evidence p.shape x []) (sym start) refl;
        };
      }
  trailed l trail (steps m k before act w goes is fits) =
      let h = trailed k before goes in
      let next : stage_next p.shape k.stage ≡ Do act = ap (λ (x : PollView). stage_next x.shape k.stage) (sym h.same)
      ∙ is in
      record {
        same = λ i. record (h.same i) { stage = stage_fed k.shape k.stage w };
        polled = subst (λ (x : PollView). Polled p.shape (stage_fed x.shape k.stage w) (before ++ record {
          act = act;
          found = w;
        } ∷ [])) (sym h.same) (next_polled p.shape some k.stage before act w h.polled next);
      }

pub polls_answer : PollsAnswer
polls_answer = record {
  told = λ p l trail some start goes. let h = (trailed p some start l trail goes).polled in (
    λ e. subst (λ (x : PollStage). Evidence p.shape x trail) e h.found,
    λ all. told_from p.shape some l.stage trail h all,
  );
  not_yet = λ p l trail k w some start goes. let h = (trailed p some start l trail goes).polled in (
    λ e. (subst (InRange p.shape) e h.known, subst (λ (x : PollStage). Evidence p.shape x trail) e h.found),
    λ f. work_from p.shape some k w f.0 trail l.stage h f.1.0 f.1.1,
  );
}
