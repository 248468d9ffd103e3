-- The choice of all servers.
use Rattle.std.proofs.Common.{◌≡◌, ℕ, zero, suc, ◌+◌, ◌*◌, ◌<◌, ◌≤◌, ◌⊎◌, inl, inr, ⊎_elim, List, [], ◌∷◌, ◌++◌}
use Rattle.std.proofs.Common.{Contains, length, length-append, map, take, ltb, sym, ap, subst, refl, ◌∙◌, add-one}
use Rattle.std.proofs.Common.{arith}
use Rattle.std.proofs.lemmas.Bool.{cond_both}
use Rattle.std.proofs.lemmas.List.Elements.{Contains-append_cases}
use Rattle.std.specs.Ordering.{is_lt}
use Rattle.mako_words.specs.Lives.{live_at}
use Rattle.mako_shape.specs.declared.numbers.Numbers.{Numbers}
use Rattle.mako_shape.specs.Places.{top, Within, word_at}
use Rattle.mako_shape.proofs.Rows.{row-below}
use Rattle.mako_choice.specs.declared.chooser.Used.{Used}
use Rattle.mako_choice.specs.declared.chooser.Candidate.{Candidate}
use Rattle.mako_choice.specs.Choices.{by_live, candidates_from, put_in, in_order, choice}
use Rattle.mako_phases.specs.Lives.{live_in, AreOnce}
use Rattle.mako_phases.specs.LiveSteps.{AgreeOnLives}
use Rattle.mako_phases.specs.Choosing.{used_at, used_upto, tablets_at, chosen_upto, AreFound}
use Rattle.mako_phases.proofs.Members.{no_member, head_or, first_in, later_in}

-- ---- findings

used_same : (n : Numbers) (words words' : List ℕ) (cycle s place : ℕ) → AgreeOnLives n words words'
    → ((t : ℕ) → Within n (top t) → word_at n words' (top t) ≡ word_at n words (top t))
    → s < n.servers → place < n.tablets + 1 → used_upto n words' cycle s place ≡ used_upto n words cycle s place
unfolding used_upto
used_same n words words' cycle s zero lives tops known upto = refl
used_same n words words' cycle s (suc k) lives tops known upto =
    let within : s * n.tablets + k < n.servers * n.tablets = row-below s n.tablets k n.servers known (omega arith) in
    λ i. used_same n words words' cycle s k lives tops known (omega arith) i
    ++ record {
      top = tops (s * n.tablets + k) within i;
      live = live_in (live_at (lives (s * n.tablets + k) within i)) cycle;
    } ∷ []

chosen_same : (n : Numbers) (words words' : List ℕ) (cycle s : ℕ) → AgreeOnLives n words words'
    → ((t : ℕ) → Within n (top t) → word_at n words' (top t) ≡ word_at n words (top t))
    → s ≤ n.servers → chosen_upto n words' cycle s ≡ chosen_upto n words cycle s
unfolding chosen_upto
chosen_same n words words' cycle zero lives tops upto = refl
chosen_same n words words' cycle (suc s) lives tops upto =
    let rest = chosen_same n words words' cycle s lives tops (omega arith) in
    let own = used_same n words words' cycle s n.tablets lives tops (omega arith) (omega arith) in
    λ i. rest i ++ tablets_at n s (choice (own i) n.spare)

pub findings_stay : (n : Numbers) (words words' : List ℕ) (cycle s place : ℕ) (used : List Used) (chosen : List ℕ)
    → AgreeOnLives n words words' → ((t : ℕ) → Within n (top t) → word_at n words' (top t) ≡ word_at n words (top t))
    → s < n.servers → place < n.tablets + 1
    → AreFound n words cycle s place used chosen → AreFound n words' cycle s place used chosen
findings_stay n words words' cycle s place used chosen lives tops known upto found = record {
  used_are = found.used_are ∙ sym (used_same n words words' cycle s place lives tops known upto);
  chosen_are = found.chosen_are ∙ sym (chosen_same n words words' cycle s lives tops (omega arith));
}

pub findings_begin : (n : Numbers) (words : List ℕ) (cycle : ℕ) → AreFound n words cycle 0 0 [] []
unfolding used_upto chosen_upto
findings_begin n words cycle = record { used_are = refl; chosen_are = refl }

pub findings_go_on : (n : Numbers) (words : List ℕ) (cycle s place : ℕ) (used : List Used) (chosen : List ℕ)
    → AreFound n words cycle s place used chosen
    → AreFound n words cycle s (place + 1) (used ++ used_at n words cycle (s * n.tablets + place) ∷ []) chosen
unfolding used_upto
findings_go_on n words cycle s place used chosen found = record {
  used_are =
      ap (λ (l : List Used). l ++ used_at n words cycle (s * n.tablets + place) ∷ []) found.used_are
      ∙ ap (used_upto n words cycle s) (sym (add-one place));
  chosen_are = found.chosen_are;
}

pub findings_chosen_of : (n : Numbers) (words : List ℕ) (cycle s : ℕ) (used : List Used) (chosen : List ℕ)
    → AreFound n words cycle s n.tablets used chosen
    → AreFound n words cycle (s + 1) 0 [] (chosen ++ tablets_at n s (choice used n.spare))
unfolding used_upto chosen_upto
findings_chosen_of n words cycle s used chosen found = record {
  used_are = refl;
  chosen_are =
      (λ i. found.chosen_are i ++ tablets_at n s (choice (found.used_are i) n.spare))
      ∙ ap (chosen_upto n words cycle) (sym (add-one s));
}

-- ---- the places of candidates

abbrev places_of : List Candidate → List ℕ
places_of candidates = map (λ (c : Candidate). c.place) candidates

-- those of a list of candidates rise: none is below the first, and none stands twice
candidate_places : (place : ℕ) (used : List Used)
    → AreOnce (places_of (candidates_from place used))
    × ((p : ℕ) → Contains (places_of (candidates_from place used)) p → (place ≤ p) × (p < place + length used))
unfolding candidates_from
candidate_places place [] = (tt, (λ p c. absurd (no_member p c)))
candidate_places place (t ∷ used) =
    let rest = candidate_places (place + 1) used in
    let later : (p : ℕ) → Contains (places_of (candidates_from (place + 1) used)) p
    → (place ≤ p) × (p < place + suc (length used)) =
    λ p c. let in_rest = rest.1 p c in let low = in_rest.0 in let high = in_rest.1 in (omega arith, omega arith) in
    cond_both (ltb t.live t.top) (record { live = t.live; place = place } ∷ []) []
    (λ (l : List Candidate). AreOnce (places_of (l ++ candidates_from (place + 1) used))
    × ((p : ℕ) → Contains (places_of (l ++ candidates_from (place + 1) used)) p
    → (place ≤ p) × (p < place + suc (length used))))
    (λ is. (
      ((λ c. let low = (rest.1 place c).0 in omega arith), rest.0),
      (λ p c. ⊎_elim (λ e. (omega arith, omega arith)) (later p)
          (head_or (places_of (candidates_from (place + 1) used)) place p c)),
    ))
    (λ is. (rest.0, later))

-- a candidate is put in once
put_has : (c : Candidate) (ds : List Candidate) (p : ℕ) → Contains (places_of (put_in c ds)) p
    → (c.place ≡ p) ⊎ Contains (places_of ds) p
unfolding put_in
put_has c [] p = λ has. head_or [] c.place p has
put_has c (d ∷ ds) p =
    cond_both (is_lt (by_live d c)) (d ∷ put_in c ds) (c ∷ d ∷ ds)
    (λ (l : List Candidate). Contains (places_of l) p → (c.place ≡ p) ⊎ Contains (places_of (d ∷ ds)) p)
    (λ is has. ⊎_elim (λ e. inr (subst (Contains (places_of (d ∷ ds))) e (first_in d.place (places_of ds))))
    (λ more. ⊎_elim (λ e. inl e) (λ old. inr (later_in d.place (places_of ds) p old)) (put_has c ds p more))
    (head_or (places_of (put_in c ds)) d.place p has))
    (λ is has. head_or (places_of (d ∷ ds)) c.place p has)

put_once : (c : Candidate) (ds : List Candidate) → (¬ Contains (places_of ds) c.place) → AreOnce (places_of ds)
    → AreOnce (places_of (put_in c ds))
unfolding put_in
put_once c [] new once = ((λ has. no_member c.place has), tt)
put_once c (d ∷ ds) new once =
    cond_both (is_lt (by_live d c)) (d ∷ put_in c ds) (c ∷ d ∷ ds) (λ (l : List Candidate). AreOnce (places_of l))
    (λ is. (
      (λ has. ⊎_elim
          (λ e. new (subst (Contains (places_of (d ∷ ds))) (sym e) (first_in d.place (places_of ds))))
          (λ old. once.0 old) (put_has c ds d.place has)),
      put_once c ds (λ has. new (later_in d.place (places_of ds) c.place has)) once.1,
    ))
    (λ is. (new, once))

order_has : (cs : List Candidate) (p : ℕ) → Contains (places_of (in_order cs)) p → Contains (places_of cs) p
unfolding in_order
order_has [] p has = has
order_has (c ∷ cs) p has =
    ⊎_elim (λ e. subst (Contains (places_of (c ∷ cs))) e (first_in c.place (places_of cs)))
    (λ old. later_in c.place (places_of cs) p (order_has cs p old)) (put_has c (in_order cs) p has)

order_once : (cs : List Candidate) → AreOnce (places_of cs) → AreOnce (places_of (in_order cs))
unfolding in_order
order_once [] once = tt
order_once (c ∷ cs) once =
    put_once c (in_order cs) (λ has. once.0 (order_has cs c.place has)) (order_once cs once.1)

taken_has : (k : ℕ) (cs : List Candidate) (p : ℕ) → Contains (places_of (take k cs)) p → Contains (places_of cs) p
taken_has zero cs p has = absurd (no_member p has)
taken_has (suc k) [] p has = absurd (no_member p has)
taken_has (suc k) (c ∷ cs) p has =
    ⊎_elim (λ e. subst (Contains (places_of (c ∷ cs))) e (first_in c.place (places_of cs)))
    (λ more. later_in c.place (places_of cs) p (taken_has k cs p more)) (head_or (places_of (take k cs)) c.place p has)

taken_once : (k : ℕ) (cs : List Candidate) → AreOnce (places_of cs) → AreOnce (places_of (take k cs))
taken_once zero cs once = tt
taken_once (suc k) [] once = tt
taken_once (suc k) (c ∷ cs) once = ((λ has. once.0 (taken_has k cs c.place has)), taken_once k cs once.1)

-- a choice has each place once, and only places that there are
choice_places : (used : List Used) (spare : ℕ) → AreOnce (choice used spare)
    × ((p : ℕ) → Contains (choice used spare) p → p < length used)
unfolding choice
choice_places used spare =
    let all = candidate_places 0 used in
    let sorted : List Candidate = in_order (candidates_from 0 used) in (
      taken_once spare sorted (order_once (candidates_from 0 used) all.0),
      (λ p has.
          let high = (all.1 p (order_has (candidates_from 0 used) p (taken_has spare sorted p has))).1 in
          omega arith),
    )

-- ---- tablets

module _ (base : ℕ) where
  shifted_has : (places : List ℕ) (t : ℕ) → Contains (map (λ place. base + place) places) t
      → (place : ℕ) × (Contains places place × (base + place ≡ t))
  shifted_has [] t has = absurd (no_member t has)
  shifted_has (p ∷ places) t has =
      ⊎_elim (λ e. (p, (first_in p places, e)))
      (λ more. let h = shifted_has places t more in (h.0, (later_in p places h.0 h.1.0, h.1.1)))
      (head_or (map (λ place. base + place) places) (base + p) t has)

  shifted_once : (places : List ℕ) → AreOnce places → AreOnce (map (λ place. base + place) places)
  shifted_once [] once = tt
  shifted_once (p ∷ places) once = (
    (λ has. let h = shifted_has places (base + p) has in
        let same : h.0 ≡ p = (let e = h.1.1 in omega arith) in once.0 (subst (Contains places) same h.1.0)),
    shifted_once places once.1,
  )

append_once : (xs ys : List ℕ) → AreOnce xs → AreOnce ys → ((x : ℕ) → Contains xs x → ¬ Contains ys x)
    → AreOnce (xs ++ ys)
append_once [] ys once_xs once_ys apart = once_ys
append_once (x ∷ xs) ys once_xs once_ys apart = (
  (λ has. ⊎_elim (λ old. once_xs.0 old) (λ other. apart x (first_in x xs) other) (Contains-append_cases xs ys x has)),
  append_once xs ys once_xs.1 once_ys (λ y has. apart y (later_in x xs y has)),
)

used_length : (n : Numbers) (words : List ℕ) (cycle s k : ℕ) → length (used_upto n words cycle s k) ≡ k
unfolding used_upto
used_length n words cycle s zero = refl
used_length n words cycle s (suc k) =
    let before = used_length n words cycle s k in
    let longer = length-append (used_upto n words cycle s k) (used_at n words cycle (s * n.tablets + k) ∷ []) in
    omega arith

pub chosen_once : (n : Numbers) (words : List ℕ) (cycle s : ℕ) → AreOnce (chosen_upto n words cycle s)
    × ((t : ℕ) → Contains (chosen_upto n words cycle s) t → t < s * n.tablets)
unfolding chosen_upto
chosen_once n words cycle zero = (tt, (λ t has. absurd (no_member t has)))
chosen_once n words cycle (suc s) =
    let before = chosen_once n words cycle s in
    let used : List Used = used_upto n words cycle s n.tablets in
    let own = choice_places used n.spare in
    let tablets : List ℕ = tablets_at n s (choice used n.spare) in
    let within : (t : ℕ) → Contains tablets t → (s * n.tablets ≤ t) × (t < s * n.tablets + n.tablets) =
    λ t has.
    let place = shifted_has (s * n.tablets) (choice used n.spare) t has in
    let below = own.1 place.0 place.1.0 in
    let long = used_length n words cycle s n.tablets in
    let is = place.1.1 in
    (omega arith, omega arith) in (
      append_once (chosen_upto n words cycle s) tablets before.0
          (shifted_once (s * n.tablets) (choice used n.spare) own.0)
          (λ t old new. let low = (within t new).0 in let high = before.1 t old in omega arith),
      (λ t has. ⊎_elim (λ old. let high = before.1 t old in omega arith)
          (λ new. let high = (within t new).1 in omega arith)
          (Contains-append_cases (chosen_upto n words cycle s) tablets t has)),
    )
