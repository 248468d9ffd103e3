-- What the parts of the collector say of servers and of kept phases.
use Rattle.std.proofs.Common.{◌≡◌, ◌≢◌, ℕ, ◌+◌, ◌-◌, ◌*◌, ◌/◌, ◌%◌, ◌<◌, ◌≤◌, ◌^◌, inl, inr, ⊎_elim, List, Bool, false}
use Rattle.std.proofs.Common.{eqb, sym, ap, subst, refl, ◌∙◌, arith}
use Rattle.std.proofs.lemmas.Bool.{cond_both, eqb-true, eqb-false}
use Rattle.std.proofs.lemmas.Nat.{div-mul-add}
use Rattle.std.proofs.Math.Nat.{mul-add, mul-le-mul_left}
use Rattle.mako_words.specs.declared.name.Name.{Name}
use Rattle.mako_words.specs.Phases.{phase_at, FitsPhase}
use Rattle.mako_words.proofs.PhaseWords.{phase_at-phase_word}
use Rattle.mako_shape.specs.declared.numbers.Numbers.{Numbers}
use Rattle.mako_shape.specs.Limits.{IsShape}
use Rattle.mako_shape.specs.Places.{phase, leaving, Within, word_at}
use Rattle.mako_shape.specs.Belongings.{server_of_tablet}
use Rattle.mako_phases.specs.Facets.{Part, idle, pausing, rooting, tracing, choosing, evacuating, stopped, TabletStage}
use Rattle.mako_phases.specs.Facets.{looking, ServerStage, resting, working, clearing, freeing, gone, phase_during}
use Rattle.mako_phases.specs.Facets.{cycle_during, IsRestful, IsInPause}
use Rattle.mako_phases.specs.Orders.{BoundFits, WordsStand, IsTracePhase, ServerFits, HasPassed, ServerStands}
use Rattle.mako_phases.specs.Steps.{next_tablet, stage_turned}

pub cycles_fit : (n : Numbers) → IsShape n → n.cycles < 2 ^ 20
cycles_fit n sh = let h = sh.in_range.each.2.2.2.2.2.2.2.2.1 in omega arith

pub tablets_some : (n : Numbers) → IsShape n → 0 < n.tablets
tablets_some n sh = let h = sh.in_range.each.2.2.0 in omega arith

pub bound_cycle : (n : Numbers) (part : Part) → BoundFits n part → cycle_during part ≤ n.cycles
bound_cycle n (idle c) b = b
bound_cycle n (pausing c) b = omega arith
bound_cycle n (rooting c k) b = let h = b.0 in omega arith
bound_cycle n (tracing c) b = b
bound_cycle n (choosing c left) b = b
bound_cycle n (evacuating c k) b = b
bound_cycle n (stopped c) b = b

-- the phase that is loaded is that of the part
pub phase_found : (n : Numbers) (words : List ℕ) (part : Part) (pending : List Name) → IsShape n
    → WordsStand n words part pending → phase_at (word_at n words phase) ≡ phase_during part
phase_found n words part pending sh w =
    let b = bound_cycle n part w.bound in
    let room = cycles_fit n sh in
    let fits : FitsPhase (phase_during part) = omega arith in
    ap phase_at w.phase_is ∙ phase_at-phase_word (phase_during part) fits

-- ---- tablets of a server

pub own_tablet_low : (n : Numbers) (s u : ℕ) → 0 < n.tablets → server_of_tablet n u ≡ s → s * n.tablets ≤ u
own_tablet_low n s u some own =
    let whole : n.tablets * (u / n.tablets) + u % n.tablets ≡ u = omega arith in
    let same : n.tablets * (u / n.tablets) ≡ n.tablets * s = ap (λ (k : ℕ). n.tablets * k) own in
    omega arith

pub own_tablet_high : (n : Numbers) (s u : ℕ) → 0 < n.tablets → server_of_tablet n u ≡ s → u < (s + 1) * n.tablets
own_tablet_high n s u some own =
    let whole : n.tablets * (u / n.tablets) + u % n.tablets ≡ u = omega arith in
    let low : u % n.tablets < n.tablets = omega arith in
    let same : n.tablets * (u / n.tablets) ≡ n.tablets * s = ap (λ (k : ℕ). n.tablets * k) own in
    omega arith

div_is : (t s u : ℕ) → 0 < t → s * t ≤ u → u < (s + 1) * t → u / t ≡ s
div_is t s u some low high = let e = div-mul-add s t (u - s * t) (omega arith) in let f : s * t + (u - s * t) ≡ u =
    omega arith in ap (λ (k : ℕ). k / t) (sym f) ∙ e

pub first_tablet : (n : Numbers) (s : ℕ) → 0 < n.tablets → s < n.servers
    → (s * n.tablets < n.servers * n.tablets) × (server_of_tablet n (s * n.tablets) ≡ s)
first_tablet n s some known =
    let room : n.tablets * (s + 1) ≤ n.tablets * n.servers = mul-le-mul_left n.tablets (omega arith) in
    let more : n.tablets * (s + 1) ≡ n.tablets * s + n.tablets * 1 = mul-add n.tablets s 1 in
    (omega arith, div_is n.tablets s (s * n.tablets) some (omega arith) (omega arith))

pub later_tablet : (n : Numbers) (s t : ℕ) → 0 < n.tablets → s < n.servers → server_of_tablet n t ≡ s
    → t + 1 ≢ (s + 1) * n.tablets → (t + 1 < n.servers * n.tablets) × (server_of_tablet n (t + 1) ≡ s)
later_tablet n s t some known own more =
    let low = own_tablet_low n s t some own in
    let high = own_tablet_high n s t some own in
    let room : n.tablets * (s + 1) ≤ n.tablets * n.servers = mul-le-mul_left n.tablets (omega arith) in
    let next : t + 1 < (s + 1) * n.tablets = omega arith in
    (omega arith, div_is n.tablets s (t + 1) some (omega arith) next)

-- ---- a server at another part of the collector

pub server_part : (n : Numbers) (words : List ℕ) (p q : Part) (s : ℕ) (stage : ServerStage) (ended : ℕ) (laden : Bool)
    → cycle_during q ≡ cycle_during p → ServerStands n words p s stage ended laden
    → ServerFits q s stage ended → (IsRestful q → laden ≡ false) → ServerStands n words q s stage ended laden
server_part n words p q s stage ended laden same st fits rests = record {
  known = st.known;
  fits = fits;
  rests = rests;
  own = st.own;
  passed = λ u within own has. st.passed u within own (subst (λ c. HasPassed c stage ended u) same has);
  at_leaving = st.at_leaving;
  told = λ slot within e. st.told slot within e ∙ sym same;
}

-- ---- a server goes on

module _ (n : Numbers) (words : List ℕ) (part : Part) (s ended : ℕ) (laden : Bool) where
  -- from its turn to its end
  goes_off : ServerStands n words part s resting ended laden → ServerFits part s gone ended
      → ServerStands n words part s gone ended laden
  goes_off st fits = record {
    known = st.known;
    fits = fits;
    rests = st.rests;
    own = tt;
    passed = λ u within own has. st.passed u within own has;
    at_leaving = λ u at. absurd at;
    told = st.told;
  }

  -- to its work
  goes_to_work : (d : ℕ) → ServerStands n words part s resting ended laden → ServerFits part s (working d) ended
      → ServerStands n words part s (working d) ended laden
  goes_to_work d st fits = record {
    known = st.known;
    fits = fits;
    rests = st.rests;
    own = tt;
    passed = λ u within own has. st.passed u within own has;
    at_leaving = λ u at. absurd at;
    told = st.told;
  }

  -- from its work to its turn
  comes_back : (d : ℕ) → ServerStands n words part s (working d) ended laden → ServerFits part s resting ended
      → ServerStands n words part s resting ended laden
  comes_back d st fits = record {
    known = st.known;
    fits = fits;
    rests = st.rests;
    own = tt;
    passed = λ u within own has. st.passed u within own has;
    at_leaving = λ u at. absurd at;
    told = st.told;
  }

  -- to its first tablet
  goes_to_tablets : (d : ℕ) → 0 < n.tablets → ServerStands n words part s resting ended laden
      → ServerFits part s (clearing d (s * n.tablets) looking) ended
      → ServerStands n words part s (clearing d (s * n.tablets) looking) ended laden
  goes_to_tablets d some st fits = record {
    known = st.known;
    fits = fits;
    rests = st.rests;
    own = first_tablet n s some st.known;
    passed =
        λ u within own has. st.passed u within own
        (⊎_elim (λ e. inl e) (λ below. let low = own_tablet_low n s u some own in absurd (omega arith)) has);
    at_leaving = λ u at. absurd at.1;
    told = st.told;
  }

  -- to the next tablet, or past the last one
  pub goes_on : (d t : ℕ) (at : TabletStage) → 0 < n.tablets → ServerStands n words part s (clearing d t at) ended laden
      → ((u : ℕ) → Within n (leaving u) → server_of_tablet n u ≡ s → u ≤ t → word_at n words (leaving u) ≡ 0)
      → ((next : ℕ) → ServerFits part s (clearing d next looking) ended) → ServerFits part s (freeing d) ended
      → ServerStands n words part s (next_tablet n s d t) ended laden
  goes_on d t at some st upto fits last =
      cond_both (eqb (t + 1) ((s + 1) * n.tablets)) (freeing d) (clearing d (t + 1) looking)
      (λ (stage : ServerStage). ServerStands n words part s stage ended laden)
      (λ is. let e : t + 1 ≡ (s + 1) * n.tablets = eqb-true (t + 1) ((s + 1) * n.tablets) is in record {
        known = st.known;
        fits = last;
        rests = st.rests;
        own = tt;
        passed = λ u within own has. upto u within own (let high = own_tablet_high n s u some own in omega arith);
        at_leaving = λ u a. absurd a;
        told = st.told;
      })
      (λ is. record {
        known = st.known;
        fits = fits (t + 1);
        rests = st.rests;
        own = later_tablet n s t some st.known st.own.1 (eqb-false (t + 1) ((s + 1) * n.tablets) is);
        passed =
            λ u within own has.
            ⊎_elim (λ e. st.passed u within own (inl e)) (λ below. upto u within own (omega arith)) has;
        at_leaving = λ u a. absurd a.1;
        told = st.told;
      })

-- what it does at its turn fits the part
pub turn_stands : (n : Numbers) (words : List ℕ) (part : Part) (s ended : ℕ) (laden : Bool) → 0 < n.tablets
    → ServerStands n words part s resting ended laden
    → ServerStands n words part s (stage_turned n s ended (phase_during part)) ended laden
turn_stands n words (idle c) s ended laden some st = st
turn_stands n words (pausing c) s ended laden some st = st
turn_stands n words (rooting c k) s ended laden some st = st
turn_stands n words (tracing c) s ended laden some st =
    goes_to_work n words (tracing c) s ended laden c st (refl, st.fits.1)
turn_stands n words (choosing c left) s ended laden some st =
    goes_to_work n words (choosing c left) s ended laden c st (refl, st.fits.1)
turn_stands n words (stopped c) s ended laden some st = goes_off n words (stopped c) s ended laden st (tt, st.fits.1)
turn_stands n words (evacuating c k) s ended laden some st =
    cond_both (eqb ended c) resting (clearing c (s * n.tablets) looking)
    (λ (stage : ServerStage). ServerStands n words (evacuating c k) s stage ended laden)
    (λ is. st)
    (λ is. goes_to_tablets n words (evacuating c k) s ended laden c some st
    ((refl, ⊎_elim (λ e. absurd (eqb-false ended c is e)) (λ e. e) st.fits.0), st.fits.1))

-- a server that has traced what there was is at its turn
pub back_stands : (n : Numbers) (words : List ℕ) (part : Part) (s d ended : ℕ) (laden : Bool)
    → ServerStands n words part s (working d) ended laden → ServerStands n words part s resting ended laden
back_stands n words (idle c) s d ended laden st = absurd st.fits.0
back_stands n words (pausing c) s d ended laden st = absurd st.fits.0
back_stands n words (rooting c k) s d ended laden st = absurd st.fits.0
back_stands n words (tracing c) s d ended laden st = comes_back n words (tracing c) s ended laden d st (tt, st.fits.1)
back_stands n words (choosing c left) s d ended laden st =
    comes_back n words (choosing c left) s ended laden d st (tt, st.fits.1)
back_stands n words (stopped c) s d ended laden st = absurd st.fits.0
back_stands n words (evacuating c k) s d ended laden st =
    comes_back n words (evacuating c k) s ended laden d st (inr st.fits.0.1, st.fits.1)

-- it works in the present cycle
pub work_cycle : (part : Part) (s d ended : ℕ) → ServerFits part s (working d) ended → d ≡ cycle_during part
work_cycle (idle c) s d ended fits = absurd fits.0
work_cycle (pausing c) s d ended fits = absurd fits.0
work_cycle (rooting c k) s d ended fits = absurd fits.0
work_cycle (tracing c) s d ended fits = fits.0
work_cycle (choosing c left) s d ended fits = fits.0
work_cycle (stopped c) s d ended fits = absurd fits.0
work_cycle (evacuating c k) s d ended fits = fits.0.0

-- the tablet that it evacuates may be any
pub clear_fits : (part : Part) (s d t ended : ℕ) (at : TabletStage) → ServerFits part s (clearing d t at) ended
    → (u : ℕ) (next : TabletStage) → ServerFits part s (clearing d u next) ended
clear_fits (idle c) s d t ended at fits u next = absurd fits.0
clear_fits (pausing c) s d t ended at fits u next = absurd fits.0
clear_fits (rooting c k) s d t ended at fits u next = absurd fits.0
clear_fits (tracing c) s d t ended at fits u next = absurd fits.0
clear_fits (choosing c left) s d t ended at fits u next = absurd fits.0
clear_fits (stopped c) s d t ended at fits u next = absurd fits.0
clear_fits (evacuating c k) s d t ended at fits u next = fits

pub free_fits : (part : Part) (s d t ended : ℕ) (at : TabletStage) → ServerFits part s (clearing d t at) ended
    → ServerFits part s (freeing d) ended
free_fits (idle c) s d t ended at fits = absurd fits.0
free_fits (pausing c) s d t ended at fits = absurd fits.0
free_fits (rooting c k) s d t ended at fits = absurd fits.0
free_fits (tracing c) s d t ended at fits = absurd fits.0
free_fits (choosing c left) s d t ended at fits = absurd fits.0
free_fits (stopped c) s d t ended at fits = absurd fits.0
free_fits (evacuating c k) s d t ended at fits = fits

-- a mutator that keeps Trace while gates are open
pub shading_part : (part : Part) → IsTracePhase (phase_during part) → (¬ IsInPause part) → ¬ IsRestful part
shading_part (idle c) is not = absurd is
shading_part (pausing c) is not = absurd is
shading_part (rooting c k) is not = absurd is
shading_part (tracing c) is not = λ rest. rest
shading_part (choosing c left) is not = absurd (not tt)
shading_part (stopped c) is not = absurd is
shading_part (evacuating c k) is not = absurd is
