-- The worked examples.
use Rattle.std.proofs.Common.{◌≡◌, ◌≢◌, ℕ, zero, suc, ◌+◌, ◌<◌, inl, inr, true, refl, sym, ap, ◌∙◌, subst, ◌==◌}
use Rattle.std.proofs.Common.{if◌then◌else◌, arith}
use Rattle.mako_shape.specs.Limits.{IsShape}
use Rattle.mako_shape.specs.Places.{Place, mutator_gate, tablet_gate, Within, total}
use Rattle.mako_shape.specs.Belongings.{tablet_of_entry, server_of_tablet, server_of_region}
use Rattle.mako_gate.specs.Changes.{Sets, tablets_of}
use Rattle.mako_gate.specs.Standings.{away, inside, at_tablet, has_drained, mutator_at, shutter_at}
use Rattle.mako_gate.specs.GateActions.{arrives, enters}
use Rattle.mako_gate.proofs.GatesTell.{gates_tell}
use Rattle.mako_layout.specs.Layouts.{Slot, regions_of, homes_at, gifts_at, home_words, cycle_words, taken_words}
use Rattle.mako_layout.specs.Layouts.{InGiven, Holds, OneCopy}
use Rattle.mako_layout.specs.Changes.{Puts, Clears}
use Rattle.mako_layout.specs.Facets.{Work, idle, reads, uses}
use Rattle.mako_layout.specs.Evacuations.{State, slot_at, Seat}
use Rattle.mako_layout.specs.Openings.{opening_words, opening_state}
use Rattle.mako_layout.specs.Steps as step
use Rattle.mako_layout.specs.Runs.{Reaches, opens, goes_on}
use Rattle.mako_layout.specs.Examples.{small, with_gates, with_mutator, board_in, slots_with, before_copy, after_copy}
use Rattle.mako_layout.specs.Examples.{WorkedUse, WorkedCopy, WrongLayouts}
use Rattle.mako_layout.proofs.Frames.{leaves_layout}
use Rattle.mako_layout.proofs.Puts.{put_kept}
use Rattle.mako_layout.proofs.Alterations.{clear_kept}
use Rattle.mako_layout.proofs.Opens as opens_at
use Rattle.mako_layout.proofs.Runs.{all_reached_hold}

is_shape : IsShape small
unfolding total
is_shape = record { in_range = record { each = omega arith }; entries = omega arith; words = omega arith }

-- ---- a mutator uses the board's record

board_slot : slot_at small (opening_state small 1) 0 ≡ board_in 0 0
board_slot =
    let stored = opens_at.slot_zero small is_shape 1 (omega arith) in
    let region : _ = sym (ap (λ (q : Slot). q.region) stored) ∙ opens_at.region_zero small is_shape 1 (omega arith) in
    let offset : _ = sym (ap (λ (q : Slot). q.offset) stored) ∙ opens_at.offset_zero small is_shape 1 (omega arith) in
    let size : _ = sym (ap (λ (q : Slot). q.size) stored) ∙ opens_at.size_zero small is_shape 1 (omega arith) in
    stored ∙ (λ i. record {
      taken = true;
      generation = 0;
      epoch = 0;
      region = region i;
      offset = offset i;
      size = size i;
    })

only_own : (q : Place) → Within small q → q ≢ mutator_gate 0 → with_gates 1 0 q ≡ opening_words small 1 q
only_own (mutator_gate m) h d = absurd (d (ap mutator_gate (let e : m ≡ 0 = omega arith in e)))
only_own q h d = refl

only_tablet : (q : Place) → Within small q → q ≢ tablet_gate 0 → with_gates 1 1 q ≡ with_gates 1 0 q
only_tablet (tablet_gate t) h d = absurd (d (ap tablet_gate (let e : t ≡ 0 = omega arith in e)))
only_tablet q h d = refl

entered_own : Reaches small 1 (with_mutator 1 0 inside idle)
entered_own =
    let sets : Sets small (opening_words small 1) (with_gates 1 0) (mutator_gate 0) 1 = record {
      here = refl;
      others = only_own;
    } in
    goes_on (opening_state small 1) 0 (with_mutator 1 0 inside idle) opens
    (step.acts (with_gates 1 0) 0 (mutator_at 0 away) (mutator_at 0 inside) (record { gate = refl; work = refl })
    (arrives 0 (omega arith) refl sets)
    (leaves_layout small (opening_words small 1) (with_gates 1 0) (mutator_gate 0) 1 sets tt) (λ t. refl)
    (inl (λ e. omega arith)))

entered_tablet : Reaches small 1 (with_mutator 1 1 (at_tablet 0) idle)
entered_tablet =
    let sets : Sets small (with_gates 1 0) (with_gates 1 1) (tablet_gate 0) 1 = record {
      here = refl;
      others = only_tablet;
    } in
    goes_on (with_mutator 1 0 inside idle) 0 (with_mutator 1 1 (at_tablet 0) idle) entered_own
    (step.acts (with_gates 1 1) 0 (mutator_at 0 inside)
    (mutator_at 0 (at_tablet 0)) (record { gate = refl; work = refl })
    (enters 0 0 (omega arith) (omega arith) refl sets)
    (leaves_layout small (with_gates 1 0) (with_gates 1 1) (tablet_gate 0) 1 sets tt) (λ t. refl)
    (inl (λ e. omega arith)))

-- it loads the entry, and then the home word
found_entry : Reaches small 1 (with_mutator 1 1 (at_tablet 0) (reads 0 0 0))
found_entry = subst (λ (q : Slot). Reaches small 1
    (with_mutator 1 1 (at_tablet 0) (reads 0 q.region q.offset))) board_slot
    (goes_on (with_mutator 1 1 (at_tablet 0) idle) 0 _ entered_tablet
    (step.load_entry 0 0 (mutator_at 0 (at_tablet 0)) (record { gate = refl; work = refl }) (omega arith) (omega arith)
    (ap (λ (q : Slot). q.taken) board_slot)))

used : Reaches small 1 (with_mutator 1 1 (at_tablet 0) (uses 0 0 0))
used = goes_on
    (with_mutator 1 1 (at_tablet 0) (reads 0 0 0)) 0 (with_mutator 1 1 (at_tablet 0) (uses 0 0 0)) found_entry
    (step.load_home 0 0 0 0 (mutator_at 0 (at_tablet 0)) (record { gate = refl; work = refl }) refl)

never : (s : State) (b : ℕ) (v w : Work) → Reaches small 1 s → Seat s 0 (mutator_at 0 (at_tablet 0)) v →
    Seat s 1 (shutter_at 1 (has_drained 0 b)) w → ⊥
never s b v w run mutator server =
    let e = all_reached_hold small is_shape 1 (omega arith) s run in
    let none = (gates_tell small s.words s.gates e.gates).drained.tablets_empty 0 1 0 (shutter_at 1 (has_drained 0 b))
    (mutator_at 0 (at_tablet 0))
    (omega arith) server.gate (omega arith) mutator.gate in
    omega arith

pub worked_use : WorkedUse
worked_use = record { board = board_slot; used = used; never = never }

-- ---- a copy

-- only the board's entry is taken
only_board : (board : Slot) (x : ℕ) → (slots_with board x).taken ≡ true → x ≡ 0
only_board board zero taken = refl
only_board board (suc x) taken = absurd (cc)

roles : (r : ℕ) → r < regions_of small →
    homes_at small before_copy r + gifts_at small before_copy r + before_copy.spare r ≡ 1
roles zero h = refl
roles (suc zero) h = refl
roles (suc (suc r)) h = absurd (omega arith)

home_own : (t : ℕ) → t < tablets_of small → server_of_region small 1 ≡ server_of_tablet small t
home_own zero h = refl
home_own (suc t) h = absurd (omega arith)

given_own : (t r : ℕ) → t < tablets_of small → 1 ≡ r + 1 → server_of_region small r ≡ server_of_tablet small t
given_own zero zero h e = refl
given_own zero (suc r) h e = absurd (omega arith)
given_own (suc t) r h e = absurd (omega arith)

whole : (x : ℕ) → (slots_with (board_in 1 0) x).taken ≡ true →
    InGiven small before_copy (tablet_of_entry small x) (slots_with (board_in 1 0) x)
whole zero taken = record { region = refl; below = omega arith; old = λ e. absurd (omega arith) }
whole (suc x) taken = absurd (cc)

none_home : (t : ℕ) → t < tablets_of small → home_words small before_copy t ≡ 0
none_home zero h = refl
none_home (suc t) h = absurd (omega arith)

two_taken : (t : ℕ) → t < tablets_of small →
    (taken_words small before_copy t ≡ 2) × (cycle_words small before_copy t ≡ 2)
two_taken zero h = (refl, refl)
two_taken (suc t) h = absurd (omega arith)

none_fresh : (x : ℕ) → (slots_with (board_in 1 0) x).taken ≡ true → (slots_with (board_in 1 0) x).region ≡ 1 → ⊥
none_fresh zero taken here = omega arith
none_fresh (suc x) taken here = cc

before : OneCopy small before_copy
before = record {
  role = roles;
  home_in = λ t h. omega arith;
  given_in = λ t h. omega arith;
  home_own = home_own;
  given_own = given_own;
  whole = λ x h taken. inr (whole x taken);
  one = λ x y r o hx hy a b. only_board (board_in 1 0) x a.taken ∙ sym (only_board (board_in 1 0) y b.taken);
  room = λ t h. omega (arith, none_home t h);
  within = λ t h. omega arith;
  made_in = λ t h. omega arith;
  made_all = λ t h. omega (arith, (two_taken t h).0);
  leaves = λ t h left. refl;
  exact = λ t h left. none_home t h;
  fresh = λ x h taken left here. absurd (none_fresh x taken here);
  cycle_fits = λ t h left. omega (arith, (two_taken t h).1);
}

-- the other entries stay
others : (was now : Slot) (y : ℕ) → y ≢ 0 → slots_with now y ≡ slots_with was y
others was now zero d = absurd (d refl)
others was now (suc y) d = refl

copy : Puts small before_copy (slots_with (board_in 1 1)) (λ t. 2) (λ t. 2) 0
copy = record {
  inside = omega arith;
  taken = refl;
  epoch = refl;
  region = refl;
  offset = refl;
  fits = omega arith;
  out = λ taken e. omega arith;
  was = λ left. (refl, refl, refl);
  origin = inr (refl, refl, λ e. omega arith);
  made = λ u h. omega arith;
  others = λ y h d. others (board_in 1 0) (board_in 1 1) y d;
  raised = refl;
  filled = λ u h d. absurd (d (let e : u ≡ 0 = omega arith in e));
}

after : OneCopy small after_copy
after = put_kept small before_copy before (slots_with (board_in 1 1)) (λ t. 2) (λ t. 2) 0 copy

moved : (x : ℕ) → (slots_with (board_in 1 1) x).taken ≡ true → (slots_with (board_in 1 1) x).region ≡ 1
moved zero taken = refl
moved (suc x) taken = absurd (cc)

clearing : Clears small after_copy (λ t. 0) 0
clearing = record {
  inside = omega arith;
  left = λ e. omega arith;
  moved = λ x h same taken now. moved x taken;
  cleared = refl;
  others = λ u h d. absurd (d (let e : u ≡ 0 = omega arith in e));
}

pub worked_copy : WorkedCopy
worked_copy = record {
  before = before;
  copy = copy;
  after = after;
  exact = refl;
  clearing = clearing;
  cleared = clear_kept small after_copy after (λ t. 0) 0 clearing;
}

-- ---- wrong layouts

differ : (a b : ℕ) → a < b → a ≡ b → ⊥
differ a b less same = omega arith

cleared_too_soon : OneCopy small (record before_copy { leaving = λ t. 0 }) → ⊥
cleared_too_soon o = elim (o.whole 0 (omega arith) refl)
    [ inl i ↦ differ 0 1 (omega arith) i.region | inr g ↦ g.old refl refl ]

not_counted : OneCopy small (record after_copy { filled = λ t. 0 }) → ⊥
not_counted o = differ 0 2 (omega arith) (sym (o.exact 0 (omega arith) (λ e. omega arith)))

spare_too_soon : OneCopy small (record before_copy { spare = λ r. if r == 0 then 1 else 0 }) → ⊥
spare_too_soon o = differ 1 2 (omega arith) (sym (o.role 0 (omega arith)))

not_moved : Puts small before_copy (slots_with (board_in 1 0)) (λ t. 2) (λ t. 2) 0 → ⊥
not_moved p = differ 0 1 (omega arith) p.region

shared : OneCopy small (record after_copy { slot = λ x. board_in 1 1 }) → ⊥
shared o =
    let here : Holds (board_in 1 1) 1 0 = record {
      taken = refl;
      region = refl;
      low = omega arith;
      high = omega arith;
    } in
    differ 0 1 (omega arith) (o.one 0 1 1 0 (omega arith) (omega arith) here here)

pub wrong_layouts : WrongLayouts
wrong_layouts = record {
  cleared_too_soon = cleared_too_soon;
  not_counted = not_counted;
  spare_too_soon = spare_too_soon;
  not_moved = not_moved;
  shared = shared;
}
