-- The worked examples hold.
use Rattle.std.proofs.Common.{◌≡◌, ℕ, ◌+◌, ◌<◌, List, [], ◌∷◌, refl, lit<, lit≤, subst, arith}
use Rattle.mako_shape.specs.Places.{index}
use Rattle.mako_step.specs.Trails.{Observation}
use Rattle.mako_step.specs.declared.act.Op.TheVariants.{Load, Store, Add, Sub, Exchange}
use Rattle.mako_alloc.specs.Causes.{IsFull, IsMade, null_stores}
use Rattle.mako_alloc.specs.Notes.{IsFirstNote}
use Rattle.mako_gate.specs.Runs.{sees}
use Rattle.mako_gate.specs.Standings.{with_turn, arrived, holds_turn}
use Rattle.mako_alloc.specs.Standings.{StandsBy, arrivals, leaves, turns_taken, turns_given}
use Rattle.mako_alloc.specs.Examples.{job, making, made, shut_out, found_shut}

-- what was seen before the entry
abbrev before : List Observation
before = sees 10 (Add 1) 0 ∷ sees 11 (Exchange 0 1) 0 ∷ sees 14 Load 0 ∷ sees 13 Load 2 ∷ []

pub is_made : IsMade job making made 0
unfolding index null_stores
is_made = record {
  made = record { name = made; home = 1; top = 2 };
  name_is = refl;
  stored = record {
    earlier = before;
    word = 0x800_0000_0000;
    place = 0;
    later =
        sees 35 (Store 1) 0 ∷ sees 36 (Store 0) 0 ∷ sees 13 (Store 4) 0 ∷ sees 16 (Store 0x8000_0800_0080_0023) 0 ∷ [];
    tablet = lit< tt;
    place_below = lit< tt;
    entry_is = refl;
    free = record { free = refl; generation_is = refl; left = lit< tt };
    room = lit≤ tt;
    entered = record {
      admitted = (0, refl, (0, lit< tt, refl));
      turn_taken = (1, lit< tt, refl);
      stays = (2, lit< tt, refl);
    };
    top_seen = (3, lit< tt, refl);
    splits = refl;
    acts_are = refl;
  };
}

only_tablet : (t : ℕ) → t < 1 → 0 ≡ t
only_tablet t h = omega (arith, h)

pub stands_with_its_turn : StandsBy job.shape making (with_turn 0)
unfolding index
stands_with_its_turn = record {
  gates = λ t h. subst (λ (u : ℕ). arrivals job.shape u making ≡ leaves job.shape u making + arrived u (with_turn 0))
      (only_tablet t h) refl;
  turns = λ t h. subst
      (λ (u : ℕ). turns_taken job.shape u making ≡ turns_given job.shape u making + holds_turn u (with_turn 0))
      (only_tablet t h) refl;
}

pub is_noted : IsFirstNote job shut_out found_shut
unfolding index
is_noted = record {
  earlier = [];
  observation = sees 10 (Add 1) 0x1_0001;
  later = sees 10 (Sub 1) 0x1_0002 ∷ [];
  splits = refl;
  tells = (lit< tt, refl, refl);
  first = λ k d below. absurd (omega (arith, below));
}

pub is_not_full : ¬ IsFull job shut_out
unfolding index
is_not_full h = h.no_note 0 (sees 10 (Add 1) 0) (lit< tt) found_shut (lit< tt, refl, refl)
