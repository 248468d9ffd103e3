-- The worked example holds.
use Rattle.std.proofs.Common.{◌≢◌, [], ◌∷◌, refl, lit<, lit≤, arith}
use Rattle.std.proofs.lemmas.List.Elements.{All-cons, All-nil}
use Rattle.mako_words.specs.declared.name.Name.{Name}
use Rattle.mako_shape.specs.Places.{index}
use Rattle.mako_step.specs.declared.act.Op.TheVariants.{Load, Store}
use Rattle.mako_gate.specs.Runs.{sees}
use Rattle.mako_evac.specs.Owners.{IsOwnEntry}
use Rattle.mako_evac.specs.Runs.TabletsPassed.{none as no_tablets, stays}
use Rattle.mako_evac.specs.Runs.EntriesPassed.{none as no_entries, frees}
use Rattle.mako_evac.specs.Rising.{RunsTo}
use Rattle.mako_evac.specs.Examples.{owner, freeing, freed}

pub is_freed : RunsTo owner 0 freeing freed 0
unfolding index
is_freed = record {
  tablets = sees 14 Load 0 ∷ [];
  entries =
      sees 16 Load 0x8000_0000_0000_0011
      ∷ sees 16 (Store 0x800_0000_0000) 0
      ∷ sees 9 Load 0
      ∷ sees 9 (Store 0x8000_0000_0000_0000) 0
      ∷ [];
  looks = sees 9 Load 0x8000_0000_0000_0000 ∷ sees 9 Load 0 ∷ [];
  last = 0;
  before = 0;
  tablets_passed = stays 0 [] no_tablets;
  entries_passed = frees 0 0 0 [] _ [] no_entries (record {
    front = sees 16 Load 0x8000_0000_0000_0011 ∷ sees 16 (Store 0x800_0000_0000) 0 ∷ [];
    stored = record { word = 0x8000_0000_0000_0011; dead = refl; generation_is = refl; before = 0; made = refl };
    looks = sees 9 Load 0 ∷ [];
    empty = record { looks = []; full = All-nil (λ w. w ≢ 0); made = refl };
    before = 0;
    made = refl;
  });
  empty = record {
    looks = 0x8000_0000_0000_0000 ∷ [];
    full = All-cons (λ w. w ≢ 0) 0x8000_0000_0000_0000 [] (λ e. absurd (omega (arith, e))) (All-nil (λ w. w ≢ 0));
    made = refl;
  };
  made = refl;
  rise = record {
    own = All-cons (λ (a : Name). IsOwnEntry owner a.entry) (record { entry = 0; generation = 0 }) []
        (record { from = lit≤ tt; below = lit< tt }) (All-nil (λ (a : Name). IsOwnEntry owner a.entry));
    rising = λ i j d low high. absurd (omega (arith, low, high));
  };
  slot_is = refl;
}
