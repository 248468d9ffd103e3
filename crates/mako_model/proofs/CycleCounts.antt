-- How many snapshots there are, and how many there may be.
use Rattle.std.proofs.Common.{◌≡◌, ◌≤◌, List, ap, refl, ◌∙◌, arith}
use Rattle.mako_words.specs.declared.name.Name.{Name}
use Rattle.mako_model.specs.declared.point.Point.{Point}
use Rattle.mako_model.specs.declared.point.Point.TheVariants.{Did, Snap}
use Rattle.mako_model.specs.Heaps.{Heap}
use Rattle.mako_model.specs.Lawful.{IsLawful, heap_after}
use Rattle.mako_model.specs.Legal.{Facts, state_of, IsLegal}
use Rattle.mako_model.specs.Dead.{made_by}
use Rattle.mako_model.proofs.Changes.{Change, Nothing, Snapped, Rooted, Written, New, change_of}
use Rattle.mako_model.proofs.DeadApart.{snaps_replied}
use Rattle.mako_model.proofs.Histories.{kept}

cycles_changed : (h after : Heap) (made : List Name) → Change h after made → after.cycles ≡ h.cycles
cycles_changed h after made (Nothing e none) = ap (λ (a : Heap). a.cycles) e
cycles_changed h after made (Snapped e none) = ap (λ (a : Heap). a.cycles) e
cycles_changed h after made (Rooted m q v root at e none) = ap (λ (a : Heap). a.cycles) e
cycles_changed h after made (Written m q name fields i v refers at e none) = ap (λ (a : Heap). a.cycles) e
cycles_changed h after made (New m q name fields root fresh e one) = ap (λ (a : Heap). a.cycles) e

-- how many cycles there may be stays the same
pub cycles_stay : (w : Facts) (history : List Point) → IsLegal w history → (state_of w history).cycles ≡ w.cycles
cycles_stay w history legal =
    kept (λ h. h.cycles ≡ w.cycles)
    (λ h p lawful same. cycles_changed h (heap_after h p) (made_by p) (change_of h p lawful) ∙ same) w history legal
    refl

snaps_below : (h : Heap) (p : Point) → IsLawful h p → h.snaps ≤ h.cycles → (heap_after h p).snaps ≤ h.cycles
snaps_below h (Did m c r) lawful few = let same = snaps_replied h m c r in omega arith
snaps_below h (Snap cycle) lawful few = let number = lawful.0 in let left = lawful.1 in omega arith

-- there are no more snapshots than cycles
pub few_snaps : (w : Facts) (history : List Point) → IsLegal w history → (state_of w history).snaps ≤ w.cycles
few_snaps w history legal =
    let few = kept (λ h. h.snaps ≤ h.cycles)
    (λ h p lawful below.
    let same = cycles_changed h (heap_after h p) (made_by p) (change_of h p lawful) in
    let next = snaps_below h p lawful below in
    (let d : (heap_after h p).snaps ≤ (heap_after h p).cycles = omega arith in d)) w history legal (omega arith) in
    let same = cycles_stay w history legal in
    omega arith
