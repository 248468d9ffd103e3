-- Where the heap is complete, the marked names are exactly the good ones.
use Rattle.std.proofs.Common.{◌≡◌, ℕ, inr, ⊎_elim, ◌↔◌, Bool, List, ◌∷◌, Contains, flat_map, sym, ap, subst, ◌∙◌, arith}
use Rattle.std.proofs.lemmas.List.Elements.{Contains-append_cases}
use Rattle.mako_words.specs.declared.name.Name.{Name}
use Rattle.mako_shape.specs.declared.numbers.Numbers.{Numbers}
use Rattle.mako_shape.specs.Places.{Place, barrier, work, ghost, Within, word_at}
use Rattle.mako_model.specs.declared.point.Point.{Point}
use Rattle.mako_model.specs.declared.point.Point.TheVariants.{Snap}
use Rattle.mako_model.specs.Legal.{Facts, state_of, IsLegal}
use Rattle.mako_model.specs.Reachable.{IsReachable}
use Rattle.mako_model.specs.Dead.{made_by, names_made, IsDead}
use Rattle.mako_model.proofs.Histories.{names_append}
use Rattle.mako_model.proofs.DeadApart.{snap_number}
use Rattle.mako_ring.specs.Shades.{IsMarked, IsShadeSlot, IsGrey, IsShaded, IsComplete}
use Rattle.mako_ring.specs.TraceFacets.{TraceFacet}
use Rattle.mako_names.specs.Uses.{IsGood}
use Rattle.mako_shades.specs.Holding.{HoldsName, TracingHolds}
use Rattle.mako_shades.proofs.Goods.{reaches_all}
use Rattle.mako_shades.proofs.Words.{no_zero_name}
use Rattle.mako_shades.proofs.General.{marked_cases}
use Rattle.mako_shades.proofs.Snapshots.{idle_not_grey, idle_not_working}

module _ (n : Numbers) (w : Facts) (words : List ℕ) (facets : List TraceFacet) (history : List Point) (cycle : ℕ)
    (legal : IsLegal w history) (t : TracingHolds n w words facets history cycle) (admitted : ℕ → Bool)
    (complete : IsComplete n words facets admitted) where
  slot_empty : (p : Place) → IsShadeSlot p → Within n p → word_at n words p ≡ 0
  slot_empty (barrier m slot) is within = complete.barriers m slot within
  slot_empty (work s slot) is within = complete.quiet.works s slot within
  slot_empty (ghost sender receiver slot) is within = complete.quiet.ghosts sender receiver slot within
  slot_empty p is within = absurd is

  none_grey : (x : Name) → IsGrey n words facets x → ⊥
  none_grey x grey =
      ⊎_elim (λ s. no_zero_name x s.fits (sym (slot_empty s.place s.is_slot s.within) ∙ s.word_is))
      (λ held. idle_not_grey held.facet x (complete.quiet.seats held.seat held.facet held.at) held.grey) grey

  shaded_marked : (x : Name) → IsShaded n words facets cycle x → IsMarked n words cycle x
  shaded_marked x shaded = ⊎_elim (λ grey. absurd (none_grey x grey)) (λ marked. marked) shaded

  handed : (object : Name) (field : ℕ) (x : Name) → IsReachable (state_of w t.before) object
      → HoldsName (state_of w t.before) object field x → IsMarked n words cycle object → IsMarked n words cycle x
  handed object field x reached held marked =
      ⊎_elim (λ shaded. shaded_marked x shaded)
      (λ kept. ⊎_elim (λ unmarked. absurd (unmarked marked))
      (λ worked. absurd (idle_not_working worked.facet _ _ field (complete.quiet.seats worked.seat worked.facet
      worked.at) worked.works)) kept.1)
      (t.fields object field x reached held)

  -- each name that was reachable at the snapshot is marked
  pub reachable_marked : (x : Name) → IsReachable (state_of w t.before) x → IsMarked n words cycle x
  reachable_marked x reached =
      reaches_all (state_of w t.before) (IsMarked n words cycle) handed (λ y root. shaded_marked y (t.roots y root)) x
      reached

  -- each name that was made and is not marked is dead
  pub unmarked_dead : (x : Name) → Contains (names_made history) x → (¬ IsMarked n words cycle x)
      → IsDead w history cycle x
  unmarked_dead x made unmarked =
      ⊎_elim
      (λ old. record {
        before = t.before;
        after = t.after;
        numbered = (let number = snap_number w t.before cycle t.after (subst (IsLegal w) t.split legal) in omega arith);
        split = t.split;
        made = old;
        unreached = λ reached. unmarked (reachable_marked x reached);
      })
      (λ new. absurd (unmarked (t.news x new)))
      (Contains-append_cases (names_made t.before) (flat_map made_by (Snap cycle ∷ t.after)) x
      (subst (λ names. Contains names x) (ap names_made t.split ∙ names_append t.before (Snap cycle ∷ t.after)) made))

  pub good_marked : (x : Name) → IsGood w history x → IsMarked n words cycle x
  good_marked x good =
      ⊎_elim (λ marked. marked)
      (λ unmarked. absurd
      (good.kept (subst (λ c. IsDead w history c x) (sym t.latest) (unmarked_dead x good.made unmarked))))
      (marked_cases n words cycle x)

  -- the marked names are exactly the good ones
  pub marks_are_the_good : (x : Name) → IsMarked n words cycle x ↔ IsGood w history x
  marks_are_the_good x = ((λ marked. t.shades x (inr marked)), (λ good. good_marked x good))
