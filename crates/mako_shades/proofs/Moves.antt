-- The general law in terms of one word and one facet.
use Rattle.std.proofs.Common.{◌≡◌, ℕ, ◌⊎◌, inl, inr, ⊎_elim, Contains, flat_map, slice_get, sym, ap, subst, ◌∙◌}
use Rattle.std.proofs.lemmas.Bool.{cases_eq}
use Rattle.std.proofs.lemmas.Option.{same_Some}
use Rattle.mako_words.specs.declared.name.Name.{Name}
use Rattle.mako_model.specs.Dead.{made_by}
use Rattle.mako_model.proofs.Lists.{get_set_same, get_set_other, get_set_cases}
use Rattle.mako_ring.specs.Shades.{entry_of, StandsInSlot, IsHeld, IsWorkedOn, IsWaiting}
use Rattle.mako_ring.specs.TraceFacets.{GreyIn, WorksOn}
use Rattle.mako_shades.specs.Holding.{Keeps, PutKnows}
use Rattle.mako_shades.proofs.General.{Act, Before, After, next_facets, Marked, NextMarked, Shaded, NextShaded}
use Rattle.mako_shades.proofs.General.{EverShaded, NextGood, Holds, NextHolds, AtSnap, Stands, Keeping, marked_cases}
use Rattle.mako_shades.proofs.General.{go_on}

abbrev pub Slot : Act → Name → Type 0
Slot a x = StandsInSlot a.numbers a.words x

abbrev pub NextSlot : Act → Name → Type 0
NextSlot a x = StandsInSlot a.numbers a.next_words x

abbrev pub address : Act → Name → ℕ
address a x = (entry_of a.numbers a.words x.entry).address

abbrev pub next_address : Act → Name → ℕ
next_address a x = (entry_of a.numbers a.next_words x.entry).address

-- What a step does to slots, to marks and to what its seat holds and has to do.
pub record Move (a : Act) (t : Before a) : Type 0 where
  pub slots : (x : Name) → Slot a x → NextSlot a x ⊎ GreyIn a.next_facet x
  pub held : (x : Name) → GreyIn a.facet x → GreyIn a.next_facet x ⊎ (NextSlot a x ⊎ NextMarked a x)
  pub marks : (x : Name) → Marked a x → NextMarked a x
  pub addresses : (x : Name) → Marked a x → next_address a x ≡ address a x
  pub new_slots : (x : Name) → NextSlot a x → Slot a x ⊎ NextGood a x
  pub new_held : (x : Name) → GreyIn a.next_facet x → GreyIn a.facet x ⊎ NextGood a x
  pub new_marks : (x : Name) → NextMarked a x → Marked a x ⊎ NextGood a x
  pub keeps : (x : Name) → Keeps a.next_facet x → NextGood a x
  pub holds : (object : Name) (field : ℕ) (x : Name) → AtSnap a t object field x → Holds a object field x
      → EverShaded a x ⊎ NextHolds a object field x
  pub works : (object : Name) (field : ℕ) (x : Name) → Holds a object field x → Marked a object
      → WorksOn a.facet object.entry (address a object) field
      → EverShaded a x ⊎ WorksOn a.next_facet object.entry (address a object) field
  pub begins : (object : Name) (field : ℕ) (x : Name) → Holds a object field x → (¬ Marked a object)
      → NextMarked a object → WorksOn a.next_facet object.entry (next_address a object) field
  pub puts : (object : Name) (field : ℕ) (x : Name) → AtSnap a t object field x
      → PutKnows a.next_facet object field x (EverShaded a x)
  pub news : (x : Name) → Contains (flat_map made_by a.points) x → NextMarked a x

module _ (a : Act) (t : Before a) (s : Stands a) where
  -- what the seat holds after the step, all hold
  pub held_here : (x : Name) → GreyIn a.next_facet x → IsHeld (next_facets a) x
  held_here x grey = record {
    seat = a.seat;
    facet = a.next_facet;
    at = get_set_same a.facets a.seat a.next_facet a.facet s.here;
    grey = grey;
  }

  held_else : (x : Name) → IsHeld a.facets x → GreyIn a.facet x ⊎ IsHeld (next_facets a) x
  held_else x h =
      ⊎_elim
      (λ e. inl (subst (λ f. GreyIn f x) (same_Some h.facet a.facet (sym h.at ∙ ap (slice_get a.facets) e ∙ s.here))
      h.grey))
      (λ other. inr (record {
        seat = h.seat;
        facet = h.facet;
        at = get_set_other a.facets a.seat h.seat a.next_facet other ∙ h.at;
        grey = h.grey;
      }))
      (cases_eq h.seat a.seat)

  held_was : (x : Name) → IsHeld (next_facets a) x → GreyIn a.next_facet x ⊎ IsHeld a.facets x
  held_was x h =
      ⊎_elim (λ c. inl (subst (λ f. GreyIn f x) (sym c.1) h.grey))
      (λ c. inr (record { seat = h.seat; facet = h.facet; at = c.1; grey = h.grey }))
      (get_set_cases a.facets a.seat h.seat a.next_facet h.facet h.at)

  works_here : (object : Name) (field : ℕ) → WorksOn a.next_facet object.entry (next_address a object) field
      → IsWorkedOn a.numbers a.next_words (next_facets a) object field
  works_here object field works = record {
    seat = a.seat;
    facet = a.next_facet;
    at = get_set_same a.facets a.seat a.next_facet a.facet s.here;
    works = works;
  }

  works_else : (object : Name) (field : ℕ) → next_address a object ≡ address a object
      → IsWorkedOn a.numbers a.words a.facets object field
      → WorksOn a.facet object.entry (address a object) field
      ⊎ IsWorkedOn a.numbers a.next_words (next_facets a) object field
  works_else object field same h =
      ⊎_elim
      (λ e. inl (subst (λ f. WorksOn f object.entry (address a object) field)
      (same_Some h.facet a.facet (sym h.at ∙ ap (slice_get a.facets) e ∙ s.here)) h.works))
      (λ other. inr (record {
        seat = h.seat;
        facet = h.facet;
        at = get_set_other a.facets a.seat h.seat a.next_facet other ∙ h.at;
        works = subst (λ k. WorksOn h.facet object.entry k field) (sym same) h.works;
      }))
      (cases_eq h.seat a.seat)

  module _ (m : Move a t) where
    moved_shades : (x : Name) → Shaded a x → NextShaded a x
    moved_shades x shaded =
        ⊎_elim
        (λ grey. ⊎_elim
        (λ slot. ⊎_elim (λ y. inl (inl y)) (λ y. inl (inr (held_here x y))) (m.slots x slot))
        (λ held. ⊎_elim
        (λ g. ⊎_elim (λ y. inl (inr (held_here x y))) (λ y. ⊎_elim (λ z. inl (inl z)) (λ z. inr z) y) (m.held x g))
        (λ y. inl (inr y)) (held_else x held)) grey)
        (λ marked. inr (m.marks x marked)) shaded

    moved_good : (x : Name) → NextShaded a x → Shaded a x ⊎ NextGood a x
    moved_good x shaded =
        ⊎_elim
        (λ grey. ⊎_elim
        (λ slot. ⊎_elim (λ y. inl (inl (inl y))) (λ y. inr y) (m.new_slots x slot))
        (λ held. ⊎_elim
        (λ g. ⊎_elim (λ y. inl (inl (inr (record { seat = a.seat; facet = a.facet; at = s.here; grey = y }))))
        (λ y. inr y) (m.new_held x g))
        (λ y. inl (inl (inr y))) (held_was x held)) grey)
        (λ marked. ⊎_elim (λ y. inl (inr y)) (λ y. inr y) (m.new_marks x marked)) shaded

    -- a field of an object that is marked after the step waits still
    moved_works : (object : Name) (field : ℕ) (x : Name) → Holds a object field x
        → IsWaiting a.numbers a.words a.facets a.cycle object field
        → EverShaded a x ⊎ IsWaiting a.numbers a.next_words (next_facets a) a.cycle object field
    moved_works object field x holds waiting =
        ⊎_elim
        (λ marked. ⊎_elim (λ unmarked. absurd (unmarked marked))
        (λ worked. ⊎_elim
        (λ works. ⊎_elim (λ y. inl y)
        (λ y. inr
        (inr (works_here object field (subst (λ k. WorksOn a.next_facet object.entry k field)
        (sym (m.addresses object marked)) y))))
        (m.works object field x holds marked works))
        (λ y. inr (inr y)) (works_else object field (m.addresses object marked) worked)) waiting)
        (λ unmarked. ⊎_elim (λ now. inr (inr (works_here object field (m.begins object field x holds unmarked now))))
        (λ still. inr (inl still))
        (marked_cases a.numbers a.next_words a.cycle object))
        (marked_cases a.numbers a.words a.cycle object)

    moved_keeping : Keeping a t
    moved_keeping = record {
      shades = moved_shades;
      good = moved_good;
      keeps = m.keeps;
      marks = m.marks;
      waits = λ object field x snap holds waiting.
          ⊎_elim (λ y. inl y)
          (λ after. ⊎_elim (λ y. inl y) (λ y. inr (after, y)) (moved_works object field x holds waiting))
          (m.holds object field x snap holds);
      puts = m.puts;
      news = m.news;
    }

    -- the law of one step
    pub moved : After a
    moved = go_on a t s moved_keeping
