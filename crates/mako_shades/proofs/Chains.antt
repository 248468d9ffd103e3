-- Steps of two kinds in one atomic step, and which names a server marks.
use Rattle.std.proofs.Common.{ℕ, ⊎_elim, List, ◌∷◌, Contains, flat_map, ap, subst, ◌∙◌}
use Rattle.std.proofs.lemmas.List.Elements.{Contains-append_cases}
use Rattle.mako_words.specs.declared.name.Name.{Name}
use Rattle.mako_shape.specs.declared.numbers.Numbers.{Numbers}
use Rattle.mako_model.specs.declared.point.Point.{Point}
use Rattle.mako_model.specs.declared.point.Point.TheVariants.{Snap}
use Rattle.mako_model.specs.Legal.{Facts}
use Rattle.mako_model.specs.Dead.{made_by, names_made}
use Rattle.mako_model.proofs.Histories.{names_append}
use Rattle.mako_ring.specs.Shades.{IsMarked}
use Rattle.mako_ring.specs.TraceFacets.{TraceFacet}
use Rattle.mako_names.specs.Uses.{IsGood}
use Rattle.mako_shades.specs.Holding.{TracingHolds}
use Rattle.mako_shades.specs.Laws.{HeapStandsIn, TracksIn}
use Rattle.mako_shades.specs.Steps.{TraceScene, TraceStep}
use Rattle.mako_shades.proofs.AllSteps.{step_kept}

-- a step of one kind, and then of another: only the words and the history between have to stand
pub two_kept : (n : Numbers) (w : Facts) (cycle : ℕ) (s mid after : TraceScene) → HeapStandsIn n w s
    → HeapStandsIn n w mid → TracksIn n w cycle s → TraceStep n w cycle s mid → TraceStep n w cycle mid after
    → TracksIn n w cycle after
two_kept n w cycle s mid after first second t one two =
    step_kept n w cycle mid after second (step_kept n w cycle s mid first t one) two

-- a good name that is not marked was made before the snapshot: so is each name that a server marks
pub unmarked_old : (n : Numbers) (w : Facts) (words : List ℕ) (facets : List TraceFacet) (history : List Point)
    (cycle : ℕ) (t : TracingHolds n w words facets history cycle) → (x : Name) → IsGood w history x
    → (¬ IsMarked n words cycle x) → Contains (names_made t.before) x
unmarked_old n w words facets history cycle t x good unmarked =
    ⊎_elim (λ old. old) (λ new. absurd (unmarked (t.news x new)))
    (Contains-append_cases (names_made t.before) (flat_map made_by (Snap cycle ∷ t.after)) x
    (subst (λ names. Contains names x)
    (ap names_made t.split ∙ names_append t.before (Snap cycle ∷ t.after)) good.made))
