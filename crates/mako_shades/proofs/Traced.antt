-- Where the heap is complete, each taken entry is told; and it stays told until the next snapshot.
use Rattle.std.proofs.Common.{ℕ, inl, inr, ⊎_elim, Bool, List, ◌++◌, sym, ◌∙◌}
use Rattle.std.proofs.lemmas.Bool.{cases_eq}
use Rattle.mako_shape.specs.declared.numbers.Numbers.{Numbers}
use Rattle.mako_model.specs.declared.point.Point.{Point}
use Rattle.mako_model.specs.Legal.{Facts, IsLegal}
use Rattle.mako_model.proofs.Growth.{dead_stays}
use Rattle.mako_ring.specs.Shades.{entry_of, IsComplete}
use Rattle.mako_ring.specs.TraceFacets.{TraceFacet}
use Rattle.mako_shades.specs.Holding.{TracingHolds}
use Rattle.mako_shades.specs.Stands.{HeapStands, AreTraced, Retakes}
use Rattle.mako_shades.proofs.Goods.{SameSnaps, good_stays}
use Rattle.mako_shades.proofs.Taken.{taken_marked}
use Rattle.mako_shades.proofs.Completes.{unmarked_dead}

pub complete_traced : (n : Numbers) (w : Facts) (words : List ℕ) (facets : List TraceFacet) (history : List Point)
    (cycle : ℕ) (admitted : ℕ → Bool) → HeapStands n w words history → TracingHolds n w words facets history cycle
    → IsComplete n words facets admitted → AreTraced n w words history cycle
complete_traced n w words facets history cycle admitted st t complete x is =
    ⊎_elim (λ epoch. inl (epoch, t.shades x (inr (taken_marked n words cycle x is epoch))))
    (λ other. inr (
      other,
      unmarked_dead n w words facets history cycle st.legal t admitted complete x (st.made x is)
          (λ m. other m.epoch),
    ))
    (cases_eq (entry_of n words x.entry).epoch cycle)

-- what is told stays told
pub traced_on : (n : Numbers) (w : Facts) (words words' : List ℕ) (history points : List Point) (cycle : ℕ)
    → IsLegal w (history ++ points) → SameSnaps w history (history ++ points)
    → Retakes n w words words' (history ++ points) cycle → AreTraced n w words history cycle
    → AreTraced n w words' (history ++ points) cycle
traced_on n w words words' history points cycle legal still takes traced x is =
    ⊎_elim
    (λ was. ⊎_elim (λ c. inl (sym was.1 ∙ c.0, good_stays w history points legal still x c.1))
    (λ c. inr ((λ e. c.0 (was.1 ∙ e)), dead_stays w history points cycle x c.1)) (traced x was.0))
    (λ new. inl new) (takes x is)
