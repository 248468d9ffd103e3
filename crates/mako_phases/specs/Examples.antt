-- Worked examples: the opening of a small heap, and what is wrong in its place.
use Rattle.std.specs.Prelude.{ℕ, ◌+◌, ◌^◌, List, [], ◌∷◌, slice_set, false}
use Rattle.mako_words.specs.Lives.{live_word}
use Rattle.mako_shape.specs.Places.{barrier, notice, leaving, live, index}
use Rattle.mako_names.specs.Examples.{small, words_with}
use Rattle.mako_phases.specs.Facets.{idle, resting, outside, PhaseFacet, mutating, serving, collecting}
use Rattle.mako_phases.specs.Steps.{PhaseScene}

-- one mutator, one server that ended this cycle last, and the collector
abbrev pub idle_facets : ℕ → List PhaseFacet
idle_facets ended = mutating outside ∷ serving 0 resting ended false ∷ collecting (idle 0) [] ∷ []

-- the opening
abbrev pub opened : PhaseScene
opened = record { words = words_with 0 0; facets = idle_facets 0 }

-- the same, but the phase is Trace
abbrev pub traced_too_soon : PhaseScene
traced_too_soon = record opened { words = words_with (1 + 2 ^ 32) 0 }

-- the same, but something stands in the barrier slot
abbrev pub shaded_too_soon : PhaseScene
shaded_too_soon = record opened { words = slice_set (words_with 0 0) (index small (barrier 0 0)) 1 }

-- the same, but the tablet is leaving region 0
abbrev pub leaving_too_soon : PhaseScene
leaving_too_soon = record opened { words = slice_set (words_with 0 0) (index small (leaving 0)) 1 }

-- the same, but the server tells that it is done
abbrev pub told_too_soon : PhaseScene
told_too_soon = record opened { words = slice_set (words_with 0 0) (index small (notice 0 0)) 1 }

-- the same, but the server has ended cycle 1
abbrev pub ended_too_soon : PhaseScene
ended_too_soon = record opened { facets = idle_facets 1 }

-- the words of the opening, where the live word of cycle 1 has both words of the board's record
abbrev pub all_live : List ℕ
all_live = slice_set (words_with 0 0) (index small (live 0)) (live_word (record { cycle = 1; words = 2 }))
