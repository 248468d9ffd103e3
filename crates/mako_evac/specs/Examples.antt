-- A worked example: the evacuation of a server of one tablet with one entry, in a heap of 49 words.
use Rattle.std.specs.Prelude.{List, [], ◌∷◌}
use Rattle.mako_words.specs.declared.name.Name.{Name}
use Rattle.mako_step.specs.Trails.{Observation}
use Rattle.mako_step.specs.declared.act.Op.TheVariants.{Load, Store}
use Rattle.mako_gate.specs.Runs.{sees}
use Rattle.mako_evac.specs.declared.owner.Owner.{Owner}

abbrev pub owner : Owner
owner = record {
  shape = record {
    mutators = 1;
    servers = 1;
    tablets = 1;
    entries = 1;
    words = 16;
    spare = 1;
    ring = 1;
    roots = 1;
    cycles = 1;
    generations = 2;
  };
  server = 0;
  cycle = 1;
}

-- What the tablet leaves is word 14, the entry 16 and the one notice slot 9. The tablet leaves nothing; the entry has
-- an
-- object of generation 0 that is not of the cycle. It is freed and told, and once the collector has taken the name the
-- end is told.
abbrev pub freeing : List Observation
freeing =
    sees 14 Load 0
    ∷ sees 16 Load 0x8000_0000_0000_0011
    ∷ sees 16 (Store 0x800_0000_0000) 0
    ∷ sees 9 Load 0
    ∷ sees 9 (Store 0x8000_0000_0000_0000) 0
    ∷ sees 9 Load 0x8000_0000_0000_0000
    ∷ sees 9 Load 0
    ∷ sees 9 (Store 1) 0
    ∷ []

abbrev pub freed : List Name
freed = record { entry = 0; generation = 0 } ∷ []
