-- Worked examples: a record made in a heap of 49 words, and a gate found shut there.
use Rattle.std.specs.Prelude.{List, [], ◌∷◌}
use Rattle.mako_words.specs.declared.name.Name.{Name}
use Rattle.mako_step.specs.declared.act.Op.TheVariants.{Load, Store, Add, Sub, Exchange}
use Rattle.mako_step.specs.Trails.{Observation}
use Rattle.mako_gate.specs.Runs.{sees}
use Rattle.mako_model.specs.declared.attempt.Pause.{Pause}
use Rattle.mako_model.specs.declared.attempt.Pause.TheVariants.{Shut}
use Rattle.mako_alloc.specs.declared.job.Job.{Job}

-- one field, in cycle 1, in a heap of one tablet with one entry and regions of 16 words
abbrev pub job : Job
job = record {
  shape = record {
    mutators = 1;
    servers = 1;
    tablets = 1;
    entries = 1;
    words = 16;
    spare = 1;
    ring = 1;
    roots = 1;
    cycles = 1;
    generations = 2;
  };
  mutator = 0;
  fields = 1;
  cycle = 1;
}

-- The gate is word 10, the turn 11, the home 12, the top 13, what is left 14 and the entry 16. Region 1 begins at word
-- 33.
-- The entry is free and had one object; two words of region 1 are used.
abbrev pub making : List Observation
making =
    sees 10 (Add 1) 0
    ∷ sees 11 (Exchange 0 1) 0
    ∷ sees 14 Load 0
    ∷ sees 13 Load 2
    ∷ sees 16 Load 0x800_0000_0000
    ∷ sees 12 Load 1
    ∷ sees 35 (Store 1) 0
    ∷ sees 36 (Store 0) 0
    ∷ sees 13 (Store 4) 0
    ∷ sees 16 (Store 0x8000_0800_0080_0023) 0
    ∷ []

abbrev pub made : Name
made = record { entry = 0; generation = 1 }

-- the gate is shut, and one mutator is inside
abbrev pub shut_out : List Observation
shut_out = sees 10 (Add 1) 0x1_0001 ∷ sees 10 (Sub 1) 0x1_0002 ∷ []

abbrev pub found_shut : Pause
found_shut = Shut 0 0x1_0001
