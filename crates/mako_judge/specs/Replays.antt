-- What a replay comes to.
use Rattle.std.specs.Prelude.{List, []}
use Rattle.mako_model.specs.declared.point.Point.{Point}
use Rattle.mako_model.specs.Legal.{Facts}
use Rattle.mako_judge.specs.declared.replay.Replayed.{Replayed}
use Rattle.mako_judge.specs.declared.replay.Replayed.TheVariants as replay
use Rattle.mako_judge.specs.declared.verdict.Clause.TheVariants as clause
use Rattle.mako_judge.specs.Clauses.{IsFirstBreach}
use Rattle.mako_judge.specs.Deaths.{lists_in, AreDeaths}
use Rattle.mako_judge.specs.Setups.{front_of}

-- a legal history with its dead names, or the first point that is not lawful
abbrev pub IsReplayOf : Facts → List Point → Replayed → Type 0
IsReplayOf w history (replay.Legal deaths) = AreDeaths w history (lists_in deaths)
IsReplayOf w history (replay.Unlawful place) = IsFirstBreach w (front_of history []) clause.Legal place
