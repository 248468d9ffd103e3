-- Why a tablet could not be tried.
use Rattle.std.specs.Prelude.{◌≡◌, ◌≢◌, ◌+◌, ◌<◌, List, ◌∷◌, ◌++◌, true}
use Rattle.std.specs.List.{All}
use Rattle.mako_words.specs.Gates.{is_shut}
use Rattle.mako_shape.specs.Places.{tablet_gate, turn, leaving}
use Rattle.mako_step.specs.declared.act.Op.TheVariants.{Load, Add, Exchange}
use Rattle.mako_step.specs.Trails.{Observation}
use Rattle.mako_model.specs.declared.attempt.Pause.{Pause}
use Rattle.mako_model.specs.declared.attempt.Pause.TheVariants.{Shut, Busy, Moving}
use Rattle.mako_alloc.specs.declared.job.Job.{Job}
use Rattle.mako_alloc.specs.Allocating.{all_tablets}
use Rattle.mako_alloc.specs.Seen.{sees}

-- the observation is the reason: a tablet's gate was shut, its turn was held, or it was leaving a region
abbrev pub IsNote : Job → Observation → Pause → Type 0
IsNote job o (Shut t w) =
    (t < all_tablets job.shape) × (o ≡ sees job.shape (tablet_gate t) (Add 1) w) × (is_shut w ≡ true)
IsNote job o (Busy t w) =
    (t < all_tablets job.shape) × (o ≡ sees job.shape (turn t) (Exchange 0 (job.mutator + 1)) w) × (w ≢ 0)
IsNote job o (Moving t w) =
    (t < all_tablets job.shape) × (o ≡ sees job.shape (leaving t) Load w) × (w ≢ 0)
IsNote job o _ = ⊥

-- the observation is no reason
abbrev pub IsNoNote : Job → Observation → Type 0
IsNoNote job o = (reason : Pause) → ¬ IsNote job o reason

-- the reason is in the trail, and none is before it
pub record IsFirstNote (job : Job) (trail : List Observation) (reason : Pause) : Type 0 where
  pub earlier : List Observation
  pub observation : Observation
  pub later : List Observation
  pub splits : trail ≡ earlier ++ observation ∷ later
  pub tells : IsNote job observation reason
  pub first : All (IsNoNote job) earlier
