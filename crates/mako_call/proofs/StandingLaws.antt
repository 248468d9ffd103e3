-- The standing of a stage is found again.
use Rattle.std.proofs.Common.{◌≡◌, ap, sym, ◌∙◌}
use Rattle.mako_call.specs.declared.call_stage.CallStage.{CallStage}
use Rattle.mako_call.specs.declared.standing.Standing.{Standing}
use Rattle.mako_call.specs.Standings.{stage_at, standing_of, standing_again}

pub standing_at : (s : Standing) (stage : CallStage) → stage_at s ≡ stage → s ≡ standing_of stage
standing_at s stage is = sym (standing_again s) ∙ ap standing_of is
