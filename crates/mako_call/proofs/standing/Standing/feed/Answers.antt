use Rattle.std.proofs.Common.{ap, sym, ◌∙◌}
use Rattle.mako_call.specs.declared.call_stage.CallStage.{CallStage}
use Rattle.mako_call.specs.Calls.{stage_fed, tells}
use Rattle.mako_call.specs.Standings.{stage_at}
use Rattle.mako_call.proofs.StandingLaws.{standing_at}
use Rattle.mako_call.proofs.standing.Standing.feed.Goals as goal

pub returns-in-Moving-clause-fed : goal.returns-in-Moving-clause-fed
returns-in-Moving-clause-fed c =
    (c.feed_moving.ensures c.in-Moving.field-0 c.in-Moving.field-1
    (standing_at _ _ (c.requires.own ∙ c.in-Moving.is))).0
    ∙ ap (λ (s : CallStage). stage_fed c.args.caller.now c.args.call c.args.last c.args.slot s c.args.before)
    (sym c.in-Moving.is)

pub returns-in-Moving-clause-told : goal.returns-in-Moving-clause-told
returns-in-Moving-clause-told c =
    (c.feed_moving.ensures c.in-Moving.field-0 c.in-Moving.field-1
    (standing_at _ _ (c.requires.own ∙ c.in-Moving.is))).1
    ∙ ap (λ (s : CallStage). tells s (stage_at c.feed_moving.new.self)) c.requires.own

pub returns-in-Putting-clause-fed : goal.returns-in-Putting-clause-fed
returns-in-Putting-clause-fed c =
    (c.feed_putting.ensures c.in-Putting.field-0 c.in-Putting.field-1 c.in-Putting.field-2
    (standing_at _ _ (c.requires.own ∙ c.in-Putting.is))).0
    ∙ ap (λ (s : CallStage). stage_fed c.args.caller.now c.args.call c.args.last c.args.slot s c.args.before)
    (sym c.in-Putting.is)

pub returns-in-Putting-clause-told : goal.returns-in-Putting-clause-told
returns-in-Putting-clause-told c =
    (c.feed_putting.ensures c.in-Putting.field-0 c.in-Putting.field-1 c.in-Putting.field-2
    (standing_at _ _ (c.requires.own ∙ c.in-Putting.is))).1
    ∙ ap (λ (s : CallStage). tells s (stage_at c.feed_putting.new.self)) c.requires.own

pub returns-in-Allocating-clause-fed : goal.returns-in-Allocating-clause-fed
returns-in-Allocating-clause-fed c =
    (c.feed_allocating.ensures c.in-Allocating.field-0
    (standing_at _ _ (c.requires.own ∙ c.in-Allocating.is))).0
    ∙ ap (λ (s : CallStage). stage_fed c.args.caller.now c.args.call c.args.last c.args.slot s c.args.before)
    (sym c.in-Allocating.is)

pub returns-in-Allocating-clause-told : goal.returns-in-Allocating-clause-told
returns-in-Allocating-clause-told c =
    (c.feed_allocating.ensures c.in-Allocating.field-0
    (standing_at _ _ (c.requires.own ∙ c.in-Allocating.is))).1
    ∙ ap (λ (s : CallStage). tells s (stage_at c.feed_allocating.new.self)) c.requires.own

pub returns-in-Asking-clause-fed : goal.returns-in-Asking-clause-fed
returns-in-Asking-clause-fed c =
    (c.feed_asking.ensures c.in-Asking.field-0
    (standing_at _ _ (c.requires.own ∙ c.in-Asking.is))).0
    ∙ ap (λ (s : CallStage). stage_fed c.args.caller.now c.args.call c.args.last c.args.slot s c.args.before)
    (sym c.in-Asking.is)

pub returns-in-Asking-clause-told : goal.returns-in-Asking-clause-told
returns-in-Asking-clause-told c =
    (c.feed_asking.ensures c.in-Asking.field-0
    (standing_at _ _ (c.requires.own ∙ c.in-Asking.is))).1
    ∙ ap (λ (s : CallStage). tells s (stage_at c.feed_asking.new.self)) c.requires.own
