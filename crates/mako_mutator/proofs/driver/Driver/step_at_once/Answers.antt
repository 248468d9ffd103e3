use Rattle.std.proofs.Common.{◌++◌, ◌≤◌, List, length, refl, ap, subst, sym, ◌∙◌, arith}
use Rattle.mako_step.specs.Acts.{finds}
use Rattle.mako_step.specs.Machines.{CanStep}
use Rattle.mako_model.specs.declared.call.Call.{Call}
use Rattle.mako_model.specs.declared.event.Event.{Event}
use Rattle.mako_call.proofs.Finding.{finds_fitting}
use Rattle.mako_mutator.specs.Drivers.{Driving, AttemptActs, Fits, next_of, event_of, told_reply, progress_fed, fed}
use Rattle.mako_mutator.specs.DriverHolds.{driving_in}
use Rattle.mako_mutator.specs.Telling.{history_after}
use Rattle.mako_mutator.proofs.DriverGoing.{put_together, room_for_reply}
use Rattle.mako_mutator.proofs.StepsAtOnce.{acts_of, told_at, progress_at, attempt_within, fed_together}
use Rattle.mako_mutator.proofs.driver.Driver.step_at_once.Goals as goal

pub keep_told-requires-clause-replies : goal.keep_told-requires-clause-replies
keep_told-requires-clause-replies g c =
    let d = driving_in c.self.inside in
    let words = g.W.Words.words c.args.words.now in
    let acts = acts_of d.caller d.progress.task
    (subst (λ (q : Driving). AttemptActs q.progress.task) (sym c.self.view_is) c.requires.acts) in
    let can = subst (λ (q : Driving). CanStep (next_of q) words (Fits q)) (sym c.self.view_is) c.requires.can in
    let fits = finds_fitting (next_of d) words (Fits d) acts can in
    let room = room_for_reply d (finds (next_of d) words) c.self.invariant.known fits acts in
    let told = ap (λ (e : Event). length (told_reply e))
    (told_at d.caller d.progress.task _ _ words _ c.in-Attempting.is c.step-step.ensures.fed
    c.step-step.ensures.decides) in
    omega (arith, room, told, c.self.invariant.room, c.self.inside.replies.ok.0)

pub keep_told-requires-clause-journal : goal.keep_told-requires-clause-journal
keep_told-requires-clause-journal g c =
    let d = driving_in c.self.inside in
    let words = g.W.Words.words c.args.words.now in
    let told = told_at d.caller d.progress.task _ _ words _ c.in-Attempting.is c.step-step.ensures.fed
    c.step-step.ensures.decides
    ∙ ap (λ (q : Driving). event_of q (finds (next_of q) words)) c.self.view_is in
    subst (λ (e : Event). length (history_after c.args.journal.now.points e) ≤ c.args.journal.now.room) (sym told)
    c.requires.room

pub go_on-requires-clause-done : goal.go_on-requires-clause-done
go_on-requires-clause-done g c =
    attempt_within (driving_in c.self.inside) _ c.self.invariant.known c.in-Attempting.is

pub invariant_of-self : goal.invariant_of-self
invariant_of-self g c =
    let inside = c.self.inside in
    let d = driving_in inside in
    let words = g.W.Words.words c.args.words.now in
    let w = finds (next_of d) words in
    let acts = acts_of d.caller d.progress.task
    (subst (λ (q : Driving). AttemptActs q.progress.task) (sym c.self.view_is) c.requires.acts) in
    let can = subst (λ (q : Driving). CanStep (next_of q) words (Fits q)) (sym c.self.view_is) c.requires.can in
    let fits = finds_fitting (next_of d) words (Fits d) acts can in
    let told = told_at d.caller d.progress.task _ _ words _ c.in-Attempting.is c.step-step.ensures.fed
    c.step-step.ensures.decides in
    let replies_are = c.keep_told.ensures.items ∙ ap (λ (e : Event). inside.replies.items ++ told_reply e) told in
    let p_is = progress_at inside.caller _ inside.progress _ _ _ words c.in-Attempting.is c.step-step.ensures.fed
    (c.go_on.ensures _ refl)
    ∙ ap (λ (calls : List Call). progress_fed inside.caller calls inside.progress w) c.as_slice.ensures.value in
    record {
      known = put_together d w _ _ c.self.invariant.known fits acts replies_are p_is;
      room = omega (arith, c.self.invariant.room, c.keep_told.ensures.capacity);
    }

pub returns-clause-fed : goal.returns-clause-fed
returns-clause-fed g c =
    let inside = c.self.inside in
    let d = driving_in inside in
    let words = g.W.Words.words c.args.words.now in
    let w = finds (next_of d) words in
    let told = told_at d.caller d.progress.task _ _ words _ c.in-Attempting.is c.step-step.ensures.fed
    c.step-step.ensures.decides in
    let replies_are = c.keep_told.ensures.items ∙ ap (λ (e : Event). inside.replies.items ++ told_reply e) told in
    let p_is = progress_at inside.caller _ inside.progress _ _ _ words c.in-Attempting.is c.step-step.ensures.fed
    (c.go_on.ensures _ refl)
    ∙ ap (λ (calls : List Call). progress_fed inside.caller calls inside.progress w) c.as_slice.ensures.value in
    fed_together d w _ _ replies_are p_is
    ∙ ap (λ (q : Driving). fed q (finds (next_of q) words)) c.self.view_is

pub returns-clause-points : goal.returns-clause-points
returns-clause-points g c =
    let d = driving_in c.self.inside in
    let words = g.W.Words.words c.args.words.now in
    let told = told_at d.caller d.progress.task _ _ words _ c.in-Attempting.is c.step-step.ensures.fed
    c.step-step.ensures.decides
    ∙ ap (λ (q : Driving). event_of q (finds (next_of q) words)) c.self.view_is in
    c.keep_told.ensures.points ∙ ap (history_after c.args.journal.now.points) told
