-- An attempt tells one point where it comes to an answer.
use Rattle.std.proofs.Common.{◌≡◌, ℕ, List, [], ◌∷◌, ◌++◌, Option, Some, None, ap, sym, ◌∙◌, refl, arith}
use Rattle.mako_model.specs.declared.call.Call.TheVariants.{New, Num, CopyRoot, DropRoot, Get, Put, Show, Collect}
use Rattle.mako_model.specs.declared.reply.Reply.{Reply}
use Rattle.mako_model.specs.declared.point.Point.TheVariants.{Did}
use Rattle.mako_call.specs.Calls.{Calling, fed, decided, event_by, event_of, opening, RanksAreSmall}
use Rattle.mako_call.specs.Deciding.{points_of, points_along, after, point_for, AnswersOnce}
use Rattle.mako_call.proofs.Deciding.{decided_stays, ended_decided}
use Rattle.mako_call.proofs.FirstStages.{first_open}

-- once it is decided, it stays so along all words, and nothing more is told
after_decided : (v : Calling) (words : List ℕ) (reply : Reply) → decided v.stage ≡ Some reply
    → (decided (after v words).stage ≡ Some reply) × (points_along v words ≡ [])
after_decided v [] reply is = (is, refl)
after_decided v (w ∷ words) reply is =
    let on = after_decided (fed v w) words reply (decided_stays v w reply is) in
    let silent : event_of v w ≡ event_by v.caller.mutator v.call (Some reply) (decided (fed v w).stage) =
    ap (λ o. event_by v.caller.mutator v.call o (decided (fed v w).stage)) is in
    (on.0, ap (λ e. points_of e ++ points_along (fed v w) words) silent ∙ on.1)

-- before it is decided, what is told from here on is the point that it comes to
points_told : (v : Calling) (words : List ℕ) → decided v.stage ≡ None
    → points_along v words ≡ point_for v (decided (after v words).stage)
points_told v [] is = ap (point_for v) (sym is)
points_told v (w ∷ words) is =
    let told : event_of v w ≡ event_by v.caller.mutator v.call None (decided (fed v w).stage) =
    ap (λ o. event_by v.caller.mutator v.call o (decided (fed v w).stage)) is in
    let Told : Option Reply
    → Type 0 = λ o. points_of (event_by v.caller.mutator v.call None o) ++ points_along
    (fed v w) words ≡ point_for v (decided (after (fed v w) words).stage) in
    let at : (o : Option Reply) → decided (fed v w).stage ≡ o → Told o = elim [
      | None ↦ λ e. points_told (fed v w) words e
      | Some reply ↦ λ e. (let on = after_decided (fed v w) words reply e in
          ap (λ ps. Did v.caller.mutator v.call reply ∷ ps) on.1 ∙ ap (point_for v) (sym on.0))
    ] in
    ap (λ e. points_of e ++ points_along (fed v w) words) told ∙ at (decided (fed v w).stage) refl

pub answers_once : AnswersOnce
answers_once = record {
  points = λ k call last asked slot words. points_told (opening k call last asked slot) words (first_open call asked).1;
  stays = decided_stays;
  comes_to = λ v outcome is. ended_decided v.stage outcome is;
}

pub ranks_are_small : RanksAreSmall
ranks_are_small k (New root fields) last asked slot = omega arith
ranks_are_small k (Num root x) last asked slot = omega arith
ranks_are_small k (CopyRoot to from) last asked slot = omega arith
ranks_are_small k (DropRoot root) last asked slot = omega arith
ranks_are_small k (Get to from field) last asked slot = omega arith
ranks_are_small k (Put to field from) last asked slot = omega arith
ranks_are_small k (Show root) last asked slot = omega arith
ranks_are_small k Collect last None slot = omega arith
ranks_are_small k Collect last (Some cycle) slot = omega arith
