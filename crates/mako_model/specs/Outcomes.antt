-- Outcomes.
use Rattle.std.specs.Prelude.{ℕ, ◌≡◌, ◌<◌, List, map, length, slice_get, Some}
use Rattle.mako_model.specs.declared.reply.Reply.{Reply}
use Rattle.mako_model.specs.declared.outcome.Outcome.{Outcome}
use Rattle.mako_model.specs.Fronts.{replies_to}

-- the replies, as a list for each mutator
abbrev pub reply_lists : Outcome → List (List Reply)
reply_lists o = map (λ v. v.items) o.replies.items

-- the replies of an outcome are those that its front gave
pub record IsWhole (o : Outcome) : Type 0 where
  pub replies : (m : ℕ) → m < length (reply_lists o) → slice_get (reply_lists o) m ≡ Some (replies_to m o.front.history)

-- its finished cycles are those of its front
abbrev pub AreCyclesOfFront : Outcome → Type 0
AreCyclesOfFront o = o.cycles.lists ≡ o.front.finished
