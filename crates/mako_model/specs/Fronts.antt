-- Fronts: histories with their finished cycles.
use mathlib.Core.List.{IsPrefix}
use Rattle.std.specs.Prelude.{ℕ, ◌≡◌, ◌≤◌, ◌==◌, length, List, [], ◌∷◌, ◌++◌, map, slice_get, Some, if◌then◌else◌}
use Rattle.mako_words.specs.declared.name.Name.{Name}
use Rattle.mako_model.specs.declared.call.Call.{Call}
use Rattle.mako_model.specs.declared.reply.Reply.{Reply}
use Rattle.mako_model.specs.declared.point.Point.{Point}
use Rattle.mako_model.specs.declared.point.Point.TheVariants.{Did, Snap}

-- a front: a history, and the names freed in each finished cycle
pub record Seen : Type 0 where
  pub history : List Point
  pub finished : List (List Name)

-- before the first point
abbrev pub opening_front : Seen
opening_front = record { history = []; finished = [] }

-- the front with one point more
abbrev pub with_point : Seen → Point → Seen
with_point front point = record { history = front.history ++ point ∷ []; finished = front.finished }

-- the front with one finished cycle more, which freed these names
abbrev pub with_cycle : Seen → List Name → Seen
with_cycle front names = record { history = front.history; finished = front.finished ++ names ∷ [] }

-- the calls of a mutator that a history holds, each with its reply, in order
abbrev pub answered_by : ℕ → List Point → List (Call × Reply)
answered_by m [] = []
answered_by m (Did n call reply ∷ points) =
    if n == m then (call, reply) ∷ answered_by m points else answered_by m points
answered_by m (Snap cycle ∷ points) = answered_by m points

-- its calls alone
abbrev pub calls_by : ℕ → List Point → List Call
calls_by m points = map (λ p. p.0) (answered_by m points)

-- its replies alone
abbrev pub replies_to : ℕ → List Point → List Reply
replies_to m points = map (λ p. p.1) (answered_by m points)

-- the calls of each mutator in a history are a prefix of its program
abbrev pub FollowsPrograms : List (List Call) → List Point → Type 0
FollowsPrograms programs history =
    (m : ℕ) (program : List Call) → slice_get programs m ≡ Some program → IsPrefix (calls_by m history) program

-- its history begins with the other's, and it has at least as many finished cycles
pub record BeginsWith (whole front : Seen) : Type 0 where
  pub history : IsPrefix front.history whole.history
  pub finished : length front.finished ≤ length whole.finished
