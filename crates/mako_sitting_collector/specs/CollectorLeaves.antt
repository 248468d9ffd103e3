-- What a step of the collector leaves to the other seats.
use Rattle.std.specs.Prelude.{ℕ, ◌≡◌, ◌≢◌, ◌<◌, ◌⊎◌, slice_get}
use Rattle.mako_words.specs.Phases.{cycle_of}
use Rattle.mako_shape.specs.declared.numbers.Numbers.{Numbers}
use Rattle.mako_shape.specs.Places.{barrier, notice, word_at}
use Rattle.mako_model.specs.Legal.{Facts}
use Rattle.mako_names.specs.Tables.{phase_of}
use Rattle.mako_layout.specs.StepParts.{collector_seat}
use Rattle.mako_phases.specs.Facets.{IsInPause}
use Rattle.mako_joint.specs.Joints.{JointScene, Joint}
use Rattle.mako_mutating.specs.Beside.{GoesOnBeside}
use Rattle.mako_writes.specs.Writes.{CollectorWrites, LeavesOthers}

-- The facets of all other seats are as they were, and so are all words that are not the collector's to write; barrier
-- slots are emptied alone. To each mutator the history goes on without it, and the phase gets another cycle in pauses
-- alone.
pub record CollectorLeaves (n : Numbers) (w : Facts) (s : JointScene) (j : Joint n w s) (after : JointScene) : Type 0
  where
    pub goes : (m : ℕ) → GoesOnBeside w m s.front.history after.front.history
    pub trace : (i : ℕ) → i ≢ collector_seat n → slice_get after.facets.trace i ≡ slice_get s.facets.trace i
    pub gates : (i : ℕ) → i ≢ collector_seat n → slice_get after.facets.gates i ≡ slice_get s.facets.gates i
    pub works : (i : ℕ) → i ≢ collector_seat n → slice_get after.facets.works i ≡ slice_get s.facets.works i
    pub phases : (i : ℕ) → i ≢ collector_seat n → slice_get after.facets.phases i ≡ slice_get s.facets.phases i
    pub held : after.facets.names.held ≡ s.facets.names.held
    pub trying : after.facets.names.trying ≡ s.facets.names.trying
    pub left : after.facets.names.left ≡ s.facets.names.left
    pub servers : after.facets.servers ≡ s.facets.servers
    pub words : LeavesOthers n CollectorWrites s.words after.words
    pub barriers : (m slot : ℕ) → m < n.mutators → slot < n.ring
        → (word_at n after.words (barrier m slot) ≡ word_at n s.words (barrier m slot))
        ⊎ (word_at n after.words (barrier m slot) ≡ 0)
    pub cycle : (cycle_of (phase_of n after.words) ≡ cycle_of (phase_of n s.words)) ⊎ IsInPause j.order.part

-- It takes no notice and stores no phase: what servers have sent and gone over is as it was, and the front too.
pub record LeavesServers (n : Numbers) (s after : JointScene) : Type 0 where
  pub front : after.front ≡ s.front
  pub phase : phase_of n after.words ≡ phase_of n s.words
  pub through : after.facets.names.through ≡ s.facets.names.through
  pub sent : after.facets.names.sent ≡ s.facets.names.sent
  pub notices : (server slot : ℕ) → server < n.servers → slot < n.ring
      → word_at n after.words (notice server slot) ≡ word_at n s.words (notice server slot)
