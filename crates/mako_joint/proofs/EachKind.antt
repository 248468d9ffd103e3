-- Kinds of step that keep all groups.
use Rattle.std.proofs.Common.{◌≡◌, ◌≢◌, ℕ, ◌+◌, ◌<◌, ◌≤◌, ⊎_elim, Bool, true, false, List, length, set, slice_get, Some}
use Rattle.std.proofs.Common.{sym, ap, subst, refl, ◌∙◌, arith}
use Rattle.mako_words.specs.declared.name.Name.{Name}
use Rattle.mako_words.specs.declared.entry_word.EntryWord.{EntryWord}
use Rattle.mako_words.specs.declared.phase_word.PhaseWord.{PhaseWord}
use Rattle.mako_words.specs.declared.phase_word.PhaseWord.TheVariants.{Evac}
use Rattle.mako_words.specs.Entries.{entry_word, entry_at, FitsEntry}
use Rattle.mako_words.specs.Phases.{cycle_of}
use Rattle.mako_words.proofs.EntryWords.{entry_at-entry_word}
use Rattle.mako_shape.specs.declared.numbers.Numbers.{Numbers}
use Rattle.mako_shape.specs.Places.{Place, entry, leaving, index, Within, total, word_at}
use Rattle.mako_shape.specs.Belongings.{tablet_of_entry}
use Rattle.mako_shape.proofs.PlaceLaws.{word_same, word_other}
use Rattle.mako_gate.specs.Changes.{Sets}
use Rattle.mako_model.specs.Legal.{Facts}
use Rattle.mako_model.proofs.Lists.{get_set_cases}
use Rattle.mako_names.specs.Freeing.{entry_by}
use Rattle.mako_names.specs.Steps.{NameScene, NamesHoldIn, Frees, Moves, KeepsName}
use Rattle.mako_names.specs.Tables.{entry_of, phase_of}
use Rattle.mako_names.proofs.FreeingKinds.{owned_within}
use Rattle.mako_names.proofs.StepsKept.{step_kept}
use Rattle.mako_names.proofs.Words.{phase_else}
use Rattle.mako_ring.specs.Facets.{Scene, IsPolled}
use Rattle.mako_ring.specs.Polling.{PollingStands}
use Rattle.mako_poll.specs.Steps.{Collected, Waits}
use Rattle.mako_poll.proofs.AllSteps.{steps_hold}
use Rattle.mako_layout.specs.Facets.{Work, reads, moves}
use Rattle.mako_layout.specs.Evacuations.{State, Evacuation, slot_at, IsTaken, IsOfCycle}
use Rattle.mako_layout.specs.Beside as beside
use Rattle.mako_layout.specs.Beside.{IsReading}
use Rattle.mako_layout.specs.Steps.{load_entry, finds_away, alter_entry}
use Rattle.mako_layout.specs.StepParts.{AltersEntry}
use Rattle.mako_layout.proofs.EachStep.{each_step_keeps}
use Rattle.mako_phases.specs.Facets.{PhaseFacet, serving, freeing}
use Rattle.mako_phases.specs.Steps.{PhaseScene}
use Rattle.mako_phases.specs.Steps as phases
use Rattle.mako_phases.proofs.AllPhases.{phase_kept}
use Rattle.mako_joint.specs.Joints.{JointScene, names_in, trace_in, layout_in, polls_in, phases_in, TracksFit, HasName}
use Rattle.mako_joint.specs.Joints.{ReadsAreHeld, Joint}
use Rattle.mako_joint.specs.Kinds.{with_work, with_entry, with_freed, LoadsEntry, FindsAway, FreesEntry}
use Rattle.mako_joint.proofs.Epochs.{held_are_taken, held_have_epoch, held_within, none_reads}
use Rattle.mako_joint.proofs.Pauses.{gates_drain, freeing_follows}

-- ---- a work alone

-- a seat gets another work
pub works_held : (held : List (List Name)) (works : List Work) (seat : ℕ) (u : Work)
    → (IsReading u → HasName held seat (beside.entry_of u)) → ReadsAreHeld held works
    → ReadsAreHeld held (set works seat u)
works_held held works seat u has all k v at reading =
    ⊎_elim
    (λ t. subst (λ q. HasName held q (beside.entry_of v)) (sym t.0)
    (subst (λ z. HasName held seat (beside.entry_of z)) t.1 (has (subst IsReading (sym t.1) reading))))
    (λ t. all k v t.1 reading) (get_set_cases works seat k u v at)

work_kept : (n : Numbers) (w : Facts) (s : JointScene) → Joint n w s → (seat : ℕ) (u : Work)
    → (IsReading u → HasName s.facets.names.held seat (beside.entry_of u))
    → Evacuation n (layout_in n w (with_work s seat u)) → Joint n w (with_work s seat u)
work_kept n w s j seat u has evacuated = record {
  script = j.script;
  names = j.names;
  tracks = j.tracks;
  layout = evacuated;
  polls = j.polls;
  order = j.order;
  reads = works_held s.facets.names.held s.facets.works seat u has j.reads;
  gates = j.gates;
  choice = j.choice;
}

-- the entry of a name in use is taken, as the layout reads it
used_is_taken : (n : Numbers) (w : Facts) (s : JointScene) → Joint n w s → (seat x : ℕ)
    → HasName s.facets.names.held seat x → IsTaken n (layout_in n w s) x
unfolding entry_of
used_is_taken n w s j seat x has = held_are_taken n w s seat x j has

pub loads_entry : LoadsEntry
loads_entry n w s j seat x g at has enters =
    let st : State = layout_in n w s in
    let u : Work = reads x (slot_at n st x).region (slot_at n st x).offset in
    work_kept n w s j seat u (λ is. has)
    (each_step_keeps n j.script.shape st seat (layout_in n w (with_work s seat u)) j.layout
    (load_entry seat x g at (held_within n w s seat x j has) enters (used_is_taken n w s j seat x has)))

used_of_cycle : (n : Numbers) (w : Facts) (s : JointScene) → Joint n w s → (cycle seat x : ℕ)
    → phase_of n s.words ≡ Evac cycle → HasName s.facets.names.held seat x → IsOfCycle n (layout_in n w s) x
unfolding entry_of phase_of
used_of_cycle n w s j cycle seat x evac has = held_have_epoch n w s cycle seat x j evac has ∙ sym (ap cycle_of evac)

pub finds_it_away : FindsAway
unfolding entry_of
finds_it_away n w s j cycle seat x y r g evac at has same writer out =
    let st : State = layout_in n w s in
    let u : Work = moves y (entry_at (word_at n s.words (entry y))) r in
    work_kept n w s j seat u (λ is. absurd is)
    (each_step_keeps n j.script.shape st seat (layout_in n w (with_work s seat u)) j.layout
    (finds_away seat x y r g at (held_within n w s seat y j has) same writer (used_is_taken n w s j seat y has)
    (used_of_cycle n w s j cycle seat y evac has) out))

-- ---- the word of an entry

-- a store in a list of all words, by place
pub stored : (n : Numbers) (ws : List ℕ) (x v : ℕ) → length ws ≡ total n → Within n (entry x)
    → Sets n (λ p. word_at n ws p) (λ p. word_at n (set ws (index n (entry x)) v) p) (entry x) v
stored n ws x v size within = record {
  here = word_same n ws (entry x) v size within;
  others = λ q inside other. word_other n ws (entry x) q v within inside other;
}

-- polls stand where a word is stored that they do not read
pub polls_stay : (n : Numbers) (s : JointScene) (p : Place) (v : ℕ) → Within n p → (IsPolled p → ⊥)
    → PollingStands n (polls_in n s) → PollingStands n (polls_in n (record s { words = set s.words (index n p) v }))
polls_stay n s p v within other polls =
    let after : Scene = polls_in n (record s { words = set s.words (index n p) v }) in
    steps_hold n (polls_in n s) after polls
    (Collected s.facets.collector (record { here = refl; servers = λ i l. refl })
    (Waits (λ q polled inside. word_other n s.words p q v within inside (λ e. other (subst IsPolled e polled))) refl))

no_both : (b : Bool) → b ≡ false → b ≡ true → ⊥
no_both b e f = cc

freed : (n : Numbers) (w : Facts) (s : JointScene) → Joint n w s → (cycle x : ℕ) (e : EntryWord) → FitsEntry e
    → phase_of n s.words ≡ Evac cycle → Within n (entry x)
    → word_at n s.words (leaving (tablet_of_entry n x)) ≡ 0 → (entry_of n s.words x).taken ≡ true
    → (entry_of n s.words x).epoch ≢ cycle → e.taken ≡ false
    → Evacuation n (layout_in n w (with_entry n s x e))
unfolding entry_of
freed n w s j cycle x e fits evac within stays taken other free =
    each_step_keeps n j.script.shape (layout_in n w s) 0 (layout_in n w (with_entry n s x e)) j.layout
    (alter_entry 0 (λ p. word_at n (with_entry n s x e).words p) x e (record {
      inside = within;
      stays = stays;
      was = taken;
      sets = stored n s.words x (entry_word e) j.names.hold.size within;
      fits = fits;
      address = λ t. absurd (no_both e.taken free t);
      generation = λ t. absurd (no_both e.taken free t);
      home = λ t. absurd (no_both e.taken free t);
      read = λ i v at reading same. absurd (none_reads n w s cycle x j evac other i v at reading same);
    }))

pub frees_entry : FreesEntry
frees_entry n w s j seat server cycle ended i laden sent e at comes may zero =
    let x : ℕ = entry_by n server i in
    let after : JointScene = with_freed n s server i sent e in
    let stands = j.order.each seat (serving server (freeing cycle) ended laden) at in
    let within : Within n (entry x) = owned_within n server i stands.known comes.more in
    let follows = freeing_follows n w s j seat server cycle ended i laden at comes.more in
    let evac = comes.evacuates in
    record {
      script = j.script;
      names = step_kept n w (names_in s) (names_in after) j.script.facts
          (Frees cycle server i sent e comes may) j.names;
      tracks = subst (λ p. TracksFit p n w (trace_in after))
          (sym (phase_else n s.words x (entry_word e) within ∙ evac)) tt;
      layout = freed n w s j cycle x e may.fits evac within follows.1 may.taken may.epoch may.free;
      polls = polls_stay n s (entry x) (entry_word e) within (λ is. is) j.polls;
      order = phase_kept n (phases_in s) (phases_in after) j.order (gates_drain n w s j)
          (phases.Frees x (entry_word e) within
          (ap (λ (u : EntryWord). u.epoch) (entry_at-entry_word e may.fits) ∙ zero) refl);
      reads = j.reads;
      gates = j.gates;
      choice = j.choice;
    }
