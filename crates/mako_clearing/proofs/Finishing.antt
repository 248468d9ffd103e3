-- The collector finishes the cycle.
use Rattle.std.proofs.Common.{◌≡◌, ℕ, ◌+◌, ◌*◌, ◌/◌, ◌%◌, ◌<◌, ◌≤◌, ◌^◌, ⊎_elim, Bool, true, List, length, map, set}
use Rattle.std.proofs.Common.{slice_get, Some, option_map, sym, ap, subst, refl, ◌∙◌, arith, mul_assoc}
use Rattle.std.proofs.lemmas.List.{length-map}
use Rattle.std.proofs.lemmas.Option.{same_Some, slice_get_within, slice_get-map}
use Rattle.mako_words.specs.declared.name.Name.{Name}
use Rattle.mako_words.specs.declared.phase_word.PhaseWord.TheVariants.{Idle, Evac}
use Rattle.mako_words.specs.Phases.{phase_word, cycle_of}
use Rattle.mako_words.proofs.PhaseWords.{phase_at-phase_word}
use Rattle.mako_shape.specs.Limits.{all_entries}
use Rattle.mako_shape.specs.Places.{phase, leaving, index, word_at}
use Rattle.mako_shape.specs.Belongings.{server_of_tablet}
use Rattle.mako_shape.proofs.BelongingLaws.{belongings_in_range}
use Rattle.mako_shape.proofs.Rows.{div-below, mod-below, row-and-column}
use Rattle.mako_model.specs.Fronts.{with_cycle}
use Rattle.mako_model.specs.Legal.{Facts}
use Rattle.mako_model.proofs.Lists.{get_set_cases}
use Rattle.mako_names.specs.Freeing.{Freeing, FreeingStands, FreeingFits, own_entries, entry_by}
use Rattle.mako_names.specs.Going.{GatheringStands, GatheringFits, NamesHold}
use Rattle.mako_names.specs.Notices.{Gathering}
use Rattle.mako_names.specs.Steps.{Finishes, AllIsRead}
use Rattle.mako_names.specs.Tables.{entry_of, phase_of}
use Rattle.mako_names.proofs.StepsKept.{step_kept}
use Rattle.mako_names.proofs.Telling.{passed_have_epoch}
use Rattle.mako_names.proofs.Words.{phase_stored}
use Rattle.mako_gate.specs.Changes.{tablets_of}
use Rattle.mako_layout.specs.Facets.{Gift, rests_with, has_chosen, times_in}
use Rattle.mako_layout.specs.Evacuations.{Evacuation as Layout, layout, IsTaken, IsOfCycle}
use Rattle.mako_layout.specs.Layouts.{entries_of, regions_of, gifts_at}
use Rattle.mako_layout.specs.StepParts.{collector_seat}
use Rattle.mako_layout.specs.Steps.Step.{store_idle}
use Rattle.mako_layout.proofs.EachStep.{each_step_keeps}
use Rattle.mako_pause.specs.Collecting.{Holdings, running}
use Rattle.mako_pause.specs.declared.stage.NoticeStage.TheVariants.{StoringIdle}
use Rattle.mako_phases.specs.Facets as phases
use Rattle.mako_phases.specs.Facets.{Part, evacuating, ServerStage, PhaseFacet, mutating, serving, collecting, server}
use Rattle.mako_phases.specs.Facets.{role_of, cycle_during}
use Rattle.mako_phases.specs.Steps as steps
use Rattle.mako_phases.proofs.AllPhases.{phase_kept}
use Rattle.mako_phases.proofs.Frames.{get_unmap, the_words}
use Rattle.mako_phases.proofs.Says.{cycles_end, ended_cleared}
use Rattle.mako_state.proofs.Words.{sets_words}
use Rattle.mako_joint.specs.Joints.{JointScene, names_in, layout_in, phases_in, TracksFit, ChoiceFits, Joint}
use Rattle.mako_joint.proofs.EachKind.{polls_stay}
use Rattle.mako_joint.proofs.Pauses.{by_part, gates_drain}
use Rattle.mako_clearing.specs.Hearing.{HearingStands, EndedHaveGoneOver, FinishGoesOn, FinishKeeps}
use Rattle.mako_clearing.proofs.Heard.{evac_here, gates_match}
use Rattle.mako_clearing.proofs.Stages.{index_in}

-- a server's facet
record IsServer (facets : List PhaseFacet) (s : ℕ) : Type 0 where
  seat : ℕ
  stage : ServerStage
  ended : ℕ
  laden : Bool
  is : slice_get facets seat ≡ Some (serving s stage ended laden)

by_role : (facets : List PhaseFacet) (i s : ℕ) (f : PhaseFacet) → slice_get facets i ≡ Some f → role_of f ≡ server s
    → IsServer facets s
by_role facets i s (mutating a) at e = absurd (let b : ⊥ = cc in b)
by_role facets i s (serving r stage ended laden) at e = record {
  seat = i;
  stage = stage;
  ended = ended;
  laden = laden;
  is = at ∙ (let same : r ≡ s = cc in ap (λ (q : ℕ). Some (serving q stage ended laden)) same);
}
by_role facets i s (collecting part pending) at e = absurd (let b : ⊥ = cc in b)

module _ (w : Facts) (s : JointScene) (k : Holdings) (j : Joint k.shape w s) (c : HearingStands k.shape s k StoringIdle)
    (over : EndedHaveGoneOver k.shape s) where
  abbrev cycle : ℕ
  cycle = running k

  abbrev seat : ℕ
  seat = collector_seat k.shape

  evac : phase_of k.shape s.words ≡ Evac (running k)
  evac = evac_here k.shape w s j (running k) k.shape.servers k.pending c.phase

  few : running k ≤ k.shape.cycles
  few =
      (the_words k.shape s.words s.facets.phases j.order (collector_seat k.shape)
      (evacuating (running k) k.shape.servers) k.pending c.phase).bound

  small : running k < 2 ^ 20
  small =
      let a = few in
      let b = j.script.facts.few_cycles in
      let e = j.script.facts.cycles in
      omega arith

  part_cycle : cycle_during j.order.part ≡ running k
  part_cycle =
      by_part k.shape w s j (λ p. cycle_during p ≡ running k) (collector_seat k.shape)
      (evacuating (running k) k.shape.servers) k.pending c.phase refl

  -- each server has ended the cycle
  server_is : (r : ℕ) → r < k.shape.servers → IsServer s.facets.phases r
  server_is r low =
      let there = j.order.seated.present r low in
      let is = get_unmap role_of s.facets.phases there.0 (server r) there.1 in
      by_role s.facets.phases there.0 r is.0 is.1.0 is.1.1

  ended_is : (r : ℕ) (v : IsServer s.facets.phases r) → v.ended ≡ running k
  ended_is r v =
      cycles_end k.shape s.words s.facets.phases j.order (collector_seat k.shape) (running k) k.pending c.phase
      v.seat r v.stage v.ended v.laden v.is

  ended_there : (r : ℕ) (v : IsServer s.facets.phases r)
      → slice_get s.facets.phases v.seat ≡ Some (serving r v.stage (running k) v.laden)
  ended_there r v = v.is ∙ ap (λ (q : ℕ). Some (serving r v.stage q v.laden)) (ended_is r v)

  through_is : (r : ℕ) → r < k.shape.servers → slice_get s.facets.names.through r ≡ Some (own_entries k.shape)
  through_is r low =
      let v = server_is r low in
      over v.seat r k.shape.servers (running k) v.stage v.laden (collector_seat k.shape) k.pending (ended_there r v)
      c.phase

  gathered : GatheringStands j.names.freed s.facets.names.through s.facets.names.sent s.facets.names.collector
  gathered =
      subst (λ p. GatheringFits p j.names.freed s.facets.names.through s.facets.names.sent s.facets.names.collector)
      evac
      j.names.gathering

  freed_stands : FreeingStands k.shape s.words w s.front.history (running k) j.names.freed
  freed_stands =
      subst (λ p. FreeingFits p k.shape s.words w s.front.history j.names.freed) evac j.names.hold.freeing

  all_through : (r i : ℕ) → slice_get s.facets.names.through r ≡ Some i → i ≡ own_entries k.shape
  all_through r i at =
      let low = slice_get_within s.facets.names.through r i at in
      let long : length s.facets.names.through ≡ length j.names.freed =
      ap length gathered.bounds ∙ length-map j.names.freed (λ (f : Freeing). f.through) in
      let size = freed_stands.size in
      same_Some i (own_entries k.shape) (sym at ∙ through_is r (omega arith))

  -- no tablet is leaving
  none_leaves : (t : ℕ) → t < tablets_of k.shape → word_at k.shape s.words (leaving t) ≡ 0
  none_leaves t low =
      let v = server_is (server_of_tablet k.shape t) (belongings_in_range.tablet k.shape t low) in
      ended_cleared k.shape s.words s.facets.phases j.order v.seat (server_of_tablet k.shape t) v.stage v.laden
      (ended_there (server_of_tablet k.shape t) v
      ∙ ap (λ (q : ℕ). Some (serving (server_of_tablet k.shape t) v.stage q v.laden)) (sym part_cycle)) t low refl

  -- each taken entry has the epoch
  all_have_epoch : (x : ℕ) → x < all_entries k.shape → (entry_of k.shape s.words x).taken ≡ true
      → (entry_of k.shape s.words x).epoch ≡ running k
  all_have_epoch x within taken =
      let own : ℕ = own_entries k.shape in
      let x_own : x < k.shape.servers * own =
      (let e : k.shape.servers * k.shape.tablets * k.shape.entries ≡ k.shape.servers *
      (k.shape.tablets * k.shape.entries) =
      mul_assoc k.shape.servers k.shape.tablets k.shape.entries in omega arith) in
      let is_x : entry_by k.shape (x / own) (x % own) ≡ x = row-and-column x own in
      let low : x / own < k.shape.servers = div-below x own k.shape.servers x_own in
      let inside : x % own < own = mod-below x own k.shape.servers x_own in
      subst (λ y. (entry_of k.shape s.words y).epoch ≡ running k) is_x
      (passed_have_epoch k.shape w (names_in s) (running k) (x / own) (x % own) own j.names evac
      (through_is (x / own) low) inside
      (subst (λ y. (entry_of k.shape s.words y).taken ≡ true) (sym is_x) taken))

  cycle_is : (layout k.shape (layout_in k.shape w s)).cycle ≡ running k
  unfolding phase_of
  cycle_is = ap cycle_of evac

  of_cycle : (x : ℕ) → x < entries_of k.shape → IsTaken k.shape (layout_in k.shape w s) x
      → IsOfCycle k.shape (layout_in k.shape w s) x
  unfolding entry_of
  of_cycle x within taken = all_have_epoch x within taken ∙ sym cycle_is

  -- ---- the store

  abbrev us : List ℕ
  us = set s.words (index k.shape phase) (phase_word (Idle (running k)))

  idle_then : phase_of k.shape us ≡ Idle (running k)
  idle_then = phase_stored k.shape s.words (Idle (running k)) j.names.hold.size small

  read : AllIsRead k.shape s.facets.names
  read = record {
    through = all_through;
    read = subst (λ (g : Gathering). k.shape.servers ≤ g.server) (sym c.gathers) (omega arith);
  }

  names_then : (gathers : Gathering) → NamesHold k.shape w us (with_cycle s.front k.freed)
      (record s.facets.names { collector = gathers })
  names_then gathers =
      let finished : NamesHold k.shape w us (with_cycle s.front k.freed) s.facets.names =
      subst (λ (g : Gathering). NamesHold k.shape w us (with_cycle s.front g.names) s.facets.names) c.gathers
      (step_kept k.shape w (names_in s)
      (record {
        words = us;
        front = with_cycle s.front s.facets.names.collector.names;
        facets = s.facets.names;
      }) j.script.facts (Finishes (running k) evac read) j.names) in
      record {
        freed = finished.freed;
        hold = finished.hold;
        gathering = subst
            (λ p. GatheringFits p finished.freed s.facets.names.through s.facets.names.sent gathers) (sym idle_then) tt;
      }

  one_collector : (i : ℕ) (p : Part) (names : List Name) → slice_get s.facets.phases i ≡ Some (collecting p names)
      → i ≡ collector_seat k.shape
  one_collector i p names is =
      j.order.seated.collectors i (collector_seat k.shape)
      (role_at i (collecting p names) is)
      (role_at (collector_seat k.shape) (collecting (evacuating (running k) k.shape.servers) k.pending) c.phase)
    where
      role_at : (i : ℕ) (f : PhaseFacet) → slice_get s.facets.phases i ≡ Some f
          → slice_get (map role_of s.facets.phases) i ≡ Some (role_of f)
      role_at i f at = slice_get-map role_of s.facets.phases i ∙ ap (option_map role_of) at

  module _ (given : List Gift) (before spare : List ℕ) (gathers : Gathering)
      (choice_is : s.facets.choice ≡ has_chosen given before)
      (spares : (r : ℕ) → r < regions_of k.shape
      → times_in spare r ≡ times_in before r + gifts_at k.shape (layout k.shape (layout_in k.shape w s)) r) where
    layout_then : Layout k.shape
        (record (layout_in k.shape w s) { words = λ p. word_at k.shape us p; choice = rests_with spare })
    layout_then =
        each_step_keeps k.shape j.script.shape (layout_in k.shape w s) (collector_seat k.shape)
        (record (layout_in k.shape w s) { words = λ p. word_at k.shape us p; choice = rests_with spare }) j.layout
        (store_idle (λ p. word_at k.shape us p) (phase_word (Idle (running k))) given before spare choice_is
        (sets_words k.shape s.words j.names.hold.size phase (phase_word (Idle (running k))) tt)
        (ap cycle_of (phase_at-phase_word (Idle (running k)) small) ∙ sym cycle_is) none_leaves of_cycle spares)

    pub finishes : FinishGoesOn k.shape w s k spare gathers
    finishes = record {
      can = (index_in k.shape w s j phase tt, tt, tt);
      joint = record {
        script = j.script;
        names = names_then gathers;
        tracks = subst
            (λ p. TracksFit p k.shape w
            (record { words = us; facets = s.facets.trace; history = s.front.history })) (sym idle_then) tt;
        layout = layout_then;
        polls = polls_stay k.shape s phase (phase_word (Idle (running k))) tt (λ is. is) j.polls;
        order = phase_kept k.shape (phases_in s)
            (record {
              words = us;
              facets = set s.facets.phases (collector_seat k.shape) (collecting (phases.idle (running k)) k.pending);
            }) j.order (gates_drain k.shape w s j)
            (steps.Finishes (collector_seat k.shape) (running k) k.pending c.phase refl);
        reads = j.reads;
        gates = gates_match k.shape w s j (running k) k.shape.servers k.pending c.phase (phases.idle (running k))
            (λ f. f);
        choice = λ i part names is.
            ⊎_elim
            (λ t. subst (λ q. ChoiceFits q (rests_with spare)) (part_is t.1) tt)
            (λ t. absurd (t.0 (one_collector i part names t.1)))
            (get_set_cases s.facets.phases (collector_seat k.shape) i (collecting (phases.idle (running k)) k.pending)
            (collecting part names) is);
      };
    }
      where
        part_is : {q r : Part} {xs ys : List Name} → collecting q xs ≡ collecting r ys → q ≡ r
        part_is e = cc

pub finish_keeps : FinishKeeps
finish_keeps n w s k given before spare gathers j c over choice_is spares =
    subst
    (λ q. Joint q w s → HearingStands q s k StoringIdle → EndedHaveGoneOver q s
    → ((r : ℕ) → r < regions_of q → times_in spare r ≡ times_in before r + gifts_at q (layout q (layout_in q w s)) r)
    → FinishGoesOn q w s k spare gathers)
    c.shape (λ i d o m. finishes w s k i d o given before spare gathers choice_is m) j c over spares
