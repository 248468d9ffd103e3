-- All groups hold at the opening.
use Rattle.std.proofs.Common.{◌≡◌, ℕ, ◌+◌, ◌<◌, ◌≤◌, ◌==◌, if◌then◌else◌, ⊎_elim, List, [], slice_get, Some, sym, ap}
use Rattle.std.proofs.Common.{subst, refl, ◌∙◌, arith}
use Rattle.std.proofs.lemmas.Bool.{cases_eq}
use Rattle.std.proofs.lemmas.Option.{same_Some}
use Rattle.mako_words.specs.declared.name.Name.{Name}
use Rattle.mako_words.specs.declared.phase_word.PhaseWord.{PhaseWord}
use Rattle.mako_words.specs.declared.phase_word.PhaseWord.TheVariants.{Idle}
use Rattle.mako_shape.specs.declared.numbers.Numbers.{Numbers}
use Rattle.mako_shape.specs.Places.{phase, entry, home, top, leaving, region_word, tablet_gate, mutator_gate, turn}
use Rattle.mako_shape.specs.Places.{word_at}
use Rattle.mako_model.specs.Fronts.{Seen}
use Rattle.mako_model.specs.Heaps.{opening}
use Rattle.mako_model.specs.Legal.{Facts, state_of}
use Rattle.mako_model.specs.Starved.{words_made}
use Rattle.mako_names.specs.Tables.{phase_of}
use Rattle.mako_names.proofs.StepsKept.{opening_names}
use Rattle.mako_poll.proofs.AllSteps.{opening_holds}
use Rattle.mako_layout.specs.Facets.{Choice, Work}
use Rattle.mako_layout.specs.Evacuations.{State, Evacuation}
use Rattle.mako_layout.specs.Beside.{IsReading}
use Rattle.mako_layout.specs.Openings.{opening_state}
use Rattle.mako_layout.specs.StepParts.{collector_seat}
use Rattle.mako_layout.proofs.Opens.{opening_kept, work_is_idle}
use Rattle.mako_layout.proofs.Outside.{outside_kept}
use Rattle.mako_phases.specs.Facets.{PhaseFacet, Part, idle, collecting, mutating, serving}
use Rattle.mako_phases.proofs.Reaching.{opening_order}
use Rattle.mako_joint.specs.Joints.{JointScene, names_in, trace_in, polls_in, phases_in, layout_in, TracksFit}
use Rattle.mako_joint.specs.Joints.{ChoiceFits, ChoiceMatches, Joint}
use Rattle.mako_joint.specs.Openings.{IsJointOpening, OpeningsHoldAll}

-- the words of the board's record alone, and those that a history made
abbrev made_first : ℕ → ℕ → ℕ
made_first board t = if t == 0 then board + 1 else 0

abbrev made_by_then : Facts → Seen → ℕ → ℕ
made_by_then w front t = words_made w t front.history

module _ (n : Numbers) (w : Facts) (s : JointScene) (o : IsJointOpening n w s) where
  heap_is : opening n.mutators n.roots w.board n.cycles ≡ state_of w s.front.history
  heap_is =
      let facts = o.script.facts in
      (λ q. opening (sym facts.mutators q) (sym facts.roots q) w.board (sym facts.cycles q))
      ∙ ap (λ (f : Seen). state_of w f.history) (sym o.names.front)

  made_is : made_first w.board ≡ made_by_then w s.front
  made_is =
      (λ q t. (let e : made_first w.board t ≡ words_made w t [] = omega arith in e) q)
      ∙ ap (made_by_then w) (sym o.names.front)

  fits : w.board + 1 ≤ n.words
  fits = let room = o.script.facts.board in let same = o.script.facts.words in omega arith

  evacuated : Evacuation n (layout_in n w s)
  evacuated =
      let st : State = opening_state n w.board in
      let one : Evacuation n (record st { words = λ p. word_at n s.words p }) =
      outside_kept n st (opening_kept n o.script.shape w.board fits) (λ p. word_at n s.words p) st.heap
      (record {
        table = record {
          phase = o.words phase tt;
          entries = λ x l. o.words (entry x) l;
          homes = λ t l. o.words (home t) l;
          tops = λ t l. o.words (top t) l;
          leavings = λ t l. o.words (leaving t) l;
        };
        regions = λ r a l k. o.words (region_word r a) (l, k);
      })
      (record {
        tablets = λ t l. o.words (tablet_gate t) l;
        owns = λ m l. o.words (mutator_gate m) l;
        turns = λ t l. o.words (turn t) l;
      })
      (λ name. refl) in
      subst (Evacuation n) (λ q. record {
        words = λ p. word_at n s.words p;
        heap = heap_is q;
        gates = sym o.stand q;
        works = sym o.works q;
        choice = sym o.choice q;
        made = made_is q;
      }) one

  idle_fits : (f : PhaseFacet) → f ≡ collecting (idle 0) [] → (part : Part) (pending : List Name)
      → f ≡ collecting part pending → ChoiceFits part s.facets.choice
  idle_fits f is part pending same =
      let first : idle 0 ≡ part = cc in
      subst (λ p. ChoiceFits p s.facets.choice) first (subst (ChoiceFits (idle 0)) (sym o.choice) tt)

  chosen : ChoiceMatches s.facets.phases s.facets.choice
  chosen seat part pending here =
      ⊎_elim
      (λ e. idle_fits (collecting part pending)
      (same_Some (collecting part pending) (collecting (idle 0) [])
      (sym here ∙ ap (slice_get s.facets.phases) e ∙ o.phases.here)) part pending refl)
      (λ other. absurd (o.phases.others seat (collecting part pending) here other)) (cases_eq seat o.phases.seat)

  pub opened : Joint n w s
  opened = record {
    script = o.script;
    names = opening_names n w (names_in s) o.script.facts o.names;
    tracks = subst (λ p. TracksFit p n w (trace_in s)) (sym o.names.idle) tt;
    layout = evacuated;
    polls = opening_holds n (polls_in n s) o.ring o.polls;
    order = opening_order n (phases_in s) o.phases;
    reads = λ i v at reading.
        absurd (subst IsReading (work_is_idle (collector_seat n + 1) i v
        (subst (λ vs. slice_get vs i ≡ Some v) o.works at)) reading);
    gates = o.gates;
    choice = chosen;
  }

pub openings_hold : OpeningsHoldAll
openings_hold n w s o = opened n w s o
