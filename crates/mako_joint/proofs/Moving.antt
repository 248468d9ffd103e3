-- An entry gets the address of the record's copy.
use Rattle.std.proofs.Common.{◌≡◌, ℕ, ◌+◌, ◌<◌, ◌^◌, sym, ap, subst, refl, ◌∙◌, arith}
use Rattle.mako_words.specs.declared.entry_word.EntryWord.{EntryWord}
use Rattle.mako_words.specs.declared.phase_word.PhaseWord.TheVariants.{Evac}
use Rattle.mako_words.specs.Entries.{entry_word, FitsEntry}
use Rattle.mako_words.proofs.EntryWords.{entry_at-entry_word}
use Rattle.mako_shape.specs.declared.numbers.Numbers.{Numbers}
use Rattle.mako_shape.specs.Places.{entry, region_word, index, Within, word_at}
use Rattle.mako_shape.specs.Belongings.{tablet_of_entry}
use Rattle.mako_shape.proofs.BelongingLaws.{belongings_in_range}
use Rattle.mako_gate.specs.Standings.{GateFacet}
use Rattle.mako_model.specs.Legal.{Facts}
use Rattle.mako_names.specs.Steps.{Moves, KeepsName}
use Rattle.mako_names.specs.Tables.{entry_of, phase_of}
use Rattle.mako_names.proofs.StepsKept.{step_kept}
use Rattle.mako_names.proofs.Words.{phase_else}
use Rattle.mako_layout.specs.Facets.{Work, fills, raises}
use Rattle.mako_layout.specs.Layouts.{regions_of}
use Rattle.mako_layout.specs.Evacuations.{State, Fills, Evacuation, layout, slot_at, Seat}
use Rattle.mako_layout.specs.Steps.{store_moved}
use Rattle.mako_layout.specs.StepParts.{moved_entry}
use Rattle.mako_layout.proofs.EachStep.{each_step_keeps}
use Rattle.mako_layout.proofs.Entries.{address_fits, generation_small, epoch_small}
use Rattle.mako_layout.proofs.Roles.{copy_fits}
use Rattle.mako_phases.specs.Steps as phases
use Rattle.mako_phases.proofs.AllPhases.{phase_kept}
use Rattle.mako_joint.specs.Joints.{JointScene, names_in, trace_in, layout_in, phases_in, TracksFit, Joint}
use Rattle.mako_joint.specs.Kinds.{with_work, with_entry, MovesEntry}
use Rattle.mako_joint.proofs.EachKind.{works_held, stored, polls_stay}
use Rattle.mako_joint.proofs.Pauses.{gates_drain}

module _ (n : Numbers) (w : Facts) (s : JointScene) (j : Joint n w s) (seat x r o : ℕ) (found : EntryWord)
    (g : GateFacet) (at : Seat (layout_in n w s) seat g (fills x found r o (slot_at n (layout_in n w s) x).size)) where
  abbrev st : State
  st = layout_in n w s

  abbrev e : EntryWord
  e = moved_entry found (index n (region_word r o))

  abbrev after : JointScene
  after = with_work (with_entry n s x e) seat (raises x r o (slot_at n st x).size)

  knows : Fills n (layout n st) st.words g x found r o (slot_at n st x).size
  knows = j.layout.knows seat g (fills x found r o (slot_at n st x).size) at.gate at.work

  within : Within n (entry x)
  within = knows.inside

  fits : FitsEntry e
  fits =
      let t_in = belongings_in_range.entry n x knows.inside in
      let r_in =
      subst (λ q. q < regions_of n) (sym knows.kept.region) (j.layout.copy.home_in (tablet_of_entry n x) t_in) in
      let room =
      copy_fits n (layout n st) j.layout.copy x knows.inside knows.taken knows.epoch
      (λ same. knows.out (same ∙ sym knows.kept.region)) in
      let some : 0 < (slot_at n st x).size = omega arith in
      let epoch = epoch_small (st.words (entry x)) in
      let generation = generation_small (st.words (entry x)) in record {
        address = address_fits n r o r_in (omega (arith, knows.kept.offset, room, some)) j.script.shape;
        epoch = subst (λ k. k < 2 ^ 20) knows.as_found.epoch epoch;
        generation = subst (λ k. k < 2 ^ 20) knows.as_found.generation generation;
      }

  epoch_is : e.epoch ≡ (entry_of n s.words x).epoch
  unfolding entry_of
  epoch_is = sym knows.as_found.epoch

  keeps : KeepsName n s.words x e
  unfolding entry_of
  keeps = record {
    within = within;
    fits = fits;
    taken = sym knows.as_found.taken;
    generation = sym knows.as_found.generation;
  }

  evacuated : Evacuation n (layout_in n w after)
  evacuated =
      each_step_keeps n j.script.shape st seat (layout_in n w after) j.layout
      (store_moved (λ p. word_at n after.words p) seat x found r o g at
      (stored n s.words x (entry_word e) j.names.hold.size within))

  pub moved : (cycle : ℕ) → phase_of n s.words ≡ Evac cycle → Joint n w after
  moved cycle evac = record {
    script = j.script;
    names = step_kept n w (names_in s) (names_in after) j.script.facts (Moves x e keeps epoch_is) j.names;
    tracks = subst (λ p. TracksFit p n w (trace_in after)) (sym (phase_else n s.words x (entry_word e) within
        ∙ evac)) tt;
    layout = evacuated;
    polls = polls_stay n s (entry x) (entry_word e) within (λ is. is) j.polls;
    order = phase_kept n (phases_in s) (phases_in after) j.order (gates_drain n w s j)
        (phases.Moves x (entry_word e) within
        (ap (λ (u : EntryWord). u.epoch) (entry_at-entry_word e fits) ∙ epoch_is) refl);
    reads = works_held s.facets.names.held s.facets.works seat (raises x r o (slot_at n st x).size)
        (λ is. absurd is) j.reads;
    gates = j.gates;
    choice = j.choice;
  }

pub moves_entry : MovesEntry
moves_entry n w s j cycle seat x r o found g evac at = moved n w s j seat x r o found g at cycle evac
