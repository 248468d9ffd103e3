-- A field is stored, with its point.
use Rattle.std.proofs.Common.{◌≡◌, ℕ, ◌+◌, ◌<◌, List, [], ◌∷◌, ◌++◌, length, set, slice_get, Some, sym, ap, subst, refl}
use Rattle.std.proofs.Common.{◌∙◌, arith}
use Rattle.mako_words.specs.declared.name.Name.{Name}
use Rattle.mako_words.specs.declared.value.Value.{Value}
use Rattle.mako_words.specs.declared.value.Value.TheVariants.{Ref}
use Rattle.mako_words.specs.declared.phase_word.PhaseWord.{PhaseWord}
use Rattle.mako_words.specs.declared.phase_word.PhaseWord.TheVariants.{Idle, Trace, Evac, Stop}
use Rattle.mako_words.specs.Values.{value_word}
use Rattle.mako_shape.specs.declared.numbers.Numbers.{Numbers}
use Rattle.mako_shape.specs.Places.{Place, phase, entry, region_word, index, Within, word_at}
use Rattle.mako_shape.proofs.PlaceLaws.{word_same, word_other}
use Rattle.mako_gate.specs.Standings.{GateFacet}
use Rattle.mako_model.specs.declared.call.Call.{Call}
use Rattle.mako_model.specs.declared.call.Call.TheVariants as call
use Rattle.mako_model.specs.declared.reply.Reply.TheVariants as reply
use Rattle.mako_model.specs.declared.point.Point.{Point}
use Rattle.mako_model.specs.declared.point.Point.TheVariants.{Did}
use Rattle.mako_model.specs.Heaps.{Heap, fields_of, root_of}
use Rattle.mako_model.specs.Lawful.{IsLawful}
use Rattle.mako_model.specs.Legal.{Facts, state_of}
use Rattle.mako_names.specs.Steps.{LeavesNames, Decides, Plain}
use Rattle.mako_names.specs.Tables.{phase_of}
use Rattle.mako_names.proofs.StepsKept.{step_kept, leaves_others}
use Rattle.mako_names.proofs.Words.{phase_same}
use Rattle.mako_ring.specs.TraceFacets as trace
use Rattle.mako_shades.specs.Steps as shades
use Rattle.mako_shades.proofs.AllSteps as tracing
use Rattle.mako_shades.proofs.Words.{write_agrees}
use Rattle.mako_layout.specs.Facets.{uses}
use Rattle.mako_layout.specs.Evacuations.{State, Evacuation, Seat, name_of}
use Rattle.mako_layout.proofs.Runs.{put_is_stored}
use Rattle.mako_phases.specs.Steps as phases
use Rattle.mako_phases.proofs.AllPhases.{phase_kept}
use Rattle.mako_joint.specs.Joints.{JointScene, names_in, trace_in, layout_in, phases_in, TracksFit, Joint}
use Rattle.mako_joint.specs.Bridges.{IsPresentRecord}
use Rattle.mako_joint.specs.Kinds.{with_field, StoresField}
use Rattle.mako_joint.proofs.EachKind.{polls_stay}
use Rattle.mako_joint.proofs.Heaps.{heaps_stand}
use Rattle.mako_joint.proofs.Pauses.{gates_drain}
use Rattle.mako_joint.proofs.Records.{named, there, field_within}

module _ (n : Numbers) (w : Facts) (s : JointScene) (j : Joint n w s) (m to field from r o : ℕ) (v : Value)
    (object : Name) (left : List Call) (g : GateFacet)
    (seat : Seat (layout_in n w s) m g (uses object.entry r o))
    (root_is : root_of (state_of w s.front.history) m to ≡ Some (Ref object))
    (value_is : root_of (state_of w s.front.history) m from ≡ Some v)
    (less : field < word_at n s.words (region_word r o))
    (next : slice_get s.facets.names.left m ≡ Some (call.Put to field from ∷ left))
    (stage : (cycle : ℕ) → phase_of n s.words ≡ Trace cycle
    → slice_get s.facets.trace m ≡ Some (trace.storing object field)) where
  abbrev h : Heap
  h = state_of w s.front.history

  abbrev point : Point
  point = Did m (call.Put to field from) reply.Done

  abbrev p : Place
  p = region_word r (o + (1 + field))

  abbrev after : JointScene
  after = with_field n s m to field from r o v left

  found : IsPresentRecord n w s m to object r o
  found = there n w s j m to r o object g seat root_is

  inside : field < length found.fields
  inside = let e = found.header in omega arith

  within : Within n p
  unfolding found
  within = field_within n w s j m to r o object g seat root_is field inside

  is_lawful : IsLawful h point
  is_lawful = ((v, value_is), (object, found.fields, found.refers, inside))

  name_is : name_of object.entry (word_at n s.words (entry object.entry)) ≡ object
  name_is = named n w s j m to r o object g seat root_is

  leaves : LeavesNames n s.words after.words
  leaves = leaves_others n s.words p (value_word v) j.names.hold.size within (λ is. is)

  evacuated : Evacuation n (layout_in n w after)
  evacuated =
      put_is_stored n (layout_in n w s) j.layout w s.front.history (record { heap = refl; made = λ t. refl }) m g
      object.entry r o m to field from v (λ q. word_at n after.words q) seat found.fields
      (subst (λ k. fields_of h k ≡ Some found.fields) (sym name_is) found.refers.fields_are) inside
      (subst (λ k. root_of h m to ≡ Some (Ref k)) (sym name_is) root_is) value_is
      (record {
        here = word_same n s.words p (value_word v) j.names.hold.size within;
        others = λ q low other. word_other n s.words p q (value_word v) within low other;
      })

  tracks_at : (k : PhaseWord) → phase_of n s.words ≡ k → TracksFit k n w (trace_in s) → TracksFit k n w (trace_in after)
  tracks_at (Idle c) e t = tt
  tracks_at (Evac c) e t = tt
  tracks_at (Stop c) e t = tt
  tracks_at (Trace c) e t =
      tracing.step_kept n w c (trace_in s) (trace_in after) (heaps_stand n w s j) t
      (shades.Stores m m to from field object found.fields v after.words (stage c e) found.refers inside value_is
      (write_agrees n s.words p (value_word v) within (λ is. is)) refl)

  pub stores : Joint n w after
  stores = record {
    script = j.script;
    names = step_kept n w (names_in s) (names_in after) j.script.facts
        (Decides after.words m (call.Put to field from) reply.Done left next
        (Plain (call.Put to field from) reply.Done tt is_lawful) leaves) j.names;
    tracks = subst (λ k. TracksFit k n w (trace_in after))
        (sym (phase_same n s.words after.words (leaves.same phase tt tt)))
        (tracks_at (phase_of n s.words) refl j.tracks);
    layout = evacuated;
    polls = polls_stay n s p (value_word v) within (λ is. is) j.polls;
    order = phase_kept n (phases_in s) (phases_in after) j.order (gates_drain n w s j)
        (phases.Unseen p (value_word v) within (λ is. is) refl);
    reads = j.reads;
    gates = j.gates;
    choice = j.choice;
  }

pub stores_field : StoresField
stores_field n w s j m to field from r o v object left g seat root_is value_is less next stage =
    stores n w s j m to field from r o v object left g seat root_is value_is less next stage
