-- A server marks the name in its hand.
use Rattle.std.proofs.Common.{◌≡◌, ◌≢◌, ℕ, ◌+◌, ◌<◌, ◌≤◌, ◌^◌, ◌%◌, inl, inr, ⊎_elim, true, false, set, slice_get, Some}
use Rattle.std.proofs.Common.{sym, ap, subst, refl, ◌∙◌, arith}
use Rattle.mako_words.specs.declared.name.Name.{Name}
use Rattle.mako_words.specs.declared.entry_word.EntryWord.{EntryWord}
use Rattle.mako_words.specs.declared.phase_word.PhaseWord.TheVariants.{Trace}
use Rattle.mako_words.specs.Entries.{entry_word, entry_at, FitsEntry}
use Rattle.mako_words.specs.Phases.{cycle_of}
use Rattle.mako_words.proofs.EntryWords.{entry_at-entry_word}
use Rattle.mako_shape.specs.declared.numbers.Numbers.{Numbers}
use Rattle.mako_shape.specs.Places.{entry, leaving, Within, word_at}
use Rattle.mako_shape.specs.Belongings.{tablet_of_entry}
use Rattle.mako_shape.proofs.BelongingLaws.{belongings_in_range}
use Rattle.mako_model.specs.Legal.{Facts}
use Rattle.mako_names.specs.Counts.{name_of}
use Rattle.mako_names.specs.Steps as names
use Rattle.mako_names.specs.Steps.{KeepsName}
use Rattle.mako_names.specs.Tables.{IsTaken, entry_of, phase_of}
use Rattle.mako_names.specs.Uses.{IsGood}
use Rattle.mako_names.proofs.StepsKept.{step_kept}
use Rattle.mako_names.proofs.Words.{phase_else}
use Rattle.mako_ring.specs.TraceFacets as trace
use Rattle.mako_shades.specs.Laws.{TracksIn}
use Rattle.mako_shades.specs.Serving.{ServerStands, HandStands}
use Rattle.mako_shades.specs.Steps as shades
use Rattle.mako_shades.proofs.AllSteps as tracing
use Rattle.mako_shades.proofs.ForNames.{held_good}
use Rattle.mako_layout.specs.Evacuations.{State, Evacuation, layout, slot_at, IsTaken as IsTakenAt}
use Rattle.mako_layout.specs.Steps.{alter_entry}
use Rattle.mako_layout.proofs.EachStep.{each_step_keeps}
use Rattle.mako_layout.proofs.Entries.{generation_small}
use Rattle.mako_phases.specs.Facets.{Part, idle, pausing, rooting, tracing as in_tracing, choosing, evacuating, stopped}
use Rattle.mako_phases.specs.Facets.{serving, working, IsRestful}
use Rattle.mako_phases.specs.Laws.{IsStaying}
use Rattle.mako_phases.specs.Steps as phases
use Rattle.mako_phases.proofs.AllPhases.{phase_kept}
use Rattle.mako_phases.proofs.Parts.{cycles_fit, bound_cycle, work_cycle}
use Rattle.mako_joint.specs.Joints.{JointScene, names_in, trace_in, layout_in, phases_in, TracksFit, Joint}
use Rattle.mako_joint.specs.Kinds.{with_entry, with_mark, MarksName}
use Rattle.mako_joint.proofs.EachKind.{stored, polls_stay}
use Rattle.mako_joint.proofs.Heaps.{heaps_stand}
use Rattle.mako_joint.proofs.Pauses.{gates_drain, nothing_given}

-- a laden server is one in tracing, where no tablet is chosen
laden_stays : (part : Part) → (IsRestful part → true ≡ false) → IsStaying part
laden_stays (idle c) rests = tt
laden_stays (pausing c) rests = tt
laden_stays (rooting c k) rests = tt
laden_stays (in_tracing c) rests = tt
laden_stays (stopped c) rests = tt
laden_stays (choosing c left) rests = absurd (let e : true ≡ false = rests tt in cc)
laden_stays (evacuating c k) rests = absurd (let e : true ≡ false = rests tt in cc)

module _ (n : Numbers) (w : Facts) (s : JointScene) (j : Joint n w s) (cycle seat server ended : ℕ) (job : trace.Work)
    (x : Name) (e : EntryWord)
    (at : slice_get s.facets.phases seat ≡ Some (serving server (working cycle) ended true))
    (traced : phase_of n s.words ≡ Trace cycle) (here : slice_get s.facets.trace seat ≡ Some (trace.serving job))
    (hand : job.hand ≡ trace.marking x e) where
  abbrev st : State
  st = layout_in n w s

  abbrev marked : EntryWord
  marked = record e { epoch = cycle }

  abbrev after : JointScene
  after = with_mark n s cycle seat job x e

  tracks : TracksIn n w cycle (trace_in s)
  tracks = subst (λ p. TracksFit p n w (trace_in s)) traced j.tracks

  keeps : ServerStands n w s.words s.front.history cycle job
  keeps = tracks.serving.each seat (trace.serving job) here

  known : HandStands n s.words cycle (trace.marking x e)
  known = subst (HandStands n s.words cycle) hand keeps.hand

  within : Within n (entry x.entry)
  within = known.0.within

  is_e : entry_of n s.words x.entry ≡ e
  unfolding entry_of
  is_e = known.1

  word_is : entry_at (word_at n s.words (entry x.entry)) ≡ e
  word_is = known.1

  good : IsGood w s.front.history x
  good = held_good n w s.words s.facets.trace s.front.history cycle tracks.tracing seat (trace.serving job) x here
      (inl (inl (subst (λ (h : trace.Hand). trace.InHand h x) (sym hand) refl)))

  small : cycle < 2 ^ 20
  small =
      let o = j.order in
      let few = cycles_fit n o.shape in
      let same = work_cycle o.part server cycle ended
      (o.each seat (serving server (working cycle) ended true) at).fits in
      let bound = bound_cycle n o.part o.words_stand.bound in omega arith

  fits : FitsEntry marked
  fits = record {
    address = subst (λ (k : EntryWord). k.address < 2 ^ 23) word_is
        (let d : word_at n s.words (entry x.entry) % 2 ^ 23 < 2 ^ 23 = omega arith in d);
    epoch = small;
    generation = subst (λ (k : EntryWord). k.generation < 2 ^ 20) word_is
        (generation_small (word_at n s.words (entry x.entry)));
  }

  -- its name is that of the entry as it was loaded
  named : name_of x.entry e.generation ≡ x
  named =
      let same : e.generation ≡ x.generation =
      sym (ap (λ (k : EntryWord). k.generation) is_e) ∙ known.0.generation in
      λ i. record { entry = x.entry; generation = same i }

  names_keep : KeepsName n s.words x.entry marked
  names_keep = record {
    within = within;
    fits = fits;
    taken = ap (λ (k : EntryWord). k.taken) (sym is_e);
    generation = ap (λ (k : EntryWord). k.generation) (sym is_e);
  }

  taken : e.taken ≡ true
  taken = sym (ap (λ (k : EntryWord). k.taken) is_e) ∙ known.0.taken

  taken_at : IsTakenAt n st x.entry
  taken_at = ap (λ (k : EntryWord). k.taken) word_is ∙ taken

  rest : ((layout n st).given (tablet_of_entry n x.entry) ≡ 0)
      × (word_at n s.words (leaving (tablet_of_entry n x.entry)) ≡ 0)
  rest =
      let stands = j.order.each seat (serving server (working cycle) ended true) at in
      nothing_given n w s j (laden_stays j.order.part stands.rests) (tablet_of_entry n x.entry)
      (belongings_in_range.entry n x.entry within)

  in_home : (slot_at n st x.entry).region ≡ (layout n st).home (tablet_of_entry n x.entry)
  in_home =
      ⊎_elim (λ h. h.region) (λ g. absurd (let a = g.region in let b = rest.0 in omega arith))
      (j.layout.copy.whole x.entry within taken_at)

  evacuated : Evacuation n (layout_in n w after)
  evacuated =
      each_step_keeps n j.script.shape st seat (layout_in n w after) j.layout
      (alter_entry seat (λ p. word_at n after.words p) x.entry marked (record {
        inside = within;
        stays = rest.1;
        was = taken_at;
        sets = stored n s.words x.entry (entry_word marked) j.names.hold.size within;
        fits = fits;
        address = λ t. ap (λ (k : EntryWord). k.address) (sym word_is);
        generation = λ t. ap (λ (k : EntryWord). k.generation) (sym word_is);
        home = λ t. in_home;
        read = λ i v at reading same. taken;
      }))

  tracked : TracksIn n w cycle (trace_in after)
  tracked = tracing.step_kept n w cycle (trace_in s) (trace_in after) (heaps_stand n w s j) tracks
      (shades.Marks seat job x e (entry_word marked) here hand (entry_at-entry_word marked fits) refl)

  pub marks : Joint n w after
  marks = record {
    script = j.script;
    names = step_kept n w (names_in s) (names_in after) j.script.facts
        (names.Marks cycle x.entry marked names_keep traced refl
        (subst (IsGood w s.front.history) (sym named) good)) j.names;
    tracks = subst (λ p. TracksFit p n w (trace_in after))
        (sym (phase_else n s.words x.entry (entry_word marked) within ∙ traced)) tracked;
    layout = evacuated;
    polls = polls_stay n s (entry x.entry) (entry_word marked) within (λ is. is) j.polls;
    order = phase_kept n (phases_in s) (phases_in after) j.order (gates_drain n w s j)
        (phases.Marks seat server cycle ended true x.entry (entry_word marked) at within
        (ap (λ (u : EntryWord). u.epoch) (entry_at-entry_word marked fits)) refl);
    reads = j.reads;
    gates = j.gates;
    choice = j.choice;
  }

pub marks_name : MarksName
marks_name n w s j cycle seat server ended job x e at traced here hand =
    marks n w s j cycle seat server ended job x e at traced here hand
