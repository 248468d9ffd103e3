-- Kinds of step that keep all groups.
use Rattle.std.specs.Prelude.{ℕ, ◌≡◌, ◌≢◌, ◌+◌, ◌<◌, ◌≤◌, Bool, true, false, List, [], ◌∷◌, ◌++◌, slice_get, slice_set}
use Rattle.std.specs.Prelude.{Some}
use Rattle.mako_words.specs.declared.name.Name.{Name}
use Rattle.mako_words.specs.declared.value.Value.{Value}
use Rattle.mako_words.specs.declared.value.Value.TheVariants.{Ref}
use Rattle.mako_words.specs.Values.{value_word}
use Rattle.mako_words.specs.declared.entry_word.EntryWord.{EntryWord}
use Rattle.mako_words.specs.declared.phase_word.PhaseWord.TheVariants.{Trace, Evac}
use Rattle.mako_words.specs.Entries.{entry_word}
use Rattle.mako_shape.specs.declared.numbers.Numbers.{Numbers}
use Rattle.mako_shape.specs.Places.{entry, region_word, index, word_at}
use Rattle.mako_shape.specs.Belongings.{tablet_of_entry}
use Rattle.mako_gate.specs.Standings.{GateFacet, admitted, writes}
use Rattle.mako_model.specs.declared.call.Call.{Call}
use Rattle.mako_model.specs.declared.call.Call.TheVariants as call
use Rattle.mako_model.specs.declared.reply.Reply.TheVariants as reply
use Rattle.mako_model.specs.declared.point.Point.TheVariants.{Did}
use Rattle.mako_model.specs.Fronts.{with_point}
use Rattle.mako_model.specs.Heaps.{root_of}
use Rattle.mako_model.specs.Legal.{Facts, state_of}
use Rattle.mako_names.specs.Freeing.{entry_by}
use Rattle.mako_names.specs.Steps.{answered, ComesTo, MayFree, with_freed_entry}
use Rattle.mako_names.specs.Tables.{entry_of, phase_of}
use Rattle.mako_ring.specs.TraceFacets as trace
use Rattle.mako_layout.specs.Facets.{Work, idle, reads, uses, holds_home, moves, fills, raises}
use Rattle.mako_layout.specs.Evacuations.{slot_at, Seat}
use Rattle.mako_layout.specs.StepParts.{moved_entry}
use Rattle.mako_phases.specs.Facets.{serving, freeing, working}
use Rattle.mako_joint.specs.Joints.{JointScene, names_in, layout_in, HasName, Joint}

-- the seat's work is another
abbrev pub with_work : JointScene → ℕ → Work → JointScene
with_work s seat v = record s { facets = record s.facets { works = slice_set s.facets.works seat v } }

-- the word of an entry is another
abbrev pub with_entry : Numbers → JointScene → ℕ → EntryWord → JointScene
with_entry n s x e = record s { words = slice_set s.words (index n (entry x)) (entry_word e) }

-- A mutator that is admitted at the tablet's gate loads the entry of a name that it has to use.
abbrev pub LoadsEntry : Type 0
LoadsEntry = (n : Numbers) (w : Facts) (s : JointScene) → Joint n w s → (seat x : ℕ) (g : GateFacet)
    → Seat (layout_in n w s) seat g idle → HasName s.facets.names.held seat x
    → 1 ≤ admitted (tablet_of_entry n x) g.standing
    → Joint n w (with_work s seat
    (reads x (slot_at n (layout_in n w s) x).region (slot_at n (layout_in n w s) x).offset))

-- As the tablet's writer, while servers evacuate, it loads the entry again, and finds the record outside of the home
-- that it keeps: it is to be moved.
abbrev pub FindsAway : Type 0
FindsAway = (n : Numbers) (w : Facts) (s : JointScene) → Joint n w s → (cycle seat x y r : ℕ) (g : GateFacet)
    → phase_of n s.words ≡ Evac cycle → Seat (layout_in n w s) seat g (holds_home x r)
    → HasName s.facets.names.held seat y → tablet_of_entry n y ≡ tablet_of_entry n x
    → 1 ≤ writes (tablet_of_entry n y) g → (slot_at n (layout_in n w s) y).region ≢ r
    → Joint n w (with_work s seat (moves y (entry_of n s.words y) r))

-- A writer that has copied the whole record stores the entry with the new address.
abbrev pub MovesEntry : Type 0
MovesEntry = (n : Numbers) (w : Facts) (s : JointScene) → Joint n w s
    → (cycle seat x r o : ℕ) (found : EntryWord) (g : GateFacet) → phase_of n s.words ≡ Evac cycle
    → Seat (layout_in n w s) seat g (fills x found r o (slot_at n (layout_in n w s) x).size)
    → Joint n w (with_work (with_entry n s x (moved_entry found (index n (region_word r o)))) seat
    (raises x r o (slot_at n (layout_in n w s) x).size))

-- the scene once a server has freed its i-th entry, and has sent the name
abbrev pub with_freed : Numbers → JointScene → (server i : ℕ) → List Name → EntryWord → JointScene
with_freed n s server i sent e = record (with_entry n s (entry_by n server i) e) {
  facets = record s.facets { names = (with_freed_entry n (names_in s) server i sent e).facets };
}

-- A server past its tablets frees the next of its entries: the names of the cycle ask for it, and none reads the entry.
abbrev pub FreesEntry : Type 0
FreesEntry = (n : Numbers) (w : Facts) (s : JointScene) → Joint n w s
    → (seat server cycle ended i : ℕ) (laden : Bool) (sent : List Name) (e : EntryWord)
    → slice_get s.facets.phases seat ≡ Some (serving server (freeing cycle) ended laden)
    → ComesTo n (names_in s) cycle server i → MayFree n (names_in s) cycle server i sent e → e.epoch ≡ 0
    → Joint n w (with_freed n s server i sent e)

-- the scene once a server has marked the entry of the name in its hand
abbrev pub with_mark : Numbers → JointScene → ℕ → ℕ → trace.Work → Name → EntryWord → JointScene
with_mark n s cycle seat job x e = record (with_entry n s x.entry (record e { epoch = cycle })) {
  facets = record s.facets {
    trace = slice_set s.facets.trace seat (trace.serving (record job { hand = trace.pushing x }));
  };
}

-- A server marks the name in its hand: it works in the tracing of the cycle, as the order of the phases has it.
abbrev pub MarksName : Type 0
MarksName = (n : Numbers) (w : Facts) (s : JointScene) → Joint n w s
    → (cycle seat server ended : ℕ) (job : trace.Work) (x : Name) (e : EntryWord)
    → slice_get s.facets.phases seat ≡ Some (serving server (working cycle) ended true)
    → phase_of n s.words ≡ Trace cycle → slice_get s.facets.trace seat ≡ Some (trace.serving job)
    → job.hand ≡ trace.marking x e → Joint n w (with_mark n s cycle seat job x e)

-- the scene once a put has stored its field, with its point
abbrev pub with_field : Numbers → JointScene → (m to field from r o : ℕ) → Value → List Call → JointScene
with_field n s m to field from r o v left = record {
  words = slice_set s.words (index n (region_word r (o + (1 + field)))) (value_word v);
  front = with_point s.front (Did m (call.Put to field from) reply.Done);
  facets = record s.facets {
    names = answered s.facets.names m left;
    trace = slice_set s.facets.trace m trace.apart;
  };
}

-- A put stores its field where it uses the object's record; while servers trace, it is past its look at the field.
abbrev pub StoresField : Type 0
StoresField = (n : Numbers) (w : Facts) (s : JointScene) → Joint n w s
    → (m to field from r o : ℕ) (v : Value) (object : Name) (left : List Call) (g : GateFacet)
    → Seat (layout_in n w s) m g (uses object.entry r o)
    → root_of (state_of w s.front.history) m to ≡ Some (Ref object)
    → root_of (state_of w s.front.history) m from ≡ Some v → field < word_at n s.words (region_word r o)
    → slice_get s.facets.names.left m ≡ Some (call.Put to field from ∷ left)
    → ((cycle : ℕ) → phase_of n s.words ≡ Trace cycle
    → slice_get s.facets.trace m ≡ Some (trace.storing object field))
    → Joint n w (with_field n s m to field from r o v left)
