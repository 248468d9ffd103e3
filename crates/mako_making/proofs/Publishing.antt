-- A new stores the entry of its object, and with it the call is decided.
use Rattle.std.proofs.Common.{◌≡◌, ℕ, ◌+◌, ◌*◌, ◌<◌, ◌^◌, ⊎_elim, true, false, List, [], ◌∷◌, ◌++◌, length, set, Some}
use Rattle.std.proofs.Common.{None, sym, ap, subst, refl, ◌∙◌, arith}
use Rattle.std.proofs.lemmas.List.{set-set}
use Rattle.mako_words.specs.declared.name.Name.{Name}
use Rattle.mako_words.specs.declared.entry_word.EntryWord.{EntryWord}
use Rattle.mako_words.specs.declared.phase_word.PhaseWord.{PhaseWord}
use Rattle.mako_words.specs.declared.phase_word.PhaseWord.TheVariants.{Idle, Trace, Evac, Stop}
use Rattle.mako_words.specs.Entries.{entry_word, FitsEntry}
use Rattle.mako_words.specs.Phases.{cycle_of, phase_at}
use Rattle.mako_words.proofs.EntryWords.{entry_at-entry_word}
use Rattle.mako_shape.specs.declared.numbers.Numbers.{Numbers}
use Rattle.mako_shape.specs.Places.{phase, entry, region_word, index, Within, word_at}
use Rattle.mako_shape.specs.Belongings.{tablet_of_entry}
use Rattle.mako_shape.proofs.BelongingLaws.{belongings_in_range}
use Rattle.mako_shape.proofs.PlaceLaws.{word_other}
use Rattle.mako_gate.specs.Changes.{Sets}
use Rattle.mako_gate.specs.Standings.{with_turn, mutator_at}
use Rattle.mako_model.specs.declared.call.Call.{Call}
use Rattle.mako_model.specs.declared.call.Call.TheVariants as call
use Rattle.mako_model.specs.declared.reply.Reply.TheVariants as reply
use Rattle.mako_model.specs.declared.point.Point.{Point}
use Rattle.mako_model.specs.declared.point.Point.TheVariants.{Did}
use Rattle.mako_model.specs.Fronts.{with_point}
use Rattle.mako_model.specs.Heaps.{fields_of}
use Rattle.mako_model.specs.Lawful.{HasRoot}
use Rattle.mako_model.specs.Legal.{Facts, state_of}
use Rattle.mako_model.proofs.CycleCounts.{few_snaps}
use Rattle.mako_model.proofs.Lists.{get_set_same, get_set_cases}
use Rattle.mako_model.proofs.RootRows.{has_roots}
use Rattle.mako_names.specs.Counts.{name_of}
use Rattle.mako_names.specs.Steps.{NamesHoldIn, Publication, MayPublish, Publishes, with_publication}
use Rattle.mako_names.specs.Tables.{EntryStands, entry_of, phase_of, settled_of, published}
use Rattle.mako_names.specs.Trying as trying
use Rattle.mako_names.specs.Trying.{Trying}
use Rattle.mako_names.proofs.Counts.{names_in_order}
use Rattle.mako_names.proofs.Entries.{free_is_new}
use Rattle.mako_names.proofs.Next.{no_object}
use Rattle.mako_names.proofs.StepsKept.{step_kept}
use Rattle.mako_names.proofs.Words.{phase_else}
use Rattle.mako_ring.specs.Facets.{IsPolled}
use Rattle.mako_ring.specs.Shades as ring
use Rattle.mako_ring.specs.TraceFacets.{apart}
use Rattle.mako_shades.specs.Steps as shades
use Rattle.mako_shades.proofs.AllSteps as tracing
use Rattle.mako_layout.specs.Facets.{idle, counts}
use Rattle.mako_layout.specs.Evacuations.{State, Evacuation, layout, Makes}
use Rattle.mako_layout.specs.StepParts.{new_entry}
use Rattle.mako_layout.proofs.Entries.{address_fits}
use Rattle.mako_layout.proofs.Outside.{new_published}
use Rattle.mako_phases.specs.Facets.{mutating, collecting, inside}
use Rattle.mako_phases.specs.Orders.{AreDrained}
use Rattle.mako_phases.specs.Steps as phases
use Rattle.mako_phases.specs.Steps.{PhaseScene, PhaseOrderIn}
use Rattle.mako_phases.proofs.AllPhases.{phase_kept}
use Rattle.mako_joint.specs.Joints.{JointScene, names_in, trace_in, layout_in, phases_in, TracksFit, Joint}
use Rattle.mako_joint.proofs.EachKind.{stored}
use Rattle.mako_joint.proofs.Heaps.{heaps_stand}
use Rattle.mako_joint.proofs.Pauses.{gates_drain}
use Rattle.mako_state.proofs.Seating.{set_again}
use Rattle.mako_mutating.specs.Mutators.{IsSeen, View, with_view}
use Rattle.mako_making.proofs.Seated.{no_pair, seat_goes}
use Rattle.mako_making.proofs.SeatKinds.{laid_work}
use Rattle.mako_making.proofs.Seeking.{in_with}

module _ (n : Numbers) (w : Facts) (s : JointScene) (j : Joint n w s) (m : ℕ) (low : m < n.mutators) (q f c : ℕ)
    (name : Name) (r o t : ℕ) (know : Trying) (left : List Call)
    (here : IsSeen s m (in_with (with_turn t) (counts name r o (f + 1)) know (call.New q f ∷ left)))
    (in_row : q < n.roots) (young : name.generation < n.generations) (cycle : c ≡ cycle_of (phase_of n s.words)) where
  abbrev was : View
  was = in_with (with_turn t) (counts name r o (f + 1)) know (call.New q f ∷ left)

  abbrev st : State
  st = layout_in n w s

  abbrev point : Point
  point = Did m (call.New q f) (reply.Made name)

  -- the entry that it stores
  abbrev pub made_entry : EntryWord
  made_entry = record {
    taken = true;
    generation = name.generation;
    epoch = c;
    address = index n (region_word r o);
  }

  abbrev us : List ℕ
  us = set s.words (index n (entry name.entry)) (entry_word made_entry)

  -- from then on it has the name to use, until the root has it
  abbrev pub made_own : View
  made_own = record {
    standing = with_turn t;
    work = idle;
    trace = apart;
    admission = inside None;
    held = name ∷ [];
    trying = trying.Nothing;
    left = left;
  }

  abbrev after : JointScene
  after = with_view s m us (with_point s.front point) made_own

  knows : Makes n (layout n st) st.words (mutator_at m (with_turn t)) name r o (f + 1) (f + 1)
  knows =
      (j.layout.knows m (mutator_at m (with_turn t)) (counts name r o (f + 1)) here.gate here.work).makes

  within : Within n (entry name.entry)
  within = knows.inside

  is_free : (entry_of n s.words name.entry).taken ≡ false
  unfolding entry_of
  is_free = knows.free

  same_generation : (entry_of n s.words name.entry).generation ≡ name.generation
  unfolding entry_of
  same_generation = knows.generation

  small : c < 2 ^ 20
  small =
      let a = few_snaps w s.front.history j.names.hold.answers.lawful.legal in
      let b = j.names.hold.table.cycle in
      let d = j.script.facts.few_cycles in omega arith

  address_small : index n (region_word r o) < 2 ^ 23
  address_small =
      let t_in = belongings_in_range.entry n name.entry knows.inside in
      let r_in = subst (λ k. k < n.servers * (n.tablets + n.spare)) (sym knows.kept.region)
      (j.layout.copy.home_in (tablet_of_entry n name.entry) t_in) in
      address_fits n r o r_in (let a = knows.fits in omega arith) j.script.shape

  fits : FitsEntry made_entry
  fits = record {
    address = address_small;
    epoch = small;
    generation = (let a = j.script.facts.generations in let b = j.script.facts.few_generations in omega arith);
  }

  -- ---- names
  abbrev publication : Publication
  publication = record {
    mutator = m;
    root = q;
    fields = f;
    entry = name.entry;
    address = index n (region_word r o);
  }

  mutator_of : m < length w.programs
  mutator_of = subst (λ k. m < k) (sym j.script.facts.mutators) low

  root_of_row : q < w.roots
  root_of_row = subst (λ k. q < k) (sym j.script.facts.roots) in_row

  may : MayPublish n w (names_in s) publication left
  may = record {
    mutator = mutator_of;
    root = root_of_row;
    entry = within;
    address = address_small;
    next = here.left;
    free = is_free;
    generation = (let e = same_generation in let d = j.script.facts.generations in omega arith);
  }

  -- the names once an entry of this generation and epoch is stored
  abbrev NamedWith : ℕ → ℕ → Type 0
  NamedWith g e = NamesHoldIn n w (record {
    words = set s.words (index n (entry name.entry)) (entry_word (published g e (index n (region_word r o))));
    front = with_point s.front (Did m (call.New q f) (reply.Made (name_of name.entry g)));
    facets = record s.facets.names {
      held = set s.facets.names.held m (name_of name.entry g ∷ []);
      trying = set s.facets.names.trying m trying.Nothing;
      left = set s.facets.names.left m left;
    };
  })

  named : NamesHoldIn n w (names_in after)
  named =
      subst (λ g. NamedWith g c) same_generation
      (subst (λ e. NamedWith (entry_of n s.words name.entry).generation e) (sym cycle)
      (step_kept n w (names_in s) (with_publication n (names_in s) publication left) j.script.facts
      (Publishes publication left may) j.names))

  -- ---- tracing
  has : HasRoot (state_of w s.front.history) m q
  has = (has_roots w s.front.history j.names.hold.answers.lawful.legal).each m q mutator_of root_of_row

  fresh : fields_of (state_of w s.front.history) name ≡ None
  fresh =
      let settled = settled_of (phase_of n s.words) in
      let stands = j.names.hold.table.entries name.entry within in
      let lawful = j.names.hold.answers.lawful in
      let free : EntryStands w s.front settled name.entry false name.generation =
      subst (λ g. EntryStands w s.front settled name.entry false g) same_generation
      (subst (λ b. EntryStands w s.front settled name.entry b (entry_of n s.words name.entry).generation) is_free
      stands) in
      no_object w s.front.history name lawful.legal
      (free_is_new w s.front settled name.entry name.generation (names_in_order w s.front lawful) free)

  was_free : (ring.entry_of n s.words name.entry).taken ≡ false
  was_free = knows.free

  tracks_at : (p : PhaseWord) → phase_of n s.words ≡ p → TracksFit p n w (trace_in s)
      → TracksFit p n w (record {
        words = us;
        facets = s.facets.trace;
        history = s.front.history ++ point ∷ [];
      })
  tracks_at (Idle d) e k = tt
  tracks_at (Evac d) e k = tt
  tracks_at (Stop d) e k = tt
  tracks_at (Trace d) e k =
      let is = entry_at-entry_word made_entry fits in
      tracing.step_kept n w d (trace_in s)
      (record { words = us; facets = s.facets.trace; history = s.front.history ++ point ∷ [] })
      (heaps_stand n w s j) k
      (shades.Makes m m q f name (entry_word made_entry) here.trace
      (record {
        has = has;
        fresh = fresh;
        within = within;
        free = was_free;
        taken = ap (λ (z : EntryWord). z.taken) is;
        generation = ap (λ (z : EntryWord). z.generation) is;
        epoch = ap (λ (z : EntryWord). z.epoch) is ∙ cycle ∙ ap cycle_of e;
      }) refl)

  tracked : TracksFit (phase_of n us) n w (trace_in after)
  tracked =
      subst (λ l. TracksFit (phase_of n us) n w (record {
        words = us;
        facets = l;
        history = s.front.history ++ point ∷ [];
      })) (sym (set_again s.facets.trace m apart here.trace))
      (subst (λ p. TracksFit p n w (record {
        words = us;
        facets = s.facets.trace;
        history = s.front.history ++ point ∷ [];
      })) (sym (phase_else n s.words name.entry (entry_word made_entry) within))
      (tracks_at (phase_of n s.words) refl j.tracks))

  -- ---- the order of the phases: what it kept of the phase is that of now
  abbrev now : PhaseWord
  now = phase_at (word_at n s.words phase)

  abbrev keeping : PhaseScene
  keeping = record { words = s.words; facets = set s.facets.phases m (mutating (inside (Some now))) }

  kept_order : PhaseOrderIn n keeping
  kept_order =
      phase_kept n (phases_in s) keeping j.order (gates_drain n w s j) (phases.Keeps m None here.phase refl)

  still_drained : AreDrained keeping.facets
  still_drained seat part pending at paused other admission is =
      ⊎_elim (λ b. absurd (no_pair (inside (Some now)) part pending b.1))
      (λ b. ⊎_elim
      (λ d. absurd (gates_drain n w s j seat part pending b.1 paused m (inside None) here.phase))
      (λ d. gates_drain n w s j seat part pending b.1 paused other admission d.1)
      (get_set_cases s.facets.phases m other (mutating (inside (Some now))) (mutating admission) is))
      (get_set_cases s.facets.phases m seat (mutating (inside (Some now))) (collecting part pending) at)

  now_is : cycle_of now ≡ cycle_of (phase_of n s.words)
  unfolding phase_of
  now_is = refl

  ordered : PhaseOrderIn n (phases_in after)
  ordered =
      subst (λ l. PhaseOrderIn n (record { words = us; facets = l }))
      (set-set s.facets.phases m (mutating (inside (Some now))) (mutating (inside None)))
      (phase_kept n keeping
      (record {
        words = us;
        facets = set (set s.facets.phases m (mutating (inside (Some now)))) m (mutating (inside None));
      }) kept_order still_drained
      (phases.Publishes m now name.entry (entry_word made_entry)
      (get_set_same s.facets.phases m (mutating (inside (Some now))) (mutating (inside None)) here.phase) within
      (ap (λ (z : EntryWord). z.epoch) (entry_at-entry_word made_entry fits) ∙ cycle ∙ sym now_is) refl))

  -- ---- the layout
  cycle_is : c ≡ (layout n st).cycle
  unfolding phase_of
  cycle_is = cycle

  laid_out : Evacuation n (layout_in n w after)
  laid_out =
      laid_work n w s j m low was here us (with_point s.front point) made_own refl
      (new_published n j.script.shape st j.layout m (mutator_at m (with_turn t)) here.gate w j.script.facts.entries
      s.front.history refl (λ k. refl) name r o f m q (λ p. word_at n us p) here.work
      (subst (λ k. k < 2 ^ 20) cycle_is small)
      (subst (λ k. Sets n st.words (λ p. word_at n us p) (entry name.entry)
      (entry_word (new_entry name k (index n (region_word r o))))) cycle_is
      (stored n s.words name.entry (entry_word made_entry) j.names.hold.size within)))

  pub publishes : Joint n w after
  publishes = seat_goes n w s j m low was here us (with_point s.front point) made_own (record {
    names = named;
    tracks = tracked;
    layout = laid_out;
    polled = λ p is inside. word_other n s.words (entry name.entry) p (entry_word made_entry) within inside
        (λ e. subst IsPolled e is);
    order = ordered;
    unread = λ e. e;
    out = λ z. omega arith;
  })
