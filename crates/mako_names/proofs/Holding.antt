-- All that ties entries and names to the front, at each kind of step.
use Rattle.std.proofs.Common.{◌≡◌, ◌≢◌, ℕ, ◌+◌, ◌-◌, ◌*◌, ◌<◌, ◌≤◌, ◌^◌, ◌⊎◌, inl, inr, ⊎_elim, true, false, List, []}
use Rattle.std.proofs.Common.{◌∷◌, ◌++◌, length, flat_map, set, slice_get, Contains, Some, sym, ap, subst, refl, ◌∙◌}
use Rattle.std.proofs.Common.{arith, append-nil, length-set}
use Rattle.std.proofs.lemmas.Bool.{cases_eq}
use Rattle.std.proofs.lemmas.Bool.Decides.{nat_tests}
use Rattle.std.proofs.lemmas.List.Elements.{Contains-append_cases, Contains-push_cases}
use Rattle.mako_words.specs.declared.name.Name.{Name}
use Rattle.mako_words.specs.declared.value.Value.TheVariants.{Ref}
use Rattle.mako_words.specs.declared.entry_word.EntryWord.{EntryWord}
use Rattle.mako_words.specs.declared.phase_word.PhaseWord.{PhaseWord}
use Rattle.mako_words.specs.declared.phase_word.PhaseWord.TheVariants.{Idle, Trace, Evac, Stop}
use Rattle.mako_words.specs.Entries.{entry_word, FitsEntry}
use Rattle.mako_words.specs.Names.{name_word, FitsName}
use Rattle.mako_words.specs.Phases.{phase_word, cycle_of, FitsPhase}
use Rattle.mako_shape.specs.declared.numbers.Numbers.{Numbers}
use Rattle.mako_shape.specs.Limits.{all_entries}
use Rattle.mako_shape.specs.Places.{Place, phase, entry, area_of, index, total, Within, word_at}
use Rattle.mako_shape.proofs.PlaceLaws.{word_other}
use Rattle.mako_model.specs.declared.call.Call.{Call}
use Rattle.mako_model.specs.declared.call.Call.TheVariants as call
use Rattle.mako_model.specs.declared.reply.Reply.{Reply}
use Rattle.mako_model.specs.declared.reply.Reply.TheVariants as reply
use Rattle.mako_model.specs.declared.point.Point.{Point}
use Rattle.mako_model.specs.declared.point.Point.TheVariants.{Did, Snap}
use Rattle.mako_model.specs.Fronts.{Seen, with_point, with_cycle, opening_front}
use Rattle.mako_model.specs.Heaps.{board_name, root_of}
use Rattle.mako_model.specs.Legal.{Facts, state_of, IsLegal}
use Rattle.mako_model.specs.Dead.{made_by, IsDead, AreFreed}
use Rattle.mako_model.specs.LawfulFronts.{IsInRange}
use Rattle.mako_model.proofs.CycleCounts.{cycles_stay}
use Rattle.mako_model.proofs.Growth.{IsNext, IsStarvedIfFull, answers_push, answers_finish, answers_opening}
use Rattle.mako_model.proofs.Histories.{legal_push}
use Rattle.mako_names.specs.Counts.{name_of, one_of}
use Rattle.mako_names.specs.Tables.{IsWorkloadOf, published, EntryStands, TableStands, SameTable, entry_of, phase_of}
use Rattle.mako_names.specs.Tables.{settled_of, running_of}
use Rattle.mako_names.specs.Uses.{IsGood, IsUseSlot, UsesStand, SameSlots}
use Rattle.mako_names.specs.Trying as trying
use Rattle.mako_names.specs.Trying.{Trying, TryingStands}
use Rattle.mako_names.specs.Freeing.{Freeing, IsFreedIn, own_entries, entry_by, FreeingStands, FreeingFits, EpochStands}
use Rattle.mako_names.specs.Freeing.{EpochsStand, EpochsFit, AllMarked, since_snap}
use Rattle.mako_names.specs.Holding.{NameFacets, NamesHoldWith}
use Rattle.mako_names.proofs.Counts.{names_in_order, made_opening}
use Rattle.mako_names.proofs.Entries.{held_is_made, free_is_new, no_bool}
use Rattle.mako_names.proofs.Fits.{same_history, freeing_fits, epochs_fit, freeing_fits_published, epochs_fit_stored}
use Rattle.mako_names.proofs.Fits.{epochs_fit_touched, all_point, all_snap, all_finish, all_tries}
use Rattle.mako_names.proofs.FreeingKinds.{same_dead, freeing_stays, freeing_snaps, freeing_passes, freeing_frees}
use Rattle.mako_names.proofs.FreeingKinds.{freeing_done, freeing_lists, owned_within, has_server, passes_free}
use Rattle.mako_names.proofs.FreeingKinds.{passes_good, made_marked, epochs_stay, epochs_store}
use Rattle.mako_names.proofs.Good.{no_name, settled_begun}
use Rattle.mako_names.proofs.Next.{publish_next, snap_next, not_full, snap_not_full, follows_push, follows_snap}
use Rattle.mako_names.proofs.Next.{all_left_point, all_left_snap}
use Rattle.mako_model.proofs.RootRows.{has_roots}
use Rattle.mako_names.proofs.TableKinds.{table_stays, table_point, table_publishes, table_touches, table_snaps}
use Rattle.mako_names.proofs.TableKinds.{table_evacuates, table_stops, table_frees, table_finishes}
use Rattle.mako_names.proofs.TraceKinds.{young_push, trace_snaps, trace_stores, trace_ends, all_have_epoch}
use Rattle.mako_names.proofs.UseKinds.{uses_point, uses_stay, uses_hold, uses_put, uses_snap, good_made}
use Rattle.mako_names.proofs.Words.{entry_same, phase_same, entry_stored, entry_else, phase_else, phase_stored}
use Rattle.mako_names.proofs.Words.{entries_else, table_frame}

-- a store at a place that is no slot in use leaves the slots as they are
pub slots_frame : (n : Numbers) (ws : List ℕ) (p : Place) (v : ℕ) → Within n p → (IsUseSlot p → ⊥)
    → SameSlots n ws (set ws (index n p) v)
slots_frame n ws p v within other r inside slot =
    word_other n ws p r v within inside (λ e. other (subst IsUseSlot e slot))

-- a store of an entry leaves what the stored entry has of the one before
touched : (n : Numbers) (ws : List ℕ) (x : ℕ) (e : EntryWord) → length ws ≡ total n → x < all_entries n
    → FitsEntry e → {A : Type 0} (F : EntryWord → A) → F e ≡ F (entry_of n ws x)
    → (y : ℕ) → y < all_entries n → F (entry_of n (set ws (index n (entry x)) (entry_word e)) y) ≡ F (entry_of n ws y)
touched n ws x e size within fits F same y inside =
    ⊎_elim
    (λ here. subst (λ k. F (entry_of n (set ws (index n (entry x)) (entry_word e)) k) ≡ F (entry_of n ws k))
    (sym here) (ap F (entry_stored n ws x e size within fits) ∙ same))
    (λ other. ap F (entry_else n ws x y (entry_word e) within inside other)) (cases_eq y x)

module _ (n : Numbers) (w : Facts) where
  begun : (ws : List ℕ) (front : Seen) → TableStands n ws w front
      → cycle_of (phase_of n ws) ≤ (state_of w front.history).snaps
  begun ws front table = let e = table.cycle in omega arith

  -- ---- changes that are no points

  -- other words are stored than those of the table
  elsewhere : (ws us : List ℕ) (front : Seen) (facets : NameFacets) → length us ≡ total n → SameTable n ws us
      → UsesStand n us w front.history facets.held → NamesHoldWith n w ws front facets
      → NamesHoldWith n w us front facets
  elsewhere ws us front facets size same uses hold =
      let is = phase_same n ws us same.phase in
      let before = same_history w front.history (cycle_of (phase_of n ws)) in
      let words : (x : ℕ) → x < all_entries n → entry_of n us x ≡ entry_of n ws x =
      λ x within. entry_same n ws us x (same.entries x within) in record {
        size = size;
        answers = hold.answers;
        table = table_stays n ws us w front same hold.table;
        uses = uses;
        trying = hold.trying;
        left = hold.left;
        freeing = subst (λ p. FreeingFits p n us w front.history facets.freeing) (sym is)
            (freeing_fits (phase_of n ws) n ws us w front.history front.history facets.freeing before
            (λ x within. ap (λ (u : EntryWord). u.taken) (words x within))
            (λ x within. ap (λ (u : EntryWord). u.generation) (words x within)) hold.freeing);
        epochs = subst (λ p. EpochsFit p n us w front.history) (sym is)
            (epochs_fit (phase_of n ws) n ws us w front.history front.history before refl words hold.epochs);
      }

  -- other words are stored than those of the table and of slots
  pub hold_stores : (ws us : List ℕ) (front : Seen) (facets : NameFacets) → length us ≡ total n → SameTable n ws us
      → SameSlots n ws us → NamesHoldWith n w ws front facets → NamesHoldWith n w us front facets
  hold_stores ws us front facets size same slots hold =
      elsewhere ws us front facets size same (uses_stay n ws us w front.history facets.held slots hold.uses) hold

  -- a seat has other names to use
  pub hold_holds : (ws : List ℕ) (front : Seen) (facets : NameFacets) (seat : ℕ) (names : List Name)
      → ((name : Name) → Contains names name → IsGood w front.history name)
      → NamesHoldWith n w ws front facets
      → NamesHoldWith n w ws front (record facets { held = set facets.held seat names })
  hold_holds ws front facets seat names good hold = record {
    size = hold.size;
    answers = hold.answers;
    table = hold.table;
    uses = uses_hold n ws w front.history facets.held seat names good hold.uses;
    trying = hold.trying;
    left = hold.left;
    freeing = hold.freeing;
    epochs = hold.epochs;
  }

  -- a mutator goes on with its last attempt
  pub hold_tries : (ws : List ℕ) (front : Seen) (facets : NameFacets) (m : ℕ) (facet : Trying)
      → TryingStands w front m facet
      → NamesHoldWith n w ws front facets
      → NamesHoldWith n w ws front (record facets { trying = set facets.trying m facet })
  hold_tries ws front facets m facet stands hold = record {
    size = hold.size;
    answers = hold.answers;
    table = hold.table;
    uses = hold.uses;
    trying = all_tries w front m facet facets.trying stands hold.trying;
    left = hold.left;
    freeing = hold.freeing;
    epochs = hold.epochs;
  }

  -- a slot is filled or emptied
  pub hold_puts : (ws : List ℕ) (front : Seen) (facets : NameFacets) (p : Place) (v : ℕ) → Within n p → area_of p ≢ 0
      → area_of p ≢ 16 → ((name : Name) → FitsName name → v ≡ name_word name → IsGood w front.history name)
      → NamesHoldWith n w ws front facets → NamesHoldWith n w (set ws (index n p) v) front facets
  hold_puts ws front facets p v within not_phase not_entry good hold =
      elsewhere ws (set ws (index n p) v) front facets (length-set ws (index n p) v ∙ hold.size)
      (table_frame n ws p v within not_phase not_entry)
      (uses_put n ws w front.history facets.held p v hold.size within good hold.uses) hold

  -- ---- points

  -- a deciding point that makes no name; the words of the table and the slots are as they were
  pub hold_decides : (ws us : List ℕ) (front : Seen) (facets : NameFacets) (m : ℕ) (c : Call) (r : Reply)
      (left : List Call) → IsNext w front (Did m c r) → IsStarvedIfFull w front (Did m c r)
      → slice_get facets.left m ≡ Some (c ∷ left) → made_by (Did m c r) ≡ []
      → length us ≡ total n → SameTable n ws us → SameSlots n ws us
      → NamesHoldWith n w ws front facets
      → NamesHoldWith n w us (with_point front (Did m c r))
      (record facets { trying = set facets.trying m trying.Nothing; left = set facets.left m left })
  hold_decides ws us front facets m c r left next full is_next none size same slots hold =
      let p : Point = Did m c r in
      let lawful = hold.answers.lawful in
      let legal : IsLegal w (front.history ++ p ∷ []) = legal_push w front.history p lawful.legal next.lawful in
      let is = phase_same n ws us same.phase in
      let dead = same_dead w front.history p (cycle_of (phase_of n ws)) legal (begun ws front hold.table) in
      let words : (x : ℕ) → x < all_entries n → entry_of n us x ≡ entry_of n ws x =
      λ x within. entry_same n ws us x (same.entries x within) in record {
        size = size;
        answers =
            answers_push w front p hold.answers next full
            (follows_push w front.history m c left r (hold.left m (c ∷ left) is_next) hold.answers.programs);
        table = table_point n ws us w front m c r lawful legal none same hold.table;
        uses = uses_point n ws us w front.history facets.held m c r legal slots hold.uses;
        trying = all_point w front m c r facets.trying lawful legal hold.trying;
        left = all_left_point w front.history m c left r facets.left is_next hold.left;
        freeing = subst (λ q. FreeingFits q n us w (front.history ++ p ∷ []) facets.freeing) (sym is)
            (freeing_fits (phase_of n ws) n ws us w front.history (front.history ++ p ∷ []) facets.freeing dead
            (λ x within. ap (λ (u : EntryWord). u.taken) (words x within))
            (λ x within. ap (λ (u : EntryWord). u.generation) (words x within)) hold.freeing);
        epochs =
            subst (λ q. EpochsFit q n us w (front.history ++ p ∷ [])) (sym is)
            (epochs_fit (phase_of n ws) n ws us w front.history (front.history ++ p ∷ []) dead
            (young_push front.history m c r ∙ ap (λ ns. flat_map made_by (since_snap front.history) ++ ns) none
            ∙ append-nil (flat_map made_by (since_snap front.history))) words hold.epochs);
      }

  -- A `New` publishes a free entry with the cycle's epoch, and has then the new name to use.
  pub hold_publishes : (ws : List ℕ) (front : Seen) (facets : NameFacets) (m root fields x g address : ℕ)
      (left : List Call) → IsWorkloadOf n w → x < all_entries n
      → FitsEntry (published g (cycle_of (phase_of n ws)) address)
      → m < length w.programs → root < w.roots → slice_get facets.left m ≡ Some (call.New root fields ∷ left)
      → (entry_of n ws x).taken ≡ false → (entry_of n ws x).generation ≡ g → g < w.generations
      → NamesHoldWith n w ws front facets
      → NamesHoldWith n w (set ws (index n (entry x)) (entry_word (published g (cycle_of (phase_of n ws)) address)))
      (with_point front (Did m (call.New root fields) (reply.Made (name_of x g))))
      (record facets {
        held = set facets.held m (name_of x g ∷ []);
        trying = set facets.trying m trying.Nothing;
        left = set facets.left m left;
      })
  hold_publishes ws front facets m root fields x g address left of_it within fits seat in_row is_next is_free
      generation low hold =
      let c : Call = call.New root fields in
      let r : Reply = reply.Made (name_of x g) in
      let p : Point = Did m c r in
      let e : EntryWord = published g (cycle_of (phase_of n ws)) address in
      let us : List ℕ = set ws (index n (entry x)) (entry_word e) in
      let settled : ℕ = settled_of (phase_of n ws) in
      let lawful = hold.answers.lawful in
      let has = (has_roots w front.history lawful.legal).each m root seat in_row in
      let was : EntryStands w front settled x false g =
      subst (λ k. EntryStands w front settled x false k) generation
      (subst (λ b. EntryStands w front settled x b (entry_of n ws x).generation) is_free
      (hold.table.entries x within)) in
      let range : IsInRange w (name_of x g) =
      record {
        entry = subst (λ k. x < k) (λ i. sym of_it.tablets i * sym of_it.entries i) within;
        generation = low;
      } in
      let next =
      publish_next w front m root fields settled x g lawful has (settled_begun n ws w front hold.table) was
      range in
      let fresh = free_is_new w front settled x g (names_in_order w front lawful) was in
      let legal : IsLegal w (front.history ++ p ∷ []) = legal_push w front.history p lawful.legal next.lawful in
      let is = phase_else n ws x (entry_word e) within in
      let dead = same_dead w front.history p (cycle_of (phase_of n ws)) legal (begun ws front hold.table) in
      record {
        size = length-set ws (index n (entry x)) (entry_word e) ∙ hold.size;
        answers =
            answers_push w front p hold.answers next (not_full w front m c r (λ same. let b : ⊥ = cc in b))
            (follows_push w front.history m c left r (hold.left m (c ∷ left) is_next) hold.answers.programs);
        table = table_publishes n ws w front m c x g (cycle_of (phase_of n ws)) address hold.size within fits lawful
            legal is_free generation hold.table;
        uses = uses_hold n us w (front.history ++ p ∷ []) facets.held m (name_of x g ∷ [])
            (λ name here. ⊎_elim (λ t. absurd (no_name name t))
            (λ t. subst (IsGood w (front.history ++ p ∷ [])) t (good_made w front.history m c (name_of x g) legal))
            (Contains-push_cases [] (name_of x g) name here))
            (uses_point n ws us w front.history facets.held m c r legal
            (slots_frame n ws (entry x) (entry_word e) within (λ slot. slot)) hold.uses);
        trying = all_point w front m c r facets.trying lawful legal hold.trying;
        left = all_left_point w front.history m c left r facets.left is_next hold.left;
        freeing = subst (λ q. FreeingFits q n us w (front.history ++ p ∷ []) facets.freeing) (sym is)
            (freeing_fits_published (phase_of n ws) n ws w front.history (front.history ++ p ∷ []) x e
            facets.freeing hold.size within fits dead is_free fresh hold.freeing);
        epochs = subst (λ q. EpochsFit q n us w (front.history ++ p ∷ [])) (sym is)
            (epochs_fit_stored (phase_of n ws) n ws w front.history (front.history ++ p ∷ []) x e hold.size within
            fits dead
            (λ name here. ⊎_elim (λ t. inl t)
            (λ t. ⊎_elim (λ k. absurd (no_name name k)) (λ k. inr k) (Contains-push_cases [] (name_of x g) name t))
            (Contains-append_cases (flat_map made_by (since_snap front.history)) (made_by p) name
            (subst (λ ns. Contains ns name) (young_push front.history m c r) here)))
            refl ((made_marked n w front.history m c (cycle_of (phase_of n ws)) x g legal
            (begun ws front hold.table) fresh).good refl) hold.epochs);
      }

  -- ---- the cycle

  phase_fits : (c : ℕ) → IsWorkloadOf n w → c ≤ w.cycles → c < 2 ^ 20
  phase_fits c of_it le = let few = of_it.few_cycles in omega arith

  phase_slots : (ws : List ℕ) (v : ℕ) → SameSlots n ws (set ws (index n phase) v)
  phase_slots ws v = slots_frame n ws phase v tt (λ slot. slot)

  -- The store of Trace with its snapshot: no cycle runs, one is left, the slots are empty, each name that a seat has
  -- still to use stands in a root, and no server has freed anything in the new cycle.
  pub hold_snaps : (ws : List ℕ) (front : Seen) (facets : NameFacets) (c : ℕ) → IsWorkloadOf n w
      → phase_of n ws ≡ Idle c → c < w.cycles
      → ((p : Place) (name : Name) → Within n p → IsUseSlot p → FitsName name → word_at n ws p ≡ name_word name → ⊥)
      → ((seat : ℕ) (names : List Name) (name : Name) → slice_get facets.held seat ≡ Some names
      → Contains names name → (m : ℕ) × (q : ℕ) × (root_of (state_of w front.history) m q ≡ Some (Ref name)))
      → length facets.freeing ≡ n.servers
      → ((s : ℕ) (f : Freeing) → slice_get facets.freeing s ≡ Some f → (f.through ≡ 0) × (f.names ≡ []))
      → NamesHoldWith n w ws front facets
      → NamesHoldWith n w (set ws (index n phase) (phase_word (Trace (c + 1)))) (with_point front (Snap (c + 1)))
      facets
  hold_snaps ws front facets c of_it idle some empty rooted servers start hold =
      let p : Point = Snap (c + 1) in
      let us : List ℕ = set ws (index n phase) (phase_word (Trace (c + 1))) in
      let lawful = hold.answers.lawful in
      let cycle : c ≡ (state_of w front.history).snaps = sym (ap cycle_of idle) ∙ hold.table.cycle in
      let finished : length front.finished + 0 ≡ (state_of w front.history).snaps =
      ap (λ q. length front.finished + running_of q) (sym idle) ∙ hold.table.finished in
      let fits = phase_fits (c + 1) of_it (let d : c + 1 ≤ w.cycles = omega arith in d) in
      let next =
      snap_next w front c cycle
      (let d : length front.finished ≡ (state_of w front.history).snaps = omega arith in d)
      (let same =
      cycles_stay w front.history
      lawful.legal in (let d : c + 1 ≤ (state_of w front.history).cycles = omega arith in d)) in
      let legal : IsLegal w (front.history ++ p ∷ []) = legal_push w front.history p lawful.legal next.lawful in
      let is = phase_stored n ws (Trace (c + 1)) hold.size fits in record {
        size = length-set ws (index n phase) (phase_word (Trace (c + 1))) ∙ hold.size;
        answers =
            answers_push w front p hold.answers next (snap_not_full w front (c + 1))
            (follows_snap w front.history (c + 1) hold.answers.programs);
        table = table_snaps n ws w front c hold.size fits lawful legal idle hold.table;
        uses = uses_snap n ws us w front.history facets.held (c + 1) legal
            (phase_slots ws (phase_word (Trace (c + 1)))) empty rooted;
        trying = all_snap w front (c + 1) facets.trying lawful legal hold.trying;
        left = all_left_snap w front.history (c + 1) facets.left hold.left;
        freeing = subst (λ q. FreeingFits q n us w (front.history ++ p ∷ []) facets.freeing) (sym is)
            (freeing_snaps n w ws us front c facets.freeing lawful legal cycle hold.table
            (λ x within. entries_else n ws x (phase_word (Trace (c + 1))) within) servers start);
        epochs = subst (λ q. EpochsFit q n us w (front.history ++ p ∷ [])) (sym is)
            (trace_snaps n w ws us front.history c (λ x within. entries_else n ws x (phase_word (Trace (c + 1))) within)
            (λ x within taken. subst (λ k. k ≤ c)
            (sym (all_have_epoch n w ws front.history c x
            (subst (λ q. EpochsFit q n ws w front.history) idle hold.epochs) within taken
            (subst (λ k. ¬ IsDead w front.history k (name_of x (entry_of n ws x).generation))
            (let d : length front.finished ≡ c = omega arith in d) ((hold.table.entries x within).held taken))))
            (omega arith)));
      }

  -- the same table, under another phase
  phase_changes : (ws : List ℕ) (front : Seen) (facets : NameFacets) (p : PhaseWord) → FitsPhase p
      → TableStands n (set ws (index n phase) (phase_word p)) w front
      → ((us : List ℕ) → ((x : ℕ) → x < all_entries n → entry_of n us x ≡ entry_of n ws x)
      → FreeingFits p n us w front.history facets.freeing)
      → ((us : List ℕ) → ((x : ℕ) → x < all_entries n → entry_of n us x ≡ entry_of n ws x)
      → EpochsFit p n us w front.history)
      → NamesHoldWith n w ws front facets → NamesHoldWith n w (set ws (index n phase) (phase_word p)) front facets
  phase_changes ws front facets p fits table freeing epochs hold =
      let us : List ℕ = set ws (index n phase) (phase_word p) in
      let is = phase_stored n ws p hold.size fits in
      let words : (x : ℕ) → x < all_entries n → entry_of n us x ≡ entry_of n ws x =
      λ x within. entries_else n ws x (phase_word p) within in record {
        size = length-set ws (index n phase) (phase_word p) ∙ hold.size;
        answers = hold.answers;
        table = table;
        uses = uses_stay n ws us w front.history facets.held (phase_slots ws (phase_word p)) hold.uses;
        trying = hold.trying;
        left = hold.left;
        freeing = subst (λ q. FreeingFits q n us w front.history facets.freeing) (sym is) (freeing us words);
        epochs = subst (λ q. EpochsFit q n us w front.history) (sym is) (epochs us words);
      }

  -- the store of Evac, where each name that was reachable at the snapshot has its epoch
  pub hold_evacuates : (ws : List ℕ) (front : Seen) (facets : NameFacets) (c : ℕ) → IsWorkloadOf n w → c ≤ w.cycles
      → phase_of n ws ≡ Trace c → AllMarked n ws w front.history c
      → NamesHoldWith n w ws front facets
      → NamesHoldWith n w (set ws (index n phase) (phase_word (Evac c))) front facets
  hold_evacuates ws front facets c of_it le trace marked hold =
      let fits = phase_fits c of_it le in
      let cycle : c ≡ (state_of w front.history).snaps = sym (ap cycle_of trace) ∙ hold.table.cycle in
      let finished : length front.finished + 1 ≡ (state_of w front.history).snaps =
      ap (λ q. length front.finished + running_of q) (sym trace) ∙ hold.table.finished in
      let epochs : EpochsStand n ws w front.history c =
      trace_ends n w ws front.history c hold.answers.lawful.legal cycle (omega arith) marked
      (λ x within taken. held_is_made w front (settled_of (phase_of n ws)) x (entry_of n ws x).generation
      (names_in_order w front hold.answers.lawful)
      (subst (λ b. EntryStands w front (settled_of (phase_of n ws)) x b (entry_of n ws x).generation) taken
      (hold.table.entries x within)))
      (subst (λ q. EpochsFit q n ws w front.history) trace hold.epochs) in
      let same = same_history w front.history c in
      let was : FreeingStands n ws w front.history c facets.freeing =
      subst (λ q. FreeingFits q n ws w front.history facets.freeing) trace hold.freeing in
      phase_changes ws front facets (Evac c) fits
      (table_evacuates n ws w front c hold.size fits hold.answers.lawful.legal trace hold.table)
      (λ us words. freeing_stays n ws us w front.history front.history c facets.freeing same
      (λ x within. ap (λ (u : EntryWord). u.taken) (words x within))
      (λ x within. ap (λ (u : EntryWord). u.generation) (words x within)) was)
      (λ us words. epochs_stay n w ws us front.history front.history c same words epochs) hold

  -- the store of Stop
  pub hold_stops : (ws : List ℕ) (front : Seen) (facets : NameFacets) (c : ℕ) → IsWorkloadOf n w → c ≤ w.cycles
      → phase_of n ws ≡ Idle c
      → NamesHoldWith n w ws front facets
      → NamesHoldWith n w (set ws (index n phase) (phase_word (Stop c))) front facets
  hold_stops ws front facets c of_it le idle hold =
      let fits = phase_fits c of_it le in
      let was : EpochsStand n ws w front.history c = subst (λ q. EpochsFit q n ws w front.history) idle hold.epochs in
      phase_changes ws front facets (Stop c) fits (table_stops n ws w front c hold.size fits idle hold.table)
      (λ us words. tt)
      (λ us words. epochs_stay n w ws us front.history front.history c (same_history w front.history c) words was) hold

  -- An entry is stored again with its generation: taken with the cycle's epoch while servers trace, where its name is
  -- good, or by a move, which keeps the epoch.
  pub hold_touches : (ws : List ℕ) (front : Seen) (facets : NameFacets) (x : ℕ) (e : EntryWord) → x < all_entries n
      → FitsEntry e → e.taken ≡ (entry_of n ws x).taken → e.generation ≡ (entry_of n ws x).generation
      → ((c : ℕ) × (phase_of n ws ≡ Trace c) × (e.epoch ≡ c) × IsGood w front.history (name_of x e.generation))
      ⊎ (e.epoch ≡ (entry_of n ws x).epoch)
      → NamesHoldWith n w ws front facets → NamesHoldWith n w (set ws (index n (entry x)) (entry_word e)) front facets
  hold_touches ws front facets x e within fits taken generation how hold =
      let us : List ℕ = set ws (index n (entry x)) (entry_word e) in
      let is = phase_else n ws x (entry_word e) within in
      record {
        size = length-set ws (index n (entry x)) (entry_word e) ∙ hold.size;
        answers = hold.answers;
        table = table_touches n ws w front x e hold.size within fits taken generation hold.table;
        uses = uses_stay n ws us w front.history facets.held
            (slots_frame n ws (entry x) (entry_word e) within (λ slot. slot)) hold.uses;
        trying = hold.trying;
        left = hold.left;
        freeing = subst (λ q. FreeingFits q n us w front.history facets.freeing) (sym is)
            (freeing_fits (phase_of n ws) n ws us w front.history front.history facets.freeing
            (same_history w front.history (cycle_of (phase_of n ws)))
            (touched n ws x e hold.size within fits (λ (u : EntryWord). u.taken) taken)
            (touched n ws x e hold.size within fits (λ (u : EntryWord). u.generation) generation) hold.freeing);
        epochs = subst (λ q. EpochsFit q n us w front.history) (sym is) (⊎_elim
            (λ t. let last : (state_of w front.history).snaps ≡ t.0 = sym hold.table.cycle ∙ ap cycle_of t.1 in
            subst (λ q. EpochsFit q n us w front.history) (sym t.1)
            (trace_stores n w ws front.history front.history t.0 x e hold.size within fits
            (same_history w front.history t.0) (λ name here. inl here) t.2
            (subst (λ k. ¬ IsDead w front.history k (name_of x e.generation)) last t.3.kept)
            (subst (λ q. EpochsFit q n ws w front.history) t.1 hold.epochs)))
            (λ epoch. epochs_fit_touched (phase_of n ws) n ws us w front.history
            (touched n ws x e hold.size within fits (λ (u : EntryWord). u.taken) taken)
            (touched n ws x e hold.size within fits (λ (u : EntryWord). u.generation) generation)
            (touched n ws x e hold.size within fits (λ (u : EntryWord). u.epoch) epoch) hold.epochs) how);
      }

  -- ---- freeing

  -- a server goes over an entry that is free, or has the cycle's epoch
  pub hold_passes : (ws : List ℕ) (front : Seen) (facets : NameFacets) (c s : ℕ) (f : Freeing)
      → phase_of n ws ≡ Evac c → slice_get facets.freeing s ≡ Some f → f.through < own_entries n
      → ((entry_of n ws (entry_by n s f.through)).taken ≡ false) ⊎ ((entry_of n ws (entry_by n s f.through)).epoch ≡ c)
      → NamesHoldWith n w ws front facets
      → NamesHoldWith n w ws front
      (record facets { freeing = set facets.freeing s (record { through = f.through + 1; names = f.names }) })
  hold_passes ws front facets c s f evac here more how hold =
      let was : FreeingStands n ws w front.history c facets.freeing =
      subst (λ q. FreeingFits q n ws w front.history facets.freeing) evac hold.freeing in
      let marks : EpochsStand n ws w front.history c = subst (λ q. EpochsFit q n ws w front.history) evac hold.epochs in
      let x : ℕ = entry_by n s f.through in
      let within = owned_within n s f.through (has_server n w ws front.history c facets.freeing s f was here) more in
      let done : FreeingStands n ws w front.history c
      (set facets.freeing s (record { through = f.through + 1; names = f.names })) = ⊎_elim
      (λ is_free. freeing_passes n w ws front.history c s facets.freeing f here more
      (passes_free n w ws front.history c s facets.freeing f here more was is_free)
      (λ taken. absurd (no_bool (sym is_free ∙ taken))) was)
      (λ epoch. by_mark ws front.history c x (entry_of n ws x) (marks x within) epoch
      (FreeingStands n ws w front.history c
      (set facets.freeing s (record { through = f.through + 1; names = f.names })))
      (λ is_free. freeing_passes n w ws front.history c s facets.freeing f here more
      (passes_free n w ws front.history c s facets.freeing f here more was is_free)
      (λ taken. absurd (no_bool (sym is_free ∙ taken))) was)
      (λ good. freeing_passes n w ws front.history c s facets.freeing f here more
      (passes_good n w ws front.history c s facets.freeing f here more was good) (λ taken. good) was)) how in
      record {
        size = hold.size;
        answers = hold.answers;
        table = hold.table;
        uses = hold.uses;
        trying = hold.trying;
        left = hold.left;
        freeing =
            subst (λ q. FreeingFits q n ws w front.history
            (set facets.freeing s (record { through = f.through + 1; names = f.names }))) (sym evac) done;
        epochs = hold.epochs;
      }
    where
      by_mark : (vs : List ℕ) (history : List Point) (cycle y : ℕ) (u : EntryWord)
          → (u.taken ≡ true → EpochStands w history cycle y u.generation u.epoch) → u.epoch ≡ cycle → (P : Type 0)
          → (u.taken ≡ false → P) → (¬ IsDead w history cycle (name_of y u.generation) → P) → P
      by_mark vs history cycle y u marked epoch P is_free good =
          elim u.taken as (λ b. u.taken ≡ b → P)
          [ true ↦ λ t. good ((marked t).good epoch) | false ↦ λ t. is_free t ] refl

  -- a server frees a taken entry of another epoch
  pub hold_frees : (ws : List ℕ) (front : Seen) (facets : NameFacets) (c s : ℕ) (f : Freeing) (e : EntryWord)
      → FitsEntry e → phase_of n ws ≡ Evac c → slice_get facets.freeing s ≡ Some f → f.through < own_entries n
      → (entry_of n ws (entry_by n s f.through)).taken ≡ true → (entry_of n ws (entry_by n s f.through)).epoch ≢ c
      → e.taken ≡ false → e.generation ≡ (entry_of n ws (entry_by n s f.through)).generation + 1
      → NamesHoldWith n w ws front facets
      → NamesHoldWith n w (set ws (index n (entry (entry_by n s f.through))) (entry_word e)) front
      (record facets {
        freeing =
            set facets.freeing s
            (record {
              through = f.through + 1;
              names = f.names
                  ++ name_of (entry_by n s f.through) (entry_of n ws (entry_by n s f.through)).generation ∷ [];
            });
      })
  hold_frees ws front facets c s f e fits evac here more taken epoch is_free generation hold =
      let was : FreeingStands n ws w front.history c facets.freeing =
      subst (λ q. FreeingFits q n ws w front.history facets.freeing) evac hold.freeing in
      let marks : EpochsStand n ws w front.history c = subst (λ q. EpochsFit q n ws w front.history) evac hold.epochs in
      let x : ℕ = entry_by n s f.through in
      let g : ℕ = (entry_of n ws x).generation in
      let us : List ℕ = set ws (index n (entry x)) (entry_word e) in
      let within = owned_within n s f.through (has_server n w ws front.history c facets.freeing s f was here) more in
      let dead : IsDead w front.history c (name_of x g) = (marks x within taken).dead epoch in
      let cycle : c ≡ (state_of w front.history).snaps = sym (ap cycle_of evac) ∙ hold.table.cycle in
      let finished : length front.finished + 1 ≡ (state_of w front.history).snaps =
      ap (λ q. length front.finished + running_of q) (sym evac) ∙ hold.table.finished in
      let before : length front.finished ≡ c - 1 = omega arith in
      let freed : IsFreedIn w front.history c (name_of x g) =
      record {
        dead = dead;
        lived = subst (λ k. ¬ IsDead w front.history k (name_of x g)) before
            ((hold.table.entries x within).held taken);
      } in
      let is = phase_else n ws x (entry_word e) within in
      let same = same_history w front.history c in
      record {
        size = length-set ws (index n (entry x)) (entry_word e) ∙ hold.size;
        answers = hold.answers;
        table = table_frees n ws w front c x e hold.size within fits is_free generation evac taken dead hold.table;
        uses = uses_stay n ws us w front.history facets.held
            (slots_frame n ws (entry x) (entry_word e) within (λ slot. slot)) hold.uses;
        trying = hold.trying;
        left = hold.left;
        freeing =
            subst (λ q. FreeingFits q n us w front.history
            (set facets.freeing s (record { through = f.through + 1; names = f.names ++ name_of x g ∷ [] })))
            (sym (is ∙ evac))
            (freeing_frees n w ws front.history c s e facets.freeing f hold.size fits here more is_free taken freed
            was);
        epochs = subst (λ q. EpochsFit q n us w front.history) (sym (is ∙ evac))
            (epochs_store n w ws front.history front.history c x e hold.size within fits same
            (λ t. absurd (no_bool (sym is_free ∙ t))) marks);
      }

  -- The store of Idle: each server has gone over all its entries, and the names that the collector has got from them,
  -- server by server, are the cycle's.
  pub hold_finishes : (ws : List ℕ) (front : Seen) (facets : NameFacets) (c : ℕ) → IsWorkloadOf n w → c ≤ w.cycles
      → phase_of n ws ≡ Evac c
      → ((s : ℕ) (f : Freeing) → slice_get facets.freeing s ≡ Some f → f.through ≡ own_entries n)
      → NamesHoldWith n w ws front facets
      → NamesHoldWith n w (set ws (index n phase) (phase_word (Idle c)))
      (with_cycle front (flat_map (λ (f : Freeing). f.names) facets.freeing)) facets
  hold_finishes ws front facets c of_it le evac all hold =
      let names : List Name = flat_map (λ (f : Freeing). f.names) facets.freeing in
      let us : List ℕ = set ws (index n phase) (phase_word (Idle c)) in
      let fits = phase_fits c of_it le in
      let was : FreeingStands n ws w front.history c facets.freeing =
      subst (λ q. FreeingFits q n ws w front.history facets.freeing) evac hold.freeing in
      let marks : EpochsStand n ws w front.history c = subst (λ q. EpochsFit q n ws w front.history) evac hold.epochs in
      let cycle : c ≡ (state_of w front.history).snaps = sym (ap cycle_of evac) ∙ hold.table.cycle in
      let finished : length front.finished + 1 ≡ (state_of w front.history).snaps =
      ap (λ q. length front.finished + running_of q) (sym evac) ∙ hold.table.finished in
      let freed : AreFreed w front.history (length front.finished + 1) names =
      subst (λ k. AreFreed w front.history k names) (let d : c ≡ length front.finished + 1 = omega arith in d)
      (freeing_lists n w ws front c facets.freeing of_it hold.answers.lawful was all) in
      let is = phase_stored n ws (Idle c) hold.size fits in record {
        size = length-set ws (index n phase) (phase_word (Idle c)) ∙ hold.size;
        answers = answers_finish w front names hold.answers (omega arith) freed;
        table = table_finishes n ws w front names c hold.size fits evac
            (freeing_done n w ws front.history c facets.freeing was all) hold.table;
        uses = uses_stay n ws us w front.history facets.held (phase_slots ws (phase_word (Idle c))) hold.uses;
        trying = all_finish w front names facets.trying hold.trying;
        left = hold.left;
        freeing = subst (λ q. FreeingFits q n us w front.history facets.freeing) (sym is) tt;
        epochs =
            subst (λ q. EpochsFit q n us w front.history) (sym is)
            (epochs_stay n w ws us front.history front.history c (same_history w front.history c)
            (λ x within. entries_else n ws x (phase_word (Idle c)) within) marks);
      }

  -- ---- the opening

  pub hold_opening : (ws : List ℕ) (facets : NameFacets) → IsWorkloadOf n w → IsInRange w board_name
      → length ws ≡ total n → phase_of n ws ≡ Idle 0
      → (entry_of n ws 0).taken ≡ true → (entry_of n ws 0).generation ≡ 0 → (entry_of n ws 0).epoch ≡ 0
      → ((x : ℕ) → 0 < x → x < all_entries n → ((entry_of n ws x).taken ≡ false) × ((entry_of n ws x).generation ≡ 0))
      → ((p : Place) → Within n p → IsUseSlot p → word_at n ws p ≡ 0)
      → ((seat : ℕ) (names : List Name) → slice_get facets.held seat ≡ Some names → names ≡ [])
      → ((m : ℕ) (facet : Trying) → slice_get facets.trying m ≡ Some facet → facet ≡ trying.Nothing)
      → ((m : ℕ) (left program : List Call) → slice_get facets.left m ≡ Some left
      → slice_get w.programs m ≡ Some program → program ≡ left)
      → NamesHoldWith n w ws opening_front facets
  hold_opening ws facets of_it board size idle taken generation epoch others slots held all left = record {
    size = size;
    answers = answers_opening w board;
    table = record {
      cycle = ap cycle_of idle;
      finished = ap (λ q. 0 + running_of q) idle;
      entries = λ x within. ⊎_elim
          (λ zero.
          subst (λ k. EntryStands w opening_front (settled_of (phase_of n ws)) k (entry_of n ws k).taken
          (entry_of n ws k).generation) (sym zero)
          (subst (λ b. EntryStands w opening_front (settled_of (phase_of n ws)) 0 b (entry_of n ws 0).generation)
          (sym taken)
          (subst (λ g. EntryStands w opening_front (settled_of (phase_of n ws)) 0 true g) (sym generation)
          (board_stands (settled_of (phase_of n ws))))))
          (λ other. let t = others x (let d : 0 < x = omega (arith, other) in d) within in
          subst (λ b. EntryStands w opening_front (settled_of (phase_of n ws)) x b (entry_of n ws x).generation)
          (sym t.0)
          (subst (λ g. EntryStands w opening_front (settled_of (phase_of n ws)) x false g) (sym t.1)
          (bare_stands (settled_of (phase_of n ws)) x other))) (cases_eq x 0);
    };
    uses = record {
      slots = λ p name within slot fits e. let z : 0 ≡ name_word name =
          sym (slots p within slot) ∙ e in absurd (omega arith);
      held = λ seat names name at here. absurd
          (no_name name (subst (λ ns. Contains ns name) (held seat names at) here));
    };
    trying = λ m facet at. subst (TryingStands w opening_front m) (sym (all m facet at)) tt;
    left = λ m calls at program is. left m calls program at is;
    freeing = subst (λ q. FreeingFits q n ws w [] facets.freeing) (sym idle) tt;
    epochs = subst (λ q. EpochsFit q n ws w []) (sym idle) (λ x within is. record {
      good = λ e dead. let l = dead.numbered in absurd (omega arith);
      dead = λ other. ⊎_elim (λ zero. absurd (other (ap (λ k. (entry_of n ws k).epoch) zero ∙ epoch)))
          (λ more. absurd (no_bool (sym (others x (let d : 0 < x = omega (arith, more) in d) within).0 ∙ is)))
          (cases_eq x 0);
      old = ⊎_elim
          (λ zero. let e : (entry_of n ws x).epoch ≡ 0 = ap (λ k. (entry_of n ws k).epoch) zero
          ∙ epoch in (let d : (entry_of n ws x).epoch ≤ 0 = omega arith in d))
          (λ more. absurd (no_bool (sym (others x (let d : 0 < x = omega (arith, more) in d) within).0 ∙ is)))
          (cases_eq x 0);
    });
  }
    where
      board_stands : (settled : ℕ) → EntryStands w opening_front settled 0 true 0
      board_stands settled = let e = made_opening 0 in record {
        count = sym e;
        free = λ is. absurd (no_bool (sym is));
        held = λ is dead. let l = dead.numbered in absurd (omega arith);
      }

      bare_stands : (settled x : ℕ) → (x ≡ 0 → ⊥) → EntryStands w opening_front settled x false 0
      bare_stands settled x other =
          let e = made_opening x in let f : one_of x board_name ≡ 0 = grind (arith, nat_tests) in record {
            count = omega arith;
            free = λ is last k. absurd (omega arith);
            held = λ is. absurd (no_bool is);
          }
