-- Each kind of step keeps the ties of names, and so do all runs.
use Rattle.std.proofs.Common.{◌+◌, ◌≡◌, ◌≢◌, ℕ, ◌*◌, ◌<◌, ◌≤◌, inl, inr, ⊎_elim, List, [], ◌∷◌, length, set, slice_get}
use Rattle.std.proofs.Common.{Some, sym, ap, subst, refl, ◌∙◌, arith, length-set}
use Rattle.std.proofs.Math.Nat.{mod-lt, mul_comm}
use Rattle.std.proofs.lemmas.Bool.{cases_lt}
use Rattle.std.proofs.lemmas.Nat.{mul-add-lt}
use Rattle.mako_words.specs.declared.phase_word.PhaseWord.{PhaseWord}
use Rattle.mako_words.specs.declared.phase_word.PhaseWord.TheVariants.{Idle, Trace, Evac}
use Rattle.mako_words.specs.Entries.{entry_word, FitsEntry}
use Rattle.mako_words.specs.Phases.{cycle_of}
use Rattle.mako_shape.specs.declared.numbers.Numbers.{Numbers}
use Rattle.mako_shape.specs.Limits.{all_entries}
use Rattle.mako_shape.specs.Places.{Place, phase, entry, barrier, work, ghost, area_of, index, total, Within}
use Rattle.mako_shape.proofs.PlaceLaws.{word_other}
use Rattle.mako_model.specs.declared.call.Call.{Call}
use Rattle.mako_model.specs.declared.call.Call.TheVariants as call
use Rattle.mako_model.specs.declared.reply.Reply.{Reply}
use Rattle.mako_model.specs.declared.reply.Reply.TheVariants as reply
use Rattle.mako_model.specs.declared.point.Point.TheVariants.{Did}
use Rattle.mako_model.specs.Answering.{Answers, AnswersToEnd}
use Rattle.mako_model.specs.Dead.{made_by}
use Rattle.mako_model.specs.Fronts.{Seen, with_point}
use Rattle.mako_model.specs.Heaps.{board_name}
use Rattle.mako_model.specs.LawfulFronts.{IsInRange, IsLawfulFront}
use Rattle.mako_model.specs.Legal.{Facts}
use Rattle.mako_model.proofs.CycleCounts.{few_snaps}
use Rattle.mako_names.specs.Freeing.{Freeing}
use Rattle.mako_names.specs.Going.{GatheringFits, NamesHold, with_freed}
use Rattle.mako_names.specs.Holding.{NamesHoldWith}
use Rattle.mako_names.specs.Steps.{NameScene, NamesHoldIn, LeavesNames, stored, looked_at, AttemptStep, Asks, Waited}
use Rattle.mako_names.specs.Steps.{FindsNoneLeft, Sees, GoesOver, Lacks, Notes, Forgets, IsPlain, Decision, Plain}
use Rattle.mako_names.specs.Steps.{Starves, Collects, Spends, answered, Publication, MayPublish, name_made, NameStep}
use Rattle.mako_names.specs.Steps.{Stores, Puts, Holds, Tries, Decides, Publishes, Marks, Moves, Snaps, Evacuates}
use Rattle.mako_names.specs.Steps.{Finishes, Stops, Passes, Frees, Gets, ReadsOn, IsNameOpening, Reached, Opened}
use Rattle.mako_names.specs.Steps.{Stepped}
use Rattle.mako_names.specs.Tables.{IsWorkloadOf, TableStands, SameTable, published, entry_of, phase_of}
use Rattle.mako_names.specs.Trying as trying
use Rattle.mako_names.specs.Trying.{Trying, tablet_at}
use Rattle.mako_names.specs.Uses.{IsUseSlot, IsNamePlace, SameSlots}
use Rattle.mako_names.proofs.Attempts.{hold_asks, hold_begins_awaited, hold_begins_spent, hold_notes, hold_sees}
use Rattle.mako_names.proofs.Attempts.{hold_goes_over, hold_lacks, hold_full, hold_answers, hold_spent, some_generation}
use Rattle.mako_names.proofs.Going.{go_on, go_snaps, go_evacuates, go_stops, go_passes, go_frees, go_gets, go_ends}
use Rattle.mako_names.proofs.Going.{go_finishes}
use Rattle.mako_names.proofs.Good.{in_table}
use Rattle.mako_names.proofs.Holding.{hold_opening, hold_stores, hold_holds, hold_tries, hold_puts, hold_decides}
use Rattle.mako_names.proofs.Holding.{hold_publishes, hold_touches}
use Rattle.mako_names.proofs.Next.{plain_next, not_full, to_the_end}
use Rattle.mako_names.proofs.Since.{asked_above}
use Rattle.mako_names.proofs.Words.{phase_same, phase_else, table_frame}

-- ---- numbers that the front bounds

-- what has a product above 0 is above 0
factors_some : (a b : ℕ) → 0 < a * b → (0 < a) × (0 < b)
factors_some a b some =
    ⊎_elim
    (λ l. ⊎_elim (λ k. (l, k))
    (λ none. let e : a * b ≡ a * 0 = ap (λ k. a * k) (let d : b ≡ 0 = omega arith in d) in absurd (omega arith))
    (cases_lt 0 b))
    (λ none. let e : a * b ≡ 0 * b = ap (λ k. k * b) (let d : a ≡ 0 = omega arith in d) in absurd (omega arith))
    (cases_lt 0 a)

module _ (n : Numbers) (w : Facts) where
  board_in_range : (front : Seen) → IsLawfulFront w front → IsInRange w board_name
  board_in_range front lawful = lawful.names board_name (0, omega arith, refl)

  -- there are tablets, with entries
  some_of_each : (front : Seen) → IsLawfulFront w front → (0 < w.tablets) × (0 < w.entries)
  some_of_each front lawful =
      factors_some w.tablets w.entries (let l = (board_in_range front lawful).entry in omega arith)

  some_servers : (front : Seen) → IsWorkloadOf n w → IsLawfulFront w front → 0 < n.servers
  some_servers front of_it lawful =
      let some = (some_of_each front lawful).0 in let same = of_it.tablets in
      (factors_some n.servers n.tablets (omega arith)).0

  -- an entry that an attempt looks at is one of the table
  looked_within : (front : Seen) (m tablets entries : ℕ) → IsWorkloadOf n w → IsLawfulFront w front
      → entries < w.entries
      → looked_at w m tablets entries < all_entries n
  looked_within front m tablets entries of_it lawful l =
      let low = mod-lt (m + tablets) (some_of_each front lawful).0 in
      let below : looked_at w m tablets entries < w.entries * w.tablets =
      mul-add-lt (tablet_at w m tablets) w.entries entries w.tablets low l in
      let turned = mul_comm w.entries w.tablets in
      in_table n w (looked_at w m tablets entries) of_it (omega arith)

  cycle_within : (ws : List ℕ) (front : Seen) → IsLawfulFront w front → TableStands n ws w front
      → cycle_of (phase_of n ws) ≤ w.cycles
  cycle_within ws front lawful table =
      let few = few_snaps w front.history lawful.legal in let same = table.cycle in omega arith

  -- the cycle of a phase
  in_phase : (ws : List ℕ) (front : Seen) (p : PhaseWord) → IsLawfulFront w front → TableStands n ws w front
      → phase_of n ws ≡ p → cycle_of p ≤ w.cycles
  in_phase ws front p lawful table is = subst (λ q. cycle_of q ≤ w.cycles) is (cycle_within ws front lawful table)

-- a slot is neither the phase nor an entry
slot_area : (p : Place) → IsUseSlot p → (area_of p ≢ 0) × (area_of p ≢ 16)
slot_area (barrier m slot) slot_is = ((λ e. omega arith), (λ e. omega arith))
slot_area (work s slot) slot_is = ((λ e. omega arith), (λ e. omega arith))
slot_area (ghost sender receiver slot) slot_is = ((λ e. omega arith), (λ e. omega arith))
slot_area p slot_is = absurd slot_is

-- ---- words in which no name is looked for

slot_is_name : (p : Place) → IsUseSlot p → IsNamePlace p
slot_is_name (barrier m slot) slot_is = tt
slot_is_name (work s slot) slot_is = tt
slot_is_name (ghost sender receiver slot) slot_is = tt
slot_is_name p slot_is = absurd slot_is

same_table : (n : Numbers) (ws us : List ℕ) → LeavesNames n ws us → SameTable n ws us
same_table n ws us leaves = record {
  phase = leaves.same phase tt tt;
  entries = λ x within. leaves.same (entry x) within tt;
}

same_slots : (n : Numbers) (ws us : List ℕ) → LeavesNames n ws us → SameSlots n ws us
same_slots n ws us leaves p within slot_is = leaves.same p within (slot_is_name p slot_is)

-- no word is stored
pub leaves_all : (n : Numbers) (ws : List ℕ) → length ws ≡ total n → LeavesNames n ws ws
leaves_all n ws size = record { size = size; same = λ p within name_is. refl }

-- a word is stored elsewhere
pub leaves_others : (n : Numbers) (ws : List ℕ) (p : Place) (v : ℕ) → length ws ≡ total n → Within n p
    → (IsNamePlace p → ⊥) → LeavesNames n ws (set ws (index n p) v)
leaves_others n ws p v size within other = record {
  size = length-set ws (index n p) v ∙ size;
  same = λ r inside name_is. word_other n ws p r v within inside (λ e. other (subst IsNamePlace e name_is));
}

pub elsewhere_step : (n : Numbers) (w : Facts) (s : NameScene) (p : Place) (v : ℕ) → length s.words ≡ total n
    → Within n p → (IsNamePlace p → ⊥) → NameStep n w s (stored n s p v)
elsewhere_step n w s p v size within other =
    Stores (set s.words (index n p) v) (leaves_others n s.words p v size within other)

-- ---- one step of an attempt

attempt_kept : (n : Numbers) (w : Facts) (s : NameScene) (m : ℕ) (before after : Trying)
    → IsWorkloadOf n w → AttemptStep n w s m before after
    → slice_get s.facets.trying m ≡ Some before → (freed : List Freeing)
    → NamesHoldWith n w s.words s.front (with_freed s.facets freed)
    → NamesHoldWith n w s.words s.front (with_freed (record s.facets { trying = set s.facets.trying m after }) freed)
attempt_kept n w s m _ _ of_it (Asks known) at freed hold =
    hold_asks n w s.words s.front (with_freed s.facets freed) m hold
attempt_kept n w s m _ _ of_it (Waited k fields told) at freed hold =
    hold_begins_awaited n w s.words s.front (with_freed s.facets freed) m k fields at told hold
attempt_kept n w s m _ _ of_it (FindsNoneLeft known fields last) at freed hold =
    hold_begins_spent n w s.words s.front (with_freed s.facets freed) m fields last hold
attempt_kept n w s m _ _ of_it (Sees fields tablets entries more found) at freed hold =
    hold_sees n w s.words s.front (with_freed s.facets freed) m fields tablets entries at
    (looked_within n w s.front m tablets entries of_it hold.answers.lawful more)
    (some_generation n w s.front hold.answers.lawful) found hold
attempt_kept n w s m _ _ of_it (GoesOver fields tablets) at freed hold =
    hold_goes_over n w s.words s.front (with_freed s.facets freed) m fields tablets at
    (some_of_each n w s.front hold.answers.lawful).1 hold
attempt_kept n w s m _ _ of_it (Lacks fields tablets lacks) at freed hold =
    hold_lacks n w s.words s.front (with_freed s.facets freed) m fields tablets at lacks.used lacks.few hold
attempt_kept n w s m _ _ of_it (Notes fields tablets entries) at freed hold =
    hold_notes n w s.words s.front (with_freed s.facets freed) m fields tablets entries at hold
attempt_kept n w s m _ _ of_it (Forgets known) at freed hold =
    hold_tries n w s.words s.front (with_freed s.facets freed) m trying.Nothing tt hold

-- ---- one decision

plain_makes_none : (m : ℕ) (c : Call) (r : Reply) → IsPlain r → made_by (Did m c r) ≡ []
plain_makes_none m c (reply.Made name) plain = absurd plain
plain_makes_none m c r plain = refl

plain_no_cycle : (r : Reply) → IsPlain r → (k : ℕ) → r ≡ reply.Cycle k → ⊥
plain_no_cycle r plain k e = subst IsPlain e plain

plain_not_full : (r : Reply) → IsPlain r → r ≡ reply.Full → ⊥
plain_not_full r plain e = subst IsPlain e plain

decision_kept : (n : Numbers) (w : Facts) (s : NameScene) (us : List ℕ) (m : ℕ) (c : Call) (r : Reply)
    (left : List Call) → Decision n w s m c r
    → slice_get s.facets.left m ≡ Some (c ∷ left) → LeavesNames n s.words us → (freed : List Freeing)
    → NamesHoldWith n w s.words s.front (with_freed s.facets freed)
    → NamesHoldWith n w us (with_point s.front (Did m c r)) (with_freed (answered s.facets m left) freed)
decision_kept n w s us m _ _ left (Plain c r plain lawful) next leaves freed hold =
    let none = plain_makes_none m c r plain in
    hold_decides n w s.words us s.front (with_freed s.facets freed) m c r left
    (plain_next w s.front m c r hold.answers.lawful lawful none (plain_no_cycle r plain))
    (not_full w s.front m c r (plain_not_full r plain)) next none leaves.size (same_table n s.words us leaves)
    (same_slots n s.words us leaves) hold
decision_kept n w s us m _ _ left (Starves root fields mutator in_row at) next leaves freed hold =
    hold_full n w s.words us s.front (with_freed s.facets freed) m root fields left at mutator in_row next
    leaves.size (same_table n s.words us leaves) (same_slots n s.words us leaves) hold
decision_kept n w s us m _ _ left (Collects k mutator at told) next leaves freed hold =
    hold_answers n w s.words us s.front (with_freed s.facets freed) m k left at told
    (asked_above w s.front.history m k (hold.trying m (trying.Asked k) at)) mutator next leaves.size
    (same_table n s.words us leaves)
    (same_slots n s.words us leaves) hold
decision_kept n w s us m _ _ left (Spends mutator last) next leaves freed hold =
    hold_spent n w s.words us s.front (with_freed s.facets freed) m left last mutator next leaves.size
    (same_table n s.words us leaves)
    (same_slots n s.words us leaves) hold

-- ---- a publication

publication_fits : (n : Numbers) (w : Facts) (s : NameScene) (p : Publication) (left : List Call) → IsWorkloadOf n w
    → IsLawfulFront w s.front → TableStands n s.words w s.front → MayPublish n w s p left
    → FitsEntry (published (entry_of n s.words p.entry).generation (cycle_of (phase_of n s.words)) p.address)
publication_fits n w s p left of_it lawful table may =
    let few = of_it.few_cycles in
    let fewer = of_it.few_generations in
    let below = cycle_within n w s.words s.front lawful table in
    let young = may.generation in
    record { address = may.address; epoch = omega arith; generation = omega arith }

publication_kept : (n : Numbers) (w : Facts) (s : NameScene) (p : Publication) (left : List Call) → IsWorkloadOf n w
    → MayPublish n w s p left
    → NamesHoldIn n w s
    → NamesHold n w
    (set s.words (index n (entry p.entry))
    (entry_word (published (entry_of n s.words p.entry).generation (cycle_of (phase_of n s.words)) p.address)))
    (with_point s.front (Did p.mutator (call.New p.root p.fields) (reply.Made (name_made n s.words p))))
    (record (answered s.facets p.mutator left) { held = set s.facets.held p.mutator (name_made n s.words p ∷ []) })
publication_kept n w s p left of_it may names =
    let g : ℕ = (entry_of n s.words p.entry).generation in
    let word : ℕ = entry_word (published g (cycle_of (phase_of n s.words)) p.address) in
    let fits = publication_fits n w s p left of_it names.hold.answers.lawful names.hold.table may in
    go_on n w s.words (set s.words (index n (entry p.entry)) word) s.front
    (with_point s.front (Did p.mutator (call.New p.root p.fields) (reply.Made (name_made n s.words p)))) s.facets
    (record (answered s.facets p.mutator left) { held = set s.facets.held p.mutator (name_made n s.words p ∷ []) })
    (phase_else n s.words p.entry word may.entry) refl refl refl
    (λ freed hold. hold_publishes n w s.words s.front (with_freed s.facets freed) p.mutator p.root p.fields p.entry
    g p.address left
    of_it may.entry fits may.mutator may.root may.next may.free refl may.generation hold) names

-- ---- any step

pub step_kept : (n : Numbers) (w : Facts) (s after : NameScene) → IsWorkloadOf n w → NameStep n w s after
    → NamesHoldIn n w s → NamesHoldIn n w after
step_kept n w s _ of_it (Stores us leaves) names =
    go_on n w s.words us s.front s.front s.facets s.facets (phase_same n s.words us (leaves.same phase tt tt)) refl
    refl refl
    (λ freed hold. hold_stores n w s.words us s.front (with_freed s.facets freed) leaves.size
    (same_table n s.words us leaves)
    (same_slots n s.words us leaves) hold) names
step_kept n w s _ of_it (Puts p v within slot good) names =
    let us : List ℕ = set s.words (index n p) v in
    let other = slot_area p slot in
    go_on n w s.words us s.front s.front s.facets s.facets
    (phase_same n s.words us (table_frame n s.words p v within other.0 other.1).phase) refl refl refl
    (λ freed hold. hold_puts n w s.words s.front (with_freed s.facets freed) p v within other.0 other.1 good hold) names
step_kept n w s _ of_it (Holds seat used good) names =
    go_on n w s.words s.words s.front s.front s.facets (record s.facets { held = set s.facets.held seat used }) refl
    refl refl refl
    (λ freed hold. hold_holds n w s.words s.front (with_freed s.facets freed) seat used good hold) names
step_kept n w s _ of_it (Tries m before after at step) names =
    go_on n w s.words s.words s.front s.front s.facets (record s.facets { trying = set s.facets.trying m after })
    refl refl refl refl
    (attempt_kept n w s m before after of_it step at) names
step_kept n w s _ of_it (Decides us m c r left next decision leaves) names =
    go_on n w s.words us s.front (with_point s.front (Did m c r)) s.facets (answered s.facets m left)
    (phase_same n s.words us (leaves.same phase tt tt)) refl refl refl
    (decision_kept n w s us m c r left decision next leaves) names
step_kept n w s _ of_it (Publishes p left may) names = publication_kept n w s p left of_it may names
step_kept n w s _ of_it (Marks c x e keeps trace epoch good) names =
    go_on n w s.words (set s.words (index n (entry x)) (entry_word e)) s.front s.front s.facets s.facets
    (phase_else n s.words x (entry_word e) keeps.within) refl refl refl
    (λ freed hold. hold_touches n w s.words s.front (with_freed s.facets freed) x e keeps.within keeps.fits
    keeps.taken keeps.generation
    (inl (c, trace, epoch, good)) hold) names
step_kept n w s _ of_it (Moves x e keeps epoch) names =
    go_on n w s.words (set s.words (index n (entry x)) (entry_word e)) s.front s.front s.facets s.facets
    (phase_else n s.words x (entry_word e) keeps.within) refl refl refl
    (λ freed hold. hold_touches n w s.words s.front (with_freed s.facets freed) x e keeps.within keeps.fits
    keeps.taken keeps.generation
    (inr epoch) hold) names
step_kept n w s _ of_it (Snaps c through sent may none) names =
    go_snaps n w s.words s.front s.facets c through sent of_it may.idle may.cycle_left may.slots may.rooted
    (some_servers n w s.front of_it names.hold.answers.lawful) none.servers none.senders none.start none.empty names
step_kept n w s _ of_it (Evacuates c trace marked) names =
    go_evacuates n w s.words s.front s.facets c of_it
    (in_phase n w s.words s.front (Trace c) names.hold.answers.lawful names.hold.table trace) trace marked names
step_kept n w s _ of_it (Finishes c evac read) names =
    go_finishes n w s.words s.front s.facets c of_it
    (in_phase n w s.words s.front (Evac c) names.hold.answers.lawful names.hold.table evac) evac read.through
    read.read names
step_kept n w s _ of_it (Stops c idle) names =
    go_stops n w s.words s.front s.facets c of_it
    (in_phase n w s.words s.front (Idle c) names.hold.answers.lawful names.hold.table idle) idle names
step_kept n w s _ of_it (Passes c server i comes how) names =
    go_passes n w s.words s.front s.facets c server i comes.evacuates comes.at comes.more how names
step_kept n w s _ of_it (Frees c server i sent e comes may) names =
    go_frees n w s.words s.front s.facets c server i sent e may.fits comes.evacuates comes.at comes.more may.sent_is
    may.ahead
    may.taken may.epoch may.free may.generation names
step_kept n w s _ of_it (Gets c name rest evac at) names =
    go_gets n w s.words s.front s.facets c name rest evac at names
step_kept n w s _ of_it (ReadsOn c evac at) names = go_ends n w s.words s.front s.facets c evac at names

-- ---- runs

pub opening_names : (n : Numbers) (w : Facts) (s : NameScene) → IsWorkloadOf n w → IsNameOpening n w s
    → NamesHoldIn n w s
opening_names n w s of_it opening = record {
  freed = [];
  hold = subst (λ front. NamesHoldWith n w s.words front (with_freed s.facets [])) (sym opening.front)
      (hold_opening n w s.words (with_freed s.facets []) of_it opening.board opening.size opening.idle opening.taken
      opening.generation
      opening.epoch opening.others opening.slots opening.held opening.attempts opening.programs);
  gathering = subst (λ p. GatheringFits p [] s.facets.through s.facets.sent s.facets.collector) (sym opening.idle) tt;
}

pub reached_names : (n : Numbers) (w : Facts) (s : NameScene) → IsWorkloadOf n w → Reached n w s → NamesHoldIn n w s
reached_names n w _ of_it (Opened s opening) = opening_names n w s of_it opening
reached_names n w _ of_it (Stepped s after reached step) =
    step_kept n w s after of_it step (reached_names n w s of_it reached)

pub reached_answers : (n : Numbers) (w : Facts) (s : NameScene) → IsWorkloadOf n w → Reached n w s → Answers w s.front
reached_answers n w s of_it reached = (reached_names n w s of_it reached).hold.answers

pub reached_to_end : (n : Numbers) (w : Facts) (s : NameScene) → IsWorkloadOf n w → Reached n w s
    → ((m : ℕ) (program : List Call) → slice_get w.programs m ≡ Some program → slice_get s.facets.left m ≡ Some [])
    → AnswersToEnd w s.front
reached_to_end n w s of_it reached none =
    let names = reached_names n w s of_it reached in
    to_the_end w s.front s.facets.left names.hold.left none names.hold.answers
