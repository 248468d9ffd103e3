-- What the order of the phases says of words that a step leaves, and of seats that it leaves.
use Rattle.std.proofs.Common.{◌≡◌, ◌≢◌, ℕ, zero, suc, ◌*◌, ◌/◌, ◌%◌, ◌<◌, ◌≤◌, ◌⊎◌, inl, inr, ⊎_elim, List, [], ◌∷◌}
use Rattle.std.proofs.Common.{◌++◌, length, map, set, slice_get, Some, Bool, sym, ap, subst, refl, ◌∙◌, arith}
use Rattle.std.proofs.lemmas.Bool.{cases_eq}
use Rattle.std.proofs.lemmas.Option.{same_Some, none-some}
use Rattle.mako_words.specs.declared.name.Name.{Name}
use Rattle.mako_words.specs.Entries.{entry_at}
use Rattle.mako_words.specs.Phases.{phase_word}
use Rattle.mako_words.specs.Values.{value_at}
use Rattle.mako_shape.specs.declared.numbers.Numbers.{Numbers}
use Rattle.mako_shape.specs.Places.{Place, phase, demand, root, barrier, work, ghost, notice, leaving, entry, index}
use Rattle.mako_shape.specs.Places.{total, Within, word_at}
use Rattle.mako_shape.specs.Belongings.{server_of_tablet}
use Rattle.mako_shape.proofs.PlaceLaws.{one_place, word_same, word_other}
use Rattle.mako_shape.proofs.Rows.{div-below, mod-below}
use Rattle.mako_model.proofs.Lists.{get_set_same, get_set_other, get_set_cases}
use Rattle.mako_names.specs.Tables.{entry_of}
use Rattle.mako_phases.specs.Facets.{Part, idle, pausing, rooting, tracing, choosing, evacuating, stopped, ServerStage}
use Rattle.mako_phases.specs.Facets.{clearing, PhaseFacet, mutating, serving, collecting, role_of, phase_during}
use Rattle.mako_phases.specs.Facets.{cycle_during, IsRestful}
use Rattle.mako_names.specs.Uses.{IsUseSlot}
use Rattle.mako_phases.specs.Orders.{BoundFits, names_in, loaded_names, PendingFits, MayLeave, MayTell, WordsStand}
use Rattle.mako_phases.specs.Orders.{IsAtLeaving, IsAtOwn, ServerStands, SeatStands, AreSeated, PhaseOrder}
use Rattle.mako_phases.specs.Steps.{IsPhaseWord}

-- ---- lists

module _ {A : Type 0} {B : Type 0} (g : A → B) where
  pub get_map : (xs : List A) (i : ℕ) (x : A) → slice_get xs i ≡ Some x → slice_get (map g xs) i ≡ Some (g x)
  get_map [] i x e = absurd (none-some x e)
  get_map (a ∷ xs) zero x e = ap (λ (y : A). Some (g y)) (same_Some a x e)
  get_map (a ∷ xs) (suc i) x e = get_map xs i x e

  pub get_unmap : (xs : List A) (i : ℕ) (y : B) → slice_get (map g xs) i ≡ Some y
      → (x : A) × ((slice_get xs i ≡ Some x) × (g x ≡ y))
  get_unmap [] i y e = absurd (none-some y e)
  get_unmap (a ∷ xs) zero y e = (a, (refl, same_Some (g a) y e))
  get_unmap (a ∷ xs) (suc i) y e = get_unmap xs i y e

  -- where the facet stays, so does the list of facets
  pub map_frame : (xs : List A) (i : ℕ) (a b : A) → slice_get xs i ≡ Some a → g b ≡ g a → map g (set xs i b) ≡ map g xs
  map_frame [] i a b e same = refl
  map_frame (x ∷ xs) zero a b e same = λ k. (same ∙ ap g (sym (same_Some x a e))) k ∷ map g xs
  map_frame (x ∷ xs) (suc i) a b e same = λ k. g x ∷ map_frame xs i a b e same k

-- ---- words

-- each word after a store
module _ (n : Numbers) (words : List ℕ) (p : Place) (v : ℕ) (size : length words ≡ total n) (within : Within n p) where
  pub written : (r : Place) → Within n r
      → ((r ≡ p) × (word_at n (set words (index n p) v) r ≡ v))
      ⊎ ((r ≢ p) × (word_at n (set words (index n p) v) r ≡ word_at n words r))
  written r in_r =
      ⊎_elim
      (λ e. let same : r ≡ p = one_place n r p in_r within e in
      inl (same, ap (word_at n (set words (index n p) v)) same ∙ word_same n words p v size within))
      (λ e. let other : r ≢ p = λ same. e (ap (index n) same) in
      inr (other, word_other n words p r v within in_r other))
      (cases_eq (index n r) (index n p))

-- the words of a kind are the same
abbrev pub AgreeOn : Numbers → (Place → Type 0) → List ℕ → List ℕ → Type 0
AgreeOn n Is words words' = (r : Place) → Is r → Within n r → word_at n words' r ≡ word_at n words r

pub agree_else : (n : Numbers) (Is : Place → Type 0) (words : List ℕ) (p : Place) (v : ℕ) → Within n p → (¬ Is p)
    → AgreeOn n Is words (set words (index n p) v)
agree_else n Is words p v within none r is in_r = word_other n words p r v within in_r (λ same. none (subst Is same is))

abbrev pub IsPhase : Place → Type 0
IsPhase phase = Unit {0}
IsPhase p = ⊥

abbrev pub IsDemand : Place → Type 0
IsDemand demand = Unit {0}
IsDemand p = ⊥

abbrev pub IsRoot : Place → Type 0
IsRoot (root m q) = Unit {0}
IsRoot p = ⊥

abbrev pub IsNotice : Place → Type 0
IsNotice (notice s slot) = Unit {0}
IsNotice p = ⊥

abbrev pub IsLeaving : Place → Type 0
IsLeaving (leaving t) = Unit {0}
IsLeaving p = ⊥

abbrev pub IsEntry : Place → Type 0
IsEntry (entry e) = Unit {0}
IsEntry p = ⊥

-- what a server reads
abbrev pub IsServerWord : Place → Type 0
IsServerWord (notice s slot) = Unit {0}
IsServerWord (leaving t) = Unit {0}
IsServerWord p = ⊥

pub root_within : (n : Numbers) (k : ℕ) → k < n.mutators * n.roots → Within n (root (k / n.roots) (k % n.roots))
root_within n k l = (div-below k n.roots n.mutators l, mod-below k n.roots n.mutators l)

pub loaded_same : (n : Numbers) (words words' : List ℕ) → AgreeOn n IsRoot words words' → (k : ℕ)
    → k ≤ n.mutators * n.roots → loaded_names n words' k ≡ loaded_names n words k
unfolding loaded_names
loaded_same n words words' agree zero l = refl
loaded_same n words words' agree (suc k) l =
    let within = root_within n k (omega arith) in
    λ i. loaded_same n words words' agree k (omega arith) i ++ names_in
    (value_at (agree (root (k / n.roots) (k % n.roots)) tt within i))

pends_same : (n : Numbers) (words words' : List ℕ) (part : Part) (pending : List Name) → AgreeOn n IsRoot words words'
    → BoundFits n part → PendingFits n words part pending → PendingFits n words' part pending
pends_same n words words' (rooting cycle loaded) pending agree bound fits =
    fits ∙ sym (loaded_same n words words' agree loaded bound.1)
pends_same n words words' (tracing cycle) pending agree bound fits = tt
pends_same n words words' (idle cycle) pending agree bound fits = fits
pends_same n words words' (pausing cycle) pending agree bound fits = fits
pends_same n words words' (choosing cycle left) pending agree bound fits = fits
pends_same n words words' (evacuating cycle ended) pending agree bound fits = fits
pends_same n words words' (stopped cycle) pending agree bound fits = fits

module _ (n : Numbers) (words words' : List ℕ) (part : Part) (pending : List Name)
    (w : WordsStand n words part pending) where
  pub phase_on : AgreeOn n IsPhase words words' → word_at n words' phase ≡ phase_word (phase_during part)
  phase_on a = a phase tt tt ∙ w.phase_is

  pub asked_on : AgreeOn n IsDemand words words' → word_at n words' demand ≤ n.cycles
  asked_on a = subst (λ (k : ℕ). k ≤ n.cycles) (sym (a demand tt tt)) w.asked

  pub slots_on : AgreeOn n IsUseSlot words words' → IsRestful part → (p : Place) → IsUseSlot p → Within n p
      → word_at n words' p ≡ 0
  slots_on a rest p is within = a p is within ∙ w.slots rest p is within

  pub pends_on : AgreeOn n IsRoot words words' → PendingFits n words' part pending
  pends_on a = pends_same n words words' part pending a w.bound w.pends

  pub leavings_on : AgreeOn n IsLeaving words words' → (t : ℕ) → Within n (leaving t)
      → (word_at n words' (leaving t) ≡ 0) ⊎ MayLeave part t
  leavings_on a t within =
      subst (λ (k : ℕ). (k ≡ 0) ⊎ MayLeave part t) (sym (a (leaving t) tt within)) (w.leavings t within)

  pub tellers_on : AgreeOn n IsNotice words words' → (s slot : ℕ) → Within n (notice s slot)
      → word_at n words' (notice s slot) ≡ 1 → MayTell part s
  tellers_on a s slot within e = w.tellers s slot within (sym (a (notice s slot) tt within) ∙ e)

  pub once_on : AgreeOn n IsNotice words words' → (s slot other : ℕ) → Within n (notice s slot)
      → Within n (notice s other) → word_at n words' (notice s slot) ≡ 1 → word_at n words' (notice s other) ≡ 1
      → slot ≡ other
  once_on a s slot other in_s in_o e f =
      w.tell_once s slot other in_s in_o (sym (a (notice s slot) tt in_s) ∙ e) (sym (a (notice s other) tt in_o) ∙ f)

  pub epochs_on : AgreeOn n IsEntry words words' → (e : ℕ) → Within n (entry e)
      → (entry_of n words' e).epoch ≤ cycle_during part
  unfolding entry_of
  epochs_on a e within =
      subst (λ (k : ℕ). (entry_at k).epoch ≤ cycle_during part) (sym (a (entry e) tt within)) (w.epochs e within)

  pub words_on : length words' ≡ total n → AgreeOn n IsPhaseWord words words' → WordsStand n words' part pending
  words_on size a = record {
    size = size;
    phase_is = phase_on (λ r is. a r (of_phase r is));
    bound = w.bound;
    asked = asked_on (λ r is. a r (of_demand r is));
    slots = slots_on (λ r is. a r (of_slot r is));
    pends = pends_on (λ r is. a r (of_root r is));
    leavings = leavings_on (λ r is. a r (of_leaving r is));
    tellers = tellers_on (λ r is. a r (of_notice r is));
    tell_once = once_on (λ r is. a r (of_notice r is));
    epochs = epochs_on (λ r is. a r (of_entry r is));
  }
    where
      of_phase : (r : Place) → IsPhase r → IsPhaseWord r
      of_phase phase is = tt
      of_phase r is = absurd is

      of_demand : (r : Place) → IsDemand r → IsPhaseWord r
      of_demand demand is = tt
      of_demand r is = absurd is

      of_slot : (r : Place) → IsUseSlot r → IsPhaseWord r
      of_slot (barrier m slot) is = tt
      of_slot (work s slot) is = tt
      of_slot (ghost a b slot) is = tt
      of_slot r is = absurd is

      of_root : (r : Place) → IsRoot r → IsPhaseWord r
      of_root (root m q) is = tt
      of_root r is = absurd is

      of_leaving : (r : Place) → IsLeaving r → IsPhaseWord r
      of_leaving (leaving t) is = tt
      of_leaving r is = absurd is

      of_notice : (r : Place) → IsNotice r → IsPhaseWord r
      of_notice (notice s slot) is = tt
      of_notice r is = absurd is

      of_entry : (r : Place) → IsEntry r → IsPhaseWord r
      of_entry (entry e) is = tt
      of_entry r is = absurd is

-- ---- seats

pub at_within : (n : Numbers) (s : ℕ) (stage : ServerStage) → IsAtOwn n s stage → (u : ℕ) → IsAtLeaving stage u
    → Within n (leaving u)
at_within n s (clearing d t at) own u is = subst (λ (k : ℕ). k < n.servers * n.tablets) is.0 own.0
at_within n s stage own u is = absurd is

pub at_own : (n : Numbers) (s : ℕ) (stage : ServerStage) → IsAtOwn n s stage → (u : ℕ) → IsAtLeaving stage u
    → server_of_tablet n u ≡ s
at_own n s (clearing d t at) own u is = subst (λ (k : ℕ). server_of_tablet n k ≡ s) is.0 own.1
at_own n s stage own u is = absurd is

pub server_on : (n : Numbers) (words words' : List ℕ) (part : Part) (s : ℕ) (stage : ServerStage) (ended : ℕ)
    (laden : Bool) → AgreeOn n IsServerWord words words' → ServerStands n words part s stage ended laden
    → ServerStands n words' part s stage ended laden
server_on n words words' part s stage ended laden a st = record {
  known = st.known;
  fits = st.fits;
  rests = st.rests;
  own = st.own;
  passed = λ u within mine has. a (leaving u) tt within ∙ st.passed u within mine has;
  at_leaving = λ u at none. st.at_leaving u at (sym (a (leaving u) tt (at_within n s stage st.own u at)) ∙ none);
  told = λ slot within e. st.told slot within (sym (a (notice s slot) tt within) ∙ e);
}

pub seat_on : (n : Numbers) (words words' : List ℕ) (part : Part) (f : PhaseFacet)
    → AgreeOn n IsServerWord words words' → SeatStands n words part f → SeatStands n words' part f
seat_on n words words' part (mutating admission) a st = st
seat_on n words words' part (serving s stage ended laden) a st = server_on n words words' part s stage ended laden a st
seat_on n words words' part (collecting other pending) a st = tt

abbrev pub SeatsStand : Numbers → List ℕ → List PhaseFacet → Part → Type 0
SeatsStand n words facets part =
    (other : ℕ) (f : PhaseFacet) → slice_get facets other ≡ Some f → SeatStands n words part f

-- ---- the whole

abbrev part_in : PhaseFacet → Part
part_in (collecting part pending) = part
part_in f = idle 0

abbrev pending_in : PhaseFacet → List Name
pending_in (collecting part pending) = pending
pending_in f = []

-- a seat that is not the collector's
abbrev pub IsOther : PhaseFacet → Type 0
IsOther (collecting part pending) = ⊥
IsOther f = Unit {0}

module _ (n : Numbers) (words : List ℕ) (facets : List PhaseFacet) (o : PhaseOrder n words facets) where
  -- no facet changes
  pub stays : (words' : List ℕ) → WordsStand n words' o.part o.pending → SeatsStand n words' facets o.part
      → PhaseOrder n words' facets
  stays words' w each =
      record {
        shape = o.shape;
        seat = o.seat;
        part = o.part;
        pending = o.pending;
        here = o.here;
        words_stand = w;
        each =
            each;
        seated = o.seated;
      }

  -- the facet of another seat than the collector's changes
  pub seat_moves : (words' : List ℕ) (seat : ℕ) (f g : PhaseFacet) → slice_get facets seat ≡ Some f
      → role_of g ≡ role_of f → IsOther f → WordsStand n words' o.part o.pending
      → ((other : ℕ) (e : PhaseFacet) → other ≢ seat → slice_get facets other ≡ Some e → SeatStands n words' o.part e)
      → SeatStands n words' o.part g → PhaseOrder n words' (set facets seat g)
  seat_moves words' seat f g here same is_other w others stands =
      let ne : o.seat ≢ seat =
      λ e. subst IsOther
      (same_Some f (collecting o.part o.pending) (sym here ∙ ap (slice_get facets) (sym e) ∙ o.here))
      is_other in record {
        shape = o.shape;
        seat = o.seat;
        part = o.part;
        pending = o.pending;
        here = get_set_other facets seat o.seat g ne ∙ o.here;
        words_stand = w;
        each = λ other e at.
            ⊎_elim (λ c. subst (SeatStands n words' o.part) c.1 stands) (λ c. others other e c.0 c.1)
            (get_set_cases facets seat other g e at);
        seated = subst (AreSeated n) (sym (map_frame role_of facets seat f g here same)) o.seated;
      }

  module _ (seat : ℕ) (part : Part) (pending : List Name)
      (here : slice_get facets seat ≡ Some (collecting part pending)) where
    pub one_seat : seat ≡ o.seat
    one_seat =
        o.seated.collectors seat o.seat (get_map role_of facets seat (collecting part pending) here)
        (get_map role_of facets o.seat (collecting o.part o.pending) o.here)

    one_facet : collecting o.part o.pending ≡ collecting part pending
    one_facet =
        same_Some (collecting o.part o.pending) (collecting part pending)
        (sym o.here ∙ ap (slice_get facets) (sym one_seat) ∙ here)

    -- the part is that of the collector's facet
    pub the_words : WordsStand n words part pending
    the_words = subst (λ (f : PhaseFacet). WordsStand n words (part_in f) (pending_in f)) one_facet o.words_stand

    pub the_seats : SeatsStand n words facets part
    the_seats = subst (λ (f : PhaseFacet). SeatsStand n words facets (part_in f)) one_facet o.each

    -- the collector's facet changes
    pub collector_moves : (words' : List ℕ) (next : Part) (names : List Name) → WordsStand n words' next names
        → ((other : ℕ) (e : PhaseFacet) → slice_get facets other ≡ Some e → SeatStands n words part e
        → SeatStands n words' next e) → PhaseOrder n words' (set facets seat (collecting next names))
    collector_moves words' next names w each = record {
      shape = o.shape;
      seat = seat;
      part = next;
      pending = names;
      here = get_set_same facets seat (collecting next names) (collecting part pending) here;
      words_stand = w;
      each = λ other e at.
          ⊎_elim (λ c. subst (SeatStands n words' next) c.1 tt) (λ c. each other e c.1 (the_seats other e c.1))
          (get_set_cases facets seat other (collecting next names) e at);
      seated =
          subst (AreSeated n)
          (sym (map_frame role_of facets seat (collecting part pending) (collecting next names) here refl))
          o.seated;
    }
