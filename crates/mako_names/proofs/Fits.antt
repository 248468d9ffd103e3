-- What holds by phases, and for all mutators.
use Rattle.std.proofs.Common.{◌≡◌, ℕ, ◌<◌, ◌≤◌, ◌⊎◌, ⊎_elim, false, List, [], ◌∷◌, ◌++◌, length, flat_map, set}
use Rattle.std.proofs.Common.{Contains, sym, subst, ◌∙◌, arith}
use Rattle.mako_words.specs.declared.name.Name.{Name}
use Rattle.mako_words.specs.declared.entry_word.EntryWord.{EntryWord}
use Rattle.mako_words.specs.declared.phase_word.PhaseWord.{PhaseWord}
use Rattle.mako_words.specs.declared.phase_word.PhaseWord.TheVariants.{Idle, Trace, Evac, Stop}
use Rattle.mako_words.specs.Entries.{entry_word, FitsEntry}
use Rattle.mako_words.specs.Phases.{cycle_of}
use Rattle.mako_shape.specs.declared.numbers.Numbers.{Numbers}
use Rattle.mako_shape.specs.Limits.{all_entries}
use Rattle.mako_shape.specs.Places.{entry, index, total}
use Rattle.mako_model.specs.declared.call.Call.{Call}
use Rattle.mako_model.specs.declared.reply.Reply.{Reply}
use Rattle.mako_model.specs.declared.point.Point.{Point}
use Rattle.mako_model.specs.declared.point.Point.TheVariants.{Did, Snap}
use Rattle.mako_model.specs.Fronts.{Seen, with_point, with_cycle}
use Rattle.mako_model.specs.Legal.{Facts, IsLegal}
use Rattle.mako_model.specs.Dead.{made_by, names_made, IsDead}
use Rattle.mako_model.specs.LawfulFronts.{IsLawfulFront}
use Rattle.mako_model.proofs.Lists.{get_set_cases}
use Rattle.mako_names.specs.Counts.{name_of}
use Rattle.mako_names.specs.Freeing.{Freeing, FreeingFits, EpochStands, EpochsStand, EpochsFit, TraceStands, since_snap}
use Rattle.mako_names.specs.Tables.{entry_of}
use Rattle.mako_names.specs.Trying as trying
use Rattle.mako_names.specs.Trying.{Trying, TryingStands, AllTrying}
use Rattle.mako_names.proofs.FreeingKinds.{SameDead, freeing_stays, freeing_publishes, epochs_stay, epochs_store}
use Rattle.mako_names.proofs.TraceKinds.{trace_stays, trace_stores}
use Rattle.mako_names.proofs.TryingKinds.{trying_point, trying_finish}

pub same_history : (w : Facts) (history : List Point) (cycle : ℕ) → SameDead w history history cycle
same_history w history cycle = record { stays = λ k name l dead. dead; was = λ k name l dead. dead }

pub freeing_fits : (p : PhaseWord) (n : Numbers) (ws us : List ℕ) (w : Facts) (before after : List Point)
    (servers : List Freeing) → SameDead w before after (cycle_of p)
    → ((x : ℕ) → x < all_entries n → (entry_of n us x).taken ≡ (entry_of n ws x).taken)
    → ((x : ℕ) → x < all_entries n → (entry_of n us x).generation ≡ (entry_of n ws x).generation)
    → FreeingFits p n ws w before servers → FreeingFits p n us w after servers
freeing_fits (Idle c) n ws us w before after servers same taken generation fits = tt
freeing_fits (Trace c) n ws us w before after servers same taken generation fits =
    freeing_stays n ws us w before after c servers same taken generation fits
freeing_fits (Evac c) n ws us w before after servers same taken generation fits =
    freeing_stays n ws us w before after c servers same taken generation fits
freeing_fits (Stop c) n ws us w before after servers same taken generation fits = tt

pub epochs_fit : (p : PhaseWord) (n : Numbers) (ws us : List ℕ) (w : Facts) (before after : List Point)
    → SameDead w before after (cycle_of p)
    → flat_map made_by (since_snap after) ≡ flat_map made_by (since_snap before)
    → ((x : ℕ) → x < all_entries n → entry_of n us x ≡ entry_of n ws x) → EpochsFit p n ws w before
    → EpochsFit p n us w after
epochs_fit (Idle c) n ws us w before after same young words fits = epochs_stay n w ws us before after c same words fits
epochs_fit (Trace c) n ws us w before after same young words fits =
    trace_stays n w ws us before after c same young words fits
epochs_fit (Evac c) n ws us w before after same young words fits = epochs_stay n w ws us before after c same words fits
epochs_fit (Stop c) n ws us w before after same young words fits = epochs_stay n w ws us before after c same words fits

pub freeing_fits_published : (p : PhaseWord) (n : Numbers) (ws : List ℕ) (w : Facts) (before after : List Point)
    (x : ℕ) (e : EntryWord) (servers : List Freeing) → length ws ≡ total n → x < all_entries n → FitsEntry e
    → SameDead w before after (cycle_of p)
    → (entry_of n ws x).taken ≡ false → (Contains (names_made before) (name_of x e.generation) → ⊥)
    → FreeingFits p n ws w before servers → FreeingFits p n (set ws (index n (entry x)) (entry_word e)) w after servers
freeing_fits_published (Idle c) n ws w before after x e servers size within fits same is_free fresh freeing = tt
freeing_fits_published (Trace c) n ws w before after x e servers size within fits same is_free fresh freeing =
    freeing_publishes n w ws before after c x e servers size within fits same is_free fresh freeing
freeing_fits_published (Evac c) n ws w before after x e servers size within fits same is_free fresh freeing =
    freeing_publishes n w ws before after c x e servers size within fits same is_free fresh freeing
freeing_fits_published (Stop c) n ws w before after x e servers size within fits same is_free fresh freeing = tt

-- an entry is stored with the cycle's epoch, whose name is not dead
pub epochs_fit_stored : (p : PhaseWord) (n : Numbers) (ws : List ℕ) (w : Facts) (before after : List Point) (x : ℕ)
    (e : EntryWord) → length ws ≡ total n → x < all_entries n → FitsEntry e → SameDead w before after (cycle_of p)
    → ((name : Name) → Contains (flat_map made_by (since_snap after)) name
    → Contains (flat_map made_by (since_snap before)) name ⊎ (name_of x e.generation ≡ name))
    → e.epoch ≡ cycle_of p → ¬ IsDead w after (cycle_of p) (name_of x e.generation) → EpochsFit p n ws w before
    → EpochsFit p n (set ws (index n (entry x)) (entry_word e)) w after
epochs_fit_stored (Idle c) n ws w before after x e size within fits same young epoch good epochs =
    epochs_store n w ws before after c x e size within fits same
    (λ taken. record { good = λ k. good; dead = λ other. absurd (other epoch); old = omega arith }) epochs
epochs_fit_stored (Trace c) n ws w before after x e size within fits same young epoch good epochs =
    trace_stores n w ws before after c x e size within fits same young epoch good epochs
epochs_fit_stored (Evac c) n ws w before after x e size within fits same young epoch good epochs =
    epochs_store n w ws before after c x e size within fits same
    (λ taken. record { good = λ k. good; dead = λ other. absurd (other epoch); old = omega arith }) epochs
epochs_fit_stored (Stop c) n ws w before after x e size within fits same young epoch good epochs =
    epochs_store n w ws before after c x e size within fits same
    (λ taken. record { good = λ k. good; dead = λ other. absurd (other epoch); old = omega arith }) epochs

epochs_touch : (n : Numbers) (ws us : List ℕ) (w : Facts) (history : List Point) (cycle : ℕ)
    → ((x : ℕ) → x < all_entries n → (entry_of n us x).taken ≡ (entry_of n ws x).taken)
    → ((x : ℕ) → x < all_entries n → (entry_of n us x).generation ≡ (entry_of n ws x).generation)
    → ((x : ℕ) → x < all_entries n → (entry_of n us x).epoch ≡ (entry_of n ws x).epoch)
    → EpochsStand n ws w history cycle → EpochsStand n us w history cycle
epochs_touch n ws us w history cycle taken generation epoch epochs x within is =
    subst (λ g. EpochStands w history cycle x g (entry_of n us x).epoch) (sym (generation x within))
    (subst (EpochStands w history cycle x (entry_of n ws x).generation) (sym (epoch x within))
    (epochs x within (sym (taken x within) ∙ is)))

trace_touch : (n : Numbers) (ws us : List ℕ) (w : Facts) (history : List Point) (cycle : ℕ)
    → ((x : ℕ) → x < all_entries n → (entry_of n us x).taken ≡ (entry_of n ws x).taken)
    → ((x : ℕ) → x < all_entries n → (entry_of n us x).generation ≡ (entry_of n ws x).generation)
    → ((x : ℕ) → x < all_entries n → (entry_of n us x).epoch ≡ (entry_of n ws x).epoch)
    → TraceStands n ws w history cycle → TraceStands n us w history cycle
trace_touch n ws us w history cycle taken generation epoch trace = record {
  good = λ x within is k. subst (λ g. ¬ IsDead w history cycle (name_of x g)) (sym (generation x within))
      (trace.good x within (sym (taken x within) ∙ is) (sym (epoch x within) ∙ k));
  young = λ x within is here. epoch x within
      ∙ trace.young x within (sym (taken x within) ∙ is)
      (subst (λ g. Contains (flat_map made_by (since_snap history)) (name_of x g)) (generation x within) here);
  old = λ x within is. subst (λ k. k ≤ cycle) (sym (epoch x within)) (trace.old x within (sym (taken x within) ∙ is));
}

pub epochs_fit_touched : (p : PhaseWord) (n : Numbers) (ws us : List ℕ) (w : Facts) (history : List Point)
    → ((x : ℕ) → x < all_entries n → (entry_of n us x).taken ≡ (entry_of n ws x).taken)
    → ((x : ℕ) → x < all_entries n → (entry_of n us x).generation ≡ (entry_of n ws x).generation)
    → ((x : ℕ) → x < all_entries n → (entry_of n us x).epoch ≡ (entry_of n ws x).epoch) → EpochsFit p n ws w history
    → EpochsFit p n us w history
epochs_fit_touched (Idle c) n ws us w history taken generation epoch fits =
    epochs_touch n ws us w history c taken generation epoch fits
epochs_fit_touched (Trace c) n ws us w history taken generation epoch fits =
    trace_touch n ws us w history c taken generation epoch fits
epochs_fit_touched (Evac c) n ws us w history taken generation epoch fits =
    epochs_touch n ws us w history c taken generation epoch fits
epochs_fit_touched (Stop c) n ws us w history taken generation epoch fits =
    epochs_touch n ws us w history c taken generation epoch fits

-- ---- all mutators

-- a mutator's own point ends what it tries
pub all_point : (w : Facts) (front : Seen) (m : ℕ) (c : Call) (r : Reply) (facets : List Trying)
    → IsLawfulFront w front → IsLegal w (front.history ++ Did m c r ∷ []) → AllTrying w front facets
    → AllTrying w (with_point front (Did m c r)) (set facets m trying.Nothing)
all_point w front m c r facets lawful legal all n facet at =
    ⊎_elim (λ t. subst (TryingStands w (with_point front (Did m c r)) n) t.1 tt)
    (λ t. let other =
    t.0 in trying_point w front (Did m c r) n facet lawful legal (λ e. other (sym e)) (all n facet t.1))
    (get_set_cases facets m n trying.Nothing facet at)

pub all_snap : (w : Facts) (front : Seen) (cycle : ℕ) (facets : List Trying) → IsLawfulFront w front
    → IsLegal w (front.history ++ Snap cycle ∷ []) → AllTrying w front facets
    → AllTrying w (with_point front (Snap cycle)) facets
all_snap w front cycle facets lawful legal all n facet at =
    trying_point w front (Snap cycle) n facet lawful legal tt (all n facet at)

pub all_finish : (w : Facts) (front : Seen) (names : List Name) (facets : List Trying) → AllTrying w front facets
    → AllTrying w (with_cycle front names) facets
all_finish w front names facets all n facet at = trying_finish w front names n facet (all n facet at)

-- a step of the mutator's own that is no point
pub all_tries : (w : Facts) (front : Seen) (m : ℕ) (facet : Trying) (facets : List Trying)
    → TryingStands w front m facet → AllTrying w front facets → AllTrying w front (set facets m facet)
all_tries w front m facet facets stands all n found at =
    ⊎_elim (λ t. subst (λ k. TryingStands w front k found) (sym t.0) (subst (TryingStands w front m) t.1 stands))
    (λ t. all n found t.1) (get_set_cases facets m n facet found at)
