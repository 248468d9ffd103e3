-- Epochs while servers trace, from the snapshot to the store of Evac.
use Rattle.std.proofs.Common.{◌≡◌, ℕ, ◌+◌, ◌<◌, ◌≤◌, ◌⊎◌, ⊎_elim, true, List, [], ◌∷◌, ◌++◌, length, flat_map, set}
use Rattle.std.proofs.Common.{slice_get, Contains, Some, sym, ap, subst, refl, ◌∙◌, arith, append-nil, append_assoc}
use Rattle.std.proofs.lemmas.Bool.{cases_eq}
use Rattle.std.proofs.lemmas.List.Concat.{flat_map-append}
use Rattle.std.proofs.lemmas.List.Elements.{Contains-append_cases}
use Rattle.std.proofs.lemmas.List.Sums.{fold_push}
use Rattle.mako_words.specs.declared.name.Name.{Name}
use Rattle.mako_words.specs.declared.value.Value.TheVariants.{Ref}
use Rattle.mako_words.specs.declared.entry_word.EntryWord.{EntryWord}
use Rattle.mako_words.specs.Entries.{entry_word, FitsEntry}
use Rattle.mako_shape.specs.declared.numbers.Numbers.{Numbers}
use Rattle.mako_shape.specs.Limits.{all_entries}
use Rattle.mako_shape.specs.Places.{entry, index, total}
use Rattle.mako_model.specs.declared.call.Call.{Call}
use Rattle.mako_model.specs.declared.reply.Reply.{Reply}
use Rattle.mako_model.specs.declared.point.Point.{Point}
use Rattle.mako_model.specs.declared.point.Point.TheVariants.{Did, Snap}
use Rattle.mako_model.specs.Legal.{Facts, state_of, IsLegal}
use Rattle.mako_model.specs.Heaps.{Heap, root_of}
use Rattle.mako_model.specs.Reachable.{StandsInField, LeadsTo, IsReachable}
use Rattle.mako_model.specs.Dead.{made_by, names_made, IsDead}
use Rattle.mako_model.proofs.DeadApart.{snaps_replied, reached_next}
use Rattle.mako_model.proofs.Histories.{state_push, legal_prefix, legal_at, names_append}
use Rattle.mako_names.specs.Counts.{name_of}
use Rattle.mako_names.specs.Tables.{entry_of}
use Rattle.mako_names.specs.Freeing.{EpochsStand, after_next, since_snap, TraceStands, AllMarked, Freeing}
use Rattle.mako_names.specs.Freeing.{FreeingStands, own_entries, entry_by}
use Rattle.mako_names.proofs.FreeingKinds.{SameDead, owned_within, has_server}
use Rattle.mako_names.proofs.Since.{grow}
use Rattle.mako_names.proofs.Words.{entry_stored, entry_else}

pub snap_push : (history : List Point) (p : Point) → since_snap (history ++ p ∷ []) ≡ after_next (since_snap history) p
snap_push history p = fold_push after_next [] history p

-- the points since the last snapshot are the end of the history
snap_split_next : (w : Facts) (history : List Point) (p : Point)
    → (IsLegal w history → 0 < (state_of w history).snaps → (before : List Point)
    × (history ≡ before ++ Snap (state_of w history).snaps ∷ since_snap history))
    → IsLegal w (history ++ p ∷ []) → 0 < (state_of w (history ++ p ∷ [])).snaps → (before : List Point)
    × (history ++ p ∷ [] ≡ before ++ Snap (state_of w (history ++ p ∷ [])).snaps ∷ since_snap (history ++ p ∷ []))
snap_split_next w history (Did m c r) split legal some =
    let same : (state_of w (history ++ Did m c r ∷ [])).snaps ≡ (state_of w history).snaps =
    ap (λ s. s.snaps) (state_push w history (Did m c r)) ∙ snaps_replied (state_of w history) m c r in
    let t = split (legal_prefix w history (Did m c r ∷ []) legal) (omega arith) in (
      t.0,
      ap (λ ps. ps ++ Did m c r ∷ []) t.1
          ∙ append_assoc t.0 (Snap (state_of w history).snaps ∷ since_snap history) (Did m c r ∷ [])
          ∙ (λ i. t.0 ++ Snap (sym same i) ∷ sym (snap_push history (Did m c r)) i),
    )
snap_split_next w history (Snap cycle) split legal some =
    let l = legal_at w history (Snap cycle) [] legal in
    let same : cycle ≡ (state_of w (history ++ Snap cycle ∷ [])).snaps =
    l.0 ∙ sym (ap (λ s. s.snaps) (state_push w history (Snap cycle))) in
    (history, (λ i. history ++ Snap (same i) ∷ sym (snap_push history (Snap cycle)) i))

pub snap_split : (w : Facts) (history : List Point) → IsLegal w history → 0 < (state_of w history).snaps
    → (before : List Point) × (history ≡ before ++ Snap (state_of w history).snaps ∷ since_snap history)
snap_split w history =
    grow (λ h. IsLegal w h → 0 < (state_of w h).snaps → (before : List Point)
    × (h ≡ before ++ Snap (state_of w h).snaps ∷ since_snap h)) (λ legal some. absurd (omega arith))
    (snap_split_next w) history

-- the names made since then, with one point more
pub young_push : (history : List Point) (m : ℕ) (c : Call) (r : Reply)
    → flat_map made_by (since_snap (history ++ Did m c r ∷ [])) ≡ flat_map made_by (since_snap history) ++ made_by
    (Did m c r)
young_push history m c r = ap (flat_map made_by) (snap_push history (Did m c r))
    ∙ flat_map-append made_by (since_snap history) (Did m c r ∷ [])
    ∙ ap (λ ns. flat_map made_by (since_snap history) ++ ns) (append-nil (made_by (Did m c r)))

-- what roots have, and what a reachable object hands to each name in its fields, each reachable name has
mark_along : (h : Heap) (marked : Name → Type 0)
    → ((a b : Name) → IsReachable h a → marked a → StandsInField h a b → marked b)
    → (from x : Name) (path : List Name) → IsReachable h from → marked from → LeadsTo h from path x → marked x
mark_along h marked step from x [] reached here leads = subst marked leads here
mark_along h marked step from x (next ∷ path) reached here leads =
    mark_along h marked step next x path (reached_next h from next reached leads.0)
    (step from next reached here leads.0) leads.1

pub marks_reach : (h : Heap) (marked : Name → Type 0)
    → ((m q : ℕ) (name : Name) → root_of h m q ≡ Some (Ref name) → marked name)
    → ((a b : Name) → IsReachable h a → marked a → StandsInField h a b → marked b) → (x : Name) → IsReachable h x
    → marked x
marks_reach h marked roots step x reached =
    mark_along h marked step reached.first x reached.path
    (record { first = reached.first; path = []; in_root = reached.in_root; leads = refl })
    (roots reached.in_root.0 reached.in_root.1 reached.first reached.in_root.2) reached.leads

module _ (n : Numbers) (w : Facts) where
  -- the snapshot, where each taken entry has an earlier epoch
  pub trace_snaps : (ws us : List ℕ) (history : List Point) (c : ℕ)
      → ((x : ℕ) → x < all_entries n → entry_of n us x ≡ entry_of n ws x)
      → ((x : ℕ) → x < all_entries n → (entry_of n ws x).taken ≡ true → (entry_of n ws x).epoch ≤ c)
      → TraceStands n us w (history ++ Snap (c + 1) ∷ []) (c + 1)
  trace_snaps ws us history c same old =
      let low : (x : ℕ) → x < all_entries n → (entry_of n us x).taken ≡ true → (entry_of n us x).epoch ≤ c = λ x within.
      subst (λ (u : EntryWord). u.taken ≡ true → u.epoch ≤ c) (sym (same x within)) (old x within) in record {
        good = λ x within taken epoch. let l = low x within taken in absurd (omega arith);
        young = λ x within taken here. absurd
            (let l : here.0 < 0 =
            subst (λ ps. here.0 < length (flat_map made_by ps)) (snap_push history (Snap (c + 1))) here.1 in omega
            arith);
        old = λ x within taken. let l = low x within taken in omega arith;
      }

  -- no entry word is stored, and the history stays, or goes on with a point that makes no name
  pub trace_stays : (ws us : List ℕ) (before after : List Point) (cycle : ℕ) → SameDead w before after cycle
      → flat_map made_by (since_snap after) ≡ flat_map made_by (since_snap before)
      → ((x : ℕ) → x < all_entries n → entry_of n us x ≡ entry_of n ws x) → TraceStands n ws w before cycle
      → TraceStands n us w after cycle
  trace_stays ws us before after cycle same young words trace = record {
    good = λ x within.
        subst (λ (u : EntryWord). u.taken ≡ true → u.epoch ≡ cycle
        → ¬ IsDead w after cycle (name_of x u.generation)) (sym (words x within))
        (λ taken epoch dead. trace.good x within taken epoch
        (same.was cycle (name_of x (entry_of n ws x).generation) (omega arith) dead));
    young = λ x within.
        subst (λ (u : EntryWord). u.taken ≡ true
        → Contains (flat_map made_by (since_snap after)) (name_of x u.generation) → u.epoch ≡ cycle)
        (sym (words x within))
        (λ taken here. trace.young x within taken
        (subst (λ ns. Contains ns (name_of x (entry_of n ws x).generation)) young here));
    old = λ x within. subst (λ (u : EntryWord). u.taken ≡ true → u.epoch ≤ cycle) (sym (words x within))
        (trace.old x within);
  }

  -- An entry is stored with the cycle's epoch, whose name is not dead, as a publication and a mark do. The names made
  -- since the snapshot are those of before, and perhaps this one.
  pub trace_stores : (ws : List ℕ) (before after : List Point) (cycle x : ℕ) (e : EntryWord) → length ws ≡ total n
      → x < all_entries n → FitsEntry e → SameDead w before after cycle
      → ((name : Name) → Contains (flat_map made_by (since_snap after)) name
      → Contains (flat_map made_by (since_snap before)) name ⊎ (name_of x e.generation ≡ name))
      → e.epoch ≡ cycle → ¬ IsDead w after cycle (name_of x e.generation) → TraceStands n ws w before cycle
      → TraceStands n (set ws (index n (entry x)) (entry_word e)) w after cycle
  trace_stores ws before after cycle x e size within fits same young epoch good trace =
      let us : List ℕ = set ws (index n (entry x)) (entry_word e) in
      let here : entry_of n us x ≡ e = entry_stored n ws x e size within fits in record {
        good = λ y inside. ⊎_elim
            (λ is. subst (λ k. (entry_of n us k).taken ≡ true → (entry_of n us k).epoch ≡ cycle
            → ¬ IsDead w after cycle (name_of k (entry_of n us k).generation)) (sym is)
            (subst (λ (u : EntryWord). u.taken ≡ true → u.epoch ≡ cycle
            → ¬ IsDead w after cycle (name_of x u.generation)) (sym here) (λ t k. good)))
            (λ other.
            subst (λ (u : EntryWord). u.taken ≡ true → u.epoch ≡ cycle
            → ¬ IsDead w after cycle (name_of y u.generation))
            (sym (entry_else n ws x y (entry_word e) within inside other))
            (λ t k dead. trace.good y inside t k
            (same.was cycle (name_of y (entry_of n ws y).generation) (omega arith) dead))) (cases_eq y x);
        young = λ y inside. ⊎_elim
            (λ is. subst (λ k. (entry_of n us k).taken ≡ true
            → Contains (flat_map made_by (since_snap after)) (name_of k (entry_of n us k).generation)
            → (entry_of n us k).epoch ≡ cycle) (sym is)
            (subst (λ (u : EntryWord). u.taken ≡ true
            → Contains (flat_map made_by (since_snap after)) (name_of x u.generation) → u.epoch ≡ cycle) (sym here)
            (λ t c. epoch)))
            (λ other.
            subst (λ (u : EntryWord). u.taken ≡ true
            → Contains (flat_map made_by (since_snap after)) (name_of y u.generation) → u.epoch ≡ cycle)
            (sym (entry_else n ws x y (entry_word e) within inside other))
            (λ t c. ⊎_elim (λ k. trace.young y inside t k)
            (λ k. absurd (other (sym (ap (λ (z : Name). z.entry) k))))
            (young (name_of y (entry_of n ws y).generation) c))) (cases_eq y x);
        old = λ y inside. ⊎_elim
            (λ is. subst (λ k. (entry_of n us k).taken ≡ true → (entry_of n us k).epoch ≤ cycle) (sym is)
            (subst (λ (u : EntryWord). u.taken ≡ true → u.epoch ≤ cycle) (sym here) (λ t. omega arith)))
            (λ other. subst (λ (u : EntryWord). u.taken ≡ true → u.epoch ≤ cycle)
            (sym (entry_else n ws x y (entry_word e) within inside other)) (trace.old y inside)) (cases_eq y x);
      }

  -- At the store of Evac each name that was reachable at the snapshot has the epoch. Then an entry without it is that
  -- of a dead name: it was made before the snapshot, since a younger one would have the epoch.
  pub trace_ends : (ws : List ℕ) (history : List Point) (cycle : ℕ) → IsLegal w history
      → cycle ≡ (state_of w history).snaps → 0 < cycle → AllMarked n ws w history cycle
      → ((x : ℕ) → x < all_entries n → (entry_of n ws x).taken ≡ true
      → Contains (names_made history) (name_of x (entry_of n ws x).generation)) → TraceStands n ws w history cycle
      → EpochsStand n ws w history cycle
  trace_ends ws history cycle legal last some marked made trace x within taken =
      let g : ℕ = (entry_of n ws x).generation in
      let s = snap_split w history legal (omega arith) in
      let split : history ≡ s.0 ++ Snap cycle ∷ since_snap history =
      s.1 ∙ ap (λ k. s.0 ++ Snap k ∷ since_snap history) (sym last) in
      record {
        good = trace.good x within taken;
        dead = λ other. ⊎_elim
            (λ early. record {
              before = s.0;
              after = since_snap history;
              numbered = some;
              split = split;
              made = early;
              unreached = λ reached. other (marked s.0 (since_snap history) x g split reached);
            })
            (λ late. absurd (other (trace.young x within taken late)))
            (Contains-append_cases (names_made s.0) (flat_map made_by (since_snap history)) (name_of x g)
            (subst (λ ns. Contains ns (name_of x g)) (names_append s.0 (Snap cycle ∷ since_snap history))
            (subst (λ ps. Contains (names_made ps) (name_of x g)) split (made x within taken))));
        old = trace.old x within taken;
      }

  -- with the epochs known, and no taken entry's name dead, each taken entry has the epoch
  pub all_have_epoch : (ws : List ℕ) (history : List Point) (cycle x : ℕ) → EpochsStand n ws w history cycle
      → x < all_entries n → (entry_of n ws x).taken ≡ true
      → ¬ IsDead w history cycle (name_of x (entry_of n ws x).generation)
      → (entry_of n ws x).epoch ≡ cycle
  all_have_epoch ws history cycle x epochs within taken good =
      ⊎_elim (λ e. e) (λ other. absurd (good ((epochs x within taken).dead other)))
      (cases_eq (entry_of n ws x).epoch cycle)

  -- each reachable name has the epoch, where those in roots of the snapshot have it, and those in fields of reachable
  -- objects that have it
  pub all_marked : (ws : List ℕ) (history : List Point) (cycle : ℕ)
      → ((before after : List Point) → history ≡ before ++ Snap cycle ∷ after → (m q : ℕ) (name : Name)
      → root_of (state_of w before) m q ≡ Some (Ref name) → (entry_of n ws name.entry).epoch ≡ cycle)
      → ((before after : List Point) → history ≡ before ++ Snap cycle ∷ after → (a b : Name)
      → IsReachable (state_of w before) a → (entry_of n ws a.entry).epoch ≡ cycle
      → StandsInField (state_of w before) a b → (entry_of n ws b.entry).epoch ≡ cycle)
      → AllMarked n ws w history cycle
  all_marked ws history cycle roots fields before after x g split reached =
      marks_reach (state_of w before) (λ name. (entry_of n ws name.entry).epoch ≡ cycle) (roots before after split)
      (fields before after split) (name_of x g) reached

  -- so has each taken entry that its server has gone over in the cycle
  pub past_have_epoch : (ws : List ℕ) (history : List Point) (cycle s i : ℕ) (servers : List Freeing) (f : Freeing)
      → EpochsStand n ws w history cycle → FreeingStands n ws w history cycle servers → slice_get servers s ≡ Some f
      → i < f.through
      → (entry_of n ws (entry_by n s i)).taken ≡ true → (entry_of n ws (entry_by n s i)).epoch ≡ cycle
  past_have_epoch ws history cycle s i servers f epochs freeing at low taken =
      let few = freeing.within s f at in
      let within =
      owned_within n s i (has_server n w ws history cycle servers s f freeing at)
      (let d : i < own_entries n = omega arith in d) in
      all_have_epoch ws history cycle (entry_by n s i) epochs within taken (freeing.past s i f at low taken)
