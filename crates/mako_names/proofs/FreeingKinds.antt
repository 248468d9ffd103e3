-- What servers have freed in the present cycle, at each kind of step, and what a finished cycle has freed.
use Rattle.std.proofs.Common.{◌≡◌, ℕ, ◌+◌, ◌-◌, ◌*◌, ◌/◌, ◌%◌, ◌<◌, ◌≤◌, ⊎_elim, Bool, true, false, List, [], ◌∷◌, ◌++◌}
use Rattle.std.proofs.Common.{length, flat_map, set, slice_get, Contains, Some, sym, ap, subst, refl, ◌∙◌, arith}
use Rattle.std.proofs.Common.{length-set}
use Rattle.std.proofs.Math.Nat.{mul_comm, mul_assoc, mod-add-div', mod-lt}
use Rattle.std.proofs.lemmas.Bool.{cases_eq, cases_lt}
use Rattle.std.proofs.lemmas.Nat.{mul-add-lt, mul-le, div-mul-add, mod-mul-add}
use Rattle.std.proofs.lemmas.Option.{slice_get_within, slice_get_cases}
use Rattle.mako_words.specs.declared.name.Name.{Name}
use Rattle.mako_words.specs.declared.entry_word.EntryWord.{EntryWord}
use Rattle.mako_words.specs.Entries.{entry_word, FitsEntry}
use Rattle.mako_shape.specs.declared.numbers.Numbers.{Numbers}
use Rattle.mako_shape.specs.Limits.{all_entries}
use Rattle.mako_shape.specs.Places.{entry, index, total}
use Rattle.mako_model.specs.declared.call.Call.{Call}
use Rattle.mako_model.specs.declared.reply.Reply.TheVariants.{Made}
use Rattle.mako_model.specs.declared.point.Point.{Point}
use Rattle.mako_model.specs.declared.point.Point.TheVariants.{Did, Snap}
use Rattle.mako_model.specs.Fronts.{Seen}
use Rattle.mako_model.specs.Legal.{Facts, state_of, IsLegal}
use Rattle.mako_model.specs.Dead.{names_made, IsDead, AreFreed}
use Rattle.mako_model.specs.LawfulFronts.{IsLawfulFront}
use Rattle.mako_model.proofs.Growth.{dead_stays, dead_was}
use Rattle.mako_model.proofs.Lists.{get_set_cases}
use Rattle.mako_names.specs.Counts.{name_of}
use Rattle.mako_names.specs.Tables.{IsWorkloadOf, TableStands, entry_of, phase_of, settled_of}
use Rattle.mako_names.specs.Freeing.{Freeing, IsFreedIn, AreFreedOf, own_entries, entry_by, IsLeftIn, IsPast}
use Rattle.mako_names.specs.Freeing.{FreeingStands, EpochStands, EpochsStand}
use Rattle.mako_names.proofs.Counts.{names_none}
use Rattle.mako_names.proofs.Entries.{dead_made, no_bool}
use Rattle.mako_names.proofs.FreedRuns.{freed_none, freed_passes, freed_push, freed_joined}
use Rattle.mako_names.specs.Uses.{IsGood}
use Rattle.mako_names.proofs.Good.{in_table, good_entry, settled_begun}
use Rattle.mako_names.proofs.Words.{entry_stored, entry_else}

-- ---- entries of servers

pub all_owned : (n : Numbers) → n.servers * own_entries n ≡ all_entries n
all_owned n = sym (mul_assoc n.servers n.tablets n.entries)

pub owned_within : (n : Numbers) (s i : ℕ) → s < n.servers → i < own_entries n → entry_by n s i < all_entries n
owned_within n s i l k =
    let d : entry_by n s i < own_entries n * n.servers = mul-add-lt s (own_entries n) i n.servers l k in
    let e = mul_comm (own_entries n) n.servers in
    let f = all_owned n in
    omega arith

-- ---- the history goes on

-- the names that are dead in the cycle and before are the same
pub record SameDead (w : Facts) (before after : List Point) (cycle : ℕ) : Type 0 where
  pub stays : (k : ℕ) (name : Name) → k ≤ cycle → IsDead w before k name → IsDead w after k name
  pub was : (k : ℕ) (name : Name) → k ≤ cycle → IsDead w after k name → IsDead w before k name

pub same_dead : (w : Facts) (history : List Point) (p : Point) (cycle : ℕ) → IsLegal w (history ++ p ∷ [])
    → cycle ≤ (state_of w history).snaps → SameDead w history (history ++ p ∷ []) cycle
same_dead w history p cycle legal begun = record {
  stays = λ k name l dead. dead_stays w history (p ∷ []) k name dead;
  was = λ k name l dead. dead_was w history (p ∷ []) k name legal (omega arith) dead;
}

freed_stays_in : (w : Facts) (before after : List Point) (cycle : ℕ) (name : Name) → SameDead w before after cycle
    → IsFreedIn w before cycle name → IsFreedIn w after cycle name
freed_stays_in w before after cycle name same freed = record {
  dead = same.stays cycle name (omega arith) freed.dead;
  lived = λ dead. freed.lived (same.was (cycle - 1) name (omega arith) dead);
}

freed_was_in : (w : Facts) (before after : List Point) (cycle : ℕ) (name : Name) → SameDead w before after cycle
    → IsFreedIn w after cycle name → IsFreedIn w before cycle name
freed_was_in w before after cycle name same freed = record {
  dead = same.was cycle name (omega arith) freed.dead;
  lived = λ dead. freed.lived (same.stays (cycle - 1) name (omega arith) dead);
}

freed_of_stays : (w : Facts) (before after : List Point) (cycle low high : ℕ) (names : List Name)
    → SameDead w before after cycle → AreFreedOf w before cycle low high names
    → AreFreedOf w after cycle low high names
freed_of_stays w before after cycle low high names same freed = record {
  rising = freed.rising;
  each = λ name. (
    (λ c. let t = (freed.each name).0 c in (freed_stays_in w before after cycle name same t.0, t.1, t.2)),
    (λ t. (freed.each name).1 (freed_was_in w before after cycle name same t.0, t.1, t.2)),
  );
}

left_stays : (w : Facts) (before after : List Point) (cycle x : ℕ) (taken : Bool) (generation : ℕ)
    → SameDead w before after cycle → IsLeftIn w before cycle x taken generation
    → IsLeftIn w after cycle x taken generation
left_stays w before after cycle x taken generation same left g freed =
    left g (freed_was_in w before after cycle (name_of x g) same freed)

past_stays : (w : Facts) (before after : List Point) (cycle x : ℕ) (taken : Bool) (generation : ℕ)
    → SameDead w before after cycle → IsPast w before cycle x taken generation
    → IsPast w after cycle x taken generation
past_stays w before after cycle x taken generation same past is dead =
    past is (same.was cycle (name_of x generation) (omega arith) dead)

-- a point, or none, and no entry taken, freed or renamed
pub freeing_stays : (n : Numbers) (ws us : List ℕ) (w : Facts) (before after : List Point) (cycle : ℕ)
    (servers : List Freeing) → SameDead w before after cycle
    → ((x : ℕ) → x < all_entries n → (entry_of n us x).taken ≡ (entry_of n ws x).taken)
    → ((x : ℕ) → x < all_entries n → (entry_of n us x).generation ≡ (entry_of n ws x).generation)
    → FreeingStands n ws w before cycle servers → FreeingStands n us w after cycle servers
freeing_stays n ws us w before after cycle servers same taken generation freeing = record {
  size = freeing.size;
  within = freeing.within;
  names = λ s f at. freed_of_stays w before after cycle (entry_by n s 0) (entry_by n s f.through) f.names same
      (freeing.names s f at);
  left = λ s i f at low high.
      let x : ℕ = entry_by n s i in
      let inside =
      owned_within n s i
      (let l =
      slice_get_within servers s f at in let z = freeing.size in (let d : s < n.servers = omega arith in d))
      high in
      subst (λ b. IsLeftIn w after cycle x b (entry_of n us x).generation) (sym (taken x inside))
      (subst (IsLeftIn w after cycle x (entry_of n ws x).taken) (sym (generation x inside))
      (left_stays w before after cycle x (entry_of n ws x).taken (entry_of n ws x).generation same
      (freeing.left s i f at low high)));
  past = λ s i f at low.
      let x : ℕ = entry_by n s i in
      let few = freeing.within s f at in
      let inside =
      owned_within n s i
      (let l =
      slice_get_within servers s f at in let z = freeing.size in (let d : s < n.servers = omega arith in d))
      (omega arith) in
      subst (λ b. IsPast w after cycle x b (entry_of n us x).generation) (sym (taken x inside))
      (subst (IsPast w after cycle x (entry_of n ws x).taken) (sym (generation x inside))
      (past_stays w before after cycle x (entry_of n ws x).taken (entry_of n ws x).generation same
      (freeing.past s i f at low)));
}

-- ---- the snapshot

module _ (n : Numbers) (w : Facts) where
  pub has_server : (ws : List ℕ) (history : List Point) (cycle : ℕ) (servers : List Freeing) (s : ℕ) (f : Freeing)
      → FreeingStands n ws w history cycle servers → slice_get servers s ≡ Some f → s < n.servers
  has_server ws history cycle servers s f freeing at =
      let l = slice_get_within servers s f at in let z = freeing.size in omega arith

  -- At the snapshot nothing was freed yet, and each name that the cycle is to free is that of its taken entry: it was
  -- good before, and an older name of the entry was dead, since the entry was used again, as is that of a free entry.
  pub freeing_snaps : (ws us : List ℕ) (front : Seen) (c : ℕ) (servers : List Freeing) → IsLawfulFront w front
      → IsLegal w (front.history ++ Snap (c + 1) ∷ []) → c ≡ (state_of w front.history).snaps
      → TableStands n ws w front
      → ((x : ℕ) → x < all_entries n → entry_of n us x ≡ entry_of n ws x) → length servers ≡ n.servers
      → ((s : ℕ) (f : Freeing) → slice_get servers s ≡ Some f → (f.through ≡ 0) × (f.names ≡ []))
      → FreeingStands n us w (front.history ++ Snap (c + 1) ∷ []) (c + 1) servers
  freeing_snaps ws us front c servers lawful legal last table same size start =
      let h = front.history in
      let after : List Point = front.history ++ Snap (c + 1) ∷ [] in record {
        size = size;
        within = λ s f at. let none = (start s f at).0 in omega arith;
        names = λ s f at.
            let z = start s f at in
            subst (λ ns. AreFreedOf w after (c + 1) (entry_by n s 0) (entry_by n s f.through) ns) (sym z.1)
            (subst (λ k. AreFreedOf w after (c + 1) (entry_by n s 0) (entry_by n s k) []) (sym z.0)
            (freed_none w after (c + 1) (entry_by n s 0)));
        left = λ s i f at low high g freed.
            let x : ℕ = entry_by n s i in
            let inside =
            owned_within n s i
            (let l = slice_get_within servers s f at in (let d : s < n.servers = omega arith in d)) high in
            let made : Contains (names_made h) (name_of x g) =
            subst (λ ns. Contains ns (name_of x g)) (names_none h (Snap (c + 1)) refl)
            (dead_made w after (c + 1) (name_of x g) freed.dead) in
            let good : IsGood w h (name_of x g) = record {
              made = made;
              kept = λ dead. freed.lived
                  (dead_stays w h (Snap (c + 1) ∷ []) (c + 1 - 1) (name_of x g)
                  (subst (λ k. IsDead w h k (name_of x g))
                  (let e : (state_of w h).snaps ≡ c + 1 - 1 = omega arith in e) dead));
            } in
            subst (λ (u : EntryWord). (u.taken ≡ true) × (u.generation ≡ g)) (sym (same x inside))
            (good_entry w front (settled_of (phase_of n ws)) x (entry_of n ws x).taken (entry_of n ws x).generation
            g lawful (settled_begun n ws w front table) (table.entries x inside) good);
        past = λ s i f at low. let none = (start s f at).0 in absurd (omega arith);
      }

  -- ---- publication

  pub freeing_publishes : (ws : List ℕ) (before after : List Point) (cycle x : ℕ) (e : EntryWord)
      (servers : List Freeing) → length ws ≡ total n → x < all_entries n → FitsEntry e → SameDead w before after cycle
      → (entry_of n ws x).taken ≡ false → (Contains (names_made before) (name_of x e.generation) → ⊥)
      → FreeingStands n ws w before cycle servers
      → FreeingStands n (set ws (index n (entry x)) (entry_word e)) w after cycle servers
  freeing_publishes ws before after cycle x e servers size within fits same is_free fresh freeing =
      let us : List ℕ = set ws (index n (entry x)) (entry_word e) in record {
        size = freeing.size;
        within = freeing.within;
        names = λ s f at. freed_of_stays w before after cycle (entry_by n s 0) (entry_by n s f.through) f.names same
            (freeing.names s f at);
        left = λ s i f at low high g freed.
            let y : ℕ = entry_by n s i in
            let inside = owned_within n s i (has_server ws before cycle servers s f freeing at) high in
            let is = freeing.left s i f at low high g (freed_was_in w before after cycle (name_of y g) same freed) in
            ⊎_elim
            (λ here. absurd (no_bool (sym is_free ∙ ap (λ k. (entry_of n ws k).taken) (sym here) ∙ is.0)))
            (λ other. subst (λ (u : EntryWord). (u.taken ≡ true) × (u.generation ≡ g))
            (sym (entry_else n ws x y (entry_word e) within inside other)) is)
            (cases_eq y x);
        past = λ s i f at low taken dead.
            let y : ℕ = entry_by n s i in
            let few = freeing.within s f at in
            let inside = owned_within n s i (has_server ws before cycle servers s f freeing at) (omega arith) in
            let was : IsDead w before cycle (name_of y (entry_of n us y).generation) =
            same.was cycle (name_of y (entry_of n us y).generation) (omega arith) dead in
            ⊎_elim
            (λ here. fresh (dead_made w before cycle (name_of x e.generation)
            (subst (λ (u : EntryWord). IsDead w before cycle (name_of x u.generation))
            (entry_stored n ws x e size within fits)
            (subst (λ k. IsDead w before cycle (name_of k (entry_of n us k).generation)) here was))))
            (λ other. let is : entry_of n us y ≡ entry_of n ws y =
            entry_else n ws x y (entry_word e) within inside other in
            freeing.past s i f at low (ap (λ (u : EntryWord). u.taken) (sym is) ∙ taken)
            (subst (λ (u : EntryWord). IsDead w before cycle (name_of y u.generation)) is was))
            (cases_eq y x);
      }

  -- ---- a server goes over one entry more

  pub freeing_passes : (ws : List ℕ) (history : List Point) (cycle s : ℕ) (servers : List Freeing) (f : Freeing)
      → slice_get servers s ≡ Some f → f.through < own_entries n
      → ((g : ℕ) → IsFreedIn w history cycle (name_of (entry_by n s f.through) g) → ⊥)
      → IsPast w history cycle (entry_by n s f.through) (entry_of n ws (entry_by n s f.through)).taken
      (entry_of n ws (entry_by n s f.through)).generation
      → FreeingStands n ws w history cycle servers
      → FreeingStands n ws w history cycle (set servers s (record { through = f.through + 1; names = f.names }))
  freeing_passes ws history cycle s servers f here more none past freeing =
      let g : Freeing = record { through = f.through + 1; names = f.names } in record {
        size = length-set servers s g ∙ freeing.size;
        within =
            λ k found at. ⊎_elim
            (λ t. let e : f.through + 1 ≡ found.through =
            ap (λ (z : Freeing). z.through) t.1 in (let d : found.through ≤ own_entries n = omega arith in d))
            (λ t. freeing.within k found t.1) (get_set_cases servers s k g found at);
        names = λ k found at. ⊎_elim
            (λ t. subst (λ (z : Freeing). AreFreedOf w history cycle (entry_by n k 0) (entry_by n k z.through)
            z.names) t.1
            (subst (λ j. AreFreedOf w history cycle (entry_by n j 0) (entry_by n j (f.through + 1)) f.names) (sym t.0)
            (subst (λ j. AreFreedOf w history cycle (entry_by n s 0) j f.names)
            (let e : entry_by n s f.through + 1 ≡ entry_by n s (f.through + 1) = omega arith in e)
            (freed_passes w history cycle (entry_by n s 0) (entry_by n s f.through) f.names none
            (freeing.names s f here)))))
            (λ t. freeing.names k found t.1) (get_set_cases servers s k g found at);
        left = λ k i found at low high. ⊎_elim
            (λ t. let e : f.through + 1 ≡ found.through = ap (λ (z : Freeing). z.through) t.1 in
            freeing.left k i f (subst (λ j. slice_get servers j ≡ Some f) (sym t.0) here) (omega arith) high)
            (λ t. freeing.left k i found t.1 low high) (get_set_cases servers s k g found at);
        past = λ k i found at low. ⊎_elim
            (λ t. let e : f.through + 1 ≡ found.through = ap (λ (z : Freeing). z.through) t.1 in
            ⊎_elim
            (λ last. subst (λ x. IsPast w history cycle x (entry_of n ws x).taken (entry_of n ws x).generation)
            (λ j. entry_by n (sym t.0 j) (sym last j)) past)
            (λ other. freeing.past k i f (subst (λ j. slice_get servers j ≡ Some f) (sym t.0) here)
            (let d : i < f.through = omega (arith, other) in d)) (cases_eq i f.through))
            (λ t. freeing.past k i found t.1 low) (get_set_cases servers s k g found at);
      }

  -- ---- a server frees the entry that it comes to

  entry_once : (s i k j : ℕ) → i < own_entries n → j < own_entries n → entry_by n s i ≡ entry_by n k j → (s ≡ k)
      × (i ≡ j)
  entry_once s i k j low less e = (
    sym (div-mul-add s (own_entries n) i low) ∙ ap (λ x. x / own_entries n) e ∙ div-mul-add k (own_entries n) j less,
    sym (mod-mul-add s (own_entries n) i low) ∙ ap (λ x. x % own_entries n) e ∙ mod-mul-add k (own_entries n) j less,
  )

  pub freeing_frees : (ws : List ℕ) (history : List Point) (cycle s : ℕ) (e : EntryWord) (servers : List Freeing)
      (f : Freeing) → length ws ≡ total n → FitsEntry e → slice_get servers s ≡ Some f → f.through < own_entries n
      → e.taken ≡ false → (entry_of n ws (entry_by n s f.through)).taken ≡ true
      → IsFreedIn w history cycle
      (name_of (entry_by n s f.through) (entry_of n ws (entry_by n s f.through)).generation)
      → FreeingStands n ws w history cycle servers
      → FreeingStands n (set ws (index n (entry (entry_by n s f.through))) (entry_word e)) w history cycle
      (set servers s
      (record {
        through = f.through + 1;
        names = f.names ++ name_of (entry_by n s f.through) (entry_of n ws (entry_by n s f.through)).generation ∷ [];
      }))
  freeing_frees ws history cycle s e servers f size fits here more is_free taken freed freeing =
      let x : ℕ = entry_by n s f.through in
      let generation : ℕ = (entry_of n ws x).generation in
      let g : Freeing = record { through = f.through + 1; names = f.names ++ name_of x generation ∷ [] } in
      let us : List ℕ = set ws (index n (entry x)) (entry_word e) in
      let own : x < all_entries n =
      owned_within n s f.through (has_server ws history cycle servers s f freeing here) more in
      let low_first : entry_by n s 0 ≤ x = omega arith in
      let only : (h : ℕ) → IsFreedIn w history cycle (name_of x h) → generation ≡ h =
      λ h is. (freeing.left s f.through f here (omega arith) more h is).1 in
      record {
        size = length-set servers s g ∙ freeing.size;
        within =
            λ k found at. ⊎_elim
            (λ t. let d : f.through + 1 ≡ found.through =
            ap (λ (z : Freeing). z.through) t.1 in (let l : found.through ≤ own_entries n = omega arith in l))
            (λ t. freeing.within k found t.1) (get_set_cases servers s k g found at);
        names = λ k found at. ⊎_elim
            (λ t. subst (λ (z : Freeing). AreFreedOf w history cycle (entry_by n k 0) (entry_by n k z.through)
            z.names) t.1
            (subst (λ j. AreFreedOf w history cycle (entry_by n j 0) (entry_by n j (f.through + 1)) g.names) (sym t.0)
            (subst (λ j. AreFreedOf w history cycle (entry_by n s 0) j g.names)
            (let d : x + 1 ≡ entry_by n s (f.through + 1) = omega arith in d)
            (freed_push w history cycle (entry_by n s 0) x generation f.names low_first freed only
            (freeing.names s f here)))))
            (λ t. freeing.names k found t.1) (get_set_cases servers s k g found at);
        left = λ k i found at low high.
            let old : (was : Freeing) × (slice_get servers k ≡ Some was) × (was.through ≤ i)
            × (entry_by n k i ≡ x → ⊥) = ⊎_elim
            (λ t. let d : f.through + 1 ≡ found.through = ap (λ (z : Freeing). z.through) t.1 in (
              f,
              subst (λ j. slice_get servers j ≡ Some f) (sym t.0) here,
              (let l : f.through ≤ i = omega arith in l),
              (λ same. let o = (entry_once k i s f.through high more same).1 in omega arith),
            ))
            (λ t. let other =
            t.0 in (found, t.1, low, (λ same. other ((entry_once k i s f.through high more same).0))))
            (get_set_cases servers s k g found at) in
            let y : ℕ = entry_by n k i in
            let inside = owned_within n k i (has_server ws history cycle servers k old.0 freeing old.1) high in
            subst (λ (u : EntryWord). IsLeftIn w history cycle y u.taken u.generation)
            (sym (entry_else n ws x y (entry_word e) own inside old.3)) (freeing.left k i old.0 old.1 old.2 high);
        past = λ k i found at low is dead.
            let y : ℕ = entry_by n k i in
            ⊎_elim
            (λ same. absurd
            (no_bool
            (sym is_free ∙ ap (λ (u : EntryWord). u.taken) (sym (entry_stored n ws x e size own fits))
            ∙ ap (λ z. (entry_of n us z).taken) (sym same) ∙ is)))
            (λ other.
            let old : (was : Freeing) × (slice_get servers k ≡ Some was) × (i < was.through) = ⊎_elim
            (λ t. let d : f.through + 1 ≡ found.through = ap (λ (z : Freeing). z.through) t.1 in (
              f,
              subst (λ j. slice_get servers j ≡ Some f) (sym t.0) here,
              ⊎_elim (λ last. absurd (other (λ j. entry_by n (t.0 j) (last j))))
                  (λ differ. (let l : i < f.through = omega (arith, differ) in l)) (cases_eq i f.through),
            ))
            (λ t. (found, t.1, low)) (get_set_cases servers s k g found at) in
            let few = freeing.within k old.0 old.1 in let l = old.2 in
            let inside = owned_within n k i (has_server ws history cycle servers k old.0 freeing old.1) (omega arith) in
            let same : entry_of n us y ≡ entry_of n ws y = entry_else n ws x y (entry_word e) own inside other in
            freeing.past k i old.0 old.1 old.2 (ap (λ (u : EntryWord). u.taken) (sym same) ∙ is)
            (subst (λ (u : EntryWord). IsDead w history cycle (name_of y u.generation)) same dead))
            (cases_eq y x);
      }

  -- ---- the cycle is finished

  -- all servers have gone over all their entries: no taken entry's name is dead in the cycle
  pub freeing_done : (ws : List ℕ) (history : List Point) (cycle : ℕ) (servers : List Freeing)
      → FreeingStands n ws w history cycle servers
      → ((s : ℕ) (f : Freeing) → slice_get servers s ≡ Some f → f.through ≡ own_entries n)
      → (x : ℕ) → x < all_entries n → (entry_of n ws x).taken ≡ true
      → ¬ IsDead w history cycle (name_of x (entry_of n ws x).generation)
  freeing_done ws history cycle servers freeing all x within =
      let own : ℕ = own_entries n in
      let owned = all_owned n in
      let some : 0 < own =
      ⊎_elim (λ l. l)
      (λ none. let e : n.servers * own ≡ n.servers * 0 =
      ap (λ k. n.servers * k) (let d : own ≡ 0 = omega arith in d) in absurd (omega arith)) (cases_lt 0 own) in
      let parts : x % own + x / own * own ≡ x = mod-add-div' x own in
      let low : x % own < own = mod-lt x some in
      let server : x / own < n.servers =
      ⊎_elim (λ l. l)
      (λ over. let m = mul-le n.servers own (x / own) own over (omega arith) in absurd (omega arith))
      (cases_lt (x / own) n.servers) in
      let size = freeing.size in
      ⊎_elim
      (λ t. let is = all (x / own) t.0 t.2 in
      let same : entry_by n (x / own) (x % own) ≡ x = omega arith in
      subst (λ k. IsPast w history cycle k (entry_of n ws k).taken (entry_of n ws k).generation) same
      (freeing.past (x / own) (x % own) t.0 t.2 (omega arith)))
      (λ t. let over = t.0 in absurd (omega arith)) (slice_get_cases servers (x / own)).1

  -- and their lists in order are what the cycle frees
  pub freeing_lists : (ws : List ℕ) (front : Seen) (cycle : ℕ) (servers : List Freeing) → IsWorkloadOf n w
      → IsLawfulFront w front → FreeingStands n ws w front.history cycle servers
      → ((s : ℕ) (f : Freeing) → slice_get servers s ≡ Some f → f.through ≡ own_entries n)
      → AreFreed w front.history cycle (flat_map (λ (f : Freeing). f.names) servers)
  freeing_lists ws front cycle servers of_it lawful freeing all =
      let joined = freed_joined w front.history cycle (own_entries n) 0 servers (λ s f at.
      let start : entry_by n s 0 ≡ (0 + s) * own_entries n =
      let e : 0 + s ≡ s = omega arith in (let d : s * own_entries n + 0 ≡ s * own_entries n = omega arith in d)
      ∙ ap (λ k. k * own_entries n) (sym e) in
      let whole : entry_by n s f.through ≡ (0 + s) * own_entries n + own_entries n =
      let d = all s f at in let e =
      start in (let z : s * own_entries n + f.through ≡ (0 + s) * own_entries n + own_entries n =
      omega arith in z) in
      subst (λ k. AreFreedOf w front.history cycle k ((0 + s) * own_entries n + own_entries n) f.names) start
      (subst (λ k. AreFreedOf w front.history cycle (entry_by n s 0) k f.names) whole (freeing.names s f at))) in
      record {
        rising = joined.rising;
        each = λ name. (
          (λ c. let t = ((joined.each name).0 c).0 in (t.dead, t.lived)),
          (λ t. (joined.each name).1 (
            record { dead = t.0; lived = t.1 },
            (let d : 0 * own_entries n ≤ name.entry = omega arith in d),
            (let l =
                in_table n w name.entry of_it (lawful.names name (dead_made w front.history cycle name t.0)).entry in
                let e : (0 + length servers) * own_entries n ≡ n.servers * own_entries n =
                ap (λ k. k * own_entries n)
                (let z = freeing.size in (let d : 0 + length servers ≡ n.servers = omega arith in d)) in
                let f = all_owned n in
                (let d : name.entry < (0 + length servers) * own_entries n = omega arith in d)),
          )),
        );
      }

  -- ---- epochs

  -- what a server needs to know to go over an entry: a free one has nothing to free, and a marked one is good
  pub passes_free : (ws : List ℕ) (history : List Point) (cycle s : ℕ) (servers : List Freeing) (f : Freeing)
      → slice_get servers s ≡ Some f → f.through < own_entries n → FreeingStands n ws w history cycle servers
      → (entry_of n ws (entry_by n s f.through)).taken ≡ false → (g : ℕ)
      → IsFreedIn w history cycle (name_of (entry_by n s f.through) g) → ⊥
  passes_free ws history cycle s servers f here more freeing is_free g freed =
      no_bool (sym is_free ∙ (freeing.left s f.through f here (omega arith) more g freed).0)

  pub passes_good : (ws : List ℕ) (history : List Point) (cycle s : ℕ) (servers : List Freeing) (f : Freeing)
      → slice_get servers s ≡ Some f → f.through < own_entries n → FreeingStands n ws w history cycle servers
      → ¬ IsDead w history cycle
      (name_of (entry_by n s f.through) (entry_of n ws (entry_by n s f.through)).generation) → (g : ℕ)
      → IsFreedIn w history cycle (name_of (entry_by n s f.through) g) → ⊥
  passes_good ws history cycle s servers f here more freeing good g freed =
      let is = (freeing.left s f.through f here (omega arith) more g freed).1 in
      good (subst (λ k. IsDead w history cycle (name_of (entry_by n s f.through) k)) (sym is) freed.dead)

  marked_stays : (before after : List Point) (cycle x generation epoch : ℕ) → SameDead w before after cycle
      → EpochStands w before cycle x generation epoch → EpochStands w after cycle x generation epoch
  marked_stays before after cycle x generation epoch same marked = record {
    good = λ e dead. marked.good e (same.was cycle (name_of x generation) (omega arith) dead);
    dead = λ other. same.stays cycle (name_of x generation) (omega arith) (marked.dead other);
    old = marked.old;
  }

  -- a point, or none, and no entry word stored
  pub epochs_stay : (ws us : List ℕ) (before after : List Point) (cycle : ℕ) → SameDead w before after cycle
      → ((x : ℕ) → x < all_entries n → entry_of n us x ≡ entry_of n ws x) → EpochsStand n ws w before cycle
      → EpochsStand n us w after cycle
  epochs_stay ws us before after cycle same words epochs x within =
      subst (λ (u : EntryWord). u.taken ≡ true → EpochStands w after cycle x u.generation u.epoch)
      (sym (words x within))
      (λ taken. marked_stays before after cycle x (entry_of n ws x).generation (entry_of n ws x).epoch same
      (epochs x within taken))

  -- one entry word is stored, for which it is so
  pub epochs_store : (ws : List ℕ) (before after : List Point) (cycle x : ℕ) (e : EntryWord) → length ws ≡ total n
      → x < all_entries n → FitsEntry e → SameDead w before after cycle
      → (e.taken ≡ true → EpochStands w after cycle x e.generation e.epoch) → EpochsStand n ws w before cycle
      → EpochsStand n (set ws (index n (entry x)) (entry_word e)) w after cycle
  epochs_store ws before after cycle x e size within fits same stored epochs y inside =
      let us : List ℕ = set ws (index n (entry x)) (entry_word e) in
      ⊎_elim
      (λ here.
      subst (λ k. (entry_of n us k).taken ≡ true
      → EpochStands w after cycle k (entry_of n us k).generation (entry_of n us k).epoch) (sym here)
      (subst (λ (u : EntryWord). u.taken ≡ true → EpochStands w after cycle x u.generation u.epoch)
      (sym (entry_stored n ws x e size within fits)) stored))
      (λ other. subst (λ (u : EntryWord). u.taken ≡ true → EpochStands w after cycle y u.generation u.epoch)
      (sym (entry_else n ws x y (entry_word e) within inside other))
      (λ taken. marked_stays before after cycle y (entry_of n ws y).generation (entry_of n ws y).epoch same
      (epochs y inside taken)))
      (cases_eq y x)

  -- a name that was just made has the cycle's epoch and is good
  pub made_marked : (history : List Point) (m : ℕ) (c : Call) (cycle x g : ℕ)
      → IsLegal w (history ++ Did m c (Made (name_of x g)) ∷ []) → cycle ≤ (state_of w history).snaps
      → (Contains (names_made history) (name_of x g) → ⊥)
      → EpochStands w (history ++ Did m c (Made (name_of x g)) ∷ []) cycle x g cycle
  made_marked history m c cycle x g legal begun fresh = record {
    good = λ e dead. fresh
        (dead_made w history cycle (name_of x g)
        (dead_was w history (Did m c (Made (name_of x g)) ∷ []) cycle (name_of x g) legal begun dead));
    dead = λ other. absurd (other refl);
    old = omega arith;
  }
