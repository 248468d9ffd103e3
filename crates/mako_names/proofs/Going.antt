-- Freed names on their way, at each kind of step.
use Rattle.std.proofs.Common.{◌≡◌, ◌≢◌, ℕ, zero, suc, ◌+◌, ◌<◌, ◌≤◌, ◌^◌, ◌⊎◌, true, false, List, [], ◌∷◌, ◌++◌, length}
use Rattle.std.proofs.Common.{map, set, slice_get, Contains, Some, sym, ap, subst, refl, ◌∙◌, arith}
use Rattle.std.proofs.lemmas.List.{map-set}
use Rattle.std.proofs.lemmas.Option.{same_Some, none-some}
use Rattle.mako_words.specs.declared.name.Name.{Name}
use Rattle.mako_words.specs.declared.value.Value.TheVariants.{Ref}
use Rattle.mako_words.specs.declared.entry_word.EntryWord.{EntryWord}
use Rattle.mako_words.specs.declared.phase_word.PhaseWord.TheVariants.{Idle, Trace, Evac, Stop}
use Rattle.mako_words.specs.Entries.{entry_word, FitsEntry}
use Rattle.mako_words.specs.Names.{name_word, FitsName}
use Rattle.mako_words.specs.Phases.{phase_word}
use Rattle.mako_shape.specs.declared.numbers.Numbers.{Numbers}
use Rattle.mako_shape.specs.Limits.{all_entries}
use Rattle.mako_shape.specs.Places.{Place, phase, entry, index, Within, word_at}
use Rattle.mako_model.specs.declared.point.Point.TheVariants.{Snap}
use Rattle.mako_model.specs.Fronts.{Seen, with_point, with_cycle}
use Rattle.mako_model.specs.Heaps.{root_of}
use Rattle.mako_model.specs.Legal.{Facts, state_of}
use Rattle.mako_names.specs.Counts.{name_of}
use Rattle.mako_names.specs.Freeing.{Freeing, own_entries, entry_by, FreeingStands, FreeingFits, AllMarked}
use Rattle.mako_names.specs.Going.{Facets, with_freed, GatheringStands, GatheringFits, NamesHold}
use Rattle.mako_names.specs.Holding.{NamesHoldWith}
use Rattle.mako_names.specs.Tables.{IsWorkloadOf, entry_of, phase_of}
use Rattle.mako_names.specs.Uses.{IsUseSlot}
use Rattle.mako_names.proofs.FreeingKinds.{owned_within, has_server}
use Rattle.mako_names.proofs.Holding.{hold_snaps, hold_evacuates, hold_stops, hold_passes, hold_frees, hold_finishes}
use Rattle.mako_names.proofs.NoticeKinds.{notices_pass, notices_free, notices_get, notices_end, notices_all}
use Rattle.mako_names.proofs.NoticeKinds.{notices_start}
use Rattle.mako_names.proofs.Words.{phase_else, phase_stored}

pub map_get : {A B : Type 0} (f : A → B) (xs : List A) (i : ℕ) (y : B) → slice_get (map f xs) i ≡ Some y → (x : A)
    × (slice_get xs i ≡ Some x) × (f x ≡ y)
map_get f [] i y at = absurd (none-some y at)
map_get f (x ∷ xs) zero y at = (x, refl, same_Some (f x) y at)
map_get f (x ∷ xs) (suc i) y at = map_get f xs i y at

pub get_map : {A B : Type 0} (f : A → B) (xs : List A) (i : ℕ) (x : A) → slice_get xs i ≡ Some x
    → slice_get (map f xs) i ≡ Some (f x)
get_map f [] i x at = absurd (none-some x at)
get_map f (y ∷ xs) zero x at = ap (λ z. Some (f z)) (same_Some y x at)
get_map f (y ∷ xs) (suc i) x at = get_map f xs i x at

-- the servers at the snapshot
abbrev starting : ℕ → Freeing
starting i = record { through = i; names = [] }

abbrev start_of : List ℕ → List Freeing
start_of through = map starting through

start_length : (through : List ℕ) → length (start_of through) ≡ length through
start_length [] = refl
start_length (i ∷ through) = ap suc (start_length through)

start_bounds : (through : List ℕ) → through ≡ map (λ (f : Freeing). f.through) (start_of through)
start_bounds [] = refl
start_bounds (i ∷ through) = ap (λ xs. i ∷ xs) (start_bounds through)

module _ (n : Numbers) (w : Facts) where
  -- a law that leaves the phase word and the freed names
  pub go_on : (ws us : List ℕ) (front after : Seen) (facets changed : Facets) → phase_of n us ≡ phase_of n ws
      → changed.through ≡ facets.through → changed.sent ≡ facets.sent → changed.collector ≡ facets.collector
      → ((freed : List Freeing) → NamesHoldWith n w ws front (with_freed facets freed)
      → NamesHoldWith n w us after (with_freed changed freed))
      → NamesHold n w ws front facets → NamesHold n w us after changed
  go_on ws us front after facets changed same through sent collector law go = record {
    freed = go.freed;
    hold = law go.freed go.hold;
    gathering = subst (λ p. GatheringFits p go.freed changed.through changed.sent changed.collector) (sym same)
        (subst (λ t. GatheringFits (phase_of n ws) go.freed t changed.sent changed.collector) (sym through)
        (subst (λ s. GatheringFits (phase_of n ws) go.freed facets.through s changed.collector) (sym sent)
        (subst (GatheringFits (phase_of n ws) go.freed facets.through facets.sent) (sym collector) go.gathering)));
  }

  -- at the snapshot no server has gone over an entry, and nothing is sent or got
  pub go_snaps : (ws : List ℕ) (front : Seen) (facets : Facets) (c : ℕ) (through : List ℕ) (sent : List (List Name))
      → IsWorkloadOf n w → phase_of n ws ≡ Idle c → c < w.cycles
      → ((p : Place) (name : Name) → Within n p → IsUseSlot p → FitsName name → word_at n ws p ≡ name_word name → ⊥)
      → ((seat : ℕ) (names : List Name) (name : Name) → slice_get facets.held seat ≡ Some names
      → Contains names name → (m : ℕ) × (q : ℕ) × (root_of (state_of w front.history) m q ≡ Some (Ref name)))
      → 0 < n.servers → length through ≡ n.servers → length sent ≡ n.servers
      → ((s i : ℕ) → slice_get through s ≡ Some i → i ≡ 0)
      → ((s : ℕ) (names : List Name) → slice_get sent s ≡ Some names → names ≡ [])
      → NamesHold n w ws front facets
      → NamesHold n w (set ws (index n phase) (phase_word (Trace (c + 1)))) (with_point front (Snap (c + 1)))
      (record facets { through = through; sent = sent; collector = record { server = 0; names = [] } })
  go_snaps ws front facets c through sent of_it idle some empty rooted servers size size_sent zeros none go =
      let freed : List Freeing = start_of through in
      let count : length freed ≡ length through = start_length through in
      let few = of_it.few_cycles in
      let fresh : (s : ℕ) (f : Freeing) → slice_get freed s ≡ Some f → (f.through ≡ 0) × (f.names ≡ []) = λ s f at.
      (let t = map_get (λ (i : ℕ). starting i) through s f at in
      (sym (ap (λ (z : Freeing). z.through) t.2) ∙ zeros s t.0 t.1, sym (ap (λ (z : Freeing). z.names) t.2))) in
      let was : NamesHoldWith n w ws front (with_freed facets freed) = record {
        size = go.hold.size;
        answers = go.hold.answers;
        table = go.hold.table;
        uses = go.hold.uses;
        trying = go.hold.trying;
        left = go.hold.left;
        freeing = subst (λ q. FreeingFits q n ws w front.history freed) (sym idle) tt;
        epochs = go.hold.epochs;
      } in
      record {
        freed = freed;
        hold = hold_snaps n w ws front (with_freed facets freed) c of_it idle some empty rooted (count ∙ size) fresh
            was;
        gathering =
            subst (λ p. GatheringFits p freed through sent (record { server = 0; names = [] }))
            (sym (phase_stored n ws (Trace (c + 1)) go.hold.size (let d : c + 1 < 2 ^ 20 = omega arith in d)))
            (record {
              bounds = start_bounds through;
              notices =
                  notices_start freed sent (let d : length sent ≡ length freed = omega arith in d)
                  (let d : 0 < length freed = omega arith in d) (λ s f at. (fresh s f at).1) none;
            });
      }

  pub go_evacuates : (ws : List ℕ) (front : Seen) (facets : Facets) (c : ℕ) → IsWorkloadOf n w → c ≤ w.cycles
      → phase_of n ws ≡ Trace c → AllMarked n ws w front.history c
      → NamesHold n w ws front facets → NamesHold n w (set ws (index n phase) (phase_word (Evac c))) front facets
  go_evacuates ws front facets c of_it le trace marked go =
      let was : GatheringStands go.freed facets.through facets.sent facets.collector =
      subst (λ p. GatheringFits p go.freed facets.through facets.sent facets.collector) trace go.gathering in
      let few = of_it.few_cycles in
      record {
        freed = go.freed;
        hold = hold_evacuates n w ws front (with_freed facets go.freed) c of_it le trace marked go.hold;
        gathering =
            subst (λ p. GatheringFits p go.freed facets.through facets.sent facets.collector)
            (sym (phase_stored n ws (Evac c) go.hold.size (let d : c < 2 ^ 20 = omega arith in d))) was;
      }

  pub go_stops : (ws : List ℕ) (front : Seen) (facets : Facets) (c : ℕ) → IsWorkloadOf n w → c ≤ w.cycles
      → phase_of n ws ≡ Idle c
      → NamesHold n w ws front facets → NamesHold n w (set ws (index n phase) (phase_word (Stop c))) front facets
  go_stops ws front facets c of_it le idle go =
      let few = of_it.few_cycles in
      record {
        freed = go.freed;
        hold = hold_stops n w ws front (with_freed facets go.freed) c of_it le idle go.hold;
        gathering =
            subst (λ p. GatheringFits p go.freed facets.through facets.sent facets.collector)
            (sym (phase_stored n ws (Stop c) go.hold.size (let d : c < 2 ^ 20 = omega arith in d))) tt;
      }

  -- a server goes over an entry that is free, or has the cycle's epoch
  pub go_passes : (ws : List ℕ) (front : Seen) (facets : Facets) (c s i : ℕ) → phase_of n ws ≡ Evac c
      → slice_get facets.through s ≡ Some i → i < own_entries n
      → ((entry_of n ws (entry_by n s i)).taken ≡ false) ⊎ ((entry_of n ws (entry_by n s i)).epoch ≡ c)
      → NamesHold n w ws front facets
      → NamesHold n w ws front (record facets { through = set facets.through s (i + 1) })
  go_passes ws front facets c s i evac at more how go =
      let was : GatheringStands go.freed facets.through facets.sent facets.collector =
      subst (λ p. GatheringFits p go.freed facets.through facets.sent facets.collector) evac go.gathering in
      let t = map_get (λ (f : Freeing). f.through) go.freed s i (subst (λ xs. slice_get xs s ≡ Some i) was.bounds at) in
      let f : Freeing = t.0 in
      let g : Freeing = record { through = f.through + 1; names = f.names } in
      let same : f.through ≡ i = t.2 in
      let how2 : ((entry_of n ws (entry_by n s f.through)).taken ≡ false)
      ⊎ ((entry_of n ws (entry_by n s f.through)).epoch ≡ c) =
      subst (λ k. ((entry_of n ws (entry_by n s k)).taken ≡ false) ⊎ ((entry_of n ws (entry_by n s k)).epoch ≡ c))
      (sym same) how in
      let bounds : set facets.through s (i + 1) ≡ map (λ (z : Freeing). z.through) (set go.freed s g) =
      (λ j. set (was.bounds j) s (sym same j + 1)) ∙ sym (map-set (λ (z : Freeing). z.through) go.freed s g) in
      record {
        freed = set go.freed s g;
        hold = hold_passes n w ws front (with_freed facets go.freed) c s f evac t.1
            (let d : f.through < own_entries n = omega arith in d) how2 go.hold;
        gathering =
            subst (λ p. GatheringFits p (set go.freed s g) (set facets.through s (i + 1)) facets.sent
            facets.collector) (sym evac)
            (record {
              bounds = bounds;
              notices = notices_pass go.freed facets.sent facets.collector s f g t.1 refl was.notices;
            });
      }

  -- a server frees a taken entry of another epoch, whose name is then on its way
  pub go_frees : (ws : List ℕ) (front : Seen) (facets : Facets) (c s i : ℕ) (names : List Name) (e : EntryWord)
      → FitsEntry e → phase_of n ws ≡ Evac c → slice_get facets.through s ≡ Some i → i < own_entries n
      → slice_get facets.sent s ≡ Some names → facets.collector.server ≤ s
      → (entry_of n ws (entry_by n s i)).taken ≡ true → (entry_of n ws (entry_by n s i)).epoch ≢ c → e.taken ≡ false
      → e.generation ≡ (entry_of n ws (entry_by n s i)).generation + 1
      → NamesHold n w ws front facets
      → NamesHold n w (set ws (index n (entry (entry_by n s i))) (entry_word e)) front
      (record facets {
        through = set facets.through s (i + 1);
        sent = set facets.sent s (names ++ name_of (entry_by n s i) (entry_of n ws (entry_by n s i)).generation ∷ []);
      })
  go_frees ws front facets c s i names e fits evac at more sent ahead taken epoch is_free generation go =
      let was : GatheringStands go.freed facets.through facets.sent facets.collector =
      subst (λ p. GatheringFits p go.freed facets.through facets.sent facets.collector) evac go.gathering in
      let t = map_get (λ (f : Freeing). f.through) go.freed s i (subst (λ xs. slice_get xs s ≡ Some i) was.bounds at) in
      freed_at t.0 t.1 i t.2 more taken epoch generation
    where
      freed_at : (f : Freeing) → slice_get go.freed s ≡ Some f → (k : ℕ) → f.through ≡ k → k < own_entries n
          → (entry_of n ws (entry_by n s k)).taken ≡ true → (entry_of n ws (entry_by n s k)).epoch ≢ c
          → e.generation ≡ (entry_of n ws (entry_by n s k)).generation + 1
          → NamesHold n w (set ws (index n (entry (entry_by n s k))) (entry_word e)) front
          (record facets {
            through = set facets.through s (k + 1);
            sent = set facets.sent s
                (names ++ name_of (entry_by n s k) (entry_of n ws (entry_by n s k)).generation ∷ []);
          })
      freed_at f here k same =
          subst (λ j. j < own_entries n → (entry_of n ws (entry_by n s j)).taken ≡ true
          → (entry_of n ws (entry_by n s j)).epoch ≢ c
          → e.generation ≡ (entry_of n ws (entry_by n s j)).generation + 1
          → NamesHold n w (set ws (index n (entry (entry_by n s j))) (entry_word e)) front
          (record facets {
            through = set facets.through s (j + 1);
            sent = set facets.sent s
                (names ++ name_of (entry_by n s j) (entry_of n ws (entry_by n s j)).generation ∷ []);
          })) same
          (λ less is_taken other next.
          let was : GatheringStands go.freed facets.through facets.sent facets.collector =
          subst (λ p. GatheringFits p go.freed facets.through facets.sent facets.collector) evac go.gathering in
          let x : ℕ = entry_by n s f.through in
          let name : Name = name_of x (entry_of n ws x).generation in
          let g : Freeing = record { through = f.through + 1; names = f.names ++ name ∷ [] } in
          let stands : FreeingStands n ws w front.history c go.freed =
          subst (λ q. FreeingFits q n ws w front.history go.freed) evac go.hold.freeing in
          let within : x < all_entries n =
          owned_within n s f.through (has_server n w ws front.history c go.freed s f stands here) less in
          let bounds : set facets.through s (f.through + 1) ≡ map (λ (z : Freeing). z.through) (set go.freed s g) =
          ap (λ xs. set xs s (f.through + 1)) was.bounds ∙ sym (map-set (λ (z : Freeing). z.through) go.freed s g) in
          let gathering : GatheringStands (set go.freed s g) (set facets.through s (f.through + 1))
          (set facets.sent s (names ++ name ∷ [])) facets.collector =
          record {
            bounds = bounds;
            notices = notices_free go.freed facets.sent facets.collector s f g name names here sent ahead refl
                was.notices;
          } in
          record {
            freed = set go.freed s g;
            hold = hold_frees n w ws front (with_freed facets go.freed) c s f e fits evac here less is_taken other
                is_free next go.hold;
            gathering =
                subst (λ p. GatheringFits p (set go.freed s g) (set facets.through s (f.through + 1))
                (set facets.sent s (names ++ name ∷ [])) facets.collector)
                (sym (phase_else n ws x (entry_word e) within ∙ evac)) gathering;
          })

  -- the collector gets a freed name
  pub go_gets : (ws : List ℕ) (front : Seen) (facets : Facets) (c : ℕ) (name : Name) (names : List Name)
      → phase_of n ws ≡ Evac c → slice_get facets.sent facets.collector.server ≡ Some (name ∷ names)
      → NamesHold n w ws front facets
      → NamesHold n w ws front
      (record facets {
        sent = set facets.sent facets.collector.server names;
        collector = record { server = facets.collector.server; names = facets.collector.names ++ name ∷ [] };
      })
  go_gets ws front facets c name names evac at go =
      let was : GatheringStands go.freed facets.through facets.sent facets.collector =
      subst (λ p. GatheringFits p go.freed facets.through facets.sent facets.collector) evac go.gathering in
      record {
        freed = go.freed;
        hold = go.hold;
        gathering =
            subst (λ p. GatheringFits p go.freed facets.through (set facets.sent facets.collector.server names)
            (record { server = facets.collector.server; names = facets.collector.names ++ name ∷ [] })) (sym evac)
            (record {
              bounds = was.bounds;
              notices = notices_get go.freed facets.sent facets.collector name names at was.notices;
            });
      }

  -- and the end of a server that has nothing sent any more
  pub go_ends : (ws : List ℕ) (front : Seen) (facets : Facets) (c : ℕ) → phase_of n ws ≡ Evac c
      → slice_get facets.sent facets.collector.server ≡ Some []
      → NamesHold n w ws front facets
      → NamesHold n w ws front
      (record facets { collector = record { server = suc facets.collector.server; names = facets.collector.names } })
  go_ends ws front facets c evac at go =
      let was : GatheringStands go.freed facets.through facets.sent facets.collector =
      subst (λ p. GatheringFits p go.freed facets.through facets.sent facets.collector) evac go.gathering in
      record {
        freed = go.freed;
        hold = go.hold;
        gathering =
            subst (λ p. GatheringFits p go.freed facets.through facets.sent
            (record { server = suc facets.collector.server; names = facets.collector.names })) (sym evac)
            (record {
              bounds = was.bounds;
              notices = notices_end go.freed facets.sent facets.collector at was.notices;
            });
      }

  -- The store of Idle: each server has gone over all its entries, and the collector has read all servers. The cycle
  -- has freed the names of its list.
  pub go_finishes : (ws : List ℕ) (front : Seen) (facets : Facets) (c : ℕ) → IsWorkloadOf n w → c ≤ w.cycles
      → phase_of n ws ≡ Evac c → ((s i : ℕ) → slice_get facets.through s ≡ Some i → i ≡ own_entries n)
      → n.servers ≤ facets.collector.server
      → NamesHold n w ws front facets
      → NamesHold n w (set ws (index n phase) (phase_word (Idle c))) (with_cycle front facets.collector.names) facets
  go_finishes ws front facets c of_it le evac all done go =
      let was : GatheringStands go.freed facets.through facets.sent facets.collector =
      subst (λ p. GatheringFits p go.freed facets.through facets.sent facets.collector) evac go.gathering in
      let stands : FreeingStands n ws w front.history c go.freed =
      subst (λ q. FreeingFits q n ws w front.history go.freed) evac go.hold.freeing in
      let few = of_it.few_cycles in
      let size = stands.size in
      let whole =
      notices_all go.freed facets.sent facets.collector
      (let d : length go.freed ≤ facets.collector.server = omega arith in d) was.notices in
      record {
        freed = go.freed;
        hold = subst (λ names. NamesHoldWith n w (set ws (index n phase) (phase_word (Idle c)))
            (with_cycle front names) (with_freed facets go.freed)) (sym whole)
            (hold_finishes n w ws front (with_freed facets go.freed) c of_it le evac
            (λ s f at. all s f.through
            (subst (λ xs. slice_get xs s ≡ Some f.through) (sym was.bounds)
            (get_map (λ (z : Freeing). z.through) go.freed s f at))) go.hold);
        gathering =
            subst (λ p. GatheringFits p go.freed facets.through facets.sent facets.collector)
            (sym (phase_stored n ws (Idle c) go.hold.size (let d : c < 2 ^ 20 = omega arith in d))) tt;
      }
