-- The kinds of step that touch entries, names in use or the front: what each changes, and what it rests on.
use Rattle.std.specs.Prelude.{ℕ, suc, ◌≡◌, ◌≢◌, ◌+◌, ◌*◌, ◌<◌, ◌≤◌, ◌^◌, ◌⊎◌, true, false, List, [], ◌∷◌, ◌++◌, length}
use Rattle.std.specs.Prelude.{slice_get, slice_set, Some}
use Rattle.std.specs.List.{Contains}
use Rattle.mako_words.specs.declared.name.Name.{Name}
use Rattle.mako_words.specs.declared.entry_word.EntryWord.{EntryWord}
use Rattle.mako_words.specs.declared.phase_word.PhaseWord.{PhaseWord}
use Rattle.mako_words.specs.declared.phase_word.PhaseWord.TheVariants.{Idle, Trace, Evac, Stop}
use Rattle.mako_words.specs.Entries.{entry_word, FitsEntry}
use Rattle.mako_words.specs.Names.{name_word, FitsName}
use Rattle.mako_words.specs.Phases.{phase_word, cycle_of}
use Rattle.mako_shape.specs.declared.numbers.Numbers.{Numbers}
use Rattle.mako_shape.specs.Limits.{all_entries}
use Rattle.mako_shape.specs.Places.{Place, phase, entry, top, index, total, Within, word_at}
use Rattle.mako_model.specs.declared.call.Call.{Call}
use Rattle.mako_model.specs.declared.call.Call.TheVariants as call
use Rattle.mako_model.specs.declared.reply.Reply.{Reply}
use Rattle.mako_model.specs.declared.reply.Reply.TheVariants as reply
use Rattle.mako_model.specs.declared.point.Point.{Point}
use Rattle.mako_model.specs.declared.point.Point.TheVariants.{Did, Snap}
use Rattle.mako_model.specs.Fronts.{Seen, opening_front, with_point, with_cycle}
use Rattle.mako_model.specs.Heaps.{board_name}
use Rattle.mako_model.specs.Lawful.{IsLawful}
use Rattle.mako_model.specs.Legal.{Facts, state_of}
use Rattle.mako_model.specs.Reachable.{StandsInRoot}
use Rattle.mako_model.specs.LawfulFronts.{IsInRange}
use Rattle.mako_model.specs.Starved.{words_made}
use Rattle.mako_names.specs.Counts.{name_of}
use Rattle.mako_names.specs.Freeing.{own_entries, entry_by, AllMarked}
use Rattle.mako_names.specs.Going.{Facets, NamesHold}
use Rattle.mako_names.specs.Tables.{entry_of, phase_of, running_of, published}
use Rattle.mako_names.specs.Trying as trying
use Rattle.mako_names.specs.Trying.{Trying, tablet_at}
use Rattle.mako_names.specs.Uses.{IsGood, IsUseSlot, IsNamePlace}

-- what is read of a state: all words, the front, and the facets of all seats
pub record NameScene : Type 0 where
  pub words : List ℕ
  pub front : Seen
  pub facets : Facets

-- the names of the scene hold
abbrev pub NamesHoldIn : Numbers → Facts → NameScene → Type 0
NamesHoldIn n w s = NamesHold n w s.words s.front s.facets

-- the scene with another word at one place
abbrev pub stored : Numbers → NameScene → Place → ℕ → NameScene
stored n s p v = record s { words = slice_set s.words (index n p) v }

-- the words of the phase, of the entries, and of the slots whose names are still to be used are as they were
pub record LeavesNames (n : Numbers) (ws us : List ℕ) : Type 0 where
  pub size : length us ≡ total n
  pub same : (p : Place) → Within n p → IsNamePlace p → word_at n us p ≡ word_at n ws p

-- where the word is a name's, the name is good
abbrev pub IsGoodWord : Facts → List Point → ℕ → Type 0
IsGoodWord w history v = (name : Name) → FitsName name → v ≡ name_word name → IsGood w history name

-- ---- what a mutator knows of its attempt

-- the phase tells that the cycle is finished
abbrev pub IsToldFinished : PhaseWord → ℕ → Type 0
IsToldFinished p cycle = cycle + running_of p ≤ cycle_of p

-- the entry that a mutator's last attempt looks at, when it has gone over so many tablets and entries
abbrev pub looked_at : Facts → ℕ → ℕ → ℕ → ℕ
looked_at w m tablets entries = tablet_at w m tablets * w.entries + entries

-- the entry can take no object: it is taken, or free with no generation left
abbrev pub HasNoRoom : Facts → EntryWord → Type 0
HasNoRoom w e = (e.taken ≡ true) ⊎ ((e.taken ≡ false) × (w.generations ≤ e.generation))

-- the words of the tablet are too few for an object of so many fields, as its top says, which is no more than the
-- words of all objects made there
pub record LacksWords (n : Numbers) (w : Facts) (s : NameScene) (tablet fields : ℕ) : Type 0 where
  pub used : word_at n s.words (top tablet) ≤ words_made w tablet s.front.history
  pub few : w.words < word_at n s.words (top tablet) + fields + 1

-- How what a mutator knows changes between its points.
pub data AttemptStep (n : Numbers) (w : Facts) (s : NameScene) (m : ℕ) : Trying → Trying → Type 0 where
  -- it asks for the cycle after that of the phase
  Asks : (known : Trying) → AttemptStep n w s m known (trying.Asked (cycle_of (phase_of n s.words) + 1))
  -- the cycle that it asked for is finished, or no cycle is left: its last attempt begins
  Waited : (k fields : ℕ) → IsToldFinished (phase_of n s.words) k
      → AttemptStep n w s m (trying.Asked k) (trying.Last fields 0 0)
  FindsNoneLeft : (known : Trying) (fields : ℕ) → cycle_of (phase_of n s.words) ≡ w.cycles
      → AttemptStep n w s m known (trying.Last fields 0 0)
  -- the entry that it looks at has no room
  Sees : (fields tablets entries : ℕ) → entries < w.entries
      → HasNoRoom w (entry_of n s.words (looked_at w m tablets entries))
      → AttemptStep n w s m (trying.Last fields tablets entries) (trying.Last fields tablets (entries + 1))
  -- all entries of the tablet were seen, or its words are too few
  GoesOver : (fields tablets : ℕ)
      → AttemptStep n w s m (trying.Last fields tablets w.entries) (trying.Last fields (tablets + 1) 0)
  Lacks : (fields tablets : ℕ) → LacksWords n w s (tablet_at w m tablets) fields
      → AttemptStep n w s m (trying.Last fields tablets 0) (trying.Last fields (tablets + 1) 0)
  -- it made a note, so that nothing it went over counts; or it forgets all it knows
  Notes : (fields tablets entries : ℕ)
      → AttemptStep n w s m (trying.Last fields tablets entries) (trying.Last fields 0 0)
  Forgets : (known : Trying) → AttemptStep n w s m known trying.Nothing

-- ---- points of mutators

-- a reply that makes no name, ends no wait, and tells nothing of room
abbrev pub IsPlain : Reply → Type 0
IsPlain (reply.Value v) = Unit {0}
IsPlain reply.Done = Unit {0}
IsPlain reply.NoRef = Unit {0}
IsPlain reply.NoField = Unit {0}
IsPlain r = ⊥

-- Which calls may be answered how, where no name is made.
pub data Decision (n : Numbers) (w : Facts) (s : NameScene) (m : ℕ) : Call → Reply → Type 0 where
  -- the reply is lawful in the heap that the history leaves
  Plain : (c : Call) (r : Reply) → IsPlain r → IsLawful (state_of w s.front.history) (Did m c r) → Decision n w s m c r
  -- its last attempt has gone over all tablets
  Starves : (root fields : ℕ) → m < length w.programs → root < w.roots
      → slice_get s.facets.trying m ≡ Some (trying.Last fields w.tablets 0)
      → Decision n w s m (call.New root fields) reply.Full
  -- the cycle that it asked for is finished
  Collects : (k : ℕ) → m < length w.programs → slice_get s.facets.trying m ≡ Some (trying.Asked k)
      → IsToldFinished (phase_of n s.words) k → Decision n w s m call.Collect (reply.Cycle k)
  -- no cycle is left
  Spends : m < length w.programs → cycle_of (phase_of n s.words) ≡ w.cycles → Decision n w s m call.Collect reply.Spent

-- the mutator's call is answered: it knows nothing of an attempt any more, and these calls are left
abbrev pub answered : Facets → ℕ → List Call → Facets
answered f m left = record f { trying = slice_set f.trying m trying.Nothing; left = slice_set f.left m left }

-- a `New` that publishes its object: of a mutator, for a root, with so many fields, in an entry, at an address
pub record Publication : Type 0 where
  pub mutator : ℕ
  pub root : ℕ
  pub fields : ℕ
  pub entry : ℕ
  pub address : ℕ

-- the name that it makes, of the generation that the entry has
abbrev pub name_made : Numbers → List ℕ → Publication → Name
name_made n ws p = name_of p.entry (entry_of n ws p.entry).generation

-- The entry is free and has a generation left, the call is the mutator's next one, and the numbers are in range.
pub record MayPublish (n : Numbers) (w : Facts) (s : NameScene) (p : Publication) (left : List Call) : Type 0 where
  pub mutator : p.mutator < length w.programs
  pub root : p.root < w.roots
  pub entry : p.entry < all_entries n
  pub address : p.address < 2 ^ 23
  pub next : slice_get s.facets.left p.mutator ≡ Some (call.New p.root p.fields ∷ left)
  pub free : (entry_of n s.words p.entry).taken ≡ false
  pub generation : (entry_of n s.words p.entry).generation < w.generations

-- The entry is taken with the epoch of the phase's cycle, and the mutator has the new name to use.
abbrev pub with_publication : Numbers → NameScene → Publication → List Call → NameScene
with_publication n s p left = record {
  words = slice_set s.words (index n (entry p.entry))
      (entry_word (published (entry_of n s.words p.entry).generation (cycle_of (phase_of n s.words)) p.address));
  front = with_point s.front (Did p.mutator (call.New p.root p.fields) (reply.Made (name_made n s.words p)));
  facets =
      record (answered s.facets p.mutator left)
      { held = slice_set s.facets.held p.mutator (name_made n s.words p ∷ []) };
}

-- ---- entries that keep their names

-- the entry is stored again, taken or free as it was, and with its generation
pub record KeepsName (n : Numbers) (ws : List ℕ) (x : ℕ) (e : EntryWord) : Type 0 where
  pub within : x < all_entries n
  pub fits : FitsEntry e
  pub taken : e.taken ≡ (entry_of n ws x).taken
  pub generation : e.generation ≡ (entry_of n ws x).generation

-- ---- the collector

-- No cycle runs and one is left; the slots hold no names, and each name that a seat has still to use stands in a root.
pub record MaySnap (n : Numbers) (w : Facts) (s : NameScene) (c : ℕ) : Type 0 where
  pub idle : phase_of n s.words ≡ Idle c
  pub cycle_left : c < w.cycles
  pub slots : (p : Place) (name : Name) → Within n p → IsUseSlot p → FitsName name
      → word_at n s.words p ≡ name_word name → ⊥
  pub rooted : (seat : ℕ) (names : List Name) (name : Name) → slice_get s.facets.held seat ≡ Some names
      → Contains names name
      → StandsInRoot (state_of w s.front.history) name

-- no server has gone over an entry in the cycle, and none has sent a name
pub record NoneIsFreed (n : Numbers) (through : List ℕ) (sent : List (List Name)) : Type 0 where
  pub servers : length through ≡ n.servers
  pub senders : length sent ≡ n.servers
  pub start : (s i : ℕ) → slice_get through s ≡ Some i → i ≡ 0
  pub empty : (s : ℕ) (names : List Name) → slice_get sent s ≡ Some names → names ≡ []

-- The snapshot is taken with the store of Trace, and the collector reads notices from server 0 on.
abbrev pub with_snapshot : Numbers → NameScene → ℕ → List ℕ → List (List Name) → NameScene
with_snapshot n s c through sent = record {
  words = slice_set s.words (index n phase) (phase_word (Trace (c + 1)));
  front = with_point s.front (Snap (c + 1));
  facets = record s.facets { through = through; sent = sent; collector = record { server = 0; names = [] } };
}

-- each server has gone over all its entries, and the collector has read what all of them sent
pub record AllIsRead (n : Numbers) (facets : Facets) : Type 0 where
  pub through : (s i : ℕ) → slice_get facets.through s ≡ Some i → i ≡ own_entries n
  pub read : n.servers ≤ facets.collector.server

-- ---- servers that free

-- in the evacuation of the cycle the server comes to the i-th of its entries
pub record ComesTo (n : Numbers) (s : NameScene) (c server i : ℕ) : Type 0 where
  pub evacuates : phase_of n s.words ≡ Evac c
  pub at : slice_get s.facets.through server ≡ Some i
  pub more : i < own_entries n

-- An entry of another epoch is stored free, with the next generation; the server has sent these names so far, and the
-- collector has not read it to its end.
pub record MayFree (n : Numbers) (s : NameScene) (c server i : ℕ) (sent : List Name) (e : EntryWord) : Type 0 where
  pub taken : (entry_of n s.words (entry_by n server i)).taken ≡ true
  pub epoch : (entry_of n s.words (entry_by n server i)).epoch ≢ c
  pub sent_is : slice_get s.facets.sent server ≡ Some sent
  pub ahead : s.facets.collector.server ≤ server
  pub fits : FitsEntry e
  pub free : e.taken ≡ false
  pub generation : e.generation ≡ (entry_of n s.words (entry_by n server i)).generation + 1

-- The server's entry is free, and its name is on its way to the collector.
abbrev pub with_freed_entry : Numbers → NameScene → (server i : ℕ) → List Name → EntryWord → NameScene
with_freed_entry n s server i sent e =
    let name : Name = name_of (entry_by n server i) (entry_of n s.words (entry_by n server i)).generation in record {
      words = slice_set s.words (index n (entry (entry_by n server i))) (entry_word e);
      front = s.front;
      facets = record s.facets {
        through = slice_set s.facets.through server (i + 1);
        sent = slice_set s.facets.sent server (sent ++ name ∷ []);
      };
    }

-- ---- all kinds

pub data NameStep (n : Numbers) (w : Facts) (s : NameScene) : NameScene → Type 0 where
  -- words are stored in which no name is looked for
  Stores : (us : List ℕ) → LeavesNames n s.words us → NameStep n w s (record s { words = us })
  -- a slot is filled or emptied
  Puts : (p : Place) (v : ℕ) → Within n p → IsUseSlot p → IsGoodWord w s.front.history v
      → NameStep n w s (stored n s p v)
  -- a seat has these names to use, each of them good
  Holds : (seat : ℕ) (names : List Name) → ((name : Name) → Contains names name → IsGood w s.front.history name)
      → NameStep n w s (record s { facets = record s.facets { held = slice_set s.facets.held seat names } })
  -- a mutator goes on with its attempt
  Tries : (m : ℕ) (before after : Trying) → slice_get s.facets.trying m ≡ Some before → AttemptStep n w s m before after
      → NameStep n w s (record s { facets = record s.facets { trying = slice_set s.facets.trying m after } })
  -- a call is decided that makes no name
  Decides : (us : List ℕ) (m : ℕ) (c : Call) (r : Reply) (left : List Call)
      → slice_get s.facets.left m ≡ Some (c ∷ left)
      → Decision n w s m c r → LeavesNames n s.words us
      → NameStep n w s
      (record { words = us; front = with_point s.front (Did m c r); facets = answered s.facets m left })
  -- a `New` publishes its object
  Publishes : (p : Publication) (left : List Call) → MayPublish n w s p left
      → NameStep n w s (with_publication n s p left)
  -- while servers trace, an entry whose name is good gets the cycle's epoch
  Marks : (c x : ℕ) (e : EntryWord) → KeepsName n s.words x e → phase_of n s.words ≡ Trace c → e.epoch ≡ c
      → IsGood w s.front.history (name_of x e.generation) → NameStep n w s (stored n s (entry x) (entry_word e))
  -- an entry gets another address
  Moves : (x : ℕ) (e : EntryWord) → KeepsName n s.words x e → e.epoch ≡ (entry_of n s.words x).epoch
      → NameStep n w s (stored n s (entry x) (entry_word e))
  -- the collector takes a snapshot
  Snaps : (c : ℕ) (through : List ℕ) (sent : List (List Name)) → MaySnap n w s c → NoneIsFreed n through sent
      → NameStep n w s (with_snapshot n s c through sent)
  -- it begins the evacuation: each name that was reachable at the snapshot has the cycle's epoch
  Evacuates : (c : ℕ) → phase_of n s.words ≡ Trace c → AllMarked n s.words w s.front.history c
      → NameStep n w s (stored n s phase (phase_word (Evac c)))
  -- it finishes the cycle, which has freed the names on its list
  Finishes : (c : ℕ) → phase_of n s.words ≡ Evac c → AllIsRead n s.facets
      → NameStep n w s (record s {
        words = slice_set s.words (index n phase) (phase_word (Idle c));
        front = with_cycle s.front s.facets.collector.names;
      })
  -- it stops the heap
  Stops : (c : ℕ) → phase_of n s.words ≡ Idle c → NameStep n w s (stored n s phase (phase_word (Stop c)))
  -- a server goes over an entry that is free, or has the cycle's epoch
  Passes : (c server i : ℕ) → ComesTo n s c server i
      → ((entry_of n s.words (entry_by n server i)).taken ≡ false)
      ⊎ ((entry_of n s.words (entry_by n server i)).epoch ≡ c)
      → NameStep n w s (record s { facets = record s.facets { through = slice_set s.facets.through server (i + 1) } })
  -- it frees an entry of another epoch
  Frees : (c server i : ℕ) (sent : List Name) (e : EntryWord) → ComesTo n s c server i → MayFree n s c server i sent e
      → NameStep n w s (with_freed_entry n s server i sent e)
  -- the collector gets the next name of the server that it reads
  Gets : (c : ℕ) (name : Name) (names : List Name) → phase_of n s.words ≡ Evac c
      → slice_get s.facets.sent s.facets.collector.server ≡ Some (name ∷ names)
      → NameStep n w s (record s {
        facets = record s.facets {
          sent = slice_set s.facets.sent s.facets.collector.server names;
          collector = record s.facets.collector { names = s.facets.collector.names ++ name ∷ [] };
        };
      })
  -- or goes on to the next server, where this one has nothing sent any more
  ReadsOn : (c : ℕ) → phase_of n s.words ≡ Evac c → slice_get s.facets.sent s.facets.collector.server ≡ Some []
      → NameStep n w s
      (record s {
        facets =
            record s.facets { collector = record s.facets.collector { server = suc s.facets.collector.server } };
      })

-- ---- runs

-- The board alone is taken, in cycle 0, and nothing is in use, sent, tried or answered.
pub record IsNameOpening (n : Numbers) (w : Facts) (s : NameScene) : Type 0 where
  pub board : IsInRange w board_name
  pub size : length s.words ≡ total n
  pub front : s.front ≡ opening_front
  pub idle : phase_of n s.words ≡ Idle 0
  pub taken : (entry_of n s.words 0).taken ≡ true
  pub generation : (entry_of n s.words 0).generation ≡ 0
  pub epoch : (entry_of n s.words 0).epoch ≡ 0
  pub others : (x : ℕ) → 0 < x → x < all_entries n → ((entry_of n s.words x).taken ≡ false)
      × ((entry_of n s.words x).generation ≡ 0)
  pub slots : (p : Place) → Within n p → IsUseSlot p → word_at n s.words p ≡ 0
  pub held : (seat : ℕ) (names : List Name) → slice_get s.facets.held seat ≡ Some names → names ≡ []
  pub attempts : (m : ℕ) (known : Trying) → slice_get s.facets.trying m ≡ Some known → known ≡ trying.Nothing
  pub programs : (m : ℕ) (left program : List Call) → slice_get s.facets.left m ≡ Some left
      → slice_get w.programs m ≡ Some program
      → program ≡ left

-- what a heap comes to from its opening by any steps of these kinds
pub data Reached (n : Numbers) (w : Facts) : NameScene → Type 0 where
  Opened : (s : NameScene) → IsNameOpening n w s → Reached n w s
  Stepped : (s after : NameScene) → Reached n w s → NameStep n w s after → Reached n w after
