-- What a change of one entry does to taken entries and to old marks.
use Rattle.std.proofs.Common.{◌≡◌, ℕ, ◌⊎◌, inl, inr, ⊎_elim, true, false, List, Contains, length, set, sym, ap, ◌∙◌}
use Rattle.mako_words.specs.declared.name.Name.{Name}
use Rattle.mako_words.specs.declared.entry_word.EntryWord.{EntryWord}
use Rattle.mako_words.specs.declared.phase_word.PhaseWord.TheVariants.{Trace}
use Rattle.mako_words.specs.Entries.{entry_at}
use Rattle.mako_shape.specs.declared.numbers.Numbers.{Numbers}
use Rattle.mako_shape.specs.Places.{entry, index, Within, word_at, total}
use Rattle.mako_model.specs.declared.point.Point.{Point}
use Rattle.mako_model.specs.Dead.{names_made}
use Rattle.mako_names.specs.Tables.{entry_of, phase_of}
use Rattle.mako_phases.specs.LiveSteps.{OldMarksStay}
use Rattle.mako_phases.specs.Snapshots.{before_snap}
use Rattle.mako_phases.proofs.Frames.{written}
use Rattle.mako_phases.proofs.MarkSteps.{marked_same, entries_mark}
use Rattle.mako_joint.specs.Joints.{JointScene}
use Rattle.mako_mutator.specs.Drivers.{Driving}
use Rattle.mako_mutating.specs.Mutators.{stepped}

-- an entry that is taken keeps its generation and its epoch
pub record TakenStays (n : Numbers) (words after : List ℕ) (x : ℕ) : Type 0 where
  pub taken : (entry_of n after x).taken ≡ true
  pub generation : (entry_of n after x).generation ≡ (entry_of n words x).generation
  pub epoch : (entry_of n after x).epoch ≡ (entry_of n words x).epoch

abbrev pub TakenEntriesStay : Numbers → JointScene → ℕ → Driving → Type 0
TakenEntriesStay n s m d = (x : ℕ) → Within n (entry x) → (entry_of n s.words x).taken ≡ true
    → TakenStays n s.words (stepped s m d).words x

-- while servers trace, no name from before the snapshot is marked by the step
abbrev pub OldMarksAreLeft : Numbers → JointScene → ℕ → Driving → Type 0
OldMarksAreLeft n s m d = (cycle : ℕ) → phase_of n s.words ≡ Trace cycle
    → OldMarksStay n (before_snap cycle s.front.history) cycle s.words (stepped s m d).words

-- no entry changes; or one gets the address of its record's copy; or a free one gets a name that is not made yet
pub data EntryChange (n : Numbers) (history : List Point) (words : List ℕ) : List ℕ → Type 0 where
  Still : (us : List ℕ) → ((x : ℕ) → Within n (entry x) → word_at n us (entry x) ≡ word_at n words (entry x))
      → EntryChange n history words us
  Moves : (e v address : ℕ) → Within n (entry e) → entry_at v ≡ record (entry_of n words e) { address = address }
      → EntryChange n history words (set words (index n (entry e)) v)
  Makes : (x : Name) (v : ℕ) → Within n (entry x.entry) → (entry_of n words x.entry).taken ≡ false
      → (Contains (names_made history) x → ⊥) → (entry_at v).generation ≡ x.generation
      → EntryChange n history words (set words (index n (entry x.entry)) v)

-- an entry once one of them is written
entry_written : (n : Numbers) (words : List ℕ) (e v : ℕ) → Within n (entry e) → length words ≡ total n
    → (x : ℕ) → Within n (entry x)
    → ((x ≡ e) × (entry_of n (set words (index n (entry e)) v) x ≡ entry_at v))
    ⊎ (word_at n (set words (index n (entry e)) v) (entry x) ≡ word_at n words (entry x))
unfolding entry_of
entry_written n words e v within size x in_x =
    ⊎_elim (λ t. let same : x ≡ e = cc (t.0) in inl (same, ap entry_at t.1)) (λ t. inr t.1)
    (written n words (entry e) v size within (entry x) in_x)

no_true : true ≡ false → ⊥
no_true e = cc

module _ (n : Numbers) (history : List Point) (words : List ℕ) (size : length words ≡ total n) where
  same_stays : (us : List ℕ) (x : ℕ) → word_at n us (entry x) ≡ word_at n words (entry x)
      → (entry_of n words x).taken ≡ true → TakenStays n words us x
  unfolding entry_of
  same_stays us x same taken = record {
    taken = ap (λ (v : ℕ). (entry_at v).taken) same ∙ taken;
    generation = ap (λ (v : ℕ). (entry_at v).generation) same;
    epoch = ap (λ (v : ℕ). (entry_at v).epoch) same;
  }

  -- a taken entry keeps its generation and its epoch
  pub taken_stays : (us : List ℕ) → EntryChange n history words us → (x : ℕ) → Within n (entry x)
      → (entry_of n words x).taken ≡ true → TakenStays n words us x
  taken_stays _ (Still us same) x within taken = same_stays us x (same x within) taken
  taken_stays _ (Moves e v address there is) x within taken =
      ⊎_elim
      (λ t.
      let now : entry_of n (set words (index n (entry e)) v) x ≡ record (entry_of n words x) { address = address } =
      t.1 ∙ is ∙ ap (λ (j : ℕ). record (entry_of n words j) { address = address }) (sym t.0) in record {
        taken = ap (λ (k : EntryWord). k.taken) now ∙ taken;
        generation = ap (λ (k : EntryWord). k.generation) now;
        epoch = ap (λ (k : EntryWord). k.epoch) now;
      })
      (λ t. same_stays (set words (index n (entry e)) v) x t taken)
      (entry_written n words e v there size x within)
  taken_stays _ (Makes y v there free new is) x within taken =
      ⊎_elim
      (λ t. absurd (no_true (sym taken ∙ ap (λ (j : ℕ). (entry_of n words j).taken) t.0 ∙ free)))
      (λ t. same_stays (set words (index n (entry y.entry)) v) x t taken)
      (entry_written n words y.entry v there size x within)

  -- and no name that was made before is marked by the change
  pub marks_stay : (us : List ℕ) → EntryChange n history words us → (before : List Point) (cycle : ℕ)
      → ((x : Name) → Contains (names_made before) x → Contains (names_made history) x)
      → OldMarksStay n before cycle words us
  marks_stay _ (Still us same) before cycle made y old = (
    λ m. marked_same n us words cycle y (sym (same y.entry m.in_range)) m,
    λ m. marked_same n words us cycle y (same y.entry m.in_range) m,
  )
  marks_stay _ (Moves e v address there is) before cycle made y old =
      (entries_mark n words before cycle size).move e v address there is y old
  marks_stay _ (Makes x v there free new is) before cycle made y old =
      (entries_mark n words before cycle size).publish x v there free (λ c. new (made x c)) is y old
