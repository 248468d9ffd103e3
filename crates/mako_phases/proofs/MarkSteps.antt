-- What entry words do to the marks of old names.
use Rattle.std.proofs.Common.{◌≡◌, ◌≢◌, ℕ, ◌⊎◌, inl, inr, ⊎_elim, List, Contains, length, set, true, false, sym, ap}
use Rattle.std.proofs.Common.{subst, refl, ◌∙◌}
use Rattle.mako_words.specs.declared.name.Name.{Name}
use Rattle.mako_words.specs.declared.entry_word.EntryWord.{EntryWord}
use Rattle.mako_words.specs.Entries.{entry_at}
use Rattle.mako_shape.specs.declared.numbers.Numbers.{Numbers}
use Rattle.mako_shape.specs.Places.{entry, index, Within, word_at, total}
use Rattle.mako_model.specs.declared.point.Point.{Point}
use Rattle.mako_model.specs.Dead.{names_made}
use Rattle.mako_names.specs.Tables.{entry_of}
use Rattle.mako_phases.specs.Marked.{IsMarked}
use Rattle.mako_phases.specs.LiveSteps.{OldMarksStay, OldMarksAdd, EntriesMark}
use Rattle.mako_phases.proofs.Frames.{written}

-- a mark is read of one word alone
pub marked_same : (n : Numbers) (words words' : List ℕ) (cycle : ℕ) (x : Name)
    → word_at n words' (entry x.entry) ≡ word_at n words (entry x.entry)
    → IsMarked n words cycle x → IsMarked n words' cycle x
unfolding entry_of
marked_same n words words' cycle x same marked = record {
  in_range = marked.in_range;
  taken = ap (λ (k : ℕ). (entry_at k).taken) same ∙ marked.taken;
  generation = ap (λ (k : ℕ). (entry_at k).generation) same ∙ marked.generation;
  epoch = ap (λ (k : ℕ). (entry_at k).epoch) same ∙ marked.epoch;
}

entry_written : (n : Numbers) (words : List ℕ) (e v : ℕ) → Within n (entry e) → length words ≡ total n
    → (x : ℕ) → Within n (entry x)
    → ((x ≡ e) × (entry_of n (set words (index n (entry e)) v) x ≡ entry_at v))
    ⊎ ((x ≢ e) × (word_at n (set words (index n (entry e)) v) (entry x) ≡ word_at n words (entry x)))
unfolding entry_of
entry_written n words e v within size x in_x =
    ⊎_elim
    (λ t. let same : x ≡ e = cc (t.0) in inl (same, ap entry_at t.1))
    (λ t. inr ((λ same. t.0 (ap entry same)), t.1))
    (written n words (entry e) v size within (entry x) in_x)

module _ (n : Numbers) (words : List ℕ) (before : List Point) (cycle : ℕ) (size : length words ≡ total n) where
  generation_at : (x : Name) (k : ℕ) → k ≡ x.entry
      → (entry_of n words k).generation ≡ (entry_of n words x.entry).generation
  generation_at x k e = ap (λ (j : ℕ). (entry_of n words j).generation) e

  same_name : (x y : Name) → y.entry ≡ x.entry → y.generation ≡ x.generation → x ≡ y
  same_name x y e g = λ i. record { entry = sym e i; generation = sym g i }

  -- where the entry of one name alone is written
  here_is : (e v : ℕ) → Within n (entry e) → (y : Name) → y.entry ≡ e → Within n (entry y.entry)
      → entry_of n (set words (index n (entry e)) v) y.entry ≡ entry_at v
  here_is e v within y same in_y =
      ⊎_elim (λ t. t.1) (λ t. absurd (t.0 same)) (entry_written n words e v within size y.entry in_y)

  mark_adds : (x : Name) (v : ℕ) → Within n (entry x.entry) → (entry_of n words x.entry).taken ≡ true
      → (entry_of n words x.entry).generation ≡ x.generation
      → entry_at v ≡ record (entry_of n words x.entry) { epoch = cycle }
      → OldMarksAdd n before cycle words (set words (index n (entry x.entry)) v) x
  mark_adds x v within taken generation is y old =
      (there, (λ c. ⊎_elim back (λ e. subst (IsMarked n after cycle) e marked) c))
    where
      after : List ℕ
      after = set words (index n (entry x.entry)) v

      here : entry_of n after x.entry ≡ record (entry_of n words x.entry) { epoch = cycle }
      here = here_is x.entry v within x refl within ∙ is

      marked : IsMarked n after cycle x
      marked = record {
        in_range = within;
        taken = ap (λ (k : EntryWord). k.taken) here ∙ taken;
        generation = ap (λ (k : EntryWord). k.generation) here ∙ generation;
        epoch = ap (λ (k : EntryWord). k.epoch) here;
      }

      there : IsMarked n after cycle y → IsMarked n words cycle y ⊎ (x ≡ y)
      there m = ⊎_elim
          (λ t. inr
          (same_name x y t.0 (sym m.generation ∙ ap (λ (k : EntryWord). k.generation) (t.1 ∙ is) ∙ generation)))
          (λ t. inl (marked_same n after words cycle y (sym t.1) m))
          (entry_written n words x.entry v within size y.entry m.in_range)

      back : IsMarked n words cycle y → IsMarked n after cycle y
      back m = ⊎_elim
          (λ t. subst (IsMarked n after cycle)
          (same_name x y t.0 (sym m.generation ∙ generation_at x y.entry t.0 ∙ generation)) marked)
          (λ t. marked_same n words after cycle y t.1 m)
          (entry_written n words x.entry v within size y.entry m.in_range)

  publish_stays : (x : Name) (v : ℕ) → Within n (entry x.entry) → (entry_of n words x.entry).taken ≡ false
      → (¬ Contains (names_made before) x) → (entry_at v).generation ≡ x.generation
      → OldMarksStay n before cycle words (set words (index n (entry x.entry)) v)
  publish_stays x v within free new generation y old = (
    (λ m. ⊎_elim
        (λ t. absurd
        (new (subst (Contains (names_made before))
        (sym (same_name x y t.0 (sym m.generation ∙ ap (λ (k : EntryWord). k.generation) t.1 ∙ generation))) old)))
        (λ t. marked_same n (set words (index n (entry x.entry)) v) words cycle y (sym t.1) m)
        (entry_written n words x.entry v within size y.entry m.in_range)),
    (λ m. ⊎_elim
        (λ t. absurd (no_true (sym m.taken ∙ ap (λ (j : ℕ). (entry_of n words j).taken) t.0 ∙ free)))
        (λ t. marked_same n words (set words (index n (entry x.entry)) v) cycle y t.1 m)
        (entry_written n words x.entry v within size y.entry m.in_range)),
  )
    where
      no_true : true ≡ false → ⊥
      no_true e = cc

  move_stays : (e v address : ℕ) → Within n (entry e) → entry_at v ≡ record (entry_of n words e) { address = address }
      → OldMarksStay n before cycle words (set words (index n (entry e)) v)
  move_stays e v address within is y old = (
    (λ m. ⊎_elim
        (λ t.
        let same : entry_of n (set words (index n (entry e)) v) y.entry ≡ record (entry_of n words y.entry)
        { address = address } =
        t.1 ∙ is ∙ ap (λ (j : ℕ). record (entry_of n words j) { address = address }) (sym t.0) in record {
          in_range = m.in_range;
          taken = sym (ap (λ (k : EntryWord). k.taken) same) ∙ m.taken;
          generation = sym (ap (λ (k : EntryWord). k.generation) same) ∙ m.generation;
          epoch = sym (ap (λ (k : EntryWord). k.epoch) same) ∙ m.epoch;
        })
        (λ t. marked_same n (set words (index n (entry e)) v) words cycle y (sym t.1) m)
        (entry_written n words e v within size y.entry m.in_range)),
    (λ m. ⊎_elim
        (λ t.
        let same : entry_of n (set words (index n (entry e)) v) y.entry ≡ record (entry_of n words y.entry)
        { address = address } =
        t.1 ∙ is ∙ ap (λ (j : ℕ). record (entry_of n words j) { address = address }) (sym t.0) in record {
          in_range = m.in_range;
          taken = ap (λ (k : EntryWord). k.taken) same ∙ m.taken;
          generation = ap (λ (k : EntryWord). k.generation) same ∙ m.generation;
          epoch = ap (λ (k : EntryWord). k.epoch) same ∙ m.epoch;
        })
        (λ t. marked_same n words (set words (index n (entry e)) v) cycle y t.1 m)
        (entry_written n words e v within size y.entry m.in_range)),
  )

  pub entries_mark : EntriesMark n words before cycle
  entries_mark = record { mark = mark_adds; publish = publish_stays; move = move_stays }
