-- Values that fit, and records by their addresses: what tracing asks of the heap.
use Rattle.std.proofs.Common.{◌≡◌, ℕ, zero, suc, ◌+◌, ◌*◌, ◌<◌, ◌≤◌, ◌^◌, List, [], ◌∷◌, length, map, slice_get}
use Rattle.std.proofs.Common.{slice_index, get_or, Some, sym, ap, subst, refl, ◌∙◌, arith}
use Rattle.std.proofs.lemmas.Option.{same_Some}
use Rattle.mako_words.specs.declared.name.Name.{Name}
use Rattle.mako_words.specs.declared.value.Value.{Value}
use Rattle.mako_words.specs.Entries.{entry_at}
use Rattle.mako_words.specs.Values.{value_word}
use Rattle.mako_shape.specs.declared.numbers.Numbers.{Numbers}
use Rattle.mako_shape.specs.Limits.{all_entries}
use Rattle.mako_shape.specs.Places.{entry, region_word, index, word_at}
use Rattle.mako_shape.proofs.BelongingLaws.{word_after}
use Rattle.mako_model.specs.Heaps.{Heap, fields_of}
use Rattle.mako_model.specs.Laws.{NamesFit}
use Rattle.mako_model.specs.Legal.{Facts, state_of}
use Rattle.mako_model.proofs.Fitting.{heap_fits}
use Rattle.mako_ring.specs.Shades.{entry_of}
use Rattle.mako_names.specs.Tables.{IsTaken}
use Rattle.mako_shades.specs.Stands.{RecordStands, RecordsStand}
use Rattle.mako_shades.proofs.Heaps.{heap_stands}
use Rattle.mako_shades.proofs.Taken.{taken_word, taken_generation}
use Rattle.mako_layout.specs.Evacuations.{layout, record_words, Stand, State, IsRecordOf}
use Rattle.mako_joint.specs.Joints.{JointScene, names_in, layout_in, Joint}
use Rattle.mako_joint.specs.Bridges.{ValuesFitTheirWords, HeapsStand}

-- ---- values

few_names : (n : Numbers) (w : Facts) (s : JointScene) → Joint n w s → NamesFit w
few_names n w s j =
    let facts = j.script.facts in
    let entries = j.script.shape.entries in
    let few = facts.few_generations in
    let same : w.tablets * w.entries ≡ all_entries n = (λ i. facts.tablets i * facts.entries i) in
    record { entries = omega arith; generations = omega arith }

pub values_fit : ValuesFitTheirWords
values_fit n w s j =
    let answers = j.names.hold.answers in
    let fits = heap_fits w s.front j.script.programs (few_names n w s j) answers.lawful answers.programs in
    record { fields = fits.0; roots = fits.1 }

-- ---- a record by its address

-- a word of a record
words_at : (fields : List Value) (i : ℕ) (v : Value) → slice_get fields i ≡ Some v
    → get_or (record_words fields) (suc i) 0 ≡ value_word v
words_at fields i v at = mapped fields i v at
  where
    mapped : (fields : List Value) (i : ℕ) (v : Value) → slice_get fields i ≡ Some v
        → get_or (map value_word fields) i 0 ≡ value_word v
    mapped [] i v at = absurd (let b : ⊥ = cc in b)
    mapped (u ∷ us) zero v at = ap value_word (same_Some u v at)
    mapped (u ∷ us) (suc i) v at = mapped us i v at

index_after : (n : Numbers) (r o k : ℕ) → index n (region_word r (o + k)) ≡ index n (region_word r o) + k
index_after n r o k = let a = word_after n r (o + k) in let b = word_after n r o in omega arith

pub below : (fields : List Value) (i : ℕ) (v : Value) → slice_get fields i ≡ Some v → i < length fields
below [] i v at = absurd (let b : ⊥ = cc in b)
below (u ∷ us) zero v at = omega arith
below (u ∷ us) (suc i) v at = let l = below us i v at in omega arith

module _ (n : Numbers) (ws : List ℕ) (r o : ℕ) (fields : List Value) (address : ℕ)
    (is : index n (region_word r o) ≡ address)
    (words : Stand (λ p. word_at n ws p) r o (length fields + 1) (λ i. get_or (record_words fields) i 0)) where
  pub header_at : slice_index ws address ≡ length fields
  header_at =
      let same : index n (region_word r (o + 0)) ≡ address =
      index_after n r o 0 ∙ (let d : index n (region_word r o) + 0 ≡ address = omega arith in d) in
      ap (slice_index ws) (sym same) ∙ words 0 (omega arith)

  pub field_at : (i : ℕ) (v : Value) → slice_get fields i ≡ Some v → slice_index ws (address + 1 + i) ≡ value_word v
  field_at i v at =
      let low = below fields i v at in
      let same : index n (region_word r (o + suc i)) ≡ address + 1 + i =
      index_after n r o (suc i) ∙ (let d : index n (region_word r o) + suc i ≡ address + 1 + i = omega arith in d) in
      ap (slice_index ws) (sym same) ∙ words (suc i) (omega arith) ∙ words_at fields i v at

-- the two names of a taken entry
same_name : (x : Name) (g : ℕ) → g ≡ x.generation → record { entry = x.entry; generation = g } ≡ x
same_name x g e = λ i. record { entry = x.entry; generation = e i }

records_stand : (n : Numbers) (w : Facts) (s : JointScene) → Joint n w s → RecordsStand n w s.words s.front.history
records_stand n w s j x fields taken are =
    let h : Heap = state_of w s.front.history in
    let l = layout n (layout_in n w s) in
    let slot = l.slot x.entry in
    let c = j.layout.records x.entry taken.within (taken_word n s.words x.entry x.generation taken) in
    let here : fields_of h x ≡ Some c.fields =
    subst (λ k. fields_of h k ≡ Some c.fields)
    (same_name x (entry_at (word_at n s.words (entry x.entry))).generation
    (taken_generation n s.words x.entry x.generation taken)) c.are in
    let same : c.fields ≡ fields = same_Some c.fields fields (sym here ∙ are) in
    let address : ℕ = (entry_of n s.words x.entry).address in
    let stands : RecordStands s.words address c.fields = record {
      header = header_at n s.words slot.region slot.offset c.fields address c.address c.words;
      each = λ i v is. (
        field_at n s.words slot.region slot.offset c.fields address c.address c.words i v is,
        (values_fit n w s j).fields x c.fields i v here is,
      );
    } in
    subst (RecordStands s.words address) same stands

pub heaps_stand : HeapsStand
heaps_stand n w s j =
    let few = j.script.shape.entries in
    heap_stands n w (names_in s) j.script.facts (omega arith) j.names (records_stand n w s j)
