-- What a view finds at the place that it uses.
use Rattle.std.proofs.Common.{◌≡◌, ℕ, ◌+◌, ◌<◌, length, slice_get, get_or, slice_index, Some, sym, ap, subst, refl, ◌∙◌}
use Rattle.std.proofs.Common.{arith}
use Rattle.mako_words.specs.declared.name.Name.{Name}
use Rattle.mako_words.specs.declared.value.Value.{Value}
use Rattle.mako_words.specs.declared.value.Value.TheVariants.{Ref}
use Rattle.mako_words.specs.Values.{value_at}
use Rattle.mako_words.proofs.ValueWords.{value_at-value_word}
use Rattle.mako_shape.specs.declared.numbers.Numbers.{Numbers}
use Rattle.mako_shape.specs.Places.{entry, region_word, index, Within, word_at}
use Rattle.mako_shape.proofs.BelongingLaws.{word_after}
use Rattle.mako_gate.specs.Standings.{GateFacet}
use Rattle.mako_model.specs.Heaps.{fields_of, root_of}
use Rattle.mako_model.specs.Legal.{Facts, state_of}
use Rattle.mako_names.specs.Tables.{IsTaken, entry_of}
use Rattle.mako_names.proofs.Good.{root_is_good}
use Rattle.mako_names.proofs.Telling.{good_are_taken}
use Rattle.mako_shades.proofs.Taken.{taken_generation}
use Rattle.mako_layout.specs.Facets.{uses}
use Rattle.mako_layout.specs.Evacuations.{layout, name_of, record_words, Stand, State, Seat, Uses, IsRecordOf}
use Rattle.mako_layout.proofs.Frames.{record_within}
use Rattle.mako_layout.proofs.Stays.{size_is}
use Rattle.mako_joint.specs.Joints.{JointScene, names_in, layout_in, Joint}
use Rattle.mako_joint.specs.Bridges.{IsPresentRecord, UsedRecordsArePresent}
use Rattle.mako_joint.proofs.Heaps.{header_at, field_at, values_fit}

module _ (n : Numbers) (w : Facts) (s : JointScene) (j : Joint n w s) (m q r o : ℕ) (object : Name) (g : GateFacet)
    (seat : Seat (layout_in n w s) m g (uses object.entry r o))
    (root_is : root_of (state_of w s.front.history) m q ≡ Some (Ref object)) where
  abbrev st : State
  st = layout_in n w s

  abbrev x : ℕ
  x = object.entry

  pub knows : Uses n (layout n st) g x r o
  knows = j.layout.knows m g (uses x r o) seat.gate seat.work

  pub rec : IsRecordOf n st.words st.heap x ((layout n st).slot x)
  rec = j.layout.records x knows.inside knows.taken

  -- the name that the root holds is that of the entry
  pub named : name_of x (st.words (entry x)) ≡ object
  named =
      let is : IsTaken n s.words x object.generation =
      good_are_taken n w (names_in s) x object.generation j.script.facts j.names
      (root_is_good w s.front.history m q object j.names.hold.answers.lawful.legal root_is) in
      let same = taken_generation n s.words x object.generation is in
      λ i. record { entry = x; generation = same i }

  object_is : fields_of (state_of w s.front.history) object ≡ Some rec.fields
  object_is = subst (λ k. fields_of (state_of w s.front.history) k ≡ Some rec.fields) named rec.are

  address_is : index n (region_word r o) ≡ (entry_of n s.words x).address
  unfolding entry_of
  address_is = (λ i. index n (region_word (sym knows.region i) (sym knows.offset i))) ∙ rec.address

  words_are : Stand st.words r o (length rec.fields + 1) (λ i. get_or (record_words rec.fields) i 0)
  words_are i l =
      (λ k. st.words (region_word (sym knows.region k) (sym knows.offset k + i))) ∙ rec.words i l

  index_of_field : (i : ℕ) → index n (region_word r (o + (1 + i))) ≡ index n (region_word r o) + 1 + i
  index_of_field i =
      let a = word_after n r (o + (1 + i)) in let b = word_after n r o in omega arith

  pub there : IsPresentRecord n w s m q object r o
  there = record {
    fields = rec.fields;
    refers = record { root_is = root_is; fields_are = object_is };
    address = address_is;
    header = header_at n s.words r o rec.fields (index n (region_word r o)) refl words_are;
    each = λ i v at.
        ap (λ k. value_at (slice_index s.words k)) (index_of_field i)
        ∙ ap value_at (field_at n s.words r o rec.fields (index n (region_word r o)) refl words_are i v at)
        ∙ value_at-value_word v ((values_fit n w s j).fields object rec.fields i v object_is at);
  }

  pub field_within : (i : ℕ) → i < length there.fields → Within n (region_word r (o + (1 + i)))
  unfolding there
  field_within i low =
      let size = size_is n st.words st.heap x rec in
      let within =
      record_within n (layout n st) j.layout.copy x r (o + (1 + i)) knows.inside
      (record {
        taken = knows.taken;
        region = knows.region;
        low = omega (arith, knows.offset);
        high = omega (arith, knows.offset, size);
      }) in
      (within.0, within.1)

pub present_record : UsedRecordsArePresent
present_record n w s j m q r o object g seat root_is = there n w s j m q r o object g seat root_is
