-- What a copy writes: words of the home region, the entry, and the top of its tablet.
use Rattle.std.proofs.Common.{ℕ, ◌+◌, ◌*◌, ◌<◌, subst, arith}
use Rattle.mako_words.specs.declared.entry_word.EntryWord.{EntryWord}
use Rattle.mako_shape.specs.declared.numbers.Numbers.{Numbers}
use Rattle.mako_shape.specs.Places.{Place, top, entry, region_word, Within, index}
use Rattle.mako_shape.specs.Belongings.{tablet_of_entry}
use Rattle.mako_shape.proofs.BelongingLaws.{belongings_in_range, word_after}
use Rattle.mako_step.specs.Acts.{does}
use Rattle.mako_step.specs.declared.act.Op.TheVariants.{Store}
use Rattle.mako_record.specs.Copying.{StageIsKnown, copied_to, copy_next}
use Rattle.mako_record.specs.declared.copier.CopyStage.{CopyStage}
use Rattle.mako_record.specs.declared.copier.CopyStage.TheVariants.{LoadingTop, LoadingHeader, StoringHeader}
use Rattle.mako_record.specs.declared.copier.CopyStage.TheVariants.{LoadingField, StoringField, StoringEntry}
use Rattle.mako_record.specs.declared.copier.CopyStage.TheVariants.{RaisingTop, Ended}
use Rattle.mako_writes.proofs.Touching.{Leaves, looks, at_place, ends}

module _ (n : Numbers) (Writes : Place → Type 0) (records : (r o : ℕ) → Writes (region_word r o)) (x : ℕ)
    (there : Within n (entry x)) (writes_entry : Writes (entry x)) (writes_top : Writes (top (tablet_of_entry n x)))
    (e : EntryWord) (home : ℕ) (is_home : home < n.servers * (n.tablets + n.spare)) where
  stored : (o v : ℕ) → o < n.words → Leaves n Writes (does (copied_to n home o) (Store v))
  stored o v low = subst (λ i. Leaves n Writes (does i (Store v))) (word_after n home o)
      (at_place n Writes (region_word home o) (Store v) (is_home, low) (records home o))

  pub copies : (s : CopyStage) → StageIsKnown n e s → Leaves n Writes (copy_next n x e home s)
  copies LoadingTop k = looks n Writes (index n (top (tablet_of_entry n x)))
  copies (LoadingHeader offset) k = looks n Writes e.address
  copies (StoringHeader offset fields) k =
      stored offset fields (let room = k.room in let low : offset < n.words = omega arith in low)
  copies (LoadingField offset fields field) k = looks n Writes (e.address + 1 + field)
  copies (StoringField offset fields field word) k =
      stored (offset + 1 + field) word
      (let room = k.0.room in let less = k.1 in let low : offset + 1 + field < n.words = omega arith in low)
  copies (StoringEntry offset fields) k = at_place n Writes (entry x) _ there writes_entry
  copies (RaisingTop offset fields) k =
      at_place n Writes (top (tablet_of_entry n x)) _ (belongings_in_range.entry n x there) writes_top
  copies (Ended address) k = ends n Writes
