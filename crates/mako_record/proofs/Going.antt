-- A step of a copy keeps its numbers in their ranges, and lowers its rank.
use Rattle.std.proofs.Common.{◌≡◌, ℕ, ◌+◌, ◌-◌, ◌*◌, ◌<◌, if◌then◌else◌, refl, arith}
use Rattle.mako_words.specs.declared.entry_word.EntryWord.{EntryWord}
use Rattle.mako_shape.specs.declared.numbers.Numbers.{Numbers}
use Rattle.mako_step.specs.Machines.{IsAct}
use Rattle.mako_record.specs.declared.copier.CopyStage.{CopyStage}
use Rattle.mako_record.specs.declared.copier.CopyStage.TheVariants.{LoadingTop, LoadingHeader, StoringHeader}
use Rattle.mako_record.specs.declared.copier.CopyStage.TheVariants.{LoadingField, StoringField, StoringEntry}
use Rattle.mako_record.specs.declared.copier.CopyStage.TheVariants.{RaisingTop, Ended}
use Rattle.mako_record.specs.Copying.{Copying, next_of, copy_next, before_field, stage_fed, fed, StageFits, Fits}
use Rattle.mako_record.specs.Copying.{stage_rank, rank, CopyFits, StageIsKnown, IsKnown}
use Rattle.mako_step.proofs.Cases.{by_lt}
use Rattle.mako_record.proofs.Targets.{region_address}

-- a stage that is known, of a lower rank
pub record GoesOn (n : Numbers) (e : EntryWord) (r : ℕ) (stage : CopyStage) : Type 0 where
  pub known : StageIsKnown n e stage
  pub lower : stage_rank stage < r

field_goes : (n : Numbers) (e : EntryWord) (offset fields field r : ℕ) → CopyFits n e offset fields → 2 < r
    → (field < fields → 2 * (fields - field) + 2 < r) →
    GoesOn n e r (before_field offset fields field)
field_goes n e offset fields field r fits two more =
    by_lt (λ b. GoesOn n e r (if b then LoadingField offset fields field else StoringEntry offset fields)) field fields
    (λ l. record { known = (fits, l); lower = more l })
    (λ _. record { known = fits; lower = two })

stage_goes : (c : Copying) (w : ℕ) (s : CopyStage) → c.stage ≡ s → IsKnown c → StageIsKnown c.shape c.entry s
    → StageFits c.shape c.entry s w →
    IsAct (copy_next c.shape c.number c.entry c.home s)
    → GoesOn c.shape c.entry (stage_rank s) (stage_fed c.shape c.home s w)
stage_goes c w LoadingTop at k known fits acts = record { known = fits; lower = omega arith }
stage_goes c w (LoadingHeader offset) at k known fits acts = record {
  known = record { few = fits.0; inside = fits.1; room = fits.2 };
  lower = (let few = fits.0 in omega arith);
}
stage_goes c w (StoringHeader offset fields) at k known fits acts =
    field_goes c.shape c.entry offset fields 0 (2 * fields + 3) known (omega arith) (λ l. omega arith)
stage_goes c w (LoadingField offset fields field) at k known fits acts = record { known = known; lower = omega arith }
stage_goes c w (StoringField offset fields field word) at k known fits acts =
    let l = known.1 in field_goes c.shape c.entry offset fields (field + 1) (2 * (fields - field) + 1) known.0
    (omega arith) (λ m. omega arith)
stage_goes c w (StoringEntry offset fields) at k known fits acts = record { known = known; lower = omega arith }
stage_goes c w (RaisingTop offset fields) at k known fits acts =
    let room = known.room in
    record { known = region_address c.shape c.home offset k.home (omega arith); lower = omega arith }
stage_goes c w (Ended address) at k known fits acts = absurd acts

pub copy_goes : (c : Copying) (w : ℕ) → IsKnown c → Fits c w → IsAct (next_of c)
    → GoesOn c.shape c.entry (rank c) (fed c w).stage
copy_goes c w k fits acts = stage_goes c w c.stage refl k k.stage fits acts

-- the copy after a step is known
pub copy_known : (c : Copying) (w : ℕ) → IsKnown c → Fits c w → IsAct (next_of c) → IsKnown (fed c w)
copy_known c w k fits acts = record {
  shape = k.shape;
  number = k.number;
  fits = k.fits;
  address = k.address;
  home = k.home;
  stage = (copy_goes c w k fits acts).known;
}
