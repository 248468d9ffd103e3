-- The numbers of a job stay in their ranges.
use Rattle.std.proofs.Common.{◌≡◌, ℕ, zero, suc, ◌+◌, ◌*◌, ◌-◌, ◌<◌, ◌≤◌, mul-pos, arith}
use Rattle.std.proofs.Math.Nat.{suc-mul}
use Rattle.mako_alloc.specs.Causes.{RankIsSmall}
use Rattle.std.proofs.lemmas.Nat.{mod_below}
use Rattle.mako_words.specs.Gates.{IsPackedGate}
use Rattle.mako_words.proofs.GateWords.{gate_forms}
use Rattle.mako_shape.specs.declared.numbers.Numbers.{Numbers}
use Rattle.mako_shape.specs.Limits.{IsShape, all_entries}
use Rattle.mako_shape.specs.Places.{index, total, region_word}
use Rattle.mako_shape.proofs.Rows.{row-below}
use Rattle.mako_shape.proofs.PlaceLaws.{index_below}
use Rattle.mako_shape.proofs.BelongingLaws.{word_after}
use Rattle.mako_alloc.specs.declared.job.Job.{Job}
use Rattle.mako_alloc.specs.declared.progress.NewRecord.{NewRecord}
use Rattle.mako_alloc.specs.Allocating.{IsJob, IsRecord, all_tablets, tablet_at, record_word}

-- there is a tablet
pub some_tablet : (n : Numbers) → IsShape n → 0 < all_tablets n
some_tablet n h = mul-pos h.in_range.each.2.0 h.in_range.each.2.2.0

-- the tablet that it is at is one that there is
pub tablet_below : (job : Job) (passed : ℕ) → IsJob job → tablet_at job passed < all_tablets job.shape
tablet_below job passed h = mod_below (job.mutator + passed) (all_tablets job.shape) (some_tablet job.shape h.shape)

-- an entry of a tablet is one of all tablets
pub entry_below : (n : Numbers) (t place : ℕ) → t < all_tablets n → place < n.entries →
    t * n.entries + place < all_entries n
entry_below n t place h k = row-below t n.entries place (n.servers * n.tablets) h k

-- a word of a record, from the first word of its region on
pub record_word_index : (n : Numbers) (made : NewRecord) (place : ℕ) →
    index n (region_word made.home 0) + made.top + place ≡ record_word n made place
record_word_index n made place = omega (arith, word_after n made.home (made.top + place))

-- the words of a record are words of the heap
pub record_word-below : (job : Job) (made : NewRecord) (place : ℕ) → IsRecord job made → place ≤ job.fields →
    record_word job.shape made place < total job.shape
record_word-below job made place h k =
    index_below job.shape (region_word made.home (made.top + place)) (h.home, omega (arith, h.room))

tablets_apart : (tablets entries fields : ℕ) → 0 < tablets → fields ≤ 14 →
    (tablets - 1) * (entries + 6) + (entries + fields + 8) ≤ tablets * (entries + 6) + 20
tablets_apart zero entries fields some few = absurd (omega arith)
tablets_apart (suc rest) entries fields some few =
    let one_less : suc rest - 1 ≡ rest = omega arith in
    rw one_less (omega (arith, suc-mul rest (entries + 6)))

-- from the beginning it takes few steps
pub rank_is_small : RankIsSmall
rank_is_small job h =
    tablets_apart (all_tablets job.shape) job.shape.entries job.fields (some_tablet job.shape h.shape) h.fields

-- the words of gates are those below two shut bits
pub small_is_gate : (w : ℕ) → w < 131072 → IsPackedGate w
small_is_gate w h = (gate_forms w).1 h

pub gate_is_small : (w : ℕ) → IsPackedGate w → w < 131072
gate_is_small w h = (gate_forms w).0 h
