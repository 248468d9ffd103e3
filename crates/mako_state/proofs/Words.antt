-- Words after an act, and what a store at one place leaves alone.
use Rattle.std.proofs.Common.{◌≡◌, ◌≢◌, ℕ, ◌<◌, List, length, set, sym, ap}
use Rattle.std.proofs.lemmas.List.{set-get_or}
use Rattle.mako_shape.specs.declared.numbers.Numbers.{Numbers}
use Rattle.mako_shape.specs.Places.{Place, phase, mutator_gate, root, tablet_gate, turn, home, top, leaving, entry}
use Rattle.mako_shape.specs.Places.{region_word, area_of, index, total, Within, word_at}
use Rattle.mako_shape.proofs.PlaceLaws.{word_same, word_other}
use Rattle.mako_step.specs.Acts.{words_after}
use Rattle.mako_step.specs.declared.act.Op.TheVariants.{Load}
use Rattle.mako_gate.specs.Changes.{Sets, LeavesGates}
use Rattle.mako_layout.specs.Frames.{LeavesLayout}

-- a load leaves the words
pub load_back : (ws : List ℕ) (i : ℕ) → words_after (record { word = i; op = Load }) ws ≡ ws
load_back ws i = set-get_or ws i 0

-- a store sets the word at one place
pub sets_words : (n : Numbers) (ws : List ℕ) → length ws ≡ total n → (p : Place) (x : ℕ) → Within n p →
    Sets n (word_at n ws) (word_at n (set ws (index n p) x)) p x
sets_words n ws size p x h = record { here = word_same n ws p x size h; others = λ q k d. word_other n ws p q x h k d }

-- ---- a store at another place than a root leaves the roots
pub same_roots : (n : Numbers) (ws : List ℕ) (p : Place) (v : ℕ) → Within n p → area_of p ≢ 4 → (m q : ℕ) →
    m < n.mutators → q < n.roots →
    word_at n (set ws (index n p) v) (root m q) ≡ word_at n ws (root m q)
same_roots n ws p v within other m q low in_row = word_other n ws p (root m q) v within (low, in_row)
    (λ e. other (sym (ap area_of e)))

-- ---- what layouts and gates read

-- a store that changes neither where records lie, nor tops and leavings, nor a record
pub record IsOffLayout (p : Place) : Type 0 where
  pub not_phase : area_of p ≢ 0
  pub not_home : area_of p ≢ 12
  pub not_top : area_of p ≢ 13
  pub not_leaving : area_of p ≢ 14
  pub not_entry : area_of p ≢ 16
  pub not_region : area_of p ≢ 17

pub stored_off_layout : (n : Numbers) (ws : List ℕ) (p : Place) (v : ℕ) → Within n p → IsOffLayout p →
    LeavesLayout n (λ q. word_at n ws q) (λ q. word_at n (set ws (index n p) v) q)
stored_off_layout n ws p v within off = record {
  table = record {
    phase = word_other n ws p phase v within tt (λ e. off.not_phase (sym (ap area_of e)));
    entries = λ x l. word_other n ws p (entry x) v within l (λ e. off.not_entry (sym (ap area_of e)));
    homes = λ t l. word_other n ws p (home t) v within l (λ e. off.not_home (sym (ap area_of e)));
    tops = λ t l. word_other n ws p (top t) v within l (λ e. off.not_top (sym (ap area_of e)));
    leavings = λ t l. word_other n ws p (leaving t) v within l (λ e. off.not_leaving (sym (ap area_of e)));
  };
  regions = λ r a l k. word_other n ws p (region_word r a) v within (l, k) (λ e. off.not_region (sym (ap area_of e)));
}

pub stored_off_gates : (n : Numbers) (ws : List ℕ) (p : Place) (v : ℕ) → Within n p → area_of p ≢ 3 → area_of p ≢ 10 →
    area_of p ≢ 11 →
    LeavesGates n (λ q. word_at n ws q) (λ q. word_at n (set ws (index n p) v) q)
stored_off_gates n ws p v within not_own not_tablet not_turn = record {
  tablets = λ t l. word_other n ws p (tablet_gate t) v within l (λ e. not_tablet (sym (ap area_of e)));
  owns = λ m l. word_other n ws p (mutator_gate m) v within l (λ e. not_own (sym (ap area_of e)));
  turns = λ t l. word_other n ws p (turn t) v within l (λ e. not_turn (sym (ap area_of e)));
}
