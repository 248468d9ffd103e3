-- What the order of the phases says of the words, after one write.
use Rattle.std.proofs.Common.{◌≡◌, ℕ, ◌≤◌, ◌⊎◌, inl, inr, ⊎_elim, List, length, set, sym, subst, ◌∙◌}
use Rattle.std.proofs.lemmas.List.{length-set}
use Rattle.mako_words.specs.declared.name.Name.{Name}
use Rattle.mako_words.specs.Entries.{entry_at}
use Rattle.mako_shape.specs.declared.numbers.Numbers.{Numbers}
use Rattle.mako_shape.specs.Places.{Place, demand, root, barrier, work, ghost, notice, leaving, entry, index, total}
use Rattle.mako_shape.specs.Places.{Within, word_at}
use Rattle.mako_names.specs.Tables.{entry_of}
use Rattle.mako_shape.proofs.PlaceLaws.{word_same}
use Rattle.mako_phases.proofs.Frames.{written}
use Rattle.mako_phases.specs.Facets.{Part, idle, pausing, rooting, tracing, choosing, evacuating, stopped, cycle_during}
use Rattle.mako_phases.specs.Facets.{IsRestful}
use Rattle.mako_names.specs.Uses.{IsUseSlot}
use Rattle.mako_phases.specs.Orders.{PendingFits, MayLeave, MayTell, WordsStand}
use Rattle.mako_phases.specs.Steps.{IsPhaseWord}
use Rattle.mako_phases.proofs.Frames.{agree_else, IsPhase, IsDemand, IsRoot, IsNotice, IsLeaving, IsEntry, IsServerWord}
use Rattle.mako_phases.proofs.Frames.{phase_on, asked_on, slots_on, pends_on, leavings_on, tellers_on, once_on}
use Rattle.mako_phases.proofs.Frames.{epochs_on, words_on}

-- a name slot is no other word that the order reads
pub record IsSlotOnly (p : Place) : Type 0 where
  pub no_phase : ¬ IsPhase p
  pub no_demand : ¬ IsDemand p
  pub no_root : ¬ IsRoot p
  pub no_notice : ¬ IsNotice p
  pub no_leaving : ¬ IsLeaving p
  pub no_entry : ¬ IsEntry p
  pub no_server : ¬ IsServerWord p

pub slot_only : (p : Place) → IsUseSlot p → IsSlotOnly p
slot_only (barrier m slot) is =
    record {
      no_phase = λ x. x;
      no_demand = λ x. x;
      no_root = λ x. x;
      no_notice = λ x. x;
      no_leaving = λ x. x;
      no_entry =
          λ x. x;
      no_server = λ x. x;
    }
slot_only (work s slot) is =
    record {
      no_phase = λ x. x;
      no_demand = λ x. x;
      no_root = λ x. x;
      no_notice = λ x. x;
      no_leaving = λ x. x;
      no_entry =
          λ x. x;
      no_server = λ x. x;
    }
slot_only (ghost a b slot) is =
    record {
      no_phase = λ x. x;
      no_demand = λ x. x;
      no_root = λ x. x;
      no_notice = λ x. x;
      no_leaving = λ x. x;
      no_entry =
          λ x. x;
      no_server = λ x. x;
    }
slot_only p is = absurd is

-- an unseen word is no word of a server
pub unseen_server : (p : Place) → (¬ IsPhaseWord p) → ¬ IsServerWord p
unseen_server (notice s slot) un is = un tt
unseen_server (leaving t) un is = un tt
unseen_server p un is = is

-- roots are being loaded
abbrev pub IsRooting : Part → Type 0
IsRooting (rooting cycle loaded) = Unit {0}
IsRooting part = ⊥

-- elsewhere what is pending does not depend on the words
pub pends_free : (n : Numbers) (words words' : List ℕ) (part : Part) (pending : List Name) → (¬ IsRooting part)
    → PendingFits n words part pending → PendingFits n words' part pending
pends_free n words words' (rooting cycle loaded) pending not fits = absurd (not tt)
pends_free n words words' (tracing cycle) pending not fits = tt
pends_free n words words' (idle cycle) pending not fits = fits
pends_free n words words' (pausing cycle) pending not fits = fits
pends_free n words words' (choosing cycle left) pending not fits = fits
pends_free n words words' (evacuating cycle ended) pending not fits = fits
pends_free n words words' (stopped cycle) pending not fits = fits

module _ (n : Numbers) (words : List ℕ) (part : Part) (pending : List Name) (w : WordsStand n words part pending) where
  pub size_after : (p : Place) (v : ℕ) → length (set words (index n p) v) ≡ total n
  size_after p v = length-set words (index n p) v ∙ w.size

  pub write_unseen : (p : Place) (v : ℕ) → Within n p → (¬ IsPhaseWord p)
      → WordsStand n (set words (index n p) v) part pending
  write_unseen p v within un =
      words_on n words (set words (index n p) v) part pending w (size_after p v)
      (agree_else n IsPhaseWord words p v within un)

  pub write_slot : (p : Place) (v : ℕ) → Within n p → IsUseSlot p → (IsRestful part → v ≡ 0)
      → WordsStand n (set words (index n p) v) part pending
  write_slot p v within is zero_is =
      let only = slot_only p is in
      let after : List ℕ = set words (index n p) v in record {
        size = size_after p v;
        phase_is = phase_on n words after part pending w (agree_else n IsPhase words p v within only.no_phase);
        bound = w.bound;
        asked = asked_on n words after part pending w (agree_else n IsDemand words p v within only.no_demand);
        slots =
            λ rest r is_r in_r.
            ⊎_elim (λ c. c.1 ∙ zero_is rest) (λ c. c.1 ∙ w.slots rest r is_r in_r)
            (written n words p v w.size within r in_r);
        pends = pends_on n words after part pending w (agree_else n IsRoot words p v within only.no_root);
        leavings = leavings_on n words after part pending w (agree_else n IsLeaving words p v within only.no_leaving);
        tellers = tellers_on n words after part pending w (agree_else n IsNotice words p v within only.no_notice);
        tell_once = once_on n words after part pending w (agree_else n IsNotice words p v within only.no_notice);
        epochs = epochs_on n words after part pending w (agree_else n IsEntry words p v within only.no_entry);
      }

  pub write_demand : (v : ℕ) → v ≤ n.cycles → WordsStand n (set words (index n demand) v) part pending
  write_demand v below =
      let after : List ℕ = set words (index n demand) v in record {
        size = size_after demand v;
        phase_is = phase_on n words after part pending w (agree_else n IsPhase words demand v tt (λ x. x));
        bound = w.bound;
        asked = subst (λ (k : ℕ). k ≤ n.cycles) (sym (word_same n words demand v w.size tt)) below;
        slots = slots_on n words after part pending w (agree_else n IsUseSlot words demand v tt (λ x. x));
        pends = pends_on n words after part pending w (agree_else n IsRoot words demand v tt (λ x. x));
        leavings = leavings_on n words after part pending w (agree_else n IsLeaving words demand v tt (λ x. x));
        tellers = tellers_on n words after part pending w (agree_else n IsNotice words demand v tt (λ x. x));
        tell_once = once_on n words after part pending w (agree_else n IsNotice words demand v tt (λ x. x));
        epochs = epochs_on n words after part pending w (agree_else n IsEntry words demand v tt (λ x. x));
      }

  pub write_root : (m q v : ℕ) → Within n (root m q) → (¬ IsRooting part)
      → WordsStand n (set words (index n (root m q)) v) part pending
  write_root m q v within not =
      let after : List ℕ = set words (index n (root m q)) v in record {
        size = size_after (root m q) v;
        phase_is = phase_on n words after part pending w (agree_else n IsPhase words (root m q) v within (λ x. x));
        bound = w.bound;
        asked = asked_on n words after part pending w (agree_else n IsDemand words (root m q) v within (λ x. x));
        slots = slots_on n words after part pending w (agree_else n IsUseSlot words (root m q) v within (λ x. x));
        pends = pends_free n words after part pending not w.pends;
        leavings = leavings_on n words after part pending w (agree_else n IsLeaving words (root m q) v within (λ x. x));
        tellers = tellers_on n words after part pending w (agree_else n IsNotice words (root m q) v within (λ x. x));
        tell_once = once_on n words after part pending w (agree_else n IsNotice words (root m q) v within (λ x. x));
        epochs = epochs_on n words after part pending w (agree_else n IsEntry words (root m q) v within (λ x. x));
      }

  pub write_entry : (e v : ℕ) → Within n (entry e) → (entry_at v).epoch ≤ cycle_during part
      → WordsStand n (set words (index n (entry e)) v) part pending
  unfolding entry_of
  write_entry e v within below =
      let after : List ℕ = set words (index n (entry e)) v in record {
        size = size_after (entry e) v;
        phase_is = phase_on n words after part pending w (agree_else n IsPhase words (entry e) v within (λ x. x));
        bound = w.bound;
        asked = asked_on n words after part pending w (agree_else n IsDemand words (entry e) v within (λ x. x));
        slots = slots_on n words after part pending w (agree_else n IsUseSlot words (entry e) v within (λ x. x));
        pends = pends_on n words after part pending w (agree_else n IsRoot words (entry e) v within (λ x. x));
        leavings = leavings_on n words after part pending w (agree_else n IsLeaving words (entry e) v within (λ x. x));
        tellers = tellers_on n words after part pending w (agree_else n IsNotice words (entry e) v within (λ x. x));
        tell_once = once_on n words after part pending w (agree_else n IsNotice words (entry e) v within (λ x. x));
        epochs = λ k in_k. ⊎_elim (λ c. subst (λ (u : ℕ). (entry_at u).epoch ≤ cycle_during part) (sym c.1) below)
            (λ c. subst (λ (u : ℕ). (entry_at u).epoch ≤ cycle_during part) (sym c.1) (w.epochs k in_k))
            (written n words (entry e) v w.size within (entry k) in_k);
      }

  pub write_leaving : (t v : ℕ) → Within n (leaving t) → (v ≡ 0) ⊎ MayLeave part t
      → WordsStand n (set words (index n (leaving t)) v) part pending
  write_leaving t v within may =
      let after : List ℕ = set words (index n (leaving t)) v in record {
        size = size_after (leaving t) v;
        phase_is = phase_on n words after part pending w (agree_else n IsPhase words (leaving t) v within (λ x. x));
        bound = w.bound;
        asked = asked_on n words after part pending w (agree_else n IsDemand words (leaving t) v within (λ x. x));
        slots = slots_on n words after part pending w (agree_else n IsUseSlot words (leaving t) v within (λ x. x));
        pends = pends_on n words after part pending w (agree_else n IsRoot words (leaving t) v within (λ x. x));
        leavings =
            λ u in_u.
            ⊎_elim (λ c.
            ⊎_elim (λ z. inl (c.1 ∙ z)) (λ m. inr (subst (MayLeave part) (let e : t ≡ u = cc (c.0) in e) m)) may)
            (λ c. subst (λ (k : ℕ). (k ≡ 0) ⊎ MayLeave part u) (sym c.1) (w.leavings u in_u))
            (written n words (leaving t) v w.size within (leaving u) in_u);
        tellers = tellers_on n words after part pending w (agree_else n IsNotice words (leaving t) v within (λ x. x));
        tell_once = once_on n words after part pending w (agree_else n IsNotice words (leaving t) v within (λ x. x));
        epochs = epochs_on n words after part pending w (agree_else n IsEntry words (leaving t) v within (λ x. x));
      }

  same_server : (s slot u other : ℕ) → notice u other ≡ notice s slot → u ≡ s
  same_server s slot u other e = cc

  same_slot : (s slot u other : ℕ) → notice u other ≡ notice s slot → other ≡ slot
  same_slot s slot u other e = cc

  pub write_notice : (s slot v : ℕ) → Within n (notice s slot) → (v ≡ 1 → MayTell part s)
      → (v ≡ 1 → (other : ℕ) → Within n (notice s other) → word_at n words (notice s other) ≡ 1 → slot ≡ other)
      → WordsStand n (set words (index n (notice s slot)) v) part pending
  write_notice s slot v within may once =
      let after : List ℕ = set words (index n (notice s slot)) v in record {
        size = size_after (notice s slot) v;
        phase_is = phase_on n words after part pending w (agree_else n IsPhase words (notice s slot) v within (λ x. x));
        bound = w.bound;
        asked = asked_on n words after part pending w (agree_else n IsDemand words (notice s slot) v within (λ x. x));
        slots = slots_on n words after part pending w (agree_else n IsUseSlot words (notice s slot) v within (λ x. x));
        pends = pends_on n words after part pending w (agree_else n IsRoot words (notice s slot) v within (λ x. x));
        leavings =
            leavings_on n words after part pending w (agree_else n IsLeaving words (notice s slot) v within (λ x. x));
        tellers =
            λ u k in_k e.
            ⊎_elim (λ c. subst (MayTell part) (sym (same_server s slot u k c.0)) (may (sym c.1 ∙ e)))
            (λ c. w.tellers u k in_k (sym c.1 ∙ e))
            (written n words (notice s slot) v w.size within (notice u k) in_k);
        tell_once = λ u k j in_k in_j e f.
            ⊎_elim
            (λ c. ⊎_elim (λ d. same_slot s slot u k c.0 ∙ sym (same_slot s slot u j d.0))
            (λ d. same_slot s slot u k c.0
            ∙ once (sym c.1 ∙ e) j (subst (λ (x : ℕ). Within n (notice x j)) (same_server s slot u k c.0) in_j)
            (subst (λ (x : ℕ). word_at n words (notice x j) ≡ 1) (same_server s slot u k c.0) (sym d.1 ∙ f)))
            (written n words (notice s slot) v w.size within (notice u j) in_j))
            (λ c. ⊎_elim
            (λ d. sym
            (same_slot s slot u j d.0
            ∙ once (sym d.1 ∙ f) k (subst (λ (x : ℕ). Within n (notice x k)) (same_server s slot u j d.0) in_k)
            (subst (λ (x : ℕ). word_at n words (notice x k) ≡ 1) (same_server s slot u j d.0) (sym c.1 ∙ e))))
            (λ d. w.tell_once u k j in_k in_j (sym c.1 ∙ e) (sym d.1 ∙ f))
            (written n words (notice s slot) v w.size within (notice u j) in_j))
            (written n words (notice s slot) v w.size within (notice u k) in_k);
        epochs = epochs_on n words after part pending w (agree_else n IsEntry words (notice s slot) v within (λ x. x));
      }
