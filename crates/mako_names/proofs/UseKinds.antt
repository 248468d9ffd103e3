-- Names in use at each kind of step.
use Rattle.std.proofs.Common.{◌≡◌, ℕ, ⊎_elim, List, [], ◌∷◌, ◌++◌, length, set, replicate, slice_get, Contains, Some}
use Rattle.std.proofs.Common.{sym, ap, subst, ◌∙◌, arith}
use Rattle.std.proofs.lemmas.Bool.{cases_eq}
use Rattle.mako_words.specs.declared.name.Name.{Name}
use Rattle.mako_words.specs.declared.value.Value.TheVariants.{Null, Ref}
use Rattle.mako_words.specs.Names.{name_word, FitsName}
use Rattle.mako_shape.specs.declared.numbers.Numbers.{Numbers}
use Rattle.mako_shape.specs.Places.{Place, index, total, Within, word_at}
use Rattle.mako_shape.proofs.PlaceLaws.{word_same, word_other, one_place}
use Rattle.mako_model.specs.declared.call.Call.{Call}
use Rattle.mako_model.specs.declared.call.Call.TheVariants.{New}
use Rattle.mako_model.specs.declared.reply.Reply.{Reply}
use Rattle.mako_model.specs.declared.reply.Reply.TheVariants.{Made}
use Rattle.mako_model.specs.declared.point.Point.{Point}
use Rattle.mako_model.specs.declared.point.Point.TheVariants.{Did, Snap}
use Rattle.mako_model.specs.Heaps.{root_of, with_fields}
use Rattle.mako_model.specs.Legal.{Facts, state_of, IsLegal}
use Rattle.mako_model.specs.Dead.{IsDead}
use Rattle.mako_model.proofs.DeadApart.{snaps_replied}
use Rattle.mako_model.proofs.Growth.{dead_was}
use Rattle.mako_model.proofs.Histories.{state_push, made_stays, legal_at}
use Rattle.mako_model.proofs.Lists.{get_set_cases}
use Rattle.mako_model.proofs.Lookups.{root_same}
use Rattle.mako_names.specs.Uses.{IsGood, IsUseSlot, UsesStand, SameSlots}
use Rattle.mako_names.proofs.Good.{root_is_good}

-- a good name stays good until the next snapshot
pub good_stays : (w : Facts) (history : List Point) (m : ℕ) (c : Call) (r : Reply) (name : Name)
    → IsLegal w (history ++ Did m c r ∷ []) → IsGood w history name → IsGood w (history ++ Did m c r ∷ []) name
good_stays w history m c r name legal good =
    let snaps : (state_of w (history ++ Did m c r ∷ [])).snaps ≡ (state_of w history).snaps =
    ap (λ s. s.snaps) (state_push w history (Did m c r)) ∙ snaps_replied (state_of w history) m c r in record {
      made = made_stays history (Did m c r ∷ []) name good.made;
      kept = λ dead. good.kept
          (dead_was w history (Did m c r ∷ []) (state_of w history).snaps name legal (omega arith)
          (subst (λ k. IsDead w (history ++ Did m c r ∷ []) k name) snaps dead));
    }

-- a name that stands in a root at the snapshot is good after it
pub good_snaps : (w : Facts) (history : List Point) (cycle m q : ℕ) (name : Name)
    → IsLegal w (history ++ Snap cycle ∷ []) → root_of (state_of w history) m q ≡ Some (Ref name)
    → IsGood w (history ++ Snap cycle ∷ []) name
good_snaps w history cycle m q name legal e =
    root_is_good w (history ++ Snap cycle ∷ []) m q name legal
    (ap (λ s. root_of s m q) (state_push w history (Snap cycle)) ∙ e)

-- the name that was just made is good
pub good_made : (w : Facts) (history : List Point) (m : ℕ) (c : Call) (name : Name)
    → IsLegal w (history ++ Did m c (Made name) ∷ []) → IsGood w (history ++ Did m c (Made name) ∷ []) name
good_made w history m (New root fields) name legal =
    let h = state_of w history in
    let lawful = legal_at w history (Did m (New root fields) (Made name)) [] legal in
    root_is_good w (history ++ Did m (New root fields) (Made name) ∷ []) m root name legal
    (ap (λ s. root_of s m root) (state_push w history (Did m (New root fields) (Made name)))
    ∙ root_same (with_fields h name (replicate fields Null)) m root (Ref name) lawful.0.0 lawful.0.1)
good_made w history m c name legal = absurd (legal_at w history (Did m c (Made name)) [] legal)

-- a deciding point
pub uses_point : (n : Numbers) (ws us : List ℕ) (w : Facts) (history : List Point) (views : List (List Name))
    (m : ℕ) (c : Call) (r : Reply) → IsLegal w (history ++ Did m c r ∷ []) → SameSlots n ws us
    → UsesStand n ws w history views → UsesStand n us w (history ++ Did m c r ∷ []) views
uses_point n ws us w history views m c r legal same uses = record {
  slots = λ p name within slot fits e. good_stays w history m c r name legal
      (uses.slots p name within slot fits (sym (same p within slot) ∙ e));
  held = λ seat names name at here. good_stays w history m c r name legal (uses.held seat names name at here);
}

-- the slots are as they were
pub uses_stay : (n : Numbers) (ws us : List ℕ) (w : Facts) (history : List Point) (views : List (List Name))
    → SameSlots n ws us → UsesStand n ws w history views → UsesStand n us w history views
uses_stay n ws us w history views same uses = record {
  slots = λ p name within slot fits e. uses.slots p name within slot fits (sym (same p within slot) ∙ e);
  held = uses.held;
}

-- a seat has other names to use, each of which is good
pub uses_hold : (n : Numbers) (ws : List ℕ) (w : Facts) (history : List Point) (views : List (List Name)) (seat : ℕ)
    (names : List Name) → ((name : Name) → Contains names name → IsGood w history name)
    → UsesStand n ws w history views → UsesStand n ws w history (set views seat names)
uses_hold n ws w history views seat names good uses = record {
  slots = uses.slots;
  held = λ other found name at here. ⊎_elim (λ t. good name (subst (λ ns. Contains ns name) (sym t.1) here))
      (λ t. uses.held other found name t.1 here) (get_set_cases views seat other names found at);
}

-- a slot is filled or emptied: a name that is put there is good
pub uses_put : (n : Numbers) (ws : List ℕ) (w : Facts) (history : List Point) (views : List (List Name)) (p : Place)
    (v : ℕ) → length ws ≡ total n → Within n p
    → ((name : Name) → FitsName name → v ≡ name_word name → IsGood w history name)
    → UsesStand n ws w history views → UsesStand n (set ws (index n p) v) w history views
uses_put n ws w history views p v size within good uses = record {
  slots = λ r name inside slot fits e. ⊎_elim
      (λ same. let is : r ≡ p = one_place n r p inside within same in
      good name fits (sym (word_same n ws p v size within) ∙ ap (word_at n (set ws (index n p) v)) (sym is) ∙ e))
      (λ other. uses.slots r name inside slot fits
      (sym (word_other n ws p r v within inside (λ is. other (ap (index n) is))) ∙ e))
      (cases_eq (index n r) (index n p));
  held = uses.held;
}

-- the snapshot, at which the slots are empty and each name of a seat stands in a root
pub uses_snap : (n : Numbers) (ws us : List ℕ) (w : Facts) (history : List Point) (views : List (List Name))
    (cycle : ℕ) → IsLegal w (history ++ Snap cycle ∷ []) → SameSlots n ws us
    → ((p : Place) (name : Name) → Within n p → IsUseSlot p → FitsName name → word_at n ws p ≡ name_word name → ⊥)
    → ((seat : ℕ) (names : List Name) (name : Name) → slice_get views seat ≡ Some names → Contains names name
    → (m : ℕ) × (q : ℕ) × (root_of (state_of w history) m q ≡ Some (Ref name)))
    → UsesStand n us w (history ++ Snap cycle ∷ []) views
uses_snap n ws us w history views cycle legal same empty rooted = record {
  slots = λ p name within slot fits e. absurd (empty p name within slot fits (sym (same p within slot) ∙ e));
  held = λ seat names name at here. let t =
      rooted seat names name at here in good_snaps w history cycle t.0 t.1 name legal t.2;
}
