-- Good names stay good while no snapshot is taken; and what is handed on along paths reaches all that is reachable.
use Rattle.std.proofs.Common.{◌≡◌, ℕ, List, [], ◌∷◌, ◌++◌, Contains, None, sym, ap, subst, refl, ◌∙◌, arith}
use Rattle.std.proofs.lemmas.Option.{none-some}
use Rattle.std.proofs.lemmas.List.Elements.{Contains-append_right}
use Rattle.mako_words.specs.declared.name.Name.{Name}
use Rattle.mako_model.specs.declared.call.Call.{Call}
use Rattle.mako_model.specs.declared.reply.Reply.{Reply}
use Rattle.mako_model.specs.declared.point.Point.{Point}
use Rattle.mako_model.specs.declared.point.Point.TheVariants.{Did, Snap}
use Rattle.mako_model.specs.Heaps.{Heap, fields_of}
use Rattle.mako_model.specs.Legal.{Facts, state_of, IsLegal}
use Rattle.mako_model.specs.Reachable.{StandsInRoot, StandsInField, LeadsTo, IsReachable}
use Rattle.mako_model.specs.Dead.{made_by, names_made, IsDead}
use Rattle.mako_model.specs.Laws.{HasObject}
use Rattle.mako_model.proofs.Histories.{made_stays, names_push, legal_prefix, state_push}
use Rattle.mako_model.proofs.Closed.{made_are_objects}
use Rattle.mako_model.proofs.DeadApart.{snaps_replied, reached_next}
use Rattle.mako_model.proofs.Growth.{dead_was}
use Rattle.mako_names.specs.Uses.{IsGood}
use Rattle.mako_names.proofs.Good.{root_is_good, field_is_good}
use Rattle.mako_shades.specs.Holding.{HoldsName}

-- no snapshot is taken from one history to another
abbrev pub SameSnaps : Facts → List Point → List Point → Type 0
SameSnaps w history next = (state_of w next).snaps ≡ (state_of w history).snaps

-- a reply is no snapshot
pub replied_snaps : (w : Facts) (history : List Point) (m : ℕ) (c : Call) (r : Reply)
    → SameSnaps w history (history ++ Did m c r ∷ [])
replied_snaps w history m c r =
    ap (λ (h : Heap). h.snaps) (state_push w history (Did m c r)) ∙ snaps_replied (state_of w history) m c r

module _ (w : Facts) (history points : List Point) (legal : IsLegal w (history ++ points))
    (still : SameSnaps w history (history ++ points)) where
  -- what is dead at the last snapshot was so before
  dead_before : (x : Name) → IsDead w (history ++ points) (state_of w (history ++ points)).snaps x
      → IsDead w history (state_of w history).snaps x
  dead_before x dead =
      dead_was w history points (state_of w history).snaps x legal (omega arith)
      (subst (λ c. IsDead w (history ++ points) c x) still dead)

  -- what was good is good when the history goes on
  pub good_stays : (x : Name) → IsGood w history x → IsGood w (history ++ points) x
  good_stays x good = record {
    made = made_stays history points x good.made;
    kept = λ dead. good.kept (dead_before x dead);
  }

module _ (w : Facts) (history : List Point) (legal : IsLegal w history) where
  pub root_good : (x : Name) → StandsInRoot (state_of w history) x → IsGood w history x
  root_good x stands = root_is_good w history stands.0 stands.1 x legal stands.2

  pub field_good : (object : Name) (field : ℕ) (x : Name) → IsGood w history object
      → HoldsName (state_of w history) object field x → IsGood w history x
  field_good object field x good holds =
      field_is_good w history object x legal (holds.fields, field, holds.object_is, holds.field_is) good

-- a name that a reply makes is good
pub fresh_good : (w : Facts) (history : List Point) (p : Point) (x : Name) → IsLegal w (history ++ p ∷ [])
    → SameSnaps w history (history ++ p ∷ []) → fields_of (state_of w history) x ≡ None → Contains (made_by p) x
    → IsGood w (history ++ p ∷ []) x
fresh_good w history p x legal still fresh made = record {
  made = subst (λ names. Contains names x) (sym (names_push history p))
      (Contains-append_right (names_made history) (made_by p) x made);
  kept = λ dead.
      let d = dead_before w history (p ∷ []) legal still x dead in
      let before : Contains (names_made history) x =
      subst (λ ps. Contains (names_made ps) x) (sym d.split) (made_stays d.before (Snap _ ∷ d.after) x d.made) in
      let object : HasObject (state_of w history) x =
      (made_are_objects w history (legal_prefix w history (p ∷ []) legal) x).0 before in
      none-some object.0 (sym fresh ∙ object.1);
}

-- ---- what is handed on along paths reaches all that is reachable

module _ (h : Heap) (P : Name → Type 0)
    (handed : (object : Name) (field : ℕ) (x : Name) → IsReachable h object → HoldsName h object field x → P object
    → P x) where
  along : (from : Name) (path : List Name) (x : Name) → IsReachable h from → P from → LeadsTo h from path x → P x
  along from [] x reached is leads = subst P leads is
  along from (next ∷ path) x reached is leads =
      let step : StandsInField h from next = leads.0 in
      along next path x (reached_next h from next reached step)
      (handed from step.1 next reached (record { fields = step.0; object_is = step.2; field_is = step.3 }) is) leads.1

  pub reaches_all : ((x : Name) → StandsInRoot h x → P x) → (x : Name) → IsReachable h x → P x
  reaches_all roots x reached =
      along reached.first reached.path x
      (record { first = reached.first; path = []; in_root = reached.in_root; leads = refl })
      (roots reached.first reached.in_root) reached.leads
