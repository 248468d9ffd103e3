-- Steps of worked examples: points that are plainly next, and what was lost at the first snapshot.
use Rattle.std.proofs.Common.{◌≡◌, ℕ, zero, suc, ◌+◌, ◌<◌, ◌≤◌, ⊎_elim, List, [], ◌∷◌, ◌++◌, length, slice_get, get_or}
use Rattle.std.proofs.Common.{Contains, Some, sym, ap, subst, refl, ◌∙◌, arith, append-nil}
use Rattle.std.proofs.lemmas.List.Elements.{Contains-push_cases}
use Rattle.std.proofs.lemmas.Option.{same_Some, none-some}
use Rattle.mako_words.specs.declared.name.Name.{Name}
use Rattle.mako_words.specs.declared.value.Value.{Value}
use Rattle.mako_words.specs.declared.value.Value.TheVariants as value
use Rattle.mako_model.specs.declared.call.Call.{Call}
use Rattle.mako_model.specs.declared.call.Call.TheVariants as call
use Rattle.mako_model.specs.declared.reply.Reply.{Reply}
use Rattle.mako_model.specs.declared.reply.Reply.TheVariants as reply
use Rattle.mako_model.specs.declared.point.Point.{Point}
use Rattle.mako_model.specs.declared.point.Point.TheVariants.{Did, Snap}
use Rattle.mako_model.specs.Fronts.{Seen, calls_by, FollowsPrograms}
use Rattle.mako_model.specs.Heaps.{Heap, board_name, fields_of}
use Rattle.mako_model.specs.Lawful.{IsLawful, heap_after}
use Rattle.mako_model.specs.Legal.{Facts, state_of}
use Rattle.mako_model.specs.Reachable.{StandsInField, LeadsTo, IsReachable}
use Rattle.mako_model.specs.Dead.{IsDead}
use Rattle.mako_model.specs.LawfulFronts.{IsInRange}
use Rattle.mako_model.specs.Starved.{snaps_in}
use Rattle.mako_model.proofs.Closed.{no_null_ref}
use Rattle.mako_model.proofs.DeadApart.{IsLost}
use Rattle.mako_model.proofs.Growth.{IsNext, IsStarvedIfFull}
use Rattle.mako_model.proofs.Lists.{get_replicate}
use Rattle.mako_model.proofs.Splits.{split_of_append}

pub same_reply : (m n : ℕ) (c d : Call) (r s : Reply) → Did m c r ≡ Did n d s → r ≡ s
same_reply m n c d r s e = cc

pub no_snap_did : (cycle m : ℕ) (c : Call) (r : Reply) → Snap cycle ≡ Did m c r → ⊥
no_snap_did cycle m c r e = cc

pub in_none : (x : Name) → Contains [] x → ⊥
in_none x c = let l : c.0 < 0 = c.1 in omega arith

-- the next point, where it neither makes a name nor waits for a cycle
pub plain_next : (w : Facts) (front : Seen) (m : ℕ) (c : Call)
    → IsLawful (state_of w front.history) (Did m c reply.Done)
    → (heap_after (state_of w front.history) (Did m c reply.Done)).snaps ≤ length front.finished + 1
    → IsNext w front (Did m c reply.Done)
plain_next w front m c lawful unfinished = record {
  lawful = lawful;
  unfinished = unfinished;
  waits = λ n d cycle e. absurd (let f = same_reply m n c d reply.Done (reply.Cycle cycle) e in (let g : ⊥ = cc in g));
  names = λ x in_made. absurd (in_none x in_made);
  reuses = λ n d entry generation e. absurd (let f = same_reply m n c d reply.Done (reply.Made _) e in
      (let g : ⊥ = cc in g));
}

pub plain_full : (w : Facts) (front : Seen) (m : ℕ) (c : Call) → IsStarvedIfFull w front (Did m c reply.Done)
plain_full w front m c n root fields e =
    absurd (let f = same_reply m n c (call.New root fields) reply.Done reply.Full e in (let g : ⊥ = cc in g))

-- the next point, where it makes a name of generation 0
pub made_next : (w : Facts) (front : Seen) (m root fields entry : ℕ)
    → IsLawful (state_of w front.history)
    (Did m (call.New root fields) (reply.Made (record { entry = entry; generation = 0 })))
    → (state_of w front.history).snaps ≤ length front.finished + 1
    → IsInRange w (record { entry = entry; generation = 0 })
    → IsNext w front (Did m (call.New root fields) (reply.Made (record { entry = entry; generation = 0 })))
made_next w front m root fields entry lawful unfinished range =
    let x : Name = record { entry = entry; generation = 0 } in record {
      lawful = lawful;
      unfinished = unfinished;
      waits = λ n d cycle e. absurd (let f =
          same_reply m n (call.New root fields) d (reply.Made x) (reply.Cycle cycle) e in (let g : ⊥ = cc in g));
      names = λ y in_made. ⊎_elim (λ t. absurd (in_none y t)) (λ t. subst (IsInRange w) t range)
          (Contains-push_cases [] x y in_made);
      reuses = λ n d other generation e.
          let y : Name = record { entry = other; generation = generation + 1 } in
          let f = same_reply m n (call.New root fields) d (reply.Made x) (reply.Made y) e in
          let s : x ≡ y = cc in
          let g : 0 ≡ generation + 1 = ap (λ (z : Name). z.generation) s in
          absurd (omega arith);
    }

pub made_full : (w : Facts) (front : Seen) (m root fields : ℕ) (x : Name)
    → IsStarvedIfFull w front (Did m (call.New root fields) (reply.Made x))
made_full w front m root fields x n q f e =
    absurd (let s = same_reply m n (call.New root fields) (call.New q f) (reply.Made x) reply.Full e in
    (let g : ⊥ = cc in g))

-- the one program is followed, and the calls of the other mutators are none
pub follows : (program : List Call) (history : List Point) (rest : List Call) → program ≡ calls_by 0 history ++ rest
    → FollowsPrograms (program ∷ []) history
follows program history rest is zero found e = (rest, sym is ∙ same_Some program found e)
follows program history rest is (suc m) found e = absurd (none-some found e)

-- ---- the first snapshot

fewer : (p : Point) (points : List Point) → snaps_in (p ∷ points) ≡ 0 → snaps_in points ≡ 0
fewer (Did m c r) points e = e
fewer (Snap cycle) points e = absurd (omega arith)

pub no_snap_in : (n : ℕ) (ps before : List Point) (after : List Point) → snaps_in ps ≡ 0 → ps ≡ before ++ Snap n ∷ after
    → ⊥
no_snap_in n ps [] after none e = let f = ap snaps_in e in omega arith
no_snap_in n [] (p ∷ before) after none e = absurd (let f = ap length e in omega (arith, f))
no_snap_in n (q ∷ ps) (p ∷ before) after none e =
    let rest : ps ≡ before ++ Snap n ∷ after = cc in
    no_snap_in n ps before after (fewer q ps none) rest

only_snap : (before after there rest more : List Point) → snaps_in after ≡ 0 → there ≡ before ++ more
    → Snap 1 ∷ after ≡ more ++ Snap 1 ∷ rest → there ≡ before
only_snap before after there rest [] none is e = is ∙ append-nil before
only_snap before after there rest (p ∷ more) none is e =
    let tail : after ≡ more ++ Snap 1 ∷ rest = cc in
    absurd (no_snap_in 1 after more rest none tail)

-- what is dead at the only snapshot was lost just before it
pub lost_at_snap : (w : Facts) (before after : List Point) (x : Name) → snaps_in before ≡ 0 → snaps_in after ≡ 0
    → IsDead w (before ++ Snap 1 ∷ after) 1 x → IsLost w before x
lost_at_snap w before after x none_before none_after dead =
    ⊎_elim
    (λ t. absurd (no_snap_in 1 before dead.before t.0 none_before t.1))
    (λ t. subst (λ ps. IsLost w ps x) (only_snap before after dead.before dead.after t.0 none_after t.1 t.2)
    (dead.made, dead.unreached))
    (split_of_append before (Snap 1 ∷ after) dead.before (Snap 1) dead.after dead.split)

-- ---- the board alone

-- the roots in which the board stands alone
abbrev pub lone_roots : List (List Value)
lone_roots = (value.Ref board_name ∷ value.Null ∷ value.Null ∷ value.Null ∷ []) ∷ []

lone_root : (m q : ℕ) (x : Name) → slice_get (get_or lone_roots m []) q ≡ Some (value.Ref x) → board_name ≡ x
lone_root zero zero x e = let f : value.Ref board_name ≡ value.Ref x =
    same_Some (value.Ref board_name) (value.Ref x) e in cc
lone_root zero (suc zero) x e = absurd (no_null_ref x (same_Some value.Null (value.Ref x) e))
lone_root zero (suc (suc zero)) x e = absurd (no_null_ref x (same_Some value.Null (value.Ref x) e))
lone_root zero (suc (suc (suc zero))) x e = absurd (no_null_ref x (same_Some value.Null (value.Ref x) e))
lone_root zero (suc (suc (suc (suc q)))) x e = absurd (none-some (value.Ref x) e)
lone_root (suc m) q x e = absurd (none-some (value.Ref x) e)

module _ (h : Heap) (roots : h.roots ≡ lone_roots) (board : fields_of h board_name ≡ Some (value.Null ∷ [])) where
  leads_nowhere : (x : Name) → StandsInField h board_name x → ⊥
  leads_nowhere x stands =
      let fields : value.Null ∷ [] ≡ stands.0 = same_Some (value.Null ∷ []) stands.0 (sym board ∙ stands.2) in
      no_null_ref x (get_replicate 1 stands.1 value.Null (value.Ref x)
      (ap (λ (fs : List Value). slice_get fs stands.1) fields ∙ stands.3))

  stays_there : (from x : Name) (path : List Name) → board_name ≡ from → LeadsTo h from path x → board_name ≡ x
  stays_there from x [] is leads = is ∙ leads
  stays_there from x (next ∷ path) is leads =
      absurd (leads_nowhere next (subst (λ o. StandsInField h o next) (sym is) leads.0))

  -- it alone is reached
  pub board_alone : (x : Name) → IsReachable h x → board_name ≡ x
  board_alone x reached =
      stays_there reached.first x reached.path
      (lone_root reached.in_root.0 reached.in_root.1 reached.first
      (sym (ap (λ (rows : List (List Value)). slice_get (get_or rows reached.in_root.0 []) reached.in_root.1) roots)
      ∙ reached.in_root.2)) reached.leads

  pub board_reached : IsReachable h board_name
  board_reached = record {
    first = board_name;
    path = [];
    in_root = (0, 0, ap (λ (rows : List (List Value)). slice_get (get_or rows 0 []) 0) roots);
    leads = refl;
  }

  pub other_not_reached : (x : Name) → 0 < x.entry → IsReachable h x → ⊥
  other_not_reached x l reached = let e : 0 ≡ x.entry = ap (λ (n : Name). n.entry) (board_alone x reached) in
      omega arith
