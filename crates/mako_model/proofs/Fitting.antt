-- Values in the heap of a legal history fit their words, where those of the programs and all names do.
use Rattle.std.proofs.Common.{◌≡◌, ℕ, zero, suc, ◌+◌, ◌-◌, ◌<◌, ◌≤◌, ◌^◌, ◌⊎◌, inl, inr, ⊎_elim, List, [], ◌∷◌, ◌++◌}
use Rattle.std.proofs.Common.{length, flat_map, get_or, set, replicate, slice_get, Contains, Some, sym, ap, subst, refl}
use Rattle.std.proofs.Common.{arith, eq-eqb, ne_eqb}
use Rattle.std.specs.FinMap as map
use Rattle.std.specs.List.{fold}
use Rattle.std.proofs.lemmas.Bool.{cases_eq, cases_lt}
use Rattle.std.proofs.lemmas.List.Elements.{Contains-append_left, Contains-append_right, Contains-append_cases}
use Rattle.std.proofs.lemmas.List.Elements.{Contains-push_cases}
use Rattle.std.proofs.lemmas.Option.{same_Some, none-some, slice_get_cases}
use Rattle.mako_words.specs.declared.name.Name.{Name}
use Rattle.mako_words.specs.declared.value.Value.{Value}
use Rattle.mako_words.specs.declared.value.Value.TheVariants as value
use Rattle.mako_words.specs.Names.{FitsName}
use Rattle.mako_words.specs.Values.{FitsValue}
use Rattle.mako_model.specs.declared.call.Call.{Call}
use Rattle.mako_model.specs.declared.call.Call.TheVariants as call
use Rattle.mako_model.specs.declared.reply.Reply.{Reply}
use Rattle.mako_model.specs.declared.reply.Reply.TheVariants as reply
use Rattle.mako_model.specs.declared.point.Point.{Point}
use Rattle.mako_model.specs.declared.point.Point.TheVariants.{Did, Snap}
use Rattle.mako_model.specs.Fronts.{Seen, calls_by, FollowsPrograms}
use Rattle.mako_model.specs.Heaps.{Heap, board_name, opening_roots, with_root, with_fields}
use Rattle.mako_model.specs.Lawful.{HasRoot, IsLawfulReply, heap_after, heap_replied}
use Rattle.mako_model.specs.Legal.{Facts, opening_of, state_of, AreLawful, IsLegal}
use Rattle.mako_model.specs.Dead.{made_by, names_made}
use Rattle.mako_model.specs.LawfulFronts.{IsLawfulFront}
use Rattle.mako_model.specs.Laws.{CallFits, ProgramsFit, NamesFit, ValuesFit, RootsFit}
use Rattle.mako_model.proofs.Changes.{put_writes}
use Rattle.mako_model.proofs.Closed.{empty_has}
use Rattle.mako_model.proofs.Following.{no_snap_did}
use Rattle.mako_model.proofs.FreedLists.{first_in}
use Rattle.mako_model.proofs.Histories.{legal_at, legal_prefix}
use Rattle.mako_model.proofs.Lists.{get_replicate, get_set_cases}
use Rattle.mako_model.proofs.Lookups.{fields_cases, root_cases}
use Rattle.mako_model.proofs.RootRows.{has_roots}

-- ---- one change

-- an object gets fields of fitting values
pub fit_with : (h : Heap) (x : Name) (more : List Value)
    → ((i : ℕ) (v : Value) → slice_get more i ≡ Some v → FitsValue v) → ValuesFit h → ValuesFit (with_fields h x more)
fit_with h x more fit all name fields i v are at =
    ⊎_elim (λ t. fit i v (subst (λ fs. slice_get fs i ≡ Some v) (sym t.1) at))
    (λ t. all name fields i v t.1 at) (fields_cases h x more name fields are)

pub nulls_fit : (k i : ℕ) (v : Value) → slice_get (replicate k value.Null) i ≡ Some v → FitsValue v
nulls_fit k i v at = subst FitsValue (get_replicate k i value.Null v at) tt

pub set_fits : (fields : List Value) (j : ℕ) (u : Value) → FitsValue u
    → ((i : ℕ) (v : Value) → slice_get fields i ≡ Some v → FitsValue v)
    → (i : ℕ) (v : Value) → slice_get (set fields j u) i ≡ Some v → FitsValue v
set_fits fields j u fit all i v at =
    ⊎_elim (λ t. subst FitsValue t.1 fit) (λ t. all i v t.1) (get_set_cases fields j i u v at)

-- a root gets a fitting value
pub fit_root : (h : Heap) (m q : ℕ) (u : Value) → FitsValue u → RootsFit h → RootsFit (with_root h m q u)
fit_root h m q u fit all k p v at =
    ⊎_elim (λ t. subst FitsValue t.2 fit) (λ t. all k p v t) (root_cases h m q k p u v at)

-- ---- one point

-- all values of the heap fit
pub record HeapFits (h : Heap) : Type 0 where
  pub values : ValuesFit h
  pub roots : RootsFit h

fits_rooted : (h : Heap) (m q : ℕ) (v : Value) → FitsValue v → HeapFits h → HeapFits (with_root h m q v)
fits_rooted h m q v fit fits = record { values = fits.values; roots = fit_root h m q v fit fits.roots }

fits_replied : (h : Heap) (m : ℕ) (c : Call) (r : Reply) → IsLawfulReply h m c r → CallFits c
    → ((name : Name) → Contains (made_by (Did m c r)) name → FitsName name) → HeapFits h
    → HeapFits (heap_replied h m c r)
fits_replied h m (call.New root fields) (reply.Made name) l call named fits =
    fits_rooted (with_fields h name (replicate fields value.Null)) m root (value.Ref name)
    (named name (first_in name []))
    (record {
      values = fit_with h name (replicate fields value.Null) (nulls_fit fields) fits.values;
      roots = fits.roots;
    })
fits_replied h m (call.Num root x) (reply.Value v) l call named fits =
    fits_rooted h m root v (subst FitsValue (sym l.1) call) fits
fits_replied h m (call.CopyRoot to from) (reply.Value v) l call named fits =
    fits_rooted h m to v (fits.roots m from v l.1) fits
fits_replied h m (call.DropRoot root) reply.Done l call named fits = fits_rooted h m root value.Null tt fits
fits_replied h m (call.Get to from field) (reply.Value v) l call named fits =
    fits_rooted h m to v (fits.values l.1.0 l.1.1 field v l.1.2.fields_are l.1.3) fits
fits_replied h m (call.Put to field from) reply.Done l call named fits =
    let writes = put_writes h m to field from l.1.0 l.1.1 l.0.0 l.1.2 l.0.1 in
    subst HeapFits (sym writes) (record {
      values = fit_with h l.1.0 (set l.1.1 field l.0.0)
          (set_fits l.1.1 field l.0.0 (fits.roots m from l.0.0 l.0.1)
          (λ i v at. fits.values l.1.0 l.1.1 i v l.1.2.fields_are at)) fits.values;
      roots = fits.roots;
    })
fits_replied h m c r l call named fits = fits

-- ---- all points

-- the numbers and names of a point fit
abbrev PointFits : Point → Type 0
PointFits (Did m c r) = CallFits c × ((name : Name) → Contains (made_by (Did m c r)) name → FitsName name)
PointFits (Snap cycle) = Unit {0}

fits_along : (h : Heap) (points : List Point) → AreLawful h points → ((p : Point) → Contains points p → PointFits p)
    → HeapFits h → HeapFits (fold heap_after h points)
fits_along h [] all each fits = fits
fits_along h (Did m c r ∷ points) all each fits =
    let first = each (Did m c r) (0, omega arith, refl) in
    fits_along (heap_replied h m c r) points all.1
    (λ p here. each p (Contains-append_right (Did m c r ∷ []) points p here))
    (fits_replied h m c r all.0 first.0 first.1 fits)
fits_along h (Snap cycle ∷ points) all each fits =
    fits_along (record h { snaps = h.snaps + 1 }) points all.1
    (λ p here. each p (Contains-append_right (Snap cycle ∷ []) points p here))
    (record { values = fits.values; roots = fits.roots })

opening_row_fits : (mutators roots m q : ℕ) (v : Value) → FitsName board_name
    → slice_get (get_or (replicate mutators (opening_roots roots)) m []) q ≡ Some v → FitsValue v
opening_row_fits zero roots m q v board at = absurd (none-some v at)
opening_row_fits (suc mutators) roots zero zero v board at =
    subst FitsValue (same_Some (value.Ref board_name) v at) board
opening_row_fits (suc mutators) roots zero (suc q) v board at = nulls_fit (roots - 1) q v at
opening_row_fits (suc mutators) roots (suc m) q v board at = opening_row_fits mutators roots m q v board at

opening_fits : (w : Facts) → FitsName board_name → HeapFits (opening_of w)
opening_fits w board = record {
  values = λ name fields i v are at.
      let bare : Heap = record (opening_of w) { objects = map.empty } in
      ⊎_elim (λ t. nulls_fit w.board i v (subst (λ fs. slice_get fs i ≡ Some v) (sym t.1) at))
      (λ t. absurd (empty_has bare name refl (fields, t.1)))
      (fields_cases bare board_name (replicate w.board value.Null) name fields are);
  roots = λ m q v at. opening_row_fits (length w.programs) w.roots m q v board at;
}

-- ---- the points of a front

first_or_later : (p q : Point) (points : List Point) → Contains (p ∷ points) q → (p ≡ q) ⊎ Contains points q
first_or_later p q points here =
    ⊎_elim (λ t. inl
    (⊎_elim (λ none. absurd (let l : none.0 < 0 = none.1 in omega arith)) (λ e. e)
    (Contains-push_cases [] p q t)))
    (λ t. inr t) (Contains-append_cases (p ∷ []) points q here)

own_calls : (n m : ℕ) (c : Call) (r : Reply) (points : List Point) → n ≡ m
    → calls_by m (Did n c r ∷ points) ≡ c ∷ calls_by m points
own_calls n m c r points e = let is = eq-eqb n m e in rw is refl

other_calls : (n m : ℕ) (c : Call) (r : Reply) (points : List Point) → (n ≡ m → ⊥)
    → calls_by m (Did n c r ∷ points) ≡ calls_by m points
other_calls n m c r points other = let is = ne_eqb n m other in rw is refl

in_rest : (c d : Call) (calls : List Call) → Contains calls c → Contains (d ∷ calls) c
in_rest c d calls here = Contains-append_right (d ∷ []) calls c here

-- a point's call is one of its mutator's calls
called : (m : ℕ) (c : Call) (r : Reply) (points : List Point) → Contains points (Did m c r)
    → Contains (calls_by m points) c
called m c r [] here = absurd (let l : here.0 < 0 = here.1 in omega arith)
called m c r (Snap cycle ∷ points) here =
    ⊎_elim (λ e. absurd (no_snap_did cycle m c r e)) (λ t. called m c r points t)
    (first_or_later (Snap cycle) (Did m c r) points here)
called m c r (Did n d s ∷ points) here =
    ⊎_elim
    (λ e. let mutator : n ≡ m = cc in let call : d ≡ c = cc in
    subst (λ cs. Contains cs c) (sym (own_calls n m d s points mutator))
    (subst (λ (k : Call). Contains (d ∷ calls_by m points) k) call (0, omega arith, refl)))
    (λ t. let rest = called m c r points t in
    ⊎_elim
    (λ e. subst (λ cs. Contains cs c) (sym (own_calls n m d s points e)) (in_rest c d (calls_by m points) rest))
    (λ other. subst (λ cs. Contains cs c) (sym (other_calls n m d s points other)) rest) (cases_eq n m))
    (first_or_later (Did n d s) (Did m c r) points here)

-- a name that a point makes is one of those made
made_here : (p : Point) (x : Name) (points : List Point) → Contains points p → Contains (made_by p) x
    → Contains (flat_map made_by points) x
made_here p x [] here made = absurd (let l : here.0 < 0 = here.1 in omega arith)
made_here p x (q ∷ points) here made =
    ⊎_elim
    (λ e. Contains-append_left (made_by q) (flat_map made_by points) x
    (subst (λ z. Contains (made_by z) x) (sym e) made))
    (λ t. Contains-append_right (made_by q) (flat_map made_by points) x (made_here p x points t made))
    (first_or_later q p points here)

split_at : (p : Point) (points : List Point) → Contains points p → (before : List Point) × (after : List Point)
    × (points ≡ before ++ p ∷ after)
split_at p [] here = absurd (let l : here.0 < 0 = here.1 in omega arith)
split_at p (q ∷ points) here =
    ⊎_elim (λ e. ([], points, ap (λ z. z ∷ points) e))
    (λ t. let s = split_at p points t in (q ∷ s.0, s.1, ap (λ ps. q ∷ ps) s.2)) (first_or_later q p points here)

no_row : (rows : List (List Value)) (m q : ℕ) (v : Value) → length rows ≤ m
    → slice_get (get_or rows m []) q ≡ Some v → ⊥
no_row [] m q v le at = none-some v at
no_row (row ∷ rows) zero q v le at = absurd (omega arith)
no_row (row ∷ rows) (suc m) q v le at = no_row rows m q v (omega arith) at

-- who has a root has a program
root_has_program : (w : Facts) (history : List Point) (m root : ℕ) → IsLegal w history
    → HasRoot (state_of w history) m root → m < length w.programs
root_has_program w history m root legal has =
    let rows = (has_roots w history legal).rows in
    ⊎_elim (λ l. l)
    (λ over. absurd
    (no_row (state_of w history).roots m root has.0
    (let d : length (state_of w history).roots ≤ m = omega arith in d) has.1))
    (cases_lt m (length w.programs))

-- the number of a point of a legal history that follows the programs is one of theirs
number_fits : (w : Facts) (history : List Point) (m : ℕ) (c : Call) (r : Reply) → IsLegal w history
    → FollowsPrograms w.programs history
    → ProgramsFit w.programs → Contains history (Did m c r) → CallFits c
number_fits w history m (call.Num root x) r legal follows programs here =
    let s = split_at (Did m (call.Num root x) r) history here in
    let along : IsLegal w (s.0 ++ Did m (call.Num root x) r ∷ s.1) = subst (IsLegal w) s.2 legal in
    let has = has_of s.0 r (legal_at w s.0 (Did m (call.Num root x) r) s.1 along) in
    let l = root_has_program w s.0 m root (legal_prefix w s.0 (Did m (call.Num root x) r ∷ s.1) along) has in
    ⊎_elim
    (λ t. let rest = follows m t.0 t.2 in
    programs m t.0 (call.Num root x) t.2 (subst (λ cs. Contains cs (call.Num root x)) rest.1
    (Contains-append_left (calls_by m history) rest.0 (call.Num root x) (called m (call.Num root x) r history here))))
    (λ t. let over = t.0 in absurd (omega arith)) (slice_get_cases w.programs m).1
  where
    has_of : (before : List Point) (reply : Reply) → IsLawfulReply (state_of w before) m (call.Num root x) reply
        → HasRoot (state_of w before) m root
    has_of before (reply.Value v) lawful = lawful.0
    has_of before reply lawful = absurd lawful
number_fits w history m c r legal follows programs here = tt

name_fits : (w : Facts) (front : Seen) (x : Name) → NamesFit w → IsLawfulFront w front
    → Contains (names_made front.history) x → FitsName x
name_fits w front x fit lawful made =
    let range = lawful.names x made in
    let low = range.entry in let few = fit.entries in
    let young = range.generation in let fewer = fit.generations in (
      (let d : x.entry < 2 ^ 20 = omega arith in d),
      (let d : x.generation < 2 ^ 20 = omega arith in d),
    )

-- In a lawful front that follows the programs, each value in a root or a field fits its word.
pub heap_fits : (w : Facts) (front : Seen) → ProgramsFit w.programs → NamesFit w → IsLawfulFront w front
    → FollowsPrograms w.programs front.history → ValuesFit (state_of w front.history)
    × RootsFit (state_of w front.history)
heap_fits w front programs names lawful follows =
    let h = front.history in
    let points : (p : Point) → Contains h p → PointFits p = each in
    let fits = fits_along (opening_of w) h lawful.legal points
    (opening_fits w (name_fits w front board_name names lawful (0, omega arith, refl))) in
    (fits.values, fits.roots)
  where
    each : (p : Point) → Contains front.history p → PointFits p
    each (Did m c r) here = (
      number_fits w front.history m c r lawful.legal follows programs here,
      (λ x made. name_fits w front x names lawful
          (Contains-append_right (board_name ∷ []) (flat_map made_by front.history) x
          (made_here (Did m c r) x front.history here made))),
    )
    each (Snap cycle) here = tt
