-- What a clause asks of a point of a given form.
use Rattle.std.proofs.Common.{◌≡◌, ◌↔◌, ℕ, zero, suc, drop, ◌+◌, ◌-◌, ◌<◌, ◌≤◌, ⊎_elim, Bool, true, List, [], ◌∷◌, ◌++◌}
use Rattle.std.proofs.Common.{length, Contains, map, take, get_or, slice_get, Option, Some, None, is_some, IsTrue}
use Rattle.std.proofs.Common.{MatchOption, sym, ap, subst, refl, ◌∙◌, arith}
use mathlib.Core.List.{IsPrefix}
use Rattle.std.proofs.lemmas.List.{take_more, take_all, take-append-drop}
use Rattle.std.proofs.lemmas.List.Elements.{Contains-push_cases}
use Rattle.std.proofs.lemmas.Option.{same_Some, slice_get_within, get_or_from_slice_get}
use Rattle.mako_words.specs.declared.name.Name.{Name}
use Rattle.mako_model.specs.declared.call.Call.{Call}
use Rattle.mako_model.specs.declared.reply.Reply.{Reply}
use Rattle.mako_model.specs.declared.point.Point.{Point}
use Rattle.mako_model.specs.declared.point.Point.TheVariants.{Did}
use Rattle.mako_model.specs.Fronts.{Seen, calls_by}
use Rattle.mako_model.specs.Legal.{Facts, state_of}
use Rattle.mako_model.specs.Dead.{names_made, IsDead}
use Rattle.mako_judge.specs.Clauses.{IsReuse, FollowsProgram}
use Rattle.mako_judge.proofs.Kept.{first_in, in_cases, none_in, false_true}

-- what is asked of each name that a point makes, where it makes one or none
pub made_iff : (P : Name → Type 0) (names : List Name) (name : Name) (R : Type 0) → name ∷ [] ≡ names → R ↔ P name
    → R ↔ ((x : Name) → Contains names x → P x)
made_iff P names name R is iff =
    subst (λ ns. R ↔ ((x : Name) → Contains ns x → P x)) is (
      (λ r x c. ⊎_elim (λ t. subst P t (iff.0 r)) (λ t. absurd (none_in x t)) (in_cases name [] x c)),
      (λ each. iff.1 (each name (first_in name []))),
    )

pub none_iff : (P : Name → Type 0) (names : List Name) → [] ≡ names
    → IsTrue true ↔ ((x : Name) → Contains names x → P x)
none_iff P names is =
    subst (λ ns. IsTrue true ↔ ((x : Name) → Contains ns x → P x)) is ((λ t x c. absurd (none_in x c)), (λ each. refl))

-- the name before a name
abbrev pub name_before : Name → Name
name_before name = record { entry = name.entry; generation = name.generation - 1 }

pub reuse_iff : (w : Facts) (front : Seen) (before : List Point) (name : Name) (R : Type 0) → ¬ (name.generation ≡ 0)
    → R ↔ (Contains (names_made before) (name_before name)
    × IsDead w front.history (state_of w before).snaps (name_before name)) → R ↔ IsReuse w front before name
reuse_iff w front before name R used iff = (
  (λ r generation e.
      let same : name.generation - 1 ≡ generation = omega arith in
      subst (λ (g : ℕ). Contains (names_made before) (record { entry = name.entry; generation = g })
      × IsDead w front.history (state_of w before).snaps (record { entry = name.entry; generation = g })) same
      (iff.0 r)),
  (λ reuse. iff.1 (reuse (name.generation - 1) (omega arith))),
)

-- ---- programs

module _ {A B : Type 0} where
  pub get_map : (f : A → B) (xs : List A) (i : ℕ) (d : A) → i < length xs
      → slice_get (map f xs) i ≡ Some (f (get_or xs i d))
  get_map f [] i d l = absurd (omega arith)
  get_map f (x ∷ xs) zero d l = refl
  get_map f (x ∷ xs) (suc i) d l = get_map f xs i d (omega arith)

starts_by : (program calls : List Call) (made : ℕ) → calls ≡ take made program → IsPrefix calls program
starts_by program calls made e = (
  drop made program,
  ap (λ xs. xs ++ drop made program) e
      ∙ take-append-drop made program,
)

starts_iff : (program calls : List Call) (o : Option ℕ)
    → MatchOption o (¬ IsPrefix calls program) (λ made. (calls ≡ take made program) × (made ≤ length program))
    → IsTrue (is_some o) ↔ IsPrefix calls program
starts_iff program calls None never = ((λ t. absurd (false_true t)), (λ s. absurd (never s)))
starts_iff program calls (Some made) is = ((λ t. starts_by program calls made is.0), (λ s. refl))

pub follows_iff : (w : Facts) (points : List Point) (m : ℕ) (call : Call) (reply : Reply) (p : Point)
    (program : List Call) (o : Option ℕ) (b : Bool) → p ≡ Did m call reply → slice_get w.programs m ≡ Some program
    → MatchOption o (¬ IsPrefix (calls_by m points) program) (λ made. (calls_by m points ≡ take made program)
    × (made ≤ length program)) → b ≡ is_some o → IsTrue b ↔ FollowsProgram w points p
follows_iff w points m call reply p program o b is at made e =
    let iff = starts_iff program (calls_by m points) o made in
    subst (λ q. IsTrue b ↔ FollowsProgram w points q) (sym is) (
      (λ t other there. subst (IsPrefix (calls_by m points)) (same_Some program other (sym at ∙ there)) (iff.0 (sym e
          ∙ t))),
      (λ follows. e ∙ iff.1 (follows program at)),
    )

-- ---- lists, one element more

module _ {A : Type 0} where
  -- what holds of the first elements and of the next
  pub each_more : (P : A → Type 0) (xs : List A) (i : ℕ) (d : A) → i < length xs
      → ((x : A) → Contains (take i xs) x → P x) → P (get_or xs i d) → (x : A) → Contains (take (i + 1) xs) x → P x
  each_more P xs i d l each here x c =
      ⊎_elim (λ t. each x t) (λ t. subst P t here)
      (Contains-push_cases (take i xs) (get_or xs i d) x (subst (λ ys. Contains ys x) (take_more xs i d l) c))

  -- what holds of the first elements, where there are no more
  pub each_all : (P : A → Type 0) (xs : List A) (i : ℕ) → length xs ≤ i → ((x : A) → Contains (take i xs) x → P x)
      → (x : A) → Contains xs x → P x
  each_all P xs i l each x c = each x (subst (λ ys. Contains ys x) (sym (take_all i xs l)) c)

  -- the first elements with one that is read
  pub next_taken : (xs : List A) (i : ℕ) (x : A) → slice_get xs i ≡ Some x → take (i + 1) xs ≡ take i xs ++ x ∷ []
  next_taken xs i x e = take_more xs i x (slice_get_within xs i x e)
      ∙ ap (λ y. take i xs ++ y ∷ []) (get_or_from_slice_get xs i x x e)
