-- Clauses by cases.
use Rattle.std.proofs.Common.{◌≡◌, ◌↔◌, ℕ, zero, suc, ◌+◌, ◌<◌, ◌⊎◌, ⊎_elim, List, [], ◌∷◌, length, take, get_or}
use Rattle.std.proofs.Common.{slice_get, Some, None, IsTrue, true, sym, ap, subst, refl, ◌∙◌, arith}
use Rattle.std.proofs.lemmas.Option.{slice_get_within, get_or_from_slice_get}
use Rattle.mako_model.specs.declared.point.Point.{Point}
use Rattle.mako_model.specs.Fronts.{Seen}
use Rattle.mako_model.specs.Legal.{Facts, IsLegal}
use Rattle.mako_model.specs.Answering.{Answers, AnswersToEnd}
use Rattle.mako_judge.specs.declared.verdict.Clause.{Clause}
use Rattle.mako_judge.specs.declared.verdict.Clause.TheVariants.{Legal, Finished, Unfinished, Freed, Waits, Names}
use Rattle.mako_judge.specs.declared.verdict.Clause.TheVariants.{Reuses, Starved, Programs}
use Rattle.mako_judge.specs.declared.verdict.Fault.{Fault}
use Rattle.mako_judge.specs.declared.verdict.Verdict.{Verdict}
use Rattle.mako_judge.specs.declared.verdict.Verdict.TheVariants.{ToTheEnd, SoFar, No}
use Rattle.mako_judge.specs.Clauses.{Holds, HoldsAt, HoldsApart, HoldsBelow, IsFirstBreach}
use Rattle.mako_judge.specs.Verdicts.{rank, IsFault, IsFirstFault, IsNo, IsTrueOf}
use Rattle.mako_judge.proofs.Calling.{blank}
use Rattle.mako_judge.proofs.Replaying.{at_or_below}
use Rattle.mako_judge.proofs.Places.{legal_iff, parts_of}

-- what decides a clause at the point that is read there
pub holds_iff : (w : Facts) (front : Seen) (c is : Clause) (place : ℕ) (R : Type 0) → c ≡ is
    → R ↔ HoldsAt w front is (take place front.history) (get_or front.history place blank)
    → (q : Point) → slice_get front.history place ≡ Some q → R ↔ HoldsAt w front c (take place front.history) q
holds_iff w front c is place R e iff q at =
    subst (λ d. R ↔ HoldsAt w front d (take place front.history) q) (sym e)
    (subst (λ p. R ↔ HoldsAt w front is (take place front.history) p)
    (get_or_from_slice_get front.history place q blank at) iff)

legal_holds : (w : Facts) (front : Seen) (c : Clause) (place : ℕ) → c ≡ Legal → IsLegal w front.history
    → (q : Point) → slice_get front.history place ≡ Some q
    → IsTrue true ↔ HoldsAt w front c (take place front.history) q
legal_holds w front c place e legal q at =
    subst (λ d. IsTrue true ↔ HoldsAt w front d (take place front.history) q) (sym e)
    ((λ t. (legal_iff w front.history).0 legal place q (slice_get_within front.history place q at) at), (λ h. refl))

-- the clauses that ask nothing of a point of a legal history
pub rest_hold : (w : Facts) (front : Seen) (c : Clause) (place : ℕ) → (c ≡ Legal)
    ⊎ ((c ≡ Finished) ⊎ ((c ≡ Unfinished) ⊎ (c ≡ Freed))) → IsLegal w front.history
    → (q : Point) → slice_get front.history place ≡ Some q
    → IsTrue true ↔ HoldsAt w front c (take place front.history) q
rest_hold w front c place e legal q at =
    let at_c : Clause → Type 0 = λ (d : Clause). IsTrue true ↔ HoldsAt w front d (take place front.history) q in
    ⊎_elim (λ t. legal_holds w front c place t legal q at)
    (λ s. ⊎_elim (λ t. subst at_c (sym t) ((λ u. tt), (λ h. refl)))
    (λ r. ⊎_elim (λ t. subst at_c (sym t) ((λ u. tt), (λ h. refl)))
    (λ t. subst at_c (sym t) ((λ u. tt), (λ h. refl))) r) s) e

-- ---- faults

-- a front with a breach does not meet the clause
pub breach_breaks : (w : Facts) (front : Seen) (c : Clause) (place : ℕ) → IsFirstBreach w front c place
    → ¬ Holds w front c
breach_breaks w front c place breach holds =
    breach.broken (((parts_of w front c).0 holds).1 place breach.point
    (slice_get_within front.history place breach.point breach.there) breach.there)

pub fault_there : (w : Facts) (front : Seen) (c : Clause) (place : ℕ) → IsFirstBreach w front c place
    → IsFault w front c (Some place)
fault_there w front c place breach = record { broken = breach_breaks w front c place breach; place = breach }

pub fault_apart : (w : Facts) (front : Seen) (c : Clause) → ¬ HoldsApart w front c
    → HoldsBelow w front c (length front.history) → IsFault w front c None
fault_apart w front c broken below = record { broken = λ holds. broken ((parts_of w front c).0 holds).0; place = below }

answers_hold : (w : Facts) (front : Seen) → Answers w front → (c : Clause) → Holds w front c
answers_hold w front answers Legal = answers.lawful.legal
answers_hold w front answers Finished = answers.lawful.finished
answers_hold w front answers Unfinished = answers.lawful.unfinished
answers_hold w front answers Freed = answers.lawful.freed
answers_hold w front answers Waits = answers.lawful.waits
answers_hold w front answers Names = answers.lawful.names
answers_hold w front answers Reuses = answers.lawful.reuses
answers_hold w front answers Starved = answers.starved
answers_hold w front answers Programs = answers.programs

-- a front answers the script where it meets each clause
pub answers_iff : (w : Facts) (front : Seen) → Answers w front ↔ ((c : Clause) → Holds w front c)
answers_iff w front = (
  answers_hold w front,
  λ each. record {
    lawful = record {
      legal = each Legal;
      finished = each Finished;
      unfinished = each Unfinished;
      freed = each Freed;
      waits = each Waits;
      names = each Names;
      reuses = each Reuses;
    };
    starved = each Starved;
    programs = each Programs;
  },
)

-- ---- verdicts

-- what the verdict says is said by no other
pub no_answers : (w : Facts) (front : Seen) (fault : Fault) → IsFirstFault w front fault → ¬ Answers w front
no_answers w front fault is answers = is.is.broken (answers_hold w front answers fault.clause)

to_end_not_so_far : ToTheEnd ≡ SoFar → ⊥
to_end_not_so_far e = cc

no_not_end : (fault : Fault) → No fault ≡ ToTheEnd → ⊥
no_not_end fault e = cc

no_not_so_far : (fault : Fault) → No fault ≡ SoFar → ⊥
no_not_so_far fault e = cc

no_fault : (a b : Fault) → No a ≡ No b → a ≡ b
no_fault a b e = cc

not_no_end : (fault : Fault) → ToTheEnd ≡ No fault → ⊥
not_no_end fault e = cc

not_no_so_far : (fault : Fault) → SoFar ≡ No fault → ⊥
not_no_so_far fault e = cc

pub end_iff : (w : Facts) (front : Seen) (v : Verdict) → IsTrueOf w front v → (v ≡ ToTheEnd) ↔ AnswersToEnd w front
end_iff w front ToTheEnd is = ((λ e. is), (λ answers. refl))
end_iff w front SoFar is = ((λ e. absurd (to_end_not_so_far (sym e))), (λ answers. absurd (is.1 answers)))
end_iff w front (No fault) is =
    ((λ e. absurd (no_not_end fault e)), (λ answers. absurd (no_answers w front fault is answers.answers)))

pub so_far_iff : (w : Facts) (front : Seen) (v : Verdict) → IsTrueOf w front v
    → (v ≡ SoFar) ↔ (Answers w front × ¬ AnswersToEnd w front)
so_far_iff w front ToTheEnd is = ((λ e. absurd (to_end_not_so_far e)), (λ far. absurd (far.1 is)))
so_far_iff w front SoFar is = ((λ e. is), (λ far. refl))
so_far_iff w front (No fault) is =
    ((λ e. absurd (no_not_so_far fault e)), (λ far. absurd (no_answers w front fault is far.0)))

pub no_iff : (w : Facts) (front : Seen) (v : Verdict) → IsTrueOf w front v → IsNo v ↔ (¬ Answers w front)
no_iff w front ToTheEnd is = ((λ e. absurd e), (λ never. absurd (never is.answers)))
no_iff w front SoFar is = ((λ e. absurd e), (λ never. absurd (never is.0)))
no_iff w front (No fault) is = ((λ t. no_answers w front fault is), (λ never. tt))

pub first_of_verdict : (w : Facts) (front : Seen) (v : Verdict) → IsTrueOf w front v → (fault : Fault) → v ≡ No fault
    → IsFirstFault w front fault
first_of_verdict w front ToTheEnd is fault e = absurd (not_no_end fault e)
first_of_verdict w front SoFar is fault e = absurd (not_no_so_far fault e)
first_of_verdict w front (No other) is fault e = subst (IsFirstFault w front) (no_fault other fault e) is

-- ---- the order of the clauses

pub rank_below : (c : Clause) → rank c < 9
rank_below Legal = omega arith
rank_below Finished = omega arith
rank_below Unfinished = omega arith
rank_below Freed = omega arith
rank_below Waits = omega arith
rank_below Names = omega arith
rank_below Reuses = omega arith
rank_below Starved = omega arith
rank_below Programs = omega arith

-- the clauses in their order
abbrev pub in_order : List Clause
in_order = Legal ∷ Finished ∷ Unfinished ∷ Freed ∷ Waits ∷ Names ∷ Reuses ∷ Starved ∷ Programs ∷ []

at_rank : (c : Clause) → get_or in_order (rank c) Legal ≡ c
at_rank Legal = refl
at_rank Finished = refl
at_rank Unfinished = refl
at_rank Freed = refl
at_rank Waits = refl
at_rank Names = refl
at_rank Reuses = refl
at_rank Starved = refl
at_rank Programs = refl

rank_at : (i : ℕ) → i < 9 → rank (get_or in_order i Legal) ≡ i
rank_at zero l = refl
rank_at (suc zero) l = refl
rank_at (suc (suc zero)) l = refl
rank_at (suc (suc (suc zero))) l = refl
rank_at (suc (suc (suc (suc zero)))) l = refl
rank_at (suc (suc (suc (suc (suc zero))))) l = refl
rank_at (suc (suc (suc (suc (suc (suc zero)))))) l = refl
rank_at (suc (suc (suc (suc (suc (suc (suc zero))))))) l = refl
rank_at (suc (suc (suc (suc (suc (suc (suc (suc zero)))))))) l = refl
rank_at (suc (suc (suc (suc (suc (suc (suc (suc (suc i))))))))) l = absurd (omega arith)

-- one clause more is met
pub met_more : (w : Facts) (front : Seen) (i : ℕ) → Holds w front (get_or in_order i Legal)
    → ((c : Clause) → rank c < i → Holds w front c) → (c : Clause) → rank c < i + 1 → Holds w front c
met_more w front i here met c l =
    ⊎_elim (λ e. subst (Holds w front) (ap (λ (k : ℕ). get_or in_order k Legal) (sym e) ∙ at_rank c) here)
    (λ less. met c less) (at_or_below (rank c) i l)

-- or it is the first that is not
pub first_not_met : (w : Facts) (front : Seen) (i : ℕ) (fault : Fault) → i < 9
    → (fault.clause ≡ get_or in_order i Legal) × IsFault w front (get_or in_order i Legal) fault.place
    → ((c : Clause) → rank c < i → Holds w front c) → IsFirstFault w front fault
first_not_met w front i fault l is met =
    let same : rank fault.clause ≡ i = ap rank is.0 ∙ rank_at i l in record {
      is = subst (λ c. IsFault w front c fault.place) (sym is.0) is.1;
      before = λ earlier less. met earlier (omega arith);
    }

-- a history that is not legal is at fault first for that
pub not_legal : (w : Facts) (front : Seen) (place : ℕ) → IsFirstBreach w front Legal place
    → IsFirstFault w front (record { clause = Legal; place = Some place })
not_legal w front place breach = record {
  is = fault_there w front Legal place breach;
  before = λ earlier less. absurd (omega arith);
}
