-- The poller meets the workers one after another.
use Rattle.std.proofs.Common.{◌≡◌, ℕ, ◌+◌, ◌*◌, ◌≤◌, List, [], ◌∷◌, ◌++◌, length, length-append, sum_by, All, Some}
use Rattle.std.proofs.Common.{sym, ap, ◌∙◌, subst, arith, suc-mul, mul_comm}
use lib.ListN.{get_or-append}
use lib.Seq.{get_or-append_seam}
use Rattle.atomic_table.specs.Seated.{TableId}
use Rattle.std.proofs.lemmas.List.Sums.{sum_by-cons}
use Rattle.std.proofs.lemmas.List.Elements.{All-head, All-tail, All-push}
use Rattle.mako_count.specs.declared.views.WorkerView.{WorkerView}
use Rattle.mako_count.specs.declared.views.PollView.{PollView}
use Rattle.mako_count.specs.States.{WorkerState, PollerState}
use Rattle.mako_count.specs.Meetings.{MeetingTells}
use Rattle.mako_count.specs.Running.{SendsInTurn, IsBetweenPieces, AreBetweenPieces}

abbrev pub HasDone : ℕ → WorkerView → Type 0
HasDone most w = (w.seeds ≡ most) × SendsInTurn most w

-- some workers are met and these are left
pub record Meeting (table : TableId) (crew most pieces : ℕ) (poller : PollerState)
    (left : List WorkerState) : Type 0 where
  pub tables : poller.table ≡ table
  pub told : poller.poll.told ≡ Some pieces
  pub tells : MeetingTells crew poller.met poller.poll
  pub done : All (HasDone most) poller.met
  pub between : AreBetweenPieces table most most left
  pub count : length poller.met + length left ≡ crew

all_sent : (most : ℕ) (ws : List WorkerView) → All (HasDone most) ws → All (λ w. w.seeds ≤ w.handled) ws
    → sum_by (λ w. w.seeds + w.sends) ws ≡ length ws * (2 * most)
all_sent most [] done handled = omega arith
all_sent most (w ∷ ws) done handled =
    let rest = all_sent most ws (All-tail (HasDone most) w ws done)
    (All-tail (λ (x : WorkerView). x.seeds ≤ x.handled) w ws handled) in
    let here = All-head (HasDone most) w ws done in let seeds = here.0 in let sends = here.1 in
    let enough = All-head (λ (x : WorkerView). x.seeds ≤ x.handled) w ws handled in
    let e = sum_by-cons (λ (x : WorkerView). x.seeds + x.sends) w ws in let m = suc-mul (length ws) (2 * most) in
    omega (arith, rest, seeds, sends, enough, e, m)

pub met_them_all : (table : TableId) (crew most pieces : ℕ) (p : PollerState) (left : List WorkerState)
    → Meeting table crew most pieces p left → length left ≡ 0 → pieces ≡ 2 * most * crew
met_them_all table crew most pieces p left m none =
    let t = m.tells pieces m.told in let count = m.count in let long : length p.met ≡ crew = omega arith in
    t.1 long ∙ (all_sent most p.met m.done t.0 ∙ (ap (λ n. n * (2 * most)) long ∙ mul_comm crew (2 * most)))

module _ (P : WorkerState → Type 0) (less : List WorkerState) (w : WorkerState) (all : All P (less ++ w ∷ [])) where
  long : length (less ++ w ∷ []) ≡ length less + 1
  long = length-append less (w ∷ [])

  but_last : All P less
  but_last k d lt = subst P (get_or-append less (w ∷ []) d k lt) (all k d (omega (arith, long)))

  the_last : P w
  the_last = subst P (get_or-append_seam less w [] w) (all (length less) w (omega (arith, long)))

pub meet_one : (table : TableId) (crew most pieces : ℕ) (p new : PollerState) (left less : List WorkerState)
    (w : WorkerState) → Meeting table crew most pieces p left → left ≡ less ++ w ∷ []
    → new.table ≡ p.table → new.poll ≡ p.poll → new.met ≡ p.met ++ w.known ∷ [] → MeetingTells crew new.met new.poll
    → Meeting table crew most pieces new less
meet_one table crew most pieces p new left less w m parts tables poll met tells =
    let Between : WorkerState → Type 0 = λ v. (v.table ≡ table) × (v.most ≡ most) × (v.known.seeds ≡ most)
    × IsBetweenPieces v in
    let all : All Between (less ++ w ∷ []) = subst (λ (l : List WorkerState). All Between l) parts m.between in
    let last = the_last Between less w all in
    let count = m.count in let more = length-append p.met (w.known ∷ []) in
    let parted : length left ≡ length less + 1 = ap (λ (l : List WorkerState). length l) parts
    ∙ length-append less (w ∷ []) in
    let long : length new.met ≡ length (p.met ++ w.known ∷ []) = ap (λ (l : List WorkerView). length l) met in record {
      tables = tables ∙ m.tables;
      told = ap (λ (q : PollView). q.told) poll ∙ m.told;
      tells = tells;
      done = subst (λ (l : List WorkerView). All (HasDone most) l) (sym met)
          (All-push (HasDone most) p.met w.known m.done (last.2, subst (λ n. SendsInTurn n w.known) last.1 last.3.1));
      between = but_last Between less w all;
      count = omega (arith, count, more, parted, long);
    }
