-- Writing a text piece by piece.
use Rattle.std.proofs.Common.{◌≡◌, ℕ, suc, ◌+◌, ◌-◌, ◌<◌, ◌≤◌, List, [], ◌∷◌, ◌++◌, length, take, drop}
use Rattle.std.proofs.Common.{get_or, map, Option, Some, Result, Ok, Err, refl, sym, ap, subst, ◌∙◌, append_assoc}
use Rattle.std.proofs.Common.{arith, length-append}
use Rattle.std.proofs.lemmas.List.{append-nil, take-append-le, drop_more, drop_all, length-map}
use Rattle.std.specs.Io.KnownBytes.{Appends}
use Rattle.std.proofs.KnownBytes.{Appends-trans, Appends-nil}
use Rattle.std.specs.List.{flat_map, enumerate_from, range_with_len}
use Rattle.std.specs.Prelude.{slice_get}
use Rattle.mako_words.specs.declared.name.Name.{Name}
use Rattle.mako_model.specs.declared.point.Point.{Point}
use mathlib.Core.List.{IsPrefix}
use Rattle.mako_model.specs.Fronts.{answered_by, calls_by, replies_to, FollowsPrograms}
use Rattle.mako_model.specs.Outcomes.{IsWhole, reply_lists}
use Rattle.mako_model.specs.declared.outcome.Outcome.{Outcome}
use Rattle.mako_text.specs.Programs.{ProgramView}
use Rattle.std.proofs.lemmas.Option.{get_or_from_slice_get, slice_get-get_or}
use Rattle.mako_io.specs.declared.writing.WriteFault.{WriteFault}
use Rattle.mako_model.specs.declared.call.Call.{Call}
use Rattle.mako_model.specs.declared.reply.Reply.{Reply}
use Rattle.mako_text.specs.declared.writer.OutputWriter.{OutputWriter}
use Rattle.mako_text.specs.Outputs.{point_text, cycle_text, mutator_line, mutator_text}
use Rattle.mako_text.specs.Written.{Writes, raised_by, lines_text, sections_text, FitPrograms}

-- a prefix of the text went out, and this part of it is still to go
pub record Progress {K : Type 0} (taken : K → Option (List ℕ)) (text todo : List ℕ) (old now : OutputWriter K)
    : Type 0 where
  pub front : List ℕ
  pub parts : front ++ todo ≡ text
  pub sent : Appends (taken old.sink.now) (taken now.sink.now) front
  pub counted : now.went ≡ raised_by old.went (length front)

pub starts : {K : Type 0} (taken : K → Option (List ℕ)) (text : List ℕ) (w : OutputWriter K)
    → Progress taken text text w w
starts taken text w = record { front = []; parts = refl; sent = Appends-nil (taken w.sink.now); counted = omega arith }

pub goes_on : {K : Type 0} (taken : K → Option (List ℕ)) (text todo piece rest : List ℕ) (old mid new : OutputWriter K)
    → Progress taken text todo old mid → todo ≡ piece ++ rest → Writes taken piece mid new (Ok tt)
    → Progress taken text rest old new
goes_on taken text todo piece rest old mid new p split w = record {
  front = p.front ++ piece;
  parts = append_assoc p.front piece rest ∙ ap (λ (x : List ℕ). p.front ++ x) (sym split) ∙ p.parts;
  sent = Appends-trans (taken old.sink.now) (taken mid.sink.now) (taken new.sink.now) p.front piece p.sent w.0;
  counted = omega (arith, p.counted, w.1, length-append p.front piece);
}

take_behind : (front piece rest : List ℕ) (k : ℕ) → k ≤ length piece
    → take (length front + k) (front ++ (piece ++ rest)) ≡ front ++ take k piece
take_behind [] piece rest k short = let e : 0 + k ≡ k = omega arith in rw e (take-append-le k piece rest short)
take_behind (x ∷ front) piece rest k short = let e : length (x ∷ front) + k ≡ suc (length front + k) = omega arith in
    rw e (ap (λ (t : List ℕ). x ∷ t) (take_behind front piece rest k short))

pub stops : {K : Type 0} (taken : K → Option (List ℕ)) (text todo piece rest : List ℕ) (old mid new : OutputWriter K)
    (fault : WriteFault) → Progress taken text todo old mid → todo ≡ piece ++ rest
    → Writes taken piece mid new (Err fault) → Writes taken text old new (Err fault)
stops taken text todo piece rest old mid new fault p split w =
    let whole : text ≡ p.front ++ (piece ++ rest) = sym p.parts ∙ ap (λ (x : List ℕ). p.front ++ x) split in
    let out = w.0 in (
      record {
        bytes = length p.front + out.bytes;
        short = omega
            (arith, ap length whole, length-append p.front (piece ++ rest), length-append piece rest, out.short);
        taken = rw (whole, take_behind p.front piece rest out.bytes (omega (arith, out.short)))
            (Appends-trans (taken old.sink.now) (taken mid.sink.now) (taken new.sink.now) p.front
            (take out.bytes piece) p.sent out.taken);
        counted = omega (arith, p.counted, out.counted);
      },
      w.1,
    )

pub done : {K : Type 0} (taken : K → Option (List ℕ)) (text todo : List ℕ) (old new : OutputWriter K) → todo ≡ []
    → Progress taken text todo old new → Writes taken text old new (Ok tt)
done taken text todo old new none p =
    let whole : p.front ≡ text = sym (append-nil p.front) ∙ ap (λ (x : List ℕ). p.front ++ x) (sym none) ∙ p.parts in (
      subst (Appends (taken old.sink.now) (taken new.sink.now)) whole p.sent,
      omega (arith, p.counted, ap length whole),
    )

-- one piece and another
pub both : {K : Type 0} (taken : K → Option (List ℕ)) (a b : List ℕ) (old mid new : OutputWriter K)
    (r : Result (Unit {0}) WriteFault) → Writes taken a old mid (Ok tt) → Writes taken b mid new r
    → Writes taken (a ++ b) old new r
both taken a b old mid new (Ok x) v w =
    done taken (a ++ b) [] old new refl
    (goes_on taken (a ++ b) b b [] old mid new
    (goes_on taken (a ++ b) (a ++ b) a b old old mid (starts taken (a ++ b) old) refl v) (sym (append-nil b)) w)
both taken a b old mid new (Err fault) v w =
    stops taken (a ++ b) b b [] old mid new fault
    (goes_on taken (a ++ b) (a ++ b) a b old old mid (starts taken (a ++ b) old) refl v) (sym (append-nil b)) w

pub first : {K : Type 0} (taken : K → Option (List ℕ)) (a b : List ℕ) (old new : OutputWriter K) (fault : WriteFault)
    → Writes taken a old new (Err fault) → Writes taken (a ++ b) old new (Err fault)
first taken a b old new fault w =
    stops taken (a ++ b) (a ++ b) a b old old new fault (starts taken (a ++ b) old) refl w

-- the next line, and the lines behind it
pub lines_more : (calls : List Call) (replies : List Reply) (i : ℕ) (c : Call) (r : Reply) → i < length calls
    → i < length replies
    → lines_text (drop i calls) (drop i replies) ≡ point_text (get_or calls i c, get_or replies i r) ++ lines_text
    (drop (i + 1) calls) (drop (i + 1) replies)
lines_more calls replies i c r a b = rw (drop_more calls i c a, drop_more replies i r b) refl

pub lines_none : (calls : List Call) (replies : List Reply) (i : ℕ) → length replies ≤ i
    → lines_text (drop i calls) (drop i replies) ≡ []
lines_none calls replies i past = rw (drop_all i replies past) refl

pub flat_more : {X : Type 0} (f : X → List ℕ) (xs : List X) (i : ℕ) (d : X) → i < length xs
    → flat_map f (drop i xs) ≡ f (get_or xs i d) ++ flat_map f (drop (i + 1) xs)
flat_more f xs i d within = rw (drop_more xs i d within) refl

pub flat_none : {X : Type 0} (f : X → List ℕ) (xs : List X) (i : ℕ) → length xs ≤ i → flat_map f (drop i xs) ≡ []
flat_none f xs i past = rw (drop_all i xs past) refl

-- the line of the next cycle, and those behind it
pub cycles_more : (lists : List (List Name)) (k : ℕ) (d : List Name) → k < length lists
    → flat_map cycle_text (enumerate_from (k + 1) (drop k lists)) ≡ cycle_text
    (k + 1, get_or lists k d) ++ flat_map cycle_text (enumerate_from (k + 1 + 1) (drop (k + 1) lists))
cycles_more lists k d within = rw (drop_more lists k d within) refl

pub cycles_none : (lists : List (List Name)) (k : ℕ) → length lists ≤ k
    → flat_map cycle_text (enumerate_from (k + 1) (drop k lists)) ≡ []
cycles_none lists k past = rw (drop_all k lists past) refl

-- the section of the next mutator, and those behind it
pub sections_more : (programs : List (List Call)) (lists : List (List Reply)) (m : ℕ) (c : List Call) (r : List Reply)
    → m < length programs → m < length lists
    → sections_text m (drop m programs)
    (drop m lists) ≡ (mutator_line m ++ lines_text (get_or programs m c) (get_or lists m r)) ++ sections_text
    (m + 1) (drop (m + 1) programs) (drop (m + 1) lists)
sections_more programs lists m c r a b = rw (drop_more programs m c a, drop_more lists m r b) refl

pub sections_none : (programs : List (List Call)) (lists : List (List Reply)) (m : ℕ) → length lists ≤ m
    → sections_text m (drop m programs) (drop m lists) ≡ []
sections_none programs lists m past = rw (drop_all m lists past) refl

-- what a mutator's program and its replies print is what the history answered it
pub answered_lines : (pairs : List (Call × Reply)) (rest : List Call)
    → lines_text (map (λ p. p.0) pairs ++ rest) (map (λ p. p.1) pairs) ≡ flat_map point_text pairs
answered_lines [] rest = refl
answered_lines (p ∷ pairs) rest = ap (λ (t : List ℕ). point_text p ++ t) (answered_lines pairs rest)

-- and so for the mutators from a number on
pub answered_sections : (programs : List (List Call)) (lists : List (List Reply)) (history : List Point) (m : ℕ)
    → length lists ≡ length programs
    → ((k : ℕ) → k < length lists → slice_get lists k ≡ Some (replies_to (m + k) history))
    → ((k : ℕ) (program : List Call) → slice_get programs k ≡ Some program
    → IsPrefix (calls_by (m + k) history) program)
    → sections_text m programs lists ≡ flat_map (mutator_text history) (range_with_len m (length programs))
answered_sections [] [] history m same replies follows = refl
answered_sections [] (l ∷ lists) history m same replies follows = absurd (omega arith)
answered_sections (p ∷ programs) [] history m same replies follows = absurd (omega arith)
answered_sections (p ∷ programs) (l ∷ lists) history m same replies follows =
    let zero_more : m + 0 ≡ m = omega arith in
    let l_is : l ≡ replies_to m history = same_some (replies 0 (omega arith))
    ∙ ap (λ (n : ℕ). replies_to n history) zero_more in
    let p_is = rw zero_more at (follows 0 p refl) in
    let head : lines_text p l ≡ flat_map point_text (answered_by m history) =
    ap (λ (x : List Call). lines_text x l) (sym p_is.1)
    ∙ ap (λ (x : List Reply). lines_text (calls_by m history ++ p_is.0) x) l_is
    ∙ answered_lines (answered_by m history) p_is.0 in
    let tail = answered_sections programs lists history (m + 1) (omega arith)
    (λ k below. replies (suc k) (omega arith) ∙ ap (λ (n : ℕ). Some (replies_to n history)) (omega arith))
    (λ k program at. let h = follows (suc k) program at in
    subst (λ (n : ℕ). IsPrefix (calls_by n history) program) (omega arith) h) in
    ap (λ (t : List ℕ). mutator_line m ++ t ++ sections_text (m + 1) programs lists) head
    ∙ ap (λ (t : List ℕ). (mutator_line m ++ flat_map point_text (answered_by m history)) ++ t) tail
  where
    same_some : {A : Type 0} {x y : A} → Some x ≡ Some y → x ≡ y
    same_some e = cc

pub freed_at : (lists : List (List Name)) (k : ℕ) (names : List Name) → slice_get lists (k + 1 - 1) ≡ Some names
    → get_or lists k names ≡ names
freed_at lists k names e = let at : slice_get lists k ≡ Some names = ap (slice_get lists) (omega arith) ∙ e in
    get_or_from_slice_get lists k names names at

module _ (programs : List ProgramView) (o : Outcome) (whole : IsWhole o)
    (same : length (reply_lists o) ≡ length programs)
    (follows : FollowsPrograms (map (λ p. p.calls) programs) o.front.history) where
  -- the lines of all programs with all replies are the sections of the output
  pub output_sections : sections_text 0 (map (λ p. p.calls) programs) (reply_lists o) ≡ flat_map
      (mutator_text o.front.history) (range_with_len 0 (length programs))
  output_sections =
      answered_sections (map (λ p. p.calls) programs) (reply_lists o) o.front.history 0 (same
      ∙ sym (length-map programs (λ p. p.calls)))
      (λ k below. whole.replies k below ∙ ap (λ (n : ℕ). Some (replies_to n o.front.history)) (omega arith))
      (λ k program at. subst (λ (n : ℕ). IsPrefix (calls_by n o.front.history) program) (omega arith)
      (follows k program at))
      ∙ ap (λ (n : ℕ). flat_map (mutator_text o.front.history) (range_with_len 0 n))
      (length-map programs (λ p. p.calls))

  -- no mutator has more replies than calls
  pub fit_programs : FitPrograms (map (λ p. p.calls) programs) (reply_lists o)
  fit_programs m below =
      let history = o.front.history in
      let calls : List (List Call) = map (λ p. p.calls) programs in
      let replies : get_or (reply_lists o) m [] ≡ replies_to m history =
      get_or_from_slice_get (reply_lists o) m (replies_to m history) [] (whole.replies m below) in
      let start = follows m (get_or calls m [])
      (slice_get-get_or calls m [] (omega (arith, length-map programs (λ p. p.calls)))) in
      omega (
        arith,
        ap length replies,
        ap length start.1,
        length-append (calls_by m history) start.0,
        length-map
            (answered_by m history) (λ p. p.0),
        length-map (answered_by m history) (λ p. p.1),
      )
