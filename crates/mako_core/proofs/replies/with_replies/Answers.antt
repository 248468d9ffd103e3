use Rattle.std.proofs.Common.{◌≡◌, ◌++◌, ◌∷◌, [], List, length, map, sym, ap, refl, ◌∙◌, append_assoc, append-nil}
use Rattle.std.proofs.Common.{length-append, arith, Vec, Global}
use Rattle.std.specs.Vec.Iter.{into_iter_items}
use Rattle.mako_model.specs.declared.reply.Reply.{Reply}
use Rattle.mako_core.specs.Endings.{replies_kept, replies_in}
use Rattle.mako_core.proofs.replies.with_replies.Goals as goal

nothing_left : {X : Type 0} (l : List X) → length l ≡ 0 → l ≡ []
nothing_left [] h = refl
nothing_left (x ∷ xs) h = absurd (omega arith)

pub loop-seat-init : goal.loop-seat-init
loop-seat-init c =
    let gives = c.into_iter-seat-iterator.ensures.into_iter_gives in
    let same = ap length gives.0 in
    let kept = ap (λ l. length (replies_in l)) gives.0 in
    record {
      all = refl;
      left = omega (arith, gives.1, c.args.seats.ok.0, same);
      room = omega (arith, c.requires, kept);
    }

pub keep_replies-requires : goal.keep_replies-requires
keep_replies-requires c =
    let x = c.in-Some.seat in
    let rest = replies_in (into_iter_items c.next.new.self) in
    let there : length (replies_in (into_iter_items c.loop-seat.seat-iterator)) ≡ length (replies_kept x ++ rest) =
    ap (λ l. length (replies_in l)) c.in-Some.ensures.steps.0 in
    omega (arith, there, length-append (replies_kept x) rest, c.loop-seat.invariant.room)

pub loop-seat-preserved : goal.loop-seat-preserved
loop-seat-preserved c =
    let x = c.in-Some.seat in
    let before = map (λ (v : Vec Reply Global). v.items) c.loop-seat.lists.items in
    let rest = replies_in (into_iter_items c.next.new.self) in
    let steps = c.in-Some.ensures.steps.0 in
    let gone = c.in-Some.ensures.steps.1 in
    let short = ap length steps in
    let there : replies_in (into_iter_items c.loop-seat.seat-iterator) ≡ replies_kept x ++ rest = ap replies_in steps in
    let many : length (replies_in (into_iter_items c.loop-seat.seat-iterator)) ≡ length (replies_kept x ++ rest) =
    ap length there in
    record {
      all = ap (λ l. l ++ rest) c.keep_replies.ensures.items ∙ append_assoc before (replies_kept x) rest
          ∙ ap (λ l. before ++ l) (sym there) ∙ c.loop-seat.invariant.all;
      left = let was = c.loop-seat.invariant.left in omega (arith, was, gone, short);
      room = omega (
        arith,
        many,
        length-append (replies_kept x) rest,
        c.loop-seat.invariant.room,
        c.keep_replies.ensures.len,
        c.keep_replies.ensures.capacity,
      );
    }

pub returns : goal.returns
returns c =
    let at = c.loop-seat in
    let none = c.in-None.ensures.steps in
    let empty : into_iter_items at.seat-iterator ≡ [] = nothing_left _ (sym at.invariant.left ∙ none.0) in
    let now = map (λ (v : Vec Reply Global). v.items) at.lists.items in
    let was = map (λ (v : Vec Reply Global). v.items) c.args.lists.items in
    sym (append-nil now) ∙ ap (λ l. now ++ replies_in l) (sym empty) ∙ at.invariant.all
    ∙ ap (λ l. was ++ replies_in l) c.into_iter-seat-iterator.ensures.into_iter_gives.0
