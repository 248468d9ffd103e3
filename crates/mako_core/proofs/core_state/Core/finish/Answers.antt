use Rattle.std.proofs.Common.{◌≡◌, ◌+◌, ◌-◌, ◌++◌, ℕ, List, length, map, take, slice_get, Some, sym, ap, subst, ◌∙◌}
use Rattle.std.proofs.Common.{arith, Vec, Global}
use Rattle.std.proofs.lemmas.List.{length-map}
use Rattle.mako_model.specs.Answering.{Answers, AnswersToEnd}
use Rattle.mako_model.specs.Fronts.{Seen, replies_to}
use Rattle.mako_model.specs.declared.call.Call.{Call}
use Rattle.mako_model.specs.declared.point.Point.{Point}
use Rattle.mako_model.specs.declared.reply.Reply.{Reply}
use Rattle.mako_script.specs.Programs.{ProgramView}
use Rattle.mako_script.specs.ScriptFacts.{facts_of}
use Rattle.mako_whole.specs.AllStanding.{SeatsStand}
use Rattle.mako_core.specs.Cores.{CoreView, cycles_kept}
use Rattle.mako_core.specs.Endings.{replies_in, AllAtEnd}
use Rattle.mako_core.proofs.Finishing.{last_collector, replies_are, programs_count, answers, answers_to_end}
use Rattle.mako_core.proofs.core_state.Core.finish.Goals as goal

pub take_collector-collector-requires : goal.take_collector-collector-requires
take_collector-collector-requires g c =
    let in_ = c.self.inside in
    let s = in_.script.value in
    let stands = c.self.invariant.stands in
    let items = in_.seats.items in
    last_collector s.numbers (facts_of s) _ stands

pub with_replies-requires : goal.with_replies-requires
with_replies-requires g c =
    let in_ = c.self.inside in
    let s = in_.script.value in
    let stands = c.self.invariant.stands in
    let items = in_.seats.items in
    let listed = replies_are s.numbers (facts_of s) _ stands in
    let rest = c.take_collector-collector.ensures.rest in
    let count = listed.count in
    let programs = length-map {A = ProgramView} {B = List Call} s.programs (λ p. p.calls) in
    let mutators = programs_count s.numbers (facts_of s) _ stands in
    let kept = ap (λ l. length (replies_in l)) rest in
    let none = ap length c.self.invariant.lists_are in
    omega (arith, kept, count, programs, mutators, none, in_.lists.ok.0, c.self.invariant.lists_fit)

pub returns-clause-whole : goal.returns-clause-whole
returns-clause-whole g c =
    let in_ = c.self.inside in
    let s = in_.script.value in
    let stands = c.self.invariant.stands in
    let items = in_.seats.items in
    let listed = replies_are s.numbers (facts_of s) _ stands in
    let rest = c.take_collector-collector.ensures.rest in
    let count = listed.count in
    let lists_are : map (λ (v : Vec Reply Global). v.items) c.with_replies.result.items ≡ replies_in
    (take (length items - 1) items) =
    c.with_replies.ensures
    ∙ ap (λ ls. map (λ (v : Vec Reply Global). v.items) ls ++ replies_in c.take_collector-collector.new.seats.items)
    c.self.invariant.lists_are ∙ ap replies_in rest in
    let many = ap length lists_are in
    record {
      replies = λ m low. ap (λ (l : List (List Reply)). slice_get l m) lists_are
          ∙ listed.each m (omega (arith, low, many, count))
          ∙ ap (λ (j : ℕ). Some (replies_to j in_.journal.points)) (let e : 0 + m ≡ m = omega arith in e)
          ∙ ap (λ (h : List Point). Some (replies_to m h)) (sym c.of-front.ensures.history);
    }

pub returns-clause-freed : goal.returns-clause-freed
returns-clause-freed g c =
    ap (λ l. l.lists) c.into_cycles.ensures ∙ sym (c.of-front.ensures.finished ∙ ap (λ l. l.lists) c.cycles.ensures)

pub returns-clause-lists : goal.returns-clause-lists
returns-clause-lists g c =
    let in_ = c.self.inside in
    let s = in_.script.value in
    let stands = c.self.invariant.stands in
    let items = in_.seats.items in
    let listed = replies_are s.numbers (facts_of s) _ stands in
    let rest = c.take_collector-collector.ensures.rest in
    let count = listed.count in
    let lists_are : map (λ (v : Vec Reply Global). v.items) c.with_replies.result.items ≡ replies_in
    (take (length items - 1) items) =
    c.with_replies.ensures
    ∙ ap (λ ls. map (λ (v : Vec Reply Global). v.items) ls ++ replies_in c.take_collector-collector.new.seats.items)
    c.self.invariant.lists_are ∙ ap replies_in rest in
    let programs = length-map {A = ProgramView} {B = List Call} s.programs (λ p. p.calls) in
    let mutators = programs_count s.numbers (facts_of s) _ stands in
    ap length lists_are ∙ count ∙ sym mutators ∙ programs
    ∙ ap (λ (q : CoreView). length q.script.programs) c.self.view_is

pub returns-clause-front : goal.returns-clause-front
returns-clause-front g c =
    let in_ = c.self.inside in
    let s = in_.script.value in
    let stands = c.self.invariant.stands in
    let items = in_.seats.items in
    let finished = c.of-front.ensures.finished ∙ ap (λ l. l.lists) c.cycles.ensures
    ∙ sym (ap cycles_kept c.take_collector-collector.ensures.collector) in
    let front : c.of-front.result ≡ record {
      history = in_.journal.points;
      finished = cycles_kept (slice_get items (length items - 1));
    } =
    λ k. record { history = c.of-front.ensures.history k; finished = finished k } in
    front ∙ ap (λ (q : CoreView). q.state.front) c.self.view_is

pub returns-clause-answers : goal.returns-clause-answers
returns-clause-answers g c =
    let in_ = c.self.inside in
    let s = in_.script.value in
    let stands = c.self.invariant.stands in
    let items = in_.seats.items in
    let finished = c.of-front.ensures.finished ∙ ap (λ l. l.lists) c.cycles.ensures
    ∙ sym (ap cycles_kept c.take_collector-collector.ensures.collector) in
    let front : c.of-front.result ≡ record {
      history = in_.journal.points;
      finished = cycles_kept (slice_get items (length items - 1));
    } =
    λ k. record { history = c.of-front.ensures.history k; finished = finished k } in
    subst (λ (q : CoreView). Answers (facts_of q.script) c.of-front.result) c.self.view_is
    (subst (λ (f : Seen). Answers (facts_of s) f) (sym front) (answers s.numbers (facts_of s) _ stands))

pub returns-clause-end : goal.returns-clause-end
returns-clause-end g c =
    let in_ = c.self.inside in
    let s = in_.script.value in
    let stands = c.self.invariant.stands in
    let items = in_.seats.items in
    let finished = c.of-front.ensures.finished ∙ ap (λ l. l.lists) c.cycles.ensures
    ∙ sym (ap cycles_kept c.take_collector-collector.ensures.collector) in
    let front : c.of-front.result ≡ record {
      history = in_.journal.points;
      finished = cycles_kept (slice_get items (length items - 1));
    } =
    λ k. record { history = c.of-front.ensures.history k; finished = finished k } in
    subst (λ (q : CoreView). AllAtEnd q.script.numbers q.state.seats
    → AnswersToEnd (facts_of q.script) c.of-front.result) c.self.view_is
    (λ end. subst (λ (f : Seen). AnswersToEnd (facts_of s) f) (sym front)
    (answers_to_end s.numbers (facts_of s) _ stands end))

pub returns-clause-holds : goal.returns-clause-holds
returns-clause-holds g c =
    let in_ = c.self.inside in
    let s = in_.script.value in
    let stands = c.self.invariant.stands in
    let items = in_.seats.items in
    subst (λ (q : CoreView). SeatsStand q.script.numbers (facts_of q.script) q.state) c.self.view_is stands
