use Rattle.std.proofs.Common.{◌≡◌, ◌+◌, ◌%◌, refl, sym, ap, ◌∙◌, arith}
use Rattle.mako_model.specs.declared.call.Call.TheVariants.{New, Num, CopyRoot, DropRoot, Get, Put, Show}
use Rattle.mako_gen.specs.Workloads.{word, variable, call_of_words, words_taken, rare_call, rare_draws}
use Rattle.rand_pcg.specs.Lcg.{Lcg, state_after}
use Rattle.mako_gen.proofs.Drawn.{behind, second_word, two_behind, third_word, three_behind, fourth_word, four_behind}
use Rattle.mako_gen.proofs.Drawn.{more_behind, new_kind, get_kind, put_kind}
use Rattle.mako_gen.proofs.draws.command.Goals as goal

pub returns-in-9-clause-drawn : goal.returns-in-9-clause-drawn
returns-in-9-clause-drawn c =
    let g = c.args.generator.now in
    let kind : 9 ≡ word g 0 % 16 = sym c.in-9.is ∙ c.below.ensures.drawn in
    let one = c.below.ensures.left in
    let arg0 : c.variable-to.result ≡ variable (word g 1) = c.variable-to.ensures.drawn
    ∙ ap variable (second_word _ _ one) in
    let two = two_behind _ _ _ one c.variable-to.ensures.left in
    let arg1 : c.variable-from.result ≡ variable (word g 2) = c.variable-from.ensures.drawn
    ∙ ap variable (third_word _ _ two) in
    let three = three_behind _ _ _ two c.variable-from.ensures.left in
    (λ i. CopyRoot (arg0 i) (arg1 i)) ∙ ap (λ k. call_of_words k (word g 1) (word g 2) (word g 3)) kind

pub returns-in-9-clause-left : goal.returns-in-9-clause-left
returns-in-9-clause-left c =
    let g = c.args.generator.now in
    let kind : 9 ≡ word g 0 % 16 = sym c.in-9.is ∙ c.below.ensures.drawn in
    let one = c.below.ensures.left in
    let two = two_behind _ _ _ one c.variable-to.ensures.left in
    let three = three_behind _ _ _ two c.variable-from.ensures.left in
    three ∙ ap (λ k. behind (1 + words_taken k (word g 1)) g) kind

pub returns-in-10-clause-drawn : goal.returns-in-10-clause-drawn
returns-in-10-clause-drawn c =
    let g = c.args.generator.now in
    let kind : 10 ≡ word g 0 % 16 = sym c.in-10.is ∙ c.below.ensures.drawn in
    let one = c.below.ensures.left in
    let arg0 : c.variable.result ≡ variable (word g 1) = c.variable.ensures.drawn ∙ ap variable (second_word _ _ one) in
    let two = two_behind _ _ _ one c.variable.ensures.left in
    (λ i. DropRoot (arg0 i)) ∙ ap (λ k. call_of_words k (word g 1) (word g 2) (word g 3)) kind

pub returns-in-10-clause-left : goal.returns-in-10-clause-left
returns-in-10-clause-left c =
    let g = c.args.generator.now in
    let kind : 10 ≡ word g 0 % 16 = sym c.in-10.is ∙ c.below.ensures.drawn in
    let one = c.below.ensures.left in
    let two = two_behind _ _ _ one c.variable.ensures.left in
    two ∙ ap (λ k. behind (1 + words_taken k (word g 1)) g) kind

pub returns-in-11-clause-drawn : goal.returns-in-11-clause-drawn
returns-in-11-clause-drawn c =
    let g = c.args.generator.now in
    let kind : 11 ≡ word g 0 % 16 = sym c.in-11.is ∙ c.below.ensures.drawn in
    let one = c.below.ensures.left in
    let arg0 : c.small-field.result ≡ word g 1 % 8 = c.small-field.ensures.drawn
    ∙ ap (λ x. x % 8) (second_word _ _ one) in
    let two = two_behind _ _ _ one c.small-field.ensures.left in
    let arg1 : c.variable-from-in-11.result ≡ variable (word g 2) = c.variable-from-in-11.ensures.drawn
    ∙ ap variable (third_word _ _ two) in
    let three = three_behind _ _ _ two c.variable-from-in-11.ensures.left in
    (λ i. Put 0 (arg0 i) (arg1 i)) ∙ ap (λ k. call_of_words k (word g 1) (word g 2) (word g 3)) kind

pub returns-in-11-clause-left : goal.returns-in-11-clause-left
returns-in-11-clause-left c =
    let g = c.args.generator.now in
    let kind : 11 ≡ word g 0 % 16 = sym c.in-11.is ∙ c.below.ensures.drawn in
    let one = c.below.ensures.left in
    let two = two_behind _ _ _ one c.small-field.ensures.left in
    let three = three_behind _ _ _ two c.variable-from-in-11.ensures.left in
    three ∙ ap (λ k. behind (1 + words_taken k (word g 1)) g) kind

pub returns-in-12-clause-drawn : goal.returns-in-12-clause-drawn
returns-in-12-clause-drawn c =
    let g = c.args.generator.now in
    let kind : 12 ≡ word g 0 % 16 = sym c.in-12.is ∙ c.below.ensures.drawn in
    let one = c.below.ensures.left in
    let arg0 : c.variable-to-in-12.result ≡ variable (word g 1) = c.variable-to-in-12.ensures.drawn
    ∙ ap variable (second_word _ _ one) in
    let two = two_behind _ _ _ one c.variable-to-in-12.ensures.left in
    let arg1 : c.small-field-in-12.result ≡ word g 2 % 8 = c.small-field-in-12.ensures.drawn
    ∙ ap (λ x. x % 8) (third_word _ _ two) in
    let three = three_behind _ _ _ two c.small-field-in-12.ensures.left in
    (λ i. Get (arg0 i) 0 (arg1 i)) ∙ ap (λ k. call_of_words k (word g 1) (word g 2) (word g 3)) kind

pub returns-in-12-clause-left : goal.returns-in-12-clause-left
returns-in-12-clause-left c =
    let g = c.args.generator.now in
    let kind : 12 ≡ word g 0 % 16 = sym c.in-12.is ∙ c.below.ensures.drawn in
    let one = c.below.ensures.left in
    let two = two_behind _ _ _ one c.variable-to-in-12.ensures.left in
    let three = three_behind _ _ _ two c.small-field-in-12.ensures.left in
    three ∙ ap (λ k. behind (1 + words_taken k (word g 1)) g) kind

pub returns-in-13-clause-drawn : goal.returns-in-13-clause-drawn
returns-in-13-clause-drawn c =
    let g = c.args.generator.now in
    let kind : 13 ≡ word g 0 % 16 = sym c.in-13.is ∙ c.below.ensures.drawn in
    let one = c.below.ensures.left in
    let arg0 : c.variable-root.result ≡ variable (word g 1) = c.variable-root.ensures.drawn
    ∙ ap variable (second_word _ _ one) in
    let two = two_behind _ _ _ one c.variable-root.ensures.left in
    let arg1 : c.below-value.result ≡ word g 2 % 1000 = c.below-value.ensures.drawn
    ∙ ap (λ x. x % 1000) (third_word _ _ two) in
    let three = three_behind _ _ _ two c.below-value.ensures.left in
    (λ i. Num (arg0 i) (arg1 i)) ∙ ap (λ k. call_of_words k (word g 1) (word g 2) (word g 3)) kind

pub returns-in-13-clause-left : goal.returns-in-13-clause-left
returns-in-13-clause-left c =
    let g = c.args.generator.now in
    let kind : 13 ≡ word g 0 % 16 = sym c.in-13.is ∙ c.below.ensures.drawn in
    let one = c.below.ensures.left in
    let two = two_behind _ _ _ one c.variable-root.ensures.left in
    let three = three_behind _ _ _ two c.below-value.ensures.left in
    three ∙ ap (λ k. behind (1 + words_taken k (word g 1)) g) kind

pub returns-in-14-clause-drawn : goal.returns-in-14-clause-drawn
returns-in-14-clause-drawn c =
    let g = c.args.generator.now in
    let kind : 14 ≡ word g 0 % 16 = sym c.in-14.is ∙ c.below.ensures.drawn in
    let one = c.below.ensures.left in
    let arg0 : c.variable-in-14.result ≡ variable (word g 1) = c.variable-in-14.ensures.drawn
    ∙ ap variable (second_word _ _ one) in
    let two = two_behind _ _ _ one c.variable-in-14.ensures.left in
    (λ i. Show (arg0 i)) ∙ ap (λ k. call_of_words k (word g 1) (word g 2) (word g 3)) kind

pub returns-in-14-clause-left : goal.returns-in-14-clause-left
returns-in-14-clause-left c =
    let g = c.args.generator.now in
    let kind : 14 ≡ word g 0 % 16 = sym c.in-14.is ∙ c.below.ensures.drawn in
    let one = c.below.ensures.left in
    let two = two_behind _ _ _ one c.variable-in-14.ensures.left in
    two ∙ ap (λ k. behind (1 + words_taken k (word g 1)) g) kind

pub returns-in-0-to-3-clause-drawn : goal.returns-in-0-to-3-clause-drawn
returns-in-0-to-3-clause-drawn c =
    let g = c.args.generator.now in
    let one = c.below.ensures.left in
    let arg0 : c.variable-root-in-0-to-3.result ≡ variable (word g 1) = c.variable-root-in-0-to-3.ensures.drawn
    ∙ ap variable (second_word _ _ one) in
    let two = two_behind _ _ _ one c.variable-root-in-0-to-3.ensures.left in
    let arg1 : c.small-fields.result ≡ word g 2 % 6 = c.small-fields.ensures.drawn
    ∙ ap (λ x. x % 6) (third_word _ _ two) in
    let three = three_behind _ _ _ two c.small-fields.ensures.left in
    let kind = new_kind c.below.result (word g 1) (word g 2) (word g 3) (omega arith) in
    (λ i. New (arg0 i) (arg1 i)) ∙ sym kind.0
    ∙ ap (λ k. call_of_words k (word g 1) (word g 2) (word g 3)) c.below.ensures.drawn

pub returns-in-0-to-3-clause-left : goal.returns-in-0-to-3-clause-left
returns-in-0-to-3-clause-left c =
    let g = c.args.generator.now in
    let one = c.below.ensures.left in
    let two = two_behind _ _ _ one c.variable-root-in-0-to-3.ensures.left in
    let three = three_behind _ _ _ two c.small-fields.ensures.left in
    let kind = new_kind c.below.result (word g 1) (word g 2) (word g 3) (omega arith) in
    three ∙ ap (λ n. behind (1 + n) g) (sym kind.1)
    ∙ ap (λ k. behind (1 + words_taken k (word g 1)) g) c.below.ensures.drawn

pub returns-in-4-clause-drawn : goal.returns-in-4-clause-drawn
returns-in-4-clause-drawn c =
    let g = c.args.generator.now in
    let one = c.below.ensures.left in
    let arg0 : c.variable-to-in-4.result ≡ variable (word g 1) = c.variable-to-in-4.ensures.drawn
    ∙ ap variable (second_word _ _ one) in
    let two = two_behind _ _ _ one c.variable-to-in-4.ensures.left in
    let arg1 : c.variable-from-in-4.result ≡ variable (word g 2) = c.variable-from-in-4.ensures.drawn
    ∙ ap variable (third_word _ _ two) in
    let three = three_behind _ _ _ two c.variable-from-in-4.ensures.left in
    let arg2 : c.small-field-in-4.result ≡ word g 3 % 3 = c.small-field-in-4.ensures.drawn
    ∙ ap (λ x. x % 3) (fourth_word _ _ three) in
    let four = four_behind _ _ _ three c.small-field-in-4.ensures.left in
    let kind = get_kind c.below.result (word g 1) (word g 2) (word g 3) (omega arith) (omega arith) in
    (λ i. Get (arg0 i) (arg1 i) (arg2 i)) ∙ sym kind.0
    ∙ ap (λ k. call_of_words k (word g 1) (word g 2) (word g 3)) c.below.ensures.drawn

pub returns-in-4-clause-left : goal.returns-in-4-clause-left
returns-in-4-clause-left c =
    let g = c.args.generator.now in
    let one = c.below.ensures.left in
    let two = two_behind _ _ _ one c.variable-to-in-4.ensures.left in
    let three = three_behind _ _ _ two c.variable-from-in-4.ensures.left in
    let four = four_behind _ _ _ three c.small-field-in-4.ensures.left in
    let kind = get_kind c.below.result (word g 1) (word g 2) (word g 3) (omega arith) (omega arith) in
    four ∙ ap (λ n. behind (1 + n) g) (sym kind.1)
    ∙ ap (λ k. behind (1 + words_taken k (word g 1)) g) c.below.ensures.drawn

pub returns-in-6-to-8-clause-drawn : goal.returns-in-6-to-8-clause-drawn
returns-in-6-to-8-clause-drawn c =
    let g = c.args.generator.now in
    let one = c.below.ensures.left in
    let arg0 : c.variable-to-in-6-to-8.result ≡ variable (word g 1) = c.variable-to-in-6-to-8.ensures.drawn
    ∙ ap variable (second_word _ _ one) in
    let two = two_behind _ _ _ one c.variable-to-in-6-to-8.ensures.left in
    let arg1 : c.small-field-in-6-to-8.result ≡ word g 2 % 3 = c.small-field-in-6-to-8.ensures.drawn
    ∙ ap (λ x. x % 3) (third_word _ _ two) in
    let three = three_behind _ _ _ two c.small-field-in-6-to-8.ensures.left in
    let arg2 : c.variable-from-in-6-to-8.result ≡ variable (word g 3) = c.variable-from-in-6-to-8.ensures.drawn
    ∙ ap variable (fourth_word _ _ three) in
    let four = four_behind _ _ _ three c.variable-from-in-6-to-8.ensures.left in
    let kind = put_kind c.below.result (word g 1) (word g 2) (word g 3) (omega arith) (omega arith) in
    (λ i. Put (arg0 i) (arg1 i) (arg2 i)) ∙ sym kind.0
    ∙ ap (λ k. call_of_words k (word g 1) (word g 2) (word g 3)) c.below.ensures.drawn

pub returns-in-6-to-8-clause-left : goal.returns-in-6-to-8-clause-left
returns-in-6-to-8-clause-left c =
    let g = c.args.generator.now in
    let one = c.below.ensures.left in
    let two = two_behind _ _ _ one c.variable-to-in-6-to-8.ensures.left in
    let three = three_behind _ _ _ two c.small-field-in-6-to-8.ensures.left in
    let four = four_behind _ _ _ three c.variable-from-in-6-to-8.ensures.left in
    let kind = put_kind c.below.result (word g 1) (word g 2) (word g 3) (omega arith) (omega arith) in
    four ∙ ap (λ n. behind (1 + n) g) (sym kind.1)
    ∙ ap (λ k. behind (1 + words_taken k (word g 1)) g) c.below.ensures.drawn

rare_words : (g : Lcg) → rare_call (word (behind 1 g) 0) (word (behind 1 g) 1) ≡ rare_call (word g 1) (word g 2)
unfolding state_after
rare_words g = refl

taken_words : (g : Lcg) → behind (1 + rare_draws (word (behind 1 g) 0)) g ≡ behind (1 + rare_draws (word g 1)) g
unfolding state_after
taken_words g = refl

pub returns-in_default-clause-drawn : goal.returns-in_default-clause-drawn
returns-in_default-clause-drawn c =
    let g = c.args.generator.now in
    let last : c.below.result ≡ 15 = omega (arith, c.below.ensures.small) in
    let kind : 15 ≡ word g 0 % 16 = sym last ∙ c.below.ensures.drawn in
    c.rare_command.ensures.drawn ∙ ap (λ h. rare_call (word h 0) (word h 1)) c.below.ensures.left ∙ rare_words g
    ∙ ap (λ k. call_of_words k (word g 1) (word g 2) (word g 3)) kind

pub returns-in_default-clause-left : goal.returns-in_default-clause-left
returns-in_default-clause-left c =
    let g = c.args.generator.now in
    let last : c.below.result ≡ 15 = omega (arith, c.below.ensures.small) in
    let kind : 15 ≡ word g 0 % 16 = sym last ∙ c.below.ensures.drawn in
    c.rare_command.ensures.left ∙ ap (λ h. behind (rare_draws (word h 0)) h) c.below.ensures.left
    ∙ more_behind g (rare_draws (word (behind 1 g) 0))
    ∙ taken_words g ∙ ap (λ k. behind (1 + words_taken k (word g 1)) g) kind
