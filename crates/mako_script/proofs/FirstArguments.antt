-- The first of the faults that arguments have, one after the other.
use Rattle.std.proofs.Common.{◌≡◌, ℕ, zero, suc, ◌+◌, ◌<◌, ◌≤◌, ◌⊎◌, inl, inr, Bool, true, true≢false, cond, List, []}
use Rattle.std.proofs.Common.{◌∷◌, length, take, slice_get, Option, Some, None, refl, sym, ap, subst, ◌∙◌, arith}
use Rattle.std.specs.Prelude.{IfNone, IfSome, Ok, Err}
use Rattle.std.proofs.lemmas.Bool.{cases_lt, lt-ltb, le-ltb}
use Rattle.mako_text.specs.declared.command.Argument.{Argument}
use Rattle.mako_text.specs.declared.command.Argument.TheVariants as arguments
use Rattle.mako_script.specs.declared.fault.Kind.{Kind}
use Rattle.mako_script.specs.declared.fault.Kind.TheVariants as faults
use Rattle.mako_script.specs.Checks.{IsValue}
use Rattle.mako_script.specs.CommandLines.{AreArguments, ArgumentFault, IsArgument, IsLeastFault, is_among, told_first}
use Rattle.mako_script.specs.Faults.{rank}
use Rattle.mako_script.specs.Lines.{word_in}
use Rattle.mako_script.proofs.GoodSettings.{number_is}
use Rattle.mako_reader.proofs.Values.{some_is}

-- ---- one word

one_value : (low high : ℕ) (word : List ℕ) (f g : Kind) → IsValue low high word (Err f) → IsValue low high word (Err g)
    → f ≡ g
one_value low high word faults.Number faults.Number a b = refl
one_value low high word faults.Range faults.Range a b = refl
one_value low high word faults.Number faults.Range a b = absurd (a b.0 b.1)
one_value low high word faults.Range faults.Number a b = absurd (b a.0 a.1)
one_value low high word faults.Number _ a b = absurd b
one_value low high word faults.Range _ a b = absurd b
one_value low high word _ g a b = absurd a

no_value : (low high : ℕ) (word : List ℕ) (n : ℕ) (f : Kind) → IsValue low high word (Ok n)
    → IsValue low high word (Err f) → ⊥
no_value low high word n faults.Number is fault = fault n is.0
no_value low high word n faults.Range is (m, number, inl below) =
    omega (arith, number_is word n m is.0.0 is.0.1 number, is.1, below)
no_value low high word n faults.Range is (m, number, inr above) =
    omega (arith, number_is word n m is.0.0 is.0.1 number, is.2, above)
no_value low high word n _ is fault = fault

-- a word has one fault at most
one_argument : (names : List (List ℕ)) (roots : ℕ) (kind : Argument) (word : List ℕ) (f g : Kind)
    → ArgumentFault names roots kind word f → ArgumentFault names roots kind word g → f ≡ g
one_argument names roots arguments.Defined word faults.Word faults.Word a b = refl
one_argument names roots arguments.Defined word faults.Names faults.Names a b = refl
one_argument names roots arguments.Defined word faults.Word faults.Names a b = absurd (true≢false (sym b.0 ∙ a))
one_argument names roots arguments.Defined word faults.Names faults.Word a b = absurd (true≢false (sym a.0 ∙ b))
one_argument names roots arguments.Defined word faults.Word _ a b = absurd b
one_argument names roots arguments.Defined word faults.Names _ a b = absurd b
one_argument names roots arguments.Defined word _ g a b = absurd a
one_argument names roots arguments.Read word faults.Word faults.Word a b = refl
one_argument names roots arguments.Read word faults.Undefined faults.Undefined a b = refl
one_argument names roots arguments.Read word faults.Word faults.Undefined a b = absurd (true≢false (sym b.0 ∙ a))
one_argument names roots arguments.Read word faults.Undefined faults.Word a b = absurd (true≢false (sym a.0 ∙ b))
one_argument names roots arguments.Read word faults.Word _ a b = absurd b
one_argument names roots arguments.Read word faults.Undefined _ a b = absurd b
one_argument names roots arguments.Read word _ g a b = absurd a
one_argument names roots (arguments.Number greatest) word f g a b = one_value 0 greatest word f g a b

-- and none where it may stand
pub no_argument : (names : List (List ℕ)) (roots : ℕ) (kind : Argument) (word : List ℕ) (f : Kind)
    → IsArgument names roots kind word → ArgumentFault names roots kind word f → ⊥
no_argument names roots arguments.Defined word faults.Word is fault = true≢false (sym is.0 ∙ fault)
no_argument names roots arguments.Defined word faults.Names is fault = room is.1
  where
    room : (is_among names word ≡ true) ⊎ (length names < roots) → ⊥
    room (inl known) = true≢false (sym known ∙ fault.1)
    room (inr below) = omega (arith, below, fault.2)
no_argument names roots arguments.Defined word _ is fault = fault
no_argument names roots arguments.Read word faults.Word is fault = true≢false (sym is.0 ∙ fault)
no_argument names roots arguments.Read word faults.Undefined is fault = true≢false (sym is.1 ∙ fault.1)
no_argument names roots arguments.Read word _ is fault = fault
no_argument names roots (arguments.Number greatest) word f is fault = no_value 0 greatest word is.0 f is.1 fault

-- ---- one word more

-- the kinds up to one place, and that at it
taken : (kinds : List Argument) (i place : ℕ) (kind : Argument) → slice_get (take (i + 1) kinds) place ≡ Some kind
    → (slice_get (take i kinds) place ≡ Some kind) ⊎ ((place ≡ i) × (slice_get kinds i ≡ Some kind))
taken kinds i place kind e =
    taken_suc kinds i place kind
    (ap (λ (n : ℕ). slice_get (take n kinds) place) (let next : suc i ≡ i + 1 = omega arith in next) ∙ e)
  where
    taken_suc : (ks : List Argument) (n at : ℕ) (k : Argument) → slice_get (take (suc n) ks) at ≡ Some k
        → (slice_get (take n ks) at ≡ Some k) ⊎ ((at ≡ n) × (slice_get ks n ≡ Some k))
    taken_suc [] n at k e = absurd cc
    taken_suc (q ∷ ks) zero zero k e = inr (refl, e)
    taken_suc (q ∷ ks) zero (suc at) k e = absurd cc
    taken_suc (q ∷ ks) (suc n) zero k e = inl e
    taken_suc (q ∷ ks) (suc n) (suc at) k e =
        elim (taken_suc ks n at k e) [ inl before ↦ inl before | inr here ↦ inr (ap suc here.0, here.1) ]

kept : (kinds : List Argument) (i place : ℕ) (kind : Argument) → slice_get (take i kinds) place ≡ Some kind
    → slice_get (take (i + 1) kinds) place ≡ Some kind
kept kinds i place kind e = ap (λ (n : ℕ). slice_get (take n kinds) place) (let next : i + 1 ≡ suc i = omega arith in
    next) ∙ kept_suc kinds i place kind e
  where
    kept_suc : (ks : List Argument) (n at : ℕ) (k : Argument) → slice_get (take n ks) at ≡ Some k
        → slice_get (take (suc n) ks) at ≡ Some k
    kept_suc [] zero at k e = absurd cc
    kept_suc [] (suc n) at k e = absurd cc
    kept_suc (q ∷ ks) zero at k e = absurd cc
    kept_suc (q ∷ ks) (suc n) zero k e = e
    kept_suc (q ∷ ks) (suc n) (suc at) k e = kept_suc ks n at k e

at_end : (kinds : List Argument) (i : ℕ) (kind : Argument) → slice_get kinds i ≡ Some kind
    → slice_get (take (i + 1) kinds) i ≡ Some kind
at_end kinds i kind e = ap (λ (n : ℕ). slice_get (take n kinds) i) (let next : i + 1 ≡ suc i = omega arith in next)
    ∙ last kinds i kind e
  where
    last : (ks : List Argument) (n : ℕ) (k : Argument) → slice_get ks n ≡ Some k
        → slice_get (take (suc n) ks) n ≡ Some k
    last [] n k e = absurd cc
    last (q ∷ ks) zero k e = e
    last (q ∷ ks) (suc n) k e = last ks n k e

module _ (names : List (List ℕ)) (roots : ℕ) (kinds : List Argument) (words : List (List ℕ)) (i : ℕ) (kind : Argument)
    (here : slice_get kinds i ≡ Some kind) where
  abbrev pub Arguments : ℕ → Option Kind → Type 0
  Arguments n None = AreArguments names roots (take n kinds) words
  Arguments n (Some f) = IsLeastFault names roots (take n kinds) words f

  abbrev pub Word : Option Kind → Type 0
  Word None = IsArgument names roots kind (word_in words i)
  Word (Some f) = ArgumentFault names roots kind (word_in words i) f

  kind_is : (k : Argument) → slice_get kinds i ≡ Some k → kind ≡ k
  kind_is k e = some_is kind k (sym here ∙ e)

  -- what a word at a place up to this one is
  at_place : (P : ℕ → Argument → Type 0)
      → ((place : ℕ) → (k : Argument) → slice_get (take i kinds) place ≡ Some k → P place k) → P i kind
      → (place : ℕ) → (k : Argument) → slice_get (take (i + 1) kinds) place ≡ Some k → P place k
  at_place P before now place k e = elim (taken kinds i place k e) [
    | inl old ↦ before place k old
    | inr new ↦ subst (λ (n : ℕ). P n k) (sym new.0) (subst (λ (q : Argument). P i q) (kind_is k new.1) now)
  ]

  pub next_word : (first found : Option Kind) → Arguments i first → Word found
      → Arguments (i + 1) (told_first first found)
  next_word None None before now = at_place (λ place k. IsArgument names roots k (word_in words place)) before now
  next_word None (Some f) before now = record {
    place = i;
    kind = kind;
    among = at_end kinds i kind here;
    has = now;
    least = λ other k g e fault. at_place (λ place q. (h : Kind) → ArgumentFault names roots q (word_in words place) h
        → rank f ≤ rank h)
        (λ place q old h bad. absurd (no_argument names roots q (word_in words place) h (before place q old) bad))
        (λ h bad. omega (arith, ap rank (one_argument names roots kind (word_in words i) f h now bad))) other k e g
        fault;
  }
  next_word (Some f) None before now = record {
    place = before.place;
    kind = before.kind;
    among = kept kinds i before.place before.kind before.among;
    has = before.has;
    least = λ other k g e fault. at_place (λ place q. (h : Kind) → ArgumentFault names roots q (word_in words place) h
        → rank f ≤ rank h)
        (λ place q old h bad. before.least place q h old bad)
        (λ h bad. absurd (no_argument names roots kind (word_in words i) h now bad)) other k e g fault;
  }
  next_word (Some f) (Some g) before now = elim (cases_lt (rank g) (rank f)) [
    | inl less ↦ subst (λ (b : Bool). Arguments (i + 1) (cond b (Some g) (Some f)))
        (sym (lt-ltb (rank g) (rank f) less)) (record {
          place = i;
          kind = kind;
          among = at_end kinds i kind here;
          has = now;
          least = λ other k h e fault. at_place (λ place q. (j : Kind)
              → ArgumentFault names roots q (word_in words place) j
              → rank g ≤ rank j)
              (λ place q old j bad. omega (arith, before.least place q j old bad, less))
              (λ j bad. omega (arith, ap rank (one_argument names roots kind (word_in words i) g j now bad))) other k e
              h
              fault;
        })
    | inr more ↦ subst (λ (b : Bool). Arguments (i + 1) (cond b (Some g) (Some f)))
        (sym (le-ltb (rank g) (rank f) more)) (record {
          place = before.place;
          kind = before.kind;
          among = kept kinds i before.place before.kind before.among;
          has = before.has;
          least = λ other k h e fault. at_place (λ place q. (j : Kind)
              → ArgumentFault names roots q (word_in words place) j
              → rank f ≤ rank j)
              (λ place q old j bad. before.least place q j old bad)
              (λ j bad. omega (arith, more, ap rank (one_argument names roots kind (word_in words i) g j now bad)))
              other k
              e h fault;
        })
  ]

  pub so_far : (first : Option Kind) → IfNone first (AreArguments names roots (take i kinds) words)
      → IfSome first (IsLeastFault names roots (take i kinds) words) → Arguments i first
  so_far None a b = a
  so_far (Some f) a b = b

  pub word_is : (found : Option Kind) (word : List ℕ) → word_in words i ≡ word
      → IfNone found (IsArgument names roots kind word) → IfSome found (ArgumentFault names roots kind word)
      → Word found
  word_is None word same a b = subst (λ (w : List ℕ). IsArgument names roots kind w) (sym same) a
  word_is (Some f) word same a b = subst (λ (w : List ℕ). ArgumentFault names roots kind w f) (sym same) b

  pub none_told : (first : Option Kind) → Arguments (i + 1) first
      → IfNone first (AreArguments names roots (take (i + 1) kinds) words)
  none_told None a = a
  none_told (Some f) a = tt

  pub some_told : (first : Option Kind) → Arguments (i + 1) first
      → IfSome first (IsLeastFault names roots (take (i + 1) kinds) words)
  some_told None a = tt
  some_told (Some f) a = a
