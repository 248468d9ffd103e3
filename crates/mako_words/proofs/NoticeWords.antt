-- The words of notices.
use Rattle.std.proofs.Common.{◌≡◌, ◌≢◌, ℕ, ◌^◌, ◌<◌, ◌↔◌, ◌⊎◌, inl, inr, subst, ap, refl, sym, arith}
use Rattle.std.proofs.lemmas.Bool.{ne_eqb}
use Rattle.mako_words.specs.declared.name.Name.{Name}
use Rattle.mako_words.specs.declared.value.Value.{Value}
use Rattle.mako_words.specs.declared.value.Value.TheVariants.{Ref}
use Rattle.mako_words.specs.declared.notice_word.NoticeWord.{NoticeWord}
use Rattle.mako_words.specs.declared.notice_word.NoticeWord.TheVariants.{Freed, Done}
use Rattle.mako_words.specs.Names.{name_word, name_at, IsPackedName}
use Rattle.mako_words.specs.Notices.{notice_word, FitsNotice, notice_at, IsPackedNotice}
use Rattle.mako_words.specs.Values.{value_word, FitsValue}
use Rattle.mako_words.specs.Words.{IsPacking}
use Rattle.mako_words.proofs.ValueWords.{name_at-name_word, name_words}
use Rattle.mako_words.proofs.Unpacking as unpacking

-- the word of a notice gives the notice back
pub notice_at-notice_word : (n : NoticeWord) → FitsNotice n → notice_at (notice_word n) ≡ n
notice_at-notice_word (Freed n) fits =
    rw (ne_eqb (name_word n) 1 (λ e. omega arith)) (ap (λ (m : Name). Freed m) (name_at-name_word n fits))
notice_at-notice_word Done fits = refl

notice_word-lt : (n : NoticeWord) → FitsNotice n → notice_word n < 2 ^ 64
notice_word-lt (Freed n) fits = name_words.below n fits
notice_word-lt Done fits = omega arith

-- packing notices loses nothing
pub notice_words : IsPacking FitsNotice notice_word notice_at
notice_words = unpacking.packing FitsNotice notice_word notice_at notice_at-notice_word notice_word-lt

-- the words of notices are 1 and those of names
pub notice_forms : (w : ℕ) → IsPackedNotice w ↔ ((w ≡ 1) ⊎ IsPackedName w)
notice_forms w = (λ p. subst InForm p.same (form (notice_at w) p.fits), packed)
  where
    InForm : ℕ → Type 0
    InForm y = (y ≡ 1) ⊎ IsPackedName y

    form : (n : NoticeWord) → FitsNotice n → InForm (notice_word n)
    form (Freed n) fits = inr (name_words.packed n fits)
    form Done fits = inl refl

    by_notice : (n : NoticeWord) → FitsNotice n → notice_word n ≡ w → IsPackedNotice w
    by_notice n fits e = subst IsPackedNotice e (notice_words.packed n fits)

    packed : InForm w → IsPackedNotice w
    packed (inl done) = by_notice Done tt (sym done)
    packed (inr name) = by_notice (Freed (name_at w)) name.fits name.same

-- a word that is neither that of a value nor 1 is that of no notice
pub no_notice : (w : ℕ) → ((v : Value) → FitsValue v → value_word v ≢ w) → w ≢ 1 → (n : NoticeWord) → FitsNotice n
    → notice_word n ≢ w
no_notice w no_value not_done (Freed n) fits e = no_value (Ref n) fits e
no_notice w no_value not_done Done fits e = not_done (sym e)
