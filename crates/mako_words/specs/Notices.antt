-- The words of notices.
use Rattle.std.specs.Prelude.{ℕ, ◌==◌, if◌then◌else◌}
use Rattle.mako_words.specs.Names.{name_word, FitsName, name_at}
use Rattle.mako_words.specs.Words.{IsPackedBy}
use Rattle.mako_words.specs.declared.notice_word.NoticeWord.{NoticeWord}
use Rattle.mako_words.specs.declared.notice_word.NoticeWord.TheVariants.{Freed, Done}

-- a freed name has the word of the name, and the end of the cycle is 1
abbrev pub notice_word : NoticeWord → ℕ
notice_word (Freed n) = name_word n
notice_word Done = 1

-- the name fits its bits
abbrev pub FitsNotice : NoticeWord → Type 0
FitsNotice (Freed n) = FitsName n
FitsNotice Done = Unit {0}

-- the notice whose word this is
abbrev pub notice_at : ℕ → NoticeWord
notice_at w = if w == 1 then Done else Freed (name_at w)

-- the word is that of a notice
abbrev pub IsPackedNotice : ℕ → Type 0
IsPackedNotice w = IsPackedBy FitsNotice notice_word notice_at w
