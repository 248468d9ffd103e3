-- What stands in a server's notice ring, between the place of the collector and that of the server.
use Rattle.std.specs.Prelude.{ℕ, Bool, true, false, ◌≡◌, ◌<◌, List, [], ◌∷◌, ◌++◌, map}
use Rattle.std.specs.List.{Contains}
use Rattle.mako_words.specs.Names.{FitsName}
use Rattle.mako_words.specs.Notices.{notice_word}
use Rattle.mako_words.specs.declared.name.Name.{Name}
use Rattle.mako_words.specs.declared.notice_word.NoticeWord.TheVariants.{Freed, Done}
use Rattle.mako_shape.specs.declared.numbers.Numbers.{Numbers}
use Rattle.mako_shape.specs.Places.{notice, word_at}
use Rattle.mako_ring.specs.Contents.{content, OthersEmpty, NextPlace}

-- the words in the slots of the ring
abbrev pub notice_slots : Numbers → List ℕ → ℕ → ℕ → ℕ
notice_slots n words server slot = word_at n words (notice server slot)

-- a notice for each of these names, and the end of the cycle where it is told
abbrev pub freed_words : List Name → List ℕ
freed_words names = map (λ name. notice_word (Freed name)) names

abbrev pub end_words : Bool → List ℕ
end_words true = notice_word Done ∷ []
end_words false = []

-- The ring holds the notices of these names in order, and behind them the end of the cycle where the server has ended
-- it and the collector has not heard it. The collector takes at one place, and the server puts at the other.
pub record RingTells (n : Numbers) (words : List ℕ) (server taker next : ℕ) (names : List Name) (done : Bool) :
    Type 0 where
  pub taker_below : taker < n.ring
  pub next_below : next < n.ring
  pub others : OthersEmpty n.ring (notice_slots n words server) taker
  pub place : NextPlace n.ring (notice_slots n words server) taker next
  pub holds : content n.ring (notice_slots n words server) taker ≡ freed_words names ++ end_words done
  pub fit : (name : Name) → Contains names name → FitsName name

-- What the server has sent: the names in its ring, and those on their way there. Once it has ended the cycle, none is.
pub record SendingStands (n : Numbers) (words : List ℕ) (server taker next : ℕ) (sent carried : List Name)
    (done : Bool) : Type 0 where
  pub names : List Name
  pub sent_is : sent ≡ names ++ carried
  pub ring : RingTells n words server taker next names done
  pub last : done ≡ true → carried ≡ []

-- the slots of the ring are as they were
abbrev pub SameNotices : Numbers → List ℕ → List ℕ → ℕ → Type 0
SameNotices n words after server = (slot : ℕ) → slot < n.ring
    → word_at n after (notice server slot) ≡ word_at n words (notice server slot)

-- so a step that stores no notice of the server leaves what it has sent
abbrev pub SendingStays : Type 0
SendingStays = (n : Numbers) (words after : List ℕ) (server taker next : ℕ) (sent carried : List Name) (done : Bool)
    → SameNotices n words after server → SendingStands n words server taker next sent carried done
    → SendingStands n after server taker next sent carried done
