-- What the collector's steps at notices leave: of words, and of what it keeps.
use Rattle.std.proofs.Common.{◌≡◌, ◌≢◌, ℕ, ◌+◌, ◌==◌, ◌<◌, ◌⊎◌, inl, inr, ⊎_elim, Bool, true, false, List, [], ◌++◌}
use Rattle.std.proofs.Common.{set, slice_index, sym, ap, refl, ◌∙◌, arith, get_or-set_other}
use Rattle.mako_words.specs.declared.name.Name.{Name}
use Rattle.mako_words.specs.declared.notice_word.NoticeWord.TheVariants.{Freed, Done}
use Rattle.mako_words.specs.Notices.{notice_at}
use Rattle.mako_shape.specs.declared.numbers.Numbers.{Numbers}
use Rattle.mako_shape.specs.Places.{Place, notice}
use Rattle.mako_ring.specs.Contents.{after_place}
use Rattle.mako_pause.specs.Collecting.{Holdings, Collecting, at, notice_next, notice_fed}
use Rattle.mako_pause.specs.Keeping.{IsKeptKnown, NoticeIsKnown}
use Rattle.mako_pause.specs.declared.stage.NoticeStage.{NoticeStage}
use Rattle.mako_pause.specs.declared.stage.NoticeStage.TheVariants.{Looking as NoticeLook, Clearing as NoticeClear}
use Rattle.mako_pause.specs.declared.stage.NoticeStage.TheVariants.{StoringIdle}
use Rattle.mako_pause.specs.declared.stage.CollectStage.TheVariants.{Noticing}
use Rattle.mako_pause.specs.declared.stage.CollectStage.{CollectStage}
use Rattle.mako_words.proofs.NoticeWords.{notice_at-notice_word}
use Rattle.mako_model.specs.Legal.{Facts}
use Rattle.mako_joint.specs.Joints.{JointScene, Joint}
use Rattle.mako_clearing.proofs.Rings.{taken}
use Rattle.std.proofs.lemmas.Bool.Decides.{nat_tests}
use Rattle.mako_collecting.proofs.Idling.{either_way}
use Rattle.mako_clearing.specs.Hearing.{notice_server, IsReading, IsSender, NoticeKnows, names_heard, done_left}
use Rattle.mako_writes.proofs.Touching.{Leaves, looks, at_place}

-- ---- words

-- the place is a notice slot of the server
abbrev pub IsNoticeOf : ℕ → Place → Type 0
IsNoticeOf server (notice r slot) = r ≡ server
IsNoticeOf server p = ⊥

pub hearing_writes : (k : Holdings) → IsKeptKnown k → (stage : NoticeStage) → IsReading stage → NoticeIsKnown k stage
    → Leaves k.shape (IsNoticeOf (notice_server k.shape stage)) (notice_next k stage)
hearing_writes k known (NoticeLook s) is low = looks k.shape (IsNoticeOf s) _
hearing_writes k known (NoticeClear s told) is low =
    at_place k.shape (IsNoticeOf s) (notice s (slice_index k.notice_at s)) _
    (low, known.notices s 0 (let e = known.notices_count in omega arith)) refl
hearing_writes k known StoringIdle is low = absurd is

-- ---- what it keeps

-- its place in other rings is the same, and of the rest the names that it has got are others
pub record Hears (k : Holdings) (server : ℕ) (c : Collecting) : Type 0 where
  pub same : c.kept ≡ record k { notice_at = c.kept.notice_at; freed = c.kept.freed }
  pub notices : (r : ℕ) → r ≢ server → slice_index c.kept.notice_at r ≡ slice_index k.notice_at r

pub hearing_leaves : (k : Holdings) (stage : NoticeStage) → IsReading stage → (x : ℕ)
    → Hears k (notice_server k.shape stage) (notice_fed k stage x)
hearing_leaves k (NoticeLook s) is x =
    either_way (Hears k s) (x == 0) (at k (Noticing (NoticeLook s))) (at k (Noticing (NoticeClear s (notice_at x))))
    (λ e. record { same = refl; notices = λ r d. refl }) (λ e. record { same = refl; notices = λ r d. refl })
hearing_leaves k (NoticeClear s (Freed first)) is x = record {
  same = refl;
  notices = λ r d. get_or-set_other k.notice_at s r (after_place k.shape.ring (slice_index k.notice_at s)) 0 d;
}
hearing_leaves k (NoticeClear s Done) is x =
    let h : Holdings = record k {
      notice_at = set k.notice_at s (after_place k.shape.ring (slice_index k.notice_at s));
    } in
    let other : (r : ℕ) → r ≢ s → slice_index h.notice_at r ≡ slice_index k.notice_at r =
    λ r d. get_or-set_other k.notice_at s r (after_place k.shape.ring (slice_index k.notice_at s)) 0 d in
    either_way (Hears k s) (s + 1 == k.shape.servers) (at h (Noticing StoringIdle))
    (at h (Noticing (NoticeLook (s + 1)))) (λ e. record { same = refl; notices = other })
    (λ e. record { same = refl; notices = other })
hearing_leaves k StoringIdle is x = absurd is

-- ---- what it has heard

pub not_done : (stage : NoticeStage) (done : Bool) → done ≡ false → done_left stage done ≡ false
not_done (NoticeLook s) done e = e
not_done (NoticeClear s (Freed x)) done e = e
not_done (NoticeClear s Done) done e = refl
not_done StoringIdle done e = e

pub still_done : (stage : NoticeStage) (done : Bool) → done_left stage done ≡ true → done ≡ true
still_done (NoticeLook s) done e = e
still_done (NoticeClear s (Freed x)) done e = e
still_done (NoticeClear s Done) done e = cc
still_done StoringIdle done e = e

-- ---- the server that it reads next

abbrev pub TakesEnd : NoticeStage → Type 0
TakesEnd (NoticeClear s Done) = Unit {0}
TakesEnd stage = ⊥

abbrev stage_reads : Numbers → CollectStage → ℕ
stage_reads n (Noticing to) = notice_server n to
stage_reads n stage = 0

-- it is the same, or with the end of the cycle the next one
abbrev pub ReadsOn : Numbers → NoticeStage → Collecting → Type 0
ReadsOn n stage c =
    (stage_reads n c.stage ≡ notice_server n stage)
    ⊎ (TakesEnd stage × (stage_reads n c.stage ≡ notice_server n stage + 1))

pub reads_on : (k : Holdings) (stage : NoticeStage) → IsReading stage → (x : ℕ)
    → ReadsOn k.shape stage (notice_fed k stage x)
reads_on k (NoticeLook s) is x =
    either_way (ReadsOn k.shape (NoticeLook s)) (x == 0) (at k (Noticing (NoticeLook s)))
    (at k (Noticing (NoticeClear s (notice_at x)))) (λ e. inl refl) (λ e. inl refl)
reads_on k (NoticeClear s (Freed first)) is x = inl refl
reads_on k (NoticeClear s Done) is x =
    let h : Holdings = record k {
      notice_at = set k.notice_at s (after_place k.shape.ring (slice_index k.notice_at s));
    } in
    either_way (ReadsOn k.shape (NoticeClear s Done)) (s + 1 == k.shape.servers) (at h (Noticing StoringIdle))
    (at h (Noticing (NoticeLook (s + 1)))) (λ e. inr (tt, grind (arith, nat_tests))) (λ e. inr (tt, refl))
reads_on k StoringIdle is x = absurd is

-- where it takes the end, nothing is left of what the server has sent
pub none_left : (n : Numbers) (w : Facts) (s : JointScene) (k : Holdings) (stage : NoticeStage) → Joint n w s
    → notice_server n stage < n.servers → TakesEnd stage → NoticeKnows n s.words k stage → (next : ℕ)
    (sent carried left : List Name) (done : Bool) → IsSender n s k (notice_server n stage) next sent carried done
    → sent ≡ names_heard stage ++ left → left ≡ []
none_left n w s k (NoticeClear r Done) j low end knows next sent carried left done sender is =
    ⊎_elim
    (λ t. absurd (not_end t.first
    (sym (notice_at-notice_word (Freed t.first) t.fits) ∙ sym (ap notice_at t.word_is) ∙ knows.1)))
    (λ t. let none : carried ≡ [] = sender.notices.last t.done_is in
    sym is ∙ sender.notices.sent_is ∙ (λ i. t.names_are i ++ none i))
    (taken n s.words r (slice_index k.notice_at r) next j.names.hold.size low sender.notices.names done
    sender.notices.ring knows.0)
  where
    not_end : (x : Name) → Freed x ≡ Done → ⊥
    not_end x e = cc
none_left n w s k stage j low end knows next sent carried left done sender is = absurd end
