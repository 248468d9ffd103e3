-- What the collector's steps at notices leave to servers that evacuate.
use Rattle.std.proofs.Common.{◌≡◌, ◌≢◌, ℕ, ◌*◌, ◌<◌, ◌⊎◌, inl, inr, ⊎_elim, List, set, slice_index, sym, ap, subst}
use Rattle.std.proofs.Common.{refl, ◌∙◌, arith}
use Rattle.std.proofs.lemmas.Bool.{cases_eq}
use Rattle.mako_words.specs.declared.name.Name.{Name}
use Rattle.mako_shape.specs.declared.numbers.Numbers.{Numbers}
use Rattle.mako_shape.specs.Places.{entry, notice, index, Within, word_at}
use Rattle.mako_shape.proofs.PlaceLaws.{word_same, word_other}
use Rattle.mako_model.specs.Legal.{Facts, state_of}
use Rattle.mako_model.proofs.Lists.{get_set_other}
use Rattle.mako_names.proofs.Words.{entry_same}
use Rattle.mako_evac.specs.Evacuating.{Evacuation, IsKnown}
use Rattle.mako_evac.proofs.Bounds.{entry_within}
use Rattle.mako_pause.specs.Collecting.{Holdings}
use Rattle.mako_pause.specs.declared.stage.NoticeStage.{NoticeStage}
use Rattle.mako_pause.specs.declared.stage.NoticeStage.TheVariants.{Looking as NoticeLook, Clearing as NoticeClear}
use Rattle.mako_pause.specs.declared.stage.NoticeStage.TheVariants.{StoringIdle}
use Rattle.mako_state.proofs.Words.{load_back}
use Rattle.mako_joint.specs.Joints.{JointScene, Joint}
use Rattle.mako_clearing.specs.ClearingFacets.{stage_carries}
use Rattle.mako_clearing.specs.Notices.{SameNotices}
use Rattle.mako_clearing.specs.Clearing.{tells_end, KeepsSizes, LeavesEvacuation, SendingIs}
use Rattle.mako_clearing.specs.Hearing.{notice_server, HearingStands, with_hearing, words_next, IsReading}
use Rattle.mako_clearing.specs.Apart.{HearingLeaves, HearingIsApart}
use Rattle.mako_clearing.proofs.Rings.{sending_stays}
use Rattle.mako_clearing.proofs.Apart.{due_same, same_leaves}

-- ---- 0 is stored into a notice slot

module _ (n : Numbers) (w : Facts) (s after : JointScene) (j : Joint n w s) (server slot : ℕ)
    (within : Within n (notice server slot)) (is : after.words ≡ set s.words (index n (notice server slot)) 0)
    (sizes : KeepsSizes (state_of w s.front.history) (state_of w after.front.history)) where
  abbrev us : List ℕ
  us = set s.words (index n (notice server slot)) 0

  other_slot : (r q : ℕ) → (r ≢ server) ⊎ (q ≢ slot) → notice r q ≢ notice server slot
  other_slot r q apart e =
      ⊎_elim (λ d. let a : r ≡ server = cc in d a) (λ d. let b : q ≡ slot = cc in d b) apart

  still_zero : (r q : ℕ) → Within n (notice r q) → word_at n s.words (notice r q) ≡ 0 → word_at n us (notice r q) ≡ 0
  still_zero r q inside zero =
      let kept : (r ≢ server) ⊎ (q ≢ slot) → word_at n us (notice r q) ≡ 0 =
      λ d. word_other n s.words (notice server slot) (notice r q) 0 within inside (other_slot r q d) ∙ zero in
      ⊎_elim
      (λ a. ⊎_elim
      (λ b. subst (λ i. word_at n us (notice i q) ≡ 0) (sym a)
      (subst (λ i. word_at n us (notice server i) ≡ 0) (sym b)
      (word_same n s.words (notice server slot) 0 j.names.hold.size within)))
      (λ d. kept (inr d)) (cases_eq q slot))
      (λ d. kept (inl d)) (cases_eq r server)

  entry_stays : (x : ℕ) → Within n (entry x) → word_at n us (entry x) ≡ word_at n s.words (entry x)
  entry_stays x inside = word_other n s.words (notice server slot) (entry x) 0 within inside (λ e. cc)

  pub zero_leaves : (v : Evacuation) → IsKnown v → v.owner.shape ≡ n → LeavesEvacuation n w s after v
  zero_leaves v known shape = record {
    empty = λ zero.
        ap (λ (ws : List ℕ). word_at n ws (notice v.owner.server v.at)) is
        ∙ still_zero v.owner.server v.at
        (subst (λ k. v.owner.server < k.servers) shape known.owner.server, subst (λ k. v.at < k.ring) shape known.at)
        zero;
    due = λ x g own due.
        due_same n s.words after.words v.owner.cycle x g
        (entry_same n s.words after.words x
        (ap (λ (ws : List ℕ). word_at n ws (entry x)) is
        ∙ entry_stays x
        (subst (λ k. x < k.servers * k.tablets * k.entries) shape (entry_within v.owner x known.owner own)))) due;
    sizes = sizes;
  }

  pub zero_elsewhere : (r : ℕ) → r < n.servers → r ≢ server → SameNotices n s.words after.words r
  zero_elsewhere r low apart q inside =
      ap (λ (ws : List ℕ). word_at n ws (notice r q)) is
      ∙ word_other n s.words (notice server slot) (notice r q) 0 within (low, inside) (other_slot r q (inl apart))

-- ---- each stage

module _ (w : Facts) (s : JointScene) (k later : Holdings) (to : NoticeStage) (left : List Name) (other : Evacuation)
    (j : Joint k.shape w s) (known : IsKnown other) (shape : other.owner.shape ≡ k.shape) where
  sizes_same : KeepsSizes (state_of w s.front.history) (state_of w s.front.history)
  sizes_same name fields are = (fields, are, refl)

  abbrev scene : NoticeStage → JointScene
  scene stage = with_hearing k.shape s (words_next k stage s.words) later to (notice_server k.shape stage) left

  -- the words of another server's notices stay, and so does what it has sent
  sends : (stage : NoticeStage)
      → (other.owner.server ≢ notice_server k.shape stage
      → SameNotices k.shape s.words (scene stage).words other.owner.server)
      → other.owner.server ≢ notice_server k.shape stage → (taker : ℕ) (sent : List Name)
      → SendingIs k.shape s other taker sent → SendingIs k.shape (scene stage) other taker sent
  sends stage same apart taker sent t = record {
    sent_is = get_set_other s.facets.names.sent (notice_server k.shape stage) other.owner.server left apart ∙ t.sent_is;
    notices = sending_stays k.shape s.words (scene stage).words other.owner.server taker other.at sent
        (stage_carries other.stage) (tells_end other.stage) (same apart) t.notices;
  }

  in_servers : other.owner.server < k.shape.servers
  in_servers = subst (λ q. other.owner.server < q.servers) shape known.owner.server

  hearing_leaves : (stage : NoticeStage) → HearingStands k.shape s k stage → IsReading stage
      → HearingLeaves k.shape w s (scene stage) (notice_server k.shape stage) other
  hearing_leaves (NoticeLook server) c is =
      let same = load_back s.words (index k.shape (notice server (slice_index k.notice_at server))) in record {
        leaves = same_leaves k.shape w s (scene (NoticeLook server)) other same sizes_same;
        sending = sends (NoticeLook server)
            (λ apart slot low.
            ap (λ (ws : List ℕ). word_at k.shape ws (notice other.owner.server slot)) same);
      }
  hearing_leaves (NoticeClear server told) c is =
      let place_in : slice_index k.notice_at server < k.shape.ring =
      c.known.notices server 0 (let e = c.known.notices_count in let l = c.stage_known in omega arith) in
      record {
        leaves = zero_leaves k.shape w s (scene (NoticeClear server told)) j server (slice_index k.notice_at server)
            (c.stage_known, place_in) refl sizes_same other known shape;
        sending = sends (NoticeClear server told)
            (λ apart. zero_elsewhere k.shape w s (scene (NoticeClear server told)) j server
            (slice_index k.notice_at server) (c.stage_known, place_in) refl sizes_same other.owner.server in_servers
            apart);
      }
  hearing_leaves StoringIdle c is = absurd is

pub hearing_is_apart : HearingIsApart
hearing_is_apart n w s k later stage to left other j c is known shape =
    subst
    (λ q. Joint q w s → HearingStands q s k stage → other.owner.shape ≡ q
    → HearingLeaves q w s (with_hearing q s (words_next k stage s.words) later to (notice_server q stage) left)
    (notice_server q stage) other)
    c.shape (λ i d e. hearing_leaves w s k later to left other i known e stage d is) j c shape
