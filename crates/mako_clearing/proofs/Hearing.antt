-- The collector takes the notices of a server.
use Rattle.std.proofs.Common.{◌≡◌, ◌≢◌, ℕ, suc, ◌+◌, ◌<◌, ◌≤◌, inl, inr, ⊎_elim, if◌then◌else◌, Bool, false, List, []}
use Rattle.std.proofs.Common.{◌∷◌, ◌++◌, length, set, slice_get, slice_index, sum_by, Some, sym, ap, subst, refl, ◌∙◌}
use Rattle.std.proofs.Common.{arith, eq-eqb}
use Rattle.std.proofs.lemmas.List.{get_or-set_same, length-set, length_push}
use Rattle.std.proofs.lemmas.List.Elements.{All-set}
use Rattle.std.proofs.lemmas.Bool.{cases_eq, ne_eqb}
use Rattle.mako_words.specs.declared.name.Name.{Name}
use Rattle.mako_words.specs.declared.notice_word.NoticeWord.{NoticeWord}
use Rattle.mako_words.specs.declared.notice_word.NoticeWord.TheVariants.{Freed, Done}
use Rattle.mako_words.specs.declared.phase_word.PhaseWord.TheVariants.{Evac}
use Rattle.mako_words.specs.Notices.{notice_at, IsPackedNotice}
use Rattle.mako_words.proofs.NoticeWords.{notice_at-notice_word, notice_words}
use Rattle.mako_shape.specs.declared.numbers.Numbers.{Numbers}
use Rattle.mako_shape.specs.Places.{notice, index, Within, word_at}
use Rattle.mako_model.specs.Legal.{Facts}
use Rattle.mako_model.proofs.Lists.{get_set_same}
use Rattle.mako_names.specs.Going.{NamesHold}
use Rattle.mako_names.specs.Notices.{Gathering}
use Rattle.mako_names.specs.Steps.{Gets, ReadsOn}
use Rattle.mako_names.specs.Tables.{phase_of}
use Rattle.mako_names.proofs.StepsKept.{step_kept}
use Rattle.mako_ring.specs.Contents.{after_place}
use Rattle.mako_ring.specs.Polling.{PollingStands}
use Rattle.mako_shades.proofs.Lists.{set_again}
use Rattle.mako_pause.specs.Collecting.{Holdings, running, NoticedFits}
use Rattle.mako_pause.specs.Keeping.{IsKeptKnown, NoticeIsKnown}
use Rattle.mako_pause.specs.declared.stage.NoticeStage.{NoticeStage}
use Rattle.mako_pause.specs.declared.stage.NoticeStage.TheVariants.{Looking as NoticeLook, Clearing as NoticeClear}
use Rattle.mako_pause.specs.declared.stage.NoticeStage.TheVariants.{StoringIdle}
use Rattle.mako_evac.proofs.Bounds.{after_below}
use Rattle.mako_layout.specs.Evacuations.{Evacuation as Layout}
use Rattle.mako_layout.specs.StepParts.{collector_seat}
use Rattle.mako_phases.specs.Facets.{evacuating, collecting}
use Rattle.mako_phases.specs.Orders.{PhaseOrder}
use Rattle.mako_phases.specs.Steps as phases
use Rattle.mako_phases.proofs.AllPhases.{phase_kept}
use Rattle.mako_state.proofs.Words.{load_back}
use Rattle.mako_joint.specs.Joints.{JointScene, layout_in, polls_in, phases_in, Joint}
use Rattle.mako_joint.proofs.EachKind.{polls_stay}
use Rattle.mako_joint.proofs.Pauses.{gates_drain}
use Rattle.mako_clearing.specs.Notices.{RingTells}
use Rattle.mako_clearing.specs.Hearing.{notice_server, notice_part, notice_gathers, HearingStands, IsSender}
use Rattle.mako_clearing.specs.Hearing.{NoticeKnows, with_hearing, noticing, words_next, hears_next, HearingGoesOn}
use Rattle.mako_clearing.specs.Hearing.{IsReading, KeepsLists, HearingKeeps}
use Rattle.mako_clearing.proofs.Rings.{Ends, taken, taken_words}
use Rattle.mako_clearing.proofs.Stages.{phase_stays, names_else, layout_else, index_in}
use Rattle.mako_clearing.proofs.Rooms.{freed_are_few}
use Rattle.mako_clearing.proofs.Heard.{evac_here, heard_names, joined_hearing}

-- ---- each stage

module _ (w : Facts) (s : JointScene) (k : Holdings) (j : Joint k.shape w s) (server next : ℕ)
    (sent carried : List Name) (done : Bool) where
  abbrev n : Numbers
  n = k.shape

  abbrev Goes : NoticeStage → Type 0
  Goes stage = HearingGoesOn k.shape w s k stage server next sent carried done

  module _ (known : server < k.shape.servers)
      (sender : IsSender k.shape s k server next sent carried done) where
    slot_in : Within k.shape (notice server (slice_index k.notice_at server))
    slot_in = (known, sender.notices.ring.taker_below)

    abbrev found : ℕ
    found = word_at k.shape s.words (notice server (slice_index k.notice_at server))

    -- a notice stands in a slot that is not empty
    packed : found ≢ 0 → IsPackedNotice found
    packed some =
        ⊎_elim
        (λ t. subst IsPackedNotice (sym t.word_is) (notice_words.packed (Freed t.first) t.fits))
        (λ t. subst IsPackedNotice (sym t.word_is) (notice_words.packed Done tt))
        (taken k.shape s.words server (slice_index k.notice_at server) next j.names.hold.size known
        sender.notices.names done sender.notices.ring some)

    -- ---- it looks at the slot

    -- what a look gives, where words are these
    record Looked (to : NoticeStage) (us : List ℕ) : Type 0 where
      joint : Joint k.shape w (with_hearing k.shape s us k to server sent)
      stands : HearingStands k.shape (with_hearing k.shape s us k to server sent) k to
      sends : IsSender k.shape (with_hearing k.shape s us k to server sent) k server next sent carried done

    module _ (c : HearingStands k.shape s k (NoticeLook server)) where
      gathers_is : (to : NoticeStage) → notice_server k.shape to ≡ server
          → notice_gathers k.shape k to ≡ s.facets.names.collector
      gathers_is to e = (λ i. record { server = e i; names = k.freed }) ∙ sym c.gathers

      phases_are : (to : NoticeStage) → notice_server k.shape to ≡ server
          → set s.facets.phases (collector_seat k.shape) (collecting (notice_part k.shape k to) k.pending) ≡
          s.facets.phases
      phases_are to e =
          (λ i. set s.facets.phases (collector_seat k.shape) (collecting (evacuating (running k) (e i)) k.pending))
          ∙ set_again s.facets.phases (collector_seat k.shape) (collecting (evacuating (running k) server) k.pending)
          c.phase

      scene_is : (to : NoticeStage) → notice_server k.shape to ≡ server → with_hearing k.shape s s.words k to server
          sent ≡ s
      scene_is to e = λ i. record s {
        facets = record s.facets {
          names = record s.facets.names {
            sent = set_again s.facets.names.sent server sent sender.sent_is i;
            collector = gathers_is to e i;
          };
          phases = phases_are to e i;
        };
      }

      look_gives : (to : NoticeStage) → notice_server k.shape to ≡ server → NoticeIsKnown k to
          → NoticeKnows k.shape s.words k to → Looked to (words_next k (NoticeLook server) s.words)
      look_gives to e is_known knows =
          subst (Looked to)
          (sym (load_back s.words (index k.shape (notice server (slice_index k.notice_at server)))))
          (record {
            joint = subst (Joint k.shape w) (sym (scene_is to e)) j;
            stands = record {
              known = c.known;
              stage_known = is_known;
              shape = refl;
              phase = get_set_same s.facets.phases (collector_seat k.shape)
                  (collecting (notice_part k.shape k to) k.pending)
                  (collecting (evacuating (running k) server) k.pending) c.phase;
              gathers = refl;
              knows = knows;
            };
            sends = record {
              sent_is = get_set_same s.facets.names.sent server sent sent sender.sent_is;
              notices = sender.notices;
            };
          })

      look_goes : (to : NoticeStage) → Looked to (words_next k (NoticeLook server) s.words)
          → hears_next k (NoticeLook server) s.words ≡ noticing k to → Goes (NoticeLook server)
      look_goes to l is = record {
        can = (
          index_in k.shape w s j (notice server (slice_index k.notice_at server)) slot_in,
          tt,
          ⊎_elim (λ e. inl e) (λ d. inr (packed d)) (cases_eq found 0),
        );
        after = k;
        to = to;
        is = is;
        left = sent;
        sent_is = refl;
        joint = l.joint;
        stands = l.stands;
        sender = l.sends;
      }

      pub looked : Goes (NoticeLook server)
      looked =
          ⊎_elim
          (λ e. look_goes (NoticeLook server) (look_gives (NoticeLook server) refl known tt)
          (ap (λ (b : Bool). if b then noticing k (NoticeLook server) else noticing k
          (NoticeClear server (notice_at found)))
          (eq-eqb found 0 e)))
          (λ d. look_goes (NoticeClear server (notice_at found))
          (look_gives (NoticeClear server (notice_at found)) refl known (d, refl))
          (ap (λ (b : Bool). if b then noticing k (NoticeLook server) else noticing k
          (NoticeClear server (notice_at found)))
          (ne_eqb found 0 d)))
          (cases_eq found 0)

    -- ---- it takes the word

    abbrev us : List ℕ
    us = taken_words k.shape s.words server (slice_index k.notice_at server) next j.names.hold.size known

    abbrev moved : Holdings
    moved = record k {
      notice_at = set k.notice_at server (after_place k.shape.ring (slice_index k.notice_at server));
    }

    module _ (told : NoticeWord) (c : HearingStands k.shape s k (NoticeClear server told)) where
      place_in : server < length k.notice_at
      place_in = let e = c.known.notices_count in omega arith

      place_is : slice_index moved.notice_at server ≡ after_place k.shape.ring (slice_index k.notice_at server)
      place_is = get_or-set_same k.notice_at server (after_place k.shape.ring (slice_index k.notice_at server)) 0
          place_in

      moved_known : (freed : List Name) → sum_by length k.cycles.lists + length freed ≤ k.cycles.names_room
          → IsKeptKnown (record moved { freed = freed })
      moved_known freed room = record {
        shape = c.known.shape;
        cycle = c.known.cycle;
        pending = c.known.pending;
        windows_count = c.known.windows_count;
        windows = c.known.windows;
        barriers_count = c.known.barriers_count;
        barriers = c.known.barriers;
        notices_count = length-set k.notice_at server (after_place k.shape.ring (slice_index k.notice_at server))
            ∙ c.known.notices_count;
        notices = All-set (λ (q : ℕ). q < k.shape.ring) k.notice_at server
            (after_place k.shape.ring (slice_index k.notice_at server))
            (after_below k.shape.ring (slice_index k.notice_at server) sender.notices.ring.taker_below) c.known.notices;
        poll_shape = c.known.poll_shape;
        poll = c.known.poll;
        chosen = c.known.chosen;
        roles = c.known.roles;
        lists = c.known.lists;
        lists_room = c.known.lists_room;
        names = room;
      }

      names_before : NamesHold k.shape w us s.front s.facets.names
      names_before = names_else k.shape w s j (notice server (slice_index k.notice_at server)) 0 slot_in (λ is. is)

      layout_then : Layout k.shape (record (layout_in k.shape w s) { words = λ q. word_at k.shape us q })
      layout_then = layout_else k.shape w s j (notice server (slice_index k.notice_at server)) 0 slot_in tt tt

      polls_then : PollingStands k.shape (polls_in k.shape (record s { words = us }))
      polls_then = polls_stay k.shape s (notice server (slice_index k.notice_at server)) 0 slot_in (λ is. is) j.polls

      evac_then : phase_of k.shape us ≡ Evac (running k)
      evac_then =
          phase_stays k.shape w s j (notice server (slice_index k.notice_at server)) 0 slot_in (λ is. is)
          ∙ evac_here k.shape w s j (running k) server k.pending c.phase

    -- a freed name
    module _ (first : Name) (rest : List Name) (c : HearingStands k.shape s k (NoticeClear server (Freed first)))
        (room : NoticedFits k (Freed first)) (sent_is : sent ≡ first ∷ (rest ++ carried))
        (ring : RingTells k.shape us server (after_place k.shape.ring (slice_index k.notice_at server)) next rest
        done) where
      abbrev left : List Name
      left = rest ++ carried

      abbrev got : Gathering
      got = record { server = server; names = k.freed ++ first ∷ [] }

      abbrev after : Holdings
      after = record moved { freed = k.freed ++ first ∷ [] }

      got_names : heard_names k.shape w s j (running k) server k.pending c.phase us got server left
      got_names =
          subst (λ (g : Gathering). NamesHold k.shape w us s.front
          (record s.facets.names {
            sent = set s.facets.names.sent g.server left;
            collector = record { server = g.server; names = g.names ++ first ∷ [] };
          })) c.gathers
          (step_kept k.shape w (record { words = us; front = s.front; facets = s.facets.names })
          (record {
            words = us;
            front = s.front;
            facets = record s.facets.names {
              sent = set s.facets.names.sent s.facets.names.collector.server left;
              collector = record s.facets.names.collector { names = s.facets.names.collector.names ++ first ∷ [] };
            };
          }) j.script.facts
          (Gets (running k) first left (evac_then (Freed first) c)
          (ap (λ (g : Gathering). slice_get s.facets.names.sent g.server) c.gathers ∙ sender.sent_is
          ∙ ap (λ (l : List Name). Some l) sent_is))
          (names_before (Freed first) c))

      pub took_name : Goes (NoticeClear server (Freed first))
      took_name = record {
        can = (
          index_in k.shape w s j (notice server (slice_index k.notice_at server)) slot_in,
          tt,
          room,
        );
        after = after;
        to = NoticeLook server;
        is = refl;
        left = left;
        sent_is = sent_is;
        joint = joined_hearing k.shape w s j (running k) server k.pending c.phase us server got server left got_names
            (layout_then (Freed first) c) (polls_then (Freed first) c)
            (subst (PhaseOrder k.shape us)
            (sym (set_again s.facets.phases (collector_seat k.shape)
            (collecting (evacuating (running k) server) k.pending) c.phase))
            (phase_kept k.shape (phases_in s) (record (phases_in s) { words = us }) j.order (gates_drain k.shape w s j)
            (phases.Notes server (slice_index k.notice_at server) 0 slot_in (λ e. omega arith) refl)))
            (evac_then (Freed first) c);
        stands = record {
          known = moved_known (Freed first) c (k.freed ++ first ∷ [])
              (let l = length_push k.freed first in omega arith);
          stage_known = known;
          shape = refl;
          phase = get_set_same s.facets.phases (collector_seat k.shape)
              (collecting (evacuating (running k) server) k.pending)
              (collecting (evacuating (running k) server) k.pending) c.phase;
          gathers = refl;
          knows = tt;
        };
        sender = record {
          sent_is = get_set_same s.facets.names.sent server left sent sender.sent_is;
          notices = record {
            names = rest;
            sent_is = refl;
            ring = subst (λ q. RingTells k.shape us server q next rest done) (sym (place_is (Freed first) c)) ring;
            last = sender.notices.last;
          };
        };
      }

    -- the end of the cycle
    module _ (c : HearingStands k.shape s k (NoticeClear server Done)) (sent_none : sent ≡ [])
        (carried_none : carried ≡ []) (one : word_at k.shape s.words (notice server (slice_index k.notice_at server))
        ≡ 1)
        (ring : RingTells k.shape us server (after_place k.shape.ring (slice_index k.notice_at server)) next [] false)
        (to : NoticeStage) (is_next : notice_server k.shape to ≡ server + 1) (is_known : NoticeIsKnown k to)
        (knows_none : (words : List ℕ) → NoticeKnows k.shape words moved to)
        (is : hears_next k (NoticeClear server Done) s.words ≡ noticing moved to) where
      abbrev heard : Gathering
      heard = record { server = notice_server k.shape to; names = k.freed }

      sent_then : set s.facets.names.sent server [] ≡ s.facets.names.sent
      sent_then =
          set_again s.facets.names.sent server [] (sender.sent_is ∙ ap (λ (l : List Name). Some l) sent_none)

      read_names : heard_names k.shape w s j (running k) server k.pending c.phase us heard server []
      read_names =
          subst (λ ls. NamesHold k.shape w us s.front (record s.facets.names { sent = ls; collector = heard }))
          (sym sent_then)
          (subst (λ q. NamesHold k.shape w us s.front
          (record s.facets.names { collector = record { server = q; names = k.freed } }))
          (let e : suc server ≡ server + 1 = omega arith in e ∙ sym is_next)
          (subst (λ (g : Gathering). NamesHold k.shape w us s.front
          (record s.facets.names { collector = record { server = suc g.server; names = g.names } })) c.gathers
          (step_kept k.shape w (record { words = us; front = s.front; facets = s.facets.names })
          (record {
            words = us;
            front = s.front;
            facets = record s.facets.names {
              collector = record s.facets.names.collector { server = suc s.facets.names.collector.server };
            };
          }) j.script.facts
          (ReadsOn (running k) (evac_then Done c)
          (ap (λ (g : Gathering). slice_get s.facets.names.sent g.server) c.gathers ∙ sender.sent_is
          ∙ ap (λ (l : List Name). Some l) sent_none))
          (names_before Done c))))

      pub heard_end : Goes (NoticeClear server Done)
      heard_end = record {
        can = (
          index_in k.shape w s j (notice server (slice_index k.notice_at server)) slot_in,
          tt,
          tt,
        );
        after = moved;
        to = to;
        is = is;
        left = [];
        sent_is = sent_none;
        joint = joined_hearing k.shape w s j (running k) server k.pending c.phase us (notice_server k.shape to) heard
            server [] read_names (layout_then Done c) (polls_then Done c)
            (subst (λ q. PhaseOrder k.shape us
            (set s.facets.phases (collector_seat k.shape) (collecting (evacuating (running k) q) k.pending)))
            (sym is_next)
            (phase_kept k.shape (phases_in s)
            (record {
              words = us;
              facets = set s.facets.phases (collector_seat k.shape)
                  (collecting (evacuating (running k) (server + 1)) k.pending);
            }) j.order (gates_drain k.shape w s j)
            (phases.Hears (collector_seat k.shape) (running k) server (slice_index k.notice_at server) k.pending c.phase
            slot_in one refl)))
            (evac_then Done c);
        stands = record {
          known = moved_known Done c k.freed c.known.names;
          stage_known = is_known;
          shape = refl;
          phase = get_set_same s.facets.phases (collector_seat k.shape)
              (collecting (evacuating (running k) (notice_server k.shape to)) k.pending)
              (collecting (evacuating (running k) server) k.pending) c.phase;
          gathers = refl;
          knows = knows_none us;
        };
        sender = record {
          sent_is = get_set_same s.facets.names.sent server [] sent sender.sent_is;
          notices = record {
            names = [];
            sent_is = sym carried_none;
            ring = subst (λ q. RingTells k.shape us server q next [] false) (sym (place_is Done c)) ring;
            last = λ e. absurd (cc);
          };
        };
      }

    -- the next server's turn, or past the last one the end
    pub ended_heard : (c : HearingStands k.shape s k (NoticeClear server Done)) → (t : Ends k.shape s.words server
        (slice_index k.notice_at server) next j.names.hold.size known sender.notices.names done)
        → Goes (NoticeClear server Done)
    ended_heard c t =
        let none : carried ≡ [] = sender.notices.last t.done_is in
        let sent_none : sent ≡ [] = sender.notices.sent_is ∙ (λ i. t.names_are i ++ none i) in
        ⊎_elim
        (λ e. heard_end c sent_none none t.word_is t.ring StoringIdle (sym e) tt (λ words. tt)
        (ap (λ (b : Bool). if b then noticing moved StoringIdle else noticing moved (NoticeLook (server + 1)))
        (eq-eqb (server + 1) k.shape.servers e)))
        (λ d. heard_end c sent_none none t.word_is t.ring (NoticeLook (server + 1)) refl (omega arith) (λ words. tt)
        (ap (λ (b : Bool). if b then noticing moved StoringIdle else noticing moved (NoticeLook (server + 1)))
        (ne_eqb (server + 1) k.shape.servers d)))
        (cases_eq (server + 1) k.shape.servers)

    -- there is room for the first name that the server has sent
    room_left : KeepsLists s k → (told : NoticeWord) → HearingStands k.shape s k (NoticeClear server told) →
        (first : Name)
        (rest : List Name) → sent ≡ first ∷ rest → sum_by length k.cycles.lists + length k.freed < k.cycles.names_room
    room_left keeps told c first rest is =
        let few = freed_are_few k.shape w s (running k) sent j
        (evac_here k.shape w s j (running k) server k.pending c.phase)
        (ap (λ (g : Gathering). slice_get s.facets.names.sent g.server) c.gathers ∙ sender.sent_is) in
        let got : length s.facets.names.collector.names ≡ length k.freed =
        ap (λ (g : Gathering). length g.names) c.gathers in
        let listed : sum_by length k.cycles.lists ≡ sum_by length s.front.finished = ap (sum_by length) keeps.lists in
        let long = ap length is in
        let room = keeps.room in
        omega arith

    pub cleared : (told : NoticeWord) → HearingStands k.shape s k (NoticeClear server told) → KeepsLists s k
        → Goes (NoticeClear server told)
    cleared told c keeps =
        ⊎_elim
        (λ t. let is : told ≡ Freed t.first = sym c.knows.1 ∙ ap notice_at t.word_is
        ∙ notice_at-notice_word (Freed t.first) t.fits in
        let sent_is : sent ≡ t.first ∷ (t.rest ++ carried) =
        sender.notices.sent_is ∙ ap (λ (l : List Name). l ++ carried) t.names_are in
        subst
        (λ q. HearingStands k.shape s k (NoticeClear server q) → Goes (NoticeClear server q)) (sym is)
        (λ d. took_name t.first t.rest d (room_left keeps (Freed t.first) d t.first (t.rest ++ carried) sent_is) sent_is
        t.ring) c)
        (λ t. let is : told ≡ Done = sym c.knows.1 ∙ ap notice_at t.word_is in
        subst
        (λ q. HearingStands k.shape s k (NoticeClear server q) → Goes (NoticeClear server q)) (sym is)
        (λ d. ended_heard d t) c)
        (taken k.shape s.words server (slice_index k.notice_at server) next j.names.hold.size known
        sender.notices.names done sender.notices.ring c.knows.0)

hearing_at : (w : Facts) (s : JointScene) (k : Holdings) → Joint k.shape w s → (next : ℕ) (sent carried : List Name)
    (done : Bool) (stage : NoticeStage) → HearingStands k.shape s k stage → IsReading stage
    → IsSender k.shape s k (notice_server k.shape stage) next sent carried done → KeepsLists s k
    → HearingGoesOn k.shape w s k stage (notice_server k.shape stage) next sent carried done
hearing_at w s k j next sent carried done (NoticeLook server) c is sender room =
    looked w s k j server next sent carried done c.stage_known sender c
hearing_at w s k j next sent carried done (NoticeClear server told) c is sender room =
    cleared w s k j server next sent carried done c.stage_known sender told c room
hearing_at w s k j next sent carried done StoringIdle c is sender room = absurd is

pub hearing_keeps : HearingKeeps
hearing_keeps n w s k stage next sent carried done j c is sender room =
    subst
    (λ q. Joint q w s → HearingStands q s k stage → IsSender q s k (notice_server q stage) next sent carried done
    → HearingGoesOn q w s k stage (notice_server q stage) next sent carried done)
    c.shape (λ i d t. hearing_at w s k i next sent carried done stage d is t room) j c sender
