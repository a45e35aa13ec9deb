-- Transcripts that tell neither of room nor of stuck agents.
use Rattle.std.proofs.Common.{◌≡◌, ◌||◌, Bool, true, false, [], ◌∷◌, ◌++◌, append_assoc, codes, decimal, None, refl, sym, ap, ◌∙◌}
use Rattle.std.proofs.lemmas.List.Elements.{All-nil, All-cons}
use Rattle.opfs_base.specs.Texts.{Text}
use Rattle.opfs_hist.specs.declared.entry.Entry.{Entry}
use Rattle.opfs_hist.specs.declared.op.Op.{Op}
use Rattle.opfs_hist.specs.declared.op.Op.TheVariants as op
use Rattle.opfs_hist.specs.declared.reply.Refusal.{Refusal}
use Rattle.opfs_hist.specs.declared.reply.Refusal.TheVariants as refusal
use Rattle.opfs_hist.specs.declared.reply.Reply.{Reply}
use Rattle.opfs_hist.specs.declared.reply.Reply.TheVariants as reply
use Rattle.opfs_machine.specs.Histories.{evicted_by}
use Rattle.opfs_print.specs.Lines.{call_text, line_by, op_text, reply_text, text_of}
use Rattle.opfs_transcripts.specs.Told.Reading.{is_evict_line, is_stuck_line, tells_room, tells_stuck, tells_room_or_stuck, is_stuck, is_stuck_refusal, is_stuck_await, IsPlainEntry, SettledTextsArePlain}
use Rattle.opfs_transcripts.proofs.told.CallKinds.{Kind, kind_of, a_wait, an_eviction, an_await, a_call}
use Rattle.opfs_transcripts.proofs.told.LinesOf.{any-lines, stuck-within, room-front}

-- A call's line: all but its line feed, and that.
pub body_of : Entry → Text
body_of e = decimal e.agent ++ (codes "." ++ (decimal e.number ++ (codes " " ++ (op_text e.op ++ (codes " " ++ reply_text e.reply)))))

-- Seven pieces and a line feed.
apart7 : (a b c d e f g rest : Text) → (a ++ (b ++ (c ++ (d ++ (e ++ (f ++ (g ++ rest))))))) ≡ (a ++ (b ++ (c ++ (d ++ (e ++ (f ++ g)))))) ++ rest
apart7 a b c d e f g rest = sym (simp append_assoc)

pub call-line : (e : Entry) → call_text e ≡ body_of e ++ 10 ∷ []
unfolding body_of
call-line e = apart7 (decimal e.agent) (codes ".") (decimal e.number) (codes " ") (op_text e.op) (codes " ") (reply_text e.reply) (10 ∷ [])

or-first : (a b : Bool) → (a || b) ≡ false → a ≡ false
or-first true b h = absurd (cc)
or-first false b h = refl

or-second : (a b : Bool) → (a || b) ≡ false → b ≡ false
or-second true b h = absurd (cc)
or-second false b h = h

-- Neither a text nor what stands behind it.
pub record AreSettled (front more : Text) : Type 0 where
  pub room : tells_room front ≡ false
  pub stuck : tells_stuck front ≡ false
  pub rest : tells_room_or_stuck more ≡ false

both-settled : (a b c d : Bool) → ((a || b) || (c || d)) ≡ false → (b || d) ≡ false
both-settled false false false d h = h
both-settled false true false d h = absurd (cc)
both-settled false b true d h = absurd (both-no b d h)
  where
    both-no : (b d : Bool) → ((false || b) || true) ≡ false → ⊥
    both-no true d h = cc
    both-no false d h = cc
both-settled true b c d h = absurd (cc)

-- A line and what is behind it.
pub settled-apart : (body more : Text) → tells_room_or_stuck ((body ++ 10 ∷ []) ++ more) ≡ false → AreSettled (body ++ 10 ∷ []) more
settled-apart body more h =
    let at : (body ++ 10 ∷ []) ++ more ≡ body ++ 10 ∷ more = append_assoc body (10 ∷ []) more in
    let all : ((tells_room (body ++ 10 ∷ []) || tells_room more) || (tells_stuck (body ++ 10 ∷ []) || tells_stuck more)) ≡ false =
    sym (λ i. any-lines is_evict_line body more i || any-lines is_stuck_line body more i) ∙ sym (ap tells_room_or_stuck at) ∙ h in
    let rooms = or-first (tells_room (body ++ 10 ∷ []) || tells_room more) (tells_stuck (body ++ 10 ∷ []) || tells_stuck more) all in
    let stucks = or-second (tells_room (body ++ 10 ∷ []) || tells_room more) (tells_stuck (body ++ 10 ∷ []) || tells_stuck more) all in
    record {
      room = or-first (tells_room (body ++ 10 ∷ [])) (tells_room more) rooms;
      stuck = or-first (tells_stuck (body ++ 10 ∷ [])) (tells_stuck more) stucks;
      rest = λ i. or-second (tells_room (body ++ 10 ∷ [])) (tells_room more) rooms i || or-second (tells_stuck (body ++ 10 ∷ [])) (tells_stuck more) stucks i;
    }

-- An await that was answered Stuck tells so.
stuck-refusal : (e : Entry) (front : Text) (r : Refusal) → is_stuck_refusal r ≡ true → tells_stuck (front ++ (codes " await " ++ (reply_text (reply.No r) ++ 10 ∷ []))) ≡ true
stuck-refusal e front refusal.Stuck h = stuck-within front (codes " await Stuck" ++ 10 ∷ []) refl
stuck-refusal e front refusal.TypeError h = absurd (cc)
stuck-refusal e front refusal.NotFoundError h = absurd (cc)
stuck-refusal e front refusal.TypeMismatchError h = absurd (cc)
stuck-refusal e front refusal.InvalidModificationError h = absurd (cc)
stuck-refusal e front (refusal.NoModificationAllowedError v n) h = absurd (cc)
stuck-refusal e front refusal.InvalidStateError h = absurd (cc)
stuck-refusal e front refusal.SecurityError h = absurd (cc)
stuck-refusal e front (refusal.QuotaExceededError a b c) h = absurd (cc)
stuck-refusal e front refusal.NameLimit h = absurd (cc)
stuck-refusal e front (refusal.MetaFull a b c) h = absurd (cc)
stuck-refusal e front (refusal.DataFull a b c) h = absurd (cc)
stuck-refusal e front refusal.DiskFault h = absurd (cc)
stuck-refusal e front refusal.Unbound h = absurd (cc)

-- The text of an await that was answered with a refusal.
await-line : (a n r : Text) → (a ++ (codes "." ++ (n ++ (codes " " ++ (codes "await" ++ (codes " " ++ r)))))) ++ 10 ∷ [] ≡ (a ++ (codes "." ++ n)) ++ (codes " await " ++ (r ++ 10 ∷ []))
await-line a n r = simp append_assoc

stuck-await : (e : Entry) (tag : Text) → e.op ≡ op.Await tag → (answered : Reply) → e.reply ≡ answered → is_stuck answered ≡ true → tells_stuck (body_of e ++ 10 ∷ []) ≡ true
unfolding body_of
stuck-await e tag is (reply.No r) told h =
    ap tells_stuck (
    (λ i. (decimal e.agent ++ (codes "." ++ (decimal e.number ++ (codes " " ++ (op_text (is i) ++ (codes " " ++ reply_text (told i))))))) ++ 10 ∷ [])
    ∙ await-line (decimal e.agent) (decimal e.number) (reply_text (reply.No r)))
    ∙ stuck-refusal e (decimal e.agent ++ (codes "." ++ decimal e.number)) r h
stuck-await e tag is reply.Done told h = absurd (cc)
stuck-await e tag is (reply.Length n) told h = absurd (cc)
stuck-await e tag is (reply.Flag b) told h = absurd (cc)
stuck-await e tag is (reply.Child k name) told h = absurd (cc)
stuck-await e tag is reply.Last told h = absurd (cc)
stuck-await e tag is reply.NoPath told h = absurd (cc)
stuck-await e tag is (reply.Names path) told h = absurd (cc)
stuck-await e tag is (reply.FileInfo size stamp) told h = absurd (cc)
stuck-await e tag is (reply.Read bytes) told h = absurd (cc)
stuck-await e tag is (reply.Estimate used quota) told h = absurd (cc)
stuck-await e tag is (reply.Gone unit) told h = absurd (cc)

-- One that is settled was not.
not-stuck : (e : Entry) (tag : Text) → e.op ≡ op.Await tag → tells_stuck (body_of e ++ 10 ∷ []) ≡ false → is_stuck e.reply ≡ false
not-stuck e tag is h =
    elim (is_stuck e.reply) as (λ b. is_stuck e.reply ≡ b → b ≡ false) [
      | true ↦ λ so. absurd (true-no (sym (stuck-await e tag is e.reply refl so) ∙ h))
      | false ↦ λ so. refl
    ] refl
  where
    true-no : true ≡ false → ⊥
    true-no e = cc

-- What an entry's line and the text behind it tell of both.
pub record ArePlain (called : Op) (answered : Reply) (more : Text) : Type 0 where
  pub call : evicted_by called ≡ None
  pub free : is_stuck_await called answered ≡ false
  pub rest : tells_room_or_stuck more ≡ false

plain-call : (e : Entry) (more : Text) → tells_room_or_stuck (call_text e ++ more) ≡ false → AreSettled (body_of e ++ 10 ∷ []) more
plain-call e more h = settled-apart (body_of e) more (sym (ap (λ t. tells_room_or_stuck (t ++ more)) (call-line e)) ∙ h)

room-no : (rest : Text) → tells_room_or_stuck (codes "evict " ++ rest) ≡ false → ⊥
room-no rest h = no (or-first (tells_room (codes "evict " ++ rest)) (tells_stuck (codes "evict " ++ rest)) h) (room-front rest)
  where
    no : {b : Bool} → b ≡ false → b ≡ true → ⊥
    no e f = cc

pub plain-kind : (e : Entry) (o : Op) → Kind o → e.op ≡ o → (more : Text) → tells_room_or_stuck (line_by o e ++ more) ≡ false → ArePlain o e.reply more
plain-kind e _ (a_wait tag) is more h = record { call = refl; free = refl; rest = h }
plain-kind e _ (an_eviction unit) is more h = absurd (room-no ((unit ++ codes "\n") ++ more) h)
plain-kind e _ (an_await tag) is more h =
    let settled = plain-call e more h in
    record { call = refl; free = not-stuck e tag is settled.stuck; rest = settled.rest }
plain-kind e o (a_call t) is more h =
    let settled = plain-call e more (sym (ap (λ l. tells_room_or_stuck (l ++ more)) (t.line e)) ∙ h) in
    record { call = t.call; free = t.free e.reply; rest = settled.rest }

-- A settled transcript is of plain entries.
pub settled-plain : SettledTextsArePlain
settled-plain [] h = All-nil IsPlainEntry
settled-plain (e ∷ es) h =
    let plain = plain-kind e e.op (kind_of e.op) refl (text_of es) h in
    All-cons IsPlainEntry e es (record { no_eviction = plain.call; not_stuck = plain.free }) (settled-plain es plain.rest)
