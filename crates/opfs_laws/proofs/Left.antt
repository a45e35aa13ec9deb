-- What is an agent's own, in states that are alike to it.
use Rattle.std.proofs.Common.{◌≡◌, ℕ, true, false, not, ◌&&◌, List, [], ◌∷◌, fold, Ok, Err, refl, sym, ap, ◌∙◌, subst, IsTrue}
use Rattle.std.proofs.lemmas.Bool.{false≢true}
use Rattle.std.specs.List.{list_any}
use Rattle.opfs_base.specs.Texts.{Text}
use Rattle.opfs_hist.specs.declared.entry.Entry.{Entry}
use Rattle.opfs_hist.specs.declared.op.Op.{Op}
use Rattle.opfs_hist.specs.declared.op.Op.TheVariants as op
use Rattle.opfs_machine.specs.declared.own.Own.{Own}
use Rattle.opfs_machine.specs.declared.state.State.{State}
use Rattle.opfs_machine.specs.Agents.{agent_of, own_of, is_open_row}
use Rattle.opfs_machine.specs.Contents.{outline_of}
use Rattle.opfs_machine.specs.Histories.{may_enter, asks_stuck, is_of_origin, is_iterator_of, is_snapshot, is_stream, is_handle, is_open_handle, after_op, after_entry}
use Rattle.opfs_machine.specs.OwnRows.{mine, is_local}
use Rattle.opfs_machine.specs.Ruled.{Ruled}
use Rattle.opfs_machine.specs.Steps.{outcome_of, step, judged, evicted, after_reply}
use Rattle.opfs_laws.specs.GoingOn.{IsPending, ArePending}
use Rattle.opfs_laws.specs.Leaving.{seen_by, asks_nobody, is_end, IsMoved, OthersLeaveAnAgent}
use Rattle.opfs_laws.proofs.Alike.{local-alike, step-alike}
use Rattle.opfs_laws.proofs.Going.{not_evict}
use Rattle.opfs_laws.proofs.Local.{none_victims}
use Rattle.opfs_laws.proofs.Moved.{call-moves}
use Rattle.opfs_laws.proofs.Others.{others-left}

outcome-after : (s : State Text Own) (k : ℕ) (o : Op) (ruled : Ruled (List Text))
    → (outcome_of s k o ruled).after ≡ after_reply (fold evicted s (outcome_of s k o ruled).victims) k o (outcome_of s k o ruled).answered
unfolding outcome_of
outcome-after s k o (Ok units) = refl
outcome-after s k o (Err refusal) = refl

step-after : (s : State Text Own) (k : ℕ) (o : Op) → (step s k o).after ≡ after_reply (fold evicted s (step s k o).victims) k o (step s k o).answered
unfolding step
step-after s k o = outcome-after s k o (judged s k o)

-- A local call clears no unit.
local-after : (s : State Text Own) (k : ℕ) (o : Op) → is_local s k o ≡ true → (step s k o).after ≡ after_reply s k o (step s k o).answered
local-after s k o local = step-after s k o ∙ ap (λ units. after_reply (fold evicted s units) k o (step s k o).answered) (none_victims s k o local)

-- A local call is no end, and asks nobody.
pub local-plain : (s : State Text Own) (k : ℕ) (o : Op) → is_local s k o ≡ true → (is_end o ≡ false) × (asks_stuck o ≡ false)
unfolding is_local
local-plain s k (op.Await tag) h = absurd (false≢true h)
local-plain s k (op.Wait tag) h = absurd (false≢true h)
local-plain s k op.End h = absurd (false≢true h)
local-plain s k o h = (refl, refl)

local-moved : (s : State Text Own) (k : ℕ) (o : Op) → IsTrue (agent_of s k).live → is_local s k o ≡ true → IsMoved (agent_of s k) o (agent_of (step s k o).after k)
local-moved s k o live local =
    subst (λ t. IsMoved (agent_of s k) o (agent_of t k)) (sym (local-after s k o local)) (call-moves s [] k o (step s k o).answered live)

pub local-left : (s t : State Text Own) (k : ℕ) (o : Op) → IsTrue (agent_of s k).live → seen_by s k ≡ seen_by t k → is_local s k o ≡ true
    → seen_by (step s k o).after k ≡ seen_by (step t k o).after k
local-left s t k o live same local =
    let agent : agent_of s k ≡ agent_of t k = ap (λ x. x.0) same in
    let own : mine s k ≡ mine t k = ap (λ x. x.1) same in
    let alive : IsTrue (agent_of t k).live = ap (λ a. a.live) (sym agent) ∙ live in
    let there : is_local t k o ≡ true = sym (local-alike s t k own o) ∙ local in
    let left = local-moved s k o live local in
    let right = local-moved t k o alive there in
    let plain = local-plain s k o local in
    let m = (step-alike s t k o live alive own local).1 in
    let key = left.key ∙ ap (λ a. a.key) agent ∙ sym right.key in
    let grant = left.grant ∙ ap (λ a. a.grant) agent ∙ sym right.grant in
    let lives = left.live plain.0 ∙ ap (λ a. a.live) agent ∙ sym (right.live plain.0) in
    let waits = left.waits plain.0 plain.1 ∙ ap (λ a. a.waits) agent ∙ sym (right.waits plain.0 plain.1) in
    λ i. (record { key = key i; grant = grant i; live = lives i; moment = (m i).moment; waits = waits i; own = (m i).rows }, m i)

module _ (s t : State Text Own) (k : ℕ) (same : seen_by s k ≡ seen_by t k) where
  agent : agent_of s k ≡ agent_of t k
  agent = ap (λ x. x.0) same

  pub may-left : (o : Op) → asks_nobody o ≡ true → may_enter s k o ≡ may_enter t k o
  unfolding may_enter
  may-left (op.GetDirectoryHandle dir name create) h = ap (λ a. is_of_origin a.key dir) agent
  may-left (op.GetFileHandle dir name create) h = ap (λ a. is_of_origin a.key dir) agent
  may-left (op.RemoveEntry dir name recursive) h = ap (λ a. is_of_origin a.key dir) agent
  may-left (op.Values dir) h = ap (λ a. is_of_origin a.key dir) agent
  may-left (op.Next n dir) h = ap (λ a. is_of_origin a.key dir && is_iterator_of dir (own_of a n)) agent
  may-left (op.GetFile at) h = ap (λ a. is_of_origin a.key at) agent
  may-left (op.Slice n at len) h = ap (λ a. is_snapshot (own_of a n)) agent
  may-left (op.CreateWritable at keep) h = ap (λ a. is_of_origin a.key at) agent
  may-left (op.Write n bytes position) h = ap (λ a. is_stream (own_of a n)) agent
  may-left (op.Seek n position) h = ap (λ a. is_stream (own_of a n)) agent
  may-left (op.Truncate n size) h = ap (λ a. is_stream (own_of a n)) agent
  may-left (op.Close n) h = ap (λ a. is_stream (own_of a n)) agent
  may-left (op.Abort n) h = ap (λ a. is_stream (own_of a n)) agent
  may-left (op.CreateSyncAccessHandle at m) h = ap (λ a. is_of_origin a.key at) agent
  may-left (op.SyncRead n len at) h = ap (λ a. is_handle (own_of a n)) agent
  may-left (op.SyncWrite n bytes at) h = ap (λ a. is_handle (own_of a n)) agent
  may-left (op.SyncTruncate n size) h = ap (λ a. is_handle (own_of a n)) agent
  may-left (op.SyncGetSize n) h = ap (λ a. is_handle (own_of a n)) agent
  may-left (op.SyncFlush n) h = ap (λ a. is_handle (own_of a n)) agent
  may-left (op.SyncClose n) h = ap (λ a. is_handle (own_of a n)) agent
  may-left (op.Discard n) h = ap (λ a. is_open_handle (own_of a n)) agent
  may-left (op.Await tag) h = absurd (false≢true h)
  may-left (op.Wait tag) h = absurd (false≢true h)
  may-left op.End h = ap (λ a. not (list_any (λ x. is_open_row (outline_of x)) a.own)) agent
  may-left (op.GetDirectory bucket) h = refl
  may-left (op.Resolve dir entry) h = refl
  may-left (op.IsSameEntry entry to) h = refl
  may-left (op.Persist bucket) h = refl
  may-left (op.Persisted bucket) h = refl
  may-left op.Estimate h = refl
  may-left (op.Moment ms) h = refl
  may-left (op.Post tag) h = refl
  may-left (op.Unbound word) h = refl
  may-left (op.Evict unit) h = refl

-- A pending entry leaves what the machine's step does.
pub pending-after : (s : State Text Own) (k : ℕ) (e : Entry) → IsPending s k e → after_entry s e ≡ (step s e.agent e.op).after
pending-after s k e h =
    ap (after_op s e) (not_evict s e.agent e.op h.fitting)
    ∙ ap (after_reply s e.agent e.op) h.answered
    ∙ sym (local-after s e.agent e.op h.local)

pub pending-left : (s t : State Text Own) (k : ℕ) (es : List Entry) → seen_by s k ≡ seen_by t k → ArePending s k es
    → ArePending t k es × (seen_by (fold after_entry s es) k ≡ seen_by (fold after_entry t es) k)
pending-left s t k [] same h = (tt, same)
pending-left s t k (e ∷ es) same h =
    let first = h.0 in
    let here : seen_by s e.agent ≡ seen_by t e.agent = subst (λ j. seen_by s j ≡ seen_by t j) (sym first.agent) same in
    let agent : agent_of s e.agent ≡ agent_of t e.agent = ap (λ x. x.0) here in
    let own : mine s e.agent ≡ mine t e.agent = ap (λ x. x.1) here in
    let alive : IsTrue (agent_of t e.agent).live = ap (λ a. a.live) (sym agent) ∙ first.live in
    let nobody = ap not (local-plain s e.agent e.op first.local).1 in
    let there : IsPending t k e = record {
      agent = first.agent;
      live = alive;
      fitting = sym (may-left s t e.agent here e.op nobody) ∙ first.fitting;
      local = sym (local-alike s t e.agent own e.op) ∙ first.local;
      answered = first.answered ∙ (step-alike s t e.agent e.op first.live alive own first.local).0;
      turn = first.turn;
    } in
    let after : seen_by (after_entry s e) e.agent ≡ seen_by (after_entry t e) e.agent =
    ap (λ x. seen_by x e.agent) (pending-after s k e first)
    ∙ local-left s t e.agent e.op first.live here first.local
    ∙ ap (λ x. seen_by x e.agent) (sym (pending-after t k e there))
    in
    let rest = pending-left (after_entry s e) (after_entry t e) k es (subst (λ j. seen_by (after_entry s e) j ≡ seen_by (after_entry t e) j) first.agent after) h.1 in
    ((there, rest.0), rest.1)

pub others-leave : OthersLeaveAnAgent
others-leave = record { others = others-left; local = local-left; may = λ s t k o same h. may-left s t k same o h; pending = pending-left }
