-- The changes of a history build what its last state has stored.
use Rattle.std.proofs.Common.{◌≡◌, ◌≢◌, ℕ, true, false, List, [], ◌∷◌, ◌++◌, map, fold, Option, Some, None, refl, sym, ap, ◌∙◌, subst}
use Rattle.std.proofs.lemmas.Bool.{false≢true}
use Rattle.std.proofs.lemmas.List.Sums.{fold-append}
use Rattle.opfs_base.specs.Places.{Place}
use Rattle.opfs_base.specs.Texts.{Text}
use Rattle.opfs_hist.specs.declared.entry.Entry.{Entry}
use Rattle.opfs_hist.specs.declared.op.Op.{Op}
use Rattle.opfs_hist.specs.declared.op.Op.TheVariants as op
use Rattle.opfs_hist.specs.declared.reply.Reply.{Reply}
use Rattle.opfs_machine.specs.declared.own.Own.{Own}
use Rattle.opfs_machine.specs.declared.own.Own.TheVariants as own
use Rattle.opfs_machine.specs.declared.state.State.{State}
use Rattle.opfs_machine.specs.Agents.{agent_of, own_of}
use Rattle.opfs_machine.specs.Changes.{Change, evict, stream_stored, handle_stored, stored_by, entry_changes, changes_from, changes, changed, durable, durable_row, durable_part}
use Rattle.opfs_machine.specs.Contents.{in_bytes}
use Rattle.opfs_machine.specs.Effects.{effect, refused, moment_of}
use Rattle.opfs_machine.specs.Histories.{evicted_by, IsCall, IsEviction, LegalFrom, Legal, after_op, after_entry, state_after}
use Rattle.opfs_machine.specs.Openings.{Opening, Stored, folder, document, row_of, begun}
use Rattle.opfs_machine.specs.OwnRows.{is_local, is_closed_stream}
use Rattle.opfs_machine.specs.Replies.{sizes_of}
use Rattle.opfs_machine.specs.Steps.{evicted, after_reply, changed_by, is_refusal}
use Rattle.opfs_laws.specs.Builds.{IsOpeningInOrder}
use Rattle.opfs_laws.specs.Holders.{AreLocksOfHolders}
use Rattle.opfs_laws.specs.Whole.{is_rising}
use Rattle.opfs_laws.proofs.Bounded.{effect-limits, refused-limits, modes-gone}
use Rattle.opfs_laws.proofs.Durables.{effect-builds, map-without, as_map, told_rows}
use Rattle.opfs_laws.proofs.Going.{NextFrom, not_evict}
use Rattle.opfs_laws.proofs.Local.{closed}
use Rattle.opfs_laws.proofs.LocksEffect.{locks-fold, locks-kept, locks-begun, gone-untaken}
use Rattle.opfs_laws.proofs.Reaching.{IsKeptBy}
use Rattle.opfs_laws.proofs.RowsEffect.{IsPlaced}
use Rattle.opfs_laws.proofs.Wholes.{IsMap, map-kept, map-gone, call-placed}

-- The order of the modes, over a call.
changed-modes : (s : State Text Own) (k : ℕ) (o : Op) (answered : Reply) → (is_refusal answered ≡ false → IsPlaced s o) → is_rising s.persistent ≡ true → is_rising (changed_by s k o answered).persistent ≡ true
changed-modes s k o answered may h =
    elim (is_refusal answered) as (λ b. (b ≡ false → IsPlaced s o) → is_rising (elim b as (λ x. State Text Own) [ true ↦ refused s k o | false ↦ effect in_bytes s (sizes_of s k o) k o ]).persistent ≡ true) [
      | true ↦ λ m. (refused-limits s k o h).rising
      | false ↦ λ m. (effect-limits s (sizes_of s k o) k o (m refl) h).rising
    ] may

-- What the state keeps for this.
pub record IsBase (s : State Text Own) : Type 0 where
  pub rows : IsMap s.rows
  pub locks : AreLocksOfHolders s
  pub rising : is_rising s.persistent ≡ true

base-kept : IsKeptBy IsBase
base-kept s gone e call h = record {
  rows = map-kept s gone e call h.rows;
  locks = locks-kept s gone e call h.locks;
  rising = changed-modes (fold evicted s gone) e.agent e.op e.reply (call-placed s gone e call) (ap is_rising (modes-gone gone s) ∙ h.rising);
}

abbrev Builds : State Text Own → List Change → State Text Own → Type 0
Builds s told t = fold changed (durable_part s) told ≡ durable_part t

refused-same : (s : State Text Own) (k : ℕ) (o : Op) → durable_part (refused s k o) ≡ durable_part s
refused-same s k (op.Await tag) = refl
refused-same s k o = refl

entry-builds : (s : State Text Own) (e : Entry) → IsMap s.rows → AreLocksOfHolders s → is_rising s.persistent ≡ true → ((unit : Text) → e.op ≢ op.Evict unit)
    → Builds s (entry_changes s e) (after_reply s e.agent e.op e.reply)
entry-builds s e rows locks rising other =
    elim (is_refusal e.reply) as (λ b. fold changed (durable_part s) (elim b as (λ x. List Change) [ true ↦ [] | false ↦ stored_by s e.agent e.op ])
    ≡ durable_part (elim b as (λ x. State Text Own) [ true ↦ refused s e.agent e.op | false ↦ effect in_bytes s (sizes_of s e.agent e.op) e.agent e.op ])) [
      | true ↦ sym (refused-same s e.agent e.op)
      | false ↦ effect-builds s e.agent e.op rows.order locks rising other
    ]

-- An eviction.
evicts : (s : State Text Own) (k : ℕ) (o : Op) (unit : Text) → evicted_by o ≡ Some unit → stored_by s k o ≡ evict unit ∷ []
unfolding stored_by
evicts s k (op.Evict u) unit h = ap (λ x. evict x ∷ []) (same h)
  where
    same : Some u ≡ Some unit → u ≡ unit
    same e = cc
evicts s k o unit h = absurd (none_some h)
  where
    none_some : ◌≡◌ {A = Option Text} None (Some unit) → ⊥
    none_some e = cc

eviction-builds : (s : State Text Own) (e : Entry) (unit : Text) → evicted_by e.op ≡ Some unit → IsEviction unit e → Builds s (entry_changes s e) (evicted s unit)
eviction-builds s e unit is told =
    ap (λ b. fold changed (durable_part s) (elim b as (λ x. List Change) [ true ↦ [] | false ↦ stored_by s e.agent e.op ])) (ap is_refusal told.told)
    ∙ ap (fold changed (durable_part s)) (evicts s e.agent e.op unit is)
    ∙ ap (λ rows. as_map rows s.persistent) (sym (map-without (unit, []) s.rows))

call-other : (s : State Text Own) (gone : List Text) (e : Entry) → IsCall s gone e → (unit : Text) → e.op ≢ op.Evict unit
call-other s gone e call unit h = none_some (sym (not_evict s e.agent e.op call.fitting) ∙ ap evicted_by h)
  where
    none_some : ◌≡◌ {A = Option Text} None (Some unit) → ⊥
    none_some e = cc

abbrev BuiltOn : State Text Own → List Text → Entry → List Entry → Option Text → Type 0
BuiltOn s gone e es told =
    evicted_by e.op ≡ told → NextFrom s gone e es told
    → fold changed (durable_part (fold evicted s gone)) (entry_changes (fold evicted s gone) e ++ changes_from (after_op (fold evicted s gone) e told) es)
    ≡ durable_part (fold after_entry (after_op (fold evicted s gone) e told) es)

built-from : (s : State Text Own) (gone : List Text) (es : List Entry) → LegalFrom s gone es → IsBase s
    → fold changed (durable_part (fold evicted s gone)) (changes_from (fold evicted s gone) es) ≡ durable_part (fold after_entry (fold evicted s gone) es)
built-from s gone [] legal h = refl
built-from s gone (e ∷ es) legal h =
    let t = fold evicted s gone in
    elim (evicted_by e.op) as (BuiltOn s gone e es) [
      | Some unit ↦ λ is next.
          fold-append changed (durable_part t) (entry_changes t e) (changes_from (evicted t unit) es)
          ∙ ap (λ m. fold changed m (changes_from (evicted t unit) es)) (eviction-builds t e unit is next.0)
          ∙ subst (λ u. fold changed (durable_part u) (changes_from u es) ≡ durable_part (fold after_entry u es)) (fold-append evicted s gone (unit ∷ [])) (built-from s (gone ++ unit ∷ []) es next.1 h)
      | None ↦ λ is next.
          let u = after_reply t e.agent e.op e.reply in
          fold-append changed (durable_part t) (entry_changes t e) (changes_from u es)
          ∙ ap (λ m. fold changed m (changes_from u es))
          (entry-builds t e (map-gone gone s h.rows) (locks-fold gone s (gone-untaken s gone e next.0) h.locks) (ap is_rising (modes-gone gone s) ∙ h.rising) (call-other s gone e next.0))
          ∙ built-from u [] es next.1 (base-kept s gone e next.0 h)
    ] refl legal

row-begun : (x : Stored) → durable_row (row_of x) ≡ x
row-begun folder = refl
row-begun (document bytes stamp) = refl

rows-begun : (es : List (Place × Stored)) → told_rows (map (λ e. (e.0, row_of e.1)) es) ≡ es
rows-begun [] = refl
rows-begun (e ∷ es) = λ i. (e.0, row-begun e.1 i) ∷ rows-begun es i

pub built : (o : Opening) (h : List Entry) → IsOpeningInOrder o → Legal o h → durable o (changes o h) ≡ durable_part (state_after o h)
built o h opening legal =
    ap (λ rows. fold changed (as_map rows o.stored.persistent) (changes o h)) (sym (rows-begun o.stored.rows))
    ∙ built-from (begun o) [] h legal (record { rows = record { order = opening.order; parents = opening.parents }; locks = locks-begun o; rising = opening.modes })

pub refused-none : (s : State Text Own) (e : Entry) → is_refusal e.reply ≡ true → entry_changes s e ≡ []
refused-none s e h = ap (λ b. elim b as (λ x. List Change) [ true ↦ [] | false ↦ stored_by s e.agent e.op ]) h

closed-stream : (stamp : ℕ) (o : Option Own) → is_closed_stream o ≡ true → stream_stored stamp o ≡ []
closed-stream stamp None h = refl
closed-stream stamp (Some (own.Stream w)) h = absurd (false≢true h)
closed-stream stamp (Some r) h = refl

local-stored : (s : State Text Own) (k : ℕ) (o : Op) → is_local s k o ≡ true → stored_by s k o ≡ []
unfolding is_local stored_by
local-stored s k (op.GetDirectory bucket) h = absurd (false≢true h)
local-stored s k (op.GetDirectoryHandle dir name create) h = absurd (false≢true h)
local-stored s k (op.GetFileHandle dir name create) h = absurd (false≢true h)
local-stored s k (op.RemoveEntry dir name recursive) h = absurd (false≢true h)
local-stored s k (op.Close n) h = closed-stream (moment_of s k) (own_of (agent_of s k) n) h
local-stored s k (op.SyncFlush n) h = ap (handle_stored s) (closed (own_of (agent_of s k) n) h)
local-stored s k (op.SyncClose n) h = ap (handle_stored s) (closed (own_of (agent_of s k) n) h)
local-stored s k (op.Persist bucket) h = absurd (false≢true h)
local-stored s k (op.Evict unit) h = absurd (false≢true h)
local-stored s k o h = refl

pub local-none : (s : State Text Own) (e : Entry) → is_local s e.agent e.op ≡ true → entry_changes s e ≡ []
local-none s e h =
    elim (is_refusal e.reply) as (λ b. elim b as (λ x. List Change) [ true ↦ [] | false ↦ stored_by s e.agent e.op ] ≡ []) [
      | true ↦ refl
      | false ↦ local-stored s e.agent e.op h
    ]
