-- A local call clears no unit.
use Rattle.std.proofs.Common.{◌≡◌, ℕ, ◌-◌, ◌*◌, true, List, [], ◌∷◌, Option, Some, None, Ok, Err, refl, sym, ap, subst, arith, inl}
use Rattle.opfs_base.specs.Blocks.{blocks}
use Rattle.opfs_base.specs.Texts.{Text}
use Rattle.opfs_hist.specs.declared.entry.Entry.{Entry}
use Rattle.opfs_hist.specs.declared.op.Op.{Op}
use Rattle.opfs_hist.specs.declared.op.Op.TheVariants as op
use Rattle.opfs_hist.specs.declared.reply.Refusal.{Refusal}
use Rattle.opfs_hist.specs.declared.reply.Refusal.TheVariants as refusal
use Rattle.opfs_machine.specs.declared.own.Own.{Own}
use Rattle.opfs_machine.specs.declared.own.Own.TheVariants as own
use Rattle.opfs_machine.specs.declared.own.StreamOutline.{StreamOutline}
use Rattle.opfs_machine.specs.declared.own.HandleOutline.{HandleOutline}
use Rattle.opfs_machine.specs.declared.state.Need.{Need}
use Rattle.opfs_machine.specs.declared.state.Sizes.{Sizes}
use Rattle.opfs_machine.specs.declared.state.State.{State}
use Rattle.opfs_machine.specs.Agents.{agent_of, own_of, open_stream, open_handle, stream_in, handle_in, of_row}
use Rattle.opfs_machine.specs.Contents.{in_bytes, outline_of}
use Rattle.opfs_machine.specs.Histories.{IsCall, LegalFrom, after_op, after_entry}
use Rattle.opfs_machine.specs.OwnRows.{is_local, fits_stream, is_closed_handle}
use Rattle.opfs_machine.specs.Replies.{sizes_of}
use Rattle.opfs_machine.specs.Rows.{file_at}
use Rattle.opfs_machine.specs.Ruled.{Ruled, ◌>>=◌, ◌>>◌, unless, some_or}
use Rattle.opfs_machine.specs.Rulings.{grow_stream_ruling, stream_ruling, grow_handle_ruling, handle_ruling, ruling, reserve_for, size_written, locked_by, lock_in, is_read_write}
use Rattle.opfs_machine.specs.Steps.{judged, outcome_of, room_for, step}
use Rattle.opfs_machine.specs.Sums.{no_need, keeps_blocks, pool}
use Rattle.opfs_base.specs.Measures.{block_charge}
use Rattle.opfs_machine.specs.Victims.{shortest_front, candidates}
use Rattle.opfs_laws.specs.GoingOn.{ArePending}
use Rattle.opfs_laws.proofs.Going.{NextFrom, not_evict}

-- What asks for nothing, or refuses.
pub data Asks : Ruled Need → Type 0 where
  nothing : Asks (Ok no_need)
  refuses : (r : Refusal) → Asks (Err r)

abbrev Fits : Option Own → ℕ → Option StreamOutline → Type 0
Fits row size w = fits_stream row size ≡ true → Asks ((some_or w refusal.TypeError) >>= (λ w. Ok (keeps_blocks (reserve_for w.reserve size - w.reserve))))

keeps_none : (n : ℕ) → n ≡ 0 → keeps_blocks n ≡ no_need
keeps_none n h = ap keeps_blocks h

grow_asks : (row : Option Own) (size : ℕ) → Fits row size (of_row (λ r. stream_in (outline_of r)) row)
unfolding ◌>>=◌
grow_asks None size h = refuses _
grow_asks (Some (own.Stream w)) size h = subst (λ n. Asks (Ok n)) (sym (keeps_none (reserve_for w.reserve size - w.reserve) (grind arith))) nothing
grow_asks (Some r) size h = refuses _

stream_asks : (s : State Text Own) (k n : ℕ) → Asks (stream_ruling in_bytes s k n)
unfolding stream_ruling ◌>>=◌
stream_asks s k n = elim (open_stream in_bytes s k n) as (λ w. Asks ((some_or w refusal.TypeError) >>= (λ w. Ok no_need))) [ Some w ↦ nothing | None ↦ refuses _ ]

handle_asks : (s : State Text Own) (k n : ℕ) → Asks (handle_ruling in_bytes s k n)
unfolding handle_ruling ◌>>=◌
handle_asks s k n = elim (open_handle in_bytes s k n) as (λ w. Asks ((some_or w refusal.InvalidStateError) >>= (λ w. Ok no_need))) [ Some w ↦ nothing | None ↦ refuses _ ]

abbrev Closed : State Text Own → Sizes → ℕ → Option Own → Option HandleOutline → Type 0
Closed s z size row h = is_closed_handle row ≡ true → h ≡ None

pub closed : (row : Option Own) → is_closed_handle row ≡ true → of_row (λ r. handle_in (outline_of r)) row ≡ None
closed None h = refl
closed (Some (own.Handle w)) h = cc
closed (Some r) h = refl

abbrev pub grown : State Text Own → Sizes → ℕ → HandleOutline → Ruled Need
grown s z size h = do
  unless (is_read_write h.mode) (locked_by (lock_in (file_at s h.file)))
  Ok (record {
    quota = blocks size - blocks z.size;
    pool = reserve_for h.reserve size - h.reserve;
    charge = block_charge * (reserve_for h.reserve size - h.reserve);
  })

pub grow_closed : (s : State Text Own) (z : Sizes) (k n size : ℕ) → open_handle in_bytes s k n ≡ None → Asks (grow_handle_ruling in_bytes s z k n size)
unfolding grow_handle_ruling ◌>>=◌
grow_closed s z k n size h = subst (λ o. Asks ((some_or o refusal.InvalidStateError) >>= (grown s z size))) (sym h) (refuses _)

-- A local call asks for nothing.
pub local_asks : (s : State Text Own) (k : ℕ) (o : Op) → is_local s k o ≡ true → Asks (ruling in_bytes s (sizes_of s k o) k o)
unfolding ruling is_local grow_stream_ruling
local_asks s k (op.Values dir) h = nothing
local_asks s k (op.Resolve dir entry) h = nothing
local_asks s k (op.IsSameEntry entry to) h = nothing
local_asks s k (op.Slice n at len) h = nothing
local_asks s k (op.Write n bytes position) h = grow_asks (own_of (agent_of s k) n) (size_written (sizes_of s k (op.Write n bytes position)) position bytes) h
local_asks s k (op.Seek n position) h = stream_asks s k n
local_asks s k (op.Truncate n size) h = grow_asks (own_of (agent_of s k) n) size h
local_asks s k (op.Close n) h = stream_asks s k n
local_asks s k (op.Abort n) h = stream_asks s k n
local_asks s k (op.SyncRead n len at) h = handle_asks s k n
local_asks s k (op.SyncWrite n bytes at) h = grow_closed s (sizes_of s k (op.SyncWrite n bytes at)) k n _ (closed (own_of (agent_of s k) n) h)
local_asks s k (op.SyncTruncate n size) h = grow_closed s (sizes_of s k (op.SyncTruncate n size)) k n size (closed (own_of (agent_of s k) n) h)
local_asks s k (op.SyncGetSize n) h = handle_asks s k n
local_asks s k (op.SyncFlush n) h = handle_asks s k n
local_asks s k (op.SyncClose n) h = nothing
local_asks s k (op.Moment ms) h = nothing
local_asks s k (op.Unbound word) h = refuses _
local_asks s k o h = cc

none_cleared : (s : State Text Own) (units : List Text) → shortest_front in_bytes s 0 units ≡ Some []
none_cleared s [] = refl
none_cleared s (unit ∷ units) = refl

pub room_for_nothing : (s : State Text Own) (caller : Option Text) → room_for in_bytes s caller no_need ≡ Ok []
unfolding room_for ◌>>◌
room_for_nothing s caller = ap (λ v. some_or v (refusal.DataFull (pool in_bytes s) 0 s.limits.blocks)) (none_cleared s (candidates s caller))

outcome_asks : (s : State Text Own) (k : ℕ) (o : Op) (caller : Option Text) (r : Ruled Need) → Asks r → (outcome_of s k o (r >>= room_for in_bytes s caller)).victims ≡ []
unfolding outcome_of ◌>>=◌
outcome_asks s k o caller (Ok n) nothing = ap (λ u. (outcome_of s k o u).victims) (room_for_nothing s caller)
outcome_asks s k o caller (Err e) (refuses r) = refl

pub none_victims : (s : State Text Own) (k : ℕ) (o : Op) → is_local s k o ≡ true → (step s k o).victims ≡ []
unfolding step judged
none_victims s k o h = outcome_asks s k o (agent_of s k).key (ruling in_bytes s (sizes_of s k o) k o) (local_asks s k o h)

pub pending-legal : (s : State Text Own) (k : ℕ) (es : List Entry) → ArePending s k es → LegalFrom s [] es
pending-legal s k [] h = refl
pending-legal s k (e ∷ es) h =
    let plain = not_evict s e.agent e.op h.0.fitting in
    let call : IsCall s [] e = record {
      live = h.0.live;
      fitting = h.0.fitting;
      agrees = inl (record { same_reply = h.0.answered; victims = sym (none_victims s e.agent e.op h.0.local) });
    } in
    let rest = subst (λ t. LegalFrom t [] es) (ap (after_op s e) plain) (pending-legal (after_entry s e) k es h.1) in
    subst (NextFrom s [] e es) (sym plain) (call, rest)
