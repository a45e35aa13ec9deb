-- Judging does not see what pending entries leave.
use Rattle.std.proofs.Common.{◌≡◌, ℕ, zero, suc, ◌+◌, ◌-◌, ◌*◌, ◌<◌, ◌==◌, Bool, true, false, ◌&&◌, ◌||◌, not, cond, List, [], ◌∷◌, ◌++◌, fold, map, filter, length, Option, Some, None, Ok, Err, option_map, refl, sym, ap, ◌∙◌, arith}
use Rattle.std.specs.Prelude.{slice_get, unwrap_or, replicate, nat_le}
use Rattle.std.proofs.lemmas.List.Folds.{sum_by-replicate}
use Rattle.std.proofs.lemmas.List.Sums.{sum_by-append}
use Rattle.std.specs.Cmp.Lexicographic.{slice_cmp, nat_list_cmp_total, texts_ties}
use Rattle.std.specs.FinMap.Entries.{find, find-put}
use Rattle.std.specs.Ordering.{nat_cmp}
use Rattle.opfs_base.specs.Measures.{block_charge}
use Rattle.opfs_base.specs.Blocks.{blocks}
use Rattle.opfs_base.specs.Texts.{Text, same_text}
use Rattle.opfs_base.specs.Units.{is_bucket_name, unit_of, origin_of}
use Rattle.opfs_base.specs.declared.locator.Kind.TheVariants as kind
use Rattle.opfs_hist.specs.declared.history.PendingSum.{PendingSum}
use Rattle.opfs_hist.specs.declared.op.Op.{Op}
use Rattle.opfs_hist.specs.declared.op.Op.TheVariants as op
use Rattle.opfs_hist.specs.declared.reply.Refusal.TheVariants as refusal
use Rattle.opfs_laws.specs.Lengths.Bridge.{judged_in}
use Rattle.opfs_machine.specs.declared.own.HandleOutline.{HandleOutline}
use Rattle.opfs_machine.specs.declared.own.StreamOutline.{StreamOutline}
use Rattle.opfs_machine.specs.declared.own.Outline.{Outline}
use Rattle.opfs_machine.specs.declared.own.Outline.TheVariants as outline
use Rattle.opfs_machine.specs.declared.state.Agent.{Agent}
use Rattle.opfs_machine.specs.declared.state.Need.{Need}
use Rattle.opfs_machine.specs.declared.state.Sizes.{Sizes}
use Rattle.opfs_machine.specs.Agents.{agent_of, own_of, of_row, stream_in, handle_in, open_stream, open_handle, is_posted, last_use, party_with}
use Rattle.opfs_machine.specs.Contents.{in_lengths}
use Rattle.opfs_machine.specs.Ordered.{insert_by}
use Rattle.opfs_machine.specs.Replies.{origin_in}
use Rattle.opfs_machine.specs.Rows.{row_at, file_at}
use Rattle.opfs_machine.specs.Ruled.{Ruled, ◌>>=◌, ◌>>◌, unless, some_or}
use Rattle.opfs_machine.specs.Rulings.{ruling, making, get_directory_ruling, get_handle_ruling, remove_entry_ruling, located_ruling, create_writable_ruling, grow_stream_ruling, stream_ruling, create_sync_ruling, grow_handle_ruling, handle_ruling, persisting, persist_ruling, persisted_ruling, estimate_ruling, await_ruling, reserve_for, is_read_write, locked_by, lock_in, size_written}
use Rattle.opfs_machine.specs.Steps.{room_for}
use Rattle.opfs_machine.specs.Sums.{row_reserve, reserve_of, usage, pool, charge, fits_pool, keeps_blocks, no_need}
use Rattle.opfs_machine.specs.Victims.{is_callers, is_candidate, candidates, cleared, shortest_front, victims, root_units, use_cmp}
use Rattle.opfs_register.specs.Seating.{noted, used_by}
use Rattle.opfs_state_rows.proofs.standing.AgentMoves.{number, own-set}
use Rattle.opfs_state_rows.proofs.standing.Units.{same_unit, unit_itself}
use Rattle.opfs_state_rows.specs.Standing.Noted.{with_sum}
use Rattle.opfs_state_rows.specs.Standing.Seen.{Machine}
use Rattle.opfs_state.proofs.laws.Readying.{agent-noted, handle-noted}
use Rattle.opfs_state.specs.Verdicts.Callers.{IsAgent}

-- An iterator more is no stream.
stream-replicated : (more n : ℕ) → of_row stream_in (slice_get (replicate more outline.Iterator) n) ≡ None
stream-replicated zero zero = refl
stream-replicated zero (suc n) = refl
stream-replicated (suc more) zero = refl
stream-replicated (suc more) (suc n) = stream-replicated more n

stream-more : (rows : List Outline) (more n : ℕ) → of_row stream_in (slice_get (rows ++ replicate more outline.Iterator) n) ≡ of_row stream_in (slice_get rows n)
stream-more [] more zero = stream-replicated more zero
stream-more [] more (suc n) = stream-replicated more (suc n)
stream-more (r ∷ rows) more zero = refl
stream-more (r ∷ rows) more (suc n) = stream-more rows more n

stream-noted : (a : Agent Outline) (more : ℕ) (moment : Option ℕ) (n : ℕ) → of_row stream_in (own_of (noted a more moment) n) ≡ of_row stream_in (own_of a n)
stream-noted a more moment zero = refl
stream-noted a more moment (suc n) = stream-more a.own more n

same_other : (key origin : Text) → same_text key origin ≡ false → same_text origin key ≡ false
same_other key origin other =
    elim (same_text origin key) as (λ t. same_text origin key ≡ t → t ≡ false) [
      | true ↦ λ is. sym (unit_itself key origin (sym (same_unit origin key is))) ∙ other
      | false ↦ λ is. refl
    ] refl

-- Another origin's last use.
use-by : (used : List (Text × ℕ)) (key : Option Text) (number : ℕ) (unit : Text) → is_callers key unit ≡ false
    → unwrap_or (find (slice_cmp nat_cmp) (origin_of unit) (used_by used key number)) 0 ≡ unwrap_or (find (slice_cmp nat_cmp) (origin_of unit) used) 0
use-by used None number unit other = refl
use-by used (Some key) number unit other =
    ap (λ o. unwrap_or o 0) (find-put (slice_cmp nat_cmp) nat_list_cmp_total (origin_of unit) key number used)
    ∙ ap (λ b. unwrap_or (cond b (Some number) (find (slice_cmp nat_cmp) (origin_of unit) used)) 0) (sym (texts_ties (origin_of unit) key) ∙ same_other key (origin_of unit) other)

use-noted : (m : Machine) (at : ℕ) (sum : PendingSum) (key : Option Text) (unit : Text) → key ≡ (agent_of m (suc at)).key → is_callers key unit ≡ false → last_use (with_sum m at sum) (origin_of unit) ≡ last_use m (origin_of unit)
use-noted m at sum key unit same other =
    elim (sum.entries == 0) as (λ t. unwrap_or (find (slice_cmp nat_cmp) (origin_of unit) (elim t [ true ↦ m.used | false ↦ used_by m.used (agent_of m (suc at)).key (m.entries + sum.entries) ])) 0 ≡ last_use m (origin_of unit)) [
      | true ↦ refl
      | false ↦ use-by m.used (agent_of m (suc at)).key (m.entries + sum.entries) unit (ap (λ k. is_callers k unit) (sym same) ∙ other)
    ]

not-callers : (a b c : Bool) → (not a && not b && c) ≡ true → b ≡ false
not-callers a false c is = refl
not-callers true true c is = cc
not-callers false true c is = cc

-- The candidates come in the same order.
sorted : Machine → List (ℕ × Text) → List Text → List (ℕ × Text)
sorted s acc units = fold (λ sorted unit. insert_by use_cmp (last_use s (origin_of unit), unit) sorted) acc units

order-noted : (m : Machine) (at : ℕ) (sum : PendingSum) (key : Option Text) → key ≡ (agent_of m (suc at)).key → (units : List Text) (acc : List (ℕ × Text))
    → sorted (with_sum m at sum) acc (filter (is_candidate m key) units) ≡ sorted m acc (filter (is_candidate m key) units)
unfolding sorted
order-noted m at sum key same [] acc = refl
order-noted m at sum key same (unit ∷ units) acc =
    elim (is_candidate m key unit) as (λ t. is_candidate m key unit ≡ t → sorted (with_sum m at sum) acc (cond t (unit ∷ filter (is_candidate m key) units) (filter (is_candidate m key) units)) ≡ sorted m acc (cond t (unit ∷ filter (is_candidate m key) units) (filter (is_candidate m key) units))) [
      | true ↦ λ is.
          ap (λ last. sorted (with_sum m at sum) (insert_by use_cmp (last, unit) acc) (filter (is_candidate m key) units)) (use-noted m at sum key unit same (not-callers _ _ _ is))
          ∙ order-noted m at sum key same units (insert_by use_cmp (last_use m (origin_of unit), unit) acc)
      | false ↦ λ is. order-noted m at sum key same units acc
    ] refl

goes-on : {A B : Type 0} (r : Ruled A) (f g : A → Ruled B) → ((a : A) → f a ≡ g a) → (r >>= f) ≡ (r >>= g)
unfolding ◌>>=◌
goes-on (Ok a) f g same = same a
goes-on (Err e) f g same = refl

module _ (at : ℕ) (sum : PendingSum) where
  usage-noted : (m : Machine) → at < length m.agents → (origin : Text) → usage in_lengths (with_sum m at sum) origin ≡ usage in_lengths m origin
  unfolding row_reserve
  usage-noted m inside origin =
      let f = row_reserve in_lengths origin in
      let own = (agent_of m (suc at)).own in
      let moved = own-set f m.agents at (noted (agent_of m (suc at)) sum.rows sum.moment) inside in
      let more = sum_by-append f own (replicate sum.rows outline.Iterator) in
      let none = sum_by-replicate f sum.rows outline.Iterator in
      omega (arith, moved, more, none)

  pool-noted : (m : Machine) → at < length m.agents → pool in_lengths (with_sum m at sum) ≡ pool in_lengths m
  pool-noted m inside =
      let f : Outline → ℕ = λ r. reserve_of r in
      let own = (agent_of m (suc at)).own in
      let moved = own-set f m.agents at (noted (agent_of m (suc at)) sum.rows sum.moment) inside in
      let more = sum_by-append f own (replicate sum.rows outline.Iterator) in
      let none = sum_by-replicate f sum.rows outline.Iterator in
      omega (arith, moved, more, none)

  front-noted : (m : Machine) → at < length m.agents → (need : ℕ) (units : List Text) → shortest_front in_lengths (with_sum m at sum) need units ≡ shortest_front in_lengths m need units
  front-noted m inside need [] = ap (λ p. elim (nat_le need 0 || nat_le (p + need) m.limits.blocks) [ true ↦ Some [] | false ↦ None ]) (pool-noted m inside)
  front-noted m inside need (unit ∷ units) =
      ap (λ p. elim (nat_le need 0 || nat_le (p + need) m.limits.blocks) [ true ↦ Some [] | false ↦ option_map (λ more. unit ∷ more) (shortest_front in_lengths (with_sum (cleared m unit) at sum) need units) ]) (pool-noted m inside)
      ∙ ap (λ front. elim (fits_pool in_lengths m need) [ true ↦ Some [] | false ↦ option_map (λ more. unit ∷ more) front ]) (front-noted (cleared m unit) inside need units)

  victims-noted : (m : Machine) → at < length m.agents → (key : Option Text) → key ≡ (agent_of m (suc at)).key → (need : ℕ) → victims in_lengths (with_sum m at sum) key need ≡ victims in_lengths m key need
  unfolding sorted
  victims-noted m inside key same need =
      ap (λ sorted. shortest_front in_lengths (with_sum m at sum) need (map (λ e. e.1) sorted)) (order-noted m at sum key same (root_units m) [])
      ∙ front-noted m inside need (candidates m key)

  room-by : Machine → Option Text → Need → ℕ → ℕ → Option (List Text) → ℕ → Ruled (List Text)
  room-by m caller need used charged front kept =
      unless (nat_le need.quota 0 || nat_le (used + need.quota) m.limits.quota) (refusal.QuotaExceededError used need.quota m.limits.quota)
      >> (unless (nat_le need.charge 0 || nat_le (charged + need.charge + 7) m.limits.area) (refusal.MetaFull charged need.charge m.limits.area)
      >> some_or front (refusal.DataFull kept need.pool m.limits.blocks))

  charge-noted : (m : Machine) → at < length m.agents → charge in_lengths (with_sum m at sum) ≡ charge in_lengths m
  charge-noted m inside = let pool = pool-noted m inside in omega (arith, pool)

  room-noted : (m : Machine) → at < length m.agents → (key : Option Text) → key ≡ (agent_of m (suc at)).key → (need : Need) → room_for in_lengths (with_sum m at sum) key need ≡ room_for in_lengths m key need
  unfolding room_for room-by
  room-noted m inside key same need =
      let n = with_sum m at sum in
      ap (λ used. room-by m key need used (charge in_lengths n) (victims in_lengths n key need.pool) (pool in_lengths n)) (usage-noted m inside (origin_in key))
      ∙ ap (λ charged. room-by m key need (usage in_lengths m (origin_in key)) charged (victims in_lengths n key need.pool) (pool in_lengths n)) (charge-noted m inside)
      ∙ ap (λ front. room-by m key need (usage in_lengths m (origin_in key)) (charge in_lengths m) front (pool in_lengths n)) (victims-noted m inside key same need.pool)
      ∙ ap (λ kept. room-by m key need (usage in_lengths m (origin_in key)) (charge in_lengths m) (victims in_lengths m key need.pool) kept) (pool-noted m inside)

  module _ (m : Machine) (inside : at < length m.agents) where
    key-noted : (agent_of (with_sum m at sum) (suc at)).key ≡ (agent_of m (suc at)).key
    key-noted = ap (λ a. a.key) (agent-noted m at sum inside)

    grant-noted : (agent_of (with_sum m at sum) (suc at)).grant ≡ (agent_of m (suc at)).grant
    grant-noted = ap (λ a. a.grant) (agent-noted m at sum inside)

    streams-noted : (n : ℕ) → open_stream in_lengths (with_sum m at sum) (suc at) n ≡ open_stream in_lengths m (suc at) n
    streams-noted n = ap (λ a. of_row stream_in (own_of a n)) (agent-noted m at sum inside) ∙ stream-noted (agent_of m (suc at)) sum.rows sum.moment n

    handles-noted : (n : ℕ) → open_handle in_lengths (with_sum m at sum) (suc at) n ≡ open_handle in_lengths m (suc at) n
    handles-noted n = ap (λ a. of_row handle_in (own_of a n)) (agent-noted m at sum inside) ∙ handle-noted (agent_of m (suc at)) sum.rows sum.moment n

    grow-stream : (row size : ℕ) → grow_stream_ruling in_lengths (with_sum m at sum) (suc at) row size ≡ grow_stream_ruling in_lengths m (suc at) row size
    unfolding grow_stream_ruling
    grow-stream row size = ap (λ o. some_or o refusal.TypeError >>= (λ (w : StreamOutline). Ok (keeps_blocks (reserve_for w.reserve size - w.reserve)))) (streams-noted row)

    on-stream : (row : ℕ) → stream_ruling in_lengths (with_sum m at sum) (suc at) row ≡ stream_ruling in_lengths m (suc at) row
    unfolding stream_ruling
    on-stream row = ap (λ o. some_or o refusal.TypeError >>= (λ (w : StreamOutline). Ok no_need)) (streams-noted row)

    grow-handle : (z : Sizes) (row size : ℕ) → grow_handle_ruling in_lengths (with_sum m at sum) z (suc at) row size ≡ grow_handle_ruling in_lengths m z (suc at) row size
    unfolding grow_handle_ruling
    grow-handle z row size =
        ap (λ o. some_or o refusal.InvalidStateError >>= (λ (h : HandleOutline). unless (is_read_write h.mode) (locked_by (lock_in (file_at m h.file))) >> Ok (record {
          quota = blocks size - blocks z.size;
          pool = reserve_for h.reserve size - h.reserve;
          charge = block_charge * (reserve_for h.reserve size - h.reserve);
        }))) (handles-noted row)

    on-handle : (row : ℕ) → handle_ruling in_lengths (with_sum m at sum) (suc at) row ≡ handle_ruling in_lengths m (suc at) row
    unfolding handle_ruling
    on-handle row = ap (λ o. some_or o refusal.InvalidStateError >>= (λ (h : HandleOutline). Ok no_need)) (handles-noted row)

    on-directory : (bucket : Text) → get_directory_ruling (with_sum m at sum) (suc at) bucket ≡ get_directory_ruling m (suc at) bucket
    unfolding get_directory_ruling
    on-directory bucket = ap (λ key. some_or key refusal.SecurityError >>= (λ (origin : Text). unless (is_bucket_name bucket) refusal.TypeError >> Ok (making kind.Directory (unit_of origin bucket, []) (row_at m (unit_of origin bucket, []))))) key-noted

    on-persist : (bucket : Text) → persist_ruling (with_sum m at sum) (suc at) bucket ≡ persist_ruling m (suc at) bucket
    unfolding persist_ruling
    on-persist bucket =
        ap (λ key. some_or key refusal.TypeError >>= (λ (origin : Text). unless (is_bucket_name bucket) refusal.TypeError >> Ok (persisting m (agent_of (with_sum m at sum) (suc at)).grant (unit_of origin bucket)))) key-noted
        ∙ ap (λ grant. some_or (agent_of m (suc at)).key refusal.TypeError >>= (λ (origin : Text). unless (is_bucket_name bucket) refusal.TypeError >> Ok (persisting m grant (unit_of origin bucket)))) grant-noted

    on-persisted : (bucket : Text) → persisted_ruling (with_sum m at sum) (suc at) bucket ≡ persisted_ruling m (suc at) bucket
    unfolding persisted_ruling
    on-persisted bucket = ap (λ key. some_or key refusal.TypeError >>= (λ (origin : Text). unless (is_bucket_name bucket) refusal.TypeError >> Ok no_need)) key-noted

    on-estimate : estimate_ruling (with_sum m at sum) (suc at) ≡ estimate_ruling m (suc at)
    unfolding estimate_ruling
    on-estimate = ap (λ key. some_or key refusal.TypeError >>= (λ (origin : Text). Ok no_need)) key-noted

    on-await : (tag : Text) → await_ruling (with_sum m at sum) (suc at) tag ≡ await_ruling m (suc at) tag
    unfolding await_ruling
    on-await tag = ap (λ key. unless (is_posted m (party_with key (suc at)) tag) refusal.Stuck >> Ok no_need) key-noted

    ruling-noted : (z : Sizes) (o : Op) → ruling in_lengths (with_sum m at sum) z (suc at) o ≡ ruling in_lengths m z (suc at) o
    unfolding ruling get_handle_ruling remove_entry_ruling located_ruling create_writable_ruling create_sync_ruling
    ruling-noted z (op.GetDirectory bucket) = on-directory bucket
    ruling-noted z (op.GetDirectoryHandle dir name create) = refl
    ruling-noted z (op.GetFileHandle dir name create) = refl
    ruling-noted z (op.RemoveEntry dir name recursive) = refl
    ruling-noted z (op.Values dir) = refl
    ruling-noted z (op.Next row dir) = refl
    ruling-noted z (op.Resolve dir entry) = refl
    ruling-noted z (op.IsSameEntry entry to) = refl
    ruling-noted z (op.GetFile at2) = refl
    ruling-noted z (op.Slice row at2 len) = refl
    ruling-noted z (op.CreateWritable at2 keep) = refl
    ruling-noted z (op.Write row bytes position) = grow-stream row (size_written z position bytes)
    ruling-noted z (op.Seek row position) = on-stream row
    ruling-noted z (op.Truncate row size) = grow-stream row size
    ruling-noted z (op.Close row) = on-stream row
    ruling-noted z (op.Abort row) = on-stream row
    ruling-noted z (op.CreateSyncAccessHandle at2 mode) = refl
    ruling-noted z (op.SyncRead row len at2) = on-handle row
    ruling-noted z (op.SyncWrite row bytes at2) = grow-handle z row (size_written z at2 bytes)
    ruling-noted z (op.SyncTruncate row size) = grow-handle z row size
    ruling-noted z (op.SyncGetSize row) = on-handle row
    ruling-noted z (op.SyncFlush row) = on-handle row
    ruling-noted z (op.SyncClose row) = refl
    ruling-noted z (op.Persist bucket) = on-persist bucket
    ruling-noted z (op.Persisted bucket) = on-persisted bucket
    ruling-noted z op.Estimate = on-estimate
    ruling-noted z (op.Moment ms) = refl
    ruling-noted z (op.Post tag) = refl
    ruling-noted z (op.Await tag) = on-await tag
    ruling-noted z (op.Wait tag) = refl
    ruling-noted z (op.Discard row) = refl
    ruling-noted z op.End = refl
    ruling-noted z (op.Unbound word) = refl
    ruling-noted z (op.Evict unit) = refl

    judged-at : (z : Sizes) (o : Op) → judged_in in_lengths (with_sum m at sum) z (suc at) o ≡ judged_in in_lengths m z (suc at) o
    unfolding judged_in
    judged-at z o =
        let n = with_sum m at sum in
        ap (λ ruled. ruled >>= room_for in_lengths n (agent_of n (suc at)).key) (ruling-noted z o)
        ∙ ap (λ key. ruling in_lengths m z (suc at) o >>= room_for in_lengths n key) key-noted
        ∙ goes-on (ruling in_lengths m z (suc at) o) (room_for in_lengths n (agent_of m (suc at)).key) (room_for in_lengths m (agent_of m (suc at)).key) (room-noted m inside (agent_of m (suc at)).key refl)

pub judged-noted : (m : Machine) (k : ℕ) (sum : PendingSum) (z : Sizes) (o : Op) → IsAgent m k → judged_in in_lengths (with_sum m (k - 1) sum) z k o ≡ judged_in in_lengths m z k o
judged-noted m zero sum z o agent = absurd (omega (agent.above, arith))
judged-noted m (suc at) sum z o agent =
    ap (λ j. judged_in in_lengths (with_sum m j sum) z (suc at) o) (number at) ∙ judged-at at sum m (omega (agent.within, arith)) z o
