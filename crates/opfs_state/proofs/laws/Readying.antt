-- What stands ready for a call stays so when pending entries are counted, and when units that it is not about are cleared.
use Rattle.std.proofs.Common.{◌≡◌, ℕ, zero, suc, ◌-◌, ◌<◌, true, false, ◌&&◌, cond, List, [], ◌∷◌, ◌++◌, length, Option, Some, None, option_map, refl, sym, ap, ◌∙◌, subst, arith}
use Rattle.std.specs.Prelude.{slice_get, unwrap_or, replicate, not, ⊤}
use Rattle.std.specs.List.{list_any, AllByRecursion}
use Rattle.opfs_base.specs.Measures.{mode_charge}
use Rattle.opfs_base.specs.Places.{Place, begins_with, place_of, child}
use Rattle.opfs_base.specs.Texts.{Text, same_text}
use Rattle.opfs_base.specs.Units.{unit_of}
use Rattle.opfs_base.specs.declared.locator.Kind.{Kind}
use Rattle.opfs_base.specs.declared.locator.Kind.TheVariants as kind
use Rattle.opfs_state_rows.specs.Changes.Asking.{AreOwnUnits, units_of, unit_in, root_in, where_free, root_place, handle_place, bucket_unit, made_at, free_in, place_in, place_for, target_of, growth_of, row_growth, mode_growth}
use Rattle.opfs_hist.specs.declared.history.PendingSum.{PendingSum}
use Rattle.opfs_hist.specs.declared.op.Op.{Op}
use Rattle.opfs_hist.specs.declared.op.Op.TheVariants as op
use Rattle.opfs_laws.proofs.Spots.{row-without}
use Rattle.opfs_machine.specs.declared.own.Outline.{Outline}
use Rattle.opfs_machine.specs.declared.own.Outline.TheVariants as outline
use Rattle.opfs_machine.specs.declared.state.Agent.{Agent}
use Rattle.opfs_machine.specs.declared.state.Party.{Party}
use Rattle.opfs_machine.specs.Agents.{agent_of, own_of, of_row, handle_in, open_handle, party_of, party_with, nobody}
use Rattle.opfs_machine.specs.Contents.{in_lengths}
use Rattle.opfs_machine.specs.Rows.{row_at}
use Rattle.opfs_machine.specs.Steps.{evicted}
use Rattle.opfs_machine.specs.Victims.{is_callers}
use Rattle.opfs_machine.specs.declared.state.Row.{Row}
use Rattle.opfs_tree.specs.Ready.Ready.{ready_within}
use Rattle.opfs_register.proofs.KeptRows.{get-set}
use Rattle.opfs_register.specs.Seating.{noted}
use Rattle.opfs_state_rows.proofs.standing.AgentMoves.{number}
use Rattle.opfs_state_rows.proofs.standing.Units.{same_unit}
use Rattle.opfs_state_rows.specs.Standing.Noted.{with_sum}
use Rattle.opfs_state_rows.specs.Standing.Seen.{Machine, Seen, is_known}
use Rattle.opfs_state.specs.Applied.{IsReady}
use Rattle.opfs_state.specs.Laws.Readied.{StillReady}
use Rattle.opfs_state.specs.Verdicts.Callers.{IsAgent}

-- Two machines are the same for what stands ready for an agent's calls, but for rows.
record IsSameFor (m n : Machine) (k : ℕ) : Type 0 where
  key : (agent_of n k).key ≡ (agent_of m k).key
  grant : (agent_of n k).grant ≡ (agent_of m k).grant
  handles : (i : ℕ) → open_handle in_lengths n k i ≡ open_handle in_lengths m k i
  modes : n.persistent ≡ m.persistent

-- The row that would be made is the same.
abbrev IsSameRow : Machine → Machine → Option (Place × Kind) → Type 0
IsSameRow m n None = ⊤
IsSameRow m n (Some e) = row_at n e.0 ≡ row_at m e.0

unit-same : (m n : Machine) (k : ℕ) (bucket : Text) → IsSameFor m n k → bucket_unit n k bucket ≡ bucket_unit m k bucket
unit-same m n k bucket same = ap (λ key. option_map (λ origin. unit_of origin bucket) key) same.key

made-same : (m n : Machine) (k : ℕ) (o : Op) → IsSameFor m n k → made_at n k o ≡ made_at m k o
unfolding made_at
made-same m n k (op.GetDirectory bucket) same = ap root_in (unit-same m n k bucket same)
made-same m n k (op.GetDirectoryHandle dir name create) same = refl
made-same m n k (op.GetFileHandle dir name create) same = refl
made-same m n k (op.RemoveEntry dir name recursive) same = refl
made-same m n k (op.Values dir) same = refl
made-same m n k (op.Next row dir) same = refl
made-same m n k (op.Resolve dir entry) same = refl
made-same m n k (op.IsSameEntry entry to) same = refl
made-same m n k (op.GetFile at) same = refl
made-same m n k (op.Slice row at len) same = refl
made-same m n k (op.CreateWritable at keep) same = refl
made-same m n k (op.Write row bytes position) same = refl
made-same m n k (op.Seek row position) same = refl
made-same m n k (op.Truncate row size) same = refl
made-same m n k (op.Close row) same = refl
made-same m n k (op.Abort row) same = refl
made-same m n k (op.CreateSyncAccessHandle at mode) same = refl
made-same m n k (op.SyncRead row len at) same = refl
made-same m n k (op.SyncWrite row bytes at) same = refl
made-same m n k (op.SyncTruncate row size) same = refl
made-same m n k (op.SyncGetSize row) same = refl
made-same m n k (op.SyncFlush row) same = refl
made-same m n k (op.SyncClose row) same = refl
made-same m n k (op.Persist bucket) same = refl
made-same m n k (op.Persisted bucket) same = refl
made-same m n k op.Estimate same = refl
made-same m n k (op.Moment ms) same = refl
made-same m n k (op.Post tag) same = refl
made-same m n k (op.Await tag) same = refl
made-same m n k (op.Wait tag) same = refl
made-same m n k (op.Discard row) same = refl
made-same m n k op.End same = refl
made-same m n k (op.Unbound word) same = refl
made-same m n k (op.Evict unit) same = refl

free-same : (m n : Machine) (e : Option (Place × Kind)) → IsSameRow m n e → free_in n e ≡ free_in m e
free-same m n None rows = refl
free-same m n (Some e) rows = ap (λ r. where_free r e) rows

place-same : (m n : Machine) (k : ℕ) (o : Op) → IsSameFor m n k → IsSameRow m n (made_at m k o) → place_for n k o ≡ place_for m k o
place-same m n k o same rows = ap (free_in n) (made-same m n k o same) ∙ free-same m n (made_at m k o) rows

root-same : (m n : Machine) (k : ℕ) (bucket : Text) → IsSameFor m n k
    → cond (agent_of n k).grant (root_place (bucket_unit n k bucket)) None ≡ cond (agent_of m k).grant (root_place (bucket_unit m k bucket)) None
root-same m n k bucket same =
    ap (λ t. cond t (root_place (bucket_unit n k bucket)) None) same.grant ∙ ap (λ u. cond (agent_of m k).grant (root_place u) None) (unit-same m n k bucket same)

target-same : (m n : Machine) (k : ℕ) (o : Op) → IsSameFor m n k → place_for n k o ≡ place_for m k o → target_of n k o ≡ target_of m k o
unfolding target_of
target-same m n k (op.GetDirectory bucket) same place = ap place_in place
target-same m n k (op.GetDirectoryHandle dir name create) same place = ap place_in place
target-same m n k (op.GetFileHandle dir name create) same place = ap place_in place
target-same m n k (op.RemoveEntry dir name recursive) same place = refl
target-same m n k (op.Values dir) same place = ap place_in place
target-same m n k (op.Next row dir) same place = ap place_in place
target-same m n k (op.Resolve dir entry) same place = ap place_in place
target-same m n k (op.IsSameEntry entry to) same place = ap place_in place
target-same m n k (op.GetFile at) same place = ap place_in place
target-same m n k (op.Slice row at len) same place = ap place_in place
target-same m n k (op.CreateWritable at keep) same place = refl
target-same m n k (op.Write row bytes position) same place = ap place_in place
target-same m n k (op.Seek row position) same place = ap place_in place
target-same m n k (op.Truncate row size) same place = ap place_in place
target-same m n k (op.Close row) same place = ap place_in place
target-same m n k (op.Abort row) same place = ap place_in place
target-same m n k (op.CreateSyncAccessHandle at mode) same place = refl
target-same m n k (op.SyncRead row len at) same place = ap place_in place
target-same m n k (op.SyncWrite n2 bytes at) same place = ap handle_place (same.handles n2)
target-same m n k (op.SyncTruncate n2 size) same place = ap handle_place (same.handles n2)
target-same m n k (op.SyncGetSize row) same place = ap place_in place
target-same m n k (op.SyncFlush n2) same place = ap handle_place (same.handles n2)
target-same m n k (op.SyncClose row) same place = ap place_in place
target-same m n k (op.Persist bucket) same place = root-same m n k bucket same
target-same m n k (op.Persisted bucket) same place = ap place_in place
target-same m n k op.Estimate same place = ap place_in place
target-same m n k (op.Moment ms) same place = ap place_in place
target-same m n k (op.Post tag) same place = ap place_in place
target-same m n k (op.Await tag) same place = ap place_in place
target-same m n k (op.Wait tag) same place = ap place_in place
target-same m n k (op.Discard row) same place = ap place_in place
target-same m n k op.End same place = ap place_in place
target-same m n k (op.Unbound word) same place = ap place_in place
target-same m n k (op.Evict unit) same place = ap place_in place

mode-same : (m n : Machine) (k : ℕ) (place : Option Place) → IsSameFor m n k → mode_growth n place ≡ mode_growth m place
mode-same m n k None same = refl
mode-same m n k (Some place) same = ap (λ modes. cond (list_any (same_text place.0) modes) 0 (mode_charge place.0)) same.modes

growth-same : (m n : Machine) (k : ℕ) (o : Op) → IsSameFor m n k → place_for n k o ≡ place_for m k o → target_of n k o ≡ target_of m k o → growth_of n k o ≡ growth_of m k o
unfolding growth_of
growth-same m n k (op.GetDirectory bucket) same place target = ap row_growth place
growth-same m n k (op.GetDirectoryHandle dir name create) same place target = ap row_growth place
growth-same m n k (op.GetFileHandle dir name create) same place target = ap row_growth place
growth-same m n k (op.RemoveEntry dir name recursive) same place target = ap row_growth place
growth-same m n k (op.Values dir) same place target = ap row_growth place
growth-same m n k (op.Next row dir) same place target = ap row_growth place
growth-same m n k (op.Resolve dir entry) same place target = ap row_growth place
growth-same m n k (op.IsSameEntry entry to) same place target = ap row_growth place
growth-same m n k (op.GetFile at) same place target = ap row_growth place
growth-same m n k (op.Slice row at len) same place target = ap row_growth place
growth-same m n k (op.CreateWritable at keep) same place target = ap row_growth place
growth-same m n k (op.Write row bytes position) same place target = ap row_growth place
growth-same m n k (op.Seek row position) same place target = ap row_growth place
growth-same m n k (op.Truncate row size) same place target = ap row_growth place
growth-same m n k (op.Close row) same place target = ap row_growth place
growth-same m n k (op.Abort row) same place target = ap row_growth place
growth-same m n k (op.CreateSyncAccessHandle at mode) same place target = ap row_growth place
growth-same m n k (op.SyncRead row len at) same place target = ap row_growth place
growth-same m n k (op.SyncWrite row bytes at) same place target = ap row_growth place
growth-same m n k (op.SyncTruncate row size) same place target = ap row_growth place
growth-same m n k (op.SyncGetSize row) same place target = ap row_growth place
growth-same m n k (op.SyncFlush row) same place target = ap row_growth place
growth-same m n k (op.SyncClose row) same place target = ap row_growth place
growth-same m n k (op.Persist bucket) same place target = ap (mode_growth n) target ∙ mode-same m n k (target_of m k (op.Persist bucket)) same
growth-same m n k (op.Persisted bucket) same place target = ap row_growth place
growth-same m n k op.Estimate same place target = ap row_growth place
growth-same m n k (op.Moment ms) same place target = ap row_growth place
growth-same m n k (op.Post tag) same place target = ap row_growth place
growth-same m n k (op.Await tag) same place target = ap row_growth place
growth-same m n k (op.Wait tag) same place target = ap row_growth place
growth-same m n k (op.Discard row) same place target = ap row_growth place
growth-same m n k op.End same place target = ap row_growth place
growth-same m n k (op.Unbound word) same place target = ap row_growth place
growth-same m n k (op.Evict unit) same place target = ap row_growth place

-- What stands ready stays.
ready-same : (s t : Seen) (own : Option Place) (more k : ℕ) (o : Op) → IsSameFor s.machine t.machine k → IsSameRow s.machine t.machine (made_at s.machine k o) → t.prepared ≡ s.prepared
    → IsReady s own more k o → IsReady t own more k o
ready-same s t own more k o same rows prepared ready =
    let place = place-same s.machine t.machine k o same rows in
    let target = target-same s.machine t.machine k o same place in
    let growth = growth-same s.machine t.machine k o same place target in
    let party : party_of t.machine k ≡ party_of s.machine k = ap (λ key. party_with key k) same.key in
    record {
      place = ap (λ p. p.place) prepared ∙ ready.place ∙ sym place;
      target = ready.target ∙ sym target;
      growth = ready.growth ∙ sym growth;
      known = λ at makes is. ap (λ p. is_known at.0 p) prepared ∙ ready.known at makes (sym target ∙ is);
      room = λ makes. ap (λ p. p.room) prepared ∙ ready.room makes;
      tag = λ tag is. ap (λ p. p.tag) prepared ∙ ready.tag tag is ∙ ap (λ (party : Party). Some (record { party = party; tag = tag })) (sym party);
    }

-- An iterator more is no access handle.
handle-replicated : (more n : ℕ) → of_row handle_in (slice_get (replicate more outline.Iterator) n) ≡ None
handle-replicated zero zero = refl
handle-replicated zero (suc n) = refl
handle-replicated (suc more) zero = refl
handle-replicated (suc more) (suc n) = handle-replicated more n

handle-more : (rows : List Outline) (more n : ℕ) → of_row handle_in (slice_get (rows ++ replicate more outline.Iterator) n) ≡ of_row handle_in (slice_get rows n)
handle-more [] more zero = handle-replicated more zero
handle-more [] more (suc n) = handle-replicated more (suc n)
handle-more (r ∷ rows) more zero = refl
handle-more (r ∷ rows) more (suc n) = handle-more rows more n

pub handle-noted : (a : Agent Outline) (more : ℕ) (moment : Option ℕ) (n : ℕ) → of_row handle_in (own_of (noted a more moment) n) ≡ of_row handle_in (own_of a n)
handle-noted a more moment zero = refl
handle-noted a more moment (suc n) = handle-more a.own more n

pub agent-noted : (m : Machine) (at : ℕ) (sum : PendingSum) → at < length m.agents → agent_of (with_sum m at sum) (suc at) ≡ noted (agent_of m (suc at)) sum.rows sum.moment
agent-noted m at sum inside = ap (λ a. unwrap_or a nobody) (get-set m.agents at (noted (agent_of m (suc at)) sum.rows sum.moment) inside)

same-noted : (m : Machine) (at : ℕ) (sum : PendingSum) → at < length m.agents → IsSameFor m (with_sum m at sum) (suc at)
same-noted m at sum inside =
    let agent = agent-noted m at sum inside in
    record {
      key = ap (λ a. a.key) agent;
      grant = ap (λ a. a.grant) agent;
      handles = λ i. ap (λ a. of_row handle_in (own_of a i)) agent ∙ handle-noted (agent_of m (suc at)) sum.rows sum.moment i;
      modes = refl;
    }

noted-at : (m : Machine) (k : ℕ) (sum : PendingSum) → IsAgent m k → IsSameFor m (with_sum m (k - 1) sum) k
noted-at m zero sum agent = absurd (omega (agent.above, arith))
noted-at m (suc at) sum agent = subst (λ j. IsSameFor m (with_sum m j sum) (suc at)) (sym (number at)) (same-noted m at sum (omega (agent.within, arith)))

rows-noted : (m : Machine) (at : ℕ) (sum : PendingSum) (e : Option (Place × Kind)) → IsSameRow m (with_sum m at sum) e
rows-noted m at sum None = tt
rows-noted m at sum (Some e) = refl

pub ready-noted : (s : Seen) (own : Option Place) (more k : ℕ) (o : Op) (sum : PendingSum) → IsAgent s.machine k → IsReady s own more k o
    → IsReady (record s { machine = with_sum s.machine (k - 1) sum }) own more k o
ready-noted s own more k o sum agent ready =
    ready-same s (record s { machine = with_sum s.machine (k - 1) sum }) own more k o (noted-at s.machine k sum agent) (rows-noted s.machine (k - 1) sum (made_at s.machine k o)) refl ready

abbrev AllOwn : Option Text → List Text → Type 0
AllOwn key units = AllByRecursion (λ unit. is_callers key unit ≡ true) units

-- A unit that is the caller's is none that is not.
apart : (key : Option Text) (unit mine : Text) → is_callers key unit ≡ false → is_callers key mine ≡ true → same_text unit mine ≡ false
apart key unit mine other own =
    elim (same_text unit mine) as (λ t. same_text unit mine ≡ t → t ≡ false) [
      | true ↦ λ is. sym own ∙ ap (is_callers key) (sym (same_unit unit mine is)) ∙ other
      | false ↦ λ is. refl
    ] refl

row-apart : (m : Machine) (unit : Text) (place : Place) → same_text unit place.0 ≡ false → row_at (evicted m unit) place ≡ row_at m place
row-apart m unit place other =
    row-without m (unit, []) place ∙ ap (λ t. cond (not (t && begins_with [] place.1)) (row_at m place) None) other

root-apart : (m : Machine) (key : Option Text) (unit : Text) (root : Option Text) → is_callers key unit ≡ false → AllOwn key (unit_in root) → IsSameRow m (evicted m unit) (root_in root)
root-apart m key unit None other own = tt
root-apart m key unit (Some mine) other own = row-apart m unit (mine, []) (apart key unit mine other own.0)

rows-cleared : (m : Machine) (k : ℕ) (o : Op) (unit : Text) → AreOwnUnits m k o → is_callers (agent_of m k).key unit ≡ false → IsSameRow m (evicted m unit) (made_at m k o)
unfolding units_of made_at
rows-cleared m k (op.GetDirectory bucket) unit own other = root-apart m (agent_of m k).key unit (bucket_unit m k bucket) other own
rows-cleared m k (op.GetDirectoryHandle dir name create) unit own other = row-apart m unit _ (apart (agent_of m k).key unit dir.key other own.0)
rows-cleared m k (op.GetFileHandle dir name create) unit own other = row-apart m unit _ (apart (agent_of m k).key unit dir.key other own.0)
rows-cleared m k (op.RemoveEntry dir name recursive) unit own other = tt
rows-cleared m k (op.Values dir) unit own other = tt
rows-cleared m k (op.Next n dir) unit own other = tt
rows-cleared m k (op.Resolve dir entry) unit own other = tt
rows-cleared m k (op.IsSameEntry entry to) unit own other = tt
rows-cleared m k (op.GetFile at) unit own other = tt
rows-cleared m k (op.Slice n at len) unit own other = tt
rows-cleared m k (op.CreateWritable at keep) unit own other = tt
rows-cleared m k (op.Write n bytes position) unit own other = tt
rows-cleared m k (op.Seek n position) unit own other = tt
rows-cleared m k (op.Truncate n size) unit own other = tt
rows-cleared m k (op.Close n) unit own other = tt
rows-cleared m k (op.Abort n) unit own other = tt
rows-cleared m k (op.CreateSyncAccessHandle at mode) unit own other = tt
rows-cleared m k (op.SyncRead n len at) unit own other = tt
rows-cleared m k (op.SyncWrite n bytes at) unit own other = tt
rows-cleared m k (op.SyncTruncate n size) unit own other = tt
rows-cleared m k (op.SyncGetSize n) unit own other = tt
rows-cleared m k (op.SyncFlush n) unit own other = tt
rows-cleared m k (op.SyncClose n) unit own other = tt
rows-cleared m k (op.Persist bucket) unit own other = tt
rows-cleared m k (op.Persisted bucket) unit own other = tt
rows-cleared m k op.Estimate unit own other = tt
rows-cleared m k (op.Moment ms) unit own other = tt
rows-cleared m k (op.Post tag) unit own other = tt
rows-cleared m k (op.Await tag) unit own other = tt
rows-cleared m k (op.Wait tag) unit own other = tt
rows-cleared m k (op.Discard n) unit own other = tt
rows-cleared m k op.End unit own other = tt
rows-cleared m k (op.Unbound word) unit own other = tt
rows-cleared m k (op.Evict gone) unit own other = tt

units-cleared : (m : Machine) (k : ℕ) (o : Op) (unit : Text) → units_of (evicted m unit) k o ≡ units_of m k o
unfolding units_of
units-cleared m k (op.GetDirectory bucket) unit = refl
units-cleared m k (op.GetDirectoryHandle dir name create) unit = refl
units-cleared m k (op.GetFileHandle dir name create) unit = refl
units-cleared m k (op.RemoveEntry dir name recursive) unit = refl
units-cleared m k (op.Values dir) unit = refl
units-cleared m k (op.Next n dir) unit = refl
units-cleared m k (op.Resolve dir entry) unit = refl
units-cleared m k (op.IsSameEntry entry to) unit = refl
units-cleared m k (op.GetFile at) unit = refl
units-cleared m k (op.Slice n at len) unit = refl
units-cleared m k (op.CreateWritable at keep) unit = refl
units-cleared m k (op.Write n bytes position) unit = refl
units-cleared m k (op.Seek n position) unit = refl
units-cleared m k (op.Truncate n size) unit = refl
units-cleared m k (op.Close n) unit = refl
units-cleared m k (op.Abort n) unit = refl
units-cleared m k (op.CreateSyncAccessHandle at mode) unit = refl
units-cleared m k (op.SyncRead n len at) unit = refl
units-cleared m k (op.SyncWrite n bytes at) unit = refl
units-cleared m k (op.SyncTruncate n size) unit = refl
units-cleared m k (op.SyncGetSize n) unit = refl
units-cleared m k (op.SyncFlush n) unit = refl
units-cleared m k (op.SyncClose n) unit = refl
units-cleared m k (op.Persist bucket) unit = refl
units-cleared m k (op.Persisted bucket) unit = refl
units-cleared m k op.Estimate unit = refl
units-cleared m k (op.Moment ms) unit = refl
units-cleared m k (op.Post tag) unit = refl
units-cleared m k (op.Await tag) unit = refl
units-cleared m k (op.Wait tag) unit = refl
units-cleared m k (op.Discard n) unit = refl
units-cleared m k op.End unit = refl
units-cleared m k (op.Unbound word) unit = refl
units-cleared m k (op.Evict gone) unit = refl

same-cleared : (m : Machine) (k : ℕ) (unit : Text) → IsSameFor m (evicted m unit) k
same-cleared m k unit = record { key = refl; grant = refl; handles = λ i. refl; modes = refl }

pub ready-cleared : (s t : Seen) (own : Option Place) (more k : ℕ) (o : Op) (unit : Text) → AreOwnUnits s.machine k o → is_callers (agent_of s.machine k).key unit ≡ false
    → t.machine ≡ evicted s.machine unit → t.prepared ≡ s.prepared → IsReady s own more k o → StillReady t own more k o
ready-cleared s t own more k o unit mine other machine prepared ready =
    record {
      ready = ready-same s t own more k o (subst (λ n. IsSameFor s.machine n k) (sym machine) (same-cleared s.machine k unit)) (subst (λ n. IsSameRow s.machine n (made_at s.machine k o)) (sym machine) (rows-cleared s.machine k o unit mine other)) prepared ready;
      units = subst (λ n. AreOwnUnits n k o) (sym machine) (subst (λ units. AllOwn (agent_of s.machine k).key units) (sym (units-cleared s.machine k o unit)) mine);
    }

-- ---- the place that stands ready

free-apart : (m : Machine) (unit : Text) (e : Place × Kind) → same_text unit e.0.0 ≡ false → (r : Option (Row ℕ)) → ready_within (unit, []) (where_free r e) ≡ false
free-apart m unit e other None = ap (λ t. t && begins_with [] e.0.1) other
free-apart m unit e other (Some r) = refl

root-free : (m : Machine) (key : Option Text) (unit : Text) (root : Option Text) → is_callers key unit ≡ false → AllOwn key (unit_in root) → ready_within (unit, []) (free_in m (root_in root)) ≡ false
root-free m key unit None other own = refl
root-free m key unit (Some mine) other own = free-apart m unit ((mine, []), kind.Directory) (apart key unit mine other own.0) (row_at m (mine, []))

place-apart : (m : Machine) (k : ℕ) (o : Op) (unit : Text) → AreOwnUnits m k o → is_callers (agent_of m k).key unit ≡ false → ready_within (unit, []) (place_for m k o) ≡ false
unfolding units_of made_at
place-apart m k (op.GetDirectory bucket) unit own other = root-free m (agent_of m k).key unit (bucket_unit m k bucket) other own
place-apart m k (op.GetDirectoryHandle dir name create) unit own other = free-apart m unit (child (place_of dir) name, kind.Directory) (apart (agent_of m k).key unit dir.key other own.0) (row_at m (child (place_of dir) name))
place-apart m k (op.GetFileHandle dir name create) unit own other = free-apart m unit (child (place_of dir) name, kind.File) (apart (agent_of m k).key unit dir.key other own.0) (row_at m (child (place_of dir) name))
place-apart m k o unit own other = refl

pub ready-apart : (s : Seen) (own : Option Place) (more k : ℕ) (o : Op) (unit : Text) → AreOwnUnits s.machine k o → is_callers (agent_of s.machine k).key unit ≡ false
    → IsReady s own more k o → ready_within (unit, []) s.prepared.place ≡ false
ready-apart s own more k o unit mine other ready = ap (ready_within (unit, [])) ready.place ∙ place-apart s.machine k o unit mine other
