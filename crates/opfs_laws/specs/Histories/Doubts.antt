-- What a disk fault leaves in doubt, as a place in the history: the change that the call's entry there would have stored
-- next. This project's own.
use Rattle.std.specs.Prelude.{◌≡◌, ℕ, ◌<◌, zero, suc, true, false, List, [], ◌∷◌, ◌++◌, drop, fold, length, Option, Some, None}
use Rattle.opfs_base.specs.Texts.{Text}
use Rattle.opfs_hist.specs.Faults.{is_disk_fault}
use Rattle.opfs_hist.specs.declared.entry.Entry.{Entry}
use Rattle.opfs_machine.specs.declared.own.Own.{Own}
use Rattle.opfs_machine.specs.declared.state.State.{State}
use Rattle.opfs_machine.specs.Changes.{Change, evict, stored_by}
use Rattle.opfs_machine.specs.Histories.{evicted_by}
use Rattle.opfs_machine.specs.Openings.{Opening, begun}
use Rattle.opfs_machine.specs.Steps.{evicted, after_reply, step}
use Rattle.opfs_laws.specs.Histories.Opened.{IsOpenAt, MayEnd}

-- The next eviction, where one is left, and else what the call stores.
abbrev pub next_stored : List Text → List Change → List Change
next_stored [] stored = stored
next_stored (unit ∷ units) stored = evict unit ∷ []

-- What a call that met a disk fault leaves in doubt, after these evictions: the eviction of its next victim, or what it
-- would have stored.
abbrev pub faulted : State Text Own → List Text → Entry → List Change
faulted s gone e = elim (is_disk_fault e.reply) [
  | true ↦ next_stored (drop (length gone) (step s e.agent e.op).victims) (stored_by (fold evicted s gone) e.agent e.op)
  | false ↦ []
]

-- The same of the entry at a place of a history that goes on from a state.
abbrev pub doubt_from : State Text Own → List Text → List Entry → ℕ → List Change
doubt_from s gone [] place = []
doubt_from s gone (e ∷ es) zero = elim (evicted_by e.op) [ Some unit ↦ [] | None ↦ faulted s gone e ]
doubt_from s gone (e ∷ es) (suc place) = elim (evicted_by e.op) [
  | Some unit ↦ doubt_from s (gone ++ unit ∷ []) es place
  | None ↦ doubt_from (after_reply (fold evicted s gone) e.agent e.op e.reply) [] es place
]

-- What is in doubt, where the doubt is that of an entry; nothing where it is of none.
abbrev pub doubted : Opening → List Entry → Option ℕ → List Change
doubted o h None = []
doubted o h (Some place) = doubt_from (begun o) [] h place

pub record ADoubtStays : Type 0 where
  -- A doubt stays as the history goes on.
  pub stays : (o : Opening) (h more : List Entry) (place : ℕ) → place < length h → doubted o (h ++ more) (Some place) ≡ doubted o h (Some place)
  -- The entry that comes next leaves what it would have stored.
  pub next : (o : Opening) (h : List Entry) (e : Entry) (base : State Text Own) (last : List Text) → IsOpenAt o h base last → MayEnd o h e
      → doubted o (h ++ e ∷ []) (Some (length h)) ≡ faulted base last e
