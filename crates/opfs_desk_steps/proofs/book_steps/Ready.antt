-- What stands ready, and what the books ask of a unit that is cleared.
use Rattle.std.proofs.Common.{◌≡◌, ℕ, true, false, cond, not, ◌&&◌, ◌==◌, List, [], ◌∷◌, ◌++◌, Some, is_some, refl, sym, ap, subst, ◌∙◌, arith}
use Rattle.std.specs.List.{AllByRecursion}
use Rattle.std.specs.FinMap.Entries.{find}
use Rattle.std.specs.Ordering.{eq_by_cmp, is_eq}
use Rattle.std.specs.declared.cmp.Ordering.{Ordering}
use Rattle.std.specs.declared.cmp.Ordering.TheVariants.{Less, Equal, Greater}
use Rattle.opfs_base.specs.Places.{Place, place_cmp}
use Rattle.opfs_base.specs.Texts.{Text}
use Rattle.opfs_books.specs.Laws.Books.{IsPlaced, is_eviction}
use Rattle.opfs_books.proofs.laws.Counting.{count-more}
use Rattle.opfs_codec.specs.Spelling.{IsChange, IsKey}
use Rattle.opfs_codec.specs.declared.change.Change.TheVariants.{Evict}
use Rattle.opfs_codec.specs.declared.change.Format.TheVariants.{New}
use Rattle.opfs_hist.specs.declared.entry.Entry.{Entry}
use Rattle.opfs_hist.specs.declared.op.Op.{Op}
use Rattle.opfs_laws.proofs.Spots.{exact_places}
use Rattle.opfs_machine.specs.Agents.{agent_of}
use Rattle.opfs_machine.specs.Rows.{row_at}
use Rattle.opfs_machine.specs.Runs.{eviction}
use Rattle.opfs_machine.specs.Steps.{evicted}
use Rattle.opfs_machine.specs.Victims.{is_callers}
use Rattle.opfs_records.specs.Checkpoint.Written.{IsWritablePlace, IsWritableRow, stored_row, stored_rows}
use Rattle.opfs_space.specs.Room.{Machine}
use Rattle.opfs_state_rows.specs.Standing.Seen.{line_of, lines_of}
use Rattle.opfs_state.specs.Applied.{StateSeen, IsReady, IsPrepared}
use Rattle.opfs_state.specs.Laws.Readied.{StaysReadyAsCleared}
use Rattle.opfs_tree.specs.Rows.{Rows as Tree}
use Rattle.opfs_tree.specs.declared.row.Row.{Row}
use Rattle.opfs_tree.specs.declared.row.Row.TheVariants as row
use Rattle.opfs_state.specs.Verdicts.Callers.{IsAgent}
use Rattle.opfs_desk_steps.specs.BookSteps.Clearing.{IsStillReady}
use Rattle.opfs_desk_steps.specs.Parts.Seen.{machine_in}
use Rattle.opfs_desk_steps.specs.declared.parts.parts.Ledger.{Ledger}

-- ---- a unit with a root has a key that is spelled

place-of : (place : Place) (r : Row) → IsWritableRow place (stored_row r) → IsWritablePlace place
place-of place row.Dir h = h
place-of place (row.File f) h = h.0

equal-of : (o : Ordering) → is_eq o ≡ true → o ≡ Equal
equal-of Less is = cc
equal-of Equal is = refl
equal-of Greater is = cc

key-there : (unit : Text) (t : Tree) → AllByRecursion (λ e. IsWritableRow e.0 e.1) (stored_rows t) → is_some (find place_cmp (unit, []) (lines_of t)) ≡ true → IsKey New unit
key-there unit [] all there = cc
key-there unit (e ∷ es) all there =
    elim (eq_by_cmp place_cmp (unit, []) e.0) as (λ b. eq_by_cmp place_cmp (unit, []) e.0 ≡ b → is_some (cond b (Some (line_of e.1)) (find place_cmp (unit, []) (lines_of es))) ≡ true → IsKey New unit) [
      | true ↦ λ same h. subst (λ (p : Place). IsKey New p.0) (sym (exact_places (unit, []) e.0 (equal-of (place_cmp (unit, []) e.0) same))) (place-of e.0 e.1 all.0).0
      | false ↦ λ apart h. key-there unit es all.1 h
    ] refl there

pub may-spell : (unit : Text) (m : Machine) (t : Tree) → AllByRecursion (λ e. IsWritableRow e.0 e.1) (stored_rows t) → m.rows ≡ lines_of t → is_some (row_at m (unit, [])) ≡ true → IsChange New (Evict unit)
unfolding IsChange
may-spell unit m t all lines there = key-there unit t all (ap (λ rows. is_some (find place_cmp (unit, []) rows)) (sym lines) ∙ there)

-- ---- what stands ready stays

pub ready-same : (s t : StateSeen) (k : ℕ) (op : Op) → IsReady t.store s.target s.growth k op → t.target ≡ s.target → t.growth ≡ s.growth → IsPrepared t k op
ready-same s t k op ready target growth = subst (λ x. IsReady t.store x t.growth k op) (sym target) (subst (λ x. IsReady t.store s.target x k op) (sym growth) ready)

placed-on : (h : List Entry) (k : ℕ) (unit : Text) → IsPlaced h k → IsPlaced (h ++ eviction unit ∷ []) k
placed-on h k unit is = record { first = is.first; last = is.last; rest = omega (arith, is.rest, count-more (λ (e : Entry). not (is_eviction e) && (e.agent == k)) h (eviction unit)) }

agent-on : (m : Machine) (k : ℕ) (unit : Text) → IsAgent m k → IsAgent (evicted m unit) k
agent-on m k unit is = record { above = is.above; within = is.within }

module _ {D : Type 0} (stays : StaysReadyAsCleared) (l new : Ledger D) (e : Entry) (unit : Text) where
  pub still-ready : IsStillReady l e → is_callers (agent_of (machine_in l) e.agent).key unit ≡ false → machine_in new ≡ evicted (machine_in l) unit
      → new.books.state.store.prepared ≡ l.books.state.store.prepared → new.books.state.target ≡ l.books.state.target → new.books.state.growth ≡ l.books.state.growth
      → new.books.history ≡ l.books.history ++ eviction unit ∷ [] → IsStillReady new e
  still-ready ready other machine prepared target growth entries =
      let still = stays l.books.state.store new.books.state.store l.books.state.target l.books.state.growth e.agent e.op unit ready.own other machine prepared ready.prepared in
      record {
        prepared = ready-same l.books.state new.books.state e.agent e.op still.ready target growth;
        own = still.units;
        agent = subst (λ (m : Machine). IsAgent m e.agent) (sym machine) (agent-on (machine_in l) e.agent unit ready.agent);
        placed = subst (λ (es : List Entry). IsPlaced es e.agent) (sym entries) (placed-on l.books.history e.agent unit ready.placed);
      }
