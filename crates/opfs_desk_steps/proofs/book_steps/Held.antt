-- What is held goes on, step by step.
use Rattle.std.proofs.Common.{◌≡◌, ℕ, ◌+◌, ◌-◌, ◌*◌, ◌^◌, ◌≤◌, ◌==◌, not, ◌&&◌, true, map, List, [], ◌∷◌, ◌++◌, refl, sym, ap, subst, ◌∙◌, append-nil, arith}
use Rattle.std.specs.Vec.{vec_capacity}
use Rattle.opfs_base.specs.Texts.{Text}
use Rattle.opfs_books.specs.Laws.Books.{Fixed, AreBooksAt, AreBooks}
use Rattle.opfs_books.specs.Laws.Laws.{LeavesPages, told}
use Rattle.opfs_books.proofs.laws.Counting.{rose-later}
use Rattle.opfs_books.proofs.laws.Told.{changes-more}
use Rattle.opfs_books.specs.Stored.Spelled.{stored_built}
use Rattle.opfs_books.specs.declared.books.Books.{Books}
use Rattle.opfs_books.proofs.Calls.{refused-modes}
use Rattle.opfs_books.proofs.Evictions.{notes-modes}
use Rattle.opfs_books.proofs.Following.{refused-changes}
use Rattle.opfs_commit.specs.Seen.{KeptBack}
use Rattle.opfs_pages.specs.HistoryLaws.Laid.{AreLaid}
use Rattle.opfs_pages.specs.HistoryLaws.Laws.{BlocksGoOn}
use Rattle.opfs_pages.specs.HistoryLaws.Open.{open_at}
use Rattle.opfs_pages.specs.HistoryLaws.Putting.{AllReadAlike}
use Rattle.opfs_pages.specs.HistoryLaws.Spaced.{AreSpaced}
use Rattle.opfs_hist.specs.declared.entry.Entry.{Entry}
use Rattle.opfs_laws.specs.Histories.Unread.{ArePendingFor}
use Rattle.opfs_image.specs.Superblock.{areas_of, data_base, image_size}
use Rattle.opfs_image.specs.declared.geometry.Geometry.{Geometry}
use Rattle.opfs_journal.specs.Seen.{Seen}
use Rattle.opfs_laws.proofs.Numbers.{IsNumber}
use Rattle.opfs_machine.specs.declared.own.Own.{Own}
use Rattle.opfs_machine.specs.declared.state.State.{State}
use Rattle.opfs_machine.specs.Agents.{counted}
use Rattle.opfs_machine.specs.Changes.{changes_from, changes, evict, stored_by}
use Rattle.opfs_machine.specs.Effects.{refused}
use Rattle.opfs_machine.specs.Histories.{after_entry, state_after}
use Rattle.opfs_laws.proofs.histories.Adding.{changes-append}
use Rattle.opfs_machine.specs.Openings.{Opening, begun}
use Rattle.opfs_laws.specs.Lengths.Kept.{Kept}
use Rattle.opfs_machine.specs.Runs.{eviction}
use Rattle.opfs_machine.specs.Steps.{is_refusal, evicted}
use Rattle.opfs_outside.specs.Faults.{Rose}
use Rattle.opfs_outside.specs.declared.disk.Disk.{Ghosts as DiskWords}
use Rattle.opfs_records.specs.Replay.Built.{Built}
use Rattle.opfs_pages.specs.RowCalls.Plans.{shelf}
use Rattle.opfs_books.specs.Sharing.Noting.{noted}
use Rattle.opfs_records.specs.Checkpoint.Written.{stored_rows}
use Rattle.opfs_space.specs.Room.{Machine}
use Rattle.opfs_state.specs.Applied.{StateSeen}
use Rattle.opfs_laws.specs.Steady.Settling.{NoneSettles, OnlyItsOwnCallsSettleARow}
use Rattle.opfs_laws.specs.Steady.Steady.{concerns}
use Rattle.opfs_tree.specs.Rows.{Rows as Tree, IsInOrder, without}
use Rattle.opfs_state.specs.Verdicts.Callers.{IsAgent}
use Rattle.opfs_desk_steps.specs.Parts.Held.{AreTied, AreHeldAt, AreHeldWhole}
use Rattle.opfs_desk_steps.specs.Parts.Seen.{machine_in, tree_in, book_in}
use Rattle.opfs_desk_steps.specs.declared.parts.parts.Ledger.{Ledger}
use Rattle.opfs_desk_steps.specs.declared.parts.parts.OpenPages.{OpenPages}
use Rattle.opfs_desk_steps.proofs.book_steps.Alike.{leaves-alike}
use Rattle.opfs_desk_steps.proofs.book_steps.Evictions.{spaced-evicted}
use Rattle.opfs_desk_steps.proofs.book_steps.LaidStays.{LaidBeside, laid-on, spaced-stays}
use Rattle.opfs_desk_steps.proofs.book_steps.OpenRows.{open-refused, open-noted, limits-refused, limits-noted}

-- An agent's number, as lemmas of the machine have it.
pub number-of-agent : (m : Machine) (k : ℕ) → IsAgent m k → IsNumber m k
number-of-agent m k agent = record { index = k - 1; is = omega (arith, agent.above); within = omega (arith, agent.above, agent.within) }

module _ {D : Type 0} (w : DiskWords D) (f : Fixed D) where
  -- ---- what ties the parts

  pub tied-later : ((d : D) → w.faults d ≤ 2 ^ 64 - 1) → (l new : Ledger D) (p : OpenPages) → AreTied w f l p → w.size new.journal.disk ≡ w.size l.journal.disk → w.faults l.journal.disk ≤ w.faults new.journal.disk
      → vec_capacity l.freed ≤ vec_capacity new.freed → AreTied w f new p
  tied-later most l new p tied size later freed = record {
    range = tied.range;
    base = tied.base;
    size = omega (arith, tied.size, size);
    freed = omega (arith, tied.freed, freed);
    agents = tied.agents;
    keys = tied.keys;
    quota = tied.quota;
    few = λ none. tied.few (λ rose. none (rose-later (w.faults f.begun) (w.faults l.journal.disk) (w.faults new.journal.disk) (most new.journal.disk) rose later));
  }

  pub tied-same : (l new : Ledger D) (p : OpenPages) → AreTied w f l p → new.journal ≡ l.journal → vec_capacity l.freed ≤ vec_capacity new.freed → AreTied w f new p
  tied-same l new p tied same freed = record {
    range = tied.range;
    base = tied.base;
    size = subst (λ (j : Seen D). image_size f.geometry ≤ w.size j.disk) (sym same) tied.size;
    freed = omega (arith, tied.freed, freed);
    agents = tied.agents;
    keys = tied.keys;
    quota = tied.quota;
    few = λ none. tied.few (subst (λ (j : Seen D). Rose (w.faults f.begun) (w.faults j.disk) → ⊥) same none);
  }

  -- ---- what is laid down, where the pages are as they were

  module _ (recorded next : Built) (l new : Ledger D) (p : OpenPages) (more : List Entry) (beside : LaidBeside w.tells) where
    -- Entries settle no row, open rows stay, and all pages read as before.
    pub laid-more : new.books.history ≡ l.books.history ++ more → ((k n : ℕ) → NoneSettles (state_after f.opening l.books.history) k n more) → ((k n : ℕ) → open_at (machine_in new) k n ≡ open_at (machine_in l) k n)
        → (w.tells → AllReadAlike p.base (w.content l.journal.disk) (w.content new.journal.disk) p.swap p.swap) → AreSpaced (machine_in new) (shelf next.rows (tree_in new) p.swap) p.space
        → AreLaid w.tells f.opening l.books.history p.base (w.content l.journal.disk) (machine_in l) (shelf recorded.rows (tree_in l) p.swap) p.space
        → AreLaid w.tells f.opening new.books.history p.base (w.content new.journal.disk) (machine_in new) (shelf next.rows (tree_in new) p.swap) p.space
    laid-more entries none opened alike spaced laid =
        subst (λ (es : List Entry). AreLaid w.tells f.opening es p.base (w.content new.journal.disk) (machine_in new) (shelf next.rows (tree_in new) p.swap) p.space) (sym entries)
        (laid-on w.tells beside f.opening l.books.history more p.base (w.content l.journal.disk) (w.content new.journal.disk) (machine_in l) (machine_in new) recorded.rows (tree_in l) next.rows (tree_in new) p.swap p.space none alike opened spaced laid)

  -- Where nothing is kept back: what is kept back, and what is stored, are as they were.
  pub fresh-same : (recorded : Built) (l new : Ledger D) → (l.books.commits.count ≡ 0 → recorded ≡ (book_in l).rows) → new.books.commits ≡ l.books.commits → tree_in new ≡ tree_in l → (machine_in new).persistent ≡ (machine_in l).persistent
      → new.books.commits.count ≡ 0 → recorded ≡ (book_in new).rows
  fresh-same recorded l new was commits tree modes none =
      was (sym (ap (λ (k : KeptBack). k.count) commits) ∙ none) ∙ (λ i. stored_built (sym tree i) (sym modes i))

  -- ---- a refused call

  refused-none : OnlyItsOwnCallsSettleARow → (o : Opening) (h : List Entry) (e : Entry) → is_refusal e.reply ≡ true → (k n : ℕ) → NoneSettles (state_after o h) k n (e ∷ [])
  refused-none settle o h e refuses k n = (settle.refused (state_after o h) k n e refuses, tt)

  same-alike : (l new : Ledger D) (p : OpenPages) → new.journal ≡ l.journal → w.tells → AllReadAlike p.base (w.content l.journal.disk) (w.content new.journal.disk) p.swap p.swap
  same-alike l new p same t = subst (λ (j : Seen D). AllReadAlike p.base (w.content l.journal.disk) (w.content j.disk) p.swap p.swap) (sym same) (λ k n i within. refl)

  -- By a journal that may have been used.
  pub refused-by : LaidBeside w.tells → BlocksGoOn → OnlyItsOwnCallsSettleARow → (recorded : Built) (base : State Text Own) (gone : List Text) (l new : Ledger D) (p : OpenPages) (e : Entry) → AreHeldAt w f recorded base gone l p
      → is_refusal e.reply ≡ true → IsAgent (machine_in l) e.agent → AreBooks w f recorded (book_in new) new.journal → new.books.history ≡ l.books.history ++ e ∷ []
      → machine_in new ≡ counted (refused (machine_in l) e.agent e.op) e.agent → tree_in new ≡ tree_in l → (w.tells → AllReadAlike p.base (w.content l.journal.disk) (w.content new.journal.disk) p.swap p.swap) → AreTied w f new p → new.books.commits ≡ l.books.commits
      → AreHeldWhole w f recorded new p
  refused-by beside blocks settle recorded base gone l new p e are refuses agent books entries machine tree alike tied commits =
      let opened : (k n : ℕ) → open_at (machine_in new) k n ≡ open_at (machine_in l) k n = λ k n.
      ap (λ (m : Machine). open_at m k n) machine ∙ open-refused (machine_in l) e.agent k n e.op (number-of-agent (machine_in l) e.agent agent) in
      let limits : (machine_in new).limits ≡ (machine_in l).limits = ap (λ (m : Machine). m.limits) machine ∙ limits-refused (machine_in l) e.agent e.op in
      let spaced : AreSpaced (machine_in new) (shelf recorded.rows (tree_in new) p.swap) p.space =
      subst (λ (t : Tree). AreSpaced (machine_in new) (shelf recorded.rows t p.swap) p.space) (sym tree)
      (spaced-stays blocks (machine_in l) (machine_in new) opened limits recorded.rows (tree_in l) p.swap p.space are.laid.spaced) in
      record {
        books = books;
        laid = laid-more recorded recorded l new p (e ∷ []) beside entries (refused-none settle f.opening l.books.history e refuses) opened alike spaced are.laid;
        tied = tied;
        fresh = fresh-same recorded l new are.fresh commits tree (ap (λ (m : Machine). m.persistent) machine ∙ refused-modes (machine_in l) e.agent e.op);
      }

  pub refused-held : LaidBeside w.tells → BlocksGoOn → OnlyItsOwnCallsSettleARow → (recorded : Built) (base : State Text Own) (gone : List Text) (l new : Ledger D) (p : OpenPages) (e : Entry) → AreHeldAt w f recorded base gone l p
      → is_refusal e.reply ≡ true → IsAgent (machine_in l) e.agent → AreBooks w f recorded (book_in new) new.journal → new.journal ≡ l.journal → new.books.history ≡ l.books.history ++ e ∷ []
      → machine_in new ≡ counted (refused (machine_in l) e.agent e.op) e.agent → tree_in new ≡ tree_in l → vec_capacity l.freed ≤ vec_capacity new.freed → new.books.commits ≡ l.books.commits
      → AreHeldWhole w f recorded new p
  refused-held beside blocks settle recorded base gone l new p e are refuses agent books same entries machine tree freed commits =
      refused-by beside blocks settle recorded base gone l new p e are refuses agent books entries machine tree (same-alike l new p same) (tied-same l new p are.tied same freed) commits

  -- ---- pending calls

  pending-none : (k n j : ℕ) (es : List Entry) (s : State Text Own) → ArePendingFor w.tells s j es → NoneSettles s k n es
  pending-none k n j [] s h = tt
  pending-none k n j (e ∷ es) s h = (ap (λ t. t && not (is_refusal e.reply) && (e.agent == k && concerns s k n e.op)) h.0.turn, pending-none k n j es (after_entry s e) h.1)

  pub pending-held : LaidBeside w.tells → BlocksGoOn → (recorded : Built) (l new : Ledger D) (p : OpenPages) (k : ℕ) (es : List Entry) → AreHeldWhole w f recorded l p → ArePendingFor w.tells (state_after f.opening l.books.history) k es
      → IsAgent (machine_in l) k → AreBooks w f recorded (book_in new) new.journal → new.journal ≡ l.journal → new.books.history ≡ l.books.history ++ es
      → machine_in new ≡ noted (machine_in l) k es → tree_in new ≡ tree_in l → vec_capacity l.freed ≤ vec_capacity new.freed → new.books.commits ≡ l.books.commits
      → AreHeldWhole w f recorded new p
  pending-held beside blocks recorded l new p agent es are pending there books same entries machine tree freed commits =
      let opened : (k n : ℕ) → open_at (machine_in new) k n ≡ open_at (machine_in l) k n = λ k n.
      ap (λ (m : Machine). open_at m k n) machine ∙ open-noted es (machine_in l) agent k n (number-of-agent (machine_in l) agent there) in
      let limits : (machine_in new).limits ≡ (machine_in l).limits = ap (λ (m : Machine). m.limits) machine ∙ limits-noted es (machine_in l) agent in
      let spaced : AreSpaced (machine_in new) (shelf recorded.rows (tree_in new) p.swap) p.space =
      subst (λ (t : Tree). AreSpaced (machine_in new) (shelf recorded.rows t p.swap) p.space) (sym tree)
      (spaced-stays blocks (machine_in l) (machine_in new) opened limits recorded.rows (tree_in l) p.swap p.space are.laid.spaced) in
      record {
        books = books;
        laid = laid-more recorded recorded l new p es beside entries (λ k n. pending-none k n agent es (state_after f.opening l.books.history) pending) opened (same-alike l new p same) spaced are.laid;
        tied = tied-same l new p are.tied same freed;
        fresh = fresh-same recorded l new are.fresh commits tree (ap (λ (m : Machine). m.persistent) machine ∙ notes-modes (machine_in l) agent es);
      }

  -- ---- a unit that was cleared, and a journal that was used alone

  pub behind : (g : Geometry) → (areas_of g).first + 2 * (areas_of g).bytes ≤ data_base g
  behind g = omega arith

  moved-alike : (recorded : Built) (base : State Text Own) (gone : List Text) (l new : Ledger D) (p : OpenPages) → AreHeldAt w f recorded base gone l p → LeavesPages w l.journal new.journal → w.tells
      → AllReadAlike p.base (w.content l.journal.disk) (w.content new.journal.disk) p.swap p.swap
  moved-alike recorded base gone l new p are leaves t =
      let areas : l.journal.areas ≡ areas_of f.geometry = are.books.areas in
      let first : l.journal.areas.first ≡ (areas_of f.geometry).first = ap (λ a. a.first) areas in
      let bytes : l.journal.areas.bytes ≡ (areas_of f.geometry).bytes = ap (λ a. a.bytes) areas in
      leaves-alike w l.journal new.journal p.base p.swap (omega (arith, first, bytes, are.tied.base, behind f.geometry)) leaves t

  pub tied-moved : ((d : D) → w.faults d ≤ 2 ^ 64 - 1) → (l new : Ledger D) (p : OpenPages) → AreTied w f l p → LeavesPages w l.journal new.journal → vec_capacity l.freed ≤ vec_capacity new.freed → AreTied w f new p
  tied-moved most l new p tied leaves freed = tied-later most l new p tied leaves.stays.length leaves.later freed

  pub evicted-held : LaidBeside w.tells → BlocksGoOn → OnlyItsOwnCallsSettleARow → ((d : D) → w.faults d ≤ 2 ^ 64 - 1) → (recorded : Built) (base : State Text Own) (gone : List Text) (l new : Ledger D) (p : OpenPages) (unit : Text)
      → AreHeldAt w f recorded base gone l p → Kept (evicted (machine_in l) unit) → IsInOrder (tree_in l) → AreBooksAt w f (book_in new).rows base (gone ++ unit ∷ []) (book_in new) new.journal → LeavesPages w l.journal new.journal
      → new.books.history ≡ l.books.history ++ eviction unit ∷ [] → machine_in new ≡ evicted (machine_in l) unit → tree_in new ≡ without (unit, []) (tree_in l) → vec_capacity l.freed ≤ vec_capacity new.freed
      → AreHeldAt w f (book_in new).rows base (gone ++ unit ∷ []) new p
  evicted-held beside blocks settle most recorded base gone l new p unit are after order books leaves entries machine tree freed =
      let opened : (k n : ℕ) → open_at (machine_in new) k n ≡ open_at (machine_in l) k n = λ k n. ap (λ (m : Machine). open_at m k n) machine in
      let spaced : AreSpaced (machine_in new) (shelf (stored_rows (tree_in new)) (tree_in new) p.swap) p.space =
      subst (λ (m : Machine). AreSpaced m (shelf (stored_rows (tree_in new)) (tree_in new) p.swap) p.space) (sym machine)
      (subst (λ (t : Tree). AreSpaced (evicted (machine_in l) unit) (shelf (stored_rows t) t p.swap) p.space) (sym tree)
      (spaced-evicted (machine_in l) unit after blocks recorded.rows (tree_in l) p.swap p.space order are.laid.spaced)) in
      record {
        books = books;
        laid = laid-more recorded (book_in new).rows l new p (eviction unit ∷ []) beside entries (λ k n. settle.evictions (state_after f.opening l.books.history) k n (unit ∷ [])) opened (moved-alike recorded base gone l new p are leaves) spaced are.laid;
        tied = tied-moved most l new p are.tied leaves freed;
        fresh = λ none. refl;
      }

  -- The journal was used, and what the records build is this now: no entry came, and the shared state is as it was.
  pub moved-held : LaidBeside w.tells → ((d : D) → w.faults d ≤ 2 ^ 64 - 1) → (recorded next : Built) (base : State Text Own) (gone : List Text) (l new : Ledger D) (p : OpenPages)
      → AreHeldAt w f recorded base gone l p → AreBooksAt w f next base gone (book_in new) new.journal → LeavesPages w l.journal new.journal
      → new.books.history ≡ l.books.history → new.books.state ≡ l.books.state → vec_capacity l.freed ≤ vec_capacity new.freed
      → AreSpaced (machine_in l) (shelf next.rows (tree_in l) p.swap) p.space → (new.books.commits.count ≡ 0 → next ≡ (book_in new).rows)
      → AreHeldAt w f next base gone new p
  moved-held beside most recorded next base gone l new p are books leaves entries state freed spaced fresh =
      let opened : (k n : ℕ) → open_at (machine_in new) k n ≡ open_at (machine_in l) k n = λ k n. ap (λ (s : StateSeen). open_at s.store.machine k n) state in
      record {
        books = books;
        laid = laid-more recorded next l new p [] beside (entries ∙ sym (append-nil l.books.history)) (λ k n. tt) opened (moved-alike recorded base gone l new p are leaves)
            (subst (λ (s : StateSeen). AreSpaced s.store.machine (shelf next.rows s.store.tree p.swap) p.space) (sym state) spaced) are.laid;
        tied = tied-moved most l new p are.tied leaves freed;
        fresh = fresh;
      }

  pub failed-held : LaidBeside w.tells → BlocksGoOn → OnlyItsOwnCallsSettleARow → ((d : D) → w.faults d ≤ 2 ^ 64 - 1) → (recorded : Built) (base : State Text Own) (gone : List Text) (l new : Ledger D) (p : OpenPages) (e : Entry)
      → AreHeldAt w f recorded base gone l p → is_refusal e.reply ≡ true → IsAgent (machine_in l) e.agent → AreBooks w f recorded (book_in new) new.journal → LeavesPages w l.journal new.journal → new.books.history ≡ l.books.history ++ e ∷ []
      → machine_in new ≡ counted (refused (machine_in l) e.agent e.op) e.agent → tree_in new ≡ tree_in l → vec_capacity l.freed ≤ vec_capacity new.freed → new.books.commits ≡ l.books.commits
      → AreHeldWhole w f recorded new p
  failed-held beside blocks settle most recorded base gone l new p e are refuses agent books leaves entries machine tree freed commits =
      refused-by beside blocks settle recorded base gone l new p e are refuses agent books entries machine tree (moved-alike recorded base gone l new p are leaves) (tied-moved most l new p are.tied leaves freed) commits

  -- ---- what is told

  pub refused-told : (l new : Ledger D) (e : Entry) → is_refusal e.reply ≡ true → new.books.history ≡ l.books.history ++ e ∷ [] → told f (book_in new) ≡ told f (book_in l)
  refused-told l new e refuses entries =
      ap (changes f.opening) entries ∙ changes-more f.opening l.books.history e
      ∙ ap (λ cs. changes f.opening l.books.history ++ cs) (refused-changes (state_after f.opening l.books.history) e refuses)
      ∙ append-nil (changes f.opening l.books.history)

  pub evicted-told : (l new : Ledger D) (unit : Text) → new.books.history ≡ l.books.history ++ eviction unit ∷ [] → told f (book_in new) ≡ told f (book_in l) ++ evict unit ∷ []
  unfolding stored_by
  evicted-told l new unit entries = ap (changes f.opening) entries ∙ changes-more f.opening l.books.history (eviction unit)

  -- Nothing was done, and nothing is kept back.
  pub untouched-held : (recorded : Built) (base : State Text Own) (gone : List Text) (l : Ledger D) (j : Seen D) (b : Books StateSeen) (p : OpenPages) → AreHeldAt w f recorded base gone l p → b ≡ l.books → j ≡ l.journal → recorded ≡ (book_in l).rows
      → AreHeldAt w f (book_in (record l { journal = j; books = b })).rows base gone (record l { journal = j; books = b }) p
  untouched-held recorded base gone l j b p are books journal fresh =
      subst (λ (x : Books StateSeen). AreHeldAt w f (book_in (record l { journal = j; books = x })).rows base gone (record l { journal = j; books = x }) p) (sym books)
      (subst (λ (x : Seen D). AreHeldAt w f (book_in l).rows base gone (record l { journal = x }) p) (sym journal)
      (subst (λ (r : Built). AreHeldAt w f r base gone l p) fresh are))

  -- Evictions tell of their units.
  evictions-change : (gone : List Text) (s : State Text Own) → changes_from s (map eviction gone) ≡ map evict gone
  unfolding stored_by
  evictions-change [] s = refl
  evictions-change (unit ∷ units) s = ap (λ cs. evict unit ∷ cs) (evictions-change units (evicted s unit))

  pub evictions-told : (l new : Ledger D) (units : List Text) → new.books.history ≡ l.books.history ++ map eviction units → told f (book_in new) ≡ told f (book_in l) ++ map evict units
  evictions-told l new units entries =
      ap (changes f.opening) entries ∙ changes-append (begun f.opening) l.books.history (map eviction units)
      ∙ ap (λ cs. changes f.opening l.books.history ++ cs) (evictions-change units (state_after f.opening l.books.history))
