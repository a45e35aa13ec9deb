-- The books after an eviction, after pending calls, and after a commit of what is kept back alone, put together.
use Rattle.std.proofs.Common.{◌≡◌, ◌⊎◌, ℕ, ◌+◌, ◌≤◌, Bool, true, false, List, [], ◌∷◌, ◌++◌, fold, length, Option, Some, None, is_some, refl, sym, ap, ◌∙◌, subst, arith}
use Rattle.std.specs.Prelude.{IsTrue}
use Rattle.std.proofs.lemmas.List.Sums.{fold-append}
use Rattle.opfs_base.specs.Texts.{Text}
use Rattle.opfs_books.specs.Stored.Laws.{CallsAreSpelled, CallsMayFail}
use Rattle.opfs_books.specs.Stored.Spelled.{stored_built}
use Rattle.opfs_books.specs.Laws.Books.{Fixed, IsPlaced, AreBooksAt, AreBooks, calls_of}
use Rattle.opfs_books.specs.Laws.Laws.{failed, told, ShowsTold, CommitsShow, IsMade, PendingKeepsTheBooks, CommittedEvictionsKeepTheBooks, FailedCommitsKeepTheBooks}
use Rattle.opfs_books.proofs.laws.Sound.{evicted_charge}
use Rattle.opfs_codec.specs.Spelling.{IsChange}
use Rattle.opfs_codec.specs.declared.change.Change.TheVariants.{Evict}
use Rattle.opfs_codec.specs.declared.change.Format.TheVariants.{New}
use Rattle.opfs_commit.specs.Calls.{IsAnyOf, IsNoneOf, IsNext as IsNextRecord}
use Rattle.opfs_commit.specs.Making.{told_as, new_bytes}
use Rattle.opfs_commit.specs.Seen.{KeptBack, committing}
use Rattle.opfs_hist.specs.declared.entry.Entry.{Entry}
use Rattle.opfs_laws.specs.Histories.Unread.{ArePendingFor}
use Rattle.opfs_image.specs.Superblock.{area_bytes, data_base}
use Rattle.opfs_journal.specs.Seen.{Seen}
use Rattle.opfs_laws.specs.Lengths.Bridge.{LengthsFollowEachCall, LocalCallsAreKnownByTheirWord}
use Rattle.opfs_hist.specs.declared.op.Op.{Op}
use Rattle.opfs_hist.specs.declared.op.Op.TheVariants as op
use Rattle.opfs_laws.specs.Lengths.Outlines.{in_lengths_of, local_change}
use Rattle.opfs_machine.specs.declared.own.Own.{Own}
use Rattle.opfs_machine.specs.declared.state.State.{State}
use Rattle.opfs_machine.specs.Agents.{counted}
use Rattle.opfs_machine.specs.Changes.{evict}
use Rattle.opfs_machine.specs.Effects.{refused}
use Rattle.opfs_machine.specs.Histories.{state_after, after_entry}
use Rattle.opfs_machine.specs.Openings.{begun}
use Rattle.opfs_machine.specs.Rows.{row_at}
use Rattle.opfs_machine.specs.Runs.{eviction}
use Rattle.opfs_machine.specs.Steps.{evicted, is_refusal}
use Rattle.opfs_machine.specs.Sums.{is_persistent}
use Rattle.opfs_outside.specs.Faults.{Rose}
use Rattle.opfs_outside.specs.declared.disk.Disk.{Ghosts as DiskWords}
use Rattle.opfs_records.specs.Replay.Applying.{tried}
use Rattle.opfs_records.specs.Replay.Built.{Built, IsSound}
use Rattle.opfs_records.specs.Replay.Sums.{charge_of, persistent_in}
use Rattle.opfs_shed.specs.Buckets.{Storage}
use Rattle.opfs_records.specs.Checkpoint.Written.{AreWritable, stored_rows}
use Rattle.opfs_records.proofs.checkpoint.StoredRows.{stored_order}
use Rattle.opfs_state_rows.specs.Standing.Seen.{Machine, lines_of}
use Rattle.opfs_tree.specs.Rows.{Rows, IsInOrder, without}
use Rattle.opfs_books.specs.Committing.{MayCommit, MayCommitAlone}
use Rattle.opfs_books.specs.Sharing.Noting.{noted}
use Rattle.opfs_books.specs.Seen.{book, IsVictim}
use Rattle.opfs_books.proofs.Following.{refused-follows, notes-follow}
use Rattle.opfs_books.proofs.Calls.{unstored, refused-modes}

module _ (follow : LengthsFollowEachCall) (spelled : CallsAreSpelled) {D : Type 0} (w : DiskWords D) (f : Fixed D) (recorded : Built) (base : State Text Own) (gone : List Text)
    (h : List Entry) (m : Machine) (t : Rows) (back : KeptBack) (place : Option ℕ) (j : Seen D) (are : AreBooksAt w f recorded base gone (book h m t back place) j) where
  abbrev s : State Text Own
  s = fold evicted base gone

  may-have : (rows : Rows) (shed : Storage) → rows ≡ t → persistent_in shed.buckets ≡ m.persistent → IsSound f.geometry.blocks (stored_rows rows) × AreWritable rows (persistent_in shed.buckets)
  may-have rows shed same modes = (
    subst (λ (x : Rows). IsSound f.geometry.blocks (stored_rows x)) (sym same) are.stored.sound,
    subst (λ (x : Rows). AreWritable x (persistent_in shed.buckets)) (sym same) (subst (λ (u : List Text). AreWritable t u) (sym modes) (unstored t are.stored.writable.0, are.stored.writable.1)),
  )

  area-is : j.areas.bytes ≡ area_bytes f.geometry
  area-is = ap (λ a. a.bytes) are.areas

  -- What is kept back may be committed alone.
  pub may-alone : (rows : Rows) (shed : Storage) → rows ≡ t → persistent_in shed.buckets ≡ m.persistent → MayCommitAlone rows shed back.room j.areas.bytes
  may-alone rows shed same modes =
      let have = may-have rows shed same modes in
      let cost : charge_of New (stored_built rows (persistent_in shed.buckets)) ≡ charge_of New (stored_built t m.persistent) = λ i. charge_of New (stored_built (same i) (modes i)) in
      record {
        size = f.geometry.blocks;
        most = charge_of New (stored_built t m.persistent);
        now = record { sound = have.0; writable = have.1; fits = omega (arith, cost) };
        kept = omega (arith, are.stored.fits, are.room);
        area = omega (arith, are.stored.fits, area-is);
      }

  -- ---- an eviction

  module _ (unit : Text) (tied : lines_of t ≡ m.rows) (there : is_some (row_at m (unit, [])) ≡ true) (mode : is_persistent m unit ≡ false) (again : IsChange New (Evict unit)) (order : IsInOrder t) where
    abbrev after : Built
    after = stored_built (without (unit, []) t) m.persistent

    found : tried New f.geometry.blocks (stored_built t m.persistent) (Evict unit) ≡ Some after
    found = spelled.evicts f.geometry.blocks m t unit tied there mode

    made : IsMade f.geometry.blocks (Evict unit) (stored_built t m.persistent) after
    made = record { again = again; found = found; order = subst IsTrue (sym (stored_order t)) order }

    fits : charge_of New after + 7 ≤ area_bytes f.geometry
    fits = omega (arith, are.stored.fits, evicted_charge f.geometry.blocks (stored_built t m.persistent) after unit found)

    pub may-evict : (rows : Rows) (shed : Storage) → rows ≡ t → persistent_in shed.buckets ≡ m.persistent → MayCommit rows shed (Evict unit) back.room j.areas.bytes
    may-evict rows shed same modes =
        let have = may-have rows shed same modes in
        record {
          size = f.geometry.blocks;
          most = charge_of New after;
          after = record {
            next = after;
            sound = have.0;
            found = (λ i. tried New f.geometry.blocks (stored_built (same i) (modes i)) (Evict unit)) ∙ found;
            writable = have.1;
            again = again;
            fits = omega arith;
          };
          kept = omega (arith, fits, are.room);
          area = omega (arith, fits, area-is);
        }

    pub evict-done : CommittedEvictionsKeepTheBooks w → j.in_doubt ≡ false → (h2 : List Entry) (m2 : Machine) (t2 : Rows) → h2 ≡ h ++ eviction unit ∷ [] → m2 ≡ evicted m unit → t2 ≡ without (unit, []) t
        → (j2 : Seen D) (back2 : KeptBack) → IsAnyOf w (IsNextRecord (stored_built t m.persistent) (Evict unit) (committing j back)) (committing j back) (committing j2 back2)
        → AreBooksAt w f (stored_built t2 m2.persistent) base (gone ++ unit ∷ []) (book h2 m2 t2 back2 None) j2
    evict-done keeps settled h2 m2 t2 grown machine tree j2 back2 any =
        let rows : stored_built t2 m2.persistent ≡ after = λ i. stored_built (tree i) (machine i).persistent in
        keeps f recorded base gone (book h m t back place) (book h2 m2 t2 back2 None) j j2 unit are settled grown
        (machine ∙ ap (λ (x : Machine). evicted x unit) are.machine ∙ follow.evictions s (unit ∷ []) ∙ ap in_lengths_of (sym (fold-append evicted base gone (unit ∷ []))))
        (subst (λ (x : Built). IsMade f.geometry.blocks (Evict unit) (stored_built t m.persistent) x) (sym rows) made) any refl

    evict-told : (bytes : Text) → told_as bytes (Evict unit) ≡ evict unit
    unfolding told_as
    evict-told bytes = refl

    pub evict-shown : CommitsShow w → j.in_doubt ≡ false → (j2 : Seen D) (back2 : KeptBack)
        → (IsAnyOf w (IsNextRecord (stored_built t m.persistent) (Evict unit) (committing j back)) (committing j back) (committing j2 back2) ⊎ IsNoneOf w (IsNextRecord (stored_built t m.persistent) (Evict unit) (committing j back)) (committing j back) (committing j2 back2))
        → ShowsTold w f (book h m t back place) (told f (book h m t back place) ++ evict unit ∷ []) j j2
    evict-shown shows settled j2 back2 either =
        shows f recorded base gone (book h m t back place) j j2 back2 (Evict unit) after (evict unit) are settled made fits (λ t. evict-told (new_bytes (data_base f.geometry) (w.content j.disk) (Evict unit))) either

    pub evict-failed : FailedCommitsKeepTheBooks w → {tells : Type 0} → CallsMayFail tells → j.in_doubt ≡ false → (e : Entry) → IsVictim base gone e unit → IsPlaced h e.agent
        → (h2 : List Entry) (m2 : Machine) (t2 : Rows) → h2 ≡ h ++ failed e ∷ [] → m2 ≡ counted (refused m e.agent e.op) e.agent → t2 ≡ t
        → (j2 : Seen D) (back2 : KeptBack) → IsNoneOf w (IsNextRecord (stored_built t m.persistent) (Evict unit) (committing j back)) (committing j back) (committing j2 back2) → Rose (w.faults j.disk) (w.faults j2.disk)
        → (n : ℕ) → n ≡ length h → AreBooks w f recorded (book h2 m2 t2 back2 (Some n)) j2
    evict-failed keeps fails settled e victim placed h2 m2 t2 grown machine tree j2 back2 none rose n at =
        keeps f recorded base gone (book h m t back place) (book h2 m2 t2 back2 (Some n)) j j2 (failed e) (Evict unit) after (evict unit)
        are settled victim.fault refl
        (record { entries = grown; machine = refused-follows follow s m m2 e.agent e.op (failed e).reply are.machine refl machine; placed = placed })
        (λ i. stored_built (tree i) ((ap (λ (x : Machine). x.persistent) machine ∙ refused-modes m e.agent e.op) i))
        (ap (λ (x : ℕ). Some x) at) made fits (λ told. evict-told (new_bytes (data_base f.geometry) (w.content j.disk) (Evict unit))) (fails.eviction base gone victim.rest unit e victim.victims) none rose

-- ---- pending calls

pub note-done : (follow : LengthsFollowEachCall) (local : LocalCallsAreKnownByTheirWord) {D : Type 0} (w : DiskWords D) → PendingKeepsTheBooks w → (f : Fixed D) (recorded : Built)
    (h : List Entry) (m : Machine) (t : Rows) (back : KeptBack) (place : Option ℕ) (j : Seen D) → AreBooks w f recorded (book h m t back place) j
    → (k : ℕ) (es : List Entry) → ArePendingFor w.tells (state_after f.opening h) k es → 1 ≤ k → k ≤ 64 → calls_of k h + length es ≤ 60000002
    → (h2 : List Entry) (m2 : Machine) (t2 : Rows) → h2 ≡ h ++ es → m2 ≡ noted m k es → t2 ≡ t → m2.persistent ≡ m.persistent
    → AreBooks w f recorded (book h2 m2 t2 back place) j
note-done follow local w keeps f recorded h m t back place j are k es pending first last room h2 m2 t2 grown machine tree modes =
    keeps f recorded (book h m t back place) (book h2 m2 t2 back place) j k es are pending grown
    (machine ∙ ap (λ (x : Machine). noted x k es) are.machine ∙ notes-follow follow local w.tells k (state_after f.opening h) es pending
    ∙ ap in_lengths_of (sym (fold-append after_entry (begun f.opening) h es)))
    (λ i. stored_built (tree i) (modes i)) refl refl first last room

-- Pending calls change no mode.
pub notes-modes : (m : Machine) (k : ℕ) (es : List Entry) → (noted m k es).persistent ≡ m.persistent
notes-modes m k [] = refl
notes-modes m k (e ∷ es) = notes-modes (counted (elim (is_refusal e.reply) [ true ↦ m | false ↦ local_change m k e.op ]) k) k es ∙ by (is_refusal e.reply)
  where
    local-modes : (o : Op) → (local_change m k o).persistent ≡ m.persistent
    local-modes (op.Values dir) = refl
    local-modes (op.Moment ms) = refl
    local-modes o = refl

    by : (b : Bool) → (elim b as (λ x. Machine) [ true ↦ m | false ↦ local_change m k e.op ]).persistent ≡ m.persistent
    by true = refl
    by false = local-modes e.op
