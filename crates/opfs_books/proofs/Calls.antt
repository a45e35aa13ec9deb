-- The books after each call, put together from its parts.
use Rattle.std.proofs.Common.{◌≡◌, ◌⊎◌, ℕ, ◌+◌, ◌<◌, ◌≤◌, true, false, List, [], ◌∷◌, ◌++◌, fold, length, Option, Some, None, refl, sym, ap, ◌∙◌, subst, arith}
use Rattle.std.specs.Prelude.{IsTrue}
use Rattle.std.specs.List.{AllByRecursion}
use Rattle.std.proofs.lemmas.Bool.{false≢true}
use Rattle.opfs_base.specs.Texts.{Text}
use Rattle.opfs_base.specs.Places.{Place}
use Rattle.opfs_base.specs.declared.extents.Extent.{Extent}
use Rattle.opfs_books.specs.Stored.Laws.{CallsAreSpelled, CallsMayFail}
use Rattle.opfs_books.specs.Stored.Spelled.{spelled_by, bytes_stored, told_list, stored_built, CanHold, Makes}
use Rattle.opfs_books.proofs.stored.Failing.{next-plain}
use Rattle.opfs_books.specs.Laws.Books.{Fixed, IsNext, IsPlaced, AreBooksAt, AreBooks}
use Rattle.opfs_books.specs.Laws.Commits.{StateLaws}
use Rattle.opfs_books.specs.Laws.Laws.{failed, IsEntered, IsMade, IsCovered, HasRisen, TellsKeepTheBooks, KeepingBackKeepsTheBooks, CommittedCallsKeepTheBooks, FailedCommitsKeepTheBooks, CommitsShow, ShowsTold, told}
use Rattle.opfs_books.proofs.laws.Committing.{fault-refuses, covered-fits}
use Rattle.opfs_state_rows.specs.Changes.Changed.{tree_by}
use Rattle.opfs_codec.specs.Spelling.{IsChange}
use Rattle.opfs_codec.specs.declared.change.Change.{Change as Spelled}
use Rattle.opfs_codec.specs.declared.change.Format.TheVariants.{New}
use Rattle.opfs_commit.specs.Calls.{IsAnyOf, IsNoneOf, IsNext as IsNextRecord}
use Rattle.opfs_commit.specs.Making.{told_as, new_bytes}
use Rattle.opfs_commit.proofs.Filling.{told_quiet}
use Rattle.opfs_commit.specs.Seen.{KeptBack, committing, with_kept, IsQuiet}
use Rattle.opfs_hist.specs.Faults.{is_disk_fault}
use Rattle.opfs_hist.specs.declared.entry.Entry.{Entry}
use Rattle.opfs_hist.specs.declared.op.Op.{Op}
use Rattle.opfs_hist.specs.declared.op.Op.TheVariants as op
use Rattle.opfs_image.specs.Superblock.{area_bytes, data_base}
use Rattle.opfs_journal.specs.Seen.{Seen}
use Rattle.opfs_laws.specs.Lengths.Bridge.{LengthsFollowEachCall}
use Rattle.opfs_laws.specs.Lengths.Kept.{Kept}
use Rattle.opfs_machine.specs.declared.own.Own.{Own}
use Rattle.opfs_machine.specs.declared.state.Sizes.{Sizes}
use Rattle.opfs_machine.specs.declared.state.State.{State}
use Rattle.opfs_machine.specs.Agents.{counted}
use Rattle.opfs_machine.specs.Changes.{Change, entry_changes, stored_by}
use Rattle.opfs_machine.specs.Contents.{in_lengths}
use Rattle.opfs_machine.specs.Effects.{effect, refused}
use Rattle.opfs_machine.specs.Replies.{sizes_of}
use Rattle.opfs_machine.specs.Steps.{evicted, is_refusal}
use Rattle.opfs_outside.specs.Faults.{Rose}
use Rattle.opfs_outside.specs.declared.disk.Disk.{Ghosts as DiskWords}
use Rattle.opfs_records.specs.Replay.Applying.{tried}
use Rattle.opfs_records.specs.Replay.Built.{Built, IsSound}
use Rattle.opfs_records.specs.Replay.Sums.{charge_of, persistent_in}
use Rattle.opfs_shed.specs.Buckets.{Storage}
use Rattle.opfs_records.specs.Checkpoint.Written.{AreWritable, IsWritableRow, stored_row, stored_rows}
use Rattle.opfs_records.proofs.checkpoint.StoredRows.{stored_order}
use Rattle.opfs_state_rows.specs.Standing.Seen.{Machine, lines_of}
use Rattle.opfs_tree.specs.Rows.{Rows, IsInOrder}
use Rattle.opfs_tree.specs.declared.row.Row.{Row}
use Rattle.opfs_tree.specs.declared.row.Row.TheVariants as row
use Rattle.opfs_books.specs.Committing.{MayCommit}
use Rattle.opfs_books.specs.Seen.{book, MayAnswer}
use Rattle.opfs_books.proofs.Following.{applied-follows, refused-follows, answered-changes, refused-changes}

-- What is stored can be written, so can the rows themselves.
unstored_row : (place : Place) (r : Row) → IsWritableRow place (stored_row r) → IsWritableRow place r
unstored_row place row.Dir h = h
unstored_row place (row.File f) h = h

pub unstored : (rows : Rows) → AllByRecursion (λ e. IsWritableRow e.0 e.1) (stored_rows rows) → AllByRecursion (λ e. IsWritableRow e.0 e.1) rows
unstored [] h = tt
unstored (e ∷ es) h = (unstored_row e.0 e.1 h.0, unstored es h.1)

pub refused-modes : (m : Machine) (k : ℕ) (o : Op) → (refused m k o).persistent ≡ m.persistent
refused-modes m k (op.Await tag) = refl
refused-modes m k o = refl

pub quiet-told : (bytes : Text) (own : Spelled) → IsQuiet own → told_as bytes own ≡ told_as [] own
quiet-told bytes own quiet = (told_quiet bytes own quiet).0

module _ (follow : LengthsFollowEachCall) (spelled : CallsAreSpelled) {D : Type 0} (w : DiskWords D) (f : Fixed D) (recorded : Built) (base : State Text Own) (gone : List Text)
    (h : List Entry) (m : Machine) (t : Rows) (back : KeptBack) (place : Option ℕ) (j : Seen D) (are : AreBooksAt w f recorded base gone (book h m t back place) j) where
  abbrev s : State Text Own
  s = fold evicted base gone

  -- ---- calls that are answered

  module _ (e : Entry) (z : Sizes) (extents : Option (List Extent)) (next : IsNext w.tells base gone e) (sizes : z ≡ sizes_of s e.agent e.op) (may : MayAnswer (book h m t back place) e z)
      (plain : is_refusal e.reply ≡ false) (tied : lines_of t ≡ m.rows) where
    told-here : entry_changes s e ≡ told_list (bytes_stored s e.agent e.op) (spelled_by m t e.agent e.op z extents)
    told-here =
        answered-changes s e plain
        ∙ spelled.told s t e.agent (tied ∙ ap (λ (x : Machine). x.rows) are.machine) (subst Kept are.machine may.kept) e.op z extents (next-plain w.tells base gone e next plain)
        ∙ ap (λ (x : Machine). told_list (bytes_stored s e.agent e.op) (spelled_by x t e.agent e.op z extents)) (sym are.machine)

    makes-here : Makes f.geometry.blocks (spelled_by m t e.agent e.op z extents) (stored_built t m.persistent) (stored_built (tree_by m t e.agent e.op z extents) (effect in_lengths m z e.agent e.op).persistent)
    makes-here = spelled.makes f.geometry.blocks m t e.agent tied may.kept.modes e.op z extents may.need may.ruled

    no-fault : is_disk_fault e.reply ≡ false
    no-fault = elim (is_disk_fault e.reply) as (λ b. is_disk_fault e.reply ≡ b → b ≡ false) [ true ↦ λ is. absurd (false≢true (sym plain ∙ fault-refuses e.reply is)) | false ↦ λ is. refl ] refl

    module _ (h2 : List Entry) (m2 : Machine) (t2 : Rows) (grown : h2 ≡ h ++ e ∷ []) (machine : m2 ≡ counted (effect in_lengths m z e.agent e.op) e.agent) (tree : t2 ≡ tree_by m t e.agent e.op z extents) where
      entered : (back2 : KeptBack) (place2 : Option ℕ) → IsEntered base gone e (book h m t back place) (book h2 m2 t2 back2 place2)
      entered back2 place2 = record { entries = grown; machine = applied-follows follow s m m2 e.agent e.op z e.reply are.machine sizes plain machine; placed = may.placed }

      rows-here : stored_built t2 m2.persistent ≡ stored_built (tree_by m t e.agent e.op z extents) (effect in_lengths m z e.agent e.op).persistent
      rows-here = λ i. stored_built (tree i) (machine i).persistent

      pub tell-done : TellsKeepTheBooks w → spelled_by m t e.agent e.op z extents ≡ None → AreBooks w f recorded (book h2 m2 t2 back place) j
      tell-done keeps none =
          keeps f recorded base gone (book h m t back place) (book h2 m2 t2 back place) j e are next (entered back place)
          (rows-here ∙ subst (λ c. Makes f.geometry.blocks c (stored_built t m.persistent) (stored_built (tree_by m t e.agent e.op z extents) (effect in_lengths m z e.agent e.op).persistent)) none makes-here)
          refl refl (told-here ∙ ap (told_list (bytes_stored s e.agent e.op)) none) (λ fault. absurd (false≢true (sym no-fault ∙ fault)))

      module _ (own : Spelled) (is_own : spelled_by m t e.agent e.op z extents ≡ Some own) (holds : CanHold f.geometry.blocks own (stored_built t m.persistent)) (again : IsChange New own) (order : IsInOrder t) where
        change : Change
        change = told_as (bytes_stored s e.agent e.op) own

        stores : entry_changes s e ≡ told_as (bytes_stored s e.agent e.op) own ∷ []
        stores = told-here ∙ ap (told_list (bytes_stored s e.agent e.op)) is_own

        found : tried New f.geometry.blocks (stored_built t m.persistent) own ≡ Some (stored_built t2 m2.persistent)
        found =
            subst (λ c. Makes f.geometry.blocks c (stored_built t m.persistent) (stored_built (tree_by m t e.agent e.op z extents) (effect in_lengths m z e.agent e.op).persistent)) is_own makes-here holds
            ∙ ap (λ (x : Built). Some x) (sym rows-here)

        made : IsMade f.geometry.blocks own (stored_built t m.persistent) (stored_built t2 m2.persistent)
        made = record { again = again; found = found; order = subst IsTrue (sym (stored_order t)) order }

        tied-new : lines_of t2 ≡ m2.rows
        tied-new = ap lines_of tree ∙ spelled.tied m t e.agent tied e.op z extents own is_own ∙ ap (λ (x : Machine). x.rows) (sym machine)

        covered-new : (back2 : KeptBack) (place2 : Option ℕ) → IsCovered (book h2 m2 t2 back2 place2)
        covered-new back2 place2 = spelled.covered m2 t2 tied-new

        fits-new : (states : StateLaws) → charge_of New (stored_built t2 m2.persistent) + 7 ≤ area_bytes f.geometry
        fits-new states = covered-fits states w f recorded base gone (book h m t back place) (book h2 m2 t2 back place) j e are next (entered back place) (covered-new back place)

        pub store-done : CommittedCallsKeepTheBooks w → j.in_doubt ≡ false → (w.tells → told_as (new_bytes (data_base f.geometry) (w.content j.disk) own) own ≡ told_as (bytes_stored s e.agent e.op) own)
            → (j2 : Seen D) (back2 : KeptBack) → IsAnyOf w (IsNextRecord (stored_built t m.persistent) own (committing j back)) (committing j back) (committing j2 back2)
            → AreBooks w f (stored_built t2 m2.persistent) (book h2 m2 t2 back2 None) j2
        store-done keeps settled bytes j2 back2 any =
            keeps f recorded base gone (book h m t back place) (book h2 m2 t2 back2 None) j j2 e own (bytes_stored s e.agent e.op) are settled next (entered back2 None) made (covered-new back2 None) stores bytes any refl no-fault

        pub keep-done : KeepingBackKeepsTheBooks w → j.in_doubt ≡ false → IsQuiet own → back.count < 63 → told_as (bytes_stored s e.agent e.op) own ≡ told_as [] own
            → AreBooks w f recorded (book h2 m2 t2 (with_kept back own) None) j
        keep-done keeps settled quiet few same =
            keeps f recorded base gone (book h m t back place) (book h2 m2 t2 (with_kept back own) None) j e own are settled next (entered (with_kept back own) None) made quiet (covered-new (with_kept back own) None)
            (stores ∙ ap (λ c. c ∷ []) same) no-fault refl few refl

    -- A commit of what the call stores has room.
    module _ (own : Spelled) (is_own : spelled_by m t e.agent e.op z extents ≡ Some own) (holds : CanHold f.geometry.blocks own (stored_built t m.persistent)) (again : IsChange New own) (order : IsInOrder t) (states : StateLaws) where
      pub may-commit : (rows : Rows) (shed : Storage) → rows ≡ t → persistent_in shed.buckets ≡ m.persistent → MayCommit rows shed own back.room j.areas.bytes
      may-commit rows shed same modes =
          let m2 = counted (effect in_lengths m z e.agent e.op) e.agent in
          let t2 = tree_by m t e.agent e.op z extents in
          let fits = fits-new (h ++ e ∷ []) m2 t2 refl refl refl own is_own holds again order states in
          let bytes : j.areas.bytes ≡ area_bytes f.geometry = ap (λ a. a.bytes) are.areas in
          record {
            size = f.geometry.blocks;
            most = charge_of New (stored_built t2 m2.persistent);
            after = record {
              next = stored_built t2 m2.persistent;
              sound = subst (λ (x : Rows). IsSound f.geometry.blocks (stored_rows x)) (sym same) are.stored.sound;
              found = (λ i. tried New f.geometry.blocks (stored_built (same i) (modes i)) own) ∙ found (h ++ e ∷ []) m2 t2 refl refl refl own is_own holds again order;
              writable = subst (λ (x : Rows). AreWritable x (persistent_in shed.buckets)) (sym same) (subst (λ (u : List Text). AreWritable t u) (sym modes) (unstored t are.stored.writable.0, are.stored.writable.1));
              again = again;
              fits = omega arith;
            };
            kept = omega (arith, fits, are.room);
            area = omega (arith, fits, bytes);
          }

      -- What the images show in it.
      pub store-shown : CommitsShow w → j.in_doubt ≡ false → (w.tells → told_as (new_bytes (data_base f.geometry) (w.content j.disk) own) own ≡ told_as (bytes_stored s e.agent e.op) own)
          → (j2 : Seen D) (back2 : KeptBack) → (IsAnyOf w (IsNextRecord (stored_built t m.persistent) own (committing j back)) (committing j back) (committing j2 back2) ⊎ IsNoneOf w (IsNextRecord (stored_built t m.persistent) own (committing j back)) (committing j back) (committing j2 back2))
          → ShowsTold w f (book h m t back place) (told f (book h m t back place) ++ told_as (bytes_stored s e.agent e.op) own ∷ []) j j2
      store-shown shows settled bytes j2 back2 either =
          let m3 = counted (effect in_lengths m z e.agent e.op) e.agent in
          let t3 = tree_by m t e.agent e.op z extents in
          shows f recorded base gone (book h m t back place) j j2 back2 own (stored_built t3 m3.persistent) (told_as (bytes_stored s e.agent e.op) own) are settled
          (made (h ++ e ∷ []) m3 t3 refl refl refl own is_own holds again order) (fits-new (h ++ e ∷ []) m3 t3 refl refl refl own is_own holds again order states) bytes either

      -- Where the commit failed, the call is entered so.
      pub store-failed : FailedCommitsKeepTheBooks w → CallsMayFail w.tells → j.in_doubt ≡ false → (w.tells → told_as (new_bytes (data_base f.geometry) (w.content j.disk) own) own ≡ told_as (bytes_stored s e.agent e.op) own)
          → (h2 : List Entry) (m2 : Machine) (t2 : Rows) → h2 ≡ h ++ failed e ∷ [] → m2 ≡ counted (refused m e.agent e.op) e.agent → t2 ≡ t
          → (j2 : Seen D) (back2 : KeptBack) → IsNoneOf w (IsNextRecord (stored_built t m.persistent) own (committing j back)) (committing j back) (committing j2 back2) → Rose (w.faults j.disk) (w.faults j2.disk)
          → (n : ℕ) → n ≡ length h → AreBooks w f recorded (book h2 m2 t2 back2 (Some n)) j2
      store-failed keeps fails settled bytes h2 m2 t2 grown machine tree j2 back2 none rose n at =
          let m3 = counted (effect in_lengths m z e.agent e.op) e.agent in
          let t3 = tree_by m t e.agent e.op z extents in
          let stored_is : stored_by s e.agent e.op ≡ told_as (bytes_stored s e.agent e.op) own ∷ [] = sym (answered-changes s e plain) ∙ stores (h ++ e ∷ []) m3 t3 refl refl refl own is_own holds again order in
          let fail = fails.call base gone e (told_as (bytes_stored s e.agent e.op) own) next plain stored_is in
          keeps f recorded base gone (book h m t back place) (book h2 m2 t2 back2 (Some n)) j j2 (failed e) own (stored_built t3 m3.persistent) (told_as (bytes_stored s e.agent e.op) own)
          are settled fail.0 refl
          (record { entries = grown; machine = refused-follows follow s m m2 e.agent e.op (failed e).reply are.machine refl machine; placed = may.placed })
          (λ i. stored_built (tree i) ((ap (λ (x : Machine). x.persistent) machine ∙ refused-modes m e.agent e.op) i))
          (ap (λ (x : ℕ). Some x) at) (made (h ++ e ∷ []) m3 t3 refl refl refl own is_own holds again order) (fits-new (h ++ e ∷ []) m3 t3 refl refl refl own is_own holds again order states) bytes fail.1 none rose

  -- ---- calls that are refused

  pub refuse-done : TellsKeepTheBooks w → (e : Entry) → IsNext w.tells base gone e → is_refusal e.reply ≡ true → IsPlaced h e.agent → HasRisen w f (book h m t back place) e j
      → (h2 : List Entry) (m2 : Machine) (t2 : Rows) → h2 ≡ h ++ e ∷ [] → m2 ≡ counted (refused m e.agent e.op) e.agent → t2 ≡ t
      → AreBooks w f recorded (book h2 m2 t2 back place) j
  refuse-done keeps e next refuses placed risen h2 m2 t2 grown machine tree =
      keeps f recorded base gone (book h m t back place) (book h2 m2 t2 back place) j e are next
      (record { entries = grown; machine = refused-follows follow s m m2 e.agent e.op e.reply are.machine refuses machine; placed = placed })
      (λ i. stored_built (tree i) ((ap (λ (x : Machine). x.persistent) machine ∙ refused-modes m e.agent e.op) i))
      refl refl (refused-changes s e refuses) risen
