-- The calls that open a row.
use Rattle.std.proofs.Common.{◌≡◌, ℕ, suc, ◌+◌, ◌*◌, ◌≤◌, Bool, true, false, cond, not, ◌&&◌, ◌||◌, nat_eq, if◌then◌else◌, List, [], ◌∷◌, ◌++◌, fold, length, Option, Some, None, option_map, is_some, Ok, refl, sym, ap, ◌∙◌, subst, arith}
use Rattle.std.proofs.lemmas.Bool.{and_parts, false≢true}
use Rattle.std.proofs.lemmas.List.Sums.{sum_by-cons}
use Rattle.std.specs.List.{IsDistinct}
use Rattle.std.specs.Ordering.{eq_by_cmp}
use Rattle.opfs_base.specs.Blocks.{blocks}
use Rattle.opfs_base.specs.Places.{Place, place_cmp, place_of}
use Rattle.opfs_base.specs.Texts.{Text}
use Rattle.opfs_base.specs.declared.extents.Extent.{Extent}
use Rattle.opfs_base.specs.declared.locator.Locator.{Locator}
use Rattle.opfs_blocks.specs.Sets.{blocks_of}
use Rattle.opfs_books.specs.Laws.Books.{Fixed}
use Rattle.opfs_books.specs.Laws.Commits.{StateLaws}
use Rattle.opfs_state_rows.proofs.changes.Told.{IsGiven, writable-told, sync-told}
use Rattle.opfs_state_rows.specs.Changes.Changed.{tree_by}
use Rattle.opfs_data.specs.Places.{bytes_of, room_of}
use Rattle.opfs_pages.specs.HistoryLaws.Hands.{row_in_hand}
use Rattle.opfs_pages.specs.HistoryLaws.Laws.{TreesKeepBlocks}
use Rattle.opfs_pages.specs.HistoryLaws.Open.{open_at, if_open, file_in, reserve_in, is_stream}
use Rattle.opfs_pages.specs.HistoryLaws.RowsAfter.{CallsChangeTheirRow}
use Rattle.opfs_pages.specs.HistoryLaws.Shelves.{HasSameBlocks, HasSameFiles}
use Rattle.opfs_hist.specs.declared.entry.Entry.{Entry}
use Rattle.opfs_hist.specs.Sums.{asks_for_row}
use Rattle.opfs_hist.specs.declared.op.Mode.{Mode}
use Rattle.opfs_laws.specs.Leaving.{row_used}
use Rattle.opfs_hist.specs.declared.op.Op.{Op}
use Rattle.opfs_hist.specs.declared.op.Op.TheVariants as op
use Rattle.opfs_hist.specs.declared.reply.Reply.{Reply}
use Rattle.opfs_laws.proofs.Spots.{file-changed}
use Rattle.opfs_laws.proofs.lengths.Readers.{own-on, agent-on, file-on}
use Rattle.opfs_laws.specs.Lengths.Outlines.{in_lengths_of, on_file}
use Rattle.opfs_locks.specs.Taking.{taken}
use Rattle.opfs_locks.specs.declared.Want.{Want}
use Rattle.opfs_locks.specs.declared.Want.TheVariants as want
use Rattle.opfs_machine.specs.declared.own.Outline.{Outline}
use Rattle.opfs_machine.specs.declared.own.Outline.TheVariants as outline
use Rattle.opfs_machine.specs.declared.own.Own.{Own}
use Rattle.opfs_machine.specs.declared.own.Own.TheVariants as own
use Rattle.opfs_machine.specs.declared.state.Agent.{Agent}
use Rattle.opfs_machine.specs.declared.state.FileRow.{FileRow as File}
use Rattle.opfs_machine.specs.declared.state.Need.{Need}
use Rattle.opfs_machine.specs.declared.state.Sizes.{Sizes}
use Rattle.opfs_machine.specs.declared.state.State.{State}
use Rattle.opfs_machine.specs.Agents.{agent_of, own_of, counted}
use Rattle.opfs_machine.specs.Contents.{in_bytes, in_lengths, outline_of}
use Rattle.opfs_machine.specs.Effects.{effect, refused, with_lock, opens_stream}
use Rattle.opfs_machine.specs.Replies.{sizes_of, bytes_at, bytes_in}
use Rattle.opfs_machine.specs.Rows.{file_at}
use Rattle.opfs_machine.specs.Rulings.{ruling, want_of, first_reserve, size_in}
use Rattle.opfs_machine.specs.Steps.{evicted, after_reply, is_refusal}
use Rattle.opfs_books.proofs.openings.Counted.{length-blocks, blocks-append, distinct, has-append, not-true}
use Rattle.opfs_outside.specs.declared.disk.Disk.{Ghosts as DiskWords}
use Rattle.opfs_pages.specs.RowCalls.Plans.{shelf}
use Rattle.opfs_records.specs.Replay.Built.{Built, block_count, has_block, is_once, named, all_extents}
use Rattle.opfs_records.specs.Checkpoint.Written.{stored_rows, stored_row}
use Rattle.opfs_space.specs.Files.{extents_in, file_has}
use Rattle.opfs_state_rows.specs.Standing.Seen.{Machine, lines_of}
use Rattle.opfs_laws.specs.Steady.Steady.{open_bytes}
use Rattle.opfs_tree.specs.declared.row.Row.{Row}
use Rattle.opfs_tree.specs.declared.row.Row.TheVariants as row
use Rattle.opfs_tree.specs.Rows.{Rows as Tree, row_at, extents_of, change_at, locked, IsInOrder}
use Rattle.opfs_desk_steps.specs.Parts.Held.{AreHeldAt}
use Rattle.opfs_desk_steps.specs.Parts.Seen.{machine_in, tree_in, shelf_in}
use Rattle.opfs_desk_steps.specs.declared.parts.parts.Ledger.{Ledger}
use Rattle.opfs_desk_steps.specs.declared.parts.parts.OpenPages.{OpenPages}
use Rattle.opfs_desk_steps.specs.RowLaws.Opening.{IsOpenedOver}
use Rattle.opfs_desk_steps.specs.RowLaws.Opens.{opens_row, file_extents, opened_extents, opened_bytes, next_row, MayOpen, HasOpened, CallsOpenRows}
use Rattle.opfs_desk_steps.specs.RowLaws.Stored.{HasCleared, FilesAreStored}
use Rattle.opfs_desk_steps.proofs.row_laws.Locked.{locked-stored}
use Rattle.opfs_desk_steps.proofs.row_laws.Stored.{row-of}

-- ---- extents

pub room-count : (extents : List Extent) → room_of extents ≡ 4096 * block_count extents
room-count [] = refl
room-count (e ∷ more) = omega (arith, room-count more, sum_by-cons (λ (x : Extent). x.count) e more)

none-either : (a b : Bool) → (a || b) ≡ false → a ≡ false
none-either true b is = is
none-either false b is = refl

once-left : (xs ys : List ℕ) → is_once (xs ++ ys) ≡ true → is_once xs ≡ true
once-left [] ys is = refl
once-left (x ∷ xs) ys is =
    let parts = and_parts (not (has_block (xs ++ ys) x)) (is_once (xs ++ ys)) is in
    let none : has_block xs x ≡ false = none-either (has_block xs x) (has_block ys x) (sym (has-append xs ys x) ∙ not-true (has_block (xs ++ ys) x) parts.0) in
    λ i. not (none i) && once-left xs ys parts.1 i

once-right : (xs ys : List ℕ) → is_once (xs ++ ys) ≡ true → is_once ys ≡ true
once-right [] ys is = is
once-right (x ∷ xs) ys is = once-right xs ys (and_parts (not (has_block (xs ++ ys) x)) (is_once (xs ++ ys)) is).1

stored-extents : (r : Row) → extents_of (stored_row r) ≡ extents_of r
stored-extents row.Dir = refl
stored-extents (row.File f) = refl

-- The blocks of a row's file are named once.
once-at : (t : Tree) (place : Place) (r : Row) → is_once (named (stored_rows t)) ≡ true → row_at place t ≡ Some r → is_once (blocks_of (extents_of r)) ≡ true
once-at [] place r once is = absurd (none_some is)
  where
    none_some : ◌≡◌ {A = Option Row} None (Some r) → ⊥
    none_some e = cc
once-at (e ∷ es) place r once is =
    let parts : is_once (blocks_of (extents_of e.1) ++ named (stored_rows es)) ≡ true =
    sym (ap is_once (blocks-append (extents_of (stored_row e.1)) (all_extents (stored_rows es)) ∙ ap (λ (xs : List Extent). blocks_of xs ++ named (stored_rows es)) (stored-extents e.1))) ∙ once in
    elim (eq_by_cmp place_cmp place e.0) as (λ b. cond b (Some e.1) (row_at place es) ≡ Some r → is_once (blocks_of (extents_of r)) ≡ true) [
      | true ↦ λ here. subst (λ (x : Row). is_once (blocks_of (extents_of x)) ≡ true) (one here) (once-left (blocks_of (extents_of e.1)) (named (stored_rows es)) parts)
      | false ↦ λ later. once-at es place r (once-right (blocks_of (extents_of e.1)) (named (stored_rows es)) parts) later
    ] is
  where
    one : {a b : Row} → ◌≡◌ {A = Option Row} (Some a) (Some b) → a ≡ b
    one e = cc

-- ---- the file of a row

pub file-back : (o : Option (File Text)) (fl : File ℕ) → option_map (on_file length) o ≡ Some fl → (x : File Text) × (o ≡ Some x) × (fl ≡ on_file length x)
file-back None fl is = absurd (none_some is)
  where
    none_some : ◌≡◌ {A = Option (File ℕ)} None (Some fl) → ⊥
    none_some e = cc
file-back (Some x) fl is = (x, refl, sym (one is))
  where
    one : {a b : File ℕ} → ◌≡◌ {A = Option (File ℕ)} (Some a) (Some b) → a ≡ b
    one e = cc

-- What is known of a file whose lock is given: its blocks have its bytes, each once.
pub record IsGivenFile {D : Type 0} (w : DiskWords D) (s : State Text Own) (l : Ledger D) (p : OpenPages) (place : Place) : Type 0 where
  pub bytes_are : Text
  pub present : bytes_at s place ≡ bytes_are
  pub extents_are : List Extent
  pub extents : file_extents (tree_in l) place ≡ extents_are
  pub room : length bytes_are ≤ room_of extents_are
  pub told : w.tells → bytes_of (w.content l.journal.disk) p.base extents_are (length bytes_are) ≡ bytes_are
  pub once : IsDistinct nat_eq (blocks_of extents_are)
  pub count : length (blocks_of extents_are) ≡ blocks (length bytes_are)
  pub file : File Text
  pub there : file_at s place ≡ Some file
  pub size : length file.present ≡ length bytes_are

module _ (states : StateLaws) {D : Type 0} (w : DiskWords D) (stored : FilesAreStored w) where
  pub given-file : (f : Fixed D) (recorded : Built) (base : State Text Own) (gone : List Text) (l : Ledger D) (p : OpenPages) → AreHeldAt w f recorded base gone l p → HasCleared w.tells f.opening l.books.history base gone
      → lines_of (tree_in l) ≡ (machine_in l).rows → (place : Place) (fl : File ℕ) → file_at (machine_in l) place ≡ Some fl → (want : Want) → is_some (taken want fl.lock) ≡ true → IsGivenFile w (fold evicted base gone) l p place
  given-file f recorded base gone l p held cleared lines place fl there want given =
      let s = fold evicted base gone in
      let back = file-back (file_at s place) fl (sym (file-on length outline_of s place) ∙ (sym (ap (λ (m : Machine). file_at m place) held.books.machine) ∙ there)) in
      let x = back.0 in
      let at = stored f recorded base gone l p held cleared lines place x back.1 in
      let r = at.row in
      let same : x.present ≡ x.durable = locked-stored states w.tells f.opening l.books.history base gone held.books.whole cleared place x back.1 want (ap (λ (y : File ℕ). is_some (taken want y.lock)) (sym back.2) ∙ given) in
      let size : r.length ≡ length x.present = at.size ∙ ap length (sym same) in
      let there_row = row-of (row_at place (tree_in l)) r at.there in
      record {
        bytes_are = x.present;
        present = ap bytes_in back.1;
        extents_are = r.extents;
        extents = ap extents_in there_row;
        room = omega (arith, size, room-count r.extents, at.sound.whole);
        told = λ t. ap (λ (n : ℕ). bytes_of (w.content l.journal.disk) p.base r.extents n) (sym size) ∙ (at.bytes t ∙ sym same);
        once = distinct (blocks_of r.extents) (once-at (tree_in l) place (row.File r) held.books.stored.sound.once there_row);
        count = length-blocks r.extents ∙ (at.sound.whole ∙ ap blocks size);
        file = x;
        there = back.1;
        size = refl;
      }

-- ---- trees whose files' locks alone changed

same-blocks : (keep : TreesKeepBlocks) (t : Tree) (place : Place) (want : Want) → IsInOrder t → IsInOrder (change_at place (locked want) t) → HasSameBlocks t (change_at place (locked want) t)
same-blocks keep t place want order after = keep.same t (change_at place (locked want) t) order after (λ f b. keep.changed place (locked want) t (λ x. refl) f b)

all-same : (t : Tree) → HasSameBlocks t t
all-same t = record { named = λ b. refl; has = λ f b. refl }

-- ---- the row that is made

none-distinct : IsDistinct nat_eq []
unfolding IsDistinct
none-distinct = tt

pub number-of : (n : ℕ) → n + 1 ≡ suc n
number-of n = omega arith

open-row : (after : State Text Own) (k n : ℕ) (r : Own) → own_of (agent_of after k) n ≡ Some r → open_at (in_lengths_of after) k n ≡ if_open (Some (outline_of r))
open-row after k n r is =
    ap (λ (a : Agent Outline). if_open (own_of a n)) (agent-on length outline_of after k)
    ∙ (ap if_open (own-on outline_of (agent_of after k) n) ∙ ap (λ (o : Option Own). if_open (option_map outline_of o)) is)

-- A call that is not refused has its effect.
pub done-effect : (s : State Text Own) (k : ℕ) (o : Op) (r : Reply) → is_refusal r ≡ false → after_reply s k o r ≡ counted (effect in_bytes s (sizes_of s k o) k o) k
done-effect s k o r done = ap (λ b. counted (elim b as (λ x. State Text Own) [ true ↦ refused s k o | false ↦ effect in_bytes s (sizes_of s k o) k o ]) k) done

writable-limits : (s : State Text Own) (k : ℕ) (at : Locator) (keep : Bool) (x : File Text) → file_at s (place_of at) ≡ Some x
    → (effect in_bytes s (sizes_of s k (op.CreateWritable at keep)) k (op.CreateWritable at keep)).limits ≡ s.limits
unfolding effect
writable-limits s k at keep x there = ap (λ (o : Option (File Text)). (opens_stream in_bytes s k (place_of at) (first_reserve in_bytes s at keep) keep o).limits) there

sync-limits : (s : State Text Own) (k : ℕ) (at : Locator) (m : Mode)
    → (effect in_bytes s (sizes_of s k (op.CreateSyncAccessHandle at m)) k (op.CreateSyncAccessHandle at m)).limits ≡ s.limits
unfolding effect
sync-limits s k at m = refl

pub sync-bytes : (s : State Text Own) (k : ℕ) (at : Locator) (m : Mode) → bytes_at (effect in_bytes s (sizes_of s k (op.CreateSyncAccessHandle at m)) k (op.CreateSyncAccessHandle at m)) (place_of at) ≡ bytes_at s (place_of at)
unfolding effect
sync-bytes s k at m = ap bytes_in (file-changed s (place_of at) (with_lock (want_of m))) ∙ present-same (file_at s (place_of at))
  where
    present-same : (o : Option (File Text)) → bytes_in (option_map (with_lock (want_of m)) o) ≡ bytes_in o
    present-same None = refl
    present-same (Some x) = refl

writable-given : (m : Machine) (z : Sizes) (k : ℕ) (at : Locator) (keep : Bool) (need : Need) → ruling in_lengths m z k (op.CreateWritable at keep) ≡ Ok need → IsGiven m at want.Shared
unfolding ruling
writable-given m z k at keep need is = (writable-told m at keep need is).0

sync-given : (m : Machine) (z : Sizes) (k : ℕ) (at : Locator) (mode : Mode) (need : Need) → ruling in_lengths m z k (op.CreateSyncAccessHandle at mode) ≡ Ok need → IsGiven m at (want_of mode)
unfolding ruling
sync-given m z k at mode need is = sync-told m at mode need is

writable-tree : (m : Machine) (t : Tree) (k : ℕ) (at : Locator) (keep : Bool) (z : Sizes) → tree_by m t k (op.CreateWritable at keep) z None ≡ change_at (place_of at) (locked want.Shared) t
unfolding tree_by
writable-tree m t k at keep z = refl

sync-tree : (m : Machine) (t : Tree) (k : ℕ) (at : Locator) (mode : Mode) (z : Sizes) → tree_by m t k (op.CreateSyncAccessHandle at mode) z None ≡ change_at (place_of at) (locked (want_of mode)) t
unfolding tree_by
sync-tree m t k at mode z = refl

hand : (s : State Text Own) (k : ℕ) (o : Op) → asks_for_row o ≡ true → row_in_hand s k o ≡ next_row s k
unfolding row_in_hand
hand s k o asks = ap (λ b. cond b (length (agent_of s k).own + 1) (row_used o)) asks ∙ number-of (length (agent_of s k).own)

module _ (states : StateLaws) (rows : CallsChangeTheirRow) (keep_blocks : TreesKeepBlocks) {D : Type 0} (w : DiskWords D) (stored : FilesAreStored w)
    (f : Fixed D) (recorded : Built) (base : State Text Own) (gone : List Text) (l : Ledger D) (p new : OpenPages) (k number : ℕ) (answered : Reply) (turn : Bool) (z : Sizes) where
  abbrev pub s : State Text Own
  s = fold evicted base gone

  abbrev pub entry : Op → Entry
  entry o = record { agent = k; number = number; op = o; reply = answered; turn = turn }

  abbrev pub made_row : ℕ
  made_row = next_row s k

  files-by : (o : Op) (place : Place) (want : Want) → MayOpen w f recorded base gone l p new (entry o) z → tree_by (machine_in l) (tree_in l) k o z None ≡ change_at place (locked want) (tree_in l)
      → HasSameFiles (shelf_in recorded.rows l p) (shelf recorded.rows (tree_by (machine_in l) (tree_in l) k o z None) new.swap)
  files-by o place want may is = record {
    recorded = all-same recorded.rows;
    tree = subst (λ (t : Tree). HasSameBlocks (tree_in l) t) (sym is) (same-blocks keep_blocks (tree_in l) place want may.order (subst IsInOrder is may.order_after));
  }

  -- A stream that keeps the file's bytes, and an access handle: the row has the file's pages.
  over-file : (o : Op) (place : Place) → MayOpen w f recorded base gone l p new (entry o) z → opened_extents (tree_in l) o ≡ file_extents (tree_in l) place → opened_bytes s o ≡ bytes_at s place → IsGivenFile w s l p place
      → IsOpenedOver w l p new k made_row (opened_extents (tree_in l) o) (opened_bytes s o)
  over-file o place may extents bytes given =
      let es = extents ∙ given.extents in
      let bs = bytes ∙ given.present in
      record {
        others = may.row.others;
        here = may.row.here;
        pages = may.row.pages;
        room = subst (λ (x : Text). length x ≤ room_of (opened_extents (tree_in l) o)) (sym bs) (subst (λ (xs : List Extent). length given.bytes_are ≤ room_of xs) (sym es) given.room);
        told = λ t. subst (λ (x : Text). bytes_of (w.content l.journal.disk) p.base (opened_extents (tree_in l) o) (length x) ≡ x) (sym bs)
            (subst (λ (xs : List Extent). bytes_of (w.content l.journal.disk) p.base xs (length given.bytes_are) ≡ given.bytes_are) (sym es) (given.told t));
      }

  module _ (at : Locator) (keep : Bool) (may : MayOpen w f recorded base gone l p new (entry (op.CreateWritable at keep)) z) where
    abbrev pub o : Op
    o = op.CreateWritable at keep

    lock : IsGiven (machine_in l) at want.Shared
    lock = writable-given (machine_in l) z k at keep may.answered.change.may.need may.answered.change.may.ruled

    pub given : IsGivenFile w s l p (place_of at)
    given = given-file states w stored f recorded base gone l p may.held may.cleared may.lines (place_of at) lock.file lock.there want.Shared lock.given

    abbrev pub after : State Text Own
    after = after_reply s k o answered

    pub made : own_of (agent_of after k) made_row ≡ Some (own.Stream (record { file = place_of at; buffer = if keep then given.file.present else []; offset = 0; reserve = first_reserve in_bytes s at keep }))
    made = rows.opened s k answered at keep given.file (record { live = may.live; done = may.done }) given.there

    pub buffer-is : (b : Bool) → (if b then given.file.present else []) ≡ (if b then bytes_at s (place_of at) else [])
    buffer-is true = sym (ap bytes_in given.there)
    buffer-is false = refl

    opened-as : open_at (in_lengths_of after) k made_row ≡ Some (outline.Stream (record { file = place_of at; reserve = first_reserve in_bytes s at keep }))
    opened-as = open-row after k made_row _ made

    kept-by : (b : Bool) → length (blocks_of (if b then file_extents (tree_in l) (place_of at) else [])) ≤ first_reserve in_bytes s at b
    kept-by true =
        let count = ap (λ (xs : List Extent). length (blocks_of xs)) given.extents ∙ given.count in
        let size : size_in in_bytes (file_at s (place_of at)) ≡ length given.bytes_are = ap (size_in in_bytes) given.there ∙ given.size in
        omega (arith, count, ap blocks size)
    kept-by false = omega arith

    of-file-by : (b : Bool) (i : ℕ) → has_block (blocks_of (if b then file_extents (tree_in l) (place_of at) else [])) i ≡ true → file_has (tree_in l) (Some (place_of at)) i ≡ true
    of-file-by true i is = is
    of-file-by false i is = absurd (false≢true is)

    once-by : (b : Bool) → IsDistinct nat_eq (blocks_of (if b then file_extents (tree_in l) (place_of at) else []))
    once-by true = subst (λ (xs : List Extent). IsDistinct nat_eq (blocks_of xs)) (sym given.extents) given.once
    once-by false = none-distinct

    over-by : (b : Bool) → keep ≡ b → IsOpenedOver w l p new k made_row (opened_extents (tree_in l) o) (opened_bytes s o)
    over-by true is = over-file o (place_of at) may (ap (λ b. if b then file_extents (tree_in l) (place_of at) else []) is) (ap (λ b. if b then bytes_at s (place_of at) else []) is) given
    over-by false is = record {
      others = may.row.others;
      here = may.row.here;
      pages = may.row.pages;
      room = subst (λ b. length (if b then bytes_at s (place_of at) else []) ≤ room_of (opened_extents (tree_in l) o)) (sym is) (omega arith);
      told = λ t. subst (λ b. bytes_of (w.content l.journal.disk) p.base (opened_extents (tree_in l) o) (length (if b then bytes_at s (place_of at) else [])) ≡ (if b then bytes_at s (place_of at) else [])) (sym is) refl;
    }

    pub writable-opens : HasOpened w recorded s l p new (entry o) z
    writable-opens = record {
      opens = record {
        plain = refl;
        limits = ap (λ (x : State Text Own). x.limits) (done-effect s k o answered may.done) ∙ writable-limits s k at keep given.file given.there;
        live = may.live;
        in_hand = hand s k o refl;
        opened = ap (open_bytes after) made ∙ ap Some (buffer-is keep);
        files = files-by o (place_of at) want.Shared may (writable-tree (machine_in l) (tree_in l) k at keep z);
        once = once-by keep;
        of_file = λ i is. ap (λ (x : Option Outline). file_has (tree_in l) (file_in x) i) opened-as ∙ of-file-by keep i is;
        kept = λ stream. subst (λ (x : Option Outline). length (blocks_of (opened_extents (tree_in l) o)) ≤ reserve_in x) (sym opened-as) (kept-by keep);
      };
      over = over-by keep refl;
    }

  module _ (at : Locator) (mode : Mode) (may : MayOpen w f recorded base gone l p new (entry (op.CreateSyncAccessHandle at mode)) z) where
    abbrev pub q : Op
    q = op.CreateSyncAccessHandle at mode

    sync-lock : IsGiven (machine_in l) at (want_of mode)
    sync-lock = sync-given (machine_in l) z k at mode may.answered.change.may.need may.answered.change.may.ruled

    sync-file : IsGivenFile w s l p (place_of at)
    sync-file = given-file states w stored f recorded base gone l p may.held may.cleared may.lines (place_of at) sync-lock.file sync-lock.there (want_of mode) sync-lock.given

    abbrev pub sync-after : State Text Own
    sync-after = after_reply s k q answered

    pub sync-made : own_of (agent_of sync-after k) made_row ≡ Some (own.Handle (record { file = place_of at; mode = mode; cursor = 0; reserve = 0 }))
    sync-made = rows.sync_opened s k answered at mode (record { live = may.live; done = may.done })

    sync-as : open_at (in_lengths_of sync-after) k made_row ≡ Some (outline.Handle (record { file = place_of at; mode = mode; reserve = 0 }))
    sync-as = open-row sync-after k made_row _ sync-made

    pub sync-opens : HasOpened w recorded s l p new (entry q) z
    sync-opens = record {
      opens = record {
        plain = refl;
        limits = ap (λ (x : State Text Own). x.limits) (done-effect s k q answered may.done) ∙ sync-limits s k at mode;
        live = may.live;
        in_hand = hand s k q refl;
        opened = ap (open_bytes sync-after) sync-made ∙ ap Some (ap (λ (x : State Text Own). bytes_at x (place_of at)) (done-effect s k q answered may.done) ∙ sync-bytes s k at mode);
        files = files-by q (place_of at) (want_of mode) may (sync-tree (machine_in l) (tree_in l) k at mode z);
        once = subst (λ (xs : List Extent). IsDistinct nat_eq (blocks_of xs)) (sym sync-file.extents) sync-file.once;
        of_file = λ i is. ap (λ (x : Option Outline). file_has (tree_in l) (file_in x) i) sync-as ∙ is;
        kept = λ stream. absurd (false≢true (ap is_stream (sym sync-as) ∙ stream));
      };
      over = over-file q (place_of at) may refl refl sync-file;
    }

  abbrev Opened : Op → Type 0
  Opened o = MayOpen w f recorded base gone l p new (entry o) z → HasOpened w recorded s l p new (entry o) z

  none-opens : (o : Op) → opens_row o ≡ false → Opened o
  none-opens o none may = absurd (false≢true (sym none ∙ may.opens))

  pub by-op : (o : Op) → Opened o
  by-op (op.CreateWritable at keep) may = writable-opens at keep may
  by-op (op.CreateSyncAccessHandle at mode) may = sync-opens at mode may
  by-op (op.GetDirectory bucket) may = none-opens (op.GetDirectory bucket) refl may
  by-op (op.GetDirectoryHandle dir name create) may = none-opens (op.GetDirectoryHandle dir name create) refl may
  by-op (op.GetFileHandle dir name create) may = none-opens (op.GetFileHandle dir name create) refl may
  by-op (op.RemoveEntry dir name recursive) may = none-opens (op.RemoveEntry dir name recursive) refl may
  by-op (op.Values dir) may = none-opens (op.Values dir) refl may
  by-op (op.Next n dir) may = none-opens (op.Next n dir) refl may
  by-op (op.Resolve dir entry') may = none-opens (op.Resolve dir entry') refl may
  by-op (op.IsSameEntry entry' other) may = none-opens (op.IsSameEntry entry' other) refl may
  by-op (op.GetFile at) may = none-opens (op.GetFile at) refl may
  by-op (op.Slice n at len) may = none-opens (op.Slice n at len) refl may
  by-op (op.Write n bytes position) may = none-opens (op.Write n bytes position) refl may
  by-op (op.Seek n position) may = none-opens (op.Seek n position) refl may
  by-op (op.Truncate n size) may = none-opens (op.Truncate n size) refl may
  by-op (op.Close n) may = none-opens (op.Close n) refl may
  by-op (op.Abort n) may = none-opens (op.Abort n) refl may
  by-op (op.SyncRead n len at) may = none-opens (op.SyncRead n len at) refl may
  by-op (op.SyncWrite n bytes at) may = none-opens (op.SyncWrite n bytes at) refl may
  by-op (op.SyncTruncate n size) may = none-opens (op.SyncTruncate n size) refl may
  by-op (op.SyncGetSize n) may = none-opens (op.SyncGetSize n) refl may
  by-op (op.SyncFlush n) may = none-opens (op.SyncFlush n) refl may
  by-op (op.SyncClose n) may = none-opens (op.SyncClose n) refl may
  by-op (op.Persist bucket) may = none-opens (op.Persist bucket) refl may
  by-op (op.Persisted bucket) may = none-opens (op.Persisted bucket) refl may
  by-op op.Estimate may = none-opens op.Estimate refl may
  by-op (op.Moment ms) may = none-opens (op.Moment ms) refl may
  by-op (op.Post tag) may = none-opens (op.Post tag) refl may
  by-op (op.Await tag) may = none-opens (op.Await tag) refl may
  by-op (op.Wait tag) may = none-opens (op.Wait tag) refl may
  by-op (op.Discard n) may = none-opens (op.Discard n) refl may
  by-op op.End may = none-opens op.End refl may
  by-op (op.Unbound word) may = none-opens (op.Unbound word) refl may
  by-op (op.Evict unit) may = none-opens (op.Evict unit) refl may

pub calls-open : (states : StateLaws) → CallsChangeTheirRow → TreesKeepBlocks → {D : Type 0} (w : DiskWords D) → FilesAreStored w → CallsOpenRows w
calls-open states rows keep_blocks w stored f recorded base gone l p new e z may = by-op states rows keep_blocks w stored f recorded base gone l p new e.agent e.number e.reply e.turn z e.op may
