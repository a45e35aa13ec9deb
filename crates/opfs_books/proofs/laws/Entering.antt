-- What an entry leaves of the history, and an entry that stores nothing of the books.
use Rattle.std.proofs.Common.{◌≡◌, ℕ, ◌+◌, ◌<◌, ◌≤◌, false, List, [], ◌∷◌, ◌++◌, fold, length, Option, Some, None, is_some, refl, sym, ap, ◌∙◌, subst, append-nil, arith}
use Rattle.opfs_base.specs.Texts.{Text}
use Rattle.opfs_commit.specs.Images.{AreImages}
use Rattle.opfs_commit.specs.Seen.{KeptBack, committing}
use Rattle.opfs_commit.specs.Trail.{IsTrail}
use Rattle.opfs_hist.specs.declared.entry.Entry.{Entry}
use Rattle.opfs_laws.specs.Histories.Doubts.{doubted}
use Rattle.opfs_laws.proofs.histories.Doubting.{doubt-stays}
use Rattle.opfs_image.specs.Superblock.{area_bytes}
use Rattle.opfs_journal.specs.Seen.{Seen}
use Rattle.opfs_laws.specs.Lengths.Outlines.{in_lengths_of}
use Rattle.opfs_machine.specs.declared.own.Own.{Own}
use Rattle.opfs_machine.specs.declared.state.State.{State}
use Rattle.opfs_machine.specs.Changes.{entry_changes, changes}
use Rattle.opfs_machine.specs.Histories.{state_after}
use Rattle.opfs_machine.specs.Openings.{Opening, begun}
use Rattle.opfs_machine.specs.Steps.{evicted, after_reply}
use Rattle.opfs_outside.specs.declared.disk.Disk.{Ghosts as DiskWords}
use Rattle.opfs_records.specs.Replay.Built.{Built}
use Rattle.opfs_books.specs.Laws.Books.{Fixed, Book, IsToldAt, IsNext, AreCounted, AreFew, HasRoom, account_of, AreBooksAt, AreBooks, is_eviction, roots}
use Rattle.opfs_books.specs.Laws.Laws.{IsEntered, HasRisen, TellsKeepTheBooks}
use Rattle.opfs_books.proofs.laws.Counting.{counted-entry}
use Rattle.opfs_books.proofs.laws.Few.{few-call}
use Rattle.opfs_books.proofs.laws.Fronts.{still-recent}
use Rattle.opfs_books.proofs.laws.Told.{told-state, told-next, next-state, next-reply, next-plain, changes-more}

-- A doubt stays as the history goes on.
pub doubted-more : (o : Opening) (h more : List Entry) (place : Option ℕ) → ((n : ℕ) → place ≡ Some n → n < length h) → doubted o (h ++ more) place ≡ doubted o h place
doubted-more o h more None inside = refl
doubted-more o h more (Some n) inside = doubt-stays (begun o) [] h more n (inside n refl)

module _ {D : Type 0} (w : DiskWords D) (f : Fixed D) (recorded : Built) (base : State Text Own) (gone : List Text) (b new : Book) (j : Seen D) (e : Entry)
    (are : AreBooksAt w f recorded base gone b j) (next : IsNext w.tells base gone e) (entered : IsEntered base gone e b new) where
  abbrev o : Opening
  o = f.opening

  pub state-now : state_after o b.entries ≡ fold evicted base gone
  state-now = told-state w.tells o b.entries base gone are.told

  pub not-eviction : is_eviction e ≡ false
  not-eviction = ap is_some (next-plain w.tells o b.entries base gone are.told e next)

  pub state-new : state_after o new.entries ≡ after_reply (fold evicted base gone) e.agent e.op e.reply
  state-new = ap (state_after o) entered.entries ∙ next-state w.tells o b.entries base gone are.told e next ∙ next-reply w.tells o b.entries base gone are.told e next

  pub told-new : IsToldAt w.tells o new.entries (state_after o new.entries) []
  told-new = subst (λ es. IsToldAt w.tells o es (state_after o es) []) (sym entered.entries) (told-next w.tells o b.entries base gone are.told e next)

  pub machine-new : new.machine ≡ in_lengths_of (fold evicted (state_after o new.entries) [])
  machine-new = entered.machine ∙ ap in_lengths_of (sym state-new)

  pub changes-new : changes o new.entries ≡ changes o b.entries ++ entry_changes (fold evicted base gone) e
  changes-new = ap (changes o) entered.entries ∙ changes-more o b.entries e ∙ ap (λ s. changes o b.entries ++ entry_changes s e) state-now

  pub few-new : roots new.rows ≤ roots b.rows + 1 → AreFew new.entries new.rows
  few-new made = subst (λ es. AreFew es new.rows) (sym entered.entries) (few-call b.entries e not-eviction b.rows new.rows are.few entered.placed made)

  pub counted-new : (now : Seen D) → AreCounted (w.faults f.begun) (w.faults now.disk) b.entries now.in_doubt → HasRisen w f b e now → AreCounted (w.faults f.begun) (w.faults now.disk) new.entries now.in_doubt
  counted-new now are_counted risen =
      subst (λ es. AreCounted (w.faults f.begun) (w.faults now.disk) es now.in_doubt) (sym entered.entries) (counted-entry (w.faults f.begun) (w.faults now.disk) b.entries e now.in_doubt are_counted risen)

  module _ (rows : new.rows ≡ b.rows) (back : new.back ≡ b.back) (place : new.place ≡ b.place) (none : entry_changes (fold evicted base gone) e ≡ []) (risen : HasRisen w f b e j) where
    changes-same : changes o new.entries ≡ changes o b.entries
    changes-same = changes-new ∙ ap (λ cs. changes o b.entries ++ cs) none ∙ append-nil (changes o b.entries)

    doubted-same : doubted o new.entries new.place ≡ doubted o b.entries b.place
    doubted-same = (λ i. doubted o (entered.entries i) (place i)) ∙ doubted-more o b.entries (e ∷ []) b.place are.recent.inside

    account-same : account_of f recorded new ≡ account_of f recorded b
    account-same = λ i. record { opening = f.opening; geometry = f.geometry; told = changes-same i; doubted = doubted-same i; recorded = recorded; rows = rows i }

    pub told_keeps : AreBooks w f recorded new j
    told_keeps = record {
      whole = are.whole;
      limits = are.limits;
      told = told-new;
      machine = machine-new;
      few = few-new (omega (arith, ap roots rows));
      images = λ t. subst (λ a. AreImages w a (committing j new.back)) (sym account-same) (subst (λ k. AreImages w (account_of f recorded b) (committing j k)) (sym back) (are.images t));
      trail = λ t steady. subst (λ cs. IsTrail w o cs f.begun j.disk) (sym changes-same) (are.trail t steady);
      recent = still-recent o b.entries (e ∷ []) new.entries b.place new.place are.recent entered.entries place changes-same;
      counted = counted-new j are.counted risen;
      areas = are.areas;
      spare = subst (λ (k : KeptBack). k.room ≤ j.spare) (sym back) are.spare;
      room = subst (λ (k : KeptBack). area_bytes f.geometry ≤ k.room) (sym back) are.room;
      stored = subst (λ (x : Built). HasRoom f.geometry x) (sym rows) are.stored;
      most = subst (λ (k : KeptBack). k.count < 64) (sym back) are.most;
    }

pub tells-keep : {D : Type 0} (w : DiskWords D) → TellsKeepTheBooks w
tells-keep w f recorded base gone b new j e are next entered rows back place none risen = told_keeps w f recorded base gone b new j e are next entered rows back place none risen
