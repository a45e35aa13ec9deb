-- The swap of one row after its page was written, and written again.
use Rattle.std.proofs.Common.{◌≡◌, ℕ, true, false, is_some, is_err, Option, Some, None, List, [], ◌∷◌, length, get_or, set, refl, sym, ap, subst, ◌∙◌, arith, Result, Ok, Err, OnOk, OnErr}
use Rattle.std.proofs.lemmas.Bool.{false≢true}
use Rattle.std.specs.Prelude.{MatchOption}
use Rattle.opfs_data.specs.declared.page.Page.{Page}
use Rattle.opfs_data.specs.declared.page.SavedPage.{SavedPage}
use Rattle.opfs_data.specs.Places.{AllLie}
use Rattle.opfs_data.specs.Writes.{PageWrite, WriteList, page_writes}
use Rattle.opfs_data.specs.Pages.{resized, runs_of, with_writes, blank, AreSaved, LiesIn}
use Rattle.opfs_data.specs.Rows.{Rows, OthersStay, row_of, pages_at, page_at}
use Rattle.opfs_storage_tests.specs.Data.OneRow.{IsAlone, HasNone, HasOne}

pub ok_holds : {X E : Type 0} (result : Result X E) (P : Type 0) → false ≡ is_err result → OnOk result P → P
ok_holds (Ok x) P never h = h
ok_holds (Err e) P never h = absurd (false≢true never)

pub err_holds : {X E : Type 0} (result : Result X E) (P : Type 0) → true ≡ is_err result → OnErr result P → P
err_holds (Ok x) P is h = absurd (false≢true (sym is))
err_holds (Err e) P is h = h

still_alone : (old mid new : Rows) → IsAlone old → OthersStay 1 1 old mid → OthersStay 1 1 mid new → is_some (row_of 1 1 new) ≡ true → IsAlone new
still_alone old mid new was first second there = record { there = there; alone = λ a r other. second a r other ∙ first a r other ∙ was.alone a r other }

-- the write failed
pub one_left : (old mid new : Rows) → HasOne old → OthersStay 1 1 old mid → OthersStay 1 1 mid new → is_some (row_of 1 1 new) ≡ true → pages_at 1 1 mid ≡ pages_at 1 1 old
    → length (pages_at 1 1 new) ≡ length (pages_at 1 1 mid) → ((j : ℕ) → (page_at 1 1 j new).block ≡ (page_at 1 1 j mid).block) → HasOne new
one_left old mid new was first second there same size blocks = record {
  alone = still_alone old mid new was.alone first second there;
  size = size ∙ ap (λ (ps : List Page). length ps) same ∙ was.size;
  block = blocks 0 ∙ ap (λ (ps : List Page). (get_or ps 0 blank).block) same ∙ was.block;
}

only_page : (w : PageWrite) (pages : List Page) → w.page ≡ 0 → length pages ≡ 1 → with_writes (w ∷ []) (resized 1 pages) ≡ (record { block = Some w.block; kept = None }) ∷ []
only_page w [] at size = absurd (omega (arith, size))
only_page w (p ∷ []) at size = ap (λ (k : ℕ). set (p ∷ []) k (record { block = Some w.block; kept = None })) at
only_page w (p ∷ q ∷ rest) at size = absurd (omega (arith, size))

-- the page was written
pub one_written : (old mid new : Rows) (ws : List PageWrite) (bytes : List ℕ) → HasOne old → OthersStay 1 1 old mid → OthersStay 1 1 mid new → is_some (row_of 1 1 new) ≡ true → pages_at 1 1 mid ≡ pages_at 1 1 old
    → ws ≡ (record { page = 0; block = 0; bytes = bytes }) ∷ [] → pages_at 1 1 new ≡ with_writes ws (resized 1 (pages_at 1 1 mid)) → HasOne new
one_written old mid new ws bytes was first second there same list is =
    let w : PageWrite = record { page = 0; block = 0; bytes = bytes } in
    let now : pages_at 1 1 new ≡ (record { block = Some 0; kept = None }) ∷ [] =
    is ∙ ap (λ (l : List PageWrite). with_writes l (resized 1 (pages_at 1 1 mid))) list
    ∙ only_page w (pages_at 1 1 mid) refl (ap (λ (ps : List Page). length ps) same ∙ was.size) in
    record {
      alone = still_alone old mid new was.alone first second there;
      size = ap (λ (ps : List Page). length ps) now;
      block = ap (λ (ps : List Page). (get_or ps 0 blank).block) now;
    }

-- what is saved whatever the call's bytes are is saved for these
pub saved_for : (o : Option (List SavedPage)) (pages : List Page) (w : WriteList) (given : List ℕ) → MatchOption o ⊥ (λ saved. (g : List ℕ) → AreSaved saved pages (page_writes w g))
    → MatchOption o ⊥ (λ saved. AreSaved saved pages (page_writes w given))
saved_for None pages w given h = h
saved_for (Some saved) pages w given h = h given

first_page : (w : PageWrite) → w.page ≡ 0 → with_writes (w ∷ []) (resized 1 []) ≡ (record { block = Some w.block; kept = None }) ∷ []
first_page w at = ap (λ (k : ℕ). set (blank ∷ []) k (record { block = Some w.block; kept = None })) at

-- the pages after the first write
pub first_pages : (old new : List Page) (ws : List PageWrite) (bytes : List ℕ) → old ≡ [] → ws ≡ (record { page = 0; block = 0; bytes = bytes }) ∷ [] → new ≡ with_writes ws (resized 1 old)
    → new ≡ (record { block = Some 0; kept = None }) ∷ []
first_pages old new ws bytes none list is =
    let w : PageWrite = record { page = 0; block = 0; bytes = bytes } in
    is ∙ ap (λ (l : List PageWrite). with_writes l (resized 1 old)) list ∙ ap (λ (ps : List Page). with_writes (w ∷ []) (resized 1 ps)) none ∙ first_page w refl

-- the first page was written
pub one_first : (old mid new : Rows) (ws : List PageWrite) (bytes : List ℕ) → HasNone old → OthersStay 1 1 old mid → OthersStay 1 1 mid new → is_some (row_of 1 1 new) ≡ true → pages_at 1 1 mid ≡ pages_at 1 1 old
    → ws ≡ (record { page = 0; block = 0; bytes = bytes }) ∷ [] → pages_at 1 1 new ≡ with_writes ws (resized 1 (pages_at 1 1 mid)) → HasOne new
one_first old mid new ws bytes was first second there same list is =
    let now : pages_at 1 1 new ≡ (record { block = Some 0; kept = None }) ∷ [] = first_pages (pages_at 1 1 mid) (pages_at 1 1 new) ws bytes (same ∙ was.pages) list is in
    record {
      alone = still_alone old mid new was.alone first second there;
      size = ap (λ (ps : List Page). length ps) now;
      block = ap (λ (ps : List Page). (get_or ps 0 blank).block) now;
    }

-- block 0 lies in the disk of five blocks
pub one_lies : (ws : List PageWrite) (bytes : List ℕ) (size : ℕ) → ws ≡ (record { page = 0; block = 0; bytes = bytes }) ∷ [] → size ≡ 20480 → AllLie 4096 size (runs_of ws)
one_lies ws bytes size list is = subst (λ (l : List PageWrite). AllLie 4096 size (runs_of l)) (sym list) (omega (arith, is), tt)

pub page_lies : (pages : List Page) (size : ℕ) → pages ≡ (record { block = Some 0; kept = None }) ∷ [] → size ≡ 20480 → LiesIn 4096 size (get_or pages 0 blank).block
page_lies pages size list is = subst (λ (ps : List Page). LiesIn 4096 size (get_or ps 0 blank).block) (sym list) (omega (arith, is))
