-- How steady pages go on. This project's own.
use Rattle.std.specs.Prelude.{◌≡◌, ◌≢◌, ℕ, true, false, List, [], ◌∷◌, ◌++◌, All, map, IsTrue}
use Rattle.opfs_base.specs.Texts.{Text}
use Rattle.opfs_hist.specs.declared.entry.Entry.{Entry}
use Rattle.opfs_machine.specs.declared.own.Own.{Own}
use Rattle.opfs_machine.specs.declared.state.State.{State}
use Rattle.opfs_machine.specs.Histories.{Legal, after_entry, state_after}
use Rattle.opfs_machine.specs.Openings.{Opening}
use Rattle.opfs_machine.specs.OwnRows.{mine}
use Rattle.opfs_machine.specs.Runs.{eviction}
use Rattle.opfs_machine.specs.Steps.{is_refusal}
use Rattle.opfs_laws.specs.GoingOn.{ArePending}
use Rattle.opfs_laws.specs.Steady.Steady.{row_bytes, has_page, settles, is_steady, BeginsAs}

-- No entry settles the row.
abbrev pub NoneSettles : State Text Own → ℕ → ℕ → List Entry → Type 0
NoneSettles s k n [] = Unit {0}
NoneSettles s k n (e ∷ es) = (settles s k n e ≡ false) × NoneSettles (after_entry s e) k n es

-- No entry changes the row's bytes.
abbrev pub BytesStay : State Text Own → ℕ → ℕ → List Entry → Type 0
BytesStay s k n [] = Unit {0}
BytesStay s k n (e ∷ es) = (row_bytes (after_entry s e) k n ≡ row_bytes s k n) × BytesStay (after_entry s e) k n es

pub record SteadyPagesGoOn : Type 0 where
  -- After an entry that settles the row, its pages are steady.
  pub settled : (o : Opening) (h : List Entry) (e : Entry) (k n i : ℕ) → settles (state_after o h) k n e ≡ true
      → is_steady o (h ++ e ∷ []) k n i ≡ has_page (row_bytes (state_after o (h ++ e ∷ [])) k n) i
  -- A steady page is a page of the row.
  pub has : (o : Opening) (h : List Entry) (k n i : ℕ) → is_steady o h k n i ≡ true → has_page (row_bytes (state_after o h) k n) i ≡ true
  -- What is steady after entries that do not settle the row was steady before.
  pub was : (o : Opening) (h more : List Entry) (k n i : ℕ) → NoneSettles (state_after o h) k n more → is_steady o (h ++ more) k n i ≡ true → is_steady o h k n i ≡ true
  -- And what was known of it still begins as the row.
  pub begins : (o : Opening) (h more : List Entry) (k n i : ℕ) (page : Text) → NoneSettles (state_after o h) k n more → is_steady o (h ++ more) k n i ≡ true
      → BeginsAs (row_bytes (state_after o h) k n) i page → BeginsAs (row_bytes (state_after o (h ++ more)) k n) i page
  -- Where the row's bytes stay, so does what is steady.
  pub kept : (o : Opening) (h more : List Entry) (k n i : ℕ) → BytesStay (state_after o h) k n more → is_steady o h k n i ≡ true → is_steady o (h ++ more) k n i ≡ true

-- In states that are alike to the agent, its rows have the same bytes. So entries of others leave them, and settle none.
pub record OthersLeaveARow : Type 0 where
  pub alike : (s t : State Text Own) (k n : ℕ) → mine s k ≡ mine t k → row_bytes s k n ≡ row_bytes t k n
  pub stay : (o : Opening) (h more rest : List Entry) (k n : ℕ) → Legal o ((h ++ more) ++ rest) → All (λ e. e.agent ≢ k) more
      → BytesStay (state_after o h) k n more × NoneSettles (state_after o h) k n more

pub record OnlyItsOwnCallsSettleARow : Type 0 where
  -- Local calls that are not entered yet had no turn.
  pub pending : (s : State Text Own) (k n j : ℕ) (es : List Entry) → ArePending s j es → NoneSettles s k n es
  -- Entries of other agents.
  pub others : (s : State Text Own) (k n : ℕ) (e : Entry) → e.agent ≢ k → settles s k n e ≡ false
  -- Refused calls.
  pub refused : (s : State Text Own) (k n : ℕ) (e : Entry) → IsTrue (is_refusal e.reply) → settles s k n e ≡ false
  -- Evictions.
  pub evictions : (s : State Text Own) (k n : ℕ) (gone : List Text) → NoneSettles s k n (map eviction gone)
