-- Steady pages of an open row: what the store was given of them at the last call that had the row in hand under the turn
-- still begins as the row's own bytes. This project's own.
use Rattle.std.specs.Prelude.{◌≡◌, ℕ, ◌+◌, ◌*◌, ◌<◌, ◌==◌, nat_lt, Bool, true, false, not, ◌&&◌, ◌||◌, List, [], ◌∷◌, length, take, drop, Option, Some, None}
use Rattle.opfs_base.specs.Texts.{Text, same_text}
use Rattle.opfs_hist.specs.Sums.{asks_for_row}
use Rattle.opfs_hist.specs.declared.entry.Entry.{Entry}
use Rattle.opfs_hist.specs.declared.op.Op.{Op}
use Rattle.opfs_machine.specs.declared.own.Own.{Own}
use Rattle.opfs_machine.specs.declared.own.Own.TheVariants as own
use Rattle.opfs_machine.specs.declared.state.State.{State}
use Rattle.opfs_machine.specs.Agents.{agent_of, own_of}
use Rattle.opfs_machine.specs.Histories.{after_entry}
use Rattle.opfs_machine.specs.Openings.{Opening, begun}
use Rattle.opfs_machine.specs.Replies.{block_bytes, bytes_at, row_named}
use Rattle.opfs_machine.specs.Steps.{is_refusal}

-- The bytes of an open row: a stream's buffer, or the present bytes of an access handle's file; None of any other row.
abbrev pub open_bytes : State Text Own → Option Own → Option Text
open_bytes s (Some (own.Stream w)) = Some w.buffer
open_bytes s (Some (own.Handle h)) = Some (bytes_at s h.file)
open_bytes s r = None

abbrev pub row_bytes : State Text Own → ℕ → ℕ → Option Text
row_bytes s k n = open_bytes s (own_of (agent_of s k) n)

-- The bytes of a page, fewer than a block at the end.
abbrev pub page_in : Text → ℕ → Text
page_in bytes i = take block_bytes (drop (block_bytes * i) bytes)

abbrev pub has_page : Option Text → ℕ → Bool
has_page None i = false
has_page (Some bytes) i = nat_lt (block_bytes * i) (length bytes)

-- Whether the first bytes are a front of the second.
abbrev pub is_front : Text → Text → Bool
is_front a b = same_text a (take (length a) b)

-- Whether what was known of a page still tells it: the page is there, and its bytes are a front of those that it had.
abbrev pub goes_on : Option Text → Option Text → ℕ → Bool
goes_on (Some old) (Some new) i = nat_lt (block_bytes * i) (length new) && is_front (page_in new i) (page_in old i)
goes_on (Some old) None i = false
goes_on None new i = false

-- Whether a call has the own row of a number in hand: it names the row, or makes it. No row has the number 0.
abbrev pub concerns : State Text Own → ℕ → ℕ → Op → Bool
concerns s k n op = not (n == 0) && (row_named op == n || (asks_for_row op && (length (agent_of s k).own + 1 == n)))

-- Whether an entry settles the row: it was made under the turn, was not refused, and had the row in hand.
abbrev pub settles : State Text Own → ℕ → ℕ → Entry → Bool
settles s k n e = e.turn && not (is_refusal e.reply) && (e.agent == k && concerns s k n e.op)

abbrev pub steady_by : Bool → Bool → Option Text → Option Text → ℕ → Bool
steady_by true was old new i = has_page new i
steady_by false was old new i = was && goes_on old new i

abbrev pub steady_from : State Text Own → Bool → ℕ → ℕ → ℕ → List Entry → Bool
steady_from s was k n i [] = was
steady_from s was k n i (e ∷ es) =
    steady_from (after_entry s e) (steady_by (settles s k n e) was (row_bytes s k n) (row_bytes (after_entry s e) k n) i) k n i es

-- Whether a page of an agent's own row is steady after a history.
abbrev pub is_steady : Opening → List Entry → ℕ → ℕ → ℕ → Bool
is_steady o h k n i = steady_from (begun o) false k n i h

-- What is known of a page begins as the row's bytes there.
abbrev pub BeginsAs : Option Text → ℕ → Text → Type 0
BeginsAs None i page = ⊥
BeginsAs (Some bytes) i page = (block_bytes * i < length bytes) × (take (length (page_in bytes i)) page ≡ page_in bytes i)
