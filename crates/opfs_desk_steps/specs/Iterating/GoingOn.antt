-- How long it is known what an iterator has given. This project's own.
use Rattle.std.specs.Prelude.{◌≡◌, ◌⊎◌, ◌++◌, false, List, Some}
use Rattle.opfs_store.specs.Acts.Acting.{IsActed, IsGift}
use Rattle.opfs_store.specs.Acts.Asking.{MayAct}
use Rattle.opfs_store.specs.declared.acts.acted.Gift.TheVariants as gift
use Rattle.opfs_base.specs.Texts.{Text}
use Rattle.opfs_base.specs.declared.locator.Locator.{Locator}
use Rattle.opfs_data.specs.Rows.{IsOther}
use Rattle.opfs_hist.specs.declared.entry.Entry.{Entry}
use Rattle.opfs_hist.specs.declared.reply.Reply.{Reply}
use Rattle.opfs_laws.specs.Histories.Unread.{IsTold}
use Rattle.opfs_laws.specs.Whole.{IsWholeOpening}
use Rattle.opfs_machine.specs.Histories.{state_after}
use Rattle.opfs_machine.specs.Openings.{Opening}
use Rattle.opfs_machine.specs.Rows.{children_of}
use Rattle.opfs_machine.specs.Runs.{Call}
use Rattle.opfs_work.specs.Works.{WorkingCopy}
use Rattle.opfs_desk_steps.specs.Iterating.Below.{AreBelow, AreUpTo}
use Rattle.opfs_desk_steps.specs.Iterating.Known.{AreReached, IsAtEnd, Lasts, last_of}
use Rattle.opfs_desk_steps.specs.Iterating.Reached.{HasReached, IsUpTo, asked_row, may_make}

-- All was given up to another name, or all that was given is below this one.
abbrev pub MayReach : Opening → List Entry → List Entry → Call → List Text → Text → Type 0
MayReach o h calls c past name = ((last : Text) × IsUpTo (children_of (state_after o (h ++ calls))) c.op past (Some last)) ⊎ AreBelow name past

-- All was given up to this name, or none of those given is above it.
abbrev pub MayEnd : Opening → List Entry → List Entry → Call → List Text → Text → Type 0
MayEnd o h calls c past name = IsUpTo (children_of (state_after o (h ++ calls))) c.op past (Some name) ⊎ AreUpTo name past

-- Nothing is known of the iterator that a call asks.
abbrev pub IsWithout : Call → Lasts → Type 0
IsWithout c lasts = (k n : _) (last : Text) → last_of k n lasts ≡ Some last → IsOther c.agent (asked_row c.op) k n

pub record IteratorsGoOn (tells : Type 0) : Type 0 where
  -- What is known of an iterator is so for its next call.
  pub found : (o : Opening) (h calls : List Entry) (c : Call) (work : WorkingCopy) (past : List Text) (last : Text) → MayAct tells o h calls c work past
      → HasReached (state_after o h) c.agent (asked_row c.op) last → IsUpTo (children_of (state_after o (h ++ calls))) c.op past (Some last)
  -- It stays so after a call that makes no row and asks another iterator, with its agent's pending calls and its evictions.
  pub stays : (o : Opening) (h calls new : List Entry) (c : Call) (work : WorkingCopy) (past : List Text) (answered : Reply) (lasts : Lasts) → MayAct tells o h calls c work past
      → IsActed tells o h calls c answered new → may_make c.op ≡ false → IsWithout c lasts → AreReached (state_after o h) lasts → AreReached (state_after o new) lasts
  -- A call that gives a child has given all up to it, where all was given up to another name, or all that was given is below it.
  pub given : (o : Opening) (h calls new : List Entry) (c : Call) (work : WorkingCopy) (past : List Text) (answered : Reply) (at : Locator) (name : Text) → IsWholeOpening o → IsTold tells o h
      → MayAct tells o h calls c work past → IsActed tells o h calls c answered new → IsGift tells (state_after o (h ++ calls)) c.op answered (gift.Child at name)
      → MayReach o h calls c past name → HasReached (state_after o new) c.agent (asked_row c.op) name
  -- A next that found no further child has given all up to a name, where all was given up to it, or none of those given is above it.
  pub ended : (o : Opening) (h calls new : List Entry) (c : Call) (work : WorkingCopy) (past : List Text) (answered : Reply) (name : Text) → MayAct tells o h calls c work past
      → IsActed tells o h calls c answered new → IsAtEnd (asked_row c.op) answered → MayEnd o h calls c past name → HasReached (state_after o new) c.agent (asked_row c.op) name
