-- The changes of a history build what is stored for good. This project's own.
use Rattle.std.specs.Prelude.{◌≡◌, List, [], IsTrue}
use Rattle.opfs_base.specs.Texts.{Text}
use Rattle.opfs_hist.specs.declared.entry.Entry.{Entry}
use Rattle.opfs_machine.specs.declared.own.Own.{Own}
use Rattle.opfs_machine.specs.declared.state.State.{State}
use Rattle.opfs_machine.specs.Changes.{entry_changes, changes, durable, durable_part}
use Rattle.opfs_machine.specs.Histories.{Legal, state_after}
use Rattle.opfs_machine.specs.Openings.{Opening, begun}
use Rattle.opfs_machine.specs.OwnRows.{is_local}
use Rattle.opfs_machine.specs.Steps.{is_refusal}
use Rattle.opfs_laws.specs.Whole.{IsInOrder, IsClosed, is_rising}

-- An opening whose rows are a map, and whose persistent units are in order.
pub record IsOpeningInOrder (o : Opening) : Type 0 where
  pub order : IsInOrder (begun o).rows
  pub parents : IsClosed (begun o).rows
  pub modes : IsTrue (is_rising (begun o).persistent)

pub record ChangesBuildTheDurablePart : Type 0 where
  -- What the changes of a legal history build from the opening is what its last state has stored.
  pub built : (o : Opening) (h : List Entry) → IsOpeningInOrder o → Legal o h → durable o (changes o h) ≡ durable_part (state_after o h)
  -- A refused entry stores nothing, also one that the disk refused.
  pub refused : (s : State Text Own) (e : Entry) → IsTrue (is_refusal e.reply) → entry_changes s e ≡ []
  -- Nor does a local call.
  pub local : (s : State Text Own) (e : Entry) → IsTrue (is_local s e.agent e.op) → entry_changes s e ≡ []
