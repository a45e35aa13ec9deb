-- A call of a store makes its history longer, or leaves it.
use Rattle.std.proofs.Common.{◌≡◌, ◌++◌, List, [], sym, ◌∙◌, append-nil}
use Rattle.std.specs.Prelude.{Result, Ok, Err, IfOk, OnErr}
use Rattle.opfs_hist.specs.declared.entry.Entry.{Entry}
use Rattle.opfs_laws.specs.Histories.Opened.{added}
use Rattle.opfs_machine.specs.Openings.{Opening}
use Rattle.opfs_machine.specs.Runs.{Call}
use Rattle.opfs_store.specs.Acts.Acting.{InHand, IsServed, IsUnserved, told_entry}
use Rattle.opfs_store.specs.declared.acts.acted.Acted.{Acted}

pub grown : {E : Type 0} (result : Result Acted E) (tells : Type 0) (o : Opening) (before after : InHand) (c : Call) → IfOk result (λ acted. IsServed tells o before after c acted) → OnErr result (IsUnserved before after)
    → (more : List Entry) × (after.entries ≡ before.entries ++ more)
grown (Ok acted) tells o before after c served unserved = (added before.pending served.acted.gone (told_entry c acted.reply), served.acted.grown)
grown (Err e) tells o before after c served unserved = ([], unserved.entries ∙ sym (append-nil before.entries))
