use Rattle.std.proofs.Common.{◌≡◌, List, [], ◌∷◌}
use Rattle.opfs_hist.specs.declared.entry.Entry.{Entry}
use Rattle.opfs_examples.proofs.script_runs.a_run_ends_once.Goals as goal

some : (e : Entry) (es : List Entry) → e ∷ es ≡ [] → ⊥
some e es h = cc

pub returns : goal.returns
returns c = λ h. some _ _ h.1.1.1.1.2.2.2
