use Rattle.std.proofs.Common.{◌≡◌, ◌+◌, drop}
use Rattle.serde_json.specs.View.{view}
use Rattle.opfs_script.specs.Reading.{each_from, after}
use Rattle.opfs_script.specs.Lines.{agent_alone}
use Rattle.opfs_script.proofs.lines.each_alone.Given as goal

abbrev pub invariant-loop-place : goal.invariant-loop-place
invariant-loop-place l = each_from (λ number value. agent_alone number (view value)) 1 l.values ≡ after l.drafts.items (each_from (λ number value. agent_alone number (view value)) (l.place + 1) (drop l.place l.values))
