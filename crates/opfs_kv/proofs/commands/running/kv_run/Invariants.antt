use Rattle.std.proofs.Common.{◌≡◌, ◌-◌, ◌≤◌, length, take}
use Rattle.std.specs.Vec.{vec_capacity}
use Rattle.opfs_kv.proofs.commands.Following.{IsRunning}
use Rattle.opfs_kv.proofs.commands.running.kv_run.Given as goal

abbrev pub invariant-loop-at : goal.invariant-loop-at
invariant-loop-at g l = record {
  within : l.at ≤ length l.ops;
  long : length l.list.items ≡ l.at;
  room : length l.ops ≤ vec_capacity l.list;
  running : IsRunning g.S.Store.tells l.fn.agent l.agent l.fn.kv l.kv (take l.at l.ops) l.list.items;
}

abbrev pub decreases-loop-at : goal.decreases-loop-at
decreases-loop-at g l = length l.ops - l.at
