use Rattle.std.proofs.Common.{◌≡◌, ◌+◌, ◌≤◌, ◌++◌, take, replicate, vec_len, vec_capacity}
use Rattle.opfs_data.specs.Pages.{blank}
use Rattle.opfs_data.proofs.placing.resize.Given as goal

abbrev pub invariant-loop : goal.invariant-loop
invariant-loop l = record {
  items : l.pages.items ≡ take l.count l.fn.pages.items ++ replicate l.counter blank;
  size : vec_len l.pages + l.missing ≡ l.count + l.counter;
  room : l.count ≤ vec_capacity l.pages;
}
