use Rattle.std.proofs.Common.{◌++◌, List, [], ℕ, length, drop, ◌+◌, sym, ap, ◌∙◌, arith}
use Rattle.opfs_data.specs.Placing.{left_blocks}
use Rattle.opfs_data.specs.Writes.{PageWrite, Run, run_writes, writes_of, placed}
use Rattle.std.proofs.lemmas.List.{length-append}
use Rattle.opfs_data.proofs.PlacingLemmas.{runs_left, run_length, none_left, append_nothing, own_at, within_at}
use Rattle.opfs_data.proofs.places.place_runs.Goals as goal

pub place_run-requires-clause-blocks : goal.place_run-requires-clause-blocks
place_run-requires-clause-blocks c =
    let r : Run = c.run-item.result in
    let i : ℕ = c.loop-run.run-index in
    let parts = ap (length {A = PageWrite}) (runs_left [] [] c.args.moves.now i r c.run-item.is c.loop-run-test.true) ∙ length-append (run_writes [] [] r) (writes_of [] [] (drop (i + 1) c.args.moves.now)) in
    omega (arith, parts, run_length [] [] r, c.loop-run.invariant.blocks [] [])

pub loop-run-preserved : goal.loop-run-preserved
loop-run-preserved c =
    let at = c.loop-run.invariant in
    let r : Run = c.run-item.result in
    let i : ℕ = c.loop-run.run-index in
    let moves : List Run = c.args.moves.now in
    let b = c.place_run.ensures in
    record {
      placed_are = λ own given.
          b.placed own given (writes_of own given (drop (i + 1) moves))
          ∙ ap (λ (l : List PageWrite). writes_of own given c.loop-run.runs.items ++ placed l (left_blocks c.args.extents.now c.loop-run.left)) (sym (runs_left own given moves i r c.run-item.is c.loop-run-test.true))
          ∙ at.placed_are own given;
      own = λ own all mine. b.own own (at.own own all mine) (own_at own moves i r c.run-item.is c.loop-run-test.true mine);
      within = λ own given all mine. b.within own given (at.within own given all mine) (within_at own given moves i r c.run-item.is c.loop-run-test.true mine);
      blocks = λ own given.
          let parts = ap (length {A = PageWrite}) (runs_left own given moves i r c.run-item.is c.loop-run-test.true) ∙ length-append (run_writes own given r) (writes_of own given (drop (i + 1) moves)) in
          omega (arith, parts, run_length own given r, at.blocks own given, b.blocks);
      room = omega (arith, b.room, at.room, b.capacity, c.loop-run-test.true);
      start = b.start;
      next = b.next;
    }

pub returns-clause-placed : goal.returns-clause-placed
returns-clause-placed c = λ own given.
    sym (append_nothing (writes_of own given c.loop-run.runs.items))
    ∙ ap (λ (l : List PageWrite). writes_of own given c.loop-run.runs.items ++ placed l (left_blocks c.args.extents.now c.loop-run.left)) (sym (none_left own given c.args.moves.now c.loop-run.run-index (omega (arith, c.loop-run-test.false))))
    ∙ c.loop-run.invariant.placed_are own given
