use Rattle.std.proofs.Common.{◌∙◌}
use Rattle.opfs_transcripts.specs.Told.Reading.{is_evict_line, is_stuck_line, tells_room, tells_stuck}
use Rattle.opfs_judge.proofs.Lining.{told, untold, first_tells, second_tells}
use Rattle.opfs_judge.proofs.settling.tells_room_or_stuck.Goals as goal
use Rattle.opfs_judge.proofs.settling.tells_room_or_stuck.Goals.{then-is_evict_line-via-then-is_evict_line, then-is_evict_line-via-else-is_evict_line+then-is_stuck_line}

pub returns-then-is_evict_line : goal.returns-then-is_evict_line
returns-then-is_evict_line c =
    let text = c.args.text.now in
    let rest = c.loop-rest.rest.now in
    let line = c.split_line.result.0.now in
    let more = c.split_line.result.1.now in
    let split = c.split_line.ensures in
    elim c.then-is_evict_line.branch [
      | then-is_evict_line-via-then-is_evict_line w ↦
          first_tells (tells_room text) (tells_stuck text) (c.loop-rest.invariant.room ∙ told is_evict_line rest line more c.loop-rest-test.ensures split.line split.rest w.if-is_evict_line.ensures)
      | then-is_evict_line-via-else-is_evict_line+then-is_stuck_line w ↦
          second_tells (tells_room text) (tells_stuck text) (c.loop-rest.invariant.stuck ∙ told is_stuck_line rest line more c.loop-rest-test.ensures split.line split.rest w.if-is_stuck_line.ensures)
    ]

pub loop-rest-preserved : goal.loop-rest-preserved
loop-rest-preserved c =
    let rest = c.loop-rest.rest.now in
    let line = c.split_line.result.0.now in
    let more = c.split_line.result.1.now in
    let split = c.split_line.ensures in
    record {
      room = c.loop-rest.invariant.room ∙ untold is_evict_line rest line more c.loop-rest-test.ensures split.line split.rest c.if-is_evict_line.ensures;
      stuck = c.loop-rest.invariant.stuck ∙ untold is_stuck_line rest line more c.loop-rest-test.ensures split.line split.rest c.if-is_stuck_line.ensures;
    }
