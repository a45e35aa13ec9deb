use Rattle.std.proofs.Common.{rules, ◌∙◌}
use Rattle.opfs_data.specs.Rows.{pages_at}
use Rattle.opfs_pages.proofs.row_calls.Moves.{room-copy, room-held}
use Rattle.opfs_pages.proofs.row_calls.call.plan_call.Goals as goal

pub returns-clause-planned : goal.returns-clause-planned
returns-clause-planned g c =
    let left = c.in_ok-page.ensures.page in
    let wanted = c.args.wanted.now in
    let put = c.in_ok-put.ensures.planned in
    let reads = c.in_ok-page.ensures.reads in
    record {
      put = record {
        staged = record {
          own = put.staged.own;
          from = put.staged.from;
          content = put.staged.content;
          same = put.staged.same;
          alike = λ t. put.staged.alike t ∙ (reads.told t).same;
          staged = put.staged.staged;
        };
        ready = put.ready;
        count = put.count;
        gotten = rw c.in_ok-page.ensures.reads.stays.length at c.in_ok-put.ensures.planned.gotten;
      };
      room = search rules;
      page = record {
        page = λ told bytes copy held.
            left.page told bytes (room-copy bytes c.args.work.now c.prepare.new.self c.prepare.ensures.same copy)
            (room-held bytes c.args.work.now c.prepare.new.self (g.D.Disk.content c.args.journal.now.disk) c.args.planning.now.base (pages_at wanted.agent wanted.row c.args.swap.now) c.prepare.ensures.same held);
        whole = left.whole;
        tail = left.tail;
      };
    }
