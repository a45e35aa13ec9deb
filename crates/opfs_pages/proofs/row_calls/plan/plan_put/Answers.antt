use Rattle.std.proofs.Common.{◌≡◌, ◌+◌, ◌*◌, ◌^◌, ◌≤◌, Bool, false, length, sym, ap, subst, ◌∙◌}
use Rattle.opfs_base.specs.Blocks.{blocks}
use Rattle.opfs_blocks.specs.Sets.{Used}
use Rattle.opfs_pages.specs.HistoryLaws.Spaced.{AreSpaced}
use Rattle.opfs_pages.specs.RowCalls.Plans.{shelf, HasTaken}
use Rattle.opfs_data.proofs.CallLemmas.{reads_more}
use Rattle.opfs_pages.proofs.row_calls.Getting.{same-twice, spaced-same, spaced-looked, looked-exact, tried-spaced, lies-same, gotten-by}
use Rattle.opfs_space.specs.Spaces.{SpaceSeen}
use Rattle.opfs_pages.proofs.row_calls.plan.plan_put.Goals as goal

pub returns-in_err-put-clause-left : goal.returns-in_err-put-clause-left
returns-in_err-put-clause-left g c = record {
  pages = c.in_err-put.ensures.pages;
  reads = c.in_err-put.ensures.reads;
  spaced = λ m recorded was.
      subst (AreSpaced m (shelf recorded c.args.planning.now.tree.now.rows c.try_put.new.swap)) (sym c.in_err-put.ensures.err)
      (spaced-same m recorded c.args.planning.now.tree.now.rows c.args.swap.now c.try_put.new.swap c.args.space.now c.args.wanted.now.agent c.args.wanted.now.row c.in_err-put.ensures.pages was);
}

pub returns-then-put-clause-left : goal.returns-then-put-clause-left
returns-then-put-clause-left g c = record {
  pages = c.in_ok-put.ensures.pages;
  reads = c.in_ok-put.ensures.reads;
  spaced = λ m recorded was.
      tried-spaced m recorded c.args.planning.now.tree.now.rows c.args.swap.now c.try_put.new.swap c.args.space.now c.try_put.new.space c.args.wanted.now.agent c.args.wanted.now.row
      0 c.in_ok-put.put.moves c.in_ok-put.put.writes c.args.wanted.now.given.now c.in_ok-put.put.extents.items
      c.in_ok-put.ensures.pages was c.in_ok-put.put.taken c.in_ok-put.ensures.taken;
}

pub returns-then-put-clause-planned : goal.returns-then-put-clause-planned
returns-then-put-clause-planned g c = record {
  staged = c.in_ok-put.ensures.staged;
  ready = c.in_ok-put.ensures.ready;
  count = c.in_ok-put.ensures.count;
  gotten = λ m recorded was fits small.
      gotten-by m recorded c.args.planning.now.tree.now.rows c.args.swap.now c.try_put.new.swap c.args.space.now c.try_put.new.space c.args.wanted.now.agent c.args.wanted.now.row (blocks c.args.wanted.now.size) c.in_ok-put.put.moves c.in_ok-put.put.writes c.args.wanted.now.given.now c.in_ok-put.put.extents.items
      c.in_ok-put.ensures.pages was c.args.planning.now.base (g.D.Disk.size c.args.journal.now.disk) c.in_ok-put.ensures.planned (c.in_ok-put.ensures.ready.count c.args.wanted.now.given.now) fits small c.in_ok-put.put.taken c.in_ok-put.ensures.taken (λ never. absurd (cc (c.if-put.true, never)));
}

pub try_put-requires-2-clause-lies : goal.try_put-requires-2-clause-lies
try_put-requires-2-clause-lies g c =
    lies-same c.args.planning.now.base (g.D.Disk.size c.args.journal.now.disk) (g.D.Disk.size c.try_put.new.journal.disk) c.args.wanted.now.agent c.args.wanted.now.row c.args.swap.now c.try_put.new.swap c.in_ok-put.ensures.pages c.in_ok-put.ensures.reads.stays.length c.requires.may.lies

pub returns-in_err-put-2-clause-left : goal.returns-in_err-put-2-clause-left
returns-in_err-put-2-clause-left g c = record {
  pages = same-twice c.args.wanted.now.agent c.args.wanted.now.row c.args.swap.now c.try_put.new.swap c.try_put-2.new.swap c.in_ok-put.ensures.pages c.in_err-put-2.ensures.pages;
  reads = reads_more g.D.Disk g.met.D.Disk.falls c.args.journal.now c.try_put.new.journal c.try_put-2.new.journal c.in_ok-put.ensures.reads c.in_err-put-2.ensures.reads;
  spaced = λ m recorded was.
      subst (AreSpaced m (shelf recorded c.args.planning.now.tree.now.rows c.try_put-2.new.swap)) (sym c.in_err-put-2.ensures.err)
      (spaced-same m recorded c.args.planning.now.tree.now.rows c.try_put.new.swap c.try_put-2.new.swap c.look_anew.new.space c.args.wanted.now.agent c.args.wanted.now.row c.in_err-put-2.ensures.pages
      (spaced-looked m (shelf recorded c.args.planning.now.tree.now.rows c.try_put.new.swap) c.try_put.new.space c.look_anew.new.space c.look_anew.ensures.used c.look_anew.ensures.own c.look_anew.ensures.found
      (tried-spaced m recorded c.args.planning.now.tree.now.rows c.args.swap.now c.try_put.new.swap c.args.space.now c.try_put.new.space c.args.wanted.now.agent c.args.wanted.now.row
      0 c.in_ok-put.put.moves c.in_ok-put.put.writes c.args.wanted.now.given.now c.in_ok-put.put.extents.items
      c.in_ok-put.ensures.pages was c.in_ok-put.put.taken c.in_ok-put.ensures.taken)));
}

pub returns-clause-left : goal.returns-clause-left
returns-clause-left g c = record {
  pages = same-twice c.args.wanted.now.agent c.args.wanted.now.row c.args.swap.now c.try_put.new.swap c.try_put-2.new.swap c.in_ok-put.ensures.pages c.in_ok-put-2.ensures.pages;
  reads = reads_more g.D.Disk g.met.D.Disk.falls c.args.journal.now c.try_put.new.journal c.try_put-2.new.journal c.in_ok-put.ensures.reads c.in_ok-put-2.ensures.reads;
  spaced = λ m recorded was.
      tried-spaced m recorded c.args.planning.now.tree.now.rows c.try_put.new.swap c.try_put-2.new.swap c.look_anew.new.space c.try_put-2.new.space c.args.wanted.now.agent c.args.wanted.now.row
      0 c.in_ok-put-2.put.moves c.in_ok-put-2.put.writes c.args.wanted.now.given.now c.in_ok-put-2.put.extents.items
      c.in_ok-put-2.ensures.pages
      (spaced-looked m (shelf recorded c.args.planning.now.tree.now.rows c.try_put.new.swap) c.try_put.new.space c.look_anew.new.space c.look_anew.ensures.used c.look_anew.ensures.own c.look_anew.ensures.found
      (tried-spaced m recorded c.args.planning.now.tree.now.rows c.args.swap.now c.try_put.new.swap c.args.space.now c.try_put.new.space c.args.wanted.now.agent c.args.wanted.now.row
      0 c.in_ok-put.put.moves c.in_ok-put.put.writes c.args.wanted.now.given.now c.in_ok-put.put.extents.items
      c.in_ok-put.ensures.pages was c.in_ok-put.put.taken c.in_ok-put.ensures.taken))
      c.in_ok-put-2.put.taken c.in_ok-put-2.ensures.taken;
}

pub returns-clause-planned : goal.returns-clause-planned
returns-clause-planned g c = record {
  staged =
      let again = c.in_ok-put-2.ensures.staged in
      record {
        own = again.own;
        from = again.from;
        content = again.content;
        same = again.same ∙ c.in_ok-put.ensures.pages.same;
        alike = λ t. again.alike t ∙ (c.in_ok-put.ensures.reads.told t).same;
        staged = again.staged;
      };
  ready = c.in_ok-put-2.ensures.ready;
  count = c.in_ok-put-2.ensures.count;
  gotten = λ m recorded was fits small.
      let not_taken : HasTaken false c.args.space.now c.try_put.new.space c.in_ok-put.put.moves c.in_ok-put.put.extents.items =
      subst (λ (t : Bool). HasTaken t c.args.space.now c.try_put.new.space c.in_ok-put.put.moves c.in_ok-put.put.extents.items) c.if-put.false c.in_ok-put.ensures.taken
      in
      let used : c.look_anew.new.space.used ≡ c.args.space.now.used = c.look_anew.ensures.used ∙ ap (λ (s : SpaceSeen). s.used) not_taken.0 in
      let mid : AreSpaced m (shelf recorded c.args.planning.now.tree.now.rows c.try_put.new.swap) c.try_put.new.space =
      tried-spaced m recorded c.args.planning.now.tree.now.rows c.args.swap.now c.try_put.new.swap c.args.space.now c.try_put.new.space c.args.wanted.now.agent c.args.wanted.now.row
      0 c.in_ok-put.put.moves c.in_ok-put.put.writes c.args.wanted.now.given.now c.in_ok-put.put.extents.items
      c.in_ok-put.ensures.pages was c.in_ok-put.put.taken c.in_ok-put.ensures.taken
      in
      let looked = spaced-looked m (shelf recorded c.args.planning.now.tree.now.rows c.try_put.new.swap) c.try_put.new.space c.look_anew.new.space c.look_anew.ensures.used c.look_anew.ensures.own c.look_anew.ensures.found mid in
      let known = looked-exact m (shelf recorded c.args.planning.now.tree.now.rows c.try_put.new.swap) c.try_put.new.space c.look_anew.new.space c.args.wanted.now.agent c.args.wanted.now.row c.look_anew.ensures.found mid in
      gotten-by m recorded c.args.planning.now.tree.now.rows c.try_put.new.swap c.try_put-2.new.swap c.look_anew.new.space c.try_put-2.new.space c.args.wanted.now.agent c.args.wanted.now.row (blocks c.args.wanted.now.size) c.in_ok-put-2.put.moves c.in_ok-put-2.put.writes c.args.wanted.now.given.now c.in_ok-put-2.put.extents.items
      c.in_ok-put-2.ensures.pages looked c.args.planning.now.base (g.D.Disk.size c.args.journal.now.disk) c.in_ok-put-2.ensures.planned (c.in_ok-put-2.ensures.ready.count c.args.wanted.now.given.now) (subst (λ (u : Used). c.args.planning.now.base + 4096 * length u ≤ g.D.Disk.size c.args.journal.now.disk) (sym used) fits)
      (subst (λ (u : Used). length u ≤ 2 ^ 32) (sym used) small) c.in_ok-put-2.put.taken c.in_ok-put-2.ensures.taken (λ waits. known);
}
