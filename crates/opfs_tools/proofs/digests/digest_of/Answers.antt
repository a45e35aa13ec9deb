use Rattle.std.proofs.Common.{ℕ, ◌+◌, ◌*◌, ◌≤◌, ◌≡◌, List, drop, get_or, min, ap, subst, ◌∙◌, ◌++◌, arith}
use Rattle.std.proofs.lemmas.List.{drop_more}
use Rattle.sha2.specs.Hashers.{Holds256}
use Rattle.opfs_base.specs.declared.extents.Extent.{Extent}
use Rattle.opfs_outside.specs.Bytes.{window}
use Rattle.opfs_data.specs.Places.{room_of, run_room, run_place}
use Rattle.opfs_data.proofs.CallLemmas.{reads_more}
use Rattle.opfs_tools.proofs.Digesting.{run_more}
use Rattle.opfs_tools.proofs.digests.digest_of.Goals as goal

pub loop-extent-preserved : goal.loop-extent-preserved
loop-extent-preserved g c =
    let laws = g.met.D.Disk in
    let at = c.loop-extent.invariant in
    let es : List Extent = c.args.extents.now in
    let i = c.loop-extent.extent-index in
    let none : Extent = record { start = 0; count = 0 } in
    let e : Extent = get_or es i none in
    let rest : List Extent = drop (i + 1) es in
    let left : ℕ = c.loop-extent.left in
    let n : ℕ = c.min-count.result in
    let content : List ℕ = g.D.Disk.content c.args.journal.now.disk in
    let next = drop_more es i none c.loop-extent-test.true in
    let count : c.from.result ≡ e.count = c.from.ensures in
    let start : c.from-in-loop-extent.result ≡ e.start = c.from-in-loop-extent.ensures in
    let is : n ≡ min (run_room e) left = c.min-count.ensures ∙ ap (λ (k : ℕ). min k left) (omega (arith, count)) in
    let room : left ≤ run_room e + room_of rest = subst (λ (xs : List Extent). left ≤ room_of xs) next at.room in
    let there : c.args.base + c.from-in-loop-extent.result * 4096 ≡ run_place c.args.base e = omega (arith, start) in
    let f = c.in_ok-add_bytes.ensures in
    record {
      room = omega (arith, room, is);
      reads = reads_more g.D.Disk laws.falls c.args.journal.now c.loop-extent.journal c.add_bytes.new.journal at.reads f.reads;
      held = λ told.
          let h = at.held told in
          let same : g.D.Disk.content c.loop-extent.journal.disk ≡ content = (at.reads.told told).same in
          let bytes : window (g.D.Disk.content c.loop-extent.journal.disk) (c.args.base + c.from-in-loop-extent.result * 4096) n ≡ window content (run_place c.args.base e) n
          = ap (λ (x : List ℕ). window x (c.args.base + c.from-in-loop-extent.result * 4096) n) same ∙ ap (λ (k : ℕ). window content k n) there in (
            h.0 ++ window content (run_place c.args.base e) n,
            subst (λ (x : List ℕ). Holds256 c.add_bytes.new.hasher x) (ap (λ (x : List ℕ). h.0 ++ x) bytes) (f.added told h.0 h.1),
            run_more content h.0 c.args.base e rest (drop i es) es n left c.args.len next is h.2,
          );
    }
