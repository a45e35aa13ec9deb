use Rattle.std.proofs.Common.{◌≡◌, ℕ, ◌+◌, ◌-◌, ◌*◌, ◌≤◌, ◌++◌, List, min, length, take, drop, get_or, sym, ap, subst, ◌∙◌, arith}
use Rattle.std.proofs.lemmas.List.{drop_more}
use Rattle.std.proofs.lemmas.Slice.{take-put_mid}
use borrow.Rule.Slice.PartMut.{put_mid}
use Rattle.opfs_base.specs.declared.extents.Extent.{Extent}
use Rattle.opfs_outside.specs.Bytes.{window}
use Rattle.opfs_data.specs.Places.{room_of, bytes_of, run_room, run_place}
use Rattle.opfs_data.proofs.CallLemmas.{reads_more}
use Rattle.opfs_data.proofs.RunLemmas.{read_more, length_part, length_put}
use Rattle.opfs_data.proofs.runs.read_runs.Goals as goal

pub loop-extent-preserved : goal.loop-extent-preserved
loop-extent-preserved g c =
    let laws = g.met.D.Disk in
    let at = c.loop-extent.invariant in
    let es = c.args.extents.now in
    let i = c.loop-extent.extent-index in
    let none : Extent = record { start = 0; count = 0 } in
    let e : Extent = get_or es i none in
    let rest : List Extent = drop (i + 1) es in
    let from : ℕ = c.loop-extent.from in
    let n : ℕ = c.min-count.result in
    let into : List ℕ = c.loop-extent.into in
    let got : List ℕ = c.get.new.into in
    let next = drop_more es i none c.loop-extent-test.true in
    let count : c.from.result ≡ e.count = c.from.ensures in
    let start : c.from-in-loop-extent.result ≡ e.start = c.from-in-loop-extent.ensures in
    let f = c.in_ok-get.ensures in
    let is : n ≡ min (run_room e) (length into - from) = c.min-count.ensures ∙ ap (λ (k : ℕ). min k (length into - from)) (omega (arith, count)) in
    let fits : from + n ≤ length into = omega (arith, is, at.within) in
    let k_is : from + n - from ≡ n = omega arith in
    let size : length got ≡ n = c.get.auto.into ∙ length_part from (from + n - from) into (omega (arith, fits)) ∙ k_is in
    let whole : length (put_mid from (from + n - from) into got) ≡ length into = length_put from (from + n - from) into got (omega (arith, fits)) (omega (arith, size)) in
    let room : length into - from ≤ run_room e + room_of rest = subst (λ (xs : List Extent). length into - from ≤ room_of xs) next at.room in
    let there : run_place c.args.base e ≡ c.args.base + c.from-in-loop-extent.result * 4096 = omega (arith, start) in
    record {
      within = omega (arith, whole, fits);
      room = omega (arith, whole, room, is);
      reads = reads_more g.D.Disk laws.falls c.args.journal.now c.loop-extent.journal c.get.new.self at.reads (record {
        stays = f.stays;
        tail = f.tail;
        format = f.format;
        in_doubt = f.in_doubt;
        later = f.later;
        told = λ told. record { records = f.records told; doubt = f.doubt told; same = f.same told; time = f.time told; moments = f.moments told };
      });
      read = λ told.
          let start_content : g.D.Disk.content c.loop-extent.journal.disk ≡ g.D.Disk.content c.args.journal.now.disk = (at.reads.told told).same in
          let here : got ≡ window (g.D.Disk.content c.args.journal.now.disk) (run_place c.args.base e) n =
          f.bytes told
          ∙ ap (λ (k : ℕ). window (g.D.Disk.content c.loop-extent.journal.disk) (c.args.base + c.from-in-loop-extent.result * 4096) k) size
          ∙ ap (λ (xs : List ℕ). window xs (c.args.base + c.from-in-loop-extent.result * 4096) n) start_content
          ∙ ap (λ (k : ℕ). window (g.D.Disk.content c.args.journal.now.disk) k n) (sym there) in
          let into' : List ℕ = put_mid from (from + n - from) into got in
          subst (λ (k : ℕ). take (from + n) into' ++ bytes_of (g.D.Disk.content c.args.journal.now.disk) c.args.base rest (k - (from + n)) ≡ bytes_of (g.D.Disk.content c.args.journal.now.disk) c.args.base es k) (sym whole)
          (read_more (g.D.Disk.content c.args.journal.now.disk) c.args.base e rest es n from (length into) into into' got is here
          (take-put_mid from (from + n - from) into got (from + n) (omega (arith, size)) at.within)
          (subst (λ (xs : List Extent). take from into ++ bytes_of (g.D.Disk.content c.args.journal.now.disk) c.args.base xs (length into - from) ≡ bytes_of (g.D.Disk.content c.args.journal.now.disk) c.args.base es (length into)) next (at.read told)));
    }
