use Rattle.std.proofs.Common.{◌≡◌, ℕ, ◌+◌, ◌-◌, ◌/◌, ◌<◌, min, List, sym, ap, subst, ◌∙◌, arith}
use Rattle.opfs_pages.specs.Copies.{AreHeld, IsPageOf}
use Rattle.opfs_desk_bytes.specs.Reading.Sources.{pages_of}
use Rattle.opfs_desk_bytes.specs.Reading.Words.{end_of_read}
use Rattle.opfs_desk_bytes.proofs.reading.bytes.read_beside.Goals as goal

-- The last byte of a read.
last-place : (size start len cursor : ℕ) → cursor ≡ end_of_read size start len → start < cursor → (start + min len (size - start) - 1 ≡ cursor - 1) × (0 < min len (size - start))
last-place size start len cursor is some = (omega (arith, is, some), omega (arith, is, some))

pub fill_beside-requires-clause-last : goal.fill_beside-requires-clause-last
fill_beside-requires-clause-last g c = λ some told bytes copy held.
    let before : AreHeld bytes c.args.source.now.work.now (g.D.Disk.content c.args.journal.now.disk) c.args.source.now.base (pages_of c.args.source.now) =
    subst (λ (x : List ℕ). AreHeld bytes c.args.source.now.work.now x c.args.source.now.base (pages_of c.args.source.now)) (c.in_ok-bytes.ensures.reads.told told).same held in
    let place = last-place c.args.source.now.work.now.length c.args.start c.args.len c.cursor_behind-cursor.result (c.cursor_behind-cursor.ensures ∙ ap (λ (n : ℕ). end_of_read n c.args.start c.args.len) c.size.ensures) some in
    subst (λ (n : ℕ). IsPageOf bytes (n / 4096) c.read_row.new.buffer) place.0 (c.in_ok-bytes.ensures.last told bytes copy before place.1)

pub returns-clause-read : goal.returns-clause-read
returns-clause-read g c = record {
  size = c.in_ok-bytes.ensures.size;
  told = c.in_ok-bytes.ensures.read;
  same = c.in_ok-copy.ensures;
  cursor_is = c.cursor_behind-cursor.ensures ∙ ap (λ (n : ℕ). end_of_read n c.args.start c.args.len) c.size.ensures;
  whole = c.in_ok-beside.ensures.whole;
  tail = c.in_ok-beside.ensures.tail;
  page_is = λ told bytes copy held.
      c.in_ok-beside.ensures.read told bytes copy
      (subst (λ (x : List ℕ). AreHeld bytes c.args.source.now.work.now x c.args.source.now.base (pages_of c.args.source.now)) (sym (c.in_ok-bytes.ensures.reads.told told).same) held);
}
