-- What holds of a disk in memory at any time.
use Rattle.std.specs.Prelude.{◌≡◌, ℕ, ◌+◌, ◌≤◌, ◌≢◌, true, false, List, [], ◌∷◌, length, take, fold, slice_index, slice_set, refl}
use Rattle.std.proofs.Common.{sym, ◌∙◌, inl, inr, arith}
use Rattle.std.proofs.lemmas.Bool.Decides.{nat_tests}
use Rattle.std.proofs.lemmas.List.{length-set, get_or-set_other, take_all}
use Rattle.opfs_outside.specs.Bytes.{Same, Beside}
use Rattle.opfs_memory.specs.Drives.{Event, Idle, Wrote, Synced, over, Platter, after_event, replayed, is_written, IsImage, Drive, content_of, LeftSince}

pub length-over : (c : List ℕ) (at : ℕ) (bytes : List ℕ) → length (over c at bytes) ≡ length c
length-over c at [] = refl
length-over c at (b ∷ bytes) = length-over (slice_set c at b) (at + 1) bytes ∙ length-set c at b

-- beside the range the bytes stay
pub over-beside : (c : List ℕ) (at : ℕ) (bytes : List ℕ) → Same (Beside at (length bytes)) (over c at bytes) c
over-beside c at [] i h = refl
over-beside c at (b ∷ bytes) i (inl below) =
    let ne : i ≢ at = omega arith in
    over-beside (slice_set c at b) (at + 1) bytes i (inl (omega arith)) ∙ get_or-set_other c at i b 0 ne
over-beside c at (b ∷ bytes) i (inr past) =
    let ne : i ≢ at = omega arith in
    over-beside (slice_set c at b) (at + 1) bytes i (inr (omega arith)) ∙ get_or-set_other c at i b 0 ne

pub is_written-beside : (ranges : List (ℕ × ℕ)) (at n i : ℕ) → is_written ranges i ≡ false → Beside at n i → is_written ((at, n) ∷ ranges) i ≡ false
is_written-beside ranges at n i unwritten (inl below) = grind (arith, nat_tests)
is_written-beside ranges at n i unwritten (inr past) = grind (arith, nat_tests)

-- A disk in good order: its contents have one length, and differ only where it was written since.
pub record IsSound (size : ℕ) (p : Platter) : Type 0 where
  pub content : length p.content ≡ size
  pub synced : length p.synced ≡ size
  pub kept : (i : ℕ) → is_written p.written i ≡ false → slice_index p.content i ≡ slice_index p.synced i

pub is_written-more : (ranges : List (ℕ × ℕ)) (at n i : ℕ) → is_written ((at, n) ∷ ranges) i ≡ false → (is_written ranges i ≡ false) × Beside at n i
is_written-more ranges at n i unwritten = grind (arith, nat_tests)

pub sound_after : (size : ℕ) (p : Platter) (e : Event) → IsSound size p → IsSound size (after_event p e)
sound_after size p Idle s = s
sound_after size p (Wrote at bytes true) s = record {
  content = length-over p.content at bytes ∙ s.content;
  synced = s.synced;
  kept = λ i unwritten. let was = is_written-more p.written at (length bytes) i unwritten in over-beside p.content at bytes i was.1 ∙ s.kept i was.0;
}
sound_after size p (Wrote at bytes false) s = record {
  content = s.content;
  synced = s.synced;
  kept = λ i unwritten. let was = is_written-more p.written at (length bytes) i unwritten in s.kept i was.0;
}
sound_after size p Synced s = record { content = s.content; synced = s.content; kept = λ i unwritten. refl }

pub sound_replayed_from : (size : ℕ) (p : Platter) (log : List Event) → IsSound size p → IsSound size (fold after_event p log)
sound_replayed_from size p [] s = s
sound_replayed_from size p (e ∷ log) s = sound_replayed_from size (after_event p e) log (sound_after size p e s)

pub sound_replayed : (first : List ℕ) (log : List Event) → IsSound (length first) (replayed first log)
sound_replayed first log = sound_replayed_from (length first) (record { content = first; synced = first; written = [] }) log (record { content = refl; synced = refl; kept = λ i unwritten. refl })

pub drive_full : (d : Drive) → length (content_of d) ≡ length d.first
drive_full d = (sound_replayed d.first d.log).content

pub drive_whole : (d : Drive) (t : ℕ) (c : List ℕ) → LeftSince d t c → length c ≡ length d.first
drive_whole d t c left = left.image.size ∙ (sound_replayed d.first (take left.at d.log)).synced

pub drive_falls : (d : Drive) (t u : ℕ) (c : List ℕ) → t ≤ u → LeftSince d u c → LeftSince d t c
drive_falls d t u c le left = record { at = left.at; from = omega (arith, le, left.from); to = left.to; image = left.image }

pub image_of_content : (size : ℕ) (p : Platter) → IsSound size p → IsImage p p.content
image_of_content size p s = record { size = s.content ∙ sym s.synced; kept = s.kept }

pub drive_reads : (d : Drive) → LeftSince d (length d.log) (content_of d)
drive_reads d = record {
  at = length d.log;
  from = omega arith;
  to = omega arith;
  image = rw (take_all (length d.log) d.log (omega arith)) (image_of_content (length d.first) (replayed d.first d.log) (sound_replayed d.first d.log));
}
