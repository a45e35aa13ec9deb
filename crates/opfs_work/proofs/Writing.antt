-- A write that first marks the pages that it changes, and then wakes the page of the end.
use Rattle.std.proofs.Common.{◌≡◌, ℕ, ◌+◌, ◌*◌, ◌/◌, ◌%◌, ◌≤◌, ◌<◌, true, min, List, length, sym, ap, ◌∙◌, arith}
use Rattle.opfs_base.specs.Blocks.{blocks}
use Rattle.opfs_work.specs.declared.pages.Page.{Page}
use Rattle.opfs_work.specs.Pages.{page_at, byte_at, bytes_of, is_far, is_held, is_changed, one_near, near_count, added, pages_in, CoversFar}
use Rattle.opfs_work.specs.Works.{WorkingCopy, IsStored, IsTouched, IsNearWrite, contents}
use Rattle.opfs_work.proofs.Holding.{added_same}
use Rattle.opfs_work.proofs.Changing.{IsOver, bytes_alike, near_alike, in_write, still_stored}

pub record IsMarked (old new : WorkingCopy) (from to : ℕ) : Type 0 where
  pub kept : (k : ℕ) → old.changed_from ≤ k → k < old.changed_to → (new.changed_from ≤ k) × (k < new.changed_to)
  pub added : (k : ℕ) → from < to → from < 4096 * k + 4096 → 4096 * k < to → (new.changed_from ≤ k) × (k < new.changed_to)
  pub rest : new ≡ record old { changed_from = new.changed_from; changed_to = new.changed_to }

-- The same up to a number that is another one's.
pub marks_to : (from at n m : ℕ) (new : WorkingCopy) → n ≡ m → ((k : ℕ) → from < at + n → from < 4096 * k + 4096 → 4096 * k < at + n → (new.changed_from ≤ k) × (k < new.changed_to))
    → (k : ℕ) → from < at + m → from < 4096 * k + 4096 → 4096 * k < at + m → (new.changed_from ≤ k) × (k < new.changed_to)
marks_to from at n m new same added k some above below = added k (omega arith) above (omega arith)

pub record IsWoken (old new : WorkingCopy) (to : ℕ) : Type 0 where
  pub bytes : (far : ℕ → ℕ) (i : ℕ) → byte_at far new.pages i ≡ byte_at far old.pages i
  pub alike : (k : ℕ) → (is_far (page_at new.pages k) ≡ is_far (page_at old.pages k)) × (one_near (page_at new.pages k) ≡ one_near (page_at old.pages k))
  pub others : (k : ℕ) → (old.length < to → 0 < old.length % 4096 → k ≡ old.length / 4096 → ⊥) → page_at new.pages k ≡ page_at old.pages k
  pub awake : old.length < to → 0 < old.length % 4096 → is_held (page_at new.pages (old.length / 4096)) ≡ is_far (page_at old.pages (old.length / 4096))
  pub near : near_count new.pages ≡ near_count old.pages
  pub rest : new ≡ record old { pages = new.pages }

-- both one after the other
pub record IsReady (old new : WorkingCopy) (from to end : ℕ) : Type 0 where
  pub bytes : (far : ℕ → ℕ) (i : ℕ) → byte_at far new.pages i ≡ byte_at far old.pages i
  pub alike : (k : ℕ) → (is_far (page_at new.pages k) ≡ is_far (page_at old.pages k)) × (one_near (page_at new.pages k) ≡ one_near (page_at old.pages k))
  pub others : (k : ℕ) → (old.length < to → 0 < old.length % 4096 → k ≡ old.length / 4096 → ⊥) → page_at new.pages k ≡ page_at old.pages k
  pub awake : old.length < to → 0 < old.length % 4096 → is_held (page_at new.pages (old.length / 4096)) ≡ is_far (page_at old.pages (old.length / 4096))
  pub near : near_count new.pages ≡ near_count old.pages
  pub length_is : new.length ≡ old.length
  pub reserve_is : new.reserve ≡ old.reserve
  pub kept : (k : ℕ) → old.changed_from ≤ k → k < old.changed_to → (new.changed_from ≤ k) × (k < new.changed_to)
  pub added : (k : ℕ) → from < end → from < 4096 * k + 4096 → 4096 * k < end → (new.changed_from ≤ k) × (k < new.changed_to)

pub wake_marked : (old mid : WorkingCopy) (from to at : ℕ) → IsMarked old mid from to → from ≡ min old.length at → at ≤ to → mid.length < at → 0 < mid.length % 4096
    → (mid.changed_from ≤ mid.length / 4096) × (mid.length / 4096 < mid.changed_to)
wake_marked old mid from to at m from_is ends gap part =
    let lengths : mid.length ≡ old.length = ap (λ (w : WorkingCopy). w.length) m.rest in
    m.added (mid.length / 4096) (omega arith) (omega arith) (omega arith)

pub ready : (old mid new : WorkingCopy) (from to end : ℕ) → IsMarked old mid from end → IsWoken mid new to → IsReady old new from to end
ready old mid new from to end m w =
    let pages : mid.pages ≡ old.pages = ap (λ (w : WorkingCopy). w.pages) m.rest in
    let lengths : mid.length ≡ old.length = ap (λ (w : WorkingCopy). w.length) m.rest in
    let first : new.changed_from ≡ mid.changed_from = ap (λ (w : WorkingCopy). w.changed_from) w.rest in
    let last : new.changed_to ≡ mid.changed_to = ap (λ (w : WorkingCopy). w.changed_to) w.rest in
    record {
      bytes = rw pages at w.bytes;
      alike = rw pages at w.alike;
      others = rw (pages, lengths) at w.others;
      awake = rw (pages, lengths) at w.awake;
      near = rw pages at w.near;
      length_is = ap (λ (w : WorkingCopy). w.length) w.rest ∙ lengths;
      reserve_is = ap (λ (w : WorkingCopy). w.reserve) w.rest ∙ ap (λ (w : WorkingCopy). w.reserve) m.rest;
      kept = rw (← first, ← last) at m.kept;
      added = rw (← first, ← last) at m.added;
    }

pub ready_near : (old new : WorkingCopy) (at len end : ℕ) → IsReady old new (min old.length at) at end → IsNearWrite old at len → IsNearWrite new at len
ready_near old new at len end r is = near_alike old new at len r.length_is r.reserve_is r.alike r.near is

pub ready_added : (old new : WorkingCopy) (at len end : ℕ) → IsReady old new (min old.length at) at end → added new.pages at len ≡ added old.pages at len
ready_added old new at len end r = added_same old.pages new.pages at len (λ k. (r.alike k).1)

pub ready_marked : (old new : WorkingCopy) (at len k : ℕ) → IsReady old new (min old.length at) at (at + len) → at / 4096 ≤ k → k < at / 4096 + pages_in at len
    → (new.changed_from ≤ k) × (k < new.changed_to)
ready_marked old new at len k r from below =
    let t : IsTouched old.length at len k = in_write old.length at len k from below in
    r.added k t.some t.begins t.ends

pub ready_over : (old mid : WorkingCopy) (new : List Page) (at len : ℕ) → IsReady old mid (min old.length at) at (at + len)
    → ((k : ℕ) → k < at / 4096 → page_at new k ≡ page_at mid.pages k)
    → ((k : ℕ) → at / 4096 + pages_in at len ≤ k → page_at new k ≡ page_at mid.pages k)
    → ((k : ℕ) → at / 4096 ≤ k → k < at / 4096 + pages_in at len → is_changed (page_at new k) ≡ true)
    → IsOver old.pages mid.pages new old.length at len
ready_over old mid new at len r early late changed = record { early = early; late = late; changed = changed; others = r.others; awake = r.awake }

pub ready_stored : (old mid new : WorkingCopy) (at len k : ℕ) → IsReady old mid (min old.length at) at (at + len) → IsOver old.pages mid.pages new.pages old.length at len
    → length old.pages ≡ blocks old.length → CoversFar old.pages (min old.length at) (at + len) → new.changed_from ≡ mid.changed_from → new.changed_to ≡ mid.changed_to
    → IsStored new k → IsStored old k × (IsTouched old.length at len k → ⊥)
ready_stored old mid new at len k r over lengths covers first last stored =
    still_stored old.pages mid.pages new.pages old.length at len k old.changed_from old.changed_to mid.changed_from mid.changed_to over lengths covers (r.kept k) (λ t. r.added k t.some t.begins t.ends)
    (rw (first, last) at stored)

pub ready_bytes : (far : ℕ → ℕ) (old new : WorkingCopy) (from to end : ℕ) → IsReady old new from to end → contents far new ≡ contents far old
ready_bytes far old new from to end r = ap (bytes_of far new.pages) r.length_is ∙ bytes_alike far old.pages new.pages old.length (r.bytes far)

pub plus_none : (n : ℕ) → n + 0 ≡ n
plus_none n = omega arith

pub less_min : (a b : ℕ) → a < b → min a b ≡ a
less_min a b less = omega arith

-- a cut leaves what a store has of each page that stays
pub shrunk_stored : (old new : WorkingCopy) (size k : ℕ) → size ≤ old.length → is_held (page_at new.pages k) ≡ is_held (page_at old.pages k) → new ≡ record old { pages = new.pages; length = size }
    → IsStored new k → IsStored old k × (IsTouched old.length size 0 k → ⊥)
shrunk_stored old new size k less same rest stored =
    let first : new.changed_from ≡ old.changed_from = ap (λ (w : WorkingCopy). w.changed_from) rest in
    let last : new.changed_to ≡ old.changed_to = ap (λ (w : WorkingCopy). w.changed_to) rest in
    (λ above below. sym same ∙ (rw (first, last) at stored) above below, λ t. omega (arith, t.some))
