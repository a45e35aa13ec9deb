-- What the images show on the way through a call, one step after another.
use Rattle.std.proofs.Common.{◌≡◌, ◌⊎◌, ℕ, ◌+◌, ◌-◌, ◌≤◌, Bool, true, false, if◌then◌else◌, List, [], ◌∷◌, ◌++◌, length, Some, refl, sym, ap, subst, ◌∙◌, inl, inr, append-nil, arith}
use Rattle.std.proofs.lemmas.List.{length-append}
use Rattle.opfs_base.specs.Texts.{Text}
use Rattle.opfs_books.specs.Laws.Books.{Fixed, IsToldAt, AreBooksAt}
use Rattle.opfs_books.specs.Laws.Laws.{told, doubt, ShowsTold, BooksShowTheirImages}
use Rattle.opfs_commit.specs.Shown.{IsShown}
use Rattle.opfs_commit.proofs.Holding.{shown_more, shown_least}
use Rattle.opfs_data.specs.Calls.{Reads}
use Rattle.opfs_hist.specs.declared.entry.Entry.{Entry}
use Rattle.opfs_laws.specs.Histories.Doubts.{doubted, faulted}
use Rattle.opfs_laws.proofs.histories.Doubting.{doubt-next}
use Rattle.opfs_laws.specs.Histories.Opened.{IsOpenAt}
use Rattle.opfs_journal.specs.Seen.{Seen}
use Rattle.opfs_machine.specs.declared.own.Own.{Own}
use Rattle.opfs_machine.specs.declared.state.State.{State}
use Rattle.opfs_machine.specs.Changes.{Change, is_content, floor_from, floor}
use Rattle.opfs_machine.specs.Histories.{IsCall}
use Rattle.opfs_machine.specs.Openings.{Opening, begun}
use Rattle.opfs_outside.specs.Moments.{Elapses, elapses-trans, each_of_both}
use Rattle.opfs_outside.specs.declared.disk.Disk.{Ghosts as DiskWords}
use Rattle.opfs_records.specs.Replay.Built.{Built}
use Rattle.opfs_desk_steps.specs.Parts.Acted.{IsWay, last_doubt}
use Rattle.opfs_desk_steps.specs.Parts.Seen.{book_in}
use Rattle.opfs_desk_steps.specs.declared.parts.parts.Ledger.{Ledger}

-- ---- floors

floor-least : (xs : List Change) (last at : ℕ) → last ≤ at → last ≤ floor_from last at xs
floor-least [] last at within = omega arith
floor-least (x ∷ xs) last at within =
    elim (is_content x) as (λ b. last ≤ elim b as (λ y. ℕ) [ true ↦ floor_from (at + 1) (at + 1) xs | false ↦ floor_from last (at + 1) xs ]) [
      | true ↦ let more = floor-least xs (at + 1) (at + 1) (omega arith) in omega (arith, more, within)
      | false ↦ floor-least xs last (at + 1) (omega (arith, within))
    ]

floor-grows : (xs ys : List Change) (last at : ℕ) → last ≤ at → floor_from last at xs ≤ floor_from last at (xs ++ ys)
floor-grows [] ys last at within = floor-least ys last at within
floor-grows (x ∷ xs) ys last at within =
    elim (is_content x) as (λ b. elim b as (λ y. ℕ) [ true ↦ floor_from (at + 1) (at + 1) xs | false ↦ floor_from last (at + 1) xs ] ≤ elim b as (λ y. ℕ) [ true ↦ floor_from (at + 1) (at + 1) (xs ++ ys) | false ↦ floor_from last (at + 1) (xs ++ ys) ]) [
      | true ↦ floor-grows xs ys (at + 1) (at + 1) (omega arith)
      | false ↦ floor-grows xs ys last (at + 1) (omega (arith, within))
    ]

pub floor-more : (xs ys : List Change) → floor xs ≤ floor (xs ++ ys)
floor-more xs ys = floor-grows xs ys 0 0 (omega arith)

-- ---- ways

elapses-here : {J : Type 0} (moment : J → ℕ) (since : J → ℕ → List ℕ → Type 0) (j : J) → Elapses moment since j j
elapses-here moment since j = record { later = omega arith; split = λ t c within left. inl left; keeps = λ t c within left. left }

-- The disk was not used: nothing but reads.
pub reads-here : {D : Type 0} (w : DiskWords D) (j : Seen D) → Reads w j j
reads-here w j = record {
  stays = record { areas = refl; length = refl; spare = refl };
  tail = refl;
  format = refl;
  in_doubt = refl;
  later = omega arith;
  told = λ t. record { records = refl; doubt = refl; same = refl; time = elapses-here w.moment w.since j.disk; moments = λ c left. left };
}

module _ {D : Type 0} (w : DiskWords D) (f : Fixed D) where
  -- The disk was not used.
  pub way-here : (recorded : Built) (base : State Text Own) (gone : List Text) (old new : Ledger D) (all : List Change) → BooksShowTheirImages w → AreBooksAt w f recorded base gone (book_in old) old.journal → new.journal ≡ old.journal
      → IsWay w f all old new
  way-here recorded base gone old new all rest are same = record {
    later = let e : w.faults new.journal.disk ≡ w.faults old.journal.disk = ap (λ (j : Seen D). w.faults j.disk) same in omega (arith, e);
    time = λ t. subst (λ (j : Seen D). Elapses w.moment w.since old.journal.disk j.disk) (sym same) (elapses-here w.moment w.since old.journal.disk);
    shown = λ t c left. inr (rest f recorded base gone (book_in old) old.journal are t c (subst (λ (j : Seen D). w.since j.disk (w.moment old.journal.disk) c) same left));
  }

  -- The doubt was ended, or the disk was read.
  pub way-settled : (old new : Ledger D) (all : List Change) → w.faults old.journal.disk ≤ w.faults new.journal.disk → (w.tells → Elapses w.moment w.since old.journal.disk new.journal.disk)
      → ShowsTold w f (book_in old) (told f (book_in old) ++ doubt f (book_in old) old.journal) old.journal new.journal → IsWay w f all old new
  way-settled old new all later time shown = record { later = later; time = time; shown = λ t c left. inr (shown t c left) }

  -- A step more, in which each image shows a front of what is told then and some change.
  pub way-then : (falls : w.tells → (d : D) (t u : ℕ) (c : List ℕ) → t ≤ u → w.since d u c → w.since d t c) (old mid new : Ledger D) (more next : List Change) → told f (book_in mid) ≡ told f (book_in old) ++ more
      → IsWay w f (told f (book_in mid)) old mid → w.faults mid.journal.disk ≤ w.faults new.journal.disk → (w.tells → Elapses w.moment w.since mid.journal.disk new.journal.disk)
      → ShowsTold w f (book_in mid) (told f (book_in mid) ++ next) mid.journal new.journal → IsWay w f (told f (book_in mid) ++ next) old new
  way-then falls old mid new more next grown way later time shown = record {
    later = omega (arith, way.later, later);
    time = λ t. elapses-trans w.moment w.since (falls t) old.journal.disk mid.journal.disk new.journal.disk (way.time t) (time t);
    shown = λ t c left.
        each_of_both w.moment w.since (falls t) old.journal.disk mid.journal.disk new.journal.disk
        (λ (x : List ℕ). IsShown f.opening (floor (told f (book_in old))) (told f (book_in mid) ++ next) x ⊎ IsShown f.opening (floor (told f (book_in old))) (told f (book_in old) ++ doubt f (book_in old) old.journal) x)
        (way.time t) (time t)
        (λ x first. elim (way.shown t x first) [
          | inl is ↦ inl (shown_more f.opening (floor (told f (book_in old))) (told f (book_in mid)) next x is)
          | inr is ↦ inr is
        ])
        (λ x second. inl (shown_least f.opening (floor (told f (book_in mid))) (floor (told f (book_in old))) (told f (book_in mid) ++ next) x
        (let least = floor-more (told f (book_in old)) more in let same : floor (told f (book_in mid)) ≡ floor (told f (book_in old) ++ more) = ap floor grown in omega (arith, least, same))
        (shown t x second)))
        c left;
  }

  -- No disk was used since, and more is told, or in doubt.
  pub way-told : (old mid new : Ledger D) (all more : List Change) → IsWay w f all old mid → new.journal ≡ mid.journal → IsWay w f (all ++ more) old new
  way-told old mid new all more way same = record {
    later = let e : w.faults new.journal.disk ≡ w.faults mid.journal.disk = ap (λ (j : Seen D). w.faults j.disk) same in omega (arith, e, way.later);
    time = λ t. subst (λ (j : Seen D). Elapses w.moment w.since old.journal.disk j.disk) (sym same) (way.time t);
    shown = λ t c left. elim (way.shown t c (subst (λ (j : Seen D). w.since j.disk (w.moment old.journal.disk) c) same left)) [
      | inl is ↦ inl (shown_more f.opening (floor (told f (book_in old))) all more c is)
      | inr is ↦ inr is
    ];
  }

  pub way-same : (old new : Ledger D) (all other : List Change) → all ≡ other → IsWay w f all old new → IsWay w f other old new
  way-same old new all other same way = subst (λ (x : List Change). IsWay w f x old new) same way

-- ---- what the last entry leaves in doubt

last-place : (h : List Entry) (e : Entry) → length (h ++ e ∷ []) - 1 ≡ length h
last-place h e = omega (arith, length-append h (e ∷ []))

pub last-doubt : (tells : Type 0) (o : Opening) (h : List Entry) (e : Entry) (base : State Text Own) (gone : List Text) → IsToldAt tells o h base gone → IsCall base gone e → tells → last_doubt o (h ++ e ∷ []) ≡ faulted base gone e
last-doubt tells o h e base gone told call t =
    ap (λ n. doubted o (h ++ e ∷ []) (Some n)) (last-place h e)
    ∙ doubt-next (begun o) [] h base gone e (subst (λ (es : List Entry). IsOpenAt o es base gone) (sym (told.told t)) told.opened) call

-- One way after another, where the first ended the doubt.
module _ {D : Type 0} (w : DiskWords D) (f : Fixed D) (falls : w.tells → (d : D) (t u : ℕ) (c : List ℕ) → t ≤ u → w.since d u c → w.since d t c) where
  pub way-both : (old mid new : Ledger D) (all more : List Change) → IsWay w f (told f (book_in mid)) old mid → told f (book_in mid) ≡ told f (book_in old) → mid.journal.in_doubt ≡ false
      → IsWay w f all mid new → all ≡ told f (book_in mid) ++ more → IsWay w f all old new
  way-both old mid new all more first same sure second grown = record {
    later = omega (arith, first.later, second.later);
    time = λ t. elapses-trans w.moment w.since (falls t) old.journal.disk mid.journal.disk new.journal.disk (first.time t) (second.time t);
    shown = λ t c left.
        each_of_both w.moment w.since (falls t) old.journal.disk mid.journal.disk new.journal.disk
        (λ (x : List ℕ). IsShown f.opening (floor (told f (book_in old))) all x ⊎ IsShown f.opening (floor (told f (book_in old))) (told f (book_in old) ++ doubt f (book_in old) old.journal) x)
        (first.time t) (second.time t)
        (λ x here. elim (first.shown t x here) [
          | inl is ↦ inl (to-all x (shown_more f.opening (floor (told f (book_in old))) (told f (book_in mid)) more x is))
          | inr is ↦ inr is
        ])
        (λ x there. elim (second.shown t x there) [
          | inl is ↦ inl (to-least all x is)
          | inr is ↦ inl (to-all x (shown_more f.opening (floor (told f (book_in old))) (told f (book_in mid)) more x (to-least (told f (book_in mid)) x (without-doubt x is))))
        ])
        c left;
  }
    where
      to-all : (x : List ℕ) → IsShown f.opening (floor (told f (book_in old))) (told f (book_in mid) ++ more) x → IsShown f.opening (floor (told f (book_in old))) all x
      to-all x is = subst (λ (cs : List Change). IsShown f.opening (floor (told f (book_in old))) cs x) (sym grown) is

      to-least : (cs : List Change) (x : List ℕ) → IsShown f.opening (floor (told f (book_in mid))) cs x → IsShown f.opening (floor (told f (book_in old))) cs x
      to-least cs x is = subst (λ (n : ℕ). IsShown f.opening n cs x) (ap floor same) is

      no-doubt : (b : Bool) → b ≡ false → (xs : List Change) → (if b then xs else []) ≡ []
      no-doubt true e xs = cc
      no-doubt false e xs = refl

      without-doubt : (x : List ℕ) → IsShown f.opening (floor (told f (book_in mid))) (told f (book_in mid) ++ doubt f (book_in mid) mid.journal) x → IsShown f.opening (floor (told f (book_in mid))) (told f (book_in mid)) x
      without-doubt x is =
          subst (λ (cs : List Change). IsShown f.opening (floor (told f (book_in mid))) cs x)
          (ap (λ cs. told f (book_in mid) ++ cs) (no-doubt mid.journal.in_doubt sure _) ∙ append-nil (told f (book_in mid))) is

pub way-told-same : {D : Type 0} (w : DiskWords D) (f : Fixed D) (old new : Ledger D) (all other : List Change) → (w.tells → all ≡ other) → IsWay w f all old new → IsWay w f other old new
way-told-same w f old new all other same way = record {
  later = way.later;
  time = way.time;
  shown = λ t c left. elim (way.shown t c left) [
    | inl is ↦ inl (subst (λ (x : List Change). IsShown f.opening (floor (told f (book_in old))) x c) (same t) is)
    | inr is ↦ inr is
  ];
}
