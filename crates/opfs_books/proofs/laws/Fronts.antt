-- What a stop may leave of a history, and of a longer one.
use Rattle.std.proofs.Common.{◌≡◌, ℕ, ◌+◌, ◌≤◌, Bool, true, false, List, [], ◌∷◌, ◌++◌, length, take, Option, Some, None, inl, inr, refl, sym, ap, ◌∙◌, subst, append-nil, arith}
use Rattle.std.specs.Prelude.{if◌then◌else◌}
use Rattle.std.proofs.lemmas.Bool.{cases_lt}
use Rattle.std.proofs.lemmas.List.{length-append, take-append-le, take_all}
use Rattle.opfs_commit.specs.Shown.{IsShown}
use Rattle.opfs_commit.proofs.Holding.{shown_least}
use Rattle.opfs_hist.specs.declared.entry.Entry.{Entry}
use Rattle.opfs_laws.specs.Histories.Doubts.{doubted}
use Rattle.opfs_machine.specs.Changes.{changes}
use Rattle.opfs_machine.specs.Openings.{Opening}
use Rattle.opfs_books.specs.Laws.Fronts.{IsRecent, IsShownOnce}

none-some : (n : ℕ) → ◌≡◌ {A = Option ℕ} None (Some n) → ⊥
none-some n h = cc

some-same : (m n : ℕ) → ◌≡◌ {A = Option ℕ} (Some m) (Some n) → m ≡ n
some-same m n h = cc

module _ (o : Opening) where
  -- No entry is recent, and so is the last one.
  pub none-recent : (h : List Entry) (place : Option ℕ) → place ≡ None → IsRecent o h place
  none-recent h place none = record { inside = λ n is. absurd (none-some n (sym none ∙ is)); last = λ n is. absurd (none-some n (sym none ∙ is)) }

  pub last-recent : (h now : List Entry) (e : Entry) (place : Option ℕ) → now ≡ h ++ e ∷ [] → place ≡ Some (length h) → IsRecent o now place
  last-recent h now e place grown at =
      let long : length now ≡ length h + 1 = ap length grown ∙ length-append h (e ∷ []) in
      record {
        inside = λ n is. omega (arith, some-same (length h) n (sym at ∙ is), long);
        last = λ n is. ap (changes o) (take_all (n + 1) now (omega (arith, some-same (length h) n (sym at ∙ is), long)));
      }

  -- One that is recent stays so while nothing more is stored.
  pub still-recent : (h more now : List Entry) (place new : Option ℕ) → IsRecent o h place → now ≡ h ++ more → new ≡ place → changes o now ≡ changes o h → IsRecent o now new
  still-recent h more now place new recent grown same stored =
      let long : length now ≡ length h + length more = ap length grown ∙ length-append h more in
      record {
        inside = λ n is. omega (arith, recent.inside n (sym same ∙ is), long);
        last = λ n is.
            let there = sym same ∙ is in
            let front : take (n + 1) now ≡ take (n + 1) h = ap (take (n + 1)) grown ∙ take-append-le (n + 1) h more (omega (arith, recent.inside n there)) in
            ap (changes o) front ∙ (recent.last n there ∙ sym stored);
      }

  -- What a history shows with what is in doubt of an entry, or with nothing, it shows once.
  pub shown-once : (least : ℕ) (h : List Entry) (place : Option ℕ) (c : List ℕ) → IsRecent o h place → least ≤ length (changes o h) → IsShown o least (changes o h ++ doubted o h place) c → IsShownOnce o least h c
  shown-once least h place c recent full shown =
      let whole : take (length h) h ≡ h = take_all (length h) h (omega arith) in
      record {
        count = length h;
        place = place;
        recent = subst (λ (es : List Entry). IsRecent o es place) (sym whole) recent;
        full = subst (λ (es : List Entry). least ≤ length (changes o es)) (sym whole) full;
        shown = subst (λ (es : List Entry). IsShown o least (changes o es ++ doubted o es place) c) (sym whole) shown;
      }

  told-full : (least : ℕ) (h : List Entry) (c : List ℕ) → IsShown o least (changes o h) c → least ≤ length (changes o h)
  told-full least h c shown =
      let size : length (changes o h) ≡ length shown.shown + length shown.rest = ap length (sym shown.split) ∙ length-append shown.shown shown.rest in
      omega (arith, shown.enough, size)

  pub shown-told : (least : ℕ) (h : List Entry) (c : List ℕ) → IsShown o least (changes o h) c → IsShownOnce o least h c
  shown-told least h c shown =
      shown-once least h None c (none-recent h None refl) (told-full least h c shown) (subst (λ cs. IsShown o least cs c) (sym (append-nil (changes o h))) shown)

  -- So it is with what is in doubt where a gate is.
  pub doubt-once : (least : ℕ) (h : List Entry) (place : Option ℕ) (unsure : Bool) (c : List ℕ) → IsRecent o h place → least ≤ length (changes o h) → IsShown o least (changes o h ++ (if unsure then doubted o h place else [])) c → IsShownOnce o least h c
  doubt-once least h place true c recent full shown = shown-once least h place c recent full shown
  doubt-once least h place false c recent full shown = shown-told least h c (subst (λ cs. IsShown o least cs c) (append-nil (changes o h)) shown)

  -- With less it shows that too, and of a longer history.
  pub once-least : (least less : ℕ) (h : List Entry) (c : List ℕ) → less ≤ least → IsShownOnce o least h c → IsShownOnce o less h c
  once-least least less h c le s = record {
    count = s.count;
    place = s.place;
    recent = s.recent;
    full = omega (arith, le, s.full);
    shown = shown_least o least less (changes o (take s.count h) ++ doubted o (take s.count h) s.place) c le s.shown;
  }

  once-at : (least count : ℕ) (h now : List Entry) (c : List ℕ) (s : IsShownOnce o least h c) → take count now ≡ take s.count h → IsShownOnce o least now c
  once-at least count h now c s same = record {
    count = count;
    place = s.place;
    recent = subst (λ (es : List Entry). IsRecent o es s.place) (sym same) s.recent;
    full = subst (λ (es : List Entry). least ≤ length (changes o es)) (sym same) s.full;
    shown = subst (λ (es : List Entry). IsShown o least (changes o es ++ doubted o es s.place) c) (sym same) s.shown;
  }

  pub once-more : (least : ℕ) (h more : List Entry) (c : List ℕ) → IsShownOnce o least h c → IsShownOnce o least (h ++ more) c
  once-more least h more c s = elim (cases_lt (length h) s.count) [
    | inl lt ↦ once-at least (length h) h (h ++ more) c s (take-append-le (length h) h more (omega arith) ∙ (take_all (length h) h (omega arith) ∙ sym (take_all s.count h (omega (arith, lt)))))
    | inr le ↦ once-at least s.count h (h ++ more) c s (take-append-le s.count h more le)
  ]
