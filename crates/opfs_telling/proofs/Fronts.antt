-- The lines of a history that grows.
use Rattle.std.proofs.Common.{◌≡◌, ℕ, ◌+◌, ◌≤◌, List, [], ◌∷◌, ◌++◌, length, drop, inl, inr, refl, sym, ap, subst, ◌∙◌, append_assoc, append-nil, arith, Vec, Global}
use Rattle.std.proofs.lemmas.Grind.{flat_map-append}
use Rattle.std.proofs.lemmas.List.{drop_all, drop-append-le, length-append}
use Rattle.opfs_base.specs.Texts.{Text}
use Rattle.opfs_hist.specs.declared.entry.Entry.{Entry}
use Rattle.opfs_outside.specs.Faults.{Rose}
use Rattle.opfs_outside.specs.Turns.{of_sink, SinkFailed, Took, TookFront}
use Rattle.opfs_outside.specs.declared.stream.Sink.{Ghosts as SinkWords}
use Rattle.opfs_print.specs.Lines.{line_of, text_of}
use Rattle.opfs_telling.specs.Telling.{HasPut, HasToldAll, HasToldFront, IsTold, IsToldBy}
use Rattle.opfs_telling.specs.declared.telling.Progress.{Progress}
use Rattle.opfs_telling.specs.declared.telling.State.{State}
use Rattle.opfs_telling.specs.declared.telling.State.TheVariants as state

-- The lines of what a history had, and of what came behind it.
both-texts : (before more : List Entry) → text_of (before ++ more) ≡ text_of before ++ text_of more
both-texts before more = flat_map-append line_of before more

-- What stands behind so many entries as were told.
pub rest-is : (before more rest : List Entry) (place : ℕ) → rest ≡ drop place (before ++ more) → place ≡ length before → rest ≡ more
rest-is before more rest place given at = given ∙ ap (λ n. drop n (before ++ more)) at ∙ drop-append-le (length before) before more (omega (arith)) ∙ ap (λ x. x ++ more) (drop_all (length before) before (omega (arith)))

rose-since : (a b c : ℕ) → a ≤ b → Rose b c → Rose a c
rose-since a b c le (inl less) = inl (omega (arith, le, less))
rose-since a b c le (inr end) = inr end

module _ {K : Type 0} (w : SinkWords K) (begun : K) where
  -- Nothing was told of no entries.
  none-told : (h : List Entry) (count : ℕ) (waiting : Text) → h ≡ [] → count ≡ 0 → waiting ≡ [] → HasToldAll w begun begun count waiting h
  none-told h count waiting none zero empty = record {
    whole = zero ∙ sym (ap length none);
    front = [];
    took = λ t. sym (append-nil (w.written begun));
    split = ap text_of none ∙ sym empty;
  }

  -- A front stays one.
  front-stays : (now : K) (before more : List Entry) → HasToldFront w begun now before → HasToldFront w begun now (before ++ more)
  front-stays now before more told = (
    told.0 ++ text_of more,
    record {
      front = told.1.front;
      whole = both-texts before more ∙ ap (λ x. x ++ text_of more) told.1.whole ∙ append_assoc told.1.front told.0 (text_of more);
      took = told.1.took;
    },
  )

  -- What was put out of all is a front of more.
  all-is-front : (now : K) (count : ℕ) (waiting : Text) (before more : List Entry) → HasToldAll w begun now count waiting before → HasToldFront w begun now (before ++ more)
  all-is-front now count waiting before more told = (
    waiting ++ text_of more,
    record {
      front = told.front;
      whole = both-texts before more ∙ ap (λ x. x ++ text_of more) told.split ∙ append_assoc told.front waiting (text_of more);
      took = told.took;
    },
  )

  -- Whatever was told, a front of more was.
  front-of : (now : K) (count : ℕ) (waiting : Text) (before more : List Entry) (s : State) → IsToldBy w begun now count waiting before s → HasToldFront w begun now (before ++ more)
  front-of now count waiting before more state.On told = all-is-front now count waiting before more told
  front-of now count waiting before more state.Failed told = front-stays now before more told.0
  front-of now count waiting before more state.Short told = front-stays now before more told

  -- Where it is no longer told, nothing changes.
  off-stays : (now : K) (count : ℕ) (waiting : Text) (before more : List Entry) (s : State) → (s ≡ state.On → ⊥) → IsToldBy w begun now count waiting before s → IsToldBy w begun now count waiting (before ++ more) s
  off-stays now count waiting before more state.On off told = absurd (off refl)
  off-stays now count waiting before more state.Failed off told = (front-stays now before more told.0, told.1)
  off-stays now count waiting before more state.Short off told = front-stays now before more told

  -- The lines that came wait behind those that waited.
  more-wait : (now : K) (count counted : ℕ) (waiting new : Text) (before more : List Entry) → HasToldAll w begun now count waiting before
      → counted ≡ count + length more → new ≡ waiting ++ text_of more → HasToldAll w begun now counted new (before ++ more)
  more-wait now count counted waiting new before more told counts grown =
      let both = length-append before more in
      let was = told.whole in
      record {
        whole = omega (arith, counts, both, was);
        front = told.front;
        took = told.took;
        split = both-texts before more ∙ ap (λ x. x ++ text_of more) told.split ∙ append_assoc told.front waiting (text_of more) ∙ ap (λ x. told.front ++ x) (sym grown);
      }

  -- Those that waited were put out.
  all-put : (old new : K) (count : ℕ) (waiting left : Text) (h : List Entry) → HasToldAll w begun old count waiting h → Took (of_sink w old new) waiting → left ≡ [] → HasToldAll w begun new count left h
  all-put old new count waiting left h told took none = record {
    whole = told.whole;
    front = told.front ++ waiting;
    took = λ t. took t ∙ ap (λ x. x ++ waiting) (told.took t) ∙ append_assoc (w.written begun) told.front waiting;
    split = told.split ∙ sym (append-nil (told.front ++ waiting)) ∙ ap (λ x. (told.front ++ waiting) ++ x) (sym none);
  }

  -- A front of them was.
  part-put : (old new : K) (count : ℕ) (waiting : Text) (h : List Entry) → HasToldAll w begun old count waiting h → ((left : Text) × TookFront (of_sink w old new) waiting left) → HasToldFront w begun new h
  part-put old new count waiting h told part = (
    part.0,
    record {
      front = told.front ++ part.1.front;
      whole = told.split ∙ ap (λ x. told.front ++ x) part.1.whole ∙ sym (append_assoc told.front part.1.front part.0);
      took = λ t. part.1.took t ∙ ap (λ x. x ++ part.1.front) (told.took t) ∙ append_assoc (w.written begun) told.front part.1.front;
    },
  )

  -- The history is over, and none of its lines waits.
  ended-by : (now : K) (count : ℕ) (waiting : Text) (h : List Entry) (s : State) → (s ≡ state.On → waiting ≡ []) → IsToldBy w begun now count waiting h s → HasPut (of_sink w begun now) h s
  ended-by now count waiting h state.On none told =
      let all : told.front ≡ text_of h = sym (append-nil told.front) ∙ ap (λ x. told.front ++ x) (sym (none refl)) ∙ sym told.split in
      λ t. told.took t ∙ ap (λ x. w.written begun ++ x) all
  ended-by now count waiting h state.Failed none told = told
  ended-by now count waiting h state.Short none told = told

  -- ---- as a whole

  pub told-none : (progress : Progress) (h : List Entry) → h ≡ [] → progress.count ≡ 0 → progress.lines.items ≡ [] → progress.state ≡ state.On → IsTold w begun begun progress h
  told-none progress h none zero empty on = record {
    later = omega arith;
    by = subst (IsToldBy w begun begun progress.count progress.lines.items h) (sym on) (none-told h progress.count progress.lines.items none zero empty);
  }

  pub told-off : (now : K) (progress : Progress) (before more : List Entry) → (progress.state ≡ state.On → ⊥) → IsTold w begun now progress before → IsTold w begun now progress (before ++ more)
  told-off now progress before more off told = record { later = told.later; by = off-stays now progress.count progress.lines.items before more progress.state off told.by }

  pub told-short : (now : K) (progress : Progress) (count : ℕ) (lines : Vec ℕ Global) (before more : List Entry) → IsTold w begun now progress before
      → IsTold w begun now (record { count = count; lines = lines; state = state.Short }) (before ++ more)
  told-short now progress count lines before more told = record { later = told.later; by = front-of now progress.count progress.lines.items before more progress.state told.by }

  pub told-more : (now : K) (progress new : Progress) (before more : List Entry) → progress.state ≡ state.On → new.state ≡ state.On → IsTold w begun now progress before
      → new.count ≡ progress.count + length more → new.lines.items ≡ progress.lines.items ++ text_of more → IsTold w begun now new (before ++ more)
  told-more now progress new before more on still told counts grown =
      let all : HasToldAll w begun now progress.count progress.lines.items before = subst (IsToldBy w begun now progress.count progress.lines.items before) on told.by in
      record {
        later = told.later;
        by = subst (IsToldBy w begun now new.count new.lines.items (before ++ more)) (sym still) (more-wait now progress.count new.count progress.lines.items new.lines.items before more all counts grown);
      }

  -- How many were told, where all were.
  pub told-count : (now : K) (progress : Progress) (before : List Entry) → progress.state ≡ state.On → IsTold w begun now progress before → progress.count ≡ length before
  told-count now progress before on told =
      let all : HasToldAll w begun now progress.count progress.lines.items before = subst (IsToldBy w begun now progress.count progress.lines.items before) on told.by in
      all.whole

  pub told-put : (old new : K) (progress after : Progress) (h : List Entry) → progress.state ≡ state.On → after.state ≡ state.On → after.count ≡ progress.count → IsTold w begun old progress h → w.faults old ≤ w.faults new
      → Took (of_sink w old new) progress.lines.items → after.lines.items ≡ [] → IsTold w begun new after h
  told-put old new progress after h on still count told later took empty =
      let all : HasToldAll w begun old progress.count progress.lines.items h = subst (IsToldBy w begun old progress.count progress.lines.items h) on told.by in
      record {
        later = omega (arith, told.later, later);
        by = subst (IsToldBy w begun new after.count after.lines.items h) (sym still)
            (subst (λ n. HasToldAll w begun new n after.lines.items h) (sym count) (all-put old new progress.count progress.lines.items after.lines.items h all took empty));
      }

  pub told-failed : (old new : K) (progress after : Progress) (h : List Entry) → progress.state ≡ state.On → after.state ≡ state.Failed → IsTold w begun old progress h → w.faults old ≤ w.faults new
      → SinkFailed (of_sink w old new) → ((left : Text) × TookFront (of_sink w old new) progress.lines.items left) → IsTold w begun new after h
  told-failed old new progress after h on failed told later rose part =
      let all : HasToldAll w begun old progress.count progress.lines.items h = subst (IsToldBy w begun old progress.count progress.lines.items h) on told.by in
      record {
        later = omega (arith, told.later, later);
        by = subst (IsToldBy w begun new after.count after.lines.items h) (sym failed) (part-put old new progress.count progress.lines.items h all part, rose-since (w.faults begun) (w.faults old) (w.faults new) told.later rose);
      }

  pub told-ended : (now : K) (progress : Progress) (h : List Entry) → (progress.state ≡ state.On → progress.lines.items ≡ []) → IsTold w begun now progress h → HasPut (of_sink w begun now) h progress.state
  told-ended now progress h none told = ended-by now progress.count progress.lines.items h progress.state none told.by

-- Entries that are told one by one: those that were, and those that are left.
pub record HasSaid {K : Type 0} (w : SinkWords K) (old now : K) (first progress : Progress) (all left : List Entry) : Type 0 where
  pub said : List Entry
  pub split : all ≡ said ++ left
  pub told : (begun : K) (h : List Entry) → IsTold w begun old first h → IsTold w begun now progress (h ++ said)
  pub few : progress.count + length left ≤ first.count + length all

module _ {K : Type 0} (w : SinkWords K) (old : K) (first : Progress) (all : List Entry) where
  pub none-said : HasSaid w old old first first all all
  none-said = record { said = []; split = refl; told = λ begun h is. subst (λ x. IsTold w begun old first x) (sym (append-nil h)) is; few = omega arith }

  pub one-said : (mid now : K) (progress after : Progress) (left rest : List Entry) (e : Entry) → HasSaid w old mid first progress all left → left ≡ e ∷ rest
      → ((begun : K) (h : List Entry) → IsTold w begun mid progress h → IsTold w begun now after (h ++ e ∷ [])) → after.count ≤ progress.count + 1 → HasSaid w old now first after all rest
  one-said mid now progress after left rest e was at told count =
      let size : length left ≡ length rest + 1 = ap length at ∙ omega arith in
      let few = was.few in
      record {
        said = was.said ++ e ∷ [];
        split = was.split ∙ ap (λ x. was.said ++ x) at ∙ sym (append_assoc was.said (e ∷ []) rest);
        told = λ begun h is. subst (λ x. IsTold w begun now after x) (append_assoc h was.said (e ∷ [])) (told begun (h ++ was.said) (was.told begun h is));
        few = omega (arith, few, count, size);
      }

  pub all-said : (now : K) (progress : Progress) (left : List Entry) → HasSaid w old now first progress all left → left ≡ [] → (begun : K) (h : List Entry) → IsTold w begun old first h → IsTold w begun now progress (h ++ all)
  all-said now progress left was none begun h is =
      let same : was.said ≡ all = sym (append-nil was.said) ∙ ap (λ x. was.said ++ x) (sym none) ∙ sym was.split in
      subst (λ x. IsTold w begun now progress (h ++ x)) same (was.told begun h is)
