-- What a conversation has come to, line by line.
use Rattle.std.proofs.Common.{◌≡◌, ◌⊎◌, ℕ, suc, ◌+◌, ◌-◌, Some, List, [], ◌∷◌, ◌++◌, length, drop, refl, sym, ap, ◌∙◌, subst, inl, inr, arith, append_assoc, append-nil}
use Rattle.std.proofs.lemmas.List.{drop_at}
use Rattle.std.specs.Prelude.{All}
use Rattle.std.proofs.lemmas.List.Elements.{All-push, All-weaker}
use Rattle.opfs_hall.proofs.Owned.{prefix_refl, prefix_trans}
use Rattle.opfs_hall.specs.History.{IsPrefix}
use Rattle.opfs_hist.specs.declared.entry.Entry.{Entry}
use Rattle.opfs_machine.specs.Openings.{Opening}
use Rattle.opfs_port.specs.Said.{Said}
use Rattle.opfs_script.specs.Scripts.{Asked}
use Rattle.opfs_script.specs.declared.step.Step.{Step}
use Rattle.opfs_serving.specs.Exchanges.{Exchange, add_step, all_told, entries_told, heard_by, scripts_after, spoken, told_by, unanswered, with_call}
use Rattle.opfs_serving.specs.Talks.{AreExchanges, IsExchange, IsTalk}

-- ---- exchanges, and others behind them

pub spoken-append : {T : Type 0} (xs ys : List (Exchange T)) → spoken (xs ++ ys) ≡ spoken xs ++ spoken ys
spoken-append [] ys = refl
spoken-append (x ∷ xs) ys =
    ap (λ l. (heard_by x.line ++ told_by x.answer x.at) ++ l) (spoken-append xs ys) ∙ sym (append_assoc (heard_by x.line ++ told_by x.answer x.at) (spoken xs) (spoken ys))

pub all_told-append : {T : Type 0} (xs ys : List (Exchange T)) → all_told (xs ++ ys) ≡ all_told xs ++ all_told ys
all_told-append [] ys = refl
all_told-append (x ∷ xs) ys = ap (λ l. entries_told x.answer ++ l) (all_told-append xs ys) ∙ sym (append_assoc (entries_told x.answer) (all_told xs) (all_told ys))

pub scripts_after-append : {T : Type 0} (scripts : List Asked) (xs ys : List (Exchange T)) → scripts_after scripts (xs ++ ys) ≡ scripts_after (scripts_after scripts xs) ys
scripts_after-append scripts [] ys = refl
scripts_after-append scripts (x ∷ xs) ys = scripts_after-append (with_call scripts x.call) xs ys

-- The call of the agent at a place of the list, which counts from 0.
pub with_call-at : (scripts : List Asked) (k i : ℕ) (step : Step) → k ≡ suc i → with_call scripts (Some (record { agent = k; step = step })) ≡ add_step i step scripts
with_call-at scripts k i step is = let place : k - 1 ≡ i = omega (arith, is) in ap (λ n. add_step n step scripts) place

pub spoken-one : {T : Type 0} (x : Exchange T) → spoken (x ∷ []) ≡ heard_by x.line ++ told_by x.answer x.at
spoken-one x = append-nil (heard_by x.line ++ told_by x.answer x.at)

pub all_told-push : {T : Type 0} (xs : List (Exchange T)) (x : Exchange T) → all_told (xs ++ x ∷ []) ≡ all_told xs ++ entries_told x.answer
all_told-push xs x = all_told-append xs (x ∷ []) ∙ ap (λ l. all_told xs ++ l) (append-nil (entries_told x.answer))

module _ {T : Type 0} (o : Opening) (entries : T → List Entry) (keeps : T → Type 0) where
  -- The one behind them has the number of all before it.
  pub exchanges-push : (count n : ℕ) (scripts : List Asked) (told : List Entry) (xs : List (Exchange T)) (x : Exchange T) → AreExchanges o entries keeps count scripts told xs → n ≡ count + length xs
      → IsExchange o entries keeps n (scripts_after scripts xs) (told ++ all_told xs) x → AreExchanges o entries keeps count scripts told (xs ++ x ∷ [])
  exchanges-push count n scripts told [] x all is one =
      let same : n ≡ count = omega (arith, is) in
      (subst (λ (y : ℕ × List Entry). IsExchange o entries keeps y.0 scripts y.1 x) (λ i. (same i, append-nil told i)) one, tt)
  exchanges-push count n scripts told (y ∷ ys) x all is one = (
    all.0,
    exchanges-push (suc count) n (with_call scripts y.call) (told ++ entries_told y.answer) ys x all.1 (omega (arith, is))
        (subst (λ es. IsExchange o entries keeps n (scripts_after (with_call scripts y.call) ys) es x) (sym (append_assoc told (entries_told y.answer) (all_told ys))) one),
  )

-- ---- a conversation

module _ {T P : Type 0} (o : Opening) (entries : T → List Entry) (keeps : T → Type 0) (goes : T → T → Type 0) (tells : Type 0) (said : P → List (Said T)) (agents : List Asked) (begun : P) where
  -- What stood at each answer begins what stands later.
  begun-by : (last later : T) (talk : List (Exchange T)) → IsPrefix (entries last) (entries later) → All (λ x. IsPrefix (entries x.at) (entries last)) talk → All (λ x. IsPrefix (entries x.at) (entries later)) talk
  begun-by last later talk front all =
      All-weaker (λ (x : Exchange T). IsPrefix (entries x.at) (entries last)) (λ (x : Exchange T). IsPrefix (entries x.at) (entries later)) (λ x h. prefix_trans (entries x.at) (entries last) (entries later) h front) talk all

  -- Nothing was said yet.
  pub talk-begins : (now : P) (last : T) (sound : Type 0) → said now ≡ said begun → (t : IsTalk o entries keeps goes tells said agents begun now last sound agents []) × (t.talk ≡ [])
  talk-begins now last sound same = (
    record {
      talk = [];
      left = [];
      few = omega arith;
      whole = λ s. refl;
      said_is = λ t. inl (same ∙ sym (append-nil (said begun)));
      right = tt;
      scripts_are = refl;
      told_is = refl;
      front = (entries last, refl);
      begins = λ i d within. absurd (omega (arith, within));
      goes_on = λ i d within. absurd (omega (arith, within));
    },
    refl,
  )

  module _ (lasts : (u v w : T) → goes u v → goes v w → goes u w) where
    -- The store has gone on since each answer, as it goes on now.
    gone-by : (last later : T) (talk : List (Exchange T)) → goes last later → All (λ x. goes x.at last) talk → All (λ x. goes x.at later) talk
    gone-by last later talk on all = All-weaker (λ (x : Exchange T). goes x.at last) (λ (x : Exchange T). goes x.at later) (λ x h. lasts x.at last later h on) talk all

    -- Nothing more was said, and the store went on.
    module _ (before now : P) (last later : T) (sound sound' : Type 0) (scripts : List Asked) (told : List Entry) (t : IsTalk o entries keeps goes tells said agents begun before last sound scripts told)
        (same : tells → said now ≡ said before) (on : goes last later) (front : IsPrefix (entries last) (entries later)) (as_well : sound' → sound) where
      said-by : tells → (said before ≡ said begun ++ (spoken t.talk ++ unanswered t.left)) ⊎ ((said before ≡ said begun ++ (spoken t.talk ++ spoken t.left)) × AreExchanges o entries keeps 0 agents [] (t.talk ++ t.left))
          → (said now ≡ said begun ++ (spoken t.talk ++ unanswered t.left)) ⊎ ((said now ≡ said begun ++ (spoken t.talk ++ spoken t.left)) × AreExchanges o entries keeps 0 agents [] (t.talk ++ t.left))
      said-by b (inl is) = inl (same b ∙ is)
      said-by b (inr is) = inr (same b ∙ is.0, is.1)

      pub talk-stands : (u : IsTalk o entries keeps goes tells said agents begun now later sound' scripts told) × (u.talk ≡ t.talk)
      talk-stands = (
        record {
          talk = t.talk;
          left = t.left;
          few = t.few;
          whole = λ s. t.whole (as_well s);
          said_is = λ b. said-by b (t.said_is b);
          right = t.right;
          scripts_are = t.scripts_are;
          told_is = t.told_is;
          front = prefix_trans told (entries last) (entries later) t.front front;
          begins = begun-by last later (t.talk ++ t.left) front t.begins;
          goes_on = gone-by last later (t.talk ++ t.left) on t.goes_on;
        },
        refl,
      )

    module _ (stays : (v : T) → goes v v) (before : P) (last : T) (sound : Type 0) (scripts : List Asked) (told : List Entry) (t : IsTalk o entries keeps goes tells said agents begun before last sound scripts told) (well : sound) where
      -- where all went out, nothing is left
      all-out : t.talk ++ t.left ≡ t.talk
      all-out = ap (λ l. t.talk ++ l) (t.whole well) ∙ append-nil t.talk

      said-before : tells → said before ≡ said begun ++ spoken t.talk
      said-before b = by (t.said_is b)
        where
          none : t.left ≡ []
          none = t.whole well

          by : (said before ≡ said begun ++ (spoken t.talk ++ unanswered t.left)) ⊎ ((said before ≡ said begun ++ (spoken t.talk ++ spoken t.left)) × AreExchanges o entries keeps 0 agents [] (t.talk ++ t.left))
              → said before ≡ said begun ++ spoken t.talk
          by (inl is) = is ∙ ap (λ l. said begun ++ (spoken t.talk ++ unanswered l)) none ∙ ap (λ l. said begun ++ l) (append-nil (spoken t.talk))
          by (inr is) = is.0 ∙ ap (λ l. said begun ++ (spoken t.talk ++ spoken l)) none ∙ ap (λ l. said begun ++ l) (append-nil (spoken t.talk))

      scripts-are : scripts ≡ scripts_after agents t.talk
      scripts-are = t.scripts_are ∙ ap (scripts_after agents) all-out

      then-scripts : (x : Exchange T) → with_call scripts x.call ≡ scripts_after agents (t.talk ++ x ∷ [])
      then-scripts x = ap (λ s. with_call s x.call) scripts-are ∙ sym (scripts_after-append agents t.talk (x ∷ []))

      then-said : (now : P) (more : List (Said T)) → tells → said now ≡ said before ++ more → said now ≡ said begun ++ (spoken t.talk ++ more)
      then-said now more b is = is ∙ ap (λ l. l ++ more) (said-before b) ∙ append_assoc (said begun) (spoken t.talk) more

      then-right : (x : Exchange T) → IsExchange o entries keeps (length t.talk) scripts told x → AreExchanges o entries keeps 0 agents [] (t.talk ++ x ∷ [])
      then-right x one = exchanges-push o entries keeps 0 (length t.talk) agents [] t.talk x t.right (omega arith)
          (subst (λ s. IsExchange o entries keeps (length t.talk) s (all_told t.talk) x) scripts-are (subst (λ es. IsExchange o entries keeps (length t.talk) scripts es x) t.told_is one))

      then-begins : (x : Exchange T) → IsPrefix (entries last) (entries x.at) → All (λ y. IsPrefix (entries y.at) (entries x.at)) (t.talk ++ x ∷ [])
      then-begins x front = All-push (λ y. IsPrefix (entries y.at) (entries x.at)) t.talk x
          (begun-by last x.at t.talk front (subst (All (λ (y : Exchange T). IsPrefix (entries y.at) (entries last))) all-out t.begins)) (prefix_refl (entries x.at))

      then-goes : (x : Exchange T) → goes last x.at → All (λ y. goes y.at x.at) (t.talk ++ x ∷ [])
      then-goes x on = All-push (λ y. goes y.at x.at) t.talk x (gone-by last x.at t.talk on (subst (All (λ (y : Exchange T). goes y.at last)) all-out t.goes_on)) (stays x.at)

      -- A line was answered.
      pub talk-more : (now : P) (x : Exchange T) (sound' : Type 0) → (tells → said now ≡ said before ++ (heard_by x.line ++ told_by x.answer x.at))
          → IsExchange o entries keeps (length t.talk) scripts told x → goes last x.at → IsPrefix (entries last) (entries x.at)
          → (u : IsTalk o entries keeps goes tells said agents begun now x.at sound' (with_call scripts x.call) (told ++ entries_told x.answer)) × (u.talk ≡ t.talk ++ x ∷ [])
      talk-more now x sound' more one on front = (
        record {
          talk = t.talk ++ x ∷ [];
          left = [];
          few = omega arith;
          whole = λ s. refl;
          said_is = λ b. inl (then-said now (heard_by x.line ++ told_by x.answer x.at) b (more b) ∙ ap (λ l. said begun ++ l) (ends ∙ sym (append-nil (spoken (t.talk ++ x ∷ [])))));
          right = then-right x one;
          scripts_are = then-scripts x ∙ ap (scripts_after agents) (sym (append-nil (t.talk ++ x ∷ [])));
          told_is = ap (λ es. es ++ entries_told x.answer) t.told_is ∙ sym (all_told-push t.talk x);
          front = one.front;
          begins = subst (All (λ (y : Exchange T). IsPrefix (entries y.at) (entries x.at))) (sym (append-nil (t.talk ++ x ∷ []))) (then-begins x front);
          goes_on = subst (All (λ (y : Exchange T). goes y.at x.at)) (sym (append-nil (t.talk ++ x ∷ []))) (then-goes x on);
        },
        refl,
      )
        where
          ends : spoken t.talk ++ (heard_by x.line ++ told_by x.answer x.at) ≡ spoken (t.talk ++ x ∷ [])
          ends = ap (λ l. spoken t.talk ++ l) (sym (spoken-one x)) ∙ sym (spoken-append t.talk (x ∷ []))

      -- A line was heard, and no answer of it went out.
      pub talk-lost : (now : P) (x : Exchange T) (sound' : Type 0) → (tells → said now ≡ said before ++ heard_by x.line)
          → goes last x.at → IsPrefix (entries last) (entries x.at) → (sound' → ⊥)
          → IsTalk o entries keeps goes tells said agents begun now x.at sound' (with_call scripts x.call) told
      talk-lost now x sound' more on front ill = record {
        talk = t.talk;
        left = x ∷ [];
        few = omega arith;
        whole = λ s. absurd (ill s);
        said_is = λ b. inl (then-said now (heard_by x.line) b (more b) ∙ ap (λ l. said begun ++ (spoken t.talk ++ l)) (sym (append-nil (heard_by x.line))));
        right = t.right;
        scripts_are = then-scripts x;
        told_is = t.told_is;
        front = prefix_trans told (entries last) (entries x.at) t.front front;
        begins = then-begins x front;
        goes_on = then-goes x on;
      }

      -- A line was heard, and its answer may have gone out.
      pub talk-perhaps : (now : P) (x : Exchange T) (sound' : Type 0)
          → (tells → (said now ≡ said before ++ heard_by x.line) ⊎ (said now ≡ said before ++ (heard_by x.line ++ told_by x.answer x.at)))
          → IsExchange o entries keeps (length t.talk) scripts told x → goes last x.at → IsPrefix (entries last) (entries x.at) → (sound' → ⊥)
          → IsTalk o entries keeps goes tells said agents begun now x.at sound' (with_call scripts x.call) told
      talk-perhaps now x sound' more one on front ill = record {
        talk = t.talk;
        left = x ∷ [];
        few = omega arith;
        whole = λ s. absurd (ill s);
        said_is = λ b. by b (more b);
        right = t.right;
        scripts_are = then-scripts x;
        told_is = t.told_is;
        front = prefix_trans told (entries last) (entries x.at) t.front front;
        begins = then-begins x front;
        goes_on = then-goes x on;
      }
        where
          by : tells → (said now ≡ said before ++ heard_by x.line) ⊎ (said now ≡ said before ++ (heard_by x.line ++ told_by x.answer x.at))
              → (said now ≡ said begun ++ (spoken t.talk ++ unanswered (x ∷ []))) ⊎ ((said now ≡ said begun ++ (spoken t.talk ++ spoken (x ∷ []))) × AreExchanges o entries keeps 0 agents [] (t.talk ++ x ∷ []))
          by b (inl is) = inl (then-said now (heard_by x.line) b is ∙ ap (λ l. said begun ++ (spoken t.talk ++ l)) (sym (append-nil (heard_by x.line))))
          by b (inr is) = inr (
            then-said now (heard_by x.line ++ told_by x.answer x.at) b is ∙ ap (λ l. said begun ++ (spoken t.talk ++ l)) (sym (spoken-one x)),
            then-right x one,
          )

-- ---- what is behind a front

module _ {E : Type 0} where
  pub front-drop : (told list : List E) (count : ℕ) → IsPrefix told list → length told ≡ count → list ≡ told ++ drop count list
  front-drop told list count front long = front.1 ∙ ap (λ l. told ++ l) (sym (drop_at told front.0 count long) ∙ ap (drop count) (sym front.1))

  -- with what is behind it, a front is the whole
  pub front-told : (told list : List E) (count : ℕ) → IsPrefix told list → length told ≡ count → IsPrefix (told ++ drop count list) list
  front-told told list count front long = ([], front-drop told list count front long ∙ sym (append-nil (told ++ drop count list)))

  -- and with nothing it stays one
  pub front-none : (told list : List E) → IsPrefix told list → IsPrefix (told ++ []) list
  front-none told list front = subst (λ l. IsPrefix l list) (sym (append-nil told)) front
