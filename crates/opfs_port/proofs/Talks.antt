-- Exchanges at a port, one after another.
use Rattle.std.proofs.Common.{◌≡◌, ◌++◌, ◌∷◌, ◌⊎◌, List, [], ℕ, inl, inr, refl, sym, ap, ◌∙◌, append_assoc, arith, Result, Ok, Err, OnErr}
use Rattle.std.specs.Prelude.{map}
use Rattle.std.proofs.lemmas.List.{append-nil}
use Rattle.opfs_port.specs.Said.{Said, heard, told, CameIn, WentOut}
use Rattle.opfs_port.specs.Sessions.{Exchange, spoken, lines_of, IsSession, over, then_more, Conversed, IsLeft, unheard, untold, unanswered, BrokeOff}

spoken_both : {T : Type 0} (a b : List (Exchange T)) → spoken (a ++ b) ≡ spoken a ++ spoken b
spoken_both [] b = refl
spoken_both (t ∷ ts) b = ap (λ x. heard t.line ∷ told t.answer t.at ∷ x) (spoken_both ts b)

lines_both : {T : Type 0} (a b : List (Exchange T)) → lines_of (a ++ b) ≡ lines_of a ++ lines_of b
lines_both [] b = refl
lines_both (t ∷ ts) b = ap (λ x. t.line ∷ x) (lines_both ts b)

module _ {S T : Type 0} (Step : S → List ℕ → List ℕ → T → S → Type 0) where
  both : (a b c : S) (f s : List (Exchange T)) → IsSession Step a f b → IsSession Step b s c → IsSession Step a (f ++ s) c
  both a b c f s (over x) second = second
  both a b c f s (then_more x y z t ts step more) second = then_more x y c t (ts ++ s) step (both y z c ts s more second)

  pub nothing_said : (a : S) (so sn : List (Said T)) (ro rn : List (List ℕ)) → sn ≡ so → ro ≡ rn → Conversed Step a a so sn ro rn
  nothing_said a so sn ro rn s r = record { talk = []; session = over a; said = s ∙ sym (append-nil so); came = r }

  pub one_said : (a b : S) (so sm sn : List (Said T)) (ro rm rn : List (List ℕ)) (line out : List ℕ) (at : T) → Step a line out at b
      → CameIn line so sm ro rm → WentOut out at sm sn → rn ≡ rm → Conversed Step a b so sn ro rn
  one_said a b so sm sn ro rm rn line out at step came went same = record {
    talk = record { line = line; answer = out; at = at } ∷ [];
    session = then_more a b b (record { line = line; answer = out; at = at }) [] step (over b);
    said = went ∙ ap (λ x. x ++ told out at ∷ []) came.said ∙ append_assoc so (heard line ∷ []) (told out at ∷ []);
    came = came.rest ∙ ap (λ x. line ∷ x) (sym same);
  }

  pub more_said : (a b c : S) (so sm sn : List (Said T)) (ro rm rn : List (List ℕ)) → Conversed Step a b so sm ro rm → Conversed Step b c sm sn rm rn → Conversed Step a c so sn ro rn
  more_said a b c so sm sn ro rm rn f s = record {
    talk = f.talk ++ s.talk;
    session = both a b c f.talk s.talk f.session s.session;
    said = s.said ∙ ap (λ x. x ++ spoken s.talk) f.said ∙ append_assoc so (spoken f.talk) (spoken s.talk) ∙ ap (λ x. so ++ x) (sym (spoken_both f.talk s.talk));
    came = f.came ∙ ap (λ x. lines_of f.talk ++ x) s.came ∙ sym (append_assoc (lines_of f.talk) (lines_of s.talk) rn) ∙ ap (λ x. x ++ rn) (sym (lines_both f.talk s.talk));
  }

module _ {S T : Type 0} (Step : S → List ℕ → List ℕ → T → S → Type 0) (Stop : S → S → Type 0) where
  -- nothing more was heard
  pub none_left : (a b : S) (so sn : List (Said T)) (ro rn : List (List ℕ)) → Conversed Step a b so sn ro rn → BrokeOff Step Stop a b so sn ro rn
  none_left a b so sn ro rn f = record {
    talk = f.talk;
    until = b;
    session = f.session;
    left = [];
    stands = unheard refl;
    said = f.said ∙ sym (append-nil (so ++ spoken f.talk));
    came = f.came ∙ ap (λ x. x ++ rn) (sym (append-nil (lines_of f.talk)));
  }

  -- a line was heard, and no answer was told
  pub one_left : (a b : S) (so sm sn : List (Said T)) (ro rm rn : List (List ℕ)) (line : List ℕ) → IsLeft Step Stop a b (line ∷ []) → CameIn line so sm ro rm → sn ≡ sm → rn ≡ rm
      → BrokeOff Step Stop a b so sn ro rn
  one_left a b so sm sn ro rm rn line stands came same rest = record {
    talk = [];
    until = a;
    session = over a;
    left = line ∷ [];
    stands = stands;
    said = same ∙ came.said ∙ ap (λ x. x ++ heard line ∷ []) (sym (append-nil so));
    came = came.rest ∙ ap (λ x. line ∷ x) (sym rest);
  }

  -- the session could not answer it
  pub stop_left : (a b : S) (so sm : List (Said T)) (ro rm : List (List ℕ)) (line : List ℕ) → Stop a b → CameIn line so sm ro rm → BrokeOff Step Stop a b so sm ro rm
  stop_left a b so sm ro rm line stopped came = one_left a b so sm sm ro rm rm line (unanswered line stopped) came refl refl

  -- the answer may have been told
  pub maybe_left : (a b : S) (so sm sn : List (Said T)) (ro rm rn : List (List ℕ)) (line out : List ℕ) (at : T) → Step a line out at b
      → CameIn line so sm ro rm → (sn ≡ sm) ⊎ WentOut out at sm sn → rn ≡ rm → BrokeOff Step Stop a b so sn ro rn
  maybe_left a b so sm sn ro rm rn line out at step came (inl same) rest = one_left a b so sm sn ro rm rn line (untold line out at step) came same rest
  maybe_left a b so sm sn ro rm rn line out at step came (inr went) rest = none_left a b so sn ro rn (one_said Step a b so sm sn ro rm rn line out at step came went rest)

  -- behind exchanges it broke off
  pub later_broke : (a b c : S) (so sm sn : List (Said T)) (ro rm rn : List (List ℕ)) → Conversed Step a b so sm ro rm → BrokeOff Step Stop b c sm sn rm rn
      → BrokeOff Step Stop a c so sn ro rn
  later_broke a b c so sm sn ro rm rn f s = record {
    talk = f.talk ++ s.talk;
    until = s.until;
    session = both Step a b s.until f.talk s.talk f.session s.session;
    left = s.left;
    stands = s.stands;
    said = s.said ∙ ap (λ x. x ++ spoken s.talk ++ map heard s.left) f.said
        ∙ ap (λ x. x ++ map heard s.left) (append_assoc so (spoken f.talk) (spoken s.talk) ∙ ap (λ x. so ++ x) (sym (spoken_both f.talk s.talk)));
    came = f.came ∙ ap (λ x. lines_of f.talk ++ x) s.came
        ∙ sym (append_assoc (lines_of f.talk) (lines_of s.talk ++ s.left) rn)
        ∙ ap (λ x. x ++ rn) (sym (append_assoc (lines_of f.talk) (lines_of s.talk) s.left) ∙ ap (λ x. x ++ s.left) (sym (lines_both f.talk s.talk)));
  }

pub on_err : {X E : Type 0} (r : Result X E) (P Q : Type 0) → (P → Q) → OnErr r (P → Q)
on_err (Ok x) P Q p = tt
on_err (Err e) P Q p = p
