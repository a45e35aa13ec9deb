-- A history is told entry by entry.
use Rattle.std.proofs.Common.{◌≡◌, ◌≢◌, ℕ, Bool, true, false, not, List, [], ◌∷◌, ◌++◌, append_assoc, All, None, refl, sym, ap, ◌∙◌, subst, eq-eqb, ne_eqb}
use Rattle.std.proofs.lemmas.Bool.{and_parts}
use Rattle.std.proofs.lemmas.List.Elements.{All-nil, All-cons}
use Rattle.std.specs.List.{list_all}
use Rattle.opfs_hist.specs.declared.entry.Entry.{Entry}
use Rattle.opfs_hist.specs.declared.op.Op.{Op}
use Rattle.opfs_hist.specs.declared.op.Op.TheVariants as op
use Rattle.opfs_transcripts.specs.Lone.Lone.{IsOwnEntry}
use Rattle.opfs_machine.specs.Histories.{evicted_by}
use Rattle.opfs_script_run.specs.Runs.Running.{entries_of, is_wait}
use Rattle.opfs_laws.specs.Separation.Apart.{is_shared}
use Rattle.opfs_gen.specs.Own.{is_own, is_own_op}
use Rattle.opfs_gen.specs.Telling.{IsTold, IsToldTo}
use Rattle.opfs_gen.specs.declared.summing.Told.{Told}
use Rattle.opfs_gen.proofs.Summed.{mine-more, other-more}

-- One entry more, of the agent or of another one.
module _ (k : ℕ) (history before rest : List Entry) (e : Entry) (steps : before ≡ e ∷ rest) where
  further : (front : List Entry) → front ++ before ≡ history → (front ++ e ∷ []) ++ rest ≡ history
  further front whole = append_assoc front (e ∷ []) rest ∙ ap (λ es. front ++ es) (sym steps) ∙ whole

  pub mine-told : (old new : Told) → IsToldTo k history before old → e.agent ≡ k → ((es : List Entry) → IsTold es old → IsTold (es ++ e ∷ []) new) → IsToldTo k history rest new
  mine-told old new was mine more = record {
    front = was.front ++ e ∷ [];
    whole = further was.front was.whole;
    so_far = subst (λ (es : List Entry). IsTold es new) (sym (mine-more k was.front e (eq-eqb e.agent k mine))) (more (entries_of k was.front) was.so_far);
  }

  pub other-told : (told : Told) → IsToldTo k history before told → e.agent ≢ k → IsToldTo k history rest told
  other-told told was other = record {
    front = was.front ++ e ∷ [];
    whole = further was.front was.whole;
    so_far = subst (λ (es : List Entry). IsTold es told) (sym (other-more k was.front e (ne_eqb e.agent k other))) was.so_far;
  }

-- ---- entries that tell nothing of what is shared

stays-by : (o : Op) → is_own_op o ≡ true → evicted_by o ≡ None
stays-by (op.Evict unit) is = absurd (cc is)
stays-by (op.Wait tag) is = absurd (cc is)
stays-by o is = refl

moves-by : (o : Op) → is_own_op o ≡ true → is_wait o ≡ false
moves-by (op.Evict unit) is = absurd (cc is)
moves-by (op.Wait tag) is = absurd (cc is)
moves-by o is = refl

own-by : (b : Bool) → not b ≡ true → b ≡ false
own-by false is = refl
own-by true is = absurd (cc is)

own-entry : (e : Entry) → is_own e ≡ true → IsOwnEntry e
own-entry e is =
    let parts = and_parts (is_own_op e.op) (not (is_shared e.reply)) is in
    record { stays = stays-by e.op parts.0; moves = moves-by e.op parts.0; own = own-by (is_shared e.reply) parts.1 }

pub all-own : (es : List Entry) → list_all is_own es ≡ true → All IsOwnEntry es
all-own [] is = All-nil IsOwnEntry
all-own (e ∷ es) is =
    let parts = and_parts (is_own e) (list_all is_own es) is in
    All-cons IsOwnEntry e es (own-entry e parts.0) (all-own es parts.1)
