-- What is known after a name was taken out, or noted.
use Rattle.std.proofs.Common.{◌≡◌, ◌⊎◌, ℕ, true, false, cond, List, [], Option, Some, None, refl, sym, ap, ◌∙◌, inl, inr}
use Rattle.std.proofs.lemmas.Bool.{cases_Bool}
use Rattle.std.proofs.lemmas.Map.Lookups.{exact_pairs, exact_unsigned}
use Rattle.std.specs.BTreeMap.{is_at}
use Rattle.std.specs.Map.{lookup}
use Rattle.std.specs.Ordering.{is_eq, nat_cmp}
use Rattle.std.specs.declared.cmp.Ordering.{Ordering}
use Rattle.std.specs.declared.cmp.Ordering.TheVariants.{Less, Equal, Greater}
use Rattle.opfs_store.specs.declared.acts.acted.Gift.{Gift}
use Rattle.opfs_base.specs.Texts.{Text}
use Rattle.opfs_hist.specs.declared.reply.Reply.{Reply}
use Rattle.opfs_data.specs.Rows.{row_cmp}
use Rattle.opfs_desk_steps.specs.Iterating.Known.{AreOthers, AreWith, IsFollowed, IsKnownBy, Lasts, last_of}
use Rattle.opfs_desk_steps.specs.declared.iterating.iterators.Followed.{Followed}

equal-by : (o : Ordering) → is_eq o ≡ true → o ≡ Equal
equal-by Less h = absurd cc
equal-by Equal h = refl
equal-by Greater h = absurd cc

-- The same key.
key-is : (agent row k n : ℕ) → is_at (row_cmp (agent, row)) (k, n) ≡ true → (k ≡ agent) × (n ≡ row)
key-is agent row k n h =
    let same : (agent, row) ≡ (k, n) = exact_pairs nat_cmp nat_cmp exact_unsigned exact_unsigned (agent, row) (k, n) (equal-by (row_cmp (agent, row) (k, n)) h) in
    (ap (λ (p : ℕ × ℕ). p.0) (sym same), ap (λ (p : ℕ × ℕ). p.1) (sym same))

abbrev pub Becomes : ℕ → ℕ → Option Text → Lasts → Lasts → Type 0
Becomes agent row w old new = (q : ℕ × ℕ) → lookup (is_at (row_cmp q)) new ≡ cond (is_at (row_cmp (agent, row)) q) w (lookup (is_at (row_cmp q)) old)

no-name : (last : Text) → ◌≡◌ {A = Option Text} None (Some last) → ⊥
no-name last h = cc

one-name : (a b : Text) → ◌≡◌ {A = Option Text} (Some a) (Some b) → b ≡ a
one-name a b h = cc

module _ (agent row : ℕ) (old new : Lasts) where
  self-key : (k n : ℕ) → (k ≡ agent) × (n ≡ row) → last_of k n new ≡ last_of agent row new
  self-key k n both = λ i. last_of (both.0 i) (both.1 i) new

  pub taken-out : Becomes agent row None old new → last_of agent row new ≡ None → AreOthers agent row old new
  taken-out becomes gone k n last is = elim (cases_Bool (is_at (row_cmp (agent, row)) (k, n))) [
    | inl here ↦ absurd (no-name last (sym (becomes (k, n) ∙ ap (λ b. cond b None (last_of k n old)) here) ∙ is))
    | inr apart ↦ (
      λ both. no-name last (sym (self-key k n both ∙ gone) ∙ is),
      sym (becomes (k, n) ∙ ap (λ b. cond b None (last_of k n old)) apart) ∙ is,
    )
  ]

  pub noted : (name : Text) → Becomes agent row (Some name) old new → AreWith agent row name old new
  noted name becomes k n last is = elim (cases_Bool (is_at (row_cmp (agent, row)) (k, n))) [
    | inl here ↦
        let key = key-is agent row k n here in
        inl (key.0, key.1, one-name name last (sym (becomes (k, n) ∙ ap (λ b. cond b (Some name) (last_of k n old)) here) ∙ is))
    | inr apart ↦ inr (sym (becomes (k, n) ∙ ap (λ b. cond b (Some name) (last_of k n old)) apart) ∙ is)
  ]

-- Nothing is left where a row may have been made.
pub after-forgetting : (call : Followed) (was : Option Text) (answered : Reply) (given : Gift) (past : List Text) (old mid new : Lasts) → (call.makes ≡ true → mid ≡ []) → (call.makes ≡ false → mid ≡ old)
    → IsFollowed (record call { makes = false }) was answered given past mid new → IsFollowed call was answered given past old new
after-forgetting call was answered given past old mid new all none followed k n last is = by-one (followed k n last is)
  where
    before : last_of k n mid ≡ Some last → (call.makes ≡ false) × (last_of k n old ≡ Some last)
    before there = elim (cases_Bool call.makes) [
      | inl makes ↦ absurd (no-name last (sym (ap (last_of k n) (all makes)) ∙ there))
      | inr leaves ↦ (leaves, sym (ap (last_of k n) (none leaves)) ∙ there)
    ]

    by-one : ((k ≡ call.agent) × (n ≡ call.row) × IsKnownBy call.row was answered given past last) ⊎ ((false ≡ false) × (last_of k n mid ≡ Some last))
        → ((k ≡ call.agent) × (n ≡ call.row) × IsKnownBy call.row was answered given past last) ⊎ ((call.makes ≡ false) × (last_of k n old ≡ Some last))
    by-one (inl now) = inl now
    by-one (inr still) = inr (before still.1)
