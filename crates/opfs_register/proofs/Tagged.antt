-- The tags of a party, as one comes or is posted.
use Rattle.std.proofs.Common.{◌≡◌, ◌==◌, ◌||◌, ◌&&◌, ℕ, Bool, true, false, cond, List, Some, None, Vec, Global, unwrap_or, refl, sym, ap, ◌∙◌, arith}
use Rattle.std.proofs.Math.Bool.{or-true, or-false}
use Rattle.std.proofs.lemmas.Cmp.{nat_list_cmp_total, nat_cmp_total, tied_itself}
use Rattle.std.proofs.lemmas.Map.Lookups.{exact_bytes, exact_unsigned}
use Rattle.std.specs.BTreeMap.{is_at, insert_entry}
use Rattle.std.specs.Cmp.Lexicographic.{texts_ties}
use Rattle.std.specs.Map.{lookup, set_value}
use Rattle.std.specs.Ordering.{is_eq, nat_cmp}
use Rattle.std.specs.declared.cmp.Ordering.{Ordering}
use Rattle.std.specs.declared.cmp.Ordering.TheVariants.{Less, Equal, Greater}
use Rattle.opfs_base.specs.Texts.{Text, same_text}
use Rattle.opfs_machine.specs.Agents.{same_party}
use Rattle.opfs_machine.specs.declared.state.Party.{Party}
use Rattle.opfs_machine.specs.declared.state.Party.TheVariants.{Origin, Alone}
use Rattle.opfs_register.specs.LastUses.{text_cmp}
use Rattle.opfs_register.specs.Told.{Tags, Circled, is_tag, has_tag, told_in, has_of, told_of, has, told}
use Rattle.opfs_register.proofs.Numbers.{ties}
use Rattle.opfs_register.proofs.Entries.{is-equal, lookup-set, lookup-insert, there-insert}

abbrev pub tag_cmp : Vec ℕ Global → Vec ℕ Global → Ordering
tag_cmp a b = text_cmp a.items b.items

tag-alike : (t : Text) (x y : Vec ℕ Global) → tag_cmp x y ≡ Equal → is_tag t x ≡ is_tag t y
tag-alike t x y tie = ap (λ items. is_eq (text_cmp t items)) (exact_bytes x.items y.items tie)

tag-one : (t : Text) (x y : Vec ℕ Global) → is_tag t x ≡ true → is_tag t y ≡ true → tag_cmp x y ≡ Equal
tag-one t x y here there = rw (← exact_bytes t x.items (is-equal (text_cmp t x.items) here), ← exact_bytes t y.items (is-equal (text_cmp t y.items) there)) (tied_itself nat_list_cmp_total t)

module _ (es : Tags) (bytes : Vec ℕ Global) (absent : lookup (is_tag bytes.items) es ≡ None) where
  pub told-prepared : (t : Text) → told_in (insert_entry tag_cmp es bytes false) t ≡ told_in es t
  told-prepared t =
      ap (λ o. unwrap_or o false) (lookup-insert tag_cmp (is_tag t) (tag-alike t) (tag-one t) es bytes false)
      ∙ by (is_tag t bytes) refl
    where
      by : (b : Bool) → b ≡ is_tag t bytes → unwrap_or (cond b (Some false) (lookup (is_tag t) es)) false ≡ told_in es t
      by true is = sym (ap (λ o. unwrap_or o false) (ap (λ x. lookup (is_tag x) es) (exact_bytes t bytes.items (is-equal (text_cmp t bytes.items) (sym is))) ∙ absent))
      by false is = refl

  pub has-prepared : (t : Text) → has_tag es t ≡ true → has_tag (insert_entry tag_cmp es bytes false) t ≡ true
  has-prepared t there = there-insert tag_cmp (is_tag t) (tag-alike t) (tag-one t) es bytes false there

module _ (es : Tags) (tag : Text) (there : has_tag es tag ≡ true) where
  pub told-told : (t : Text) → told_in (set_value (is_tag tag) es true) t ≡ (told_in es t || same_text t tag)
  told-told t =
      ap (λ o. unwrap_or o false) (lookup-set (is_tag tag) (is_tag t) es true (same_text t tag) here back there) ∙ by (same_text t tag)
    where
      here : (k : Vec ℕ Global) → is_tag tag k ≡ true → is_tag t k ≡ same_text t tag
      here k is = ap (λ x. is_eq (text_cmp t x)) (sym (exact_bytes tag k.items (is-equal (text_cmp tag k.items) is))) ∙ sym (texts_ties t tag)

      back : (k : Vec ℕ Global) → same_text t tag ≡ true → is_tag t k ≡ true → is_tag tag k ≡ true
      back k same is = ap (λ x. is_eq (text_cmp x k.items)) (sym (exact_bytes t tag (is-equal (text_cmp t tag) (sym (texts_ties t tag) ∙ same)))) ∙ is

      by : (b : Bool) → unwrap_or (cond b (Some true) (lookup (is_tag t) es)) false ≡ (told_in es t || b)
      by true = sym (or-true (told_in es t))
      by false = sym (or-false (told_in es t))

nat-by : (a b : ℕ) (o : Ordering) (t : Bool) → o ≡ nat_cmp a b → t ≡ (a == b) → is_eq o ≡ t
nat-by a b Less true told is = let same : a ≡ b = grind (arith, is) in absurd (less-equal (told ∙ rw same (tied_itself nat_cmp_total b)))
  where
    less-equal : Less ≡ Equal → ⊥
    less-equal h = cc
nat-by a b Less false told is = refl
nat-by a b Equal true told is = refl
nat-by a b Equal false told is = absurd (apart (is ∙ ties a b (exact_unsigned a b (sym told))))
  where
    apart : false ≡ true → ⊥
    apart h = cc
nat-by a b Greater true told is = let same : a ≡ b = grind (arith, is) in absurd (greater-equal (told ∙ rw same (tied_itself nat_cmp_total b)))
  where
    greater-equal : Greater ≡ Equal → ⊥
    greater-equal h = cc
nat-by a b Greater false told is = refl

nat-ties : (a b : ℕ) → is_eq (nat_cmp a b) ≡ (a == b)
nat-ties a b = nat-by a b (nat_cmp a b) (a == b) refl refl

-- The parties, as the tags of origins change, or those of agents that are alone.
module _ (circles : Circled) (new : List (Text × Tags)) where
  pub origins-told : ((k : Text) (t : Text) → told_of (lookup (is_at (text_cmp k)) new) t ≡ told_of (lookup (is_at (text_cmp k)) circles.origins) t)
      → (p : Party) (t : Text) → told (record circles { origins = new }) p t ≡ told circles p t
  origins-told same (Origin k) t = same k t
  origins-told same (Alone n) t = refl

  pub origins-kept : ((k : Text) (t : Text) → has_of (lookup (is_at (text_cmp k)) circles.origins) t ≡ true → has_of (lookup (is_at (text_cmp k)) new) t ≡ true)
      → (p : Party) (t : Text) → has circles p t ≡ true → has (record circles { origins = new }) p t ≡ true
  origins-kept kept (Origin k) t there = kept k t there
  origins-kept kept (Alone n) t there = there

  pub origins-has : ((k : Text) (t : Text) → has_of (lookup (is_at (text_cmp k)) new) t ≡ has_of (lookup (is_at (text_cmp k)) circles.origins) t)
      → (p : Party) (t : Text) → has (record circles { origins = new }) p t ≡ has circles p t
  origins-has same (Origin k) t = same k t
  origins-has same (Alone n) t = refl

  pub origins-tell : (origin tag : Text) → ((k : Text) (t : Text) → told_of (lookup (is_at (text_cmp k)) new) t ≡ (told_of (lookup (is_at (text_cmp k)) circles.origins) t || (is_eq (text_cmp k origin) && same_text t tag)))
      → (p : Party) (t : Text) → told (record circles { origins = new }) p t ≡ (told circles p t || (same_party p (Origin origin) && same_text t tag))
  origins-tell origin tag tells (Origin k) t = tells k t ∙ ap (λ b. told_of (lookup (is_at (text_cmp k)) circles.origins) t || (b && same_text t tag)) (sym (texts_ties k origin))
  origins-tell origin tag tells (Alone n) t = sym (or-false (told circles (Alone n) t))

module _ (circles : Circled) (new : List (ℕ × Tags)) where
  pub alone-told : ((k : ℕ) (t : Text) → told_of (lookup (is_at (nat_cmp k)) new) t ≡ told_of (lookup (is_at (nat_cmp k)) circles.alone) t)
      → (p : Party) (t : Text) → told (record circles { alone = new }) p t ≡ told circles p t
  alone-told same (Origin k) t = refl
  alone-told same (Alone n) t = same n t

  pub alone-kept : ((k : ℕ) (t : Text) → has_of (lookup (is_at (nat_cmp k)) circles.alone) t ≡ true → has_of (lookup (is_at (nat_cmp k)) new) t ≡ true)
      → (p : Party) (t : Text) → has circles p t ≡ true → has (record circles { alone = new }) p t ≡ true
  alone-kept kept (Origin k) t there = there
  alone-kept kept (Alone n) t there = kept n t there

  pub alone-has : ((k : ℕ) (t : Text) → has_of (lookup (is_at (nat_cmp k)) new) t ≡ has_of (lookup (is_at (nat_cmp k)) circles.alone) t)
      → (p : Party) (t : Text) → has (record circles { alone = new }) p t ≡ has circles p t
  alone-has same (Origin k) t = refl
  alone-has same (Alone n) t = same n t

  pub alone-tell : (number : ℕ) (tag : Text) → ((k : ℕ) (t : Text) → told_of (lookup (is_at (nat_cmp k)) new) t ≡ (told_of (lookup (is_at (nat_cmp k)) circles.alone) t || (is_eq (nat_cmp k number) && same_text t tag)))
      → (p : Party) (t : Text) → told (record circles { alone = new }) p t ≡ (told circles p t || (same_party p (Alone number) && same_text t tag))
  alone-tell number tag tells (Origin k) t = sym (or-false (told circles (Origin k) t))
  alone-tell number tag tells (Alone n) t = tells n t ∙ ap (λ b. told_of (lookup (is_at (nat_cmp n)) circles.alone) t || (b && same_text t tag)) (nat-ties n number)
