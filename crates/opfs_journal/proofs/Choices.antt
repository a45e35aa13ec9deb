-- What a reader of the areas finds.
use Rattle.std.proofs.Common.{◌≡◌, ℕ, suc, ◌+◌, ◌-◌, ◌%◌, ◌<◌, ◌≤◌, Bool, true, false, not, cond, ◌&&◌, ◌||◌, eqb, ltb, List, [], ◌∷◌, length, refl, sym, ◌∙◌, ap, subst, arith, None, Ok, Err}
use Rattle.std.specs.Prelude.{◌==◌}
use Rattle.std.proofs.lemmas.Bool.Decides.{nat_tests}
use Rattle.opfs_outside.specs.Bytes.{window}
use Rattle.opfs_outside.specs.Windows.{length-window}
use Rattle.opfs_journal.specs.Format.{is_open, begin_of, is_generation, next_of, is_bad_head, chosen, chosen_in, chain}
use Rattle.opfs_journal.specs.Reading.{Walks, Shape, Rules, IsRuled, Rests}
use Rattle.opfs_journal.specs.Standing.{OtherIs, Stands, Told}
use Rattle.opfs_journal.specs.Walking.{IsFirst, Leads, IsBad}
use Rattle.opfs_journal.specs.declared.areas.Areas.{Areas}
use Rattle.opfs_journal.specs.declared.refusal.OpenRefusal.TheVariants.{NoArea, BadRecord}
use Rattle.opfs_journal.proofs.Chains.{chain_bad}

through : (x y z e s : Bool) (p q : ℕ) → cond x (Err NoArea) (cond y (Err (BadRecord p)) (cond z (Err (BadRecord q)) (Ok e))) ≡ Ok s → (x ≡ false) × (y ≡ false) × (z ≡ false) × (e ≡ s)
through true y z e s p q h = absurd (cc)
through false true z e s p q h = absurd (cc)
through false false true e s p q h = absurd (cc)
through false false false e s p q h = (refl, refl, refl, cc)

second_facts : (x y f : Bool) → (y && (not x || f)) ≡ true → (y ≡ true) × (x ≡ true → f ≡ true)
second_facts true true f e = (refl, λ h. e)
second_facts false true f e = (refl, λ h. absurd (cc))
second_facts x false f e = absurd (cc)

first_facts : (x y f : Bool) → (not x && not y) ≡ false → (y && (not x || f)) ≡ false → (x ≡ true) × (y ≡ true → f ≡ false)
first_facts true true f some e = (refl, λ h. e)
first_facts true false f some e = (refl, λ h. absurd (cc))
first_facts false true f some e = absurd (cc)
first_facts false false f some e = absurd (cc)

-- the choice by what was read is that of the image
pub chosen_same : (a : Areas) (c : List ℕ) (open0 : Bool) (len0 byte0 : ℕ) (open1 : Bool) (len1 byte1 : ℕ) → IsFirst c a.first open0 len0 byte0 → IsFirst c (a.first + a.bytes) open1 len1 byte1
    → chosen a open0 len0 byte0 open1 len1 byte1 ≡ chosen_in a c
chosen_same a c open0 len0 byte0 open1 len1 byte1 f0 f1 = λ i. chosen a (f0.gate i) (f0.size i) (f0.byte i) (f1.gate i) (f1.size i) (f1.byte i)

-- the facts of an area that rules: its gate is open, both first records are good, and it rules over the other
pub record IsChosen (a : Areas) (second head_open : Bool) (len generation : ℕ) (other_open : Bool) (other_len other_generation : ℕ) : Type 0 where
  pub opened : head_open ≡ true
  pub good : is_bad_head a.bytes head_open len generation ≡ false
  pub other_good : is_bad_head a.bytes other_open other_len other_generation ≡ false
  pub rules : other_open ≡ true → Rules second generation other_generation

module _ (a : Areas) (open0 : Bool) (len0 byte0 : ℕ) (open1 : Bool) (len1 byte1 : ℕ) where
  pub chosen_second : chosen a open0 len0 byte0 open1 len1 byte1 ≡ Ok true → IsChosen a true open1 len1 byte1 open0 len0 byte0
  chosen_second h =
      let t = through (not open0 && not open1) (is_bad_head a.bytes open0 len0 byte0) (is_bad_head a.bytes open1 len1 byte1) (open1 && (not open0 || (byte1 % 16 == next_of byte0))) true a.first (a.first + a.bytes) h in
      let f = second_facts open0 open1 (byte1 % 16 == next_of byte0) t.3 in
      record { opened = f.0; good = t.2; other_good = t.1; rules = f.1 }

  pub chosen_first : chosen a open0 len0 byte0 open1 len1 byte1 ≡ Ok false → IsChosen a false open0 len0 byte0 open1 len1 byte1
  chosen_first h =
      let t = through (not open0 && not open1) (is_bad_head a.bytes open0 len0 byte0) (is_bad_head a.bytes open1 len1 byte1) (open1 && (not open0 || (byte1 % 16 == next_of byte0))) false a.first (a.first + a.bytes) h in
      let f = first_facts open0 open1 (byte1 % 16 == next_of byte0) t.0 t.3 in
      record { opened = f.0; good = t.1; other_good = t.2; rules = f.1 }

good_parts : (n bytes : ℕ) (known : Bool) → (true && ((eqb n 0 || ltb bytes (5 + n)) || not known)) ≡ false → (n ≡ 0 → ⊥) × (5 + n ≤ bytes) × (known ≡ true)
good_parts n bytes true e = (λ z. grind (arith, nat_tests), grind (arith, nat_tests), refl)
good_parts n bytes false e = absurd (grind (arith, nat_tests))

module _ (a : Areas) (second head_open : Bool) (len generation : ℕ) (other_open : Bool) (other_len other_generation : ℕ) (c : List ℕ)
    (is : IsChosen a second head_open len generation other_open other_len other_generation)
    (head : IsFirst c (begin_of a second) head_open len generation) (other : IsFirst c (begin_of a (not second)) other_open other_len other_generation) where
  abbrev begin : ℕ
  begin = begin_of a second

  pub head_parts : (len ≡ 0 → ⊥) × (5 + len ≤ a.bytes) × (is_generation generation ≡ true)
  head_parts = good_parts len a.bytes (is_generation generation) (subst (λ o. is_bad_head a.bytes o len generation ≡ false) is.opened is.good)

  abbrev body : List ℕ
  body = window c (begin + 5 + 1) (len - 1)

  whole : window c (begin + 5) len ≡ generation ∷ body
  whole =
      let e : len ≡ suc (len - 1) = omega (arith, head_parts.0) in
      ap (λ n. window c (begin + 5) n) e ∙ (λ i. sym head.byte i ∷ body)

  size : length (generation ∷ body) ≡ len
  size = ap length (sym whole) ∙ length-window c (begin + 5) len

  walks_to : (bodies : List (List ℕ)) (to : ℕ) → Walks c (begin + 5 + len) bodies to → Walks c begin ((generation ∷ body) ∷ bodies) to
  walks_to bodies to w =
      (sym head.gate ∙ is.opened, sym head.size ∙ sym size, ap (λ n. window c (begin + 5) n) size ∙ whole, subst (λ n. Walks c (begin + 5 + n) bodies to) (sym size) w)

  -- the area is read to its end
  pub chosen_told : (now : List ℕ → Type 0) (tail from : ℕ) → from ≡ begin + 5 + len → Leads c from tail → is_open c tail ≡ false → begin ≤ tail → tail < begin + a.bytes → ((d : List ℕ) → now d → d ≡ c)
      → Told a second generation (tail - begin) (not other_open) None c now
  chosen_told now tail from from_is leads shut above below durable =
      let s : Shape = record { second = second; generation = generation; first = body; more = leads.bodies; tail = tail } in
      let ruled : other_open ≡ true → IsRuled a second generation c = λ e.
      let parts = good_parts other_len a.bytes (is_generation other_generation) (subst (λ o. is_bad_head a.bytes o other_len other_generation ≡ false) e is.other_good) in
      record {
        some = λ none. parts.0 (other.size ∙ none);
        within = omega (arith, parts.1, other.size);
        known = ap is_generation (sym other.byte) ∙ parts.2;
        rules = subst (λ o. Rules second generation o) other.byte (is.rules e);
      } in
      let rests : Rests a s c = record {
        walks = walks_to leads.bodies tail (subst (λ f. Walks c f leads.bodies tail) from_is leads.walks);
        shut = shut;
        room = below;
        known = head_parts.2;
        other = λ e. ruled (other.gate ∙ e);
      } in
      let stands : Stands a s (not other_open) c = record { rests = rests; other = other_is other_open refl ruled } in
      record {
        shape = s;
        of_second = refl;
        of_generation = refl;
        of_tail = omega (arith, above);
        rest = λ none. record { here = stands; images = λ d is. subst (λ d. Stands a s (not other_open) d) (sym (durable d is)) stands };
        next = s;
        next_closed = true;
        unsure = λ gate e. absurd (cc e);
      }
    where
      other_is : (o : Bool) → other_open ≡ o → (o ≡ true → IsRuled a second generation c) → OtherIs a (record { second = second; generation = generation; first = body; more = leads.bodies; tail = tail }) (not o) c
      other_is true e ruled = ruled refl
      other_is false e ruled = sym other.gate ∙ e

  -- or to a bad gate
  pub chosen_bad : (from gate : ℕ) → from ≡ begin + 5 + len → IsBad c from (begin + a.bytes) gate → begin ≤ gate → chain a.bytes c begin (begin + a.bytes) ≡ Err gate
  chosen_bad from gate from_is bad above =
      chain_bad a.bytes c begin (begin + a.bytes) ((generation ∷ body) ∷ bad.leads.bodies) gate (walks_to bad.leads.bodies gate (subst (λ f. Walks c f bad.leads.bodies gate) from_is bad.leads.walks)) bad.opened bad.past bad.inside bad.inside

  pub chosen_short : a.bytes < 6 + len → 0 < a.bytes → chain a.bytes c begin (begin + a.bytes) ≡ Err begin
  chosen_short short some = chain_bad a.bytes c begin (begin + a.bytes) [] begin refl (sym head.gate ∙ is.opened) (omega (arith, short, head.size)) (omega arith) (omega arith)
