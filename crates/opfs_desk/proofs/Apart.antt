-- Each party alone in a history that was given.
use Rattle.std.proofs.Common.{◌≡◌, ℕ, zero, suc, true, ◌&&◌, List, [], ◌∷◌, map, Option, Some, None, All, refl, sym, ap, ◌∙◌}
use Rattle.std.specs.Ordering.{is_lt}
use Rattle.std.specs.Prelude.{IsTrue, slice_get, unwrap_or}
use Rattle.std.specs.FinMap.Entries.{is_sorted, below_all}
use Rattle.std.proofs.lemmas.Bool.{and_parts}
use Rattle.std.proofs.lemmas.List.Elements.{All-cons, All-nil}
use Rattle.opfs_base.specs.Keys.{is_origin}
use Rattle.opfs_base.specs.Places.{Place, place_cmp}
use Rattle.opfs_base.specs.Texts.{Text}
use Rattle.opfs_codec.specs.Spelling.{is_key_text}
use Rattle.opfs_desk.specs.Apart.{IsToldApart}
use Rattle.opfs_desk_steps.specs.Parts.Held.{HaveOwnKeys}
use Rattle.opfs_hist.specs.declared.entry.Entry.{Entry}
use Rattle.opfs_laws.specs.Histories.Unread.{IsTold}
use Rattle.opfs_laws.specs.Whole.{IsWholeOpening}
use Rattle.opfs_machine.specs.Agents.{nobody}
use Rattle.opfs_machine.specs.Openings.{Opening, Stored, Who, agent_begun, row_of}
use Rattle.opfs_laws.specs.Separation.Apart.{EachPartyRunsAlone, IsInOrder, has_origin_key}

rows-begun : (x : Place) (rows : List (Place × Stored)) → below_all place_cmp x (map (λ e. (e.0, row_of e.1)) rows) ≡ below_all place_cmp x rows
rows-begun x [] = refl
rows-begun x (e ∷ es) = ap (λ b. is_lt (place_cmp x e.0) && b) (rows-begun x es)

order-begun : (rows : List (Place × Stored)) → is_sorted place_cmp (map (λ e. (e.0, row_of e.1)) rows) ≡ is_sorted place_cmp rows
order-begun [] = refl
order-begun (e ∷ es) = λ i. rows-begun e.0 es i && order-begun es i

origin-key : (o : Option Text) → ((key : Text) → o ≡ Some key → is_origin key ≡ true) → IsTrue (has_origin_key o)
origin-key None h = refl
origin-key (Some key) h = h key refl

origin-keys : (agents : List Who) → ((i : ℕ) (key : Text) → (unwrap_or (slice_get (map agent_begun agents) i) nobody).key ≡ Some key → is_origin key ≡ true) → All (λ who. IsTrue (has_origin_key who.key)) agents
origin-keys [] h = All-nil (λ who. IsTrue (has_origin_key who.key))
origin-keys (w ∷ agents) h = All-cons (λ who. IsTrue (has_origin_key who.key)) w agents (origin-key w.key (λ key is. h zero key is)) (origin-keys agents (λ i key is. h (suc i) key is))

in-order : (o : Opening) → IsWholeOpening o → HaveOwnKeys o → IsInOrder o
in-order o whole keys = record {
  rows = order-begun-back;
  keys = origin-keys o.agents (λ i key is. (and_parts (is_key_text key) (is_origin key) (keys (suc i) key is).1).1);
}
  where
    order-begun-back : IsTrue (is_sorted place_cmp o.stored.rows)
    order-begun-back = sym (order-begun o.stored.rows) ∙ whole.order

pub told-apart : (tells : Type 0) (o : Opening) (h : List Entry) → IsWholeOpening o → HaveOwnKeys o → EachPartyRunsAlone → IsTold tells o h → IsToldApart tells o h
told-apart tells o h whole keys apart told = record { told = told; alone = λ party. apart o party told.real (in-order o whole keys) told.legal }
