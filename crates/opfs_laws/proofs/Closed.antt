-- What each change leaves of the files that are stored.
use Rattle.std.proofs.Common.{◌≡◌, ◌⊎◌, ℕ, true, false, cond, not, List, [], ◌∷◌, take, fold, Option, Some, None, refl, sym, ap, ◌∙◌, subst, inl, inr}
use Rattle.std.specs.Prelude.{Contains}
use Rattle.std.specs.FinMap.Entries.{find, find-put, find-where_key}
use Rattle.std.specs.Ordering.{eq_by_cmp}
use Rattle.std.proofs.lemmas.List.Elements.{Contains-push, Contains-append_left, Contains-append_right}
use Rattle.opfs_base.specs.Places.{Place, place_cmp, is_within}
use Rattle.opfs_base.specs.Texts.{Text}
use Rattle.opfs_machine.specs.Changes.{Change, make_root, make_directory, make_file, remove, content, persist, evict, changed, changes, stored_at, stored_without}
use Rattle.opfs_machine.specs.Openings.{Map, Stored, folder, document}
use Rattle.opfs_laws.specs.Closes.{IsStoredAt, IsNew, IsOneContent, EachFileIsOneContent}
use Rattle.opfs_laws.proofs.Spots.{place_total, same_place, exact_places}

some-same : {x y : Stored} → Some x ≡ Some y → x ≡ y
some-same h = cc

none-some : {x : Stored} → ◌≡◌ {A = Option Stored} None (Some x) → ⊥
none-some h = cc

no-folder : (bytes : Text) (stamp : ℕ) → folder ≡ document bytes stamp → ⊥
no-folder bytes stamp h = cc

same-bytes : {a b : Text} {s t : ℕ} → document a s ≡ document b t → a ≡ b
same-bytes h = cc

same-stamp : {a b : Text} {s t : ℕ} → document a s ≡ document b t → s ≡ t
same-stamp h = cc

module _ (place : Place) (bytes : Text) (stamp : ℕ) where
  abbrev From : Map → List Change → Type 0
  From m told = IsStoredAt m place bytes stamp ⊎ (IsNew told place bytes stamp ⊎ IsOneContent told place bytes stamp)

  -- A row that is put at a place: it is the file, or the file was there.
  put-from : (m : Map) (p : Place) (x : Stored) → IsStoredAt (stored_at m p x) place bytes stamp → IsStoredAt m place bytes stamp ⊎ ((place ≡ p) × (x ≡ document bytes stamp))
  put-from m p x is =
      elim (eq_by_cmp place_cmp place p) as (λ b. eq_by_cmp place_cmp place p ≡ b → cond b (Some x) (find place_cmp place m.rows) ≡ Some (document bytes stamp)
      → IsStoredAt m place bytes stamp ⊎ ((place ≡ p) × (x ≡ document bytes stamp))) [
        | true ↦ λ tie here. inr (same_place place p tie, some-same here)
        | false ↦ λ tie old. inl old
      ] refl (sym (find-put place_cmp place_total place p x m.rows) ∙ is)

  -- A folder that is put there is no file.
  folder-from : (m : Map) (p : Place) (told : List Change) → IsStoredAt (stored_at m p folder) place bytes stamp → From m told
  folder-from m p told is = elim (put-from m p folder is) as (λ c. From m told) [ inl old ↦ inl old | inr here ↦ absurd (no-folder bytes stamp here.1) ]

  -- What is left when rows go was there.
  left-from : (m : Map) (p : Place) → IsStoredAt (stored_without m p) place bytes stamp → IsStoredAt m place bytes stamp
  left-from m p is =
      elim (is_within p place) as (λ b. cond (not b) (find place_cmp place m.rows) None ≡ Some (document bytes stamp) → IsStoredAt m place bytes stamp) [
        | true ↦ λ none. absurd (none-some none)
        | false ↦ λ old. old
      ] (sym (find-where_key place_cmp (λ y. not (is_within p y)) place (λ y ties. ap (λ z. not (is_within p z)) (sym (exact_places place y ties))) m.rows) ∙ is)

  -- One change.
  one-from : (m : Map) (c : Change) → IsStoredAt (changed m c) place bytes stamp → From m (c ∷ [])
  one-from m (make_root unit) is = folder-from m (unit, []) (make_root unit ∷ []) is
  one-from m (make_directory p) is = folder-from m p (make_directory p ∷ []) is
  one-from m (make_file p s) is =
      elim (put-from m p (document [] s) is) as (λ c. From m (make_file p s ∷ [])) [
        | inl old ↦ inl old
        | inr here ↦ inr (inl (record {
          empty = sym (same-bytes here.1);
          made = subst (λ q. Contains (make_file p s ∷ []) (make_file q stamp)) (sym here.0) (subst (λ t. Contains (make_file p s ∷ []) (make_file p t)) (same-stamp here.1) (Contains-push [] (make_file p s)));
        }))
      ]
  one-from m (remove p) is = inl (left-from m p is)
  one-from m (content p s b) is =
      elim (put-from m p (document b s) is) as (λ c. From m (content p s b ∷ [])) [
        | inl old ↦ inl old
        | inr here ↦ inr (inr (subst (λ q. Contains (content p s b ∷ []) (content q stamp bytes)) (sym here.0)
            (subst (λ t. Contains (content p s b ∷ []) (content p t bytes)) (same-stamp here.1)
            (subst (λ d. Contains (content p s b ∷ []) (content p s d)) (same-bytes here.1) (Contains-push [] (content p s b))))))
      ]
  one-from m (persist unit) is = inl is
  one-from m (evict unit) is = inl (left-from m (unit, []) is)

  -- With more changes behind it, or before them.
  front-from : (m : Map) (c : Change) (cs : List Change) → From m (c ∷ []) → From m (c ∷ cs)
  front-from m c cs from =
      elim from as (λ f. From m (c ∷ cs)) [
        | inl old ↦ inl old
        | inr new ↦ elim new as (λ f. From m (c ∷ cs)) [
          | inl empty ↦ inr (inl (record { empty = empty.empty; made = Contains-append_left (c ∷ []) cs (make_file place stamp) empty.made }))
          | inr whole ↦ inr (inr (Contains-append_left (c ∷ []) cs (content place stamp bytes) whole))
        ]
      ]

  all-from : (m : Map) (told : List Change) → IsStoredAt (fold changed m told) place bytes stamp → From m told
  all-from m [] is = inl is
  all-from m (c ∷ cs) is =
      elim (all-from (changed m c) cs is) as (λ f. From m (c ∷ cs)) [
        | inl after ↦ front-from m c cs (one-from m c after)
        | inr new ↦ elim new as (λ f. From m (c ∷ cs)) [
          | inl empty ↦ inr (inl (record { empty = empty.empty; made = Contains-append_right (c ∷ []) cs (make_file place stamp) empty.made }))
          | inr whole ↦ inr (inr (Contains-append_right (c ∷ []) cs (content place stamp bytes) whole))
        ]
      ]

pub each-file : EachFileIsOneContent
each-file = record {
  of_changes = λ o told place bytes stamp is. all-from place bytes stamp o.stored told is;
  of_fronts = λ o h n place bytes stamp is. all-from place bytes stamp o.stored (take n (changes o h)) is;
}
