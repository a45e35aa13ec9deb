-- Small changes of a state, as a party sees them.
use Rattle.std.proofs.Common.{◌≡◌, ◌&&◌, ◌||◌, ◌+◌, ◌-◌, ℕ, zero, suc, Bool, true, false, T, cond, not, List, [], ◌∷◌, ◌++◌, append-nil, filter, slice_set, Option, refl, sym, ap, ◌∙◌, subst, arith}
use Rattle.std.proofs.lemmas.List.Elements.{filter-append}
use Rattle.std.specs.List.{list_any}
use Rattle.std.specs.Cmp.Lexicographic.{slice_cmp, same_text as equal_texts}
use Rattle.std.specs.FinMap.{slice_cmp-IsAntisymmetric, nat_cmp-IsAntisymmetric}
use Rattle.std.specs.FinMap.Entries.{put, is_sorted, is_sorted-put, is_sorted-where_key, by_order}
use Rattle.std.specs.Ordering.{nat_cmp}
use Rattle.std.specs.declared.cmp.Ordering.TheVariants.{Less, Equal, Greater}
use Rattle.opfs_base.specs.Texts.{Text, same_text}
use Rattle.opfs_base.specs.Places.{Place, place_cmp, is_within, begins_with}
use Rattle.opfs_machine.specs.declared.own.Own.{Own}
use Rattle.opfs_machine.specs.declared.state.Agent.{Agent}
use Rattle.opfs_machine.specs.declared.state.FileRow.{FileRow}
use Rattle.opfs_machine.specs.declared.state.Party.{Party}
use Rattle.opfs_machine.specs.declared.state.Row.{Row}
use Rattle.opfs_machine.specs.declared.state.State.{State}
use Rattle.opfs_machine.specs.Agents.{agent_of, with_agent, party_with, same_party}
use Rattle.opfs_machine.specs.Alone.{is_partys}
use Rattle.opfs_machine.specs.Ordered.{insert_by}
use Rattle.opfs_machine.specs.Rows.{with_row, with_file, without, change_at}
use Rattle.opfs_machine.specs.Sums.{is_persistent}
use Rattle.opfs_laws.proofs.separation.Alike.{Alike, is_partys_tag}
use Rattle.opfs_laws.proofs.separation.Lists.{filter-within, filter-commutes, from_false}
use Rattle.opfs_laws.proofs.separation.Numbered.{agent_at, seen, seen_from, is_ours, ours-set, other-set}
use Rattle.opfs_laws.proofs.separation.OwnRows.{place_total, put-mine, put-other, change-mine, change-other, sorted-change}

-- The rows stand in the order of their places.
abbrev pub InOrder : State Text Own → Type 0
InOrder s = T (is_sorted place_cmp s.rows)

pub put-ordered : (s : State Text Own) (place : Place) (r : Row Text) → InOrder s → InOrder (with_row s place r)
put-ordered s place r h = is_sorted-put place_cmp place_total place r s.rows h

pub file-ordered : (s : State Text Own) (place : Place) (change : FileRow Text → FileRow Text) → InOrder s → InOrder (with_file s place change)
file-ordered s place change h = subst T (sym (sorted-change place change s.rows)) h

pub without-ordered : (s : State Text Own) (place : Place) → InOrder s → InOrder (without s place)
without-ordered s place h = is_sorted-where_key place_cmp (λ x. not (is_within place x)) s.rows h

-- A mode that is added.
unit_tied : (x y : Text) → slice_cmp nat_cmp x y ≡ Equal → x ≡ y
unit_tied = slice_cmp-IsAntisymmetric nat_cmp-IsAntisymmetric

any_first : (a b c : Bool) → a ≡ b → (b || c) ≡ (a || (b || c))
any_first true b c is = ap (λ x. x || c) (sym is)
any_first false b c is = refl

swap_any : (a b c : Bool) → (b || (a || c)) ≡ (a || (b || c))
swap_any true true c = refl
swap_any true false c = refl
swap_any false true c = refl
swap_any false false c = refl

pub any-insert : (unit new : Text) (units : List Text) → list_any (same_text unit) (insert_by (slice_cmp nat_cmp) new units) ≡ (same_text unit new || list_any (same_text unit) units)
any-insert unit new [] = refl
any-insert unit new (u ∷ units) =
    elim (slice_cmp nat_cmp new u) as (λ o. slice_cmp nat_cmp new u ≡ o
    → list_any (same_text unit) (by_order o (new ∷ u ∷ units) (u ∷ units) (u ∷ insert_by (slice_cmp nat_cmp) new units)) ≡ (same_text unit new || (same_text unit u || list_any (same_text unit) units))) [
      | Less ↦ λ is. refl
      | Equal ↦ λ is. any_first (same_text unit new) (same_text unit u) (list_any (same_text unit) units) (ap (same_text unit) (unit_tied new u is))
      | Greater ↦ λ is.
          ap (λ b. same_text unit u || b) (any-insert unit new units) ∙ swap_any (same_text unit new) (same_text unit u) (list_any (same_text unit) units)
    ] refl

abbrev pub with_mode : State Text Own → Text → State Text Own
with_mode s unit = record s { persistent = insert_by (slice_cmp nat_cmp) unit s.persistent }

abbrev pub with_tag : State Text Own → Party → Text → State Text Own
with_tag s party tag = record s { posted = s.posted ++ record { party = party; tag = tag } ∷ [] }

-- The same change of both.
module _ (p : Party) (s t : State Text Own) (a : Alike p s t) where
  pub put-both : (place : Place) (r : Row Text) → InOrder s → InOrder t → is_partys p place.0 ≡ true → Alike p (with_row s place r) (with_row t place r)
  put-both place r left right is = record {
    rows =
        put-mine (is_partys p) place r s.rows left is
        ∙ ap (put place_cmp place r) a.rows
        ∙ sym (put-mine (is_partys p) place r t.rows right is);
    modes = a.modes;
    tags = a.tags;
    agents = a.agents;
    quota = a.quota;
  }

  pub file-both : (place : Place) (change : FileRow Text → FileRow Text) → is_partys p place.0 ≡ true → Alike p (with_file s place change) (with_file t place change)
  file-both place change is = record {
    rows =
        change-mine (is_partys p) place change s.rows is
        ∙ ap (change_at place change) a.rows
        ∙ sym (change-mine (is_partys p) place change t.rows is);
    modes = a.modes;
    tags = a.tags;
    agents = a.agents;
    quota = a.quota;
  }

  pub without-both : (place : Place) → Alike p (without s place) (without t place)
  without-both place = record {
    rows =
        filter-commutes (λ e. is_partys p e.0.0) (λ e. not (is_within place e.0)) s.rows
        ∙ ap (filter (λ e. not (is_within place e.0))) a.rows
        ∙ sym (filter-commutes (λ e. is_partys p e.0.0) (λ e. not (is_within place e.0)) t.rows);
    modes = a.modes;
    tags = a.tags;
    agents = a.agents;
    quota = a.quota;
  }

  pub agent-both : (k : ℕ) (x : Agent Own) → Alike p (with_agent s k x) (with_agent t k x)
  agent-both k x = record {
    rows = a.rows;
    modes = a.modes;
    tags = a.tags;
    agents =
        ours-set p 1 (k - 1) s.agents x
        ∙ ap (λ xs. slice_set xs (k - 1) (seen p (1 + (k - 1)) x)) a.agents
        ∙ sym (ours-set p 1 (k - 1) t.agents x);
    quota = a.quota;
  }

  pub mode-both : (unit : Text) → Alike p (with_mode s unit) (with_mode t unit)
  mode-both unit = record {
    rows = a.rows;
    modes = λ u own. any-insert u unit s.persistent ∙ ap (λ b. same_text u unit || b) (a.modes u own) ∙ sym (any-insert u unit t.persistent);
    tags = a.tags;
    agents = a.agents;
    quota = a.quota;
  }

  pub tag-both : (party : Party) (tag : Text) → Alike p (with_tag s party tag) (with_tag t party tag)
  tag-both party tag = record {
    rows = a.rows;
    modes = a.modes;
    tags =
        filter-append (is_partys_tag p) s.posted (record { party = party; tag = tag } ∷ [])
        ∙ ap (λ xs. xs ++ filter (is_partys_tag p) (record { party = party; tag = tag } ∷ [])) a.tags
        ∙ sym (filter-append (is_partys_tag p) t.posted (record { party = party; tag = tag } ∷ []));
    agents = a.agents;
    quota = a.quota;
  }

-- A change elsewhere.
module _ (p : Party) (s : State Text Own) where
  pub put-apart : (place : Place) (r : Row Text) → InOrder s → is_partys p place.0 ≡ false → Alike p (with_row s place r) s
  put-apart place r order is = record {
    rows = put-other (is_partys p) place r s.rows order is;
    modes = λ u own. refl;
    tags = refl;
    agents = refl;
    quota = refl;
  }

  pub file-apart : (place : Place) (change : FileRow Text → FileRow Text) → is_partys p place.0 ≡ false → Alike p (with_file s place change) s
  file-apart place change is = record {
    rows = change-other (is_partys p) place change s.rows is;
    modes = λ u own. refl;
    tags = refl;
    agents = refl;
    quota = refl;
  }

  not_within : (place : Place) (unit : Text) (path : List Text) → is_partys p place.0 ≡ false → is_partys p unit ≡ true → not (is_within place (unit, path)) ≡ true
  not_within place unit path is own =
      elim (same_text place.0 unit) as (λ b. same_text place.0 unit ≡ b → not (b && begins_with place.1 path) ≡ true) [
        | true ↦ λ same. from_false (sym is ∙ ap (is_partys p) (equal_texts place.0 unit (sym same)) ∙ own)
        | false ↦ λ same. refl
      ] refl

  pub without-apart : (place : Place) → is_partys p place.0 ≡ false → Alike p (without s place) s
  without-apart place is = record {
    rows = filter-within (λ e. not (is_within place e.0)) (λ e. is_partys p e.0.0) (λ e own. not_within place e.0.0 e.0.1 is own) s.rows;
    modes = λ u own. refl;
    tags = refl;
    agents = refl;
    quota = refl;
  }

  pub mode-apart : (unit : Text) → is_partys p unit ≡ false → Alike p (with_mode s unit) s
  mode-apart unit is = record {
    rows = refl;
    modes = λ u own. any-insert u unit s.persistent ∙ ap (λ b. b || is_persistent s u) (other u own);
    tags = refl;
    agents = refl;
    quota = refl;
  }
    where
      other : (u : Text) → is_partys p u ≡ true → same_text u unit ≡ false
      other u own =
          elim (same_text u unit) as (λ b. same_text u unit ≡ b → b ≡ false) [
            | true ↦ λ same. sym (sym is ∙ ap (is_partys p) (sym (equal_texts u unit (sym same))) ∙ own)
            | false ↦ λ same. refl
          ] refl

  pub tag-apart : (party : Party) (tag : Text) → same_party p party ≡ false → Alike p (with_tag s party tag) s
  tag-apart party tag is = record {
    rows = refl;
    modes = λ u own. refl;
    tags =
        filter-append (is_partys_tag p) s.posted (record { party = party; tag = tag } ∷ [])
        ∙ ap (λ b. filter (is_partys_tag p) s.posted ++ cond b (record { party = party; tag = tag } ∷ []) []) is
        ∙ append-nil (filter (is_partys_tag p) s.posted);
    agents = refl;
    quota = refl;
  }

sub_one : (i : ℕ) → suc i - 1 ≡ i
sub_one i = omega arith

one_more : (i : ℕ) → 1 + i ≡ suc i
one_more i = omega arith

pub agent-apart : (p : Party) (s : State Text Own) (i : ℕ) (x : Agent Own) → same_party p (party_with (agent_of s (suc i)).key (suc i)) ≡ false → x.key ≡ (agent_of s (suc i)).key
    → Alike p (with_agent s (suc i) x) s
agent-apart p s i x is same = record {
  rows = refl;
  modes = λ u own. refl;
  tags = refl;
  agents =
      ap (λ j. seen_from p 1 (slice_set s.agents j x)) (sub_one i)
      ∙ other-set p 1 i s.agents x (ap (λ j. is_ours p j (agent_at s.agents i).key) (one_more i) ∙ is) same;
  quota = refl;
}

key_set : (agents : List (Agent Own)) (i : ℕ) (x : Agent Own) (key : Option Text) → x.key ≡ key → (agent_at agents i).key ≡ key → (agent_at (slice_set agents i x) i).key ≡ key
key_set [] i x key new old = old
key_set (a ∷ agents) zero x key new old = new
key_set (a ∷ agents) (suc i) x key new old = key_set agents i x key new old

key_sets : (agents : List (Agent Own)) (i j : ℕ) (x : Agent Own) → x.key ≡ (agent_at agents i).key → (agent_at (slice_set agents i x) j).key ≡ (agent_at agents j).key
key_sets [] i j x same = refl
key_sets (a ∷ agents) zero zero x same = same
key_sets (a ∷ agents) zero (suc j) x same = refl
key_sets (a ∷ agents) (suc i) zero x same = refl
key_sets (a ∷ agents) (suc i) (suc j) x same = key_sets agents i j x same

-- Every agent keeps its key where one is changed that keeps its own.
pub keys-act : (s : State Text Own) (i : ℕ) (x : Agent Own) → x.key ≡ (agent_of s (suc i)).key → (j : ℕ) → (agent_of (with_agent s (suc i) x) j).key ≡ (agent_of s j).key
keys-act s i x same zero = refl
keys-act s i x same (suc j) = ap (λ n. (agent_at (slice_set s.agents n x) j).key) (sub_one i) ∙ key_sets s.agents i j x same

-- An agent keeps its key.
pub key-acts : (s : State Text Own) (i : ℕ) (x : Agent Own) (key : Option Text) → x.key ≡ key → (agent_of s (suc i)).key ≡ key → (agent_of (with_agent s (suc i) x) (suc i)).key ≡ key
key-acts s i x key new old = ap (λ j. (agent_at (slice_set s.agents j x) i).key) (sub_one i) ∙ key_set s.agents i x key new old
