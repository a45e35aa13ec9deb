-- A body's changes, applied one after another.
use Rattle.std.proofs.Common.{◌≡◌, ℕ, zero, suc, ◌≤◌, ◌<◌, List, [], ◌∷◌, length, Option, Some, None, refl, sym, ap, ◌∙◌, arith}
use Rattle.opfs_codec.specs.declared.change.Format.{Format}
use Rattle.opfs_codec.specs.declared.change.Change.{Change}
use Rattle.opfs_codec.specs.Reading.{◌>>=◌}
use Rattle.opfs_codec.specs.Reading.{change_at as change_read}
use Rattle.opfs_records.specs.Replay.Built.{Built}
use Rattle.opfs_records.specs.Replay.Applying.{tried, built_within}

-- What was applied, and what is left: so many changes at most build the whole from what was built.
pub record IsBegun (f : Format) (size : ℕ) (rest : List ℕ) (built : Built) (whole : Option Built) (now quota quota_now : ℕ) : Type 0 where
  pub most : ℕ
  pub enough : length rest ≤ most
  pub builds : built_within most f size rest built ≡ whole
  pub same_size : now ≡ size
  pub same_quota : quota_now ≡ quota

abbrev applied_then : Format → ℕ → ℕ → List ℕ → Option Built → Option Built
applied_then f size most after found = found >>= λ next. built_within most f size after next

abbrev read_then : Format → ℕ → ℕ → Built → Option (Change × List ℕ) → Option Built
read_then f size most built read = read >>= λ change. applied_then f size most change.1 (tried f size built change.0)

one_step : (f : Format) (size most : ℕ) (rest : List ℕ) (built : Built) → 0 < length rest → length rest ≤ most
    → (m : ℕ) × (most ≡ suc m) × (built_within most f size rest built ≡ read_then f size m built (change_read f rest))
unfolding built_within
one_step f size most [] built some enough = absurd (omega arith)
one_step f size zero (byte ∷ bytes) built some enough = absurd (omega arith)
one_step f size (suc m) (byte ∷ bytes) built some enough = (m, refl, refl)

nothing_left : (f : Format) (size most : ℕ) (rest : List ℕ) (built : Built) → length rest ≡ 0 → built_within most f size rest built ≡ Some built
unfolding built_within
nothing_left f size zero [] built h = refl
nothing_left f size (suc m) [] built h = refl
nothing_left f size most (x ∷ xs) built h = absurd (omega arith)

module _ (f : Format) (size : ℕ) (rest : List ℕ) (built : Built) (whole : Option Built) (now quota quota_now : ℕ) where
  pub read_none : IsBegun f size rest built whole now quota quota_now → 0 < length rest → change_read f rest ≡ None → whole ≡ None
  read_none begun some none =
      let step = one_step f size begun.most rest built some begun.enough in
      sym begun.builds ∙ step.2 ∙ ap (read_then f size step.0 built) none

  pub apply_none : (c : Change) (after : List ℕ) → IsBegun f size rest built whole now quota quota_now → 0 < length rest → change_read f rest ≡ Some (c, after) → tried f size built c ≡ None → whole ≡ None
  apply_none c after begun some read none =
      let step = one_step f size begun.most rest built some begun.enough in
      sym begun.builds ∙ step.2 ∙ ap (read_then f size step.0 built) read ∙ ap (applied_then f size step.0 after) none

  pub goes_on : (c : Change) (after : List ℕ) (next : Built) (size_next quota_next : ℕ) → IsBegun f size rest built whole now quota quota_now → 0 < length rest → change_read f rest ≡ Some (c, after)
      → tried f size built c ≡ Some next → length after < length rest → size_next ≡ now → quota_next ≡ quota_now → IsBegun f size after next whole size_next quota quota_next
  goes_on c after next size_next quota_next begun some read found less sizes quotas =
      let step = one_step f size begun.most rest built some begun.enough in
      record {
        most = step.0;
        enough = omega (arith, step.1, begun.enough);
        builds = sym (sym begun.builds ∙ step.2 ∙ ap (read_then f size step.0 built) read ∙ ap (applied_then f size step.0 after) found);
        same_size = sizes ∙ begun.same_size;
        same_quota = quotas ∙ begun.same_quota;
      }

  pub all_done : IsBegun f size rest built whole now quota quota_now → length rest ≡ 0 → whole ≡ Some built
  all_done begun none = sym begun.builds ∙ nothing_left f size begun.most rest built none
