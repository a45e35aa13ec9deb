use Rattle.std.proofs.Common.{◌≡◌, ◌+◌, ℕ, List, None, refl, sym, ap, subst, ◌∙◌, arith}
use Rattle.std.specs.Map.{lookup}
use Rattle.std.specs.FinMap.Entries.{put}
use Rattle.opfs_base.specs.Texts.{Text}
use Rattle.opfs_codec.specs.declared.change.Format.TheVariants.{New}
use Rattle.opfs_shed.specs.Buckets.{Storage, is_unit, text_cmp}
use Rattle.opfs_records.specs.Replay.Applying.{is_persistent}
use Rattle.opfs_records.specs.Replay.Kept.{persistent_bucket}
use Rattle.opfs_records.specs.Replay.Replaying.{Replayed}
use Rattle.opfs_records.specs.Replay.Sums.{key_bytes, persistent_in}
use Rattle.opfs_codec.specs.Spelling.{IsKey}
use Rattle.std.specs.List.{AllByRecursion}
use Rattle.opfs_records.proofs.replay.Writable.{insert_all}
use Rattle.opfs_records.proofs.replay.Persistent.{none_at, persisted, all_persistent_put, persistent_put, sorted_put, sum_put}
use Rattle.opfs_records.proofs.replay.replay.Replay.with_persistent.Goals as goal

pub invariant_of-result : goal.invariant_of-result
invariant_of-result c =
    let unit = c.args.unit.now in
    let es = c.self.inside.shed.buckets in
    let kept = c.self.invariant in
    let none : lookup (is_unit unit) es ≡ None = none_at unit es kept.modes (ap (λ (r : Replayed). is_persistent r.built unit) c.self.view_is ∙ c.requires.new) in
    let touched = c.in_ok-touch.ensures.touched in
    let now : c.set_persistent.new.self.buckets ≡ put text_cmp unit persistent_bucket es =
    persisted unit es c.set_persistent.new.self.buckets _ none refl (ap (λ (s : Storage). s.buckets) (rw touched at c.set_persistent.ensures.bucket)) in
    let cost : ℕ = 3 + key_bytes New unit in
    let charge : c.in_ok-charge.charge ≡ (3 + key_bytes New unit) + c.self.inside.charge = omega arith in
    rw now (record {
      files = kept.files;
      marked = kept.marked;
      few = kept.few;
      writable = (kept.writable.0, subst (AllByRecursion (IsKey New)) (sym (persistent_put unit es kept.modes)) (insert_all (IsKey New) unit (persistent_in es) c.requires.key kept.writable.1));
      modes = all_persistent_put unit es kept.modes;
      ordered = sorted_put unit es kept.ordered;
      sum = charge ∙ ap (λ (n : ℕ). (3 + key_bytes New unit) + n) kept.sum ∙ sym (sum_put (λ u. 3 + key_bytes New u) unit es kept.modes none);
    })

pub returns-clause-rows : goal.returns-clause-rows
returns-clause-rows c =
    let unit = c.args.unit.now in
    let es = c.self.inside.shed.buckets in
    let kept = c.self.invariant in
    let none : lookup (is_unit unit) es ≡ None = none_at unit es kept.modes (ap (λ (r : Replayed). is_persistent r.built unit) c.self.view_is ∙ c.requires.new) in
    let touched = c.in_ok-touch.ensures.touched in
    let now : c.set_persistent.new.self.buckets ≡ put text_cmp unit persistent_bucket es =
    persisted unit es c.set_persistent.new.self.buckets _ none refl (ap (λ (s : Storage). s.buckets) (rw touched at c.set_persistent.ensures.bucket)) in
    rw (← c.self.view_is, now) (ap (λ (us : List Text). record { rows = c.self.inside.tree; persistent = us }) (persistent_put unit es kept.modes))
