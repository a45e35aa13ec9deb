use Rattle.std.proofs.Common.{◌≡◌, ℕ, ◌<◌, ◌∷◌, [], ◌++◌, ap, subst, sym, ◌∙◌, Bool, List, take, drop, length, get_or}
use Rattle.opfs_base.specs.Texts.{Text}
use Rattle.opfs_base.specs.Places.{Place}
use Rattle.opfs_tools.specs.Units.{UnitSeen}
use Rattle.opfs_tools.specs.declared.sights.Sight.{Sight}
use Rattle.opfs_tools.proofs.Merging.{added_more, has_first}
use Rattle.opfs_tools.proofs.units.add_first.Goals as goal

key_is : (c : goal.After-count_first) → c.key-key.result.now ≡ (get_or c.args.rows.now 0 c.index-rows-0.result).0.0
key_is c = c.key-key.ensures ∙ ap (λ (e : Place × Sight). e.0.0) c.index-rows-0.is

pub returns-clause-units : goal.returns-clause-units
returns-clause-units c =
    let key : Text = c.key-key.result.now in
    let units : List Text = c.args.persistent.now in
    let m : ℕ = length c.split_at.result.0.now in
    let m_is : m ≡ c.count_before.result = c.split_at.ensures.front_len in
    let before_is : c.split_at.result.0.now ≡ take m units = c.split_at.ensures.front ∙ ap (λ k. take k units) (sym m_is) in
    let from_is : c.split_at.result.1.now ≡ drop m units = c.split_at.ensures.back ∙ ap (λ k. drop k units) (sym m_is) in
    added_more c.args.rows.now c.index-rows-0.result key units c.count_within-count.result m c.count_first.result c.make-unit.result c.split_at.result.0.now c.split_at.result.1.now
    c.args.units.now.items c.push.new.self.items c.requires.some (key_is c) c.count_within-count.ensures.same (m_is ∙ c.count_before.ensures.same) before_is from_is c.count_first.ensures.same
    (c.make-unit.ensures ∙ ap (λ (p : Bool). record { key = key; persistent = p; rows = take c.count_within-count.result c.args.rows.now }) c.is_first.ensures) (c.in_ok-push.ensures.items ∙ ap (λ (xs : List UnitSeen). xs ++ c.make-unit.result ∷ []) c.in_ok-add_alone.ensures)

pub returns-clause-some : goal.returns-clause-some
returns-clause-some c = subst (λ (n : ℕ). 0 < n) (sym c.count_within-count.ensures.same) (has_first c.args.rows.now c.index-rows-0.result c.key-key.result.now c.requires.some (key_is c))
