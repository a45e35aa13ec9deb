use Rattle.std.proofs.Common.{◌≡◌, ◌++◌, ◌∷◌, [], sym, ap, ◌∙◌}
use Rattle.std.proofs.lemmas.Bool.{and_right, and_from}
use Rattle.opfs_records.proofs.replay.Parents.{can_make_at}
use Rattle.opfs_dump.proofs.loading.following.free_path.Goals as goal

pub returns-then-not-can_hold : goal.returns-then-not-can_hold
returns-then-not-can_hold c = λ form.
    let is : c.args.path ≡ c.from_vec-dir.result ++ c.in-Some.name ∷ [] = sym c.into_vec-names.ensures ∙ c.in-Some.ensures.items ∙ ap (λ xs. xs ++ c.in-Some.name ∷ []) (sym c.from_vec-dir.ensures) in
    can_make_at c.args.unit.now c.args.path c.from_vec-dir.result c.in-Some.name c.args.tree.now is ∙ and_right _ _ (sym c.can_hold.ensures ∙ c.if-not-can_hold.true)

pub returns-in-Ok : goal.returns-in-Ok
returns-in-Ok c =
    let is : c.args.path ≡ c.from_vec-dir.result ++ c.in-Some.name ∷ [] = sym c.into_vec-names.ensures ∙ c.in-Some.ensures.items ∙ ap (λ xs. xs ++ c.in-Some.name ∷ []) (sym c.from_vec-dir.ensures) in (
      c.from_vec.ensures ∙ c.in-Ok.ensures.items ∙ ap (λ xs. xs ++ c.in-Some.name ∷ []) c.into_vec-names-2.ensures ∙ sym is,
      can_make_at c.args.unit.now c.args.path c.from_vec-dir.result c.in-Some.name c.args.tree.now is ∙ and_from _ _ (sym c.is_free.ensures ∙ c.if-not-is_free.false) (sym c.can_hold.ensures ∙ c.if-not-can_hold.false),
    )
