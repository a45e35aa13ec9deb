use Rattle.std.proofs.Common.{◌≡◌, ◌<◌, arith, true}
use Rattle.opfs_work.specs.declared.pages.Page.TheVariants.{Clean}
use Rattle.opfs_work.specs.Pages.{is_far, page_at, near_count}
use Rattle.opfs_work.proofs.Counts.{load_spare, far_there, far_away, kept_put}
use Rattle.opfs_work.proofs.table.Table.load.Goals as goal

pub spare_buffer-buffer-requires : goal.spare_buffer-buffer-requires
spare_buffer-buffer-requires c = load_spare c.self.inside.pages.items c.args.page _ _ _ _ _ c.self.invariant (rw (← c.self.view_is) at c.requires.far) (rw (← c.self.view_is) at c.requires.few)

pub invariant_of-self : goal.invariant_of-self
invariant_of-self c =
    let far : is_far (page_at c.self.inside.pages.items c.args.page) ≡ true = rw (← c.self.view_is) at c.requires.far in
    let few : near_count c.self.inside.pages.items < 256 = rw (← c.self.view_is) at c.requires.few in
    let away = far_away (page_at c.self.inside.pages.items c.args.page) far in
    kept_put c.self.inside.pages.items c.put-far.new.pages.items c.args.page (Clean c.load.new.self) _ _ _ _ _ _ _ _ _ c.self.invariant (far_there c.self.inside.pages.items c.args.page far) c.put-far.ensures.after
    (omega arith) (omega (arith, c.self.invariant.counted)) (omega (arith, c.spare_buffer-buffer.ensures.taken)) (omega (arith, c.put-far.ensures.places)) (omega (arith, c.spare_buffer-buffer.ensures.kept))
