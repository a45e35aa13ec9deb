use Rattle.std.proofs.Common.{◌≡◌, ◌+◌, ◌/◌, min, length, arith, ap, ◌∙◌, refl}
use Rattle.opfs_base.specs.Blocks.{blocks}
use Rattle.opfs_work.specs.Pages.{CoversFar}
use Rattle.opfs_work.specs.Works.{WorkingCopy, IsWork}
use Rattle.opfs_work.proofs.Changing.{IsOver, pages_in-none}
use Rattle.opfs_work.proofs.Holding.{size_law}
use Rattle.opfs_work.proofs.Places.{byte_apart}
use Rattle.opfs_work.proofs.Writing.{plus_none, less_min, IsMarked, IsWoken, IsReady, wake_marked, ready, ready_over, ready_stored}
use Rattle.opfs_work.proofs.work.Work.lengthen.Goals as goal

pub wake-requires : goal.wake-requires
wake-requires c =
    let m : IsMarked c.args.self.now c.mark-2.new.self c.mark.inside.length c.args.size =
    record { kept = c.mark-2.ensures.kept; added = c.mark-2.ensures.added; rest = c.mark-2.ensures.rest } in
    wake_marked c.args.self.now c.mark-2.new.self _ c.args.size c.args.size m (omega (arith, c.requires.longer, ap (λ (w : WorkingCopy). w.length) c.mark.view_is)) (omega arith)

pub returns-clause-bytes : goal.returns-clause-bytes
returns-clause-bytes c = λ far.
    let from : c.mark.inside.length ≡ min c.args.self.now.length c.args.size = omega (arith, c.requires.longer, ap (λ (w : WorkingCopy). w.length) c.mark.view_is) in
    let marked : IsMarked c.args.self.now c.mark-2.new.self c.mark.inside.length c.args.size = record { kept = c.mark-2.ensures.kept; added = c.mark-2.ensures.added; rest = c.mark-2.ensures.rest } in
    let woken : IsWoken c.mark-2.new.self c.wake.new.self c.args.size =
    record { bytes = c.wake.ensures.bytes; alike = c.wake.ensures.alike; others = c.wake.ensures.others; awake = c.wake.ensures.awake; near = c.wake.ensures.near; rest = c.wake.ensures.rest } in
    let r : IsReady c.args.self.now c.wake.new.self (min c.args.self.now.length c.args.size) c.args.size c.args.size =
    rw from at (ready c.args.self.now c.mark-2.new.self c.wake.new.self c.mark.inside.length c.args.size c.args.size marked woken) in
    let is : IsWork c.args.self.now.pages c.args.self.now.room c.args.self.now.length c.args.self.now.reserve = rw (← c.mark.view_is) c.mark.invariant.0 in
    let longer : c.stretch.new.self.length ≡ c.args.size = omega (arith, c.stretch.ensures.length, r.length_is, c.requires.longer) in
    rw longer
    (size_law far c.args.self.now.pages c.stretch.new.self.pages _ c.args.self.now.length _ c.args.size is c.requires.near.whole
    (λ i. byte_apart far c.wake.new.self.pages c.stretch.new.self.pages i (c.stretch.ensures.same (i / 4096)) ∙ r.bytes far i))

pub returns-clause-stored : goal.returns-clause-stored
returns-clause-stored c = λ k stored.
    let from : c.mark.inside.length ≡ min c.args.self.now.length c.args.size = omega (arith, c.requires.longer, ap (λ (w : WorkingCopy). w.length) c.mark.view_is) in
    let marked : IsMarked c.args.self.now c.mark-2.new.self c.mark.inside.length c.args.size = record { kept = c.mark-2.ensures.kept; added = c.mark-2.ensures.added; rest = c.mark-2.ensures.rest } in
    let woken : IsWoken c.mark-2.new.self c.wake.new.self c.args.size =
    record { bytes = c.wake.ensures.bytes; alike = c.wake.ensures.alike; others = c.wake.ensures.others; awake = c.wake.ensures.awake; near = c.wake.ensures.near; rest = c.wake.ensures.rest } in
    let r : IsReady c.args.self.now c.wake.new.self (min c.args.self.now.length c.args.size) c.args.size c.args.size =
    rw from at (ready c.args.self.now c.mark-2.new.self c.wake.new.self c.mark.inside.length c.args.size c.args.size marked woken) in
    let pages : length c.args.self.now.pages ≡ blocks c.args.self.now.length = rw (← c.mark.view_is) c.mark.invariant.0.pages_are in
    let ready' : IsReady c.args.self.now c.wake.new.self (min c.args.self.now.length c.args.size) c.args.size (c.args.size + 0) = rw (plus_none c.args.size) r in
    let over : IsOver c.args.self.now.pages c.wake.new.self.pages c.stretch.new.self.pages c.args.self.now.length c.args.size 0 =
    ready_over c.args.self.now c.wake.new.self c.stretch.new.self.pages c.args.size 0 ready' (λ k below. c.stretch.ensures.same k) (λ k past. c.stretch.ensures.same k) (λ k above below. absurd (omega (arith, pages_in-none c.args.size 0 refl))) in
    let covers : CoversFar c.args.self.now.pages (min c.args.self.now.length c.args.size) (c.args.size + 0) = rw (plus_none c.args.size, less_min c.args.self.now.length c.args.size c.requires.longer) c.requires.near.whole in
    ready_stored c.args.self.now c.wake.new.self c.stretch.new.self c.args.size 0 k ready' over pages covers
    (ap (λ (w : WorkingCopy). w.changed_from) c.stretch.ensures.rest) (ap (λ (w : WorkingCopy). w.changed_to) c.stretch.ensures.rest) stored
