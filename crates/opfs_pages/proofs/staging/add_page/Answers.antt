use Rattle.std.proofs.Common.{refl}
use Rattle.opfs_pages.specs.Copies.{IsNamed}
use Rattle.opfs_pages.proofs.Named.{named_write, named_move, one_named, right_write, right_move}
use Rattle.opfs_pages.proofs.staging.add_page.Goals as goal

pub returns-in_ok-add_own-in-Some-clause-right : goal.returns-in_ok-add_own-in-Some-clause-right
returns-in_ok-add_own-in-Some-clause-right c = λ row given is old.
    right_write row given c.args.writes.now c.add_own.new.self _ (c.in_ok-add_own-in-Some.ensures.added given) (c.in_ok-add_own-in-Some.ensures.moves given) (is, tt) old

pub returns-in_ok-add_own-in-Some-clause-named : goal.returns-in_ok-add_own-in-Some-clause-named
returns-in_ok-add_own-in-Some-clause-named c = λ given p named.
    named_write c.args.writes.now c.add_own.new.self given _ p (c.in_ok-add_own-in-Some.ensures.added given) (c.in_ok-add_own-in-Some.ensures.moves given) (one_named (record { page = c.args.page; block = c.in-Some.block; bytes = c.args.bytes.now }) c.args.page p (IsNamed c.args.writes.now given p) refl named)

pub returns-in_ok-add_own_move-in-None-clause-right : goal.returns-in_ok-add_own_move-in-None-clause-right
returns-in_ok-add_own_move-in-None-clause-right c = λ row given is old.
    right_move row given c.args.writes.now c.add_own_move.new.self _ (c.in_ok-add_own_move-in-None.ensures.added given) (c.in_ok-add_own_move-in-None.ensures.writes given) (is, tt) old

pub returns-in_ok-add_own_move-in-None-clause-named : goal.returns-in_ok-add_own_move-in-None-clause-named
returns-in_ok-add_own_move-in-None-clause-named c = λ given p named.
    named_move c.args.writes.now c.add_own_move.new.self given _ p (c.in_ok-add_own_move-in-None.ensures.added given) (c.in_ok-add_own_move-in-None.ensures.writes given) (one_named (record { page = c.args.page; block = 0; bytes = c.args.bytes.now }) c.args.page p (IsNamed c.args.writes.now given p) refl named)
