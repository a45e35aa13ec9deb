use Rattle.std.proofs.Common.{◌≡◌, ◌≢◌, IfSome, [], sym, subst}
use Rattle.opfs_port.specs.Lines.{IsPiece, before_feed}
use Rattle.opfs_port.proofs.Pieces.{whole_line, last_line, heard_at_end, long_heard}
use Rattle.opfs_port.proofs.reading.read_line.Goals as goal

pub returns-in-Whole-clause-known : goal.returns-in-Whole-clause-known
returns-in-Whole-clause-known g c =
    let a = g.R.Read.remaining c.args.reader.now in
    let b = g.R.Read.remaining c.loop.reader in
    let n = g.R.Read.remaining c.take_piece.new.reader in
    let p = subst (λ k. IsPiece k c.args.most b n c.loop.line.items c.take_piece.new.line.items) c.in-Whole.is c.in_ok-take_piece.ensures.piece in
    subst (λ l. IfSome a (λ xs. (xs ≢ []) × (l ≡ before_feed xs))) (sym p.2) (whole_line c.loop.line.items p.0 c.loop.invariant.clean p.1 a b n c.loop.invariant.bytes p.3).0

pub returns-in-Whole-clause-rest : goal.returns-in-Whole-clause-rest
returns-in-Whole-clause-rest g c =
    let a = g.R.Read.remaining c.args.reader.now in
    let b = g.R.Read.remaining c.loop.reader in
    let n = g.R.Read.remaining c.take_piece.new.reader in
    let p = subst (λ k. IsPiece k c.args.most b n c.loop.line.items c.take_piece.new.line.items) c.in-Whole.is c.in_ok-take_piece.ensures.piece in
    (whole_line c.loop.line.items p.0 c.loop.invariant.clean p.1 a b n c.loop.invariant.bytes p.3).1

pub returns-in-End-clause-known : goal.returns-in-End-clause-known
returns-in-End-clause-known g c =
    let a = g.R.Read.remaining c.args.reader.now in
    let b = g.R.Read.remaining c.loop.reader in
    let n = g.R.Read.remaining c.take_piece.new.reader in
    let new = c.take_piece.new.line.items in
    let p = subst (λ k. IsPiece k c.args.most b n c.loop.line.items new) c.in-End.is c.in_ok-take_piece.ensures.piece in
    heard_at_end a new c.last.result c.args.most
    (subst (λ l. IfSome a (λ xs. (xs ≡ l) × (l ≡ before_feed xs))) (sym p.0) (last_line c.loop.line.items c.loop.invariant.clean a b n c.loop.invariant.bytes p.1 p.2).0)
    c.last.ensures.none c.last.ensures.some

pub returns-in-End-clause-rest : goal.returns-in-End-clause-rest
returns-in-End-clause-rest g c =
    let a = g.R.Read.remaining c.args.reader.now in
    let b = g.R.Read.remaining c.loop.reader in
    let n = g.R.Read.remaining c.take_piece.new.reader in
    let p = subst (λ k. IsPiece k c.args.most b n c.loop.line.items c.take_piece.new.line.items) c.in-End.is c.in_ok-take_piece.ensures.piece in
    (last_line c.loop.line.items c.loop.invariant.clean a b n c.loop.invariant.bytes p.1 p.2).1

pub returns-in-TooLong-clause-known : goal.returns-in-TooLong-clause-known
returns-in-TooLong-clause-known g c =
    let a = g.R.Read.remaining c.args.reader.now in
    let b = g.R.Read.remaining c.loop.reader in
    let n = g.R.Read.remaining c.take_piece.new.reader in
    let p = subst (λ k. IsPiece k c.args.most b n c.loop.line.items c.take_piece.new.line.items) c.in-TooLong.is c.in_ok-take_piece.ensures.piece in
    (long_heard c.drop_line.result c.loop.line.items p.0 _ c.loop.invariant.clean p.1 a b n (g.R.Read.remaining c.drop_line.new.reader) c.args.most p.2 c.loop.invariant.bytes p.3 p.4
    c.drop_line.ensures.long c.drop_line.ensures.rest).0

pub returns-in-TooLong-clause-rest : goal.returns-in-TooLong-clause-rest
returns-in-TooLong-clause-rest g c =
    let a = g.R.Read.remaining c.args.reader.now in
    let b = g.R.Read.remaining c.loop.reader in
    let n = g.R.Read.remaining c.take_piece.new.reader in
    let p = subst (λ k. IsPiece k c.args.most b n c.loop.line.items c.take_piece.new.line.items) c.in-TooLong.is c.in_ok-take_piece.ensures.piece in
    (long_heard c.drop_line.result c.loop.line.items p.0 [] c.loop.invariant.clean p.1 a b n (g.R.Read.remaining c.drop_line.new.reader) c.args.most p.2 c.loop.invariant.bytes p.3 p.4
    c.drop_line.ensures.long c.drop_line.ensures.rest).1
