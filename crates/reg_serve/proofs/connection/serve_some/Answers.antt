use Rattle.std.proofs.Common.{arith}
use Rattle.std.proofs.lemmas.List.{length-take-le}
use Rattle.reg_serve.proofs.Turning.{failed_otherwise, other_rests, piece_rests, served_piece, session_still, session_end}
use Rattle.reg_serve.proofs.Upkeep.{session_piece_up, up_still}
use Rattle.reg_serve.proofs.connection.serve_some.Goals as goal

-- a read failed
pub returns-in-Err-clause-session : goal.returns-in-Err-clause-session
returns-in-Err-clause-session g c left first keeper h kept =
    other_rests g.K.Keeper _ _ _ _ _ _ _ _ failed_otherwise
    (session_still g.K.Keeper keeper _ _ _ _ c.args.service _ _ _ _ _ _ h kept c.in-Err.ensures.same c.in-Err.ensures.written (omega (arith, c.requires.some)) (λ taken counted. tt))

pub returns-in-Err-clause-keeps_up_to : goal.returns-in-Err-clause-keeps_up_to
returns-in-Err-clause-keeps_up_to g c left first keeper began h kept up =
    (returns-in-Err-clause-session g c left first keeper h kept, up_still g.K.Keeper keeper c.args.service.keeper c.args.service.state.history _ _ _ c.in-Err.ensures.written c.in-Err.ensures.marks up)

-- its bytes ended
pub returns-then-count-eq0-clause-session : goal.returns-then-count-eq0-clause-session
returns-then-count-eq0-clause-session g c left first keeper h kept =
    session_end g.K.Keeper keeper _ _ _ _ c.args.service _ _ _ _ _ _ _ h kept c.in-Ok.ensures.written c.in-Ok.ensures.bytes c.if-count-eq0.true (c.in-Ok.ensures.end c.if-count-eq0.true) c.requires.some c.requires.none

pub returns-then-count-eq0-clause-keeps_up_to : goal.returns-then-count-eq0-clause-keeps_up_to
returns-then-count-eq0-clause-keeps_up_to g c left first keeper began h kept up =
    (returns-then-count-eq0-clause-session g c left first keeper h kept, up_still g.K.Keeper keeper c.args.service.keeper c.args.service.state.history _ _ _ c.in-Ok.ensures.written c.in-Ok.ensures.marks up)

-- it ended in a piece
pub returns-in-Err-serve_piece-clause-session : goal.returns-in-Err-serve_piece-clause-session
returns-in-Err-serve_piece-clause-session g c left first keeper h kept =
    rw c.in-Err-serve_piece.ensures.left (piece_rests g.K.Keeper keeper c.args.service.keeper c.turns_are_of_all_bytes.ensures.fed _ _ _ _ _ _ _ _ _ _ _ _ h kept c.in-Ok.ensures.bytes (omega (arith, c.in-Ok.ensures.within, length-take-le _ _ c.in-Ok.ensures.filled))
    (rw c.in-Ok.ensures.written at c.in-Err-serve_piece.ensures.ended))

pub returns-in-Err-serve_piece-clause-keeps_up_to : goal.returns-in-Err-serve_piece-clause-keeps_up_to
returns-in-Err-serve_piece-clause-keeps_up_to g c left first keeper began h kept up =
    rw c.in-Err-serve_piece.ensures.left (session_piece_up g.K.Keeper keeper c.args.service.keeper c.turns_are_of_all_bytes.ensures.fed _ _ _ _ _ _ _ _ _ _ _ _ _ _ h kept c.in-Ok.ensures.bytes (omega (arith, c.in-Ok.ensures.within, length-take-le _ _ c.in-Ok.ensures.filled)) up
    (rw (c.in-Ok.ensures.written, c.in-Ok.ensures.marks) at c.in-Err-serve_piece.ensures.keeps_up_to))

-- a piece more was read, and its messages answered
pub returns-in-Ok-serve_piece-clause-served : goal.returns-in-Ok-serve_piece-clause-served
returns-in-Ok-serve_piece-clause-served g c left first h =
    rw c.in-Ok-serve_piece.ensures.left (served_piece c.turns_are_of_all_bytes.ensures.fed _ _ _ _ _ _ _ _ _ _ _ h c.in-Ok.ensures.bytes (length-take-le _ _ c.in-Ok.ensures.filled) (rw c.in-Ok.ensures.written at c.in-Ok-serve_piece.ensures.served))

pub returns-in-Ok-serve_piece-clause-keeps_up : goal.returns-in-Ok-serve_piece-clause-keeps_up
returns-in-Ok-serve_piece-clause-keeps_up g c = rw (c.in-Ok.ensures.written, c.in-Ok.ensures.marks) at c.in-Ok-serve_piece.ensures.keeps_up
