use Rattle.std.proofs.Common.{◌≡◌, ◌++◌, ◌+◌, ◌*◌, take}
use Rattle.dc_shown.specs.Shown.{text, shown}
use Rattle.dc_shown.proofs.shown.+put_name.Given as goal

abbrev pub decreases-put_name : goal.decreases-put_name
decreases-put_name g l = 2 * l.depth

abbrev pub decreases-put_pieces : goal.decreases-put_pieces
decreases-put_pieces g l = 2 * l.depth + 1

abbrev pub invariant-put_pieces-loop-piece : goal.invariant-put_pieces-loop-piece
invariant-put_pieces-loop-piece g l = l.out ≡ l.initial.out ++ text (shown (g.N.Naming.told l.names) l.depth) (take l.piece-index l.pieces)
