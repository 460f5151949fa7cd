use Rattle.dc_lexer.proofs.WholeText.{space_moves}
use Rattle.dc_lexer.proofs.Needed.{room_needed}
use Rattle.dc_lexer.proofs.spaces.space_moves.Goals as goal

pub returns-clause-moves : goal.returns-clause-moves
returns-clause-moves c = space_moves

pub returns-clause-needed : goal.returns-clause-needed
returns-clause-needed c = room_needed
