-- `report_pieces::roomy` meets its contract: the longest line fits into what is left of the room. Assumes nothing.
use Rattle.report_pieces.proofs.Pieces.{room-left}
use Rattle.report_pieces.proofs.roomy.Goals as goal

pub returns : goal.returns
returns c = room-left c.args.room c.args.at c.requires
