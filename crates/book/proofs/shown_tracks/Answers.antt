-- `book::shown_tracks` meets its contract: what it ensures is proved in Yields.
use Rattle.book.proofs.Yields.{shown-tracks}
use Rattle.book.proofs.shown_tracks.Goals as goal

pub returns : goal.returns
returns c = shown-tracks
