-- `only_line` meets its contract.
use Rattle.settings_line.proofs.Lines.{line_only}
use Rattle.settings_line.proofs.only_line.Goals as goal

pub returns : goal.returns
returns c = line_only
