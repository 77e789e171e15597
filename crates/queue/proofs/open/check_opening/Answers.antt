-- `check_opening` asks for the lengths where the settings are valid.
use mathlib.Core.Path.{sym, ap, ◌∙◌}
use mathlib.Core.Bool.{not}
use borrow.Author.Tests.{not-false}
use Rattle.storage.proofs.Checking.{valid_usable}
use Rattle.queue.proofs.open.check_opening.Goals as goal

pub lengths_fit-requires : goal.lengths_fit-requires
lengths_fit-requires c = let u = valid_usable c.args.config (sym c.config_valid.ensures ∙ not-false _ (ap not c.if-not-config_valid.false)) in (u.entries, u.gaps)
