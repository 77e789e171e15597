-- `jitter_alone` meets its contract.
use Rattle.config.proofs.Bounds as Bounds
use Rattle.model.specs.Rules.{estimate_in}
use Rattle.model.specs.Poll.{delay_of}
use Rattle.model.proofs.jitter_alone.Goals as goal

pub returns : goal.returns
unfolding estimate_in delay_of
returns c = record { without_rtx = λ q e. rw e; by_jitter = λ q e p. rw e (Bounds.jitter_alone q.config.settings q.jitter q.loss p) }
