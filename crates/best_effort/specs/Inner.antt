-- What a clause reads of a `BestEffort`.
use Rattle.best_effort.specs.declared.BestEffort.{BestEffort}

-- the writer that it was made over
abbrev pub inner_of : {W : Type 0} → BestEffort W → W
inner_of w = w.inner
