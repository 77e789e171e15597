-- `pairing`: each part is a law of proofs/; the examples are computed.
use mathlib.Core.Path.{refl}
use Rattle.nack_pairs.specs.Pairs.{grown, shut, from, pairs, marked, named}
use Rattle.nack_pairs.specs.Wire.{bytes_of, wire, entries}
use Rattle.nack_pairs.specs.Reader.{named16, numbers_in}
use Rattle.nack_pairs.proofs.Chain.{pairs-names, pairs-apart}
use Rattle.nack_pairs.proofs.Fewest.{pairs_fewest}
use Rattle.nack_pairs.proofs.Back.{entries-back, numbers-room}
use Rattle.nack_pairs.proofs.Unmasking.{entries-taken}
use Rattle.nack_pairs.proofs.pairing.Goals as goal

pub returns : goal.returns
unfolding entries wire bytes_of pairs from shut grown numbers_in named16 named marked
returns c = record { names = pairs-names; apart = pairs-apart; shortest = pairs_fewest; read_back_of = entries-back; taken = entries-taken; room = numbers-room; example = refl; example_back = refl }
