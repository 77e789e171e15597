-- `as_opened`: the opening's test of the settings is the one that the line's is made of.
use native.Mathlib.Omega.{arith}
use Rattle.std.proofs.lemmas.Bool.{and_parts, not-false}
use Rattle.refusals.specs.Refusals.{SETTINGS, SESSION, refuse_if, or_else}
use Rattle.refusals.proofs.Laws.{passes}
use Rattle.config.specs.Valid.{settings_valid, senders_valid}
use Rattle.model.specs.Storage.{lengths_fit}
use Rattle.model.specs.Table.{config_valid, opening_refusal}
use Rattle.settings_line.proofs.Lines.{opening}
use mathlib.Core.Bool.{not}
use Rattle.line_opening.proofs.as_opened.Goals as goal

pub returns : goal.returns
unfolding opening_refusal config_valid refuse_if or_else
returns c =
    record {
      opens = λ line s who t e w l. rw (opening.opens s line e, w, l);
      writes = λ c t out e z h. opening.writes c.settings out (and_parts (settings_valid c.settings) (senders_valid c.senders) (not-false (config_valid c) (passes (not (config_valid c)) SETTINGS (refuse_if (not (lengths_fit c.settings t)) SESSION) (omega arith) e).0)).0 z h;
    }
