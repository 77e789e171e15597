-- The steps of a `poll_nack`, in a list or on the wire: what its checks answer, what they pass, and what is left for the NACKs.
use Rattle.std.specs.Prelude.{◌≡◌, true, cond, ℕ, ◌*◌, ◌≤◌, eqb, length, Result, Ok, Err}
use Rattle.durations.specs.Seconds.{largest}
use Rattle.refusals.specs.Refusals.{or_else}
use Rattle.model.specs.Lists.{every?}
use Rattle.model.specs.Rules.{given_up_of}
use Rattle.model.specs.Poll.{timings_of, drained}
use Rattle.model.specs.Storage.{Stored, gap_words, parse, write}
use Rattle.model.specs.Table.{session_refusal, poll_nack_refusal}
use Rattle.packet_gaps.specs.Gaps.{instants_fit, Small}
use Rattle.poll.specs.Steps.{gaps_in}
use Rattle.poll.specs.declared.nack.Found.{Found}

-- what check 16 passed of the gaps; their instants are below the clock, which check 8 bounds
pub record Judging (m : Stored) : Type 0 where
  pub room : gap_words * m.session.gaps ≤ length m.storage.gaps
  pub small : Small (timings_of m.session.queue)
  pub instants : m.session.queue.clock ≤ largest → every? instants_fit (gaps_in m) ≡ true

unfoldable pub found_in : Stored → Found
found_in m = record { given = length (given_up_of m.session.queue.config.settings (gaps_in m)); timings = timings_of m.session.queue }

-- the number of the refusal, or what was found where it is 0
abbrev pub judged_by : {A : Type 0} → ℕ → A → Result A ℕ
judged_by refusal found = cond (eqb refusal 0) (Ok found) (Err refusal)

-- 15, 8 and 14, with an output of so many places
abbrev pub later_refusal : (places now : ℕ) → Stored → ℕ
later_refusal places now m = poll_nack_refusal m.session.queue.config.settings.max_gaps places now m.session.queue (gaps_in m)

-- 16, then those
unfoldable pub nack_refusal : (places now : ℕ) → Stored → ℕ
nack_refusal places now m = or_else (session_refusal m) (later_refusal places now m)

-- "Each refusal returns its number only"; where there is none, the clock is set, and the gaps given up are gone
unfoldable pub drained_by : (refusal now : ℕ) → Stored → Stored
drained_by refusal now m = cond (eqb refusal 0) (write (drained now (parse m))) m
