-- `book::rows` meets its contract: each row computes, the calls through the table of refusals and through storage.
use mathlib.Core.Path.{refl}
use mathlib.Core.List.{zip_with}
use lib.Ieee.{eq, of_int, le, of_bits, add, mul, sub}
use Rattle.words.specs.Blocks.{flat, blocks, laid}
use Rattle.words.specs.Order.{ascends}
use Rattle.words.specs.Words.{padded_with, over}
use Rattle.rtp.specs.Numbers.{guessed}
use Rattle.refusals.specs.Refusals.{refuse_if, or_else}
use Rattle.packet_loss.specs.Loss.{loss_in_range, record_received}
use Rattle.jitter.specs.Interarrival.{jitter_in_range}
use Rattle.rtx_state.specs.Repair.{rtx_in_range}
use Rattle.rtx_state.specs.RoundTrip.{sampled_rtt}
use Rattle.rtx_state.specs.Drift.{smoothed, recurrence}
use Rattle.config.specs.Timings.{nack_timings}
use Rattle.config.specs.Valid.{most_attempts, mode_valid, settings_valid, senders_valid}
use Rattle.rtp_packet.specs.Datagram.{datagram_refusal, wrong_padding}
use Rattle.rtp_packet.specs.Header.{header_length, extension_start, extension_length, bit, payload_of, payload_end, padding_length, big_endian}
use Rattle.rtp_packet.specs.Original.{original_refusal, original_number, original_payload}
use Rattle.model.specs.Calls.{taken, answered}
use Rattle.model.specs.Did.{did, accepted}
use Rattle.model.specs.Lists.{every?, some?, following, keep}
use Rattle.model.specs.Push.{media_entry_of, extended_timestamp, extended_number, media_place, passed, after_queued, heard, insert_sorted, after_media, within_depth, last_after, count_received, jitter_after}
use Rattle.rtp.specs.Opt.{number_of, at_most}
use Rattle.model.specs.Records.{new_state, last_timestamp_of, highest_of}
use Rattle.model.specs.Rules.{extended, waits, place_of, gaps_after, gaps_from, between, below, fresh, estimate_in, timings_in, due_at}
use Rattle.model.specs.Storage.{write, lengths_fit, entries_laid, payloads_laid, gaps_laid, remembered_laid, parse, entries_of, gaps_of, remembered_of}
use Rattle.model.specs.Table.{refusal, session_refusal, session_sound, config_valid, call_refusal, media_refusal, clock_refusal, count_refusal, media_values, too_many_gaps, packet_refusal}
use Rattle.model.specs.Valid.{sound, counts_fit, queue_sound, last_sound, returned_sound, counters_sound, bounds_of, fields_sound, lists_sound, not_passed, by_clock}
use Rattle.book.specs.Book as B
use Rattle.book.specs.Claim.{calls, call, hear}
use Rattle.book.specs.Rows.{srtt_in, answer, RowsHold}
use Rattle.book.specs.Sorted.{sort}
use Rattle.book.proofs.rows.Goals as goal

-- Stays: the answer is what it unfolds: an attribute on the function would name each of these definitions by its whole path, in one line.
pub returns : goal.returns
unfolding zip_with eq of_int le of_bits add mul sub flat blocks laid ascends padded_with over guessed or_else loss_in_range record_received jitter_in_range rtx_in_range sampled_rtt most_attempts mode_valid settings_valid senders_valid datagram_refusal wrong_padding header_length extension_start extension_length bit payload_of payload_end padding_length big_endian original_refusal original_number original_payload taken answered did accepted every? some? following keep media_entry_of extended_timestamp extended_number media_place passed after_queued heard insert_sorted after_media within_depth last_after count_received jitter_after new_state number_of last_timestamp_of highest_of extended waits place_of gaps_after gaps_from between below fresh estimate_in timings_in due_at nack_timings write lengths_fit entries_laid payloads_laid gaps_laid remembered_laid parse entries_of gaps_of remembered_of refusal session_refusal refuse_if session_sound config_valid call_refusal media_refusal clock_refusal count_refusal media_values too_many_gaps packet_refusal sound counts_fit queue_sound last_sound returned_sound counters_sound bounds_of fields_sound lists_sound at_most not_passed by_clock B.expected B.accounted B.enter B.on_media B.highest B.empty B.within_depth B.arrive B.span_after B.push_out_of B.forgotten_by calls call hear answer srtt_in recurrence smoothed RowsHold sort
returns c = refl
