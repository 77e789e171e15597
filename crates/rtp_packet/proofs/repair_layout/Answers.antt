-- `repair_layout`: two bytes are written and read at the front of the payload.
use mathlib.Core.Path.{◌≡◌, refl, ◌∙◌, ap}
use mathlib.Core.List.{List, [], ◌++◌}
use Prim.Native.Nat.{ℕ, ◌≤◌}
use native.Mathlib.Omega.{arith}
use lib.Dec.{ltb}
use lib.ListN.{length, drop, length-append, take-append-drop}
use lib.Seq.{drop_at}
use borrow.Author.Tests.{le-ltb, ltb-false}
use Rattle.refusals.specs.Refusals.{no_original_number, refuse_if}
use Rattle.refusals.proofs.Laws.{passes-last}
use Rattle.rtp_packet.specs.Original.{original_refusal, original_number, original_payload}
use Rattle.rtp_packet.specs.Layout.{RepairLayout, EachBelow, bytes_of, repair_of}
use Rattle.rtp_packet.proofs.Bytes.{length-bytes_of, number_at, bytes-at}
use Rattle.rtp_packet.proofs.repair_layout.Goals as goal

passes : (n : ℕ) (p : List ℕ) → original_refusal (repair_of n p) ≡ 0
unfolding original_refusal repair_of refuse_if
passes n p = rw (le-ltb (length (bytes_of 2 n ++ p)) 2 (omega (arith, length-append (bytes_of 2 n) p, length-bytes_of 2 n)))

every_accepted : (q : List ℕ) → EachBelow 256 q → original_refusal q ≡ 0 → repair_of (original_number q) (original_payload q) ≡ q
unfolding original_refusal original_number original_payload repair_of
every_accepted q small e =
    let long : 2 ≤ length q = ltb-false (length q) 2 (passes-last (ltb (length q) 2) no_original_number (omega arith) e) in
    ap (λ (l : List ℕ). l ++ drop 2 q) (bytes-at 2 0 q small (omega arith)) ∙ take-append-drop 2 q

repair_layout : RepairLayout
unfolding original_number original_payload repair_of
repair_layout = record {
  number_back = λ n p h. number_at 2 n [] p 0 refl h;
  payload_back = λ n p. drop_at (bytes_of 2 n) p 2 (length-bytes_of 2 n);
  passes = passes;
  every_accepted = every_accepted;
}

pub returns : goal.returns
returns c = repair_layout
