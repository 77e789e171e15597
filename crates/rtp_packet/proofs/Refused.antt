-- The chain of `datagram_refusal`, check by check: the facts that lead to each number. Each law rewrites the tests by its facts.
use mathlib.Core.Path.{◌≡◌, ◌∙◌}
use mathlib.Core.Bool.{false, not}
use mathlib.Core.List.{List}
use Prim.Native.Nat.{ℕ, ◌≤◌, ◌<◌}
use native.Mathlib.Omega.{arith}
use lib.ListN.{length}
use lib.Dec.{eqb, ltb}
use borrow.Author.Tests.{lt-ltb, le-ltb, eq-eqb, ne_eqb, ltb-false, eqb-true, not-false}
use Rattle.refusals.specs.Refusals.{TRUNCATED, VERSION, PADDING, payload_too_large, payload_type, SSRC, refuse_if, or_else}
use Rattle.refusals.proofs.Laws.{passes, passes-last}
use Rattle.rtp_packet.specs.Header.{version, payload_type_of, ssrc, header_length, payload_of}
use Rattle.rtp_packet.specs.Datagram.{wrong_padding, datagram_refusal}

-- what the checks under 2, 3 and 4 leave
pub record Whole (d : List ℕ) : Type 0 where
  pub fixed_part : 12 ≤ length d
  pub is-version_2 : version d ≡ 2
  pub header-fits : header_length d ≤ length d
  pub right_padding : wrong_padding d ≡ false

-- what all checks leave
pub record Accepted (expected_type expected_ssrc largest : ℕ) (d : List ℕ) : Type 0 where
  pub whole : Whole d
  pub payload-fits : length (payload_of d) ≤ largest
  pub right_type : payload_type_of d ≡ expected_type
  pub right_ssrc : ssrc d ≡ expected_ssrc

module _ (t s largest : ℕ) (d : List ℕ) where
  pub wrong_version : 12 ≤ length d → (version d ≡ 2 → ⊥) → datagram_refusal t s largest d ≡ VERSION
  unfolding datagram_refusal or_else refuse_if
  wrong_version h v = rw (le-ltb _ _ h, ne_eqb _ _ v)

  -- what is left of the chain then
  of_whole : Whole d → datagram_refusal t s largest d
      ≡ or_else (refuse_if (ltb largest (length (payload_of d))) payload_too_large)
      (or_else (refuse_if (not (eqb (payload_type_of d) t)) payload_type)
      (refuse_if (not (eqb (ssrc d) s)) SSRC))
  unfolding datagram_refusal or_else refuse_if
  of_whole w = rw (le-ltb _ _ w.fixed_part, eq-eqb _ _ w.is-version_2, le-ltb _ _ w.header-fits, w.right_padding)

  pub too_large : Whole d → largest < length (payload_of d) → datagram_refusal t s largest d ≡ payload_too_large
  unfolding or_else refuse_if
  too_large w m = of_whole w ∙ rw (lt-ltb _ _ m)

  pub wrong_type : Whole d → length (payload_of d) ≤ largest → (payload_type_of d ≡ t → ⊥) → datagram_refusal t s largest d ≡ payload_type
  unfolding or_else refuse_if
  wrong_type w m p = of_whole w ∙ rw (le-ltb _ _ m, ne_eqb _ _ p)

  pub wrong_ssrc : Whole d → length (payload_of d) ≤ largest → payload_type_of d ≡ t → (ssrc d ≡ s → ⊥) → datagram_refusal t s largest d ≡ SSRC
  unfolding or_else refuse_if
  wrong_ssrc w m p q = of_whole w ∙ rw (le-ltb _ _ m, eq-eqb _ _ p, ne_eqb _ _ q)

  pub not-refused : Accepted t s largest d → datagram_refusal t s largest d ≡ 0
  unfolding or_else refuse_if
  not-refused a = of_whole a.whole ∙ rw (le-ltb _ _ a.payload-fits, eq-eqb _ _ a.right_type, eq-eqb _ _ a.right_ssrc)

  -- and back
  pub accepted : datagram_refusal t s largest d ≡ 0 → Accepted t s largest d
  unfolding datagram_refusal
  accepted e =
      let p1 = passes (ltb (length d) 12) TRUNCATED _ (omega arith) e in
      let p2 = passes (not (eqb (version d) 2)) VERSION _ (omega arith) p1.1 in
      let p3 = passes (ltb (length d) (header_length d)) TRUNCATED _ (omega arith) p2.1 in
      let p4 = passes (wrong_padding d) PADDING _ (omega arith) p3.1 in
      let p5 = passes (ltb largest (length (payload_of d))) payload_too_large _ (omega arith) p4.1 in
      let p6 = passes (not (eqb (payload_type_of d) t)) payload_type _ (omega arith) p5.1 in
      let p7 = passes-last (not (eqb (ssrc d) s)) SSRC (omega arith) p6.1 in
      record {
        whole = record {
          fixed_part = ltb-false _ _ p1.0;
          is-version_2 = eqb-true _ _ (not-false _ p2.0);
          header-fits = ltb-false _ _ p3.0;
          right_padding = p4.0;
        };
        payload-fits = ltb-false _ _ p5.0;
        right_type = eqb-true _ _ (not-false _ p6.0);
        right_ssrc = eqb-true _ _ (not-false _ p7);
      }
