-- What the program prints, by the listing's answer; each premise in the form in which the code's calls and tests leave it. Assumes nothing.
use Prim.Native.Nat.{ℕ, ◌≤◌}
use mathlib.Core.Path.{◌≡◌, refl, sym, ◌∙◌, ap}
use mathlib.Core.List.{List, ◌++◌}
use native.Mathlib.Omega.{arith}
use native.Mathlib.Decide.{ℕ_discrete}
use lib.ListN.{length, take, drop, length-append}
use lib.Seq.{take_at}
use Rattle.refusal.specs.Cause.{first_of}
use Rattle.refusal.specs.Written.{Written, wrote, kept}
use Rattle.refusal.proofs.Written.{kept_before, wrote_enough}
use Rattle.wire.specs.Number.{puts}
use Rattle.wire.proofs.Puts.{puts_front, puts_length}
use Rattle.sheet.specs.Read.{sheet_causes}
use Rattle.sheet.proofs.Readings.{sheet_numbered}
use Rattle.sheet.proofs.Prefix.{prefix_refusal, prefix_same}
use Rattle.refusal.specs.declared.WriteAnswer.{WriteAnswer}
use Rattle.list_spec.specs.Text.{refused_line}
use Rattle.list_spec.specs.Limits.{input_bytes, listing_bytes}
use Rattle.list_spec.specs.List.{sheet_listing, list_causes, list_of}
use Rattle.refusal.specs.Outcome.{beside}
use Rattle.list_spec.proofs.Bytes.{listing_bytes_lem}
use Rattle.slopes.specs.Printed.{printed}
use Rattle.refusal.proofs.Outcome.{unless_none, unless_first}

-- ---- the two answers that there are, with room for every listing

module _ (s lent : List ℕ) (room : listing_bytes ≤ length lent) where
  list_fits : first_of (sheet_causes s) ≡ 0 → list_of s lent ≡ wrote (sheet_listing s) lent
  unfolding list_of list_causes
  list_fits z = wrote_enough (sheet_causes s) _ _ lent (sheet_numbered s) z (omega (arith, listing_bytes_lem s z))

  list_refuses : (first_of (sheet_causes s) ≡ 0 → ⊥) → list_of s lent ≡ kept (first_of (sheet_causes s)) lent
  unfolding list_of list_causes
  list_refuses z = kept_before (sheet_causes s) _ _ lent (first_of (sheet_causes s)) refl z

  module _ {a : WriteAnswer} {text : List ℕ} (e : beside a text ≡ list_of s lent) where
    accepted : a.refusal ≡ 0 → first_of (sheet_causes s) ≡ 0
    accepted f = go (ℕ_discrete (first_of (sheet_causes s)) 0)
      where
        go : Dec (first_of (sheet_causes s) ≡ 0) → first_of (sheet_causes s) ≡ 0
        go (yes z) = z
        go (no z) = absurd (z (sym (ap (λ (x : Written). x.answer.refusal) (e ∙ list_refuses z)) ∙ f))

    module _ (f : a.refusal ≡ 0) where
      found : beside a text ≡ wrote (sheet_listing s) lent
      found = e ∙ list_fits (accepted f)

      bytes_are : a.bytes ≡ length (sheet_listing s)
      bytes_are = ap (λ (x : Written). x.answer.bytes) found

      text_is : text ≡ sheet_listing s ++ drop (length (sheet_listing s)) lent
      text_is = ap (λ (x : Written). x.lent) found

      pub answer_fits : a.bytes ≤ length text
      answer_fits = rw text_is (omega (arith, bytes_are, length-append (sheet_listing s) (drop (length (sheet_listing s)) lent)))

      pub answer_listing : take a.bytes text ≡ printed s
      unfolding printed
      answer_listing = rw text_is (take_at (sheet_listing s) (drop (length (sheet_listing s)) lent) a.bytes (sym bytes_are)) ∙ sym (unless_none (sheet_causes s) (sheet_listing s) _ (accepted f))

    module _ (f : a.refusal ≡ 0 → ⊥) where
      refused : first_of (sheet_causes s) ≡ 0 → ⊥
      refused z = f (ap (λ (x : Written). x.answer.refusal) (e ∙ list_fits z))

      left : beside a text ≡ kept (first_of (sheet_causes s)) lent
      left = e ∙ list_refuses refused

      number_is : a.refusal ≡ first_of (sheet_causes s)
      number_is = ap (λ (x : Written). x.answer.refusal) left

      text_left : text ≡ lent
      text_left = ap (λ (x : Written). x.lent) left

      module _ {r : ℕ} {text' : List ℕ} (n : r ≡ length (refused_line a.refusal)) (m : r ≤ 12) (p : text' ≡ puts text 0 (refused_line a.refusal)) where
        pub line_fits : r ≤ length text'
        line_fits = rw p (omega (arith, puts_length (refused_line a.refusal) text 0, ap length text_left))

        pub answer_refused : take r text' ≡ printed s
        unfolding printed
        answer_refused =
            let l : length (refused_line a.refusal) ≤ length text = omega (arith, n, m, ap length text_left) in
            rw (p, puts_front (refused_line a.refusal) text l) (take_at (refused_line a.refusal) (drop (length (refused_line a.refusal)) text) r (sym n))
            ∙ sym (unless_first (sheet_causes s) (sheet_listing s) refused_line a.refusal (sym number_is) f)

pub ruleset answer_cases = (answer_fits, answer_listing, line_fits, answer_refused)

-- ---- what is printed depends on the bytes alone that are read

refused_prints : (s : List ℕ) (f : ℕ) → first_of (sheet_causes s) ≡ f → (f ≡ 0 → ⊥) → printed s ≡ refused_line f
unfolding printed
refused_prints s = unless_first (sheet_causes s) (sheet_listing s) refused_line

pub printed_first : (s : List ℕ) → printed (take input_bytes s) ≡ printed s
printed_first s = go (ℕ_discrete (first_of (sheet_causes s)) 0)
  where
    go : Dec (first_of (sheet_causes s) ≡ 0) → printed (take input_bytes s) ≡ printed s
    go (yes e) = ap printed (prefix_same s e)
    go (no f) = refused_prints (take input_bytes s) (first_of (sheet_causes s)) (prefix_refusal s) f ∙ sym (refused_prints s (first_of (sheet_causes s)) refl f)
