-- The number given for a sheet to be drawn: exactly the first cause in the order gives it, and 0 is given exactly where there is none. Assumes nothing.
use Prim.Native.Nat.{ℕ, zero, suc, ◌≤◌}
use mathlib.Core.Path.{◌≡◌, sym, ◌∙◌}
use mathlib.Core.Bool.{true, true≢false}
use mathlib.Core.List.{List}
use mathlib.Core.Logic.{◌↔◌}
use lib.ListN.{length}
use borrow.Author.Tests.{ltb-true, lt-ltb}
use Rattle.refusal.specs.Cause.{There}
use Rattle.refusal.specs.Written.{kept}
use Rattle.refusal.proofs.Places.{cause_at, there_at, at_there}
use Rattle.refusal.proofs.Written.{written_iff, written_not}
use Rattle.turn.specs.declared.Counts.{Counts}
use Rattle.turn.proofs.Ranges.{outside_iff}
use Rattle.sheet.specs.Kind.{most_groomers, most_slopes, most_turns, shift_sheet}
use Rattle.sheet.specs.Read.{count_causes}
use Rattle.sheet.specs.Accepted.{Legal}
use Rattle.draw_spec.specs.Draw.{most_draw, Drawable}
use Rattle.draw_spec.specs.DrawnSheet.{drawn_sheet, seed_causes, draw_causes, draw_of}
use Rattle.draw_spec.specs.DrawCause.{DrawCause, bad_seed_cause, groomer_count, slope_count, turn_count_cause, FirstDrawCause, SeedCause}
use Rattle.draw_spec.proofs.DrawnSheets.{seed_numbered, seed_iff, draw_number_lem}
use Rattle.refusal.proofs.Words.{Within, Tells, says_tells, room_tells}
use Rattle.refusal.proofs.Outcome.{enough_iff}
use native.Mathlib.Omega.{arith}

module _ (seed : ℕ) (counts : Counts) (turns : ℕ) where
  place_cause : (k r : ℕ) → (cause_at (seed_causes seed counts turns) r).there ≡ true → k ≡ (cause_at (seed_causes seed counts turns) r).number → SeedCause seed counts turns k r
  unfolding seed_causes count_causes shift_sheet
  place_cause k zero e n = rw n (bad_seed_cause ((outside_iff seed most_draw).0 e))
  place_cause k (suc zero) e n = rw n (groomer_count ((outside_iff counts.groomers most_groomers).0 e))
  place_cause k (suc (suc zero)) e n = rw n (slope_count ((outside_iff counts.slopes most_slopes).0 e))
  place_cause k (suc (suc (suc zero))) e n = rw n (turn_count_cause (ltb-true most_turns turns e))
  place_cause k (suc (suc (suc (suc r)))) e n = absurd (true≢false (sym e))

  cause_place : {k r : ℕ} → SeedCause seed counts turns k r → There (seed_causes seed counts turns) k r
  unfolding seed_causes count_causes shift_sheet
  cause_place (bad_seed_cause h) = there_at (seed_causes seed counts turns) 0 ((outside_iff seed most_draw).1 h)
  cause_place (groomer_count h) = there_at (seed_causes seed counts turns) 1 ((outside_iff counts.groomers most_groomers).1 h)
  cause_place (slope_count h) = there_at (seed_causes seed counts turns) 2 ((outside_iff counts.slopes most_slopes).1 h)
  cause_place (turn_count_cause h) = there_at (seed_causes seed counts turns) 3 (lt-ltb most_turns turns h)

  seed_within : Within (SeedCause seed counts turns) 4
  seed_within k r (bad_seed_cause h) = omega arith
  seed_within k r (groomer_count h) = omega arith
  seed_within k r (slope_count h) = omega arith
  seed_within k r (turn_count_cause h) = omega arith

  -- the words tell what the list gives
  draw_tells : (places : ℕ) → Tells (DrawCause seed counts turns places) (draw_causes seed counts turns places)
  unfolding draw_causes
  draw_tells places =
      let numbers = seed_numbered seed counts turns in
      room_tells 4 seed_within (seed_causes seed counts turns) numbers
      (says_tells (SeedCause seed counts turns) (seed_causes seed counts turns) (λ k r. (cause_place, λ t. place_cause k r (at_there t).0 (at_there t).1)) numbers) _ places

module _ (seed : ℕ) (counts : Counts) (turns : ℕ) (lent : List ℕ) where
  -- k is given exactly where the first cause has number k
  pub draw_refused_iff : (k : ℕ) → (k ≡ 0 → ⊥) → ((draw_of seed counts turns lent).answer.refusal ≡ k) ↔ FirstDrawCause seed counts turns (length lent) k
  unfolding draw_of
  draw_refused_iff = written_iff (draw_causes seed counts turns (length lent)) _ lent (draw_tells seed counts turns (length lent))

  -- and 0 exactly for a seed that can be drawn and counts that a header may name, where the lent bytes hold the sheet
  pub draw_accepted_iff : ((draw_of seed counts turns lent).answer.refusal ≡ 0) ↔ (Drawable seed × Legal shift_sheet counts turns × (length (drawn_sheet seed counts turns) ≤ length lent))
  unfolding draw_causes
  draw_accepted_iff =
      let enough = enough_iff (seed_causes seed counts turns) (length lent) (length (drawn_sheet seed counts turns)) (seed_numbered seed counts turns) in
      let fine = seed_iff seed counts turns in (
        λ z. let h = enough.0 (sym (draw_number_lem seed counts turns lent) ∙ z) in let p = fine.0 h.0 in (p.0, p.1, h.1),
        λ h. draw_number_lem seed counts turns lent ∙ enough.1 (fine.1 (h.0, h.1), h.2),
      )

  -- a refusal leaves the lent bytes as they were, and says that none is written
  pub draw_unchanged : ((draw_of seed counts turns lent).answer.refusal ≡ 0 → ⊥) → draw_of seed counts turns lent ≡ kept (draw_of seed counts turns lent).answer.refusal lent
  unfolding draw_of
  draw_unchanged = written_not (draw_causes seed counts turns (length lent)) (drawn_sheet seed counts turns) lent
