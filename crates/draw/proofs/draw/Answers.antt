-- draw: draws turns from any seed with any counts, and writes their sheet into any lent bytes.
use mathlib.Core.Path.{refl}
use Rattle.refusal.proofs.Numbers.{no_zero}
use Rattle.draw.proofs.Drawings.{seed_in_word, groomer_count_fits, slope_count_fits, turn_count_fits, draw_refused, draw_fine, draw_cases}
use borrow.Author.Rules.{rules}
use Rattle.draw.proofs.draw.Goals as goal

pub returns-in-Err : goal.returns-in-Err
returns-in-Err c =
    draw_refused _ _ _ _ c.in-Err.ensures _ (no_zero c.in-Err.fault) c.refused.ensures

pub overflow_cast-counts : goal.overflow_cast-counts
overflow_cast-counts c = groomer_count_fits _ _ _ _ c.in-Ok.ensures refl

pub overflow_cast-counts-in-Ok : goal.overflow_cast-counts-in-Ok
overflow_cast-counts-in-Ok c = slope_count_fits _ _ _ _ c.in-Ok.ensures refl

pub overflow_cast-seed : goal.overflow_cast-seed
overflow_cast-seed c = seed_in_word _ _ _ _ c.in-Ok.ensures refl

pub overflow_cast-turns : goal.overflow_cast-turns
overflow_cast-turns c = turn_count_fits _ _ _ _ c.in-Ok.ensures refl

pub write_drawn-requires : goal.write_drawn-requires
write_drawn-requires c = search (rules, draw_cases)

pub returns-in-Ok : goal.returns-in-Ok
returns-in-Ok c = draw_fine _ _ _ _ c.in-Ok.ensures refl _ c.write_drawn.ensures
