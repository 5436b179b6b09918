-- seed_fault: the first thing wrong with the seed or the counts, or 0.
use Rattle.draw.proofs.Drawings.{seed_cases}
use borrow.Author.Rules.{rules}
use Rattle.draw.proofs.seed_fault.Goals as goal

pub returns-then-seed-eq0 : goal.returns-then-seed-eq0
returns-then-seed-eq0 c = search (rules, seed_cases)

pub returns-then-seed-ge-DRAW_MODULUS : goal.returns-then-seed-ge-DRAW_MODULUS
returns-then-seed-ge-DRAW_MODULUS c = search (rules, seed_cases)

pub returns : goal.returns
returns c = search (rules, seed_cases)
