-- Limits worked by hand, through the definition that the entry's contract cites (request P-1). Assumes nothing.
use Rattle.std.specs.Prelude.{◌≡◌, [], ◌∷◌}
use Rattle.sheet.specs.Shift.{shift}
use Rattle.limit_spec.specs.Limit.{limit_is, limit_of}

pub record LimitCases : Type 0 where
  -- no prices: 150 of groomer 1 and 90 of groomer 2
  pub free : limit_of shift (0 ∷ 0 ∷ 0 ∷ 0 ∷ 0 ∷ 0 ∷ 0 ∷ []) ≡ limit_is 240
  -- 100 on slope 1: its turns count for nothing, the others for what they are worth
  pub one_slope : limit_of shift (100 ∷ 0 ∷ 0 ∷ 0 ∷ 0 ∷ 0 ∷ 0 ∷ []) ≡ limit_is 340
  -- 60, 40 and 10 on the slopes: the turns count for 40, 110, 20 and 80, so that the limit is 110 of prices, 110 and 80
  pub three_slopes : limit_of shift (60 ∷ 40 ∷ 10 ∷ 0 ∷ 0 ∷ 0 ∷ 0 ∷ []) ≡ limit_is 300
  -- the greatest prices: no turn counts, and no turn has a driver, so that three prices are left
  pub greatest : limit_of shift (65535 ∷ 65535 ∷ 65535 ∷ 65535 ∷ 65535 ∷ 65535 ∷ 65535 ∷ []) ≡ limit_is 196605
