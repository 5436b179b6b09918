-- A shift's kind is one that the reader can go by, and a mark is compared as a list is. Assumes nothing.
use Prim.Native.Nat.{ℕ}
use mathlib.Core.Path.{◌≡◌}
use mathlib.Core.Bool.{true}
use mathlib.Core.List.{List}
use mathlib.Core.Logic.{◌↔◌}
use native.Mathlib.Omega.{arith}
use lib.ListN.{take}
use Rattle.wire.specs.Mark.{opens_with}
use Rattle.wire.proofs.Marks.{opens_iff}
use Rattle.sheet.specs.Kind.{Kind, shift_sheet, ThreeBytes, three, Sound}

pub shift_sheet_sound : Sound shift_sheet
unfolding shift_sheet
shift_sheet_sound =
    record {
      mark = three {a = 0x47} {b = 0x52} {c = 0x4D} (omega arith) (omega arith) (omega arith);
      groomers = omega arith;
      slopes = omega arith;
      turns = omega arith;
      numbers = record { counts = omega arith; turns = omega arith; slope = omega arith; groomer = omega arith };
    }

-- so is what a function gives for it
pub shift_sheet_given : {K : Kind} → K ≡ shift_sheet → Sound K
shift_sheet_given e = rw e shift_sheet_sound

pub mark_iff : {mark : List ℕ} → ThreeBytes mark → (s : List ℕ) → (opens_with mark s ≡ true) ↔ (take 3 s ≡ mark)
mark_iff (three {a = a} {b = b} {c = c} p q r) s = opens_iff a b c (omega arith) (omega arith) (omega arith) s
