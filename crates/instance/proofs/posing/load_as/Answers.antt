-- load_as: reads any bytes as a sheet of a kind into columns, the reader's answer beside them.
use mathlib.Core.Path.{refl}
use Rattle.refusal.specs.Failure.{number_of}
use Rattle.sheet.specs.Read.{read_refused}
use Rattle.std.proofs.Common.{arith}
use Rattle.std.proofs.lemmas.Result.{err_from_is_err_and}
use Rattle.refusal.proofs.Numbers.{number_from}
use Rattle.instance.proofs.Posed.{load_refused, load_few, load_room, load_fits, load_posed}
use borrow.Author.Rules.{rules}
use Rattle.instance.proofs.posing.load_as.Goals as goal

pub put_rows-requires : goal.put_rows-requires
put_rows-requires c =
    let e = c.in_ok-counts.ensures in
    (load_few _ c.requires _ _ _ _ e refl, load_room _ c.requires _ _ _ _ e refl, load_fits _ c.requires _ _ _ _ e refl)

pub returns-in_err-counts : goal.returns-in_err-counts
returns-in_err-counts c =
    let p = err_from_is_err_and c.from_residual.result c.from_residual.ensures.1 in
    let k = c.in_err-counts.field-0.0 in
    rw (p.1, p.2) (c.in_err-counts.ensures.0, load_refused (read_refused (number_of k)) (λ z. omega (arith, z, number_from k)))

pub returns : goal.returns
returns c =
    let e = c.in_ok-counts.ensures in
    (e.0, λ z. load_posed _ c.requires _ _ _ _ e refl _ (c.put_rows.ensures, search rules))
