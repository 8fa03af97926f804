use Rattle.rinex_lines.proofs.Digits.{twelve}
use Rattle.rinex_lines.proofs.exact.twelve_digits.Goals as goal

pub returns : goal.returns
returns c =
    twelve c.args.number _ _ _ _ _ _ _ _ _ _ _ _ c.digit.ensures c.digit-2.ensures c.digit-3.ensures c.digit-4.ensures c.digit-5.ensures c.digit-6.ensures
    c.digit-7.ensures c.digit-8.ensures c.digit-9.ensures c.digit-10.ensures c.digit-11.ensures c.digit-12.ensures
