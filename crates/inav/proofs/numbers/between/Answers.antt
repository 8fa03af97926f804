use Rattle.inav.proofs.Ascending.{of_range}
use Rattle.inav.proofs.numbers.between.Goals as goal

pub returns-clause-those : goal.returns-clause-those
returns-clause-those c =
    of_range c.args.numbers.now c.count_below-start.result c.stop_of-stop.result c.stop_of-stop.ensures.from c.stop_of-stop.ensures.fits
    c.args.first c.args.end c.count_below-start.ensures.below c.count_below-start.ensures.above c.stop_of-stop.ensures.below c.stop_of-stop.ensures.above
