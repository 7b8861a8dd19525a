-- A unit as its sum.
use Rattle.qcc_front.specs.declared.unit.Unit.{Unit as FirstUnit}
use Rattle.qcc_front.specs.Sum.{Sum}

abbrev pub sum_of : FirstUnit → Sum
sum_of u = record { first = u.first; rest = u.rest.items }
