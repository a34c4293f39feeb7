-- `records_compute` on an `unfolding` line opens the definitions of records, so that a closed run computes.
use Rattle.records.specs.Numbers.{category_of}
use Rattle.records.specs.Lives.{moved_record, is_controlled, classed, passed_record}

unfoldable pub records_compute : Unit {0}
unfolding category_of moved_record is_controlled classed passed_record
records_compute = tt
