-- `areas_compute` on an `unfolding` line opens the definitions of areas, so that a closed run computes.
use Rattle.areas.specs.Numbers.{event_of}
use Rattle.areas.specs.Rows.{rows, leads_in, is_taken, target_of}
use Rattle.areas.specs.Stays.{passed_stay, deletes_sections, covered_stay, area_speed}

unfoldable pub areas_compute : Unit {0}
unfolding event_of rows leads_in is_taken target_of passed_stay deletes_sections covered_stay area_speed
areas_compute = tt
