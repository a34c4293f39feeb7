-- What a read past the end of an array of records would give.
use Rattle.curve.specs.Free.{free_curve}
use Rattle.records.specs.declared.Category.{Category}
use Rattle.records.specs.declared.Condition.{Condition}
use Rattle.records.specs.declared.EtRecord.{EtRecord}

abbrev pub zero_record : EtRecord
zero_record = record { curve = free_curve; category = Category.RF; condition = Condition.Undecided 0 }
