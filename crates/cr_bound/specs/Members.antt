-- What a refused member is a fault of.
use Rattle.std.specs.Prelude.{◌≡◌}
use Rattle.cr_base.specs.declared.cause.IllCause.TheVariants as cause
use Rattle.cr_records.specs.declared.fault.RecordFault.{RecordFault}
use Rattle.cr_records.specs.declared.fault.RecordFault.TheVariants as record_fault
use Rattle.cr_names.specs.declared.fault.BindFault.{BindFault}
use Rattle.cr_names.specs.declared.fault.BindFault.TheVariants as fault

abbrev pub IsRefusal : RecordFault → BindFault → Type 0
IsRefusal (record_fault.Redeclared i) f = f ≡ fault.Ill cause.Redeclared i
IsRefusal record_fault.OutOfMemory f = f ≡ fault.OutOfMemory
