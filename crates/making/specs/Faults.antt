-- The number of what is at fault with a line: that of its sentence, as docs/TEXT.md has them.
use Rattle.std.specs.Prelude.{ℕ}
use Rattle.making.specs.declared.Fault.{Fault}
use Rattle.making.specs.declared.Fault.TheVariants.{TooLong, NoNumbers, RunDue, RowsDue, SayDue}

abbrev pub fault_number : Fault → ℕ
fault_number TooLong = 1
fault_number NoNumbers = 2
fault_number RunDue = 3
fault_number RowsDue = 4
fault_number SayDue = 5
