-- `Hall::column` meets its contract: from k * n to k * n + n lies leader k's column. Assumes nothing.
use Rattle.gradecast.proofs.Columns.{part_column}
use Rattle.gradecast.proofs.hall.Hall.column.Goals as goal

pub returns : goal.returns
returns c = part_column _ _ _
