-- The nine bytes that are copied to the front are the heading's. Assumes nothing.
use Rattle.runfile.specs.File.{in_bytes}
use Rattle.runfile.specs.Inside.{first_nine}
use Rattle.runfile.specs.Write.{at_front}
use Rattle.runfile.proofs.write.put_nine.Goals as goal

pub returns : goal.returns
unfolding at_front first_nine in_bytes
returns c = rw (c.copy_from_slice.ensures.after, c.to_be_bytes.ensures)
