use Rattle.std.proofs.Common.{◌+◌, ◌-◌, length}
use Rattle.sky_io.proofs.FileTexts.{Reading}
use Rattle.sky_io.proofs.file_shelf.read_start.Given as goal

-- the bytes read and those that are left are the text, and no more than one byte past the limit was read
abbrev pub invariant-loop-buffer : goal.invariant-loop-buffer
invariant-loop-buffer g l = Reading (g.D.RawRead.state l.fn.files) (g.D.RawRead.state l.files) (g.D.RawRead.rest l.fn.file) (g.D.RawRead.rest l.file) l.limit l.into.items

abbrev pub decreases-loop-buffer : goal.decreases-loop-buffer
decreases-loop-buffer g l = l.limit + 1 - length l.into.items
