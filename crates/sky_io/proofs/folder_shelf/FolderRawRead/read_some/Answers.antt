use Rattle.sky_io.proofs.FileTexts.{folder_unread}
use Rattle.sky_io.proofs.folder_shelf.FolderRawRead.read_some.Goals as goal

pub returns-in-Err : goal.returns-in-Err
returns-in-Err g c = rw (← c.self.view_is) (folder_unread _ _ _ _ _ _ c.raw_fault.ensures.counted c.raw_fault.ensures.later)
