use Rattle.std.proofs.Common.{◌≡◌, ◌≤◌, length, take, drop, rules}
use Rattle.sky_io.proofs.Sends.{from_place, copied_from}
use Rattle.sky_io.proofs.mem_files.MemFile.read.Goals as goal

pub returns-clause-bytes : goal.returns-clause-bytes
returns-clause-bytes c =
    let from = from_place c.self.inside.at c.self.inside.text.items in
    let few : c.min-count.result ≤ length (drop c.self.inside.at c.self.inside.text.items) = search rules in
    let copied : c.copy_from_slice.new.self ≡ take c.min-count.result (drop c.self.inside.at c.self.inside.text.items) = search rules in
    rw (← c.self.view_is) (copied_from _ _ _ _ _ copied few)
