use Rattle.std.proofs.Common.{◌≡◌, refl, rules}
use Rattle.std.specs.String.{string_bytes}
use Rattle.sky_io.proofs.Fetches.{fetch_failed}
use Rattle.sky_io.proofs.file_shelf.FileShelfShelf.fetch.Goals as goal

pub returns-in-Failed-clause-fetched : goal.returns-in-Failed-clause-fetched
returns-in-Failed-clause-fetched g c =
    let named : string_bytes c.in-Ok.noted ≡ c.args.name.now = search rules in
    rw (← c.self.view_is) (fetch_failed _ _ _ _ _ _ c.note.ensures.answer c.clear-in-Failed.ensures.items c.read_file.ensures.texts (rw (c.note.ensures.noted, c.reserve.ensures.items, named) refl))
