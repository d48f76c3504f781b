use Rattle.std.proofs.Common.{◌≡◌, refl, rules}
use Rattle.std.specs.String.{string_bytes}
use Rattle.sky_io.proofs.Fetches.{fetch_failed}
use Rattle.sky_io.proofs.mem_shelf.MemShelfShelf.fetch.Goals as goal

pub returns-then-fails-clause-fetched : goal.returns-then-fails-clause-fetched
returns-then-fails-clause-fetched c =
    let named : string_bytes c.in-Ok.noted ≡ c.args.name.now = search rules in
    rw (← c.self.view_is) (fetch_failed _ _ _ _ _ _ c.note.ensures.answer c.requires refl (rw (c.note.ensures.noted, c.reserve.ensures.items, named) refl))

pub returns-in-None-clause-fetched : goal.returns-in-None-clause-fetched
returns-in-None-clause-fetched c =
    let named : string_bytes c.in-Ok.noted ≡ c.args.name.now = search rules in
    rw (← c.self.view_is) (fetch_failed _ _ _ _ _ _ c.note-in-None.ensures.answer c.requires refl (rw (c.note-in-None.ensures.noted, c.reserve.ensures.items, named) refl))
