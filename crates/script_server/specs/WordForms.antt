-- The survey that the arguments give, as the program represents it.
use Rattle.script_server.specs.Words.{ServeWords}
use Rattle.script_server.specs.declared.words.ReadWords.{ReadWords}

-- the survey to be served, with its names as lists of bytes
abbrev pub asked_by : ReadWords → ServeWords
asked_by it = record { sky = it.sky.now; catalogue = it.catalogue.now; workers = it.workers }
