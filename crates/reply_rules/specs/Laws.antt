-- Facts about the lines of every transcript, and about the replies to requests.
use Rattle.std.specs.Prelude.{◌≡◌, true, ℕ, List, ◌++◌, Ok, All, codes}
use Rattle.std.specs.List.{list_all}
use Rattle.text_rules.specs.Readings.{joined}
use Rattle.table_rules.specs.Names.{is_name}
use Rattle.table_rules.specs.Objects.{Catalogue}
use Rattle.table_rules.specs.Records.{catalogue_of_records}
use Rattle.sky_rules.specs.Partition.{Partition}
use Rattle.session_script.specs.Scripts.{script_of}
use Rattle.session_script.specs.Views.{ScriptView}
use Rattle.session_rules.specs.declared.end.EndKind.{EndKind}
use Rattle.transcript_rules.specs.Transcripts.{transcript}
use Rattle.request_loop.specs.Replies.{AreReplies, long_line, memory_line}
use Rattle.reply_rules.specs.Lines.{EndsAtPlus, HasNoPlusLine, IsWholeLines}
use Rattle.reply_rules.specs.Found.{AreFound, replies_in}

-- each extra column has a name
abbrev pub IsNamed : Catalogue → Type 0
IsNamed c = list_all is_name c.names ≡ true

-- each extra column of the catalogue that records are accepted as has a name
abbrev pub AcceptedIsNamed : Type 0
AcceptedIsNamed =
    (records : List (List (List ℕ))) (c : Catalogue) → catalogue_of_records records ≡ Ok c → IsNamed c

-- something holds of the transcript of every script that is accepted, over any sky plan and any catalogue whose columns
-- have names, however its queries end
abbrev pub OfTranscripts : (List ℕ → Type 0) → Type 0
OfTranscripts Holds =
    (g : Partition) (c : Catalogue) (s : ScriptView) (ends : List EndKind)
    → IsNamed c → script_of s.text ≡ Ok s.steps → Holds (transcript g c s ends)

-- no line of a transcript begins with `+`
abbrev pub NoLineBeginsWithPlus : Type 0
NoLineBeginsWithPlus = OfTranscripts HasNoPlusLine

-- a transcript is whole lines
abbrev pub TranscriptsAreLines : Type 0
TranscriptsAreLines = OfTranscripts IsWholeLines

-- the reply to an accepted script, its transcript and then the line `+ ok`, ends at that line
abbrev pub AnsweredEndsAtPlus : Type 0
AnsweredEndsAtPlus = OfTranscripts (λ text. EndsAtPlus (text ++ codes "+ ok\n"))

-- the replies that are no answers end at their one line
abbrev pub FixedRepliesEndAtPlus : Type 0
FixedRepliesEndAtPlus = EndsAtPlus long_line × EndsAtPlus memory_line

-- if each reply ends at its one line that begins with `+`, a client finds them one after another, whatever follows
abbrev pub RepliesAreFound : Type 0
RepliesAreFound =
    (replies : List (List ℕ)) → All EndsAtPlus replies
    → (later : List ℕ) → replies_in (joined replies ++ later) ≡ replies ++ replies_in later

-- an answer, to whatever request, ends at its one line that begins with `+`
abbrev pub AnswerEndsAtPlus : (request answer : List ℕ) → Type 0
AnswerEndsAtPlus request answer = EndsAtPlus answer

-- if a text is the replies to some requests, and each answer ends at its one line that begins with `+`, a client finds the
-- reply to each request in it, whatever follows
abbrev pub AnswersAreFound : Type 0
AnswersAreFound =
    (requests : List (List ℕ)) (text : List ℕ) → AreReplies AnswerEndsAtPlus requests text
    → AreFound AnswerEndsAtPlus requests text
