-- A script, as callers see it.
use Rattle.std.specs.Prelude.{ℕ, ◌+◌, ◌≤◌, List, Some, map}
use Rattle.sql_token.specs.declared.token.Span.{Span}
use Rattle.text_rules.specs.declared.limits.TheConstants.{QUERY_TEXT_MOST}
use Rattle.session_script.specs.declared.step.Step.{Step}
use Rattle.session_script.specs.Scripts.{part_of, query_spans}

-- A script: its text, and its steps in the order of the lines.
pub record ScriptView : Type 0 where
  pub text : List ℕ
  pub steps : List Step

-- the lines of a script's queries, in their order
abbrev pub query_lines : ScriptView → List (List ℕ)
query_lines s = map (λ span. part_of s.text (Some span)) (query_spans s.steps)

-- The span is a line of a text of the given number of bytes, and no longer than the longest line.
pub record IsLine (bytes : ℕ) (span : Span) : Type 0 where
  pub ordered : span.from ≤ span.to
  pub within : span.to ≤ bytes
  pub short : span.to ≤ span.from + QUERY_TEXT_MOST
