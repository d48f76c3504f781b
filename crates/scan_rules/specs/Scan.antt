-- The position of the shared scan on its ring of chunks, and which chunk it takes next, for which queries.
use Rattle.std.specs.Prelude.{ℕ, ◌+◌, ◌-◌, nat_lt, List, Bool, not, ◌&&◌, cond, Option, Some, None, option_map}
use Rattle.std.specs.Prelude.{filter, count_by, find, flat_map}
use Rattle.std.specs.List.{list_any, last_or}
use Rattle.scan_rules.specs.Numbers.{has, below, query_numbers}
use Rattle.scan_rules.specs.Lines.{wants_chunk, chunk_of}
use Rattle.scan_rules.specs.Queries.{Journal, wanted, is_served, is_running}

-- the number of running queries
abbrev pub running_count : Journal → ℕ
running_count past = count_by (is_running past) query_numbers

-- the query runs, wants the chunk and was not served it
abbrev pub needs : Journal → ℕ → ℕ → Bool
needs past q chunk = is_running past q && (has (wanted past q) chunk && not (is_served past q chunk))

-- the queries that need the chunk, ascending
abbrev pub takers : Journal → ℕ → List ℕ
takers past chunk = filter (λ q. needs past q chunk) query_numbers

-- some query needs the chunk
abbrev pub is_needed : Journal → ℕ → Bool
is_needed past chunk = list_any (λ q. needs past q chunk) query_numbers

-- the chunks that were taken, in the order of their takes
abbrev pub taken : Journal → List ℕ
taken past = flat_map chunk_of past

-- the chunk the given number of steps after a position, around the ring: after the last one comes chunk 0
abbrev pub chunk_at : ℕ → ℕ → ℕ → ℕ
chunk_at ring place steps = cond (nat_lt (place + steps) ring) (place + steps) (place + steps - ring)

-- the number of steps of the scan from a position to a chunk, around the ring
abbrev pub offset : ℕ → ℕ → ℕ → ℕ
offset ring place chunk = cond (nat_lt chunk place) (chunk + ring - place) (chunk - place)

-- the position of the scan after a take of this chunk, and 0 before the first one
abbrev pub place_after : ℕ → Option ℕ → ℕ
place_after ring None = 0
place_after ring (Some chunk) = chunk_at ring chunk 1

-- the position of the scan: one step after the chunk that was taken last
abbrev pub place : ℕ → Journal → ℕ
place ring past = place_after ring (last_or None (taken past))

-- the first chunk in ring order from the scan's position that some query needs
abbrev pub next_chunk : ℕ → Journal → Option ℕ
next_chunk ring past =
    option_map (chunk_at ring (place ring past))
    (find (λ steps. is_needed past (chunk_at ring (place ring past) steps)) (below ring))

-- some query was attached with the chunk
abbrev pub is_wanted : Journal → ℕ → Bool
is_wanted past chunk = list_any (wants_chunk chunk) past

-- the number of different chunks in all lists, which is the most takes of one lap
abbrev pub lap_length : ℕ → Journal → ℕ
lap_length ring past = count_by (is_wanted past) (below ring)
