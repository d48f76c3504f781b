-- A query that is planned can be run, and its piece over its chunks is finished as its answer.
use Rattle.std.proofs.Common.{◌≡◌, ◌∙◌, sym, ap, refl, subst, ℕ, ◌+◌, ◌<◌, ◌≤◌, ℤ, true, List, [], All, Ok, Err, None, Some, length}
use Rattle.table_rules.specs.Objects.{Catalogue, IsCatalogue}
use Rattle.sky_rules.specs.Limits.{IsSky}
use Rattle.sky_rules.specs.Partition.{Partition, chunk_count}
use Rattle.sql_tree.specs.declared.query.Query.{Query}
use Rattle.sql_rules.specs.PrintedExprs.{Bytes}
use Rattle.sql_bound.specs.declared.query.Bound.{Bound}
use Rattle.answer_rules.specs.Answers.{flat_answer}
use Rattle.answer_rules.specs.Bases.{IsBase}
use Rattle.answer_rules.specs.Coverage.{AreInTheSky}
use Rattle.answer_rules.specs.Finish.{finished}
use Rattle.answer_rules.specs.Plans.{is_needed, plan_of, radius_refusal, Reaches}
use Rattle.answer_rules.specs.Pieces.{PieceView, PieceFor}
use Rattle.answer_rules.specs.ChunkQueries.{chunk_query_of}
use Rattle.answer_rules.specs.SoundChunks.{IsSoundChunk}
use Rattle.answer_rules.specs.declared.rewritten.Rewritten.{Rewritten}
use Rattle.answer_rules.specs.declared.value.Value.{Value}
use Rattle.answer_rules.proofs.Planned.{plan_is_filled, radius_reaches}
use Rattle.bind_rules.proofs.Counts.{what_is_read_has_counts}
use Rattle.bind_rules.proofs.Soundness.{bound_is_sound}
use Rattle.bind_rules.proofs.Tested.{bound_is_tested}
use Rattle.partial_merge.specs.Joining.{MayFinish}
use Rattle.transcript_rules.specs.Refusals.{Understood, early_refusal}
use Rattle.czar.specs.Plans.{IsPlanned}
use Rattle.czar.specs.Ends.{IsAnswered}
use Rattle.czar.specs.Running.{Answers, CanRun, IsOpen, IsRunnable, IsSomePlan, IsTotalOf}
use Rattle.czar.proofs.Inverting.{IsBound, is_bound}
use Rattle.table_rules.specs.Names.{column_names, first_names}
use Rattle.std.proofs.lemmas.List.{length-append}
use Rattle.std.proofs.lemmas.List.FromFn.{length-range_with_len}
use Rattle.std.proofs.lemmas.List.Sums.{count_by-le-length, length-filter}
use Rattle.sky_rules.specs.Chunks.{all_chunks}
use Rattle.value_rules.specs.Sound.{IsSound}
use Rattle.answer_rules.proofs.Cuts.{cut_is_sound}
use Rattle.answer_rules.proofs.Planned.{plan_finishes}
use Rattle.std.proofs.Common.{arith}
use Rattle.std.specs.Prelude.{option_map, Option}
use Rattle.std.specs.Option.{option_or}
use Rattle.std.proofs.Common.{◌+◌}
use Rattle.answer_rules.specs.declared.refusal.Radius.{Radius}
use Rattle.transcript_rules.specs.declared.refusal.Refusal.TheVariants as refusal
use Rattle.transcript_rules.specs.Refusals.{understood, refusal_of, total_by, total_refusal, total_refusal_by}
use Rattle.transcript_rules.proofs.Steps.{early_known}
use Rattle.sql_bound.specs.declared.query.Shape.{Shape}
use Rattle.chunk_rules.specs.Filled.{is_filled}
use Rattle.transcript_rules.specs.declared.refusal.Refusal.{Refusal}

-- the rows of a catalogue lie in the sky
in_sky : (c : Catalogue) → IsCatalogue c → AreInTheSky c.objects
in_sky c rows k d low = (rows.rows k d low).at

-- the columns are the first four and the further ones
width : (names : List Bytes) → length (column_names names) ≡ 4 + length names
width names = length-append first_names names

-- a line's refusal before it is run has that for its radius in it
far_is : (g : Partition) (c : Catalogue) (text : Bytes) (u : Understood) → understood c.names text ≡ Ok u
    → early_refusal g c text ≡ None → radius_refusal g c.objects u.bound ≡ None
far_is g c text u known accepted = none_of (radius_refusal g c.objects u.bound) (sym (early_known g c text u.tree u.bound (radius_refusal g c.objects u.bound) known refl) ∙ accepted)
  where
    none_of : (o : Option Radius) → option_map refusal.Radius o ≡ None → o ≡ None
    none_of None e = refl
    none_of (Some r) e = absurd (cc e)

-- the query of a planned line can be run
pub can_run : (g : Partition) (c : Catalogue) (text : Bytes) (head : Query) (query : Rewritten) (chunks : List ℕ)
    (p : IsPlanned g c text head query chunks) → CanRun g c p.understanding.bound query chunks
can_run g c text head query chunks p =
    let b : IsBound c.names text p.understanding = is_bound c.names text p.understanding p.known in
    record {
      sound = subst (λ (n : ℕ). IsSound n p.understanding.bound) (width c.names)
          (bound_is_sound c.names p.understanding.tree p.understanding.bound (what_is_read_has_counts text p.understanding.tree b.read) b.bound);
      tested = bound_is_tested c.names p.understanding.tree p.understanding.bound b.bound;
      cut = p.cut;
      plan = p.plan;
      allowed = far_is g c text p.understanding p.known p.accepted;
    }

-- what is planned for some line can be run
pub runnable : (g : Partition) (c : Catalogue) (head : Query) (query : Rewritten) (chunks : List ℕ)
    → IsSomePlan g c head query chunks → IsRunnable g c query chunks
runnable g c head query chunks s = record {
  bound = s.is.understanding.bound;
  can = can_run g c s.text head query chunks s.is;
}

-- a plan has no more chunks than a sky may have
pub few : (g : Partition) (c : Catalogue) (head : Query) (query : Rewritten) (chunks : List ℕ) → IsSky g
    → IsSomePlan g c head query chunks → length chunks ≤ 16384
few g c head query chunks sky s =
    let needed = is_needed g c.objects s.is.understanding.bound in
    let all = all_chunks g in
    omega (arith, ap length s.is.plan, length-filter needed all, count_by-le-length needed all, length-range_with_len 0 (chunk_count g), sky.few_chunks)

-- a line that is planned so ends with the answer of the queries that are cut so
pub answered : (g : Partition) (c : Catalogue) (text : Bytes) (head : Query) (query : Rewritten) (chunks : List ℕ)
    (table : List (List Value)) → Answers g c query chunks table → IsPlanned g c text head query chunks
    → IsAnswered g c text head table (length chunks)
answered g c text head query chunks table answers p = record {
  understanding = p.understanding;
  known = p.known;
  tree = p.tree;
  answer = answers p.understanding.bound (can_run g c text head query chunks p);
  count = ap length p.plan;
  accepted = p.accepted;
}

-- and so is the total that they have out of range
pub out : (g : Partition) (c : Catalogue) (text : Bytes) (head : Query) (query : Rewritten) (chunks : List ℕ) (total : ℤ)
    → IsTotalOf g c query chunks total → IsPlanned g c text head query chunks
    → refusal_of g c text ≡ Some (refusal.Total (record { total = total }))
unfolding refusal_of total_refusal
out g c text head query chunks total is p =
    let answer : flat_answer c.objects p.understanding.bound ≡ Err total = is p.understanding.bound (can_run g c text head query chunks p) in
    ap (λ r. option_or r (total_refusal_by c.objects (understood c.names text))) p.accepted
    ∙ ap (total_refusal_by c.objects) p.known ∙ ap total_by answer

-- chunks that hold a row and where the query reaches can be scanned
all_open : (g : Partition) (c : Catalogue) (shape : Shape) (chunks : List ℕ)
    → All (λ k. (k < chunk_count g) × (is_filled g c.objects k ≡ true)) chunks → All (Reaches g shape) chunks
    → All (IsOpen g c shape) chunks
all_open g c shape chunks filled reach k d low = record {
  there = (filled k d low).0;
  filled = (filled k d low).1;
  reach = reach k d low;
}

-- each chunk of a plan can be scanned
pub opened : (g : Partition) (c : Catalogue) (query : Rewritten) (chunks : List ℕ) → IsRunnable g c query chunks
    → All (IsOpen g c query.chunk.shape) chunks
opened g c query chunks r =
    let q : Bound = r.bound in
    let can = r.can in
    subst (λ (it : Rewritten). All (IsOpen g c it.chunk.shape) chunks) (sym can.cut)
    (subst (λ (cs : List ℕ). All (IsOpen g c q.shape) cs) (sym can.plan) (all_open g c q.shape (plan_of g c.objects q)
    (plan_is_filled g c.objects q) (radius_reaches g c.objects q can.allowed)))

-- its chunk query can be run
pub sound_chunk : (g : Partition) (c : Catalogue) (query : Rewritten) (chunks : List ℕ) → IsRunnable g c query chunks
    → IsSoundChunk (4 + length c.names) query.chunk
sound_chunk g c query chunks r =
    subst (λ (it : Rewritten). IsSoundChunk (4 + length c.names) it.chunk) (sym r.can.cut)
    (cut_is_sound (4 + length c.names) r.bound r.can.sound)

-- a catalogue over a sky, with no chunk query yet
no_queries : (g : Partition) (c : Catalogue) → IsSky g → IsCatalogue c → IsBase (record { plan = g; rows = c; queries = [] })
no_queries g c sky rows = record {
  sky = sky;
  rows = rows;
  ascend = λ i j d low high. absurd (omega (arith, high));
  from_1 = λ k d low. absurd (omega (arith, low));
  to_255 = λ k d low. absurd (omega (arith, low));
  sound = λ k d low. absurd (omega (arith, low));
}

-- the piece of a query over its chunks may be finished by its merge
pub may_finish : (g : Partition) (c : Catalogue) (query : Rewritten) (chunks : List ℕ) (view : PieceView) → IsSky g
    → IsCatalogue c → IsRunnable g c query chunks → PieceFor g c.objects query.chunk chunks view
    → MayFinish query.merge view
may_finish g c query chunks view sky rows r piece = record {
  base = record { plan = g; rows = c; queries = [] };
  fits = no_queries g c sky rows;
  q = r.bound;
  chunks = chunks;
  sound = r.can.sound;
  merge_is = ap (λ it. it.merge) r.can.cut;
  stands = subst (λ (it : Rewritten). PieceFor g c.objects it.chunk chunks view) r.can.cut piece;
}

-- what a piece over the chunks of a plan is finished as is the answer of each query that is cut so
pub finished_is : (g : Partition) (c : Catalogue) (q : Bound) (query : Rewritten) (chunks : List ℕ) (view : PieceView) → IsSky g
    → IsCatalogue c → CanRun g c q query chunks → PieceFor g c.objects query.chunk chunks view
    → finished query.merge view ≡ flat_answer c.objects q
finished_is g c q query chunks view sky rows can piece =
    ap (λ it. finished it.merge view) can.cut
    ∙ plan_finishes (4 + length c.names) g c.objects q view sky (in_sky c rows) rows.ascend can.sound can.tested
    (subst (λ (cs : List ℕ). PieceFor g c.objects (chunk_query_of q) cs view) can.plan
    (subst (λ (it : Rewritten). PieceFor g c.objects it.chunk chunks view) can.cut piece))

-- the table that the piece is finished as
pub is_answer : (g : Partition) (c : Catalogue) (query : Rewritten) (chunks : List ℕ) (view : PieceView)
    (table : List (List Value)) → IsSky g → IsCatalogue c → PieceFor g c.objects query.chunk chunks view
    → finished query.merge view ≡ Ok table → Answers g c query chunks table
is_answer g c query chunks view table sky rows piece is q can =
    sym (finished_is g c q query chunks view sky rows can piece) ∙ is

-- the total that it has out of range
pub is_total : (g : Partition) (c : Catalogue) (query : Rewritten) (chunks : List ℕ) (view : PieceView) (total : ℤ) → IsSky g
    → IsCatalogue c → PieceFor g c.objects query.chunk chunks view → finished query.merge view ≡ Err total
    → IsTotalOf g c query chunks total
is_total g c query chunks view total sky rows piece is q can =
    sym (finished_is g c q query chunks view sky rows can piece) ∙ is

-- the end of a line that is refused before it is run
pub refused_early : (g : Partition) (c : Catalogue) (text : Bytes) (why : Refusal) → early_refusal g c text ≡ Some why
    → refusal_of g c text ≡ Some why
unfolding refusal_of
refused_early g c text why early = ap (λ r. option_or r (total_refusal c text)) early
