use Rattle.std.proofs.Common.{◌≡◌, ◌∙◌, [], ◌∷◌, ◌++◌, ◌+◌, ◌<◌, List, All, ap, arith, count_by, get_or, length, sym, subst}
use Rattle.std.proofs.lemmas.List.{map-append}
use Rattle.std.proofs.lemmas.List.Elements.{All-append, All-from_recursion}
use Rattle.table_rules.specs.Objects.{Obj}
use Rattle.sky_row.specs.Columns.{no_row, objects_at}
use Rattle.value_rules.specs.Values.{row}
use Rattle.answer_rules.specs.Pieces.{chunk_down, chunk_key}
use Rattle.chunk_row_scan.specs.Candidates.{is_row_up_to}
use Rattle.chunk_row_scan.specs.Cutoffs.{is_number_up_to}
use Rattle.chunk_row_scan.specs.Computed.{key_in}
use Rattle.chunk_row_scan.proofs.Choosing.{one_more, place_listed, places_skipped}
use Rattle.chunk_row_scan.proofs.Computing.{key_there}
use Rattle.chunk_row_scan.proofs.Skipping.{keys_counted}
use Rattle.chunk_row_scan.proofs.candidates.rows_not_beyond.Goals as goal

pub loop-i-preserved : goal.loop-i-preserved
loop-i-preserved c =
    let cq = c.args.query.now in
    let cutoff = c.args.cutoff.now in
    let objects = c.args.block.now.objects in
    let places = c.args.places.now in
    let i = c.loop-i.i in
    let listed = c.loop-i.listed.items in
    let o : Obj = get_or objects (get_or places i 0) no_row in
    let put : c.put.new.listed.items ≡ listed ++ get_or places i 0 ∷ [] = c.in_ok-put.ensures in
    let key : c.key_at.result ≡ chunk_key cq.order (row o) =
    c.key_at.ensures ∙ (ap (λ ks. key_in ks i) c.requires.keys ∙ key_there cq.order objects places i c.loop-i-test.true) in
    let same : is_number_up_to c.is_down-down.result cutoff c.key_at.result ≡ is_row_up_to cq cutoff o =
    ap (λ d. is_number_up_to d cutoff c.key_at.result) c.is_down-down.ensures ∙ ap (is_number_up_to (chunk_down cq.order) cutoff) key in
    record {
      inside = c.next_within-i.ensures.most;
      few = omega (arith, c.count_with-numbers.ensures.most, c.loop-i.invariant.few, c.next_within-i.ensures.order);
      there = subst (All (λ place. place < length objects)) (sym put)
          (All-append (λ place. place < length objects) listed (get_or places i 0 ∷ []) c.loop-i.invariant.there
          (All-from_recursion (λ place. place < length objects) (get_or places i 0 ∷ []) (c.requires.there i 0 c.loop-i-test.true, tt)));
      all =
          places_skipped cq cutoff objects places c.is_down-down.result c.args.keys.now (i + 1) c.next_within-i.result (objects_at objects c.put.new.listed.items)
          c.next_within-i.ensures.order c.next_within-i.ensures.most c.is_down-down.ensures c.requires.keys c.next_within-i.ensures.beyond
          (place_listed cq cutoff objects places i listed c.put.new.listed.items c.loop-i-test.true put c.loop-i.invariant.all);
      numbers =
          subst (λ (rows : List Obj). c.count_with-numbers.result ≡ count_by (is_row_up_to cq cutoff) rows)
          (sym (ap (objects_at objects) put ∙ map-append (λ place. get_or objects place no_row) listed (get_or places i 0 ∷ [])))
          (one_more cq cutoff (objects_at objects listed) o c.loop-i.numbers c.count_with-numbers.result c.loop-i.invariant.numbers
          (λ e. c.count_with-numbers.ensures.yes (same ∙ e)) (λ e. c.count_with-numbers.ensures.no (same ∙ e)));
    }

pub next_within-i-requires-clause-count : goal.next_within-i-requires-clause-count
next_within-i-requires-clause-count c = keys_counted c.args.block.now.objects c.args.places.now c.args.query.now.order c.args.keys.now c.requires.keys
