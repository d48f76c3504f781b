-- The meaning of an outcome excludes every other outcome if the texts are as they are.
use Rattle.std.proofs.Common.{◌≡◌, ℕ, ◌<◌, List, Option, None, Some, refl, sym, subst}
use Rattle.sky_io.specs.Shelves.{times}
use Rattle.sky_io.specs.Sinks.{Rose}
use Rattle.sky_rules.specs.declared.fault.SkyFault.{SkyFault}
use Rattle.table_rules.specs.declared.fault.LoadFault.{LoadFault}
use Rattle.session_script.specs.declared.fault.ScriptFault.{ScriptFault}
use Rattle.scan_history.specs.Texts.{journal_of}
use Rattle.scan_history.specs.declared.fault.HistoryFault.{HistoryFault}
use Rattle.top_call.specs.Words.{Form, Load, Asks, AsksSources, Check, Demo, names_of}
use Rattle.top_call.specs.Outcomes.{name_of}
use Rattle.top_call.specs.Reached.{HasText, IfObservable, IsAccepted, IsCatalogueFault, IsLong, IsScriptFault, IsSkyFault}
use Rattle.top_call.specs.Reached.{AreAccepted, AreAllStill, AreEarlierAccepted, AreStill, IsSourcesFault, Texts, text_at}
use Rattle.top_call.specs.Journals.{IsJournalFault}
use Rattle.top_call.specs.Explained.{Shown, IsRefused, ExplainedOf, Explained}
use Rattle.top_call.specs.Completes.{IsRefusalOrMemory, IsDoneOrMemory, Completes, Complete}
use Rattle.top_call.specs.declared.outcome.Which.{Which}
use Rattle.top_call.specs.declared.outcome.Which.TheVariants.{Sky, Catalogue, Sources, Script, Journal}
use Rattle.top_call.specs.declared.outcome.Outcome.{Outcome}
use Rattle.top_call.specs.declared.outcome.Outcome.TheVariants.{Done, Usage, BadSky, BadCatalogue, BadSources, BadScript}
use Rattle.top_call.specs.declared.outcome.Outcome.TheVariants.{TooLong, ShelfFault, SinkFault, Memory, BadJournal}
use Rattle.top_call.proofs.Accepted.{catalogue_fault, journal_fault, long_text, none_named, script_fault, sky_fault}
use Rattle.top_call.proofs.Accepted.{sources_fault, visible_accepted}
use Rattle.top_call.proofs.TextOrder.{one_first, still_at, still_not_risen}

-- no fault can be at a text where this one is refused and it and the earlier ones are still
no_fault :
    (form : Form) (texts : Texts) (which other : Which) (old new : List (List ℕ)) →
    HasText (names_of form) which → HasText (names_of form) other →
    (IsAccepted which (text_at (names_of form) texts which) → ⊥) → AreStill (names_of form) old new which →
    AreEarlierAccepted (names_of form) texts other →
    times (name_of (names_of form) other) old < times (name_of (names_of form) other) new → ⊥
no_fault form texts which other old new has has' isnt still earlier rose =
    still_not_risen _ _ (still_at form texts which other old new has has' isnt still earlier) rose

-- a fact of the texts, if they are observable
at_texts :
    (visible : Option Texts) (texts : Texts) (P : Texts → Type 0) → visible ≡ Some texts → IfObservable visible P →
    P texts
at_texts visible texts P is h = subst (λ t. IfObservable t P) is h

-- A text was reached, and isn't accepted.
record StopsAt (form : Form) (texts : Texts) (other : Which) : Type 0 where
  has : HasText (names_of form) other
  earlier : AreEarlierAccepted (names_of form) texts other
  isnt : IsAccepted other (text_at (names_of form) texts other) → ⊥

-- what holds of a refused text
why_at :
    (form : Form) (s : Shown) (texts : Texts) (other : Which) (Why : List ℕ → Type 0) →
    s.shelf_old.texts ≡ Some texts → IsRefused (names_of form) s other Why →
    Why (text_at (names_of form) texts other)
why_at form s texts other Why visible h =
    at_texts s.shelf_old.texts texts (λ texts. Why (text_at (names_of form) texts other)) visible h.why

-- a refused text was reached and isn't accepted
stops :
    (form : Form) (s : Shown) (texts : Texts) (other : Which) (Why : List ℕ → Type 0) →
    s.shelf_old.texts ≡ Some texts → ((text : List ℕ) → Why text → IsAccepted other text → ⊥) →
    IsRefused (names_of form) s other Why → StopsAt form texts other
stops form s texts other Why visible refuses h = record {
  has = h.has;
  earlier = at_texts s.shelf_old.texts texts (λ texts. AreEarlierAccepted (names_of form) texts other) visible h.earlier;
  isnt = refuses (text_at (names_of form) texts other) (why_at form s texts other Why visible h);
}

-- a refused sky plan
sky_stops : (form : Form) (s : Shown) (texts : Texts) (fault : SkyFault) → s.shelf_old.texts ≡ Some texts
    → IsRefused (names_of form) s Sky (λ text. IsSkyFault text fault) → StopsAt form texts Sky
sky_stops form s texts fault visible h =
    stops form s texts Sky (λ text. IsSkyFault text fault) visible (λ text is. sky_fault text fault is) h

-- a refused catalogue
catalogue_stops : (form : Form) (s : Shown) (texts : Texts) (fault : LoadFault) → s.shelf_old.texts ≡ Some texts
    → IsRefused (names_of form) s Catalogue (λ text. IsCatalogueFault text fault) → StopsAt form texts Catalogue
catalogue_stops form s texts fault visible h =
    stops form s texts Catalogue (λ text. IsCatalogueFault text fault) visible (λ text is. catalogue_fault text fault is) h

-- a refused source table
sources_stops : (form : Form) (s : Shown) (texts : Texts) (fault : LoadFault) → s.shelf_old.texts ≡ Some texts
    → IsRefused (names_of form) s Sources (λ text. IsSourcesFault text fault) → StopsAt form texts Sources
sources_stops form s texts fault visible h =
    stops form s texts Sources (λ text. IsSourcesFault text fault) visible (λ text is. sources_fault text fault is) h

-- a refused script
script_stops : (form : Form) (s : Shown) (texts : Texts) (fault : ScriptFault) → s.shelf_old.texts ≡ Some texts
    → IsRefused (names_of form) s Script (λ text. IsScriptFault text fault) → StopsAt form texts Script
script_stops form s texts fault visible h =
    stops form s texts Script (λ text. IsScriptFault text fault) visible (λ text is. script_fault text fault is) h

-- a refused journal
journal_stops : (form : Form) (s : Shown) (texts : Texts) (fault : HistoryFault) → s.shelf_old.texts ≡ Some texts
    → IsRefused (names_of form) s Journal (λ text. IsJournalFault text fault) → StopsAt form texts Journal
journal_stops form s texts fault visible h =
    stops form s texts Journal (λ text. IsJournalFault text fault) visible
    (λ text is. journal_fault text fault (journal_of text) refl is.1) h

-- a text that is too long
long_stops : (form : Form) (s : Shown) (texts : Texts) (which : Which) → s.shelf_old.texts ≡ Some texts
    → IsRefused (names_of form) s which (IsLong which) → StopsAt form texts which
long_stops form s texts which visible h = stops form s texts which (IsLong which) visible (long_text which) h

-- the text at which it stops is the one that is reached and isn't accepted
same_stop :
    (form : Form) (texts : Texts) (which other : Which) → HasText (names_of form) which →
    AreEarlierAccepted (names_of form) texts which → (IsAccepted which (text_at (names_of form) texts which) → ⊥) →
    StopsAt form texts other → other ≡ which
same_stop form texts which other has earlier isnt at =
    one_first form texts which other has at.has earlier isnt at.earlier at.isnt

-- what makes an outcome a refusal: the text at which it stops, where it does
stops_by :
    (form : Form) (s : Shown) (texts : Texts) (outcome : Outcome) (which : Which) →
    s.shelf_old.texts ≡ Some texts → ExplainedOf form s outcome → HasText (names_of form) which →
    AreEarlierAccepted (names_of form) texts which →
    (IsAccepted which (text_at (names_of form) texts which) → ⊥) →
    AreStill (names_of form) s.shelf_old.failed s.shelf_new.failed which → IsRefusalOrMemory which outcome
stops_by form s texts (Done ends) which visible h has earlier isnt still =
    absurd (isnt (visible_accepted form s.shelf_old.texts texts h.job visible h.asked which has))
stops_by form s texts Usage which visible h has earlier isnt still = h
stops_by form s texts (BadSky fault) which visible h has earlier isnt still =
    sym (same_stop form texts which Sky has earlier isnt (sky_stops form s texts fault visible h))
stops_by form s texts (BadCatalogue fault) which visible h has earlier isnt still =
    sym (same_stop form texts which Catalogue has earlier isnt (catalogue_stops form s texts fault visible h))
stops_by form s texts (BadSources fault) which visible h has earlier isnt still =
    sym (same_stop form texts which Sources has earlier isnt (sources_stops form s texts fault visible h))
stops_by form s texts (BadScript fault) which visible h has earlier isnt still =
    sym (same_stop form texts which Script has earlier isnt (script_stops form s texts fault visible h))
stops_by form s texts (TooLong other) which visible h has earlier isnt still =
    same_stop form texts which other has earlier isnt (long_stops form s texts other visible h)
stops_by form s texts (ShelfFault other) which visible h has earlier isnt still =
    let earlier' = at_texts s.shelf_old.texts texts (λ texts. AreEarlierAccepted (names_of form) texts other) visible h.earlier in
    no_fault form texts which other s.shelf_old.failed s.shelf_new.failed has h.has isnt still earlier' h.cause
stops_by form s texts (SinkFault ends) which visible h has earlier isnt still =
    absurd (isnt (visible_accepted form s.shelf_old.texts texts h.job visible h.asked which has))
stops_by form s texts Memory which visible h has earlier isnt still = tt
stops_by form s texts (BadJournal fault) which visible h has earlier isnt still =
    sym (same_stop form texts which Journal has earlier isnt (journal_stops form s texts fault visible h))

-- all being accepted, no text is refused
none_stops : (form : Form) (texts : Texts) (other : Which) → StopsAt form texts other → AreAccepted (names_of form) texts → ⊥
none_stops form texts other at all = at.isnt (all other at.has)

-- all being accepted, and nothing having failed, the work is done
done_by :
    (form : Form) (s : Shown) (texts : Texts) (outcome : Outcome) →
    s.shelf_old.texts ≡ Some texts → ExplainedOf form s outcome → AreAccepted (names_of form) texts →
    AreAllStill (names_of form) s.shelf_old.failed s.shelf_new.failed →
    (Rose s.sink_old.faults s.sink_new.faults → ⊥) → IsDoneOrMemory outcome
done_by form s texts (Done ends) visible h all still calm = tt
done_by form s texts Usage visible h all still calm = h
done_by form s texts (BadSky fault) visible h all still calm =
    none_stops form texts Sky (sky_stops form s texts fault visible h) all
done_by form s texts (BadCatalogue fault) visible h all still calm =
    none_stops form texts Catalogue (catalogue_stops form s texts fault visible h) all
done_by form s texts (BadSources fault) visible h all still calm =
    none_stops form texts Sources (sources_stops form s texts fault visible h) all
done_by form s texts (BadScript fault) visible h all still calm =
    none_stops form texts Script (script_stops form s texts fault visible h) all
done_by form s texts (TooLong which) visible h all still calm =
    none_stops form texts which (long_stops form s texts which visible h) all
done_by form s texts (ShelfFault other) visible h all still calm = still_not_risen _ _ (still other h.has) h.cause
done_by form s texts (SinkFault ends) visible h all still calm = calm h.cause
done_by form s texts Memory visible h all still calm = tt
done_by form s texts (BadJournal fault) visible h all still calm =
    none_stops form texts Journal (journal_stops form s texts fault visible h) all

if_observable :
    (visible : Option Texts) (P : Texts → Type 0) → ((texts : Texts) → visible ≡ Some texts → P texts) →
    IfObservable visible P
if_observable None P h = tt
if_observable (Some texts) P h = h texts refl

-- a command that names its texts has them if they are observable
visible_completes : (form : Form) (s : Shown) (outcome : Outcome) → ExplainedOf form s outcome
    → IfObservable s.shelf_old.texts (Completes (names_of form) s outcome)
visible_completes form s outcome h = if_observable s.shelf_old.texts (Completes (names_of form) s outcome) (λ texts visible. record {
  refused = λ which has earlier isnt still. stops_by form s texts outcome which visible h has earlier isnt still;
  done = λ all still calm. done_by form s texts outcome visible h all still calm;
})

-- a demo names no text, so its work is done where nothing has failed
demo_done : (count seed workers : ℕ) (s : Shown) (outcome : Outcome) → ExplainedOf (Demo count seed workers) s outcome
    → (Rose s.sink_old.faults s.sink_new.faults → ⊥) → IsDoneOrMemory outcome
demo_done count seed workers s (Done ends) h calm = tt
demo_done count seed workers s Usage h calm = h
demo_done count seed workers s (BadSky fault) h calm = none_named count seed workers Sky h.has
demo_done count seed workers s (BadCatalogue fault) h calm = none_named count seed workers Catalogue h.has
demo_done count seed workers s (BadSources fault) h calm = none_named count seed workers Sources h.has
demo_done count seed workers s (BadScript fault) h calm = none_named count seed workers Script h.has
demo_done count seed workers s (TooLong which) h calm = none_named count seed workers which h.has
demo_done count seed workers s (ShelfFault which) h calm = none_named count seed workers which h.has
demo_done count seed workers s (SinkFault ends) h calm = calm h.cause
demo_done count seed workers s Memory h calm = tt
demo_done count seed workers s (BadJournal fault) h calm = none_named count seed workers Journal h.has

demo_completes : (count seed workers : ℕ) (s : Shown) (outcome : Outcome) (texts : Texts) → ExplainedOf (Demo count seed workers) s outcome
    → Completes (names_of (Demo count seed workers)) s outcome texts
demo_completes count seed workers s outcome texts h = record {
  refused = λ which has earlier isnt still. absurd (none_named count seed workers which has);
  done = λ all still calm. demo_done count seed workers s outcome h calm;
}

-- what an outcome says makes it the one that must come
pub completes :
    (form : Option Form) (s : Shown) (outcome : Outcome) → Explained form s outcome →
    Complete form s outcome
completes None s outcome h = tt
completes (Some (Load sky catalogue)) s outcome h = visible_completes (Load sky catalogue) s outcome h
completes (Some (Asks task sky catalogue script)) s outcome h = visible_completes (Asks task sky catalogue script) s outcome h
completes (Some (AsksSources workers sky catalogue sources script)) s outcome h =
    visible_completes (AsksSources workers sky catalogue sources script) s outcome h
completes (Some (Check journal)) s outcome h = visible_completes (Check journal) s outcome h
completes (Some (Demo count seed workers)) s outcome h = λ texts. demo_completes count seed workers s outcome texts h
