-- The requests of an input, whatever follows it.
use Rattle.std.proofs.Common.{◌≡◌, refl, sym, ap, ◌∙◌, subst, ℕ, ◌==◌, Bool, true, false, List, [], ◌∷◌, ◌++◌, append_assoc, append-nil, eqb-true}
use Rattle.request_loop.specs.Requests.{Cut, after_requests, cut_of, ends_request}
use Rattle.request_loop.specs.Drafts.{IsOpen, has_feed}
use Rattle.request_loop.specs.Laws.{RequestsStay}
use Rattle.request_loop.proofs.Cutting.{open_ended, open_more, open_none, open_rest}
use Rattle.request_loop.proofs.Drafting.{flat_more}
use Rattle.request_loop.proofs.Serving.{cut_rest, requests_more}

-- An input is requests, lines of which none ends one, and the beginning of a line.
record Walked (input : List ℕ) : Type 0 where
  whole : List ℕ
  texts : List (List ℕ)
  lines : List ℕ
  line : List ℕ
  parts : input ≡ whole ++ (lines ++ line)
  are : (later : List ℕ) → cut_of (whole ++ later) ≡ after_requests texts (cut_of later)
  begins : IsOpen lines
  flat : has_feed line ≡ false

nothing_walked : Walked []
nothing_walked = record { whole = []; texts = []; lines = []; line = []; parts = refl; are = λ later. refl; begins = open_none; flat = refl }

-- one byte more at the end
at_end : (whole lines line : List ℕ) (b : ℕ) → (whole ++ (lines ++ line)) ++ b ∷ [] ≡ whole ++ (lines ++ (line ++ b ∷ []))
at_end whole lines line b = append_assoc whole (lines ++ line) (b ∷ []) ∙ ap (λ t. whole ++ t) (append_assoc lines line (b ∷ []))

feed_walked : (input : List ℕ) (ends : Bool) (w : Walked input) → ends_request (w.line ++ 10 ∷ []) ≡ ends → Walked (input ++ 10 ∷ [])
feed_walked input false w goes = record {
  whole = w.whole;
  texts = w.texts;
  lines = w.lines ++ (w.line ++ 10 ∷ []);
  line = [];
  parts = ap (λ t. t ++ 10 ∷ []) w.parts ∙ at_end w.whole w.lines w.line 10
      ∙ ap (λ t. w.whole ++ t) (sym (append-nil (w.lines ++ (w.line ++ 10 ∷ []))));
  are = w.are;
  begins = open_more w.lines w.line w.begins w.flat goes;
  flat = refl;
}
feed_walked input true w ends = record {
  whole = w.whole ++ (w.lines ++ (w.line ++ 10 ∷ []));
  texts = w.texts ++ w.lines ∷ [];
  lines = [];
  line = [];
  parts = ap (λ t. t ++ 10 ∷ []) w.parts ∙ at_end w.whole w.lines w.line 10
      ∙ sym (append-nil (w.whole ++ (w.lines ++ (w.line ++ 10 ∷ []))));
  are = requests_more w.whole (w.lines ++ (w.line ++ 10 ∷ [])) w.texts w.lines w.are (open_ended w.lines w.line w.begins w.flat ends);
  begins = open_none;
  flat = refl;
}

byte_walked : (input : List ℕ) (b : ℕ) (feed : Bool) (w : Walked input) → (b == 10) ≡ feed → Walked (input ++ b ∷ [])
byte_walked input b true w is =
    subst (λ x. Walked (input ++ x ∷ [])) (sym (eqb-true b 10 is)) (feed_walked input (ends_request (w.line ++ 10 ∷ [])) w refl)
byte_walked input b false w is = record {
  whole = w.whole;
  texts = w.texts;
  lines = w.lines;
  line = w.line ++ b ∷ [];
  parts = ap (λ t. t ++ b ∷ []) w.parts ∙ at_end w.whole w.lines w.line b;
  are = w.are;
  begins = w.begins;
  flat = flat_more w.line b w.flat is;
}

walked_from : (done rest : List ℕ) → Walked done → Walked (done ++ rest)
walked_from done [] w = subst (λ t. Walked t) (sym (append-nil done)) w
walked_from done (b ∷ bs) w =
    subst (λ t. Walked t) (append_assoc done (b ∷ []) bs) (walked_from (done ++ b ∷ []) bs (byte_walked done b (b == 10) w refl))

walked : (input : List ℕ) → Walked input
walked input = walked_from [] input nothing_walked

-- the requests of an input that is walked
texts_are : (input : List ℕ) (w : Walked input) → (cut_of input).requests ≡ w.texts
texts_are input w =
    ap (λ t. (cut_of t).requests) w.parts
    ∙ ap (λ (c : Cut). c.requests) (cut_rest w.whole (w.lines ++ w.line) w.texts w.are (open_rest w.lines w.line w.begins w.flat))

-- the requests of an input that goes on
texts_on : (input later : List ℕ) (w : Walked input)
    → (cut_of (input ++ later)).requests ≡ w.texts ++ (cut_of ((w.lines ++ w.line) ++ later)).requests
texts_on input later w =
    ap (λ t. (cut_of (t ++ later)).requests) w.parts
    ∙ ap (λ t. (cut_of t).requests) (append_assoc w.whole (w.lines ++ w.line) later)
    ∙ ap (λ (c : Cut). c.requests) (w.are ((w.lines ++ w.line) ++ later))

pub requests_stay : RequestsStay
requests_stay input later =
    let w = walked input in (
      (cut_of ((w.lines ++ w.line) ++ later)).requests,
      texts_on input later w ∙ ap (λ t. t ++ (cut_of ((w.lines ++ w.line) ++ later)).requests) (sym (texts_are input w)),
    )
