-- What holds of each mention of a condition holds of the columns of its expressions.
use Rattle.std.proofs.Common.{◌≡◌, List, [], ◌∷◌, ◌++◌, map, sym, subst}
use Rattle.std.specs.List.{AllByRecursion as Each}
use Rattle.sql_tree.specs.declared.cond.Cond.{Cond}
use Rattle.sql_tree.specs.declared.cond.Conj.{Conj}
use Rattle.sql_tree.specs.declared.cond.Neg.{Neg}
use Rattle.sql_tree.specs.declared.cond.Pred.{Pred}
use Rattle.sql_tree.specs.declared.cond.Pred.TheFolds.{fold-Pred, fold-Conj, fold-Neg, fold-roll-Cond, fold-roll-Conj, fold-roll-Neg}
use Rattle.text_rules.specs.Readings.{joined}
use Rattle.bind_rules.specs.Mentions.{Mention, Side, Mentions, mentioned, mentions_at_pred, mentions_at_cond, mentions_at_conj, mentions_at_neg, mentions_of_cond}
use Rattle.bind_rules.specs.Widths.{Exprs, exprs_at_pred, exprs_of}
use Rattle.bind_rules.proofs.Each.{front, back, both}
use Rattle.bind_rules.proofs.Folds.{fold_group, fold_compare, fold_between, fold_among, fold_null, fold_area, fold_chord}
use Rattle.bind_rules.proofs.Inductions.{cond_induction}

abbrev pred_mentions : Pred → Mentions
pred_mentions = fold-Pred Mentions Mentions Mentions Mentions mentions_at_pred mentions_at_cond mentions_at_conj mentions_at_neg

abbrev pred_exprs : Pred → Exprs
pred_exprs = fold-Pred Exprs Exprs Exprs Exprs exprs_at_pred (λ c. c.first ++ joined c.rest) (λ c. c.first ++ joined c.rest) (λ n. n.pred)

abbrev neg_mentions : Neg → Mentions
neg_mentions = fold-Neg Mentions Mentions Mentions Mentions mentions_at_pred mentions_at_cond mentions_at_conj mentions_at_neg

abbrev neg_exprs : Neg → Exprs
neg_exprs = fold-Neg Exprs Exprs Exprs Exprs exprs_at_pred (λ c. c.first ++ joined c.rest) (λ c. c.first ++ joined c.rest) (λ n. n.pred)

abbrev conj_mentions : Conj → Mentions
conj_mentions = fold-Conj Mentions Mentions Mentions Mentions mentions_at_pred mentions_at_cond mentions_at_conj mentions_at_neg

abbrev conj_exprs : Conj → Exprs
conj_exprs = fold-Conj Exprs Exprs Exprs Exprs exprs_at_pred (λ c. c.first ++ joined c.rest) (λ c. c.first ++ joined c.rest) (λ n. n.pred)

-- what holds of each mention holds of those of each expression
abbrev Claim : (Mention → Type 0) → Mentions → Exprs → Type 0
Claim P ms es = Each P ms → Each (λ e. Each P (mentioned e)) es

claim_as : (P : Mention → Type 0) (ms ms' : Mentions) (es es' : Exprs) → ms ≡ ms' → es ≡ es' → Claim P ms' es' → Claim P ms es
claim_as P ms ms' es es' p q h = subst (λ x. Claim P x es) (sym p) (subst (λ x. Claim P ms' x) (sym q) h)

-- a layer of a part and those behind it
layer : {X : Type 0} (P : Mention → Type 0) (mentions : X → Mentions) (exprs : X → Exprs) (ms : Mentions) (es : Exprs) (xs : List X) → Claim P ms es → Each (λ x. Claim P (mentions x) (exprs x)) xs → Claim P (ms ++ joined (map mentions xs)) (es ++ joined (map exprs xs))
layer P mentions exprs ms es xs h k m =
    both (λ e. Each P (mentioned e)) es (joined (map exprs xs)) (h (front P ms (joined (map mentions xs)) m)) (rest P mentions exprs xs k (back P ms (joined (map mentions xs)) m))
  where
    rest : {X : Type 0} (P : Mention → Type 0) (mentions : X → Mentions) (exprs : X → Exprs) (xs : List X) → Each (λ x. Claim P (mentions x) (exprs x)) xs → Each P (joined (map mentions xs)) → Each (λ e. Each P (mentioned e)) (joined (map exprs xs))
    rest P mentions exprs [] k m = tt
    rest P mentions exprs (x ∷ xs) k m = both (λ e. Each P (mentioned e)) (exprs x) (joined (map exprs xs)) (k.0 (front P (mentions x) (joined (map mentions xs)) m)) (rest P mentions exprs xs k.1 (back P (mentions x) (joined (map mentions xs)) m))

pub of_exprs : (P : Mention → Type 0) (c : Cond) → Each P (mentions_of_cond c) → Each (λ e. Each P (mentioned e)) (exprs_of c)
unfolding mentions_of_cond exprs_of
of_exprs P = cond_induction
    (λ p. Claim P (pred_mentions p) (pred_exprs p))
    (λ c. Claim P (mentions_of_cond c) (exprs_of c))
    (λ c. Claim P (conj_mentions c) (conj_exprs c))
    (λ n. Claim P (neg_mentions n) (neg_exprs n))
    (λ c h. claim_as P _ (mentions_of_cond c) _ (exprs_of c) (fold_group mentions_at_pred mentions_at_cond mentions_at_conj mentions_at_neg c) (fold_group exprs_at_pred (λ c. c.first ++ joined c.rest) (λ c. c.first ++ joined c.rest) (λ n. n.pred) c) h)
    (λ left op right. claim_as P _ (mentioned left ++ mentioned right) _ (left ∷ (right ∷ [])) (fold_compare mentions_at_pred mentions_at_cond mentions_at_conj mentions_at_neg left op right) (fold_compare exprs_at_pred (λ c. c.first ++ joined c.rest) (λ c. c.first ++ joined c.rest) (λ n. n.pred) left op right) (λ m. (front P (mentioned left) (mentioned right) m, (back P (mentioned left) (mentioned right) m, tt))))
    (λ without value low high. claim_as P _ ((mentioned value ++ mentioned low) ++ mentioned high) _ (value ∷ (low ∷ (high ∷ []))) (fold_between mentions_at_pred mentions_at_cond mentions_at_conj mentions_at_neg without value low high) (fold_between exprs_at_pred (λ c. c.first ++ joined c.rest) (λ c. c.first ++ joined c.rest) (λ n. n.pred) without value low high) (λ m. let k = front P (mentioned value ++ mentioned low) (mentioned high) m in (front P (mentioned value) (mentioned low) k, (back P (mentioned value) (mentioned low) k, (back P (mentioned value ++ mentioned low) (mentioned high) m, tt)))))
    (λ without value list. claim_as P _ (mentioned value) _ (value ∷ []) (fold_among mentions_at_pred mentions_at_cond mentions_at_conj mentions_at_neg without value list) (fold_among exprs_at_pred (λ c. c.first ++ joined c.rest) (λ c. c.first ++ joined c.rest) (λ n. n.pred) without value list) (λ m. (m, tt)))
    (λ without value. claim_as P _ (mentioned value) _ (value ∷ []) (fold_null mentions_at_pred mentions_at_cond mentions_at_conj mentions_at_neg without value) (fold_null exprs_at_pred (λ c. c.first ++ joined c.rest) (λ c. c.first ++ joined c.rest) (λ n. n.pred) without value) (λ m. (m, tt)))
    (λ kind span args. claim_as P _ [] _ [] (fold_area mentions_at_pred mentions_at_cond mentions_at_conj mentions_at_neg kind span args) (fold_area exprs_at_pred (λ c. c.first ++ joined c.rest) (λ c. c.first ++ joined c.rest) (λ n. n.pred) kind span args) (λ m. tt))
    (λ left right strict n. claim_as P _ (Side left ∷ (Side right ∷ [])) _ [] (fold_chord mentions_at_pred mentions_at_cond mentions_at_conj mentions_at_neg left right strict n) (fold_chord exprs_at_pred (λ c. c.first ++ joined c.rest) (λ c. c.first ++ joined c.rest) (λ n. n.pred) left right strict n) (λ m. tt))
    (λ x h. claim_as P _ (pred_mentions x.pred) _ (pred_exprs x.pred) (fold-roll-Neg Mentions Mentions Mentions Mentions mentions_at_pred mentions_at_cond mentions_at_conj mentions_at_neg x) (fold-roll-Neg Exprs Exprs Exprs Exprs exprs_at_pred (λ c. c.first ++ joined c.rest) (λ c. c.first ++ joined c.rest) (λ n. n.pred) x) h)
    (λ x h k. claim_as P _ (neg_mentions x.first ++ joined (map neg_mentions x.rest)) _ (neg_exprs x.first ++ joined (map neg_exprs x.rest)) (fold-roll-Conj Mentions Mentions Mentions Mentions mentions_at_pred mentions_at_cond mentions_at_conj mentions_at_neg x) (fold-roll-Conj Exprs Exprs Exprs Exprs exprs_at_pred (λ c. c.first ++ joined c.rest) (λ c. c.first ++ joined c.rest) (λ n. n.pred) x) (layer P neg_mentions neg_exprs (neg_mentions x.first) (neg_exprs x.first) x.rest h k))
    (λ x h k. claim_as P _ (conj_mentions x.first ++ joined (map conj_mentions x.rest)) _ (conj_exprs x.first ++ joined (map conj_exprs x.rest)) (fold-roll-Cond Mentions Mentions Mentions Mentions mentions_at_pred mentions_at_cond mentions_at_conj mentions_at_neg x) (fold-roll-Cond Exprs Exprs Exprs Exprs exprs_at_pred (λ c. c.first ++ joined c.rest) (λ c. c.first ++ joined c.rest) (λ n. n.pred) x) (layer P conj_mentions conj_exprs (conj_mentions x.first) (conj_exprs x.first) x.rest h k))
