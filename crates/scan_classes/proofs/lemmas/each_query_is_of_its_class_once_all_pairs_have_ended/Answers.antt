use Rattle.std.proofs.Common.{◌∙◌}
use Rattle.scan_classes.specs.declared.class.Class.TheVariants.{Short, Long}
use Rattle.scan_classes.proofs.PairLemmas.{all_of_class}
use Rattle.scan_classes.proofs.lemmas.each_query_is_of_its_class_once_all_pairs_have_ended.Goals as goal

pub returns : goal.returns
returns g c Short = all_of_class Short c.args.first.now.short c.requires.first c.number-number.ensures.known.0 c.requires.ended.short (c.number-number.ensures.pair.keeps Short)
returns g c Long = all_of_class Long c.args.first.now.long (c.number-number.ensures.pair.number ∙ c.requires.first) c.number-number.ensures.known.1 c.requires.ended.long (c.number-number.ensures.pair.keeps Long)
