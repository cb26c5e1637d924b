-- The parts between the blanks are counted.
use Rattle.std.proofs.Common.{rules, tests, length, sym, ap, ◌∙◌}
use Rattle.std.proofs.lemmas.Iterator.Consumers.{count_from_yields_List}
use Rattle.std.proofs.lemmas.Iterator.Splits.{YieldsList-from_slice_split}
use Rattle.lines.proofs.Splitting.{is_blank, words_split}
use Rattle.lines.proofs.words.count_words.Goals as goal

pub returns : goal.returns
returns c =
    count_from_yields_List c.split.result _ c.count.ensures.ran (YieldsList-from_slice_split _ is_blank c.args.line.now c.split.ensures.rest c.split.ensures.done c.split.ensures.closure (λ x b q k. search (rules, tests))) ∙
    ap length (sym (words_split c.args.line.now))
