-- The part of that number is taken, or none.
use Rattle.std.proofs.Common.{rules, tests}
use Rattle.std.proofs.lemmas.Iterator.Consumers.{nth_from_yields_List}
use Rattle.std.proofs.lemmas.Iterator.Splits.{YieldsList-from_slice_split}
use Rattle.lines.proofs.Splitting.{is_blank, the_word}
use Rattle.lines.proofs.words.word.Goals as goal

pub returns : goal.returns
returns c =
    the_word c.args.line.now c.args.k _ _ (nth_from_yields_List _ _ _ c.nth.ensures.ran (YieldsList-from_slice_split _ is_blank c.args.line.now c.split.ensures.rest c.split.ensures.done c.split.ensures.closure (λ x b q k. search (rules, tests)))) c.unwrap_or_default.ensures
